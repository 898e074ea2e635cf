-- Laws of the symbol table that the functions' proofs cite. Assumes nothing.
use mathlib.Core.Path.{◌≡◌, refl, sym, ◌∙◌}
use mathlib.Core.Bool.{Bool, true, false}
use mathlib.Core.Option.{none, some}
use mathlib.Core.List.{List, ◌++◌}
use Prim.Native.Nat.{ℕ, zero, suc, ◌+◌, ◌*◌, ◌/◌, ◌<◌}
use native.Mathlib.Numerals.{add-one}
use native.Mathlib.Omega.{arith}
use borrow.Author.Tests.{eq-eqb, ne_eqb, le-leb, lt-leb}
use lib.Dec.{eqb}
use lib.ListN.{length, take, drop, drop_of_length-le}
use lib.Pointwise.{pointwise}
use Rattle.std.proofs.lemmas.List.{drop_more, length-append}
use Rattle.records.proofs.Laws.{same_bytes_is, chunk_drop, chunk_byte, chunk_count, chunk_none, chunk_part}
use Rattle.records.specs.Symbols.{same_bytes, name_new, symbol_good, first_bad_symbol}

-- The parts of a name.
pub ruleset names = (drop_more, drop_of_length-le, eq-eqb, ne_eqb, le-leb, lt-leb)

-- ---- a table that begins with the record `rec`
module _ (rec rest : List ℕ) (e : length rec ≡ 16) where
  module _ (name : List ℕ) (n : ℕ) where
    abbrev same : Bool
    same = pointwise eqb (take 14 (drop 2 rec)) name

    is_name : same_bytes (take 14 (drop 2 (rec ++ rest))) name ≡ same
    is_name = rw (chunk_part 16 rec rest e 2 14 (omega arith)) (sym (same_bytes_is (take 14 (drop 2 rec)) name))

    pub name_old : same ≡ true → name_new name (n + 1) (rec ++ rest) ≡ false
    unfolding name_new
    name_old h = let f : same_bytes (take 14 (drop 2 (rec ++ rest))) name ≡ true = is_name ∙ h in rw (add-one n, name_new, f)

    pub name_next : same ≡ false → name_new name (n + 1) (rec ++ rest) ≡ name_new name n rest
    unfolding name_new
    name_next h = let f : same_bytes (take 14 (drop 2 (rec ++ rest))) name ≡ false = is_name ∙ h in rw (add-one n, name_new, f, name_new, chunk_drop 16 rec rest e)

  module _ (sy : List ℕ) (i : ℕ) where
    -- A record is judged by its own bytes.
    own_bytes : symbol_good sy i (rec ++ rest) ≡ symbol_good sy i rec
    unfolding symbol_good
    own_bytes = rw (chunk_byte 16 rec rest e 0 (omega arith), chunk_byte 16 rec rest e 1 (omega arith), chunk_part 16 rec rest e 2 14 (omega arith))

    pub symbol_bad : symbol_good sy i rec ≡ false → first_bad_symbol sy (length (rec ++ rest) / 16) i (rec ++ rest) ≡ some i
    unfolding first_bad_symbol
    symbol_bad g = let f : symbol_good sy i (rec ++ rest) ≡ false = own_bytes ∙ g in rw (chunk_count 16 rec rest e (omega arith), f, first_bad_symbol)

    pub symbol_fine : symbol_good sy i rec ≡ true → first_bad_symbol sy (length (rec ++ rest) / 16) i (rec ++ rest) ≡ first_bad_symbol sy (length rest / 16) (i + 1) rest
    unfolding first_bad_symbol
    symbol_fine g = let f : symbol_good sy i (rec ++ rest) ≡ true = own_bytes ∙ g in rw (chunk_count 16 rec rest e (omega arith), f, first_bad_symbol, chunk_drop 16 rec rest e, add-one)

pub name_none : (name l : List ℕ) (n : ℕ) → 16 * n < 16 → name_new name n l ≡ true
unfolding name_new
name_none name l zero h = refl
name_none name l (suc n) h = absurd (omega arith)

pub symbol_none : (sy rest : List ℕ) (i : ℕ) → length rest < 16 → first_bad_symbol sy (length rest / 16) i rest ≡ none
unfolding first_bad_symbol
symbol_none sy rest i k = rw (chunk_none 16 rest k)

pub ruleset steps = (length-append, name_old, name_next, name_none, symbol_bad, symbol_fine, symbol_none)
