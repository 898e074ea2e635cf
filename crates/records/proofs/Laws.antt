-- Laws on lists of bytes that the functions' proofs cite: a turn of each loop, and its end. Assumes nothing.
use mathlib.Core.Path.{◌≡◌, refl, ap, ◌∙◌}
use mathlib.Core.Bool.{true, false}
use mathlib.Core.List.{List, [], ◌∷◌, ◌++◌}
use Prim.Native.Nat.{ℕ, suc, ◌+◌, ◌-◌, ◌*◌, ◌/◌, ◌%◌, ◌≤◌, ◌<◌}
use native.Mathlib.Omega.{arith}
use borrow.Author.Tests.{eq-eqb, ne_eqb, not-true, not-false}
use lib.Dec.{eqb}
use lib.ListN.{length, take, drop, get_or, length-drop, drop_of_length-le}
use native.Mathlib.Nat.{suc-mul, mod-lt}
use Rattle.std.proofs.Math.Nat.{div-eq_of_lt}
use Rattle.std.proofs.lemmas.Nat.{div-add-mod', div-mul-add}
use Rattle.std.proofs.lemmas.List.{drop_more, take_at, drop_at, get_or_append_left, length-append}
use lib.Seq.{take-append-le, drop-append-le}
use lib.Pointwise.{pointwise}
use Rattle.std.specs.Prelude.{◌&&◌}
use Rattle.records.specs.Symbols.{same_bytes}

-- ---- what is left of n after i, as a loop counts it
pub less : (n i : ℕ) → i < n → n - i ≡ suc (n - (i + 1))
less n i h = omega arith

-- ---- a list from a place on: its first byte and what is behind it, or nothing
pub ruleset walk = (drop_more, drop_of_length-le, eq-eqb, ne_eqb)

-- ---- the equality of slices is the definition
pub same_bytes_is : (a b : List ℕ) → pointwise eqb a b ≡ same_bytes a b
unfolding same_bytes
same_bytes_is [] [] = refl
same_bytes_is [] (c ∷ m) = refl
same_bytes_is (b ∷ l) [] = refl
same_bytes_is (b ∷ l) (c ∷ m) = elim (eqb b c) as (λ x. (x && pointwise eqb l m) ≡ elim x [ true ↦ same_bytes l m | false ↦ false ]) [ true ↦ same_bytes_is l m | false ↦ refl ]

-- ---- a list that begins with a record of s bytes
module _ (s : ℕ) (rec rest : List ℕ) (e : length rec ≡ s) where
  pub chunk_take : take s (rec ++ rest) ≡ rec
  chunk_take = take_at rec rest s e

  pub chunk_drop : drop s (rec ++ rest) ≡ rest
  chunk_drop = drop_at rec rest s e

  pub chunk_byte : (i : ℕ) → i < s → get_or (rec ++ rest) i 0 ≡ get_or rec i 0
  chunk_byte i h = get_or_append_left rec rest 0 i (omega arith)

  pub chunk_part : (i n : ℕ) → i + n ≤ s → take n (drop i (rec ++ rest)) ≡ take n (drop i rec)
  chunk_part i n h = rw (drop-append-le i rec rest (omega arith)) (take-append-le n (drop i rec) rest (omega (arith, length-drop i rec)))

  pub chunk_count : 0 < s → length (rec ++ rest) / s ≡ suc (length rest / s)
  chunk_count h =
      let m = length rest in
      let n : length (rec ++ rest) ≡ suc (m / s) * s + m % s = omega (arith, length-append rec rest, suc-mul (m / s) s, div-add-mod' m s) in
      ap (λ (k : ℕ). k / s) n ∙ div-mul-add (suc (m / s)) s (m % s) (mod-lt m h)

-- Fewer bytes than a record are none.
pub chunk_none : (s : ℕ) (rest : List ℕ) → length rest < s → length rest / s ≡ 0
chunk_none s rest h = div-eq_of_lt h
