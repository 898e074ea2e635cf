-- Laws of rule records that the functions' proofs cite. Assumes nothing.
use mathlib.Core.Path.{◌≡◌, refl}
use native.Mathlib.Numerals.{add-one}
use mathlib.Core.Bool.{true, false}
use mathlib.Core.Option.{none, some}
use mathlib.Core.List.{List, [], ◌∷◌, ◌++◌}
use Prim.Native.Nat.{ℕ, zero, suc, ◌+◌, ◌-◌, ◌/◌, ◌≤◌, ◌<◌}
use native.Mathlib.Omega.{arith}
use borrow.Author.Tests.{eq-eqb, ne_eqb, le-ltb}
use lib.ListN.{length, take, drop, length-drop, drop_of_length-le}
use Rattle.std.proofs.lemmas.List.{drop_more}
use Rattle.records.proofs.Laws.{chunk_take, chunk_drop, chunk_count, chunk_none}
use Rattle.records.specs.Symbols.{kind_of, arity_of, is_function}
use Rattle.records.specs.Rules.{in_term, good_tokens, rule_good, first_bad_rule}

-- ---- may the symbol t stand inside a term
pub in_symbol : (sy : List ℕ) (v t : ℕ) → 64 ≤ t → is_function (kind_of sy t) ≡ in_term sy v t
unfolding in_term
in_symbol sy v t h = rw (le-ltb t 64 h, in_term)

-- ---- the tokens from place i on, where the fact being read wants m terms and n facts come after it
-- More terms are wanted than there are tokens.
module _ (sy : List ℕ) (v : ℕ) where
  short : (l : List ℕ) (m n : ℕ) → length l < m → good_tokens sy v m n l ≡ false
  unfolding good_tokens
  short [] zero n h = absurd (omega arith)
  short [] (suc m) n h = refl
  short (t ∷ ts) zero n h = absurd (omega arith)
  short (t ∷ ts) (suc m) n h =
      elim (in_term sy v t) as (λ x. elim x [ true ↦ good_tokens sy v (m + arity_of sy t) n ts | false ↦ false ] ≡ false) [
        | true ↦ short ts (m + arity_of sy t) n (omega arith)
        | false ↦ refl
      ]

  pub terms_short : (s : List ℕ) (i m n : ℕ) → length s - i < m → good_tokens sy v m n (drop i s) ≡ false
  terms_short s i m n h = short (drop i s) m n (omega (arith, length-drop i s))

pub ruleset tokens = (drop_more, drop_of_length-le, eq-eqb, ne_eqb)

-- ---- a table that begins with the record `rec`, which has number i
module _ (sy : List ℕ) (h T v : ℕ) (rec rest : List ℕ) (i : ℕ) (e : length rec ≡ T + 8) where
  pub rule_bad : rule_good sy h T v rec ≡ false → first_bad_rule sy h T v (length (rec ++ rest) / (T + 8)) i (rec ++ rest) ≡ some i
  unfolding first_bad_rule
  rule_bad g = rw (chunk_count (T + 8) rec rest e (omega arith), chunk_take (T + 8) rec rest e, g, first_bad_rule)

  pub rule_fine : rule_good sy h T v rec ≡ true → first_bad_rule sy h T v (length (rec ++ rest) / (T + 8)) i (rec ++ rest) ≡ first_bad_rule sy h T v (length rest / (T + 8)) (i + 1) rest
  unfolding first_bad_rule
  rule_fine g = rw (chunk_count (T + 8) rec rest e (omega arith), chunk_take (T + 8) rec rest e, g, first_bad_rule, chunk_drop (T + 8) rec rest e, add-one)

pub rule_none : (sy : List ℕ) (h T v : ℕ) (rest : List ℕ) (i : ℕ) → length rest < T + 8 → first_bad_rule sy h T v (length rest / (T + 8)) i rest ≡ none
unfolding first_bad_rule
rule_none sy h T v rest i k = rw (chunk_none (T + 8) rest k)

pub ruleset records = (rule_bad, rule_fine, rule_none)
