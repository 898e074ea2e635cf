-- Tokens that pass the test of a record hold as many facts as it counts, and variables that a set may hold. Assumes nothing.
use mathlib.Core.Path.{◌≡◌, refl, ap}
use mathlib.Core.Bool.{Bool, true, false}
use mathlib.Core.List.{List, [], ◌∷◌}
use Prim.Native.Nat.{ℕ, zero, suc, ◌+◌, ◌≤◌}
use native.Mathlib.Omega.{arith}
use borrow.Author.Tests.{leb-true, ltb-true, eqb-true}
use lib.Dec.{eqb, leb, ltb}
use lib.ListN.{length, get_or, length-drop}
use Rattle.model.specs.Term.{both, distinct}
use Rattle.model.specs.Rule.{all_open, vars_of}
use Rattle.records.specs.Tokens.{terms}
use Rattle.records.specs.Symbols.{kind_of, arity_of}
use Rattle.records.specs.Rules.{in_term, good_tokens, tokens_of, decode_rule}
use Rattle.terms.specs.Facts.{base_open, hypotheses_open}
use Rattle.terms.specs.Vars.{held, held_of, all_held}
use Rattle.theory.specs.Basics.{both_true}
use Rattle.terms.proofs.Sets.{held_yes}
use Rattle.terms.specs.OpenLaws.{hyps_drop, hypotheses_open_lem}
use Rattle.terms.proofs.Decoded.{size_rule}
use Rattle.terms.proofs.Same.{kind_symbol}

chosen : (b c : Bool) → ◌≡◌ {A = Bool} (elim b [ true ↦ c | false ↦ false ]) true → (b ≡ true) × (c ≡ true)
chosen true c h = (refl, h)
chosen false c h = (cc, cc)

module _ (sy : List ℕ) (v : ℕ) where
  -- What a good token leaves to be read.
  head_good : (n t : ℕ) (ts : List ℕ) → good_tokens sy v 0 (suc n) (t ∷ ts) ≡ true → (eqb (kind_of sy t) 1 ≡ true) × (good_tokens sy v (arity_of sy t) n ts ≡ true)
  unfolding good_tokens
  head_good n t ts h = chosen (eqb (kind_of sy t) 1) (good_tokens sy v (arity_of sy t) n ts) h

  inner_good : (m n t : ℕ) (ts : List ℕ) → good_tokens sy v (suc m) n (t ∷ ts) ≡ true → (in_term sy v t ≡ true) × (good_tokens sy v (m + arity_of sy t) n ts ≡ true)
  unfolding good_tokens
  inner_good m n t ts h = chosen (in_term sy v t) (good_tokens sy v (m + arity_of sy t) n ts) h

  pub good_count : (m n : ℕ) (ts : List ℕ) → good_tokens sy v m n ts ≡ true → length (terms (arity_of sy) ts) ≡ m + n
  unfolding good_tokens terms
  good_count zero zero [] h = refl
  good_count zero zero (t ∷ ts) h = let z : ◌≡◌ {A = ℕ} 0 1 = cc in absurd (omega arith)
  good_count zero (suc n) [] h = let z : ◌≡◌ {A = ℕ} 0 1 = cc in absurd (omega arith)
  good_count zero (suc n) (t ∷ ts) h =
      let r = good_count (arity_of sy t) n ts (head_good n t ts h).1 in
      omega (arith, r, length-drop (arity_of sy t) (terms (arity_of sy) ts))
  good_count (suc m) n [] h = let z : ◌≡◌ {A = ℕ} 0 1 = cc in absurd (omega arith)
  good_count (suc m) n (t ∷ ts) h =
      let r = good_count (m + arity_of sy t) n ts (inner_good m n t ts h).1 in
      omega (arith, r, length-drop (arity_of sy t) (terms (arity_of sy) ts))

  held_next : (t : ℕ) (ts : List ℕ) → (ltb t 64 ≡ true → held t ≡ true) → all_held ts ≡ true → all_held (t ∷ ts) ≡ true
  unfolding all_held both
  held_next t ts f h = go (ltb t 64) refl
    where
      go : (b : Bool) → ltb t 64 ≡ b → all_held (t ∷ ts) ≡ true
      go true e = rw (e, all_held, f e) h
      go false e = rw (e, all_held) h

  -- A predicate is no variable, and a variable inside a fact is from 1 to v.
  head_held : (t : ℕ) → eqb (kind_of sy t) 1 ≡ true → ltb t 64 ≡ true → held t ≡ true
  head_held t k e = absurd (omega (arith, kind_symbol sy t (omega (arith, eqb-true (kind_of sy t) 1 k)), ltb-true t 64 e))

  inner_held : v ≤ 32 → (t : ℕ) → in_term sy v t ≡ true → ltb t 64 ≡ true → held t ≡ true
  unfolding in_term
  inner_held l t k e =
      let p = both_true (leb 1 t) (leb t v) (rw (e, in_term) at k) in
      held_yes t (leb-true 1 t p.0) (omega (arith, leb-true t v p.1))

  pub good_held : v ≤ 32 → (m n : ℕ) (ts : List ℕ) → good_tokens sy v m n ts ≡ true → all_held ts ≡ true
  unfolding good_tokens all_held
  good_held l zero zero [] h = refl
  good_held l zero zero (t ∷ ts) h = cc
  good_held l zero (suc n) [] h = cc
  good_held l zero (suc n) (t ∷ ts) h = let p = head_good n t ts h in held_next t ts (head_held t p.0) (good_held l (arity_of sy t) n ts p.1)
  good_held l (suc m) n [] h = cc
  good_held l (suc m) n (t ∷ ts) h =
      let p = inner_good m n t ts h in
      held_next t ts (inner_held l t p.0) (good_held l (m + arity_of sy t) n ts p.1)

  -- So a record whose tokens are a conclusion and its count of hypotheses holds a rule with that many, which are open if and only if its facts are.
  module _ (rec : List ℕ) (good : good_tokens sy v 0 (suc (get_or rec 0 0)) (tokens_of rec) ≡ true) where
    pub hypotheses_count : length (decode_rule sy rec).hyps ≡ get_or rec 0 0
    unfolding decode_rule
    hypotheses_count =
        let ts = terms (arity_of sy) (tokens_of rec) in
        omega (arith, ap length (hyps_drop ts), length-drop 1 ts, good_count 0 (suc (get_or rec 0 0)) (tokens_of rec) good)

    pub hypotheses_good : hypotheses_open sy rec ≡ all_open (base_open sy) (decode_rule sy rec).hyps
    hypotheses_good = hypotheses_open_lem sy rec hypotheses_count

    pub size_good : v ≤ 32 → length (distinct [] (held_of (tokens_of rec))) ≡ length (vars_of (decode_rule sy rec))
    size_good l = size_rule sy rec (good_held l 0 (suc (get_or rec 0 0)) (tokens_of rec) good)
