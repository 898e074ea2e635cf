-- What spans, facts and open facts of a list of tokens say of the terms that it holds. Assumes nothing.
use Rattle.std.specs.Prelude.{◌≡◌, Bool, take, drop, get_or}
use Rattle.std.proofs.Math.Path.{refl, ap}
use Rattle.std.proofs.Common.{sym, ◌∙◌, arith, drop-drop, take_all}
use Rattle.std.proofs.Math.Bool.{true, false}
use Rattle.std.proofs.Math.Option.{some}
use mathlib.Core.List.{List, [], ◌∷◌}
use Prim.Native.Nat.{ℕ, zero, suc, ◌+◌, ◌≤◌, ◌<◌}
use borrow.Author.Tests.{lt-ltb, ltb-true, ltb-false}
use Rattle.std.proofs.Math.Dec.{ltb}
use Rattle.std.proofs.Math.ListN.{length}
use Rattle.std.proofs.Math.Seq.{take-nil, drop-nil}
use Rattle.model.specs.Term.{Term, var, con, ◌·◌, both}
use Rattle.model.specs.Rule.{is_open, all_open, nth}
use Rattle.model.specs.Verify.{base}
use Rattle.records.specs.Tokens.{leaves, leaves_all, leaf, applied, terms, span, rule_of}
use Rattle.records.specs.TokenLaws.{leaf_var, leaf_con, leaves_terms, terms_take, terms_drop}
use Rattle.records.specs.Symbols.{arity_of}
use Rattle.records.specs.Rules.{tokens_of, decode_rule}
use Rattle.terms.specs.Facts.{fact_at, hypothesis_of, open_bytes, base_open, all_open_bytes, hypotheses_open}

-- A variable has no arguments.
pub arity_variable : (sy : List ℕ) (t : ℕ) → t < 64 → arity_of sy t ≡ 0
unfolding arity_of
arity_variable sy t h = rw (lt-ltb _ _ h, arity_of)

pub leaves_term : (ar : ℕ → ℕ) (ts : List ℕ) (t : Term) → terms ar ts ≡ t ∷ [] → ts ≡ leaves t []
unfolding leaves_all
leaves_term ar ts t h = sym (leaves_terms ar ts) ∙ ap leaves_all h

-- ---- facts
-- Fact n holds term n.
pub fact_terms : (ar : ℕ → ℕ) (n : ℕ) (ts : List ℕ) → terms ar (fact_at ar n ts) ≡ take 1 (drop n (terms ar ts))
unfolding fact_at
fact_terms ar n ts = terms_take ar 1 (drop (span ar n ts) ts) ∙ ap (take 1) (terms_drop ar n ts)

nth_take : (l : List Term) (n : ℕ) (t : Term) → nth l n ≡ some t → take 1 (drop n l) ≡ t ∷ []
unfolding nth
nth_take [] n t h = cc
nth_take (u ∷ l) zero t h = cc
nth_take (u ∷ l) (suc n) t h = nth_take l n t h

pub fact_nth : (ar : ℕ → ℕ) (ts : List ℕ) (n : ℕ) (t : Term) → nth (terms ar ts) n ≡ some t → terms ar (fact_at ar n ts) ≡ t ∷ []
fact_nth ar ts n t h = fact_terms ar n ts ∙ nth_take (terms ar ts) n t h

pub hyps_drop : (l : List Term) → (rule_of l).hyps ≡ drop 1 l
unfolding rule_of
hyps_drop [] = refl
hyps_drop (c ∷ hs) = refl

-- Hypothesis n of a record holds hypothesis n of the rule that the record holds.
pub hypothesis_nth : (sy rec : List ℕ) (n : ℕ) (t : Term) → nth (decode_rule sy rec).hyps n ≡ some t → terms (arity_of sy) (hypothesis_of sy rec n) ≡ t ∷ []
unfolding decode_rule hypothesis_of
hypothesis_nth sy rec n t h =
    let ts = terms (arity_of sy) (tokens_of rec) in
    let e : suc n ≡ 1 + n = omega arith in
    fact_terms (arity_of sy) (suc n) (tokens_of rec) ∙ ap (λ (k : ℕ). take 1 (drop k ts)) e ∙ ap (take 1) (sym (drop-drop n 1 ts)) ∙ nth_take (drop 1 ts) n t (rw (hyps_drop ts) at h)

-- ---- open facts
pub open_long : (o : ℕ → Bool) (f : List ℕ) → (length f ≡ 2 → ⊥) → open_bytes o f ≡ false
unfolding open_bytes
open_long o [] h = refl
open_long o (p ∷ []) h = refl
open_long o (p ∷ x ∷ []) h = absurd (h refl)
open_long o (p ∷ x ∷ y ∷ f) h = refl

module _ (o : ℕ → Bool) where
  not_two : (t : Term) → (length (leaves t []) ≡ 2 → ⊥) → is_open o t ≡ false
  unfolding is_open leaves
  not_two (var x) h = refl
  not_two (con f) h = refl
  not_two (var y · t) h = refl
  not_two (con p · var x) h = absurd (h refl)
  not_two (con p · con g) h = refl
  not_two (con p · (a · b)) h = refl
  not_two (a · b · t) h = refl

  two : (p x : ℕ) → open_bytes o (p ∷ x ∷ []) ≡ is_open o (con p · leaf x)
  unfolding open_bytes is_open both
  two p x = go (ltb x 64) refl (o p) refl
    where
      go : (b : Bool) → ltb x 64 ≡ b → (d : Bool) → o p ≡ d → both (o p) (ltb x 64) ≡ is_open o (con p · leaf x)
      go true e true h = rw (e, h, leaf_var x (ltb-true x 64 e), h)
      go true e false h = rw (e, h, leaf_var x (ltb-true x 64 e), h)
      go false e true h = rw (e, h, leaf_con x (ltb-false x 64 e))
      go false e false h = rw (e, h, leaf_con x (ltb-false x 64 e))

  module _ (ar : ℕ → ℕ) (lone : (t : ℕ) → t < 64 → ar t ≡ 0) where
    last_token : (x : ℕ) → terms ar (x ∷ []) ≡ leaf x ∷ []
    unfolding terms applied
    last_token x = rw (take-nil (ar x), drop-nil (ar x))

    two_terms : (p x n : ℕ) (t : Term) → ar p ≡ n → terms ar (p ∷ x ∷ []) ≡ t ∷ [] → open_bytes o (p ∷ x ∷ []) ≡ is_open o t
    unfolding terms applied
    two_terms p x zero t e h =
        let k : leaf p ∷ leaf x ∷ [] ≡ t ∷ [] = rw (last_token x, e) at h in
        cc
    two_terms p x (suc n) t e h =
        let k : leaf p · leaf x ∷ [] ≡ t ∷ [] = rw (last_token x, e, take-nil n, drop-nil n) at h in
        let s : 64 ≤ p = ltb-false p 64 (symbol (ltb p 64) refl) in
        let q : leaf p · leaf x ≡ t = cc in
        rw (← q, leaf_con p s) (two p x)
      where
        symbol : (b : Bool) → ltb p 64 ≡ b → b ≡ false
        symbol true g = let z = lone p (ltb-true p 64 g) in absurd (omega arith)
        symbol false g = refl

    other : (ts : List ℕ) (t : Term) → (length ts ≡ 2 → ⊥) → terms ar ts ≡ t ∷ [] → open_bytes o ts ≡ is_open o t
    other ts t n h = open_long o ts n ∙ sym (not_two t (λ e. n (ap length (leaves_term ar ts t h) ∙ e)))

    -- A fact that the tokens hold is open if and only if the tokens are.
    pub open_terms : (ts : List ℕ) (t : Term) → terms ar ts ≡ t ∷ [] → open_bytes o ts ≡ is_open o t
    open_terms [] t h = other [] t (λ e. omega arith) h
    open_terms (p ∷ []) t h = other (p ∷ []) t (λ e. omega arith) h
    open_terms (p ∷ x ∷ []) t h = two_terms p x (ar p) t refl h
    open_terms (p ∷ x ∷ y ∷ ts) t h = other (p ∷ x ∷ y ∷ ts) t (λ e. omega arith) h

    all_cons : (t : Term) (l : List Term) → all_open o (t ∷ l) ≡ both (is_open o t) (all_open o l)
    unfolding all_open both
    all_cons t l = go (is_open o t) refl
      where
        go : (b : Bool) → is_open o t ≡ b → all_open o (t ∷ l) ≡ both (is_open o t) (all_open o l)
        go true e = rw (e, all_open)
        go false e = rw (e, all_open)

    -- So are the first n facts, where the tokens hold as many.
    pub all_open_terms : (n : ℕ) (ts : List ℕ) → n ≤ length (terms ar ts) → all_open_bytes o ar n ts ≡ all_open o (take n (terms ar ts))
    unfolding all_open_bytes all_open
    all_open_terms zero ts h = refl
    all_open_terms (suc n) ts h = go (all_open_terms n (drop (span ar 1 ts) ts)) (terms ar ts) refl
      where
        go : (n ≤ length (terms ar (drop (span ar 1 ts) ts)) → all_open_bytes o ar n (drop (span ar 1 ts) ts) ≡ all_open o (take n (terms ar (drop (span ar 1 ts) ts))))
            → (l : List Term) → terms ar ts ≡ l → all_open_bytes o ar (suc n) ts ≡ all_open o (take (suc n) l)
        go ih [] e = absurd (omega (arith, ap length e))
        go ih (t ∷ l) e =
            let f : terms ar (take (span ar 1 ts) ts) ≡ t ∷ [] = terms_take ar 1 ts ∙ ap (take 1) e in
            let r : terms ar (drop (span ar 1 ts) ts) ≡ l = terms_drop ar 1 ts ∙ ap (drop 1) e in
            let i = rw r at (ih (omega (arith, ap length e, ap length r))) in
            rw (open_terms (take (span ar 1 ts) ts) t f, i) (sym (all_cons t (take n l)))

-- All hypotheses of a record are open if and only if those of the rule that it holds are.
pub hypotheses_open_lem : (sy rec : List ℕ) → length (decode_rule sy rec).hyps ≡ get_or rec 0 0 → hypotheses_open sy rec ≡ all_open (base_open sy) (decode_rule sy rec).hyps
unfolding decode_rule hypotheses_open
hypotheses_open_lem sy rec h =
    let ar = arity_of sy in
    let ts = tokens_of rec in
    let e : terms ar (drop (span ar 1 ts) ts) ≡ (rule_of (terms ar ts)).hyps = terms_drop ar 1 ts ∙ sym (hyps_drop (terms ar ts)) in
    all_open_terms (base_open sy) ar (arity_variable sy) (get_or rec 0 0) (drop (span ar 1 ts) ts) (omega (arith, ap length e))
    ∙ ap (λ (l : List Term). all_open (base_open sy) (take (get_or rec 0 0) l)) e ∙ ap (all_open (base_open sy)) (take_all (get_or rec 0 0) (rule_of (terms ar ts)).hyps (omega arith))

-- The open predicates are those of the base.
pub base_opens : (sy : List ℕ) (r g s : ℕ) → (base r g s).opens ≡ base_open sy
unfolding base base_open
base_opens sy r g s = refl
