-- The facts of a record's tokens one after another, and matching one of them against a fact of a text. Assumes nothing.
use Rattle.std.specs.Prelude.{ℕ, suc, ◌+◌, false, ◌≡◌, length}
use Rattle.std.proofs.Common.{arith, add-zero, ◌∙◌, subst, sym, drop_at}
use Rattle.std.proofs.Math.Bool.{Bool, true}
use Rattle.std.proofs.Math.Option.{Option, none, some}
use mathlib.Core.List.{List, [], ◌∷◌, ◌++◌, append_assoc}
use Rattle.std.proofs.Math.Path.{refl, ap, ap₂}
use Rattle.std.proofs.Math.ListN.{take, drop, length-replicate, get_or-replicate}
use Rattle.model.specs.Term.{Term, size, Bindings}
use Rattle.model.specs.Rule.{lookup, match, size_all}
use Rattle.model.specs.Sign.{Signature, is_fact, are_facts}
use Rattle.theory.specs.Basics.{both_true, true_both}
use Rattle.theory.specs.Mend.{is_fact_wants}
use Rattle.theory.specs.Tables.{length_snoc}
use Rattle.records.specs.Tokens.{leaves, leaves_all, span}
use Rattle.records.specs.TokenLaws.{Agrees, EachVar, EachVars, Small, leaves_all_append, length_leaves_all, take_leaves, span_zero, span_fact_leaves, span_fact}
use Rattle.terms.specs.Facts.{fact_at}
use Rattle.matching.specs.Match.{matched, onward, unbound}
use Rattle.matching.specs.MatchLaws.{Spine, Means, Result, At, spine_ok, fact_whole}

-- ---- facts one after another
module _ (ar : ℕ → ℕ) (S : Signature) (agrees : Agrees ar S) where
  pub are_snoc : (a : List Term) (h : Term) → are_facts S a ≡ true → is_fact S h ≡ true → are_facts S (a ++ (h ∷ [])) ≡ true
  unfolding are_facts
  are_snoc [] h w e = true_both (is_fact S h) true e refl
  are_snoc (t ∷ a) h w e = let z = both_true (is_fact S t) (are_facts S a) w in true_both (is_fact S t) (are_facts S (a ++ (h ∷ []))) z.0 (are_snoc a h z.1 e)

  pub vars_snoc : (a : List Term) (h : Term) → EachVars Small a → EachVar Small h → EachVars Small (a ++ (h ∷ []))
  vars_snoc [] h v k = (k, tt)
  vars_snoc (t ∷ a) h v k = (v.0, vars_snoc a h v.1 k)

  pub span_facts : (a l : List Term) → are_facts S a ≡ true → EachVars Small a → span ar (length a) (leaves_all (a ++ l)) ≡ size_all a
  unfolding are_facts leaves_all size_all
  span_facts [] l w v = span_zero ar (leaves_all l)
  span_facts (t ∷ a) l w v =
      let z = both_true (is_fact S t) (are_facts S a) w in
      span_fact_leaves ar S agrees t 0 (length a) (leaves_all (a ++ l)) (is_fact_wants S t z.0) v.0
      ∙ ap (size t +◌) (ap (λ (k : ℕ). span ar k (leaves_all (a ++ l))) (add-zero (length a)) ∙ span_facts a l z.1 v.1)

  pub drop_facts : (a l : List Term) → drop (size_all a) (leaves_all (a ++ l)) ≡ leaves_all l
  drop_facts a l = ap (drop (size_all a)) (leaves_all_append a l) ∙ drop_at (leaves_all a) (leaves_all l) (size_all a) (length_leaves_all a)

  pub at_fact : {ts : List ℕ} (a : List Term) (h : Term) (l : List Term) → are_facts S a ≡ true → EachVars Small a → is_fact S h ≡ true → EachVar Small h → ts ≡ leaves_all (a ++ (h ∷ l)) → fact_at ar (length a) ts ≡ leaves h []
  unfolding fact_at leaves_all
  at_fact {ts} a h l w v e k q =
      let z : drop (span ar (length a) ts) ts ≡ leaves h (leaves_all l) =
      ap₂ (λ (m : ℕ) (u : List ℕ). drop m u) (ap (span ar (length a)) q ∙ span_facts a (h ∷ l) w v) q ∙ drop_facts a (h ∷ l) in
      ap (λ (u : List ℕ). take (span ar 1 u) u) z
      ∙ ap (λ (m : ℕ). take m (leaves h (leaves_all l))) (span_fact ar S agrees h (leaves_all l) e k)
      ∙ take_leaves h (leaves_all l)

-- the facts that stand in the tokens rt from fact k on are hs
pub data Facts (ar : ℕ → ℕ) (S : Signature) (agrees : Agrees ar S) (rt : List ℕ) : ℕ → List Term → Type 0 where
  fnone : {k : ℕ} → Facts ar S agrees rt k []
  fmore : {k : ℕ} {h : Term} {hs : List Term} → fact_at ar k rt ≡ leaves h [] → Spine ar S agrees 0 h → Facts ar S agrees rt (suc k) hs → Facts ar S agrees rt k (h ∷ hs)

module _ (ar : ℕ → ℕ) (S : Signature) (agrees : Agrees ar S) (rt : List ℕ) where
  -- the facts of a rule from its tokens, where those of a stand before those of l
  facts_from_lem : (a l : List Term) → are_facts S a ≡ true → EachVars Small a → are_facts S l ≡ true → EachVars Small l → rt ≡ leaves_all (a ++ l) → Facts ar S agrees rt (length a) l
  unfolding are_facts
  facts_from_lem a [] wa va wl vl e = fnone
  facts_from_lem a (h ∷ l) wa va wl vl e =
      let w = both_true (is_fact S h) (are_facts S l) wl in
      let g : rt ≡ leaves_all ((a ++ (h ∷ [])) ++ l) = e ∙ ap leaves_all (sym (append_assoc a (h ∷ []) l)) in
      fmore (at_fact ar S agrees a h l wa va w.0 vl.0 e) (fact_whole ar S agrees h w.0 vl.0)
      (subst (λ (n : ℕ). Facts ar S agrees rt n l) (length_snoc a h) (facts_from_lem (a ++ (h ∷ [])) l (are_snoc ar S agrees a h wa w.0) (vars_snoc ar S agrees a h va vl.0) w.1 vl.1 g))

  pub facts_of : (l : List Term) → are_facts S l ≡ true → EachVars Small l → rt ≡ leaves_all l → Facts ar S agrees rt 0 l
  unfolding are_facts
  facts_of l w v e = facts_from_lem [] l refl tt w v e

module _ (ar : ℕ → ℕ) (S : Signature) (agrees : Agrees ar S) (st : List ℕ) where
  -- at first no variable is bound
  pub unbound_means : Means ar S agrees st unbound []
  unfolding lookup
  unbound_means =
      record {
        room = length-replicate {A = ℕ} 64 0;
        free = λ x l e. refl;
        held = λ x s l e. absurd (omega (arith, get_or-replicate {A = ℕ} 64 x 0 0 l));
      }

  -- a match that succeeded, and what comes after it
  pub fact_ok :
      (h f : Term) (p : ℕ) (b : List ℕ) (β : Bindings) → Means ar S agrees st b β → At ar S agrees st p f → Spine ar S agrees 0 h → Spine ar S agrees 0 f → (pat : List ℕ) → pat ≡ leaves h []
      → (k : List ℕ → Bool) (z : Option Bindings → Bool) → z none ≡ false → ((b' : List ℕ) (β' : Bindings) → Means ar S agrees st b' β' → k b' ≡ z (some β'))
      → onward (matched ar pat st p b) k ≡ z (match h f β)
  unfolding onward matched
  fact_ok h f p b β M a sh sf pat e k z z0 rec =
      ap (λ (l : List ℕ). onward (matched ar l st p b) k) e ∙ go (match h f β) (spine_ok ar S agrees st sh sf [] p b β M a)
    where
      go : (o : Option Bindings) → Result ar S agrees st h f [] p b o → onward (matched ar (leaves h []) st p b) k ≡ z o
      go none r = rw (r, onward) (sym z0)
      go (some β') r = ap (λ (m : Bool × List ℕ). onward m k) r.2 ∙ rec r.0 β' r.1
