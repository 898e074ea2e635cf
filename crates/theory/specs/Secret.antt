-- A run that answers secret is right: no derivation of any size from the input rules concludes the query. Assumes nothing.
use Rattle.std.specs.Prelude.{ℕ, Bool, true, false, ◌≡◌, refl, ◌⊎◌}
use Rattle.std.proofs.Common.{arith, ap, ◌∙◌, subst, sym}
use Rattle.std.proofs.Math.Option.{Option, none, some}
use mathlib.Core.List.{List, [], ◌∷◌}
use Rattle.std.proofs.Math.Logic.{inl, inr}
use Rattle.model.specs.Term.{Term}
use Rattle.model.specs.Rule.{Rule, normal, nth, is_open, all_open, combine}
use Rattle.model.specs.Table.{Origin, Rec, rec_at, Table, nothing, retire1, retire, added, found, lack, Progress, going, stopped}
use Rattle.model.specs.Run.{Setting, load, shut, complete, goal0, search}
use Rattle.model.specs.Write.{Step}
use Rattle.model.specs.Verify.{secret, answer_of, written, searched, completed, first_phase, run}
use Rattle.model.specs.Derive.{Closed, Input, Derives, Harmless}
use Rattle.theory.specs.Basics.{true≢false, no_confusion}
use Rattle.theory.specs.Embed.{implies_trans}
use Rattle.theory.specs.Combine.{normal_implies}
use Rattle.theory.specs.Forest.{Forest, to_forest, harmless_forest, Safe, By, Open, Small, phase0, phase1, phase2}
use Rattle.theory.specs.Sound.{ValidBy, valid_by, input_valid, normal_valid, combine_valid}
use Rattle.theory.specs.Tables.{at_lt, at_snoc, at_unmap, Live, Covers, retire1_ok}
use Rattle.theory.specs.Loops.{Ok, ok_then}
use Rattle.theory.specs.Complete.{settled_step, Loaded, load_ok, Done, All, Square, Whole, complete_ok, may_join}
use Rattle.theory.specs.Search.{Tried, Exhausted, search_ok}
use Rattle.theory.specs.Invariant.{Offers, an_input, a_pair, Holds, first_records, HoldsG, search_records}

-- ---- P of each record's rule
abbrev pub Each : (Rule → Type 0) → List Rec → Type 0
Each P t = (k : ℕ) (x : Rec) → rec_at t k ≡ some x → P x.rule

pub each_added : (P : Rule → Type 0) (t : List Rec) (q : Rule) (o : Origin) → Each P t → P q → Each P (added t q o)
unfolding added
each_added P t q o h p k y e =
    elim (at_snoc t (record { rule = q; live = true; origin = o }) k y e) [
      | inl a ↦ h k y a
      | inr b ↦ subst (λ (x : Rec). P x.rule) b.1 p
    ]

pub each_retire : (P : Rule → Type 0) (q : Rule) (t : List Rec) → Each P t → Each P (retire q t)
unfolding retire
each_retire P q t h k x e =
    let w = at_unmap (retire1 q) t k x e in
    subst P (sym (retire1_ok q w.0).same_rule ∙ ap (λ (z : Rec). z.rule) w.2) (h k w.0 w.1)

-- All records of the first phase are valid over the input rules, however it ends.
pub first_valid : (S : Setting) (rs : List Rule) → Holds (λ u. Each (ValidBy (Input rs)) u.recs) (λ c u. Each (ValidBy (Input rs)) u.recs) (first_phase S rs)
unfolding rec_at
first_valid S rs =
    first_records S rs (Each Good) (λ c u. Each Good u)
    (λ t q o h a. each_added Good (retire q t) q o (each_retire Good q t h) (offered t q o h a))
    (λ t q o c h a l. h)
    (λ k x e. no_confusion (cc))
  where
    Good : Rule → Type 0
    Good = ValidBy (Input rs)

    offered : (t : List Rec) (q : Rule) (o : Origin) → Each Good t → Offers S rs t q o → Good q
    offered t q o h (an_input i r e) = normal_valid (Input rs) r (input_valid (Input rs) r (i, e))
    offered t q o h (a_pair k i j r r' e e' m c) = combine_valid (Input rs) r.rule r'.rule k q c (h i r e) (h j r' e')

-- ---- the first phase
shut_hyp : (o : ℕ → Bool) (x : Option Term) (h : Term) → x ≡ some h → is_open o h ≡ false → shut o x ≡ true
unfolding shut
shut_hyp o none h e n = no_confusion (cc)
shut_hyp o (some y) h e n = let z : y ≡ h = cc in go (is_open o y) (ap (is_open o) z ∙ n)
  where
    go : (c : Bool) → c ≡ false → elim c [ true ↦ false | false ↦ true ] ≡ true
    go true p = true≢false refl p
    go false p = refl

module _ (S : Setting) (rs : List Rule) (harmless : (r : Rule) → S.skips r ≡ true → Harmless (Input rs) r) where
  abbrev Skip : Rule → Type 0
  Skip r = S.skips r ≡ true

  module _ (t : List Rec) (valid : Each (ValidBy (Input rs)) t) (loaded : Loaded S rs t) (whole : Whole S t) where
    safe : Safe (Live t) Skip
    safe q s f gs n i c d =
        harmless_forest (Input rs) (Live t)
        (λ p l. valid_by (Input rs) p (subst (ValidBy (Input rs)) l.is (valid l.num l.rec l.there')))
        q (harmless q s) f gs n i c d

    from_input : (r : Rule) → Input rs r → By (Live t) r ⊎ By Skip r
    unfolding Loaded
    from_input r a =
        elim (loaded r a) [
          | inl c ↦ inl (c.0, c.1, implies_trans c.2 (normal_implies r))
          | inr s ↦ inr (normal r, s, normal_implies r)
        ]

    combined_settled :
        (r r' : Rule) → Live t r → Live t r' → all_open S.opens r.hyps ≡ true → (k : ℕ) (h : Term) → nth r'.hyps k ≡ some h → is_open S.opens h ≡ false
        → (n : Rule) → combine r r' k ≡ some n → By (Live t) n ⊎ Skip n
    unfolding Whole Square All Done
    combined_settled r r' l l' o k h e s n c =
        whole l.num l'.num (at_lt t l.num l.rec l.there') (at_lt t l'.num l'.rec l'.there') k l.rec l'.rec l.there' l'.there'
        (may_join S.opens l.rec l'.rec k l.alive l'.alive (rw l.is o) (shut_hyp S.opens (nth l'.rec.rule.hyps k) h (rw l'.is e) s))
        n (rw (l.is, l'.is) c)

    -- What the input rules derive, the live rules with open hypotheses do, with no larger tree.
    reduced : {n : ℕ} {fs : List Term} → Forest (Input rs) n fs → Small (Open S.opens (Live t)) n fs
    reduced d =
        let a = phase0 (Input rs) (Live t) Skip safe from_input d in
        let b = phase1 S.opens (Live t) Skip safe combined_settled a.2 in
        (b.0, omega (arith, a.1, b.1), b.2)

    -- ---- the second phase
    -- No goal is without hypotheses while the search goes on.
    pub Unsolved : List Rec → Type 0
    Unsolved g = Each (λ r. r.hyps ≡ [] → ⊥) g

    search_unsolved : (f : Term) → HoldsG (λ u. Unsolved u.recs) (λ u. Unit {0}) (λ c u. Unit {0}) (search S t f)
    unfolding Unsolved rec_at
    search_unsolved f =
        search_records S t f Unsolved (λ u. Unit {0}) (λ c u. Unit {0})
        (λ g q o j a h hs e. each_added (λ r. r.hyps ≡ [] → ⊥) g q o j (λ z. no_confusion (cc)))
        (λ g q o j a e. tt) (λ g q o c j a l. tt) (λ k x e. no_confusion (cc))

    no_derivation : (f : Term) (g : Table) → Covers g.recs (goal0 f) → Exhausted S t g.recs → Unsolved g.recs → (n : ℕ) → Derives Closed (Input rs) n f → ⊥
    unfolding Exhausted Tried Unsolved goal0
    no_derivation f g c x u n d =
        let w = to_forest d in
        let v = reduced w.2 in
        phase2 (Open S.opens (Live t)) (Live g.recs)
        (λ r q b l m e. x q l r b.0 b.1 m e)
        (λ q l e. u l.num l.rec l.there' (ap (λ (z : Rule). z.hyps) l.is ∙ e))
        v.0 v.0 f (f ∷ []) c.0 c.1 c.2 v.2 (omega arith)

    searched_secret :
        (f : Term) (t' : Table) (o : Progress Table) → Ok S.limits.max_goals nothing (λ u. Covers u (goal0 f) × Exhausted S t u) o → HoldsG (λ u. Unsolved u.recs) (λ u. Unit {0}) (λ c u. Unit {0}) o
        → (searched S rs f t' o).answer ≡ secret → (n : ℕ) → Derives Closed (Input rs) n f → ⊥
    unfolding searched
    searched_secret f t' (going g) h u e n d = no_derivation f g h.holds.0 h.holds.1 u n d
    searched_secret f t' (stopped (lack c) g) h u e n d = no_confusion (cc)
    searched_secret f t' (stopped found g) h u e n d = not_written t' g _ e
      where
        not_written : (t g : Table) (o : Progress (List Step)) → (written t g o).answer ≡ secret → ⊥
        not_written t g (going ss) e = unfold written in no_confusion (cc)
        not_written t g (stopped found ss) e = unfold written answer_of in no_confusion (cc)
        not_written t g (stopped (lack c) ss) e = unfold written answer_of in no_confusion (cc)

  -- what the first phase has when it does not stop
  first_ok : Ok S.limits.max_rules nothing (λ u. Loaded S rs u × Whole S u) (first_phase S rs)
  unfolding first_phase Loaded
  first_ok =
      ok_then S.limits.max_rules nothing (λ u. Loaded S rs u × Whole S u) (Loaded S rs) (Whole S) (load S rs 0 nothing) (complete S)
      (load_ok S rs 0 nothing) (λ u h. complete_ok S u (h.room (omega arith)))
      (λ u v h s w. ((λ r a. settled_step S (normal r) s (h.holds r a)), w))

  completed_secret :
      (f : Term) (o : Progress Table) → Ok S.limits.max_rules nothing (λ u. Loaded S rs u × Whole S u) o → Holds (λ u. Each (ValidBy (Input rs)) u.recs) (λ c u. Each (ValidBy (Input rs)) u.recs) o
      → (completed S rs f o).answer ≡ secret → (n : ℕ) → Derives Closed (Input rs) n f → ⊥
  unfolding completed answer_of
  completed_secret f (going t) h v e n d =
      searched_secret t.recs v h.holds.0 h.holds.1 f t (search S t.recs f) (search_ok S t.recs f) (search_unsolved t.recs v h.holds.0 h.holds.1 f) e n d
  completed_secret f (stopped found t) h v e n d = v
  completed_secret f (stopped (lack c) t) h v e n d = no_confusion (cc)

  -- Over any limits, any open predicates, and any test that skips only what is harmless.
  pub secret_means : (f : Term) → (run S rs f).answer ≡ secret → (n : ℕ) → Derives Closed (Input rs) n f → ⊥
  unfolding run
  secret_means f e n d = completed_secret f (first_phase S rs) first_ok (first_valid S rs) e n d
