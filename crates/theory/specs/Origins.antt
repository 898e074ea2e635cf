-- What is known of each record when the phases end: rules and goals are valid, every record has the parents that its origin names,
-- goals keep the query as conclusion, and a search that succeeds has a goal without hypotheses last. Assumes nothing.
use Rattle.std.specs.Prelude.{ℕ, suc, ◌+◌, ◌<◌, Bool, true, false, ◌≡◌, refl}
use Rattle.std.proofs.Common.{arith, ◌∙◌, sym}
use Rattle.std.proofs.Math.Option.{Option, none, some}
use mathlib.Core.List.{List, []}
use Rattle.std.proofs.Math.Path.{ap, subst}
use Rattle.std.proofs.Math.Logic.{inl, inr}
use Rattle.std.proofs.Math.ListN.{length}
use Rattle.model.specs.Term.{Term, sub, unify, apply, Bindings}
use Rattle.model.specs.Rule.{Rule, sub_rule, renumber, drop_copies, normal, nth, left, right, resolvent, by_unifier, upon, combine}
use Rattle.model.specs.Table.{Origin, input, combined, asked, Rec, rec_at, retire1, retire, added}
use Rattle.model.specs.Run.{Setting, goal0, search}
use Rattle.model.specs.Write.{rule_at}
use Rattle.model.specs.Verify.{first_phase}
use Rattle.model.specs.Derive.{Closed, Input}
use Rattle.theory.specs.Basics.{true≢false, no_confusion}
use Rattle.theory.specs.Subst.{apply_sub}
use Rattle.theory.specs.Closed.{closed_sub, flat, flat_closed}
use Rattle.theory.specs.Embed.{mem_nil, mem_here, Mem}
use Rattle.theory.specs.Sound.{D, ValidBy, combine_valid}
use Rattle.theory.specs.Tables.{at_lt, at_append, at_snoc, at_last, at_map, at_unmap, length_snoc, length_map, retire1_ok}
use Rattle.theory.specs.Invariant.{Offers, an_input, a_pair, Holds, first_records, OffersGoal, the_query, a_step, HoldsG, search_records}
use Rattle.theory.specs.Secret.{Each, each_added}

-- Record a of t has the rule r.
abbrev pub RuleIs : List Rec → ℕ → Rule → Type 0
RuleIs t a r = (x : Rec) × (rec_at t a ≡ some x) × (x.rule ≡ r)

pub rule_added : (t : List Rec) (q : Rule) (o : Origin) (a : ℕ) (r : Rule) → RuleIs t a r → RuleIs (added t q o) a r
unfolding added
rule_added t q o a r w = (w.0, at_append t _ a w.0 w.1, w.2)

rule_retired : (t : List Rec) (q : Rule) (a : ℕ) (r : Rule) → RuleIs t a r → RuleIs (retire q t) a r
unfolding retire
rule_retired t q a r w = (retire1 q w.0, at_map (retire1 q) t a w.0 w.1, (retire1_ok q w.0).same_rule ∙ w.2)

-- Where record i comes from. R is a rule record, R' is in the same table as the record itself; both come before it.
pub data Prov (rs : List Rule) (t own : List Rec) (f : Term) (i : ℕ) (x : Rec) : Bool → Type 0 where
  is_input : (a : ℕ) (r : Rule) → x.origin ≡ input a → rule_at rs a ≡ some r → x.rule ≡ normal r → Prov rs t own f i x false
  is_asked : x.origin ≡ asked → x.rule ≡ goal0 f → Prov rs t own f i x true
  is_combined :
      {goal : Bool} (k a b : ℕ) (r r' : Rule) → x.origin ≡ combined k a b → RuleIs t a r → RuleIs own b r'
      → (goal ≡ false → a < i) → b < i → combine r r' k ≡ some x.rule → Prov rs t own f i x goal

abbrev pub ProvAll : List Rule → List Rec → List Rec → Term → Bool → Type 0
ProvAll rs t own f goal = (i : ℕ) (x : Rec) → rec_at own i ≡ some x → Prov rs t own f i x goal

-- The rank of a rule record or of a goal: goals come after the rule records t. Parents have a lower one.
abbrev pub rank : List Rec → Bool → ℕ → ℕ
rank t true i = length t + i
rank t false i = i

-- ---- the rule table
module _ (S : Setting) (rs : List Rule) (f : Term) where
  abbrev Rules : List Rec → Type 0
  Rules t = ProvAll rs t t f false

  -- an old record of a longer table
  prov_kept : (t : List Rec) (q : Rule) (o : Origin) (i : ℕ) (x y : Rec) → y.rule ≡ x.rule → y.origin ≡ x.origin → Prov rs t t f i x false → Prov rs (added (retire q t) q o) (added (retire q t) q o) f i y false
  prov_kept t q o i x y e p (is_input a r u v w) = is_input a r (p ∙ u) v (e ∙ w)
  prov_kept t q o i x y e p (is_combined k a b r r' u v w l m c) =
      is_combined k a b r r' (p ∙ u) (rule_added (retire q t) q o a r (rule_retired t q a r v)) (rule_added (retire q t) q o b r' (rule_retired t q b r' w)) l m (c ∙ ap some (sym e))

  retired_length : (q : Rule) (t : List Rec) → length (retire q t) ≡ length t
  unfolding retire
  retired_length q t = length_map (retire1 q) t

  prov_new : (t : List Rec) (q : Rule) (o : Origin) → Offers S rs t q o → Prov rs (added (retire q t) q o) (added (retire q t) q o) f (length (retire q t)) (record { rule = q; live = true; origin = o }) false
  prov_new t q o (an_input a r e) = is_input a r refl e refl
  prov_new t q o (a_pair k i j r r' e e' m c) =
      is_combined {goal = false} k i j r.rule r'.rule refl
      (rule_added (retire q t) q o i r.rule (rule_retired t q i r.rule (r, e, refl)))
      (rule_added (retire q t) q o j r'.rule (rule_retired t q j r'.rule (r', e', refl)))
      (λ z. omega (arith, at_lt t i r e, retired_length q t)) (omega (arith, at_lt t j r' e', retired_length q t)) c

  rules_grow : (t : List Rec) (q : Rule) (o : Origin) → Rules t → Offers S rs t q o → Rules (added (retire q t) q o)
  unfolding added retire
  rules_grow t q o h a i y e =
      elim (at_snoc (retire q t) (record { rule = q; live = true; origin = o }) i y e) [
        | inl z ↦
            (let w = at_unmap (retire1 q) t i y z in
            let v = retire1_ok q w.0 in
            prov_kept t q o i w.0 y (sym (ap (λ (b : Rec). b.rule) w.2) ∙ v.same_rule) (sym (ap (λ (b : Rec). b.origin) w.2) ∙ v.same_origin) (h i w.0 w.1))
        | inr z ↦
            subst (λ (n : ℕ). Prov rs (added (retire q t) q o) (added (retire q t) q o) f n y false) (sym z.0)
            (subst (λ (b : Rec). Prov rs (added (retire q t) q o) (added (retire q t) q o) f (length (retire q t)) b false) z.1 (prov_new t q o a))
      ]

  -- Every rule record has the origin that it names, however the first phase ends.
  pub rules_origins : Holds (λ u. Rules u.recs) (λ c u. Rules u.recs) (first_phase S rs)
  unfolding rec_at
  rules_origins = first_records S rs Rules (λ c u. Rules u) rules_grow (λ t q o c h a l. h) (λ i x e. no_confusion (cc))

-- ---- a closed query stays the conclusion
module _ (f : Term) (closed-f : Closed f) where
  concl_unified : (a b : Rule) (k : ℕ) (o : Option Bindings) (n : Rule) → b.concl ≡ f → by_unifier a b k o ≡ some n → n.concl ≡ f
  unfolding by_unifier normal renumber drop_copies resolvent sub_rule
  concl_unified a b k none n p e = no_confusion (cc)
  concl_unified a b k (some m) n p e =
      let z : normal (resolvent a b k m) ≡ n = cc in
      ap (λ (r : Rule). r.concl) (sym z) ∙ ap (sub _) (ap (apply m) p ∙ apply_sub m f ∙ closed_sub f closed-f _) ∙ closed_sub f closed-f _

  concl_combine : (r g : Rule) (k : ℕ) (n : Rule) → combine r g k ≡ some n → g.concl ≡ f → n.concl ≡ f
  unfolding combine upon right sub_rule
  concl_combine r g k n e p = go (nth (right g).hyps k) e
    where
      go : (o : Option Term) → upon (left r) (right g) k o ≡ some n → n.concl ≡ f
      go none e = no_confusion (cc)
      go (some c) e = concl_unified (left r) (right g) k (unify (left r).concl c) n (ap (sub _) p ∙ closed_sub f closed-f _) e

  -- ---- the goals
  module _ (S : Setting) (rs : List Rule) (t : List Rec) (valid : Each (ValidBy (Input rs)) t) where
    -- a goal is valid and concludes the query
    abbrev Goal : Rule → Type 0
    Goal r = ValidBy (Input rs) r × (r.concl ≡ f)

    abbrev pub Goals : List Rec → Type 0
    Goals g = Each Goal g × ProvAll rs t g f true

    -- the last goal has no hypotheses
    pub record Success (g : List Rec) : Type 0 where
      pub goals : Goals g
      pub last : ℕ
      pub rec : Rec
      pub count : length g ≡ suc last
      pub at : rec_at g last ≡ some rec
      pub solved : rec.rule.hyps ≡ []

    goal0_valid : Goal (goal0 f)
    unfolding ValidBy goal0
    goal0_valid = ((λ σ c h. h f mem_here), refl)

    offered_valid : (g : List Rec) (q : Rule) (o : Origin) → Goals g → OffersGoal S t f g q o → Goal q
    offered_valid g q o h (the_query e) = goal0_valid
    offered_valid g q o h (a_step i j x y e e' l p c) =
        let w = h.0 j y e' in
        (combine_valid (Input rs) x.rule y.rule 0 q c (valid i x e) w.0, concl_combine x.rule y.rule 0 q c w.1)

    prov_kept_goal : (g : List Rec) (q : Rule) (o : Origin) (i : ℕ) (x : Rec) → Prov rs t g f i x true → Prov rs t (added g q o) f i x true
    prov_kept_goal g q o i x (is_asked u v) = is_asked u v
    prov_kept_goal g q o i x (is_combined k a b r r' u v w l m c) = is_combined k a b r r' u v (rule_added g q o b r' w) l m c

    prov_new_goal : (g : List Rec) (q : Rule) (o : Origin) → OffersGoal S t f g q o → Prov rs t (added g q o) f (length g) (record { rule = q; live = true; origin = o }) true
    prov_new_goal g q o (the_query e) = is_asked refl refl
    prov_new_goal g q o (a_step i j x y e e' l p c) =
        is_combined {goal = true} 0 i j x.rule y.rule refl (x, e, refl) (rule_added g q o j y.rule (y, e', refl)) (λ z. true≢false refl z) (at_lt g j y e') c

    goals_grow : (g : List Rec) (q : Rule) (o : Origin) → Goals g → OffersGoal S t f g q o → Goals (added g q o)
    unfolding added
    goals_grow g q o h a = (
      each_added Goal g q o h.0 (offered_valid g q o h a),
      λ i y e.
          elim (at_snoc g (record { rule = q; live = true; origin = o }) i y e) [
            | inl z ↦ prov_kept_goal g q o i y (h.1 i y z)
            | inr z ↦
                subst (λ (n : ℕ). Prov rs t (added g q o) f n y true) (sym z.0)
                (subst (λ (b : Rec). Prov rs t (added g q o) f (length g) b true) z.1 (prov_new_goal g q o a))
          ],
    )

    success_last : (g : List Rec) (q : Rule) (o : Origin) → Goals (added g q o) → q.hyps ≡ [] → Success (added g q o)
    unfolding added
    success_last g q o h e = record { goals = h; last = length g; rec = record { rule = q; live = true; origin = o }; count = length_snoc g _; at = at_last g _; solved = e }

    -- Every goal is valid, concludes the query and has the origin that it names, however the search ends.
    pub goals_origins : HoldsG (λ u. Goals u.recs) (λ u. Success u.recs) (λ c u. Goals u.recs) (search S t f)
    unfolding rec_at
    goals_origins =
        search_records S t f Goals Success (λ c u. Goals u)
        (λ g q o j a h hs e. goals_grow g q o j a) (λ g q o j a e. success_last g q o (goals_grow g q o j a) e) (λ g q o c j a l. j)
        ((λ k x e. no_confusion (cc)), λ i x e. no_confusion (cc))

    -- A success is a derivation.
    pub success_derives : (g : List Rec) → Success g → D (Input rs) f
    unfolding ValidBy
    success_derives g s =
        let w = s.goals.0 s.last s.rec s.at in
        subst (D (Input rs)) (ap (sub flat) w.1 ∙ closed_sub f closed-f flat)
        (w.0 flat flat_closed (λ h m. absurd (mem_nil (subst (λ (l : List Term). Mem h l) s.solved m))))
