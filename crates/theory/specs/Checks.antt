-- The checker's judgement is exact: each answer says what it should of the steps, and accepted steps are a derivation. Assumes nothing.
use Rattle.std.specs.Prelude.{ℕ, zero, suc, ◌+◌, ◌≤◌, Bool, ◌≡◌, ◌⊎◌, ◌↔◌, leb, length}
use Rattle.std.proofs.Common.{arith, ap, ap₂, ◌∙◌, subst, sym, inl, inr}
use Rattle.std.proofs.Math.Bool.{true, false}
use Rattle.std.proofs.Math.Option.{Option, some}
use mathlib.Core.List.{List, [], ◌∷◌, ◌++◌, map, append-nil, append_assoc}
use Rattle.std.proofs.Math.Path.{refl}
use borrow.Author.Tests.{leb-true, leb-false}
use Rattle.model.specs.Term.{Term, sub, both, same, closed, Bindings}
use Rattle.model.specs.Rule.{Rule, Limits, lookup, match}
use Rattle.model.specs.Write.{Step, rule_at}
use Rattle.model.specs.Check.{fact_at, facts_at, match_all, carries, follows_by, good_step, first_bad, ends, Judgement, accepted, wrong_count, bad_step, wrong_end, judge}
use Rattle.model.specs.Derive.{Closed, Input, Derives, by, DerivesAll, nil, also}
use Rattle.theory.specs.Basics.{true≢false, no_confusion}
use Rattle.theory.specs.Subst.{sub_sub, map_sub_sub}
use Rattle.theory.specs.Implies.{SameOk, same_ok, Ext, Agree, as_sub, Fits, fits_ext, fits_sub, MatchOk, match_ok}
use Rattle.theory.specs.Closed.{closed_sub, closed_of, flat, flat_closed, AllClosed, map_closed_sub}

-- ---- what is judged
-- A step after the steps ss follows by the rule that it names, at one substitution, from the earlier steps that it names.
pub record Follows (rs : List Rule) (ss : List Step) (s : Step) : Type 0 where
  pub rule : Rule
  pub named : rule_at rs s.by ≡ some rule
  pub is_closed : Closed s.fact
  pub values : ℕ → Term
  pub on_concl : sub values rule.concl ≡ s.fact
  pub on_hyps : facts_at ss s.uses ≡ some (map (sub values) rule.hyps)

-- Each step of a list that comes after the steps ss follows from the steps before it.
pub data AllFollow (rs : List Rule) : List Step → List Step → Type 0 where
  none : {ss : List Step} → AllFollow rs ss []
  next : {ss l : List Step} {s : Step} → Follows rs ss s → AllFollow rs (ss ++ (s ∷ [])) l → AllFollow rs ss (s ∷ l)

-- The last step concludes q.
abbrev pub Last : Term → List Step → Type 0
Last q ss = (a : List Step) × (s : Step) × (ss ≡ a ++ (s ∷ [])) × (s.fact ≡ q)

some_is : {A : Type 0} {x y : A} → ◌≡◌ {A = Option A} (some x) (some y) → x ≡ y
some_is e = cc

-- ---- one substitution for a list of terms
data FitEach (b : Bindings) : List Term → List Term → Type 0 where
  fnone : FitEach b [] []
  feach : {p t : Term} {ps ts : List Term} → Fits b p t → FitEach b ps ts → FitEach b (p ∷ ps) (t ∷ ts)

fit_each_sub : {b : Bindings} {ps ts : List Term} → FitEach b ps ts → map (sub (as_sub b)) ps ≡ ts
fit_each_sub fnone = refl
fit_each_sub (feach f g) = ap₂ ◌∷◌ (fits_sub f) (fit_each_sub g)

abbrev MatchAllOk : List Term → List Term → Bindings → Option Bindings → Type 0
MatchAllOk ps ts b (some c) = Ext b c × FitEach c ps ts
MatchAllOk ps ts b Option.none = (θ : ℕ → Term) → Agree θ b → map (sub θ) ps ≡ ts → ⊥

head_is : {t u : Term} {l m : List Term} → ◌≡◌ {A = List Term} (t ∷ l) (u ∷ m) → t ≡ u
head_is e = cc

tail_is : {t u : Term} {l m : List Term} → ◌≡◌ {A = List Term} (t ∷ l) (u ∷ m) → l ≡ m
tail_is e = cc

match_all_cons :
    (p t : Term) (ps ts : List Term) (b : Bindings) (o : Option Bindings) → MatchOk p t b o
    → ((c : Bindings) → MatchAllOk ps ts c (match_all ps ts c))
    → MatchAllOk (p ∷ ps) (t ∷ ts) b (elim o [ Option.none ↦ Option.none | some c ↦ match_all ps ts c ])
match_all_cons p t ps ts b Option.none h rec = λ θ a e. h θ a (head_is e)
match_all_cons p t ps ts b (some c) h rec = go (match_all ps ts c) (rec c)
  where
    go : (o : Option Bindings) → MatchAllOk ps ts c o → MatchAllOk (p ∷ ps) (t ∷ ts) b o
    go (some d) k = ((λ x u e. k.0 x u (h.ext x u e)), feach (fits_ext k.0 h.fit) k.1)
    go Option.none k = λ θ a e. k θ (h.keeps θ a (head_is e)) (tail_is e)

match_all_ok : (ps ts : List Term) (b : Bindings) → MatchAllOk ps ts b (match_all ps ts b)
unfolding match_all
match_all_ok [] [] b = ((λ x u e. e), fnone)
match_all_ok [] (t ∷ ts) b = λ θ a e. no_confusion (cc)
match_all_ok (p ∷ ps) [] b = λ θ a e. no_confusion (cc)
match_all_ok (p ∷ ps) (t ∷ ts) b = match_all_cons p t ps ts b (match p t b) (match_ok p t b) (match_all_ok ps ts)

abbrev CarriesOk : Rule → Term → List Term → Bool → Type 0
CarriesOk r f fs true = (σ : ℕ → Term) × (sub σ r.concl ≡ f) × (map (sub σ) r.hyps ≡ fs)
CarriesOk r f fs false = (σ : ℕ → Term) → sub σ r.concl ≡ f → map (sub σ) r.hyps ≡ fs → ⊥

carries_ok : (r : Rule) (f : Term) (fs : List Term) → CarriesOk r f fs (carries r f fs)
unfolding carries lookup
carries_ok r f fs = go (match_all (r.concl ∷ r.hyps) (f ∷ fs) []) (match_all_ok (r.concl ∷ r.hyps) (f ∷ fs) [])
  where
    go : (o : Option Bindings) → MatchAllOk (r.concl ∷ r.hyps) (f ∷ fs) [] o → CarriesOk r f fs (elim o [ Option.none ↦ false | some b ↦ true ])
    go (some b) h = let w = fit_each_sub h.1 in (as_sub b, head_is w, tail_is w)
    go Option.none h = λ σ p q. h σ (λ x u e. no_confusion (cc)) (ap₂ ◌∷◌ p q)

-- ---- one step
-- What the test of a step says, both ways.
abbrev pub GoodOk : List Rule → List Step → Step → Bool → Type 0
GoodOk rs ss s true = Follows rs ss s
GoodOk rs ss s false = Follows rs ss s → ⊥

module _ (rs : List Rule) (ss : List Step) (s : Step) where
  by_rule :
      (r : Rule) (fs : List Term) → Closed s.fact → rule_at rs s.by ≡ some r → facts_at ss s.uses ≡ some fs
      → (c : Bool) → CarriesOk r s.fact fs c → GoodOk rs ss s c
  by_rule r fs k n u true h =
      record { rule = r; named = n; is_closed = k; values = h.0; on_concl = h.1; on_hyps = u ∙ ap some (sym h.2) }
  by_rule r fs k n u false h =
      λ w.
      h w.values
      (ap (λ (q : Rule). sub w.values q.concl) (same_rule_lem w) ∙ w.on_concl)
      (ap (λ (q : Rule). map (sub w.values) q.hyps) (same_rule_lem w) ∙ same_facts w)
    where
      same_rule_lem : (w : Follows rs ss s) → r ≡ w.rule
      same_rule_lem w = some_is (sym n ∙ w.named)

      same_facts : (w : Follows rs ss s) → map (sub w.values) w.rule.hyps ≡ fs
      same_facts w = some_is (sym w.on_hyps ∙ u)

  good_by :
      (c : Bool) → closed s.fact ≡ c → (o : Option Rule) → rule_at rs s.by ≡ o → (p : Option (List Term)) → facts_at ss s.uses ≡ p
      → GoodOk rs ss s (both c (follows_by o s.fact p))
  unfolding both follows_by
  good_by false k o n p u = λ w. true≢false w.is_closed k
  good_by true k Option.none n p u = λ w. no_confusion (cc w.named)
  good_by true k (some r) n Option.none u = λ w. no_confusion (cc w.on_hyps)
  good_by true k (some r) n (some fs) u = by_rule r fs k n u (carries r s.fact fs) (carries_ok r s.fact fs)

  -- The test of a step says exactly whether it follows.
  pub good_ok : GoodOk rs ss s (good_step rs ss s)
  unfolding good_step
  good_ok = good_by (closed s.fact) refl (rule_at rs s.by) refl (facts_at ss s.uses) refl

-- ---- the steps in order
length_snoc : (a : List Step) (s : Step) → length (a ++ (s ∷ [])) ≡ suc (length a)
length_snoc [] s = refl
length_snoc (t ∷ a) s = ap suc (length_snoc a s)

follow_split : {rs : List Rule} {ss l : List Step} {s : Step} → AllFollow rs ss (s ∷ l) → Follows rs ss s × AllFollow rs (ss ++ (s ∷ [])) l
follow_split (next w k) = (w, k)

-- Where all steps follow, so does each.
follows_at : {rs : List Rule} (ss a : List Step) (s : Step) (b : List Step) → AllFollow rs ss (a ++ (s ∷ b)) → Follows rs (ss ++ a) s
follows_at {rs} ss [] s b h = subst (λ (l : List Step). Follows rs l s) (sym (append-nil ss)) (follow_split h).0
follows_at {rs} ss (t ∷ a) s b h = subst (λ (l : List Step). Follows rs l s) (append_assoc ss (t ∷ []) a) (follows_at (ss ++ (t ∷ [])) a s b (follow_split h).1)

-- Of the steps l after ss, all follow up to one that does not: it has the number i.
record BadAt (rs : List Rule) (ss l : List Step) (i : ℕ) : Type 0 where
  front : List Step
  bad : Step
  back : List Step
  splits : l ≡ front ++ (bad ∷ back)
  counts : i ≡ length ss + length front
  follow : AllFollow rs ss front
  not : Follows rs (ss ++ front) bad → ⊥

abbrev FirstBadOk : List Rule → List Step → List Step → Option ℕ → Type 0
FirstBadOk rs ss l Option.none = AllFollow rs ss l
FirstBadOk rs ss l (some i) = BadAt rs ss l i

bad_here : (rs : List Rule) (ss : List Step) (s : Step) (l : List Step) → (Follows rs ss s → ⊥) → BadAt rs ss (s ∷ l) (length ss)
bad_here rs ss s l h =
    record {
      front = [];
      bad = s;
      back = l;
      splits = refl;
      counts = omega arith;
      follow = none;
      not = λ w. h (subst (λ (a : List Step). Follows rs a s) (append-nil ss) w);
    }

bad_later : (rs : List Rule) (ss : List Step) (s : Step) (l : List Step) (i : ℕ) → Follows rs ss s → BadAt rs (ss ++ (s ∷ [])) l i → BadAt rs ss (s ∷ l) i
bad_later rs ss s l i h b =
    record {
      front = s ∷ b.front;
      bad = b.bad;
      back = b.back;
      splits = ap (s ∷◌) b.splits;
      counts = omega (arith, b.counts, length_snoc ss s);
      follow = next h b.follow;
      not = λ w. b.not (subst (λ (a : List Step). Follows rs a b.bad) (sym (append_assoc ss (s ∷ []) b.front)) w);
    }

first_bad_ok : (rs : List Rule) (ss l : List Step) → FirstBadOk rs ss l (first_bad rs ss l)
unfolding first_bad
first_bad_ok rs ss [] = none
first_bad_ok rs ss (s ∷ l) = go (good_step rs ss s) (good_ok rs ss s) (first_bad_ok rs (ss ++ (s ∷ [])) l)
  where
    later : (o : Option ℕ) → Follows rs ss s → FirstBadOk rs (ss ++ (s ∷ [])) l o → FirstBadOk rs ss (s ∷ l) o
    later Option.none h k = next h k
    later (some i) h k = bad_later rs ss s l i h k

    go :
        (c : Bool) → GoodOk rs ss s c → FirstBadOk rs (ss ++ (s ∷ [])) l (first_bad rs (ss ++ (s ∷ [])) l)
        → FirstBadOk rs ss (s ∷ l) (elim c [ false ↦ some (length ss) | true ↦ first_bad rs (ss ++ (s ∷ [])) l ])
    go false h k = bad_here rs ss s l h
    go true h k = later (first_bad rs (ss ++ (s ∷ [])) l) h k

-- ---- the end
abbrev pub EndsOk : Term → List Step → Bool → Type 0
EndsOk q ss true = Last q ss
EndsOk q ss false = Last q ss → ⊥

pub ends_ok : (q : Term) (ss : List Step) → EndsOk q ss (ends q ss)
unfolding ends
ends_ok q [] = λ w. nil≢snoc w.0 w.1 w.2
  where
    nil≢snoc : (a : List Step) (s : Step) → ◌≡◌ {A = List Step} [] (a ++ (s ∷ [])) → ⊥
    nil≢snoc [] s e = no_confusion (cc)
    nil≢snoc (t ∷ a) s e = no_confusion (cc)
ends_ok q (s ∷ []) = go (same s.fact q) (same_ok s.fact q)
  where
    lone : (a : List Step) (t : Step) → s ∷ [] ≡ a ++ (t ∷ []) → s ≡ t
    lone [] t e = cc
    lone (u ∷ []) t e = no_confusion (cc)
    lone (u ∷ v ∷ a) t e = no_confusion (cc)

    go : (c : Bool) → SameOk s.fact q c → EndsOk q (s ∷ []) c
    go true h = ([], s, refl, h)
    go false h = λ w. h (ap (λ (t : Step). t.fact) (lone w.0 w.1 w.2) ∙ w.3)
ends_ok q (s ∷ s' ∷ l) = go (ends q (s' ∷ l)) (ends_ok q (s' ∷ l))
  where
    shorter : (a : List Step) (t : Step) → s ∷ s' ∷ l ≡ a ++ (t ∷ []) → (b : List Step) × (s' ∷ l ≡ b ++ (t ∷ []))
    shorter [] t e = no_confusion (cc)
    shorter (u ∷ a) t e = (a, cc)

    go : (c : Bool) → EndsOk q (s' ∷ l) c → EndsOk q (s ∷ s' ∷ l) c
    go true h = (s ∷ h.0, h.1, ap (s ∷◌) h.2, h.3)
    go false h = λ w. let v = shorter w.0 w.1 w.2 in h (v.0, w.1, v.1, w.3)

-- ---- the judgement
-- What each judgement means.
abbrev pub JudgedOk : Limits → List Rule → Term → List Step → Judgement → Type 0
JudgedOk L rs q ss accepted = (1 ≤ length ss) × (length ss ≤ L.max_steps) × AllFollow rs [] ss × Last q ss
JudgedOk L rs q ss wrong_count = (1 ≤ length ss) × (length ss ≤ L.max_steps) → ⊥
JudgedOk L rs q ss (bad_step i) =
    (1 ≤ length ss) × (length ss ≤ L.max_steps)
    × (a : List Step) × (s : Step) × (b : List Step) × (ss ≡ a ++ (s ∷ b)) × (length a ≡ i) × AllFollow rs [] a × (Follows rs a s → ⊥)
JudgedOk L rs q ss wrong_end = (1 ≤ length ss) × (length ss ≤ L.max_steps) × AllFollow rs [] ss × (Last q ss → ⊥)

-- At least one step, and as many as the limits allow at most.
abbrev Counted : Limits → List Step → Type 0
Counted L ss = (1 ≤ length ss) × (length ss ≤ L.max_steps)

module _ (L : Limits) (rs : List Rule) (q : Term) (ss : List Step) where
  judged_end :
      Counted L ss → AllFollow rs [] ss → (c : Bool) → EndsOk q ss c
      → JudgedOk L rs q ss (elim c [ true ↦ accepted | false ↦ wrong_end ])
  judged_end n f true h = (n.0, n.1, f, h)
  judged_end n f false h = (n.0, n.1, f, h)

  judged_steps :
      Counted L ss → (o : Option ℕ) → FirstBadOk rs [] ss o
      → JudgedOk L rs q ss (elim o [ some i ↦ bad_step i | Option.none ↦ elim (ends q ss) [ true ↦ accepted | false ↦ wrong_end ] ])
  judged_steps n (some i) h = (n.0, n.1, h.front, h.bad, h.back, h.splits, omega (arith, h.counts), h.follow, h.not)
  judged_steps n Option.none h = judged_end n h (ends q ss) (ends_ok q ss)

  judged_count :
      (c d : Bool) → leb 1 (length ss) ≡ c → leb (length ss) L.max_steps ≡ d
      → JudgedOk L rs q ss (
      elim (both c d) [
        | false ↦ wrong_count
        | true ↦ elim (first_bad rs [] ss) [ some i ↦ bad_step i | Option.none ↦ elim (ends q ss) [ true ↦ accepted | false ↦ wrong_end ] ]
      ])
  unfolding both
  judged_count false d m n = λ w. omega (arith, leb-false 1 (length ss) m, w.0)
  judged_count true false m n = λ w. omega (arith, leb-false (length ss) L.max_steps n, w.1)
  judged_count true true m n = judged_steps (leb-true 1 (length ss) m, leb-true (length ss) L.max_steps n) (first_bad rs [] ss) (first_bad_ok rs [] ss)

  -- Each judgement means what it should.
  pub judged_ok : JudgedOk L rs q ss (judge L rs q ss)
  unfolding judge
  judged_ok = judged_count (leb 1 (length ss)) (leb (length ss) L.max_steps) refl refl

  -- The checker accepts exactly the lists of steps that it should.
  pub accepted_exactly : (judge L rs q ss ≡ accepted) ↔ ((1 ≤ length ss) × (length ss ≤ L.max_steps) × AllFollow rs [] ss × Last q ss)
  accepted_exactly = (
    (λ e. subst (λ (j : Judgement). JudgedOk L rs q ss j) e judged_ok),
    (λ h. go (judge L rs q ss) judged_ok h),
  )
    where
      go : (j : Judgement) → JudgedOk L rs q ss j → (1 ≤ length ss) × (length ss ≤ L.max_steps) × AllFollow rs [] ss × Last q ss → j ≡ accepted
      go accepted k h = refl
      go wrong_count k h = absurd (k (h.0, h.1))
      go (bad_step i) k h = absurd (k.8 (follows_at [] k.2 k.3 k.4 (subst (λ (l : List Step). AllFollow rs [] l) k.5 h.2)))
      go wrong_end k h = absurd (k.3 h.3)

-- ---- accepted steps are a derivation
-- What is known of the steps ss: their facts are closed and derivable.
abbrev Known : List Rule → List Step → Type 0
Known rs ss = (i : ℕ) (f : Term) → fact_at ss i ≡ some f → Closed f × (n : ℕ) × Derives Closed (Input rs) n f

fact_at_snoc : (ss : List Step) (s : Step) (i : ℕ) (f : Term) → fact_at (ss ++ (s ∷ [])) i ≡ some f → (fact_at ss i ≡ some f) ⊎ (s.fact ≡ f)
unfolding fact_at
fact_at_snoc [] s zero f e = inr (some_is e)
fact_at_snoc [] s (suc i) f e = inl e
fact_at_snoc (t ∷ ss) s zero f e = inl e
fact_at_snoc (t ∷ ss) s (suc i) f e = fact_at_snoc ss s i f e

fact_at_last : (ss : List Step) (s : Step) → fact_at (ss ++ (s ∷ [])) (length ss) ≡ some s.fact
unfolding fact_at
fact_at_last [] s = refl
fact_at_last (t ∷ ss) s = fact_at_last ss s

abbrev FactsOk : List Rule → Option (List Term) → Type 0
FactsOk rs Option.none = Unit {0}
FactsOk rs (some fs) = AllClosed fs × (n : ℕ) × DerivesAll Closed (Input rs) n fs

facts_known : (rs : List Rule) (ss : List Step) → Known rs ss → (ns : List ℕ) → FactsOk rs (facts_at ss ns)
unfolding facts_at
facts_known rs ss k [] = (tt, 0, nil)
facts_known rs ss k (i ∷ ns) = go (fact_at ss i) refl (facts_at ss ns) (facts_known rs ss k ns)
  where
    go :
        (o : Option Term) → fact_at ss i ≡ o → (p : Option (List Term)) → FactsOk rs p
        → FactsOk rs (elim o [ Option.none ↦ Option.none | some f ↦ elim p [ Option.none ↦ Option.none | some fs ↦ some (f ∷ fs) ] ])
    go Option.none e p h = tt
    go (some f) e Option.none h = tt
    go (some f) e (some fs) h = let w = k i f e in ((w.0, h.0), _, also w.2 h.2 refl)

-- A step that follows from known ones is derivable: variables that do not matter take a closed value.
step_derives : (rs : List Rule) (ss : List Step) (s : Step) → Known rs ss → Follows rs ss s → (n : ℕ) × Derives Closed (Input rs) n s.fact
step_derives rs ss s k w =
    let h : FactsOk rs (some fs) = subst (FactsOk rs) w.on_hyps (facts_known rs ss k s.uses) in (
      suc h.1,
      by w.rule σ (s.by, w.named) (λ x. closed_of flat flat_closed (w.values x)) concl
          (subst (DerivesAll Closed (Input rs) h.1) (hyps h.0) h.2),
    )
  where
    fs : List Term
    fs = map (sub w.values) w.rule.hyps

    σ : ℕ → Term
    σ x = sub flat (w.values x)

    concl : sub σ w.rule.concl ≡ s.fact
    concl = sym (sub_sub flat w.values w.rule.concl) ∙ ap (sub flat) w.on_concl ∙ closed_sub s.fact w.is_closed flat

    hyps : AllClosed fs → fs ≡ map (sub σ) w.rule.hyps
    hyps c = sym (map_closed_sub fs c flat) ∙ map_sub_sub flat w.values w.rule.hyps

known_snoc : (rs : List Rule) (ss : List Step) (s : Step) → Known rs ss → Follows rs ss s → Known rs (ss ++ (s ∷ []))
known_snoc rs ss s k w i f e =
    elim (fact_at_snoc ss s i f e) [
      | inl h ↦ k i f h
      | inr h ↦ subst (λ (g : Term). Closed g × (n : ℕ) × Derives Closed (Input rs) n g) h (let v = step_derives rs ss s k w in (w.is_closed, v.0, v.1))
    ]

all_known : (rs : List Rule) {ss l : List Step} → AllFollow rs ss l → Known rs ss → Known rs (ss ++ l)
all_known rs (none {ss = ss}) k = subst (Known rs) (sym (append-nil ss)) k
all_known rs (next {ss = ss} {l = l} {s = s} w a) k = subst (Known rs) (append_assoc ss (s ∷ []) l) (all_known rs a (known_snoc rs ss s k w))

known_nil : (rs : List Rule) → Known rs []
unfolding fact_at
known_nil rs i f e = no_confusion (cc)

-- Steps that follow and end with q derive it.
pub follow_derives : (rs : List Rule) (q : Term) (ss : List Step) → AllFollow rs [] ss → Last q ss → (n : ℕ) × Derives Closed (Input rs) n q
follow_derives rs q ss a z =
    let w = all_known rs a (known_nil rs) (length z.0) q (ap (λ (l : List Step). fact_at l (length z.0)) z.2 ∙ fact_at_last z.0 z.1 ∙ ap some z.3) in
    (w.1, w.2)

-- What the checker accepts is derivable.
pub accepted_derives : (L : Limits) (rs : List Rule) (q : Term) (ss : List Step) → judge L rs q ss ≡ accepted → (n : ℕ) × Derives Closed (Input rs) n q
accepted_derives L rs q ss e = let h = (accepted_exactly L rs q ss).0 e in follow_derives rs q ss h.2 h.3
