-- What each answer of a run says of what the run leaves: the one occasion of each number, and what was found. Assumes nothing.
use Rattle.std.specs.Prelude.{ℕ, ◌≤◌, ◌<◌, Bool, true, false, List, [], ◌∷◌, ◌≡◌, length}
use native.Mathlib.Omega.{arith}
use Rattle.std.proofs.Math.Path.{refl}
use Rattle.std.proofs.Common.{ap, ◌∙◌, subst, sym, inl, inr}
use Rattle.model.specs.Term.{Term}
use Rattle.model.specs.Rule.{Rule, Limits, fits, implies}
use Rattle.model.specs.Table.{Origin, Rec, Fate, kept_as, implied_by, skipped, no_room, too_large, Event, Table, nothing, fate, log, added, Cause, rules_full, rule_large, goals_full, goal_large, steps_full, fact_large, found, lack, Progress, going, stopped}
use Rattle.model.specs.Run.{Setting, rule_fate, goal_fate, goal0, search}
use Rattle.model.specs.Write.{Step, derivation}
use Rattle.model.specs.Verify.{Answer, secret, derivable, room, Outcome, answer_of, written, searched, completed, first_phase, run}
use Rattle.model.specs.Derive.{Closed, Input}
use Rattle.theory.specs.Basics.{no_confusion}
use Rattle.theory.specs.Embed.{Mem, mem_nil, mem_cons}
use Rattle.theory.specs.Sound.{D, ValidBy}
use Rattle.theory.specs.Tables.{Live, Covers, FirstOk, first_ok, FateOk, fate_ok, kept_length, length_snoc}
use Rattle.theory.specs.Loops.{Ok}
use Rattle.theory.specs.Search.{Exhausted, search_ok}
use Rattle.theory.specs.Invariant.{Offers, Lacks, Passes, fate_of, Holds, first_holds, OffersGoal, LacksGoal, HoldsG, search_holds}
use Rattle.theory.specs.Secret.{Each, first_valid}
use Rattle.theory.specs.Origins.{ProvAll, rules_origins, Goals, Success, goals_origins, success_derives}
use Rattle.theory.specs.Checks.{Last}
use Rattle.theory.specs.Writes.{Written, Lacked, WriteOk, derivation_ok}

-- ---- occasions
-- q fits, is not skipped, no live record of t implies it, and t has as many records as there is room for.
pub record Full (L : Limits) (cap : ℕ) (skips : Rule → Bool) (t : List Rec) (q : Rule) : Type 0 where
  pub fit : fits L q ≡ true
  pub not_skipped : skips q ≡ false
  pub not_implied : (p : Rule) → Live t p → implies p q ≡ true → ⊥
  pub none_free : length t ≡ cap

full_of : (L : Limits) (cap : ℕ) (skips : Rule → Bool) (t : List Rec) (q : Rule) → length t ≤ cap → fate L cap skips t q ≡ no_room → Full L cap skips t q
full_of L cap skips t q l e =
    let w = subst (FateOk L cap skips t q) e (fate_ok L cap skips t q) in
    record { fit = w.0; not_skipped = w.1; not_implied = subst (FirstOk t q) w.2 (first_ok t q 0); none_free = omega (arith, w.3) }

large_of : (L : Limits) (cap : ℕ) (skips : Rule → Bool) (t : List Rec) (q : Rule) → fate L cap skips t q ≡ too_large → fits L q ≡ false
large_of L cap skips t q e = subst (FateOk L cap skips t q) e (fate_ok L cap skips t q)

-- ---- histories
-- No event is a lack of room.
abbrev pub NoLack : List Event → Type 0
NoLack h = (e : Event) → Mem e h → (e.fate ≡ no_room → ⊥) × (e.fate ≡ too_large → ⊥)

-- The latest event, and it alone, is the lack of room c.
abbrev pub LackLast : Cause → List Event → Type 0
LackLast c h = (e : Event) × (h' : List Event) × (h ≡ e ∷ h') × (e.fate ≡ fate_of c) × NoLack h'

no_lack_more : (e : Event) (h : List Event) → (e.fate ≡ no_room → ⊥) → (e.fate ≡ too_large → ⊥) → NoLack h → NoLack (e ∷ h)
no_lack_more e h a b n x m = elim (mem_cons m) [ inl p ↦ ((λ z. a (sym (ap (λ (y : Event). y.fate) p) ∙ z)), λ z. b (sym (ap (λ (y : Event). y.fate) p) ∙ z)) | inr k ↦ n x k ]

passes_room : (f : Fate) → Passes f → (f ≡ no_room → ⊥) × (f ≡ too_large → ⊥)
passes_room (kept_as k) p = absurd p
passes_room (implied_by k) p = ((λ e. no_confusion (cc)), λ e. no_confusion (cc))
passes_room skipped p = ((λ e. no_confusion (cc)), λ e. no_confusion (cc))
passes_room no_room p = absurd p
passes_room too_large p = absurd p

-- ---- the first phase
module _ (S : Setting) (rs : List Rule) where
  -- The rule that could not be kept, and why.
  abbrev pub RuleOccasion : Cause → List Rec → Type 0
  RuleOccasion rules_full t = (q : Rule) × (o : Origin) × Offers S rs t q o × Full S.limits S.limits.max_rules S.skips t q
  RuleOccasion rule_large t = (q : Rule) × (o : Origin) × Offers S rs t q o × (fits S.limits q ≡ false)
  RuleOccasion goals_full t = ⊥
  RuleOccasion goal_large t = ⊥
  RuleOccasion steps_full t = ⊥
  RuleOccasion fact_large t = ⊥

  rule_fails : (t : List Rec) (q : Rule) (o : Origin) (c : Cause) → length t ≤ S.limits.max_rules → Offers S rs t q o → Lacks S t q c → RuleOccasion c t
  unfolding rule_fate
  rule_fails t q o rules_full l a e = (q, o, a, full_of S.limits S.limits.max_rules S.skips t q l e)
  rule_fails t q o rule_large l a e = (q, o, a, large_of S.limits S.limits.max_rules S.skips t q e)
  rule_fails t q o goals_full l a e = e
  rule_fails t q o goal_large l a e = e
  rule_fails t q o steps_full l a e = e
  rule_fails t q o fact_large l a e = e

  abbrev pub FirstOn : Table → Type 0
  FirstOn u = (length u.recs ≤ S.limits.max_rules) × NoLack u.history

  abbrev pub FirstLack : Cause → Table → Type 0
  FirstLack c u = (length u.recs ≤ S.limits.max_rules) × RuleOccasion c u.recs × LackLast c u.history

  kept_fate : (t : List Rec) (q : Rule) (k : ℕ) → rule_fate S t q ≡ kept_as k → length t < S.limits.max_rules
  unfolding rule_fate
  kept_fate t q k e = (subst (FateOk S.limits S.limits.max_rules S.skips t q) e (fate_ok S.limits S.limits.max_rules S.skips t q)).3

  pub first_means : Holds FirstOn FirstLack (first_phase S rs)
  unfolding log
  first_means =
      first_holds S rs FirstOn FirstLack
      (λ t q o k j a e. (omega (arith, kept_fate t.recs q k e, kept_length t.recs q o), no_lack_more _ _ (λ z. no_confusion (cc)) (λ z. no_confusion (cc)) j.1))
      (λ t q o f j a e p. (j.0, no_lack_more _ _ (passes_room f p).0 (passes_room f p).1 j.1))
      (λ t q o c j a l. (j.0, rule_fails t.recs q o c j.0 a l, (_, t.history, refl, refl, j.1)))
      (omega arith, λ e m. absurd (mem_nil m))

-- ---- the search
module _ (S : Setting) (t : List Rec) (f : Term) where
  -- The goal that could not be kept, and why.
  abbrev pub GoalOccasion : Cause → List Rec → Type 0
  GoalOccasion goals_full g = (q : Rule) × (o : Origin) × OffersGoal S t f g q o × Full S.limits S.limits.max_goals (λ r. false) g q
  GoalOccasion goal_large g = (q : Rule) × (o : Origin) × OffersGoal S t f g q o × (fits S.limits q ≡ false)
  GoalOccasion rules_full g = ⊥
  GoalOccasion rule_large g = ⊥
  GoalOccasion steps_full g = ⊥
  GoalOccasion fact_large g = ⊥

  goal_fails : (g : List Rec) (q : Rule) (o : Origin) (c : Cause) → length g ≤ S.limits.max_goals → OffersGoal S t f g q o → LacksGoal S g q c → GoalOccasion c g
  unfolding goal_fate
  goal_fails g q o goals_full l a e = (q, o, a, full_of S.limits S.limits.max_goals (λ r. false) g q l e)
  goal_fails g q o goal_large l a e = (q, o, a, large_of S.limits S.limits.max_goals (λ r. false) g q e)
  goal_fails g q o rules_full l a e = e
  goal_fails g q o rule_large l a e = e
  goal_fails g q o steps_full l a e = e
  goal_fails g q o fact_large l a e = e

  abbrev pub SearchOn : Table → Type 0
  SearchOn u = (length u.recs ≤ S.limits.max_goals) × NoLack u.history

  abbrev pub SearchLack : Cause → Table → Type 0
  SearchLack c u = (length u.recs ≤ S.limits.max_goals) × GoalOccasion c u.recs × LackLast c u.history

  kept_goal : (g : List Rec) (q : Rule) (o : Origin) (k : ℕ) → goal_fate S g q ≡ kept_as k → length (added g q o) ≤ S.limits.max_goals
  unfolding goal_fate added
  kept_goal g q o k e =
      omega (arith, (subst (FateOk S.limits S.limits.max_goals (λ r. false) g q) e (fate_ok S.limits S.limits.max_goals (λ r. false) g q)).3, length_snoc g (record { rule = q; live = true; origin = o }))

  pub search_means : HoldsG SearchOn SearchOn SearchLack (search S t f)
  unfolding log
  search_means =
      search_holds S t f SearchOn SearchOn SearchLack
      (λ g q o k j a e h hs p. (kept_goal g.recs q o k e, no_lack_more _ _ (λ z. no_confusion (cc)) (λ z. no_confusion (cc)) j.1))
      (λ g q o k j a e p. (kept_goal g.recs q o k e, no_lack_more _ _ (λ z. no_confusion (cc)) (λ z. no_confusion (cc)) j.1))
      (λ g q o w j a e p. (j.0, no_lack_more _ _ (passes_room w p).0 (passes_room w p).1 j.1))
      (λ g q o c j a l. (j.0, goal_fails g.recs q o c j.0 a l, (_, g.history, refl, refl, j.1)))
      (omega arith, λ e m. absurd (mem_nil m))

-- ---- the run
module _ (S : Setting) (rs : List Rule) (f : Term) (closed-f : Closed f) where
  -- Both tables have no more records than room and no lack of room in their histories.
  abbrev pub NoLacks : Outcome → Type 0
  NoLacks o = FirstOn S rs o.rules × SearchOn S o.rules.recs f o.goals

  -- The steps follow each other, fit the step table, and end with the query; or they lack room for the cause c.
  abbrev pub Steps : Outcome → Type 0
  Steps o = Written S.limits rs o.rules.recs o.goals.recs f closed-f o.steps × Last f o.steps

  abbrev pub StepsLack : Outcome → Cause → Type 0
  StepsLack o c = Written S.limits rs o.rules.recs o.goals.recs f closed-f o.steps × Lacked S.limits rs o.rules.recs o.goals.recs f closed-f c o.steps

  -- What an answer means of what the run left.
  abbrev pub Means : Outcome → Answer → Type 0
  Means o secret = NoLacks o × Covers o.goals.recs (goal0 f) × Exhausted S o.rules.recs o.goals.recs
  Means o derivable = NoLacks o × D (Input rs) f × Steps o
  Means o (room rules_full) = FirstLack S rs rules_full o.rules
  Means o (room rule_large) = FirstLack S rs rule_large o.rules
  Means o (room goals_full) = FirstOn S rs o.rules × SearchLack S o.rules.recs f goals_full o.goals
  Means o (room goal_large) = FirstOn S rs o.rules × SearchLack S o.rules.recs f goal_large o.goals
  Means o (room steps_full) = NoLacks o × D (Input rs) f × StepsLack o steps_full
  Means o (room fact_large) = NoLacks o × D (Input rs) f × StepsLack o fact_large

  module _ (t g : Table) (no-lacks : FirstOn S rs t × SearchOn S t.recs f g) (d : D (Input rs) f) where
    means_written : (o : Progress (List Step)) → WriteOk S.limits rs t.recs g.recs f closed-f [] f o → Means (written t g o) (written t g o).answer
    unfolding written answer_of
    means_written (going ss) w = absurd (w.not_yet w.known)
    means_written (stopped found ss) w = (no-lacks, d, (w.0, w.1))
    means_written (stopped (lack rules_full) ss) w = absurd w.1
    means_written (stopped (lack rule_large) ss) w = absurd w.1
    means_written (stopped (lack goals_full) ss) w = absurd w.1
    means_written (stopped (lack goal_large) ss) w = absurd w.1
    means_written (stopped (lack steps_full) ss) w = (no-lacks, d, (w.0, w.1))
    means_written (stopped (lack fact_large) ss) w = (no-lacks, d, (w.0, w.1))

  module _ (t : Table) (on : FirstOn S rs t) (valid : Each (ValidBy (Input rs)) t.recs) (origins : ProvAll rs t.recs t.recs f false) where
    means_searched :
        (o : Progress Table) → HoldsG (SearchOn S t.recs f) (SearchOn S t.recs f) (SearchLack S t.recs f) o
        → Ok S.limits.max_goals nothing (λ u. Covers u (goal0 f) × Exhausted S t.recs u) o
        → HoldsG (λ u. Goals f closed-f S rs t.recs valid u.recs) (λ u. Success f closed-f S rs t.recs valid u.recs) (λ c u. Goals f closed-f S rs t.recs valid u.recs) o
        → Means (searched S rs f t o) (searched S rs f t o).answer
    unfolding searched
    means_searched (going g) h k s = ((on, h), k.holds.0, k.holds.1)
    means_searched (stopped found g) h k s =
        means_written t g (on, h) (success_derives f closed-f S rs t.recs valid g.recs s) (derivation S.limits rs t.recs g.recs f (length g.recs))
        (derivation_ok S.limits rs t.recs g.recs f closed-f origins s.goals.1 s.last s.rec s.count s.at s.solved (s.goals.0 s.last s.rec s.at).1)
    means_searched (stopped (lack rules_full) g) h k s = absurd h.1
    means_searched (stopped (lack rule_large) g) h k s = absurd h.1
    means_searched (stopped (lack goals_full) g) h k s = (on, h)
    means_searched (stopped (lack goal_large) g) h k s = (on, h)
    means_searched (stopped (lack steps_full) g) h k s = absurd h.1
    means_searched (stopped (lack fact_large) g) h k s = absurd h.1

  means_completed :
      (o : Progress Table) → Holds (FirstOn S rs) (FirstLack S rs) o
      → Holds (λ u. Each (ValidBy (Input rs)) u.recs) (λ c u. Each (ValidBy (Input rs)) u.recs) o
      → Holds (λ u. ProvAll rs u.recs u.recs f false) (λ c u. ProvAll rs u.recs u.recs f false) o
      → Means (completed S rs f o) (completed S rs f o).answer
  unfolding completed answer_of
  means_completed (going t) h v p =
      means_searched t h v p (search S t.recs f) (search_means S t.recs f) (search_ok S t.recs f) (goals_origins f closed-f S rs t.recs v)
  means_completed (stopped found t) h v p = absurd h
  means_completed (stopped (lack rules_full) t) h v p = h
  means_completed (stopped (lack rule_large) t) h v p = h
  means_completed (stopped (lack goals_full) t) h v p = absurd h.1
  means_completed (stopped (lack goal_large) t) h v p = absurd h.1
  means_completed (stopped (lack steps_full) t) h v p = absurd h.1
  means_completed (stopped (lack fact_large) t) h v p = absurd h.1

  -- The answer of a run means what it should of what the run left.
  pub run_means : Means (run S rs f) (run S rs f).answer
  unfolding run
  run_means = means_completed (first_phase S rs) (first_means S rs) (first_valid S rs) (rules_origins S rs f)
