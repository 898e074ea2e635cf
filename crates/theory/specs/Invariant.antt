-- What holds of the tables when the loops of the run end: one lemma for each phase, over any invariant of the table with its history.
-- A rule is offered only as an input rule or as an allowed combination, a goal only as goal 0 or as a step backward. Assumes nothing.
use Prim.Native.Nat.{ℕ, zero, suc, ◌+◌}
use Rattle.std.proofs.Common.{arith, ◌∙◌}
use Rattle.std.specs.Prelude.{Bool, ◌≡◌, leb, length}
use Rattle.std.proofs.Math.Bool.{true, false}
use Rattle.std.proofs.Math.Option.{Option, none, some}
use mathlib.Core.List.{List, [], ◌∷◌, ◌++◌}
use Rattle.std.proofs.Math.Path.{refl, ap, sym}
use Rattle.model.specs.Term.{Term, both}
use Rattle.model.specs.Rule.{Rule, normal, all_open, combine}
use Rattle.model.specs.Table.{Origin, input, combined, asked, Rec, rec_at, Fate, kept_as, implied_by, skipped, no_room, too_large, Table, nothing, log, retire, added, Cause, rules_full, rule_large, goals_full, goal_large, steps_full, fact_large, found, lack, Progress, going, stopped, and_then}
use Rattle.model.specs.Run.{Setting, rule_fate, settle, keep, load, may_combine, attempt, keep_if, upon_hyp, upon_hyps, hyps_of, pair, row, rows, complete, goal_fate, success, settle_goal, keep_goal, keep_goal_if, backward, try_rules, try_goals, goal0, search}
use Rattle.model.specs.Write.{rule_at}
use Rattle.model.specs.Verify.{first_phase}
use Rattle.theory.specs.Basics.{no_confusion, both_true}

-- ---- the first phase
-- What is offered to the records t.
pub data Offers (S : Setting) (rs : List Rule) (t : List Rec) : Rule → Origin → Type 0 where
  an_input : (i : ℕ) (r : Rule) → rule_at rs i ≡ some r → Offers S rs t (normal r) (input i)
  a_pair :
      {q : Rule} (k i j : ℕ) (r r' : Rec) → rec_at t i ≡ some r → rec_at t j ≡ some r' → may_combine S.opens r r' k ≡ true
      → combine r.rule r'.rule k ≡ some q → Offers S rs t q (combined k i j)

-- That the records t have no room for q, by its cause.
abbrev pub Lacks : Setting → List Rec → Rule → Cause → Type 0
Lacks S t q rules_full = rule_fate S t q ≡ no_room
Lacks S t q rule_large = rule_fate S t q ≡ too_large
Lacks S t q goals_full = ⊥
Lacks S t q goal_large = ⊥
Lacks S t q steps_full = ⊥
Lacks S t q fact_large = ⊥

-- A fate with which the loop goes on, though the rule is not kept.
abbrev pub Passes : Fate → Type 0
Passes (kept_as k) = ⊥
Passes (implied_by k) = Unit {0}
Passes skipped = Unit {0}
Passes no_room = ⊥
Passes too_large = ⊥

-- The fate that goes with a lack of room.
abbrev pub fate_of : Cause → Fate
fate_of rules_full = no_room
fate_of rule_large = too_large
fate_of goals_full = no_room
fate_of goal_large = too_large
fate_of steps_full = no_room
fate_of fact_large = too_large

-- J where a loop goes on, E where it stops for lack of room; nothing is found.
abbrev pub Holds : (Table → Type 0) → (Cause → Table → Type 0) → Progress Table → Type 0
Holds J E (going u) = J u
Holds J E (stopped found u) = ⊥
Holds J E (stopped (lack c) u) = E c u

module _ (S : Setting) (rs : List Rule) (J : Table → Type 0) (E : Cause → Table → Type 0)
    (keeps : (t : Table) (q : Rule) (o : Origin) (k : ℕ) → J t → Offers S rs t.recs q o → rule_fate S t.recs q ≡ kept_as k → J (log t (added (retire q t.recs) q o) q o (kept_as k)))
    (passes : (t : Table) (q : Rule) (o : Origin) (f : Fate) → J t → Offers S rs t.recs q o → rule_fate S t.recs q ≡ f → Passes f → J (log t t.recs q o f))
    (fails : (t : Table) (q : Rule) (o : Origin) (c : Cause) → J t → Offers S rs t.recs q o → Lacks S t.recs q c → E c (log t t.recs q o (fate_of c)))
  where
    holds_then : (o : Progress Table) (f : Table → Progress Table) → Holds J E o → ((u : Table) → J u → Holds J E (f u)) → Holds J E (and_then o f)
    unfolding and_then
    holds_then (going u) f h n = n u h
    holds_then (stopped found u) f h n = h
    holds_then (stopped (lack c) u) f h n = h

    keep_holds : (t : Table) (q : Rule) (o : Origin) → J t → Offers S rs t.recs q o → Holds J E (keep S t q o)
    unfolding keep settle
    keep_holds t q o j a = go (rule_fate S t.recs q) refl
      where
        go : (f : Fate) → rule_fate S t.recs q ≡ f → Holds J E (settle f t q o)
        go (kept_as k) e = keeps t q o k j a e
        go (implied_by k) e = passes t q o (implied_by k) j a e tt
        go skipped e = passes t q o skipped j a e tt
        go no_room e = fails t q o rules_full j a e
        go too_large e = fails t q o rule_large j a e

    -- rs' is what is left of the input rules, the first with number i
    load_holds : (rs' : List Rule) (i : ℕ) (t : Table) → ((n : ℕ) → rule_at rs' n ≡ rule_at rs (i + n)) → J t → Holds J E (load S rs' i t)
    unfolding load rule_at
    load_holds [] i t w j = j
    load_holds (r ∷ rs') i t w j =
        holds_then (keep S t (normal r) (input i)) (load S rs' (suc i))
        (keep_holds t (normal r) (input i) j (an_input i r (ap (rule_at rs) (omega arith) ∙ sym (w 0))))
        (λ u h. load_holds rs' (suc i) u (λ n. w (suc n) ∙ ap (rule_at rs) (omega arith)) h)

    hyp_holds : (i j k : ℕ) (t : Table) → J t → Holds J E (upon_hyp S i j k t)
    unfolding upon_hyp keep_if attempt
    hyp_holds i j k t h = go (rec_at t.recs i) (rec_at t.recs j) refl refl
      where
        allowed : (r r' : Rec) → rec_at t.recs i ≡ some r → rec_at t.recs j ≡ some r' → (c : Bool) → may_combine S.opens r r' k ≡ c → (o : Option Rule) → combine r.rule r'.rule k ≡ o → Holds J E (keep_if S t (elim c [ false ↦ none | true ↦ o ]) (combined k i j))
        allowed r r' e e' false m o c = h
        allowed r r' e e' true m none c = h
        allowed r r' e e' true m (some q) c = keep_holds t q (combined k i j) h (a_pair k i j r r' e e' m c)

        go : (x y : Option Rec) → rec_at t.recs i ≡ x → rec_at t.recs j ≡ y → Holds J E (keep_if S t (attempt S.opens k x y) (combined k i j))
        go none y e e' = h
        go (some r) none e e' = h
        go (some r) (some r') e e' = allowed r r' e e' (may_combine S.opens r r' k) refl (combine r.rule r'.rule k) refl

    hyps_holds : (i j n k : ℕ) (t : Table) → J t → Holds J E (upon_hyps S i j n k t)
    unfolding upon_hyps
    hyps_holds i j zero k t h = h
    hyps_holds i j (suc n) k t h = holds_then (upon_hyp S i j k t) (upon_hyps S i j n (suc k)) (hyp_holds i j k t h) (λ u g. hyps_holds i j n (suc k) u g)

    pair_holds : (i j : ℕ) (t : Table) → J t → Holds J E (pair S i j t)
    unfolding pair
    pair_holds i j t h = hyps_holds i j (hyps_of (rec_at t.recs j)) 0 t h

    row_holds : (i n j : ℕ) (t : Table) → J t → Holds J E (row S i n j t)
    unfolding row
    row_holds i zero j t h = pair_holds i j t h
    row_holds i (suc n) j t h =
        holds_then (pair S i j t) (λ u. and_then (pair S j i u) (row S i n (suc j))) (pair_holds i j t h)
        (λ u g. holds_then (pair S j i u) (row S i n (suc j)) (pair_holds j i u g) (λ v k. row_holds i n (suc j) v k))

    rows_holds : (n i : ℕ) (t : Table) → J t → Holds J E (rows S n i t)
    unfolding rows
    rows_holds zero i t h = h
    rows_holds (suc n) i t h = go (leb (length t.recs) i) (rows_holds n (suc i))
      where
        go : (c : Bool) → ((u : Table) → J u → Holds J E (rows S n (suc i) u)) → Holds J E (elim c [ true ↦ going t | false ↦ and_then (row S i i 0 t) (rows S n (suc i)) ])
        go true rec = h
        go false rec = holds_then (row S i i 0 t) (rows S n (suc i)) (row_holds i i 0 t h) rec

    pub first_holds : J nothing → Holds J E (first_phase S rs)
    unfolding first_phase complete
    first_holds h =
        holds_then (load S rs 0 nothing) (complete S) (load_holds rs 0 nothing (λ n. ap (rule_at rs) (omega arith)) h)
        (λ u j. rows_holds S.limits.max_rules 0 u j)

-- .. where J and E look at the records alone.
module _ (S : Setting) (rs : List Rule) (J : List Rec → Type 0) (E : Cause → List Rec → Type 0)
    (grows : (t : List Rec) (q : Rule) (o : Origin) → J t → Offers S rs t q o → J (added (retire q t) q o))
    (fails : (t : List Rec) (q : Rule) (o : Origin) (c : Cause) → J t → Offers S rs t q o → Lacks S t q c → E c t)
  where
    pub first_records : J [] → Holds (λ u. J u.recs) (λ c u. E c u.recs) (first_phase S rs)
    unfolding log
    first_records h =
        first_holds S rs (λ u. J u.recs) (λ c u. E c u.recs)
        (λ t q o k j a e. grows t.recs q o j a) (λ t q o f j a e p. j) (λ t q o c j a l. fails t.recs q o c j a l) h

-- ---- the search
-- What is offered to the goals g, over the rule records t and for the query f.
pub data OffersGoal (S : Setting) (t : List Rec) (f : Term) (g : List Rec) : Rule → Origin → Type 0 where
  the_query : g ≡ [] → OffersGoal S t f g (goal0 f) asked
  a_step :
      {q : Rule} (i j : ℕ) (x y : Rec) → rec_at t i ≡ some x → rec_at g j ≡ some y → x.live ≡ true → all_open S.opens x.rule.hyps ≡ true
      → combine x.rule y.rule 0 ≡ some q → OffersGoal S t f g q (combined 0 i j)

abbrev pub LacksGoal : Setting → List Rec → Rule → Cause → Type 0
LacksGoal S g q goals_full = goal_fate S g q ≡ no_room
LacksGoal S g q goal_large = goal_fate S g q ≡ too_large
LacksGoal S g q rules_full = ⊥
LacksGoal S g q rule_large = ⊥
LacksGoal S g q steps_full = ⊥
LacksGoal S g q fact_large = ⊥

-- J where a loop goes on, F where it finds, E where room lacks.
abbrev pub HoldsG : (Table → Type 0) → (Table → Type 0) → (Cause → Table → Type 0) → Progress Table → Type 0
HoldsG J F E (going u) = J u
HoldsG J F E (stopped found u) = F u
HoldsG J F E (stopped (lack c) u) = E c u

-- an index into the goals stays one while they grow
abbrev Keeps : List Rec → List Rec → Type 0
Keeps g u = (j : ℕ) (y : Rec) → rec_at g j ≡ some y → rec_at u j ≡ some y

module _ (S : Setting) (t : List Rec) (f : Term) (J F : Table → Type 0) (E : Cause → Table → Type 0)
    (keeps : (g : Table) (q : Rule) (o : Origin) (k : ℕ) → J g → OffersGoal S t f g.recs q o → goal_fate S g.recs q ≡ kept_as k → (h : Term) (hs : List Term) → q.hyps ≡ h ∷ hs → J (log g (added g.recs q o) q o (kept_as k)))
    (wins : (g : Table) (q : Rule) (o : Origin) (k : ℕ) → J g → OffersGoal S t f g.recs q o → goal_fate S g.recs q ≡ kept_as k → q.hyps ≡ [] → F (log g (added g.recs q o) q o (kept_as k)))
    (passes : (g : Table) (q : Rule) (o : Origin) (w : Fate) → J g → OffersGoal S t f g.recs q o → goal_fate S g.recs q ≡ w → Passes w → J (log g g.recs q o w))
    (fails : (g : Table) (q : Rule) (o : Origin) (c : Cause) → J g → OffersGoal S t f g.recs q o → LacksGoal S g.recs q c → E c (log g g.recs q o (fate_of c)))
  where
    at_grown : (g s : List Rec) (j : ℕ) (y : Rec) → rec_at g j ≡ some y → rec_at (g ++ s) j ≡ some y
    unfolding rec_at
    at_grown [] s j y e = no_confusion (cc)
    at_grown (x ∷ g) s zero y e = e
    at_grown (x ∷ g) s (suc j) y e = at_grown g s j y e

    abbrev HoldsK : List Rec → Progress Table → Type 0
    HoldsK g o = HoldsG (λ u. J u × Keeps g u.recs) F E o

    held_k_then : (g : List Rec) (o : Progress Table) (k : Table → Progress Table) → HoldsK g o → ((u : Table) → J u → Keeps g u.recs → HoldsG J F E (k u)) → HoldsG J F E (and_then o k)
    unfolding and_then
    held_k_then g (going u) k h n = n u h.0 h.1
    held_k_then g (stopped found u) k h n = h
    held_k_then g (stopped (lack c) u) k h n = h

    keep_goal_holds : (g : Table) (q : Rule) (o : Origin) → J g → OffersGoal S t f g.recs q o → HoldsK g.recs (keep_goal S g q o)
    unfolding keep_goal settle_goal success log added
    keep_goal_holds g q o j a = go (goal_fate S g.recs q) refl
      where
        kept : (k : ℕ) → goal_fate S g.recs q ≡ kept_as k → (hs : List Term) → q.hyps ≡ hs → HoldsK g.recs (success hs (log g (added g.recs q o) q o (kept_as k)))
        kept k e [] p = wins g q o k j a e p
        kept k e (h ∷ hs) p = (keeps g q o k j a e h hs p, λ i y z. at_grown g.recs _ i y z)

        go : (w : Fate) → goal_fate S g.recs q ≡ w → HoldsK g.recs (settle_goal w g q o)
        go (kept_as k) e = kept k e q.hyps refl
        go (implied_by k) e = (passes g q o (implied_by k) j a e tt, λ i y z. z)
        go skipped e = (passes g q o skipped j a e tt, λ i y z. z)
        go no_room e = fails g q o goals_full j a e
        go too_large e = fails g q o goal_large j a e

    try_holds : (j : ℕ) (y : Rec) (t' : List Rec) (i : ℕ) (g : Table) → ((n : ℕ) → rec_at t' n ≡ rec_at t (i + n)) → rec_at g.recs j ≡ some y → J g → HoldsG J F E (try_rules S t' i y.rule j g)
    unfolding try_rules rec_at
    try_holds j y [] i g w e h = h
    try_holds j y (x ∷ t') i g w e h =
        held_k_then g.recs (keep_goal_if S g (backward S.opens x y.rule) (combined 0 i j)) (try_rules S t' (suc i) y.rule j) first
        (λ u k s. try_holds j y t' (suc i) u (λ n. w (suc n) ∙ ap (rec_at t) (omega arith)) (s j y e) k)
      where
        at : rec_at t i ≡ some x
        at = ap (rec_at t) (omega arith) ∙ sym (w 0)

        go : (c : Bool) → both x.live (all_open S.opens x.rule.hyps) ≡ c → (o : Option Rule) → combine x.rule y.rule 0 ≡ o → HoldsK g.recs (keep_goal_if S g (elim c [ false ↦ none | true ↦ o ]) (combined 0 i j))
        go false l o c = unfold keep_goal_if in (h, λ i y z. z)
        go true l none c = unfold keep_goal_if in (h, λ i y z. z)
        go true l (some q) c =
            unfold keep_goal_if in
            let v = both_true x.live (all_open S.opens x.rule.hyps) l in
            keep_goal_holds g q (combined 0 i j) h (a_step i j x y at e v.0 v.1 c)

        first : HoldsK g.recs (keep_goal_if S g (backward S.opens x y.rule) (combined 0 i j))
        first = unfold backward in go (both x.live (all_open S.opens x.rule.hyps)) refl (combine x.rule y.rule 0) refl

    goals_holds : (n j : ℕ) (g : Table) → J g → HoldsG J F E (try_goals S t n j g)
    unfolding try_goals
    goals_holds zero j g h = h
    goals_holds (suc n) j g h = go (rec_at g.recs j) refl (goals_holds n (suc j))
      where
        then : (o : Progress Table) → HoldsG J F E o → ((u : Table) → J u → HoldsG J F E (try_goals S t n (suc j) u)) → HoldsG J F E (and_then o (try_goals S t n (suc j)))
        then (going u) k rec = unfold and_then in rec u k
        then (stopped found u) k rec = unfold and_then in k
        then (stopped (lack c) u) k rec = unfold and_then in k

        go : (o : Option Rec) → rec_at g.recs j ≡ o → ((u : Table) → J u → HoldsG J F E (try_goals S t n (suc j) u)) → HoldsG J F E (elim o [ none ↦ going g | some x ↦ and_then (try_rules S t 0 x.rule j g) (try_goals S t n (suc j)) ])
        go none e rec = h
        go (some x) e rec = then (try_rules S t 0 x.rule j g) (try_holds j x t 0 g (λ n. ap (rec_at t) (omega arith)) e h) rec

    pub search_holds : J nothing → HoldsG J F E (search S t f)
    unfolding search rec_at
    search_holds h =
        held_k_then [] (keep_goal S nothing (goal0 f) asked) (try_goals S t S.limits.max_goals 0) (keep_goal_holds nothing (goal0 f) asked h (the_query refl))
        (λ u j s. goals_holds S.limits.max_goals 0 u j)

-- .. where J, F and E look at the records alone.
module _ (S : Setting) (t : List Rec) (f : Term) (J F : List Rec → Type 0) (E : Cause → List Rec → Type 0)
    (grows : (g : List Rec) (q : Rule) (o : Origin) → J g → OffersGoal S t f g q o → (h : Term) (hs : List Term) → q.hyps ≡ h ∷ hs → J (added g q o))
    (wins : (g : List Rec) (q : Rule) (o : Origin) → J g → OffersGoal S t f g q o → q.hyps ≡ [] → F (added g q o))
    (fails : (g : List Rec) (q : Rule) (o : Origin) (c : Cause) → J g → OffersGoal S t f g q o → LacksGoal S g q c → E c g)
  where
    pub search_records : J [] → HoldsG (λ u. J u.recs) (λ u. F u.recs) (λ c u. E c u.recs) (search S t f)
    unfolding log
    search_records h =
        search_holds S t f (λ u. J u.recs) (λ u. F u.recs) (λ c u. E c u.recs)
        (λ g q o k j a e x xs p. grows g.recs q o j a x xs p) (λ g q o k j a e p. wins g.recs q o j a p) (λ g q o w j a e p. j)
        (λ g q o c j a l. fails g.recs q o c j a l) h
