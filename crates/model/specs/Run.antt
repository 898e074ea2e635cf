-- The two phases: load and complete the rules, then search backward from the query. Assumes nothing.
use Rattle.std.specs.Prelude.{ℕ, zero, suc, Bool, true, false, List, [], ◌∷◌, leb, length}
use Rattle.std.proofs.Math.Option.{Option, none, some}
use Rattle.model.specs.Term.{Term, both}
use Rattle.model.specs.Rule.{Rule, Limits, normal, is_open, all_open, nth, combine}
use Rattle.model.specs.Table.{Origin, input, combined, asked, Rec, rec_at, Fate, kept_as, implied_by, skipped, no_room, too_large, Table, nothing, fate, retire, added, log, rules_full, rule_large, goals_full, goal_large, found, lack, Progress, going, stopped, and_then}

-- What a run is given beside the draft: the limits, the open predicates, and the rules to skip.
pub record Setting : Type 0 where
  pub limits : Limits
  pub opens : ℕ → Bool
  pub skips : Rule → Bool

-- ---- keeping a rule
unfoldable pub rule_fate : Setting → List Rec → Rule → Fate
rule_fate S t q = fate S.limits S.limits.max_rules S.skips t q

unfoldable pub settle : Fate → Table → Rule → Origin → Progress Table
settle (kept_as k) t q o = going (log t (added (retire q t.recs) q o) q o (kept_as k))
settle (implied_by k) t q o = going (log t t.recs q o (implied_by k))
settle skipped t q o = going (log t t.recs q o skipped)
settle no_room t q o = stopped (lack rules_full) (log t t.recs q o no_room)
settle too_large t q o = stopped (lack rule_large) (log t t.recs q o too_large)

unfoldable pub keep : Setting → Table → Rule → Origin → Progress Table
keep S t q o = settle (rule_fate S t.recs q) t q o

-- ---- loading
-- Each input rule in order, the first with number i.
unfoldable pub load : Setting → List Rule → ℕ → Table → Progress Table
load S [] i t = going t
load S (r ∷ rs) i t = and_then (keep S t (normal r) (input i)) (load S rs (suc i))

-- ---- completion
-- A hypothesis that is there and is not open.
unfoldable pub shut : (ℕ → Bool) → Option Term → Bool
shut o none = false
shut o (some h) = elim (is_open o h) [ true ↦ false | false ↦ true ]

-- R and R' are combined if both are live, all hypotheses of R are open, and the one of R' is not.
unfoldable pub may_combine : (ℕ → Bool) → Rec → Rec → ℕ → Bool
may_combine o r r' k = both r.live (both r'.live (both (all_open o r.rule.hyps) (shut o (nth r'.rule.hyps k))))

unfoldable pub attempt : (ℕ → Bool) → ℕ → Option Rec → Option Rec → Option Rule
attempt o k none y = none
attempt o k (some r) none = none
attempt o k (some r) (some r') = elim (may_combine o r r' k) [ false ↦ none | true ↦ combine r.rule r'.rule k ]

unfoldable pub keep_if : Setting → Table → Option Rule → Origin → Progress Table
keep_if S t none o = going t
keep_if S t (some q) o = keep S t q o

-- R = i, R' = j, upon the hypothesis with k before it.
unfoldable pub upon_hyp : Setting → ℕ → ℕ → ℕ → Table → Progress Table
upon_hyp S i j k t = keep_if S t (attempt S.opens k (rec_at t.recs i) (rec_at t.recs j)) (combined k i j)

-- .. upon n hypotheses in order, the first with k before it.
unfoldable pub upon_hyps : Setting → ℕ → ℕ → ℕ → ℕ → Table → Progress Table
upon_hyps S i j zero k t = going t
upon_hyps S i j (suc n) k t = and_then (upon_hyp S i j k t) (upon_hyps S i j n (suc k))

unfoldable pub hyps_of : Option Rec → ℕ
hyps_of none = 0
hyps_of (some x) = length x.rule.hyps

-- .. upon each hypothesis of R'.
unfoldable pub pair : Setting → ℕ → ℕ → Table → Progress Table
pair S i j t = upon_hyps S i j (hyps_of (rec_at t.recs j)) 0 t

-- Record i with j, j + 1, .., i, where n of them come before i: first as R, then, if it is not the same record, as R'.
unfoldable pub row : Setting → ℕ → ℕ → ℕ → Table → Progress Table
row S i zero j t = pair S i j t
row S i (suc n) j t = and_then (pair S i j t) (λ u. and_then (pair S j i u) (row S i n (suc j)))

-- For i, i + 1, .. while below the count, with all records up to it; n rows at most.
unfoldable pub rows : Setting → ℕ → ℕ → Table → Progress Table
rows S zero i t = going t
rows S (suc n) i t = elim (leb (length t.recs) i) [ true ↦ going t | false ↦ and_then (row S i i 0 t) (rows S n (suc i)) ]

-- No table has more records than there is room for, so that many rows suffice.
unfoldable pub complete : Setting → Table → Progress Table
complete S t = rows S S.limits.max_rules 0 t

-- ---- search
-- Goals are not skipped by the test, and no goal is retired.
unfoldable pub goal_fate : Setting → List Rec → Rule → Fate
goal_fate S g q = fate S.limits S.limits.max_goals (λ r. false) g q

-- A goal that is kept without hypotheses is a success.
unfoldable pub success : List Term → Table → Progress Table
success [] g = stopped found g
success (h ∷ hs) g = going g

unfoldable pub settle_goal : Fate → Table → Rule → Origin → Progress Table
settle_goal (kept_as k) g q o = success q.hyps (log g (added g.recs q o) q o (kept_as k))
settle_goal (implied_by k) g q o = going (log g g.recs q o (implied_by k))
settle_goal skipped g q o = going (log g g.recs q o skipped)
settle_goal no_room g q o = stopped (lack goals_full) (log g g.recs q o no_room)
settle_goal too_large g q o = stopped (lack goal_large) (log g g.recs q o too_large)

unfoldable pub keep_goal : Setting → Table → Rule → Origin → Progress Table
keep_goal S g q o = settle_goal (goal_fate S g.recs q) g q o

unfoldable pub keep_goal_if : Setting → Table → Option Rule → Origin → Progress Table
keep_goal_if S g none o = going g
keep_goal_if S g (some q) o = keep_goal S g q o

-- A live record with only open hypotheses, combined with the goal upon its first hypothesis.
unfoldable pub backward : (ℕ → Bool) → Rec → Rule → Option Rule
backward o x q = elim (both x.live (all_open o x.rule.hyps)) [ false ↦ none | true ↦ combine x.rule q 0 ]

-- Goal j, whose rule is q, with each rule record, the first with number i.
unfoldable pub try_rules : Setting → List Rec → ℕ → Rule → ℕ → Table → Progress Table
try_rules S [] i q j g = going g
try_rules S (x ∷ t) i q j g = and_then (keep_goal_if S g (backward S.opens x q) (combined 0 i j)) (try_rules S t (suc i) q j)

-- Goals j, j + 1, .. while there are such; n of them at most.
unfoldable pub try_goals : Setting → List Rec → ℕ → ℕ → Table → Progress Table
try_goals S t zero j g = going g
try_goals S t (suc n) j g = elim (rec_at g.recs j) [ none ↦ going g | some x ↦ and_then (try_rules S t 0 x.rule j g) (try_goals S t n (suc j)) ]

-- Goal 0 has the query as conclusion and as only hypothesis.
unfoldable pub goal0 : Term → Rule
goal0 q = record { concl = q; hyps = q ∷ [] }

unfoldable pub search : Setting → List Rec → Term → Progress Table
search S t q = and_then (keep_goal S nothing (goal0 q) asked) (try_goals S t S.limits.max_goals 0)
