-- The whole run: its answer, and what it leaves in the tables. Assumes nothing.
use Rattle.std.specs.Prelude.{ℕ, false, List, [], eqb, length}
use Rattle.model.specs.Term.{Term, sub, both, same, size, vars, elem, distinct, occurs, bind1, diff, apply, mgu, unknowns, unify}
use Rattle.model.specs.Rule.{Rule, sub_rule, vars_all, vars_of, place, renumber, among, firsts, drop_copies, normal, size_all, fits, is_open, all_open, lookup, bind_to, match, choose, embeds, implies_by, implies, nth, without, left, right, resolvent, by_unifier, upon, combine}
use Rattle.model.specs.Table.{rec_at, Table, nothing, first_implying, fate, retire1, retire, added, log, Cause, rules_full, rule_large, goals_full, goal_large, steps_full, fact_large, Stop, found, lack, Progress, going, stopped, and_then}
use Rattle.model.specs.Run.{Setting, rule_fate, settle, keep, load, shut, may_combine, attempt, keep_if, upon_hyp, upon_hyps, hyps_of, pair, row, rows, complete, goal_fate, success, settle_goal, keep_goal, keep_goal_if, backward, try_rules, try_goals, goal0, search}
use Rattle.model.specs.Write.{Step, constant, or_else, filler, rule_at, rule_of, before, unifier_at, parents, input_values, concluded, numbers, all_short, put_step, step_by, write_step, write_input, record', write, derivation}

-- The answer: no derivation exists; one exists and is written; or room lacked, with the cause.
pub data Answer : Type 0 where
  secret : Answer
  derivable : Answer
  room : Cause → Answer

-- The number that stands for an answer.
unfoldable pub cause_number : Cause → ℕ
cause_number rules_full = 5
cause_number rule_large = 6
cause_number goals_full = 7
cause_number goal_large = 8
cause_number steps_full = 9
cause_number fact_large = 9

unfoldable pub number : Answer → ℕ
number secret = 0
number derivable = 1
number (room c) = cause_number c

-- What a run leaves.
pub record Outcome : Type 0 where
  pub answer : Answer
  pub rules : Table
  pub goals : Table
  pub steps : List Step

unfoldable pub answer_of : Stop → Answer
answer_of found = derivable
answer_of (lack c) = room c

-- After the writing: where it did not stop for want of room it ended with the query.
unfoldable pub written : Table → Table → Progress (List Step) → Outcome
written t g (going ss) = record { answer = derivable; rules = t; goals = g; steps = ss }
written t g (stopped w ss) = record { answer = answer_of w; rules = t; goals = g; steps = ss }

-- After the search: it came to its end without success, or found a derivation to write, or lacked room.
unfoldable pub searched : Setting → List Rule → Term → Table → Progress Table → Outcome
searched S rs q t (going g) = record { answer = secret; rules = t; goals = g; steps = [] }
searched S rs q t (stopped (lack c) g) = record { answer = room c; rules = t; goals = g; steps = [] }
searched S rs q t (stopped found g) = written t g (derivation S.limits rs t.recs g.recs q (length g.recs))

-- After the first phase. (Nothing is looked for there, so it is never found.)
unfoldable pub completed : Setting → List Rule → Term → Progress Table → Outcome
completed S rs q (going t) = searched S rs q t (search S t.recs q)
completed S rs q (stopped w t) = record { answer = answer_of w; rules = t; goals = nothing; steps = [] }

unfoldable pub first_phase : Setting → List Rule → Progress Table
first_phase S rs = and_then (load S rs 0 nothing) (complete S)

-- The run on the rules rs and the query q.
unfoldable pub run : Setting → List Rule → Term → Outcome
unfolding sub both same size vars elem distinct occurs bind1 diff apply mgu unknowns unify sub_rule vars_all vars_of place renumber among firsts drop_copies normal size_all fits is_open all_open lookup bind_to match choose embeds implies_by implies nth without left right resolvent by_unifier upon combine rec_at first_implying fate retire1 retire added log and_then rule_fate settle keep load shut may_combine attempt keep_if upon_hyp upon_hyps hyps_of pair row rows complete goal_fate success settle_goal keep_goal keep_goal_if backward try_rules try_goals goal0 search constant or_else filler rule_at rule_of before unifier_at parents input_values concluded numbers all_short put_step step_by write_step write_input record' write derivation cause_number number answer_of written searched completed first_phase
run S rs q = completed S rs q (first_phase S rs)

-- The base: records of 8 hypotheses, 120 tokens and 32 variables; attacker (token 64) alone is open; no rule is skipped.
unfoldable pub base : ℕ → ℕ → ℕ → Setting
base rules goals steps =
    record {
      limits = record { max_hyps = 8; max_tokens = 120; max_vars = 32; max_rules = rules; max_goals = goals; max_steps = steps };
      opens = eqb 64;
      skips = λ r. false;
    }

-- What is printed of a run beside its steps: the answer's number and the counts of rules, goals and steps.
unfoldable pub counts : Outcome → ℕ × ℕ × ℕ × ℕ
counts o = (number o.answer, length o.rules.recs, length o.goals.recs, length o.steps)
