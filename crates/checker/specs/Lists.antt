-- A list of steps as the code holds it, with its tables and its form, and what is tested of it. Assumes nothing.
use Rattle.std.specs.Prelude.{ℕ, ◌+◌, ◌-◌, ◌*◌, ◌/◌, Bool, List, length, take, drop, get_or}
use Rattle.std.proofs.Math.Option.{Option}
use Rattle.records.specs.Symbols.{arity_of, same_bytes}
use Rattle.records.specs.Rules.{tokens_of}
use Rattle.terms.specs.declared.Facts.{Facts}
use Rattle.checker.specs.declared.steps.StepList.{StepList}
use Rattle.checker.specs.Steps.{fact_place, step_size, step_tokens, form_good}
use Rattle.checker.specs.Follows.{uses_matched, follows_bytes, step_good, first_bad_bytes}

-- The bytes of a step, and how many rules there are.
abbrev pub size_of : StepList → ℕ
size_of l = step_size l.form.hyps l.form.toks

abbrev pub rules_in : StepList → ℕ
rules_in l = length l.tables.rules.now / (l.form.toks + 8)

abbrev pub formed_in : StepList → List ℕ → Bool
formed_in l step = form_good l.tables.symbols.now l.form.hyps l.form.toks (rules_in l) l.tables.rules.now step

-- Step i against the facts of a rule, its hypotheses and then all of it.
abbrev pub uses_in : StepList → Facts → List ℕ → ℕ → List ℕ → Bool
uses_in l rule step i binds =
    uses_matched (arity_of rule.symbols.now) (size_of l) (fact_place l.form.hyps) rule.tokens.now l.steps.now i step 0 (get_or step 2 0) binds

abbrev pub follows_in : StepList → Facts → List ℕ → ℕ → Bool
follows_in l rule step i = follows_bytes (arity_of rule.symbols.now) (size_of l) (fact_place l.form.hyps) rule.tokens.now l.steps.now i (i * size_of l) step

abbrev pub good_in : StepList → ℕ → Bool
good_in l i = step_good l.tables.symbols.now l.form.hyps l.form.toks (rules_in l) l.tables.rules.now l.steps.now i (i * size_of l)

-- The first bad one of the whole steps.
abbrev pub first_bad_in : StepList → Option ℕ
first_bad_in l = first_bad_bytes l.tables.symbols.now l.form.hyps l.form.toks (rules_in l) l.tables.rules.now l.steps.now 0 0 (length l.steps.now / size_of l)

-- The last step's fact is the query.
abbrev pub ends_in : StepList → Bool
ends_in l =
    same_bytes (step_tokens l.form.hyps (take (size_of l) (drop (length l.steps.now - size_of l) l.steps.now))) (tokens_of l.tables.query.now)
