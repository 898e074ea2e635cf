-- `checker::steps::StepList::first_bad` meets its contract. The invariant: the answer is that for the steps from number i on. Assumes nothing.
use Rattle.std.proofs.Common.{◌≡◌, ◌-◌, ◌*◌, ◌/◌, length}
use Rattle.checker.specs.Follows.{first_bad_bytes}
use Rattle.checker.specs.Lists.{size_of, rules_in, first_bad_in}
use Rattle.checker.proofs.steps.StepList.first_bad.Given as goal

abbrev pub invariant-loop-i : goal.invariant-loop-i
invariant-loop-i l =
    let s = l.self in
    first_bad_in s
    ≡ first_bad_bytes s.tables.symbols.now s.form.hyps s.form.toks (rules_in s) s.tables.rules.now s.steps.now l.i (l.i * size_of s) (length s.steps.now / size_of s - l.i)
