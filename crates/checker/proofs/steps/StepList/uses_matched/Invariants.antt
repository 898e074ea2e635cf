-- `checker::steps::StepList::uses_matched` meets its contract. The invariant: the answer is that for the hypotheses from number k on, under the bindings so far. Assumes nothing.
use Rattle.std.proofs.Common.{◌≡◌, ◌-◌, ◌<◌, length}
use Rattle.records.specs.Symbols.{arity_of}
use Rattle.checker.specs.Steps.{fact_place}
use Rattle.checker.specs.Follows.{uses_matched}
use Rattle.checker.specs.Lists.{size_of, uses_in}
use Rattle.checker.proofs.steps.StepList.uses_matched.Given as goal

abbrev pub invariant-loop-k : goal.invariant-loop-k
invariant-loop-k l = record {
  few : l.n < 256;
  binds_len : length l.binds ≡ 64;
  same : uses_in l.self l.rule l.step l.i l.initial.binds
      ≡ uses_matched (arity_of l.rule.symbols.now) (size_of l.self) (fact_place l.self.form.hyps) l.rule.tokens.now l.self.steps.now l.i l.step l.k (l.n - l.k) l.binds;
}
