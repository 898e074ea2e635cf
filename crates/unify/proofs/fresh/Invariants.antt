-- `fresh` makes each node a class by itself. Assumes nothing.
use Rattle.unify.specs.Whole.{Own}
use Rattle.unify.proofs.fresh.Given as goal

abbrev pub invariant-loop-x : goal.invariant-loop-x
invariant-loop-x l = Own l.x l.rep
