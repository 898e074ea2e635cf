use Rattle.combine.specs.Numbers.{Partway}
use Rattle.combine.proofs.number.Given as goal

abbrev pub invariant-loop-i : goal.invariant-loop-i
invariant-loop-i l = Partway l.text l.initial.rec l.vars l.i l.names l.rec l.set
