use Rattle.std.proofs.Common.{ℕ, List, length}
use Rattle.combine.specs.Draft.{Holds, IsSameRoom}
use Rattle.combine.proofs.Steps.{Going}
use Rattle.combine.proofs.Draft.add_side.Given as goal

abbrev pub invariant-loop-at : goal.invariant-loop-at
invariant-loop-at l = record {
  same : IsSameRoom l.initial.self l.self;
  going : (ns : List ℕ) → Holds l.initial.self ns → Going l.initial.self.of (length l.initial.self.starts.now) l.rec l.base l.skip l.self l.at-iterator ns;
}
