-- `finite` asks of each variable whether it stands inside its own term. Assumes nothing.
use mathlib.Core.Path.{◌≡◌}
use Prim.Native.Nat.{◌+◌, ◌*◌}
use lib.ListN.{length}
use Rattle.unify.specs.Pairs.{nodes_of}
use Rattle.unify.specs.Whole.{Far}
use Rattle.unify.proofs.Classes.finite.Given as goal

abbrev pub invariant-loop-v : goal.invariant-loop-v
invariant-loop-v l = (length l.marks ≡ 2 * l.self.pair.toks + 128) × Far (nodes_of l.self.pair) l.self.rep.now l.marks l.v
