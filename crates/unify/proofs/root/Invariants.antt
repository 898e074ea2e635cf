-- `root` climbs to the root of a class. The measure is the node: each link points down. Assumes nothing.
use mathlib.Core.Path.{◌≡◌}
use Prim.Native.Nat.{◌<◌}
use lib.ListN.{length}
use Rattle.unify.specs.Forest.{find}
use Rattle.unify.proofs.root.Given as goal

abbrev pub invariant-loop-x : goal.invariant-loop-x
invariant-loop-x l = (l.x < length l.rep) × (find l.rep l.x ≡ find l.rep l.i)

abbrev pub decreases-loop-x : goal.decreases-loop-x
decreases-loop-x l = l.x
