-- `look` finds an open class or leaves a node done. The measure of its calls is the number of nodes not seen. Assumes nothing.
use mathlib.Core.Path.{◌≡◌}
use Prim.Native.Nat.{suc}
use Rattle.records.specs.Symbols.{arity_of}
use Rattle.unify.specs.Forest.{find}
use Rattle.unify.specs.Inside.{zeros}
use Rattle.unify.specs.Nodes.{tok, args_at}
use Rattle.unify.specs.Look.{Rest}
use Rattle.unify.specs.Pairs.{tokens_of, nodes_of}
use Rattle.unify.specs.Steps.{here}
use Rattle.unify.proofs.Classes.+look.Given as goal

abbrev pub decreases-look : goal.decreases-look
decreases-look l = zeros l.marks.now

abbrev pub invariant-loop-a : goal.invariant-loop-a
invariant-loop-a l =
    let w = l.a-iterator in
    let sy = l.self.pair.symbols.now in
    let ts = tokens_of l.self.pair in
    let rep = l.self.rep.now in
    let r = find rep l.i in
    record {
      same : w.pair.now ≡ l.self.pair;
      left : Rest (nodes_of l.self.pair) rep l.initial.marks l.marks (args_at sy ts (suc r) (arity_of sy (tok ts r))) (args_at sy ts (here l.self.pair w) w.left);
    }
