-- `write` writes the codes of a node's term. The measure of its calls is the room. Assumes nothing.
use mathlib.Core.Path.{◌≡◌}
use Prim.Native.Nat.{suc}
use lib.ListN.{length}
use Rattle.records.specs.Symbols.{arity_of}
use Rattle.unify.specs.Forest.{find}
use Rattle.unify.specs.Nodes.{tok, args_at}
use Rattle.unify.specs.Writer.{Args}
use Rattle.unify.specs.Pairs.{tokens_of, nodes_of}
use Rattle.unify.specs.Steps.{here}
use Rattle.unify.proofs.Classes.+write.Given as goal

abbrev pub decreases-write : goal.decreases-write
decreases-write l = length l.out.now

abbrev pub invariant-loop-a : goal.invariant-loop-a
invariant-loop-a l =
    let w = l.a-iterator in
    let sy = l.self.pair.symbols.now in
    let ts = tokens_of l.self.pair in
    let r = find l.self.rep.now l.i in
    record {
      same : w.pair.now ≡ l.self.pair;
      left : Args (nodes_of l.self.pair) l.self.rep.now l.out l.len (tok ts r) (args_at sy ts (suc r) (arity_of sy (tok ts r))) (args_at sy ts (here l.self.pair w) w.left);
    }
