-- `imply::Target::carried` meets its contract. The invariant: hypothesis j stands at this place, and the answer is whether one will do from it on.
-- The measure of the calls is how many hypotheses of r are left. Assumes nothing.
use mathlib.Core.Path.{◌≡◌}
use Prim.Native.Nat.{◌+◌, ◌-◌, ◌≤◌}
use lib.ListN.{length, get_or}
use Rattle.records.specs.Symbols.{arity_of}
use Rattle.records.specs.Rules.{tokens_of}
use Rattle.records.specs.Tokens.{span}
use Rattle.imply.specs.Imply.{any, carried}
use Rattle.imply.proofs.Laws.{way}
use Rattle.imply.proofs.Target.+carried.Given as goal

abbrev pub decreases-carried : goal.decreases-carried
decreases-carried l = get_or l.r.now 0 0 - l.k

abbrev pub invariant-loop-j : goal.invariant-loop-j
invariant-loop-j l =
    let sy = l.self.symbols.now in
    let q = l.self.record.now in
    record {
      inside : l.at ≤ length (tokens_of q);
      here : l.at ≡ span (arity_of sy) (l.j + 1) (tokens_of q);
      left : carried (arity_of sy) (tokens_of l.r) (tokens_of q) (get_or q 0 0) l.k (get_or l.r 0 0 - l.k) l.used l.binds ≡ any (way sy l.r q l.k l.used l.binds) l.j (get_or q 0 0 - l.j);
    }
