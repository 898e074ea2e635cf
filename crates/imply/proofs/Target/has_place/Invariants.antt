-- `imply::Target::has_place` meets its contract. The invariant: hypothesis j stands at this place, and the answer is whether one will do from it on. Assumes nothing.
use mathlib.Core.Path.{◌≡◌}
use Prim.Native.Nat.{◌+◌, ◌-◌, ◌≤◌}
use lib.ListN.{length, get_or}
use Rattle.records.specs.Symbols.{arity_of}
use Rattle.records.specs.Rules.{tokens_of}
use Rattle.records.specs.Tokens.{span}
use Rattle.imply.specs.Imply.{any}
use Rattle.imply.specs.Filter.{has_place}
use Rattle.imply.proofs.Laws.{fits}
use Rattle.imply.proofs.Target.has_place.Given as goal

abbrev pub invariant-loop-j : goal.invariant-loop-j
invariant-loop-j l =
    let sy = l.self.symbols.now in
    let q = l.self.record.now in
    record {
      inside : l.at ≤ length (tokens_of q);
      here : l.at ≡ span (arity_of sy) (l.j + 1) (tokens_of q);
      left : has_place (arity_of sy) (tokens_of q) (get_or q 0 0) l.fact ≡ any (fits sy q l.fact) l.j (get_or q 0 0 - l.j);
    }
