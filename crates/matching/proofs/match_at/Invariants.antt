-- The invariant: the answer is that for the pattern from here on, against the text from p on, under the bindings so far. Assumes nothing.
use mathlib.Core.Path.{◌≡◌}
use Prim.Native.Nat.{◌≤◌}
use lib.ListN.{length, drop}
use Rattle.records.specs.Symbols.{arity_of}
use Rattle.matching.specs.Match.{matched}
use Rattle.matching.proofs.match_at.Given as goal

abbrev pub invariant-loop-t : goal.invariant-loop-t
invariant-loop-t l =
    record {
      inside : l.p ≤ length l.text;
      room : length l.binds ≡ 64;
      same : matched (arity_of l.symbols) l.pattern l.text l.from l.initial.binds ≡ matched (arity_of l.symbols) (drop l.t-index l.pattern) l.text l.p l.binds;
    }
