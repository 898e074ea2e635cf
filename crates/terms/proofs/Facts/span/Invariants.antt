-- The invariant: what the n terms take is what is passed and what the terms still needed take from here. Assumes nothing.
use mathlib.Core.Path.{◌≡◌}
use Prim.Native.Nat.{◌≤◌, ◌+◌, ◌-◌, ◌*◌}
use lib.ListN.{length, drop}
use Rattle.records.specs.Symbols.{arity_of}
use Rattle.records.specs.Tokens.{span}
use Rattle.terms.proofs.Facts.span.Given as goal

abbrev pub invariant-loop-at : goal.invariant-loop-at
invariant-loop-at l =
    let ar = arity_of l.self.symbols.now in
    record {
      passed : l.from ≤ l.at;
      inside : l.at ≤ length l.self.tokens.now;
      small : l.need ≤ 4096 + 255 * (l.at - l.from);
      same : span ar l.n (drop l.from l.self.tokens.now) ≡ l.at - l.from + span ar l.need (drop l.at l.self.tokens.now);
    }

abbrev pub decreases-loop-at : goal.decreases-loop-at
decreases-loop-at l = length l.self.tokens.now - l.at
