-- The invariant: the answer is that for the tokens from i on, where `need` terms are wanted and `more` facts come after. Assumes nothing.
use mathlib.Core.Path.{◌≡◌}
use Prim.Native.Nat.{◌≤◌, ◌+◌}
use lib.ListN.{length, drop}
use Rattle.records.specs.Rules.{good_tokens}
use Rattle.records.proofs.rules.tokens_good.Given as goal

abbrev pub invariant-loop-i : goal.invariant-loop-i
invariant-loop-i l =
    record {
      held : l.need ≤ length l.tokens + 255;
      same : good_tokens l.symbols l.vars 0 l.facts l.tokens ≡ good_tokens l.symbols l.vars l.need l.more (drop l.i l.tokens);
    }
