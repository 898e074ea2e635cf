-- `imply::may_match` meets its contract. The invariant: the answer is that for the pattern from token i on, against the text from that far on. Assumes nothing.
use mathlib.Core.Path.{◌≡◌}
use Prim.Native.Nat.{◌+◌}
use lib.ListN.{drop}
use Rattle.imply.specs.Filter.{may_match}
use Rattle.imply.proofs.may_match.Given as goal

abbrev pub invariant-loop-i : goal.invariant-loop-i
invariant-loop-i l = may_match l.pattern l.text l.from ≡ may_match (drop l.i l.pattern) l.text (l.from + l.i)
