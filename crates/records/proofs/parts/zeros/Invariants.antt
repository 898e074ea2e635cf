-- The invariant: the answer is that for the bytes from here on. Assumes nothing.
use mathlib.Core.Path.{◌≡◌}
use lib.ListN.{drop}
use Rattle.records.specs.Symbols.{zeros}
use Rattle.records.proofs.parts.zeros.Given as goal

abbrev pub invariant-loop-b : goal.invariant-loop-b
invariant-loop-b l = zeros l.s ≡ zeros (drop l.b-index l.s)
