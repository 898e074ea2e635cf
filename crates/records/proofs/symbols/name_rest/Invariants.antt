-- The invariant: the answer is that for the bytes from here on. Assumes nothing.
use mathlib.Core.Path.{◌≡◌}
use lib.ListN.{drop}
use Rattle.records.specs.Symbols.{name_rest}
use Rattle.records.proofs.symbols.name_rest.Given as goal

abbrev pub invariant-loop-i : goal.invariant-loop-i
invariant-loop-i l = name_rest l.name ≡ name_rest (drop l.i l.name)
