-- The invariant: the set with the tokens that are left is the set of all. Assumes nothing.
use mathlib.Core.Path.{◌≡◌}
use lib.ListN.{drop}
use Rattle.terms.specs.Vars.{with_vars}
use Rattle.terms.proofs.seen.Given as goal

abbrev pub invariant-loop-t : goal.invariant-loop-t
invariant-loop-t l = with_vars 0 l.tokens ≡ with_vars l.set (drop l.t-index l.tokens)
