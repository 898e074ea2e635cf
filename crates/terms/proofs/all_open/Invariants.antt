-- The invariant: what is left of the hypotheses says what the whole do. Assumes nothing.
use mathlib.Core.Path.{◌≡◌}
use Rattle.terms.specs.Facts.{base_open, hypotheses_open}
use Rattle.terms.proofs.Laws.{rest_open}
use Rattle.terms.proofs.all_open.Given as goal

abbrev pub invariant-loop-fact : goal.invariant-loop-fact
invariant-loop-fact l = hypotheses_open l.symbols l.rec ≡ rest_open (base_open l.symbols) l.fact-iterator
