use mathlib.Core.Path.{◌∙◌}
use Rattle.records.proofs.KindLaws.{some_function}
use Rattle.records.proofs.RuleSteps.{in_symbol}
use Rattle.records.specs.Symbols.{kind_of}
use Rattle.records.proofs.rules.in_term.Goals as goal

pub returns : goal.returns
returns c = let a = c.args in some_function _ (kind_of a.symbols.now a.t) _ c.of.ensures c.is_some_and.ensures ∙ in_symbol a.symbols.now a.vars a.t c.if-t-lt-FIRST_SYMBOL.false
