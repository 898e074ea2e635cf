use mathlib.Core.Path.{sym, ◌∙◌}
use Rattle.records.proofs.RuleSteps.{terms_short}
use Rattle.records.proofs.rules.tokens_good.Goals as goal

pub returns-then-tokens-i : goal.returns-then-tokens-i
returns-then-tokens-i c =
    let a = c.args in
    let l = c.loop-i in
    sym (l.invariant.same ∙ terms_short a.symbols.now a.vars a.tokens.now l.i l.need l.more c.if-tokens-i.true)
