use mathlib.Core.Path.{sym, ◌∙◌}
use Rattle.terms.specs.Facts.{base_open}
use Rattle.terms.proofs.Laws.{open_no}
use Rattle.terms.proofs.all_open.Goals as goal

pub returns-then-not-is_open : goal.returns-then-not-is_open
returns-then-not-is_open c =
    let l = c.loop-fact in
    let f = c.in-Some in
    sym (l.invariant ∙ open_no (base_open c.args.symbols.now) l.fact-iterator c.next.new.self (f.field-0-0, f.fact) f.ensures.steps (sym c.is_open.ensures ∙ c.if-not-is_open.true))
