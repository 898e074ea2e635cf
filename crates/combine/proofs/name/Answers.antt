use Rattle.combine.specs.Numbers.{name_old, name_full, name_new}
use Rattle.combine.proofs.name.Goals as goal

pub returns-then-names-x-ne0 : goal.returns-then-names-x-ne0
returns-then-names-x-ne0 c = λ vs rest N.
    let a = c.args in
    name_old vs a.names.now a.set a.vars a.x rest N c.if-names-x-ne0.true

pub returns-then-vars-set : goal.returns-then-vars-set
returns-then-vars-set c = λ vs rest N.
    let a = c.args in
    name_full vs a.names.now a.set a.vars a.x rest N c.if-names-x-ne0.false _ c.if-vars-set.true

pub returns : goal.returns
returns c = λ vs rest N.
    let a = c.args in
    name_new vs a.names.now a.set a.vars a.x rest N c.if-names-x-ne0.false c.requires.1 c.if-vars-set.false c.requires.0 c.next-v.result c.next-v.ensures c.with.result c.with.ensures
