use Rattle.std.proofs.Common.{arith}
use Rattle.std.proofs.lemmas.Result.{err_from_is_err_and}
use Rattle.combine.specs.Numbers.{partway_start, partway_low, partway_high, partway_full, partway_end}
use Rattle.combine.proofs.number.Goals as goal

pub loop-i-init : goal.loop-i-init
loop-i-init c = let a = c.args in partway_start a.text.now a.rec.now a.names.now a.vars c.requires.none

pub loop-i-preserved-then-code-lt-FIRST_VARIABLE : goal.loop-i-preserved-then-code-lt-FIRST_VARIABLE
loop-i-preserved-then-code-lt-FIRST_VARIABLE c =
    partway_low c.loop-i.invariant c.requires.room (omega arith) c.from-code.ensures c.if-code-lt-FIRST_VARIABLE.true

pub returns-in_err-set : goal.returns-in_err-set
returns-in_err-set c =
    let e = err_from_is_err_and c.from_residual.result c.from_residual.ensures.1 in
    rw e.1 (partway_full c.loop-i.invariant c.requires.room (omega arith) c.from-code.ensures c.if-code-lt-FIRST_VARIABLE.false c.name.new.names c.loop-i.rec _ c.in_err-set.ensures)

pub loop-i-preserved : goal.loop-i-preserved
loop-i-preserved c =
    partway_high c.loop-i.invariant c.requires.room (omega arith) c.from-code.ensures c.if-code-lt-FIRST_VARIABLE.false c.in_ok-set.ensures

pub returns : goal.returns
returns c = partway_end c.loop-i.invariant (omega arith)
