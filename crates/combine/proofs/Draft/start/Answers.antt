use Rattle.std.proofs.Common.{◌≡◌, length, arith, ◌∙◌, length-take-le}
use Rattle.std.proofs.lemmas.Result.{err_from_is_err_and}
use Rattle.combine.proofs.Steps.{begun_over, begun}
use Rattle.combine.proofs.Draft.start.Goals as goal

pub returns-in_err-self-clause-left : goal.returns-in_err-self-clause-left
returns-in_err-self-clause-left c =
    let e = err_from_is_err_and c.from_residual.result c.from_residual.ensures.1 in
    let d = c.args.self.now in
    let room : length c.write.new.out ≡ d.of.classes.pair.toks = c.write.auto.out ∙ length-take-le d.of.classes.pair.toks d.text.now (omega (arith, d.space)) in
    rw e.1 (begun_over d c.args.place c.requires c.write.new.out room c.in_err-self.ensures)

pub returns-clause-left : goal.returns-clause-left
returns-clause-left c =
    let d = c.args.self.now in
    let room : length c.write.new.out ≡ d.of.classes.pair.toks = c.write.auto.out ∙ length-take-le d.of.classes.pair.toks d.text.now (omega (arith, d.space)) in
    begun d c.args.place c.requires c.write.new.out room c.in_ok-self.field-0 c.in_ok-self.ensures
