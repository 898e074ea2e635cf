use Rattle.std.proofs.Common.{◌+◌, [], ◌∷◌, length, ap, ◌∙◌, arith, Ok, Err, refl}
use Rattle.std.proofs.lemmas.Result.{err_from_is_err_and}
use Rattle.records.specs.Rules.{tokens_of}
use Rattle.combine.specs.declared.Instances.{Instances}
use Rattle.combine.specs.Draft.{node_of, side_of}
use Rattle.combine.specs.Settle.{all_nodes, tokens_short, start_over, left_over}
use Rattle.combine.proofs.Steps.{step_in, same_room}
use Rattle.combine.proofs.Draft.gather.Goals as goal

pub returns-in_err-start-clause-left : goal.returns-in_err-start-clause-left
returns-in_err-start-clause-left c =
    let e = err_from_is_err_and c.from_residual.result c.from_residual.ensures.1 in
    let of = c.args.self.now.of in
    let p = of.classes.pair in
    rw e.1 (start_over p.symbols.now p.toks (length c.args.self.now.starts.now) c.args.at p.a.now p.b.now of.classes.rep.now of.site c.in_err-start.ensures.left)

pub add_side-requires-clause-inside : goal.add_side-requires-clause-inside
add_side-requires-clause-inside c =
    let p = c.args.self.now.of.classes.pair in
    omega (arith, tokens_short p.toks p.a.now (tokens_of p.a.now) c.requires.counts.0 refl, ap (λ (x : Instances). x.classes.pair.toks) c.start.ensures.same.0)

pub returns-in_err-add_side-clause-left : goal.returns-in_err-add_side-clause-left
returns-in_err-add_side-clause-left c =
    let e = err_from_is_err_and c.from_residual-in_err-add_side.result c.from_residual-in_err-add_side.ensures.1 in
    let d = c.args.self.now in
    let p = d.of.classes.pair in
    let side = λ (x : Instances). side_of x p.a.now 0 (p.toks + c.args.at) in
    rw e.1
    (
    left_over p.symbols.now p.toks (length d.starts.now) c.args.at p.a.now p.b.now d.of.classes.rep.now d.of.site
    (step_in d c.start.new.self c.start.ensures.same side c.add_side.new.self (Err _) c.in_err-add_side.ensures.left (node_of d.of p.toks ∷ []) c.in_ok-start.ensures.left)
    )

pub add_side-requires-2-clause-inside : goal.add_side-requires-2-clause-inside
add_side-requires-2-clause-inside c =
    let p = c.args.self.now.of.classes.pair in
    omega (arith, tokens_short p.toks p.b.now (tokens_of p.b.now) c.requires.counts.1 refl, ap (λ (x : Instances). x.classes.pair.toks) (c.add_side.ensures.same.0 ∙ c.start.ensures.same.0))

pub returns-clause-left : goal.returns-clause-left
unfolding all_nodes
returns-clause-left c =
    let d = c.args.self.now in
    let p = d.of.classes.pair in
    let side = λ (x : Instances). side_of x p.a.now 0 (p.toks + c.args.at) in
    let other = λ (x : Instances). side_of x p.b.now p.toks (p.toks + c.args.at) in
    let e = c.start.new.self in
    let f = c.add_side.new.self in
    step_in d f (same_room d e f c.start.ensures.same c.add_side.ensures.same) other c.add_side-2.new.self c.add_side-2.result c.add_side-2.ensures.left _
    (step_in d e c.start.ensures.same side f (Ok _) c.in_ok-add_side.ensures.left (node_of d.of p.toks ∷ []) c.in_ok-start.ensures.left)
