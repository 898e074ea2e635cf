use Rattle.std.proofs.Common.{[], ◌∷◌, ◌+◌, length, ap, arith}
use Rattle.std.proofs.lemmas.Result.{err_from_is_err_and}
use Rattle.combine.specs.declared.Instances.{Instances}
use Rattle.combine.specs.Draft.{node_of}
use Rattle.combine.proofs.Steps.{holds_now, step_in, same_room, going_skip, going_on, going_over, going_end}
use Rattle.combine.proofs.Draft.add_side.Goals as goal

pub loop-at-preserved-then-place-skip : goal.loop-at-preserved-then-place-skip
loop-at-preserved-then-place-skip c =
    let a = c.args in
    let d = a.self.now in
    let l = c.loop-at in
    let f = c.in-Some in
    record {
      same = l.invariant.same;
      going = λ ns h. going_skip d.of (length d.starts.now) a.rec.now a.base a.skip l.self l.at-iterator c.next.new.self (f.at, f.field-0-1) f.ensures.steps ns (l.invariant.going ns h) c.if-place-skip.true;
    }

pub add-requires-clause-held : goal.add-requires-clause-held
add-requires-clause-held c =
    let g = c.loop-at.invariant.going c.requires.held.0 c.requires.held.1 in
    (g.along.nodes, holds_now c.args.self.now c.loop-at.self c.loop-at.invariant.same g.along.nodes g.along.built)

pub add-requires-clause-inside : goal.add-requires-clause-inside
add-requires-clause-inside c =
    let g = c.loop-at.invariant.going c.requires.held.0 c.requires.held.1 in
    omega (arith, c.requires.inside, c.in-Some.ensures.steps.1, c.loop-at.at-iterator.inside, ap length g.tokens, ap (λ (x : Instances). x.classes.pair.toks) c.loop-at.invariant.same.0)

pub loop-at-preserved : goal.loop-at-preserved
loop-at-preserved c =
    let a = c.args in
    let d = a.self.now in
    let l = c.loop-at in
    let f = c.in-Some in
    record {
      same = same_room d l.self c.add.new.self l.invariant.same c.add.ensures.same;
      going = λ ns h.
          going_on d.of (length d.starts.now) a.rec.now a.base a.skip l.self l.at-iterator c.next.new.self (f.at, f.field-0-1) f.ensures.steps ns (l.invariant.going ns h) c.if-place-skip.false c.add.new.self c.add.result
          (step_in d l.self l.invariant.same (λ (x : Instances). node_of x (a.base + f.at) ∷ []) c.add.new.self c.add.result c.add.ensures.left) _ c.in_ok-add.was;
    }

pub returns-in_err-add-clause-left : goal.returns-in_err-add-clause-left
returns-in_err-add-clause-left c =
    let e = err_from_is_err_and c.from_residual.result c.from_residual.ensures.1 in
    let a = c.args in
    let d = a.self.now in
    let l = c.loop-at in
    let f = c.in-Some in
    rw e.1
    (
    λ ns h.
    going_over d.of (length d.starts.now) a.rec.now a.base a.skip l.self l.at-iterator c.next.new.self (f.at, f.field-0-1) f.ensures.steps ns (l.invariant.going ns h) c.if-place-skip.false c.add.new.self c.add.result
    (step_in d l.self l.invariant.same (λ (x : Instances). node_of x (a.base + f.at) ∷ []) c.add.new.self c.add.result c.add.ensures.left) _ c.in_err-add.was
    )

pub returns-clause-left : goal.returns-clause-left
returns-clause-left c = λ ns h.
    let a = c.args in
    let d = a.self.now in
    let l = c.loop-at in
    going_end d.of (length d.starts.now) a.rec.now a.base a.skip l.self l.at-iterator c.next.new.self c.in-None.ensures.steps ns (l.invariant.going ns h)
