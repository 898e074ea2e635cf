use mathlib.Core.Path.{sym, ◌∙◌}
use Rattle.unify.specs.Pairs.{nodes_of, tokens_long}
use Rattle.unify.specs.Whole.{far_start, far_next}
use Rattle.unify.proofs.Classes.finite.Goals as goal

pub loop-v-init : goal.loop-v-init
loop-v-init c =
    let a = c.args in
    let e = c.fill.ensures.len ∙ c.requires in
    (e, far_start (nodes_of a.self.now.pair) a.self.now.rep.now _ _ _ (sym (tokens_long a.self.now.pair)) (c.fill.ensures.after (λ y q. q)))

pub loop-v-preserved : goal.loop-v-preserved
loop-v-preserved c =
    let a = c.args in
    (c.look.auto.marks ∙ c.loop-v.invariant.0, far_next (nodes_of a.self.now.pair) a.self.now.rep.now c.loop-v.marks _ c.loop-v.v c.loop-v.invariant.1 c.if-look.ensures)
