-- `unify` answers with a most general unifier or shows that there is none. Assumes nothing.
use mathlib.Core.Path.{◌∙◌}
use Rattle.std.specs.Prelude.{None}
use Rattle.unify.specs.Solve.{start_down}
use Rattle.unify.specs.Whole.{answers_at, whole_clash, whole}
use Rattle.unify.specs.Pairs.{tokens_of, nodes_of, tokens_long}
use Rattle.unify.proofs.Pair.unify.Goals as goal

pub merge-requires-clause-down : goal.merge-requires-clause-down
merge-requires-clause-down c = start_down (nodes_of c.args.self.now) 0 0 _ c.fresh.ensures

pub returns-then-not-merge : goal.returns-then-not-merge
returns-then-not-merge c =
    let p = c.args.self.now in
    answers_at (nodes_of p) c.merge.new.rep c.args.at None _ _ _ _ c.node_at-i.ensures.0 c.node_at-j.ensures.0
    (whole_clash p.symbols.now p.toks (tokens_of p) _ _ _ _ (tokens_long p) (c.merge.auto.rep ∙ c.fresh.auto.rep ∙ c.requires.rooms.0) c.fresh.ensures c.if-not-merge.ensures)

pub returns : goal.returns
returns c =
    let p = c.args.self.now in
    rw c.then_some.ensures
    (answers_at (nodes_of p) _ c.args.at _ _ _ _ _ c.node_at-i.ensures.0 c.node_at-j.ensures.0
    (whole p.symbols.now p.toks (tokens_of p) _ _ _ _ (tokens_long p) (c.merge.auto.rep ∙ c.fresh.auto.rep ∙ c.requires.rooms.0) c.fresh.ensures c.args.at c.if-not-merge.ensures _ c.finite.ensures))
