-- `checker::steps::StepList::follows` meets its contract: a match of the conclusion, and then those of the hypotheses. Assumes nothing.
use Rattle.std.proofs.Common.{rules, sym, ◌∙◌}
use Rattle.checker.proofs.Laws.{follows_yes}
use Rattle.checker.proofs.steps.StepList.follows.Goals as goal

pub returns-then-match_at : goal.returns-then-match_at
returns-then-match_at c = c.uses_matched.ensures ∙ rw (c.match_at.ensures.1, c.fact_at.ensures) (sym (follows_yes _ _ _ _ _ _ _ _ _ c.fact.ensures (search rules)))
