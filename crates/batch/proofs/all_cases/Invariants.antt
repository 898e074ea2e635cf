-- `batch::all_cases` meets its contract. The invariant: each case so far was answered. Assumes nothing.
use Rattle.batch.specs.Cases.{AllAnswered}
use Rattle.batch.proofs.all_cases.Given as goal

abbrev pub invariant-loop-turn : goal.invariant-loop-turn
invariant-loop-turn g l =
    AllAnswered l._turn (g.R.Read.remaining l.initial.input) (g.R.Read.remaining l.input) (g.W.Write.contents l.initial.out) (g.W.Write.contents l.out)
