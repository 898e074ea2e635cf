use Rattle.std.proofs.Common.{◌≡◌, add-one, ap, Err, Ok, Result}
use Rattle.std.specs.Result.{IsErrOf, IsErrAnd}
use Rattle.batch.specs.declared.head.CaseError.{CaseError}
use Rattle.batch.specs.declared.head.CaseError.TheVariants.{Bad}
use Rattle.batch.specs.Cases.AllAnswered.{nothing, then}
use Rattle.batch.specs.Cases.IsBadCase.{head, body}
use Rattle.batch.proofs.all_cases.Goals as goal

-- the error that a `?` hands on is the one that came
handed : {A B : Type 0} (r : Result A CaseError) (x : CaseError) → IsErrAnd r (λ e. e ≡ x) → IsErrOf r Bad → IsErrOf {T = B} (Err x) Bad
handed (Ok a) x h e = absurd h
handed (Err y) x h e = let f : x ≡ Bad = cc in ap Err f

pub loop-turn-init : goal.loop-turn-init
loop-turn-init g c = nothing

pub loop-turn-preserved : goal.loop-turn-preserved
loop-turn-preserved g c = rw add-one (then c.loop-turn.invariant (rw c.in-Some.is at c.in_ok-case.ensures.case) c.in_ok-answer.ensures.ok)

pub returns-in_err-case-clause-bad : goal.returns-in_err-case-clause-bad
returns-in_err-case-clause-bad g c = λ e. record {
  count = c.loop-turn._turn;
  at = g.R.Read.remaining c.loop-turn.input;
  answered = c.loop-turn.invariant;
  stops = head (c.in_err-case.ensures.bad (handed _ _ c.from_residual.ensures.1 e));
}

pub returns-in_err-answer-clause-bad : goal.returns-in_err-answer-clause-bad
returns-in_err-answer-clause-bad g c = λ e.
    let b = handed {B = Unit} _ _ c.from_residual-in_err-answer.ensures.1 e in
    record {
      count = c.loop-turn._turn;
      at = g.R.Read.remaining c.loop-turn.input;
      answered = rw (c.in_err-answer.ensures.unwritten b) c.loop-turn.invariant;
      stops = body (rw c.in-Some.is at c.in_ok-case.ensures.case) (c.in_err-answer.ensures.bad b);
    }
