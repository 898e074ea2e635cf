-- The step checker's judgement of a list of steps. Assumes nothing.
use Rattle.std.specs.Prelude.{ℕ, zero, suc, Bool, true, false, List, [], ◌∷◌, ◌++◌, leb, length}
use Rattle.std.proofs.Math.Option.{Option, none, some}
use Rattle.model.specs.Term.{Term, both, same, closed, Bindings}
use Rattle.model.specs.Rule.{Rule, Limits, lookup, bind_to, match}
use Rattle.model.specs.Write.{Step, rule_at}

-- The fact of step number n, if it is below the count.
unfoldable pub fact_at : List Step → ℕ → Option Term
fact_at [] n = none
fact_at (s ∷ ss) zero = some s.fact
fact_at (s ∷ ss) (suc n) = fact_at ss n

-- The facts of the steps named, if all are there.
unfoldable pub facts_at : List Step → List ℕ → Option (List Term)
facts_at ss [] = some []
facts_at ss (n ∷ ns) = elim (fact_at ss n) [ none ↦ none | some f ↦ elim (facts_at ss ns) [ none ↦ none | some fs ↦ some (f ∷ fs) ] ]

-- One substitution that carries each term of a list to the one that stands at its place in the other, if they are as many.
unfoldable pub match_all : List Term → List Term → Bindings → Option Bindings
match_all [] [] b = some b
match_all [] (t ∷ l) b = none
match_all (p ∷ ps) [] b = none
match_all (p ∷ ps) (t ∷ l) b = elim (match p t b) [ none ↦ none | some b' ↦ match_all ps l b' ]

unfoldable pub carries : Rule → Term → List Term → Bool
carries r f fs = elim (match_all (r.concl ∷ r.hyps) (f ∷ fs) []) [ none ↦ false | some b ↦ true ]

-- Does f follow by the rule, if it is there, from the facts, if they are?
unfoldable pub follows_by : Option Rule → Term → Option (List Term) → Bool
follows_by none f o = false
follows_by (some r) f none = false
follows_by (some r) f (some fs) = carries r f fs

-- A step after the steps ss is good if its fact is closed and follows by the rule it names from the steps of ss that it names.
unfoldable pub good_step : List Rule → List Step → Step → Bool
good_step rs ss s = both (closed s.fact) (follows_by (rule_at rs s.by) s.fact (facts_at ss s.uses))

-- The number of the first bad step of a list that comes after the steps ss.
unfoldable pub first_bad : List Rule → List Step → List Step → Option ℕ
first_bad rs ss [] = none
first_bad rs ss (s ∷ l) = elim (good_step rs ss s) [ false ↦ some (length ss) | true ↦ first_bad rs (ss ++ (s ∷ [])) l ]

-- Does the last step conclude q?
unfoldable pub ends : Term → List Step → Bool
ends q [] = false
ends q (s ∷ []) = same s.fact q
ends q (s ∷ s' ∷ l) = ends q (s' ∷ l)

pub data Judgement : Type 0 where
  accepted : Judgement
  wrong_count : Judgement
  bad_step : ℕ → Judgement
  wrong_end : Judgement

-- From 1 step to as many as the limits allow; then the steps in order; then the end.
unfoldable pub judge : Limits → List Rule → Term → List Step → Judgement
unfolding both same closed lookup bind_to match rule_at fact_at facts_at match_all carries follows_by good_step first_bad ends
judge L rs q ss =
    elim (both (leb 1 (length ss)) (leb (length ss) L.max_steps)) [
      | false ↦ wrong_count
      | true ↦
          elim (first_bad rs [] ss) [
            | some i ↦ bad_step i
            | none ↦ elim (ends q ss) [ true ↦ accepted | false ↦ wrong_end ]
          ]
    ]

-- The number that stands for a judgement, and its place.
unfoldable pub judged_number : Judgement → ℕ
judged_number accepted = 0
judged_number wrong_count = 10
judged_number (bad_step i) = 11
judged_number wrong_end = 12

unfoldable pub judged_place : Judgement → ℕ
judged_place accepted = 0
judged_place wrong_count = 0
judged_place (bad_step i) = i
judged_place wrong_end = 0
