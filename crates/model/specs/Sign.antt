-- Well-formed terms: each symbol with its arity, and no predicate inside a term. Assumes nothing.
use Rattle.std.specs.Prelude.{ℕ, zero, suc, Bool, true, false, List, [], ◌∷◌}
use Rattle.std.proofs.Math.Option.{Option, none, some}
use Rattle.model.specs.Term.{Term, var, con, ◌·◌, both}
use Rattle.model.specs.Rule.{Rule}

-- What a symbol table says of a token: its arity where it is a function or a name, and where it is a predicate.
pub record Signature : Type 0 where
  pub function : ℕ → Option ℕ
  pub predicate : ℕ → Option ℕ

-- One argument fewer is wanted, if one is wanted and what is given wants none itself.
unfoldable pub given : Option ℕ → Option ℕ → Option ℕ
given none b = none
given (some zero) b = none
given (some (suc n)) none = none
given (some (suc n)) (some zero) = some n
given (some (suc n)) (some (suc m)) = none

-- How many arguments a term still wants; none where it is no part of a well-formed term.
unfoldable pub wants : Signature → Term → Option ℕ
wants S (var x) = some 0
wants S (con f) = S.function f
wants S (a · b) = given (wants S a) (wants S b)

-- The same of a fact.
unfoldable pub fact_wants : Signature → Term → Option ℕ
fact_wants S (var x) = none
fact_wants S (con p) = S.predicate p
fact_wants S (a · b) = given (fact_wants S a) (wants S b)

unfoldable pub whole : Option ℕ → Bool
whole none = false
whole (some zero) = true
whole (some (suc n)) = false

unfoldable pub is_term : Signature → Term → Bool
is_term S t = whole (wants S t)

unfoldable pub is_fact : Signature → Term → Bool
is_fact S t = whole (fact_wants S t)

unfoldable pub are_facts : Signature → List Term → Bool
are_facts S [] = true
are_facts S (t ∷ l) = both (is_fact S t) (are_facts S l)

unfoldable pub well_formed : Signature → Rule → Bool
well_formed S r = both (is_fact S r.concl) (are_facts S r.hyps)
