-- Well-formed terms and facts keep the arities that the nodes go by. Assumes nothing.
use Rattle.std.specs.Prelude.{ℕ, suc, true, List, ◌≡◌}
use Rattle.std.proofs.Math.Option.{some}
use Rattle.std.proofs.Math.Path.{subst}
use Rattle.model.specs.Term.{Term, var, con, ◌·◌}
use Rattle.model.specs.Sign.{Signature, wants, fact_wants, is_fact}
use Rattle.theory.specs.Basics.{no_confusion}
use Rattle.theory.specs.Mend.{wants_left, wants_right, fact_wants_left, fact_wants_right, is_fact_wants}
use Rattle.records.specs.Symbols.{arity_of}
use Rattle.records.specs.TokenLaws.{EachVar, Small, Agrees}
use Rattle.unify.specs.Nodes.{Wf, wvar, wcon, wapp}

module _ (S : Signature) (sy : List ℕ) (A : Agrees (arity_of sy) S) where
  pub wf_term : (t : Term) (n : ℕ) → wants S t ≡ some n → EachVar Small t → Wf sy n t
  unfolding wants
  wf_term (var x) n e l = let z : 0 ≡ n = cc in subst (λ (k : ℕ). Wf sy k (var x)) z (wvar l)
  wf_term (con f) n e l = let w = A.functions f n e in subst (λ (k : ℕ). Wf sy k (con f)) w.0 (wcon w.1)
  wf_term (a · b) n e l = wapp (wf_term a (suc n) (wants_left S a b n e) l.0) (wf_term b 0 (wants_right S a b n e) l.1)

  wf_part : (t : Term) (n : ℕ) → fact_wants S t ≡ some n → EachVar Small t → Wf sy n t
  unfolding fact_wants
  wf_part (var x) n e l = no_confusion (cc)
  wf_part (con f) n e l = let w = A.predicates f n e in subst (λ (k : ℕ). Wf sy k (con f)) w.0 (wcon w.1)
  wf_part (a · b) n e l = wapp (wf_part a (suc n) (fact_wants_left S a b n e) l.0) (wf_term b 0 (fact_wants_right S a b n e) l.1)

  pub wf_fact : (t : Term) → is_fact S t ≡ true → EachVar Small t → Wf sy 0 t
  wf_fact t e l = wf_part t 0 (is_fact_wants S t e) l
