-- What the variables of a list of tokens say of the terms that it holds. Assumes nothing.
use mathlib.Core.Path.{◌≡◌, refl, ap, ◌∙◌}
use mathlib.Core.Bool.{Bool, true, false}
use mathlib.Core.List.{List, [], ◌∷◌, ◌++◌}
use Prim.Native.Nat.{ℕ, ◌<◌}
use native.Mathlib.Omega.{arith}
use borrow.Author.Tests.{ltb-true, ltb-false, ne_eqb}
use lib.Dec.{eqb, ltb}
use lib.ListN.{length, take, drop, take-append-drop}
use Rattle.model.specs.Term.{Term, ◌·◌, vars, elem, distinct}
use Rattle.model.specs.Rule.{vars_all, vars_of}
use Rattle.records.specs.Tokens.{leaf, applied, terms, rule_of}
use Rattle.records.specs.TokenLaws.{leaf_var, leaf_con}
use Rattle.records.specs.Symbols.{arity_of}
use Rattle.records.specs.Rules.{tokens_of, decode_rule}
use Rattle.terms.specs.Vars.{variables, held_of, all_held}
use Rattle.terms.proofs.Sets.{held_variables}

vars_applied : (l : List Term) (t : Term) (rest : List Term) → vars (applied t l) (vars_all rest) ≡ vars t (vars_all (l ++ rest))
unfolding vars vars_all applied
vars_applied [] t rest = refl
vars_applied (a ∷ l) t rest = vars_applied l (t · a) rest

vars_leaf : (t : ℕ) (ts : List ℕ) → vars (leaf t) (variables ts) ≡ variables (t ∷ ts)
unfolding vars variables
vars_leaf t ts = go (ltb t 64) refl
  where
    go : (b : Bool) → ltb t 64 ≡ b → vars (leaf t) (variables ts) ≡ variables (t ∷ ts)
    go true e = rw (e, variables, leaf_var t (ltb-true t 64 e))
    go false e = rw (e, variables, leaf_con t (ltb-false t 64 e))

-- The tokens of variables are the variables of the terms that the tokens hold.
pub vars_terms : (ar : ℕ → ℕ) (ts : List ℕ) → vars_all (terms ar ts) ≡ variables ts
unfolding terms vars_all variables
vars_terms ar [] = refl
vars_terms ar (t ∷ ts) =
    vars_applied (take (ar t) (terms ar ts)) (leaf t) (drop (ar t) (terms ar ts)) ∙ rw (take-append-drop, vars_terms ar ts) (vars_leaf t ts)

vars_rule : (l : List Term) → vars_of (rule_of l) ≡ distinct [] (vars_all l)
unfolding vars_of rule_of vars vars_all
vars_rule [] = refl
vars_rule (c ∷ hs) = refl

-- A record has as many different variables as the rule that it holds, where each is from 1 to 32.
pub size_rule : (sy rec : List ℕ) → all_held (tokens_of rec) ≡ true → length (distinct [] (held_of (tokens_of rec))) ≡ length (vars_of (decode_rule sy rec))
unfolding decode_rule
size_rule sy rec h =
    let ts = tokens_of rec in
    rw (held_variables ts h, vars_rule (terms (arity_of sy) ts), vars_terms (arity_of sy) ts)

-- A variable is among the tokens if and only if it is among their variables.
pub elem_variables : (v : ℕ) (ts : List ℕ) → v < 64 → elem v ts ≡ elem v (variables ts)
unfolding elem variables
elem_variables v [] h = refl
elem_variables v (t ∷ ts) h = go (elem_variables v ts h) (ltb t 64) refl
  where
    go : elem v ts ≡ elem v (variables ts) → (b : Bool) → ltb t 64 ≡ b → elem v (t ∷ ts) ≡ elem v (variables (t ∷ ts))
    go ih true e = rw (e, variables) (ap {B = Bool} (λ (x : Bool). elim (eqb v t) [ true ↦ true | false ↦ x ]) ih)
    go ih false e =
        let k = ltb-false t 64 e in
        rw (e, variables, ne_eqb v t (λ d. omega arith), elem) ih
