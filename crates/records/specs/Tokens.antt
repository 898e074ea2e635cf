-- Prefix tokens and terms: what a list of tokens holds, and the tokens of a term. Assumes nothing.
use Rattle.std.specs.Prelude.{ℕ, zero, suc, ◌+◌, true, false, List, [], ◌∷◌, ltb, take, drop}
use Rattle.model.specs.Term.{Term, var, con, ◌·◌}
use Rattle.model.specs.Rule.{Rule}

-- Tokens below this are variables, the others symbols.
abbrev pub first_symbol : ℕ
first_symbol = 64

-- The tokens of a term, put in front of a list: its leaves from left to right.
unfoldable pub leaves : Term → List ℕ → List ℕ
leaves (var x) l = x ∷ l
leaves (con f) l = f ∷ l
leaves (a · b) l = leaves a (leaves b l)

unfoldable pub leaves_all : List Term → List ℕ
leaves_all [] = []
leaves_all (t ∷ l) = leaves t (leaves_all l)

unfoldable pub leaf : ℕ → Term
leaf t = elim (ltb t first_symbol) [ true ↦ var t | false ↦ con t ]

unfoldable pub applied : Term → List Term → Term
applied t [] = t
applied t (a ∷ l) = applied (t · a) l

-- The terms that stand in a list of tokens one after another, where `ar` gives each token's arity: from the right, a token takes the terms after it as arguments.
unfoldable pub terms : (ℕ → ℕ) → List ℕ → List Term
terms ar [] = []
terms ar (t ∷ ts) = applied (leaf t) (take (ar t) (terms ar ts)) ∷ drop (ar t) (terms ar ts)

-- How many tokens the first n terms of a list take; a walk past the end stops there.
unfoldable pub span : (ℕ → ℕ) → ℕ → List ℕ → ℕ
span ar n [] = 0
span ar zero (t ∷ ts) = 0
span ar (suc n) (t ∷ ts) = suc (span ar (n + ar t) ts)

-- A conclusion and hypotheses from a list of facts.
unfoldable pub rule_of : List Term → Rule
rule_of [] = record { concl = con 0; hyps = [] }
rule_of (c ∷ hs) = record { concl = c; hyps = hs }
