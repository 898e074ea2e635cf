-- Cheap necessary things of implication: the counts of hypotheses, and the symbols that a fact begins with. `ar` gives each token's arity. Assumes nothing.
use Rattle.std.specs.Prelude.{ℕ, suc, Bool, true, false, List, [], ◌∷◌, eqb, leb, ltb, get_or}
use Rattle.model.specs.Term.{both}
use Rattle.records.specs.Tokens.{first_symbol, span}
use Rattle.records.specs.Rules.{tokens_of}
use Rattle.terms.specs.Facts.{fact_at}
use Rattle.imply.specs.Imply.{any}

-- Do the symbols before a pattern's first variable stand in the text from place p on?
unfoldable pub may_match : List ℕ → List ℕ → ℕ → Bool
may_match [] text p = true
may_match (t ∷ ts) text p = elim (ltb t first_symbol) [ true ↦ true | false ↦ elim (eqb t (get_or text p 0)) [ true ↦ may_match ts text (suc p) | false ↦ false ] ]

-- May the tokens of a fact match one of the m hypotheses of the tokens qt?
unfoldable pub has_place : (ℕ → ℕ) → List ℕ → ℕ → List ℕ → Bool
has_place ar qt m fact = any (λ j. may_match fact qt (span ar (suc j) qt)) 0 m

-- May the record r imply the record q, by the counts of hypotheses and the symbols that the conclusions begin with?
unfoldable pub may_imply : (ℕ → ℕ) → List ℕ → List ℕ → Bool
may_imply ar r q = both (leb (get_or r 0 0) (get_or q 0 0)) (may_match (fact_at ar 0 (tokens_of r)) (tokens_of q) 0)
