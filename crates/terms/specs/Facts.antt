-- The facts that stand one after another in a list of tokens, the conclusion first, and which of them are open. `ar` gives each token's arity. Assumes nothing.
use Rattle.std.specs.Prelude.{Bool, true, false, List, [], ◌∷◌, ℕ, zero, suc, eqb, ltb, take, drop, get_or}
use Rattle.model.specs.Term.{both}
use Rattle.records.specs.Tokens.{first_symbol, span}
use Rattle.records.specs.Symbols.{arity_of}
use Rattle.records.specs.Rules.{tokens_of}

-- The tokens of the first fact.
abbrev pub first_fact : (ℕ → ℕ) → List ℕ → List ℕ
first_fact ar ts = take (span ar 1 ts) ts

-- The tokens from fact n on.
abbrev pub facts_from : (ℕ → ℕ) → ℕ → List ℕ → List ℕ
facts_from ar n ts = drop (span ar n ts) ts

-- The tokens of fact n; none past the last fact.
unfoldable pub fact_at : (ℕ → ℕ) → ℕ → List ℕ → List ℕ
fact_at ar n ts = first_fact ar (facts_from ar n ts)

-- The tokens of hypothesis n of a record: the conclusion stands before hypothesis 0.
unfoldable pub hypothesis_of : List ℕ → List ℕ → ℕ → List ℕ
hypothesis_of sy rec n = fact_at (arity_of sy) (suc n) (tokens_of rec)

-- Does a fact say of a lone variable that it has one of the open predicates?
unfoldable pub open_bytes : (ℕ → Bool) → List ℕ → Bool
open_bytes o [] = false
open_bytes o (p ∷ []) = false
open_bytes o (p ∷ x ∷ []) = both (o p) (ltb x first_symbol)
open_bytes o (p ∷ x ∷ y ∷ ts) = false

-- The open predicates under a symbol table: the first symbol alone, whatever the table says.
unfoldable pub base_open : List ℕ → ℕ → Bool
base_open sy p = eqb first_symbol p

-- Are the first n facts of a list of tokens all open?
unfoldable pub all_open_bytes : (ℕ → Bool) → (ℕ → ℕ) → ℕ → List ℕ → Bool
all_open_bytes o ar zero ts = true
all_open_bytes o ar (suc n) ts = both (open_bytes o (first_fact ar ts)) (all_open_bytes o ar n (facts_from ar 1 ts))

-- Are all hypotheses of a record open?
unfoldable pub hypotheses_open : List ℕ → List ℕ → Bool
hypotheses_open sy rec = all_open_bytes (base_open sy) (arity_of sy) (get_or rec 0 0) (facts_from (arity_of sy) 1 (tokens_of rec))
