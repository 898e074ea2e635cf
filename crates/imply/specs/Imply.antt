-- Implication on the bytes of two records: the conclusion first, then a search that carries hypotheses one to one and goes back where a choice fails. Assumes nothing.
use Rattle.std.specs.Prelude.{ℕ, zero, suc, ◌+◌, ◌/◌, ◌%◌, ◌^◌, Bool, true, false, List, eqb, take, drop, get_or}
use Rattle.std.proofs.Math.Option.{Option, none, some}
use Rattle.std.specs.Int.Bits.{bit_or}
use Rattle.records.specs.Symbols.{arity_of}
use Rattle.records.specs.Tokens.{span}
use Rattle.records.specs.Rules.{tokens_of}
use Rattle.terms.specs.Facts.{fact_at}
use Rattle.matching.specs.Match.{matched, onward, unbound}

-- Is j not in the set u?
unfoldable pub free : ℕ → ℕ → Bool
free u j = eqb (u / 2 ^ j % 2) 0

-- The set u with j.
unfoldable pub used_by : ℕ → ℕ → ℕ
used_by u j = bit_or u (2 ^ j)

-- Does f say yes to one of the k numbers from j on?
unfoldable pub any : (ℕ → Bool) → ℕ → ℕ → Bool
any f j zero = false
any f j (suc k) = elim (f j) [ true ↦ true | false ↦ any f (suc j) k ]

-- Hypothesis k of the tokens rt into hypothesis j of the tokens qt, if that is not used, and then the rest.
unfoldable pub into : (ℕ → ℕ) → List ℕ → List ℕ → ℕ → ℕ → List ℕ → (ℕ → List ℕ → Bool) → ℕ → Bool
into ar rt qt k u b rest j = elim (free u j) [ false ↦ false | true ↦ onward (matched ar (fact_at ar (suc k) rt) qt (span ar (suc j) qt) b) (rest (used_by u j)) ]

-- The n hypotheses of rt from hypothesis k on go one to one into those of the m of qt that are not used.
unfoldable pub carried : (ℕ → ℕ) → List ℕ → List ℕ → ℕ → ℕ → ℕ → ℕ → List ℕ → Bool
carried ar rt qt m k zero u b = true
carried ar rt qt m k (suc n) u b = any (into ar rt qt k u b (carried ar rt qt m (suc k) n)) 0 m

-- Does the record r imply the record q?
unfoldable pub implies_bytes : List ℕ → List ℕ → List ℕ → Bool
implies_bytes sy r q =
    onward (matched (arity_of sy) (fact_at (arity_of sy) 0 (tokens_of r)) (tokens_of q) 0 unbound)
    (carried (arity_of sy) (tokens_of r) (tokens_of q) (get_or q 0 0) 0 (get_or r 0 0) 0)

-- The byte that says whether a record of room for T tokens is live: 1 live, 2 retired.
abbrev pub state_place : ℕ → ℕ
state_place T = T + 2

-- The number of the first live one of n records that implies q, where the first has number i.
unfoldable pub first_bytes : List ℕ → ℕ → List ℕ → ℕ → ℕ → List ℕ → Option ℕ
first_bytes sy T q zero i l = none
first_bytes sy T q (suc n) i l =
    elim (eqb (get_or l (state_place T) 0) 1) [
      | false ↦ first_bytes sy T q n (suc i) (drop (T + 8) l)
      | true ↦ elim (implies_bytes sy (take (T + 8) l) q) [ true ↦ some i | false ↦ first_bytes sy T q n (suc i) (drop (T + 8) l) ]
    ]
