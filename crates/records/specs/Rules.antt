-- Rule records and the query as bytes: count of hypotheses, count of tokens, the tokens, and what is left. Assumes nothing.
-- A record of room for T tokens has T + 8 bytes: 2 counts, the tokens, and 6 bytes of state and origin.
use Rattle.std.specs.Prelude.{ℕ, zero, suc, ◌+◌, ◌-◌, Bool, true, false, List, [], ◌∷◌, ◌++◌, eqb, leb, ltb, length, take, drop, get_or, replicate}
use Rattle.std.proofs.Math.Option.{Option, none, some}
use Rattle.model.specs.Term.{Term, both, size}
use Rattle.model.specs.Rule.{Rule, size_all}
use Rattle.records.specs.Tokens.{leaves_all, terms, rule_of}
use Rattle.records.specs.Symbols.{kind_of, arity_of, is_function, zeros}

-- May the token stand inside a term, where variables go from 1 to v?
unfoldable pub in_term : List ℕ → ℕ → ℕ → Bool
in_term sy v t = elim (ltb t 64) [ true ↦ both (leb 1 t) (leb t v) | false ↦ is_function (kind_of sy t) ]

-- Do the tokens end the fact that is being read, which still wants `need` terms, and then hold exactly n facts more?
unfoldable pub good_tokens : List ℕ → ℕ → ℕ → ℕ → List ℕ → Bool
good_tokens sy v zero zero [] = true
good_tokens sy v zero zero (t ∷ ts) = false
good_tokens sy v zero (suc n) [] = false
good_tokens sy v zero (suc n) (t ∷ ts) = elim (eqb (kind_of sy t) 1) [ true ↦ good_tokens sy v (arity_of sy t) n ts | false ↦ false ]
good_tokens sy v (suc m) n [] = false
good_tokens sy v (suc m) n (t ∷ ts) = elim (in_term sy v t) [ true ↦ good_tokens sy v (m + arity_of sy t) n ts | false ↦ false ]

-- The counted tokens of a record.
unfoldable pub tokens_of : List ℕ → List ℕ
tokens_of rec = take (get_or rec 1 0) (drop 2 rec)

-- An input rule: at most h hypotheses, 2 to T tokens, which are that many facts; all after them is zero.
unfoldable pub rule_good : List ℕ → ℕ → ℕ → ℕ → List ℕ → Bool
rule_good sy h T v rec =
    both (both (leb (get_or rec 0 0) h) (both (leb 2 (get_or rec 1 0)) (leb (get_or rec 1 0) T)))
    (both (good_tokens sy v 0 (suc (get_or rec 0 0)) (tokens_of rec)) (zeros (drop (2 + get_or rec 1 0) rec)))

-- The number of the first bad one of n records of that size, the first with number i.
unfoldable pub first_bad_rule : List ℕ → ℕ → ℕ → ℕ → ℕ → ℕ → List ℕ → Option ℕ
first_bad_rule sy h T v zero i l = none
first_bad_rule sy h T v (suc n) i l = elim (rule_good sy h T v (take (T + 8) l)) [ false ↦ some i | true ↦ first_bad_rule sy h T v n (suc i) (drop (T + 8) l) ]

-- ---- what the bytes hold
unfoldable pub decode_rule : List ℕ → List ℕ → Rule
decode_rule sy rec = rule_of (terms (arity_of sy) (tokens_of rec))

-- n records of that size.
unfoldable pub decode_rules : List ℕ → ℕ → ℕ → List ℕ → List Rule
decode_rules sy size zero l = []
decode_rules sy size (suc n) l = decode_rule sy (take size l) ∷ decode_rules sy size n (drop size l)

-- The conclusion of the record that a query is.
unfoldable pub decode_query : List ℕ → List ℕ → Term
decode_query sy rec = (decode_rule sy rec).concl

-- The bytes of an input record of room for T tokens that holds a rule: the counts, the tokens, and zeros to the end.
unfoldable pub encode_input : ℕ → Rule → List ℕ
encode_input T r =
    let tokens = size r.concl + size_all r.hyps in
    length r.hyps ∷ tokens ∷ (leaves_all (r.concl ∷ r.hyps) ++ replicate (T + 6 - tokens) 0)
