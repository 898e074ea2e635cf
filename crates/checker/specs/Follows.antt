-- Whether a step follows, as the code tests it: the rule's facts one after another against the bytes of the steps. Assumes nothing.
use Rattle.std.specs.Prelude.{ℕ, zero, suc, ◌+◌, ◌*◌, Bool, true, false, List, ltb, take, drop, get_or}
use Rattle.std.proofs.Math.Option.{Option, none, some}
use Rattle.model.specs.Term.{both}
use Rattle.records.specs.Symbols.{arity_of}
use Rattle.records.specs.Rules.{tokens_of}
use Rattle.terms.specs.Facts.{fact_at}
use Rattle.matching.specs.Match.{matched, onward, unbound}
use Rattle.checker.specs.Steps.{two, fact_place, form_good}

-- n hypotheses of a rule with the tokens rt, from hypothesis k on, each against the fact of the step that slot k names, which comes before step i.
unfoldable pub uses_matched : (ℕ → ℕ) → ℕ → ℕ → List ℕ → List ℕ → ℕ → List ℕ → ℕ → ℕ → List ℕ → Bool
uses_matched ar size place rt st i s k zero b = true
uses_matched ar size place rt st i s k (suc n) b =
    elim (ltb (two s (4 + 2 * k)) i) [
      | false ↦ false
      | true ↦ onward (matched ar (fact_at ar (suc k) rt) st (two s (4 + 2 * k) * size + place) b) (uses_matched ar size place rt st i s (suc k) n)
    ]

-- The conclusion against the step's own fact, which stands at `at`, then the hypotheses.
unfoldable pub follows_bytes : (ℕ → ℕ) → ℕ → ℕ → List ℕ → List ℕ → ℕ → ℕ → List ℕ → Bool
follows_bytes ar size place rt st i at s = onward (matched ar (fact_at ar 0 rt) st (at + place) unbound) (uses_matched ar size place rt st i s 0 (get_or s 2 0))

-- The tokens of rule number r of a table.
unfoldable pub rule_tokens : ℕ → List ℕ → ℕ → List ℕ
rule_tokens size ru r = tokens_of (take size (drop (r * size) ru))

-- Step i, which stands at `at`, has a good form and follows.
abbrev pub step_good : List ℕ → ℕ → ℕ → ℕ → List ℕ → List ℕ → ℕ → ℕ → Bool
step_good sy h T n ru st i at =
    both (form_good sy h T n ru (take (fact_place h + T) (drop at st)))
    (follows_bytes (arity_of sy) (fact_place h + T) (fact_place h) (rule_tokens (T + 8) ru (two (drop at st) 0)) st i at (take (fact_place h + T) (drop at st)))

-- The number of the first bad one of m steps, the first of which has number i and stands at `at`.
unfoldable pub first_bad_bytes : List ℕ → ℕ → ℕ → ℕ → List ℕ → List ℕ → ℕ → ℕ → ℕ → Option ℕ
first_bad_bytes sy h T n ru st i at zero = none
first_bad_bytes sy h T n ru st i at (suc m) = elim (step_good sy h T n ru st i at) [ false ↦ some i | true ↦ first_bad_bytes sy h T n ru st (suc i) (at + (fact_place h + T)) m ]
