-- Steps as bytes, and the checker's judgement of the bytes of a whole input. Assumes nothing.
-- A step of h slots and T tokens has 4 + 2 h + T bytes: rule number, count, tokens, h step numbers of two bytes, the fact.
use Rattle.std.specs.Prelude.{ℕ, zero, suc, ◌+◌, ◌-◌, ◌*◌, ◌/◌, ◌%◌, Bool, true, false, List, [], ◌∷◌, ◌++◌, eqb, leb, ltb, length, take, drop, get_or, Result, Ok, Err}
use Rattle.std.proofs.Math.Option.{Option, none, some}
use Rattle.model.specs.Term.{Term, both}
use Rattle.model.specs.Rule.{Rule}
use Rattle.model.specs.Write.{Step}
use Rattle.model.specs.Check.{good_step, ends}
use Rattle.records.specs.Symbols.{arity_of, zeros}
use Rattle.records.specs.Tokens.{terms, rule_of}
use Rattle.records.specs.Rules.{good_tokens, decode_rules, decode_query}
use Rattle.records.specs.Input.{input_of}
use Rattle.checker.specs.declared.Rejected.{Rejected}
use Rattle.checker.specs.declared.Rejected.TheVariants.{Input, Length, Step as BadStep, End}

-- ---- a step's bytes
-- The number of two bytes at a place, low byte first.
unfoldable pub two : List ℕ → ℕ → ℕ
two l i = get_or l i 0 + 256 * get_or l (i + 1) 0

-- Where the tokens of a step begin.
abbrev pub fact_place : ℕ → ℕ
fact_place h = 4 + 2 * h

-- The bytes of a step.
abbrev pub step_size : ℕ → ℕ → ℕ
step_size h T = fact_place h + T

unfoldable pub step_tokens : ℕ → List ℕ → List ℕ
step_tokens h s = take (get_or s 3 0) (drop (fact_place h) s)

-- n step numbers, the first in slot k.
unfoldable pub slots : List ℕ → ℕ → ℕ → List ℕ
slots s k zero = []
slots s k (suc n) = two s (4 + 2 * k) ∷ slots s (suc k) n

unfoldable pub decode_step : List ℕ → ℕ → List ℕ → Step
decode_step sy h s = record { by = two s 0; uses = slots s 0 (get_or s 2 0); fact = (rule_of (terms (arity_of sy) (step_tokens h s))).concl }

-- n steps of that size.
unfoldable pub decode_steps : List ℕ → ℕ → ℕ → ℕ → List ℕ → List Step
decode_steps sy h T zero l = []
decode_steps sy h T (suc n) l = decode_step sy h (take (fact_place h + T) l) ∷ decode_steps sy h T n (drop (fact_place h + T) l)

-- A step's form: its rule is one of n in the table; it counts as many hypotheses as that; one closed well-formed fact of 2 to T tokens; zeros after both.
unfoldable pub form_good : List ℕ → ℕ → ℕ → ℕ → List ℕ → List ℕ → Bool
form_good sy h T n ru s =
    both (both (ltb (two s 0) n) (eqb (get_or s 2 0) (get_or ru (two s 0 * (T + 8)) 0)))
    (both (both (leb 2 (get_or s 3 0)) (leb (get_or s 3 0) T))
    (both (good_tokens sy 0 0 1 (step_tokens h s))
    (both (zeros (drop (fact_place h + get_or s 3 0) s)) (zeros (take (2 * (h - get_or s 2 0)) (drop (4 + 2 * get_or s 2 0) s))))))

-- ---- the judgement
-- An answer: accepted, or why not.
abbrev pub Checked : Type 0
Checked = Result Unit Rejected

-- The number of the first bad one of m steps that come after the steps ss: of bad form, or not following.
unfoldable pub first_bad_step : List ℕ → ℕ → ℕ → List ℕ → List Rule → List Step → ℕ → List ℕ → Option ℕ
first_bad_step sy h T ru rs ss zero l = none
first_bad_step sy h T ru rs ss (suc m) l =
    elim (both (form_good sy h T (length rs) ru (take (fact_place h + T) l)) (good_step rs ss (decode_step sy h (take (fact_place h + T) l)))) [
      | false ↦ some (length ss)
      | true ↦ first_bad_step sy h T ru rs (ss ++ (decode_step sy h (take (fact_place h + T) l) ∷ [])) m (drop (fact_place h + T) l)
    ]

-- From 1 to `most` steps, and nothing over.
unfoldable pub steps_length : ℕ → ℕ → ℕ → ℕ → Bool
steps_length h T most n = both (both (leb 1 n) (leb n (most * (fact_place h + T)))) (eqb (n % (fact_place h + T)) 0)

unfoldable pub judged : List ℕ → ℕ → ℕ → List ℕ → List Rule → Term → ℕ → List ℕ → Checked
judged sy h T ru rs q m st =
    elim (first_bad_step sy h T ru rs [] m st) [
      | some i ↦ Err (BadStep i)
      | none ↦ elim (ends q (decode_steps sy h T m st)) [ true ↦ Ok tt | false ↦ Err End ]
    ]

unfoldable pub check_good : ℕ → ℕ → ℕ → List ℕ → List ℕ → List ℕ → List ℕ → Checked
check_good h T most sy ru qu st =
    elim (steps_length h T most (length st)) [
      | false ↦ Err Length
      | true ↦ judged sy h T ru (decode_rules sy (T + 8) (length ru / (T + 8)) ru) (decode_query sy qu) (length st / (fact_place h + T)) st
    ]

-- Records of at most h hypotheses, T tokens and v variables, and at most `most` steps: what is wrong with the input, or else with the list.
unfoldable pub check_of : ℕ → ℕ → ℕ → ℕ → List ℕ → List ℕ → List ℕ → List ℕ → Checked
check_of h T v most sy ru qu st = elim (input_of h T v sy ru qu) [ Err r ↦ Err (Input r) | Ok u ↦ check_good h T most sy ru qu st ]
