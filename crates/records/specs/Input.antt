-- Which input is refused, by which table and for which cause, and the number and place of it. Assumes nothing.
use Rattle.std.specs.Prelude.{ℕ, ◌+◌, ◌*◌, ◌/◌, ◌%◌, Bool, true, false, List, eqb, leb, length, Result, Ok, Err}
use Rattle.std.proofs.Math.Option.{none, some}
use Rattle.model.specs.Term.{both}
use Rattle.records.specs.declared.Fault.{Fault}
use Rattle.records.specs.declared.Fault.TheVariants.{Length, Record}
use Rattle.records.specs.declared.Refusal.{Refusal}
use Rattle.records.specs.declared.Refusal.TheVariants.{Symbols, Rules, Query}
use Rattle.records.specs.Symbols.{symbols_length, first_bad_symbol}
use Rattle.records.specs.Rules.{rule_good, first_bad_rule}

-- The numbers of the causes, and their places.
abbrev pub refusal_number : Refusal → ℕ
refusal_number (Symbols f) = 2
refusal_number (Rules f) = 3
refusal_number (Query f) = 4

abbrev pub fault_place : Fault → ℕ
fault_place Length = 65535
fault_place (Record i) = i

abbrev pub refusal_place : Refusal → ℕ
refusal_place (Symbols f) = fault_place f
refusal_place (Rules f) = fault_place f
refusal_place (Query f) = 0

-- ---- the order: symbols, rules, query; in each length and count before the records
unfoldable pub query_input : List ℕ → ℕ → List ℕ → Result Unit Refusal
query_input sy T qu =
    elim (eqb (length qu) (T + 8)) [
      | false ↦ Err (Query Length)
      | true ↦ elim (rule_good sy 0 T 0 qu) [ false ↦ Err (Query (Record 0)) | true ↦ Ok tt ]
    ]

-- At most 256 rules, and nothing over.
unfoldable pub rules_length : ℕ → ℕ → Bool
rules_length T n = both (leb n (256 * (T + 8))) (eqb (n % (T + 8)) 0)

-- The symbols, and the rules: each refusal of one table alone.
unfoldable pub symbols_alone : List ℕ → Result Unit Refusal
symbols_alone sy =
    elim (symbols_length (length sy)) [
      | false ↦ Err (Symbols Length)
      | true ↦ elim (first_bad_symbol sy (length sy / 16) 0 sy) [ some i ↦ Err (Symbols (Record i)) | none ↦ Ok tt ]
    ]

unfoldable pub rules_alone : List ℕ → ℕ → ℕ → ℕ → List ℕ → Result Unit Refusal
rules_alone sy h T v ru =
    elim (rules_length T (length ru)) [
      | false ↦ Err (Rules Length)
      | true ↦ elim (first_bad_rule sy h T v (length ru / (T + 8)) 0 ru) [ some i ↦ Err (Rules (Record i)) | none ↦ Ok tt ]
    ]

unfoldable pub rules_input : List ℕ → ℕ → ℕ → ℕ → List ℕ → List ℕ → Result Unit Refusal
rules_input sy h T v ru qu =
    elim (rules_length T (length ru)) [
      | false ↦ Err (Rules Length)
      | true ↦ elim (first_bad_rule sy h T v (length ru / (T + 8)) 0 ru) [ some i ↦ Err (Rules (Record i)) | none ↦ query_input sy T qu ]
    ]

-- The input with records of at most h hypotheses, T tokens and v variables.
unfoldable pub input_of : ℕ → ℕ → ℕ → List ℕ → List ℕ → List ℕ → Result Unit Refusal
input_of h T v sy ru qu =
    elim (symbols_length (length sy)) [
      | false ↦ Err (Symbols Length)
      | true ↦ elim (first_bad_symbol sy (length sy / 16) 0 sy) [ some i ↦ Err (Symbols (Record i)) | none ↦ rules_input sy h T v ru qu ]
    ]
