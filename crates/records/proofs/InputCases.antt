-- Laws of which input is refused: a refusal of one table ends the test, and a good table passes it on. Assumes nothing.
use mathlib.Core.Path.{◌≡◌, refl, sym, ap, ◌∙◌}
use mathlib.Core.Bool.{Bool, true, false}
use mathlib.Core.Option.{Option, none, some}
use mathlib.Core.List.{List}
use Prim.Native.Nat.{ℕ, ◌+◌, ◌*◌, ◌/◌, ◌%◌, ◌≤◌}
use native.Mathlib.Omega.{arith}
use borrow.Author.Tests.{leb-true}
use lib.Dec.{eqb, leb}
use lib.ListN.{length}
use Rattle.std.specs.Prelude.{Result, Ok, Err, Some, None}
use Rattle.std.specs.Prelude as code
use Rattle.theory.specs.Basics.{no_confusion, both_true}
use Rattle.records.specs.declared.Fault.TheVariants.{Length, Record}
use Rattle.records.specs.declared.Refusal.{Refusal}
use Rattle.records.specs.declared.Refusal.TheVariants.{Symbols, Rules}
use Rattle.records.specs.Found.{found_of}
use Rattle.records.specs.Symbols.{symbols_length, first_bad_symbol}
use Rattle.records.specs.Rules.{first_bad_rule}
use Rattle.records.specs.Input.{query_input, rules_length, rules_input, symbols_alone, rules_alone, input_of}

-- ---- what a search found
at : (o : Option ℕ) (i : ℕ) → found_of o ≡ Some i → o ≡ some i
at (some j) i e = ap some (let f : j ≡ i = cc in f)
at none i e = no_confusion (cc)

nothing : (o : Option ℕ) → found_of o ≡ None → o ≡ none
nothing (some j) e = no_confusion (cc)
nothing none e = refl

pub found_at : (o : Option ℕ) {f : code.Option ℕ} {i : ℕ} → f ≡ found_of o → f ≡ Some i → o ≡ some i
found_at o {i = i} e g = at o i (sym e ∙ g)

pub found_nothing : (o : Option ℕ) {f : code.Option ℕ} → f ≡ found_of o → f ≡ None → o ≡ none
found_nothing o e g = nothing o (sym e ∙ g)

-- ---- the tables
abbrev Answer : Type 0
Answer = Result Unit Refusal

-- A length and a search, each with its refusal, and what is answered where both are good.
abbrev tested : Bool → Option ℕ → Refusal → (ℕ → Refusal) → Answer → Answer
tested c o f g a = elim c [ false ↦ Err f | true ↦ elim o [ some i ↦ Err (g i) | none ↦ a ] ]

stops : (c : Bool) (o : Option ℕ) (f : Refusal) (g : ℕ → Refusal) (a : Answer) (e : Refusal) → ◌≡◌ {A = Answer} (tested c o f g (Ok tt)) (Err e) → ◌≡◌ {A = Answer} (tested c o f g a) (Err e)
stops false o f g a e h = h
stops true (some i) f g a e h = h
stops true none f g a e h = no_confusion (cc)

goes_on : (c : Bool) (o : Option ℕ) (f : Refusal) (g : ℕ → Refusal) (a : Answer) (u : Unit) → ◌≡◌ {A = Answer} (tested c o f g (Ok tt)) (Ok u) → ◌≡◌ {A = Answer} (tested c o f g a) a
goes_on false o f g a u h = no_confusion (cc)
goes_on true (some i) f g a u h = no_confusion (cc)
goes_on true none f g a u h = refl

module _ (sy : List ℕ) (h T v : ℕ) (ru qu : List ℕ) where
  abbrev bad_symbol : Option ℕ
  bad_symbol = first_bad_symbol sy (length sy / 16) 0 sy

  abbrev bad_rule : Option ℕ
  bad_rule = first_bad_rule sy h T v (length ru / (T + 8)) 0 ru

  pub input_symbols : (e : Refusal) → symbols_alone sy ≡ Err e → input_of h T v sy ru qu ≡ Err e
  unfolding symbols_alone input_of
  input_symbols e k = stops (symbols_length (length sy)) bad_symbol (Symbols Length) (λ i. Symbols (Record i)) (rules_input sy h T v ru qu) e k

  pub input_rules : (u : Unit) → symbols_alone sy ≡ Ok u → input_of h T v sy ru qu ≡ rules_input sy h T v ru qu
  unfolding symbols_alone input_of
  input_rules u k = goes_on (symbols_length (length sy)) bad_symbol (Symbols Length) (λ i. Symbols (Record i)) (rules_input sy h T v ru qu) u k

  pub rules_refused : (e : Refusal) → rules_alone sy h T v ru ≡ Err e → rules_input sy h T v ru qu ≡ Err e
  unfolding rules_alone rules_input
  rules_refused e k = stops (rules_length T (length ru)) bad_rule (Rules Length) (λ i. Rules (Record i)) (query_input sy T qu) e k

  pub rules_query : (u : Unit) → rules_alone sy h T v ru ≡ Ok u → rules_input sy h T v ru qu ≡ query_input sy T qu
  unfolding rules_alone rules_input
  rules_query u k = goes_on (rules_length T (length ru)) bad_rule (Rules Length) (λ i. Rules (Record i)) (query_input sy T qu) u k

pub ruleset inputs = (input_symbols, input_rules, rules_refused, rules_query)

-- ---- the length of the rules
pub rules_fit : (T n : ℕ) → T ≤ 248 → rules_length T n ≡ true → n ≤ 65536
unfolding rules_length
rules_fit T n h e = let k = leb-true n (256 * (T + 8)) (both_true (leb n (256 * (T + 8))) (eqb (n % (T + 8)) 0) e).0 in omega arith
