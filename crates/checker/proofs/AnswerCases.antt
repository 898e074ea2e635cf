-- The checker's answer in each case, as the functions' proofs cite it. Assumes nothing.
use mathlib.Core.Path.{◌≡◌, refl, sym, ap, ◌∙◌}
use mathlib.Core.Bool.{true, false}
use mathlib.Core.Option.{Option, none, some}
use mathlib.Core.List.{List, []}
use Prim.Native.Nat.{ℕ, zero, suc, ◌+◌, ◌-◌, ◌*◌, ◌/◌, ◌%◌, ◌≤◌}
use native.Mathlib.Nat.{div-add-mod'}
use native.Mathlib.Omega.{arith}
use borrow.Author.Tests.{leb-true, eqb-true}
use lib.ListN.{length, take, drop}
use Rattle.std.specs.Prelude.{Ok, Err, Some, None}
use Rattle.model.specs.Check.{ends}
use Rattle.theory.specs.Basics.{both_true}
use Rattle.records.specs.Symbols.{same_bytes}
use Rattle.records.specs.Rules.{tokens_of, decode_rules, decode_query}
use Rattle.records.specs.Found.{found_of}
use Rattle.records.specs.RuleLaws.{Accepted as AcceptedInput, accepted}
use Rattle.records.proofs.InputCases.{found_at, found_nothing}
use Rattle.checker.specs.declared.Rejected.TheVariants.{Length, Step as BadStep, End}
use Rattle.checker.specs.Steps.{step_tokens, decode_steps, first_bad_step, steps_length, judged, check_good}
use Rattle.checker.specs.Follows.{first_bad_bytes}
use Rattle.checker.specs.CheckLaws.{first_bad_bytes_ok, ends_ok}
use Rattle.checker.specs.Answers.{GoodInput}

-- ---- the length of the list
pub record Counted (h T most n : ℕ) : Type 0 where
  pub least : 1 ≤ n
  pub few : n ≤ most * (4 + 2 * h + T)
  pub whole : n / (4 + 2 * h + T) * (4 + 2 * h + T) ≡ n

pub counted : (h T most n : ℕ) → steps_length h T most n ≡ true → Counted h T most n
unfolding steps_length
counted h T most n e =
    let a = both_true _ _ e in
    let b = both_true _ _ a.0 in
    record {
      least = leb-true 1 n b.0;
      few = leb-true n (most * (4 + 2 * h + T)) b.1;
      whole = omega (arith, div-add-mod' n (4 + 2 * h + T), eqb-true (n % (4 + 2 * h + T)) 0 a.1);
    }

-- A whole number of steps, and at least one: the last one's number and place.
last_number : (Z n : ℕ) → 1 ≤ n → n / Z * Z ≡ n → n / Z ≡ suc (n / Z - 1)
last_number Z n h e = go (n / Z) e
  where
    go : (k : ℕ) → k * Z ≡ n → k ≡ suc (k - 1)
    go zero q = absurd (omega arith)
    go (suc k) q = omega arith

last_place : (Z n : ℕ) → 1 ≤ n → n / Z * Z ≡ n → (n / Z - 1) * Z + Z ≡ n
last_place Z n h e = go (n / Z) e
  where
    go : (k : ℕ) → k * Z ≡ n → (k - 1) * Z + Z ≡ n
    go zero q = absurd (omega arith)
    go (suc k) q = ap (λ (m : ℕ). m * Z + Z) (let z : suc k - 1 ≡ k = omega arith in z) ∙ (let z : k * Z + Z ≡ n = omega arith in z)

pub last_inside : (h T most n : ℕ) → steps_length h T most n ≡ true → 4 + 2 * h + T ≤ n
last_inside h T most n e = let c = counted h T most n e in omega (arith, last_place (4 + 2 * h + T) n c.least c.whole)

pub most_bytes : (h T most n : ℕ) → steps_length h T most n ≡ true → n ≤ most * (4 + 2 * h + T)
most_bytes h T most n e = (counted h T most n e).few

-- ---- the answer
module _ (h T most : ℕ) (sy ru qu st : List ℕ) where
  pub check_length : steps_length h T most (length st) ≡ false → check_good h T most sy ru qu st ≡ Err Length
  unfolding check_good
  check_length e = rw (e, check_good)

  module _ (G : GoodInput h T sy ru qu) (e : steps_length h T most (length st) ≡ true) where
    abbrev Z : ℕ
    Z = 4 + 2 * h + T

    abbrev steps : ℕ
    steps = length st / Z

    abbrev bad : ℕ → Option ℕ
    bad m = first_bad_bytes sy h T (length ru / (T + 8)) ru st 0 0 m

    A : AcceptedInput h T G.vars sy ru qu
    A = accepted h T G.vars sy ru qu G.good

    bad_is : {o : Option ℕ} → bad steps ≡ o → first_bad_step sy h T ru (decode_rules sy (T + 8) (length ru / (T + 8)) ru) [] steps st ≡ o
    bad_is f = sym (first_bad_bytes_ok h T G.vars G.few sy ru qu st A steps) ∙ f

    pub check_step : (i : ℕ) → found_of (bad steps) ≡ Some i → check_good h T most sy ru qu st ≡ Err (BadStep i)
    unfolding check_good judged
    check_step i f = rw (e, check_good, bad_is (found_at _ refl f), judged)

    module _ (f : found_of (bad steps) ≡ None) where
      -- the last step's fact against the query
      last_is : same_bytes (step_tokens h (take Z (drop (length st - Z) st))) (tokens_of qu) ≡ ends (decode_query sy qu) (decode_steps sy h T steps st)
      last_is =
          let c = counted h T most (length st) e in
          let n = last_number Z (length st) c.least c.whole in
          let p : length st - Z ≡ (steps - 1) * Z = omega (arith, last_place Z (length st) c.least c.whole) in
          ap (λ (k : ℕ). same_bytes (step_tokens h (take Z (drop k st))) (tokens_of qu)) p
          ∙ ends_ok h T G.vars G.few sy ru qu st A (steps - 1) (ap bad (sym n) ∙ found_nothing _ refl f)
          ∙ ap (λ (k : ℕ). ends (decode_query sy qu) (decode_steps sy h T k st)) (sym n)

      pub check_end : same_bytes (step_tokens h (take Z (drop (length st - Z) st))) (tokens_of qu) ≡ false → check_good h T most sy ru qu st ≡ Err End
      unfolding check_good judged
      check_end g = rw (e, check_good, bad_is (found_nothing _ refl f), judged, sym last_is ∙ g)

      pub check_accepts : same_bytes (step_tokens h (take Z (drop (length st - Z) st))) (tokens_of qu) ≡ true → check_good h T most sy ru qu st ≡ Ok tt
      unfolding check_good judged
      check_accepts g = rw (e, check_good, bad_is (found_nothing _ refl f), judged, sym last_is ∙ g)

pub ruleset answers = (last_inside, most_bytes, check_length, check_step, check_end, check_accepts)
