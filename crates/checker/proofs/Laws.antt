-- Laws of steps as bytes that the functions' proofs cite: what is read of a step, and a turn and the end of each loop. Assumes nothing.
use mathlib.Core.Path.{◌≡◌, ap, ap₂, ◌∙◌}
use mathlib.Core.Bool.{true, false}
use mathlib.Core.Option.{none, some}
use mathlib.Core.List.{List}
use Prim.Native.Nat.{ℕ, ◌+◌, ◌-◌, ◌*◌, ◌/◌, ◌≤◌, ◌<◌}
use native.Mathlib.Nat.{add-mul, mul-le-mul, mul-le-mul_right, div-mul-le_self}
use native.Mathlib.Numerals.{add-one}
use native.Mathlib.Omega.{arith}
use borrow.Author.Tests.{lt-ltb, le-ltb}
use lib.ListN.{length, take, drop, get_or, length-take, length-drop}
use lib.Seq.{get_or-take}
use Rattle.records.specs.Rules.{tokens_of}
use Rattle.records.proofs.Laws.{less}
use Rattle.terms.specs.Facts.{fact_at}
use Rattle.matching.specs.Match.{matched, onward, unbound}
use Rattle.matching.proofs.Laws.{onward_no, onward_yes}
use Rattle.checker.specs.Steps.{two}
use Rattle.checker.specs.Follows.{uses_matched, follows_bytes, rule_tokens, step_good, first_bad_bytes}

-- ---- where records and facts stand
pub rule_place : (r T : ℕ) → r < 65536 → T ≤ 248 → r * (T + 8) ≤ 16777216
rule_place r T h k = omega (arith, mul-le-mul {n₁ = r} {m₁ = T + 8} {n₂ = 65536} {m₂ = 256} (omega arith) (omega arith))

-- The place in an earlier step is inside the text that holds i steps.
pub use_place : (u i Z p n : ℕ) → u < i → p ≤ Z → i * Z ≤ n → u * Z + p ≤ n
use_place u i Z p n h k l = let z : (u + 1) * Z ≤ i * Z = mul-le-mul_right Z (omega arith) in omega (arith, add-mul u 1 Z)

-- Step i is inside the text, where that holds more steps.
pub step_place : (i Z n : ℕ) → i < n / Z → i * Z + Z ≤ n
step_place i Z n h = let z : (i + 1) * Z ≤ n / Z * Z = mul-le-mul_right Z (omega arith) in omega (arith, add-mul i 1 Z, div-mul-le_self n Z)

-- ---- the hypotheses of a rule from number k of n on, under the bindings b
module _ (ar : ℕ → ℕ) (size place : ℕ) (rt st : List ℕ) (i : ℕ) (s : List ℕ) (n k : ℕ) (b : List ℕ) where
  module _ (h : k < n) (u : ℕ) (e : u ≡ two s (4 + 2 * k)) where
    pub uses_late : i ≤ u → uses_matched ar size place rt st i s k (n - k) b ≡ false
    unfolding uses_matched
    uses_late l = rw (less n k h, ← e, le-ltb u i l, uses_matched)

    module _ (l : u < i) (pat : List ℕ) (f : pat ≡ fact_at ar (k + 1) rt) where
      turn : uses_matched ar size place rt st i s k (n - k) b ≡ onward (matched ar pat st (u * size + place) b) (uses_matched ar size place rt st i s (k + 1) (n - (k + 1)))
      unfolding uses_matched
      turn = rw (less n k h, lt-ltb (two s (4 + 2 * k)) i (omega arith), uses_matched, f, e, add-one k)

      pub uses_no : (matched ar pat st (u * size + place) b).0 ≡ false → uses_matched ar size place rt st i s k (n - k) b ≡ false
      uses_no m = turn ∙ onward_no _ _ m

      pub uses_yes : (matched ar pat st (u * size + place) b).0 ≡ true
          → uses_matched ar size place rt st i s k (n - k) b ≡ uses_matched ar size place rt st i s (k + 1) (n - (k + 1)) (matched ar pat st (u * size + place) b).1
      uses_yes m = turn ∙ onward_yes _ _ m

  pub uses_end : n ≤ k → uses_matched ar size place rt st i s k (n - k) b ≡ true
  unfolding uses_matched
  uses_end h = let e : n - k ≡ 0 = omega arith in rw e

pub ruleset uses = (use_place, uses_late, uses_no, uses_yes, uses_end)

-- ---- one step
module _ (ar : ℕ → ℕ) (size place : ℕ) (rt st : List ℕ) (i at : ℕ) (s pat : List ℕ) (f : pat ≡ fact_at ar 0 rt) where
  start : follows_bytes ar size place rt st i at s ≡ onward (matched ar pat st (at + place) unbound) (uses_matched ar size place rt st i s 0 (get_or s 2 0))
  unfolding follows_bytes
  start = rw f

  pub follows_no : (matched ar pat st (at + place) unbound).0 ≡ false → follows_bytes ar size place rt st i at s ≡ false
  follows_no m = start ∙ onward_no _ _ m

  pub follows_yes : (matched ar pat st (at + place) unbound).0 ≡ true
      → follows_bytes ar size place rt st i at s ≡ uses_matched ar size place rt st i s 0 (get_or s 2 0) (matched ar pat st (at + place) unbound).1
  follows_yes m = start ∙ onward_yes _ _ m

pub ruleset follow = (follows_no, follows_yes)

-- ---- the rule that a step names
pub two_front : (h T : ℕ) (l : List ℕ) → two (take (4 + 2 * h + T) l) 0 ≡ two l 0
unfolding two
two_front h T l =
    ap₂ (λ (a b : ℕ). a + 256 * b) (get_or-take (4 + 2 * h + T) l 0 0 (omega arith)) (get_or-take (4 + 2 * h + T) l (0 + 1) 0 (omega arith))

pub ruleset named = (rule_place, two_front)

-- The tokens of a rule are no longer than its record.
pub rule_short : (size r : ℕ) (ru rt : List ℕ) → rt ≡ rule_tokens size ru r → length rt ≤ size
unfolding rule_tokens tokens_of
rule_short size r ru rt e =
    let rec = take size (drop (r * size) ru) in
    omega (arith, ap length e, length-take (get_or rec 1 0) (drop 2 rec), length-drop 2 rec, length-take size (drop (r * size) ru))

-- ---- step i of n, wherever it stands
module _ (sy : List ℕ) (h T c : ℕ) (ru st : List ℕ) (n i at : ℕ) where
  pub bad_step_at : i < n → step_good sy h T c ru st i at ≡ false → first_bad_bytes sy h T c ru st i at (n - i) ≡ some i
  unfolding first_bad_bytes
  bad_step_at k e = rw (less n i k, e, first_bad_bytes)

  pub good_step_at : i < n → step_good sy h T c ru st i at ≡ true → first_bad_bytes sy h T c ru st i at (n - i) ≡ first_bad_bytes sy h T c ru st (i + 1) (at + (4 + 2 * h + T)) (n - (i + 1))
  unfolding first_bad_bytes
  good_step_at k e = rw (less n i k, e, first_bad_bytes, add-one)

  pub no_bad_step_at : n ≤ i → first_bad_bytes sy h T c ru st i at (n - i) ≡ none
  unfolding first_bad_bytes
  no_bad_step_at k = let e : n - i ≡ 0 = omega arith in rw e

-- and in its place in the list
module _ (sy : List ℕ) (h T c : ℕ) (ru st : List ℕ) (n i : ℕ) where
  pub bad_step : i < n → step_good sy h T c ru st i (i * (4 + 2 * h + T)) ≡ false → first_bad_bytes sy h T c ru st i (i * (4 + 2 * h + T)) (n - i) ≡ some i
  bad_step k e = bad_step_at sy h T c ru st n i (i * (4 + 2 * h + T)) k e

  pub good_step : i < n → step_good sy h T c ru st i (i * (4 + 2 * h + T)) ≡ true
      → first_bad_bytes sy h T c ru st i (i * (4 + 2 * h + T)) (n - i) ≡ first_bad_bytes sy h T c ru st (i + 1) ((i + 1) * (4 + 2 * h + T)) (n - (i + 1))
  good_step k e = let m : (i + 1) * (4 + 2 * h + T) ≡ i * (4 + 2 * h + T) + (4 + 2 * h + T) = omega (arith, add-mul i 1 (4 + 2 * h + T)) in rw m (good_step_at sy h T c ru st n i (i * (4 + 2 * h + T)) k e)

  pub no_bad_step : n ≤ i → first_bad_bytes sy h T c ru st i (i * (4 + 2 * h + T)) (n - i) ≡ none
  no_bad_step k = no_bad_step_at sy h T c ru st n i (i * (4 + 2 * h + T)) k

pub ruleset steps = (step_place, bad_step, good_step, no_bad_step)
