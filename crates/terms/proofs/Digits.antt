-- The binary digits of numbers, over any width: setting one, counting them, the lowest. Assumes nothing.
use mathlib.Core.Path.{◌≡◌, refl, ap, ◌∙◌}
use Prim.Native.Nat.{ℕ, zero, suc, ◌+◌, ◌-◌, ◌/◌, ◌%◌, ◌^◌, ◌<◌}
use native.Mathlib.Nat.{pow-suc}
use native.Mathlib.Omega.{arith}
use lib.Bits.{bit_or, or_shr, or_mod, or_zero_r}
use lib.Count.{ones, ones_step, count_trailing_zeros, under}

-- Digit i of n.
unfoldable pub digit : ℕ → ℕ → ℕ
digit zero n = n % 2
digit (suc i) n = digit i (n / 2)

or_half : (a b : ℕ) → bit_or a b / 2 ≡ bit_or (a / 2) (b / 2)
or_half a b = or_shr a b 1

or_low : (a b : ℕ) → bit_or a b % 2 ≡ bit_or (a % 2) (b % 2)
or_low a b = or_mod a b 1

or_one : (x : ℕ) → x < 2 → bit_or x 1 ≡ 1
or_one zero h = refl
or_one (suc zero) h = refl
or_one (suc (suc x)) h = absurd (omega arith)

pow_half : (j : ℕ) → 2 ^ suc j / 2 ≡ 2 ^ j
pow_half j = omega (arith, pow-suc 2 j)

pow_even : (j : ℕ) → 2 ^ suc j % 2 ≡ 0
pow_even j = omega (arith, pow-suc 2 j)

-- What a set digit leaves of the lowest digit and of the others.
set_low : (n : ℕ) → bit_or n 1 % 2 ≡ 1
set_low n = or_low n 1 ∙ or_one (n % 2) (omega arith)

set_rest : (n : ℕ) → bit_or n 1 / 2 ≡ n / 2
set_rest n = or_half n 1 ∙ or_zero_r (n / 2)

set_low_suc : (j n : ℕ) → bit_or n (2 ^ suc j) % 2 ≡ n % 2
set_low_suc j n = or_low n (2 ^ suc j) ∙ ap (bit_or (n % 2)) (pow_even j) ∙ or_zero_r (n % 2)

set_rest_suc : (j n : ℕ) → bit_or n (2 ^ suc j) / 2 ≡ bit_or (n / 2) (2 ^ j)
set_rest_suc j n = or_half n (2 ^ suc j) ∙ ap (bit_or (n / 2)) (pow_half j)

-- A digit is set, and every other stays.
pub digit_same : (j n : ℕ) → digit j (bit_or n (2 ^ j)) ≡ 1
unfolding digit
digit_same zero n = set_low n
digit_same (suc j) n = ap (digit j) (set_rest_suc j n) ∙ digit_same j (n / 2)

pub digit_other : (i j n : ℕ) → (i ≡ j → ⊥) → digit i (bit_or n (2 ^ j)) ≡ digit i n
unfolding digit
digit_other zero zero n h = absurd (h refl)
digit_other zero (suc j) n h = set_low_suc j n
digit_other (suc i) zero n h = ap (digit i) (set_rest n)
digit_other (suc i) (suc j) n h = ap (digit i) (set_rest_suc j n) ∙ digit_other i j (n / 2) (λ e. h (ap suc e))

-- Setting a digit that is 0 makes one more.
pub ones_set : (j n : ℕ) → ones (bit_or n (2 ^ j)) + digit j n ≡ ones n + 1
unfolding digit
ones_set zero n = omega (arith, ones_step (bit_or n 1), ones_step n, set_low n, ap ones (set_rest n))
ones_set (suc j) n =
    omega (arith, ones_step (bit_or n (2 ^ suc j)), ones_step n, set_low_suc j n, ap ones (set_rest_suc j n), ones_set j (n / 2))

pub digit_zero : (i : ℕ) → digit i 0 ≡ 0
unfolding digit
digit_zero zero = refl
digit_zero (suc i) = digit_zero i

-- No digit below the trailing zeros is set, and the next one is.
pub trailing_below : (k n i : ℕ) → i < count_trailing_zeros k n → digit i n ≡ 0
unfolding digit count_trailing_zeros
trailing_below zero n i h = absurd (omega arith)
trailing_below (suc k) n i h = go (λ j l. trailing_below k (n / 2) j l) (n % 2) refl i h
  where
    go : ((j : ℕ) → j < count_trailing_zeros k (n / 2) → digit j (n / 2) ≡ 0) → (d : ℕ) → n % 2 ≡ d → (i : ℕ) → i < under d (count_trailing_zeros k (n / 2)) → digit i n ≡ 0
    go ih zero e zero h = e
    go ih zero e (suc i) h = ih i (omega arith)
    go ih (suc d) e i h = absurd (omega arith)

pub trailing_here : (k n : ℕ) → count_trailing_zeros k n < k → digit (count_trailing_zeros k n) n ≡ 1
unfolding digit count_trailing_zeros
trailing_here zero n h = absurd (omega arith)
trailing_here (suc k) n h = go (λ l. trailing_here k (n / 2) l) (n % 2) refl h
  where
    go : (count_trailing_zeros k (n / 2) < k → digit (count_trailing_zeros k (n / 2)) (n / 2) ≡ 1) → (d : ℕ) → n % 2 ≡ d
        → under d (count_trailing_zeros k (n / 2)) < suc k → digit (under d (count_trailing_zeros k (n / 2))) n ≡ 1
    go ih zero e h = ih (omega arith)
    go ih (suc d) e h = omega arith

-- The digits of the complement.
pub digit_not : (k n i : ℕ) → n < 2 ^ k → i < k → digit i (2 ^ k - 1 - n) + digit i n ≡ 1
unfolding digit
digit_not zero n i h l = absurd (omega arith)
digit_not (suc k) n zero h l = omega (arith, pow-suc 2 k)
digit_not (suc k) n (suc i) h l =
    let e : (2 ^ suc k - 1 - n) / 2 ≡ 2 ^ k - 1 - n / 2 = omega (arith, pow-suc 2 k) in
    rw e (digit_not k (n / 2) i (omega (arith, pow-suc 2 k)) (omega arith))
