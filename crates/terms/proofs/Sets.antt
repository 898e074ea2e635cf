-- Sets of variables: how a token is added, how many there are, the first that is not there. Assumes nothing.
use mathlib.Core.Path.{◌≡◌, refl, sym, ap, ◌∙◌}
use mathlib.Core.Bool.{Bool, true, false}
use mathlib.Core.List.{List, [], ◌∷◌}
use Prim.Native.Nat.{ℕ, zero, suc, ◌+◌, ◌-◌, ◌*◌, ◌%◌, ◌^◌, ◌≤◌, ◌<◌}
use native.Mathlib.Nat.{mod-eq_of_lt}
use native.Mathlib.Omega.{arith}
use borrow.Author.Tests.{leb-true, leb-false, le-leb, lt-leb, ltb-false, eqb-true, eqb-false}
use lib.Dec.{leb, ltb, eqb}
use lib.Bits.{bit_or, or_lt}
use lib.Pow.{pow-lt}
use lib.Count.{ones, count_trailing_zeros, trailing_le}
use lib.ListN.{length}
use Rattle.theory.specs.Basics.{both_true}
use Rattle.model.specs.Term.{both, elem, distinct}
use Rattle.terms.specs.Vars.{variables, held, held_of, all_held, with_var, with_vars, gap_from}
use Rattle.terms.proofs.Digits.{digit, digit_same, digit_other, digit_zero, digit_not, ones_set, trailing_below, trailing_here}

-- 1 or 0.
abbrev pub count : Bool → ℕ
count true = 1
count false = 0

-- ---- which tokens a set may hold
pub held_yes : (t : ℕ) → 1 ≤ t → t ≤ 32 → held t ≡ true
unfolding held both
held_yes t a b = rw (le-leb _ _ a, le-leb _ _ b)

pub held_low : (t : ℕ) → t < 1 → held t ≡ false
unfolding held both
held_low t a = rw (lt-leb _ _ a)

pub held_high : (t : ℕ) → 32 < t → held t ≡ false
unfolding held both
held_high t b = let a : 1 ≤ t = omega arith in rw (le-leb _ _ a, lt-leb _ _ b)

held_range : (t : ℕ) → held t ≡ true → (1 ≤ t) × (t ≤ 32)
unfolding held
held_range t h = let p = both_true (leb 1 t) (leb t 32) h in (leb-true 1 t p.0, leb-true t 32 p.1)

-- ---- one token more
with_held : (m t : ℕ) → held t ≡ true → with_var m t ≡ bit_or m (2 ^ (t - 1))
unfolding with_var
with_held m t h = rw (h, with_var)

pub with_not : (m t : ℕ) → held t ≡ false → with_var m t ≡ m
unfolding with_var
with_not m t h = rw (h, with_var)

power_lt : (t : ℕ) → held t ≡ true → 2 ^ (t - 1) < 2 ^ 32
power_lt t h = let p = held_range t h in pow-lt {i = t - 1} {j = 32} (omega arith)

-- As the code has it.
pub with_bit : (m t : ℕ) → 1 ≤ t → t ≤ 32 → bit_or m ((1 * 2 ^ (t - 1)) % 4294967296) ≡ with_var m t
with_bit m t a b =
    let e : 1 * 2 ^ (t - 1) ≡ 2 ^ (t - 1) = omega arith in
    rw (e, mod-eq_of_lt (power_lt t (held_yes t a b))) (sym (with_held m t (held_yes t a b)))

with_lt : (m t : ℕ) → m < 2 ^ 32 → with_var m t < 2 ^ 32
with_lt m t h = go (held t) refl
  where
    go : (b : Bool) → held t ≡ b → with_var m t < 2 ^ 32
    go true e = rw (with_held m t e) (or_lt 32 m (2 ^ (t - 1)) h (power_lt t e))
    go false e = rw (with_not m t e) h

pub withs_lt : (l : List ℕ) (m : ℕ) → m < 2 ^ 32 → with_vars m l < 2 ^ 32
unfolding with_vars
withs_lt [] m h = h
withs_lt (t ∷ l) m h = withs_lt l (with_var m t) (with_lt m t h)

-- ---- the turn of a loop over the tokens, and its end
-- ---- a set says which variables there are
-- The set m holds those of the variables that are among `vs`.
abbrev Holds : ℕ → List ℕ → Type 0
Holds m vs = (v : ℕ) → held v ≡ true → digit (v - 1) m ≡ count (elem v vs)

holds_none : Holds 0 []
unfolding elem
holds_none v h = digit_zero (v - 1)

-- With t, it holds those that are among t and `vs`.
holds_with : (m : ℕ) (vs : List ℕ) (t : ℕ) → Holds m vs → held t ≡ true → Holds (with_var m t) (t ∷ vs)
unfolding elem
holds_with m vs t H h v k = go (eqb v t) refl
  where
    go : (b : Bool) → eqb v t ≡ b → digit (v - 1) (with_var m t) ≡ count (elim b [ true ↦ true | false ↦ elem v vs ])
    go true e = let q : v ≡ t = eqb-true v t e in rw (q, with_held m t h) (digit_same (t - 1) m)
    go false e =
        let p = held_range v k in
        let q = held_range t h in
        rw (with_held m t h) (digit_other (v - 1) (t - 1) m (λ d. eqb-false v t e (omega arith)) ∙ H v k)

elem_again : (t : ℕ) (vs : List ℕ) (v : ℕ) → elem t vs ≡ true → elem v (t ∷ vs) ≡ elem v vs
unfolding elem
elem_again t vs v h = go (eqb v t) refl
  where
    go : (b : Bool) → eqb v t ≡ b → elim b [ true ↦ true | false ↦ elem v vs ] ≡ elem v vs
    go true e = let q : v ≡ t = eqb-true v t e in rw (q, h)
    go false e = refl

-- ---- how many
ones_old : (m t : ℕ) → held t ≡ true → digit (t - 1) m ≡ 1 → ones (with_var m t) ≡ ones m
ones_old m t h d = omega (arith, ap ones (with_held m t h), ones_set (t - 1) m)

ones_new : (m t : ℕ) → held t ≡ true → digit (t - 1) m ≡ 0 → ones (with_var m t) ≡ ones m + 1
ones_new m t h d = omega (arith, ap ones (with_held m t h), ones_set (t - 1) m)

held_cons : (t : ℕ) (l : List ℕ) → held t ≡ true → held_of (t ∷ l) ≡ t ∷ held_of l
unfolding held_of
held_cons t l h = rw (h, held_of)

held_skip : (t : ℕ) (l : List ℕ) → held t ≡ false → held_of (t ∷ l) ≡ held_of l
unfolding held_of
held_skip t l h = rw (h, held_of)

distinct_new : (vs : List ℕ) (t : ℕ) (l : List ℕ) → elem t vs ≡ false → distinct vs (t ∷ l) ≡ t ∷ distinct (t ∷ vs) l
unfolding distinct
distinct_new vs t l h = rw (h, distinct)

distinct_old : (vs : List ℕ) (t : ℕ) (l : List ℕ) → elem t vs ≡ true → distinct vs (t ∷ l) ≡ distinct vs l
unfolding distinct
distinct_old vs t l h = rw (h, distinct)

ones_withs : (l : List ℕ) (m : ℕ) (vs : List ℕ) → Holds m vs → ones (with_vars m l) ≡ ones m + length (distinct vs (held_of l))
unfolding with_vars held_of distinct
ones_withs [] m vs H = omega arith
ones_withs (t ∷ l) m vs H = go (λ n us K. ones_withs l n us K) (held t) refl (elem t vs) refl
  where
    go : ((n : ℕ) (us : List ℕ) → Holds n us → ones (with_vars n l) ≡ ones n + length (distinct us (held_of l))) → (b : Bool) → held t ≡ b → (d : Bool) → elem t vs ≡ d
        → ones (with_vars (with_var m t) l) ≡ ones m + length (distinct vs (held_of (t ∷ l)))
    go ih false h d e = rw (with_not m t h, held_skip t l h) (ih m vs H)
    go ih true h true e =
        let r = ih (with_var m t) vs (λ v k. holds_with m vs t H h v k ∙ ap count (elem_again t vs v e)) in
        rw (held_cons t l h, distinct_old vs t (held_of l) e) (omega (arith, r, ones_old m t h (H t h ∙ ap count e)))
    go ih true h false e =
        let r = ih (with_var m t) (t ∷ vs) (holds_with m vs t H h) in
        rw (held_cons t l h, distinct_new vs t (held_of l) e) (omega (arith, r, ones_new m t h (H t h ∙ ap count e)))

ones_none : ones 0 ≡ 0
unfolding ones
ones_none = refl

-- A set of the variables of a list has as many as the list has different ones.
pub ones_distinct : (l : List ℕ) → ones (with_vars 0 l) ≡ length (distinct [] (held_of l))
ones_distinct l = omega (arith, ones_withs l 0 [] holds_none, ones_none)

-- Where every variable is from 1 to 32, these are all variables.
pub held_variables : (l : List ℕ) → all_held l ≡ true → held_of l ≡ variables l
unfolding held_of variables all_held
held_variables [] h = refl
held_variables (t ∷ l) h = go (held_variables l) (ltb t 64) refl
  where
    go : (all_held l ≡ true → held_of l ≡ variables l) → (b : Bool) → ltb t 64 ≡ b → held_of (t ∷ l) ≡ variables (t ∷ l)
    go ih true e =
        let p = both_true (held t) (all_held l) (rw (e, all_held) at h) in
        rw (held_cons t l p.0, e, variables) (ap (λ (x : List ℕ). t ∷ x) (ih p.1))
    go ih false e =
        let k = ltb-false t 64 e in
        rw (held_skip t l (held_high t (omega arith)), e, variables) (ih (rw (e, all_held) at h))

pub size_variables : (l : List ℕ) → all_held l ≡ true → ones (with_vars 0 l) ≡ length (distinct [] (variables l))
size_variables l h = ones_distinct l ∙ ap (λ (x : List ℕ). length (distinct [] x)) (held_variables l h)

-- ---- the first that is not there
abbrev or_else : Bool → ℕ → ℕ
or_else true d = 1
or_else false d = d

or_else_one : (b : Bool) → or_else b 1 ≡ 1
or_else_one true = refl
or_else_one false = refl

or_else_none : (b : Bool) → or_else b 0 ≡ count b
or_else_none true = refl
or_else_none false = refl

withs_digit : (l : List ℕ) (m v : ℕ) → held v ≡ true → digit (v - 1) (with_vars m l) ≡ or_else (elem v l) (digit (v - 1) m)
unfolding with_vars elem
withs_digit [] m v h = refl
withs_digit (t ∷ l) m v h = go (withs_digit l (with_var m t) v h) (eqb v t) refl
  where
    other : (v ≡ t → ⊥) → (b : Bool) → held t ≡ b → digit (v - 1) (with_var m t) ≡ digit (v - 1) m
    other d true e =
        let p = held_range v h in
        let q = held_range t e in
        rw (with_held m t e) (digit_other (v - 1) (t - 1) m (λ x. d (omega arith)))
    other d false e = rw (with_not m t e)

    go : digit (v - 1) (with_vars (with_var m t) l) ≡ or_else (elem v l) (digit (v - 1) (with_var m t)) → (b : Bool) → eqb v t ≡ b
        → digit (v - 1) (with_vars (with_var m t) l) ≡ or_else (elim b [ true ↦ true | false ↦ elem v l ]) (digit (v - 1) m)
    go ih true e =
        let q : v ≡ t = eqb-true v t e in
        let d : digit (v - 1) (with_var m t) ≡ 1 = rw (← q, with_held m v h) (digit_same (v - 1) m) in
        ih ∙ ap (or_else (elem v l)) d ∙ or_else_one (elem v l)
    go ih false e = ih ∙ ap (or_else (elem v l)) (other (eqb-false v t e) (held t) refl)

in_set : (l : List ℕ) (v : ℕ) → held v ≡ true → digit (v - 1) (with_vars 0 l) ≡ count (elem v l)
in_set l v h = withs_digit l 0 v h ∙ ap (or_else (elem v l)) (digit_zero (v - 1)) ∙ or_else_none (elem v l)

count_one : (b : Bool) → count b ≡ 1 → b ≡ true
count_one true h = refl
count_one false h = absurd (omega arith)

count_zero : (b : Bool) → count b ≡ 0 → b ≡ false
count_zero true h = absurd (omega arith)
count_zero false h = refl

-- A number is the first gap if all before it are there and it is not.
gap_is : (l : List ℕ) (k v r : ℕ) → v ≤ r → r ≤ v + k → ((u : ℕ) → v ≤ u → u < r → elem u l ≡ true) → (r < v + k → elem r l ≡ false) → gap_from k v l ≡ r
unfolding gap_from
gap_is l zero v r a b f g = omega arith
gap_is l (suc k) v r a b f g = go (λ x. gap_is l k (suc v) r x (omega arith) (λ u p q. f u (omega arith) q) (λ p. g (omega arith))) (leb r v) refl
  where
    go : (suc v ≤ r → gap_from k (suc v) l ≡ r) → (d : Bool) → leb r v ≡ d → elim (elem v l) [ true ↦ gap_from k (suc v) l | false ↦ v ] ≡ r
    go ih true e =
        let q = leb-true r v e in
        let s : r ≡ v = omega arith in
        let n : elem v l ≡ false = rw s at (g (omega arith)) in
        rw n (sym s)
    go ih false e =
        let q = leb-false r v e in
        let y : elem v l ≡ true = f v (omega arith) q in
        rw y (ih q)

module _ (l : List ℕ) where
  abbrev rest : ℕ
  rest = 4294967295 - with_vars 0 l

  lt : with_vars 0 l < 2 ^ 32
  lt = withs_lt l 0 (omega arith)

  pub gap_bound : count_trailing_zeros 32 rest ≤ 32
  gap_bound = trailing_le 32 rest

  below : (v : ℕ) → 1 ≤ v → v < count_trailing_zeros 32 rest + 1 → elem v l ≡ true
  below v a b =
      let t = trailing_below 32 rest (v - 1) (omega arith) in
      let n = digit_not 32 (with_vars 0 l) (v - 1) lt (omega (arith, gap_bound)) in
      let i = in_set l v (held_yes v a (omega (arith, gap_bound))) in
      count_one (elem v l) (omega (arith, t, n, i))

  here : count_trailing_zeros 32 rest + 1 < 33 → elem (count_trailing_zeros 32 rest + 1) l ≡ false
  here h =
      let t = trailing_here 32 rest (omega arith) in
      let n = digit_not 32 (with_vars 0 l) (count_trailing_zeros 32 rest) lt (omega arith) in
      let e : count_trailing_zeros 32 rest + 1 - 1 ≡ count_trailing_zeros 32 rest = omega arith in
      let i = rw e at (in_set l (count_trailing_zeros 32 rest + 1) (held_yes (count_trailing_zeros 32 rest + 1) (omega arith) (omega arith))) in
      count_zero (elem (count_trailing_zeros 32 rest + 1) l) (omega (arith, t, n, i))

  -- The zeros below what the set leaves.
  pub gap_trailing : count_trailing_zeros 32 rest + 1 ≡ gap_from 32 1 l
  gap_trailing = sym (gap_is l 32 1 (count_trailing_zeros 32 rest + 1) (omega arith) (omega (arith, gap_bound)) below here)

pub ruleset bits = (held_low, held_high, with_not, with_bit)

pub ruleset gaps = (gap_bound, gap_trailing)
