-- A table of classes: each node points down or at itself. Assumes nothing.
use Prim.Native.Nat.{ℕ, zero, suc, ◌+◌, ◌≤◌, ◌<◌}
use native.Mathlib.Omega.{arith}
use native.Mathlib.Bridge.{le_prop}
use mathlib.Core.HLevel.{Π_prop}
use Rattle.std.specs.Prelude.{Bool, List, [], ◌∷◌, ◌≡◌, ◌⊎◌, ◌≢◌, length, get_or, set}
use Rattle.std.proofs.Math.Bool.{true, false}
use Rattle.std.proofs.Math.Path.{refl, ap, subst, sym}
use Rattle.std.proofs.Common.{◌∙◌, inl, inr, get_or-set_same, get_or-set_other}
use Rattle.std.proofs.Math.Dec.{eqb}
use borrow.Author.Tests.{eqb-true, eqb-false, eq-eqb, ne_eqb}

-- what a node points at; past the end, at itself
abbrev pub up : List ℕ → ℕ → ℕ
up r i = get_or r i i

unfoldable pub Down : List ℕ → Type 0
Down r = (i : ℕ) → up r i ≤ i

pub below : (r : List ℕ) → Down r → (i : ℕ) → up r i ≤ i
unfolding Down
below r d = d

pub down_prop : (r : List ℕ) → IsProp (Down r)
unfolding Down
down_prop r = Π_prop λ i. le_prop

-- n steps
unfoldable pub climb : ℕ → List ℕ → ℕ → ℕ
climb zero r i = i
climb (suc n) r i = climb n r (up r i)

-- the root of a node's class: i steps are enough, as each goes down
unfoldable pub find : List ℕ → ℕ → ℕ
find r i = climb i r i

abbrev pub Eqv : List ℕ → ℕ → ℕ → Type 0
Eqv r i j = find r i ≡ find r j

climb_fix : (r : List ℕ) (n i : ℕ) → up r i ≡ i → climb n r i ≡ i
unfolding climb
climb_fix r zero i e = refl
climb_fix r (suc n) i e = ap (climb n r) e ∙ climb_fix r n i e

pub climb_keeps : (P : ℕ → Type 0) (r : List ℕ) → ((i : ℕ) → P i → P (up r i)) → (n i : ℕ) → P i → P (climb n r i)
unfolding climb
climb_keeps P r h zero i p = p
climb_keeps P r h (suc n) i p = climb_keeps P r h n (up r i) (h i p)

module _ (r : List ℕ) (d : Down r) where
  abbrev Case : ℕ → Type 0
  Case i = (up r i ≡ i) ⊎ (up r i < i)

  step : (i : ℕ) → Case i
  step i = go (eqb (up r i) i) refl
    where
      go : (c : Bool) → eqb (up r i) i ≡ c → Case i
      go true e = inl (eqb-true _ _ e)
      go false e = inr (let n = eqb-false (up r i) i e in let b = below r d i in omega arith)

  climb_root : (n i : ℕ) → i ≤ n → up r (climb n r i) ≡ climb n r i
  unfolding climb
  climb_root zero i l = let b = below r d i in omega arith
  climb_root (suc n) i l = go (step i) (climb_root n (up r i))
    where
      go : Case i → (up r i ≤ n → up r (climb n r (up r i)) ≡ climb n r (up r i)) → up r (climb n r (up r i)) ≡ climb n r (up r i)
      go (inl e) rec = rw (climb_fix r n (up r i) (ap (up r) e)) (ap (up r) e)
      go (inr g) rec = rec (omega arith)

  climb_enough : (n m i : ℕ) → i ≤ n → i ≤ m → climb n r i ≡ climb m r i
  unfolding climb
  climb_enough zero m i l k = sym (climb_fix r m i (let b = below r d i in omega arith))
  climb_enough (suc n) zero i l k = climb_fix r (suc n) i (let b = below r d i in omega arith)
  climb_enough (suc n) (suc m) i l k = go (step i) (climb_enough n m (up r i))
    where
      go : Case i → (up r i ≤ n → up r i ≤ m → climb n r (up r i) ≡ climb m r (up r i)) → climb n r (up r i) ≡ climb m r (up r i)
      go (inl e) rec = climb_fix r n (up r i) (ap (up r) e) ∙ sym (climb_fix r m (up r i) (ap (up r) e))
      go (inr g) rec = rec (omega arith) (omega arith)

  pub find_root : (i : ℕ) → up r (find r i) ≡ find r i
  unfolding find
  find_root i = climb_root i i (omega arith)

  pub find_le : (i : ℕ) → find r i ≤ i
  unfolding find
  find_le i = climb_keeps (λ j. j ≤ i) r (λ j l. let b = below r d j in omega arith) i i (omega arith)

  pub find_up : (i : ℕ) → find r (up r i) ≡ find r i
  unfolding find climb
  find_up i = climb_enough (up r i) i (up r i) (omega arith) (below r d i) ∙ climb_enough (suc i) i i (omega arith) (omega arith)

pub find_fix : (r : List ℕ) (i : ℕ) → up r i ≡ i → find r i ≡ i
unfolding find
find_fix r i e = climb_fix r i i e

pub find_twice : (r : List ℕ) → Down r → (i : ℕ) → find r (find r i) ≡ find r i
find_twice r d i = find_fix r (find r i) (find_root r d i)

-- s has the links of r
unfoldable pub Grows : List ℕ → List ℕ → Type 0
Grows r s = (i : ℕ) → Eqv s (up r i) i

pub grows_find : (r s : List ℕ) → Grows r s → (i : ℕ) → Eqv s (find r i) i
unfolding Grows find
grows_find r s g i = climb_keeps (λ j. Eqv s j i) r (λ j e. g j ∙ e) i i refl

pub grows : (r s : List ℕ) → Grows r s → (i j : ℕ) → Eqv r i j → Eqv s i j
grows r s g i j e = sym (grows_find r s g i) ∙ ap (find s) e ∙ grows_find r s g j

pub grows_refl : (r : List ℕ) → Down r → Grows r r
unfolding Grows
grows_refl r d i = find_up r d i

pub grows_trans : (r s t : List ℕ) → Grows r s → Grows s t → Grows r t
unfolding Grows
grows_trans r s t g h i = grows s t h (up r i) i (g i)

-- two roots become one class
module _ (r : List ℕ) (d : Down r) (hi lo : ℕ) (inside : hi < length r) (root : up r hi ≡ hi) (less : lo < hi) where
  pub up_hi : up (set r hi lo) hi ≡ lo
  up_hi = get_or-set_same r hi lo hi inside

  pub up_other : (i : ℕ) → i ≢ hi → up (set r hi lo) i ≡ up r i
  up_other i n = get_or-set_other r hi i lo i n

  pub link_down : Down (set r hi lo)
  unfolding Down
  link_down i = go (eqb i hi) refl
    where
      go : (c : Bool) → eqb i hi ≡ c → up (set r hi lo) i ≤ i
      go true e = let s = eqb-true i hi e in subst (λ (k : ℕ). up (set r hi lo) k ≤ k) (sym s) (rw up_hi (omega arith))
      go false e = rw (up_other i (eqb-false i hi e)) (below r d i)

  pub link_grows : Grows r (set r hi lo)
  unfolding Grows
  link_grows i = go (eqb i hi) refl
    where
      go : (c : Bool) → eqb i hi ≡ c → Eqv (set r hi lo) (up r i) i
      go true e = let s = eqb-true i hi e in subst (λ (k : ℕ). Eqv (set r hi lo) (up r k) k) (sym s) (ap (find (set r hi lo)) root)
      go false e = ap (find (set r hi lo)) (sym (up_other i (eqb-false i hi e))) ∙ find_up (set r hi lo) link_down i

  pub link_joins : Eqv (set r hi lo) lo hi
  link_joins = ap (find (set r hi lo)) (sym up_hi) ∙ find_up (set r hi lo) link_down hi

-- ---- how many are roots: what a union takes away
abbrev pub one : Bool → ℕ
one true = 1
one false = 0

unfoldable pub roots : ℕ → List ℕ → ℕ
roots k [] = 0
roots k (x ∷ xs) = one (eqb x k) + roots (suc k) xs

pub get_d_any : (l : List ℕ) (i d e : ℕ) → i < length l → get_or l i d ≡ get_or l i e
get_d_any [] i d e b = absurd (omega arith)
get_d_any (x ∷ l) zero d e b = refl
get_d_any (x ∷ l) (suc i) d e b = get_d_any l i d e (omega arith)

roots_set : (l : List ℕ) (k h v : ℕ) → h < length l → get_or l h 0 ≡ k + h → (v ≡ k + h → ⊥) → suc (roots k (set l h v)) ≡ roots k l
unfolding roots
roots_set [] k h v b e n = absurd (omega arith)
roots_set (x ∷ xs) k zero v b e n =
    let z : x ≡ k = e ∙ omega arith in
    let w : v ≡ k → ⊥ = λ g. n (omega arith) in
    simp (eq-eqb x k z, ne_eqb v k w) (omega arith)
roots_set (x ∷ xs) k (suc h) v b e n =
    let g : k + suc h ≡ suc k + h = omega arith in
    let ih = roots_set xs (suc k) h v (omega arith) (e ∙ g) (λ q. n (q ∙ sym g)) in
    omega arith

pub link_roots : (r : List ℕ) (hi lo : ℕ) → hi < length r → up r hi ≡ hi → lo < hi → suc (roots 0 (set r hi lo)) ≡ roots 0 r
link_roots r hi lo b e l = roots_set r 0 hi lo b (get_d_any r hi 0 hi b ∙ e ∙ omega arith) (λ q. omega arith)
