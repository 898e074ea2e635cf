-- What every other module needs of truth values and options. Assumes nothing.
use Rattle.std.specs.Prelude.{ℕ, Bool, true, false, ◌≡◌, refl}
use Rattle.std.proofs.Common.{arith}
use Rattle.model.specs.Term.{both}

pub true≢false : {A : Type 0} {b : Bool} → b ≡ true → b ≡ false → A
true≢false p q = absurd (let z : ◌≡◌ {A = ℕ} 0 1 = cc in omega arith)

-- for `no_confusion (cc)`: two constructors are told apart
pub no_confusion : {A : Type 0} → ◌≡◌ {A = ℕ} 0 1 → A
no_confusion z = absurd (omega arith)

pub both_true : (a b : Bool) → both a b ≡ true → (a ≡ true) × (b ≡ true)
unfolding both
both_true true b e = (refl, e)
both_true false b e = true≢false e refl

pub true_both : (a b : Bool) → a ≡ true → b ≡ true → both a b ≡ true
unfolding both
true_both true b e f = f
true_both false b e f = true≢false e refl
