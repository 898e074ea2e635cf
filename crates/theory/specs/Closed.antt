-- Closed terms: substitution leaves them alone, and closed values make them. Assumes nothing.
use Rattle.std.specs.Prelude.{ℕ, List, [], ◌∷◌, map, ◌≡◌, refl}
use Rattle.std.proofs.Common.{ap₂}
use Rattle.model.specs.Term.{Term, var, con, ◌·◌, sub, closed}
use Rattle.model.specs.Derive.{Closed}
use Rattle.theory.specs.Basics.{true≢false, both_true, true_both}

pub closed_sub : (t : Term) → Closed t → (σ : ℕ → Term) → sub σ t ≡ t
unfolding closed sub
closed_sub (var x) c σ = true≢false c refl
closed_sub (con f) c σ = refl
closed_sub (a · b) c σ = let w = both_true (closed a) (closed b) c in ap₂ ◌·◌ (closed_sub a w.0 σ) (closed_sub b w.1 σ)

pub closed_of : (κ : ℕ → Term) → ((x : ℕ) → Closed (κ x)) → (t : Term) → Closed (sub κ t)
unfolding closed sub
closed_of κ c (var x) = c x
closed_of κ c (con f) = refl
closed_of κ c (a · b) = true_both (closed (sub κ a)) (closed (sub κ b)) (closed_of κ c a) (closed_of κ c b)

-- one closed term for every variable
pub flat : ℕ → Term
flat x = con 0

pub flat_closed : (x : ℕ) → Closed (flat x)
unfolding flat closed
flat_closed x = refl

pub closed_left : (a b : Term) → Closed (a · b) → Closed a
unfolding closed
closed_left a b c = (both_true (closed a) (closed b) c).0

pub closed_right : (a b : Term) → Closed (a · b) → Closed b
unfolding closed
closed_right a b c = (both_true (closed a) (closed b) c).1

-- ---- lists of closed terms
abbrev pub AllClosed : List Term → Type 0
AllClosed [] = Unit {0}
AllClosed (t ∷ l) = Closed t × AllClosed l

pub map_closed_sub : (l : List Term) → AllClosed l → (σ : ℕ → Term) → map (sub σ) l ≡ l
map_closed_sub [] h σ = refl
map_closed_sub (t ∷ l) h σ = ap₂ ◌∷◌ (closed_sub t h.0 σ) (map_closed_sub l h.1 σ)
