-- Laws of substitution. Assumes nothing.
use Rattle.std.specs.Prelude.{ℕ, List, [], ◌∷◌, map, ◌≡◌, refl}
use Rattle.std.proofs.Common.{ap₂, ◌∙◌, sym}
use Rattle.model.specs.Term.{Term, var, con, ◌·◌, sub, bind1, apply, Bindings}

pub sub_sub : (r s : ℕ → Term) (t : Term) → sub r (sub s t) ≡ sub (λ x. sub r (s x)) t
unfolding sub
sub_sub r s (var x) = refl
sub_sub r s (con f) = refl
sub_sub r s (a · b) = ap₂ ◌·◌ (sub_sub r s a) (sub_sub r s b)

pub sub_var : (t : Term) → sub var t ≡ t
unfolding sub
sub_var (var x) = refl
sub_var (con f) = refl
sub_var (a · b) = ap₂ ◌·◌ (sub_var a) (sub_var b)

-- x is in t
pub data In (x : ℕ) : Term → Type 0 where
  in_var : In x (var x)
  in_left : {a b : Term} → In x a → In x (a · b)
  in_right : {a b : Term} → In x b → In x (a · b)

pub sub_ext : (r s : ℕ → Term) (t : Term) → ((x : ℕ) → In x t → r x ≡ s x) → sub r t ≡ sub s t
unfolding sub
sub_ext r s (var x) h = h x in_var
sub_ext r s (con f) h = refl
sub_ext r s (a · b) h = ap₂ ◌·◌ (sub_ext r s a (λ x i. h x (in_left i))) (sub_ext r s b (λ x i. h x (in_right i)))

pub sub_all : (r s : ℕ → Term) (t : Term) → ((x : ℕ) → r x ≡ s x) → sub r t ≡ sub s t
sub_all r s t h = sub_ext r s t (λ x i. h x)

pub map_sub_sub : (r s : ℕ → Term) (l : List Term) → map (sub r) (map (sub s) l) ≡ map (sub (λ x. sub r (s x))) l
map_sub_sub r s [] = refl
map_sub_sub r s (t ∷ l) = ap₂ ◌∷◌ (sub_sub r s t) (map_sub_sub r s l)

pub map_sub_var : (l : List Term) → map (sub var) l ≡ l
map_sub_var [] = refl
map_sub_var (t ∷ l) = ap₂ ◌∷◌ (sub_var t) (map_sub_var l)

pub map_sub_all : (r s : ℕ → Term) (l : List Term) → ((x : ℕ) → r x ≡ s x) → map (sub r) l ≡ map (sub s) l
map_sub_all r s [] h = refl
map_sub_all r s (t ∷ l) h = ap₂ ◌∷◌ (sub_all r s t h) (map_sub_all r s l h)

-- bindings as one substitution
pub apply_sub : (m : Bindings) (t : Term) → apply m t ≡ sub (λ x. apply m (var x)) t
unfolding apply sub
apply_sub [] t = sym (sub_var t)
apply_sub (p ∷ m) t =
    apply_sub m (sub (bind1 p.0 p.1) t)
    ∙ sub_sub (λ x. apply m (var x)) (bind1 p.0 p.1) t
    ∙ sub_ext _ _ t (λ x i. sym (apply_sub m (bind1 p.0 p.1 x)))
