-- Robinson's unifier is sound, most general, and fails only where there is no unifier. Assumes nothing.
use Rattle.std.specs.Prelude.{ℕ, zero, suc, ◌≤◌, Bool, List, [], ◌∷◌, ◌≡◌, refl, ◌⊎◌, ◌≢◌, length}
use Rattle.std.proofs.Common.{arith, ap, ap₂, ◌∙◌, subst, sym}
use Rattle.std.proofs.Math.Bool.{true, false}
use Rattle.std.proofs.Math.Option.{Option, none, some}
use Rattle.std.proofs.Math.Logic.{inl, inr}
use Rattle.std.proofs.Math.Dec.{eqb}
use borrow.Author.Tests.{eqb-true, eqb-false}
use Rattle.model.specs.Term.{Term, var, con, ◌·◌, sub, occurs, bind1, Diff, agree, clash, bind, diff, mgu, apply, Bindings, size}
use Rattle.theory.specs.Subst.{sub_sub, sub_ext, In, in_var, in_left, in_right}
use Rattle.theory.specs.Embed.{Sel, here, there}

-- ---- occurs
in_var_lem : {x y : ℕ} → In x (var y) → x ≡ y
in_var_lem in_var = refl

-- what the answer of a test says
abbrev pub OccOk : ℕ → Term → Bool → Type 0
OccOk x t true = In x t
OccOk x t false = In x t → ⊥

eqb_ok : (x y : ℕ) (c : Bool) → eqb x y ≡ c → OccOk x (var y) c
eqb_ok x y true h = subst (λ (z : ℕ). In x (var z)) (eqb-true x y h) in_var
eqb_ok x y false h = λ i. eqb-false x y h (in_var_lem i)

in_con : {x f : ℕ} → In x (con f) → ⊥
in_con i = elim i [ ]

in_app : {x : ℕ} {a b : Term} → In x (a · b) → In x a ⊎ In x b
in_app (in_left i) = inl i
in_app (in_right i) = inr i

occ_app : (x : ℕ) (a b : Term) (c d : Bool) → OccOk x a c → OccOk x b d → OccOk x (a · b) (elim c [ true ↦ true | false ↦ d ])
occ_app x a b true d h k = in_left h
occ_app x a b false true h k = in_right k
occ_app x a b false false h k = λ i. elim (in_app i) [ inl l ↦ h l | inr r ↦ k r ]

pub occurs_ok : (x : ℕ) (t : Term) → OccOk x t (occurs x t)
unfolding occurs
occurs_ok x (var y) = eqb_ok x y (eqb x y) refl
occurs_ok x (con f) = in_con
occurs_ok x (a · b) = occ_app x a b (occurs x a) (occurs x b) (occurs_ok x a) (occurs_ok x b)

-- ---- sizes
pub size_pos : (t : Term) → 1 ≤ size t
unfolding size
size_pos (var x) = omega arith
size_pos (con f) = omega arith
size_pos (a · b) = omega (arith, size_pos a, size_pos b)

pub size_in : (θ : ℕ → Term) (x : ℕ) {t : Term} → In x t → size (θ x) ≤ size (sub θ t)
unfolding size sub
size_in θ x in_var = omega arith
size_in θ x (in_left i) = omega (arith, size_in θ x i)
size_in θ x (in_right i) = omega (arith, size_in θ x i)

-- a variable is not equal to a larger term that holds it
pub no_cycle : (θ : ℕ → Term) (x : ℕ) (u : Term) → In x u → u ≢ var x → θ x ≡ sub θ u → ⊥
unfolding size sub
no_cycle θ x (var y) i n e = n (ap var (sym (in_var_lem i)))
no_cycle θ x (con f) i n e = in_con i
no_cycle θ x (a · b) i n e =
    elim (in_app i) [
      | inl l ↦ omega (arith, size_in θ x l, size_pos (sub θ b), ap size e)
      | inr r ↦ omega (arith, size_in θ x r, size_pos (sub θ a), ap size e)
    ]

-- ---- one binding
pub bind1_point : (θ : ℕ → Term) (x : ℕ) (u : Term) → θ x ≡ sub θ u → (y : ℕ) → sub θ (bind1 x u y) ≡ θ y
unfolding bind1 sub
bind1_point θ x u h y = go (eqb x y) refl
  where
    go : (c : Bool) → eqb x y ≡ c → sub θ (elim c [ true ↦ u | false ↦ var y ]) ≡ θ y
    go true e = sym h ∙ ap θ (eqb-true x y e)
    go false e = refl

pub bind1_sub : (θ : ℕ → Term) (x : ℕ) (u : Term) → θ x ≡ sub θ u → (v : Term) → sub θ (sub (bind1 x u) v) ≡ sub θ v
bind1_sub θ x u h v = sub_sub θ (bind1 x u) v ∙ sub_ext _ θ v (λ y i. bind1_point θ x u h y)

-- ---- the first disagreement
pub record Bound (s t : Term) (x : ℕ) (u : Term) : Type 0 where
  pub must : (θ : ℕ → Term) → sub θ s ≡ sub θ t → θ x ≡ sub θ u
  pub differ : u ≢ var x
  pub held : In x s ⊎ In x t
  pub from : (y : ℕ) → In y u → In y s ⊎ In y t

abbrev pub DiffOk : Term → Term → Diff → Type 0
DiffOk s t agree = s ≡ t
DiffOk s t clash = (θ : ℕ → Term) → sub θ s ≡ sub θ t → ⊥
DiffOk s t (bind x u) = Bound s t x u

pub inj_left : {a b c d : Term} → a · b ≡ c · d → a ≡ c
inj_left h = cc

pub inj_right : {a b c d : Term} → a · b ≡ c · d → b ≡ d
inj_right h = cc

var≢con : {x f : ℕ} → con f ≢ var x
var≢con h = let z : ◌≡◌ {A = ℕ} 0 1 = cc in omega arith

var≢app : {x : ℕ} {a b : Term} → a · b ≢ var x
var≢app h = let z : ◌≡◌ {A = ℕ} 0 1 = cc in omega arith

con≢app : {f : ℕ} {a b : Term} → con f ≢ a · b
con≢app h = let z : ◌≡◌ {A = ℕ} 0 1 = cc in omega arith

bound_left : (x : ℕ) (t : Term) → t ≢ var x → Bound (var x) t x t
unfolding sub
bound_left x t n = record { must = λ θ e. e; differ = n; held = inl in_var; from = λ y i. inr i }

bound_right : (x : ℕ) (t : Term) → t ≢ var x → Bound t (var x) x t
unfolding sub
bound_right x t n = record { must = λ θ e. sym e; differ = n; held = inr in_var; from = λ y i. inl i }

pub ⊎_both : {A B C D : Type 0} → (A → C) → (B → D) → A ⊎ B → C ⊎ D
⊎_both f g (inl a) = inl (f a)
⊎_both f g (inr b) = inr (g b)

diff_var : (x y : ℕ) (c : Bool) → eqb x y ≡ c → DiffOk (var x) (var y) (elim c [ true ↦ agree | false ↦ bind x (var y) ])
diff_var x y true e = ap var (eqb-true x y e)
diff_var x y false e = bound_left x (var y) (λ h. eqb-false x y e (cc))

diff_con : (f g : ℕ) (c : Bool) → eqb f g ≡ c → DiffOk (con f) (con g) (elim c [ true ↦ agree | false ↦ clash ])
unfolding sub
diff_con f g true e = ap con (eqb-true f g e)
diff_con f g false e = λ θ h. eqb-false f g e (cc)

diff_app :
    (a b c d : Term) (r k : Diff) → DiffOk a c r → DiffOk b d k
    → DiffOk (a · b) (c · d) (elim r [ agree ↦ k | clash ↦ clash | bind x u ↦ bind x u ])
unfolding sub
diff_app a b c d agree agree h k = ap₂ ◌·◌ h k
diff_app a b c d agree clash h k = λ θ e. k θ (inj_right e)
diff_app a b c d agree (bind x u) h k =
    record {
      must = λ θ e. k.must θ (inj_right e);
      differ = k.differ;
      held = ⊎_both in_right in_right k.held;
      from = λ y i. ⊎_both in_right in_right (k.from y i);
    }
diff_app a b c d clash k h _ = λ θ e. h θ (inj_left e)
diff_app a b c d (bind x u) k h _ =
    record {
      must = λ θ e. h.must θ (inj_left e);
      differ = h.differ;
      held = ⊎_both in_left in_left h.held;
      from = λ y i. ⊎_both in_left in_left (h.from y i);
    }

pub diff_ok : (s t : Term) → DiffOk s t (diff s t)
unfolding diff sub
diff_ok (var x) (var y) = diff_var x y (eqb x y) refl
diff_ok (var x) (con g) = bound_left x (con g) var≢con
diff_ok (var x) (c · d) = bound_left x (c · d) var≢app
diff_ok (con f) (var y) = bound_right y (con f) var≢con
diff_ok (con f) (con g) = diff_con f g (eqb f g) refl
diff_ok (con f) (c · d) = λ θ e. con≢app e
diff_ok (a · b) (var y) = bound_right y (a · b) var≢app
diff_ok (a · b) (con g) = λ θ e. con≢app (sym e)
diff_ok (a · b) (c · d) = diff_app a b c d (diff a c) (diff b d) (diff_ok a c) (diff_ok b d)

-- ---- the list of variables: what is left of it
sel_other : {x y : ℕ} {r q v : List ℕ} → Sel x r v → Sel y q v → y ≢ x → (p : List ℕ) × Sel y p r
sel_other here here n = absurd (n refl)
sel_other here (there j) n = (_, j)
sel_other (there i) here n = (_, here)
sel_other (there i) (there j) n = let w = sel_other i j n in (_, there w.1)

pub sel_length : {x : ℕ} {r v : List ℕ} → Sel x r v → length v ≡ suc (length r)
sel_length here = refl
sel_length (there i) = ap suc (sel_length i)

abbrev pub Within : Term → Term → List ℕ → Type 0
Within s t v = (x : ℕ) → In x s ⊎ In x t → (r : List ℕ) × Sel x r v

-- what a binding leaves in a term
pub in_bind1 : (x : ℕ) (u : Term) → (In x u → ⊥) → (y : ℕ) (v : Term) → In y (sub (bind1 x u) v) → (y ≢ x) × (In y v ⊎ In y u)
unfolding sub
in_bind1 x u n y (var z) i = go (eqb x z) refl (unfold bind1 in i)
  where
    go : (c : Bool) → eqb x z ≡ c → In y (elim c [ true ↦ u | false ↦ var z ]) → (y ≢ x) × (In y (var z) ⊎ In y u)
    go true e j = ((λ h. n (subst (λ (w : ℕ). In w u) h j)), inr j)
    go false e j = ((λ h. eqb-false x z e (sym h ∙ in_var_lem j)), inl j)
in_bind1 x u n y (con f) i = absurd (in_con i)
in_bind1 x u n y (a · b) i =
    elim (in_app i) [
      | inl l ↦ let w = in_bind1 x u n y a l in (w.0, ⊎_both in_left (λ z. z) w.1)
      | inr r ↦ let w = in_bind1 x u n y b r in (w.0, ⊎_both in_right (λ z. z) w.1)
    ]

-- ---- the unifier
pub record Unifier (s t : Term) (b : Bindings) : Type 0 where
  pub unifies : apply b s ≡ apply b t
  pub general : (θ : ℕ → Term) → sub θ s ≡ sub θ t → (v : Term) → sub θ (apply b v) ≡ sub θ v

abbrev pub MguOk : Term → Term → Option Bindings → Type 0
MguOk s t none = (θ : ℕ → Term) → sub θ s ≡ sub θ t → ⊥
MguOk s t (some b) = Unifier s t b

mgu_agree : (s t : Term) → s ≡ t → Unifier s t []
unfolding apply
mgu_agree s t e = record { unifies = e; general = λ θ h v. refl }

module _ (s t : Term) (x : ℕ) (u : Term) (B : Bound s t x u) where
  carried : (θ : ℕ → Term) → sub θ s ≡ sub θ t → sub θ (sub (bind1 x u) s) ≡ sub θ (sub (bind1 x u) t)
  carried θ e = bind1_sub θ x u (B.must θ e) s ∙ e ∙ sym (bind1_sub θ x u (B.must θ e) t)

  mgu_tail :
      (o : Option Bindings) → MguOk (sub (bind1 x u) s) (sub (bind1 x u) t) o
      → MguOk s t (elim o [ none ↦ none | some b ↦ some ((x, u) ∷ b) ])
  unfolding apply
  mgu_tail none h = λ θ e. h θ (carried θ e)
  mgu_tail (some b) h =
      record {
        unifies = h.unifies;
        general = λ θ e v. h.general θ (carried θ e) (sub (bind1 x u) v) ∙ bind1_sub θ x u (B.must θ e) v;
      }

  pub shrink : {r v : List ℕ} → (In x u → ⊥) → Sel x r v → Within s t v → Within (sub (bind1 x u) s) (sub (bind1 x u) t) r
  shrink n i w y j = sel_other i (w y (back (seen j)).1).1 (back (seen j)).0
    where
      back : (y ≢ x) × ((In y s ⊎ In y t) ⊎ In y u) → (y ≢ x) × (In y s ⊎ In y t)
      back p = (p.0, elim p.1 [ inl q ↦ q | inr q ↦ B.from y q ])

      assoc : {P Q R : Type 0} → (P → R) → P ⊎ Q → R ⊎ Q
      assoc f = ⊎_both f (λ z. z)

      seen : In y (sub (bind1 x u) s) ⊎ In y (sub (bind1 x u) t) → (y ≢ x) × ((In y s ⊎ In y t) ⊎ In y u)
      seen (inl l) = let k = in_bind1 x u n y s l in (k.0, assoc inl k.1)
      seen (inr l) = let k = in_bind1 x u n y t l in (k.0, assoc inr k.1)

  mgu_bind :
      (n : ℕ) (v : List ℕ) → length v ≤ suc n → Within s t v
      → ((v' : List ℕ) → length v' ≤ n → Within (sub (bind1 x u) s) (sub (bind1 x u) t) v' → MguOk (sub (bind1 x u) s) (sub (bind1 x u) t) (mgu n (sub (bind1 x u) s) (sub (bind1 x u) t)))
      → (c : Bool) → OccOk x u c
      → MguOk s t (elim c [ true ↦ none | false ↦ elim (mgu n (sub (bind1 x u) s) (sub (bind1 x u) t)) [ none ↦ none | some b ↦ some ((x, u) ∷ b) ] ])
  mgu_bind n v l w rec true h = λ θ e. no_cycle θ x u h B.differ (B.must θ e)
  mgu_bind n v l w rec false h =
      let i = (w x B.held).1 in
      mgu_tail (mgu n (sub (bind1 x u) s) (sub (bind1 x u) t)) (rec _ (omega (arith, sel_length i)) (shrink h i w))

mgu_zero : (s t : Term) (v : List ℕ) → length v ≤ 0 → Within s t v → (d : Diff) → DiffOk s t d → MguOk s t (elim d [ agree ↦ some [] | clash ↦ none | bind x u ↦ some [] ])
mgu_zero s t v l w agree h = mgu_agree s t h
mgu_zero s t v l w clash h = h
mgu_zero s t v l w (bind x u) h = absurd (omega (arith, sel_length (w x h.held).1))

mgu_suc :
    (n : ℕ) (s t : Term) (v : List ℕ) → length v ≤ suc n → Within s t v
    → ((s' t' : Term) (v' : List ℕ) → length v' ≤ n → Within s' t' v' → MguOk s' t' (mgu n s' t'))
    → (d : Diff) → DiffOk s t d
    → MguOk s t (
    elim d [
      | agree ↦ some []
      | clash ↦ none
      | bind x u ↦
          elim (occurs x u) [
            | true ↦ none
            | false ↦ elim (mgu n (sub (bind1 x u) s) (sub (bind1 x u) t)) [ none ↦ none | some b ↦ some ((x, u) ∷ b) ]
          ]
    ])
mgu_suc n s t v l w rec agree h = mgu_agree s t h
mgu_suc n s t v l w rec clash h = h
mgu_suc n s t v l w rec (bind x u) h = mgu_bind s t x u h n v l w (rec _ _) (occurs x u) (occurs_ok x u)

pub mgu_ok : (n : ℕ) (s t : Term) (v : List ℕ) → length v ≤ n → Within s t v → MguOk s t (mgu n s t)
unfolding mgu
mgu_ok zero s t v l w = mgu_zero s t v l w (diff s t) (diff_ok s t)
mgu_ok (suc n) s t v l w = mgu_suc n s t v l w (mgu_ok n) (diff s t) (diff_ok s t)
