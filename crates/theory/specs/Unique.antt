-- Whatever finds a most general unifier, the combination is the same record. Assumes nothing.
use Rattle.std.specs.Prelude.{ℕ, zero, suc, Bool, ◌≡◌, ◌⊎◌, ◌≢◌, eqb, length, get_or}
use Rattle.std.proofs.Common.{◌∙◌, subst, eqb-true, eq-eqb, ne_eqb}
use Rattle.std.proofs.Math.Bool.{true, false}
use Rattle.std.proofs.Math.Option.{Option, none, some}
use mathlib.Core.List.{List, [], ◌∷◌, ◌++◌, map}
use Rattle.std.proofs.Math.Path.{refl, ap, ap₂, sym}
use Rattle.std.proofs.Math.Logic.{inl, inr}
use Rattle.std.proofs.lemmas.List.{length-map}
use Rattle.std.proofs.lemmas.Bool.{eqb-false}
use Rattle.model.specs.Term.{Term, var, con, ◌·◌, sub, same, elem, distinct, unify, apply, Bindings, vars}
use Rattle.theory.specs.Subst.{apply_sub, sub_sub, sub_ext, map_sub_sub, In, in_var, in_left, in_right}
use Rattle.theory.specs.Embed.{Sel, here, there}
use Rattle.theory.specs.Unify.{MguOk, Unifier}
use Rattle.theory.specs.Implies.{same_ok, SameOk}
use Rattle.theory.specs.Basics.{true≢false, no_confusion}
use Rattle.theory.specs.Combine.{Has, has_cons, has_nil, InAll, in_head, in_tail, unifier_of, distinct_has, map_sub_ext, in_vars_all, in_vars, vars_rest, place_at}
use Rattle.model.specs.Write.{or_else, before, unifier_at, parents}
use Rattle.model.specs.Rule.{Rule, normal, place, among, firsts, vars_all, vars_of, sub_rule, renumber, drop_copies, nth, without, left, right, resolvent, by_unifier, upon, combine}

-- ---- names of variables through a renaming f with the inverse g on them
abbrev Inv : (ℕ → ℕ) → (ℕ → ℕ) → List ℕ → Type 0
Inv f g [] = Unit {0}
Inv f g (x ∷ l) = (g (f x) ≡ x) × Inv f g l

inv_has : (f g : ℕ → ℕ) (l : List ℕ) → ((x : ℕ) → Has x l → g (f x) ≡ x) → Inv f g l
inv_has f g [] h = tt
inv_has f g (x ∷ l) h = (h x (_, here), inv_has f g l (λ y m. h y (_, there m.1)))

has_inv : (f g : ℕ → ℕ) (x : ℕ) {r l : List ℕ} → Inv f g l → Sel x r l → g (f x) ≡ x
has_inv f g x h here = h.0
has_inv f g x h (there i) = has_inv f g x h.1 i

eqb_inv : (f g : ℕ → ℕ) (x y : ℕ) → g (f x) ≡ x → g (f y) ≡ y → eqb (f x) (f y) ≡ eqb x y
eqb_inv f g x y p q = go (eqb x y) refl
  where
    go : (c : Bool) → eqb x y ≡ c → eqb (f x) (f y) ≡ c
    go true e = eq-eqb (f x) (f y) (ap f (eqb-true x y e))
    go false e = ne_eqb (f x) (f y) (λ h. eqb-false x y e (sym p ∙ ap g h ∙ q))

elem_inv : (f g : ℕ → ℕ) (x : ℕ) (l : List ℕ) → g (f x) ≡ x → Inv f g l → elem (f x) (map f l) ≡ elem x l
unfolding elem
elem_inv f g x [] p h = refl
elem_inv f g x (y ∷ l) p h =
    ap₂ (λ (c d : Bool). elim c as (λ _. Bool) [ true ↦ true | false ↦ d ]) (eqb_inv f g x y p h.0) (elem_inv f g x l p h.1)

place_inv : (f g : ℕ → ℕ) (x : ℕ) (l : List ℕ) → g (f x) ≡ x → Inv f g l → place (f x) (map f l) ≡ place x l
unfolding place
place_inv f g x [] p h = refl
place_inv f g x (y ∷ l) p h =
    ap₂ (λ (c : Bool) (d : ℕ). elim c as (λ _. ℕ) [ true ↦ 0 | false ↦ suc d ]) (eqb_inv f g x y p h.0) (place_inv f g x l p h.1)

either : (f : ℕ → ℕ) (x : ℕ) (c d : Bool) (u v u' v' : List ℕ) → d ≡ c → u ≡ map f u' → v ≡ map f v' → elim d as (λ _. List ℕ) [ true ↦ u | false ↦ f x ∷ v ] ≡ map f (elim c [ true ↦ u' | false ↦ x ∷ v' ])
either f x true true u v u' v' e a b = a
either f x false false u v u' v' e a b = ap (f x ∷◌) b
either f x true false u v u' v' e a b = true≢false refl (sym e)
either f x false true u v u' v' e a b = true≢false refl e

distinct_inv : (f g : ℕ → ℕ) (seen l : List ℕ) → Inv f g seen → Inv f g l → distinct (map f seen) (map f l) ≡ map f (distinct seen l)
unfolding distinct
distinct_inv f g seen [] s h = refl
distinct_inv f g seen (x ∷ l) s h =
    either f x (elem x seen) (elem (f x) (map f seen)) _ _ _ _ (elem_inv f g x seen h.0 s) (distinct_inv f g seen l s h.1) (distinct_inv f g (x ∷ seen) l (h.0, s) h.1)

vars_map : (f : ℕ → ℕ) (t : Term) (r : List ℕ) → vars (sub (λ x. var (f x)) t) (map f r) ≡ map f (vars t r)
unfolding vars sub
vars_map f (var x) r = refl
vars_map f (con c) r = refl
vars_map f (a · b) r = ap (vars (sub (λ x. var (f x)) a)) (vars_map f b r) ∙ vars_map f a (vars b r)

vars_all_map : (f : ℕ → ℕ) (l : List Term) → vars_all (map (sub (λ x. var (f x))) l) ≡ map f (vars_all l)
unfolding vars_all
vars_all_map f [] = refl
vars_all_map f (t ∷ l) = ap (vars (sub (λ x. var (f x)) t)) (vars_all_map f l) ∙ vars_map f t (vars_all l)

all_vars : Rule → List ℕ
all_vars r = vars r.concl (vars_all r.hyps)

inv_distinct : (f g : ℕ → ℕ) (seen l : List ℕ) → Inv f g l → Inv f g (distinct seen l)
unfolding distinct
inv_distinct f g seen [] h = tt
inv_distinct f g seen (x ∷ l) h = go (elem x seen) (inv_distinct f g seen l h.1) (inv_distinct f g (x ∷ seen) l h.1)
  where
    go : (c : Bool) → Inv f g (distinct seen l) → Inv f g (distinct (x ∷ seen) l) → Inv f g (elim c [ true ↦ distinct seen l | false ↦ x ∷ distinct (x ∷ seen) l ])
    go true a b = a
    go false a b = (h.0, b)

rule_path : {c d : Term} {hs ks : List Term} → c ≡ d → hs ≡ ks → ◌≡◌ {A = Rule} (record { concl = c; hyps = hs }) (record { concl = d; hyps = ks })
rule_path p q = λ i. record { concl = p i; hyps = q i }

-- renaming does not change the numbered rule
module _ (f g : ℕ → ℕ) (r : Rule) (h : Inv f g (all_vars r)) where
  F : Term → Term
  F t = sub (λ x. var (f x)) t

  vars_renamed : vars_of (sub_rule (λ x. var (f x)) r) ≡ map f (vars_of r)
  unfolding vars_of sub_rule all_vars
  vars_renamed =
      ap (distinct []) (ap (vars (sub (λ x. var (f x)) r.concl)) (vars_all_map f r.hyps) ∙ vars_map f r.concl (vars_all r.hyps))
      ∙ distinct_inv f g [] (vars r.concl (vars_all r.hyps)) tt h

  place_renamed : (x : ℕ) → Has x (all_vars r) → place (f x) (vars_of (sub_rule (λ x. var (f x)) r)) ≡ place x (vars_of r)
  unfolding vars_of all_vars
  place_renamed x m = ap (place (f x)) vars_renamed ∙ place_inv f g x (vars_of r) (has_inv f g x h m.1) (inv_distinct f g [] (all_vars r) h)

  renumber_inv : renumber (sub_rule (λ x. var (f x)) r) ≡ renumber r
  unfolding renumber sub_rule all_vars sub
  renumber_inv =
      rule_path
      (sub_sub _ _ r.concl ∙ sub_ext _ _ r.concl (λ x i. ap (λ (n : ℕ). var (suc n)) (place_renamed x (in_vars _ i))))
      (rw map_sub_sub (map_sub_ext _ _ r.hyps (λ x i. ap (λ (n : ℕ). var (suc n)) (place_renamed x (vars_rest r.concl (in_vars_all i))))))

-- a numbered rule has as many variables
pub renumber_count : (r : Rule) → length (vars_of (renumber r)) ≡ length (vars_of r)
unfolding renumber vars_of all_vars
renumber_count r =
    ap length (vars_renamed (λ x. suc (place x (vars_of r))) back r (inv_has (λ x. suc (place x (vars_of r))) back (all_vars r) there'))
    ∙ length-map (vars_of r) (λ x. suc (place x (vars_of r)))
  where
    back : ℕ → ℕ
    back zero = 0
    back (suc i) = get_or (vars_of r) i 0

    known : (x : ℕ) → Has x [] ⊎ Has x (vars_of r) → Has x (vars_of r)
    known x (inl h) = absurd (has_nil h)
    known x (inr h) = h

    there' : (x : ℕ) → Has x (all_vars r) → back (suc (place x (vars_of r))) ≡ x
    there' x h = place_at x (vars_of r) (known x (distinct_has x [] (all_vars r) h))

-- ---- dropping copies, through a substitution s with the inverse s' on the terms
abbrev InvT : (ℕ → Term) → (ℕ → Term) → List Term → Type 0
InvT s s' [] = Unit {0}
InvT s s' (t ∷ l) = (sub s' (sub s t) ≡ t) × InvT s s' l

same_eq : (t u : Term) → t ≡ u → same t u ≡ true
same_eq t u e = go (same t u) (same_ok t u)
  where
    go : (c : Bool) → SameOk t u c → c ≡ true
    go true h = refl
    go false h = absurd (h e)

same_ne : (t u : Term) → t ≢ u → same t u ≡ false
same_ne t u n = go (same t u) (same_ok t u)
  where
    go : (c : Bool) → SameOk t u c → c ≡ false
    go false h = refl
    go true h = absurd (n h)

module _ (s s' : ℕ → Term) where
  same_inv : (t u : Term) → sub s' (sub s t) ≡ t → sub s' (sub s u) ≡ u → same (sub s t) (sub s u) ≡ same t u
  same_inv t u p q = go (same t u) (same_ok t u)
    where
      go : (c : Bool) → SameOk t u c → same (sub s t) (sub s u) ≡ c
      go true h = same_eq (sub s t) (sub s u) (ap (sub s) h)
      go false h = same_ne (sub s t) (sub s u) (λ e. h (sym p ∙ ap (sub s') e ∙ q))

  among_inv : (t : Term) (l : List Term) → sub s' (sub s t) ≡ t → InvT s s' l → among (sub s t) (map (sub s) l) ≡ among t l
  unfolding among
  among_inv t [] p h = refl
  among_inv t (u ∷ l) p h =
      ap₂ (λ (c d : Bool). elim c as (λ _. Bool) [ true ↦ true | false ↦ d ]) (same_inv t u p h.0) (among_inv t l p h.1)

  either_t : (x : Term) (c d : Bool) (u v u' v' : List Term) → d ≡ c → u ≡ map (sub s) u' → v ≡ map (sub s) v' → elim d as (λ _. List Term) [ true ↦ u | false ↦ sub s x ∷ v ] ≡ map (sub s) (elim c [ true ↦ u' | false ↦ x ∷ v' ])
  either_t x true true u v u' v' e a b = a
  either_t x false false u v u' v' e a b = ap (sub s x ∷◌) b
  either_t x true false u v u' v' e a b = true≢false refl (sym e)
  either_t x false true u v u' v' e a b = true≢false refl e

  firsts_inv : (seen l : List Term) → InvT s s' seen → InvT s s' l → firsts (map (sub s) seen) (map (sub s) l) ≡ map (sub s) (firsts seen l)
  unfolding firsts
  firsts_inv seen [] k h = refl
  firsts_inv seen (x ∷ l) k h =
      either_t x (among x seen) (among (sub s x) (map (sub s) seen)) _ _ _ _ (among_inv x seen h.0 k) (firsts_inv seen l k h.1) (firsts_inv (x ∷ seen) l (h.0, k) h.1)

  inv_t_firsts : (seen l : List Term) → InvT s s' l → InvT s s' (firsts seen l)
  unfolding firsts
  inv_t_firsts seen [] h = tt
  inv_t_firsts seen (x ∷ l) h = go (among x seen) (inv_t_firsts seen l h.1) (inv_t_firsts (x ∷ seen) l h.1)
    where
      go : (c : Bool) → InvT s s' (firsts seen l) → InvT s s' (firsts (x ∷ seen) l) → InvT s s' (elim c [ true ↦ firsts seen l | false ↦ x ∷ firsts (x ∷ seen) l ])
      go true a b = a
      go false a b = (h.0, b)

  drop_copies_inv : (r : Rule) → InvT s s' r.hyps → drop_copies (sub_rule s r) ≡ sub_rule s (drop_copies r)
  unfolding drop_copies sub_rule
  drop_copies_inv r h = rule_path refl (firsts_inv [] r.hyps tt h)

-- ---- a substitution that can be undone is a renaming
name : Term → ℕ
name (var x) = x
name (con f) = 0
name (a · b) = 0

is_var_lem : (s : ℕ → Term) (t : Term) (x : ℕ) → sub s t ≡ var x → t ≡ var (name t)
unfolding name sub
is_var_lem s (var y) x e = refl
is_var_lem s (con f) x e = no_confusion (cc)
is_var_lem s (a · b) x e = no_confusion (cc)

fixed : (s : ℕ → Term) {x : ℕ} {t : Term} → In x t → sub s t ≡ t → s x ≡ var x
unfolding sub
fixed s in_var e = e
fixed s (in_left i) e = fixed s i (cc)
fixed s (in_right i) e = fixed s i (cc)

fixed_all : (s s' : ℕ → Term) {x : ℕ} {l : List Term} → InvT s s' l → InAll x l → sub s' (s x) ≡ var x
fixed_all s s' h (in_head {t = t} i) = fixed (λ x. sub s' (s x)) i (sym (sub_sub s' s t) ∙ h.0)
fixed_all s s' h (in_tail i) = fixed_all s s' h.1 i

has_vars : {x : ℕ} (t : Term) (r : List ℕ) → Has x (vars t r) → In x t ⊎ Has x r
unfolding vars
has_vars {x} (var y) r h = elim (has_cons h) [ inl e ↦ inl (subst (λ (z : ℕ). In x (var z)) e in_var) | inr k ↦ inr k ]
has_vars (con f) r h = inr h
has_vars (a · b) r h = elim (has_vars a (vars b r) h) [ inl i ↦ inl (in_left i) | inr k ↦ elim (has_vars b r k) [ inl i ↦ inl (in_right i) | inr j ↦ inr j ] ]

has_vars_all : {x : ℕ} (l : List Term) → Has x (vars_all l) → InAll x l
unfolding vars_all
has_vars_all [] h = absurd (has_nil h)
has_vars_all (t ∷ l) h = elim (has_vars t (vars_all l) h) [ inl i ↦ in_head i | inr k ↦ in_tail (has_vars_all l k) ]

module _ (s s' : ℕ → Term) (r : Rule) (h : InvT s s' (r.concl ∷ r.hyps)) where
  f : ℕ → ℕ
  f x = name (s x)

  g : ℕ → ℕ
  g y = name (s' y)

  renames : (x : ℕ) → InAll x (r.concl ∷ r.hyps) → s x ≡ var (f x)
  unfolding f
  renames x i = is_var_lem s' (s x) x (fixed_all s s' h i)

  undoes : (x : ℕ) → InAll x (r.concl ∷ r.hyps) → g (f x) ≡ x
  unfolding f g name sub
  undoes x i = ap name (sym (ap (sub s') (renames x i)) ∙ fixed_all s s' h i)

  inverse : Inv f g (all_vars r)
  unfolding all_vars
  inverse = inv_has f g (vars r.concl (vars_all r.hyps)) (λ x m. undoes x (elim (has_vars r.concl (vars_all r.hyps) m) [ inl i ↦ in_head i | inr k ↦ in_tail (has_vars_all r.hyps k) ]))

  renumber_variant : renumber (sub_rule s r) ≡ renumber r
  unfolding sub_rule
  renumber_variant =
      ap renumber (rule_path (sub_ext s (λ x. var (f x)) r.concl (λ x i. renames x (in_head i))) (map_sub_ext s (λ x. var (f x)) r.hyps (λ x i. renames x (in_tail i))))
      ∙ renumber_inv f g r inverse

-- the values that go with renamed variables
before_inv : (f g : ℕ → ℕ) (vs : List ℕ) (F : Term) (θ : ℕ → Term) (x : ℕ) → g (f x) ≡ x → Inv f g vs → before vs F θ x ≡ before (map f vs) F θ (f x)
unfolding before
before_inv f g vs F θ x q I =
    ap₂ (λ (c : Bool) (n : ℕ). elim c as (λ _. Term) [ true ↦ θ (suc n) | false ↦ F ]) (sym (elem_inv f g x vs q I)) (sym (place_inv f g x vs q I))

-- ---- the combination by any most general unifier
-- a most general unifier, as a substitution
unfoldable pub Mgu : Term → Term → (ℕ → Term) → Type 0
Mgu a b μ = (sub μ a ≡ sub μ b) × ((θ : ℕ → Term) → sub θ a ≡ sub θ b → (v : Term) → sub θ (sub μ v) ≡ sub θ v)

module _ (a b : Rule) (k : ℕ) (c : Term) (m : Bindings) (u : Unifier a.concl c m) (μ : ℕ → Term) (w : Mgu a.concl c μ) where
  ν : ℕ → Term
  ν x = apply m (var x)

  base : Rule
  base = record { concl = b.concl; hyps = a.hyps ++ without b.hyps k }

  there_back : (v : Term) → sub ν (sub μ (apply m v)) ≡ apply m v
  unfolding Mgu ν
  there_back v =
      ap (sub ν) (u.general μ w.0 v)
      ∙ w.1 ν (sym (apply_sub m a.concl) ∙ u.unifies ∙ apply_sub m c) v
      ∙ sym (apply_sub m v)

  inv_t_apply : (l : List Term) → InvT μ ν (map (apply m) l)
  inv_t_apply [] = tt
  inv_t_apply (t ∷ l) = (there_back t, inv_t_apply l)

  map_general : (l : List Term) → map (sub μ) l ≡ map (sub μ) (map (apply m) l)
  unfolding Mgu
  map_general [] = refl
  map_general (t ∷ l) = ap₂ ◌∷◌ (sym (u.general μ w.0 t)) (map_general l)

  same_record : normal (resolvent a b k m) ≡ normal (sub_rule μ base)
  unfolding normal resolvent sub_rule base drop_copies Mgu
  same_record =
      sym
      (
      ap (λ (r : Rule). renumber (drop_copies r)) (rule_path (sym (u.general μ w.0 b.concl)) (map_general (a.hyps ++ without b.hyps k)))
      ∙ ap renumber (drop_copies_inv μ ν (resolvent a b k m) (inv_t_apply (a.hyps ++ without b.hyps k)))
      ∙ renumber_variant μ ν (drop_copies (resolvent a b k m)) (there_back b.concl, inv_t_firsts μ ν [] (map (apply m) (a.hyps ++ without b.hyps k)) (inv_t_apply (a.hyps ++ without b.hyps k)))
      )

  -- ---- the values of parents
  -- what is left of the two rules, and one term more
  left_over : Rule
  left_over = drop_copies (resolvent a b k m)

  left_over_inv : InvT μ ν (left_over.concl ∷ left_over.hyps)
  unfolding left_over resolvent drop_copies
  left_over_inv = (there_back b.concl, inv_t_firsts μ ν [] (map (apply m) (a.hyps ++ without b.hyps k)) (inv_t_apply (a.hyps ++ without b.hyps k)))

  by_μ : drop_copies (sub_rule μ base) ≡ sub_rule μ left_over
  unfolding left_over resolvent sub_rule base Mgu
  by_μ =
      ap drop_copies (rule_path (sym (u.general μ w.0 b.concl)) (map_general (a.hyps ++ without b.hyps k)))
      ∙ drop_copies_inv μ ν (resolvent a b k m) (inv_t_apply (a.hyps ++ without b.hyps k))

  vars_μ : vars_of (drop_copies (sub_rule μ base)) ≡ map (λ x. name (μ x)) (vars_of left_over)
  unfolding sub_rule f g
  vars_μ =
      ap vars_of by_μ
      ∙ ap vars_of (rule_path (sub_ext μ (λ x. var (name (μ x))) left_over.concl (λ x i. renames μ ν left_over left_over_inv x (in_head i)))
      (map_sub_ext μ (λ x. var (name (μ x))) left_over.hyps (λ x i. renames μ ν left_over left_over_inv x (in_tail i))))
      ∙ vars_renamed (λ x. name (μ x)) (λ y. name (ν y)) left_over (inverse μ ν left_over left_over_inv)

  -- A term's value by the one unifier is its value by the other.
  values_same : (F : Term) (θ : ℕ → Term) (v : Term) → sub (before (vars_of left_over) F θ) (apply m v) ≡ sub (before (vars_of (drop_copies (sub_rule μ base))) F θ) (sub μ v)
  values_same F θ v =
      sub_ext (before (vars_of left_over) F θ) (λ x. sub (before (vars_of (drop_copies (sub_rule μ base))) F θ) (μ x)) (apply m v) point
      ∙ sym (sub_sub (before (vars_of (drop_copies (sub_rule μ base))) F θ) μ (apply m v))
      ∙ ap (sub (before (vars_of (drop_copies (sub_rule μ base))) F θ)) (unfold Mgu in u.general μ w.0 v)
    where
      one : Rule
      one = record { concl = apply m v; hyps = [] }

      back : InvT μ ν (apply m v ∷ [])
      back = (there_back v, tt)

      point : (x : ℕ) → In x (apply m v) → before (vars_of left_over) F θ x ≡ sub (before (vars_of (drop_copies (sub_rule μ base))) F θ) (μ x)
      point x i =
          let e : μ x ≡ var (name (μ x)) = unfold f in renames μ ν one back x (in_head i) in
          let q : name (ν (name (μ x))) ≡ x = unfold f g in undoes μ ν one back x (in_head i) in
          let I : Inv (λ y. name (μ y)) (λ y. name (ν y)) (vars_of left_over) = unfold f g vars_of all_vars in inv_distinct (λ y. name (μ y)) (λ y. name (ν y)) [] (all_vars left_over) (inverse μ ν left_over left_over_inv) in
          before_inv (λ y. name (μ y)) (λ y. name (ν y)) (vars_of left_over) F θ x q I
          ∙ ap (λ (l : List ℕ). before l F θ (name (μ x))) (sym vars_μ)
          ∙ sym (ap (sub (before (vars_of (drop_copies (sub_rule μ base))) F θ)) e ∙ (unfold sub in refl))

-- the two rules that are combined, made different, without the hypothesis combined upon
unfoldable pub parts : Rule → Rule → ℕ → Rule
parts r r' k = record { concl = (right r').concl; hyps = (left r).hyps ++ without (right r').hyps k }

-- So the code may look for a unifier as it likes: any most general one gives the record.
pub combine_any :
    (r r' : Rule) (k : ℕ) (c : Term) (μ : ℕ → Term) → nth (right r').hyps k ≡ some c → Mgu (left r).concl c μ
    → combine r r' k ≡ some (normal (sub_rule μ (parts r r' k)))
unfolding combine upon Mgu base normal parts by_unifier
combine_any r r' k c μ e w = ap (upon (left r) (right r') k) e ∙ go (unify (left r).concl c) (unifier_of (left r).concl c)
  where
    go : (o : Option Bindings) → MguOk (left r).concl c o → by_unifier (left r) (right r') k o ≡ some (normal (sub_rule μ (parts r r' k)))
    go none h = absurd (h μ w.0)
    go (some m) h = ap some (same_record (left r) (right r') k c m h μ w)

-- .. and the values of the parents of an instance.
pub parents_any :
    (F : Term) (r r' : Rule) (k : ℕ) (c : Term) (μ : ℕ → Term) → nth (right r').hyps k ≡ some c → Mgu (left r).concl c μ
    → (θ : ℕ → Term) (z : ℕ) → parents F r r' k θ z ≡ sub (before (vars_of (drop_copies (sub_rule μ (parts r r' k)))) F θ) (μ z)
unfolding parents unifier_at or_else parts base left_over sub Mgu
parents_any F r r' k c μ e w θ z =
    ap (λ (o : Option Term). sub (before (vars_of (drop_copies (resolvent (left r) (right r') k (unifier_at (left r) o)))) F θ) (apply (unifier_at (left r) o) (var z))) e
    ∙ go (unify (left r).concl c) (unifier_of (left r).concl c)
  where
    go : (o : Option Bindings) → MguOk (left r).concl c o
        → sub (before (vars_of (drop_copies (resolvent (left r) (right r') k (or_else [] o)))) F θ) (apply (or_else [] o) (var z)) ≡ sub (before (vars_of (drop_copies (sub_rule μ (parts r r' k)))) F θ) (μ z)
    go none h = absurd (h μ w.0)
    go (some m) h = values_same (left r) (right r') k c m h μ w F θ (var z)
