-- Blanchet's Lifting at instances: what two instances of rules give together is an instance of the combination. Assumes nothing.
use Rattle.std.specs.Prelude.{ℕ, zero, suc, ◌+◌, ◌*◌, ◌/◌, ◌%◌, Bool, true, false, List, [], ◌∷◌, ◌++◌, map, ◌≡◌, ◌⊎◌, eqb, get_or}
use Rattle.std.proofs.Common.{arith, le_refl, ap, ap₂, ◌∙◌, inl, inr, eqb-true, eq-eqb, ne_eqb}
use Rattle.std.proofs.Math.Option.{Option, none, some}
use Rattle.std.proofs.Math.Path.{refl, subst, sym}
use Rattle.std.proofs.lemmas.Bool.{eqb-false}
use Rattle.model.specs.Term.{Term, var, con, ◌·◌, sub, elem, distinct, unknowns, unify, apply, Bindings, vars}
use Rattle.theory.specs.Subst.{sub_sub, sub_var, sub_ext, map_sub_var, map_sub_sub, In, in_var, in_left, in_right}
use Rattle.theory.specs.Embed.{Sel, here, there, Emb, done, pick, emb_refl, emb_weaken, emb_append, map_append, Implies, implies_trans}
use Rattle.theory.specs.Unify.{MguOk, mgu_ok, Within, sel_length}
use Rattle.model.specs.Rule.{Rule, place, among, firsts, vars_all, vars_of, sub_rule, renumber, drop_copies, normal, nth, without, left, right, resolvent, by_unifier, upon, combine}

-- ---- hypotheses by number
pub sel_nth : (l : List Term) (k : ℕ) (h : Term) → nth l k ≡ some h → Sel h (without l k) l
unfolding nth without
sel_nth [] k h e = absurd (let z : ◌≡◌ {A = ℕ} 0 1 = cc in omega arith)
sel_nth (t ∷ l) zero h e = subst (λ (x : Term). Sel x l (t ∷ l)) (cc) here
sel_nth (t ∷ l) (suc k) h e = there (sel_nth l k h e)

pub nth_map : (f : Term → Term) (l : List Term) (k : ℕ) (h : Term) → nth l k ≡ some h → nth (map f l) k ≡ some (f h)
unfolding nth
nth_map f [] k h e = cc
nth_map f (t ∷ l) zero h e = ap some (ap f (cc))
nth_map f (t ∷ l) (suc k) h e = nth_map f l k h e

pub without_map : (f : Term → Term) (l : List Term) (k : ℕ) → without (map f l) k ≡ map f (without l k)
unfolding without
without_map f [] k = refl
without_map f (t ∷ l) zero = refl
without_map f (t ∷ l) (suc k) = ap (f t ∷◌) (without_map f l k)

pub emb_firsts : (seen l : List Term) → Emb (firsts seen l) l
unfolding firsts
emb_firsts seen [] = done
emb_firsts seen (t ∷ l) = go (among t seen) (emb_firsts seen l) (emb_firsts (t ∷ seen) l)
  where
    go : (c : Bool) → Emb (firsts seen l) l → Emb (firsts (t ∷ seen) l) l → Emb (elim c [ true ↦ firsts seen l | false ↦ t ∷ firsts (t ∷ seen) l ]) (t ∷ l)
    go true h k = emb_weaken t h
    go false h k = pick here k

pub drop_copies_implies : (r : Rule) → Implies (drop_copies r) r
unfolding drop_copies
drop_copies_implies r = record { by = var; on_concl = sub_var r.concl; on_hyps = rw map_sub_var (emb_firsts [] r.hyps) }

-- ---- lists of variables
abbrev pub Has : ℕ → List ℕ → Type 0
Has x l = (r : List ℕ) × Sel x r l

has_here : {x : ℕ} {l : List ℕ} → Has x (x ∷ l)
has_here = (_, here)

has_there : {x y : ℕ} {l : List ℕ} → Has x l → Has x (y ∷ l)
has_there h = (_, there h.1)

pub has_cons : {x y : ℕ} {l : List ℕ} → Has x (y ∷ l) → (x ≡ y) ⊎ Has x l
has_cons h = go h.1
  where
    go : {x y : ℕ} {r l : List ℕ} → Sel x r (y ∷ l) → (x ≡ y) ⊎ Has x l
    go here = inl refl
    go (there i) = inr (_, i)

pub has_nil : {x : ℕ} → Has x [] → ⊥
has_nil h = omega (arith, sel_length h.1)

pub elem_has : (x : ℕ) (l : List ℕ) → elem x l ≡ true → Has x l
unfolding elem
elem_has x [] e = absurd (let z : ◌≡◌ {A = ℕ} 0 1 = cc in omega arith)
elem_has x (y ∷ l) e = go (eqb x y) refl e (elem_has x l)
  where
    go : (c : Bool) → eqb x y ≡ c → elim c as (λ _. Bool) [ true ↦ true | false ↦ elem x l ] ≡ true → (elem x l ≡ true → Has x l) → Has x (y ∷ l)
    go true h e' rec = subst (λ (z : ℕ). Has x (z ∷ l)) (eqb-true x y h) has_here
    go false h e' rec = has_there (rec e')

pub distinct_has : (x : ℕ) (seen l : List ℕ) → Has x l → Has x seen ⊎ Has x (distinct seen l)
unfolding distinct
distinct_has x seen [] h = absurd (has_nil h)
distinct_has x seen (y ∷ l) h = go (elem y seen) refl (has_cons h) (distinct_has x seen l) (distinct_has x (y ∷ seen) l)
  where
    go :
        (c : Bool) → elem y seen ≡ c → (x ≡ y) ⊎ Has x l
        → (Has x l → Has x seen ⊎ Has x (distinct seen l))
        → (Has x l → Has x (y ∷ seen) ⊎ Has x (distinct (y ∷ seen) l))
        → Has x seen ⊎ Has x (elim c [ true ↦ distinct seen l | false ↦ y ∷ distinct (y ∷ seen) l ])
    go true e (inl p) f g = inl (rw p (elem_has y seen e))
    go true e (inr i) f g = f i
    go false e (inl p) f g = inr (rw p has_here)
    go false e (inr i) f g =
        elim (g i) [
          | inl s ↦ elim (has_cons s) [ inl p ↦ inr (rw p has_here) | inr q ↦ inl q ]
          | inr q ↦ inr (has_there q)
        ]

pub vars_rest : {x : ℕ} (t : Term) {r : List ℕ} → Has x r → Has x (vars t r)
unfolding vars
vars_rest (var y) h = has_there h
vars_rest (con f) h = h
vars_rest (a · b) h = vars_rest a (vars_rest b h)

pub in_vars : {x : ℕ} {t : Term} (r : List ℕ) → In x t → Has x (vars t r)
unfolding vars
in_vars r in_var = has_here
in_vars r (in_left {b = b} i) = in_vars (vars b r) i
in_vars r (in_right {a = a} i) = vars_rest a (in_vars r i)

pub data InAll (x : ℕ) : List Term → Type 0 where
  in_head : {t : Term} {l : List Term} → In x t → InAll x (t ∷ l)
  in_tail : {t : Term} {l : List Term} → InAll x l → InAll x (t ∷ l)

pub in_vars_all : {x : ℕ} {l : List Term} → InAll x l → Has x (vars_all l)
unfolding vars_all
in_vars_all (in_head {l = l} i) = in_vars (vars_all l) i
in_vars_all (in_tail {t = t} i) = vars_rest t (in_vars_all i)

pub map_sub_ext : (r s : ℕ → Term) (l : List Term) → ((x : ℕ) → InAll x l → r x ≡ s x) → map (sub r) l ≡ map (sub s) l
map_sub_ext r s [] h = refl
map_sub_ext r s (t ∷ l) h = ap₂ ◌∷◌ (sub_ext r s t (λ x i. h x (in_head i))) (map_sub_ext r s l (λ x i. h x (in_tail i)))

-- ---- renumbering
pub place_at : (x : ℕ) (l : List ℕ) → Has x l → get_or l (place x l) 0 ≡ x
unfolding place
place_at x [] h = absurd (has_nil h)
place_at x (y ∷ l) h = go (eqb x y) refl (has_cons h) (place_at x l)
  where
    go : (c : Bool) → eqb x y ≡ c → (x ≡ y) ⊎ Has x l → (Has x l → get_or l (place x l) 0 ≡ x) → get_or (y ∷ l) (elim c [ true ↦ 0 | false ↦ suc (place x l) ]) 0 ≡ x
    go true e h' rec = sym (eqb-true x y e)
    go false e (inl p) rec = absurd (eqb-false x y e p)
    go false e (inr i) rec = rec i

abbrev pub unplace : List ℕ → ℕ → Term
unplace l zero = var 0
unplace l (suc i) = var (get_or l i 0)

pub renumber_implies : (r : Rule) → Implies (renumber r) r
unfolding renumber sub_rule vars_of sub
renumber_implies r =
    record {
      by = unplace (vars_of r);
      on_concl =
          sub_sub (unplace (vars_of r)) (λ x. var (suc (place x (vars_of r)))) r.concl
          ∙ sub_ext _ var r.concl (λ x i. ap var (place_at x (vars_of r) (known x (in_vars _ i))))
          ∙ sub_var r.concl;
      on_hyps =
          rw (map_sub_sub, map_sub_ext _ var r.hyps (λ x i. ap var (place_at x (vars_of r) (known x (vars_rest r.concl (in_vars_all i))))), map_sub_var)
          (emb_refl r.hyps);
    }
  where
    known : (x : ℕ) → Has x (vars r.concl (vars_all r.hyps)) → Has x (vars_of r)
    known x h = elim (distinct_has x [] _ h) [ inl a ↦ absurd (has_nil a) | inr b ↦ b ]

pub normal_implies : (r : Rule) → Implies (normal r) r
unfolding normal
normal_implies r = implies_trans (renumber_implies (drop_copies r)) (drop_copies_implies r)

-- ---- renaming apart
abbrev rule : Term → List Term → Rule
rule c hs = record { concl = c; hyps = hs }

pub join : (ℕ → Term) → (ℕ → Term) → ℕ → Term
join p q n = elim (eqb (n % 2) 0) [ true ↦ p (n / 2) | false ↦ q (n / 2) ]

join_left : (p q : ℕ → Term) (x : ℕ) → join p q (2 * x) ≡ p x
unfolding join
join_left p q x = go (eqb ((2 * x) % 2) 0) (eq-eqb ((2 * x) % 2) 0 (omega arith))
  where
    go : (c : Bool) → c ≡ true → elim c [ true ↦ p ((2 * x) / 2) | false ↦ q ((2 * x) / 2) ] ≡ p x
    go true e = ap p (omega arith)
    go false e = absurd (let z : ◌≡◌ {A = ℕ} 0 1 = cc in omega arith)

join_right : (p q : ℕ → Term) (x : ℕ) → join p q (2 * x + 1) ≡ q x
unfolding join
join_right p q x = go (eqb ((2 * x + 1) % 2) 0) (ne_eqb ((2 * x + 1) % 2) 0 (omega arith))
  where
    go : (c : Bool) → c ≡ false → elim c [ true ↦ p ((2 * x + 1) / 2) | false ↦ q ((2 * x + 1) / 2) ] ≡ q x
    go false e = ap q (omega arith)
    go true e = absurd (let z : ◌≡◌ {A = ℕ} 0 1 = cc in omega arith)

module _ (p q : ℕ → Term) where
  sub_left : (t : Term) → sub (join p q) (sub (λ x. var (2 * x)) t) ≡ sub p t
  unfolding sub
  sub_left t = sub_sub (join p q) (λ x. var (2 * x)) t ∙ sub_ext _ p t (λ x i. join_left p q x)

  sub_right : (t : Term) → sub (join p q) (sub (λ x. var (2 * x + 1)) t) ≡ sub q t
  unfolding sub
  sub_right t = sub_sub (join p q) (λ x. var (2 * x + 1)) t ∙ sub_ext _ q t (λ x i. join_right p q x)

  map_left : (l : List Term) → map (sub (join p q)) (map (sub (λ x. var (2 * x))) l) ≡ map (sub p) l
  map_left [] = refl
  map_left (t ∷ l) = ap₂ ◌∷◌ (sub_left t) (map_left l)

  map_right : (l : List Term) → map (sub (join p q)) (map (sub (λ x. var (2 * x + 1))) l) ≡ map (sub q) l
  map_right [] = refl
  map_right (t ∷ l) = ap₂ ◌∷◌ (sub_right t) (map_right l)

map_apply : (θ : ℕ → Term) (m : Bindings) → ((v : Term) → sub θ (apply m v) ≡ sub θ v) → (l : List Term) → map (sub θ) (map (apply m) l) ≡ map (sub θ) l
map_apply θ m h [] = refl
map_apply θ m h (t ∷ l) = ap₂ ◌∷◌ (h t) (map_apply θ m h l)

-- the variables of two terms are among those that are counted
pub within_counted : (s t : Term) → Within s t (distinct [] (vars s (vars t [])))
within_counted s t x i =
    elim (distinct_has x [] (vars s (vars t [])) (elim i [ inl l ↦ in_vars _ l | inr r ↦ vars_rest s (in_vars _ r) ])) [ inl a ↦ absurd (has_nil a) | inr b ↦ b ]

-- the fuel that the combination gives is enough
pub unifier_of : (s t : Term) → MguOk s t (unify s t)
unfolding unify unknowns
unifier_of s t = mgu_ok _ s t (distinct [] (vars s (vars t []))) (le_refl _) (within_counted s t)

-- Lifting, where what is combined are instances that meet at c
module _ (r r' : Rule) (k : ℕ) (h c f : Term) (gs fs : List Term) (p q : ℕ → Term)
    (at : nth r'.hyps k ≡ some h) (cp : sub p r.concl ≡ c) (hp : Emb (map (sub p) r.hyps) gs)
    (cq : sub q r'.concl ≡ f) (hq : sub q h ≡ c) (rest : Emb (map (sub q) (without r'.hyps k)) fs)
  where
    -- the resolvent by a most general unifier implies what the two instances give
    resolvent_implies :
        (m : Bindings) → ((v : Term) → sub (join p q) (apply m v) ≡ sub (join p q) v)
        → Implies (resolvent (left r) (right r') k m) (rule f (gs ++ fs))
    unfolding resolvent left right sub_rule
    resolvent_implies m g =
        record {
          by = join p q;
          on_concl = g _ ∙ sub_right p q r'.concl ∙ cq;
          on_hyps =
              rw (map_apply (join p q) m g, map_append, without_map, map_left, map_right) (emb_append hp rest);
        }

    by_unifier_lem : (o : Option Bindings) → MguOk (left r).concl (sub (λ x. var (2 * x + 1)) h) o → (n : Rule) × (by_unifier (left r) (right r') k o ≡ some n) × Implies n (rule f (gs ++ fs))
    unfolding by_unifier left sub_rule
    by_unifier_lem none no' = absurd (no' (join p q) (sub_left p q r.concl ∙ cp ∙ sym hq ∙ sym (sub_right p q h)))
    by_unifier_lem (some m) u = (
      _,
      refl,
      implies_trans (normal_implies _) (resolvent_implies m (u.general (join p q) (sub_left p q r.concl ∙ cp ∙ sym hq ∙ sym (sub_right p q h)))),
    )

    pub combine_lifts : (n : Rule) × (combine r r' k ≡ some n) × Implies n (rule f (gs ++ fs))
    unfolding combine upon left right sub_rule
    combine_lifts =
        subst (λ (o : Option Term). (n : Rule) × (upon (left r) (right r') k o ≡ some n) × Implies n (rule f (gs ++ fs)))
        (sym (nth_map (sub (λ x. var (2 * x + 1))) r'.hyps k h at))
        (by_unifier_lem (unify a b) (unifier_of a b))
      where
        a : Term
        a = (left r).concl

        b : Term
        b = sub (λ x. var (2 * x + 1)) h
