-- Loading and combining keep validity: what a record's rule says follows from the input rules. Assumes nothing.
use Prim.Native.Nat.{ℕ, suc}
use Rattle.std.specs.Prelude.{Bool, true, false, List, [], ◌∷◌, map, ◌≡◌, ◌⊎◌}
use Rattle.std.proofs.Math.Option.{Option, none, some}
use Rattle.std.proofs.Math.Path.{refl, ap, subst}
use Rattle.std.proofs.Common.{◌∙◌, sym}
use Rattle.std.proofs.Math.Logic.{inl, inr}
use Rattle.model.specs.Term.{Term, var, sub, same, unify, apply, Bindings}
use Rattle.model.specs.Rule.{Rule, among, firsts, sub_rule, renumber, drop_copies, normal, vars_of, place, nth, without, left, right, resolvent, by_unifier, upon, combine}
use Rattle.model.specs.Derive.{Closed, Derives, DerivesAll, by, nil, also, Valid}
use Rattle.theory.specs.Basics.{true≢false, no_confusion}
use Rattle.theory.specs.Subst.{sub_sub, apply_sub}
use Rattle.theory.specs.Closed.{closed_of}
use Rattle.theory.specs.Embed.{Sel, here, there, Mem, mem_nil, mem_cons, mem_here, mem_there, sel_cases, mem_left, mem_right, mem_map}
use Rattle.theory.specs.Unify.{MguOk}
use Rattle.theory.specs.Implies.{same_ok, SameOk}
use Rattle.theory.specs.Combine.{sel_nth, unifier_of}

-- derivable, with a tree of some size
abbrev pub D : (Rule → Type 0) → Term → Type 0
D B f = (n : ℕ) × Derives Closed B n f

module _ {B : Rule → Type 0} where
  pub all_from : (σ : ℕ → Term) (l : List Term) → ((h : Term) → Mem h l → D B (sub σ h)) → (n : ℕ) × DerivesAll Closed B n (map (sub σ) l)
  all_from σ [] f = (0, nil)
  all_from σ (h ∷ l) f =
      let a = f h mem_here in
      let b = all_from σ l (λ x m. f x (mem_there m)) in
      (_, also a.1 b.1 refl)

  derives_sel : {x : Term} {n : ℕ} {r l : List Term} → Sel x r l → DerivesAll Closed B n l → D B x
  derives_sel here (also d ds e) = (_, d)
  derives_sel (there i) (also d ds e) = derives_sel i ds

  pub one_of : {n : ℕ} {x : Term} {l : List Term} → DerivesAll Closed B n l → Mem x l → D B x
  one_of ds m = derives_sel m.1 ds

-- Validity said of each hypothesis by itself.
unfoldable pub ValidBy : (Rule → Type 0) → Rule → Type 0
ValidBy B r = (σ : ℕ → Term) → ((x : ℕ) → Closed (σ x)) → ((h : Term) → Mem h r.hyps → D B (sub σ h)) → D B (sub σ r.concl)

module _ (B : Rule → Type 0) where
  pub valid_by : (r : Rule) → ValidBy B r → Valid B r
  unfolding ValidBy
  valid_by r v σ c n ds = v σ c (λ h m. one_of ds (mem_map (sub σ) m))

  pub input_valid : (r : Rule) → B r → ValidBy B r
  unfolding ValidBy
  input_valid r b σ c f = let w = all_from σ r.hyps f in (_, by r σ b c refl w.1)

  sub_valid : (s : ℕ → Term) (r : Rule) → ValidBy B r → ValidBy B (sub_rule s r)
  unfolding ValidBy sub_rule
  sub_valid s r v σ c f = rw sub_sub (v (λ x. sub σ (s x)) (λ x. closed_of σ c (s x)) (λ h m. rw sub_sub at (f (sub s h) (mem_map (sub s) m))))

-- ---- no hypothesis is lost with its copies
among_mem : (t : Term) (l : List Term) → among t l ≡ true → Mem t l
unfolding among
among_mem t [] e = true≢false e refl
among_mem t (u ∷ l) e = go (same t u) (same_ok t u) e (among_mem t l)
  where
    go : (c : Bool) → SameOk t u c → elim c as (λ _. Bool) [ true ↦ true | false ↦ among t l ] ≡ true → (among t l ≡ true → Mem t l) → Mem t (u ∷ l)
    go true h e' rec = subst (λ (z : Term). Mem t (z ∷ l)) h mem_here
    go false h e' rec = mem_there (rec e')

firsts_seen : (x : Term) (seen l : List Term) → Mem x l → Mem x seen ⊎ Mem x (firsts seen l)
unfolding firsts
firsts_seen x seen [] m = inr m
firsts_seen x seen (y ∷ l) m = go (among y seen) refl (mem_cons m) (firsts_seen x seen l) (firsts_seen x (y ∷ seen) l)
  where
    go :
        (c : Bool) → among y seen ≡ c → (x ≡ y) ⊎ Mem x l → (Mem x l → Mem x seen ⊎ Mem x (firsts seen l))
        → (Mem x l → Mem x (y ∷ seen) ⊎ Mem x (firsts (y ∷ seen) l))
        → Mem x seen ⊎ Mem x (elim c [ true ↦ firsts seen l | false ↦ y ∷ firsts (y ∷ seen) l ])
    go true e (inl p) f g = inl (rw p (among_mem y seen e))
    go true e (inr i) f g = f i
    go false e (inl p) f g = inr (rw p mem_here)
    go false e (inr i) f g =
        elim (g i) [
          | inl s ↦ elim (mem_cons s) [ inl p ↦ inr (rw p mem_here) | inr q ↦ inl q ]
          | inr q ↦ inr (mem_there q)
        ]

pub firsts_mem : (x : Term) (l : List Term) → Mem x l → Mem x (firsts [] l)
firsts_mem x l m = elim (firsts_seen x [] l m) [ inl z ↦ absurd (mem_nil z) | inr z ↦ z ]

module _ (B : Rule → Type 0) where
  drop_valid : (r : Rule) → ValidBy B r → ValidBy B (drop_copies r)
  unfolding ValidBy drop_copies
  drop_valid r v σ c f = v σ c (λ h m. f h (firsts_mem h r.hyps m))

  pub normal_valid : (r : Rule) → ValidBy B r → ValidBy B (normal r)
  unfolding normal renumber
  normal_valid r v = sub_valid B (λ x. var (suc (place x (vars_of (drop_copies r))))) (drop_copies r) (drop_valid r v)

-- ---- the resolvent
module _ (B : Rule → Type 0) (a b : Rule) (k : ℕ) (f : Term) (at : nth b.hyps k ≡ some f) (va : ValidBy B a) (vb : ValidBy B b) where
  resolvent_valid : (m : Bindings) → apply m a.concl ≡ apply m f → ValidBy B (resolvent a b k m)
  unfolding ValidBy resolvent
  resolvent_valid m e θ c g =
      subst (D B) (sym (both' b.concl))
      (vb σ σc
      (λ h i.
      elim (sel_cases (sel_nth b.hyps k f at) i.1) [
        | inl p ↦
            subst (D B) (sym (both' a.concl) ∙ ap (sub θ) e ∙ both' f ∙ ap (sub σ) (sym p))
            (va σ σc (λ h' j. subst (D B) (both' h') (g (apply m h') (mem_map (apply m) (mem_left (without b.hyps k) j)))))
        | inr j ↦ subst (D B) (both' h) (g (apply m h) (mem_map (apply m) (mem_right a.hyps j)))
      ]))
    where
      σ : ℕ → Term
      σ x = sub θ (apply m (var x))

      σc : (x : ℕ) → Closed (σ x)
      σc x = closed_of θ c (apply m (var x))

      both' : (t : Term) → sub θ (apply m t) ≡ sub σ t
      both' t = ap (sub θ) (apply_sub m t) ∙ sub_sub θ (λ x. apply m (var x)) t

  unifier_valid : (o : Option Bindings) → MguOk a.concl f o → (n : Rule) → by_unifier a b k o ≡ some n → ValidBy B n
  unfolding by_unifier
  unifier_valid none u n e = no_confusion (cc)
  unifier_valid (some m) u n e =
      let z : normal (resolvent a b k m) ≡ n = cc in
      subst (ValidBy B) z (normal_valid B (resolvent a b k m) (resolvent_valid m u.unifies))

pub combine_valid : (B : Rule → Type 0) (r r' : Rule) (k : ℕ) (n : Rule) → combine r r' k ≡ some n → ValidBy B r → ValidBy B r' → ValidBy B n
unfolding combine upon left right
combine_valid B r r' k n e v w = go (nth (right r').hyps k) refl e
  where
    go : (o : Option Term) → nth (right r').hyps k ≡ o → upon (left r) (right r') k o ≡ some n → ValidBy B n
    go none p h = no_confusion (cc)
    go (some f) p h = unifier_valid B (left r) (right r') k f p (sub_valid B _ r v) (sub_valid B _ r' w) (unify (left r).concl f) (unifier_of (left r).concl f) n h
