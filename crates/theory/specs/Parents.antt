-- The values given to the two parents make them combine to the instance. Assumes nothing.
use Rattle.std.specs.Prelude.{ℕ, zero, suc, ◌+◌, ◌*◌, Bool, true, false, ◌≡◌, eqb}
use Rattle.std.proofs.Common.{◌∙◌, eq-eqb}
use Rattle.std.proofs.Math.Option.{Option, none, some}
use mathlib.Core.List.{List, [], ◌∷◌, ◌++◌, map}
use Rattle.std.proofs.Math.Path.{refl, ap, subst, sym}
use Rattle.std.proofs.Math.Logic.{inl, inr}
use Rattle.model.specs.Term.{Term, var, sub, elem, unify, apply, Bindings, vars}
use Rattle.theory.specs.Subst.{apply_sub, sub_sub, sub_ext, In}
use Rattle.theory.specs.Embed.{Sel, here, there, Mem, mem_map, mem_left, mem_right}
use Rattle.theory.specs.Unify.{MguOk}
use Rattle.theory.specs.Basics.{true≢false, no_confusion}
use Rattle.theory.specs.Combine.{Has, has_nil, InAll, in_head, in_tail, in_vars, in_vars_all, vars_rest, distinct_has, unifier_of, without_map}
use Rattle.theory.specs.Sound.{firsts_mem}
use Rattle.model.specs.Rule.{Rule, normal, place, vars_all, vars_of, sub_rule, renumber, drop_copies, nth, without, left, right, resolvent, by_unifier, upon, combine}
use Rattle.model.specs.Write.{or_else, before, unifier_at, parents}

has_elem : (x : ℕ) {r : List ℕ} (l : List ℕ) → Sel x r l → elem x l ≡ true
unfolding elem
has_elem x [] i = elim i [ ]
has_elem x (y ∷ l) here = go (eqb x x) (eq-eqb x x refl)
  where
    go : (c : Bool) → c ≡ true → elim c as (λ _. Bool) [ true ↦ true | false ↦ elem x l ] ≡ true
    go true e = refl
    go false e = true≢false e refl
has_elem x (y ∷ l) (there i) = go (eqb x y) (has_elem x l i)
  where
    go : (c : Bool) → elem x l ≡ true → elim c as (λ _. Bool) [ true ↦ true | false ↦ elem x l ] ≡ true
    go true e = refl
    go false e = e

before_at : (vs : List ℕ) (filler : Term) (θ : ℕ → Term) (x : ℕ) → Has x vs → before vs filler θ x ≡ θ (suc (place x vs))
unfolding before
before_at vs filler θ x h = go (elem x vs) (has_elem x vs h.1)
  where
    go : (c : Bool) → c ≡ true → elim c as (λ _. Term) [ true ↦ θ (suc (place x vs)) | false ↦ filler ] ≡ θ (suc (place x vs))
    go true e = refl
    go false e = true≢false e refl

-- ---- an instance of what was renumbered
module _ (p : Rule) (filler : Term) (θ : ℕ → Term) where
  in_vars_of : (x : ℕ) → Has x (vars p.concl (vars_all p.hyps)) → Has x (vars_of p)
  unfolding vars_of
  in_vars_of x h = elim (distinct_has x [] _ h) [ inl a ↦ absurd (has_nil a) | inr b ↦ b ]

  pub concl_before : sub θ (renumber p).concl ≡ sub (before (vars_of p) filler θ) p.concl
  unfolding renumber sub_rule sub
  concl_before = sub_sub _ _ p.concl ∙ sub_ext _ _ p.concl (λ x i. sym (before_at (vars_of p) filler θ x (in_vars_of x (in_vars _ i))))

  mem_in : {x : ℕ} {h : Term} {r l : List Term} → Sel h r l → In x h → InAll x l
  mem_in here i = in_head i
  mem_in (there s) i = in_tail (mem_in s i)

  pub hyp_before : (h : Term) → Mem h p.hyps → Mem (sub (before (vars_of p) filler θ) h) (map (sub θ) (renumber p).hyps)
  unfolding renumber sub_rule sub
  hyp_before h m =
      subst (λ (z : Term). Mem z (map (sub θ) (renumber p).hyps))
      (sub_sub θ _ h ∙ sub_ext _ _ h (λ x i. sym (before_at (vars_of p) filler θ x (in_vars_of x (vars_rest p.concl (in_vars_all (mem_in m.1 i)))))))
      (mem_map (sub θ) (mem_map (sub (λ x. var (suc (place x (vars_of p))))) m))

pub record Parents (r r' n : Rule) (k : ℕ) (θ σ : ℕ → Term) : Type 0 where
  pub hyp : Term
  pub at : nth r'.hyps k ≡ some hyp
  pub meet : sub (λ y. σ (2 * y)) r.concl ≡ sub (λ y. σ (2 * y + 1)) hyp
  pub concl : sub (λ y. σ (2 * y + 1)) r'.concl ≡ sub θ n.concl
  pub hyps_l : (h : Term) → Mem h r.hyps → Mem (sub (λ y. σ (2 * y)) h) (map (sub θ) n.hyps)
  pub hyps_r : (h : Term) → Mem h (without r'.hyps k) → Mem (sub (λ y. σ (2 * y + 1)) h) (map (sub θ) n.hyps)

unmap_nth : (f : Term → Term) (l : List Term) (k : ℕ) (c : Term) → nth (map f l) k ≡ some c → (h : Term) × (nth l k ≡ some h) × (f h ≡ c)
unfolding nth
unmap_nth f [] k c e = no_confusion (cc)
unmap_nth f (t ∷ l) zero c e = (t, refl, (cc))
unmap_nth f (t ∷ l) (suc k) c e = unmap_nth f l k c e

module _ (filler : Term) (r r' : Rule) (k : ℕ) (θ : ℕ → Term) where
  abbrev L : Term → Term
  L t = sub (λ x. var (2 * x)) t

  abbrev R : Term → Term
  R t = sub (λ x. var (2 * x + 1)) t

  module _ (h : Term) (at : nth r'.hyps k ≡ some h) (m : Bindings) (u : apply m (L r.concl) ≡ apply m (R h)) where
    p : Rule
    p = drop_copies (resolvent (left r) (right r') k m)

    σ : ℕ → Term
    σ z = sub (before (vars_of p) filler θ) (apply m (var z))

    σ_apply : (t : Term) → sub (before (vars_of p) filler θ) (apply m t) ≡ sub σ t
    unfolding σ
    σ_apply t = ap (sub _) (apply_sub m t) ∙ sub_sub (before (vars_of p) filler θ) (λ x. apply m (var x)) t

    σ_left : (t : Term) → sub (before (vars_of p) filler θ) (apply m (L t)) ≡ sub (λ y. σ (2 * y)) t
    unfolding sub
    σ_left t = σ_apply (L t) ∙ sub_sub σ (λ x. var (2 * x)) t

    σ_right : (t : Term) → sub (before (vars_of p) filler θ) (apply m (R t)) ≡ sub (λ y. σ (2 * y + 1)) t
    unfolding sub
    σ_right t = σ_apply (R t) ∙ sub_sub σ (λ x. var (2 * x + 1)) t

    in_p : (t : Term) → Mem t ((left r).hyps ++ without (right r').hyps k) → Mem (sub (before (vars_of p) filler θ) (apply m t)) (map (sub θ) (renumber p).hyps)
    unfolding p drop_copies resolvent
    in_p t i = hyp_before p filler θ (apply m t) (firsts_mem (apply m t) _ (mem_map (apply m) i))

    concl_p : sub (before (vars_of p) filler θ) (apply m (R r'.concl)) ≡ sub (before (vars_of p) filler θ) p.concl
    unfolding p drop_copies resolvent right sub_rule
    concl_p = refl

    parents_of : Parents r r' (renumber p) k θ σ
    unfolding left right sub_rule
    parents_of =
        record {
          hyp = h;
          at = at;
          meet = sym (σ_left r.concl) ∙ ap (sub _) u ∙ σ_right h;
          concl = sym (σ_right r'.concl) ∙ concl_p ∙ sym (concl_before p filler θ);
          hyps_l = λ x i. subst (λ (z : Term). Mem z (map (sub θ) (renumber p).hyps)) (σ_left x) (in_p (L x) (mem_left (without (right r').hyps k) (mem_map L i)));
          hyps_r =
              λ x i.
              subst (λ (z : Term). Mem z (map (sub θ) (renumber p).hyps)) (σ_right x)
              (in_p (R x) (mem_right (left r).hyps (subst (λ (z : List Term). Mem (R x) z) (sym (without_map R r'.hyps k)) (mem_map R i))));
        }

  abbrev From : Bindings → ℕ → Term
  From m z = sub (before (vars_of (drop_copies (resolvent (left r) (right r') k m))) filler θ) (apply m (var z))

  by_unifier_lem : (n : Rule) (c h : Term) → nth r'.hyps k ≡ some h → R h ≡ c → (o : Option Bindings) → MguOk (left r).concl c o → by_unifier (left r) (right r') k o ≡ some n → Parents r r' n k θ (From (or_else [] o))
  unfolding by_unifier normal or_else σ p left sub_rule
  by_unifier_lem n c h at e none u q = no_confusion (cc)
  by_unifier_lem n c h at e (some m) u q =
      let z : normal (resolvent (left r) (right r') k m) ≡ n = cc in
      subst (λ (w : Rule). Parents r r' w k θ (From m)) z (parents_of h at m (u.unifies ∙ ap (apply m) (sym e)))

  pub parents_ok : (n : Rule) → combine r r' k ≡ some n → Parents r r' n k θ (parents filler r r' k θ)
  unfolding combine upon parents unifier_at right sub_rule
  parents_ok n e = go (nth (right r').hyps k) refl e
    where
      go : (o : Option Term) → nth (right r').hyps k ≡ o → upon (left r) (right r') k o ≡ some n → Parents r r' n k θ (From (unifier_at (left r) o))
      go none p q = no_confusion (cc)
      go (some c) p q =
          let w = unmap_nth R r'.hyps k c p in
          by_unifier_lem n c w.0 w.1 w.2 (unify (left r).concl c) (unifier_of (left r).concl c) q
