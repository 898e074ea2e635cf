-- Multiset inclusion as an injective choice, and implication of rules. Assumes nothing.
use Rattle.std.specs.Prelude.{ℕ, List, [], ◌∷◌, ◌++◌, map, ◌≡◌, refl, ◌⊎◌}
use Rattle.std.proofs.Common.{ap, ◌∙◌, sym, inl, inr}
use Rattle.model.specs.Term.{Term, var, sub}
use Rattle.theory.specs.Basics.{no_confusion}
use Rattle.theory.specs.Subst.{sub_sub, sub_var, map_sub_sub, map_sub_var}
use Rattle.model.specs.Rule.{Rule}

module _ {A : Type 0} where
  -- l is r with x put in somewhere
  pub data Sel (x : A) : List A → List A → Type 0 where
    here : {l : List A} → Sel x l (x ∷ l)
    there : {y : A} {r l : List A} → Sel x r l → Sel x (y ∷ r) (y ∷ l)

  pub data Emb : List A → List A → Type 0 where
    done : {q : List A} → Emb [] q
    pick : {x : A} {l r q : List A} → Sel x r q → Emb l r → Emb (x ∷ l) q

  pub emb_refl : (l : List A) → Emb l l
  emb_refl [] = done
  emb_refl (x ∷ l) = pick here (emb_refl l)

  -- two choices, in the other order
  pub sel_swap : {x y : A} {r s l : List A} → Sel y r l → Sel x s r → (d : List A) × Sel x d l × Sel y s d
  sel_swap here i = (_, there i, here)
  sel_swap (there j) here = (_, here, j)
  sel_swap (there j) (there i) = let w = sel_swap j i in (_, there w.1, there w.2)

  pub emb_sel : {x : A} {r b c : List A} → Sel x r b → Emb b c → (d : List A) × Sel x d c × Emb r d
  emb_sel here (pick i e) = (_, i, e)
  emb_sel (there j) (pick i e) =
      let w = emb_sel j e in
      let v = sel_swap i w.1 in
      (_, v.1, pick v.2 w.2)

  pub emb_trans : {a b c : List A} → Emb a b → Emb b c → Emb a c
  emb_trans done f = done
  emb_trans (pick i e) f =
      let w = emb_sel i f in
      pick w.1 (emb_trans e w.2)

  pub emb_weaken : {a b : List A} (y : A) → Emb a b → Emb a (y ∷ b)
  emb_weaken y done = done
  emb_weaken y (pick i e) = pick (there i) (emb_weaken y e)

  pub emb_skip : {a b : List A} (y : A) → Emb a b → Emb (y ∷ a) (y ∷ b)
  emb_skip y e = pick here e

module _ {A B : Type 0} (f : A → B) where
  pub sel_map : {x : A} {r l : List A} → Sel x r l → Sel (f x) (map f r) (map f l)
  sel_map here = here
  sel_map (there i) = there (sel_map i)

  pub emb_map : {a b : List A} → Emb a b → Emb (map f a) (map f b)
  emb_map done = done
  emb_map (pick i e) = pick (sel_map i) (emb_map e)

-- ---- members
abbrev pub Mem : {A : Type 0} → A → List A → Type 0
Mem {A} x l = (r : List A) × Sel x r l

module _ {A : Type 0} where
  pub mem_nil : {x : A} → Mem x [] → ⊥
  mem_nil m = go m.1 refl
    where
      go : {A : Type 0} {x : A} {r l : List A} → Sel x r l → l ≡ [] → ⊥
      go here e = no_confusion (cc)
      go (there i) e = no_confusion (cc)

  pub mem_cons : {x y : A} {l : List A} → Mem x (y ∷ l) → (x ≡ y) ⊎ Mem x l
  mem_cons m = go m.1
    where
      go : {A : Type 0} {x y : A} {r l : List A} → Sel x r (y ∷ l) → (x ≡ y) ⊎ Mem x l
      go here = inl refl
      go (there i) = inr (_, i)

  pub mem_here : {x : A} {l : List A} → Mem x (x ∷ l)
  mem_here = (_, here)

  pub mem_there : {x y : A} {l : List A} → Mem x l → Mem x (y ∷ l)
  mem_there m = (_, there m.1)

  -- one that is not the one taken out is still there
  pub sel_cases : {x y : A} {r q l : List A} → Sel x r l → Sel y q l → (y ≡ x) ⊎ Mem y r
  sel_cases here here = inl refl
  sel_cases here (there j) = inr (_, j)
  sel_cases (there i) here = inr (_, here)
  sel_cases (there i) (there j) = elim (sel_cases i j) [ inl e ↦ inl e | inr m ↦ inr (_, there m.1) ]

  pub sel_append : {x : A} {r q : List A} (d : List A) → Sel x r q → Sel x (r ++ d) (q ++ d)
  sel_append d here = here
  sel_append d (there i) = there (sel_append d i)

  pub mem_left : {x : A} {l : List A} (d : List A) → Mem x l → Mem x (l ++ d)
  mem_left d m = (_, sel_append d m.1)

  pub mem_right : {x : A} (c : List A) {l : List A} → Mem x l → Mem x (c ++ l)
  mem_right [] m = m
  mem_right (y ∷ c) m = (_, there (mem_right c m).1)

  emb_right : {b d : List A} (c : List A) → Emb b d → Emb b (c ++ d)
  emb_right [] f = f
  emb_right (x ∷ c) f = emb_weaken x (emb_right c f)

  pub emb_append : {a b c d : List A} → Emb a c → Emb b d → Emb (a ++ b) (c ++ d)
  emb_append {c = c} done f = emb_right c f
  emb_append {d = d} (pick i e) f = pick (sel_append d i) (emb_append e f)

module _ {A B : Type 0} (f : A → B) where
  pub mem_map : {x : A} {l : List A} → Mem x l → Mem (f x) (map f l)
  mem_map m = (_, sel_map f m.1)

  pub mem_unmap : (y : B) (l : List A) → Mem y (map f l) → (x : A) × Mem x l × (f x ≡ y)
  mem_unmap y [] m = absurd (mem_nil m)
  mem_unmap y (x ∷ l) m =
      elim (mem_cons m) [
        | inl e ↦ (x, mem_here, sym e)
        | inr k ↦ (let w = mem_unmap y l k in (w.0, mem_there w.1, w.2))
      ]

  pub map_append : (a b : List A) → map f (a ++ b) ≡ map f a ++ map f b
  map_append [] b = refl
  map_append (x ∷ a) b = ap (f x ∷◌) (map_append a b)

-- ---- Definition 1
pub record Implies (r q : Rule) : Type 0 where
  pub by : ℕ → Term
  pub on_concl : sub by r.concl ≡ q.concl
  pub on_hyps : Emb (map (sub by) r.hyps) q.hyps

pub implies_refl : (r : Rule) → Implies r r
implies_refl r =
    record {
      by = var;
      on_concl = sub_var r.concl;
      on_hyps = rw map_sub_var (emb_refl r.hyps);
    }

pub implies_trans : {p q r : Rule} → Implies p q → Implies q r → Implies p r
implies_trans {p} {q} {r} h k =
    record {
      by = λ x. sub k.by (h.by x);
      on_concl = sym (sub_sub k.by h.by p.concl) ∙ ap (sub k.by) h.on_concl ∙ k.on_concl;
      on_hyps = emb_trans (rw map_sub_sub at (emb_map (sub k.by) h.on_hyps)) k.on_hyps;
    }
