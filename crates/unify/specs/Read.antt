-- Terms read off the classes: the most general unifier. Assumes nothing.
use Rattle.std.specs.Prelude.{ℕ, zero, suc, ◌+◌, ◌-◌, ◌≤◌, ◌<◌, Bool, true, false, List, [], ◌∷◌, map, ◌≡◌, refl, leb}
use native.Mathlib.Omega.{arith}
use Rattle.std.proofs.Math.Path.{ap}
use Rattle.std.proofs.Common.{ap₂, ◌∙◌, subst, sym, leb-true, leb-false}
use Rattle.model.specs.Term.{Term, var, con, ◌·◌, sub, size}
use Rattle.theory.specs.Subst.{sub_sub, sub_ext}
use Rattle.theory.specs.Unify.{size_pos}
use Rattle.theory.specs.Unique.{Mgu}
use Rattle.records.specs.Tokens.{applied}
use Rattle.unify.specs.Forest.{up, Down, below, find, Eqv, climb_keeps, find_le}
use Rattle.unify.specs.Closure.{sub_applied, Pairs, Every, Graph, Same, Resp, resp_find, val_sym}

-- ---- sizes
total : List Term → ℕ
total [] = 0
total (u ∷ us) = size u + total us

size_applied : (t : Term) (us : List Term) → size (applied t us) ≡ size t + total us
unfolding applied total size
size_applied t [] = omega arith
size_applied t (u ∷ us) = size_applied (t · u) us ∙ omega arith

every_total : (f : ℕ → Term) (l : List ℕ) (n : ℕ) → total (map f l) ≤ n → Every (λ a. size (f a) ≤ n) l
unfolding total
every_total f [] n h = tt
every_total f (a ∷ l) n h = (omega arith, every_total f l n (omega arith))

pub every_map : (P Q : ℕ → Type 0) → ((a : ℕ) → P a → Q a) → (l : List ℕ) → Every P l → Every Q l
every_map P Q f [] h = tt
every_map P Q f (a ∷ l) h = (f a h.0, every_map P Q f l h.1)

pub pairs_refl : (R : ℕ → ℕ → Type 0) → ((a : ℕ) → R a a) → (l : List ℕ) → Pairs R l l
pairs_refl R f [] = tt
pairs_refl R f (a ∷ l) = (f a, pairs_refl R f l)

pairs_trans : (R : ℕ → ℕ → Type 0) → ((a b c : ℕ) → R a b → R b c → R a c) → (xs ys zs : List ℕ) → Pairs R xs ys → Pairs R ys zs → Pairs R xs zs
pairs_trans R f [] [] zs p q = q
pairs_trans R f [] (b ∷ ys) zs p q = absurd p
pairs_trans R f (a ∷ xs) [] zs p q = absurd p
pairs_trans R f (a ∷ xs) (b ∷ ys) [] p q = q
pairs_trans R f (a ∷ xs) (b ∷ ys) (c ∷ zs) p q = (f a b c p.0 q.0, pairs_trans R f xs ys zs p.1 q.1)

module _ (G : Graph) where
  -- an argument's instance is smaller
  pub smaller : (θ : ℕ → Term) (i : ℕ) → i < G.places → Every (λ a. size (sub θ (G.tree a)) < size (sub θ (G.tree i))) (G.args i)
  unfolding size
  smaller θ i l =
      every_map _ _ (λ a h. go a h) (G.args i) (every_total (λ a. sub θ (G.tree a)) (G.args i) _ (omega arith))
    where
      e : size (sub θ (G.tree i)) ≡ 1 + total (map (λ a. sub θ (G.tree a)) (G.args i))
      e = ap size (val_sym G θ i l) ∙ size_applied (con (G.label i)) (map (λ a. sub θ (G.tree a)) (G.args i))

      go : (a : ℕ) → size (sub θ (G.tree a)) ≤ total (map (λ a. sub θ (G.tree a)) (G.args i)) → size (sub θ (G.tree a)) < size (sub θ (G.tree i))
      go a h = omega (arith, e)

  module _ (s : List ℕ) where
    mutual
      pub data Reads : ℕ → Term → Type 0 where
        rvar : {i : ℕ} {t : Term} → G.places ≤ find s i → t ≡ var (find s i - G.places) → Reads i t
        rsym : {i : ℕ} {t : Term} {us : List Term} → find s i < G.places → ReadsAll (G.args (find s i)) us → t ≡ applied (con (G.label (find s i))) us → Reads i t

      pub data ReadsAll : List ℕ → List Term → Type 0 where
        rnil : ReadsAll [] []
        rcons : {a : ℕ} {t : Term} {l : List ℕ} {us : List Term} → Reads a t → ReadsAll l us → ReadsAll (a ∷ l) (t ∷ us)

    pub reads_eqv : {i : ℕ} {t : Term} (j : ℕ) → Eqv s i j → Reads i t → Reads j t
    reads_eqv j e (rvar v q) = rvar (subst (λ (k : ℕ). G.places ≤ k) e v) (q ∙ ap (λ (k : ℕ). var (k - G.places)) e)
    reads_eqv j e (rsym {us = us} v h q) =
        rsym (subst (λ (k : ℕ). k < G.places) e v) (subst (λ (k : ℕ). ReadsAll (G.args k) us) e h) (q ∙ ap (λ (k : ℕ). applied (con (G.label k)) us) e)

    pub all_eqv : {xs : List ℕ} {us : List Term} (ys : List ℕ) → Pairs (Eqv s) xs ys → ReadsAll xs us → ReadsAll ys us
    all_eqv [] p rnil = rnil
    all_eqv (b ∷ ys) p rnil = absurd p
    all_eqv [] p (rcons h k) = absurd p
    all_eqv (b ∷ ys) p (rcons h k) = rcons (reads_eqv b p.0 h) (all_eqv ys p.1 k)

    mutual
      pub reads_det : {i : ℕ} {t : Term} → Reads i t → (j : ℕ) (u : Term) → Eqv s i j → Reads j u → t ≡ u
      reads_det (rvar v q) j u e (rvar w p) = q ∙ ap (λ (k : ℕ). var (k - G.places)) e ∙ sym p
      reads_det (rvar v q) j u e (rsym w h p) = absurd (omega arith)
      reads_det (rsym v h q) j u e (rvar w p) = absurd (omega arith)
      reads_det (rsym {i = i} {us = us} v h q) j u e (rsym {us = vs} w k p) =
          q
          ∙ ap₂ (λ (n : ℕ) (l : List Term). applied (con (G.label n)) l) e
          (all_det h (G.args (find s j)) vs (subst (λ (n : ℕ). Pairs (Eqv s) (G.args (find s i)) (G.args n)) e (pairs_refl (Eqv s) (λ a. refl) (G.args (find s i)))) k)
          ∙ sym p

      pub all_det : {xs : List ℕ} {us : List Term} → ReadsAll xs us → (ys : List ℕ) (vs : List Term) → Pairs (Eqv s) xs ys → ReadsAll ys vs → us ≡ vs
      all_det rnil ys vs p rnil = refl
      all_det rnil ys vs p (rcons h k) = absurd p
      all_det (rcons h k) ys vs p rnil = absurd p
      all_det (rcons h k) ys vs p (rcons {a = b} {t = u} {l = l} {us = ws} h' k') = ap₂ ◌∷◌ (reads_det h b u p.0 h') (all_det k l ws p.1 k')

    -- whatever meets the classes meets what is read
    mutual
      unfolding sub

      pub reads_general : {i : ℕ} {t : Term} → Reads i t → (θ : ℕ → Term) → Resp G θ s → sub θ t ≡ sub θ (G.tree i)
      reads_general (rvar {i = i} v q) θ h = ap (sub θ) (q ∙ sym (G.on_var (find s i) v)) ∙ sym (resp_find G θ s h i)
      reads_general (rsym {i = i} {us = us} v k q) θ h =
          ap (sub θ) q
          ∙ sub_applied θ (con (G.label (find s i))) us
          ∙ ap (applied (con (G.label (find s i)))) (all_general k θ h)
          ∙ sym (val_sym G θ (find s i) v)
          ∙ sym (resp_find G θ s h i)

      all_general : {xs : List ℕ} {us : List Term} → ReadsAll xs us → (θ : ℕ → Term) → Resp G θ s → map (sub θ) us ≡ map (λ a. sub θ (G.tree a)) xs
      all_general rnil θ h = refl
      all_general (rcons k l) θ h = ap₂ ◌∷◌ (reads_general k θ h) (all_general l θ h)

    -- each place agrees with the root of its class
    abbrev pub Alike : ℕ → ℕ → Type 0
    Alike i j = i < G.places → (G.label i ≡ G.label j) × Pairs (Eqv s) (G.args i) (G.args j)

    pub closed_find : Down s → ((i : ℕ) → Alike i (up s i)) → (i : ℕ) → Alike i (find s i)
    unfolding find
    closed_find d h i l =
        (climb_keeps (λ j. (j ≤ i) × ((G.label i ≡ G.label j) × Pairs (Eqv s) (G.args i) (G.args j))) s
        (λ j w.
        let b = below s d j in
        let m = w.0 in
        let v = h j (omega arith) in
        (omega arith, (w.1.0 ∙ v.0, pairs_trans (Eqv s) (λ a b c p q. p ∙ q) (G.args i) (G.args j) (G.args (up s j)) w.1.1 v.1)))
        i i (omega arith, (refl, pairs_refl (Eqv s) (λ a. refl) (G.args i)))).1

    module _ (d : Down s) (closed : (i : ℕ) → Alike i (find s i)) (all : (x : ℕ) → (t : Term) × Reads (G.places + x) t) where
      pub σ : ℕ → Term
      σ x = (all x).0

      fill : (l : List ℕ) → Every (λ a. Reads a (sub σ (G.tree a))) l → ReadsAll l (map (λ a. sub σ (G.tree a)) l)
      fill [] h = rnil
      fill (a ∷ l) h = rcons h.0 (fill l h.1)

      at_var : (i : ℕ) → G.places ≤ i → Reads i (sub σ (G.tree i))
      unfolding sub σ
      at_var i v =
          let e : G.places + (i - G.places) ≡ i = omega arith in
          rw (G.on_var i v) (subst (λ (k : ℕ). Reads k (all (i - G.places)).0) e (all (i - G.places)).1)

      at_sym : (i : ℕ) → i < G.places → Every (λ a. Reads a (sub σ (G.tree a))) (G.args i) → Reads i (sub σ (G.tree i))
      at_sym i v h =
          let c = closed i v in
          let b = find_le s d i in
          let w : find s i < G.places = omega arith in
          rsym w (all_eqv (G.args (find s i)) c.1 (fill (G.args i) h))
          (val_sym G σ i v ∙ ap (λ (f : ℕ). applied (con f) (map (λ a. sub σ (G.tree a)) (G.args i))) c.0)

      -- σ of each node is what is read of it
      reads_fuel : (n i : ℕ) → size (sub σ (G.tree i)) ≤ n → Reads i (sub σ (G.tree i))
      reads_fuel zero i l = absurd (let z = size_pos (sub σ (G.tree i)) in omega arith)
      reads_fuel (suc n) i l = go (leb G.places i) refl (reads_fuel n)
        where
          go : (c : Bool) → leb G.places i ≡ c → ((a : ℕ) → size (sub σ (G.tree a)) ≤ n → Reads a (sub σ (G.tree a))) → Reads i (sub σ (G.tree i))
          go true e rec = at_var i (leb-true G.places i e)
          go false e rec =
              let v = leb-false G.places i e in
              at_sym i v (every_map (λ a. size (sub σ (G.tree a)) < size (sub σ (G.tree i))) (λ a. Reads a (sub σ (G.tree a))) (λ a h. rec a (omega arith)) (G.args i) (smaller σ i v))

      pub reads_sub : (i : ℕ) → Reads i (sub σ (G.tree i))
      reads_sub i = reads_fuel (size (sub σ (G.tree i))) i (omega arith)

      pub unifies : (p q : ℕ) → Eqv s p q → sub σ (G.tree p) ≡ sub σ (G.tree q)
      unifies p q e = reads_det (reads_sub p) q (sub σ (G.tree q)) e (reads_sub q)

      pub general : (θ : ℕ → Term) → Resp G θ s → (v : Term) → sub θ (sub σ v) ≡ sub θ v
      unfolding sub σ
      general θ h v = sub_sub θ σ v ∙ sub_ext (λ x. sub θ (σ x)) θ v (λ x i. point x)
        where
          point : (x : ℕ) → sub θ (all x).0 ≡ θ x
          point x =
              let e : G.places + x - G.places ≡ x = omega arith in
              reads_general (all x).1 θ h ∙ ap (sub θ) (G.on_var (G.places + x) (omega arith)) ∙ ap θ e

      pub most_general : (p q : ℕ) → Eqv s p q → ((θ : ℕ → Term) → Same G θ p q → Resp G θ s) → Mgu (G.tree p) (G.tree q) σ
      unfolding Mgu
      most_general p q e f = (unifies p q e, λ θ h v. general θ (f θ h) v)
