-- Unification by classes of nodes. A node below `places` is a symbol with arguments, any other is a variable. Assumes nothing.
use Rattle.std.specs.Prelude.{ℕ, ◌-◌, ◌≤◌, ◌<◌, List, [], ◌∷◌, map, ◌≡◌, ◌⊎◌, length}
use Rattle.std.proofs.Common.{arith, ◌∙◌, sym, inl, inr}
use Rattle.std.proofs.Math.Path.{refl, ap, subst}
use Rattle.std.proofs.lemmas.List.{length-map}
use Rattle.model.specs.Term.{Term, var, con, ◌·◌, sub}
use Rattle.records.specs.Tokens.{applied}
use Rattle.unify.specs.Forest.{up, Down, find, Eqv, climb_keeps, Grows, grows, grows_refl, grows_trans, roots}

-- ---- a symbol with its arguments
pub sub_applied : (θ : ℕ → Term) (t : Term) (us : List Term) → sub θ (applied t us) ≡ applied (sub θ t) (map (sub θ) us)
unfolding applied sub
sub_applied θ t [] = refl
sub_applied θ t (u ∷ us) = sub_applied θ (t · u) us

head_of : Term → Term
head_of (var x) = var x
head_of (con f) = con f
head_of (a · b) = head_of a

head_applied : (t : Term) (us : List Term) → head_of (applied t us) ≡ head_of t
unfolding applied head_of
head_applied t [] = refl
head_applied t (u ∷ us) = head_applied (t · u) us

pub applied_con : (f g : ℕ) (xs ys : List Term) → applied (con f) xs ≡ applied (con g) ys → f ≡ g
unfolding head_of
applied_con f g xs ys e = let h : con f ≡ con g = sym (head_applied (con f) xs) ∙ ap head_of e ∙ head_applied (con g) ys in cc

pub applied_args : (t u : Term) (xs ys : List Term) → length xs ≡ length ys → applied t xs ≡ applied u ys → (t ≡ u) × (xs ≡ ys)
unfolding applied
applied_args t u [] [] l e = (e, refl)
applied_args t u [] (b ∷ ys) l e = absurd (omega arith)
applied_args t u (a ∷ xs) [] l e = absurd (omega arith)
applied_args t u (a ∷ xs) (b ∷ ys) l e =
    let w = applied_args (t · a) (u · b) xs ys (omega arith) e in
    let p : t · a ≡ u · b = w.0 in
    let q : xs ≡ ys = w.1 in
    (cc, cc)

-- ---- pairs of nodes
abbrev pub Pairs : (ℕ → ℕ → Type 0) → List ℕ → List ℕ → Type 0
Pairs R [] [] = Unit {0}
Pairs R [] (b ∷ ys) = ⊥
Pairs R (a ∷ xs) [] = ⊥
Pairs R (a ∷ xs) (b ∷ ys) = R a b × Pairs R xs ys

pub pairs_map : (R S : ℕ → ℕ → Type 0) → ((a b : ℕ) → R a b → S a b) → (xs ys : List ℕ) → Pairs R xs ys → Pairs S xs ys
pairs_map R S f [] [] p = tt
pairs_map R S f [] (b ∷ ys) p = p
pairs_map R S f (a ∷ xs) [] p = p
pairs_map R S f (a ∷ xs) (b ∷ ys) p = (f a b p.0, pairs_map R S f xs ys p.1)

pub pairs_flip : (R S : ℕ → ℕ → Type 0) → ((a b : ℕ) → R a b → S b a) → (xs ys : List ℕ) → Pairs R xs ys → Pairs S ys xs
pairs_flip R S f [] [] p = tt
pairs_flip R S f [] (b ∷ ys) p = p
pairs_flip R S f (a ∷ xs) [] p = p
pairs_flip R S f (a ∷ xs) (b ∷ ys) p = (f a b p.0, pairs_flip R S f xs ys p.1)

pairs_of_map : (f : ℕ → Term) (xs ys : List ℕ) → map f xs ≡ map f ys → Pairs (λ a b. f a ≡ f b) xs ys
pairs_of_map f [] [] e = tt
pairs_of_map f [] (b ∷ ys) e = let z : ◌≡◌ {A = ℕ} 0 1 = cc in omega arith
pairs_of_map f (a ∷ xs) [] e = let z : ◌≡◌ {A = ℕ} 0 1 = cc in omega arith
pairs_of_map f (a ∷ xs) (b ∷ ys) e = let p : f a ≡ f b = cc in let q : map f xs ≡ map f ys = cc in (p, pairs_of_map f xs ys q)

abbrev pub Every : (ℕ → Type 0) → List ℕ → Type 0
Every P [] = Unit {0}
Every P (a ∷ xs) = P a × Every P xs

map_map : (g : Term → Term) (f : ℕ → Term) (l : List ℕ) → map g (map f l) ≡ map (λ x. g (f x)) l
map_map g f [] = refl
map_map g f (x ∷ l) = ap (g (f x) ∷◌) (map_map g f l)

-- ---- the nodes of two facts
pub record Graph : Type 0 where
  pub places : ℕ
  pub count : ℕ
  pub label : ℕ → ℕ
  pub args : ℕ → List ℕ
  pub tree : ℕ → Term
  pub bound : places ≤ count
  pub on_var : (i : ℕ) → places ≤ i → tree i ≡ var (i - places)
  pub on_sym : (i : ℕ) → i < places → tree i ≡ applied (con (label i)) (map tree (args i))
  pub arity : (i j : ℕ) → i < places → j < places → label i ≡ label j → length (args i) ≡ length (args j)
  pub within : (i : ℕ) → i < places → Every (λ a. a < count) (args i)

module _ (G : Graph) where
  abbrev pub Same : (ℕ → Term) → ℕ → ℕ → Type 0
  Same θ i j = sub θ (G.tree i) ≡ sub θ (G.tree j)

  -- θ makes the nodes of each class equal
  unfoldable pub Resp : (ℕ → Term) → List ℕ → Type 0
  Resp θ r = (i : ℕ) → Same θ i (up r i)

  pub resp_find : (θ : ℕ → Term) (r : List ℕ) → Resp θ r → (i : ℕ) → Same θ i (find r i)
  unfolding Resp find
  resp_find θ r h i = climb_keeps (λ j. Same θ i j) r (λ j e. e ∙ h j) i i refl

  pub resp_eqv : (θ : ℕ → Term) (r : List ℕ) → Resp θ r → (i j : ℕ) → Eqv r i j → Same θ i j
  resp_eqv θ r h i j e = resp_find θ r h i ∙ ap (λ (k : ℕ). sub θ (G.tree k)) e ∙ sym (resp_find θ r h j)

  pub val_sym : (θ : ℕ → Term) (i : ℕ) → i < G.places → sub θ (G.tree i) ≡ applied (con (G.label i)) (map (λ a. sub θ (G.tree a)) (G.args i))
  unfolding sub
  val_sym θ i l = ap (sub θ) (G.on_sym i l) ∙ sub_applied θ (con (G.label i)) (map G.tree (G.args i)) ∙ ap (applied (con (G.label i))) (map_map (sub θ) G.tree (G.args i))

  pub same_label : (θ : ℕ → Term) (i j : ℕ) → i < G.places → j < G.places → Same θ i j → G.label i ≡ G.label j
  same_label θ i j l k e = applied_con _ _ _ _ (sym (val_sym θ i l) ∙ e ∙ val_sym θ j k)

  pub same_args : (θ : ℕ → Term) (i j : ℕ) → i < G.places → j < G.places → Same θ i j → Pairs (Same θ) (G.args i) (G.args j)
  same_args θ i j l k e =
      let f : ℕ → Term = λ a. sub θ (G.tree a) in
      pairs_of_map f (G.args i) (G.args j)
      (applied_args _ _ _ _ (length-map (G.args i) f ∙ G.arity i j l k (same_label θ i j l k e) ∙ sym (length-map (G.args j) f)) (sym (val_sym θ i l) ∙ e ∙ val_sym θ j k)).1

  -- the link of i has its arguments linked
  unfoldable pub Shut : List ℕ → ℕ → Type 0
  Shut s i = i < G.places → (G.label i ≡ G.label (up s i)) × Pairs (Eqv s) (G.args i) (G.args (up s i))

  -- from the table r to the table s, where Pre is what the unifiers must meet
  pub record Step (r s : List ℕ) (Pre : (ℕ → Term) → Type 0) : Type 0 where
    pub down : Down s
    pub len : length s ≡ length r
    pub fewer : roots 0 s ≤ roots 0 r
    pub grow : Grows r s
    pub kept : (i : ℕ) → (up s i ≡ up r i) ⊎ Shut s i
    pub forced : (θ : ℕ → Term) → Resp θ r → Pre θ → Resp θ s

  pub step_refl : (r : List ℕ) (P : (ℕ → Term) → Type 0) → Down r → Step r r P
  step_refl r P d = record { down = d; len = refl; fewer = omega arith; grow = grows_refl r d; kept = λ i. inl refl; forced = λ θ h p. h }

  pub shut_grow : (s t : List ℕ) → Grows s t → (i : ℕ) → up t i ≡ up s i → Shut s i → Shut t i
  unfolding Shut
  shut_grow s t g i e h l =
      let w = h l in
      (w.0 ∙ ap G.label (sym e), subst (λ (k : ℕ). Pairs (Eqv t) (G.args i) (G.args k)) (sym e) (pairs_map (Eqv s) (Eqv t) (grows s t g) (G.args i) (G.args (up s i)) w.1))

  pub step_trans : {r s t : List ℕ} {P Q R : (ℕ → Term) → Type 0} → ((θ : ℕ → Term) → Resp θ r → R θ → P θ × Q θ) → Step r s P → Step s t Q → Step r t R
  step_trans {r} {s} {t} f a b =
      record {
        down = b.down;
        len = b.len ∙ a.len;
        fewer = omega (arith, a.fewer, b.fewer);
        grow = grows_trans r s t a.grow b.grow;
        kept = λ i. go i (a.kept i) (b.kept i);
        forced = λ θ h p. b.forced θ (a.forced θ h (f θ h p).0) (f θ h p).1;
      }
    where
      go : (i : ℕ) → (up s i ≡ up r i) ⊎ Shut s i → (up t i ≡ up s i) ⊎ Shut t i → (up t i ≡ up r i) ⊎ Shut t i
      go i (inl e) (inl k) = inl (k ∙ e)
      go i (inr h) (inl k) = inr (shut_grow s t b.grow i k h)
      go i x (inr k) = inr k
