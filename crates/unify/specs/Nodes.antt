-- The nodes of two runs of prefix tokens, one behind the other. A token below 64 is a variable, any other a symbol by its own number. Assumes nothing.
use Prim.Native.Nat.{ℕ, zero, suc, ◌+◌, ◌*◌, ◌-◌, ◌≤◌, ◌<◌}
use native.Mathlib.Omega.{arith}
use Rattle.std.specs.Prelude.{Bool, ◌≡◌, get_or, drop}
use Rattle.std.proofs.Math.Bool.{true, false}
use mathlib.Core.List.{List, [], ◌∷◌, map}
use Rattle.std.proofs.Math.Path.{refl, ap, ap₂, sym}
use Rattle.std.proofs.Common.{◌∙◌, drop_of_length-le, drop-cons}
use Rattle.std.proofs.Math.Dec.{leb, ltb}
use Rattle.std.proofs.Math.ListN.{length, length-map, get_or-eq_default, length-drop}
use Rattle.std.proofs.Math.Seq.{drop-length}
use borrow.Author.Tests.{leb-true, leb-false, le-leb, lt-leb, ltb-true, ltb-false, lt-ltb, le-ltb}
use Rattle.model.specs.Term.{Term, var, con, ◌·◌, sub, size}
use Rattle.theory.specs.Unify.{size_pos}
use Rattle.records.specs.Tokens.{leaves, applied}
use Rattle.records.specs.Symbols.{arity_of}
use Rattle.unify.specs.Closure.{Every, Graph}

abbrev pub pick : {A : Type 0} → Bool → A → A → A
pick true a b = a
pick false a b = b

-- n of a list, with d for those that it lacks
abbrev pub first : {A : Type 0} → ℕ → List A → A → List A
first zero l d = []
first (suc n) [] d = d ∷ first n [] d
first (suc n) (x ∷ l) d = x ∷ first n l d

length_first : {A : Type 0} (n : ℕ) (l : List A) (d : A) → length (first n l d) ≡ n
length_first zero l d = refl
length_first (suc n) [] d = ap suc (length_first n [] d)
length_first (suc n) (x ∷ l) d = ap suc (length_first n l d)

map_first : {A B : Type 0} (f : A → B) (n : ℕ) (l : List A) (d : A) → map f (first n l d) ≡ first n (map f l) (f d)
map_first f zero l d = refl
map_first f (suc n) [] d = ap (f d ∷◌) (map_first f n [] d)
map_first f (suc n) (x ∷ l) d = ap (f x ∷◌) (map_first f n l d)

map_drop : {A B : Type 0} (f : A → B) (n : ℕ) (l : List A) → map f (drop n l) ≡ drop n (map f l)
map_drop f zero l = refl
map_drop f (suc n) [] = refl
map_drop f (suc n) (x ∷ l) = map_drop f n l

unfoldable pub head_or : {A : Type 0} → A → List A → A
head_or d [] = d
head_or d (x ∷ l) = x

-- which side a place is on: the first half of the tokens is side 0
unfoldable pub side : List ℕ → ℕ → ℕ
side ts p = pick (ltb (2 * p) (length ts)) 0 1

-- where the terms start, from k on
unfoldable pub starts : List ℕ → ℕ → List ℕ → List ℕ
starts sy k [] = []
starts sy k (t ∷ u) = k ∷ drop (arity_of sy t) (starts sy (suc k) u)

abbrev pub starts_at : List ℕ → List ℕ → ℕ → List ℕ
starts_at sy ts p = starts sy p (drop p ts)

abbrev pub tok : List ℕ → ℕ → ℕ
tok ts p = get_or ts p 0

-- a variable is one node wherever it stands
unfoldable pub node : List ℕ → ℕ → ℕ
unfolding side
node ts p = pick (ltb (tok ts p) 64) (length ts + (2 * tok ts p + side ts p)) p

-- the nodes of n terms that start at p
unfoldable pub args_at : List ℕ → List ℕ → ℕ → ℕ → List ℕ
unfolding node starts
args_at sy ts p n = map (node ts) (first n (starts_at sy ts p) (length ts))

map_map : {A B C : Type 0} (g : B → C) (f : A → B) (l : List A) → map g (map f l) ≡ map (λ x. g (f x)) l
map_map g f [] = refl
map_map g f (x ∷ l) = ap (g (f x) ∷◌) (map_map g f l)

map_ext : {A B : Type 0} (f g : A → B) → ((x : A) → f x ≡ g x) → (l : List A) → map f l ≡ map g l
map_ext f g h [] = refl
map_ext f g h (x ∷ l) = ap₂ ◌∷◌ (h x) (map_ext f g h l)

pub every_drop : (P : ℕ → Type 0) (n : ℕ) (l : List ℕ) → Every P l → Every P (drop n l)
every_drop P zero l h = h
every_drop P (suc n) [] h = tt
every_drop P (suc n) (x ∷ l) h = every_drop P n l h.1

every_first : (P : ℕ → Type 0) (n : ℕ) (l : List ℕ) (d : ℕ) → P d → Every P l → Every P (first n l d)
every_first P zero l d p h = tt
every_first P (suc n) [] d p h = (p, every_first P n [] d p tt)
every_first P (suc n) (x ∷ l) d p h = (h.0, every_first P n l d p h.1)

every_at : (P : ℕ → Type 0) (f : ℕ → ℕ) (Q : ℕ → Type 0) → ((x : ℕ) → Q x → P (f x)) → (l : List ℕ) → Every Q l → Every P (map f l)
every_at P f Q h [] q = tt
every_at P f Q h (x ∷ l) q = (h x q.0, every_at P f Q h l q.1)

arity_var : (sy : List ℕ) (t : ℕ) → ltb t 64 ≡ true → arity_of sy t ≡ 0
unfolding arity_of
arity_var sy t e = rw (e, arity_of)

pub most : (ts : List ℕ) → length ts ≤ length ts + 128
most ts = omega arith

module _ (sy ts : List ℕ) where
  pub sym_in : (q : ℕ) → 64 ≤ tok ts q → q < length ts
  sym_in q h = go (leb (length ts) q) refl
    where
      go : (b : Bool) → leb (length ts) q ≡ b → q < length ts
      go true e = let z = get_or-eq_default ts 0 (leb-true (length ts) q e) in absurd (omega arith)
      go false e = leb-false (length ts) q e

  -- the terms, from k on
  head_term : ℕ → ℕ → List Term → Term
  head_term k t l = pick (ltb t 64) (var (2 * t + side ts k)) (applied (con t) (first (arity_of sy t) l (var (2 * 0 + side ts (length ts)))))

  trees : ℕ → List ℕ → List Term
  trees k [] = []
  trees k (t ∷ u) = head_term k t (trees (suc k) u) ∷ drop (arity_of sy t) (trees (suc k) u)

  -- the term at a place
  pub val : ℕ → Term
  val p = head_or (var (2 * tok ts p + side ts p)) (trees p (drop p ts))

  pub tree : ℕ → Term
  tree i = pick (leb (length ts) i) (var (i - length ts)) (pick (ltb (tok ts i) 64) (con (tok ts i)) (val i))

  val_in : (p : ℕ) → p < length ts → val p ≡ head_term p (tok ts p) (trees (suc p) (drop (suc p) ts))
  unfolding val trees head_or
  val_in p l = rw (drop-cons ts p 0 l)

  val_end : (p : ℕ) → length ts ≤ p → val p ≡ var (2 * tok ts p + side ts p)
  unfolding val trees head_or
  val_end p l = rw (drop_of_length-le ts l)

  val_var : (p : ℕ) → tok ts p < 64 → val p ≡ var (2 * tok ts p + side ts p)
  unfolding head_term
  val_var p h = go (leb (length ts) p) refl
    where
      go : (b : Bool) → leb (length ts) p ≡ b → val p ≡ var (2 * tok ts p + side ts p)
      go true e = val_end p (leb-true (length ts) p e)
      go false e = val_in p (leb-false (length ts) p e) ∙ rw (lt-ltb (tok ts p) 64 h)

  vals : (u : List ℕ) (k : ℕ) → drop k ts ≡ u → map val (starts sy k u) ≡ trees k u
  unfolding starts trees
  vals [] k e = refl
  vals (t ∷ u) k e = ap₂ ◌∷◌ here (map_drop val (arity_of sy t) (starts sy (suc k) u) ∙ ap (drop (arity_of sy t)) (vals u (suc k) rest))
    where
      fits : k < length ts
      fits = let z : length ts - k ≡ suc (length u) = sym (length-drop k ts) ∙ ap length e in omega arith

      both : tok ts k ∷ drop (suc k) ts ≡ t ∷ u
      both = sym (drop-cons ts k 0 fits) ∙ e

      rest : drop (suc k) ts ≡ u
      rest = cc both

      here : val k ≡ head_term k t (trees (suc k) u)
      here = val_in k fits ∙ ap₂ (λ (x : ℕ) (l : List ℕ). head_term k x (trees (suc k) l)) (cc both) rest

  pub tree_node : (q : ℕ) → tree (node ts q) ≡ val q
  unfolding tree node
  tree_node q = go (ltb (tok ts q) 64) refl
    where
      go : (b : Bool) → ltb (tok ts q) 64 ≡ b → unfold tree in tree (pick b (length ts + (2 * tok ts q + side ts q)) q) ≡ val q
      go true e =
          let z : length ts + (2 * tok ts q + side ts q) - length ts ≡ 2 * tok ts q + side ts q = omega arith in
          rw (le-leb (length ts) (length ts + (2 * tok ts q + side ts q)) (omega arith)) (ap var z ∙ sym (val_var q (ltb-true (tok ts q) 64 e)))
      go false e = rw (lt-leb (length ts) q (sym_in q (ltb-false (tok ts q) 64 e)), e)

  -- a place that holds a variable is a node of its own, that nothing names
  pub tree_sym : (i : ℕ) → i < length ts → tree i ≡ applied (con (tok ts i)) (map tree (args_at sy ts (suc i) (arity_of sy (tok ts i))))
  unfolding tree args_at
  tree_sym i l = rw (lt-leb (length ts) i l) (go (ltb (tok ts i) 64) refl)
    where
      kids : (n : ℕ) → map tree (map (node ts) (first n (starts_at sy ts (suc i)) (length ts))) ≡ first n (trees (suc i) (drop (suc i) ts)) (var (2 * 0 + side ts (length ts)))
      kids n =
          map_map tree (node ts) (first n (starts_at sy ts (suc i)) (length ts))
          ∙ map_ext (λ q. tree (node ts q)) val tree_node (first n (starts_at sy ts (suc i)) (length ts))
          ∙ map_first val n (starts_at sy ts (suc i)) (length ts)
          ∙ ap₂ (λ (x : List Term) (y : Term). first n x y) (vals (drop (suc i) ts) (suc i) refl)
          (val_end (length ts) (omega arith) ∙ ap (λ (x : ℕ). var (2 * x + side ts (length ts))) (get_or-eq_default ts 0 (omega arith)))

      go : (b : Bool) → ltb (tok ts i) 64 ≡ b → pick b (con (tok ts i)) (val i) ≡ applied (con (tok ts i)) (map tree (map (node ts) (first (arity_of sy (tok ts i)) (starts_at sy ts (suc i)) (length ts))))
      go true e = rw (arity_var sy (tok ts i) e) (unfold applied in refl)
      go false e = val_in i l ∙ (unfold head_term in rw e (ap (applied (con (tok ts i))) (sym (kids (arity_of sy (tok ts i))))))

  pub node_in : (q : ℕ) → q ≤ length ts → node ts q < length ts + 128
  unfolding node side
  node_in q l = go (ltb (tok ts q) 64) refl (ltb (2 * q) (length ts))
    where
      go : (b : Bool) → ltb (tok ts q) 64 ≡ b → (c : Bool) → pick b (length ts + (2 * tok ts q + pick c 0 1)) q < length ts + 128
      go true e true = let z = ltb-true (tok ts q) 64 e in omega arith
      go true e false = let z = ltb-true (tok ts q) 64 e in omega arith
      go false e c = omega arith

  pub starts_in : (u : List ℕ) (k n : ℕ) → k + length u ≤ n → Every (λ q. q ≤ n) (starts sy k u)
  unfolding starts
  starts_in [] k n l = tt
  starts_in (t ∷ u) k n l = (omega arith, every_drop (λ q. q ≤ n) (arity_of sy t) (starts sy (suc k) u) (starts_in u (suc k) n (omega arith)))

  pub args_in : (p n : ℕ) → p ≤ length ts → Every (λ a. a < length ts + 128) (args_at sy ts p n)
  unfolding args_at
  args_in p n l =
      every_at (λ a. a < length ts + 128) (node ts) (λ q. q ≤ length ts) node_in (first n (starts_at sy ts p) (length ts))
      (every_first (λ q. q ≤ length ts) n (starts_at sy ts p) (length ts) (omega arith) (starts_in (drop p ts) p (length ts) (let z = length-drop p ts in omega arith)))

  pub tree_var : (i : ℕ) → length ts ≤ i → tree i ≡ var (i - length ts)
  unfolding tree
  tree_var i l = rw (le-leb (length ts) i l)

  pub args_length : (p n : ℕ) → length (args_at sy ts p n) ≡ n
  unfolding args_at
  args_length p n = length-map (first n (starts_at sy ts p) (length ts)) (node ts) ∙ length_first n (starts_at sy ts p) (length ts)

  pub args_same : (i j : ℕ) → tok ts i ≡ tok ts j → length (args_at sy ts (suc i) (arity_of sy (tok ts i))) ≡ length (args_at sy ts (suc j) (arity_of sy (tok ts j)))
  args_same i j e = args_length (suc i) (arity_of sy (tok ts i)) ∙ ap (arity_of sy) e ∙ sym (args_length (suc j) (arity_of sy (tok ts j)))

-- the graph of two runs
abbrev pub graph : List ℕ → List ℕ → Graph
graph sy ts =
    record {
      places = length ts;
      count = length ts + 128;
      label = λ i. tok ts i;
      args = λ i. args_at sy ts (suc i) (arity_of sy (tok ts i));
      tree = tree sy ts;
      bound = most ts;
      on_var = tree_var sy ts;
      on_sym = tree_sym sy ts;
      arity = λ i j l k e. args_same sy ts i j e;
      within = λ i l. args_in sy ts (suc i) (arity_of sy (tok ts i)) l;
    }

-- ---- the places of a run of arguments, one by one
pub at_step : (sy ts : List ℕ) (p : ℕ) → p < length ts → starts_at sy ts p ≡ p ∷ drop (arity_of sy (tok ts p)) (starts_at sy ts (suc p))
unfolding starts
at_step sy ts p l = ap (starts sy p) (drop-cons ts p 0 l)

pub at_end : (sy ts : List ℕ) → starts_at sy ts (length ts) ≡ []
unfolding starts
at_end sy ts = ap (starts sy (length ts)) (drop-length ts)

-- what stands past the term at p
abbrev pub Past : List ℕ → List ℕ → ℕ → ℕ → Type 0
Past sy ts p q = (q ≤ length ts) × (starts_at sy ts q ≡ drop 1 (starts_at sy ts p))

pub args_cons : (sy ts : List ℕ) (p q n : ℕ) → p ≤ length ts → Past sy ts p q → args_at sy ts p (suc n) ≡ node ts p ∷ args_at sy ts q n
unfolding args_at
args_cons sy ts p q n l h = go (leb (length ts) p) refl
  where
    shift : (x : List ℕ) → starts_at sy ts p ≡ p ∷ x → map (node ts) (first (suc n) (starts_at sy ts p) (length ts)) ≡ node ts p ∷ map (node ts) (first n (starts_at sy ts q) (length ts))
    shift x e =
        ap (λ (y : List ℕ). map (node ts) (first (suc n) y (length ts))) e
        ∙ ap (λ (y : List ℕ). node ts p ∷ map (node ts) (first n y (length ts))) (sym (h.1 ∙ ap (drop 1) e))

    stay : p ≡ length ts → map (node ts) (first (suc n) (starts_at sy ts p) (length ts)) ≡ node ts p ∷ map (node ts) (first n (starts_at sy ts q) (length ts))
    stay e =
        let z : starts_at sy ts p ≡ [] = ap (starts_at sy ts) e ∙ at_end sy ts in
        ap (λ (y : List ℕ). map (node ts) (first (suc n) y (length ts))) z
        ∙ ap₂ (λ (x : ℕ) (y : List ℕ). node ts x ∷ map (node ts) (first n y (length ts))) (sym e) (sym (h.1 ∙ ap (drop 1) z))

    go : (b : Bool) → leb (length ts) p ≡ b → map (node ts) (first (suc n) (starts_at sy ts p) (length ts)) ≡ node ts p ∷ map (node ts) (first n (starts_at sy ts q) (length ts))
    go true e = stay (let z = leb-true (length ts) p e in omega arith)
    go false e = shift (drop (arity_of sy (tok ts p)) (starts_at sy ts (suc p))) (at_step sy ts p (leb-false (length ts) p e))

pub args_head : (sy ts : List ℕ) (p n : ℕ) → p ≤ length ts → args_at sy ts p (suc n) ≡ node ts p ∷ map (node ts) (first n (drop 1 (starts_at sy ts p)) (length ts))
unfolding args_at
args_head sy ts p n l = go (leb (length ts) p) refl
  where
    shape : (x : List ℕ) → starts_at sy ts p ≡ p ∷ x → map (node ts) (first (suc n) (starts_at sy ts p) (length ts)) ≡ node ts p ∷ map (node ts) (first n (drop 1 (starts_at sy ts p)) (length ts))
    shape x e = rw e

    none : p ≡ length ts → starts_at sy ts p ≡ [] → map (node ts) (first (suc n) (starts_at sy ts p) (length ts)) ≡ node ts p ∷ map (node ts) (first n (drop 1 (starts_at sy ts p)) (length ts))
    none q e = rw e (ap (λ (y : ℕ). node ts y ∷ map (node ts) (first n [] (length ts))) (sym q))

    go : (b : Bool) → leb (length ts) p ≡ b → map (node ts) (first (suc n) (starts_at sy ts p) (length ts)) ≡ node ts p ∷ map (node ts) (first n (drop 1 (starts_at sy ts p)) (length ts))
    go true e = let z : p ≡ length ts = (let y = leb-true (length ts) p e in omega arith) in none z (ap (starts_at sy ts) z ∙ at_end sy ts)
    go false e = shape (drop (arity_of sy (tok ts p)) (starts_at sy ts (suc p))) (at_step sy ts p (leb-false (length ts) p e))

-- ---- the term that was written at a place is the term of its node
-- t lacks n arguments
pub data Wf (sy : List ℕ) : ℕ → Term → Type 0 where
  wvar : {x : ℕ} → x < 64 → Wf sy 0 (var x)
  wcon : {f : ℕ} → 64 ≤ f → Wf sy (arity_of sy f) (con f)
  wapp : {n : ℕ} {a b : Term} → Wf sy (suc n) a → Wf sy 0 b → Wf sy n (a · b)

-- all of the places k to k + n are on the side c
abbrev pub Sided : List ℕ → ℕ → ℕ → ℕ → Type 0
Sided ts c k n = (j : ℕ) → k ≤ j → j < k + n → side ts j ≡ c

abbrev pub ren : ℕ → Term → Term
ren c t = sub (λ x. var (2 * x + c)) t

trees_leaves :
    (sy ts : List ℕ) (c : ℕ) {n : ℕ} {t : Term} → Wf sy n t → (k : ℕ) (r : List ℕ) → Sided ts c k (size t)
    → trees sy ts k (leaves t r) ≡ applied (ren c t) (first n (trees sy ts (k + size t) r) (var (2 * 0 + side ts (length ts)))) ∷ drop n (trees sy ts (k + size t) r)
unfolding trees leaves size sub head_term applied
trees_leaves sy ts c (wvar {x = x} h) k r s =
    let z : k + 1 ≡ suc k = omega arith in
    rw (z, lt-ltb x 64 h, arity_var sy x (lt-ltb x 64 h), s k (omega arith) (omega arith))
trees_leaves sy ts c (wcon {f = f} h) k r s =
    let z : k + 1 ≡ suc k = omega arith in
    rw (z, le-ltb f 64 h)
trees_leaves sy ts c (wapp {n = n} {a = a} {b = b} u v) k r s =
    let z : k + size a + size b ≡ k + (size a + size b) = omega arith in
    trees_leaves sy ts c u k (leaves b r) (λ j l m. s j l (omega (arith, size_pos b)))
    ∙ ap (λ (R : List Term). applied (ren c a) (first (suc n) R (var (2 * 0 + side ts (length ts)))) ∷ drop (suc n) R) (trees_leaves sy ts c v (k + size a) r (λ j l m. s j (omega arith) (omega arith)))
    ∙ rw z

pub val_leaves : (sy ts : List ℕ) (c p : ℕ) (t : Term) (r : List ℕ) → Wf sy 0 t → Sided ts c p (size t) → drop p ts ≡ leaves t r → val sy ts p ≡ ren c t
unfolding val head_or applied
val_leaves sy ts c p t r w s e = ap (head_or (var (2 * tok ts p + side ts p))) (ap (trees sy ts p) e ∙ trees_leaves sy ts c w p r s)

-- so the node of a place that a fact was written at stands for the fact
pub tree_leaves : (sy ts : List ℕ) (c p : ℕ) (t : Term) (r : List ℕ) → Wf sy 0 t → Sided ts c p (size t) → drop p ts ≡ leaves t r → (graph sy ts).tree (node ts p) ≡ ren c t
tree_leaves sy ts c p t r w s e = tree_node sy ts p ∙ val_leaves sy ts c p t r w s e
