-- What the code's `finite` and `unify` answer, and the laws that their proofs cite. Assumes nothing.
use Rattle.std.specs.Prelude.{ℕ, suc, ◌+◌, ◌*◌, ◌-◌, ◌≤◌, ◌<◌, Bool, true, false, not, List, ◌∷◌, map, ◌≡◌, refl, ◌≢◌, eqb, leb, length, get_or, set, drop, Option, Some, None}
use Rattle.std.proofs.Common.{arith, ap, ◌∙◌, subst, subst₂, sym, get_or-set_same, get_or-set_other, eqb-true, leb-true, leb-false}
use Rattle.std.proofs.Math.ListN.{get_or-eq_default}
use Rattle.std.proofs.lemmas.Bool.{eqb-false}
use Rattle.std.proofs.lemmas.List.{get_or-replicate}
use Rattle.std.proofs.Math.ListN.{replicate, length-replicate}
use Rattle.std.specs.Bool.{then_some}
use Rattle.model.specs.Term.{Term, sub}
use Rattle.theory.specs.Basics.{no_confusion}
use Rattle.records.specs.Symbols.{arity_of}
use Rattle.unify.specs.Forest.{up, get_d_any}
use Rattle.unify.specs.Closure.{Graph, Same, same_label, same_args}
use Rattle.unify.specs.Inside.{Cyclic, cyclic_none, Read, Looked}
use Rattle.unify.specs.Solve.{Fresh, start_resp, solved, Solved}
use Rattle.unify.specs.Nodes.{graph, node, tok, args_at, args_head, first, starts_at, sym_in}
use Rattle.unify.specs.Facts.{facts, graph_of}
use Rattle.unify.specs.Merge.{Answer}
use Rattle.unify.specs.Code.{node_sym}

-- No substitution makes the two nodes equal.
abbrev pub Never : Graph → ℕ → ℕ → Type 0
Never G p q = (θ : ℕ → Term) → sub θ (G.tree p) ≡ sub θ (G.tree q) → ⊥

-- The answer: the classes of s stand for a most general unifier, or there is none.
abbrev pub Answers : Graph → ℕ → ℕ → List ℕ → ℕ → Option ℕ → Type 0
Answers G p q s at (Some x) = (x ≡ at) × Solved G p q s
Answers G p q s at None = Never G p q

-- The answer for the fact at the start of the record a and the one at the place `at` of b.
abbrev pub Unifies : List ℕ → ℕ → List ℕ → List ℕ → ℕ → List ℕ → Option ℕ → Type 0
Unifies sy T a b at s u = Answers (graph_of sy T a b) (node (facts T a b) 0) (node (facts T a b) (T + at)) s at u

-- for a caller that takes the answer apart
pub answers_yes : (G : Graph) (p q : ℕ) (s : List ℕ) (at x : ℕ) (u : Option ℕ) → u ≡ Some x → Answers G p q s at u → (x ≡ at) × Solved G p q s
answers_yes G p q s at x (Some y) e h = let z : y ≡ x = cc in (sym z ∙ h.0, h.1)
answers_yes G p q s at x None e h = no_confusion (cc)

pub answers_no : (G : Graph) (p q : ℕ) (s : List ℕ) (at : ℕ) (u : Option ℕ) → u ≡ None → Answers G p q s at u → Never G p q
answers_no G p q s at (Some y) e h = no_confusion (cc)
answers_no G p q s at None e h = h

-- ---- the tables at the start
-- the first x point at themselves
unfoldable pub Own : ℕ → List ℕ → Type 0
Own x r = (k : ℕ) → k < x → get_or r k 0 ≡ k

pub own_none : (r : List ℕ) → Own 0 r
unfolding Own
own_none r k l = absurd (omega arith)

pub own_more : (r : List ℕ) (x : ℕ) → x < length r → Own x r → Own (x + 1) (set r x x)
unfolding Own
own_more r x l h k b = go (eqb k x) refl
  where
    go : (c : Bool) → eqb k x ≡ c → get_or (set r x x) k 0 ≡ k
    go true e = let z = eqb-true k x e in rw z (get_or-set_same r x x 0 l)
    go false e = let n = eqb-false k x e in get_or-set_other r x k x 0 n ∙ h k (omega arith)

pub own_fresh : (r : List ℕ) (n : ℕ) → length r ≡ n → Own n r → Fresh r
unfolding Own Fresh
own_fresh r n e h i = go (leb (length r) i) refl
  where
    go : (b : Bool) → leb (length r) i ≡ b → up r i ≡ i
    go true q = get_or-eq_default r i (leb-true (length r) i q)
    go false q = let l = leb-false (length r) i q in get_d_any r i i 0 l ∙ h i (omega arith)

-- a table of nothing but 0
pub zero_at : (r : List ℕ) (n : ℕ) → r ≡ replicate n 0 → (k : ℕ) → get_or r k 0 ≡ 0
zero_at r n e k = ap (λ (l : List ℕ). get_or l k 0) e ∙ go (leb n k) refl
  where
    go : (b : Bool) → leb n k ≡ b → get_or {A = ℕ} (replicate n 0) k 0 ≡ 0
    go true q = get_or-eq_default (replicate n 0) 0 (let y = length-replicate {A = ℕ} n 0 in let z = leb-true n k q in omega arith)
    go false q = get_or-replicate n k 0 0 (leb-false n k q)

-- ---- marks between two walks: what is marked can be read, and nothing is open
abbrev pub Marked : Graph → List ℕ → List ℕ → Type 0
Marked G s m = (k : ℕ) → get_or m k 0 ≢ 0 → (get_or m k 0 ≢ 1) × Read G s k

pub marked_next : (G : Graph) (s m k : List ℕ) → Marked G s m → Looked G s m k → Marked G s k
marked_next G s m k M h j a = (shut, h.done j a shut)
  where
    shut : get_or k j 0 ≢ 1
    shut e = let y = h.opens j e in (M j (λ z. (omega arith))).0 y

-- the variables below v can be read
pub record Far (G : Graph) (s m : List ℕ) (v : ℕ) : Type 0 where
  pub marked : Marked G s m
  pub reads : (x : ℕ) → G.places ≤ x → x < v → Read G s x

pub far_zero : (G : Graph) (s m : List ℕ) (n v : ℕ) → v ≡ G.places → length m ≡ n → ((k : ℕ) → k < n → get_or m k 0 ≡ 0) → Far G s m v
far_zero G s m n v p e h = record { marked = λ k a. absurd (a (go k (leb (length m) k) refl)); reads = λ x a b. absurd (omega arith) }
  where
    go : (k : ℕ) (b : Bool) → leb (length m) k ≡ b → get_or m k 0 ≡ 0
    go k true q = get_or-eq_default m 0 (leb-true (length m) k q)
    go k false q = let l = leb-false (length m) k q in h k (omega arith)

pub far_start : (G : Graph) (s m : List ℕ) (n v : ℕ) → v ≡ G.places → m ≡ replicate n 0 → Far G s m v
far_start G s m n v p e = record { marked = λ k a. absurd (a (zero_at m n e k)); reads = λ x a b. absurd (omega arith) }

pub far_next : (G : Graph) (s m k : List ℕ) (v : ℕ) → Far G s m v → Looked G s m k × Read G s v → Far G s k (v + 1)
far_next G s m k v F h = record { marked = marked_next G s m k F.marked h.0; reads = λ x a b. go x a b (eqb x v) refl }
  where
    go : (x : ℕ) → G.places ≤ x → x < v + 1 → (c : Bool) → eqb x v ≡ c → Read G s x
    go x a b true e = subst (Read G s) (sym (eqb-true x v e)) h.1
    go x a b false e = let n = eqb-false x v e in F.reads x a (omega arith)

-- the answer of the test of cycles
abbrev pub Tested : Graph → List ℕ → Bool → Type 0
Tested G s true = (x : ℕ) → G.places ≤ x → x < G.count → Read G s x
Tested G s false = Cyclic G s

-- ---- the first symbols
-- True only where nothing unifies.
abbrev pub Apart : Graph → ℕ → ℕ → Bool → Type 0
Apart G p q true = Never G p q
Apart G p q false = Unit {0}

abbrev pub Differs : List ℕ → ℕ → List ℕ → List ℕ → ℕ → Bool → Type 0
Differs sy T a b at r = Apart (graph_of sy T a b) (node (facts T a b) 0) (node (facts T a b) (T + at)) r

pub apart_where : (G : Graph) (p q u v : ℕ) → (u ≢ v → Never G p q) → Apart G p q (not (eqb u v))
apart_where G p q u v h = go (eqb u v) refl
  where
    go : (b : Bool) → eqb u v ≡ b → Apart G p q (not b)
    go true e = tt
    go false e = h (eqb-false u v e)

module _ (sy ts : List ℕ) where
  -- two places that hold different symbols
  pub heads_differ : (p q : ℕ) → 64 ≤ tok ts p → 64 ≤ tok ts q → tok ts p ≢ tok ts q → Never (graph sy ts) (node ts p) (node ts q)
  heads_differ p q a b n θ e =
      let z : Same (graph sy ts) θ p q = rw (node_sym ts p a, node_sym ts q b) e in
      n (same_label (graph sy ts) θ p q (sym_in sy ts p a) (sym_in sy ts q b) z)

  -- the same symbol, with first arguments that are different symbols
  pub firsts_differ :
      (p q : ℕ) → 64 ≤ tok ts p → tok ts p ≡ tok ts q → arity_of sy (tok ts p) ≢ 0
      → 64 ≤ tok ts (p + 1) → 64 ≤ tok ts (q + 1) → tok ts (p + 1) ≢ tok ts (q + 1) → Never (graph sy ts) (node ts p) (node ts q)
  firsts_differ p q a s n c d m θ e =
      let b : 64 ≤ tok ts q = omega arith in
      let z : Same (graph sy ts) θ p q = rw (node_sym ts p a, node_sym ts q b) e in
      let k = arity_of sy (tok ts p) - 1 in
      let l = sym_in sy ts p a in
      let r = sym_in sy ts q b in
      let u : args_at sy ts (suc p) (arity_of sy (tok ts p)) ≡ node ts (suc p) ∷ map (node ts) (first k (drop 1 (starts_at sy ts (suc p))) (length ts)) =
      ap (args_at sy ts (suc p)) (let y : arity_of sy (tok ts p) ≡ suc k = omega arith in y) ∙ args_head sy ts (suc p) k (omega arith)
      in
      let v : args_at sy ts (suc q) (arity_of sy (tok ts q)) ≡ node ts (suc q) ∷ map (node ts) (first k (drop 1 (starts_at sy ts (suc q))) (length ts)) =
      ap (args_at sy ts (suc q)) (let y : arity_of sy (tok ts p) ≡ suc k = omega arith in sym (ap (arity_of sy) s) ∙ y) ∙ args_head sy ts (suc q) k (omega arith)
      in
      let P = same_args (graph sy ts) θ p q l r z in
      let f : p + 1 ≡ suc p = omega arith in
      let g : q + 1 ≡ suc q = omega arith in
      heads_differ (p + 1) (q + 1) c d m θ (rw (f, g) (rw (u, v) at P).0)

-- ---- the whole
module _ (sy : List ℕ) (T : ℕ) (ts b s : List ℕ) (p q : ℕ) (lt : length ts ≡ 2 * T) (ls : length s ≡ 2 * T + 128) (fresh : Fresh b) where
  pub whole_clash : Answer (graph sy ts) b s p q false → Never (graph sy ts) p q
  whole_clash h θ k = h θ (start_resp (graph sy ts) p q b fresh θ) k

  pub whole_cycle : Answer (graph sy ts) b s p q true → Tested (graph sy ts) s false → Never (graph sy ts) p q
  whole_cycle h t θ k = cyclic_none (graph sy ts) s t θ (h.0.forced θ (start_resp (graph sy ts) p q b fresh θ) k)

  -- after the merging, the test of cycles decides
  pub whole : (at : ℕ) → Answer (graph sy ts) b s p q true → (c : Bool) → Tested (graph sy ts) s c → Answers (graph sy ts) p q s at (then_some c at)
  whole at h true t = (refl, solved (graph sy ts) p q b fresh s h.0 h.1 (omega arith) (λ x l. t (length ts + x) (omega arith) l))
  whole at h false t = whole_cycle h t

-- the same of nodes by other names
pub answers_at : (G : Graph) (s : List ℕ) (at : ℕ) (u : Option ℕ) (p q x y : ℕ) → p ≡ x → q ≡ y → Answers G p q s at u → Answers G x y s at u
answers_at G s at u p q x y e f = subst₂ (λ (i j : ℕ). Answers G i j s at u) e f
