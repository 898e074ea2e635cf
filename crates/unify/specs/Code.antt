-- The laws that the proofs of `merge` and of the small functions cite. Assumes nothing.
use Rattle.std.specs.Prelude.{ℕ, zero, suc, ◌+◌, ◌*◌, ◌-◌, ◌≤◌, ◌<◌, min, max, Bool, true, false, List, [], ◌∷◌, map, ◌≡◌, ◌⊎◌, ◌≢◌, leb, length, get_or, set, drop}
use Rattle.std.proofs.Common.{arith, ap, ◌∙◌, subst, subst₂, sym, inl, inr, drop-drop, leb-true, leb-false, lt-ltb, le-ltb}
use Rattle.std.proofs.Math.Path.{refl}
use Rattle.std.proofs.Math.Seq.{drop-nil}
use Rattle.model.specs.Term.{Term}
use Rattle.unify.specs.Forest.{up, Down, below, get_d_any, find_up, find_fix, find, Eqv, find_root, Grows, grows, grows_refl, grows_trans, link_down, roots, link_roots}
use Rattle.unify.specs.Closure.{Pairs, Graph, Same, Resp, same_args, Step, step_refl, step_trans}
use Rattle.records.specs.Symbols.{arity_of}
use Rattle.unify.specs.Nodes.{side, node, starts_at, tok, at_step, at_end, Past, graph, args_at, args_cons, args_head, first}
use Rattle.unify.specs.Merge.{Answer, from_roots, swapped, unite_var, unite_sym, unite_clash, linked, in_find}

module _ (G : Graph) where
  pub answer_same : (r : List ℕ) (i j : ℕ) → Down r → find r i ≡ find r j → Answer G r r i j true
  answer_same r i j d e = (step_refl G r _ d, e)

  -- of the pairs of xs and ys, those of us and vs are left to merge
  pub record Part (s t xs ys us vs : List ℕ) : Type 0 where
    pub step : Step G s t (λ θ. Pairs (Same G θ) xs ys)
    pub close : (w : List ℕ) → Grows t w → Pairs (Eqv w) us vs → Pairs (Eqv w) xs ys
    pub rest : (θ : ℕ → Term) → Pairs (Same G θ) xs ys → Pairs (Same G θ) us vs

  pub part_start : (s xs ys : List ℕ) → Down s → Part s s xs ys xs ys
  part_start s xs ys d = record { step = step_refl G s _ d; close = λ w g p. p; rest = λ θ p. p }

  pub part_step : (s t w xs ys : List ℕ) (a b : ℕ) (us vs : List ℕ) → Part s t xs ys (a ∷ us) (b ∷ vs) → Answer G t w a b true → Part s w xs ys us vs
  part_step s t w xs ys a b us vs P A =
      record {
        step = step_trans G (λ θ h p. (p, (P.rest θ p).0)) P.step A.0;
        close = λ z g p. P.close z (grows_trans t w z A.0.grow g) (grows w z g a b A.1, p);
        rest = λ θ p. (P.rest θ p).1;
      }

  pub part_clash :
      (s t w xs ys : List ℕ) (a b : ℕ) (us vs : List ℕ) → Part s t xs ys (a ∷ us) (b ∷ vs) → Answer G t w a b false
      → (θ : ℕ → Term) → Resp G θ s → Pairs (Same G θ) xs ys → ⊥
  part_clash s t w xs ys a b us vs P A θ h p = A θ (P.step.forced θ h p) (P.rest θ p).0

  pub part_end : (s t xs ys : List ℕ) → Part s t xs ys [] [] → Pairs (Eqv t) xs ys
  part_end s t xs ys P = P.close t (grows_refl t P.step.down) tt

  module _ (r : List ℕ) (d : Down r) (len : length r ≡ G.count) (i j : ℕ) (ii : i < G.count) (ij : j < G.count) (ne : find r i ≢ find r j)
      (lo hi : ℕ) (el : lo ≡ min (find r i) (find r j)) (eh : hi ≡ max (find r i) (find r j))
    where
      abbrev Ends : Type 0
      Ends = ((lo ≡ find r i) × (hi ≡ find r j)) ⊎ ((lo ≡ find r j) × (hi ≡ find r i))

      ends : Ends
      ends = go (leb (find r i) (find r j)) refl
        where
          go : (b : Bool) → leb (find r i) (find r j) ≡ b → Ends
          go true e = let z = leb-true (find r i) (find r j) e in inl (omega arith, omega arith)
          go false e = let z = leb-false (find r i) (find r j) e in inr (omega arith, omega arith)

      pub less : lo < hi
      less = omega arith

      pub in_hi : hi < G.count
      in_hi = let z = in_find G r d i ii in let y = in_find G r d j ij in omega arith

      root_of : (k : ℕ) → Ends → (k ≡ lo) ⊎ (k ≡ hi) → up r k ≡ k
      root_of k (inl w) (inl e) = let z : k ≡ find r i = e ∙ w.0 in rw z (find_root r d i)
      root_of k (inl w) (inr e) = let z : k ≡ find r j = e ∙ w.1 in rw z (find_root r d j)
      root_of k (inr w) (inl e) = let z : k ≡ find r j = e ∙ w.0 in rw z (find_root r d j)
      root_of k (inr w) (inr e) = let z : k ≡ find r i = e ∙ w.1 in rw z (find_root r d i)

      pub rlo : up r lo ≡ lo
      rlo = root_of lo ends (inl refl)

      pub rhi : up r hi ≡ hi
      rhi = root_of hi ends (inr refl)

      -- from the roots to the nodes
      lift : (s : List ℕ) (c : Bool) → Answer G r s lo hi c → Answer G r s i j c
      lift s c h = go ends
        where
          go : Ends → Answer G r s i j c
          go (inl w) = from_roots G r s d i j c (subst₂ (λ (x y : ℕ). Answer G r s x y c) w.0 w.1 h)
          go (inr w) = from_roots G r s d i j c (swapped G r s (find r i) (find r j) c (subst₂ (λ (x y : ℕ). Answer G r s x y c) w.0 w.1 h))

      pub join_down : Down (set r hi lo)
      join_down = link_down r d hi lo (let z = in_hi in omega arith) rhi less

      pub join_roots : suc (roots 0 (set r hi lo)) ≡ roots 0 r
      join_roots = link_roots r hi lo (let z = in_hi in omega arith) rhi less

      ilo : lo < G.count
      ilo = let z = in_hi in let y = less in omega arith

      pub join_var : G.places ≤ hi → Answer G r (set r hi lo) i j true
      join_var v = lift (set r hi lo) true (unite_var G r d len lo hi ilo in_hi rlo rhi less v)

      pub join_clash : (s : List ℕ) → hi < G.places → G.label lo ≢ G.label hi → Answer G r s i j false
      join_clash s v n = lift s false (λ θ h q. unite_clash G r d len lo hi ilo in_hi rlo rhi less v n θ q)

      pub join_true : (t : List ℕ) → hi < G.places → G.label lo ≡ G.label hi → Part (set r hi lo) t (G.args lo) (G.args hi) [] [] → Answer G r t i j true
      join_true t v e P = lift t true (unite_sym G r d len lo hi ilo in_hi rlo rhi less v e t P.step (part_end (set r hi lo) t (G.args lo) (G.args hi) P))

      pub join_false :
          (t : List ℕ) → hi < G.places → ((θ : ℕ → Term) → Resp G θ (set r hi lo) → Pairs (Same G θ) (G.args lo) (G.args hi) → ⊥) → Answer G r t i j false
      join_false t v h = lift t false (λ θ k q. h θ (linked G r d len lo hi ilo in_hi rlo rhi less θ k q) (same_args G θ lo hi (let z = less in omega arith) v q))

-- ---- the small functions
pub down_at : (r : List ℕ) → Down r → (x : ℕ) → x < length r → get_or r x 0 ≤ x
down_at r d x l = rw (get_d_any r x 0 x l) (below r d x)

pub root_go : (r : List ℕ) → Down r → (i x : ℕ) → x < length r → find r x ≡ find r i → find r (get_or r x 0) ≡ find r i
root_go r d i x l e = ap (find r) (get_d_any r x 0 x l) ∙ find_up r d x ∙ e

pub root_end : (r : List ℕ) (i x : ℕ) → x < length r → get_or r x 0 ≡ x → find r x ≡ find r i → x ≡ find r i
root_end r i x l h e = sym (find_fix r x (get_d_any r x x 0 l ∙ h)) ∙ e

pub node_left : (ts : List ℕ) (p : ℕ) → tok ts p < 64 → 2 * p < length ts → length ts + 2 * tok ts p ≡ node ts p
unfolding node side
node_left ts p l k = rw (lt-ltb (tok ts p) 64 l, lt-ltb (2 * p) (length ts) k) (omega arith)

pub node_right : (ts : List ℕ) (p : ℕ) → tok ts p < 64 → length ts ≤ 2 * p → length ts + 2 * tok ts p + 1 ≡ node ts p
unfolding node side
node_right ts p l k = rw (lt-ltb (tok ts p) 64 l, le-ltb (2 * p) (length ts) k) (omega arith)

pub node_sym : (ts : List ℕ) (p : ℕ) → 64 ≤ tok ts p → p ≡ node ts p
unfolding node
node_sym ts p l = rw (le-ltb (tok ts p) 64 l)

-- from place to place, `need` terms short of the end
pub past_step :
    (sy ts l : List ℕ) (p m : ℕ) → p < length ts → drop (suc m) (starts_at sy ts p) ≡ l → drop (m + arity_of sy (tok ts p)) (starts_at sy ts (suc p)) ≡ l
past_step sy ts l p m h e =
    ap (λ (k : ℕ). drop k (starts_at sy ts (suc p))) (let z : m + arity_of sy (tok ts p) ≡ arity_of sy (tok ts p) + m = omega arith in z)
    ∙ sym (drop-drop m (arity_of sy (tok ts p)) (starts_at sy ts (suc p)))
    ∙ ap (drop (suc m)) (sym (at_step sy ts p h))
    ∙ e

pub past_none : (sy ts l : List ℕ) (m : ℕ) → drop m (starts_at sy ts (length ts)) ≡ l → starts_at sy ts (length ts) ≡ l
past_none sy ts l m e = at_end sy ts ∙ sym (drop-nil m) ∙ ap (drop m) (sym (at_end sy ts)) ∙ e

pub past_again :
    (sy ts l : List ℕ) (p n x a : ℕ) → p < length ts → n ≢ 0 → x ≡ tok ts p → a ≡ arity_of sy x → drop n (starts_at sy ts p) ≡ l → drop (n - 1 + a) (starts_at sy ts (p + 1)) ≡ l
past_again sy ts l p zero x a h ne ex ea e = absurd (ne refl)
past_again sy ts l p (suc m) x a h ne ex ea e =
    let z : suc m - 1 + a ≡ m + a = omega arith in
    let y : p + 1 ≡ suc p = omega arith in
    rw (z, y, ea, ex) (past_step sy ts l p m h e)

pub past_end : (sy ts l : List ℕ) (p m : ℕ) → p ≡ length ts → drop m (starts_at sy ts p) ≡ l → starts_at sy ts p ≡ l
past_end sy ts l p m h = rw h (past_none sy ts l m)

-- ---- the state of merge after the two roots are found
pub record Joint (sy : List ℕ) (T : ℕ) (ts r : List ℕ) (i j lo hi : ℕ) : Type 0 where
  pub lt : length ts ≡ 2 * T
  pub lr : length r ≡ 2 * T + 128
  pub down : Down r
  pub ii : i < 2 * T + 128
  pub ij : j < 2 * T + 128
  pub ne : find r i ≢ find r j
  pub el : lo ≡ min (find r i) (find r j)
  pub eh : hi ≡ max (find r i) (find r j)

module _ {sy : List ℕ} {T : ℕ} {ts r : List ℕ} {i j lo hi : ℕ} (J : Joint sy T ts r i j lo hi) where
  len : length r ≡ length ts + 128
  len = let a = J.lt in let b = J.lr in omega arith

  ci : i < length ts + 128
  ci = let a = J.lt in let b = J.ii in omega arith

  cj : j < length ts + 128
  cj = let a = J.lt in let b = J.ij in omega arith

  pub joint_down : (s : List ℕ) → s ≡ set r hi lo → Down s
  joint_down s e = subst Down (sym e) (join_down (graph sy ts) r J.down len i j ci cj J.ne lo hi J.el J.eh)

  pub joint_roots : (s : List ℕ) → s ≡ set r hi lo → suc (roots 0 s) ≡ roots 0 r
  joint_roots s e = ap (λ (l : List ℕ). suc (roots 0 l)) e ∙ join_roots (graph sy ts) r J.down len i j ci cj J.ne lo hi J.el J.eh

  pub joint_less : (lo < hi) × (hi < 2 * T + 128)
  joint_less = let a = in_hi (graph sy ts) r J.down len i j ci cj J.ne lo hi J.el J.eh in let b = less (graph sy ts) r J.down len i j ci cj J.ne lo hi J.el J.eh in let z = J.lt in (omega arith, omega arith)

  pub joint_var : (s : List ℕ) → s ≡ set r hi lo → 2 * T ≤ hi → Answer (graph sy ts) r s i j true
  joint_var s e h = subst (λ (l : List ℕ). Answer (graph sy ts) r l i j true) (sym e) (join_var (graph sy ts) r J.down len i j ci cj J.ne lo hi J.el J.eh (let z = J.lt in omega arith))

  pub joint_clash : (s : List ℕ) → hi < 2 * T → tok ts lo ≢ tok ts hi → Answer (graph sy ts) r s i j false
  joint_clash s h n = join_clash (graph sy ts) r J.down len i j ci cj J.ne lo hi J.el J.eh s (let z = J.lt in omega arith) n

  abbrev pub xs : List ℕ
  xs = args_at sy ts (suc lo) (arity_of sy (tok ts lo))

  abbrev pub ys : List ℕ
  ys = args_at sy ts (suc hi) (arity_of sy (tok ts hi))

  pub joint_true : (s t : List ℕ) → s ≡ set r hi lo → hi < 2 * T → tok ts lo ≡ tok ts hi → Part (graph sy ts) s t xs ys [] [] → Answer (graph sy ts) r t i j true
  joint_true s t e h q P =
      join_true (graph sy ts) r J.down len i j ci cj J.ne lo hi J.el J.eh t (let z = J.lt in omega arith) q
      (subst (λ (l : List ℕ). Part (graph sy ts) l t xs ys [] []) e P)

  pub joint_false : (s t : List ℕ) → s ≡ set r hi lo → hi < 2 * T → ((θ : ℕ → Term) → Resp (graph sy ts) θ s → Pairs (Same (graph sy ts) θ) xs ys → ⊥) → Answer (graph sy ts) r t i j false
  joint_false s t e h f =
      join_false (graph sy ts) r J.down len i j ci cj J.ne lo hi J.el J.eh t (let z = J.lt in omega arith)
      (subst (λ (l : List ℕ). (θ : ℕ → Term) → Resp (graph sy ts) θ l → Pairs (Same (graph sy ts) θ) xs ys → ⊥) e f)

module _ (sy ts : List ℕ) where
  abbrev pub Doing : (s t : List ℕ) (lo hi p q n : ℕ) → Type 0
  Doing s t lo hi p q n = Part (graph sy ts) s t (args_at sy ts (suc lo) (arity_of sy (tok ts lo))) (args_at sy ts (suc hi) (arity_of sy (tok ts hi))) (args_at sy ts p n) (args_at sy ts q n)

  pub doing_start : (s : List ℕ) (lo hi x n : ℕ) → Down s → x ≡ tok ts lo → x ≡ tok ts hi → n ≡ arity_of sy x → Doing s s lo hi (lo + 1) (hi + 1) (n - 0)
  doing_start s lo hi x n d a b e =
      let u : lo + 1 ≡ suc lo = omega arith in
      let v : hi + 1 ≡ suc hi = omega arith in
      let w : n - 0 ≡ n = omega arith in
      rw (u, v, w, e)
      (subst (λ (m : ℕ). Part (graph sy ts) s s (args_at sy ts (suc lo) (arity_of sy (tok ts lo))) (args_at sy ts (suc hi) (arity_of sy (tok ts hi))) (args_at sy ts (suc lo) (arity_of sy m)) (args_at sy ts (suc hi) (arity_of sy x))) (sym a)
      (subst (λ (m : ℕ). Part (graph sy ts) s s (args_at sy ts (suc lo) (arity_of sy (tok ts lo))) (args_at sy ts (suc hi) (arity_of sy (tok ts hi))) (args_at sy ts (suc lo) (arity_of sy (tok ts lo))) (args_at sy ts (suc hi) (arity_of sy m))) (sym b)
      (part_start (graph sy ts) s (args_at sy ts (suc lo) (arity_of sy (tok ts lo))) (args_at sy ts (suc hi) (arity_of sy (tok ts hi))) d)))

  heads : (s t : List ℕ) (lo hi p q p' q' n k a b : ℕ) → k < n → p ≤ length ts → q ≤ length ts → Past sy ts p p' → Past sy ts q q' → a ≡ node ts p → b ≡ node ts q
      → Doing s t lo hi p q (n - k)
      → Part (graph sy ts) s t (args_at sy ts (suc lo) (arity_of sy (tok ts lo))) (args_at sy ts (suc hi) (arity_of sy (tok ts hi))) (a ∷ args_at sy ts p' (n - (k + 1))) (b ∷ args_at sy ts q' (n - (k + 1)))
  heads s t lo hi p q p' q' n k a b l lp lq hp hq ea eb P =
      let z : n - k ≡ suc (n - (k + 1)) = omega arith in
      rw (ea, eb, ← args_cons sy ts p p' (n - (k + 1)) lp hp, ← args_cons sy ts q q' (n - (k + 1)) lq hq, ← z) P

  pub doing_next : (s t w : List ℕ) (lo hi p q p' q' n k a b : ℕ) → k < n → p ≤ length ts → q ≤ length ts → Past sy ts p p' → Past sy ts q q' → a ≡ node ts p → b ≡ node ts q
      → Doing s t lo hi p q (n - k) → Answer (graph sy ts) t w a b true → Doing s w lo hi p' q' (n - (k + 1))
  doing_next s t w lo hi p q p' q' n k a b l lp lq hp hq ea eb P A =
      part_step (graph sy ts) s t w (args_at sy ts (suc lo) (arity_of sy (tok ts lo))) (args_at sy ts (suc hi) (arity_of sy (tok ts hi))) a b (args_at sy ts p' (n - (k + 1))) (args_at sy ts q' (n - (k + 1)))
      (heads s t lo hi p q p' q' n k a b l lp lq hp hq ea eb P) A

  pub doing_clash : (s t w : List ℕ) (lo hi p q n k a b : ℕ) → k < n → p ≤ length ts → q ≤ length ts → a ≡ node ts p → b ≡ node ts q
      → Doing s t lo hi p q (n - k) → Answer (graph sy ts) t w a b false
      → (θ : ℕ → Term) → Resp (graph sy ts) θ s → Pairs (Same (graph sy ts) θ) (args_at sy ts (suc lo) (arity_of sy (tok ts lo))) (args_at sy ts (suc hi) (arity_of sy (tok ts hi))) → ⊥
  doing_clash s t w lo hi p q n k a b l lp lq ea eb P A =
      part_clash (graph sy ts) s t w (args_at sy ts (suc lo) (arity_of sy (tok ts lo))) (args_at sy ts (suc hi) (arity_of sy (tok ts hi))) a b
      (map (node ts) (first (n - (k + 1)) (drop 1 (starts_at sy ts p)) (length ts))) (map (node ts) (first (n - (k + 1)) (drop 1 (starts_at sy ts q)) (length ts)))
      (let z : n - k ≡ suc (n - (k + 1)) = omega arith in
      rw (ea, eb, ← args_head sy ts p (n - (k + 1)) lp, ← args_head sy ts q (n - (k + 1)) lq, ← z) P) A

  no_args : (p : ℕ) → args_at sy ts p 0 ≡ []
  unfolding args_at
  no_args p = refl

  pub doing_done : (s t : List ℕ) (lo hi p q n k : ℕ) → n ≤ k → Doing s t lo hi p q (n - k)
      → Part (graph sy ts) s t (args_at sy ts (suc lo) (arity_of sy (tok ts lo))) (args_at sy ts (suc hi) (arity_of sy (tok ts hi))) [] []
  doing_done s t lo hi p q n k l P =
      let z : n - k ≡ 0 = omega arith in
      subst₂ (λ (us vs : List ℕ). Part (graph sy ts) s t (args_at sy ts (suc lo) (arity_of sy (tok ts lo))) (args_at sy ts (suc hi) (arity_of sy (tok ts hi))) us vs)
      (ap (args_at sy ts p) z ∙ no_args p) (ap (args_at sy ts q) z ∙ no_args q) P
