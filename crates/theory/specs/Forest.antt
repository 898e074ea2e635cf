-- Derivations whose nodes say only that a rule implies them, so that one rule can take another's place; and the two phases over them. Assumes nothing.
use Rattle.std.specs.Prelude.{ℕ, zero, suc, ◌+◌, ◌≤◌, ◌<◌, Bool, true, false, ◌≡◌, ◌⊎◌}
use Rattle.std.proofs.Common.{arith, ap₂, ◌∙◌, inl, inr}
use Rattle.std.proofs.Math.Option.{some}
use mathlib.Core.List.{List, [], ◌∷◌, ◌++◌, map}
use Rattle.std.proofs.Math.Path.{refl, ap, subst, sym}
use Rattle.model.specs.Term.{Term, sub}
use Rattle.model.specs.Rule.{Rule, nth, combine, is_open, all_open}
use Rattle.model.specs.Derive.{Closed, Derives, DerivesAll, by, nil, also, Valid, Harmless}
use Rattle.theory.specs.Subst.{sub_sub, map_sub_sub}
use Rattle.theory.specs.Closed.{closed_sub, closed_of, flat, flat_closed}
use Rattle.theory.specs.Embed.{Sel, here, there, Emb, done, pick, emb_refl, emb_sel, sel_map, Implies, implies_refl, implies_trans}
use Rattle.theory.specs.Combine.{combine_lifts, sel_nth}

abbrev pub rule : Term → List Term → Rule
rule c hs = record { concl = c; hyps = hs }

-- Trees for all the facts of a list, with the number of their nodes.
pub data Forest (B : Rule → Type 0) : ℕ → List Term → Type 0 where
  leaf : Forest B 0 []
  node :
      {n m : ℕ} {f : Term} {gs fs : List Term} (r : Rule)
      → B r → Implies r (rule f gs) → Closed f → Forest B n gs → Forest B m fs → Forest B (suc (n + m)) (f ∷ fs)

-- ---- a tree taken out of a forest, and two forests put together
pub record Split (B : Rule → Type 0) (n : ℕ) (x : Term) (fs : List Term) : Type 0 where
  pub root : Rule
  pub known : B root
  pub below : List Term
  pub instance' : Implies root (rule x below)
  pub left : ℕ
  pub right : ℕ
  pub children : Forest B left below
  pub others : Forest B right fs
  pub total : n ≡ suc (left + right)

module _ {B : Rule → Type 0} where
  pub split : {x : Term} {n : ℕ} {r fs : List Term} → Sel x r fs → Forest B n fs → Split B n x r
  split here (node {n = n} {m = m} {gs = gs} r b i c t u) =
      record { root = r; known = b; below = gs; instance' = i; left = n; right = m; children = t; others = u; total = refl }
  split (there s) (node {n = n} {m = m} r b i c t u) =
      let w = split {n = m} s u in
      record {
        root = w.root;
        known = w.known;
        below = w.below;
        instance' = w.instance';
        left = w.left;
        right = suc (n + w.right);
        children = w.children;
        others = node r b i c t w.others;
        total = omega (arith, w.total);
      }

  pub grow : {n m : ℕ} {cs ds : List Term} → Forest B n cs → Forest B m ds → (k : ℕ) × (k ≡ n + m) × Forest B k (cs ++ ds)
  grow {m = m} leaf v = (m, omega arith, v)
  grow (node {n = a} r b i c t u) v =
      let w = grow u v in
      (suc (a + w.0), omega (arith, w.1), node r b i c t w.2)

  -- ---- from trees to forests and back
  mutual
    pub to_forest : {n : ℕ} {f : Term} → Derives Closed B n f → (m : ℕ) × (m ≡ n) × Forest B m (f ∷ [])
    to_forest {n} {f} (by r σ b c e ds) =
        let w = to_forests ds in
        (suc (w.0 + 0), omega (arith, w.1), node r b (record { by = σ; on_concl = e; on_hyps = emb_refl _ }) (subst Closed e (closed_of σ c r.concl)) w.2 leaf)

    to_forests : {n : ℕ} {fs : List Term} → DerivesAll Closed B n fs → (m : ℕ) × (m ≡ n) × Forest B m fs
    to_forests nil = (0, refl, leaf)
    to_forests (also d ds e) =
        let a = to_forest d in
        let b = to_forests ds in
        let w = grow a.2 b.2 in
        (w.0, omega (arith, w.1, a.1, b.1), w.2)

  derives_closed : {n : ℕ} {f : Term} → Derives Closed B n f → Closed f
  derives_closed (by r σ b c e ds) = subst Closed e (closed_of σ c r.concl)

  -- derived facts are closed, so closing them changes nothing
  all_closed : (κ : ℕ → Term) {n : ℕ} {fs : List Term} → DerivesAll Closed B n fs → map (sub κ) fs ≡ fs
  all_closed κ nil = refl
  all_closed κ (also {f = f} d ds e) = ap₂ ◌∷◌ (closed_sub f (derives_closed d) κ) (all_closed κ ds)

  derives_sel : {x : Term} {n : ℕ} {r l : List Term} → Sel x r l → DerivesAll Closed B n l → (a : ℕ) × (b : ℕ) × (n ≡ a + b) × Derives Closed B a x × DerivesAll Closed B b r
  derives_sel here (also {n = n} {m = m} d ds e) = (n, m, e, d, ds)
  derives_sel (there i) (also {n = n} d ds e) =
      let w = derives_sel i ds in
      (w.0, n + w.1, omega (arith, w.2), w.3, also d w.4 refl)

  pub derives_emb : {n : ℕ} {a l : List Term} → Emb a l → DerivesAll Closed B n l → (m : ℕ) × (m ≤ n) × DerivesAll Closed B m a
  derives_emb done ds = (0, omega arith, nil)
  derives_emb {n = n} (pick i e) ds =
      let w = derives_sel i ds in
      let v = derives_emb {n = w.1} e w.4 in
      (w.0 + v.0, omega (arith, w.2, v.1), also w.3 v.2 refl)

  -- the instance that r implies, with closed values for all variables
  module _ (r : Rule) (f : Term) (gs : List Term) (i : Implies r (rule f gs)) (c : Closed f) {n : ℕ} (ds : DerivesAll Closed B n gs) where
    pub values : ℕ → Term
    values x = sub flat (i.by x)

    pub values_closed : (x : ℕ) → Closed (values x)
    unfolding values
    values_closed x = closed_of flat flat_closed (i.by x)

    pub at_concl : sub values r.concl ≡ f
    unfolding values
    at_concl = sym (sub_sub flat i.by r.concl) ∙ ap (sub flat) i.on_concl ∙ closed_sub f c flat

    pub at_hyps : (m : ℕ) × (m ≤ n) × DerivesAll Closed B m (map (sub values) r.hyps)
    unfolding values
    at_hyps =
        let w = derives_emb i.on_hyps ds in
        (w.0, w.1, subst (DerivesAll Closed B w.0) (sym (all_closed flat w.2) ∙ map_sub_sub flat i.by r.hyps) w.2)

  from_forest : {n : ℕ} {fs : List Term} → Forest B n fs → (m : ℕ) × (m ≤ n) × DerivesAll Closed B m fs
  from_forest leaf = (0, omega arith, nil)
  from_forest (node {f = f} {gs = gs} r b i c t u) =
      let v = from_forest t in
      let w = from_forest u in
      let h = at_hyps r f gs i c v.2 in
      (suc h.0 + w.0, omega (arith, v.1, w.1, h.1), also (by r (values r f gs i c v.2) b (values_closed r f gs i c v.2) (at_concl r f gs i c v.2) h.2) w.2 refl)

-- what a harmless rule implies is derivable without it, by no larger trees
pub harmless_forest :
    (A B : Rule → Type 0) → ((q : Rule) → B q → Valid A q) → (r : Rule) → Harmless A r
    → (f : Term) (gs : List Term) (n : ℕ) → Implies r (rule f gs) → Closed f → Forest B n gs → (m : ℕ) × (m ≤ n) × Forest B m (f ∷ [])
harmless_forest A B v r h f gs n i c t =
    let w = from_forest t in
    let d = at_hyps r f gs i c w.2 in
    let e = h B v (values r f gs i c w.2) (values_closed r f gs i c w.2) d.0 d.2 in
    let g = to_forest (subst (Derives Closed B e.0) (at_concl r f gs i c w.2) e.2) in
    (g.0, omega (arith, w.1, d.1, e.1, g.1), g.2)

pub forest_map : {B C : Rule → Type 0} → ((r : Rule) → B r → (q : Rule) × C q × Implies q r) → {n : ℕ} {fs : List Term} → Forest B n fs → Forest C n fs
forest_map h leaf = leaf
forest_map h (node r b i c t u) =
    let w = h r b in
    node w.0 w.1 (implies_trans w.2 i) c (forest_map h t) (forest_map h u)

-- ---- a hypothesis that is not open, or none
pub data Opens (o : ℕ → Bool) : List Term → Type 0 where
  all : {l : List Term} → all_open o l ≡ true → Opens o l
  shut : {l : List Term} (k : ℕ) (h : Term) → nth l k ≡ some h → is_open o h ≡ false → Opens o l

pub opens : (o : ℕ → Bool) (l : List Term) → Opens o l
unfolding all_open nth
opens o [] = all refl
opens o (t ∷ l) = go (is_open o t) refl (opens o l)
  where
    go : (c : Bool) → is_open o t ≡ c → Opens o l → Opens o (t ∷ l)
    go false e w = shut 0 t refl e
    go true e (all p) = all {l = t ∷ l} (rw (e, all_open) p)
    go true e (shut k h p q) = shut (suc k) h p q

-- the rules of B whose hypotheses are all open
abbrev pub Open : (ℕ → Bool) → (Rule → Type 0) → Rule → Type 0
Open o B r = B r × (all_open o r.hyps ≡ true)

abbrev pub Small : (Rule → Type 0) → ℕ → List Term → Type 0
Small B n fs = (m : ℕ) × (m ≤ n) × Forest B m fs

-- some rule of B implies q
abbrev pub By : (Rule → Type 0) → Rule → Type 0
By B q = (p : Rule) × B p × Implies p q

-- what a rule that is skipped would give, there is without it
abbrev pub Safe : (Rule → Type 0) → (Rule → Type 0) → Type 0
Safe B Skip = (q : Rule) → Skip q → (f : Term) (gs : List Term) (n : ℕ) → Implies q (rule f gs) → Closed f → Forest B n gs → Small B n (f ∷ [])

-- ---- loading: rules of A may be implied by rules of B, or skipped
module _ (A B : Rule → Type 0) (Skip : Rule → Type 0) (safe : Safe B Skip) (loaded : (r : Rule) → A r → By B r ⊎ By Skip r) where
  pub phase0 : {n : ℕ} {fs : List Term} → Forest A n fs → Small B n fs
  phase0 leaf = (0, omega arith, leaf)
  phase0 (node {f = f} {gs = gs} r a i c t u) = go (loaded r a) (phase0 t) (phase0 u)
    where
      go : {n m : ℕ} {fs : List Term} → By B r ⊎ By Skip r → Small B n gs → Small B m fs → Small B (suc (n + m)) (f ∷ fs)
      go (inl w) v x = (suc (v.0 + x.0), omega (arith, v.1, x.1), node w.0 w.1 (implies_trans w.2 i) c v.2 x.2)
      go (inr w) v x =
          let d = safe w.0 w.1 f gs v.0 (implies_trans w.2 i) c v.2 in
          let g = grow d.2 x.2 in
          (g.0, omega (arith, v.1, x.1, d.1, g.1), g.2)

-- ---- phase 1: where every allowed combination is implied by a rule of B, or skipped
module _ (o : ℕ → Bool) (B Skip : Rule → Type 0) (safe : Safe B Skip)
    (closed : (r r' : Rule) → B r → B r' → all_open o r.hyps ≡ true → (k : ℕ) (h : Term) → nth r'.hyps k ≡ some h → is_open o h ≡ false → (n : Rule) → combine r r' k ≡ some n → By B n ⊎ Skip n)
  where
    forget : {n : ℕ} {fs : List Term} → Forest (Open o B) n fs → Forest B n fs
    forget f = forest_map (λ r b. (r, b.0, implies_refl r)) f

    -- the combination with the root of a hypothesis's tree takes a node away
    phase1_shut :
        (n : ℕ) → ((m : ℕ) (fs : List Term) → m ≤ n → Forest B m fs → Small (Open o B) m fs)
        → {a b : ℕ} {f : Term} {gs fs : List Term} → Closed f → (l : Rule) → Implies l (rule f gs) → By B l ⊎ Skip l
        → Forest (Open o B) a gs → Forest (Open o B) b fs → suc (a + b) ≤ n → Small (Open o B) (suc (a + b)) (f ∷ fs)
    phase1_shut n rec {a} {b} {f} {gs} {fs} c l i (inl w) t u le =
        rec (suc (a + b)) (f ∷ fs) le (node w.0 w.1 (implies_trans {p = w.0} {q = l} w.2 i) c (forget t) (forget u))
    phase1_shut n rec {a} {b} {f} {gs} {fs} c l i (inr s) t u le =
        let d = safe l s f gs a i c (forget t) in
        let g = grow d.2 (forget u) in
        let w = rec g.0 (f ∷ fs) (omega (arith, d.1, g.1)) g.2 in
        (w.0, omega (arith, d.1, g.1, w.1), w.2)

    phase1_node :
        (n : ℕ) → ((m : ℕ) (fs : List Term) → m ≤ n → Forest B m fs → Small (Open o B) m fs)
        → {a b : ℕ} {f : Term} {gs fs : List Term} (r : Rule) → B r → Implies r (rule f gs) → Closed f
        → Forest (Open o B) a gs → Forest (Open o B) b fs → a + b ≤ n → Opens o r.hyps → Small (Open o B) (suc (a + b)) (f ∷ fs)
    phase1_node n rec {a} {b} r known i c t u le (all p) = (suc (a + b), omega arith, node r (known, p) i c t u)
    phase1_node n rec {a} {b} {f} {gs} {fs} r known i c t u le (shut k h p q) =
        let e = emb_sel (sel_map (sub i.by) (sel_nth r.hyps k h p)) i.on_hyps in
        let s = split e.1 t in
        let l = combine_lifts s.root r k h (sub i.by h) f s.below e.0 s.instance'.by i.by p s.instance'.on_concl s.instance'.on_hyps i.on_concl refl e.2 in
        let g = grow s.children s.others in
        let w = phase1_shut n rec c l.0 l.2 (closed s.root r s.known.0 known s.known.1 k h p q l.0 l.1) g.2 u (omega (arith, s.total, g.1)) in
        (w.0, omega (arith, w.1, s.total, g.1), w.2)

    phase1_below : (n m : ℕ) (fs : List Term) → m ≤ n → Forest B m fs → Small (Open o B) m fs
    phase1_below zero m fs le leaf = (0, omega arith, leaf)
    phase1_below (suc n) m fs le leaf = (0, omega arith, leaf)
    phase1_below zero m fs le (node r b i c t u) = absurd (omega arith)
    phase1_below (suc n) m fs le (node r b i c t u) =
        let v = phase1_below n _ _ (omega arith) t in
        let w = phase1_below n _ _ (omega arith) u in
        let x = phase1_node n (phase1_below n) r b i c v.2 w.2 (omega (arith, v.1, w.1)) (opens o r.hyps) in
        (x.0, omega (arith, x.1, v.1, w.1), x.2)

    -- Each derivation has one, no larger, by rules with open hypotheses only.
    pub phase1 : {n : ℕ} {fs : List Term} → Forest B n fs → Small (Open o B) n fs
    phase1 {n} {fs} f = phase1_below n n fs (omega arith) f

-- ---- phase 2: where every combination with a goal is implied by a goal, and no goal is without hypotheses
module _ (B G : Rule → Type 0)
    (closed : (r g : Rule) → B r → G g → (n : Rule) → combine r g 0 ≡ some n → By G n)
    (unsolved : (g : Rule) → G g → g.hyps ≡ [] → ⊥)
  where
    phase2_step :
        (n : ℕ) → ((m : ℕ) (f : Term) (fs : List Term) (g : Rule) → G g → Implies g (rule f fs) → Forest B m fs → m < n → ⊥)
        → {m : ℕ} {f : Term} {fs : List Term} (g : Rule) → G g → Implies g (rule f fs) → Forest B m fs → m ≤ n
        → (l : List Term) → g.hyps ≡ l → ⊥
    unfolding nth
    phase2_step n rec g known i t le [] e = unsolved g known e
    phase2_step n rec {m} {f} {fs} g known i t le (h ∷ l) e =
        let p : nth g.hyps 0 ≡ some h = rw e in
        let a = emb_sel (sel_map (sub i.by) (sel_nth g.hyps 0 h p)) i.on_hyps in
        let s = split a.1 t in
        let w = combine_lifts s.root g 0 h (sub i.by h) f s.below a.0 s.instance'.by i.by p s.instance'.on_concl s.instance'.on_hyps i.on_concl refl a.2 in
        let c = closed s.root g s.known known w.0 w.1 in
        let j = grow s.children s.others in
        rec j.0 f (s.below ++ a.0) c.0 c.1 (implies_trans {p = c.0} {q = w.0} c.2 w.2) j.2 (omega (arith, s.total, j.1))

    -- No instance of a kept goal has hypotheses that are all derivable.
    pub phase2 : (n m : ℕ) (f : Term) (fs : List Term) (g : Rule) → G g → Implies g (rule f fs) → Forest B m fs → m ≤ n → ⊥
    phase2 zero m f fs g known i t le = phase2_step zero (λ m f fs g k i t lt. omega arith) g known i t le g.hyps refl
    phase2 (suc n) m f fs g known i t le = phase2_step (suc n) (λ m f fs g k i t lt. phase2 n m f fs g k i t (omega arith)) g known i t le g.hyps refl
