-- Does a class stand inside its own term? The marks of the walk, and what each answer means. Assumes nothing.
use Rattle.std.specs.Prelude.{ℕ, zero, suc, ◌+◌, ◌≤◌, ◌<◌, Bool, true, false, List, [], ◌∷◌, ◌≡◌, refl, ◌≢◌, eqb, length, get_or, set}
use Rattle.std.proofs.Common.{arith, ap, ◌∙◌, subst, sym, length-set, get_or-set_same, get_or-set_other, eqb-true, eq-eqb, ne_eqb}
use Rattle.std.proofs.lemmas.Bool.{eqb-false}
use Rattle.model.specs.Term.{Term, con, sub, size}
use Rattle.records.specs.Tokens.{applied}
use Rattle.unify.specs.Forest.{one, Down, find, Eqv, find_twice}
use Rattle.unify.specs.Closure.{Every, Graph, Resp, resp_find, resp_eqv}
use Rattle.unify.specs.Read.{Reads, rvar, rsym, ReadsAll, reads_eqv, smaller}

-- ---- marks: 0 not seen, 1 open (being looked into), 2 done
unfoldable pub zeros : List ℕ → ℕ
zeros [] = 0
zeros (x ∷ l) = one (eqb x 0) + zeros l

pub zeros_set : (l : List ℕ) (h v : ℕ) → h < length l → get_or l h 0 ≡ 0 → v ≢ 0 → suc (zeros (set l h v)) ≡ zeros l
unfolding zeros
zeros_set [] h v b e n = absurd (omega arith)
zeros_set (x ∷ l) zero v b e n = simp (eq-eqb x 0 e, ne_eqb v 0 n) (omega arith)
zeros_set (x ∷ l) (suc h) v b e n = let ih = zeros_set l h v (omega arith) e n in omega arith

zeros_less : (l : List ℕ) (h v : ℕ) → v ≢ 0 → zeros (set l h v) ≤ zeros l
unfolding zeros
zeros_less [] h v n = omega arith
zeros_less (x ∷ l) zero v n = simp (ne_eqb v 0 n) (omega arith)
zeros_less (x ∷ l) (suc h) v n = let ih = zeros_less l h v n in omega arith

pub data Among (a : ℕ) : List ℕ → Type 0 where
  here : {l : List ℕ} → Among a (a ∷ l)
  there : {b : ℕ} {l : List ℕ} → Among a l → Among a (b ∷ l)

every_among : (P : ℕ → Type 0) (l : List ℕ) → ((a : ℕ) → Among a l → P a) → Every P l
every_among P [] f = tt
every_among P (a ∷ l) f = (f a here, every_among P l (λ b m. f b (there m)))

among_every : (P : ℕ → Type 0) {a : ℕ} {l : List ℕ} → Among a l → Every P l → P a
among_every P here h = h.0
among_every P (there m) h = among_every P m h.1

module _ (G : Graph) (s : List ℕ) where
  abbrev pub Read : ℕ → Type 0
  Read i = (t : Term) × Reads G s i t

  -- what is done can be read
  abbrev pub Done : List ℕ → Type 0
  Done m = (k : ℕ) → get_or m k 0 ≢ 0 → get_or m k 0 ≢ 1 → Read k

  -- the node i stands inside the term of k's class
  pub data Below (k : ℕ) : ℕ → Type 0 where
    arg : {a : ℕ} → find s k < G.places → Among a (G.args (find s k)) → Below k a
    deep : {i a : ℕ} → Below k i → find s i < G.places → Among a (G.args (find s i)) → Below k a

  -- a class stands inside its own term
  abbrev pub Cyclic : Type 0
  Cyclic = (k : ℕ) × (i : ℕ) × Below k i × Eqv s k i

  -- i stands inside whatever is open
  abbrev pub Open : List ℕ → ℕ → Type 0
  Open m i = (k : ℕ) → get_or m k 0 ≡ 1 → Below k i

  lower : (θ : ℕ → Term) → Resp G θ s → (k a : ℕ) → find s k < G.places → Among a (G.args (find s k)) → size (sub θ (G.tree a)) < size (sub θ (G.tree k))
  lower θ x k a v m =
      let w = among_every (λ b. size (sub θ (G.tree b)) < size (sub θ (G.tree (find s k)))) m (smaller G θ (find s k) v) in
      let u = ap size (resp_find G θ s x k) in
      omega arith

  below_size : {k i : ℕ} → Below k i → (θ : ℕ → Term) → Resp G θ s → size (sub θ (G.tree i)) < size (sub θ (G.tree k))
  below_size {k} (arg {a = a} v m) θ x = lower θ x k a v m
  below_size {k} (deep {i = i} {a = a} b v m) θ x = let w = below_size b θ x in let y = lower θ x i a v m in omega arith

  -- then nothing unifies
  pub cyclic_none : Cyclic → (θ : ℕ → Term) → Resp G θ s → ⊥
  cyclic_none c θ x = let w = below_size c.2 θ x in let u = ap size (resp_eqv G θ s x c.0 c.1 c.3) in omega arith

  pub record Looked (m k : List ℕ) : Type 0 where
    pub len : length k ≡ length m
    pub done : Done k
    pub opens : (i : ℕ) → get_or k i 0 ≡ 1 → get_or m i 0 ≡ 1
    pub fewer : zeros k ≤ zeros m

  pub looked_refl : (m : List ℕ) → Done m → Looked m m
  looked_refl m h = record { len = refl; done = h; opens = λ i e. e; fewer = omega arith }

  pub looked_trans : (m k l : List ℕ) → Looked m k → Looked k l → Looked m l
  looked_trans m k l a b =
      record { len = b.len ∙ a.len; done = b.done; opens = λ i e. a.opens i (b.opens i e); fewer = let x = a.fewer in let y = b.fewer in omega arith }

module _ (G : Graph) (s : List ℕ) (d : Down s) where
  -- a root not seen yet
  module _ (m : List ℕ) (c : length m ≡ G.count) (h : Done G s m) (i : ℕ) (o : Open G s m i) (v : find s i < G.places) (z : get_or m (find s i) 0 ≡ 0) where
    abbrev pub r : ℕ
    r = find s i

    fits : r < length m
    fits = let b = G.bound in omega arith

    abbrev pub mark : List ℕ
    mark = set m r 1

    other : (k x : ℕ) → k ≢ r → get_or (set m r x) k 0 ≡ get_or m k 0
    other k x n = get_or-set_other m r k x 0 n

    at_r : (x : ℕ) (l : List ℕ) → length l ≡ G.count → get_or (set l r x) r 0 ≡ x
    at_r x l e = get_or-set_same l r x 0 (let b = fits in omega arith)

    pub mark_done : Done G s mark
    mark_done k p q = go (eqb k r) refl
      where
        go : (b : Bool) → eqb k r ≡ b → Read G s k
        go true e = absurd (q (subst (λ (j : ℕ). get_or (set m r 1) j 0 ≡ 1) (sym (eqb-true k r e)) (at_r 1 m c)))
        go false e = let w = other k 1 (eqb-false k r e) in h k (λ y. p (w ∙ y)) (λ y. q (w ∙ y))

    pub mark_open : Every (Open G s mark) (G.args r)
    mark_open = every_among (Open G s mark) (G.args r) (λ a n k e. go a n k e (eqb k r) refl)
      where
        own : (a : ℕ) → Among a (G.args r) → Below G s r a
        own a n =
            let f : find s r ≡ r = find_twice s d i in
            let w : find s r < G.places = rw f v in
            let u : Among a (G.args (find s r)) = rw f n in
            arg w u

        go : (a : ℕ) → Among a (G.args r) → (k : ℕ) → get_or mark k 0 ≡ 1 → (b : Bool) → eqb k r ≡ b → Below G s k a
        go a n k e true q = subst (λ (j : ℕ). Below G s j a) (sym (eqb-true k r q)) (own a n)
        go a n k e false q = deep (o k (sym (other k 1 (eqb-false k r q)) ∙ e)) v n

    pub close_ok : (k : List ℕ) → Looked G s mark k × ((us : List Term) × ReadsAll G s (G.args r) us) → Looked G s m (set k r 2) × Read G s i
    close_ok k w = (
      record {
        len = length-set k r 2 ∙ w.0.len ∙ length-set m r 1;
        done = λ j p q. go j p q (eqb j r) refl;
        opens = λ j e. was j e (eqb j r) refl;
        fewer =
            let x = zeros_set m r 1 fits z (λ e. omega arith) in
            let y = zeros_less k r 2 (λ e. omega arith) in
            let u = w.0.fewer in
            omega arith;
      },
      (_, read),
    )
      where
        long : length k ≡ G.count
        long = w.0.len ∙ length-set m r 1 ∙ c

        read : Reads G s i (applied (con (G.label r)) w.1.0)
        read = rsym v w.1.1 refl

        go : (j : ℕ) → get_or (set k r 2) j 0 ≢ 0 → get_or (set k r 2) j 0 ≢ 1 → (b : Bool) → eqb j r ≡ b → Read G s j
        go j p q true e = (_, reads_eqv G s j (sym (find_twice s d i) ∙ ap (find s) (sym (eqb-true j r e))) read)
        go j p q false e =
            let x = get_or-set_other k r j 2 0 (eqb-false j r e) in
            w.0.done j (λ y. p (x ∙ y)) (λ y. q (x ∙ y))

        was : (j : ℕ) → get_or (set k r 2) j 0 ≡ 1 → (b : Bool) → eqb j r ≡ b → get_or m j 0 ≡ 1
        was j p true e =
            let x : get_or (set k r 2) j 0 ≡ 2 = subst (λ (l : ℕ). get_or (set k r 2) l 0 ≡ 2) (sym (eqb-true j r e)) (at_r 2 k long) in
            absurd (omega arith)
        was j p false e =
            let n = eqb-false j r e in
            sym (other j 1 n) ∙ w.0.opens j (sym (get_or-set_other k r j 2 0 n) ∙ p)

  pub met : (m : List ℕ) (i : ℕ) → Open G s m i → get_or m (find s i) 0 ≡ 1 → Cyclic G s
  met m i o e = (find s i, i, o (find s i) e, find_twice s d i)

  pub at_variable : (m : List ℕ) (i : ℕ) → Done G s m → G.places ≤ find s i → Looked G s m m × Read G s i
  at_variable m i h v = (looked_refl G s m h, (_, rvar v refl))

  pub seen : (m : List ℕ) (i : ℕ) → Done G s m → get_or m (find s i) 0 ≢ 0 → get_or m (find s i) 0 ≢ 1 → Looked G s m m × Read G s i
  seen m i h p q = let w = h (find s i) p q in (looked_refl G s m h, (w.0, reads_eqv G s i (find_twice s d i) w.1))
