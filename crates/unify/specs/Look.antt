-- What the code's `look` asks and answers, and the laws that its proof cites. Assumes nothing.
use Rattle.std.specs.Prelude.{ℕ, suc, ◌+◌, ◌*◌, ◌-◌, ◌≤◌, ◌<◌, Bool, true, false, List, [], ◌∷◌, map, ◌≡◌, ◌≢◌, eqb, length, get_or, set, drop}
use Rattle.std.proofs.Common.{arith, ap, ◌∙◌, subst, sym}
use Rattle.std.proofs.Common.{eqb-true}
use Rattle.std.proofs.lemmas.Bool.{eqb-false}
use Rattle.std.proofs.Math.Path.{refl}
use Rattle.model.specs.Term.{Term}
use Rattle.unify.specs.Forest.{Down, find}
use Rattle.unify.specs.Closure.{Every, Graph}
use Rattle.unify.specs.Read.{ReadsAll, rnil, rcons}
use Rattle.unify.specs.Inside.{Cyclic, zeros, zeros_set, Read, Done, Open, Looked, looked_refl, looked_trans, mark_done, mark_open, close_ok, met, at_variable, seen}
use Rattle.records.specs.Symbols.{arity_of}
use Rattle.unify.specs.Nodes.{node, starts_at, tok, Past, graph, args_at, args_cons, args_head, first}

-- from the marks m to the marks k: true where a class that is open stands inside i, so inside its own term
abbrev pub Found : Graph → List ℕ → List ℕ → List ℕ → ℕ → Bool → Type 0
Found G s m k i true = Cyclic G s
Found G s m k i false = Looked G s m k × Read G s i

-- what look asks
pub record Asks (sy : List ℕ) (T : ℕ) (ts s m : List ℕ) (i : ℕ) : Type 0 where
  pub lt : length ts ≡ 2 * T
  pub ls : length s ≡ 2 * T + 128
  pub lm : length m ≡ 2 * T + 128
  pub down : Down s
  pub ii : i < 2 * T + 128
  pub done : Done (graph sy ts) s m
  pub wide : Open (graph sy ts) s m i

-- of the nodes xs, those of us are left to look into
pub record Rest (G : Graph) (s m k xs us : List ℕ) : Type 0 where
  pub looked : Looked G s m k
  pub close : (t : List Term) → ReadsAll G s us t → (v : List Term) × ReadsAll G s xs v
  pub opens : Every (Open G s m) us

module _ (G : Graph) (s : List ℕ) where
  pub rest_step : (m k w xs : List ℕ) (a : ℕ) (us : List ℕ) → Rest G s m k xs (a ∷ us) → Looked G s k w × Read G s a → Rest G s m w xs us
  rest_step m k w xs a us R h =
      record {
        looked = looked_trans G s m k w R.looked h.0;
        close = λ t r. R.close (h.1.0 ∷ t) (rcons h.1.1 r);
        opens = R.opens.1;
      }

  pub rest_open : (m k xs : List ℕ) (a : ℕ) (us : List ℕ) → Rest G s m k xs (a ∷ us) → Open G s k a
  rest_open m k xs a us R j e = R.opens.0 j (R.looked.opens j e)

module _ {sy : List ℕ} {T : ℕ} {ts s m : List ℕ} {i : ℕ} (A : Asks sy T ts s m i) where
  abbrev G : Graph
  G = graph sy ts

  pub look_var : 2 * T ≤ find s i → Found (graph sy ts) s m m i false
  look_var v = at_variable (graph sy ts) s A.down m i A.done (let z = A.lt in omega arith)

  -- a node that was seen before: an open one stands inside i
  pub look_marked : (r : ℕ) → r ≡ find s i → get_or m r 0 ≢ 0 → Found (graph sy ts) s m m i (eqb (get_or m r 0) 1)
  look_marked r e p = go (eqb (get_or m r 0) 1) refl
    where
      go : (b : Bool) → eqb (get_or m r 0) 1 ≡ b → Found (graph sy ts) s m m i b
      go true q = met (graph sy ts) s A.down m i A.wide (ap (λ (k : ℕ). get_or m k 0) (sym e) ∙ eqb-true (get_or m r 0) 1 q)
      go false q = seen (graph sy ts) s A.down m i A.done (λ z. p (ap (λ (k : ℕ). get_or m k 0) e ∙ z)) (λ z. eqb-false (get_or m r 0) 1 q (ap (λ (k : ℕ). get_or m k 0) e ∙ z))

  module _ (v : find s i < 2 * T) (z : get_or m (find s i) 0 ≡ 0) where
    c : length m ≡ length ts + 128
    c = let a = A.lt in let b = A.lm in omega arith

    vv : find s i < length ts
    vv = let a = A.lt in omega arith

    pub look_start : (k : List ℕ) (r n : ℕ) → k ≡ set m (find s i) 1 → r ≡ find s i → n ≡ arity_of sy (tok ts r)
        → Rest (graph sy ts) s k k (args_at sy ts (suc (find s i)) (arity_of sy (tok ts (find s i)))) (args_at sy ts (r + 1) (n - 0))
    look_start k r n e q f =
        let u : r + 1 ≡ suc r = omega arith in
        let w : n - 0 ≡ n = omega arith in
        rw (u, w, f, q, e)
        (record {
          looked = looked_refl (graph sy ts) s (set m (find s i) 1) (mark_done (graph sy ts) s A.down m c A.done i A.wide vv z);
          close = λ t r. (t, r);
          opens = mark_open (graph sy ts) s A.down m c A.done i A.wide vv z;
        })

    pub look_end : (k w l : List ℕ) → k ≡ set m (find s i) 1 → l ≡ set w (find s i) 2
        → Rest (graph sy ts) s k w (args_at sy ts (suc (find s i)) (arity_of sy (tok ts (find s i)))) [] → Found (graph sy ts) s m l i false
    look_end k w l e f R =
        subst (λ (y : List ℕ). Found (graph sy ts) s m y i false) (sym f)
        (close_ok (graph sy ts) s A.down m c A.done i A.wide vv z w
        (subst (λ (y : List ℕ). Looked (graph sy ts) s y w) e R.looked, R.close [] rnil))

    pub look_zeros : (k : List ℕ) → k ≡ set m (find s i) 1 → suc (zeros k) ≡ zeros m
    look_zeros k e = ap (λ (y : List ℕ). suc (zeros y)) e ∙ zeros_set m (find s i) 1 (let a = A.lm in omega arith) z (λ q. omega arith)

module _ (sy ts s : List ℕ) where
  pub asks_arg : (T : ℕ) (m k xs : List ℕ) (p n j a : ℕ) → length ts ≡ 2 * T → length s ≡ 2 * T + 128 → length k ≡ 2 * T + 128 → Down s → j < n → p ≤ 2 * T → a ≡ node ts p → a < 2 * T + 128
      → Rest (graph sy ts) s m k xs (args_at sy ts p (n - j)) → Asks sy T ts s k a
  asks_arg T m k xs p n j a lt ls lk d l lp ea ia R =
      record {
        lt = lt;
        ls = ls;
        lm = lk;
        down = d;
        ii = ia;
        done = R.looked.done;
        wide =
            let z : n - j ≡ suc (n - (j + 1)) = omega arith in
            let y : p ≤ length ts = omega arith in
            rw ea
            (rest_open (graph sy ts) s m k xs (node ts p) (map (node ts) (first (n - (j + 1)) (drop 1 (starts_at sy ts p)) (length ts)))
            (subst (λ (us : List ℕ). Rest (graph sy ts) s m k xs us) (ap (args_at sy ts p) z ∙ args_head sy ts p (n - (j + 1)) y) R));
      }

  pub rest_next : (m k w xs : List ℕ) (p q n j a : ℕ) → j < n → p ≤ length ts → Past sy ts p q → a ≡ node ts p
      → Rest (graph sy ts) s m k xs (args_at sy ts p (n - j)) → Looked (graph sy ts) s k w × Read (graph sy ts) s a → Rest (graph sy ts) s m w xs (args_at sy ts q (n - (j + 1)))
  rest_next m k w xs p q n j a l lp h ea R f =
      let z : n - j ≡ suc (n - (j + 1)) = omega arith in
      rest_step (graph sy ts) s m k w xs a (args_at sy ts q (n - (j + 1)))
      (subst (λ (us : List ℕ). Rest (graph sy ts) s m k xs us) (ap (args_at sy ts p) z ∙ args_cons sy ts p q (n - (j + 1)) lp h ∙ ap (◌∷ args_at sy ts q (n - (j + 1))) (sym ea)) R) f

  no_nodes : (p : ℕ) → args_at sy ts p 0 ≡ []
  unfolding args_at
  no_nodes p = refl

  pub rest_end : (m k xs : List ℕ) (p n j : ℕ) → n ≤ j → Rest (graph sy ts) s m k xs (args_at sy ts p (n - j)) → Rest (graph sy ts) s m k xs []
  rest_end m k xs p n j l R =
      let z : n - j ≡ 0 = omega arith in
      subst (λ (us : List ℕ). Rest (graph sy ts) s m k xs us) (ap (args_at sy ts p) z ∙ no_nodes p) R
