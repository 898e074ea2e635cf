-- The whole unifier: classes, then the test of cycles. Assumes nothing.
use Rattle.std.specs.Prelude.{ℕ, ◌+◌, ◌≤◌, ◌<◌, Bool, true, false, List, ◌≡◌, refl, ◌⊎◌, leb, length}
use Rattle.std.proofs.Common.{arith, ◌∙◌, sym, inl, inr, leb-true, leb-false}
use Rattle.std.proofs.Math.Path.{ap}
use Rattle.std.proofs.Math.ListN.{get_or-eq_default}
use Rattle.model.specs.Term.{Term, sub}
use Rattle.theory.specs.Unique.{Mgu}
use Rattle.unify.specs.Forest.{up, Down, find, Eqv, find_fix}
use Rattle.unify.specs.Closure.{Graph, Same, Resp, Shut, Step}
use Rattle.unify.specs.Read.{Reads, rvar, closed_find, Alike, σ, most_general, reads_sub, pairs_refl}
use Rattle.unify.specs.Inside.{Read}

pub record Solved (G : Graph) (p q : ℕ) (s : List ℕ) : Type 0 where
  pub down : Down s
  pub len : length s ≡ G.count
  pub μ : ℕ → Term
  pub mgu : Mgu (G.tree p) (G.tree q) μ
  pub reads : (i : ℕ) → Reads G s i (sub μ (G.tree i))

-- no two nodes in one class
unfoldable pub Fresh : List ℕ → Type 0
Fresh b = (i : ℕ) → up b i ≡ i

module _ (G : Graph) (p q : ℕ) (b : List ℕ) (fresh : Fresh b) where
  pub start_down : Down b
  unfolding Down Fresh
  start_down i = rw (fresh i) (omega arith)

  pub start_resp : (θ : ℕ → Term) → Resp G θ b
  unfolding Resp Fresh
  start_resp θ i = ap (λ (k : ℕ). sub θ (G.tree k)) (sym (fresh i))

  module _ (s : List ℕ) (S : Step G b s (λ θ. Same G θ p q)) (e : Eqv s p q) (long : length s ≡ G.count) where
    linked : (i : ℕ) → Alike G s i (up s i)
    unfolding Shut Fresh
    linked i = go (S.kept i)
      where
        go : (up s i ≡ up b i) ⊎ Shut G s i → Alike G s i (up s i)
        go (inl k) l =
            let z : up s i ≡ i = k ∙ fresh i in
            rw z (refl, pairs_refl (Eqv s) (λ a. refl) (G.args i))
        go (inr k) l = k l

    everywhere : ((x : ℕ) → G.places + x < G.count → Read G s (G.places + x)) → (x : ℕ) → Read G s (G.places + x)
    everywhere h x = go (leb G.count (G.places + x)) refl
      where
        go : (c : Bool) → leb G.count (G.places + x) ≡ c → Read G s (G.places + x)
        go true l =
            let m = leb-true G.count (G.places + x) l in
            let f : find s (G.places + x) ≡ G.places + x = find_fix s (G.places + x) (get_or-eq_default s (G.places + x) (rw long m)) in
            let v : G.places ≤ find s (G.places + x) = rw f (omega arith) in
            (_, rvar v refl)
        go false l = h x (leb-false G.count (G.places + x) l)

    -- every variable can be read
    pub solved : ((x : ℕ) → G.places + x < G.count → Read G s (G.places + x)) → Solved G p q s
    solved h =
        let all = everywhere h in
        let closed = closed_find G s S.down linked in
        record {
          down = S.down;
          len = long;
          μ = σ G s S.down closed all;
          mgu = most_general G s S.down closed all p q e (λ θ k. S.forced θ (start_resp θ) k);
          reads = reads_sub G s S.down closed all;
        }
