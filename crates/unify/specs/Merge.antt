-- The union of two classes, and what the merging of two nodes answers. Assumes nothing.
use Rattle.std.specs.Prelude.{ℕ, ◌≤◌, ◌<◌, Bool, List, ◌≡◌, ◌⊎◌, length, set}
use Rattle.std.proofs.Common.{arith, ◌∙◌, inl, inr, length-set}
use Rattle.std.proofs.Math.Bool.{true, false}
use Rattle.std.proofs.Math.Path.{refl, subst, sym}
use Rattle.std.proofs.Math.Dec.{eqb}
use borrow.Author.Tests.{eqb-true, eqb-false}
use Rattle.model.specs.Term.{Term}
use Rattle.unify.specs.Forest.{up, Down, find, Eqv, find_le, find_twice, grows, grows_trans, up_hi, up_other, link_down, link_grows, link_joins, link_roots}
use Rattle.unify.specs.Closure.{Pairs, pairs_flip, Graph, Same, Resp, resp_find, same_label, same_args, Shut, Step, step_refl, step_trans}

module _ (G : Graph) where
  abbrev pub In : ℕ → Type 0
  In i = i < G.count

  -- what the merging of i and j, that went from the table r to the table t, answers
  abbrev pub Answer : List ℕ → List ℕ → ℕ → ℕ → Bool → Type 0
  Answer r t i j true = Step G r t (λ θ. Same G θ i j) × Eqv t i j
  Answer r t i j false = (θ : ℕ → Term) → Resp G θ r → Same G θ i j → ⊥

  -- ---- the union of two roots
  module _ (r : List ℕ) (d : Down r) (len : length r ≡ G.count) (lo hi : ℕ) (ilo : In lo) (ihi : In hi) (rlo : up r lo ≡ lo) (rhi : up r hi ≡ hi) (less : lo < hi) where
    fits : hi < length r
    fits = omega arith

    abbrev s : List ℕ
    s = set r hi lo

    pub linked : (θ : ℕ → Term) → Resp G θ r → Same G θ lo hi → Resp G θ s
    unfolding Resp
    linked θ h e i = go (eqb i hi) refl
      where
        go : (c : Bool) → eqb i hi ≡ c → Same G θ i (up s i)
        go true q =
            let z = eqb-true i hi q in
            subst (λ (k : ℕ). Same G θ k (up s k)) (sym z) (rw (up_hi r d hi lo fits rhi less) (sym e))
        go false q = rw (up_other r d hi lo fits rhi less i (eqb-false i hi q)) (h i)

    -- all but the last field
    link_step : (t : List ℕ) (P : (ℕ → Term) → Type 0) → Step G s t P → Shut G t hi → Step G r t (λ θ. Same G θ lo hi × P θ)
    link_step t P S c =
        record {
          down = S.down;
          len = S.len ∙ length-set r hi lo;
          fewer = let z = S.fewer in let y = link_roots r hi lo fits rhi less in omega arith;
          grow = grows_trans r s t (link_grows r d hi lo fits rhi less) S.grow;
          kept = λ i. go i (eqb i hi) refl (S.kept i);
          forced = λ θ h p. S.forced θ (linked θ h p.0) p.1;
        }
      where
        go : (i : ℕ) (b : Bool) → eqb i hi ≡ b → (up t i ≡ up s i) ⊎ Shut G t i → (up t i ≡ up r i) ⊎ Shut G t i
        go i true q k = inr (subst (Shut G t) (sym (eqb-true i hi q)) c)
        go i false q (inl k) = inl (k ∙ up_other r d hi lo fits rhi less i (eqb-false i hi q))
        go i false q (inr k) = inr k

    -- a variable's class joins another
    pub unite_var : G.places ≤ hi → Step G r s (λ θ. Same G θ lo hi) × Eqv s lo hi
    unfolding Shut
    unite_var v = (
      step_trans G (λ θ h e. ((e, tt), tt)) (link_step s (λ θ. Unit {0}) (step_refl G s _ (link_down r d hi lo fits rhi less)) (λ l. absurd (omega arith))) (step_refl G s (λ θ. Unit {0}) (link_down r d hi lo fits rhi less)),
      link_joins r d hi lo fits rhi less,
    )

    -- two symbols, when their arguments are merged
    pub unite_sym : hi < G.places → G.label lo ≡ G.label hi → (t : List ℕ) → Step G s t (λ θ. Pairs (Same G θ) (G.args lo) (G.args hi)) → Pairs (Eqv t) (G.args lo) (G.args hi)
        → Step G r t (λ θ. Same G θ lo hi) × Eqv t lo hi
    unfolding Shut
    unite_sym v e t S p = (
      step_trans G (λ θ h q. ((q, same_args G θ lo hi (omega arith) v q), tt)) (link_step t _ S shut) (step_refl G t (λ θ. Unit {0}) S.down),
      grows s t S.grow lo hi (link_joins r d hi lo fits rhi less),
    )
      where
        shut : Shut G t hi
        shut = go (S.kept hi)
          where
            go : (up t hi ≡ up s hi) ⊎ Shut G t hi → hi < G.places → (G.label hi ≡ G.label (up t hi)) × Pairs (Eqv t) (G.args hi) (G.args (up t hi))
            go (inl k) l =
                let z : up t hi ≡ lo = k ∙ up_hi r d hi lo fits rhi less in
                rw z (sym e, pairs_flip (Eqv t) (Eqv t) (λ a b q. sym q) (G.args lo) (G.args hi) p)
            go (inr k) l = k l

    -- two symbols that differ
    pub unite_clash : hi < G.places → (G.label lo ≡ G.label hi → ⊥) → (θ : ℕ → Term) → Same G θ lo hi → ⊥
    unite_clash v n θ q = n (same_label G θ lo hi (omega arith) v q)

  -- the merging of two nodes is that of their roots
  pub from_roots : (r s : List ℕ) → Down r → (i j : ℕ) (c : Bool) → Answer r s (find r i) (find r j) c → Answer r s i j c
  from_roots r s d i j false h = λ θ k e. h θ k (sym (resp_find G θ r k i) ∙ e ∙ resp_find G θ r k j)
  from_roots r s d i j true h = (
    step_trans G (λ θ k e. (sym (resp_find G θ r k i) ∙ e ∙ resp_find G θ r k j, tt)) h.0 (step_refl G s (λ θ. Unit {0}) h.0.down),
    grows r s h.0.grow i (find r i) (sym (find_twice r d i)) ∙ h.1 ∙ grows r s h.0.grow (find r j) j (find_twice r d j),
  )

  pub swapped : (r s : List ℕ) (i j : ℕ) (c : Bool) → Answer r s j i c → Answer r s i j c
  swapped r s i j false h = λ θ k e. h θ k (sym e)
  swapped r s i j true h = (step_trans G (λ θ k e. (sym e, tt)) h.0 (step_refl G s (λ θ. Unit {0}) h.0.down), sym h.1)

  pub in_find : (r : List ℕ) → Down r → (i : ℕ) → In i → In (find r i)
  in_find r d i l = let z = find_le r d i in omega arith
