-- The nodes that one side gives: those of its hypotheses one after another, but for the one that is skipped. Assumes nothing.
use Rattle.std.specs.Prelude.{ℕ, zero, suc, ◌+◌, ◌-◌, ◌<◌, true, false, List, [], ◌∷◌, ◌++◌, ◌≡◌, refl, eqb, drop, Result, Ok, Err}
use Rattle.std.proofs.Common.{arith, append_assoc, append-nil, ap, ◌∙◌, sym, subst, eq-eqb, ne_eqb}
use Rattle.records.specs.Tokens.{span}
use Rattle.unify.specs.Nodes.{graph, node}
use Rattle.unify.specs.Inside.{Read}
use Rattle.combine.specs.declared.TooLarge.{TooLarge}
use Rattle.combine.specs.Built.{Built, Over, Outcome, over_more}

-- The nodes of m facts of the tokens from the place `at` on, but for the one whose place is `skip`; ts are the tokens of both records.
unfoldable pub visits : (ℕ → ℕ) → List ℕ → List ℕ → ℕ → ℕ → ℕ → ℕ → List ℕ
visits ar ts tokens base skip zero at = []
visits ar ts tokens base skip (suc m) at =
    elim (eqb (base + at) skip) [
      | true ↦ visits ar ts tokens base skip m (at + span ar 1 (drop at tokens))
      | false ↦ node ts (base + at) ∷ visits ar ts tokens base skip m (at + span ar 1 (drop at tokens))
    ]

pub visits_skip : (ar : ℕ → ℕ) (ts tokens : List ℕ) (base skip m at : ℕ) → eqb (base + at) skip ≡ true → visits ar ts tokens base skip (suc m) at ≡ visits ar ts tokens base skip m (at + span ar 1 (drop at tokens))
unfolding visits
visits_skip ar ts tokens base skip m at h = rw (h, visits)

pub visits_node : (ar : ℕ → ℕ) (ts tokens : List ℕ) (base skip m at : ℕ) → eqb (base + at) skip ≡ false → visits ar ts tokens base skip (suc m) at ≡ node ts (base + at) ∷ visits ar ts tokens base skip m (at + span ar 1 (drop at tokens))
unfolding visits
visits_node ar ts tokens base skip m at h = rw (h, visits)

-- Some nodes went in, and `rest` is to come, of what was to go in behind ns.
pub record Along (sy ts s : List ℕ) (T hyps : ℕ) (o starts : List ℕ) (e n : ℕ) (all rest ns : List ℕ) : Type 0 where
  pub nodes : List ℕ
  pub built : Built sy ts s T hyps o starts e n nodes
  pub whole : ns ++ all ≡ nodes ++ rest

module _ (ar : ℕ → ℕ) (ts tokens : List ℕ) (base skip m at d : ℕ) (l : 0 < m) (e : d ≡ span ar 1 (drop at tokens)) where
  less : m ≡ suc (m - 1)
  less = omega arith

  pub visit_skip : base + at ≡ skip → visits ar ts tokens base skip m at ≡ visits ar ts tokens base skip (m - 1) (at + d)
  visit_skip h =
      ap (λ (n : ℕ). visits ar ts tokens base skip n at) less
      ∙ visits_skip ar ts tokens base skip (m - 1) at (eq-eqb (base + at) skip h)
      ∙ ap (λ (n : ℕ). visits ar ts tokens base skip (m - 1) (at + n)) (sym e)

  pub visit_node : (base + at ≡ skip → ⊥) → visits ar ts tokens base skip m at ≡ node ts (base + at) ∷ visits ar ts tokens base skip (m - 1) (at + d)
  visit_node h =
      ap (λ (n : ℕ). visits ar ts tokens base skip n at) less
      ∙ visits_node ar ts tokens base skip (m - 1) at (ne_eqb (base + at) skip h)
      ∙ ap (λ (n : ℕ). node ts (base + at) ∷ visits ar ts tokens base skip (m - 1) (at + n)) (sym e)

pub visit_none : (ar : ℕ → ℕ) (ts tokens : List ℕ) (base skip at : ℕ) → visits ar ts tokens base skip 0 at ≡ []
unfolding visits
visit_none ar ts tokens base skip at = refl

-- ---- the loop's turns
module _ (sy ts s : List ℕ) (T hyps : ℕ) where
  pub along_skip : (o starts : List ℕ) (e n : ℕ) (all rest rest' ns : List ℕ) → rest ≡ rest' → Along sy ts s T hyps o starts e n all rest ns → Along sy ts s T hyps o starts e n all rest' ns
  along_skip o starts e n all rest rest' ns q A = record { nodes = A.nodes; built = A.built; whole = A.whole ∙ ap (A.nodes ++◌) q }

  module _ (o o' starts starts' : List ℕ) (e n e' n' : ℕ) (all rest rest' ns : List ℕ) (i : ℕ) (q : rest ≡ i ∷ rest') (A : Along sy ts s T hyps o starts e n all rest ns)
      (r : Result (Unit {0}) TooLarge) (R : (ms : List ℕ) → Built sy ts s T hyps o starts e n ms → Outcome sy ts s T hyps o' starts' e' n' (ms ++ (i ∷ [])) r)
    where
      shift : ns ++ all ≡ (A.nodes ++ (i ∷ [])) ++ rest'
      shift = A.whole ∙ ap (A.nodes ++◌) q ∙ sym (append_assoc A.nodes (i ∷ []) rest')

      pub along_went : (x : Unit {0}) → r ≡ Ok x → Along sy ts s T hyps o' starts' e' n' all rest' ns
      along_went x w =
          record {
            nodes = A.nodes ++ (i ∷ []);
            built = subst (Outcome sy ts s T hyps o' starts' e' n' (A.nodes ++ (i ∷ []))) w (R A.nodes A.built);
            whole = shift;
          }

      pub along_over : ((j : ℕ) → Read (graph sy ts) s j) → (x : TooLarge) → r ≡ Err x → Over sy ts s T hyps (ns ++ all)
      along_over reads x w =
          subst (Over sy ts s T hyps) (sym shift)
          (over_more sy ts s T hyps (A.nodes ++ (i ∷ [])) rest' reads (subst (Outcome sy ts s T hyps o' starts' e' n' (A.nodes ++ (i ∷ []))) w (R A.nodes A.built)))

  pub along_end : (o starts : List ℕ) (e n : ℕ) (all rest ns : List ℕ) → rest ≡ [] → Along sy ts s T hyps o starts e n all rest ns → Built sy ts s T hyps o starts e n (ns ++ all)
  along_end o starts e n all rest ns q A =
      subst (Built sy ts s T hyps o starts e n) (sym (A.whole ∙ ap (A.nodes ++◌) q ∙ append-nil A.nodes)) A.built
