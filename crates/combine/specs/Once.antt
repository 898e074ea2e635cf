-- What is read of a node is read in one way. Assumes nothing.
use Rattle.std.specs.Prelude.{ℕ, List, ◌∷◌, ◌≡◌, refl}
use Rattle.std.specs.Coded.{le_prop}
use native.Mathlib.Nat.{ℕ_set}
use Rattle.std.proofs.Common.{arith, sym, ◌∙◌, subst}
use mathlib.Core.Equiv.{id_equiv}
use Rattle.model.specs.Term.{Term, con}
use Rattle.records.specs.Tokens.{applied}
use Rattle.unify.specs.Forest.{Down, find}
use Rattle.unify.specs.Closure.{Graph}
use Rattle.unify.specs.Read.{Reads, rvar, rsym, ReadsAll, rnil, rcons}
use Rattle.unify.specs.Inside.{Read}
use Rattle.unify.specs.Nodes.{graph}
use Rattle.unify.specs.Facts.{facts}
use Rattle.combine.specs.Built.{Site}

-- whatever equals v does so in one way
alike : {A : Type 0} {v : A} (p q : (x : A) × (x ≡ v)) → p ≡ q
alike {A = A} {v = v} p q = ((id_equiv A).1 v).1 p ∙ sym (((id_equiv A).1 v).1 q)

module _ (G : Graph) (s : List ℕ) where
  abbrev All : List ℕ → Type 0
  All xs = (us : List Term) × ReadsAll G s xs us

  mutual
    one_read : {i : ℕ} {t u : Term} (h : Reads G s i t) (k : Reads G s i u) → ◌≡◌ {A = Read G s i} (t, h) (u, k)
    one_read {t = t} {u = u} (rvar v p) (rvar w q) = λ j. ((alike (t, p) (u, q) j).0, rvar (le_prop v w j) (alike (t, p) (u, q) j).1)
    one_read (rvar v p) (rsym w k q) = absurd (omega arith)
    one_read (rsym v h p) (rvar w q) = absurd (omega arith)
    one_read {i = i} {t = t} {u = u} (rsym {us = us} v h p) (rsym {us = vs} w k q) =
        subst
        (λ (z : All (G.args (find s i))). (y : (x : Term) × (x ≡ applied (con (G.label (find s i))) z.0)) → ◌≡◌ {A = Read G s i} (t, rsym v h p) (y.0, rsym w z.1 y.1))
        (all_read h k) (λ y. λ j. ((alike (t, p) y j).0, rsym (le_prop v w j) h (alike (t, p) y j).1)) (u, q)

    all_read : {xs : List ℕ} {us vs : List Term} (h : ReadsAll G s xs us) (k : ReadsAll G s xs vs) → ◌≡◌ {A = All xs} (us, h) (vs, k)
    all_read rnil rnil = refl
    all_read (rcons h k) (rcons h' k') = λ j. ((one_read h h' j).0 ∷ (all_read k k' j).0, rcons (one_read h h' j).1 (all_read k k' j).1)

-- a site is one in one way
pub one_site : (sy : List ℕ) (T : ℕ) (a b s : List ℕ) → IsProp (Site sy T a b s)
unfolding Down
one_site sy T a b s x y = λ j.
    record {
      given =
          record {
            small = le_prop x.given.small y.given.small j;
            len_a = ℕ_set _ _ x.given.len_a y.given.len_a j;
            len_b = ℕ_set _ _ x.given.len_b y.given.len_b j;
          };
      down = λ i. le_prop (x.down i) (y.down i) j;
      len = ℕ_set _ _ x.len y.len j;
      bytes = λ p. le_prop (x.bytes p) (y.bytes p) j;
      reads = λ i. one_read (graph sy (facts T a b)) s (x.reads i).1 (y.reads i).1 j;
    }
