-- What is derivable (Definition 2), over closed terms; which rules are valid, and which are harmless to skip. Assumes nothing.
use Rattle.std.specs.Prelude.{ℕ, suc, ◌+◌, ◌≤◌, true, List, [], ◌∷◌, map, ◌≡◌}
use Rattle.std.proofs.Math.Option.{some}
use Rattle.model.specs.Term.{Term, sub, closed}
use Rattle.model.specs.Rule.{Rule}
use Rattle.model.specs.Sign.{Signature, is_term}
use Rattle.model.specs.Write.{rule_at}

-- Which terms may stand for variables: closed ones, or closed ones that are well-formed.
abbrev pub Closed : Term → Type 0
Closed t = closed t ≡ true

abbrev pub Ground : Signature → Term → Type 0
Ground S t = (closed t ≡ true) × (is_term S t ≡ true)

-- A rule of the table.
abbrev pub Input : List Rule → Rule → Type 0
Input rs r = (i : ℕ) × (rule_at rs i ≡ some r)

mutual
  -- A tree of n nodes with f at its root: a rule of B, values for its variables, f its conclusion at these, and a tree for each of its hypotheses.
  pub data Derives (Value : Term → Type 0) (B : Rule → Type 0) : ℕ → Term → Type 0 where
    by :
        {n : ℕ} {f : Term} (r : Rule) (σ : ℕ → Term)
        → B r → ((x : ℕ) → Value (σ x)) → sub σ r.concl ≡ f → DerivesAll Value B n (map (sub σ) r.hyps) → Derives Value B (suc n) f

  pub data DerivesAll (Value : Term → Type 0) (B : Rule → Type 0) : ℕ → List Term → Type 0 where
    nil : DerivesAll Value B 0 []
    also : {n m k : ℕ} {f : Term} {fs : List Term} → Derives Value B n f → DerivesAll Value B m fs → k ≡ n + m → DerivesAll Value B k (f ∷ fs)

-- A rule is valid over B if each closed instance whose hypotheses derive from B has a conclusion that does.
abbrev pub Valid : (Rule → Type 0) → Rule → Type 0
Valid B r =
    (σ : ℕ → Term) → ((x : ℕ) → Closed (σ x)) → (n : ℕ) → DerivesAll Closed B n (map (sub σ) r.hyps)
    → (m : ℕ) × Derives Closed B m (sub σ r.concl)

-- .. and harmless over A if, from any rules that are valid over A, it does so with no larger tree than those of the hypotheses together.
abbrev pub Harmless : (Rule → Type 0) → Rule → Type 1
Harmless A r =
    (B : Rule → Type 0) → ((q : Rule) → B q → Valid A q)
    → (σ : ℕ → Term) → ((x : ℕ) → Closed (σ x)) → (n : ℕ) → DerivesAll Closed B n (map (sub σ) r.hyps)
    → (m : ℕ) × (m ≤ n) × Derives Closed B m (sub σ r.concl)
