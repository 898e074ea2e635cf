-- Writing a derivation: from the successful goal back to the input rules. Assumes nothing.
use Rattle.std.specs.Prelude.{ℕ, zero, suc, ◌+◌, ◌*◌, Bool, true, false, List, [], ◌∷◌, ◌++◌, map, leb, length}
use Rattle.std.proofs.Math.Option.{Option, none, some}
use Rattle.model.specs.Term.{Term, var, con, ◌·◌, sub, same, size, elem, Bindings, apply, unify}
use Rattle.model.specs.Rule.{Rule, Limits, vars_of, place, drop_copies, nth, left, right, resolvent}
use Rattle.model.specs.Table.{input, combined, asked, Rec, rec_at, steps_full, fact_large, found, lack, Progress, going, stopped, and_then}

-- A step: an input rule, the earlier steps for its hypotheses in order, repeats included, and the closed fact that it concludes.
pub record Step : Type 0 where
  pub by : ℕ
  pub uses : List ℕ
  pub fact : Term

-- ---- the filler
-- The first symbol without arguments among the arguments of a term.
unfoldable pub constant : Term → Option Term
constant (var x) = none
constant (con f) = none
constant (a · var x) = constant a
constant (a · con c) = elim (constant a) [ some u ↦ some u | none ↦ some (con c) ]
constant (a · (c · d)) = elim (constant a) [ some u ↦ some u | none ↦ constant (c · d) ]

unfoldable pub or_else : {A : Type 0} → A → Option A → A
or_else a none = a
or_else a (some b) = b

-- The filler is the query's first such symbol; a closed fact has one.
unfoldable pub filler : Term → Term
filler q = or_else (con 0) (constant q)

-- ---- the values of parents
abbrev pub empty_rule : Rule
empty_rule = record { concl = con 0; hyps = [] }

unfoldable pub rule_at : List Rule → ℕ → Option Rule
rule_at [] i = none
rule_at (r ∷ rs) zero = some r
rule_at (r ∷ rs) (suc i) = rule_at rs i

unfoldable pub rule_of : Option Rec → Rule
rule_of none = empty_rule
rule_of (some x) = x.rule

-- From the values of renumbered variables those of the variables vs that they were; any other takes the filler.
unfoldable pub before : List ℕ → Term → (ℕ → Term) → ℕ → Term
before vs c θ x = elim (elem x vs) [ true ↦ θ (suc (place x vs)) | false ↦ c ]

unfoldable pub unifier_at : Rule → Option Term → Bindings
unifier_at a none = []
unifier_at a (some f) = or_else [] (unify a.concl f)

-- The values of both parents' variables, made different, that make them combine to the instance θ of their combination.
unfoldable pub parents : Term → Rule → Rule → ℕ → (ℕ → Term) → ℕ → Term
parents c r r' k θ =
    let m = unifier_at (left r) (nth (right r').hyps k) in
    let vs = vars_of (drop_copies (resolvent (left r) (right r') k m)) in
    λ z. sub (before vs c θ) (apply m (var z))

-- The values of an input rule's variables, from those of the record that it was loaded as.
unfoldable pub input_values : Term → Rule → (ℕ → Term) → ℕ → Term
input_values c r θ = before (vars_of (drop_copies r)) c θ

-- ---- steps
-- The number of the first step that concludes f, where the first step has number i.
unfoldable pub concluded : Term → List Step → ℕ → Option ℕ
concluded f [] i = none
concluded f (s ∷ ss) i = elim (same f s.fact) [ true ↦ some i | false ↦ concluded f ss (suc i) ]

unfoldable pub numbers : List Term → List Step → List ℕ
numbers [] ss = []
numbers (h ∷ hs) ss = or_else 0 (concluded h ss 0) ∷ numbers hs ss

-- Does no fact have more tokens than a step can hold?
unfoldable pub all_short : ℕ → List Term → Bool
all_short m [] = true
all_short m (t ∷ l) = elim (leb (size t) m) [ true ↦ all_short m l | false ↦ false ]

-- A step after the last: where none is free room lacks; where it concludes the query the writing ends.
unfoldable pub put_step : Bool → Bool → List Step → Step → Progress (List Step)
put_step true end ss s = stopped (lack steps_full) ss
put_step false true ss s = stopped found (ss ++ (s ∷ []))
put_step false false ss s = going (ss ++ (s ∷ []))

-- The step by input rule i, which is r, at the values σ.
unfoldable pub step_by : ℕ → Rule → (ℕ → Term) → List Step → Step
step_by i r σ ss = record { by = i; uses = numbers (map (sub σ) r.hyps) ss; fact = sub σ r.concl }

module _ (L : Limits) (rs : List Rule) (t g : List Rec) (query : Term) where
  unfoldable pub write_step : ℕ → Rule → (ℕ → Term) → List Step → Progress (List Step)
  write_step i r θ ss =
      let s = step_by i r (input_values (filler query) r θ) ss in
      put_step (leb L.max_steps (length ss)) (same s.fact query) ss s

  unfoldable pub write_input : ℕ → Option Rule → (ℕ → Term) → List Step → Progress (List Step)
  write_input i none θ ss = going ss
  write_input i (some r) θ ss = write_step i r θ ss

  -- Record i, of the goals or of the rules.
  unfoldable pub record' : Bool → ℕ → Option Rec
  record' true i = rec_at g i
  record' false i = rec_at t i

  -- The instance θ of record i. A goal's R is a rule and its R' a goal; n bounds the depth.
  unfoldable pub write : ℕ → Bool → ℕ → (ℕ → Term) → List Step → Progress (List Step)
  write zero goal i θ ss = going ss
  write (suc n) goal i θ ss =
      elim (record' goal i) [
        | none ↦ going ss
        | some x ↦
            elim (all_short L.max_tokens (map (sub θ) (x.rule.concl ∷ x.rule.hyps))) [
              | false ↦ stopped (lack fact_large) ss
              | true ↦
                  elim (concluded (sub θ x.rule.concl) ss 0) [
                    | some k ↦ going ss
                    | none ↦
                        elim x.origin [
                          | asked ↦ going ss
                          | input a ↦ write_input a (rule_at rs a) θ ss
                          | combined k a b ↦
                              let σ = parents (filler query) (rule_of (rec_at t a)) (rule_of (record' goal b)) k θ in
                              and_then (write n false a (λ y. σ (2 * y)) ss) (write n goal b (λ y. σ (2 * y + 1)))
                        ]
                  ]
            ]
      ]

  -- The successful goal is the last. A parent's number is below its child's, so the depth is at most the records' count.
  unfoldable pub derivation : ℕ → Progress (List Step)
  derivation zero = going []
  derivation (suc last) = write (length t + length g) true last (λ x. filler query) []
