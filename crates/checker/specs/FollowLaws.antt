-- Testing the bytes of a step is the model's judgement of the decoded step. Assumes nothing.
use Prim.Native.Nat.{ℕ, zero, suc, ◌+◌, ◌*◌, ◌≤◌, ◌<◌}
use Rattle.std.proofs.Common.{arith, ◌∙◌, ltb-true, ltb-false}
use Rattle.std.specs.Prelude.{Bool, ◌≡◌, ltb, length, get_or}
use Rattle.std.proofs.Math.Bool.{true, false}
use Rattle.std.proofs.Math.Option.{Option, none, some}
use mathlib.Core.List.{List, [], ◌∷◌}
use Rattle.std.proofs.Math.Path.{refl, sym}
use Rattle.model.specs.Term.{Term, both, closed, Bindings}
use Rattle.model.specs.Rule.{Rule, match}
use Rattle.model.specs.Write.{Step, rule_at}
use Rattle.model.specs.Check.{fact_at as fact_at_step, facts_at, match_all, carries, follows_by, good_step}
use Rattle.model.specs.Sign.{Signature}
use Rattle.records.specs.TokenLaws.{Agrees}
use Rattle.terms.specs.Facts.{fact_at}
use Rattle.matching.specs.Match.{matched, onward, unbound}
use Rattle.matching.specs.FactLaws.{Facts, fmore, unbound_means, fact_ok}
use Rattle.matching.specs.MatchLaws.{Spine, Means, At}
use Rattle.checker.specs.Steps.{two, slots}
use Rattle.checker.specs.Follows.{uses_matched, follows_bytes}

-- the steps ss are those before step i, and their facts stand in the text
pub record Placed (ar : ℕ → ℕ) (S : Signature) (agrees : Agrees ar S) (size place : ℕ) (st : List ℕ) (ss : List Step) (i : ℕ) : Type 0 where
  pub before : (u : ℕ) → u < i → (f : Term) × (fact_at_step ss u ≡ some f) × At ar S agrees st (u * size + place) f × Spine ar S agrees 0 f
  pub after : (u : ℕ) → i ≤ u → fact_at_step ss u ≡ none

abbrev is : Option Bindings → Bool
is none = false
is (some b) = true

module _ (ar : ℕ → ℕ) (S : Signature) (agrees : Agrees ar S) (size place : ℕ) (rt st : List ℕ) (ss : List Step) where
  abbrev Uses : List Term → Option (List Term) → Bindings → Bool
  Uses hs o β = elim o [ none ↦ false | some fs ↦ is (match_all hs fs β) ]

  module _ (s : List ℕ) (i : ℕ) (P : Placed ar S agrees size place st ss i) where
    uses_ok : (n k : ℕ) (hs : List Term) → length hs ≡ n → Facts ar S agrees rt (suc k) hs → (b : List ℕ) (β : Bindings) → Means ar S agrees st b β → uses_matched ar size place rt st i s k n b ≡ Uses hs (facts_at ss (slots s k n)) β
    unfolding uses_matched facts_at slots match_all
    uses_ok zero k [] e F b β M = refl
    uses_ok zero k (h ∷ hs) e F b β M = absurd (omega arith)
    uses_ok (suc n) k [] e F b β M = absurd (omega arith)
    uses_ok (suc n) k (h ∷ hs) e (fmore q sh F) b β M = go (ltb (two s (4 + 2 * k)) i) refl (λ b' β' M'. uses_ok n (suc k) hs (omega arith) F b' β' M')
      where
        u : ℕ
        u = two s (4 + 2 * k)

        -- all of them, given the fact of the first
        rest : Option (List Term) → Term → Option Bindings → Bool
        rest o f none = false
        rest o f (some β') = Uses hs o β'

        join : (o : Option (List Term)) (f : Term) → rest o f (match h f β) ≡ Uses (h ∷ hs) (elim o [ none ↦ none | some fs ↦ some (f ∷ fs) ]) β
        join none f = first (match h f β)
          where
            first : (m : Option Bindings) → rest none f m ≡ false
            first none = refl
            first (some β') = refl
        join (some fs) f = first (match h f β)
          where
            first : (m : Option Bindings) → rest (some fs) f m ≡ is (elim m [ none ↦ none | some β' ↦ match_all hs fs β' ])
            first none = refl
            first (some β') = refl

        go :
            (c : Bool) → ltb u i ≡ c
            → ((b' : List ℕ) (β' : Bindings) → Means ar S agrees st b' β' → uses_matched ar size place rt st i s (suc k) n b' ≡ Uses hs (facts_at ss (slots s (suc k) n)) β')
            → elim c as (λ _. Bool) [ false ↦ false | true ↦ onward (matched ar (fact_at ar (suc k) rt) st (u * size + place) b) (uses_matched ar size place rt st i s (suc k) n) ]
            ≡ Uses (h ∷ hs) (elim (fact_at_step ss u) [ none ↦ none | some f ↦ elim (facts_at ss (slots s (suc k) n)) [ none ↦ none | some fs ↦ some (f ∷ fs) ] ]) β
        go false c rec = rw (P.after u (ltb-false u i c))
        go true c rec =
            let w = P.before u (ltb-true u i c) in
            rw w.1
            (fact_ok ar S agrees st h w.0 (u * size + place) b β M w.2 sh w.3 (fact_at ar (suc k) rt) q (uses_matched ar size place rt st i s (suc k) n) (rest (facts_at ss (slots s (suc k) n)) w.0) refl rec
            ∙ join (facts_at ss (slots s (suc k) n)) w.0)

  -- ---- one step
  onto : List Term → Option (List Term) → Option Bindings → Bool
  onto hs o none = false
  onto hs o (some β) = Uses hs o β

  onto_carries : (hs fs : List Term) (m : Option Bindings) → onto hs (some fs) m ≡ elim (elim m as (λ _. Option Bindings) [ none ↦ none | some β ↦ match_all hs fs β ]) [ none ↦ false | some b ↦ true ]
  unfolding onto
  onto_carries hs fs none = refl
  onto_carries hs fs (some β) = is_test (match_all hs fs β)
    where
      is_test : (m : Option Bindings) → is m ≡ elim m [ none ↦ false | some b ↦ true ]
      is_test none = refl
      is_test (some b) = refl

  onto_none : (hs : List Term) (m : Option Bindings) → onto hs none m ≡ false
  unfolding onto
  onto_none hs none = refl
  onto_none hs (some β) = refl

  onto_follows : (r : Rule) (f : Term) (o : Option (List Term)) → onto r.hyps o (match r.concl f []) ≡ follows_by (some r) f o
  unfolding follows_by carries match_all
  onto_follows r f none = onto_none r.hyps (match r.concl f [])
  onto_follows r f (some fs) = onto_carries r.hyps fs (match r.concl f [])

  good_step_lem : (rs : List Rule) (r : Rule) (step : Step) (us : List ℕ) → closed step.fact ≡ true → rule_at rs step.by ≡ some r → step.uses ≡ us → good_step rs ss step ≡ follows_by (some r) step.fact (facts_at ss us)
  unfolding good_step both
  good_step_lem rs r step us c n u = rw (c, n, u, both)

  -- A step follows by its bytes where it does in the model.
  pub follows_ok :
      (s : List ℕ) (i at : ℕ) → Placed ar S agrees size place st ss i → (rs : List Rule) (r : Rule) (step : Step) → rule_at rs step.by ≡ some r → step.uses ≡ slots s 0 (get_or s 2 0) → length r.hyps ≡ get_or s 2 0
      → Facts ar S agrees rt 0 (r.concl ∷ r.hyps) → closed step.fact ≡ true → At ar S agrees st (at + place) step.fact → Spine ar S agrees 0 step.fact
      → follows_bytes ar size place rt st i at s ≡ good_step rs ss step
  unfolding follows_bytes onto
  follows_ok s i at P rs r step named uses count (fmore q sh F) shut here shape =
      fact_ok ar S agrees st r.concl step.fact (at + place) unbound [] (unbound_means ar S agrees st) here sh shape (fact_at ar 0 rt) q (uses_matched ar size place rt st i s 0 (get_or s 2 0))
      (onto r.hyps (facts_at ss (slots s 0 (get_or s 2 0)))) refl
      (λ b β M. uses_ok s i P (get_or s 2 0) 0 r.hyps count F b β M)
      ∙ onto_follows r step.fact (facts_at ss (slots s 0 (get_or s 2 0)))
      ∙ sym (good_step_lem rs r step (slots s 0 (get_or s 2 0)) shut named uses)
