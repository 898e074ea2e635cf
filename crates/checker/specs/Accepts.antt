-- What the checker's answer on bytes means: accepted exactly where the input is good, every step has its form and follows, and the last concludes the query. Assumes nothing.
use Prim.Native.Nat.{ℕ, zero, suc, ◌+◌, ◌/◌}
use Rattle.std.proofs.Common.{subst}
use Rattle.std.specs.Prelude.{Bool, ◌↔◌, length, take, drop, Result, Ok, Err}
use Rattle.std.proofs.Math.Bool.{true, false}
use Rattle.std.proofs.Math.Option.{Option, none, some}
use mathlib.Core.List.{List, [], ◌∷◌, ◌++◌}
use Rattle.std.proofs.Math.Path.{◌≡◌, refl}
use Rattle.model.specs.Term.{both}
use Rattle.model.specs.Rule.{Rule}
use Rattle.model.specs.Write.{Step}
use Rattle.model.specs.Check.{good_step, ends}
use Rattle.model.specs.Derive.{Closed, Input as InTable, Derives}
use Rattle.theory.specs.Basics.{true≢false, no_confusion, true_both}
use Rattle.theory.specs.Checks.{Follows, AllFollow, next, Last, GoodOk, good_ok, EndsOk, ends_ok, follow_derives}
use Rattle.records.specs.Rules.{decode_rules, decode_query}
use Rattle.records.specs.Input.{input_of}
use Rattle.records.specs.declared.Refusal.{Refusal}
use Rattle.checker.specs.declared.Rejected.TheVariants.{Input, Length, Step as BadStep, End}
use Rattle.checker.specs.Steps.{Checked, fact_place, decode_step, decode_steps, form_good, first_bad_step, steps_length, judged, check_good, check_of}

-- Each of m steps has a good form.
abbrev pub AllFormed : List ℕ → ℕ → ℕ → ℕ → List ℕ → ℕ → List ℕ → Type 0
AllFormed sy h T n ru zero l = Unit {0}
AllFormed sy h T n ru (suc m) l = (form_good sy h T n ru (take (fact_place h + T) l) ≡ true) × AllFormed sy h T n ru m (drop (fact_place h + T) l)

good_follows : (rs : List Rule) (ss : List Step) (s : Step) → good_step rs ss s ≡ true → Follows rs ss s
good_follows rs ss s e = subst (GoodOk rs ss s) e (good_ok rs ss s)

follows_good : (rs : List Rule) (ss : List Step) (s : Step) → Follows rs ss s → good_step rs ss s ≡ true
follows_good rs ss s f = go (good_step rs ss s) (good_ok rs ss s)
  where
    go : (c : Bool) → GoodOk rs ss s c → c ≡ true
    go true h = refl
    go false h = absurd (h f)

module _ (sy : List ℕ) (h T : ℕ) (ru : List ℕ) (rs : List Rule) where
  abbrev step : List ℕ → Step
  step l = decode_step sy h (take (fact_place h + T) l)

  none_bad : (m : ℕ) (ss : List Step) (l : List ℕ) → first_bad_step sy h T ru rs ss m l ≡ none → AllFormed sy h T (length rs) ru m l × AllFollow rs ss (decode_steps sy h T m l)
  unfolding first_bad_step decode_steps
  none_bad zero ss l e = (tt, AllFollow.none)
  none_bad (suc m) ss l e = go (form_good sy h T (length rs) ru (take (fact_place h + T) l)) refl (good_step rs ss (step l)) refl e (none_bad m (ss ++ (step l ∷ [])) (drop (fact_place h + T) l))
    where
      go :
          (c : Bool) → form_good sy h T (length rs) ru (take (fact_place h + T) l) ≡ c → (d : Bool) → good_step rs ss (step l) ≡ d
          → ◌≡◌ {A = Option ℕ} (elim (both c d) [ false ↦ some (length ss) | true ↦ first_bad_step sy h T ru rs (ss ++ (step l ∷ [])) m (drop (fact_place h + T) l) ]) none
          → (first_bad_step sy h T ru rs (ss ++ (step l ∷ [])) m (drop (fact_place h + T) l) ≡ none
          → AllFormed sy h T (length rs) ru m (drop (fact_place h + T) l) × AllFollow rs (ss ++ (step l ∷ [])) (decode_steps sy h T m (drop (fact_place h + T) l)))
          → ((form_good sy h T (length rs) ru (take (fact_place h + T) l) ≡ true) × AllFormed sy h T (length rs) ru m (drop (fact_place h + T) l)) × AllFollow rs ss (step l ∷ decode_steps sy h T m (drop (fact_place h + T) l))
      go true p true q e rec = let w = rec (unfold both in e) in ((p, w.0), next (good_follows rs ss (step l) q) w.1)
      go true p false q e rec = no_confusion (unfold both in (cc))
      go false p d q e rec = no_confusion (unfold both in (cc))

  bad_none : (m : ℕ) (ss : List Step) (l : List ℕ) → AllFormed sy h T (length rs) ru m l → AllFollow rs ss (decode_steps sy h T m l) → first_bad_step sy h T ru rs ss m l ≡ none
  unfolding first_bad_step decode_steps
  bad_none zero ss l F A = refl
  bad_none (suc m) ss l F (next f A) =
      goes (both (form_good sy h T (length rs) ru (take (fact_place h + T) l)) (good_step rs ss (step l))) (true_both _ _ F.0 (follows_good rs ss (step l) f))
      (bad_none m (ss ++ (step l ∷ [])) (drop (fact_place h + T) l) F.1 A)
    where
      goes : (c : Bool) → c ≡ true → {o : Option ℕ} → o ≡ none → ◌≡◌ {A = Option ℕ} (elim c [ false ↦ some (length ss) | true ↦ o ]) none
      goes true e q = q
      goes false e q = true≢false e refl

module _ (h T v most : ℕ) (sy ru qu st : List ℕ) where
  abbrev rules : List Rule
  rules = decode_rules sy (T + 8) (length ru / (T + 8)) ru

  abbrev steps : List Step
  steps = decode_steps sy h T (length st / (fact_place h + T)) st

  -- What is asked of bytes that are accepted.
  pub record Right : Type 0 where
    pub good : input_of h T v sy ru qu ≡ Ok tt
    pub counted : steps_length h T most (length st) ≡ true
    pub formed : AllFormed sy h T (length rules) ru (length st / (fact_place h + T)) st
    pub follow : AllFollow rules [] steps
    pub last : Last (decode_query sy qu) steps

  judged_right : judged sy h T ru rules (decode_query sy qu) (length st / (fact_place h + T)) st ≡ Ok tt → AllFormed sy h T (length rules) ru (length st / (fact_place h + T)) st × AllFollow rules [] steps × Last (decode_query sy qu) steps
  unfolding judged
  judged_right e = go (first_bad_step sy h T ru rules [] (length st / (fact_place h + T)) st) refl (ends (decode_query sy qu) steps) (ends_ok (decode_query sy qu) steps) e
    where
      go :
          (o : Option ℕ) → first_bad_step sy h T ru rules [] (length st / (fact_place h + T)) st ≡ o → (c : Bool) → EndsOk (decode_query sy qu) steps c
          → elim o as (λ _. Checked) [ some i ↦ Err (BadStep i) | none ↦ elim c [ true ↦ Ok tt | false ↦ Err End ] ] ≡ Ok tt
          → AllFormed sy h T (length rules) ru (length st / (fact_place h + T)) st × AllFollow rules [] steps × Last (decode_query sy qu) steps
      go (some i) b c k e = no_confusion (cc)
      go none b false k e = no_confusion (cc)
      go none b true k e = let w = none_bad sy h T ru rules (length st / (fact_place h + T)) [] st b in (w.0, w.1, k)

  accepted_right : check_of h T v most sy ru qu st ≡ Ok tt → Right
  unfolding check_of check_good
  accepted_right e = go (input_of h T v sy ru qu) refl (steps_length h T most (length st)) refl e
    where
      go :
          (i : Result Unit Refusal) → input_of h T v sy ru qu ≡ i → (c : Bool) → steps_length h T most (length st) ≡ c
          → elim i as (λ _. Checked) [ Err r ↦ Err (Input r) | Ok u ↦ elim c [ false ↦ Err Length | true ↦ judged sy h T ru rules (decode_query sy qu) (length st / (fact_place h + T)) st ] ] ≡ Ok tt → Right
      go (Err r) p c q e = no_confusion (cc)
      go (Ok x) p false q e = no_confusion (cc)
      go (Ok x) p true q e = let w = judged_right e in record { good = p; counted = q; formed = w.0; follow = w.1; last = w.2 }

  ends_true : Last (decode_query sy qu) steps → ends (decode_query sy qu) steps ≡ true
  ends_true l = go (ends (decode_query sy qu) steps) (ends_ok (decode_query sy qu) steps)
    where
      go : (c : Bool) → EndsOk (decode_query sy qu) steps c → c ≡ true
      go true k = refl
      go false k = absurd (k l)

  right_accepted : Right → check_of h T v most sy ru qu st ≡ Ok tt
  unfolding check_of check_good judged
  right_accepted R =
      go (input_of h T v sy ru qu) R.good (steps_length h T most (length st)) R.counted
      (first_bad_step sy h T ru rules [] (length st / (fact_place h + T)) st) (bad_none sy h T ru rules (length st / (fact_place h + T)) [] st R.formed R.follow)
      (ends (decode_query sy qu) steps) (ends_true R.last)
    where
      go :
          (i : Result Unit Refusal) → i ≡ Ok tt → (c : Bool) → c ≡ true → (o : Option ℕ) → o ≡ none → (d : Bool) → d ≡ true
          → elim i as (λ _. Checked) [ Err r ↦ Err (Input r) | Ok u ↦ elim c [ false ↦ Err Length | true ↦ elim o [ some k ↦ Err (BadStep k) | none ↦ elim d [ true ↦ Ok tt | false ↦ Err End ] ] ] ] ≡ Ok tt
      go (Err r) p c q o u d w = no_confusion (cc)
      go (Ok x) p false q o u d w = true≢false q refl
      go (Ok x) p true q (some k) u d w = no_confusion (cc)
      go (Ok x) p true q none u false w = true≢false w refl
      go (Ok x) p true q none u true w = refl

  -- Accepted exactly where it should be.
  pub check_exactly : (check_of h T v most sy ru qu st ≡ Ok tt) ↔ Right
  check_exactly = (accepted_right, right_accepted)

  -- An accepted list is a derivation of the query from the rules of the table.
  pub check_derives : check_of h T v most sy ru qu st ≡ Ok tt → (n : ℕ) × Derives Closed (InTable rules) n (decode_query sy qu)
  check_derives e = let R = accepted_right e in follow_derives rules (decode_query sy qu) steps R.follow R.last
