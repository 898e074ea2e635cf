-- The theorems as a reader wants them: what the answers of a run mean, and what the checker's do. Assumes nothing.
use Rattle.std.specs.Prelude.{ℕ, ◌≤◌, true, false, List, [], ◌∷◌, ◌++◌, ◌≡◌, refl, ◌⊎◌, length}
use Rattle.std.proofs.Common.{arith, subst, sym, inl, inr}
use Rattle.std.proofs.Math.Option.{some}
use Rattle.model.specs.Term.{Term}
use Rattle.model.specs.Rule.{Rule, fits}
use Rattle.model.specs.Table.{Origin, rules_full, rule_large, goals_full, goal_large, steps_full, fact_large}
use Rattle.model.specs.Run.{Setting}
use Rattle.model.specs.Write.{Step, filler}
use Rattle.model.specs.Verify.{Answer, secret, derivable, room, cause_number, number, run, base}
use Rattle.model.specs.Check.{judge, accepted}
use Rattle.model.specs.Sign.{Signature, is_fact, well_formed}
use Rattle.model.specs.Derive.{Closed, Ground, Input, Derives}
use Rattle.theory.specs.Basics.{true≢false, no_confusion}
use Rattle.theory.specs.Sound.{D}
use Rattle.theory.specs.Secret.{secret_means}
use Rattle.theory.specs.Invariant.{Offers, OffersGoal}
use Rattle.theory.specs.Answers.{Full, Means, run_means, NoLack}
use Rattle.theory.specs.Checks.{Last, accepted_exactly}
use Rattle.theory.specs.Writes.{Lacked}
use Rattle.theory.specs.Mend.{mended, filler_ground}

-- ---- secret
-- The base skips nothing, so its answer needs no assumption.
pub base_secret : (rules goals steps : ℕ) (rs : List Rule) (f : Term) → (run (base rules goals steps) rs f).answer ≡ secret → (n : ℕ) → Derives Closed (Input rs) n f → ⊥
unfolding base
base_secret rules goals steps rs f e n d = secret_means (base rules goals steps) rs (λ r s. absurd (true≢false s refl)) f e n d

module _ (S : Setting) (rs : List Rule) (f : Term) (closed-f : Closed f) where
  meant : (a : Answer) → (run S rs f).answer ≡ a → Means S rs f closed-f (run S rs f) a
  meant a e = subst (Means S rs f closed-f (run S rs f)) e (run_means S rs f closed-f)

  -- ---- derivable
  -- An answer of number 1 or 9.
  abbrev pub Yes : Answer → Type 0
  Yes a = (number a ≡ 1) ⊎ (number a ≡ 9)

  yes_derives : (a : Answer) → Means S rs f closed-f (run S rs f) a → Yes a → D (Input rs) f
  unfolding number cause_number
  yes_derives secret m (inl e) = no_confusion (omega arith)
  yes_derives secret m (inr e) = no_confusion (omega arith)
  yes_derives derivable m y = m.1
  yes_derives (room rules_full) m (inl e) = no_confusion (omega arith)
  yes_derives (room rules_full) m (inr e) = no_confusion (omega arith)
  yes_derives (room rule_large) m (inl e) = no_confusion (omega arith)
  yes_derives (room rule_large) m (inr e) = no_confusion (omega arith)
  yes_derives (room goals_full) m (inl e) = no_confusion (omega arith)
  yes_derives (room goals_full) m (inr e) = no_confusion (omega arith)
  yes_derives (room goal_large) m (inl e) = no_confusion (omega arith)
  yes_derives (room goal_large) m (inr e) = no_confusion (omega arith)
  yes_derives (room steps_full) m y = m.1
  yes_derives (room fact_large) m y = m.1

  -- A derivation exists, by closed terms that keep to the arities, where the input does.
  pub derivable_means :
      (sig : Signature) → ((p : ℕ) → sig.predicate p ≡ some 0 → ⊥) → ((r : Rule) → Input rs r → well_formed sig r ≡ true) → is_fact sig f ≡ true
      → Yes (run S rs f).answer → (n : ℕ) × Derives (Ground sig) (Input rs) n f
  derivable_means sig bare well fact y =
      let d = yes_derives (run S rs f).answer (run_means S rs f closed-f) y in
      (d.0, mended sig rs well (filler f) (filler_ground sig bare f closed-f fact) d.1 fact)

  -- ---- the written list
  pub steps_accepted : (run S rs f).answer ≡ derivable → judge S.limits rs f (run S rs f).steps ≡ accepted
  steps_accepted e =
      let m = meant derivable e in
      let w = m.2.0 in
      (accepted_exactly S.limits rs f (run S rs f).steps).1 (nonempty m.2.1, w.count, w.follow, m.2.1)
    where
      nonempty : {ss : List Step} → Last f ss → 1 ≤ length ss
      nonempty {ss} (a, s, e, p) = subst (λ (l : List Step). 1 ≤ length l) (sym e) (longer a s)
        where
          longer : (a : List Step) (s : Step) → 1 ≤ length (a ++ (s ∷ []))
          longer [] s = omega arith
          longer (x ∷ a) s = omega arith

  -- ---- room
  -- A run that says secret lacked no room anywhere: no event of its histories is a lack of room.
  pub secret_lacks_none : (run S rs f).answer ≡ secret → NoLack (run S rs f).rules.history × NoLack (run S rs f).goals.history
  secret_lacks_none e = let m = meant secret e in (m.0.0.1, m.0.1.1)

  -- The occasion of each number from 5 to 9, in the tables as the run leaves them.
  pub occasion5 :
      (run S rs f).answer ≡ room rules_full
      → (q : Rule) × (o : Origin) × Offers S rs (run S rs f).rules.recs q o × Full S.limits S.limits.max_rules S.skips (run S rs f).rules.recs q
  occasion5 e = (meant (room rules_full) e).1

  pub occasion6 :
      (run S rs f).answer ≡ room rule_large
      → (q : Rule) × (o : Origin) × Offers S rs (run S rs f).rules.recs q o × (fits S.limits q ≡ false)
  occasion6 e = (meant (room rule_large) e).1

  pub occasion7 :
      (run S rs f).answer ≡ room goals_full
      → (q : Rule) × (o : Origin) × OffersGoal S (run S rs f).rules.recs f (run S rs f).goals.recs q o
      × Full S.limits S.limits.max_goals (λ r. false) (run S rs f).goals.recs q
  occasion7 e = (meant (room goals_full) e).1.1

  pub occasion8 :
      (run S rs f).answer ≡ room goal_large
      → (q : Rule) × (o : Origin) × OffersGoal S (run S rs f).rules.recs f (run S rs f).goals.recs q o × (fits S.limits q ≡ false)
  occasion8 e = (meant (room goal_large) e).1.1

  pub occasion9_full : (run S rs f).answer ≡ room steps_full → length (run S rs f).steps ≡ S.limits.max_steps
  occasion9_full e = let m = meant (room steps_full) e in omega (arith, m.2.0.count, m.2.1)

  pub occasion9_large : (run S rs f).answer ≡ room fact_large → Lacked S.limits rs (run S rs f).rules.recs (run S rs f).goals.recs f closed-f fact_large (run S rs f).steps
  occasion9_large e = (meant (room fact_large) e).2.1
