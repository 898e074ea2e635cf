-- Well-formed rules combine to well-formed rules, and so every record of a run is well-formed where the input is. Assumes nothing.
use Prim.Native.Nat.{ℕ, zero, suc, ◌+◌, ◌*◌}
use Rattle.std.proofs.Common.{◌∙◌, sym}
use Rattle.std.specs.Prelude.{Bool, ◌≡◌, eqb}
use Rattle.std.proofs.Math.Bool.{true, false}
use Rattle.std.proofs.Math.Option.{Option, none, some}
use mathlib.Core.List.{List, [], ◌∷◌, ◌++◌, map}
use Rattle.std.proofs.Math.Path.{refl, ap, ap₂, subst}
use Rattle.model.specs.Term.{Term, var, con, ◌·◌, sub, occurs, bind1, Diff, agree, clash, bind, diff, mgu, unknowns, unify, apply, Bindings}
use Rattle.model.specs.Rule.{Rule, sub_rule, vars_of, place, renumber, among, firsts, drop_copies, normal, nth, without, left, right, resolvent, by_unifier, upon, combine}
use Rattle.model.specs.Sign.{Signature, given, wants, fact_wants, whole, is_term, is_fact, are_facts, well_formed}
use Rattle.theory.specs.Basics.{no_confusion, both_true, true_both}
use Rattle.theory.specs.Mend.{wants_sub, wants_left, wants_right, fact_wants_left, fact_wants_right, is_fact_wants}

module _ (S : Signature) where
  -- ---- substitutions by whole terms
  abbrev pub Wholes : (ℕ → Term) → Type 0
  Wholes σ = (x : ℕ) → is_term S (σ x) ≡ true

  pub fact_wants_sub : (σ : ℕ → Term) → Wholes σ → (t : Term) (n : ℕ) → fact_wants S t ≡ some n → fact_wants S (sub σ t) ≡ some n
  unfolding fact_wants sub
  fact_wants_sub σ w (var x) n e = no_confusion (cc)
  fact_wants_sub σ w (con p) n e = e
  fact_wants_sub σ w (a · b) n e =
      ap₂ given (fact_wants_sub σ w a (suc n) (fact_wants_left S a b n e)) (wants_sub S σ w b ∙ fact_wants_right S a b n e)
      ∙ given_one n
    where
      given_one : (n : ℕ) → given (some (suc n)) (some 0) ≡ some n
      given_one n = unfold given in refl

  pub is_fact_sub : (σ : ℕ → Term) → Wholes σ → (t : Term) → is_fact S t ≡ true → is_fact S (sub σ t) ≡ true
  unfolding is_fact whole
  is_fact_sub σ w t e = ap whole (fact_wants_sub σ w t 0 (is_fact_wants S t e))

  pub are_facts_sub : (σ : ℕ → Term) → Wholes σ → (l : List Term) → are_facts S l ≡ true → are_facts S (map (sub σ) l) ≡ true
  unfolding are_facts
  are_facts_sub σ w [] e = refl
  are_facts_sub σ w (t ∷ l) e =
      let z = both_true (is_fact S t) (are_facts S l) e in
      true_both (is_fact S (sub σ t)) (are_facts S (map (sub σ) l)) (is_fact_sub σ w t z.0) (are_facts_sub σ w l z.1)

  var_whole : (x : ℕ) → is_term S (var x) ≡ true
  unfolding is_term wants whole
  var_whole x = refl

  -- ---- the first difference of two terms that lack as many arguments: what is bound is whole
  abbrev Binds : Diff → Type 0
  Binds agree = Unit {0}
  Binds clash = Unit {0}
  Binds (bind x u) = is_term S u ≡ true

  binds_app : (r k : Diff) → Binds r → Binds k → Binds (elim r [ agree ↦ k | clash ↦ clash | bind x u ↦ bind x u ])
  binds_app agree k h z = z
  binds_app clash k h z = tt
  binds_app (bind x u) k h z = h

  wants_zero : (t : Term) (n : ℕ) (x : ℕ) → wants S (var x) ≡ some n → wants S t ≡ some n → is_term S t ≡ true
  unfolding wants is_term whole
  wants_zero t n x e f = let z : 0 ≡ n = cc in ap whole (f ∙ ap some (sym z))

  diff_binds : (s t : Term) (n : ℕ) → wants S s ≡ some n → wants S t ≡ some n → Binds (diff s t)
  unfolding diff
  diff_binds (var x) (var y) n e f = go (eqb x y)
    where
      go : (c : Bool) → Binds (elim c [ true ↦ agree | false ↦ bind x (var y) ])
      go true = tt
      go false = var_whole y
  diff_binds (var x) (con g) n e f = wants_zero (con g) n x e f
  diff_binds (var x) (c · d) n e f = wants_zero (c · d) n x e f
  diff_binds (con f) (var y) n e h = wants_zero (con f) n y h e
  diff_binds (con f) (con g) n e h = go (eqb f g)
    where
      go : (c : Bool) → Binds (elim c [ true ↦ agree | false ↦ clash ])
      go true = tt
      go false = tt
  diff_binds (con f) (c · d) n e h = tt
  diff_binds (a · b) (var y) n e h = wants_zero (a · b) n y h e
  diff_binds (a · b) (con g) n e h = tt
  diff_binds (a · b) (c · d) n e h =
      binds_app (diff a c) (diff b d) (diff_binds a c (suc n) (wants_left S a b n e) (wants_left S c d n h)) (diff_binds b d 0 (wants_right S a b n e) (wants_right S c d n h))

  fact_binds : (s t : Term) (n : ℕ) → fact_wants S s ≡ some n → fact_wants S t ≡ some n → Binds (diff s t)
  unfolding diff fact_wants
  fact_binds (var x) t n e f = no_confusion (cc)
  fact_binds (con f) (var y) n e h = no_confusion (cc)
  fact_binds (con f) (con g) n e h = go (eqb f g)
    where
      go : (c : Bool) → Binds (elim c [ true ↦ agree | false ↦ clash ])
      go true = tt
      go false = tt
  fact_binds (con f) (c · d) n e h = tt
  fact_binds (a · b) (var y) n e h = no_confusion (cc)
  fact_binds (a · b) (con g) n e h = tt
  fact_binds (a · b) (c · d) n e h =
      binds_app (diff a c) (diff b d) (fact_binds a c (suc n) (fact_wants_left S a b n e) (fact_wants_left S c d n h)) (diff_binds b d 0 (fact_wants_right S a b n e) (fact_wants_right S c d n h))

  -- ---- the unifier of two facts binds whole terms
  bind_whole : (x : ℕ) (u : Term) → is_term S u ≡ true → Wholes (bind1 x u)
  unfolding bind1
  bind_whole x u e y = go (eqb x y)
    where
      go : (c : Bool) → is_term S (elim c [ true ↦ u | false ↦ var y ]) ≡ true
      go true = e
      go false = var_whole y

  AllWhole : Bindings → Type 0
  AllWhole [] = Unit {0}
  AllWhole (p ∷ m) = (is_term S p.1 ≡ true) × AllWhole m

  abbrev Answers : Option Bindings → Type 0
  Answers none = Unit {0}
  Answers (some m) = AllWhole m

  after_bind : (x : ℕ) (u : Term) → is_term S u ≡ true → (o : Option Bindings) → Answers o → Answers (elim o [ none ↦ none | some m ↦ some ((x, u) ∷ m) ])
  unfolding AllWhole
  after_bind x u e none h = tt
  after_bind x u e (some m) h = (e, h)

  mgu_whole : (k : ℕ) (s t : Term) (n : ℕ) → fact_wants S s ≡ some n → fact_wants S t ≡ some n → Answers (mgu k s t)
  unfolding mgu AllWhole
  mgu_whole zero s t n e f = go (diff s t)
    where
      go : (d : Diff) → Answers (elim d [ agree ↦ some [] | clash ↦ none | bind x u ↦ some [] ])
      go agree = tt
      go clash = tt
      go (bind x u) = tt
  mgu_whole (suc k) s t n e f = go (diff s t) (fact_binds s t n e f) (λ x u w. mgu_whole k (sub (bind1 x u) s) (sub (bind1 x u) t) n (fact_wants_sub (bind1 x u) (bind_whole x u w) s n e) (fact_wants_sub (bind1 x u) (bind_whole x u w) t n f))
    where
      test : (x : ℕ) (u : Term) → is_term S u ≡ true → Answers (mgu k (sub (bind1 x u) s) (sub (bind1 x u) t)) → (c : Bool) → Answers (elim c [ true ↦ none | false ↦ elim (mgu k (sub (bind1 x u) s) (sub (bind1 x u) t)) [ none ↦ none | some m ↦ some ((x, u) ∷ m) ] ])
      test x u w h true = tt
      test x u w h false = after_bind x u w (mgu k (sub (bind1 x u) s) (sub (bind1 x u) t)) h

      go :
          (d : Diff) → Binds d → ((x : ℕ) (u : Term) → is_term S u ≡ true → Answers (mgu k (sub (bind1 x u) s) (sub (bind1 x u) t)))
          → Answers (
          elim d [
            | agree ↦ some []
            | clash ↦ none
            | bind x u ↦ elim (occurs x u) [ true ↦ none | false ↦ elim (mgu k (sub (bind1 x u) s) (sub (bind1 x u) t)) [ none ↦ none | some m ↦ some ((x, u) ∷ m) ] ]
          ])
      go agree h rec = tt
      go clash h rec = tt
      go (bind x u) h rec = test x u h (rec x u h) (occurs x u)

  apply_fact : (m : Bindings) → AllWhole m → (t : Term) → is_fact S t ≡ true → is_fact S (apply m t) ≡ true
  unfolding AllWhole apply
  apply_fact [] w t e = e
  apply_fact (p ∷ m) w t e = apply_fact m w.1 (sub (bind1 p.0 p.1) t) (is_fact_sub (bind1 p.0 p.1) (bind_whole p.0 p.1 w.0) t e)

  apply_facts : (m : Bindings) → AllWhole m → (l : List Term) → are_facts S l ≡ true → are_facts S (map (apply m) l) ≡ true
  unfolding are_facts
  apply_facts m w [] e = refl
  apply_facts m w (t ∷ l) e =
      let z = both_true (is_fact S t) (are_facts S l) e in
      true_both (is_fact S (apply m t)) (are_facts S (map (apply m) l)) (apply_fact m w t z.0) (apply_facts m w l z.1)

  -- ---- lists of facts
  facts_append : (a b : List Term) → are_facts S a ≡ true → are_facts S b ≡ true → are_facts S (a ++ b) ≡ true
  unfolding are_facts
  facts_append [] b e f = f
  facts_append (t ∷ a) b e f = let z = both_true (is_fact S t) (are_facts S a) e in true_both (is_fact S t) (are_facts S (a ++ b)) z.0 (facts_append a b z.1 f)

  facts_without : (l : List Term) (k : ℕ) → are_facts S l ≡ true → are_facts S (without l k) ≡ true
  unfolding are_facts without
  facts_without [] k e = refl
  facts_without (t ∷ l) zero e = (both_true (is_fact S t) (are_facts S l) e).1
  facts_without (t ∷ l) (suc k) e = let z = both_true (is_fact S t) (are_facts S l) e in true_both (is_fact S t) (are_facts S (without l k)) z.0 (facts_without l k z.1)

  facts_firsts : (seen l : List Term) → are_facts S l ≡ true → are_facts S (firsts seen l) ≡ true
  unfolding are_facts firsts
  facts_firsts seen [] e = refl
  facts_firsts seen (t ∷ l) e = let z = both_true (is_fact S t) (are_facts S l) e in go z.0 (among t seen) (facts_firsts seen l z.1) (facts_firsts (t ∷ seen) l z.1)
    where
      go : is_fact S t ≡ true → (c : Bool) → are_facts S (firsts seen l) ≡ true → are_facts S (firsts (t ∷ seen) l) ≡ true → are_facts S (elim c [ true ↦ firsts seen l | false ↦ t ∷ firsts (t ∷ seen) l ]) ≡ true
      go w true h k = h
      go w false h k = true_both (is_fact S t) (are_facts S (firsts (t ∷ seen) l)) w k

  nth_fact : (l : List Term) (k : ℕ) (h : Term) → nth l k ≡ some h → are_facts S l ≡ true → is_fact S h ≡ true
  unfolding nth are_facts
  nth_fact [] k h e w = no_confusion (cc)
  nth_fact (t ∷ l) zero h e w = let z : t ≡ h = cc in subst (λ (u : Term). is_fact S u ≡ true) z (both_true (is_fact S t) (are_facts S l) w).0
  nth_fact (t ∷ l) (suc k) h e w = nth_fact l k h e (both_true (is_fact S t) (are_facts S l) w).1

  -- ---- rules
  pub formed_concl : (r : Rule) → well_formed S r ≡ true → is_fact S r.concl ≡ true
  unfolding well_formed
  formed_concl r w = (both_true (is_fact S r.concl) (are_facts S r.hyps) w).0

  pub formed_hyps : (r : Rule) → well_formed S r ≡ true → are_facts S r.hyps ≡ true
  unfolding well_formed
  formed_hyps r w = (both_true (is_fact S r.concl) (are_facts S r.hyps) w).1

  pub formed_of : (r : Rule) → is_fact S r.concl ≡ true → are_facts S r.hyps ≡ true → well_formed S r ≡ true
  unfolding well_formed
  formed_of r a b = true_both (is_fact S r.concl) (are_facts S r.hyps) a b

  pub formed_sub : (σ : ℕ → Term) → Wholes σ → (r : Rule) → well_formed S r ≡ true → well_formed S (sub_rule σ r) ≡ true
  unfolding sub_rule
  formed_sub σ w r e = formed_of (sub_rule σ r) (is_fact_sub σ w r.concl (formed_concl r e)) (are_facts_sub σ w r.hyps (formed_hyps r e))

  pub formed_normal : (r : Rule) → well_formed S r ≡ true → well_formed S (normal r) ≡ true
  unfolding normal renumber drop_copies
  formed_normal r e =
      formed_sub (λ x. var (suc (place x (vars_of (drop_copies r))))) (λ x. var_whole (suc (place x (vars_of (drop_copies r))))) (drop_copies r)
      (formed_of (drop_copies r) (formed_concl r e) (facts_firsts [] r.hyps (formed_hyps r e)))

  formed_unified : (a b : Rule) (k : ℕ) → well_formed S a ≡ true → well_formed S b ≡ true → (o : Option Bindings) → Answers o → (n : Rule) → by_unifier a b k o ≡ some n → well_formed S n ≡ true
  unfolding by_unifier resolvent
  formed_unified a b k wa wb none h n e = no_confusion (cc)
  formed_unified a b k wa wb (some m) h n e =
      let z : normal (resolvent a b k m) ≡ n = cc in
      subst (λ (r : Rule). well_formed S r ≡ true) z
      (formed_normal (resolvent a b k m)
      (formed_of (resolvent a b k m) (apply_fact m h b.concl (formed_concl b wb))
      (apply_facts m h (a.hyps ++ without b.hyps k) (facts_append a.hyps (without b.hyps k) (formed_hyps a wa) (facts_without b.hyps k (formed_hyps b wb))))))

  pub formed_combine : (r r' : Rule) (k : ℕ) (n : Rule) → well_formed S r ≡ true → well_formed S r' ≡ true → combine r r' k ≡ some n → well_formed S n ≡ true
  unfolding combine upon left right unify
  formed_combine r r' k n w w' e = go (nth (right r').hyps k) refl e
    where
      wl : well_formed S (left r) ≡ true
      wl = formed_sub (λ x. var (2 * x)) (λ x. var_whole (2 * x)) r w

      wr : well_formed S (right r') ≡ true
      wr = formed_sub (λ x. var (2 * x + 1)) (λ x. var_whole (2 * x + 1)) r' w'

      go : (o : Option Term) → nth (right r').hyps k ≡ o → upon (left r) (right r') k o ≡ some n → well_formed S n ≡ true
      go none p q = no_confusion (cc)
      go (some f) p q =
          formed_unified (left r) (right r') k wl wr (unify (left r).concl f)
          (mgu_whole (unknowns (left r).concl f) (left r).concl f 0 (is_fact_wants S (left r).concl (formed_concl (left r) wl)) (is_fact_wants S f (nth_fact (right r').hyps k f p (formed_hyps (right r') wr))))
          n q
