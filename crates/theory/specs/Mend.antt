-- Terms that do not keep to the arities add nothing: a derivation that uses some can be mended. Assumes nothing.
use Prim.Native.Nat.{ℕ, zero, suc}
use Rattle.std.specs.Prelude.{Bool, ◌≡◌}
use Rattle.std.proofs.Math.Bool.{true, false}
use Rattle.std.proofs.Math.Option.{Option, none, some}
use mathlib.Core.List.{List, [], ◌∷◌, map}
use Rattle.std.proofs.Math.Path.{refl, ap, ap₂}
use Rattle.std.proofs.Common.{◌∙◌, subst, sym}
use Rattle.model.specs.Term.{Term, var, con, ◌·◌, sub, closed}
use Rattle.model.specs.Rule.{Rule}
use Rattle.model.specs.Sign.{Signature, given, wants, fact_wants, whole, is_term, is_fact, are_facts, well_formed}
use Rattle.model.specs.Write.{constant, or_else, filler}
use Rattle.model.specs.Derive.{Closed, Ground, Input, Derives, by, DerivesAll, nil, also}
use Rattle.theory.specs.Basics.{true≢false, no_confusion, both_true, true_both}
use Rattle.theory.specs.Subst.{sub_var, sub_all}
use Rattle.theory.specs.Closed.{closed_left, closed_right}

-- ---- what a term still wants
given_left : (o p : Option ℕ) (n : ℕ) → given o p ≡ some n → o ≡ some (suc n)
unfolding given
given_left none p n e = no_confusion (cc)
given_left (some zero) p n e = no_confusion (cc)
given_left (some (suc m)) none n e = no_confusion (cc)
given_left (some (suc m)) (some zero) n e = cc
given_left (some (suc m)) (some (suc k)) n e = no_confusion (cc)

given_right : (o p : Option ℕ) (n : ℕ) → given o p ≡ some n → p ≡ some 0
unfolding given
given_right none p n e = no_confusion (cc)
given_right (some zero) p n e = no_confusion (cc)
given_right (some (suc m)) none n e = no_confusion (cc)
given_right (some (suc m)) (some zero) n e = refl
given_right (some (suc m)) (some (suc k)) n e = no_confusion (cc)

whole_is : (o : Option ℕ) → whole o ≡ true → o ≡ some 0
unfolding whole
whole_is none e = true≢false e refl
whole_is (some zero) e = refl
whole_is (some (suc n)) e = true≢false e refl

module _ (S : Signature) where
  pub wants_left : (a b : Term) (n : ℕ) → wants S (a · b) ≡ some n → wants S a ≡ some (suc n)
  unfolding wants
  wants_left a b n e = given_left (wants S a) (wants S b) n e

  pub wants_right : (a b : Term) (n : ℕ) → wants S (a · b) ≡ some n → wants S b ≡ some 0
  unfolding wants
  wants_right a b n e = given_right (wants S a) (wants S b) n e

  pub fact_wants_left : (a b : Term) (n : ℕ) → fact_wants S (a · b) ≡ some n → fact_wants S a ≡ some (suc n)
  unfolding fact_wants
  fact_wants_left a b n e = given_left (fact_wants S a) (wants S b) n e

  pub fact_wants_right : (a b : Term) (n : ℕ) → fact_wants S (a · b) ≡ some n → wants S b ≡ some 0
  unfolding fact_wants
  fact_wants_right a b n e = given_right (fact_wants S a) (wants S b) n e

  pub is_term_wants : (t : Term) → is_term S t ≡ true → wants S t ≡ some 0
  unfolding is_term
  is_term_wants t e = whole_is (wants S t) e

  pub wants_is_term : (t : Term) → wants S t ≡ some 0 → is_term S t ≡ true
  unfolding is_term whole
  wants_is_term t e = ap whole e

  pub is_fact_wants : (t : Term) → is_fact S t ≡ true → fact_wants S t ≡ some 0
  unfolding is_fact
  is_fact_wants t e = whole_is (fact_wants S t) e

  pub wf_concl : (r : Rule) → well_formed S r ≡ true → is_fact S r.concl ≡ true
  unfolding well_formed
  wf_concl r e = (both_true (is_fact S r.concl) (are_facts S r.hyps) e).0

  wf_hyps : (r : Rule) → well_formed S r ≡ true → are_facts S r.hyps ≡ true
  unfolding well_formed
  wf_hyps r e = (both_true (is_fact S r.concl) (are_facts S r.hyps) e).1

  -- Well-formed values change nothing of what is wanted.
  pub wants_sub : (σ : ℕ → Term) → ((x : ℕ) → is_term S (σ x) ≡ true) → (t : Term) → wants S (sub σ t) ≡ wants S t
  unfolding wants sub
  wants_sub σ h (var x) = is_term_wants (σ x) (h x)
  wants_sub σ h (con f) = refl
  wants_sub σ h (a · b) = ap₂ given (wants_sub σ h a) (wants_sub σ h b)

  pub is_term_sub : (σ : ℕ → Term) → ((x : ℕ) → is_term S (σ x) ≡ true) → (t : Term) → is_term S (sub σ t) ≡ is_term S t
  unfolding is_term
  is_term_sub σ h t = ap whole (wants_sub σ h t)

-- ---- mending
module _ (S : Signature) (c : Term) where
  -- A term where the test says that it is well-formed, and else c.
  or_c : Bool → Term → Term
  or_c true t = t
  or_c false t = c

  -- With each argument, mended inside, that is then no well-formed term replaced by c.
  pub mend_args : Term → Term
  mend_args (var x) = var x
  mend_args (con f) = con f
  mend_args (a · b) = mend_args a · or_c (is_term S (mend_args b)) (mend_args b)

  -- .. and the term itself as well.
  pub mend : Term → Term
  mend t = or_c (is_term S (mend_args t)) (mend_args t)

  -- A fact's head is a predicate, so of a fact only the arguments are mended.
  pub mend_fact : Term → Term
  mend_fact (var x) = var x
  mend_fact (con p) = con p
  mend_fact (a · b) = mend_fact a · mend b

  module _ (g : Ground S c) where
    pub mend_is_term : (t : Term) → is_term S (mend t) ≡ true
    unfolding mend or_c
    mend_is_term t = go (is_term S (mend_args t)) refl
      where
        go : (b : Bool) → is_term S (mend_args t) ≡ b → is_term S (or_c b (mend_args t)) ≡ true
        go true e = e
        go false e = g.1

    or_c_closed : (b : Bool) (t : Term) → Closed t → Closed (or_c b t)
    unfolding or_c
    or_c_closed true t h = h
    or_c_closed false t h = g.0

    mend_args_closed : (t : Term) → Closed t → Closed (mend_args t)
    unfolding mend_args closed
    mend_args_closed (var x) h = h
    mend_args_closed (con f) h = h
    mend_args_closed (a · b) h = true_both _ _ (mend_args_closed a (closed_left a b h)) (or_c_closed _ _ (mend_args_closed b (closed_right a b h)))

    -- A mended closed term is ground.
    pub mend_ground : (t : Term) → Closed t → Ground S (mend t)
    unfolding mend
    mend_ground t h = (or_c_closed (is_term S (mend_args t)) (mend_args t) (mend_args_closed t h), mend_is_term t)

    module _ (σ : ℕ → Term) where
      -- The test of a whole term's instance.
      mend_whole : (t : Term) → wants S t ≡ some 0 → mend_args (sub σ t) ≡ sub (λ x. mend (σ x)) t → mend (sub σ t) ≡ sub (λ x. mend (σ x)) t
      unfolding mend or_c
      mend_whole t e h =
          ap (λ (u : Term). or_c (is_term S u) u) h
          ∙ ap (λ (b : Bool). or_c b (sub (λ x. mend (σ x)) t)) (is_term_sub S (λ x. mend (σ x)) (λ x. mend_is_term (σ x)) t ∙ wants_is_term S t e)

      -- A term that wants no argument is mended whole, and one that wants some is a head.
      abbrev Mends : Term → ℕ → Type 0
      Mends t zero = mend (sub σ t) ≡ sub (λ x. mend (σ x)) t
      Mends t (suc n) = mend_args (sub σ t) ≡ sub (λ x. mend (σ x)) t

      mends : (t : Term) (n : ℕ) → wants S t ≡ some n → mend_args (sub σ t) ≡ sub (λ x. mend (σ x)) t → Mends t n
      mends t zero e h = mend_whole t e h
      mends t (suc n) e h = h

      mends_sub : (t : Term) (n : ℕ) → wants S t ≡ some n → Mends t n
      unfolding sub mend_args mend wants
      mends_sub (var x) zero e = refl
      mends_sub (var x) (suc n) e = no_confusion (cc)
      mends_sub (con f) n e = mends (con f) n e refl
      mends_sub (a · b) n e = mends (a · b) n e (ap₂ ◌·◌ (mends_sub a (suc n) (wants_left S a b n e)) (mends_sub b 0 (wants_right S a b n e)))

      -- Mending an instance of a well-formed term mends the values.
      pub mend_sub : (t : Term) → is_term S t ≡ true → mend (sub σ t) ≡ sub (λ x. mend (σ x)) t
      mend_sub t e = mends_sub t 0 (is_term_wants S t e)

      fact_sub : (t : Term) (n : ℕ) → fact_wants S t ≡ some n → mend_fact (sub σ t) ≡ sub (λ x. mend (σ x)) t
      unfolding sub mend_fact fact_wants
      fact_sub (var x) n e = no_confusion (cc)
      fact_sub (con p) n e = refl
      fact_sub (a · b) n e = ap₂ ◌·◌ (fact_sub a (suc n) (fact_wants_left S a b n e)) (mends_sub b 0 (fact_wants_right S a b n e))

      -- .. and so of a well-formed fact.
      pub mend_fact_sub : (t : Term) → is_fact S t ≡ true → mend_fact (sub σ t) ≡ sub (λ x. mend (σ x)) t
      mend_fact_sub t e = fact_sub t 0 (is_fact_wants S t e)

      pub mend_facts_sub : (l : List Term) → are_facts S l ≡ true → map mend_fact (map (sub σ) l) ≡ map (sub (λ x. mend (σ x))) l
      unfolding are_facts
      mend_facts_sub [] e = refl
      mend_facts_sub (t ∷ l) e = let w = both_true (is_fact S t) (are_facts S l) e in ap₂ ◌∷◌ (mend_fact_sub t w.0) (mend_facts_sub l w.1)

    -- A well-formed fact is left alone.
    pub mend_fact_same : (t : Term) → is_fact S t ≡ true → mend_fact t ≡ t
    unfolding mend mend_args or_c is_term wants whole
    mend_fact_same t e = ap mend_fact (sym (sub_var t)) ∙ mend_fact_sub var t e ∙ sub_all (λ x. mend (var x)) var t (λ x. refl) ∙ sub_var t

    -- ---- derivations
    module _ (B : Rule → Type 0) (wf : (r : Rule) → B r → well_formed S r ≡ true) where
      mutual
        derives_mended : {n : ℕ} {f : Term} → Derives Closed B n f → Derives (Ground S) B n (mend_fact f)
        derives_mended (by r σ b v e ds) =
            by r (λ x. mend (σ x)) b (λ x. mend_ground (σ x) (v x))
            (sym (mend_fact_sub σ r.concl (wf_concl S r (wf r b))) ∙ ap mend_fact e)
            (subst (DerivesAll (Ground S) B _) (mend_facts_sub σ r.hyps (wf_hyps S r (wf r b))) (derives_all_mended ds))

        derives_all_mended : {n : ℕ} {fs : List Term} → DerivesAll Closed B n fs → DerivesAll (Ground S) B n (map mend_fact fs)
        derives_all_mended nil = nil
        derives_all_mended (also d ds e) = also (derives_mended d) (derives_all_mended ds) e

-- What derives from well-formed rules by any closed terms derives, in as many steps, by well-formed ones.
pub mended :
    (S : Signature) (rs : List Rule) → ((r : Rule) → Input rs r → well_formed S r ≡ true) → (c : Term) → Ground S c
    → {n : ℕ} {f : Term} → Derives Closed (Input rs) n f → is_fact S f ≡ true → Derives (Ground S) (Input rs) n f
mended S rs wf c g {n = n} {f = f} d e = subst (Derives (Ground S) (Input rs) n) (mend_fact_same S c g f e) (derives_mended S c g (Input rs) wf d)

-- ---- the filler
module _ (S : Signature) where
  -- Where a constant is found it is ground; and one is found.
  abbrev FoundOk : Option Term → Type 0
  FoundOk none = Unit {0}
  FoundOk (some u) = Ground S u

  abbrev Found : Option Term → Type 0
  Found none = ⊥
  Found (some u) = Ground S u

  found_ok : (o : Option Term) → Found o → FoundOk o
  found_ok none h = absurd h
  found_ok (some u) h = h

  or_else_lem : (o p : Option Term) → FoundOk o → Found p → Found (elim o [ some u ↦ some u | none ↦ p ])
  or_else_lem none p h k = k
  or_else_lem (some u) p h k = h

  mutual
    unfolding constant closed

    constant_ok : (t : Term) (n : ℕ) → Closed t → wants S t ≡ some n → FoundOk (constant t)
    constant_ok (var x) n k e = tt
    constant_ok (con f) n k e = tt
    constant_ok (a · b) n k e =
        found_ok (constant (a · b))
        (constant_app b a (constant_ok a (suc n) (closed_left a b k) (wants_left S a b n e)) (closed_right a b k) (wants_right S a b n e))

    -- What has an argument has a constant.
    constant_app : (b a : Term) → FoundOk (constant a) → Closed b → wants S b ≡ some 0 → Found (constant (a · b))
    constant_app (var x) a h k e = true≢false k refl
    constant_app (con c) a h k e = or_else_lem (constant a) (some (con c)) h (k, wants_is_term S (con c) e)
    constant_app (c · d) a h k e =
        or_else_lem (constant a) (constant (c · d)) h
        (constant_app d c (constant_ok c 1 (closed_left c d k) (wants_left S c d 0 e)) (closed_right c d k) (wants_right S c d 0 e))

  fact_constant : (t : Term) (n : ℕ) → Closed t → fact_wants S t ≡ some n → FoundOk (constant t)
  unfolding constant
  fact_constant (var x) n k e = tt
  fact_constant (con p) n k e = tt
  fact_constant (a · b) n k e =
      found_ok (constant (a · b))
      (constant_app b a (fact_constant a (suc n) (closed_left a b k) (fact_wants_left S a b n e)) (closed_right a b k) (fact_wants_right S a b n e))

  found_filler : (o : Option Term) → Found o → Ground S (or_else (con 0) o)
  unfolding or_else
  found_filler none h = absurd h
  found_filler (some u) h = h

-- A closed well-formed fact has a constant, where no predicate goes without arguments.
pub filler_ground :
    (S : Signature) → ((p : ℕ) → S.predicate p ≡ some 0 → ⊥) → (q : Term) → closed q ≡ true → is_fact S q ≡ true → Ground S (filler q)
unfolding filler fact_wants
filler_ground S no_bare (var x) k e = no_confusion (let z : ◌≡◌ {A = Option ℕ} none (some 0) = is_fact_wants S (var x) e in cc)
filler_ground S no_bare (con p) k e = absurd (no_bare p (is_fact_wants S (con p) e))
filler_ground S no_bare (a · b) k e =
    let w : fact_wants S (a · b) ≡ some 0 = is_fact_wants S (a · b) e in
    found_filler S (constant (a · b))
    (constant_app S b a (fact_constant S a 1 (closed_left a b k) (fact_wants_left S a b 0 w)) (closed_right a b k) (fact_wants_right S a b 0 w))
