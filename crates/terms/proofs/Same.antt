-- Equal facts have equal tokens, and the tokens of a well-formed term hold that term. Assumes nothing.
use mathlib.Core.Path.{◌≡◌, refl, sym, ap, ◌∙◌}
use mathlib.Core.Bool.{Bool, true, false}
use mathlib.Core.Option.{Option, none, some}
use mathlib.Core.List.{List, [], ◌∷◌}
use Prim.Native.Nat.{ℕ, zero, suc, ◌≤◌, ◌<◌}
use native.Mathlib.Omega.{arith}
use borrow.Author.Tests.{ltb-false, eqb-true, eq-eqb}
use lib.Dec.{eqb, ltb}
use lib.ListN.{take, drop}
use Rattle.model.specs.Term.{Term, var, con, ◌·◌, same, occurs}
use Rattle.model.specs.Sign.{Signature, given, wants, fact_wants, whole, is_term, is_fact}
use Rattle.records.specs.Tokens.{leaves, applied, terms}
use Rattle.records.specs.Symbols.{kind_of, arity_of, is_function, signature, same_bytes}
use Rattle.records.specs.TokenLaws.{leaf_var, leaf_con}
use Rattle.terms.specs.OpenLaws.{arity_variable, leaves_term}

-- ---- equal facts
bytes_next : (b c : ℕ) (l m : List ℕ) → eqb b c ≡ true → same_bytes (b ∷ l) (c ∷ m) ≡ same_bytes l m
unfolding same_bytes
bytes_next b c l m e = rw (e, same_bytes)

bytes_differ : (b c : ℕ) (l m : List ℕ) → eqb b c ≡ false → same_bytes (b ∷ l) (c ∷ m) ≡ false
unfolding same_bytes
bytes_differ b c l m e = rw (e, same_bytes)

pub bytes_equal : (l m : List ℕ) → same_bytes l m ≡ true → l ≡ m
unfolding same_bytes
bytes_equal [] [] h = refl
bytes_equal [] (c ∷ m) h = cc
bytes_equal (b ∷ l) [] h = cc
bytes_equal (b ∷ l) (c ∷ m) h = go (bytes_equal l m) (eqb b c) refl
  where
    go : (same_bytes l m ≡ true → l ≡ m) → (d : Bool) → eqb b c ≡ d → b ∷ l ≡ c ∷ m
    go ih true e = let q = ih (sym (bytes_next b c l m e) ∙ h) in let p = eqb-true b c e in cc
    go ih false e = let q = sym (bytes_differ b c l m e) ∙ h in cc

pub bytes_same : (l : List ℕ) → same_bytes l l ≡ true
unfolding same_bytes
bytes_same [] = refl
bytes_same (b ∷ l) = bytes_next b b l l (eq-eqb b b refl) ∙ bytes_same l

same_next : (a b c d : Term) → same a c ≡ true → same (a · b) (c · d) ≡ same b d
unfolding same
same_next a b c d e = rw (e, same)

same_differ : (a b c d : Term) → same a c ≡ false → same (a · b) (c · d) ≡ false
unfolding same
same_differ a b c d e = rw (e, same)

pub same_equal : (s t : Term) → same s t ≡ true → s ≡ t
unfolding same
same_equal (var x) (var y) h = ap var (eqb-true x y h)
same_equal (var x) (con g) h = cc
same_equal (var x) (c · d) h = cc
same_equal (con f) (var y) h = cc
same_equal (con f) (con g) h = ap con (eqb-true f g h)
same_equal (con f) (c · d) h = cc
same_equal (a · b) (var y) h = cc
same_equal (a · b) (con g) h = cc
same_equal (a · b) (c · d) h = go (same_equal a c) (same_equal b d) (same a c) refl
  where
    go : (same a c ≡ true → a ≡ c) → (same b d ≡ true → b ≡ d) → (x : Bool) → same a c ≡ x → a · b ≡ c · d
    go f g true e = let p = f e in let q = g (sym (same_next a b c d e) ∙ h) in cc
    go f g false e = let q = sym (same_differ a b c d e) ∙ h in cc

pub same_self : (t : Term) → same t t ≡ true
unfolding same
same_self (var x) = eq-eqb x x refl
same_self (con f) = eq-eqb f f refl
same_self (a · b) = same_next a b a b (same_self a) ∙ same_self b

equal_tests : (a b : Bool) → (a ≡ true → b ≡ true) → (b ≡ true → a ≡ true) → a ≡ b
equal_tests true b f g = sym (f refl)
equal_tests false true f g = g refl
equal_tests false false f g = refl

-- Two facts have the same tokens if and only if they are the same.
pub same_terms : (ar : ℕ → ℕ) (ts us : List ℕ) (s t : Term) → terms ar ts ≡ s ∷ [] → terms ar us ≡ t ∷ [] → same_bytes ts us ≡ same s t
same_terms ar ts us s t h k =
    equal_tests (same_bytes ts us) (same s t)
    (λ e. let q = ap (terms ar) (bytes_equal ts us e) in let z : s ≡ t = cc in rw z (same_self t))
    (λ e.
    let z = same_equal s t e in
    let q : ts ≡ us = leaves_term ar ts s h ∙ ap (λ (x : Term). leaves x []) z ∙ sym (leaves_term ar us t k) in
    rw q (bytes_same us))

-- ---- the leaves of a well-formed term hold it
-- The symbols of a signature are tokens that are no variables, with the arities that `ar` gives.
pub record Spelled (S : Signature) (ar : ℕ → ℕ) : Type 0 where
  pub functions : (f n : ℕ) → S.function f ≡ some n → (64 ≤ f) × (ar f ≡ n)
  pub predicates : (p n : ℕ) → S.predicate p ≡ some n → (64 ≤ p) × (ar p ≡ n)
  pub lone : (x : ℕ) → x < 64 → ar x ≡ 0

-- The variables of a term are tokens of variables.
abbrev pub Small : Term → Type 0
Small t = (x : ℕ) → occurs x t ≡ true → x < 64

small_left : (a b : Term) → Small (a · b) → Small a
unfolding occurs
small_left a b v x h = v x (rw (h, occurs))

small_right : (a b : Term) → Small (a · b) → Small b
unfolding occurs
small_right a b v x h = v x (go (occurs x a) refl)
  where
    go : (d : Bool) → occurs x a ≡ d → occurs x (a · b) ≡ true
    go true e = rw (e, occurs)
    go false e = rw (e, occurs, h)

small_var : (x : ℕ) → Small (var x) → x < 64
unfolding occurs
small_var x v = v x (eq-eqb x x refl)

given_some : (x y : Option ℕ) (k : ℕ) → given x y ≡ some k → (x ≡ some (suc k)) × (y ≡ some 0)
unfolding given
given_some none y k h = (cc, cc)
given_some (some zero) y k h = (cc, cc)
given_some (some (suc n)) none k h = (cc, cc)
given_some (some (suc n)) (some zero) k h = (cc, refl)
given_some (some (suc n)) (some (suc m)) k h = (cc, cc)

module _ (S : Signature) (ar : ℕ → ℕ) (w : Spelled S ar) where
  symbol_terms : (f n : ℕ) (l : List ℕ) → (64 ≤ f) × (ar f ≡ n) → terms ar (f ∷ l) ≡ applied (con f) (take n (terms ar l)) ∷ drop n (terms ar l)
  unfolding terms
  symbol_terms f n l h = rw (h.1, leaf_con f h.0)

  -- One argument more, where the head wants it and it is whole.
  argument_terms : (a b : Term) (k : ℕ) (l : List ℕ) → terms ar (leaves b l) ≡ b ∷ terms ar l
      → terms ar (leaves a (leaves b l)) ≡ applied a (take (suc k) (terms ar (leaves b l))) ∷ drop (suc k) (terms ar (leaves b l))
      → terms ar (leaves (a · b) l) ≡ applied (a · b) (take k (terms ar l)) ∷ drop k (terms ar l)
  unfolding leaves applied
  argument_terms a b k l g h = rw g at h

  pub term_leaves : (t : Term) (k : ℕ) (l : List ℕ) → wants S t ≡ some k → Small t → terms ar (leaves t l) ≡ applied t (take k (terms ar l)) ∷ drop k (terms ar l)
  unfolding wants leaves terms applied
  term_leaves (var x) k l h v =
      let e : k ≡ 0 = cc in
      rw (e, leaf_var x (small_var x v), w.lone x (small_var x v))
  term_leaves (con f) k l h v = symbol_terms f k l (w.functions f k h)
  term_leaves (a · b) k l h v =
      let g = given_some (wants S a) (wants S b) k h in
      argument_terms a b k l (term_leaves b 0 l g.1 (small_right a b v)) (term_leaves a (suc k) (leaves b l) g.0 (small_left a b v))

  pub fact_leaves : (t : Term) (k : ℕ) (l : List ℕ) → fact_wants S t ≡ some k → Small t → terms ar (leaves t l) ≡ applied t (take k (terms ar l)) ∷ drop k (terms ar l)
  unfolding fact_wants leaves applied
  fact_leaves (var x) k l h v = cc
  fact_leaves (con p) k l h v = symbol_terms p k l (w.predicates p k h)
  fact_leaves (a · b) k l h v =
      let g = given_some (fact_wants S a) (wants S b) k h in
      argument_terms a b k l (term_leaves b 0 l g.1 (small_right a b v)) (fact_leaves a (suc k) (leaves b l) g.0 (small_left a b v))

whole_some : (x : Option ℕ) → whole x ≡ true → x ≡ some 0
unfolding whole
whole_some none h = cc
whole_some (some zero) h = refl
whole_some (some (suc n)) h = cc

picked : (b : Bool) (a n : ℕ) → ◌≡◌ {A = Option ℕ} (elim b [ true ↦ some a | false ↦ none ]) (some n) → (b ≡ true) × (a ≡ n)
picked true a n h = (refl, cc)
picked false a n h = (cc, cc)

function_kind : (k : ℕ) → is_function k ≡ true → 0 < k
unfolding is_function
function_kind zero h = let z : ◌≡◌ {A = ℕ} 0 1 = cc in absurd (omega arith)
function_kind (suc k) h = omega arith

-- A symbol table is a signature of tokens.
module _ (sy : List ℕ) where
  kind_variable : (t : ℕ) → ltb t 64 ≡ true → kind_of sy t ≡ 0
  unfolding kind_of
  kind_variable t e = rw (e, kind_of)

  pub kind_symbol : (t : ℕ) → 0 < kind_of sy t → 64 ≤ t
  kind_symbol t h = ltb-false t 64 (go (ltb t 64) refl)
    where
      go : (b : Bool) → ltb t 64 ≡ b → b ≡ false
      go true e = absurd (omega (arith, kind_variable t e))
      go false e = refl

  pub signature_spelled : Spelled (signature sy) (arity_of sy)
  unfolding signature
  signature_spelled =
      record {
        functions = λ f n h. let p = picked (is_function (kind_of sy f)) (arity_of sy f) n h in (kind_symbol f (function_kind (kind_of sy f) p.0), p.1);
        predicates = λ q n h. let p = picked (eqb (kind_of sy q) 1) (arity_of sy q) n h in (kind_symbol q (omega (arith, eqb-true (kind_of sy q) 1 p.0)), p.1);
        lone = arity_variable sy;
      }

  pub term_held : (t : Term) → is_term (signature sy) t ≡ true → Small t → terms (arity_of sy) (leaves t []) ≡ t ∷ []
  unfolding is_term terms applied
  term_held t h v = term_leaves (signature sy) (arity_of sy) signature_spelled t 0 [] (whole_some (wants (signature sy) t) h) v

  pub fact_held : (t : Term) → is_fact (signature sy) t ≡ true → Small t → terms (arity_of sy) (leaves t []) ≡ t ∷ []
  unfolding is_fact terms applied
  fact_held t h v = fact_leaves (signature sy) (arity_of sy) signature_spelled t 0 [] (whole_some (fact_wants (signature sy) t) h) v

  -- Two well-formed terms, or facts, have the same leaves if and only if they are the same.
  pub same_term_leaves : (s t : Term) → is_term (signature sy) s ≡ true → is_term (signature sy) t ≡ true → Small s → Small t → same_bytes (leaves s []) (leaves t []) ≡ same s t
  same_term_leaves s t h k v u = same_terms (arity_of sy) (leaves s []) (leaves t []) s t (term_held s h v) (term_held t k u)

  pub same_fact_leaves : (s t : Term) → is_fact (signature sy) s ≡ true → is_fact (signature sy) t ≡ true → Small s → Small t → same_bytes (leaves s []) (leaves t []) ≡ same s t
  same_fact_leaves s t h k v u = same_terms (arity_of sy) (leaves s []) (leaves t []) s t (fact_held s h v) (fact_held t k u)
