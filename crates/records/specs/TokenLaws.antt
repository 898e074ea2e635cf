-- Tokens and terms: decoding and encoding undo each other, and how many tokens a walk over terms takes. Assumes nothing.
use Prim.Native.Nat.{ℕ, zero, suc, ◌+◌, ◌≤◌, ◌<◌}
use Rattle.std.proofs.Common.{add-zero, zero-add, suc-add, ◌∙◌, take-append-drop, take_at, drop_at, drop-drop, take-take, lt-ltb, le-ltb}
use native.Mathlib.Omega.{arith}
use Rattle.std.specs.Prelude.{Bool, true, false, ◌≡◌, ltb, length}
use Rattle.std.proofs.Math.Option.{some}
use mathlib.Core.List.{List, [], ◌∷◌, ◌++◌}
use Rattle.std.proofs.Math.Path.{refl, ap, ap₂, sym}
use Rattle.std.proofs.Math.ListN.{take, drop}
use Rattle.std.proofs.Math.Seq.{take-nil, drop-nil}
use Rattle.model.specs.Term.{Term, var, con, ◌·◌, size}
use Rattle.model.specs.Rule.{size_all}
use Rattle.model.specs.Sign.{Signature, wants, fact_wants, is_term, is_fact, are_facts}
use Rattle.theory.specs.Basics.{no_confusion, both_true}
use Rattle.theory.specs.Mend.{wants_left, wants_right, fact_wants_left, fact_wants_right, is_term_wants, is_fact_wants}
use Rattle.records.specs.Tokens.{leaves, leaves_all, leaf, applied, terms, span}

-- ---- the tokens of a term
pub leaves_append : (t : Term) (l : List ℕ) (m : List ℕ) → leaves t (l ++ m) ≡ leaves t l ++ m
unfolding leaves
leaves_append (var x) l m = refl
leaves_append (con f) l m = refl
leaves_append (a · b) l m = ap (leaves a) (leaves_append b l m) ∙ leaves_append a (leaves b l) m

-- The tokens of a term stand before the list.
pub leaves_front : (t : Term) (l : List ℕ) → leaves t l ≡ leaves t [] ++ l
leaves_front t l = leaves_append t [] l

pub leaves_all_append : (a b : List Term) → leaves_all (a ++ b) ≡ leaves_all a ++ leaves_all b
unfolding leaves_all
leaves_all_append [] b = refl
leaves_all_append (t ∷ a) b = ap (leaves t) (leaves_all_append a b) ∙ leaves_append t (leaves_all a) (leaves_all b)

pub length_leaves : (t : Term) (l : List ℕ) → length (leaves t l) ≡ size t + length l
unfolding leaves size
length_leaves (var x) l = omega arith
length_leaves (con f) l = omega arith
length_leaves (a · b) l = omega (arith, length_leaves a (leaves b l), length_leaves b l)

-- A term has as many tokens as its size says.
pub length_leaves_size : (t : Term) → length (leaves t []) ≡ size t
length_leaves_size t = length_leaves t [] ∙ add-zero (size t)

pub length_leaves_all : (l : List Term) → length (leaves_all l) ≡ size_all l
unfolding leaves_all size_all
length_leaves_all [] = refl
length_leaves_all (t ∷ l) = omega (arith, length_leaves t (leaves_all l), length_leaves_all l)

-- The first tokens of a term and a rest are the term's, and then comes the rest.
pub take_leaves : (t : Term) (rest : List ℕ) → take (size t) (leaves t rest) ≡ leaves t []
take_leaves t rest = ap (take (size t)) (leaves_front t rest) ∙ take_at (leaves t []) rest (size t) (length_leaves_size t)

pub drop_leaves : (t : Term) (rest : List ℕ) → drop (size t) (leaves t rest) ≡ rest
drop_leaves t rest = ap (drop (size t)) (leaves_front t rest) ∙ drop_at (leaves t []) rest (size t) (length_leaves_size t)

-- ---- a token as a leaf
pub leaf_var : (t : ℕ) → t < 64 → leaf t ≡ var t
unfolding leaf
leaf_var t h = rw (lt-ltb t 64 h, leaf)

pub leaf_con : (t : ℕ) → 64 ≤ t → leaf t ≡ con t
unfolding leaf
leaf_con t h = rw (le-ltb t 64 h, leaf)

pub leaves_leaf : (t : ℕ) (l : List ℕ) → leaves (leaf t) l ≡ t ∷ l
unfolding leaf leaves
leaves_leaf t l = go (ltb t 64)
  where
    go : (c : Bool) → leaves (elim c [ true ↦ var t | false ↦ con t ]) l ≡ t ∷ l
    go true = refl
    go false = refl

-- The arguments' tokens come after the head's.
pub leaves_applied : (t : Term) (l : List Term) (rest : List ℕ) → leaves (applied t l) rest ≡ leaves t (leaves_all l ++ rest)
unfolding applied leaves leaves_all
leaves_applied t [] rest = refl
leaves_applied t (a ∷ l) rest = leaves_applied (t · a) l rest ∙ ap (leaves t) (leaves_append a (leaves_all l) rest)

-- The part after the first n of the first n + m.
pub drop_take : {A : Type 0} (n m : ℕ) (l : List A) → drop n (take (n + m) l) ≡ take m (drop n l)
drop_take zero m l = ap (λ (k : ℕ). take k l) (zero-add m)
drop_take (suc n) m [] = ap (drop (suc n)) (take-nil (suc n + m)) ∙ sym (take-nil m)
drop_take (suc n) m (x ∷ l) = ap (λ (k : ℕ). drop (suc n) (take k (x ∷ l))) (suc-add n m) ∙ drop_take n m l

module _ (ar : ℕ → ℕ) where
  -- Tokens are given back by the terms that stand in them, whatever they are.
  pub leaves_terms : (ts : List ℕ) → leaves_all (terms ar ts) ≡ ts
  unfolding terms leaves_all
  leaves_terms [] = refl
  leaves_terms (t ∷ ts) =
      let l = terms ar ts in
      leaves_applied (leaf t) (take (ar t) l) (leaves_all (drop (ar t) l))
      ∙ leaves_leaf t (leaves_all (take (ar t) l) ++ leaves_all (drop (ar t) l))
      ∙ ap (λ (z : List ℕ). t ∷ z) (sym (leaves_all_append (take (ar t) l) (drop (ar t) l)) ∙ ap leaves_all (take-append-drop (ar t) l) ∙ leaves_terms ts)

  pub size_all_terms : (ts : List ℕ) → size_all (terms ar ts) ≡ length ts
  size_all_terms ts = sym (length_leaves_all (terms ar ts)) ∙ ap length (leaves_terms ts)

  -- ---- a walk over terms
  pub span_zero : (ts : List ℕ) → span ar 0 ts ≡ 0
  unfolding span
  span_zero [] = refl
  span_zero (t ∷ ts) = refl

  pub span_le : (n : ℕ) (ts : List ℕ) → span ar n ts ≤ length ts
  unfolding span
  span_le n [] = omega arith
  span_le zero (t ∷ ts) = omega arith
  span_le (suc n) (t ∷ ts) = omega (arith, span_le (n + ar t) ts)

  -- A walk in two parts.
  pub span_add : (m n : ℕ) (ts : List ℕ) → span ar (m + n) ts ≡ span ar m ts + span ar n (drop (span ar m ts) ts)
  unfolding span
  span_add m n [] = refl
  span_add zero n (t ∷ ts) = ap (λ (k : ℕ). span ar k (t ∷ ts)) (zero-add n) ∙ sym (zero-add (span ar n (t ∷ ts)))
  span_add (suc m) n (t ∷ ts) =
      let e : m + n + ar t ≡ m + ar t + n = omega arith in
      let s : span ar (m + n + ar t) ts ≡ span ar (m + ar t + n) ts = ap (λ (k : ℕ). span ar k ts) e in
      ap (λ (k : ℕ). span ar k (t ∷ ts)) (suc-add m n)
      ∙ ap suc (s ∙ span_add (m + ar t) n ts)
      ∙ sym (suc-add (span ar (m + ar t) ts) (span ar n (drop (span ar (m + ar t) ts) ts)))

  -- After a walk over n terms stand the terms but the first n.
  pub terms_drop : (n : ℕ) (ts : List ℕ) → terms ar (drop (span ar n ts) ts) ≡ drop n (terms ar ts)
  unfolding span terms
  terms_drop n [] = sym (drop-nil n)
  terms_drop zero (t ∷ ts) = refl
  terms_drop (suc n) (t ∷ ts) =
      let e : n + ar t ≡ ar t + n = omega arith in
      terms_drop (n + ar t) ts ∙ ap (λ (k : ℕ). drop k (terms ar ts)) e ∙ sym (drop-drop n (ar t) (terms ar ts))

  -- .. and what it went over holds the first n.
  pub terms_take : (n : ℕ) (ts : List ℕ) → terms ar (take (span ar n ts) ts) ≡ take n (terms ar ts)
  unfolding span terms
  terms_take n [] = sym (take-nil n)
  terms_take zero (t ∷ ts) = refl
  terms_take (suc n) (t ∷ ts) =
      let l = terms ar ts in
      let e : n + ar t ≡ ar t + n = omega arith in
      let i : terms ar (take (span ar (n + ar t) ts) ts) ≡ take (ar t + n) l = terms_take (n + ar t) ts ∙ ap (λ (k : ℕ). take k l) e in
      ap (λ (z : List Term). applied (leaf t) (take (ar t) z) ∷ drop (ar t) z) i
      ∙ ap₂ {C = List Term} (λ z w. applied (leaf t) z ∷ w) (take-take (ar t) (ar t + n) l (omega arith)) (drop_take (ar t) n l)

-- ---- the variables of a term
-- P holds of each variable of a term, and of each of a list's.
abbrev pub EachVar : (ℕ → Type 0) → Term → Type 0
EachVar P (var x) = P x
EachVar P (con f) = Unit {0}
EachVar P (a · b) = EachVar P a × EachVar P b

abbrev pub EachVars : (ℕ → Type 0) → List Term → Type 0
EachVars P [] = Unit {0}
EachVars P (t ∷ l) = EachVar P t × EachVars P l

pub each_weaken : {P Q : ℕ → Type 0} → ((x : ℕ) → P x → Q x) → (t : Term) → EachVar P t → EachVar Q t
each_weaken k (var x) h = k x h
each_weaken k (con f) h = tt
each_weaken k (a · b) h = (each_weaken k a h.0, each_weaken k b h.1)

pub eachs_weaken : {P Q : ℕ → Type 0} → ((x : ℕ) → P x → Q x) → (l : List Term) → EachVars P l → EachVars Q l
eachs_weaken k [] h = tt
eachs_weaken k (t ∷ l) h = (each_weaken k t h.0, eachs_weaken k l h.1)

-- A variable that can be a token.
abbrev pub Small : ℕ → Type 0
Small x = x < 64

-- A variable of a record: from 1 to v.
abbrev pub Numbered : ℕ → ℕ → Type 0
Numbered v x = (1 ≤ x) × (x ≤ v)

pub numbered_small : (v : ℕ) → v ≤ 63 → (l : List Term) → EachVars (Numbered v) l → EachVars Small l
numbered_small v b l h = eachs_weaken (λ x (k : Numbered v x). omega arith) l h

-- ---- terms that keep to the arities
-- The arities that walks go by are those of the signature, whose symbols are no variables; and variables have no arguments.
pub record Agrees (ar : ℕ → ℕ) (S : Signature) : Type 0 where
  pub variables : (x : ℕ) → x < 64 → ar x ≡ 0
  pub functions : (f n : ℕ) → S.function f ≡ some n → (ar f ≡ n) × (64 ≤ f)
  pub predicates : (p n : ℕ) → S.predicate p ≡ some n → (ar p ≡ n) × (64 ≤ p)

module _ (ar : ℕ → ℕ) (S : Signature) (agrees : Agrees ar S) where
  -- One token before a list of tokens, as a head that takes the next n terms.
  terms_var : (x : ℕ) (rest : List ℕ) → x < 64 → terms ar (x ∷ rest) ≡ var x ∷ terms ar rest
  unfolding terms applied
  terms_var x rest h =
      ap₂ {C = List Term} (λ z k. applied z (take k (terms ar rest)) ∷ drop k (terms ar rest)) (leaf_var x h) (agrees.variables x h)

  terms_con : (f n : ℕ) (rest : List ℕ) → (ar f ≡ n) × (64 ≤ f) → terms ar (f ∷ rest) ≡ applied (con f) (take n (terms ar rest)) ∷ drop n (terms ar rest)
  unfolding terms
  terms_con f n rest h = ap₂ {C = List Term} (λ z k. applied z (take k (terms ar rest)) ∷ drop k (terms ar rest)) (leaf_con f h.1) h.0

  -- A term that wants n more takes the first n of those that stand after it.
  pub terms_leaves :
      (t : Term) (n : ℕ) (rest : List ℕ) → wants S t ≡ some n → EachVar Small t
      → terms ar (leaves t rest) ≡ applied t (take n (terms ar rest)) ∷ drop n (terms ar rest)
  unfolding leaves wants applied
  terms_leaves (var x) zero rest e h = terms_var x rest h
  terms_leaves (var x) (suc n) rest e h = no_confusion (cc)
  terms_leaves (con f) n rest e h = terms_con f n rest (agrees.functions f n e)
  terms_leaves (a · b) n rest e h =
      terms_leaves a (suc n) (leaves b rest) (wants_left S a b n e) h.0
      ∙ ap (λ (z : List Term). applied a (take (suc n) z) ∷ drop (suc n) z) (terms_leaves b 0 rest (wants_right S a b n e) h.1)

  -- A whole term is given back, with what stands after it.
  pub terms_term : (t : Term) (rest : List ℕ) → is_term S t ≡ true → EachVar Small t → terms ar (leaves t rest) ≡ t ∷ terms ar rest
  unfolding applied
  terms_term t rest e h = terms_leaves t 0 rest (is_term_wants S t e) h

  -- The same of a fact.
  pub terms_fact_leaves :
      (t : Term) (n : ℕ) (rest : List ℕ) → fact_wants S t ≡ some n → EachVar Small t
      → terms ar (leaves t rest) ≡ applied t (take n (terms ar rest)) ∷ drop n (terms ar rest)
  unfolding leaves fact_wants applied
  terms_fact_leaves (var x) n rest e h = no_confusion (cc)
  terms_fact_leaves (con p) n rest e h = terms_con p n rest (agrees.predicates p n e)
  terms_fact_leaves (a · b) n rest e h =
      terms_fact_leaves a (suc n) (leaves b rest) (fact_wants_left S a b n e) h.0
      ∙ ap (λ (z : List Term). applied a (take (suc n) z) ∷ drop (suc n) z) (terms_leaves b 0 rest (fact_wants_right S a b n e) h.1)

  pub terms_fact : (t : Term) (rest : List ℕ) → is_fact S t ≡ true → EachVar Small t → terms ar (leaves t rest) ≡ t ∷ terms ar rest
  unfolding applied
  terms_fact t rest e h = terms_fact_leaves t 0 rest (is_fact_wants S t e) h

  -- Facts are given back by their tokens.
  pub terms_facts : (l : List Term) → are_facts S l ≡ true → EachVars Small l → terms ar (leaves_all l) ≡ l
  unfolding leaves_all are_facts terms
  terms_facts [] e h = refl
  terms_facts (t ∷ l) e h =
      let w = both_true (is_fact S t) (are_facts S l) e in
      terms_fact t (leaves_all l) w.0 h.0 ∙ ap (λ (z : List Term). t ∷ z) (terms_facts l w.1 h.1)

  -- ---- the walk over a term
  span_one : (x n k : ℕ) (rest : List ℕ) → ar x ≡ n → span ar (suc k) (x ∷ rest) ≡ 1 + span ar (k + n) rest
  unfolding span
  span_one x n k rest e = ap (λ (z : ℕ). suc (span ar (k + z) rest)) e ∙ omega arith

  span_two :
      (a b : Term) (n k : ℕ) (rest : List ℕ) → span ar (suc k) (leaves a (leaves b rest)) ≡ size a + span ar (k + suc n) (leaves b rest)
      → span ar (suc (k + n)) (leaves b rest) ≡ size b + span ar (k + n + 0) rest
      → span ar (suc k) (leaves a (leaves b rest)) ≡ size a + size b + span ar (k + n) rest
  span_two a b n k rest e f =
      let p : k + suc n ≡ suc (k + n) = omega arith in
      let q = ap (λ (z : ℕ). span ar z (leaves b rest)) p in
      let r = ap (λ (z : ℕ). span ar z rest) (add-zero (k + n)) in
      omega (arith, q, r)

  -- A walk that begins with a term that wants n more.
  pub span_leaves :
      (t : Term) (n k : ℕ) (rest : List ℕ) → wants S t ≡ some n → EachVar Small t → span ar (suc k) (leaves t rest) ≡ size t + span ar (k + n) rest
  unfolding leaves wants size
  span_leaves (var x) zero k rest e h = span_one x 0 k rest (agrees.variables x h)
  span_leaves (var x) (suc n) k rest e h = no_confusion (cc)
  span_leaves (con f) n k rest e h = span_one f n k rest (agrees.functions f n e).0
  span_leaves (a · b) n k rest e h =
      span_two a b n k rest (span_leaves a (suc n) k (leaves b rest) (wants_left S a b n e) h.0)
      (span_leaves b 0 (k + n) rest (wants_right S a b n e) h.1)

  -- .. and the same of a fact.
  pub span_fact_leaves :
      (t : Term) (n k : ℕ) (rest : List ℕ) → fact_wants S t ≡ some n → EachVar Small t → span ar (suc k) (leaves t rest) ≡ size t + span ar (k + n) rest
  unfolding leaves fact_wants size
  span_fact_leaves (var x) n k rest e h = no_confusion (cc)
  span_fact_leaves (con p) n k rest e h = span_one p n k rest (agrees.predicates p n e).0
  span_fact_leaves (a · b) n k rest e h =
      span_two a b n k rest (span_fact_leaves a (suc n) k (leaves b rest) (fact_wants_left S a b n e) h.0)
      (span_leaves b 0 (k + n) rest (fact_wants_right S a b n e) h.1)

  span_whole : (n : ℕ) (rest : List ℕ) → n + span ar (0 + 0) rest ≡ n
  span_whole n rest = omega (arith, span_zero ar rest)

  -- One whole term takes as many tokens as its size says; and so does a fact.
  pub span_term : (t : Term) (rest : List ℕ) → is_term S t ≡ true → EachVar Small t → span ar 1 (leaves t rest) ≡ size t
  span_term t rest e h = span_leaves t 0 0 rest (is_term_wants S t e) h ∙ span_whole (size t) rest

  pub span_fact : (t : Term) (rest : List ℕ) → is_fact S t ≡ true → EachVar Small t → span ar 1 (leaves t rest) ≡ size t
  span_fact t rest e h = span_fact_leaves t 0 0 rest (is_fact_wants S t e) h ∙ span_whole (size t) rest
