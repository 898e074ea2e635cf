-- Input records: what an accepted symbol table, rule and query hold, and that a record and its rule give each other back. Assumes nothing.
use Prim.Native.Nat.{ℕ, zero, suc, ◌+◌, ◌-◌, ◌*◌, ◌/◌, ◌%◌, ◌≤◌, ◌<◌}
use Rattle.std.proofs.Common.{add-zero, div-add-mod', ◌∙◌, length-append, take-append-drop, take_at, drop-drop, length-take-le, get_or-drop}
use Rattle.std.proofs.Math.Nat.{zero-add, div-le_of_le-mul}
use native.Mathlib.Omega.{arith}
use Rattle.std.specs.Prelude.{Bool, ◌≡◌, eqb, leb, length, take, replicate, Result, Ok, Err}
use Rattle.std.proofs.Math.Bool.{true, false}
use Rattle.std.proofs.Math.Option.{Option, none, some}
use mathlib.Core.List.{List, [], ◌∷◌, ◌++◌}
use Rattle.std.proofs.Math.Path.{refl, ap, ap₂, sym, subst}
use Rattle.std.proofs.Math.Dec.{ltb}
use Rattle.std.proofs.Math.ListN.{drop, get_or, length-drop}
use Rattle.std.proofs.lemmas.List.{length-replicate}
use borrow.Author.Tests.{leb-true, eqb-true, ltb-true, ltb-false, lt-ltb, le-ltb, eq-eqb}
use Rattle.model.specs.Term.{Term, var, con, ◌·◌, both, size, closed}
use Rattle.model.specs.Rule.{Rule, size_all}
use Rattle.model.specs.Sign.{Signature, given, wants, fact_wants, whole, is_term, is_fact, are_facts, well_formed}
use Rattle.model.specs.Write.{rule_at}
use Rattle.model.specs.Derive.{Input}
use Rattle.theory.specs.Basics.{true≢false, no_confusion, both_true, true_both}
use Rattle.theory.specs.Mend.{is_term_wants, wants_is_term, wf_concl}
use Rattle.records.specs.Tokens.{leaves_all, leaf, applied, terms, rule_of}
use Rattle.records.specs.Symbols.{kind_of, arity_of, is_function, signature, zeros, shape_good, first_good, name_good, name_new, symbol_good, first_bad_symbol, symbols_length}
use Rattle.records.specs.Rules.{in_term, good_tokens, tokens_of, rule_good, first_bad_rule, decode_rule, decode_rules, decode_query, encode_input}
use Rattle.records.specs.declared.Fault.TheVariants.{Length, Record}
use Rattle.records.specs.declared.Refusal.{Refusal}
use Rattle.records.specs.declared.Refusal.TheVariants.{Symbols, Rules, Query}
use Rattle.records.specs.Input.{query_input, rules_length, rules_input, input_of}
use Rattle.records.specs.TokenLaws.{EachVar, EachVars, Small, Numbered, Agrees, leaf_var, leaf_con, leaves_terms, length_leaves_all, terms_facts}

-- ---- tests
if_true : (c d : Bool) → elim c [ true ↦ d | false ↦ false ] ≡ true → (c ≡ true) × (d ≡ true)
if_true true d e = (refl, e)
if_true false d e = true≢false e refl

if_some : (c : Bool) (a n : ℕ) → elim c [ true ↦ some a | false ↦ none ] ≡ some n → (c ≡ true) × (a ≡ n)
if_some true a n e = (refl, cc)
if_some false a n e = no_confusion (cc)

-- ---- what a symbol table says
function_kind : (k : ℕ) → is_function k ≡ true → 1 ≤ k
unfolding is_function
function_kind zero e = true≢false e refl
function_kind (suc k) e = omega arith

module _ (sy : List ℕ) where
  -- What has a kind is no variable.
  kind_symbol : (t : ℕ) → 1 ≤ kind_of sy t → 64 ≤ t
  unfolding kind_of
  kind_symbol t h = go (ltb t 64) refl h
    where
      go : (c : Bool) → ltb t 64 ≡ c → 1 ≤ elim c [ true ↦ 0 | false ↦ get_or sy (16 * (t - 64)) 0 ] → 64 ≤ t
      go true e k = absurd (omega arith)
      go false e k = ltb-false t 64 e

  arity_variable : (t : ℕ) → t < 64 → arity_of sy t ≡ 0
  unfolding arity_of
  arity_variable t h = rw (lt-ltb t 64 h, arity_of)

  is_predicate : (p : ℕ) → eqb (kind_of sy p) 1 ≡ true → 64 ≤ p
  is_predicate p e = kind_symbol p (omega (arith, eqb-true (kind_of sy p) 1 e))

  is_function_lem : (f : ℕ) → is_function (kind_of sy f) ≡ true → 64 ≤ f
  is_function_lem f e = kind_symbol f (function_kind (kind_of sy f) e)

  -- The signature of any table agrees with the arities that walks go by.
  pub signature_agrees : Agrees (arity_of sy) (signature sy)
  unfolding signature
  signature_agrees =
      record {
        variables = arity_variable;
        functions = λ f n e. let w = if_some (is_function (kind_of sy f)) (arity_of sy f) n e in (w.1, is_function_lem f w.0);
        predicates = λ p n e. let w = if_some (eqb (kind_of sy p) 1) (arity_of sy p) n e in (w.1, is_predicate p w.0);
      }

  function_arity : (f : ℕ) → is_function (kind_of sy f) ≡ true → (signature sy).function f ≡ some (arity_of sy f)
  unfolding signature
  function_arity f e = ap (λ (c : Bool). elim c [ true ↦ some (arity_of sy f) | false ↦ none ]) e

  predicate_arity : (p : ℕ) → eqb (kind_of sy p) 1 ≡ true → (signature sy).predicate p ≡ some (arity_of sy p)
  unfolding signature
  predicate_arity p e = ap (λ (c : Bool). elim c [ true ↦ some (arity_of sy p) | false ↦ none ]) e

-- ---- good tokens
-- A list of `need` whole terms, and then n facts, with P of each variable.
pub data Split (S : Signature) (P : ℕ → Type 0) : ℕ → ℕ → List Term → Type 0 where
  done : Split S P zero zero []
  fact : {t : Term} {n : ℕ} {l : List Term} → is_fact S t ≡ true → EachVar P t → Split S P zero n l → Split S P zero (suc n) (t ∷ l)
  term : {t : Term} {m n : ℕ} {l : List Term} → is_term S t ≡ true → EachVar P t → Split S P m n l → Split S P (suc m) n (t ∷ l)

pub split_length : {S : Signature} {P : ℕ → Type 0} {m n : ℕ} {l : List Term} → Split S P m n l → length l ≡ m + n
split_length done = refl
split_length (fact e h s) = omega (arith, split_length s)
split_length (term e h s) = omega (arith, split_length s)

pub split_facts : {S : Signature} {P : ℕ → Type 0} {n : ℕ} {l : List Term} → Split S P 0 n l → (are_facts S l ≡ true) × EachVars P l
unfolding are_facts
split_facts done = (refl, tt)
split_facts (fact e h s) = let w = split_facts s in (true_both _ _ e w.0, (h, w.1))

-- A head that wants k, where W says what a term or a fact wants, takes the first k terms of a list.
module _ (S : Signature) (P : ℕ → Type 0) (W : Term → Option ℕ) (app : (a b : Term) → W (a · b) ≡ given (W a) (wants S b)) where
  abbrev Taken : ℕ → ℕ → Term → List Term → Type 0
  Taken m n t l = (W t ≡ some 0) × EachVar P t × Split S P m n l

  take_args :
      (k : ℕ) (t : Term) (l : List Term) (j m n : ℕ) → j ≡ k + m → W t ≡ some k → EachVar P t → Split S P j n l
      → Taken m n (applied t (take k l)) (drop k l)
  unfolding applied given
  take_args zero t l j m n e w h s = (w, h, subst (λ (z : ℕ). Split S P z n l) (e ∙ zero-add m) s)
  take_args (suc k) t l j m n e w h done = absurd (omega arith)
  take_args (suc k) t l j m n e w h (fact i g s) = absurd (omega arith)
  take_args (suc k) t l j m n e w h (term {t = u} {m = i} {l = r} f g s) =
      take_args k (t · u) r i m n (omega arith) (app t u ∙ ap₂ given w (is_term_wants S u f)) (h, g) s

module _ (sy : List ℕ) (v : ℕ) where
  abbrev LeafOk : (Term → Option ℕ) → ℕ → Term → Type 0
  LeafOk W t u = (W u ≡ some (arity_of sy t)) × EachVar (Numbered v) u

  -- A token that may stand in a term.
  term_leaf : (t : ℕ) → in_term sy v t ≡ true → LeafOk (wants (signature sy)) t (leaf t)
  unfolding in_term wants
  term_leaf t e = go (ltb t 64) refl e
    where
      go : (c : Bool) → ltb t 64 ≡ c → elim c [ true ↦ both (leb 1 t) (leb t v) | false ↦ is_function (kind_of sy t) ] ≡ true → LeafOk (wants (signature sy)) t (leaf t)
      go true l g =
          let w = both_true (leb 1 t) (leb t v) g in
          let h = ltb-true t 64 l in
          subst (LeafOk (wants (signature sy)) t) (sym (leaf_var t h)) (ap some (sym (arity_variable sy t h)), (leb-true 1 t w.0, leb-true t v w.1))
      go false l g = subst (LeafOk (wants (signature sy)) t) (sym (leaf_con t (ltb-false t 64 l))) (function_arity sy t g, tt)

  -- A token that may begin a fact.
  fact_leaf : (t : ℕ) → eqb (kind_of sy t) 1 ≡ true → LeafOk (fact_wants (signature sy)) t (leaf t)
  unfolding fact_wants
  fact_leaf t e = subst (LeafOk (fact_wants (signature sy)) t) (sym (leaf_con t (is_predicate sy t e))) (predicate_arity sy t e, tt)

  abbrev Reads : ℕ → ℕ → List Term → Type 0
  Reads = Split (signature sy) (Numbered v)

  -- One token more, inside a term and at the begin of a fact.
  term_more :
      (m n t : ℕ) (l : List Term) → in_term sy v t ≡ true → Reads (m + arity_of sy t) n l
      → Reads (suc m) n (applied (leaf t) (take (arity_of sy t) l) ∷ drop (arity_of sy t) l)
  unfolding wants
  term_more m n t l e s =
      let S = signature sy in
      let h = term_leaf t e in
      let w = take_args S (Numbered v) (wants S) (λ a b. refl) (arity_of sy t) (leaf t) l (m + arity_of sy t) m n (omega arith) h.0 h.1 s in
      term (wants_is_term S (applied (leaf t) (take (arity_of sy t) l)) w.0) w.1 w.2

  fact_more :
      (n t : ℕ) (l : List Term) → eqb (kind_of sy t) 1 ≡ true → Reads (arity_of sy t) n l
      → Reads 0 (suc n) (applied (leaf t) (take (arity_of sy t) l) ∷ drop (arity_of sy t) l)
  unfolding fact_wants is_fact whole
  fact_more n t l e s =
      let S = signature sy in
      let h = fact_leaf t e in
      let w = take_args S (Numbered v) (fact_wants S) (λ a b. refl) (arity_of sy t) (leaf t) l (arity_of sy t) 0 n (omega arith) h.0 h.1 s in
      fact (ap whole w.0) w.1 w.2

  -- Good tokens hold the terms that are still wanted, and then that many facts, with variables from 1 to v.
  pub good_terms : (need n : ℕ) (ts : List ℕ) → good_tokens sy v need n ts ≡ true → Split (signature sy) (Numbered v) need n (terms (arity_of sy) ts)
  unfolding good_tokens terms
  good_terms zero zero [] e = done
  good_terms zero zero (t ∷ ts) e = true≢false e refl
  good_terms zero (suc n) [] e = true≢false e refl
  good_terms zero (suc n) (t ∷ ts) e =
      let w = if_true (eqb (kind_of sy t) 1) (good_tokens sy v (arity_of sy t) n ts) e in
      fact_more n t (terms (arity_of sy) ts) w.0 (good_terms (arity_of sy t) n ts w.1)
  good_terms (suc m) n [] e = true≢false e refl
  good_terms (suc m) n (t ∷ ts) e =
      let w = if_true (in_term sy v t) (good_tokens sy v (m + arity_of sy t) n ts) e in
      term_more m n t (terms (arity_of sy) ts) w.0 (good_terms (m + arity_of sy t) n ts w.1)

-- ---- a rule's record
-- What the test of a record says.
pub record Tested (sy : List ℕ) (h T v : ℕ) (rec : List ℕ) : Type 0 where
  pub hyps_fit : get_or rec 0 0 ≤ h
  pub at_least : 2 ≤ get_or rec 1 0
  pub tokens_fit : get_or rec 1 0 ≤ T
  pub good_ones : good_tokens sy v 0 (suc (get_or rec 0 0)) (tokens_of rec) ≡ true
  pub zeros_left : zeros (drop (2 + get_or rec 1 0) rec) ≡ true

pub rule_tested : (sy : List ℕ) (h T v : ℕ) (rec : List ℕ) → rule_good sy h T v rec ≡ true → Tested sy h T v rec
unfolding rule_good
rule_tested sy h T v rec e =
    let n = get_or rec 0 0 in
    let m = get_or rec 1 0 in
    let a = both_true (both (leb n h) (both (leb 2 m) (leb m T))) (both (good_tokens sy v 0 (suc n) (tokens_of rec)) (zeros (drop (2 + m) rec))) e in
    let b = both_true (leb n h) (both (leb 2 m) (leb m T)) a.0 in
    let c = both_true (leb 2 m) (leb m T) b.1 in
    let d = both_true (good_tokens sy v 0 (suc n) (tokens_of rec)) (zeros (drop (2 + m) rec)) a.1 in
    record {
      hyps_fit = leb-true n h b.0;
      at_least = leb-true 2 m c.0;
      tokens_fit = leb-true m T c.1;
      good_ones = d.0;
      zeros_left = d.1;
    }

-- A rule that the tokens ts hold: well-formed, with n hypotheses and variables from 1 to v.
pub record Holds (S : Signature) (v n : ℕ) (ts : List ℕ) (r : Rule) : Type 0 where
  pub formed : well_formed S r ≡ true
  pub count : length r.hyps ≡ n
  pub tokens : leaves_all (r.concl ∷ r.hyps) ≡ ts
  pub numbered : EachVars (Numbered v) (r.concl ∷ r.hyps)

holds_facts :
    (S : Signature) (v n : ℕ) (ts : List ℕ) (l : List Term) → Split S (Numbered v) 0 (suc n) l → leaves_all l ≡ ts → Holds S v n ts (rule_of l)
unfolding rule_of well_formed
holds_facts S v n ts l (fact {t = c} {l = hs} e h s) k =
    let w = split_facts s in
    record {
      formed = true_both (is_fact S c) (are_facts S hs) e w.0;
      count = split_length s ∙ zero-add n;
      tokens = k;
      numbered = (h, w.1);
    }

-- A good record holds the rule that it is decoded to.
pub rule_good_lem : (sy : List ℕ) (h T v : ℕ) (rec : List ℕ) → rule_good sy h T v rec ≡ true → Holds (signature sy) v (get_or rec 0 0) (tokens_of rec) (decode_rule sy rec)
unfolding decode_rule
rule_good_lem sy h T v rec e =
    let ts = tokens_of rec in
    holds_facts (signature sy) v (get_or rec 0 0) ts (terms (arity_of sy) ts)
    (good_terms sy v 0 (suc (get_or rec 0 0)) ts (rule_tested sy h T v rec e).good_ones) (leaves_terms (arity_of sy) ts)

holds_size : (S : Signature) (v n : ℕ) (ts : List ℕ) (r : Rule) → Holds S v n ts r → size r.concl + size_all r.hyps ≡ length ts
unfolding size_all
holds_size S v n ts r k = sym (length_leaves_all (r.concl ∷ r.hyps)) ∙ ap length k.tokens

length_tokens_of : (rec : List ℕ) → 2 + get_or rec 1 0 ≤ length rec → length (tokens_of rec) ≡ get_or rec 1 0
unfolding tokens_of
length_tokens_of rec l = length-take-le (get_or rec 1 0) (drop 2 rec) (omega (arith, length-drop 2 rec))

-- .. of as many tokens as it counts, if all of them are there.
pub rule_size :
    (sy : List ℕ) (h T v : ℕ) (rec : List ℕ) → rule_good sy h T v rec ≡ true → 2 + get_or rec 1 0 ≤ length rec
    → size (decode_rule sy rec).concl + size_all (decode_rule sy rec).hyps ≡ get_or rec 1 0
rule_size sy h T v rec e l =
    holds_size (signature sy) v (get_or rec 0 0) (tokens_of rec) (decode_rule sy rec) (rule_good_lem sy h T v rec e) ∙ length_tokens_of rec l

-- A well-formed rule within the limits.
pub record Within (S : Signature) (h T v : ℕ) (r : Rule) : Type 0 where
  pub formed : well_formed S r ≡ true
  pub hyps_fit : length r.hyps ≤ h
  pub tokens_fit : size r.concl + size_all r.hyps ≤ T
  pub numbered : EachVars (Numbered v) (r.concl ∷ r.hyps)

pub rule_within : (sy : List ℕ) (h T v : ℕ) (rec : List ℕ) → rule_good sy h T v rec ≡ true → length rec ≡ T + 8 → Within (signature sy) h T v (decode_rule sy rec)
rule_within sy h T v rec e l =
    let k = rule_good_lem sy h T v rec e in
    let w = rule_tested sy h T v rec e in
    record {
      formed = k.formed;
      hyps_fit = omega (arith, k.count, w.hyps_fit);
      tokens_fit = omega (arith, rule_size sy h T v rec e (omega (arith, w.tokens_fit)), w.tokens_fit);
      numbered = k.numbered;
    }

-- ---- records and rules give each other back
zeros_are : (n : ℕ) (l : List ℕ) → n ≡ length l → zeros l ≡ true → replicate n 0 ≡ l
unfolding zeros
zeros_are zero [] h e = refl
zeros_are zero (b ∷ l) h e = absurd (omega arith)
zeros_are (suc n) [] h e = absurd (omega arith)
zeros_are (suc n) (b ∷ l) h e =
    let w = if_true (eqb b 0) (zeros l) e in
    ap₂ {C = List ℕ} (λ x y. x ∷ y) (sym (eqb-true b 0 w.0)) (zeros_are n l (omega arith) w.1)

then_zeros : (n b : ℕ) (l : List ℕ) → length l ≡ n → zeros (drop b l) ≡ true → take b l ++ replicate (n - b) 0 ≡ l
then_zeros n b l h e = ap (λ (s : List ℕ). take b l ++ s) (zeros_are (n - b) (drop b l) (omega (arith, length-drop b l)) e) ∙ take-append-drop b l

-- A record is its two counts, its tokens, and zeros.
pub record_parts :
    (T : ℕ) (rec : List ℕ) → length rec ≡ T + 8 → zeros (drop (2 + get_or rec 1 0) rec) ≡ true
    → get_or rec 0 0 ∷ get_or rec 1 0 ∷ (tokens_of rec ++ replicate (T + 6 - get_or rec 1 0) 0) ≡ rec
unfolding tokens_of
record_parts T [] l z = absurd (omega arith)
record_parts T (a ∷ []) l z = absurd (omega arith)
record_parts T (a ∷ b ∷ rest) l z =
    let p : 2 + b ≡ suc (suc b) = omega arith in
    ap (λ (s : List ℕ). a ∷ b ∷ s) (then_zeros (T + 6) b rest (omega arith) (rw p at z))

encode_parts :
    (T : ℕ) (r : Rule) (n m : ℕ) (ts : List ℕ) → length r.hyps ≡ n → size r.concl + size_all r.hyps ≡ m → leaves_all (r.concl ∷ r.hyps) ≡ ts
    → encode_input T r ≡ n ∷ m ∷ (ts ++ replicate (T + 6 - m) 0)
unfolding encode_input
encode_parts T r n m ts e f g = cc

-- A good record is given back by the rule that it holds.
pub encode_decode : (sy : List ℕ) (h T v : ℕ) (rec : List ℕ) → rule_good sy h T v rec ≡ true → length rec ≡ T + 8 → encode_input T (decode_rule sy rec) ≡ rec
encode_decode sy h T v rec e l =
    let k = rule_good_lem sy h T v rec e in
    let w = rule_tested sy h T v rec e in
    encode_parts T (decode_rule sy rec) (get_or rec 0 0) (get_or rec 1 0) (tokens_of rec) k.count
    (rule_size sy h T v rec e (omega (arith, w.tokens_fit))) k.tokens
    ∙ record_parts T rec l w.zeros_left

tokens_encode : (T : ℕ) (r : Rule) → tokens_of (encode_input T r) ≡ leaves_all (r.concl ∷ r.hyps)
unfolding tokens_of encode_input size_all
tokens_encode T r =
    let n = size r.concl + size_all r.hyps in
    take_at (leaves_all (r.concl ∷ r.hyps)) (replicate (T + 6 - n) 0) n (length_leaves_all (r.concl ∷ r.hyps))

-- A well-formed rule whose variables can be tokens is given back by its record.
pub decode_encode : (sy : List ℕ) (T : ℕ) (r : Rule) → well_formed (signature sy) r ≡ true → EachVars Small (r.concl ∷ r.hyps) → decode_rule sy (encode_input T r) ≡ r
unfolding decode_rule rule_of well_formed are_facts
decode_encode sy T r e h =
    ap (λ (ts : List ℕ). rule_of (terms (arity_of sy) ts)) (tokens_encode T r)
    ∙ ap rule_of (terms_facts (arity_of sy) (signature sy) (signature_agrees sy) (r.concl ∷ r.hyps) e h)

pub length_encode : (T : ℕ) (r : Rule) → size r.concl + size_all r.hyps ≤ T → length (encode_input T r) ≡ T + 8
unfolding encode_input size_all
length_encode T r h =
    let n = size r.concl + size_all r.hyps in
    let l = leaves_all (r.concl ∷ r.hyps) in
    let z : List ℕ = replicate (T + 6 - n) 0 in
    let k : length z ≡ T + 6 - n = length-replicate (T + 6 - n) 0 in
    omega (arith, length-append l z, length_leaves_all (r.concl ∷ r.hyps))

-- ---- the query
pub numbered_closed : (t : Term) → EachVar (Numbered 0) t → closed t ≡ true
unfolding closed
numbered_closed (var x) h = absurd (omega arith)
numbered_closed (con f) h = refl
numbered_closed (a · b) h = true_both (closed a) (closed b) (numbered_closed a h.0) (numbered_closed b h.1)

no_hyps : (l : List Term) → length l ≤ 0 → l ≡ []
no_hyps [] h = refl
no_hyps (t ∷ l) h = absurd (omega arith)

-- A good query is a closed fact, and has no hypotheses.
pub query_good_lem :
    (sy : List ℕ) (T : ℕ) (rec : List ℕ) → rule_good sy 0 T 0 rec ≡ true
    → (closed (decode_query sy rec) ≡ true) × (is_fact (signature sy) (decode_query sy rec) ≡ true) × ((decode_rule sy rec).hyps ≡ [])
unfolding decode_query
query_good_lem sy T rec e =
    let k = rule_good_lem sy 0 T 0 rec e in
    let w = rule_tested sy 0 T 0 rec e in
    let r = decode_rule sy rec in
    (numbered_closed r.concl k.numbered.0, wf_concl (signature sy) r k.formed, no_hyps r.hyps (omega (arith, k.count, w.hyps_fit)))

-- ---- the symbol table
if_none : (c : Bool) (i : ℕ) (o : Option ℕ) → ◌≡◌ {A = Option ℕ} (elim c [ false ↦ some i | true ↦ o ]) none → (c ≡ true) × (o ≡ none)
if_none true i o e = (refl, e)
if_none false i o e = no_confusion (cc)

-- Where no record is bad, each is good.
symbols_each : (sy : List ℕ) (n i : ℕ) (l : List ℕ) → first_bad_symbol sy n i l ≡ none → (k : ℕ) → k < n → symbol_good sy (i + k) (drop (16 * k) l) ≡ true
unfolding first_bad_symbol
symbols_each sy zero i l e k h = absurd (omega arith)
symbols_each sy (suc n) i l e zero h =
    ap (λ (z : ℕ). symbol_good sy z l) (add-zero i) ∙ (if_none (symbol_good sy i l) i (first_bad_symbol sy n (suc i) (drop 16 l)) e).0
symbols_each sy (suc n) i l e (suc k) h =
    let p : i + suc k ≡ suc i + k = omega arith in
    let q : 16 * suc k ≡ 16 + 16 * k = omega arith in
    let w = if_none (symbol_good sy i l) i (first_bad_symbol sy n (suc i) (drop 16 l)) e in
    ap₂ (symbol_good sy) p (ap (λ (z : ℕ). drop z l) q ∙ sym (drop-drop (16 * k) 16 l)) ∙ symbols_each sy n (suc i) (drop 16 l) w.1 k (omega arith)

pub symbol_good_lem : (sy : List ℕ) → first_bad_symbol sy (length sy / 16) 0 sy ≡ none → (k : ℕ) → k < length sy / 16 → symbol_good sy k (drop (16 * k) sy) ≡ true
symbol_good_lem sy e k h = ap (λ (z : ℕ). symbol_good sy z (drop (16 * k) sy)) (sym (zero-add k)) ∙ symbols_each sy (length sy / 16) 0 sy e k h

inside : (l : List ℕ) (i : ℕ) → 1 ≤ get_or l i 0 → i < length l
inside [] i h = absurd (omega arith)
inside (x ∷ l) zero h = omega arith
inside (x ∷ l) (suc i) h = omega (arith, inside l i h)

kind_at : (sy : List ℕ) (t : ℕ) → 64 ≤ t → kind_of sy t ≡ get_or sy (16 * (t - 64)) 0
unfolding kind_of
kind_at sy t h = rw (le-ltb t 64 h, kind_of)

arity_at : (sy : List ℕ) (t : ℕ) → 64 ≤ t → arity_of sy t ≡ get_or sy (16 * (t - 64) + 1) 0
unfolding arity_of
arity_at sy t h = rw (le-ltb t 64 h, arity_of)

shape_predicate : (k a : ℕ) → k ≡ 1 → shape_good k a ≡ true → 1 ≤ a
unfolding shape_good
shape_predicate k a e g = go (eqb k 1) (eq-eqb k 1 e) g
  where
    go : (c : Bool) → c ≡ true → elim c [ true ↦ both (leb 1 a) (leb a 4) | false ↦ both (is_function k) (leb a 6) ] ≡ true → 1 ≤ a
    go true z w = leb-true 1 a (both_true (leb 1 a) (leb a 4) w).0
    go false z w = true≢false z refl

symbol_shape : (sy : List ℕ) (i : ℕ) (rec : List ℕ) → symbol_good sy i rec ≡ true → shape_good (get_or rec 0 0) (get_or rec 1 0) ≡ true
unfolding symbol_good
symbol_shape sy i rec e =
    (both_true (shape_good (get_or rec 0 0) (get_or rec 1 0))
    (both (first_good i (get_or rec 0 0) (get_or rec 1 0)) (both (name_good (take 14 (drop 2 rec))) (name_new (take 14 (drop 2 rec)) i sy))) e).0

predicate_at :
    (sy : List ℕ) → first_bad_symbol sy (length sy / 16) 0 sy ≡ none → length sy % 16 ≡ 0
    → (i : ℕ) → get_or sy (16 * i) 0 ≡ 1 → 1 ≤ get_or sy (16 * i + 1) 0
predicate_at sy e m i h =
    let b : i < length sy / 16 = omega (arith, inside sy (16 * i) (omega arith)) in
    let g = symbol_shape sy i (drop (16 * i) sy) (symbol_good_lem sy e i b) in
    let k : get_or (drop (16 * i) sy) 0 0 ≡ 1 = get_or-drop (16 * i) sy 0 0 ∙ ap (λ (z : ℕ). get_or sy z 0) (add-zero (16 * i)) ∙ h in
    omega (arith, shape_predicate (get_or (drop (16 * i) sy) 0 0) (get_or (drop (16 * i) sy) 1 0) k g, get_or-drop (16 * i) sy 1 0)

-- In a good table no predicate goes without arguments.
pub symbols_good_lem :
    (sy : List ℕ) → first_bad_symbol sy (length sy / 16) 0 sy ≡ none → length sy % 16 ≡ 0 → (p : ℕ) → (signature sy).predicate p ≡ some 0 → ⊥
unfolding signature
symbols_good_lem sy e m p h =
    let w = if_some (eqb (kind_of sy p) 1) (arity_of sy p) 0 h in
    let l = is_predicate sy p w.0 in
    let k = sym (kind_at sy p l) ∙ eqb-true (kind_of sy p) 1 w.0 in
    let a = sym (arity_at sy p l) ∙ w.1 in
    omega (arith, predicate_at sy e m (p - 64) k, a)

-- ---- the rules
pub length_decode_rules : (sy : List ℕ) (size n : ℕ) (l : List ℕ) → length (decode_rules sy size n l) ≡ n
unfolding decode_rules
length_decode_rules sy size zero l = refl
length_decode_rules sy size (suc n) l = ap suc (length_decode_rules sy size n (drop size l))

-- Rule j is that of record j.
pub decode_rules_at :
    (sy : List ℕ) (size n : ℕ) (l : List ℕ) (j : ℕ) → j < n → rule_at (decode_rules sy size n l) j ≡ some (decode_rule sy (take size (drop (j * size) l)))
unfolding decode_rules rule_at
decode_rules_at sy size zero l j h = absurd (omega arith)
decode_rules_at sy size (suc n) l zero h =
    let p : 0 * size ≡ 0 = omega arith in
    sym (ap (λ (z : ℕ). some (decode_rule sy (take size (drop z l)))) p)
decode_rules_at sy size (suc n) l (suc j) h =
    let p : size + j * size ≡ suc j * size = omega arith in
    decode_rules_at sy size n (drop size l) j (omega arith)
    ∙ ap (λ (z : List ℕ). some (decode_rule sy (take size z))) (drop-drop (j * size) size l ∙ ap (λ (k : ℕ). drop k l) p)

module _ (sy : List ℕ) (h T v : ℕ) where
  rules_each :
      (n i : ℕ) (ru : List ℕ) → first_bad_rule sy h T v n i ru ≡ none → length ru ≡ n * (T + 8)
      → (j : ℕ) (r : Rule) → rule_at (decode_rules sy (T + 8) n ru) j ≡ some r → Within (signature sy) h T v r
  unfolding first_bad_rule decode_rules rule_at
  rules_each zero i ru e l j r a = no_confusion (cc)
  rules_each (suc n) i ru e l zero r a =
      let w = if_none (rule_good sy h T v (take (T + 8) ru)) i (first_bad_rule sy h T v n (suc i) (drop (T + 8) ru)) e in
      let p : decode_rule sy (take (T + 8) ru) ≡ r = cc in
      subst (Within (signature sy) h T v) p (rule_within sy h T v (take (T + 8) ru) w.0 (length-take-le (T + 8) ru (omega arith)))
  rules_each (suc n) i ru e l (suc j) r a =
      let w = if_none (rule_good sy h T v (take (T + 8) ru)) i (first_bad_rule sy h T v n (suc i) (drop (T + 8) ru)) e in
      rules_each n (suc i) (drop (T + 8) ru) w.1 (omega (arith, length-drop (T + 8) ru)) j r a

  -- Where no record is bad, each is good.
  pub rule_at_good : (n i : ℕ) (ru : List ℕ) → first_bad_rule sy h T v n i ru ≡ none → (j : ℕ) → j < n → rule_good sy h T v (take (T + 8) (drop (j * (T + 8)) ru)) ≡ true
  unfolding first_bad_rule
  rule_at_good zero i ru e j l = absurd (omega arith)
  rule_at_good (suc n) i ru e zero l =
      ap (λ (k : ℕ). rule_good sy h T v (take (T + 8) (drop k ru))) (let p : 0 * (T + 8) ≡ 0 = omega arith in p)
      ∙ (if_none (rule_good sy h T v (take (T + 8) ru)) i (first_bad_rule sy h T v n (suc i) (drop (T + 8) ru)) e).0
  rule_at_good (suc n) i ru e (suc j) l =
      let w = if_none (rule_good sy h T v (take (T + 8) ru)) i (first_bad_rule sy h T v n (suc i) (drop (T + 8) ru)) e in
      let p : T + 8 + j * (T + 8) ≡ suc j * (T + 8) = omega arith in
      ap (λ (z : List ℕ). rule_good sy h T v (take (T + 8) z)) (ap (λ (k : ℕ). drop k ru) (sym p) ∙ sym (drop-drop (j * (T + 8)) (T + 8) ru))
      ∙ rule_at_good n (suc i) (drop (T + 8) ru) w.1 j (omega arith)

  -- .. and holds a rule that is well-formed and within the limits.
  pub rules_good_lem :
      (n : ℕ) (ru : List ℕ) → first_bad_rule sy h T v n 0 ru ≡ none → length ru ≡ n * (T + 8)
      → (r : Rule) → Input (decode_rules sy (T + 8) n ru) r → Within (signature sy) h T v r
  rules_good_lem n ru e l r a = rules_each n 0 ru e l a.0 r a.1

-- ---- the whole input
-- What an input that is not refused holds, where records have at most h hypotheses, T tokens and v variables.
pub record Accepted (h T v : ℕ) (sy ru qu : List ℕ) : Type 0 where
  pub symbols_least : 16 ≤ length sy
  pub symbols_most : length sy ≤ 2048
  pub symbols_even : length sy % 16 ≡ 0
  pub symbols_good : first_bad_symbol sy (length sy / 16) 0 sy ≡ none
  pub no_bare : (p : ℕ) → (signature sy).predicate p ≡ some 0 → ⊥
  pub rules_most : length ru / (T + 8) ≤ 256
  pub rules_length : length ru ≡ length ru / (T + 8) * (T + 8)
  pub rules_good : first_bad_rule sy h T v (length ru / (T + 8)) 0 ru ≡ none
  pub rules : (r : Rule) → Input (decode_rules sy (T + 8) (length ru / (T + 8)) ru) r → Within (signature sy) h T v r
  pub query_length : length qu ≡ T + 8
  pub query_good : rule_good sy 0 T 0 qu ≡ true
  pub query_closed : closed (decode_query sy qu) ≡ true
  pub query_fact : is_fact (signature sy) (decode_query sy qu) ≡ true
  pub query_alone : (decode_rule sy qu).hyps ≡ []
  pub query_fits : size (decode_query sy qu) ≤ T

-- The tests in their order.
abbrev Answer : Type 0
Answer = Result Unit Refusal

good_if : (c : Bool) (f : Refusal) (a : Answer) → ◌≡◌ {A = Answer} (elim c [ false ↦ Err f | true ↦ a ]) (Ok tt) → (c ≡ true) × (a ≡ Ok tt)
good_if true f a e = (refl, e)
good_if false f a e = no_confusion (cc)

good_none : (o : Option ℕ) (f : ℕ → Refusal) (a : Answer) → ◌≡◌ {A = Answer} (elim o [ some i ↦ Err (f i) | none ↦ a ]) (Ok tt) → (o ≡ none) × (a ≡ Ok tt)
good_none none f a e = (refl, e)
good_none (some i) f a e = no_confusion (cc)

query_passed : (sy : List ℕ) (T : ℕ) (qu : List ℕ) → query_input sy T qu ≡ Ok tt → (length qu ≡ T + 8) × (rule_good sy 0 T 0 qu ≡ true)
unfolding query_input
query_passed sy T qu e =
    let a = good_if (eqb (length qu) (T + 8)) (Query Length) (elim (rule_good sy 0 T 0 qu) [ false ↦ Err (Query (Record 0)) | true ↦ Ok tt ]) e in
    (eqb-true (length qu) (T + 8) a.0, (good_if (rule_good sy 0 T 0 qu) (Query (Record 0)) (Ok tt) a.1).0)

rules_passed :
    (sy : List ℕ) (h T v : ℕ) (ru qu : List ℕ) → rules_input sy h T v ru qu ≡ Ok tt
    → (rules_length T (length ru) ≡ true) × (first_bad_rule sy h T v (length ru / (T + 8)) 0 ru ≡ none) × (query_input sy T qu ≡ Ok tt)
unfolding rules_input
rules_passed sy h T v ru qu e =
    let o = first_bad_rule sy h T v (length ru / (T + 8)) 0 ru in
    let q = query_input sy T qu in
    let a = good_if (rules_length T (length ru)) (Rules Length) (elim o [ some i ↦ Err (Rules (Record i)) | none ↦ q ]) e in
    let b = good_none o (λ i. Rules (Record i)) q a.1 in
    (a.0, b.0, b.1)

symbols_passed :
    (h T v : ℕ) (sy ru qu : List ℕ) → input_of h T v sy ru qu ≡ Ok tt
    → (symbols_length (length sy) ≡ true) × (first_bad_symbol sy (length sy / 16) 0 sy ≡ none) × (rules_input sy h T v ru qu ≡ Ok tt)
unfolding input_of
symbols_passed h T v sy ru qu e =
    let o = first_bad_symbol sy (length sy / 16) 0 sy in
    let q = rules_input sy h T v ru qu in
    let a = good_if (symbols_length (length sy)) (Symbols Length) (elim o [ some i ↦ Err (Symbols (Record i)) | none ↦ q ]) e in
    let b = good_none o (λ i. Symbols (Record i)) q a.1 in
    (a.0, b.0, b.1)

symbols_length_lem : (n : ℕ) → symbols_length n ≡ true → (16 ≤ n) × (n ≤ 2048) × (n % 16 ≡ 0)
unfolding symbols_length
symbols_length_lem n e =
    let a = both_true (both (leb 16 n) (leb n 2048)) (eqb (n % 16) 0) e in
    let b = both_true (leb 16 n) (leb n 2048) a.0 in
    (leb-true 16 n b.0, leb-true n 2048 b.1, eqb-true (n % 16) 0 a.1)

rules_length_lem : (T n : ℕ) → rules_length T n ≡ true → (n / (T + 8) ≤ 256) × (n ≡ n / (T + 8) * (T + 8))
unfolding rules_length
rules_length_lem T n e =
    let a = both_true (leb n (256 * (T + 8))) (eqb (n % (T + 8)) 0) e in
    let b : n ≤ (T + 8) * 256 = omega (arith, leb-true n (256 * (T + 8)) a.0) in
    (div-le_of_le-mul (T + 8) b, omega (arith, div-add-mod' n (T + 8), eqb-true (n % (T + 8)) 0 a.1))

query_size : (r : Rule) (T : ℕ) → size r.concl + size_all r.hyps ≤ T → size r.concl ≤ T
query_size r T h = omega arith

-- An input that is not refused is good throughout.
pub accepted : (h T v : ℕ) (sy ru qu : List ℕ) → input_of h T v sy ru qu ≡ Ok tt → Accepted h T v sy ru qu
unfolding decode_query
accepted h T v sy ru qu e =
    let a = symbols_passed h T v sy ru qu e in
    let b = rules_passed sy h T v ru qu a.2 in
    let c = query_passed sy T qu b.2 in
    let s = symbols_length_lem (length sy) a.0 in
    let r = rules_length_lem T (length ru) b.0 in
    let q = query_good_lem sy T qu c.1 in
    record {
      symbols_least = s.0;
      symbols_most = s.1;
      symbols_even = s.2;
      symbols_good = a.1;
      no_bare = symbols_good_lem sy a.1 s.2;
      rules_most = r.0;
      rules_length = r.1;
      rules_good = b.1;
      rules = rules_good_lem sy h T v (length ru / (T + 8)) ru b.1 r.1;
      query_length = c.0;
      query_good = c.1;
      query_closed = q.0;
      query_fact = q.1;
      query_alone = q.2;
      query_fits = query_size (decode_rule sy qu) T (rule_within sy 0 T 0 qu c.1 c.0).tokens_fit;
    }
