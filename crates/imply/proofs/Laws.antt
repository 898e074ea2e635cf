-- Laws of implication that the functions' proofs cite: a turn of each loop, its end, and what rules an implication out. Assumes nothing.
use mathlib.Core.Path.{◌≡◌, refl, sym, ap, ap₂, ◌∙◌}
use mathlib.Core.Bool.{Bool, true, false}
use mathlib.Core.Option.{Option, none, some}
use mathlib.Core.List.{List, [], ◌∷◌, ◌++◌}
use Prim.Native.Nat.{ℕ, zero, suc, ◌+◌, ◌-◌, ◌≤◌, ◌<◌, min}
use native.Mathlib.Numerals.{add-one}
use native.Mathlib.Omega.{arith}
use borrow.Author.Tests.{eq-eqb, ne_eqb, lt-ltb, le-ltb, le-leb, lt-leb, eqb-true, eqb-false, leb-false}
use lib.Dec.{eqb, leb, ltb}
use lib.ListN.{length, take, drop, get_or, length-take, drop_of_length-le}
use lib.Seq.{drop-nil}
use Rattle.std.proofs.lemmas.List.{append-nil, drop_more, take_at, drop_at, take_all, drop_all, length-append, get_or_append_left}
use Rattle.model.specs.Term.{both}
use Rattle.theory.specs.Basics.{true≢false}
use Rattle.records.specs.Symbols.{arity_of}
use Rattle.records.specs.Tokens.{span}
use Rattle.records.specs.Rules.{tokens_of}
use Rattle.records.proofs.Laws.{less}
use Rattle.terms.specs.Facts.{fact_at, hypothesis_of}
use Rattle.matching.specs.Match.{matched, onward, unbound}
use Rattle.matching.proofs.Laws.{onward_no, onward_yes}
use Rattle.imply.specs.Imply.{free, used_by, any, into, carried, implies_bytes, first_bytes}
use Rattle.imply.specs.ImplyLaws.{used_here, used_other}
use Rattle.imply.specs.Filter.{may_match, has_place, may_imply}

-- ---- sets
-- How many of the k numbers from i on are not in the set u.
frees : ℕ → ℕ → ℕ → ℕ
frees u i zero = 0
frees u i (suc k) = elim (free u i) [ true ↦ suc (frees u (suc i) k) | false ↦ frees u (suc i) k ]

frees_le : (u i k : ℕ) → frees u i k ≤ k
unfolding frees
frees_le u i zero = omega arith
frees_le u i (suc k) = go (free u i) (frees_le u (suc i) k)
  where
    go : (c : Bool) → frees u (suc i) k ≤ k → elim c [ true ↦ suc (frees u (suc i) k) | false ↦ frees u (suc i) k ] ≤ suc k
    go true h = omega arith
    go false h = omega arith

abbrev counted : Bool → ℕ → ℕ
counted true n = suc n
counted false n = n

frees_suc : (u i k : ℕ) → frees u i (suc k) ≡ counted (free u i) (frees u (suc i) k)
unfolding frees
frees_suc u i k = elim (free u i) as (λ c. elim c as (λ _. ℕ) [ true ↦ suc (frees u (suc i) k) | false ↦ frees u (suc i) k ] ≡ counted c (frees u (suc i) k)) [ true ↦ refl | false ↦ refl ]

-- a number below those counted changes nothing
frees_out : (u j i k : ℕ) → j < i → frees (used_by u j) i k ≡ frees u i k
unfolding frees
frees_out u j i zero h = refl
frees_out u j i (suc k) h = frees_suc (used_by u j) i k ∙ ap₂ counted (used_other u j i (λ e. omega arith)) (frees_out u j (suc i) k (omega arith)) ∙ sym (frees_suc u i k)

-- one of those counted is one less
frees_used : (u j i k : ℕ) → i ≤ j → j < i + k → free u j ≡ true → suc (frees (used_by u j) i k) ≡ frees u i k
frees_used u j i zero g h f = absurd (omega arith)
frees_used u j i (suc k) g h f = ap suc (frees_suc (used_by u j) i k) ∙ go (eqb i j) refl (λ n. frees_used u j (suc i) k (omega arith) (omega arith) f) ∙ sym (frees_suc u i k)
  where
    swap : (c : Bool) (n : ℕ) → suc (counted c n) ≡ counted c (suc n)
    swap true n = refl
    swap false n = refl

    go : (b : Bool) → eqb i j ≡ b → (i < j → suc (frees (used_by u j) (suc i) k) ≡ frees u (suc i) k)
        → suc (counted (free (used_by u j) i) (frees (used_by u j) (suc i) k)) ≡ counted (free u i) (frees u (suc i) k)
    go true e rec =
        let q = eqb-true i j e in
        ap₂ (λ (c : Bool) (n : ℕ). suc (counted c n)) (ap (free (used_by u j)) q ∙ used_here u j) (frees_out u j (suc i) k (omega arith))
        ∙ ap (λ (c : Bool). counted c (frees u (suc i) k)) (sym (ap (free u) q ∙ f))
    go false e rec =
        let n = eqb-false i j e in
        swap (free (used_by u j) i) (frees (used_by u j) (suc i) k) ∙ ap₂ counted (used_other u j i n) (rec (omega arith))

-- ---- one of several numbers
any_none : (f : ℕ → Bool) (j k : ℕ) → ((i : ℕ) → j ≤ i → i < j + k → f i ≡ false) → any f j k ≡ false
unfolding any
any_none f j zero h = refl
any_none f j (suc k) h = rw (h j (omega arith) (omega arith), any) (any_none f (suc j) k (λ i g l. h i (omega arith) (omega arith)))

none_any : (f : ℕ → Bool) (j k : ℕ) → any f j k ≡ false → (i : ℕ) → j ≤ i → i < j + k → f i ≡ false
unfolding any
none_any f j zero e i g l = absurd (omega arith)
none_any f j (suc k) e i g l = go (f j) refl e (λ q. none_any f (suc j) k q i)
  where
    go : (c : Bool) → f j ≡ c → elim c [ true ↦ true | false ↦ any f (suc j) k ] ≡ false → (any f (suc j) k ≡ false → suc j ≤ i → i < suc j + k → f i ≡ false) → f i ≡ false
    go true q w rec = true≢false refl w
    go false q w rec = elim (eqb i j) as (λ c. eqb i j ≡ c → f i ≡ false) [
      | true ↦ λ s. ap f (eqb-true i j s) ∙ q
      | false ↦ λ s. (let n = eqb-false i j s in rec w (omega arith) (omega arith))
    ] refl

-- ---- on with a match
onward_none : (x : Bool × List ℕ) (k : List ℕ → Bool) → ((b : List ℕ) → k b ≡ false) → onward x k ≡ false
unfolding onward
onward_none x k h = elim x.0 as (λ c. elim c [ true ↦ k x.1 | false ↦ false ] ≡ false) [ true ↦ h x.1 | false ↦ refl ]

-- ---- the symbols that a pattern begins with
-- Where they do not stand at a place, the pattern does not match there.
unmatched : (ar : ℕ → ℕ) (pat text : List ℕ) (p : ℕ) (b : List ℕ) → may_match pat text p ≡ false → (matched ar pat text p b).0 ≡ false
unfolding may_match matched
unmatched ar [] text p b e = true≢false refl e
unmatched ar (t ∷ ts) text p b e = go (ltb t 64) (eqb t (get_or text p 0)) refl refl e (unmatched ar ts text (suc p) b)
  where
    go : (c d : Bool) → ltb t 64 ≡ c → eqb t (get_or text p 0) ≡ d → elim c [ true ↦ true | false ↦ elim d [ true ↦ may_match ts text (suc p) | false ↦ false ] ] ≡ false
        → (may_match ts text (suc p) ≡ false → (matched ar ts text (suc p) b).0 ≡ false) → (matched ar (t ∷ ts) text p b).0 ≡ false
    go true d q w f rec = true≢false refl f
    go false true q w f rec = rw (q, w, matched) (rec f)
    go false false q w f rec = rw (q, w, matched)

pub ruleset lead = (drop_more, drop_of_length-le, lt-ltb, le-ltb, eq-eqb, ne_eqb)

-- ---- one hypothesis into another
module _ (ar : ℕ → ℕ) (rt qt : List ℕ) (k u : ℕ) (b : List ℕ) (rest : ℕ → List ℕ → Bool) (j : ℕ) where
  into_used : free u j ≡ false → into ar rt qt k u b rest j ≡ false
  unfolding into
  into_used e = rw (e, into)

  into_on : free u j ≡ true → into ar rt qt k u b rest j ≡ onward (matched ar (fact_at ar (suc k) rt) qt (span ar (suc j) qt) b) (rest (used_by u j))
  unfolding into
  into_on e = rw (e, into)

  -- whatever is bound, the rest fails
  into_none : (free u j ≡ true → (c : List ℕ) → rest (used_by u j) c ≡ false) → into ar rt qt k u b rest j ≡ false
  into_none h = elim (free u j) as (λ c. free u j ≡ c → into ar rt qt k u b rest j ≡ false) [
    | true ↦ λ e. into_on e ∙ onward_none _ _ (h e)
    | false ↦ λ e. into_used e
  ] refl

  into_unmatched : (matched ar (fact_at ar (suc k) rt) qt (span ar (suc j) qt) b).0 ≡ false → into ar rt qt k u b rest j ≡ false
  into_unmatched h = elim (free u j) as (λ c. free u j ≡ c → into ar rt qt k u b rest j ≡ false) [
    | true ↦ λ e. into_on e ∙ onward_no _ _ h
    | false ↦ λ e. into_used e
  ] refl

  into_other : may_match (fact_at ar (suc k) rt) qt (span ar (suc j) qt) ≡ false → into ar rt qt k u b rest j ≡ false
  into_other e = into_unmatched (unmatched ar (fact_at ar (suc k) rt) qt (span ar (suc j) qt) b e)

-- ---- what rules an implication out
module _ (ar : ℕ → ℕ) (rt qt : List ℕ) (m : ℕ) where
  -- More hypotheses are to be carried than there are places left.
  carried_many : (n k u : ℕ) (b : List ℕ) → frees u 0 m < n → carried ar rt qt m k n u b ≡ false
  unfolding carried
  carried_many zero k u b h = absurd (omega arith)
  carried_many (suc n) k u b h =
      any_none (into ar rt qt k u b (carried ar rt qt m (suc k) n)) 0 m (λ j g l. into_none ar rt qt k u b (carried ar rt qt m (suc k) n) j
      (λ e c. carried_many n (suc k) (used_by u j) c (omega (arith, frees_used u j 0 m g l e))))

  -- Hypothesis h may go into no place.
  carried_placeless : (h : ℕ) → has_place ar qt m (fact_at ar (suc h) rt) ≡ false → (n k u : ℕ) (b : List ℕ) → k ≤ h → h < k + n → carried ar rt qt m k n u b ≡ false
  unfolding carried has_place
  carried_placeless h e zero k u b g l = absurd (omega arith)
  carried_placeless h e (suc n) k u b g l =
      any_none (into ar rt qt k u b (carried ar rt qt m (suc k) n)) 0 m (λ j i w. elim (eqb h k) as (λ c. eqb h k ≡ c → into ar rt qt k u b (carried ar rt qt m (suc k) n) j ≡ false) [
        | true ↦ λ q. into_other ar rt qt k u b (carried ar rt qt m (suc k) n) j
            (ap (λ (x : ℕ). may_match (fact_at ar (suc x) rt) qt (span ar (suc j) qt)) (sym (eqb-true h k q)) ∙ none_any (λ j. may_match (fact_at ar (suc h) rt) qt (span ar (suc j) qt)) 0 m e j i w)
        | false ↦ λ q. (let d = eqb-false h k q in into_none ar rt qt k u b (carried ar rt qt m (suc k) n) j (λ _ c. carried_placeless h e n (suc k) (used_by u j) c (omega arith) (omega arith)))
      ] refl)

module _ (sy r q : List ℕ) where
  pub implies_placeless : (h : ℕ) → h < get_or r 0 0 → has_place (arity_of sy) (tokens_of q) (get_or q 0 0) (fact_at (arity_of sy) (suc h) (tokens_of r)) ≡ false → implies_bytes sy r q ≡ false
  unfolding implies_bytes
  implies_placeless h l e = onward_none _ _ (λ b. carried_placeless (arity_of sy) (tokens_of r) (tokens_of q) (get_or q 0 0) h e (get_or r 0 0) 0 0 b (omega arith) (omega arith))

  implies_many : get_or q 0 0 < get_or r 0 0 → implies_bytes sy r q ≡ false
  unfolding implies_bytes
  implies_many l = onward_none _ _ (λ b. carried_many (arity_of sy) (tokens_of r) (tokens_of q) (get_or q 0 0) (get_or r 0 0) 0 0 b (omega (arith, frees_le 0 0 (get_or q 0 0))))

-- ---- one of several numbers, the first by itself
pub any_hit : (f : ℕ → Bool) (j n : ℕ) → 0 < n → f j ≡ true → any f j n ≡ true
unfolding any
any_hit f j zero h e = absurd (omega arith)
any_hit f j (suc n) h e = rw (any, e)

pub any_on : (f : ℕ → Bool) (j n : ℕ) → 0 < n → f j ≡ false → any f j n ≡ any f (j + 1) (n - 1)
unfolding any
any_on f j zero h e = absurd (omega arith)
any_on f j (suc n) h e = let k : suc n - 1 ≡ n = omega arith in rw (any, e, any, add-one, k)

pub any_over : (f : ℕ → Bool) (j n : ℕ) → n ≡ 0 → any f j n ≡ false
unfolding any
any_over f j n h = rw h

-- ---- is there a place in q for a fact
-- Does a fact go into hypothesis j of q?
unfoldable pub fits : List ℕ → List ℕ → List ℕ → ℕ → Bool
fits sy q f j = may_match f (tokens_of q) (span (arity_of sy) (suc j) (tokens_of q))

pub place_start : (sy q f : List ℕ) → has_place (arity_of sy) (tokens_of q) (get_or q 0 0) f ≡ any (fits sy q f) 0 (get_or q 0 0)
unfolding has_place fits
place_start sy q f = refl

pub fits_at : (sy q f : List ℕ) (j i : ℕ) → i ≡ j + 1 → fits sy q f j ≡ may_match f (tokens_of q) (span (arity_of sy) i (tokens_of q))
unfolding fits
fits_at sy q f j i e = rw (e, add-one)

pub ruleset places = (place_start, fits_at, any_hit, any_on, any_over)

pub ruleset counts = (lt-leb, le-leb)

-- ---- the search
-- Hypothesis k of r into hypothesis j of q, and then the rest.
unfoldable pub way : List ℕ → List ℕ → List ℕ → ℕ → ℕ → List ℕ → ℕ → Bool
way sy r q k u b = into (arity_of sy) (tokens_of r) (tokens_of q) k u b (carried (arity_of sy) (tokens_of r) (tokens_of q) (get_or q 0 0) (k + 1) (get_or r 0 0 - (k + 1)))

module _ (sy r q : List ℕ) (k u : ℕ) (b : List ℕ) where
  abbrev ar : ℕ → ℕ
  ar = arity_of sy

  abbrev rest : ℕ → List ℕ → Bool
  rest = carried ar (tokens_of r) (tokens_of q) (get_or q 0 0) (k + 1) (get_or r 0 0 - (k + 1))

  pub carry_done : get_or r 0 0 ≤ k → carried ar (tokens_of r) (tokens_of q) (get_or q 0 0) k (get_or r 0 0 - k) u b ≡ true
  unfolding carried
  carry_done h = let e : get_or r 0 0 - k ≡ 0 = omega arith in rw e

  pub carry_start : (m : ℕ) → m ≡ get_or q 0 0 → k < get_or r 0 0 → carried ar (tokens_of r) (tokens_of q) (get_or q 0 0) k (get_or r 0 0 - k) u b ≡ any (way sy r q k u b) 0 m
  unfolding carried way
  carry_start m e h = rw (e, less (get_or r 0 0) k h, add-one, way)

  module _ (j : ℕ) where
    -- The tokens of hypothesis k against those of hypothesis j.
    abbrev got : Bool × List ℕ
    got = matched ar (hypothesis_of sy r k) (tokens_of q) (span ar (j + 1) (tokens_of q)) b

    got_is : matched ar (fact_at ar (suc k) (tokens_of r)) (tokens_of q) (span ar (suc j) (tokens_of q)) b ≡ got
    unfolding hypothesis_of
    got_is = rw (add-one j)

    pub way_used : free u j ≡ false → way sy r q k u b j ≡ false
    unfolding way
    way_used e = into_used ar (tokens_of r) (tokens_of q) k u b rest j e

    pub way_unmatched : got.0 ≡ false → way sy r q k u b j ≡ false
    unfolding way
    way_unmatched e = into_unmatched ar (tokens_of r) (tokens_of q) k u b rest j (ap (λ (x : Bool × List ℕ). x.0) got_is ∙ e)

    pub way_other : may_match (hypothesis_of sy r k) (tokens_of q) (span ar (j + 1) (tokens_of q)) ≡ false → way sy r q k u b j ≡ false
    way_other e = way_unmatched (unmatched ar (hypothesis_of sy r k) (tokens_of q) (span ar (j + 1) (tokens_of q)) b e)

    pub way_on : free u j ≡ true → got.0 ≡ true → way sy r q k u b j ≡ rest (used_by u j) got.1
    unfolding way
    way_on e f = into_on ar (tokens_of r) (tokens_of q) k u b rest j e ∙ ap (λ (x : Bool × List ℕ). onward x (rest (used_by u j))) got_is ∙ onward_yes got (rest (used_by u j)) f

pub ruleset ways = (carry_done, carry_start, way_used, way_unmatched, way_other, way_on, any_hit, any_on, any_over)

-- ---- one record against another
module _ (sy r q : List ℕ) where
  implies_unmatched : (matched (arity_of sy) (fact_at (arity_of sy) 0 (tokens_of r)) (tokens_of q) 0 unbound).0 ≡ false → implies_bytes sy r q ≡ false
  unfolding implies_bytes
  implies_unmatched e = onward_no _ _ e

  -- What the counts and the first symbols rule out.
  pub implies_cheap : may_imply (arity_of sy) r q ≡ false → implies_bytes sy r q ≡ false
  unfolding may_imply both
  implies_cheap e = go (leb (get_or r 0 0) (get_or q 0 0)) refl e
    where
      go : (c : Bool) → leb (get_or r 0 0) (get_or q 0 0) ≡ c → both c (may_match (fact_at (arity_of sy) 0 (tokens_of r)) (tokens_of q) 0) ≡ false → implies_bytes sy r q ≡ false
      go true h f = implies_unmatched (unmatched (arity_of sy) (fact_at (arity_of sy) 0 (tokens_of r)) (tokens_of q) 0 unbound f)
      go false h f = implies_many sy r q (leb-false (get_or r 0 0) (get_or q 0 0) h)

-- ---- the first live record that implies q
pub implies_stuck : (sy r q : List ℕ) (n : ℕ) → has_place (arity_of sy) (tokens_of q) (get_or q 0 0) (fact_at (arity_of sy) n (tokens_of r)) ≡ false → 1 ≤ n → n ≤ get_or r 0 0 → implies_bytes sy r q ≡ false
implies_stuck sy r q n e l h = let m : suc (n - 1) ≡ n = omega arith in implies_placeless sy r q (n - 1) (omega arith) (rw m e)

pub scan_end : (sy q table : List ℕ) (T n i : ℕ) → (0 < n → length table ≡ 0) → first_bytes sy T q n i table ≡ none
unfolding first_bytes
scan_end sy q table T zero i h = refl
scan_end sy q [] T (suc n) i h = rw drop-nil (scan_end sy q [] T n (suc i) (λ _. refl))
scan_end sy q (x ∷ l) T (suc n) i h = let e : suc (length l) ≡ 0 = h (omega arith) in absurd (omega arith)

-- A chunk is what a list begins with, and is short only where nothing comes after it.
module _ (n : ℕ) (a : List ℕ) where
  chunk_take : (b : List ℕ) → length a ≡ min n (length (a ++ b)) → take n (a ++ b) ≡ a
  chunk_take [] e = take_all n (a ++ []) (omega (arith, length-append a [])) ∙ append-nil a
  chunk_take (x ∷ b) e = take_at a (x ∷ b) n (omega (arith, length-append a (x ∷ b)))

  chunk_drop : (b : List ℕ) → length a ≡ min n (length (a ++ b)) → drop n (a ++ b) ≡ b
  chunk_drop [] e = drop_all n (a ++ []) (omega (arith, length-append a []))
  chunk_drop (x ∷ b) e = drop_at a (x ∷ b) n (omega (arith, length-append a (x ∷ b)))

  chunk_byte : (b : List ℕ) → length a ≡ min n (length (a ++ b)) → (i : ℕ) → i < n → get_or (a ++ b) i 0 ≡ get_or a i 0
  chunk_byte [] e i h = ap (λ (l : List ℕ). get_or l i 0) (append-nil a)
  chunk_byte (x ∷ b) e i h = get_or_append_left a (x ∷ b) 0 i (omega (arith, length-append a (x ∷ b)))

-- A table that begins with the record `rec`.
module _ (sy q rec rest : List ℕ) (T n i : ℕ) (e : length rec ≡ min (T + 8) (length (rec ++ rest))) where
  -- By whether it is live and implies q, its number or the answer for what comes after it.
  abbrev pick : Bool → Bool → Option ℕ → Option ℕ
  pick live will o = elim live [ false ↦ o | true ↦ elim will [ true ↦ some i | false ↦ o ] ]

  pub scan_next : first_bytes sy T q (n + 1) i (rec ++ rest) ≡ pick (eqb (get_or rec (T + 2) 0) 1) (implies_bytes sy rec q) (first_bytes sy T q n (i + 1) rest)
  unfolding first_bytes
  scan_next =
      ap (λ (k : ℕ). first_bytes sy T q k i (rec ++ rest)) (add-one n)
      ∙ ap₂ (λ (x : ℕ) (l : List ℕ). pick (eqb x 1) (implies_bytes sy l q) (first_bytes sy T q n (suc i) (drop (T + 8) (rec ++ rest)))) (chunk_byte (T + 8) rec rest e (T + 2) (omega arith)) (chunk_take (T + 8) rec rest e)
      ∙ ap₂ (λ (k : ℕ) (l : List ℕ). pick (eqb (get_or rec (T + 2) 0) 1) (implies_bytes sy rec q) (first_bytes sy T q n k l)) (sym (add-one i)) (chunk_drop (T + 8) rec rest e)

pub ruleset scans = (implies_cheap, implies_stuck, scan_end, scan_next, eq-eqb, ne_eqb)
