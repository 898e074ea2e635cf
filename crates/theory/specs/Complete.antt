-- After loading every input rule is implied by a live record or was skipped; after completion so is every allowed combination of two live records. Assumes nothing.
use Prim.Native.Nat.{ℕ, zero, suc, ◌+◌, ◌≤◌, ◌<◌}
use native.Mathlib.Omega.{arith}
use Rattle.std.specs.Prelude.{Bool, List, [], ◌∷◌, ◌≡◌, ◌⊎◌}
use Rattle.std.proofs.Math.Bool.{true, false}
use Rattle.std.proofs.Math.Option.{Option, none, some}
use Rattle.std.proofs.Math.Path.{refl, ap, ap₂, subst}
use Rattle.std.proofs.Common.{◌∙◌, inl, inr}
use Rattle.std.proofs.Math.Dec.{leb}
use Rattle.std.proofs.Math.ListN.{length}
use borrow.Author.Tests.{leb-true, leb-false}
use Rattle.model.specs.Term.{Term, both}
use Rattle.model.specs.Rule.{Rule, normal, nth, all_open, combine}
use Rattle.model.specs.Table.{Origin, input, combined, Rec, rec_at, Fate, kept_as, implied_by, skipped, no_room, too_large, Table, log, retire, Progress, going, stopped, and_then}
use Rattle.model.specs.Run.{Setting, rule_fate, settle, keep, load, shut, may_combine, attempt, keep_if, upon_hyp, upon_hyps, hyps_of, pair, row, rows, complete}
use Rattle.model.specs.Write.{rule_at}
use Rattle.model.specs.Derive.{Input}
use Rattle.theory.specs.Basics.{true≢false, no_confusion, both_true, true_both}
use Rattle.theory.specs.Embed.{implies_refl}
use Rattle.theory.specs.Loops.{Ok, ok_here, ok_then}
use Rattle.theory.specs.Tables.{Covers, Step, step_refl, fate_ok, FateOk, first_covers, added_live, kept_step, kept_length}

-- ---- keeping
-- Implied by a live record, or skipped by the test.
abbrev pub Settled : Setting → List Rec → Rule → Type 0
Settled S t q = Covers t q ⊎ (S.skips q ≡ true)

pub settled_step : (S : Setting) {t u : List Rec} (q : Rule) → Step t u → Settled S t q → Settled S u q
settled_step S q s (inl c) = inl (s.covers q c)
settled_step S q s (inr e) = inr e

-- room for rules
abbrev cap : Setting → ℕ
cap S = S.limits.max_rules

pub keep_ok : (S : Setting) (t : Table) (q : Rule) (o : Origin) → Ok (cap S) t (λ u. Settled S u q) (keep S t q o)
unfolding keep rule_fate settle log
keep_ok S t q o = go (rule_fate S t.recs q) (fate_ok S.limits S.limits.max_rules S.skips t.recs q)
  where
    go : (f : Fate) → FateOk S.limits S.limits.max_rules S.skips t.recs q f → Ok (cap S) t (λ u. Settled S u q) (settle f t q o)
    go (kept_as k) h =
        record {
          step = kept_step t.recs q o;
          room = λ z. omega (arith, h.3, kept_length t.recs q o);
          holds = inl (q, added_live (retire q t.recs) q o, implies_refl q);
        }
    go (implied_by k) h = record { step = step_refl t.recs; room = λ z. z; holds = inl (first_covers t.recs q k h.2) }
    go skipped h = record { step = step_refl t.recs; room = λ z. z; holds = inr h.1 }
    go no_room h = tt
    go too_large h = tt

-- ---- loading
unfoldable pub Loaded : Setting → List Rule → List Rec → Type 0
Loaded S rs u = (r : Rule) → Input rs r → Settled S u (normal r)

loaded_more : (S : Setting) (r : Rule) (rs : List Rule) (u : List Rec) → Settled S u (normal r) → Loaded S rs u → Loaded S (r ∷ rs) u
unfolding Loaded rule_at
loaded_more S r rs u c h p (i, e) = go i e
  where
    go : (i : ℕ) → rule_at (r ∷ rs) i ≡ some p → Settled S u (normal p)
    go zero e = let z : r ≡ p = cc in subst (λ (w : Rule). Settled S u (normal w)) z c
    go (suc i) e = h p (i, e)

pub load_ok : (S : Setting) (rs : List Rule) (i : ℕ) (t : Table) → Ok (cap S) t (Loaded S rs) (load S rs i t)
unfolding load Loaded rule_at
load_ok S [] i t = ok_here (cap S) t (Loaded S []) (λ r e. no_confusion (cc e.1))
load_ok S (r ∷ rs) i t =
    ok_then (cap S) t (Loaded S (r ∷ rs)) (λ u. Settled S u (normal r)) (Loaded S rs) (keep S t (normal r) (input i)) (load S rs (suc i))
    (keep_ok S t (normal r) (input i)) (λ u h. load_ok S rs (suc i) u)
    (λ u v h s l. loaded_more S r rs v.recs (settled_step S (normal r) s h.holds) l)

-- ---- one combination
-- If records i and j of u may be combined upon that hypothesis, the result is settled.
unfoldable pub Done : Setting → ℕ → ℕ → ℕ → List Rec → Type 0
Done S i j k u =
    (r r' : Rec) → rec_at u i ≡ some r → rec_at u j ≡ some r' → may_combine S.opens r r' k ≡ true
    → (q : Rule) → combine r.rule r'.rule k ≡ some q → Settled S u q

-- what is allowed of records as they are now was allowed of them before
may_back :
    (o : ℕ → Bool) (r r' x x' : Rec) (k : ℕ) → x.rule ≡ r.rule → x'.rule ≡ r'.rule → (r.live ≡ true → x.live ≡ true) → (r'.live ≡ true → x'.live ≡ true)
    → may_combine o r r' k ≡ true → may_combine o x x' k ≡ true
unfolding may_combine
may_back o r r' x x' k e e' l l' m =
    let a = both_true _ _ m in
    let b = both_true _ _ a.1 in
    true_both _ _ (l a.0) (true_both _ _ (l' b.0) (rw (e, e') b.1))

pub done_step : (S : Setting) {t u : List Rec} (i j k : ℕ) → Step t u → i < length t → j < length t → Done S i j k t → Done S i j k u
unfolding Done
done_step S i j k s li lj d r r' e e' m q c =
    let a = s.back i r e li in
    let b = s.back j r' e' lj in
    settled_step S q s (d a.0 b.0 a.1 b.1 (may_back S.opens r r' a.0 b.0 k a.2 b.2 a.3 b.3 m) q (rw (a.2, b.2) c))

attempt_some : (o : ℕ → Bool) (r r' : Rec) (k : ℕ) (q : Rule) → may_combine o r r' k ≡ true → combine r.rule r'.rule k ≡ some q → attempt o k (some r) (some r') ≡ some q
unfolding attempt
attempt_some o r r' k q m c = rw (m, attempt) c

module _ (S : Setting) (i j : ℕ) where
  hyp_ok : (k : ℕ) (t : Table) → i < length t.recs → j < length t.recs → Ok (cap S) t (Done S i j k) (upon_hyp S i j k t)
  unfolding upon_hyp keep_if Done
  hyp_ok k t li lj = go (attempt S.opens k (rec_at t.recs i) (rec_at t.recs j)) refl
    where
      -- the attempt, seen from a later table
      again : (u : Table) → Step t.recs u.recs → (r r' : Rec) → rec_at u.recs i ≡ some r → rec_at u.recs j ≡ some r' → may_combine S.opens r r' k ≡ true → (q : Rule) → combine r.rule r'.rule k ≡ some q → attempt S.opens k (rec_at t.recs i) (rec_at t.recs j) ≡ some q
      again u s r r' e e' m q c =
          let a = s.back i r e li in
          let b = s.back j r' e' lj in
          ap₂ (attempt S.opens k) a.1 b.1
          ∙ attempt_some S.opens a.0 b.0 k q (may_back S.opens r r' a.0 b.0 k a.2 b.2 a.3 b.3 m) (rw (a.2, b.2) c)

      kept : (q : Rule) → attempt S.opens k (rec_at t.recs i) (rec_at t.recs j) ≡ some q → (p : Progress Table) → Ok (cap S) t (λ u. Settled S u q) p → Ok (cap S) t (Done S i j k) p
      kept q a (going u) h =
          record {
            step = h.step;
            room = h.room;
            holds = λ r r' e e' m p c. let z : q ≡ p = cc (again u h.step r r' e e' m p c) in subst (λ (w : Rule). Settled S u.recs w) z h.holds;
          }
      kept q a (stopped w u) h = tt

      go : (o : Option Rule) → attempt S.opens k (rec_at t.recs i) (rec_at t.recs j) ≡ o → Ok (cap S) t (Done S i j k) (keep_if S t o (combined k i j))
      go none a = ok_here (cap S) t (Done S i j k) (λ r r' e e' m q c. no_confusion (cc (again t (step_refl t.recs) r r' e e' m q c)))
      go (some q) a = kept q a (keep S t q (combined k i j)) (keep_ok S t q (combined k i j))

  -- upon the hypotheses with k to k + n - 1 before them
  Upto : ℕ → ℕ → List Rec → Type 0
  Upto k n u = (k' : ℕ) → k ≤ k' → k' < k + n → Done S i j k' u

  upto_more : (k n : ℕ) (u : List Rec) → Done S i j k u → Upto (suc k) n u → Upto k (suc n) u
  unfolding Upto
  upto_more k n u d h k' l m = go (leb k' k) refl
    where
      go : (c : Bool) → leb k' k ≡ c → Done S i j k' u
      go true e = let z : k ≡ k' = omega (arith, leb-true k' k e) in subst (λ (w : ℕ). Done S i j w u) z d
      go false e = h k' (omega (arith, leb-false k' k e)) (omega arith)

  hyps_ok : (n k : ℕ) (t : Table) → i < length t.recs → j < length t.recs → Ok (cap S) t (Upto k n) (upon_hyps S i j n k t)
  unfolding upon_hyps Upto
  hyps_ok zero k t li lj = ok_here (cap S) t (Upto k 0) (λ k' l m. absurd (omega arith))
  hyps_ok (suc n) k t li lj =
      ok_then (cap S) t (Upto k (suc n)) (Done S i j k) (Upto (suc k) n) (upon_hyp S i j k t) (upon_hyps S i j n (suc k))
      (hyp_ok k t li lj) (λ u h. hyps_ok n (suc k) u (omega (arith, h.step.longer)) (omega (arith, h.step.longer)))
      (λ u v h s w. upto_more k n v.recs (done_step S i j k s (omega (arith, h.step.longer)) (omega (arith, h.step.longer)) h.holds) w)

  -- upon all hypotheses
  unfoldable pub All : List Rec → Type 0
  All u = (k : ℕ) → Done S i j k u

  pub all_step : {t u : List Rec} → Step t u → i < length t → j < length t → All t → All u
  unfolding All
  all_step s li lj a k = done_step S i j k s li lj (a k)

nth_short : (l : List Term) (k : ℕ) → length l ≤ k → nth l k ≡ none
unfolding nth
nth_short [] k h = refl
nth_short (t ∷ l) zero h = absurd (omega arith)
nth_short (t ∷ l) (suc k) h = nth_short l k (omega arith)

-- upon a hypothesis that is not there nothing is combined
may_short : (o : ℕ → Bool) (r r' : Rec) (k : ℕ) → length r'.rule.hyps ≤ k → may_combine o r r' k ≡ true → ⊥
unfolding may_combine shut
may_short o r r' k l m =
    let x = both_true r.live (both r'.live (both (all_open o r.rule.hyps) (shut o (nth r'.rule.hyps k)))) m in
    let y = both_true r'.live (both (all_open o r.rule.hyps) (shut o (nth r'.rule.hyps k))) x.1 in
    let z = both_true (all_open o r.rule.hyps) (shut o (nth r'.rule.hyps k)) y.1 in
    true≢false z.1 (ap (shut o) (nth_short r'.rule.hyps k l))

pub may_join :
    (o : ℕ → Bool) (r r' : Rec) (k : ℕ) → r.live ≡ true → r'.live ≡ true → all_open o r.rule.hyps ≡ true → shut o (nth r'.rule.hyps k) ≡ true
    → may_combine o r r' k ≡ true
unfolding may_combine
may_join o r r' k a b c d = true_both r.live _ a (true_both r'.live _ b (true_both (all_open o r.rule.hyps) _ c d))

module _ (S : Setting) (i j : ℕ) where
  upto_all : (t u : List Rec) → Step t u → j < length t → Upto S i j 0 (hyps_of (rec_at t j)) u → All S i j u
  unfolding All Upto Done hyps_of
  upto_all t u s lj h k = go (leb (hyps_of (rec_at t j)) k) refl
    where
      go : (c : Bool) → leb (hyps_of (rec_at t j)) k ≡ c → Done S i j k u
      go false p = h k (omega arith) (omega (arith, leb-false (hyps_of (rec_at t j)) k p))
      go true p =
          λ x x' e₁ e₂ m q c.
          let b = s.back j x' e₂ lj in
          let z : hyps_of (rec_at t j) ≡ length x'.rule.hyps = ap hyps_of b.1 ∙ ap (λ (r : Rule). length r.hyps) b.2 in
          absurd (may_short S.opens x x' k (omega (arith, z, leb-true (hyps_of (rec_at t j)) k p)) m)

  pub pair_ok : (t : Table) → i < length t.recs → j < length t.recs → Ok (cap S) t (All S i j) (pair S i j t)
  unfolding pair
  pair_ok t li lj = go (upon_hyps S i j (hyps_of (rec_at t.recs j)) 0 t) (hyps_ok S i j (hyps_of (rec_at t.recs j)) 0 t li lj)
    where
      go : (o : Progress Table) → Ok (cap S) t (Upto S i j 0 (hyps_of (rec_at t.recs j))) o → Ok (cap S) t (All S i j) o
      go (going u) h = record { step = h.step; room = h.room; holds = upto_all t.recs u.recs h.step lj h.holds }
      go (stopped w u) h = tt

-- ---- a row
module _ (S : Setting) (i : ℕ) where
  -- with each of the records j to i, both ways
  pub Across : ℕ → List Rec → Type 0
  Across j u = (j' : ℕ) → j ≤ j' → j' ≤ i → All S i j' u × All S j' i u

  across_more : (j : ℕ) (u : List Rec) → All S i j u → All S j i u → Across (suc j) u → Across j u
  unfolding Across
  across_more j u a b h j' l m = go (leb j' j) refl
    where
      go : (c : Bool) → leb j' j ≡ c → All S i j' u × All S j' i u
      go true e = let z : j ≡ j' = omega (arith, leb-true j' j e) in subst (λ (w : ℕ). All S i w u × All S w i u) z (a, b)
      go false e = h j' (omega (arith, leb-false j' j e)) m

  across_last : (j : ℕ) (u : List Rec) → j ≡ i → All S i j u → Across j u
  unfolding Across
  across_last j u p a j' l m =
      let y : j ≡ j' = omega arith in
      let b : All S i j' u = subst (λ (w : ℕ). All S i w u) y a in
      let z : i ≡ j' = omega arith in
      (b, subst (λ (w : ℕ). All S w i u) z (subst (λ (w : ℕ). All S i w u) p a))

  pub row_ok : (n j : ℕ) (t : Table) → j + n ≡ i → i < length t.recs → Ok (cap S) t (Across j) (row S i n j t)
  unfolding row
  row_ok zero j t e li = go (pair S i j t) (pair_ok S i j t li (omega arith))
    where
      go : (o : Progress Table) → Ok (cap S) t (All S i j) o → Ok (cap S) t (Across j) o
      go (going u) h = record { step = h.step; room = h.room; holds = across_last j u.recs (omega arith) h.holds }
      go (stopped w u) h = tt
  row_ok (suc n) j t e li =
      ok_then (cap S) t (Across j) (All S i j) (λ v. All S j i v × Across (suc j) v) (pair S i j t) (λ u. and_then (pair S j i u) (row S i n (suc j)))
      (pair_ok S i j t li (omega arith))
      (λ u h.
      ok_then (cap S) u (λ v. All S j i v × Across (suc j) v) (All S j i) (Across (suc j)) (pair S j i u) (row S i n (suc j))
      (pair_ok S j i u (omega (arith, h.step.longer)) (omega (arith, h.step.longer)))
      (λ v k. row_ok n (suc j) v (omega arith) (omega (arith, h.step.longer, k.step.longer)))
      (λ v w k s a. (all_step S j i s (omega (arith, h.step.longer, k.step.longer)) (omega (arith, h.step.longer, k.step.longer)) k.holds, a)))
      (λ u v h s a. across_more j v.recs (all_step S i j s (omega (arith, h.step.longer)) (omega (arith, h.step.longer)) h.holds) a.0 a.1)

-- ---- all rows
module _ (S : Setting) where
  -- all pairs of records below n
  unfoldable pub Square : ℕ → List Rec → Type 0
  Square n u = (a b : ℕ) → a < n → b < n → All S a b u

  square_more : (i : ℕ) (t u : List Rec) → i < length t → Step t u → Square i t → Across S i 0 u → Square (suc i) u
  unfolding Square Across
  square_more i t u li s h x a b la lb = go (leb i a) (leb i b) refl refl
    where
      go : (c d : Bool) → leb i a ≡ c → leb i b ≡ d → All S a b u
      go false false p q = all_step S a b s (omega (arith, leb-false i a p)) (omega (arith, leb-false i b q)) (h a b (omega (arith, leb-false i a p)) (omega (arith, leb-false i b q)))
      go true d p q = let z : i ≡ a = omega (arith, leb-true i a p) in subst (λ (w : ℕ). All S w b u) z (x b (omega arith) (omega arith)).0
      go false true p q = let z : i ≡ b = omega (arith, leb-true i b q) in subst (λ (w : ℕ). All S a w u) z (x a (omega arith) (omega arith)).1

  unfoldable pub Whole : List Rec → Type 0
  Whole u = Square (length u) u

  rows_ok : (n i : ℕ) (t : Table) → i + n ≡ S.limits.max_rules → length t.recs ≤ S.limits.max_rules → Square i t.recs → Ok (cap S) t Whole (rows S n i t)
  unfolding rows Whole Square
  rows_ok zero i t e r q = ok_here (cap S) t Whole (λ a b la lb. q a b (omega arith) (omega arith))
  rows_ok (suc n) i t e r q = go (leb (length t.recs) i) refl (rows_ok n (suc i))
    where
      go :
          (c : Bool) → leb (length t.recs) i ≡ c
          → ((u : Table) → suc i + n ≡ S.limits.max_rules → length u.recs ≤ S.limits.max_rules → Square (suc i) u.recs → Ok (cap S) u Whole (rows S n (suc i) u))
          → Ok (cap S) t Whole (elim c [ true ↦ going t | false ↦ and_then (row S i i 0 t) (rows S n (suc i)) ])
      go true p rec = ok_here (cap S) t Whole (λ a b la lb. q a b (omega (arith, leb-true (length t.recs) i p)) (omega (arith, leb-true (length t.recs) i p)))
      go false p rec =
          ok_then (cap S) t Whole (Across S i 0) Whole (row S i i 0 t) (rows S n (suc i)) (row_ok S i i 0 t (omega arith) (leb-false (length t.recs) i p))
          (λ u h. rec u (omega arith) (h.room r) (square_more i t.recs u.recs (leb-false (length t.recs) i p) h.step q h.holds))
          (λ u v h s w. w)

  -- Completion that does not stop leaves a table that is closed under combination.
  pub complete_ok : (t : Table) → length t.recs ≤ S.limits.max_rules → Ok (cap S) t Whole (complete S t)
  unfolding complete Square
  complete_ok t r = rows_ok S.limits.max_rules 0 t (omega arith) r (λ a b l. absurd (omega arith))
