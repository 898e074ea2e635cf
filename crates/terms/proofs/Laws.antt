-- Laws of spans, facts and open facts that the proofs of functions cite. Assumes nothing.
use mathlib.Core.Path.{◌≡◌, refl, sym, ap, ◌∙◌}
use mathlib.Core.Bool.{Bool, true, false}
use mathlib.Core.List.{List, [], ◌∷◌}
use Prim.Native.Nat.{ℕ, zero, suc, ◌+◌, ◌-◌, ◌≤◌, ◌<◌}
use native.Mathlib.Numerals.{add-one}
use native.Mathlib.Omega.{arith}
use borrow.Author.Tests.{lt-ltb, le-ltb, eqb-true, eqb-false, eq-eqb, ne_eqb}
use lib.Dec.{eqb, ltb}
use lib.ListN.{length, take, drop, get_or, length-drop, length-take, drop_of_length-le}
use lib.Seq.{drop-cons, drop-drop}
use Rattle.std.proofs.lemmas.List.{drop_more, take_all}
use Rattle.model.specs.Term.{both}
use Rattle.records.specs.Tokens.{span}
use Rattle.records.specs.TokenLaws.{span_add}
use Rattle.records.specs.Symbols.{arity_of}
use Rattle.records.specs.Rules.{tokens_of}
use Rattle.std.specs.Prelude.{Some, None}
use Rattle.std.specs.Borrow.{Bor}
use Rattle.terms.specs.declared.Walk.{Walk}
use Rattle.terms.specs.Walk.{Steps}
use Rattle.terms.specs.OpenLaws.{open_long}
use Rattle.terms.specs.Facts.{facts_from, fact_at, hypothesis_of, open_bytes, base_open, all_open_bytes, hypotheses_open}

module _ (ar : ℕ → ℕ) where
  pub span_none : (l : List ℕ) → span ar 0 l ≡ 0
  unfolding span
  span_none [] = refl
  span_none (t ∷ ts) = refl

  pub span_le : (n : ℕ) (l : List ℕ) → span ar n l ≤ length l
  unfolding span
  span_le n [] = omega arith
  span_le zero (t ∷ ts) = omega arith
  span_le (suc n) (t ∷ ts) = let h = span_le (n + ar t) ts in omega arith

  span_cons : (n t : ℕ) (ts : List ℕ) → 0 < n → span ar n (t ∷ ts) ≡ 1 + span ar (n - 1 + ar t) ts
  unfolding span
  span_cons zero t ts h = absurd (omega arith)
  span_cons (suc n) t ts h = let e : suc n - 1 ≡ n = omega arith in rw e (omega arith)

  pub span_step : (s : List ℕ) (at n : ℕ) → at < length s → 0 < n → span ar n (drop at s) ≡ 1 + span ar (n - 1 + ar (get_or s at 0)) (drop (at + 1) s)
  span_step s at n h p = rw (add-one, drop-cons s at 0 h) (span_cons n (get_or s at 0) (drop (suc at) s) p)

  pub span_end : (s : List ℕ) (at n : ℕ) → length s ≤ at → span ar n (drop at s) ≡ 0
  span_end s at n h = let l = span_le n (drop at s) in omega (arith, length-drop at s)

  -- The part between the place of fact n and the place after it.
  pub fact_is : (ts : List ℕ) (n a e : ℕ) → a ≡ span ar n ts → e ≡ span ar 1 (drop a ts) → take (a + e - a) (drop a ts) ≡ fact_at ar n ts
  unfolding fact_at
  fact_is ts n a e h g = let d : a + e - a ≡ e = omega arith in rw (d, g, h)

-- The next fact begins where one ends.
pub span_next : (ar : ℕ → ℕ) (ts : List ℕ) (n : ℕ) → span ar n ts + span ar 1 (drop (span ar n ts) ts) ≡ span ar (n + 1) ts
span_next ar ts n = omega (arith, span_add ar n 1 ts)

pub ruleset goes = (span_next, span_le, fact_is)

-- What a slice from a place on holds.
pub slice_from : (s : List ℕ) (n : ℕ) → take (length s - n) (drop n s) ≡ drop n s
slice_from s n = take_all (length s - n) (drop n s) (omega (arith, length-drop n s))

pub ruleset spans = (span_none, span_step, span_end, slice_from)

-- A record's count of tokens is a byte.
pub tokens_length : (rec : List ℕ) → get_or rec 1 0 < 256 → length (tokens_of rec) < 256
unfolding tokens_of
tokens_length rec h = omega (arith, length-take (get_or rec 1 0) (drop 2 rec))

pub hypothesis_is : (sy rec ts : List ℕ) (n : ℕ) → ts ≡ tokens_of rec → fact_at (arity_of sy) (n + 1) ts ≡ hypothesis_of sy rec n
unfolding hypothesis_of
hypothesis_is sy rec ts n e = rw (add-one, e)

-- ---- open facts
pub base_is : (sy : List ℕ) (p : ℕ) → eqb p 64 ≡ base_open sy p
unfolding base_open
base_is sy p = go (eqb p 64) refl
  where
    go : (b : Bool) → eqb p 64 ≡ b → b ≡ eqb 64 p
    go true e = sym (eq-eqb 64 p (sym (eqb-true p 64 e)))
    go false e = sym (ne_eqb 64 p (λ h. eqb-false p 64 e (sym h)))

both_false : (b : Bool) → both b false ≡ false
unfolding both
both_false true = refl
both_false false = refl

both_true : (b : Bool) → both b true ≡ b
unfolding both
both_true true = refl
both_true false = refl

module _ (o : ℕ → Bool) where
  open_two : (f : List ℕ) → length f ≡ 2 → open_bytes o f ≡ both (o (get_or f 0 0)) (ltb (get_or f 1 0) 64)
  unfolding open_bytes
  open_two [] h = absurd (omega arith)
  open_two (p ∷ []) h = absurd (omega arith)
  open_two (p ∷ x ∷ []) h = refl
  open_two (p ∷ x ∷ y ∷ f) h = absurd (omega arith)

  pub open_symbol : (f : List ℕ) → length f ≡ 2 → 64 ≤ get_or f 1 0 → open_bytes o f ≡ false
  open_symbol f h k = open_two f h ∙ ap (both (o (get_or f 0 0))) (le-ltb _ _ k) ∙ both_false (o (get_or f 0 0))

  pub open_variable : (f : List ℕ) → length f ≡ 2 → get_or f 1 0 < 64 → open_bytes o f ≡ o (get_or f 0 0)
  open_variable f h k = open_two f h ∙ ap (both (o (get_or f 0 0))) (lt-ltb _ _ k) ∙ both_true (o (get_or f 0 0))

  one_more : (ar : ℕ → ℕ) (n : ℕ) (l : List ℕ) → 0 < n → all_open_bytes o ar n l ≡ both (open_bytes o (take (span ar 1 l) l)) (all_open_bytes o ar (n - 1) (drop (span ar 1 l) l))
  unfolding all_open_bytes
  one_more ar zero l h = absurd (omega arith)
  one_more ar (suc n) l h = let e : suc n - 1 ≡ n = omega arith in rw e

  -- One turn over n facts, of which k are passed and the next stands at the place `at`, and the end.
  module _ (ar : ℕ → ℕ) (ts : List ℕ) (n k at s : ℕ) (e : s ≡ span ar 1 (drop at ts)) where
    turn_at : k < n → all_open_bytes o ar (n - k) (drop at ts) ≡ both (open_bytes o (take (at + s - at) (drop at ts))) (all_open_bytes o ar (n - (k + 1)) (drop (at + s) ts))
    unfolding all_open_bytes
    turn_at h =
        let d : at + s - at ≡ s = omega arith in
        let m : n - k ≡ suc (n - (k + 1)) = omega arith in
        rw (m, d, e, drop-drop)

    pub open_yes_at : k < n → open_bytes o (take (at + s - at) (drop at ts)) ≡ true → all_open_bytes o ar (n - k) (drop at ts) ≡ all_open_bytes o ar (n - (k + 1)) (drop (at + s) ts)
    unfolding both
    open_yes_at h b = rw b at (turn_at h)

    pub open_no_at : k < n → open_bytes o (take (at + s - at) (drop at ts)) ≡ false → all_open_bytes o ar (n - k) (drop at ts) ≡ false
    unfolding both
    open_no_at h b = rw b at (turn_at h)

  pub open_end_at : (ar : ℕ → ℕ) (l : List ℕ) (n k : ℕ) → n ≤ k → all_open_bytes o ar (n - k) l ≡ true
  unfolding all_open_bytes
  open_end_at ar l n k h = let e : n - k ≡ 0 = omega arith in rw e

  -- One turn of a walk, from w to v by the fact f, and its end.
  abbrev pub rest_open : Walk → Bool
  rest_open w = all_open_bytes o (arity_of w.facts.symbols.now) w.left (facts_from (arity_of w.facts.symbols.now) w.next w.facts.tokens.now)

  module _ (w v : Walk) where
    turn : (f : ℕ × Bor (List ℕ)) → Steps w (Some f) v → rest_open w ≡ both (open_bytes o f.1.now) (rest_open v)
    unfolding fact_at
    turn f t =
        let ar = arity_of w.facts.symbols.now in
        let ts = w.facts.tokens.now in
        rw (t.2, t.3, t.4, t.5, ← span_next ar ts w.next, ← drop-drop) (one_more ar w.left (facts_from ar w.next ts) t.0)

    pub open_yes : (f : ℕ × Bor (List ℕ)) → Steps w (Some f) v → open_bytes o f.1.now ≡ true → rest_open w ≡ rest_open v
    unfolding both
    open_yes f t b = rw b at (turn f t)

    pub open_no : (f : ℕ × Bor (List ℕ)) → Steps w (Some f) v → open_bytes o f.1.now ≡ false → rest_open w ≡ false
    unfolding both
    open_no f t b = rw b at (turn f t)

    pub open_end : Steps w None v → rest_open w ≡ true
    unfolding all_open_bytes
    open_end t = rw t.0

-- The walk over the hypotheses of a record.
pub hypotheses_start : (sy rec ts : List ℕ) (n : ℕ) → ts ≡ tokens_of rec → n ≡ get_or rec 0 0 → hypotheses_open sy rec ≡ all_open_bytes (base_open sy) (arity_of sy) n (facts_from (arity_of sy) 1 ts)
unfolding hypotheses_open
hypotheses_start sy rec ts n t h = rw (h, t)

-- A list from a place on: its first token and what is behind it, or nothing.
pub ruleset walk = (drop_more, drop_of_length-le)

pub ruleset opens = (open_symbol, open_variable, open_long)

pub ruleset walks = (hypotheses_start, open_yes, open_end)
