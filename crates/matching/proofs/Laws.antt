-- Laws of matching that the functions' proofs cite: one turn of the walk over a pattern, and its end. Assumes nothing.
use mathlib.Core.Path.{◌≡◌, refl, sym}
use mathlib.Core.Bool.{Bool, true, false}
use mathlib.Core.List.{List}
use Prim.Native.Nat.{ℕ, suc, ◌+◌, ◌-◌, ◌≤◌, ◌<◌}
use native.Mathlib.Numerals.{add-one}
use native.Mathlib.Omega.{arith}
use borrow.Author.Tests.{eq-eqb, ne_eqb, lt-ltb, le-ltb, leb-true, leb-false}
use lib.Dec.{eqb, leb}
use lib.ListN.{length, take, drop, get_or, set, drop_of_length-le, get_or-eq_default, length-set}
use lib.Pointwise.{pointwise}
use Rattle.std.proofs.lemmas.List.{drop_more}
use Rattle.records.proofs.Laws.{same_bytes_is}
use Rattle.records.specs.Tokens.{span}
use Rattle.matching.specs.Match.{agree, matched, onward}

pub agree_is : (text : List ℕ) (n s p : ℕ) → pointwise eqb (take n (drop s text)) (take n (drop p text)) ≡ agree text n s p
unfolding agree
agree_is text n s p = same_bytes_is (take n (drop s text)) (take n (drop p text))

-- A symbol does not stand past the end.
pub symbol_inside : (text : List ℕ) (p : ℕ) → 64 ≤ get_or text p 0 → p < length text
symbol_inside text p h = go (leb (length text) p) refl
  where
    go : (c : Bool) → leb (length text) p ≡ c → p < length text
    go true q = absurd (omega (arith, get_or-eq_default text 0 {n = p} (leb-true (length text) p q)))
    go false q = leb-false (length text) p q

-- Token i of the pattern against the text at p.
module _ (ar : ℕ → ℕ) (pat text : List ℕ) (i p : ℕ) (b : List ℕ) where
  pub symbol_no : i < length pat → 64 ≤ get_or pat i 0 → (get_or text p 0 ≡ get_or pat i 0 → ⊥) → matched ar (drop i pat) text p b ≡ (false, b)
  unfolding matched
  symbol_no h s f = rw (drop_more pat i 0, le-ltb (get_or pat i 0) 64 s, ne_eqb (get_or pat i 0) (get_or text p 0) (λ q. f (sym q)), matched)

  pub symbol_yes : i < length pat → 64 ≤ get_or pat i 0 → get_or text p 0 ≡ get_or pat i 0 → matched ar (drop i pat) text p b ≡ matched ar (drop (i + 1) pat) text (p + 1) b
  unfolding matched
  symbol_yes h s f = rw (drop_more pat i 0, le-ltb (get_or pat i 0) 64 s, eq-eqb (get_or pat i 0) (get_or text p 0) (sym f), add-one p, matched)

  -- a variable, against the term of n tokens at p
  module _ (n : ℕ) where
    pub free_binds : i < length pat → get_or pat i 0 < 64 → n ≡ span ar 1 (drop p text) → get_or b (get_or pat i 0) 0 ≡ 0
        → matched ar (drop i pat) text p b ≡ matched ar (drop (i + 1) pat) text (p + n) (set b (get_or pat i 0) (p + 1))
    unfolding matched
    free_binds h l w f = rw (drop_more pat i 0, lt-ltb (get_or pat i 0) 64 l, f, ← w, add-one p, matched)

    module _ (s : ℕ) (f : get_or b (get_or pat i 0) 0 ≡ suc s) where
      other : i < length pat → get_or pat i 0 < 64 → n ≡ span ar 1 (drop p text) → agree text n s p ≡ false → matched ar (drop i pat) text p b ≡ (false, b)
      unfolding matched
      other h l w g = rw (drop_more pat i 0, lt-ltb (get_or pat i 0) 64 l, f, ← w, g, matched)

      same : i < length pat → get_or pat i 0 < 64 → n ≡ span ar 1 (drop p text) → agree text n s p ≡ true → matched ar (drop i pat) text p b ≡ matched ar (drop (i + 1) pat) text (p + n) b
      unfolding matched
      same h l w g = rw (drop_more pat i 0, lt-ltb (get_or pat i 0) 64 l, f, ← w, g, matched, ← w)

    pub bound_no : i < length pat → get_or pat i 0 < 64 → n ≡ span ar 1 (drop p text) → (get_or b (get_or pat i 0) 0 ≡ 0 → ⊥)
        → agree text n (get_or b (get_or pat i 0) 0 - 1) p ≡ false → matched ar (drop i pat) text p b ≡ (false, b)
    bound_no h l w f g = other (get_or b (get_or pat i 0) 0 - 1) (omega arith) h l w g

    pub bound_yes : i < length pat → get_or pat i 0 < 64 → n ≡ span ar 1 (drop p text) → (get_or b (get_or pat i 0) 0 ≡ 0 → ⊥)
        → agree text n (get_or b (get_or pat i 0) 0 - 1) p ≡ true → matched ar (drop i pat) text p b ≡ matched ar (drop (i + 1) pat) text (p + n) b
    bound_yes h l w f g = same (get_or b (get_or pat i 0) 0 - 1) (omega arith) h l w g

pub matched_end : (ar : ℕ → ℕ) (pat text : List ℕ) (i p : ℕ) (b : List ℕ) → length pat ≤ i → matched ar (drop i pat) text p b ≡ (true, b)
unfolding matched
matched_end ar pat text i p b h = rw (drop_of_length-le pat h)

pub ruleset turns = (symbol_inside, symbol_no, symbol_yes, free_binds, bound_no, bound_yes, matched_end, length-set)

-- ---- on with a match
pub onward_no : (x : Bool × List ℕ) (k : List ℕ → Bool) → x.0 ≡ false → onward x k ≡ false
unfolding onward
onward_no x k e = rw e

pub onward_yes : (x : Bool × List ℕ) (k : List ℕ → Bool) → x.0 ≡ true → onward x k ≡ k x.1
unfolding onward
onward_yes x k e = rw e
