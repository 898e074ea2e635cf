-- The tokens of two records, one list behind the other, and which term stands where. Assumes nothing.
use Rattle.std.specs.Prelude.{ℕ, ◌+◌, ◌*◌, ◌-◌, ◌≤◌, ◌<◌, List, ◌++◌, ◌≡◌, take}
use native.Mathlib.Omega.{arith}
use Rattle.std.proofs.Math.Path.{ap, sym}
use Rattle.std.proofs.Common.{◌∙◌, length-take, length-drop, get_or-take, get_or-drop, lt-ltb, le-ltb}
use Rattle.std.proofs.Math.ListN.{length, get_or, drop, length-append, get_or-append, get_or-eq_default}
use Rattle.std.proofs.Math.Seq.{get_or-append-add, drop-append-le, drop-append-add}
use Rattle.model.specs.Term.{Term, size}
use Rattle.theory.specs.Unify.{size_pos}
use Rattle.records.specs.Tokens.{leaves}
use Rattle.records.specs.TokenLaws.{leaves_append, length_leaves}
use Rattle.unify.specs.Closure.{Graph}
use Rattle.unify.specs.Nodes.{side, Sided, graph}

-- The tokens of a record with room for T of them.
unfoldable pub tokens_in : ℕ → List ℕ → List ℕ
tokens_in T rec = take T (drop 2 rec)

-- The tokens of two records.
unfoldable pub facts : ℕ → List ℕ → List ℕ → List ℕ
unfolding tokens_in
facts T a b = tokens_in T a ++ tokens_in T b

-- Their nodes.
abbrev pub graph_of : List ℕ → ℕ → List ℕ → List ℕ → Graph
graph_of sy T a b = graph sy (facts T a b)

-- Two records with room for T tokens each.
pub record Given (T : ℕ) (a b : List ℕ) : Type 0 where
  pub small : T ≤ 248
  pub len_a : length a ≡ T + 8
  pub len_b : length b ≡ T + 8

tokens_length : (T : ℕ) (rec : List ℕ) → length rec ≡ T + 8 → length (tokens_in T rec) ≡ T
unfolding tokens_in
tokens_length T rec e = length-take T (drop 2 rec) ∙ (let z = length-drop 2 rec in omega arith)

tokens_at : (T : ℕ) (rec : List ℕ) (p : ℕ) → p < T → get_or (tokens_in T rec) p 0 ≡ get_or rec (p + 2) 0
unfolding tokens_in
tokens_at T rec p l = get_or-take T (drop 2 rec) p 0 l ∙ get_or-drop 2 rec p 0 ∙ ap (λ (k : ℕ). get_or rec k 0) (let z : 2 + p ≡ p + 2 = omega arith in z)

module _ (T : ℕ) (a b : List ℕ) (G : Given T a b) where
  long : length (tokens_in T a) ≡ T
  long = tokens_length T a G.len_a

  pub facts_length : length (facts T a b) ≡ 2 * T
  unfolding facts
  facts_length = length-append (tokens_in T a) (tokens_in T b) ∙ (let y = tokens_length T b G.len_b in let z = long in omega arith)

  -- what the code reads at a place
  pub fact_left : (p : ℕ) → p < T → get_or a (p + 2) 0 ≡ get_or (facts T a b) p 0
  unfolding facts
  fact_left p l = sym (get_or-append (tokens_in T a) (tokens_in T b) 0 p (let z = long in omega arith) ∙ tokens_at T a p l)

  pub fact_right : (p : ℕ) → T ≤ p → p - T < T → get_or b (p - T + 2) 0 ≡ get_or (facts T a b) p 0
  unfolding facts
  fact_right p l k =
      sym
      (
      ap (λ (n : ℕ). get_or (tokens_in T a ++ tokens_in T b) n 0) (let z = long in let y : p ≡ length (tokens_in T a) + (p - T) = omega arith in y)
      ∙ get_or-append-add (tokens_in T a) (tokens_in T b) (p - T) 0
      ∙ tokens_at T b (p - T) k
      )

  pub fact_past : (p : ℕ) → 2 * T ≤ p → 0 ≡ get_or (facts T a b) p 0
  fact_past p l = sym (get_or-eq_default (facts T a b) 0 (let z = facts_length in omega arith))

-- ---- which term stands at a place
-- The term t stands at the place x, all of it on the side c.
pub record Stands (ts : List ℕ) (c x : ℕ) (t : Term) : Type 0 where
  pub behind : List ℕ
  pub tokens : drop x ts ≡ leaves t behind
  pub sided : Sided ts c x (size t)

module _ (T : ℕ) (a b : List ℕ) (G : Given T a b) (x : ℕ) (t : Term) (u : List ℕ) where
  -- a term of the first record
  pub stands_left : drop x (tokens_in T a) ≡ leaves t u → Stands (facts T a b) 0 x t
  unfolding side facts
  stands_left e =
      record {
        behind = u ++ tokens_in T b;
        tokens = drop-append-le x (tokens_in T a) (tokens_in T b) (let z = room in let y = size_pos t in let w = long T a b G in omega arith) ∙ ap (◌++ tokens_in T b) e ∙ sym (leaves_append t u (tokens_in T b));
        sided = λ j l k. (let z = room in let y = facts_length T a b G in rw (lt-ltb (2 * j) (length (facts T a b)) (omega arith)));
      }
    where
      room : x + size t ≤ T
      room =
          let z : length (tokens_in T a) - x ≡ size t + length u = sym (length-drop x (tokens_in T a)) ∙ ap length e ∙ length_leaves t u in
          let y = size_pos t in
          let w = long T a b G in
          omega arith

  -- a term of the second record
  pub stands_right : drop x (tokens_in T b) ≡ leaves t u → Stands (facts T a b) 1 (T + x) t
  unfolding side facts
  stands_right e =
      record {
        behind = u;
        tokens = ap (λ (n : ℕ). drop (n + x) (tokens_in T a ++ tokens_in T b)) (sym (long T a b G)) ∙ drop-append-add (tokens_in T a) (tokens_in T b) x ∙ e;
        sided = λ j l k. (let y = facts_length T a b G in rw (le-ltb (2 * j) (length (facts T a b)) (omega arith)));
      }
