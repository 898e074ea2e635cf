-- Writing into a part of a longer text, said of the whole text: the part of `w` from p up to cap was lent. Assumes nothing.
use Prim.Native.Nat.{ℕ, ◌+◌, ◌*◌, ◌-◌, ◌≤◌, ◌<◌}
use native.Mathlib.Omega.{arith}
use mathlib.Core.List.{List, ◌++◌}
use Rattle.std.specs.Prelude.{Bool, true, false, ◌≡◌, leb, drop, Option, Some, None}
use Rattle.std.proofs.Math.Path.{refl, ap, subst}
use Rattle.std.proofs.Common.{ap₂, ◌∙◌, sym, leb-true, leb-false, length-take, length-drop}
use Rattle.std.proofs.Math.ListN.{length, take}
use Rattle.std.proofs.Math.Seq.{take-take, take-add}
use Rattle.model.specs.Term.{Term, var, sub, size}
use Rattle.model.specs.Sign.{Signature, is_fact}
use Rattle.records.specs.Symbols.{arity_of}
use Rattle.records.specs.TokenLaws.{EachVar, Small, Agrees}
use Rattle.unify.specs.Closure.{Graph}
use Rattle.unify.specs.Read.{Reads}
use Rattle.unify.specs.Solve.{Solved}
use Rattle.unify.specs.Nodes.{graph, node, ren, tree_leaves}
use Rattle.unify.specs.Facts.{Stands}
use Rattle.unify.specs.Formed.{wf_fact}
use Rattle.unify.specs.Writer.{codes, codes_size, Wrote, Writes}
use Rattle.unify.specs.Final.{Written, ren_left}

-- The place behind what was written from p on, or cap + 1 where there was no room.
abbrev pub place_behind : ℕ → ℕ → Option ℕ → ℕ
place_behind p cap (Some n) = p + n
place_behind p cap None = cap + 1

-- What the writing of l from p on leaves of o, where e is the place behind it.
pub record WroteFrom (cap : ℕ) (o w : List ℕ) (p e : ℕ) (l : List ℕ) : Type 0 where
  pub fits : e ≤ cap → (e ≡ p + length l) × (take e w ≡ take p o ++ l)
  pub short : cap < e → cap < p + length l
  pub most : e ≤ cap + 1

-- The same of the node i, and of a term whose size decides.
abbrev pub WritesFrom : Graph → List ℕ → ℕ → ℕ → List ℕ → List ℕ → ℕ → ℕ → Type 0
WritesFrom G s i cap o w p e = (t : Term) → Reads G s i t → WroteFrom cap o w p e (codes t)

pub record WrittenFrom (cap : ℕ) (o w : List ℕ) (p e : ℕ) (t : Term) : Type 0 where
  pub fits : p + size t ≤ cap → (e ≡ p + size t) × (take e w ≡ take p o ++ codes t)
  pub short : cap < p + size t → e ≡ cap + 1

-- The text w is as o before p, and from p up to cap is what was lent.
module _ (cap p : ℕ) (o w : List ℕ) (inside : p ≤ cap) (room : cap ≤ length w) (before : take p w ≡ take p o) where
  abbrev lent : List ℕ
  lent = take (cap - p) (drop p w)

  lent_long : length lent ≡ cap - p
  lent_long = length-take (cap - p) (drop p w) ∙ omega (arith, length-drop p w)

  pub wrote_from : (r : Option ℕ) (l : List ℕ) → Wrote lent r l → WroteFrom cap o w p (place_behind p cap r) l
  wrote_from (Some n) l W =
      let fit : n ≤ cap - p = omega (arith, W.0, ap length W.1, length-take n lent, lent_long) in
      let part : take n lent ≡ take n (drop p w) = take-take n (cap - p) (drop p w) fit in
      record {
        fits = λ _. (ap (λ (k : ℕ). p + k) W.0, take-add p n w ∙ ap₂ ◌++◌ before (sym part ∙ W.1));
        short = λ k. absurd (omega arith);
        most = omega arith;
      }
  wrote_from None l W = record { fits = λ k. absurd (omega arith); short = λ k. omega (arith, W, lent_long); most = omega arith }

  -- What `write` says of a part that is lent, said of the whole text.
  pub writes_from : (G : Graph) (s : List ℕ) (i : ℕ) (r : Option ℕ) → Writes G s i lent r → WritesFrom G s i cap o w p (place_behind p cap r)
  writes_from G s i r W t R = wrote_from r (codes t) (W t R)

  pub written_from : (r : Option ℕ) (t : Term) → Written lent r t → WrittenFrom cap o w p (place_behind p cap r) t
  written_from r t W =
      record {
        fits = λ k. (let f = W.fits (omega (arith, lent_long)) in
            (ap (place_behind p cap) f.0, ap (λ (e : ℕ). take e w) (ap (place_behind p cap) f.0) ∙ take-add p (size t) w ∙ ap₂ ◌++◌ before (sym (take-take (size t) (cap - p) (drop p w) (omega arith)) ∙ f.1)));
        short = λ k. ap (place_behind p cap) (W.short (omega (arith, lent_long)));
      }

-- A text written from p on, where there is room for the term or not, by the size of the term.
written_by : (cap : ℕ) (o w : List ℕ) (p e : ℕ) (t : Term) → WroteFrom cap o w p e (codes t) → WrittenFrom cap o w p e t
written_by cap o w p e t W = go (leb e cap) refl
  where
    n : length (codes t) ≡ size t
    n = codes_size t

    go : (b : Bool) → leb e cap ≡ b → WrittenFrom cap o w p e t
    go true q =
        let y = W.fits (leb-true e cap q) in
        record { fits = λ l. (omega (arith, y.0, n), y.1); short = λ l. absurd (omega (arith, y.0, n, leb-true e cap q)) }
    go false q =
        let y = W.short (leb-false e cap q) in
        record { fits = λ l. absurd (omega (arith, y, n)); short = λ l. omega (arith, leb-false e cap q, W.most) }

module _ (sy ts s : List ℕ) (S : Signature) (A : Agrees (arity_of sy) S) (p q : ℕ) (w : Solved (graph sy ts) p q s) (x : ℕ) (t : Term) (f : is_fact S t ≡ true) (l : EachVar Small t) where
  instance_from :
      (c : ℕ) → Stands ts c x t → (u : Term) → ren c t ≡ u → (cap : ℕ) (o v : List ℕ) (i e : ℕ)
      → WritesFrom (graph sy ts) s (node ts x) cap o v i e → WrittenFrom cap o v i e (sub w.μ u)
  instance_from c P u m cap o v i e W =
      written_by cap o v i e (sub w.μ u)
      (subst (λ (y : Term). WroteFrom cap o v i e (codes (sub w.μ y))) (tree_leaves sy ts c x t P.behind (wf_fact S sy A t f l) P.sided P.tokens ∙ m)
      (W (sub w.μ ((graph sy ts).tree (node ts x))) (w.reads (node ts x))))

  -- What is written of a fact of the first record is its instance, its variables made even.
  pub instance_left_from :
      Stands ts 0 x t → (cap : ℕ) (o v : List ℕ) (i e : ℕ) → WritesFrom (graph sy ts) s (node ts x) cap o v i e → WrittenFrom cap o v i e (sub w.μ (sub (λ y. var (2 * y)) t))
  instance_left_from P = instance_from 0 P (sub (λ y. var (2 * y)) t) (ren_left t)

  -- Of the second record: its variables made odd.
  pub instance_right_from :
      Stands ts 1 x t → (cap : ℕ) (o v : List ℕ) (i e : ℕ) → WritesFrom (graph sy ts) s (node ts x) cap o v i e → WrittenFrom cap o v i e (sub w.μ (sub (λ y. var (2 * y + 1)) t))
  instance_right_from P = instance_from 1 P (ren 1 t) refl
