-- A step of the walk over the arguments of a symbol, and where the walk stands. Assumes nothing.
use Rattle.std.specs.Prelude.{◌≡◌, ℕ, zero, suc, ◌+◌, ◌*◌, ◌-◌, ◌≤◌, ◌<◌, Bool, true, false, List, [], ◌∷◌, Option, Some, None, leb, length, drop}
use Rattle.std.proofs.Common.{arith, ap, sym, ◌∙◌, drop-drop, length-drop, leb-true, leb-false}
use Rattle.std.proofs.Math.Path.{refl}
use Rattle.records.specs.Symbols.{arity_of}
use Rattle.unify.specs.declared.Pair.{Pair}
use Rattle.unify.specs.declared.Arguments.{Arguments}
use Rattle.unify.specs.Closure.{Every}
use Rattle.unify.specs.Nodes.{head_or, every_drop, starts, starts_at, starts_in, node, Past, at_step, at_end}
use Rattle.unify.specs.Pairs.{tokens_of, tokens_long}

-- the place past the term at p
unfoldable pub beyond : List ℕ → List ℕ → ℕ → ℕ
beyond sy ts p = head_or (length ts) (drop 1 (starts_at sy ts p))

head_in : (n : ℕ) (l : List ℕ) → Every (λ q. q ≤ n) l → head_or n l ≤ n
unfolding head_or
head_in n [] h = omega arith
head_in n (x ∷ l) h = h.0

-- a place where a term starts begins the places from there on
starts_on : (sy ts u : List ℕ) (k n : ℕ) → drop k ts ≡ u → starts_at sy ts (head_or (length ts) (drop n (starts sy k u))) ≡ drop n (starts sy k u)
unfolding starts head_or
starts_on sy ts [] k zero e = at_end sy ts
starts_on sy ts [] k (suc n) e = at_end sy ts
starts_on sy ts (t ∷ u) k zero e = ap (starts sy k) e
starts_on sy ts (t ∷ u) k (suc n) e =
    let d = drop-drop n (arity_of sy t) (starts sy (suc k) u) in
    rw d (starts_on sy ts u (suc k) (arity_of sy t + n) (let z : suc k ≡ k + 1 = omega arith in rw z (sym (drop-drop 1 k ts) ∙ ap (drop 1) e)))

pub past_beyond : (sy ts : List ℕ) (p : ℕ) → p ≤ length ts → Past sy ts p (beyond sy ts p)
unfolding beyond
past_beyond sy ts p l = (head_in (length ts) (drop 1 (starts_at sy ts p)) (every_drop (λ q. q ≤ length ts) 1 (starts_at sy ts p) (starts_in sy ts (drop p ts) p (length ts) (omega (arith, length-drop p ts)))), starts_on sy ts (drop p ts) p 1 refl)

pub past_is : (sy ts : List ℕ) (p q : ℕ) → Past sy ts p q → q ≡ beyond sy ts p
unfolding beyond head_or
past_is sy ts p q h = go (leb (length ts) q) refl
  where
    go : (b : Bool) → leb (length ts) q ≡ b → q ≡ head_or (length ts) (drop 1 (starts_at sy ts p))
    go true e =
        let z : q ≡ length ts = (let y = leb-true (length ts) q e in omega (arith, h.0)) in
        z ∙ ap (head_or (length ts)) (sym (at_end sy ts) ∙ ap (starts_at sy ts) (sym z) ∙ h.1)
    go false e = ap (head_or (length ts)) (sym (at_step sy ts q (leb-false (length ts) q e)) ∙ h.1)

-- where the argument stands that is given next: at the place, or past the term there
unfoldable pub standing : Pair → Bool → ℕ → ℕ
standing p b at = elim b [ false ↦ at | true ↦ beyond p.symbols.now (tokens_of p) at ]

abbrev pub here : Pair → Arguments → ℕ
here p s = standing p s.past s.at

-- The walk at its end stays there; else it gives the node of the argument that stands next, and goes on behind that.
abbrev pub Steps : Arguments → Option ℕ → Arguments → Type 0
Steps s None t = (s.left ≡ 0) × (t ≡ s)
Steps s (Some n) t =
    (0 < s.left) × (n ≡ node (tokens_of s.pair.now) (here s.pair.now s)) × (n < 2 * s.pair.now.toks + 128) × Past s.pair.now.symbols.now (tokens_of s.pair.now) (here s.pair.now s) (here s.pair.now t) × (t.left ≡ s.left - 1) × (t.pair.now ≡ s.pair.now)

pub stands : (s : Arguments) (p : Pair) → s.pair.now ≡ p → here p s ≤ length (tokens_of p)
unfolding standing
stands s p e = go s.past
  where
    at_in : s.at ≤ length (tokens_of p)
    at_in = omega (arith, s.inside, ap (λ (q : Pair). q.toks) e, tokens_long p)

    go : (b : Bool) → elim b [ false ↦ s.at | true ↦ beyond p.symbols.now (tokens_of p) s.at ] ≤ length (tokens_of p)
    go false = at_in
    go true = (past_beyond p.symbols.now (tokens_of p) s.at at_in).0
