-- One-way matching on tokens: the variables of a pattern are bound to places of a text. Assumes nothing.
use Rattle.std.specs.Prelude.{ℕ, zero, suc, ◌+◌, Bool, true, false, List, [], ◌∷◌, eqb, ltb, take, drop, get_or, set, replicate}
use Rattle.records.specs.Symbols.{same_bytes}
use Rattle.records.specs.Tokens.{span}

-- Do the n tokens at two places of the text agree?
unfoldable pub agree : List ℕ → ℕ → ℕ → ℕ → Bool
agree text n s p = same_bytes (take n (drop s text)) (take n (drop p text))

-- Whether the pattern's tokens match the text from place p on, and the bindings then: at x is 0 where the variable x is free,
-- and else one more than the place of the term that it stands for.
unfoldable pub matched : (ℕ → ℕ) → List ℕ → List ℕ → ℕ → List ℕ → Bool × List ℕ
matched ar [] text p b = (true, b)
matched ar (t ∷ ts) text p b =
    elim (ltb t 64) [
      | false ↦ elim (eqb t (get_or text p 0)) [ false ↦ (false, b) | true ↦ matched ar ts text (suc p) b ]
      | true ↦
          elim (get_or b t 0) [
            | zero ↦ matched ar ts text (p + span ar 1 (drop p text)) (set b t (suc p))
            | suc s ↦ elim (agree text (span ar 1 (drop p text)) s p) [ false ↦ (false, b) | true ↦ matched ar ts text (p + span ar 1 (drop p text)) b ]
          ]
    ]

-- On with the bindings where a match succeeded.
unfoldable pub onward : Bool × List ℕ → (List ℕ → Bool) → Bool
onward m k = elim m.0 [ true ↦ k m.1 | false ↦ false ]

-- No variable is bound yet.
abbrev pub unbound : List ℕ
unbound = replicate 64 0
