-- The variables of a list of tokens, as a list and as a set: the digits of a number, variable v as digit v - 1. Assumes nothing.
use Rattle.std.specs.Prelude.{Bool, true, false, List, [], ◌∷◌, ℕ, zero, suc, ◌-◌, ◌^◌, leb, ltb}
use Rattle.std.specs.Int.Bits.{bit_or}
use Rattle.model.specs.Term.{both, elem}
use Rattle.records.specs.Tokens.{first_symbol}

-- The highest variable that a set of 32 digits holds.
abbrev pub last_var : ℕ
last_var = 32

-- The tokens that are variables, repeats included.
unfoldable pub variables : List ℕ → List ℕ
variables [] = []
variables (t ∷ ts) = elim (ltb t first_symbol) [ true ↦ t ∷ variables ts | false ↦ variables ts ]

-- May a set hold the token: is it a variable from 1 to 32?
unfoldable pub held : ℕ → Bool
held t = both (leb 1 t) (leb t last_var)

-- The tokens that a set may hold, repeats included.
unfoldable pub held_of : List ℕ → List ℕ
held_of [] = []
held_of (t ∷ ts) = elim (held t) [ true ↦ t ∷ held_of ts | false ↦ held_of ts ]

-- Is every variable from 1 to 32?
unfoldable pub all_held : List ℕ → Bool
all_held [] = true
all_held (t ∷ ts) = elim (ltb t first_symbol) [ true ↦ both (held t) (all_held ts) | false ↦ all_held ts ]

-- A set with the variable t, if it may hold that.
unfoldable pub with_var : ℕ → ℕ → ℕ
with_var m t = elim (held t) [ true ↦ bit_or m (2 ^ (t - 1)) | false ↦ m ]

-- A set with the variables of a list of tokens.
unfoldable pub with_vars : ℕ → List ℕ → ℕ
with_vars m [] = m
with_vars m (t ∷ ts) = with_vars (with_var m t) ts

-- Of the k variables from v on the first that is not among the tokens, or the one after them.
unfoldable pub gap_from : ℕ → ℕ → List ℕ → ℕ
gap_from zero v ts = v
gap_from (suc k) v ts = elim (elem v ts) [ true ↦ gap_from k (suc v) ts | false ↦ v ]
