-- The symbol table as bytes: 16 a record, kind, arity, then a printed name of 14 bytes. Assumes nothing.
use Rattle.std.specs.Prelude.{ℕ, zero, suc, ◌+◌, ◌-◌, ◌*◌, ◌%◌, Bool, true, false, List, [], ◌∷◌, eqb, leb, ltb, take, drop, get_or}
use Rattle.std.proofs.Math.Option.{Option, none, some}
use Rattle.model.specs.Term.{both}
use Rattle.model.specs.Sign.{Signature}

-- ---- what a table says of a token
-- The kind of a token: 1 predicate, 2 function, 3 name; 0 where it is a variable or no symbol.
unfoldable pub kind_of : List ℕ → ℕ → ℕ
kind_of sy t = elim (ltb t 64) [ true ↦ 0 | false ↦ get_or sy (16 * (t - 64)) 0 ]

unfoldable pub arity_of : List ℕ → ℕ → ℕ
arity_of sy t = elim (ltb t 64) [ true ↦ 0 | false ↦ get_or sy (16 * (t - 64) + 1) 0 ]

-- Functions and names combine alike.
unfoldable pub is_function : ℕ → Bool
is_function k = elim (eqb k 2) [ true ↦ true | false ↦ eqb k 3 ]

unfoldable pub signature : List ℕ → Signature
signature sy =
    record {
      function = λ t. elim (is_function (kind_of sy t)) [ true ↦ some (arity_of sy t) | false ↦ none ];
      predicate = λ t. elim (eqb (kind_of sy t) 1) [ true ↦ some (arity_of sy t) | false ↦ none ];
    }

-- ---- lists of bytes
unfoldable pub zeros : List ℕ → Bool
zeros [] = true
zeros (b ∷ l) = elim (eqb b 0) [ true ↦ zeros l | false ↦ false ]

unfoldable pub same_bytes : List ℕ → List ℕ → Bool
same_bytes [] [] = true
same_bytes [] (c ∷ m) = false
same_bytes (b ∷ l) [] = false
same_bytes (b ∷ l) (c ∷ m) = elim (eqb b c) [ true ↦ same_bytes l m | false ↦ false ]

-- ---- one record
unfoldable pub is_letter : ℕ → Bool
is_letter b = both (leb 97 b) (leb b 122)

unfoldable pub is_name_byte : ℕ → Bool
is_name_byte b = elim (is_letter b) [ true ↦ true | false ↦ both (leb 48 b) (leb b 57) ]

-- Letters and digits, then zeros.
unfoldable pub name_rest : List ℕ → Bool
name_rest [] = true
name_rest (b ∷ l) = elim (eqb b 0) [ true ↦ zeros l | false ↦ elim (is_name_byte b) [ true ↦ name_rest l | false ↦ false ] ]

unfoldable pub name_good : List ℕ → Bool
name_good [] = false
name_good (b ∷ l) = both (is_letter b) (name_rest l)

-- A predicate has 1 to 4 arguments, a function or a name up to 6.
unfoldable pub shape_good : ℕ → ℕ → Bool
shape_good k a = elim (eqb k 1) [ true ↦ both (leb 1 a) (leb a 4) | false ↦ both (is_function k) (leb a 6) ]

-- The name is none of those of the first n records.
unfoldable pub name_new : List ℕ → ℕ → List ℕ → Bool
name_new name zero sy = true
name_new name (suc n) sy = elim (same_bytes (take 14 (drop 2 sy)) name) [ true ↦ false | false ↦ name_new name n (drop 16 sy) ]

-- Symbol 0 is a predicate of arity 1.
unfoldable pub first_good : ℕ → ℕ → ℕ → Bool
first_good zero k a = both (eqb k 1) (eqb a 1)
first_good (suc i) k a = true

-- Record i of the table, which begins with the bytes `rec`.
unfoldable pub symbol_good : List ℕ → ℕ → List ℕ → Bool
symbol_good sy i rec =
    both (shape_good (get_or rec 0 0) (get_or rec 1 0)) (both (first_good i (get_or rec 0 0) (get_or rec 1 0)) (both (name_good (take 14 (drop 2 rec))) (name_new (take 14 (drop 2 rec)) i sy)))

-- The number of the first bad one of n records, the first with number i.
unfoldable pub first_bad_symbol : List ℕ → ℕ → ℕ → List ℕ → Option ℕ
first_bad_symbol sy zero i l = none
first_bad_symbol sy (suc n) i l = elim (symbol_good sy i l) [ false ↦ some i | true ↦ first_bad_symbol sy n (suc i) (drop 16 l) ]

-- 1 to 128 records, and nothing over.
unfoldable pub symbols_length : ℕ → Bool
symbols_length n = both (both (leb 16 n) (leb n 2048)) (eqb (n % 16) 0)
