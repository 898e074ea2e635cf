-- The kinds of symbols by name, and the bytes that stand for them. Assumes nothing.
use Rattle.std.specs.Prelude.{ℕ, ◌≡◌, true, false, List, eqb, Option, Some, None, Result, Ok, Err}
use Rattle.records.specs.declared.symbols.Kind.{Kind}
use Rattle.records.specs.declared.symbols.Kind.TheVariants.{Predicate, Function, Name}
use Rattle.records.specs.declared.symbols.UnknownKind.{UnknownKind}
use Rattle.records.specs.Symbols.{kind_of}

-- The byte of a kind.
abbrev pub code_of : Kind → ℕ
code_of Predicate = 1
code_of Function = 2
code_of Name = 3

-- The kind that a byte names.
abbrev pub kind_named : ℕ → Option Kind
kind_named k = elim (eqb k 1) [ true ↦ Some Predicate | false ↦ elim (eqb k 2) [ true ↦ Some Function | false ↦ elim (eqb k 3) [ true ↦ Some Name | false ↦ None ] ] ]

-- The kind of a token.
abbrev pub kind_at : List ℕ → ℕ → Option Kind
kind_at sy t = kind_named (kind_of sy t)

-- A byte is read as the kind that it names, or refused.
abbrev pub Names : ℕ → Result Kind UnknownKind → Type 0
Names k (Ok kind) = kind_named k ≡ Some kind
Names k (Err e) = kind_named k ≡ None
