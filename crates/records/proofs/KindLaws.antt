-- Laws of the kinds: what a byte names, and what the tests of a kind say of its byte. Assumes nothing.
use mathlib.Core.Path.{◌≡◌, refl, sym, subst, ◌∙◌}
use mathlib.Core.Bool.{Bool, true, false}
use Prim.Native.Nat.{ℕ}
use borrow.Author.Tests.{eqb-true}
use lib.Dec.{eqb}
use Rattle.std.specs.Prelude.{Option, Some, None, MatchOption, Result, Ok, Err, MatchResult}
use Rattle.records.specs.declared.symbols.Kind.{Kind}
use Rattle.records.specs.declared.symbols.Kind.TheVariants.{Predicate, Function, Name}
use Rattle.records.specs.Symbols.{is_function}
use Rattle.records.specs.declared.symbols.UnknownKind.{UnknownKind}
use Rattle.records.specs.Kinds.{code_of, kind_named, Names}

-- The tests of a byte, by the kind that it names.
pub tests_named : (n : ℕ) → MatchOption (kind_named n) ((eqb n 1 ≡ false) × (is_function n ≡ false)) (λ k. code_of k ≡ n)
unfolding is_function
tests_named n =
    by_one (eqb n 1) refl
  where
    by_three : (c : Bool) → eqb n 3 ≡ c → MatchOption (elim c [ true ↦ Some Name | false ↦ None ]) ((false ≡ false) × (c ≡ false)) (λ k. code_of k ≡ n)
    by_three true e = sym (eqb-true n 3 e)
    by_three false e = (refl, refl)

    by_two : (c : Bool) → eqb n 2 ≡ c → MatchOption (elim c [ true ↦ Some Function | false ↦ elim (eqb n 3) [ true ↦ Some Name | false ↦ None ] ]) ((false ≡ false) × (elim c [ true ↦ true | false ↦ eqb n 3 ] ≡ false)) (λ k. code_of k ≡ n)
    by_two true e = sym (eqb-true n 2 e)
    by_two false e = by_three (eqb n 3) refl

    by_one : (c : Bool) → eqb n 1 ≡ c → MatchOption (elim c [ true ↦ Some Predicate | false ↦ elim (eqb n 2) [ true ↦ Some Function | false ↦ elim (eqb n 3) [ true ↦ Some Name | false ↦ None ] ] ]) ((c ≡ false) × (is_function n ≡ false)) (λ k. code_of k ≡ n)
    by_one true e = sym (eqb-true n 1 e)
    by_one false e = by_two (eqb n 2) refl

pub some_function : (o : Option Kind) (n : ℕ) (r : Bool) → o ≡ kind_named n → MatchOption o (r ≡ false) (λ k. r ≡ is_function (code_of k)) → r ≡ is_function n
some_function o n r e m = go (kind_named n) (subst (λ x. MatchOption x (r ≡ false) (λ k. r ≡ is_function (code_of k))) e m) (tests_named n)
  where
    go : (x : Option Kind) → MatchOption x (r ≡ false) (λ k. r ≡ is_function (code_of k)) → MatchOption x ((eqb n 1 ≡ false) × (is_function n ≡ false)) (λ k. code_of k ≡ n) → r ≡ is_function n
    go (Some k) a b = subst (λ (z : ℕ). r ≡ is_function z) b a
    go None a b = a ∙ sym b.1

pub ok_function : (x : Result Kind UnknownKind) (n : ℕ) (r : Bool) → Names n x → MatchResult x (λ k. r ≡ is_function (code_of k)) (λ _. r ≡ false) → r ≡ is_function n
ok_function (Ok k) n r e m = some_function (Some k) n r (sym e) m
ok_function (Err u) n r e m = some_function None n r (sym e) m
