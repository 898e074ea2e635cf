-- Terms, facts and substitutions, and the most general unifier.
-- f(a, b) is `con f · a · b`, so the leaves from left to right are the prefix tokens: a symbol's number is its token, and so is a variable's.
-- A fact is a term that begins with a predicate. Nothing here asks that arities are kept (Sign.antt does). Assumes nothing.
use Rattle.std.specs.Prelude.{ℕ, zero, suc, ◌+◌, Bool, true, false, List, [], ◌∷◌, eqb, length}
use Rattle.std.proofs.Math.Option.{Option, none, some}

infixl 70 ◌·◌
pub data Term : Type 0 where
  var : ℕ → Term
  con : ℕ → Term
  ◌·◌ : Term → Term → Term
  deriving Discrete as Term-discrete

-- A substitution gives a term for each variable; `sub σ t` carries it through t.
unfoldable pub sub : (ℕ → Term) → Term → Term
sub σ (var x) = σ x
sub σ (con f) = con f
sub σ (a · b) = sub σ a · sub σ b

-- Both tests hold.
unfoldable pub both : Bool → Bool → Bool
both true b = b
both false b = false

-- Are two terms the same?
unfoldable pub same : Term → Term → Bool
same (var x) (var y) = eqb x y
same (var x) (con g) = false
same (var x) (c · d) = false
same (con f) (var y) = false
same (con f) (con g) = eqb f g
same (con f) (c · d) = false
same (a · b) (var y) = false
same (a · b) (con g) = false
same (a · b) (c · d) = elim (same a c) [ true ↦ same b d | false ↦ false ]

-- The number of tokens.
unfoldable pub size : Term → ℕ
size (var x) = 1
size (con f) = 1
size (a · b) = size a + size b

-- Closed: no variable.
unfoldable pub closed : Term → Bool
closed (var x) = false
closed (con f) = true
closed (a · b) = both (closed a) (closed b)

-- The variables of t from left to right, repeats included, put in front of a list.
unfoldable pub vars : Term → List ℕ → List ℕ
vars (var x) l = x ∷ l
vars (con f) l = l
vars (a · b) l = vars a (vars b l)

unfoldable pub elem : ℕ → List ℕ → Bool
elem x [] = false
elem x (y ∷ l) = elim (eqb x y) [ true ↦ true | false ↦ elem x l ]

-- The different numbers of a list that are not among `seen`, by first appearance.
unfoldable pub distinct : List ℕ → List ℕ → List ℕ
distinct seen [] = []
distinct seen (x ∷ l) = elim (elem x seen) [ true ↦ distinct seen l | false ↦ x ∷ distinct (x ∷ seen) l ]

-- Does the variable stand in the term?
unfoldable pub occurs : ℕ → Term → Bool
occurs x (var y) = eqb x y
occurs x (con f) = false
occurs x (a · b) = elim (occurs x a) [ true ↦ true | false ↦ occurs x b ]

-- The substitution that puts u for x and changes nothing else.
unfoldable pub bind1 : ℕ → Term → ℕ → Term
bind1 x u y = elim (eqb x y) [ true ↦ u | false ↦ var y ]

-- The first place from the left where two terms differ: nowhere, at two symbols, or where a variable meets another term.
pub data Diff : Type 0 where
  agree : Diff
  clash : Diff
  bind : ℕ → Term → Diff

unfoldable pub diff : Term → Term → Diff
diff (var x) (var y) = elim (eqb x y) [ true ↦ agree | false ↦ bind x (var y) ]
diff (var x) (con g) = bind x (con g)
diff (var x) (c · d) = bind x (c · d)
diff (con f) (var y) = bind y (con f)
diff (con f) (con g) = elim (eqb f g) [ true ↦ agree | false ↦ clash ]
diff (con f) (c · d) = clash
diff (a · b) (var y) = bind y (a · b)
diff (a · b) (con g) = clash
diff (a · b) (c · d) = elim (diff a c) [ agree ↦ diff b d | clash ↦ clash | bind x u ↦ bind x u ]

-- A unifier as bindings, each applied before the next.
abbrev pub Bindings : Type 0
Bindings = List (ℕ × Term)

unfoldable pub apply : Bindings → Term → Term
apply [] t = t
apply (p ∷ m) t = apply m (sub (bind1 p.0 p.1) t)

-- Robinson's unifier: mend the first difference and begin again. Each binding does away with a variable, so as many turns as there are
-- variables suffice, and in the last there is none left to bind: what stands for that case is not used.
unfoldable pub mgu : ℕ → Term → Term → Option Bindings
mgu zero s t = elim (diff s t) [ agree ↦ some [] | clash ↦ none | bind x u ↦ some [] ]
mgu (suc n) s t =
    elim (diff s t) [
      | agree ↦ some []
      | clash ↦ none
      | bind x u ↦
          elim (occurs x u) [
            | true ↦ none
            | false ↦ elim (mgu n (sub (bind1 x u) s) (sub (bind1 x u) t)) [ none ↦ none | some m ↦ some ((x, u) ∷ m) ]
          ]
    ]

-- How many different variables two terms have together.
unfoldable pub unknowns : Term → Term → ℕ
unknowns s t = length (distinct [] (vars s (vars t [])))

-- The most general unifier, or none.
unfoldable pub unify : Term → Term → Option Bindings
unify s t = mgu (unknowns s t) s t
