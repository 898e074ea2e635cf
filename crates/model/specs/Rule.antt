-- Rules: implication (Definition 1), combination (Definition 3), which hypotheses are open, and which rules fit. Assumes nothing.
use Rattle.std.specs.Prelude.{ℕ, zero, suc, ◌+◌, ◌*◌, Bool, true, false, List, [], ◌∷◌, ◌++◌, map, eqb, leb, length}
use Rattle.std.proofs.Math.Option.{Option, none, some}
use Rattle.model.specs.Term.{Term, var, con, ◌·◌, sub, same, size, vars, distinct, Bindings, apply, unify}

-- A rule: the conclusion holds where all hypotheses do.
pub record Rule : Type 0 where
  pub concl : Term
  pub hyps : List Term

unfoldable pub sub_rule : (ℕ → Term) → Rule → Rule
sub_rule σ r = record { concl = sub σ r.concl; hyps = map (sub σ) r.hyps }

-- ---- renumbering, and dropping copies
unfoldable pub vars_all : List Term → List ℕ
vars_all [] = []
vars_all (t ∷ l) = vars t (vars_all l)

-- The different variables of a rule by first appearance.
unfoldable pub vars_of : Rule → List ℕ
vars_of r = distinct [] (vars r.concl (vars_all r.hyps))

-- How many stand before x in a list.
unfoldable pub place : ℕ → List ℕ → ℕ
place x [] = 0
place x (y ∷ l) = elim (eqb x y) [ true ↦ 0 | false ↦ suc (place x l) ]

-- Variables renumbered 1, 2, .. by first appearance.
unfoldable pub renumber : Rule → Rule
renumber r = let vs = vars_of r in sub_rule (λ x. var (suc (place x vs))) r

unfoldable pub among : Term → List Term → Bool
among t [] = false
among t (u ∷ l) = elim (same t u) [ true ↦ true | false ↦ among t l ]

-- Of equal terms only the first, and none that is among `seen`.
unfoldable pub firsts : List Term → List Term → List Term
firsts seen [] = []
firsts seen (t ∷ l) = elim (among t seen) [ true ↦ firsts seen l | false ↦ t ∷ firsts (t ∷ seen) l ]

-- Of equal hypotheses only the first copy is kept.
unfoldable pub drop_copies : Rule → Rule
drop_copies r = record { concl = r.concl; hyps = firsts [] r.hyps }

-- A rule in the form that working records have.
unfoldable pub normal : Rule → Rule
normal r = renumber (drop_copies r)

-- ---- limits
-- What a record can hold, and how many records the three lent tables can.
pub record Limits : Type 0 where
  pub max_hyps : ℕ
  pub max_tokens : ℕ
  pub max_vars : ℕ
  pub max_rules : ℕ
  pub max_goals : ℕ
  pub max_steps : ℕ

unfoldable pub size_all : List Term → ℕ
size_all [] = 0
size_all (t ∷ l) = size t + size_all l

-- Fit: not too many hypotheses, tokens or different variables.
unfoldable pub fits : Limits → Rule → Bool
fits L r =
    elim (leb (length r.hyps) L.max_hyps) [
      | false ↦ false
      | true ↦
          elim (leb (size r.concl + size_all r.hyps) L.max_tokens) [
            | false ↦ false
            | true ↦ leb (length (vars_of r)) L.max_vars
          ]
    ]

-- ---- open
-- A fact is open if it says of a lone variable that it has one of the open predicates.
unfoldable pub is_open : (ℕ → Bool) → Term → Bool
is_open o (var x) = false
is_open o (con f) = false
is_open o (var y · t) = false
is_open o (con p · var x) = o p
is_open o (con p · con g) = false
is_open o (con p · (a · b)) = false
is_open o (a · b · t) = false

unfoldable pub all_open : (ℕ → Bool) → List Term → Bool
all_open o [] = true
all_open o (t ∷ l) = elim (is_open o t) [ true ↦ all_open o l | false ↦ false ]

-- ---- implication
unfoldable pub lookup : ℕ → Bindings → Option Term
lookup x [] = none
lookup x (p ∷ b) = elim (eqb x p.0) [ true ↦ some p.1 | false ↦ lookup x b ]

-- Let x stand for t, if it does not stand for another term already.
unfoldable pub bind_to : ℕ → Term → Bindings → Option Bindings
bind_to x t b =
    elim (lookup x b) [
      | none ↦ some ((x, t) ∷ b)
      | some u ↦ elim (same u t) [ true ↦ some b | false ↦ none ]
    ]

-- One-way matching: what the variables of p have to stand for, beside what they stand for already, so that p becomes t.
unfoldable pub match : Term → Term → Bindings → Option Bindings
match (var x) t b = bind_to x t b
match (con f) (var y) b = none
match (con f) (con g) b = elim (eqb f g) [ true ↦ some b | false ↦ none ]
match (con f) (c · d) b = none
match (p · q) (var y) b = none
match (p · q) (con g) b = none
match (p · q) (c · d) b = elim (match p c b) [ none ↦ none | some b' ↦ match q d b' ]

-- The first answer that some term of the list gives, together with the list without it.
unfoldable pub choose : (Term → List Term → Option Bindings) → List Term → Option Bindings
choose k [] = none
choose k (x ∷ q) = elim (k x q) [ some b ↦ some b | none ↦ choose (λ y r. k y (x ∷ r)) q ]

-- Carry each hypothesis to one of q, no two to the same one; go back where a choice fails.
unfoldable pub embeds : List Term → List Term → Bindings → Option Bindings
embeds [] q b = some b
embeds (h ∷ hs) q b = choose (λ x r. elim (match h x b) [ none ↦ none | some b' ↦ embeds hs r b' ]) q

-- The first substitution by which r implies q: it carries r's conclusion to q's and r's hypotheses, as a multiset, into q's.
unfoldable pub implies_by : Rule → Rule → Option Bindings
implies_by r q = elim (match r.concl q.concl []) [ none ↦ none | some b ↦ embeds r.hyps q.hyps b ]

unfoldable pub implies : Rule → Rule → Bool
implies r q = elim (implies_by r q) [ none ↦ false | some b ↦ true ]

-- ---- combination
unfoldable pub nth : List Term → ℕ → Option Term
nth [] k = none
nth (t ∷ l) zero = some t
nth (t ∷ l) (suc k) = nth l k

-- The list without the term that has k before it.
unfoldable pub without : List Term → ℕ → List Term
without [] k = []
without (t ∷ l) zero = l
without (t ∷ l) (suc k) = t ∷ without l k

-- The variables of R are made even and those of R' odd, so that they are different.
unfoldable pub left : Rule → Rule
left r = sub_rule (λ x. var (2 * x)) r

unfoldable pub right : Rule → Rule
right r = sub_rule (λ x. var (2 * x + 1)) r

-- By a unifier: the conclusion of R', with R's hypotheses and then those of R' without the one combined upon.
unfoldable pub resolvent : Rule → Rule → ℕ → Bindings → Rule
resolvent a b k m = record { concl = apply m b.concl; hyps = map (apply m) (a.hyps ++ without b.hyps k) }

unfoldable pub by_unifier : Rule → Rule → ℕ → Option Bindings → Option Rule
by_unifier a b k none = none
by_unifier a b k (some m) = some (normal (resolvent a b k m))

unfoldable pub upon : Rule → Rule → ℕ → Option Term → Option Rule
upon a b k none = none
upon a b k (some f) = by_unifier a b k (unify a.concl f)

-- R and R' combined upon the hypothesis of R' with k before it; none where that is not there or no unifier exists.
unfoldable pub combine : Rule → Rule → ℕ → Option Rule
combine r r' k = upon (left r) (right r') k (nth (right r').hyps k)
