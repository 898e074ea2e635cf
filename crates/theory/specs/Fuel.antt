-- The bound of a loop is never what ends it: with any more of it the result is the same. Assumes nothing.
use Prim.Native.Nat.{ℕ, zero, suc, ◌+◌, ◌*◌, ◌≤◌, ◌<◌}
use Rattle.std.proofs.Common.{arith, le_refl, ap, ◌∙◌}
use Rattle.std.specs.Prelude.{Bool, List, [], ◌∷◌, map, ◌≡◌, length}
use Rattle.std.proofs.Math.Bool.{true, false}
use Rattle.std.proofs.Math.Option.{Option, none, some}
use Rattle.std.proofs.Math.Path.{refl, sym}
use Rattle.std.proofs.Math.Dec.{leb}
use borrow.Author.Tests.{leb-false}
use Rattle.model.specs.Term.{Term, sub, occurs, bind1, Diff, agree, clash, bind, diff, Bindings, vars, distinct, mgu, unknowns, unify}
use Rattle.model.specs.Rule.{Rule, Limits}
use Rattle.model.specs.Table.{Origin, input, combined, asked, Rec, rec_at, Table, fact_large, lack, Progress, going, stopped, and_then}
use Rattle.model.specs.Run.{Setting, row, rows, complete, try_rules, try_goals}
use Rattle.model.specs.Write.{Step, filler, rule_at, rule_of, parents, concluded, all_short, write_input, record', write}
use Rattle.theory.specs.Unify.{OccOk, occurs_ok, DiffOk, diff_ok, Within, sel_length, shrink}
use Rattle.theory.specs.Combine.{within_counted}
use Rattle.theory.specs.Tables.{at_lt}
use Rattle.theory.specs.Loops.{Reached, Ok}
use Rattle.theory.specs.Complete.{Across, row_ok}
use Rattle.theory.specs.Search.{Tried, try_ok}
use Rattle.theory.specs.Basics.{no_confusion}
use Rattle.theory.specs.Origins.{rank, Prov, is_input, is_asked, is_combined, ProvAll}

-- ---- the unifier
-- u for x, and after it the bindings o, unless u holds x
abbrev first : ℕ → Term → Option Bindings → Bool → Option Bindings
first x u o c = elim c [ true ↦ none | false ↦ elim o [ none ↦ none | some b ↦ some ((x, u) ∷ b) ] ]

-- one turn at the difference d, where `rest` does those after it
abbrev turn : (Term → Term → Option Bindings) → Term → Term → Diff → Option Bindings
turn rest s t d =
    elim d [
      | agree ↦ some []
      | clash ↦ none
      | bind x u ↦ first x u (rest (sub (bind1 x u) s) (sub (bind1 x u) t)) (occurs x u)
    ]

-- without variables there is nothing to bind
mgu_out : (m : ℕ) (s t : Term) (v : List ℕ) → length v ≤ 0 → Within s t v → mgu 0 s t ≡ mgu m s t
unfolding mgu
mgu_out zero s t v l w = refl
mgu_out (suc m) s t v l w = go (diff s t) (diff_ok s t)
  where
    go : (d : Diff) → DiffOk s t d → elim d [ agree ↦ some [] | clash ↦ none | bind x u ↦ some [] ] ≡ turn (mgu m) s t d
    go agree h = refl
    go clash h = refl
    go (bind x u) h = absurd (omega (arith, sel_length (w x h.held).1))

-- two ways to do the rest that agree where one variable fewer is left
turn_same :
    (f g : Term → Term → Option Bindings) (s t : Term) (v : List ℕ) → Within s t v
    → ((s' t' : Term) (v' : List ℕ) → length v ≡ suc (length v') → Within s' t' v' → f s' t' ≡ g s' t')
    → (d : Diff) → DiffOk s t d → turn f s t d ≡ turn g s t d
turn_same f g s t v w rec agree h = refl
turn_same f g s t v w rec clash h = refl
turn_same f g s t v w rec (bind x u) h = go (occurs x u) (occurs_ok x u)
  where
    go : (c : Bool) → OccOk x u c → first x u (f (sub (bind1 x u) s) (sub (bind1 x u) t)) c ≡ first x u (g (sub (bind1 x u) s) (sub (bind1 x u) t)) c
    go true k = refl
    go false k =
        let i = (w x h.held).1 in
        ap (λ o. first x u o false) (rec _ _ _ (sel_length i) (shrink s t x u h k i w))

mgu_same : (n m : ℕ) (s t : Term) (v : List ℕ) → length v ≤ n → length v ≤ m → Within s t v → mgu n s t ≡ mgu m s t
unfolding mgu
mgu_same zero m s t v l k w = mgu_out m s t v l w
mgu_same (suc n) zero s t v l k w = sym (mgu_out (suc n) s t v k w)
mgu_same (suc n) (suc m) s t v l k w =
    turn_same (mgu n) (mgu m) s t v w (λ s' t' v' e w'. mgu_same n m s' t' v' (omega arith) (omega arith) w') (diff s t) (diff_ok s t)

-- More turns than there are different variables change nothing.
pub unify_fuel : (s t : Term) (n : ℕ) → unknowns s t ≤ n → mgu n s t ≡ unify s t
unfolding unify unknowns
unify_fuel s t n l = mgu_same n _ s t (distinct [] (vars s (vars t []))) l (le_refl _) (within_counted s t)

-- ---- loops over a table
-- what comes after a part matters only at the tables it comes to
then_same :
    (cap : ℕ) (t : Table) (P : List Rec → Type 0) (o : Progress Table) (f g : Table → Progress Table)
    → Ok cap t P o → ((u : Table) → Reached cap t P u → f u ≡ g u) → and_then o f ≡ and_then o g
unfolding and_then
then_same cap t P (going u) f g h e = e u h
then_same cap t P (stopped w u) f g h e = refl

module _ (S : Setting) where
  -- room for rules
  abbrev cap : ℕ
  cap = S.limits.max_rules

  -- row i unless there is none, and after it `rest`
  abbrev row_and : (Table → Progress Table) → ℕ → Table → Bool → Progress Table
  row_and rest i t c = elim c [ true ↦ going t | false ↦ and_then (row S i i 0 t) rest ]

  -- at a table of at most i records there is no row i
  rows_out : (n i : ℕ) (t : Table) → length t.recs ≤ i → going t ≡ rows S n i t
  unfolding rows
  rows_out zero i t l = refl
  rows_out (suc n) i t l = go (leb (length t.recs) i) refl
    where
      go : (c : Bool) → leb (length t.recs) i ≡ c → going t ≡ row_and (rows S n (suc i)) i t c
      go true e = refl
      go false e = absurd (omega (arith, leb-false (length t.recs) i e))

  row_same :
      (f g : Table → Progress Table) (i : ℕ) (t : Table) → length t.recs ≤ cap → ((u : Table) → length u.recs ≤ cap → f u ≡ g u)
      → (c : Bool) → leb (length t.recs) i ≡ c → row_and f i t c ≡ row_and g i t c
  row_same f g i t r rec true e = refl
  row_same f g i t r rec false e =
      then_same cap t (Across S i 0) (row S i i 0 t) f g (row_ok S i i 0 t (omega arith) (leb-false (length t.recs) i e)) (λ u h. rec u (h.room r))

  rows_same : (n m i : ℕ) (t : Table) → cap ≤ i + n → cap ≤ i + m → length t.recs ≤ cap → rows S n i t ≡ rows S m i t
  unfolding rows
  rows_same zero m i t l k r = rows_out m i t (omega arith)
  rows_same (suc n) zero i t l k r = sym (rows_out (suc n) i t (omega arith))
  rows_same (suc n) (suc m) i t l k r =
      row_same (rows S n (suc i)) (rows S m (suc i)) i t r (λ u z. rows_same n m (suc i) u (omega arith) (omega arith) z) (leb (length t.recs) i) refl

  -- More rows than there is room for rules change nothing.
  pub complete_fuel : (t : Table) (n : ℕ) → length t.recs ≤ S.limits.max_rules → rows S (S.limits.max_rules + n) 0 t ≡ complete S t
  unfolding complete
  complete_fuel t n r = rows_same (S.limits.max_rules + n) S.limits.max_rules 0 t (omega arith) (omega arith) r

module _ (S : Setting) (t : List Rec) where
  -- room for goals
  abbrev cap_g : ℕ
  cap_g = S.limits.max_goals

  -- goal j if it is there, and after it `rest`
  abbrev goal_and : (Table → Progress Table) → ℕ → Table → Option Rec → Progress Table
  goal_and rest j g o = elim o [ none ↦ going g | some x ↦ and_then (try_rules S t 0 x.rule j g) rest ]

  -- of at most j goals there is no goal j
  goals_out : (n j : ℕ) (g : Table) → length g.recs ≤ j → going g ≡ try_goals S t n j g
  unfolding try_goals
  goals_out zero j g l = refl
  goals_out (suc n) j g l = go (rec_at g.recs j) refl
    where
      go : (o : Option Rec) → rec_at g.recs j ≡ o → going g ≡ goal_and (try_goals S t n (suc j)) j g o
      go none e = refl
      go (some x) e = absurd (omega (arith, at_lt g.recs j x e))

  goal_same :
      (f h : Table → Progress Table) (j : ℕ) (g : Table) → length g.recs ≤ cap_g → ((u : Table) → length u.recs ≤ cap_g → f u ≡ h u)
      → (o : Option Rec) → goal_and f j g o ≡ goal_and h j g o
  goal_same f h j g r rec none = refl
  goal_same f h j g r rec (some x) =
      then_same cap_g g (Tried S t x.rule) (try_rules S t 0 x.rule j g) f h (try_ok S x.rule j t 0 g) (λ u k. rec u (k.room r))

  goals_same : (n m j : ℕ) (g : Table) → cap_g ≤ j + n → cap_g ≤ j + m → length g.recs ≤ cap_g → try_goals S t n j g ≡ try_goals S t m j g
  unfolding try_goals
  goals_same zero m j g l k r = goals_out m j g (omega arith)
  goals_same (suc n) zero j g l k r = sym (goals_out (suc n) j g (omega arith))
  goals_same (suc n) (suc m) j g l k r =
      goal_same (try_goals S t n (suc j)) (try_goals S t m (suc j)) j g r (λ u z. goals_same n m (suc j) u (omega arith) (omega arith) z) (rec_at g.recs j)

  -- More turns than there is room for goals change nothing.
  pub search_fuel : (g : Table) (n : ℕ) → length g.recs ≤ S.limits.max_goals → try_goals S t (S.limits.max_goals + n) 0 g ≡ try_goals S t S.limits.max_goals 0 g
  search_fuel g n r = goals_same (S.limits.max_goals + n) S.limits.max_goals 0 g (omega arith) (omega arith) r

-- ---- writing
rest_same : {A : Type 0} (o : Progress A) (f g : A → Progress A) → ((a : A) → f a ≡ g a) → and_then o f ≡ and_then o g
unfolding and_then
rest_same (going a) f g h = h a
rest_same (stopped w a) f g h = refl

parts_same : {A : Type 0} (o p : Progress A) (f g : A → Progress A) → o ≡ p → ((a : A) → f a ≡ g a) → and_then o f ≡ and_then p g
parts_same o p f g e h = ap (λ z. and_then z f) e ∙ rest_same p f g h

-- what writes the instance of a record
abbrev Writer : Type 0
Writer = Bool → ℕ → (ℕ → Term) → List Step → Progress (List Step)

module _ (L : Limits) (rs : List Rule) (t g : List Rec) (query : Term) where
  -- by its origin, where w writes the parents
  abbrev by_origin : Writer → Bool → (ℕ → Term) → List Step → Origin → Progress (List Step)
  by_origin w goal θ ss o =
      elim o [
        | asked ↦ going ss
        | input a ↦ write_input L rs t g query a (rule_at rs a) θ ss
        | combined k a b ↦
            let σ = parents (filler query) (rule_of (rec_at t a)) (rule_of (record' L rs t g query goal b)) k θ in
            and_then (w false a (λ y. σ (2 * y)) ss) (w goal b (λ y. σ (2 * y + 1)))
      ]

  -- record x, where what its origin gives is p
  abbrev by_record : (ℕ → Term) → List Step → Rec → Progress (List Step) → Progress (List Step)
  by_record θ ss x p =
      elim (all_short L.max_tokens (map (sub θ) (x.rule.concl ∷ x.rule.hyps))) [
        | false ↦ stopped (lack fact_large) ss
        | true ↦ elim (concluded (sub θ x.rule.concl) ss 0) [ some k ↦ going ss | none ↦ p ]
      ]

  abbrev by_number : Writer → Bool → (ℕ → Term) → List Step → Option Rec → Progress (List Step)
  by_number w goal θ ss o = elim o [ none ↦ going ss | some x ↦ by_record θ ss x (by_origin w goal θ ss x.origin) ]

  -- two writers that agree on the records of rank below n
  abbrev Agree : Writer → Writer → ℕ → Type 0
  Agree v w n = (goal : Bool) (i : ℕ) (θ : ℕ → Term) (ss : List Step) → rank t goal i < n → v goal i θ ss ≡ w goal i θ ss

  origin_same :
      (v w : Writer) (n : ℕ) → Agree v w n → (goal : Bool) (θ : ℕ → Term) (ss : List Step) (o : Origin)
      → ((k a b : ℕ) → o ≡ combined k a b → (a < n) × (rank t goal b < n)) → by_origin v goal θ ss o ≡ by_origin w goal θ ss o
  origin_same v w n h goal θ ss asked l = refl
  origin_same v w n h goal θ ss (input a) l = refl
  origin_same v w n h goal θ ss (combined k a b) l =
      let z = l k a b refl in
      parts_same _ _ _ _ (h false a _ ss z.0) (λ ss'. h goal b _ ss' z.1)

-- Where a parent's number is below its child's; a goal's R is a rule and its R' a goal.
module _ (L : Limits) (rs : List Rule) (t g : List Rec) (query : Term)
    (rules_below : (i : ℕ) (x : Rec) (k a b : ℕ) → rec_at t i ≡ some x → x.origin ≡ combined k a b → (a < i) × (b < i))
    (goals_below : (i : ℕ) (x : Rec) (k a b : ℕ) → rec_at g i ≡ some x → x.origin ≡ combined k a b → (a < length t) × (b < i))
  where
    below :
        (goal : Bool) (i : ℕ) (x : Rec) (k a b : ℕ) → record' L rs t g query goal i ≡ some x → x.origin ≡ combined k a b
        → (a < rank t goal i) × (rank t goal b < rank t goal i)
    unfolding record'
    below true i x k a b e o = let z = goals_below i x k a b e o in (omega (arith, z.0), omega (arith, z.1))
    below false i x k a b e o = rules_below i x k a b e o

    number_same :
        (v w : Writer) (n : ℕ) → Agree L rs t g query v w n → (goal : Bool) (i : ℕ) (θ : ℕ → Term) (ss : List Step) → rank t goal i ≤ n
        → (o : Option Rec) → record' L rs t g query goal i ≡ o → by_number L rs t g query v goal θ ss o ≡ by_number L rs t g query w goal θ ss o
    number_same v w n h goal i θ ss l none e = refl
    number_same v w n h goal i θ ss l (some x) e =
        ap (by_record L rs t g query θ ss x)
        (origin_same L rs t g query v w n h goal θ ss x.origin (λ k a b p. let z = below goal i x k a b e p in (omega (arith, z.0), omega (arith, z.1))))

    write_same :
        (n m : ℕ) (goal : Bool) (i : ℕ) (θ : ℕ → Term) (ss : List Step) → rank t goal i < n → rank t goal i < m
        → write L rs t g query n goal i θ ss ≡ write L rs t g query m goal i θ ss
    unfolding write
    write_same zero m goal i θ ss l k = absurd (omega arith)
    write_same (suc n) zero goal i θ ss l k = absurd (omega arith)
    write_same (suc n) (suc m) goal i θ ss l k =
        number_same (write L rs t g query n) (write L rs t g query m) (rank t goal i)
        (λ goal' i' θ' ss' l'. write_same n m goal' i' θ' ss' (omega arith) (omega arith)) goal i θ ss (omega arith)
        (record' L rs t g query goal i) refl

    -- More depth than a record's rank changes nothing.
    pub write_more :
        (n m : ℕ) (goal : Bool) (i : ℕ) (θ : ℕ → Term) (ss : List Step) → rank t goal i < n
        → write L rs t g query (n + m) goal i θ ss ≡ write L rs t g query n goal i θ ss
    write_more n m goal i θ ss l = write_same (n + m) n goal i θ ss (omega arith) l

    -- More depth than there are records changes nothing at a goal.
    pub write_fuel :
        (m last : ℕ) (θ : ℕ → Term) (ss : List Step) → last < length g
        → write L rs t g query (length t + length g + m) true last θ ss ≡ write L rs t g query (length t + length g) true last θ ss
    write_fuel m last θ ss l = write_more (length t + length g) m true last θ ss (omega arith)

-- ---- the tables of a run
-- a combined record's parents come before it, its R being a rule
prov_below :
    (rs : List Rule) (t own : List Rec) (f : Term) (goal : Bool) (i : ℕ) (x : Rec) (k a b : ℕ) → Prov rs t own f i x goal → x.origin ≡ combined k a b
    → (a < length t) × (goal ≡ false → a < i) × (b < i)
prov_below rs t own f goal i x k a b (is_input c r u v w) o = no_confusion (cc)
prov_below rs t own f goal i x k a b (is_asked u v) o = no_confusion (cc)
prov_below rs t own f goal i x k a b (is_combined k' a' b' r r' u v w l m c) o =
    let p : a' ≡ a = cc in
    let q : b' ≡ b = cc in
    (omega (arith, p, at_lt t a' v.0 v.1), (λ z. omega (arith, p, l z)), omega (arith, q, m))

-- In a run the depth is never what ends the writing.
pub write_fuel_run :
    (L : Limits) (rs : List Rule) (t g : List Rec) (query : Term) → ProvAll rs t t query false → ProvAll rs t g query true
    → (m last : ℕ) (θ : ℕ → Term) (ss : List Step) → last < length g
    → write L rs t g query (length t + length g + m) true last θ ss ≡ write L rs t g query (length t + length g) true last θ ss
write_fuel_run L rs t g query P Q =
    write_fuel L rs t g query
    (λ i x k a b e o. let z = prov_below rs t t query false i x k a b (P i x e) o in (z.1 refl, z.2))
    (λ i x k a b e o. let z = prov_below rs t g query true i x k a b (Q i x e) o in (z.0, z.2))
