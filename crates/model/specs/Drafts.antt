-- Drafts worked by hand, as facts about the definitions. Assumes nothing.
use Rattle.std.specs.Prelude.{ℕ, false, List, [], ◌∷◌, ◌≡◌, refl}
use Rattle.std.proofs.Math.Option.{none, some}
use Rattle.model.specs.Term.{Term, var, con, ◌·◌, unify}
use Rattle.model.specs.Rule.{Rule, implies, combine}
use Rattle.model.specs.Table.{input, kept_as, implied_by}
use Rattle.model.specs.Run.{Setting}
use Rattle.model.specs.Write.{Step}
use Rattle.model.specs.Verify.{run, base, counts, Outcome}
use Rattle.model.specs.Check.{judge, accepted, wrong_count, bad_step, wrong_end}

-- ---- the symbols
abbrev att : Term → Term
att t = con 64 · t

abbrev senc : Term → Term → Term
senc m k = con 65 · m · k

abbrev a : Term
a = con 66

abbrev k : Term
k = con 67

abbrev s : Term
s = con 68

abbrev p : Term → Term
p t = con 69 · t

abbrev f : Term → Term
f t = con 70 · t

abbrev g : Term → Term
g t = con 71 · t

abbrev h : Term → Term → Term
h t u = con 72 · t · u

abbrev pk : Term → Term
pk t = con 73 · t

abbrev penc : Term → Term → Term
penc m t = con 74 · m · t

abbrev sign : Term → Term → Term
sign m t = con 75 · m · t

abbrev key : Term → Term
key t = con 76 · t

abbrev ska : Term
ska = con 77

abbrev x : Term
x = var 1

abbrev y : Term
y = var 2

-- ---- how a draft is written
abbrev ◌give◌ : List Term → Term → Rule
◌give◌ hs c = record { concl = c; hyps = hs }

infix 4 ◌give◌
abbrev fact : Term → Rule
fact t = [] give t

abbrev step : ℕ → List ℕ → Term → Step
step i u t = record { by = i; uses = u; fact = t }

-- The run on full tables, with the query att s.
abbrev verdict : List Rule → Outcome
verdict rs = run (base 512 512 256) rs (att s)

abbrev decrypt : Rule
decrypt = att (senc x y) ∷ att y ∷ [] give att x

abbrev draft1 : List Rule
draft1 = fact (att a) ∷ fact (att (senc s k)) ∷ decrypt ∷ fact (att k) ∷ []

abbrev steps1 : List Step
steps1 = step 3 [] (att k) ∷ step 1 [] (att (senc s k)) ∷ step 2 (1 ∷ 0 ∷ []) (att s) ∷ []

abbrev draft5 : List Rule
draft5 = fact (p x) ∷ (p y ∷ [] give att s) ∷ []

abbrev draft7 : List Rule
draft7 = fact (att (f a)) ∷ (att (f x) ∷ [] give att (f (g x))) ∷ []

-- The verdict with its counts, and the steps where there are any.
abbrev Result : Type 0
Result = (ℕ × ℕ × ℕ × ℕ) × List Step

abbrev result : Outcome → Result
result o = (counts o, o.steps)

pub worked :
    (result (verdict draft1) ≡ ((1, 6, 2, 3), steps1))
    × (result (verdict (fact (att a) ∷ fact (att (senc s k)) ∷ decrypt ∷ [])) ≡ ((0, 4, 1, 0), []))
    × (result (verdict []) ≡ ((0, 0, 1, 0), []))
    × (result (verdict (fact (att x) ∷ [])) ≡ ((1, 1, 2, 1), step 0 [] (att s) ∷ []))
    × (result (verdict draft5) ≡ ((1, 3, 2, 2), step 0 [] (p s) ∷ step 1 (0 ∷ []) (att s) ∷ []))
    × (result (verdict (fact (att a) ∷ fact (att a) ∷ fact (att s) ∷ [])) ≡ ((1, 2, 2, 1), step 2 [] (att s) ∷ []))
    × (counts (run (base 4 512 256) draft7 (att a)) ≡ (5, 4, 0, 0))
    × (implies (att x ∷ att y ∷ [] give att (h x y)) (att x ∷ [] give att (h x x)) ≡ false)
    × (unify x (f x) ≡ none)
    × (combine (att (pk x) ∷ [] give att (penc (sign (key (pk x)) ska) (pk x))) (att (penc x (pk y)) ∷ att y ∷ [] give att x) 0
    ≡ some (att (pk x) ∷ att x ∷ [] give att (sign (key (pk x)) ska)))
unfolding run counts base
worked = (refl, refl, refl, refl, refl, refl, refl, refl, refl, refl)

-- ---- further drafts: each lack of room, and what the order of the tests and the choices of the search decide
-- Records of at most n tokens.
abbrev narrow : ℕ → Setting
narrow n = record { limits = record { max_hyps = 8; max_tokens = n; max_vars = 32; max_rules = 512; max_goals = 512; max_steps = 256 }; opens = (base 0 0 0).opens; skips = λ r. false }

pub rooms :
    -- A rule that is too large is never passed over, though the query is not derivable.
    (counts (run (narrow 5) (fact (att (f a)) ∷ (att (f x) ∷ [] give att (f (g x))) ∷ []) (att s)) ≡ (6, 1, 0, 0))
    -- Success needs a free record.
    × (counts (run (base 512 1 256) (fact (att s) ∷ []) (att s)) ≡ (7, 1, 1, 0))
    -- Goal 0 is tested for fit, and before room.
    × (counts (run (narrow 3) [] (att s)) ≡ (8, 0, 0, 0))
    × (counts (run (base 512 512 2) draft1 (att s)) ≡ (9, 6, 2, 2))
    -- Room is asked for only when there is something to keep.
    × (counts (run (base 1 512 256) (fact (att x) ∷ fact (att s) ∷ []) (att s)) ≡ (1, 1, 2, 1))
    × (counts (run (base 0 512 256) [] (att s)) ≡ (0, 0, 1, 0))
unfolding run counts base
rooms = (refl, refl, refl, refl, refl, refl)

pub choices :
    -- R' without F takes away that one hypothesis.
    (counts (verdict (fact (p a) ∷ (p x ∷ p a ∷ [] give att s) ∷ [])) ≡ (1, 4, 2, 2))
    -- The search combines upon the first hypothesis also where it is open.
    × (counts (verdict ((att x ∷ [] give att s) ∷ fact (att a) ∷ [])) ≡ (1, 2, 3, 2))
    -- The writing ends when a step concludes the query.
    × ((verdict (fact (att s) ∷ (att s ∷ [] give att (f k)) ∷ (att (f k) ∷ [] give att x) ∷ [])).steps ≡ step 0 [] (att s) ∷ [])
    -- A variable without a value takes the filler, and what depends on it follows.
    × ((verdict (fact (h x (f y)) ∷ (h (f x) x ∷ [] give att s) ∷ [])).steps ≡ step 0 [] (h (f (f s)) (f s)) ∷ step 1 (0 ∷ []) (att s) ∷ [])
    -- The history says why a rule is not in the table.
    × ((verdict (fact (att a) ∷ fact (att a) ∷ [])).rules.history
    ≡ record { rule = fact (att a); origin = input 1; fate = implied_by 0 } ∷ record { rule = fact (att a); origin = input 0; fate = kept_as 0 } ∷ [])
unfolding run counts base
choices = (refl, refl, refl, refl, refl)

pub checks :
    (judge (base 0 0 256).limits draft1 (att s) steps1 ≡ accepted)
    × (judge (base 0 0 256).limits draft1 (att s) [] ≡ wrong_count)
    × (judge (base 0 0 2).limits draft1 (att s) steps1 ≡ wrong_count)
    -- A step may use only earlier ones.
    × (judge (base 0 0 256).limits draft1 (att s) (step 3 [] (att k) ∷ step 2 (1 ∷ 0 ∷ []) (att s) ∷ []) ≡ bad_step 1)
    -- .. by a rule that is there, one for each hypothesis, under one substitution.
    × (judge (base 0 0 256).limits draft1 (att s) (step 4 [] (att k) ∷ []) ≡ bad_step 0)
    × (judge (base 0 0 256).limits draft1 (att s) (step 3 [] (att k) ∷ step 1 [] (att (senc s k)) ∷ step 2 (1 ∷ []) (att s) ∷ []) ≡ bad_step 2)
    × (judge (base 0 0 256).limits draft1 (att s) (step 3 [] (att k) ∷ step 1 [] (att (senc s k)) ∷ step 2 (1 ∷ 0 ∷ []) (att k) ∷ []) ≡ bad_step 2)
    × (judge (base 0 0 256).limits draft1 (att s) (step 3 [] (att k) ∷ []) ≡ wrong_end)
unfolding judge base
checks = (refl, refl, refl, refl, refl, refl, refl, refl)
