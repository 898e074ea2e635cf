-- Working records, and what becomes of a rule that is offered to a table. Assumes nothing.
use Rattle.std.specs.Prelude.{ℕ, zero, suc, Bool, true, false, List, [], ◌∷◌, ◌++◌, map, leb, length}
use Rattle.std.proofs.Math.Option.{Option, none, some}
use Rattle.model.specs.Rule.{Rule, Limits, fits, implies}

-- Where a record comes from: input rule i; records i (R) and j (R') combined upon the hypothesis of R' with k before it; or it is goal 0.
pub data Origin : Type 0 where
  input : ℕ → Origin
  combined : ℕ → ℕ → ℕ → Origin
  asked : Origin

-- A working record: live until a record kept later implies it, then retired.
pub record Rec : Type 0 where
  pub rule : Rule
  pub live : Bool
  pub origin : Origin

unfoldable pub rec_at : List Rec → ℕ → Option Rec
rec_at [] k = none
rec_at (x ∷ t) zero = some x
rec_at (x ∷ t) (suc k) = rec_at t k

-- What became of a rule that was offered: kept as record k; implied by record k; skipped by the test; no record was free; it did not fit.
pub data Fate : Type 0 where
  kept_as : ℕ → Fate
  implied_by : ℕ → Fate
  skipped : Fate
  no_room : Fate
  too_large : Fate

pub record Event : Type 0 where
  pub rule : Rule
  pub origin : Origin
  pub fate : Fate

-- A table: its records, and what became of each rule offered to it, the latest first.
pub record Table : Type 0 where
  pub recs : List Rec
  pub history : List Event

abbrev pub nothing : Table
nothing = record { recs = []; history = [] }

-- The number of the first live record that implies q, where the table's first record has number k.
unfoldable pub first_implying : List Rec → Rule → ℕ → Option ℕ
first_implying [] q k = none
first_implying (x ∷ t) q k =
    elim x.live [
      | false ↦ first_implying t q (suc k)
      | true ↦ elim (implies x.rule q) [ true ↦ some k | false ↦ first_implying t q (suc k) ]
    ]

-- The order of the tests: fit, the test that skips, implication, room.
unfoldable pub fate : Limits → ℕ → (Rule → Bool) → List Rec → Rule → Fate
fate L room skips t q =
    elim (fits L q) [
      | false ↦ too_large
      | true ↦
          elim (skips q) [
            | true ↦ skipped
            | false ↦
                elim (first_implying t q 0) [
                  | some k ↦ implied_by k
                  | none ↦ elim (leb room (length t)) [ true ↦ no_room | false ↦ kept_as (length t) ]
                ]
          ]
    ]

-- A record is retired if q implies it.
unfoldable pub retire1 : Rule → Rec → Rec
retire1 q x = elim (implies q x.rule) [ true ↦ record { rule = x.rule; live = false; origin = x.origin } | false ↦ x ]

unfoldable pub retire : Rule → List Rec → List Rec
retire q t = map (retire1 q) t

-- The records t with q as a live one after the last.
unfoldable pub added : List Rec → Rule → Origin → List Rec
added t q o = t ++ (record { rule = q; live = true; origin = o } ∷ [])

-- The records t in the place of the table's, and one event more.
unfoldable pub log : Table → List Rec → Rule → Origin → Fate → Table
log t recs q o f = record { recs = recs; history = record { rule = q; origin = o; fate = f } ∷ t.history }

-- ---- loops that may stop
-- Lack of room, by its cause: a table full, or what it should hold too large.
pub data Cause : Type 0 where
  rules_full : Cause
  rule_large : Cause
  goals_full : Cause
  goal_large : Cause
  steps_full : Cause
  fact_large : Cause

-- Why a loop stops early: what was looked for is found, or room lacks.
pub data Stop : Type 0 where
  found : Stop
  lack : Cause → Stop

pub data Progress (A : Type 0) : Type 0 where
  going : A → Progress A
  stopped : Stop → A → Progress A

-- The first part, and if it has not stopped the second.
unfoldable pub and_then : {A : Type 0} → Progress A → (A → Progress A) → Progress A
and_then (going a) f = f a
and_then (stopped w a) f = stopped w a

-- What there is when a loop ends, however it ends.
unfoldable pub reached : {A : Type 0} → Progress A → A
reached (going a) = a
reached (stopped w a) = a
