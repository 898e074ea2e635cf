-- What the first 25 bytes of a case say: a byte for its kind, then six numbers. Assumes nothing.
use Rattle.std.specs.Prelude.{ℕ, ◌+◌, ◌*◌, ◌<◌, ◌≤◌, ◌≡◌, Bool, true, false, List, eqb, leb, get_or, length, Some, None}
use Rattle.std.specs.Io.KnownBytes.{Consumes, IsAtEnd}
use Rattle.std.specs.declared.option.Option.{Option}
use Rattle.model.specs.Term.{both}
use Rattle.batch.specs.declared.head.Lengths.{Lengths}
use Rattle.batch.specs.declared.head.Room.{Room}
use Rattle.batch.specs.declared.head.Case.{Case}
use Rattle.batch.specs.declared.head.Case.TheVariants.{Run, Check}

-- The number in the four bytes from a place on, low byte first.
abbrev pub number_at : List ℕ → ℕ → ℕ
number_at s i =
    get_or s i 0 + 256 * get_or s (i + 1) 0 + 65536 * get_or s (i + 2) 0 + 16777216 * get_or s (i + 3) 0

-- Three numbers that are at most x, y and z.
unfoldable pub within : ℕ → ℕ → ℕ → ℕ → ℕ → ℕ → Bool
within a b c x y z = both (leb a x) (both (leb b y) (leb c z))

-- A run is lent 70,000 bytes for rules and for goals and 40,000 for steps, at most.
unfoldable pub run_head : Lengths → Room → Option Case
run_head t r = elim (within r.rules r.goals r.steps 70000 70000 40000) [ false ↦ None | true ↦ Some (Run t r) ]

-- A check has a step list of at most 40,000 bytes, and then two zeros.
unfoldable pub check_head : Lengths → ℕ → ℕ → ℕ → Option Case
check_head t n y z = elim (within n y z 40000 0 0) [ false ↦ None | true ↦ Some (Check t n) ]

-- 0 is a run, 1 a check.
unfoldable pub kind_head : ℕ → Lengths → ℕ → ℕ → ℕ → Option Case
kind_head kind t x y z =
    elim (eqb kind 0) [
      | true ↦ run_head t (record { rules = x; goals = y; steps = z })
      | false ↦ elim (eqb kind 1) [ true ↦ check_head t x y z | false ↦ None ]
    ]

-- Tables have at most 4,096, 40,960 and 4,096 bytes.
unfoldable pub tables_head : ℕ → ℕ → ℕ → ℕ → ℕ → ℕ → ℕ → Option Case
tables_head kind a b c x y z =
    elim (within a b c 4096 40960 4096) [
      | false ↦ None
      | true ↦ kind_head kind (record { symbols = a; rules = b; query = c }) x y z
    ]

-- None where the bytes are bad.
unfoldable pub head_of : List ℕ → Option Case
head_of s = tables_head (get_or s 0 0) (number_at s 1) (number_at s 5) (number_at s 9) (number_at s 13) (number_at s 17) (number_at s 21)

-- ---- what reading does
-- A head was taken from the input, and it says this.
pub record TakesHead (old new : Option (List ℕ)) (says : Option Case) : Type 0 where
  pub head : List ℕ
  pub whole : length head ≡ 25
  pub taken : Consumes old new head
  pub is : head_of head ≡ says

-- The input ended after at least m and fewer than n bytes, which are taken.
pub record EndsWithin (old new : Option (List ℕ)) (m n : ℕ) : Type 0 where
  pub bytes : List ℕ
  pub least : m ≤ length bytes
  pub few : length bytes < n
  pub taken : Consumes old new bytes
  pub end : IsAtEnd new
