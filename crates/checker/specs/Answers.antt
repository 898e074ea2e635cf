-- The numbers and places of the checker's answers, and what it asks of the input before it looks at the list. Assumes nothing.
use Rattle.std.specs.Prelude.{ℕ, ◌≤◌, List, ◌≡◌, Ok, Err}
use Rattle.records.specs.Input.{input_of, refusal_number, refusal_place}
use Rattle.checker.specs.declared.Rejected.{Rejected}
use Rattle.checker.specs.declared.Rejected.TheVariants.{Input, Length, Step as BadStep, End}
use Rattle.checker.specs.Steps.{Checked}

abbrev pub rejected_number : Rejected → ℕ
rejected_number (Input r) = refusal_number r
rejected_number Length = 10
rejected_number (BadStep i) = 11
rejected_number End = 12

abbrev pub rejected_place : Rejected → ℕ
rejected_place (Input r) = refusal_place r
rejected_place Length = 0
rejected_place (BadStep i) = i
rejected_place End = 0

-- An accepted list has number 0 and place 0.
abbrev pub checked_number : Checked → ℕ
checked_number (Ok u) = 0
checked_number (Err e) = rejected_number e

abbrev pub checked_place : Checked → ℕ
checked_place (Ok u) = 0
checked_place (Err e) = rejected_place e

-- The input is not refused, with rules of at most h hypotheses, T tokens and some number of variables that tokens can name.
pub record GoodInput (h T : ℕ) (sy ru qu : List ℕ) : Type 0 where
  pub vars : ℕ
  pub few : vars ≤ 63
  pub good : input_of h T vars sy ru qu ≡ Ok tt
