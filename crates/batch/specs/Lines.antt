-- The line that answers a check: two numbers in decimal, with a space between them and a line end after them. Assumes nothing.
use Rattle.std.specs.Prelude.{ℕ, List, [], ◌∷◌, ◌++◌}
use Rattle.std.specs.Fmt.{decimal}
use Rattle.checker.specs.Steps.{Checked}
use Rattle.checker.specs.Answers.{checked_number, checked_place}

abbrev pub answer_line : Checked → List ℕ
answer_line c = decimal (checked_number c) ++ (32 ∷ (decimal (checked_place c) ++ (10 ∷ [])))
