-- What it is to answer a case. Assumes nothing.
use Rattle.std.specs.Prelude.{ℕ, ◌≡◌, ◌<◌, ◌⊎◌, ⊤, List, ◌++◌, length, suc, Some, None}
use Rattle.std.specs.declared.option.Option.{Option}
use Rattle.std.specs.Io.KnownBytes.{Consumes, Appends, IsAtEnd}
use Rattle.checker.specs.Steps.{check_of}
use Rattle.batch.specs.declared.head.Lengths.{Lengths}
use Rattle.batch.specs.declared.head.Case.{Case}
use Rattle.batch.specs.declared.head.Case.TheVariants.{Run, Check}
use Rattle.batch.specs.Heads.{TakesHead, EndsWithin}
use Rattle.batch.specs.Lines.{answer_line}

-- The case is a check. Its tables and its step list were taken from the input, and the output grew by the line of the checker's answer to them.
pub record IsAnswered (case : Case) (input input' output output' : Option (List ℕ)) : Type 0 where
  pub symbols : List ℕ
  pub rules : List ℕ
  pub query : List ℕ
  pub steps : List ℕ
  pub is : case ≡ Check (record { symbols = length symbols; rules = length rules; query = length query }) (length steps)
  pub taken : Consumes input input' ((symbols ++ (rules ++ query)) ++ steps)
  pub written : Appends output output' (answer_line (check_of 8 120 32 256 symbols rules query steps))

-- A table is longer than the room that is lent for it.
abbrev pub TooLong : Lengths → Type 0
TooLong l = (4096 < l.symbols) ⊎ ((40960 < l.rules) ⊎ (4096 < l.query))

-- No run is answered yet, and no check that the room does not hold.
abbrev pub IsPast : Case → Type 0
IsPast (Run l r) = ⊤
IsPast (Check l n) = TooLong l ⊎ (40000 < n)

-- So many cases were read and answered, one after another, with the bytes of the input and of the output before and after.
pub data AllAnswered : ℕ → Option (List ℕ) → Option (List ℕ) → Option (List ℕ) → Option (List ℕ) → Type 0 where
  nothing : {i o : Option (List ℕ)} → AllAnswered 0 i i o o
  then : {n : ℕ} {i j k l o p q : Option (List ℕ)} {case : Case} → AllAnswered n i j o p → TakesHead j k (Some case) → IsAnswered case k l p q → AllAnswered (suc n) i l o q

-- The next case is bad: its head, or its tables and its list.
pub data IsBadCase : Option (List ℕ) → Option (List ℕ) → Type 0 where
  head : {i j : Option (List ℕ)} → TakesHead i j None ⊎ EndsWithin i j 1 25 → IsBadCase i j
  body : {i j k : Option (List ℕ)} {case : Case} → TakesHead i k (Some case) → IsPast case ⊎ IsAtEnd j → IsBadCase i j

-- All that was written are the answers to the cases that the input begins with, up to the one where this holds.
pub record AnswersUntil (input output output' : Option (List ℕ)) (Stops : ℕ → Option (List ℕ) → Type 0) : Type 0 where
  pub count : ℕ
  pub at : Option (List ℕ)
  pub answered : AllAnswered count input at output output'
  pub stops : Stops count at
