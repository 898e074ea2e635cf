-- The answer of a search for a record's number, as the code gives it. Assumes nothing.
use Rattle.std.specs.Prelude.{ℕ, Some, None}
use Rattle.std.specs.Prelude as code
use Rattle.std.proofs.Math.Option.{Option, none, some}

abbrev pub found_of : Option ℕ → code.Option ℕ
found_of (some i) = Some i
found_of none = None
