-- The contract of `check_steps` leaves one answer, and that is acceptance exactly where the list is right. Assumes nothing.
use Rattle.std.specs.Prelude.{ℕ, ◌/◌, List, ◌≡◌, ◌↔◌, length, Ok}
use Rattle.std.proofs.Common.{sym, ◌∙◌}
use Rattle.model.specs.Derive.{Closed, Input as InTable, Derives}
use Rattle.records.specs.Rules.{decode_rules, decode_query}
use Rattle.checker.specs.Steps.{Checked, check_of}
use Rattle.checker.specs.Accepts.{Right, check_exactly, check_derives}

module _ (sy ru qu st : List ℕ) where
  -- What `check_steps` ensures of its answer.
  abbrev pub Allowed : Checked → Type 0
  Allowed r = r ≡ check_of 8 120 32 256 sy ru qu st

  pub one_answer : {r r' : Checked} → Allowed r → Allowed r' → r ≡ r'
  one_answer e f = e ∙ sym f

  pub accepted_exactly : {r : Checked} → Allowed r → (r ≡ Ok tt) ↔ Right 8 120 32 256 sy ru qu st
  accepted_exactly e = let w = check_exactly 8 120 32 256 sy ru qu st in ((λ f. w.0 (sym e ∙ f)), λ R. e ∙ w.1 R)

  pub accepted_derives : {r : Checked} → Allowed r → r ≡ Ok tt → (n : ℕ) × Derives Closed (InTable (decode_rules sy 128 (length ru / 128) ru)) n (decode_query sy qu)
  accepted_derives e f = check_derives 8 120 32 256 sy ru qu st (sym e ∙ f)
