-- A step of the walk over facts. Assumes nothing.
use Rattle.std.specs.Prelude.{◌≡◌, ℕ, ◌+◌, ◌-◌, ◌<◌, List, Option, Some, None}
use Rattle.std.specs.Borrow.{Bor}
use Rattle.records.specs.Symbols.{arity_of}
use Rattle.terms.specs.Facts.{fact_at}
use Rattle.terms.specs.declared.Walk.{Walk}

-- The walk at its end stays there; else it gives the fact that stands next, and goes on behind it.
abbrev pub Steps : Walk → Option (ℕ × Bor (List ℕ)) → Walk → Type 0
Steps w None v = (w.left ≡ 0) × (v ≡ w)
Steps w (Some f) v =
    (0 < w.left) × (f.0 ≡ w.at) × (f.1.now ≡ fact_at (arity_of w.facts.symbols.now) w.next w.facts.tokens.now) × (v.facts ≡ w.facts) × (v.next ≡ w.next + 1) × (v.left ≡ w.left - 1)
