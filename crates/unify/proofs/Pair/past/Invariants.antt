-- `past` finds the place behind a term. The invariant: `need` terms from here end where one term from p does. Assumes nothing.
use mathlib.Core.Path.{◌≡◌}
use Prim.Native.Nat.{◌+◌, ◌*◌, ◌≤◌}
use lib.ListN.{drop}
use Rattle.unify.specs.Nodes.{starts_at}
use Rattle.unify.specs.Pairs.{tokens_of}
use Rattle.unify.proofs.Pair.past.Given as goal

abbrev pub invariant-loop-at : goal.invariant-loop-at
invariant-loop-at l = (l.need ≤ 256 * l.at + 1) × (drop l.need (starts_at l.self.symbols.now (tokens_of l.self) l.at) ≡ drop 1 (starts_at l.self.symbols.now (tokens_of l.self) l.p))
