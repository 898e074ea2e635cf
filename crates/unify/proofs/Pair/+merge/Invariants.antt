-- `merge` unites two classes and those of their arguments. The measure of its calls is the number of roots. Assumes nothing.
use mathlib.Core.Path.{◌≡◌}
use Rattle.std.specs.Iterator.Adapters.{zip_first, zip_second}
use Rattle.unify.specs.Forest.{roots}
use Rattle.unify.specs.Pairs.{tokens_of}
use Rattle.unify.specs.Code.{Doing}
use Rattle.unify.specs.Steps.{here}
use Rattle.unify.proofs.Pair.+merge.Given as goal

abbrev pub decreases-merge : goal.decreases-merge
decreases-merge l = roots 0 l.rep.now

abbrev pub invariant-loop-u : goal.invariant-loop-u
invariant-loop-u l =
    let a = zip_first l.u-iterator in
    let b = zip_second l.u-iterator in
    record {
      can_next : (goal.iterator-loop-u).can_next l.u-iterator;
      is_finite : (goal.iterator-loop-u).is_finite l.u-iterator;
      first : a.pair.now ≡ l.self;
      second : b.pair.now ≡ l.self;
      as_many : b.left ≡ a.left;
      doing : Doing l.self.symbols.now (tokens_of l.self) l.initial.rep l.rep l.lo l.hi (here l.self a) (here l.self b) a.left;
    }
