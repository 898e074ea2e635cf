use mathlib.Core.Path.{◌≡◌}
use Prim.Native.Nat.{◌*◌}
use native.Mathlib.Omega.{arith}
use lib.ListN.{drop}
use Rattle.unify.specs.Nodes.{starts_at}
use Rattle.unify.specs.Code.{past_end}
use Rattle.unify.specs.Pairs.{tokens_of, tokens_long}
use Rattle.unify.proofs.Pair.past.Goals as goal

pub returns : goal.returns
returns c =
    let pair = c.args.self.now in
    let n = tokens_long pair in
    let e : c.loop-at.at ≡ 2 * pair.toks = omega arith in
    (omega arith, past_end pair.symbols.now (tokens_of pair) (drop 1 (starts_at pair.symbols.now (tokens_of pair) c.args.p)) _ c.loop-at.need (omega arith) (rw e at c.loop-at.invariant.1))
