-- The invariant: the answer is that for the records that are left. Assumes nothing.
use mathlib.Core.Path.{◌≡◌}
use Prim.Native.Nat.{◌+◌, ◌/◌}
use lib.ListN.{length}
use Rattle.std.specs.Slice.Iter.{chunks_exact_rest, chunks_exact_size}
use Rattle.std.specs.Iterator.Adapters.{enumerate_source, enumerate_count}
use Rattle.records.specs.Rules.{first_bad_rule}
use Rattle.records.proofs.rules.first_bad_rule.Given as goal

abbrev pub invariant-loop-i : goal.invariant-loop-i
invariant-loop-i l =
    let rest = chunks_exact_rest (enumerate_source l.i-iterator) in
    record {
      can_next : (goal.iterator-loop-i).can_next l.i-iterator;
      is_finite : (goal.iterator-loop-i).is_finite l.i-iterator;
      size : chunks_exact_size (enumerate_source l.i-iterator) ≡ l.toks + 8;
      left : first_bad_rule l.symbols l.hyps l.toks l.vars (length l.rules / (l.toks + 8)) 0 l.rules
          ≡ first_bad_rule l.symbols l.hyps l.toks l.vars (length rest / (l.toks + 8)) (enumerate_count l.i-iterator) rest;
    }
