-- The invariant: the answer is that for the records that are left. Assumes nothing.
use mathlib.Core.Path.{◌≡◌}
use Prim.Native.Nat.{◌*◌, ◌≤◌}
use lib.ListN.{length}
use Rattle.std.specs.Slice.Iter.{chunks_exact_rest, chunks_exact_size}
use Rattle.std.specs.Iterator.Adapters.{take_source, take_count}
use Rattle.records.specs.Symbols.{name_new}
use Rattle.records.proofs.symbols.name_new.Given as goal

abbrev pub invariant-loop-rec : goal.invariant-loop-rec
invariant-loop-rec l =
    let rest = chunks_exact_rest (take_source l.rec-iterator) in
    record {
      can_next : (goal.iterator-loop-rec).can_next l.rec-iterator;
      is_finite : (goal.iterator-loop-rec).is_finite l.rec-iterator;
      size : chunks_exact_size (take_source l.rec-iterator) ≡ 16;
      many : 16 * take_count l.rec-iterator ≤ length rest;
      left : name_new l.name l.n l.symbols ≡ name_new l.name (take_count l.rec-iterator) rest;
    }
