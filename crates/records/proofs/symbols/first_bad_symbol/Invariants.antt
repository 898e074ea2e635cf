-- The invariant: the answer is that for the records that are left, of which the first has number i. Assumes nothing.
use mathlib.Core.Path.{◌≡◌}
use Prim.Native.Nat.{◌+◌, ◌*◌, ◌/◌}
use lib.ListN.{length}
use Rattle.std.specs.Slice.Iter.{chunks_exact_rest, chunks_exact_size}
use Rattle.std.specs.Iterator.Adapters.{enumerate_source, enumerate_count}
use Rattle.records.specs.Symbols.{first_bad_symbol}
use Rattle.records.proofs.symbols.first_bad_symbol.Given as goal

abbrev pub invariant-loop-i : goal.invariant-loop-i
invariant-loop-i l =
    let rest = chunks_exact_rest (enumerate_source l.i-iterator) in
    record {
      can_next : (goal.iterator-loop-i).can_next l.i-iterator;
      is_finite : (goal.iterator-loop-i).is_finite l.i-iterator;
      size : chunks_exact_size (enumerate_source l.i-iterator) ≡ 16;
      passed : 16 * enumerate_count l.i-iterator + length rest ≡ length l.symbols;
      left : first_bad_symbol l.symbols (length l.symbols / 16) 0 l.symbols ≡ first_bad_symbol l.symbols (length rest / 16) (enumerate_count l.i-iterator) rest;
    }
