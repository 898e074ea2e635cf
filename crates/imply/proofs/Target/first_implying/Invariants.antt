-- `imply::Target::first_implying` meets its contract. The scan's invariant: the answer is that for the records that are left.
-- The inner loop's: the walk stands at a hypothesis of a live record. Assumes nothing.
use mathlib.Core.Path.{◌≡◌}
use Prim.Native.Nat.{◌+◌, ◌≤◌}
use lib.ListN.{get_or}
use Rattle.std.specs.Slice.Iter.{chunks_rest, chunks_size}
use Rattle.std.specs.Iterator.Adapters.{take_source, take_count, enumerate_source, enumerate_count}
use Rattle.records.specs.Rules.{tokens_of}
use Rattle.imply.specs.Imply.{first_bytes}
use Rattle.imply.proofs.Target.first_implying.Given as goal

abbrev pub invariant-loop-fact : goal.invariant-loop-fact
invariant-loop-fact l =
    let w = l.fact-iterator in
    record {
      table : w.facts.symbols.now ≡ l.self.symbols.now;
      tokens : w.facts.tokens.now ≡ tokens_of l.rec;
      from : 1 ≤ w.next;
      many : w.next + w.left ≡ get_or l.rec 0 0 + 1;
    }

abbrev pub invariant-scan : goal.invariant-scan
invariant-scan l = record {
  can_next : (goal.iterator-scan).can_next l.records;
  is_finite : (goal.iterator-scan).is_finite l.records;
  size : chunks_size (take_source (enumerate_source l.records)) ≡ l.toks + 8;
  left : first_bytes l.self.symbols.now l.toks l.self.record.now l.count 0 l.table
      ≡ first_bytes l.self.symbols.now l.toks l.self.record.now (take_count (enumerate_source l.records)) (enumerate_count l.records) (chunks_rest (take_source (enumerate_source l.records)));
}
