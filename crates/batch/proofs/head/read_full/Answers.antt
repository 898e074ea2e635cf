use Rattle.std.proofs.Common.{rules, sym, subst}
use Rattle.std.specs.Io.KnownBytes.{Consumes}
use Rattle.std.proofs.KnownBytes.{Consumes-trans}
use Rattle.batch.proofs.Laws.{grown}
use Rattle.batch.proofs.head.read_full.Goals as goal

pub loop-done-preserved : goal.loop-done-preserved
loop-done-preserved g c =
    let l = c.loop-done in
    record {
      within = search rules;
      bytes = subst (Consumes _ _) (sym (grown l.done _ c.in_ok-n.n l.buf c.read.new.buf l.invariant.within c.in_ok-n.ensures.bound.0)) (Consumes-trans _ _ _ _ _ l.invariant.bytes c.in_ok-n.ensures.bytes.0);
    }
