-- `batch::cases::Buffers::answer` meets its contract. Assumes nothing.
use Rattle.std.proofs.KnownBytes.{Consumes-trans}
use Rattle.batch.proofs.cases.Buffers.answer.Goals as goal

pub returns-in_ok-check_line-in-Check-clause-ok : goal.returns-in_ok-check_line-in-Check-clause-ok
returns-in_ok-check_line-in-Check-clause-ok g c =
    let t = c.in_ok-tables-in-Check in
    let s = c.in_ok-steps-in-Check in
    record {
      symbols = t.tables.symbols.now;
      rules = t.tables.rules.now;
      query = t.tables.query.now;
      steps = s.steps.now;
      is = rw (t.ensures.symbols, t.ensures.rules, t.ensures.query, s.ensures.len) c.in-Check.is;
      taken = Consumes-trans _ _ _ _ _ t.ensures.bytes s.ensures.bytes;
      written = rw c.check_steps.ensures at c.in_ok-check_line-in-Check.ensures;
    }
