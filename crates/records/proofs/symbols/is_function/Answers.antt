use Rattle.records.proofs.KindLaws.{ok_function}
use Rattle.records.proofs.symbols.is_function.Goals as goal

pub returns : goal.returns
returns c = ok_function _ c.args.code _ c.try_from.ensures c.is_ok_and.ensures
