use Rattle.std.proofs.Common.{arith}
use Rattle.unify.specs.Facts.{facts_length}
use Rattle.combine.specs.Final.{site_of}
use Rattle.combine.proofs.Instances.new.Goals as goal

pub invariant_of-result : goal.invariant_of-result
invariant_of-result c =
    let a = c.args in
    let s = c.requires.solved.1.1 in
    record { long = omega (arith, s.len, facts_length a.toks a.a.now a.b.now c.requires.given); down = s.down }

pub invariant_of-result-2 : goal.invariant_of-result-2
invariant_of-result-2 c =
    let a = c.args in
    let s = c.requires.solved in
    record { site = site_of a.symbols.now a.toks a.a.now a.b.now a.rep.now s.0 s.1.0 c.requires.given s.1.1 (λ i. (c.type_inv.a i).fits) (λ i. (c.type_inv.b i).fits) }
