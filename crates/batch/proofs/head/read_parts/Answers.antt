use Rattle.std.proofs.Common.{◌≡◌, ℕ, List, ◌++◌, take, sym, ap, subst, ◌∙◌}
use native.Mathlib.Omega.{arith}
use Rattle.std.proofs.Math.Seq.{length-take-le, take-append-le}
use Rattle.std.proofs.Common.{length-append}
use borrow.Rule.Slice.PartMut.{post_of}
use Rattle.std.specs.Io.KnownBytes.{Consumes}
use Rattle.std.proofs.KnownBytes.{Consumes-trans}
use Rattle.batch.proofs.Laws.{grown}
use Rattle.batch.proofs.head.read_parts.Goals as goal

pub returns-clause-bytes : goal.returns-clause-bytes
returns-clause-bytes g c =
    let kind = c.read_full.new.buf in
    let after = post_of 0 1 c.args.head.now in
    let x = c.in_ok-read_full.ensures in
    let y = c.in_ok-read_full-2.ensures in
    let one : c.in_ok-read_full.field-0 ≡ 1 = omega (arith, x.within, c.if-branch-eq0.false, c.read_full.auto.buf, length-take-le 1 c.args.head.now (omega (arith, c.told-head))) in
    let e : take 1 (kind ++ after) ≡ take c.in_ok-read_full.field-0 kind = take-append-le 1 kind after (omega (arith, x.within, one)) ∙ ap (λ (n : ℕ). take n kind) (sym one) in
    subst (Consumes _ _) (sym (grown 1 24 c.in_ok-read_full-2.field-0 (kind ++ after) c.read_full-2.new.buf (omega (arith, length-append kind after, x.within, one)) y.within ∙ ap (λ (l : List ℕ). l ++ take c.in_ok-read_full-2.field-0 c.read_full-2.new.buf) e))
    (Consumes-trans _ _ _ _ _ x.bytes y.bytes)
