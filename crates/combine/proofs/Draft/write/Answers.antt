use Rattle.std.proofs.Common.{ℕ, ◌+◌, ◌-◌, ◌<◌, ◌≡◌, List, [], length, take, drop, get_or, replicate, ap, subst, ◌∙◌, sym, arith, get_or-take, length-take-le, length-drop}
use Rattle.std.proofs.lemmas.Result.{err_from_is_err_and}
use borrow.Rule.Slice.PartMut.{put_mid}
use Rattle.combine.specs.Draft.{both_of}
use Rattle.combine.specs.Settle.{blanked_part, zeros_all, built_low, vars_over, text_written}
use Rattle.combine.proofs.Draft.write.Goals as goal

pub number-requires : goal.number-requires
number-requires c =
    let d = c.args.self.now in
    let p = d.of.classes.pair in
    let B = c.requires.held.1 in
    let n : length (take d.end d.text.now) ≡ d.end = length-take-le d.end d.text.now (omega (arith, B.long, d.space)) in
    let low = built_low p.symbols.now (both_of d.of) d.of.classes.rep.now p.toks (length d.starts.now) d.text.now d.starts.now d.end d.count c.requires.held.0 B in
    record {
      room = omega (arith, B.long, c.requires.room.room);
      low = λ i l. subst (λ (x : ℕ). x < 384) (sym (get_or-take d.end d.text.now i 0 (omega arith))) (low i (omega arith));
      wide = c.fill.ensures.len ∙ c.requires.room.wide;
      none = λ x. ap (λ (l : List ℕ). get_or l x 0) (c.fill.ensures.after (λ y h. h)) ∙ zeros_all (length c.args.names.now) x;
      few = c.requires.room.count;
    }

pub returns-in_err-number : goal.returns-in_err-number
returns-in_err-number c =
    let e = err_from_is_err_and c.from_residual.result c.from_residual.ensures.1 in
    let d = c.args.self.now in
    let p = d.of.classes.pair in
    rw e.1
    (
    λ ns B. vars_over p.symbols.now (both_of d.of) d.of.classes.rep.now p.toks (length d.starts.now) c.args.vars d.text.now d.starts.now d.end d.count ns c.args.rec.now B.long c.requires.room.room d.space B [] c.in_err-number.ensures _
    )

pub returns : goal.returns
returns c =
    let d = c.args.self.now in
    let p = d.of.classes.pair in
    let k = p.toks + 2 - (d.end + 2) in
    let r = c.number.new.rec in
    let n : length (take k (drop (d.end + 2) r)) ≡ k = length-take-le k (drop (d.end + 2) r) (omega (arith, length-drop (d.end + 2) r, c.number.auto.rec, c.requires.room.room)) in
    let f : c.fill-2.new.self ≡ replicate k 0 = c.fill-2.ensures.after (λ y h. h) ∙ ap (λ (m : ℕ). replicate m 0) n in
    λ ns B.
    text_written p.symbols.now (both_of d.of) d.of.classes.rep.now p.toks (length d.starts.now) c.args.vars d.text.now d.starts.now d.end d.count ns c.args.rec.now B.long c.requires.room.room d.space B r
    (put_mid (d.end + 2) k r c.fill-2.new.self) c.in_ok-number.ensures
    (ap (put_mid (d.end + 2) k r) f ∙ blanked_part (d.end + 2) (p.toks + 2) r (omega (arith, B.long)))
