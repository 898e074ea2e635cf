use Rattle.std.proofs.Common.{ℕ, ◌+◌, ◌-◌, ◌≡◌, List, refl, length, take, drop, arith, ◌∙◌, length-take-le, length-drop}
use Rattle.std.proofs.lemmas.Result.{err_from_is_err_and}
use Rattle.combine.specs.declared.Draft.{Draft}
use Rattle.combine.specs.Draft.{Holds}
use Rattle.combine.proofs.Steps.{too_long, here, short, before, copied, too_large, too_many, kept}
use Rattle.combine.proofs.Draft.add.Goals as goal
use Rattle.combine.proofs.Draft.add.Goals.{then-toks-end-via-then-toks-end, then-toks-end-via-else-toks-end+then-self}

-- the part of the text that the instance may take
room : (d : Draft) (m n : ℕ) → n ≡ length (take m (drop d.end d.text.now)) → m ≡ d.end + d.of.classes.pair.toks - d.end → (w : List ℕ) → Holds d w → n ≡ d.of.classes.pair.toks
room d m n e q w B = e ∙ length-take-le m (drop d.end d.text.now) (omega (arith, length-drop d.end d.text.now, d.space, B.long)) ∙ omega arith

pub returns-in_err-len-clause-left : goal.returns-in_err-len-clause-left
returns-in_err-len-clause-left c =
    let e = err_from_is_err_and c.from_residual.result c.from_residual.ensures.1 in
    let d = c.args.self.now in
    rw e.1 (λ ns B. too_long d c.args.place c.requires.inside c.write.new.out (room d _ _ c.write.auto.out refl ns B) ns B c.in_err-len.ensures)

pub is_copy-requires-clause-here : goal.is_copy-requires-clause-here
is_copy-requires-clause-here c =
    let d = c.args.self.now in
    let h = c.requires.held in
    here d c.args.place c.requires.inside c.write.new.out (room d _ _ c.write.auto.out refl h.0 h.1) h.0 h.1 (d.end + d.of.classes.pair.toks - d.end) c.in_ok-len.len c.in_ok-len.ensures

pub is_copy-requires-clause-before : goal.is_copy-requires-clause-before
is_copy-requires-clause-before c =
    let d = c.args.self.now in
    let h = c.requires.held in
    before d c.args.place c.requires.inside c.write.new.out (room d _ _ c.write.auto.out refl h.0 h.1) h.0 h.1 (d.end + d.of.classes.pair.toks - d.end) c.in_ok-len.len c.in_ok-len.ensures

pub returns-then-is_copy-clause-left : goal.returns-then-is_copy-clause-left
returns-then-is_copy-clause-left c = λ ns B.
    let d = c.args.self.now in
    copied d c.args.place c.requires.inside c.write.new.out (room d _ _ c.write.auto.out refl ns B) ns B _ c.in_ok-len.len c.in_ok-len.ensures c.is_copy.result c.is_copy.ensures c.if-is_copy.true

pub overflow_add-end-2 : goal.overflow_add-end-2
overflow_add-end-2 c =
    let d = c.args.self.now in
    let h = c.requires.held in
    omega (arith, h.1.long, d.of.classes.pair.given.small, short d c.args.place c.requires.inside c.write.new.out (room d _ _ c.write.auto.out refl h.0 h.1) h.0 h.1 (d.end + d.of.classes.pair.toks - d.end) c.in_ok-len.len c.in_ok-len.ensures)

pub returns-then-toks-end-clause-left : goal.returns-then-toks-end-clause-left
returns-then-toks-end-clause-left c = λ ns B.
    let d = c.args.self.now in
    let r = room d _ _ c.write.auto.out refl ns B in
    let m = d.end + d.of.classes.pair.toks - d.end in
    elim c.then-toks-end.branch [
      | then-toks-end-via-then-toks-end w ↦
          too_large d c.args.place c.requires.inside c.write.new.out r ns B m c.in_ok-len.len c.in_ok-len.ensures c.is_copy.result c.is_copy.ensures c.if-is_copy.false w.if-toks-end.true
      | then-toks-end-via-else-toks-end+then-self w ↦
          too_many d c.args.place c.requires.inside c.write.new.out r ns B m c.in_ok-len.len c.in_ok-len.ensures c.is_copy.result c.is_copy.ensures c.if-is_copy.false w.if-self.true
    ]

pub returns-clause-left : goal.returns-clause-left
returns-clause-left c = λ ns B.
    let d = c.args.self.now in
    kept d c.args.place c.requires.inside c.write.new.out (room d _ _ c.write.auto.out refl ns B) ns B _ c.in_ok-len.len c.in_ok-len.ensures c.is_copy.result c.is_copy.ensures c.if-is_copy.false c.if-toks-end.false c.if-self.false
