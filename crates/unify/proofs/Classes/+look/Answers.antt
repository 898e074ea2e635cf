use mathlib.Core.Path.{refl, sym, ap, ◌∙◌}
use native.Mathlib.Nat.{sub-zero}
use native.Mathlib.Omega.{arith}
use lib.ListN.{get_or, set, length-set}
use Rattle.records.specs.Symbols.{arity_of}
use Rattle.unify.specs.Nodes.{tok}
use Rattle.unify.specs.Look.{look_var, look_marked, look_start, look_end, look_zeros, asks_arg, rest_next, rest_end}
use Rattle.unify.specs.Steps.{here, stands}
use Rattle.unify.specs.Pairs.{tokens_of, asks}
use Prim.Native.Nat.{ℕ}
use Rattle.unify.proofs.Classes.+look.Goals as goal

pub returns-then-self-r : goal.returns-then-self-r
returns-then-self-r t c =
    let a = c.args in
    let h = c.requires in
    look_var (asks a.self.now a.marks.now a.i h.long h.node h.done h.opened) (omega (arith, c.if-self-r.true, c.root-r.ensures.0))

pub returns-then-marks-r-ne-NEW : goal.returns-then-marks-r-ne-NEW
returns-then-marks-r-ne-NEW t c =
    let a = c.args in
    let h = c.requires in
    look_marked (asks a.self.now a.marks.now a.i h.long h.node h.done h.opened) _ c.root-r.ensures.0 c.if-marks-r-ne-NEW.true

pub loop-a-init : goal.loop-a-init
loop-a-init t c =
    let a = c.args in
    let h = c.requires in
    let A = asks a.self.now a.marks.now a.i h.long h.node h.done h.opened in
    let r = c.root-r.ensures.0 in
    let w = c.args-a-items.ensures in
    let k = w.left ∙ c.arity-n.ensures.0 ∙ ap (arity_of a.self.now.pair.symbols.now) c.token.ensures in
    rw c.into_iter-a-iterator.ensures.into_iter_gives
    (record {
      same = w.pair;
      left = rw (w.at, k, ← sub-zero (arity_of a.self.now.pair.symbols.now (tok (tokens_of a.self.now.pair) c.root-r.result))) (look_start A (omega (arith, c.if-self-r.false)) (ap (λ (x : ℕ). get_or a.marks.now x 0) (sym r) ∙ c.if-marks-r-ne-NEW.false) _ _ _ (ap (λ (x : ℕ). set a.marks.now x 1) r) r refl);
    })

pub look-requires : goal.look-requires
look-requires t c =
    let a = c.args in
    let h = c.requires in
    let pair = a.self.now.pair in
    let w = c.loop-a.a-iterator in
    let A = asks a.self.now a.marks.now a.i h.long h.node h.done h.opened in
    let r = c.root-r.ensures.0 in
    let I = c.loop-a.invariant in
    let s = c.in-Some.ensures.steps in
    let B = asks_arg pair.symbols.now (tokens_of pair) a.self.now.rep.now pair.toks _ _ _ (here pair w) w.left 0 _ A.lt A.ls (c.loop-a.auto.marks ∙ length-set a.marks.now _ 1 ∙ A.lm) A.down s.0 (omega (arith, stands w pair I.same, A.lt)) (rw I.same at s.1) (rw I.same at s.2) (rw (← sub-zero w.left) at I.left) in
    let z = look_zeros A (omega (arith, c.if-self-r.false)) (ap (λ (x : ℕ). get_or a.marks.now x 0) (sym r) ∙ c.if-marks-r-ne-NEW.false) _ (ap (λ (x : ℕ). set a.marks.now x 1) r) in
    (omega (arith, I.left.looked.fewer, z), (B.lm, (B.ii, (B.done, B.wide))))

pub loop-a-preserved : goal.loop-a-preserved
loop-a-preserved t c =
    let pair = c.args.self.now.pair in
    let w = c.loop-a.a-iterator in
    let I = c.loop-a.invariant in
    let s = c.in-Some.ensures.steps in
    record {
      same = s.5 ∙ I.same;
      left = rw s.4 (rest_next pair.symbols.now (tokens_of pair) c.args.self.now.rep.now _ _ _ _ (here pair w) (here pair c.next.new.self) w.left 0 _ s.0 (stands w pair I.same) (rw I.same at s.3) (rw I.same at s.1) (rw (← sub-zero w.left) at I.left) c.if-look.ensures);
    }

pub returns : goal.returns
returns t c =
    let a = c.args in
    let h = c.requires in
    let pair = a.self.now.pair in
    let A = asks a.self.now a.marks.now a.i h.long h.node h.done h.opened in
    let r = c.root-r.ensures.0 in
    look_end A (omega (arith, c.if-self-r.false)) (ap (λ (x : ℕ). get_or a.marks.now x 0) (sym r) ∙ c.if-marks-r-ne-NEW.false) _ c.loop-a.marks _ (ap (λ (x : ℕ). set a.marks.now x 1) r) (ap (λ (x : ℕ). set c.loop-a.marks x 2) r)
    (rest_end pair.symbols.now (tokens_of pair) a.self.now.rep.now _ _ _ (here pair c.loop-a.a-iterator) c.loop-a.a-iterator.left 0 (omega (arith, c.in-None.ensures.steps.0)) (rw (← sub-zero c.loop-a.a-iterator.left) at c.loop-a.invariant.left))
