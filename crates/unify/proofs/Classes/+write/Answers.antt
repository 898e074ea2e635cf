use mathlib.Core.Path.{◌≡◌, sym, ap, ◌∙◌}
use mathlib.Core.List.{List, [], ◌++◌, append-nil}
use Prim.Native.Nat.{ℕ, ◌-◌, ◌≤◌, ◌<◌}
use native.Mathlib.Nat.{sub-zero}
use native.Mathlib.Omega.{arith}
use lib.ListN.{length, take, length-append, length-set}
use borrow.Rule.Slice.PartMut.{put_mid, mid_of}
use Rattle.std.proofs.Math.ListN.{drop, drop_of_length-le}
use Rattle.std.proofs.Common.{length-drop, length-take, length-take-le, eqb-true}
use Rattle.std.proofs.lemmas.Bool.{eqb-false}
use Rattle.records.specs.Symbols.{arity_of}
use Rattle.unify.specs.Nodes.{tok}
use Rattle.unify.specs.Writer.{args_some, places_room, write_full, write_var, args_start, places_read, places_next, places_short, places_end}
use Rattle.unify.specs.Steps.{here, stands}
use Rattle.unify.specs.Pairs.{tokens_of, nodes_of, asked}
use Rattle.unify.proofs.Classes.+write.Goals as goal

-- the part from e on, and what a write to it leaves
module _ (e : ℕ) (w : List ℕ) (l : e ≤ length w) where
  rest_long : length (mid_of e (length w - e) w) ≡ length w - e
  rest_long = let y = length-take (length w - e) (drop e w) in let z = length-drop e w in omega arith

  rest_put : (v : List ℕ) → put_mid e (length w - e) w v ≡ take e w ++ v
  rest_put v =
      let z : drop (length w - e) (drop e w) ≡ [] = drop_of_length-le (drop e w) (let y = length-drop e w in omega arith) in
      ap (λ (u : List ℕ). take e w ++ (v ++ u)) z ∙ ap (take e w ++◌) (append-nil v)

  put_long : (v : List ℕ) → length v ≡ length w - e → length (put_mid e (length w - e) w v) ≡ length w
  put_long v k = let x = ap length (rest_put v) in let y = length-append (take e w) v in let z = length-take-le e w l in omega arith

pub returns-then-is_empty : goal.returns-then-is_empty
returns-then-is_empty t c = write_full (nodes_of c.args.self.now.pair) c.args.self.now.rep.now c.args.i c.args.out.now (eqb-true (length c.args.out.now) 0 (sym c.if-is_empty.ensures))

pub returns-then-self-r : goal.returns-then-self-r
returns-then-self-r t c =
    let a = c.args in
    let n = eqb-false (length a.out.now) 0 (sym c.if-is_empty.ensures) in
    write_var (asked a.self.now a.i c.requires.node c.requires.read) a.out.now c.root-r.result c.root-r.ensures.0 (omega arith) c.if-self-r.true

pub loop-a-init : goal.loop-a-init
loop-a-init t c =
    let a = c.args in
    let sy = a.self.now.pair.symbols.now in
    let ts = tokens_of a.self.now.pair in
    let n = eqb-false (length a.out.now) 0 (sym c.if-is_empty.ensures) in
    let A = asked a.self.now a.i c.requires.node c.requires.read in
    let w = c.args-a-items.ensures in
    let k = w.left ∙ c.arity-n.ensures.0 ∙ ap (arity_of sy) c.token-x.ensures in
    rw c.into_iter-a-iterator.ensures.into_iter_gives
    (record {
      same = w.pair;
      left = rw (w.at, k, ← sub-zero (arity_of sy (tok ts c.root-r.result)), c.from.ensures)
          (args_start A a.out.now c.root-r.result c.token-x.result _ c.root-r.ensures.0 (omega (arith, c.if-self-r.false)) (omega arith) c.token-x.ensures (ap (arity_of sy) (sym c.token-x.ensures)));
    })

pub write-requires : goal.write-requires
write-requires t c =
    let pair = c.args.self.now.pair in
    let w = c.loop-a.a-iterator in
    let I = c.loop-a.invariant in
    let s = c.in-Some.ensures.steps in
    let d : length c.args.out.now ≡ t = c.decreases in
    let x : length (mid_of c.loop-a.len (length c.loop-a.out - c.loop-a.len) c.loop-a.out) < t = omega (arith, d, rest_long c.loop-a.len c.loop-a.out I.left.inn, args_some I.left, I.left.inn, c.loop-a.auto.out, length-set c.args.out.now 0 c.from.result) in
    (x, (rw I.same at s.2, places_read pair.symbols.now (tokens_of pair) (here pair w) w.left 0 s.0 (stands w pair I.same) (rw I.same at s.1) (rw (← sub-zero w.left) at I.left)))

pub returns-in_err-len : goal.returns-in_err-len
returns-in_err-len t c =
    let a = c.args in
    let pair = a.self.now.pair in
    let w = c.loop-a.a-iterator in
    let I = c.loop-a.invariant in
    let s = c.in-Some.ensures.steps in
    let A = asked a.self.now a.i c.requires.node c.requires.read in
    let v = c.write.auto.out ∙ rest_long c.loop-a.len c.loop-a.out I.left.inn in
    rw c.from_residual.ensures
    (places_short A (omega (arith, c.if-self-r.false, c.root-r.ensures.0)) (here pair w) w.left 0 (rw (← sub-zero w.left) at I.left) _ c.write.new.out _ s.0 (stands w pair I.same) (rw I.same at s.1) (put_long c.loop-a.len c.loop-a.out I.left.inn c.write.new.out v) v c.in_err-len.ensures)

pub overflow_add-len : goal.overflow_add-len
overflow_add-len t c =
    let pair = c.args.self.now.pair in
    let w = c.loop-a.a-iterator in
    let I = c.loop-a.invariant in
    let s = c.in-Some.ensures.steps in
    let v = c.write.auto.out ∙ rest_long c.loop-a.len c.loop-a.out I.left.inn in
    omega (arith, places_room pair.symbols.now (tokens_of pair) (here pair w) w.left 0 s.0 (stands w pair I.same) (rw I.same at s.1) (rw (← sub-zero w.left) at I.left) c.write.new.out _ v c.in_ok-len.ensures, c.loop-a.auto.out, length-set c.args.out.now 0 c.from.result)

pub loop-a-preserved : goal.loop-a-preserved
loop-a-preserved t c =
    let pair = c.args.self.now.pair in
    let w = c.loop-a.a-iterator in
    let I = c.loop-a.invariant in
    let s = c.in-Some.ensures.steps in
    let v = c.write.auto.out ∙ rest_long c.loop-a.len c.loop-a.out I.left.inn in
    record {
      same = s.5 ∙ I.same;
      left = rw (rest_put c.loop-a.len c.loop-a.out I.left.inn c.write.new.out, s.4)
          (places_next pair.symbols.now (tokens_of pair) (here pair w) w.left 0 s.0 (stands w pair I.same) (rw I.same at s.1) (rw (← sub-zero w.left) at I.left) c.write.new.out _ _ v (rw I.same at s.3) c.in_ok-len.ensures);
    }

pub returns : goal.returns
returns t c =
    let a = c.args in
    let pair = a.self.now.pair in
    let w = c.loop-a.a-iterator in
    places_end (asked a.self.now a.i c.requires.node c.requires.read) (omega (arith, c.if-self-r.false, c.root-r.ensures.0)) (here pair w) w.left 0 (rw (← sub-zero w.left) at c.loop-a.invariant.left) (omega (arith, c.in-None.ensures.steps.0))
