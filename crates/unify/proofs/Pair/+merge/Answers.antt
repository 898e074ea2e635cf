use mathlib.Core.Path.{◌≡◌, refl, sym, ap, ap₂, subst, ◌∙◌}
use mathlib.Core.List.{List}
use lib.ListN.{length, length-set}
use Prim.Native.Nat.{◌+◌, ◌*◌, ◌<◌, min, max}
use native.Mathlib.Nat.{sub-zero}
use native.Mathlib.Omega.{arith}
use Rattle.std.proofs.Common.{inl, inr}
use Rattle.std.specs.Iterator.Adapters.{zip_first, zip_second}
use Rattle.records.specs.Symbols.{arity_of}
use Rattle.unify.specs.declared.Pair.{Pair}
use Rattle.unify.specs.Forest.{find, Down}
use Rattle.unify.specs.Code.{answer_same, Joint, Doing, joint_down, joint_roots, joint_var, joint_clash, joint_true, joint_false, doing_start, doing_next, doing_clash, doing_done}
use Rattle.unify.specs.Steps.{here, stands}
use Rattle.unify.specs.Pairs.{tokens_of, nodes_of, tokens_long}
use Prim.Native.Nat.{ℕ}
use Rattle.unify.proofs.Pair.+merge.Goals as goal

-- the state once the two roots are linked
joint :
    (p : Pair) (rep : List ℕ) (i j : ℕ) {r s lo hi : ℕ}
    → length rep ≡ 2 * p.toks + 128 → Down rep → (i < 2 * p.toks + 128) × (j < 2 * p.toks + 128)
    → r ≡ find rep i → s ≡ find rep j → (r ≡ s → ⊥) → lo ≡ min r s → hi ≡ max r s → Joint p.symbols.now p.toks (tokens_of p) rep i j lo hi
joint p rep i j h d n r s ne l m =
    record { lt = tokens_long p; lr = h; down = d; ii = n.0; ij = n.1; ne = λ e. ne (r ∙ e ∙ sym s); el = l ∙ ap₂ min r s; eh = m ∙ ap₂ max r s }

pub returns-then-r-s : goal.returns-then-r-s
returns-then-r-s t c =
    let a = c.args in
    answer_same (nodes_of a.self.now) a.rep.now a.i a.j c.requires.down (sym c.root-r.ensures.0 ∙ c.if-r-s.true ∙ c.root-s.ensures.0)

pub returns-then-self-hi : goal.returns-then-self-hi
returns-then-self-hi t c =
    let a = c.args in
    let pair = a.self.now in
    let J = joint pair a.rep.now a.i a.j c.requires.long c.requires.down c.requires.nodes c.root-r.ensures.0 c.root-s.ensures.0 c.if-r-s.false c.min-lo.ensures c.max-hi.ensures in
    joint_var J _ refl c.if-self-hi.true

pub returns-then-x-token : goal.returns-then-x-token
returns-then-x-token t c =
    let a = c.args in
    let pair = a.self.now in
    let J = joint pair a.rep.now a.i a.j c.requires.long c.requires.down c.requires.nodes c.root-r.ensures.0 c.root-s.ensures.0 c.if-r-s.false c.min-lo.ensures c.max-hi.ensures in
    joint_clash J a.rep.now (omega (arith, c.if-self-hi.false)) (λ e. c.if-x-token.true (c.token-x.ensures ∙ e ∙ sym c.token.ensures))

pub loop-u-init : goal.loop-u-init
loop-u-init t c =
    let a = c.args in
    let pair = a.self.now in
    let ts = tokens_of pair in
    let J = joint pair a.rep.now a.i a.j c.requires.long c.requires.down c.requires.nodes c.root-r.ensures.0 c.root-s.ensures.0 c.if-r-s.false c.min-lo.ensures c.max-hi.ensures in
    let e = sym c.token-x.ensures ∙ c.if-x-token.false ∙ c.token.ensures in
    let x = c.args-2.ensures in
    let y = c.args-3.ensures in
    let k = x.left ∙ c.arity-n.ensures.0 ∙ ap (arity_of pair.symbols.now) c.token-x.ensures in
    let z = c.zip-u-items.ensures in
    rw (c.into_iter-u-iterator.ensures.into_iter_gives, z.first, z.second)
    (record {
      can_next = (tt, tt);
      is_finite = tt;
      first = x.pair;
      second = y.pair;
      as_many = y.left ∙ sym x.left;
      doing = rw (x.at, y.at, k)
          (subst (Doing pair.symbols.now ts _ _ _ _ _ _) (sub-zero _) (doing_start pair.symbols.now ts _ c.min-lo.result c.max-hi.result _ _ (joint_down J _ refl) refl e refl));
    })

pub merge-requires : goal.merge-requires
merge-requires t c =
    let a = c.args in
    let pair = a.self.now in
    let J = joint pair a.rep.now a.i a.j c.requires.long c.requires.down c.requires.nodes c.root-r.ensures.0 c.root-s.ensures.0 c.if-r-s.false c.min-lo.ensures c.max-hi.ensures in
    let x = zip_first c.loop-u.u-iterator in
    let y = zip_second c.loop-u.u-iterator in
    let I = c.loop-u.invariant in
    let s = c.in-Some.ensures.steps in
    let S = I.doing.step in
    (omega (arith, S.fewer, joint_roots J _ refl), (c.loop-u.auto.rep ∙ length-set a.rep.now _ _ ∙ c.requires.long, (S.down, (rw I.first at s.0.2, rw I.second at s.1.2))))

pub returns-then-not-merge : goal.returns-then-not-merge
returns-then-not-merge t c =
    let a = c.args in
    let pair = a.self.now in
    let J = joint pair a.rep.now a.i a.j c.requires.long c.requires.down c.requires.nodes c.root-r.ensures.0 c.root-s.ensures.0 c.if-r-s.false c.min-lo.ensures c.max-hi.ensures in
    let x = zip_first c.loop-u.u-iterator in
    let y = zip_second c.loop-u.u-iterator in
    let I = c.loop-u.invariant in
    let s = c.in-Some.ensures.steps in
    joint_false J _ a.rep.now refl (omega (arith, c.if-self-hi.false))
    (doing_clash pair.symbols.now (tokens_of pair) _ _ a.rep.now _ _ (here pair x) (here pair y) x.left 0 _ _ s.0.0 (stands x pair I.first) (stands y pair I.second) (rw I.first at s.0.1) (rw I.second at s.1.1) (rw (← sub-zero x.left) at I.doing) c.if-not-merge.ensures)

pub loop-u-preserved : goal.loop-u-preserved
loop-u-preserved t c =
    let pair = c.args.self.now in
    let x = zip_first c.loop-u.u-iterator in
    let y = zip_second c.loop-u.u-iterator in
    let I = c.loop-u.invariant in
    let s = c.in-Some.ensures.steps in
    record {
      can_next = (tt, tt);
      is_finite = tt;
      first = s.0.5 ∙ I.first;
      second = s.1.5 ∙ I.second;
      as_many = omega (arith, s.0.4, s.1.4, I.as_many);
      doing = rw s.0.4 (doing_next pair.symbols.now (tokens_of pair) _ _ _ _ _ (here pair x) (here pair y) _ _ x.left 0 _ _ s.0.0 (stands x pair I.first) (stands y pair I.second) (rw I.first at s.0.3) (rw I.second at s.1.3) (rw I.first at s.0.1) (rw I.second at s.1.1) (rw (← sub-zero x.left) at I.doing) c.if-not-merge.ensures);
    }

pub returns : goal.returns
returns t c =
    let a = c.args in
    let pair = a.self.now in
    let J = joint pair a.rep.now a.i a.j c.requires.long c.requires.down c.requires.nodes c.root-r.ensures.0 c.root-s.ensures.0 c.if-r-s.false c.min-lo.ensures c.max-hi.ensures in
    let x = zip_first c.loop-u.u-iterator in
    let y = zip_second c.loop-u.u-iterator in
    let I = c.loop-u.invariant in
    let none : x.left ≡ 0 = elim c.in-None.ensures.steps [ inl e ↦ e.1.0 | inr e ↦ sym I.as_many ∙ e.1.0 ] in
    joint_true J _ _ refl (omega (arith, c.if-self-hi.false)) (sym c.token-x.ensures ∙ c.if-x-token.false ∙ c.token.ensures)
    (doing_done pair.symbols.now (tokens_of pair) _ _ _ _ (here pair x) (here pair y) x.left 0 (omega (arith, none)) (rw (← sub-zero x.left) at I.doing))
