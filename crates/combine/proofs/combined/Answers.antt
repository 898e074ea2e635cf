use Rattle.std.proofs.Common.{ℕ, ◌≡◌, List, length, take, subst, false, length-take-le}
use Rattle.std.specs.Prelude.{is_ok}
use Rattle.std.proofs.lemmas.Result.{err_from_is_err_and}
use Rattle.unify.specs.Facts.{facts}
use Rattle.combine.specs.declared.Instances.{Instances}
use Rattle.combine.specs.Built.{Over}
use Rattle.combine.specs.Draft.{both_of, nodes_of}
use Rattle.combine.specs.Settle.{all_nodes, Settled, over_settled}
use Rattle.combine.specs.Final.{result_of}
use Rattle.combine.proofs.Steps.{at_parts, written_in, TooMuchIn}
use Rattle.combine.proofs.combined.Goals as goal

pub returns-in_err-gather : goal.returns-in_err-gather
returns-in_err-gather c =
    let e = err_from_is_err_and c.from_residual.result c.from_residual.ensures.1 in
    let a = c.args in
    let p = a.classes.now.pair in
    let w = c.new-of.ensures in
    let room : length (take a.hyps a.starts.now) ≡ a.hyps = length-take-le a.hyps a.starts.now c.requires.sheets.room in
    let over =
    at_parts c.new-of.result p.symbols.now p.toks p.a.now p.b.now a.classes.now.rep.now w.pair.0 w.pair.1.0 w.pair.1.1.0 w.pair.1.1.1 w.rep
    (λ (sy : List ℕ) (T : ℕ) (x y s : List ℕ). Over sy (facts T x y) s T a.hyps (all_nodes sy T x y a.at))
    (subst (λ (n : ℕ). TooMuchIn c.new-of.result n (nodes_of c.new-of.result a.at)) room c.in_err-gather.ensures.left)
    in
    rw e.1
    (
    λ r r' k h P.
    result_of p.symbols.now p.toks a.hyps a.vars a.at p.a.now p.b.now a.classes.now.rep.now a.text.now a.starts.now a.names.now a.rec.now c.requires r r' k h P a.rec.now false
    (over_settled p.symbols.now (facts p.toks p.a.now p.b.now) a.classes.now.rep.now p.toks a.hyps a.vars a.rec.now a.rec.now (all_nodes p.symbols.now p.toks p.a.now p.b.now a.at) over)
    )

pub returns : goal.returns
returns c =
    let a = c.args in
    let p = a.classes.now.pair in
    let w = c.new-of.ensures in
    let of = c.new-of.result in
    let new = c.write.new.rec in
    let ok = is_ok c.write.result in
    let room : length (take a.hyps a.starts.now) ≡ a.hyps = length-take-le a.hyps a.starts.now c.requires.sheets.room in
    let part =
    written_in c.gather.new.self of (length (take a.hyps a.starts.now)) c.gather.ensures.same.0 c.gather.ensures.same.1 (λ (x : Instances). nodes_of x a.at) a.vars a.rec.now new ok c.write.ensures c.in_ok-gather.ensures.left
    in
    let settled =
    at_parts of p.symbols.now p.toks p.a.now p.b.now a.classes.now.rep.now w.pair.0 w.pair.1.0 w.pair.1.1.0 w.pair.1.1.1 w.rep
    (λ (sy : List ℕ) (T : ℕ) (x y s : List ℕ). Settled sy (facts T x y) s T a.hyps a.vars a.rec.now new (all_nodes sy T x y a.at) ok)
    (subst (λ (n : ℕ). Settled of.classes.pair.symbols.now (both_of of) of.classes.rep.now of.classes.pair.toks n a.vars a.rec.now new (nodes_of of a.at) ok) room part)
    in
    λ r r' k h P. result_of p.symbols.now p.toks a.hyps a.vars a.at p.a.now p.b.now a.classes.now.rep.now a.text.now a.starts.now a.names.now a.rec.now c.requires r r' k h P new ok settled
