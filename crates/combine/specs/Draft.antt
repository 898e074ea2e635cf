-- The draft of a rule, by the nodes whose facts went in. Assumes nothing.
use Rattle.std.specs.Prelude.{ℕ, List, ◌≡◌, Bool, length, get_or, Result}
use Rattle.records.specs.Tokens.{span}
use Rattle.records.specs.Symbols.{arity_of}
use Rattle.records.specs.Rules.{tokens_of}
use Rattle.unify.specs.Facts.{facts}
use Rattle.unify.specs.Closure.{Graph}
use Rattle.unify.specs.Nodes.{node, graph}
use Rattle.combine.specs.declared.Instances.{Instances}
use Rattle.combine.specs.declared.Draft.{Draft}
use Rattle.combine.specs.declared.TooLarge.{TooLarge}
use Rattle.combine.specs.Built.{Built, Outcome}
use Rattle.combine.specs.Places.{visits}
use Rattle.combine.specs.Settle.{all_nodes, Settled}

-- The tokens of both records.
abbrev pub both_of : Instances → List ℕ
both_of of = facts of.classes.pair.toks of.classes.pair.a.now of.classes.pair.b.now

-- Their nodes.
abbrev pub graph_of : Instances → Graph
graph_of of = graph of.classes.pair.symbols.now (both_of of)

-- The node of the fact at a place.
abbrev pub node_of : Instances → ℕ → ℕ
node_of of place = node (both_of of) place

-- The nodes of the hypotheses of a record, but for the one at the place `skip`.
abbrev pub side_of : Instances → List ℕ → ℕ → ℕ → List ℕ
side_of of rec base skip =
    let ar = arity_of of.classes.pair.symbols.now in
    visits ar (both_of of) (tokens_of rec) base skip (get_or rec 0 0) (span ar 1 (tokens_of rec))

-- The nodes of all facts of the combination upon the hypothesis at a place of the second record.
abbrev pub nodes_of : Instances → ℕ → List ℕ
nodes_of of at = all_nodes of.classes.pair.symbols.now of.classes.pair.toks of.classes.pair.a.now of.classes.pair.b.now at

-- The facts of the nodes ns went in, the conclusion first, with room for `hyps` hypotheses.
abbrev pub HoldsIn : Instances → ℕ → Draft → List ℕ → Type 0
HoldsIn of hyps d ns = Built of.classes.pair.symbols.now (both_of of) of.classes.rep.now of.classes.pair.toks hyps d.text.now d.starts.now d.end d.count ns

abbrev pub Holds : Draft → List ℕ → Type 0
Holds d ns = HoldsIn d.of (length d.starts.now) d ns

-- What a step leaves with which the facts of the nodes ns are in, or are too many.
abbrev pub LeavesIn : Instances → ℕ → Draft → List ℕ → Result (Unit {0}) TooLarge → Type 0
LeavesIn of hyps d ns r = Outcome of.classes.pair.symbols.now (both_of of) of.classes.rep.now of.classes.pair.toks hyps d.text.now d.starts.now d.end d.count ns r

abbrev pub Leaves : Draft → Draft → List ℕ → Result (Unit {0}) TooLarge → Type 0
Leaves old new ns r = LeavesIn old.of (length old.starts.now) new ns r

-- The records and the room for hypotheses stay.
abbrev pub IsSameRoom : Draft → Draft → Type 0
IsSameRoom old new = (new.of ≡ old.of) × (length new.starts.now ≡ length old.starts.now)

-- What writing the rule of these nodes as a record answers.
abbrev pub IsWritten : Draft → ℕ → List ℕ → List ℕ → List ℕ → Bool → Type 0
IsWritten d vars old new ns ok = Settled d.of.classes.pair.symbols.now (both_of d.of) d.of.classes.rep.now d.of.classes.pair.toks (length d.starts.now) vars old new ns ok
