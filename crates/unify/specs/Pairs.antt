-- The tokens and the nodes of two records, and what the laws ask of their classes. Assumes nothing.
use Rattle.std.specs.Prelude.{ℕ, ◌+◌, ◌*◌, ◌<◌, List, ◌≡◌, length}
use Rattle.unify.specs.declared.Pair.{Pair}
use Rattle.unify.specs.declared.Classes.{Classes}
use Rattle.unify.specs.Closure.{Graph}
use Rattle.unify.specs.Facts.{facts, graph_of, facts_length}
use Rattle.unify.specs.Inside.{Read, Done, Open}
use Rattle.unify.specs.Look.{Asks}
use Rattle.unify.specs.Writer.{Asked}

abbrev pub tokens_of : Pair → List ℕ
tokens_of p = facts p.toks p.a.now p.b.now

abbrev pub nodes_of : Pair → Graph
nodes_of p = graph_of p.symbols.now p.toks p.a.now p.b.now

pub tokens_long : (p : Pair) → length (tokens_of p) ≡ 2 * p.toks
tokens_long p = facts_length p.toks p.a.now p.b.now p.given

pub asks : (c : Classes) (m : List ℕ) (i : ℕ) → length m ≡ 2 * c.pair.toks + 128 → i < 2 * c.pair.toks + 128 → Done (nodes_of c.pair) c.rep.now m → Open (nodes_of c.pair) c.rep.now m i
    → Asks c.pair.symbols.now c.pair.toks (tokens_of c.pair) c.rep.now m i
asks c m i e l d o = record { lt = tokens_long c.pair; ls = c.long; lm = e; down = c.down; ii = l; done = d; wide = o }

pub asked : (c : Classes) (i : ℕ) → i < 2 * c.pair.toks + 128 → Read (nodes_of c.pair) c.rep.now i → Asked c.pair.symbols.now c.pair.toks (tokens_of c.pair) c.rep.now i
asked c i l r = record { lt = tokens_long c.pair; ls = c.long; down = c.down; ii = l; read = r }
