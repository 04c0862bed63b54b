-- Copies more at the end of a plain graph's triples.
use Rattle.std.specs.Prelude.{◌+◌, ◌-◌, ◌^◌, ◌<◌, List, [], ◌∷◌, ◌++◌, length}
use Rattle.std.specs.List.{All}
use Rattle.ris_base.specs.Graph.{IsProperTriple}
use Rattle.ris_base.specs.declared.graphs.PlainGraph.{PlainGraph}
use Rattle.ris_base.specs.declared.graphs.Triple.{Triple}
use Rattle.ris_graph.specs.GraphView.{GraphView, IsOf, copies_in}

-- a plain graph with one copy of a triple more
abbrev pub appended : PlainGraph → Triple → PlainGraph
appended p t = record p { triples = p.triples ++ t ∷ [] }

-- a triple may be added to the graph: it joins vertices of the plain graph that the graph is, within the limit, and has fewer
-- copies than a number can count
pub record CanAppend (g : GraphView) (t : Triple) : Type 0 where
  pub plain : PlainGraph
  pub is : IsOf g plain
  pub proper : IsProperTriple plain t
  pub few : copies_in g t < 2 ^ 64 - 1

-- a plain graph with one copy more of each of some triples, one after the other
abbrev pub appended_all : PlainGraph → List Triple → PlainGraph
appended_all p ts = record p { triples = p.triples ++ ts }

-- some triples may be added to the graph: they join vertices of the plain graph that the graph is, within the limit, and are
-- with its triples fewer than a number can count
pub record CanAppendAll (g : GraphView) (ts : List Triple) : Type 0 where
  pub plain : PlainGraph
  pub is : IsOf g plain
  pub proper : All (IsProperTriple plain) ts
  pub few : length plain.triples + length ts < 2 ^ 64
