-- Rows of neighbours, and the triples that they stand for.
use Rattle.std.specs.Prelude.{ℕ, ◌+◌, Bool, if◌then◌else◌, List, ◌++◌, length, map}
use Rattle.ris_base.specs.Forest.{Joins}
use Rattle.ris_base.specs.Graph.{HasVertex, HasTriple}
use Rattle.ris_base.specs.Walk.{both_ways}
use Rattle.ris_base.specs.declared.graphs.PlainGraph.{PlainGraph}
use Rattle.ris_base.specs.declared.graphs.Triple.{Triple}
use Rattle.ris_base.specs.declared.analyses.Kind.{Kind}
use Rattle.ris_rows.specs.declared.neighbours.Neighbour.{Neighbour}
use Rattle.ris_graph.specs.GraphView.{GraphView, out_row, in_row}

-- the triple between a vertex and a neighbour, out of the vertex or into it
abbrev pub triple_of : Bool → ℕ → ℕ → ℕ → Triple
triple_of forward vertex end weight = record {
  source = if forward then vertex else end;
  target = if forward then end else vertex;
  weight = weight;
}

-- the other end and the weight of each
abbrev pub pairs : List Neighbour → List (ℕ × ℕ)
pairs row = map (λ n. (n.end, n.weight)) row

-- a neighbour stands for a triple of the graph along which walks go from the vertex to it
pub record IsEnd (g : PlainGraph) (kind : Kind) (forward : Bool) (vertex : ℕ) (n : Neighbour) : Type 0 where
  pub has : HasTriple g (triple_of forward vertex n.end n.weight)
  pub end : HasVertex g n.end
  pub joins : Joins (both_ways kind) (triple_of forward vertex n.end n.weight) vertex n.end

-- a neighbour stands for a triple of the graph along which walks come from it to the vertex
pub record IsOrigin (g : PlainGraph) (kind : Kind) (forward : Bool) (vertex : ℕ) (n : Neighbour) : Type 0 where
  pub has : HasTriple g (triple_of forward vertex n.end n.weight)
  pub here : HasVertex g vertex
  pub joins : Joins (both_ways kind) (triple_of forward vertex n.end n.weight) n.end vertex

-- the neighbours to which walks may go from x, and those from which they may come to it
abbrev pub ends_of : Bool → GraphView → ℕ → List (ℕ × ℕ)
ends_of both graph x = if both then pairs (out_row graph x).items ++ pairs (in_row graph x).items else pairs (out_row graph x).items

abbrev pub origins_of : Bool → GraphView → ℕ → List (ℕ × ℕ)
origins_of both graph x = if both then pairs (in_row graph x).items ++ pairs (out_row graph x).items else pairs (in_row graph x).items

-- how many there are
abbrev pub end_count : Bool → GraphView → ℕ → ℕ
end_count both graph x = if both then length (out_row graph x).items + length (in_row graph x).items else length (out_row graph x).items

abbrev pub origin_count : Bool → GraphView → ℕ → ℕ
origin_count both graph x = if both then length (in_row graph x).items + length (out_row graph x).items else length (in_row graph x).items
