-- The triples that a graph has, as a list in which copies are repeats.
use Rattle.std.specs.Prelude.{ℕ, if◌then◌else◌, List, [], ◌∷◌, ◌++◌, replicate}
use Rattle.ris_base.specs.Graph.{triple}
use Rattle.ris_base.specs.declared.graphs.Triple.{Triple}
use Rattle.ris_graph.specs.GraphView.{GraphView, out_row, vertex_in}
use Rattle.ris_rows.specs.declared.neighbours.Neighbour.{Neighbour}

-- the triples from u to the neighbours of its row, each with its copies
abbrev pub row_triples : ℕ → List Neighbour → List Triple
row_triples u [] = []
row_triples u (n ∷ ns) = replicate n.copies (triple u n.end n.weight) ++ row_triples u ns

-- x, where it is a vertex of the graph, and its triples
abbrev pub vertices_at : GraphView → ℕ → List ℕ
vertices_at g x = if vertex_in g x then x ∷ [] else []

abbrev pub triples_at : GraphView → ℕ → List Triple
triples_at g x = if vertex_in g x then row_triples x (out_row g x).items else []
