-- The net effect of a request on a graph, and the room that it needs.
use Rattle.std.specs.Prelude.{◌≡◌, ◌≢◌, ◌↔◌, ℕ, ◌<◌, ◌≤◌, ◌⊎◌, Bool, true, ◌==◌, ◌&&◌, nat_lt, List, length, None, count_by}
use Rattle.std.specs.List.{Contains, AllPairs, All}
use Rattle.ris_base.specs.Falling.{Drops}
use Rattle.ris_base.specs.Graph.{EachOnce, HasVertex, IsProper, copies, is_equal}
use Rattle.ris_base.specs.Requests.{refusal_of, entered}
use Rattle.ris_base.specs.declared.graphs.PlainGraph.{PlainGraph}
use Rattle.ris_base.specs.declared.graphs.Triple.{Triple}
use Rattle.ris_base.specs.declared.updates.Update.{Update}
use Rattle.ris_graph.specs.GraphView.{GraphView, IsOf, out_row, in_row}
use Rattle.ris_graph.specs.declared.nets.Net.{Net}
use Rattle.ris_graph.specs.declared.nets.NetTriple.{NetTriple}

-- a triple of a net has these copies before and after the request
pub record IsCounted (p : PlainGraph) (parts : List Update) (t : NetTriple) : Type 0 where
  pub before : t.before ≡ copies p t.triple
  pub after : t.after ≡ copies (entered p parts) t.triple

-- The net of a request that is accepted on a proper plain graph. It drops the vertices of the graph before that a part drops. It adds
-- those of the graph after that weren't there before or that it drops too. Each triple stands in it at most once, with its
-- copies before and after, and every triple whose copies differ stands in it
pub record IsNet (p : PlainGraph) (parts : List Update) (net : Net) : Type 0 where
  pub proper : IsProper p
  pub accepted : refusal_of p parts ≡ None
  pub dropped_once : EachOnce net.dropped
  pub dropped : (x : ℕ) → Contains net.dropped x ↔ (HasVertex p x × Drops parts x)
  pub added_once : EachOnce net.added
  pub added : (x : ℕ) → Contains net.added x ↔ (HasVertex (entered p parts) x × ((¬ (HasVertex p x)) ⊎ Contains net.dropped x))
  pub once : AllPairs (λ s t. is_equal s.triple t.triple ≢ true) net.triples
  pub counted : All (IsCounted p parts) net.triples
  pub covered : (t : Triple) → copies p t ≢ copies (entered p parts) t → (n : NetTriple) × Contains net.triples n × (n.triple ≡ t)

-- the net is one of this graph: of some request that is accepted on a plain graph that it is
pub record IsNetOf (g : GraphView) (n : Net) : Type 0 where
  pub plain : PlainGraph
  pub parts : List Update
  pub is : IsOf g plain
  pub net : IsNet plain parts n

-- whether a triple of a net comes into the graph, and whether it goes
abbrev pub comes : NetTriple → Bool
comes t = (t.before == 0) && nat_lt 0 t.after

abbrev pub goes : NetTriple → Bool
goes t = nat_lt 0 t.before && (t.after == 0)

-- there is room for what passes the test: in each row for so many neighbours
pub record HasRowsFor (g : GraphView) (test : NetTriple → Bool) (triples : List NetTriple) : Type 0 where
  pub outs : (u : ℕ) → count_by (λ t. (t.triple.source == u) && test t) triples ≤ (out_row g u).spare
  pub ins : (v : ℕ) → count_by (λ t. (t.triple.target == v) && test t) triples ≤ (in_row g v).spare

-- there is room for a net: for each neighbour that comes, and for each vertex that it adds
pub record HasRoomFor (g : GraphView) (net : Net) : Type 0 where
  pub rows : HasRowsFor g comes net.triples
  pub vertices : All (λ x. x < length g.present) net.added

-- a net was committed, and there is room to take it back
pub record IsCommitted (g : GraphView) (n : Net) : Type 0 where
  pub plain : PlainGraph
  pub parts : List Update
  pub is : IsOf g (entered plain parts)
  pub net : IsNet plain parts n
  pub rows : HasRowsFor g goes n.triples
  pub vertices : All (λ x. x < length g.present) n.dropped
