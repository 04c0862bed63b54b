-- Plain graphs: which vertices and triples they have, and what they may hold.
use Rattle.std.specs.Prelude.{◌≡◌, ℕ, ◌<◌, ◌≤◌, Bool, ◌==◌, ◌&&◌, ◌||◌, if◌then◌else◌, List, [], ◌∷◌, length, slice_index, count_by}
use Rattle.std.specs.List.{Contains, list_any, All}
use Rattle.ris_base.specs.Limits.{vertex_limit, greatest_of}
use Rattle.ris_base.specs.declared.graphs.PlainGraph.{PlainGraph}
use Rattle.ris_base.specs.declared.graphs.Triple.{Triple}

-- the greatest weight that a graph's triples may have
abbrev pub greatest_weight : PlainGraph → ℕ
greatest_weight g = greatest_of g.format

-- the triple from u to v of weight w
abbrev pub triple : ℕ → ℕ → ℕ → Triple
triple u v w = record { source = u; target = v; weight = w }

-- x is a vertex of the graph
abbrev pub HasVertex : PlainGraph → ℕ → Type 0
HasVertex g x = Contains g.vertices x

-- t is a triple of the graph
abbrev pub HasTriple : PlainGraph → Triple → Type 0
HasTriple g t = Contains g.triples t

-- whether x is a vertex of the graph
abbrev pub has_vertex : PlainGraph → ℕ → Bool
has_vertex g x = list_any (λ y. y == x) g.vertices

-- whether two triples have the same source, target and weight
abbrev pub is_equal : Triple → Triple → Bool
is_equal s t = (s.source == t.source) && (s.target == t.target) && (s.weight == t.weight)

-- whether some triple of the graph is equal to t
abbrev pub has_equal : PlainGraph → Triple → Bool
has_equal g t = list_any (is_equal t) g.triples

-- how many copies of a triple the graph has
abbrev pub copies : PlainGraph → Triple → ℕ
copies g t = count_by (is_equal t) g.triples

-- whether a triple names x as one of its ends
abbrev pub names : ℕ → Triple → Bool
names x t = (t.source == x) || (t.target == x)

-- the triples of a list without the repeats
unfoldable pub distinct : List Triple → List Triple
distinct [] = []
distinct (t ∷ ts) = if list_any (is_equal t) ts then distinct ts else t ∷ distinct ts

-- how many distinct triples lead to x, and how many leave it; a loop does both
abbrev pub in_degree : PlainGraph → ℕ → ℕ
in_degree g x = count_by (λ t. t.target == x) (distinct g.triples)

abbrev pub out_degree : PlainGraph → ℕ → ℕ
out_degree g x = count_by (λ t. t.source == x) (distinct g.triples)

-- no two places of a list hold the same number
abbrev pub EachOnce : List ℕ → Type 0
EachOnce xs = (i j : ℕ) → i < length xs → j < length xs → slice_index xs i ≡ slice_index xs j → i ≡ j

-- a triple whose ends are vertices of the graph and whose weight is within the limit
pub record IsProperTriple (g : PlainGraph) (t : Triple) : Type 0 where
  pub source : HasVertex g t.source
  pub target : HasVertex g t.target
  pub weight : t.weight ≤ greatest_weight g

-- a graph whose vertices stand once and are below the limit, and whose triples join them within the limit
pub record IsProper (g : PlainGraph) : Type 0 where
  pub once : EachOnce g.vertices
  pub vertices : All (λ x. x < vertex_limit) g.vertices
  pub triples : All (IsProperTriple g) g.triples
