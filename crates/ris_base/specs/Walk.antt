-- Walks in a graph and what they are worth, for the four analyses. Definitions of the textbooks on shortest paths,
-- widest (bottleneck) paths and connected components, over all walks.
use Rattle.std.specs.Prelude.{◌≡◌, ℕ, ◌+◌, ◌<◌, Bool, true, false, IsTrue, ◌⊎◌, List, [], ◌∷◌, length, min}
use Rattle.std.specs.List.{sum_by}
use Rattle.ris_base.specs.Graph.{HasVertex, HasTriple, greatest_weight}
use Rattle.ris_base.specs.declared.graphs.PlainGraph.{PlainGraph}
use Rattle.ris_base.specs.declared.graphs.Triple.{Triple}
use Rattle.ris_base.specs.declared.analyses.Kind.{Kind}
use Rattle.ris_base.specs.declared.analyses.Kind.TheVariants.{Bfs, Sssp, Sswp, Wcc}
use Rattle.ris_base.specs.declared.analyses.Spec.{Spec}

-- a walk: its first vertex, and the triples along which it goes
pub record Walk : Type 0 where
  pub first : ℕ
  pub triples : List Triple

-- whether the walks of an analysis may go along a triple from its target to its source too
abbrev pub both_ways : Kind → Bool
both_ways Bfs = false
both_ways Sssp = false
both_ways Sswp = false
both_ways Wcc = true

-- these triples of the graph, joined end to start, lead from a to x
abbrev pub Leads : PlainGraph → Bool → ℕ → List Triple → ℕ → Type 0
Leads g both a [] x = a ≡ x
Leads g both a (t ∷ rest) x =
    HasTriple g t × (((t.source ≡ a) × Leads g both t.target rest x) ⊎ (IsTrue both × (t.target ≡ a) × Leads g both t.source rest x))

-- a vertex at which the walks of an analysis may begin: the root, or for components every vertex
abbrev pub IsFirst : Spec → ℕ → Type 0
IsFirst spec a = starts_at spec.kind spec.root a
  where
    starts_at : Kind → ℕ → ℕ → Type 0
    starts_at Bfs root x = x ≡ root
    starts_at Sssp root x = x ≡ root
    starts_at Sswp root x = x ≡ root
    starts_at Wcc root x = Unit {0}

-- w is a walk of the analysis to x: it begins at a vertex of the graph with a start value and leads to x
pub record IsWalk (g : PlainGraph) (spec : Spec) (x : ℕ) (w : Walk) : Type 0 where
  pub begins : HasVertex g w.first
  pub first : IsFirst spec w.first
  pub leads : Leads g (both_ways spec.kind) w.first w.triples x

-- the least of a number and all weights
abbrev pub least_weight : ℕ → List Triple → ℕ
least_weight n [] = n
least_weight n (t ∷ rest) = min t.weight (least_weight n rest)

-- the worth of a walk: the number of its triples, the sum of their weights, the least of their weights and one more than
-- the greatest weight, or the number of its first vertex
abbrev pub worth : PlainGraph → Kind → Walk → ℕ
worth g Bfs w = length w.triples
worth g Sssp w = sum_by (λ t. t.weight) w.triples
worth g Sswp w = least_weight (greatest_weight g + 1) w.triples
worth g Wcc w = w.first

-- a is better than b: less, or for widest paths greater
abbrev pub IsBetter : Kind → ℕ → ℕ → Type 0
IsBetter Bfs a b = a < b
IsBetter Sssp a b = a < b
IsBetter Sswp a b = b < a
IsBetter Wcc a b = a < b
