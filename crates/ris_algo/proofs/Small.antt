-- That the values along short walks in a proper graph are far below 2^64.
use Rattle.std.proofs.Common.{◌≡◌, ℕ, ◌+◌, ◌*◌, ◌^◌, ◌<◌, ◌≤◌, Bool, List, length, Option, Some, arith}
use Rattle.std.proofs.Math.Nat.{mul-le-mul}
use Rattle.std.proofs.lemmas.List.Elements.{All-contains}
use Rattle.ris_base.specs.Graph.{HasVertex, IsProper, greatest_weight}
use Rattle.ris_base.specs.Limits.{vertex_limit, greatest_of}
use Rattle.ris_base.specs.Walk.{Leads}
use Rattle.ris_base.specs.declared.graphs.Format.{Format}
use Rattle.ris_base.specs.declared.graphs.Format.TheVariants.{One, Two}
use Rattle.ris_base.specs.declared.graphs.PlainGraph.{PlainGraph}
use Rattle.ris_base.specs.declared.graphs.Triple.{Triple}
use Rattle.ris_algo.specs.Laws.{along, IsMonotone}
use Rattle.ris_algo.proofs.Along.{along-bound}
use Rattle.ris_algo.proofs.Vertices.{vertices_within}
use Rattle.ris_algo.proofs.Walks.{Leads-weights}

-- the greatest weight of every format is below 2 ^ 36
pub greatest_small : (format : Format) → greatest_of format < 2 ^ 36
greatest_small One = omega arith
greatest_small Two = omega arith

-- a vertex of a proper graph is below the limit
pub vertex_below : {g : PlainGraph} → IsProper g → (x : ℕ) → HasVertex g x → x < vertex_limit
vertex_below {g = g} proper x has = All-contains (λ y. y < vertex_limit) g.vertices x proper.vertices has

-- the start value of a vertex of a proper graph is small
pub start-below : {start : ℕ → Option ℕ} {step : ℕ → ℕ → ℕ} {better : ℕ → ℕ → Bool} {g : PlainGraph} → IsProper g → IsMonotone start step better
    → (x c : ℕ) → HasVertex g x → start x ≡ Some c → c < 2 ^ 37
start-below proper laws x c has is = laws.start_small x c (vertex_below proper x has) is

-- the value along a walk with fewer triples than the graph has vertices is within what a step may take, where the walk begins with a small value
pub along-below : {start : ℕ → Option ℕ} {step : ℕ → ℕ → ℕ} {better : ℕ → ℕ → Bool} {g : PlainGraph} → IsProper g → IsMonotone start step better
    → (both : Bool) (c a : ℕ) (w : List Triple) (x : ℕ) → Leads g both a w x → length w < length g.vertices → c < 2 ^ 37 → along step c w < 2 ^ 59
along-below {step = step} {g = g} proper laws both c a w x leads short small =
    let bound : along step c w ≤ c + length w * (greatest_weight g + 1) =
    along-bound laws c (greatest_weight g) w (Leads-weights proper both a w x leads) in
    let most : length g.vertices ≤ vertex_limit = vertices_within proper in
    let weight = greatest_small g.format in
    grow c (length w) (greatest_weight g) (along step c w) (omega arith) bound small weight
  where
    grow : (c n m v : ℕ) → n ≤ vertex_limit → v ≤ c + n * (m + 1) → c < 2 ^ 37 → m < 2 ^ 36 → v < 2 ^ 59
    grow c n m v few le low light =
        let most : n * (m + 1) ≤ vertex_limit * 2 ^ 36 = (let top : m + 1 ≤ 2 ^ 36 = omega arith in mul-le-mul few top) in
        omega arith
