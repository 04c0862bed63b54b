-- The neighbours of a vertex: the triples that lead to it, as it sees them.
use Rattle.std.specs.Prelude.{◌≡◌, ℕ, ◌<◌, ◌^◌, Bool, ◌&&◌, ◌==◌, if◌then◌else◌, List, [], ◌∷◌, ◌++◌, length, map, slice_index_or, flat_map, Vec}
use Rattle.std.specs.List.{All}
use Rattle.std.specs.declared.alloc.Global.{Global}
use Rattle.ris_base.specs.declared.graphs.Triple.{Triple}
use Rattle.ris_four.specs.declared.neighbours.Neighbour.{Neighbour}

-- the neighbours that a triple gives x: its source where it ends at x, and where triples lead both ways its target where it
-- begins there
abbrev pub neighbours_by : Bool → ℕ → Triple → List Neighbour
neighbours_by both x t =
    (if t.target == x then record { other = t.source; weight = t.weight } ∷ [] else [])
    ++ (if both && (t.source == x) then record { other = t.target; weight = t.weight } ∷ [] else [])

-- the neighbours that the triples give x
abbrev pub neighbours_to : Bool → ℕ → List Triple → List Neighbour
neighbours_to both x triples = flat_map (neighbours_by both x) triples

-- the list that stands for x among the vertices' lists
abbrev pub neighbours_at : List (Vec Neighbour Global) → ℕ → List Neighbour
neighbours_at lists x = slice_index_or (map (λ v. v.items) lists) x []

-- there are so many lists, and each holds the neighbours that the triples give the vertex number of its place
pub record AreNeighbours (both : Bool) (triples : List Triple) (count : ℕ) (lists : List (Vec Neighbour Global)) : Type 0 where
  pub all : length lists ≡ count
  pub each : (x : ℕ) → x < count → neighbours_at lists x ≡ neighbours_to both x triples

-- the lists gain these neighbours, each at its place, and otherwise stay
pub record Gain (more : ℕ → List Neighbour) (old new : List (Vec Neighbour Global)) : Type 0 where
  pub all : length new ≡ length old
  pub each : (x : ℕ) → neighbours_at new x ≡ neighbours_at old x ++ more x

-- a neighbour that is below the bound, over a weight below 2 ^ 36
pub record IsListed (bound : ℕ) (n : Neighbour) : Type 0 where
  pub other : n.other < bound
  pub weight : n.weight < 2 ^ 36

-- both ends of a triple are below the bound
pub record IsWithin (bound : ℕ) (t : Triple) : Type 0 where
  pub source : t.source < bound
  pub target : t.target < bound

-- each neighbour that is listed for one of so many vertex numbers is itself one of them, and its weight is small
abbrev pub AreWithin : ℕ → List (Vec Neighbour Global) → Type 0
AreWithin count lists = (x : ℕ) → x < count → All (IsListed count) (neighbours_at lists x)
