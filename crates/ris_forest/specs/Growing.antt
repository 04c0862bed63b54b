-- Lists of vertices that grow by whole subtrees.
use Rattle.std.specs.Prelude.{◌≡◌, ◌↔◌, ℕ, ◌<◌, ◌^◌, ◌⊎◌, ◌==◌, if◌then◌else◌, List, [], ◌∷◌, ◌++◌, length, Option, Some}
use Rattle.std.specs.List.{All, Contains, list_any}
use Rattle.ris_base.specs.Forest.{Forest}
use Rattle.ris_base.specs.Graph.{EachOnce}
use Rattle.ris_forest.specs.declared.subtrees.TheConstants.{FEW}
use Rattle.ris_forest.specs.Cells.{IsBelow}

-- all that are in a list are in another
abbrev pub IsWithin : List ℕ → List ℕ → Type 0
IsWithin xs ys = (x : ℕ) → Contains xs x → Contains ys x

-- each vertex of a list stands once and is below 2 ^ 32, and the keys of a set are some of them: none of fewer than FEW, and all of more
pub record AreMembers (keys vertices : List ℕ) : Type 0 where
  pub once : EachOnce vertices
  pub small : All (λ x. x < 2 ^ 32) vertices
  pub known : IsWithin keys vertices
  pub none : length vertices < FEW → keys ≡ []
  pub all : FEW < length vertices → IsWithin vertices keys

-- a list with x at its end, or as it is where it has x
abbrev pub with_vertex : List ℕ → ℕ → List ℕ
with_vertex vertices x = if list_any (λ y. x == y) vertices then vertices else vertices ++ x ∷ []

-- a list goes on behind its end
abbrev pub GoesOn : List ℕ → List ℕ → Type 0
GoesOn old new = (more : List ℕ) × (new ≡ old ++ more)

-- all that hang below a vertex of the list are in it
abbrev pub IsClosed : Forest → List ℕ → Type 0
IsClosed F xs = (x y : ℕ) → Contains xs x → IsBelow F x y → Contains xs y

-- a list grows by x and all that hang below it, as far as they aren't there, and all that hang below its vertices are in it
pub record GrowsBelow (F : Forest) (x : ℕ) (old new : List ℕ) : Type 0 where
  pub once : EachOnce new
  pub each : (y : ℕ) → Contains new y ↔ (Contains old y ⊎ IsBelow F x y)
  pub closed : IsClosed F new

-- a list grows by the vertices whose parent's vertex is p, as far as they aren't there
pub record GrowsByMissing (above : ℕ → Option ℕ) (p : ℕ) (old new : List ℕ) : Type 0 where
  pub on : GoesOn old new
  pub each : (y : ℕ) → Contains new y ↔ (Contains old y ⊎ (above y ≡ Some p))
