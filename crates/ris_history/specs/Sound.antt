-- What the fields of a table keep.
use Rattle.std.specs.Prelude.{◌≡◌, ℕ, ◌*◌, ◌<◌, ◌≤◌, ◌==◌, if◌then◌else◌, List, [], ◌∷◌, ◌++◌, length, map, fold}
use Rattle.std.specs.List.{All}
use Rattle.std.specs.List.Sorted.{IsNonDecreasingBy}
use Rattle.ris_history.specs.Chains.{ChainView, chain_at, kept_in, number, is_taken}
use Rattle.ris_base.specs.declared.records.Change.{Change}
use Rattle.ris_history.specs.declared.trims.Due.{Due}

-- the places of the changes of a chain behind its first item
abbrev pub later_places : ChainView → List ℕ
later_places c = map (λ held. held.place) c.later

-- the places of those dues that are of chain number k
abbrev pub due_places : ℕ → List Due → List ℕ
due_places k [] = []
due_places k (due ∷ dues) = if due.chain == k then due.place ∷ due_places k dues else due_places k dues

-- the changes behind the first items are exactly those in the queue
abbrev pub AreDue : List Due → List ChainView → Type 0
AreDue dues chains = (k : ℕ) → later_places (chain_at chains k) ≡ due_places k dues

-- no change has a place past n
abbrev pub EndsBy : ℕ → ChainView → Type 0
EndsBy n c = All (λ held. held.place ≤ n) c.later

abbrev pub AllEndBy : ℕ → List ChainView → Type 0
AllEndBy n chains = All (EndsBy n) chains

-- a due's place is one of an entry up to n
abbrev pub IsDueBy : ℕ → Due → Type 0
IsDueBy n due = due.place ≤ n

-- the dues are the changes behind the first items, in order of places, and so many changes are kept
pub record AreInOrder (dues : List Due) (chains : List ChainView) (kept : ℕ) : Type 0 where
  pub due : AreDue dues chains
  pub order : IsNonDecreasingBy (λ due. due.place) dues
  pub some : All (λ due. 0 < due.place) dues
  pub count : kept ≡ kept_in chains

-- no due is left, and the first one has a place past f, where there is one
abbrev pub IsPast : ℕ → List Due → List Due → Type 0
IsPast f [] left = left ≡ []
IsPast f (due ∷ dues) left = (left ≡ due ∷ dues) × (f < due.place)

-- the queue with a change of this place, where it is taken
abbrev pub with_due : ℕ → ℕ → List Due → Change → List Due
with_due n place dues c =
    if is_taken n c then dues ++ record { place = place; chain = number n c.analysis c.vertex } ∷ [] else dues

abbrev pub with_dues : ℕ → ℕ → List Due → List Change → List Due
with_dues n place dues changes = fold (with_due n place) dues changes

-- there are chains of vertex numbers below 2^32 alone
abbrev pub IsWithinSize : ℕ → List ChainView → Type 0
IsWithinSize n chains = length chains ≤ 4294967296 * n

-- what a table keeps, of n analyses
pub record IsSound (chains : List ChainView) (dues : List Due) (front kept n : ℕ) : Type 0 where
  pub ordered : AreInOrder dues chains kept
  pub past : All (IsDueBy front) dues
  pub ends : AllEndBy front chains
  pub size : IsWithinSize n chains
