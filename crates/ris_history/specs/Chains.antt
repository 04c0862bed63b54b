-- Chains of what was held of one vertex by one analysis, and the list of all chains.
use Rattle.std.specs.Prelude.{ℕ, ◌+◌, ◌-◌, ◌*◌, max, Bool, false, ◌&&◌, ◌==◌, nat_lt, nat_le, if◌then◌else◌, List, [], ◌∷◌, ◌++◌, length, fold, replicate, slice_set, slice_index_or, sum_by}
use Rattle.std.specs.List.{list_any}
use Rattle.ris_base.specs.Limits.{vertex_limit}
use Rattle.ris_base.specs.declared.analyses.Value.{Value}
use Rattle.ris_base.specs.declared.analyses.Value.TheVariants.{Absent}
use Rattle.ris_base.specs.declared.forests.ForestRow.{ForestRow}
use Rattle.ris_base.specs.declared.forests.Parent.{Parent}
use Rattle.ris_base.specs.declared.forests.Parent.TheVariants as parent
use Rattle.ris_base.specs.declared.records.Change.{Change}

-- a value and a parent of a vertex, and the place from which they hold
pub record HeldView : Type 0 where
  pub place : ℕ
  pub value : Value
  pub parent : Parent

-- a chain: what held first, and the changes after it, in order
pub record ChainView : Type 0 where
  pub first : HeldView
  pub later : List HeldView

-- the chain of a vertex of which nothing was said: it is absent
abbrev pub no_chain : ChainView
no_chain = record { first = record { place = 0; value = Absent; parent = parent.None }; later = [] }

-- what holds at place v: the last item of a place up to v, or the first one
abbrev pub latest : ChainView → ℕ → HeldView
latest c v = fold (λ held next. if nat_le next.place v then next else held) c.first c.later

-- a chain with one change more
abbrev pub pushed : HeldView → ChainView → ChainView
pushed held c = record c { later = c.later ++ held ∷ [] }

-- a chain without its first item, where there is a change behind it
abbrev pub advanced_from : HeldView → List HeldView → ChainView
advanced_from first [] = record { first = first; later = [] }
advanced_from first (next ∷ later) = record { first = next; later = later }

abbrev pub advanced : ChainView → ChainView
advanced c = advanced_from c.first c.later

-- whether the item that goes then is a change, and not what there was at place 0
abbrev pub drops_from : HeldView → List HeldView → Bool
drops_from first [] = false
drops_from first (next ∷ later) = nat_lt 0 first.place

abbrev pub drops : ChainView → Bool
drops c = drops_from c.first c.later

-- whether some item has a place up to f
abbrev pub any_up_to : ℕ → List HeldView → Bool
any_up_to f items = list_any (λ held. nat_le held.place f) items

-- a chain without the items that no place from f on needs: an item goes where a later one has a place up to f
abbrev pub trimmed_from : ℕ → HeldView → List HeldView → ChainView
trimmed_from f first [] = record { first = first; later = [] }
trimmed_from f first (next ∷ later) =
    if any_up_to f (next ∷ later) then trimmed_from f next later else record { first = first; later = next ∷ later }

abbrev pub trimmed : ℕ → ChainView → ChainView
trimmed f c = trimmed_from f c.first c.later

-- how many changes a chain keeps: its first item is one where it isn't of place 0
abbrev pub kept_of : ChainView → ℕ
kept_of c = length c.later + (if c.first.place == 0 then 0 else 1)

-- Lists of chains

-- the number of the chain of the vertex x by the analysis a, among those of n analyses
abbrev pub number : ℕ → ℕ → ℕ → ℕ
number n a x = x * n + a

-- the chain of this number
abbrev pub chain_at : List ChainView → ℕ → ChainView
chain_at chains k = slice_index_or chains k no_chain

-- at least m chains
abbrev pub grown : ℕ → List ChainView → List ChainView
grown m chains = chains ++ replicate (m - length chains) no_chain

-- what a row of a forest of place 0 says of its vertex
abbrev pub row_held : ForestRow → HeldView
row_held row = record { place = 0; value = row.value; parent = row.parent }

-- what a change says from a place on
abbrev pub change_held : ℕ → Change → HeldView
change_held place c = record { place = place; value = c.value; parent = c.parent }

-- the chains where chain number k begins with this item
abbrev pub with_first : ℕ → HeldView → List ChainView → List ChainView
with_first k held chains = slice_set (grown (k + 1) chains) k (record { first = held; later = [] })

-- the chains where those of the analysis a begin with the rows of its forest; the first row of a vertex counts
abbrev pub with_rows : ℕ → ℕ → List ForestRow → List ChainView → List ChainView
with_rows n a [] chains = chains
with_rows n a (row ∷ rows) chains = with_first (number n a row.vertex) (row_held row) (with_rows n a rows chains)

-- the chains of n analyses, those from number a on with these forests
abbrev pub with_forests : ℕ → ℕ → List (List ForestRow) → List ChainView → List ChainView
with_forests n a [] chains = chains
with_forests n a (rows ∷ forests) chains = with_forests n (a + 1) forests (with_rows n a rows chains)

-- whether a change is taken: it names one of n analyses, and a vertex number within the limit
abbrev pub is_taken : ℕ → Change → Bool
is_taken n c = nat_lt c.analysis n && nat_lt c.vertex vertex_limit

-- how many chains the changes need
abbrev pub needed : ℕ → ℕ → Change → ℕ
needed n m c = if is_taken n c then max m (number n c.analysis c.vertex + 1) else m

abbrev pub bound_of : ℕ → List Change → ℕ
bound_of n changes = fold (needed n) 0 changes

-- the chains with one item more in chain number k
abbrev pub appended : ℕ → HeldView → List ChainView → List ChainView
appended k held chains = slice_set chains k (pushed held (chain_at chains k))

-- the chains with a change of this place, where it is taken
abbrev pub with_change : ℕ → ℕ → List ChainView → Change → List ChainView
with_change n place chains c =
    if is_taken n c then appended (number n c.analysis c.vertex) (change_held place c) chains else chains

abbrev pub with_changes : ℕ → ℕ → List ChainView → List Change → List ChainView
with_changes n place chains changes = fold (with_change n place) chains changes

-- how many changes the chains keep
abbrev pub kept_in : List ChainView → ℕ
kept_in chains = sum_by kept_of chains
