-- What a net makes of the rows, forwards and back.
use Rattle.std.specs.Prelude.{◌≡◌, ◌≢◌, ℕ, ◌+◌, ◌<◌, ◌≤◌, Bool, false, not, ◌==◌, ◌&&◌, nat_lt, if◌then◌else◌, List, length, count_by}
use Rattle.std.specs.List.{All, AllPairs}
use Rattle.ris_rows.specs.Neighbours.{IsAscending, copies_of}
use Rattle.ris_rows.specs.RowView.{RowView, with_count}
use Rattle.ris_graph.specs.Tables.{HasRow}
use Rattle.ris_graph.specs.declared.nets.NetTriple.{NetTriple}

-- the copies that a triple of a net has before and after, where it is gone through forwards or back
abbrev pub count_from : Bool → NetTriple → ℕ
count_from forward t = if forward then t.before else t.after

abbrev pub count_to : Bool → NetTriple → ℕ
count_to forward t = if forward then t.after else t.before

-- whether a triple comes into the graph
abbrev pub comes_to : Bool → NetTriple → Bool
comes_to forward t = (count_from forward t == 0) && nat_lt 0 (count_to forward t)

-- the ends of a triple
abbrev pub source_of : NetTriple → ℕ
source_of t = t.triple.source

abbrev pub target_of : NetTriple → ℕ
target_of t = t.triple.target

-- whether a triple is the neighbour (e, w) of a, where a row stands at one end and leads to the other
abbrev pub is_at : (NetTriple → ℕ) → (NetTriple → ℕ) → ℕ → ℕ → ℕ → NetTriple → Bool
is_at place end a e w t = (a == place t) && (e == end t) && (w == t.triple.weight)

-- the rows with exactly k copies of (e, w) in the row at a
pub record IsPut (old new : ℕ → RowView) (a e w k : ℕ) : Type 0 where
  pub here : new a ≡ with_count (old a) e w k
  pub others : (x : ℕ) → x ≢ a → new x ≡ old x

-- a triple whose copies change has those that it ends with, and one whose copies stay leaves the rows as they were
pub record IsPutOnce (place end : NetTriple → ℕ) (forward : Bool) (old new : ℕ → RowView) (t : NetTriple) : Type 0 where
  pub changed : t.before ≢ t.after → IsPut old new (place t) (end t) t.triple.weight (count_to forward t)
  pub kept : t.before ≡ t.after → (a : ℕ) → new a ≡ old a

-- there is room for a triple in its row
abbrev pub HasPutRoom : (NetTriple → ℕ) → (NetTriple → ℕ) → Bool → (ℕ → RowView) → NetTriple → Type 0
HasPutRoom place end forward old t = copies_of (old (place t)).items (end t) t.triple.weight ≡ 0 → 1 ≤ count_to forward t → 1 ≤ (old (place t)).spare

-- each triple of the list has the copies that it ends with, all other neighbours have as many copies as before, and what comes
-- took room and what goes gave it back
pub record ArePut (place end : NetTriple → ℕ) (forward : Bool) (old new : ℕ → RowView) (done : List NetTriple) : Type 0 where
  pub ascending : (a : ℕ) → IsAscending (new a).items
  pub set : All (λ t. copies_of (new (place t)).items (end t) t.triple.weight ≡ count_to forward t) done
  pub rest : (a e w : ℕ) → All (λ t. is_at place end a e w t ≡ false) done → copies_of (new a).items e w ≡ copies_of (old a).items e w
  pub spare : (a : ℕ) → (new a).spare + count_by (λ t. (place t == a) && comes_to forward t) done
      ≡ (old a).spare + count_by (λ t. (place t == a) && comes_to (not forward) t) done

-- the rows have the copies that the triples begin with, each triple stands once, and there is room for those that come
pub record CanPut (place end : NetTriple → ℕ) (forward : Bool) (old : ℕ → RowView) (triples : List NetTriple) : Type 0 where
  pub ascending : (a : ℕ) → IsAscending (old a).items
  pub once : AllPairs (λ s t. is_at place end (place s) (end s) s.triple.weight t ≡ false) triples
  pub counts : All (λ t. copies_of (old (place t)).items (end t) t.triple.weight ≡ count_from forward t) triples
  pub room : (a : ℕ) → count_by (λ t. (place t == a) && comes_to forward t) triples ≤ (old a).spare

-- a triple whose copies change has its two rows
pub record HasRows (stripes : List (List RowView)) (ins : List RowView) (t : NetTriple) : Type 0 where
  pub out : t.before ≢ t.after → HasRow stripes t.triple.source
  pub into : t.before ≢ t.after → t.triple.target < length ins
