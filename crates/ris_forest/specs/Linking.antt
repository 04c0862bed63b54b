-- Nodes of a table with their children as links, and what their changes make of the table.
use Rattle.std.specs.Prelude.{◌≡◌, ◌↔◌, ℕ, ◌<◌, false, ◌==◌, if◌then◌else◌, List, [], ◌∷◌, ◌++◌, length, map, Option, Some, None, slice_index_or, slice_set}
use Rattle.std.specs.List.{Contains}
use Rattle.ris_base.specs.Forest.{vertex_of}
use Rattle.ris_base.specs.Graph.{EachOnce}
use Rattle.ris_forest.specs.Cells.{Cell, IsSound}
use Rattle.ris_forest.specs.Packing.{unpacked}
use Rattle.ris_forest.specs.declared.nodes.Node.{Node}
use Rattle.ris_forest.specs.declared.packing.Packed.{Packed}

-- the number that ends a list of links
abbrev pub no_vertex : ℕ
no_vertex = 4294967295

-- the node of a vertex that is absent and has no children
abbrev pub absent_node : Node
absent_node = record {
  packed = record { value = 18446744073709551615; weight = 0; vertex = 0; source = 0; target = 0; has_parent = false };
  links = record { first = no_vertex; next = no_vertex; previous = no_vertex };
}

-- the node of a vertex number
abbrev pub node_at : List Node → ℕ → Node
node_at nodes x = slice_index_or nodes x absent_node

-- the first child of a vertex number, and its next and previous sibling
abbrev pub first_of : List Node → ℕ → ℕ
first_of nodes x = (node_at nodes x).links.first

abbrev pub next_of : List Node → ℕ → ℕ
next_of nodes x = (node_at nodes x).links.next

abbrev pub previous_of : List Node → ℕ → ℕ
previous_of nodes x = (node_at nodes x).links.previous

-- the cells that nodes show
abbrev pub cells_of : List Node → List Cell
cells_of nodes = map (λ n. unpacked n.packed) nodes

-- the vertex of the parent of a vertex number, where there is one
abbrev pub above_of : List Node → ℕ → Option ℕ
above_of nodes x = vertex_of (unpacked (node_at nodes x).packed).parent

-- Changes

-- the table with another first child, next or previous sibling of a vertex number; past the end there is nothing to change
abbrev pub with_first : List Node → ℕ → ℕ → List Node
with_first nodes x to =
    let n = node_at nodes x in
    slice_set nodes x (record n { links = record n.links { first = to } })

abbrev pub with_next : List Node → ℕ → ℕ → List Node
with_next nodes x to =
    let n = node_at nodes x in
    slice_set nodes x (record n { links = record n.links { next = to } })

abbrev pub with_previous : List Node → ℕ → ℕ → List Node
with_previous nodes x to =
    let n = node_at nodes x in
    slice_set nodes x (record n { links = record n.links { previous = to } })

-- the table with another value and parent of a vertex number
abbrev pub with_packed : List Node → ℕ → Packed → List Node
with_packed nodes x p = slice_set nodes x (record (node_at nodes x) { packed = p })

-- the table in which the child c is taken out of the children of p
unfoldable pub unlinked : List Node → ℕ → ℕ → List Node
unlinked nodes p c =
    with_previous
    (if previous_of nodes c == no_vertex then with_first nodes p (next_of nodes c) else with_next nodes (previous_of nodes c) (next_of nodes c))
    (next_of nodes c) (previous_of nodes c)

-- the table in which c is put before the children of p
unfoldable pub linked : List Node → ℕ → ℕ → List Node
linked nodes p c =
    let head = first_of nodes p in
    with_first (with_previous (with_previous (with_next nodes c head) c no_vertex) head c) p c

-- Children as links

-- from a first number, behind a number, links lead through exactly these children and back
abbrev pub Chain : List Node → ℕ → ℕ → List ℕ → Type 0
Chain nodes before head [] = head ≡ no_vertex
Chain nodes before head (c ∷ children) =
    (head ≡ c) × (c < length nodes) × (previous_of nodes c ≡ before) × Chain nodes c (next_of nodes c) children

-- these are exactly the vertices whose parent's vertex is p, each once
pub record AreChildren (above : ℕ → Option ℕ) (p : ℕ) (children : List ℕ) : Type 0 where
  pub once : EachOnce children
  pub each : (c : ℕ) → Contains children c ↔ (above c ≡ Some p)

-- the links of p lead through exactly the vertices whose parent's vertex is p
pub record IsLinked (nodes : List Node) (above : ℕ → Option ℕ) (p : ℕ) : Type 0 where
  pub children : List ℕ
  pub all : AreChildren above p children
  pub chain : Chain nodes no_vertex (first_of nodes p) children

-- the links of each vertex number do
abbrev pub AreLinked : List Node → (ℕ → Option ℕ) → Type 0
AreLinked nodes above = (p : ℕ) → IsLinked nodes above p

-- c has no parent any more
abbrev pub without_above : (ℕ → Option ℕ) → ℕ → ℕ → Option ℕ
without_above above c x = if x == c then None else above x

-- a list of vertices grows by the children of p
pub record GrowsByChildren (nodes : List Node) (p : ℕ) (old new : List ℕ) : Type 0 where
  pub children : List ℕ
  pub all : AreChildren (above_of nodes) p children
  pub grown : new ≡ old ++ children

-- what the table of every forest keeps
pub record IsKept (nodes : List Node) : Type 0 where
  pub sound : IsSound (cells_of nodes)
  pub linked : AreLinked nodes (above_of nodes)
