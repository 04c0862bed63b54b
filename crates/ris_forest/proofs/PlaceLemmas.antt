-- What it makes of a table to give a vertex another value and parent.
use Rattle.std.proofs.Common.{◌≡◌, ℕ, ◌<◌, ◌≤◌, ◌==◌, if◌then◌else◌, inl, inr, List, length, set, Some, None, arith, refl, sym, ap, ◌∙◌}
use Rattle.std.proofs.lemmas.Bool.{cases_eq, eq-eqb, ne_eqb}
use Rattle.std.proofs.lemmas.List.{length-set, map-set}
use Rattle.ris_base.specs.Forest.{vertex_of}
use Rattle.ris_forest.specs.Cells.{Cell, cell_at}
use Rattle.ris_forest.specs.Linking.{no_vertex, node_at, cells_of, above_of, without_above, with_packed, linked, AreLinked}
use Rattle.ris_forest.specs.Packing.{unpacked}
use Rattle.ris_forest.specs.declared.nodes.Node.{Node}
use Rattle.ris_forest.specs.declared.packing.Packed.{Packed}
use Rattle.ris_forest.proofs.LinkLemmas.{with_above, AreLinked-linked, AreLinked-with_packed, AreLinked-same}
use Rattle.ris_forest.proofs.TableLemmas.{read-set, read-set_apart, cell_at-cells_of, cells_of-linked}

-- the parents are those of the cells
pub above_of-cells : (nodes : List Node) (x : ℕ) → above_of nodes x ≡ vertex_of (cell_at (cells_of nodes) x).parent
above_of-cells nodes x = ap (λ (c : Cell). vertex_of c.parent) (sym (cell_at-cells_of nodes x))

-- so tables with equal cells have equal parents
pub above_of-same : (nodes others : List Node) → cells_of others ≡ cells_of nodes → (x : ℕ) → above_of others x ≡ above_of nodes x
above_of-same nodes others same x = above_of-cells others x ∙ ap (λ (l : List Cell). vertex_of (cell_at l x).parent) same ∙ sym (above_of-cells nodes x)

-- The table `mid`, in which v was taken out of the children of its parent, with another value and parent of v

module _ (nodes mid : List Node) (v : ℕ) (p : Packed) (few : length mid ≤ no_vertex) (within : v < length mid)
    (same : cells_of mid ≡ cells_of nodes) (detached : AreLinked mid (without_above (above_of nodes) v)) where
  -- the parents
  above_of-packed : (x : ℕ) → above_of (with_packed mid v p) x ≡ (if x == v then vertex_of (unpacked p).parent else above_of nodes x)
  above_of-packed x = elim (cases_eq x v) [
    | inl at ↦ (let t = eq-eqb x v at in let same_x : x < length mid = omega arith in
        read-set (λ n. vertex_of (unpacked n.packed).parent) mid v x _ same_x ∙ rw t refl)
    | inr apart ↦ (let u = ne_eqb x v apart in
        read-set_apart (λ n. vertex_of (unpacked n.packed).parent) mid v x _ apart ∙ above_of-same nodes mid same x ∙ rw u refl)
  ]

  -- the cells
  pub cells_of-packed : (c : Cell) → unpacked p ≡ c → cells_of (with_packed mid v p) ≡ set (cells_of nodes) v c
  cells_of-packed c is =
      map-set (λ (n : Node). unpacked n.packed) mid v _ ∙ ap (λ (l : List Cell). set l v (unpacked p)) same ∙ ap (λ (d : Cell). set (cells_of nodes) v d) is

  -- the links of a vertex without a parent
  pub AreLinked-root : vertex_of (unpacked p).parent ≡ None → AreLinked (with_packed mid v p) (above_of (with_packed mid v p))
  AreLinked-root none =
      AreLinked-same (with_packed mid v p) (without_above (above_of nodes) v) (above_of (with_packed mid v p))
      (λ x. above_of-packed x ∙ ap (λ o. if x == v then o else above_of nodes x) none)
      (AreLinked-with_packed mid (without_above (above_of nodes) v) few detached v p)

  -- the links of a vertex with a parent
  pub AreLinked-child : (q : ℕ) → q < length mid → vertex_of (unpacked p).parent ≡ Some q
      → AreLinked (linked (with_packed mid v p) q v) (above_of (linked (with_packed mid v p) q v))
  AreLinked-child q inside some =
      let size = length-set mid v (record (node_at mid v) { packed = p }) in
      let t = eq-eqb v v refl in
      let before = AreLinked-with_packed mid (without_above (above_of nodes) v) few detached v p in
      AreLinked-same (linked (with_packed mid v p) q v) (with_above (without_above (above_of nodes) v) v q) (above_of (linked (with_packed mid v p) q v))
      (λ x. above_of-same (with_packed mid v p) (linked (with_packed mid v p) q v) (cells_of-linked (with_packed mid v p) q v) x ∙ above_of-packed x
      ∙ elim (cases_eq x v) [ inl at ↦ (let t' = eq-eqb x v at in rw t' some) | inr apart ↦ (let u = ne_eqb x v apart in rw u refl) ])
      (AreLinked-linked (with_packed mid v p) (without_above (above_of nodes) v) (omega arith) before q v (omega arith) (omega arith) (rw t refl))
