-- What the table of a forest keeps where it grows.
use Rattle.std.proofs.Common.{◌≡◌, ℕ, zero, suc, ◌^◌, ◌<◌, List, [], ◌∷◌, ◌++◌, length, replicate, arith, refl, sym, subst, ap, ◌∙◌}
use Rattle.std.proofs.lemmas.List.{length-append, length-map, map-append}
use Rattle.std.proofs.lemmas.Option.{none-some}
use Rattle.ris_base.specs.Forest.{vertex_of}
use Rattle.ris_base.proofs.ListLemmas.{Contains-none, EachOnce-nil}
use Rattle.ris_forest.specs.Cells.{Cell, absent_cell, IsSound}
use Rattle.ris_forest.specs.Linking.{no_vertex, absent_node, node_at, first_of, cells_of, above_of, Chain, IsKept}
use Rattle.ris_forest.specs.Packing.{unpacked}
use Rattle.ris_forest.specs.declared.nodes.Node.{Node}
use Rattle.ris_forest.proofs.CellLemmas.{IsSound-none, IsSound-more}
use Rattle.ris_forest.proofs.ChainLemmas.{Chain-same}
use Rattle.ris_forest.proofs.LinkLemmas.{AreChildren-same}

-- nodes of absent vertices alone
node_at-absent : (n x : ℕ) → node_at (replicate n absent_node) x ≡ absent_node
node_at-absent zero x = refl
node_at-absent (suc n) zero = refl
node_at-absent (suc n) (suc x) = node_at-absent n x

-- a table with nodes of absent vertices at the end
node_at-more : (nodes : List Node) (n x : ℕ) → node_at (nodes ++ replicate n absent_node) x ≡ node_at nodes x
node_at-more [] n x = node_at-absent n x
node_at-more (m ∷ nodes) n zero = refl
node_at-more (m ∷ nodes) n (suc x) = node_at-more nodes n x

-- the cells of absent vertices
cells_of-absent : (n : ℕ) → cells_of (replicate n absent_node) ≡ replicate n absent_cell
cells_of-absent zero = refl
cells_of-absent (suc n) = ap (λ (l : List Cell). absent_cell ∷ l) (cells_of-absent n)

-- the cells of a table with more nodes
pub cells_of-more : (nodes : List Node) (n : ℕ) → cells_of (nodes ++ replicate n absent_node) ≡ cells_of nodes ++ replicate n absent_cell
cells_of-more nodes n = map-append (λ (m : Node). unpacked m.packed) nodes (replicate n absent_node) ∙ ap (λ (l : List Cell). cells_of nodes ++ l) (cells_of-absent n)

-- a table without nodes
pub IsKept-none : IsKept []
IsKept-none = record {
  sound = IsSound-none;
  linked = λ p. record {
    children = [];
    all = record { once = EachOnce-nil; each = λ c. (λ k. absurd (Contains-none c k), λ e. absurd (none-some p e)) };
    chain = refl;
  };
}

-- a table with more nodes
pub IsKept-more : (nodes : List Node) (n : ℕ) → IsKept nodes → length (nodes ++ replicate n absent_node) < 2 ^ 32 → IsKept (nodes ++ replicate n absent_node)
IsKept-more nodes n kept few =
    let same = node_at-more nodes n in
    let size = length-map (nodes ++ replicate n absent_node) (λ (m : Node). unpacked m.packed) in
    let cells = cells_of-more nodes n in
    let longer = length-append nodes (replicate n absent_node) in
    record {
      sound = subst IsSound (sym cells) (IsSound-more (cells_of nodes) n kept.sound (subst (λ (l : List Cell). length l < 2 ^ 32) cells (omega arith)));
      linked = λ p. (let h = kept.linked p in
          let above : (x : ℕ) → above_of (nodes ++ replicate n absent_node) x ≡ above_of nodes x = λ x. ap (λ (m : Node). vertex_of (unpacked m.packed).parent) (same x) in
          record {
            children = h.children;
            all = AreChildren-same (above_of nodes) (above_of (nodes ++ replicate n absent_node)) above p h.children h.all;
            chain = subst (λ y. Chain (nodes ++ replicate n absent_node) no_vertex y h.children) (sym (ap (λ (m : Node). m.links.first) (same p)))
                (Chain-same nodes (nodes ++ replicate n absent_node) no_vertex (first_of nodes p) h.children (omega arith)
                (λ x k. ap (λ (m : Node). m.links.next) (same x)) (λ x k. ap (λ (m : Node). m.links.previous) (same x)) h.chain);
          });
    }
