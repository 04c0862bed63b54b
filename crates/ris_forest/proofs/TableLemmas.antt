-- What a table of nodes reads after changes of its links.
use Rattle.std.proofs.Common.{◌≡◌, ◌≢◌, ℕ, zero, suc, ◌<◌, ◌≤◌, ◌==◌, if◌then◌else◌, List, [], ◌∷◌, length, set, arith, refl, inl, inr, sym, ap, ◌∙◌}
use Rattle.std.proofs.lemmas.Bool.{cases_Bool, cases_eq, cases_lt, eq-eqb, ne_eqb, eqb-true}
use Rattle.std.proofs.lemmas.Grind.{get_or-set_at}
use Rattle.std.proofs.lemmas.List.{length-set, get_or-set_other, set_past, map-set, set-get_or}
use Rattle.ris_forest.specs.Cells.{Cell, absent_cell, cell_at}
use Rattle.ris_forest.specs.Linking.{no_vertex, absent_node, node_at, first_of, next_of, previous_of, cells_of, with_first, with_next, with_previous, unlinked, linked}
use Rattle.ris_forest.specs.Packing.{unpacked}
use Rattle.ris_forest.specs.declared.nodes.Links.{Links}
use Rattle.ris_forest.specs.declared.nodes.Node.{Node}

-- One node set

-- what is read of a vertex number of the table
pub read-set : {B : Type 0} (f : Node → B) (nodes : List Node) (i j : ℕ) (n : Node) → j < length nodes
    → f (node_at (set nodes i n) j) ≡ (if j == i then f n else f (node_at nodes j))
read-set f nodes i j n within =
    elim (cases_eq j i) [
      | inl same ↦ (let t = eq-eqb j i same in rw t (ap f (get_or-set_at nodes i j n absent_node same (omega arith))))
      | inr other ↦ (let t = ne_eqb j i other in rw t (ap f (get_or-set_other nodes i j n absent_node other)))
    ]

-- what the new node has in common with the old one is read as before
pub read-set_same : {B : Type 0} (f : Node → B) (nodes : List Node) (i j : ℕ) (n : Node) → f n ≡ f (node_at nodes i)
    → f (node_at (set nodes i n) j) ≡ f (node_at nodes j)
read-set_same f nodes i j n h =
    elim (cases_lt i (length nodes)) [
      | inl within ↦ elim (cases_eq j i) [
        | inl same ↦ ap f (get_or-set_at nodes i j n absent_node same within) ∙ h ∙ ap (λ k. f (node_at nodes k)) (sym same)
        | inr other ↦ ap f (get_or-set_other nodes i j n absent_node other)
      ]
      | inr past ↦ ap (λ (l : List Node). f (node_at l j)) (set_past nodes i n past)
    ]

-- and so is every other node
pub read-set_apart : {B : Type 0} (f : Node → B) (nodes : List Node) (i j : ℕ) (n : Node) → j ≢ i → f (node_at (set nodes i n) j) ≡ f (node_at nodes j)
read-set_apart f nodes i j n apart = ap f (get_or-set_other nodes i j n absent_node apart)

-- the cell of a vertex number is that of its node
pub cell_at-cells_of : (nodes : List Node) (x : ℕ) → cell_at (cells_of nodes) x ≡ unpacked (node_at nodes x).packed
cell_at-cells_of [] x = refl
cell_at-cells_of (n ∷ ns) zero = refl
cell_at-cells_of (n ∷ ns) (suc x) = cell_at-cells_of ns x

-- a node with the value and the parent of the old one leaves the cells
pub cells_of-set : (nodes : List Node) (i : ℕ) (n : Node) → unpacked n.packed ≡ unpacked (node_at nodes i).packed → cells_of (set nodes i n) ≡ cells_of nodes
cells_of-set nodes i n h =
    map-set (λ (m : Node). unpacked m.packed) nodes i n ∙ ap (λ (c : Cell). set (cells_of nodes) i c) (h ∙ sym (cell_at-cells_of nodes i))
    ∙ set-get_or (cells_of nodes) i absent_cell

-- A child taken out

module _ (nodes : List Node) (p c : ℕ) where
  -- the table behind the first of the two changes
  abbrev half : List Node
  half = if previous_of nodes c == no_vertex then with_first nodes p (next_of nodes c) else with_next nodes (previous_of nodes c) (next_of nodes c)

  -- it has as many nodes
  length-half : length half ≡ length nodes
  length-half = elim (cases_Bool (previous_of nodes c == no_vertex)) [ inl t ↦ rw t (length-set nodes _ _) | inr u ↦ rw u (length-set nodes _ _) ]

  -- the number of nodes stays
  pub length-unlinked : length (unlinked nodes p c) ≡ length nodes
  unfolding unlinked
  length-unlinked = length-set half _ _ ∙ length-half

  -- the values and parents stay
  pub cells_of-unlinked : cells_of (unlinked nodes p c) ≡ cells_of nodes
  unfolding unlinked
  cells_of-unlinked =
      cells_of-set half _ _ refl
      ∙ elim (cases_Bool (previous_of nodes c == no_vertex)) [ inl t ↦ rw t (cells_of-set nodes _ _ refl) | inr u ↦ rw u (cells_of-set nodes _ _ refl) ]

  -- the sibling before the child leads to the one behind it
  pub next_of-unlinked : (j : ℕ) → length nodes ≤ no_vertex → j < length nodes
      → next_of (unlinked nodes p c) j ≡ (if j == previous_of nodes c then next_of nodes c else next_of nodes j)
  unfolding unlinked
  next_of-unlinked j few within =
      read-set_same (λ n. n.links.next) half (next_of nodes c) j _ refl
      ∙ elim (cases_Bool (previous_of nodes c == no_vertex)) [
        | inl t ↦ (let none = eqb-true (previous_of nodes c) no_vertex t in
            let other = ne_eqb j (previous_of nodes c) (λ e. absurd (omega arith)) in
            rw (t, other) (read-set_same (λ n. n.links.next) nodes p j _ refl))
        | inr u ↦ rw u (read-set (λ n. n.links.next) nodes (previous_of nodes c) j _ within)
      ]

  -- and the other way round
  pub previous_of-unlinked : (j : ℕ) → j < length nodes
      → previous_of (unlinked nodes p c) j ≡ (if j == next_of nodes c then previous_of nodes c else previous_of nodes j)
  unfolding unlinked
  previous_of-unlinked j within =
      let size = length-half in
      read-set (λ n. n.links.previous) half (next_of nodes c) j _ (omega arith)
      ∙ ap (λ v. if j == next_of nodes c then previous_of nodes c else v)
      (elim (cases_Bool (previous_of nodes c == no_vertex)) [
        | inl t ↦ rw t (read-set_same (λ n. n.links.previous) nodes p j _ refl)
        | inr u ↦ rw u (read-set_same (λ n. n.links.previous) nodes (previous_of nodes c) j _ refl)
      ])

  -- where the child was the first one, the next one is
  pub first_of-unlinked : (j : ℕ) → j < length nodes
      → first_of (unlinked nodes p c) j ≡ (if previous_of nodes c == no_vertex then if j == p then next_of nodes c else first_of nodes j else first_of nodes j)
  unfolding unlinked
  first_of-unlinked j within =
      read-set_same (λ n. n.links.first) half (next_of nodes c) j _ refl
      ∙ elim (cases_Bool (previous_of nodes c == no_vertex)) [
        | inl t ↦ rw t (read-set (λ n. n.links.first) nodes p j _ within)
        | inr u ↦ rw u (read-set_same (λ n. n.links.first) nodes (previous_of nodes c) j _ refl)
      ]

-- the first children of all but the parent stay
pub first_of-unlinked_apart : (nodes : List Node) (p c q : ℕ) → q ≢ p → first_of (unlinked nodes p c) q ≡ first_of nodes q
unfolding unlinked
first_of-unlinked_apart nodes p c q apart =
    read-set_same (λ n. n.links.first) (half nodes p c) (next_of nodes c) q _ refl
    ∙ elim (cases_Bool (previous_of nodes c == no_vertex)) [
      | inl t ↦ rw t (read-set_apart (λ n. n.links.first) nodes p q _ apart)
      | inr u ↦ rw u (read-set_same (λ n. n.links.first) nodes (previous_of nodes c) q _ refl)
    ]

-- what the changes make, where the child is the first one
pub unlinked-first : (nodes new half : List Node) (p c : ℕ) (l : Links) → l ≡ (node_at nodes c).links → l.previous ≡ no_vertex
    → half ≡ with_first nodes p l.next → new ≡ with_previous half l.next l.previous → new ≡ unlinked nodes p c
unfolding unlinked
unlinked-first nodes new half p c l is none h e =
    let t = eq-eqb (previous_of nodes c) no_vertex (ap (λ (k : Links). k.previous) (sym is) ∙ none) in
    rw t (e ∙ ap (λ (s : List Node). with_previous s l.next l.previous) h ∙ ap (λ (k : Links). with_previous (with_first nodes p k.next) k.next k.previous) is)

-- and where it is a later one
pub unlinked-later : (nodes new half : List Node) (p c : ℕ) (l : Links) → l ≡ (node_at nodes c).links → l.previous ≢ no_vertex
    → half ≡ with_next nodes l.previous l.next → new ≡ with_previous half l.next l.previous → new ≡ unlinked nodes p c
unfolding unlinked
unlinked-later nodes new half p c l is some h e =
    let u = ne_eqb (previous_of nodes c) no_vertex (λ q. some (ap (λ (k : Links). k.previous) is ∙ q)) in
    rw u (e ∙ ap (λ (s : List Node). with_previous s l.next l.previous) h ∙ ap (λ (k : Links). with_previous (with_next nodes k.previous k.next) k.next k.previous) is)

-- A child put in front

module _ (nodes : List Node) (p c : ℕ) where
  -- the tables behind the first three of the four changes
  abbrev one : List Node
  one = with_next nodes c (first_of nodes p)

  abbrev two : List Node
  two = with_previous one c no_vertex

  abbrev three : List Node
  three = with_previous two (first_of nodes p) c

  -- they have as many nodes
  length-two : length two ≡ length nodes
  length-two = length-set one _ _ ∙ length-set nodes _ _

  -- and so has the third one
  length-three : length three ≡ length nodes
  length-three = length-set two _ _ ∙ length-two

  -- the number of nodes stays
  pub length-linked : length (linked nodes p c) ≡ length nodes
  unfolding linked
  length-linked = length-set three _ _ ∙ length-three

  -- the values and parents stay
  pub cells_of-linked : cells_of (linked nodes p c) ≡ cells_of nodes
  unfolding linked
  cells_of-linked = cells_of-set three _ _ refl ∙ cells_of-set two _ _ refl ∙ cells_of-set one _ _ refl ∙ cells_of-set nodes _ _ refl

  -- the child leads to the one that was the first
  pub next_of-linked : (j : ℕ) → j < length nodes → next_of (linked nodes p c) j ≡ (if j == c then first_of nodes p else next_of nodes j)
  unfolding linked
  next_of-linked j within =
      read-set_same (λ n. n.links.next) three p j _ refl ∙ read-set_same (λ n. n.links.next) two (first_of nodes p) j _ refl
      ∙ read-set_same (λ n. n.links.next) one c j _ refl ∙ read-set (λ n. n.links.next) nodes c j _ within

  -- which leads back to it, and there is none before the child
  pub previous_of-linked : (j : ℕ) → j < length nodes
      → previous_of (linked nodes p c) j ≡ (if j == first_of nodes p then c else if j == c then no_vertex else previous_of nodes j)
  unfolding linked
  previous_of-linked j within =
      let size = length-two in
      let first_two : previous_of two j ≡ (if j == c then no_vertex else previous_of nodes j) =
      read-set (λ n. n.links.previous) one c j _ (simp length-set within)
      ∙ ap (λ v. if j == c then no_vertex else v) (read-set_same (λ n. n.links.previous) nodes c j _ refl) in
      read-set_same (λ n. n.links.previous) three p j _ refl
      ∙ read-set (λ n. n.links.previous) two (first_of nodes p) j _ (omega arith)
      ∙ ap (λ v. if j == first_of nodes p then c else v) first_two

  -- the child is the first one
  pub first_of-linked : (j : ℕ) → j < length nodes → first_of (linked nodes p c) j ≡ (if j == p then c else first_of nodes j)
  unfolding linked
  first_of-linked j within =
      let size = length-three in
      read-set (λ n. n.links.first) three p j _ (omega arith)
      ∙ ap (λ v. if j == p then c else v)
      (read-set_same (λ n. n.links.first) two (first_of nodes p) j _ refl ∙ read-set_same (λ n. n.links.first) one c j _ refl
      ∙ read-set_same (λ n. n.links.first) nodes c j _ refl)

-- the first children of all but the parent stay
pub first_of-linked_apart : (nodes : List Node) (p c q : ℕ) → q ≢ p → first_of (linked nodes p c) q ≡ first_of nodes q
unfolding linked
first_of-linked_apart nodes p c q apart =
    read-set_apart (λ n. n.links.first) (three nodes p c) p q _ apart ∙ read-set_same (λ n. n.links.first) (two nodes p c) (first_of nodes p) q _ refl
    ∙ read-set_same (λ n. n.links.first) (one nodes p c) c q _ refl ∙ read-set_same (λ n. n.links.first) nodes c q _ refl

-- what the changes make
pub linked-from : (nodes a b d new : List Node) (p c head : ℕ) → head ≡ first_of nodes p → a ≡ with_next nodes c head → b ≡ with_previous a c no_vertex
    → d ≡ with_previous b head c → new ≡ with_first d p c → new ≡ linked nodes p c
unfolding linked
linked-from nodes a b d new p c head is is_a is_b is_d e =
    e ∙ ap (λ (s : List Node). with_first s p c) is_d ∙ ap (λ (s : List Node). with_first (with_previous s head c) p c) is_b
    ∙ ap (λ (s : List Node). with_first (with_previous (with_previous s c no_vertex) head c) p c) is_a
    ∙ ap (λ h. with_first (with_previous (with_previous (with_next nodes c h) c no_vertex) h c) p c) is
