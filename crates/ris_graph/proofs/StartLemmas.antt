-- The graph that start begins with, and the triples that it adds.
use Rattle.std.proofs.Common.{◌≡◌, ℕ, ◌<◌, ◌≤◌, true, false, List, [], length, get_or, replicate, cond, arith, refl, inl, inr, ap, ◌∙◌}
use Rattle.std.specs.List.{All, Contains}
use Rattle.std.specs.List.Sorted.{IsPermutation}
use Rattle.std.proofs.lemmas.Bool.{cases_lt, both_ways}
use Rattle.std.proofs.lemmas.List.{get_or_past, get_or-replicate, length-replicate}
use Rattle.std.proofs.lemmas.List.Elements.{All-nil, All-contains, All-weaker}
use Rattle.std.proofs.lemmas.List.Sorted.{sum_by-IsPermutation}
use Rattle.ris_base.specs.Graph.{IsProperTriple, is_equal}
use Rattle.ris_base.specs.Limits.{vertex_limit, greatest_of}
use Rattle.ris_base.specs.Lists.{numbers_below}
use Rattle.ris_base.specs.declared.graphs.PlainGraph.{PlainGraph}
use Rattle.ris_base.specs.declared.graphs.Triple.{Triple}
use Rattle.ris_base.specs.declared.graphs.Format.{Format}
use Rattle.ris_base.proofs.NumbersBelow.{EachOnce-numbers_below, All-numbers_below, Contains-numbers_below}
use Rattle.ris_graph.specs.GraphView.{GraphView, no_row, row_at, IsOf}
use Rattle.ris_graph.specs.Sound.{IsSized}
use Rattle.ris_graph.specs.Tables.{row_of, HasRow}
use Rattle.ris_graph.proofs.GraphLemmas.{out_row-is, in_row-is, vertex_in-is}

-- the plain graph of the vertices below n and some triples
abbrev pub based : Format → ℕ → List Triple → PlainGraph
based format n triples = record { format = format; vertices = numbers_below n; triples = triples }

-- rows for so many vertices, all of which are present and none of which has a neighbour
pub record IsEdgeless (g : GraphView) (n : ℕ) : Type 0 where
  pub stripes : length g.stripes ≡ 64
  pub out_rows : (u : ℕ) → row_of g.stripes u ≡ no_row
  pub outs : (u : ℕ) → u < n → HasRow g.stripes u
  pub in_rows : (v : ℕ) → row_at g.ins v ≡ no_row
  pub ins : n ≤ length g.ins
  pub present : g.present ≡ replicate n true
  pub few : n ≤ vertex_limit

pub IsSized-edgeless : (g : GraphView) (n : ℕ) → IsEdgeless g n → IsSized g
IsSized-edgeless g n h =
    let size = ap length h.present ∙ length-replicate n true in
    let ins = h.ins in
    let few = h.few in
    record { stripes = h.stripes; outs = λ u lt. h.outs u (omega arith); ins = omega arith; few = omega arith }

numbers-below : (n x : ℕ) → Contains (numbers_below n) x → x < n
numbers-below n x has = All-contains (λ (y : ℕ). y < n) (numbers_below n) x (All-numbers_below n) has

below-limit : (n : ℕ) → n ≤ vertex_limit → All (λ x. x < vertex_limit) (numbers_below n)
below-limit n few = All-weaker (λ (x : ℕ). x < n) (λ x. x < vertex_limit) (λ x lt. (omega arith)) (numbers_below n) (All-numbers_below n)

there-below : (n x : ℕ) → get_or (replicate n true) x false ≡ true → x < n
there-below n x h =
    elim (cases_lt x n) [
      | inl lt ↦ lt
      | inr past ↦ absurd (both_ways (get_or (replicate n true) x false) (get_or_past (replicate n true) x false (omega (arith, length-replicate n true))) h)
    ]

pub IsOf-edgeless : (g : GraphView) (n : ℕ) → IsEdgeless g n → IsOf g (based g.format n [])
IsOf-edgeless g n h =
    let out = λ (u : ℕ). out_row-is g u ∙ h.out_rows u in
    let into = λ (v : ℕ). in_row-is g v ∙ h.in_rows v in
    record {
      format = refl;
      proper = record { once = EachOnce-numbers_below n; vertices = below-limit n h.few; triples = All-nil (IsProperTriple (based g.format n [])) };
      vertices = λ x. (
        λ there. Contains-numbers_below n x (there-below n x (rw (vertex_in-is g x, h.present) at there)),
        λ has. vertex_in-is g x ∙ rw h.present (get_or-replicate n x true false (numbers-below n x has)),
      );
      triples = λ t. rw (out t.source) refl;
      transposed = λ t. rw (into t.target) refl;
      outs = λ u. rw (out u) tt;
      ins = λ v. rw (into v) tt;
    }

-- the triples in another order are the same graph
pub IsOf-permuted : (g : GraphView) (format : Format) (n : ℕ) (ts us : List Triple) → IsPermutation ts us → IsOf g (based format n us) → All (IsProperTriple (based format n ts)) ts
    → IsOf g (based format n ts)
IsOf-permuted g format n ts us moved of proper =
    let same = λ (t : Triple). sum_by-IsPermutation (λ s. cond (is_equal t s) 1 0) ts us moved in
    record {
      format = of.format;
      proper = record { once = of.proper.once; vertices = of.proper.vertices; triples = proper };
      vertices = of.vertices;
      triples = λ t. of.triples t ∙ same t;
      transposed = λ t. of.transposed t ∙ same t;
      outs = of.outs;
      ins = of.ins;
    }

-- triples between the vertices below n, within the limit
pub proper-based : (format : Format) (n : ℕ) (ts us : List Triple) → All (λ t. (t.source < n) × (t.target < n)) ts → All (λ t. t.weight ≤ greatest_of format) ts
    → All (IsProperTriple (based format n us)) ts
proper-based format n ts us ends weights k d lt = record {
  source = Contains-numbers_below n (get_or ts k d).source (ends k d lt).0;
  target = Contains-numbers_below n (get_or ts k d).target (ends k d lt).1;
  weight = weights k d lt;
}
