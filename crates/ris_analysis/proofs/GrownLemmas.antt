-- Forests that get more room.
use Rattle.std.proofs.Common.{◌≡◌, ℕ, zero, suc, ◌+◌, ◌<◌, ◌≤◌, List, [], ◌∷◌, ◌++◌, length, get_or, set, take, replicate, arith, sym, subst, ap, ◌∙◌, append_assoc}
use Rattle.std.proofs.lemmas.List.{replicate-append-replicate, append-nil, take-append-le, take_all}
use Rattle.ris_base.specs.Limits.{vertex_limit}
use Rattle.ris_base.specs.declared.graphs.Format.{Format}
use Rattle.ris_base.specs.declared.graphs.PlainGraph.{PlainGraph}
use Rattle.std.specs.Prelude.{IsTrue}
use Rattle.std.proofs.Common.{inl, inr}
use Rattle.std.proofs.lemmas.Bool.{cases_lt}
use Rattle.std.proofs.lemmas.List.Elements.{All-contains}
use Rattle.ris_forest.specs.Cells.{Cell, absent_cell, forest_of}
use Rattle.ris_forest.proofs.CellLemmas.{forest_of-more}
use Rattle.ris_graph.specs.GraphView.{GraphView, vertex_in, IsOf}
use Rattle.ris_analysis.specs.AnyForest.{spec_of, suits_of, cells_of, forest_in, with_cells, IsGrownOne}
use Rattle.ris_analysis.specs.Analyses.{specs_of, forests_of, AllSuit, IsGrown}
use Rattle.ris_analysis.specs.declared.kinds.AnyForest.{AnyForest}
use Rattle.ris_analysis.proofs.KindLemmas.{cells_of-with_cells, with_cells-with_cells, with_cells-own, spec_of-with_cells, suits_of-with_cells}
use Rattle.ris_analysis.proofs.PairLemmas.{map-same, All-along}

-- One forest

-- no more room
IsGrownOne-none : (one : AnyForest) → IsGrownOne one one
IsGrownOne-none one = record { more = 0; is = sym (ap (with_cells one) (append-nil (cells_of one)) ∙ with_cells-own one) }

-- more room, and then more
IsGrownOne-more : (one two three : AnyForest) → IsGrownOne one two → IsGrownOne two three → IsGrownOne one three
IsGrownOne-more one two three a b =
    let first = cells_of one ++ replicate a.more absent_cell in
    record {
      more = a.more + b.more;
      is = b.is
          ∙ ap (λ (o : AnyForest). with_cells o (cells_of o ++ replicate b.more absent_cell)) a.is
          ∙ with_cells-with_cells one first (cells_of (with_cells one first) ++ replicate b.more absent_cell)
          ∙ ap (λ (cs : List Cell). with_cells one (cs ++ replicate b.more absent_cell)) (cells_of-with_cells one first)
          ∙ ap (with_cells one) (append_assoc (cells_of one) (replicate a.more absent_cell) (replicate b.more absent_cell)
          ∙ ap (λ (cs : List Cell). cells_of one ++ cs) (replicate-append-replicate a.more b.more absent_cell));
    }

-- it is the same forest
pub forest_in-grown : (one two : AnyForest) → IsGrownOne one two → forest_in two ≡ forest_in one
forest_in-grown one two a =
    ap forest_in a.is ∙ ap forest_of (cells_of-with_cells one (cells_of one ++ replicate a.more absent_cell)) ∙ forest_of-more (cells_of one) a.more

pub spec_of-grown : (one two : AnyForest) → IsGrownOne one two → spec_of two ≡ spec_of one
spec_of-grown one two a = ap spec_of a.is ∙ spec_of-with_cells one (cells_of one ++ replicate a.more absent_cell)

pub suits_of-grown : (format : Format) (one two : AnyForest) → IsGrownOne one two → suits_of one format → suits_of two format
suits_of-grown format one two a suits =
    subst (λ (o : AnyForest). suits_of o format) (sym a.is) (suits_of-with_cells one (cells_of one ++ replicate a.more absent_cell) format suits)

-- All forests

pub IsGrown-none : (ones : List AnyForest) → IsGrown ones ones
IsGrown-none [] = tt
IsGrown-none (one ∷ ones) = (IsGrownOne-none one, IsGrown-none ones)

-- one of them gets more room
pub IsGrown-set : (old mid : List AnyForest) (k : ℕ) (d new : AnyForest) → k < length mid → IsGrown old mid → IsGrownOne (get_or mid k d) new
    → IsGrown old (set mid k new)
IsGrown-set [] [] k d new less h one = absurd (omega arith)
IsGrown-set [] (b ∷ mid) k d new less h one = absurd h
IsGrown-set (a ∷ old) [] k d new less h one = absurd h
IsGrown-set (a ∷ old) (b ∷ mid) zero d new less h one = (IsGrownOne-more a b new h.0 one, h.1)
IsGrown-set (a ∷ old) (b ∷ mid) (suc k) d new less h one = (h.0, IsGrown-set old mid k d new (omega arith) h.1 one)

-- what was all of a list is so where its length is taken from a longer one
pub IsGrown-whole : (ones old new rest : List AnyForest) (n : ℕ) → n ≡ length new → old ≡ ones → IsGrown old new → IsGrown ones (take n (new ++ rest))
IsGrown-whole ones old new rest n size same grown =
    subst (IsGrown ones) (sym (take-append-le n new rest (omega arith) ∙ take_all n new (omega arith))) (subst (λ (l : List AnyForest). IsGrown l new) same grown)

-- they are the same forests
pub forests_of-grown : (old new : List AnyForest) → IsGrown old new → forests_of new ≡ forests_of old
forests_of-grown old new grown = map-same forest_in forest_in IsGrownOne forest_in-grown old new grown

pub specs_of-grown : (old new : List AnyForest) → IsGrown old new → specs_of new ≡ specs_of old
specs_of-grown old new grown = map-same spec_of spec_of IsGrownOne spec_of-grown old new grown

pub AllSuit-grown : (old new : List AnyForest) (format : Format) → IsGrown old new → AllSuit old format → AllSuit new format
AllSuit-grown old new format grown all =
    All-along (λ (one : AnyForest). suits_of one format) (λ (one : AnyForest). suits_of one format) IsGrownOne (suits_of-grown format) old new grown all

-- The vertices of a graph

-- where no vertex number from some on is present, the vertices are below it
pub vertices_below : (graph : GraphView) (p : PlainGraph) (size : ℕ) → IsOf graph p → ((x : ℕ) → size ≤ x → x < vertex_limit → ¬ (IsTrue (vertex_in graph x)))
    → (x : ℕ) → IsTrue (vertex_in graph x) → x < size
vertices_below graph p size of none x there =
    let within : x < vertex_limit = All-contains (λ (y : ℕ). y < vertex_limit) p.vertices x of.proper.vertices ((of.vertices x).0 there) in
    elim (cases_lt x size) [ inl low ↦ low | inr high ↦ absurd (none x high within there) ]
