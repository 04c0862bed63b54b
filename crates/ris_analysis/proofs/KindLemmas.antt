-- What room, rows and a start make of the forest of an analysis of any kind.
use Rattle.std.proofs.Common.{◌≡◌, ℕ, List, ◌++◌, length, replicate, refl, sym, subst, ap, ◌∙◌}
use Rattle.ris_base.specs.Forest.{IsForest}
use Rattle.ris_base.specs.declared.analyses.Kind.{Kind}
use Rattle.ris_base.specs.declared.analyses.Spec.{Spec}
use Rattle.ris_base.specs.declared.graphs.Format.{Format}
use Rattle.ris_base.specs.declared.graphs.PlainGraph.{PlainGraph}
use Rattle.ris_forest.specs.Cells.{Cell, ForestView, absent_cell, forest_of}
use Rattle.ris_graph.specs.GraphView.{GraphView, IsOf}
use Rattle.ris_analysis.specs.AnyForest.{spec_of, suits_of, cells_of, with_cells, IsGrownOne, IsStarted}
use Rattle.ris_analysis.specs.declared.kinds.AnyForest.{AnyForest}
use Rattle.ris_analysis.specs.declared.kinds.AnyForest.TheVariants as any

-- Other cells

pub cells_of-with_cells : (one : AnyForest) (cells : List Cell) → cells_of (with_cells one cells) ≡ cells
cells_of-with_cells (any.Bfs f) cells = refl
cells_of-with_cells (any.Sssp f) cells = refl
cells_of-with_cells (any.Sswp f) cells = refl
cells_of-with_cells (any.Wcc f) cells = refl

pub with_cells-with_cells : (one : AnyForest) (a b : List Cell) → with_cells (with_cells one a) b ≡ with_cells one b
with_cells-with_cells (any.Bfs f) a b = refl
with_cells-with_cells (any.Sssp f) a b = refl
with_cells-with_cells (any.Sswp f) a b = refl
with_cells-with_cells (any.Wcc f) a b = refl

pub with_cells-own : (one : AnyForest) → with_cells one (cells_of one) ≡ one
with_cells-own (any.Bfs f) = refl
with_cells-own (any.Sssp f) = refl
with_cells-own (any.Sswp f) = refl
with_cells-own (any.Wcc f) = refl

-- they leave the analysis
pub spec_of-with_cells : (one : AnyForest) (cells : List Cell) → spec_of (with_cells one cells) ≡ spec_of one
spec_of-with_cells (any.Bfs f) cells = refl
spec_of-with_cells (any.Sssp f) cells = refl
spec_of-with_cells (any.Sswp f) cells = refl
spec_of-with_cells (any.Wcc f) cells = refl

pub suits_of-with_cells : (one : AnyForest) (cells : List Cell) (format : Format) → suits_of one format → suits_of (with_cells one cells) format
suits_of-with_cells (any.Bfs f) cells format h = h
suits_of-with_cells (any.Sssp f) cells format h = h
suits_of-with_cells (any.Sswp f) cells format h = h
suits_of-with_cells (any.Wcc f) cells format h = h

-- One kind

-- a forest of one kind with more cells of absent vertices has more room
pub grown_of : {A : Type 0} (of_kind : ForestView A → AnyForest) → ((f : ForestView A) → cells_of (of_kind f) ≡ f.cells)
    → ((f : ForestView A) (cells : List Cell) → with_cells (of_kind f) cells ≡ of_kind (record f { cells = cells }))
    → (one : AnyForest) (old new : ForestView A) (more : ℕ) → one ≡ of_kind old → new.algo ≡ old.algo → new.cells ≡ old.cells ++ replicate more absent_cell
    → IsGrownOne one (of_kind new)
grown_of of_kind cells with one old new more is algo grown =
    subst (λ (o : AnyForest). IsGrownOne o (of_kind new)) (sym is) (record {
      more = more;
      is = ap of_kind (same new (record old { cells = old.cells ++ replicate more absent_cell }) algo grown)
          ∙ sym (with old (old.cells ++ replicate more absent_cell))
          ∙ ap (λ (cs : List Cell). with_cells (of_kind old) (cs ++ replicate more absent_cell)) (sym (cells old));
    })
  where
    same : {A : Type 0} (f h : ForestView A) → f.algo ≡ h.algo → f.cells ≡ h.cells → f ≡ h
    same f h a c = λ i. record { algo = a i; cells = c i }

-- an analysis of a known kind
pub spec_is : (s : Spec) (k : Kind) (root : ℕ) → s.kind ≡ k → s.root ≡ root → record { kind = k; root = root } ≡ s
spec_is s k root same at = λ i. record { kind = sym same i; root = sym at i }

-- the first forest of one kind
pub started_of : {A : Type 0} (of_kind : ForestView A → AnyForest) (spec_in : A → Spec) → ((f : ForestView A) → cells_of (of_kind f) ≡ f.cells)
    → ((f : ForestView A) → spec_of (of_kind f) ≡ spec_in f.algo) → (graph : GraphView) (bound : ℕ) (asked : Spec) (f : ForestView A) (algo : A)
    → f.algo ≡ algo → spec_in algo ≡ asked → suits_of (of_kind f) graph.format → length f.cells ≡ bound
    → ((p : PlainGraph) → IsOf graph p → IsForest p (spec_in algo) (forest_of f.cells)) → IsStarted graph bound asked (of_kind f)
started_of of_kind spec_in cells spec graph bound asked f algo same is suits size right = record {
  spec = spec f ∙ ap spec_in same ∙ is;
  suits = suits;
  size = ap length (cells f) ∙ size;
  right = λ p of.
      subst (λ (cs : List Cell). IsForest p asked (forest_of cs)) (sym (cells f)) (subst (λ (s : Spec). IsForest p s (forest_of f.cells)) is (right p of));
}
