-- The forests of all analyses.
use Rattle.std.specs.Prelude.{◌≡◌, ◌≤◌, List, [], ◌∷◌, length, map}
use Rattle.std.specs.List.{All}
use Rattle.ris_base.specs.Forest.{Forest, AreForests}
use Rattle.ris_base.specs.Limits.{vertex_limit}
use Rattle.ris_base.specs.Lists.{EachPair}
use Rattle.ris_base.specs.Requests.{entered}
use Rattle.ris_base.specs.declared.analyses.Kind.TheVariants.{Wcc}
use Rattle.ris_base.specs.declared.analyses.Spec.{Spec}
use Rattle.ris_base.specs.declared.graphs.Format.{Format}
use Rattle.ris_base.specs.declared.graphs.PlainGraph.{PlainGraph}
use Rattle.ris_base.specs.declared.updates.Update.{Update}
use Rattle.ris_forest.specs.Commits.{with_rows}
use Rattle.ris_forest.specs.declared.deltas.DeltaRow.{DeltaRow}
use Rattle.ris_graph.specs.GraphView.{GraphView, IsOf}
use Rattle.ris_graph.specs.Nets.{IsNet}
use Rattle.ris_graph.specs.declared.nets.Net.{Net}
use Rattle.ris_analysis.specs.AnyForest.{spec_of, suits_of, cells_of, forest_in, with_delta, IsGrownOne, HasRoomOne}
use Rattle.ris_analysis.specs.Repairing.{CanCommitOne}
use Rattle.ris_analysis.specs.declared.kinds.AnyForest.{AnyForest}

-- the analyses, and the forest of each
abbrev pub specs_of : List AnyForest → List Spec
specs_of ones = map spec_of ones

abbrev pub forests_of : List AnyForest → List Forest
forests_of ones = map forest_in ones

-- each may be of a graph of this format
abbrev pub AllSuit : List AnyForest → Format → Type 0
AllSuit ones format = All (λ one. suits_of one format) ones

-- the root of an analysis of components is 0
abbrev pub ArePlainSpecs : List Spec → Type 0
ArePlainSpecs specs = All (λ spec. spec.kind ≡ Wcc → spec.root ≡ 0) specs

-- there are one to four analyses, each with a table of vertex numbers within the limit
pub record AreAnalyses (ones : List AnyForest) : Type 0 where
  pub some : 1 ≤ length ones
  pub few : length ones ≤ 4
  pub within : All (λ one. length (cells_of one) ≤ vertex_limit) ones

-- each forest has room for the vertices of a graph
abbrev pub HasRoom : GraphView → List AnyForest → Type 0
HasRoom graph ones = All (HasRoomOne graph) ones

-- the same forests, each with as much room as before or more
abbrev pub IsGrown : List AnyForest → List AnyForest → Type 0
IsGrown old new = EachPair IsGrownOne old new

-- one delta for each analysis, which may be committed to its forest
abbrev pub CanCommit : List AnyForest → List (List DeltaRow) → Type 0
CanCommit ones deltas = EachPair (λ one delta. CanCommitOne (cells_of one) delta) ones deltas

-- each forest overwritten by its delta
abbrev pub committed_all : List AnyForest → List (List DeltaRow) → List AnyForest
committed_all [] deltas = []
committed_all (one ∷ ones) [] = one ∷ ones
committed_all (one ∷ ones) (delta ∷ deltas) = with_delta one delta ∷ committed_all ones deltas

abbrev pub all_with_rows : List Forest → List (List DeltaRow) → List Forest
all_with_rows [] deltas = []
all_with_rows (F ∷ forests) [] = F ∷ forests
all_with_rows (F ∷ forests) (delta ∷ deltas) = with_rows F delta ∷ all_with_rows forests deltas

-- the net of a request stands in the graph, and all forests were right before it
pub record IsDueFor (graph : GraphView) (ones : List AnyForest) (effect : Net) (p : PlainGraph) (parts : List Update) : Type 0 where
  pub is : IsOf graph (entered p parts)
  pub net : IsNet p parts effect
  pub right : AreForests p (specs_of ones) (forests_of ones)
