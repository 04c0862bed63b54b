-- What deltas make of forests.
use Rattle.std.proofs.Common.{◌≡◌, ℕ, zero, suc, ◌<◌, List, [], ◌∷◌, length, get_or, set, take, arith, refl, ap, ◌∙◌}
use Rattle.ris_base.specs.declared.graphs.Format.{Format}
use Rattle.ris_forest.specs.Cells.{forest_of}
use Rattle.ris_forest.specs.Commits.{committed, with_rows}
use Rattle.ris_forest.specs.declared.deltas.DeltaRow.{DeltaRow}
use Rattle.ris_forest.proofs.CellLemmas.{forest_of-committed, length-committed}
use Rattle.std.specs.List.{All}
use Rattle.std.proofs.lemmas.List.Elements.{All-cons, All-head, All-tail}
use Rattle.ris_base.specs.Limits.{vertex_limit}
use Rattle.std.specs.Prelude.{◌≤◌}
use Rattle.ris_analysis.specs.AnyForest.{suits_of, cells_of, forest_in, with_delta}
use Rattle.ris_analysis.specs.Analyses.{specs_of, forests_of, all_with_rows, committed_all, AreAnalyses, AllSuit, CanCommit}
use Rattle.ris_analysis.specs.Repairing.{CanCommitOne}
use Rattle.ris_analysis.specs.declared.kinds.AnyForest.{AnyForest}
use Rattle.ris_analysis.proofs.KindLemmas.{cells_of-with_cells, spec_of-with_cells, suits_of-with_cells}

-- Step by step

pub committed_all-none : (ones : List AnyForest) → committed_all ones [] ≡ ones
committed_all-none [] = refl
committed_all-none (one ∷ ones) = refl

pub length-committed_all : (ones : List AnyForest) (deltas : List (List DeltaRow)) → length (committed_all ones deltas) ≡ length ones
length-committed_all [] deltas = refl
length-committed_all (one ∷ ones) [] = refl
length-committed_all (one ∷ ones) (delta ∷ deltas) = ap suc (length-committed_all ones deltas)

-- the forests behind the deltas are as before
pub committed_all-at : (ones : List AnyForest) (deltas : List (List DeltaRow)) (k : ℕ) (d : AnyForest) → get_or (committed_all ones (take k deltas)) k d ≡ get_or ones k d
committed_all-at [] deltas k d = refl
committed_all-at (one ∷ ones) [] zero d = refl
committed_all-at (one ∷ ones) [] (suc k) d = refl
committed_all-at (one ∷ ones) (delta ∷ deltas) zero d = refl
committed_all-at (one ∷ ones) (delta ∷ deltas) (suc k) d = committed_all-at ones deltas k d

-- one delta more
pub committed_all-suc : (ones : List AnyForest) (deltas : List (List DeltaRow)) (k : ℕ) (d : AnyForest) (e : List DeltaRow) → k < length ones → k < length deltas
    → committed_all ones (take (suc k) deltas) ≡ set (committed_all ones (take k deltas)) k (with_delta (get_or ones k d) (get_or deltas k e))
committed_all-suc [] deltas k d e within less = absurd (omega arith)
committed_all-suc (one ∷ ones) [] k d e within less = absurd (omega arith)
committed_all-suc (one ∷ ones) (delta ∷ deltas) zero d e within less = ap (λ (l : List AnyForest). with_delta one delta ∷ l) (committed_all-none ones)
committed_all-suc (one ∷ ones) (delta ∷ deltas) (suc k) d e within less =
    ap (λ (l : List AnyForest). with_delta one delta ∷ l) (committed_all-suc ones deltas k d e (omega arith) (omega arith))

-- What stays

pub specs_of-committed : (ones : List AnyForest) (deltas : List (List DeltaRow)) → specs_of (committed_all ones deltas) ≡ specs_of ones
specs_of-committed [] deltas = refl
specs_of-committed (one ∷ ones) [] = refl
specs_of-committed (one ∷ ones) (delta ∷ deltas) =
    let here = spec_of-with_cells one (committed (cells_of one) delta) in
    let rest = specs_of-committed ones deltas in
    λ i. here i ∷ rest i

-- what the analyses keep whatever the cells are
All-committed : (P : AnyForest → Type 0) → ((one : AnyForest) (delta : List DeltaRow) → P one → P (with_delta one delta)) → (ones : List AnyForest)
    (deltas : List (List DeltaRow)) → All P ones → All P (committed_all ones deltas)
All-committed P keeps [] deltas all = all
All-committed P keeps (one ∷ ones) [] all = all
All-committed P keeps (one ∷ ones) (delta ∷ deltas) all =
    All-cons P (with_delta one delta) (committed_all ones deltas) (keeps one delta (All-head P one ones all)) (All-committed P keeps ones deltas (All-tail P one ones all))

pub AllSuit-committed : (ones : List AnyForest) (deltas : List (List DeltaRow)) (format : Format) → AllSuit ones format → AllSuit (committed_all ones deltas) format
AllSuit-committed ones deltas format all =
    All-committed (λ (one : AnyForest). suits_of one format) (λ one delta suits. suits_of-with_cells one (committed (cells_of one) delta) format suits) ones deltas all

-- the analyses keep their number and their tables
pub AreAnalyses-committed : (ones : List AnyForest) (deltas : List (List DeltaRow)) → AreAnalyses ones → AreAnalyses (committed_all ones deltas)
AreAnalyses-committed ones deltas are =
    let same = length-committed_all ones deltas in
    let some = are.some in
    let few = are.few in
    record {
      some = omega arith;
      few = omega arith;
      within = All-committed (λ (one : AnyForest). length (cells_of one) ≤ vertex_limit)
          (λ one delta within. let size = ap length (cells_of-with_cells one (committed (cells_of one) delta)) ∙ length-committed (cells_of one) delta in
          (omega arith)) ones deltas are.within;
    }

-- The forests

-- a forest with its delta is overwritten by its rows
forest_in-delta : (one : AnyForest) (delta : List DeltaRow) → CanCommitOne (cells_of one) delta → forest_in (with_delta one delta) ≡ with_rows (forest_in one) delta
forest_in-delta one delta can = ap forest_of (cells_of-with_cells one (committed (cells_of one) delta)) ∙ forest_of-committed (cells_of one) delta can.room

pub forests_of-committed : (ones : List AnyForest) (deltas : List (List DeltaRow)) → CanCommit ones deltas
    → forests_of (committed_all ones deltas) ≡ all_with_rows (forests_of ones) deltas
forests_of-committed [] [] can = refl
forests_of-committed [] (delta ∷ deltas) can = absurd can
forests_of-committed (one ∷ ones) [] can = absurd can
forests_of-committed (one ∷ ones) (delta ∷ deltas) can =
    let here = forest_in-delta one delta can.0 in
    let rest = forests_of-committed ones deltas can.1 in
    λ i. here i ∷ rest i
