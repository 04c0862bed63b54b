-- What the repair of each forest says of all.
use Rattle.std.proofs.Common.{◌≡◌, ℕ, zero, suc, ◌+◌, ◌<◌, ◌↔◌, List, [], ◌∷◌, length, get_or, take, arith, ap, ◌∙◌}
use Rattle.std.specs.Prelude.{IsTrue}
use Rattle.std.specs.List.{All, sum_by}
use Rattle.std.proofs.lemmas.List.Elements.{All-nil, All-cons, All-weaker, All-get_or}
use Rattle.std.proofs.lemmas.List.Sums.{sum_by_more, sum_by-take-le}
use Rattle.ris_base.specs.Falling.{AreFallen, AreReaches, IsReachFor}
use Rattle.ris_base.specs.Forest.{IsForest, AreForests}
use Rattle.ris_base.specs.Limits.{vertex_limit}
use Rattle.ris_base.specs.Lists.{EachPair}
use Rattle.ris_base.specs.Requests.{entered}
use Rattle.ris_base.specs.Value.{Moves, AreMoved}
use Rattle.ris_base.specs.declared.analyses.Spec.{Spec}
use Rattle.ris_base.specs.declared.graphs.PlainGraph.{PlainGraph}
use Rattle.ris_base.specs.declared.updates.Update.{Update}
use Rattle.ris_forest.specs.Cells.{Cell, forest_of}
use Rattle.ris_forest.specs.Commits.{with_rows}
use Rattle.ris_forest.specs.declared.deltas.DeltaRow.{DeltaRow}
use Rattle.ris_graph.specs.GraphView.{GraphView}
use Rattle.ris_graph.specs.Ticks.{ticked, IsRise}
use Rattle.ris_graph.specs.declared.nets.Net.{Net}
use Rattle.ris_graph.proofs.ListingLemmas.{ticked-ticked}
use Rattle.ris_repair.specs.Due.{IsDue}
use Rattle.ris_repair.proofs.RiseLemmas.{rise_more, rise_within}
use Rattle.ris_analysis.specs.AnyForest.{spec_of, cells_of, forest_in, HasRoomOne}
use Rattle.ris_analysis.specs.Analyses.{specs_of, forests_of, all_with_rows, CanCommit, HasRoom, IsDueFor}
use Rattle.ris_analysis.specs.Repairing.{moved_in, CanCommitOne, IsDueForOne, IsRepaired}
use Rattle.ris_analysis.specs.declared.kinds.AnyForest.{AnyForest}
use Rattle.ris_analysis.proofs.ModifiedLemmas.{are_moved}
use Rattle.ris_analysis.proofs.PairLemmas.{EachPair-within, EachPair-map_left, All-seconds}

-- Visits

-- the visits for one more item
pub rise_next : {X : Type 0} (f : X → ℕ) (a b c k : ℕ) (xs : List X) (d : X) → k < length xs → IsRise a b (sum_by f (take k xs)) → IsRise b c (f (get_or xs k d))
    → IsRise a c (sum_by f (take (k + 1) xs))
rise_next f a b c k xs d less before here =
    let more = sum_by_more f xs k d less in
    rise_more a b c (sum_by f (take k xs)) (f (get_or xs k d)) (sum_by f (take (k + 1) xs)) before here (omega arith)

-- they are some of the visits for all
pub rise_all : {X : Type 0} (f : X → ℕ) (a b k : ℕ) (xs : List X) → IsRise a b (sum_by f (take k xs)) → IsRise a b (sum_by f xs)
rise_all f a b k xs rise = rise_within a b (sum_by f (take k xs)) (sum_by f xs) rise (sum_by-take-le f xs k)

-- the visits for some items and one more are some of those for all
pub rise_part : {X : Type 0} (f : X → ℕ) (a b c k : ℕ) (xs : List X) (d : X) → k < length xs → IsRise a b (sum_by f (take k xs)) → IsRise b c (f (get_or xs k d))
    → IsRise a c (sum_by f xs)
rise_part f a b c k xs d less before here = rise_all f a c (k + 1) xs (rise_next f a b c k xs d less before here)

-- some ticks, and then some more
pub counted_more : (a b c : ℕ) → (k : ℕ) × (b ≡ ticked a k) → (k : ℕ) × (c ≡ ticked b k) → (k : ℕ) × (c ≡ ticked a k)
counted_more a b c one two = (one.0 + two.0, two.1 ∙ ap (λ n. ticked n two.0) one.1 ∙ ticked-ticked a one.0 two.0)

-- One forest

-- what repair asks, where the fallen vertices are known
pub due_fallen : (graph : GraphView) (net : Net) (spec : Spec) (cells : List Cell) (xs : List ℕ) (p : PlainGraph) (parts : List Update)
    → IsDueForOne graph net spec cells p parts → AreFallen p parts (forest_of cells) xs → IsDue graph spec cells xs net p parts
due_fallen graph net spec cells xs p parts due fallen = record { is = due.is; net = due.net; right = due.right; fallen = fallen }

-- All forests

-- each forest was right
rights : (p : PlainGraph) (ones : List AnyForest) → AreForests p (specs_of ones) (forests_of ones) → All (λ one. IsForest p (spec_of one) (forest_in one)) ones
rights p [] right = All-nil (λ (one : AnyForest). IsForest p (spec_of one) (forest_in one))
rights p (one ∷ ones) right = All-cons (λ (o : AnyForest). IsForest p (spec_of o) (forest_in o)) one ones right.0 (rights p ones right.1)

pub due_all : (graph : GraphView) (ones : List AnyForest) (net : Net) (p : PlainGraph) (parts : List Update) → IsDueFor graph ones net p parts
    → All (λ one. IsDueForOne graph net (spec_of one) (cells_of one) p parts) ones
due_all graph ones net p parts due =
    All-weaker (λ (one : AnyForest). IsForest p (spec_of one) (forest_in one)) (λ (one : AnyForest). IsDueForOne graph net (spec_of one) (cells_of one) p parts)
    (λ one right. record { is = due.is; net = due.net; right = right }) ones (rights p ones due.right)

pub due_at : (graph : GraphView) (ones : List AnyForest) (net : Net) (p : PlainGraph) (parts : List Update) (k : ℕ) (d : AnyForest) → k < length ones
    → IsDueFor graph ones net p parts → IsDueForOne graph net (spec_of (get_or ones k d)) (cells_of (get_or ones k d)) p parts
due_at graph ones net p parts k d less due =
    All-get_or (λ (one : AnyForest). IsDueForOne graph net (spec_of one) (cells_of one) p parts) ones k d less (due_all graph ones net p parts due)

-- the reach for the analysis of one number
pub reach_at : (p : PlainGraph) (parts : List Update) (ones : List AnyForest) (counts : List ℕ) (k : ℕ) (d : AnyForest) (e : ℕ)
    → AreReaches p parts (specs_of ones) (forests_of ones) counts → k < length ones
    → (k < length counts) × IsReachFor p (spec_of (get_or ones k d)) parts (forest_in (get_or ones k d)) (get_or counts k e)
reach_at p parts [] counts k d e reaches less = absurd (omega arith)
reach_at p parts (one ∷ ones) [] k d e reaches less = absurd reaches
reach_at p parts (one ∷ ones) (count ∷ counts) zero d e reaches less = (omega arith, reaches.0)
reach_at p parts (one ∷ ones) (count ∷ counts) (suc k) d e reaches less =
    let rest = reach_at p parts ones counts k d e reaches.1 (omega arith) in
    (omega arith, rest.1)

-- the repair of one forest
abbrev pub Repaired : GraphView → Net → AnyForest → List DeltaRow → Type 0
Repaired graph net one delta = IsRepaired graph net (spec_of one) (cells_of one) delta

-- the forests are right after the request
right_rows : (g : PlainGraph) (ones : List AnyForest) (deltas : List (List DeltaRow)) → EachPair (λ one delta. IsForest g (spec_of one) (with_rows (forest_in one) delta)) ones deltas
    → AreForests g (specs_of ones) (all_with_rows (forests_of ones) deltas)
right_rows g [] [] h = tt
right_rows g [] (delta ∷ deltas) h = absurd h
right_rows g (one ∷ ones) [] h = absurd h
right_rows g (one ∷ ones) (delta ∷ deltas) h = (h.0, right_rows g ones deltas h.1)

module _ (graph : GraphView) (net : Net) (ones : List AnyForest) (deltas : List (List DeltaRow)) (repaired : EachPair (Repaired graph net) ones deltas) where
  pub repaired_right : (p : PlainGraph) (parts : List Update) → IsDueFor graph ones net p parts
      → AreForests (entered p parts) (specs_of ones) (all_with_rows (forests_of ones) deltas)
  repaired_right p parts due =
      right_rows (entered p parts) ones deltas (EachPair-within (Repaired graph net) (λ one delta. IsForest (entered p parts) (spec_of one) (with_rows (forest_in one) delta))
      (λ one. IsDueForOne graph net (spec_of one) (cells_of one) p parts) (λ one delta own r. r.right p parts own) ones deltas (due_all graph ones net p parts due) repaired)

  -- the rows tell what moves
  pub repaired_moved : (p : PlainGraph) (parts : List Update) → IsDueFor graph ones net p parts
      → EachPair (λ spec delta. All (λ row. IsTrue row.moved ↔ Moves p (entered p parts) spec row.vertex) delta) (specs_of ones) deltas
  repaired_moved p parts due =
      EachPair-map_left spec_of (λ spec delta. All (λ row. IsTrue row.moved ↔ Moves p (entered p parts) spec row.vertex) delta) ones deltas
      (EachPair-within (Repaired graph net) (λ one delta. All (λ row. IsTrue row.moved ↔ Moves p (entered p parts) (spec_of one) row.vertex) delta)
      (λ one. IsDueForOne graph net (spec_of one) (cells_of one) p parts) (λ one delta own r. r.moved p parts own) ones deltas (due_all graph ones net p parts due) repaired)

  -- and exactly what moves
  pub repaired_modified : (p : PlainGraph) (parts : List Update) → IsDueFor graph ones net p parts
      → EachPair (λ spec delta. AreMoved p (entered p parts) spec (moved_in delta)) (specs_of ones) deltas
  repaired_modified p parts due =
      EachPair-map_left spec_of (λ spec delta. AreMoved p (entered p parts) spec (moved_in delta)) ones deltas
      (EachPair-within (Repaired graph net) (λ one delta. AreMoved p (entered p parts) (spec_of one) (moved_in delta))
      (λ one. IsDueForOne graph net (spec_of one) (cells_of one) p parts)
      (λ one delta own r. are_moved p (entered p parts) (spec_of one) (forest_in one) delta r.ascending own.right (r.right p parts own) (r.moved p parts own))
      ones deltas (due_all graph ones net p parts due) repaired)

  -- they may be committed where there is room
  pub repaired_fit : HasRoom graph ones → CanCommit ones deltas
  repaired_fit room =
      EachPair-within (Repaired graph net) (λ one delta. CanCommitOne (cells_of one) delta) (HasRoomOne graph) (λ one delta places r. r.fit places) ones deltas room repaired

  -- and name vertices within the limit
  pub repaired_within : All (All (λ (row : DeltaRow). row.vertex < vertex_limit)) deltas
  repaired_within = All-seconds (Repaired graph net) (All (λ (row : DeltaRow). row.vertex < vertex_limit)) (λ one delta r. r.within) ones deltas repaired
