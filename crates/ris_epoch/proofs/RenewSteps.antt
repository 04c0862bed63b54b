-- What fits a graph, as a net is committed in it, taken back, and the forests are renewed.
use Rattle.std.proofs.Common.{◌≡◌, ℕ, ◌<◌, inl, Bool, true, false, IsTrue, List, [], ◌∷◌, ◌++◌, length, arith, rules, refl, sym, subst, ap, ◌∙◌}
use Rattle.std.specs.Prelude.{replicate}
use Rattle.std.specs.List.{All}
use Rattle.std.proofs.lemmas.List.{length-append, length-set}
use Rattle.std.proofs.lemmas.Bool.{both_ways}
use Rattle.std.proofs.lemmas.List.Elements.{All-cons, All-contains, All-head, All-tail, All-weaker}
use Rattle.ris_base.specs.Forest.{Forest, AreForests}
use Rattle.ris_base.specs.Graph.{HasVertex}
use Rattle.ris_base.specs.Records.{AreChanges, changed_forests}
use Rattle.ris_base.specs.Requests.{entered}
use Rattle.ris_base.specs.declared.analyses.Spec.{Spec}
use Rattle.ris_base.specs.declared.graphs.Format.{Format}
use Rattle.ris_base.specs.declared.graphs.PlainGraph.{PlainGraph}
use Rattle.ris_base.specs.declared.records.Change.{Change}
use Rattle.ris_base.specs.declared.updates.Update.{Update}
use Rattle.ris_base.proofs.ListLemmas.{All-from_Contains}
use Rattle.ris_base.proofs.RequestLemmas.{format-entered}
use Rattle.ris_forest.specs.Cells.{Cell, absent_cell}
use Rattle.ris_forest.specs.Commits.{committed, with_rows}
use Rattle.ris_forest.specs.declared.deltas.DeltaRow.{DeltaRow}
use Rattle.ris_graph.specs.GraphView.{GraphView, IsOf, vertex_in}
use Rattle.ris_graph.specs.Nets.{IsNet}
use Rattle.ris_graph.specs.declared.nets.Net.{Net}
use Rattle.ris_analysis.specs.Analyses.{AllSuit, HasRoom, IsDueFor, IsGrown, all_with_rows, committed_all, forests_of, specs_of}
use Rattle.ris_analysis.specs.AnyForest.{HasRoomOne, cells_of, with_cells, with_delta}
use Rattle.ris_analysis.specs.declared.kinds.AnyForest.{AnyForest}
use Rattle.ris_analysis.specs.declared.kinds.AnyForest.TheVariants as any
use Rattle.ris_epoch.specs.Driving.{changes_from}
use Rattle.ris_epoch.specs.DriverView.{Fits}
use Rattle.ris_epoch.specs.Renewing.{IsRenewed}
use Rattle.ris_epoch.proofs.DeltaChanges.{changes-rows, with_deltas}

-- Room of forests

-- the cells that were put
cells-with : (one : AnyForest) (cells : List Cell) → cells_of (with_cells one cells) ≡ cells
cells-with (any.Bfs f) cells = refl
cells-with (any.Sssp f) cells = refl
cells-with (any.Sswp f) cells = refl
cells-with (any.Wcc f) cells = refl

-- forests that grew have room for what they had room for
pub room-grown : (g : GraphView) (old new : List AnyForest) → IsGrown old new → HasRoom g old → HasRoom g new
room-grown g [] [] h room = room
room-grown g [] (y ∷ ys) h room = absurd h
room-grown g (x ∷ xs) [] h room = absurd h
room-grown g (x ∷ xs) (y ∷ ys) h room =
    All-cons (HasRoomOne g) y ys
    (λ v at. (let long = ap (λ (one : AnyForest). length (cells_of one)) h.0.is ∙ ap length (cells-with x (cells_of x ++ replicate h.0.more absent_cell)) ∙ length-append (cells_of x) (replicate h.0.more absent_cell) in
    let had = All-head (HasRoomOne g) x xs room v at in omega arith))
    (room-grown g xs ys h.1 (All-tail (HasRoomOne g) x xs room))

-- a commit keeps the room
length-committed : (cells : List Cell) (rows : List DeltaRow) → length (committed cells rows) ≡ length cells
length-committed cells [] = refl
length-committed cells (row ∷ rows) = length-committed _ rows ∙ length-set cells row.vertex _

pub room-committed : (g : GraphView) (ones : List AnyForest) (deltas : List (List DeltaRow)) → HasRoom g ones → HasRoom g (committed_all ones deltas)
room-committed g [] deltas room = room
room-committed g (one ∷ ones) [] room = room
room-committed g (one ∷ ones) (delta ∷ deltas) room =
    All-cons (HasRoomOne g) (with_delta one delta) (committed_all ones deltas)
    (λ v at. (let long = ap length (cells-with one (committed (cells_of one) delta)) ∙ length-committed (cells_of one) delta in
    let had = All-head (HasRoomOne g) one ones room v at in omega arith))
    (room-committed g ones deltas (All-tail (HasRoomOne g) one ones room))

-- a graph of the same vertices has no more need
pub room-vertices : (g h : GraphView) (p : PlainGraph) (ones : List AnyForest) → IsOf g p → IsOf h p → HasRoom g ones → HasRoom h ones
room-vertices g h p ones first second room =
    All-weaker (HasRoomOne g) (HasRoomOne h) (λ one has x at. has x ((first.vertices x).1 ((second.vertices x).0 at))) ones room

-- with room for what a net adds there is room for the graph after it
pub room-entered : (g h : GraphView) (p : PlainGraph) (parts : List Update) (net : Net) (ones : List AnyForest) → IsOf g p → IsOf h (entered p parts) → IsNet p parts net
    → HasRoom g ones → All (λ one. All (λ x. x < length (cells_of one)) net.added) ones → HasRoom h ones
room-entered g h p parts net ones first second is room more =
    All-from_Contains (HasRoomOne h) ones (λ one at x there.
    go one x (vertex_in g x) refl (All-contains (HasRoomOne g) ones one room at) (All-contains (λ (y : AnyForest). All (λ x. x < length (cells_of y)) net.added) ones one more at)
    ((second.vertices x).0 there))
  where
    go : (one : AnyForest) (x : ℕ) (b : Bool) → vertex_in g x ≡ b → HasRoomOne g one → All (λ x. x < length (cells_of one)) net.added → HasVertex (entered p parts) x → x < length (cells_of one)
    go one x true here had added after = had x (subst IsTrue (sym here) (search rules))
    go one x false here had added after =
        All-contains (λ (y : ℕ). y < length (cells_of one)) net.added x added
        ((is.added x).1 (after, inl (λ before. both_ways (vertex_in g x) here ((first.vertices x).1 before))))

-- Fits

-- the forms of a graph of the same plain graph
format-same : (g h : GraphView) (p : PlainGraph) → IsOf g p → IsOf h p → h.format ≡ g.format
format-same g h p first second = sym second.format ∙ first.format

-- analyses that grew
pub fits-grown : (g : GraphView) (old new : List AnyForest) (p : PlainGraph) (specs : List Spec) (forests : List Forest) → IsGrown old new → specs_of new ≡ specs_of old
    → ((f : Format) → AllSuit old f → AllSuit new f) → forests_of new ≡ forests_of old → Fits g old p specs forests → Fits g new p specs forests
fits-grown g old new p specs forests grown same suits kept fits = record {
  graph_is = fits.graph_is;
  specs_are = same ∙ fits.specs_are;
  suits = suits g.format fits.suits;
  room = room-grown g old new grown fits.room;
  forests_are = kept ∙ fits.forests_are;
  right = fits.right;
}

-- another graph that is the same plain one
pub fits-again : (g h : GraphView) (ones : List AnyForest) (p : PlainGraph) (specs : List Spec) (forests : List Forest) → IsOf h p → Fits g ones p specs forests → Fits h ones p specs forests
fits-again g h ones p specs forests is fits = record {
  graph_is = is;
  specs_are = fits.specs_are;
  suits = subst (λ (f : Format). AllSuit ones f) (sym (format-same g h p fits.graph_is is)) fits.suits;
  room = room-vertices g h p ones fits.graph_is is fits.room;
  forests_are = fits.forests_are;
  right = fits.right;
}

-- what fits is due for a net that stands in the graph
pub fits-due : (g h : GraphView) (ones : List AnyForest) (p : PlainGraph) (parts : List Update) (specs : List Spec) (forests : List Forest) (net : Net)
    → Fits g ones p specs forests → IsOf h (entered p parts) → IsNet p parts net → IsDueFor h ones net p parts
fits-due g h ones p parts specs forests net fits is of = record {
  is = is;
  net = of;
  right = subst (λ (ss : List Spec). AreForests p ss (forests_of ones)) (sym fits.specs_are) (subst (λ (fs : List Forest). AreForests p specs fs) (sym fits.forests_are) fits.right);
}

pub suits-entered : (g h : GraphView) (ones : List AnyForest) (p : PlainGraph) (parts : List Update) → IsOf g p → IsOf h (entered p parts) → AllSuit ones g.format → AllSuit ones h.format
suits-entered g h ones p parts first second suits =
    subst (λ (f : Format). AllSuit ones f) (sym (sym second.format ∙ format-entered p parts ∙ first.format)) suits

-- the two words for forests with their rows
same-rows : (forests : List Forest) (deltas : List (List DeltaRow)) → with_deltas forests deltas ≡ all_with_rows forests deltas
same-rows [] deltas = refl
same-rows (F ∷ forests) [] = refl
same-rows (F ∷ forests) (delta ∷ deltas) = ap (λ (Fs : List Forest). with_rows F delta ∷ Fs) (same-rows forests deltas)

-- the forests are renewed
pub renewed : (g h : GraphView) (ones new : List AnyForest) (p : PlainGraph) (parts : List Update) (specs : List Spec) (forests : List Forest) (net : Net)
    (deltas : List (List DeltaRow)) (changes : List Change) → Fits g ones p specs forests → IsOf h (entered p parts) → HasRoom h ones
    → changes ≡ changes_from 0 deltas → AreForests (entered p parts) (specs_of ones) (all_with_rows (forests_of ones) deltas)
    → AreChanges (specs_of ones) p (entered p parts) changes → new ≡ committed_all ones deltas → specs_of new ≡ specs_of ones
    → ((f : Format) → AllSuit ones f → AllSuit new f) → forests_of new ≡ all_with_rows (forests_of ones) deltas → IsRenewed p parts specs forests h new changes
renewed g h ones new p parts specs forests net deltas changes fits is room made right are committed same suits kept =
    let after : changed_forests forests changes ≡ all_with_rows (forests_of ones) deltas =
    ap (changed_forests forests) made ∙ changes-rows 0 forests deltas ∙ same-rows forests deltas ∙ ap (λ (fs : List Forest). all_with_rows fs deltas) (sym fits.forests_are) in record {
      fits = record {
        graph_is = is;
        specs_are = same ∙ fits.specs_are;
        suits = suits h.format (suits-entered g h ones p parts fits.graph_is is fits.suits);
        room = subst (HasRoom h) (sym committed) (room-committed h ones deltas room);
        forests_are = kept ∙ sym after;
        right = subst (λ (fs : List Forest). AreForests (entered p parts) specs fs) (sym after)
            (subst (λ (ss : List Spec). AreForests (entered p parts) ss (all_with_rows (forests_of ones) deltas)) fits.specs_are right);
      };
      are = subst (λ (ss : List Spec). AreChanges ss p (entered p parts) changes) fits.specs_are are;
    }
