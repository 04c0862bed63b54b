-- What a driver stands for stays where only room and what it gives change.
use Rattle.std.proofs.Common.{◌≡◌, IsTrue, Bool, List, sym, subst, ap, ◌∙◌}
use Rattle.std.proofs.lemmas.List.Elements.{All-weaker}
use Rattle.ris_base.specs.Epoch.{Ground}
use Rattle.ris_base.specs.Forest.{Forest}
use Rattle.ris_base.specs.declared.analyses.Spec.{Spec}
use Rattle.ris_base.specs.declared.graphs.Format.{Format}
use Rattle.ris_base.specs.declared.graphs.PlainGraph.{PlainGraph}
use Rattle.ris_base.specs.Safe.{is_candidate}
use Rattle.ris_base.specs.declared.lines.Entry.{Entry}
use Rattle.ris_base.specs.declared.requests.Request.TheVariants as request
use Rattle.ris_base.specs.declared.records.Record.{Record}
use Rattle.ris_analysis.specs.Analyses.{AllSuit, forests_of, specs_of}
use Rattle.ris_epoch.specs.Account.{forests_behind, graph_behind, is_candidate_behind}
use Rattle.ris_analysis.specs.AnyForest.{HasRoomOne}
use Rattle.ris_analysis.specs.declared.kinds.AnyForest.{AnyForest}
use Rattle.ris_graph.specs.GraphView.{GraphView, HasRoomOf}
use Rattle.ris_graph.proofs.GraphLemmas.{IsOf-room}
use Rattle.ris_epoch.specs.DriverView.{DriverView, Fits, StandsFor}

-- analyses fit a graph that got more room
pub fits-room : (g h : GraphView) (analyses : List AnyForest) (p : PlainGraph) (specs : List Spec) (forests : List Forest) → HasRoomOf g h
    → Fits g analyses p specs forests → Fits h analyses p specs forests
fits-room g h analyses p specs forests same fits = record {
  graph_is = IsOf-room g h p same fits.graph_is;
  specs_are = fits.specs_are;
  suits = subst (λ (f : Format). AllSuit analyses f) (sym same.format) fits.suits;
  room = All-weaker (HasRoomOne g) (HasRoomOne h) (λ one has x at. has x (subst IsTrue (same.vertices x) at)) analyses fits.room;
  forests_are = fits.forests_are;
  right = fits.right;
}

-- the graph, the analyses, the opening and the lines alone say what a driver stands for
pub stands-as : (d e : DriverView) (ground : Ground) (records : List Record) → StandsFor d ground records → HasRoomOf d.graph e.graph
    → e.analyses ≡ d.analyses → e.opening ≡ d.opening → e.journal.lines ≡ d.journal.lines → StandsFor e ground records
stands-as d e ground records h graph analyses opening lines = record {
  right = h.right;
  opening = opening ∙ h.opening;
  fits = subst (λ (ones : List AnyForest). Fits e.graph ones (graph_behind ground records) ground.specs (forests_behind ground records)) (sym analyses) (fits-room d.graph e.graph d.analyses (graph_behind ground records) ground.specs (forests_behind ground records) graph h.fits);
  lines = lines ∙ h.lines;
}

-- and so where these are the same
pub stands-same : (d e : DriverView) (ground : Ground) (records : List Record) → StandsFor d ground records → e.graph ≡ d.graph
    → e.analyses ≡ d.analyses → e.opening ≡ d.opening → e.journal.lines ≡ d.journal.lines → StandsFor e ground records
stands-same d e ground records h graph analyses opening lines = record {
  right = h.right;
  opening = opening ∙ h.opening;
  fits = subst (λ (ones : List AnyForest). Fits e.graph ones (graph_behind ground records) ground.specs (forests_behind ground records)) (sym analyses) (subst (λ (g : GraphView). Fits g d.analyses (graph_behind ground records) ground.specs (forests_behind ground records)) (sym graph) h.fits);
  lines = lines ∙ h.lines;
}

-- a change is a candidate by the driver's analyses where it is one by the records
pub candidate-stands : (d : DriverView) (ground : Ground) (records : List Record) (e : Entry) (b : Bool) → StandsFor d ground records
    → is_candidate (graph_behind ground records) (specs_of d.analyses) (forests_of d.analyses) e.parts ≡ b → is_candidate_behind ground records (request.Submit e) ≡ b
candidate-stands d ground records e b h is =
    ap (λ (specs : List Spec). is_candidate (graph_behind ground records) specs (forests_behind ground records) e.parts) (sym h.fits.specs_are)
    ∙ ap (λ (forests : List Forest). is_candidate (graph_behind ground records) (specs_of d.analyses) forests e.parts) (sym h.fits.forests_are) ∙ is
