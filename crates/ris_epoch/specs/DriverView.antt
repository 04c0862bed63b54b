-- What a contract sees of a driver, and which records it stands for.
use Rattle.std.specs.Prelude.{◌≡◌, ℕ, List, []}
use Rattle.ris_base.specs.Epoch.{Ground, Resolved}
use Rattle.ris_base.specs.Forest.{Forest, AreForests}
use Rattle.ris_base.specs.Records.{AreRight, lines_of}
use Rattle.ris_base.specs.declared.analyses.Spec.{Spec}
use Rattle.ris_base.specs.declared.graphs.Format.TheVariants.{One}
use Rattle.ris_base.specs.declared.graphs.PlainGraph.{PlainGraph}
use Rattle.ris_base.specs.declared.records.Record.{Record}
use Rattle.ris_base.specs.declared.records.Start.{Start}
use Rattle.ris_graph.specs.GraphView.{GraphView, IsOf}
use Rattle.ris_graph.specs.declared.stripes.StripeJob.{StripeJob}
use Rattle.ris_journal.specs.JournalView.{JournalView}
use Rattle.ris_analysis.specs.Analyses.{AllSuit, HasRoom, forests_of, specs_of}
use Rattle.ris_analysis.specs.declared.kinds.AnyForest.{AnyForest}
use Rattle.ris_epoch.specs.Account.{forests_behind, graph_behind}

-- the graph now, the jobs of a parallel phase, the analyses with their forests, the serial list with the room for more lines, the
-- opening, the records and the replies of the last turn that are still to be given, and the room for more records
pub record DriverView : Type 0 where
  pub graph : GraphView
  pub jobs : List (List StripeJob)
  pub analyses : List AnyForest
  pub journal : JournalView
  pub opening : Start
  pub records : List Record
  pub record_room : ℕ
  pub replies : List Resolved

-- a graph without tables, which no driver has
abbrev pub no_graph : GraphView
no_graph = record { format = One; stripes = []; ins = []; present = [] }

-- a graph is this plain one, and analyses have these right forests on it, and room for its vertices
pub record Fits (graph : GraphView) (analyses : List AnyForest) (p : PlainGraph) (specs : List Spec) (forests : List Forest) : Type 0 where
  pub graph_is : IsOf graph p
  pub specs_are : specs_of analyses ≡ specs
  pub suits : AllSuit analyses graph.format
  pub room : HasRoom graph analyses
  pub forests_are : forests_of analyses ≡ forests
  pub right : AreForests p specs forests

-- A driver stands for records behind a ground: they are right; its opening is the start; its graph and its forests are those of the
-- last place; and its serial list is that of the records
pub record StandsFor (d : DriverView) (ground : Ground) (records : List Record) : Type 0 where
  pub right : AreRight ground.opening ground.specs ground.start records
  pub opening : d.opening ≡ ground.start
  pub fits : Fits d.graph d.analyses (graph_behind ground records) ground.specs (forests_behind ground records)
  pub lines : d.journal.lines ≡ lines_of records

-- a driver stands for some records
pub record Stands (d : DriverView) : Type 0 where
  pub base : Ground
  pub records : List Record
  pub of : StandsFor d base records

-- a driver of which only what a tail changes is said
abbrev pub bare : GraphView → List AnyForest → JournalView → Start → List Record → DriverView
bare graph analyses journal opening records = record {
  graph = graph;
  jobs = [];
  analyses = analyses;
  journal = journal;
  opening = opening;
  records = records;
  record_room = 0;
  replies = [];
}
