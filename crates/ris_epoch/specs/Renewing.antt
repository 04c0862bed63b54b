-- What renews the forests of a driver for an entry of the tail.
use Rattle.std.specs.Prelude.{List}
use Rattle.ris_base.specs.Forest.{Forest}
use Rattle.ris_base.specs.Records.{AreChanges, changed_forests}
use Rattle.ris_base.specs.Requests.{entered}
use Rattle.ris_base.specs.declared.analyses.Spec.{Spec}
use Rattle.ris_base.specs.declared.graphs.PlainGraph.{PlainGraph}
use Rattle.ris_base.specs.declared.records.Change.{Change}
use Rattle.ris_base.specs.declared.updates.Update.{Update}
use Rattle.ris_graph.specs.GraphView.{GraphView}
use Rattle.ris_graph.specs.Nets.{IsNet}
use Rattle.ris_graph.specs.declared.nets.Net.{Net}
use Rattle.ris_analysis.specs.declared.kinds.AnyForest.{AnyForest}
use Rattle.ris_epoch.specs.DriverView.{Fits}

-- a net is one of a graph on which the analyses have right forests
pub record IsRenewable (graph : GraphView) (analyses : List AnyForest) (net : Net) : Type 0 where
  pub plain : PlainGraph
  pub parts : List Update
  pub specs : List Spec
  pub forests : List Forest
  pub fits : Fits graph analyses plain specs forests
  pub of : IsNet plain parts net

-- the graph is that after a request, and the analyses have right forests on it, which are those before with these changes
pub record IsRenewed (p : PlainGraph) (parts : List Update) (specs : List Spec) (forests : List Forest) (graph : GraphView) (analyses : List AnyForest)
    (changes : List Change) : Type 0 where
  pub fits : Fits graph analyses (entered p parts) specs (changed_forests forests changes)
  pub are : AreChanges specs p (entered p parts) changes
