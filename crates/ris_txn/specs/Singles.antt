-- Requests of a single part that adds or takes a copy of an edge.
use Rattle.std.specs.Prelude.{◌≡◌, ℕ, ◌==◌, ◌&&◌, Bool, true, false, List, [], ◌∷◌, length, Some, None, IfSome}
use Rattle.ris_base.specs.Effect.{objection}
use Rattle.ris_base.specs.Graph.{triple}
use Rattle.ris_base.specs.declared.graphs.PlainGraph.{PlainGraph}
use Rattle.ris_base.specs.declared.graphs.Triple.{Triple}
use Rattle.ris_base.specs.declared.updates.Update.{Update}
use Rattle.ris_base.specs.declared.updates.Update.TheVariants.{AddV, DelV, AddE, DelE, SetW}
use Rattle.ris_graph.specs.GraphView.{GraphView, IsOf, copies_in}
use Rattle.ris_graph.specs.Nets.{IsNet}
use Rattle.ris_graph.specs.declared.nets.Net.{Net}
use Rattle.ris_graph.specs.declared.nets.NetTriple.{NetTriple}
use Rattle.ris_txn.specs.Faults.{said}
use Rattle.ris_txn.specs.declared.faults.Fault.{Fault}

-- whether a part adds or takes a copy of an edge, and does nothing else
abbrev pub moves_copy : Update → Bool
moves_copy (AddV x) = false
moves_copy (DelV x) = false
moves_copy (AddE u v w) = true
moves_copy (DelE u v w) = true
moves_copy (SetW u v w w2) = false

-- whether a request has one part alone, which adds or takes a copy of an edge
abbrev pub is_single : List Update → Bool
is_single [] = false
is_single (part ∷ rest) = moves_copy part && (length rest == 0)

-- the net that touches this triple alone
abbrev pub lone_net : NetTriple → Net
lone_net t = record { dropped = []; added = []; triples = t ∷ [] }

-- a request of this part alone has the net that touches this triple alone
abbrev pub IsLone : GraphView → Update → NetTriple → Type 0
IsLone g part t = (p : PlainGraph) → IsOf g p → IsNet p (part ∷ []) (lone_net t)

-- a fault is want of memory, or the objection that the graph has to a part
abbrev pub IsReason : GraphView → Update → Fault → Type 0
IsReason g part f = (p : PlainGraph) → IsOf g p → IfSome (said f) (λ why. objection p part ≡ Some why)

-- the triple of an edge, to the adding of a copy of which there is no objection, and its copies
pub record IsStandingEdge (g : GraphView) (u v w : ℕ) (found : Triple × ℕ) : Type 0 where
  pub edge : found.0 ≡ triple u v w
  pub copies : found.1 ≡ copies_in g found.0
  pub free : (p : PlainGraph) → IsOf g p → objection p (AddE u v w) ≡ None
