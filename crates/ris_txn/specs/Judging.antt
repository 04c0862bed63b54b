-- What a part of a request does to an overlay, and what holds while the parts are judged.
use Rattle.std.specs.Prelude.{◌≡◌, ◌↔◌, ℕ, ◌+◌, ◌<◌, ◌⊎◌, if◌then◌else◌, List, take, drop, Option, Some, None, IfSome}
use Rattle.std.specs.Option.{option_or, option_map}
use Rattle.ris_base.specs.Effect.{Objection, changed, first_missing, lacks_copy}
use Rattle.ris_base.specs.Falling.{Drops}
use Rattle.ris_base.specs.Requests.{does_from, entered, refusal_of}
use Rattle.ris_base.specs.declared.graphs.PlainGraph.{PlainGraph}
use Rattle.ris_base.specs.declared.graphs.Triple.{Triple}
use Rattle.ris_base.specs.declared.updates.Update.{Update}
use Rattle.ris_base.specs.declared.updates.Update.TheVariants.{DelV}
use Rattle.ris_graph.specs.GraphView.{GraphView, IsOf, copies_in}
use Rattle.ris_txn.specs.Faults.{said}
use Rattle.ris_txn.specs.Overlays.{AreBelow, Shows, triple_note, vertex_note}
use Rattle.ris_txn.specs.declared.faults.Fault.{Fault}
use Rattle.ris_txn.specs.declared.overlays.Overlay.{Overlay}

-- the first objection to an update whose numbers are within their limits
abbrev pub lacking : PlainGraph → Update → Option Objection
lacking p part = option_or (option_map Objection.NoVertex (first_missing p part)) (if lacks_copy p part then Some Objection.NoEdge else None)

-- the graph that the notes show has no objection of this kind to a part
abbrev pub IsFree : (PlainGraph → Update → Option Objection) → GraphView → Overlay → Update → Type 0
IsFree objects g o part = (p : PlainGraph) → Shows g o p → objects p part ≡ None

-- a fault is want of memory, or the objection of this kind that the graph has which the notes show
abbrev pub IsFault : (PlainGraph → Update → Option Objection) → GraphView → Overlay → Update → Fault → Type 0
IsFault objects g o part f = (p : PlainGraph) → Shows g o p → IfSome (said f) (λ why. objects p part ≡ Some why)

-- the notes show what the part of this number makes of the graph that they showed
pub record IsStep (g : GraphView) (old new : Overlay) (part : Update) (number : ℕ) : Type 0 where
  pub below : AreBelow g new (number + 1)
  pub shows : (p : PlainGraph) → Shows g old p → Shows g new (changed p part)
  pub dropped : (x : ℕ) → (0 < (vertex_note g new x).dropped) ↔ ((0 < (vertex_note g old x).dropped) ⊎ (part ≡ DelV x))
  pub before : (t : Triple) → (triple_note g new t).before ≡ (triple_note g old t).before

-- the notes show a graph to which the first k parts lead from p
pub record ShowsAfter (g : GraphView) (p : PlainGraph) (parts : List Update) (k : ℕ) (o : Overlay) : Type 0 where
  pub graph : PlainGraph
  pub rest : does_from 1 p parts ≡ does_from (k + 1) graph (drop k parts)
  pub shows : Shows g o graph

-- the first k parts are judged, and none was refused
pub record IsJudging (g : GraphView) (parts : List Update) (k : ℕ) (o : Overlay) : Type 0 where
  pub below : AreBelow g o (k + 1)
  pub shows : (p : PlainGraph) → IsOf g p → ShowsAfter g p parts k o
  pub dropped : (x : ℕ) → (0 < (vertex_note g o x).dropped) ↔ Drops (take k parts) x
  pub before : (t : Triple) → (triple_note g o t).before ≡ copies_in g t

-- no part is refused, and the notes show the graph after the request, which vertices it drops, and the copies before
pub record IsJudged (g : GraphView) (parts : List Update) (o : Overlay) : Type 0 where
  pub accepted : (p : PlainGraph) → IsOf g p → refusal_of p parts ≡ None
  pub shows : (p : PlainGraph) → IsOf g p → Shows g o (entered p parts)
  pub dropped : (x : ℕ) → (0 < (vertex_note g o x).dropped) ↔ Drops parts x
  pub before : (t : Triple) → (triple_note g o t).before ≡ copies_in g t
