-- The graph that a settled phase leaves is the one behind the records of the seal.
use Rattle.std.proofs.Common.{◌≡◌, if◌then◌else◌, Bool, true, false, List, [], ◌∷◌, ◌++◌, refl, sym, ap, ◌∙◌, append_assoc}
use Rattle.std.proofs.lemmas.List.{append-nil}
use Rattle.ris_base.specs.Epoch.{Ground}
use Rattle.ris_base.specs.Machine.{Decided, is_applied, stripe_by}
use Rattle.ris_base.specs.Requests.{entered}
use Rattle.ris_base.specs.declared.graphs.PlainGraph.{PlainGraph}
use Rattle.ris_base.specs.declared.records.Record.{Record}
use Rattle.ris_base.specs.declared.updates.Update.{Update}
use Rattle.ris_base.specs.declared.updates.Update.TheVariants.{AddV, DelV, AddE, DelE, SetW}
use Rattle.ris_graph.specs.Jobs
use Rattle.ris_phase.specs.Cells.{applied_each}
use Rattle.ris_epoch.specs.Account.{entry_record, graph_behind, records_of}
use Rattle.ris_epoch.proofs.TurnRight.{graph-more}

-- the two words for the stripe of an update
pub same-stripe : (u : Update) → Jobs.stripe_of u ≡ stripe_by u
same-stripe (AddV x) = refl
same-stripe (DelV x) = refl
same-stripe (AddE u v w) = refl
same-stripe (DelE u v w) = refl
same-stripe (SetW u v w w2) = refl

-- the graph behind the records of decisions is that after the applied ones
pub graph-sealed : (ground : Ground) (records : List Record) (order : List Decided)
    → graph_behind ground (records ++ records_of order) ≡ applied_each (graph_behind ground records) order
unfolding records_of applied_each
graph-sealed ground records [] = ap (graph_behind ground) (append-nil records)
graph-sealed ground records (d ∷ order) = go (is_applied d) (λ rs. graph-sealed ground rs order)
  where
    go : (b : Bool) → ((rs : List Record) → graph_behind ground (rs ++ records_of order) ≡ applied_each (graph_behind ground rs) order)
        → graph_behind ground (records ++ (if b then entry_record d.entry [] ∷ records_of order else records_of order))
        ≡ applied_each (if b then entered (graph_behind ground records) d.entry.parts else graph_behind ground records) order
    go false rest = rest records
    go true rest =
        ap (graph_behind ground) (sym (append_assoc records (entry_record d.entry [] ∷ []) (records_of order)))
        ∙ rest (records ++ entry_record d.entry [] ∷ [])
        ∙ ap (λ (g : PlainGraph). applied_each g order) (graph-more ground records d.entry [])
