use Rattle.std.proofs.Common.{List, subst, sym}
use Rattle.ris_base.specs.Records.{AreChanges}
use Rattle.ris_base.specs.Requests.{entered}
use Rattle.ris_base.specs.declared.records.Change.{Change}
use Rattle.ris_analysis.specs.Analyses.{specs_of}
use Rattle.ris_epoch.proofs.DeltaChanges.{are-changes}
use Rattle.ris_epoch.proofs.renewals.prepared.Goals as goal

pub returns-clause-are : goal.returns-clause-are
returns-clause-are g c = λ p parts due.
    subst (λ (cs : List Change). AreChanges (specs_of c.args.analyses.now) p (entered p parts) cs) (sym c.in_ok-changes.ensures.changes)
    (are-changes p (entered p parts) (specs_of c.args.analyses.now) c.in_ok-deltas.deltas c.in_ok-changes.ensures.ascending c.in_ok-deltas.ensures.within
    (c.in_ok-deltas.ensures.moved p parts due) (c.in_ok-deltas.ensures.modified p parts due))
