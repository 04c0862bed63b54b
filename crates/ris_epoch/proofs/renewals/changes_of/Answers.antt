use Rattle.std.proofs.Common.{◌≡◌, ◌+◌, ◌≤◌, ◌++◌, inl, inr, List, drop, length, arith, ap, subst, sym, ◌∙◌}
use Rattle.std.specs.List.{slice_get}
use Rattle.std.proofs.lemmas.Bool.{cases_lt}
use Rattle.std.proofs.lemmas.Option.{get_or_from_slice_get}
use Rattle.ris_base.specs.declared.records.Change.{Change}
use Rattle.ris_forest.specs.Commits.{AreAscendingRows}
use Rattle.ris_forest.specs.declared.deltas.DeltaRow.{DeltaRow}
use Rattle.ris_epoch.specs.Driving.{changes_from}
use Rattle.ris_epoch.proofs.DeltaChanges.{changes-end, changes-next}
use Rattle.ris_epoch.proofs.renewals.changes_of.Goals as goal

pub loop-a-preserved : goal.loop-a-preserved
loop-a-preserved c =
    let same : c.loop-a.a ≡ c.from.result = omega arith in
    let at = ap (slice_get c.args.deltas.now) same ∙ c.at.ensures in
    record {
      made = ap (λ (xs : List Change). xs ++ changes_from (c.loop-a.a + 1) (drop (c.loop-a.a + 1) c.args.deltas.now)) c.in_ok-push_changes.ensures.changes
          ∙ changes-next c.loop-a.a c.loop-a.changes c.args.deltas.now c.at.result.now at ∙ c.loop-a.invariant.made;
      ascending = λ k d less. elim (cases_lt k c.loop-a.a) [
        | inl before ↦ c.loop-a.invariant.ascending k d before
        | inr past ↦ (let here : c.loop-a.a ≡ k = omega arith in
            subst (λ (rows : List DeltaRow). AreAscendingRows rows) (sym (get_or_from_slice_get c.args.deltas.now k c.at.result.now d (ap (slice_get c.args.deltas.now) (sym here) ∙ at)))
            c.in_ok-push_changes.ensures.ascending)
      ];
    }

pub returns-clause-changes : goal.returns-clause-changes
returns-clause-changes c =
    let past : length c.args.deltas.now ≤ c.loop-a.a = omega (arith, c.in-Ok.ensures) in
    sym (changes-end c.loop-a.changes c.args.deltas.now c.loop-a.a past) ∙ c.loop-a.invariant.made
