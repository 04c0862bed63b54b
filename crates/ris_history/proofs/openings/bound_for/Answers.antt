use Rattle.std.proofs.Common.{◌+◌, [], arith, sym, ap, ◌∙◌}
use Rattle.std.specs.Option.{option_copied}
use Rattle.std.specs.List.{slice_get}
use Rattle.ris_history.proofs.ChangeLemmas.{ord_max-nat}
use Rattle.ris_history.proofs.OpeningLemmas.{forests-reach}
use Rattle.ris_history.proofs.openings.bound_for.Goals as goal
use Rattle.ris_history.proofs.openings.bound_for.Goals.{in-Some, in_default}

pub loop-a-preserved : goal.loop-a-preserved
loop-a-preserved c =
    let n = c.args.analyses in
    let was = c.loop-a.invariant in
    elim c.match-get.branch [
      | in-Some w ↦
          let a = c.loop-a.a in
          let forests = c.args.forests.now in
          let rows = c.at-rows.result.now in
          let row = w.in-Some.last.now in
          let found = ap (slice_get forests) (sym c.from.ensures) ∙ c.at-rows.ensures in
          let last = sym c.get.ensures ∙ ap option_copied w.in-Some.is in
          let reach = forests-reach n 0 forests [] a rows c.saturating_sub.result row found last in
          let is = w.number.ensures.value in
          let low = w.number.ensures.within c.loop-a-test.true in
          let most = w.bound-is ∙ w.max-bound.ensures ∙ ord_max-nat c.loop-a.bound (w.number.result + 1) in
          record { needed = omega arith; within = omega arith }
      | in_default w ↦ (let is = w.bound-is in record { needed = omega arith; within = omega arith })
    ]
