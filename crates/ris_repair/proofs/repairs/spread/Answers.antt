-- What is prepared is pushed, and the changes are listed.
use Rattle.ris_repair.specs.Stores.{change_at}
use Rattle.ris_repair.proofs.RepairLemmas.{pushing_from_prepared, repaired, rows_due, rows_within, rows_small, rows_rooted}
use Rattle.ris_repair.proofs.repairs.spread.Goals as goal

pub push_all-requires-clause-on : goal.push_all-requires-clause-on
push_all-requires-clause-on g c κs within = (let on = c.requires.on in (on.0, on.1, on.2, pushing_from_prepared _ _ _ _ _ _ _ on.3))

pub push_all-requires-clause-fresh : goal.push_all-requires-clause-fresh
push_all-requires-clause-fresh g c κs within = c.requires.on.3.fresh

pub returns-in_err-push_all-clause-visits : goal.returns-in_err-push_all-clause-visits
returns-in_err-push_all-clause-visits g c = λ graph fallen xs of start. c.push_all.ensures.visits graph fallen xs of (pushing_from_prepared _ _ _ _ _ _ _ start)

pub returns-in_err-delta-clause-visits : goal.returns-in_err-delta-clause-visits
returns-in_err-delta-clause-visits g c = λ graph fallen xs of start. c.push_all.ensures.visits graph fallen xs of (pushing_from_prepared _ _ _ _ _ _ _ start)

pub returns-clause-visits : goal.returns-clause-visits
returns-clause-visits g c = λ graph fallen xs of start. c.push_all.ensures.visits graph fallen xs of (pushing_from_prepared _ _ _ _ _ _ _ start)

pub returns-clause-right : goal.returns-clause-right
returns-clause-right g c = λ graph fallen of start.
    repaired _ _ _ _ _ _ _ _ of.proper (c.in_ok-push_all.ensures.kept graph fallen of (pushing_from_prepared _ _ _ _ _ _ _ start)) c.in_ok-push_all.ensures.none c.in_ok-delta.ensures

pub returns-clause-rows : goal.returns-clause-rows
returns-clause-rows g c = (change_at c.push_all.new.self.changes, c.in_ok-delta.ensures)

pub returns-clause-due : goal.returns-clause-due
returns-clause-due g c = λ graph fallen of start.
    rows_due _ _ _ _ _ _ _ _ of.proper (c.in_ok-push_all.ensures.kept graph fallen of (pushing_from_prepared _ _ _ _ _ _ _ start)) c.in_ok-push_all.ensures.none c.in_ok-delta.ensures

pub returns-clause-within : goal.returns-clause-within
returns-clause-within g c =
    let on = c.requires.on in
    rows_within _ _ _ _ _ _ _ _ on.2.proper (c.in_ok-push_all.ensures.kept on.0 on.1 on.2 (pushing_from_prepared _ _ _ _ _ _ _ on.3)) c.in_ok-push_all.ensures.none c.in_ok-delta.ensures

pub returns-clause-small : goal.returns-clause-small
returns-clause-small g c =
    let on = c.requires.on in
    rows_small _ _ _ _ _ _ _ _ on.2.proper (c.in_ok-push_all.ensures.kept on.0 on.1 on.2 (pushing_from_prepared _ _ _ _ _ _ _ on.3)) c.in_ok-push_all.ensures.none c.in_ok-delta.ensures

pub returns-clause-rooted : goal.returns-clause-rooted
returns-clause-rooted g c =
    let on = c.requires.on in
    rows_rooted _ _ _ _ _ _ _ _ on.2.proper (c.in_ok-push_all.ensures.kept on.0 on.1 on.2 (pushing_from_prepared _ _ _ _ _ _ _ on.3)) c.in_ok-push_all.ensures.none c.in_ok-delta.ensures

pub delta_of-requires : goal.delta_of-requires
delta_of-requires g c =
    let on = c.requires.on in
    record { below = (c.in_ok-push_all.ensures.kept on.0 on.1 on.2 (pushing_from_prepared _ _ _ _ _ _ _ on.3)).carried.below }
