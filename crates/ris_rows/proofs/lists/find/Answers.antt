use Rattle.std.proofs.Common.{rules, ◌<◌, length}
use Rattle.ris_rows.proofs.Positions.{has-item, has-past}
use Rattle.ris_rows.proofs.lists.find.Goals as goal

pub returns-in-Some : goal.returns-in-Some
returns-in-Some c =
    let within : c.place-place.result < length c.args.items.now = search rules in
    let shows = has-item c.args.items.now c.args.end c.args.weight c.in-Some.item.now c.place-place.result c.place-place.ensures.value within c.in-Some.ensures.lookup.1 in
    (c.place-place.ensures.value, cc shows)

pub returns-in_default : goal.returns-in_default
returns-in_default c =
    let within : c.place-place.result < length c.args.items.now = search rules in
    let shows = has-item c.args.items.now c.args.end c.args.weight c.in-Some.item.now c.place-place.result c.place-place.ensures.value within c.in-Some.ensures.lookup.1 in
    (c.place-place.ensures.value, cc shows)

pub returns-in_default-2 : goal.returns-in_default-2
returns-in_default-2 c = (c.place-place.ensures.value, has-past c.args.items.now c.args.end c.args.weight (search rules))
