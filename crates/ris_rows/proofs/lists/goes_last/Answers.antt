use Rattle.std.proofs.Common.{◌≡◌, ◌<◌, rules, sym, length, subst, true}
use Rattle.ris_rows.specs.Neighbours.{is_before}
use Rattle.ris_rows.specs.declared.neighbours.Neighbour.{Neighbour}
use Rattle.ris_rows.proofs.Positions.{last-place}
use Rattle.ris_rows.proofs.lists.goes_last.Goals as goal

pub returns-in-Some : goal.returns-in-Some
returns-in-Some c = λ goes.
    let some : 0 < length c.args.items.now = search rules in
    let t : is_before c.in-Some.last.now c.args.end c.args.weight ≡ true = cc in
    sym ((last-place c.args.items.now c.args.end c.args.weight c.in-Some.last.now c.requires some
    (subst (λ (n : Neighbour). is_before n c.args.end c.args.weight ≡ true) c.in-Some.ensures.item.1 t)).0)
