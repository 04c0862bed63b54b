use Rattle.std.proofs.Common.{◌≡◌, ◌<◌, ◌-◌, arith, rules, length, subst, true}
use Rattle.ris_rows.specs.Neighbours.{is_before, is_of}
use Rattle.ris_rows.specs.declared.neighbours.Neighbour.{Neighbour}
use Rattle.ris_rows.proofs.Positions.{of-place, last-place}
use Rattle.ris_rows.proofs.lists.find_from_end.Goals as goal

pub returns-in-Some : goal.returns-in-Some
returns-in-Some c =
    let some : 0 < length c.args.items.now = search rules in
    let s : is_of c.in-Some.last.now c.args.end c.args.weight ≡ true = cc in
    of-place c.args.items.now c.args.end c.args.weight (length c.args.items.now - 1) c.in-Some.last.now c.requires (omega arith)
    (subst (λ (n : Neighbour). is_of n c.args.end c.args.weight ≡ true) c.in-Some.ensures.item.1 s)

pub returns-in_default : goal.returns-in_default
returns-in_default c =
    let some : 0 < length c.args.items.now = search rules in
    let t : is_before c.in-Some.last.now c.args.end c.args.weight ≡ true = cc in
    last-place c.args.items.now c.args.end c.args.weight c.in-Some.last.now c.requires some
    (subst (λ (n : Neighbour). is_before n c.args.end c.args.weight ≡ true) c.in-Some.ensures.item.1 t)
