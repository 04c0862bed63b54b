use Rattle.std.proofs.Common.{◌≡◌, ap, arith}
use Rattle.ris_rows.specs.Neighbours.{copies_of}
use Rattle.ris_rows.specs.RowView.{RowView}
use Rattle.ris_rows.proofs.Changes.{IsAscending-counted, copies_of-counted}
use Rattle.ris_rows.proofs.Positions.{copies_of-missing}
use Rattle.ris_rows.proofs.rows.Row.put.Goals as goal

pub write-requires-clause-room : goal.write-requires-clause-room
write-requires-clause-room g c missing some =
    let none : copies_of c.args.self.now.items c.args.end c.args.weight ≡ 0 = rw (← c.self.view_is) (copies_of-missing c.self.inside.items.items c.args.end c.args.weight c.self.invariant missing) in
    let room = c.requires none some in
    let same = ap (λ (r : RowView). r.spare) c.self.view_is in
    omega arith

pub invariant_of-self : goal.invariant_of-self
invariant_of-self g c = rw c.write.ensures.items (IsAscending-counted c.self.inside.items.items c.args.end c.args.weight c.args.copies c.self.invariant)

pub returns-clause-counts : goal.returns-clause-counts
returns-clause-counts g c e w =
    rw (c.write.ensures.items, ← c.self.view_is) (copies_of-counted c.self.inside.items.items c.args.end c.args.weight c.args.copies e w c.self.invariant)

pub returns-clause-ascending : goal.returns-clause-ascending
returns-clause-ascending g c = rw c.write.ensures.items (IsAscending-counted c.self.inside.items.items c.args.end c.args.weight c.args.copies c.self.invariant)
