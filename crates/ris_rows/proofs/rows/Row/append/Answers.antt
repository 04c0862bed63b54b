use Rattle.std.proofs.Common.{◌≡◌, ◌+◌}
use Rattle.ris_rows.specs.Neighbours.{copies_of}
use Rattle.ris_rows.proofs.Changes.{IsAscending-counted, copies_of-more}
use Rattle.ris_rows.proofs.rows.Row.append.Goals as goal

pub invariant_of-self : goal.invariant_of-self
invariant_of-self g c =
    rw c.put_last.ensures.items (IsAscending-counted c.self.inside.items.items c.args.end c.args.weight (copies_of c.self.inside.items.items c.args.end c.args.weight + 1) c.self.invariant)

pub returns-then-goes_last-clause-counts : goal.returns-then-goes_last-clause-counts
returns-then-goes_last-clause-counts g c e w =
    rw (c.put_last.ensures.items, ← c.self.view_is) (copies_of-more c.self.inside.items.items c.args.end c.args.weight e w c.self.invariant)

pub returns-then-goes_last-clause-ascending : goal.returns-then-goes_last-clause-ascending
returns-then-goes_last-clause-ascending g c =
    rw c.put_last.ensures.items (IsAscending-counted c.self.inside.items.items c.args.end c.args.weight (copies_of c.self.inside.items.items c.args.end c.args.weight + 1) c.self.invariant)

pub invariant_of-self-2 : goal.invariant_of-self-2
invariant_of-self-2 g c = rw c.write.ensures.items (IsAscending-counted c.self.inside.items.items c.args.end c.args.weight (c.copies_at-copies.result + 1) c.self.invariant)

pub returns-clause-counts : goal.returns-clause-counts
returns-clause-counts g c e w =
    let read : c.copies_at-copies.result ≡ copies_of c.self.inside.items.items c.args.end c.args.weight = rw c.deref-3.ensures.value at c.copies_at-copies.ensures in
    rw (c.write.ensures.items, read, ← c.self.view_is) (copies_of-more c.self.inside.items.items c.args.end c.args.weight e w c.self.invariant)

pub returns-clause-ascending : goal.returns-clause-ascending
returns-clause-ascending g c = rw c.write.ensures.items (IsAscending-counted c.self.inside.items.items c.args.end c.args.weight (c.copies_at-copies.result + 1) c.self.invariant)
