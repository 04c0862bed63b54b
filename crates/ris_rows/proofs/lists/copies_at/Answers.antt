use Rattle.std.proofs.Common.{rules, ◌<◌, ◌∙◌, ap, sym, length}
use Rattle.ris_rows.specs.declared.neighbours.Neighbour.{Neighbour}
use Rattle.ris_rows.proofs.Positions.{place_of-lt, copies_of-item, copies_of-missing}
use Rattle.ris_rows.proofs.lists.copies_at.Goals as goal
use Rattle.ris_rows.proofs.lists.copies_at.Goals.{In-Ok}

within : (c : In-Ok) → c.in-Ok.place < length c.args.items.now
within c =
    let found = rw c.in-Ok.is at c.requires.found in
    rw found.0 (place_of-lt c.args.items.now c.args.end c.args.weight found.1)

pub offset_bounds-items-place : goal.offset_bounds-items-place
offset_bounds-items-place c = let lt = within c in search rules

pub bounds-items-place : goal.bounds-items-place
bounds-items-place c = within c

pub returns-in-Ok : goal.returns-in-Ok
returns-in-Ok c =
    let found = rw c.in-Ok.is at c.requires.found in
    let there = copies_of-item c.args.items.now c.args.end c.args.weight c.index-items-place.result c.in-Ok.place c.requires.ascending found.0 found.1 c.index-items-place.is in
    ap (λ (y : Neighbour). y.copies) c.neighbour.ensures ∙ sym there

pub returns-in-Err : goal.returns-in-Err
returns-in-Err c =
    let found = rw c.in-Err.is at c.requires.found in
    sym (copies_of-missing c.args.items.now c.args.end c.args.weight c.requires.ascending found.1)
