use Rattle.std.proofs.Common.{◌≡◌, ◌∙◌, arith, sym, ap, set, insert, ◌++◌, ◌∷◌, [], if◌then◌else◌, length, Result, Ok, Err, IsOk, is_ok}
use Rattle.std.proofs.lemmas.List.Edits.{insert_end}
use Rattle.ris_rows.specs.Neighbours.{place_of}
use Rattle.ris_rows.specs.declared.neighbours.Neighbour.{Neighbour}
use Rattle.ris_rows.proofs.Positions.{place_of-lt, place_of-le}
use Rattle.ris_rows.proofs.Changes.{counted-found, counted-gone, counted-new, counted-none}
use Rattle.ris_rows.proofs.lists.write.Goals as goal

-- what a call gives where it succeeds
ok_where_room : {T E X : Type 0} (r : Result T E) (x a b : X) → IsOk r → x ≡ (if is_ok r then a else b) → x ≡ a
ok_where_room (Ok _) x a b h e = e
ok_where_room (Err _) x a b h e = cc

pub index_mut-requires : goal.index_mut-requires
index_mut-requires c =
    let found = rw c.in-Ok.is at c.requires.found in
    let lt = place_of-lt c.args.items.now.items c.args.end c.args.weight found.1 in
    let len = c.args.items.now.ok.0 in
    omega (arith, found.0)

pub remove-requires : goal.remove-requires
remove-requires c =
    let found = rw c.in-Ok-2.is at c.requires.found in
    let lt = place_of-lt c.args.items.now.items c.args.end c.args.weight found.1 in
    let len = c.args.items.now.ok.0 in
    omega (arith, found.0)

pub insert-requires : goal.insert-requires
insert-requires c =
    let found = rw c.in-Err.is at c.requires.found in
    let le = place_of-le c.args.items.now.items c.args.end c.args.weight in
    let len = c.args.items.now.ok.0 in
    omega (arith, found.0)

pub returns-in-Ok-clause-items : goal.returns-in-Ok-clause-items
returns-in-Ok-clause-items c =
    let ns = c.args.items.now.items in
    let found = rw c.in-Ok.is at c.requires.found in
    let whole = counted-found ns c.args.end c.args.weight c.args.copies found.1 (omega arith) in
    ap (λ (y : Neighbour). set ns c.in-Ok.place y) c.of-item.ensures ∙ rw found.0 (sym whole)

pub returns-in-Ok-2-clause-items : goal.returns-in-Ok-2-clause-items
returns-in-Ok-2-clause-items c =
    let ns = c.args.items.now.items in
    let found = rw c.in-Ok-2.is at c.requires.found in
    let none : c.args.copies ≡ 0 = omega arith in
    c.remove.ensures.items ∙ rw (found.0, none) (sym (counted-gone ns c.args.end c.args.weight found.1))

pub returns-then-place-len-clause-items : goal.returns-then-place-len-clause-items
returns-then-place-len-clause-items c =
    let ns = c.args.items.now.items in
    let found = rw c.in-Err.is at c.requires.found in
    let len = c.args.items.now.ok.0 in
    let last : place_of ns c.args.end c.args.weight ≡ length ns = omega (arith, found.0) in
    let item : Neighbour = record { end = c.args.end; weight = c.args.weight; copies = c.args.copies } in
    let pushed = insert_end ns item in
    c.push_reserved.ensures.items ∙ ap (λ (y : Neighbour). ns ++ y ∷ []) c.of-item.ensures ∙ sym (counted-new ns c.args.end c.args.weight c.args.copies found.1 (omega arith) ∙ rw last pushed)

pub returns-else-place-len-clause-items : goal.returns-else-place-len-clause-items
returns-else-place-len-clause-items c =
    let ns = c.args.items.now.items in
    let found = rw c.in-Err.is at c.requires.found in
    let done = ok_where_room c.insert.result _ _ _ (c.insert.ensures.succeeds (c.requires.room found.1 (omega arith))) c.insert.ensures.items in
    done ∙ ap (λ (y : Neighbour). insert ns c.in-Err.place y) c.of-item.ensures ∙ rw found.0 (sym (counted-new ns c.args.end c.args.weight c.args.copies found.1 (omega arith)))

pub returns-else-copies-gt0-2-clause-items : goal.returns-else-copies-gt0-2-clause-items
returns-else-copies-gt0-2-clause-items c =
    let ns = c.args.items.now.items in
    let found = rw c.in-Err.is at c.requires.found in
    let none : c.args.copies ≡ 0 = omega arith in
    rw none (sym (counted-none ns c.args.end c.args.weight found.1))
