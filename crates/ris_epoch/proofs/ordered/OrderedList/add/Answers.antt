use Rattle.std.proofs.Common.{List, length, arith, ap, Result, Ok, Err, OnOk, OnErr, ◌∙◌}
use Rattle.ris_epoch.specs.Ordering.{inserted_by}
use Rattle.ris_epoch.proofs.OrderingLemmas.{append-behind, insert-behind}
use Rattle.ris_epoch.proofs.ordered.OrderedList.add.Goals as goal

-- where an error is ruled out, what holds on success holds
on-ok : {A E : Type 0} (r : Result A E) (P Q : Type 0) → OnOk r P → OnErr r Q → ¬ Q → P
on-ok (Ok a) P Q h k never = h
on-ok (Err e) P Q h k never = absurd (never k)

pub returns-then-place-len : goal.returns-then-place-len
returns-then-place-len g c =
    let items = c.self.inside.items in
    let size = items.ok in
    c.push_back_reserved.ensures.items
    ∙ append-behind g.T.Keyed.key_of items.items c.args.item
    (λ i d is. (let last = c.if-place-len.true in let len = c.len.ensures in let below = c.place_of-place.ensures.below i d (omega arith) in let same = c.key.ensures in omega arith))
    ∙ ap (λ (xs : List g.row.T.Denot). inserted_by g.T.Keyed.key_of xs c.args.item) c.self.view_is

pub returns : goal.returns
returns g c =
    let items = c.self.inside.items in
    let long = ap length c.self.view_is in
    let size = items.ok in
    on-ok c.insert.result _ _ c.insert.ensures.items c.insert.ensures.full (λ full. (let room = c.self.invariant in let few = c.requires in omega arith))
    ∙ insert-behind g.T.Keyed.key_of items.items c.place_of-place.result c.args.item (let within = c.place_of-place.ensures.within in omega arith)
    (λ i d low less. (let above = c.place_of-place.ensures.above i d low (omega arith) in let is = c.key.ensures in omega arith))
    (λ i d is. (let below = c.place_of-place.ensures.below i d is in let same = c.key.ensures in omega arith))
    ∙ ap (λ (xs : List g.row.T.Denot). inserted_by g.T.Keyed.key_of xs c.args.item) c.self.view_is
