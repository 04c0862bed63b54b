use Rattle.std.proofs.Common.{◌≡◌, ◌+◌, ◌<◌, ◌++◌, ◌∷◌, ℕ, List, Some, None, [], length, take, ap, inl, inr, sym, ◌∙◌, arith}
use Rattle.std.specs.List.{slice_get}
use Rattle.std.proofs.lemmas.List.{take_more}
use Rattle.std.proofs.lemmas.Option.{get_or_from_slice_get, slice_get_cases}
use Rattle.ris_four.proofs.tables.items_of.Goals as goal
use Rattle.ris_four.proofs.tables.items_of.Goals.{in-Some+in_ok-push, in_default}

-- one more item of a list that is copied item by item
one_more : {X : Type 0} (xs ys old : List X) (k : ℕ) (x : X) → k < length xs → Some x ≡ slice_get xs k → old ≡ take k xs → ys ≡ old ++ x ∷ [] → ys ≡ take (k + 1) xs
one_more xs ys old k x lt at same e =
    e ∙ ap (λ l. l ++ x ∷ []) same ∙ ap (λ y. take k xs ++ y ∷ []) (sym (get_or_from_slice_get xs k x x (sym at))) ∙ sym (take_more xs k x lt)

-- each place below the length has an item
none_within : {X : Type 0} (xs : List X) (k : ℕ) → k < length xs → None ≡ slice_get xs k → ⊥
none_within xs k lt none = elim (slice_get_cases xs k).1 [ inl s ↦ (let some = s.2 in cc) | inr s ↦ (let past = s.0 in omega arith) ]

pub loop-k-preserved : goal.loop-k-preserved
loop-k-preserved g c =
    let len = c.len-k-end.ensures in
    let lt : c.loop-k.k < length c.args.list.now = omega arith in
    elim c.match-get.branch [
      | in-Some+in_ok-push w ↦
          ap (λ v. v.items) w.items-is
          ∙ one_more c.args.list.now w.push.new.self.items c.loop-k.items.items c.loop-k.k w.in-Some.item.now lt
          w.in-Some.ensures c.loop-k.invariant w.in_ok-push.ensures.items
      | in_default w ↦ absurd (none_within c.args.list.now c.loop-k.k lt w.in_default.ensures)
    ]
