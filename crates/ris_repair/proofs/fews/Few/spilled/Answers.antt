-- The map has what was put into it in turn.
use Rattle.std.proofs.Common.{◌≡◌, ◌∷◌, ◌++◌, [], ℕ, List, None, nat_eq, take, get_or, arith, refl, sym, ap, ◌∙◌}
use Rattle.std.specs.Cmp.{nat_eq_equiv}
use Rattle.std.specs.HashMap.{get}
use Rattle.std.specs.Map.{update_all}
use Rattle.std.proofs.lemmas.List.{take_more, take_all}
use Rattle.std.proofs.lemmas.Map.{update_all_push}
use Rattle.std.proofs.lemmas.Map.Made.{update_all_none}
use Rattle.std.proofs.lemmas.Option.{get_or_from_slice_get, slice_get_within}
use Rattle.ris_repair.specs.declared.stores.Change.{Change}
use Rattle.ris_repair.proofs.fews.Few.spilled.Goals as goal

pub loop-number-preserved : goal.loop-number-preserved
loop-number-preserved c = λ x.
    let few = c.args.self.now in
    let n = c.loop-number.number in
    let pair = c.at-vertex.result in
    let here : get_or few n pair ≡ pair = get_or_from_slice_get few n pair pair c.at-vertex.ensures in
    let low = slice_get_within few n pair c.at-vertex.ensures in
    c.in_ok-insert.ensures.updates.0 x
    ∙ update_all_push nat_eq (λ _. None) (get nat_eq c.loop-number.map) (take n few) pair x (c.loop-number.invariant x)
    ∙ ap (λ (l : List (ℕ × Change)). update_all nat_eq (λ _. None) l x)
    (ap (λ (p : ℕ × Change). take n few ++ p ∷ []) (sym here) ∙ sym (take_more few n pair low))

pub returns : goal.returns
returns c = λ x.
    let few = c.args.self.now in
    c.loop-number.invariant x
    ∙ ap (λ (l : List (ℕ × Change)). update_all nat_eq (λ _. None) l x) (take_all c.loop-number.number few (let end = c.len-number-end.ensures.len in let past = c.loop-number-test.false in omega arith))
    ∙ update_all_none nat_eq_equiv nat_eq (λ a b. refl) few x c.len-number-end.ensures.once
