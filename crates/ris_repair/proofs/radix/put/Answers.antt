use Rattle.std.proofs.Common.{◌≡◌, ℕ, ◌<◌, List, ◌++◌, ◌∷◌, [], set, length, subst, sym, arith, Result, Ok, Err}
use Rattle.std.specs.Result.{OnOk, OnErr}
use Rattle.std.specs.List.Sorted.{IsPermutation}
use Rattle.std.proofs.lemmas.List.Elements.{All-push}
use Rattle.std.proofs.lemmas.Result.{on_ok_weaker}
use Rattle.ris_repair.specs.Radix.{bucket_at, bucketed, IsPlaced, ArePlaced}
use Rattle.ris_repair.proofs.RadixLemmas.{placed_set, bucketed_more}
use Rattle.ris_repair.proofs.radix.put.Goals as goal

pub returns-clause-items : goal.returns-clause-items
returns-clause-items c =
    let within : c.number_of.result < length c.args.buckets.now = omega arith in
    on_ok_weaker c.push.result
    (λ is. subst (λ (bs : List (List (ℕ × ℕ))). IsPermutation (c.args.item ∷ bucketed c.args.buckets.now) (bucketed bs)) (sym is)
    (bucketed_more c.args.buckets.now c.number_of.result c.args.item within))
    c.push.ensures.ok

-- after either answer each item stands in its bucket
placed_after : {T E : Type 0} (last : ℕ) (old put new : List (List (ℕ × ℕ))) (r : Result T E) → OnOk r (new ≡ put) → OnErr r (new ≡ old)
    → ArePlaced last old → ArePlaced last put → ArePlaced last new
placed_after last old put new (Ok x) ok err before after = subst (ArePlaced last) (sym ok) after
placed_after last old put new (Err x) ok err before after = subst (ArePlaced last) (sym err) before

pub returns-clause-placed : goal.returns-clause-placed
returns-clause-placed c =
    let within : c.number_of.result < length c.args.buckets.now = omega arith in
    let old = c.args.buckets.now in
    let number = c.number_of.result in
    let bucket = bucket_at old number in
    placed_after c.args.last old (set old number (bucket ++ c.args.item ∷ [])) c.push.new.self c.push.result c.push.ensures.ok c.push.ensures.err c.requires.placed
    (placed_set c.args.last old number (bucket ++ c.args.item ∷ []) within
    (All-push (λ item. IsPlaced c.args.last number item.0) bucket c.args.item (c.requires.placed number) c.number_of.ensures.placed) c.requires.placed)
