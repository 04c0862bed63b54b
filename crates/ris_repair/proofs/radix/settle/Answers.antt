use Rattle.std.proofs.Common.{◌≡◌, ◌-◌, ◌<◌, ◌≤◌, ◌++◌, ℕ, List, Some, length, get_or, arith, ap, sym, ◌∙◌}
use Rattle.std.specs.Option.{option_to_list}
use Rattle.std.proofs.lemmas.List.Elements.{All-pop}
use Rattle.ris_repair.specs.Radix.{bucketed}
use Rattle.ris_repair.proofs.RadixLemmas.{settled}
use Rattle.ris_repair.proofs.radix.settle.Goals as goal

pub loop-item-preserved : goal.loop-item-preserved
loop-item-preserved c =
    let moving = c.loop-item.moving in
    let item = c.in-Some.item.now in
    let last : item ≡ get_or moving.items (moving.len - 1) item =
    c.in-Some.ensures.item.1
    ∙ ap (λ (xs : List (ℕ × ℕ)). get_or xs (length xs - 1) item) c.deref.ensures.value
    ∙ ap (λ (n : ℕ). get_or moving.items (n - 1) item) (sym moving.ok.0) in
    let some : 0 < moving.len = omega (arith, c.in-Some.ensures.item.3.0, ap (λ (xs : List (ℕ × ℕ)). length xs) c.deref.ensures.value) in
    let found : c.pop.result ≡ Some item = c.pop.ensures.value item some ∙ ap Some (sym last) in
    record {
      radix = record {
        size = λ _. c.put.ensures.size;
        placed = c.put.ensures.placed;
        below =
            (All-pop (λ (x : ℕ × ℕ). x.0 ≤ c.args.last) moving.items c.pop.new.self.items c.pop.result c.pop.ensures.items c.loop-item.invariant.radix.below).0;
      };
      items =
          settled _ moving.items c.pop.new.self.items (bucketed c.loop-item.buckets) (bucketed c.put.new.buckets) item
          (c.pop.ensures.items ∙ ap (λ r. c.pop.new.self.items ++ option_to_list r) found) c.in_ok-put.ensures.items c.loop-item.invariant.items;
    }
