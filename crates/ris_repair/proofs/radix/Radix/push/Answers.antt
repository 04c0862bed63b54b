use Rattle.std.proofs.Common.{ℕ, List, ◌∷◌, ◌++◌, subst}
use Rattle.std.specs.List.Sorted.{IsPermutation}
use Rattle.ris_repair.specs.Radix.{bucketed}
use Rattle.ris_repair.proofs.RadixLemmas.{one_more}
use Rattle.ris_repair.proofs.radix.Radix.push.Goals as goal

pub returns-clause-items : goal.returns-clause-items
returns-clause-items c =
    let item : ℕ × ℕ = (c.args.priority, c.args.vertex) in
    let moving = c.self.inside.moving.items in
    subst (λ (old : List (ℕ × ℕ)). IsPermutation (item ∷ old) (moving ++ bucketed c.put.new.buckets)) c.self.view_is
    (one_more moving (bucketed c.self.inside.buckets) (bucketed c.put.new.buckets) item c.in_ok-put.ensures.items)
