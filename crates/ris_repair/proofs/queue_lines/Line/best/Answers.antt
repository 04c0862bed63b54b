-- No item is above the first.
use Rattle.std.proofs.Common.{ℕ, ◌≤◌, List, subst}
use Rattle.std.specs.List.{All}
use Rattle.ris_repair.proofs.LineLemmas.{all_below}
use Rattle.ris_repair.proofs.queue_lines.Line.best.Goals as goal

pub returns-in-Some-clause-greatest : goal.returns-in-Some-clause-greatest
returns-in-Some-clause-greatest c =
    subst (λ (xs : List (ℕ × ℕ)). All (λ item. item.0 ≤ c.in-Some.first.now.0) xs) c.self.view_is
    (all_below c.self.inside.items.items c.in-Some.first.now c.self.invariant c.in-Some.ensures.lookup)
