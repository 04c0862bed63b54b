-- The others don't rise, and none is above the first.
use Rattle.std.proofs.Common.{ℕ, ◌≤◌, List, sym, subst}
use Rattle.std.specs.List.{All}
use Rattle.std.proofs.lemmas.Option.{IfSome_then}
use Rattle.ris_repair.proofs.LineLemmas.{rest_below}
use Rattle.ris_repair.proofs.queue_lines.Line.pop.Goals as goal

pub returns-clause-best : goal.returns-clause-best
returns-clause-best c = IfSome_then c.pop_front.result c.pop_front.ensures.lookup
    (λ top is. subst (λ (xs : List (ℕ × ℕ)). All (λ item. item.0 ≤ top.0) xs) (sym c.pop_front.ensures.rest) (rest_below c.self.inside.items.items top c.self.invariant is))
