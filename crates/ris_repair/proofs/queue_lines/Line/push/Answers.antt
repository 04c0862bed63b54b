-- With the item that may follow, the line's priorities don't rise.
use Rattle.std.proofs.Common.{◌≡◌, ℕ, true, List, sym, subst, ◌∙◌}
use Rattle.ris_repair.specs.Queues.{IsNonRising, may_follow}
use Rattle.ris_repair.proofs.LineLemmas.{pushed_falls}
use Rattle.ris_repair.proofs.queue_lines.Line.push.Goals as goal

pub invariant_of-self-2 : goal.invariant_of-self-2
invariant_of-self-2 c =
    let same = c.self.view_is ∙ c.make_room.ensures in
    subst IsNonRising (sym {A = List (ℕ × ℕ)} c.in_ok-push_back.ensures.items)
    (pushed_falls c.self.inside.items.items c.args.priority c.args.vertex c.self.invariant
    (subst (λ (xs : List (ℕ × ℕ)). may_follow xs c.args.priority ≡ true) (sym same) c.requires))
