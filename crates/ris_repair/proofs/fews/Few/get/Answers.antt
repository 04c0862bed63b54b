-- The change at the place that the search found.
use Rattle.std.proofs.Common.{◌≡◌, ℕ, List, Some, None, nat_eq, sym, ap, ◌∙◌}
use Rattle.std.specs.List.{position}
use Rattle.ris_repair.specs.Fews.{change_in}
use Rattle.ris_repair.specs.declared.stores.Change.{Change}
use Rattle.ris_repair.proofs.FewLemmas.{found-change, missed-change}
use Rattle.ris_repair.proofs.fews.Few.get.Goals as goal

pub returns-in-Some : goal.returns-in-Some
returns-in-Some c =
    let v = c.args.vertex in
    let found : Some c.in-Some.place ≡ position (nat_eq v) c.self.inside.vertices.items = c.in-Some.ensures ∙ ap (position (nat_eq v)) c.deref.ensures.value in
    sym (found-change c.self.inside.vertices.items c.self.inside.changes.items c.self.invariant v c.in-Some.place found c.index.result.now c.index.ensures)
    ∙ ap (λ (l : List (ℕ × Change)). change_in l v) c.self.view_is

pub returns-in-None : goal.returns-in-None
returns-in-None c =
    let v = c.args.vertex in
    let missed : None ≡ position (nat_eq v) c.self.inside.vertices.items = c.in-None.ensures ∙ ap (position (nat_eq v)) c.deref.ensures.value in
    sym (missed-change c.self.inside.vertices.items c.self.inside.changes.items c.self.invariant v missed)
    ∙ ap (λ (l : List (ℕ × Change)). change_in l v) c.self.view_is
