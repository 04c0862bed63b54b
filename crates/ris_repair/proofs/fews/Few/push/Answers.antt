-- One vertex more beside its change.
use Rattle.std.proofs.Common.{◌≡◌, ◌∷◌, ◌++◌, [], ℕ, List, None, rules, sym, subst, ap, ◌∙◌}
use Rattle.ris_repair.specs.Fews.{change_in, AreSideBySide}
use Rattle.ris_repair.specs.declared.stores.Change.{Change}
use Rattle.std.specs.List.{zip}
use Rattle.ris_repair.proofs.FewLemmas.{zip-push, push-once}
use Rattle.ris_repair.proofs.fews.Few.push.Goals as goal

pub invariant_of-self-else-is_err : goal.invariant_of-self-else-is_err
invariant_of-self-else-is_err c =
    let vs = c.self.inside.vertices.items in
    let cs = c.self.inside.changes.items in
    let none : change_in (zip vs cs) c.args.vertex ≡ None = ap (λ (l : List (ℕ × Change)). change_in l c.args.vertex) (c.self.view_is ∙ c.make_room.ensures) ∙ c.requires in
    let more : c.push-2.new.self.items ≡ cs ++ c.args.change ∷ [] = search rules in
    subst (λ (l : List ℕ). AreSideBySide l c.push-2.new.self.items) (sym c.in_ok-push.ensures.items)
    (subst (λ (l : List Change). AreSideBySide (vs ++ c.args.vertex ∷ []) l) (sym more) (push-once vs cs c.args.vertex c.args.change c.self.invariant none))

pub returns-clause-ok : goal.returns-clause-ok
returns-clause-ok c =
    let vs = c.self.inside.vertices.items in
    let cs = c.self.inside.changes.items in
    let more : c.push-2.new.self.items ≡ cs ++ c.args.change ∷ [] = search rules in
    ap (λ (l : List ℕ). zip l c.push-2.new.self.items) c.in_ok-push.ensures.items
    ∙ ap (λ (l : List Change). zip (vs ++ c.args.vertex ∷ []) l) more
    ∙ zip-push vs cs c.args.vertex c.args.change c.self.invariant.size
    ∙ ap (λ (l : List (ℕ × Change)). l ++ (c.args.vertex, c.args.change) ∷ []) (c.self.view_is ∙ c.make_room.ensures)
