-- The change is written at the place that the search found, or comes after the others.
use Rattle.std.proofs.Common.{◌≡◌, ℕ, List, Some, None, nat_eq, sym, ap, ◌∙◌}
use Rattle.std.specs.List.{position}
use Rattle.std.proofs.lemmas.Result.{on_ok_weaker}
use Rattle.ris_repair.specs.Fews.{change_in}
use Rattle.ris_repair.specs.declared.stores.Change.{Change}
use Rattle.ris_repair.proofs.FewLemmas.{found-here, found-others, missed-change, push-here, push-others}
use Rattle.ris_repair.proofs.fews.Few.put.Goals as goal

pub push-requires : goal.push-requires
push-requires c =
    let v = c.args.vertex in
    let missed : None ≡ position (nat_eq v) c.self.inside.vertices.items = c.in-None.ensures ∙ ap (position (nat_eq v)) c.deref.ensures.value in
    ap (λ (l : List (ℕ × Change)). change_in l v) (sym c.self.view_is)
    ∙ missed-change c.self.inside.vertices.items c.self.inside.changes.items c.self.invariant v missed

pub returns-in-Some-clause-here : goal.returns-in-Some-clause-here
returns-in-Some-clause-here c =
    let v = c.args.vertex in
    let found : Some c.in-Some.place ≡ position (nat_eq v) c.self.inside.vertices.items = c.in-Some.ensures ∙ ap (position (nat_eq v)) c.deref.ensures.value in
    found-here c.self.inside.vertices.items c.self.inside.changes.items c.self.invariant v c.in-Some.place found c.args.change

pub returns-in-Some-clause-others : goal.returns-in-Some-clause-others
returns-in-Some-clause-others c = λ y off.
    let v = c.args.vertex in
    let found : Some c.in-Some.place ≡ position (nat_eq v) c.self.inside.vertices.items = c.in-Some.ensures ∙ ap (position (nat_eq v)) c.deref.ensures.value in
    found-others c.self.inside.vertices.items c.self.inside.changes.items c.self.invariant v c.in-Some.place found c.args.change y off
    ∙ ap (λ (l : List (ℕ × Change)). change_in l y) c.self.view_is

pub returns-in-None-clause-here : goal.returns-in-None-clause-here
returns-in-None-clause-here c =
    let v = c.args.vertex in
    let missed : None ≡ position (nat_eq v) c.self.inside.vertices.items = c.in-None.ensures ∙ ap (position (nat_eq v)) c.deref.ensures.value in
    let none = ap (λ (l : List (ℕ × Change)). change_in l v) (sym c.self.view_is)
    ∙ missed-change c.self.inside.vertices.items c.self.inside.changes.items c.self.invariant v missed in
    on_ok_weaker c.push.result (λ more. ap (λ (l : List (ℕ × Change)). change_in l c.args.vertex) more ∙ push-here c.args.self.now c.args.vertex c.args.change none) c.push.ensures.ok

pub returns-in-None-clause-others : goal.returns-in-None-clause-others
returns-in-None-clause-others c =
    on_ok_weaker c.push.result (λ more y off. ap (λ (l : List (ℕ × Change)). change_in l y) more ∙ push-others c.args.self.now c.args.vertex y c.args.change off) c.push.ensures.ok
