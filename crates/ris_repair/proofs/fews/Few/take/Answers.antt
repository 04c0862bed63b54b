-- The change at the place that the search found is taken.
use Rattle.std.proofs.Common.{◌≡◌, ℕ, List, Option, Some, None, IfSome, IfNone, nat_eq, sym, subst, ap, ◌∙◌}
use Rattle.std.specs.List.{position}
use Rattle.ris_repair.specs.Changes.{IsTakenChange, IsNoRank, waiting_number}
use Rattle.ris_repair.specs.Fews.{change_in}
use Rattle.ris_repair.specs.declared.stores.Change.{Change}
use Rattle.ris_repair.proofs.FewLemmas.{found-change, found-here, found-others, missed-change}
use Rattle.ris_repair.proofs.fews.Few.take.Goals as goal

pub returns-in-Some-clause-taken : goal.returns-in-Some-clause-taken
returns-in-Some-clause-taken g c =
    let v = c.args.vertex in
    let vs = c.self.inside.vertices.items in
    let cs = c.self.inside.changes.items in
    let kind = (g.A.Monotone.spec c.args.algo.now).kind in
    let found : Some c.in-Some.place ≡ position (nat_eq v) vs = c.in-Some.ensures ∙ ap (position (nat_eq v)) c.deref.ensures.value in
    let was = sym (found-change vs cs c.self.invariant v c.in-Some.place found c.index_mut.result.now c.index_mut.ensures.value) ∙ ap (λ (l : List (ℕ × Change)). change_in l v) c.self.view_is in
    let is = sym (found-here vs cs c.self.invariant v c.in-Some.place found c.take.new.self) in
    subst (λ (o : Option Change). IfSome c.take.result (λ number. IsTakenChange kind c.args.best (change_in c.args.self.now v) number o)) is
    (subst (λ (o : Option Change). IfSome c.take.result (λ number. IsTakenChange kind c.args.best o number (Some c.take.new.self))) was c.take.ensures.taken)

pub returns-in-Some-clause-none : goal.returns-in-Some-clause-none
returns-in-Some-clause-none g c =
    let v = c.args.vertex in
    let vs = c.self.inside.vertices.items in
    let cs = c.self.inside.changes.items in
    let found : Some c.in-Some.place ≡ position (nat_eq v) vs = c.in-Some.ensures ∙ ap (position (nat_eq v)) c.deref.ensures.value in
    let was = sym (found-change vs cs c.self.invariant v c.in-Some.place found c.index_mut.result.now c.index_mut.ensures.value) ∙ ap (λ (l : List (ℕ × Change)). change_in l v) c.self.view_is in
    subst (λ (o : Option Change). IfNone c.take.result (IsNoRank (g.A.Monotone.spec c.args.algo.now).kind c.args.best o)) was c.take.ensures.none

pub returns-in-Some-clause-others : goal.returns-in-Some-clause-others
returns-in-Some-clause-others g c = λ y off.
    let v = c.args.vertex in
    let found : Some c.in-Some.place ≡ position (nat_eq v) c.self.inside.vertices.items = c.in-Some.ensures ∙ ap (position (nat_eq v)) c.deref.ensures.value in
    found-others c.self.inside.vertices.items c.self.inside.changes.items c.self.invariant v c.in-Some.place found c.take.new.self y off
    ∙ ap (λ (l : List (ℕ × Change)). change_in l y) c.self.view_is

pub returns-in-None-clause-none : goal.returns-in-None-clause-none
returns-in-None-clause-none g c = λ d is.
    let v = c.args.vertex in
    let missed : None ≡ position (nat_eq v) c.self.inside.vertices.items = c.in-None.ensures ∙ ap (position (nat_eq v)) c.deref.ensures.value in
    let none = missed-change c.self.inside.vertices.items c.self.inside.changes.items c.self.invariant v missed in
    let no : waiting_number (change_in c.args.self.now v) ≡ None = ap (λ (l : List (ℕ × Change)). waiting_number (change_in l v)) (sym c.self.view_is) ∙ ap waiting_number none in
    absurd (cc)
