-- The best of one line and the pile is the best of all, where the other line's front doesn't lead.
use Rattle.std.proofs.Common.{◌≡◌, ℕ, ◌∷◌, ◌++◌, List, [], sym, subst}
use Rattle.std.proofs.lemmas.Result.{on_err_weaker}
use Rattle.ris_repair.specs.Queues.{front_priority}
use Rattle.ris_repair.proofs.FoundLemmas.{found_some, found_both, found_none, none_both}
use Rattle.ris_repair.proofs.PartLemmas.{taken_first, taken_second, best_first, best_second, leads_back, second_empty, all_empty, taken_length}
use Rattle.ris_repair.proofs.lined_piles.LinedPile.pop.Goals as goal
use Rattle.ris_repair.proofs.lined_piles.LinedPile.pop.Goals.{After-pop_better-else-leads}

pub returns-then-leads-clause-items : goal.returns-then-leads-clause-items
returns-then-leads-clause-items c =
    let q = c.self.inside in
    rw (← c.self.view_is) (found_some c.pop_better.result (λ top. taken_second (top ∷ []) q.first q.second q.pile c.pop_better.new.line c.pop_better.new.pile) c.pop_better.ensures.items)

pub returns-then-leads-clause-best : goal.returns-then-leads-clause-best
returns-then-leads-clause-best c =
    let q = c.self.inside in
    found_both c.pop_better.result
    (λ top. best_second q.first q.second q.pile c.pop_better.new.line c.pop_better.new.pile c.best-2.result c.best.result top
    c.best-2.ensures.front c.best-2.ensures.greatest c.best.ensures.front (leads_back c.best.result c.best-2.result (sym c.if-leads.ensures)))
    c.pop_better.ensures.items c.pop_better.ensures.best

pub returns-then-leads-clause-len : goal.returns-then-leads-clause-len
returns-then-leads-clause-len c =
    let q = c.self.inside in
    let call = c.pop_better in
    let left = (q.first ++ call.new.line) ++ call.new.pile in
    rw (← c.self.view_is) (found_some call.result
    (λ top moved. taken_length top ((q.first ++ q.second) ++ q.pile) left (taken_second (top ∷ []) q.first q.second q.pile call.new.line call.new.pile moved))
    call.ensures.items)

pub returns-then-leads-clause-unchanged : goal.returns-then-leads-clause-unchanged
returns-then-leads-clause-unchanged c =
    let q = c.self.inside in
    rw (← c.self.view_is) (on_err_weaker c.pop_better.result (taken_second [] q.first q.second q.pile c.pop_better.new.line c.pop_better.new.pile) c.pop_better.ensures.unchanged)

pub returns-else-leads-clause-items : goal.returns-else-leads-clause-items
returns-else-leads-clause-items c =
    let q = c.self.inside in
    let call = c.pop_better-else-leads in
    rw (← c.self.view_is) (found_some call.result (λ top. taken_first (top ∷ []) q.first q.second q.pile call.new.line call.new.pile) call.ensures.items)

pub returns-else-leads-clause-best : goal.returns-else-leads-clause-best
returns-else-leads-clause-best c =
    let q = c.self.inside in
    let call = c.pop_better-else-leads in
    found_both call.result
    (λ top. best_first q.first q.second q.pile call.new.line call.new.pile c.best-2.result c.best.result top
    c.best-2.ensures.front c.best.ensures.front c.best.ensures.greatest (sym c.if-leads.ensures))
    call.ensures.items call.ensures.best

pub returns-else-leads-clause-len : goal.returns-else-leads-clause-len
returns-else-leads-clause-len c =
    let q = c.self.inside in
    let call = c.pop_better-else-leads in
    let left = (call.new.line ++ q.second) ++ call.new.pile in
    rw (← c.self.view_is) (found_some call.result
    (λ top moved. taken_length top ((q.first ++ q.second) ++ q.pile) left (taken_first (top ∷ []) q.first q.second q.pile call.new.line call.new.pile moved))
    call.ensures.items)

-- where the first line is empty, so is the second
second_none : (c : After-pop_better-else-leads) → c.self.inside.first ≡ [] → c.self.inside.second ≡ []
second_none c none = second_empty c.self.inside.second c.best-2.result c.best.result
    (subst (λ (xs : List (ℕ × ℕ)). c.best-2.result ≡ front_priority xs) none c.best-2.ensures.front) c.best.ensures.front (sym c.if-leads.ensures)

pub returns-else-leads-clause-none : goal.returns-else-leads-clause-none
returns-else-leads-clause-none c =
    let q = c.self.inside in
    let call = c.pop_better-else-leads in
    rw (← c.self.view_is) (found_none call.result (λ none. all_empty q.first q.second q.pile none.0 (second_none c none.0) none.1) call.ensures.none)

pub returns-else-leads-clause-none_new : goal.returns-else-leads-clause-none_new
returns-else-leads-clause-none_new c =
    let q = c.self.inside in
    let call = c.pop_better-else-leads in
    none_both call.result (λ none left. all_empty call.new.line q.second call.new.pile left.0 (second_none c none.0) left.1) call.ensures.none call.ensures.none_new

pub returns-else-leads-clause-unchanged : goal.returns-else-leads-clause-unchanged
returns-else-leads-clause-unchanged c =
    let q = c.self.inside in
    let call = c.pop_better-else-leads in
    rw (← c.self.view_is) (on_err_weaker call.result (taken_first [] q.first q.second q.pile call.new.line call.new.pile) call.ensures.unchanged)
