-- One vertex more begins anew.
use Rattle.std.proofs.Common.{◌≡◌, ℕ, ◌+◌, ◌<◌, ◌≤◌, List, length, get_or, take, arith, Some, sym, ap, ◌∙◌}
use Rattle.std.proofs.lemmas.List.{take_all}
use Rattle.std.proofs.lemmas.Option.{gets}
use Rattle.ris_repair.specs.Marks.{among}
use Rattle.ris_repair.specs.Stores.{change_at}
use Rattle.ris_repair.proofs.MarkLemmas.{marks_step, marks_same, among-more}
use Rattle.ris_repair.proofs.marking.marked.Goals as goal

pub loop-k-preserved : goal.loop-k-preserved
loop-k-preserved g c =
    let k = c.loop-k.k in
    let xs = c.args.fallen.now in
    let x = c.at-x.result.now in
    let lt : k < length xs = (let t = c.loop-k-test.true in omega arith) in
    let read : get_or xs k x ≡ x = grind (arith, gets) in
    marks_step c.args.graph.now (g.A.Monotone.start_of c.args.forest.now.algo) (among (take k xs)) (among (take (k + 1) xs))
    (change_at c.loop-k.frontier.changes) (change_at c.insert.new.self) x c.loop-k.invariant (c.in_ok-insert.ensures.here ∙ ap Some c.begun_anew.ensures) c.in_ok-insert.ensures.others
    (among-more xs k x lt read)

pub returns : goal.returns
returns g c =
    let k = c.loop-k.k in
    let xs = c.args.fallen.now in
    let all : length xs ≤ k = (let t = c.loop-k-test.false in omega arith) in
    marks_same c.args.graph.now (g.A.Monotone.start_of c.args.forest.now.algo) (among (take k xs)) (among xs) (change_at c.loop-k.frontier.changes) c.loop-k.invariant
    (λ z. ap (λ (l : List ℕ). among l z) (sym (take_all k xs all)))
