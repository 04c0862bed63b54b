-- One vertex number more, and what all of them make.
use Rattle.std.proofs.Common.{◌≡◌, ℕ, ◌+◌, Bool, ◌&&◌, nat_lt, [], ◌∷◌, Some, length, arith, sym, subst, ap, ◌∙◌}
use Rattle.ris_base.specs.declared.graphs.Format.{Format}
use Rattle.ris_graph.specs.GraphView.{vertex_in}
use Rattle.ris_repair.specs.Stores.{change_at}
use Rattle.ris_repair.proofs.MarkLemmas.{scratched, marks_step, marks_same, present_more, missing_more}
use Rattle.ris_repair.proofs.QueueLemmas.{queued_all, queued_but}
use Rattle.ris_repair.proofs.RepairLemmas.{present_tests}
use Rattle.ris_repair.proofs.marking.all_marked.Goals as goal
use Rattle.ris_repair.proofs.marking.all_marked.Goals.{then-has_vertex+in_ok-put, else-has_vertex}

pub loop-x-preserved : goal.loop-x-preserved
loop-x-preserved g c =
    let graph = c.args.graph.now in
    let start = g.A.Monotone.start_of c.args.forest.now.algo in
    let x = c.loop-x.x in
    let test : ℕ → Bool = λ z. vertex_in graph z && nat_lt z x in
    let more : ℕ → Bool = λ z. vertex_in graph z && nat_lt z (x + 1) in
    let old = change_at c.loop-x.frontier.changes in
    let I = c.loop-x.invariant in
    let kind = (g.A.Monotone.spec c.args.forest.now.algo).kind in
    elim c.if-has_vertex.branch [
      | then-has_vertex+in_ok-put w ↦ rw w.frontier-is (record {
        marks = marks_step graph start test more old (change_at w.put.new.self.changes) x I.marks (w.in_ok-put.ensures.here ∙ ap Some w.begun_anew.ensures) w.in_ok-put.ensures.others
            (present_more graph x (sym c.has_vertex.ensures ∙ w.if-has_vertex.true));
        queued = queued_all kind (change_at w.put.new.self.changes) w.put.new.self.queue
            (w.in_ok-put.ensures.queued [] (queued_but kind old c.loop-x.frontier.queue (x ∷ []) I.queued));
      })
      | else-has_vertex w ↦ rw w.frontier-is (record {
        marks = marks_same graph start test more old I.marks (missing_more graph x (sym c.has_vertex.ensures ∙ w.if-has_vertex.false));
        queued = I.queued;
      })
    ]

pub returns : goal.returns
returns g c = λ graph of.
    let start = g.A.Monotone.start_of c.args.forest.now.algo in
    let changes = change_at c.loop-x.frontier.changes in
    let size = length c.args.forest.now.cells in
    let whole : size ≡ c.loop-x.x = (let some = c.loop-x-test.false in let all = c.loop-x.auto.x-end in let is = c.size-x-end.ensures.size in omega arith) in
    scratched c.args.graph.now graph (g.A.Monotone.spec c.args.forest.now.algo) c.args.forest.now.cells start
    (λ x. vertex_in c.args.graph.now x && nat_lt x size) changes c.loop-x.frontier.queue of c.requires.absent
    (λ x. (g.met.A.Monotone.of_table c.args.forest.now.algo).starts graph x (subst (λ (f : Format). g.A.Monotone.suits c.args.forest.now.algo f) (sym of.format) c.requires.suits))
    (present_tests c.args.graph.now graph size of c.requires.room)
    (marks_same c.args.graph.now start (λ x. vertex_in c.args.graph.now x && nat_lt x c.loop-x.x) (λ x. vertex_in c.args.graph.now x && nat_lt x size) changes
    c.loop-x.invariant.marks (λ z. ap (λ (k : ℕ). vertex_in c.args.graph.now z && nat_lt z k) whole))
    c.loop-x.invariant.queued
