-- The steps along the triple, one way or both.
use Rattle.std.proofs.Common.{◌<◌, arith, sym, ◌∙◌}
use Rattle.ris_base.specs.Limits.{vertex_limit}
use Rattle.ris_forest.specs.Cells.{forest_of}
use Rattle.ris_repair.specs.Stores.{change_at}
use Rattle.ris_repair.proofs.AddLemmas.{one_way, first_way, second_way}
use Rattle.ris_repair.proofs.frontiers.Frontier.add_triple.Goals as goal

pub returns-else-BOTH_WAYS : goal.returns-else-BOTH_WAYS
returns-else-BOTH_WAYS g c =
    let more : c.args.item.now.before < c.args.item.now.after = omega arith in
    record {
      kept = λ graph fallen rest proper added start. one_way graph (g.A.Monotone.spec c.args.forest.now.algo) (forest_of c.args.forest.now.cells) vertex_limit fallen
          c.args.item.now rest proper (added more) (change_at c.args.self.now.changes) (change_at c.cross.new.self.changes) c.args.self.now.queue c.cross.new.self.queue
          (sym (g.met.A.Monotone.of_table c.args.forest.now.algo).ways ∙ sym c.BOTH_WAYS.ensures ∙ c.if-BOTH_WAYS.false) c.in_ok-cross.ensures.improved c.in_ok-cross.ensures.same start;
    }

pub returns-in_ok-cross-2 : goal.returns-in_ok-cross-2
returns-in_ok-cross-2 g c =
    let more : c.args.item.now.before < c.args.item.now.after = omega arith in
    let spec = g.A.Monotone.spec c.args.forest.now.algo in
    let F = forest_of c.args.forest.now.cells in
    let n = vertex_limit in
    record {
      kept = λ graph fallen rest proper added start. second_way graph spec F n fallen c.args.item.now rest proper (added more)
          (change_at c.cross.new.self.changes) (change_at c.cross-then-BOTH_WAYS.new.self.changes) c.cross.new.self.queue c.cross-then-BOTH_WAYS.new.self.queue
          (sym (g.met.A.Monotone.of_table c.args.forest.now.algo).ways ∙ sym c.BOTH_WAYS.ensures ∙ c.if-BOTH_WAYS.true) c.in_ok-cross-2.ensures.improved c.in_ok-cross-2.ensures.same
          (first_way graph spec F n fallen c.args.item.now rest proper (added more) (change_at c.args.self.now.changes) (change_at c.cross.new.self.changes)
          c.args.self.now.queue c.cross.new.self.queue c.in_ok-cross.ensures.improved c.in_ok-cross.ensures.same start);
    }
