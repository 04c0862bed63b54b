-- What was pulled stands in the table then.
use Rattle.std.proofs.Common.{◌≡◌, ℕ, [], Option, Some, refl, sym, subst, ap, ◌∙◌}
use Rattle.ris_base.specs.Limits.{vertex_limit}
use Rattle.ris_forest.specs.Cells.{forest_of}
use Rattle.ris_repair.specs.Changes.{with_change}
use Rattle.ris_repair.specs.Rows.{origins_of, origin_count}
use Rattle.ris_repair.specs.Stages.{IsPrepared, unpulled}
use Rattle.ris_repair.specs.Stores.{change_at}
use Rattle.ris_repair.specs.declared.stores.Change.{Change}
use Rattle.ris_repair.proofs.LocalLemmas.{with_from, with_same, no_number}
use Rattle.ris_repair.proofs.QueueLemmas.{put_none, idle_without}
use Rattle.ris_repair.proofs.RiseLemmas.{rise_none}
use Rattle.ris_repair.proofs.frontiers.Frontier.pull_vertex.Goals as goal

pub returns-in-None-clause-ticks : goal.returns-in-None-clause-ticks
returns-in-None-clause-ticks g c = rise_none (g.M.Meter.ticks c.args.meter.now) (origin_count g.A.Monotone.BOTH_WAYS c.args.graph.now c.args.vertex)

pub returns-in_ok-put-clause-kept : goal.returns-in_ok-put-clause-kept
returns-in_ok-put-clause-kept g c = λ p graph fallen rest queue of has start.
    let spec = g.A.Monotone.spec c.args.forest.now.algo in
    let F = forest_of c.args.forest.now.cells in
    let f = change_at c.args.self.now.changes in
    let x = c.args.vertex in
    let after = c.pull_rows.ensures.kept p graph fallen rest queue of has
    (subst (λ (t : ℕ → Option Change). IsPrepared graph spec F vertex_limit fallen t queue (unpulled p x (origins_of g.A.Monotone.BOTH_WAYS c.args.graph.now x) rest))
    (sym (with_same f x c.in-Some.change (sym c.in-Some.ensures))) start) in (
      after.0,
      subst (λ (t : ℕ → Option Change). IsPrepared graph spec F vertex_limit fallen t after.0 (unpulled p x [] rest))
          (with_from f x c.pull_rows.new.best (change_at c.put.new.self.changes) c.in_ok-put.ensures.here c.in_ok-put.ensures.others) after.1,
    )

pub returns-in_default : goal.returns-in_default
returns-in_default g c =
    let spec = g.A.Monotone.spec c.args.forest.now.algo in
    let F = forest_of c.args.forest.now.cells in
    let f = change_at c.args.self.now.changes in
    let x = c.args.vertex in
    let first = c.in-Some.change in
    let at : f x ≡ Some first = sym c.in-Some.ensures in
    let same : c.pull_rows.new.best ≡ first = c.pull_rows.ensures.unchanged (no_number c.pull_rows.new.best.value c.in_default.not-Num) in
    let whole = with_same f x first at in
    record {
      ticks = c.pull_rows.ensures.ticks;
      stays = λ y has. has;
      queued = λ rest before. put_none spec.kind f f x rest (λ y off. refl) c.args.self.now.queue
          (idle_without (f x) first at (λ d e. c.in_default.not-Num d (ap (λ (k : Change). k.value) same ∙ e))) before;
      kept = λ p graph fallen rest queue of has start.
          let after = c.pull_rows.ensures.kept p graph fallen rest queue of has
          (subst (λ (t : ℕ → Option Change). IsPrepared graph spec F vertex_limit fallen t queue (unpulled p x (origins_of g.A.Monotone.BOTH_WAYS c.args.graph.now x) rest))
          (sym whole) start) in (
            after.0,
            subst (λ (t : ℕ → Option Change). IsPrepared graph spec F vertex_limit fallen t after.0 (unpulled p x [] rest))
                (ap (with_change f x) same ∙ whole) after.1,
          );
    }
