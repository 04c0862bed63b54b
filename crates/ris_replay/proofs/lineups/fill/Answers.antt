use Rattle.std.proofs.Common.{◌+◌, ◌<◌, List, length, arith, ap, set, subst, sym, ◌∙◌}
use Rattle.std.specs.List.{slice_get}
use Rattle.ris_base.specs.declared.requests.Request.{Request}
use Rattle.ris_replay.proofs.LineupFacts.{IsFilled, filled-other, filled-put, filled-session, filled-some}
use Rattle.ris_replay.proofs.lineups.fill.Goals as goal
use Rattle.ris_replay.proofs.lineups.fill.Goals.{in-Some+in-Err+in-Submit+in-Many-1, in-Some+in-Err+in-Submit+in-None-1, in-Some+in-Err+in-Release-1, in-Some+in-Ok-1, in_default}

pub add-requires : goal.add-requires
add-requires c =
    let size = c.args.queues.now.ok.0 in
    let few = c.requires.few in
    let end = c.len-n-end.ensures in
    let test = c.loop-n-test.true in
    let less : c.loop-n.n < length c.args.queues.now.items = omega arith in
    let read = filled-put c.loop-n.n c.args.queues.now.items c.loop-n.queues.items c.loop-n.batch c.index_mut.result.now c.take_first.new.self c.loop-n.invariant less
    c.index_mut.ensures.value c.take_first.ensures.rest in
    let own = filled-session c.loop-n.n c.args.queues.now.items c.loop-n.queues.items c.loop-n.batch c.in-Some.request c.loop-n.invariant c.requires.own
    (ap (λ (q : List Request). slice_get q 0) (sym read.0) ∙ sym c.in-Some.ensures.item) in
    omega arith

pub loop-n-preserved : goal.loop-n-preserved
loop-n-preserved c =
    let size = c.args.queues.now.ok.0 in
    let end = c.len-n-end.ensures in
    let test = c.loop-n-test.true in
    let less : c.loop-n.n < length c.args.queues.now.items = omega arith in
    elim c.match-take_first.branch [
      | in-Some+in-Err+in-Submit+in-Many-1 w ↦ (let read = filled-put c.loop-n.n c.args.queues.now.items c.loop-n.queues.items c.loop-n.batch c.index_mut.result.now c.take_first.new.self c.loop-n.invariant less
          c.index_mut.ensures.value c.take_first.ensures.rest in
          subst (λ (b : List Request). IsFilled (c.loop-n.n + 1) c.args.queues.now.items (set c.loop-n.queues.items c.loop-n.n c.take_first.new.self) b) (sym w.batch-is)
          (filled-some c.loop-n.n c.args.queues.now.items c.loop-n.queues.items (set c.loop-n.queues.items c.loop-n.n c.take_first.new.self) c.loop-n.batch w.add.new.self w.in-Some.request
          w.add.result c.loop-n.invariant c.requires.own less (ap (λ (q : List Request). slice_get q 0) (sym read.0) ∙ sym w.in-Some.ensures.item) read.1
          w.add.ensures.ok w.add.ensures.held))
      | in-Some+in-Err+in-Submit+in-None-1 w ↦ (let read = filled-put c.loop-n.n c.args.queues.now.items c.loop-n.queues.items c.loop-n.batch c.index_mut.result.now c.take_first.new.self c.loop-n.invariant less
          c.index_mut.ensures.value c.take_first.ensures.rest in
          subst (λ (b : List Request). IsFilled (c.loop-n.n + 1) c.args.queues.now.items (set c.loop-n.queues.items c.loop-n.n c.take_first.new.self) b) (sym w.batch-is)
          (filled-some c.loop-n.n c.args.queues.now.items c.loop-n.queues.items (set c.loop-n.queues.items c.loop-n.n c.take_first.new.self) c.loop-n.batch w.add.new.self w.in-Some.request
          w.add.result c.loop-n.invariant c.requires.own less (ap (λ (q : List Request). slice_get q 0) (sym read.0) ∙ sym w.in-Some.ensures.item) read.1
          w.add.ensures.ok w.add.ensures.held))
      | in-Some+in-Err+in-Release-1 w ↦ (let read = filled-put c.loop-n.n c.args.queues.now.items c.loop-n.queues.items c.loop-n.batch c.index_mut.result.now c.take_first.new.self c.loop-n.invariant less
          c.index_mut.ensures.value c.take_first.ensures.rest in
          subst (λ (b : List Request). IsFilled (c.loop-n.n + 1) c.args.queues.now.items (set c.loop-n.queues.items c.loop-n.n c.take_first.new.self) b) (sym w.batch-is)
          (filled-some c.loop-n.n c.args.queues.now.items c.loop-n.queues.items (set c.loop-n.queues.items c.loop-n.n c.take_first.new.self) c.loop-n.batch w.add.new.self w.in-Some.request
          w.add.result c.loop-n.invariant c.requires.own less (ap (λ (q : List Request). slice_get q 0) (sym read.0) ∙ sym w.in-Some.ensures.item) read.1
          w.add.ensures.ok w.add.ensures.held))
      | in-Some+in-Ok-1 w ↦ (let read = filled-put c.loop-n.n c.args.queues.now.items c.loop-n.queues.items c.loop-n.batch c.index_mut.result.now c.take_first.new.self c.loop-n.invariant less
          c.index_mut.ensures.value c.take_first.ensures.rest in
          subst (λ (b : List Request). IsFilled (c.loop-n.n + 1) c.args.queues.now.items (set c.loop-n.queues.items c.loop-n.n c.take_first.new.self) b) (sym w.batch-is)
          (filled-some c.loop-n.n c.args.queues.now.items c.loop-n.queues.items (set c.loop-n.queues.items c.loop-n.n c.take_first.new.self) c.loop-n.batch w.add.new.self w.in-Some.request
          w.add.result c.loop-n.invariant c.requires.own less (ap (λ (q : List Request). slice_get q 0) (sym read.0) ∙ sym w.in-Some.ensures.item) read.1
          w.add.ensures.ok w.add.ensures.held))
      | in_default w ↦ (let read = filled-put c.loop-n.n c.args.queues.now.items c.loop-n.queues.items c.loop-n.batch c.index_mut.result.now c.take_first.new.self c.loop-n.invariant less
          c.index_mut.ensures.value c.take_first.ensures.rest in
          subst (λ (b : List Request). IsFilled (c.loop-n.n + 1) c.args.queues.now.items (set c.loop-n.queues.items c.loop-n.n c.take_first.new.self) b) (sym w.batch-is)
          (filled-other c.loop-n.n c.args.queues.now.items c.loop-n.queues.items (set c.loop-n.queues.items c.loop-n.n c.take_first.new.self) c.loop-n.batch
          c.loop-n.invariant less (ap (λ (q : List Request). slice_get q 0) (sym read.0) ∙ sym w.in_default.ensures.item) read.1))
    ]
