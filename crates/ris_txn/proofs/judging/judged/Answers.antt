use Rattle.std.proofs.Common.{◌+◌, ◌<◌, length, sym, subst, arith}
use Rattle.std.proofs.lemmas.Option.{slice_get-get_or}
use Rattle.ris_base.specs.declared.replies.Refusal.{Refusal}
use Rattle.ris_base.specs.declared.updates.Update.TheVariants.{AddV}
use Rattle.ris_txn.specs.Judging.{IsJudging}
use Rattle.ris_txn.specs.Refusals.{IsRefusal}
use Rattle.ris_txn.specs.declared.overlays.Overlay.{Overlay}
use Rattle.ris_txn.proofs.JudgeLemmas.{judging-none, judging-more, judging-fault, judged-all}
use Rattle.ris_txn.proofs.judging.judged.Goals as goal
use Rattle.ris_txn.proofs.judging.judged.Goals.{in-Some+in_default-apply, in_default}

pub loop-k-init : goal.loop-k-init
loop-k-init g c = judging-none c.args.graph.now c.args.parts.now c.new-overlay.result c.new-overlay.ensures.vertices c.new-overlay.ensures.triples

pub returns-in-Err-clause-refused : goal.returns-in-Err-clause-refused
returns-in-Err-clause-refused g c = λ p of.
    subst (λ (answer : Refusal). IsRefusal p c.args.parts.now c.args.front answer) (sym c.at.ensures)
    (judging-fault c.args.graph.now c.args.parts.now c.loop-k.k c.in-Some.part.now (sym c.in-Some.ensures) c.args.front c.loop-k.overlay c.in-Err.fault c.loop-k.invariant
    c.in-Err.ensures.fault p of)

pub loop-k-preserved : goal.loop-k-preserved
loop-k-preserved g c =
    elim c.match-get.branch [
      | in-Some+in_default-apply w ↦ subst (λ (o : Overlay). IsJudging c.args.graph.now c.args.parts.now (c.loop-k.k + 1) o) (sym w.overlay-is)
          (judging-more c.args.graph.now c.args.parts.now c.loop-k.k w.in-Some.part.now (sym w.in-Some.ensures) c.loop-k.overlay w.apply.new.self c.loop-k.invariant
          w.in_default-apply.ensures.ok w.in_default-apply.ensures.free)
      | in_default w ↦ (let lt : c.loop-k.k < length c.args.parts.now = (let t = c.loop-k-test.true in let len = c.len-k-end.ensures.len in omega arith) in
          let there = slice_get-get_or c.args.parts.now c.loop-k.k (AddV 0) lt in
          let none = w.in_default.ensures in
          absurd (cc))
    ]

pub returns-clause-ok : goal.returns-clause-ok
returns-clause-ok g c =
    judged-all c.args.graph.now c.args.parts.now c.loop-k.k c.loop-k.overlay
    (let past = c.loop-k-test.false in let end = c.loop-k.auto.k-end in let len = c.len-k-end.ensures.len in omega arith) c.loop-k.invariant
