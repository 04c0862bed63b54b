use Rattle.std.proofs.Common.{◌<◌, ◌∙◌, ap, sym, arith, length, min}
use Rattle.ris_base.specs.Legal.{Asked}
use Rattle.ris_base.specs.Machine.{Seat}
use Rattle.ris_core.specs.Runs.{outcome_in}
use Rattle.ris_core.proofs.AnswerScans.{outcome-end, outcome-here, outcome-passed}
use Rattle.ris_core.proofs.Scans.{read-at, there-at}
use Rattle.ris_core.proofs.seats.Seat.outcome.Goals as goal

pub returns-then-index-from : goal.returns-then-index-from
returns-then-index-from c =
    let cs = c.self.inside.commands.items in
    let rs = c.self.inside.replies.items in
    let k = c.loop-k.k in
    let a = c.index.result.now in
    let r = c.index-then-index-from.result.now in
    let low : k < min (length cs) (length rs) = (let e = c.min-k-end.ensures in let x = c.len.ensures in let y = c.len-2.ensures in let p = c.self.inside.commands.ok.0 in let q = c.self.inside.replies.ok.0 in let t = c.loop-k-test.true in omega arith) in
    c.outcome.ensures
    ∙ sym (outcome-here cs rs k a r c.args.seq (read-at cs k a (omega arith) c.index.ensures) (read-at rs k r (omega arith) c.index-then-index-from.ensures)
    (sym (ap (λ (x : Asked). x.seq) c.behind-self.view_is) ∙ c.if-index-from.true ∙ c.from.ensures))
    ∙ c.loop-k.invariant ∙ ap (λ (x : Seat). outcome_in x.commands x.replies c.args.seq) c.self.view_is

pub loop-k-preserved : goal.loop-k-preserved
loop-k-preserved c =
    let cs = c.self.inside.commands.items in
    let rs = c.self.inside.replies.items in
    let k = c.loop-k.k in
    let a = c.index.result.now in
    let low : k < min (length cs) (length rs) = (let e = c.min-k-end.ensures in let x = c.len.ensures in let y = c.len-2.ensures in let p = c.self.inside.commands.ok.0 in let q = c.self.inside.replies.ok.0 in let t = c.loop-k-test.true in omega arith) in
    let some = there-at rs k (omega arith) in
    outcome-passed cs rs k a some.0 c.args.seq (read-at cs k a (omega arith) c.index.ensures) some.1
    (λ same. c.if-index-from.false (ap (λ (x : Asked). x.seq) c.behind-self.view_is ∙ same ∙ sym c.from.ensures))
    ∙ c.loop-k.invariant

pub returns : goal.returns
returns c =
    let cs = c.self.inside.commands.items in
    let rs = c.self.inside.replies.items in
    sym (outcome-end cs rs c.loop-k.k c.args.seq (let e = c.min-k-end.ensures in let x = c.len.ensures in let y = c.len-2.ensures in let p = c.self.inside.commands.ok.0 in let q = c.self.inside.replies.ok.0 in let t = c.loop-k-test.false in omega arith))
    ∙ c.loop-k.invariant ∙ ap (λ (x : Seat). outcome_in x.commands x.replies c.args.seq) c.self.view_is
