use Rattle.std.proofs.Common.{◌≡◌, ◌<◌, ◌∙◌, List, OnOk, ap, length, arith, sym, subst}
use Rattle.std.specs.List.{All}
use Rattle.ris_base.specs.Machine.{session_by}
use Rattle.ris_base.specs.declared.requests.Request.{Request}
use Rattle.ris_epoch.specs.Ordering.{inserted_by}
use Rattle.ris_epoch.proofs.OrderingLemmas.{All-inserted, length-inserted}
use Rattle.ris_epoch.proofs.tests.batch_of.Goals as goal

pub loop-session-preserved : goal.loop-session-preserved
loop-session-preserved c =
    let small : Request → Type 0 = λ r. session_by r < c.args.sessions in
    let taken = subst (λ (r : _). OnOk r (c.add.new.self ≡ inserted_by session_by c.loop-session.batch c.in_ok-request.request)) c.in-Ok.is c.add.ensures.ok in
    let longer = ap (λ (rs : List Request). length rs) taken ∙ length-inserted session_by c.loop-session.batch c.in_ok-request.request in
    let was = c.loop-session.invariant.few in
    record {
      here = subst (All small) (sym taken) (All-inserted small session_by c.loop-session.batch c.in_ok-request.request c.loop-session.invariant.here
          (let own = c.in_ok-request.ensures in let less = c.if-session-sessions.false in omega arith));
      few = (omega arith);
    }
