use Rattle.std.proofs.Common.{List, length, take, arith, sym, ap, ◌∙◌, subst, rules}
use Rattle.ris_history.specs.Chains.{ChainView, with_change}
use Rattle.ris_history.specs.Sound.{AllEndBy, with_due}
use Rattle.ris_history.specs.declared.trims.Due.{Due}
use Rattle.ris_history.proofs.ChangeLemmas.{bound_of-at, length-with_changes, with_changes-next, AllEndBy-with_change, with_dues-next, with_dues-taken_back, on_ok, on_err}
use Rattle.ris_history.proofs.pushes.push_all.Goals as goal

pub push-requires-clause-room : goal.push-requires-clause-room
push-requires-clause-room c taken =
    let at = bound_of-at c.args.analyses c.args.changes.now c.loop-k.k c.at.result.now c.at.ensures taken in
    let room = c.requires.room in
    let size = ap length c.loop-k.invariant.chains ∙ length-with_changes c.args.analyses c.args.place c.args.chains.now.items (take c.loop-k.k c.args.changes.now) in
    omega arith

pub returns-then-is_err-clause-err_dues : goal.returns-then-is_err-clause-err_dues
returns-then-is_err-clause-err_dues c =
    let same = on_err c.push.result _ (search rules) c.push.ensures.err_dues in
    c.truncate.ensures.items ∙ ap (λ n. take n c.push.new.dues.items) c.loop-k.invariant.waiting
    ∙ ap (take (length c.args.dues.now.items)) (same ∙ c.loop-k.invariant.dues)
    ∙ with_dues-taken_back c.args.analyses c.args.place c.args.dues.now.items (take c.loop-k.k c.args.changes.now)

pub loop-k-preserved : goal.loop-k-preserved
loop-k-preserved c =
    let n = c.args.analyses in
    let p = c.args.place in
    let d = c.at.result.now in
    let ds = c.args.changes.now in
    let chains = on_ok c.push.result _ (search rules) c.push.ensures.ok in
    let dues = on_ok c.push.result _ (search rules) c.push.ensures.dues in
    record {
      waiting = c.loop-k.invariant.waiting;
      ends = subst (AllEndBy p) (sym chains) (AllEndBy-with_change n p p c.loop-k.chains.items d (omega arith) c.loop-k.invariant.ends);
      chains = chains ∙ ap (λ (cs : List ChainView). with_change n p cs d) c.loop-k.invariant.chains ∙ sym (with_changes-next n p c.args.chains.now.items ds c.loop-k.k d c.at.ensures);
      dues = dues ∙ ap (λ (qs : List Due). with_due n p qs d) c.loop-k.invariant.dues ∙ sym (with_dues-next n p c.args.dues.now.items ds c.loop-k.k d c.at.ensures);
    }
