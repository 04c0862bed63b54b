use Rattle.std.proofs.Common.{◌∙◌, List, [], ◌∷◌, Result, IfOk, IfErr, subst, sym}
use Rattle.ris_base.specs.declared.replies.Refusal.{Refusal}
use Rattle.ris_base.specs.declared.updates.Update.{Update}
use Rattle.ris_graph.specs.Nets.{IsNet}
use Rattle.ris_graph.specs.declared.nets.Net.{Net}
use Rattle.ris_graph.specs.declared.nets.NetTriple.{NetTriple}
use Rattle.ris_txn.specs.Refusals.{IsRefusal}
use Rattle.ris_txn.specs.Singles.{IsLone, IsReason}
use Rattle.ris_txn.specs.declared.faults.Fault.{Fault}
use Rattle.ris_txn.proofs.SingleLemmas.{only-part, reason-refusal}
use Rattle.ris_txn.proofs.singles.single.Goals as goal

pub returns-in-Ok-lone_net-clause-ok : goal.returns-in-Ok-lone_net-clause-ok
returns-in-Ok-lone_net-clause-ok g c = λ p of.
    let part = c.in_ok-part.part.now in
    let only = only-part c.args.parts.now part (sym c.len.ensures.len ∙ c.if-len-ne1.false) c.in_ok-part.ensures in
    let lone = subst (λ (r : Result NetTriple Fault). IfOk r (IsLone c.args.graph.now part)) c.in-Ok.is c.in_ok-answer.ensures.ok in
    subst (λ (parts : List Update). IsNet p parts c.in-Ok-lone_net.net) only
    (subst (λ (net : Net). IsNet p (part ∷ []) net) (sym c.in-Ok-lone_net.ensures) (lone p of))

pub returns-in-Err-clause-refused : goal.returns-in-Err-clause-refused
returns-in-Err-clause-refused g c = λ p of.
    let part = c.in_ok-part.part.now in
    let only = only-part c.args.parts.now part (sym c.len.ensures.len ∙ c.if-len-ne1.false) c.in_ok-part.ensures in
    let reason = subst (λ (r : Result NetTriple Fault). IfErr r (IsReason c.args.graph.now part)) c.in-Err.is c.in_ok-answer.ensures.fault in
    subst (λ (parts : List Update). IsRefusal p parts c.args.front c.at.result) only
    (subst (λ (answer : Refusal). IsRefusal p (part ∷ []) c.args.front answer) (sym c.at.ensures) (reason-refusal c.args.graph.now part c.args.front c.in-Err.fault reason p of))
