use Rattle.std.proofs.Common.{◌≡◌, None, sym, subst, ap, ◌∙◌}
use Rattle.std.proofs.lemmas.Result.{IfErr-weaker, IfOk-weaker, err_from_is_err_and}
use Rattle.ris_base.specs.Effect.{first_past_limit, objection}
use Rattle.ris_base.specs.Limits.{greatest_of}
use Rattle.ris_base.specs.declared.graphs.Format.{Format}
use Rattle.ris_base.specs.declared.graphs.Triple.{Triple}
use Rattle.ris_base.specs.declared.updates.Update.{Update}
use Rattle.ris_base.specs.declared.updates.Update.TheVariants.{AddV, AddE, DelE, SetW}
use Rattle.ris_txn.specs.Judging.{IsFault, IsFree, IsStep, lacking}
use Rattle.ris_txn.proofs.StepLemmas.{fault-within, set-fault, set-step}
use Rattle.ris_txn.proofs.overlays.Overlay.apply.Goals as goal

-- a part that was found within the limits, by what the graph says of its format
within : (format found : Format) (part named : Update) → found ≡ format → None ≡ first_past_limit (greatest_of found) part → part ≡ named
    → first_past_limit (greatest_of format) named ≡ None
within format found part named formats none is =
    ap (λ (u : Update). first_past_limit (greatest_of format) u) (sym is) ∙ ap (λ (f : Format). first_past_limit (greatest_of f) part) (sym formats) ∙ sym none

pub returns-in-AddV-clause-fault : goal.returns-in-AddV-clause-fault
returns-in-AddV-clause-fault g c =
    let graph = c.args.graph.now in
    let part : Update = AddV c.in-AddV.x in
    let limits = within graph.format c.format.result c.args.part.now part c.format.ensures.value c.in_default.ensures c.in-AddV.is in
    IfErr-weaker c.add_vertex.result (IsFault lacking graph c.args.self.now part) (IsFault objection graph c.args.self.now c.args.part.now)
    (λ f h. subst (λ (u : Update). IsFault objection graph c.args.self.now u f) (sym c.in-AddV.is) (fault-within graph c.args.self.now part limits f h)) c.add_vertex.ensures.fault

pub returns-in_err-take_copy-in-SetW-clause-fault : goal.returns-in_err-take_copy-in-SetW-clause-fault
returns-in_err-take_copy-in-SetW-clause-fault g c =
    let graph = c.args.graph.now in
    let old = c.args.self.now in
    let s = c.in-SetW in
    let part : Update = SetW s.u s.v s.w s.w2 in
    let f = c.in_err-take_copy-in-SetW.field-0.0 in
    let limits = within graph.format c.format.result c.args.part.now part c.format.ensures.value c.in_default.ensures s.is in
    let fault : IsFault lacking graph old part f
    = subst (λ (t : Triple). IsFault lacking graph old (DelE t.source t.target t.weight) f) c.edge-in-SetW.ensures c.in_err-take_copy-in-SetW.ensures.fault in
    let q = err_from_is_err_and c.from_residual.result c.from_residual.ensures.1 in
    rw (q.1, q.2) (subst (λ (u : Update). IsFault objection graph old u f) (sym s.is) (fault-within graph old part limits f fault))

pub returns-in_ok-take_copy-in-SetW-clause-ok : goal.returns-in_ok-take_copy-in-SetW-clause-ok
returns-in_ok-take_copy-in-SetW-clause-ok g c =
    let graph = c.args.graph.now in
    let old = c.args.self.now in
    let mid = c.take_copy-in-SetW.new.self in
    let new = c.add_copy-in-SetW.new.self in
    let s = c.in-SetW in
    let less : IsStep graph old mid (DelE s.u s.v s.w) c.args.number
    = subst (λ (t : Triple). IsStep graph old mid (DelE t.source t.target t.weight) c.args.number) c.edge-in-SetW.ensures c.in_ok-take_copy-in-SetW.ensures.ok in
    IfOk-weaker c.add_copy-in-SetW.result
    (λ _. IsStep graph mid new (AddE c.edge-in-SetW-2.result.source c.edge-in-SetW-2.result.target c.edge-in-SetW-2.result.weight) c.args.number)
    (λ _. IsStep graph old new c.args.part.now c.args.number)
    (λ _ more. subst (λ (u : Update). IsStep graph old new u c.args.number) (sym s.is)
    (set-step graph old mid s.u s.v s.w s.w2 new c.args.number less
    (subst (λ (t : Triple). IsStep graph mid new (AddE t.source t.target t.weight) c.args.number) c.edge-in-SetW-2.ensures more)))
    c.add_copy-in-SetW.ensures.ok

pub returns-in_ok-take_copy-in-SetW-clause-fault : goal.returns-in_ok-take_copy-in-SetW-clause-fault
returns-in_ok-take_copy-in-SetW-clause-fault g c =
    let graph = c.args.graph.now in
    let old = c.args.self.now in
    let mid = c.take_copy-in-SetW.new.self in
    let s = c.in-SetW in
    let part : Update = SetW s.u s.v s.w s.w2 in
    let less : IsStep graph old mid (DelE s.u s.v s.w) c.args.number
    = subst (λ (t : Triple). IsStep graph old mid (DelE t.source t.target t.weight) c.args.number) c.edge-in-SetW.ensures c.in_ok-take_copy-in-SetW.ensures.ok in
    let free : IsFree lacking graph old (DelE s.u s.v s.w)
    = subst (λ (t : Triple). IsFree lacking graph old (DelE t.source t.target t.weight)) c.edge-in-SetW.ensures c.in_ok-take_copy-in-SetW.ensures.free in
    let limits = within graph.format c.format.result c.args.part.now part c.format.ensures.value c.in_default.ensures s.is in
    IfErr-weaker c.add_copy-in-SetW.result
    (IsFault lacking graph mid (AddE c.edge-in-SetW-2.result.source c.edge-in-SetW-2.result.target c.edge-in-SetW-2.result.weight))
    (IsFault objection graph old c.args.part.now)
    (λ f h. subst (λ (u : Update). IsFault objection graph old u f) (sym s.is)
    (fault-within graph old part limits f
    (set-fault graph old mid s.u s.v s.w s.w2 c.args.number f less free
    (subst (λ (t : Triple). IsFault lacking graph mid (AddE t.source t.target t.weight) f) c.edge-in-SetW-2.ensures h))))
    c.add_copy-in-SetW.ensures.fault
