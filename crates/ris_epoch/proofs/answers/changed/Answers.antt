use Rattle.std.proofs.Common.{◌≡◌, ℕ, ◌+◌, ◌++◌, List, [], ◌∷◌, sum, refl, sym, subst, ap, arith, ◌∙◌}
use Rattle.std.proofs.lemmas.Result.{IfErr-at_err, IfOk-at_ok}
use Rattle.ris_base.specs.Forest.{Forest}
use Rattle.ris_base.specs.Lines.{front}
use Rattle.ris_base.specs.declared.analyses.Spec.{Spec}
use Rattle.ris_base.specs.declared.graphs.PlainGraph.{PlainGraph}
use Rattle.ris_base.specs.declared.lines.Entry.{Entry}
use Rattle.ris_base.specs.declared.lines.Line.{Line}
use Rattle.ris_base.specs.declared.lines.Line.TheVariants as line
use Rattle.ris_base.specs.declared.records.Record.{Record}
use Rattle.ris_base.specs.declared.replies.Outcome.TheVariants as outcome
use Rattle.ris_base.specs.declared.requests.Request.TheVariants as request
use Rattle.ris_base.specs.declared.updates.Update.{Update}
use Rattle.ris_base.proofs.LineLemmas.{front-entry}
use Rattle.ris_graph.specs.Nets.{IsNet}
use Rattle.ris_graph.proofs.ListingLemmas.{IsRise-none, ticked-zero}
use Rattle.ris_journal.specs.JournalView.{JournalView}
use Rattle.ris_epoch.specs.Account.{entry_record, forests_behind, graph_behind}
use Rattle.ris_epoch.specs.DriverView.{Fits, bare}
use Rattle.ris_epoch.specs.Renewing.{IsRenewed}
use Rattle.ris_epoch.specs.Turning.{Does}
use Rattle.ris_epoch.proofs.StandingFor.{stands-same}
use Rattle.ris_epoch.proofs.TailSteps.{does-entry, does-refused, does-wanting, risen}
use Rattle.ris_epoch.proofs.answers.changed.Goals as goal

pub returns-in-Err-clause-does : goal.returns-in-Err-clause-does
returns-in-Err-clause-does g c = λ opening base before stands here.
    does-refused base before (bare c.args.graph.now c.args.analyses.now c.args.journal.now opening c.args.records.now.items) c.args.entry c.front-front.result c.in-Err.refusal
    (g.M.Meter.ticks c.args.meter.now) (g.M.Meter.ticks c.net_of.new.meter) stands c.front-front.ensures (c.in-Err.ensures.refused (graph_behind base before) stands.fits.graph_is)
    (c.net_of.ensures.rise (graph_behind base before) stands.fits.graph_is) (c.net_of.ensures.idle (graph_behind base before) stands.fits.graph_is)

pub returns-in_default-clause-does : goal.returns-in_default-clause-does
returns-in_default-clause-does g c = λ opening base before stands here.
    let p = graph_behind base before in
    let u = g.M.Meter.ticks c.net_of.new.meter in
    let net = IfOk-at_ok (IsNet p c.args.entry.parts) c.in-Ok.is (c.net_of.ensures.ok p stands.fits.graph_is) in
    does-wanting base before (bare c.args.graph.now c.args.analyses.now c.args.journal.now opening c.args.records.now.items)
    (bare c.args.graph.now c.args.analyses.now c.make_line_room.new.journal opening c.make_line_room.new.records.items) c.args.entry (g.M.Meter.ticks c.args.meter.now) u
    (stands-same (bare c.args.graph.now c.args.analyses.now c.args.journal.now opening c.args.records.now.items)
    (bare c.args.graph.now c.args.analyses.now c.make_line_room.new.journal opening c.make_line_room.new.records.items) base before stands refl refl refl c.make_line_room.ensures.lines)
    c.make_line_room.ensures.items
    (risen base before c.args.entry (g.M.Meter.ticks c.args.meter.now) u u net.accepted (c.net_of.ensures.rise p stands.fits.graph_is)
    (λ counts reaches. IsRise-none u (sum counts)) (0, sym (ticked-zero u)))

pub returns-in_default-doubled-clause-does : goal.returns-in_default-doubled-clause-does
returns-in_default-doubled-clause-does g c = λ opening base before stands here.
    let p = graph_behind base before in
    let u = g.M.Meter.ticks c.net_of.new.meter in
    let net = IfOk-at_ok (IsNet p c.args.entry.parts) c.in-Ok.is (c.net_of.ensures.ok p stands.fits.graph_is) in
    does-wanting base before (bare c.args.graph.now c.args.analyses.now c.args.journal.now opening c.args.records.now.items)
    (bare c.args.graph.now c.args.analyses.now c.make_line_room.new.journal opening c.make_line_room.new.records.items) c.args.entry (g.M.Meter.ticks c.args.meter.now) u
    (stands-same (bare c.args.graph.now c.args.analyses.now c.args.journal.now opening c.args.records.now.items)
    (bare c.args.graph.now c.args.analyses.now c.make_line_room.new.journal opening c.make_line_room.new.records.items) base before stands refl refl refl c.make_line_room.ensures.lines)
    c.make_line_room.ensures.items
    (risen base before c.args.entry (g.M.Meter.ticks c.args.meter.now) u u net.accepted (c.net_of.ensures.rise p stands.fits.graph_is)
    (λ counts reaches. IsRise-none u (sum counts)) (0, sym (ticked-zero u)))

pub renew-requires-after_bounds : goal.renew-requires-after_bounds
renew-requires-after_bounds g c κs within =
    let base = c.requires.stands.1 in
    let before = c.requires.stands.2 in
    let stands = c.requires.stands.3 in
    record {
      plain = graph_behind base before;
      parts = c.args.entry.parts;
      specs = base.specs;
      forests = forests_behind base before;
      fits = stands.fits;
      of = IfOk-at_ok (IsNet (graph_behind base before) c.args.entry.parts) c.in-Ok.is (c.net_of.ensures.ok (graph_behind base before) stands.fits.graph_is);
    }

pub returns-in_default-renew-clause-does : goal.returns-in_default-renew-clause-does
returns-in_default-renew-clause-does g c = λ opening base before stands here.
    let p = graph_behind base before in
    let forests = forests_behind base before in
    let u = g.M.Meter.ticks c.net_of.new.meter in
    let v = g.M.Meter.ticks c.renew.new.meter in
    let net = IfOk-at_ok (IsNet p c.args.entry.parts) c.in-Ok.is (c.net_of.ensures.ok p stands.fits.graph_is) in
    let P : Type 0 = (q : PlainGraph) (parts : List Update) (specs : List Spec) (fs : List Forest) → Fits c.args.graph.now c.args.analyses.now q specs fs → IsNet q parts c.in-Ok.net
    → Fits c.renew.new.graph c.renew.new.analyses q specs fs in
    let kept : P = IfErr-at_err (λ _. P) c.in_default-renew.is c.renew.ensures.err in
    does-wanting base before (bare c.args.graph.now c.args.analyses.now c.args.journal.now opening c.args.records.now.items)
    (bare c.renew.new.graph c.renew.new.analyses c.make_line_room.new.journal opening c.make_line_room.new.records.items) c.args.entry (g.M.Meter.ticks c.args.meter.now) v
    (record { right = stands.right; opening = stands.opening; fits = kept p c.args.entry.parts base.specs forests stands.fits net; lines = c.make_line_room.ensures.lines ∙ stands.lines })
    c.make_line_room.ensures.items
    (risen base before c.args.entry (g.M.Meter.ticks c.args.meter.now) u v net.accepted (c.net_of.ensures.rise p stands.fits.graph_is)
    (λ counts reaches. c.renew.ensures.visits p c.args.entry.parts base.specs forests counts stands.fits net reaches) c.renew.ensures.counted)

pub returns-clause-does : goal.returns-clause-does
returns-clause-does g c = λ opening base before stands here.
    let p = graph_behind base before in
    let forests = forests_behind base before in
    let u = g.M.Meter.ticks c.net_of.new.meter in
    let v = g.M.Meter.ticks c.renew.new.meter in
    let net = IfOk-at_ok (IsNet p c.args.entry.parts) c.in-Ok.is (c.net_of.ensures.ok p stands.fits.graph_is) in
    let own : c.in-Ok-doubled.candidate ≡ c.args.entry = c.in-Ok-doubled.ensures {u = tt} in
    let made : IsRenewed p c.args.entry.parts base.specs forests c.renew.new.graph c.renew.new.analyses c.in-Ok-renew.changes =
    (c.in-Ok-renew.ensures {u = tt}).ok p c.args.entry.parts base.specs forests stands.fits net in
    let visits = risen base before c.args.entry (g.M.Meter.ticks c.args.meter.now) u v net.accepted (c.net_of.ensures.rise p stands.fits.graph_is)
    (λ counts reaches. c.renew.ensures.visits p c.args.entry.parts base.specs forests counts stands.fits net reaches) c.renew.ensures.counted in
    let old = bare c.args.graph.now c.args.analyses.now c.args.journal.now opening c.args.records.now.items in
    let new = bare c.renew.new.graph c.renew.new.analyses c.append.new.journal opening c.append.new.records.items in
    subst (λ (n : ℕ). Does base before (request.Submit c.args.entry) (outcome.Placed (n + 1)) old new (g.M.Meter.ticks c.args.meter.now) v)
    (sym (c.front-front.ensures ∙ ap front stands.lines))
    (does-entry base before old new (g.M.Meter.ticks c.args.meter.now) v c.args.entry c.in-Ok-renew.changes stands here net.accepted made.fits made.are visits.0 visits.1 refl
    (ap (λ (j : JournalView). j.lines) c.append.ensures.line ∙ ap (λ (e : Entry). c.make_line_room.new.journal.lines ++ line.Entry e ∷ []) own
    ∙ ap (λ (ls : List Line). ls ++ line.Entry c.args.entry ∷ []) c.make_line_room.ensures.lines)
    (c.append.ensures.written ∙ ap (λ (e : Entry). c.make_line_room.new.records.items ++ entry_record e c.in-Ok-renew.changes ∷ []) own
    ∙ ap (λ (rs : List Record). rs ++ entry_record c.args.entry c.in-Ok-renew.changes ∷ []) c.make_line_room.ensures.items))

pub returns-clause-lines : goal.returns-clause-lines
returns-clause-lines g c =
    let up : front c.append.new.journal.lines ≡ front c.args.journal.now.lines + 1 =
    ap (λ (j : JournalView). front j.lines) c.append.ensures.line
    ∙ ap (λ (ls : List Line). front (ls ++ line.Entry c.in-Ok-doubled.candidate ∷ [])) c.make_line_room.ensures.lines
    ∙ front-entry c.args.journal.now.lines c.in-Ok-doubled.candidate in
    omega arith
