use Rattle.std.proofs.Common.{◌≡◌, ℕ, ◌++◌, List, ◌∷◌, None, length, arith, sym, subst, ap, ◌∙◌}
use Rattle.std.specs.List.{All, slice_get}
use Rattle.std.proofs.lemmas.List.Elements.{All-head, All-tail}
use Rattle.ris_base.specs.Epoch.{Resolved}
use Rattle.ris_base.specs.Lines.{front}
use Rattle.ris_base.specs.Records.{lines_of}
use Rattle.ris_base.specs.declared.events.Verdict.{Verdict}
use Rattle.ris_base.specs.declared.lines.Entry.{Entry}
use Rattle.ris_base.specs.declared.lines.Line.{Line}
use Rattle.ris_base.specs.declared.records.Record.{Record}
use Rattle.ris_base.specs.declared.requests.Request.{Request}
use Rattle.ris_graph.specs.Jobs.{HasSession}
use Rattle.ris_epoch.specs.Driving.{all_resolved}
use Rattle.ris_epoch.specs.Sealing.{AreVerdicts, all_told, all_waiting, outcome_if, outcomes_if, records_if, told_by}
use Rattle.ris_epoch.proofs.FirstItems.{first-rest, none-rest}
use Rattle.ris_epoch.proofs.SealLoops.{none-left, record-length, step-lines, step-records, step-replies, step-rest, verdict-told, waiting-length}
use Rattle.ris_epoch.proofs.seals.seal_all.Goals as goal

pub seals-preserved : goal.seals-preserved
seals-preserved c =
    let e : Entry = c.in-Some.candidate in
    let es : List Entry = c.take_first.new.self in
    let v : Verdict = c.verdict-verdict.result in
    let P : Entry → Type 0 = λ x. HasSession c.args.jobs.now x.session in
    let before = c.seals.invariant in
    let first : c.seals.candidates ≡ e ∷ es = first-rest c.seals.candidates es e c.in-Some.ensures.item c.in-Some.ensures.rest in
    let all : All P (e ∷ es) = subst (All P) first before.jobs in
    let long = ap length first in
    let wait = waiting-length c.seals.rest (told_by e v) in
    let low = wait.0 in
    let up = wait.1 in
    let waits = ap length c.seal.ensures.rest in
    let one = record-length c.seals.records.items (told_by e v) in
    let made = ap length c.seal.ensures.records in
    let old_size = c.seals.records.ok in
    let new_size = c.seal.new.records.ok in
    let is : (told : ℕ → Verdict) → AreVerdicts c.args.jobs.now told → v ≡ told e.session =
    λ told are. verdict-told c.args.jobs.now told e.session v are (All-head P e es all)
    (λ job at same. c.verdict-verdict.ensures job at (same ∙ sym (ap (λ (x : Entry). x.session) c.candidate.view_is))) in
    record {
      jobs = All-tail P e es all;
      line_room = omega arith;
      few = omega arith;
      record_room = omega arith;
      reply_room = omega arith;
      wait_room = omega arith;
      lines = λ told are.
          ap (λ (ls : List Line). ls ++ lines_of (records_if (all_told told es))) c.seal.ensures.lines
          ∙ step-lines told e es v (is told are) c.seals.journal.lines
          ∙ ap (λ (cs : List Entry). c.seals.journal.lines ++ lines_of (records_if (all_told told cs))) (sym first) ∙ before.lines told are;
      records = λ told are.
          ap (λ (rs : List Record). rs ++ records_if (all_told told es)) c.seal.ensures.records
          ∙ step-records told e es v (is told are) c.seals.records.items
          ∙ ap (λ (cs : List Entry). c.seals.records.items ++ records_if (all_told told cs)) (sym first) ∙ before.records told are;
      replies = λ told are.
          ap (λ (os : List Resolved). os ++ outcomes_if (front c.seal.new.journal.lines) (all_told told es)) c.seal.ensures.replies
          ∙ ap (λ (ls : List Line). (all_resolved c.seals.replies.items ++ outcome_if (front c.seals.journal.lines) (told_by e v)) ++ outcomes_if (front ls) (all_told told es)) c.seal.ensures.lines
          ∙ step-replies told e es v (is told are) (all_resolved c.seals.replies.items) c.seals.journal.lines
          ∙ ap (λ (cs : List Entry). all_resolved c.seals.replies.items ++ outcomes_if (front c.seals.journal.lines) (all_told told cs)) (sym first) ∙ before.replies told are;
      rest = λ told are.
          ap (λ (rs : List Request). all_waiting rs (all_told told es)) c.seal.ensures.rest
          ∙ step-rest told e es v (is told are) c.seals.rest
          ∙ ap (λ (cs : List Entry). all_waiting c.seals.rest (all_told told cs)) (sym first) ∙ before.rest told are;
      record_capacity = c.seal.ensures.record_capacity ∙ before.record_capacity;
      reply_capacity = c.seal.ensures.reply_capacity ∙ before.reply_capacity;
      counts = omega arith;
      fronts = omega arith;
    }

pub returns-clause-lines : goal.returns-clause-lines
returns-clause-lines c told are =
    let at : None ≡ slice_get c.seals.candidates 0 = cc in
    let none = none-left told c.seals.journal.lines c.seals.records.items (all_resolved c.seals.replies.items) c.seals.rest (front c.seals.journal.lines) in
    sym none.0 ∙ ap (λ (cs : List Entry). c.seals.journal.lines ++ lines_of (records_if (all_told told cs))) (sym (none-rest c.seals.candidates at)) ∙ c.seals.invariant.lines told are

pub returns-clause-records : goal.returns-clause-records
returns-clause-records c told are =
    let at : None ≡ slice_get c.seals.candidates 0 = cc in
    let none = none-left told c.seals.journal.lines c.seals.records.items (all_resolved c.seals.replies.items) c.seals.rest (front c.seals.journal.lines) in
    sym none.1 ∙ ap (λ (cs : List Entry). c.seals.records.items ++ records_if (all_told told cs)) (sym (none-rest c.seals.candidates at)) ∙ c.seals.invariant.records told are

pub returns-clause-replies : goal.returns-clause-replies
returns-clause-replies c told are =
    let at : None ≡ slice_get c.seals.candidates 0 = cc in
    let none = none-left told c.seals.journal.lines c.seals.records.items (all_resolved c.seals.replies.items) c.seals.rest (front c.seals.journal.lines) in
    sym none.2 ∙ ap (λ (cs : List Entry). all_resolved c.seals.replies.items ++ outcomes_if (front c.seals.journal.lines) (all_told told cs)) (sym (none-rest c.seals.candidates at))
    ∙ c.seals.invariant.replies told are

pub returns-clause-rest : goal.returns-clause-rest
returns-clause-rest c told are =
    let at : None ≡ slice_get c.seals.candidates 0 = cc in
    let none = none-left told c.seals.journal.lines c.seals.records.items (all_resolved c.seals.replies.items) c.seals.rest (front c.seals.journal.lines) in
    sym none.3 ∙ ap (λ (cs : List Entry). all_waiting c.seals.rest (all_told told cs)) (sym (none-rest c.seals.candidates at)) ∙ c.seals.invariant.rest told are
