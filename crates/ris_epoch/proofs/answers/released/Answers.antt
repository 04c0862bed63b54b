use Rattle.std.proofs.Common.{◌++◌, List, [], ◌∷◌, arith, refl, sym, ap, ◌∙◌}
use Rattle.ris_base.specs.Lines.{front}
use Rattle.ris_base.specs.declared.lines.Line.{Line}
use Rattle.ris_base.specs.declared.lines.Line.TheVariants as line
use Rattle.ris_base.specs.declared.records.Record.{Record}
use Rattle.ris_base.proofs.LineLemmas.{front-mark}
use Rattle.ris_journal.specs.JournalView.{JournalView}
use Rattle.ris_epoch.proofs.StandingFor.{stands-same}
use Rattle.ris_epoch.proofs.TailSteps.{does-early, does-marked, does-unmarked}
use Rattle.ris_epoch.proofs.answers.released.Goals as goal

pub returns-then-upto-front-clause-does : goal.returns-then-upto-front-clause-does
returns-then-upto-front-clause-does c = λ d base before ticks stands same here.
    does-early base before (record d { records = c.args.records.now.items }) (record d { journal = c.args.journal.now; records = c.args.records.now.items }) ticks
    c.args.session c.args.seq c.args.upto c.front-front.result
    (stands-same d (record d { journal = c.args.journal.now; records = c.args.records.now.items }) base before stands refl refl refl
    (ap (λ (j : JournalView). j.lines) (sym same)))
    c.front-front.ensures (omega arith) refl

pub returns-in_default-clause-does : goal.returns-in_default-clause-does
returns-in_default-clause-does c = λ d base before ticks stands same here.
    does-unmarked base before (record d { records = c.args.records.now.items }) (record d { journal = c.make_line_room.new.journal; records = c.make_line_room.new.records.items }) ticks
    c.args.session c.args.seq c.args.upto
    (stands-same d (record d { journal = c.make_line_room.new.journal; records = c.make_line_room.new.records.items }) base before stands refl refl refl
    (c.make_line_room.ensures.lines ∙ ap (λ (j : JournalView). j.lines) (sym same)))
    c.make_line_room.ensures.items

pub returns-clause-does : goal.returns-clause-does
returns-clause-does c = λ d base before ticks stands same here.
    does-marked base before (record d { records = c.args.records.now.items }) (record d { journal = c.note.new.journal; records = c.note.new.records.items }) ticks
    c.args.session c.args.seq c.args.upto c.front-front.result
    (stands-same d (record d { records = c.args.records.now.items }) base before stands refl refl refl refl)
    (c.front-front.ensures ∙ ap (λ (j : JournalView). front j.lines) (sym same)) (omega arith) here refl refl refl
    (ap (λ (j : JournalView). j.lines) c.note.ensures.line
    ∙ ap (λ (ls : List Line). ls ++ line.Mark c.args.session c.args.seq c.args.upto ∷ []) (c.make_line_room.ensures.lines ∙ ap (λ (j : JournalView). j.lines) (sym same)))
    (c.note.ensures.written
    ∙ ap (λ (rs : List Record). rs ++ record { line = line.Mark c.args.session c.args.seq c.args.upto; changes = [] } ∷ []) c.make_line_room.ensures.items)

pub returns-clause-lines : goal.returns-clause-lines
returns-clause-lines c =
    ap (λ (j : JournalView). front j.lines) c.note.ensures.line
    ∙ ap (λ (ls : List Line). front (ls ++ line.Mark c.args.session c.args.seq c.args.upto ∷ [])) c.make_line_room.ensures.lines
    ∙ front-mark c.args.journal.now.lines c.args.session c.args.seq c.args.upto
