use Rattle.std.proofs.Common.{◌++◌, List, [], ◌∷◌, refl, sym, ap, ◌∙◌}
use Rattle.ris_base.specs.Lines.{front}
use Rattle.ris_base.specs.declared.lines.Line.{Line}
use Rattle.ris_base.specs.declared.lines.Line.TheVariants as line
use Rattle.ris_base.specs.declared.records.Record.{Record}
use Rattle.ris_base.proofs.LineLemmas.{front-leave}
use Rattle.ris_journal.specs.JournalView.{JournalView}
use Rattle.ris_epoch.proofs.StandingFor.{stands-same}
use Rattle.ris_epoch.proofs.TailSteps.{does-left, does-unleft}
use Rattle.ris_epoch.proofs.answers.left.Goals as goal

pub returns-in_default-clause-does : goal.returns-in_default-clause-does
returns-in_default-clause-does c = λ d base before ticks stands same here.
    does-unleft base before (record d { records = c.args.records.now.items }) (record d { journal = c.make_line_room.new.journal; records = c.make_line_room.new.records.items }) ticks
    c.args.session c.args.seq
    (stands-same d (record d { journal = c.make_line_room.new.journal; records = c.make_line_room.new.records.items }) base before stands refl refl refl
    (c.make_line_room.ensures.lines ∙ ap (λ (j : JournalView). j.lines) (sym same)))
    c.make_line_room.ensures.items

pub returns-clause-does : goal.returns-clause-does
returns-clause-does c = λ d base before ticks stands same here.
    does-left base before (record d { records = c.args.records.now.items }) (record d { journal = c.note.new.journal; records = c.note.new.records.items }) ticks
    c.args.session c.args.seq c.front-front.result
    (stands-same d (record d { records = c.args.records.now.items }) base before stands refl refl refl refl)
    (c.front-front.ensures ∙ ap (λ (j : JournalView). front j.lines) (sym same)) here refl refl refl
    (ap (λ (j : JournalView). j.lines) c.note.ensures.line
    ∙ ap (λ (ls : List Line). ls ++ line.Leave c.args.session c.args.seq ∷ []) (c.make_line_room.ensures.lines ∙ ap (λ (j : JournalView). j.lines) (sym same)))
    (c.note.ensures.written
    ∙ ap (λ (rs : List Record). rs ++ record { line = line.Leave c.args.session c.args.seq; changes = [] } ∷ []) c.make_line_room.ensures.items)

pub returns-clause-lines : goal.returns-clause-lines
returns-clause-lines c =
    ap (λ (j : JournalView). front j.lines) c.note.ensures.line
    ∙ ap (λ (ls : List Line). front (ls ++ line.Leave c.args.session c.args.seq ∷ [])) c.make_line_room.ensures.lines
    ∙ front-leave c.args.journal.now.lines c.args.session c.args.seq
