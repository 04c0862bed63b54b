use Rattle.std.proofs.Common.{[], subst, sym}
use Rattle.ris_base.specs.Machine.{Step, step_of}
use Rattle.ris_base.specs.declared.events.Event.{Event}
use Rattle.ris_base.proofs.RequestLemmas.{proper-after}
use Rattle.ris_base.specs.Lines.{front}
use Rattle.ris_core.specs.Answered.{answered}
use Rattle.ris_core.specs.Moves.{begun, celled, left, marked, published, read, sealed, submitted, taken}
use Rattle.ris_core.specs.Stands.{IsTried}
use Rattle.ris_core.proofs.BeginMove.{begin-move}
use Rattle.ris_core.proofs.CellMoves.{cell-move}
use Rattle.ris_core.proofs.ReadAnswers.{answered-right}
use Rattle.ris_core.proofs.ReadMove.{read-move}
use Rattle.ris_core.proofs.SealMove.{seal-move}
use Rattle.ris_core.proofs.StateLemmas.{take-move, tried}
use Rattle.ris_core.proofs.TailMoves.{leave-move, mark-move, publish-move, submit-move}
use Rattle.ris_core.proofs.board.Board.step.Goals as goal

pub serial-requires-after_bounds : goal.serial-requires-after_bounds
serial-requires-after_bounds g c κs κ = let l = c.args.self.now in proper-after l.opening l.lines (front l.lines) c.requires.proper

pub returns-in-Submit : goal.returns-in-Submit
returns-in-Submit g c =
    let l = c.args.self.now in
    subst (λ (e : Event). IsTried l (step_of e) c.submit.new.self c.submit.result) (sym c.in-Submit.is)
    (tried l c.submit.new.self (Step.Submit c.in-Submit.session c.in-Submit.request) (submitted l c.in-Submit.session c.in-Submit.request) c.submit.result (submit-move l c.in-Submit.session c.in-Submit.request) c.submit.ensures)

pub returns-in-Take : goal.returns-in-Take
returns-in-Take g c =
    let l = c.args.self.now in
    subst (λ (e : Event). IsTried l (step_of e) c.take.new.self c.take.result) (sym c.in-Take.is)
    (tried l c.take.new.self (Step.Take c.in-Take.session) (taken l c.in-Take.session) c.take.result (take-move l c.in-Take.session) c.take.ensures)

pub returns-in-Begin : goal.returns-in-Begin
returns-in-Begin g c =
    let l = c.args.self.now in
    subst (λ (e : Event). IsTried l (step_of e) c.begin.new.self c.begin.result) (sym c.in-Begin.is)
    (tried l c.begin.new.self (Step.Begin []) (begun l) c.begin.result (begin-move l) c.begin.ensures)

pub returns-in-Cell : goal.returns-in-Cell
returns-in-Cell g c =
    let l = c.args.self.now in
    subst (λ (e : Event). IsTried l (step_of e) c.cell.new.self c.cell.result) (sym c.in-Cell.is)
    (tried l c.cell.new.self (Step.Cell c.in-Cell.stripe c.in-Cell.session) (celled l c.in-Cell.stripe c.in-Cell.session) c.cell.result (cell-move l c.in-Cell.stripe c.in-Cell.session) c.cell.ensures)

pub returns-in-Seal : goal.returns-in-Seal
returns-in-Seal g c =
    let l = c.args.self.now in
    subst (λ (e : Event). IsTried l (step_of e) c.seal.new.self c.seal.result) (sym c.in-Seal.is)
    (tried l c.seal.new.self (Step.Seal c.in-Seal.order) (sealed l c.in-Seal.order) c.seal.result (seal-move l c.in-Seal.order c.requires) c.seal.ensures)

pub returns-in-Mark : goal.returns-in-Mark
returns-in-Mark g c =
    let l = c.args.self.now in
    subst (λ (e : Event). IsTried l (step_of e) c.mark.new.self c.mark.result) (sym c.in-Mark.is)
    (tried l c.mark.new.self (Step.Mark c.in-Mark.session) (marked l c.in-Mark.session) c.mark.result (mark-move l c.in-Mark.session) c.mark.ensures)

pub returns-in-Leave : goal.returns-in-Leave
returns-in-Leave g c =
    let l = c.args.self.now in
    subst (λ (e : Event). IsTried l (step_of e) c.leave.new.self c.leave.result) (sym c.in-Leave.is)
    (tried l c.leave.new.self (Step.Leave c.in-Leave.session) (left l c.in-Leave.session) c.leave.result (leave-move l c.in-Leave.session) c.leave.ensures)

pub returns-in-Publish : goal.returns-in-Publish
returns-in-Publish g c =
    let l = c.args.self.now in
    subst (λ (e : Event). IsTried l (step_of e) c.publish.new.self c.publish.result) (sym c.in-Publish.is)
    (tried l c.publish.new.self (Step.Publish) (published l) c.publish.result (publish-move l) c.publish.ensures)

pub returns-in-Read : goal.returns-in-Read
returns-in-Read g c =
    let l = c.args.self.now in
    subst (λ (e : Event). IsTried l (step_of e) c.read.new.self c.read.result) (sym c.in-Read.is)
    (tried l c.read.new.self (Step.Read c.in-Read.session c.in-Read.question) (read l c.in-Read.session c.in-Read.question (answered l c.in-Read.question)) c.read.result (read-move l c.in-Read.session c.in-Read.question (answered l c.in-Read.question) (answered-right l c.requires c.read.ensures.full c.in-Read.question)) c.read.ensures.made)
