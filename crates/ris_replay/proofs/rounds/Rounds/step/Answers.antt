use Rattle.std.proofs.Common.{true, false, arith, sym, subst}
use Rattle.ris_session.specs.PlayerView.{IsAsk}
use Rattle.ris_session.specs.declared.players.Next.{Next}
use Rattle.ris_replay.specs.RoundsView.{view_of}
use Rattle.ris_replay.proofs.RoundSteps.{answer-fits, ask-again, asked-at, may-ask, queue-in, steps-ask, steps-rest, steps-submit}
use Rattle.ris_replay.proofs.rounds.Rounds.step.Goals as goal

pub index_mut-requires-in-Submit : goal.index_mut-requires-in-Submit
index_mut-requires-in-Submit g c =
    let here = queue-in (view_of c.args.self.now) c.args.n c.requires.running c.requires.here in
    let size = c.args.self.now.queues.ok.0 in
    omega arith

pub returns-in_ok-push-in-Submit-clause-keeps : goal.returns-in_ok-push-in-Submit-clause-keeps
returns-in_ok-push-in-Submit-clause-keeps g c =
    (steps-submit (view_of c.args.self.now) c.args.n c.in-Submit.request c.index_mut.result.now c.next.new.self c.index_mut-in-Submit.result.now c.push.new.self
    c.requires.running c.requires.here c.index_mut.ensures.value c.in-Submit.ensures.step c.in-Submit.ensures.after c.index_mut-in-Submit.ensures.value c.in_ok-push-in-Submit.ensures.ok).keeps

pub returns-in_ok-push-in-Submit-clause-alone : goal.returns-in_ok-push-in-Submit-clause-alone
returns-in_ok-push-in-Submit-clause-alone g c =
    (steps-submit (view_of c.args.self.now) c.args.n c.in-Submit.request c.index_mut.result.now c.next.new.self c.index_mut-in-Submit.result.now c.push.new.self
    c.requires.running c.requires.here c.index_mut.ensures.value c.in-Submit.ensures.step c.in-Submit.ensures.after c.index_mut-in-Submit.ensures.value c.in_ok-push-in-Submit.ensures.ok).alone

pub returns-in_ok-push-in-Submit-clause-step : goal.returns-in_ok-push-in-Submit-clause-step
returns-in_ok-push-in-Submit-clause-step g c =
    (steps-submit (view_of c.args.self.now) c.args.n c.in-Submit.request c.index_mut.result.now c.next.new.self c.index_mut-in-Submit.result.now c.push.new.self
    c.requires.running c.requires.here c.index_mut.ensures.value c.in-Submit.ensures.step c.in-Submit.ensures.after c.index_mut-in-Submit.ensures.value c.in_ok-push-in-Submit.ensures.ok).step

pub ask-answer-requires : goal.ask-answer-requires
ask-answer-requires g c =
    may-ask (view_of c.args.self.now) c.args.n c.in-Ask.question c.requires.running c.requires.here
    (asked-at (view_of c.args.self.now) c.args.n c.in-Ask.question c.index_mut.result.now c.requires.here c.index_mut.ensures.value c.in-Ask.ensures.step)

pub answered-requires-clause-asked : goal.answered-requires-clause-asked
answered-requires-clause-asked g c =
    subst (λ (k : Next). IsAsk k)
    (sym (ask-again (view_of c.args.self.now) c.args.n c.in-Ask.question c.index_mut.result.now c.next.new.self c.index_mut-in-Ask.result.now c.requires.here
    c.index_mut.ensures.value c.in-Ask.ensures.step c.in-Ask.ensures.after c.index_mut-in-Ask.ensures.value)) tt

pub answered-requires-clause-kept : goal.answered-requires-clause-kept
answered-requires-clause-kept g c =
    answer-fits (view_of c.args.self.now) c.in-Ask.question c.ask-answer.result c.requires.running c.ask-answer.ensures.exact c.ask-answer.ensures.answers

pub returns-in-Ask-clause-keeps : goal.returns-in-Ask-clause-keeps
returns-in-Ask-clause-keeps g c =
    (steps-ask (view_of c.args.self.now) c.args.n c.in-Ask.question c.index_mut.result.now c.next.new.self c.index_mut-in-Ask.result.now c.answered.new.self c.ask-answer.result
    c.requires.here c.index_mut.ensures.value c.in-Ask.ensures.step c.in-Ask.ensures.after c.index_mut-in-Ask.ensures.value c.answered.ensures
    c.ask-answer.ensures.exact c.ask-answer.ensures.answers).keeps

pub returns-in-Ask-clause-alone : goal.returns-in-Ask-clause-alone
returns-in-Ask-clause-alone g c =
    (steps-ask (view_of c.args.self.now) c.args.n c.in-Ask.question c.index_mut.result.now c.next.new.self c.index_mut-in-Ask.result.now c.answered.new.self c.ask-answer.result
    c.requires.here c.index_mut.ensures.value c.in-Ask.ensures.step c.in-Ask.ensures.after c.index_mut-in-Ask.ensures.value c.answered.ensures
    c.ask-answer.ensures.exact c.ask-answer.ensures.answers).alone

pub returns-in-Ask-clause-step : goal.returns-in-Ask-clause-step
returns-in-Ask-clause-step g c =
    (steps-ask (view_of c.args.self.now) c.args.n c.in-Ask.question c.index_mut.result.now c.next.new.self c.index_mut-in-Ask.result.now c.answered.new.self c.ask-answer.result
    c.requires.here c.index_mut.ensures.value c.in-Ask.ensures.step c.in-Ask.ensures.after c.index_mut-in-Ask.ensures.value c.answered.ensures
    c.ask-answer.ensures.exact c.ask-answer.ensures.answers).step

pub returns-in-Done-clause-keeps : goal.returns-in-Done-clause-keeps
returns-in-Done-clause-keeps g c =
    (steps-rest (view_of c.args.self.now) c.args.n true c.index_mut.result.now c.next.new.self c.requires.here c.index_mut.ensures.value c.in-Done.ensures.step
    c.in-Done.ensures.after).keeps

pub returns-in-Done-clause-alone : goal.returns-in-Done-clause-alone
returns-in-Done-clause-alone g c =
    (steps-rest (view_of c.args.self.now) c.args.n true c.index_mut.result.now c.next.new.self c.requires.here c.index_mut.ensures.value c.in-Done.ensures.step
    c.in-Done.ensures.after).alone

pub returns-in-Done-clause-step : goal.returns-in-Done-clause-step
returns-in-Done-clause-step g c =
    (steps-rest (view_of c.args.self.now) c.args.n true c.index_mut.result.now c.next.new.self c.requires.here c.index_mut.ensures.value c.in-Done.ensures.step
    c.in-Done.ensures.after).step

pub returns-in-Await-clause-keeps : goal.returns-in-Await-clause-keeps
returns-in-Await-clause-keeps g c =
    (steps-rest (view_of c.args.self.now) c.args.n false c.index_mut.result.now c.next.new.self c.requires.here c.index_mut.ensures.value c.in-Await.ensures.step
    c.in-Await.ensures.after).keeps

pub returns-in-Await-clause-alone : goal.returns-in-Await-clause-alone
returns-in-Await-clause-alone g c =
    (steps-rest (view_of c.args.self.now) c.args.n false c.index_mut.result.now c.next.new.self c.requires.here c.index_mut.ensures.value c.in-Await.ensures.step
    c.in-Await.ensures.after).alone

pub returns-in-Await-clause-step : goal.returns-in-Await-clause-step
returns-in-Await-clause-step g c =
    (steps-rest (view_of c.args.self.now) c.args.n false c.index_mut.result.now c.next.new.self c.requires.here c.index_mut.ensures.value c.in-Await.ensures.step
    c.in-Await.ensures.after).step
