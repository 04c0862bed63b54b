use Rattle.std.proofs.Common.{◌≤◌, ◌<◌, ◌∙◌, List, Option, ℕ, arith, ap, length, subst, take}
use Rattle.std.specs.Option.{IfSome}
use Rattle.ris_base.specs.Lines.{front}
use Rattle.ris_base.specs.declared.lines.Line.{Line}
use Rattle.ris_base.proofs.LineLemmas.{front-within}
use Rattle.ris_core.specs.Stands.{Listing}
use Rattle.ris_core.proofs.board.Board.answer.Goals as goal

pub answer_at-requires-clause-place : goal.answer_at-requires-clause-place
answer_at-requires-clause-place c =
    let l = c.args.self.now in
    let lines = c.self.inside.lines.items in
    let n = c.self.inside.published in
    let v = c.self.view_is in
    let published = ap (λ (m : Listing). m.published) v in
    let count = ap (λ (m : Listing). length m.lines) v in
    let places = ap (λ (m : Listing). length m.places) v in
    let within : n ≤ length lines = (let w = c.requires.within in omega arith) in
    let low = front-within lines n within in
    let known = c.front-front.ensures ∙ ap (λ (ls : List Line). front (take n ls)) c.deref.ensures.value in
    let less : c.in-Some.place < length l.places = (let t = c.if-front-place.false in let i = c.self.invariant.1 in omega arith) in
    subst (λ (o : Option ℕ). IfSome o (λ p. p < length l.places)) c.in-Some.ensures less
