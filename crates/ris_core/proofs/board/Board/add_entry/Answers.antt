use Rattle.std.proofs.Common.{◌≡◌, ◌++◌, ◌∷◌, [], ◌∙◌, ap, sym, arith, length, length-append, subst}
use Rattle.std.specs.List.{All}
use Rattle.std.proofs.lemmas.List.Elements.{All-push}
use Rattle.ris_base.specs.Lines.{front}
use Rattle.ris_base.specs.Requests.{after, entered}
use Rattle.ris_base.specs.declared.lines.Line.TheVariants as line
use Rattle.ris_base.proofs.LineLemmas.{after-entry, front-entry}
use Rattle.ris_core.specs.Moves.{graph_in}
use Rattle.ris_core.proofs.board.Board.add_entry.Goals as goal

pub invariant_of-self-2 : goal.invariant_of-self-2
invariant_of-self-2 c =
    let lines = c.self.inside.lines.items in
    let e = c.args.entry in
    let is = c.in_ok-push_entry.ensures.lines in
    let places = c.in_ok-push_entry.ensures.places in (
      c.requires.after ∙ ap (λ l. entered (graph_in l) e.parts) (sym c.self.view_is) ∙ sym (after-entry c.self.inside.opening lines e)
          ∙ sym (ap (λ ls. after c.self.inside.opening ls (front ls)) is ∙ ap (after c.self.inside.opening (lines ++ line.Entry e ∷ [])) (front-entry lines e)),
      (let a = ap length places in let b = length-append c.self.inside.places.items (c.args.tables ∷ []) in let f = ap front is in let g = front-entry lines e in let i = c.self.invariant.1 in omega arith),
      subst (All (λ tables. length tables ≡ length c.self.inside.specs)) (sym places) (All-push (λ tables. length tables ≡ length c.self.inside.specs) c.self.inside.places.items c.args.tables c.self.invariant.2
          (c.requires.full ∙ sym (ap (λ l. length l.specs) c.self.view_is))),
    )
