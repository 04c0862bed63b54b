use Rattle.std.proofs.Common.{◌∙◌, ap, sym, ◌+◌}
use Rattle.ris_base.specs.Lines.{front}
use Rattle.ris_base.specs.Requests.{after}
use Rattle.ris_core.proofs.LineMoves.{line-after, line-front}
use Rattle.ris_core.proofs.board.Board.add_line.Goals as goal

pub invariant_of-self-2 : goal.invariant_of-self-2
invariant_of-self-2 c =
    let e = c.in_ok-push_line.ensures.lines in
    let old = c.self.inside.lines.items in (
      c.self.invariant.0 ∙ sym (ap (λ ls. after c.self.inside.opening ls (front ls)) e ∙ line-after c.self.inside.opening old c.args.line c.requires.no_entry),
      c.self.invariant.1 ∙ ap (λ n. n + 1) (sym (ap front e ∙ line-front old c.args.line c.requires.no_entry)),
      c.self.invariant.2,
    )
