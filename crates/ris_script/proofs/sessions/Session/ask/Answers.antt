use Rattle.std.proofs.Common.{◌≡◌, ◌||◌, false, is_some, rules, refl}
use Rattle.ris_base.specs.Script.{Asks, is_leave}
use Rattle.ris_script.proofs.StandingLemmas.{heard-ask}
use Rattle.ris_script.proofs.sessions.Session.ask.Goals as goal
use Rattle.ris_script.proofs.sessions.Session.ask.Goals.{then-is_leave, else-is_leave}

pub returns : goal.returns
returns c =
    let inside = c.self.inside in
    let none : is_some inside.parts ≡ false = search rules in
    let more = heard-ask inside.commands.items inside.parts inside.left c.args.command none in
    let left : c.if-is_leave.self ≡ (is_leave (Asks c.args.command) || inside.left) =
    elim c.if-is_leave.branch [
      | then-is_leave w ↦ rw (w.self-is, ← c.is_leave.ensures, w.if-is_leave.true) refl
      | else-is_leave w ↦ rw (w.self-is, ← c.is_leave.ensures, w.if-is_leave.false) refl
    ] in
    let pushed = (c.in_ok-push_command.ensures {u = tt}).ok in
    cc
