use Rattle.std.proofs.Common.{◌≡◌, Some, rules}
use Rattle.ris_script.proofs.StandingLemmas.{heard-commit}
use Rattle.ris_script.proofs.sessions.Session.commit.Goals as goal

pub returns : goal.returns
returns c =
    let inside = c.self.inside in
    let closed = c.in-Some-close.ensures {u = tt} in
    let more = heard-commit inside.commands.items c.in-Some.parts inside.left closed.0 in
    let open_ : inside.parts ≡ Some c.in-Some.parts = search rules in
    let taken = c.take.ensures.after in
    let pushed = (c.in_ok-push_command.ensures {u = tt}).ok in
    cc
