use Rattle.std.proofs.Common.{◌≡◌, Some, subst}
use Rattle.ris_base.specs.Script.{Part}
use Rattle.ris_script.proofs.StandingLemmas.{heard-change, heard-part, standing_of}
use Rattle.ris_script.proofs.sessions.Session.part.Goals as goal
use Rattle.ris_script.specs.Standing.{Becomes, Standing, heard}

pub returns-in-Some : goal.returns-in-Some
returns-in-Some c =
    let inside = c.self.inside in
    let more = heard-part c.add_part.result inside.commands.items c.in-Some.parts c.add_part.new.parts inside.left c.args.update c.add_part.ensures in
    let same : standing_of inside.commands.items (Some c.in-Some.parts) inside.left ≡ c.args.self.now = cc in
    subst (λ (t : Standing). Becomes c.add_part.result (standing_of inside.commands.items (Some c.add_part.new.parts) inside.left) (heard t (Part c.args.update))) same more

pub returns-in_ok-push_command-in-None : goal.returns-in_ok-push_command-in-None
returns-in_ok-push_command-in-None c =
    let inside = c.self.inside in
    let change = c.in_ok-change-in-None.ensures {u = tt} in
    let pushed = (c.in_ok-push_command-in-None.ensures {u = tt}).ok in
    heard-change inside.commands.items c.push_command.new.commands.items inside.parts inside.left c.args.update c.in_ok-change-in-None.change c.args.self.now
    c.self.view_is c.in-None.is change pushed
