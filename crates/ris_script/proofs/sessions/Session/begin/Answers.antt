use Rattle.std.proofs.Common.{◌≡◌, [], false, is_some, rules}
use Rattle.ris_script.proofs.StandingLemmas.{heard-begin}
use Rattle.ris_script.proofs.sessions.Session.begin.Goals as goal

pub returns : goal.returns
returns c =
    let inside = c.self.inside in
    let none : is_some inside.parts ≡ false = search rules in
    let more = heard-begin inside.commands.items inside.parts inside.left none in
    let new : c.in_ok-new.field-0 ≡ [] = search rules in
    cc
