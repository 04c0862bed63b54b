use Rattle.std.proofs.Common.{◌≡◌, []}
use Rattle.ris_epoch.proofs.tests.expect_replies.Given as goal

abbrev pub invariant-replies : goal.invariant-replies
invariant-replies g l = l.driver.records ≡ []
