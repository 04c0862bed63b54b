use Rattle.std.proofs.Common.{◌≡◌, [], length}
use Rattle.ris_epoch.proofs.tests.drain_replies.Given as goal

abbrev pub invariant-replies : goal.invariant-replies
invariant-replies l = record {
  records : l.driver.records ≡ [];
  opening : l.driver.opening ≡ l.fn.driver.opening;
  journal : l.driver.journal ≡ l.fn.driver.journal;
}

abbrev pub decreases-replies : goal.decreases-replies
decreases-replies l = length l.driver.replies
