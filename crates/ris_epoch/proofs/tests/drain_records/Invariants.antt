use Rattle.std.proofs.Common.{◌≡◌, length}
use Rattle.ris_epoch.proofs.tests.drain_records.Given as goal

abbrev pub invariant-records : goal.invariant-records
invariant-records l = record {
  opening : l.driver.opening ≡ l.fn.driver.opening;
  journal : l.driver.journal ≡ l.fn.driver.journal;
}

abbrev pub decreases-records : goal.decreases-records
decreases-records l = length l.driver.records
