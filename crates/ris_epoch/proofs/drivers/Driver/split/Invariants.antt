use Rattle.std.proofs.Common.{◌≡◌, ◌++◌, List, length}
use Rattle.ris_base.specs.Epoch.{Ground}
use Rattle.ris_base.specs.declared.records.Record.{Record}
use Rattle.ris_base.specs.declared.requests.Request.{Request}
use Rattle.ris_epoch.specs.DriverView.{StandsFor}
use Rattle.ris_epoch.specs.Turning.{HasBegun}
use Rattle.ris_epoch.proofs.drivers.Driver.split.Given as goal

abbrev pub invariant-begins : goal.invariant-begins
invariant-begins g l = record {
  done : List Request;
  is : l.fn.requests ≡ done ++ l.requests;
  all : (ground : Ground) (records : List Record) → StandsFor l.fn.self ground records → HasBegun ground records (length l.fn.requests) done l.self l.candidates l.rest;
  lines : l.self.journal.lines ≡ l.fn.self.journal.lines;
  opening : l.self.opening ≡ l.fn.self.opening;
}

abbrev pub decreases-begins : goal.decreases-begins
decreases-begins g l = length l.requests
