use Rattle.std.proofs.Common.{◌≡◌, ◌+◌, ◌<◌, ◌≤◌, ◌++◌, List, length}
use Rattle.std.specs.List.{All}
use Rattle.ris_base.specs.Epoch.{Ground}
use Rattle.ris_base.specs.Lines.{front}
use Rattle.ris_base.specs.Machine.{session_by}
use Rattle.ris_base.specs.declared.records.Record.{Record}
use Rattle.ris_base.specs.declared.requests.Request.{Request}
use Rattle.ris_epoch.specs.DriverView.{StandsFor}
use Rattle.ris_epoch.specs.Turning.{HandlesAll}
use Rattle.ris_epoch.proofs.drivers.Driver.handle_all.Given as goal

abbrev pub invariant-handles : goal.invariant-handles
invariant-handles g l = record {
  done : List Request;
  is : l.fn.tail ≡ done ++ l.tail;
  all : (ground : Ground) (records : List Record) → StandsFor l.fn.self ground records
      → HandlesAll ground records done l.fn.self l.self (g.M.Meter.ticks l.fn.meter) (g.M.Meter.ticks l.meter);
  here : All (λ r. session_by r < l.self.opening.sessions) l.tail;
  lines : front l.self.journal.lines + length l.tail ≤ front l.fn.self.journal.lines + length l.fn.tail;
  room : length l.self.replies + length l.tail ≤ 64;
  opening : l.self.opening ≡ l.fn.self.opening;
}

abbrev pub decreases-handles : goal.decreases-handles
decreases-handles g l = length l.tail
