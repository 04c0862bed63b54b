use Rattle.std.proofs.Common.{◌≡◌, ◌+◌, length}
use Rattle.ris_base.specs.Script.{script_or_fault}
use Rattle.ris_script.proofs.ReadLemmas.{script_from}
use Rattle.ris_script.proofs.scripts.read_records.Given as goal
use Rattle.ris_script.specs.Headers.{header_meaning}
use Rattle.ris_script.specs.Left.{GivesRecords, records_left}

abbrev pub invariant-loop-draft : goal.invariant-loop-draft
invariant-loop-draft l = record {
  steady : GivesRecords l.reader;
  counted : l.number + length (records_left l.reader) ≡ 1 + length (records_left l.fn.reader);
  left : script_or_fault (header_meaning l.fn.header) l.analyses (records_left l.fn.reader) ≡ script_from l.analyses l.draft l.number (records_left l.reader);
}

abbrev pub decreases-loop-draft : goal.decreases-loop-draft
decreases-loop-draft l = length (records_left l.reader)
