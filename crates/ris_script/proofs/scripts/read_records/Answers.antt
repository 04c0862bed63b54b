use Rattle.std.proofs.Common.{refl}
use Rattle.ris_script.proofs.ReadLemmas.{script_from-header}
use Rattle.ris_script.proofs.scripts.read_records.Goals as goal
use Rattle.ris_script.specs.Headers.{header_meaning}
use Rattle.ris_script.specs.Left.{records_left}

pub loop-draft-init : goal.loop-draft-init
loop-draft-init c =
    let start = c.in_ok-draft.ensures {u = tt} in
    record {
      steady = c.requires.steady;
      counted = refl;
      left = rw start (script_from-header (header_meaning c.args.header) c.args.analyses (records_left c.args.reader.now));
    }
