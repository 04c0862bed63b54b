use Rattle.std.proofs.Common.{inl, ◌∙◌}
use Rattle.csv.specs.Records.{fields_of}
use Rattle.ris_script.proofs.LeftLemmas.{read-left}
use Rattle.ris_script.proofs.rows.advance.Goals as goal

pub returns-clause-next : goal.returns-clause-next
returns-clause-next c =
    let known = c.in-Ok.ensures {u = tt} in
    let read = known.reads c.requires.untrimmed c.requires.ready in
    (read-left c.args.reader.now c.read_byte_record.new.self c.in-Ok.found (fields_of c.read_byte_record.new.row) c.requires read).0

pub returns-clause-steady : goal.returns-clause-steady
returns-clause-steady c =
    let known = c.in-Ok.ensures {u = tt} in
    let read = known.reads c.requires.untrimmed c.requires.ready in
    let more = read-left c.args.reader.now c.read_byte_record.new.self c.in-Ok.found (fields_of c.read_byte_record.new.row) c.requires read in
    record {
      plain = read.2 ∙ c.requires.plain;
      untrimmed = read.3 ∙ c.requires.untrimmed;
      flexible = known.flexible ∙ c.requires.flexible;
      ready = inl (known.ready c.requires.untrimmed);
      known = more.1;
    }
