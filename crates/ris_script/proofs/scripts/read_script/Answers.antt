use Rattle.std.proofs.Common.{arith, ap, length, sym, ◌∙◌}
use Rattle.csv.specs.Records.{fields_of}
use Rattle.ris_script.proofs.ByteLemmas.{script_of-behind, script_of-empty, script_of-headless}
use Rattle.ris_script.proofs.LeftLemmas.{records-bound}
use Rattle.ris_script.proofs.scripts.read_script.Goals as goal
use Rattle.ris_script.specs.Headers.{header_meaning}
use Rattle.ris_script.specs.Left.{records_left}

pub returns-then-not-branch : goal.returns-then-not-branch
returns-then-not-branch c =
    let all = (c.in_ok-reader.ensures {u = tt}).all in
    let next = rw c.if-not-branch.true at (c.in_ok-advance.ensures {u = tt}).next in
    record { reads = rw c.no_header.ensures (script_of-empty c.args.analyses c.args.bytes.now (sym all ∙ next)) }

pub read_records-requires-clause-few : goal.read_records-requires-clause-few
read_records-requires-clause-few c =
    let all = (c.in_ok-reader.ensures {u = tt}).all in
    let next = rw c.if-not-branch.false at (c.in_ok-advance.ensures {u = tt}).next in
    let bound = records-bound c.args.bytes.now in
    let size = ap length (sym all ∙ next) in
    omega (arith, bound, size)

pub returns-in-Some : goal.returns-in-Some
returns-in-Some c =
    let all = (c.in_ok-reader.ensures {u = tt}).all in
    let next = rw c.if-not-branch.false at (c.in_ok-advance.ensures {u = tt}).next in
    let some = c.in-Some.ensures {u = tt} in
    let behind = script_of-behind c.args.analyses c.args.bytes.now (fields_of c.advance.new.row) (records_left c.advance.new.reader) (header_meaning c.in-Some.header) (sym all ∙ next) some in
    record { reads = rw behind c.read_records.ensures }

pub returns : goal.returns
returns c =
    let all = (c.in_ok-reader.ensures {u = tt}).all in
    let next = rw c.if-not-branch.false at (c.in_ok-advance.ensures {u = tt}).next in
    let none = c.in-None.ensures {u = tt} in
    record { reads = rw c.no_header-in-None.ensures (script_of-headless c.args.analyses c.args.bytes.now (fields_of c.advance.new.row) (records_left c.advance.new.reader) (sym all ∙ next) none) }
