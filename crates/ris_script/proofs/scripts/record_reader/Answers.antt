use Rattle.std.proofs.Common.{◌≡◌, List, ℕ, Some, Bor, ap, ◌∙◌}
use Rattle.csv.specs.Reading.{reader_state, strip_bom}
use Rattle.csv.specs.declared.parser.State.TheVariants as st
use Rattle.csv.specs.declared.reader.Reader.{Reader}
use Rattle.ris_script.proofs.LeftLemmas.{start-left}
use Rattle.ris_script.proofs.scripts.record_reader.Goals as goal
use Rattle.ris_script.specs.Left.{bytes_left}

pub returns-in-Ok-clause-all : goal.returns-in-Ok-clause-all
returns-in-Ok-clause-all c =
    let from = c.from_reader-reader.ensures in
    let now = c.set_byte_headers.new.self in
    let same = (c.in-Ok.ensures {u = tt}).same in
    let state : reader_state now ≡ st.StartRecord = ap (λ (r : Reader (Bor (List ℕ))). reader_state r) same ∙ from.state in
    let source : bytes_left now ≡ Some (strip_bom c.args.bytes.now) = ap (λ (r : Reader (Bor (List ℕ))). bytes_left r) same ∙ from.source in
    start-left now c.args.bytes.now state source
