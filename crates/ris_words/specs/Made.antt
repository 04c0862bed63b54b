-- The made script, by the words of a generator.
use Rattle.std.specs.Prelude.{ℕ, zero, suc, ◌%◌, nat_lt, if◌then◌else◌, List, [], ◌∷◌, ◌++◌, map, slice_index_or, codes}
use Rattle.rand_pcg.specs.Lcg.{Lcg, increment_of, started}
use Rattle.rand_pcg.specs.Pcg.{multiplier_64, pcg32}
use Rattle.ris_base.specs.Script.{Bytes}
use Rattle.ris_base.specs.Transcript.{Field, text_of}
use Rattle.ris_base.specs.Transcript.Field.{Word, Number}
use Rattle.ris_base.specs.declared.graphs.Triple.{Triple}

-- the generator of a seed, on stream 54
abbrev pub random_of : ℕ → Lcg
random_of seed = started 64 multiplier_64 seed (increment_of 64 54)

-- the next word modulo m, and the generator behind it
abbrev pub draw : ℕ → Lcg → ℕ × Lcg
draw m g = ((pcg32 g).0 % m, (pcg32 g).1)

-- an edge: two ends and then a weight
abbrev pub draw_edge : Lcg → Triple × Lcg
draw_edge g =
    let source = draw 1000 g in
    let target = draw 1000 source.1 in
    let weight = draw 100 target.1 in
    (record { source = source.0; target = target.0; weight = weight.0 }, weight.1)

-- so many edges, one behind another
unfoldable pub draw_edges : ℕ → Lcg → List Triple × Lcg
draw_edges zero g = ([], g)
draw_edges (suc n) g =
    let first = draw_edge g in
    let rest = draw_edges n first.1 in
    (first.0 ∷ rest.0, rest.1)

-- The records, field by field

-- the ends and the weight of an edge
abbrev pub edge_fields : Triple → List Field
edge_fields edge = Number edge.source ∷ Number edge.target ∷ Number edge.weight ∷ []

-- what a command of kind t says behind its session: an edge that comes, a base edge that goes, a value, the vertices that were
-- modified, or a vertex that comes
abbrev pub draw_command : List Triple → ℕ → Lcg → List Field × Lcg
draw_command base t g =
    if nat_lt t 4 then
    (let edge = draw_edge g in
    (Word (codes "adde") ∷ edge_fields edge.0, edge.1))
    else if nat_lt t 7 then
    (let k = draw 5000 g in
    (Word (codes "dele") ∷ edge_fields (slice_index_or base k.0 (record { source = 0; target = 0; weight = 0 })), k.1))
    else if nat_lt t 8 then
    (let analysis = draw 3 g in
    let vertex = draw 1000 analysis.1 in
    (Word (codes "value") ∷ Word (codes "last") ∷ Number analysis.0 ∷ Number vertex.0 ∷ [], vertex.1))
    else if nat_lt t 9 then
    (let analysis = draw 3 g in
    (Word (codes "modified") ∷ Word (codes "last") ∷ Number analysis.0 ∷ [], analysis.1))
    else
    (let vertex = draw 1000 g in
    (Word (codes "addv") ∷ Number vertex.0 ∷ [], vertex.1))

-- the next command: its kind of 10, and what it says
abbrev pub draw_next : List Triple → Lcg → List Field × Lcg
draw_next base g =
    let kind = draw 10 g in
    draw_command base kind.0 kind.1

-- so many commands from number i on, of 8 sessions in turn
unfoldable pub draw_commands : List Triple → ℕ → ℕ → Lcg → List (List Field)
draw_commands base i zero g = []
draw_commands base i (suc n) g =
    let next = draw_next base g in
    (Number (i % 8) ∷ next.0) ∷ draw_commands base (suc i) n next.1

-- the first record: 1,000 vertices and 8 sessions
abbrev pub first_record : List Field
first_record = Word (codes "risgraph") ∷ Number 1 ∷ Number 1000 ∷ Number 8 ∷ []

-- the record of a base edge
abbrev pub base_fields : Triple → List Field
base_fields edge = Word (codes "base") ∷ edge_fields edge

-- the script of a seed, of so many commands: the first record, 5,000 base edges and the commands
unfoldable pub made_records : ℕ → ℕ → List (List Field)
made_records seed size =
    let base = draw_edges 5000 (random_of seed) in
    first_record ∷ map base_fields base.0 ++ draw_commands base.0 0 size base.1

-- its text: the fields of a record are joined by commas, and every record ends with a line feed
abbrev pub made_script : ℕ → ℕ → Bytes
made_script seed size = text_of (made_records seed size)
