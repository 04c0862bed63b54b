-- What the records of a made script are, and within which limits their numbers are.
use Rattle.std.proofs.Common.{◌≡◌, ◌%◌, ◌<◌, ℕ, zero, suc, Bool, true, false, nat_lt, List, [], ◌∷◌, ◌++◌, length, map, get_or, arith, refl, ap, codes}
use Rattle.std.specs.List.{AllByRecursion}
use Rattle.rand_pcg.specs.Lcg.{Lcg}
use Rattle.ris_base.specs.Transcript.{Field}
use Rattle.ris_base.specs.Transcript.Field.{Number, Word}
use Rattle.ris_base.specs.declared.graphs.Triple.{Triple}
use Rattle.ris_words.specs.Made.{base_fields, draw, draw_command, draw_commands, draw_edge, draw_edges, draw_next, edge_fields, first_record, made_records, random_of}

-- an edge of 1,000 vertices, with a weight below 100
pub record IsSmall (edge : Triple) : Type 0 where
  pub source : edge.source < 1000
  pub target : edge.target < 1000
  pub weight : edge.weight < 100

-- what a command of a made script says
pub data Said : Type 0 where
  Adds : (edge : Triple) → Said
  Removes : (edge : Triple) → Said
  Value : (analysis vertex : ℕ) → Said
  Modified : (analysis : ℕ) → Said
  Comes : (vertex : ℕ) → Said

-- the fields of what is said
abbrev pub said_fields : Said → List Field
said_fields (Adds edge) = Word (codes "adde") ∷ edge_fields edge
said_fields (Removes edge) = Word (codes "dele") ∷ edge_fields edge
said_fields (Value analysis vertex) = Word (codes "value") ∷ Word (codes "last") ∷ Number analysis ∷ Number vertex ∷ []
said_fields (Modified analysis) = Word (codes "modified") ∷ Word (codes "last") ∷ Number analysis ∷ []
said_fields (Comes vertex) = Word (codes "addv") ∷ Number vertex ∷ []

-- its numbers are within the limits: 1,000 vertices, weights below 100, and 3 analyses
abbrev pub IsWithin : Said → Type 0
IsWithin (Adds edge) = IsSmall edge
IsWithin (Removes edge) = IsSmall edge
IsWithin (Value analysis vertex) = (analysis < 3) × (vertex < 1000)
IsWithin (Modified analysis) = analysis < 3
IsWithin (Comes vertex) = vertex < 1000

-- a command: what one of 8 sessions says
pub record Spoken : Type 0 where
  pub session : ℕ
  pub said : Said
  pub listed : session < 8
  pub within : IsWithin said

-- the record of a command
abbrev pub spoken_fields : Spoken → List Field
spoken_fields spoken = Number spoken.session ∷ said_fields spoken.said

-- Draws

draw-less : (m : ℕ) (g : Lcg) → 0 < m → (draw m g).0 < m
draw-less m g h = omega (arith, h)

draw_edge-small : (g : Lcg) → IsSmall (draw_edge g).0
draw_edge-small g =
    let source = draw 1000 g in
    let target = draw 1000 source.1 in
    record {
      source = draw-less 1000 g (omega arith);
      target = draw-less 1000 source.1 (omega arith);
      weight = draw-less 100 target.1 (omega arith);
    }

draw_edges-small : (n : ℕ) (g : Lcg) → AllByRecursion IsSmall (draw_edges n g).0
unfolding draw_edges
draw_edges-small zero g = tt
draw_edges-small (suc n) g = (draw_edge-small g, draw_edges-small n (draw_edge g).1)

-- an edge at a place is small, past the end too
get_or-small : (edges : List Triple) (k : ℕ) → AllByRecursion IsSmall edges → IsSmall (get_or edges k (record { source = 0; target = 0; weight = 0 }))
get_or-small [] k all = record { source = omega arith; target = omega arith; weight = omega arith }
get_or-small (edge ∷ edges) zero (small, all) = small
get_or-small (edge ∷ edges) (suc k) (small, all) = get_or-small edges k all

-- Commands

-- a command that is drawn is one of these
draw_command-said : (base : List Triple) (t : ℕ) (g : Lcg) → AllByRecursion IsSmall base → (said : Said) × IsWithin said × ((draw_command base t g).0 ≡ said_fields said)
draw_command-said base t g all = by (nat_lt t 4) refl (nat_lt t 7) refl (nat_lt t 8) refl (nat_lt t 9) refl
  where
    by : (a : Bool) → nat_lt t 4 ≡ a → (d : Bool) → nat_lt t 7 ≡ d → (v : Bool) → nat_lt t 8 ≡ v → (m : Bool) → nat_lt t 9 ≡ m
        → (said : Said) × IsWithin said × ((draw_command base t g).0 ≡ said_fields said)
    by true p d q v r m s = (Adds (draw_edge g).0, draw_edge-small g, rw p refl)
    by false p true q v r m s = (Removes (get_or base (draw 5000 g).0 (record { source = 0; target = 0; weight = 0 })), get_or-small base (draw 5000 g).0 all, rw (p, q) refl)
    by false p false q true r m s =
        let analysis = draw 3 g in
        let vertex = draw 1000 analysis.1 in
        (Value analysis.0 vertex.0, (draw-less 3 g (omega arith), draw-less 1000 analysis.1 (omega arith)), rw (p, q, r) refl)
    by false p false q false r true s = (Modified (draw 3 g).0, draw-less 3 g (omega arith), rw (p, q, r, s) refl)
    by false p false q false r false s = (Comes (draw 1000 g).0, draw-less 1000 g (omega arith), rw (p, q, r, s) refl)

-- the commands that are drawn
draw_commands-spoken : (base : List Triple) (i n : ℕ) (g : Lcg) → AllByRecursion IsSmall base
    → (spoken : List Spoken) × (draw_commands base i n g ≡ map spoken_fields spoken) × (length spoken ≡ n)
unfolding draw_commands
draw_commands-spoken base i zero g all = ([], refl, refl)
draw_commands-spoken base i (suc n) g all =
    let kind = draw 10 g in
    let next = draw_next base g in
    let said = draw_command-said base kind.0 kind.1 all in
    let more = draw_commands-spoken base (suc i) n next.1 all in
    let first : Spoken = record { session = i % 8; said = said.0; listed = omega arith; within = said.1 } in
    (first ∷ more.0, rw (more.1, said.2) refl, ap suc more.2)

-- The script

-- the records of a made script: the first one, small base edges, and as many commands as were asked for
pub made_records-are : (seed size : ℕ)
    → (edges : List Triple) × (spoken : List Spoken) × AllByRecursion IsSmall edges × (length spoken ≡ size)
    × (made_records seed size ≡ first_record ∷ (map base_fields edges ++ map spoken_fields spoken))
unfolding made_records
made_records-are seed size =
    let base = draw_edges 5000 (random_of seed) in
    let all = draw_edges-small 5000 (random_of seed) in
    let commands = draw_commands-spoken base.0 0 size base.1 all in
    (base.0, commands.0, all, commands.2, ap (λ (t : List (List Field)). first_record ∷ (map base_fields base.0 ++ t)) commands.1)
