-- The stages of a turn: a state of the machine whose lines and forests are those of records, with its seats.
use Rattle.std.proofs.Common.{◌≡◌, List, [], ◌∷◌, Option, unwrap_or, refl, ap, ◌∙◌}
use Rattle.std.specs.List.{slice_get}
use Rattle.ris_base.specs.Answers.{Setup}
use Rattle.ris_base.specs.Epoch.{Ground, Resolved, places_of}
use Rattle.ris_base.specs.Forest.{Forest}
use Rattle.ris_base.specs.Lines.{front}
use Rattle.ris_base.specs.Machine.{Book, Happens, Phase, Run, State, Step, forests_now, graph_of, is_candidate_now, asked_by}
use Rattle.ris_base.specs.Records.{lines_of, setup_for}
use Rattle.ris_base.specs.Requests.{after}
use Rattle.ris_base.specs.Safe.{is_candidate}
use Rattle.ris_base.specs.declared.graphs.PlainGraph.{PlainGraph}
use Rattle.ris_base.specs.declared.lines.Line.{Line}
use Rattle.ris_base.specs.declared.records.Record.{Record}
use Rattle.ris_base.specs.declared.requests.Request.{Request}
use Rattle.ris_base.specs.declared.requests.Request.TheVariants as request
use Rattle.ris_epoch.specs.Account.{forests_behind, front_of, graph_behind, is_candidate_behind}
use Rattle.ris_epoch.proofs.Seatings.{Seating}
use Rattle.ris_algo.proofs.RecordLemmas.{last-place}

-- the lines and places of a book are those of records
pub record IsTabled (ground : Ground) (records : List Record) (b : Book) : Type 0 where
  pub lines : b.lines ≡ lines_of records
  pub places : b.places ≡ places_of ground.start records

-- the front of a book on records
pub tabled-front : (ground : Ground) (records : List Record) (b : Book) → IsTabled ground records b → front b.lines ≡ front_of records
tabled-front ground records b h = ap front h.lines

-- the forests of now of a book on records
pub tabled-forests : (ground : Ground) (records : List Record) (b : Book) → IsTabled ground records b → forests_now b ≡ forests_behind ground records
tabled-forests ground records b h =
    ap (λ (ps : List (List Forest)). unwrap_or (slice_get ps (front b.lines)) []) h.places
    ∙ ap (λ (ls : List Line). unwrap_or (slice_get (places_of ground.start records) (front ls)) []) h.lines
    ∙ last-place ground.start records

-- a state of a turn on records
pub record Stage (ground : Ground) (batch : List Request) (records : List Record) (phase : Phase) (s : State)
    (waiting undecided logged tail : List Request) (outcomes : List Resolved) : Type 0 where
  pub at : s.phase ≡ phase
  pub setup : s.setup ≡ setup_for ground.opening ground.specs ground.start
  pub book : IsTabled ground records s.book
  pub seating : Seating batch s.book.seats waiting undecided logged tail outcomes

-- the graph of now of a state on records
pub graph-is : (ground : Ground) (records : List Record) (s : State) → s.setup ≡ setup_for ground.opening ground.specs ground.start → IsTabled ground records s.book
    → graph_of s.setup s.book ≡ graph_behind ground records
graph-is ground records s setup h =
    ap (λ (x : Setup). after x.opening s.book.lines (front s.book.lines)) setup
    ∙ ap (λ (ls : List Line). after ground.opening ls (front ls)) h.lines

-- whether a request is a candidate
pub candidate-is : (ground : Ground) (records : List Record) (s : State) → s.setup ≡ setup_for ground.opening ground.specs ground.start → IsTabled ground records s.book
    → (r : Request) → is_candidate_now s (Option.Some (asked_by r)) ≡ is_candidate_behind ground records r
candidate-is ground records s setup h (request.Submit e) =
    ap (λ (g : PlainGraph). is_candidate g s.setup.specs (forests_now s.book) e.parts) (graph-is ground records s setup h)
    ∙ ap (λ (x : Setup). is_candidate (graph_behind ground records) x.specs (forests_now s.book) e.parts) setup
    ∙ ap (λ (fs : List Forest). is_candidate (graph_behind ground records) ground.specs fs e.parts) (tabled-forests ground records s.book h)
candidate-is ground records s setup h (request.Release session seq upto) = refl
candidate-is ground records s setup h (request.Leave session seq) = refl

-- Runs

-- these steps lead to a state of which Q holds
pub record Leads (s : State) (steps : List Step) (Q : State → Type 0) : Type 0 where
  pub final : State
  pub run : Run s steps final
  pub holds : Q final

-- no steps
pub leads-none : (s : State) (Q : State → Type 0) → Q s → Leads s [] Q
unfolding Run
leads-none s Q h = record { final = s; run = refl; holds = h }

-- one more step in front
pub leads-step : (s t : State) (step : Step) (steps : List Step) (Q : State → Type 0) → Happens s step t → Leads t steps Q → Leads s (step ∷ steps) Q
unfolding Run
leads-step s t step steps Q h more = record { final = more.final; run = (t, h, more.run); holds = more.holds }
