-- The move by which a turn begins.
use Rattle.std.proofs.Common.{◌≡◌, ℕ, zero, suc, ◌&&◌, if◌then◌else◌, Bool, true, false, List, [], ◌∷◌, map, Option, Some, None, refl, sym, ap, ◌∙◌}
use Rattle.std.proofs.lemmas.Bool.{true≢false}
use Rattle.ris_base.specs.Forest.{Forest, forest_in}
use Rattle.ris_base.specs.Legal.{Asked}
use Rattle.ris_base.specs.Lines.{front}
use Rattle.ris_base.specs.Machine
use Rattle.ris_base.specs.Machine.{Cells, Collect, InBatch, InLog, InTail, Queued, Seat, Stand, State, Step, Undecided, forests_now, graph_of, is_candidate_now, next_of}
use Rattle.ris_base.specs.declared.commands.Command.{Command}
use Rattle.ris_base.specs.declared.commands.Command.TheVariants as command
use Rattle.ris_core.specs.Moves.{begun, begun_seat, forests_in, graph_in, is_candidate_as, is_candidate_next, is_phase, is_stand}
use Rattle.ris_core.specs.Stands.{Listing, seats_of, state_of}
use Rattle.ris_core.proofs.CellMoves.{forests-at}
use Rattle.ris_core.proofs.StateLemmas.{IsMove, phase-is, phase-true, same_function}
use Rattle.ris_core.proofs.TailMoves.{map-length}

-- both words for a candidate
candidate-as : (s : State) (c : Command) → is_candidate_as (graph_of s.setup s.book) s.setup.specs (forests_now s.book) c ≡ Machine.is_candidate_command s c
candidate-as s (command.Change parts) = refl
candidate-as s (command.Release upto) = refl
candidate-as s command.Leave = refl
candidate-as s (command.Value v a y) = refl
candidate-as s (command.Parent v a y) = refl
candidate-as s (command.Path v a y) = refl
candidate-as s (command.Modified v a) = refl
candidate-as s command.Current = refl

candidate-next : (s : State) (o : Option Asked) → is_candidate_next (graph_of s.setup s.book) s.setup.specs (forests_now s.book) o ≡ is_candidate_now s o
candidate-next s None = refl
candidate-next s (Some asked) = candidate-as s asked.command

-- a seat where the turn begins
begun-one : (s : State) (n : ℕ) (x : Seat) → begun_seat (graph_of s.setup s.book) s.setup.specs (forests_now s.book) x
    ≡ record x { stand = Machine.begun (record s { book = record s.book { seats = λ m. x } }) [] n x.stand }
begun-one s n x = go x.stand refl
  where
    stands : (c : Bool) → (if c then Undecided else InTail) ≡ (if c && true then Undecided else InTail)
    stands true = refl
    stands false = refl

    go : (stand : Stand) → x.stand ≡ stand
        → (if is_stand stand InBatch then record x { stand = if is_candidate_next (graph_of s.setup s.book) s.setup.specs (forests_now s.book) (next_of x) then Undecided else InTail } else x)
        ≡ record x { stand = Machine.begun (record s { book = record s.book { seats = λ m. x } }) [] n stand }
    go InBatch e = ap (λ (c : Stand). record x { stand = c })
        (ap (λ b. if b then Undecided else InTail) (candidate-next s (next_of x)) ∙ stands (is_candidate_now s (next_of x)))
    go Queued e = λ i. record x { stand = e i }
    go Undecided e = λ i. record x { stand = e i }
    go InLog e = λ i. record x { stand = e i }
    go InTail e = λ i. record x { stand = e i }

-- all seats
begun-at : (s : State) (published : ℕ) (seats : List Seat) (n k : ℕ)
    → seats_of published (map (begun_seat (graph_of s.setup s.book) s.setup.specs (forests_now s.book)) seats) n
    ≡ record (seats_of published seats n) { stand = Machine.begun (record s { book = record s.book { seats = λ m. seats_of published seats n } }) [] k (seats_of published seats n).stand }
begun-at s published [] n k = refl
begun-at s published (x ∷ seats) zero k = begun-one s k x
begun-at s published (x ∷ seats) (suc n) k = begun-at s published seats n k

-- what becomes of a seat hangs on that seat alone
begun-own : (s : State) (n : ℕ) (stand : Stand) → Machine.begun (record s { book = record s.book { seats = λ m. s.book.seats n } }) [] n stand ≡ Machine.begun s [] n stand
begun-own s n InBatch = refl
begun-own s n Queued = refl
begun-own s n Undecided = refl
begun-own s n InLog = refl
begun-own s n InTail = refl

pub begin-move : (l : Listing) → IsMove l (Step.Begin []) (begun l)
begin-move l = by_phase (is_phase l.phase Collect) refl
  where
    s : State
    s = state_of l

    seats : ◌≡◌ {A = ℕ → Seat} (seats_of l.published (map (begun_seat (graph_in l) l.specs (map forest_in (forests_in l))) l.seats))
        (λ n. record (seats_of l.published l.seats n) { stand = Machine.begun (state_of l) [] n (seats_of l.published l.seats n).stand })
    seats =
        ap (λ (fs : List Forest). seats_of l.published (map (begun_seat (graph_in l) l.specs fs) l.seats)) (sym (forests-at l.places (front l.lines)))
        ∙ same_function _ _ (λ n. begun-at (state_of l) l.published l.seats n n
        ∙ ap (λ (c : Stand). record (seats_of l.published l.seats n) { stand = c }) (begun-own (state_of l) n (seats_of l.published l.seats n).stand))

    by_phase : (b : Bool) → is_phase l.phase Collect ≡ b
        → IsMove l (Step.Begin []) (if b then Some (record l { seats = map (begun_seat (graph_in l) l.specs (map forest_in (forests_in l))) l.seats; phase = Cells; decided = [] }) else None)
    by_phase true e = record {
      phase = phase-true l.phase Collect e;
      after = λ i. record {
        setup = record (state_of l).setup { sessions = map-length (begun_seat (graph_in l) l.specs (map forest_in (forests_in l))) l.seats i };
        book = record (state_of l).book { seats = seats i };
        phase = Cells;
        logs = λ k. [];
        published = l.published;
      };
    }
    by_phase false e = λ enabled. absurd (true≢false (sym (phase-is l.phase Collect enabled.1.phase) ∙ e))
