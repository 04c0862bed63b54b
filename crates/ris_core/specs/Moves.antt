-- What each event makes of the lists of a state, where it is enabled.
use Rattle.std.specs.Prelude.{◌≡◌, ℕ, ◌+◌, ◌==◌, ◌&&◌, not, nat_lt, if◌then◌else◌, Bool, true, false, List, [], ◌∷◌, ◌++◌, length, map, slice_get, slice_set, Option, Some, None, is_some, option_and_then, unwrap_or, Result, Ok, Err}
use Rattle.std.specs.List.{list_all, list_any}
use Rattle.std.specs.Option.{option_map, option_map_or}
use Rattle.ris_base.specs.Answers.{analysis_of}
use Rattle.ris_base.specs.Legal.{Asked}
use Rattle.ris_base.specs.Limits.{open_limit}
use Rattle.ris_base.specs.Lines.{front}
use Rattle.ris_base.specs.Machine.{Decided, Phase, Collect, Cells, Serially, Seat, Stand, Queued, InBatch, Undecided, InLog, InTail, asked_more, asked_by, copies_of_parts, is_applied, is_leave, entry_of, next_of, next_seq, session_by, stripe_of, told_seat, verdict_of}
use Rattle.ris_base.specs.Requests.{after, does_from, refusal_of, refused_at}
use Rattle.ris_base.specs.Forest.{Forest, AreForests, forest_in}
use Rattle.ris_base.specs.Safe.{is_candidate}
use Rattle.ris_base.specs.declared.analyses.Spec.{Spec}
use Rattle.ris_base.specs.declared.events.Verdict.{Verdict}
use Rattle.ris_base.specs.declared.events.Verdict.TheVariants as verdict
use Rattle.ris_base.specs.declared.forests.ForestRow.{ForestRow}
use Rattle.ris_base.specs.declared.graphs.PlainGraph.{PlainGraph}
use Rattle.ris_base.specs.declared.graphs.Triple.{Triple}
use Rattle.ris_base.specs.declared.updates.Update.{Update}
use Rattle.ris_base.specs.declared.commands.Command.{Command}
use Rattle.ris_base.specs.declared.commands.Command.TheVariants as command
use Rattle.ris_base.specs.declared.lines.Line.{Line}
use Rattle.ris_base.specs.declared.lines.Line.TheVariants as line
use Rattle.ris_base.specs.declared.memory.NoMemory.{NoMemory}
use Rattle.ris_base.specs.declared.replies.LogLine.{LogLine}
use Rattle.ris_base.specs.declared.replies.LogLine.TheVariants.{Reply}
use Rattle.ris_base.specs.declared.replies.Outcome.TheVariants as outcome
use Rattle.ris_base.specs.declared.commands.Version.TheVariants.{At}
use Rattle.ris_base.specs.declared.lines.Entry.{Entry}
use Rattle.ris_base.specs.declared.replies.Refusal.{Refusal}
use Rattle.ris_base.specs.declared.replies.Refusal.TheVariants as refusal
use Rattle.ris_base.specs.declared.requests.Question.{Question}
use Rattle.ris_base.specs.declared.requests.Question.TheVariants as question
use Rattle.ris_base.specs.declared.requests.Request.{Request}
use Rattle.ris_core.specs.Stands.{Listing, logs_of}

-- a call made this of the lists, or found that it can't and left them, or wanted memory and left them
abbrev pub IsMade : Option Listing → Listing → Listing → Result Bool NoMemory → Type 0
IsMade made old new (Err fault) = new ≡ old
IsMade (Some made) old new (Ok done) = (done ≡ true) × (new ≡ made)
IsMade None old new (Ok done) = (done ≡ false) × (new ≡ old)

-- which phase and which stand
abbrev pub is_phase : Phase → Phase → Bool
is_phase Collect Collect = true
is_phase Cells Cells = true
is_phase Serially Serially = true
is_phase a b = false

abbrev pub is_stand : Stand → Stand → Bool
is_stand Queued Queued = true
is_stand InBatch InBatch = true
is_stand Undecided Undecided = true
is_stand InLog InLog = true
is_stand InTail InTail = true
is_stand a b = false

-- the lists with another seat of session s
abbrev pub with_seat_at : Listing → ℕ → Seat → Listing
with_seat_at l s seat = record l { seats = slice_set l.seats s seat }

-- Submit: the request is of this session and has a greater number, there is room, and no leave is there
abbrev pub may_ask : Seat → ℕ → Bool
may_ask seat seq =
    list_all (λ a. nat_lt a.seq seq) seat.commands && nat_lt (length seat.commands) (seat.given + open_limit) && not (list_any is_leave seat.commands)

abbrev pub submitted_by : Listing → ℕ → Request → Seat → Option Listing
submitted_by l s r seat =
    if (session_by r == s) && may_ask seat (asked_by r).seq then Some (with_seat_at l s (asked_more seat (asked_by r))) else None

abbrev pub submitted : Listing → ℕ → Request → Option Listing
submitted l s r = option_and_then (submitted_by l s r) (slice_get l.seats s)

-- Mark and Leave: the next command of session s, in the tail, with its seat
abbrev pub tells : Listing → ℕ → Seat → LogLine → List Line → Listing
tells l s seat reply lines = record l { seats = slice_set l.seats s (told_seat seat reply (length lines)); lines = lines }

abbrev pub marked_as : Listing → ℕ → Seat → ℕ → Command → Option Listing
marked_as l s seat seq (command.Release upto) =
    Some (if nat_lt (front l.lines) upto then tells l s seat (Reply (outcome.NotYet (front l.lines))) l.lines
    else tells l s seat (Reply (outcome.Marked (front l.lines) upto)) (l.lines ++ line.Mark s seq upto ∷ []))
marked_as l s seat seq other = None

abbrev pub left_as : Listing → ℕ → Seat → ℕ → Command → Option Listing
left_as l s seat seq command.Leave = Some (tells l s seat (Reply (outcome.Left (front l.lines))) (l.lines ++ line.Leave s seq ∷ []))
left_as l s seat seq other = None

-- the next command of session s that stands in the tail, in the phase of the tail
abbrev pub in_tail : Listing → ℕ → (Seat → Asked → Option Listing) → Option Listing
in_tail l s f =
    if is_phase l.phase Serially then option_and_then (λ seat. if is_stand seat.stand InTail then option_and_then (f seat) (next_of seat) else None) (slice_get l.seats s)
    else None

abbrev pub marked : Listing → ℕ → Option Listing
marked l s = in_tail l s (λ seat asked. marked_as l s seat asked.seq asked.command)

abbrev pub left : Listing → ℕ → Option Listing
left l s = in_tail l s (λ seat asked. left_as l s seat asked.seq asked.command)

-- Publish
abbrev pub published_seat : ℕ → Seat → Seat
published_seat n seat = record seat { given = length seat.replies; seen = n }

abbrev pub published : Listing → Option Listing
published l =
    if is_phase l.phase Serially && not (list_any (λ seat. is_stand seat.stand InTail) l.seats)
    then Some (record l { seats = map (published_seat (length l.lines)) l.seats; phase = Collect; published = length l.lines })
    else None

-- Cell

-- the graph now, and the forests of now
abbrev pub graph_in : Listing → PlainGraph
graph_in l = after l.opening l.lines (front l.lines)

abbrev pub forests_in : Listing → List (List ForestRow)
forests_in l = unwrap_or (slice_get l.places (front l.lines)) []

-- Begin

-- whether the next command of a seat is a candidate
abbrev pub is_candidate_as : PlainGraph → List Spec → List Forest → Command → Bool
is_candidate_as g specs forests (command.Change parts) = is_candidate g specs forests parts
is_candidate_as g specs forests other = false

abbrev pub is_candidate_next : PlainGraph → List Spec → List Forest → Option Asked → Bool
is_candidate_next g specs forests None = false
is_candidate_next g specs forests (Some asked) = is_candidate_as g specs forests asked.command

-- a request of the batch goes to its stripe or to the tail
abbrev pub begun_seat : PlainGraph → List Spec → List Forest → Seat → Seat
begun_seat g specs forests seat =
    if is_stand seat.stand InBatch then record seat { stand = if is_candidate_next g specs forests (next_of seat) then Undecided else InTail } else seat

abbrev pub begun : Listing → Option Listing
begun l =
    if is_phase l.phase Collect then Some (record l {
      seats = map (begun_seat (graph_in l) l.specs (map forest_in (forests_in l))) l.seats;
      phase = Cells;
      decided = [];
    })
    else None

-- Read

-- the command that asks a question
abbrev pub command_for : Question → Command
command_for (question.Value v a x) = command.Value (At v) a x
command_for (question.Parent v a x) = command.Parent (At v) a x
command_for (question.Path v a x) = command.Path (At v) a x
command_for (question.Modified v a) = command.Modified (At v) a
command_for question.Current = command.Current

-- whether the analysis of a question exists, where there are so many
abbrev pub exists_of : ℕ → Option ℕ → Bool
exists_of n None = true
exists_of n (Some a) = nat_lt a n

-- the seat behind a read with this reply, so many lines being published
abbrev pub seat_read : ℕ → Seat → Question → LogLine → Seat
seat_read published seat q reply = record seat {
  commands = seat.commands ++ record { seq = next_seq seat.commands; command = command_for q } ∷ [];
  replies = seat.replies ++ record { reply = reply; knew = published } ∷ [];
  given = seat.given + 1;
  seen = published;
}

abbrev pub read_by : Listing → ℕ → Question → LogLine → Seat → Option Listing
read_by l s q reply seat =
    if (seat.given == length seat.commands) && exists_of (length l.specs) (analysis_of q) then Some (with_seat_at l s (seat_read l.published seat q reply)) else None

abbrev pub read : Listing → ℕ → Question → LogLine → Option Listing
read l s q reply = option_and_then (read_by l s q reply) (slice_get l.seats s)

-- Seal

-- the first decision of session s, with what stands before it and behind it
pub record Pulled : Type 0 where
  pub before : List Decided
  pub decision : Decided
  pub behind : List Decided

abbrev pub behind_one : Decided → Pulled → Pulled
behind_one d p = record p { before = d ∷ p.before }

unfoldable pub pulled : ℕ → List Decided → Option Pulled
pulled s [] = None
pulled s (d ∷ rest) = if d.entry.session == s then Some (record { before = []; decision = d; behind = rest }) else option_map (behind_one d) (pulled s rest)

-- whether a decision is the first of its stripe
abbrev pub is_first : Pulled → Bool
is_first p = not (list_any (λ d. stripe_of d.entry.parts == stripe_of p.decision.entry.parts) p.before)

-- the merge of decisions in this order of sessions: each session's decision is the first of its stripe among those that are left, and none
-- is left at the end
unfoldable pub merge_of : List ℕ → List Decided → Option (List Decided)
merge_of [] [] = Some []
merge_of [] (d ∷ rest) = None
merge_of (s ∷ order) rest =
    option_and_then (λ p. if is_first p then option_map (λ merged. p.decision ∷ merged) (merge_of order (p.before ++ p.behind)) else None) (pulled s rest)

-- the seats where session s is told this, which rests on so many lines; where it has no seat, nobody is
abbrev pub told_seats : List Seat → ℕ → LogLine → ℕ → List Seat
told_seats seats s reply knew = option_map_or (λ seat. slice_set seats s (told_seat seat reply knew)) (slice_get seats s) seats

-- session s is told this on these lines
abbrev pub told_at : Listing → ℕ → LogLine → List Line → Listing
told_at l s reply lines = record l { seats = told_seats l.seats s reply (length lines); lines = lines }

-- an entry more, with the rows of its place, and its reply
abbrev pub entered_with : Listing → Entry → List (List ForestRow) → Listing
entered_with l e rows =
    record (told_at l e.session (Reply (outcome.Placed (front l.lines + 1))) (l.lines ++ line.Entry e ∷ [])) { places = l.places ++ rows ∷ [] }

-- what a decided candidate makes: an entry with the rows of now, or the reply that it has no copy to take
abbrev pub sealed_one : Listing → Decided → Listing
sealed_one l d =
    if is_applied d then entered_with l d.entry (forests_in l)
    else told_at l d.entry.session (Reply (outcome.Refused (refusal.NoEdge (front l.lines) 1))) l.lines

unfoldable pub sealed_all : Listing → List Decided → Listing
sealed_all l [] = l
sealed_all l (d ∷ merged) = sealed_all (sealed_one l d) merged

abbrev pub sealed : Listing → List ℕ → Option Listing
sealed l order =
    if is_phase l.phase Cells && not (list_any (λ seat. is_stand seat.stand Undecided) l.seats)
    then option_map (λ merged. record (sealed_all l merged) { phase = Serially; decided = [] }) (merge_of order l.decided)
    else None

-- the next command of session s, where it stands here
abbrev pub next_at : List Seat → ℕ → Stand → Option Asked
next_at seats s to = option_and_then (λ seat. if is_stand seat.stand to then next_of seat else None) (slice_get seats s)

-- the next command of session s that stands in the tail, in the phase of the tail
abbrev pub asked_in_tail : Listing → ℕ → Option Asked
asked_in_tail l s = if is_phase l.phase Serially then next_at l.seats s InTail else None

-- the entry that a command of session s makes, where it is a change
abbrev pub entry_as : ℕ → ℕ → Command → Option Entry
entry_as s seq (command.Change parts) = Some (entry_of s seq parts)
entry_as s seq other = None

abbrev pub entry_for : ℕ → Asked → Option Entry
entry_for s asked = entry_as s asked.seq asked.command

-- the entry that the next command of session s in the tail makes, and that of its candidate which is left in the cells
abbrev pub entry_in_tail : Listing → ℕ → Option Entry
entry_in_tail l s = option_and_then (entry_for s) (asked_in_tail l s)

abbrev pub undecided_entry : Listing → ℕ → Option Entry
undecided_entry l s = if is_phase l.phase Cells then option_and_then (entry_for s) (next_at l.seats s Undecided) else None

-- an entry was made with these rows, or they aren't right on the graph after it, or memory was wanted
abbrev pub IsEntered : Listing → List (List ForestRow) → Entry → PlainGraph → Listing → Result Bool NoMemory → Type 0
IsEntered old rows e after new (Ok true) = AreForests after old.specs (map forest_in rows) × (new ≡ entered_with old e rows)
IsEntered old rows e after new (Ok false) = (¬ (AreForests after old.specs (map forest_in rows))) × (new ≡ old)
IsEntered old rows e after new (Err fault) = new ≡ old

-- a request was refused, or the rows don't say the forests of now, or memory was wanted
abbrev pub IsRefused : Listing → List (List ForestRow) → Entry → Refusal → Listing → Result Bool NoMemory → Type 0
IsRefused old rows e refused new (Ok true) =
    (map forest_in rows ≡ map forest_in (forests_in old)) × (new ≡ told_at old e.session (Reply (outcome.Refused refused)) old.lines)
IsRefused old rows e refused new (Ok false) = (¬ (map forest_in rows ≡ map forest_in (forests_in old))) × (new ≡ old)
IsRefused old rows e refused new (Err fault) = new ≡ old

-- the first decision of session s, where it is the first of its stripe
abbrev pub pull_of : ℕ → List Decided → Option Pulled
pull_of s rest = option_and_then (λ p. if is_first p then Some p else None) (pulled s rest)

-- it was taken out, or there is none
abbrev pub IsPull : Option Pulled → Option Decided → List Decided → Type 0
IsPull None result new = result ≡ None
IsPull (Some p) result new = (result ≡ Some p.decision) × (new ≡ p.before ++ p.behind)

-- so many copies of a triple, after a decision, which counts where it is of this stripe and applied
abbrev pub counted : Triple → ℕ → ℕ → Decided → ℕ
counted t n k d = if stripe_of d.entry.parts == k then (if is_applied d then copies_of_parts t n d.entry.parts else n) else n

-- the next command of session s stands elsewhere
abbrev pub stood_seats : List Seat → ℕ → Stand → List Seat
stood_seats seats s to = option_map_or (λ seat. slice_set seats s (record seat { stand = to })) (slice_get seats s) seats

-- Take
abbrev pub taken : Listing → ℕ → Option Listing
taken l s =
    if is_phase l.phase Collect && is_some (next_at l.seats s Queued) then Some (record l { seats = stood_seats l.seats s InBatch }) else None

-- the lists behind this verdict on a candidate
abbrev pub decided_with : Listing → Entry → Verdict → Listing
decided_with l e verdict.Bounced = record l { seats = stood_seats l.seats e.session InTail }
decided_with l e v = record l { seats = stood_seats l.seats e.session InLog; decided = l.decided ++ record { entry = e; verdict = v } ∷ [] }

-- Cell: the candidate of session s, which is left in stripe k, is decided
abbrev pub celled_with : Listing → ℕ → Entry → Option Listing
celled_with l k e =
    if stripe_of e.parts == k then Some (decided_with l e (verdict_of (graph_in l) (map forest_in (forests_in l)) (logs_of l.decided k) e.parts)) else None

abbrev pub celled : Listing → ℕ → ℕ → Option Listing
celled l k s = option_and_then (celled_with l k) (undecided_entry l s)

-- the graph after these parts, or their refusal with this front
abbrev pub IsAfter : PlainGraph → List Update → ℕ → Result PlainGraph Refusal → Type 0
IsAfter g parts n (Ok after) = does_from 1 g parts ≡ Ok after
IsAfter g parts n (Err refused) = option_map (refused_at n) (refusal_of g parts) ≡ Some refused
