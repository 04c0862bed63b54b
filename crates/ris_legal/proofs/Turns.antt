-- A run of a turn alone is a run of each state that has the turn's batch.
use Rattle.std.proofs.Common.{◌≡◌, ◌≢◌, ℕ, ◌+◌, ◌==◌, ◌&&◌, not, if◌then◌else◌, inl, inr, Bool, true, false, nat_lt, List, [], ◌∷◌, ◌++◌, length, map, Option, Some, None, refl, sym, subst, ap, ◌∙◌, append_assoc}
use Rattle.std.proofs.Math.Path.{fun_ext}
use Rattle.std.specs.List.{All, find, list_any, slice_get}
use Rattle.std.proofs.lemmas.Bool.{true≢false, eqb-true}
use Rattle.std.proofs.lemmas.List.{append-nil}
use Rattle.std.proofs.lemmas.List.Elements.{All-append, All-cons, All-nil, All-head, All-tail}
use Rattle.ris_base.specs.Epoch.{Ground, IsHeldEpoch, Resolved, batch_seat, is_cell, is_of_tail, seat_with, turn_of}
use Rattle.ris_base.specs.Forest.{Forest}
use Rattle.ris_base.specs.Lines.{front}
use Rattle.ris_base.specs.Machine.{Book, Cells, Decided, EntersOr, Happens, InBatch, InLog, InTail, IsInTail, Known, Queued, Run, Seat, Serially, Stand, State, Step, Undecided, begun, decided, entry_of, forests_now, graph_of, is_applied, is_candidate_now, lined, next_of, placed, sealed, sealed_by, seated, session_by, told, told_seat, verdict_of, with_seat}
use Rattle.ris_base.specs.Requests.{RefusedPart, refusal_of, refused_at}
use Rattle.ris_base.specs.declared.events.Verdict.{Verdict}
use Rattle.ris_base.specs.declared.events.Verdict.TheVariants as verdict
use Rattle.ris_base.specs.declared.lines.Entry.{Entry}
use Rattle.ris_base.specs.declared.lines.Line.TheVariants as line
use Rattle.ris_base.specs.declared.records.Record.{Record}
use Rattle.ris_base.specs.declared.replies.LogLine.{LogLine}
use Rattle.ris_base.specs.declared.replies.LogLine.TheVariants.{Reply}
use Rattle.ris_base.specs.declared.replies.Outcome.TheVariants as outcome
use Rattle.ris_base.specs.declared.replies.Refusal.TheVariants as refusal
use Rattle.ris_base.specs.declared.requests.Request.{Request}
use Rattle.ris_legal.specs.Held.{IsKept}
use Rattle.ris_legal.specs.Turn.{HasBatch, HasInBatch, joined, steps_of, turned}
use Rattle.ris_legal.proofs.Books.{put}
use Rattle.ris_legal.proofs.OutsideSteps.{begun-flies}
use Rattle.ris_legal.proofs.Sealing.{sealed-seat}

-- Books

-- the seats of a book in a turn, joined to those of a state
abbrev book_in : State → Book → Book
book_in s b = record { seats = λ n. joined (s.book.seats n) (b.seats n); lines = b.lines; places = b.places }

-- a seat changed in the turn is changed in the state
seats-in : (s : State) (seats : ℕ → Seat) (n : ℕ) (y z : Seat) → joined (s.book.seats n) y ≡ z
    → (λ m. joined (s.book.seats m) (with_seat seats n y m)) ≡ with_seat (λ m. joined (s.book.seats m) (seats m)) n z
seats-in s seats n y z same =
    fun_ext (λ m. go m (m == n) refl)
  where
    go : (m : ℕ) (c : Bool) → (m == n) ≡ c → joined (s.book.seats m) (if c then y else seats m) ≡ (if c then z else joined (s.book.seats m) (seats m))
    go m true e = ap (λ (k : ℕ). joined (s.book.seats k) y) (eqb-true m n e) ∙ same
    go m false e = refl

seated-in : (s : State) (b : Book) (n : ℕ) (y z : Seat) → joined (s.book.seats n) y ≡ z → book_in s (seated b n y) ≡ seated (book_in s b) n z
seated-in s b n y z same = ap (λ (seats : ℕ → Seat). record (book_in s b) { seats = seats }) (seats-in s b.seats n y z same)

told-in : (s : State) (b : Book) (n : ℕ) (reply : LogLine) → book_in s (told b n reply) ≡ told (book_in s b) n reply
told-in s b n reply =
    let x : Seat = s.book.seats n in
    let y : Seat = b.seats n in
    let k : Known = record { reply = reply; knew = length b.lines } in
    seated-in s b n (told_seat y reply (length b.lines)) (told_seat (joined x y) reply (length b.lines))
    (ap (λ (rs : List Known). record x { replies = rs; stand = Queued }) (sym (append_assoc x.replies y.replies (k ∷ []))))

sealed_by-in : (s : State) (b : Book) (d : Decided) → book_in s (sealed_by b d) ≡ sealed_by (book_in s b) d
sealed_by-in s b d = go (is_applied d)
  where
    refused : LogLine
    refused = Reply (outcome.Refused (refusal.NoEdge (front b.lines) 1))

    go : (c : Bool) → book_in s (if c then placed b d.entry (forests_now b) else told b d.entry.session (Reply (outcome.Refused (refusal.NoEdge (front b.lines) 1))))
        ≡ (if c then placed (book_in s b) d.entry (forests_now b) else told (book_in s b) d.entry.session (Reply (outcome.Refused (refusal.NoEdge (front b.lines) 1))))
    go true = told-in s (record b { lines = b.lines ++ line.Entry d.entry ∷ []; places = b.places ++ forests_now b ∷ [] }) d.entry.session (Reply (outcome.Placed (front b.lines + 1)))
    go false = told-in s b d.entry.session (Reply (outcome.Refused (refusal.NoEdge (front b.lines) 1)))

sealed-in : (s : State) (b : Book) (order : List Decided) → book_in s (sealed b order) ≡ sealed (book_in s b) order
unfolding sealed
sealed-in s b [] = refl
sealed-in s b (d ∷ order) = sealed-in s (sealed_by b d) order ∙ ap (λ (x : Book). sealed x order) (sealed_by-in s b d)

-- Steps

-- who stands out of the queue in the turn has the same next command in the state
abbrev Fits : State → State → Type 0
Fits s turn = (n : ℕ) → (turn.book.seats n).stand ≢ Queued → next_of (joined (s.book.seats n) (turn.book.seats n)) ≡ next_of (turn.book.seats n)

-- the steps of a turn
abbrev is_of_turn : Step → Bool
is_of_turn (Step.Want s) = true
is_of_turn (Step.Begin held) = true
is_of_turn (Step.Cell k s) = true
is_of_turn (Step.Seal order) = true
is_of_turn (Step.Serial s forests) = true
is_of_turn (Step.Mark s) = true
is_of_turn (Step.Leave s) = true
is_of_turn step = false

-- one step in the turn is one in the state, and what fits still does
abbrev Goes : State → State → Step → State → Type 0
Goes s turn step mid = Happens (turned s turn) step (turned s mid) × Fits s mid

-- a told session has nothing out of the queue
told-fits : (s turn : State) (b : Book) (n : ℕ) (reply : LogLine) → ((m : ℕ) → (b.seats m).stand ≢ Queued → next_of (joined (s.book.seats m) (b.seats m)) ≡ next_of (b.seats m))
    → (m : ℕ) → ((told b n reply).seats m).stand ≢ Queued → next_of (joined (s.book.seats m) ((told b n reply).seats m)) ≡ next_of ((told b n reply).seats m)
told-fits s turn b n reply fits =
    put (λ (m : ℕ) (x : Seat). x.stand ≢ Queued → next_of (joined (s.book.seats m) x) ≡ next_of x) b.seats n (told_seat (b.seats n) reply (length b.lines))
    (λ f. absurd (f refl)) fits

-- who stands elsewhere is not in the queue
not-queued : (x stand : Stand) → x ≡ stand → stand ≢ Queued → x ≢ Queued
not-queued x stand is not e = not (sym is ∙ e)

goes-want : (s turn : State) (n : ℕ) (mid : State) → Happens turn (Step.Want n) mid → Fits s turn → Goes s turn (Step.Want n) mid
goes-want s turn n mid h fits = (
  record {
    asked = h.asked;
    next = fits n out ∙ h.next;
    where_ = h.where_;
    after = ap (turned s) h.after ∙ ap (λ (b : Book). record (turned s turn) { book = b }) (told-in s turn.book n wanting);
  },
  subst (Fits s) (sym h.after) (told-fits s turn turn.book n wanting fits),
)
  where
    wanting : LogLine
    wanting = Reply (outcome.Refused refusal.NoMemory)

    out : (turn.book.seats n).stand ≢ Queued
    out = elim h.where_ [ inl a ↦ not-queued (turn.book.seats n).stand InBatch a.1 (λ e. cc) | inr a ↦ not-queued (turn.book.seats n).stand InTail a.1 (λ e. cc) ]

goes-begin : (s turn : State) (held : List ℕ) (mid : State) → Happens turn (Step.Begin held) mid → Fits s turn → Goes s turn (Step.Begin held) mid
goes-begin s turn held mid h fits = (
  record {
    phase = h.phase;
    after = ap (turned s) h.after ∙ ap (λ (seats : ℕ → Seat). record (turned s turn) { book = record (book_in s turn.book) { seats = seats }; phase = Cells; logs = λ k. [] }) seats;
  },
  subst (Fits s) (sym h.after) (λ n f. fits n (begun-flies turn held n (turn.book.seats n).stand f)),
)
  where
    same : (n : ℕ) (stand : Stand) → (turn.book.seats n).stand ≡ stand → begun turn held n stand ≡ begun (turned s turn) held n stand
    same n InBatch is = ap (λ o. if is_candidate_now turn o && not (list_any (λ k. k == n) held) then Undecided else InTail) (sym (fits n (not-queued (turn.book.seats n).stand InBatch is (λ e. cc))))
    same n Queued is = refl
    same n Undecided is = refl
    same n InLog is = refl
    same n InTail is = refl

    seats : ◌≡◌ {A = ℕ → Seat} (λ n. joined (s.book.seats n) (record (turn.book.seats n) { stand = begun turn held n (turn.book.seats n).stand }))
        (λ n. record (joined (s.book.seats n) (turn.book.seats n)) { stand = begun (turned s turn) held n (turn.book.seats n).stand })
    seats = fun_ext (λ n. ap (λ (x : Stand). record (joined (s.book.seats n) (turn.book.seats n)) { stand = x }) (same n (turn.book.seats n).stand refl))

goes-cell : (s turn : State) (k n : ℕ) (mid : State) → Happens turn (Step.Cell k n) mid → Fits s turn → Goes s turn (Step.Cell k n) mid
goes-cell s turn k n mid h fits = (
  record {
    asked = h.asked;
    parts = h.parts;
    phase = h.phase;
    stand = h.stand;
    next = fits n out ∙ h.next;
    is = h.is;
    of_stripe = h.of_stripe;
    after = ap (turned s) h.after ∙ same (verdict_of (graph_of turn.setup turn.book) (forests_now turn.book) (turn.logs k) h.parts);
  },
  subst (Fits s) (sym h.after) (still (verdict_of (graph_of turn.setup turn.book) (forests_now turn.book) (turn.logs k) h.parts)),
)
  where
    e : Entry
    e = entry_of n h.asked.seq h.parts

    out : (turn.book.seats n).stand ≢ Queued
    out = not-queued (turn.book.seats n).stand Undecided h.stand (λ e. cc)

    moved : Stand → Seat
    moved to = record (turn.book.seats n) { stand = to }

    moves : (to : Stand) (m : ℕ) → (with_seat turn.book.seats n (moved to) m).stand ≢ Queued
        → next_of (joined (s.book.seats m) (with_seat turn.book.seats n (moved to) m)) ≡ next_of (with_seat turn.book.seats n (moved to) m)
    moves to = put (λ (m : ℕ) (x : Seat). x.stand ≢ Queued → next_of (joined (s.book.seats m) x) ≡ next_of x) turn.book.seats n (moved to) (λ f. fits n out) fits

    still : (v : Verdict) → Fits s (decided turn k e v)
    still verdict.Bounced = moves InTail
    still verdict.Applied = moves InLog
    still verdict.NoEdge = moves InLog
    still verdict.Waiting = moves InLog

    logged : (v : Verdict) → State
    logged v = record turn { logs = λ m. if m == k then turn.logs m ++ record { entry = e; verdict = v } ∷ [] else turn.logs m }

    seat : (to : Stand) → book_in s (seated turn.book n (moved to)) ≡ seated (book_in s turn.book) n (record (joined (s.book.seats n) (turn.book.seats n)) { stand = to })
    seat to = seated-in s turn.book n (moved to) (record (joined (s.book.seats n) (turn.book.seats n)) { stand = to }) refl

    same : (v : Verdict) → turned s (decided turn k e v) ≡ decided (turned s turn) k e v
    same verdict.Bounced = ap (λ (b : Book). record (turned s turn) { book = b }) (seat InTail)
    same verdict.Applied = ap (λ (b : Book). record (turned s (logged verdict.Applied)) { book = b }) (seat InLog)
    same verdict.NoEdge = ap (λ (b : Book). record (turned s (logged verdict.NoEdge)) { book = b }) (seat InLog)
    same verdict.Waiting = ap (λ (b : Book). record (turned s (logged verdict.Waiting)) { book = b }) (seat InLog)

goes-seal : (s turn : State) (order : List ℕ) (mid : State) → Happens turn (Step.Seal order) mid → Fits s turn → Goes s turn (Step.Seal order) mid
goes-seal s turn order mid h fits = (
  record {
    merged = h.merged;
    phase = h.phase;
    all = h.all;
    sessions = h.sessions;
    logs = h.logs;
    after = ap (turned s) h.after ∙ ap (λ (b : Book). record (turned s turn) { book = b; phase = Serially; logs = λ k. [] }) (sealed-in s turn.book h.merged);
  },
  subst (Fits s) (sym h.after) (λ n f. elim (sealed-seat turn.book h.merged n) [
    | inl done ↦ absurd (f done)
    | inr same ↦ subst (λ (x : Seat). next_of (joined (s.book.seats n) x) ≡ next_of x) (sym same.0) (fits n (λ e. f (ap (λ (x : Seat). x.stand) same.0 ∙ e)))
  ]),
)

-- a session of the tail is out of the queue
tail-in : (s turn : State) (n : ℕ) (asked : _) → IsInTail turn n asked → Fits s turn → IsInTail (turned s turn) n asked
tail-in s turn n asked h fits = record {
  phase = h.phase;
  stand = h.stand;
  next = fits n (not-queued (turn.book.seats n).stand InTail h.stand (λ e. cc)) ∙ h.next;
}

goes-serial : (s turn : State) (n : ℕ) (forests : List Forest) (mid : State) → Happens turn (Step.Serial n forests) mid → Fits s turn → Goes s turn (Step.Serial n forests) mid
goes-serial s turn n forests mid h fits =
    let both = go (refusal_of (graph_of turn.setup turn.book) h.parts) h.after in
    (record { asked = h.asked; parts = h.parts; tail = tail-in s turn n h.asked h.tail fits; is = h.is; after = both.0 }, both.1)
  where
    e : Entry
    e = entry_of n h.asked.seq h.parts

    go : (r : Option RefusedPart) → EntersOr turn e forests mid r → EntersOr (turned s turn) e forests (turned s mid) r × Fits s mid
    go (Some r) a =
        let reply : LogLine = Reply (outcome.Refused (refused_at (front turn.book.lines) r)) in (
          (a.0, ap (turned s) a.1 ∙ ap (λ (b : Book). record (turned s turn) { book = b }) (told-in s turn.book n reply)),
          subst (Fits s) (sym a.1) (told-fits s turn turn.book n reply fits),
        )
    go None a =
        let longer : Book = record turn.book { lines = turn.book.lines ++ line.Entry e ∷ []; places = turn.book.places ++ forests ∷ [] } in
        let reply : LogLine = Reply (outcome.Placed (front turn.book.lines + 1)) in (
          (a.0, ap (turned s) a.1 ∙ ap (λ (b : Book). record (turned s turn) { book = b }) (told-in s longer n reply)),
          subst (Fits s) (sym a.1) (told-fits s turn longer n reply fits),
        )

goes-mark : (s turn : State) (n : ℕ) (mid : State) → Happens turn (Step.Mark n) mid → Fits s turn → Goes s turn (Step.Mark n) mid
goes-mark s turn n mid h fits =
    let both = go (nat_lt (front turn.book.lines) h.upto) in (
      record {
        asked = h.asked;
        upto = h.upto;
        tail = tail-in s turn n h.asked h.tail fits;
        is = h.is;
        after = ap (turned s) h.after ∙ ap (λ (b : Book). record (turned s turn) { book = b }) both.0;
      },
      subst (Fits s) (sym h.after) both.1,
    )
  where
    late_reply : LogLine
    late_reply = Reply (outcome.NotYet (front turn.book.lines))

    go : (late : Bool)
        → (book_in s (if late then told turn.book n (Reply (outcome.NotYet (front turn.book.lines))) else told (lined turn.book (line.Mark n h.asked.seq h.upto)) n (Reply (outcome.Marked (front turn.book.lines) h.upto)))
        ≡ (if late then told (book_in s turn.book) n (Reply (outcome.NotYet (front turn.book.lines))) else told (lined (book_in s turn.book) (line.Mark n h.asked.seq h.upto)) n (Reply (outcome.Marked (front turn.book.lines) h.upto))))
        × Fits s (record turn { book = if late then told turn.book n (Reply (outcome.NotYet (front turn.book.lines))) else told (lined turn.book (line.Mark n h.asked.seq h.upto)) n (Reply (outcome.Marked (front turn.book.lines) h.upto)) })
    go true = (told-in s turn.book n (Reply (outcome.NotYet (front turn.book.lines))), told-fits s turn turn.book n (Reply (outcome.NotYet (front turn.book.lines))) fits)
    go false =
        let longer : Book = lined turn.book (line.Mark n h.asked.seq h.upto) in
        (told-in s longer n (Reply (outcome.Marked (front turn.book.lines) h.upto)), told-fits s turn longer n (Reply (outcome.Marked (front turn.book.lines) h.upto)) fits)

goes-leave : (s turn : State) (n : ℕ) (mid : State) → Happens turn (Step.Leave n) mid → Fits s turn → Goes s turn (Step.Leave n) mid
goes-leave s turn n mid h fits =
    let longer : Book = lined turn.book (line.Leave n h.asked.seq) in
    let reply : LogLine = Reply (outcome.Left (front turn.book.lines)) in (
      record {
        asked = h.asked;
        tail = tail-in s turn n h.asked h.tail fits;
        is = h.is;
        after = ap (turned s) h.after ∙ ap (λ (b : Book). record (turned s turn) { book = b }) (told-in s longer n reply);
      },
      subst (Fits s) (sym h.after) (told-fits s turn longer n reply fits),
    )

goes : (s turn : State) (step : Step) (mid : State) → is_of_turn step ≡ true → Happens turn step mid → Fits s turn → Goes s turn step mid
goes s turn (Step.Want n) mid is h fits = goes-want s turn n mid h fits
goes s turn (Step.Begin held) mid is h fits = goes-begin s turn held mid h fits
goes s turn (Step.Cell k n) mid is h fits = goes-cell s turn k n mid h fits
goes s turn (Step.Seal order) mid is h fits = goes-seal s turn order mid h fits
goes s turn (Step.Serial n forests) mid is h fits = goes-serial s turn n forests mid h fits
goes s turn (Step.Mark n) mid is h fits = goes-mark s turn n mid h fits
goes s turn (Step.Leave n) mid is h fits = goes-leave s turn n mid h fits
goes s turn (Step.Submit n r) mid is h fits = absurd (true≢false (sym is))
goes s turn (Step.Take n) mid is h fits = absurd (true≢false (sym is))
goes s turn Step.Publish mid is h fits = absurd (true≢false (sym is))
goes s turn (Step.Read n q) mid is h fits = absurd (true≢false (sym is))
goes s turn (Step.WantToRead n q) mid is h fits = absurd (true≢false (sym is))

-- a run of the turn is one of the state
run-in : (s turn : State) (steps : List Step) (final : State) → All (λ step. is_of_turn step ≡ true) steps → Run turn steps final → Fits s turn
    → Run (turned s turn) steps (turned s final)
unfolding Run
run-in s turn [] final are h fits = ap (turned s) h
run-in s turn (step ∷ steps) final are h fits =
    let one = goes s turn step h.0 (All-head (λ x. is_of_turn x ≡ true) step steps are) h.1 fits in
    (turned s h.0, one.0, run-in s h.0 steps final (All-tail (λ x. is_of_turn x ≡ true) step steps are) h.2 one.1)

-- runs one after another are one run
pub run-append : (old mid new : State) (steps more : List Step) → Run old steps mid → Run mid more new → Run old (steps ++ more) new
unfolding Run
run-append old mid new [] more h k = subst (λ (x : State). Run x more new) h k
run-append old mid new (step ∷ steps) more h k = (h.0, h.1, run-append h.0 mid new steps more h.2 k)

-- Epochs

-- each step of an epoch is one of a turn
wants-are : (wanting : List ℕ) → All (λ step. is_of_turn step ≡ true) (map Step.Want wanting)
wants-are [] = All-nil (λ step. is_of_turn step ≡ true)
wants-are (n ∷ wanting) = All-cons (λ step. is_of_turn step ≡ true) (Step.Want n) (map Step.Want wanting) refl (wants-are wanting)

cells-are : (steps : List Step) → All (λ step. is_cell step ≡ true) steps → All (λ step. is_of_turn step ≡ true) steps
cells-are [] h = All-nil (λ step. is_of_turn step ≡ true)
cells-are (step ∷ steps) h =
    All-cons (λ step. is_of_turn step ≡ true) step steps (one step (All-head (λ x. is_cell x ≡ true) step steps h)) (cells-are steps (All-tail (λ x. is_cell x ≡ true) step steps h))
  where
    one : (x : Step) → is_cell x ≡ true → is_of_turn x ≡ true
    one (Step.Cell k n) e = refl
    one (Step.Submit n r) e = e
    one (Step.Take n) e = e
    one (Step.Begin held) e = refl
    one (Step.Seal order) e = refl
    one (Step.Serial n forests) e = refl
    one (Step.Mark n) e = refl
    one (Step.Leave n) e = refl
    one Step.Publish e = e
    one (Step.Read n q) e = e
    one (Step.Want n) e = refl
    one (Step.WantToRead n q) e = e

tail-are : (steps : List Step) → All (λ step. is_of_tail step ≡ true) steps → All (λ step. is_of_turn step ≡ true) steps
tail-are [] h = All-nil (λ step. is_of_turn step ≡ true)
tail-are (step ∷ steps) h =
    All-cons (λ step. is_of_turn step ≡ true) step steps (one step (All-head (λ x. is_of_tail x ≡ true) step steps h)) (tail-are steps (All-tail (λ x. is_of_tail x ≡ true) step steps h))
  where
    one : (x : Step) → is_of_tail x ≡ true → is_of_turn x ≡ true
    one (Step.Cell k n) e = refl
    one (Step.Submit n r) e = e
    one (Step.Take n) e = e
    one (Step.Begin held) e = refl
    one (Step.Seal order) e = refl
    one (Step.Serial n forests) e = refl
    one (Step.Mark n) e = refl
    one (Step.Leave n) e = refl
    one Step.Publish e = e
    one (Step.Read n q) e = e
    one (Step.Want n) e = refl
    one (Step.WantToRead n q) e = e

-- the phase after a tail is that before it
tail-phase : (old : State) (steps : List Step) (new : State) → All (λ step. is_of_tail step ≡ true) steps → Run old steps new → old.phase ≡ Serially → new.phase ≡ Serially
unfolding Run
tail-phase old [] new are h phase = ap (λ (x : State). x.phase) h ∙ phase
tail-phase old (step ∷ steps) new are h phase =
    tail-phase h.0 steps new (All-tail (λ x. is_of_tail x ≡ true) step steps are) h.2 (one step h.0 (All-head (λ x. is_of_tail x ≡ true) step steps are) h.1)
  where
    enters : (mid : State) (e : Entry) (forests : List Forest) (r : Option RefusedPart) → EntersOr old e forests mid r → mid.phase ≡ Serially
    enters mid e forests (Some r) a = ap (λ (x : State). x.phase) a.1 ∙ phase
    enters mid e forests None a = ap (λ (x : State). x.phase) a.1 ∙ phase

    one : (x : Step) (mid : State) → is_of_tail x ≡ true → Happens old x mid → mid.phase ≡ Serially
    one (Step.Serial n forests) mid e a = enters mid (entry_of n a.asked.seq a.parts) forests (refusal_of (graph_of old.setup old.book) a.parts) a.after
    one (Step.Mark n) mid e a = ap (λ (x : State). x.phase) a.after ∙ phase
    one (Step.Leave n) mid e a = ap (λ (x : State). x.phase) a.after ∙ phase
    one (Step.Want n) mid e a = ap (λ (x : State). x.phase) a.after ∙ phase
    one (Step.Cell k n) mid e a = absurd (true≢false (sym e))
    one (Step.Submit n r) mid e a = absurd (true≢false (sym e))
    one (Step.Take n) mid e a = absurd (true≢false (sym e))
    one (Step.Begin held) mid e a = absurd (true≢false (sym e))
    one (Step.Seal order) mid e a = absurd (true≢false (sym e))
    one Step.Publish mid e a = absurd (true≢false (sym e))
    one (Step.Read n q) mid e a = absurd (true≢false (sym e))
    one (Step.WantToRead n q) mid e a = absurd (true≢false (sym e))

-- what holds after the last steps of a run
run-last : (P : State → Type 0) (steps more : List Step) (new : State) → ((mid : State) → Run mid more new → P new) → (old : State) → Run old (steps ++ more) new → P new
unfolding Run
run-last P [] more new last old h = last old h
run-last P (step ∷ steps) more new last old h = run-last P steps more new last h.0 h.2

-- sealed logs begin the tail
seal-phase : (order : List ℕ) (new mid : State) → Run mid (Step.Seal order ∷ []) new → new.phase ≡ Serially
unfolding Run
seal-phase order new mid h = ap (λ (x : State). x.phase) h.2 ∙ ap (λ (x : State). x.phase) h.1.after

sealed-phase : (wanting : List ℕ) (held : List ℕ) (cells : List Step) (order : List ℕ) (old new : State)
    → Run old (map Step.Want wanting ++ Step.Begin held ∷ cells ++ Step.Seal order ∷ []) new → new.phase ≡ Serially
sealed-phase wanting held cells order old new h =
    run-last (λ x. x.phase ≡ Serially) (map Step.Want wanting ++ Step.Begin held ∷ cells) (Step.Seal order ∷ []) new (seal-phase order new) old h

-- A state with the batch of a turn is the state where nothing of that turn has come yet
module _ (ground : Ground) (records : List Record) (batch : List Request) (s : State) (k : IsKept s) (has : HasBatch ground records batch s) where
  seat-is : (o : Option Request) (x : Seat) → HasInBatch x o → x ≡ joined x (seat_with o)
  seat-is None x h = λ i. record x { replies = sym (append-nil x.replies) i; stand = h i }
  seat-is (Some r) x h = λ i. record x { replies = sym (append-nil x.replies) i; stand = h.0 i }

  seats-are : s.book.seats ≡ (λ n. joined (s.book.seats n) (batch_seat batch n))
  seats-are = fun_ext (λ n. seat-is (find (λ r. session_by r == n) batch) (s.book.seats n) (has.seats n))

  logs-are : s.logs ≡ (λ n. [])
  logs-are = fun_ext (λ n. k.empty (λ p. absurd (let w = sym p ∙ has.phase in cc)) n)

  state-is : s ≡ turned s (turn_of ground records batch)
  state-is = λ i. record {
    setup = has.setup i;
    book = record { seats = seats-are i; lines = has.lines i; places = has.places i };
    phase = has.phase i;
    logs = logs-are i;
    published = s.published;
  }

  seat-fits : (o : Option Request) (x : Seat) → HasInBatch x o → (seat_with o).stand ≢ Queued → next_of (joined x (seat_with o)) ≡ next_of (seat_with o)
  seat-fits None x h f = absurd (f refl)
  seat-fits (Some r) x h f = ap (λ (rs : List Known). slice_get x.commands (length rs)) (append-nil x.replies) ∙ h.1

  fits-first : Fits s (turn_of ground records batch)
  fits-first n f = seat-fits (find (λ r. session_by r == n) batch) (s.book.seats n) (has.seats n) f

  -- an epoch of the batch is a run of the state
  pub epoch-run : (held : List ℕ) (more : List Record) (outcomes : List Resolved) (e : IsHeldEpoch ground records batch held more outcomes)
      → Run s (steps_of e) (turned s e.final) × (e.final.phase ≡ Serially)
  epoch-run held more outcomes e =
      let P : Step → Type 0 = λ step. is_of_turn step ≡ true in
      let are = All-append P (map Step.Want e.wanting ++ Step.Begin held ∷ e.cells ++ Step.Seal e.order ∷ []) e.tail
      (All-append P (map Step.Want e.wanting ++ Step.Begin held ∷ e.cells) (Step.Seal e.order ∷ [])
      (All-append P (map Step.Want e.wanting) (Step.Begin held ∷ e.cells) (wants-are e.wanting) (All-cons P (Step.Begin held) e.cells refl (cells-are e.cells e.are_cells)))
      (All-cons P (Step.Seal e.order) [] refl (All-nil P)))
      (tail-are e.tail e.are_of_tail) in
      let whole = run-append (turn_of ground records batch) e.sealed e.final (map Step.Want e.wanting ++ Step.Begin held ∷ e.cells ++ Step.Seal e.order ∷ []) e.tail e.to_sealed e.to_final in (
        subst (λ (x : State). Run x (steps_of e) (turned s e.final)) (sym state-is) (run-in s (turn_of ground records batch) (steps_of e) e.final are whole fits-first),
        tail-phase e.sealed e.tail e.final e.are_of_tail e.to_final (sealed-phase e.wanting held e.cells e.order (turn_of ground records batch) e.sealed e.to_sealed),
      )
