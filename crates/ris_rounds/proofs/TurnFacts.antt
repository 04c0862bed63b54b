-- What the steps of a turn leave: the setup stays, and nobody stands in the batch once the turn has begun.
use Rattle.std.proofs.Common.{◌≡◌, ◌≢◌, ℕ, ◌+◌, ◌==◌, ◌&&◌, not, if◌then◌else◌, inl, inr, Bool, true, false, nat_lt, List, [], ◌∷◌, ◌++◌, length, map, Option, Some, None, refl, sym, subst, ap, ◌∙◌}
use Rattle.std.specs.List.{All, list_any}
use Rattle.std.proofs.lemmas.Bool.{true≢false}
use Rattle.std.proofs.lemmas.List.Elements.{All-head, All-tail}
use Rattle.ris_base.specs.Epoch.{Ground, IsHeldEpoch, Resolved, is_cell, is_of_tail, turn_of}
use Rattle.ris_base.specs.Forest.{Forest}
use Rattle.ris_base.specs.Lines.{front}
use Rattle.ris_base.specs.Machine.{Book, EntersOr, Happens, InBatch, InLog, InTail, Queued, Run, Seat, Stand, State, Step, Undecided, begun, decided, entry_of, forests_now, graph_of, is_candidate_now, lined, marked, next_of, told, told_seat, verdict_of, with_seat}
use Rattle.ris_base.specs.Requests.{RefusedPart, refusal_of, refused_at}
use Rattle.ris_base.specs.declared.events.Verdict.{Verdict}
use Rattle.ris_base.specs.declared.events.Verdict.TheVariants as verdict
use Rattle.ris_base.specs.declared.lines.Entry.{Entry}
use Rattle.ris_base.specs.declared.lines.Line.TheVariants as line
use Rattle.ris_base.specs.declared.records.Record.{Record}
use Rattle.ris_base.specs.declared.replies.LogLine.{LogLine}
use Rattle.ris_base.specs.declared.replies.LogLine.TheVariants.{Reply}
use Rattle.ris_base.specs.declared.replies.Outcome.TheVariants as outcome
use Rattle.ris_base.specs.declared.replies.Refusal.TheVariants as refusal
use Rattle.ris_base.specs.declared.requests.Request.{Request}
use Rattle.ris_legal.proofs.Books.{put}
use Rattle.ris_legal.proofs.Sealing.{sealed-seat}

-- The setup

decided-setup : (old : State) (k : ℕ) (e : Entry) (v : Verdict) → (decided old k e v).setup ≡ old.setup
decided-setup old k e verdict.Bounced = refl
decided-setup old k e verdict.Applied = refl
decided-setup old k e verdict.NoEdge = refl
decided-setup old k e verdict.Waiting = refl

enters-setup : (old : State) (e : Entry) (forests : List Forest) (new : State) (r : Option RefusedPart) → EntersOr old e forests new r → new.setup ≡ old.setup
enters-setup old e forests new (Some r) a = ap (λ (x : State). x.setup) a.1
enters-setup old e forests new None a = ap (λ (x : State). x.setup) a.1

step-setup : (old : State) (step : Step) (new : State) → Happens old step new → new.setup ≡ old.setup
step-setup old (Step.Submit s r) new h = ap (λ (x : State). x.setup) h.after
step-setup old (Step.Take s) new h = ap (λ (x : State). x.setup) h.after
step-setup old (Step.Begin held) new h = ap (λ (x : State). x.setup) h.after
step-setup old (Step.Cell k s) new h =
    ap (λ (x : State). x.setup) h.after
    ∙ decided-setup old k (entry_of s h.asked.seq h.parts) (verdict_of (graph_of old.setup old.book) (forests_now old.book) (old.logs k) h.parts)
step-setup old (Step.Seal order) new h = ap (λ (x : State). x.setup) h.after
step-setup old (Step.Serial s forests) new h =
    enters-setup old (entry_of s h.asked.seq h.parts) forests new (refusal_of (graph_of old.setup old.book) h.parts) h.after
step-setup old (Step.Mark s) new h = ap (λ (x : State). x.setup) h.after
step-setup old (Step.Leave s) new h = ap (λ (x : State). x.setup) h.after
step-setup old Step.Publish new h = ap (λ (x : State). x.setup) h.after
step-setup old (Step.Read s q) new h = ap (λ (x : State). x.setup) h.after
step-setup old (Step.Want s) new h = ap (λ (x : State). x.setup) h.after
step-setup old (Step.WantToRead s q) new h = ap (λ (x : State). x.setup) h.after

-- a run keeps the setup
pub run-setup : (old : State) (steps : List Step) (new : State) → Run old steps new → new.setup ≡ old.setup
unfolding Run
run-setup old [] new h = ap (λ (x : State). x.setup) h
run-setup old (step ∷ steps) new h = run-setup h.0 steps new h.2 ∙ step-setup old step h.0 h.1

-- The batch

-- nobody stands in the batch
abbrev pub IsFree : Book → Type 0
IsFree b = (n : ℕ) → (b.seats n).stand ≢ InBatch

told-free : (b : Book) (n : ℕ) (reply : LogLine) → IsFree b → IsFree (told b n reply)
told-free b n reply free = put (λ (m : ℕ) (x : Seat). x.stand ≢ InBatch) b.seats n (told_seat (b.seats n) reply (length b.lines)) (λ e. cc) free

-- the turn begins
begun-free : (old : State) (held : List ℕ) (n : ℕ) (stand : Stand) → begun old held n stand ≢ InBatch
begun-free old held n InBatch = go (is_candidate_now old (next_of (old.book.seats n)) && not (list_any (λ h. h == n) held))
  where
    go : (b : Bool) → (if b then Undecided else InTail) ≢ InBatch
    go true = λ e. cc
    go false = λ e. cc
begun-free old held n Queued = λ e. cc
begun-free old held n Undecided = λ e. cc
begun-free old held n InLog = λ e. cc
begun-free old held n InTail = λ e. cc

begins-free : (old : State) (held : List ℕ) (new : State) → Happens old (Step.Begin held) new → IsFree new.book
begins-free old held new h = subst (λ (x : State). IsFree x.book) (sym h.after) (λ n. begun-free old held n (old.book.seats n).stand)

-- a cell
decided-free : (old : State) (k : ℕ) (e : Entry) (v : Verdict) → IsFree old.book → IsFree (decided old k e v).book
decided-free old k e v free = go v
  where
    moved : (to : Stand) → to ≢ InBatch → (n : ℕ) → (with_seat old.book.seats e.session (record (old.book.seats e.session) { stand = to }) n).stand ≢ InBatch
    moved to other = put (λ (m : ℕ) (x : Seat). x.stand ≢ InBatch) old.book.seats e.session (record (old.book.seats e.session) { stand = to }) other free

    go : (v : Verdict) → IsFree (decided old k e v).book
    go verdict.Bounced = moved InTail (λ e. cc)
    go verdict.Applied = moved InLog (λ e. cc)
    go verdict.NoEdge = moved InLog (λ e. cc)
    go verdict.Waiting = moved InLog (λ e. cc)

cell-free : (old : State) (step : Step) (new : State) → is_cell step ≡ true → Happens old step new → IsFree old.book → IsFree new.book
cell-free old (Step.Cell k s) new is h free =
    subst (λ (x : State). IsFree x.book) (sym h.after)
    (decided-free old k (entry_of s h.asked.seq h.parts) (verdict_of (graph_of old.setup old.book) (forests_now old.book) (old.logs k) h.parts) free)
cell-free old (Step.Submit s r) new is h free = absurd (true≢false (sym is))
cell-free old (Step.Take s) new is h free = absurd (true≢false (sym is))
cell-free old (Step.Begin held) new is h free = absurd (true≢false (sym is))
cell-free old (Step.Seal order) new is h free = absurd (true≢false (sym is))
cell-free old (Step.Serial s forests) new is h free = absurd (true≢false (sym is))
cell-free old (Step.Mark s) new is h free = absurd (true≢false (sym is))
cell-free old (Step.Leave s) new is h free = absurd (true≢false (sym is))
cell-free old Step.Publish new is h free = absurd (true≢false (sym is))
cell-free old (Step.Read s q) new is h free = absurd (true≢false (sym is))
cell-free old (Step.Want s) new is h free = absurd (true≢false (sym is))
cell-free old (Step.WantToRead s q) new is h free = absurd (true≢false (sym is))

-- the merge
seal-free : (old : State) (order : List ℕ) (new : State) → Happens old (Step.Seal order) new → IsFree old.book → IsFree new.book
seal-free old order new h free = subst (λ (x : State). IsFree x.book) (sym h.after) (λ n. elim (sealed-seat old.book h.merged n) [
  | inl done ↦ (λ e. absurd (let w : Queued ≡ InBatch = sym done ∙ e in cc))
  | inr same ↦ (λ e. free n (sym (ap (λ (x : Seat). x.stand) same.0) ∙ e))
])

-- the tail
enters-free : (old : State) (e : Entry) (forests : List Forest) (new : State) (r : Option RefusedPart) → EntersOr old e forests new r → IsFree old.book → IsFree new.book
enters-free old e forests new (Some r) a free =
    subst (λ (x : State). IsFree x.book) (sym a.1) (told-free old.book e.session (Reply (outcome.Refused (refused_at (front old.book.lines) r))) free)
enters-free old e forests new None a free =
    subst (λ (x : State). IsFree x.book) (sym a.1)
    (told-free (record old.book { lines = old.book.lines ++ line.Entry e ∷ []; places = old.book.places ++ forests ∷ [] }) e.session
    (Reply (outcome.Placed (front old.book.lines + 1))) free)

marked-free : (b : Book) (s seq upto : ℕ) → IsFree b → IsFree (marked b s seq upto)
marked-free b s seq upto free = go (nat_lt (front b.lines) upto)
  where
    go : (late : Bool) → IsFree (if late then told b s (Reply (outcome.NotYet (front b.lines))) else told (lined b (line.Mark s seq upto)) s (Reply (outcome.Marked (front b.lines) upto)))
    go true = told-free b s (Reply (outcome.NotYet (front b.lines))) free
    go false = told-free (lined b (line.Mark s seq upto)) s (Reply (outcome.Marked (front b.lines) upto)) free

tail-free : (old : State) (step : Step) (new : State) → is_of_tail step ≡ true → Happens old step new → IsFree old.book → IsFree new.book
tail-free old (Step.Serial s forests) new is h free =
    enters-free old (entry_of s h.asked.seq h.parts) forests new (refusal_of (graph_of old.setup old.book) h.parts) h.after free
tail-free old (Step.Mark s) new is h free = subst (λ (x : State). IsFree x.book) (sym h.after) (marked-free old.book s h.asked.seq h.upto free)
tail-free old (Step.Leave s) new is h free =
    subst (λ (x : State). IsFree x.book) (sym h.after)
    (told-free (lined old.book (line.Leave s h.asked.seq)) s (Reply (outcome.Left (front old.book.lines))) free)
tail-free old (Step.Want s) new is h free =
    subst (λ (x : State). IsFree x.book) (sym h.after) (told-free old.book s (Reply (outcome.Refused refusal.NoMemory)) free)
tail-free old (Step.Cell k s) new is h free = absurd (true≢false (sym is))
tail-free old (Step.Submit s r) new is h free = absurd (true≢false (sym is))
tail-free old (Step.Take s) new is h free = absurd (true≢false (sym is))
tail-free old (Step.Begin held) new is h free = absurd (true≢false (sym is))
tail-free old (Step.Seal order) new is h free = absurd (true≢false (sym is))
tail-free old Step.Publish new is h free = absurd (true≢false (sym is))
tail-free old (Step.Read s q) new is h free = absurd (true≢false (sym is))
tail-free old (Step.WantToRead s q) new is h free = absurd (true≢false (sym is))

-- Runs

run-tail : (old : State) (steps : List Step) (new : State) → All (λ step. is_of_tail step ≡ true) steps → Run old steps new → IsFree old.book → IsFree new.book
unfolding Run
run-tail old [] new are h free = subst (λ (x : State). IsFree x.book) (sym h) free
run-tail old (step ∷ steps) new are h free =
    run-tail h.0 steps new (All-tail (λ x. is_of_tail x ≡ true) step steps are) h.2
    (tail-free old step h.0 (All-head (λ x. is_of_tail x ≡ true) step steps are) h.1 free)

run-cells : (old : State) (cells : List Step) (order : List ℕ) (new : State) → All (λ step. is_cell step ≡ true) cells → Run old (cells ++ Step.Seal order ∷ []) new
    → IsFree old.book → IsFree new.book
unfolding Run
run-cells old [] order new are h free = subst (λ (x : State). IsFree x.book) (sym h.2) (seal-free old order h.0 h.1 free)
run-cells old (step ∷ cells) order new are h free =
    run-cells h.0 cells order new (All-tail (λ x. is_cell x ≡ true) step cells are) h.2
    (cell-free old step h.0 (All-head (λ x. is_cell x ≡ true) step cells are) h.1 free)

run-sealed : (wanting : List ℕ) (old : State) (held : List ℕ) (cells : List Step) (order : List ℕ) (new : State) → All (λ step. is_cell step ≡ true) cells
    → Run old (map Step.Want wanting ++ Step.Begin held ∷ cells ++ Step.Seal order ∷ []) new → IsFree new.book
unfolding Run
run-sealed [] old held cells order new are h = run-cells h.0 cells order new are h.2 (begins-free old held h.0 h.1)
run-sealed (n ∷ wanting) old held cells order new are h = run-sealed wanting h.0 held cells order new are h.2

-- at the end of an epoch nobody stands in the batch
pub epoch-free : (ground : Ground) (records : List Record) (batch : List Request) (held : List ℕ) (more : List Record) (outcomes : List Resolved)
    (e : IsHeldEpoch ground records batch held more outcomes) → IsFree e.final.book
epoch-free ground records batch held more outcomes e =
    run-tail e.sealed e.tail e.final e.are_of_tail e.to_final
    (run-sealed e.wanting (turn_of ground records batch) held e.cells e.order e.sealed e.are_cells e.to_sealed)

-- and its setup is that of the records
pub epoch-setup : (ground : Ground) (records : List Record) (batch : List Request) (held : List ℕ) (more : List Record) (outcomes : List Resolved)
    (e : IsHeldEpoch ground records batch held more outcomes) → e.final.setup ≡ (turn_of ground records batch).setup
epoch-setup ground records batch held more outcomes e =
    run-setup e.sealed e.tail e.final e.to_final
    ∙ run-setup (turn_of ground records batch) (map Step.Want e.wanting ++ Step.Begin held ∷ e.cells ++ Step.Seal e.order ∷ []) e.sealed e.to_sealed
