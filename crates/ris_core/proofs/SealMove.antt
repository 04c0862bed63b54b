-- The move that seals the logs.
use Rattle.std.proofs.Common.{◌≡◌, ◌≢◌, ℕ, suc, ◌+◌, ◌<◌, ◌==◌, ◌&&◌, not, if◌then◌else◌, Bool, true, false, List, [], ◌∷◌, ◌++◌, length, map, Option, Some, None, arith, refl, sym, ap, ◌∙◌, eq-eqb}
use Rattle.std.specs.List.{list_any, slice_get, slice_set}
use Rattle.std.specs.Option.{option_map, option_map_or}
use Rattle.std.proofs.lemmas.Bool.{true≢false}
use Rattle.ris_base.specs.Forest.{Forest, forest_in}
use Rattle.ris_base.specs.Lines.{front}
use Rattle.ris_base.specs.Machine
use Rattle.ris_base.specs.Machine.{Book, Cells, Decided, InLog, Queued, Seat, Serially, State, Step, Undecided, forests_now, is_applied, placed, sealed_by, stripe_of, told, told_seat, with_seat}
use Rattle.ris_base.specs.declared.lines.Line.{Line}
use Rattle.ris_base.specs.declared.lines.Line.TheVariants as line
use Rattle.ris_base.specs.declared.replies.LogLine.{LogLine}
use Rattle.ris_base.specs.declared.replies.LogLine.TheVariants.{Reply}
use Rattle.ris_base.specs.declared.replies.Outcome.TheVariants as outcome
use Rattle.ris_base.specs.declared.replies.Refusal.TheVariants as refusal
use Rattle.ris_core.specs.Moves.{forests_in, is_phase, is_stand, merge_of, sealed, sealed_all, sealed_one, tells, told_at}
use Rattle.ris_core.specs.Stands.{Listing, seats_of, state_of}
use Rattle.ris_core.proofs.CellMoves.{forests-at}
use Rattle.ris_core.proofs.Merging.{IsMerge, apart, merge-complete, merge-sound}
use Rattle.ris_core.proofs.EntryState.{map-push}
use Rattle.ris_core.proofs.StateLemmas.{IsMove, phase-is, phase-true, seat-absent, seat-there, seats-set, set-length, within-there}
use Rattle.ris_core.proofs.TailMoves.{none-stands, some-stands, state-told}
use Rattle.ris_legal.specs.Held.{IsKept}
use Rattle.ris_legal.proofs.CellSteps.{no-two}
use Rattle.ris_legal.proofs.Lists.{in-filter, slice_get_some}

-- One decision

-- the session that is told has a seat
pub told_at-there : (l : Listing) (s : ℕ) (x : Seat) (reply : LogLine) (lines : List Line) → slice_get l.seats s ≡ Some x → told_at l s reply lines ≡ tells l s x reply lines
told_at-there l s x reply lines there =
    ap (λ (o : Option Seat). record l { seats = option_map_or (λ seat. slice_set l.seats s (told_seat seat reply (length lines))) o l.seats; lines = lines }) there

state-sealed_one : (l : Listing) (d : Decided) → d.entry.session < length l.seats → state_of (sealed_one l d) ≡ record (state_of l) { book = sealed_by (state_of l).book d }
state-sealed_one l d here = go (is_applied d)
  where
    s : ℕ
    s = d.entry.session

    seat : (x : Seat) × (slice_get l.seats d.entry.session ≡ Some x)
    seat = slice_get_some l.seats d.entry.session here

    lines : List Line
    lines = l.lines ++ line.Entry d.entry ∷ []

    reply : LogLine
    reply = Reply (outcome.Placed (front l.lines + 1))

    as_entry : state_of (record (told_at l d.entry.session (Reply (outcome.Placed (front l.lines + 1))) (l.lines ++ line.Entry d.entry ∷ [])) { places = l.places ++ forests_in l ∷ [] })
        ≡ record (state_of l) { book = placed (state_of l).book d.entry (forests_now (state_of l).book) }
    as_entry =
        let x = seat.0 in
        let at : ◌≡◌ {A = ℕ → Seat} (seats_of l.published (slice_set l.seats d.entry.session (told_seat x (Reply (outcome.Placed (front l.lines + 1))) (length (l.lines ++ line.Entry d.entry ∷ [])))))
        (with_seat (seats_of l.published l.seats) d.entry.session (told_seat (seats_of l.published l.seats d.entry.session) (Reply (outcome.Placed (front l.lines + 1))) (length (l.lines ++ line.Entry d.entry ∷ [])))) =
        seats-set l.published l.seats d.entry.session (told_seat x (Reply (outcome.Placed (front l.lines + 1))) (length (l.lines ++ line.Entry d.entry ∷ []))) here
        ∙ ap (λ (y : Seat). with_seat (seats_of l.published l.seats) d.entry.session (told_seat y (Reply (outcome.Placed (front l.lines + 1))) (length (l.lines ++ line.Entry d.entry ∷ [])))) (sym (seat-there l d.entry.session x seat.1)) in
        let places : map (λ forests. map forest_in forests) (l.places ++ forests_in l ∷ []) ≡ map (λ forests. map forest_in forests) l.places ++ forests_now (state_of l).book ∷ [] =
        map-push (λ forests. map forest_in forests) l.places (forests_in l) ∙ ap (λ (fs : List Forest). map (λ forests. map forest_in forests) l.places ++ fs ∷ []) (sym (forests-at l.places (front l.lines))) in
        ap (λ (m : Listing). state_of (record m { places = l.places ++ forests_in l ∷ [] })) (told_at-there l d.entry.session x (Reply (outcome.Placed (front l.lines + 1))) (l.lines ++ line.Entry d.entry ∷ []) seat.1)
        ∙ (λ i. record (state_of l) {
          setup = record (state_of l).setup { sessions = set-length l.seats d.entry.session (told_seat x (Reply (outcome.Placed (front l.lines + 1))) (length (l.lines ++ line.Entry d.entry ∷ []))) i };
          book = record { seats = at i; lines = l.lines ++ line.Entry d.entry ∷ []; places = places i };
        })

    as_refused : state_of (told_at l d.entry.session (Reply (outcome.Refused (refusal.NoEdge (front l.lines) 1))) l.lines)
        ≡ record (state_of l) { book = told (state_of l).book d.entry.session (Reply (outcome.Refused (refusal.NoEdge (front l.lines) 1))) }
    as_refused =
        ap state_of (told_at-there l d.entry.session seat.0 (Reply (outcome.Refused (refusal.NoEdge (front l.lines) 1))) l.lines seat.1)
        ∙ state-told l d.entry.session seat.0 (Reply (outcome.Refused (refusal.NoEdge (front l.lines) 1))) l.lines seat.1

    go : (b : Bool) → state_of (if b then record (told_at l d.entry.session (Reply (outcome.Placed (front l.lines + 1))) (l.lines ++ line.Entry d.entry ∷ [])) { places = l.places ++ forests_in l ∷ [] }
        else told_at l d.entry.session (Reply (outcome.Refused (refusal.NoEdge (front l.lines) 1))) l.lines)
        ≡ record (state_of l) { book = if b then placed (state_of l).book d.entry (forests_now (state_of l).book) else told (state_of l).book d.entry.session (Reply (outcome.Refused (refusal.NoEdge (front l.lines) 1))) }
    go true = as_entry
    go false = as_refused

-- as many seats as before
told_at-length : (l : Listing) (s : ℕ) (reply : LogLine) (lines : List Line) → length (told_at l s reply lines).seats ≡ length l.seats
told_at-length l s reply lines = go (slice_get l.seats s)
  where
    go : (o : Option Seat) → length (option_map_or (λ seat. slice_set l.seats s (told_seat seat reply (length lines))) o l.seats) ≡ length l.seats
    go (Some x) = set-length l.seats s (told_seat x reply (length lines))
    go None = refl

sealed_one-length : (l : Listing) (d : Decided) → length (sealed_one l d).seats ≡ length l.seats
sealed_one-length l d = go (is_applied d)
  where
    go : (b : Bool) → length (if b then record (told_at l d.entry.session (Reply (outcome.Placed (front l.lines + 1))) (l.lines ++ line.Entry d.entry ∷ [])) { places = l.places ++ forests_in l ∷ [] }
        else told_at l d.entry.session (Reply (outcome.Refused (refusal.NoEdge (front l.lines) 1))) l.lines).seats ≡ length l.seats
    go true = told_at-length l d.entry.session (Reply (outcome.Placed (front l.lines + 1))) (l.lines ++ line.Entry d.entry ∷ [])
    go false = told_at-length l d.entry.session (Reply (outcome.Refused (refusal.NoEdge (front l.lines) 1))) l.lines

-- All decisions

state-sealed : (l : Listing) (merged : List Decided) → ((i : ℕ) (d : Decided) → slice_get merged i ≡ Some d → d.entry.session < length l.seats)
    → state_of (sealed_all l merged) ≡ record (state_of l) { book = Machine.sealed (state_of l).book merged }
unfolding sealed_all Machine.sealed
state-sealed l [] here = refl
state-sealed l (d ∷ merged) here =
    let one = state-sealed_one l d (here 0 d refl) in
    state-sealed (sealed_one l d) merged (λ i x at. (let w = here (suc i) x at in let n = sealed_one-length l d in omega arith))
    ∙ ap (λ (s : State). record s { book = Machine.sealed s.book merged }) one

pub sealed_all-none : (l : Listing) → sealed_all l [] ≡ l
unfolding sealed_all
sealed_all-none l = refl

-- one decision more at the end
pub sealed_all-push : (l : Listing) (merged : List Decided) (d : Decided) → sealed_all l (merged ++ d ∷ []) ≡ sealed_one (sealed_all l merged) d
unfolding sealed_all
sealed_all-push l [] d = refl
sealed_all-push l (x ∷ merged) d = sealed_all-push (sealed_one l x) merged d

-- Seal

pub seal-move : (l : Listing) (order : List ℕ) → IsKept (state_of l) → IsMove l (Step.Seal order) (sealed l order)
seal-move l order kept = by_phase (is_phase l.phase Cells) (list_any (λ x. is_stand x.stand Undecided) l.seats) refl refl
  where
    -- a session with a seat in a log is there
    there : (s : ℕ) → (seats_of l.published l.seats s).stand ≡ InLog → s < length l.seats
    there s stand = go (slice_get l.seats s) refl
      where
        go : (o : Option Seat) → slice_get l.seats s ≡ o → s < length l.seats
        go (Some x) e = within-there l.seats s x e
        go None e = absurd (let w = sym (ap (λ (y : Seat). y.stand) (seat-absent l s e)) ∙ stand in cc)

    by_merge : (o : Option (List Decided)) → merge_of order l.decided ≡ o → l.phase ≡ Cells → ((n : ℕ) → (seats_of l.published l.seats n).stand ≢ Undecided)
        → IsMove l (Step.Seal order) (option_map (λ merged. record (sealed_all l merged) { phase = Serially; decided = [] }) o)
    by_merge (Some merged) is phase none =
        let m = merge-sound order l.decided merged is in
        let waits : (i : ℕ) (d : Decided) → slice_get merged i ≡ Some d → d.entry.session < length l.seats = λ i d at.
        (let in_log = in-filter (λ (x : Decided). stripe_of x.entry.parts == stripe_of d.entry.parts) merged i d at (eq-eqb (stripe_of d.entry.parts) (stripe_of d.entry.parts) refl) in
        there d.entry.session ((kept.cells phase).logs.logged (stripe_of d.entry.parts) in_log.0 d
        (ap (λ (xs : List Decided). slice_get xs in_log.0) (sym (m.logs (stripe_of d.entry.parts))) ∙ in_log.1)).stand) in
        record {
          merged = merged;
          phase = phase;
          all = none;
          sessions = m.sessions;
          logs = m.logs;
          after = ap (λ (s : State). record s { phase = Serially; logs = λ k. [] }) (state-sealed l merged waits);
        }
    by_merge None is phase none = λ enabled.
        let h = enabled.1 in
        let m : IsMerge order l.decided h.merged = record { sessions = h.sessions; logs = h.logs } in
        let e = merge-complete order l.decided h.merged (apart l.decided (no-two (state_of l) l.decided kept phase (λ n. refl))) m in
        let w : None ≡ Some h.merged = sym is ∙ e in cc

    by_phase : (a b : Bool) → is_phase l.phase Cells ≡ a → list_any (λ x. is_stand x.stand Undecided) l.seats ≡ b
        → IsMove l (Step.Seal order) (if a && not b then option_map (λ merged. record (sealed_all l merged) { phase = Serially; decided = [] }) (merge_of order l.decided) else None)
    by_phase true false e f = by_merge (merge_of order l.decided) refl (phase-true l.phase Cells e) (none-stands Undecided (λ e. cc) l.published l.seats f)
    by_phase true true e f = λ enabled. (let some = some-stands Undecided l.published l.seats f in enabled.1.all some.0 some.1)
    by_phase false b e f = λ enabled. absurd (true≢false (sym (phase-is l.phase Cells enabled.1.phase) ∙ e))
