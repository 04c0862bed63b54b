-- The move of a cell.
use Rattle.std.proofs.Common.{◌≡◌, ℕ, zero, suc, ◌==◌, if◌then◌else◌, Bool, true, false, List, [], ◌∷◌, ◌++◌, length, map, Option, Some, None, unwrap_or, refl, sym, subst, ap, ◌∙◌, cond, eq-eqb}
use Rattle.std.specs.List.{slice_get, slice_set}
use Rattle.std.specs.Option.{option_and_then, option_map_or}
use Rattle.std.proofs.lemmas.Bool.{true≢false, eqb-true, eqb-false, ne_eqb}
use Rattle.std.proofs.lemmas.List.{append-nil}
use Rattle.std.proofs.lemmas.List.Elements.{filter-append}
use Rattle.ris_base.specs.Forest.{Forest, forest_in}
use Rattle.ris_base.specs.Legal.{Asked}
use Rattle.ris_base.specs.Lines.{front}
use Rattle.ris_base.specs.Machine.{Cells, Decided, InLog, InTail, Seat, Stand, Step, Undecided, decided, entry_of, forests_now, graph_of, next_of, seated, stripe_of, verdict_of, with_seat}
use Rattle.ris_base.specs.declared.commands.Command.{Command}
use Rattle.ris_base.specs.declared.commands.Command.TheVariants as command
use Rattle.ris_base.specs.declared.events.Verdict.{Verdict}
use Rattle.ris_base.specs.declared.events.Verdict.TheVariants as verdict
use Rattle.ris_base.specs.declared.forests.ForestRow.{ForestRow}
use Rattle.ris_base.specs.declared.lines.Entry.{Entry}
use Rattle.ris_base.specs.declared.updates.Update.{Update}
use Rattle.ris_core.specs.Moves.{celled, celled_with, decided_with, entry_as, entry_for, forests_in, graph_in, is_phase, is_stand, next_at, stood_seats, with_seat_at}
use Rattle.ris_core.specs.Stands.{Listing, logs_of, seats_of, state_of}
use Rattle.ris_core.proofs.StateLemmas.{IsMove, phase-is, phase-true, same_function, seat-absent, seat-there, seats-set, set-length, stand-is, stand-true, within-there}

-- the forests of a place are those of its rows
pub forests-at : (places : List (List (List ForestRow))) (v : ℕ)
    → unwrap_or (slice_get (map (λ forests. map forest_in forests) places) v) [] ≡ map forest_in (unwrap_or (slice_get places v) [])
forests-at [] v = refl
forests-at (p ∷ places) zero = refl
forests-at (p ∷ places) (suc v) = forests-at places v

-- one decision more
logs-push : (log : List Decided) (k : ℕ) (e : Entry) (v : Verdict) → stripe_of e.parts ≡ k
    → logs_of (log ++ record { entry = e; verdict = v } ∷ []) ≡ (λ n. if n == k then logs_of log n ++ record { entry = e; verdict = v } ∷ [] else logs_of log n)
logs-push log k e v is = same_function _ _ (λ n. go n (n == k) refl)
  where
    d : Decided
    d = record { entry = e; verdict = v }

    one : (n : ℕ) (b : Bool) → (stripe_of e.parts == n) ≡ b → logs_of (log ++ d ∷ []) n ≡ logs_of log n ++ cond b (d ∷ []) []
    one n b h = filter-append (λ (x : Decided). stripe_of x.entry.parts == n) log (d ∷ []) ∙ ap (λ c. logs_of log n ++ cond c (d ∷ []) []) h

    go : (n : ℕ) (b : Bool) → (n == k) ≡ b → logs_of (log ++ d ∷ []) n ≡ (if b then logs_of log n ++ d ∷ [] else logs_of log n)
    go n true h = one n true (eq-eqb (stripe_of e.parts) n (is ∙ sym (eqb-true n k h)))
    go n false h = one n false (ne_eqb (stripe_of e.parts) n (λ same. eqb-false n k h (sym same ∙ is))) ∙ append-nil (logs_of log n)

-- the lists behind a decision on the parts of session s
abbrev decided_as : Listing → ℕ → Seat → ℕ → List Update → Verdict → Listing
decided_as l s seat seq parts verdict.Bounced = with_seat_at l s (record seat { stand = InTail })
decided_as l s seat seq parts v =
    record (with_seat_at l s (record seat { stand = InLog })) { decided = l.decided ++ record { entry = entry_of s seq parts; verdict = v } ∷ [] }

abbrev cell_as : Listing → ℕ → ℕ → Seat → ℕ → Command → Option Listing
cell_as l k s seat seq (command.Change parts) =
    if stripe_of parts == k then Some (decided_as l s seat seq parts
    (verdict_of (graph_in l) (map forest_in (forests_in l)) (logs_of l.decided k) parts))
    else None
cell_as l k s seat seq other = None

-- both words for a decision
decided-same : (l : Listing) (s : ℕ) (x : Seat) (seq : ℕ) (parts : List Update) (v : Verdict) → slice_get l.seats s ≡ Some x
    → decided_with l (entry_of s seq parts) v ≡ decided_as l s x seq parts v
decided-same l s x seq parts v there = go v
  where
    stood : (to : Stand) → stood_seats l.seats s to ≡ slice_set l.seats s (record x { stand = to })
    stood to = ap (λ (o : Option Seat). option_map_or (λ (y : Seat). slice_set l.seats s (record y { stand = to })) o l.seats) there

    logged : (w : Verdict) → record l { seats = stood_seats l.seats s InLog; decided = l.decided ++ record { entry = entry_of s seq parts; verdict = w } ∷ [] }
        ≡ record (with_seat_at l s (record x { stand = InLog })) { decided = l.decided ++ record { entry = entry_of s seq parts; verdict = w } ∷ [] }
    logged w = ap (λ (seats : List Seat). record l { seats = seats; decided = l.decided ++ record { entry = entry_of s seq parts; verdict = w } ∷ [] }) (stood InLog)

    go : (w : Verdict) → decided_with l (entry_of s seq parts) w ≡ decided_as l s x seq parts w
    go verdict.Bounced = ap (λ (seats : List Seat). record l { seats = seats }) (stood InTail)
    go verdict.Applied = logged verdict.Applied
    go verdict.NoEdge = logged verdict.NoEdge
    go verdict.Waiting = logged verdict.Waiting

-- what a cell makes of the command that it finds
abbrev celled_as : Listing → ℕ → ℕ → Option Listing
celled_as l k s =
    if is_phase l.phase Cells then option_and_then
    (λ seat. if is_stand seat.stand Undecided then option_and_then (λ asked. cell_as l k s seat asked.seq asked.command) (next_of seat) else None)
    (slice_get l.seats s)
    else None

celled-same : (l : Listing) (k s : ℕ) → celled_as l k s ≡ celled l k s
celled-same l k s = by_phase (is_phase l.phase Cells)
  where
    by_stripe : (x : Seat) (seq : ℕ) (parts : List Update) (b : Bool) (v : Verdict) → slice_get l.seats s ≡ Some x
        → (if b then Some (decided_as l s x seq parts v) else None) ≡ (if b then Some (decided_with l (entry_of s seq parts) v) else None)
    by_stripe x seq parts true v there = ap Some (sym (decided-same l s x seq parts v there))
    by_stripe x seq parts false v there = refl

    by_command : (x : Seat) (seq : ℕ) (c : Command) → slice_get l.seats s ≡ Some x → cell_as l k s x seq c ≡ option_and_then (celled_with l k) (entry_as s seq c)
    by_command x seq (command.Change parts) there =
        by_stripe x seq parts (stripe_of parts == k) (verdict_of (graph_in l) (map forest_in (forests_in l)) (logs_of l.decided k) parts) there
    by_command x seq (command.Release upto) there = refl
    by_command x seq command.Leave there = refl
    by_command x seq (command.Value v a y) there = refl
    by_command x seq (command.Parent v a y) there = refl
    by_command x seq (command.Path v a y) there = refl
    by_command x seq (command.Modified v a) there = refl
    by_command x seq command.Current there = refl

    by_next : (x : Seat) (o : Option Asked) → slice_get l.seats s ≡ Some x
        → option_and_then (λ asked. cell_as l k s x asked.seq asked.command) o ≡ option_and_then (celled_with l k) (option_and_then (entry_for s) o)
    by_next x (Some asked) there = by_command x asked.seq asked.command there
    by_next x None there = refl

    by_stand : (x : Seat) (b : Bool) → slice_get l.seats s ≡ Some x
        → (if b then option_and_then (λ asked. cell_as l k s x asked.seq asked.command) (next_of x) else None)
        ≡ option_and_then (celled_with l k) (option_and_then (entry_for s) (if b then next_of x else None))
    by_stand x true there = by_next x (next_of x) there
    by_stand x false there = refl

    by_get : (o : Option Seat) → slice_get l.seats s ≡ o
        → option_and_then (λ seat. if is_stand seat.stand Undecided then option_and_then (λ asked. cell_as l k s seat asked.seq asked.command) (next_of seat) else None) o
        ≡ option_and_then (celled_with l k) (option_and_then (entry_for s) (option_and_then (λ seat. if is_stand seat.stand Undecided then next_of seat else None) o))
    by_get (Some x) there = by_stand x (is_stand x.stand Undecided) there
    by_get None there = refl

    by_phase : (b : Bool)
        → (if b then option_and_then
        (λ seat. if is_stand seat.stand Undecided then option_and_then (λ asked. cell_as l k s seat asked.seq asked.command) (next_of seat) else None)
        (slice_get l.seats s)
        else None)
        ≡ option_and_then (celled_with l k) (if b then option_and_then (entry_for s) (next_at l.seats s Undecided) else None)
    by_phase true = by_get (slice_get l.seats s) refl
    by_phase false = refl

module _ (l : Listing) (k s : ℕ) (x : Seat) (asked : Asked) (parts : List Update) (there : slice_get l.seats s ≡ Some x) (stripe : stripe_of parts ≡ k) where
  abbrev e : Entry
  e = entry_of s asked.seq parts

  abbrev moved : Stand → Seat
  moved to = record x { stand = to }

  seats : (to : Stand) → ◌≡◌ {A = ℕ → Seat} (seats_of l.published (slice_set l.seats s (moved to))) (with_seat (seats_of l.published l.seats) s (record (seats_of l.published l.seats s) { stand = to }))
  seats to =
      seats-set l.published l.seats s (moved to) (within-there l.seats s x there)
      ∙ ap (λ (y : Seat). with_seat (seats_of l.published l.seats) s (record y { stand = to })) (sym (seat-there l s x there))

  sessions : (to : Stand) → length (slice_set l.seats s (moved to)) ≡ length l.seats
  sessions to = set-length l.seats s (moved to)

  logged : (v : Verdict) → state_of (record (with_seat_at l s (moved InLog)) { decided = l.decided ++ record { entry = e; verdict = v } ∷ [] })
      ≡ record (state_of l) {
        book = seated (state_of l).book s (record ((state_of l).book.seats s) { stand = InLog });
        logs = λ n. if n == k then (state_of l).logs n ++ record { entry = e; verdict = v } ∷ [] else (state_of l).logs n;
      }
  logged v = λ i. record (state_of l) {
    setup = record (state_of l).setup { sessions = sessions InLog i };
    book = record (state_of l).book { seats = seats InLog i };
    logs = logs-push l.decided k e v stripe i;
  }

  pub state-decided : (v : Verdict) → state_of (decided_as l s x asked.seq parts v) ≡ decided (state_of l) k e v
  state-decided verdict.Bounced = λ i. record (state_of l) {
    setup = record (state_of l).setup { sessions = sessions InTail i };
    book = record (state_of l).book { seats = seats InTail i };
  }
  state-decided verdict.Applied = logged verdict.Applied
  state-decided verdict.NoEdge = logged verdict.NoEdge
  state-decided verdict.Waiting = logged verdict.Waiting

pub cell-move : (l : Listing) (k s : ℕ) → IsMove l (Step.Cell k s) (celled l k s)
cell-move l k s = subst (IsMove l (Step.Cell k s)) (celled-same l k s) (by_phase (is_phase l.phase Cells) refl)
  where
    -- the verdict in the words of the state
    verdict-same : (parts : List Update) → verdict_of (graph_in l) (map forest_in (forests_in l)) (logs_of l.decided k) parts
        ≡ verdict_of (graph_of (state_of l).setup (state_of l).book) (forests_now (state_of l).book) ((state_of l).logs k) parts
    verdict-same parts = ap (λ (fs : List Forest). verdict_of (graph_in l) fs (logs_of l.decided k) parts) (sym (forests-at l.places (front l.lines)))

    other : (x : Seat) (asked : Asked) (c : Command) → slice_get l.seats s ≡ Some x → next_of x ≡ Some asked → asked.command ≡ c
        → ((parts : List Update) → c ≡ command.Change parts → stripe_of parts ≡ k → ⊥) → IsMove l (Step.Cell k s) None
    other x asked c there next is never = λ enabled.
        let h = enabled.1 in
        let same : Some h.asked ≡ Some asked = sym h.next ∙ ap next_of (seat-there l s x there) ∙ next in
        let one : h.asked ≡ asked = cc in
        never h.parts (sym is ∙ ap (λ (a : Asked). a.command) (sym one) ∙ h.is) h.of_stripe

    by_stripe : (x : Seat) (asked : Asked) (parts : List Update) → l.phase ≡ Cells → slice_get l.seats s ≡ Some x → x.stand ≡ Undecided → next_of x ≡ Some asked
        → asked.command ≡ command.Change parts → (b : Bool) → (stripe_of parts == k) ≡ b
        → IsMove l (Step.Cell k s) (if b then Some (decided_as l s x asked.seq parts (verdict_of (graph_in l) (map forest_in (forests_in l)) (logs_of l.decided k) parts)) else None)
    by_stripe x asked parts phase there stand next is true e =
        let same = seat-there l s x there in
        let stripe : stripe_of parts ≡ k = eqb-true (stripe_of parts) k e in
        record {
          asked = asked;
          parts = parts;
          phase = phase;
          stand = ap (λ (y : Seat). y.stand) same ∙ stand;
          next = ap next_of same ∙ next;
          is = is;
          of_stripe = stripe;
          after = state-decided l k s x asked parts there stripe (verdict_of (graph_in l) (map forest_in (forests_in l)) (logs_of l.decided k) parts)
              ∙ ap (decided (state_of l) k (entry_of s asked.seq parts)) (verdict-same parts);
        }
    by_stripe x asked parts phase there stand next is false e =
        other x asked (command.Change parts) there next is (λ ps same of. (let one : parts ≡ ps = cc in
        true≢false (sym (eq-eqb (stripe_of parts) k (ap stripe_of one ∙ of)) ∙ e)))

    by_command : (x : Seat) (asked : Asked) → l.phase ≡ Cells → slice_get l.seats s ≡ Some x → x.stand ≡ Undecided → next_of x ≡ Some asked → (c : Command) → asked.command ≡ c
        → IsMove l (Step.Cell k s) (cell_as l k s x asked.seq c)
    by_command x asked phase there stand next (command.Change parts) is = by_stripe x asked parts phase there stand next is (stripe_of parts == k) refl
    by_command x asked phase there stand next (command.Release upto) is = other x asked (command.Release upto) there next is (λ ps e of. cc)
    by_command x asked phase there stand next command.Leave is = other x asked command.Leave there next is (λ ps e of. cc)
    by_command x asked phase there stand next (command.Value v a y) is = other x asked (command.Value v a y) there next is (λ ps e of. cc)
    by_command x asked phase there stand next (command.Parent v a y) is = other x asked (command.Parent v a y) there next is (λ ps e of. cc)
    by_command x asked phase there stand next (command.Path v a y) is = other x asked (command.Path v a y) there next is (λ ps e of. cc)
    by_command x asked phase there stand next (command.Modified v a) is = other x asked (command.Modified v a) there next is (λ ps e of. cc)
    by_command x asked phase there stand next command.Current is = other x asked command.Current there next is (λ ps e of. cc)

    by_next : (x : Seat) (o : Option Asked) → l.phase ≡ Cells → slice_get l.seats s ≡ Some x → x.stand ≡ Undecided → next_of x ≡ o
        → IsMove l (Step.Cell k s) (option_and_then (λ asked. cell_as l k s x asked.seq asked.command) o)
    by_next x (Some asked) phase there stand next = by_command x asked phase there stand next asked.command refl
    by_next x None phase there stand next = λ enabled.
        let h = enabled.1 in let e : None ≡ Some h.asked = sym next ∙ sym (ap next_of (seat-there l s x there)) ∙ h.next in absurd (cc)

    by_stand : (x : Seat) → l.phase ≡ Cells → slice_get l.seats s ≡ Some x → (b : Bool) → is_stand x.stand Undecided ≡ b
        → IsMove l (Step.Cell k s) (if b then option_and_then (λ asked. cell_as l k s x asked.seq asked.command) (next_of x) else None)
    by_stand x phase there true e = by_next x (next_of x) phase there (stand-true x.stand Undecided e) refl
    by_stand x phase there false e = λ enabled.
        let h = enabled.1 in
        absurd (true≢false (sym (stand-is x.stand Undecided (sym (ap (λ (y : Seat). y.stand) (seat-there l s x there)) ∙ h.stand)) ∙ e))

    by_get : (o : Option Seat) → l.phase ≡ Cells → slice_get l.seats s ≡ o
        → IsMove l (Step.Cell k s) (option_and_then (λ seat. if is_stand seat.stand Undecided then option_and_then (λ asked. cell_as l k s seat asked.seq asked.command) (next_of seat) else None) o)
    by_get (Some x) phase there = by_stand x phase there (is_stand x.stand Undecided) refl
    by_get None phase none = λ enabled. (let e = sym (ap (λ (y : Seat). y.stand) (seat-absent l s none)) ∙ enabled.1.stand in absurd (cc))

    by_phase : (b : Bool) → is_phase l.phase Cells ≡ b
        → IsMove l (Step.Cell k s) (if b then option_and_then (λ seat. if is_stand seat.stand Undecided then option_and_then (λ asked. cell_as l k s seat asked.seq asked.command) (next_of seat) else None) (slice_get l.seats s) else None)
    by_phase true e = by_get (slice_get l.seats s) (phase-true l.phase Cells e) refl
    by_phase false e = λ enabled. absurd (true≢false (sym (phase-is l.phase Cells enabled.1.phase) ∙ e))
