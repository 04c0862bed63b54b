-- What a change in the tail does, by what was found of it.
use Rattle.std.proofs.Common.{◌≡◌, ℕ, ◌+◌, if◌then◌else◌, Bool, true, false, List, [], ◌∷◌, ◌++◌, map, Option, Some, None, Result, Ok, Err, refl, sym, subst, ap, ◌∙◌}
use Rattle.std.specs.List.{slice_get}
use Rattle.std.specs.Option.{option_and_then, option_map}
use Rattle.std.specs.Result.{result_err}
use Rattle.std.proofs.lemmas.Option.{option_and_then_some}
use Rattle.ris_base.specs.Forest.{AreForests, Forest, forest_in}
use Rattle.ris_base.specs.Legal.{Asked}
use Rattle.ris_base.specs.Lines.{front}
use Rattle.ris_base.specs.Machine.{EntersOr, Happens, InTail, IsEnabled, IsInTail, Seat, Serially, State, Step, entry_of, forests_now, next_of, placed}
use Rattle.ris_base.specs.Requests.{RefusedPart, does_from, entered, refusal_of, refused_at}
use Rattle.ris_base.specs.declared.commands.Command.{Command}
use Rattle.ris_base.specs.declared.commands.Command.TheVariants as command
use Rattle.ris_base.specs.declared.forests.ForestRow.{ForestRow}
use Rattle.ris_base.specs.declared.graphs.PlainGraph.{PlainGraph}
use Rattle.ris_base.specs.declared.lines.Entry.{Entry}
use Rattle.ris_base.specs.declared.lines.Line.TheVariants as line
use Rattle.ris_base.specs.declared.memory.NoMemory.{NoMemory}
use Rattle.ris_base.specs.declared.replies.LogLine.TheVariants.{Reply}
use Rattle.ris_base.specs.declared.replies.Outcome.TheVariants as outcome
use Rattle.ris_base.specs.declared.replies.Refusal.{Refusal}
use Rattle.ris_base.specs.declared.updates.Update.{Update}
use Rattle.ris_base.proofs.RequestLemmas.{entered-accepted}
use Rattle.ris_core.specs.Moves.{IsEntered, IsRefused, asked_in_tail, entered_with, entry_as, entry_for, entry_in_tail, forests_in, graph_in, is_phase, is_stand, told_at}
use Rattle.ris_core.specs.Stands.{IsTried, Listing, state_of}
use Rattle.ris_core.proofs.CellMoves.{forests-at}
use Rattle.ris_core.proofs.SealMove.{told_at-there}
use Rattle.ris_core.proofs.EntryState.{state-placed}
use Rattle.ris_core.proofs.StateLemmas.{phase-is, phase-true, seat-absent, seat-there, stand-is, stand-true}
use Rattle.ris_core.proofs.TailMoves.{state-told}

-- the seat of a command in the tail
record InTailAt (l : Listing) (s : ℕ) (asked : Asked) : Type 0 where
  pub seat : Seat
  pub there : slice_get l.seats s ≡ Some seat
  pub tail : IsInTail (state_of l) s asked

asked-tail : (l : Listing) (s : ℕ) (asked : Asked) → asked_in_tail l s ≡ Some asked → InTailAt l s asked
asked-tail l s asked h = by_phase (is_phase l.phase Serially) refl h
  where
    by_stand : (x : Seat) → slice_get l.seats s ≡ Some x → l.phase ≡ Serially → (b : Bool) → is_stand x.stand InTail ≡ b → (if b then next_of x else None) ≡ Some asked → InTailAt l s asked
    by_stand x there phase true e h =
        let same = seat-there l s x there in
        record {
          seat = x;
          there = there;
          tail = record { phase = phase; stand = ap (λ (y : Seat). y.stand) same ∙ stand-true x.stand InTail e; next = ap next_of same ∙ h };
        }
    by_stand x there phase false e h = absurd (cc)

    by_get : (o : Option Seat) → slice_get l.seats s ≡ o → l.phase ≡ Serially → option_and_then (λ x. if is_stand x.stand InTail then next_of x else None) o ≡ Some asked → InTailAt l s asked
    by_get (Some x) there phase h = by_stand x there phase (is_stand x.stand InTail) refl h
    by_get None none phase h = absurd (cc)

    by_phase : (b : Bool) → is_phase l.phase Serially ≡ b → (if b then option_and_then (λ x. if is_stand x.stand InTail then next_of x else None) (slice_get l.seats s) else None) ≡ Some asked
        → InTailAt l s asked
    by_phase true e h = by_get (slice_get l.seats s) refl (phase-true l.phase Serially e) h
    by_phase false e h = absurd (cc)

tail-asked : (l : Listing) (s : ℕ) (asked : Asked) → IsInTail (state_of l) s asked → asked_in_tail l s ≡ Some asked
tail-asked l s asked tail =
    ap (λ b. if b then option_and_then (λ x. if is_stand x.stand InTail then next_of x else None) (slice_get l.seats s) else None) (phase-is l.phase Serially tail.phase)
    ∙ by_get (slice_get l.seats s) refl
  where
    by_get : (o : Option Seat) → slice_get l.seats s ≡ o → option_and_then (λ x. if is_stand x.stand InTail then next_of x else None) o ≡ Some asked
    by_get (Some x) there =
        let same = seat-there l s x there in
        ap (λ b. if b then next_of x else None) (stand-is x.stand InTail (sym (ap (λ (y : Seat). y.stand) same) ∙ tail.stand)) ∙ sym (ap next_of same) ∙ tail.next
    by_get None none = absurd (let w = sym (ap (λ (y : Seat). y.stand) (seat-absent l s none)) ∙ tail.stand in cc)

-- the entry that a change makes
record IsChange (s : ℕ) (asked : Asked) (e : Entry) : Type 0 where
  pub parts : List Update
  pub is : asked.command ≡ command.Change parts
  pub entry : entry_of s asked.seq parts ≡ e

change-of : (s : ℕ) (asked : Asked) (e : Entry) → entry_for s asked ≡ Some e → IsChange s asked e
change-of s asked e h = go asked.command refl h
  where
    go : (c : Command) → asked.command ≡ c → entry_as s asked.seq c ≡ Some e → IsChange s asked e
    go (command.Change parts) is h = record { parts = parts; is = is; entry = (let w = h in cc) }
    go (command.Release upto) is h = absurd (cc)
    go command.Leave is h = absurd (cc)
    go (command.Value v a y) is h = absurd (cc)
    go (command.Parent v a y) is h = absurd (cc)
    go (command.Path v a y) is h = absurd (cc)
    go (command.Modified v a) is h = absurd (cc)
    go command.Current is h = absurd (cc)

entry-is : (s : ℕ) (asked : Asked) (parts : List Update) → asked.command ≡ command.Change parts → entry_for s asked ≡ Some (entry_of s asked.seq parts)
entry-is s asked parts is = ap (entry_as s asked.seq) is

-- the entry in the tail, with the command that makes it
record TailEntry (l : Listing) (s : ℕ) (e : Entry) : Type 0 where
  pub asked : Asked
  pub at : InTailAt l s asked
  pub change : IsChange s asked e

tail-entry : (l : Listing) (s : ℕ) (e : Entry) → entry_in_tail l s ≡ Some e → TailEntry l s e
tail-entry l s e h =
    option_and_then_some (entry_for s) (asked_in_tail l s) e h (λ asked is entry. record { asked = asked; at = asked-tail l s asked is; change = change-of s asked e entry })

-- what an enabled step says of the entry in the tail
enabled-entry : (l : Listing) (s : ℕ) (forests : List Forest) (new : State) (e : Entry) → entry_in_tail l s ≡ Some e → (h : Happens (state_of l) (Step.Serial s forests) new) → h.parts ≡ e.parts
enabled-entry l s forests new e is h =
    let own = ap (option_and_then (entry_for s)) (tail-asked l s h.asked h.tail) ∙ entry-is s h.asked h.parts h.is in
    let w : Some (entry_of s h.asked.seq h.parts) ≡ Some e = sym own ∙ is in
    let same : entry_of s h.asked.seq h.parts ≡ e = cc in ap (λ (x : Entry). x.parts) same

now-same : (l : Listing) → forests_now (state_of l).book ≡ map forest_in (forests_in l)
now-same l = forests-at l.places (front l.lines)

-- an entry with these rows
entered-state : (l : Listing) (s : ℕ) (x : Seat) (seq : ℕ) (parts : List Update) (rows : List (List ForestRow)) → slice_get l.seats s ≡ Some x
    → state_of (entered_with l (entry_of s seq parts) rows) ≡ record (state_of l) { book = placed (state_of l).book (entry_of s seq parts) (map forest_in rows) }
entered-state l s x seq parts rows there =
    ap (λ (m : Listing). state_of (record m { places = l.places ++ rows ∷ [] }))
    (told_at-there l s x (Reply (outcome.Placed (front l.lines + 1))) (l.lines ++ line.Entry (entry_of s seq parts) ∷ []) there)
    ∙ state-placed l s x seq parts rows there

pub serial-entered : (l : Listing) (s : ℕ) (rows : List (List ForestRow)) (e : Entry) → entry_in_tail l s ≡ Some e → refusal_of (graph_in l) e.parts ≡ None
    → AreForests (entered (graph_in l) e.parts) l.specs (map forest_in rows) → Happens (state_of l) (Step.Serial s (map forest_in rows)) (state_of (entered_with l e rows))
serial-entered l s rows e is accepted right =
    let t = tail-entry l s e is in
    let parts = t.change.parts in
    let same : parts ≡ e.parts = ap (λ (x : Entry). x.parts) t.change.entry in
    let none : refusal_of (graph_in l) parts ≡ None = ap (refusal_of (graph_in l)) same ∙ accepted in
    let forests : AreForests (entered (graph_in l) parts) l.specs (map forest_in rows) = subst (λ (ps : List Update). AreForests (entered (graph_in l) ps) l.specs (map forest_in rows)) (sym same) right in
    record {
      asked = t.asked;
      parts = parts;
      tail = t.at.tail;
      is = t.change.is;
      after = subst (EntersOr (state_of l) (entry_of s t.asked.seq parts) (map forest_in rows) (state_of (entered_with l e rows))) (sym none)
          (forests, sym (ap (λ (x : Entry). state_of (entered_with l x rows)) t.change.entry) ∙ entered-state l s t.at.seat t.asked.seq parts rows t.at.there);
    }

pub serial-unright : (l : Listing) (s : ℕ) (rows : List (List ForestRow)) (e : Entry) → entry_in_tail l s ≡ Some e → refusal_of (graph_in l) e.parts ≡ None
    → ¬ (AreForests (entered (graph_in l) e.parts) l.specs (map forest_in rows)) → ¬ (IsEnabled (state_of l) (Step.Serial s (map forest_in rows)))
serial-unright l s rows e is accepted wrong enabled =
    let h = enabled.1 in
    let same = enabled-entry l s (map forest_in rows) enabled.0 e is h in
    let none : refusal_of (graph_in l) h.parts ≡ None = ap (refusal_of (graph_in l)) same ∙ accepted in
    let after = subst (EntersOr (state_of l) (entry_of s h.asked.seq h.parts) (map forest_in rows) enabled.0) none h.after in
    wrong (subst (λ (ps : List Update). AreForests (entered (graph_in l) ps) l.specs (map forest_in rows)) same after.0)

-- a refusal as a reply says it comes from a refused part
record RefusedAs (l : Listing) (parts : List Update) (refused : Refusal) : Type 0 where
  pub part : RefusedPart
  pub refusal : refusal_of (graph_in l) parts ≡ Some part
  pub says : refused_at (front l.lines) part ≡ refused

refused-as : (l : Listing) (parts : List Update) (refused : Refusal) → option_map (refused_at (front l.lines)) (refusal_of (graph_in l) parts) ≡ Some refused → RefusedAs l parts refused
refused-as l parts refused h = go (refusal_of (graph_in l) parts) refl h
  where
    go : (o : Option RefusedPart) → refusal_of (graph_in l) parts ≡ o → option_map (refused_at (front l.lines)) o ≡ Some refused → RefusedAs l parts refused
    go (Some part) e h = record { part = part; refusal = e; says = (let w = h in cc) }
    go None e h = absurd (cc)

pub serial-refused : (l : Listing) (s : ℕ) (rows : List (List ForestRow)) (e : Entry) (refused : Refusal) → entry_in_tail l s ≡ Some e
    → option_map (refused_at (front l.lines)) (refusal_of (graph_in l) e.parts) ≡ Some refused → map forest_in rows ≡ map forest_in (forests_in l)
    → Happens (state_of l) (Step.Serial s (map forest_in rows)) (state_of (told_at l e.session (Reply (outcome.Refused refused)) l.lines))
serial-refused l s rows e refused is why now =
    let t = tail-entry l s e is in
    let parts = t.change.parts in
    let same : parts ≡ e.parts = ap (λ (x : Entry). x.parts) t.change.entry in
    let r = refused-as l e.parts refused why in
    let some : refusal_of (graph_in l) parts ≡ Some r.part = ap (refusal_of (graph_in l)) same ∙ r.refusal in
    record {
      asked = t.asked;
      parts = parts;
      tail = t.at.tail;
      is = t.change.is;
      after = subst (EntersOr (state_of l) (entry_of s t.asked.seq parts) (map forest_in rows) (state_of (told_at l e.session (Reply (outcome.Refused refused)) l.lines))) (sym some) (
        now ∙ sym (now-same l),
        sym (ap (λ (x : Entry). state_of (told_at l x.session (Reply (outcome.Refused refused)) l.lines)) t.change.entry)
            ∙ sym (ap (λ (x : Refusal). state_of (told_at l s (Reply (outcome.Refused x)) l.lines)) r.says)
            ∙ ap state_of (told_at-there l s t.at.seat (Reply (outcome.Refused (refused_at (front l.lines) r.part))) l.lines t.at.there)
            ∙ state-told l s t.at.seat (Reply (outcome.Refused (refused_at (front l.lines) r.part))) l.lines t.at.there,
      );
    }

pub serial-other : (l : Listing) (s : ℕ) (rows : List (List ForestRow)) (e : Entry) (refused : Refusal) → entry_in_tail l s ≡ Some e
    → option_map (refused_at (front l.lines)) (refusal_of (graph_in l) e.parts) ≡ Some refused → ¬ (map forest_in rows ≡ map forest_in (forests_in l))
    → ¬ (IsEnabled (state_of l) (Step.Serial s (map forest_in rows)))
serial-other l s rows e refused is why other enabled =
    let h = enabled.1 in
    let same = enabled-entry l s (map forest_in rows) enabled.0 e is h in
    let r = refused-as l e.parts refused why in
    let some : refusal_of (graph_in l) h.parts ≡ Some r.part = ap (refusal_of (graph_in l)) same ∙ r.refusal in
    let after = subst (EntersOr (state_of l) (entry_of s h.asked.seq h.parts) (map forest_in rows) enabled.0) some h.after in
    other (after.0 ∙ now-same l)

-- What was made is what the step does

pub tried-entered : (l : Listing) (s : ℕ) (rows : List (List ForestRow)) (e : Entry) (after : PlainGraph) (new : Listing) (result : Result Bool NoMemory) → entry_in_tail l s ≡ Some e
    → does_from 1 (graph_in l) e.parts ≡ Ok after → IsEntered l rows e after new result → IsTried l (Step.Serial s (map forest_in rows)) new result
tried-entered l s rows e after new result is does made = go result made
  where
    accepted : refusal_of (graph_in l) e.parts ≡ None
    accepted = ap result_err does

    whole : entered (graph_in l) e.parts ≡ after
    whole = entered-accepted (graph_in l) after e.parts does

    go : (result : Result Bool NoMemory) → IsEntered l rows e after new result → IsTried l (Step.Serial s (map forest_in rows)) new result
    go (Ok true) h =
        subst (λ (m : Listing). Happens (state_of l) (Step.Serial s (map forest_in rows)) (state_of m)) (sym h.1)
        (serial-entered l s rows e is accepted (subst (λ (g : PlainGraph). AreForests g l.specs (map forest_in rows)) (sym whole) h.0))
    go (Ok false) h = (h.1, serial-unright l s rows e is accepted (λ right. h.0 (subst (λ (g : PlainGraph). AreForests g l.specs (map forest_in rows)) whole right)))
    go (Err fault) h = h

pub tried-refused : (l : Listing) (s : ℕ) (rows : List (List ForestRow)) (e : Entry) (refused : Refusal) (new : Listing) (result : Result Bool NoMemory) → entry_in_tail l s ≡ Some e
    → option_map (refused_at (front l.lines)) (refusal_of (graph_in l) e.parts) ≡ Some refused → IsRefused l rows e refused new result → IsTried l (Step.Serial s (map forest_in rows)) new result
tried-refused l s rows e refused new (Ok true) is why h =
    subst (λ (m : Listing). Happens (state_of l) (Step.Serial s (map forest_in rows)) (state_of m)) (sym h.1) (serial-refused l s rows e refused is why h.0)
tried-refused l s rows e refused new (Ok false) is why h = (h.1, serial-other l s rows e refused is why h.0)
tried-refused l s rows e refused new (Err fault) is why h = h
