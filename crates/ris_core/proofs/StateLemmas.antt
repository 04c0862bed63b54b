-- The state that lists are, where one seat is changed, and what each move of the lists is of the state.
use Rattle.std.proofs.Common.{◌≡◌, ◌≢◌, ℕ, zero, suc, ◌<◌, ◌≤◌, ◌==◌, ◌&&◌, if◌then◌else◌, Bool, true, false, List, [], ◌∷◌, length, Option, Some, None, is_some, unwrap_or, Result, Ok, Err, arith, refl, sym, subst, ap, ◌∙◌}
use Rattle.std.specs.List.{slice_get, slice_set}
use Rattle.std.specs.Option.{option_and_then, option_map_or}
use Rattle.std.proofs.lemmas.Bool.{true≢false, and_parts, eqb-true, eqb-false}
use Rattle.std.proofs.lemmas.Option.{slice_get_within}
use Rattle.ris_base.specs.Machine.{Happens, IsEnabled, Phase, Collect, Cells, Serially, Seat, Stand, Step, Queued, InBatch, Undecided, InLog, InTail, next_of, seated, with_seat}
use Rattle.ris_base.specs.declared.memory.NoMemory.{NoMemory}
use Rattle.ris_core.specs.Moves.{IsMade, is_phase, is_stand, next_at, stood_seats, taken, with_seat_at}
use Rattle.ris_core.specs.Stands.{IsTried, Listing, absent_seat, seats_of, state_of}

-- functions with the same values are the same
pub same_function : {A B : Type 0} (f g : A → B) → ((x : A) → f x ≡ g x) → f ≡ g
same_function f g h = λ i x. h x i

-- A list with another item at a place

set-same : {X : Type 0} (xs : List X) (s : ℕ) (y : X) → s < length xs → slice_get (slice_set xs s y) s ≡ Some y
set-same [] s y h = absurd (omega arith)
set-same (x ∷ xs) zero y h = refl
set-same (x ∷ xs) (suc s) y h = set-same xs s y (omega arith)

set-other : {X : Type 0} (xs : List X) (s : ℕ) (y : X) (n : ℕ) → n ≢ s → slice_get (slice_set xs s y) n ≡ slice_get xs n
set-other [] s y n h = refl
set-other (x ∷ xs) zero y zero h = absurd (h refl)
set-other (x ∷ xs) zero y (suc n) h = refl
set-other (x ∷ xs) (suc s) y zero h = refl
set-other (x ∷ xs) (suc s) y (suc n) h = set-other xs s y n (λ e. h (ap (λ (m : ℕ). suc m) e))

set-get : {X : Type 0} (xs : List X) (s : ℕ) (y d : X) (n : ℕ) → s < length xs → unwrap_or (slice_get (slice_set xs s y) n) d ≡ (if n == s then y else unwrap_or (slice_get xs n) d)
set-get {X = X} xs s y d n h = go (n == s) refl
  where
    go : (b : Bool) → (n == s) ≡ b → unwrap_or (slice_get (slice_set xs s y) n) d ≡ (if b then y else unwrap_or (slice_get xs n) d)
    go true e = ap (λ (o : Option X). unwrap_or o d) (ap (slice_get (slice_set xs s y)) (eqb-true n s e) ∙ set-same xs s y h)
    go false e = ap (λ (o : Option X). unwrap_or o d) (set-other xs s y n (eqb-false n s e))

pub set-length : {X : Type 0} (xs : List X) (s : ℕ) (y : X) → length (slice_set xs s y) ≡ length xs
set-length [] s y = refl
set-length (x ∷ xs) zero y = refl
set-length (x ∷ xs) (suc s) y = let more = set-length xs s y in omega arith

-- one seat changed
pub seats-set : (published : ℕ) (seats : List Seat) (s : ℕ) (y : Seat) → s < length seats → seats_of published (slice_set seats s y) ≡ with_seat (seats_of published seats) s y
seats-set published seats s y h =
    same_function (seats_of published (slice_set seats s y)) (with_seat (seats_of published seats) s y) (λ n. set-get seats s y (absent_seat published) n h)

pub state-seat : (l : Listing) (s : ℕ) (y : Seat) → s < length l.seats
    → state_of (with_seat_at l s y) ≡ record (state_of l) { book = seated (state_of l).book s y }
state-seat l s y h = λ i. record (state_of l) {
  setup = record (state_of l).setup { sessions = set-length l.seats s y i };
  book = record (state_of l).book { seats = seats-set l.published l.seats s y h i };
}

-- the seat of a session that is there, and of one that isn't
pub seat-there : (l : Listing) (s : ℕ) (x : Seat) → slice_get l.seats s ≡ Some x → seats_of l.published l.seats s ≡ x
seat-there l s x h = ap (λ o. unwrap_or o (absent_seat l.published)) h

pub seat-absent : (l : Listing) (s : ℕ) → slice_get l.seats s ≡ None → seats_of l.published l.seats s ≡ absent_seat l.published
seat-absent l s h = ap (λ o. unwrap_or o (absent_seat l.published)) h

pub within-there : {X : Type 0} (xs : List X) (s : ℕ) (x : X) → slice_get xs s ≡ Some x → s < length xs
within-there xs s x h = slice_get_within xs s x h

pub past-none : {X : Type 0} (xs : List X) (s : ℕ) → slice_get xs s ≡ None → length xs ≤ s
past-none [] s h = omega arith
past-none (x ∷ xs) zero h = absurd (cc)
past-none (x ∷ xs) (suc s) h = let more = past-none xs s h in omega arith

-- Tests

pub phase-true : (a b : Phase) → is_phase a b ≡ true → a ≡ b
phase-true Collect Collect h = refl
phase-true Cells Cells h = refl
phase-true Serially Serially h = refl
phase-true Collect Cells h = absurd (true≢false (sym h))
phase-true Collect Serially h = absurd (true≢false (sym h))
phase-true Cells Collect h = absurd (true≢false (sym h))
phase-true Cells Serially h = absurd (true≢false (sym h))
phase-true Serially Collect h = absurd (true≢false (sym h))
phase-true Serially Cells h = absurd (true≢false (sym h))

phase-itself : (a : Phase) → is_phase a a ≡ true
phase-itself Collect = refl
phase-itself Cells = refl
phase-itself Serially = refl

pub phase-is : (a b : Phase) → a ≡ b → is_phase a b ≡ true
phase-is a b h = subst (λ x. is_phase a x ≡ true) h (phase-itself a)

stand-itself : (a : Stand) → is_stand a a ≡ true
stand-itself Queued = refl
stand-itself InBatch = refl
stand-itself Undecided = refl
stand-itself InLog = refl
stand-itself InTail = refl

pub stand-is : (a b : Stand) → a ≡ b → is_stand a b ≡ true
stand-is a b h = subst (λ x. is_stand a x ≡ true) h (stand-itself a)

number_of : Stand → ℕ
number_of Queued = 0
number_of InBatch = 1
number_of Undecided = 2
number_of InLog = 3
number_of InTail = 4

pub stand-true : (a b : Stand) → is_stand a b ≡ true → a ≡ b
stand-true Queued Queued h = refl
stand-true InBatch InBatch h = refl
stand-true Undecided Undecided h = refl
stand-true InLog InLog h = refl
stand-true InTail InTail h = refl
stand-true _ _ h = absurd (cc)

-- Moves

-- what a move of the lists is: it happens, or the step isn't enabled
abbrev pub IsMove : Listing → Step → Option Listing → Type 0
IsMove l step (Some new) = Happens (state_of l) step (state_of new)
IsMove l step None = ¬ (IsEnabled (state_of l) step)

-- a call that makes a move tries the step
pub tried : (old new : Listing) (step : Step) (o : Option Listing) (result : Result Bool NoMemory) → IsMove old step o → IsMade o old new result → IsTried old step new result
tried old new step o (Err fault) move made = made
tried old new step (Some there) (Ok done) move made =
    subst (λ b. IsTried old step new (Ok b)) (sym made.0) (subst (λ x. Happens (state_of old) step (state_of x)) (sym made.1) move)
tried old new step None (Ok done) move made = subst (λ b. IsTried old step new (Ok b)) (sym made.0) (made.1, move)

-- Take

abbrev taken_by : Listing → ℕ → Seat → Option Listing
taken_by l s seat = if is_stand seat.stand Queued && is_some (next_of seat) then Some (with_seat_at l s (record seat { stand = InBatch })) else None

abbrev taken_as : Listing → ℕ → Option Listing
taken_as l s = if is_phase l.phase Collect then option_and_then (taken_by l s) (slice_get l.seats s) else None

taken-same : (l : Listing) (s : ℕ) → taken_as l s ≡ taken l s
taken-same l s = by_phase (is_phase l.phase Collect)
  where
    by_stand : (x : Seat) (b : Bool) → slice_get l.seats s ≡ Some x
        → (if b && is_some (next_of x) then Some (with_seat_at l s (record x { stand = InBatch })) else None)
        ≡ (if is_some (if b then next_of x else None) then Some (record l { seats = stood_seats l.seats s InBatch }) else None)
    by_stand x true there =
        ap (λ (o : Option Seat). if is_some (next_of x) then Some (record l { seats = option_map_or (λ (y : Seat). slice_set l.seats s (record y { stand = InBatch })) o l.seats }) else None) (sym there)
    by_stand x false there = refl

    by_get : (o : Option Seat) → slice_get l.seats s ≡ o
        → option_and_then (taken_by l s) o
        ≡ (if is_some (option_and_then (λ seat. if is_stand seat.stand Queued then next_of seat else None) o) then Some (record l { seats = stood_seats l.seats s InBatch }) else None)
    by_get (Some x) there = by_stand x (is_stand x.stand Queued) there
    by_get None there = refl

    by_phase : (b : Bool) → (if b then option_and_then (taken_by l s) (slice_get l.seats s) else None)
        ≡ (if b && is_some (next_at l.seats s Queued) then Some (record l { seats = stood_seats l.seats s InBatch }) else None)
    by_phase true = by_get (slice_get l.seats s) refl
    by_phase false = refl

pub take-move : (l : Listing) (s : ℕ) → IsMove l (Step.Take s) (taken l s)
take-move l s = subst (IsMove l (Step.Take s)) (taken-same l s) (by_phase (is_phase l.phase Collect) refl)
  where
    by_seat : (x : Seat) → slice_get l.seats s ≡ Some x → l.phase ≡ Collect → (ok : Bool) → (is_stand x.stand Queued && is_some (next_of x)) ≡ ok
        → IsMove l (Step.Take s) (if ok then Some (with_seat_at l s (record x { stand = InBatch })) else None)
    by_seat x there phase true ok =
        let parts = and_parts (is_stand x.stand Queued) (is_some (next_of x)) ok in
        let same = seat-there l s x there in
        record {
          here = within-there l.seats s x there;
          phase = phase;
          stand = ap (λ (y : Seat). y.stand) same ∙ stand-true x.stand Queued parts.0;
          some = ap (λ (y : Seat). is_some (next_of y)) same ∙ parts.1;
          after = state-seat l s (record x { stand = InBatch }) (within-there l.seats s x there)
              ∙ ap (λ (y : Seat). record (state_of l) { book = seated (state_of l).book s (record y { stand = InBatch }) }) (sym same);
        }
    by_seat x there phase false ok = λ enabled.
        let h = enabled.1 in
        let same = seat-there l s x there in
        let stands = stand-is x.stand Queued (sym (ap (λ (y : Seat). y.stand) same) ∙ h.stand) in
        let some = sym (ap (λ (y : Seat). is_some (next_of y)) same) ∙ h.some in
        let both : (is_stand x.stand Queued && is_some (next_of x)) ≡ true = rw stands some in
        absurd (true≢false (sym both ∙ ok))

    by_get : (o : Option Seat) → slice_get l.seats s ≡ o → l.phase ≡ Collect → IsMove l (Step.Take s) (option_and_then (taken_by l s) o)
    by_get (Some x) there phase = by_seat x there phase (is_stand x.stand Queued && is_some (next_of x)) refl
    by_get None none phase = λ enabled. (let p = past-none l.seats s none in let h = enabled.1.here in omega arith)

    by_phase : (b : Bool) → is_phase l.phase Collect ≡ b → IsMove l (Step.Take s) (if b then option_and_then (taken_by l s) (slice_get l.seats s) else None)
    by_phase true e = by_get (slice_get l.seats s) refl (phase-true l.phase Collect e)
    by_phase false e = λ enabled. absurd (true≢false (sym (phase-is l.phase Collect enabled.1.phase) ∙ e))
