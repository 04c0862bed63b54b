-- The seats of a turn: who stands where and who was told what, as one request after another is told its outcome or moves on.
use Rattle.std.proofs.Common.{◌≡◌, ◌≢◌, ℕ, ◌==◌, inl, inr, Bool, true, false, List, [], ◌∷◌, ◌++◌, map, Option, Some, refl, sym, subst, ap, ◌∙◌, eq-eqb, cond}
use Rattle.std.specs.List.{Contains, find}
use Rattle.std.proofs.lemmas.Bool.{eqb-true, ne_eqb, cond-true, cond-false}
use Rattle.ris_base.specs.Epoch.{Resolved, batch_seat, seat_with}
use Rattle.ris_base.specs.Graph.{EachOnce}
use Rattle.ris_base.specs.Machine.{InBatch, InLog, InTail, Queued, Seat, Stand, Undecided, session_by, told_seat, with_seat}
use Rattle.ris_base.specs.declared.replies.LogLine.TheVariants.{Reply}
use Rattle.ris_base.specs.declared.replies.Outcome.{Outcome}
use Rattle.ris_base.specs.declared.requests.Request.{Request}
use Rattle.ris_base.proofs.ListLemmas.{Contains-cases, Contains-first, Contains-none, Contains-rest, EachOnce-head, EachOnce-nil, EachOnce-tail}
use Rattle.ris_epoch.specs.Account.{resolved}
use Rattle.ris_epoch.proofs.Stands.{Contains-mapped, IsSeatOf, Ledger, Standing, ledger-kept, ledger-told, standing-joined, standing-kept, standing-left}

-- Steps of one seat

-- these requests stand in the batch, among the candidates, in a log and in the tail, and these outcomes were told
pub record Seating (batch : List Request) (seats : ℕ → Seat) (waiting undecided logged tail : List Request) (outcomes : List Resolved) : Type 0 where
  pub once : EachOnce (map session_by batch)
  pub in_batch : Standing batch seats InBatch waiting
  pub in_cells : Standing batch seats Undecided undecided
  pub in_log : Standing batch seats InLog logged
  pub in_tail : Standing batch seats InTail tail
  pub ledger : Ledger batch seats outcomes

-- who stands at one place stands at no other
not-at : {x y z : Stand} → x ≡ y → y ≢ z → x ≢ z
not-at is other e = other (sym is ∙ e)

module _ (batch : List Request) (seats : ℕ → Seat) (r : Request) (told : Outcome) (knew : ℕ) where
  -- the seat of the request
  abbrev own : Seat
  own = seats (session_by r)

  -- the seats where it is told this
  abbrev after : ℕ → Seat
  after = with_seat seats (session_by r) (told_seat own (Reply told) knew)

  -- the first request of the batch is told its outcome
  pub told-waiting : (waiting undecided logged tail : List Request) (outcomes : List Resolved) → Seating batch seats (r ∷ waiting) undecided logged tail outcomes
      → Seating batch after waiting undecided logged tail (outcomes ++ resolved r told ∷ [])
  told-waiting waiting undecided logged tail outcomes h =
      let its = h.in_batch.each r (Contains-first r waiting) in
      let y : Seat = told_seat own (Reply told) knew in
      record {
        once = h.once;
        in_batch = standing-left batch seats (session_by r) y InBatch r waiting h.in_batch refl (λ e. cc);
        in_cells = standing-kept batch seats (session_by r) y Undecided undecided h.in_cells (not-at its.here (λ e. cc)) (λ e. cc);
        in_log = standing-kept batch seats (session_by r) y InLog logged h.in_log (not-at its.here (λ e. cc)) (λ e. cc);
        in_tail = standing-kept batch seats (session_by r) y InTail tail h.in_tail (not-at its.here (λ e. cc)) (λ e. cc);
        ledger = ledger-told batch seats outcomes h.ledger (session_by r) (not-at its.here (λ e. cc)) r told knew h.once
            (h.in_batch.known r (Contains-first r waiting)) refl its.none;
      }

  -- the first one of the logs is
  pub told-logged : (waiting undecided logged tail : List Request) (outcomes : List Resolved) → Seating batch seats waiting undecided (r ∷ logged) tail outcomes
      → Seating batch after waiting undecided logged tail (outcomes ++ resolved r told ∷ [])
  told-logged waiting undecided logged tail outcomes h =
      let its = h.in_log.each r (Contains-first r logged) in
      let y : Seat = told_seat own (Reply told) knew in
      record {
        once = h.once;
        in_batch = standing-kept batch seats (session_by r) y InBatch waiting h.in_batch (not-at its.here (λ e. cc)) (λ e. cc);
        in_cells = standing-kept batch seats (session_by r) y Undecided undecided h.in_cells (not-at its.here (λ e. cc)) (λ e. cc);
        in_log = standing-left batch seats (session_by r) y InLog r logged h.in_log refl (λ e. cc);
        in_tail = standing-kept batch seats (session_by r) y InTail tail h.in_tail (not-at its.here (λ e. cc)) (λ e. cc);
        ledger = ledger-told batch seats outcomes h.ledger (session_by r) (not-at its.here (λ e. cc)) r told knew h.once
            (h.in_log.known r (Contains-first r logged)) refl its.none;
      }

  -- the first one of the tail is
  pub told-tail : (waiting undecided logged tail : List Request) (outcomes : List Resolved) → Seating batch seats waiting undecided logged (r ∷ tail) outcomes
      → Seating batch after waiting undecided logged tail (outcomes ++ resolved r told ∷ [])
  told-tail waiting undecided logged tail outcomes h =
      let its = h.in_tail.each r (Contains-first r tail) in
      let y : Seat = told_seat own (Reply told) knew in
      record {
        once = h.once;
        in_batch = standing-kept batch seats (session_by r) y InBatch waiting h.in_batch (not-at its.here (λ e. cc)) (λ e. cc);
        in_cells = standing-kept batch seats (session_by r) y Undecided undecided h.in_cells (not-at its.here (λ e. cc)) (λ e. cc);
        in_log = standing-kept batch seats (session_by r) y InLog logged h.in_log (not-at its.here (λ e. cc)) (λ e. cc);
        in_tail = standing-left batch seats (session_by r) y InTail r tail h.in_tail refl (λ e. cc);
        ledger = ledger-told batch seats outcomes h.ledger (session_by r) (not-at its.here (λ e. cc)) r told knew h.once
            (h.in_tail.known r (Contains-first r tail)) refl its.none;
      }

module _ (batch : List Request) (seats : ℕ → Seat) (r : Request) (waiting undecided logged tail : List Request) (outcomes : List Resolved)
    (h : Seating batch seats waiting (r ∷ undecided) logged tail outcomes) where
  -- where the first candidate stands
  its : IsSeatOf Undecided r (seats (session_by r))
  its = h.in_cells.each r (Contains-first r undecided)

  -- the first candidate goes to a log
  pub goes-logged : Seating batch (with_seat seats (session_by r) (record (seats (session_by r)) { stand = InLog })) waiting undecided (logged ++ r ∷ []) tail outcomes
  goes-logged =
      let y : Seat = record (seats (session_by r)) { stand = InLog } in
      record {
        once = h.once;
        in_batch = standing-kept batch seats (session_by r) y InBatch waiting h.in_batch (not-at its.here (λ e. cc)) (λ e. cc);
        in_cells = standing-left batch seats (session_by r) y Undecided r undecided h.in_cells refl (λ e. cc);
        in_log = standing-joined batch seats (session_by r) y InLog r logged h.in_log refl (not-at its.here (λ e. cc))
            (h.in_cells.known r (Contains-first r undecided)) (record { here = refl; next = its.next; none = its.none });
        in_tail = standing-kept batch seats (session_by r) y InTail tail h.in_tail (not-at its.here (λ e. cc)) (λ e. cc);
        ledger = ledger-kept batch seats outcomes h.ledger (session_by r) (not-at its.here (λ e. cc)) y (λ e. cc);
      }

  -- or to the tail
  pub goes-tail : Seating batch (with_seat seats (session_by r) (record (seats (session_by r)) { stand = InTail })) waiting undecided logged (tail ++ r ∷ []) outcomes
  goes-tail =
      let y : Seat = record (seats (session_by r)) { stand = InTail } in
      record {
        once = h.once;
        in_batch = standing-kept batch seats (session_by r) y InBatch waiting h.in_batch (not-at its.here (λ e. cc)) (λ e. cc);
        in_cells = standing-left batch seats (session_by r) y Undecided r undecided h.in_cells refl (λ e. cc);
        in_log = standing-kept batch seats (session_by r) y InLog logged h.in_log (not-at its.here (λ e. cc)) (λ e. cc);
        in_tail = standing-joined batch seats (session_by r) y InTail r tail h.in_tail refl (not-at its.here (λ e. cc))
            (h.in_cells.known r (Contains-first r undecided)) (record { here = refl; next = its.next; none = its.none });
        ledger = ledger-kept batch seats outcomes h.ledger (session_by r) (not-at its.here (λ e. cc)) y (λ e. cc);
      }

-- The batch

-- a request of a batch is the one that its session has in it
pub find-here : (batch : List Request) (r : Request) → EachOnce (map session_by batch) → Contains batch r → find (λ x. session_by x == session_by r) batch ≡ Some r
find-here [] r once h = absurd (Contains-none r h)
find-here (x ∷ batch) r once h = elim (Contains-cases x batch r h) [
  | inl first ↦ cond-true {A = Option Request} (session_by x == session_by r) (Some x) (find (λ y. session_by y == session_by r) batch)
      (eq-eqb (session_by x) (session_by r) (ap session_by first)) ∙ ap Some first
  | inr later ↦ cond-false {A = Option Request} (session_by x == session_by r) (Some x) (find (λ y. session_by y == session_by r) batch)
      (ne_eqb (session_by x) (session_by r)
      (λ same. EachOnce-head (session_by x) (map session_by batch) once (subst (λ (n : ℕ). Contains (map session_by batch) n) (sym same) (Contains-mapped session_by batch r later))))
      ∙ find-here batch r (EachOnce-tail (session_by x) (map session_by batch) once) later
]

-- who stands out of the queue as the turn takes its batch, stands in the batch
found : (batch : List Request) (n : ℕ) (stand : Stand) → stand ≢ Queued → (batch_seat batch n).stand ≡ stand → (stand ≡ InBatch) × Contains (map session_by batch) n
found [] n stand out is = absurd (out (sym is))
found (x ∷ batch) n stand out is = go (session_by x == n) refl is (λ more. found batch n stand out more)
  where
    go : (b : Bool) → (session_by x == n) ≡ b → (seat_with (cond b (Some x) (find (λ r. session_by r == n) batch))).stand ≡ stand
        → ((batch_seat batch n).stand ≡ stand → (stand ≡ InBatch) × Contains (map session_by batch) n)
        → (stand ≡ InBatch) × Contains (session_by x ∷ map session_by batch) n
    go true e is more = (sym is, subst (λ (m : ℕ). Contains (session_by x ∷ map session_by batch) m) (eqb-true (session_by x) n e) (Contains-first (session_by x) (map session_by batch)))
    go false e is more = let m = more is in (m.0, Contains-rest (session_by x) (map session_by batch) n m.1)

-- at other places stands nobody
nobody : (batch : List Request) (stand : Stand) → stand ≢ Queued → stand ≢ InBatch → Standing batch (batch_seat batch) stand []
nobody batch stand out other = record {
  once = EachOnce-nil;
  known = λ r at. absurd (Contains-none r at);
  each = λ r at. absurd (Contains-none r at);
  all = λ n is. absurd (other (found batch n stand out is).0);
}

-- the seats as the turn takes its batch
pub first-seating : (batch : List Request) → EachOnce (map session_by batch) → Seating batch (batch_seat batch) batch [] [] [] []
first-seating batch once = record {
  once = once;
  in_batch = record { once = once; known = λ r at. at; each = seat; all = λ n is. (found batch n InBatch (λ e. cc) is).1 };
  in_cells = nobody batch Undecided (λ e. cc) (λ e. cc);
  in_log = nobody batch InLog (λ e. cc) (λ e. cc);
  in_tail = nobody batch InTail (λ e. cc) (λ e. cc);
  ledger = record {
    once = EachOnce-nil;
    each = λ o at. absurd (Contains-none o at);
    all = λ r at. inr (not-at (seat r at).here (λ e. cc));
  };
}
  where
    seat : (r : Request) → Contains batch r → IsSeatOf InBatch r (batch_seat batch (session_by r))
    seat r at = subst (λ (o : Option Request). IsSeatOf InBatch r (seat_with o)) (sym (find-here batch r once at)) (record { here = refl; next = refl; none = refl })
