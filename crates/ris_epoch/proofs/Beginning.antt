-- The first steps of a turn: candidates that get no memory are told so, and the turn begins.
use Rattle.std.proofs.Common.{◌≡◌, ◌≢◌, ℕ, ◌==◌, ◌&&◌, if◌then◌else◌, ◌⊎◌, inl, inr, Bool, true, false, not, List, [], ◌∷◌, ◌++◌, map, refl, sym, subst, ap, ◌∙◌, append_assoc}
use Rattle.std.specs.List.{Contains, list_any}
use Rattle.std.proofs.lemmas.List.{append-nil}
use Rattle.std.proofs.lemmas.List.Elements.{Contains-append_cases, Contains-append_left, Contains-append_right}
use Rattle.ris_base.specs.Epoch.{Ground, Resolved, batch_seat, turn_of}
use Rattle.ris_base.specs.Graph.{EachOnce}
use Rattle.ris_base.specs.Machine.{Cells, Collect, InBatch, InLog, InTail, Queued, Seat, Stand, State, Step, Undecided, asked_by, begun, is_candidate_now, next_of, session_by, told}
use Rattle.ris_base.specs.declared.lines.Entry.{Entry}
use Rattle.ris_base.specs.declared.records.Record.{Record}
use Rattle.ris_base.specs.declared.replies.LogLine.TheVariants.{Reply}
use Rattle.ris_base.specs.declared.replies.Outcome.TheVariants as outcome
use Rattle.ris_base.specs.declared.replies.Refusal.TheVariants as refusal
use Rattle.ris_base.specs.declared.requests.Request.{Request}
use Rattle.ris_base.specs.declared.requests.Request.TheVariants as request
use Rattle.ris_base.proofs.ListLemmas.{Contains-first, Contains-none, EachOnce-nil}
use Rattle.ris_epoch.specs.Account.{is_candidate_behind, resolved}
use Rattle.ris_epoch.proofs.Seatings.{first-seating, told-waiting}
use Rattle.ris_epoch.proofs.Splits.{ArePartsOf, parts_of, submits}
use Rattle.ris_epoch.proofs.Stages.{Leads, Stage, candidate-is, leads-step}
use Rattle.ris_epoch.proofs.Stands.{Contains-map, Contains-mapped, Standing, once-left, once-right, standing-same}

-- what a candidate is told that gets no memory
abbrev pub no_memory : Entry → Resolved
no_memory e = resolved (request.Submit e) (outcome.Refused refusal.NoMemory)

-- a list of outcomes with some more is the same however it is grouped
with-more : {X : Type 0} (P : List X → Type 0) (xs : List X) (x : X) (ys : List X) → P ((xs ++ x ∷ []) ++ ys) → P (xs ++ (x ∷ ys))
with-more P xs x ys h = subst P (append_assoc xs (x ∷ []) ys) h

module _ (ground : Ground) (batch : List Request) (records : List Record) where
  -- the turn takes its batch
  pub first-stage : (w c : List Entry) (o : List Request) → EachOnce (map session_by batch) → ArePartsOf (is_candidate_behind ground records) batch w c o
      → Stage ground batch records Collect (turn_of ground records batch) (parts_of w c o) [] [] [] []
  first-stage w c o once parts =
      let h = first-seating batch once in
      record {
        at = refl;
        setup = refl;
        book = record { lines = refl; places = refl };
        seating = record {
          once = once;
          in_batch = standing-same batch (batch_seat batch) InBatch batch (parts_of w c o) h.in_batch (parts.once once) parts.to parts.from;
          in_cells = h.in_cells;
          in_log = h.in_log;
          in_tail = h.in_tail;
          ledger = h.ledger;
        };
      }

  -- the candidates that get no memory are told so
  pub leads-wants : (w : List Entry) (rest : List Request) (s : State) (outcomes : List Resolved) (more : List Step) (Q : State → Type 0)
      → Stage ground batch records Collect s (submits w ++ rest) [] [] [] outcomes
      → ((t : State) → Stage ground batch records Collect t rest [] [] [] (outcomes ++ map no_memory w) → Leads t more Q)
      → Leads s (map Step.Want (map (λ (e : Entry). e.session) w) ++ more) Q
  leads-wants [] rest s outcomes more Q h next = next s (subst (λ (os : List Resolved). Stage ground batch records Collect s rest [] [] [] os) (sym (append-nil outcomes)) h)
  leads-wants (e ∷ w) rest s outcomes more Q h next =
      let r : Request = request.Submit e in
      let its = h.seating.in_batch.each r (Contains-first r (submits w ++ rest)) in
      let t : State = record s { book = told s.book e.session (Reply (outcome.Refused refusal.NoMemory)) } in
      leads-step s t (Step.Want e.session) (map Step.Want (map (λ (e : Entry). e.session) w) ++ more) Q
      (record { asked = asked_by r; next = its.next; where_ = inl (h.at, its.here); after = refl })
      (leads-wants w rest t (outcomes ++ no_memory e ∷ []) more Q
      (record {
        at = h.at;
        setup = h.setup;
        book = record { lines = h.book.lines; places = h.book.places };
        seating = told-waiting batch s.book.seats r (outcome.Refused refusal.NoMemory) _ (submits w ++ rest) [] [] [] outcomes h.seating;
      })
      (λ u stage. next u (with-more (λ (os : List Resolved). Stage ground batch records Collect u rest [] [] [] os) outcomes (no_memory e) (map no_memory w) stage)))

  -- the turn begins
  abbrev pub begun_state : State → State
  begun_state s = record s {
    book = record s.book { seats = λ n. record (s.book.seats n) { stand = begun s [] n (s.book.seats n).stand } };
    phase = Cells;
    logs = λ k. [];
  }

  module _ (c : List Entry) (o : List Request) (s : State) (outcomes : List Resolved)
      (h : Stage ground batch records Collect s (submits c ++ o) [] [] [] outcomes)
      (candidates : (e : Entry) → Contains c e → is_candidate_behind ground records (request.Submit e) ≡ true)
      (others : (r : Request) → Contains o r → is_candidate_behind ground records r ≡ false) where
    -- where a request of the batch goes
    goes : (r : Request) (b : Bool) → Contains (submits c ++ o) r → is_candidate_behind ground records r ≡ b
        → begun s [] (session_by r) (s.book.seats (session_by r)).stand ≡ (if b then Undecided else InTail)
    goes r b at is =
        let its = h.seating.in_batch.each r at in
        ap (begun s [] (session_by r)) its.here
        ∙ ap (λ x. if is_candidate_now s x && not (list_any (λ k. k == session_by r) []) then Undecided else InTail) its.next
        ∙ ap (λ (x : Bool). if x && true then Undecided else InTail) (candidate-is ground records s h.setup h.book r ∙ is)
        ∙ same b
      where
        same : (b : Bool) → (if b && true then Undecided else InTail) ≡ (if b then Undecided else InTail)
        same true = refl
        same false = refl

    -- the seats as the turn has begun
    abbrev seats : ℕ → Seat
    seats n = record (s.book.seats n) { stand = begun s [] n (s.book.seats n).stand }

    -- an entry of the first list is a candidate
    is-candidate : (r : Request) → Contains (submits c) r → is_candidate_behind ground records r ≡ true
    is-candidate r at = let e = Contains-map (λ (e : Entry). request.Submit e) c r at in
        subst (λ (x : Request). is_candidate_behind ground records x ≡ true) e.2 (candidates e.0 e.1)

    -- who comes from the batch
    from-batch : (n : ℕ) (stand : Stand) → stand ≢ Queued → begun s [] n (s.book.seats n).stand ≡ stand
        → (r : Request) × Contains (submits c ++ o) r × (session_by r ≡ n)
    from-batch n stand out is = go (s.book.seats n).stand refl
      where
        go : (x : Stand) → (s.book.seats n).stand ≡ x → (r : Request) × Contains (submits c ++ o) r × (session_by r ≡ n)
        go InBatch e = Contains-map session_by (submits c ++ o) n (h.seating.in_batch.all n e)
        go Queued e = absurd (out (sym is ∙ ap (begun s [] n) e))
        go Undecided e = absurd (Contains-none n (h.seating.in_cells.all n e))
        go InLog e = absurd (Contains-none n (h.seating.in_log.all n e))
        go InTail e = absurd (Contains-none n (h.seating.in_tail.all n e))

    -- a list of some of them
    begun-standing : (rs : List Request) (b : Bool) → EachOnce (map session_by rs) → ((r : Request) → Contains rs r → Contains (submits c ++ o) r)
        → ((r : Request) → Contains rs r → is_candidate_behind ground records r ≡ b)
        → ((r : Request) → Contains (submits c ++ o) r → (Contains rs r) ⊎ (is_candidate_behind ground records r ≡ not b))
        → Standing batch seats (if b then Undecided else InTail) rs
    begun-standing rs b once some are or = record {
      once = once;
      known = λ r at. h.seating.in_batch.known r (some r at);
      each = λ r at. (let its = h.seating.in_batch.each r (some r at) in record { here = goes r b (some r at) (are r at); next = its.next; none = its.none });
      all = λ n is. (let r = from-batch n (if b then Undecided else InTail) (out b) is in elim (or r.0 r.1) [
        | inl here ↦ subst (λ (m : ℕ). Contains (map session_by rs) m) r.2 (Contains-mapped session_by rs r.0 here)
        | inr other ↦ absurd (apart b (sym (ap (λ (m : ℕ). begun s [] m (s.book.seats m).stand) r.2 ∙ is) ∙ goes r.0 (not b) r.1 other))
      ]);
    }
      where
        out : (b : Bool) → (if b then Undecided else InTail) ≢ Queued
        out true e = cc
        out false e = cc

        apart : (b : Bool) → (if b then Undecided else InTail) ≢ (if not b then Undecided else InTail)
        apart true e = cc
        apart false e = cc

    -- at other places stands nobody
    none-standing : (stand : Stand) → stand ≢ Queued → stand ≢ Undecided → stand ≢ InTail → Standing batch seats stand []
    none-standing stand out a b = record {
      once = EachOnce-nil;
      known = λ r at. absurd (Contains-none r at);
      each = λ r at. absurd (Contains-none r at);
      all = λ n is. (let r = from-batch n stand out is in absurd (go (is_candidate_behind ground records r.0) (sym is ∙ sym (ap (λ (m : ℕ). begun s [] m (s.book.seats m).stand) r.2) ∙ goes r.0 (is_candidate_behind ground records r.0) r.1 refl)));
    }
      where
        go : (c : Bool) → stand ≢ (if c then Undecided else InTail)
        go true = a
        go false = b

    -- who is out of the queue stays out of it, and who is in it stays in it
    still-out : (n : ℕ) (x : Stand) → x ≢ Queued → begun s [] n x ≢ Queued
    still-out n InBatch out = go (is_candidate_now s (next_of (s.book.seats n)) && not (list_any (λ k. k == n) []))
      where
        go : (b : Bool) → (if b then Undecided else InTail) ≢ Queued
        go true e = cc
        go false e = cc
    still-out n Queued out = absurd (out refl)
    still-out n Undecided out = λ e. cc
    still-out n InLog out = λ e. cc
    still-out n InTail out = λ e. cc

    -- the stage as the turn has begun: candidates are undecided, and the others stand in the tail
    pub begun-stage : Stage ground batch records Cells (begun_state s) [] (submits c) [] o outcomes
    begun-stage = record {
      at = refl;
      setup = h.setup;
      book = record { lines = h.book.lines; places = h.book.places };
      seating = record {
        once = h.seating.once;
        in_batch = none-standing InBatch (λ e. cc) (λ e. cc) (λ e. cc);
        in_cells = begun-standing (submits c) true (once-left session_by (submits c) o h.seating.in_batch.once) (λ r at. Contains-append_left (submits c) o r at) is-candidate
            (λ r at. elim (Contains-append_cases (submits c) o r at) [ inl here ↦ inl here | inr other ↦ inr (others r other) ]);
        in_log = none-standing InLog (λ e. cc) (λ e. cc) (λ e. cc);
        in_tail = begun-standing o false (once-right session_by (submits c) o h.seating.in_batch.once) (λ r at. Contains-append_right (submits c) o r at) others
            (λ r at. elim (Contains-append_cases (submits c) o r at) [ inl other ↦ inr (is-candidate r other) | inr here ↦ inl here ]);
        ledger = record {
          once = h.seating.ledger.once;
          each = λ x at. (let t = h.seating.ledger.each x at in
              record { request = t.request; known = t.known; of = t.of; done = ap (begun s [] x.session) t.done; knew = t.knew; replies = t.replies });
          all = λ r at. elim (h.seating.ledger.all r at) [ inl done ↦ inl done | inr away ↦ inr (still-out (session_by r) (s.book.seats (session_by r)).stand away) ];
        };
      };
    }
