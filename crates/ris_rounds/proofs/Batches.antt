-- A state takes a batch, one request after another.
use Rattle.std.proofs.Common.{◌≡◌, ℕ, zero, suc, ◌+◌, ◌<◌, ◌≤◌, ◌==◌, inl, inr, List, [], ◌∷◌, ◌++◌, length, map, get_or, Option, Some, None, true, arith, refl, sym, subst, ap, ◌∙◌}
use Rattle.std.specs.List.{All, Contains, find, slice_get}
use Rattle.std.specs.Option.{is_some}
use Rattle.std.proofs.lemmas.Bool.{cases_eq, cond-true, cond-false, eq-eqb, ne_eqb}
use Rattle.std.proofs.lemmas.List.Elements.{All-head}
use Rattle.ris_base.specs.Graph.{EachOnce}
use Rattle.ris_base.specs.Machine.{Book, Collect, InBatch, Queued, Run, Seat, Stand, State, Step, asked_by, next_of, seated, session_by, with_seat}
use Rattle.ris_base.specs.declared.requests.Request.{Request}
use Rattle.ris_base.proofs.ListLemmas.{All-from_Contains, Contains-cases, Contains-first, Contains-none, Contains-rest, EachOnce-cons, EachOnce-head, EachOnce-nil, EachOnce-tail}
use Rattle.ris_rounds.specs.Rounds.{IsBatchOf, batch_of}
use Rattle.ris_rounds.proofs.Lists.{find-key, find-no, find-some}
use Rattle.std.proofs.Math.Path.{fun_ext}
use Rattle.ris_legal.proofs.Turns.{run-append}

-- The fronts of queues

-- each request of a queue is of the session that has this place, the first of which is k
abbrev AreOwn : ℕ → List (List Request) → Type 0
AreOwn k queues = (i : ℕ) → All (λ r. session_by r ≡ k + i) (get_or queues i [])

own-rest : (k : ℕ) (q : List Request) (queues : List (List Request)) → AreOwn k (q ∷ queues) → AreOwn (k + 1) queues
own-rest k q queues own i =
    let same : k + suc i ≡ (k + 1) + i = omega arith in subst (λ (m : ℕ). All (λ r. session_by r ≡ m) (get_or queues i [])) same (own (suc i))

own-first : (k : ℕ) (r : Request) (q : List Request) (queues : List (List Request)) → AreOwn k ((r ∷ q) ∷ queues) → session_by r ≡ k
own-first k r q queues own = let e = All-head (λ x. session_by x ≡ k + 0) r q (own 0) in omega arith

-- no front is of a session before the first
fronts-low : (k : ℕ) (queues : List (List Request)) → AreOwn k queues → (n : ℕ) → Contains (map session_by (batch_of queues)) n → k ≤ n
fronts-low k [] own n h = absurd (Contains-none n h)
fronts-low k ([] ∷ queues) own n h = let e = fronts-low (k + 1) queues (own-rest k [] queues own) n h in omega arith
fronts-low k ((r ∷ q) ∷ queues) own n h = elim (Contains-cases (session_by r) (map session_by (batch_of queues)) n h) [
  | inl first ↦ (let e = own-first k r q queues own in omega arith)
  | inr later ↦ (let e = fronts-low (k + 1) queues (own-rest k (r ∷ q) queues own) n later in omega arith)
]

-- none is of the first session where its queue is left out
fronts-other : (k : ℕ) (queues : List (List Request)) → AreOwn (k + 1) queues → ¬ (Contains (map session_by (batch_of queues)) k)
fronts-other k queues own h = let e = fronts-low (k + 1) queues own k h in absurd (omega arith)

fronts-once : (k : ℕ) (queues : List (List Request)) → AreOwn k queues → EachOnce (map session_by (batch_of queues))
fronts-once k [] own = EachOnce-nil
fronts-once k ([] ∷ queues) own = fronts-once (k + 1) queues (own-rest k [] queues own)
fronts-once k ((r ∷ q) ∷ queues) own =
    EachOnce-cons (session_by r) (map session_by (batch_of queues))
    (λ h. fronts-other k queues (own-rest k (r ∷ q) queues own)
    (subst (λ (n : ℕ). Contains (map session_by (batch_of queues)) n) (own-first k r q queues own) h))
    (fronts-once (k + 1) queues (own-rest k (r ∷ q) queues own))

-- the front of each session is found
fronts-found : (k : ℕ) (queues : List (List Request)) → AreOwn k queues → (i n : ℕ) → n ≡ k + i
    → find (λ r. session_by r == n) (batch_of queues) ≡ slice_get (get_or queues i []) 0
fronts-found k [] own i n is = refl
fronts-found k ([] ∷ queues) own zero n is =
    find-no session_by (batch_of queues) n
    (λ h. let same : n ≡ k = omega arith in fronts-other k queues (own-rest k [] queues own) (subst (λ (m : ℕ). Contains (map session_by (batch_of queues)) m) same h))
fronts-found k ([] ∷ queues) own (suc i) n is = fronts-found (k + 1) queues (own-rest k [] queues own) i n (omega arith)
fronts-found k ((r ∷ q) ∷ queues) own zero n is =
    let e = own-first k r q queues own in
    cond-true {A = Option Request} (session_by r == n) (Some r) (find (λ x. session_by x == n) (batch_of queues)) (eq-eqb (session_by r) n (omega arith))
fronts-found k ((r ∷ q) ∷ queues) own (suc i) n is =
    let e = own-first k r q queues own in
    cond-false {A = Option Request} (session_by r == n) (Some r) (find (λ x. session_by x == n) (batch_of queues))
    (ne_eqb (session_by r) n (λ same. absurd (omega arith)))
    ∙ fronts-found (k + 1) queues (own-rest k (r ∷ q) queues own) i n (omega arith)

pub fronts-batch : (queues : List (List Request)) → ((n : ℕ) → All (λ r. session_by r ≡ n) (get_or queues n [])) → IsBatchOf queues (batch_of queues)
fronts-batch queues each =
    let own : AreOwn 0 queues = λ i. let same : i ≡ 0 + i = omega arith in subst (λ (m : ℕ). All (λ r. session_by r ≡ m) (get_or queues i [])) same (each i) in
    record { once = fronts-once 0 queues own; fronts = λ n. fronts-found 0 queues own n n (omega arith) }

-- a queue with a first request is one of those there
pub queue-there : (queues : List (List Request)) (n : ℕ) (r : Request) → slice_get (get_or queues n []) 0 ≡ Some r → n < length queues
queue-there [] n r at = absurd (let w : None ≡ Some r = at in cc)
queue-there (q ∷ queues) zero r at = omega arith
queue-there (q ∷ queues) (suc n) r at = let less = queue-there queues n r at in omega arith

-- a request of a batch is the first of its session's queue
pub front-of : (queues : List (List Request)) (batch : List Request) → IsBatchOf queues batch → (r : Request) → Contains batch r
    → slice_get (get_or queues (session_by r) []) 0 ≡ Some r
front-of queues batch h r has = sym (h.fronts (session_by r)) ∙ find-key session_by batch r h.once has

-- and its session is one of those there
pub batch-there : (queues : List (List Request)) (batch : List Request) (n : ℕ) → IsBatchOf queues batch → length queues ≡ n → All (λ r. session_by r < n) batch
batch-there queues batch n h is =
    All-from_Contains (λ r. session_by r < n) batch
    (λ r has. let less = queue-there queues (session_by r) r (front-of queues batch h r has) in omega arith)

-- the first request of a queue is in the batch
pub batch-has : (queues : List (List Request)) (batch : List Request) (n : ℕ) (r : Request) → IsBatchOf queues batch → slice_get (get_or queues n []) 0 ≡ Some r
    → (session_by r ≡ n) × Contains batch r
batch-has queues batch n r h at = find-some session_by batch n r (h.fronts n ∙ at)

-- Taking

-- a seat stands in the queue, or in the batch with its request there
abbrev pub stand_with : Option Request → Stand
stand_with None = Queued
stand_with (Some r) = InBatch

-- the state that has taken a batch
abbrev pub taken : State → List Request → State
taken s batch = record s {
  book = record s.book { seats = λ n. record (s.book.seats n) { stand = stand_with (find (λ r. session_by r == n) batch) } };
}

-- the steps that take it
abbrev pub takes_of : List Request → List Step
takes_of [] = []
takes_of (r ∷ batch) = takes_of batch ++ Step.Take (session_by r) ∷ []

-- one step is a run
pub run-one : (old : State) (step : Step) (new : State) → Rattle.ris_base.specs.Machine.Happens old step new → Run old (step ∷ []) new
unfolding Run
run-one old step new h = (new, h, refl)

taken-none : (s : State) → ((n : ℕ) → (s.book.seats n).stand ≡ Queued) → taken s [] ≡ s
taken-none s queued = λ i. record s { book = record s.book { seats = λ n. record (s.book.seats n) { stand = sym (queued n) i } } }

taken-more : (s : State) (r : Request) (batch : List Request)
    → taken s (r ∷ batch) ≡ record (taken s batch) { book = seated (taken s batch).book (session_by r) (record ((taken s batch).book.seats (session_by r)) { stand = InBatch }) }
taken-more s r batch = ap (λ (seats : ℕ → Seat). record s { book = record s.book { seats = seats } }) (fun_ext same)
  where
    y : Seat
    y = record (s.book.seats (session_by r)) { stand = InBatch }

    others : ℕ → Seat
    others n = record (s.book.seats n) { stand = stand_with (find (λ x. session_by x == n) batch) }

    same : (n : ℕ) → record (s.book.seats n) { stand = stand_with (find (λ x. session_by x == n) (r ∷ batch)) }
        ≡ with_seat (λ m. record (s.book.seats m) { stand = stand_with (find (λ x. session_by x == m) batch) }) (session_by r)
        (record (s.book.seats (session_by r)) { stand = InBatch }) n
    same n = elim (cases_eq n (session_by r)) [
      | inl here ↦ ap (λ (o : Option Request). record (s.book.seats n) { stand = stand_with o })
          (cond-true {A = Option Request} (session_by r == n) (Some r) (find (λ x. session_by x == n) batch) (eq-eqb (session_by r) n (sym here)))
          ∙ ap (λ (k : ℕ). record (s.book.seats k) { stand = InBatch }) here
          ∙ sym (cond-true {A = Seat} (n == session_by r) (record (s.book.seats (session_by r)) { stand = InBatch })
          (record (s.book.seats n) { stand = stand_with (find (λ x. session_by x == n) batch) }) (eq-eqb n (session_by r) here))
      | inr other ↦ ap (λ (o : Option Request). record (s.book.seats n) { stand = stand_with o })
          (cond-false {A = Option Request} (session_by r == n) (Some r) (find (λ x. session_by x == n) batch) (ne_eqb (session_by r) n (λ e. other (sym e))))
          ∙ sym (cond-false {A = Seat} (n == session_by r) (record (s.book.seats (session_by r)) { stand = InBatch })
          (record (s.book.seats n) { stand = stand_with (find (λ x. session_by x == n) batch) }) (ne_eqb n (session_by r) other))
    ]

-- a request may be taken: its session exists and has a command without a reply
pub record MayTake (s : State) (r : Request) : Type 0 where
  pub here : session_by r < s.setup.sessions
  pub some : is_some (next_of (s.book.seats (session_by r))) ≡ true

pub takes-run : (s : State) (batch : List Request) → s.phase ≡ Collect → ((n : ℕ) → (s.book.seats n).stand ≡ Queued) → EachOnce (map session_by batch)
    → ((r : Request) → Contains batch r → MayTake s r) → Run s (takes_of batch) (taken s batch)
unfolding Run
takes-run s [] phase queued once may = taken-none s queued
takes-run s (r ∷ batch) phase queued once may =
    let m = may r (Contains-first r batch) in
    run-append s (taken s batch) (taken s (r ∷ batch)) (takes_of batch) (Step.Take (session_by r) ∷ [])
    (takes-run s batch phase queued (EachOnce-tail (session_by r) (map session_by batch) once) (λ x has. may x (Contains-rest r batch x has)))
    (run-one (taken s batch) (Step.Take (session_by r)) (taken s (r ∷ batch)) (record {
      here = m.here;
      phase = phase;
      stand = ap stand_with (find-no session_by batch (session_by r) (EachOnce-head (session_by r) (map session_by batch) once));
      some = m.some;
      after = taken-more s r batch;
    }))
