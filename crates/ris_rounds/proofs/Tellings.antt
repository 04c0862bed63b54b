-- A turn of a run's batch, whose outcomes the sessions are told, is a run of the core machine.
use Rattle.std.proofs.Common.{◌≡◌, ◌≢◌, ℕ, ◌<◌, ◌≤◌, ◌==◌, inl, inr, List, [], ◌∷◌, ◌++◌, length, map, drop, get_or, Option, Some, None, arith, length-append, refl, sym, subst, ap, ◌∙◌, get_or-set_same, get_or-set_other}
use Rattle.std.specs.Prelude.{IsTrue}
use Rattle.std.specs.List.{Contains, find, fold, slice_get}
use Rattle.std.specs.Option.{is_some}
use Rattle.std.proofs.lemmas.Bool.{true≢false}
use Rattle.std.proofs.lemmas.List.{append-nil, length-map, length-set, nil_from_length}
use Rattle.std.proofs.lemmas.List.Elements.{Contains-append_right}
use Rattle.ris_base.specs.Answers.{Setup}
use Rattle.ris_base.specs.Epoch.{Ground, IsHeldEpoch, Resolved}
use Rattle.ris_base.specs.Graph.{EachOnce}
use Rattle.ris_base.specs.Machine.{Cells, Collect, Happens, InBatch, InLog, InTail, Known, Queued, Run, Seat, Serially, Stand, State, Step, Undecided, asked_by, next_of, session_by}
use Rattle.ris_base.specs.Records.{AreRight}
use Rattle.ris_base.specs.Replies.{can_have}
use Rattle.ris_base.specs.declared.commands.Command.{Command}
use Rattle.ris_base.specs.declared.commands.Command.TheVariants as command
use Rattle.ris_base.specs.declared.records.Record.{Record}
use Rattle.ris_base.specs.declared.replies.LogLine.TheVariants.{Reply}
use Rattle.ris_base.specs.declared.replies.Outcome.{Outcome}
use Rattle.ris_base.specs.declared.replies.Outcome.TheVariants as outcome
use Rattle.ris_base.specs.declared.requests.Request.{Request}
use Rattle.ris_base.proofs.ListLemmas.{Contains-cases, Contains-first, Contains-none, Contains-rest, EachOnce-head, EachOnce-tail}
use Rattle.ris_legal.specs.Held.{IsKept}
use Rattle.ris_legal.specs.Turn.{HasBatch, HasInBatch, steps_of, turned}
use Rattle.ris_legal.proofs.Lists.{at-middle, slice_get-map}
use Rattle.ris_legal.proofs.Steps.{kept-legal, run-kept}
use Rattle.ris_legal.proofs.Turns.{epoch-run, run-append}
use Rattle.ris_session.specs.PlayerView.{PlayerView, after_reply, player_of}
use Rattle.ris_rounds.specs.Rounds.{Fits, IsBatchOf, IsPlayed, IsSeatOf, IsSession, RunView, commands_at, player_at, player_in, queue_at, told, told_player}
use Rattle.ris_rounds.proofs.Batches.{MayTake, front-of, queue-there, run-one, stand_with, taken, takes-run, takes_of}
use Rattle.ris_rounds.proofs.Lists.{Contains-mapped, find-some, none-first, once-before, rest-at}
use Rattle.ris_rounds.proofs.Sessions.{IsFront, given-length, queue-front, queue-length, seat-next, seat-replied, seat-replies, seat-waits, session-replied, session-waits}
use Rattle.ris_rounds.proofs.Sittings.{played-kept, ran-more}
use Rattle.ris_rounds.proofs.TurnFacts.{epoch-free, epoch-setup}

-- Told players

length-told : (players : List PlayerView) (outcomes : List Resolved) → length (fold told_player players outcomes) ≡ length players
length-told players [] = refl
length-told players (o ∷ outcomes) =
    length-told (told_player players o) outcomes ∙ length-set players o.session (after_reply (player_in players o.session) o.outcome)

-- who has no outcome is as before
told-other : (players : List PlayerView) (outcomes : List Resolved) (n : ℕ) → ((o : Resolved) → Contains outcomes o → o.session ≢ n)
    → player_in (fold told_player players outcomes) n ≡ player_in players n
told-other players [] n other = refl
told-other players (o ∷ outcomes) n other =
    told-other (told_player players o) outcomes n (λ x has. other x (Contains-rest o outcomes x has))
    ∙ get_or-set_other players o.session n (after_reply (player_in players o.session) o.outcome) (player_of n []) (λ e. other o (Contains-first o outcomes) (sym e))

-- who has one is told it
told-here : (players : List PlayerView) (outcomes : List Resolved) (o : Resolved) → EachOnce (map (λ (x : Resolved). x.session) outcomes) → Contains outcomes o
    → o.session < length players → player_in (fold told_player players outcomes) o.session ≡ after_reply (player_in players o.session) o.outcome
told-here players [] o once has less = absurd (Contains-none o has)
told-here players (x ∷ outcomes) o once has less = elim (Contains-cases x outcomes o has) [
  | inl first ↦ told-other (told_player players x) outcomes o.session
      (λ y later same. EachOnce-head x.session (map (λ (z : Resolved). z.session) outcomes) once
      (subst (λ (n : ℕ). Contains (map (λ (z : Resolved). z.session) outcomes) n) (same ∙ ap (λ (z : Resolved). z.session) (sym first))
      (Contains-mapped (λ (z : Resolved). z.session) outcomes y later)))
      ∙ subst (λ (z : Resolved). player_in (told_player players z) o.session ≡ after_reply (player_in players o.session) o.outcome) (sym first)
      (get_or-set_same players o.session (after_reply (player_in players o.session) o.outcome) (player_of o.session []) less)
  | inr later ↦ (let longer = length-set players x.session (after_reply (player_in players x.session) x.outcome) in
      told-here (told_player players x) outcomes o (EachOnce-tail x.session (map (λ (z : Resolved). z.session) outcomes) once) later (omega arith)
      ∙ ap (λ (p : PlayerView). after_reply p o.outcome)
      (get_or-set_other players x.session o.session (after_reply (player_in players x.session) x.outcome) (player_of o.session [])
      (λ same. EachOnce-head x.session (map (λ (z : Resolved). z.session) outcomes) once
      (subst (λ (n : ℕ). Contains (map (λ (z : Resolved). z.session) outcomes) n) same (Contains-mapped (λ (z : Resolved). z.session) outcomes o later)))))
]

-- a request that is closed has no reply
never-closed : (c : Command) → IsTrue (can_have c (Reply outcome.Closed)) → ⊥
never-closed (command.Change parts) h = true≢false (sym h)
never-closed (command.Release upto) h = true≢false (sym h)
never-closed command.Leave h = true≢false (sym h)
never-closed (command.Value version a x) h = true≢false (sym h)
never-closed (command.Parent version a x) h = true≢false (sym h)
never-closed (command.Path version a x) h = true≢false (sym h)
never-closed (command.Modified version a) h = true≢false (sym h)
never-closed command.Current h = true≢false (sym h)

-- the request of an outcome is the first of its session's queue
record IsAnswered (queues : List (List Request)) (o : Resolved) : Type 0 where
  pub request : Request
  pub first : slice_get (get_or queues o.session []) 0 ≡ Some request
  pub seq : o.seq ≡ (asked_by request).seq

-- The turn

module _ (ground : Ground) (lists : List (List Command)) (run : RunView) (batch : List Request) (held : List ℕ) (more : List Record)
    (outcomes : List Resolved) (p : IsPlayed ground lists run) (fronts : IsBatchOf run.queues batch)
    (e : IsHeldEpoch ground run.records batch held more outcomes) where
  -- the state that has taken the batch
  abbrev here : State
  here = taken p.state batch

  -- a request of the batch is the first of its session's queue
  batch-front : (r : Request) → Contains batch r → slice_get (queue_at run (session_by r)) 0 ≡ Some r
  batch-front r has = front-of run.queues batch fronts r has

  front-at : (n : ℕ) (r : Request) → slice_get (queue_at run n) 0 ≡ Some r → IsFront (commands_at lists n) (player_at run n) r
  front-at n r at = queue-front (commands_at lists n) n (player_at run n) (queue_at run n) r (p.sessions n) at

  next-at : (n : ℕ) (r : Request) → slice_get (queue_at run n) 0 ≡ Some r → next_of (p.state.book.seats n) ≡ Some (asked_by r)
  next-at n r at = seat-next (commands_at lists n) (player_at run n) (p.state.book.seats n) (p.stands.seats n) ∙ (front-at n r at).next

  there : (n : ℕ) (r : Request) → slice_get (queue_at run n) 0 ≡ Some r → n < ground.start.sessions
  there n r at = let less = queue-there run.queues n r at in let all = p.queues in omega arith

  may-take : (r : Request) → Contains batch r → MayTake p.state r
  may-take r has =
      let at = batch-front r has in
      record {
        here = (let less = there (session_by r) r at in let s = ap (λ (x : Setup). x.sessions) p.stands.setup in omega arith);
        some = ap is_some (next-at (session_by r) r at);
      }

  taking : Run p.state (takes_of batch) here
  taking = takes-run p.state batch p.stands.phase (λ n. (p.stands.seats n).stand) fronts.once may-take

  in-batch : (n : ℕ) (o : Option Request) → find (λ r. session_by r == n) batch ≡ o → HasInBatch (record (p.state.book.seats n) { stand = stand_with o }) o
  in-batch n None is = refl
  in-batch n (Some r) is = (refl, next-at n r (sym (fronts.fronts n) ∙ is))

  has-batch : HasBatch ground run.records batch here
  has-batch = record {
    phase = p.stands.phase;
    setup = p.stands.setup;
    lines = p.stands.lines;
    places = p.stands.places;
    seats = λ n. in-batch n (find (λ r. session_by r == n) batch) refl;
  }

  here-kept : IsKept here
  here-kept = run-kept p.state (takes_of batch) here taking (played-kept ground lists run p)

  whole : Run here (steps_of e) (turned here e.final) × (e.final.phase ≡ Serially)
  whole = epoch-run ground run.records batch here here-kept has-batch held more outcomes e

  -- the state as the tail is done, and as the turn has ended
  abbrev tail_end : State
  tail_end = turned here e.final

  abbrev turn_end : State
  turn_end = record tail_end {
    book = record tail_end.book {
      seats = λ n. record (tail_end.book.seats n) { given = length (tail_end.book.seats n).replies; seen = length tail_end.book.lines };
    };
    phase = Collect;
    published = length tail_end.book.lines;
  }

  tail-kept : IsKept tail_end
  tail-kept = run-kept here (steps_of e) tail_end whole.0 here-kept

  publishes : Happens tail_end Step.Publish turn_end
  publishes = record { phase = whole.1; done = e.done; after = refl }

  -- nobody has anything out of the queue
  all-queued : (n : ℕ) → (e.final.book.seats n).stand ≡ Queued
  all-queued n = go (e.final.book.seats n).stand refl
    where
      not-cells : e.final.phase ≢ Cells
      not-cells c = absurd (let w : Serially ≡ Cells = sym whole.1 ∙ c in cc)

      go : (x : Stand) → (e.final.book.seats n).stand ≡ x → (e.final.book.seats n).stand ≡ Queued
      go Queued is = is
      go InBatch is = absurd (epoch-free ground run.records batch held more outcomes e n is)
      go Undecided is = absurd ((tail-kept.outside not-cells n).0 is)
      go InLog is = absurd ((tail-kept.outside not-cells n).1 is)
      go InTail is = absurd (e.done n is)

  -- who has no request in its queue is told nothing
  told-nothing : (n : ℕ) → slice_get (queue_at run n) 0 ≡ None → (e.final.book.seats n).replies ≡ []
  told-nothing n none =
      let few = (tail-kept.book.account.seats n).few in
      let both = length-append (p.state.book.seats n).replies (e.final.book.seats n).replies in
      let old = seat-replies (commands_at lists n) (player_at run n) (p.state.book.seats n) (p.stands.seats n) in
      let asked = ap length (p.stands.seats n).asked in
      let given = given-length (commands_at lists n) (player_at run n) (p.sessions n).plays in
      let open_requests = queue-length (commands_at lists n) n (player_at run n) (queue_at run n) (p.sessions n) in
      let empty = ap length (none-first (queue_at run n) none) in
      nil_from_length (e.final.book.seats n).replies (omega arith)

  answered-of : (o : Resolved) → Contains outcomes o → IsAnswered run.queues o
  answered-of o has =
      let known = (e.each o has).0 in record {
        request = known.0;
        first = ap (λ (n : ℕ). slice_get (queue_at run n) 0) known.2.0 ∙ batch-front known.0 known.1;
        seq = known.2.1;
      }

  -- what becomes of a session, and of its seat
  abbrev Becomes : ℕ → Type 0
  Becomes n =
      IsSession (commands_at lists n) n (player_in (fold told_player run.players outcomes) n) (drop 1 (queue_at run n))
      × IsSeatOf (commands_at lists n) (player_in (fold told_player run.players outcomes) n) (turn_end.book.seats n)

  becomes-told : (o : Resolved) → Contains outcomes o → Becomes o.session
  becomes-told o has =
      let n : ℕ = o.session in
      let a = answered-of o has in
      let front = front-at n a.request a.first in
      let less = there n a.request a.first in
      let all = p.players in
      let said = (e.each o has).1 in
      let x : Seat = p.state.book.seats n in
      let is = told-here run.players outcomes o e.once has (omega arith) in (
        subst (λ (y : PlayerView). IsSession (commands_at lists n) n y (drop 1 (queue_at run n))) (sym is)
            (session-replied (commands_at lists n) n (player_at run n) o.outcome front.some (queue_at run n) (p.sessions n)),
        subst (λ (y : PlayerView). IsSeatOf (commands_at lists n) y (turn_end.book.seats n)) (sym is)
            (seat-replied (commands_at lists n) n (player_at run n) o.outcome front.some x (turn_end.book.seats n) said.knew (p.stands.seats n) refl
            (ap (λ (rs : List Known). x.replies ++ rs) said.replies) refl (all-queued n)),
      )

  becomes-same : (n : ℕ) → slice_get (queue_at run n) 0 ≡ None → Becomes n
  becomes-same n none =
      let x : Seat = p.state.book.seats n in
      let is = told-other run.players outcomes n
      (λ o has same. absurd
      (let a = answered-of o has in
      let w : None ≡ Some a.request = sym none ∙ ap (λ (m : ℕ). slice_get (queue_at run m) 0) (sym same) ∙ a.first in cc)) in (
        subst (λ (y : PlayerView). IsSession (commands_at lists n) n y (drop 1 (queue_at run n))) (sym is)
            (session-waits (commands_at lists n) n (player_at run n) (queue_at run n) (p.sessions n) none),
        subst (λ (y : PlayerView). IsSeatOf (commands_at lists n) y (turn_end.book.seats n)) (sym is)
            (seat-waits (commands_at lists n) (player_at run n) x (turn_end.book.seats n) (p.stands.seats n) refl
            (ap (λ (rs : List Known). x.replies ++ rs) (told-nothing n none) ∙ append-nil x.replies) refl (all-queued n)),
      )

  becomes : (n : ℕ) → Becomes n
  becomes n = go (slice_get (queue_at run n) 0) refl
    where
      go : (o : Option Request) → slice_get (queue_at run n) 0 ≡ o → Becomes n
      go None is = becomes-same n is
      go (Some r) is =
          let found = find-some session_by batch n r (fronts.fronts n ∙ is) in
          let told_it = e.all r found.1 in
          subst Becomes (told_it.2.0 ∙ found.0) (becomes-told told_it.0 told_it.1)

  pub played-turn : AreRight ground.opening ground.specs ground.start more → IsPlayed ground lists (told run more outcomes)
  played-turn right = record {
    given = p.given;
    right = right;
    players = length-told run.players outcomes ∙ p.players;
    queues = length-map run.queues (drop 1) ∙ p.queues;
    sessions = λ n. subst (λ (q : List Request). IsSession (commands_at lists n) n (player_in (fold told_player run.players outcomes) n) q)
        (sym (rest-at run.queues n)) (becomes n).0;
    steps = p.steps ++ (takes_of batch ++ (steps_of e ++ Step.Publish ∷ []));
    state = turn_end;
    ran = ran-more ground lists run p (takes_of batch ++ (steps_of e ++ Step.Publish ∷ [])) turn_end
        (run-append p.state here turn_end (takes_of batch) (steps_of e ++ Step.Publish ∷ []) taking
        (run-append here tail_end turn_end (steps_of e) (Step.Publish ∷ []) whole.0 (run-one tail_end Step.Publish turn_end publishes)));
    stands = record {
      setup = epoch-setup ground run.records batch held more outcomes e;
      seats = λ n. (becomes n).1;
      lines = e.lines;
      places = e.places;
      phase = refl;
      published = ap length e.lines;
    };
  }

  -- no outcome of a turn is closed
  not-closed : (o : Resolved) → Contains outcomes o → o.outcome ≢ outcome.Closed
  not-closed o has closed =
      let n : ℕ = o.session in
      let a = answered-of o has in
      let said = (e.each o has).1 in
      let x : Seat = p.state.book.seats n in
      let known : Known = record { reply = Reply o.outcome; knew = said.knew } in
      let can = (kept-legal tail_end tail-kept).kinds.kinds n (length x.replies) (asked_by a.request) (Reply o.outcome) (next-at n a.request a.first)
      (slice_get-map (λ (k : Known). k.reply) (x.replies ++ (e.final.book.seats n).replies) (length x.replies) known
      (ap (λ (rs : List Known). slice_get (x.replies ++ rs) (length x.replies)) said.replies ∙ at-middle x.replies [] known)) in
      never-closed (asked_by a.request).command (subst (λ (y : Outcome). IsTrue (can_have (asked_by a.request).command (Reply y))) closed can)

  pub outcome-fits : (before rest : List Resolved) (o : Resolved) → outcomes ≡ before ++ o ∷ rest → Fits (fold told_player run.players before) o
  outcome-fits before rest o is =
      let n : ℕ = o.session in
      let has : Contains outcomes o = subst (λ (xs : List Resolved). Contains xs o) (sym is) (Contains-append_right before (o ∷ rest) o (Contains-first o rest)) in
      let a = answered-of o has in
      let front = front-at n a.request a.first in
      let less = there n a.request a.first in
      let all = p.players in
      let long = length-told run.players before in
      let same = told-other run.players before n
      (λ x earlier. once-before (λ (z : Resolved). z.session) before rest x o
      (subst (λ (xs : List Resolved). EachOnce (map (λ (z : Resolved). z.session) xs)) is e.once) earlier) in
      record {
        here = omega arith;
        oldest = a.seq ∙ front.oldest ∙ ap (λ (y : PlayerView). length y.log) (sym same);
        some = subst (λ (y : PlayerView). 1 ≤ y.open_requests) (sym same) front.some;
        kept = not-closed o has;
      }
