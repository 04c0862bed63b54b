-- A run begins, its sessions submit requests, and their questions are answered.
use Rattle.std.proofs.Common.{◌≡◌, ◌≢◌, ℕ, zero, suc, ◌+◌, ◌<◌, ◌≤◌, inl, inr, List, [], ◌∷◌, ◌++◌, length, map, take, get_or, set, Option, Some, Result, Err, arith, refl, sym, subst, ap, ◌∙◌, unwrap_or}
use Rattle.std.specs.List.{All, list_any, slice_get}
use Rattle.std.proofs.lemmas.List.{length-set, length-map, set-get_or}
use Rattle.std.proofs.lemmas.List.Elements.{All-get_or, All-nil}
use Rattle.std.proofs.lemmas.Option.{get_or_from_slice_get, slice_get_within}
use Rattle.ris_base.specs.Answers.{Answers, IsAskable, IsBare, Setup, place_asked, question_of}
use Rattle.ris_base.specs.Epoch.{Ground, places_of}
use Rattle.ris_base.specs.Forest.{Forest}
use Rattle.ris_base.specs.Legal.{Asked}
use Rattle.ris_base.specs.Lines.{front}
use Rattle.ris_base.specs.Lists.{numbers_below}
use Rattle.ris_base.specs.Machine.{Happens, MayRead, Run, State, Step, Submits, asked_by, asked_more, empty_seat, forests_of, is_leave, next_seq, opened, read_seat, seated, session_by}
use Rattle.ris_base.specs.Records.{AreRight, forests_after, forests_at, lines_of, opening_forests, setup_for}
use Rattle.ris_base.specs.Requests.{after}
use Rattle.ris_base.specs.Shape.{EndsByLeave, IsCommandFor}
use Rattle.ris_base.specs.Transcript.{numbered_from}
use Rattle.ris_base.specs.declared.commands.Command.{Command}
use Rattle.ris_base.specs.declared.commands.Command.TheVariants as command
use Rattle.ris_base.specs.declared.lines.Line.{Line}
use Rattle.ris_base.specs.declared.records.Record.{Record}
use Rattle.ris_base.specs.declared.records.Start.{Start}
use Rattle.ris_base.specs.declared.replies.LogLine.{LogLine}
use Rattle.ris_base.specs.declared.replies.LogLine.TheVariants.{Denied}
use Rattle.ris_base.specs.declared.replies.ReadAnswer.{ReadAnswer}
use Rattle.ris_base.specs.declared.replies.ReadRefusal.{ReadRefusal}
use Rattle.ris_base.specs.declared.replies.ReadRefusal.TheVariants as denial
use Rattle.ris_base.specs.declared.requests.Question.{Question}
use Rattle.ris_base.specs.declared.requests.Question.TheVariants as question
use Rattle.ris_base.specs.declared.requests.Request.{Request}
use Rattle.ris_base.proofs.LineLemmas.{take-all}
use Rattle.ris_base.proofs.NumbersBelow.{slice_get-numbers_below}
use Rattle.ris_legal.specs.Held.{IsKept}
use Rattle.ris_legal.proofs.Lists.{slice_get-map}
use Rattle.ris_legal.proofs.Steps.{opened-state, run-kept}
use Rattle.ris_session.specs.PlayerView.{PlayerView, Plays, after_answer, after_next, given_of, line_of, next_number, player_of, step_of}
use Rattle.ris_session.specs.declared.players.Next.TheVariants as step
use Rattle.ris_session.proofs.PlayerLaws.{Asks, Plays-player_of, given_of-after_next, slice_get-drop, step_of-ask, step_of-submit}
use Rattle.ris_rounds.specs.Rounds.{IsGiven, IsPlayed, IsReadOf, IsSeatOf, IsSession, RunView, answered, commands_at, player_at, player_in, players_from, queue_at, started, submitted}
use Rattle.ris_legal.proofs.Telling.{answers-more}
use Rattle.ris_legal.proofs.Turns.{run-append}
use Rattle.ris_rounds.proofs.Batches.{run-one}
use Rattle.ris_rounds.proofs.Lists.{next_seq-numbered, no-leave, length-numbered_from, numbered-seq}
use Rattle.ris_rounds.proofs.Sessions.{given-length, seat-last, seat-read, seat-submit, seats-put, session-read, session-submit, sessions-put}

-- The first state

-- fresh players by their places
player-from : (k : ℕ) (lists : List (List Command)) (n m : ℕ) → m ≡ k + n → get_or (players_from k lists) n (player_of m []) ≡ player_of m (get_or lists n [])
unfolding players_from
player-from k [] n m is = refl
player-from k (commands ∷ lists) zero m is = let same : k ≡ m = omega arith in ap (λ (j : ℕ). player_of j commands) same
player-from k (commands ∷ lists) (suc n) m is = player-from (k + 1) lists n m (omega arith)

queue-from : (lists : List (List Command)) (n : ℕ) → ◌≡◌ {A = List Request} (get_or (map (λ (commands : List Command). []) lists) n []) []
queue-from [] n = refl
queue-from (commands ∷ lists) zero = refl
queue-from (commands ∷ lists) (suc n) = queue-from lists n

length-players : (k : ℕ) (lists : List (List Command)) → length (players_from k lists) ≡ length lists
unfolding players_from
length-players k [] = refl
length-players k (commands ∷ lists) = ap suc (length-players (k + 1) lists)

fresh-session : (n : ℕ) (commands : List Command) → IsSession commands n (player_of n commands) []
unfolding numbered_from
fresh-session n commands = record { session = refl; plays = Plays-player_of n commands; queued = refl; own = All-nil (λ r. session_by r ≡ n) }

fresh-seat : (n : ℕ) (commands : List Command) → IsSeatOf commands (player_of n commands) empty_seat
unfolding numbered_from
fresh-seat n commands = record { asked = refl; replies = refl; given = refl; stand = refl }

no-records : (ground : Ground) (lists : List (List Command)) → IsGiven ground lists → AreRight ground.opening ground.specs ground.start []
unfolding after front forests_after
no-records ground lists h = record {
  some = h.some;
  few = h.few;
  sessions = All-nil _;
  each = λ i r at. absurd (let w = slice_get_within [] i r at in omega arith);
  forests = λ v less. h.opening.right;
}

first-places : (start : Start) → opening_forests start ∷ [] ≡ places_of start []
unfolding numbers_below front forests_after
first-places start = refl

pub played-start : (ground : Ground) (lists : List (List Command)) → IsGiven ground lists → IsPlayed ground lists (started lists)
unfolding Run
played-start ground lists h = record {
  given = h;
  right = no-records ground lists h;
  players = length-players 0 lists ∙ h.one_each;
  queues = length-map lists (λ (commands : List Command). []) ∙ h.one_each;
  sessions = λ n. subst (λ (p : PlayerView). IsSession (commands_at lists n) n p (queue_at (started lists) n)) (sym (player-from 0 lists n n (omega arith)))
      (subst (λ (q : List Request). IsSession (commands_at lists n) n (player_of n (commands_at lists n)) q) (sym (queue-from lists n)) (fresh-session n (commands_at lists n)));
  steps = [];
  state = opened (setup_for ground.opening ground.specs ground.start) (opening_forests ground.start);
  ran = refl;
  stands = record {
    setup = refl;
    seats = λ n. subst (λ (p : PlayerView). IsSeatOf (commands_at lists n) p empty_seat) (sym (player-from 0 lists n n (omega arith))) (fresh-seat n (commands_at lists n));
    lines = refl;
    places = first-places ground.start;
    phase = refl;
    published = refl;
  };
}

-- the state of a run keeps what each state of the machine keeps
pub played-kept : (ground : Ground) (lists : List (List Command)) (run : RunView) (p : IsPlayed ground lists run) → IsKept p.state
played-kept ground lists run p =
    run-kept (opened (setup_for ground.opening ground.specs ground.start) (opening_forests ground.start)) p.steps p.state p.ran
    (opened-state (setup_for ground.opening ground.specs ground.start) (opening_forests ground.start) p.given.opening.proper p.given.opening.right)

-- one step more of the machine
pub ran-more : (ground : Ground) (lists : List (List Command)) (run : RunView) (p : IsPlayed ground lists run) (more : List Step) (new : State) → Run p.state more new
    → Run (opened (setup_for ground.opening ground.specs ground.start) (opening_forests ground.start)) (p.steps ++ more) new
ran-more ground lists run p more new h =
    run-append (opened (setup_for ground.opening ground.specs ground.start) (opening_forests ground.start)) p.state new p.steps more p.ran h

-- A request

module _ (ground : Ground) (lists : List (List Command)) (run : RunView) (n : ℕ) (p : IsPlayed ground lists run) (less : n < ground.start.sessions) where
  -- the commands of the session end by a leave, if they have one
  ends : EndsByLeave (commands_at lists n)
  ends = let all = p.given.one_each in All-get_or EndsByLeave lists n [] (omega arith) p.given.leaving

  -- and name analyses that there are
  askable : All (IsCommandFor (length ground.specs)) (commands_at lists n)
  askable = let all = p.given.one_each in All-get_or (All (IsCommandFor (length ground.specs))) lists n [] (omega arith) p.given.askable

  -- the first command left is the next one of the list
  left-at : (c : Command) → slice_get (player_at run n).left 0 ≡ Some c → slice_get (commands_at lists n) (next_number (player_at run n)) ≡ Some c
  left-at c first =
      sym (slice_get-drop (next_number (player_at run n)) (commands_at lists n)) ∙ ap (λ (cs : List Command). slice_get cs 0) (sym (p.sessions n).plays.left) ∙ first

  session-there : n < p.state.setup.sessions
  session-there = let e = ap (λ (s : Setup). s.sessions) p.stands.setup in omega arith

  submits : (r : Request) → step_of (player_at run n) ≡ step.Submit r
      → Submits p.state n r (record p.state { book = seated p.state.book n (asked_more (p.state.book.seats n) (asked_by r)) })
  submits r e =
      let plays : Plays (commands_at lists n) (player_at run n) = (p.sessions n).plays in
      let is = given_of-after_next (commands_at lists n) (player_at run n) r plays e in
      let first = step_of-submit (player_at run n) r e in
      let seat : IsSeatOf (commands_at lists n) (player_at run n) (p.state.book.seats n) = p.stands.seats n in
      let all = given-length (commands_at lists n) (player_at run n) plays in
      record {
        here = session-there;
        named = is.session ∙ (p.sessions n).session;
        greater = λ q asked at.
            let here = ap (λ (cs : List Asked). slice_get cs q) (sym seat.asked) ∙ at in
            let number = numbered-seq 0 (take (next_number (player_at run n)) (commands_at lists n)) q asked here in
            let within = slice_get_within (given_of (commands_at lists n) (player_at run n)) q asked here in
            let last = is.number in omega arith;
        few = let given = seat.given in let some = ap length seat.asked in let few = first.few in omega arith;
        stays = ap (list_any is_leave) seat.asked
            ∙ no-leave 0 (commands_at lists n) (next_number (player_at run n)) first.command ends (left-at first.command first.first);
        after = refl;
      }

  pub played-submit : (r : Request) → step_of (player_at run n) ≡ step.Submit r → IsPlayed ground lists (submitted run n r)
  played-submit r e =
      let new : State = record p.state { book = seated p.state.book n (asked_more (p.state.book.seats n) (asked_by r)) } in
      let there = p.players in
      let waits = p.queues in
      record {
        given = p.given;
        right = p.right;
        players = length-set run.players n (after_next (player_at run n)) ∙ p.players;
        queues = length-set run.queues n (queue_at run n ++ r ∷ []) ∙ p.queues;
        sessions = sessions-put lists run.players run.queues n (after_next (player_at run n)) (queue_at run n ++ r ∷ []) (omega arith) (omega arith)
            (session-submit (commands_at lists n) n (player_at run n) r e (queue_at run n) (p.sessions n)) p.sessions;
        steps = p.steps ++ Step.Submit n r ∷ [];
        state = new;
        ran = ran-more ground lists run p (Step.Submit n r ∷ []) new (run-one p.state (Step.Submit n r) new (submits r e));
        stands = record {
          setup = p.stands.setup;
          seats = seats-put lists run.players p.state.book.seats n (after_next (player_at run n)) (asked_more (p.state.book.seats n) (asked_by r)) (omega arith)
              (seat-submit (commands_at lists n) n (player_at run n) r e (p.state.book.seats n) (p.sessions n).plays (p.stands.seats n)) p.stands.seats;
          lines = p.stands.lines;
          places = p.stands.places;
          phase = p.stands.phase;
          published = p.stands.published;
        };
      }

-- An answer

-- a right answer is none that is shut out
pub read-fits : (ground : Ground) (records : List Record) (asked : Question) (reply : Result ReadAnswer ReadRefusal) → IsReadOf ground records asked (line_of reply)
    → reply ≢ Err denial.Shut
read-fits ground records asked reply h is =
    elim (subst (λ (x : Result ReadAnswer ReadRefusal). IsReadOf ground records asked (line_of x)) is h) [
      | inl a ↦ never asked a.bare
      | inr w ↦ absurd (let no : Denied denial.Shut ≡ Denied denial.NoMemory = w.0 in cc)
    ]
  where
    never : (q : Question) → IsBare (setup_for ground.opening ground.specs ground.start) (lines_of records) q (Denied denial.Shut) → ⊥
    never (question.Value v a x) b = b
    never (question.Parent v a x) b = b
    never (question.Path v a x) b = b
    never (question.Modified v a) b = b
    never question.Current b = b

-- the forests of a place of records, as a book has them
place-is : (start : Start) (records : List Record) (v : ℕ) → v ≤ front (lines_of records)
    → unwrap_or (slice_get (places_of start records) v) [] ≡ forests_at start records v
place-is start records v le =
    ap (λ (o : Option (List Forest)). unwrap_or o [])
    (slice_get-map (forests_at start records) (numbers_below (front (lines_of records) + 1)) v v (slice_get-numbers_below (front (lines_of records) + 1) v (omega arith)))

-- the question of a command for these analyses asks for one of them
askable-for : (setup : Setup) (c : Command) (last : ℕ) (q : Question) → IsCommandFor (length setup.specs) c → question_of c last ≡ Some q → IsAskable setup q
askable-for setup c last q h is = go c h is
  where
    put : (x : Question) → x ≡ q → IsAskable setup x → IsAskable setup q
    put x same a = subst (IsAskable setup) same a

    go : (c : Command) → IsCommandFor (length setup.specs) c → question_of c last ≡ Some q → IsAskable setup q
    go (command.Change parts) h is = absurd (cc)
    go (command.Release upto) h is = absurd (cc)
    go command.Leave h is = absurd (cc)
    go (command.Value version a x) h is = put (question.Value (place_asked version last) a x) (cc) h
    go (command.Parent version a x) h is = put (question.Parent (place_asked version last) a x) (cc) h
    go (command.Path version a x) h is = put (question.Path (place_asked version last) a x) (cc) h
    go (command.Modified version a) h is = put (question.Modified (place_asked version last) a) (cc) h
    go command.Current h is = put question.Current (cc) tt

-- a question that is the next step of a session asks for an analysis that exists
pub asked-askable : (ground : Ground) (lists : List (List Command)) (run : RunView) (n : ℕ) (asked : Question) → IsPlayed ground lists run
    → n < ground.start.sessions → step_of (player_at run n) ≡ step.Ask asked → IsAskable (setup_for ground.opening ground.specs ground.start) asked
asked-askable ground lists run n asked p less e =
    let commands : List Command = commands_at lists n in
    let k : ℕ = next_number (player_at run n) in
    let first = step_of-ask (player_at run n) asked e in
    let at = left-at ground lists run n p less first.command first.first in
    askable-for (setup_for ground.opening ground.specs ground.start) first.command (player_at run n).last asked
    (subst (IsCommandFor (length ground.specs)) (get_or_from_slice_get commands k first.command first.command at)
    (All-get_or (IsCommandFor (length ground.specs)) commands k first.command (slice_get_within commands k first.command at)
    (askable ground lists run n p less)))
    first.asked

module _ (ground : Ground) (lists : List (List Command)) (run : RunView) (n : ℕ) (asked : Question) (reply : Result ReadAnswer ReadRefusal)
    (p : IsPlayed ground lists run) (less : n < ground.start.sessions) (e : step_of (player_at run n) ≡ step.Ask asked) where
  abbrev player : PlayerView
  player = player_at run n

  abbrev commands : List Command
  commands = commands_at lists n

  abbrev setup : Setup
  setup = setup_for ground.opening ground.specs ground.start

  abbrev first : Asks (player_at run n) asked
  first = step_of-ask (player_at run n) asked e

  -- the read with its number
  abbrev read : Asked
  read = record { seq = next_number player; command = first.command }

  -- the state behind it
  abbrev read_state : LogLine → State
  read_state line = record p.state { book = seated p.state.book n (read_seat p.state (p.state.book.seats n) read line) }

  may : MayRead p.state n read asked
  may =
      let plays : Plays commands player = (p.sessions n).plays in
      let seat : IsSeatOf commands player (p.state.book.seats n) = p.stands.seats n in
      let all = given-length commands player plays in
      let none = first.none in
      record {
        here = session-there ground lists run n p less;
        none_open = let given = seat.given in let some = ap length seat.asked in omega arith;
        seq = let same = ap next_seq seat.asked in
            let next = next_seq-numbered (take (next_number player) commands) in
            let count = length-numbered_from 0 (take (next_number player) commands) in omega arith;
        asks = ap (question_of first.command) (seat-last commands player (p.state.book.seats n) plays seat) ∙ first.asked;
        askable = subst (λ (s : Setup). IsAskable s asked) (sym p.stands.setup) (asked-askable ground lists run n asked p less e);
      }

  state-answers : (line : LogLine) → Answers setup (lines_of run.records) (forests_at ground.start run.records) asked line
      → Answers p.state.setup (take p.state.published p.state.book.lines) (forests_of p.state.book) asked line
  state-answers line h =
      let lines : take p.state.published p.state.book.lines ≡ lines_of run.records =
      ap (λ (k : ℕ). take k p.state.book.lines) p.stands.published ∙ ap (take (length (lines_of run.records))) p.stands.lines ∙ take-all (lines_of run.records) in
      subst (λ (s : Setup). Answers s (take p.state.published p.state.book.lines) (forests_of p.state.book) asked line) (sym p.stands.setup)
      (subst (λ (ls : List Line). Answers setup ls (forests_of p.state.book) asked line) (sym lines)
      (subst (λ (ps : List (List Forest)). Answers setup (lines_of run.records) (λ v. unwrap_or (slice_get ps v) []) asked line) (sym p.stands.places)
      (answers-more setup (lines_of run.records) (forests_at ground.start run.records) (λ v. unwrap_or (slice_get (places_of ground.start run.records) v) [])
      (place-is ground.start run.records) asked line h)))

  after-read : (next : Step) → Happens p.state next (read_state (line_of reply)) → IsPlayed ground lists (answered run n reply)
  after-read next h =
      let there = p.players in
      let waits = p.queues in
      record {
        given = p.given;
        right = p.right;
        players = length-set run.players n (after_answer player reply) ∙ p.players;
        queues = p.queues;
        sessions = subst (λ (qs : List (List Request)). (m : ℕ) → IsSession (commands_at lists m) m (player_in (set run.players n (after_answer player reply)) m) (get_or qs m []))
            (set-get_or run.queues n [])
            (sessions-put lists run.players run.queues n (after_answer player reply) (queue_at run n) (omega arith) (omega arith)
            (session-read commands n player asked reply e (queue_at run n) (p.sessions n)) p.sessions);
        steps = p.steps ++ next ∷ [];
        state = read_state (line_of reply);
        ran = ran-more ground lists run p (next ∷ []) (read_state (line_of reply)) (run-one p.state next (read_state (line_of reply)) h);
        stands = record {
          setup = p.stands.setup;
          seats = seats-put lists run.players p.state.book.seats n (after_answer player reply) (read_seat p.state (p.state.book.seats n) read (line_of reply)) (omega arith)
              (seat-read commands n player asked reply e (p.state.book.seats n) p.state.published p.state.published (p.sessions n).plays (p.stands.seats n)) p.stands.seats;
          lines = p.stands.lines;
          places = p.stands.places;
          phase = p.stands.phase;
          published = p.stands.published;
        };
      }

  pub played-answer : IsReadOf ground run.records asked (line_of reply) → IsPlayed ground lists (answered run n reply)
  played-answer h = elim h [
    | inl a ↦ after-read (Step.Read n asked)
        (record { asked = read; reply = line_of reply; may = may; answers = state-answers (line_of reply) a; after = refl })
    | inr w ↦ after-read (Step.WantToRead n asked) (record { asked = read; may = may; may_want = w.1; after = ap read_state w.0 })
  ]
