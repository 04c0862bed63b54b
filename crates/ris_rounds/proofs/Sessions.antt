-- What each call of a player makes of its session, its queue and its seat.
use Rattle.std.proofs.Common.{◌≡◌, ℕ, zero, suc, ◌+◌, ◌<◌, ◌≤◌, inl, inr, List, [], ◌∷◌, ◌++◌, length, map, take, drop, get_or, set, Option, Some, None, Result, arith, length-append, refl, sym, subst, ap, ◌∙◌, get_or-set_same, get_or-set_other}
use Rattle.std.specs.List.{fold, slice_get}
use Rattle.std.proofs.lemmas.Bool.{cases_eq}
use Rattle.std.proofs.lemmas.List.{drop-append-le, drop-map, length-drop, length-map, length-take-le, map-append, nil_from_length}
use Rattle.std.proofs.lemmas.List.Elements.{All-append, All-cons, All-drop, All-nil}
use Rattle.std.proofs.lemmas.Option.{slice_get_within}
use Rattle.ris_base.specs.Legal.{Asked}
use Rattle.ris_base.specs.Machine.{Known, Queued, Seat, asked_by, asked_more, last_placed, next_of, session_by, with_seat}
use Rattle.ris_base.specs.Replies.{placed_or}
use Rattle.ris_base.specs.declared.commands.Command.{Command}
use Rattle.ris_base.specs.declared.replies.LogLine.{LogLine}
use Rattle.ris_base.specs.declared.replies.LogLine.TheVariants.{Reply}
use Rattle.ris_base.specs.declared.replies.Outcome.{Outcome}
use Rattle.ris_base.specs.declared.replies.ReadAnswer.{ReadAnswer}
use Rattle.ris_base.specs.declared.replies.ReadRefusal.{ReadRefusal}
use Rattle.ris_base.specs.declared.requests.Question.{Question}
use Rattle.ris_base.specs.declared.requests.Request.{Request}
use Rattle.ris_legal.proofs.Lists.{slice_get-map, slice_get_some}
use Rattle.ris_legal.proofs.Sealing.{with_seat-here, with_seat-other}
use Rattle.ris_session.specs.PlayerView.{PlayerView, Plays, after_answer, after_next, after_reply, after_step, given_of, line_of, next_number, next_question, next_request, player_of, step_by, step_of}
use Rattle.ris_session.specs.declared.players.Next.{Next}
use Rattle.ris_session.specs.declared.players.Next.TheVariants as step
use Rattle.ris_session.proofs.PlayerLaws.{Asks, Plays-after_answer, Plays-after_next, Plays-after_reply, drop-more, given_of-after_answer, given_of-after_next, given_of-after_reply, slice_get-drop, step_of-ask}
use Rattle.ris_rounds.specs.Rounds.{IsSeatOf, IsSession, commands_at, player_in}
use Rattle.ris_rounds.proofs.Lists.{length-numbered_from, none-first, numbered-seq}

-- One session changed

-- where session n has another player and queue, what holds of these and of all others holds of all
pub sessions-put : (lists : List (List Command)) (players : List PlayerView) (queues : List (List Request)) (n : ℕ) (p : PlayerView) (q : List Request)
    → n < length players → n < length queues → IsSession (commands_at lists n) n p q
    → ((m : ℕ) → IsSession (commands_at lists m) m (player_in players m) (get_or queues m []))
    → (m : ℕ) → IsSession (commands_at lists m) m (player_in (set players n p) m) (get_or (set queues n q) m [])
sessions-put lists players queues n p q there waits here each m = elim (cases_eq m n) [
  | inl same ↦ subst (λ (k : ℕ). IsSession (commands_at lists k) k (player_in (set players n p) k) (get_or (set queues n q) k [])) (sym same)
      (subst (λ (x : PlayerView). IsSession (commands_at lists n) n x (get_or (set queues n q) n [])) (sym (get_or-set_same players n p (player_of n []) there))
      (subst (λ (x : List Request). IsSession (commands_at lists n) n p x) (sym (get_or-set_same queues n q [] waits)) here))
  | inr other ↦ subst (λ (x : PlayerView). IsSession (commands_at lists m) m x (get_or (set queues n q) m [])) (sym (get_or-set_other players n m p (player_of m []) other))
      (subst (λ (x : List Request). IsSession (commands_at lists m) m (player_in players m) x) (sym (get_or-set_other queues n m q [] other)) (each m))
]

-- and so of seats
pub seats-put : (lists : List (List Command)) (players : List PlayerView) (seats : ℕ → Seat) (n : ℕ) (p : PlayerView) (x : Seat)
    → n < length players → IsSeatOf (commands_at lists n) p x → ((m : ℕ) → IsSeatOf (commands_at lists m) (player_in players m) (seats m))
    → (m : ℕ) → IsSeatOf (commands_at lists m) (player_in (set players n p) m) (with_seat seats n x m)
seats-put lists players seats n p x there here each m = elim (cases_eq m n) [
  | inl same ↦ subst (λ (k : ℕ). IsSeatOf (commands_at lists k) (player_in (set players n p) k) (with_seat seats n x k)) (sym same)
      (subst (λ (y : PlayerView). IsSeatOf (commands_at lists n) y (with_seat seats n x n)) (sym (get_or-set_same players n p (player_of n []) there))
      (subst (λ (y : Seat). IsSeatOf (commands_at lists n) p y) (sym (with_seat-here seats n x)) here))
  | inr other ↦ subst (λ (y : PlayerView). IsSeatOf (commands_at lists m) y (with_seat seats n x m)) (sym (get_or-set_other players n m p (player_of m []) other))
      (subst (λ (y : Seat). IsSeatOf (commands_at lists m) (player_in players m) y) (sym (with_seat-other seats n x m other)) (each m))
]

-- Queues and seats

-- as many commands are given as have a reply or are open
pub given-length : (commands : List Command) (p : PlayerView) → Plays commands p → length (given_of commands p) ≡ next_number p
given-length commands p h =
    let all = h.count in
    length-numbered_from 0 (take (next_number p) commands) ∙ length-take-le (next_number p) commands (omega arith)

-- the queue has the open requests
pub queue-length : (commands : List Command) (n : ℕ) (p : PlayerView) (q : List Request) → IsSession commands n p q → length q ≡ p.open_requests
queue-length commands n p q h =
    let mapped = length-map q asked_by in
    let same = ap length h.queued in
    let rest = length-drop (length p.log) (given_of commands p) in
    let given = given-length commands p h.plays in
    omega arith

-- the first request of a queue is the next command without a reply, and its number is that of the log's lines
pub record IsFront (commands : List Command) (p : PlayerView) (r : Request) : Type 0 where
  pub next : slice_get (given_of commands p) (length p.log) ≡ Some (asked_by r)
  pub oldest : (asked_by r).seq ≡ length p.log
  pub some : 1 ≤ p.open_requests

pub queue-front : (commands : List Command) (n : ℕ) (p : PlayerView) (q : List Request) (r : Request) → IsSession commands n p q → slice_get q 0 ≡ Some r
    → IsFront commands p r
queue-front commands n p q r h first =
    let given : List Asked = given_of commands p in
    let k : ℕ = length p.log in
    let here : slice_get given k ≡ Some (asked_by r) =
    sym (slice_get-drop k given) ∙ ap (λ (xs : List Asked). slice_get xs 0) (sym h.queued) ∙ slice_get-map asked_by q 0 r first in
    let number = numbered-seq 0 (take (next_number p) commands) k (asked_by r) here in
    let within = slice_get_within given k (asked_by r) here in
    let all = given-length commands p h.plays in
    record { next = here; oldest = omega arith; some = omega arith }

-- a session that awaits a reply has a request in its queue
step_by-await : (n : ℕ) (made : Option Request) (asked : Option Question) → step_by n made asked ≡ step.Await → 1 ≤ n
step_by-await zero (Some r) asked e = absurd (let w : step.Submit r ≡ step.Await = e in cc)
step_by-await zero None (Some question) e = absurd (let w : step.Ask question ≡ step.Await = e in cc)
step_by-await zero None None e = absurd (let w : step.Done ≡ step.Await = e in cc)
step_by-await (suc n) made asked e = omega arith

pub await-front : (commands : List Command) (n : ℕ) (p : PlayerView) (q : List Request) → IsSession commands n p q → step_of p ≡ step.Await
    → (r : Request) × (slice_get q 0 ≡ Some r)
await-front commands n p q h e =
    let some = step_by-await p.open_requests (next_request p) (next_question p) e in
    let all = queue-length commands n p q h in
    slice_get_some q 0 (omega arith)

-- a seat has as many replies as the log has lines
pub seat-replies : (commands : List Command) (p : PlayerView) (x : Seat) → IsSeatOf commands p x → length x.replies ≡ length p.log
seat-replies commands p x h = sym (length-map x.replies (λ (k : Known). k.reply)) ∙ ap length h.replies

-- and the oldest command without a reply is that of the queue
pub seat-next : (commands : List Command) (p : PlayerView) (x : Seat) → IsSeatOf commands p x → next_of x ≡ slice_get (given_of commands p) (length p.log)
seat-next commands p x h =
    ap (λ (cs : List Asked). slice_get cs (length x.replies)) h.asked ∙ ap (slice_get (given_of commands p)) (seat-replies commands p x h)

-- the place of the last accepted entry is the one that the log tells
placed-log : (last : ℕ) (replies : List Known) → last_placed last replies ≡ fold placed_or last (map (λ (k : Known). k.reply) replies)
unfolding last_placed
placed-log last [] = refl
placed-log last (k ∷ replies) = placed-log (placed_or last k.reply) replies

pub seat-last : (commands : List Command) (p : PlayerView) (x : Seat) → Plays commands p → IsSeatOf commands p x → last_placed 0 x.replies ≡ p.last
seat-last commands p x plays h = placed-log 0 x.replies ∙ ap (fold placed_or 0) h.replies ∙ sym plays.last

-- A request is submitted

module _ (commands : List Command) (n : ℕ) (p : PlayerView) (r : Request) (e : step_of p ≡ step.Submit r) where
  -- only what is left and open changes
  log-same : (after_next p).log ≡ p.log
  log-same = ap (λ (s : Next). (after_step s p).log) e

  pub session-submit : (q : List Request) → IsSession commands n p q → IsSession commands n (after_next p) (q ++ r ∷ [])
  session-submit q h =
      let is = given_of-after_next commands p r h.plays e in
      let all = given-length commands p h.plays in
      let given : List Asked = given_of commands p in
      record {
        session = ap (λ (s : Next). (after_step s p).session) e ∙ h.session;
        plays = Plays-after_next commands p h.plays;
        queued = map-append asked_by q (r ∷ []) ∙ ap (λ (xs : List Asked). xs ++ asked_by r ∷ []) h.queued
            ∙ sym (drop-append-le (length p.log) given (asked_by r ∷ []) (omega arith))
            ∙ ap (drop (length p.log)) (sym is.given)
            ∙ ap (λ (k : List LogLine). drop (length k) (given_of commands (after_next p))) (sym log-same);
        own = All-append (λ x. session_by x ≡ n) q (r ∷ []) h.own
            (All-cons (λ x. session_by x ≡ n) r [] (is.session ∙ h.session) (All-nil (λ x. session_by x ≡ n)));
      }

  pub seat-submit : (x : Seat) → Plays commands p → IsSeatOf commands p x → IsSeatOf commands (after_next p) (asked_more x (asked_by r))
  seat-submit x plays h =
      let is = given_of-after_next commands p r plays e in
      record {
        asked = ap (λ (cs : List Asked). cs ++ asked_by r ∷ []) h.asked ∙ sym is.given;
        replies = h.replies ∙ sym log-same;
        given = h.given ∙ ap length (sym log-same);
        stand = h.stand;
      }

-- A question is answered

module _ (commands : List Command) (n : ℕ) (p : PlayerView) (question : Question) (answer : Result ReadAnswer ReadRefusal)
    (e : step_of p ≡ step.Ask question) where
  -- the first command left is the read
  abbrev pub asks : Asks p question
  asks = step_of-ask p question e

  -- all commands that are given have replies, so the queue is empty
  pub read-queue : (q : List Request) → IsSession commands n p q → q ≡ []
  read-queue q h = nil_from_length q (queue-length commands n p q h ∙ asks.none)

  pub session-read : (q : List Request) → IsSession commands n p q → IsSession commands n (after_answer p answer) q
  session-read q h =
      let plays : Plays commands (after_answer p answer) = Plays-after_answer commands p question answer h.plays e in
      let all = given-length commands (after_answer p answer) plays in
      let none = asks.none in
      let rest = length-drop (length (after_answer p answer).log) (given_of commands (after_answer p answer)) in
      record {
        session = h.session;
        plays = plays;
        queued = ap (map asked_by) (read-queue q h)
            ∙ sym (nil_from_length (drop (length (after_answer p answer).log) (given_of commands (after_answer p answer))) (omega arith));
        own = h.own;
      }

  -- the seat with the read and its reply, all given
  pub seat-read : (x : Seat) (knew seen : ℕ) → Plays commands p → IsSeatOf commands p x
      → IsSeatOf commands (after_answer p answer) (record x {
        commands = x.commands ++ record { seq = next_number p; command = asks.command } ∷ [];
        replies = x.replies ++ record { reply = line_of answer; knew = knew } ∷ [];
        given = x.given + 1;
        seen = seen;
      })
  seat-read x knew seen plays h =
      let more = length-append p.log (line_of answer ∷ []) in
      let given = h.given in
      record {
        asked = ap (λ (cs : List Asked). cs ++ record { seq = next_number p; command = asks.command } ∷ []) h.asked
            ∙ sym (given_of-after_answer commands p asks.command answer plays asks.first);
        replies = map-append (λ (k : Known). k.reply) x.replies (record { reply = line_of answer; knew = knew } ∷ [])
            ∙ ap (λ (ls : List LogLine). ls ++ line_of answer ∷ []) h.replies;
        given = omega arith;
        stand = h.stand;
      }

-- The oldest request has its reply

module _ (commands : List Command) (n : ℕ) (p : PlayerView) (told : Outcome) (some : 1 ≤ p.open_requests) where
  pub session-replied : (q : List Request) → IsSession commands n p q → IsSession commands n (after_reply p told) (drop 1 q)
  session-replied q h =
      let more = length-append p.log (Reply told ∷ []) in
      let number : suc (length p.log) ≡ length (after_reply p told).log = omega arith in
      record {
        session = h.session;
        plays = Plays-after_reply commands p told h.plays some;
        queued = sym (drop-map asked_by 1 q) ∙ ap (drop 1) h.queued ∙ drop-more (length p.log) (given_of commands p)
            ∙ ap (λ (k : ℕ). drop k (given_of commands p)) number
            ∙ ap (drop (length (after_reply p told).log)) (sym (given_of-after_reply commands p told some));
        own = All-drop (λ x. session_by x ≡ n) 1 q h.own;
      }

  pub seat-replied : (x z : Seat) (knew : ℕ) → IsSeatOf commands p x → z.commands ≡ x.commands
      → z.replies ≡ x.replies ++ record { reply = Reply told; knew = knew } ∷ [] → z.given ≡ length z.replies → z.stand ≡ Queued
      → IsSeatOf commands (after_reply p told) z
  seat-replied x z knew h cs rs given stand =
      let replies : map (λ (k : Known). k.reply) z.replies ≡ (after_reply p told).log =
      ap (map (λ (k : Known). k.reply)) rs ∙ map-append (λ (k : Known). k.reply) x.replies (record { reply = Reply told; knew = knew } ∷ [])
      ∙ ap (λ (ls : List LogLine). ls ++ Reply told ∷ []) h.replies in
      record {
        asked = cs ∙ h.asked ∙ sym (given_of-after_reply commands p told some);
        replies = replies;
        given = given ∙ sym (length-map z.replies (λ (k : Known). k.reply)) ∙ ap length replies;
        stand = stand;
      }

-- No request has a reply

pub session-waits : (commands : List Command) (n : ℕ) (p : PlayerView) (q : List Request) → IsSession commands n p q → slice_get q 0 ≡ None
    → IsSession commands n p (drop 1 q)
session-waits commands n p q h first =
    let none = none-first q first in
    subst (λ (x : List Request). IsSession commands n p x) (none ∙ sym (ap (drop 1) none)) h

pub seat-waits : (commands : List Command) (p : PlayerView) (x z : Seat) → IsSeatOf commands p x → z.commands ≡ x.commands
    → z.replies ≡ x.replies → z.given ≡ length z.replies → z.stand ≡ Queued → IsSeatOf commands p z
seat-waits commands p x z h cs rs given stand = record {
  asked = cs ∙ h.asked;
  replies = ap (map (λ (k : Known). k.reply)) rs ∙ h.replies;
  given = given ∙ ap length rs ∙ seat-replies commands p x h;
  stand = stand;
}
