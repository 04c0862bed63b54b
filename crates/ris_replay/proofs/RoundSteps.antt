-- What the steps of one session make of a run in rounds.
use Rattle.std.proofs.Common.{◌≡◌, ◌≢◌, ℕ, zero, suc, ◌+◌, ◌<◌, ◌≤◌, ◌&&◌, inl, inr, Bool, true, false, List, [], ◌∷◌, ◌++◌, length, drop, get_or, set, Option, Some, None, Result, Ok, Err, arith, refl, sym, subst, ap, ◌∙◌, get_or-set_same, get_or-set_other}
use Rattle.std.specs.Prelude.{nat_lt, if◌then◌else◌}
use Rattle.std.specs.List.{list_all, list_any, slice_get}
use Rattle.std.proofs.lemmas.Bool.{cases_eq}
use Rattle.std.proofs.lemmas.List.{get_or_read, length-drop, length-set, set-get_or}
use Rattle.std.proofs.lemmas.List.Sums.{sum_by-set}
use Rattle.std.proofs.lemmas.Option.{slice_get_within}
use Rattle.ris_base.specs.Answers.{analysis_of, ExistsIn}
use Rattle.ris_base.specs.Epoch.{Ground}
use Rattle.ris_base.specs.Lists.{unless}
use Rattle.ris_base.specs.Machine.{may_want}
use Rattle.ris_base.specs.Records.{setup_for}
use Rattle.ris_base.specs.Replies.{wants_memory}
use Rattle.ris_base.specs.Visits.{IsReachOfGrowth}
use Rattle.ris_base.specs.declared.commands.Command.{Command}
use Rattle.ris_base.specs.declared.lines.Line.{Line}
use Rattle.ris_base.specs.declared.replies.LogLine.{LogLine}
use Rattle.ris_base.specs.declared.replies.ReadAnswer.{ReadAnswer}
use Rattle.ris_base.specs.declared.replies.ReadAnswer.TheVariants as answer
use Rattle.ris_base.specs.declared.replies.ReadRefusal.{ReadRefusal}
use Rattle.ris_base.specs.declared.replies.ReadRefusal.TheVariants as denial
use Rattle.ris_base.specs.declared.requests.Question.{Question}
use Rattle.ris_base.specs.declared.requests.Question.TheVariants as question
use Rattle.ris_base.specs.declared.requests.Request.{Request}
use Rattle.ris_epoch.specs.DriverView.{DriverView}
use Rattle.ris_history.specs.HistoryView.{HistoryView, shown}
use Rattle.ris_history.specs.Reads.{HasAnalysis, IsAnswer, IsAskableOf, IsAsked, reply_of, unless_refused}
use Rattle.ris_history.proofs.AnswerLaws.{specs-of}
use Rattle.ris_rounds.specs.Rounds.{IsReadOf, player_in}
use Rattle.ris_rounds.proofs.Sittings.{asked-askable, played-answer, played-submit, read-fits}
use Rattle.ris_session.specs.PlayerView.{PlayerView, after_answer, after_next, after_step, line_of, player_of, step_of}
use Rattle.ris_session.specs.declared.players.Next.{Next}
use Rattle.ris_session.specs.declared.players.Next.TheVariants as next
use Rattle.ris_session.proofs.PlayerLaws.{step_of-ask, step_of-submit}
use Rattle.ris_replay.proofs.QuietLogs.{IsQuiet, any-none, put-quiet}
use Rattle.ris_replay.specs.Visits.{grows}
use Rattle.ris_replay.specs.RoundsView.{AreQuiet, Counts, GoesAlone, HasStepped, IsRunning, Keeps, RoundsView, Rests, Stands, next_at, rest_of, run_behind, unreplied, unreplied_count}

-- One session changed

-- the sessions with another player of session n, and another queue
abbrev pub with_player : RoundsView → ℕ → PlayerView → RoundsView
with_player r n p = record r { players = set r.players n p }

abbrev pub with_session : RoundsView → ℕ → PlayerView → List Request → RoundsView
with_session r n p q = record r { players = set r.players n p; queues = set r.queues n q }

-- where it has no more commands without a reply, session n went on alone
pub alone-session : (old : RoundsView) (n : ℕ) (p : PlayerView) (q : List Request) → n < length old.players → unreplied p ≤ unreplied (player_in old.players n)
    → (IsQuiet p → IsQuiet (player_in old.players n)) → GoesAlone n old (with_session old n p q)
alone-session old n p q here few quiet = record {
  driver = refl;
  history = refl;
  batch = refl;
  many = length-set old.players n p;
  others = λ m other. get_or-set_other old.players n m p (player_of m []) other;
  waiting = λ m other. get_or-set_other old.queues n m q [] other;
  unreplied = let e = sum_by-set unreplied old.players n p (player_of n []) here in omega arith;
  quiet = λ h. let put = put-quiet old.players n p (player_of n []) here h in put.1 (quiet put.0);
}

pub alone-player : (old : RoundsView) (n : ℕ) (p : PlayerView) → n < length old.players → unreplied p ≤ unreplied (player_in old.players n)
    → (IsQuiet p → IsQuiet (player_in old.players n)) → GoesAlone n old (with_player old n p)
alone-player old n p here few quiet = record {
  driver = refl;
  history = refl;
  batch = refl;
  many = length-set old.players n p;
  others = λ m other. get_or-set_other old.players n m p (player_of m []) other;
  waiting = λ m other. refl;
  unreplied = let e = sum_by-set unreplied old.players n p (player_of n []) here in omega arith;
  quiet = λ h. let put = put-quiet old.players n p (player_of n []) here h in put.1 (quiet put.0);
}

pub alone-none : (n : ℕ) (r : RoundsView) → GoesAlone n r r
alone-none n r = record { driver = refl; history = refl; batch = refl; many = refl; others = λ m other. refl; waiting = λ m other. refl; unreplied = omega arith; quiet = λ h. h }

pub alone-twice : (n : ℕ) (a b c : RoundsView) → GoesAlone n a b → GoesAlone n b c → GoesAlone n a c
alone-twice n a b c one two = record {
  driver = two.driver ∙ one.driver;
  history = two.history ∙ one.history;
  batch = two.batch ∙ one.batch;
  many = two.many ∙ one.many;
  others = λ m other. two.others m other ∙ one.others m other;
  waiting = λ m other. two.waiting m other ∙ one.waiting m other;
  unreplied = let x = one.unreplied in let y = two.unreplied in omega arith;
  quiet = λ h. one.quiet (two.quiet h);
}

-- it has taken its first command
pub stepped : (old : RoundsView) (n : ℕ) (p : PlayerView) (q : List Request) → n < length old.players → length p.left + 1 ≡ length (player_in old.players n).left
    → HasStepped n None old (with_session old n p q)
stepped old n p q here less =
    subst (λ (x : PlayerView). length x.left + 1 ≡ length (player_in old.players n).left) (sym (get_or-set_same old.players n p (player_of n []) here)) less

-- What is kept

pub keeps-none : (r : RoundsView) → Keeps r r
keeps-none r = λ ground lists s. s

pub keeps-twice : (a b c : RoundsView) → Keeps a b → Keeps b c → Keeps a c
keeps-twice a b c one two = λ ground lists s. two ground lists (one ground lists s)

pub still-running : (old new : RoundsView) → IsRunning old → Keeps old new → IsRunning new
still-running old new r keeps = record { ground = r.ground; lists = r.lists; of = keeps r.ground r.lists r.of; few = r.few }

-- there are as many players and queues as sessions
pub session-in : (ground : Ground) (lists : List (List Command)) (r : RoundsView) (n : ℕ) → Stands ground lists r → n < length r.players → n < ground.start.sessions
session-in ground lists r n s here = let e = s.of.played.players in omega arith

pub queue-in : (r : RoundsView) (n : ℕ) → IsRunning r → n < length r.players → n < length r.queues
queue-in r n running here = let e = running.of.of.played.players in let k = running.of.of.played.queues in omega arith

-- A request is submitted

pub keeps-submit : (old : RoundsView) (n : ℕ) (r : Request) → n < length old.players → next_at old n ≡ next.Submit r
    → Keeps old (with_session old n (after_next (player_in old.players n)) (get_or old.queues n [] ++ r ∷ []))
keeps-submit old n r here at = λ ground lists s.
    record {
      records = s.records;
      of = record {
        played = played-submit ground lists (run_behind s.records old) n s.of.played (session-in ground lists old n s here) r at;
        driver_stands = s.of.driver_stands;
        history_stands = s.of.history_stands;
        none = s.of.none;
        told = s.of.told;
        empty = s.of.empty;
      };
    }

-- the first item of a list and those behind it
pub first-left : {X : Type 0} (xs : List X) (x : X) → slice_get xs 0 ≡ Some x → length (drop 1 xs) + 1 ≡ length xs
first-left xs x at = let some = slice_get_within xs 0 x at in let e = length-drop 1 xs in omega arith

pub submit-left : (p : PlayerView) (r : Request) → step_of p ≡ next.Submit r → length (after_next p).left + 1 ≡ length p.left
submit-left p r at =
    let s = step_of-submit p r at in
    ap (λ (k : Next). length (after_step k p).left + 1) at ∙ first-left p.left s.command s.first

pub submit-unreplied : (p : PlayerView) (r : Request) → step_of p ≡ next.Submit r → unreplied (after_next p) ≤ unreplied p
submit-unreplied p r at =
    let s = step_of-submit p r at in
    let left = first-left p.left s.command s.first in
    let e : unreplied (after_next p) ≡ p.open_requests + 1 + length (drop 1 p.left) = ap (λ (k : Next). unreplied (after_step k p)) at in
    omega arith

pub submit-quiet : (p : PlayerView) (r : Request) → step_of p ≡ next.Submit r → IsQuiet (after_next p) → IsQuiet p
submit-quiet p r at = subst (λ (log : List LogLine). list_any wants_memory log ≡ false) (ap (λ (k : Next). (after_step k p).log) at)

-- A question is answered

pub answer-quiet : (p : PlayerView) (given : Result ReadAnswer ReadRefusal) → IsQuiet (after_answer p given) → IsQuiet p
answer-quiet p given h = (any-none wants_memory p.log (line_of given) h).0

pub answer-left : (p : PlayerView) (asked : Question) (given : Result ReadAnswer ReadRefusal) → step_of p ≡ next.Ask asked
    → length (after_answer p given).left + 1 ≡ length p.left
answer-left p asked given at = let s = step_of-ask p asked at in first-left p.left s.command s.first

pub answer-unreplied : (p : PlayerView) (asked : Question) (given : Result ReadAnswer ReadRefusal) → step_of p ≡ next.Ask asked
    → unreplied (after_answer p given) ≤ unreplied p
answer-unreplied p asked given at = let e = answer-left p asked given at in omega arith

-- a refusal of a place isn't want of memory
refused-other : {X : Type 0} (h : HistoryView) (v : ℕ) (x : X) → Err denial.NoMemory ≡ unless_refused h v x → ⊥
refused-other {X} h v x e = by (nat_lt h.table.front v) (nat_lt v h.floor) e
  where
    by : (past low : Bool)
        → Err denial.NoMemory ≡ unless (if past then Some (denial.NotYet h.table.front) else (if low then Some (denial.Released h.table.front h.floor) else None)) x → ⊥
    by true low e = cc
    by false true e = cc
    by false false e = cc

-- paths and lists of modified vertices alone are answered by want of memory
wants-memory : (h : HistoryView) (asked : Question) → IsAsked h asked (Err denial.NoMemory) → may_want asked ≡ true
wants-memory h (question.Value v a x) e = absurd (refused-other h v (answer.Value h.table.front v (shown h.table v a x).value) e)
wants-memory h (question.Parent v a x) e = absurd (refused-other h v (answer.Parent h.table.front v (shown h.table v a x).parent) e)
wants-memory h (question.Path v a x) e = refl
wants-memory h (question.Modified v a) e = refl
wants-memory h question.Current e = absurd (cc)

-- what a history answers is a reply to the question by its records
pub asked-reads : (ground : Ground) (lists : List (List Command)) (r : RoundsView) (s : Stands ground lists r) (asked : Question)
    (given : Result ReadAnswer ReadRefusal) → IsAsked r.history asked given → (given ≢ Err denial.NoMemory → IsAnswer r.history asked (reply_of given))
    → IsReadOf ground s.records asked (line_of given)
asked-reads ground lists r s asked (Ok found) exact answers =
    inl (answers (λ e. cc) ground.opening ground.specs ground.start s.records s.of.history_stands)
asked-reads ground lists r s asked (Err denial.NoMemory) exact answers = inr (refl, wants-memory r.history asked exact)
asked-reads ground lists r s asked (Err (denial.NotYet f)) exact answers =
    inl (answers (λ e. cc) ground.opening ground.specs ground.start s.records s.of.history_stands)
asked-reads ground lists r s asked (Err (denial.Released f low)) exact answers =
    inl (answers (λ e. cc) ground.opening ground.specs ground.start s.records s.of.history_stands)
asked-reads ground lists r s asked (Err denial.Shut) exact answers =
    inl (answers (λ e. cc) ground.opening ground.specs ground.start s.records s.of.history_stands)

-- the question of a session is one that its history may be asked
pub may-ask : (r : RoundsView) (n : ℕ) (asked : Question) → IsRunning r → n < length r.players → next_at r n ≡ next.Ask asked → IsAskableOf r.history asked
may-ask r n asked running here at =
    let s = running.of in
    let g = running.ground in
    let many = specs-of r.history g.opening g.specs g.start s.records s.of.history_stands in
    has (analysis_of asked) many
    (asked-askable g running.lists (run_behind s.records r) n asked s.of.played (session-in g running.lists r n s here) at)
  where
    has : (a : Option ℕ) → r.history.table.analyses ≡ length running.ground.specs
        → ExistsIn (setup_for running.ground.opening running.ground.specs running.ground.start) a → HasAnalysis r.history.table a
    has None many h = tt
    has (Some a) many h = omega arith

-- and its answer isn't that the read is shut out
pub answer-fits : (r : RoundsView) (asked : Question) (given : Result ReadAnswer ReadRefusal) → IsRunning r → IsAsked r.history asked given
    → (given ≢ Err denial.NoMemory → IsAnswer r.history asked (reply_of given)) → given ≢ Err denial.Shut
answer-fits r asked given running exact answers =
    read-fits running.ground running.of.records asked given (asked-reads running.ground running.lists r running.of asked given exact answers)

pub keeps-answer : (old : RoundsView) (n : ℕ) (asked : Question) (given : Result ReadAnswer ReadRefusal) → n < length old.players
    → next_at old n ≡ next.Ask asked → IsAsked old.history asked given → (given ≢ Err denial.NoMemory → IsAnswer old.history asked (reply_of given))
    → Keeps old (with_player old n (after_answer (player_in old.players n) given))
keeps-answer old n asked given here at exact answers = λ ground lists s.
    record {
      records = s.records;
      of = record {
        played = played-answer ground lists (run_behind s.records old) n asked given s.of.played (session-in ground lists old n s here) at
            (asked-reads ground lists old s asked given exact answers);
        driver_stands = s.of.driver_stands;
        history_stands = s.of.history_stands;
        none = s.of.none;
        told = s.of.told;
        empty = s.of.empty;
      };
    }

-- A session rests

-- a question that is to be asked changes nothing, nor does rest
pub next-ask : (p : PlayerView) (asked : Question) → step_of p ≡ next.Ask asked → after_next p ≡ p
next-ask p asked at = ap (λ (k : Next). after_step k p) at

pub next-done : (p : PlayerView) → step_of p ≡ next.Done → after_next p ≡ p
next-done p at = ap (λ (k : Next). after_step k p) at

pub next-await : (p : PlayerView) → step_of p ≡ next.Await → after_next p ≡ p
next-await p at = ap (λ (k : Next). after_step k p) at

-- a player put where it stands
pub put-same : (players : List PlayerView) (n : ℕ) (p : PlayerView) → p ≡ player_in players n → set players n p ≡ players
put-same players n p is = ap (set players n) is ∙ set-get_or players n (player_of n [])

-- one put over another
set-twice : {X : Type 0} (xs : List X) (n : ℕ) (x y : X) → set (set xs n x) n y ≡ set xs n y
set-twice [] n x y = refl
set-twice (z ∷ xs) zero x y = refl
set-twice {X} (z ∷ xs) (suc n) x y = ap (λ (rest : List X). z ∷ rest) (set-twice xs n x y)

-- A step

-- what a step of session n makes of the sessions
pub record Steps (n : ℕ) (done : Option Bool) (old new : RoundsView) : Type 0 where
  pub keeps : Keeps old new
  pub alone : GoesAlone n old new
  pub step : HasStepped n done old new

pub steps-submit : (old : RoundsView) (n : ℕ) (r : Request) (p next_p : PlayerView) (queue more : List Request) → IsRunning old → n < length old.players
    → p ≡ get_or old.players n p → next.Submit r ≡ step_of p → next_p ≡ after_next p → queue ≡ get_or old.queues n queue → more ≡ queue ++ r ∷ []
    → Steps n None old (with_session old n next_p more)
steps-submit old n r p next_p queue more running here player_is step_is after_is queue_is more_is =
    let q : PlayerView = player_in old.players n in
    let same : p ≡ q = get_or_read old.players n p here player_is (player_of n []) in
    let waits : queue ≡ get_or old.queues n [] = get_or_read old.queues n queue (queue-in old n running here) queue_is [] in
    let at : step_of q ≡ next.Submit r = ap step_of (sym same) ∙ sym step_is in
    let put : next_p ≡ after_next q = after_is ∙ ap after_next same in
    let pushed : more ≡ get_or old.queues n [] ++ r ∷ [] = more_is ∙ ap (λ (rs : List Request). rs ++ r ∷ []) waits in
    subst (λ (x : PlayerView). Steps n None old (with_session old n x more)) (sym put)
    (subst (λ (rs : List Request). Steps n None old (with_session old n (after_next q) rs)) (sym pushed) (record {
      keeps = keeps-submit old n r here at;
      alone = alone-session old n (after_next q) (get_or old.queues n [] ++ r ∷ []) here (submit-unreplied q r at) (submit-quiet q r at);
      step = stepped old n (after_next q) (get_or old.queues n [] ++ r ∷ []) here (submit-left q r at);
    }))

-- a question is asked of the history, and answered
pub steps-ask : (old : RoundsView) (n : ℕ) (asked : Question) (p next_p again last : PlayerView) (given : Result ReadAnswer ReadRefusal) → n < length old.players
    → p ≡ get_or old.players n p → next.Ask asked ≡ step_of p → next_p ≡ after_next p → again ≡ get_or (set old.players n next_p) n again
    → last ≡ after_answer again given → IsAsked old.history asked given → (given ≢ Err denial.NoMemory → IsAnswer old.history asked (reply_of given))
    → Steps n None old (record old { players = set (set old.players n next_p) n last })
steps-ask old n asked p next_p again last given here player_is step_is after_is again_is last_is exact answers =
    let q : PlayerView = player_in old.players n in
    let same : p ≡ q = get_or_read old.players n p here player_is (player_of n []) in
    let at : step_of q ≡ next.Ask asked = ap step_of (sym same) ∙ sym step_is in
    let stays : next_p ≡ q = after_is ∙ ap after_next same ∙ next-ask q asked at in
    let length_same = length-set old.players n next_p in
    let once : again ≡ next_p = get_or_read (set old.players n next_p) n again (omega arith) again_is next_p ∙ get_or-set_same old.players n next_p next_p here in
    let put : last ≡ after_answer q given = last_is ∙ ap (λ (x : PlayerView). after_answer x given) (once ∙ stays) in
    let all : set (set old.players n next_p) n last ≡ set old.players n (after_answer q given) =
    set-twice old.players n next_p last ∙ ap (set old.players n) put in
    subst (λ (ps : List PlayerView). Steps n None old (record old { players = ps })) (sym all) (record {
      keeps = keeps-answer old n asked given here at exact answers;
      alone = alone-player old n (after_answer q given) here (answer-unreplied q asked given at) (answer-quiet q given);
      step = subst (λ (x : PlayerView). length x.left + 1 ≡ length q.left) (sym (get_or-set_same old.players n (after_answer q given) (player_of n []) here))
          (answer-left q asked given at);
    })

-- the player whose question it is may be told the answer
pub ask-again : (old : RoundsView) (n : ℕ) (asked : Question) (p next_p again : PlayerView) → n < length old.players
    → p ≡ get_or old.players n p → next.Ask asked ≡ step_of p → next_p ≡ after_next p → again ≡ get_or (set old.players n next_p) n again
    → step_of again ≡ next.Ask asked
ask-again old n asked p next_p again here player_is step_is after_is again_is =
    let length_same = length-set old.players n next_p in
    let once : again ≡ next_p = get_or_read (set old.players n next_p) n again (omega arith) again_is next_p ∙ get_or-set_same old.players n next_p next_p here in
    ap step_of (once ∙ after_is ∙ next-ask p asked (sym step_is)) ∙ sym step_is

pub asked-at : (old : RoundsView) (n : ℕ) (asked : Question) (p : PlayerView) → n < length old.players → p ≡ get_or old.players n p → next.Ask asked ≡ step_of p
    → next_at old n ≡ next.Ask asked
asked-at old n asked p here player_is step_is = ap step_of (sym (get_or_read old.players n p here player_is (player_of n []))) ∙ sym step_is

-- nothing changes where the session rests
pub steps-rest : (old : RoundsView) (n : ℕ) (done : Bool) (p next_p : PlayerView) → n < length old.players → p ≡ get_or old.players n p
    → rest_of done ≡ step_of p → next_p ≡ after_next p → Steps n (Some done) old (with_player old n next_p)
steps-rest old n done p next_p here player_is step_is after_is =
    let q : PlayerView = player_in old.players n in
    let same : p ≡ q = get_or_read old.players n p here player_is (player_of n []) in
    let at : step_of q ≡ rest_of done = ap step_of (sym same) ∙ sym step_is in
    let stays : next_p ≡ q = after_is ∙ ap after_next same ∙ unmoved done q at in
    let all : with_player old n next_p ≡ old = ap (λ (ps : List PlayerView). record old { players = ps }) (put-same old.players n next_p stays) in
    subst (λ (r : RoundsView). Steps n (Some done) old r) (sym all)
    (record { keeps = keeps-none old; alone = alone-none n old; step = (refl, at) })
  where
    unmoved : (d : Bool) (x : PlayerView) → step_of x ≡ rest_of d → after_next x ≡ x
    unmoved true x at = next-done x at
    unmoved false x at = next-await x at

-- a session that rests stays where it is
pub rest-same : (n : ℕ) (done : Bool) (old new : RoundsView) → HasStepped n (Some done) old new → next_at new n ≡ rest_of done
rest-same n done old new h = ap (λ (r : RoundsView). next_at r n) h.0 ∙ h.1

-- a session that is there stays there
pub still-here : (n : ℕ) (old new : RoundsView) → n < length old.players → GoesAlone n old new → n < length new.players
still-here n old new here alone = let e = alone.many in omega arith

-- each step leaves fewer commands
pub step-smaller : (n : ℕ) (old new : RoundsView) → HasStepped n None old new → length (player_in new.players n).left < length (player_in old.players n).left
step-smaller n old new h = omega arith

-- All sessions

-- where the sessions before n rest, whether all of them are done: else one of them awaits a reply
abbrev pub HaveRested : ℕ → Bool → RoundsView → Type 0
HaveRested n true r = (m : ℕ) → m < n → next_at r m ≡ next.Done
HaveRested n false r = (m : ℕ) × (m < n) × (next_at r m ≡ next.Await)

pub rested-none : (r : RoundsView) → HaveRested 0 true r
rested-none r = λ m below. absurd (omega arith)

pub rested-more : (n : ℕ) (done rests : Bool) (old new : RoundsView) → HaveRested n done old → GoesAlone n old new
    → next_at new n ≡ rest_of rests → HaveRested (n + 1) (rests && done) new
rested-more n true true old new before alone at = λ m below. elim (cases_eq m n) [
  | inl same ↦ subst (λ (k : ℕ). next_at new k ≡ next.Done) (sym same) at
  | inr other ↦ ap step_of (alone.others m other) ∙ before m (omega arith)
]
rested-more n false true old new before alone at =
    let less = before.1 in
    (before.0, omega arith, ap step_of (alone.others before.0 (λ same. absurd (omega arith))) ∙ before.2)
rested-more n done false old new before alone at = (n, omega arith, at)

pub rested-all : (n : ℕ) (done : Bool) (r : RoundsView) → n ≡ length r.players → HaveRested n done r → Rests r done
rested-all n true r all h = λ m here. h m (omega arith)
rested-all n false r all h = let less = h.1 in record { session = h.0; here = omega arith; awaits = h.2 }

-- the sessions have gone on from first to now, and no more commands are without a reply; the driver is as it was, and a reply that wants
-- memory still does
pub record HaveGone (n : ℕ) (done : Bool) (first now : RoundsView) : Type 0 where
  pub keeps : Keeps first now
  pub many : length now.players ≡ length first.players
  pub rested : HaveRested n done now
  pub unreplied : unreplied_count now ≤ unreplied_count first
  pub driver : now.driver ≡ first.driver
  pub quiet : AreQuiet now.players → AreQuiet first.players

pub gone-none : (r : RoundsView) → HaveGone 0 true r r
gone-none r = record { keeps = keeps-none r; many = refl; rested = rested-none r; unreplied = omega arith; driver = refl; quiet = λ h. h }

pub gone-more : (n : ℕ) (done rests : Bool) (first old new : RoundsView) → HaveGone n done first old → Keeps old new → GoesAlone n old new
    → next_at new n ≡ rest_of rests → HaveGone (n + 1) (rests && done) first new
gone-more n done rests first old new before keeps alone at = record {
  keeps = keeps-twice first old new before.keeps keeps;
  many = alone.many ∙ before.many;
  rested = rested-more n done rests old new before.rested alone at;
  unreplied = let x = before.unreplied in let y = alone.unreplied in omega arith;
  driver = alone.driver ∙ before.driver;
  quiet = λ h. before.quiet (alone.quiet h);
}

-- so that what was counted stays so
pub gone-counts : (n : ℕ) (done : Bool) (first now : RoundsView) (ticks : ℕ) → HaveGone n done first now → Counts first now ticks ticks
gone-counts n done first now ticks gone = λ ground lists s start before grown quiet count reach.
    let same : now.driver.journal.lines ≡ first.driver.journal.lines = ap (λ (d : DriverView). d.journal.lines) gone.driver in
    before (subst (λ (ls : List Line). list_all grows ls ≡ true) same grown) (gone.quiet quiet) count
    (subst (λ (ls : List Line). IsReachOfGrowth ground.opening ground.specs ls count) same reach)

-- What is counted

pub counts-none : (r : RoundsView) (ticks : ℕ) → Counts r r ticks ticks
counts-none r ticks = λ ground lists s first before. before

pub counts-twice : (a b c : RoundsView) (x y z : ℕ) → Keeps a b → Counts a b x y → Counts b c y z → Counts a c x z
counts-twice a b c x y z keeps one two = λ ground lists s first before. two ground lists (keeps ground lists s) first (one ground lists s first before)
