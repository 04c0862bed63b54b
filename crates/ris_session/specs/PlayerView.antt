-- What a contract sees of a player, what it does next, and what each call makes of it.
use Rattle.std.specs.Prelude.{◌≡◌, ℕ, ◌+◌, ◌-◌, ◌≤◌, ◌==◌, nat_lt, if◌then◌else◌, List, [], ◌∷◌, ◌++◌, length, take, drop, fold, slice_get, Option, Some, None, Result, Ok, Err, Vec, vec_len, vec_capacity, ⊤}
use Rattle.std.specs.Option.{option_and_then}
use Rattle.std.specs.declared.alloc.Global.{Global}
use Rattle.ris_base.specs.Answers.{question_of}
use Rattle.ris_base.specs.Legal.{Asked}
use Rattle.ris_base.specs.Limits.{open_limit}
use Rattle.ris_base.specs.Machine.{entry_of}
use Rattle.ris_base.specs.Replies.{placed_or}
use Rattle.ris_base.specs.Transcript.{numbered_from}
use Rattle.ris_base.specs.declared.commands.Command.{Command}
use Rattle.ris_base.specs.declared.commands.Command.TheVariants as command
use Rattle.ris_base.specs.declared.replies.LogLine.{LogLine}
use Rattle.ris_base.specs.declared.replies.LogLine.TheVariants.{Reply, Answer, Denied}
use Rattle.ris_base.specs.declared.replies.Outcome.{Outcome}
use Rattle.ris_base.specs.declared.replies.ReadAnswer.{ReadAnswer}
use Rattle.ris_base.specs.declared.replies.ReadRefusal.{ReadRefusal}
use Rattle.ris_base.specs.declared.requests.Question.{Question}
use Rattle.ris_base.specs.declared.requests.Request.{Request}
use Rattle.ris_base.specs.declared.requests.Request.TheVariants as request
use Rattle.ris_session.specs.declared.players.Next.{Next}
use Rattle.ris_session.specs.declared.players.Next.TheVariants.{Submit, Ask, Done, Await}

-- the session's number, the commands that it hasn't given yet, how many of its requests have no reply, the place of its last
-- accepted entry, or 0, and the replies so far
pub record PlayerView : Type 0 where
  pub session : ℕ
  pub left : List Command
  pub open_requests : ℕ
  pub last : ℕ
  pub log : List LogLine

-- a player that has given none of these commands
abbrev pub player_of : ℕ → List Command → PlayerView
player_of s commands = record { session = s; left = commands; open_requests = 0; last = 0; log = [] }

-- The next step

-- the number of the first command left: commands are numbered from 0 on
abbrev pub next_number : PlayerView → ℕ
next_number p = length p.log + p.open_requests

-- the request of session s for its command number seq, where that is no read
abbrev pub request_of : ℕ → ℕ → Command → Option Request
request_of s seq (command.Change parts) = Some (request.Submit (entry_of s seq parts))
request_of s seq (command.Release upto) = Some (request.Release s seq upto)
request_of s seq command.Leave = Some (request.Leave s seq)
request_of s seq (command.Value version a x) = None
request_of s seq (command.Parent version a x) = None
request_of s seq (command.Path version a x) = None
request_of s seq (command.Modified version a) = None
request_of s seq command.Current = None

-- what is to be done where n requests are open, and the first command left makes this request or this question. A request
-- waits where 16 are open, and a read where any is; where no command is left, every command has its reply once none is open
abbrev pub step_by : ℕ → Option Request → Option Question → Next
step_by n (Some r) question = if nat_lt n open_limit then Submit r else Await
step_by n None (Some question) = if n == 0 then Ask question else Await
step_by n None None = if n == 0 then Done else Await

-- the request and the question of the first command left
abbrev pub next_request : PlayerView → Option Request
next_request p = option_and_then (request_of p.session (next_number p)) (slice_get p.left 0)

abbrev pub next_question : PlayerView → Option Question
next_question p = option_and_then (λ c. question_of c p.last) (slice_get p.left 0)

-- what is to be done next
abbrev pub step_of : PlayerView → Next
step_of p = step_by p.open_requests (next_request p) (next_question p)

-- a question is to be asked
abbrev pub IsAsk : Next → Type 0
IsAsk (Submit r) = ⊥
IsAsk (Ask question) = ⊤
IsAsk Done = ⊥
IsAsk Await = ⊥

-- What each call makes of a player

-- what a step makes of it: a command that is submitted is given, and open. A read stays until it is answered
abbrev pub after_step : Next → PlayerView → PlayerView
after_step (Submit r) p = record p { left = drop 1 p.left; open_requests = p.open_requests + 1 }
after_step (Ask question) p = p
after_step Done p = p
after_step Await p = p

abbrev pub after_next : PlayerView → PlayerView
after_next p = after_step (step_of p) p

-- the oldest open request got its reply
abbrev pub after_reply : PlayerView → Outcome → PlayerView
after_reply p outcome = record p {
  open_requests = p.open_requests - 1;
  last = placed_or p.last (Reply outcome);
  log = p.log ++ Reply outcome ∷ [];
}

-- the reply to a read
abbrev pub line_of : Result ReadAnswer ReadRefusal → LogLine
line_of (Ok answer) = Answer answer
line_of (Err denied) = Denied denied

-- the first command left, a read, got its reply
abbrev pub after_answer : PlayerView → Result ReadAnswer ReadRefusal → PlayerView
after_answer p answer = record p { left = drop 1 p.left; log = p.log ++ line_of answer ∷ [] }

-- What a player plays

-- how many commands a player has: those with a reply, the open ones, and those that are left
abbrev pub command_count : PlayerView → ℕ
command_count p = length p.log + p.open_requests + length p.left

-- The commands of a session that a player plays are these: so many, and those that are left are the last of them. Few requests
-- are open, and the place of the last accepted entry is the one that the replies tell
pub record Plays (commands : List Command) (p : PlayerView) : Type 0 where
  pub count : command_count p ≡ length commands
  pub left : p.left ≡ drop (next_number p) commands
  pub few : p.open_requests ≤ open_limit
  pub last : p.last ≡ fold placed_or 0 p.log

-- the commands that are given, with their numbers: the first ones of the session's commands
abbrev pub given_of : List Command → PlayerView → List Asked
given_of commands p = numbered_from 0 (take (next_number p) commands)

-- What a player's fields keep

-- few requests are open, and there is room in the log for the reply to each of them and to each command that is left
pub record IsSound (left : List Command) (log : Vec LogLine Global) (open_requests : ℕ) : Type 0 where
  pub few : open_requests ≤ open_limit
  pub room : vec_len log + open_requests + length left ≤ vec_capacity log
