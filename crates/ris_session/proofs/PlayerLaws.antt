-- Laws of players: when each step comes, one log line per command, and the commands that are given, with their numbers.
use Rattle.std.proofs.Common.{◌≡◌, ℕ, zero, suc, ◌+◌, ◌<◌, ◌≤◌, Bool, true, false, List, [], ◌∷◌, ◌++◌, length, take, drop, Option, Some, None, Result, Ok, Err, nat_lt, ◌==◌, if◌then◌else◌, arith, length-append, ◌↔◌, refl, sym, ap, ◌∙◌, subst}
use Rattle.std.specs.List.{slice_get, fold}
use Rattle.std.specs.Option.{option_and_then}
use Rattle.std.proofs.Math.Seq.{take-length}
use Rattle.std.proofs.lemmas.Bool.Decides.{nat_tests}
use Rattle.std.proofs.lemmas.List.{length-drop}
use Rattle.std.proofs.lemmas.List.Sums.{fold_push}
use Rattle.std.proofs.lemmas.Option.{option_and_then_some, slice_get_within}
use Rattle.ris_base.specs.Answers.{question_of}
use Rattle.ris_base.specs.Legal.{Asked}
use Rattle.ris_base.specs.Limits.{open_limit}
use Rattle.ris_base.specs.Machine.{asked_by, entry_of, session_by}
use Rattle.ris_base.specs.Replies.{placed_or}
use Rattle.ris_base.specs.Transcript.{numbered_from}
use Rattle.ris_base.specs.declared.commands.Command.{Command}
use Rattle.ris_base.specs.declared.commands.Command.TheVariants as command
use Rattle.ris_base.specs.declared.replies.LogLine.TheVariants.{Reply}
use Rattle.ris_base.specs.declared.replies.Outcome.{Outcome}
use Rattle.ris_base.specs.declared.replies.ReadAnswer.{ReadAnswer}
use Rattle.ris_base.specs.declared.replies.ReadRefusal.{ReadRefusal}
use Rattle.ris_base.specs.declared.requests.Question.{Question}
use Rattle.ris_base.specs.declared.requests.Request.{Request}
use Rattle.ris_base.specs.declared.requests.Request.TheVariants as request
use Rattle.ris_session.specs.PlayerView.{PlayerView, Plays, after_answer, after_next, after_reply, after_step, command_count, given_of, line_of, player_of, request_of, next_question, next_request, next_number, step_by, step_of}
use Rattle.ris_session.specs.declared.players.Next.{Next}
use Rattle.ris_session.specs.declared.players.Next.TheVariants.{Submit, Ask, Done, Await}

-- Steps

-- a choice that isn't the other one
chosen : (b : Bool) (x y z : Next) → (if b then x else y) ≡ z → ¬ (y ≡ z) → (b ≡ true) × (x ≡ z)
chosen true x y z e other = (refl, e)
chosen false x y z e other = absurd (other e)

-- a request is submitted where it is made and fewer than 16 are open
step_by-submit : (n : ℕ) (made : Option Request) (asked : Option Question) (r : Request) → step_by n made asked ≡ Submit r → (made ≡ Some r) × (n < open_limit)
step_by-submit n (Some made) asked r e =
    let h = chosen (nat_lt n open_limit) (Submit made) Await (Submit r) e (λ same. cc) in (cc (h.1), grind (arith, nat_tests))
step_by-submit n None (Some question) r e = let h = chosen (n == 0) (Ask question) Await (Submit r) e (λ same. cc) in absurd (cc (h.1))
step_by-submit n None None r e = let h = chosen (n == 0) Done Await (Submit r) e (λ same. cc) in absurd (cc (h.1))

-- a question is asked where there is one, no request is made and none is open
step_by-ask : (n : ℕ) (made : Option Request) (asked : Option Question) (question : Question) → step_by n made asked ≡ Ask question
    → (asked ≡ Some question) × (n ≡ 0)
step_by-ask n (Some made) asked question e = let h = chosen (nat_lt n open_limit) (Submit made) Await (Ask question) e (λ same. cc) in absurd (cc (h.1))
step_by-ask n None (Some other) question e =
    let h = chosen (n == 0) (Ask other) Await (Ask question) e (λ same. cc) in (cc (h.1), grind (arith, nat_tests))
step_by-ask n None None question e = let h = chosen (n == 0) Done Await (Ask question) e (λ same. cc) in absurd (cc (h.1))

-- all is done where nothing is made or asked, and none is open
step_by-done : (n : ℕ) (made : Option Request) (asked : Option Question) → step_by n made asked ≡ Done → (made ≡ None) × (asked ≡ None) × (n ≡ 0)
step_by-done n (Some made) asked e = let h = chosen (nat_lt n open_limit) (Submit made) Await Done e (λ same. cc) in absurd (cc (h.1))
step_by-done n None (Some question) e = let h = chosen (n == 0) (Ask question) Await Done e (λ same. cc) in absurd (cc (h.1))
step_by-done n None None e = let h = chosen (n == 0) Done Await Done e (λ same. cc) in (refl, refl, grind (arith, nat_tests))

-- a command makes a request or asks a question
request_of-read : (s seq last : ℕ) (c : Command) → request_of s seq c ≡ None → question_of c last ≡ None → ⊥
request_of-read s seq last (command.Change parts) made asked = cc
request_of-read s seq last (command.Release upto) made asked = cc
request_of-read s seq last command.Leave made asked = cc
request_of-read s seq last (command.Value version a x) made asked = cc
request_of-read s seq last (command.Parent version a x) made asked = cc
request_of-read s seq last (command.Path version a x) made asked = cc
request_of-read s seq last (command.Modified version a) made asked = cc
request_of-read s seq last command.Current made asked = cc

-- a request carries the session, and the command with its number
pub request_of-carries : (s seq : ℕ) (c : Command) (r : Request) → request_of s seq c ≡ Some r → (session_by r ≡ s) × (asked_by r ≡ record { seq = seq; command = c })
request_of-carries s seq c r made = by c made
  where
    Carries : Command → Request → Type 0
    Carries c r = (session_by r ≡ s) × (asked_by r ≡ record { seq = seq; command = c })

    by : (c : Command) → request_of s seq c ≡ Some r → Carries c r
    by (command.Change parts) made = let same : request.Submit (entry_of s seq parts) ≡ r = cc in subst (λ x. Carries (command.Change parts) x) same (refl, refl)
    by (command.Release upto) made = let same : request.Release s seq upto ≡ r = cc in subst (λ x. Carries (command.Release upto) x) same (refl, refl)
    by command.Leave made = let same : request.Leave s seq ≡ r = cc in subst (λ x. Carries command.Leave x) same (refl, refl)
    by (command.Value version a x) made = absurd (cc)
    by (command.Parent version a x) made = absurd (cc)
    by (command.Path version a x) made = absurd (cc)
    by (command.Modified version a) made = absurd (cc)
    by command.Current made = absurd (cc)

-- the first command left makes the request that is submitted, and fewer than 16 are open
pub record Submits (p : PlayerView) (r : Request) : Type 0 where
  pub command : Command
  pub first : slice_get p.left 0 ≡ Some command
  pub made : request_of p.session (next_number p) command ≡ Some r
  pub few : p.open_requests < open_limit

pub step_of-submit : (p : PlayerView) (r : Request) → step_of p ≡ Submit r → Submits p r
step_of-submit p r e =
    let h = step_by-submit p.open_requests (next_request p) (next_question p) r e in
    option_and_then_some (request_of p.session (next_number p)) (slice_get p.left 0) r h.0
    (λ c first made. record { command = c; first = first; made = made; few = h.1 })

-- the first command left asks the question, and none is open
pub record Asks (p : PlayerView) (question : Question) : Type 0 where
  pub command : Command
  pub first : slice_get p.left 0 ≡ Some command
  pub asked : question_of command p.last ≡ Some question
  pub none : p.open_requests ≡ 0

pub step_of-ask : (p : PlayerView) (question : Question) → step_of p ≡ Ask question → Asks p question
step_of-ask p question e =
    let h = step_by-ask p.open_requests (next_request p) (next_question p) question e in
    option_and_then_some (λ (c : Command). question_of c p.last) (slice_get p.left 0) question h.0
    (λ c first asked. record { command = c; first = first; asked = asked; none = h.1 })

-- a player is done exactly where no command is left and none is open
pub step_of-done : (p : PlayerView) → (step_of p ≡ Done) ↔ ((p.left ≡ []) × (p.open_requests ≡ 0))
step_of-done p = (λ e. only e, λ h. rw (h.0, h.1) refl)
  where
    none_left : (left : List Command) → option_and_then (request_of p.session (next_number p)) (slice_get left 0) ≡ None
        → option_and_then (λ (c : Command). question_of c p.last) (slice_get left 0) ≡ None → left ≡ []
    none_left [] made asked = refl
    none_left (c ∷ left) made asked = absurd (request_of-read p.session (next_number p) p.last c made asked)

    only : step_of p ≡ Done → (p.left ≡ []) × (p.open_requests ≡ 0)
    only e = let h = step_by-done p.open_requests (next_request p) (next_question p) e in (none_left p.left h.0 h.1, h.2)

-- One log line per command

-- a list with a first item is longer by one than what is behind it
length-first : {X : Type 0} (xs : List X) (x : X) → slice_get xs 0 ≡ Some x → length xs ≡ length (drop 1 xs) + 1
length-first xs x e = let some = slice_get_within xs 0 x e in omega (arith, length-drop 1 xs)

-- one reply more
length-more : {X : Type 0} (xs : List X) (x : X) → length (xs ++ x ∷ []) ≡ length xs + 1
length-more xs x = omega (arith, length-append xs (x ∷ []))

-- each call keeps the number of commands
pub command_count-after_next : (p : PlayerView) → command_count (after_next p) ≡ command_count p
command_count-after_next p = by (step_of p) refl
  where
    by : (n : Next) → step_of p ≡ n → command_count (after_step n p) ≡ command_count p
    by (Submit r) e = let s = step_of-submit p r e in let h = length-first p.left s.command s.first in omega arith
    by (Ask question) e = refl
    by Done e = refl
    by Await e = refl

pub command_count-after_reply : (p : PlayerView) (outcome : Outcome) → 1 ≤ p.open_requests → command_count (after_reply p outcome) ≡ command_count p
command_count-after_reply p outcome some = let h = length-more p.log (Reply outcome) in omega arith

pub command_count-after_answer : (p : PlayerView) (question : Question) (answer : Result ReadAnswer ReadRefusal) → step_of p ≡ Ask question
    → command_count (after_answer p answer) ≡ command_count p
command_count-after_answer p question answer e =
    let a = step_of-ask p question e in
    let h = length-first p.left a.command a.first in
    let more = length-more p.log (line_of answer) in
    omega arith

-- at the end there is one log line per command
pub length-log : (p : PlayerView) → step_of p ≡ Done → length p.log ≡ command_count p
length-log p e = let h = (step_of-done p).0 e in let none = ap length h.0 in let closed = h.1 in omega arith

-- The commands that are given

-- what is behind the first item of the rest of a list
pub drop-more : {X : Type 0} (n : ℕ) (xs : List X) → drop 1 (drop n xs) ≡ drop (suc n) xs
drop-more zero xs = refl
drop-more (suc n) [] = refl
drop-more (suc n) (x ∷ xs) = drop-more n xs

-- the first item of the rest of a list
pub slice_get-drop : {X : Type 0} (n : ℕ) (xs : List X) → slice_get (drop n xs) 0 ≡ slice_get xs n
slice_get-drop zero xs = refl
slice_get-drop (suc n) [] = refl
slice_get-drop (suc n) (x ∷ xs) = slice_get-drop n xs

-- the first commands, with their numbers, and one more
numbered_from-take : (q n : ℕ) (commands : List Command) (c : Command) → slice_get commands n ≡ Some c
    → numbered_from q (take (suc n) commands) ≡ numbered_from q (take n commands) ++ record { seq = q + n; command = c } ∷ []
unfolding numbered_from
numbered_from-take q n [] c here = absurd (cc)
numbered_from-take q zero (d ∷ commands) c here =
    let same : d ≡ c = cc in let number : q ≡ q + 0 = omega arith in
    ap (λ (k : ℕ). record { seq = k; command = d } ∷ []) number ∙ ap (λ (x : Command). record { seq = q + 0; command = x } ∷ []) same
numbered_from-take q (suc n) (d ∷ commands) c here =
    let number : (q + 1) + n ≡ q + suc n = omega arith in
    ap (λ (more : List Asked). record { seq = q; command = d } ∷ more)
    (numbered_from-take (q + 1) n commands c here
    ∙ ap (λ (k : ℕ). numbered_from (q + 1) (take n commands) ++ record { seq = k; command = c } ∷ []) number)

-- Where a player has given the first command left too, it plays the same commands

-- where it has given one more
rest-more : (commands : List Command) (p : PlayerView) (n : ℕ) → Plays commands p → n ≡ next_number p + 1 → drop 1 p.left ≡ drop n commands
rest-more commands p n h more =
    let next : suc (next_number p) ≡ n = omega arith in ap (drop 1) h.left ∙ drop-more (next_number p) commands ∙ ap (λ k. drop k commands) next

-- the first command left is the next one that is given, with its number
given-more : (commands : List Command) (p : PlayerView) (n : ℕ) (c : Command) → Plays commands p → n ≡ next_number p + 1 → slice_get p.left 0 ≡ Some c
    → numbered_from 0 (take n commands) ≡ given_of commands p ++ record { seq = next_number p; command = c } ∷ []
given-more commands p n c h more first =
    let next : n ≡ suc (next_number p) = omega arith in
    let number : 0 + next_number p ≡ next_number p = omega arith in
    let here = sym (slice_get-drop (next_number p) commands) ∙ ap (λ (xs : List Command). slice_get xs 0) (sym h.left) ∙ first in
    ap (λ k. numbered_from 0 (take k commands)) next ∙ numbered_from-take 0 (next_number p) commands c here
    ∙ ap (λ (k : ℕ). given_of commands p ++ record { seq = k; command = c } ∷ []) number

-- what a player plays, each call keeps
pub Plays-player_of : (s : ℕ) (commands : List Command) → Plays commands (player_of s commands)
Plays-player_of s commands = record { count = omega arith; left = refl; few = omega arith; last = refl }

pub Plays-after_next : (commands : List Command) (p : PlayerView) → Plays commands p → Plays commands (after_next p)
Plays-after_next commands p h = by (step_of p) refl
  where
    by : (n : Next) → step_of p ≡ n → Plays commands (after_step n p)
    by (Submit r) e =
        let s = step_of-submit p r e in
        let few = s.few in
        record {
          count = ap (λ n. command_count (after_step n p)) (sym e) ∙ command_count-after_next p ∙ h.count;
          left = rest-more commands p (length p.log + (p.open_requests + 1)) h (omega arith);
          few = omega arith;
          last = h.last;
        }
    by (Ask question) e = h
    by Done e = h
    by Await e = h

pub Plays-after_reply : (commands : List Command) (p : PlayerView) (outcome : Outcome) → Plays commands p → 1 ≤ p.open_requests → Plays commands (after_reply p outcome)
Plays-after_reply commands p outcome h some =
    let more = length-more p.log (Reply outcome) in
    let few = h.few in
    let number : next_number p ≡ next_number (after_reply p outcome) = omega arith in
    record {
      count = command_count-after_reply p outcome some ∙ h.count;
      left = h.left ∙ ap (λ k. drop k commands) number;
      few = omega arith;
      last = ap (λ k. placed_or k (Reply outcome)) h.last ∙ sym (fold_push placed_or 0 p.log (Reply outcome));
    }

-- an answer to a read places nothing
placed_or-answer : (last : ℕ) (answer : Result ReadAnswer ReadRefusal) → placed_or last (line_of answer) ≡ last
placed_or-answer last (Ok answer) = refl
placed_or-answer last (Err denied) = refl

pub Plays-after_answer : (commands : List Command) (p : PlayerView) (question : Question) (answer : Result ReadAnswer ReadRefusal) → Plays commands p
    → step_of p ≡ Ask question → Plays commands (after_answer p answer)
Plays-after_answer commands p question answer h e =
    let more = length-more p.log (line_of answer) in
    record {
      count = command_count-after_answer p question answer e ∙ h.count;
      left = rest-more commands p (next_number (after_answer p answer)) h (omega arith);
      few = h.few;
      last = h.last ∙ sym (placed_or-answer (fold placed_or 0 p.log) answer) ∙ sym (fold_push placed_or 0 p.log (line_of answer));
    }

-- a request that is submitted carries the session, and is the next command that is given
pub record IsNext (commands : List Command) (p : PlayerView) (r : Request) : Type 0 where
  pub session : session_by r ≡ p.session
  pub number : (asked_by r).seq ≡ next_number p
  pub given : given_of commands (after_next p) ≡ given_of commands p ++ asked_by r ∷ []

pub given_of-after_next : (commands : List Command) (p : PlayerView) (r : Request) → Plays commands p → step_of p ≡ Submit r → IsNext commands p r
given_of-after_next commands p r h e =
    let s = step_of-submit p r e in
    let carries = request_of-carries p.session (next_number p) s.command r s.made in
    record {
      session = carries.0;
      number = ap (λ (a : Asked). a.seq) carries.1;
      given = ap (λ n. given_of commands (after_step n p)) e ∙ given-more commands p (length p.log + (p.open_requests + 1)) s.command h (omega arith) s.first
          ∙ ap (λ (a : Asked). given_of commands p ++ a ∷ []) (sym carries.1);
    }

-- a reply gives nothing
pub given_of-after_reply : (commands : List Command) (p : PlayerView) (outcome : Outcome) → 1 ≤ p.open_requests
    → given_of commands (after_reply p outcome) ≡ given_of commands p
given_of-after_reply commands p outcome some =
    let more = length-more p.log (Reply outcome) in
    let number : next_number (after_reply p outcome) ≡ next_number p = omega arith in
    ap (λ k. numbered_from 0 (take k commands)) number

-- a read that is answered is the next command that is given
pub given_of-after_answer : (commands : List Command) (p : PlayerView) (c : Command) (answer : Result ReadAnswer ReadRefusal) → Plays commands p
    → slice_get p.left 0 ≡ Some c → given_of commands (after_answer p answer) ≡ given_of commands p ++ record { seq = next_number p; command = c } ∷ []
given_of-after_answer commands p c answer h first =
    let more = length-more p.log (line_of answer) in given-more commands p (next_number (after_answer p answer)) c h (omega arith) first

-- at the end all commands are given
pub given_of-done : (commands : List Command) (p : PlayerView) → Plays commands p → step_of p ≡ Done → given_of commands p ≡ numbered_from 0 commands
given_of-done commands p h e =
    let d = (step_of-done p).0 e in
    let none = ap length d.0 in
    let count = h.count in
    let all : next_number p ≡ length commands = omega arith in
    ap (λ k. numbered_from 0 (take k commands)) all ∙ ap (numbered_from 0) (take-length commands)
