-- One reply more in an account.
use Rattle.std.specs.Prelude.{◌≡◌, ◌≢◌, ℕ, ◌+◌, ◌≤◌, ◌==◌, if◌then◌else◌, List, [], ◌∷◌, ◌++◌, length, take, slice_get, Some, None, IfSome}
use Rattle.ris_base.specs.Answers.{Setup, question_of}
use Rattle.ris_base.specs.Forest.{Forest}
use Rattle.ris_base.specs.Legal.{Asked}
use Rattle.ris_base.specs.Lines.{front}
use Rattle.ris_base.specs.Machine.{Known, last_placed}
use Rattle.ris_base.specs.Replies.{number}
use Rattle.ris_base.specs.Requests.{after, entered, refusal_of}
use Rattle.ris_base.specs.declared.lines.Line.{Line}
use Rattle.ris_base.specs.declared.lines.Line.TheVariants as line
use Rattle.ris_legal.specs.Account.{Account, AreRight, made, Says, forests_in}

-- the list of session s with one item more
abbrev pub with_more : {X : Type 0} → (ℕ → List X) → ℕ → X → ℕ → List X
with_more lists s x n = if n == s then lists n ++ x ∷ [] else lists n

-- an account with one reply more to session s, the line that it makes, and the forests of the place that it makes
abbrev pub told_more : Account → ℕ → Asked → Known → List (List Forest) → Account
told_more a s asked known forests = record {
  commands = a.commands;
  replies = with_more a.replies s known;
  lines = a.lines ++ made s asked known.reply;
  places = a.places ++ forests;
}

-- an account with one command more of session s
abbrev pub asked_more : Account → ℕ → Asked → Account
asked_more a s asked = record a { commands = with_more a.commands s asked }

-- the forests that come with these lines: right ones for each entry, which is accepted, and none for any other
abbrev pub ComeWith : Setup → List Line → List Line → List (List Forest) → Type 0
ComeWith setup lines (line.Entry e ∷ []) (forests ∷ []) =
    (refusal_of (after setup.opening lines (front lines)) e.parts ≡ None)
    × AreRight (entered (after setup.opening lines (front lines)) e.parts) setup.specs forests
ComeWith setup lines (line.Entry e ∷ []) other = ⊥
ComeWith setup lines others forests = forests ≡ []

-- the oldest command of session s without a reply may be told this: the reply rests on first lines that end with the line that it
-- makes, and on all that earlier replies of the session rest on; its number is their front; and it says what is so there
pub record MayTell (setup : Setup) (a : Account) (s : ℕ) (asked : Asked) (known : Known) (forests : List (List Forest)) : Type 0 where
  pub next : slice_get (a.commands s) (length (a.replies s)) ≡ Some asked
  pub within : known.knew ≤ length (a.lines ++ made s asked known.reply)
  pub all : made s asked known.reply ≢ [] → known.knew ≡ length (a.lines ++ made s asked known.reply)
  pub earlier : (p : ℕ) (k : Known) → slice_get (a.replies s) p ≡ Some k → k.knew + length (made s asked known.reply) ≤ known.knew
  pub number : IfSome (number known.reply) (λ n. n ≡ front (take known.knew (a.lines ++ made s asked known.reply)))
  pub says : Says setup (take known.knew (a.lines ++ made s asked known.reply)) (forests_in (told_more a s asked known forests)) asked.command
      (question_of asked.command (last_placed 0 (a.replies s))) known.reply
  pub come : ComeWith setup a.lines (made s asked known.reply) forests
