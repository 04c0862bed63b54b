-- The journal of a serial list: it names the list, and its places are counted. So what is printed of a legal run is a transcript.
use Rattle.std.proofs.Common.{◌≡◌, ℕ, zero, suc, ◌+◌, List, [], ◌∷◌, Option, Some, IsSome, IsTrue, slice_get, refl, sym, subst, ap, ◌∙◌, arith}
use Rattle.std.specs.List.{AllByRecursion, slice_index_or}
use Rattle.std.specs.Option.{option_and_then}
use Rattle.ris_base.specs.Answers.{Setup}
use Rattle.ris_base.specs.Legal.{Asked, HasCommand, IsLegal, IsLineOf}
use Rattle.ris_base.specs.Lines.{front, mark_count, session_of}
use Rattle.ris_base.specs.Lists.{EachPair}
use Rattle.ris_base.specs.Replies.{can_have}
use Rattle.ris_base.specs.Transcript.{PlacesFrom, IsTranscriptOf, IsSmall, all_lines, asked_in, numbered_from, replies_in, entry_by, mark_by, leave_by, command_at, line_named, lines_named}
use Rattle.ris_base.specs.declared.commands.Command.{Command}
use Rattle.ris_base.specs.declared.commands.Command.TheVariants as command
use Rattle.ris_base.specs.declared.lines.Line.{Line}
use Rattle.ris_base.specs.declared.lines.Line.TheVariants as line
use Rattle.ris_base.specs.declared.replies.LogLine.{LogLine}
use Rattle.ris_text.specs.Journal.{journal_from, transcript_of}

-- the places of a journal are counted
pub places_from : (n : ℕ) (lines : List Line) → PlacesFrom n (journal_from n lines)
unfolding PlacesFrom journal_from
places_from n [] = tt
places_from n (line.Entry e ∷ lines) = (refl, places_from (n + 1) lines)
places_from n (line.Mark session seq upto ∷ lines) = (refl, places_from n lines)
places_from n (line.Leave session seq ∷ lines) = (refl, places_from n lines)

-- the line that the command of a line's session and number makes
abbrev pub line_made : List (List Command) → Line → Option Line
line_made lists (line.Entry e) = option_and_then (entry_by e.session e.seq) (command_at lists e.session e.seq)
line_made lists (line.Mark session seq upto) = option_and_then (mark_by session seq) (command_at lists session seq)
line_made lists (line.Leave session seq) = option_and_then (leave_by session seq) (command_at lists session seq)

-- a line is the one that its session's command makes
abbrev pub IsMade : List (List Command) → Line → Type 0
IsMade lists l = line_made lists l ≡ Some l

-- a journal names the serial list that it is of
pub lines_named-journal : (lists : List (List Command)) (n : ℕ) (lines : List Line) → AllByRecursion (IsMade lists) lines
    → lines_named lists (journal_from n lines) ≡ lines
unfolding journal_from
lines_named-journal lists n [] made = refl
lines_named-journal lists n (line.Entry e ∷ lines) made = rw (made.0, lines_named-journal lists (n + 1) lines made.1) refl
lines_named-journal lists n (line.Mark session seq upto ∷ lines) made = rw (made.0, lines_named-journal lists n lines made.1) refl
lines_named-journal lists n (line.Leave session seq ∷ lines) made = rw (made.0, lines_named-journal lists n lines made.1) refl

-- each line of it names a command
journal-named : (lists : List (List Command)) (n : ℕ) (lines : List Line) → AllByRecursion (IsMade lists) lines
    → AllByRecursion (λ j. IsSome (line_named lists j)) (journal_from n lines)
unfolding journal_from
journal-named lists n [] made = tt
journal-named lists n (line.Entry e ∷ lines) made = (rw made.0 refl, journal-named lists (n + 1) lines made.1)
journal-named lists n (line.Mark session seq upto ∷ lines) made = (rw made.0 refl, journal-named lists n lines made.1)
journal-named lists n (line.Leave session seq ∷ lines) made = (rw made.0 refl, journal-named lists n lines made.1)

-- a numbered command is the command at its number
numbered-at : (n : ℕ) (commands : List Command) (q : ℕ) (asked : Asked) → slice_get (numbered_from n commands) q ≡ Some asked
    → (asked.seq ≡ n + q) × (slice_get commands q ≡ Some asked.command)
unfolding numbered_from
numbered-at n [] q asked is = cc
numbered-at n (command ∷ commands) zero asked is =
    let same : ◌≡◌ {A = Asked} (record { seq = n; command = command }) asked = cc in
    let seq = ap (λ (a : Asked). a.seq) same in
    (omega arith, ap (λ (a : Asked). Some a.command) same)
numbered-at n (command ∷ commands) (suc q) asked is =
    let rest = numbered-at (n + 1) commands q asked is in
    let seq = rest.0 in
    (omega arith, rest.1)

-- so is the one that a script has at a number
at_number : (lists : List (List Command)) (s q seq : ℕ) (asked : Asked) (made : Command) → HasCommand (asked_in lists) s q asked → seq ≡ asked.seq
    → asked.command ≡ made → command_at lists s seq ≡ Some made
at_number lists s q seq asked made has numbered is =
    let at = numbered-at 0 (slice_index_or lists s []) q asked has in
    let number = at.0 in
    let same : q ≡ seq = omega arith in
    subst (λ (k : ℕ). slice_get (slice_index_or lists s []) k ≡ Some asked.command) same at.1 ∙ ap Some is

-- a line of a session's command is the one that it makes
made_of : (lists : List (List Command)) (l : Line) (q : ℕ) (asked : Asked) → HasCommand (asked_in lists) (session_of l) q asked
    → IsLineOf (session_of l) asked l → IsMade lists l
made_of lists (line.Entry e) q asked has is = rw (at_number lists e.session q e.seq asked (command.Change e.parts) has is.1 is.2) refl
made_of lists (line.Mark session seq upto) q asked has is = rw (at_number lists session q seq asked (command.Release upto) has is.1 is.2) refl
made_of lists (line.Leave session seq) q asked has is = rw (at_number lists session q seq asked command.Leave has is.1 is.2) refl

-- what every command of a script has a line of
abbrev pub OfCommands : List (List Command) → List Line → Type 0
OfCommands lists lines = (i : ℕ) (l : Line) → slice_get lines i ≡ Some l
    → (q : ℕ) × (asked : Asked) × HasCommand (asked_in lists) (session_of l) q asked × IsLineOf (session_of l) asked l

-- where each line of a serial list is a command of its session, it is the one that this makes
pub all_made : (lists : List (List Command)) (lines : List Line) → OfCommands lists lines → AllByRecursion (IsMade lists) lines
all_made lists [] of = tt
all_made lists (l ∷ lines) of =
    let here = of 0 l refl in
    (made_of lists l here.0 here.1 here.2 here.3, all_made lists lines (λ i m is. of (suc i) m is))

-- The replies and the serial list of a legal run make a transcript: there is one reply for each command, of a kind that the
-- command can have, and each number is below 2^64
pub legal_transcript : (setup : Setup) (lists : List (List Command)) (logs : List (List LogLine)) (lines : List Line) (visits : ℕ)
    → EachPair (EachPair (λ command reply. IsTrue (can_have command reply))) lists logs
    → IsLegal setup (asked_in lists) (replies_in logs) lines
    → AllByRecursion (AllByRecursion IsSmall) (all_lines (transcript_of logs lines visits))
    → IsTranscriptOf setup lists (transcript_of logs lines visits)
legal_transcript setup lists logs lines visits kinds legal small =
    let made = all_made lists lines legal.each_once.of_commands in
    let named = lines_named-journal lists 0 lines made in
    record {
      form = record {
        replies = kinds;
        journal = journal-named lists 0 lines made;
        entries = ap front (sym named);
        marks = ap mark_count (sym named);
        refused = refl;
        small = small;
      };
      places = places_from 0 lines;
      legal = rw named legal;
    }
