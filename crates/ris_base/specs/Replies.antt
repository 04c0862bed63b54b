-- Replies: which a command can have, their numbers, and which are refusals.
use Rattle.std.specs.Prelude.{ℕ, Bool, true, false, Option, Some, None}
use Rattle.ris_base.specs.declared.commands.Command.{Command}
use Rattle.ris_base.specs.declared.commands.Command.TheVariants as command
use Rattle.ris_base.specs.declared.replies.LogLine.{LogLine}
use Rattle.ris_base.specs.declared.replies.LogLine.TheVariants.{Reply, Answer, Denied}
use Rattle.ris_base.specs.declared.replies.Outcome.{Outcome}
use Rattle.ris_base.specs.declared.replies.Outcome.TheVariants as outcome
use Rattle.ris_base.specs.declared.replies.ReadAnswer.{ReadAnswer}
use Rattle.ris_base.specs.declared.replies.ReadAnswer.TheVariants as answer
use Rattle.ris_base.specs.declared.replies.ReadRefusal.{ReadRefusal}
use Rattle.ris_base.specs.declared.replies.ReadRefusal.TheVariants as denial
use Rattle.ris_base.specs.declared.replies.Refusal.{Refusal}
use Rattle.ris_base.specs.declared.replies.Refusal.TheVariants as refusal

-- The number of a reply: the place of an accepted entry, and the front in every other kind. Want of memory has none, nor has
-- what is no reply in a log

abbrev pub refusal_number : Refusal → Option ℕ
refusal_number (refusal.NoVertex front part id) = Some front
refusal_number (refusal.NoEdge front part) = Some front
refusal_number (refusal.Limit front part given) = Some front
refusal_number refusal.NoMemory = None

abbrev pub outcome_number : Outcome → Option ℕ
outcome_number (outcome.Placed place) = Some place
outcome_number (outcome.Marked front upto) = Some front
outcome_number (outcome.Left front) = Some front
outcome_number (outcome.Refused refused) = refusal_number refused
outcome_number (outcome.NotYet front) = Some front
outcome_number outcome.Closed = None

abbrev pub answer_number : ReadAnswer → ℕ
answer_number (answer.Value front place value) = front
answer_number (answer.Parent front place parent) = front
answer_number (answer.Path front place vertices) = front
answer_number (answer.Modified front place vertices) = front
answer_number (answer.Current front floor) = front

abbrev pub denial_number : ReadRefusal → Option ℕ
denial_number (denial.NotYet front) = Some front
denial_number (denial.Released front floor) = Some front
denial_number denial.NoMemory = None
denial_number denial.Shut = None

abbrev pub number : LogLine → Option ℕ
number (Reply outcome) = outcome_number outcome
number (Answer answered) = Some (answer_number answered)
number (Denied denied) = denial_number denied

-- the floor that a reply prints
abbrev pub printed_floor : LogLine → Option ℕ
printed_floor (Answer (answer.Current front floor)) = Some floor
printed_floor (Denied (denial.Released front floor)) = Some floor
printed_floor reply = None

-- the place of the last accepted entry, where that before this reply was `last`
abbrev pub placed_or : ℕ → LogLine → ℕ
placed_or last (Reply (outcome.Placed place)) = place
placed_or last reply = last

-- whether a reply says that memory was wanted
abbrev pub wants_memory : LogLine → Bool
wants_memory (Reply (outcome.Refused refusal.NoMemory)) = true
wants_memory (Denied denial.NoMemory) = true
wants_memory reply = false

-- whether a command may be answered so: a change, a release, a leave, or a read of a path or of moved vertices
abbrev pub may_want_memory : Command → Bool
may_want_memory (command.Change parts) = true
may_want_memory (command.Release upto) = true
may_want_memory command.Leave = true
may_want_memory (command.Path version a x) = true
may_want_memory (command.Modified version a) = true
may_want_memory asked = false

-- whether a reply counts as refused in the summary: it says `novertex`, `noedge`, `limit`, `notyet`, `released` or `nomem`
abbrev pub is_refused : LogLine → Bool
is_refused (Reply (outcome.Refused refused)) = true
is_refused (Reply (outcome.NotYet front)) = true
is_refused (Denied denial.Shut) = false
is_refused (Denied denied) = true
is_refused reply = false

-- The replies that a command can have, by its form

abbrev pub is_of_change : LogLine → Bool
is_of_change (Reply (outcome.Placed place)) = true
is_of_change (Reply (outcome.Refused refused)) = true
is_of_change reply = false

abbrev pub is_of_release : LogLine → Bool
is_of_release (Reply (outcome.Marked front upto)) = true
is_of_release (Reply (outcome.NotYet front)) = true
is_of_release (Reply (outcome.Refused refusal.NoMemory)) = true
is_of_release reply = false

abbrev pub is_of_leave : LogLine → Bool
is_of_leave (Reply (outcome.Left front)) = true
is_of_leave (Reply (outcome.Refused refusal.NoMemory)) = true
is_of_leave reply = false

-- a read at a place may find the place not yet made, or released
abbrev pub is_barred : LogLine → Bool
is_barred (Denied (denial.NotYet front)) = true
is_barred (Denied (denial.Released front floor)) = true
is_barred reply = false

abbrev pub is_of_value : LogLine → Bool
is_of_value (Answer (answer.Value front place value)) = true
is_of_value reply = is_barred reply

abbrev pub is_of_parent : LogLine → Bool
is_of_parent (Answer (answer.Parent front place parent)) = true
is_of_parent reply = is_barred reply

abbrev pub is_of_path : LogLine → Bool
is_of_path (Answer (answer.Path front place vertices)) = true
is_of_path (Denied denial.NoMemory) = true
is_of_path reply = is_barred reply

abbrev pub is_of_modified : LogLine → Bool
is_of_modified (Answer (answer.Modified front place vertices)) = true
is_of_modified (Denied denial.NoMemory) = true
is_of_modified reply = is_barred reply

abbrev pub is_of_current : LogLine → Bool
is_of_current (Answer (answer.Current front floor)) = true
is_of_current reply = false

abbrev pub can_have : Command → LogLine → Bool
can_have (command.Change parts) reply = is_of_change reply
can_have (command.Release upto) reply = is_of_release reply
can_have command.Leave reply = is_of_leave reply
can_have (command.Value version a x) reply = is_of_value reply
can_have (command.Parent version a x) reply = is_of_parent reply
can_have (command.Path version a x) reply = is_of_path reply
can_have (command.Modified version a) reply = is_of_modified reply
can_have command.Current reply = is_of_current reply
