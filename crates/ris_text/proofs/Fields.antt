-- Replies that can be printed: they have fields, and the replies to commands are such.
use Rattle.std.proofs.Common.{suc, zero, ◌≤◌, IsTrue, All, List, [], ◌∷◌, length, refl, arith}
use Rattle.ris_base.specs.Lists.{EachPair}
use Rattle.ris_base.specs.Replies.{can_have}
use Rattle.ris_base.specs.declared.commands.Command.{Command}
use Rattle.ris_base.specs.declared.commands.Command.TheVariants as command
use Rattle.ris_base.specs.Transcript.{fields, answer_fields}
use Rattle.ris_base.specs.declared.replies.LogLine.{LogLine}
use Rattle.ris_base.specs.declared.replies.LogLine.TheVariants.{Reply, Answer, Denied}
use Rattle.ris_base.specs.declared.replies.Outcome.TheVariants as outcome
use Rattle.ris_base.specs.declared.replies.ReadAnswer.{ReadAnswer}
use Rattle.ris_base.specs.declared.replies.ReadAnswer.TheVariants as answer
use Rattle.ris_base.specs.declared.replies.ReadRefusal.TheVariants as denial
use Rattle.ris_base.specs.declared.replies.Refusal.TheVariants as refusal
use Rattle.ris_text.specs.Printable.{is_printable, ArePrintable}

-- an answer has fields
pub answer_some : (answered : ReadAnswer) → 1 ≤ length (answer_fields answered)
answer_some (answer.Value front place value) = omega arith
answer_some (answer.Parent front place parent) = omega arith
answer_some (answer.Path front place vertices) = omega arith
answer_some (answer.Modified front place vertices) = omega arith
answer_some (answer.Current front floor) = omega arith

-- a reply that can be printed has fields
pub printable_some : (reply : LogLine) → IsTrue (is_printable reply) → 1 ≤ length (fields reply)
printable_some (Reply (outcome.Placed place)) is = omega arith
printable_some (Reply (outcome.Marked front upto)) is = omega arith
printable_some (Reply (outcome.Left front)) is = omega arith
printable_some (Reply (outcome.Refused (refusal.NoVertex front part id))) is = omega arith
printable_some (Reply (outcome.Refused (refusal.NoEdge front part))) is = omega arith
printable_some (Reply (outcome.Refused (refusal.Limit front part given))) is = omega arith
printable_some (Reply (outcome.Refused refusal.NoMemory)) is = omega arith
printable_some (Reply (outcome.NotYet front)) is = omega arith
printable_some (Reply outcome.Closed) is = cc
printable_some (Answer answered) is = answer_some answered
printable_some (Denied (denial.NotYet front)) is = omega arith
printable_some (Denied (denial.Released front floor)) is = omega arith
printable_some (Denied denial.NoMemory) is = omega arith
printable_some (Denied denial.Shut) is = cc

-- a reply that some command can have can be printed
pub can_have-printable : (asked : Command) (reply : LogLine) → IsTrue (can_have asked reply) → IsTrue (is_printable reply)
can_have-printable asked (Reply (outcome.Placed place)) is = refl
can_have-printable asked (Reply (outcome.Marked front upto)) is = refl
can_have-printable asked (Reply (outcome.Left front)) is = refl
can_have-printable asked (Reply (outcome.Refused refused)) is = refl
can_have-printable asked (Reply (outcome.NotYet front)) is = refl
can_have-printable asked (Answer answered) is = refl
can_have-printable asked (Denied (denial.NotYet front)) is = refl
can_have-printable asked (Denied (denial.Released front floor)) is = refl
can_have-printable asked (Denied denial.NoMemory) is = refl
can_have-printable (command.Change parts) (Reply outcome.Closed) is = cc
can_have-printable (command.Release upto) (Reply outcome.Closed) is = cc
can_have-printable command.Leave (Reply outcome.Closed) is = cc
can_have-printable (command.Value version a x) (Reply outcome.Closed) is = cc
can_have-printable (command.Parent version a x) (Reply outcome.Closed) is = cc
can_have-printable (command.Path version a x) (Reply outcome.Closed) is = cc
can_have-printable (command.Modified version a) (Reply outcome.Closed) is = cc
can_have-printable command.Current (Reply outcome.Closed) is = cc
can_have-printable (command.Change parts) (Denied denial.Shut) is = cc
can_have-printable (command.Release upto) (Denied denial.Shut) is = cc
can_have-printable command.Leave (Denied denial.Shut) is = cc
can_have-printable (command.Value version a x) (Denied denial.Shut) is = cc
can_have-printable (command.Parent version a x) (Denied denial.Shut) is = cc
can_have-printable (command.Path version a x) (Denied denial.Shut) is = cc
can_have-printable (command.Modified version a) (Denied denial.Shut) is = cc
can_have-printable command.Current (Denied denial.Shut) is = cc

-- what holds of each second item of a pair holds of all second items
each_second : {X Y : Type 0} (R : X → Y → Type 0) (P : Y → Type 0) → ((x : X) (y : Y) → R x y → P y) → (xs : List X) (ys : List Y) → EachPair R xs ys → All P ys
each_second R P from xs [] pairs k d within = absurd (omega arith)
each_second R P from [] (y ∷ ys) pairs k d within = absurd pairs
each_second R P from (x ∷ xs) (y ∷ ys) pairs zero d within = from x y pairs.0
each_second R P from (x ∷ xs) (y ∷ ys) pairs (suc k) d within = each_second R P from xs ys pairs.1 k d (omega arith)

-- where each command has a reply that it can have, all replies can be printed
pub replies_printable : (lists : List (List Command)) (logs : List (List LogLine))
    → EachPair (EachPair (λ asked reply. IsTrue (can_have asked reply))) lists logs → ArePrintable logs
replies_printable lists logs kinds =
    each_second (EachPair (λ asked reply. IsTrue (can_have asked reply))) (All (λ reply. IsTrue (is_printable reply)))
    (λ commands log pairs. each_second (λ asked reply. IsTrue (can_have asked reply)) (λ reply. IsTrue (is_printable reply)) can_have-printable commands log pairs)
    lists logs kinds
