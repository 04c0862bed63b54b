-- The numbers of a transcript are below 2^64 where those of the run are.
use Rattle.std.proofs.Common.{ℕ, ◌+◌, ◌<◌, ◌≤◌, ◌^◌, List, [], ◌∷◌, length, map, arith}
use Rattle.std.specs.List.{AllByRecursion}
use Rattle.ris_base.specs.Lines.{front, mark_count}
use Rattle.ris_base.specs.Transcript.{IsSmall, all_lines, log_lines, reply_lines, journal_fields, refused_count, summary_fields}
use Rattle.ris_base.specs.declared.lines.Line.{Line}
use Rattle.ris_base.specs.declared.lines.Line.TheVariants as line
use Rattle.ris_base.specs.declared.replies.LogLine.{LogLine}
use Rattle.ris_text.specs.Journal.{journal_from, summary_of, transcript_of}
use Rattle.ris_text.specs.Small.{IsSmallReply, IsSmallLog, IsSmallLine, AreSmall}
use Rattle.ris_text.proofs.Growth.{small-append}

-- the reply lines of a session
small_log : (s q : ℕ) (log : List LogLine) → s < 2 ^ 64 → q + length log < 2 ^ 64 → AllByRecursion IsSmallReply log
    → AllByRecursion (AllByRecursion IsSmall) (log_lines s q log)
unfolding log_lines
small_log s q [] s_small few all = tt
small_log s q (reply ∷ log) s_small few all = ((s_small, (omega arith, all.0)), small_log s (q + 1) log s_small (omega arith) all.1)

-- the reply lines of all sessions
small_replies : (s : ℕ) (logs : List (List LogLine)) → s + length logs < 2 ^ 64 → AllByRecursion IsSmallLog logs
    → AllByRecursion (AllByRecursion IsSmall) (reply_lines s logs)
unfolding reply_lines
small_replies s [] few all = tt
small_replies s (log ∷ logs) few all =
    let commands = all.0.commands in
    small-append _ _ (small_log s 0 log (omega arith) (omega arith) all.0.replies) (small_replies (s + 1) logs (omega arith) all.1)

-- the journal lines
small_journal : (n : ℕ) (lines : List Line) → n + length lines < 2 ^ 64 → AllByRecursion IsSmallLine lines
    → AllByRecursion (AllByRecursion IsSmall) (map journal_fields (journal_from n lines))
unfolding journal_from
small_journal n [] few all = tt
small_journal n (line.Entry e ∷ lines) few all =
    ((tt, (tt, (omega arith, (all.0.session, (all.0.seq, tt))))), small_journal (n + 1) lines (omega arith) all.1)
small_journal n (line.Mark session seq upto ∷ lines) few all =
    ((tt, (tt, (omega arith, (all.0.session, (all.0.seq, tt))))), small_journal n lines (omega arith) all.1)
small_journal n (line.Leave session seq ∷ lines) few all =
    ((tt, (tt, (omega arith, (all.0.session, (all.0.seq, tt))))), small_journal n lines (omega arith) all.1)

-- a list has at most as many entries, and marks, as lines
pub front-le : (lines : List Line) → front lines ≤ length lines
unfolding front
front-le [] = omega arith
front-le (line.Entry e ∷ lines) = let more = front-le lines in omega arith
front-le (line.Mark session seq upto ∷ lines) = let more = front-le lines in omega arith
front-le (line.Leave session seq ∷ lines) = let more = front-le lines in omega arith

pub mark_count-le : (lines : List Line) → mark_count lines ≤ length lines
unfolding mark_count
mark_count-le [] = omega arith
mark_count-le (line.Entry e ∷ lines) = let more = mark_count-le lines in omega arith
mark_count-le (line.Mark session seq upto ∷ lines) = let more = mark_count-le lines in omega arith
mark_count-le (line.Leave session seq ∷ lines) = let more = mark_count-le lines in omega arith

-- the summary
small_summary : (logs : List (List LogLine)) (lines : List Line) (visits : ℕ) → length lines < 2 ^ 64 → refused_count logs < 2 ^ 64 → visits < 2 ^ 64
    → AllByRecursion IsSmall (summary_fields (summary_of logs lines visits))
small_summary logs lines visits places refused visits_small =
    let entries = front-le lines in
    let marks = mark_count-le lines in
    (tt, (omega arith, (omega arith, (refused, (visits_small, tt)))))

-- all lines of a transcript
pub small_transcript : (logs : List (List LogLine)) (lines : List Line) (visits : ℕ) → AreSmall logs lines → refused_count logs < 2 ^ 64 → visits < 2 ^ 64
    → AllByRecursion (AllByRecursion IsSmall) (all_lines (transcript_of logs lines visits))
small_transcript logs lines visits small refused visits_small =
    small-append _ _
    (small-append _ _ (small_replies 0 logs (let few = small.sessions in omega arith) small.replies)
    (small_journal 0 lines (let few = small.places in omega arith) small.made))
    (small_summary logs lines visits small.places refused visits_small, tt)
