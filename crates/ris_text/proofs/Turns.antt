-- How a text grows by what is left of a list: by its next item, and not at its end.
use Rattle.std.proofs.Common.{◌≡◌, ℕ, ◌+◌, ◌≤◌, List, [], ◌∷◌, Some, length, drop, map, slice_get}
use Rattle.std.proofs.lemmas.List.{drop_all}
use Rattle.ris_base.specs.Transcript.{fields, log_lines, reply_lines, journal_fields}
use Rattle.ris_base.specs.Transcript.Field.{Number}
use Rattle.ris_base.specs.Transcript.JournalLine.{EntryLine, MarkLine, LeaveLine}
use Rattle.ris_base.specs.declared.lines.Entry.{Entry}
use Rattle.ris_base.specs.declared.lines.Line.{Line}
use Rattle.ris_base.specs.declared.lines.Line.TheVariants as line
use Rattle.ris_base.specs.declared.replies.LogLine.{LogLine}
use Rattle.ris_text.specs.Journal.{journal_from}
use Rattle.ris_text.specs.Spelled.{Adds}
use Rattle.ris_text.proofs.Growth.{adds_none, adds_more}
use Rattle.ris_text.proofs.Rest.{drop-at}

-- one reply, and then those behind it
pub next_reply : (s : ℕ) (log : List LogLine) (q : ℕ) (reply : LogLine) (old mid new : List ℕ) → slice_get log q ≡ Some reply
    → Adds ((Number s ∷ Number q ∷ fields reply) ∷ []) old mid → Adds (log_lines s (q + 1) (drop (q + 1) log)) mid new
    → Adds (log_lines s q (drop q log)) old new
unfolding log_lines
next_reply s log q reply old mid new is first rest = rw (drop-at log q reply is) (adds_more _ _ old mid new first rest)

pub no_reply : (s : ℕ) (log : List LogLine) (q : ℕ) (text : List ℕ) → length log ≤ q → Adds (log_lines s q (drop q log)) text text
unfolding log_lines
no_reply s log q text past = rw (drop_all q log past) (adds_none text)

-- the replies of one session, and then those of the sessions behind it
pub next_log : (logs : List (List LogLine)) (s : ℕ) (log : List LogLine) (old mid new : List ℕ) → slice_get logs s ≡ Some log
    → Adds (log_lines s 0 log) old mid → Adds (reply_lines (s + 1) (drop (s + 1) logs)) mid new → Adds (reply_lines s (drop s logs)) old new
unfolding reply_lines
next_log logs s log old mid new is first rest = rw (drop-at logs s log is) (adds_more _ _ old mid new first rest)

pub no_log : (logs : List (List LogLine)) (s : ℕ) (text : List ℕ) → length logs ≤ s → Adds (reply_lines s (drop s logs)) text text
unfolding reply_lines
no_log logs s text past = rw (drop_all s logs past) (adds_none text)

-- one line of the serial list behind n entries, and then those behind it
pub next_entry : (n : ℕ) (lines : List Line) (k : ℕ) (e : Entry) (old mid new : List ℕ) → slice_get lines k ≡ Some (line.Entry e)
    → Adds (journal_fields (EntryLine (n + 1) e.session e.seq) ∷ []) old mid → Adds (map journal_fields (journal_from (n + 1) (drop (k + 1) lines))) mid new
    → Adds (map journal_fields (journal_from n (drop k lines))) old new
unfolding journal_from
next_entry n lines k e old mid new is first rest = rw (drop-at lines k (line.Entry e) is) (adds_more _ _ old mid new first rest)

pub next_mark : (n : ℕ) (lines : List Line) (k session seq upto : ℕ) (old mid new : List ℕ) → slice_get lines k ≡ Some (line.Mark session seq upto)
    → Adds (journal_fields (MarkLine n session seq) ∷ []) old mid → Adds (map journal_fields (journal_from n (drop (k + 1) lines))) mid new
    → Adds (map journal_fields (journal_from n (drop k lines))) old new
unfolding journal_from
next_mark n lines k session seq upto old mid new is first rest =
    rw (drop-at lines k (line.Mark session seq upto) is) (adds_more _ _ old mid new first rest)

pub next_leave : (n : ℕ) (lines : List Line) (k session seq : ℕ) (old mid new : List ℕ) → slice_get lines k ≡ Some (line.Leave session seq)
    → Adds (journal_fields (LeaveLine n session seq) ∷ []) old mid → Adds (map journal_fields (journal_from n (drop (k + 1) lines))) mid new
    → Adds (map journal_fields (journal_from n (drop k lines))) old new
unfolding journal_from
next_leave n lines k session seq old mid new is first rest =
    rw (drop-at lines k (line.Leave session seq) is) (adds_more _ _ old mid new first rest)

pub no_line : (n : ℕ) (lines : List Line) (k : ℕ) (text : List ℕ) → length lines ≤ k → Adds (map journal_fields (journal_from n (drop k lines))) text text
unfolding journal_from
no_line n lines k text past = rw (drop_all k lines past) (adds_none text)
