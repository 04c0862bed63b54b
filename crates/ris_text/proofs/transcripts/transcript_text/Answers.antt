use Rattle.std.proofs.Common.{◌∙◌}
use Rattle.ris_text.proofs.Growth.{adds_more, adds_summary}
use Rattle.ris_text.proofs.transcripts.transcript_text.Goals as goal

pub returns : goal.returns
returns c =
    let last = adds_summary c.args.logs.now c.args.lines.now c.args.visits _ _ _ c.in_ok-counts_of.ensures c.in_ok-put_summary.ensures in
    let lines = adds_more _ _ _ _ _ c.in_ok-put_replies.ensures c.in_ok-put_journal.ensures in
    let all = rw c.in_ok-printer.ensures at (adds_more _ _ _ _ _ lines last) in
    record { text = c.into_text.ensures ∙ all.text; small = all.small }
