use Rattle.std.proofs.Common.{◌∙◌}
use Rattle.ris_text.proofs.Growth.{adds_summary, only_line}
use Rattle.ris_text.proofs.SmallLaws.{small_transcript}
use Rattle.ris_text.proofs.transcripts.summary_text.Goals as goal

pub returns : goal.returns
returns c =
    let logs = c.args.logs.now in
    let lines = c.args.lines.now in
    let added = adds_summary logs lines c.args.visits _ _ _ c.in_ok-counts_of.ensures c.in_ok-put_summary.ensures in
    record {
      text = c.into_text.ensures ∙ only_line _ _ _ c.in_ok-printer.ensures added;
      small = small_transcript logs lines c.args.visits c.read_numbers.ensures added.small.0.1.1.1.0 c.ranges.visits.fits;
    }
