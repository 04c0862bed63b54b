use Rattle.std.proofs.Common.{◌≡◌, ◌+◌, length, arith, ap, ◌∙◌}
use Rattle.ris_base.specs.Lines.{front}
use Rattle.ris_base.specs.Machine.{session_by}
use Rattle.ris_base.proofs.LineLemmas.{front-entry}
use Rattle.ris_journal.specs.JournalView.{JournalView}
use Rattle.ris_epoch.proofs.OrderingLemmas.{length-inserted}
use Rattle.ris_epoch.proofs.seals.seal.Goals as goal

pub returns-in-Applied-clause-fronts : goal.returns-in-Applied-clause-fronts
returns-in-Applied-clause-fronts c =
    let more : front c.append.new.journal.lines ≡ front c.args.journal.now.lines + 1 =
    ap (λ (j : JournalView). front j.lines) c.append.ensures.line ∙ front-entry c.args.journal.now.lines _ in
    omega arith

pub returns-in-Bounced-clause-counts : goal.returns-in-Bounced-clause-counts
returns-in-Bounced-clause-counts c =
    let more : length c.add.new.self ≡ length c.args.rest.now + 1 = ap length c.add.ensures ∙ length-inserted session_by c.args.rest.now _ in
    omega arith

pub returns-in-Bounced-clause-fronts : goal.returns-in-Bounced-clause-fronts
returns-in-Bounced-clause-fronts c =
    let more : length c.add.new.self ≡ length c.args.rest.now + 1 = ap length c.add.ensures ∙ length-inserted session_by c.args.rest.now _ in
    omega arith
