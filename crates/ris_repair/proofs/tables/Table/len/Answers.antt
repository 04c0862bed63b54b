-- There are as many places as marks.
use Rattle.std.proofs.Common.{length, sym, ap, ◌∙◌}
use Rattle.ris_repair.proofs.PlaceLemmas.{length-changes}
use Rattle.ris_repair.proofs.tables.Table.len.Goals as goal

pub returns : goal.returns
returns c =
    let t = c.self.inside in
    c.len.ensures ∙ t.marks.ok.0 ∙ sym (length-changes t.marks.items t.numbers.items t.parents.items) ∙ ap length c.self.view_is
