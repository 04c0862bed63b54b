use Rattle.std.proofs.Common.{List, ap, ◌∙◌}
use Rattle.ris_history.specs.Applied.{trimmed_table}
use Rattle.ris_history.specs.Chains.{ChainView}
use Rattle.ris_history.specs.HistoryView.{TableView}
use Rattle.ris_history.proofs.TableLemmas.{trimmed-sound}
use Rattle.ris_history.proofs.tables.Table.trim.Goals as goal

pub invariant_of-self : goal.invariant_of-self
invariant_of-self c =
    let old = c.self.inside in
    let done = c.trim-self-inside.ensures in
    trimmed-sound old.analyses c.args.floor old.dues.items c.trim-self-inside.new.dues.items old.chains.items c.trim-self-inside.new.chains.items old.front old.kept c.trim-self-inside.result c.self.invariant
    done.chains done.order (done.ends old.front c.self.invariant.past)

pub returns : goal.returns
unfolding trimmed_table
returns c =
    ap (λ (xs : List ChainView). let t : TableView = record { front = c.self.inside.front; analyses = c.self.inside.analyses; chains = xs } in t) c.trim-self-inside.ensures.chains
    ∙ ap (trimmed_table c.args.floor) c.self.view_is
