use Rattle.std.proofs.Common.{List, [], sym, ap, ◌∙◌, subst}
use Rattle.ris_history.specs.Applied.{opened_table}
use Rattle.ris_history.specs.Chains.{ChainView, with_forests}
use Rattle.ris_history.specs.HistoryView.{TableView}
use Rattle.ris_history.specs.Sound.{IsSound}
use Rattle.ris_history.specs.declared.trims.Due.{Due}
use Rattle.ris_history.proofs.TableLemmas.{opened-sound}
use Rattle.ris_history.proofs.tables.Table.start.Goals as goal

pub invariant_of-result : goal.invariant_of-result
invariant_of-result c =
    subst (λ (qs : List Due). IsSound c.in_ok-chains.chains.items qs 0 0 c.in-Ok.analyses) (sym c.new.ensures.items)
    (opened-sound c.in-Ok.analyses c.args.forests.now c.in_ok-chains.chains.items c.in_ok-chains.ensures.chains c.in_ok-chains.ensures.size)

pub returns : goal.returns
unfolding opened_table
returns c =
    ap (λ (xs : List ChainView). let t : TableView = record { front = 0; analyses = c.in-Ok.analyses; chains = xs } in t) c.in_ok-chains.ensures.chains
    ∙ ap (λ n. let t : TableView = record { front = 0; analyses = n; chains = with_forests n 0 c.args.forests.now [] } in t) (c.in-Ok.ensures.1 ∙ c.len.ensures)
