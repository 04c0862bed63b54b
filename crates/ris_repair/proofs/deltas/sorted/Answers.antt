-- Sorted rows of different vertices ascend.
use Rattle.std.proofs.Common.{List, rules, refl, sym, subst}
use Rattle.std.specs.List.Sorted.{IsPermutation}
use Rattle.std.proofs.lemmas.List.Sorted.{IsNonDecreasingBy-from_sort_by_key}
use Rattle.ris_forest.specs.declared.deltas.DeltaRow.{DeltaRow}
use Rattle.ris_repair.proofs.SortLemmas.{vertices_of, sorted_ascending}
use Rattle.ris_repair.proofs.deltas.sorted.Goals as goal

pub from_rows-requires : goal.from_rows-requires
from_rows-requires c =
    sorted_ascending (vertices_of c.args.rows.items) c.args.rows.items c.sort_unstable_by_key.new.self.items refl c.requires
    c.sort_unstable_by_key.ensures.permutation
    (IsNonDecreasingBy-from_sort_by_key (λ row. row.vertex) _ c.sort_unstable_by_key.ensures.sorted (λ a r q k. search rules))

pub returns : goal.returns
returns c =
    subst (λ (rows : List DeltaRow). IsPermutation c.args.rows.items rows) (sym c.from_rows.ensures) c.sort_unstable_by_key.ensures.permutation
