-- The rows in the order of their vertices.
use Rattle.std.proofs.Common.{ℕ, List, Option, nat_eq, refl, sym, subst}
use Rattle.std.specs.List.{IsDistinct}
use Rattle.std.specs.Map.{keys_of}
use Rattle.std.specs.Option.{IsSome}
use Rattle.std.proofs.lemmas.Bool.{eqb-true}
use Rattle.std.proofs.lemmas.Map.Views.{Contains-keys_from_lookup}
use Rattle.ris_forest.specs.Cells.{forest_of}
use Rattle.ris_repair.specs.Fews.{change_in}
use Rattle.ris_repair.specs.declared.stores.Change.{Change}
use Rattle.ris_repair.proofs.SortLemmas.{sorted_whole}
use Rattle.ris_repair.proofs.deltas.few_delta.Goals as goal

pub sorted-requires : goal.sorted-requires
sorted-requires g c = subst (λ (l : List ℕ). IsDistinct nat_eq l) (sym c.in_ok-rows.ensures.keys) c.few_rows.ensures.unique

pub returns : goal.returns
returns g c =
    let few = c.args.changes.now in
    sorted_whole (forest_of c.args.forest.now.cells) (change_in few) (keys_of few) c.in_ok-rows.rows.items c.sorted.result
    c.in_ok-rows.ensures.each c.in_ok-rows.ensures.keys
    (λ x change is. Contains-keys_from_lookup eqb-true x few (subst (λ (o : Option Change). IsSome o) (sym is) refl))
    c.sorted.ensures
