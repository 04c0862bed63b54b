-- The rows in the order of their vertices.
use Rattle.std.proofs.Common.{ℕ, List, Option, nat_eq, refl, sym, subst}
use Rattle.std.specs.Cmp.{nat_eq_equiv}
use Rattle.std.specs.HashMap.{get, keys}
use Rattle.std.specs.List.{IsDistinct}
use Rattle.std.specs.Option.{IsSome}
use Rattle.std.proofs.lemmas.Bool.{eqb-true}
use Rattle.std.proofs.lemmas.Map.Views.{hash_map_contains_key_iff}
use Rattle.ris_forest.specs.Cells.{forest_of}
use Rattle.ris_repair.specs.declared.stores.Change.{Change}
use Rattle.ris_repair.proofs.SortLemmas.{sorted_whole}
use Rattle.ris_repair.proofs.deltas.map_delta.Goals as goal

pub sorted-requires : goal.sorted-requires
sorted-requires g c = subst (λ (l : List ℕ). IsDistinct nat_eq l) (sym c.in_ok-rows.ensures.keys) c.rows_of.ensures.unique

pub returns : goal.returns
returns g c =
    let m = c.args.changes.now in
    sorted_whole (forest_of c.args.forest.now.cells) (get nat_eq m) (keys m) c.in_ok-rows.rows.items c.sorted.result
    c.in_ok-rows.ensures.each c.in_ok-rows.ensures.keys
    (λ x change is. (hash_map_contains_key_iff nat_eq_equiv eqb-true m x).0 (subst (λ (o : Option Change). IsSome o) (sym is) refl))
    c.sorted.ensures
