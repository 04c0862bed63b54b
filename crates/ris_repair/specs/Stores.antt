-- The changes that a store holds.
use Rattle.std.specs.Prelude.{ℕ, Option, None, nat_eq, slice_index_or}
use Rattle.std.specs.HashMap.{get}
use Rattle.ris_repair.specs.Fews.{change_in}
use Rattle.ris_repair.specs.declared.stores.Change.{Change}
use Rattle.ris_repair.specs.declared.stores.Store.{Store}
use Rattle.ris_repair.specs.declared.stores.Store.TheVariants.{Few, Sparse, Dense}

-- the change of each vertex that has one
abbrev pub change_at : Store → ℕ → Option Change
change_at (Few few) x = change_in few x
change_at (Sparse map) x = get nat_eq map x
change_at (Dense table) x = slice_index_or table x None
