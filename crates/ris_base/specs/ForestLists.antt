-- Lists of rows of a forest.
use Rattle.std.specs.Prelude.{◌<◌, List}
use Rattle.std.specs.List.{AllPairs}
use Rattle.ris_base.specs.declared.forests.ForestRow.{ForestRow}

-- each row's vertex is less than those of all later rows
abbrev pub AreAscendingRows : List ForestRow → Type 0
AreAscendingRows rows = AllPairs (λ row later. row.vertex < later.vertex) rows
