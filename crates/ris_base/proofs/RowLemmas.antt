-- Lists in which each item stands in an order to all later ones.
use Rattle.std.proofs.Common.{◌+◌, List, drop, arith}
use Rattle.std.specs.List.{AllPairs}
use Rattle.std.proofs.lemmas.Grind.{get_or_after_one}
use Rattle.std.proofs.lemmas.List.{length-drop}

-- what holds of all pairs holds of those behind the first item
pub AllPairs-drop_one : {X : Type 0} (R : X → X → Type 0) (xs : List X) → AllPairs R xs → AllPairs R (drop 1 xs)
AllPairs-drop_one {X} R xs h i j d lt len =
    rw (get_or_after_one xs i d, get_or_after_one xs j d) (h (1 + i) (1 + j) d (omega arith) (omega (arith, length-drop 1 xs)))
