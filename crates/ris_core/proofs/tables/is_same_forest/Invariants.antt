use Rattle.std.proofs.Common.{ℕ, ◌≡◌, ◌<◌}
use Rattle.ris_base.specs.Forest.{parent_in, value_in}
use Rattle.ris_core.proofs.tables.is_same_forest.Given as goal

abbrev pub invariant-loop-x : goal.invariant-loop-x
invariant-loop-x l = (y : ℕ) → y < l.x → (value_in l.a y ≡ value_in l.b y) × (parent_in l.a y ≡ parent_in l.b y)
