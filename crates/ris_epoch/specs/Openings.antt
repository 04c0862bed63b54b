-- The forests of place 0 as a driver's opening lists them.
use Rattle.std.specs.Prelude.{◌≡◌, ℕ, ◌≤◌, List}
use Rattle.std.specs.List.{All}
use Rattle.ris_base.specs.Forest.{Forest}
use Rattle.ris_base.specs.declared.analyses.Value.TheVariants as value
use Rattle.ris_base.specs.declared.forests.Parent.TheVariants as parent

-- a forest in which all vertices from a number on are absent
pub record IsBelow (vertices : ℕ) (F : Forest) : Type 0 where
  pub values : (x : ℕ) → vertices ≤ x → F.value x ≡ value.Absent
  pub parents : (x : ℕ) → vertices ≤ x → F.parent x ≡ parent.None

-- so are all forests
abbrev pub AreBelow : ℕ → List Forest → Type 0
AreBelow vertices forests = All (IsBelow vertices) forests
