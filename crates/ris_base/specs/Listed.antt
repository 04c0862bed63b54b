-- The updates that the code's two forms of a list of parts hold.
use Rattle.std.specs.Prelude.{◌≤◌, List, [], ◌∷◌, length, ⊤}
use Rattle.ris_base.specs.declared.updates.Update.{Update}
use Rattle.ris_base.specs.declared.parts.Listed.{Listed}
use Rattle.ris_base.specs.declared.parts.Listed.TheVariants as listed

-- the updates, in order
abbrev pub updates_of : Listed → List Update
updates_of listed.None = []
updates_of (listed.One update) = update ∷ []
updates_of (listed.Many updates) = updates.items

-- the form that takes memory has two updates or more
abbrev pub IsThrifty : Listed → Type 0
IsThrifty listed.None = ⊤
IsThrifty (listed.One update) = ⊤
IsThrifty (listed.Many updates) = 2 ≤ length updates.items
