-- The law of safe updates.
use Rattle.std.specs.Prelude.{◌≡◌, ℕ, true, List, [], ◌∷◌}
use Rattle.std.specs.List.{All}
use Rattle.ris_base.specs.Falling.{IsReach}
use Rattle.ris_base.specs.Forest.{Forest, AreForests}
use Rattle.ris_base.specs.Graph.{IsProper}
use Rattle.ris_base.specs.Requests.{entered}
use Rattle.ris_base.specs.Safe.{is_safe}
use Rattle.ris_base.specs.Value.{Moves}
use Rattle.ris_base.specs.declared.analyses.Spec.{Spec}
use Rattle.ris_base.specs.declared.graphs.PlainGraph.{PlainGraph}
use Rattle.ris_base.specs.declared.updates.Update.{Update}

-- what a request of this one update leaves as it was: right forests are right behind it, no value moves, and its reach is 0
pub record IsHarmless (g : PlainGraph) (specs : List Spec) (forests : List Forest) (update : Update) : Type 0 where
  pub right : AreForests (entered g (update ∷ [])) specs forests
  pub values : All (λ spec. (x : ℕ) → ¬ (Moves g (entered g (update ∷ [])) spec x)) specs
  pub reach : IsReach g specs forests (update ∷ []) 0

-- every safe update is harmless where the forests are right, whether it is accepted or lacks its copy
abbrev pub SafeIsHarmless : Type 0
SafeIsHarmless = (g : PlainGraph) (specs : List Spec) (forests : List Forest) (update : Update) → IsProper g → AreForests g specs forests
    → is_safe g specs forests update ≡ true → IsHarmless g specs forests update
