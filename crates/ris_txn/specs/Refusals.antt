-- What the answer to a refused request says.
use Rattle.std.specs.Prelude.{◌≡◌, ℕ, ◌⊎◌, List, Some}
use Rattle.ris_base.specs.Requests.{RefusedPart, refusal_of, refused_at}
use Rattle.ris_base.specs.declared.graphs.PlainGraph.{PlainGraph}
use Rattle.ris_base.specs.declared.updates.Update.{Update}
use Rattle.ris_base.specs.declared.replies.Refusal.{Refusal}
use Rattle.ris_base.specs.declared.replies.Refusal.TheVariants as refusal

-- memory was wanted, or the request is refused on this graph, and this says so with its first refused part and the front
abbrev pub IsRefusal : PlainGraph → List Update → ℕ → Refusal → Type 0
IsRefusal p parts front answer =
    (answer ≡ refusal.NoMemory) ⊎ ((refused : RefusedPart) × (refusal_of p parts ≡ Some refused) × (answer ≡ refused_at front refused))
