-- The plain graph that is being changed, and what a part of a request makes of it.
use Rattle.std.specs.Prelude.{ℕ, Option}
use Rattle.std.specs.Option.{option_map}
use Rattle.ris_base.specs.Effect.{objection}
use Rattle.ris_base.specs.Requests.{refused_at}
use Rattle.ris_base.specs.declared.graphs.PlainGraph.{PlainGraph}
use Rattle.ris_base.specs.declared.replies.Refusal.{Refusal}
use Rattle.ris_base.specs.declared.updates.Update.{Update}
use Rattle.ris_four.specs.declared.effects.Working.{Working}

-- the plain graph that it is
abbrev pub plain_of : Working → PlainGraph
plain_of w = record { format = w.format; vertices = w.vertices.items; triples = w.triples.items }

-- the refusal of the part with this number, with a front, where there is an objection to its update
abbrev pub refusal_at : ℕ → ℕ → PlainGraph → Update → Option Refusal
refusal_at front part g update = option_map (λ why. refused_at front (record { part = part; why = why })) (objection g update)
