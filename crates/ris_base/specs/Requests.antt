-- What a request of several parts does, and the graph after the first entries of a list of lines.
use Rattle.std.specs.Prelude.{ℕ, zero, suc, ◌+◌, List, [], ◌∷◌, Option, Result, Ok, Err}
use Rattle.std.specs.Result.{result_err, result_unwrap_or}
use Rattle.ris_base.specs.Effect.{Objection, does}
use Rattle.ris_base.specs.Effect.Objection.{Limit, NoVertex, NoEdge}
use Rattle.ris_base.specs.declared.graphs.PlainGraph.{PlainGraph}
use Rattle.ris_base.specs.declared.updates.Update.{Update}
use Rattle.ris_base.specs.declared.lines.Line.{Line}
use Rattle.ris_base.specs.declared.lines.Line.TheVariants.{Entry, Mark, Leave}
use Rattle.ris_base.specs.declared.replies.Refusal.{Refusal}
use Rattle.ris_base.specs.declared.replies.Refusal.TheVariants as refusal

-- a part that is refused: its number, from 1, and why
pub record RefusedPart : Type 0 where
  pub part : ℕ
  pub why : Objection

-- the graph after the parts, one after another, the first of which has this number; or the first that is refused
unfoldable pub does_from : ℕ → PlainGraph → List Update → Result PlainGraph RefusedPart
does_from k g [] = Ok g
does_from k g (part ∷ parts) = elim (does g part) [ Ok changed ↦ does_from (k + 1) changed parts | Err why ↦ Err (record { part = k; why = why }) ]

-- the refusal of a request: that of the first part that is refused on the graph which the parts before it leave
abbrev pub refusal_of : PlainGraph → List Update → Option RefusedPart
refusal_of g parts = result_err (does_from 1 g parts)

-- the graph after a request; one that is refused changes nothing
abbrev pub entered : PlainGraph → List Update → PlainGraph
entered g parts = result_unwrap_or (does_from 1 g parts) g

-- a refused part as a reply says it, with the front of the list on which the request was judged
abbrev pub refused_at : ℕ → RefusedPart → Refusal
refused_at n p = elim p.why [
  | Limit given ↦ refusal.Limit n p.part given
  | NoVertex id ↦ refusal.NoVertex n p.part id
  | NoEdge ↦ refusal.NoEdge n p.part
]

-- the graph after the first v entries of a list of lines; marks and leaves change no graph
unfoldable pub after : PlainGraph → List Line → ℕ → PlainGraph
after g [] v = g
after g (Entry e ∷ lines) zero = g
after g (Entry e ∷ lines) (suc v) = after (entered g e.parts) lines v
after g (Mark session seq upto ∷ lines) v = after g lines v
after g (Leave session seq ∷ lines) v = after g lines v
