-- What one update does to a plain graph, and when it is refused.
use Rattle.std.specs.Prelude.{ℕ, ◌+◌, Bool, false, not, ◌==◌, nat_lt, if◌then◌else◌, List, [], ◌∷◌, ◌++◌, filter, Option, Some, None, Result}
use Rattle.std.specs.Option.{option_or, option_map}
use Rattle.ris_base.specs.Limits.{vertex_limit}
use Rattle.ris_base.specs.Lists.{unless}
use Rattle.ris_base.specs.Graph.{greatest_weight, has_vertex, has_equal, is_equal, names, triple}
use Rattle.ris_base.specs.declared.graphs.PlainGraph.{PlainGraph}
use Rattle.ris_base.specs.declared.graphs.Triple.{Triple}
use Rattle.ris_base.specs.declared.updates.Update.{Update}
use Rattle.ris_base.specs.declared.updates.Update.TheVariants.{AddV, DelV, AddE, DelE, SetW}

-- why an update is refused: this number is past its limit, this vertex is missing, or there is no such triple
pub data Objection : Type 0 where
  Limit : (given : ℕ) → Objection
  NoVertex : (id : ℕ) → Objection
  NoEdge : Objection

-- a number where it isn't below its limit
abbrev pub past : ℕ → ℕ → Option ℕ
past limit n = if nat_lt n limit then None else Some n

-- the first of the numbers of an edge that is past its limit, where weights go up to the greatest one
abbrev pub edge_past : ℕ → ℕ → ℕ → ℕ → Option ℕ
edge_past greatest u v w = option_or (past vertex_limit u) (option_or (past vertex_limit v) (past (greatest + 1) w))

-- the first number of an update that is past its limit
abbrev pub first_past_limit : ℕ → Update → Option ℕ
first_past_limit greatest (AddV x) = past vertex_limit x
first_past_limit greatest (DelV x) = past vertex_limit x
first_past_limit greatest (AddE u v w) = edge_past greatest u v w
first_past_limit greatest (DelE u v w) = edge_past greatest u v w
first_past_limit greatest (SetW u v w w2) = option_or (edge_past greatest u v w) (past (greatest + 1) w2)

-- a vertex number where the graph lacks it
abbrev pub missing : PlainGraph → ℕ → Option ℕ
missing g x = if has_vertex g x then None else Some x

-- the first vertex that an update needs and the graph lacks
abbrev pub first_missing : PlainGraph → Update → Option ℕ
first_missing g (AddV x) = None
first_missing g (DelV x) = missing g x
first_missing g (AddE u v w) = option_or (missing g u) (missing g v)
first_missing g (DelE u v w) = option_or (missing g u) (missing g v)
first_missing g (SetW u v w w2) = option_or (missing g u) (missing g v)

-- whether an update takes a copy of a triple of which the graph has none
abbrev pub lacks_copy : PlainGraph → Update → Bool
lacks_copy g (AddV x) = false
lacks_copy g (DelV x) = false
lacks_copy g (AddE u v w) = false
lacks_copy g (DelE u v w) = not (has_equal g (triple u v w))
lacks_copy g (SetW u v w w2) = not (has_equal g (triple u v w))

-- the first objection to an update: a number past its limit, then a missing vertex, then the lack of a copy
abbrev pub objection : PlainGraph → Update → Option Objection
objection g update =
    option_or (option_map Limit (first_past_limit (greatest_weight g) update))
    (option_or (option_map NoVertex (first_missing g update))
    (if lacks_copy g update then Some NoEdge else None))

-- a list without the first triple that is equal to t
abbrev pub without_first : Triple → List Triple → List Triple
without_first t [] = []
without_first t (s ∷ rest) = if is_equal t s then rest else s ∷ without_first t rest

-- the graph after an update to which there is no objection
abbrev pub changed : PlainGraph → Update → PlainGraph
changed g (AddV x) = if has_vertex g x then g else record g { vertices = g.vertices ++ x ∷ [] }
changed g (DelV x) = record g { vertices = filter (λ y. not (y == x)) g.vertices; triples = filter (λ t. not (names x t)) g.triples }
changed g (AddE u v w) = record g { triples = g.triples ++ triple u v w ∷ [] }
changed g (DelE u v w) = record g { triples = without_first (triple u v w) g.triples }
changed g (SetW u v w w2) = record g { triples = without_first (triple u v w) g.triples ++ triple u v w2 ∷ [] }

-- the effect of one update: the graph after it, or why it is refused
unfoldable pub does : PlainGraph → Update → Result PlainGraph Objection
does g update = unless (objection g update) (changed g update)
