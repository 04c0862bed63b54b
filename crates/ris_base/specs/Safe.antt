-- Updates that change no value and keep every forest right, and requests that may be decided in parallel.
use Rattle.std.specs.Prelude.{ℕ, Bool, true, false, not, ◌&&◌, ◌||◌, nat_le, List, [], ◌∷◌, is_none}
use Rattle.std.specs.List.{list_any}
use Rattle.ris_base.specs.Analysis.{step, better}
use Rattle.ris_base.specs.Effect.{first_past_limit, first_missing}
use Rattle.ris_base.specs.Forest.{Forest}
use Rattle.ris_base.specs.Graph.{has_vertex, is_equal, greatest_weight, copies, triple}
use Rattle.ris_base.specs.Lists.{each_pair}
use Rattle.ris_base.specs.Walk.{both_ways}
use Rattle.ris_base.specs.declared.graphs.PlainGraph.{PlainGraph}
use Rattle.ris_base.specs.declared.graphs.Triple.{Triple}
use Rattle.ris_base.specs.declared.analyses.Kind.{Kind}
use Rattle.ris_base.specs.declared.analyses.Spec.{Spec}
use Rattle.ris_base.specs.declared.analyses.Value.{Value}
use Rattle.ris_base.specs.declared.analyses.Value.TheVariants.{Absent, Unreached, Num}
use Rattle.ris_base.specs.declared.updates.Update.{Update}
use Rattle.ris_base.specs.declared.updates.Update.TheVariants.{AddV, DelV, AddE, DelE, SetW}
use Rattle.ris_base.specs.declared.forests.Parent.{Parent}
use Rattle.ris_base.specs.declared.forests.Parent.TheVariants as parent

-- whether a number is better than a value: any number is better than none
abbrev pub beats : Kind → ℕ → Value → Bool
beats kind c Absent = true
beats kind c Unreached = true
beats kind c (Num d) = better kind c d

-- whether the step over weight w from a vertex of the first value is better than the second: one without a number improves
-- nothing
abbrev pub improves : Kind → Value → ℕ → Value → Bool
improves kind Absent w to = false
improves kind Unreached w to = false
improves kind (Num c) w to = beats kind (step kind c w) to

-- whether a parent is along this triple
abbrev pub is_along : Triple → Parent → Bool
is_along t parent.None = false
is_along t (parent.From vertex source target weight) = is_equal t (triple source target weight)

-- whether a forest uses a triple: the parent of one of its ends is along it. In a right forest no other vertex has such a parent
abbrev pub uses : Forest → Triple → Bool
uses F t = is_along t (F.parent t.source) || is_along t (F.parent t.target)

-- whether an edge more, over weight w, improves neither end's value, where walks may go that way
abbrev pub is_idle : Spec → Forest → ℕ → ℕ → ℕ → Bool
is_idle spec F u v w =
    not (improves spec.kind (F.value u) w (F.value v))
    && (not (both_ways spec.kind) || not (improves spec.kind (F.value v) w (F.value u)))

-- what safety asks of one analysis: an added edge improves nothing, and a removed one has another copy or isn't used
abbrev pub is_safe_for : PlainGraph → Spec → Forest → Update → Bool
is_safe_for g spec F (AddV x) = true
is_safe_for g spec F (DelV x) = true
is_safe_for g spec F (AddE u v w) = is_idle spec F u v w
is_safe_for g spec F (DelE u v w) = nat_le 2 (copies g (triple u v w)) || not (uses F (triple u v w))
is_safe_for g spec F (SetW u v w w2) = true

-- what safety asks without regard to analyses: no vertex comes or goes, and no weight is changed
abbrev pub keeps_vertices : PlainGraph → Update → Bool
keeps_vertices g (AddV x) = has_vertex g x
keeps_vertices g (DelV x) = false
keeps_vertices g (AddE u v w) = true
keeps_vertices g (DelE u v w) = true
keeps_vertices g (SetW u v w w2) = false

-- whether an update is one that can be safe at all: within the limits, with all its vertices present, and one that keeps vertices
-- and weights
abbrev pub is_sound : PlainGraph → Update → Bool
is_sound g update = is_none (first_past_limit (greatest_weight g) update) && is_none (first_missing g update) && keeps_vertices g update

-- whether an update is safe, where these are the forests of the analyses
abbrev pub is_safe : PlainGraph → List Spec → List Forest → Update → Bool
is_safe g specs forests update = is_sound g update && each_pair (λ spec F. is_safe_for g spec F update) specs forests

-- whether some forest uses a triple
abbrev pub is_used : List Forest → Triple → Bool
is_used forests t = list_any (λ F. uses F t) forests

-- whether a request may be decided in parallel: it has one part, which is safe
abbrev pub is_candidate : PlainGraph → List Spec → List Forest → List Update → Bool
is_candidate g specs forests [] = false
is_candidate g specs forests (part ∷ []) = is_safe g specs forests part
is_candidate g specs forests (part ∷ next ∷ parts) = false
