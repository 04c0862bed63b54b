-- How many vertices there can be.
use Rattle.std.proofs.Common.{◌≡◌, ℕ, ◌<◌, ◌≤◌, eqb, List, length, get_or, arith, sym, ◌∙◌}
use Rattle.std.specs.List.{All, Contains, IsDistinct}
use Rattle.std.proofs.lemmas.Bool.{eqb-true, ne_eqb}
use Rattle.std.proofs.lemmas.Cmp.{nat_eq_equiv}
use Rattle.std.proofs.lemmas.Grind.{get_or_default_zero}
use Rattle.std.proofs.lemmas.List.Elements.{All-contains}
use Rattle.std.proofs.lemmas.Map.Keys.{IsDistinct-from_apart}
use Rattle.std.proofs.lemmas.Map.Made.{length-le_from_is_member}
use Rattle.std.proofs.lemmas.Map.Steps.{length-le_from_distinct_below}
use Rattle.std.proofs.lemmas.Map.Views.{Contains-from_any, list_any-from_Contains}
use Rattle.ris_base.specs.Graph.{EachOnce, IsProper}
use Rattle.ris_base.specs.Limits.{vertex_limit}
use Rattle.ris_base.specs.declared.graphs.PlainGraph.{PlainGraph}

-- numbers of a list, no two of them equal, are at most as many as the list has (the pigeonhole principle)
pub pigeonhole : (stops places : List ℕ) → IsDistinct eqb stops → All (λ x. Contains places x) stops → length stops ≤ length places
pigeonhole stops places once each =
    length-le_from_is_member nat_eq_equiv stops places once
    (λ q h. list_any-from_Contains nat_eq_equiv q places
    (All-contains (λ x. Contains places x) stops q each (Contains-from_any eqb-true q stops h)))

-- no two numbers of a list in which each stands once are equal
pub IsDistinct-from_once : (xs : List ℕ) → EachOnce xs → IsDistinct eqb xs
IsDistinct-from_once xs once =
    IsDistinct-from_apart eqb xs (λ i j d low high. ne_eqb (get_or xs i d) (get_or xs j d)
    (λ same. let e : i ≡ j = once i j (omega arith) high
    (sym (get_or_default_zero xs i d (omega arith)) ∙ same ∙ get_or_default_zero xs j d high) in absurd (omega arith)))

-- a proper graph has at most as many vertices as there are vertex numbers
pub vertices_within : {g : PlainGraph} → IsProper g → length g.vertices ≤ vertex_limit
vertices_within {g = g} proper =
    length-le_from_distinct_below g.vertices vertex_limit (IsDistinct-from_once g.vertices proper.once)
    (λ q h. All-contains (λ x. x < vertex_limit) g.vertices q proper.vertices (Contains-from_any eqb-true q g.vertices h))
