-- Walks with the vertices to which they come, one by one.
use Rattle.std.proofs.Common.{◌≡◌, ℕ, suc, Bool, inl, inr, List, [], ◌∷◌, length, refl, ap, sym, subst}
use Rattle.std.specs.List.{All}
use Rattle.std.proofs.lemmas.List.Elements.{All-nil, All-cons}
use Rattle.ris_base.specs.Forest.{Joins}
use Rattle.ris_base.specs.Graph.{HasVertex, HasTriple, IsProper}
use Rattle.ris_base.specs.Walk.{Leads}
use Rattle.ris_base.specs.declared.graphs.PlainGraph.{PlainGraph}
use Rattle.ris_base.specs.declared.graphs.Triple.{Triple}
use Rattle.ris_algo.proofs.Walks.{Joins-vertices}

-- these triples of the graph, joined end to start, lead from a by these vertices, one for each triple, to x, which is the last of them
abbrev pub Visits : PlainGraph → Bool → ℕ → List Triple → List ℕ → ℕ → Type 0
Visits g both a [] [] x = a ≡ x
Visits g both a [] (b ∷ stops) x = ⊥
Visits g both a (t ∷ rest) [] x = ⊥
Visits g both a (t ∷ rest) (b ∷ stops) x = HasTriple g t × Joins both t a b × Visits g both b rest stops x

-- a walk comes to some list of vertices
pub stops_of : (g : PlainGraph) (both : Bool) (a : ℕ) (w : List Triple) (x : ℕ) → Leads g both a w x → (stops : List ℕ) × Visits g both a w stops x
stops_of g both a [] x h = ([], h)
stops_of g both a (t ∷ rest) x h =
    elim h.1 [
      | inl on ↦ (let r = stops_of g both t.target rest x on.1 in (t.target ∷ r.0, (h.0, inl (on.0, refl), r.1)))
      | inr back ↦ (let r = stops_of g both t.source rest x back.2 in (t.source ∷ r.0, (h.0, inr (back.0, back.1, refl), r.1)))
    ]

-- a walk that comes to these vertices is a walk
pub Leads-from_visits : (g : PlainGraph) (both : Bool) (a : ℕ) (w : List Triple) (stops : List ℕ) (x : ℕ) → Visits g both a w stops x → Leads g both a w x
Leads-from_visits g both a [] [] x h = h
Leads-from_visits g both a [] (b ∷ stops) x h = absurd h
Leads-from_visits g both a (t ∷ rest) [] x h = absurd h
Leads-from_visits g both a (t ∷ rest) (b ∷ stops) x h =
    let more : Leads g both b rest x = Leads-from_visits g both b rest stops x h.2 in (
      h.0,
      elim h.1 [
        | inl on ↦ inl (on.0, subst (λ (n : ℕ). Leads g both n rest x) (sym on.1) more)
        | inr back ↦ inr (back.0, back.1, subst (λ (n : ℕ). Leads g both n rest x) (sym back.2) more)
      ],
    )

-- a walk comes to as many vertices as it has triples
pub length-visits : (g : PlainGraph) (both : Bool) (a : ℕ) (w : List Triple) (stops : List ℕ) (x : ℕ) → Visits g both a w stops x → length stops ≡ length w
length-visits g both a [] [] x h = refl
length-visits g both a [] (b ∷ stops) x h = absurd h
length-visits g both a (t ∷ rest) [] x h = absurd h
length-visits g both a (t ∷ rest) (b ∷ stops) x h = ap (λ n. suc n) (length-visits g both b rest stops x h.2)

-- all to which a walk comes in a proper graph are vertices of it
pub Visits-vertices : {g : PlainGraph} → IsProper g → (both : Bool) (a : ℕ) (w : List Triple) (stops : List ℕ) (x : ℕ)
    → Visits g both a w stops x → All (λ y. HasVertex g y) stops
Visits-vertices {g = g} proper both a [] [] x h = All-nil (λ y. HasVertex g y)
Visits-vertices proper both a [] (b ∷ stops) x h = absurd h
Visits-vertices proper both a (t ∷ rest) [] x h = absurd h
Visits-vertices {g = g} proper both a (t ∷ rest) (b ∷ stops) x h =
    All-cons (λ y. HasVertex g y) b stops (Joins-vertices proper both t a b h.0 h.1).1
    (Visits-vertices proper both b rest stops x h.2)
