-- Walks put together and taken apart, and the vertices on them.
use Rattle.std.proofs.Common.{◌≡◌, ℕ, ◌≤◌, Bool, ◌⊎◌, inl, inr, List, [], ◌∷◌, ◌++◌, refl, ap, sym, subst}
use Rattle.std.specs.List.{All}
use Rattle.std.proofs.lemmas.List.Elements.{All-contains, All-nil, All-cons}
use Rattle.ris_base.specs.Forest.{Joins}
use Rattle.ris_base.specs.Graph.{HasVertex, HasTriple, IsProper, IsProperTriple, greatest_weight}
use Rattle.ris_base.specs.Walk.{Leads}
use Rattle.ris_base.specs.declared.graphs.PlainGraph.{PlainGraph}
use Rattle.ris_base.specs.declared.graphs.Triple.{Triple}

-- two walks, of which one ends where the other begins, are one
pub Leads-append : (g : PlainGraph) (both : Bool) (a : ℕ) (w : List Triple) (v : ℕ) (later : List Triple) (x : ℕ)
    → Leads g both a w v → Leads g both v later x → Leads g both a (w ++ later) x
Leads-append g both a [] v later x h k = subst (λ (n : ℕ). Leads g both n later x) (sym h) k
Leads-append g both a (t ∷ rest) v later x h k = (
  h.0,
  elim h.1 [
    | inl on ↦ inl (on.0, Leads-append g both t.target rest v later x on.1 k)
    | inr back ↦ inr (back.0, back.1, Leads-append g both t.source rest v later x back.2 k)
  ],
)

-- a walk and one more triple
pub Leads-push : (g : PlainGraph) (both : Bool) (a u x : ℕ) (ts : List Triple) (t : Triple) → Leads g both a ts u → HasTriple g t → Joins both t u x
    → Leads g both a (ts ++ t ∷ []) x
Leads-push g both a u x ts t leads has joins = Leads-append g both a ts u (t ∷ []) x leads (has, joins)

-- a walk taken apart: all but the last triple, and the last triple
pub record IsCut (g : PlainGraph) (both : Bool) (a x : ℕ) (ts : List Triple) : Type 0 where
  pub before : List Triple
  pub from : ℕ
  pub last : Triple
  pub is : ts ≡ before ++ last ∷ []
  pub leads : Leads g both a before from
  pub has : HasTriple g last
  pub joins : Joins both last from x

-- one more triple before a walk that is taken apart
cut_rest : (g : PlainGraph) (both : Bool) (a m x : ℕ) (t : Triple) (ts : List Triple) → HasTriple g t → Joins both t a m
    → (ts ≡ []) × (m ≡ x) ⊎ IsCut g both m x ts → IsCut g both a x (t ∷ ts)
cut_rest g both a m x t ts has joins (inl end) = record {
  before = [];
  from = a;
  last = t;
  is = ap (λ l. t ∷ l) end.0;
  leads = refl;
  has = has;
  joins = rw (sym end.1) joins;
}
cut_rest g both a m x t ts has joins (inr cut) = record {
  before = t ∷ cut.before;
  from = cut.from;
  last = cut.last;
  is = ap (λ l. t ∷ l) cut.is;
  leads = elim joins [
    | inl on ↦ (has, inl (on.0, rw on.1 cut.leads))
    | inr back ↦ (has, inr (back.0, back.1, rw back.2 cut.leads))
  ];
  has = cut.has;
  joins = cut.joins;
}

-- a walk has no triple, or a last one
pub Leads-cut : (g : PlainGraph) (both : Bool) (a x : ℕ) (ts : List Triple) → Leads g both a ts x → (ts ≡ []) × (a ≡ x) ⊎ IsCut g both a x ts
Leads-cut g both a x [] leads = inl (refl, leads)
Leads-cut g both a x (t ∷ rest) leads =
    inr (elim leads.1 [
      | inl on ↦ cut_rest g both a t.target x t rest leads.0 (inl (on.0, refl)) (Leads-cut g both t.target x rest on.1)
      | inr back ↦ cut_rest g both a t.source x t rest leads.0 (inr (back.0, back.1, refl)) (Leads-cut g both t.source x rest back.2)
    ])

-- a triple of a proper graph is proper
pub proper_triple : {g : PlainGraph} → IsProper g → (t : Triple) → HasTriple g t → IsProperTriple g t
proper_triple {g = g} proper t has = All-contains (IsProperTriple g) g.triples t proper.triples has

-- a triple of a proper graph joins vertices of it
pub Joins-vertices : {g : PlainGraph} → IsProper g → (both : Bool) (t : Triple) (a x : ℕ) → HasTriple g t → Joins both t a x → HasVertex g a × HasVertex g x
Joins-vertices {g = g} proper both t a x has joins =
    let ends = proper_triple proper t has in
    elim joins [
      | inl on ↦ (subst (λ (n : ℕ). HasVertex g n) on.0 ends.source, subst (λ (n : ℕ). HasVertex g n) on.1 ends.target)
      | inr back ↦ (subst (λ (n : ℕ). HasVertex g n) back.1 ends.target, subst (λ (n : ℕ). HasVertex g n) back.2 ends.source)
    ]

-- a walk that begins at a vertex of a proper graph leads to a vertex of it
pub Leads-to_vertex : {g : PlainGraph} → IsProper g → (both : Bool) (a : ℕ) (w : List Triple) (x : ℕ)
    → HasVertex g a → Leads g both a w x → HasVertex g x
Leads-to_vertex {g = g} proper both a [] x at h = subst (λ (n : ℕ). HasVertex g n) h at
Leads-to_vertex proper both a (t ∷ rest) x at h =
    let joins = proper_triple proper t h.0 in
    elim h.1 [
      | inl on ↦ Leads-to_vertex proper both t.target rest x joins.target on.1
      | inr back ↦ Leads-to_vertex proper both t.source rest x joins.source back.2
    ]

-- the weights on a walk in a proper graph are within the limit
pub Leads-weights : {g : PlainGraph} → IsProper g → (both : Bool) (a : ℕ) (w : List Triple) (x : ℕ)
    → Leads g both a w x → All (λ t. t.weight ≤ greatest_weight g) w
Leads-weights {g = g} proper both a [] x h = All-nil (λ t. t.weight ≤ greatest_weight g)
Leads-weights {g = g} proper both a (t ∷ rest) x h =
    All-cons (λ t. t.weight ≤ greatest_weight g) t rest (proper_triple proper t h.0).weight
    (elim h.1 [ inl on ↦ Leads-weights proper both t.target rest x on.1 | inr back ↦ Leads-weights proper both t.source rest x back.2 ])
