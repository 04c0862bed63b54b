-- One neighbour of a row in the pull, and one vertex.
use Rattle.std.proofs.Common.{◌≡◌, ◌⊎◌, ℕ, Bool, true, false, inl, inr, List, [], ◌∷◌, Option, sym, subst, ap}
use Rattle.std.specs.List.{Contains}
use Rattle.std.proofs.lemmas.Bool.{cases_eq}
use Rattle.ris_base.specs.Forest.{Forest, Joins}
use Rattle.ris_base.specs.Graph.{HasTriple}
use Rattle.ris_base.specs.Safe.{improves}
use Rattle.ris_base.specs.Walk.{both_ways}
use Rattle.ris_base.specs.declared.graphs.PlainGraph.{PlainGraph}
use Rattle.ris_base.specs.declared.graphs.Triple.{Triple}
use Rattle.ris_base.specs.declared.analyses.Spec.{Spec}
use Rattle.ris_base.specs.declared.forests.Parent.TheVariants as parent
use Rattle.ris_base.proofs.ListLemmas.{Contains-none, Contains-cases}
use Rattle.ris_algo.proofs.Offers.{narrowed}
use Rattle.ris_rows.specs.declared.neighbours.Neighbour.{Neighbour}
use Rattle.ris_graph.specs.GraphView.{GraphView, IsOf}
use Rattle.ris_repair.specs.Changes.{state_of, is_waiting, standing_value, value_or, IsImproved, IsSame}
use Rattle.ris_repair.specs.Crossing.{crosses, crossed}
use Rattle.ris_repair.specs.Rows.{IsOrigin, triple_of, origins_of}
use Rattle.ris_repair.specs.Stages.{IsPrepared, unpulled}
use Rattle.ris_repair.specs.declared.stores.Change.{Change}
use Rattle.ris_repair.proofs.CrossLemmas.{across}
use Rattle.ris_repair.proofs.RowLemmas.{origins_whole}

-- the values spread as before but for what is left
pub prepared_less : (g : PlainGraph) (spec : Spec) (F : Forest) (n : ℕ) (fallen : List ℕ) (changes : ℕ → Option Change) (queue : List (ℕ × ℕ)) (todo todo2 : Triple → ℕ → ℕ → Type 0)
    → IsPrepared g spec F n fallen changes queue todo
    → ((t : Triple) (a x : ℕ) → HasTriple g t → Joins (both_ways spec.kind) t a x → is_waiting (changes a) ≡ false → ¬ (todo2 t a x)
    → (¬ (todo t a x)) ⊎ (improves spec.kind (value_or (F.value a) (changes a)) t.weight (value_or (F.value x) (changes x)) ≡ false))
    → IsPrepared g spec F n fallen changes queue todo2
prepared_less g spec F n fallen changes queue todo todo2 P less = record {
  carried = record {
    inside = P.carried.inside;
    spreading = narrowed g spec (state_of F changes) todo todo2 P.carried.spreading less;
    due = P.carried.due;
    below = P.carried.below;
    queued = P.carried.queued;
  };
  fresh = P.fresh;
}

-- an item of a row was looked at
pub unpulled_less : (g : PlainGraph) (spec : Spec) (F : Forest) (n : ℕ) (fallen : List ℕ) (changes : ℕ → Option Change) (queue : List (ℕ × ℕ)) (p : PlainGraph) (x e w : ℕ)
    (left : List (ℕ × ℕ)) (rest : List ℕ)
    → IsPrepared g spec F n fallen changes queue (unpulled p x ((e, w) ∷ left) rest)
    → (is_waiting (changes e) ≡ false → improves spec.kind (value_or (F.value e) (changes e)) w (value_or (F.value x) (changes x)) ≡ false)
    → IsPrepared g spec F n fallen changes queue (unpulled p x left rest)
unpulled_less g spec F n fallen changes queue p x e w left rest P idle =
    prepared_less g spec F n fallen changes queue (unpulled p x ((e, w) ∷ left) rest) (unpulled p x left rest) P (λ t a y has joins waits out. go t a y waits out)
  where
    same : (t : Triple) (a y : ℕ) → is_waiting (changes a) ≡ false → y ≡ x → a ≡ e → t.weight ≡ w
        → improves spec.kind (value_or (F.value a) (changes a)) t.weight (value_or (F.value y) (changes y)) ≡ false
    same t a y waits ey ea ew =
        subst (λ (k : ℕ). improves spec.kind (value_or (F.value k) (changes k)) t.weight (value_or (F.value y) (changes y)) ≡ false) (sym ea)
        (subst (λ (k : ℕ). improves spec.kind (value_or (F.value e) (changes e)) k (value_or (F.value y) (changes y)) ≡ false) (sym ew)
        (subst (λ (k : ℕ). improves spec.kind (value_or (F.value e) (changes e)) w (value_or (F.value k) (changes k)) ≡ false) (sym ey)
        (idle (subst (λ (k : ℕ). is_waiting (changes k) ≡ false) ea waits))))

    without : (t : Triple) (a y : ℕ) → ¬ (unpulled p x left rest t a y) → ((y ≡ x) → (e ≡ a) → (w ≡ t.weight) → ⊥) → ¬ (unpulled p x ((e, w) ∷ left) rest t a y)
    without t a y out ne h = elim h [
      | inl r ↦ out (inl r)
      | inr o ↦ elim o [
        | inr b ↦ out (inr (inr b))
        | inl q ↦ elim (Contains-cases (e, w) left (a, t.weight) q.1) [
          | inl s ↦ ne q.0 (ap (λ (k : ℕ × ℕ). k.0) s) (ap (λ (k : ℕ × ℕ). k.1) s)
          | inr later ↦ out (inr (inl (q.0, later)))
        ]
      ]
    ]

    go : (t : Triple) (a y : ℕ) → is_waiting (changes a) ≡ false → ¬ (unpulled p x left rest t a y)
        → (¬ (unpulled p x ((e, w) ∷ left) rest t a y)) ⊎ (improves spec.kind (value_or (F.value a) (changes a)) t.weight (value_or (F.value y) (changes y)) ≡ false)
    go t a y waits out = elim (cases_eq y x) [
      | inr ne ↦ inl (without t a y out (λ k s r. ne k))
      | inl ey ↦ elim (cases_eq a e) [
        | inr ne ↦ inl (without t a y out (λ k s r. ne (sym s)))
        | inl ea ↦ elim (cases_eq t.weight w) [
          | inr ne ↦ inl (without t a y out (λ k s r. ne (sym r)))
          | inl ew ↦ inr (same t a y waits ey ea ew)
        ]
      ]
    ]

-- an item of a row, offered or left as it is
pub pulled_one : (g : PlainGraph) (spec : Spec) (F : Forest) (n : ℕ) (fallen : List ℕ) (old new : ℕ → Option Change) (queue queue2 : List (ℕ × ℕ)) (p : PlainGraph) (x : ℕ) (forward : Bool)
    (m : Neighbour) (left : List (ℕ × ℕ)) (rest : List ℕ)
    → (crosses spec.kind F old (standing_value (F.value m.end) (old m.end)) m.weight x ≡ true
    → IsImproved spec.kind old queue x (crossed spec.kind (standing_value (F.value m.end) (old m.end)) m.weight)
    (parent.From m.end (triple_of forward x m.end m.weight).source (triple_of forward x m.end m.weight).target m.weight) new queue2)
    → (crosses spec.kind F old (standing_value (F.value m.end) (old m.end)) m.weight x ≡ false → IsSame old queue new queue2)
    → IsOrigin g spec.kind forward x m → IsPrepared g spec F n fallen old queue (unpulled p x ((m.end, m.weight) ∷ left) rest)
    → IsPrepared g spec F n fallen new queue2 (unpulled p x left rest)
pulled_one g spec F n fallen old new queue queue2 p x forward m left rest improved same item P =
    let after = across g spec F n fallen old new queue queue2 (unpulled p x ((m.end, m.weight) ∷ left) rest) m.end x (triple_of forward x m.end m.weight) P
    item.here item.has item.joins improved same in
    unpulled_less g spec F n fallen new queue2 p x m.end m.weight left rest after.0 after.1

-- the same where the triple is given
pub pulled_item : (g : PlainGraph) (spec : Spec) (F : Forest) (n : ℕ) (fallen : List ℕ) (old new : ℕ → Option Change) (queue queue2 : List (ℕ × ℕ)) (p : PlainGraph) (x : ℕ) (forward : Bool)
    (m : Neighbour) (left : List (ℕ × ℕ)) (rest : List ℕ) (along : Triple) → along ≡ triple_of forward x m.end m.weight
    → (crosses spec.kind F old (standing_value (F.value m.end) (old m.end)) along.weight x ≡ true
    → IsImproved spec.kind old queue x (crossed spec.kind (standing_value (F.value m.end) (old m.end)) along.weight)
    (parent.From m.end along.source along.target along.weight) new queue2)
    → (crosses spec.kind F old (standing_value (F.value m.end) (old m.end)) along.weight x ≡ false → IsSame old queue new queue2)
    → IsOrigin g spec.kind forward x m → IsPrepared g spec F n fallen old queue (unpulled p x ((m.end, m.weight) ∷ left) rest)
    → IsPrepared g spec F n fallen new queue2 (unpulled p x left rest)
pulled_item g spec F n fallen old new queue queue2 p x forward m left rest along is improved same item P =
    pulled_one g spec F n fallen old new queue queue2 p x forward m left rest
    (subst (λ (a : Triple). crosses spec.kind F old (standing_value (F.value m.end) (old m.end)) a.weight x ≡ true
    → IsImproved spec.kind old queue x (crossed spec.kind (standing_value (F.value m.end) (old m.end)) a.weight)
    (parent.From m.end a.source a.target a.weight) new queue2) is improved)
    (subst (λ (a : Triple). crosses spec.kind F old (standing_value (F.value m.end) (old m.end)) a.weight x ≡ false → IsSame old queue new queue2) is same)
    item P

-- the next vertex is pulled
pub unpulled_next : (graph : GraphView) (g : PlainGraph) (spec : Spec) (F : Forest) (n : ℕ) (fallen : List ℕ) (changes : ℕ → Option Change) (queue : List (ℕ × ℕ)) (p : PlainGraph) (both : Bool)
    → IsOf graph g → both ≡ both_ways spec.kind → (x : ℕ) (rest : List ℕ)
    → IsPrepared g spec F n fallen changes queue (unpulled p 0 [] (x ∷ rest)) → IsPrepared g spec F n fallen changes queue (unpulled p x (origins_of both graph x) rest)
unpulled_next graph g spec F n fallen changes queue p both of ways x rest P =
    prepared_less g spec F n fallen changes queue (unpulled p 0 [] (x ∷ rest)) (unpulled p x (origins_of both graph x) rest) P
    (λ t a y has joins waits out. inl (λ h. elim h [
      | inr o ↦ elim o [
        | inl q ↦ Contains-none (a, t.weight) q.1
        | inr b ↦ out (inr (inr b))
      ]
      | inl r ↦ elim (Contains-cases x rest y r) [
        | inr later ↦ out (inl later)
        | inl same ↦ out (inr (inl (
          sym same,
          subst (λ (k : ℕ). Contains (origins_of both graph k) (a, t.weight)) (sym same)
              (origins_whole graph g of both spec.kind ways a y t has joins),
        )))
      ]
    ]))

-- a vertex was pulled
pub unpulled_done : (g : PlainGraph) (spec : Spec) (F : Forest) (n : ℕ) (fallen : List ℕ) (changes : ℕ → Option Change) (queue : List (ℕ × ℕ)) (p : PlainGraph) (x y : ℕ) (rest : List ℕ)
    → IsPrepared g spec F n fallen changes queue (unpulled p x [] rest) → IsPrepared g spec F n fallen changes queue (unpulled p y [] rest)
unpulled_done g spec F n fallen changes queue p x y rest P =
    prepared_less g spec F n fallen changes queue (unpulled p x [] rest) (unpulled p y [] rest) P
    (λ t a z has joins waits out. inl (λ h. elim h [
      | inl r ↦ out (inl r)
      | inr o ↦ elim o [
        | inl q ↦ Contains-none (a, t.weight) q.1
        | inr b ↦ out (inr (inr b))
      ]
    ]))
