-- The triples that have more copies than before.
use Rattle.std.proofs.Common.{◌≡◌, ◌⊎◌, ℕ, ◌<◌, true, false, inl, inr, List, [], ◌∷◌, Option, arith, refl, sym, subst, ap, ◌∙◌}
use Rattle.std.proofs.lemmas.Bool.{cases_Bool, cases_eq}
use Rattle.std.proofs.lemmas.List.Elements.{All-contains}
use Rattle.ris_base.specs.Forest.{Forest}
use Rattle.ris_base.specs.Graph.{HasTriple, IsProper, copies, has_equal, is_equal}
use Rattle.ris_base.specs.Requests.{entered}
use Rattle.ris_base.specs.Safe.{improves}
use Rattle.ris_base.specs.Walk.{both_ways}
use Rattle.ris_base.specs.declared.graphs.PlainGraph.{PlainGraph}
use Rattle.ris_base.specs.declared.graphs.Triple.{Triple}
use Rattle.ris_base.specs.declared.analyses.Spec.{Spec}
use Rattle.ris_base.specs.declared.forests.Parent.TheVariants as parent
use Rattle.ris_base.specs.declared.updates.Update.{Update}
use Rattle.ris_base.proofs.EffectLemmas.{same_from_equal, equal_itself, HasTriple-copies, copies-HasTriple, has_equal-true}
use Rattle.ris_base.proofs.ListLemmas.{Contains-none, Contains-cases, All-from_Contains}
use Rattle.ris_algo.specs.Spreading.{nothing}
use Rattle.ris_algo.proofs.Walks.{proper_triple}
use Rattle.ris_graph.specs.Nets.{IsNet, IsCounted}
use Rattle.ris_graph.specs.declared.nets.Net.{Net}
use Rattle.ris_graph.specs.declared.nets.NetTriple.{NetTriple}
use Rattle.ris_repair.specs.Changes.{is_waiting, standing_value, value_or, IsImproved, IsSame}
use Rattle.ris_repair.specs.Crossing.{crosses, crossed}
use Rattle.ris_repair.specs.Stages.{IsPrepared, IsUnadded, AreAdded, unadded, unpulled}
use Rattle.ris_repair.specs.declared.stores.Change.{Change}
use Rattle.ris_repair.proofs.CrossLemmas.{across}
use Rattle.ris_repair.proofs.PullLemmas.{prepared_less}

-- still to be looked at are these, and one triple backwards
pub backwards : NetTriple → List NetTriple → Triple → ℕ → ℕ → Type 0
backwards item rest t a x = IsUnadded rest t ⊎ ((item.triple ≡ t) × (a ≡ item.triple.target) × (x ≡ item.triple.source))

module _ (g : PlainGraph) (spec : Spec) (F : Forest) (n : ℕ) (fallen : List ℕ) (item : NetTriple) (rest : List NetTriple) (proper : IsProper g) (has : HasTriple g item.triple) where
  abbrev s : Triple
  s = item.triple

  abbrev Idle : (ℕ → Option Change) → ℕ → ℕ → ℕ → Type 0
  Idle f a w x = is_waiting (f a) ≡ false → improves spec.kind (value_or (F.value a) (f a)) w (value_or (F.value x) (f x)) ≡ false

  -- another triple is left as before
  not_item : (t : Triple) → ¬ (IsUnadded rest t) → ¬ (item.triple ≡ t) → ¬ (IsUnadded (item ∷ rest) t)
  not_item t out ne u = elim (Contains-cases item rest u.triple u.listed) [
    | inl same ↦ ne (ap (λ (k : NetTriple). k.triple) same ∙ u.same)
    | inr later ↦ out (record { triple = u.triple; listed = later; same = u.same; more = u.more })
  ]

  is_item : (t : Triple) → (item.triple ≡ t) ⊎ (¬ (item.triple ≡ t))
  is_item t = elim (cases_Bool (is_equal item.triple t)) [
    | inl same ↦ inl (same_from_equal item.triple t same)
    | inr off ↦ inr (λ e. absurd (let k : true ≡ false = sym (equal_itself item.triple) ∙ ap (is_equal item.triple) e ∙ off in (cc)))
  ]

  at_item : (f : ℕ → Option Change) (t : Triple) (a x b y : ℕ) → Idle f b item.triple.weight y → item.triple ≡ t → a ≡ b → x ≡ y → Idle f a t.weight x
  at_item f t a x b y idle e ea ex waits =
      subst (λ (k : ℕ). improves spec.kind (value_or (F.value k) (f k)) t.weight (value_or (F.value x) (f x)) ≡ false) (sym ea)
      (subst (λ (k : ℕ). improves spec.kind (value_or (F.value b) (f b)) t.weight (value_or (F.value k) (f k)) ≡ false) (sym ex)
      (subst (λ (k : Triple). improves spec.kind (value_or (F.value b) (f b)) k.weight (value_or (F.value y) (f y)) ≡ false) e
      (idle (subst (λ (k : ℕ). is_waiting (f k) ≡ false) ea waits))))

  -- the step along the triple, offered or left as it is
  module _ (old new : ℕ → Option Change) (queue queue2 : List (ℕ × ℕ)) where
    abbrev pub Better : ℕ → ℕ → Type 0
    Better a y =
        crosses spec.kind F old (standing_value (F.value a) (old a)) item.triple.weight y ≡ true
        → IsImproved spec.kind old queue y (crossed spec.kind (standing_value (F.value a) (old a)) item.triple.weight)
        (parent.From a item.triple.source item.triple.target item.triple.weight) new queue2

    abbrev pub Same : ℕ → ℕ → Type 0
    Same a y = crosses spec.kind F old (standing_value (F.value a) (old a)) item.triple.weight y ≡ false → IsSame old queue new queue2

    onwards : Better item.triple.source item.triple.target → Same item.triple.source item.triple.target
        → IsPrepared g spec F n fallen old queue (unadded (item ∷ rest))
        → IsPrepared g spec F n fallen new queue2 (unadded (item ∷ rest)) × Idle new item.triple.source item.triple.weight item.triple.target
    onwards improved same P =
        across g spec F n fallen old new queue queue2 (unadded (item ∷ rest)) item.triple.source item.triple.target item.triple P
        (proper_triple proper item.triple has).target has (inl (refl, refl)) improved same

    -- where walks go one way, the triple is done
    pub one_way : both_ways spec.kind ≡ false → Better item.triple.source item.triple.target → Same item.triple.source item.triple.target
        → IsPrepared g spec F n fallen old queue (unadded (item ∷ rest)) → IsPrepared g spec F n fallen new queue2 (unadded rest)
    one_way ways improved same P =
        let after = onwards improved same P in
        prepared_less g spec F n fallen new queue2 (unadded (item ∷ rest)) (unadded rest) after.0
        (λ t a x there joins waits out. elim (is_item t) [
          | inr ne ↦ inl (not_item t out ne)
          | inl e ↦ elim joins [
            | inl on ↦ inr (at_item new t a x item.triple.source item.triple.target after.1 e
                (sym on.0 ∙ ap (λ (k : Triple). k.source) (sym e)) (sym on.1 ∙ ap (λ (k : Triple). k.target) (sym e)) waits)
            | inr back ↦ absurd (let k : true ≡ false = sym back.0 ∙ ways in (cc))
          ]
        ])

    -- where they go both ways, it is done one way
    pub first_way : Better item.triple.source item.triple.target → Same item.triple.source item.triple.target
        → IsPrepared g spec F n fallen old queue (unadded (item ∷ rest)) → IsPrepared g spec F n fallen new queue2 (backwards item rest)
    unfolding backwards
    first_way improved same P =
        let after = onwards improved same P in
        prepared_less g spec F n fallen new queue2 (unadded (item ∷ rest)) (backwards item rest) after.0
        (λ t a x there joins waits out. elim (is_item t) [
          | inr ne ↦ inl (not_item t (λ u. out (inl u)) ne)
          | inl e ↦ elim joins [
            | inl on ↦ inr (at_item new t a x item.triple.source item.triple.target after.1 e
                (sym on.0 ∙ ap (λ (k : Triple). k.source) (sym e)) (sym on.1 ∙ ap (λ (k : Triple). k.target) (sym e)) waits)
            | inr back ↦ absurd (out (inr (e, sym back.1 ∙ ap (λ (k : Triple). k.target) (sym e), sym back.2 ∙ ap (λ (k : Triple). k.source) (sym e))))
          ]
        ])

    -- and then the other
    pub second_way : both_ways spec.kind ≡ true → Better item.triple.target item.triple.source → Same item.triple.target item.triple.source
        → IsPrepared g spec F n fallen old queue (backwards item rest) → IsPrepared g spec F n fallen new queue2 (unadded rest)
    unfolding backwards
    second_way ways improved same P =
        let after = across g spec F n fallen old new queue queue2 (backwards item rest) item.triple.target item.triple.source item.triple P
        (proper_triple proper item.triple has).source has (inr (ways, refl, refl)) improved same in
        prepared_less g spec F n fallen new queue2 (backwards item rest) (unadded rest) after.0
        (λ t a x there joins waits out. elim (is_item t) [
          | inr ne ↦ inl (λ h. elim h [ inl u ↦ out u | inr q ↦ ne q.0 ])
          | inl e ↦ elim (cases_eq a item.triple.target) [
            | inr off ↦ inl (λ h. elim h [ inl u ↦ out u | inr q ↦ off q.1 ])
            | inl ea ↦ elim (cases_eq x item.triple.source) [
              | inr off ↦ inl (λ h. elim h [ inl u ↦ out u | inr q ↦ off q.2 ])
              | inl ex ↦ inr (at_item new t a x item.triple.target item.triple.source after.1 e ea ex waits)
            ]
          ]
        ])

-- The net of a request

-- the triples that weren't there before stand in the net
pub unadded_from_pull : (p : PlainGraph) (parts : List Update) (net : Net) (spec : Spec) (F : Forest) (n : ℕ) (fallen : List ℕ) (changes : ℕ → Option Change) (queue : List (ℕ × ℕ))
    → IsNet p parts net → IsPrepared (entered p parts) spec F n fallen changes queue (unpulled p 0 [] [])
    → IsPrepared (entered p parts) spec F n fallen changes queue (unadded net.triples)
unadded_from_pull p parts net spec F n fallen changes queue is P =
    prepared_less (entered p parts) spec F n fallen changes queue (unpulled p 0 [] []) (unadded net.triples) P
    (λ t a x has joins waits out. inl (λ h. elim h [
      | inl none ↦ Contains-none x none
      | inr o ↦ elim o [
        | inl q ↦ Contains-none (a, t.weight) q.1
        | inr missing ↦ out (listed t has missing)
      ]
    ]))
  where
    none_before : (t : Triple) → has_equal p t ≡ false → copies p t ≡ 0
    none_before t missing = elim (cases_eq (copies p t) 0) [
      | inl none ↦ none
      | inr some ↦ absurd (let k : true ≡ false = sym (has_equal-true p t (HasTriple-copies p t (omega arith))) ∙ missing in (cc))
    ]

    listed : (t : Triple) → HasTriple (entered p parts) t → has_equal p t ≡ false → IsUnadded net.triples t
    listed t has missing =
        let none = none_before t missing in
        let some = copies-HasTriple (entered p parts) t has in
        let r = is.covered t (λ e. absurd (omega arith)) in
        let counted = All-contains (IsCounted p parts) net.triples r.0 is.counted r.1 in
        let before : r.0.before ≡ copies p t = counted.before ∙ ap (copies p) r.2 in
        let after : r.0.after ≡ copies (entered p parts) t = counted.after ∙ ap (copies (entered p parts)) r.2 in
        record { triple = r.0; listed = r.1; same = r.2; more = omega arith }

-- those with more copies are in the graph
pub added_in : (p : PlainGraph) (parts : List Update) (net : Net) → IsNet p parts net → AreAdded (entered p parts) net.triples
added_in p parts net is = All-from_Contains (λ n. n.before < n.after → HasTriple (entered p parts) n.triple) net.triples
    (λ n at more. let counted = All-contains (IsCounted p parts) net.triples n is.counted at in
    let after = counted.after in HasTriple-copies (entered p parts) n.triple (omega arith))

-- nothing is left to be looked at
pub unadded_none : (g : PlainGraph) (spec : Spec) (F : Forest) (n : ℕ) (fallen : List ℕ) (changes : ℕ → Option Change) (queue : List (ℕ × ℕ))
    → IsPrepared g spec F n fallen changes queue (unadded []) → IsPrepared g spec F n fallen changes queue nothing
unadded_none g spec F n fallen changes queue P =
    prepared_less g spec F n fallen changes queue (unadded []) nothing P (λ t a x has joins waits out. inl (λ u. Contains-none u.triple u.listed))
