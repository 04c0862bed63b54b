-- That a forest which is justified and stable is right, and that a right one is both.
use Rattle.std.proofs.Common.{◌≡◌, ℕ, zero, suc, false, inl, inr, List, [], ◌∷◌, ◌++◌, length, Some, refl, sym, subst, ap, ◌∙◌}
use Rattle.ris_base.specs.Analysis.{start, step, better}
use Rattle.ris_base.specs.Forest.{Forest, Joins, IsParent, IsForest, NeedsNone, up}
use Rattle.ris_base.specs.Graph.{HasVertex, HasTriple, IsProper, triple}
use Rattle.ris_base.specs.Safe.{beats, improves}
use Rattle.ris_base.specs.Value.{IsValue}
use Rattle.ris_base.specs.Walk.{Walk, IsWalk, Leads, worth, both_ways}
use Rattle.ris_base.specs.declared.graphs.PlainGraph.{PlainGraph}
use Rattle.ris_base.specs.declared.graphs.Triple.{Triple}
use Rattle.ris_base.specs.declared.analyses.Kind.{Kind}
use Rattle.ris_base.specs.declared.analyses.Spec.{Spec}
use Rattle.ris_base.specs.declared.analyses.Value.{Value}
use Rattle.ris_base.specs.declared.analyses.Value.TheVariants.{Absent, Unreached, Num}
use Rattle.ris_base.specs.declared.forests.Parent.{Parent}
use Rattle.ris_base.specs.declared.forests.Parent.TheVariants as parent
use Rattle.ris_algo.specs.Certificate.{IsPlaced, IsJustified, IsStable}
use Rattle.ris_algo.specs.Laws.{along}
use Rattle.ris_algo.proofs.Along.{not_better_transitive}
use Rattle.ris_algo.proofs.Four.{laws_of, meaning_of, suits_itself}
use Rattle.ris_algo.proofs.Meaning.{start_from_first, first_from_start, not_IsBetter, not_better, worth-none, worth-push}
use Rattle.ris_algo.proofs.Walks.{Leads-push, Joins-vertices}

-- some walk to x is worth c
pub record HasWalk (g : PlainGraph) (spec : Spec) (x c : ℕ) : Type 0 where
  pub walk : Walk
  pub is : IsWalk g spec x walk
  pub worth_is : worth g spec.kind walk ≡ c

-- a number that doesn't beat a value is no better than the number that the value is
pub beats-number : (kind : Kind) (c : ℕ) (v : Value) → beats kind c v ≡ false → (d : ℕ) × (v ≡ Num d) × (better kind c d ≡ false)
beats-number kind c Absent h = absurd (cc)
beats-number kind c Unreached h = absurd (cc)
beats-number kind c (Num d) h = (d, refl, h)

-- a step that doesn't improve a value doesn't beat it
pub beats-step : (kind : Kind) (from to : Value) (w c : ℕ) → from ≡ Num c → improves kind from w to ≡ false → beats kind (step kind c w) to ≡ false
beats-step kind from to w c e h = rw e at h

module _ (g : PlainGraph) (spec : Spec) where
  -- a number that is no better than one which doesn't beat a value doesn't either
  pub beats-worse : (c d : ℕ) (v : Value) → better spec.kind c d ≡ false → beats spec.kind d v ≡ false → beats spec.kind c v ≡ false
  beats-worse c d Absent h k = k
  beats-worse c d Unreached h k = k
  beats-worse c d (Num e) h k = not_better_transitive (laws_of g spec) c d e h k

  -- the walk with no triple
  pub HasWalk-start : (x c : ℕ) → HasVertex g x → start g spec x ≡ Some c → HasWalk g spec x c
  HasWalk-start x c has e =
      let meaning = meaning_of g spec in
      record {
        walk = record { first = x; triples = [] };
        is = record { begins = has; first = first_from_start meaning x c e; leads = refl };
        worth_is = worth-none meaning g (suits_itself spec.kind g.format) x c e;
      }

  -- a walk and one more triple
  pub HasWalk-step : (a x c : ℕ) (t : Triple) → HasTriple g t → Joins (both_ways spec.kind) t a x
      → HasWalk g spec a c → HasWalk g spec x (step spec.kind c t.weight)
  HasWalk-step a x c t has joins r = record {
    walk = record { first = r.walk.first; triples = r.walk.triples ++ t ∷ [] };
    is = record {
      begins = r.is.begins;
      first = r.is.first;
      leads = Leads-push g (both_ways spec.kind) r.walk.first a x r.walk.triples t r.is.leads has joins;
    };
    worth_is = worth-push (meaning_of g spec) g (suits_itself spec.kind g.format) r.walk.first r.walk.triples t r.is.first
        ∙ ap (λ n. step spec.kind n t.weight) r.worth_is;
  }

  -- Stable values

  -- one more triple: what doesn't beat the one end doesn't, after the step, beat the other
  pub stable_step : (value : ℕ → Value) → IsStable g spec value → (t : Triple) (a b c : ℕ) → HasTriple g t → Joins (both_ways spec.kind) t a b
      → beats spec.kind c (value a) ≡ false → beats spec.kind (step spec.kind c t.weight) (value b) ≡ false
  stable_step value stable t a b c has joins h =
      let r = beats-number spec.kind c (value a) h in
      beats-worse (step spec.kind c t.weight) (step spec.kind r.0 t.weight) (value b)
      ((laws_of g spec).monotone c r.0 t.weight r.2)
      (beats-step spec.kind (value a) (value b) t.weight r.0 r.1 (stable.stepped t a b has joins))

  -- what doesn't beat the value where a walk begins doesn't, after the walk, beat the value where it leads
  pub stable_along : (value : ℕ → Value) → IsStable g spec value → (ts : List Triple) (a x c : ℕ) → Leads g (both_ways spec.kind) a ts x
      → beats spec.kind c (value a) ≡ false → beats spec.kind (along (step spec.kind) c ts) (value x) ≡ false
  stable_along value stable [] a x c leads h = subst (λ (n : ℕ). beats spec.kind c (value n) ≡ false) leads h
  stable_along value stable (t ∷ rest) a x c leads h =
      elim leads.1 [
        | inl on ↦ stable_along value stable rest t.target x (step spec.kind c t.weight) on.1
            (stable_step value stable t a t.target c leads.0 (inl (on.0, refl)) h)
        | inr back ↦ stable_along value stable rest t.source x (step spec.kind c t.weight) back.2
            (stable_step value stable t a t.source c leads.0 (inr (back.0, back.1, refl)) h)
      ]

  -- no walk beats the value where it leads
  pub stable_walk : (value : ℕ → Value) → IsStable g spec value → (x : ℕ) (w : Walk) → IsWalk g spec x w
      → beats spec.kind (worth g spec.kind w) (value x) ≡ false
  stable_walk value stable x w walk =
      let meaning = meaning_of g spec in
      let from = start_from_first meaning w.first walk.first in
      rw (meaning.reaches g w from.0 (suits_itself spec.kind g.format) from.1)
      (stable_along value stable w.triples w.first x from.0 walk.leads (stable.started w.first from.0 walk.begins from.1))

  -- Justified numbers

  -- a vertex with a number is in the graph
  pub placed-number : (x c : ℕ) (v : Value) → v ≡ Num c → IsPlaced g x v → HasVertex g x
  placed-number x c v e h = rw e at h

  -- a vertex with a number and without a parent has its start value
  pub start-number : (x c : ℕ) (v : Value) → v ≡ Num c → NeedsNone g spec x v → start g spec x ≡ Some c
  start-number x c v e h = rw e at h

  -- a number is the worth of the walk along its parents
  pub justified_walk : (F : Forest) → ((x : ℕ) → IsPlaced g x (F.value x)) → ((x : ℕ) → IsParent g spec F.value x (F.parent x))
      → (k x c : ℕ) → F.value x ≡ Num c → F.parent (up F k x) ≡ parent.None → HasWalk g spec x c
  unfolding up
  justified_walk F placed parents zero x c e root =
      let own : IsParent g spec F.value x parent.None = subst (IsParent g spec F.value x) root (parents x) in
      HasWalk-start x c (placed-number x c (F.value x) e (placed x)) (start-number x c (F.value x) e own)
  justified_walk F placed parents (suc k) x c e root =
      go (F.parent x) (parents x) refl (λ y d. justified_walk F placed parents k y d)
    where
      go : (p : Parent) → IsParent g spec F.value x p → F.parent x ≡ p
          → ((y d : ℕ) → F.value y ≡ Num d → F.parent (up F k y) ≡ parent.None → HasWalk g spec y d) → HasWalk g spec x c
      go parent.None own is more =
          HasWalk-start x c (placed-number x c (F.value x) e (placed x)) (start-number x c (F.value x) e own)
      go (parent.From vertex source target weight) from is more =
          let t : Triple = triple source target weight in
          let above : F.parent (up F k vertex) ≡ parent.None = rw is at root in
          let same : step spec.kind from.number weight ≡ c = (let both = sym from.here ∙ e in cc) in
          subst (HasWalk g spec x) same (HasWalk-step vertex x from.number t from.has from.joins (more vertex from.number from.above above))

  -- The certificate

  -- a stable value of which a number is the worth of some walk is the value of the definition
  pub value_from_certificate : (value : ℕ → Value) → IsStable g spec value → (x : ℕ) (v : Value) → value x ≡ v → IsPlaced g x v
      → ((c : ℕ) → v ≡ Num c → HasWalk g spec x c) → IsValue g spec x v
  value_from_certificate value stable x Absent e placed some = placed
  value_from_certificate value stable x Unreached e placed some = (
    placed,
    λ w walk. (let r = beats-number spec.kind (worth g spec.kind w) (value x) (stable_walk value stable x w walk) in let reached = r.1 in absurd (cc)),
  )
  value_from_certificate value stable x (Num c) e placed some =
      let reached = some c refl in (
        placed,
        record {
          some = (reached.walk, reached.is, reached.worth_is);
          best = λ w walk. not_IsBetter (meaning_of g spec) (worth g spec.kind w) c (rw e at (stable_walk value stable x w walk));
        },
      )

  -- a forest that is justified and stable is right
  pub forest_from_certificate : (F : Forest) → IsJustified g spec F → IsStable g spec F.value → IsForest g spec F
  forest_from_certificate F just stable = record {
    values = λ x. value_from_certificate F.value stable x (F.value x) refl (just.placed x)
        (λ c e. justified_walk F just.placed just.parents (length g.vertices) x c e (just.rooted x c e));
    parents = just.parents;
    rooted = just.rooted;
  }

  -- The way back

  -- a value of the definition says whether its vertex is in the graph
  pub placed_from_value : (x : ℕ) (v : Value) → IsValue g spec x v → IsPlaced g x v
  placed_from_value x Absent h = h
  placed_from_value x Unreached h = h.0
  placed_from_value x (Num c) h = h.0

  -- a right forest is justified
  pub justified_from_forest : (F : Forest) → IsForest g spec F → IsJustified g spec F
  justified_from_forest F right = record {
    placed = λ x. placed_from_value x (F.value x) (right.values x);
    parents = right.parents;
    rooted = right.rooted;
  }

  -- no walk beats a value of the definition
  not_beaten : (x c : ℕ) (v : Value) → HasVertex g x → HasWalk g spec x c → IsValue g spec x v → beats spec.kind c v ≡ false
  not_beaten x c Absent has r h = absurd (h has)
  not_beaten x c Unreached has r h = absurd (h.1 r.walk r.is)
  not_beaten x c (Num d) has r h = not_better (meaning_of g spec) c d (rw r.worth_is at (h.1.best r.walk r.is))

  -- the values of the definition are stable in a proper graph
  pub stable_from_values : (value : ℕ → Value) → IsProper g → ((x : ℕ) → IsValue g spec x (value x)) → IsStable g spec value
  stable_from_values value proper right = record {
    started = λ x c has e. not_beaten x c (value x) has (HasWalk-start x c has e) (right x);
    stepped = λ t a x has joins. go t a x (value a) (right a) has joins;
  }
    where
      go : (t : Triple) (a x : ℕ) (v : Value) → IsValue g spec a v → HasTriple g t → Joins (both_ways spec.kind) t a x
          → improves spec.kind v t.weight (value x) ≡ false
      go t a x Absent h has joins = refl
      go t a x Unreached h has joins = refl
      go t a x (Num c) h has joins =
          not_beaten x (step spec.kind c t.weight) (value x) (Joins-vertices proper (both_ways spec.kind) t a x has joins).1
          (HasWalk-step a x c t has joins (record { walk = h.1.some.0; is = h.1.some.1; worth_is = h.1.some.2 })) (right x)

  -- and so are those of a right forest
  pub stable_from_forest : (F : Forest) → IsProper g → IsForest g spec F → IsStable g spec F.value
  stable_from_forest F proper right = stable_from_values F.value proper right.values
