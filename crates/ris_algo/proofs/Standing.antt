-- That a vertex which doesn't fall keeps its parents, so that its number is still the worth of some walk.
use Rattle.std.proofs.Common.{◌≡◌, ℕ, zero, suc, inl, inr, List, length, arith, refl, sym, subst, ap, ◌∙◌}
use Rattle.std.proofs.lemmas.Bool.{cases_lt}
use Rattle.ris_base.specs.Analysis.{start, start_at, step}
use Rattle.ris_base.specs.Falling.{Drops, HangsBy, IsLost, HangsLost, IsFallen}
use Rattle.ris_base.specs.Forest.{Forest, IsParent, IsForest, NeedsNone, up, vertex_or}
use Rattle.ris_base.specs.Graph.{HasVertex, HasTriple, copies, triple}
use Rattle.ris_base.specs.Limits.{greatest_of}
use Rattle.ris_base.specs.Requests.{entered}
use Rattle.ris_base.specs.declared.graphs.PlainGraph.{PlainGraph}
use Rattle.ris_base.specs.declared.graphs.Triple.{Triple}
use Rattle.ris_base.specs.declared.analyses.Spec.{Spec}
use Rattle.ris_base.specs.declared.analyses.Value.TheVariants.{Num}
use Rattle.ris_base.specs.declared.updates.Update.{Update}
use Rattle.ris_base.specs.declared.forests.Parent.{Parent}
use Rattle.ris_base.specs.declared.forests.Parent.TheVariants as parent
use Rattle.ris_base.proofs.EffectLemmas.{HasTriple-copies}
use Rattle.ris_base.proofs.RequestLemmas.{HasVertex-kept, format-entered}
use Rattle.ris_algo.proofs.Certificates.{HasWalk, HasWalk-start, HasWalk-step, placed-number, placed_from_value, start-number}
use Rattle.ris_algo.proofs.Parents.{from_parent, up-none, up-suc}

-- the start values are those of every graph of the format
pub start_entered : (g : PlainGraph) (parts : List Update) (spec : Spec) (x : ℕ) → start (entered g parts) spec x ≡ start g spec x
start_entered g parts spec x = ap (λ f. start_at (greatest_of f) spec.kind spec.root x) (format-entered g parts)

module _ (g : PlainGraph) (spec : Spec) (F : Forest) (parts : List Update) (right : IsForest g spec F) where
  -- a vertex with a number is in the graph
  numbered : (x c : ℕ) → F.value x ≡ Num c → HasVertex g x
  numbered x c e = placed-number g spec x c (F.value x) e (placed_from_value g spec x (F.value x) (right.values x))

  -- a vertex of the graph that doesn't fall stays in it
  pub stands_in : (x : ℕ) → ¬ (IsFallen g parts F x) → HasVertex g x → HasVertex (entered g parts) x
  stands_in x stands has = HasVertex-kept g parts x (λ dropped. stands (inl (has, dropped))) has

  -- its parent's edge isn't lost
  pub stands_edge : (x : ℕ) (t : Triple) → ¬ (IsFallen g parts F x) → HangsBy F x t → ¬ (IsLost g parts t)
  stands_edge x t stands by lost =
      stands (inr (inr (record { steps = 0; lost = subst (HangsLost g parts F) (sym (up-none F x)) (record { edge = t; by_edge = by; lost = lost }) })))

  -- and is in the graph after the request
  pub stands_triple : (x : ℕ) (t : Triple) → ¬ (IsFallen g parts F x) → HangsBy F x t → HasTriple (entered g parts) t
  stands_triple x t stands by =
      elim (cases_lt 0 (copies (entered g parts) t)) [
        | inl some ↦ HasTriple-copies (entered g parts) t some
        | inr none ↦ absurd (stands_edge x t stands by (inl (omega arith)))
      ]

  -- nor does its parent fall
  pub stands_above : (x : ℕ) (t : Triple) → ¬ (IsFallen g parts F x) → (by : HangsBy F x t) → ¬ (IsFallen g parts F by.vertex)
  stands_above x t stands by fallen =
      let from = from_parent g spec F right.parents x t by in
      elim fallen [
        | inl dropped ↦ stands_edge x t stands by (elim from.joins [
          | inl on ↦ inr (inl (subst (Drops parts) (sym on.0) dropped.1))
          | inr back ↦ inr (inr (subst (Drops parts) (sym back.1) dropped.1))
        ])
        | inr other ↦ elim other [
          | inl new ↦ new.1 (numbered by.vertex from.number from.above)
          | inr below ↦ stands (inr (inr (record {
            steps = suc below.steps;
            lost = subst (HangsLost g parts F) (sym (up-suc F below.steps x ∙ ap (λ p. up F below.steps (vertex_or x p)) by.is)) below.lost;
          })))
        ]
      ]

  -- a vertex that has its start value has it still
  begins : (x c : ℕ) → F.value x ≡ Num c → ¬ (IsFallen g parts F x) → NeedsNone g spec x (F.value x) → HasWalk (entered g parts) spec x c
  begins x c e stands own =
      HasWalk-start (entered g parts) spec x c (stands_in x stands (numbered x c e))
      (start_entered g parts spec x ∙ start-number g spec x c (F.value x) e own)

  -- so the walk along its parents is still there
  along_parents : (k x c : ℕ) → F.value x ≡ Num c → F.parent (up F k x) ≡ parent.None → ¬ (IsFallen g parts F x)
      → HasWalk (entered g parts) spec x c
  along_parents zero x c e root stands =
      begins x c e stands (subst (IsParent g spec F.value x) (ap F.parent (sym (up-none F x)) ∙ root) (right.parents x))
  along_parents (suc k) x c e root stands = go (F.parent x) (right.parents x) refl (λ y. along_parents k y)
    where
      go : (p : Parent) → IsParent g spec F.value x p → F.parent x ≡ p
          → ((y d : ℕ) → F.value y ≡ Num d → F.parent (up F k y) ≡ parent.None → ¬ (IsFallen g parts F y) → HasWalk (entered g parts) spec y d)
          → HasWalk (entered g parts) spec x c
      go parent.None own is more = begins x c e stands own
      go (parent.From vertex source target weight) from is more =
          let t : Triple = triple source target weight in
          let by : HangsBy F x t = record { vertex = vertex; is = is } in
          let end : F.parent (up F k vertex) ≡ parent.None = ap F.parent (sym (up-suc F k x ∙ ap (λ p. up F k (vertex_or x p)) is)) ∙ root in
          let same : step spec.kind from.number weight ≡ c = (let both = sym from.here ∙ e in cc) in
          subst (HasWalk (entered g parts) spec x) same
          (HasWalk-step (entered g parts) spec vertex x from.number t (stands_triple x t stands by) from.joins
          (more vertex from.number from.above end (stands_above x t stands by)))

  -- a vertex with a number that doesn't fall has it still as the worth of some walk
  pub stands_walk : (x c : ℕ) → F.value x ≡ Num c → ¬ (IsFallen g parts F x) → HasWalk (entered g parts) spec x c
  stands_walk x c e stands = along_parents (length g.vertices) x c e (right.rooted x c e) stands
