-- Parents: which triples they use, where they lead, and that values don't get better on the way down.
use Rattle.std.proofs.Common.{◌≡◌, ℕ, zero, suc, ◌+◌, ◌-◌, ◌≤◌, true, false, inl, inr, arith, refl, sym, subst, ap, ◌∙◌}
use Rattle.std.proofs.lemmas.Bool.{true≢false, or_left, or_right, false_from_ne_true}
use Rattle.ris_base.specs.Analysis.{step, better}
use Rattle.ris_base.specs.Falling.{HangsBy}
use Rattle.ris_base.specs.Forest.{Forest, IsFrom, IsParent, vertex_or, up}
use Rattle.ris_base.specs.Graph.{triple}
use Rattle.ris_base.specs.Safe.{is_along, uses}
use Rattle.ris_base.specs.declared.graphs.PlainGraph.{PlainGraph}
use Rattle.ris_base.specs.declared.graphs.Triple.{Triple}
use Rattle.ris_base.specs.declared.analyses.Spec.{Spec}
use Rattle.ris_base.specs.declared.analyses.Value.TheVariants.{Num}
use Rattle.ris_base.specs.declared.forests.Parent.{Parent}
use Rattle.ris_base.specs.declared.forests.Parent.TheVariants as parent
use Rattle.ris_base.proofs.EffectLemmas.{same_from_equal, equal_itself}
use Rattle.ris_algo.proofs.Along.{not_better_transitive}
use Rattle.ris_algo.proofs.Four.{laws_of}

-- Up from a vertex

-- no parent up
pub up-none : (F : Forest) (x : ℕ) → up F 0 x ≡ x
unfolding up
up-none F x = refl

-- one parent, and then the others
pub up-suc : (F : Forest) (k x : ℕ) → up F (suc k) x ≡ up F k (vertex_or x (F.parent x))
unfolding up
up-suc F k x = refl

-- a vertex without a parent stands still
pub up-root : (F : Forest) (k x : ℕ) → F.parent x ≡ parent.None → up F k x ≡ x
unfolding up
up-root F zero x h = refl
up-root F (suc k) x h = rw h (up-root F k x h)

-- some parents up, and then some more
pub up-add : (F : Forest) (j k x : ℕ) → up F (j + k) x ≡ up F k (up F j x)
unfolding up
up-add F zero k x = let none : 0 + k ≡ k = omega arith in ap (λ n. up F n x) none
up-add F (suc j) k x =
    let more : suc j + k ≡ suc (j + k) = omega arith in
    ap (λ n. up F n x) more ∙ up-add F j k (vertex_or x (F.parent x))

-- where parents have come to an end, they stay there
pub up-ended : (F : Forest) (k n x : ℕ) → F.parent (up F k x) ≡ parent.None → k ≤ n → up F n x ≡ up F k x
up-ended F k n x h le =
    let sum : k + (n - k) ≡ n = omega arith in
    ap (λ m. up F m x) (sym sum) ∙ up-add F k (n - k) x ∙ up-root F (n - k) (up F k x) h

-- Triples of parents

-- a parent along a triple is what a vertex hangs by
pub HangsBy-from_test : (F : Forest) (x : ℕ) (t : Triple) → is_along t (F.parent x) ≡ true → HangsBy F x t
HangsBy-from_test F x t h = go (F.parent x) refl h
  where
    go : (p : Parent) → F.parent x ≡ p → is_along t p ≡ true → HangsBy F x t
    go parent.None is k = absurd (true≢false (sym k))
    go (parent.From vertex source target weight) is k = record {
      vertex = vertex;
      is = subst (λ (s : Triple). F.parent x ≡ parent.From vertex s.source s.target s.weight) (sym (same_from_equal t (triple source target weight) k)) is;
    }

-- and the other way round
pub is_along-true : (F : Forest) (x : ℕ) (t : Triple) → HangsBy F x t → is_along t (F.parent x) ≡ true
is_along-true F x t h = rw h.is (equal_itself t)

module _ (g : PlainGraph) (spec : Spec) (F : Forest) (parents : (x : ℕ) → IsParent g spec F.value x (F.parent x)) where
  -- what a right parent says
  pub from_parent : (x : ℕ) (t : Triple) → (h : HangsBy F x t) → IsFrom g spec F.value x h.vertex t
  from_parent x t h = subst (IsParent g spec F.value x) h.is (parents x)

  -- the triple of a right parent is used
  pub uses-parent : (x : ℕ) (t : Triple) → HangsBy F x t → uses F t ≡ true
  uses-parent x t h =
      let here = is_along-true F x t h in
      elim (from_parent x t h).joins [
        | inl on ↦ or_right (is_along t (F.parent t.source)) (is_along t (F.parent t.target)) (subst (λ (n : ℕ). is_along t (F.parent n) ≡ true) (sym on.1) here)
        | inr back ↦ or_left (is_along t (F.parent t.source)) (is_along t (F.parent t.target)) (subst (λ (n : ℕ). is_along t (F.parent n) ≡ true) (sym back.2) here)
      ]

  -- so a triple that the forest doesn't use is nobody's parent
  pub unused : (t : Triple) → uses F t ≡ false → (x : ℕ) → is_along t (F.parent x) ≡ false
  unused t h x = false_from_ne_true (is_along t (F.parent x)) (λ e. true≢false (sym (uses-parent x t (HangsBy-from_test F x t e)) ∙ h))

  -- the parent of a vertex with a number has a number, which is no worse
  above_one : (x c : ℕ) → F.value x ≡ Num c → (d : ℕ) × (F.value (vertex_or x (F.parent x)) ≡ Num d) × (better spec.kind c d ≡ false)
  above_one x c e = go (F.parent x) (parents x)
    where
      go : (p : Parent) → IsParent g spec F.value x p → (d : ℕ) × (F.value (vertex_or x p) ≡ Num d) × (better spec.kind c d ≡ false)
      go parent.None own = (c, e, (laws_of g spec).irreflexive c)
      go (parent.From vertex source target weight) from =
          let same : step spec.kind from.number weight ≡ c = (let both = sym from.here ∙ e in cc) in
          (from.number, from.above, subst (λ n. better spec.kind n from.number ≡ false) same ((laws_of g spec).never_better from.number weight))

  -- up from a vertex with a number each vertex has a number, and none is worse
  pub above_number : (k x c : ℕ) → F.value x ≡ Num c → (d : ℕ) × (F.value (up F k x) ≡ Num d) × (better spec.kind c d ≡ false)
  unfolding up
  above_number zero x c e = (c, e, (laws_of g spec).irreflexive c)
  above_number (suc k) x c e =
      let one = above_one x c e in
      let more = above_number k (vertex_or x (F.parent x)) one.0 one.1 in
      (more.0, more.1, not_better_transitive (laws_of g spec) c one.0 more.0 one.2 more.2)
