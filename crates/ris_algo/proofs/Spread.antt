-- That values which spread no more, and their parents, are a right forest.
use Rattle.std.proofs.Common.{◌≡◌, ℕ, ◌-◌, ◌^◌, ◌<◌, ◌≤◌, true, false, inl, inr, Some, arith, refl, sym, subst, ap, ◌∙◌}
use Rattle.std.proofs.lemmas.Bool.{cases_Bool, cases_eq, cases_lt, both_ways as not_both}
use Rattle.std.proofs.lemmas.Bool.Decides.{nat_tests}
use Rattle.ris_base.specs.Analysis.{step, better}
use Rattle.ris_base.specs.Forest.{Forest, IsForest, IsParent, Joins}
use Rattle.ris_base.specs.Graph.{HasTriple, IsProper, triple}
use Rattle.ris_base.specs.Safe.{improves}
use Rattle.ris_base.specs.Value.{IsValue}
use Rattle.ris_base.specs.Walk.{both_ways}
use Rattle.ris_base.specs.declared.graphs.PlainGraph.{PlainGraph}
use Rattle.ris_base.specs.declared.graphs.Triple.{Triple}
use Rattle.ris_base.specs.declared.analyses.Kind.{Kind}
use Rattle.ris_base.specs.declared.analyses.Kind.TheVariants.{Bfs, Sssp, Sswp, Wcc}
use Rattle.ris_base.specs.declared.analyses.Spec.{Spec}
use Rattle.ris_base.specs.declared.analyses.Value.{Value}
use Rattle.ris_base.specs.declared.analyses.Value.TheVariants.{Absent, Unreached, Num}
use Rattle.ris_base.specs.declared.forests.Parent.{Parent}
use Rattle.ris_base.specs.declared.forests.Parent.TheVariants as parent
use Rattle.ris_algo.specs.Certificate.{IsStable}
use Rattle.ris_algo.specs.Spreading.{State, IsAlong, IsLoose, IsSpreading, nothing}
use Rattle.ris_algo.proofs.Along.{not_better_transitive}
use Rattle.ris_algo.proofs.Certificates.{value_from_certificate}
use Rattle.ris_algo.proofs.Four.{laws_of}
use Rattle.ris_algo.proofs.Offers.{num-inj, HasWalk-from_reached}
use Rattle.ris_algo.proofs.Rooted.{Falls, rooted_by_rank}
use Rattle.ris_algo.proofs.Taken.{value_small}

-- a rank that is less, the better a number is
abbrev pub badness : Kind → ℕ → ℕ
badness Bfs c = c
badness Sssp c = c
badness Sswp c = 2 ^ 59 - c
badness Wcc c = c

pub badness-better : (kind : Kind) (a b : ℕ) → a < 2 ^ 59 → b < 2 ^ 59 → better kind a b ≡ true → badness kind a < badness kind b
badness-better Bfs a b small light h = grind (arith, nat_tests)
badness-better Sssp a b small light h = grind (arith, nat_tests)
badness-better Sswp a b small light h = grind (arith, nat_tests)
badness-better Wcc a b small light h = grind (arith, nat_tests)

pub badness-not_better : (kind : Kind) (a b : ℕ) → better kind a b ≡ false → badness kind b ≤ badness kind a
badness-not_better Bfs a b h = grind (arith, nat_tests)
badness-not_better Sssp a b h = grind (arith, nat_tests)
badness-not_better Sswp a b h = grind (arith, nat_tests)
badness-not_better Wcc a b h = grind (arith, nat_tests)

-- the rank of a value
abbrev pub value_badness : Kind → Value → ℕ
value_badness kind Absent = 0
value_badness kind Unreached = 0
value_badness kind (Num c) = badness kind c

module _ (g : PlainGraph) (spec : Spec) (S : State) (proper : IsProper g) (P : IsSpreading g spec S nothing) (none : (x : ℕ) → S.waiting x ≡ false) where
  all_stepped : (t : Triple) (a x : ℕ) → HasTriple g t → Joins (both_ways spec.kind) t a x → improves spec.kind (S.value a) t.weight (S.value x) ≡ false
  all_stepped t a x has joins = P.stepped t a x has joins (none a) (λ q. q)

  stable : IsStable g spec S.value
  stable = record { started = P.started; stepped = all_stepped }

  -- the values are right
  pub spread_values : (x : ℕ) → IsValue g spec x (S.value x)
  spread_values x =
      value_from_certificate g spec S.value stable x (S.value x) refl (P.placed x) (λ c e. HasWalk-from_reached g spec x c (P.sound x c e))

  same_step : (x vertex : ℕ) (t : Triple) (fact : IsAlong g spec S.value P.order x vertex t) → step spec.kind fact.number t.weight ≡ step spec.kind fact.current t.weight
  same_step x vertex t fact =
      let laws = laws_of g spec in
      let still : improves spec.kind (Num fact.current) t.weight (Num (step spec.kind fact.number t.weight)) ≡ false =
      subst (λ (u : Value). improves spec.kind u t.weight (Num (step spec.kind fact.number t.weight)) ≡ false) fact.above
      (subst (λ (u : Value). improves spec.kind (S.value vertex) t.weight u ≡ false) fact.here (all_stepped t vertex x fact.has fact.joins)) in
      laws.total (step spec.kind fact.number t.weight) (step spec.kind fact.current t.weight)
      (laws.monotone fact.number fact.current t.weight fact.kept) still

  right_parent : (x : ℕ) (p : Parent) → IsLoose g spec S.value P.order x p → IsParent g spec S.value x p
  right_parent x parent.None fact = fact
  right_parent x (parent.From vertex source target weight) fact =
      let e = same_step x vertex (triple source target weight) fact in
      record {
        number = fact.current;
        has = fact.has;
        joins = fact.joins;
        above = fact.above;
        here = fact.here ∙ ap Num e;
        not_start = λ s. fact.not_start (s ∙ ap Some (sym e));
      }

  -- and so are the parents
  pub spread_parents : (x : ℕ) → IsParent g spec S.value x (S.parent x)
  spread_parents x = right_parent x (S.parent x) (P.loose x)

  abbrev rank : ℕ → ℕ
  rank x = value_badness spec.kind (S.value x)

  number_small : (x c : ℕ) → S.value x ≡ Num c → c < 2 ^ 59
  number_small x c e = value_small g spec proper x c (subst (IsValue g spec x) e (spread_values x))

  falls_along : (x c vertex : ℕ) (t : Triple) → S.value x ≡ Num c → (fact : IsAlong g spec S.value P.order x vertex t) → Falls rank P.order x vertex
  falls_along x c vertex t e fact =
      let laws = laws_of g spec in
      let is : step spec.kind fact.number t.weight ≡ c = num-inj (step spec.kind fact.number t.weight) c (sym fact.here ∙ e) in
      let rank_x : rank x ≡ badness spec.kind c = ap (value_badness spec.kind) e in
      let rank_y : rank vertex ≡ badness spec.kind fact.current = ap (value_badness spec.kind) fact.above in
      let never : better spec.kind c fact.number ≡ false = subst (λ (n : ℕ). better spec.kind n fact.number ≡ false) is (laws.never_better fact.number t.weight) in
      elim (cases_eq fact.number fact.current) [
        | inl same ↦
            let le : badness spec.kind fact.current ≤ badness spec.kind c =
            badness-not_better spec.kind c fact.current (subst (λ (n : ℕ). better spec.kind c n ≡ false) same never) in
            elim (cases_lt (badness spec.kind fact.current) (badness spec.kind c)) [
              | inl less ↦ inl (omega arith)
              | inr more ↦ inr (omega arith, fact.before same)
            ]
        | inr other ↦
            let now : better spec.kind fact.current fact.number ≡ true = improved fact.number fact.current fact.kept other in
            let above : better spec.kind fact.current c ≡ true = ahead fact.number fact.current c now never in
            let less = badness-better spec.kind fact.current c (number_small vertex fact.current fact.above) (number_small x c e) above in
            inl (omega arith)
      ]
    where
      improved : (number current : ℕ) → better spec.kind number current ≡ false → ¬ (number ≡ current) → better spec.kind current number ≡ true
      improved number current kept other = elim (cases_Bool (better spec.kind current number)) [
        | inl yes_better ↦ yes_better
        | inr lost ↦ absurd (other ((laws_of g spec).total number current kept lost))
      ]

      ahead : (number current d : ℕ) → better spec.kind current number ≡ true → better spec.kind d number ≡ false → better spec.kind current d ≡ true
      ahead number current d now never = elim (cases_Bool (better spec.kind current d)) [
        | inl yes_better ↦ yes_better
        | inr lost ↦ absurd (not_both (better spec.kind current number) (not_better_transitive (laws_of g spec) current d number lost never) now)
      ]

  abbrev whole : Forest
  whole = record { value = S.value; parent = S.parent }

  rooted : (x c : ℕ) → S.value x ≡ Num c → (vertex source target weight : ℕ) → S.parent x ≡ parent.From vertex source target weight → Falls rank P.order x vertex
  rooted x c e vertex source target weight is =
      falls_along x c vertex (triple source target weight) e (subst (IsLoose g spec S.value P.order x) is (P.loose x))

  -- together they are a right forest
  pub spread_forest : IsForest g spec (record { value = S.value; parent = S.parent })
  spread_forest = record {
    values = spread_values;
    parents = spread_parents;
    rooted = rooted_by_rank g spec whole rank P.order P.placed spread_parents
        (λ x c vertex source target weight e is. rooted x c e vertex source target weight is);
  }
