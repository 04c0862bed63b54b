-- What holds before values spread: fallen vertices have their start values at most, and the others stand as before.
use Rattle.std.proofs.Common.{◌≡◌, ℕ, zero, suc, ◌<◌, Bool, true, false, inl, inr, ◌⊎◌, List, length, Some, None, arith, refl, sym, subst, ap, ◌∙◌}
use Rattle.std.proofs.lemmas.Bool.{cases_Bool, both_ways as not_both}
use Rattle.ris_base.specs.Analysis.{start, step, better}
use Rattle.ris_base.specs.Falling.{HangsBy, IsFallen}
use Rattle.ris_base.specs.Forest.{Forest, IsForest, IsParent, IsFrom, NeedsNone, up, vertex_or}
use Rattle.ris_base.specs.Graph.{HasVertex, IsProper, has_vertex, has_equal, triple}
use Rattle.ris_base.specs.Requests.{entered}
use Rattle.ris_base.specs.Safe.{beats, improves}
use Rattle.ris_base.specs.declared.graphs.PlainGraph.{PlainGraph}
use Rattle.ris_base.specs.declared.graphs.Triple.{Triple}
use Rattle.ris_base.specs.declared.analyses.Spec.{Spec}
use Rattle.ris_base.specs.declared.analyses.Value.{Value}
use Rattle.ris_base.specs.declared.analyses.Value.TheVariants.{Absent, Unreached, Num}
use Rattle.ris_base.specs.declared.forests.Parent.{Parent}
use Rattle.ris_base.specs.declared.forests.Parent.TheVariants as parent
use Rattle.ris_base.specs.declared.updates.Update.{Update}
use Rattle.ris_base.proofs.EffectLemmas.{HasVertex-from_test, has_vertex-true, HasTriple-from_test}
use Rattle.ris_algo.specs.Certificate.{IsPlaced}
use Rattle.ris_algo.specs.Spreading.{State, IsLoose, IsReached, IsSpreading, IsSettling, nothing}
use Rattle.ris_algo.proofs.Certificates.{HasWalk-start, placed_from_value, stable_from_forest}
use Rattle.ris_algo.proofs.Four.{laws_of}
use Rattle.ris_algo.proofs.Offers.{IsReached-from_walk}
use Rattle.ris_algo.proofs.Parents.{up-none, up-suc}
use Rattle.ris_algo.proofs.Standing.{start_entered, stands_in, stands_triple, stands_above, stands_walk}

-- The depth of a vertex below a start

-- one more than what the parent has, or 0 where there is none
abbrev pub below_parent : (ℕ → ℕ) → Parent → ℕ
below_parent f parent.None = 0
below_parent f (parent.From vertex source target weight) = suc (f vertex)

-- how many parents up there is none, or a bound where there always is one
pub depth : Forest → ℕ → ℕ → ℕ
depth F zero x = 0
depth F (suc k) x = below_parent (λ y. depth F k y) (F.parent x)

-- a depth within the bound is the depth for each greater bound
depth-ended : (F : Forest) (k x : ℕ) → F.parent (up F k x) ≡ parent.None → depth F (suc k) x ≡ depth F k x
unfolding depth
depth-ended F zero x h = ap (below_parent (λ y. 0)) (sym (ap F.parent (up-none F x)) ∙ h)
depth-ended F (suc k) x h = go (F.parent x) refl (λ y. depth-ended F k y)
  where
    go : (p : Parent) → F.parent x ≡ p → ((y : ℕ) → F.parent (up F k y) ≡ parent.None → depth F (suc k) y ≡ depth F k y)
        → below_parent (λ y. depth F (suc k) y) (F.parent x) ≡ below_parent (λ y. depth F k y) (F.parent x)
    go parent.None is more = ap (below_parent (λ y. depth F (suc k) y)) is ∙ ap (below_parent (λ y. depth F k y)) (sym is)
    go (parent.From vertex source target weight) is more =
        ap (below_parent (λ y. depth F (suc k) y)) is
        ∙ ap (λ n. suc n) (more vertex (sym (ap F.parent (up-suc F k x ∙ ap (λ q. up F k (vertex_or x q)) is)) ∙ h))
        ∙ ap (below_parent (λ y. depth F k y)) (sym is)

depth-suc : (F : Forest) (k x vertex source target weight : ℕ) → F.parent x ≡ parent.From vertex source target weight → depth F (suc k) x ≡ suc (depth F k vertex)
unfolding depth
depth-suc F k x vertex source target weight is = ap (below_parent (λ y. depth F k y)) is

-- a parent is less deep than its child
depth-parent : (g : PlainGraph) (spec : Spec) (F : Forest) → IsForest g spec F → (x vertex source target weight : ℕ)
    → F.parent x ≡ parent.From vertex source target weight → depth F (length g.vertices) vertex < depth F (length g.vertices) x
depth-parent g spec F right x vertex source target weight is =
    let from : IsFrom g spec F.value x vertex (triple source target weight) = subst (IsParent g spec F.value x) is (right.parents x) in
    let n = length g.vertices in
    let here = depth-ended F n x (right.rooted x (step spec.kind from.number weight) from.here) in
    let one = depth-suc F n x vertex source target weight is in
    omega arith

-- Fresh vertices

-- a value is the start value, unreached where there is none, or absent; only a number waits
abbrev pub IsOwn : PlainGraph → Spec → ℕ → Value → Bool → Type 0
IsOwn g spec x Absent waits = (¬ (HasVertex g x)) × (waits ≡ false)
IsOwn g spec x Unreached waits = HasVertex g x × (start g spec x ≡ None) × (waits ≡ false)
IsOwn g spec x (Num c) waits = HasVertex g x × (start g spec x ≡ Some c) × (waits ≡ true)

-- x has its own value and no parent
pub record IsFresh (g : PlainGraph) (spec : Spec) (S : State) (x : ℕ) : Type 0 where
  pub own : IsOwn g spec x (S.value x) (S.waiting x)
  pub parent : S.parent x ≡ parent.None

own-placed : (g : PlainGraph) (spec : Spec) (x : ℕ) (v : Value) (waits : Bool) → IsOwn g spec x v waits → IsPlaced g x v
own-placed g spec x Absent waits h = h.0
own-placed g spec x Unreached waits h = h.0
own-placed g spec x (Num c) waits h = h.0

own-none : (g : PlainGraph) (spec : Spec) (x : ℕ) (v : Value) (waits : Bool) → IsOwn g spec x v waits → NeedsNone g spec x v
own-none g spec x Absent waits h = tt
own-none g spec x Unreached waits h = tt
own-none g spec x (Num c) waits h = h.1

own-sound : (g : PlainGraph) (spec : Spec) (x : ℕ) (v : Value) (waits : Bool) (c : ℕ) → IsOwn g spec x v waits → v ≡ Num c → IsReached g spec x c
own-sound g spec x Absent waits c h e = absurd (cc)
own-sound g spec x Unreached waits c h e = absurd (cc)
own-sound g spec x (Num d) waits c h e =
    let same : d ≡ c = cc in
    subst (IsReached g spec x) same (IsReached-from_walk g spec x d (HasWalk-start g spec x d h.0 h.1))

own-started : (g : PlainGraph) (spec : Spec) (x : ℕ) (v : Value) (waits : Bool) (c : ℕ) → IsOwn g spec x v waits → HasVertex g x → start g spec x ≡ Some c
    → beats spec.kind c v ≡ false
own-started g spec x Absent waits c h has e = absurd (h.0 has)
own-started g spec x Unreached waits c h has e = (let none = h.1 in absurd (cc))
own-started g spec x (Num d) waits c h has e =
    let both = sym h.1 ∙ e in
    let same : d ≡ c = cc in
    subst (λ (n : ℕ). better spec.kind c n ≡ false) (sym same) ((laws_of g spec).irreflexive c)

own-idle : (g : PlainGraph) (spec : Spec) (x : ℕ) (v : Value) (waits : Bool) (w : ℕ) (to : Value) → IsOwn g spec x v waits → waits ≡ false
    → improves spec.kind v w to ≡ false
own-idle g spec x Absent waits w to h idle = refl
own-idle g spec x Unreached waits w to h idle = refl
own-idle g spec x (Num c) waits w to h idle = absurd (not_both waits idle h.2)

own-numbered : (g : PlainGraph) (spec : Spec) (x : ℕ) (v : Value) (waits : Bool) → IsOwn g spec x v waits → waits ≡ true → (d : ℕ) × (v ≡ Num d)
own-numbered g spec x Absent waits h on = absurd (not_both waits h.1 on)
own-numbered g spec x Unreached waits h on = absurd (not_both waits h.2 on)
own-numbered g spec x (Num c) waits h on = (c, refl)

fresh-loose : (g : PlainGraph) (spec : Spec) (S : State) (order : ℕ → ℕ) (x : ℕ) → IsFresh g spec S x → IsLoose g spec S.value order x (S.parent x)
fresh-loose g spec S order x f =
    subst (IsLoose g spec S.value order x) (sym f.parent) (own-none g spec x (S.value x) (S.waiting x) f.own)

-- where every vertex number is fresh, values may spread
pub fresh_spreading : (g : PlainGraph) (spec : Spec) (S : State) → ((x : ℕ) → IsFresh g spec S x) → IsSpreading g spec S nothing
fresh_spreading g spec S fresh = record {
  order = λ x. 0;
  placed = λ x. own-placed g spec x (S.value x) (S.waiting x) (fresh x).own;
  loose = λ x. fresh-loose g spec S (λ y. 0) x (fresh x);
  sound = λ x c e. own-sound g spec x (S.value x) (S.waiting x) c (fresh x).own e;
  started = λ x c has e. own-started g spec x (S.value x) (S.waiting x) c (fresh x).own has e;
  stepped = λ t a x has joins idle out. own-idle g spec a (S.value a) (S.waiting a) t.weight (S.value x) (fresh a).own idle;
  numbered = λ x h. own-numbered g spec x (S.value x) (S.waiting x) (fresh x).own h;
}

-- where none is settled nothing is asked of those that are
pub none_settling : (g : PlainGraph) (spec : Spec) (S : State) → ((x : ℕ) → S.settled x ≡ false) → IsSettling g spec S
none_settling g spec S none = record {
  apart = λ x h. absurd (not_both (S.settled x) (none x) h);
  exact = λ x h. absurd (not_both (S.settled x) (none x) h);
  final = λ a b c d h. absurd (not_both (S.settled a) (none a) h);
}

-- After a request

-- x stands as it was
pub record IsStill (F : Forest) (S : State) (x : ℕ) : Type 0 where
  pub value : S.value x ≡ F.value x
  pub parent : S.parent x ≡ F.parent x
  pub waiting : S.waiting x ≡ false

-- triples to fallen vertices and those that a request adds
abbrev pub unseen : PlainGraph → (ℕ → Bool) → Triple → ℕ → ℕ → Type 0
unseen p fell t a x = (fell x ≡ true) ⊎ (has_equal p t ≡ false)

module _ (p : PlainGraph) (spec : Spec) (F : Forest) (parts : List Update) (proper : IsProper p) (right : IsForest p spec F) (S : State) (fell : ℕ → Bool)
    (stands : (x : ℕ) → fell x ≡ false → ¬ (IsFallen p parts F x))
    (fresh : (x : ℕ) → fell x ≡ true → IsFresh (entered p parts) spec S x) (still : (x : ℕ) → fell x ≡ false → IsStill F S x) where
  abbrev g : PlainGraph
  g = entered p parts

  abbrev order : ℕ → ℕ
  order = depth F (length p.vertices)

  by_fall : (Goal : Type 0) (x : ℕ) → (fell x ≡ true → Goal) → (fell x ≡ false → Goal) → Goal
  by_fall Goal x down up_right = elim (cases_Bool (fell x)) [ inl h ↦ down h | inr h ↦ up_right h ]

  -- a vertex that stands and is in the graph now was there before
  was_in : (x : ℕ) → fell x ≡ false → HasVertex g x → HasVertex p x
  was_in x free has = elim (cases_Bool (has_vertex p x)) [
    | inl there ↦ HasVertex-from_test p x there
    | inr missing ↦ absurd (stands x free (inr (inl (has, λ was. not_both (has_vertex p x) missing (has_vertex-true p x was)))))
  ]

  still_placed : (x : ℕ) (v : Value) → fell x ≡ false → IsPlaced p x v → IsPlaced g x v
  still_placed x Absent free h = λ has. h (was_in x free has)
  still_placed x Unreached free h = stands_in p spec F parts right x (stands x free) h
  still_placed x (Num c) free h = stands_in p spec F parts right x (stands x free) h

  still_none : (x : ℕ) (v : Value) → NeedsNone p spec x v → NeedsNone g spec x v
  still_none x Absent h = tt
  still_none x Unreached h = tt
  still_none x (Num c) h = start_entered p parts spec x ∙ h

  -- a parent of a vertex that stands stands too
  stands-test : (x : ℕ) → ¬ (IsFallen p parts F x) → (is_fallen : (y : ℕ) → fell y ≡ true → IsFallen p parts F y) → fell x ≡ false
  stands-test x free is_fallen = by_fall (fell x ≡ false) x (λ h. absurd (free (is_fallen x h))) (λ h. h)

  module _ (is_fallen : (x : ℕ) → fell x ≡ true → IsFallen p parts F x) where
    still_loose : (x : ℕ) (q : Parent) → fell x ≡ false → F.parent x ≡ q → IsParent p spec F.value x q → IsLoose g spec S.value order x q
    still_loose x parent.None free is own =
        subst (NeedsNone g spec x) (sym (still x free).value) (still_none x (F.value x) own)
    still_loose x (parent.From vertex source target weight) free is from =
        let t : Triple = triple source target weight in
        let by : HangsBy F x t = record { vertex = vertex; is = is } in
        let above_free = stands-test vertex (stands_above p spec F parts right x t (stands x free) by) is_fallen in
        record {
          number = from.number;
          current = from.number;
          has = stands_triple p spec F parts right x t (stands x free) by;
          joins = from.joins;
          above = (still vertex above_free).value ∙ from.above;
          kept = (laws_of g spec).irreflexive from.number;
          here = (still x free).value ∙ from.here;
          not_start = λ e. from.not_start (sym (start_entered p parts spec x) ∙ e);
          before = λ same. depth-parent p spec F right x vertex source target weight is;
        }

    loose : (x : ℕ) → IsLoose g spec S.value order x (S.parent x)
    loose x = by_fall (IsLoose g spec S.value order x (S.parent x)) x
        (λ h. fresh-loose g spec S order x (fresh x h))
        (λ h. subst (IsLoose g spec S.value order x) (sym (still x h).parent) (still_loose x (F.parent x) h refl (right.parents x)))

    -- what holds before values spread, but for the triples not seen
    pub begun : IsSpreading g spec S (unseen p fell)
    begun = record {
      order = order;
      placed = λ x. by_fall (IsPlaced g x (S.value x)) x
          (λ h. own-placed g spec x (S.value x) (S.waiting x) (fresh x h).own)
          (λ h. subst (IsPlaced g x) (sym (still x h).value) (still_placed x (F.value x) h (placed_from_value p spec x (F.value x) (right.values x))));
      loose = loose;
      sound = λ x c e. by_fall (IsReached g spec x c) x
          (λ h. own-sound g spec x (S.value x) (S.waiting x) c (fresh x h).own e)
          (λ h. IsReached-from_walk g spec x c (stands_walk p spec F parts right x c (sym (still x h).value ∙ e) (stands x h)));
      started = λ x c has e. by_fall (beats spec.kind c (S.value x) ≡ false) x
          (λ h. own-started g spec x (S.value x) (S.waiting x) c (fresh x h).own has e)
          (λ h. subst (λ v. beats spec.kind c v ≡ false) (sym (still x h).value)
          ((stable_from_forest p spec F proper right).started x c (was_in x h has) (sym (start_entered p parts spec x) ∙ e)));
      stepped = λ t a x has joins idle out. by_fall (improves spec.kind (S.value a) t.weight (S.value x) ≡ false) a
          (λ h. own-idle g spec a (S.value a) (S.waiting a) t.weight (S.value x) (fresh a h).own idle)
          (λ h. by_fall (improves spec.kind (S.value a) t.weight (S.value x) ≡ false) x
          (λ k. absurd (out (inl k)))
          (λ k. elim (cases_Bool (has_equal p t)) [
            | inr missing ↦ absurd (out (inr missing))
            | inl there ↦
                subst (λ v. improves spec.kind v t.weight (S.value x) ≡ false) (sym (still a h).value)
                (subst (λ v. improves spec.kind (F.value a) t.weight v ≡ false) (sym (still x k).value)
                ((stable_from_forest p spec F proper right).stepped t a x (HasTriple-from_test p t there) joins))
          ]));
      numbered = λ x h. by_fall ((d : ℕ) × (S.value x ≡ Num d)) x
          (λ k. own-numbered g spec x (S.value x) (S.waiting x) (fresh x k).own h)
          (λ k. absurd (not_both (S.waiting x) (still x k).waiting h));
    }
