-- A reach isn't impossible: of finitely many vertices, each falls or doesn't, and moves or doesn't.
use Rattle.std.proofs.Common.{◌≡◌, ◌≢◌, ℕ, zero, suc, ◌<◌, ◌≤◌, inl, inr, List, [], ◌∷◌, Option, Some, None, arith, refl, sym, subst, ◌∙◌}
use Rattle.std.specs.Prelude.{◌↔◌}
use Rattle.std.specs.List.{Contains}
use Rattle.std.proofs.lemmas.List.Elements.{All-contains}
use Rattle.ris_base.specs.Falling.{AreFallen, AreImproved, AreReaches, HangsLost, IsFallen, IsReach, IsReachFor, IsReachUnless}
use Rattle.ris_base.specs.Forest.{Forest, AreForests, IsForest, IsParent, up}
use Rattle.ris_base.specs.Graph.{EachOnce, HasVertex, IsProper}
use Rattle.ris_base.specs.Limits.{vertex_limit}
use Rattle.ris_base.specs.Lists.{numbers_below}
use Rattle.ris_base.specs.Requests.{RefusedPart, refusal_of, entered}
use Rattle.ris_base.specs.Value.{IsValue, Moves}
use Rattle.ris_base.specs.declared.analyses.Spec.{Spec}
use Rattle.ris_base.specs.declared.analyses.Value.{Value}
use Rattle.ris_base.specs.declared.analyses.Value.TheVariants.{Absent, Unreached, Num}
use Rattle.ris_base.specs.declared.forests.Parent.{Parent}
use Rattle.ris_base.specs.declared.forests.Parent.TheVariants as parent
use Rattle.ris_base.specs.declared.graphs.PlainGraph.{PlainGraph}
use Rattle.ris_base.specs.declared.updates.Update.{Update}
use Rattle.ris_base.proofs.ListLemmas.{Contains-none, Contains-first, Contains-rest, Contains-cases, EachOnce-cons, EachOnce-head, EachOnce-nil, EachOnce-tail}
use Rattle.ris_base.proofs.NumbersBelow.{Contains-numbers_below, EachOnce-numbers_below}
use Rattle.ris_base.proofs.RequestLemmas.{proper-entered}
use Rattle.ris_algo.proofs.Parents.{up-root}

-- exactly those numbers of a list of which something holds, each once
record AreThose (P : ℕ → Type 0) (all xs : List ℕ) : Type 0 where
  once : EachOnce xs
  each : (x : ℕ) → Contains xs x ↔ (Contains all x × P x)

-- one more number of which it holds
those-with : (P : ℕ → Type 0) (x : ℕ) (all xs : List ℕ) → EachOnce (x ∷ all) → P x → AreThose P all xs → AreThose P (x ∷ all) (x ∷ xs)
those-with P x all xs once holds those = record {
  once = EachOnce-cons x xs (λ h. EachOnce-head x all once ((those.each x).0 h).0) those.once;
  each = λ y. (
    (λ h. elim (Contains-cases x xs y h) [
      | inl e ↦ (subst (λ (n : ℕ). Contains (x ∷ all) n) e (Contains-first x all), subst P e holds)
      | inr rest ↦ (let both = (those.each y).0 rest in (Contains-rest x all y both.0, both.1))
    ]),
    (λ both. elim (Contains-cases x all y both.0) [
      | inl e ↦ subst (λ (n : ℕ). Contains (x ∷ xs) n) e (Contains-first x xs)
      | inr rest ↦ Contains-rest x xs y ((those.each y).1 (rest, both.1))
    ]),
  );
}

-- one more number of which it doesn't hold
those-without : (P : ℕ → Type 0) (x : ℕ) (all xs : List ℕ) → ¬ (P x) → AreThose P all xs → AreThose P (x ∷ all) xs
those-without P x all xs not those = record {
  once = those.once;
  each = λ y. (
    (λ h. let both = (those.each y).0 h in (Contains-rest x all y both.0, both.1)),
    (λ both. elim (Contains-cases x all y both.0) [
      | inl e ↦ absurd (not (subst P (sym e) both.1))
      | inr rest ↦ (those.each y).1 (rest, both.1)
    ]),
  );
}

-- that no list has exactly those is impossible
some_those : (P : ℕ → Type 0) (all : List ℕ) → EachOnce all → ¬ (¬ ((xs : List ℕ) × AreThose P all xs))
some_those P [] once none = none ([], record { once = EachOnce-nil; each = λ x. ((λ h. absurd (Contains-none x h)), (λ both. absurd (Contains-none x both.0))) })
some_those P (x ∷ all) once none = some_those P all (EachOnce-tail x all once) (λ rest.
    none (rest.0, those-without P x all rest.0 (λ holds. none (x ∷ rest.0, those-with P x all rest.0 once holds rest.1)) rest.1))

-- a vertex of a proper graph is below the limit
vertex_below : (g : PlainGraph) (x : ℕ) → IsProper g → HasVertex g x → Contains (numbers_below vertex_limit) x
vertex_below g x proper h = Contains-numbers_below vertex_limit x (All-contains (λ y. y < vertex_limit) g.vertices x proper.vertices h)

-- What falls or moves is below the limit

-- who hangs by a lost edge, so many parents up, is in the graph
hangs_here : (g : PlainGraph) (spec : Spec) (parts : List Update) (F : Forest) (k x : ℕ) → IsForest g spec F → HangsLost g parts F (up F k x) → HasVertex g x
hangs_here g spec parts F k x right lost = go (F.parent x) refl
  where
    valued : (v : Value) (c : ℕ) → IsValue g spec x v → v ≡ Num c → HasVertex g x
    valued v c is e = (subst (IsValue g spec x) e is).0

    go : (p : Parent) → F.parent x ≡ p → HasVertex g x
    go parent.None e =
        let here : F.parent x ≡ parent.From lost.by_edge.vertex lost.edge.source lost.edge.target lost.edge.weight =
        subst (λ (y : ℕ). F.parent y ≡ parent.From lost.by_edge.vertex lost.edge.source lost.edge.target lost.edge.weight) (up-root F k x e) lost.by_edge.is in
        absurd (let both = sym e ∙ here in cc)
    go (parent.From vertex source target weight) e =
        let from = subst (IsParent g spec F.value x) e (right.parents x) in
        valued (F.value x) _ (right.values x) from.here

fallen_below : (g : PlainGraph) (spec : Spec) (parts : List Update) (F : Forest) (x : ℕ) → IsProper g → IsForest g spec F → IsFallen g parts F x
    → Contains (numbers_below vertex_limit) x
fallen_below g spec parts F x proper right (inl dropped) = vertex_below g x proper dropped.0
fallen_below g spec parts F x proper right (inr (inl added)) = vertex_below (entered g parts) x (proper-entered g parts proper) added.0
fallen_below g spec parts F x proper right (inr (inr hangs)) = vertex_below g x proper (hangs_here g spec parts F hangs.steps x right hangs.lost)

-- a value that isn't absent is that of a vertex of the graph
moved_below : (g h : PlainGraph) (spec : Spec) (x : ℕ) → IsProper g → IsProper h → Moves g h spec x → Contains (numbers_below vertex_limit) x
moved_below g h spec x one two m = go m.old m.new m.was m.is m.differs
  where
    go : (a b : Value) → IsValue g spec x a → IsValue h spec x b → a ≢ b → Contains (numbers_below vertex_limit) x
    go Unreached b was is differs = vertex_below g x one was.0
    go (Num c) b was is differs = vertex_below g x one was.0
    go Absent Unreached was is differs = vertex_below h x two is.0
    go Absent (Num d) was is differs = vertex_below h x two is.0
    go Absent Absent was is differs = absurd (differs refl)

-- Reaches

some_fallen : (g : PlainGraph) (spec : Spec) (parts : List Update) (F : Forest) → IsProper g → IsForest g spec F → ¬ (¬ ((xs : List ℕ) × AreFallen g parts F xs))
some_fallen g spec parts F proper right none = some_those (IsFallen g parts F) (numbers_below vertex_limit) (EachOnce-numbers_below vertex_limit) (λ those.
    none (
      those.0,
      record {
        once = those.1.once;
        each = λ x. ((λ h. ((those.1.each x).0 h).1), (λ fallen. (those.1.each x).1 (fallen_below g spec parts F x proper right fallen, fallen)));
      },
    ))

some_improved : (g : PlainGraph) (spec : Spec) (parts : List Update) (F : Forest) → IsProper g → ¬ (¬ ((xs : List ℕ) × AreImproved g spec parts F xs))
some_improved g spec parts F proper none = some_those (λ x. (¬ (IsFallen g parts F x)) × Moves g (entered g parts) spec x) (numbers_below vertex_limit)
    (EachOnce-numbers_below vertex_limit) (λ those.
    none (
      those.0,
      record {
        once = those.1.once;
        each = λ x. (
          (λ h. ((those.1.each x).0 h).1),
          (λ both. (those.1.each x).1 (moved_below g (entered g parts) spec x proper (proper-entered g parts proper) both.1, both)),
        );
      },
    ))

some_reach_for : (g : PlainGraph) (spec : Spec) (parts : List Update) (F : Forest) → IsProper g → IsForest g spec F → ¬ (¬ ((n : ℕ) × IsReachFor g spec parts F n))
some_reach_for g spec parts F proper right none =
    some_fallen g spec parts F proper right (λ xs. some_improved g spec parts F proper (λ ys.
    none (_, record { fallen = xs.0; improved = ys.0; all_fallen = xs.1; all_improved = ys.1; count = refl })))

some_reaches : (g : PlainGraph) (parts : List Update) → IsProper g → (specs : List Spec) (forests : List Forest) → AreForests g specs forests
    → ¬ (¬ ((counts : List ℕ) × AreReaches g parts specs forests counts))
some_reaches g parts proper [] [] right none = none ([], tt)
some_reaches g parts proper [] (F ∷ forests) right none = absurd right
some_reaches g parts proper (spec ∷ specs) [] right none = absurd right
some_reaches g parts proper (spec ∷ specs) (F ∷ forests) right none =
    some_reach_for g spec parts F proper right.0 (λ one. some_reaches g parts proper specs forests right.1 (λ rest.
    none (one.0 ∷ rest.0, (one.1, rest.1))))

-- each request has a reach on a proper graph with right forests: that it has none is impossible
pub some_reach : (g : PlainGraph) (specs : List Spec) (forests : List Forest) (parts : List Update) → IsProper g → AreForests g specs forests
    → ¬ (¬ ((n : ℕ) × IsReach g specs forests parts n))
some_reach g specs forests parts proper right = go (refusal_of g parts)
  where
    go : (r : Option RefusedPart) → ¬ (¬ ((n : ℕ) × IsReachUnless r g specs forests parts n))
    go (Some refused) none = none (0, refl)
    go None none = some_reaches g parts proper specs forests right (λ counts.
        none (_, record { counts = counts.0; each = counts.1; count = refl }))

-- what isn't impossible to be at most n is at most n
pub at_most : (m n : ℕ) → ¬ (¬ (m ≤ n)) → m ≤ n
at_most zero n h = omega arith
at_most (suc m) zero h = absurd (h (λ less. absurd (omega arith)))
at_most (suc m) (suc n) h = let rest = at_most m n (λ none. h (λ less. none (omega arith))) in omega arith

-- a bound by each reach of a request is a bound
pub within_reach : (g : PlainGraph) (specs : List Spec) (forests : List Forest) (parts : List Update) (m n : ℕ) → IsProper g → AreForests g specs forests
    → ((reach : ℕ) → IsReach g specs forests parts reach → m ≤ n) → m ≤ n
within_reach g specs forests parts m n proper right bound =
    at_most m n (λ none. some_reach g specs forests parts proper right (λ reach. none (bound reach.0 reach.1)))
