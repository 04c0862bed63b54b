-- The vertices that one analysis moved.
use Rattle.std.proofs.Common.{◌≡◌, ℕ, ◌+◌, ◌==◌, ◌&&◌, Bool, true, false, if◌then◌else◌, eqb, ◌⊎◌, List, [], ◌∷◌, ◌++◌, take, map, Some, refl, inl, inr, sym, subst, ap, ◌∙◌}
use Rattle.std.specs.List.{slice_get, Contains, filter, dedup}
use Rattle.std.specs.List.Sorted.{IsPermutation, IsSorted, IsStrictlyIncreasing}
use Rattle.std.specs.Ordering.{nat_cmp}
use Rattle.std.proofs.lemmas.List.Kept.{Contains-from_dedup, Contains-dedup_nat}
use Rattle.std.proofs.lemmas.List.Sorted.{Contains-permutation, IsPermutation-sym}
use Rattle.std.proofs.lemmas.Map.Keys.{IsStrictlyIncreasing-dedup}
use Rattle.ris_history.specs.Reads.{AreVerticesOf}
use Rattle.std.proofs.lemmas.Bool.{and_parts, eqb-true, eq-eqb, ne_eqb, true≢false}
use Rattle.ris_base.proofs.ListLemmas.{Contains-none, Contains-cases, Contains-first, Contains-rest, Contains-filter, Contains-filtered}
use Rattle.ris_base.specs.declared.records.Change.{Change}
use Rattle.ris_history.specs.Applied.{moved_by}
use Rattle.ris_history.specs.Chains.{is_taken}
use Rattle.ris_history.specs.declared.moves.Moved.{Moved}
use Rattle.ris_history.proofs.ChangeLemmas.{take-next}

-- the vertices that stand with an analysis, in order
abbrev pub of_analysis : ℕ → List Moved → List ℕ
of_analysis a [] = []
of_analysis a (m ∷ ms) = if m.analysis == a then m.vertex ∷ of_analysis a ms else of_analysis a ms

of_analysis-append : (a : ℕ) (ms ns : List Moved) → of_analysis a (ms ++ ns) ≡ of_analysis a ms ++ of_analysis a ns
of_analysis-append a [] ns = refl
of_analysis-append a (m ∷ ms) ns = go (m.analysis == a) (of_analysis-append a ms ns)
  where
    go : (b : Bool) → of_analysis a (ms ++ ns) ≡ of_analysis a ms ++ of_analysis a ns
        → (if b then m.vertex ∷ of_analysis a (ms ++ ns) else of_analysis a (ms ++ ns)) ≡ (if b then m.vertex ∷ of_analysis a ms else of_analysis a ms) ++ of_analysis a ns
    go true more = ap (λ xs. m.vertex ∷ xs) more
    go false more = more

pub of_analysis-next : (a : ℕ) (ms : List Moved) (k : ℕ) (m : Moved) → slice_get ms k ≡ Some m → of_analysis a (take (k + 1) ms) ≡ of_analysis a (take k ms) ++ of_analysis a (m ∷ [])
of_analysis-next a ms k m h = ap (of_analysis a) (take-next ms k m h) ∙ of_analysis-append a (take k ms) (m ∷ [])

-- What lists of moved vertices contain

Contains-map : {X Y : Type 0} (f : X → Y) (xs : List X) (y : Y) → Contains (map f xs) y → (x : X) × Contains xs x × (f x ≡ y)
Contains-map f [] y h = absurd (Contains-none y h)
Contains-map f (x ∷ xs) y h = elim (Contains-cases (f x) (map f xs) y h) [
  | inl here ↦ (x, Contains-first x xs, here)
  | inr more ↦ (let r = Contains-map f xs y more in (r.0, Contains-rest x xs r.0 r.1, r.2))
]

Contains-mapped : {X Y : Type 0} (f : X → Y) (xs : List X) (x : X) → Contains xs x → Contains (map f xs) (f x)
Contains-mapped f [] x h = absurd (Contains-none x h)
Contains-mapped f (y ∷ xs) x h = elim (Contains-cases y xs x h) [
  | inl here ↦ subst (Contains (map f (y ∷ xs))) (ap f here) (Contains-first (f y) (map f xs))
  | inr more ↦ Contains-rest (f y) (map f xs) (f x) (Contains-mapped f xs x more)
]

-- a change of a vertex and an analysis that moves
pub record IsMoving (ds : List Change) (a x : ℕ) : Type 0 where
  pub change : Change
  pub has : Contains ds change
  pub moved : change.moved ≡ true
  pub analysis : change.analysis ≡ a
  pub vertex : change.vertex ≡ x

-- a vertex stands among those that changes move exactly where a change of it does
pub moving : (n : ℕ) (ds : List Change) (a x : ℕ) → Contains (moved_by n ds) (record { analysis = a; vertex = x }) → IsMoving ds a x
moving n ds a x h =
    let test = λ (c : Change). is_taken n c && c.moved in
    let name = λ (c : Change). let m : Moved = record { analysis = c.analysis; vertex = c.vertex } in m in
    let from = Contains-map name (filter test ds) (record { analysis = a; vertex = x }) h in
    let passes = Contains-filter test ds from.0 from.1 in
    record {
      change = from.0;
      has = passes.0;
      moved = (and_parts (is_taken n from.0) from.0.moved passes.1).1;
      analysis = ap (λ (m : Moved). m.analysis) from.2;
      vertex = ap (λ (m : Moved). m.vertex) from.2;
    }

pub moved-by : (n : ℕ) (ds : List Change) (a x : ℕ) (c : Change) → Contains ds c → is_taken n c ≡ true → c.moved ≡ true → c.analysis ≡ a → c.vertex ≡ x
    → Contains (moved_by n ds) (record { analysis = a; vertex = x })
moved-by n ds a x c has taken moved e f =
    let test = λ (c : Change). is_taken n c && c.moved in
    let name = λ (c : Change). let m : Moved = record { analysis = c.analysis; vertex = c.vertex } in m in
    let same : (let m : Moved = record { analysis = c.analysis; vertex = c.vertex } in m) ≡ record { analysis = a; vertex = x } = cc in
    subst (Contains (moved_by n ds)) same (Contains-mapped name (filter test ds) c (Contains-filtered test ds c has (rw (taken, moved) refl)))

-- The list of one analysis

same-moved : (b a y x : ℕ) → b ≡ a → y ≡ x → (let m : Moved = record { analysis = b; vertex = y } in m) ≡ record { analysis = a; vertex = x }
same-moved b a y x e f = cc

contains-of : (a : ℕ) (ms : List Moved) (x : ℕ) → Contains (of_analysis a ms) x → Contains ms (record { analysis = a; vertex = x })
contains-of a [] x h = absurd (Contains-none x h)
contains-of a (m ∷ ms) x h = go (m.analysis == a) refl h (λ more. contains-of a ms x more)
  where
    go : (b : Bool) → (m.analysis == a) ≡ b → Contains (if b then m.vertex ∷ of_analysis a ms else of_analysis a ms) x
        → (Contains (of_analysis a ms) x → Contains ms (record { analysis = a; vertex = x })) → Contains (m ∷ ms) (record { analysis = a; vertex = x })
    go false e h more = Contains-rest m ms (record { analysis = a; vertex = x }) (more h)
    go true e h more = elim (Contains-cases m.vertex (of_analysis a ms) x h) [
      | inl here ↦
          let own = eqb-true m.analysis a e in
          let same : m ≡ record { analysis = a; vertex = x } = same-moved m.analysis a m.vertex x own here in
          subst (Contains (m ∷ ms)) same (Contains-first m ms)
      | inr rest ↦ Contains-rest m ms (record { analysis = a; vertex = x }) (more rest)
    ]

of-contains : (a : ℕ) (ms : List Moved) (x : ℕ) → Contains ms (record { analysis = a; vertex = x }) → Contains (of_analysis a ms) x
of-contains a [] x h = absurd (Contains-none (let m : Moved = record { analysis = a; vertex = x } in m) h)
of-contains a (m ∷ ms) x h = go (m.analysis == a) refl (Contains-cases m ms (record { analysis = a; vertex = x }) h) (λ more. of-contains a ms x more)
  where
    go : (b : Bool) → (m.analysis == a) ≡ b → (m ≡ record { analysis = a; vertex = x }) ⊎ Contains ms (record { analysis = a; vertex = x })
        → (Contains ms (record { analysis = a; vertex = x }) → Contains (of_analysis a ms) x) → Contains (if b then m.vertex ∷ of_analysis a ms else of_analysis a ms) x
    go true e (inl here) more =
        subst (Contains (m.vertex ∷ of_analysis a ms)) (ap (λ (k : Moved). k.vertex) here) (Contains-first m.vertex (of_analysis a ms))
    go true e (inr rest) more = Contains-rest m.vertex (of_analysis a ms) x (more rest)
    go false e (inl here) more = absurd (true≢false (sym (eq-eqb m.analysis a (ap (λ (k : Moved). k.analysis) here)) ∙ e))
    go false e (inr rest) more = more rest

-- sorted and without repeats they are the vertices of the analysis
pub vertices-are : (ms : List Moved) (a : ℕ) (xs sorted out : List ℕ) → xs ≡ of_analysis a ms → IsPermutation xs sorted → IsSorted nat_cmp sorted → out ≡ dedup eqb sorted
    → AreVerticesOf ms a out
vertices-are ms a xs sorted out from moves order is = record {
  ascending = subst IsStrictlyIncreasing (sym is) (IsStrictlyIncreasing-dedup sorted order);
  each = λ x. (
    λ c. contains-of a ms x (subst (λ (ys : List ℕ). Contains ys x) from
        (Contains-permutation sorted xs x (IsPermutation-sym xs sorted moves) (Contains-from_dedup eqb sorted x (subst (λ (ys : List ℕ). Contains ys x) is c)))),
    λ c. subst (λ (ys : List ℕ). Contains ys x) (sym is)
        (Contains-dedup_nat sorted x (Contains-permutation xs sorted x moves (subst (λ (ys : List ℕ). Contains ys x) (sym from) (of-contains a ms x c)))),
  );
}

pub of_analysis-own : (a : ℕ) (m : Moved) → m.analysis ≡ a → of_analysis a (m ∷ []) ≡ m.vertex ∷ []
of_analysis-own a m e = let own = eq-eqb m.analysis a e in rw own refl

pub of_analysis-other : (a : ℕ) (m : Moved) → ¬ (m.analysis ≡ a) → of_analysis a (m ∷ []) ≡ []
of_analysis-other a m e = let other = ne_eqb m.analysis a e in rw other refl
