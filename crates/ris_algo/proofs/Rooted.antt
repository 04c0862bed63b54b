-- That parents which lead to a start at all do so within as many steps as there are vertices.
use Rattle.std.proofs.Common.{◌≡◌, ℕ, zero, suc, ◌<◌, ◌≤◌, ◌==◌, ◌⊎◌, inl, inr, List, [], ◌∷◌, length, Some, arith, refl, sym, subst, ap, ◌∙◌}
use Rattle.std.specs.List.{All, Contains, list_any}
use Rattle.std.proofs.lemmas.Bool.{true≢false, eqb-true, eq-eqb, cases_Bool}
use Rattle.std.proofs.lemmas.List.Elements.{All-nil, All-cons}
use Rattle.std.proofs.lemmas.Option.{same_Some}
use Rattle.ris_base.specs.Forest.{Forest, IsParent, Follows, up, vertex_of}
use Rattle.ris_base.specs.Graph.{HasVertex, EachOnce}
use Rattle.ris_base.specs.declared.graphs.PlainGraph.{PlainGraph}
use Rattle.ris_base.specs.declared.analyses.Spec.{Spec}
use Rattle.ris_base.specs.declared.analyses.Value.TheVariants.{Num}
use Rattle.ris_base.specs.declared.forests.Parent.{Parent}
use Rattle.ris_base.specs.declared.forests.Parent.TheVariants as parent
use Rattle.ris_base.proofs.ListLemmas.{Contains-none, Contains-cases, Contains-from_list_any, list_any-from_passing, EachOnce-nil, EachOnce-cons, EachOnce-tail}
use Rattle.ris_algo.specs.Certificate.{IsPlaced}
use Rattle.ris_algo.proofs.Certificates.{placed-number}
use Rattle.ris_algo.proofs.Parents.{up-ended, up-suc}
use Rattle.ris_algo.proofs.Vertices.{pigeonhole, IsDistinct-from_once}

-- a path from x to a vertex without a parent that comes to no vertex twice
pub record SimplePath (F : Forest) (x : ℕ) : Type 0 where
  pub stops : List ℕ
  pub follows : Follows F x stops
  pub once : EachOnce (x ∷ stops)

-- the path of a vertex without a parent
path_here : (F : Forest) (x : ℕ) → F.parent x ≡ parent.None → SimplePath F x
path_here F x root = record { stops = []; follows = root; once = EachOnce-cons x [] (Contains-none x) EachOnce-nil }

-- the rest of a path, from a vertex on it
rest_from : (F : Forest) (x y : ℕ) (stops : List ℕ) → Follows F y stops → EachOnce (y ∷ stops) → Contains (y ∷ stops) x → SimplePath F x
rest_from F x y [] follows once has = elim (Contains-cases y [] x has) [
  | inl same ↦ subst (SimplePath F) same (path_here F y follows)
  | inr other ↦ absurd (Contains-none x other)
]
rest_from F x y (z ∷ rest) follows once has = elim (Contains-cases y (z ∷ rest) x has) [
  | inl same ↦ subst (SimplePath F) same (record { stops = z ∷ rest; follows = follows; once = once })
  | inr other ↦ rest_from F x z rest follows.1 (EachOnce-tail y (z ∷ rest) once) other
]

-- where parents lead to a vertex without one, a path does that comes to no vertex twice
pub simple_path : (F : Forest) (k x : ℕ) → F.parent (up F k x) ≡ parent.None → SimplePath F x
unfolding up
simple_path F zero x root = path_here F x root
simple_path F (suc k) x root = go (F.parent x) refl (λ y. simple_path F k y)
  where
    longer : (y : ℕ) → vertex_of (F.parent x) ≡ Some y → SimplePath F y → SimplePath F x
    longer y is path = elim (cases_Bool (list_any (λ z. z == x) (y ∷ path.stops))) [
      | inl again ↦
          let r = Contains-from_list_any (λ z. z == x) (y ∷ path.stops) again in
          rest_from F x y path.stops path.follows path.once (subst (Contains (y ∷ path.stops)) (eqb-true r.0 x r.2) r.1)
      | inr new ↦ record {
        stops = y ∷ path.stops;
        follows = (is, path.follows);
        once = EachOnce-cons x (y ∷ path.stops)
            (λ h. true≢false (sym (list_any-from_passing (λ z. z == x) (y ∷ path.stops) x h (eq-eqb x x refl)) ∙ new)) path.once;
      }
    ]

    go : (p : Parent) → F.parent x ≡ p → ((y : ℕ) → F.parent (up F k y) ≡ parent.None → SimplePath F y) → SimplePath F x
    go parent.None is more = path_here F x is
    go (parent.From vertex source target weight) is more = longer vertex (ap vertex_of is) (more vertex (rw is at root))

-- the end of a path
up-follows : (F : Forest) (x : ℕ) (stops : List ℕ) → Follows F x stops → F.parent (up F (length stops) x) ≡ parent.None
unfolding up
up-follows F x [] h = h
up-follows F x (y ∷ rest) h = go (F.parent x) refl h.0 (up-follows F y rest h.1)
  where
    go : (p : Parent) → F.parent x ≡ p → vertex_of p ≡ Some y → F.parent (up F (length rest) y) ≡ parent.None
        → F.parent (up F (suc (length rest)) x) ≡ parent.None
    go parent.None is e more = absurd (cc)
    go (parent.From vertex source target weight) is e more = rw (up-suc F (length rest) x, is, same_Some vertex y e) more

module _ (g : PlainGraph) (spec : Spec) (F : Forest)
    (placed : (x : ℕ) → IsPlaced g x (F.value x)) (parents : (x : ℕ) → IsParent g spec F.value x (F.parent x)) where
  -- there are vertices alone on a path from a vertex with a number
  vertices_on : (x : ℕ) (stops : List ℕ) → Follows F x stops → All (HasVertex g) stops
  vertices_on x [] h = All-nil (HasVertex g)
  vertices_on x (y ∷ rest) h = go (F.parent x) (parents x) h.0 (vertices_on y rest h.1)
    where
      go : (p : Parent) → IsParent g spec F.value x p → vertex_of p ≡ Some y → All (HasVertex g) rest → All (HasVertex g) (y ∷ rest)
      go parent.None own e more = absurd (cc)
      go (parent.From vertex source target weight) from e more =
          let has = placed-number g spec vertex from.number (F.value vertex) from.above (placed vertex) in
          All-cons (HasVertex g) y rest (subst (HasVertex g) (same_Some vertex y e) has) more

  -- parents that lead to a vertex without one do so within as many steps as there are vertices
  pub rooted_within : (x c k : ℕ) → F.value x ≡ Num c → F.parent (up F k x) ≡ parent.None → F.parent (up F (length g.vertices) x) ≡ parent.None
  rooted_within x c k e root =
      let path = simple_path F k x root in
      let all = All-cons (HasVertex g) x path.stops (placed-number g spec x c (F.value x) e (placed x)) (vertices_on x path.stops path.follows) in
      let few : length (x ∷ path.stops) ≤ length g.vertices = pigeonhole (x ∷ path.stops) g.vertices (IsDistinct-from_once (x ∷ path.stops) path.once) all in
      let end = up-follows F x path.stops path.follows in
      ap F.parent (up-ended F (length path.stops) (length g.vertices) x end (omega arith)) ∙ end

-- A rank of two numbers that falls from each vertex to its parent

-- parents lead from x to a vertex without one
record Ends (F : Forest) (x : ℕ) : Type 0 where
  steps : ℕ
  root : F.parent (up F steps x) ≡ parent.None

-- a vertex without a parent
ends_here : (F : Forest) (x : ℕ) → F.parent x ≡ parent.None → Ends F x
unfolding up
ends_here F x h = record { steps = 0; root = h }

-- a vertex whose parent leads to one
ends_above : (F : Forest) (x vertex source target weight : ℕ) → F.parent x ≡ parent.From vertex source target weight → Ends F vertex → Ends F x
unfolding up
ends_above F x vertex source target weight is e = record { steps = suc e.steps; root = rw is e.root }

-- from x to y the first number falls, or it stays and the second falls
abbrev pub Falls : (ℕ → ℕ) → (ℕ → ℕ) → ℕ → ℕ → Type 0
Falls first second x y = (first y < first x) ⊎ ((first y ≡ first x) × (second y < second x))

module _ (g : PlainGraph) (spec : Spec) (F : Forest) (first second : ℕ → ℕ)
    (placed : (x : ℕ) → IsPlaced g x (F.value x)) (parents : (x : ℕ) → IsParent g spec F.value x (F.parent x))
    (falls : (x c vertex source target weight : ℕ) → F.value x ≡ Num c → F.parent x ≡ parent.From vertex source target weight → Falls first second x vertex) where
  by_second : (n : ℕ) → ((x c : ℕ) → first x < n → F.value x ≡ Num c → Ends F x)
      → (m x c : ℕ) → first x ≤ n → second x < m → F.value x ≡ Num c → Ends F x
  by_second n below zero x c le lt e = absurd (omega arith)
  by_second n below (suc m) x c le lt e = go (F.parent x) (parents x) refl (λ y d. by_second n below m y d)
    where
      go : (p : Parent) → IsParent g spec F.value x p → F.parent x ≡ p
          → ((y d : ℕ) → first y ≤ n → second y < m → F.value y ≡ Num d → Ends F y) → Ends F x
      go parent.None own is more = ends_here F x is
      go (parent.From vertex source target weight) from is more =
          ends_above F x vertex source target weight is (elim (falls x c vertex source target weight e is) [
            | inl less ↦ below vertex from.number (omega arith) from.above
            | inr same ↦ more vertex from.number (let a = same.0 in omega arith) (let b = same.1 in omega arith) from.above
          ])

  -- by the first number, and where it stays by the second
  by_first : (n x c : ℕ) → first x < n → F.value x ≡ Num c → Ends F x
  by_first zero x c lt e = absurd (omega arith)
  by_first (suc n) x c lt e = by_second n (by_first n) (suc (second x)) x c (omega arith) (omega arith) e

  -- parents lead to a start where a rank falls from each vertex with a number to its parent
  pub rooted_by_rank : (x c : ℕ) → F.value x ≡ Num c → F.parent (up F (length g.vertices) x) ≡ parent.None
  rooted_by_rank x c e =
      let ends = by_first (suc (first x)) x c (omega arith) e in
      rooted_within g spec F placed parents x c ends.steps e ends.root
