-- What single updates do: when there is an objection, how many copies of each triple and which vertices they leave, and that a
-- graph stays proper.
use Rattle.std.proofs.Common.{◌≡◌, ◌≢◌, ℕ, ◌+◌, ◌-◌, ◌<◌, Bool, true, false, not, ◌==◌, ◌&&◌, ◌||◌, nat_lt, if◌then◌else◌, ◌⊎◌, ◌↔◌, inl, inr, List, [], ◌∷◌, ◌++◌, Option, Some, None, Ok, Err, arith, refl, sym, subst, ap, ◌∙◌, cond}
use Rattle.std.specs.List.{All, Contains, filter, count_by}
use Rattle.std.specs.Option.{option_or, option_map}
use Rattle.std.proofs.lemmas.Bool.{true≢false, eqb-true, eq-eqb, eqb-false, ne_eqb, ltb-true, lt-ltb, and_parts, or_parts, not-true, false_from_ne_true, cases_Bool, cond-true, cond-false}
use Rattle.std.proofs.lemmas.List.Elements.{All-append, All-contains, All-cons, All-nil, All-weaker, Contains-append_left, Contains-push, Contains-push_cases}
use Rattle.std.proofs.lemmas.List.Folds.{list_any-append}
use Rattle.std.proofs.lemmas.List.Sums.{sum_by-cons, sum_by_push}
use Rattle.std.proofs.lemmas.Map.Views.{any-filter_same}
use Rattle.ris_base.specs.Effect.{Objection, does, changed, objection, without_first, first_past_limit, first_missing, lacks_copy, edge_past, past, missing}
use Rattle.ris_base.specs.Graph.{HasVertex, HasTriple, IsProper, IsProperTriple, copies, greatest_weight, has_equal, has_vertex, is_equal, names, triple}
use Rattle.ris_base.specs.Limits.{vertex_limit}
use Rattle.ris_base.specs.Lists.{unless}
use Rattle.ris_base.specs.declared.graphs.PlainGraph.{PlainGraph}
use Rattle.ris_base.specs.declared.graphs.Triple.{Triple}
use Rattle.ris_base.specs.declared.updates.Update.{Update}
use Rattle.ris_base.specs.declared.updates.Update.TheVariants.{AddV, DelV, AddE, DelE, SetW}
use Rattle.ris_base.proofs.ListLemmas.{Contains-none, Contains-first, Contains-rest, Contains-cases, All-from_Contains, Contains-from_list_any, list_any-from_passing, Contains-filter, Contains-filtered, EachOnce-push, EachOnce-filter}

-- Tests

-- triples that pass the test are the same
pub same_from_equal : (s t : Triple) → is_equal s t ≡ true → s ≡ t
same_from_equal s t h =
    let outer = and_parts ((s.source == t.source) && (s.target == t.target)) (s.weight == t.weight) h in
    let inner = and_parts (s.source == t.source) (s.target == t.target) outer.0 in
    ap (λ n. triple n s.target s.weight) (eqb-true s.source t.source inner.0)
    ∙ ap (λ n. triple t.source n s.weight) (eqb-true s.target t.target inner.1)
    ∙ ap (λ n. triple t.source t.target n) (eqb-true s.weight t.weight outer.1)

-- and a triple passes the test with itself
pub equal_itself : (t : Triple) → is_equal t t ≡ true
equal_itself t = rw (eq-eqb t.source t.source refl, eq-eqb t.target t.target refl, eq-eqb t.weight t.weight refl) refl

-- the test for a vertex
pub HasVertex-from_test : (g : PlainGraph) (x : ℕ) → has_vertex g x ≡ true → HasVertex g x
HasVertex-from_test g x h =
    let r = Contains-from_list_any (λ y. y == x) g.vertices h in subst (HasVertex g) (eqb-true r.0 x r.2) r.1

-- a vertex passes the test
pub has_vertex-true : (g : PlainGraph) (x : ℕ) → HasVertex g x → has_vertex g x ≡ true
has_vertex-true g x h = list_any-from_passing (λ y. y == x) g.vertices x h (eq-eqb x x refl)

-- the test for a triple
pub HasTriple-from_test : (g : PlainGraph) (t : Triple) → has_equal g t ≡ true → HasTriple g t
HasTriple-from_test g t h =
    let r = Contains-from_list_any (is_equal t) g.triples h in subst (HasTriple g) (sym (same_from_equal t r.0 r.2)) r.1

-- a triple passes the test
pub has_equal-true : (g : PlainGraph) (t : Triple) → HasTriple g t → has_equal g t ≡ true
has_equal-true g t h = list_any-from_passing (is_equal t) g.triples t h (equal_itself t)

-- Objections

-- there is no objection to an update: its numbers are within their limits, its vertices are there, and so is the copy that it takes
pub record IsAllowed (g : PlainGraph) (update : Update) : Type 0 where
  pub within : first_past_limit (greatest_weight g) update ≡ None
  pub present : first_missing g update ≡ None
  pub copy : lacks_copy g update ≡ false

-- the first of two is what there is, or neither is there
pub option_or-none : {X : Type 0} (a b : Option X) → option_or a b ≡ None → (a ≡ None) × (b ≡ None)
option_or-none None b h = (refl, h)
option_or-none (Some x) b h = absurd (cc)

-- there is nothing where it maps to nothing
map_none : {X Y : Type 0} (f : X → Y) (o : Option X) → option_map f o ≡ None → o ≡ None
map_none f None h = refl
map_none f (Some x) h = absurd (cc)

-- a choice that gives nothing was not taken
choice_none : {X : Type 0} (b : Bool) (x : X) → (if b then Some x else None) ≡ None → b ≡ false
choice_none true x h = absurd (cc)
choice_none false x h = refl

-- where there is no objection, an update is allowed
pub allowed : (g : PlainGraph) (update : Update) → objection g update ≡ None → IsAllowed g update
allowed g update h =
    let one = option_or-none (option_map Objection.Limit (first_past_limit (greatest_weight g) update)) _ h in
    let two = option_or-none (option_map Objection.NoVertex (first_missing g update)) _ one.1 in
    record {
      within = map_none Objection.Limit (first_past_limit (greatest_weight g) update) one.0;
      present = map_none Objection.NoVertex (first_missing g update) two.0;
      copy = choice_none (lacks_copy g update) Objection.NoEdge two.1;
    }

-- and there is none to an update that is
pub objection-none : (g : PlainGraph) (update : Update) → IsAllowed g update → objection g update ≡ None
objection-none g update h = rw (h.within, h.present, h.copy) refl

-- an update to which there is no objection is accepted
pub does-changed : (g : PlainGraph) (update : Update) → objection g update ≡ None → does g update ≡ Ok (changed g update)
unfolding does
does-changed g update h = rw h refl

-- an update to which there is an objection is refused for it
pub does-refused : (g : PlainGraph) (update : Update) (why : Objection) → objection g update ≡ Some why → does g update ≡ Err why
unfolding does
does-refused g update why h = rw h refl

-- an update that is accepted has no objection, and changes the graph as it says
pub does-accepted : (g h : PlainGraph) (update : Update) → does g update ≡ Ok h → (objection g update ≡ None) × (changed g update ≡ h)
unfolding does
does-accepted g h update e = go (objection g update) e
  where
    go : (o : Option Objection) → unless o (changed g update) ≡ Ok h → (o ≡ None) × (changed g update ≡ h)
    go None k = (refl, cc)
    go (Some why) k = absurd (cc)

-- a number that isn't past its limit is below it
pub below_from_past : (limit n : ℕ) → past limit n ≡ None → n < limit
below_from_past limit n h = go (nat_lt n limit) refl h
  where
    go : (b : Bool) → nat_lt n limit ≡ b → (if b then None else Some n) ≡ None → n < limit
    go true e k = ltb-true n limit e
    go false e k = absurd (cc)

-- and one below its limit isn't past it
pub past-none : (limit n : ℕ) → n < limit → past limit n ≡ None
past-none limit n h = rw (lt-ltb n limit h) refl

-- a vertex that isn't missing is there
pub HasVertex-from_missing : (g : PlainGraph) (x : ℕ) → missing g x ≡ None → HasVertex g x
HasVertex-from_missing g x h = go (has_vertex g x) refl h
  where
    go : (b : Bool) → has_vertex g x ≡ b → (if b then None else Some x) ≡ None → HasVertex g x
    go true e k = HasVertex-from_test g x e
    go false e k = absurd (cc)

-- and one that is there isn't missing
pub missing-none : (g : PlainGraph) (x : ℕ) → HasVertex g x → missing g x ≡ None
missing-none g x h = rw (has_vertex-true g x h) refl

-- Copies

-- one where a test holds
abbrev pub one_if : Bool → ℕ
one_if b = cond b 1 0

-- one more item counts where it passes
pub count_by-cons : {X : Type 0} (p : X → Bool) (x : X) (xs : List X) → count_by p (x ∷ xs) ≡ one_if (p x) + count_by p xs
count_by-cons p x xs = sum_by-cons (λ y. one_if (p y)) x xs

-- a triple of the graph has copies
pub copies-HasTriple : (g : PlainGraph) (t : Triple) → HasTriple g t → 0 < copies g t
copies-HasTriple g t h = go g.triples h
  where
    go : (ts : List Triple) → Contains ts t → 0 < count_by (is_equal t) ts
    go [] k = absurd (Contains-none t k)
    go (s ∷ rest) k =
        let sum = count_by-cons (is_equal t) s rest in
        elim (Contains-cases s rest t k) [
          | inl same ↦ (let one = cond-true {A = ℕ} (is_equal t s) 1 0 (subst (λ r. is_equal t r ≡ true) (sym same) (equal_itself t)) in omega arith)
          | inr other ↦ (let more = go rest other in omega arith)
        ]

-- what has copies is a triple of the graph
pub HasTriple-copies : (g : PlainGraph) (t : Triple) → 0 < copies g t → HasTriple g t
HasTriple-copies g t h = go g.triples h
  where
    go : (ts : List Triple) → 0 < count_by (is_equal t) ts → Contains ts t
    go [] k = absurd (omega arith)
    go (s ∷ rest) k =
        let sum = count_by-cons (is_equal t) s rest in
        elim (cases_Bool (is_equal t s)) [
          | inl same ↦ subst (Contains (s ∷ rest)) (sym (same_from_equal t s same)) (Contains-first s rest)
          | inr other ↦ (let none = cond-false {A = ℕ} (is_equal t s) 1 0 other in Contains-rest s rest t (go rest (omega arith)))
        ]

-- how many copies of a triple an update leaves of so many
abbrev pub copies_after : ℕ → Update → Triple → ℕ
copies_after n (AddV x) t = n
copies_after n (DelV x) t = if names x t then 0 else n
copies_after n (AddE u v w) t = n + one_if (is_equal t (triple u v w))
copies_after n (DelE u v w) t = n - one_if (is_equal t (triple u v w))
copies_after n (SetW u v w w2) t = (n - one_if (is_equal t (triple u v w))) + one_if (is_equal t (triple u v w2))

-- one more triple at the end of a list
count_by-push : (t s : Triple) (ts : List Triple) → count_by (is_equal t) (ts ++ s ∷ []) ≡ count_by (is_equal t) ts + one_if (is_equal t s)
count_by-push t s ts = sum_by_push (λ r. one_if (is_equal t r)) ts s

-- a list without the first copy of e
pub count_by-without : (t e : Triple) (ts : List Triple) → count_by (is_equal t) (without_first e ts) ≡ count_by (is_equal t) ts - one_if (is_equal t e)
count_by-without t e [] = omega arith
count_by-without t e (s ∷ rest) = go (is_equal e s) refl (count_by-without t e rest)
  where
    go : (b : Bool) → is_equal e s ≡ b → count_by (is_equal t) (without_first e rest) ≡ count_by (is_equal t) rest - one_if (is_equal t e)
        → count_by (is_equal t) (if b then rest else s ∷ without_first e rest) ≡ count_by (is_equal t) (s ∷ rest) - one_if (is_equal t e)
    go true same more =
        let sum = count_by-cons (is_equal t) s rest in
        let one = ap (λ r. one_if (is_equal t r)) (same_from_equal e s same) in
        omega arith
    go false other more =
        let sum = count_by-cons (is_equal t) s rest in
        let left = count_by-cons (is_equal t) s (without_first e rest) in
        elim (cases_Bool (is_equal t e)) [
          | inl here ↦
              let none = cond-false {A = ℕ} (is_equal t s) 1 0 (subst (λ r. is_equal r s ≡ false) (sym (same_from_equal t e here)) other) in
              omega arith
          | inr apart ↦ (let none = cond-false {A = ℕ} (is_equal t e) 1 0 apart in omega arith)
        ]

-- triples of which one alone names x aren't the same
differ : (x : ℕ) (t s : Triple) (b : Bool) → names x t ≡ b → names x s ≡ not b → one_if (is_equal t s) ≡ 0
differ x t s b here there = cond-false {A = ℕ} (is_equal t s) 1 0 (false_from_ne_true (is_equal t s) (λ e. other b (sym here ∙ ap (names x) (same_from_equal t s e) ∙ there)))
  where
    other : (b : Bool) → b ≡ not b → ⊥
    other true e = absurd (cc)
    other false e = absurd (cc)

-- a list without the triples that name x has none of those
count_by-named : (x : ℕ) (t : Triple) (ts : List Triple) → names x t ≡ true → count_by (is_equal t) (filter (λ s. not (names x s)) ts) ≡ 0
count_by-named x t [] here = refl
count_by-named x t (s ∷ rest) here = go (names x s) refl (count_by-named x t rest here)
  where
    left : List Triple
    left = filter (λ r. not (names x r)) rest

    go : (b : Bool) → names x s ≡ b → count_by (is_equal t) left ≡ 0 → count_by (is_equal t) (cond (not b) (s ∷ left) left) ≡ 0
    go true e more = more
    go false e more = let sum = count_by-cons (is_equal t) s left in let none = differ x t s true here e in omega arith

-- and as many of the others
count_by-unnamed : (x : ℕ) (t : Triple) (ts : List Triple) → names x t ≡ false
    → count_by (is_equal t) (filter (λ s. not (names x s)) ts) ≡ count_by (is_equal t) ts
count_by-unnamed x t [] here = refl
count_by-unnamed x t (s ∷ rest) here = go (names x s) refl (count_by-unnamed x t rest here)
  where
    left : List Triple
    left = filter (λ r. not (names x r)) rest

    go : (b : Bool) → names x s ≡ b → count_by (is_equal t) left ≡ count_by (is_equal t) rest
        → count_by (is_equal t) (cond (not b) (s ∷ left) left) ≡ count_by (is_equal t) (s ∷ rest)
    go true e more = let sum = count_by-cons (is_equal t) s rest in let none = differ x t s false here e in omega arith
    go false e more =
        let sum = count_by-cons (is_equal t) s rest in
        let other = count_by-cons (is_equal t) s left in
        omega arith

-- the copies of a triple after an update hang on those before it alone
pub copies-changed : (g : PlainGraph) (update : Update) (t : Triple) → copies (changed g update) t ≡ copies_after (copies g t) update t
copies-changed g (AddV x) t = go (has_vertex g x)
  where
    go : (b : Bool) → copies (if b then g else record g { vertices = g.vertices ++ x ∷ [] }) t ≡ copies g t
    go true = refl
    go false = refl
copies-changed g (DelV x) t = go (names x t) refl
  where
    go : (b : Bool) → names x t ≡ b → copies (changed g (DelV x)) t ≡ (if b then 0 else copies g t)
    go true e = count_by-named x t g.triples e
    go false e = count_by-unnamed x t g.triples e
copies-changed g (AddE u v w) t = count_by-push t (triple u v w) g.triples
copies-changed g (DelE u v w) t = count_by-without t (triple u v w) g.triples
copies-changed g (SetW u v w w2) t =
    count_by-push t (triple u v w2) (without_first (triple u v w) g.triples)
    ∙ ap (λ n. n + one_if (is_equal t (triple u v w2))) (count_by-without t (triple u v w) g.triples)

-- Vertices

-- whether an update leaves a vertex, by whether it was there
abbrev pub vertex_after : Bool → Update → ℕ → Bool
vertex_after had (AddV y) x = had || (y == x)
vertex_after had (DelV y) x = not (x == y) && had
vertex_after had (AddE u v w) x = had
vertex_after had (DelE u v w) x = had
vertex_after had (SetW u v w w2) x = had

-- the vertices after one more
pub HasVertex-added : (g : PlainGraph) (y x : ℕ) → HasVertex (changed g (AddV y)) x ↔ (HasVertex g x ⊎ (y ≡ x))
HasVertex-added g y x = go (has_vertex g y) refl
  where
    go : (b : Bool) → has_vertex g y ≡ b
        → HasVertex (if b then g else record g { vertices = g.vertices ++ y ∷ [] }) x ↔ (HasVertex g x ⊎ (y ≡ x))
    go true e = (λ h. inl h, λ h. elim h [ inl old ↦ old | inr same ↦ subst (HasVertex g) same (HasVertex-from_test g y e) ])
    go false e = (
      Contains-push_cases g.vertices y x,
      λ h. elim h [ inl old ↦ Contains-append_left g.vertices (y ∷ []) x old | inr same ↦ subst (Contains (g.vertices ++ y ∷ [])) same (Contains-push g.vertices y) ],
    )

-- the vertices after one less
pub HasVertex-dropped : (g : PlainGraph) (y x : ℕ) → HasVertex (changed g (DelV y)) x ↔ (HasVertex g x × (x ≢ y))
HasVertex-dropped g y x = (
  λ h. (let r = Contains-filter (λ z. not (z == y)) g.vertices x h in (r.0, eqb-false x y (not-true (x == y) r.1))),
  λ h. Contains-filtered (λ z. not (z == y)) g.vertices x h.0 (ap not (ne_eqb x y h.1)),
)

-- whether a vertex is there after an update hangs on whether it was there before alone
pub has_vertex-changed : (g : PlainGraph) (update : Update) (x : ℕ) → has_vertex (changed g update) x ≡ vertex_after (has_vertex g x) update x
has_vertex-changed g (AddV y) x = go (has_vertex g y) refl
  where
    or_nothing : (a : Bool) → (a || false) ≡ a
    or_nothing true = refl
    or_nothing false = refl

    or_itself : (a b : Bool) → (b ≡ true → a ≡ true) → a ≡ (a || b)
    or_itself true b h = refl
    or_itself false true h = h refl
    or_itself false false h = refl

    go : (b : Bool) → has_vertex g y ≡ b
        → has_vertex (if b then g else record g { vertices = g.vertices ++ y ∷ [] }) x ≡ (has_vertex g x || (y == x))
    go true e = or_itself (has_vertex g x) (y == x) (λ same. subst (λ n. has_vertex g n ≡ true) (eqb-true y x same) e)
    go false e = list_any-append (λ z. z == x) g.vertices (y ∷ []) ∙ ap (λ b. has_vertex g x || b) (or_nothing (y == x))
has_vertex-changed g (DelV y) x =
    any-filter_same (λ z. z == x) (λ z. not (z == y)) (not (x == y)) (λ z same. ap (λ n. not (n == y)) (eqb-true z x same)) g.vertices
has_vertex-changed g (AddE u v w) x = refl
has_vertex-changed g (DelE u v w) x = refl
has_vertex-changed g (SetW u v w w2) x = refl

-- an update keeps the format
pub format-changed : (g : PlainGraph) (update : Update) → (changed g update).format ≡ g.format
format-changed g (AddV x) = go (has_vertex g x)
  where
    go : (b : Bool) → (if b then g else record g { vertices = g.vertices ++ x ∷ [] }).format ≡ g.format
    go true = refl
    go false = refl
format-changed g (DelV x) = refl
format-changed g (AddE u v w) = refl
format-changed g (DelE u v w) = refl
format-changed g (SetW u v w w2) = refl

-- Proper graphs

-- a proper triple stays one where no vertex of it goes
pub IsProperTriple-kept : (g h : PlainGraph) (t : Triple) → h.format ≡ g.format → (HasVertex g t.source → HasVertex h t.source)
    → (HasVertex g t.target → HasVertex h t.target) → IsProperTriple g t → IsProperTriple h t
IsProperTriple-kept g h t same source target p =
    record { source = source p.source; target = target p.target; weight = rw same p.weight }

-- a list without the first copy of e has no other triples
without-within : (e : Triple) (ts : List Triple) (t : Triple) → Contains (without_first e ts) t → Contains ts t
without-within e [] t h = h
without-within e (s ∷ rest) t h = go (is_equal e s) (without-within e rest t) h
  where
    go : (b : Bool) → (Contains (without_first e rest) t → Contains rest t) → Contains (if b then rest else s ∷ without_first e rest) t → Contains (s ∷ rest) t
    go true more k = Contains-rest s rest t k
    go false more k = elim (Contains-cases s (without_first e rest) t k) [
      | inl same ↦ subst (Contains (s ∷ rest)) same (Contains-first s rest)
      | inr other ↦ Contains-rest s rest t (more other)
    ]

-- an edge within the limits between vertices that are there
edge_proper : (g : PlainGraph) (u v w : ℕ) → missing g u ≡ None → missing g v ≡ None → past (greatest_weight g + 1) w ≡ None → IsProperTriple g (triple u v w)
edge_proper g u v w a b c =
    let low = below_from_past (greatest_weight g + 1) w c in
    record { source = HasVertex-from_missing g u a; target = HasVertex-from_missing g v b; weight = omega arith }

-- one more vertex within the limit keeps a graph proper
proper-added_vertex : (g : PlainGraph) (x : ℕ) → IsProper g → x < vertex_limit → IsProper (changed g (AddV x))
proper-added_vertex g x proper low = go (has_vertex g x) refl
  where
    go : (b : Bool) → has_vertex g x ≡ b → IsProper (if b then g else record g { vertices = g.vertices ++ x ∷ [] })
    go true e = proper
    go false e =
        let now : PlainGraph = record g { vertices = g.vertices ++ x ∷ [] } in
        record {
          once = EachOnce-push g.vertices x proper.once (λ h. true≢false (sym (has_vertex-true g x h) ∙ e));
          vertices = All-append (λ y. y < vertex_limit) g.vertices (x ∷ []) proper.vertices (All-cons (λ y. y < vertex_limit) x [] low (All-nil (λ y. y < vertex_limit)));
          triples = All-weaker (IsProperTriple g) (IsProperTriple now)
              (λ t. IsProperTriple-kept g now t refl (Contains-append_left g.vertices (x ∷ []) t.source) (Contains-append_left g.vertices (x ∷ []) t.target))
              g.triples proper.triples;
        }

-- and so does one less
proper-dropped_vertex : (g : PlainGraph) (x : ℕ) → IsProper g → IsProper (changed g (DelV x))
proper-dropped_vertex g x proper =
    let keeps : ℕ → Bool = λ y. not (y == x) in
    let spares : Triple → Bool = λ t. not (names x t) in
    record {
      once = EachOnce-filter keeps g.vertices proper.once;
      vertices = All-from_Contains (λ y. y < vertex_limit) (filter keeps g.vertices)
          (λ y h. All-contains (λ y. y < vertex_limit) g.vertices y proper.vertices (Contains-filter keeps g.vertices y h).0);
      triples = All-from_Contains (IsProperTriple (changed g (DelV x))) (filter spares g.triples)
          (λ t h. (let old = Contains-filter spares g.triples t h in
          let ends = or_parts (t.source == x) (t.target == x) (not-true (names x t) old.1) in
          IsProperTriple-kept g (changed g (DelV x)) t refl
          (λ k. Contains-filtered keeps g.vertices t.source k (ap not ends.0))
          (λ k. Contains-filtered keeps g.vertices t.target k (ap not ends.1))
          (All-contains (IsProperTriple g) g.triples t proper.triples old.0)));
    }

-- a graph with other triples is proper where they are
pub proper-triples : (g : PlainGraph) (ts : List Triple) → IsProper g → All (IsProperTriple g) ts → IsProper (record g { triples = ts })
proper-triples g ts proper all = record {
  once = proper.once;
  vertices = proper.vertices;
  triples = All-weaker (IsProperTriple g) (IsProperTriple (record g { triples = ts }))
      (λ t p. record { source = p.source; target = p.target; weight = p.weight }) ts all;
}

-- the triples without the first copy of e are proper
proper-without : (g : PlainGraph) (e : Triple) → IsProper g → All (IsProperTriple g) (without_first e g.triples)
proper-without g e proper =
    All-from_Contains (IsProperTriple g) (without_first e g.triples)
    (λ t h. All-contains (IsProperTriple g) g.triples t proper.triples (without-within e g.triples t h))

-- and so are proper triples with one more
proper-push : (g : PlainGraph) (t : Triple) (ts : List Triple) → All (IsProperTriple g) ts → IsProperTriple g t → All (IsProperTriple g) (ts ++ t ∷ [])
proper-push g t ts all one = All-append (IsProperTriple g) ts (t ∷ []) all (All-cons (IsProperTriple g) t [] one (All-nil (IsProperTriple g)))

-- an update to which there is no objection keeps a graph proper
pub proper-changed : (g : PlainGraph) (update : Update) → IsProper g → IsAllowed g update → IsProper (changed g update)
proper-changed g (AddV x) proper h = proper-added_vertex g x proper (below_from_past vertex_limit x h.within)
proper-changed g (DelV x) proper h = proper-dropped_vertex g x proper
proper-changed g (AddE u v w) proper h =
    let limits = option_or-none (past vertex_limit u) _ h.within in
    let limit = option_or-none (past vertex_limit v) _ limits.1 in
    let there = option_or-none (missing g u) (missing g v) h.present in
    proper-triples g (g.triples ++ triple u v w ∷ []) proper
    (proper-push g (triple u v w) g.triples proper.triples (edge_proper g u v w there.0 there.1 limit.1))
proper-changed g (DelE u v w) proper h = proper-triples g (without_first (triple u v w) g.triples) proper (proper-without g (triple u v w) proper)
proper-changed g (SetW u v w w2) proper h =
    let limits = option_or-none (edge_past (greatest_weight g) u v w) (past (greatest_weight g + 1) w2) h.within in
    let there = option_or-none (missing g u) (missing g v) h.present in
    proper-triples g (without_first (triple u v w) g.triples ++ triple u v w2 ∷ []) proper
    (proper-push g (triple u v w2) (without_first (triple u v w) g.triples) (proper-without g (triple u v w) proper)
    (edge_proper g u v w2 there.0 there.1 limits.1))

-- and so does one that is accepted
pub proper-does : (g h : PlainGraph) (update : Update) → IsProper g → does g update ≡ Ok h → IsProper h
proper-does g h update proper e =
    let facts = does-accepted g h update e in subst IsProper facts.1 (proper-changed g update proper (allowed g update facts.0))
