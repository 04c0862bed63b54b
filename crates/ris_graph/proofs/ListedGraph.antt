-- The plain graph that lists a graph's vertices and triples.
use Rattle.std.proofs.Common.{◌≡◌, ◌↔◌, ℕ, zero, suc, ◌+◌, ◌<◌, ◌≤◌, Bool, true, false, nat_lt, ◌==◌, ◌&&◌, if◌then◌else◌, IsTrue, List, [], ◌∷◌, ◌++◌, length, replicate, arith, refl, inl, inr, sym, ap, subst, ◌∙◌, add-zero, zero-add, append-nil, length-append}
use Rattle.std.specs.List.{Contains, count_by}
use Rattle.std.proofs.lemmas.Bool.{cases_lt, cases_eq, cases_Bool, both_ways, eq-eqb, ne_eqb, lt-ltb, le-ltb}
use Rattle.std.proofs.lemmas.List.Elements.{Contains-append_left, Contains-append_right, Contains-append_cases}
use Rattle.std.proofs.lemmas.List.Sums.{sum_by-append}
use Rattle.ris_base.specs.Graph.{EachOnce, HasVertex, IsProperTriple, copies, is_equal, triple}
use Rattle.ris_base.specs.Limits.{vertex_limit}
use Rattle.ris_base.specs.declared.graphs.PlainGraph.{PlainGraph}
use Rattle.ris_base.specs.declared.graphs.Triple.{Triple}
use Rattle.ris_base.proofs.CopyLemmas.{length-same_counts}
use Rattle.ris_base.proofs.EffectLemmas.{one_if, count_by-cons, copies-HasTriple}
use Rattle.ris_base.proofs.ListLemmas.{Contains-none, Contains-one, All-from_Contains, EachOnce-nil, EachOnce-push}
use Rattle.ris_rows.specs.Neighbours.{copies_of, is_of}
use Rattle.ris_rows.specs.declared.neighbours.Neighbour.{Neighbour}
use Rattle.ris_graph.specs.GraphView.{GraphView, out_row, vertex_in, copies_in, IsOf}
use Rattle.ris_graph.specs.Listings.{row_triples, vertices_at, triples_at}
use Rattle.ris_graph.specs.Sound.{IsSound}
use Rattle.ris_graph.proofs.GraphLemmas.{present-lt}
use Rattle.ris_graph.proofs.Laws.{out_test}

-- the vertices and the triples of the vertex numbers below n
abbrev pub vertices_below : GraphView → ℕ → List ℕ
vertices_below g zero = []
vertices_below g (suc n) = vertices_below g n ++ vertices_at g n

abbrev pub triples_below : GraphView → ℕ → List Triple
triples_below g zero = []
triples_below g (suc n) = triples_below g n ++ triples_at g n

abbrev pub listed : GraphView → PlainGraph
listed g = record { format = g.format; vertices = vertices_below g (length g.present); triples = triples_below g (length g.present) }

-- Vertices

pub Contains-vertices_below : (g : GraphView) (n x : ℕ) → Contains (vertices_below g n) x ↔ ((x < n) × IsTrue (vertex_in g x))
Contains-vertices_below g zero x = (λ h. absurd (Contains-none x h), λ h. absurd (let lt = h.0 in omega arith))
Contains-vertices_below g (suc n) x =
    let before = Contains-vertices_below g n x in (
      λ h. elim (Contains-append_cases (vertices_below g n) (vertices_at g n) x h) [
        | inl old ↦ (let both = before.0 old in (let lt = both.0 in omega arith, both.1))
        | inr new ↦ (let at = at_n new in (omega (arith, at.0), at.1))
      ],
      λ h. elim (cases_lt x n) [
        | inl lt ↦ Contains-append_left (vertices_below g n) (vertices_at g n) x (before.1 (lt, h.1))
        | inr past ↦ (let same : n ≡ x = (let lt = h.0 in omega arith) in
            Contains-append_right (vertices_below g n) (vertices_at g n) x (rw same (rw h.1 (0, omega arith, refl))))
      ],
    )
  where
    at_n : Contains (vertices_at g n) x → (n ≡ x) × IsTrue (vertex_in g x)
    at_n h = elim (cases_Bool (vertex_in g n)) [
      | inl there ↦ (let same : n ≡ x = Contains-one n x (rw there at h) in (same, subst (λ y. vertex_in g y ≡ true) same there))
      | inr not ↦ absurd (Contains-none x (rw not at h))
    ]

EachOnce-vertices_below : (g : GraphView) (n : ℕ) → EachOnce (vertices_below g n)
EachOnce-vertices_below g zero = EachOnce-nil
EachOnce-vertices_below g (suc n) =
    let before = EachOnce-vertices_below g n in
    elim (cases_Bool (vertex_in g n)) [
      | inl there ↦ rw there (EachOnce-push (vertices_below g n) n before (λ h. (let lt = ((Contains-vertices_below g n n).0 h).0 in absurd (omega arith))))
      | inr not ↦ rw not (rw append-nil before)
    ]

-- Triples

count_by-replicate : (t s : Triple) (k : ℕ) → count_by (is_equal t) (replicate k s) ≡ (if is_equal t s then k else 0)
count_by-replicate t s zero = elim (cases_Bool (is_equal t s)) [ inl e ↦ rw e refl | inr e ↦ rw e refl ]
count_by-replicate t s (suc k) =
    let first = count_by-cons (is_equal t) s (replicate k s) in
    let rest = count_by-replicate t s k in
    elim (cases_Bool (is_equal t s)) [
      | inl e ↦ (let one : one_if (is_equal t s) ≡ 1 = rw e refl in let more : count_by (is_equal t) (replicate k s) ≡ k = rw e at rest in rw e (omega arith))
      | inr e ↦ (let none : one_if (is_equal t s) ≡ 0 = rw e refl in let more : count_by (is_equal t) (replicate k s) ≡ 0 = rw e at rest in rw e (omega arith))
    ]

count_by-row_triples : (t : Triple) (u : ℕ) (ns : List Neighbour) → count_by (is_equal t) (row_triples u ns) ≡ (if t.source == u then copies_of ns t.target t.weight else 0)
count_by-row_triples t u [] = elim (cases_Bool (t.source == u)) [ inl e ↦ rw e refl | inr e ↦ rw e refl ]
count_by-row_triples t u (n ∷ ns) =
    let first = count_by-replicate t (triple u n.end n.weight) n.copies in
    let rest = count_by-row_triples t u ns in
    let whole = sum_by-append (λ (s : Triple). one_if (is_equal t s)) (replicate n.copies (triple u n.end n.weight)) (row_triples u ns) in
    let test = out_test t.source u t.target n.end t.weight n.weight in
    elim (cases_Bool (t.source == u)) [
      | inl e ↦ elim (cases_Bool (is_of n t.target t.weight)) [
        | inl of ↦ (let equal : is_equal t (triple u n.end n.weight) ≡ true = test ∙ rw (e, of) refl in
            let front = rw equal at first in let behind = rw e at rest in rw (e, of) (omega arith))
        | inr other ↦ (let equal : is_equal t (triple u n.end n.weight) ≡ false = test ∙ rw (e, other) refl in
            let front = rw equal at first in let behind = rw e at rest in rw (e, other) (omega arith))
      ]
      | inr e ↦ (let equal : is_equal t (triple u n.end n.weight) ≡ false = test ∙ rw e refl in
          let front = rw equal at first in let behind = rw e at rest in rw e (omega arith))
    ]

-- the copies of a triple among those of one vertex number, and of all those below n
count_by-own : (g : GraphView) (t : Triple) → count_by (is_equal t) (triples_at g t.source) ≡ (if vertex_in g t.source then copies_in g t else 0)
count_by-own g t =
    let row = rw (eq-eqb t.source t.source refl) at (count_by-row_triples t t.source (out_row g t.source).items) in
    elim (cases_Bool (vertex_in g t.source)) [ inl there ↦ rw there row | inr not ↦ rw not refl ]

count_by-other : (g : GraphView) (t : Triple) (x : ℕ) → (t.source == x) ≡ false → count_by (is_equal t) (triples_at g x) ≡ 0
count_by-other g t x other =
    let row = rw other at (count_by-row_triples t x (out_row g x).items) in
    elim (cases_Bool (vertex_in g x)) [ inl there ↦ rw there row | inr not ↦ rw not refl ]

count_by-below : (g : GraphView) (t : Triple) (n : ℕ) → count_by (is_equal t) (triples_below g n) ≡ (if nat_lt t.source n && vertex_in g t.source then copies_in g t else 0)
count_by-below g t zero = rw (le-ltb t.source 0 (omega arith)) refl
count_by-below g t (suc n) =
    let before = count_by-below g t n in
    let whole = sum_by-append (λ (s : Triple). one_if (is_equal t s)) (triples_below g n) (triples_at g n) in
    elim (cases_eq t.source n) [
      | inl same ↦ (let none : count_by (is_equal t) (triples_below g n) ≡ 0 = rw (le-ltb t.source n (omega arith)) at before in
          let own : count_by (is_equal t) (triples_at g n) ≡ (if vertex_in g t.source then copies_in g t else 0)
          = subst (λ y. count_by (is_equal t) (triples_at g y) ≡ (if vertex_in g t.source then copies_in g t else 0)) same (count_by-own g t) in
          rw (lt-ltb t.source (suc n) (omega arith)) (whole ∙ ap (λ k. k + count_by (is_equal t) (triples_at g n)) none ∙ zero-add _ ∙ own))
      | inr other ↦ (let none = count_by-other g t n (ne_eqb t.source n other) in
          let test : nat_lt t.source (suc n) ≡ nat_lt t.source n = elim (cases_lt t.source n) [
            | inl lt ↦ lt-ltb t.source (suc n) (omega arith) ∙ sym (lt-ltb t.source n lt)
            | inr past ↦ le-ltb t.source (suc n) (omega arith) ∙ sym (le-ltb t.source n past)
          ] in
          rw test (whole ∙ ap (λ k. count_by (is_equal t) (triples_below g n) + k) none ∙ add-zero _ ∙ before))
    ]

copies-listed : (g : GraphView) (t : Triple) → IsSound g → copies (listed g) t ≡ copies_in g t
copies-listed g t sound =
    let below = count_by-below g t (length g.present) in
    elim (cases_Bool (vertex_in g t.source)) [
      | inl there ↦ rw (lt-ltb t.source (length g.present) (present-lt g t.source there), there) at below
      | inr not ↦ elim (cases_eq (copies_in g t) 0) [
        | inl none ↦ rw none (rw (not, and_nothing (nat_lt t.source (length g.present))) at below)
        | inr some ↦ absurd (both_ways (vertex_in g t.source) not (sound.joined t (omega arith)).source)
      ]
    ]
  where
    and_nothing : (b : Bool) → (b && false) ≡ false
    and_nothing true = refl
    and_nothing false = refl

-- The graph

pub IsOf-listed : (g : GraphView) → IsSound g → IsOf g (listed g)
IsOf-listed g sound = record {
  format = refl;
  proper = record {
    once = EachOnce-vertices_below g (length g.present);
    vertices = All-from_Contains (λ x. x < vertex_limit) (vertices_below g (length g.present)) (λ x has. (
        let lt = ((Contains-vertices_below g (length g.present) x).0 has).0 in
        let few = sound.sized.few in
        omega arith));
    triples = All-from_Contains (IsProperTriple (listed g)) (triples_below g (length g.present)) (λ t has. (
        let some = copies-HasTriple (listed g) t has in
        let same = copies-listed g t sound in
        let joined = sound.joined t (omega arith) in
        record { source = present-listed t.source joined.source; target = present-listed t.target joined.target; weight = joined.weight }));
  };
  vertices = λ x. (present-listed x, λ has. ((Contains-vertices_below g (length g.present) x).0 has).1);
  triples = λ t. sym (copies-listed g t sound);
  transposed = λ t. sound.transposed t ∙ sym (copies-listed g t sound);
  outs = sound.outs;
  ins = sound.ins;
}
  where
    present-listed : (x : ℕ) → IsTrue (vertex_in g x) → HasVertex (listed g) x
    present-listed x there = (Contains-vertices_below g (length g.present) x).1 (present-lt g x there, there)

-- every plain graph that a graph is has as many triples
pub length-triples : (g : GraphView) (p q : PlainGraph) → IsOf g p → IsOf g q → length p.triples ≡ length q.triples
length-triples g p q a b = length-same_counts p.triples q.triples (λ t. sym (a.triples t) ∙ b.triples t)

-- the triples of some vertex numbers are at most all of them
pub length-below-le : (g : GraphView) (n m : ℕ) → n ≤ m → length (triples_below g n) ≤ length (triples_below g m)
length-below-le g n zero le = (let none : n ≡ 0 = omega arith in rw none (omega arith))
length-below-le g n (suc m) le =
    let size = length-append (triples_below g m) (triples_at g m) in
    elim (cases_eq n (suc m)) [
      | inl same ↦ rw same (omega arith)
      | inr other ↦ (let before = length-below-le g n m (omega arith) in omega arith)
    ]
