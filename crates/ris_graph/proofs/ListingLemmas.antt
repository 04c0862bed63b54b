-- Listing a graph: its vertices, its triples, and the ticks for them.
use Rattle.std.proofs.Common.{◌≡◌, ℕ, ◌+◌, ◌-◌, ◌≤◌, ◌^◌, min, List, [], ◌∷◌, ◌++◌, length, replicate, drop, Some, arith, refl, inl, inr, sym, ap, ◌∙◌, add-zero}
use Rattle.std.proofs.lemmas.Bool.{cases_eq, ne_eqb}
use Rattle.std.proofs.lemmas.Grind.{common_steps}
use Rattle.std.specs.List.{slice_get}
use Rattle.std.specs.Option.{option_map}
use Rattle.std.proofs.lemmas.List.{append_assoc, length-append, length-replicate}
use Rattle.ris_base.specs.Graph.{triple}
use Rattle.ris_base.specs.declared.graphs.Triple.{Triple}
use Rattle.ris_rows.specs.Neighbours.{handed}
use Rattle.ris_rows.specs.declared.neighbours.Neighbour.{Neighbour}
use Rattle.ris_graph.specs.Listings.{row_triples}
use Rattle.ris_graph.specs.Ticks.{ticked, IsRise}

-- Ticks

pub ticked-zero : (c : ℕ) → ticked c 0 ≡ c
unfolding ticked
ticked-zero c = refl

pub ticked-one : (c : ℕ) → ticked c 1 ≡ min (c + 1) (2 ^ 64 - 1)
unfolding ticked
ticked-one c = refl

pub ticked-ticked : (c m n : ℕ) → ticked (ticked c m) n ≡ ticked c (m + n)
unfolding ticked
ticked-ticked c m n =
    elim (cases_eq m 0) [
      | inl none ↦ rw none (ap (ticked c) (sym (omega arith)))
      | inr some ↦ elim (cases_eq n 0) [
        | inl none ↦ rw none (ap (ticked c) (sym (add-zero m)))
        | inr more ↦ rw (ne_eqb m 0 some, ne_eqb n 0 more, ne_eqb (m + n) 0 (λ e. absurd (omega arith))) (grind (arith, common_steps))
      ]
    ]

pub IsRise-ticked : (old n most : ℕ) → n ≤ most → IsRise old (ticked old n) most
IsRise-ticked old n most le = record { ticks = n; few = le; rose = refl }

pub IsRise-none : (old most : ℕ) → IsRise old old most
IsRise-none old most = record { ticks = 0; few = omega arith; rose = sym (ticked-zero old) }

-- what was ticked, and then what rose
pub IsRise-after : (a b c m n most : ℕ) → b ≡ ticked a m → IsRise b c n → m + n ≤ most → IsRise a c most
IsRise-after a b c m n most is rise le = record {
  ticks = m + rise.ticks;
  few = (let f = rise.few in omega arith);
  rose = rise.rose ∙ ap (λ k. ticked k rise.ticks) is ∙ ticked-ticked a m rise.ticks;
}

-- one tick more
pub ticked-step : (old mid new n k : ℕ) → mid ≡ ticked old n → new ≡ min (mid + 1) (2 ^ 64 - 1) → n + 1 ≡ k → new ≡ ticked old k
ticked-step old mid new n k before tick is = tick ∙ sym (ticked-one mid) ∙ ap (λ c. ticked c 1) before ∙ ticked-ticked old n 1 ∙ ap (ticked old) is

-- Rows

-- what a cursor handed out stood before what is left
pub handed-first : (ns rest : List Neighbour) (e w k : ℕ) → Some (e, w, k) ≡ option_map handed (slice_get ns 0) → rest ≡ drop 1 ns
    → ns ≡ record { end = e; weight = w; copies = k } ∷ rest
handed-first [] rest e w k item is = absurd (cc)
handed-first (n ∷ ns) rest e w k item is =
    let same : (e, w, k) ≡ handed n = cc in
    let a = ap (λ (x : ℕ × ℕ × ℕ). x.0) same in
    let b = ap (λ (x : ℕ × ℕ × ℕ). x.1) same in
    let d = ap (λ (x : ℕ × ℕ × ℕ). x.2) same in
    rw (is, a, b, d) refl

-- one row more of a list of triples
pub row-step : (u e w k : ℕ) (before after all : List Triple) (ns rest : List Neighbour) → ns ≡ record { end = e; weight = w; copies = k } ∷ rest
    → before ++ row_triples u ns ≡ all → after ≡ before ++ replicate k (triple u e w) → after ++ row_triples u rest ≡ all
row-step u e w k before after all ns rest is whole pushed =
    ap (λ (l : List Triple). l ++ row_triples u rest) pushed ∙ append_assoc before (replicate k (triple u e w)) (row_triples u rest)
    ∙ ap (λ (l : List Neighbour). before ++ row_triples u l) (sym is) ∙ whole

-- the ticks for one neighbour, of which the first was that of the cursor
pub rise-step : (u e w k : ℕ) (a b c d n most : ℕ) (ns rest : List Neighbour) → ns ≡ record { end = e; weight = w; copies = k } ∷ rest → 1 ≤ k
    → n + length (row_triples u ns) ≡ most → b ≡ ticked a n → c ≡ min (b + 1) (2 ^ 64 - 1) → IsRise c d (k - 1) → IsRise a d most
rise-step u e w k a b c d n most ns rest is some whole before tick rise =
    let size : length (row_triples u ns) ≡ k + length (row_triples u rest)
    = rw is (length-append (replicate k (triple u e w)) (row_triples u rest) ∙ ap (λ m. m + length (row_triples u rest)) (length-replicate k (triple u e w))) in
    IsRise-after a c d (n + 1) (k - 1) most (ticked-step a b c n (n + 1) before tick refl) rise (omega arith)

pub ticks-step : (u e w k : ℕ) (a b c d n most : ℕ) (ns rest : List Neighbour) → ns ≡ record { end = e; weight = w; copies = k } ∷ rest → 1 ≤ k
    → n + length (row_triples u ns) ≡ most → b ≡ ticked a n → c ≡ min (b + 1) (2 ^ 64 - 1) → d ≡ ticked c (k - 1)
    → (n + k + length (row_triples u rest) ≡ most) × (d ≡ ticked a (n + k))
ticks-step u e w k a b c d n most ns rest is some whole before tick rise =
    let size : length (row_triples u ns) ≡ k + length (row_triples u rest)
    = rw is (length-append (replicate k (triple u e w)) (row_triples u rest) ∙ ap (λ m. m + length (row_triples u rest)) (length-replicate k (triple u e w))) in
    let first = ticked-step a b c n (n + 1) before tick refl in
    (omega arith, rise ∙ ap (λ m. ticked m (k - 1)) first ∙ ticked-ticked a (n + 1) (k - 1) ∙ ap (ticked a) (omega arith))
