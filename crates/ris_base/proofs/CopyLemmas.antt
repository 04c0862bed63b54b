-- Lists of triples by the copies that they have: such lists are as long, and the degrees are the lengths of lists without repeats.
use Rattle.std.proofs.Common.{◌≡◌, ℕ, ◌+◌, ◌-◌, ◌<◌, Bool, true, false, ◌==◌, ◌||◌, if◌then◌else◌, cond, List, [], ◌∷◌, length, arith, refl, inl, inr, sym, ap, subst, ◌∙◌}
use Rattle.std.specs.List.{filter, count_by, list_any}
use Rattle.std.proofs.lemmas.Bool.{cases_Bool}
use Rattle.std.proofs.lemmas.List.Sums.{length-filter}
use Rattle.ris_base.specs.Effect.{without_first}
use Rattle.ris_base.specs.Graph.{distinct, has_equal, in_degree, is_equal, out_degree}
use Rattle.ris_base.specs.declared.graphs.PlainGraph.{PlainGraph}
use Rattle.ris_base.specs.declared.graphs.Triple.{Triple}
use Rattle.ris_base.proofs.EffectLemmas.{count_by-cons, count_by-without, equal_itself, one_if, same_from_equal}

-- a list that has a copy of t has one triple fewer without the first
length-without : (t : Triple) (ts : List Triple) → 0 < count_by (is_equal t) ts → length (without_first t ts) + 1 ≡ length ts
length-without t [] some = absurd (omega arith)
length-without t (s ∷ rest) some =
    let first = count_by-cons (is_equal t) s rest in
    elim (cases_Bool (is_equal t s)) [
      | inl same ↦ rw same (omega arith)
      | inr other ↦ (let none : one_if (is_equal t s) ≡ 0 = rw other refl in let more = length-without t rest (omega arith) in rw other (omega arith))
    ]

-- lists with as many copies of each triple are as long
pub length-same_counts : (ts us : List Triple) → ((t : Triple) → count_by (is_equal t) ts ≡ count_by (is_equal t) us) → length ts ≡ length us
length-same_counts [] [] same = refl
length-same_counts [] (u ∷ us) same =
    let first = count_by-cons (is_equal u) u us in
    let one : one_if (is_equal u u) ≡ 1 = rw (equal_itself u) refl in
    let none : 0 ≡ count_by (is_equal u) (u ∷ us) = same u in
    absurd (omega arith)
length-same_counts (t ∷ ts) us same =
    let first = count_by-cons (is_equal t) t ts in
    let one : one_if (is_equal t t) ≡ 1 = rw (equal_itself t) refl in
    let whole = same t in
    let less = length-without t us (omega arith) in
    let rest = length-same_counts ts (without_first t us) (λ s. (
    let head = count_by-cons (is_equal s) t ts in
    let both = same s in
    let left = count_by-without s t us in
    omega arith)) in
    omega arith

-- a list without repeats has one copy of each of its triples
count_by-distinct : (t : Triple) (ts : List Triple) → count_by (is_equal t) (distinct ts) ≡ one_if (list_any (is_equal t) ts)
unfolding distinct
count_by-distinct t [] = refl
count_by-distinct t (s ∷ rest) =
    let before = count_by-distinct t rest in
    let first = count_by-cons (is_equal t) s (distinct rest) in
    elim (cases_Bool (is_equal t s)) [
      | inl same ↦ (let moved : list_any (is_equal s) rest ≡ list_any (is_equal t) rest = ap (λ r. list_any (is_equal r) rest) (sym (same_from_equal t s same)) in
          let one : one_if (is_equal t s) ≡ 1 = rw same refl in
          elim (cases_Bool (list_any (is_equal t) rest)) [
            | inl again ↦ rw (moved, same, again) (before ∙ rw again refl)
            | inr last ↦ (let none : count_by (is_equal t) (distinct rest) ≡ 0 = before ∙ rw last refl in rw (moved, same, last) (omega arith))
          ])
      | inr other ↦ (let none : one_if (is_equal t s) ≡ 0 = rw other refl in
          elim (cases_Bool (list_any (is_equal s) rest)) [
            | inl again ↦ rw (again, other) before
            | inr last ↦ rw (last, other) (omega arith)
          ])
    ]

-- the copies that a test leaves
count_by-tested : (q : Triple → Bool) (t : Triple) (ts : List Triple) → count_by (is_equal t) (filter q ts) ≡ (if q t then count_by (is_equal t) ts else 0)
count_by-tested q t [] = elim (cases_Bool (q t)) [ inl h ↦ rw h refl | inr h ↦ rw h refl ]
count_by-tested q t (s ∷ rest) =
    let before = count_by-tested q t rest in
    let first = count_by-cons (is_equal t) s rest in
    let kept = count_by-cons (is_equal t) s (filter q rest) in
    elim (cases_Bool (is_equal t s)) [
      | inl same ↦ (let as_t : q s ≡ q t = ap q (sym (same_from_equal t s same)) in
          elim (cases_Bool (q t)) [
            | inl h ↦ (let left : count_by (is_equal t) (filter q rest) ≡ count_by (is_equal t) rest = before ∙ rw h refl in rw (as_t, h) (omega arith))
            | inr h ↦ rw (as_t, h) (before ∙ rw h refl)
          ])
      | inr other ↦ (let none : one_if (is_equal t s) ≡ 0 = rw other refl in
          let more : (if q t then count_by (is_equal t) (s ∷ rest) else 0) ≡ (if q t then count_by (is_equal t) rest else 0)
          = ap (λ n. if q t then n else 0) (let e : count_by (is_equal t) (s ∷ rest) ≡ count_by (is_equal t) rest = omega arith in e) in
          let same : count_by (is_equal t) (filter q (s ∷ rest)) ≡ count_by (is_equal t) (filter q rest)
          = elim (cases_Bool (q s)) [ inl h ↦ rw h (omega arith) | inr h ↦ rw h refl ] in
          same ∙ before ∙ sym more)
    ]

-- the distinct triples that pass a test are as many as any list has in which each of them, and nothing else, stands once
length-distinct : (g : PlainGraph) (q : Triple → Bool) (ts : List Triple) → ((t : Triple) → count_by (is_equal t) ts ≡ (if q t then one_if (has_equal g t) else 0))
    → length ts ≡ count_by q (distinct g.triples)
length-distinct g q ts each =
    length-same_counts ts (filter q (distinct g.triples))
    (λ t. each t ∙ ap (λ n. if q t then n else 0) (sym (count_by-distinct t g.triples)) ∙ sym (count_by-tested q t (distinct g.triples)))
    ∙ length-filter q (distinct g.triples)

pub out_degree-length : (g : PlainGraph) (x : ℕ) (ts : List Triple) → ((t : Triple) → count_by (is_equal t) ts ≡ (if t.source == x then one_if (has_equal g t) else 0))
    → length ts ≡ out_degree g x
out_degree-length g x ts each = length-distinct g (λ t. t.source == x) ts each

pub in_degree-length : (g : PlainGraph) (x : ℕ) (ts : List Triple) → ((t : Triple) → count_by (is_equal t) ts ≡ (if t.target == x then one_if (has_equal g t) else 0))
    → length ts ≡ in_degree g x
in_degree-length g x ts each = length-distinct g (λ t. t.target == x) ts each
