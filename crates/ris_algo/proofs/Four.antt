-- The laws of the four analyses, and that walks are worth what their starts and steps make along them.
use Rattle.std.specs.Prelude.{◌≡◌, ℕ, ◌+◌, true, false, ◌==◌, if◌then◌else◌, List, [], ◌∷◌, length, min, Some, None, IsSome, refl}
use Rattle.std.proofs.Common.{arith, sym, ◌∙◌, ap}
use Rattle.std.proofs.lemmas.Bool.{ltb-true, lt-ltb}
use Rattle.std.proofs.lemmas.Bool.Decides.{nat_tests}
use Rattle.std.proofs.lemmas.List.Sums.{sum_by-cons}
use Rattle.std.proofs.lemmas.Option.{same_Some}
use Rattle.std.specs.List.{sum_by}
use Rattle.ris_base.specs.Analysis.{start, start_at, step, better}
use Rattle.ris_base.specs.Graph.{greatest_weight}
use Rattle.ris_base.specs.Limits.{greatest_of}
use Rattle.ris_base.specs.Walk.{least_weight, both_ways}
use Rattle.ris_base.specs.declared.analyses.Kind.{Kind}
use Rattle.ris_base.specs.declared.analyses.Kind.TheVariants.{Bfs, Sssp, Sswp, Wcc}
use Rattle.ris_base.specs.declared.analyses.Spec.{Spec}
use Rattle.ris_base.specs.declared.graphs.Format.{Format}
use Rattle.ris_base.specs.declared.graphs.PlainGraph.{PlainGraph}
use Rattle.ris_base.specs.declared.graphs.Triple.{Triple}
use Rattle.ris_algo.specs.Laws.{along, start_in, Suits, IsMonotone, IsOfTable, IsAnalysis}
use Rattle.ris_algo.proofs.Small.{greatest_small}

-- a number is the root where the test says so
at_root : (c x root : ℕ) → IsSome (if x == root then Some c else None) → x ≡ root
at_root c x root h = grind (arith, nat_tests)

-- and the test says so of the root
from_root : (c x root : ℕ) → x ≡ root → IsSome (if x == root then Some c else None)
from_root c x root h = grind (arith, nat_tests)

-- the start value is that of the root
root_value : (c d x root : ℕ) → (if x == root then Some c else None) ≡ Some d → d ≡ c
root_value c d x root h = grind (arith, nat_tests)

-- the laws, kind by kind

bfs_laws : (greatest root : ℕ) → IsMonotone (start_at greatest Bfs root) (step Bfs) (better Bfs)
bfs_laws greatest root = record {
  irreflexive = λ a. grind (arith, nat_tests);
  transitive = λ a b c h k. grind (arith, nat_tests);
  total = λ a b h k. grind (arith, nat_tests);
  monotone = λ a b w h. grind (arith, nat_tests);
  never_better = λ v w. grind (arith, nat_tests);
  start_small = λ x c lt e. let z = root_value 0 c x root e in omega arith;
  step_small = λ v w. omega arith;
}

sssp_laws : (greatest root : ℕ) → IsMonotone (start_at greatest Sssp root) (step Sssp) (better Sssp)
sssp_laws greatest root = record {
  irreflexive = λ a. grind (arith, nat_tests);
  transitive = λ a b c h k. grind (arith, nat_tests);
  total = λ a b h k. grind (arith, nat_tests);
  monotone = λ a b w h. grind (arith, nat_tests);
  never_better = λ v w. grind (arith, nat_tests);
  start_small = λ x c lt e. let z = root_value 0 c x root e in omega arith;
  step_small = λ v w. omega arith;
}

sswp_laws : (format : Format) (root : ℕ) → IsMonotone (start_at (greatest_of format) Sswp root) (step Sswp) (better Sswp)
sswp_laws format root = record {
  irreflexive = λ a. grind (arith, nat_tests);
  transitive = λ a b c h k. grind (arith, nat_tests);
  total = λ a b h k. grind (arith, nat_tests);
  monotone = λ a b w h. grind (arith, nat_tests);
  never_better = λ v w. grind (arith, nat_tests);
  start_small = λ x c lt e. let z = root_value (greatest_of format + 1) c x root e in let low = greatest_small format in omega arith;
  step_small = λ v w. omega arith;
}

wcc_laws : (greatest root : ℕ) → IsMonotone (start_at greatest Wcc root) (step Wcc) (better Wcc)
wcc_laws greatest root = record {
  irreflexive = λ a. grind (arith, nat_tests);
  transitive = λ a b c h k. grind (arith, nat_tests);
  total = λ a b h k. grind (arith, nat_tests);
  monotone = λ a b w h. grind (arith, nat_tests);
  never_better = λ v w. grind (arith, nat_tests);
  start_small = λ x c lt e. let z = same_Some x c e in omega arith;
  step_small = λ v w. omega arith;
}

-- the value along a walk, kind by kind

-- where a step adds one
count_along : (c : ℕ) (ts : List Triple) → along (step Bfs) c ts ≡ c + length ts
count_along c [] = omega arith
count_along c (t ∷ rest) = count_along (c + 1) rest ∙ omega arith

-- where a step adds the weight
sum_along : (c : ℕ) (ts : List Triple) → along (step Sssp) c ts ≡ c + sum_by (λ t. t.weight) ts
sum_along c [] = omega arith
sum_along c (t ∷ rest) = sum_along (c + t.weight) rest ∙ omega (arith, sum_by-cons (λ (s : Triple). s.weight) t rest)

least_first : (c w : ℕ) (ts : List Triple) → least_weight (min c w) ts ≡ min w (least_weight c ts)
least_first c w [] = omega arith
least_first c w (t ∷ rest) = let e = least_first c w rest in omega arith

-- where a step takes the lesser
least_along : (c : ℕ) (ts : List Triple) → along (step Sswp) c ts ≡ least_weight c ts
least_along c [] = refl
least_along c (t ∷ rest) = least_along (min c t.weight) rest ∙ least_first c t.weight rest

-- where a step changes nothing
kept_along : (c : ℕ) (ts : List Triple) → along (step Wcc) c ts ≡ c
kept_along c [] = refl
kept_along c (t ∷ rest) = kept_along c rest

-- what walks are worth, kind by kind

bfs_meaning : (greatest root : ℕ) (made : Format) → IsAnalysis (record { kind = Bfs; root = root }) (Suits Bfs made) (start_at greatest Bfs root) (step Bfs) (better Bfs) false
bfs_meaning greatest root made = record {
  begins = λ x. (from_root 0 x root, at_root 0 x root);
  reaches = λ g w c fits e. let z = root_value 0 c w.first root e in let s = count_along c w.triples in omega arith;
  compares = λ a b. (ltb-true a b, lt-ltb a b);
  ways = refl;
}

sssp_meaning : (greatest root : ℕ) (made : Format) → IsAnalysis (record { kind = Sssp; root = root }) (Suits Sssp made) (start_at greatest Sssp root) (step Sssp) (better Sssp) false
sssp_meaning greatest root made = record {
  begins = λ x. (from_root 0 x root, at_root 0 x root);
  reaches = λ g w c fits e. let z = root_value 0 c w.first root e in let s = sum_along c w.triples in omega arith;
  compares = λ a b. (ltb-true a b, lt-ltb a b);
  ways = refl;
}

sswp_meaning : (root : ℕ) (made : Format) → IsAnalysis (record { kind = Sswp; root = root }) (Suits Sswp made) (start_at (greatest_of made) Sswp root) (step Sswp) (better Sswp) false
sswp_meaning root made = record {
  begins = λ x. (from_root (greatest_of made + 1) x root, at_root (greatest_of made + 1) x root);
  reaches = λ g w c fits e. let z = root_value (greatest_of made + 1) c w.first root e in
      ap (λ f. least_weight (greatest_of f + 1) w.triples) fits ∙ ap (λ n. least_weight n w.triples) (sym z) ∙ sym (least_along c w.triples);
  compares = λ a b. (ltb-true b a, lt-ltb b a);
  ways = refl;
}

wcc_meaning : (greatest root : ℕ) (made : Format) → IsAnalysis (record { kind = Wcc; root = root }) (Suits Wcc made) (start_at greatest Wcc root) (step Wcc) (better Wcc) true
wcc_meaning greatest root made = record {
  begins = λ x. (λ _. refl, λ _. tt);
  reaches = λ g w c fits e. same_Some w.first c e ∙ sym (kept_along c w.triples);
  compares = λ a b. (ltb-true a b, lt-ltb a b);
  ways = refl;
}

-- an analysis that is made for graphs of a format is monotone
pub laws_in : (made : Format) (spec : Spec) → IsMonotone (start_in made spec) (step spec.kind) (better spec.kind)
laws_in made spec = go spec.kind
  where
    go : (kind : Kind) → IsMonotone (start_at (greatest_of made) kind spec.root) (step kind) (better kind)
    go Bfs = bfs_laws (greatest_of made) spec.root
    go Sssp = sssp_laws (greatest_of made) spec.root
    go Sswp = sswp_laws made spec.root
    go Wcc = wcc_laws (greatest_of made) spec.root

-- it is that of the table, on graphs whose format suits
pub table_in : (made : Format) (spec : Spec)
    → IsOfTable spec (Suits spec.kind made) (start_in made spec) (step spec.kind) (better spec.kind) (both_ways spec.kind)
table_in made spec = record { starts = λ g x. same spec.kind g x; steps = λ value w. refl; compares = λ a b. refl; ways = refl }
  where
    same : (kind : Kind) (g : PlainGraph) (x : ℕ) → Suits kind made g.format
        → start_at (greatest_of made) kind spec.root x ≡ start_at (greatest_weight g) kind spec.root x
    same Bfs g x fits = refl
    same Sssp g x fits = refl
    same Sswp g x fits = ap (λ f. start_at (greatest_of f) Sswp spec.root x) (sym fits)
    same Wcc g x fits = refl

-- and its start values and steps make the worth of walks
pub meaning_in : (made : Format) (spec : Spec)
    → IsAnalysis spec (Suits spec.kind made) (start_in made spec) (step spec.kind) (better spec.kind) (both_ways spec.kind)
meaning_in made spec = go spec.kind
  where
    go : (kind : Kind) → IsAnalysis (record { kind = kind; root = spec.root }) (Suits kind made) (start_at (greatest_of made) kind spec.root) (step kind) (better kind) (both_ways kind)
    go Bfs = bfs_meaning (greatest_of made) spec.root made
    go Sssp = sssp_meaning (greatest_of made) spec.root made
    go Sswp = sswp_meaning spec.root made
    go Wcc = wcc_meaning (greatest_of made) spec.root made

-- a format suits itself
pub suits_itself : (kind : Kind) (format : Format) → Suits kind format format
suits_itself Bfs format = tt
suits_itself Sssp format = tt
suits_itself Sswp format = refl
suits_itself Wcc format = tt

-- the laws of an analysis on a graph
pub laws_of : (g : PlainGraph) (spec : Spec) → IsMonotone (start g spec) (step spec.kind) (better spec.kind)
laws_of g spec = laws_in g.format spec

-- what an analysis means on a graph
pub meaning_of : (g : PlainGraph) (spec : Spec)
    → IsAnalysis spec (Suits spec.kind g.format) (start g spec) (step spec.kind) (better spec.kind) (both_ways spec.kind)
meaning_of g spec = meaning_in g.format spec
