-- The laws of an analysis, and what ties its start, step and comparison to the definitions.
use Rattle.std.specs.Prelude.{◌≡◌, ℕ, ◌+◌, ◌^◌, ◌<◌, ◌≤◌, Bool, true, false, ◌↔◌, List, [], ◌∷◌, Option, Some, IsSome, ⊤}
use Rattle.ris_base.specs.Analysis
use Rattle.ris_base.specs.Limits.{vertex_limit, greatest_of}
use Rattle.ris_base.specs.Walk.{Walk, IsFirst, IsBetter, worth, both_ways}
use Rattle.ris_base.specs.declared.graphs.Format.{Format}
use Rattle.ris_base.specs.declared.graphs.PlainGraph.{PlainGraph}
use Rattle.ris_base.specs.declared.graphs.Triple.{Triple}
use Rattle.ris_base.specs.declared.analyses.Kind.{Kind}
use Rattle.ris_base.specs.declared.analyses.Kind.TheVariants.{Bfs, Sssp, Sswp, Wcc}
use Rattle.ris_base.specs.declared.analyses.Spec.{Spec}

-- the value that steps along triples make of a value
abbrev pub along : (ℕ → ℕ → ℕ) → ℕ → List Triple → ℕ
along step c [] = c
along step c (t ∷ rest) = along step (step c t.weight) rest

-- the comparison is a strict total order, a step keeps it and never makes a value better, and values stay small
pub record IsMonotone (start : ℕ → Option ℕ) (step : ℕ → ℕ → ℕ) (better : ℕ → ℕ → Bool) : Type 0 where
  pub irreflexive : (a : ℕ) → better a a ≡ false
  pub transitive : (a b c : ℕ) → better a b ≡ true → better b c ≡ true → better a c ≡ true
  pub total : (a b : ℕ) → better a b ≡ false → better b a ≡ false → a ≡ b
  pub monotone : (a b w : ℕ) → better a b ≡ false → better (step a w) (step b w) ≡ false
  pub never_better : (value w : ℕ) → better (step value w) value ≡ false
  pub start_small : (x c : ℕ) → x < vertex_limit → start x ≡ Some c → c < 2 ^ 37
  pub step_small : (value w : ℕ) → step value w ≤ value + w + 1

-- the start values, the step, the comparison and the ways are those of the table of the analyses, on each graph whose format suits
pub record IsOfTable (spec : Spec) (suits : Format → Type 0) (start : ℕ → Option ℕ) (step : ℕ → ℕ → ℕ) (better : ℕ → ℕ → Bool) (both : Bool) : Type 0 where
  pub starts : (g : PlainGraph) (x : ℕ) → suits g.format → start x ≡ Analysis.start g spec x
  pub steps : (value w : ℕ) → step value w ≡ Analysis.step spec.kind value w
  pub compares : (a b : ℕ) → better a b ≡ Analysis.better spec.kind a b
  pub ways : both ≡ both_ways spec.kind

-- the start values of an analysis that is made for graphs of a format
abbrev pub start_in : Format → Spec → ℕ → Option ℕ
start_in made spec x = Analysis.start_at (greatest_of made) spec.kind spec.root x

-- the formats of the graphs for which an analysis of this kind means what it says: all, or for widest paths, whose start value
-- hangs on the greatest weight, the one for which it is made
abbrev pub Suits : Kind → Format → Format → Type 0
Suits Bfs made format = ⊤
Suits Sssp made format = ⊤
Suits Sswp made format = format ≡ made
Suits Wcc made format = ⊤

-- walks begin where there is a start value, their worth in a graph whose format suits is what steps make of it, and the
-- comparison is the analysis's
pub record IsAnalysis (spec : Spec) (suits : Format → Type 0) (start : ℕ → Option ℕ) (step : ℕ → ℕ → ℕ) (better : ℕ → ℕ → Bool) (both : Bool) : Type 0 where
  pub begins : (x : ℕ) → IsFirst spec x ↔ IsSome (start x)
  pub reaches : (g : PlainGraph) (w : Walk) (c : ℕ) → suits g.format → start w.first ≡ Some c → worth g spec.kind w ≡ along step c w.triples
  pub compares : (a b : ℕ) → (better a b ≡ true) ↔ IsBetter spec.kind a b
  pub ways : both ≡ both_ways spec.kind
