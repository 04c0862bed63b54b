-- The table of the analyses: where walks start, with which value, and what one more triple makes of a value.
use Rattle.std.specs.Prelude.{ℕ, ◌+◌, Bool, ◌==◌, nat_lt, if◌then◌else◌, min, Option, Some, None}
use Rattle.ris_base.specs.Graph.{greatest_weight}
use Rattle.ris_base.specs.declared.graphs.PlainGraph.{PlainGraph}
use Rattle.ris_base.specs.declared.analyses.Kind.{Kind}
use Rattle.ris_base.specs.declared.analyses.Kind.TheVariants.{Bfs, Sssp, Sswp, Wcc}
use Rattle.ris_base.specs.declared.analyses.Spec.{Spec}

-- the value with which an analysis of this kind and root starts at x, where weights go up to the greatest one
abbrev pub start_at : ℕ → Kind → ℕ → ℕ → Option ℕ
start_at greatest Bfs root x = if x == root then Some 0 else None
start_at greatest Sssp root x = if x == root then Some 0 else None
start_at greatest Sswp root x = if x == root then Some (greatest + 1) else None
start_at greatest Wcc root x = Some x

-- the start value of x in an analysis of the graph, where it has one
abbrev pub start : PlainGraph → Spec → ℕ → Option ℕ
start g spec x = start_at (greatest_weight g) spec.kind spec.root x

-- what one more triple of weight w makes of a value
abbrev pub step : Kind → ℕ → ℕ → ℕ
step Bfs value w = value + 1
step Sssp value w = value + w
step Sswp value w = min value w
step Wcc value w = value

-- whether a is better than b
abbrev pub better : Kind → ℕ → ℕ → Bool
better Bfs a b = nat_lt a b
better Sssp a b = nat_lt a b
better Sswp a b = nat_lt b a
better Wcc a b = nat_lt a b
