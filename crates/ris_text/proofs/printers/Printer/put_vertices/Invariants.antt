use Rattle.std.proofs.Common.{ℕ, List, drop}
use Rattle.ris_text.specs.Spelled.{AddsVertices}
use Rattle.ris_text.proofs.printers.Printer.put_vertices.Given as goal

-- what adds the vertices that are left has added all
abbrev pub invariant-loop-k : goal.invariant-loop-k
invariant-loop-k l = (final : List ℕ) → AddsVertices (drop l.k l.vertices) l.self final → AddsVertices l.vertices l.initial.self final
