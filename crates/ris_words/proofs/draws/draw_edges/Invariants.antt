use Rattle.std.proofs.Common.{◌≡◌, ◌-◌, ◌++◌}
use Rattle.ris_words.specs.Made.{draw_edges}
use Rattle.ris_words.proofs.draws.draw_edges.Given as goal

-- the edges so far, with those that are still to be drawn
abbrev pub invariant-loop : goal.invariant-loop
invariant-loop l = record {
  edges : l.edges ++ (draw_edges (l.count - l.counter) l.random).0 ≡ (draw_edges l.count l.initial.random).0;
  rest : (draw_edges (l.count - l.counter) l.random).1 ≡ (draw_edges l.count l.initial.random).1;
}
