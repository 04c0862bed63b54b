use Rattle.std.proofs.Common.{ℕ, List, sym, subst}
use Rattle.ris_base.specs.Falling.{AreFallen}
use Rattle.ris_base.specs.Graph.{EachOnce}
use Rattle.ris_forest.specs.Cells.{forest_of}
use Rattle.ris_forest.specs.Growing.{IsClosed}
use Rattle.ris_fall.specs.Gathering.{Gathers, HangsBelowOne}
use Rattle.ris_fall.proofs.FallenLemmas.{AreFallen-gathered}
use Rattle.ris_fall.proofs.GatheringLemmas.{IsClosed-none}
use Rattle.ris_fall.proofs.falling.fallen.Goals as goal

pub add_subtrees-requires : goal.add_subtrees-requires
add_subtrees-requires g c = let F = forest_of c.args.forest.now.cells in subst (IsClosed F) (sym c.new-found.ensures) (IsClosed-none F)

pub add_gone-requires : goal.add_gone-requires
add_gone-requires g c = c.in_ok-add_subtrees.ensures.closed

pub returns : goal.returns
returns g c p parts is right =
    let F = forest_of c.args.forest.now.cells in
    let b = c.add_subtrees.new.found in
    let d = c.add_new.new.found in
    subst (AreFallen p parts F) (sym c.into_vertices.ensures.vertices)
    (AreFallen-gathered p parts (g.A.Monotone.spec c.args.forest.now.algo) F c.args.net.now is right b c.add_gone.new.found d
    (subst (λ (l : List ℕ). Gathers F (HangsBelowOne F c.args.net.now.dropped) l b) c.new-found.ensures c.in_ok-add_subtrees.ensures)
    c.in_ok-add_gone.ensures c.in_ok-add_new.ensures (subst EachOnce c.into_vertices.ensures.vertices c.into_vertices.ensures.once))
