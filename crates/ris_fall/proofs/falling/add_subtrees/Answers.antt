use Rattle.std.proofs.Common.{◌≡◌, ◌<◌, ◌+◌, ◌++◌, ◌∷◌, [], ◌∙◌, ℕ, List, length, take, arith, sym, subst, ap}
use Rattle.std.proofs.lemmas.List.{take_more}
use Rattle.std.proofs.lemmas.Option.{get_or_from_slice_get}
use Rattle.ris_forest.specs.Cells.{forest_of, IsBelow}
use Rattle.ris_fall.specs.Gathering.{Gathers, HangsBelowOne}
use Rattle.ris_fall.proofs.GatheringLemmas.{Gathers-none, Gathers-both, Gathers-below, HangsBelowOne-none, HangsBelowOne-more}
use Rattle.ris_fall.proofs.falling.add_subtrees.Goals as goal

pub loop-k-init : goal.loop-k-init
loop-k-init g c =
    let F = forest_of c.args.forest.now.cells in
    Gathers-none F (HangsBelowOne F []) c.args.found.now c.requires (HangsBelowOne-none F)

pub loop-k-preserved : goal.loop-k-preserved
loop-k-preserved g c =
    let F = forest_of c.args.forest.now.cells in
    let xs = c.args.vertices.now in
    let k = c.loop-k.k in
    let x = c.at.result.now in
    let within : k < length xs = omega arith in
    let next : take (k + 1) xs ≡ take k xs ++ x ∷ [] =
    take_more xs k x within ∙ ap (λ y. take k xs ++ y ∷ []) (get_or_from_slice_get xs k x x c.at.ensures) in
    subst (λ (l : List ℕ). Gathers F (HangsBelowOne F l) c.args.found.now c.add_below.new.found) (sym next)
    (Gathers-both F (HangsBelowOne F (take k xs)) (IsBelow F x) (HangsBelowOne F (take k xs ++ x ∷ [])) c.args.found.now c.loop-k.found c.add_below.new.found
    (HangsBelowOne-more F (take k xs) x) c.loop-k.invariant
    (Gathers-below F x c.loop-k.found c.add_below.new.found (c.in_ok-add_below.ensures.ok c.loop-k.invariant.closed)))
