use Rattle.std.proofs.Common.{◌≡◌, ◌<◌, ◌+◌, ◌++◌, ◌∷◌, [], ◌∙◌, List, length, take, arith, sym, subst, ap}
use Rattle.std.proofs.lemmas.List.{take_more}
use Rattle.std.proofs.lemmas.Option.{get_or_from_slice_get}
use Rattle.ris_forest.specs.Cells.{forest_of}
use Rattle.ris_graph.specs.declared.nets.NetTriple.{NetTriple}
use Rattle.ris_fall.specs.Gathering.{Gathers, HangsByGone, HangsBelowGone}
use Rattle.ris_fall.proofs.GatheringLemmas.{Gathers-none, Gathers-both, HangsBelowGone-none, HangsBelowGone-more}
use Rattle.ris_fall.proofs.falling.add_gone.Goals as goal

pub loop-k-init : goal.loop-k-init
loop-k-init g c =
    let F = forest_of c.args.forest.now.cells in
    Gathers-none F (HangsBelowGone F []) c.args.found.now c.requires (HangsBelowGone-none F)

pub add_ends-requires : goal.add_ends-requires
add_ends-requires g c = c.loop-k.invariant.closed

pub loop-k-preserved : goal.loop-k-preserved
loop-k-preserved g c =
    let F = forest_of c.args.forest.now.cells in
    let ts = c.args.triples.now in
    let k = c.loop-k.k in
    let t = c.at.result.now in
    let within : k < length ts = omega arith in
    let next : take (k + 1) ts ≡ take k ts ++ t ∷ [] =
    take_more ts k t within ∙ ap (λ (n : NetTriple). take k ts ++ n ∷ []) (get_or_from_slice_get ts k t t c.at.ensures) in
    subst (λ (l : List NetTriple). Gathers F (HangsBelowGone F l) c.args.found.now c.add_ends.new.found) (sym next)
    (Gathers-both F (HangsBelowGone F (take k ts)) (HangsByGone F t) (HangsBelowGone F (take k ts ++ t ∷ [])) c.args.found.now c.loop-k.found c.add_ends.new.found
    (HangsBelowGone-more F (take k ts) t) c.loop-k.invariant c.in_ok-add_ends.ensures)
