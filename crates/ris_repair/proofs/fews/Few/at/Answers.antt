-- The vertex and the change of a number make the pair of it.
use Rattle.std.proofs.Common.{ℕ, List, length, arith, sym, ap, ◌∙◌}
use Rattle.std.specs.List.{slice_get}
use Rattle.ris_repair.specs.declared.stores.Change.{Change}
use Rattle.ris_repair.proofs.FewLemmas.{length-pairs, pair-at}
use Rattle.ris_repair.proofs.fews.Few.at.Goals as goal

pub index-requires : goal.index-requires
index-requires c =
    let long = length-pairs c.self.inside.vertices.items c.self.inside.changes.items c.self.invariant.size in
    let view = ap (λ (l : List (ℕ × Change)). length l) c.self.view_is in
    omega arith

pub index-requires-2 : goal.index-requires-2
index-requires-2 c =
    let long = length-pairs c.self.inside.vertices.items c.self.inside.changes.items c.self.invariant.size in
    let view = ap (λ (l : List (ℕ × Change)). length l) c.self.view_is in
    omega arith

pub returns : goal.returns
returns c =
    let vs = c.self.inside.vertices.items in
    let cs = c.self.inside.changes.items in
    let long = length-pairs vs cs c.self.invariant.size in
    let view = ap (λ (l : List (ℕ × Change)). length l) c.self.view_is in
    ap (λ (l : List (ℕ × Change)). slice_get l c.args.number) (sym c.self.view_is)
    ∙ pair-at vs cs c.args.number c.index.result.now c.index-2.result.now c.self.invariant.size (omega arith) c.index.ensures c.index-2.ensures
