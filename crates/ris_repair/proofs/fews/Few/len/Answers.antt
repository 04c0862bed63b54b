-- The vertices are as many as the pairs, and they stand once.
use Rattle.std.proofs.Common.{ℕ, List, length, nat_eq, arith, sym, subst, ap}
use Rattle.std.specs.List.{IsDistinct}
use Rattle.std.specs.Map.{keys_of}
use Rattle.std.proofs.lemmas.Map.Made.{keys_of-zip}
use Rattle.ris_repair.specs.declared.stores.Change.{Change}
use Rattle.ris_repair.proofs.FewLemmas.{length-pairs}
use Rattle.ris_repair.proofs.fews.Few.len.Goals as goal

pub returns-clause-len : goal.returns-clause-len
returns-clause-len c =
    let long = length-pairs c.self.inside.vertices.items c.self.inside.changes.items c.self.invariant.size in
    let view = ap (λ (l : List (ℕ × Change)). length l) c.self.view_is in
    omega arith

pub returns-clause-once : goal.returns-clause-once
returns-clause-once c =
    subst (λ (l : List (ℕ × Change)). IsDistinct nat_eq (keys_of l)) c.self.view_is
    (subst (λ (l : List ℕ). IsDistinct nat_eq l) (sym (keys_of-zip c.self.inside.vertices.items c.self.inside.changes.items c.self.invariant.size)) c.self.invariant.once)
