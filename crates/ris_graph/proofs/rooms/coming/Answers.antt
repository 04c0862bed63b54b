use Rattle.std.proofs.Common.{◌≡◌, ◌<◌, ◌≤◌, ◌==◌, ◌&&◌, ℕ, List, length, get_or, count_by, cond, arith, ap, ◌∙◌}
use Rattle.std.proofs.lemmas.List.{take_all}
use Rattle.std.proofs.lemmas.List.Sorted.{IsNonDecreasingBy-from_sort, sum_by-IsPermutation}
use Rattle.std.proofs.lemmas.Option.{gets}
use Rattle.ris_graph.specs.Nets.{comes}
use Rattle.ris_graph.specs.Tables.{end_of}
use Rattle.ris_graph.specs.declared.nets.NetTriple.{NetTriple}
use Rattle.ris_graph.proofs.RoomLemmas.{count_by-end}
use Rattle.ris_graph.proofs.rooms.coming.Goals as goal

pub loop-k-preserved : goal.loop-k-preserved
loop-k-preserved c x =
    let lt : c.loop-k.k < length c.args.triples.now = (let test = c.loop-k-test.true in omega arith) in
    let read : get_or c.args.triples.now c.loop-k.k c.at.result.now ≡ c.at.result.now = grind (arith, gets) in
    count_by-end c.args.out c.args.triples.now c.loop-k.k c.at.result.now c.loop-k.ends.items c.push_end.new.ends.items x lt read c.in_ok-push_end.ensures (c.loop-k.invariant x)

pub returns-clause-sorted : goal.returns-clause-sorted
returns-clause-sorted c = IsNonDecreasingBy-from_sort (λ y. y) c.sort_unstable.new.self.items c.sort_unstable.ensures.sorted

pub returns-clause-counts : goal.returns-clause-counts
returns-clause-counts c x =
    let past : length c.args.triples.now ≤ c.loop-k.k = (let test = c.loop-k-test.false in omega arith) in
    sum_by-IsPermutation (λ (y : ℕ). cond (y == x) 1 0) c.loop-k.ends.items c.sort_unstable.new.self.items c.sort_unstable.ensures.permutation ∙ c.loop-k.invariant x
    ∙ ap (λ (l : List NetTriple). count_by (λ t. (end_of c.args.out t == x) && comes t) l) (take_all c.loop-k.k c.args.triples.now past)
