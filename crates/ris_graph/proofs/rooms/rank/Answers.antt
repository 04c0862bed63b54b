use Rattle.std.proofs.Common.{◌≡◌, ◌≤◌, ◌+◌, true, false, get_or, arith, rules, nat_lt, inl, inr}
use Rattle.std.specs.List.Sorted.{IsPartitionPoint}
use Rattle.std.proofs.lemmas.Bool.{ltb-true, cases_lt}
use Rattle.std.proofs.lemmas.List.Sorted.{IsPartitionPoint-from_clause, IsPartitionedBy-ltb}
use Rattle.ris_graph.proofs.RoomLemmas.{count_by-behind}
use Rattle.ris_graph.proofs.rooms.rank.Goals as goal
use Rattle.ris_graph.proofs.rooms.rank.Goals.{After-partition_point-first}

point : (c : After-partition_point-first)
    → IsPartitionPoint (λ y. nat_lt y (get_or c.args.ends.now c.args.k 0) ≡ true) (λ y. nat_lt y (get_or c.args.ends.now c.args.k 0) ≡ false) c.args.ends.now c.partition_point-first.result
point c =
    let xs = c.args.ends.now in
    let end = get_or c.args.ends.now c.args.k 0 in
    IsPartitionPoint-from_clause (λ y. nat_lt y end) xs c.partition_point-first.result c.partition_point-first.ensures.partitioned (IsPartitionedBy-ltb (λ y. y) xs end c.requires.sorted) (λ a r f k. search rules)

first-le : (c : After-partition_point-first) → c.partition_point-first.result ≤ c.args.k
first-le c =
    elim (cases_lt c.args.k c.partition_point-first.result) [
      | inl lt ↦ (let end = get_or c.args.ends.now c.args.k 0 in
          let low = ltb-true end end ((point c).0 c.args.k 0 (omega arith) lt) in
          absurd (omega arith))
      | inr le ↦ le
    ]

pub overflow_sub-result : goal.overflow_sub-result
overflow_sub-result c = let le = first-le c in omega arith

pub returns : goal.returns
returns c =
    let le = first-le c in
    let place = c.requires.place in
    count_by-behind c.args.ends.now (get_or c.args.ends.now c.args.k 0) c.partition_point-first.result (c.args.k + 1) (omega arith) (omega arith)
    (λ i d lt. ltb-true (get_or c.args.ends.now i d) (get_or c.args.ends.now c.args.k 0) ((point c).0 i d (omega arith) lt))
