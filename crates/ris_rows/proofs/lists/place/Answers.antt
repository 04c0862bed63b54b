use Rattle.std.proofs.Common.{rules}
use Rattle.std.proofs.lemmas.List.Sorted.{IsPartitionPoint-from_clause}
use Rattle.ris_rows.specs.Neighbours.{is_before}
use Rattle.ris_rows.proofs.Positions.{IsPartitionedBy-is_before, place_of-from_point}
use Rattle.ris_rows.proofs.lists.place.Goals as goal

pub returns-clause-value : goal.returns-clause-value
returns-clause-value c =
    let ns = c.args.items.now in
    let point = IsPartitionPoint-from_clause (λ n. is_before n c.args.end c.args.weight) ns c.partition_point.result c.partition_point.ensures.partitioned (IsPartitionedBy-is_before ns c.args.end c.args.weight c.requires) (λ a r f k. search rules) in
    place_of-from_point ns c.args.end c.args.weight c.partition_point.result point (search rules)
