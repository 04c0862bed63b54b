use Rattle.std.proofs.Common.{◌≡◌, ◌<◌, ◌≤◌, ◌+◌, true, false, length, get_or, arith, rules, nat_lt, sym, subst}
use Rattle.std.specs.List.Sorted.{IsPartitionPoint}
use Rattle.std.proofs.lemmas.Bool.{ltb-true, ltb-false}
use Rattle.std.proofs.lemmas.List.{get_or-drop, get_or-take, length-drop, length-take-le}
use Rattle.std.proofs.lemmas.List.Sorted.{IsPartitionPoint-from_clause, IsPartitionedBy-ltb}
use Rattle.ris_graph.specs.declared.stripes.StripeJob.{StripeJob}
use Rattle.ris_graph.proofs.ListedJobs.{IsNonDecreasing-ascending}
use Rattle.ris_graph.proofs.jobs.place.Goals as goal
use Rattle.ris_graph.proofs.jobs.place.Goals.{After-partition_point}

point : (c : After-partition_point)
    → IsPartitionPoint (λ (j : StripeJob). nat_lt j.session c.args.session ≡ true) (λ (j : StripeJob). nat_lt j.session c.args.session ≡ false) c.args.jobs.now c.partition_point.result
point c =
    let jobs = c.args.jobs.now in
    IsPartitionPoint-from_clause (λ (j : StripeJob). nat_lt j.session c.args.session) jobs c.partition_point.result c.partition_point.ensures.partitioned
    (IsPartitionedBy-ltb (λ (j : StripeJob). j.session) jobs c.args.session (IsNonDecreasing-ascending jobs c.requires)) (λ a r f k. search rules)

pub returns-clause-lesser : goal.returns-clause-lesser
returns-clause-lesser c i d lt =
    let jobs = c.args.jobs.now in
    let at = c.partition_point.result in
    let within : c.partition_point.result ≤ length c.args.jobs.now = search rules in
    let size = length-take-le at jobs within in
    let before : i < c.partition_point.result = omega arith in
    subst (λ (j : StripeJob). j.session < c.args.session) (sym (get_or-take at jobs i d before)) (ltb-true (get_or jobs i d).session c.args.session ((point c).0 i d (omega arith) before))

pub returns-clause-greater : goal.returns-clause-greater
returns-clause-greater c i d lt =
    let jobs = c.args.jobs.now in
    let at = c.partition_point.result in
    let size = length-drop at jobs in
    let past : c.partition_point.result + i < length c.args.jobs.now = omega arith in
    subst (λ (j : StripeJob). c.args.session ≤ j.session) (sym (get_or-drop at jobs i d)) (ltb-false (get_or jobs (at + i) d).session c.args.session ((point c).1 (at + i) d (omega arith) past))
