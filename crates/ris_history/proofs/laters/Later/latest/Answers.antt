use Rattle.std.proofs.Common.{◌≡◌, ◌-◌, suc, get_or, arith, rules, sym, subst, true, false, ◌∙◌, ap}
use Rattle.std.specs.Prelude.{List, nat_le}
use Rattle.std.specs.List.Sorted.{IsNonDecreasingBy, IsPartitionPoint}
use Rattle.std.proofs.lemmas.List.Sorted.{IsPartitionPoint-from_clause, IsPartitionedBy-leb}
use Rattle.ris_history.specs.Chains.{HeldView, latest}
use Rattle.ris_history.proofs.ChainLemmas.{latest-none, latest-some}
use Rattle.ris_history.proofs.laters.Later.latest.Goals as goal

pub returns-then-count-eq0 : goal.returns-then-count-eq0
returns-then-count-eq0 c first =
    let later = c.deref.result.now.items in
    let v = c.args.v in
    let same : later ≡ c.args.self.now = (let d = c.deref.ensures in let i = c.in-Some.is in let w = c.self.view_is in cc) in
    let sorted = subst (IsNonDecreasingBy (λ (held : HeldView). held.place)) (sym same) c.requires in
    let point = IsPartitionPoint-from_clause (λ held. nat_le held.place v) later c.partition_point-count.result c.partition_point-count.ensures.partitioned
    (IsPartitionedBy-leb (λ (held : HeldView). held.place) later v sorted) (λ a r f k. search rules) in
    sym (latest-none v first later (rw c.if-count-eq0.true at point)) ∙ ap (λ (xs : List HeldView). latest (record { first = first; later = xs }) v) same

pub returns-else-count-eq0 : goal.returns-else-count-eq0
returns-else-count-eq0 c first =
    let later = c.deref.result.now.items in
    let v = c.args.v in
    let n = c.partition_point-count.result in
    let same : later ≡ c.args.self.now = (let d = c.deref.ensures in let i = c.in-Some.is in let w = c.self.view_is in cc) in
    let sorted = subst (IsNonDecreasingBy (λ (held : HeldView). held.place)) (sym same) c.requires in
    let point = IsPartitionPoint-from_clause (λ held. nat_le held.place v) later n c.partition_point-count.ensures.partitioned
    (IsPartitionedBy-leb (λ (held : HeldView). held.place) later v sorted) (λ a r f k. search rules) in
    let some : n ≡ suc (n - 1) = (let h = c.if-count-eq0.false in omega arith) in
    let bound = c.partition_point-count.ensures.bound in
    let again : c.deref-else-count-eq0.result.now.items ≡ later = (let d = c.deref.ensures in let e = c.deref-else-count-eq0.ensures in cc) in
    c.index.ensures ∙ ap (λ xs. get_or xs (n - 1) c.index.result.now) again ∙ sym (latest-some v first later (n - 1) c.index.result.now
    (subst (λ k. IsPartitionPoint (λ held. nat_le held.place v ≡ true) (λ held. nat_le held.place v ≡ false) later k) some point) (omega arith))
    ∙ ap (λ (xs : List HeldView). latest (record { first = first; later = xs }) v) same
