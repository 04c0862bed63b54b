use Rattle.std.proofs.Common.{◌≡◌, ◌<◌, ◌-◌, ◌^◌, ◌∙◌, length, map, ap, arith}
use Rattle.std.specs.List.{All, range_with_len}
use Rattle.std.proofs.lemmas.Slice.Zip.{AllZip-map}
use Rattle.rayon.specs.Numbers.{nat_range}
use Rattle.rayon.proofs.ToStd.{nat_range-All}
use Rattle.ris_four.specs.Neighbours.{AreWithin}
use Rattle.ris_four.specs.Rounds.{IsBelow, next_value}
use Rattle.ris_four.proofs.rounds.next_values.Goals as goal

pub collect-requires-clause-ready : goal.collect-requires-clause-ready
collect-requires-clause-ready g c κs within =
    let ends = c.into_par_iter.ensures in
    let lists = c.requires.lists in
    let n = length c.args.values.now in
    let inside = nat_range-All (λ i. (i < n) × ((i < length c.args.lists.now) × (All (IsBelow (2 ^ 59)) c.args.values.now × AreWithin n c.args.lists.now))) 0 n
    (λ i low high. (high, (omega arith, (c.requires.values, c.requires.neighbours)))) in
    rw (c.map.ensures.base, c.map.ensures.f, c.with_min_len.ensures.base, ends.0, ends.1) (λ k d lt. (inside k d lt, λ y p. tt))

pub returns : goal.returns
returns g c =
    let ends = c.into_par_iter.ensures in
    let n = length c.args.values.now in
    let whole : n - 0 ≡ n = omega arith in
    let next = next_value (g.A.Monotone.step_of c.args.algo.now) (g.A.Monotone.better_of c.args.algo.now) c.args.lists.now c.args.values.now in
    let h = c.in_ok-next.ensures in
    let chain = rw (c.map.ensures.base, c.map.ensures.f, c.with_min_len.ensures.base) at h.1 in
    let places = chain.1 ∙ (λ i. nat_range (ends.0 i) (ends.1 i)) ∙ ap (range_with_len 0) whole in
    h.2 ∙ AllZip-map next chain.0 h.0 chain.2 ∙ ap (map next) places
