use Rattle.std.proofs.Common.{◌<◌, ◌≤◌, length, arith, sym, subst}
use Rattle.ris_base.specs.Forest.{IsForest}
use Rattle.ris_base.specs.Limits.{vertex_limit}
use Rattle.ris_analysis.specs.AnyForest.{spec_of, suits_of, cells_of, forest_in, HasRoomOne, IsStarted}
use Rattle.ris_analysis.proofs.PairLemmas.{All-seconds, EachPair-length, EachPair-map_right, EachPair-weaker, map-pairs}
use Rattle.ris_analysis.proofs.analyses.Analyses.start.Goals as goal

pub first_forests-requires-clause-room : goal.first_forests-requires-clause-room
first_forests-requires-clause-room g c κs within = c.size-size.ensures.below

pub invariant_of-result : goal.invariant_of-result
invariant_of-result g c =
    let R = IsStarted c.args.graph.now c.size-size.result in
    let same = EachPair-length R c.args.specs.now c.in_ok-forests.forests.items c.in_ok-forests.ensures.started in
    let some = c.requires.some in
    let few = c.requires.few in
    record {
      some = omega arith;
      few = omega arith;
      within = All-seconds R (λ one. length (cells_of one) ≤ vertex_limit) (λ spec one s. subst (λ n. n ≤ vertex_limit) (sym s.size) c.size-size.ensures.few)
          c.args.specs.now c.in_ok-forests.forests.items c.in_ok-forests.ensures.started;
    }

pub returns-clause-specs : goal.returns-clause-specs
returns-clause-specs g c =
    map-pairs spec_of (IsStarted c.args.graph.now c.size-size.result) (λ spec one s. s.spec) c.args.specs.now c.in_ok-forests.forests.items c.in_ok-forests.ensures.started

pub returns-clause-suits : goal.returns-clause-suits
returns-clause-suits g c =
    All-seconds (IsStarted c.args.graph.now c.size-size.result) (λ one. suits_of one c.args.graph.now.format) (λ spec one s. s.suits)
    c.args.specs.now c.in_ok-forests.forests.items c.in_ok-forests.ensures.started

pub returns-clause-right : goal.returns-clause-right
returns-clause-right g c = λ p of.
    EachPair-map_right forest_in (IsForest p) c.args.specs.now c.in_ok-forests.forests.items
    (EachPair-weaker (IsStarted c.args.graph.now c.size-size.result) (λ spec one. IsForest p spec (forest_in one)) (λ spec one s. s.right p of)
    c.args.specs.now c.in_ok-forests.forests.items c.in_ok-forests.ensures.started)

pub returns-clause-room : goal.returns-clause-room
returns-clause-room g c =
    All-seconds (IsStarted c.args.graph.now c.size-size.result) (HasRoomOne c.args.graph.now)
    (λ spec one s x there. subst (λ n. x < n) (sym s.size) (c.size-size.ensures.below x there))
    c.args.specs.now c.in_ok-forests.forests.items c.in_ok-forests.ensures.started
