use Rattle.std.proofs.Common.{◌≡◌, length, ap, arith, sym, ◌∙◌, subst}
use Rattle.std.specs.List.{All}
use Rattle.ris_base.specs.Value.{number_bound, AreValues}
use Rattle.ris_four.specs.Neighbours.{AreWithin, IsWithin}
use Rattle.ris_four.proofs.ValueLemmas.{IsSetUp, set_up, rounds_small, rounds_are, All-IsWithin, AreListed}
use Rattle.ris_four.proofs.plain.values_by.Goals as goal

pub neighbour_lists-requires : goal.neighbour_lists-requires
neighbour_lists-requires g c =
    let graph = c.args.graph.now in
    let vertices = c.deref.ensures.value ∙ c.in_ok-vertices.ensures in
    let triples = c.deref-2.ensures.value ∙ c.in_ok-triples.ensures in
    let bound = c.in_ok-first.ensures.len ∙ ap number_bound vertices in
    let count : c.len.result ≡ number_bound graph.vertices = omega (arith, c.in_ok-first.first.ok) in
    subst (λ n. All (IsWithin n) c.deref-2.result.now) (sym count)
    (subst (All (IsWithin (number_bound graph.vertices))) (sym triples) (All-IsWithin graph c.requires.proper))

pub values_after-requires-clause-lists : goal.values_after-requires-clause-lists
values_after-requires-clause-lists g c κs within =
    let lists = ap length c.deref-3.ensures.value ∙ c.in_ok-lists.ensures.all in
    let count = c.len.ensures in
    omega (arith, c.in_ok-first.first.ok)

pub values_after-requires-clause-neighbours : goal.values_after-requires-clause-neighbours
values_after-requires-clause-neighbours g c κs within =
    let graph = c.args.graph.now in
    let algo = c.args.algo.now in
    let A = g.A.Monotone in
    let table = c.in_ok-first.first.items in
    let lists = c.deref-3.result.now in
    let set : IsSetUp graph (A.start_of algo) A.BOTH_WAYS table lists =
    set_up graph (A.start_of algo) A.BOTH_WAYS table lists c.deref.result.now c.deref-2.result.now c.BOTH_WAYS.result c.len.result c.in_ok-lists.lists.items
    (c.deref.ensures.value ∙ c.in_ok-vertices.ensures) (c.deref-2.ensures.value ∙ c.in_ok-triples.ensures) c.BOTH_WAYS.ensures
    (omega (arith, c.in_ok-first.first.ok)) c.deref-3.ensures.value c.in_ok-first.ensures.len c.in_ok-first.ensures.first c.in_ok-lists.ensures in
    subst (λ n. AreWithin n lists) (sym set.all) (AreListed graph A.BOTH_WAYS lists c.requires.proper set.listed)

pub values_after-requires-clause-values : goal.values_after-requires-clause-values
values_after-requires-clause-values g c κs within =
    let graph = c.args.graph.now in
    let algo = c.args.algo.now in
    let A = g.A.Monotone in
    let table = c.in_ok-first.first.items in
    let lists = c.deref-3.result.now in
    let set : IsSetUp graph (A.start_of algo) A.BOTH_WAYS table lists =
    set_up graph (A.start_of algo) A.BOTH_WAYS table lists c.deref.result.now c.deref-2.result.now c.BOTH_WAYS.result c.len.result c.in_ok-lists.lists.items
    (c.deref.ensures.value ∙ c.in_ok-vertices.ensures) (c.deref-2.ensures.value ∙ c.in_ok-triples.ensures) c.BOTH_WAYS.ensures
    (omega (arith, c.in_ok-first.first.ok)) c.deref-3.ensures.value c.in_ok-first.ensures.len c.in_ok-first.ensures.first c.in_ok-lists.ensures in
    let met = g.met.A.Monotone g.world.𝓛 g.world.𝓜 g.world.𝓡 ((λ s x. x), (λ x. x), (λ x. x), λ x. x) in
    let rounds = c.saturating_sub-rounds.ensures in
    let number = c.len-2.ensures in
    let same = ap length c.in_ok-vertices.ensures in
    λ k lt. rounds_small graph (A.spec algo) (A.suits algo) (A.start_of algo) (A.step_of algo) (A.better_of algo) A.BOTH_WAYS table lists
    c.requires.proper (met.laws algo) (met.meaning algo) c.requires.format set k (omega arith)

pub returns : goal.returns
returns g c =
    let graph = c.args.graph.now in
    let algo = c.args.algo.now in
    let A = g.A.Monotone in
    let table = c.in_ok-first.first.items in
    let lists = c.deref-3.result.now in
    let set : IsSetUp graph (A.start_of algo) A.BOTH_WAYS table lists =
    set_up graph (A.start_of algo) A.BOTH_WAYS table lists c.deref.result.now c.deref-2.result.now c.BOTH_WAYS.result c.len.result c.in_ok-lists.lists.items
    (c.deref.ensures.value ∙ c.in_ok-vertices.ensures) (c.deref-2.ensures.value ∙ c.in_ok-triples.ensures) c.BOTH_WAYS.ensures
    (omega (arith, c.in_ok-first.first.ok)) c.deref-3.ensures.value c.in_ok-first.ensures.len c.in_ok-first.ensures.first c.in_ok-lists.ensures in
    let met = g.met.A.Monotone g.world.𝓛 g.world.𝓜 g.world.𝓡 ((λ s x. x), (λ x. x), (λ x. x), λ x. x) in
    let rounds = c.saturating_sub-rounds.ensures in
    let number = c.len-2.ensures in
    let same = ap length c.in_ok-vertices.ensures in
    let are = rounds_are graph (A.spec algo) (A.suits algo) (A.start_of algo) (A.step_of algo) (A.better_of algo) A.BOTH_WAYS table lists
    c.requires.proper (met.laws algo) (met.meaning algo) c.requires.format set c.saturating_sub-rounds.result (omega arith) in
    subst (AreValues graph (A.spec algo)) (sym (c.from_vec.ensures ∙ c.in_ok-values.ensures)) are
