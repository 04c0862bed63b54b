use Rattle.std.proofs.Common.{arith, ◌∙◌, take, get_or}
use Rattle.std.proofs.lemmas.List.{length-set, take_more}
use Rattle.ris_four.proofs.TableLemmas.{get_or-number_bound, AreFirst-push}
use Rattle.ris_four.proofs.tables.first_values.Goals as goal

pub index_mut-requires : goal.index_mut-requires
index_mut-requires g c =
    let low = get_or-number_bound c.args.vertices.now c.loop-x.x-index 0 c.loop-x-test.true in
    let len = c.loop-x.invariant.0 in
    omega arith

pub loop-x-preserved : goal.loop-x-preserved
loop-x-preserved g c =
    let vertices = c.args.vertices.now in
    let values = c.loop-x.values.items in
    let i = c.loop-x.x-index in
    let x = get_or vertices i 0 in
    let start = g.A.Monotone.start_of c.args.algo.now in
    let low = get_or-number_bound vertices i 0 c.loop-x-test.true in
    let len = c.loop-x.invariant.0 in
    let more = AreFirst-push start (take i vertices) values x (omega arith) c.loop-x.invariant.1 in (
      length-set values x c.first_value.result ∙ len,
      rw (take_more vertices i 0 c.loop-x-test.true, c.first_value.ensures) more,
    )
