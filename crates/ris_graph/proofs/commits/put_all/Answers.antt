use Rattle.std.proofs.Common.{◌≡◌, ◌<◌, ◌∙◌, length, get_or, arith}
use Rattle.std.proofs.lemmas.Option.{gets}
use Rattle.ris_graph.specs.GraphView.{row_at}
use Rattle.ris_graph.specs.Putting.{source_of, target_of}
use Rattle.ris_graph.specs.Tables.{row_of}
use Rattle.ris_graph.proofs.PutLemmas.{ArePut-next, HasPutRoom-next}
use Rattle.ris_graph.proofs.commits.put_all.Goals as goal

pub put-requires-clause-outs : goal.put-requires-clause-outs
put-requires-clause-outs g c =
    let ts = c.args.triples.now in
    let t = c.at.result.now in
    let lt : c.loop-k.k < length c.args.triples.now = (let test = c.loop-k-test.true in omega arith) in
    let read : get_or c.args.triples.now c.loop-k.k c.at.result.now ≡ c.at.result.now = grind (arith, gets) in
    HasPutRoom-next source_of target_of c.args.forward (row_of c.args.outs.now) (row_of c.loop-k.outs) ts c.loop-k.k t c.requires.outs lt read c.loop-k.invariant.outs

pub put-requires-clause-ins : goal.put-requires-clause-ins
put-requires-clause-ins g c =
    let ts = c.args.triples.now in
    let t = c.at.result.now in
    let lt : c.loop-k.k < length c.args.triples.now = (let test = c.loop-k-test.true in omega arith) in
    let read : get_or c.args.triples.now c.loop-k.k c.at.result.now ≡ c.at.result.now = grind (arith, gets) in
    HasPutRoom-next target_of source_of c.args.forward (row_at c.args.ins.now) (row_at c.loop-k.ins) ts c.loop-k.k t c.requires.ins lt read c.loop-k.invariant.ins

pub loop-k-preserved : goal.loop-k-preserved
loop-k-preserved g c =
    let ts = c.args.triples.now in
    let t = c.at.result.now in
    let lt : c.loop-k.k < length c.args.triples.now = (let test = c.loop-k-test.true in omega arith) in
    let read : get_or c.args.triples.now c.loop-k.k c.at.result.now ≡ c.at.result.now = grind (arith, gets) in
    record {
      outs = ArePut-next source_of target_of c.args.forward (row_of c.args.outs.now) (row_of c.loop-k.outs) (row_of c.put.new.outs) ts c.loop-k.k t c.requires.outs lt read c.loop-k.invariant.outs c.put.ensures.outs;
      ins = ArePut-next target_of source_of c.args.forward (row_at c.args.ins.now) (row_at c.loop-k.ins) (row_at c.put.new.ins) ts c.loop-k.k t c.requires.ins lt read c.loop-k.invariant.ins c.put.ensures.ins;
      stripes = c.put.ensures.stripes ∙ c.loop-k.invariant.stripes;
      has_rows = λ u has. c.put.ensures.has_rows u (c.loop-k.invariant.has_rows u has);
      places = c.put.ensures.places ∙ c.loop-k.invariant.places;
    }
