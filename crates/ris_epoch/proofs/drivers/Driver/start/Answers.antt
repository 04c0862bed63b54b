use Rattle.std.proofs.Common.{[], arith, refl}
use Rattle.ris_base.specs.Falling.{start_reach}
use Rattle.ris_base.specs.Lists.{numbers_below}
use Rattle.ris_base.specs.declared.graphs.PlainGraph.{PlainGraph}
use Rattle.ris_graph.proofs.ListingLemmas.{IsRise-none}
use Rattle.ris_analysis.specs.Analyses.{forests_of}
use Rattle.ris_epoch.proofs.OpeningSteps.{below-numbers, below-of, stands-none}
use Rattle.ris_epoch.proofs.drivers.Driver.start.Goals as goal

pub returns-in_err-graph-clause-visits : goal.returns-in_err-graph-clause-visits
returns-in_err-graph-clause-visits g c =
    IsRise-none (g.M.Meter.ticks c.args.meter.now) (start_reach (record { format = c.args.format; vertices = numbers_below c.args.vertices; triples = c.args.base.now }) c.args.specs.now)

pub forests_of-requires-clause-below : goal.forests_of-requires-clause-below
forests_of-requires-clause-below g c =
    let p : PlainGraph = record { format = c.args.format; vertices = numbers_below c.args.vertices; triples = c.args.base.now } in
    below-of p c.args.vertices (below-numbers c.args.vertices) c.args.specs.now (forests_of c.in_ok-analyses.analyses) (c.in_ok-analyses.ensures.right p c.in_ok-graph.ensures)

pub invariant_of-result : goal.invariant_of-result
invariant_of-result g c =
    let p : PlainGraph = record { format = c.args.format; vertices = numbers_below c.args.vertices; triples = c.args.base.now } in
    let room = c.in_ok-replies.ensures.capacity in (
      refl,
      refl,
      omega arith,
      record {
        base = record { opening = p; specs = c.args.specs.now; start = record { sessions = c.args.sessions; forests = c.in_ok-forests.forests } };
        records = [];
        of = stands-none _ p c.args.specs.now c.requires.some_sessions c.requires.few_sessions c.in_ok-graph.ensures c.in_ok-analyses.ensures.specs c.in_ok-analyses.ensures.suits
            c.in_ok-analyses.ensures.room c.in_ok-forests.ensures (c.in_ok-analyses.ensures.right p c.in_ok-graph.ensures) c.new-2.ensures.lines;
      },
    )

pub returns-clause-stands : goal.returns-clause-stands
returns-clause-stands g c =
    let p : PlainGraph = record { format = c.args.format; vertices = numbers_below c.args.vertices; triples = c.args.base.now } in
    stands-none _ p c.args.specs.now c.requires.some_sessions c.requires.few_sessions c.in_ok-graph.ensures c.in_ok-analyses.ensures.specs c.in_ok-analyses.ensures.suits
    c.in_ok-analyses.ensures.room c.in_ok-forests.ensures (c.in_ok-analyses.ensures.right p c.in_ok-graph.ensures) c.new-2.ensures.lines
