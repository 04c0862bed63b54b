use Rattle.std.proofs.Common.{◌≡◌, ℕ, ◌-◌, ◌<◌, ◌++◌, List, [], Option, length, get_or, unwrap_or, arith, refl, sym, subst, ap, ◌∙◌}
use Rattle.std.specs.VecDeque.{deque_capacity, deque_len}
use Rattle.std.proofs.lemmas.List.{length-map}
use Rattle.ris_analysis.specs.Analyses.{forests_of}
use Rattle.ris_analysis.specs.declared.kinds.AnyForest.{AnyForest}
use Rattle.ris_base.specs.Epoch.{Resolved}
use Rattle.ris_base.specs.Lines.{front}
use Rattle.ris_base.specs.Records.{lines_of}
use Rattle.ris_base.specs.declared.graphs.PlainGraph.{PlainGraph}
use Rattle.ris_base.specs.declared.lines.Line.{Line}
use Rattle.ris_base.specs.declared.records.Record.{Record}
use Rattle.ris_graph.specs.GraphView.{GraphView, IsOf}
use Rattle.ris_graph.specs.Jobs.{EachJob, job_count, no_jobs}
use Rattle.ris_graph.specs.Phase.{IsReady}
use Rattle.ris_graph.specs.declared.stripes.StripeJob.{StripeJob}
use Rattle.ris_phase.specs.Cells.{cells, logs}
use Rattle.ris_epoch.specs.Account.{records_of}
use Rattle.ris_epoch.specs.Driving.{all_resolved, resolved_of}
use Rattle.ris_epoch.specs.DriverView.{DriverView, no_graph}
use Rattle.ris_epoch.specs.Sealing.{all_told, outcomes_if, records_if}
use Rattle.ris_epoch.proofs.BatchSteps.{begun-batch, begun-counts, begun-ready}
use Rattle.ris_epoch.proofs.OrderingLemmas.{ordered-length}
use Rattle.ris_epoch.proofs.SealedTurns.{IsSealOf, jobs-held, sealed}
use Rattle.ris_epoch.proofs.drivers.Driver.decide.Goals as goal

pub decided-graph-requires-clause-ready : goal.decided-graph-requires-clause-ready
decided-graph-requires-clause-ready g c κs within =
    let D : DriverView = c.args.self.now in
    let same_graph : D.graph ≡ c.in-Some.graph = sym (ap (λ (d : DriverView). d.graph) c.self.view_is) ∙ ap (λ (o : Option GraphView). unwrap_or o no_graph) (sym c.in-Some.ensures.value) in
    let same_jobs : D.jobs ≡ c.in-Some-take.jobs =
    sym (ap (λ (d : DriverView). d.jobs) c.self.view_is) ∙ ap (λ (o : Option (List (List StripeJob))). unwrap_or o no_jobs) (sym c.in-Some-take.ensures.value) in
    let some = c.requires.begun.1 in
    let ready = begun-ready some.base some.records c.requires.begun.0 D c.args.candidates.now c.args.rest.now some.of (omega arith) in
    subst (λ (x : GraphView). EachJob (IsReady (job_count c.in-Some-take.jobs) x) c.in-Some-take.jobs) same_graph
    (subst (λ (js : List (List StripeJob)). EachJob (IsReady (job_count js) D.graph) js) same_jobs ready)

pub seal_all-requires-clause-jobs : goal.seal_all-requires-clause-jobs
seal_all-requires-clause-jobs g c =
    let D : DriverView = c.args.self.now in
    let after : List (List StripeJob) = c.decided-graph.result.1 in
    let same_graph : D.graph ≡ c.in-Some.graph = sym (ap (λ (d : DriverView). d.graph) c.self.view_is) ∙ ap (λ (o : Option GraphView). unwrap_or o no_graph) (sym c.in-Some.ensures.value) in
    let same_jobs : D.jobs ≡ c.in-Some-take.jobs =
    sym (ap (λ (d : DriverView). d.jobs) c.self.view_is) ∙ ap (λ (o : Option (List (List StripeJob))). unwrap_or o no_jobs) (sym c.in-Some-take.ensures.value) in
    let same_analyses : c.self.inside.analyses ≡ D.analyses = ap (λ (d : DriverView). d.analyses) c.self.view_is in
    let cells_are : (p : PlainGraph) (seq : ℕ → ℕ) (m : ℕ) → IsOf D.graph p → m < 64 → get_or after m [] ≡ cells p (forests_of D.analyses) seq [] (get_or D.jobs m []) = λ p seq m of lt.
    c.decided-graph.ensures.cells p seq m (subst (λ (x : GraphView). IsOf x p) same_graph of) lt
    ∙ ap (λ (ones : List AnyForest). cells p (forests_of ones) seq [] (get_or c.in-Some-take.jobs m [])) same_analyses
    ∙ ap (λ (js : List (List StripeJob)). cells p (forests_of D.analyses) seq [] (get_or js m [])) (sym same_jobs) in
    let some = c.requires.begun.1 in
    jobs-held some.base some.records c.requires.begun.0 D c.args.candidates.now c.args.rest.now some.of after cells_are

pub seal_all-requires-clause-few : goal.seal_all-requires-clause-few
seal_all-requires-clause-few g c =
    let some = c.requires.begun.1 in
    let counts = begun-counts some.base some.records c.requires.begun.0 c.args.self.now c.args.candidates.now c.args.rest.now some.of in
    let few = ordered-length 0 c.requires.begun.0 some.of.taken in
    let room = c.requires.begun.3 in
    let same = ap (λ (d : DriverView). front d.journal.lines) c.self.view_is in
    omega arith

pub seal_all-requires-clause-replies : goal.seal_all-requires-clause-replies
seal_all-requires-clause-replies g c =
    let some = c.requires.begun.1 in
    let counts = begun-counts some.base some.records c.requires.begun.0 c.args.self.now c.args.candidates.now c.args.rest.now some.of in
    let few = ordered-length 0 c.requires.begun.0 some.of.taken in
    let seen = ap (λ (d : DriverView). length d.replies) c.self.view_is in
    let long = length-map c.self.inside.replies.items resolved_of in
    let size = c.self.inside.replies.ok in
    let room = c.self.invariant.2 in
    omega arith

pub seal_all-requires-clause-rest : goal.seal_all-requires-clause-rest
seal_all-requires-clause-rest g c =
    let some = c.requires.begun.1 in
    let counts = begun-counts some.base some.records c.requires.begun.0 c.args.self.now c.args.candidates.now c.args.rest.now some.of in
    let few = ordered-length 0 c.requires.begun.0 some.of.taken in
    omega arith

pub returns-clause-sealed : goal.returns-clause-sealed
returns-clause-sealed g c base records batch h taken =
    let D : DriverView = c.args.self.now in
    let after : List (List StripeJob) = c.decided-graph.result.1 in
    let same_graph : D.graph ≡ c.in-Some.graph = sym (ap (λ (d : DriverView). d.graph) c.self.view_is) ∙ ap (λ (o : Option GraphView). unwrap_or o no_graph) (sym c.in-Some.ensures.value) in
    let same_jobs : D.jobs ≡ c.in-Some-take.jobs =
    sym (ap (λ (d : DriverView). d.jobs) c.self.view_is) ∙ ap (λ (o : Option (List (List StripeJob))). unwrap_or o no_jobs) (sym c.in-Some-take.ensures.value) in
    let same_analyses : c.self.inside.analyses ≡ D.analyses = ap (λ (d : DriverView). d.analyses) c.self.view_is in
    let cells_are : (p : PlainGraph) (seq : ℕ → ℕ) (m : ℕ) → IsOf D.graph p → m < 64 → get_or after m [] ≡ cells p (forests_of D.analyses) seq [] (get_or D.jobs m []) = λ p seq m of lt.
    c.decided-graph.ensures.cells p seq m (subst (λ (x : GraphView). IsOf x p) same_graph of) lt
    ∙ ap (λ (ones : List AnyForest). cells p (forests_of ones) seq [] (get_or c.in-Some-take.jobs m [])) same_analyses
    ∙ ap (λ (js : List (List StripeJob)). cells p (forests_of D.analyses) seq [] (get_or js m [])) (sym same_jobs) in
    let new : DriverView = record {
      graph = c.decided-graph.result.0;
      jobs = c.decided-graph.result.1;
      analyses = c.self.inside.analyses;
      journal = c.seal_all.new.journal;
      opening = c.self.inside.opening;
      records = c.seal_all.new.records.items;
      record_room = deque_capacity c.seal_all.new.records - deque_len c.seal_all.new.records;
      replies = all_resolved c.seal_all.new.replies.items;
    } in
    let same_lines = ap (λ (d : DriverView). d.journal.lines) c.self.view_is in
    let order = c.args.candidates.now in
    let of : IsSealOf D new order c.args.rest.now c.seal_all.new.rest after = record {
      graph = λ p seq merged is keeps. c.decided-graph.ensures.graph p seq merged (subst (λ (x : GraphView). IsOf x p) same_graph is)
          (λ k. keeps k ∙ ap (λ (js : List (List StripeJob)). logs p (forests_of D.analyses) seq [] (get_or js k [])) same_jobs
          ∙ ap (λ (ones : List AnyForest). logs p (forests_of ones) seq [] (get_or c.in-Some-take.jobs k [])) (sym same_analyses));
      cells_are = cells_are;
      stripes = c.decided-graph.ensures.stripes;
      lines = λ told are. c.seal_all.ensures.lines told are ∙ ap (λ (ls : List Line). ls ++ lines_of (records_if (all_told told order))) same_lines;
      records_are = λ told are. c.seal_all.ensures.records told are ∙ ap (λ (rs : List Record). rs ++ records_if (all_told told order)) (ap (λ (d : DriverView). d.records) c.self.view_is);
      replies_are = λ told are. c.seal_all.ensures.replies told are
          ∙ ap (λ (os : List Resolved). os ++ outcomes_if (front c.self.inside.journal.lines) (all_told told order)) (ap (λ (d : DriverView). d.replies) c.self.view_is)
          ∙ ap (λ (ls : List Line). D.replies ++ outcomes_if (front ls) (all_told told order)) same_lines;
      rest_is = λ told are. c.seal_all.ensures.rest told are;
      analyses = same_analyses;
      opening = ap (λ (d : DriverView). d.opening) c.self.view_is;
    } in
    sealed base records batch D new order c.args.rest.now c.seal_all.new.rest after h taken of

pub invariant_of-self-2 : goal.invariant_of-self-2
invariant_of-self-2 g c =
    let some = c.requires.begun.1 in
    let taken = begun-batch some.base some.records c.requires.begun.0 c.args.self.now c.args.candidates.now c.args.rest.now some.of c.requires.begun.2 in
    let done = returns-clause-sealed g c some.base some.records c.requires.begun.0 some.of taken in
    let room = c.self.invariant.2 in
    let same = c.seal_all.ensures.reply_capacity in
    (refl, refl, omega arith, record { base = some.base; records = some.records ++ records_of done.merged; of = done.stands })
