use Rattle.std.proofs.Common.{◌≡◌, ◌-◌, ◌++◌, List, [], ◌∷◌, Option, Some, true, false, length, unwrap_or, arith, refl, sym, subst, ap, ◌∙◌}
use Rattle.std.specs.VecDeque.{deque_capacity, deque_len}
use Rattle.std.proofs.lemmas.List.{length-map, map-append}
use Rattle.ris_analysis.specs.Analyses.{forests_of, specs_of}
use Rattle.ris_analysis.specs.declared.kinds.AnyForest.{AnyForest}
use Rattle.ris_base.specs.Epoch.{Resolved}
use Rattle.ris_base.specs.Machine.{session_by}
use Rattle.ris_base.specs.Safe.{is_candidate}
use Rattle.ris_base.specs.declared.graphs.PlainGraph.{PlainGraph}
use Rattle.ris_base.specs.declared.lines.Entry.{Entry}
use Rattle.ris_base.specs.declared.requests.Request.{Request}
use Rattle.ris_base.specs.declared.requests.Request.TheVariants as request
use Rattle.ris_base.specs.declared.updates.Update.{Update}
use Rattle.ris_graph.specs.GraphView.{GraphView, HasRoomOf, IsOf}
use Rattle.ris_graph.specs.Jobs.{HasSession, no_jobs, with_job}
use Rattle.ris_graph.specs.declared.stripes.StripeJob.{StripeJob}
use Rattle.ris_epoch.specs.contracts.drivers.Driver.{the_view}
use denote.Param.{param}
use Rattle.ris_epoch.specs.Account.{graph_behind, is_candidate_behind}
use Rattle.ris_epoch.specs.Driving.{all_resolved, resolved_of}
use Rattle.ris_epoch.specs.DriverView.{DriverView, no_graph}
use Rattle.ris_epoch.specs.Ordering.{inserted_by, stripe_by_entry}
use Rattle.ris_epoch.specs.Turning.{HasBegun}
use Rattle.ris_epoch.proofs.BatchSteps.{begun-candidate, begun-counts, begun-few, begun-other, begun-room, begun-want, none-job}
use Rattle.ris_epoch.proofs.CandidateFacts.{sound-job, sound-limits, sound-of, sound-ready}
use Rattle.ris_epoch.proofs.StandingFor.{candidate-stands}
use Rattle.ris_epoch.proofs.drivers.Driver.begin_change.Goals as goal
use Rattle.ris_epoch.proofs.drivers.Driver.begin_change.Goals.{in-Some-jobs, in_default-jobs}

pub add-requires : goal.add-requires
add-requires g c =
    let done = c.requires.begun.0 in
    let some = c.requires.begun.1 in
    let few = begun-few some.base some.records done c.args.self.now c.args.candidates.now c.args.rest.now some.of (request.Submit c.args.entry) c.requires.begun.2 in
    let counts = begun-counts some.base some.records done c.args.self.now c.args.candidates.now c.args.rest.now some.of in
    omega arith

pub returns-in_default-candidate_update-clause-begun : goal.returns-in_default-candidate_update-clause-begun
returns-in_default-candidate_update-clause-begun g c base records done h next =
    let D : DriverView = c.args.self.now in
    let p : PlainGraph = graph_behind base records in
    let same_graph : D.graph ≡ c.in-Some.graph = sym (ap (λ (d : DriverView). d.graph) c.self.view_is) ∙ ap (λ (o : Option GraphView). unwrap_or o no_graph) c.in-Some.is in
    let of : IsOf c.in-Some.graph p = subst (λ (x : GraphView). IsOf x p) same_graph h.stands.fits.graph_is in
    let seen : Option GraphView → DriverView = λ o. record {
      graph = unwrap_or o no_graph;
      jobs = unwrap_or c.self.inside.jobs no_jobs;
      analyses = c.self.inside.analyses;
      journal = c.self.inside.journal;
      opening = c.self.inside.opening;
      records = c.self.inside.records.items;
      record_room = deque_capacity c.self.inside.records - deque_len c.self.inside.records;
      replies = all_resolved c.self.inside.replies.items;
    } in
    let same : D ≡ seen (Some c.in-Some.graph) = sym c.self.view_is ∙ ap seen c.in-Some.is in
    let is : is_candidate_behind base records (request.Submit c.args.entry) ≡ false = candidate-stands D base records c.args.entry false h.stands
    (subst (λ (ones : List AnyForest). is_candidate p (specs_of ones) (forests_of ones) c.args.entry.parts ≡ false) (ap (λ (d : DriverView). d.analyses) c.self.view_is)
    (c.in_default-candidate_update.ensures p of)) in
    subst (λ (rs : List Request). HasBegun base records c.args.inserts (done ++ request.Submit c.args.entry ∷ []) (seen (Some c.in-Some.graph)) c.args.candidates.now rs) (sym c.add.ensures)
    (subst (λ (d : DriverView). HasBegun base records c.args.inserts (done ++ request.Submit c.args.entry ∷ []) d c.args.candidates.now (inserted_by session_by c.args.rest.now (request.Submit c.args.entry))) same
    (begun-other base records done D c.args.candidates.now c.args.rest.now h (request.Submit c.args.entry) next is))

pub equipped-requires : goal.equipped-requires
equipped-requires g c =
    let done = c.requires.begun.0 in
    let some = c.requires.begun.1 in
    let base = some.base in
    let records = some.records in
    let h = some.of in
    let D : DriverView = c.args.self.now in
    let p : PlainGraph = graph_behind base records in
    let same_graph : D.graph ≡ c.in-Some.graph = sym (ap (λ (d : DriverView). d.graph) c.self.view_is) ∙ ap (λ (o : Option GraphView). unwrap_or o no_graph) c.in-Some.is in
    let of : IsOf c.in-Some.graph p = subst (λ (x : GraphView). IsOf x p) same_graph h.stands.fits.graph_is in
    let both = c.in-Some-candidate_update.ensures p of in
    let yes = ap (λ (parts : List Update). is_candidate p (specs_of c.self.inside.analyses) (forests_of c.self.inside.analyses) parts) (sym both.0) ∙ both.1 in
    (p, specs_of c.self.inside.analyses, forests_of c.self.inside.analyses, of, yes)

pub add-requires-in-Some-jobs-clause-new : goal.add-requires-in-Some-jobs-clause-new
add-requires-in-Some-jobs-clause-new g c has =
    let done = c.requires.begun.0 in
    let some = c.requires.begun.1 in
    let same_jobs : c.args.self.now.jobs ≡ c.in-Some-jobs.jobs =
    sym (ap (λ (d : DriverView). d.jobs) c.self.view_is) ∙ ap (λ (o : Option (List (List StripeJob))). unwrap_or o no_jobs) c.in-Some-jobs.is in
    none-job some.base some.records done c.args.self.now c.args.candidates.now c.args.rest.now some.of (request.Submit c.args.entry) c.requires.begun.2
    (subst (λ (js : List (List StripeJob)). HasSession js c.args.entry.session) (sym same_jobs) has)

pub add-requires-in-Some-jobs-clause-kind : goal.add-requires-in-Some-jobs-clause-kind
add-requires-in-Some-jobs-clause-kind g c =
    let done = c.requires.begun.0 in
    let some = c.requires.begun.1 in
    let base = some.base in
    let records = some.records in
    let h = some.of in
    let D : DriverView = c.args.self.now in
    let p : PlainGraph = graph_behind base records in
    let same_graph : D.graph ≡ c.in-Some.graph = sym (ap (λ (d : DriverView). d.graph) c.self.view_is) ∙ ap (λ (o : Option GraphView). unwrap_or o no_graph) c.in-Some.is in
    let of : IsOf c.in-Some.graph p = subst (λ (x : GraphView). IsOf x p) same_graph h.stands.fits.graph_is in
    let both = c.in-Some-candidate_update.ensures p of in
    let yes = ap (λ (parts : List Update). is_candidate p (specs_of c.self.inside.analyses) (forests_of c.self.inside.analyses) parts) (sym both.0) ∙ both.1 in
    sound-job p c.in-Some-candidate_update.update (sound-of p (specs_of c.self.inside.analyses) (forests_of c.self.inside.analyses) c.in-Some-candidate_update.update yes)

pub add-requires-in-Some-jobs-clause-limits : goal.add-requires-in-Some-jobs-clause-limits
add-requires-in-Some-jobs-clause-limits g c =
    let done = c.requires.begun.0 in
    let some = c.requires.begun.1 in
    let base = some.base in
    let records = some.records in
    let h = some.of in
    let D : DriverView = c.args.self.now in
    let p : PlainGraph = graph_behind base records in
    let same_graph : D.graph ≡ c.in-Some.graph = sym (ap (λ (d : DriverView). d.graph) c.self.view_is) ∙ ap (λ (o : Option GraphView). unwrap_or o no_graph) c.in-Some.is in
    let of : IsOf c.in-Some.graph p = subst (λ (x : GraphView). IsOf x p) same_graph h.stands.fits.graph_is in
    let both = c.in-Some-candidate_update.ensures p of in
    let yes = ap (λ (parts : List Update). is_candidate p (specs_of c.self.inside.analyses) (forests_of c.self.inside.analyses) parts) (sym both.0) ∙ both.1 in
    sound-limits p c.in-Some-candidate_update.update (sound-of p (specs_of c.self.inside.analyses) (forests_of c.self.inside.analyses) c.in-Some-candidate_update.update yes)

pub add-requires-in-Ok : goal.add-requires-in-Ok
add-requires-in-Ok g c =
    let done = c.requires.begun.0 in
    let some = c.requires.begun.1 in
    let few = begun-few some.base some.records done c.args.self.now c.args.candidates.now c.args.rest.now some.of (request.Submit c.args.entry) c.requires.begun.2 in
    let counts = begun-counts some.base some.records done c.args.self.now c.args.candidates.now c.args.rest.now some.of in
    omega arith

pub push_back_reserved-requires : goal.push_back_reserved-requires
push_back_reserved-requires g c =
    let done = c.requires.begun.0 in
    let some = c.requires.begun.1 in
    let few = begun-few some.base some.records done c.args.self.now c.args.candidates.now c.args.rest.now some.of (request.Submit c.args.entry) c.requires.begun.2 in
    let counts = begun-counts some.base some.records done c.args.self.now c.args.candidates.now c.args.rest.now some.of in
    let seen = ap (λ (d : DriverView). length d.replies) c.self.view_is in
    let long = length-map c.self.inside.replies.items resolved_of in
    let size = c.self.inside.replies.ok in
    let room = c.self.invariant.2 in
    omega arith

pub returns-after-self-2-clause-begun : goal.returns-after-self-2-clause-begun
returns-after-self-2-clause-begun g c base records done h next =
    let D : DriverView = c.args.self.now in
    let p : PlainGraph = graph_behind base records in
    let same_graph : D.graph ≡ c.in-Some.graph = sym (ap (λ (d : DriverView). d.graph) c.self.view_is) ∙ ap (λ (o : Option GraphView). unwrap_or o no_graph) c.in-Some.is in
    let of : IsOf c.in-Some.graph p = subst (λ (x : GraphView). IsOf x p) same_graph h.stands.fits.graph_is in
    let roomy : DriverView = record {
      graph = c.equipped.new.graph;
      jobs = unwrap_or c.self.inside.jobs no_jobs;
      analyses = c.self.inside.analyses;
      journal = c.equipped.new.journal;
      opening = c.self.inside.opening;
      records = c.equipped.new.records.items;
      record_room = deque_capacity c.equipped.new.records - deque_len c.equipped.new.records;
      replies = all_resolved c.self.inside.replies.items;
    } in
    let old_size = c.self.inside.records.ok in
    let new_size = c.equipped.new.records.ok in
    let long = ap length c.equipped.ensures.items in
    let room = ap (λ (d : DriverView). d.record_room) c.self.view_is in
    let spare = ap (λ (d : DriverView). d.journal.spare) c.self.view_is in
    let up = c.equipped.ensures.capacity in
    let more = c.equipped.ensures.spare in
    let begun : HasBegun base records c.args.inserts done roomy c.args.candidates.now c.args.rest.now =
    begun-room base records done D c.args.candidates.now c.args.rest.now h roomy
    (subst (λ (x : GraphView). HasRoomOf x c.equipped.new.graph) (sym same_graph) c.equipped.ensures.graph)
    (ap (λ (d : DriverView). d.jobs) c.self.view_is) (ap (λ (d : DriverView). d.analyses) c.self.view_is)
    (c.equipped.ensures.lines ∙ ap (λ (d : DriverView). d.journal.lines) c.self.view_is) (omega arith)
    (ap (λ (d : DriverView). d.opening) c.self.view_is) (c.equipped.ensures.items ∙ ap (λ (d : DriverView). d.records) c.self.view_is) (omega arith)
    (ap (λ (d : DriverView). d.replies) c.self.view_is) in
    let both = c.in-Some-candidate_update.ensures p of in
    let is : is_candidate_behind base records (request.Submit c.args.entry) ≡ true = candidate-stands D base records c.args.entry true h.stands
    (subst (λ (ones : List AnyForest). is_candidate p (specs_of ones) (forests_of ones) c.args.entry.parts ≡ true) (ap (λ (d : DriverView). d.analyses) c.self.view_is) both.1) in
    let yes = ap (λ (parts : List Update). is_candidate p (specs_of c.self.inside.analyses) (forests_of c.self.inside.analyses) parts) (sym both.0) ∙ both.1 in
    let update : Update = c.in-Some-candidate_update.update in
    let sound = sound-of p (specs_of c.self.inside.analyses) (forests_of c.self.inside.analyses) update yes in
    let ready = sound-ready c.args.inserts c.in-Some.graph c.equipped.new.graph p c.args.entry.session update of c.equipped.ensures.graph sound c.in-Ok.ensures.rows in
    let lines = c.in-Ok.ensures.room in
    let size = c.len-lines.ensures in
    let next_view : DriverView = record roomy { jobs = with_job roomy.jobs c.args.entry.session update } in
    let given = begun-candidate base records done roomy c.args.candidates.now c.args.rest.now begun c.args.entry next is update next_view both.0 refl ready
    (let all = lines.0 in omega arith) (let all = lines.1 in omega arith) in
    let placed : inserted_by stripe_by_entry c.args.candidates.now c.args.entry ≡ c.add-in-Ok.new.self =
    ap (λ (e : Entry). inserted_by stripe_by_entry c.args.candidates.now e) (sym c.in-Ok.ensures.candidate) ∙ sym c.add-in-Ok.ensures in
    let held = subst (λ (order : List Entry). HasBegun base records c.args.inserts (done ++ request.Submit c.args.entry ∷ []) next_view order c.args.rest.now) placed given in
    elim c.match-self-2.branch [
      | in-Some-jobs w ↦
          let jobs : with_job roomy.jobs c.args.entry.session update ≡ w.add-in-Some-jobs.new.self =
          ap (λ (o : Option (List (List StripeJob))). with_job (unwrap_or o no_jobs) c.args.entry.session update) w.in-Some-jobs.is ∙ sym w.add-in-Some-jobs.ensures in
          subst (λ (i : _). HasBegun base records c.args.inserts (done ++ request.Submit c.args.entry ∷ []) (the_view (param 0 g.row.M) i) c.add-in-Ok.new.self c.args.rest.now) (sym w.self-inside-is)
          (subst (λ (js : List (List StripeJob)). HasBegun base records c.args.inserts (done ++ request.Submit c.args.entry ∷ []) (record roomy { jobs = js }) c.add-in-Ok.new.self c.args.rest.now) jobs held)
      | in_default-jobs w ↦ absurd (let some = c.self.invariant.1 in grind arith)
    ]

pub returns-in-Err-clause-begun : goal.returns-in-Err-clause-begun
returns-in-Err-clause-begun g c base records done h next =
    let D : DriverView = c.args.self.now in
    let p : PlainGraph = graph_behind base records in
    let same_graph : D.graph ≡ c.in-Some.graph = sym (ap (λ (d : DriverView). d.graph) c.self.view_is) ∙ ap (λ (o : Option GraphView). unwrap_or o no_graph) c.in-Some.is in
    let of : IsOf c.in-Some.graph p = subst (λ (x : GraphView). IsOf x p) same_graph h.stands.fits.graph_is in
    let roomy : DriverView = record {
      graph = c.equipped.new.graph;
      jobs = unwrap_or c.self.inside.jobs no_jobs;
      analyses = c.self.inside.analyses;
      journal = c.equipped.new.journal;
      opening = c.self.inside.opening;
      records = c.equipped.new.records.items;
      record_room = deque_capacity c.equipped.new.records - deque_len c.equipped.new.records;
      replies = all_resolved c.self.inside.replies.items;
    } in
    let old_size = c.self.inside.records.ok in
    let new_size = c.equipped.new.records.ok in
    let long = ap length c.equipped.ensures.items in
    let room = ap (λ (d : DriverView). d.record_room) c.self.view_is in
    let spare = ap (λ (d : DriverView). d.journal.spare) c.self.view_is in
    let up = c.equipped.ensures.capacity in
    let more = c.equipped.ensures.spare in
    let begun : HasBegun base records c.args.inserts done roomy c.args.candidates.now c.args.rest.now =
    begun-room base records done D c.args.candidates.now c.args.rest.now h roomy
    (subst (λ (x : GraphView). HasRoomOf x c.equipped.new.graph) (sym same_graph) c.equipped.ensures.graph)
    (ap (λ (d : DriverView). d.jobs) c.self.view_is) (ap (λ (d : DriverView). d.analyses) c.self.view_is)
    (c.equipped.ensures.lines ∙ ap (λ (d : DriverView). d.journal.lines) c.self.view_is) (omega arith)
    (ap (λ (d : DriverView). d.opening) c.self.view_is) (c.equipped.ensures.items ∙ ap (λ (d : DriverView). d.records) c.self.view_is) (omega arith)
    (ap (λ (d : DriverView). d.replies) c.self.view_is) in
    let both = c.in-Some-candidate_update.ensures p of in
    let is : is_candidate_behind base records (request.Submit c.args.entry) ≡ true = candidate-stands D base records c.args.entry true h.stands
    (subst (λ (ones : List AnyForest). is_candidate p (specs_of ones) (forests_of ones) c.args.entry.parts ≡ true) (ap (λ (d : DriverView). d.analyses) c.self.view_is) both.1) in
    let given = begun-want base records done roomy c.args.candidates.now c.args.rest.now begun c.args.entry next is in
    given (record roomy { replies = all_resolved c.push_back_reserved.new.self.items })
    (ap (λ (xs : List Resolved). record roomy { replies = xs }) (ap all_resolved c.push_back_reserved.ensures.items ∙ map-append resolved_of c.self.inside.replies.items _))
