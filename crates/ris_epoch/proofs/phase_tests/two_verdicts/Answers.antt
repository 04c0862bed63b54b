use Rattle.std.proofs.Common.{◌≡◌, ◌≢◌, ℕ, ◌<◌, inl, inr, if◌then◌else◌, nat_lt, Bool, true, false, List, [], ◌∷◌, length, get_or, arith, refl, sym, subst, ap, ◌∙◌, get_or-set_same, get_or-set_other}
use Rattle.std.specs.List.{All, Contains}
use Rattle.std.proofs.lemmas.Bool.{cases_eq}
use Rattle.std.proofs.lemmas.List.{get_or-map}
use Rattle.std.proofs.lemmas.List.Elements.{All-contains, All-from_get_or, All-nil}
use Rattle.ris_base.specs.Forest.{Forest}
use Rattle.ris_base.specs.declared.graphs.Format.TheVariants.{One}
use Rattle.ris_base.specs.declared.graphs.PlainGraph.{PlainGraph}
use Rattle.ris_base.specs.declared.graphs.Triple.{Triple}
use Rattle.ris_base.specs.declared.updates.Update.{Update}
use Rattle.ris_base.specs.declared.updates.Update.TheVariants.{AddV}
use Rattle.ris_base.specs.Lists.{numbers_below}
use Rattle.ris_base.proofs.ListLemmas.{Contains-cases, Contains-first, Contains-none, Contains-rest}
use Rattle.ris_base.proofs.NumbersBelow.{Contains-numbers_below}
use Rattle.ris_analysis.specs.Analyses.{forests_of}
use Rattle.ris_graph.specs.GraphView.{GraphView, IsOf}
use Rattle.ris_graph.specs.Jobs.{EachJob, HasSession, IsJob, job_count, no_jobs, stripe_of, with_job, with_session}
use Rattle.ris_graph.specs.Phase.{IsReady}
use Rattle.ris_graph.specs.StripeView.{StripeView, no_stripe}
use Rattle.ris_graph.specs.declared.stripes.StripeJob.{StripeJob}
use Rattle.ris_graph.proofs.JobLemmas.{AreJobs-none, IsJob-at, job-stripe, no_jobs-at, stripe_of-lt}
use Rattle.ris_phase.specs.Cells.{IsLoosenedOf, celled, cells, decision, logged}
use Rattle.ris_epoch.proofs.CandidateFacts.{added_job, each-with_job, length-with_job}
use Rattle.ris_epoch.proofs.phase_tests.two_verdicts.Goals as goal

-- no job
each-none : (P : StripeJob → Type 0) → EachJob P no_jobs
each-none P = All-from_get_or (All P) no_jobs [] (λ k less. subst (All P) (sym (no_jobs-at k)) (All-nil P))

each-is : (P : StripeJob → Type 0) (js : List (List StripeJob)) (j : StripeJob) → EachJob P js → IsJob js j → P j
each-is P js j all at = All-contains P at.0 j (All-contains (All P) js at.0 all at.1) at.2

none-session : (s : ℕ) → ¬ (HasSession no_jobs s)
none-session s has = each-is (λ j. j.session ≢ s) no_jobs has.0 (each-none (λ j. j.session ≢ s)) has.1 has.2

-- One more job

has-new : (jobs : List StripeJob) (j : StripeJob) → Contains (with_session jobs j) j
has-new [] j = Contains-first j []
has-new (i ∷ jobs) j = go (nat_lt i.session j.session) (has-new jobs j)
  where
    go : (b : Bool) → Contains (with_session jobs j) j → Contains (if b then i ∷ with_session jobs j else j ∷ i ∷ jobs) j
    go true rest = Contains-rest i (with_session jobs j) j rest
    go false rest = Contains-first j (i ∷ jobs)

has-old : (jobs : List StripeJob) (j x : StripeJob) → Contains jobs x → Contains (with_session jobs j) x
has-old [] j x at = absurd (Contains-none x at)
has-old (i ∷ jobs) j x at = go (nat_lt i.session j.session) (λ later. has-old jobs j x later)
  where
    go : (b : Bool) → (Contains jobs x → Contains (with_session jobs j) x) → Contains (if b then i ∷ with_session jobs j else j ∷ i ∷ jobs) x
    go false rest = Contains-rest j (i ∷ jobs) x at
    go true rest = elim (Contains-cases i jobs x at) [
      | inl first ↦ subst (λ (y : StripeJob). Contains (i ∷ with_session jobs j) y) first (Contains-first i (with_session jobs j))
      | inr later ↦ Contains-rest i (with_session jobs j) x (rest later)
    ]

module _ (js : List (List StripeJob)) (s : ℕ) (u : Update) (long : length js ≡ 64) where
  session-new : HasSession (with_job js s u) s
  session-new =
      let within : stripe_of u < length js = (let lt = stripe_of-lt u in omega arith) in
      let jobs = with_session (get_or js (stripe_of u) []) (added_job s u) in (
        added_job s u,
        IsJob-at (with_job js s u) (stripe_of u) (added_job s u)
            (subst (λ (l : List StripeJob). Contains l (added_job s u)) (sym (get_or-set_same js (stripe_of u) jobs [] within)) (has-new (get_or js (stripe_of u) []) (added_job s u))),
        refl,
      )

  session-old : (t : ℕ) → HasSession js t → HasSession (with_job js s u) t
  session-old t has =
      let there = job-stripe js has.0 has.1 in
      let m = there.0 in
      let jobs = with_session (get_or js (stripe_of u) []) (added_job s u) in
      let within : stripe_of u < length js = (let lt = stripe_of-lt u in omega arith) in (
        has.0,
        IsJob-at (with_job js s u) m has.0 (elim (cases_eq (stripe_of u) m) [
          | inl own ↦ subst (λ (k : ℕ). Contains (get_or (with_job js s u) k []) has.0) own
              (subst (λ (l : List StripeJob). Contains l has.0) (sym (get_or-set_same js (stripe_of u) jobs [] within))
              (has-old (get_or js (stripe_of u) []) (added_job s u) has.0 (subst (λ (k : ℕ). Contains (get_or js k []) has.0) (sym own) there.2)))
          | inr other ↦ subst (λ (l : List StripeJob). Contains l has.0) (sym (get_or-set_other js (stripe_of u) m jobs [] (λ e. other (sym e)))) there.2
        ]),
        has.2,
      )

-- The phase

-- cells keep the sessions of jobs
cells-has : (p : PlainGraph) (forests : List Forest) (seq : ℕ → ℕ) (log : List _) (jobs : List StripeJob) (j : StripeJob) → Contains jobs j
    → (k : StripeJob) × Contains (cells p forests seq log jobs) k × (k.session ≡ j.session)
unfolding cells
cells-has p forests seq log [] j at = absurd (Contains-none j at)
cells-has p forests seq log (i ∷ jobs) j at =
    let own = celled p forests log i in
    let later_log = logged log (decision seq own) in
    elim (Contains-cases i jobs j at) [
      | inl first ↦ (own, Contains-first own (cells p forests seq later_log jobs), ap (λ (x : StripeJob). x.session) first)
      | inr later ↦ (let rest = cells-has p forests seq later_log jobs j later in
          (rest.0, Contains-rest own (cells p forests seq later_log jobs) rest.0 rest.1, rest.2))
    ]

kept : (p : PlainGraph) (forests : List Forest) (seq : ℕ → ℕ) (before after : List (List StripeJob)) → length before ≡ 64
    → ((m : ℕ) → m < 64 → get_or after m [] ≡ cells p forests seq [] (get_or before m [])) → (s : ℕ) → HasSession before s → HasSession after s
kept p forests seq before after long made s has =
    let there = job-stripe before has.0 has.1 in
    let lt : there.0 < 64 = (let less = there.1 in omega arith) in
    let k = cells-has p forests seq [] (get_or before there.0 []) has.0 there.2 in
    (k.0, IsJob-at after there.0 k.0 (subst (λ (l : List StripeJob). Contains l k.0) (sym (made there.0 lt)) k.1), k.2 ∙ has.2)

-- The goals

pub add-requires-clause-new : goal.add-requires-clause-new
add-requires-clause-new g c has = none-session 0 (subst (λ (js : List (List StripeJob)). HasSession js 0) c.in_ok-jobs.ensures has)

pub add-requires-2-clause-new : goal.add-requires-2-clause-new
add-requires-2-clause-new g c has =
    let js : List (List StripeJob) = with_job no_jobs 0 (AddV 0) in
    let same : c.add.new.self ≡ js = c.add.ensures ∙ ap (λ (x : List (List StripeJob)). with_job x 0 (AddV 0)) c.in_ok-jobs.ensures in
    let all = each-with_job (λ j. j.session ≢ 1) no_jobs 0 (AddV 0) AreJobs-none.stripes (each-none (λ j. j.session ≢ 1)) (λ e. absurd (omega arith)) in
    let there = subst (λ (x : List (List StripeJob)). HasSession x 1) same has in
    each-is (λ j. j.session ≢ 1) js there.0 all there.1 there.2

pub loosen-loose-requires : goal.loosen-loose-requires
loosen-loose-requires g c =
    let graph : GraphView = c.in_ok-graph.graph in
    let one : List (List StripeJob) = with_job no_jobs 0 (AddV 0) in
    let same : c.add-2.new.self ≡ with_job one 1 (AddV 32) =
    c.add-2.ensures ∙ ap (λ (x : List (List StripeJob)). with_job x 1 (AddV 32)) (c.add.ensures ∙ ap (λ (x : List (List StripeJob)). with_job x 0 (AddV 0)) c.in_ok-jobs.ensures) in
    let n = job_count c.add-2.new.self in
    let first : IsReady n graph (added_job 0 (AddV 0)) = record {
      waiting = refl;
      limits = refl;
      ends = (c.in_ok-graph.ensures.vertices 0).1 (Contains-numbers_below 33 0 (omega arith));
      room = tt;
    } in
    let second : IsReady n graph (added_job 1 (AddV 32)) = record {
      waiting = refl;
      limits = refl;
      ends = (c.in_ok-graph.ensures.vertices 32).1 (Contains-numbers_below 33 32 (omega arith));
      room = tt;
    } in
    subst (EachJob (IsReady n graph)) (sym same)
    (each-with_job (IsReady n graph) one 1 (AddV 32) (length-with_job no_jobs 0 (AddV 0) ∙ AreJobs-none.stripes)
    (each-with_job (IsReady n graph) no_jobs 0 (AddV 0) AreJobs-none.stripes (each-none (IsReady n graph)) first) second)

-- the jobs that were given
given : List (List StripeJob)
given = with_job (with_job no_jobs 0 (AddV 0)) 1 (AddV 32)

given-sessions : HasSession given 0 × HasSession given 1
unfolding given
given-sessions =
    let one : List (List StripeJob) = with_job no_jobs 0 (AddV 0) in
    let long : length one ≡ 64 = length-with_job no_jobs 0 (AddV 0) ∙ AreJobs-none.stripes in
    (session-old one 1 (AddV 32) long 0 (session-new no_jobs 0 (AddV 0) AreJobs-none.stripes), session-new one 1 (AddV 32) long)

given-length : length given ≡ 64
unfolding given
given-length = length-with_job (with_job no_jobs 0 (AddV 0)) 1 (AddV 32) ∙ length-with_job no_jobs 0 (AddV 0) ∙ AreJobs-none.stripes

-- the graph of the test
abbrev plain_of : List Triple → PlainGraph
plain_of ts = record { format = One; vertices = numbers_below 33; triples = ts }

abbrev plain : PlainGraph
plain = plain_of []

pub verdict-requires : goal.verdict-requires
unfolding given
verdict-requires g c =
    let graph : GraphView = c.in_ok-graph.graph in
    let js : List (List StripeJob) = c.add-2.new.self in
    let same : js ≡ given =
    c.add-2.ensures ∙ ap (λ (x : List (List StripeJob)). with_job x 1 (AddV 32)) (c.add.ensures ∙ ap (λ (x : List (List StripeJob)). with_job x 0 (AddV 0)) c.in_ok-jobs.ensures) in
    let fresh : IsLoosenedOf graph js c.loosen-loose.result = record { work = c.loosen-loose.ensures.work; is = c.loosen-loose.ensures.is } in
    let work = c.apply.ensures.work graph js fresh in
    kept plain (forests_of c.in_ok-analyses.analyses) (λ s. 0) js c.settle-graph.result.1
    (ap length same ∙ given-length)
    (λ m lt. ap (λ (x : List (List StripeJob)). get_or x m []) c.settle-graph.ensures.jobs
    ∙ get_or-map (λ (s : StripeView). s.jobs) c.apply.new.loose.stripes m no_stripe [] (let size = work.stripes in omega arith)
    ∙ (c.apply.ensures.cells graph js plain (λ s. 0) m fresh (subst (λ (ts : List Triple). IsOf graph (plain_of ts)) c.new-base.ensures c.in_ok-graph.ensures) lt).0)
    0 (subst (λ (x : List (List StripeJob)). HasSession x 0) (sym same) given-sessions.0)

pub verdict-requires-2 : goal.verdict-requires-2
unfolding given
verdict-requires-2 g c =
    let graph : GraphView = c.in_ok-graph.graph in
    let js : List (List StripeJob) = c.add-2.new.self in
    let same : js ≡ given =
    c.add-2.ensures ∙ ap (λ (x : List (List StripeJob)). with_job x 1 (AddV 32)) (c.add.ensures ∙ ap (λ (x : List (List StripeJob)). with_job x 0 (AddV 0)) c.in_ok-jobs.ensures) in
    let fresh : IsLoosenedOf graph js c.loosen-loose.result = record { work = c.loosen-loose.ensures.work; is = c.loosen-loose.ensures.is } in
    let work = c.apply.ensures.work graph js fresh in
    kept plain (forests_of c.in_ok-analyses.analyses) (λ s. 0) js c.settle-graph.result.1
    (ap length same ∙ given-length)
    (λ m lt. ap (λ (x : List (List StripeJob)). get_or x m []) c.settle-graph.ensures.jobs
    ∙ get_or-map (λ (s : StripeView). s.jobs) c.apply.new.loose.stripes m no_stripe [] (let size = work.stripes in omega arith)
    ∙ (c.apply.ensures.cells graph js plain (λ s. 0) m fresh (subst (λ (ts : List Triple). IsOf graph (plain_of ts)) c.new-base.ensures c.in_ok-graph.ensures) lt).0)
    1 (subst (λ (x : List (List StripeJob)). HasSession x 1) (sym same) given-sessions.1)
