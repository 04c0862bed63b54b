-- A graph with jobs after edits and declines, and the graph that settling makes of it.
use Rattle.std.proofs.Common.{◌≡◌, ◌≢◌, ℕ, suc, ◌<◌, ◌/◌, Bool, true, false, ◌==◌, IsTrue, List, [], ◌∷◌, None, length, get_or, map, arith, refl, inl, inr, sym, ap, subst, ◌∙◌}
use Rattle.std.specs.List.{All, count_by, sum_by}
use Rattle.std.proofs.lemmas.Bool.{cases_lt}
use Rattle.std.proofs.lemmas.List.{ext_get_or, get_or-map, get_or_past, length-map, nil_from_length}
use Rattle.std.proofs.lemmas.List.Elements.{All-from_get_or, All-nil, All-weaker}
use Rattle.std.proofs.lemmas.List.Sums.{get_or-le-sum_by, sum_by-cons}
use Rattle.ris_base.specs.Effect.{first_past_limit}
use Rattle.ris_base.specs.Limits.{greatest_of}
use Rattle.ris_base.specs.declared.events.Verdict.{Verdict}
use Rattle.ris_base.specs.declared.events.Verdict.TheVariants.{Waiting}
use Rattle.ris_base.specs.declared.graphs.Format.TheVariants.{Two}
use Rattle.ris_base.specs.declared.updates.Update.{Update}
use Rattle.ris_base.specs.declared.updates.Update.TheVariants.{AddV, DelV, AddE, DelE, SetW}
use Rattle.ris_rows.specs.RowView.{RowView}
use Rattle.ris_graph.specs.GraphView.{GraphView}
use Rattle.ris_graph.specs.Jobs.{AreAscending, AreJobs, IsJobOf, by_stripe, is_job, job_count, jobs_of, stripe_of}
use Rattle.ris_graph.specs.Phase.{Follows, HasEnds, IsReady, IsWorkOf, LooseView, stripe_at}
use Rattle.ris_graph.specs.Settling.{HasPlaces, judged}
use Rattle.ris_graph.specs.StripeView.{IsWhole, StripeView, fresh, no_job, no_stripe, waits}
use Rattle.ris_graph.specs.declared.stripes.StripeJob.{StripeJob}
use Rattle.ris_graph.proofs.GraphLemmas.{present-lt}
use Rattle.ris_graph.proofs.ListFacts.{AllPairs-nil}
use Rattle.ris_graph.proofs.ListedJobs.{All-by_stripe, AreAscending-judged, HasPlaces-by_stripe, by_stripe-judged, count_by-own, get_or-by_stripe, length-job_count, sessions-low}
use Rattle.ris_graph.proofs.StepLemmas.{All-same_jobs, AreAscending-same_jobs, HasRowBelow, IsFresh, IsUnder, IsUnder-follows, count_by-same_jobs, quiet-steps}
use Rattle.ris_graph.proofs.WorkLemmas.{get_or-with_jobs, ready-at, stripe-ascending}

-- Lists of stripes

-- the jobs of a stripe of a list
pub jobs-read : (ss : List StripeView) (m : ℕ) → get_or (map (λ s. s.jobs) ss) m [] ≡ (get_or ss m no_stripe).jobs
jobs-read ss m =
    elim (cases_lt m (length ss)) [
      | inl lt ↦ get_or-map (λ (s : StripeView). s.jobs) ss m no_stripe [] lt
      | inr past ↦ get_or_past (map (λ (s : StripeView). s.jobs) ss) m [] (let size = length-map ss (λ (s : StripeView). s.jobs) in omega arith)
          ∙ sym (ap (λ (s : StripeView). s.jobs) (get_or_past ss m no_stripe past))
    ]

-- sums of lists that agree at each place
sum_by-agree : {X Y : Type 0} (f : X → ℕ) (g : Y → ℕ) (xs : List X) (ys : List Y) (d : X) (e : Y) → length xs ≡ length ys
    → ((k : ℕ) → k < length xs → f (get_or xs k d) ≡ g (get_or ys k e)) → sum_by f xs ≡ sum_by g ys
sum_by-agree f g [] [] d e size same = refl
sum_by-agree f g [] (y ∷ ys) d e size same = absurd (omega arith)
sum_by-agree f g (x ∷ xs) [] d e size same = absurd (omega arith)
sum_by-agree f g (x ∷ xs) (y ∷ ys) d e size same =
    let first = same 0 (omega arith) in
    let rest = sum_by-agree f g xs ys d e (omega arith) (λ k lt. same (suc k) (omega arith)) in
    let a = sum_by-cons f x xs in
    let b = sum_by-cons g y ys in
    omega (arith, first, rest, a, b)

-- Stripes of a graph with jobs

module _ (g : GraphView) (js : List (List StripeJob)) (l : LooseView) (work : IsWorkOf g js l) where
  row-below : (m : ℕ) (update : Update) → stripe_of update ≡ m → HasEnds g update → HasRowBelow (length (get_or g.stripes m [])) update
  row-below m (AddE u v w) home ends = subst (λ k. u / 64 < length (get_or g.stripes k [])) home (work.sound.sized.outs u (present-lt g u ends.0))
  row-below m (DelE u v w) home ends = subst (λ k. u / 64 < length (get_or g.stripes k [])) home (work.sound.sized.outs u (present-lt g u ends.0))
  row-below m (AddV x) home ends = tt
  row-below m (DelV x) home ends = tt
  row-below m (SetW u v w w2) home ends = tt

  pub fresh-stripe : (m : ℕ) → m < 64 → IsFresh m (fresh (get_or g.stripes m []) (get_or js m []))
  fresh-stripe m lt =
      let jobs : List StripeJob = get_or js m [] in
      let rows : List RowView = get_or g.stripes m [] in
      let ready = ready-at (job_count js) g js m work.jobs work.ready lt in
      record {
        ascending = stripe-ascending g m work.sound lt;
        log = refl;
        waiting = All-weaker (IsReady (job_count js) g) (λ j. waits j ≡ true) (λ j h. rw h.waiting refl) jobs ready;
        homes = λ k d less. (
            let j = get_or jobs k d in
            let of = work.jobs.each m k d less in
            record { kind = of.kind; home = of.home; row = row-below m j.update of.home (ready k d less).ends });
        once = λ x. (
            let size = work.jobs.stripes in
            let most = get_or-le-sum_by (λ (i : List StripeJob). count_by (λ j. j.session == x) i) js m [] (omega arith) in
            let few = work.jobs.once x in
            omega arith);
      }

  follows-fresh : (m : ℕ) → m < 64 → Follows (fresh (get_or g.stripes m []) (get_or js m [])) (stripe_at l m)
  follows-fresh m lt =
      subst (λ (s : StripeView). Follows s (stripe_at l m)) (get_or-with_jobs g.stripes js m (work.sound.sized.stripes ∙ sym work.jobs.stripes) (let size = work.sound.sized.stripes in omega arith))
      (work.follows m lt)

  -- what was made of it
  pub under : (m : ℕ) → m < 64 → IsUnder m (fresh (get_or g.stripes m []) (get_or js m [])) (stripe_at l m)
  under m lt = IsUnder-follows m (fresh (get_or g.stripes m []) (get_or js m [])) (stripe_at l m) (fresh-stripe m lt) (follows-fresh m lt)

  -- what holds of sessions and updates of the jobs holds of them after steps
  pub All-work : (P : ℕ → Update → Type 0) (m : ℕ) → m < 64 → All (λ j. P j.session j.update) (get_or js m []) → All (λ j. P j.session j.update) (stripe_at l m).jobs
  All-work P m lt all = All-same_jobs P (get_or js m []) (stripe_at l m).jobs (under m lt).jobs all

  -- Jobs

  pub jobs-at : (m : ℕ) → get_or (map (λ (s : StripeView). s.jobs) l.stripes) m [] ≡ (stripe_at l m).jobs
  jobs-at m = jobs-read l.stripes m

  jobs_of-work : (x : ℕ) → jobs_of x (map (λ s. s.jobs) l.stripes) ≡ jobs_of x js
  jobs_of-work x =
      let f = λ (i : List StripeJob). count_by (λ j. j.session == x) i in
      let size = length-map l.stripes (λ (s : StripeView). s.jobs) ∙ work.stripes in
      sum_by-agree f f (map (λ (s : StripeView). s.jobs) l.stripes) js [] [] (size ∙ sym work.jobs.stripes) (λ m lt.
      ap f (jobs-at m) ∙ count_by-same_jobs x (get_or js m []) (stripe_at l m).jobs (under m (omega arith)).jobs)

  pub AreJobs-work : AreJobs (map (λ s. s.jobs) l.stripes)
  AreJobs-work = record {
    stripes = length-map l.stripes (λ (s : StripeView). s.jobs) ∙ work.stripes;
    each = λ m. rw (jobs-at m) (elim (cases_lt m 64) [
      | inl lt ↦ All-weaker (λ (j : StripeJob). (j.session < 64) × IsTrue (is_job j.update) × (first_past_limit (greatest_of Two) j.update ≡ None) × (stripe_of j.update ≡ m)) (IsJobOf m)
          (λ j h. record { session = h.0; kind = h.1; limits = h.2; home = h.3 }) (stripe_at l m).jobs
          (All-work (λ s u. (s < 64) × IsTrue (is_job u) × (first_past_limit (greatest_of Two) u ≡ None) × (stripe_of u ≡ m)) m lt
          (All-weaker (IsJobOf m) (λ j. (j.session < 64) × IsTrue (is_job j.update) × (first_past_limit (greatest_of Two) j.update ≡ None) × (stripe_of j.update ≡ m))
          (λ j h. (h.session, h.kind, h.limits, h.home)) (get_or js m []) (work.jobs.each m)))
      | inr past ↦ subst (λ (s : StripeView). All (IsJobOf m) s.jobs) (sym (get_or_past l.stripes m no_stripe (let size = work.stripes in omega arith))) (All-nil (IsJobOf m))
    ]);
    once = λ x. (let same = jobs_of-work x in let few = work.jobs.once x in omega arith);
    ascending = λ m. rw (jobs-at m) (elim (cases_lt m 64) [
      | inl lt ↦ AreAscending-same_jobs (get_or js m []) (stripe_at l m).jobs (under m lt).jobs (work.jobs.ascending m)
      | inr past ↦ subst (λ (s : StripeView). AreAscending s.jobs) (sym (get_or_past l.stripes m no_stripe (let size = work.stripes in omega arith))) (AllPairs-nil (λ (i j : StripeJob). i.session < j.session))
    ]);
  }

  pub IsWhole-work : All IsWhole l.stripes
  IsWhole-work =
      All-from_get_or IsWhole l.stripes no_stripe (λ m lt. (
      let size = work.stripes in
      let follows = follows-fresh m (omega arith) in
      let same = (under m (omega arith)).jobs.size in
      record {
        memory = (under m (omega arith)).job_room;
        quiet = λ none. (
            let empty = ap length none in
            let before : get_or js m [] ≡ [] = nil_from_length (get_or js m []) (omega arith) in
            ap (λ (s : StripeView). s.log) follows.is ∙ quiet-steps (fresh (get_or g.stripes m []) (get_or js m [])) follows.steps before refl follows.can);
      }))

  -- the stripes that have jobs are those of the jobs that were given
  pub HasPlaces-work : HasPlaces (map (λ s. s.jobs) l.stripes) l.jobs
  HasPlaces-work m some =
      elim (cases_lt m 64) [
        | inl lt ↦ (
            let here = ap length (jobs-at m) in
            let same = (under m lt).jobs.size in
            let given = ap (λ (i : List (List StripeJob)). length (get_or i m [])) work.given in
            HasPlaces-by_stripe l.jobs m (omega arith))
        | inr past ↦ (let size = length-map l.stripes (λ (s : StripeView). s.jobs) ∙ work.stripes in
            let none = ap length (get_or_past (map (λ (s : StripeView). s.jobs) l.stripes) m [] (omega arith)) in absurd (omega arith))
      ]

  pub sessions-given : All (λ j. j.session < 64) l.jobs
  sessions-given = sessions-low l.jobs (subst AreJobs (sym work.given) work.jobs)

  -- with the verdicts of a table that has those of the stripes' jobs they are the jobs of the stripes
  pub judged-work : (verdicts : List Verdict) → ((m : ℕ) → All (λ j. get_or verdicts j.session Waiting ≡ j.verdict) (get_or (map (λ (s : StripeView). s.jobs) l.stripes) m []))
      → by_stripe (map (judged verdicts) l.jobs) ≡ map (λ s. s.jobs) l.stripes
  judged-work verdicts told =
      by_stripe-judged verdicts l.jobs (map (λ (s : StripeView). s.jobs) l.stripes) (length-map l.stripes (λ (s : StripeView). s.jobs) ∙ work.stripes)
      (λ m lt.
      let old : List StripeJob = get_or js m [] in
      let new : List StripeJob = (stripe_at l m).jobs in
      let same = (under m lt).jobs in
      let size = length-map old (judged verdicts) in
      let here : All (λ j. get_or verdicts j.session Waiting ≡ j.verdict) (stripe_at l m).jobs = subst (All (λ j. get_or verdicts j.session Waiting ≡ j.verdict)) (jobs-at m) (told m) in
      ap (λ (i : List (List StripeJob)). map (judged verdicts) (get_or i m [])) work.given
      ∙ ext_get_or no_job (map (judged verdicts) old) new (size ∙ sym same.size)
      (λ i less. (
      let within : i < length (get_or js m []) = omega arith in
      let inside : i < length (stripe_at l m).jobs = (let equal = same.size in omega arith) in
      get_or-map (judged verdicts) old i no_job no_job within
      ∙ job-is (get_or old i no_job).session (get_or new i no_job).session (get_or old i no_job).update (get_or new i no_job).update (get_or new i no_job).verdict verdicts
      (same.sessions i) (same.updates i) (here i no_job inside)))
      ∙ sym (jobs-at m))
    where
      job-is : (s t : ℕ) (u v : Update) (w : Verdict) (verdicts : List Verdict) → t ≡ s → v ≡ u → get_or verdicts t Waiting ≡ w
          → (let j : StripeJob = record { update = u; session = s; verdict = get_or verdicts s Waiting } in j) ≡ record { update = v; session = t; verdict = w }
      job-is s t u v w verdicts a b c =
          let made = λ (x : Update) (y : ℕ) (z : Verdict). (let j : StripeJob = record { update = x; session = y; verdict = z } in j) in
          ap (λ y. made u y (get_or verdicts y Waiting)) (sym a) ∙ ap (λ x. made x t (get_or verdicts t Waiting)) (sym b) ∙ ap (made v t) c

-- The jobs after the phase

-- the jobs of a graph with jobs, with their verdicts, in the order of their sessions
pub record AreDone (l : LooseView) (jobs : List StripeJob) : Type 0 where
  pub ascending : AreAscending jobs
  pub is : by_stripe jobs ≡ map (λ s. s.jobs) l.stripes

-- they are those that were given, with the verdicts that were noted
pub AreDone-judged : (g : GraphView) (js : List (List StripeJob)) (l : LooseView) → IsWorkOf g js l → AreAscending l.jobs → (verdicts : List Verdict)
    → ((m : ℕ) → All (λ j. get_or verdicts j.session Waiting ≡ j.verdict) (get_or (map (λ (s : StripeView). s.jobs) l.stripes) m [])) → AreDone l (map (judged verdicts) l.jobs)
AreDone-judged g js l work rise verdicts told = record { ascending = AreAscending-judged verdicts l.jobs rise; is = judged-work g js l work verdicts told }

module _ (g : GraphView) (js : List (List StripeJob)) (l : LooseView) (work : IsWorkOf g js l) (jobs : List StripeJob) (done : AreDone l jobs) where
  pub All-work_in : (P : ℕ → Update → Type 0) → ((m : ℕ) → m < 64 → All (λ j. P j.session j.update) (get_or js m [])) → All (λ j. P j.session j.update) jobs
  All-work_in P each =
      All-by_stripe (λ j. P j.session j.update) jobs (λ m. subst (λ (i : List (List StripeJob)). All (λ j. P j.session j.update) (get_or i m [])) (sym done.is)
      (subst (All (λ j. P j.session j.update)) (sym (jobs-at g js l work m)) (elim (cases_lt m 64) [
        | inl lt ↦ All-work g js l work P m lt (each m lt)
        | inr past ↦ subst (λ (s : StripeView). All (λ j. P j.session j.update) s.jobs) (sym (get_or_past l.stripes m no_stripe (let size = work.stripes in omega arith))) (All-nil (λ j. P j.session j.update))
      ])))

  -- they are as many as were given
  pub count_in : length jobs ≡ job_count js
  count_in =
      let size = length-map l.stripes (λ (s : StripeView). s.jobs) ∙ work.stripes in
      length-job_count jobs done.ascending (subst AreJobs (sym done.is) (AreJobs-work g js l work)) ∙ ap job_count done.is
      ∙ sum_by-agree (λ (i : List StripeJob). length i) (λ (i : List StripeJob). length i) (map (λ (s : StripeView). s.jobs) l.stripes) js [] [] (size ∙ sym work.jobs.stripes)
      (λ m lt. ap length (jobs-at g js l work m) ∙ (under g js l work m (omega arith)).jobs.size)

  -- what no job of another stripe has is counted in one stripe
  pub count_by-work : (p : StripeJob → Bool) (m : ℕ) → m < 64 → ((j : StripeJob) → stripe_of j.update ≢ m → p j ≡ false) → count_by p jobs ≡ count_by p (stripe_at l m).jobs
  count_by-work p m lt others =
      count_by-own p m jobs others ∙ ap (count_by p) (sym (get_or-by_stripe jobs m lt) ∙ ap (λ (i : List (List StripeJob)). get_or i m []) done.is ∙ jobs-at g js l work m)
