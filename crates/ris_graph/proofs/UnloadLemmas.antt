-- Jobs that are taken from stripes, one after another, and the verdicts that are noted.
use Rattle.std.proofs.Common.{◌≡◌, ◌≢◌, ℕ, ◌+◌, ◌<◌, ◌≤◌, ◌⊎◌, ◌==◌, List, [], length, get_or, map, set, arith, refl, inl, inr, sym, ap, subst, ◌∙◌, get_or-set_same, get_or-set_other}
use Rattle.std.specs.List.{All, count_by, fold}
use Rattle.std.proofs.lemmas.Bool.{cases_eq, cases_lt}
use Rattle.std.proofs.lemmas.List.{get_or_past, get_or_read, length-map, length-set, nil_from_length}
use Rattle.std.proofs.lemmas.List.Elements.{All-from_get_or, All-nil, All-weaker}
use Rattle.std.proofs.lemmas.List.Sums.{get_or-le-sum_by}
use Rattle.ris_base.specs.declared.events.Verdict.{Verdict}
use Rattle.ris_base.specs.declared.events.Verdict.TheVariants.{Waiting}
use Rattle.ris_graph.specs.Jobs.{AreJobs, IsJobOf, stripe_of}
use Rattle.ris_graph.specs.Settling.{HasPlaces, with_told}
use Rattle.ris_graph.specs.StripeView.{IsIdle, IsWhole, StripeView, no_job, no_stripe}
use Rattle.ris_graph.specs.declared.stripes.StripeJob.{StripeJob}
use Rattle.ris_graph.proofs.CarryLemmas.{unload-rows}
use Rattle.ris_graph.proofs.JobLemmas.{sessions-apart, stripe_of-lt}
use Rattle.ris_graph.proofs.PhaseLemmas.{jobs-read}
use Rattle.ris_graph.proofs.SettleLemmas.{length-told, told-each, told-others}
use Rattle.ris_graph.proofs.TableLemmas.{rows_of}

-- the jobs of each stripe
abbrev pub jobs_of_each : List StripeView → List (List StripeJob)
jobs_of_each ss = map (λ s. s.jobs) ss

-- a table has the verdicts of jobs
abbrev pub AreNoted : List Verdict → List StripeJob → Type 0
AreNoted verdicts jobs = All (λ j. get_or verdicts j.session Waiting ≡ j.verdict) jobs

-- the jobs of stripe m were taken and noted
pub record IsTaken (old now : List StripeView) (verdicts : List Verdict) (m : ℕ) : Type 0 where
  pub idle : IsIdle (get_or now m no_stripe)
  pub noted : AreNoted verdicts (get_or (jobs_of_each old) m [])

-- so were those of the stripes of the first k jobs, and each other stripe is as before
pub record AreTaken (old now : List StripeView) (verdicts : List Verdict) (jobs : List StripeJob) (k : ℕ) : Type 0 where
  pub size : length now ≡ 64
  pub rows : rows_of now ≡ rows_of old
  pub sessions : length verdicts ≡ 64
  pub each : (m : ℕ) → (get_or now m no_stripe ≡ get_or old m no_stripe) ⊎ IsTaken old now verdicts m
  pub first : (i : ℕ) → i < k → IsTaken old now verdicts (stripe_of (get_or jobs i no_job).update)

module _ (old : List StripeView) (jobs : List StripeJob) (are : AreJobs (jobs_of_each old)) (whole : All IsWhole old) where
  length-old : length old ≡ 64
  length-old = sym (length-map old (λ (s : StripeView). s.jobs)) ∙ are.stripes

  pub AreTaken-start : (verdicts : List Verdict) → length verdicts ≡ 64 → AreTaken old old verdicts jobs 0
  AreTaken-start verdicts size = record { size = length-old; rows = refl; sessions = size; each = λ m. inl refl; first = λ i lt. absurd (omega arith) }

  old-sessions : (m : ℕ) → All (λ j. j.session < 64) (get_or (jobs_of_each old) m [])
  old-sessions m = All-weaker (IsJobOf m) (λ j. j.session < 64) (λ j h. h.session) (get_or (jobs_of_each old) m []) (are.each m)

  once-old : (m x : ℕ) → count_by (λ j. j.session == x) (get_or (jobs_of_each old) m []) ≤ 1
  once-old m x =
      elim (cases_lt m (length (jobs_of_each old))) [
        | inl lt ↦ (let le = get_or-le-sum_by (λ (i : List StripeJob). count_by (λ j. j.session == x) i) (jobs_of_each old) m [] lt in let few = are.once x in omega (arith, le, few))
        | inr past ↦ (let none = ap (count_by (λ (j : StripeJob). j.session == x)) (get_or_past (jobs_of_each old) m [] past) in omega (arith, none))
      ]

  module _ (now : List StripeView) (verdicts : List Verdict) (k : ℕ) (taken : AreTaken old now verdicts jobs k) where
    -- the jobs of a stripe are those before, or none
    jobs-cases : (m : ℕ) → ((get_or now m no_stripe).jobs ≡ get_or (jobs_of_each old) m []) ⊎ ((get_or now m no_stripe).jobs ≡ [])
    jobs-cases m =
        elim (taken.each m) [
          | inl same ↦ inl (ap (λ (s : StripeView). s.jobs) same ∙ sym (jobs-read old m))
          | inr gone ↦ inr gone.idle.jobs
        ]

    pub sessions-now : (m : ℕ) → All (λ j. j.session < length verdicts) (get_or now m no_stripe).jobs
    sessions-now m =
        let size = taken.sessions in
        subst (λ n. All (λ (j : StripeJob). j.session < n) (get_or now m no_stripe).jobs) (sym size)
        (elim (jobs-cases m) [
          | inl same ↦ subst (All (λ (j : StripeJob). j.session < 64)) (sym same) (old-sessions m)
          | inr none ↦ subst (All (λ (j : StripeJob). j.session < 64)) (sym none) (All-nil (λ j. j.session < 64))
        ])

    room-now : (m : ℕ) → m < 64 → (get_or now m no_stripe).job_room ≡ 64
    room-now m lt =
        elim (taken.each m) [
          | inl same ↦ ap (λ (s : StripeView). s.job_room) same ∙ (whole m no_stripe (let size = length-old in omega arith)).memory
          | inr gone ↦ gone.idle.memory
        ]

    -- the jobs of the stripe of one job more
    module _ (j : StripeJob) (s new : StripeView) (told : List Verdict) (read : s ≡ get_or now (stripe_of j.update) s) (is : new ≡ record s { jobs = []; log = [] })
        (noted : told ≡ fold with_told verdicts s.jobs) where
      here : ℕ
      here = stripe_of j.update

      within : stripe_of j.update < length now
      within = (let low = stripe_of-lt j.update in let size = taken.size in omega arith)

      stripe-is : s ≡ get_or now (stripe_of j.update) no_stripe
      stripe-is = get_or_read now (stripe_of j.update) s within read no_stripe

      new-idle : IsIdle (get_or (set now (stripe_of j.update) new) (stripe_of j.update) no_stripe)
      new-idle =
          subst IsIdle (sym (get_or-set_same now (stripe_of j.update) new no_stripe within ∙ is))
          (record { jobs = refl; log = refl; memory = ap (λ (x : StripeView). x.job_room) stripe-is ∙ room-now (stripe_of j.update) (stripe_of-lt j.update) })

      -- its verdicts
      new-noted : AreNoted told (get_or (jobs_of_each old) (stripe_of j.update) [])
      new-noted =
          let m = stripe_of j.update in
          let before : List StripeJob = get_or (jobs_of_each old) m [] in
          let jobs_are = ap (λ (x : StripeView). x.jobs) stripe-is in
          subst (λ (v : List Verdict). AreNoted v (get_or (jobs_of_each old) m [])) (sym noted)
          (elim (taken.each m) [
            | inl same ↦ subst (λ (l : List StripeJob). AreNoted (fold with_told verdicts l) (get_or (jobs_of_each old) m []))
                (sym (jobs_are ∙ ap (λ (x : StripeView). x.jobs) same ∙ sym (jobs-read old m)))
                (told-each verdicts before (subst (λ n. All (λ (i : StripeJob). i.session < n) before) (sym taken.sessions) (old-sessions m)) (once-old m))
            | inr gone ↦ subst (λ (l : List StripeJob). AreNoted (fold with_told verdicts l) (get_or (jobs_of_each old) m [])) (sym (jobs_are ∙ gone.idle.jobs)) gone.noted
          ])

      -- those of another stripe stay
      other-taken : (n : ℕ) → n ≢ stripe_of j.update → IsTaken old now verdicts n → IsTaken old (set now (stripe_of j.update) new) told n
      other-taken n other gone =
          let m = stripe_of j.update in
          let jobs_are = ap (λ (x : StripeView). x.jobs) stripe-is in
          record {
            idle = subst IsIdle (sym (get_or-set_other now m n new no_stripe other)) gone.idle;
            noted = subst (λ (v : List Verdict). AreNoted v (get_or (jobs_of_each old) n [])) (sym noted)
                (told-others verdicts s.jobs (get_or (jobs_of_each old) n [])
                (elim (jobs-cases m) [
                  | inl same ↦ subst (λ (l : List StripeJob). All (λ j. All (λ i. i.session ≢ j.session) l) (get_or (jobs_of_each old) n [])) (sym (jobs_are ∙ same))
                      (sessions-apart (jobs_of_each old) m n are (λ e. other (sym e)))
                  | inr none ↦ subst (λ (l : List StripeJob). All (λ j. All (λ i. i.session ≢ j.session) l) (get_or (jobs_of_each old) n [])) (sym (jobs_are ∙ none))
                      (λ a d lt. All-nil (λ i. i.session ≢ (get_or (get_or (jobs_of_each old) n []) a d).session))
                ]) gone.noted);
          }

      own-taken : IsTaken old (set now (stripe_of j.update) new) told (stripe_of j.update)
      own-taken = record { idle = new-idle; noted = new-noted }

      stays : (n : ℕ) → IsTaken old now verdicts n → IsTaken old (set now (stripe_of j.update) new) told n
      stays n gone =
          elim (cases_eq n (stripe_of j.update)) [
            | inl own ↦ subst (IsTaken old (set now (stripe_of j.update) new) told) (sym own) own-taken
            | inr other ↦ other-taken n other gone
          ]

      pub AreTaken-step : get_or jobs k no_job ≡ j → AreTaken old (set now (stripe_of j.update) new) told jobs (k + 1)
      AreTaken-step at = record {
        size = length-set now (stripe_of j.update) new ∙ taken.size;
        rows = unload-rows now (stripe_of j.update) s new within read (ap (λ (x : StripeView). x.rows) is) ∙ taken.rows;
        sessions = ap length noted ∙ length-told verdicts s.jobs ∙ taken.sessions;
        each = λ n. elim (cases_eq n (stripe_of j.update)) [
          | inl own ↦ inr (subst (IsTaken old (set now (stripe_of j.update) new) told) (sym own) own-taken)
          | inr other ↦ elim (taken.each n) [
            | inl same ↦ inl (get_or-set_other now (stripe_of j.update) n new no_stripe other ∙ same)
            | inr gone ↦ inr (other-taken n other gone)
          ]
        ];
        first = λ i lt. elim (cases_lt i k) [
          | inl before ↦ stays (stripe_of (get_or jobs i no_job).update) (taken.first i before)
          | inr past ↦ (let same : i ≡ k = omega arith in
              subst (λ (x : StripeJob). IsTaken old (set now (stripe_of j.update) new) told (stripe_of x.update)) (sym (ap (λ n. get_or jobs n no_job) same ∙ at)) own-taken)
        ];
      }

  -- in the end all are taken
  module _ (now : List StripeView) (verdicts : List Verdict) (taken : AreTaken old now verdicts jobs (length jobs)) (places : HasPlaces (jobs_of_each old) jobs) where
    pub all-taken : (m : ℕ) → m < 64 → IsTaken old now verdicts m
    all-taken m lt =
        elim (taken.each m) [
          | inl same ↦ elim (cases_lt 0 (length (get_or (jobs_of_each old) m []))) [
            | inl some ↦ (let at = places m some in subst (IsTaken old now verdicts) at.2 (taken.first at.0 at.1))
            | inr none ↦ (
                let empty : get_or (jobs_of_each old) m [] ≡ [] = nil_from_length (get_or (jobs_of_each old) m []) (omega arith) in
                let is = whole m no_stripe (let size = length-old in omega arith) in
                let jobs_are = sym (jobs-read old m) ∙ empty in
                record {
                  idle = subst IsIdle (sym same) (record { jobs = jobs_are; log = is.quiet jobs_are; memory = is.memory });
                  noted = subst (AreNoted verdicts) (sym empty) (All-nil (λ j. get_or verdicts j.session Waiting ≡ j.verdict));
                })
          ]
          | inr gone ↦ gone
        ]

    pub all-idle : All IsIdle now
    all-idle = All-from_get_or IsIdle now no_stripe (λ m lt. (let size = taken.size in (all-taken m (omega arith)).idle))

    pub all-noted : (m : ℕ) → AreNoted verdicts (get_or (jobs_of_each old) m [])
    all-noted m =
        elim (cases_lt m 64) [
          | inl lt ↦ (all-taken m lt).noted
          | inr past ↦ (let size = are.stripes in
              subst (AreNoted verdicts) (sym (get_or_past (jobs_of_each old) m [] (omega arith))) (All-nil (λ j. get_or verdicts j.session Waiting ≡ j.verdict)))
        ]
