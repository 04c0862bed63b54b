-- Jobs by stripe: at most one of each session, so at most 64.
use Rattle.std.proofs.Common.{◌≡◌, ◌≢◌, ℕ, ◌+◌, ◌<◌, ◌≤◌, ◌==◌, IsTrue, List, [], ◌∷◌, ◌++◌, None, length, get_or, set, map, nat_lt, suc, add_comm, Bool, arith, refl, inl, inr, sym, ap, subst, ◌∙◌, get_or-set_same, get_or-set_other}
use Rattle.std.specs.List.{All, Contains, count_by}
use Rattle.std.proofs.lemmas.Bool.{cases_Bool, cases_eq, cases_lt, eqb-true, eq-eqb, ne_eqb, ltb-true, ltb-false}
use Rattle.std.proofs.lemmas.List.{get_or_past, get_or_default, get_or-replicate, length-replicate, length-set, length-append, length-map}
use Rattle.std.proofs.lemmas.List.Elements.{All-nil, All-cons, All-head, All-tail, All-append, All-map, All-weaker, All-contains, Contains-get_or}
use Rattle.std.proofs.lemmas.List.Kept.{AllPairs-cons}
use Rattle.std.proofs.lemmas.List.Folds.{sum_by-replicate}
use Rattle.std.proofs.lemmas.List.Sums.{sum_by-append, sum_by-cons, sum_by-set, get_or-le-sum_by}
use Rattle.ris_base.specs.Effect.{first_past_limit}
use Rattle.ris_base.specs.Limits.{greatest_of}
use Rattle.ris_base.specs.declared.events.Verdict.{Verdict}
use Rattle.ris_base.specs.declared.events.Verdict.TheVariants.{Waiting}
use Rattle.ris_base.specs.declared.graphs.Format.TheVariants.{Two}
use Rattle.ris_base.specs.declared.updates.Update.{Update}
use Rattle.ris_base.specs.declared.updates.Update.TheVariants.{AddV, DelV, AddE, DelE, SetW}
use Rattle.ris_base.proofs.EffectLemmas.{one_if, count_by-cons}
use Rattle.ris_base.proofs.ListLemmas.{Contains-none, Contains-first, Contains-rest}
use Rattle.ris_graph.proofs.ListFacts.{AllPairs-head, AllPairs-nil, AllPairs-tail, few-once, found-count}
use Rattle.ris_graph.specs.Jobs.{AreAscending, AreJobs, AreTold, HasSession, IsJob, IsJobOf, is_job, job_count, jobs_of, no_jobs, stripe_of, with_job, with_session}
use Rattle.ris_graph.specs.declared.stripes.StripeJob.{StripeJob}

-- Sessions

-- the sessions of jobs, one after another
abbrev pub sessions_of : List (List StripeJob) → List ℕ
sessions_of [] = []
sessions_of (jobs ∷ js) = map (λ j. j.session) jobs ++ sessions_of js

pub count_by-sessions : (s : ℕ) (jobs : List StripeJob) → count_by (λ y. y == s) (map (λ (j : StripeJob). j.session) jobs) ≡ count_by (λ j. j.session == s) jobs
count_by-sessions s [] = refl
count_by-sessions s (j ∷ jobs) =
    let rest = count_by-sessions s jobs in
    let here = count_by-cons (λ (i : StripeJob). i.session == s) j jobs in
    let there = count_by-cons (λ (y : ℕ). y == s) j.session (map (λ (i : StripeJob). i.session) jobs) in
    omega arith

count_by-sessions_of : (s : ℕ) (js : List (List StripeJob)) → count_by (λ y. y == s) (sessions_of js) ≡ jobs_of s js
count_by-sessions_of s [] = refl
count_by-sessions_of s (jobs ∷ js) =
    let rest = count_by-sessions_of s js in
    let both = sum_by-append (λ (y : ℕ). one_if (y == s)) (map (λ (j : StripeJob). j.session) jobs) (sessions_of js) in
    let first = count_by-sessions s jobs in
    let whole = sum_by-cons (λ (l : List StripeJob). count_by (λ j. j.session == s) l) jobs js in
    omega arith

length-sessions_of : (js : List (List StripeJob)) → length (sessions_of js) ≡ job_count js
length-sessions_of [] = refl
length-sessions_of (jobs ∷ js) =
    let rest = length-sessions_of js in
    let both = length-append (map (λ (j : StripeJob). j.session) jobs) (sessions_of js) in
    let first = length-map jobs (λ (j : StripeJob). j.session) in
    let whole = sum_by-cons (λ (l : List StripeJob). length l) jobs js in
    omega arith

All-sessions_of : (P : ℕ → Type 0) (js : List (List StripeJob)) → All (All (λ j. P j.session)) js → All P (sessions_of js)
All-sessions_of P [] each = All-nil P
All-sessions_of P (jobs ∷ js) each =
    All-append P (map (λ (j : StripeJob). j.session) jobs) (sessions_of js) (All-map P (λ (j : StripeJob). j.session) jobs (All-head (All (λ j. P j.session)) jobs js each))
    (All-sessions_of P js (All-tail (All (λ j. P j.session)) jobs js each))

-- a job of one of the stripes has what holds of each
pub each-job : (P : ℕ → StripeJob → Type 0) (js : List (List StripeJob)) → ((m : ℕ) → All (P m) (get_or js m [])) → (m : ℕ) (j : StripeJob) → Contains (get_or js m []) j → P m j
each-job P js each m j has = All-contains (P m) (get_or js m []) j (each m) has

-- a job stands at a place
pub job-stripe : (js : List (List StripeJob)) (j : StripeJob) → IsJob js j → (m : ℕ) × (m < length js) × Contains (get_or js m []) j
job-stripe js j h =
    let m = h.1.0 in
    let lt = h.1.1 in
    (m, lt, subst (λ (l : List StripeJob). Contains l j) (sym h.1.2 ∙ get_or_default js m h.0 [] lt) h.2)

-- and what stands at a place is a job
pub IsJob-at : (js : List (List StripeJob)) (m : ℕ) (j : StripeJob) → Contains (get_or js m []) j → IsJob js j
IsJob-at js m j has =
    elim (cases_lt m (length js)) [
      | inl lt ↦ (get_or js m [], Contains-get_or js m [] lt, has)
      | inr past ↦ absurd (Contains-none j (subst (λ (l : List StripeJob). Contains l j) (get_or_past js m [] past) has))
    ]

-- a session that has jobs has one
pub HasSession-count : (js : List (List StripeJob)) (s : ℕ) → 0 < jobs_of s js → HasSession js s
HasSession-count [] s some = absurd (omega arith)
HasSession-count (jobs ∷ js) s some =
    let whole = sum_by-cons (λ (l : List StripeJob). count_by (λ j. j.session == s) l) jobs js in
    elim (cases_lt 0 (count_by (λ j. j.session == s) jobs)) [
      | inl here ↦ (let r = found-count (λ (j : StripeJob). j.session == s) jobs here in (r.0, (jobs, Contains-first jobs js, r.1), eqb-true r.0.session s r.2))
      | inr none ↦ (let r = HasSession-count js s (omega arith) in (r.0, (r.1.0, Contains-rest jobs js r.1.0 r.1.1, r.1.2), r.2))
    ]

-- The number of jobs

all_below : (js : List (List StripeJob)) → AreJobs js → All (λ x. x < 64) (sessions_of js)
all_below js are =
    All-sessions_of (λ x. x < 64) js (λ m d lt k e less. (
    let jobs : List StripeJob = get_or js m d in
    let same : get_or js m d ≡ get_or js m [] = get_or_default js m d [] lt in
    (All-contains (IsJobOf m) (get_or js m []) (get_or jobs k e) (are.each m) (subst (λ (l : List StripeJob). Contains l (get_or jobs k e)) same (Contains-get_or jobs k e less))).session))

-- there are at most 64
pub job_count-le : (js : List (List StripeJob)) → AreJobs js → job_count js ≤ 64
job_count-le js are =
    let few = few-once 64 (sessions_of js) (all_below js are) (λ x. (let same = count_by-sessions_of x js in let once = are.once x in omega arith)) in
    let size = length-sessions_of js in
    omega arith

-- and fewer where a session has none
pub job_count-lt : (js : List (List StripeJob)) (s : ℕ) → AreJobs js → s < 64 → ¬ (HasSession js s) → job_count js < 64
job_count-lt js s are low none =
    let few = few-once 64 (s ∷ sessions_of js) (All-cons (λ x. x < 64) s (sessions_of js) low (all_below js are)) (λ x. (
    let first = count_by-cons (λ (y : ℕ). y == x) s (sessions_of js) in
    let same = count_by-sessions_of x js in
    elim (cases_eq s x) [
      | inl e ↦ (let one : one_if (s == x) ≡ 1 = rw (eq-eqb s x e) refl in
          elim (cases_lt 0 (jobs_of x js)) [ inl some ↦ absurd (none (rw e (HasSession-count js x some))) | inr past ↦ omega arith ])
      | inr n ↦ (let zero : one_if (s == x) ≡ 0 = rw (ne_eqb s x n) refl in let once = are.once x in omega arith)
    ])) in
    let size = length-sessions_of js in
    omega arith

pub stripe-jobs-le : (js : List (List StripeJob)) (m : ℕ) → length (get_or js m []) ≤ job_count js
stripe-jobs-le js m =
    elim (cases_lt m (length js)) [
      | inl lt ↦ get_or-le-sum_by (λ (l : List StripeJob). length l) js m [] lt
      | inr past ↦ (let none = ap length (get_or_past js m [] past) in omega arith)
    ]

-- the jobs of two stripes are of other sessions
pub sessions-apart : (js : List (List StripeJob)) (m n : ℕ) → AreJobs js → m ≢ n → All (λ j. All (λ i. i.session ≢ j.session) (get_or js m [])) (get_or js n [])
sessions-apart js m n are other a d lt b e less same =
    let x = (get_or (get_or js n []) a d).session in
    let f = λ (l : List StripeJob). count_by (λ j. j.session == x) l in
    let first = get_or-le-sum_by (λ (j : StripeJob). one_if (j.session == x)) (get_or js n []) a d lt in
    let second = get_or-le-sum_by (λ (j : StripeJob). one_if (j.session == x)) (get_or js m []) b e less in
    let one : one_if ((get_or (get_or js n []) a d).session == x) ≡ 1 = rw (eq-eqb (get_or (get_or js n []) a d).session x refl) refl in
    let two : one_if ((get_or (get_or js m []) b e).session == x) ≡ 1 = rw (eq-eqb (get_or (get_or js m []) b e).session x same) refl in
    let whole = λ (inside : m < length js). sum_by-set f js m [] [] inside in
    let rest = λ (inside : n < length (set js m [])). get_or-le-sum_by f (set js m []) n [] inside in
    let read = ap f (get_or-set_other js m n [] [] (λ e. other (sym e))) in
    let size = length-set {A = List StripeJob} js m [] in
    let few = are.once x in
    elim (cases_lt m (length js)) [
      | inl at ↦ elim (cases_lt n (length js)) [
        | inl there ↦ (let all = whole at in let some = rest (omega (arith, size, there)) in absurd (omega (arith, all, some, read, first, second, one, two, few)))
        | inr past ↦ (let none = ap length (get_or_past js n [] past) in absurd (omega (arith, none, lt)))
      ]
      | inr past ↦ (let none = ap length (get_or_past js m [] past) in absurd (omega (arith, none, less)))
    ]

-- No jobs

pub no_jobs-at : (m : ℕ) → get_or no_jobs m [] ≡ []
no_jobs-at m =
    elim (cases_lt m 64) [ inl lt ↦ get_or-replicate 64 m [] [] lt | inr past ↦ get_or_past no_jobs m [] (let size = length-replicate {A = List StripeJob} 64 [] in omega arith) ]

pub AreJobs-none : AreJobs no_jobs
AreJobs-none = record {
  stripes = length-replicate {A = List StripeJob} 64 [];
  each = λ m. rw (no_jobs-at m) (All-nil (IsJobOf m));
  once = λ s. (let zero = sum_by-replicate (λ (l : List StripeJob). count_by (λ j. j.session == s) l) 64 [] in omega arith);
  ascending = λ m. rw (no_jobs-at m) (AllPairs-nil (λ (i j : StripeJob). i.session < j.session));
}

pub AreTold-none : (verdicts : List Verdict) → length verdicts ≡ 64 → AreTold no_jobs verdicts
AreTold-none verdicts size = record { sessions = size; told = λ m. rw (no_jobs-at m) (All-nil (λ j. get_or verdicts j.session Waiting ≡ j.verdict)) }

-- One job more in a list

pub length-with_session : (jobs : List StripeJob) (j : StripeJob) → length (with_session jobs j) ≡ suc (length jobs)
length-with_session [] j = refl
length-with_session (i ∷ jobs) j =
    elim (cases_Bool (nat_lt i.session j.session)) [
      | inl less ↦ rw less (ap (λ n. suc n) (length-with_session jobs j))
      | inr more ↦ rw more refl
    ]

pub count_by-with_session : (p : StripeJob → Bool) (jobs : List StripeJob) (j : StripeJob) → count_by p (with_session jobs j) ≡ count_by p jobs + one_if (p j)
count_by-with_session p [] j = count_by-cons p j [] ∙ add_comm (one_if (p j)) 0
count_by-with_session p (i ∷ jobs) j =
    let old = count_by-cons p i jobs in
    elim (cases_Bool (nat_lt i.session j.session)) [
      | inl less ↦ rw less (let rest = count_by-with_session p jobs j in let new = count_by-cons p i (with_session jobs j) in omega (arith, rest, new, old))
      | inr more ↦ rw more (let new = count_by-cons p j (i ∷ jobs) in omega (arith, new))
    ]

pub All-with_session : (P : StripeJob → Type 0) (jobs : List StripeJob) (j : StripeJob) → All P jobs → P j → All P (with_session jobs j)
All-with_session P [] j all here = All-cons P j [] here all
All-with_session P (i ∷ jobs) j all here =
    elim (cases_Bool (nat_lt i.session j.session)) [
      | inl less ↦ rw less (All-cons P i (with_session jobs j) (All-head P i jobs all) (All-with_session P jobs j (All-tail P i jobs all) here))
      | inr more ↦ rw more (All-cons P j (i ∷ jobs) here all)
    ]

pub AreAscending-with_session : (jobs : List StripeJob) (j : StripeJob) → AreAscending jobs → All (λ i. i.session ≢ j.session) jobs → AreAscending (with_session jobs j)
AreAscending-with_session [] j rise others = AllPairs-cons (λ (a b : StripeJob). a.session < b.session) j [] (All-nil (λ (b : StripeJob). j.session < b.session)) rise
AreAscending-with_session (i ∷ jobs) j rise others =
    let R = λ (a b : StripeJob). a.session < b.session in
    let above : All (λ (b : StripeJob). i.session < b.session) jobs = AllPairs-head R i jobs rise in
    let other = All-head (λ (a : StripeJob). a.session ≢ j.session) i jobs others in
    elim (cases_Bool (nat_lt i.session j.session)) [
      | inl less ↦ rw less (AllPairs-cons R i (with_session jobs j) (All-with_session (λ (b : StripeJob). i.session < b.session) jobs j above (ltb-true i.session j.session less))
          (AreAscending-with_session jobs j (AllPairs-tail R i jobs rise) (All-tail (λ (a : StripeJob). a.session ≢ j.session) i jobs others)))
      | inr more ↦ (let le = ltb-false i.session j.session more in
          let lt : j.session < i.session = apart i.session j.session le other in
          rw more (AllPairs-cons R j (i ∷ jobs) (All-cons (λ (b : StripeJob). j.session < b.session) i jobs lt
          (All-weaker (λ (b : StripeJob). i.session < b.session) (λ (b : StripeJob). j.session < b.session) (λ b h. omega arith) jobs above)) rise))
    ]
  where
    apart : (a b : ℕ) → b ≤ a → a ≢ b → b < a
    apart a b le ne = omega arith

-- One job more

pub stripe_of-lt : (update : Update) → stripe_of update < 64
stripe_of-lt (AddV x) = omega arith
stripe_of-lt (DelV x) = omega arith
stripe_of-lt (AddE u v w) = omega arith
stripe_of-lt (DelE u v w) = omega arith
stripe_of-lt (SetW u v w w2) = omega arith

jobs_of-with_job : (js : List (List StripeJob)) (s : ℕ) (update : Update) (x : ℕ) → length js ≡ 64 → jobs_of x (with_job js s update) ≡ jobs_of x js + one_if (s == x)
jobs_of-with_job js s update x size =
    let m = stripe_of update in
    let low = stripe_of-lt update in
    let job : StripeJob = record { session = s; update = update; verdict = Waiting } in
    let jobs : List StripeJob = get_or js m [] in
    let whole = sum_by-set (λ (l : List StripeJob). count_by (λ j. j.session == x) l) js m (with_session jobs job) [] (omega arith) in
    let more = count_by-with_session (λ (j : StripeJob). j.session == x) jobs job in
    omega (arith, whole, more)

pub AreJobs-with_job : (js : List (List StripeJob)) (s : ℕ) (update : Update) → AreJobs js → s < 64 → ¬ (HasSession js s) → IsTrue (is_job update)
    → first_past_limit (greatest_of Two) update ≡ None → AreJobs (with_job js s update)
AreJobs-with_job js s update are low none kind limits =
    let m = stripe_of update in
    let size = are.stripes in
    let lt = stripe_of-lt update in
    let job : StripeJob = record { session = s; update = update; verdict = Waiting } in
    let jobs : List StripeJob = get_or js m [] in
    let others : All (λ i. i.session ≢ s) jobs = λ i d less same. none (get_or jobs i d, IsJob-at js m (get_or jobs i d) (Contains-get_or jobs i d less), same) in
    record {
      stripes = length-set js m (with_session jobs job) ∙ are.stripes;
      each = λ k. elim (cases_eq k m) [
        | inl same ↦ rw (same, get_or-set_same js m (with_session jobs job) [] (omega arith))
            (All-with_session (IsJobOf m) jobs job (are.each m) (record { session = low; kind = kind; limits = limits; home = refl }))
        | inr other ↦ rw (get_or-set_other js m k (with_session jobs job) [] other) (are.each k)
      ];
      ascending = λ k. elim (cases_eq k m) [
        | inl same ↦ rw (same, get_or-set_same js m (with_session jobs job) [] (omega arith)) (AreAscending-with_session jobs job (are.ascending m) others)
        | inr other ↦ rw (get_or-set_other js m k (with_session jobs job) [] other) (are.ascending k)
      ];
      once = λ x. (
          let now = jobs_of-with_job js s update x are.stripes in
          elim (cases_eq s x) [
            | inl e ↦ (let one : one_if (s == x) ≡ 1 = rw (eq-eqb s x e) refl in
                elim (cases_lt 0 (jobs_of x js)) [ inl some ↦ absurd (none (rw e (HasSession-count js x some))) | inr past ↦ omega arith ])
            | inr n ↦ (let zero : one_if (s == x) ≡ 0 = rw (ne_eqb s x n) refl in let once = are.once x in omega arith)
          ]);
    }

-- and the table has its verdict
pub AreTold-with_job : (js : List (List StripeJob)) (s : ℕ) (update : Update) (verdicts : List Verdict) → length js ≡ 64 → s < 64 → ¬ (HasSession js s) → AreTold js verdicts
    → AreTold (with_job js s update) (set verdicts s Waiting)
AreTold-with_job js s update verdicts size low none told =
    let m = stripe_of update in
    let lt = stripe_of-lt update in
    let job : StripeJob = record { session = s; update = update; verdict = Waiting } in
    let jobs : List StripeJob = get_or js m [] in
    let sessions = told.sessions in
    let old : (k : ℕ) → All (λ j. get_or (set verdicts s Waiting) j.session Waiting ≡ j.verdict) (get_or js k []) = λ k i d less. (
    let j : StripeJob = get_or (get_or js k []) i d in
    let other : j.session ≢ s = λ same. none (j, IsJob-at js k j (Contains-get_or (get_or js k []) i d less), same) in
    get_or-set_other verdicts s j.session Waiting Waiting other ∙ told.told k i d less) in
    record {
      sessions = length-set verdicts s Waiting ∙ told.sessions;
      told = λ k. elim (cases_eq k m) [
        | inl same ↦ rw (same, get_or-set_same js m (with_session jobs job) [] (omega arith))
            (All-with_session (λ j. get_or (set verdicts s Waiting) j.session Waiting ≡ j.verdict) jobs job (old m) (get_or-set_same verdicts s Waiting Waiting (omega arith)))
        | inr other ↦ rw (get_or-set_other js m k (with_session jobs job) [] other) (old k)
      ];
    }

-- The verdict of a session

pub session-lt : (js : List (List StripeJob)) (s : ℕ) → AreJobs js → HasSession js s → s < 64
session-lt js s are h =
    let at = job-stripe js h.0 h.1 in
    let of = each-job (λ m j. IsJobOf m j) js are.each at.0 h.0 at.2 in
    rw (← h.2) of.session

pub told-job : (js : List (List StripeJob)) (verdicts : List Verdict) (j : StripeJob) → AreTold js verdicts → IsJob js j → get_or verdicts j.session Waiting ≡ j.verdict
told-job js verdicts j told h =
    let at = job-stripe js j h in
    each-job (λ m i. get_or verdicts i.session Waiting ≡ i.verdict) js told.told at.0 j at.2
