-- Jobs in one list, in the order of their sessions, and the same jobs by stripe.
use Rattle.std.proofs.Common.{◌≡◌, ◌≢◌, ℕ, zero, suc, ◌+◌, ◌<◌, ◌≤◌, ◌⊎◌, ◌==◌, nat_lt, cond, Bool, false, IsTrue, None, List, [], ◌∷◌, ◌++◌, length, get_or, map, set, arith, refl, inl, inr, sym, ap, subst, ◌∙◌, get_or-set_same, get_or-set_other}
use Rattle.std.specs.List.{All, Contains, count_by, filter, fold}
use Rattle.std.specs.List.Sorted.{IsNonDecreasingBy}
use Rattle.std.proofs.lemmas.Bool.{cases_Bool, cases_eq, cases_lt, eq-eqb, eqb-true, ne_eqb, le-ltb, lt-ltb, ltb-false}
use Rattle.std.proofs.lemmas.List.{append-nil, ext_get_or, get_or-map, get_or_default, get_or_past, length-map, length-replicate, length-set}
use Rattle.std.proofs.lemmas.List.Elements.{All-cons, All-contains, All-filter, All-from_get_or, All-head, All-nil, All-tail, All-weaker, Contains-get_or, filter-append}
use Rattle.std.proofs.lemmas.List.Sums.{get_or-le-sum_by, sum_by-cons}
use Rattle.ris_base.specs.Effect.{first_past_limit}
use Rattle.ris_base.specs.Limits.{greatest_of}
use Rattle.ris_base.specs.Lists.{numbers_below}
use Rattle.ris_base.specs.declared.events.Verdict.{Verdict}
use Rattle.ris_base.specs.declared.events.Verdict.TheVariants.{Waiting}
use Rattle.ris_base.specs.declared.graphs.Format.TheVariants.{Two}
use Rattle.ris_base.specs.declared.updates.Update.{Update}
use Rattle.ris_base.proofs.EffectLemmas.{count_by-cons, one_if}
use Rattle.ris_base.proofs.ListLemmas.{All-from_Contains, Contains-cases, Contains-filter, Contains-filtered, Contains-first, Contains-none, Contains-rest}
use Rattle.ris_base.proofs.NumbersBelow.{get_or-numbers_below, length-numbers_below}
use Rattle.ris_graph.specs.Jobs.{AreAscending, AreJobs, HasSession, IsJobOf, by_stripe, in_order, is_job, job_count, jobs_of, no_jobs, stripe_of, with_job, with_session}
use Rattle.ris_graph.specs.Settling.{HasPlaces, judged}
use Rattle.ris_graph.specs.StripeView.{no_job}
use Rattle.ris_graph.specs.declared.stripes.StripeJob.{StripeJob}
use Rattle.ris_graph.proofs.JobLemmas.{All-with_session, AreAscending-with_session, AreJobs-with_job, IsJob-at, count_by-with_session, length-with_session, no_jobs-at, stripe_of-lt}
use Rattle.ris_graph.proofs.ListFacts.{AllPairs-head, AllPairs-nil, AllPairs-tail}

-- Jobs by stripe

-- the jobs of stripe m
abbrev pub of_stripe : ℕ → List StripeJob → List StripeJob
of_stripe m jobs = filter (λ j. stripe_of j.update == m) jobs

pub length-by_stripe : (jobs : List StripeJob) → length (by_stripe jobs) ≡ 64
unfolding by_stripe
length-by_stripe jobs = length-map (numbers_below 64) (λ m. of_stripe m jobs) ∙ length-numbers_below 64

pub get_or-by_stripe : (jobs : List StripeJob) (m : ℕ) → m < 64 → get_or (by_stripe jobs) m [] ≡ of_stripe m jobs
unfolding by_stripe
get_or-by_stripe jobs m lt =
    let size = length-numbers_below 64 in
    get_or-map (λ k. of_stripe k jobs) (numbers_below 64) m 0 [] (omega arith) ∙ ap (λ k. of_stripe k jobs) (get_or-numbers_below 64 m 0 lt)

-- 64 lists that have the jobs of each stripe
pub by_stripe-is : (jobs : List StripeJob) (js : List (List StripeJob)) → length js ≡ 64 → ((m : ℕ) → m < 64 → of_stripe m jobs ≡ get_or js m []) → by_stripe jobs ≡ js
by_stripe-is jobs js size same =
    let long = length-by_stripe jobs in
    ext_get_or [] (by_stripe jobs) js (long ∙ sym size) (λ m lt. get_or-by_stripe jobs m (omega arith) ∙ same m (omega arith))

pub by_stripe-nil : by_stripe [] ≡ no_jobs
by_stripe-nil = by_stripe-is [] no_jobs (length-replicate {A = List StripeJob} 64 []) (λ m lt. sym (no_jobs-at m))

-- what holds of the jobs of each stripe holds of all
pub All-by_stripe : (P : StripeJob → Type 0) (jobs : List StripeJob) → ((m : ℕ) → All P (get_or (by_stripe jobs) m [])) → All P jobs
All-by_stripe P jobs each =
    All-from_Contains P jobs (λ j has. (
    let m = stripe_of j.update in
    let here = Contains-filtered (λ (i : StripeJob). stripe_of i.update == m) jobs j has (eq-eqb m m refl) in
    All-contains P (of_stripe m jobs) j (subst (All P) (get_or-by_stripe jobs m (stripe_of-lt j.update)) (each m)) here))

-- One job more at the end

pub by_stripe-push : (jobs : List StripeJob) (j : StripeJob) → by_stripe (jobs ++ j ∷ []) ≡ set (by_stripe jobs) (stripe_of j.update) (get_or (by_stripe jobs) (stripe_of j.update) [] ++ j ∷ [])
by_stripe-push jobs j =
    let js = by_stripe jobs in
    let at = stripe_of j.update in
    let size = length-by_stripe jobs in
    let low = stripe_of-lt j.update in
    let here : List StripeJob = get_or js at [] ++ j ∷ [] in
    by_stripe-is (jobs ++ j ∷ []) (set js at here) (length-set js at here ∙ size) (λ m lt.
    filter-append (λ (i : StripeJob). stripe_of i.update == m) jobs (j ∷ []) ∙ elim (cases_eq m at) [
      | inl own ↦ rw (eq-eqb at m (sym own)) (ap (λ (l : List StripeJob). l ++ j ∷ []) (sym (get_or-by_stripe jobs m lt) ∙ ap (λ k. get_or js k []) own)
          ∙ sym (ap (λ k. get_or (set js at here) k []) own ∙ get_or-set_same js at here [] (omega arith)))
      | inr other ↦ rw (ne_eqb at m (λ e. other (sym e))) (append-nil (of_stripe m jobs) ∙ sym (get_or-by_stripe jobs m lt) ∙ sym (get_or-set_other js at m here [] other))
    ])

-- One job more in the order of sessions

with_session-first : (jobs : List StripeJob) (j : StripeJob) → All (λ i. j.session ≤ i.session) jobs → with_session jobs j ≡ j ∷ jobs
with_session-first [] j all = refl
with_session-first (i ∷ jobs) j all = rw (le-ltb i.session j.session (All-head (λ (x : StripeJob). j.session ≤ x.session) i jobs all)) refl

-- it comes between the lesser and the greater
pub with_session-between : (xs ys : List StripeJob) (j : StripeJob) → All (λ i. i.session < j.session) xs → All (λ i. j.session ≤ i.session) ys → with_session (xs ++ ys) j ≡ xs ++ j ∷ ys
with_session-between [] ys j low high = with_session-first ys j high
with_session-between (x ∷ xs) ys j low high =
    rw (lt-ltb x.session j.session (All-head (λ (i : StripeJob). i.session < j.session) x xs low))
    (ap (λ l. x ∷ l) (with_session-between xs ys j (All-tail (λ (i : StripeJob). i.session < j.session) x xs low) high))

filter-with_session : (p : StripeJob → Bool) (jobs : List StripeJob) (j : StripeJob) → AreAscending jobs → filter p (with_session jobs j) ≡ cond (p j) (with_session (filter p jobs) j) (filter p jobs)
filter-with_session p [] j rise = refl
filter-with_session p (i ∷ jobs) j rise =
    let R = λ (a b : StripeJob). a.session < b.session in
    let rest = filter-with_session p jobs j (AllPairs-tail R i jobs rise) in
    elim (cases_Bool (nat_lt i.session j.session)) [
      | inl less ↦ (elim (cases_Bool (p i)) [
        | inl stays ↦ (elim (cases_Bool (p j)) [
          | inl own ↦ rw (less, stays, less, own) (ap (λ l. i ∷ l) (rw own at rest))
          | inr other ↦ rw (less, stays, other) (ap (λ l. i ∷ l) (rw other at rest))
        ])
        | inr goes ↦ rw (less, goes) rest
      ])
      | inr more ↦ (
          let le = ltb-false i.session j.session more in
          let above : All (λ (b : StripeJob). i.session < b.session) jobs = AllPairs-head R i jobs rise in
          let high = All-cons (λ (x : StripeJob). j.session ≤ x.session) i jobs le
          (All-weaker (λ (x : StripeJob). i.session < x.session) (λ (x : StripeJob). j.session ≤ x.session) (λ x h. omega arith) jobs above) in
          rw more (ap (λ (l : List StripeJob). cond (p j) l (filter p (i ∷ jobs)))
          (sym (with_session-first (filter p (i ∷ jobs)) j (All-filter p (λ (x : StripeJob). j.session ≤ x.session) (i ∷ jobs) high)))))
    ]

pub by_stripe-with_session : (jobs : List StripeJob) (j : StripeJob) → AreAscending jobs
    → by_stripe (with_session jobs j) ≡ set (by_stripe jobs) (stripe_of j.update) (with_session (get_or (by_stripe jobs) (stripe_of j.update) []) j)
by_stripe-with_session jobs j rise =
    let js = by_stripe jobs in
    let at = stripe_of j.update in
    let size = length-by_stripe jobs in
    let low = stripe_of-lt j.update in
    let here : List StripeJob = with_session (get_or js at []) j in
    by_stripe-is (with_session jobs j) (set js at here) (length-set js at here ∙ size) (λ m lt.
    filter-with_session (λ (i : StripeJob). stripe_of i.update == m) jobs j rise ∙ elim (cases_eq m at) [
      | inl own ↦ rw (eq-eqb at m (sym own)) (ap (λ (l : List StripeJob). with_session l j) (sym (get_or-by_stripe jobs m lt) ∙ ap (λ k. get_or js k []) own)
          ∙ sym (ap (λ k. get_or (set js at here) k []) own ∙ get_or-set_same js at here [] (omega arith)))
      | inr other ↦ rw (ne_eqb at m (λ e. other (sym e))) (sym (get_or-by_stripe jobs m lt) ∙ sym (get_or-set_other js at m here [] other))
    ])

pub IsNonDecreasing-ascending : (jobs : List StripeJob) → AreAscending jobs → IsNonDecreasingBy (λ j. j.session) jobs
IsNonDecreasing-ascending jobs rise i j d le lt =
    elim (cases_lt i j) [
      | inl less ↦ (let more = rise i j d less lt in omega arith)
      | inr past ↦ (let same : i ≡ j = omega arith in let equal = ap (λ k. (get_or jobs k d).session) same in omega arith)
    ]

-- The number of jobs

ascending-place : (jobs : List StripeJob) (d : StripeJob) → AreAscending jobs → (k : ℕ) → k < length jobs → k ≤ (get_or jobs k d).session
ascending-place jobs d rise zero lt = omega arith
ascending-place jobs d rise (suc k) lt =
    let before = ascending-place jobs d rise k (omega arith) in
    let more = rise k (suc k) d (omega arith) lt in
    omega arith

pub sessions-low : (jobs : List StripeJob) → AreJobs (by_stripe jobs) → All (λ j. j.session < 64) jobs
sessions-low jobs are =
    All-by_stripe (λ j. j.session < 64) jobs (λ m. All-weaker (IsJobOf m) (λ (j : StripeJob). j.session < 64) (λ j h. h.session) (get_or (by_stripe jobs) m []) (are.each m))

-- jobs of ascending sessions are at most 64
pub few-ascending : (jobs : List StripeJob) → AreAscending jobs → AreJobs (by_stripe jobs) → length jobs ≤ 64
few-ascending jobs rise are =
    elim (cases_lt 64 (length jobs)) [
      | inl past ↦ (
          let d : StripeJob = no_job in
          let high = ascending-place jobs d rise 64 past in
          let low = sessions-low jobs are 64 d past in
          absurd (omega arith))
      | inr le ↦ le
    ]

-- where no job by stripe is of a session, none in the list is
pub no-session : (jobs : List StripeJob) (s : ℕ) → ¬ (HasSession (by_stripe jobs) s) → All (λ j. j.session ≢ s) jobs
no-session jobs s none =
    All-by_stripe (λ j. j.session ≢ s) jobs (λ m i d lt same. (
    let here : List StripeJob = get_or (by_stripe jobs) m [] in
    none (get_or here i d, IsJob-at (by_stripe jobs) m (get_or here i d) (Contains-get_or here i d lt), same)))

-- a job of a new session
pub record IsAdded (jobs new : List StripeJob) (s : ℕ) (update : Update) : Type 0 where
  pub is : by_stripe new ≡ with_job (by_stripe jobs) s update
  pub are : AreJobs (by_stripe new)
  pub ascending : AreAscending new
  pub few : length jobs < 64

pub added : (jobs : List StripeJob) (s : ℕ) (update : Update) → AreJobs (by_stripe jobs) → AreAscending jobs → s < 64 → ¬ (HasSession (by_stripe jobs) s) → IsTrue (is_job update)
    → first_past_limit (greatest_of Two) update ≡ None → IsAdded jobs (with_session jobs (record { session = s; update = update; verdict = Waiting })) s update
added jobs s update are rise low none kind limits =
    let job : StripeJob = record { session = s; update = update; verdict = Waiting } in
    let is : by_stripe (with_session jobs job) ≡ with_job (by_stripe jobs) s update = by_stripe-with_session jobs job rise in
    let new : AreJobs (by_stripe (with_session jobs job)) = subst AreJobs (sym is) (AreJobs-with_job (by_stripe jobs) s update are low none kind limits) in
    let climb = AreAscending-with_session jobs job rise (no-session jobs s none) in
    let size = length-with_session jobs job in
    let most = few-ascending (with_session jobs job) climb new in
    record { is = is; are = new; ascending = climb; few = omega arith }

-- The same jobs in another order

-- where sessions ascend, the same jobs are the same list
ascending-unique : (xs ys : List StripeJob) → AreAscending xs → AreAscending ys → ((j : StripeJob) → Contains xs j → Contains ys j) → ((j : StripeJob) → Contains ys j → Contains xs j) → xs ≡ ys
ascending-unique [] [] rise climb to from = refl
ascending-unique [] (y ∷ ys) rise climb to from = absurd (Contains-none y (from y (Contains-first y ys)))
ascending-unique (x ∷ xs) [] rise climb to from = absurd (Contains-none x (to x (Contains-first x xs)))
ascending-unique (x ∷ xs) (y ∷ ys) rise climb to from =
    let R = λ (a b : StripeJob). a.session < b.session in
    let above : All (λ (b : StripeJob). x.session < b.session) xs = AllPairs-head R x xs rise in
    let over : All (λ (b : StripeJob). y.session < b.session) ys = AllPairs-head R y ys climb in
    let first : x ≡ y = elim (Contains-cases y ys x (to x (Contains-first x xs))) [
      | inl e ↦ sym e
      | inr later ↦ elim (Contains-cases x xs y (from y (Contains-first y ys))) [
        | inl e ↦ e
        | inr behind ↦ (let a = All-contains (λ (b : StripeJob). y.session < b.session) ys x over later in
            let b = All-contains (λ (b : StripeJob). x.session < b.session) xs y above behind in absurd (omega arith))
      ]
    ] in
    let same = ap (λ (j : StripeJob). j.session) first in
    ap (λ (j : StripeJob). j ∷ xs) first ∙ ap (λ l. y ∷ l) (ascending-unique xs ys (AllPairs-tail R x xs rise) (AllPairs-tail R y ys climb)
    (λ j has. elim (Contains-cases y ys j (to j (Contains-rest x xs j has))) [
      | inl e ↦ (let lt = All-contains (λ (b : StripeJob). x.session < b.session) xs j above has in let equal = ap (λ (i : StripeJob). i.session) e in absurd (omega arith))
      | inr later ↦ later
    ])
    (λ j has. elim (Contains-cases x xs j (from j (Contains-rest y ys j has))) [
      | inl e ↦ (let lt = All-contains (λ (b : StripeJob). y.session < b.session) ys j over has in let equal = ap (λ (i : StripeJob). i.session) e in absurd (omega arith))
      | inr later ↦ later
    ]))

-- Jobs by stripe in the order of their sessions

Contains-with_session : (jobs : List StripeJob) (j i : StripeJob) → (i ≡ j) ⊎ Contains jobs i → Contains (with_session jobs j) i
Contains-with_session [] j i (inl e) = subst (λ (x : StripeJob). Contains (j ∷ []) x) (sym e) (Contains-first j [])
Contains-with_session [] j i (inr has) = absurd (Contains-none i has)
Contains-with_session (x ∷ jobs) j i has =
    elim (cases_Bool (nat_lt x.session j.session)) [
      | inl less ↦ rw less (elim has [
        | inl e ↦ Contains-rest x (with_session jobs j) i (Contains-with_session jobs j i (inl e))
        | inr old ↦ elim (Contains-cases x jobs i old) [
          | inl e ↦ subst (λ (y : StripeJob). Contains (x ∷ with_session jobs j) y) e (Contains-first x (with_session jobs j))
          | inr later ↦ Contains-rest x (with_session jobs j) i (Contains-with_session jobs j i (inr later))
        ]
      ])
      | inr more ↦ rw more (elim has [
        | inl e ↦ subst (λ (y : StripeJob). Contains (j ∷ (x ∷ jobs)) y) (sym e) (Contains-first j (x ∷ jobs))
        | inr old ↦ Contains-rest j (x ∷ jobs) i old
      ])
    ]

Contains-fold : (jobs more : List StripeJob) (i : StripeJob) → Contains jobs i ⊎ Contains more i → Contains (fold with_session jobs more) i
Contains-fold jobs [] i (inl has) = has
Contains-fold jobs [] i (inr has) = absurd (Contains-none i has)
Contains-fold jobs (j ∷ more) i (inl has) = Contains-fold (with_session jobs j) more i (inl (Contains-with_session jobs j i (inr has)))
Contains-fold jobs (j ∷ more) i (inr has) =
    elim (Contains-cases j more i has) [
      | inl e ↦ Contains-fold (with_session jobs j) more i (inl (Contains-with_session jobs j i (inl (sym e))))
      | inr later ↦ Contains-fold (with_session jobs j) more i (inr later)
    ]

All-fold : (P : StripeJob → Type 0) (jobs more : List StripeJob) → All P jobs → All P more → All P (fold with_session jobs more)
All-fold P jobs [] all rest = all
All-fold P jobs (j ∷ more) all rest = All-fold P (with_session jobs j) more (All-with_session P jobs j all (All-head P j more rest)) (All-tail P j more rest)

count_by-fold : (p : StripeJob → Bool) (jobs more : List StripeJob) → count_by p (fold with_session jobs more) ≡ count_by p jobs + count_by p more
count_by-fold p jobs [] = omega arith
count_by-fold p jobs (j ∷ more) =
    let rest = count_by-fold p (with_session jobs j) more in
    let first = count_by-with_session p jobs j in
    let whole = count_by-cons p j more in
    omega (arith, rest, first, whole)

length-fold : (jobs more : List StripeJob) → length (fold with_session jobs more) ≡ length jobs + length more
length-fold jobs [] = omega arith
length-fold jobs (j ∷ more) =
    let rest = length-fold (with_session jobs j) more in
    let first = length-with_session jobs j in
    omega (arith, rest, first)

-- what isn't counted isn't there
uncounted : (s : ℕ) (jobs : List StripeJob) → count_by (λ j. j.session == s) jobs ≡ 0 → All (λ j. j.session ≢ s) jobs
uncounted s jobs none k d lt same =
    let le = get_or-le-sum_by (λ (i : StripeJob). one_if (i.session == s)) jobs k d lt in
    let one : one_if ((get_or jobs k d).session == s) ≡ 1 = rw (eq-eqb (get_or jobs k d).session s same) refl in
    absurd (omega (arith, le, one, none))

AreAscending-fold : (jobs more : List StripeJob) → AreAscending jobs → ((s : ℕ) → count_by (λ j. j.session == s) jobs + count_by (λ j. j.session == s) more ≤ 1)
    → AreAscending (fold with_session jobs more)
AreAscending-fold jobs [] rise once = rise
AreAscending-fold jobs (j ∷ more) rise once =
    let whole = count_by-cons (λ (i : StripeJob). i.session == j.session) j more in
    let here = once j.session in
    let one : one_if (j.session == j.session) ≡ 1 = rw (eq-eqb j.session j.session refl) refl in
    let none : count_by (λ (i : StripeJob). i.session == j.session) jobs ≡ 0 = omega (arith, whole, here, one) in
    AreAscending-fold (with_session jobs j) more (AreAscending-with_session jobs j rise (uncounted j.session jobs none))
    (λ s. (let few = once s in
    let first = count_by-with_session (λ (i : StripeJob). i.session == s) jobs j in
    let rest = count_by-cons (λ (i : StripeJob). i.session == s) j more in
    omega (arith, few, first, rest)))

All-in_order : (P : StripeJob → Type 0) (js : List (List StripeJob)) → All (All P) js → All P (in_order js)
unfolding in_order
All-in_order P [] all = All-nil P
All-in_order P (jobs ∷ js) all = All-fold P (in_order js) jobs (All-in_order P js (All-tail (All P) jobs js all)) (All-head (All P) jobs js all)

Contains-in_order : (js : List (List StripeJob)) (m : ℕ) (j : StripeJob) → m < length js → Contains (get_or js m []) j → Contains (in_order js) j
unfolding in_order
Contains-in_order [] m j lt has = absurd (omega arith)
Contains-in_order (jobs ∷ js) zero j lt has = Contains-fold (in_order js) jobs j (inr has)
Contains-in_order (jobs ∷ js) (suc m) j lt has = Contains-fold (in_order js) jobs j (inl (Contains-in_order js m j (omega arith) has))

count_by-in_order : (s : ℕ) (js : List (List StripeJob)) → count_by (λ j. j.session == s) (in_order js) ≡ jobs_of s js
unfolding in_order
count_by-in_order s [] = refl
count_by-in_order s (jobs ∷ js) =
    let rest = count_by-in_order s js in
    let both = count_by-fold (λ (j : StripeJob). j.session == s) (in_order js) jobs in
    let whole = sum_by-cons (λ (l : List StripeJob). count_by (λ j. j.session == s) l) jobs js in
    omega (arith, rest, both, whole)

length-in_order : (js : List (List StripeJob)) → length (in_order js) ≡ job_count js
unfolding in_order
length-in_order [] = refl
length-in_order (jobs ∷ js) =
    let rest = length-in_order js in
    let both = length-fold (in_order js) jobs in
    let whole = sum_by-cons (λ (l : List StripeJob). length l) jobs js in
    omega (arith, rest, both, whole)

AreAscending-in_order : (js : List (List StripeJob)) → ((s : ℕ) → jobs_of s js ≤ 1) → AreAscending (in_order js)
unfolding in_order
AreAscending-in_order [] once = AllPairs-nil (λ (a b : StripeJob). a.session < b.session)
AreAscending-in_order (jobs ∷ js) once =
    let whole = λ (s : ℕ). sum_by-cons (λ (l : List StripeJob). count_by (λ j. j.session == s) l) jobs js in
    AreAscending-fold (in_order js) jobs (AreAscending-in_order js (λ s. (let few = once s in let all = whole s in omega (arith, few, all))))
    (λ s. (let few = once s in let all = whole s in let rest = count_by-in_order s js in omega (arith, few, all, rest)))

-- the jobs of a list by stripe, in order, are the list
pub in_order-by_stripe : (jobs : List StripeJob) → AreAscending jobs → AreJobs (by_stripe jobs) → in_order (by_stripe jobs) ≡ jobs
in_order-by_stripe jobs rise are =
    let js = by_stripe jobs in
    let size = length-by_stripe jobs in
    let all : All (Contains jobs) (in_order (by_stripe jobs))
    = All-in_order (Contains jobs) js
    (All-from_get_or (All (Contains jobs)) js [] (λ m lt.
    subst (All (Contains jobs)) (sym (get_or-by_stripe jobs m (omega arith)))
    (All-filter (λ (j : StripeJob). stripe_of j.update == m) (Contains jobs) jobs (All-from_Contains (Contains jobs) jobs (λ j has. has))))) in
    ascending-unique (in_order js) jobs (AreAscending-in_order js are.once) rise (λ j has. All-contains (Contains jobs) (in_order js) j all has)
    (λ j has. (
    let m = stripe_of j.update in
    let low = stripe_of-lt j.update in
    Contains-in_order js m j (omega arith)
    (subst (λ (l : List StripeJob). Contains l j) (sym (get_or-by_stripe jobs m low)) (Contains-filtered (λ (i : StripeJob). stripe_of i.update == m) jobs j has (eq-eqb m m refl)))))

-- by stripe they are as many
pub length-job_count : (jobs : List StripeJob) → AreAscending jobs → AreJobs (by_stripe jobs) → length jobs ≡ job_count (by_stripe jobs)
length-job_count jobs rise are = ap length (sym (in_order-by_stripe jobs rise are)) ∙ length-in_order (by_stripe jobs)

-- Jobs by stripe that are those of a list

-- each stripe that has jobs is that of one of the list
pub HasPlaces-by_stripe : (jobs : List StripeJob) → HasPlaces (by_stripe jobs) jobs
HasPlaces-by_stripe jobs m some =
    elim (cases_lt m 64) [
      | inl lt ↦ (
          let here = of_stripe m jobs in
          let size = ap length (get_or-by_stripe jobs m lt) in
          let found = Contains-filter (λ (j : StripeJob). stripe_of j.update == m) jobs (get_or here 0 no_job) (Contains-get_or here 0 no_job (omega arith)) in
          let at = found.0 in
          (at.0, at.1, ap (λ (j : StripeJob). stripe_of j.update) (get_or_default jobs at.0 no_job (get_or here 0 no_job) at.1 ∙ at.2) ∙ eqb-true (stripe_of (get_or here 0 no_job).update) m found.1))
      | inr past ↦ (let size = length-by_stripe jobs in let none = ap length (get_or_past (by_stripe jobs) m [] (omega arith)) in absurd (omega arith))
    ]

-- other verdicts leave the order and the stripes
pub AreAscending-judged : (verdicts : List Verdict) (jobs : List StripeJob) → AreAscending jobs → AreAscending (map (judged verdicts) jobs)
AreAscending-judged verdicts jobs rise i j d lt less =
    let size = length-map jobs (judged verdicts) in
    let more = rise i j no_job lt (omega arith) in
    let first = ap (λ (x : StripeJob). x.session) (get_or-map (judged verdicts) jobs i no_job d (omega arith)) in
    let second = ap (λ (x : StripeJob). x.session) (get_or-map (judged verdicts) jobs j no_job d (omega arith)) in
    omega (arith, more, first, second)

of_stripe-judged : (verdicts : List Verdict) (m : ℕ) (jobs : List StripeJob) → of_stripe m (map (judged verdicts) jobs) ≡ map (judged verdicts) (of_stripe m jobs)
of_stripe-judged verdicts m [] = refl
of_stripe-judged verdicts m (j ∷ jobs) =
    let rest = of_stripe-judged verdicts m jobs in
    elim (cases_Bool (stripe_of j.update == m)) [
      | inl own ↦ rw own (ap (λ l. judged verdicts j ∷ l) rest)
      | inr other ↦ rw other rest
    ]

-- jobs with these verdicts are other jobs by stripe, where those are the same jobs with them
pub by_stripe-judged : (verdicts : List Verdict) (jobs : List StripeJob) (js : List (List StripeJob)) → length js ≡ 64
    → ((m : ℕ) → m < 64 → map (judged verdicts) (get_or (by_stripe jobs) m []) ≡ get_or js m []) → by_stripe (map (judged verdicts) jobs) ≡ js
by_stripe-judged verdicts jobs js size same =
    by_stripe-is (map (judged verdicts) jobs) js size
    (λ m lt. of_stripe-judged verdicts m jobs ∙ ap (map (judged verdicts)) (sym (get_or-by_stripe jobs m lt)) ∙ same m lt)

-- what no job of another stripe has is counted in one stripe
pub count_by-own : (p : StripeJob → Bool) (m : ℕ) (jobs : List StripeJob) → ((j : StripeJob) → stripe_of j.update ≢ m → p j ≡ false) → count_by p jobs ≡ count_by p (of_stripe m jobs)
count_by-own p m [] others = refl
count_by-own p m (j ∷ jobs) others =
    let rest = count_by-own p m jobs others in
    let whole = count_by-cons p j jobs in
    elim (cases_eq (stripe_of j.update) m) [
      | inl own ↦ rw (eq-eqb (stripe_of j.update) m own) (let kept = count_by-cons p j (of_stripe m jobs) in omega (arith, rest, whole, kept))
      | inr other ↦ rw (ne_eqb (stripe_of j.update) m other) (let none : one_if (p j) ≡ 0 = rw (others j other) refl in omega (arith, rest, whole, none))
    ]
