-- What edits and declines make of a stripe: its log, and the copies in its rows.
use Rattle.std.specs.Prelude.{⊤}
use Rattle.std.proofs.Common.{◌≡◌, ◌≢◌, ℕ, ◌+◌, ◌-◌, ◌<◌, ◌≤◌, ◌/◌, ◌%◌, Bool, true, false, ◌&&◌, ◌==◌, if◌then◌else◌, ◌⊎◌, IsTrue, List, [], ◌∷◌, ◌++◌, length, get_or, set, map, arith, refl, inl, inr, sym, ap, subst, ◌∙◌, get_or-set_same, get_or-set_other}
use Rattle.std.specs.List.{All, count_by, filter, flat_map}
use Rattle.std.proofs.lemmas.Bool.{cases_Bool, cases_eq, eq-eqb, ne_eqb, both_ways}
use Rattle.std.proofs.lemmas.List.{append-nil, ext_get_or, get_or_default, get_or-map, length-map, length-set}
use Rattle.std.proofs.lemmas.List.Concat.{flat_map-append, flat_map-cons}
use Rattle.std.proofs.lemmas.List.Elements.{All-from_get_or, All-get_or, All-nil, All-push}
use Rattle.std.proofs.lemmas.List.Sums.{sum_by-set}
use Rattle.ris_base.specs.Graph.{is_equal, triple}
use Rattle.ris_base.specs.declared.events.Verdict.{Verdict}
use Rattle.ris_base.specs.declared.events.Verdict.TheVariants.{Waiting, Applied, NoEdge, Bounced}
use Rattle.ris_base.specs.declared.graphs.Triple.{Triple}
use Rattle.ris_base.specs.declared.updates.Update.{Update}
use Rattle.ris_base.specs.declared.updates.Update.TheVariants.{AddV, DelV, AddE, DelE, SetW}
use Rattle.ris_base.proofs.EffectLemmas.{copies_after, one_if, same_from_equal}
use Rattle.ris_base.proofs.RequestLemmas.{copies_through}
use Rattle.ris_rows.specs.Neighbours.{IsAscending, copies_of}
use Rattle.ris_rows.specs.RowView.{RowView, inserted, removed}
use Rattle.ris_graph.specs.GraphView.{row_at}
use Rattle.ris_graph.specs.Jobs.{AreAscending, is_job, stripe_of}
use Rattle.ris_graph.specs.Phase.{CanDo, Follows, Step, after_steps, applied_of}
use Rattle.ris_graph.specs.Phase.Step.{Decline, Edit}
use Rattle.ris_graph.specs.StripeView.{CanDecline, CanEdit, HasCopy, StripeView, declined, edited, is_applied, is_refusal, job_at, no_job, rows_after, waits}
use Rattle.ris_graph.specs.declared.stripes.StripeJob.{StripeJob}
use Rattle.ris_graph.proofs.JobLemmas.{count_by-sessions}
use Rattle.ris_graph.proofs.ListFacts.{filter-at, filter-set_same, flat_map-agree, once-place}
use Rattle.ris_graph.proofs.RoomLemmas.{count_by-none}
use Rattle.ris_graph.proofs.RowSteps.{fewer-ascending, fewer-copies, more-ascending, more-copies}
use Rattle.ris_graph.proofs.StripeLemmas.{waits-declined}

-- Updates, one after another

-- where an update takes a copy, there is one
abbrev pub HasOne : (Triple → ℕ) → Update → Type 0
HasOne c (DelE u v w) = 1 ≤ c (triple u v w)
HasOne c (AddV x) = ⊤
HasOne c (DelV x) = ⊤
HasOne c (AddE u v w) = ⊤
HasOne c (SetW u v w w2) = ⊤

-- the same of each update where those before it are done
abbrev pub Runs : (Triple → ℕ) → List Update → Type 0
Runs c [] = ⊤
Runs c (u ∷ us) = HasOne c u × Runs (λ t. copies_after (c t) u t) us

pub copies_through-push : (n : ℕ) (us : List Update) (u : Update) (t : Triple) → copies_through n (us ++ u ∷ []) t ≡ copies_after (copies_through n us t) u t
copies_through-push n [] u t = refl
copies_through-push n (x ∷ us) u t = copies_through-push (copies_after n x t) us u t

pub Runs-push : (c : Triple → ℕ) (us : List Update) (u : Update) → Runs c us → HasOne (λ t. copies_through (c t) us t) u → Runs c (us ++ u ∷ [])
Runs-push c [] u runs one = (one, tt)
Runs-push c (x ∷ us) u runs one = (runs.0, Runs-push (λ t. copies_after (c t) x t) us u runs.1 one)

pub HasOne-agree : (c d : Triple → ℕ) (u : Update) → ((t : Triple) → t.source % 64 ≡ stripe_of u → c t ≡ d t) → HasOne c u → HasOne d u
HasOne-agree c d (DelE u v w) same one = (let e = same (triple u v w) refl in omega arith)
HasOne-agree c d (AddV x) same one = tt
HasOne-agree c d (DelV x) same one = tt
HasOne-agree c d (AddE u v w) same one = tt
HasOne-agree c d (SetW u v w w2) same one = tt

-- Stripes

-- the copies of a triple in a stripe
abbrev pub stripe_copies : StripeView → Triple → ℕ
stripe_copies s t = copies_of (row_at s.rows (t.source / 64)).items t.target t.weight

-- whether an update adds a copy of a triple, and whether it takes one
abbrev pub adds_triple : Triple → Update → Bool
adds_triple t (AddE u v w) = is_equal t (triple u v w)
adds_triple t (AddV x) = false
adds_triple t (DelV x) = false
adds_triple t (DelE u v w) = false
adds_triple t (SetW u v w w2) = false

abbrev pub takes_triple : Triple → Update → Bool
takes_triple t (DelE u v w) = is_equal t (triple u v w)
takes_triple t (AddV x) = false
takes_triple t (DelV x) = false
takes_triple t (AddE u v w) = false
takes_triple t (SetW u v w w2) = false

-- how many copies of a triple the applied jobs added, and how many they took
abbrev pub adds : Triple → List StripeJob → ℕ
adds t jobs = count_by (λ j. is_applied j && adds_triple t j.update) jobs

abbrev pub takes : Triple → List StripeJob → ℕ
takes t jobs = count_by (λ j. is_applied j && takes_triple t j.update) jobs

-- where an update changes a copy, its row is one of the first n
abbrev pub HasRowBelow : ℕ → Update → Type 0
HasRowBelow n (AddE u v w) = u / 64 < n
HasRowBelow n (DelE u v w) = u / 64 < n
HasRowBelow n (AddV x) = ⊤
HasRowBelow n (DelV x) = ⊤
HasRowBelow n (SetW u v w w2) = ⊤

-- an update of stripe m that may be a job, with its row
pub record IsHome (m n : ℕ) (update : Update) : Type 0 where
  pub kind : IsTrue (is_job update)
  pub home : stripe_of update ≡ m
  pub row : HasRowBelow n update

-- what a step changes in the copies of a triple of the stripe

same_place : (a b : ℕ) → a % 64 ≡ b % 64 → (a / 64 == b / 64) ≡ (a == b)
same_place a b same =
    elim (cases_eq a b) [
      | inl e ↦ rw (eq-eqb a b e, eq-eqb (a / 64) (b / 64) (ap (λ n. n / 64) e)) refl
      | inr n ↦ rw (ne_eqb a b n, ne_eqb (a / 64) (b / 64) (λ e. n (omega arith))) refl
    ]

pub rows_after-copies : (m : ℕ) (rows : List RowView) (update : Update) (t : Triple) → ((k : ℕ) → IsAscending (row_at rows k).items) → IsHome m (length rows) update → t.source % 64 ≡ m
    → copies_of (row_at (rows_after rows update) (t.source / 64)).items t.target t.weight ≡ copies_after (copies_of (row_at rows (t.source / 64)).items t.target t.weight) update t
rows_after-copies m rows (AddE u v w) t ascending home at =
    more-copies rows (u / 64) v w home.row ascending (t.source / 64) t.target t.weight
    ∙ ap (λ b. copies_of (row_at rows (t.source / 64)).items t.target t.weight + one_if (b && (t.target == v) && (t.weight == w))) (same_place t.source u (at ∙ sym home.home))
rows_after-copies m rows (DelE u v w) t ascending home at =
    fewer-copies rows (u / 64) v w home.row ascending (t.source / 64) t.target t.weight
    ∙ ap (λ b. copies_of (row_at rows (t.source / 64)).items t.target t.weight - one_if (b && (t.target == v) && (t.weight == w))) (same_place t.source u (at ∙ sym home.home))
rows_after-copies m rows (AddV x) t ascending home at = refl
rows_after-copies m rows (DelV x) t ascending home at = absurd (both_ways false refl home.kind)
rows_after-copies m rows (SetW u v w w2) t ascending home at = absurd (both_ways false refl home.kind)

pub rows_after-ascending : (m : ℕ) (rows : List RowView) (update : Update) → ((k : ℕ) → IsAscending (row_at rows k).items) → IsHome m (length rows) update
    → (k : ℕ) → IsAscending (row_at (rows_after rows update) k).items
rows_after-ascending m rows (AddE u v w) ascending home = more-ascending rows (u / 64) v w home.row ascending
rows_after-ascending m rows (DelE u v w) ascending home = fewer-ascending rows (u / 64) v w home.row ascending
rows_after-ascending m rows (AddV x) ascending home = ascending
rows_after-ascending m rows (DelV x) ascending home = ascending
rows_after-ascending m rows (SetW u v w w2) ascending home = ascending

pub length-rows_after : (rows : List RowView) (update : Update) → length (rows_after rows update) ≡ length rows
length-rows_after rows (AddE u v w) = length-set rows (u / 64) (inserted (row_at rows (u / 64)) v w)
length-rows_after rows (DelE u v w) = length-set rows (u / 64) (removed (row_at rows (u / 64)) v w)
length-rows_after rows (AddV x) = refl
length-rows_after rows (DelV x) = refl
length-rows_after rows (SetW u v w w2) = refl

-- Logs

-- the updates of a session's jobs that were applied
abbrev pub told : List StripeJob → ℕ → List Update
told jobs session = map (λ j. j.update) (filter (λ j. (j.session == session) && is_applied j) jobs)

-- another session's are as before
told-other : (jobs : List StripeJob) (k : ℕ) (j : StripeJob) (x : ℕ) → (get_or jobs k no_job).session ≢ x → j.session ≢ x → told (set jobs k j) x ≡ told jobs x
told-other jobs k j x was now =
    ap (map (λ (i : StripeJob). i.update)) (filter-set_same (λ (i : StripeJob). (i.session == x) && is_applied i) jobs k j no_job
    (rw (ne_eqb (get_or jobs k no_job).session x was) refl) (rw (ne_eqb j.session x now) refl))

-- its own is this one, where it was applied
told-own : (jobs : List StripeJob) (k : ℕ) (j : StripeJob) → k < length jobs → ((x : ℕ) → count_by (λ (i : StripeJob). i.session == x) jobs ≤ 1)
    → j.session ≡ (get_or jobs k no_job).session → told (set jobs k j) j.session ≡ (if is_applied j then j.update ∷ [] else [])
told-own jobs k j lt once same =
    let new = set jobs k j in
    let p = λ (i : StripeJob). (i.session == j.session) && is_applied i in
    let size = length-set jobs k j in
    let here : get_or new k no_job ≡ j = get_or-set_same jobs k j no_job lt in
    let left = filter-at p new k no_job (omega arith) (λ i less ne. (
    let kept : get_or new i no_job ≡ get_or jobs i no_job = get_or-set_other jobs k i j no_job ne in
    rw kept (rw (ne_eqb (get_or jobs i no_job).session j.session (λ e. ne (once-place (λ (x : StripeJob). x.session) jobs no_job once i k (omega arith) lt (e ∙ same)))) refl))) in
    ap (map (λ (i : StripeJob). i.update)) left
    ∙ rw here (elim (cases_Bool (is_applied j)) [
      | inl applied ↦ rw (eq-eqb j.session j.session refl, applied) refl
      | inr not ↦ rw (eq-eqb j.session j.session refl, not) refl
    ])

-- Jobs that get a verdict

waits-applied : (j : StripeJob) → waits j ≡ true → is_applied j ≡ false
waits-applied j h = by_verdict j.session j.update j.verdict h
  where
    by_verdict : (s : ℕ) (u : Update) (v : Verdict) → waits (record { session = s; update = u; verdict = v }) ≡ true → is_applied (record { session = s; update = u; verdict = v }) ≡ false
    by_verdict s u Waiting e = refl
    by_verdict s u Applied e = absurd (both_ways false refl e)
    by_verdict s u NoEdge e = refl
    by_verdict s u Bounced e = refl

-- what a step leaves of the jobs of a stripe
pub record IsSameJobs (old new : List StripeJob) : Type 0 where
  pub size : length new ≡ length old
  pub sessions : (k : ℕ) → (get_or new k no_job).session ≡ (get_or old k no_job).session
  pub updates : (k : ℕ) → (get_or new k no_job).update ≡ (get_or old k no_job).update

pub IsSameJobs-refl : (jobs : List StripeJob) → IsSameJobs jobs jobs
IsSameJobs-refl jobs = record { size = refl; sessions = λ k. refl; updates = λ k. refl }

IsSameJobs-set : (old jobs : List StripeJob) (k : ℕ) (verdict : Verdict) → k < length jobs → IsSameJobs old jobs
    → IsSameJobs old (set jobs k (record (get_or jobs k no_job) { verdict = verdict }))
IsSameJobs-set old jobs k verdict lt same =
    let j : StripeJob = record (get_or jobs k no_job) { verdict = verdict } in
    record {
      size = length-set jobs k j ∙ same.size;
      sessions = λ i. elim (cases_eq i k) [
        | inl e ↦ rw e (ap (λ (x : StripeJob). x.session) (get_or-set_same jobs k j no_job lt) ∙ same.sessions k)
        | inr n ↦ ap (λ (x : StripeJob). x.session) (get_or-set_other jobs k i j no_job n) ∙ same.sessions i
      ];
      updates = λ i. elim (cases_eq i k) [
        | inl e ↦ rw e (ap (λ (x : StripeJob). x.update) (get_or-set_same jobs k j no_job lt) ∙ same.updates k)
        | inr n ↦ ap (λ (x : StripeJob). x.update) (get_or-set_other jobs k i j no_job n) ∙ same.updates i
      ];
    }

-- what holds of session and update of each job holds of them after steps
pub All-same_jobs : (P : ℕ → Update → Type 0) (old new : List StripeJob) → IsSameJobs old new → All (λ j. P j.session j.update) old → All (λ j. P j.session j.update) new
All-same_jobs P old new same all =
    All-from_get_or (λ (j : StripeJob). P j.session j.update) new no_job (λ i lt. (
    let size = same.size in
    let h = All-get_or (λ (j : StripeJob). P j.session j.update) old i no_job (omega arith) all in
    subst (λ s. P s (get_or new i no_job).update) (sym (same.sessions i)) (subst (P (get_or old i no_job).session) (sym (same.updates i)) h)))

-- and the sessions are counted as before
pub count_by-same_jobs : (x : ℕ) (old new : List StripeJob) → IsSameJobs old new → count_by (λ j. j.session == x) new ≡ count_by (λ j. j.session == x) old
count_by-same_jobs x old new same =
    let f = λ (j : StripeJob). j.session in
    let equal : map f new ≡ map f old = ext_get_or 0 (map f new) (map f old) (length-map new f ∙ same.size ∙ sym (length-map old f)) (λ i lt. (
    let size = same.size in
    let len = length-map new f in
    get_or-map f new i no_job 0 (omega arith) ∙ same.sessions i ∙ sym (get_or-map f old i no_job 0 (omega arith)))) in
    sym (count_by-sessions x new) ∙ ap (count_by (λ y. y == x)) equal ∙ count_by-sessions x old

-- and they ascend as before
pub AreAscending-same_jobs : (old new : List StripeJob) → IsSameJobs old new → AreAscending old → AreAscending new
AreAscending-same_jobs old new same rise i j d lt less =
    let size = same.size in
    let more = rise i j no_job lt (omega arith) in
    let first : (get_or new i d).session ≡ (get_or old i no_job).session = ap (λ (x : StripeJob). x.session) (get_or_default new i d no_job (omega arith)) ∙ same.sessions i in
    let second : (get_or new j d).session ≡ (get_or old j no_job).session = ap (λ (x : StripeJob). x.session) (get_or_default new j d no_job less) ∙ same.sessions j in
    omega arith

-- a stripe without jobs notes nothing
pub quiet-steps : (s : StripeView) (steps : List Step) → s.jobs ≡ [] → s.log ≡ [] → CanDo s steps → (after_steps s steps).log ≡ []
quiet-steps s [] none log can = log
quiet-steps s (Edit k ∷ steps) none log can = (let lt = can.0.within in let size = ap length none in absurd (omega arith))
quiet-steps s (Decline k verdict ∷ steps) none log can = (let lt = can.0.within in let size = ap length none in absurd (omega arith))

-- Stripes under way

-- a stripe none of whose jobs has a verdict
pub record IsFresh (m : ℕ) (s : StripeView) : Type 0 where
  pub ascending : (k : ℕ) → IsAscending (row_at s.rows k).items
  pub log : s.log ≡ []
  pub waiting : All (λ j. waits j ≡ true) s.jobs
  pub homes : All (λ j. IsHome m (length s.rows) j.update) s.jobs
  pub once : (x : ℕ) → count_by (λ j. j.session == x) s.jobs ≤ 1

-- what steps made of it: its log has applied updates that run from what it was, and its rows are what they leave
pub record IsUnder (m : ℕ) (old s : StripeView) : Type 0 where
  pub rows : length s.rows ≡ length old.rows
  pub ascending : (k : ℕ) → IsAscending (row_at s.rows k).items
  pub jobs : IsSameJobs old.jobs s.jobs
  pub job_room : s.job_room ≡ old.job_room
  pub noted : (k : ℕ) → k < length s.jobs → waits (job_at s k) ≡ true → All (λ x. (job_at s k).session ≢ x) s.log
  pub copies : (t : Triple) → t.source % 64 ≡ m → stripe_copies s t ≡ copies_through (stripe_copies old t) (applied_of s) t
  pub runs : Runs (stripe_copies old) (applied_of s)
  pub balance : (t : Triple) → t.source % 64 ≡ m → stripe_copies s t + takes t s.jobs ≡ stripe_copies old t + adds t s.jobs

none-applied : (p : StripeJob → Bool) (jobs : List StripeJob) → All (λ j. waits j ≡ true) jobs → count_by (λ j. is_applied j && p j) jobs ≡ 0
none-applied p jobs waiting =
    count_by-none (λ (j : StripeJob). is_applied j && p j) jobs
    (λ k d lt. rw (waits-applied (get_or jobs k d) (waiting k d lt)) refl)

pub IsUnder-start : (m : ℕ) (s : StripeView) → IsFresh m s → IsUnder m s s
IsUnder-start m s fresh =
    let none : applied_of s ≡ [] = ap (flat_map (told s.jobs)) fresh.log in
    record {
      rows = refl;
      ascending = fresh.ascending;
      jobs = IsSameJobs-refl s.jobs;
      job_room = refl;
      noted = λ k lt waiting. rw fresh.log (All-nil (λ x. (job_at s k).session ≢ x));
      copies = λ t at. rw none refl;
      runs = rw none tt;
      balance = λ t at. (
          let a = none-applied (λ j. takes_triple t j.update) s.jobs fresh.waiting in
          let b = none-applied (λ j. adds_triple t j.update) s.jobs fresh.waiting in
          omega arith);
    }

-- A verdict

-- the log after a job that waits got a verdict: its updates are as before, with this one where it was applied
applied-before : (m : ℕ) (old s : StripeView) (k : ℕ) (j : StripeJob) → IsFresh m old → IsUnder m old s → k < length s.jobs → waits (job_at s k) ≡ true
    → j.session ≡ (job_at s k).session → flat_map (told (set s.jobs k j)) s.log ≡ applied_of s
applied-before m old s k j fresh under lt waiting same =
    flat_map-agree (told (set s.jobs k j)) (told s.jobs) s.log (λ i d less. (
    let x = get_or s.log i d in
    let other = under.noted k lt waiting i d less in
    told-other s.jobs k j x other (λ e. other (sym same ∙ e))))

pub applied-noted : (m : ℕ) (old s : StripeView) (k : ℕ) (j : StripeJob) → IsFresh m old → IsUnder m old s → k < length s.jobs → waits (job_at s k) ≡ true
    → j.session ≡ (job_at s k).session → flat_map (told (set s.jobs k j)) (s.log ++ (job_at s k).session ∷ []) ≡ applied_of s ++ (if is_applied j then j.update ∷ [] else [])
applied-noted m old s k j fresh under lt waiting same =
    let new = set s.jobs k j in
    let once : (x : ℕ) → count_by (λ (i : StripeJob). i.session == x) s.jobs ≤ 1 = λ x. (let e = count_by-same_jobs x old.jobs s.jobs under.jobs in let few = fresh.once x in omega arith) in
    flat_map-append (told new) s.log ((job_at s k).session ∷ [])
    ∙ ap (λ l. l ++ flat_map (told new) ((job_at s k).session ∷ [])) (applied-before m old s k j fresh under lt waiting same)
    ∙ ap (λ l. applied_of s ++ l) (flat_map-cons (told new) (job_at s k).session [] ∙ append-nil (told new (job_at s k).session) ∙ ap (told new) (sym same) ∙ told-own s.jobs k j lt once same)

-- the log still names decided jobs alone
noted-decided : (m : ℕ) (old s : StripeView) (k : ℕ) (j : StripeJob) (log : List ℕ) → IsFresh m old → IsUnder m old s → k < length s.jobs → waits (job_at s k) ≡ true → waits j ≡ false
    → ((log ≡ s.log) ⊎ (log ≡ s.log ++ (job_at s k).session ∷ []))
    → (i : ℕ) → i < length (set s.jobs k j) → waits (get_or (set s.jobs k j) i no_job) ≡ true → All (λ x. (get_or (set s.jobs k j) i no_job).session ≢ x) log
noted-decided m old s k j log fresh under lt waiting decided longer i less still =
    let size = length-set s.jobs k j in
    let once : (x : ℕ) → count_by (λ (y : StripeJob). y.session == x) s.jobs ≤ 1 = λ x. (let e = count_by-same_jobs x old.jobs s.jobs under.jobs in let few = fresh.once x in omega arith) in
    elim (cases_eq i k) [
      | inl same ↦ absurd (both_ways (waits j) decided (rw (same, get_or-set_same s.jobs k j no_job lt) at still))
      | inr other ↦ (
          let kept : get_or (set s.jobs k j) i no_job ≡ job_at s i = get_or-set_other s.jobs k i j no_job other in
          let before : All (λ x. (job_at s i).session ≢ x) s.log = under.noted i (omega arith) (rw kept at still) in
          let apart : (job_at s i).session ≢ (job_at s k).session = λ e. other (once-place (λ (x : StripeJob). x.session) s.jobs no_job once i k (omega arith) lt e) in
          rw kept (elim longer [
            | inl e ↦ rw e before
            | inr e ↦ rw e (All-push (λ x. (job_at s i).session ≢ x) s.log (job_at s k).session before apart)
          ]))
    ]

-- An edit

home-at : (m : ℕ) (old s : StripeView) (k : ℕ) → IsFresh m old → IsUnder m old s → k < length s.jobs → IsHome m (length s.rows) (job_at s k).update
home-at m old s k fresh under lt =
    let size = under.jobs.size in
    subst (λ n. IsHome m n (job_at s k).update) (sym under.rows)
    (subst (λ (u : Update). IsHome m (length old.rows) u) (sym (under.jobs.updates k)) (All-get_or (λ (j : StripeJob). IsHome m (length old.rows) j.update) old.jobs k no_job (omega arith) fresh.homes))

-- a copy that is taken is there
one-there : (m : ℕ) (s : StripeView) (c : Triple → ℕ) (u : Update) → stripe_of u ≡ m → ((t : Triple) → t.source % 64 ≡ m → stripe_copies s t ≡ c t) → HasCopy s.rows u → HasOne c u
one-there m s c (DelE u v w) home same copy = (let e = same (triple u v w) home in omega arith)
one-there m s c (AddV x) home same copy = tt
one-there m s c (DelV x) home same copy = tt
one-there m s c (AddE u v w) home same copy = tt
one-there m s c (SetW u v w w2) home same copy = tt

one-taken : (s : StripeView) (u : Update) (t : Triple) → HasCopy s.rows u → takes_triple t u ≡ true → 1 ≤ stripe_copies s t
one-taken s (DelE u v w) t copy equal = (let same = same_from_equal t (triple u v w) equal in subst (λ (r : Triple). 1 ≤ stripe_copies s r) (sym same) copy)
one-taken s (AddV x) t copy equal = absurd (both_ways false refl equal)
one-taken s (DelV x) t copy equal = absurd (both_ways false refl equal)
one-taken s (AddE u v w) t copy equal = absurd (both_ways false refl equal)
one-taken s (SetW u v w w2) t copy equal = absurd (both_ways false refl equal)

after-balance : (n : ℕ) (u : Update) (t : Triple) → IsTrue (is_job u) → (takes_triple t u ≡ true → 1 ≤ n) → copies_after n u t + one_if (takes_triple t u) ≡ n + one_if (adds_triple t u)
after-balance n (AddE u v w) t kind some = omega arith
after-balance n (DelE u v w) t kind some =
    elim (cases_Bool (is_equal t (triple u v w))) [
      | inl e ↦ (let one = some e in rw e (omega arith))
      | inr e ↦ rw e (omega arith)
    ]
after-balance n (AddV x) t kind some = refl
after-balance n (DelV x) t kind some = absurd (both_ways false refl kind)
after-balance n (SetW u v w w2) t kind some = absurd (both_ways false refl kind)

-- a job that was applied counts, and one that waits doesn't
applied-more : (p : StripeJob → Bool) (jobs : List StripeJob) (k : ℕ) (j : StripeJob) → k < length jobs → waits (get_or jobs k no_job) ≡ true → is_applied j ≡ true
    → count_by (λ i. is_applied i && p i) (set jobs k j) ≡ count_by (λ i. is_applied i && p i) jobs + one_if (p j)
applied-more p jobs k j lt waiting applied =
    let whole = sum_by-set (λ (i : StripeJob). one_if (is_applied i && p i)) jobs k j no_job lt in
    let old : one_if (is_applied (get_or jobs k no_job) && p (get_or jobs k no_job)) ≡ 0 = rw (waits-applied (get_or jobs k no_job) waiting) refl in
    let new : one_if (is_applied j && p j) ≡ one_if (p j) = rw applied refl in
    omega (arith, whole)

applied-same : (p : StripeJob → Bool) (jobs : List StripeJob) (k : ℕ) (j : StripeJob) → k < length jobs → waits (get_or jobs k no_job) ≡ true → is_applied j ≡ false
    → count_by (λ i. is_applied i && p i) (set jobs k j) ≡ count_by (λ i. is_applied i && p i) jobs
applied-same p jobs k j lt waiting not =
    let whole = sum_by-set (λ (i : StripeJob). one_if (is_applied i && p i)) jobs k j no_job lt in
    let old : one_if (is_applied (get_or jobs k no_job) && p (get_or jobs k no_job)) ≡ 0 = rw (waits-applied (get_or jobs k no_job) waiting) refl in
    let new : one_if (is_applied j && p j) ≡ 0 = rw not refl in
    omega (arith, whole)

balanced : (now was after taken added old took gave t a : ℕ) → now + took ≡ was + gave → after + t ≡ now + a → taken ≡ took + t → added ≡ gave + a → after + taken ≡ was + added
balanced now was after taken added old took gave t a before step more less = omega arith

pub IsUnder-edited : (m : ℕ) (old s : StripeView) (k : ℕ) → IsFresh m old → IsUnder m old s → CanEdit s k → IsUnder m old (edited s k)
IsUnder-edited m old s k fresh under can =
    let j : StripeJob = record (job_at s k) { verdict = Applied } in
    let u = (job_at s k).update in
    let lt = can.within in
    let home = home-at m old s k fresh under lt in
    let log : applied_of (edited s k) ≡ applied_of s ++ u ∷ [] = applied-noted m old s k j fresh under lt can.waiting refl in
    let step = λ (t : Triple) (at : t.source % 64 ≡ m). rows_after-copies m s.rows u t under.ascending home at in
    record {
      rows = length-rows_after s.rows u ∙ under.rows;
      ascending = rows_after-ascending m s.rows u under.ascending home;
      jobs = IsSameJobs-set old.jobs s.jobs k Applied lt under.jobs;
      job_room = under.job_room;
      noted = noted-decided m old s k j (s.log ++ (job_at s k).session ∷ []) fresh under lt can.waiting refl (inr refl);
      copies = λ t at. step t at ∙ ap (λ n. copies_after n u t) (under.copies t at) ∙ sym (copies_through-push (stripe_copies old t) (applied_of s) u t)
          ∙ ap (λ us. copies_through (stripe_copies old t) us t) (sym log);
      runs = subst (Runs (stripe_copies old)) (sym log) (Runs-push (stripe_copies old) (applied_of s) u under.runs
          (one-there m s (λ t. copies_through (stripe_copies old t) (applied_of s) t) u home.home under.copies can.copy));
      balance = λ t at. balanced (stripe_copies s t) (stripe_copies old t) (stripe_copies (edited s k) t) (takes t (edited s k).jobs) (adds t (edited s k).jobs) 0
          (takes t s.jobs) (adds t s.jobs) (one_if (takes_triple t u)) (one_if (adds_triple t u)) (under.balance t at)
          (ap (λ n. n + one_if (takes_triple t u)) (step t at) ∙ after-balance (stripe_copies s t) u t home.kind (one-taken s u t can.copy))
          (applied-more (λ i. takes_triple t i.update) s.jobs k j lt can.waiting refl) (applied-more (λ i. adds_triple t i.update) s.jobs k j lt can.waiting refl);
    }

-- A decline

declines-applied : (j : StripeJob) → (j.verdict ≡ NoEdge) ⊎ (j.verdict ≡ Bounced) → is_applied j ≡ false
declines-applied j declines = elim declines [ inl refused ↦ rw refused refl | inr bounced ↦ rw bounced refl ]

pub log-declined : (m : ℕ) (old s : StripeView) (k : ℕ) (verdict : Verdict) → IsFresh m old → IsUnder m old s → CanDecline s k verdict
    → (applied_of (declined s k verdict) ≡ applied_of s) × (((declined s k verdict).log ≡ s.log) ⊎ ((declined s k verdict).log ≡ s.log ++ (job_at s k).session ∷ []))
log-declined m old s k verdict fresh under can =
    let j : StripeJob = record (job_at s k) { verdict = verdict } in
    let not : is_applied j ≡ false = declines-applied j can.declines in
    let left : List Update = if is_applied j then j.update ∷ [] else [] in
    elim (cases_Bool (is_refusal verdict)) [
      | inl refused ↦ rw refused (applied-noted m old s k j fresh under can.within can.waiting refl ∙ rw not (append-nil (applied_of s)), inr refl)
      | inr kept ↦ rw kept (applied-before m old s k j fresh under can.within can.waiting refl, inl refl)
    ]

pub IsUnder-declined : (m : ℕ) (old s : StripeView) (k : ℕ) (verdict : Verdict) → IsFresh m old → IsUnder m old s → CanDecline s k verdict → IsUnder m old (declined s k verdict)
IsUnder-declined m old s k verdict fresh under can =
    let j : StripeJob = record (job_at s k) { verdict = verdict } in
    let lt = can.within in
    let not : is_applied j ≡ false = declines-applied j can.declines in
    let log = log-declined m old s k verdict fresh under can in
    record {
      rows = under.rows;
      ascending = under.ascending;
      jobs = IsSameJobs-set old.jobs s.jobs k verdict lt under.jobs;
      job_room = under.job_room;
      noted = noted-decided m old s k j (declined s k verdict).log fresh under lt can.waiting (waits-declined j can.declines) log.1;
      copies = λ t at. under.copies t at ∙ ap (λ us. copies_through (stripe_copies old t) us t) (sym log.0);
      runs = subst (Runs (stripe_copies old)) (sym log.0) under.runs;
      balance = λ t at. (
          let a = applied-same (λ i. takes_triple t i.update) s.jobs k j lt can.waiting not in
          let b = applied-same (λ i. adds_triple t i.update) s.jobs k j lt can.waiting not in
          let before = under.balance t at in
          omega (arith, a, b, before));
    }

-- Steps

IsUnder-steps : (m : ℕ) (old s : StripeView) (steps : List Step) → IsFresh m old → IsUnder m old s → CanDo s steps → IsUnder m old (after_steps s steps)
IsUnder-steps m old s [] fresh under can = under
IsUnder-steps m old s (Edit k ∷ steps) fresh under can = IsUnder-steps m old (edited s k) steps fresh (IsUnder-edited m old s k fresh under can.0) can.1
IsUnder-steps m old s (Decline k verdict ∷ steps) fresh under can =
    IsUnder-steps m old (declined s k verdict) steps fresh (IsUnder-declined m old s k verdict fresh under can.0) can.1

-- what edits and declines made of a stripe
pub IsUnder-follows : (m : ℕ) (old new : StripeView) → IsFresh m old → Follows old new → IsUnder m old new
IsUnder-follows m old new fresh follows = subst (IsUnder m old) (sym follows.is) (IsUnder-steps m old old follows.steps fresh (IsUnder-start m old fresh) follows.can)
