-- One worker goes over the stripes of the jobs that were given, one after another.
use Rattle.std.proofs.Common.{◌≡◌, ◌≢◌, ℕ, zero, suc, ◌+◌, ◌<◌, ◌⊎◌, if◌then◌else◌, false, IsTrue, List, [], ◌∷◌, ◌++◌, length, map, get_or, set, take, arith, refl, inl, inr, sym, ap, subst, ◌∙◌, get_or-set_same, get_or-set_other}
use Rattle.std.specs.List.{refill}
use Rattle.std.proofs.Math.ListN.{drop_of_length-le}
use Rattle.std.proofs.Math.Seq.{take-length}
use Rattle.std.proofs.lemmas.Bool.{both_ways, cases_Bool, cases_eq, cases_lt}
use Rattle.std.proofs.lemmas.List.{append-nil, ext_get_or, get_or-map, length-map, length-set, nil_from_length}
use Rattle.ris_base.specs.Forest.{Forest}
use Rattle.ris_base.specs.declared.events.Verdict.{Verdict}
use Rattle.ris_graph.specs.Jobs.{stripe_of}
use Rattle.ris_graph.specs.Phase.{LooseView, stripe_at}
use Rattle.ris_graph.specs.StripeView.{StripeView, job_at, no_job, no_stripe, waits}
use Rattle.ris_graph.specs.declared.stripes.StripeJob.{StripeJob}
use Rattle.ris_graph.proofs.JobLemmas.{stripe_of-lt}
use Rattle.ris_graph.proofs.PhaseLemmas.{HasPlaces-work, jobs-read}
use Rattle.ris_phase.specs.Cells.{IsFresh, IsUndecided, all_phased, decided_from, decided_job, phased, phased_once, verdict_in, waits_first}
use Rattle.ris_phase.proofs.CellLemmas.{stripe-open}
use Rattle.ris_phase.proofs.DecideLemmas.{decided_job-jobs, decided_job-other, length-decided_job, verdict_in-cases}

-- a list that takes the place of one as long
pub refill-whole : {X : Type 0} (xs ws : List X) → length ws ≡ length xs → refill (length xs) xs ws ≡ ws
refill-whole xs ws same =
    ap (λ rest. take (length xs) (ws ++ rest)) (drop_of_length-le xs (omega arith)) ∙ ap (take (length xs)) (append-nil ws) ∙ ap (λ n. take n ws) (sym same) ∙ take-length ws

-- One stripe

waits_first-at : (jobs : List StripeJob) → 0 < length jobs → waits_first jobs ≡ waits (get_or jobs 0 no_job)
waits_first-at [] some = absurd (omega arith)
waits_first-at (j ∷ jobs) some = refl

-- later decisions leave the first job
decided_from-first : (forests : List Forest) (n k : ℕ) (s : StripeView) → 0 < k → job_at (decided_from forests n k s) 0 ≡ job_at s 0
unfolding decided_from
decided_from-first forests zero k s past = refl
decided_from-first forests (suc n) k s past =
    decided_from-first forests n (suc k) (decided_job forests s k) (omega arith) ∙ decided_job-other forests s k 0 (λ e. absurd (omega arith))

length-decided_from : (forests : List Forest) (n k : ℕ) (s : StripeView) → length (decided_from forests n k s).jobs ≡ length s.jobs
unfolding decided_from
length-decided_from forests zero k s = refl
length-decided_from forests (suc n) k s = length-decided_from forests n (suc k) (decided_job forests s k) ∙ length-decided_job forests s k

-- a stripe without jobs stays
phased-none : (forests : List Forest) (s : StripeView) → length s.jobs ≡ 0 → phased forests s ≡ s
unfolding decided_from
phased-none forests s none = ap (λ n. decided_from forests n 0 s) none

decided-waits : (forests : List Forest) (s : StripeView) (k : ℕ) → waits (record (job_at s k) { verdict = verdict_in forests s.rows (job_at s k).update }) ≡ false
decided-waits forests s k =
    let j = job_at s k in
    elim (verdict_in-cases forests s.rows (job_at s k).update) [
      | inl can ↦ ap (λ (v : Verdict). waits (record j { verdict = v })) can.0
      | inr other ↦ elim other [ inl refused ↦ ap (λ (v : Verdict). waits (record j { verdict = v })) refused | inr bounced ↦ ap (λ (v : Verdict). waits (record j { verdict = v })) bounced ]
    ]

-- once all jobs are decided the first one doesn't wait
phased-waits : (forests : List Forest) (s : StripeView) → waits_first (phased forests s).jobs ≡ false
unfolding decided_from
phased-waits forests s =
    elim (cases_lt 0 (length s.jobs)) [
      | inl some ↦ (
          let size = length-decided_from forests (length s.jobs) 0 s in
          waits_first-at (phased forests s).jobs (omega arith) ∙ ap waits (first forests s (length s.jobs) some some) ∙ decided-waits forests s 0)
      | inr none ↦ (
          let empty : s.jobs ≡ [] = nil_from_length s.jobs (omega arith) in
          ap (λ (x : StripeView). waits_first x.jobs) (phased-none forests s (omega arith)) ∙ ap waits_first empty)
    ]
  where
    first : (forests : List Forest) (s : StripeView) (n : ℕ) → 0 < n → 0 < length s.jobs
        → job_at (decided_from forests n 0 s) 0 ≡ record (job_at s 0) { verdict = verdict_in forests s.rows (job_at s 0).update }
    first forests s zero some inside = absurd (omega arith)
    first forests s (suc n) some inside =
        decided_from-first forests n 1 (decided_job forests s 0) (omega arith) ∙ ap (λ jobs. get_or jobs 0 no_job) (decided_job-jobs forests s 0)
        ∙ get_or-set_same s.jobs 0 (record (job_at s 0) { verdict = verdict_in forests s.rows (job_at s 0).update }) no_job inside

phased_once-first : (forests : List Forest) (s : StripeView) → IsUndecided s → phased_once forests s ≡ phased forests s
phased_once-first forests s undecided =
    elim (cases_Bool (waits_first s.jobs)) [
      | inl waiting ↦ rw waiting refl
      | inr decided ↦ rw decided (sym (phased-none forests s (elim (cases_lt 0 (length s.jobs)) [
        | inl some ↦ absurd (both_ways (waits_first s.jobs) decided (waits_first-at s.jobs some ∙ (undecided 0 no_job some).waiting))
        | inr none ↦ omega arith
      ])))
    ]

phased_once-again : (forests : List Forest) (s : StripeView) → phased_once forests (phased forests s) ≡ phased forests s
phased_once-again forests s = ap (λ b. if b then phased forests (phased forests s) else phased forests s) (phased-waits forests s)

-- All stripes

-- the stripe of a job that was given
abbrev pub place_of : LooseView → ℕ → ℕ
place_of l k = stripe_of (get_or l.jobs k no_job).update

-- the stripes of the first k jobs are decided, and each other stripe is decided or as before
pub record IsDecidedTo (forests : List Forest) (old now : LooseView) (k : ℕ) : Type 0 where
  pub rest : now ≡ record old { stripes = now.stripes }
  pub size : length now.stripes ≡ 64
  pub each : (m : ℕ) → (stripe_at now m ≡ stripe_at old m) ⊎ (stripe_at now m ≡ phased forests (stripe_at old m))
  pub first : (i : ℕ) → i < k → stripe_at now (place_of old i) ≡ phased forests (stripe_at old (place_of old i))

module _ (forests : List Forest) (old : LooseView) (fresh : IsFresh old) where
  pub IsDecidedTo-start : IsDecidedTo forests old old 0
  IsDecidedTo-start = record { rest = refl; size = fresh.of.work.stripes; each = λ m. inl refl; first = λ i lt. absurd (omega arith) }

  module _ (now : LooseView) (k : ℕ) (so : IsDecidedTo forests old now k) where
    -- where the first job of a stripe waits, none is decided
    pub undecided-now : (m : ℕ) → m < 64 → IsTrue (waits_first (stripe_at now m).jobs) → IsUndecided (stripe_at now m)
    undecided-now m lt waiting =
        elim (so.each m) [
          | inl same ↦ subst IsUndecided (sym same) (stripe-open fresh.graph fresh.jobs old fresh.of m lt)
          | inr decided ↦ absurd (both_ways (waits_first (stripe_at now m).jobs) (ap (λ (s : StripeView). waits_first s.jobs) decided ∙ phased-waits forests (stripe_at old m)) waiting)
        ]

    once-now : (m : ℕ) → m < 64 → phased_once forests (stripe_at now m) ≡ phased forests (stripe_at old m)
    once-now m lt =
        elim (so.each m) [
          | inl same ↦ ap (phased_once forests) same ∙ phased_once-first forests (stripe_at old m) (stripe-open fresh.graph fresh.jobs old fresh.of m lt)
          | inr decided ↦ ap (phased_once forests) decided ∙ phased_once-again forests (stripe_at old m)
        ]

    -- one job more
    pub IsDecidedTo-step : (new : StripeView) → new ≡ phased_once forests (stripe_at now (place_of old k)) → IsDecidedTo forests old (record now { stripes = set now.stripes (place_of old k) new }) (k + 1)
    IsDecidedTo-step new is =
        let m = place_of old k in
        let low = stripe_of-lt (get_or old.jobs k no_job).update in
        let size = so.size in
        let next : LooseView = record now { stripes = set now.stripes m new } in
        let own : stripe_at next m ≡ phased forests (stripe_at old m) = get_or-set_same now.stripes m new no_stripe (omega arith) ∙ is ∙ once-now m low in
        let other : (n : ℕ) → n ≢ m → stripe_at next n ≡ stripe_at now n = λ n ne. get_or-set_other now.stripes m n new no_stripe ne in
        record {
          rest = ap (λ (x : LooseView). let y : LooseView = record x { stripes = set now.stripes m new } in y) so.rest;
          size = length-set now.stripes m new ∙ so.size;
          each = λ n. elim (cases_eq n m) [
            | inl same ↦ inr (subst (λ i. stripe_at next i ≡ phased forests (stripe_at old i)) (sym same) own)
            | inr ne ↦ elim (so.each n) [ inl as_before ↦ inl (other n ne ∙ as_before) | inr decided ↦ inr (other n ne ∙ decided) ]
          ];
          first = λ i lt. elim (cases_eq (place_of old i) m) [
            | inl same ↦ subst (λ n. stripe_at next n ≡ phased forests (stripe_at old n)) (sym same) own
            | inr ne ↦ other (place_of old i) ne ∙ so.first i (elim (cases_lt i k) [
              | inl before ↦ before
              | inr past ↦ (let e : i ≡ k = omega arith in absurd (ne (ap (place_of old) e)))
            ])
          ];
        }

  -- in the end all are decided
  pub IsDecidedTo-all : (now : LooseView) → IsDecidedTo forests old now (length old.jobs) → now ≡ all_phased forests old
  IsDecidedTo-all now so =
      let size = fresh.of.work.stripes in
      let same : now.stripes ≡ map (phased forests) old.stripes
      = ext_get_or no_stripe now.stripes (map (phased forests) old.stripes) (so.size ∙ sym (length-map old.stripes (phased forests) ∙ size)) (λ m lt.
      let long = so.size in
      let within : m < length old.stripes = omega arith in
      at m ∙ sym (get_or-map (phased forests) old.stripes m no_stripe no_stripe within)) in
      so.rest ∙ ap (λ (ss : List StripeView). let x : LooseView = record old { stripes = ss } in x) same
    where
      at : (m : ℕ) → stripe_at now m ≡ phased forests (stripe_at old m)
      at m =
          elim (so.each m) [
            | inl same ↦ elim (cases_lt 0 (length (stripe_at old m).jobs)) [
              | inl some ↦ (
                  let read = ap length (jobs-read old.stripes m) in
                  let place = HasPlaces-work fresh.graph fresh.jobs old fresh.of.work m (omega arith) in
                  subst (λ n. stripe_at now n ≡ phased forests (stripe_at old n)) place.2 (so.first place.0 place.1))
              | inr none ↦ same ∙ sym (phased-none forests (stripe_at old m) (omega arith))
            ]
            | inr decided ↦ decided
          ]
