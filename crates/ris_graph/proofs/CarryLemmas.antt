-- Jobs that are given to stripes, one after another, and taken from them.
use Rattle.std.proofs.Common.{◌≡◌, ℕ, ◌+◌, ◌<◌, ◌≤◌, ◌&&◌, ◌==◌, Bool, List, [], ◌∷◌, ◌++◌, None, length, get_or, set, take, drop, arith, refl, sym, ap, subst, ◌∙◌}
use Rattle.std.specs.List.{All, count_by}
use Rattle.std.proofs.lemmas.Bool.{eq-eqb}
use Rattle.std.proofs.lemmas.List.{append_assoc, ext_get_or, get_or-map, get_or_read, length-map, length-replicate, length-take-le, map-set, set-get_or, take_more}
use Rattle.std.proofs.lemmas.List.Elements.{filter-append}
use Rattle.std.proofs.lemmas.List.Sums.{count_by-le-length, length-filter, sum_by-append}
use Rattle.ris_base.specs.Effect.{first_past_limit}
use Rattle.ris_base.specs.Limits.{greatest_of}
use Rattle.ris_base.specs.declared.graphs.Format.TheVariants.{Two}
use Rattle.ris_base.proofs.EffectLemmas.{one_if}
use Rattle.ris_rows.specs.RowView.{RowView}
use Rattle.ris_graph.specs.Jobs.{by_stripe, no_jobs, stripe_of}
use Rattle.ris_graph.specs.Phase.{with_jobs}
use Rattle.ris_graph.specs.StripeView.{CanCarry, IsIdle, StripeView, adds_at, adds_copy, fresh, no_stripe, waits}
use Rattle.ris_graph.specs.declared.stripes.StripeJob.{StripeJob}
use Rattle.ris_graph.proofs.JobLemmas.{no_jobs-at, stripe_of-lt}
use Rattle.ris_graph.proofs.ListFacts.{All-front}
use Rattle.ris_graph.proofs.ListedJobs.{by_stripe-push, get_or-by_stripe, length-by_stripe, of_stripe}
use Rattle.ris_graph.proofs.SettleLemmas.{list-split}
use Rattle.ris_graph.proofs.TableLemmas.{rows-read, rows_of}
use Rattle.ris_graph.proofs.WorkLemmas.{get_or-with_jobs, length-with_jobs, with_jobs-set}

-- Stripes without jobs

made : List RowView → List StripeJob → List ℕ → ℕ → StripeView
made rows jobs log room = record { rows = rows; jobs = jobs; log = log; job_room = room }

pub idle-is : (s : StripeView) → IsIdle s → fresh s.rows [] ≡ s
unfolding made
idle-is s idle =
    ap (λ (jobs : List StripeJob). made s.rows jobs [] 64) (sym idle.jobs) ∙ ap (λ (log : List ℕ). made s.rows s.jobs log 64) (sym idle.log) ∙ ap (made s.rows s.jobs s.log) (sym idle.memory)

-- they are their rows with no jobs
pub with_jobs-idle : (ss : List StripeView) → length ss ≡ 64 → All IsIdle ss → with_jobs (rows_of ss) no_jobs ≡ ss
with_jobs-idle ss size idle =
    let rows = length-map ss (λ (s : StripeView). s.rows) in
    let none = length-replicate {A = List StripeJob} 64 [] in
    let same : length (rows_of ss) ≡ length no_jobs = rows ∙ size ∙ sym none in
    let long = length-with_jobs (rows_of ss) no_jobs same in
    ext_get_or no_stripe (with_jobs (rows_of ss) no_jobs) ss (long ∙ rows) (λ m lt. (
    let within : m < length ss = omega arith in
    get_or-with_jobs (rows_of ss) no_jobs m same (omega arith) ∙ ap (fresh (get_or (rows_of ss) m [])) (no_jobs-at m)
    ∙ ap (λ (r : List RowView). fresh r []) (get_or-map (λ (s : StripeView). s.rows) ss m no_stripe [] within) ∙ idle-is (get_or ss m no_stripe) (idle m no_stripe within)))

-- Room for the first of the jobs

count_by-front : (p : StripeJob → Bool) (xs ys : List StripeJob) → count_by p xs ≤ count_by p (xs ++ ys)
count_by-front p xs ys = (let both = sum_by-append (λ (j : StripeJob). one_if (p j)) xs ys in omega (arith, both))

CanCarry-front : (rows : List RowView) (xs ys : List StripeJob) → CanCarry rows (xs ++ ys) → CanCarry rows xs
CanCarry-front rows xs ys can = record {
  room = record {
    ascending = can.room.ascending;
    room = λ k. (let all = can.room.room k in let front = count_by-front (λ (j : StripeJob). waits j && adds_at k j.update) xs ys in omega (arith, all, front));
    few = λ k e w some. (
        let front = count_by-front (λ (j : StripeJob). waits j && adds_copy k e w j.update) xs ys in
        let all = can.room.few k e w (omega (arith, front, some)) in
        omega (arith, all, front));
  };
  limits = All-front (λ (j : StripeJob). first_past_limit (greatest_of Two) j.update ≡ None) xs ys can.limits;
}

-- Jobs that are given

-- the stripes with one job more
pub load-step : (t : List (List RowView)) (jobs : List StripeJob) (i : ℕ) (j : StripeJob) → length t ≡ 64 → i < length jobs → get_or jobs i j ≡ j
    → with_jobs t (by_stripe (take (i + 1) jobs))
    ≡ set (with_jobs t (by_stripe (take i jobs))) (stripe_of j.update) (fresh (get_or t (stripe_of j.update) []) (get_or (by_stripe (take i jobs)) (stripe_of j.update) [] ++ j ∷ []))
load-step t jobs i j size lt read =
    let m = stripe_of j.update in
    let js = by_stripe (take i jobs) in
    let low = stripe_of-lt j.update in
    ap (λ (l : List StripeJob). with_jobs t (by_stripe l)) (take_more jobs i j lt ∙ ap (λ (x : StripeJob). take i jobs ++ x ∷ []) read)
    ∙ ap (with_jobs t) (by_stripe-push (take i jobs) j)
    ∙ with_jobs-set t js m (get_or js m [] ++ j ∷ []) (size ∙ sym (length-by_stripe (take i jobs))) (omega arith)

-- a stripe of them
pub load-at : (t : List (List RowView)) (js : List (List StripeJob)) (ss : List StripeView) (m : ℕ) (s : StripeView) → length t ≡ 64 → length js ≡ 64 → m < 64
    → ss ≡ with_jobs t js → s ≡ get_or ss m s → s ≡ fresh (get_or t m []) (get_or js m [])
load-at t js ss m s size same lt is read =
    let long = ap length is ∙ length-with_jobs t js (size ∙ sym same) in
    get_or_read ss m s (omega arith) read no_stripe ∙ ap (λ (l : List StripeView). get_or l m no_stripe) is ∙ get_or-with_jobs t js m (size ∙ sym same) (omega arith)

-- it has few jobs, and room for this one
pub load-few : (jobs : List StripeJob) (i m : ℕ) → m < 64 → i < length jobs → length (get_or (by_stripe (take i jobs)) m []) ≤ i
load-few jobs i m lt less =
    let here = ap length (get_or-by_stripe (take i jobs) m lt) in
    let size = length-filter (λ (j : StripeJob). stripe_of j.update == m) (take i jobs) in
    let most = count_by-le-length (λ (j : StripeJob). stripe_of j.update == m) (take i jobs) in
    let front = length-take-le i jobs (omega arith) in
    omega (arith, here, size, most, front)

pub load-carries : (rows : List RowView) (jobs : List StripeJob) (i : ℕ) (j : StripeJob) → i < length jobs → get_or jobs i j ≡ j
    → CanCarry rows (get_or (by_stripe jobs) (stripe_of j.update) []) → CanCarry rows (get_or (by_stripe (take i jobs)) (stripe_of j.update) [] ++ j ∷ [])
load-carries rows jobs i j lt read can =
    let m = stripe_of j.update in
    let low = stripe_of-lt j.update in
    let front = of_stripe m (take i jobs) in
    let rest = of_stripe m (drop (i + 1) jobs) in
    let own : of_stripe m (j ∷ drop (i + 1) jobs) ≡ j ∷ rest = rw (eq-eqb m m refl) refl in
    let whole : get_or (by_stripe jobs) m [] ≡ (front ++ j ∷ []) ++ rest
    = get_or-by_stripe jobs m low ∙ ap (of_stripe m) (list-split jobs i j lt read) ∙ filter-append (λ (x : StripeJob). stripe_of x.update == m) (take i jobs) (j ∷ drop (i + 1) jobs)
    ∙ ap (λ (l : List StripeJob). front ++ l) own ∙ sym (append_assoc front (j ∷ []) rest) in
    subst (λ (l : List StripeJob). CanCarry rows (l ++ j ∷ [])) (sym (get_or-by_stripe (take i jobs) m low))
    (CanCarry-front rows (front ++ j ∷ []) rest (subst (CanCarry rows) whole can))

-- Jobs that are taken

-- the rows stay where one stripe loses its jobs
pub unload-rows : (ss : List StripeView) (i : ℕ) (s new : StripeView) → i < length ss → s ≡ get_or ss i s → new.rows ≡ s.rows → rows_of (set ss i new) ≡ rows_of ss
unload-rows ss i s new lt read same =
    map-set (λ (x : StripeView). x.rows) ss i new ∙ ap (set (rows_of ss) i) (same ∙ rows-read ss i s lt read) ∙ set-get_or (rows_of ss) i s.rows
