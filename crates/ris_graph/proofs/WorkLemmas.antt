-- A graph with jobs, as loosen makes it.
use Rattle.std.proofs.Common.{◌≡◌, ℕ, zero, suc, ◌+◌, ◌*◌, ◌<◌, ◌≤◌, ◌/◌, ◌%◌, ◌^◌, true, false, ◌&&◌, ◌==◌, List, [], ◌∷◌, None, length, get_or, set, arith, refl, inl, inr, sym, ap, subst, ◌∙◌}
use Rattle.std.specs.List.{All, count_by}
use Rattle.std.proofs.lemmas.Bool.{and_parts, both_ways, cases_lt, eqb-true}
use Rattle.std.proofs.lemmas.List.Elements.{All-contains, All-get_or, All-weaker}
use Rattle.std.proofs.lemmas.List.Sums.{count_by-le-length}
use Rattle.ris_base.specs.Effect.{first_past_limit}
use Rattle.ris_base.specs.Limits.{greatest_of}
use Rattle.ris_base.specs.declared.graphs.Format.TheVariants.{Two}
use Rattle.ris_base.specs.declared.updates.Update.{Update}
use Rattle.ris_base.specs.declared.updates.Update.TheVariants.{AddV, DelV, AddE, DelE, SetW}
use Rattle.ris_rows.specs.Neighbours.{IsAscending, copies_of}
use Rattle.ris_rows.specs.RowView.{RowView}
use Rattle.ris_graph.specs.GraphView.{GraphView, out_row, row_at}
use Rattle.ris_graph.specs.Jobs.{AreJobs, EachJob, IsJobOf, by_stripe, in_order, job_count, stripe_of}
use Rattle.ris_graph.specs.Phase.{HasPhaseRoom, IsReady, IsWorkOf, loosened, with_jobs}
use Rattle.ris_graph.specs.Sound.{IsSound}
use Rattle.ris_graph.specs.StripeView.{CanCarry, adds_at, adds_copy, fresh, no_stripe, waits}
use Rattle.ris_graph.specs.declared.stripes.StripeJob.{StripeJob}
use Rattle.ris_graph.proofs.JobLemmas.{job_count-le, stripe-jobs-le}
use Rattle.ris_graph.proofs.ListFacts.{found-count}

-- Rows of a stripe

pub out_row-at : (g : GraphView) (m k u : ℕ) → u % 64 ≡ m → u / 64 ≡ k → out_row g u ≡ row_at (get_or g.stripes m []) k
unfolding out_row
out_row-at g m k u a b = ap (λ i. row_at (get_or g.stripes i []) (u / 64)) a ∙ ap (λ i. row_at (get_or g.stripes m []) i) b

pub stripe-ascending : (g : GraphView) (m : ℕ) → IsSound g → m < 64 → (k : ℕ) → IsAscending (row_at (get_or g.stripes m []) k).items
stripe-ascending g m sound lt k =
    subst (λ (r : RowView). IsAscending r.items) (out_row-at g m k (64 * k + m) (omega arith) (omega arith)) (sound.outs (64 * k + m))

pub ready-at : (n : ℕ) (g : GraphView) (js : List (List StripeJob)) (m : ℕ) → AreJobs js → EachJob (IsReady n g) js → m < 64 → All (IsReady n g) (get_or js m [])
ready-at n g js m are ready lt = (let size = are.stripes in All-get_or (All (IsReady n g)) js m [] (omega arith) ready)

spare-for : (n : ℕ) (g : GraphView) (m k : ℕ) (update : Update) → adds_at k update ≡ true → stripe_of update ≡ m → HasPhaseRoom n g update → n ≤ (row_at (get_or g.stripes m []) k).spare
spare-for n g m k (AddE u v w) adds home room = subst (λ (r : RowView). n ≤ r.spare) (out_row-at g m k u home (eqb-true (u / 64) k adds)) room.0
spare-for n g m k (AddV x) adds home room = absurd (both_ways false refl adds)
spare-for n g m k (DelV x) adds home room = absurd (both_ways false refl adds)
spare-for n g m k (DelE u v w) adds home room = absurd (both_ways false refl adds)
spare-for n g m k (SetW u v w w2) adds home room = absurd (both_ways false refl adds)

copies-for : (n : ℕ) (g : GraphView) (m k e x : ℕ) (update : Update) → adds_copy k e x update ≡ true → stripe_of update ≡ m → HasPhaseRoom n g update
    → copies_of (row_at (get_or g.stripes m []) k).items e x ≤ 2 ^ 63
copies-for n g m k e x (AddE u v w) adds home room =
    let outer = and_parts ((u / 64 == k) && (v == e)) (w == x) adds in
    let inner = and_parts (u / 64 == k) (v == e) outer.0 in
    let row = out_row-at g m k u home (eqb-true (u / 64) k inner.0) in
    same_copies (copies_of (row_at (get_or g.stripes m []) k).items) e v x w (eqb-true v e inner.1) (eqb-true w x outer.1)
    (subst (λ (r : RowView). copies_of r.items v w ≤ 2 ^ 63) row room.2)
  where
    same_copies : (f : ℕ → ℕ → ℕ) (e v x w : ℕ) → v ≡ e → w ≡ x → f v w ≤ 2 ^ 63 → f e x ≤ 2 ^ 63
    same_copies f e v x w a b h = rw (← a, ← b) h
copies-for n g m k e x (AddV y) adds home room = absurd (both_ways false refl adds)
copies-for n g m k e x (DelV y) adds home room = absurd (both_ways false refl adds)
copies-for n g m k e x (DelE u v w) adds home room = absurd (both_ways false refl adds)
copies-for n g m k e x (SetW u v w w2) adds home room = absurd (both_ways false refl adds)

-- there is room in a stripe for its jobs
pub CanCarry-ready : (g : GraphView) (js : List (List StripeJob)) → IsSound g → AreJobs js → EachJob (IsReady (job_count js) g) js → (m : ℕ) → m < 64
    → CanCarry (get_or g.stripes m []) (get_or js m [])
CanCarry-ready g js sound are ready m lt =
    let jobs : List StripeJob = get_or js m [] in
    let rows : List RowView = get_or g.stripes m [] in
    let each = ready-at (job_count js) g js m are ready lt in
    let few = stripe-jobs-le js m in
    let most = job_count-le js are in
    record {
      room = record {
        ascending = stripe-ascending g m sound lt;
        room = λ k. (
            let all = count_by-le-length (λ (j : StripeJob). waits j && adds_at k j.update) jobs in
            elim (cases_lt 0 (count_by (λ (j : StripeJob). waits j && adds_at k j.update) jobs)) [
              | inl some ↦ (let found = found-count (λ (j : StripeJob). waits j && adds_at k j.update) jobs some in
                  let j = found.0 in
                  let test = and_parts (waits j) (adds_at k j.update) found.2 in
                  let spare = spare-for (job_count js) g m k j.update test.1 (All-contains (IsJobOf m) jobs j (are.each m) found.1).home (All-contains (IsReady (job_count js) g) jobs j each found.1).room in
                  omega arith)
              | inr none ↦ omega arith
            ]);
        few = λ k e w some. (
            let all = count_by-le-length (λ (j : StripeJob). waits j && adds_copy k e w j.update) jobs in
            let found = found-count (λ (j : StripeJob). waits j && adds_copy k e w j.update) jobs some in
            let j = found.0 in
            let test = and_parts (waits j) (adds_copy k e w j.update) found.2 in
            let copies = copies-for (job_count js) g m k e w j.update test.1 (All-contains (IsJobOf m) jobs j (are.each m) found.1).home (All-contains (IsReady (job_count js) g) jobs j each found.1).room in
            omega arith);
      };
      limits = All-weaker (IsJobOf m) (λ j. first_past_limit (greatest_of Two) j.update ≡ None) (λ j h. h.limits) jobs (are.each m);
    }

-- Stripes with jobs

pub length-with_jobs : (t : List (List RowView)) (js : List (List StripeJob)) → length t ≡ length js → length (with_jobs t js) ≡ length t
length-with_jobs [] [] size = refl
length-with_jobs [] (j ∷ js) size = absurd (omega arith)
length-with_jobs (r ∷ t) [] size = absurd (omega arith)
length-with_jobs (r ∷ t) (j ∷ js) size = ap (λ n. suc n) (length-with_jobs t js (omega arith))

pub get_or-with_jobs : (t : List (List RowView)) (js : List (List StripeJob)) (m : ℕ) → length t ≡ length js → m < length t
    → get_or (with_jobs t js) m no_stripe ≡ fresh (get_or t m []) (get_or js m [])
get_or-with_jobs [] js m size lt = absurd (omega arith)
get_or-with_jobs (r ∷ t) [] m size lt = absurd (omega arith)
get_or-with_jobs (r ∷ t) (j ∷ js) zero size lt = refl
get_or-with_jobs (r ∷ t) (j ∷ js) (suc m) size lt = get_or-with_jobs t js m (omega arith) (omega arith)

pub with_jobs-set : (t : List (List RowView)) (js : List (List StripeJob)) (m : ℕ) (jobs : List StripeJob) → length t ≡ length js → m < length t
    → with_jobs t (set js m jobs) ≡ set (with_jobs t js) m (fresh (get_or t m []) jobs)
with_jobs-set [] js m jobs size lt = absurd (omega arith)
with_jobs-set (r ∷ t) [] m jobs size lt = absurd (omega arith)
with_jobs-set (r ∷ t) (j ∷ js) zero jobs size lt = refl
with_jobs-set (r ∷ t) (j ∷ js) (suc m) jobs size lt = ap (λ l. fresh r j ∷ l) (with_jobs-set t js m jobs (omega arith) (omega arith))

-- a graph that was loosened is its own and the jobs' work
pub IsWorkOf-loosened : (g : GraphView) (js : List (List StripeJob)) → IsSound g → AreJobs js → EachJob (IsReady (job_count js) g) js → by_stripe (in_order js) ≡ js → IsWorkOf g js (loosened g js)
IsWorkOf-loosened g js sound are ready given = record {
  sound = sound;
  jobs = are;
  ready = ready;
  format = refl;
  ins = refl;
  present = refl;
  given = given;
  stripes = length-with_jobs g.stripes js (sound.sized.stripes ∙ sym are.stripes) ∙ sound.sized.stripes;
  follows = λ m lt. record { steps = []; can = tt; is = refl };
}
