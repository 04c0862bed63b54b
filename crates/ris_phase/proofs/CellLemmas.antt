-- What the phase makes of a stripe is what the machine's cells say of its jobs.
use Rattle.std.proofs.Common.{◌≡◌, ◌≢◌, ℕ, suc, ◌+◌, ◌-◌, ◌%◌, ◌/◌, ◌<◌, if◌then◌else◌, inl, inr, Bool, true, false, IsTrue, List, [], ◌∷◌, ◌++◌, length, map, get_or, set, arith, refl, sym, ap, subst, ◌∙◌, append_assoc}
use Rattle.std.proofs.Math.Seq.{get_or-append_seam, set-append_seam}
use Rattle.std.specs.List.{All}
use Rattle.std.proofs.lemmas.Bool.{both_ways}
use Rattle.std.proofs.lemmas.List.{append-nil, get_or-map, length-append, length-map, map-append}
use Rattle.std.proofs.lemmas.List.Elements.{All-from_get_or, All-head, All-tail}
use Rattle.ris_base.specs.Forest.{Forest}
use Rattle.ris_base.specs.Graph.{copies, is_equal, triple}
use Rattle.ris_base.specs.Machine.{Decided, copies_after, copies_by, is_applied, verdict_at, verdict_of}
use Rattle.ris_base.specs.declared.events.Verdict.{Verdict}
use Rattle.ris_base.specs.declared.events.Verdict.TheVariants.{Applied, Bounced, NoEdge, Waiting}
use Rattle.ris_base.specs.declared.graphs.PlainGraph.{PlainGraph}
use Rattle.ris_base.specs.declared.graphs.Triple.{Triple}
use Rattle.ris_base.specs.declared.updates.Update.{Update}
use Rattle.ris_base.specs.declared.updates.Update.TheVariants.{AddV, DelV, AddE, DelE, SetW}
use Rattle.ris_base.proofs.EffectLemmas
use Rattle.ris_legal.proofs.Cells.{copies-more}
use Rattle.ris_rows.specs.Neighbours.{copies_of}
use Rattle.ris_rows.specs.RowView.{RowView}
use Rattle.ris_graph.specs.GraphView.{GraphView, IsOf}
use Rattle.ris_graph.specs.Jobs.{IsJobOf, is_job, job_count, stripe_of}
use Rattle.ris_graph.specs.Phase.{Follows, IsReady, IsWorkOf, LooseView, applied_of, stripe_at}
use Rattle.ris_graph.specs.StripeView.{StripeView, fresh, job_at, no_job, no_stripe}
use Rattle.ris_graph.specs.declared.stripes.StripeJob.{StripeJob}
use Rattle.ris_graph.proofs.PhaseLemmas.{fresh-stripe}
use Rattle.ris_graph.proofs.StepLemmas.{IsFresh, IsHome, IsUnder, IsUnder-declined, IsUnder-edited, IsUnder-start, applied-noted, length-rows_after, log-declined, rows_after-copies, stripe_copies}
use Rattle.ris_graph.proofs.WorkLemmas.{get_or-with_jobs, out_row-at, ready-at}
use Rattle.ris_phase.specs.Cells.{IsLoosenedOf, IsOpen, IsUndecided, all_phased, applied_updates, celled, cells, decided_from, decided_job, decision, logged, logs, phased, verdict_in, with_decision}
use Rattle.ris_phase.proofs.DecideLemmas.{can_decline, can_edit, decided_job-by, decided_job-jobs, verdict_in-cases}
use Rattle.ris_phase.proofs.FollowLemmas.{follows-decided}

-- what steps made of a stripe of this number, where a log stands: its rows have the copies that the log leaves of those of the graph,
-- its own log names the sessions, and the updates that were applied are the log's
record IsBehind (m : ℕ) (old : StripeView) (p : PlainGraph) (log : List Decided) (s : StripeView) : Type 0 where
  under : IsUnder m old s
  counts : (t : Triple) → t.source % 64 ≡ m → stripe_copies s t ≡ copies_after t (copies p t) log
  sessions : s.log ≡ map (λ d. d.entry.session) log
  applied : applied_of s ≡ applied_updates log

-- One cell

-- the verdict by the rows is the verdict by the log
verdict-cell : (m : ℕ) (old : StripeView) (p : PlainGraph) (forests : List Forest) (log : List Decided) (s : StripeView) (update : Update) → IsBehind m old p log s → IsTrue (is_job update) → stripe_of update ≡ m
    → verdict_in forests s.rows update ≡ verdict_of p forests log (update ∷ [])
verdict-cell m old p forests log s (AddV x) b kind home = refl
verdict-cell m old p forests log s (AddE u v w) b kind home = refl
verdict-cell m old p forests log s (DelE u v w) b kind home = ap (verdict_at forests (triple u v w)) (b.counts (triple u v w) home)
verdict-cell m old p forests log s (DelV x) b kind home = absurd (both_ways false refl kind)
verdict-cell m old p forests log s (SetW u v w w2) b kind home = absurd (both_ways false refl kind)

-- the two words for the copies behind the update of a job
copies-by : (t : Triple) (n : ℕ) (update : Update) → IsTrue (is_job update) → EffectLemmas.copies_after n update t ≡ copies_by t n update
copies-by t n (AddV x) kind = refl
copies-by t n (DelV x) kind = absurd (both_ways false refl kind)
copies-by t n (SetW u v w w2) kind = absurd (both_ways false refl kind)
copies-by t n (AddE u v w) kind = go (is_equal t (triple u v w))
  where
    go : (b : Bool) → n + (if b then 1 else 0) ≡ (if b then n + 1 else n)
    go true = refl
    go false = omega arith
copies-by t n (DelE u v w) kind = go (is_equal t (triple u v w))
  where
    go : (b : Bool) → n - (if b then 1 else 0) ≡ (if b then n - 1 else n)
    go true = refl
    go false = omega arith

-- One decision more

noted : (log : List Decided) (d : Decided) → map (λ (x : Decided). x.entry.session) (log ++ d ∷ []) ≡ map (λ (x : Decided). x.entry.session) log ++ d.entry.session ∷ []
noted log d = map-append (λ (x : Decided). x.entry.session) log (d ∷ [])

length-rows-decided : (s : StripeView) (k : ℕ) (v : Verdict) → length (with_decision s k v).rows ≡ length s.rows
length-rows-decided s k Applied = length-rows_after s.rows (job_at s k).update
length-rows-decided s k NoEdge = refl
length-rows-decided s k Bounced = refl
length-rows-decided s k Waiting = refl

applied_updates-push : (log : List Decided) (d : Decided) → applied_updates (log ++ d ∷ []) ≡ applied_updates log ++ (if is_applied d then d.entry.parts else [])
unfolding applied_updates
applied_updates-push [] d = append-nil (if is_applied d then d.entry.parts else [])
applied_updates-push (c ∷ log) d =
    let own : List Update = if is_applied c then c.entry.parts else [] in
    ap (λ us. own ++ us) (applied_updates-push log d) ∙ sym (append_assoc own (applied_updates log) (if is_applied d then d.entry.parts else []))

-- the stripe stands behind the log with the decision
behind-decided : (m : ℕ) (old : StripeView) (p : PlainGraph) (forests : List Forest) (seq : ℕ → ℕ) (log : List Decided) (s : StripeView) (k : ℕ) (v : Verdict) → IsFresh m old
    → IsBehind m old p log s → IsHome m (length s.rows) (job_at s k).update → k < length s.jobs → IsOpen (job_at s k) → v ≡ verdict_in forests s.rows (job_at s k).update
    → v ≢ Waiting → IsBehind m old p (logged log (decision seq (record (job_at s k) { verdict = v }))) (with_decision s k v)
behind-decided m old p forests seq log s k Applied fresh b home lt fit is some =
    let update = (job_at s k).update in
    let j : StripeJob = record (job_at s k) { verdict = Applied } in
    let d : Decided = decision seq j in
    let can = can_edit forests s k lt fit (sym is) in
    record {
      under = IsUnder-edited m old s k fresh b.under can;
      counts = λ t at.
          rows_after-copies m s.rows update t b.under.ascending home at ∙ copies-by t (stripe_copies s t) update home.kind ∙ ap (λ n. copies_by t n update) (b.counts t at)
          ∙ sym (copies-more t log d (copies p t));
      sessions = ap (λ l. l ++ (job_at s k).session ∷ []) b.sessions ∙ sym (noted log d);
      applied = applied-noted m old s k j fresh b.under lt fit.waiting refl ∙ ap (λ us. us ++ update ∷ []) b.applied ∙ sym (applied_updates-push log d);
    }
behind-decided m old p forests seq log s k NoEdge fresh b home lt fit is some =
    let d : Decided = decision seq (record (job_at s k) { verdict = NoEdge }) in
    let can = can_decline forests s k NoEdge lt fit is (λ e. absurd (cc)) in
    record {
      under = IsUnder-declined m old s k NoEdge fresh b.under can;
      counts = λ t at. b.counts t at ∙ sym (copies-more t log d (copies p t));
      sessions = ap (λ l. l ++ (job_at s k).session ∷ []) b.sessions ∙ sym (noted log d);
      applied = (log-declined m old s k NoEdge fresh b.under can).0 ∙ b.applied ∙ sym (applied_updates-push log d ∙ append-nil (applied_updates log));
    }
behind-decided m old p forests seq log s k Bounced fresh b home lt fit is some =
    let can = can_decline forests s k Bounced lt fit is (λ e. absurd (cc)) in
    record {
      under = IsUnder-declined m old s k Bounced fresh b.under can;
      counts = b.counts;
      sessions = b.sessions;
      applied = (log-declined m old s k Bounced fresh b.under can).0 ∙ b.applied;
    }
behind-decided m old p forests seq log s k Waiting fresh b home lt fit is some = absurd (some refl)

-- All jobs of a stripe

-- what is made of a stripe is what cells say of its jobs behind a log
pub record IsCelled (s : StripeView) (jobs : List StripeJob) (log : List Decided) : Type 0 where
  pub jobs_are : s.jobs ≡ jobs
  pub sessions : s.log ≡ map (λ d. d.entry.session) log
  pub applied : applied_of s ≡ applied_updates log

cells-from : (m : ℕ) (old : StripeView) (p : PlainGraph) (forests : List Forest) (seq : ℕ → ℕ) (rest done : List StripeJob) (s : StripeView) (log : List Decided)
    → IsFresh m old → s.jobs ≡ done ++ rest → All (λ j. IsHome m (length s.rows) j.update) rest → All IsOpen rest → IsBehind m old p log s
    → IsCelled (decided_from forests (length rest) (length done) s) (done ++ cells p forests seq log rest) (logs p forests seq log rest)
unfolding decided_from cells logs
cells-from m old p forests seq [] done s log fresh is homes opens b = record { jobs_are = is; sessions = b.sessions; applied = b.applied }
cells-from m old p forests seq (j ∷ rest) done s log fresh is homes opens b =
    let k = length done in
    let at : job_at s k ≡ j = ap (λ l. get_or l k no_job) is ∙ get_or-append_seam done j rest no_job in
    let lt : length done < length s.jobs = (let l = ap length is in let n = length-append done (j ∷ rest) in omega arith) in
    let home : IsHome m (length s.rows) j.update = All-head (λ (i : StripeJob). IsHome m (length s.rows) i.update) j rest homes in
    let v = verdict_of p forests log (j.update ∷ []) in
    let new : StripeJob = celled p forests log j in
    let next : StripeView = decided_job forests s k in
    let here : verdict_in forests s.rows j.update ≡ v = verdict-cell m old p forests log s j.update b home.kind home.home in
    let found : verdict_in forests s.rows (job_at s k).update ≡ v = ap (λ (i : StripeJob). verdict_in forests s.rows i.update) at ∙ here in
    let some : v ≢ Waiting = elim (verdict_in-cases forests s.rows j.update) [
      | inl can ↦ λ e. (let f = sym can.0 ∙ here ∙ e in cc)
      | inr other ↦ elim other [ inl refused ↦ λ e. (let f = sym refused ∙ here ∙ e in cc) | inr bounced ↦ λ e. (let f = sym bounced ∙ here ∙ e in cc) ]
    ] in
    let same : next ≡ with_decision s k v = decided_job-by forests s k v (sym found) in
    let jobs : next.jobs ≡ (done ++ new ∷ []) ++ rest =
    decided_job-jobs forests s k ∙ ap (λ x. set s.jobs k (record (job_at s k) { verdict = x })) found ∙ ap (λ (i : StripeJob). set s.jobs k (record i { verdict = v })) at
    ∙ ap (λ l. set l k new) is ∙ set-append_seam done j rest new ∙ sym (append_assoc done (new ∷ []) rest) in
    let size : length next.rows ≡ length s.rows = ap (λ (x : StripeView). length x.rows) same ∙ length-rows-decided s k v in
    let behind : IsBehind m old p (logged log (decision seq new)) next =
    subst (IsBehind m old p (logged log (decision seq new))) (sym same)
    (subst (λ (i : StripeJob). IsBehind m old p (logged log (decision seq (record i { verdict = v }))) (with_decision s k v)) at
    (behind-decided m old p forests seq log s k v fresh b (subst (λ (i : StripeJob). IsHome m (length s.rows) i.update) (sym at) home) lt
    (subst IsOpen (sym at) (All-head IsOpen j rest opens)) (sym found) some)) in
    let more = cells-from m old p forests seq rest (done ++ new ∷ []) next (logged log (decision seq new)) fresh jobs
    (subst (λ n. All (λ (i : StripeJob). IsHome m n i.update) rest) (sym size) (All-tail (λ (i : StripeJob). IsHome m (length s.rows) i.update) j rest homes))
    (All-tail IsOpen j rest opens) behind in
    let place : suc k ≡ length (done ++ new ∷ []) = (let l = length-append done (new ∷ []) in omega arith) in
    let jobs_with = append_assoc done (new ∷ []) (cells p forests seq (logged log (decision seq new)) rest) in
    subst (λ n. IsCelled (decided_from forests (length rest) n next) (done ++ cells p forests seq log (j ∷ rest)) (logs p forests seq log (j ∷ rest))) (sym place)
    (record { jobs_are = more.jobs_are ∙ jobs_with; sessions = more.sessions; applied = more.applied })

-- A graph with jobs

module _ (g : GraphView) (js : List (List StripeJob)) (l : LooseView) (loosened_of : IsLoosenedOf g js l) where
  -- a stripe has its rows and its jobs
  pub stripe-fresh : (m : ℕ) → m < 64 → stripe_at l m ≡ fresh (get_or g.stripes m []) (get_or js m [])
  stripe-fresh m lt =
      ap (λ (x : LooseView). stripe_at x m) loosened_of.is
      ∙ (let size = loosened_of.work.sound.sized.stripes in get_or-with_jobs g.stripes js m (size ∙ sym loosened_of.work.jobs.stripes) (omega arith))

  -- a job is open
  open-job : (m : ℕ) (j : StripeJob) → IsReady (job_count js) g j → IsJobOf m j → IsOpen j
  open-job m j ready of = record { waiting = rw ready.waiting refl; limits = of.limits }

  pub stripe-open : (m : ℕ) → m < 64 → IsUndecided (stripe_at l m)
  stripe-open m lt =
      subst IsUndecided (sym (stripe-fresh m lt))
      (λ k d less. open-job m (get_or (get_or js m []) k d) (ready-at (job_count js) g js m loosened_of.work.jobs loosened_of.work.ready lt k d less) (loosened_of.work.jobs.each m k d less))

  pub all-open : All IsUndecided l.stripes
  all-open = All-from_get_or IsUndecided l.stripes no_stripe (λ m lt. (let size = loosened_of.work.stripes in stripe-open m (omega arith)))

  -- what is made of a stripe
  pub stripe-phased : (forests : List Forest) (m : ℕ) → m < 64 → stripe_at (all_phased forests l) m ≡ phased forests (stripe_at l m)
  stripe-phased forests m lt = (let size = loosened_of.work.stripes in get_or-map (phased forests) l.stripes m no_stripe no_stripe (omega arith))

  -- it is the work of edits and declines
  pub work-phased : (forests : List Forest) → IsWorkOf g js (all_phased forests l)
  work-phased forests = record {
    sound = loosened_of.work.sound;
    jobs = loosened_of.work.jobs;
    ready = loosened_of.work.ready;
    format = loosened_of.work.format;
    ins = loosened_of.work.ins;
    present = loosened_of.work.present;
    given = loosened_of.work.given;
    stripes = length-map l.stripes (phased forests) ∙ loosened_of.work.stripes;
    follows = λ m lt.
        let old = stripe_at l m in
        subst (λ (x : LooseView). Follows (stripe_at x m) (stripe_at (all_phased forests l) m)) loosened_of.is
        (subst (Follows old) (sym (stripe-phased forests m lt)) (follows-decided forests (length old.jobs) 0 old (omega arith) (λ i low less. stripe-open m lt i no_job less)));
  }

  module _ (p : PlainGraph) (of : IsOf g p) where
    behind-fresh : (m : ℕ) → m < 64
        → IsBehind m (fresh (get_or g.stripes m []) (get_or js m [])) p [] (fresh (get_or g.stripes m []) (get_or js m []))
    unfolding copies_after applied_updates
    behind-fresh m lt = record {
      under = IsUnder-start m (fresh (get_or g.stripes m []) (get_or js m [])) (fresh-stripe g js l loosened_of.work m lt);
      counts = λ t at. ap (λ (r : RowView). copies_of r.items t.target t.weight) (sym (out_row-at g m (t.source / 64) t.source at refl)) ∙ of.triples t;
      sessions = refl;
      applied = refl;
    }

    -- the jobs, the log and the applied updates of a stripe are those of its cells
    pub cells-phased : (forests : List Forest) (seq : ℕ → ℕ) (m : ℕ) → m < 64
        → IsCelled (stripe_at (all_phased forests l) m) (cells p forests seq [] (get_or js m [])) (logs p forests seq [] (get_or js m []))
    cells-phased forests seq m lt =
        let s : StripeView = fresh (get_or g.stripes m []) (get_or js m []) in
        let made : stripe_at (all_phased forests l) m ≡ phased forests s = stripe-phased forests m lt ∙ ap (phased forests) (stripe-fresh m lt) in
        let first = fresh-stripe g js l loosened_of.work m lt in
        let opens : All IsOpen (get_or js m []) = subst IsUndecided (stripe-fresh m lt) (stripe-open m lt) in
        subst (λ (x : StripeView). IsCelled x (cells p forests seq [] (get_or js m [])) (logs p forests seq [] (get_or js m []))) (sym made)
        (cells-from m s p forests seq (get_or js m []) [] s [] first refl first.homes opens (behind-fresh m lt))
