use Rattle.std.proofs.Common.{◌≡◌, ◌<◌, ◌∙◌, List, ◌∷◌, ◌++◌, [], length, get_or, set, take, sym, ap, subst, arith}
use Rattle.std.proofs.lemmas.List.{get_or_default, length-map}
use Rattle.ris_graph.specs.Jobs.{by_stripe, stripe_of}
use Rattle.ris_graph.specs.Phase.{with_jobs}
use Rattle.ris_graph.specs.StripeView.{CanCarry, StripeView, fresh, no_job}
use Rattle.ris_graph.proofs.CarryLemmas.{load-at, load-carries, load-few, load-step, with_jobs-idle}
use Rattle.ris_graph.proofs.JobLemmas.{stripe_of-lt}
use Rattle.ris_graph.proofs.ListedJobs.{by_stripe-nil, length-by_stripe}
use Rattle.ris_graph.proofs.TableLemmas.{rows_of}
use Rattle.ris_graph.proofs.WorkLemmas.{length-with_jobs}
use Rattle.ris_graph.proofs.looses.load.Goals as goal

pub loop-job-init : goal.loop-job-init
loop-job-init g c = sym (ap (with_jobs (rows_of c.args.stripes.now.items)) by_stripe-nil ∙ with_jobs-idle c.args.stripes.now.items c.requires.stripes c.requires.idle)

pub index_mut-requires : goal.index_mut-requires
index_mut-requires g c =
    let i = c.loop-job.job-index in
    let jobs = c.args.jobs.now in
    let j = get_or jobs i no_job in
    let t = rows_of c.args.stripes.now.items in
    let js = by_stripe (take i jobs) in
    let low = stripe_of-lt j.update in
    let same : c.stripe_of.result ≡ stripe_of j.update = c.stripe_of.ensures in
    let size = length-map c.args.stripes.now.items (λ (x : StripeView). x.rows) ∙ c.requires.stripes in
    let long : length c.loop-job.stripes.items ≡ 64 = ap length c.loop-job.invariant ∙ length-with_jobs t js (size ∙ sym (length-by_stripe (take i jobs))) ∙ size in
    omega (arith, c.loop-job.stripes.ok.0)

pub add-requires-clause-memory : goal.add-requires-clause-memory
add-requires-clause-memory g c =
    let i = c.loop-job.job-index in
    let jobs = c.args.jobs.now in
    let j = get_or jobs i no_job in
    let m = stripe_of j.update in
    let t = rows_of c.args.stripes.now.items in
    let js = by_stripe (take i jobs) in
    let s = c.index_mut.result.now in
    let lt : c.loop-job.job-index < length c.args.jobs.now = c.loop-job-test.true in
    let size = length-map c.args.stripes.now.items (λ (x : StripeView). x.rows) ∙ c.requires.stripes in
    let is : c.index_mut.result.now ≡ fresh (get_or t m []) (get_or js m [])
    = load-at t js c.loop-job.stripes.items m s size (length-by_stripe (take i jobs)) (stripe_of-lt j.update) c.loop-job.invariant
    (subst (λ k. s ≡ get_or c.loop-job.stripes.items k s) c.stripe_of.ensures c.index_mut.ensures.value) in
    ap (λ (x : StripeView). x.job_room) is

pub add-requires-clause-log : goal.add-requires-clause-log
add-requires-clause-log g c =
    let i = c.loop-job.job-index in
    let jobs = c.args.jobs.now in
    let j = get_or jobs i no_job in
    let m = stripe_of j.update in
    let t = rows_of c.args.stripes.now.items in
    let js = by_stripe (take i jobs) in
    let s = c.index_mut.result.now in
    let lt : c.loop-job.job-index < length c.args.jobs.now = c.loop-job-test.true in
    let size = length-map c.args.stripes.now.items (λ (x : StripeView). x.rows) ∙ c.requires.stripes in
    let is : c.index_mut.result.now ≡ fresh (get_or t m []) (get_or js m [])
    = load-at t js c.loop-job.stripes.items m s size (length-by_stripe (take i jobs)) (stripe_of-lt j.update) c.loop-job.invariant
    (subst (λ k. s ≡ get_or c.loop-job.stripes.items k s) c.stripe_of.ensures c.index_mut.ensures.value) in
    ap (λ (x : StripeView). x.log) is

pub add-requires-clause-few : goal.add-requires-clause-few
add-requires-clause-few g c =
    let i = c.loop-job.job-index in
    let jobs = c.args.jobs.now in
    let j = get_or jobs i no_job in
    let m = stripe_of j.update in
    let t = rows_of c.args.stripes.now.items in
    let js = by_stripe (take i jobs) in
    let s = c.index_mut.result.now in
    let lt : c.loop-job.job-index < length c.args.jobs.now = c.loop-job-test.true in
    let size = length-map c.args.stripes.now.items (λ (x : StripeView). x.rows) ∙ c.requires.stripes in
    let is : c.index_mut.result.now ≡ fresh (get_or t m []) (get_or js m [])
    = load-at t js c.loop-job.stripes.items m s size (length-by_stripe (take i jobs)) (stripe_of-lt j.update) c.loop-job.invariant
    (subst (λ k. s ≡ get_or c.loop-job.stripes.items k s) c.stripe_of.ensures c.index_mut.ensures.value) in
    let here = ap length (ap (λ (x : StripeView). x.jobs) is) in
    let most = load-few jobs i m (stripe_of-lt j.update) lt in
    let few = c.requires.few in
    omega (arith, here, most, few, lt)

pub add-requires-clause-carries : goal.add-requires-clause-carries
add-requires-clause-carries g c =
    let i = c.loop-job.job-index in
    let jobs = c.args.jobs.now in
    let j = get_or jobs i no_job in
    let m = stripe_of j.update in
    let t = rows_of c.args.stripes.now.items in
    let js = by_stripe (take i jobs) in
    let s = c.index_mut.result.now in
    let lt : c.loop-job.job-index < length c.args.jobs.now = c.loop-job-test.true in
    let size = length-map c.args.stripes.now.items (λ (x : StripeView). x.rows) ∙ c.requires.stripes in
    let is : c.index_mut.result.now ≡ fresh (get_or t m []) (get_or js m [])
    = load-at t js c.loop-job.stripes.items m s size (length-by_stripe (take i jobs)) (stripe_of-lt j.update) c.loop-job.invariant
    (subst (λ k. s ≡ get_or c.loop-job.stripes.items k s) c.stripe_of.ensures c.index_mut.ensures.value) in
    subst (λ (x : StripeView). CanCarry x.rows (x.jobs ++ j ∷ [])) (sym is)
    (load-carries (get_or t m []) jobs i j lt (get_or_default jobs i j no_job lt) (c.requires.fit m (stripe_of-lt j.update)))

pub loop-job-preserved : goal.loop-job-preserved
loop-job-preserved g c =
    let i = c.loop-job.job-index in
    let jobs = c.args.jobs.now in
    let j = get_or jobs i no_job in
    let m = stripe_of j.update in
    let t = rows_of c.args.stripes.now.items in
    let js = by_stripe (take i jobs) in
    let s = c.index_mut.result.now in
    let lt : c.loop-job.job-index < length c.args.jobs.now = c.loop-job-test.true in
    let size = length-map c.args.stripes.now.items (λ (x : StripeView). x.rows) ∙ c.requires.stripes in
    let is : c.index_mut.result.now ≡ fresh (get_or t m []) (get_or js m [])
    = load-at t js c.loop-job.stripes.items m s size (length-by_stripe (take i jobs)) (stripe_of-lt j.update) c.loop-job.invariant
    (subst (λ k. s ≡ get_or c.loop-job.stripes.items k s) c.stripe_of.ensures c.index_mut.ensures.value) in
    let new : c.add.new.self ≡ fresh (get_or t m []) (get_or js m [] ++ j ∷ []) = c.add.ensures ∙ ap (λ (x : StripeView). fresh x.rows (x.jobs ++ j ∷ [])) is in
    ap (λ k. set c.loop-job.stripes.items k c.add.new.self) c.stripe_of.ensures ∙ ap (λ (ss : List StripeView). set ss m c.add.new.self) c.loop-job.invariant
    ∙ ap (set (with_jobs t js) m) new ∙ sym (load-step t jobs i j size lt (get_or_default jobs i j no_job lt))
