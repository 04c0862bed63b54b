-- How the split of a batch grows by one request.
use Rattle.std.proofs.Common.{◌≡◌, ℕ, ◌+◌, ◌<◌, ◌≤◌, ◌==◌, ◌||◌, ◌⊎◌, if◌then◌else◌, inl, inr, Bool, true, false, List, [], ◌∷◌, ◌++◌, length, map, get_or, nat_le, arith, refl, sym, subst, ap, ◌∙◌, cond}
use Rattle.std.specs.List.{All, Contains, list_any}
use Rattle.std.proofs.lemmas.Bool.{cases_lt, le-leb}
use Rattle.std.proofs.lemmas.List.{append-nil, length-append, length-map, map-append}
use Rattle.std.proofs.lemmas.List.Elements.{All-contains, All-from_get_or, All-head, All-nil, All-tail, Contains-append_left, Contains-append_right, filter-append}
use Rattle.std.proofs.lemmas.List.Folds.{sum_by-replicate}
use Rattle.ris_base.specs.Epoch.{Ground, Resolved}
use Rattle.ris_base.specs.Machine.{session_by, stripe_of}
use Rattle.ris_base.specs.declared.lines.Entry.{Entry}
use Rattle.ris_base.specs.declared.records.Record.{Record}
use Rattle.ris_base.specs.declared.records.Start.{Start}
use Rattle.ris_base.specs.declared.requests.Request.{Request}
use Rattle.ris_base.specs.declared.requests.Request.TheVariants as request
use Rattle.ris_base.specs.declared.updates.Update.{Update}
use Rattle.ris_base.proofs.ListLemmas.{All-from_Contains, Contains-filter, Contains-first}
use Rattle.ris_graph.specs.GraphView.{HasRoomOf}
use Rattle.ris_graph.specs.Jobs
use Rattle.ris_graph.specs.Jobs.{EachJob, HasSession, IsJob, job_count, no_jobs, with_job}
use Rattle.ris_graph.specs.Phase.{IsReady}
use Rattle.ris_graph.specs.declared.stripes.StripeJob.{StripeJob}
use Rattle.ris_graph.proofs.JobLemmas.{AreJobs-none, IsJob-at, job-stripe, no_jobs-at}
use Rattle.ris_graph.proofs.ListFacts.{AllPairs-nil}
use Rattle.ris_epoch.specs.Account.{IsBatch, IsSplit, is_candidate_behind}
use Rattle.ris_epoch.specs.Driving.{first_part, job_of, no_memory_for, of_stripe}
use Rattle.ris_epoch.specs.DriverView.{DriverView, StandsFor}
use Rattle.ris_epoch.specs.Ordering.{AreOrdered, inserted_by, stripe_by_entry}
use Rattle.ris_epoch.specs.TurnOrder.{IsSealedBefore}
use Rattle.ris_epoch.specs.Turning.{AreByStripes, HasBegun, IsNext}
use Rattle.ris_epoch.proofs.CandidateFacts.{added_job, all-ready-le, all-ready-room, each-with_job, job_count-with_job, length-with_job, with_job-at}
use Rattle.ris_epoch.proofs.FirstItems.{ordered-before}
use Rattle.ris_epoch.proofs.OrderingLemmas.{filter-inserted, length-inserted, ordered-bounds, ordered-inserted, ordered-length, ordered-once}
use Rattle.ris_epoch.proofs.Pairs.{AllPairs-inserted}
use Rattle.ris_epoch.proofs.SealSteps.{has-order}
use Rattle.ris_epoch.proofs.SettledGraphs.{same-stripe}
use Rattle.ris_epoch.proofs.Splits.{ArePartsOf, parts-of, split-candidate, split-none, split-other, split-want, submits}
use Rattle.ris_epoch.proofs.Stands.{Contains-map, Contains-mapped}
use Rattle.ris_epoch.proofs.StandingFor.{stands-as, stands-same}

-- an item whose key is greater than all comes last
pub inserted-last : {X : Type 0} (key : X → ℕ) (xs : List X) (x : X) → All (λ y. key y < key x) xs → inserted_by key xs x ≡ xs ++ x ∷ []
unfolding inserted_by
inserted-last key [] x all = refl
inserted-last {X} key (y ∷ ys) x all =
    let low = All-head (λ (z : X). key z < key x) y ys all in
    let rest = inserted-last key ys x (All-tail (λ (z : X). key z < key x) y ys all) in
    go (nat_le (key y) (key x)) (le-leb (key y) (key x) (omega arith)) rest
  where
    more : Bool
    more = list_any (λ z. nat_le (key z) (key x)) ys

    go : (b : Bool) → b ≡ true → inserted_by key ys x ≡ ys ++ x ∷ [] → (if b || more then y ∷ inserted_by key ys x else x ∷ y ∷ ys) ≡ y ∷ ys ++ x ∷ []
    go true is rest = ap (λ (zs : List X). y ∷ zs) rest
    go false is rest = absurd (cc)

-- how many requests a split has
pub split-length : (test : Request → Bool) (batch : List Request) (w c : List Entry) (o : List Request) → IsSplit test batch w c o
    → length w + length c + length o ≡ length batch
unfolding IsSplit
split-length test [] w c o h = let a = ap length h.0 in let b = ap length h.1 in let d = ap length h.2 in omega arith
split-length test (r ∷ batch) w c o (inl h) = let rest = split-length test batch h.1 c o h.5 in let e = ap length h.4 in omega arith
split-length test (r ∷ batch) w c o (inr (inl h)) = let rest = split-length test batch w h.1 o h.5 in let e = ap length h.4 in omega arith
split-length test (r ∷ batch) w c o (inr (inr h)) = let rest = split-length test batch w c h.0 h.3 in let e = ap length h.2 in omega arith

-- Who is there

module _ (ground : Ground) (records : List Record) {inserts : ℕ} (batch : List Request) (d : DriverView) (order : List Entry) (rest : List Request)
    (h : HasBegun ground records inserts batch d order rest) where
  -- how many requests are told so, have a job or wait
  pub begun-counts : length d.replies + length order + length rest ≡ length batch
  begun-counts =
      let all = split-length (is_candidate_behind ground records) batch h.wanting h.candidates rest h.split in
      let many = h.many in
      let told = ap length h.told ∙ length-map h.wanting no_memory_for in
      omega arith

  -- where the batch has no more requests than that, each job has room for all jobs
  pub begun-ready : length batch ≤ inserts → EachJob (IsReady (job_count d.jobs) d.graph) d.jobs
  begun-ready few =
      let counts = begun-counts in
      let jobs = h.counted in
      all-ready-le (job_count d.jobs) inserts d.graph d.jobs (omega arith) h.ready

  -- a turn may take the batch where its sessions are there
  pub begun-batch : All (λ r. session_by r < d.opening.sessions) batch → IsBatch ground batch
  begun-batch here = record {
    once = ordered-once 0 batch h.taken;
    here = subst (λ (s : Start). All (λ r. session_by r < s.sessions) batch) h.stands.opening here;
  }

  -- the parts of the batch
  parts : ArePartsOf (is_candidate_behind ground records) batch h.wanting h.candidates rest
  parts = parts-of (is_candidate_behind ground records) batch h.wanting h.candidates rest h.split

  -- who waits is of the batch
  pub rest-known : (r : Request) → Contains rest r → Contains batch r
  rest-known r at = parts.from r (Contains-append_right (submits h.wanting) (submits h.candidates ++ rest) r (Contains-append_right (submits h.candidates) rest r at))

  -- so is a candidate
  pub candidate-known : (e : Entry) → Contains h.candidates e → Contains batch (request.Submit e)
  candidate-known e at = parts.from (request.Submit e) (Contains-append_right (submits h.wanting) (submits h.candidates ++ rest) (request.Submit e)
      (Contains-append_left (submits h.candidates) rest (request.Submit e) (Contains-mapped (λ (x : Entry). request.Submit x) h.candidates e at)))

  -- a job is a candidate's
  pub job-known : (j : StripeJob) → IsJob d.jobs j → (e : Entry) × Contains h.candidates e × (job_of e ≡ j)
  job-known j at =
      let there = job-stripe d.jobs j at in
      let lt : there.0 < 64 = (let long = h.stripes in let less = there.1 in omega arith) in
      let mapped = subst (λ (jobs : List StripeJob). Contains jobs j) (h.jobs there.0 lt) there.2 in
      let e = Contains-map job_of (of_stripe there.0 h.candidates) j mapped in
      (e.0, (Contains-filter (λ (x : Entry). stripe_by_entry x == there.0) h.candidates e.0 e.1).0, e.2)

  module _ (r : Request) (next : IsNext batch r) where
    -- all others have lesser sessions
    lesser : (x : Request) → Contains batch x → session_by x < session_by r
    lesser x at = All-contains (λ (y : Request). session_by y < session_by r) batch x next.behind at

    -- the batch with it is ordered
    pub taken-next : AreOrdered 0 (batch ++ r ∷ [])
    taken-next = subst (AreOrdered 0) (inserted-last session_by batch r next.behind)
        (ordered-inserted 0 batch r h.taken (omega arith) next.within
        (λ at. (let x = Contains-map session_by batch (session_by r) at in let low = lesser x.0 x.1 in let is = x.2 in absurd (omega arith))))

    -- so there is place for it
    pub begun-few : length batch < 64
    begun-few = let few = ordered-length 0 (batch ++ r ∷ []) taken-next in let long = length-append batch (r ∷ []) in omega arith

    -- nobody who waits is of its session
    none-waits : ¬ (Contains (map session_by rest) (session_by r))
    none-waits at = let x = Contains-map session_by rest (session_by r) at in
        let low = lesser x.0 (rest-known x.0 x.1) in let is = x.2 in absurd (omega arith)

    -- nor has it a job
    pub none-job : ¬ (HasSession d.jobs (session_by r))
    none-job has =
        let e = job-known has.0 has.1 in
        let low = lesser (request.Submit e.0) (candidate-known e.0 e.1) in
        let is = ap (λ (j : StripeJob). j.session) e.2 in
        let same = has.2 in
        absurd (omega arith)

    -- each job is of a lesser session
    pub lesser-jobs : (k : ℕ) → All (λ j. j.session < session_by r) (get_or d.jobs k [])
    lesser-jobs k = All-from_Contains (λ (j : StripeJob). j.session < session_by r) (get_or d.jobs k []) (λ j at.
        (let e = job-known j (IsJob-at d.jobs k j at) in
        let low = lesser (request.Submit e.0) (candidate-known e.0 e.1) in
        let is = ap (λ (x : StripeJob). x.session) e.2 in
        omega arith))

    -- it waits last
    pub waits-last : inserted_by session_by rest r ≡ rest ++ r ∷ []
    waits-last = inserted-last session_by rest r (All-from_Contains (λ (x : Request). session_by x < session_by r) rest (λ x at. lesser x (rest-known x at)))

    -- one request more that is no candidate
    pub begun-other : is_candidate_behind ground records r ≡ false → HasBegun ground records inserts (batch ++ r ∷ []) d order (inserted_by session_by rest r)
    begun-other is = record {
      wanting = h.wanting;
      candidates = h.candidates;
      taken = taken-next;
      split = subst (λ (o : List Request). IsSplit (is_candidate_behind ground records) (batch ++ r ∷ []) h.wanting h.candidates o) (sym waits-last)
          (split-other (is_candidate_behind ground records) batch h.wanting h.candidates rest r h.split is);
      ordered = ordered-inserted 0 rest r h.ordered (omega arith) next.within none-waits;
      by_stripe = h.by_stripe;
      many = h.many;
      rises = h.rises;
      stands = h.stands;
      stripes = h.stripes;
      jobs = h.jobs;
      counted = h.counted;
      ready = h.ready;
      lines = h.lines;
      room = h.room;
      none = h.none;
      told = h.told;
    }

  -- more room changes nothing
  pub begun-room : (f : DriverView) → HasRoomOf d.graph f.graph → f.jobs ≡ d.jobs → f.analyses ≡ d.analyses → f.journal.lines ≡ d.journal.lines
      → d.journal.spare ≤ f.journal.spare → f.opening ≡ d.opening → f.records ≡ d.records → d.record_room ≤ f.record_room → f.replies ≡ d.replies
      → HasBegun ground records inserts batch f order rest
  begun-room f graph jobs analyses lines spare opening given room replies = record {
    wanting = h.wanting;
    candidates = h.candidates;
    taken = h.taken;
    split = h.split;
    ordered = h.ordered;
    by_stripe = h.by_stripe;
    many = h.many;
    rises = h.rises;
    stands = stands-as d f ground records h.stands graph analyses opening lines;
    stripes = ap length jobs ∙ h.stripes;
    jobs = λ m lt. ap (λ (js : List (List StripeJob)). get_or js m []) jobs ∙ h.jobs m lt;
    counted = ap job_count jobs ∙ h.counted;
    ready = subst (EachJob (IsReady inserts f.graph)) (sym jobs) (all-ready-room inserts d.graph f.graph d.jobs graph h.ready);
    lines = (let few = h.lines in omega arith);
    room = (let few = h.room in omega arith);
    none = given ∙ h.none;
    told = replies ∙ h.told;
  }

  module _ (e : Entry) (next : IsNext batch (request.Submit e)) (is : is_candidate_behind ground records (request.Submit e) ≡ true) where
    -- one candidate more that gets no memory
    pub begun-want : (f : DriverView) → f ≡ record d { replies = d.replies ++ no_memory_for e ∷ [] } → HasBegun ground records inserts (batch ++ request.Submit e ∷ []) f order rest
    begun-want f same = subst (λ (x : DriverView). HasBegun ground records inserts (batch ++ request.Submit e ∷ []) x order rest) (sym same) (record {
      wanting = h.wanting ++ e ∷ [];
      candidates = h.candidates;
      taken = taken-next (request.Submit e) next;
      split = split-want (is_candidate_behind ground records) batch h.wanting h.candidates rest e h.split is;
      ordered = h.ordered;
      by_stripe = h.by_stripe;
      many = h.many;
      rises = h.rises;
      stands = stands-same d _ ground records h.stands refl refl refl refl;
      stripes = h.stripes;
      jobs = h.jobs;
      counted = h.counted;
      ready = h.ready;
      lines = h.lines;
      room = h.room;
      none = h.none;
      told = ap (λ (os : List Resolved). os ++ no_memory_for e ∷ []) h.told ∙ sym (map-append no_memory_for h.wanting (e ∷ []));
    })

    -- the jobs of a stripe with the candidate's
    jobs-more : (update : Update) → e.parts ≡ update ∷ [] → (m : ℕ) → m < 64
        → get_or (with_job d.jobs e.session update) m [] ≡ map job_of (of_stripe m (h.candidates ++ e ∷ []))
    jobs-more update part m lt =
        with_job-at d.jobs e.session update m h.stripes (lesser-jobs (request.Submit e) next)
        ∙ ap (λ (js : List StripeJob). if Jobs.stripe_of update == m then js ++ added_job e.session update ∷ [] else js) (h.jobs m lt)
        ∙ ap (λ (n : ℕ). if n == m then map job_of (of_stripe m h.candidates) ++ added_job e.session update ∷ [] else map job_of (of_stripe m h.candidates)) home
        ∙ put (stripe_by_entry e == m)
        ∙ sym (ap (map job_of) (filter-append (λ (x : Entry). stripe_by_entry x == m) h.candidates (e ∷ [])) ∙ map-append job_of (of_stripe m h.candidates) (of_stripe m (e ∷ [])))
      where
        home : Jobs.stripe_of update ≡ stripe_by_entry e
        home = same-stripe update ∙ sym (ap stripe_of part)

        job : added_job e.session update ≡ job_of e
        job = ap (λ (u : Update). added_job e.session u) (sym (ap first_part part))

        put : (b : Bool) → (if b then map job_of (of_stripe m h.candidates) ++ added_job e.session update ∷ [] else map job_of (of_stripe m h.candidates))
            ≡ map job_of (of_stripe m h.candidates) ++ map job_of (cond b (e ∷ []) [])
        put true = ap (λ (j : StripeJob). map job_of (of_stripe m h.candidates) ++ j ∷ []) job
        put false = sym (append-nil (map job_of (of_stripe m h.candidates)))

    -- it comes behind those of its stripe, and they stay in the order of their stripes
    rises-more : AreByStripes (inserted_by stripe_by_entry order e)
    rises-more =
        AllPairs-inserted (λ (x later : Entry). IsSealedBefore (stripe_of x.parts) x.session (stripe_of later.parts) later.session) stripe_by_entry order e
        (λ x later before. low x later before) (λ x less. inl less)
        (All-from_Contains (λ (x : Entry). stripe_of x.parts ≤ stripe_of e.parts → IsSealedBefore (stripe_of x.parts) x.session (stripe_of e.parts) e.session) order
        (λ x at up. under x (lesser (request.Submit e) next (request.Submit x) (candidate-known x (has-order h.candidates order h.by_stripe x at))) (cases_lt (stripe_of x.parts) (stripe_of e.parts)) up))
        h.rises
      where
        low : (x later : Entry) → IsSealedBefore (stripe_of x.parts) x.session (stripe_of later.parts) later.session → stripe_of x.parts ≤ stripe_of later.parts
        low x later (inl less) = omega arith
        low x later (inr same) = let is = same.0 in omega arith

        under : (x : Entry) → x.session < e.session → (stripe_of x.parts < stripe_of e.parts) ⊎ (stripe_of e.parts ≤ stripe_of x.parts) → stripe_of x.parts ≤ stripe_of e.parts
            → IsSealedBefore (stripe_of x.parts) x.session (stripe_of e.parts) e.session
        under x before (inl less) up = inl less
        under x before (inr over) up = inr (omega arith, before)

    -- one candidate more that gets its job
    pub begun-candidate : (update : Update) (f : DriverView) → e.parts ≡ update ∷ [] → f ≡ record d { jobs = with_job d.jobs e.session update }
        → IsReady inserts d.graph (added_job e.session update) → length order + 1 ≤ d.journal.spare → length order + 1 ≤ d.record_room
        → HasBegun ground records inserts (batch ++ request.Submit e ∷ []) f (inserted_by stripe_by_entry order e) rest
    begun-candidate update f part same ready spare room = subst (λ (x : DriverView). HasBegun ground records inserts (batch ++ request.Submit e ∷ []) x (inserted_by stripe_by_entry order e) rest) (sym same) (record {
      wanting = h.wanting;
      candidates = h.candidates ++ e ∷ [];
      taken = taken-next (request.Submit e) next;
      split = split-candidate (is_candidate_behind ground records) batch h.wanting h.candidates rest e h.split is;
      ordered = h.ordered;
      by_stripe = λ k. filter-inserted stripe_by_entry k order e ∙ ap (λ (es : List Entry). es ++ (if stripe_by_entry e == k then e ∷ [] else [])) (h.by_stripe k)
          ∙ put (stripe_by_entry e == k) (of_stripe k h.candidates) ∙ sym (filter-append (λ (x : Entry). stripe_by_entry x == k) h.candidates (e ∷ []));
      many = length-inserted stripe_by_entry order e ∙ (let long = length-append h.candidates (e ∷ []) in let all = h.many in omega arith);
      rises = rises-more;
      stands = stands-same d _ ground records h.stands refl refl refl refl;
      stripes = length-with_job d.jobs e.session update ∙ h.stripes;
      jobs = jobs-more update part;
      counted = (let more = job_count-with_job d.jobs e.session update h.stripes in let long = length-inserted stripe_by_entry order e in let before = h.counted in omega arith);
      ready = each-with_job (IsReady inserts d.graph) d.jobs e.session update h.stripes h.ready ready;
      lines = (let long = length-inserted stripe_by_entry order e in omega arith);
      room = (let long = length-inserted stripe_by_entry order e in omega arith);
      none = h.none;
      told = h.told;
    })
      where
        put : (b : Bool) (es : List Entry) → es ++ (if b then e ∷ [] else []) ≡ es ++ cond b (e ∷ []) []
        put true es = refl
        put false es = refl

-- the first of the requests that are left comes next
pub next-first : (whole done requests es : List Request) (r : Request) → AreOrdered 0 whole → whole ≡ done ++ requests → requests ≡ r ∷ es → IsNext done r
next-first whole done requests es r ordered parts first =
    let all : AreOrdered 0 (done ++ r ∷ es) = subst (AreOrdered 0) (parts ∙ ap (λ (rs : List Request). done ++ rs) first) ordered in
    record {
      behind = (ordered-before 0 done r es all).1;
      within = (ordered-bounds 0 (done ++ r ∷ es) r all (Contains-append_right done (r ∷ es) r (Contains-first r es))).1;
    }

-- nothing has begun
pub begun-none : (ground : Ground) (records : List Record) (inserts : ℕ) (d : DriverView) → StandsFor d ground records → d.jobs ≡ no_jobs → d.records ≡ [] → d.replies ≡ []
    → HasBegun ground records inserts [] d [] []
begun-none ground records inserts d stands jobs given replies = record {
  wanting = [];
  candidates = [];
  taken = omega arith;
  split = split-none (is_candidate_behind ground records);
  ordered = omega arith;
  by_stripe = λ k. refl;
  many = refl;
  rises = AllPairs-nil (λ (e later : Entry). IsSealedBefore (stripe_of e.parts) e.session (stripe_of later.parts) later.session);
  stands = stands;
  stripes = ap length jobs ∙ AreJobs-none.stripes;
  jobs = λ m lt. ap (λ (js : List (List StripeJob)). get_or js m []) jobs ∙ no_jobs-at m;
  counted = ap job_count jobs ∙ sum_by-replicate (λ (l : List StripeJob). length l) 64 [];
  ready = subst (EachJob (IsReady inserts d.graph)) (sym jobs)
      (All-from_get_or (All (IsReady inserts d.graph)) no_jobs [] (λ k less. subst (All (IsReady inserts d.graph)) (sym (no_jobs-at k)) (All-nil (IsReady inserts d.graph))));
  lines = omega arith;
  room = omega arith;
  none = given;
  told = replies;
}
