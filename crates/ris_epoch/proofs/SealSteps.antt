-- From candidates with their jobs to the sealed turn.
use Rattle.std.proofs.Common.{◌≡◌, ℕ, ◌<◌, ◌==◌, ◌&&◌, ◌⊎◌, if◌then◌else◌, inl, inr, Bool, true, false, not, List, [], ◌∷◌, ◌++◌, map, arith, refl, sym, subst, ap, ◌∙◌, eq-eqb, cond}
use Rattle.std.specs.List.{Contains, filter}
use Rattle.std.proofs.lemmas.Bool.{false≢true}
use Rattle.ris_base.specs.Epoch.{Resolved}
use Rattle.ris_base.specs.Graph.{EachOnce}
use Rattle.ris_base.specs.Machine.{Decided, is_applied, session_by}
use Rattle.ris_base.specs.declared.events.Verdict.{Verdict}
use Rattle.ris_base.specs.declared.events.Verdict.TheVariants.{Applied, Bounced, NoEdge, Waiting}
use Rattle.ris_base.specs.declared.lines.Entry.{Entry}
use Rattle.ris_base.specs.declared.records.Record.{Record}
use Rattle.ris_base.specs.declared.requests.Request.{Request}
use Rattle.ris_base.specs.declared.requests.Request.TheVariants as request
use Rattle.ris_base.proofs.ListLemmas.{Contains-cases, Contains-filter, Contains-filtered, Contains-first, Contains-none, Contains-rest, EachOnce-head, EachOnce-tail}
use Rattle.ris_legal.proofs.Cells.{of_stripe}
use Rattle.ris_epoch.specs.Account.{IsMerge, bounced, entry_record, is_bounced, log_of, outcome_of, outcomes_of, records_of}
use Rattle.ris_epoch.specs.Ordering.{AreOrdered, inserted_by, stripe_by_entry}
use Rattle.ris_epoch.specs.Sealing.{all_told, all_waiting, front_after, outcomes_if, records_if, told_by, waiting_if}
use Rattle.ris_epoch.specs.Driving
use Rattle.ris_epoch.proofs.Deciding.{merged-once}
use Rattle.ris_epoch.proofs.OrderingLemmas.{Contains-inserted, inserted-Contains, ordered-inserted}
use Rattle.ris_epoch.proofs.Stands.{Contains-map, Contains-mapped}

-- Decisions that didn't bounce

-- whether a decision stays with its stripe
abbrev pub stays : Decided → Bool
stays d = not (is_bounced d)

-- one that bounced wasn't applied
bounced-idle : (d : Decided) → is_bounced d ≡ true → is_applied d ≡ false
bounced-idle d h = go d.verdict h
  where
    go : (v : Verdict) → is_bounced (record d { verdict = v }) ≡ true → is_applied (record d { verdict = v }) ≡ false
    go Applied h = absurd (false≢true h)
    go NoEdge h = refl
    go Bounced h = refl
    go Waiting h = refl

-- the records of decisions are those of the ones that stay
pub records-if : (ds : List Decided) → records_if ds ≡ records_of (filter stays ds)
unfolding records_if records_of
records-if [] = refl
records-if (d ∷ ds) = go (is_bounced d) refl (is_applied d) refl (records-if ds)
  where
    put : (a : Bool) → (if a then entry_record d.entry [] ∷ [] else []) ++ records_of (filter stays ds)
        ≡ (if a then entry_record d.entry [] ∷ records_of (filter stays ds) else records_of (filter stays ds))
    put true = refl
    put false = refl

    go : (b : Bool) → is_bounced d ≡ b → (a : Bool) → is_applied d ≡ a → records_if ds ≡ records_of (filter stays ds)
        → (if is_applied d then entry_record d.entry [] ∷ [] else []) ++ records_if ds ≡ records_of (cond (stays d) (d ∷ filter stays ds) (filter stays ds))
    go true is a applied rest = rw (is, bounced-idle d is) rest
    go false is a applied rest =
        rw is (ap (λ (rs : List Record). (if is_applied d then entry_record d.entry [] ∷ [] else []) ++ rs) rest ∙ put (is_applied d))

-- and so are the outcomes
pub outcomes-if : (n : ℕ) (ds : List Decided) → outcomes_if n ds ≡ outcomes_of n (filter stays ds)
unfolding outcomes_if outcomes_of
outcomes-if n [] = refl
outcomes-if n (d ∷ ds) = go (is_bounced d) refl (λ m. outcomes-if m ds)
  where
    go : (b : Bool) → is_bounced d ≡ b → ((m : ℕ) → outcomes_if m ds ≡ outcomes_of m (filter stays ds))
        → (if is_bounced d then [] else outcome_of n d ∷ []) ++ outcomes_if (front_after n d) ds ≡ outcomes_of n (cond (stays d) (d ∷ filter stays ds) (filter stays ds))
    go true is rest = rw (is, bounced-idle d is) (rest n)
    go false is rest = rw is (ap (λ (os : List Resolved). outcome_of n d ∷ os) (rest (front_after n d)))

-- One stripe

-- the log of a stripe is what stays of its own candidates
pub log-told : (verdicts : ℕ → Verdict) (k : ℕ) (candidates : List Entry)
    → log_of k (all_told verdicts candidates) ≡ filter stays (all_told verdicts (Driving.of_stripe k candidates))
log-told verdicts k [] = refl
log-told verdicts k (e ∷ candidates) = split (stripe_by_entry e == k) refl (log-told verdicts k candidates)
  where
    d : Decided
    d = told_by e (verdicts e.session)

    rest : List Entry
    rest = Driving.of_stripe k candidates

    split : (a : Bool) → (stripe_by_entry e == k) ≡ a → log_of k (all_told verdicts candidates) ≡ filter stays (all_told verdicts rest)
        → cond ((stripe_by_entry e == k) && stays d) (d ∷ log_of k (all_told verdicts candidates)) (log_of k (all_told verdicts candidates))
        ≡ filter stays (all_told verdicts (cond (stripe_by_entry e == k) (e ∷ rest) rest))
    split false is more = rw is more
    split true is more = rw is (ap (λ (ds : List Decided). cond (stays d) (d ∷ ds) ds) more)

-- what stays of one stripe
stripe-stays : (k : ℕ) (ds : List Decided) → filter (of_stripe k) (filter stays ds) ≡ log_of k ds
stripe-stays k [] = refl
stripe-stays k (d ∷ ds) = split (stays d) refl (of_stripe k d) refl (stripe-stays k ds)
  where
    split : (b : Bool) → stays d ≡ b → (a : Bool) → of_stripe k d ≡ a → filter (of_stripe k) (filter stays ds) ≡ log_of k ds
        → filter (of_stripe k) (cond (stays d) (d ∷ filter stays ds) (filter stays ds)) ≡ cond (of_stripe k d && stays d) (d ∷ log_of k ds) (log_of k ds)
    split true is true own more = rw (is, own) (ap (λ (xs : List Decided). d ∷ xs) more)
    split true is false own more = rw (is, own) more
    split false is true own more = rw (is, own) more
    split false is false own more = rw (is, own) more

-- an order that keeps that of each stripe is a merge of what stays
pub told-merge : (verdicts : ℕ → Verdict) (candidates order : List Entry) → ((k : ℕ) → Driving.of_stripe k order ≡ Driving.of_stripe k candidates)
    → IsMerge (all_told verdicts candidates) (filter stays (all_told verdicts order))
told-merge verdicts candidates order same k =
    stripe-stays k (all_told verdicts order) ∙ log-told verdicts k order ∙ ap (λ (es : List Entry). filter stays (all_told verdicts es)) (same k) ∙ sym (log-told verdicts k candidates)

-- the same candidates stand in both
pub order-has : (candidates order : List Entry) → ((k : ℕ) → Driving.of_stripe k order ≡ Driving.of_stripe k candidates) → (e : Entry) → Contains candidates e → Contains order e
order-has candidates order same e at =
    let k = stripe_by_entry e in
    (Contains-filter (λ (x : Entry). stripe_by_entry x == k) order e
    (subst (λ (es : List Entry). Contains es e) (sym (same k)) (Contains-filtered (λ (x : Entry). stripe_by_entry x == k) candidates e at (eq-eqb k k refl)))).0

pub has-order : (candidates order : List Entry) → ((k : ℕ) → Driving.of_stripe k order ≡ Driving.of_stripe k candidates) → (e : Entry) → Contains order e → Contains candidates e
has-order candidates order same e at = order-has order candidates (λ k. sym (same k)) e at

-- where all are applied all stay
all-stay : (es : List Entry) → filter stays (all_told (λ s. Applied) es) ≡ all_told (λ s. Applied) es
all-stay [] = refl
all-stay (e ∷ es) = ap (λ (ds : List Decided). told_by e Applied ∷ ds) (all-stay es)

sessions-told : (verdicts : ℕ → Verdict) (es : List Entry) → map (λ (d : Decided). d.entry.session) (all_told verdicts es) ≡ map (λ (e : Entry). e.session) es
sessions-told verdicts [] = refl
sessions-told verdicts (e ∷ es) = ap (λ (ns : List ℕ). e.session ∷ ns) (sessions-told verdicts es)

-- and each session once
pub order-once : (candidates order : List Entry) → ((k : ℕ) → Driving.of_stripe k order ≡ Driving.of_stripe k candidates)
    → EachOnce (map (λ (e : Entry). e.session) candidates) → EachOnce (map (λ (e : Entry). e.session) order)
order-once candidates order same once =
    subst EachOnce (sessions-told (λ s. Applied) order)
    (merged-once (all_told (λ s. Applied) candidates) (all_told (λ s. Applied) order)
    (subst (λ (ds : List Decided). IsMerge (all_told (λ s. Applied) candidates) ds) (all-stay order) (told-merge (λ s. Applied) candidates order same))
    (subst EachOnce (sym (sessions-told (λ s. Applied) candidates)) once))

-- Who waits

-- who waits with those that bounced
pub waiting-has : (rest : List Request) (ds : List Decided) (r : Request) → Contains (all_waiting rest ds) r → Contains rest r ⊎ Contains (bounced ds) r
unfolding all_waiting
waiting-has rest [] r at = inl at
waiting-has rest (d ∷ ds) r at = go (is_bounced d) refl (waiting-has (waiting_if rest d) ds r at)
  where
    go : (b : Bool) → is_bounced d ≡ b → Contains (waiting_if rest d) r ⊎ Contains (bounced ds) r
        → Contains rest r ⊎ Contains (map (λ (x : Decided). request.Submit x.entry) (cond (is_bounced d) (d ∷ filter is_bounced ds) (filter is_bounced ds))) r
    go true is (inl here) = elim (Contains-inserted session_by rest (request.Submit d.entry) r (subst (λ (b : Bool). Contains (if b then inserted_by session_by rest (request.Submit d.entry) else rest) r) is here)) [
      | inl first ↦ inr (subst (λ (b : Bool). Contains (map (λ (x : Decided). request.Submit x.entry) (cond b (d ∷ filter is_bounced ds) (filter is_bounced ds))) r) (sym is)
          (subst (λ (x : Request). Contains (request.Submit d.entry ∷ bounced ds) x) first (Contains-first (request.Submit d.entry) (bounced ds))))
      | inr there ↦ inl there
    ]
    go true is (inr later) = inr (subst (λ (b : Bool). Contains (map (λ (x : Decided). request.Submit x.entry) (cond b (d ∷ filter is_bounced ds) (filter is_bounced ds))) r) (sym is)
        (Contains-rest (request.Submit d.entry) (bounced ds) r later))
    go false is (inl here) = inl (subst (λ (b : Bool). Contains (if b then inserted_by session_by rest (request.Submit d.entry) else rest) r) is here)
    go false is (inr later) = inr (subst (λ (b : Bool). Contains (map (λ (x : Decided). request.Submit x.entry) (cond b (d ∷ filter is_bounced ds) (filter is_bounced ds))) r) (sym is) later)

pub has-waiting : (rest : List Request) (ds : List Decided) (r : Request) → Contains rest r ⊎ Contains (bounced ds) r → Contains (all_waiting rest ds) r
unfolding all_waiting
has-waiting rest [] r (inl at) = at
has-waiting rest [] r (inr at) = absurd (Contains-none r at)
has-waiting rest (d ∷ ds) r h = has-waiting (waiting_if rest d) ds r (go (is_bounced d) refl h)
  where
    go : (b : Bool) → is_bounced d ≡ b → Contains rest r ⊎ Contains (map (λ (x : Decided). request.Submit x.entry) (cond (is_bounced d) (d ∷ filter is_bounced ds) (filter is_bounced ds))) r
        → Contains (if is_bounced d then inserted_by session_by rest (request.Submit d.entry) else rest) r ⊎ Contains (bounced ds) r
    go true is (inl there) = inl (rw is (inserted-Contains session_by rest (request.Submit d.entry) r (inr there)))
    go true is (inr back) = elim (Contains-cases (request.Submit d.entry) (bounced ds) r
        (subst (λ (b : Bool). Contains (map (λ (x : Decided). request.Submit x.entry) (cond b (d ∷ filter is_bounced ds) (filter is_bounced ds))) r) is back)) [
          | inl first ↦ inl (rw is (inserted-Contains session_by rest (request.Submit d.entry) r (inl first)))
          | inr later ↦ inr later
        ]
    go false is (inl there) = inl (rw is there)
    go false is (inr back) = inr (subst (λ (b : Bool). Contains (map (λ (x : Decided). request.Submit x.entry) (cond b (d ∷ filter is_bounced ds) (filter is_bounced ds))) r) is back)

-- their sessions ascend
pub waiting-ordered : (verdicts : ℕ → Verdict) (rest : List Request) (es : List Entry) → AreOrdered 0 rest → EachOnce (map (λ (e : Entry). e.session) es)
    → ((e : Entry) → Contains es e → (¬ (Contains (map session_by rest) e.session)) × (e.session < 64)) → AreOrdered 0 (all_waiting rest (all_told verdicts es))
unfolding all_waiting
waiting-ordered verdicts rest [] ordered once new = ordered
waiting-ordered verdicts rest (e ∷ es) ordered once new =
    waiting-ordered verdicts (waiting_if rest d) es (first (is_bounced d)) (EachOnce-tail e.session (map (λ (x : Entry). x.session) es) once)
    (λ x at. (later (is_bounced d) x at, (new x (Contains-rest e es x at)).1))
  where
    d : Decided
    d = told_by e (verdicts e.session)

    first : (b : Bool) → AreOrdered 0 (if b then inserted_by session_by rest (request.Submit e) else rest)
    first true = (let its = new e (Contains-first e es) in ordered-inserted 0 rest (request.Submit e) ordered (omega arith) its.1 its.0)
    first false = ordered

    later : (b : Bool) (x : Entry) → Contains es x → ¬ (Contains (map session_by (if b then inserted_by session_by rest (request.Submit e) else rest)) x.session)
    later false x at there = (new x (Contains-rest e es x at)).0 there
    later true x at there =
        let r = Contains-map session_by (inserted_by session_by rest (request.Submit e)) x.session there in
        elim (Contains-inserted session_by rest (request.Submit e) r.0 r.1) [
          | inl own ↦ EachOnce-head e.session (map (λ (y : Entry). y.session) es) once
              (subst (λ (n : ℕ). Contains (map (λ (y : Entry). y.session) es) n) (sym r.2 ∙ sym (ap session_by own)) (Contains-mapped (λ (y : Entry). y.session) es x at))
          | inr old ↦ (new x (Contains-rest e es x at)).0 (subst (λ (n : ℕ). Contains (map session_by rest) n) r.2 (Contains-mapped session_by rest r.0 old))
        ]
