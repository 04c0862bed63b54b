-- What is known of the update of a candidate, and of a job that has room, also where a graph gets more.
use Rattle.std.proofs.Common.{◌≡◌, ◌≢◌, ℕ, ◌+◌, ◌<◌, ◌≤◌, ◌==◌, ◌^◌, ◌&&◌, if◌then◌else◌, inl, inr, Bool, true, false, IsTrue, List, [], ◌∷◌, ◌++◌, length, get_or, nat_lt, Option, Some, None, arith, refl, sym, subst, ap, ◌∙◌, eq-eqb, rules, get_or-set_same, get_or-set_other}
use Rattle.std.specs.Prelude.{is_none}
use Rattle.std.specs.Option.{option_or}
use Rattle.std.specs.List.{All}
use Rattle.std.proofs.lemmas.Bool.{and_parts, both_ways, cases_eq, lt-ltb, ne_eqb}
use Rattle.std.proofs.lemmas.List.{length-set}
use Rattle.std.proofs.lemmas.List.Elements.{All-cons, All-get_or, All-head, All-set, All-tail, All-weaker}
use Rattle.std.proofs.lemmas.List.Sums.{sum_by-set}
use Rattle.ris_base.specs.Effect.{edge_past, first_missing, first_past_limit, missing, past}
use Rattle.ris_base.specs.Forest.{Forest}
use Rattle.ris_base.specs.Graph.{greatest_weight, triple}
use Rattle.ris_base.specs.Limits.{greatest_of, vertex_limit}
use Rattle.ris_base.specs.Safe.{is_safe, is_sound, keeps_vertices}
use Rattle.ris_base.specs.declared.analyses.Spec.{Spec}
use Rattle.ris_base.specs.declared.events.Verdict.TheVariants.{Waiting}
use Rattle.ris_base.specs.declared.graphs.Format.{Format}
use Rattle.ris_base.specs.declared.graphs.Format.TheVariants.{One, Two}
use Rattle.ris_base.specs.declared.graphs.PlainGraph.{PlainGraph}
use Rattle.ris_base.specs.declared.updates.Update.{Update}
use Rattle.ris_base.specs.declared.updates.Update.TheVariants.{AddV, DelV, AddE, DelE, SetW}
use Rattle.ris_base.proofs.EffectLemmas.{HasVertex-from_missing, HasVertex-from_test, below_from_past, option_or-none, past-none}
use Rattle.ris_rows.specs.Neighbours.{copies_of}
use Rattle.ris_graph.specs.GraphView.{GraphView, HasRoomOf, IsOf, copies_in}
use Rattle.ris_graph.specs.Jobs.{EachJob, is_job, job_count, stripe_of, with_job, with_session}
use Rattle.ris_graph.specs.Phase.{HasEnds, HasPhaseRoom, IsReady}
use Rattle.ris_graph.specs.declared.stripes.StripeJob.{StripeJob}
use Rattle.ris_graph.proofs.GraphLemmas.{IsOf-room}
use Rattle.ris_graph.proofs.JobLemmas.{length-with_session, stripe_of-lt}

-- Candidates

-- a test for nothing
none-from : {X : Type 0} (o : Option X) → is_none o ≡ true → o ≡ None
none-from None h = refl
none-from (Some x) h = absurd (cc)

-- what a safe update is like
pub record IsSound (p : PlainGraph) (update : Update) : Type 0 where
  pub within : first_past_limit (greatest_weight p) update ≡ None
  pub present : first_missing p update ≡ None
  pub keeps : keeps_vertices p update ≡ true

pub sound-of : (p : PlainGraph) (specs : List Spec) (forests : List Forest) (update : Update) → is_safe p specs forests update ≡ true → IsSound p update
sound-of p specs forests update h =
    let sound = (and_parts (is_sound p update) _ h).0 in
    let most = and_parts (is_none (first_past_limit (greatest_weight p) update) && is_none (first_missing p update)) (keeps_vertices p update) sound in
    let both = and_parts (is_none (first_past_limit (greatest_weight p) update)) (is_none (first_missing p update)) most.0 in
    record {
      within = none-from (first_past_limit (greatest_weight p) update) both.0;
      present = none-from (first_missing p update) both.1;
      keeps = most.1;
    }

-- it may be a job
pub sound-job : (p : PlainGraph) (update : Update) → IsSound p update → IsTrue (is_job update)
sound-job p (AddV x) h = search rules
sound-job p (AddE u v w) h = search rules
sound-job p (DelE u v w) h = search rules
sound-job p (DelV x) h = absurd (both_ways false refl h.keeps)
sound-job p (SetW u v w w2) h = absurd (both_ways false refl h.keeps)

-- its vertices are in the graph
pub sound-ends : (g : GraphView) (p : PlainGraph) (update : Update) → IsOf g p → IsSound p update → HasEnds g update
sound-ends g p (AddV x) of h = (of.vertices x).1 (HasVertex-from_test p x h.keeps)
sound-ends g p (AddE u v w) of h =
    let both = option_or-none (missing p u) (missing p v) h.present in
    ((of.vertices u).1 (HasVertex-from_missing p u both.0), (of.vertices v).1 (HasVertex-from_missing p v both.1))
sound-ends g p (DelE u v w) of h =
    let both = option_or-none (missing p u) (missing p v) h.present in
    ((of.vertices u).1 (HasVertex-from_missing p u both.0), (of.vertices v).1 (HasVertex-from_missing p v both.1))
sound-ends g p (DelV x) of h = absurd (both_ways false refl h.keeps)
sound-ends g p (SetW u v w w2) of h = absurd (both_ways false refl h.keeps)

-- its numbers are within the limits of format two
greatest-two : (f : Format) → greatest_of f ≤ greatest_of Two
greatest-two One = omega arith
greatest-two Two = omega arith

edge-limits : (p : PlainGraph) (u v w : ℕ) → edge_past (greatest_weight p) u v w ≡ None → edge_past (greatest_of Two) u v w ≡ None
edge-limits p u v w h =
    let a = option_or-none (past vertex_limit u) (option_or (past vertex_limit v) (past (greatest_weight p + 1) w)) h in
    let b = option_or-none (past vertex_limit v) (past (greatest_weight p + 1) w) a.1 in
    let low = below_from_past (greatest_weight p + 1) w b.1 in
    let up = greatest-two p.format in
    ap (λ (o : Option ℕ). option_or o (option_or (past vertex_limit v) (past (greatest_of Two + 1) w))) a.0
    ∙ ap (λ (o : Option ℕ). option_or o (past (greatest_of Two + 1) w)) b.0
    ∙ past-none (greatest_of Two + 1) w (omega arith)

pub sound-limits : (p : PlainGraph) (update : Update) → IsSound p update → first_past_limit (greatest_of Two) update ≡ None
sound-limits p (AddV x) h = h.within
sound-limits p (AddE u v w) h = edge-limits p u v w h.within
sound-limits p (DelE u v w) h = edge-limits p u v w h.within
sound-limits p (DelV x) h = absurd (both_ways false refl h.keeps)
sound-limits p (SetW u v w w2) h = absurd (both_ways false refl h.keeps)

-- More room

copies-room : (g h : GraphView) (u v w : ℕ) → HasRoomOf g h → copies_in h (triple u v w) ≡ copies_in g (triple u v w)
copies-room g h u v w same = ap (λ items. copies_of items v w) (same.outs u)

ends-room : (g h : GraphView) (update : Update) → HasRoomOf g h → HasEnds g update → HasEnds h update
ends-room g h (AddV x) same e = subst IsTrue (sym (same.vertices x)) e
ends-room g h (DelV x) same e = subst IsTrue (sym (same.vertices x)) e
ends-room g h (AddE u v w) same e = (subst IsTrue (sym (same.vertices u)) e.0, subst IsTrue (sym (same.vertices v)) e.1)
ends-room g h (DelE u v w) same e = (subst IsTrue (sym (same.vertices u)) e.0, subst IsTrue (sym (same.vertices v)) e.1)
ends-room g h (SetW u v w w2) same e = (subst IsTrue (sym (same.vertices u)) e.0, subst IsTrue (sym (same.vertices v)) e.1)

phase-room : (n : ℕ) (g h : GraphView) (update : Update) → HasRoomOf g h → HasPhaseRoom n g update → HasPhaseRoom n h update
phase-room n g h (AddE u v w) same r =
    let out = same.out_room u in
    let into = same.in_room v in
    let first = r.0 in
    let second = r.1 in
    (omega arith, omega arith, subst (λ (n : ℕ). n ≤ 2 ^ 63) (sym (copies-room g h u v w same)) r.2)
phase-room n g h (AddV x) same r = tt
phase-room n g h (DelV x) same r = tt
phase-room n g h (DelE u v w) same r = tt
phase-room n g h (SetW u v w w2) same r = tt

-- a job stays ready where a graph gets more room
pub ready-room : (n : ℕ) (g h : GraphView) (j : StripeJob) → HasRoomOf g h → IsReady n g j → IsReady n h j
ready-room n g h j same ready = record {
  waiting = ready.waiting;
  limits = subst (λ (f : Format). first_past_limit (greatest_of f) j.update ≡ None) (sym same.format) ready.limits;
  ends = ends-room g h j.update same ready.ends;
  room = phase-room n g h j.update same ready.room;
}

pub all-ready-room : (n : ℕ) (g h : GraphView) (js : List (List StripeJob)) → HasRoomOf g h → EachJob (IsReady n g) js → EachJob (IsReady n h) js
all-ready-room n g h js same all =
    All-weaker (All (IsReady n g)) (All (IsReady n h)) (λ jobs some. All-weaker (IsReady n g) (IsReady n h) (λ j r. ready-room n g h j same r) jobs some) js all

phase-room-le : (m n : ℕ) (g : GraphView) (update : Update) → m ≤ n → HasPhaseRoom n g update → HasPhaseRoom m g update
phase-room-le m n g (AddE u v w) le r = (let out = r.0 in let into = r.1 in (omega arith, omega arith, r.2))
phase-room-le m n g (AddV x) le r = tt
phase-room-le m n g (DelV x) le r = tt
phase-room-le m n g (DelE u v w) le r = tt
phase-room-le m n g (SetW u v w w2) le r = tt

-- a job that has room for some inserts has it for fewer
ready-le : (m n : ℕ) (g : GraphView) (j : StripeJob) → m ≤ n → IsReady n g j → IsReady m g j
ready-le m n g j le ready = record { waiting = ready.waiting; limits = ready.limits; ends = ready.ends; room = phase-room-le m n g j.update le ready.room }

pub all-ready-le : (m n : ℕ) (g : GraphView) (js : List (List StripeJob)) → m ≤ n → EachJob (IsReady n g) js → EachJob (IsReady m g) js
all-ready-le m n g js le all = All-weaker (All (IsReady n g)) (All (IsReady m g)) (λ jobs some. All-weaker (IsReady n g) (IsReady m g) (λ j r. ready-le m n g j le r) jobs some) js all

-- One more job

-- the job that is added
abbrev pub added_job : ℕ → Update → StripeJob
added_job session update = record { session = session; update = update; verdict = Waiting }

-- a job comes last where all others are of lesser sessions
with_session-last : (jobs : List StripeJob) (j : StripeJob) → All (λ i. i.session < j.session) jobs → with_session jobs j ≡ jobs ++ j ∷ []
with_session-last [] j all = refl
with_session-last (i ∷ jobs) j all =
    let less = All-head (λ (x : StripeJob). x.session < j.session) i jobs all in
    ap (λ (b : Bool). if b then i ∷ with_session jobs j else j ∷ i ∷ jobs) (lt-ltb i.session j.session less)
    ∙ ap (λ (js : List StripeJob). i ∷ js) (with_session-last jobs j (All-tail (λ (x : StripeJob). x.session < j.session) i jobs all))

-- the job of a safe update is ready where there is room
pub sound-ready : (n : ℕ) (g h : GraphView) (p : PlainGraph) (session : ℕ) (update : Update) → IsOf g p → HasRoomOf g h → IsSound p update → HasPhaseRoom n h update
    → IsReady n h (added_job session update)
sound-ready n g h p session update of same sound room =
    let more = IsOf-room g h p same of in
    record {
      waiting = refl;
      limits = subst (λ (f : Format). first_past_limit (greatest_of f) update ≡ None) more.format sound.within;
      ends = sound-ends h p update more sound;
      room = room;
    }

-- the jobs of a stripe with one more, where all others are of lesser sessions
pub with_job-at : (js : List (List StripeJob)) (session : ℕ) (update : Update) (m : ℕ) → length js ≡ 64 → ((k : ℕ) → All (λ i. i.session < session) (get_or js k []))
    → get_or (with_job js session update) m [] ≡ (if stripe_of update == m then get_or js m [] ++ added_job session update ∷ [] else get_or js m [])
with_job-at js session update m long lesser = elim (cases_eq (stripe_of update) m) [
  | inl own ↦
      let within : stripe_of update < length js = (let lt = stripe_of-lt update in omega arith) in
      ap (λ (k : ℕ). get_or (with_job js session update) k []) (sym own)
      ∙ get_or-set_same js (stripe_of update) (with_session (get_or js (stripe_of update) []) (added_job session update)) [] within
      ∙ with_session-last (get_or js (stripe_of update) []) (added_job session update) (lesser (stripe_of update))
      ∙ ap (λ (k : ℕ). get_or js k [] ++ added_job session update ∷ []) own
      ∙ ap (λ (b : Bool). if b then get_or js m [] ++ added_job session update ∷ [] else get_or js m []) (sym (eq-eqb (stripe_of update) m own))
  | inr other ↦
      let ne : m ≢ stripe_of update = λ e. other (sym e) in
      get_or-set_other js (stripe_of update) m (with_session (get_or js (stripe_of update) []) (added_job session update)) [] ne
      ∙ ap (λ (b : Bool). if b then get_or js m [] ++ added_job session update ∷ [] else get_or js m []) (sym (ne_eqb (stripe_of update) m other))
]

pub length-with_job : (js : List (List StripeJob)) (session : ℕ) (update : Update) → length (with_job js session update) ≡ length js
length-with_job js session update = length-set js (stripe_of update) (with_session (get_or js (stripe_of update) []) (added_job session update))

-- it is one more
pub job_count-with_job : (js : List (List StripeJob)) (session : ℕ) (update : Update) → length js ≡ 64 → job_count (with_job js session update) ≡ job_count js + 1
job_count-with_job js session update long =
    let at = stripe_of update in
    let within : at < length js = (let lt = stripe_of-lt update in omega arith) in
    let more = length-with_session (get_or js at []) (added_job session update) in
    let whole = sum_by-set (λ (l : List StripeJob). length l) js at (with_session (get_or js at []) (added_job session update)) [] within in
    omega (arith, more, whole)

-- what holds of jobs and of one more
all-with_session : (P : StripeJob → Type 0) (jobs : List StripeJob) (j : StripeJob) → All P jobs → P j → All P (with_session jobs j)
all-with_session P [] j all here = All-cons P j [] here all
all-with_session P (i ∷ jobs) j all here =
    go (nat_lt i.session j.session) (all-with_session P jobs j (All-tail P i jobs all) here)
  where
    go : (b : Bool) → All P (with_session jobs j) → All P (if b then i ∷ with_session jobs j else j ∷ i ∷ jobs)
    go true rest = All-cons P i (with_session jobs j) (All-head P i jobs all) rest
    go false rest = All-cons P j (i ∷ jobs) here all

pub each-with_job : (P : StripeJob → Type 0) (js : List (List StripeJob)) (session : ℕ) (update : Update) → length js ≡ 64 → EachJob P js → P (added_job session update)
    → EachJob P (with_job js session update)
each-with_job P js session update long all here =
    let within : stripe_of update < length js = (let lt = stripe_of-lt update in omega arith) in
    All-set (All P) js (stripe_of update) (with_session (get_or js (stripe_of update) []) (added_job session update))
    (all-with_session P (get_or js (stripe_of update) []) (added_job session update) (All-get_or (All P) js (stripe_of update) [] within all) here) all
