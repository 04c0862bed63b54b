-- The applied updates of an order that keeps that of each stripe's log are a merge of the stripes.
use Rattle.std.proofs.Common.{◌≡◌, ℕ, suc, ◌<◌, ◌==◌, if◌then◌else◌, inl, inr, Bool, true, false, List, [], ◌∷◌, ◌++◌, get_or, Some, refl, sym, ap, ◌∙◌, eq-eqb}
use Rattle.std.specs.List.{filter, slice_get}
use Rattle.std.proofs.lemmas.List.Elements.{filter-append}
use Rattle.ris_base.specs.Forest.{Forest}
use Rattle.ris_base.specs.Machine
use Rattle.ris_base.specs.Machine.{Decided, is_applied}
use Rattle.ris_base.specs.Requests.{entered}
use Rattle.ris_base.specs.declared.graphs.PlainGraph.{PlainGraph}
use Rattle.ris_base.specs.declared.updates.Update.{Update}
use Rattle.ris_base.specs.declared.updates.Update.TheVariants.{AddV, DelV, AddE, DelE, SetW}
use Rattle.ris_legal.proofs.Cells.{of_stripe}
use Rattle.ris_legal.proofs.Lists.{at-end, in-filter}
use Rattle.ris_graph.specs.Jobs
use Rattle.ris_graph.specs.Phase.{IsMerge, LooseView, applied_of, entered_each, stripe_at}
use Rattle.ris_graph.specs.declared.stripes.StripeJob.{StripeJob}
use Rattle.ris_phase.specs.Cells.{IsOrder, applied_each, applied_updates, celled, decision, is_bounced, logged, logs}

-- Decisions of one part

-- each decision of a list is on one part
abbrev pub AreSingle : List Decided → Type 0
AreSingle log = (i : ℕ) (d : Decided) → slice_get log i ≡ Some d → (u : Update) × (d.entry.parts ≡ u ∷ [])

single-logged : (log : List Decided) (seq : ℕ → ℕ) (j : StripeJob) → AreSingle log → AreSingle (logged log (decision seq j))
single-logged log seq j old = go (is_bounced j.verdict)
  where
    go : (b : Bool) → AreSingle (if b then log else log ++ decision seq j ∷ [])
    go true i d at = old i d at
    go false i d at = elim (at-end log (decision seq j) i d at) [
      | inl before ↦ old i d before.1
      | inr last ↦ (j.update, sym (ap (λ (x : Decided). x.entry.parts) last.1))
    ]

single-logs : (p : PlainGraph) (forests : List Forest) (seq : ℕ → ℕ) (jobs : List StripeJob) (log : List Decided) → AreSingle log → AreSingle (logs p forests seq log jobs)
unfolding logs
single-logs p forests seq [] log old = old
single-logs p forests seq (j ∷ jobs) log old =
    let new : StripeJob = celled p forests log j in
    single-logs p forests seq jobs (logged log (decision seq new)) (single-logged log seq new old)

pub single-order : (p : PlainGraph) (forests : List Forest) (seq : ℕ → ℕ) (js : List (List StripeJob)) (order : List Decided)
    → IsOrder (λ k. logs p forests seq [] (get_or js k [])) order → AreSingle order
single-order p forests seq js order keeps i d at =
    let k = Machine.stripe_of d.entry.parts in
    let there = in-filter (of_stripe k) order i d at (eq-eqb k k refl) in
    single-logs p forests seq (get_or js k []) [] (λ n x none. absurd (cc)) there.0 d (ap (λ (x : List Decided). slice_get x there.0) (sym (keeps k)) ∙ there.1)

single-rest : (d : Decided) (order : List Decided) → AreSingle (d ∷ order) → AreSingle order
single-rest d order all i x at = all (suc i) x at

-- The graph

-- requests of one part, one after another
pub applied_each-updates : (p : PlainGraph) (order : List Decided) → AreSingle order → applied_each p order ≡ entered_each p (applied_updates order)
unfolding applied_each applied_updates
applied_each-updates p [] all = refl
applied_each-updates p (d ∷ order) all =
    let one = all 0 d refl in
    go (is_applied d) one.0 one.1 (λ q. applied_each-updates q order (single-rest d order all))
  where
    go : (b : Bool) (u : Update) → d.entry.parts ≡ u ∷ [] → ((q : PlainGraph) → applied_each q order ≡ entered_each q (applied_updates order))
        → applied_each (if b then entered p d.entry.parts else p) order ≡ entered_each p ((if b then d.entry.parts else []) ++ applied_updates order)
    go true u parts more = more (entered p d.entry.parts) ∙ ap (λ ps. entered_each (entered p ps) (applied_updates order)) parts ∙ ap (λ ps. entered_each p (ps ++ applied_updates order)) (sym parts)
    go false u parts more = more p

-- Stripes

stripe-same : (u : Update) → Jobs.stripe_of u ≡ Machine.stripe_of (u ∷ [])
stripe-same (AddV x) = refl
stripe-same (DelV x) = refl
stripe-same (AddE u v w) = refl
stripe-same (DelE u v w) = refl
stripe-same (SetW u v w w2) = refl

-- the updates of one stripe are those of its decisions
updates-stripe : (k : ℕ) (order : List Decided) → AreSingle order
    → filter (λ u. Jobs.stripe_of u == k) (applied_updates order) ≡ applied_updates (filter (λ d. Machine.stripe_of d.entry.parts == k) order)
unfolding applied_updates
updates-stripe k [] all = refl
updates-stripe k (d ∷ order) all =
    let one = all 0 d refl in
    filter-append (λ u. Jobs.stripe_of u == k) (if is_applied d then d.entry.parts else []) (applied_updates order)
    ∙ go (is_applied d) refl (Machine.stripe_of d.entry.parts == k) one.0 one.1 refl (updates-stripe k order (single-rest d order all))
  where
    own : (b : Bool) (u : Update) → d.entry.parts ≡ u ∷ [] → (Machine.stripe_of d.entry.parts == k) ≡ b
        → filter (λ x. Jobs.stripe_of x == k) d.entry.parts ≡ (if b then d.entry.parts else [])
    own b u parts is =
        let test : (Jobs.stripe_of u == k) ≡ b = ap (λ n. n == k) (stripe-same u ∙ ap Machine.stripe_of (sym parts)) ∙ is in
        ap (filter (λ x. Jobs.stripe_of x == k)) parts ∙ ap (λ c. if c then u ∷ [] else []) test ∙ ap (λ ps. if b then ps else []) (sym parts)

    go : (a : Bool) → is_applied d ≡ a → (b : Bool) (u : Update) → d.entry.parts ≡ u ∷ [] → (Machine.stripe_of d.entry.parts == k) ≡ b
        → filter (λ x. Jobs.stripe_of x == k) (applied_updates order) ≡ applied_updates (filter (λ x. Machine.stripe_of x.entry.parts == k) order)
        → filter (λ x. Jobs.stripe_of x == k) (if a then d.entry.parts else []) ++ filter (λ x. Jobs.stripe_of x == k) (applied_updates order)
        ≡ applied_updates (if b then d ∷ filter (λ x. Machine.stripe_of x.entry.parts == k) order else filter (λ x. Machine.stripe_of x.entry.parts == k) order)
    go true e true u parts is more =
        ap (λ us. us ++ filter (λ x. Jobs.stripe_of x == k) (applied_updates order)) (own true u parts is) ∙ ap (λ us. d.entry.parts ++ us) more
        ∙ ap (λ c. (if c then d.entry.parts else []) ++ applied_updates (filter (λ x. Machine.stripe_of x.entry.parts == k) order)) (sym e)
    go true e false u parts is more = ap (λ us. us ++ filter (λ x. Jobs.stripe_of x == k) (applied_updates order)) (own false u parts is) ∙ more
    go false e true u parts is more = more ∙ ap (λ c. (if c then d.entry.parts else []) ++ applied_updates (filter (λ x. Machine.stripe_of x.entry.parts == k) order)) (sym e)
    go false e false u parts is more = more

pub merge-order : (l : LooseView) (p : PlainGraph) (forests : List Forest) (seq : ℕ → ℕ) (js : List (List StripeJob)) (order : List Decided)
    → ((m : ℕ) → m < 64 → applied_of (stripe_at l m) ≡ applied_updates (logs p forests seq [] (get_or js m [])))
    → IsOrder (λ k. logs p forests seq [] (get_or js k [])) order → IsMerge l (applied_updates order)
merge-order l p forests seq js order applied keeps m lt =
    updates-stripe m order (single-order p forests seq js order keeps) ∙ ap applied_updates (keeps m) ∙ sym (applied m lt)
