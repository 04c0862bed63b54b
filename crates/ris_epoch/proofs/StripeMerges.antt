-- The merge of logs that takes one stripe after another, and the log of one stripe.
use Rattle.std.proofs.Common.{◌≡◌, ℕ, ◌+◌, ◌<◌, ◌≤◌, ◌==◌, ◌&&◌, if◌then◌else◌, ◌⊎◌, inl, inr, Bool, true, false, not, nat_lt, List, [], ◌∷◌, ◌++◌, arith, refl, sym, ap, ◌∙◌, append_assoc, cond}
use Rattle.std.specs.List.{filter}
use Rattle.std.proofs.lemmas.Bool.{cases_eq, cases_lt, eqb-true, eqb-false, eq-eqb, le-ltb, lt-ltb, ne_eqb}
use Rattle.std.proofs.lemmas.List.{append-nil}
use Rattle.std.proofs.lemmas.List.Elements.{filter-append}
use Rattle.ris_base.specs.Forest.{Forest}
use Rattle.ris_base.specs.Machine.{Decided, stripe_by, stripe_of, verdict_of}
use Rattle.ris_base.specs.declared.events.Verdict.{Verdict}
use Rattle.ris_base.specs.declared.graphs.PlainGraph.{PlainGraph}
use Rattle.ris_base.specs.declared.lines.Entry.{Entry}
use Rattle.ris_base.specs.declared.updates.Update.{Update}
use Rattle.ris_base.specs.declared.updates.Update.TheVariants.{AddE, AddV, DelE, DelV, SetW}
use Rattle.ris_legal.proofs.Cells.{of_stripe}
use Rattle.ris_epoch.specs.Account.{IsMerge, decided_behind, decision, is_bounced, is_logged, log_of}
use Rattle.ris_epoch.proofs.Deciding.{log-more, logged-parts}

-- there are 64 stripes
stripe_by-below : (u : Update) → stripe_by u < 64
stripe_by-below (AddV x) = omega arith
stripe_by-below (DelV x) = omega arith
stripe_by-below (AddE u v w) = omega arith
stripe_by-below (DelE u v w) = omega arith
stripe_by-below (SetW u v w w2) = omega arith

-- the stripe of a candidate is one of 64
pub stripe_of-below : (parts : List Update) → stripe_of parts < 64
stripe_of-below [] = omega arith
stripe_of-below (part ∷ parts) = stripe_by-below part

-- the log of one stripe, as another stripe sees it
log-own : (k m : ℕ) (ds : List Decided) → filter (of_stripe k) (log_of m ds) ≡ (if k == m then log_of m ds else [])
log-own k m [] = go (k == m)
  where
    none : List Decided
    none = []

    go : (b : Bool) → none ≡ (if b then none else none)
    go true = refl
    go false = refl
log-own k m (d ∷ ds) = go (is_logged m d) refl (log-own k m ds)
  where
    go : (b : Bool) → is_logged m d ≡ b → filter (of_stripe k) (log_of m ds) ≡ (if k == m then log_of m ds else [])
        → filter (of_stripe k) (cond b (d ∷ log_of m ds) (log_of m ds)) ≡ (if k == m then cond b (d ∷ log_of m ds) (log_of m ds) else [])
    go false is more = more
    go true is more = here (k == m) refl more
      where
        own : stripe_of d.entry.parts ≡ m
        own = (logged-parts m d is).0

        here : (c : Bool) → (k == m) ≡ c → filter (of_stripe k) (log_of m ds) ≡ (if k == m then log_of m ds else [])
            → cond (of_stripe k d) (d ∷ filter (of_stripe k) (log_of m ds)) (filter (of_stripe k) (log_of m ds)) ≡ (if k == m then d ∷ log_of m ds else [])
        here true e more = rw (eq-eqb (stripe_of d.entry.parts) k (own ∙ sym (eqb-true k m e)), e) (ap (λ (xs : List Decided). d ∷ xs) (more ∙ ap (λ (c : Bool). if c then log_of m ds else []) e))
        here false e more = rw (ne_eqb (stripe_of d.entry.parts) k (λ same. eqb-false k m e (sym same ∙ own)), e) (more ∙ ap (λ (c : Bool). if c then log_of m ds else []) e)

-- an order that has the logs of the first stripes
pub record IsMergeBelow (n : ℕ) (decisions order : List Decided) : Type 0 where
  pub logs : (k : ℕ) → filter (of_stripe k) order ≡ (if nat_lt k n then log_of k decisions else [])

-- no stripe is merged
pub merge-none : (decisions : List Decided) → IsMergeBelow 0 decisions []
merge-none decisions = record { logs = λ k. ap (λ (b : Bool). if b then log_of k decisions else []) (sym (le-ltb k 0 (omega arith))) }

-- the log of the next stripe comes behind them
pub merge-next : (n : ℕ) (decisions order : List Decided) → IsMergeBelow n decisions order → IsMergeBelow (n + 1) decisions (order ++ log_of n decisions)
merge-next n decisions order h = record {
  logs = λ k.
      filter-append (of_stripe k) order (log_of n decisions)
      ∙ ap (λ (xs : List Decided). xs ++ filter (of_stripe k) (log_of n decisions)) (h.logs k)
      ∙ ap (λ (xs : List Decided). (if nat_lt k n then log_of k decisions else []) ++ xs) (log-own k n decisions)
      ∙ join k (cases_lt k n);
}
  where
    join : (k : ℕ) → (k < n) ⊎ (n ≤ k)
        → (if nat_lt k n then log_of k decisions else []) ++ (if k == n then log_of n decisions else []) ≡ (if nat_lt k (n + 1) then log_of k decisions else [])
    join k (inl less) =
        rw (lt-ltb k n less, ne_eqb k n (λ e. absurd (omega arith)), lt-ltb k (n + 1) (omega arith)) (append-nil (log_of k decisions))
    join k (inr past) = elim (cases_eq k n) [
      | inl same ↦ rw (le-ltb k n past, eq-eqb k n same, lt-ltb k (n + 1) (omega arith)) (ap (λ (m : ℕ). log_of m decisions) (sym same))
      | inr other ↦ rw (le-ltb k n past, ne_eqb k n other, le-ltb k (n + 1) (omega arith)) refl
    ]

-- a stripe past the last has no log
log-past : (k : ℕ) (ds : List Decided) → 64 ≤ k → log_of k ds ≡ []
log-past k [] h = refl
log-past k (d ∷ ds) h = go (is_logged k d) refl (log-past k ds h)
  where
    go : (b : Bool) → is_logged k d ≡ b → log_of k ds ≡ [] → cond b (d ∷ log_of k ds) (log_of k ds) ≡ []
    go false is rest = rest
    go true is rest = absurd (let own = (logged-parts k d is).0 in let below = stripe_of-below d.entry.parts in omega arith)

-- the logs of all 64 stripes
pub merge-all : (decisions order : List Decided) → IsMergeBelow 64 decisions order → IsMerge decisions order
merge-all decisions order h k = h.logs k ∙ go (cases_lt k 64)
  where
    go : (k < 64) ⊎ (64 ≤ k) → (if nat_lt k 64 then log_of k decisions else []) ≡ log_of k decisions
    go (inl less) = rw (lt-ltb k 64 less) refl
    go (inr past) = rw (le-ltb k 64 past) (sym (log-past k decisions past))

-- The log of one stripe

-- whether a candidate is of a stripe
abbrev pub is_of : ℕ → Entry → Bool
is_of k e = stripe_of e.parts == k

-- the log that a stripe's own candidates leave behind a log
unfoldable pub log_behind : PlainGraph → List Forest → List Decided → List Entry → List Decided
log_behind g forests log [] = log
log_behind g forests log (e ∷ candidates) =
    let d : Decided = record { entry = e; verdict = verdict_of g forests log e.parts } in
    log_behind g forests (if is_bounced d then log else log ++ d ∷ []) candidates

-- cells that decide all candidates leave in a stripe's log what they leave of its own candidates alone
pub log-stripe : (g : PlainGraph) (forests : List Forest) (k : ℕ) (before : List Decided) (candidates : List Entry)
    → log_of k (before ++ decided_behind g forests before candidates) ≡ log_behind g forests (log_of k before) (filter (is_of k) candidates)
unfolding decided_behind log_behind
log-stripe g forests k before [] = ap (log_of k) (append-nil before)
log-stripe g forests k before (e ∷ candidates) =
    ap (log_of k) (sym (append_assoc before (d ∷ []) (decided_behind g forests (before ++ d ∷ []) candidates)))
    ∙ log-stripe g forests k (before ++ d ∷ []) candidates
    ∙ ap (λ (log : List Decided). log_behind g forests log (filter (is_of k) candidates)) (log-more k before d)
    ∙ go (is_of k e) refl
  where
    d : Decided
    d = decision g forests before e

    go : (b : Bool) → is_of k e ≡ b
        → log_behind g forests (if is_logged k d then log_of k before ++ d ∷ [] else log_of k before) (filter (is_of k) candidates)
        ≡ log_behind g forests (log_of k before) (cond b (e ∷ filter (is_of k) candidates) (filter (is_of k) candidates))
    go false is =
        ap (λ (b : Bool). log_behind g forests (if b then log_of k before ++ d ∷ [] else log_of k before) (filter (is_of k) candidates)) (ap (λ (b : Bool). b && not (is_bounced d)) is)
    go true is =
        let own : stripe_of e.parts ≡ k = eqb-true (stripe_of e.parts) k is in
        let rest : List Entry = filter (is_of k) candidates in
        ap (λ (b : Bool). log_behind g forests (if b then log_of k before ++ d ∷ [] else log_of k before) rest) (ap (λ (b : Bool). b && not (is_bounced d)) is)
        ∙ ap (λ (log : List Decided). log_behind g forests log rest) (flip (is_bounced d))
        ∙ ap (λ (x : Decided). log_behind g forests (if is_bounced x then log_of k before else log_of k before ++ x ∷ []) rest)
        (ap (λ (n : ℕ). with_verdict (verdict_of g forests (log_of n before) e.parts)) own)
      where
        with_verdict : Verdict → Decided
        with_verdict v = record { entry = e; verdict = v }

        flip : (b : Bool) → (if true && not b then log_of k before ++ d ∷ [] else log_of k before) ≡ (if b then log_of k before else log_of k before ++ d ∷ [])
        flip true = refl
        flip false = refl
