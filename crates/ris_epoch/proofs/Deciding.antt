-- What cells decide, one candidate after another, and what a merge of their logs has.
use Rattle.std.proofs.Common.{◌≡◌, ℕ, ◌==◌, ◌&&◌, if◌then◌else◌, inl, inr, Bool, true, false, not, List, [], ◌∷◌, ◌++◌, map, refl, sym, subst, ap, ◌∙◌, append_assoc, eq-eqb, cond}
use Rattle.std.specs.List.{Contains, filter}
use Rattle.std.proofs.lemmas.Bool.{and_parts, eqb-true, true≢false}
use Rattle.std.proofs.lemmas.List.{append-nil}
use Rattle.std.proofs.lemmas.List.Elements.{filter-append}
use Rattle.ris_base.specs.Forest.{Forest}
use Rattle.ris_base.specs.Graph.{EachOnce}
use Rattle.ris_base.specs.Machine.{Decided, stripe_of, verdict_of}
use Rattle.ris_base.specs.declared.graphs.PlainGraph.{PlainGraph}
use Rattle.ris_base.specs.declared.lines.Entry.{Entry}
use Rattle.ris_base.proofs.ListLemmas.{Contains-cases, Contains-filter, Contains-filtered, Contains-first, Contains-none, Contains-rest, EachOnce-cons, EachOnce-head, EachOnce-nil, EachOnce-tail}
use Rattle.ris_legal.specs.Held.{AreVerdicts}
use Rattle.ris_legal.proofs.Cells.{AreMerged, merged, of_stripe, stripe_log}
use Rattle.ris_epoch.specs.Account.{IsMerge, decided_behind, decision, is_bounced, is_logged, log_of}
use Rattle.ris_epoch.proofs.Stands.{Contains-map, Contains-mapped, same-key}

-- Steps

-- one more candidate
pub decided-push : (g : PlainGraph) (forests : List Forest) (before : List Decided) (candidates : List Entry) (e : Entry)
    → decided_behind g forests before (candidates ++ e ∷ [])
    ≡ decided_behind g forests before candidates ++ decision g forests (before ++ decided_behind g forests before candidates) e ∷ []
unfolding decided_behind
decided-push g forests before [] e = ap (λ (b : List Decided). decision g forests b e ∷ []) (sym (append-nil before))
decided-push g forests before (c ∷ candidates) e =
    let d = decision g forests before c in
    ap (λ (ds : List Decided). d ∷ ds) (decided-push g forests (before ++ d ∷ []) candidates e
    ∙ ap (λ (b : List Decided). decided_behind g forests (before ++ d ∷ []) candidates ++ decision g forests b e ∷ [])
    (append_assoc before (d ∷ []) (decided_behind g forests (before ++ d ∷ []) candidates)))

-- each decision is one on a candidate
pub decided-entry : (g : PlainGraph) (forests : List Forest) (before : List Decided) (candidates : List Entry) (d : Decided)
    → Contains (decided_behind g forests before candidates) d → Contains candidates d.entry
unfolding decided_behind
decided-entry g forests before [] d h = absurd (Contains-none d h)
decided-entry g forests before (e ∷ candidates) d h =
    let own = decision g forests before e in
    elim (Contains-cases own (decided_behind g forests (before ++ own ∷ []) candidates) d h) [
      | inl first ↦ subst (λ (x : Entry). Contains (e ∷ candidates) x) (ap (λ (x : Decided). x.entry) first) (Contains-first e candidates)
      | inr later ↦ Contains-rest e candidates d.entry (decided-entry g forests (before ++ own ∷ []) candidates d later)
    ]

-- the sessions of decisions are those of the candidates
pub decided-sessions : (g : PlainGraph) (forests : List Forest) (before : List Decided) (candidates : List Entry)
    → map (λ (d : Decided). d.entry.session) (decided_behind g forests before candidates) ≡ map (λ (e : Entry). e.session) candidates
unfolding decided_behind
decided-sessions g forests before [] = refl
decided-sessions g forests before (e ∷ candidates) =
    ap (λ (ns : List ℕ). e.session ∷ ns) (decided-sessions g forests (before ++ decision g forests before e ∷ []) candidates)

-- Logs

-- a log with one decision more
pub log-more : (k : ℕ) (before : List Decided) (d : Decided) → log_of k (before ++ d ∷ []) ≡ (if is_logged k d then log_of k before ++ d ∷ [] else log_of k before)
log-more k before d = filter-append (is_logged k) before (d ∷ []) ∙ go (is_logged k d)
  where
    go : (b : Bool) → log_of k before ++ cond b (d ∷ []) [] ≡ (if b then log_of k before ++ d ∷ [] else log_of k before)
    go true = refl
    go false = append-nil (log_of k before)

-- of a logged decision the stripe is that of the log, and it didn't bounce
pub logged-parts : (k : ℕ) (d : Decided) → is_logged k d ≡ true → (stripe_of d.entry.parts ≡ k) × (is_bounced d ≡ false)
logged-parts k d h = let parts = and_parts (stripe_of d.entry.parts == k) (not (is_bounced d)) h in (eqb-true (stripe_of d.entry.parts) k parts.0, go (is_bounced d) parts.1)
  where
    go : (b : Bool) → not b ≡ true → b ≡ false
    go true h = sym h
    go false h = refl

-- a decision that didn't bounce is of its own stripe's log
pub logged-own : (d : Decided) → is_bounced d ≡ false → is_logged (stripe_of d.entry.parts) d ≡ true
logged-own d h = go (stripe_of d.entry.parts == stripe_of d.entry.parts) (is_bounced d) (eq-eqb (stripe_of d.entry.parts) (stripe_of d.entry.parts) refl) h
  where
    go : (a b : Bool) → a ≡ true → b ≡ false → (a && not b) ≡ true
    go true false p q = refl
    go true true p q = sym q
    go false b p q = absurd (true≢false (sym p))

-- each verdict of a log is that of a cell behind those of the log before it
pub log-verdicts : (g : PlainGraph) (forests : List Forest) (k : ℕ) (before : List Decided) (candidates : List Entry)
    → AreVerdicts g forests (log_of k before) (log_of k (decided_behind g forests before candidates))
unfolding decided_behind AreVerdicts
log-verdicts g forests k before [] = tt
log-verdicts g forests k before (e ∷ candidates) = go (is_logged k d) refl (log-verdicts g forests k (before ++ d ∷ []) candidates)
  where
    d : Decided
    d = decision g forests before e

    rest : List Decided
    rest = log_of k (decided_behind g forests (before ++ d ∷ []) candidates)

    go : (b : Bool) → is_logged k d ≡ b → AreVerdicts g forests (log_of k (before ++ d ∷ [])) rest
        → AreVerdicts g forests (log_of k before) (cond b (d ∷ rest) rest)
    go true is more = (
      ap (λ (n : ℕ). verdict_of g forests (log_of n before) e.parts) (logged-parts k d is).0,
      subst (λ (b : List Decided). AreVerdicts g forests b rest) (log-more k before d ∙ ap (λ (b : Bool). if b then log_of k before ++ d ∷ [] else log_of k before) is) more,
    )
    go false is more =
        subst (λ (b : List Decided). AreVerdicts g forests b rest) (log-more k before d ∙ ap (λ (b : Bool). if b then log_of k before ++ d ∷ [] else log_of k before) is) more

-- Merges

module _ (decisions order : List Decided) (merge : IsMerge decisions order) where
  -- a merge has the decisions that didn't bounce
  pub merged-in : (d : Decided) → Contains order d → Contains decisions d × (is_bounced d ≡ false)
  merged-in d h =
      let k = stripe_of d.entry.parts in
      let there = subst (λ (ds : List Decided). Contains ds d) (merge k) (Contains-filtered (of_stripe k) order d h (eq-eqb k k refl)) in
      let its = Contains-filter (is_logged k) decisions d there in
      (its.0, (logged-parts k d its.1).1)

  -- a decision that didn't bounce is in each merge
  pub in-merged : (d : Decided) → Contains decisions d → is_bounced d ≡ false → Contains order d
  in-merged d h is =
      let k = stripe_of d.entry.parts in
      let there = subst (λ (ds : List Decided). Contains ds d) (sym (merge k)) (Contains-filtered (is_logged k) decisions d h (logged-own d is)) in
      (Contains-filter (of_stripe k) order d there).0

-- what has its key once still has it behind a filter
pub once-filter : {X : Type 0} (f : X → ℕ) (p : X → Bool) (xs : List X) → EachOnce (map f xs) → EachOnce (map f (filter p xs))
once-filter f p [] once = once
once-filter f p (x ∷ xs) once = go (p x) (once-filter f p xs (EachOnce-tail (f x) (map f xs) once))
  where
    go : (b : Bool) → EachOnce (map f (filter p xs)) → EachOnce (map f (cond b (x ∷ filter p xs) (filter p xs)))
    go false more = more
    go true more =
        EachOnce-cons (f x) (map f (filter p xs))
        (λ h. (let y = Contains-map f (filter p xs) (f x) h in
        EachOnce-head (f x) (map f xs) once (subst (λ (n : ℕ). Contains (map f xs) n) y.2 (Contains-mapped f xs y.0 (Contains-filter p xs y.0 y.1).0))))
        more

-- what has its key once in each stripe, where one key is of one stripe, has it once
once-stripes : (f : Decided → ℕ) (ds : List Decided) → ((x y : Decided) → Contains ds x → Contains ds y → f x ≡ f y → stripe_of x.entry.parts ≡ stripe_of y.entry.parts)
    → ((k : ℕ) → EachOnce (map f (stripe_log k ds))) → EachOnce (map f ds)
once-stripes f [] same each = EachOnce-nil
once-stripes f (d ∷ ds) same each =
    EachOnce-cons (f d) (map f ds)
    (λ h. (let y = Contains-map f ds (f d) h in
    let k = stripe_of d.entry.parts in
    let stripe : stripe_of y.0.entry.parts ≡ k = same y.0 d (Contains-rest d ds y.0 y.1) (Contains-first d ds) y.2 in
    let at = Contains-filtered (of_stripe k) ds y.0 y.1 (eq-eqb (stripe_of y.0.entry.parts) k stripe) in
    let own : EachOnce (f d ∷ map f (stripe_log k ds)) = subst (λ (b : Bool). EachOnce (map f (cond b (d ∷ stripe_log k ds) (stripe_log k ds)))) (eq-eqb k k refl) (each k) in
    EachOnce-head (f d) (map f (stripe_log k ds)) own (subst (λ (n : ℕ). Contains (map f (stripe_log k ds)) n) y.2 (Contains-mapped f (stripe_log k ds) y.0 at))))
    (once-stripes f ds (λ x y a b. same x y (Contains-rest d ds x a) (Contains-rest d ds y b)) (λ k. go (stripe_log k ds) (of_stripe k d) (each k)))
  where
    go : (rest : List Decided) (b : Bool) → EachOnce (map f (cond b (d ∷ rest) rest)) → EachOnce (map f rest)
    go rest true once = EachOnce-tail (f d) (map f rest) once
    go rest false once = once

-- the sessions of a merge stand once where those of the decisions do
pub merged-once : (decisions order : List Decided) → IsMerge decisions order → EachOnce (map (λ (d : Decided). d.entry.session) decisions)
    → EachOnce (map (λ (d : Decided). d.entry.session) order)
merged-once decisions order merge once =
    once-stripes (λ d. d.entry.session) order
    (λ x y a b same. ap (λ (d : Decided). stripe_of d.entry.parts)
    (same-key (λ (d : Decided). d.entry.session) decisions x y once (merged-in decisions order merge x a).0 (merged-in decisions order merge y b).0 same))
    (λ k. subst (λ (ds : List Decided). EachOnce (map (λ (d : Decided). d.entry.session) ds)) (sym (merge k)) (once-filter (λ (d : Decided). d.entry.session) (is_logged k) decisions once))

-- each verdict of a merge is that of a cell where those of its stripe stand that are before it
pub merge-verdicts : (g : PlainGraph) (forests : List Forest) (candidates : List Entry) (order : List Decided)
    → IsMerge (decided_behind g forests [] candidates) order → AreMerged g forests [] order
merge-verdicts g forests candidates order merge =
    merged g forests [] order (λ k. subst (AreVerdicts g forests []) (sym (merge k)) (log-verdicts g forests k [] candidates))
