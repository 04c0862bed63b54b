-- How an account grows by one step: one more merged decision, and one more request of the tail.
use Rattle.std.proofs.Common.{◌≡◌, ℕ, ◌+◌, if◌then◌else◌, Bool, true, false, List, [], ◌∷◌, ◌++◌, arith, refl, sym, subst, ap, append_assoc}
use Rattle.std.proofs.lemmas.List.{append-nil}
use Rattle.ris_base.specs.Epoch.{Ground, Resolved}
use Rattle.ris_base.specs.Machine.{Decided, is_applied}
use Rattle.ris_base.specs.declared.records.Record.{Record}
use Rattle.ris_base.specs.declared.replies.Outcome.{Outcome}
use Rattle.ris_base.specs.declared.requests.Request.{Request}
use Rattle.ris_epoch.specs.Account.{IsHandled, IsTail, IsWithinReach, entry_record, front_of, outcome_of, outcomes_of, records_of, resolved}
use Rattle.ris_epoch.proofs.SealRuns.{front-more}

-- The seal

-- nothing merged makes no record
pub records_of-none : records_of [] ≡ []
unfolding records_of
records_of-none = refl

-- one more decision makes an entry where it is applied
pub records_of-push : (order : List Decided) (d : Decided)
    → records_of (order ++ d ∷ []) ≡ (if is_applied d then records_of order ++ entry_record d.entry [] ∷ [] else records_of order)
unfolding records_of
records_of-push [] d = go (is_applied d)
  where
    go : (b : Bool) → (if b then entry_record d.entry [] ∷ [] else []) ≡ (if b then [] ++ entry_record d.entry [] ∷ [] else [])
    go true = refl
    go false = refl
records_of-push (c ∷ order) d = go (is_applied c) (is_applied d) (records_of-push order d)
  where
    go : (a b : Bool) → records_of (order ++ d ∷ []) ≡ (if b then records_of order ++ entry_record d.entry [] ∷ [] else records_of order)
        → (if a then entry_record c.entry [] ∷ records_of (order ++ d ∷ []) else records_of (order ++ d ∷ []))
        ≡ (if b then (if a then entry_record c.entry [] ∷ records_of order else records_of order) ++ entry_record d.entry [] ∷ []
        else (if a then entry_record c.entry [] ∷ records_of order else records_of order))
    go true true more = ap (λ (rs : List Record). entry_record c.entry [] ∷ rs) more
    go true false more = ap (λ (rs : List Record). entry_record c.entry [] ∷ rs) more
    go false true more = more
    go false false more = more

-- nor any outcome
pub outcomes_of-none : (n : ℕ) → outcomes_of n [] ≡ []
unfolding outcomes_of
outcomes_of-none n = refl

-- and has its outcome where it stands
pub outcomes_of-push : (order : List Decided) (records : List Record) (d : Decided)
    → outcomes_of (front_of records) (order ++ d ∷ []) ≡ outcomes_of (front_of records) order ++ outcome_of (front_of (records ++ records_of order)) d ∷ []
unfolding outcomes_of records_of
outcomes_of-push [] records d = ap (λ (rs : List Record). outcome_of (front_of rs) d ∷ []) (sym (append-nil records))
outcomes_of-push (c ∷ order) records d = go (is_applied c) (λ rs. outcomes_of-push order rs d)
  where
    go : (b : Bool) → ((rs : List Record) → outcomes_of (front_of rs) (order ++ d ∷ []) ≡ outcomes_of (front_of rs) order ++ outcome_of (front_of (rs ++ records_of order)) d ∷ [])
        → outcome_of (front_of records) c ∷ outcomes_of (if b then front_of records + 1 else front_of records) (order ++ d ∷ [])
        ≡ outcome_of (front_of records) c ∷ outcomes_of (if b then front_of records + 1 else front_of records) order
        ++ outcome_of (front_of (records ++ (if b then entry_record c.entry [] ∷ records_of order else records_of order))) d ∷ []
    go false rest = ap (λ (os : List Resolved). outcome_of (front_of records) c ∷ os) (rest records)
    go true rest =
        let r : Record = entry_record c.entry [] in
        let longer : List Record = records ++ r ∷ [] in
        let up : front_of longer ≡ front_of records + 1 = front-more records c.entry r refl in
        ap (λ (os : List Resolved). outcome_of (front_of records) c ∷ os)
        (subst (λ (n : ℕ). outcomes_of n (order ++ d ∷ []) ≡ outcomes_of n order ++ outcome_of (front_of (records ++ (r ∷ records_of order))) d ∷ []) up
        (subst (λ (rs : List Record). outcomes_of (front_of longer) (order ++ d ∷ []) ≡ outcomes_of (front_of longer) order ++ outcome_of (front_of rs) d ∷ [])
        (append_assoc records (r ∷ []) (records_of order)) (rest longer)))

-- The tail

-- nothing is handled
pub tail-none : (ground : Ground) (records : List Record) → IsTail ground records [] records [] 0
unfolding IsTail
tail-none ground records = (refl, refl, refl)

-- one more request is handled behind those before it
pub tail-push : (ground : Ground) (tail : List Request) (records middle more : List Record) (outcomes : List Resolved) (visits : ℕ) (r : Request) (told : Outcome) (own : ℕ)
    → IsTail ground records tail middle outcomes visits → IsHandled ground middle r more told → IsWithinReach ground middle r own
    → IsTail ground records (tail ++ r ∷ []) more (outcomes ++ resolved r told ∷ []) (visits + own)
unfolding IsTail
tail-push ground [] records middle more outcomes visits r told own h handled within =
    let sums : visits + own ≡ own + 0 = (let none = h.2 in omega arith) in (
      more,
      told,
      [],
      own,
      0,
      subst (λ (rs : List Record). IsHandled ground rs r more told) h.0 handled,
      subst (λ (rs : List Record). IsWithinReach ground rs r own) h.0 within,
      (refl, refl, refl),
      ap (λ (os : List Resolved). os ++ resolved r told ∷ []) h.1,
      sums,
    )
tail-push ground (x ∷ tail) records middle more outcomes visits r told own h handled within =
    let sums : visits + own ≡ h.3 + (h.4 + own) = (let all = h.9 in omega arith) in (
      h.0,
      h.1,
      h.2 ++ resolved r told ∷ [],
      h.3,
      h.4 + own,
      h.5,
      h.6,
      tail-push ground tail h.0 middle more h.2 h.4 r told own h.7 handled within,
      ap (λ (os : List Resolved). os ++ resolved r told ∷ []) h.8,
      sums,
    )
