-- What the fields of a table keep: at the start, with one entry more, and where it is trimmed.
use Rattle.std.proofs.Common.{◌≡◌, ℕ, zero, suc, ◌+◌, ◌-◌, ◌<◌, ◌≤◌, ◌==◌, Bool, true, false, if◌then◌else◌, List, [], ◌∷◌, ◌++◌, length, get_or, map, Some, arith, refl, inl, inr, sym, subst, ap, ◌∙◌}
use Rattle.std.specs.Prelude.{replicate}
use Rattle.std.specs.List.{All, slice_get}
use Rattle.std.proofs.lemmas.Bool.{cases_eq, eq-eqb, ne_eqb}
use Rattle.std.proofs.lemmas.List.{length-map, length_push, map-append, append-nil, get_or_past}
use Rattle.std.proofs.lemmas.List.Elements.{All-nil, All-head, All-tail, All-set, All-push, All-append, All-replicate, All-map}
use Rattle.std.proofs.lemmas.List.Sorted.{IsNonDecreasingBy-push}
use Rattle.std.proofs.lemmas.List.Sums.{sum_by-set, sum_by-append, sum_by-cons}
use Rattle.ris_base.specs.declared.forests.ForestRow.{ForestRow}
use Rattle.ris_base.specs.declared.records.Change.{Change}
use Rattle.ris_history.specs.Chains.{HeldView, ChainView, no_chain, latest, pushed, trimmed_from, trimmed, any_up_to, kept_of, number, chain_at, grown, row_held, change_held, with_first, with_rows, with_forests, is_taken, bound_of, appended, with_changes, kept_in}
use Rattle.ris_history.specs.HistoryView.{shown}
use Rattle.std.proofs.Math.Nat.{mul-le-mul_right}
use Rattle.ris_history.specs.Sound.{later_places, due_places, EndsBy, AllEndBy, IsDueBy, AreInOrder, with_dues, IsWithinSize, IsSound}
use Rattle.ris_history.specs.declared.trims.Due.{Due}
use Rattle.ris_history.proofs.ChainLemmas.{chain_at-grown, length-grown, chain_at-appended, chain_at-appended_other, length-appended, AllEndBy-appended, AllEndBy-grown, AllEndBy-wider}
use Rattle.ris_history.proofs.ChangeLemmas.{bound_of-at, bound_of-small, length-with_changes, with_dues-many}

-- The start

-- a chain of what there was at place 0 alone
abbrev pub IsBare : ChainView → Type 0
IsBare c = (c.later ≡ []) × (c.first.place ≡ 0)

pub bare-with_first : (k : ℕ) (held : HeldView) (cs : List ChainView) → held.place ≡ 0 → All IsBare cs → All IsBare (with_first k held cs)
bare-with_first k held cs e h =
    All-set IsBare (grown (k + 1) cs) k (record { first = held; later = [] }) (refl, e)
    (All-append IsBare cs (replicate (k + 1 - length cs) no_chain) h (All-replicate IsBare (k + 1 - length cs) no_chain (refl, refl)))

bare-with_rows : (n a : ℕ) (rows : List ForestRow) (cs : List ChainView) → All IsBare cs → All IsBare (with_rows n a rows cs)
bare-with_rows n a [] cs h = h
bare-with_rows n a (row ∷ rows) cs h =
    bare-with_first (number n a row.vertex) (row_held row) (with_rows n a rows cs) refl (bare-with_rows n a rows cs h)

pub bare-with_forests : (n a : ℕ) (forests : List (List ForestRow)) (cs : List ChainView) → All IsBare cs → All IsBare (with_forests n a forests cs)
bare-with_forests n a [] cs h = h
bare-with_forests n a (rows ∷ forests) cs h = bare-with_forests n (a + 1) forests (with_rows n a rows cs) (bare-with_rows n a rows cs h)

bare-kept : (cs : List ChainView) → All IsBare cs → kept_in cs ≡ 0
bare-kept [] h = refl
bare-kept (c ∷ cs) h =
    let head = All-head IsBare c cs h in
    let more = bare-kept cs (All-tail IsBare c cs h) in
    let one : kept_of c ≡ 0 = (let a = ap length head.0 in let b = eq-eqb c.first.place 0 head.1 in rw b (omega arith)) in
    let sum = sum_by-cons kept_of c cs in
    omega arith

-- such chains have no change, and their first items are of place 0
pub bare-later : (cs : List ChainView) (k : ℕ) → All IsBare cs → (chain_at cs k).later ≡ []
bare-later [] k h = refl
bare-later (c ∷ cs) zero h = (All-head IsBare c cs h).0
bare-later (c ∷ cs) (suc k) h = bare-later cs k (All-tail IsBare c cs h)

pub bare-first : (cs : List ChainView) (k : ℕ) → All IsBare cs → (chain_at cs k).first.place ≡ 0
bare-first [] k h = refl
bare-first (c ∷ cs) zero h = (All-head IsBare c cs h).1
bare-first (c ∷ cs) (suc k) h = bare-first cs k (All-tail IsBare c cs h)

-- a new table is sound
pub opened-sound : (n : ℕ) (forests : List (List ForestRow)) (cs : List ChainView) → cs ≡ with_forests n 0 forests [] → IsWithinSize n cs → IsSound cs [] 0 0 n
opened-sound n forests cs is size =
    let bare = subst (All IsBare) (sym is) (bare-with_forests n 0 forests [] (All-nil IsBare)) in
    record {
      ordered = record {
        due = λ k. ap (map (λ held. held.place)) (bare-later cs k bare);
        order = λ i j d le lt. absurd (omega arith);
        some = All-nil (λ (due : Due). 0 < due.place);
        count = sym (bare-kept cs bare);
      };
      past = All-nil (IsDueBy 0);
      ends = λ k d lt i e less. absurd (let none = ap length ((bare k d lt).0) in omega arith);
      size = size;
    }

-- One entry more

due_places-push : (k : ℕ) (dues : List Due) (d : Due) → due_places k (dues ++ d ∷ []) ≡ due_places k dues ++ (if d.chain == k then d.place ∷ [] else [])
due_places-push k [] d = refl
due_places-push k (q ∷ qs) d = go (q.chain == k) (due_places-push k qs d)
  where
    go : (b : Bool) → due_places k (qs ++ d ∷ []) ≡ due_places k qs ++ (if d.chain == k then d.place ∷ [] else [])
        → (if b then q.place ∷ due_places k (qs ++ d ∷ []) else due_places k (qs ++ d ∷ []))
        ≡ (if b then q.place ∷ due_places k qs else due_places k qs) ++ (if d.chain == k then d.place ∷ [] else [])
    go true more = ap (λ ps. q.place ∷ ps) more
    go false more = more

-- one change that is taken
order-appended : (k p : ℕ) (held : HeldView) (dues : List Due) (cs : List ChainView) (kept : ℕ) → held.place ≡ p → k < length cs → 0 < p → All (IsDueBy p) dues → AreInOrder dues cs kept
    → AreInOrder (dues ++ record { place = p; chain = k } ∷ []) (appended k held cs) (kept + 1)
order-appended k p held dues cs kept is within some past h =
    let due : Due = record { place = p; chain = k } in
    let total = sum_by-set kept_of cs k (pushed held (chain_at cs k)) no_chain within in
    let longer = length_push (chain_at cs k).later held in
    let count = h.count in
    record {
      due = λ j. elim (cases_eq j k) [
        | inl e ↦ subst (λ i. later_places (chain_at (appended k held cs) i) ≡ due_places i (dues ++ due ∷ [])) (sym e)
            (ap later_places (chain_at-appended k held cs within) ∙ map-append (λ (s : HeldView). s.place) (chain_at cs k).later (held ∷ [])
            ∙ ap (λ q. later_places (chain_at cs k) ++ q ∷ []) is ∙ ap (λ ps. ps ++ p ∷ []) (h.due k)
            ∙ sym (due_places-push k dues due ∙ (let same = eq-eqb k k refl in rw same refl)))
        | inr e ↦ ap later_places (chain_at-appended_other k held cs j e) ∙ h.due j
            ∙ sym (due_places-push j dues due ∙ (let differs = ne_eqb k j (λ f. e (sym f)) in rw differs (append-nil (due_places j dues))))
      ];
      order = IsNonDecreasingBy-push (λ (q : Due). q.place) dues due h.order (λ d lt. past (length dues - 1) d (omega arith));
      some = All-push (λ (q : Due). 0 < q.place) dues due h.some some;
      count = omega arith;
    }

-- chains that say nothing keep nothing
kept-grown : (m : ℕ) (cs : List ChainView) → kept_in (grown m cs) ≡ kept_in cs
kept-grown m cs =
    let more = sum_by-append kept_of cs (replicate (m - length cs) no_chain) in
    let none = bare-kept (replicate (m - length cs) no_chain) (All-replicate IsBare (m - length cs) no_chain (refl, refl)) in
    omega arith

-- what holds with some changes more
record Entered (n p : ℕ) (dues : List Due) (kept : ℕ) (dues_now : List Due) (cs : List ChainView) : Type 0 where
  kept_now : ℕ
  count : kept_now + length dues ≡ kept + length dues_now
  order : AreInOrder dues_now cs kept_now
  past : All (IsDueBy p) dues_now
  ends : AllEndBy p cs

entered-all : (n p : ℕ) (dues : List Due) (cs : List ChainView) (kept : ℕ) (ds : List Change) → 0 < p → AreInOrder dues cs kept → All (IsDueBy p) dues → AllEndBy p cs
    → ((k : ℕ) (d : Change) → slice_get ds k ≡ Some d → is_taken n d ≡ true → number n d.analysis d.vertex < length cs)
    → Entered n p dues kept (with_dues n p dues ds) (with_changes n p cs ds)
entered-all n p dues cs kept [] some order past ends room = record { kept_now = kept; count = refl; order = order; past = past; ends = ends }
entered-all n p dues cs kept (d ∷ ds) some order past ends room =
    go (is_taken n d) refl (λ qs xs k o a b r. entered-all n p qs xs k ds some o a b r)
  where
    go : (t : Bool) → is_taken n d ≡ t
        → ((qs : List Due) (xs : List ChainView) (k : ℕ) → AreInOrder qs xs k → All (IsDueBy p) qs → AllEndBy p xs
        → ((i : ℕ) (e : Change) → slice_get ds i ≡ Some e → is_taken n e ≡ true → number n e.analysis e.vertex < length xs)
        → Entered n p qs k (with_dues n p qs ds) (with_changes n p xs ds))
        → Entered n p dues kept (with_dues n p (if t then dues ++ record { place = p; chain = number n d.analysis d.vertex } ∷ [] else dues) ds)
        (with_changes n p (if t then appended (number n d.analysis d.vertex) (change_held p d) cs else cs) ds)
    go false e more = more dues cs kept order past ends (λ i x at taken. room (suc i) x at taken)
    go true e more =
        let k = number n d.analysis d.vertex in
        let due : Due = record { place = p; chain = k } in
        let held = change_held p d in
        let within = room zero d refl e in
        let size = length-appended k held cs in
        let rest = more (dues ++ due ∷ []) (appended k held cs) (kept + 1) (order-appended k p held dues cs kept refl within some past order)
        (All-push (IsDueBy p) dues due past (omega arith)) (AllEndBy-appended p k held cs (omega arith) ends)
        (λ i x at taken. let low = room (suc i) x at taken in omega arith) in
        let longer = length_push dues due in
        let c = rest.count in
        record { kept_now = rest.kept_now; count = omega arith; order = rest.order; past = rest.past; ends = rest.ends }

-- a table with one entry more is sound
pub entered-sound : (n p : ℕ) (dues dues_now : List Due) (cs wide now : List ChainView) (front kept : ℕ) (ds : List Change) → IsSound cs dues front kept n → p ≡ front + 1
    → wide ≡ grown (bound_of n ds) cs → now ≡ with_changes n p wide ds → dues_now ≡ with_dues n p dues ds
    → IsSound now dues_now p (kept + (length dues_now - length dues)) n
entered-sound n p dues dues_now cs wide now front kept ds h place is_wide is_now is_dues =
    let m = bound_of n ds in
    let old = h.ordered in
    let long = length-grown (bound_of n ds) cs in
    let done = entered-all n p dues (grown m cs) kept ds (omega arith)
    (record {
      due = λ k. ap later_places (chain_at-grown m cs k) ∙ old.due k;
      order = old.order;
      some = old.some;
      count = old.count ∙ sym (kept-grown m cs);
    })
    (λ k d lt. let low = h.past k d lt in omega arith)
    (AllEndBy-grown p m cs (AllEndBy-wider front p cs (omega arith) h.ends))
    (λ k d at taken. let low = bound_of-at n ds k d at taken in omega arith) in
    let now_is : now ≡ with_changes n p (grown (bound_of n ds) cs) ds = is_now ∙ ap (λ (xs : List ChainView). with_changes n p xs ds) is_wide in
    let more = with_dues-many n p dues ds in
    let counts = ap length is_dues in
    let c = done.count in
    let total : done.kept_now ≡ kept + (length dues_now - length dues) = omega arith in
    let size = ap length now_is ∙ length-with_changes n p (grown m cs) ds in
    let small = bound_of-small n ds in
    let was = h.size in
    record {
      ordered = subst (λ k. AreInOrder dues_now now k) total (subst (λ (qs : List Due). AreInOrder qs now done.kept_now) (sym is_dues) (subst (λ (xs : List ChainView). AreInOrder (with_dues n p dues ds) xs done.kept_now) (sym now_is) done.order));
      past = subst (All (IsDueBy p)) (sym is_dues) done.past;
      ends = subst (AllEndBy p) (sym now_is) done.ends;
      size = omega arith;
    }

-- Trimming

EndsBy-trimmed_from : (n f : ℕ) (first : HeldView) (later : List HeldView) → All (λ held. held.place ≤ n) later → EndsBy n (trimmed_from f first later)
EndsBy-trimmed_from n f first [] h = h
EndsBy-trimmed_from n f first (s ∷ ss) h =
    go (any_up_to f (s ∷ ss)) (EndsBy-trimmed_from n f s ss (All-tail (λ (held : HeldView). held.place ≤ n) s ss h))
  where
    go : (t : Bool) → EndsBy n (trimmed_from f s ss) → EndsBy n (if t then trimmed_from f s ss else record { first = first; later = s ∷ ss })
    go true more = more
    go false more = h

-- a table that is trimmed is sound
pub trimmed-sound : (n f : ℕ) (dues dues_now : List Due) (cs now : List ChainView) (front kept kept_now : ℕ) → IsSound cs dues front kept n → now ≡ map (trimmed f) cs
    → AreInOrder dues_now now kept_now → All (IsDueBy front) dues_now → IsSound now dues_now front kept_now n
trimmed-sound n f dues dues_now cs now front kept kept_now h is order past =
    let size = ap length is ∙ length-map cs (trimmed f) in
    let was = h.size in
    record {
      ordered = order;
      past = past;
      ends = subst (AllEndBy front) (sym is) (All-map (EndsBy front) (trimmed f) cs (λ k d lt. EndsBy-trimmed_from front f (get_or cs k d).first (get_or cs k d).later (h.ends k d lt)));
      size = omega arith;
    }

-- Reading

-- nothing is said of a vertex number of 2^32 or more
pub shown-outside : (front n : ℕ) (cs : List ChainView) (v a x : ℕ) → IsWithinSize n cs → ¬ (x < 4294967296)
    → shown (record { front = front; analyses = n; chains = cs }) v a x ≡ no_chain.first
shown-outside front n cs v a x size past =
    let up = mul-le-mul_right n (not_below past) in
    ap (λ (c : ChainView). latest c v) (get_or_past cs (number n a x) no_chain (omega arith))
  where
    not_below : ¬ (x < 4294967296) → 4294967296 ≤ x
    not_below h = omega arith
