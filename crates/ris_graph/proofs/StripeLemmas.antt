-- The rows of a stripe and the room for its jobs, after an edit and after a decline.
use Rattle.std.proofs.Common.{◌≡◌, ℕ, ◌+◌, ◌<◌, ◌≤◌, ◌/◌, Bool, true, false, ◌&&◌, ◌==◌, ◌⊎◌, List, None, length, get_or, set, Vec, vec_len, vec_capacity, arith, refl, inl, inr, sym, ap, subst}
use Rattle.std.specs.List.{count_by}
use Rattle.std.specs.declared.alloc.Global.{Global}
use Rattle.std.proofs.lemmas.Bool.{eq-eqb}
use Rattle.std.proofs.lemmas.Bool.Decides.{nat_tests}
use Rattle.std.proofs.lemmas.List.Elements.{All-set}
use Rattle.std.proofs.lemmas.List.Sums.{sum_by-set, get_or-le-sum_by}
use Rattle.ris_base.specs.Effect.{first_past_limit}
use Rattle.ris_base.specs.declared.events.Verdict.TheVariants.{NoEdge, Bounced}
use Rattle.ris_base.specs.Limits.{greatest_of}
use Rattle.ris_base.specs.declared.graphs.Format.TheVariants.{Two}
use Rattle.ris_base.specs.declared.updates.Update.{Update}
use Rattle.ris_base.specs.declared.updates.Update.TheVariants.{AddV, DelV, AddE, DelE, SetW}
use Rattle.ris_base.proofs.EffectLemmas.{one_if}
use Rattle.ris_rows.specs.Neighbours.{IsAscending, copies_of}
use Rattle.ris_rows.specs.RowView.{RowView}
use Rattle.ris_graph.specs.GraphView.{row_at}
use Rattle.ris_graph.specs.StripeView.{HasJobRoom, HasCopy, HasEditRoom, IsStripe, rows_after, waits, adds_at, adds_copy}
use Rattle.ris_graph.specs.declared.stripes.StripeJob.{StripeJob}
use Rattle.ris_graph.proofs.RowSteps.{within-spare, within-copies, more-ascending, more-spare, more-copies, fewer-ascending, fewer-spare, fewer-copies}

-- the same test the other way round
turned : (a b c d e f : ℕ) → ((a == b) && (c == d) && (e == f)) ≡ ((b == a) && (d == c) && (f == e))
turned a b c d e f = grind (arith, nat_tests)

-- Jobs that get a verdict

-- a job that waited and waits no longer is counted no more
pub count_by-decided : (jobs : List StripeJob) (k : ℕ) (d j : StripeJob) (p : StripeJob → Bool) → k < length jobs → waits (get_or jobs k d) ≡ true → waits j ≡ false
    → count_by (λ i. waits i && p i) (set jobs k j) + one_if (p (get_or jobs k d)) ≡ count_by (λ i. waits i && p i) jobs
count_by-decided jobs k d j p lt waited decided =
    let f = λ (i : StripeJob). one_if (waits i && p i) in
    let whole = sum_by-set f jobs k j d lt in
    let old : f (get_or jobs k d) ≡ one_if (p (get_or jobs k d)) = rw waited refl in
    let new : f j ≡ 0 = rw decided refl in
    omega (arith, whole)

left_le : (left one all spare : ℕ) → left + one ≡ all → all ≤ spare → left ≤ spare
left_le left one all spare is le = omega arith

left_lt : (left one all copies most : ℕ) → left + one ≡ all → copies + all < most → copies + left < most
left_lt left one all copies most is lt = omega arith

left_some : (left one all : ℕ) → left + one ≡ all → 0 < left → 0 < all
left_some left one all is some = omega arith

module _ (rows : List RowView) (jobs : List StripeJob) (k : ℕ) (d j : StripeJob) (lt : k < length jobs) (waited : waits (get_or jobs k d) ≡ true) (decided : waits j ≡ false)
    (room : HasJobRoom rows jobs) where
  counted-at : (q : ℕ) → count_by (λ i. waits i && adds_at q i.update) (set jobs k j) + one_if (adds_at q (get_or jobs k d).update) ≡ count_by (λ i. waits i && adds_at q i.update) jobs
  counted-at q = count_by-decided jobs k d j (λ i. adds_at q i.update) lt waited decided

  counted-copies : (q e w : ℕ)
      → count_by (λ i. waits i && adds_copy q e w i.update) (set jobs k j) + one_if (adds_copy q e w (get_or jobs k d).update) ≡ count_by (λ i. waits i && adds_copy q e w i.update) jobs
  counted-copies q e w = count_by-decided jobs k d j (λ i. adds_copy q e w i.update) lt waited decided

  -- the rows stay
  pub HasJobRoom-declined : HasJobRoom rows (set jobs k j)
  HasJobRoom-declined = record {
    ascending = room.ascending;
    room = λ q. left_le _ _ _ _ (counted-at q) (room.room q);
    few = λ q e w some. left_lt _ _ _ _ _ (counted-copies q e w) (room.few q e w (left_some _ _ _ (counted-copies q e w) some));
  }

-- An edit

-- a job that waits is counted
pub counted-waiting : (jobs : List StripeJob) (k : ℕ) (d : StripeJob) (p : StripeJob → Bool) → k < length jobs → waits (get_or jobs k d) ≡ true → p (get_or jobs k d) ≡ true
    → 1 ≤ count_by (λ i. waits i && p i) jobs
counted-waiting jobs k d p lt waited passes =
    let most = get_or-le-sum_by (λ (i : StripeJob). one_if (waits i && p i)) jobs k d lt in
    let one : one_if (waits (get_or jobs k d) && p (get_or jobs k d)) ≡ 1 = rw (waited, passes) refl in
    omega arith

-- where a job waits, some do
waiting-some : (jobs : List StripeJob) (k : ℕ) (d : StripeJob) → k < length jobs → waits (get_or jobs k d) ≡ true → 0 < count_by waits jobs
waiting-some jobs k d lt waited =
    let most = get_or-le-sum_by (λ (i : StripeJob). one_if (waits i)) jobs k d lt in
    let one : one_if (waits (get_or jobs k d)) ≡ 1 = rw waited refl in
    omega arith

-- there is room for a job that waits
pub HasEditRoom-waiting : (rows : List RowView) (jobs : List StripeJob) (k : ℕ) (d : StripeJob) → HasJobRoom rows jobs → k < length jobs → waits (get_or jobs k d) ≡ true
    → HasEditRoom rows (get_or jobs k d).update
HasEditRoom-waiting rows jobs k d room lt waited = by_kind (get_or jobs k d).update refl
  where
    by_kind : (update : Update) → (get_or jobs k d).update ≡ update → HasEditRoom rows update
    by_kind (AddE u v w) is =
        let at = counted-waiting jobs k d (λ i. adds_at (u / 64) i.update) lt waited (rw is (eq-eqb (u / 64) (u / 64) refl)) in
        let copy = counted-waiting jobs k d (λ i. adds_copy (u / 64) v w i.update) lt waited (rw is (rw (eq-eqb (u / 64) (u / 64) refl, eq-eqb v v refl, eq-eqb w w refl) refl)) in
        let spare = room.room (u / 64) in
        let few = room.few (u / 64) v w (omega arith) in
        (omega arith, omega arith)
    by_kind (AddV x) is = tt
    by_kind (DelV x) is = tt
    by_kind (DelE u v w) is = tt
    by_kind (SetW u v w w2) is = tt

spare_left : (left one all old new : ℕ) → left + one ≡ all → all ≤ old → old ≤ new + one → left ≤ new
spare_left left one all old new is le more = omega arith

copies_left : (left one all now was most : ℕ) → left + one ≡ all → was + all < most → now ≤ was + one → now + left < most
copies_left left one all now was most is lt more = omega arith

module _ (rows : List RowView) (jobs : List StripeJob) (k : ℕ) (d j : StripeJob) (lt : k < length jobs) (waited : waits (get_or jobs k d) ≡ true) (decided : waits j ≡ false)
    (room : HasJobRoom rows jobs) where
  -- the rows change by less than the job that waits no longer asked for
  kept-room : (new : List RowView) → ((q : ℕ) → IsAscending (row_at new q).items)
      → ((q : ℕ) → (row_at rows q).spare ≤ (row_at new q).spare + one_if (adds_at q (get_or jobs k d).update))
      → ((q e w : ℕ) → copies_of (row_at new q).items e w ≤ copies_of (row_at rows q).items e w + one_if (adds_copy q e w (get_or jobs k d).update))
      → HasJobRoom new (set jobs k j)
  kept-room new ascending spare copies = record {
    ascending = ascending;
    room = λ q. spare_left _ _ _ _ _ (counted-at rows jobs k d j lt waited decided room q) (room.room q) (spare q);
    few = λ q e w some. copies_left _ _ _ _ _ _ (counted-copies rows jobs k d j lt waited decided room q e w)
        (room.few q e w (left_some _ _ _ (counted-copies rows jobs k d j lt waited decided room q e w) some)) (copies q e w);
  }

  edited-AddE : (u v w : ℕ) → (get_or jobs k d).update ≡ AddE u v w → HasJobRoom (rows_after rows (AddE u v w)) (set jobs k j)
  edited-AddE u v w is =
      let free : HasEditRoom rows (AddE u v w) = subst (λ (i : Update). HasEditRoom rows i) is (HasEditRoom-waiting rows jobs k d room lt waited) in
      let within = within-spare rows (u / 64) free.0 in
      kept-room (rows_after rows (AddE u v w)) (more-ascending rows (u / 64) v w within room.ascending)
      (λ q. rw is (more-spare rows (u / 64) v w within room.ascending free.0 q))
      (λ q e x. rw is (let now = more-copies rows (u / 64) v w within room.ascending q e x in
      let same = ap one_if (turned q (u / 64) e v x w) in omega arith))

  edited-DelE : (u v w : ℕ) → (get_or jobs k d).update ≡ DelE u v w → 1 ≤ copies_of (row_at rows (u / 64)).items v w → HasJobRoom (rows_after rows (DelE u v w)) (set jobs k j)
  edited-DelE u v w is some =
      let within = within-copies rows (u / 64) v w some in
      kept-room (rows_after rows (DelE u v w)) (fewer-ascending rows (u / 64) v w within room.ascending)
      (λ q. (let less = fewer-spare rows (u / 64) v w within room.ascending q in omega arith))
      (λ q e x. (let now = fewer-copies rows (u / 64) v w within room.ascending q e x in omega arith))

  -- the job was applied
  pub HasJobRoom-edited : HasCopy rows (get_or jobs k d).update → HasJobRoom (rows_after rows (get_or jobs k d).update) (set jobs k j)
  HasJobRoom-edited copy = by_kind (get_or jobs k d).update refl
    where
      same_rows : HasJobRoom rows (set jobs k j)
      same_rows = HasJobRoom-declined rows jobs k d j lt waited decided room

      by_kind : (update : Update) → (get_or jobs k d).update ≡ update → HasJobRoom (rows_after rows update) (set jobs k j)
      by_kind (AddE u v w) is = edited-AddE u v w is
      by_kind (DelE u v w) is = edited-DelE u v w is (subst (HasCopy rows) is copy)
      by_kind (AddV x) is = same_rows
      by_kind (DelV x) is = same_rows
      by_kind (SetW u v w w2) is = same_rows

-- a stripe where one job was decided: the log has its session at most
pub IsStripe-decided : (rows new : List RowView) (jobs : List StripeJob) (log noted : Vec ℕ Global) (k : ℕ) (old j : StripeJob) → IsStripe rows jobs log
    → k < length jobs → old ≡ get_or jobs k old → waits old ≡ true → waits j ≡ false → j.update ≡ old.update
    → HasJobRoom new (set jobs k j) → vec_len noted ≤ vec_len log + 1 → vec_capacity noted ≡ vec_capacity log → IsStripe new (set jobs k j) noted
IsStripe-decided rows new jobs log noted k old j stripe lt read waited decided same room longer capacity = record {
  room = λ _. room;
  limits = All-set (λ (i : StripeJob). first_past_limit (greatest_of Two) i.update ≡ None) jobs k j
      (rw same (subst (λ (i : StripeJob). first_past_limit (greatest_of Two) i.update ≡ None) (sym read) (stripe.limits k old lt))) stripe.limits;
  noted = (let whole = sum_by-set (λ (i : StripeJob). one_if (waits i)) jobs k j old lt in
      let was : one_if (waits (get_or jobs k old)) ≡ 1 = rw (← read, waited) refl in
      let now : one_if (waits j) ≡ 0 = rw decided refl in
      let few = stripe.noted in
      omega (arith, whole));
}

-- job k as it was read from a stripe that a step changes
pub record IsRead (rows : List RowView) (jobs : List StripeJob) (k : ℕ) (old : StripeJob) : Type 0 where
  pub within : k < length jobs
  pub read : old ≡ get_or jobs k old
  pub waiting : waits old ≡ true

pub IsStripe-edited : (rows : List RowView) (jobs : List StripeJob) (log noted : Vec ℕ Global) (k : ℕ) (old j : StripeJob) → IsStripe rows jobs log → IsRead rows jobs k old
    → HasCopy rows old.update → waits j ≡ false → j.update ≡ old.update → vec_len noted ≤ vec_len log + 1 → vec_capacity noted ≡ vec_capacity log
    → IsStripe (rows_after rows old.update) (set jobs k j) noted
IsStripe-edited rows jobs log noted k old j stripe at copy decided same longer capacity =
    let waiting = subst (λ (i : StripeJob). waits i ≡ true) at.read at.waiting in
    let room = HasJobRoom-edited rows jobs k old j at.within waiting decided (stripe.room (waiting-some jobs k old at.within waiting))
    (subst (λ (i : StripeJob). HasCopy rows i.update) at.read copy) in
    IsStripe-decided rows (rows_after rows old.update) jobs log noted k old j stripe at.within at.read at.waiting decided same
    (subst (λ (i : StripeJob). HasJobRoom (rows_after rows i.update) (set jobs k j)) (sym at.read) room) longer capacity

pub IsStripe-declined : (rows : List RowView) (jobs : List StripeJob) (log noted : Vec ℕ Global) (k : ℕ) (old j : StripeJob) → IsStripe rows jobs log → IsRead rows jobs k old
    → waits j ≡ false → j.update ≡ old.update → vec_len noted ≤ vec_len log + 1 → vec_capacity noted ≡ vec_capacity log → IsStripe rows (set jobs k j) noted
IsStripe-declined rows jobs log noted k old j stripe at decided same longer capacity =
    let waiting = subst (λ (i : StripeJob). waits i ≡ true) at.read at.waiting in
    IsStripe-decided rows rows jobs log noted k old j stripe at.within at.read at.waiting decided same
    (HasJobRoom-declined rows jobs k old j at.within waiting decided (stripe.room (waiting-some jobs k old at.within waiting))) longer capacity

-- a verdict that doesn't apply a job decides it
pub waits-declined : (j : StripeJob) → (j.verdict ≡ NoEdge) ⊎ (j.verdict ≡ Bounced) → waits j ≡ false
waits-declined j declines = elim declines [ inl refused ↦ rw refused refl | inr bounced ↦ rw bounced refl ]
