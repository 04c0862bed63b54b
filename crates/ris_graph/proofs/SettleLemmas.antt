-- The in rows and the verdicts after jobs, one after another.
use Rattle.std.proofs.Common.{◌≡◌, ◌≢◌, ℕ, suc, ◌+◌, ◌-◌, ◌<◌, ◌≤◌, Bool, true, false, ◌&&◌, ◌==◌, List, [], ◌∷◌, ◌++◌, None, length, get_or, set, take, drop, arith, refl, inl, inr, sym, ap, subst, ◌∙◌, get_or-set_same, get_or-set_other}
use Rattle.std.specs.List.{All, count_by, fold}
use Rattle.std.proofs.lemmas.Bool.{cases_Bool, eq-eqb}
use Rattle.std.proofs.lemmas.Bool.Decides.{nat_tests}
use Rattle.std.proofs.lemmas.List.{append-nil, drop_more, length-set, take-append-drop}
use Rattle.std.proofs.lemmas.List.Elements.{All-cons, All-nil, All-head, All-tail, All-weaker}
use Rattle.std.proofs.lemmas.List.Sums.{fold_more, get_or-le-sum_by}
use Rattle.ris_base.specs.Effect.{first_past_limit}
use Rattle.ris_base.specs.Graph.{triple}
use Rattle.ris_base.specs.Limits.{greatest_of}
use Rattle.ris_base.specs.declared.events.Verdict.{Verdict}
use Rattle.ris_base.specs.declared.events.Verdict.TheVariants.{Waiting}
use Rattle.ris_base.specs.declared.graphs.Format.TheVariants.{Two}
use Rattle.ris_base.specs.declared.updates.Update.{Update}
use Rattle.ris_base.specs.declared.updates.Update.TheVariants.{AddV, DelV, AddE, DelE, SetW}
use Rattle.ris_base.proofs.EffectLemmas.{one_if, count_by-cons}
use Rattle.ris_rows.specs.Neighbours.{IsAscending, copies_of}
use Rattle.ris_rows.specs.RowView.{RowView, inserted, removed}
use Rattle.ris_graph.specs.GraphView.{row_at}
use Rattle.ris_graph.specs.Settling.{CanAdd, CanTake, HasAddRoom, HasInRow, copy_added, copy_taken, with_added, with_taken, with_told}
use Rattle.ris_graph.specs.StripeView.{is_applied}
use Rattle.ris_graph.specs.declared.stripes.StripeJob.{StripeJob}
use Rattle.ris_graph.proofs.RowSteps.{more-ascending, more-copies, more-spare, fewer-ascending, fewer-copies}
use Rattle.ris_graph.proofs.StepLemmas.{adds, adds_triple, takes, takes_triple}

one_if-le : (b : Bool) → one_if b ≤ 1
one_if-le true = omega arith
one_if-le false = omega arith

-- Lists of jobs

-- a list is what stands before a place, the item there and the rest
pub list-split : {X : Type 0} (xs : List X) (i : ℕ) (x : X) → i < length xs → get_or xs i x ≡ x → xs ≡ take i xs ++ (x ∷ drop (i + 1) xs)
list-split xs i x lt read = sym (take-append-drop i xs) ∙ ap (λ l. take i xs ++ l) (drop_more xs i x lt ∙ ap (λ y. y ∷ drop (i + 1) xs) read)

-- Copies that are added

HasAddRoom-le : (ins : List RowView) (m n : ℕ) (update : Update) → m ≤ n → HasAddRoom ins n update → HasAddRoom ins m update
HasAddRoom-le ins m n (AddE u v w) le h = (let spare = h.1 in let few = h.2 in (h.0, omega arith, omega arith))
HasAddRoom-le ins m n (AddV x) le h = tt
HasAddRoom-le ins m n (DelV x) le h = tt
HasAddRoom-le ins m n (DelE u v w) le h = tt
HasAddRoom-le ins m n (SetW u v w w2) le h = tt

copy_added-ascending : (ins : List RowView) (n : ℕ) (update : Update) → ((v : ℕ) → IsAscending (row_at ins v).items) → HasAddRoom ins n update → (v : ℕ) → IsAscending (row_at (copy_added ins update) v).items
copy_added-ascending ins n (AddE u v w) ascending h = more-ascending ins v u w h.0 ascending
copy_added-ascending ins n (AddV x) ascending h = ascending
copy_added-ascending ins n (DelV x) ascending h = ascending
copy_added-ascending ins n (DelE u v w) ascending h = ascending
copy_added-ascending ins n (SetW u v w w2) ascending h = ascending

-- a copy takes the room of one insert at most
HasAddRoom-after : (ins : List RowView) (n : ℕ) (first update : Update) → ((v : ℕ) → IsAscending (row_at ins v).items) → HasAddRoom ins (1 + n) first → HasAddRoom ins (1 + n) update
    → HasAddRoom (copy_added ins first) n update
HasAddRoom-after ins n (AddE a b x) (AddE u v w) ascending h k =
    let size = length-set ins b (inserted (row_at ins b) a x) in
    let some = h.1 in
    let spare = more-spare ins b a x h.0 ascending (omega arith) v in
    let copies = more-copies ins b a x h.0 ascending v u w in
    let one = one_if-le (b == v) in
    let most = one_if-le ((v == b) && (u == a) && (w == x)) in
    let lt = k.0 in
    let left = k.1 in
    let few = k.2 in
    (omega arith, omega arith, omega arith)
HasAddRoom-after ins n (AddE a b x) (AddV y) ascending h k = tt
HasAddRoom-after ins n (AddE a b x) (DelV y) ascending h k = tt
HasAddRoom-after ins n (AddE a b x) (DelE u v w) ascending h k = tt
HasAddRoom-after ins n (AddE a b x) (SetW u v w w2) ascending h k = tt
HasAddRoom-after ins n (AddV y) update ascending h k = HasAddRoom-le ins n (1 + n) update (omega arith) k
HasAddRoom-after ins n (DelV y) update ascending h k = HasAddRoom-le ins n (1 + n) update (omega arith) k
HasAddRoom-after ins n (DelE a b x) update ascending h k = HasAddRoom-le ins n (1 + n) update (omega arith) k
HasAddRoom-after ins n (SetW a b x x2) update ascending h k = HasAddRoom-le ins n (1 + n) update (omega arith) k

-- so there is room for the jobs behind it
pub CanAdd-next : (ins : List RowView) (j : StripeJob) (js : List StripeJob) → CanAdd ins (j ∷ js) → CanAdd (with_added ins j) js
CanAdd-next ins j js can =
    let n = length js in
    let limits = All-tail (λ (i : StripeJob). first_past_limit (greatest_of Two) i.update ≡ None) j js can.limits in
    let first : HasAddRoom ins (1 + length js) j.update = rw (suc-one (length js)) (All-head (λ (i : StripeJob). HasAddRoom ins (length (j ∷ js)) i.update) j js can.room) in
    let rest : All (λ (i : StripeJob). HasAddRoom ins (1 + length js) i.update) js = rw (suc-one (length js)) (All-tail (λ (i : StripeJob). HasAddRoom ins (length (j ∷ js)) i.update) j js can.room) in
    elim (cases_Bool (is_applied j)) [
      | inl applied ↦ rw applied (record {
        ascending = copy_added-ascending ins (1 + n) j.update can.ascending first;
        limits = limits;
        room = All-weaker (λ (i : StripeJob). HasAddRoom ins (1 + n) i.update) (λ i. HasAddRoom (copy_added ins j.update) n i.update)
            (λ i h. HasAddRoom-after ins n j.update i.update can.ascending first h) js rest;
      })
      | inr kept ↦ rw kept (record {
        ascending = can.ascending;
        limits = limits;
        room = All-weaker (λ (i : StripeJob). HasAddRoom ins (1 + n) i.update) (λ i. HasAddRoom ins n i.update) (λ i h. HasAddRoom-le ins n (1 + n) i.update (omega arith) h) js rest;
      })
    ]
  where
    suc-one : (m : ℕ) → 1 + m ≡ suc m
    suc-one m = omega arith

pub CanAdd-after : (ins : List RowView) (xs ys : List StripeJob) → CanAdd ins (xs ++ ys) → CanAdd (fold with_added ins xs) ys
CanAdd-after ins [] ys can = can
CanAdd-after ins (x ∷ xs) ys can = CanAdd-after (with_added ins x) xs ys (CanAdd-next ins x (xs ++ ys) can)

-- there is room for the job at a place
pub CanAdd-at : (ins : List RowView) (jobs : List StripeJob) (i : ℕ) (j : StripeJob) → CanAdd ins jobs → i < length jobs → get_or jobs i j ≡ j
    → HasAddRoom (fold with_added ins (take i jobs)) 1 j.update
CanAdd-at ins jobs i j can lt read =
    let rest = drop (i + 1) jobs in
    let here = CanAdd-after ins (take i jobs) (j ∷ rest) (subst (CanAdd ins) (list-split jobs i j lt read) can) in
    let room = All-head (λ (x : StripeJob). HasAddRoom (fold with_added ins (take i jobs)) (length (j ∷ rest)) x.update) j rest here.room in
    HasAddRoom-le (fold with_added ins (take i jobs)) 1 (length (j ∷ rest)) j.update (omega arith) room

-- one job more
pub fold-at : {Y : Type 0} (f : Y → StripeJob → Y) (a : Y) (jobs : List StripeJob) (i : ℕ) (j : StripeJob) → i < length jobs → get_or jobs i j ≡ j
    → fold f a (take (i + 1) jobs) ≡ f (fold f a (take i jobs)) j
fold-at f a jobs i j lt read = fold_more f a jobs i j lt ∙ ap (f (fold f a (take i jobs))) read

-- Copies that are taken

HasInRow-length : (ins new : List RowView) (update : Update) → length new ≡ length ins → HasInRow ins update → HasInRow new update
HasInRow-length ins new (DelE u v w) size lt = omega arith
HasInRow-length ins new (AddV x) size lt = tt
HasInRow-length ins new (DelV x) size lt = tt
HasInRow-length ins new (AddE u v w) size lt = tt
HasInRow-length ins new (SetW u v w w2) size lt = tt

copy_taken-ascending : (ins : List RowView) (update : Update) → ((v : ℕ) → IsAscending (row_at ins v).items) → HasInRow ins update → (v : ℕ) → IsAscending (row_at (copy_taken ins update) v).items
copy_taken-ascending ins (DelE u v w) ascending lt = fewer-ascending ins v u w lt ascending
copy_taken-ascending ins (AddV x) ascending lt = ascending
copy_taken-ascending ins (DelV x) ascending lt = ascending
copy_taken-ascending ins (AddE u v w) ascending lt = ascending
copy_taken-ascending ins (SetW u v w w2) ascending lt = ascending

length-copy_taken : (ins : List RowView) (update : Update) → length (copy_taken ins update) ≡ length ins
length-copy_taken ins (DelE u v w) = length-set ins v (removed (row_at ins v) u w)
length-copy_taken ins (AddV x) = refl
length-copy_taken ins (DelV x) = refl
length-copy_taken ins (AddE u v w) = refl
length-copy_taken ins (SetW u v w w2) = refl

pub CanTake-next : (ins : List RowView) (j : StripeJob) (js : List StripeJob) → CanTake ins (j ∷ js) → CanTake (with_taken ins j) js
CanTake-next ins j js can =
    let limits = All-tail (λ (i : StripeJob). first_past_limit (greatest_of Two) i.update ≡ None) j js can.limits in
    let first = All-head (λ (i : StripeJob). HasInRow ins i.update) j js can.rows in
    let rest = All-tail (λ (i : StripeJob). HasInRow ins i.update) j js can.rows in
    elim (cases_Bool (is_applied j)) [
      | inl applied ↦ rw applied (record {
        ascending = copy_taken-ascending ins j.update can.ascending first;
        limits = limits;
        rows = All-weaker (λ (i : StripeJob). HasInRow ins i.update) (λ i. HasInRow (copy_taken ins j.update) i.update)
            (λ i h. HasInRow-length ins (copy_taken ins j.update) i.update (length-copy_taken ins j.update) h) js rest;
      })
      | inr kept ↦ rw kept (record { ascending = can.ascending; limits = limits; rows = rest })
    ]

pub CanTake-after : (ins : List RowView) (xs ys : List StripeJob) → CanTake ins (xs ++ ys) → CanTake (fold with_taken ins xs) ys
CanTake-after ins [] ys can = can
CanTake-after ins (x ∷ xs) ys can = CanTake-after (with_taken ins x) xs ys (CanTake-next ins x (xs ++ ys) can)

pub CanTake-at : (ins : List RowView) (jobs : List StripeJob) (i : ℕ) (j : StripeJob) → CanTake ins jobs → i < length jobs → get_or jobs i j ≡ j
    → HasInRow (fold with_taken ins (take i jobs)) j.update
CanTake-at ins jobs i j can lt read =
    let rest = drop (i + 1) jobs in
    let here = CanTake-after ins (take i jobs) (j ∷ rest) (subst (CanTake ins) (list-split jobs i j lt read) can) in
    All-head (λ (x : StripeJob). HasInRow (fold with_taken ins (take i jobs)) x.update) j rest here.rows

-- Verdicts

pub length-told : (verdicts : List Verdict) (jobs : List StripeJob) → length (fold with_told verdicts jobs) ≡ length verdicts
length-told verdicts [] = refl
length-told verdicts (j ∷ js) = length-told (set verdicts j.session j.verdict) js ∙ length-set verdicts j.session j.verdict

-- in a table of verdicts a session that no job has keeps its own
told-kept : (verdicts : List Verdict) (jobs : List StripeJob) (x : ℕ) → All (λ j. j.session ≢ x) jobs → get_or (fold with_told verdicts jobs) x Waiting ≡ get_or verdicts x Waiting
told-kept verdicts [] x others = refl
told-kept verdicts (j ∷ js) x others =
    told-kept (set verdicts j.session j.verdict) js x (All-tail (λ (i : StripeJob). i.session ≢ x) j js others)
    ∙ get_or-set_other verdicts j.session x j.verdict Waiting (λ e. All-head (λ (i : StripeJob). i.session ≢ x) j js others (sym e))

-- and each job has its verdict there, where each session has one job at most
pub told-each : (verdicts : List Verdict) (jobs : List StripeJob) → All (λ j. j.session < length verdicts) jobs → ((x : ℕ) → count_by (λ j. j.session == x) jobs ≤ 1)
    → All (λ j. get_or (fold with_told verdicts jobs) j.session Waiting ≡ j.verdict) jobs
told-each verdicts [] within once = All-nil (λ j. get_or verdicts j.session Waiting ≡ j.verdict)
told-each verdicts (j ∷ js) within once =
    let next = set verdicts j.session j.verdict in
    let size = length-set verdicts j.session j.verdict in
    let lt = All-head (λ (i : StripeJob). i.session < length verdicts) j js within in
    let counts = λ (x : ℕ). count_by-cons (λ (i : StripeJob). i.session == x) j js in
    let others : All (λ i. i.session ≢ j.session) js = λ k d less e. (
    let whole = counts j.session in
    let one : one_if (j.session == j.session) ≡ 1 = rw (eq-eqb j.session j.session refl) refl in
    let few = once j.session in
    let most = get_or-le-sum_by (λ (i : StripeJob). one_if (i.session == j.session)) js k d less in
    let two : one_if ((get_or js k d).session == j.session) ≡ 1 = rw (eq-eqb (get_or js k d).session j.session e) refl in
    omega arith) in
    All-cons (λ i. get_or (fold with_told next js) i.session Waiting ≡ i.verdict) j js
    (told-kept next js j.session others ∙ get_or-set_same verdicts j.session j.verdict Waiting lt)
    (told-each next js (subst (λ n. All (λ (i : StripeJob). i.session < n) js) (sym size) (All-tail (λ (i : StripeJob). i.session < length verdicts) j js within))
    (λ x. (let whole = counts x in let few = once x in omega arith)))

-- jobs of other sessions keep theirs
pub told-others : (verdicts : List Verdict) (jobs others : List StripeJob) → All (λ j. All (λ i. i.session ≢ j.session) jobs) others → All (λ j. get_or verdicts j.session Waiting ≡ j.verdict) others
    → All (λ j. get_or (fold with_told verdicts jobs) j.session Waiting ≡ j.verdict) others
told-others verdicts jobs others apart told k d lt = told-kept verdicts jobs (get_or others k d).session (apart k d lt) ∙ told k d lt

-- The copies after all jobs

turned_test : (v b u a w x : ℕ) → ((v == b) && (u == a) && (w == x)) ≡ ((u == a) && (v == b) && (w == x))
turned_test v b u a w x = grind (arith, nat_tests)

copy_added-copies : (ins : List RowView) (n : ℕ) (update : Update) (u v w : ℕ) → ((k : ℕ) → IsAscending (row_at ins k).items) → HasAddRoom ins n update
    → copies_of (row_at (copy_added ins update) v).items u w ≡ copies_of (row_at ins v).items u w + one_if (adds_triple (triple u v w) update)
copy_added-copies ins n (AddE a b x) u v w ascending room =
    more-copies ins b a x room.0 ascending v u w ∙ ap (λ t. copies_of (row_at ins v).items u w + one_if t) (turned_test v b u a w x)
copy_added-copies ins n (AddV x) u v w ascending room = omega arith
copy_added-copies ins n (DelV x) u v w ascending room = omega arith
copy_added-copies ins n (DelE a b x) u v w ascending room = omega arith
copy_added-copies ins n (SetW a b x x2) u v w ascending room = omega arith

copy_taken-copies : (ins : List RowView) (update : Update) (u v w : ℕ) → ((k : ℕ) → IsAscending (row_at ins k).items) → HasInRow ins update
    → copies_of (row_at (copy_taken ins update) v).items u w ≡ copies_of (row_at ins v).items u w - one_if (takes_triple (triple u v w) update)
copy_taken-copies ins (DelE a b x) u v w ascending lt =
    fewer-copies ins b a x lt ascending v u w ∙ ap (λ t. copies_of (row_at ins v).items u w - one_if t) (turned_test v b u a w x)
copy_taken-copies ins (AddV x) u v w ascending lt = omega arith
copy_taken-copies ins (DelV x) u v w ascending lt = omega arith
copy_taken-copies ins (AddE a b x) u v w ascending lt = omega arith
copy_taken-copies ins (SetW a b x x2) u v w ascending lt = omega arith

with_added-copies : (ins : List RowView) (n : ℕ) (j : StripeJob) (u v w : ℕ) → ((k : ℕ) → IsAscending (row_at ins k).items) → HasAddRoom ins n j.update
    → copies_of (row_at (with_added ins j) v).items u w ≡ copies_of (row_at ins v).items u w + one_if (is_applied j && adds_triple (triple u v w) j.update)
with_added-copies ins n j u v w ascending room =
    elim (cases_Bool (is_applied j)) [
      | inl applied ↦ rw applied (copy_added-copies ins n j.update u v w ascending room)
      | inr kept ↦ rw kept (omega arith)
    ]

with_taken-copies : (ins : List RowView) (j : StripeJob) (u v w : ℕ) → ((k : ℕ) → IsAscending (row_at ins k).items) → HasInRow ins j.update
    → copies_of (row_at (with_taken ins j) v).items u w ≡ copies_of (row_at ins v).items u w - one_if (is_applied j && takes_triple (triple u v w) j.update)
with_taken-copies ins j u v w ascending lt =
    elim (cases_Bool (is_applied j)) [
      | inl applied ↦ rw applied (copy_taken-copies ins j.update u v w ascending lt)
      | inr kept ↦ rw kept (omega arith)
    ]

pub added-copies : (ins : List RowView) (jobs : List StripeJob) (u v w : ℕ) → CanAdd ins jobs
    → copies_of (row_at (fold with_added ins jobs) v).items u w ≡ copies_of (row_at ins v).items u w + adds (triple u v w) jobs
added-copies ins [] u v w can = omega arith
added-copies ins (j ∷ js) u v w can =
    let room = All-head (λ (i : StripeJob). HasAddRoom ins (length (j ∷ js)) i.update) j js can.room in
    let first = with_added-copies ins (length (j ∷ js)) j u v w can.ascending room in
    let rest = added-copies (with_added ins j) js u v w (CanAdd-next ins j js can) in
    let whole = count_by-cons (λ (i : StripeJob). is_applied i && adds_triple (triple u v w) i.update) j js in
    omega (arith, first, rest, whole)

pub taken-copies : (ins : List RowView) (jobs : List StripeJob) (u v w : ℕ) → CanTake ins jobs
    → copies_of (row_at (fold with_taken ins jobs) v).items u w ≡ copies_of (row_at ins v).items u w - takes (triple u v w) jobs
taken-copies ins [] u v w can = omega arith
taken-copies ins (j ∷ js) u v w can =
    let first = with_taken-copies ins j u v w can.ascending (All-head (λ (i : StripeJob). HasInRow ins i.update) j js can.rows) in
    let rest = taken-copies (with_taken ins j) js u v w (CanTake-next ins j js can) in
    let whole = count_by-cons (λ (i : StripeJob). is_applied i && takes_triple (triple u v w) i.update) j js in
    omega (arith, first, rest, whole)

length-copy_added : (ins : List RowView) (update : Update) → length (copy_added ins update) ≡ length ins
length-copy_added ins (AddE u v w) = length-set ins v (inserted (row_at ins v) u w)
length-copy_added ins (AddV x) = refl
length-copy_added ins (DelV x) = refl
length-copy_added ins (DelE u v w) = refl
length-copy_added ins (SetW u v w w2) = refl

pub length-added : (ins : List RowView) (jobs : List StripeJob) → length (fold with_added ins jobs) ≡ length ins
length-added ins [] = refl
length-added ins (j ∷ js) =
    length-added (with_added ins j) js
    ∙ elim (cases_Bool (is_applied j)) [ inl applied ↦ rw applied (length-copy_added ins j.update) | inr kept ↦ rw kept refl ]

pub length-taken : (ins : List RowView) (jobs : List StripeJob) → length (fold with_taken ins jobs) ≡ length ins
length-taken ins [] = refl
length-taken ins (j ∷ js) =
    length-taken (with_taken ins j) js
    ∙ elim (cases_Bool (is_applied j)) [ inl applied ↦ rw applied (length-copy_taken ins j.update) | inr kept ↦ rw kept refl ]

-- the jobs that take copies have their in rows after copies were added too
pub CanTake-added : (ins : List RowView) (jobs : List StripeJob) → CanAdd ins jobs → All (λ j. HasInRow ins j.update) jobs → CanTake (fold with_added ins jobs) jobs
CanTake-added ins jobs can rows = record {
  ascending = (CanAdd-after ins jobs [] (rw append-nil can)).ascending;
  limits = can.limits;
  rows = All-weaker (λ (j : StripeJob). HasInRow ins j.update) (λ j. HasInRow (fold with_added ins jobs) j.update)
      (λ j h. HasInRow-length ins (fold with_added ins jobs) j.update (length-added ins jobs) h) jobs rows;
}
