-- Who stands where in a turn, and who is told what, as single seats change.
use Rattle.std.proofs.Common.{◌≡◌, ◌≢◌, ℕ, ◌⊎◌, inl, inr, List, [], ◌∷◌, ◌++◌, map, Some, refl, sym, subst, ap, ◌∙◌}
use Rattle.std.specs.List.{Contains}
use Rattle.std.proofs.lemmas.Bool.{cases_eq}
use Rattle.std.proofs.lemmas.List.{map-append}
use Rattle.std.proofs.lemmas.List.Elements.{Contains-append_cases, Contains-append_left, Contains-append_right}
use Rattle.ris_base.specs.Epoch.{IsOf, Resolved}
use Rattle.ris_base.specs.Graph.{EachOnce}
use Rattle.ris_base.specs.Machine.{Known, Queued, Seat, Stand, asked_by, next_of, session_by, told_seat, with_seat}
use Rattle.ris_base.specs.declared.replies.LogLine.TheVariants.{Reply}
use Rattle.ris_base.specs.declared.replies.Outcome.{Outcome}
use Rattle.ris_base.specs.declared.requests.Request.{Request}
use Rattle.ris_base.proofs.ListLemmas.{Contains-cases, Contains-first, Contains-none, Contains-one, Contains-rest, EachOnce-cons, EachOnce-head, EachOnce-nil, EachOnce-push, EachOnce-tail}
use Rattle.ris_legal.proofs.Books.{put}
use Rattle.ris_legal.proofs.Sealing.{with_seat-here, with_seat-other}
use Rattle.ris_epoch.specs.Account.{resolved}

-- Lists

-- what a list has, the mapped list has mapped
pub Contains-mapped : {X Y : Type 0} (f : X → Y) (xs : List X) (x : X) → Contains xs x → Contains (map f xs) (f x)
Contains-mapped f [] x h = absurd (Contains-none x h)
Contains-mapped f (y ∷ xs) x h = elim (Contains-cases y xs x h) [
  | inl first ↦ subst (λ (z : _). Contains (f y ∷ map f xs) (f z)) first (Contains-first (f y) (map f xs))
  | inr later ↦ Contains-rest (f y) (map f xs) (f x) (Contains-mapped f xs x later)
]

-- what a mapped list has, comes from the list
pub Contains-map : {X Y : Type 0} (f : X → Y) (xs : List X) (y : Y) → Contains (map f xs) y → (x : X) × Contains xs x × (f x ≡ y)
Contains-map f [] y h = absurd (Contains-none y h)
Contains-map f (x ∷ xs) y h = elim (Contains-cases (f x) (map f xs) y h) [
  | inl first ↦ (x, Contains-first x xs, first)
  | inr later ↦ (let more = Contains-map f xs y later in (more.0, Contains-rest x xs more.0 more.1, more.2))
]

-- of what has its key once, two items with one key are one
pub same-key : {X : Type 0} (f : X → ℕ) (xs : List X) (x y : X) → EachOnce (map f xs) → Contains xs x → Contains xs y → f x ≡ f y → x ≡ y
same-key f [] x y once a b same = absurd (Contains-none x a)
same-key f (z ∷ xs) x y once a b same = elim (Contains-cases z xs x a) [
  | inl first ↦ elim (Contains-cases z xs y b) [
    | inl other ↦ sym first ∙ other
    | inr later ↦ absurd (EachOnce-head (f z) (map f xs) once (subst (λ (n : ℕ). Contains (map f xs) n) (sym same ∙ sym (ap f first)) (Contains-mapped f xs y later)))
  ]
  | inr later ↦ elim (Contains-cases z xs y b) [
    | inl first ↦ absurd (EachOnce-head (f z) (map f xs) once (subst (λ (n : ℕ). Contains (map f xs) n) (same ∙ sym (ap f first)) (Contains-mapped f xs x later)))
    | inr other ↦ same-key f xs x y (EachOnce-tail (f z) (map f xs) once) later other same
  ]
]

-- what has its key once in two lists in turn has it once in each
pub once-left : {X : Type 0} (f : X → ℕ) (xs ys : List X) → EachOnce (map f (xs ++ ys)) → EachOnce (map f xs)
once-left f [] ys once = EachOnce-nil
once-left f (x ∷ xs) ys once =
    EachOnce-cons (f x) (map f xs)
    (λ h. EachOnce-head (f x) (map f (xs ++ ys)) once (subst (λ (ns : List ℕ). Contains ns (f x)) (sym (map-append f xs ys)) (Contains-append_left (map f xs) (map f ys) (f x) h)))
    (once-left f xs ys (EachOnce-tail (f x) (map f (xs ++ ys)) once))

-- and in the second
pub once-right : {X : Type 0} (f : X → ℕ) (xs ys : List X) → EachOnce (map f (xs ++ ys)) → EachOnce (map f ys)
once-right f [] ys once = once
once-right f (x ∷ xs) ys once = once-right f xs ys (EachOnce-tail (f x) (map f (xs ++ ys)) once)

-- Who stands where

-- a seat stands here with a request that has no reply
pub record IsSeatOf (stand : Stand) (r : Request) (x : Seat) : Type 0 where
  pub here : x.stand ≡ stand
  pub next : next_of x ≡ Some (asked_by r)
  pub none : x.replies ≡ []

-- those who stand here are the sessions of these requests of the batch
pub record Standing (batch : List Request) (seats : ℕ → Seat) (stand : Stand) (rs : List Request) : Type 0 where
  pub once : EachOnce (map session_by rs)
  pub known : (r : Request) → Contains rs r → Contains batch r
  pub each : (r : Request) → Contains rs r → IsSeatOf stand r (seats (session_by r))
  pub all : (n : ℕ) → (seats n).stand ≡ stand → Contains (map session_by rs) n

-- the same requests in another order
pub standing-same : (batch : List Request) (seats : ℕ → Seat) (stand : Stand) (rs ts : List Request) → Standing batch seats stand rs
    → EachOnce (map session_by ts) → ((r : Request) → Contains rs r → Contains ts r) → ((r : Request) → Contains ts r → Contains rs r)
    → Standing batch seats stand ts
standing-same batch seats stand rs ts h once to from = record {
  once = once;
  known = λ r at. h.known r (from r at);
  each = λ r at. h.each r (from r at);
  all = λ n is. (let r = Contains-map session_by rs n (h.all n is) in
      subst (λ (m : ℕ). Contains (map session_by ts) m) r.2 (Contains-mapped session_by ts r.0 (to r.0 r.1)));
}

module _ (batch : List Request) (seats : ℕ → Seat) (s : ℕ) (y : Seat) where
  -- a seat that stands elsewhere before and after changes nothing here
  pub standing-kept : (stand : Stand) (rs : List Request) → Standing batch seats stand rs → (seats s).stand ≢ stand → y.stand ≢ stand
      → Standing batch (with_seat seats s y) stand rs
  standing-kept stand rs h before after = record {
    once = h.once;
    known = h.known;
    each = λ r at. put (λ (n : ℕ) (x : Seat). (r : Request) → Contains rs r → session_by r ≡ n → IsSeatOf stand r x) seats s y
        (λ r at is. absurd (before (subst (λ (n : ℕ). (seats n).stand ≡ stand) is (h.each r at).here)))
        (λ n r at is. subst (λ (m : ℕ). IsSeatOf stand r (seats m)) is (h.each r at)) (session_by r) r at refl;
    all = put (λ (n : ℕ) (x : Seat). x.stand ≡ stand → Contains (map session_by rs) n) seats s y (λ is. absurd (after is)) h.all;
  }

  -- the seat of the first request leaves
  pub standing-left : (stand : Stand) (r : Request) (rs : List Request) → Standing batch seats stand (r ∷ rs) → session_by r ≡ s → y.stand ≢ stand
      → Standing batch (with_seat seats s y) stand rs
  standing-left stand r rs h own after = record {
    once = EachOnce-tail (session_by r) (map session_by rs) h.once;
    known = λ x at. h.known x (Contains-rest r rs x at);
    each = λ x at. put (λ (n : ℕ) (z : Seat). (x : Request) → Contains rs x → session_by x ≡ n → IsSeatOf stand x z) seats s y
        (λ x at is. absurd (EachOnce-head (session_by r) (map session_by rs) h.once
        (subst (λ (n : ℕ). Contains (map session_by rs) n) (is ∙ sym own) (Contains-mapped session_by rs x at))))
        (λ n x at is. subst (λ (m : ℕ). IsSeatOf stand x (seats m)) is (h.each x (Contains-rest r rs x at))) (session_by x) x at refl;
    all = λ n is. elim (cases_eq n s) [
      | inl here ↦ absurd (after (sym (ap (λ (z : Seat). z.stand) (ap (with_seat seats s y) here ∙ with_seat-here seats s y)) ∙ is))
      | inr other ↦ elim (Contains-cases (session_by r) (map session_by rs) n (h.all n (sym (ap (λ (z : Seat). z.stand) (with_seat-other seats s y n other)) ∙ is))) [
        | inl first ↦ absurd (other (sym first ∙ own))
        | inr later ↦ later
      ]
    ];
  }

  -- a seat that stood elsewhere comes to stand here, with a request of the batch
  pub standing-joined : (stand : Stand) (r : Request) (rs : List Request) → Standing batch seats stand rs → session_by r ≡ s → (seats s).stand ≢ stand
      → Contains batch r → IsSeatOf stand r y → Standing batch (with_seat seats s y) stand (rs ++ r ∷ [])
  standing-joined stand r rs h own before known is = record {
    once = subst EachOnce (sym (map-append session_by rs (r ∷ []))) (EachOnce-push (map session_by rs) (session_by r) h.once absent);
    known = λ x at. elim (Contains-append_cases rs (r ∷ []) x at) [
      | inl old ↦ h.known x old
      | inr new ↦ subst (λ (z : Request). Contains batch z) (Contains-one r x new) known
    ];
    each = λ x at. elim (Contains-append_cases rs (r ∷ []) x at) [
      | inl old ↦ subst (λ (z : Seat). IsSeatOf stand x z) (sym (with_seat-other seats s y (session_by x) (λ same. before (subst (λ (n : ℕ). (seats n).stand ≡ stand) same (h.each x old).here)))) (h.each x old)
      | inr new ↦ subst (λ (z : Request). IsSeatOf stand z (with_seat seats s y (session_by z))) (Contains-one r x new)
          (subst (λ (z : Seat). IsSeatOf stand r z) (sym (ap (with_seat seats s y) own ∙ with_seat-here seats s y)) is)
    ];
    all = λ n here. subst (λ (ns : List ℕ). Contains ns n) (sym (map-append session_by rs (r ∷ []))) (elim (cases_eq n s) [
      | inl last ↦ Contains-append_right (map session_by rs) (session_by r ∷ []) n (subst (λ (m : ℕ). Contains (session_by r ∷ []) m) (own ∙ sym last) (Contains-first (session_by r) []))
      | inr other ↦ Contains-append_left (map session_by rs) (session_by r ∷ []) n (h.all n (sym (ap (λ (z : Seat). z.stand) (with_seat-other seats s y n other)) ∙ here))
    ]);
  }
    where
      absent : ¬ (Contains (map session_by rs) (session_by r))
      absent at = let x = Contains-map session_by rs (session_by r) at in
          before (subst (λ (n : ℕ). (seats n).stand ≡ stand) (x.2 ∙ own) (h.each x.0 x.1).here)

-- Who is told what

-- an outcome of a request of the batch, which its session was told
pub record IsTold (batch : List Request) (seats : ℕ → Seat) (o : Resolved) : Type 0 where
  pub request : Request
  pub known : Contains batch request
  pub of : IsOf request o
  pub done : (seats o.session).stand ≡ Queued
  pub knew : ℕ
  pub replies : (seats o.session).replies ≡ record { reply = Reply o.outcome; knew = knew } ∷ []

-- an outcome of a request
pub record HasOutcome (outcomes : List Resolved) (r : Request) : Type 0 where
  pub outcome : Resolved
  pub here : Contains outcomes outcome
  pub of : IsOf r outcome

-- each session was told at most one outcome, and each request of the batch has an outcome or stands out of the queue
pub record Ledger (batch : List Request) (seats : ℕ → Seat) (outcomes : List Resolved) : Type 0 where
  pub once : EachOnce (map (λ o. o.session) outcomes)
  pub each : (o : Resolved) → Contains outcomes o → IsTold batch seats o
  pub all : (r : Request) → Contains batch r → HasOutcome outcomes r ⊎ ((seats (session_by r)).stand ≢ Queued)

module _ (batch : List Request) (seats : ℕ → Seat) (outcomes : List Resolved) (h : Ledger batch seats outcomes) (s : ℕ) (out : (seats s).stand ≢ Queued) where
  -- a seat that stays out of the queue changes nothing of it
  told-still : (y : Seat) (o : Resolved) → Contains outcomes o → IsTold batch (with_seat seats s y) o
  told-still y o at =
      let t = h.each o at in
      let same : with_seat seats s y o.session ≡ seats o.session = with_seat-other seats s y o.session (λ same. out (subst (λ (n : ℕ). (seats n).stand ≡ Queued) same t.done)) in
      record {
        request = t.request;
        known = t.known;
        of = t.of;
        done = ap (λ (z : Seat). z.stand) same ∙ t.done;
        knew = t.knew;
        replies = ap (λ (z : Seat). z.replies) same ∙ t.replies;
      }

  -- a seat that stays out of the queue changes no outcome
  pub ledger-kept : (y : Seat) → y.stand ≢ Queued → Ledger batch (with_seat seats s y) outcomes
  ledger-kept y still = record {
    once = h.once;
    each = told-still y;
    all = λ r at. elim (h.all r at) [
      | inl done ↦ inl done
      | inr away ↦ inr (put (λ (n : ℕ) (x : Seat). (seats n).stand ≢ Queued → x.stand ≢ Queued) seats s y (λ f. still) (λ n f. f) (session_by r) away)
    ];
  }

  -- a request out of the queue is told its outcome
  pub ledger-told : (r : Request) (told : Outcome) (knew : ℕ) → EachOnce (map session_by batch) → Contains batch r → session_by r ≡ s → (seats s).replies ≡ []
      → Ledger batch (with_seat seats s (told_seat (seats s) (Reply told) knew)) (outcomes ++ resolved r told ∷ [])
  ledger-told r told knew single known own none = record {
    once = subst EachOnce (sym (map-append (λ (o : Resolved). o.session) outcomes (resolved r told ∷ [])))
        (EachOnce-push (map (λ (o : Resolved). o.session) outcomes) (session_by r) h.once absent);
    each = λ o at. elim (Contains-append_cases outcomes (resolved r told ∷ []) o at) [
      | inl old ↦ told-still y o old
      | inr new ↦ subst (λ (z : Resolved). IsTold batch (with_seat seats s y) z) (Contains-one (resolved r told) o new) (record {
        request = r;
        known = known;
        of = (refl, refl);
        done = ap (λ (z : Seat). z.stand) own_seat;
        knew = knew;
        replies = ap (λ (z : Seat). z.replies) own_seat ∙ ap (λ (ks : List Known). ks ++ record { reply = Reply told; knew = knew } ∷ []) none;
      })
    ];
    all = λ x at. elim (h.all x at) [
      | inl done ↦ inl (record { outcome = done.outcome; here = Contains-append_left outcomes (resolved r told ∷ []) done.outcome done.here; of = done.of })
      | inr away ↦ elim (cases_eq (session_by x) s) [
        | inl same ↦ inl (record {
          outcome = resolved r told;
          here = Contains-append_right outcomes (resolved r told ∷ []) (resolved r told) (Contains-first (resolved r told) []);
          of = subst (λ (z : Request). IsOf z (resolved r told)) (same-key session_by batch r x single known at (own ∙ sym same)) (refl, refl);
        })
        | inr other ↦ inr (λ is. away (sym (ap (λ (z : Seat). z.stand) (with_seat-other seats s y (session_by x) other)) ∙ is))
      ]
    ];
  }
    where
      y : Seat
      y = told_seat (seats s) (Reply told) knew

      own_seat : with_seat seats s y (session_by r) ≡ y
      own_seat = ap (with_seat seats s y) own ∙ with_seat-here seats s y

      absent : ¬ (Contains (map (λ (o : Resolved). o.session) outcomes) (session_by r))
      absent at = let o = Contains-map (λ (o : Resolved). o.session) outcomes (session_by r) at in
          out (subst (λ (n : ℕ). (seats n).stand ≡ Queued) (o.2 ∙ own) (h.each o.0 o.1).done)
