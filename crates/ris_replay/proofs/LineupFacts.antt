-- What the loops over sessions, records and replies keep.
use Rattle.std.proofs.Common.{◌≡◌, ℕ, zero, suc, ◌+◌, ◌<◌, ◌≤◌, inl, inr, nat_le, Bool, true, if◌then◌else◌, List, [], ◌∷◌, ◌++◌, length, map, take, drop, get_or, set, Some, None, Result, Ok, Err, arith, refl, sym, subst, ap, ◌∙◌}
use Rattle.std.specs.Prelude.{sum_by, OnOk, IsErr, ◌↔◌}
use Rattle.std.specs.List.{All, Contains, fold, list_any, slice_get}
use Rattle.std.proofs.lemmas.Bool.{cases_lt, le-leb}
use Rattle.std.proofs.lemmas.List.{get_or_read, length-map, length-take, length-take-le, get_or-take, get_or_past}
use Rattle.std.proofs.Math.ListN.{get_or-map}
use Rattle.std.proofs.lemmas.List.Elements.{All-head, All-nil, All-tail}
use Rattle.std.proofs.lemmas.List.Sums.{sum_by-set}
use Rattle.std.proofs.lemmas.Option.{get_or_from_slice_get, slice_get_within}
use Rattle.ris_base.specs.Epoch.{Resolved}
use Rattle.ris_base.specs.Machine.{session_by}
use Rattle.ris_base.specs.declared.records.Record.{Record}
use Rattle.ris_base.specs.declared.requests.Request.{Request}
use Rattle.ris_base.proofs.ListLemmas.{Contains-first, list_any-from_passing}
use Rattle.ris_epoch.specs.DriverView.{DriverView}
use Rattle.ris_epoch.specs.Ordering.{inserted_by}
use Rattle.ris_history.specs.Applied.{applied}
use Rattle.ris_history.specs.HistoryView.{HistoryView}
use Rattle.ris_rounds.specs.Rounds.{Fits, batch_of, player_in, told_player}
use Rattle.ris_rounds.proofs.Batches.{batch-there, fronts-batch}
use Rattle.ris_session.specs.PlayerView.{PlayerView, after_reply, player_of}
use Rattle.ris_replay.specs.RoundsView.{AllFit, AreOwn, IsDrained, unreplied}

-- The batch

-- the queues of which the first n have given their first request
abbrev pub taken_of : ℕ → List (List Request) → List (List Request)
taken_of n queues = map (drop 1) (take n queues) ++ drop n queues

pub taken-at : (n : ℕ) (queues : List (List Request)) → get_or (taken_of n queues) n [] ≡ get_or queues n []
taken-at zero queues = refl
taken-at (suc n) [] = refl
taken-at (suc n) (q ∷ queues) = taken-at n queues

pub taken-next : (n : ℕ) (queues : List (List Request)) → n < length queues → set (taken_of n queues) n (drop 1 (get_or queues n [])) ≡ taken_of (suc n) queues
taken-next n [] less = absurd (omega arith)
taken-next zero (q ∷ queues) less = refl
taken-next (suc n) (q ∷ queues) less = ap (λ (qs : List (List Request)). drop 1 q ∷ qs) (taken-next n queues (omega arith))

pub taken-all : (queues : List (List Request)) → taken_of (length queues) queues ≡ map (drop 1) queues
taken-all [] = refl
taken-all (q ∷ queues) = ap (λ (qs : List (List Request)). drop 1 q ∷ qs) (taken-all queues)

pub taken-length : (n : ℕ) (queues : List (List Request)) → length (taken_of n queues) ≡ length queues
taken-length zero queues = refl
taken-length (suc n) [] = refl
taken-length (suc n) (q ∷ queues) = ap suc (taken-length n queues)

-- the batch of one queue more
pub batch-some : (n : ℕ) (queues : List (List Request)) (r : Request) → n < length queues → slice_get (get_or queues n []) 0 ≡ Some r
    → batch_of (take (suc n) queues) ≡ batch_of (take n queues) ++ r ∷ []
batch-some n [] r less at = absurd (omega arith)
batch-some zero ([] ∷ queues) r less at = absurd (let w : None ≡ Some r = at in cc)
batch-some zero ((x ∷ q) ∷ queues) r less at = let same : x ≡ r = (let w : Some x ≡ Some r = at in cc) in ap (λ (y : Request). y ∷ []) same
batch-some (suc n) ([] ∷ queues) r less at = batch-some n queues r (omega arith) at
batch-some (suc n) ((x ∷ q) ∷ queues) r less at = ap (λ (rs : List Request). x ∷ rs) (batch-some n queues r (omega arith) at)

pub batch-none : (n : ℕ) (queues : List (List Request)) → slice_get (get_or queues n []) 0 ≡ None → batch_of (take (suc n) queues) ≡ batch_of (take n queues)
batch-none n [] at = go n
  where
    go : (k : ℕ) → batch_of (take (suc k) []) ≡ batch_of (take k [])
    go zero = refl
    go (suc k) = refl
batch-none zero ([] ∷ queues) at = refl
batch-none zero ((x ∷ q) ∷ queues) at = absurd (let w : Some x ≡ None = at in cc)
batch-none (suc n) ([] ∷ queues) at = batch-none n queues at
batch-none (suc n) ((x ∷ q) ∷ queues) at = ap (λ (rs : List Request). x ∷ rs) (batch-none n queues at)

pub batch-all : (queues : List (List Request)) → batch_of (take (length queues) queues) ≡ batch_of queues
batch-all [] = refl
batch-all ([] ∷ queues) = batch-all queues
batch-all ((x ∷ q) ∷ queues) = ap (λ (rs : List Request). x ∷ rs) (batch-all queues)

-- the first queues are their own
own-first : (n : ℕ) (queues : List (List Request)) → AreOwn queues → AreOwn (take n queues)
own-first n queues own = λ m. elim (cases_lt m n) [
  | inl less ↦ subst (λ (q : List Request). All (λ r. session_by r ≡ m) q) (sym (get_or-take n queues m [] less)) (own m)
  | inr past ↦ (let few = length-take n queues in
      subst (λ (q : List Request). All (λ r. session_by r ≡ m) q) (sym (get_or_past (take n queues) m [] (omega arith))) (All-nil (λ r. session_by r ≡ m)))
]

-- the requests of the first n queues are of lesser sessions
pub batch-low : (n : ℕ) (queues : List (List Request)) → AreOwn queues → n ≤ length queues → All (λ r. session_by r < n) (batch_of (take n queues))
batch-low n queues own less =
    batch-there (take n queues) (batch_of (take n queues)) n (fronts-batch (take n queues) (own-first n queues own)) (length-take-le n queues less)

-- an item is put at the end behind those of lesser keys
pub inserted-last : {X : Type 0} (key : X → ℕ) (xs : List X) (x : X) → All (λ y. key y < key x) xs → inserted_by key xs x ≡ xs ++ x ∷ []
unfolding inserted_by
inserted-last key [] x low = refl
inserted-last {X} key (y ∷ ys) x low =
    let first = All-head (λ z. key z < key x) y ys low in
    let some : list_any (λ z. nat_le (key z) (key x)) (y ∷ ys) ≡ true =
    list_any-from_passing (λ z. nat_le (key z) (key x)) (y ∷ ys) y (Contains-first y ys) (le-leb (key y) (key x) (omega arith)) in
    ap (λ (b : Bool). if b then y ∷ inserted_by key ys x else x ∷ y ∷ ys) some
    ∙ ap (λ (zs : List X). y ∷ zs) (inserted-last key ys x (All-tail (λ z. key z < key x) y ys low))

-- the first n queues have given their first request to the batch
pub record IsFilled (n : ℕ) (old queues : List (List Request)) (batch : List Request) : Type 0 where
  pub queues_are : queues ≡ taken_of n old
  pub batch_is : batch ≡ batch_of (take n old)

pub filled-none : (old : List (List Request)) (batch : List Request) → batch ≡ [] → IsFilled 0 old old batch
filled-none old batch empty = record { queues_are = refl; batch_is = empty }

-- what is no error is so
on-ok : {X Y : Type 0} (result : Result X Y) (P : Type 0) → OnOk result P → ¬ (IsErr result) → P
on-ok (Ok x) P h other = h
on-ok (Err y) P h other = absurd (other refl)

-- the first request of the next queue
pub filled-front : (n : ℕ) (old queues : List (List Request)) (batch : List Request) → IsFilled n old queues batch → get_or queues n [] ≡ get_or old n []
filled-front n old queues batch f = ap (λ (qs : List (List Request)). get_or qs n []) f.queues_are ∙ taken-at n old

-- its session is the queue's
pub filled-session : (n : ℕ) (old queues : List (List Request)) (batch : List Request) (r : Request) → IsFilled n old queues batch → AreOwn old
    → slice_get (get_or queues n []) 0 ≡ Some r → session_by r ≡ n
filled-session n old queues batch r f own at =
    let q : List Request = get_or old n [] in
    let here : slice_get q 0 ≡ Some r = ap (λ (x : List Request). slice_get x 0) (sym (filled-front n old queues batch f)) ∙ at in
    subst (λ (x : Request). session_by x ≡ n) (get_or_from_slice_get q 0 r r here) (own n 0 r (slice_get_within q 0 r here))

-- the next queue without its first request
pub filled-put : (n : ℕ) (old queues : List (List Request)) (batch queue rest : List Request) → IsFilled n old queues batch → n < length old
    → queue ≡ get_or queues n queue → rest ≡ drop 1 queue → (queue ≡ get_or queues n []) × (set queues n rest ≡ set queues n (drop 1 (get_or queues n [])))
filled-put n old queues batch queue rest f less is behind =
    let all = ap length f.queues_are in
    let count = taken-length n old in
    let same = get_or_read queues n queue (omega arith) is [] in
    (same, ap (set queues n) (behind ∙ ap (drop 1) same))

pub filled-some : {X : Type 0} (n : ℕ) (old queues next : List (List Request)) (batch added : List Request) (r : Request) (result : Result X Request)
    → IsFilled n old queues batch → AreOwn old → n < length old → slice_get (get_or queues n []) 0 ≡ Some r
    → next ≡ set queues n (drop 1 (get_or queues n [])) → OnOk result (added ≡ inserted_by session_by batch r)
    → (IsErr result ↔ Contains (map session_by batch) (session_by r)) → IsFilled (n + 1) old next added
filled-some n old queues next batch added r result f own less at is ok held =
    let one : suc n ≡ n + 1 = omega arith in
    let front = filled-front n old queues batch f in
    let number = filled-session n old queues batch r f own at in
    let low : All (λ x. session_by x < session_by r) batch =
    subst (λ (rs : List Request). All (λ x. session_by x < session_by r) rs) (sym f.batch_is)
    (subst (λ (k : ℕ). All (λ x. session_by x < k) (batch_of (take n old))) (sym number) (batch-low n old own (omega arith))) in
    let new : added ≡ inserted_by session_by batch r =
    on-ok result (added ≡ inserted_by session_by batch r) ok (λ bad. none batch low (held.0 bad)) in
    subst (λ (k : ℕ). IsFilled k old next added) one (record {
      queues_are = is ∙ ap (λ (q : List Request). set queues n (drop 1 q)) front
          ∙ ap (λ (qs : List (List Request)). set qs n (drop 1 (get_or old n []))) f.queues_are ∙ taken-next n old less;
      batch_is = new ∙ inserted-last session_by batch r low ∙ ap (λ (rs : List Request). rs ++ r ∷ []) f.batch_is
          ∙ sym (batch-some n old r less (ap (λ (q : List Request). slice_get q 0) (sym front) ∙ at));
    })
  where
    none : (rs : List Request) → All (λ x. session_by x < session_by r) rs → Contains (map session_by rs) (session_by r) → ⊥
    none rs low has =
        let few = length-map rs session_by in
        let within = has.1 in
        let less = low has.0 r (omega arith) in
        let same = get_or-map session_by rs has.0 r in
        let is = has.2 in
        absurd (omega arith)

pub filled-other : (n : ℕ) (old queues next : List (List Request)) (batch : List Request) → IsFilled n old queues batch → n < length old
    → slice_get (get_or queues n []) 0 ≡ None → next ≡ set queues n (drop 1 (get_or queues n [])) → IsFilled (n + 1) old next batch
filled-other n old queues next batch f less at is =
    let one : suc n ≡ n + 1 = omega arith in
    let front = filled-front n old queues batch f in
    subst (λ (k : ℕ). IsFilled k old next batch) one (record {
      queues_are = is ∙ ap (λ (q : List Request). set queues n (drop 1 q)) front
          ∙ ap (λ (qs : List (List Request)). set qs n (drop 1 (get_or old n []))) f.queues_are ∙ taken-next n old less;
      batch_is = f.batch_is ∙ sym (batch-none n old (ap (λ (q : List Request). slice_get q 0) (sym front) ∙ at));
    })

pub filled-all : (n : ℕ) (old queues : List (List Request)) (batch : List Request) → IsFilled n old queues batch → n ≡ length old
    → (batch ≡ batch_of old) × (queues ≡ map (drop 1) old)
filled-all n old queues batch f all = (
  f.batch_is ∙ ap (λ (k : ℕ). batch_of (take k old)) all ∙ batch-all old,
  f.queues_are ∙ ap (λ (k : ℕ). taken_of k old) all ∙ taken-all old,
)

-- The replies

-- each outcome fits where it does behind those before it
pub all-fit : (players : List PlayerView) (outcomes : List Resolved)
    → ((before rest : List Resolved) (o : Resolved) → outcomes ≡ before ++ o ∷ rest → Fits (fold told_player players before) o) → AllFit players outcomes
unfolding AllFit
all-fit players [] h = tt
all-fit players (o ∷ outcomes) h =
    (h [] outcomes o refl, all-fit (told_player players o) outcomes (λ before rest x is. h (o ∷ before) rest x (ap (λ (xs : List Resolved). o ∷ xs) is)))

pub fit-first : (players : List PlayerView) (o : Resolved) (outcomes : List Resolved) → AllFit players (o ∷ outcomes)
    → Fits players o × AllFit (told_player players o) outcomes
unfolding AllFit
fit-first players o outcomes h = h

-- each outcome is the reply to a command that had none
pub told-unreplied : (players : List PlayerView) (outcomes : List Resolved) → AllFit players outcomes
    → sum_by unreplied (fold told_player players outcomes) + length outcomes ≡ sum_by unreplied players
unfolding AllFit
told-unreplied players [] fit = omega arith
told-unreplied players (o ∷ outcomes) fit =
    let more = told-unreplied (told_player players o) outcomes fit.1 in
    let p : PlayerView = player_in players o.session in
    let one = sum_by-set unreplied players o.session (after_reply p o.outcome) (player_of o.session []) fit.0.here in
    let some = fit.0.some in
    omega arith

-- The loops

-- a driver has given some of its records to a history, and nothing else of it changed
pub record IsAbsorbing (first_history : HistoryView) (first_driver : DriverView) (h : HistoryView) (d : DriverView) : Type 0 where
  pub absorbed : fold applied h d.records ≡ fold applied first_history first_driver.records
  pub graph : d.graph ≡ first_driver.graph
  pub jobs : d.jobs ≡ first_driver.jobs
  pub analyses : d.analyses ≡ first_driver.analyses
  pub journal : d.journal ≡ first_driver.journal
  pub opening : d.opening ≡ first_driver.opening
  pub replies : d.replies ≡ first_driver.replies

pub absorbing-none : (h : HistoryView) (d : DriverView) → IsAbsorbing h d h d
absorbing-none h d = record { absorbed = refl; graph = refl; jobs = refl; analyses = refl; journal = refl; opening = refl; replies = refl }

-- what a driver gives with its next record
pub record GivesNext (old new : DriverView) : Type 0 where
  pub rest : new.records ≡ drop 1 old.records
  pub graph : new.graph ≡ old.graph
  pub jobs : new.jobs ≡ old.jobs
  pub analyses : new.analyses ≡ old.analyses
  pub journal : new.journal ≡ old.journal
  pub opening : new.opening ≡ old.opening
  pub replies : new.replies ≡ old.replies

-- the first item of a list and those behind it, or none
pub split-first : {X : Type 0} (xs : List X) (x : X) → slice_get xs 0 ≡ Some x → xs ≡ x ∷ drop 1 xs
split-first [] x at = absurd (cc)
split-first {X} (y ∷ xs) x at = let same : y ≡ x = (let w : Some y ≡ Some x = at in cc) in ap (λ (z : X). z ∷ xs) same

pub nothing-first : {X : Type 0} (xs : List X) → slice_get xs 0 ≡ None → xs ≡ []
nothing-first [] at = refl
nothing-first (x ∷ xs) at = absurd (let w : Some x ≡ None = at in cc)

pub absorbing-more : (h0 h k : HistoryView) (d0 d e : DriverView) (r : Record) → IsAbsorbing h0 d0 h d → slice_get d.records 0 ≡ Some r → GivesNext d e → k ≡ applied h r
    → IsAbsorbing h0 d0 k e
absorbing-more h0 h k d0 d e r before at gives is = record {
  absorbed = ap (λ (x : HistoryView). fold applied x e.records) is ∙ ap (λ (rs : List Record). fold applied (applied h r) rs) gives.rest
      ∙ ap (λ (rs : List Record). fold applied h rs) (sym (split-first d.records r at)) ∙ before.absorbed;
  graph = gives.graph ∙ before.graph;
  jobs = gives.jobs ∙ before.jobs;
  analyses = gives.analyses ∙ before.analyses;
  journal = gives.journal ∙ before.journal;
  opening = gives.opening ∙ before.opening;
  replies = gives.replies ∙ before.replies;
}

pub fewer-records : (d e : DriverView) (r : Record) → slice_get d.records 0 ≡ Some r → e.records ≡ drop 1 d.records → length e.records < length d.records
fewer-records d e r at rest = let x = ap length (split-first d.records r at) in let y = ap length rest in omega arith

pub absorbed-all : (h0 h : HistoryView) (d0 d e : DriverView) → IsAbsorbing h0 d0 h d → slice_get d.records 0 ≡ None → GivesNext d e
    → (h ≡ fold applied h0 d0.records) × IsDrained d0 e
absorbed-all h0 h d0 d e before at gives =
    let none = nothing-first d.records at in (
      ap (λ (rs : List Record). fold applied h rs) (sym none) ∙ before.absorbed,
      record {
        none = gives.rest ∙ ap (drop 1) none;
        graph = gives.graph ∙ before.graph;
        jobs = gives.jobs ∙ before.jobs;
        analyses = gives.analyses ∙ before.analyses;
        journal = gives.journal ∙ before.journal;
        opening = gives.opening ∙ before.opening;
        replies = gives.replies ∙ before.replies;
      },
    )

-- a driver has given some of its replies to the players
pub record IsTelling (first_players : List PlayerView) (first_driver : DriverView) (players : List PlayerView) (d : DriverView) : Type 0 where
  pub fit : AllFit players d.replies
  pub told : fold told_player players d.replies ≡ fold told_player first_players first_driver.replies
  pub rest : d ≡ record first_driver { replies = d.replies }

pub telling-none : (players : List PlayerView) (d : DriverView) → AllFit players d.replies → IsTelling players d players d
telling-none players d fit = record { fit = fit; told = refl; rest = refl }

pub telling-fits : (ps players : List PlayerView) (d0 d : DriverView) (o : Resolved) → IsTelling ps d0 players d → slice_get d.replies 0 ≡ Some o
    → Fits players o × AllFit (told_player players o) (drop 1 d.replies)
telling-fits ps players d0 d o before at =
    fit-first players o (drop 1 d.replies) (subst (λ (os : List Resolved). AllFit players os) (split-first d.replies o at) before.fit)

-- what the player of a fitting outcome has, where it is read
pub fits-read : (players : List PlayerView) (o : Resolved) (p : PlayerView) → Fits players o → p ≡ get_or players o.session p
    → (o.seq ≡ length p.log) × (1 ≤ p.open_requests) × (p ≡ player_in players o.session)
fits-read players o p fits is =
    let same = get_or_read players o.session p fits.here is (player_of o.session []) in
    (fits.oldest ∙ ap (λ (x : PlayerView). length x.log) (sym same), subst (λ (x : PlayerView). 1 ≤ x.open_requests) (sym same) fits.some, same)

pub telling-more : (ps players more : List PlayerView) (d0 d e : DriverView) (o : Resolved) → IsTelling ps d0 players d → slice_get d.replies 0 ≡ Some o
    → e ≡ record d { replies = drop 1 d.replies } → more ≡ told_player players o → IsTelling ps d0 more e
telling-more ps players more d0 d e o before at gives is =
    let rest : e.replies ≡ drop 1 d.replies = ap (λ (x : DriverView). x.replies) gives in
    record {
      fit = subst (λ (os : List Resolved). AllFit more os) (sym rest)
          (subst (λ (xs : List PlayerView). AllFit xs (drop 1 d.replies)) (sym is) (telling-fits ps players d0 d o before at).1);
      told = ap (λ (os : List Resolved). fold told_player more os) rest ∙ ap (λ (xs : List PlayerView). fold told_player xs (drop 1 d.replies)) is
          ∙ ap (λ (os : List Resolved). fold told_player players os) (sym (split-first d.replies o at)) ∙ before.told;
      rest = gives ∙ ap (λ (x : DriverView). record x { replies = drop 1 d.replies }) before.rest ∙ ap (λ (os : List Resolved). record d0 { replies = os }) (sym rest);
    }

pub fewer-replies : (d e : DriverView) (o : Resolved) → slice_get d.replies 0 ≡ Some o → e ≡ record d { replies = drop 1 d.replies } → length e.replies < length d.replies
fewer-replies d e o at gives =
    let x = ap length (split-first d.replies o at) in let y = ap (λ (z : DriverView). length z.replies) gives in omega arith

pub told-all : (ps players : List PlayerView) (d0 d e : DriverView) → IsTelling ps d0 players d → slice_get d.replies 0 ≡ None
    → e ≡ record d { replies = drop 1 d.replies } → (players ≡ fold told_player ps d0.replies) × (e ≡ record d0 { replies = [] })
told-all ps players d0 d e before at gives =
    let none = nothing-first d.replies at in (
      ap (λ (os : List Resolved). fold told_player players os) (sym none) ∙ before.told,
      gives ∙ ap (λ (os : List Resolved). record d { replies = drop 1 os }) none ∙ ap (λ (x : DriverView). record x { replies = [] }) before.rest,
    )
