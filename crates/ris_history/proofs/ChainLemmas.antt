-- What chains say at a place, and what is left of them where they are trimmed.
use Rattle.std.proofs.Common.{◌≡◌, ℕ, zero, suc, ◌+◌, ◌-◌, ◌<◌, ◌≤◌, Bool, true, false, if◌then◌else◌, List, [], ◌∷◌, ◌++◌, length, get_or, arith, refl, inl, inr, ◌∙◌}
use Rattle.std.specs.Prelude.{replicate, nat_le}
use Rattle.std.specs.List.Sorted.{IsPartitionPoint}
use Rattle.std.proofs.lemmas.Bool.{cases_Bool, or_cases, le-leb, leb-true}
use Rattle.std.proofs.lemmas.List.Elements.{All-nil, All-head, All-tail, All-set, All-push, All-append, All-replicate}
use Rattle.std.proofs.lemmas.List.{length-append, length-replicate, length-set, get_or-set_same, get_or-set_other}
use Rattle.ris_history.specs.Chains.{HeldView, ChainView, no_chain, latest, pushed, any_up_to, trimmed_from, trimmed, chain_at, grown, appended}
use Rattle.ris_history.specs.Sound.{EndsBy, AllEndBy}

-- The item that holds at a place

-- what holds at a partition point of a chain
pub latest-none : (v : ℕ) (first : HeldView) (later : List HeldView)
    → IsPartitionPoint (λ held. nat_le held.place v ≡ true) (λ held. nat_le held.place v ≡ false) later 0
    → latest (record { first = first; later = later }) v ≡ first
latest-none v first [] h = refl
latest-none v first (s ∷ ss) h =
    let past = h.1 0 s (omega arith) (omega arith) in
    rw past (latest-none v first ss (λ k d a b. absurd (omega arith), λ k d a b. h.1 (suc k) d (omega arith) (omega arith)))

pub latest-some : (v : ℕ) (first : HeldView) (later : List HeldView) (i : ℕ) (e : HeldView)
    → IsPartitionPoint (λ held. nat_le held.place v ≡ true) (λ held. nat_le held.place v ≡ false) later (suc i) → suc i ≤ length later
    → latest (record { first = first; later = later }) v ≡ get_or later i e
latest-some v first [] i e h l = absurd (omega arith)
latest-some v first (s ∷ ss) zero e h l =
    let here = h.0 0 e (omega arith) (omega arith) in
    rw here (latest-none v s ss (λ k d a b. absurd (omega arith), λ k d a b. h.1 (suc k) d (omega arith) (omega arith)))
latest-some v first (s ∷ ss) (suc i) e h l =
    let here = h.0 0 s (omega arith) (omega arith) in
    rw here (latest-some v s ss i e (λ k d a b. h.0 (suc k) d (omega arith) (omega arith), λ k d a b. h.1 (suc k) d (omega arith) (omega arith)) (omega arith))

-- Lists of chains

get_or-empty : (m k : ℕ) → (let e : ChainView = get_or (replicate m no_chain) k no_chain in e) ≡ no_chain
get_or-empty zero k = refl
get_or-empty (suc m) zero = refl
get_or-empty (suc m) (suc k) = get_or-empty m k

get_or-padded : (cs : List ChainView) (m k : ℕ) → get_or (cs ++ replicate m no_chain) k no_chain ≡ get_or cs k no_chain
get_or-padded [] m k = get_or-empty m k
get_or-padded (c ∷ cs) m zero = refl
get_or-padded (c ∷ cs) m (suc k) = get_or-padded cs m k

-- chains that say nothing change none
pub chain_at-grown : (m : ℕ) (cs : List ChainView) (k : ℕ) → chain_at (grown m cs) k ≡ chain_at cs k
chain_at-grown m cs k = get_or-padded cs (m - length cs) k

pub length-grown : (m : ℕ) (cs : List ChainView) → length (grown m cs) ≡ length cs + (m - length cs)
length-grown m cs =
    let empties : List ChainView = replicate (m - length cs) no_chain in
    let e = length-append cs empties in
    let f = length-replicate (m - length cs) no_chain in
    omega arith

-- the chain with one item more, and the others
pub chain_at-appended : (k : ℕ) (held : HeldView) (cs : List ChainView) → k < length cs → chain_at (appended k held cs) k ≡ pushed held (chain_at cs k)
chain_at-appended k held cs l = get_or-set_same cs k (pushed held (chain_at cs k)) no_chain l

pub chain_at-appended_other : (k : ℕ) (held : HeldView) (cs : List ChainView) (j : ℕ) → ¬ (j ≡ k) → chain_at (appended k held cs) j ≡ chain_at cs j
chain_at-appended_other k held cs j h = get_or-set_other cs k j (pushed held (chain_at cs k)) no_chain h

pub length-appended : (k : ℕ) (held : HeldView) (cs : List ChainView) → length (appended k held cs) ≡ length cs
length-appended k held cs = length-set cs k (pushed held (chain_at cs k))

-- Trimmed chains

-- an item of a place up to f is one up to g, where g is no less
pub any-wider : (f g : ℕ) (items : List HeldView) → f ≤ g → any_up_to f items ≡ true → any_up_to g items ≡ true
any-wider f g [] h e = e
any-wider f g (s ∷ ss) h e = elim (or_cases (nat_le s.place f) (any_up_to f ss) e) [
  | inl here ↦ (let low = leb-true s.place f here in let up = le-leb s.place g (omega arith) in rw up refl)
  | inr rest ↦ (let more = any-wider f g ss h rest in elim (cases_Bool (nat_le s.place g)) [ inl low ↦ rw low refl | inr high ↦ rw high more ])
]

-- where an item has a place up to v, the first item doesn't count at v
latest-any : (v : ℕ) (a b : HeldView) (later : List HeldView) → any_up_to v later ≡ true
    → latest (record { first = a; later = later }) v ≡ latest (record { first = b; later = later }) v
latest-any v a b [] h = absurd (cc)
latest-any v a b (s ∷ ss) h = go (nat_le s.place v) refl (λ more. latest-any v a b ss more)
  where
    go : (t : Bool) → nat_le s.place v ≡ t
        → (any_up_to v ss ≡ true → latest (record { first = a; later = ss }) v ≡ latest (record { first = b; later = ss }) v)
        → latest (record { first = a; later = s ∷ ss }) v ≡ latest (record { first = b; later = s ∷ ss }) v
    go true e more = rw e refl
    go false e more = rw e (more (rw e at h))

latest-trimmed_from : (f v : ℕ) (first : HeldView) (later : List HeldView) → f ≤ v
    → latest (trimmed_from f first later) v ≡ latest (record { first = first; later = later }) v
latest-trimmed_from f v first [] h = refl
latest-trimmed_from f v first (s ∷ ss) h = go (any_up_to f (s ∷ ss)) refl (latest-trimmed_from f v s ss h)
  where
    go : (t : Bool) → any_up_to f (s ∷ ss) ≡ t → latest (trimmed_from f s ss) v ≡ latest (record { first = s; later = ss }) v
        → latest (if t then trimmed_from f s ss else record { first = first; later = s ∷ ss }) v ≡ latest (record { first = first; later = s ∷ ss }) v
    go false e more = refl
    go true e more = more ∙ tail (any-wider f v (s ∷ ss) h e)
      where
        tail : any_up_to v (s ∷ ss) ≡ true → latest (record { first = s; later = ss }) v ≡ latest (record { first = first; later = s ∷ ss }) v
        tail up = elim (cases_Bool (nat_le s.place v)) [
          | inl low ↦ rw low refl
          | inr high ↦ rw high (latest-any v s first ss (rw high at up))
        ]

-- a trimmed chain says at each place from f on what the chain said
pub latest-trimmed : (f v : ℕ) (c : ChainView) → f ≤ v → latest (trimmed f c) v ≡ latest c v
latest-trimmed f v c h = latest-trimmed_from f v c.first c.later h

-- Where chains end

pub EndsBy-at : (n : ℕ) (cs : List ChainView) (k : ℕ) → AllEndBy n cs → EndsBy n (chain_at cs k)
EndsBy-at n [] k h = All-nil (λ (held : HeldView). held.place ≤ n)
EndsBy-at n (c ∷ cs) zero h = All-head (EndsBy n) c cs h
EndsBy-at n (c ∷ cs) (suc k) h = EndsBy-at n cs k (All-tail (EndsBy n) c cs h)

pub AllEndBy-appended : (n k : ℕ) (held : HeldView) (cs : List ChainView) → held.place ≤ n → AllEndBy n cs → AllEndBy n (appended k held cs)
AllEndBy-appended n k held cs l h =
    All-set (EndsBy n) cs k (pushed held (chain_at cs k)) (All-push (λ (s : HeldView). s.place ≤ n) (chain_at cs k).later held (EndsBy-at n cs k h) l) h

pub AllEndBy-grown : (n m : ℕ) (cs : List ChainView) → AllEndBy n cs → AllEndBy n (grown m cs)
AllEndBy-grown n m cs h =
    All-append (EndsBy n) cs (replicate (m - length cs) no_chain) h
    (All-replicate (EndsBy n) (m - length cs) no_chain (All-nil (λ (held : HeldView). held.place ≤ n)))

pub AllEndBy-wider : (n m : ℕ) (cs : List ChainView) → n ≤ m → AllEndBy n cs → AllEndBy m cs
AllEndBy-wider n m cs l h k d lt = λ i e less. let one = h k d lt i e less in omega arith
