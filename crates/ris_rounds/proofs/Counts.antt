-- The lines of a run and the requests of its batch are no more than its commands.
use Rattle.std.proofs.Common.{◌≡◌, ℕ, zero, suc, ◌+◌, ◌<◌, ◌≤◌, ◌==◌, ◌⊎◌, not, inl, inr, Bool, true, false, cond, List, [], ◌∷◌, ◌++◌, length, length-append, map, get_or, Some, arith, refl, sym, subst, ap, ◌∙◌}
use Rattle.std.specs.Prelude.{sum_by}
use Rattle.std.specs.List.{Contains, filter, slice_get}
use Rattle.std.proofs.lemmas.Bool.{cases_eq, ne_eqb, eq-eqb, true≢false}
use Rattle.std.proofs.lemmas.List.{length-map}
use Rattle.std.proofs.lemmas.List.Elements.{All-get_or, Contains-append_left, Contains-append_right}
use Rattle.std.proofs.lemmas.List.Sums.{sum_by-cons}
use Rattle.std.proofs.lemmas.Option.{get_or_from_slice_get, slice_get_within}
use Rattle.ris_base.specs.Epoch.{Ground}
use Rattle.ris_base.specs.Lines.{session_of}
use Rattle.ris_base.specs.Machine.{Known}
use Rattle.ris_base.specs.Records.{lines_of}
use Rattle.ris_base.specs.declared.commands.Command.{Command}
use Rattle.ris_base.specs.declared.lines.Line.{Line}
use Rattle.ris_base.specs.declared.records.Record.{Record}
use Rattle.ris_base.specs.declared.requests.Request.{Request}
use Rattle.ris_base.proofs.ListLemmas.{Contains-cases, Contains-filtered, Contains-none}
use Rattle.ris_legal.proofs.Lists.{slice_get-map, slice_get-mapped, slice_get_some}
use Rattle.ris_rounds.specs.Rounds.{IsPlayed, RunView, batch_of, commands_at, player_at, queue_at}
use Rattle.ris_rounds.proofs.Sessions.{queue-length, seat-replies}
use Rattle.ris_rounds.proofs.Sittings.{played-kept}

-- Sums

-- the sum of f at so many numbers from k on
abbrev total : (ℕ → ℕ) → ℕ → ℕ → ℕ
total f k zero = 0
total f k (suc n) = f k + total f (k + 1) n

total-add : (f g : ℕ → ℕ) (k n : ℕ) → total f k n + total g k n ≡ total (λ s. f s + g s) k n
total-add f g k zero = omega arith
total-add f g k (suc n) = let e = total-add f g (k + 1) n in omega arith

-- a bound by the places of a list from k on, by those of its rest
rest-bound : {X : Type 0} (f : ℕ → ℕ) (k : ℕ) (x : List X) (xs : List (List X)) → ((i : ℕ) → f (k + i) ≤ length (get_or (x ∷ xs) i []))
    → (f k ≤ length x) × ((i : ℕ) → f ((k + 1) + i) ≤ length (get_or xs i []))
rest-bound f k x xs h =
    let first : k + 0 ≡ k = omega arith in
    (subst (λ (m : ℕ). f m ≤ length x) first (h 0), λ i. let next : k + suc i ≡ (k + 1) + i = omega arith in subst (λ (m : ℕ). f m ≤ length (get_or xs i [])) next (h (suc i)))

total-lists : (lists : List (List Command)) (k : ℕ) (f : ℕ → ℕ) → ((i : ℕ) → f (k + i) ≤ length (get_or lists i [])) → total f k (length lists) ≤ sum_by length lists
total-lists [] k f h = omega arith
total-lists (x ∷ lists) k f h =
    let both = rest-bound f k x lists h in
    let first = both.0 in
    let more = total-lists lists (k + 1) f both.1 in
    let sum = sum_by-cons (λ (xs : List Command). length xs) x lists in omega arith

-- one request of each queue
batch-total : (queues : List (List Request)) (k : ℕ) (f : ℕ → ℕ) → ((i : ℕ) → length (get_or queues i []) ≤ f (k + i)) → length (batch_of queues) ≤ total f k (length queues)
batch-total [] k f h = omega arith
batch-total (q ∷ queues) k f h =
    let first : k + 0 ≡ k = omega arith in
    go q (subst (λ (m : ℕ). length q ≤ f m) first (h 0))
    (batch-total queues (k + 1) f (λ i. let next : k + suc i ≡ (k + 1) + i = omega arith in subst (λ (m : ℕ). length (get_or queues i []) ≤ f m) next (h (suc i))))
  where
    go : (q : List Request) → length q ≤ f k → length (batch_of queues) ≤ total f (k + 1) (length queues) → length (batch_of (q ∷ queues)) ≤ f k + total f (k + 1) (length queues)
    go [] one more = omega arith
    go (r ∷ q) one more = omega arith

-- A list that has all of the first numbers

filter-few : {X : Type 0} (p : X → Bool) (xs : List X) → length (filter p xs) ≤ length xs
filter-few p [] = omega arith
filter-few p (x ∷ xs) = go (p x) (filter-few p xs)
  where
    go : (b : Bool) → length (filter p xs) ≤ length xs → length (cond b (x ∷ filter p xs) (filter p xs)) ≤ suc (length xs)
    go true more = omega arith
    go false more = omega arith

-- without a number that it has a list is shorter
shorter : (xs : List ℕ) (n : ℕ) → Contains xs n → length (filter (λ x. not (x == n)) xs) + 1 ≤ length xs
shorter [] n has = absurd (Contains-none n has)
shorter (x ∷ xs) n has = go (x == n) refl (filter-few (λ y. not (y == n)) xs) (λ later. shorter xs n later) (Contains-cases x xs n has)
  where
    go : (b : Bool) → (x == n) ≡ b → length (filter (λ y. not (y == n)) xs) ≤ length xs
        → (Contains xs n → length (filter (λ y. not (y == n)) xs) + 1 ≤ length xs) → (x ≡ n) ⊎ Contains xs n
        → length (cond (not b) (x ∷ filter (λ y. not (y == n)) xs) (filter (λ y. not (y == n)) xs)) + 1 ≤ suc (length xs)
    go true e few more cases = omega arith
    go false e few more (inl first) = absurd (true≢false (sym (eq-eqb x n first) ∙ e))
    go false e few more (inr later) = let less = more later in omega arith

few-numbers : (n : ℕ) (xs : List ℕ) → ((i : ℕ) → i < n → Contains xs (i + 1)) → n ≤ length xs
few-numbers zero xs h = omega arith
few-numbers (suc n) xs h =
    let less = shorter xs (n + 1) (h n (omega arith)) in
    let rest = few-numbers n (filter (λ x. not (x == n + 1)) xs)
    (λ i below. Contains-filtered (λ x. not (x == n + 1)) xs (i + 1) (h i (omega arith)) (ap not (ne_eqb (i + 1) (n + 1) (λ same. absurd (omega arith))))) in
    omega arith

-- What replies rest on

-- on how many lines the replies of so many sessions from k on rest
abbrev known_from : (ℕ → List Known) → ℕ → ℕ → List ℕ
known_from replies k zero = []
known_from replies k (suc n) = map (λ (x : Known). x.knew) (replies k) ++ known_from replies (k + 1) n

length-known : (replies : ℕ → List Known) (k n : ℕ) → length (known_from replies k n) ≡ total (λ s. length (replies s)) k n
length-known replies k zero = refl
length-known replies k (suc n) =
    let more = length-known replies (k + 1) n in
    let first = length-map (replies k) (λ (x : Known). x.knew) in
    let both = length-append (map (λ (x : Known). x.knew) (replies k)) (known_from replies (k + 1) n) in omega arith

known-has : (replies : ℕ → List Known) (k n s x : ℕ) → k ≤ s → s < k + n → Contains (map (λ (y : Known). y.knew) (replies s)) x → Contains (known_from replies k n) x
known-has replies k zero s x low less has = absurd (omega arith)
known-has replies k (suc n) s x low less has = elim (cases_eq s k) [
  | inl same ↦ Contains-append_left (map (λ (y : Known). y.knew) (replies k)) (known_from replies (k + 1) n) x
      (subst (λ (m : ℕ). Contains (map (λ (y : Known). y.knew) (replies m)) x) same has)
  | inr other ↦ Contains-append_right (map (λ (y : Known). y.knew) (replies k)) (known_from replies (k + 1) n) x
      (known-has replies (k + 1) n s x (omega arith) (omega arith) has)
]

-- The run

module _ (ground : Ground) (lists : List (List Command)) (run : RunView) (p : IsPlayed ground lists run) where
  abbrev replies_in_state : ℕ → List Known
  replies_in_state n = (p.state.book.seats n).replies

  -- each line is of a session that is there
  line-there : (i : ℕ) (l : Line) → slice_get (lines_of run.records) i ≡ Some l → session_of l < ground.start.sessions
  line-there i l at =
      let r = slice_get-mapped (λ (x : Record). x.line) run.records i l at in
      subst (λ (x : Line). session_of x < ground.start.sessions) r.2
      (subst (λ (x : Record). session_of x.line < ground.start.sessions) (get_or_from_slice_get run.records i r.0 r.0 r.1)
      (All-get_or (λ x. session_of x.line < ground.start.sessions) run.records i r.0 (slice_get_within run.records i r.0 r.1) p.right.sessions))

  -- and a reply rests on the lines up to it
  line-known : (i : ℕ) → i < length p.state.book.lines → Contains (known_from replies_in_state 0 ground.start.sessions) (i + 1)
  line-known i less =
      let l = slice_get_some p.state.book.lines i less in
      let made = (played-kept ground lists run p).book.account.lines i l.0 l.1 in
      let s : ℕ = session_of l.0 in
      let knews : List ℕ = map (λ (y : Known). y.knew) (replies_in_state s) in
      let at : slice_get knews made.at ≡ Some (i + 1) =
      slice_get-map (λ (y : Known). y.knew) (replies_in_state s) made.at made.known made.told ∙ ap Some made.knew in
      let there = line-there i l.0 (ap (λ (ls : List Line). slice_get ls i) (sym p.stands.lines) ∙ l.1) in
      known-has replies_in_state 0 ground.start.sessions s (i + 1) (omega arith) (omega arith)
      (made.at, slice_get_within knews made.at (i + 1) at, get_or_from_slice_get knews made.at (i + 1) (i + 1) at)

  -- replies and open requests are of commands
  commands-bound : (n : ℕ) → length (replies_in_state n) + length (queue_at run n) ≤ length (commands_at lists n)
  commands-bound n =
      let replied = seat-replies (commands_at lists n) (player_at run n) (p.state.book.seats n) (p.stands.seats n) in
      let waiting = queue-length (commands_at lists n) n (player_at run n) (queue_at run n) (p.sessions n) in
      let all = (p.sessions n).plays.count in omega arith

  pub few-lines : length (lines_of run.records) + length (batch_of run.queues) ≤ sum_by length lists
  few-lines =
      let f : ℕ → ℕ = λ s. length (replies_in_state s) in
      let g : ℕ → ℕ = λ s. length (queue_at run s) in
      let lines = few-numbers (length p.state.book.lines) (known_from replies_in_state 0 ground.start.sessions) line-known in
      let same = ap length p.stands.lines in
      let known = length-known replies_in_state 0 ground.start.sessions in
      let batch = batch-total run.queues 0 g (λ i. let here : i ≡ 0 + i = omega arith in subst (λ (m : ℕ). length (queue_at run i) ≤ length (queue_at run m)) here (omega arith)) in
      let count : length run.queues ≡ length lists = p.queues ∙ sym p.given.one_each in
      let counted = ap (total g 0) count in
      let there = ap (total f 0) (sym p.given.one_each) in
      let both = total-add f g 0 (length lists) in
      let all = total-lists lists 0 (λ s. f s + g s) (λ i. let here : i ≡ 0 + i = omega arith in subst (λ (m : ℕ). f m + g m ≤ length (commands_at lists i)) here (commands-bound i)) in
      omega arith
