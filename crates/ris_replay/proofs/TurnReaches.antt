-- That a turn has no reach is impossible, so a meter doesn't fall over a turn.
use Rattle.std.proofs.Common.{◌≡◌, ◌≢◌, ℕ, zero, suc, ◌+◌, ◌-◌, ◌<◌, ◌≤◌, ◌^◌, ◌==◌, ◌↔◌, ◌⊎◌, not, inl, inr, Bool, true, false, cond, if◌then◌else◌, nat_lt, List, [], ◌∷◌, ◌++◌, length, Option, Some, None, arith, refl, sym, subst, ap, ◌∙◌, sum}
use Rattle.std.specs.Prelude.{sum_by}
use Rattle.std.specs.List.{All, Contains, filter, filter_map, slice_get}
use Rattle.std.specs.Option.{IsSomeAnd}
use Rattle.std.proofs.lemmas.Bool.{cases_eq, cases_lt, eq-eqb, ne_eqb, true≢false}
use Rattle.std.proofs.lemmas.List.Elements.{All-head, All-tail}
use Rattle.std.proofs.lemmas.List.Sums.{sum_by-cons}
use Rattle.ris_algo.proofs.ReachExists.{at_most, some_reach}
use Rattle.ris_algo.proofs.RecordLemmas.{lines_of-append}
use Rattle.ris_base.specs.Epoch.{Ground, IsEpoch, IsEntryReach, IsGreatestReach, IsReachAt, IsTurnReach, IsWantReach, Resolved, graph_at, is_of_tail, wanted_by}
use Rattle.ris_base.specs.Falling.{AreReaches, IsReach, IsReachFor, IsReachUnless, pull, push}
use Rattle.ris_base.specs.Forest.{Forest}
use Rattle.ris_base.specs.Graph.{EachOnce, IsProper}
use Rattle.ris_base.specs.Lines.{entry_at, front}
use Rattle.ris_base.specs.Lists.{EachPair}
use Rattle.ris_base.specs.Machine.{Book, EntersOr, Happens, Run, State, Step, entry_of, graph_of, lined, marked, told}
use Rattle.ris_base.specs.Records.{AreRight, forests_at, lines_of}
use Rattle.ris_base.specs.Requests.{RefusedPart, entered, refusal_of}
use Rattle.ris_base.specs.declared.analyses.Spec.{Spec}
use Rattle.ris_base.specs.declared.graphs.PlainGraph.{PlainGraph}
use Rattle.ris_base.specs.declared.lines.Entry.{Entry}
use Rattle.ris_base.specs.declared.lines.Line.{Line}
use Rattle.ris_base.specs.declared.lines.Line.TheVariants as line
use Rattle.ris_base.specs.declared.records.Record.{Record}
use Rattle.ris_base.specs.declared.requests.Request.{Request}
use Rattle.ris_base.specs.declared.requests.Request.TheVariants as request
use Rattle.ris_base.specs.declared.updates.Update.{Update}
use Rattle.ris_base.specs.declared.replies.LogLine.TheVariants.{Reply}
use Rattle.ris_base.specs.declared.replies.Outcome.TheVariants as outcome
use Rattle.ris_base.proofs.LineLemmas.{front-append}
use Rattle.ris_base.proofs.ListLemmas.{Contains-cases, Contains-filtered, Contains-first, Contains-none, Contains-rest, EachOnce-head, EachOnce-tail}
use Rattle.ris_base.proofs.RequestLemmas.{proper-after}
use Rattle.ris_graph.specs.Ticks.{IsRise}
use Rattle.ris_replay.specs.Visits.{Rises}
use Rattle.ris_replay.proofs.MeterRises.{rises-ticked}

-- Sums over the same numbers

-- a number of a list, and the sum over the others
sum-without : (f : ℕ → ℕ) (ys : List ℕ) (x : ℕ) → Contains ys x → f x + sum_by f (filter (λ y. not (y == x)) ys) ≤ sum_by f ys
sum-without f [] x has = absurd (Contains-none x has)
sum-without f (y ∷ ys) x has = elim (cases_eq y x) [
  | inl same ↦ (let all = sum_by-cons f y ys in let few = fewer ys in
      let e : f y ≡ f x = ap f same in
      rw (eq-eqb y x same) (omega arith))
  | inr other ↦ (let all = sum_by-cons f y ys in
      let more = sum_by-cons f y (filter (λ z. not (z == x)) ys) in
      let rest = sum-without f ys x (behind (Contains-cases y ys x has) other) in
      rw (ne_eqb y x other) (omega arith))
]
  where
    behind : (y ≡ x) ⊎ Contains ys x → y ≢ x → Contains ys x
    behind (inl same) other = absurd (other same)
    behind (inr later) other = later

    fewer : (zs : List ℕ) → sum_by f (filter (λ z. not (z == x)) zs) ≤ sum_by f zs
    fewer [] = omega arith
    fewer (z ∷ zs) = go (z == x) (fewer zs)
      where
        go : (b : Bool) → sum_by f (filter (λ w. not (w == x)) zs) ≤ sum_by f zs
            → sum_by f (cond (not b) (z ∷ filter (λ w. not (w == x)) zs) (filter (λ w. not (w == x)) zs)) ≤ sum_by f (z ∷ zs)
        go true less = let all = sum_by-cons f z zs in omega arith
        go false less = let all = sum_by-cons f z zs in let more = sum_by-cons f z (filter (λ w. not (w == x)) zs) in omega arith

sum-within : (f : ℕ → ℕ) (xs ys : List ℕ) → EachOnce xs → ((x : ℕ) → Contains xs x → Contains ys x) → sum_by f xs ≤ sum_by f ys
sum-within f [] ys once each = omega arith
sum-within f (x ∷ xs) ys once each =
    let all = sum_by-cons f x xs in
    let one = sum-without f ys x (each x (Contains-first x xs)) in
    let rest = sum-within f xs (filter (λ y. not (y == x)) ys) (EachOnce-tail x xs once)
    (λ z has. Contains-filtered (λ y. not (y == x)) ys z (each z (Contains-rest x xs z has))
    (ap not (ne_eqb z x (λ same. EachOnce-head x xs once (subst (λ (w : ℕ). Contains xs w) same has))))) in
    omega arith

sum-same : (f : ℕ → ℕ) (xs ys : List ℕ) (P : ℕ → Type 0) → EachOnce xs → EachOnce ys → ((x : ℕ) → Contains xs x ↔ P x) → ((x : ℕ) → Contains ys x ↔ P x)
    → sum_by f xs ≡ sum_by f ys
sum-same f xs ys P once again first second =
    let low = sum-within f xs ys once (λ x has. (second x).1 ((first x).0 has)) in
    let high = sum-within f ys xs again (λ x has. (first x).1 ((second x).0 has)) in
    omega arith

-- A request has one reach

reach-for-one : (g : PlainGraph) (spec : Spec) (parts : List Update) (F : Forest) (n m : ℕ) → IsReachFor g spec parts F n → IsReachFor g spec parts F m → n ≡ m
reach-for-one g spec parts F n m a b =
    let both : ℕ → ℕ = λ x. pull (entered g parts) spec x + push (entered g parts) spec x in
    let one = sum-same both a.fallen b.fallen _ a.all_fallen.once b.all_fallen.once a.all_fallen.each b.all_fallen.each in
    let two = sum-same (push (entered g parts) spec) a.improved b.improved _ a.all_improved.once b.all_improved.once a.all_improved.each b.all_improved.each in
    let x = a.count in
    let y = b.count in
    omega arith

reaches-one : (g : PlainGraph) (parts : List Update) (specs : List Spec) (forests : List Forest) (ns ms : List ℕ) → AreReaches g parts specs forests ns
    → AreReaches g parts specs forests ms → sum ns ≡ sum ms
reaches-one g parts [] [] [] [] a b = refl
reaches-one g parts [] [] [] (m ∷ ms) a b = absurd b
reaches-one g parts [] [] (n ∷ ns) ms a b = absurd a
reaches-one g parts [] (F ∷ forests) [] ms a b = absurd a
reaches-one g parts [] (F ∷ forests) (n ∷ ns) ms a b = absurd a
reaches-one g parts (spec ∷ specs) [] [] ms a b = absurd a
reaches-one g parts (spec ∷ specs) [] (n ∷ ns) ms a b = absurd a
reaches-one g parts (spec ∷ specs) (F ∷ forests) [] ms a b = absurd a
reaches-one g parts (spec ∷ specs) (F ∷ forests) (n ∷ ns) [] a b = absurd b
reaches-one g parts (spec ∷ specs) (F ∷ forests) (n ∷ ns) (m ∷ ms) a b =
    let first = reach-for-one g spec parts F n m a.0 b.0 in
    let rest = reaches-one g parts specs forests ns ms a.1 b.1 in
    let x : sum (n ∷ ns) ≡ n + sum ns = sum_by-cons (λ k. k) n ns in
    let y : sum (m ∷ ms) ≡ m + sum ms = sum_by-cons (λ k. k) m ms in
    omega arith

reach-one : (g : PlainGraph) (specs : List Spec) (forests : List Forest) (parts : List Update) (n m : ℕ) → IsReach g specs forests parts n → IsReach g specs forests parts m
    → n ≡ m
reach-one g specs forests parts n m = go (refusal_of g parts)
  where
    go : (r : Option RefusedPart) → IsReachUnless r g specs forests parts n → IsReachUnless r g specs forests parts m → n ≡ m
    go (Some refused) a b = a ∙ sym b
    go None a b = let same = reaches-one g parts specs forests a.counts b.counts a.each b.each in let x = a.count in let y = b.count in omega arith

-- Entries

-- there is an entry behind each place before the last
entry-behind : (lines : List Line) (v : ℕ) → v < front lines → (e : Entry) × (entry_at lines (suc v) ≡ Some e)
unfolding entry_at front
entry-behind [] v less = absurd (omega arith)
entry-behind (line.Entry e ∷ lines) zero less = (e, refl)
entry-behind (line.Entry e ∷ lines) (suc v) less = entry-behind lines v (omega arith)
entry-behind (line.Mark s q u ∷ lines) v less = entry-behind lines v less
entry-behind (line.Leave s q ∷ lines) v less = entry-behind lines v less

entry-there : (lines : List Line) (v : ℕ) → v < front lines → (e : Entry) × (entry_at lines (v + 1) ≡ Some e)
entry-there lines v less =
    let one : suc v ≡ v + 1 = omega arith in subst (λ (k : ℕ). (e : Entry) × (entry_at lines k ≡ Some e)) one (entry-behind lines v less)

-- Reaches at places

module _ (ground : Ground) (more : List Record) (right : AreRight ground.opening ground.specs ground.start more) (proper : IsProper ground.opening) where
  some-at : (v : ℕ) (parts : List Update) → v ≤ front (lines_of more) → ¬ (¬ ((n : ℕ) × IsReachAt ground more v parts n))
  some-at v parts within = some_reach (graph_at ground more v) ground.specs (forests_at ground.start more v) parts (proper-after ground.opening (lines_of more) v proper) (right.forests v within)

  -- the greatest from a place on, over so many places more
  some-greatest : (k from : ℕ) (parts : List Update) → from + k ≤ front (lines_of more) → ¬ (¬ ((n : ℕ) × IsGreatestReach ground more from (from + k) parts n))
  some-greatest zero from parts within none = some-at from parts (omega arith) (λ one. none (
    one.0,
    record {
      place = from;
      above = omega arith;
      below = omega arith;
      here = one.1;
      greatest = λ v m low high h.
          (let same : v ≡ from = omega arith in
          let e = reach-one (graph_at ground more from) ground.specs (forests_at ground.start more from) parts m one.0 (subst (λ (w : ℕ). IsReachAt ground more w parts m) same h) one.1 in omega arith);
    },
  ))
  some-greatest (suc k) from parts within none = some-greatest k from parts (omega arith) (λ before. some-at (from + suc k) parts within (λ one. none (pick before one)))
    where
      pick : ((n : ℕ) × IsGreatestReach ground more from (from + k) parts n) → ((n : ℕ) × IsReachAt ground more (from + suc k) parts n)
          → (n : ℕ) × IsGreatestReach ground more from (from + suc k) parts n
      pick before one = elim (cases_lt before.0 one.0) [
        | inl less ↦ (
          one.0,
          record {
            place = from + suc k;
            above = omega arith;
            below = omega arith;
            here = one.1;
            greatest = λ v m low high h. last v m low high h (λ m_before. omega arith) (λ m_is. omega arith);
          },
        )
        | inr most ↦ (
          before.0,
          record {
            place = before.1.place;
            above = before.1.above;
            below = (let b = before.1.below in omega arith);
            here = before.1.here;
            greatest = λ v m low high h. last v m low high h (λ m_before. omega arith) (λ m_is. omega arith);
          },
        )
      ]
        where
          last : {n : ℕ} (v m : ℕ) → from ≤ v → v ≤ from + suc k → IsReachAt ground more v parts m → (m ≤ before.0 → m ≤ n) → (m ≡ one.0 → m ≤ n) → m ≤ n
          last v m low high h earlier here = elim (cases_eq v (from + suc k)) [
            | inl same ↦ here (reach-one (graph_at ground more (from + suc k)) ground.specs (forests_at ground.start more (from + suc k)) parts m one.0 (subst (λ (w : ℕ). IsReachAt ground more w parts m) same h) one.1)
            | inr other ↦ earlier (before.1.greatest v m low (omega arith) h)
          ]

  -- the reaches of so many entries behind a place
  some-entries : (k from : ℕ) → from + k ≤ front (lines_of more)
      → ¬ (¬ ((ns : List ℕ) × (length ns ≡ k) × ((i m : ℕ) → slice_get ns i ≡ Some m → IsEntryReach ground more (from + i) m)))
  some-entries zero from within none = none ([], refl, λ i m at. absurd (cc))
  some-entries (suc k) from within none =
      let e = entry-there (lines_of more) from (omega arith) in
      some-at from e.0.parts (omega arith) (λ one. some-entries k (from + 1) (omega arith) (λ rest. none (one.0 ∷ rest.0, ap suc rest.1, each e one rest)))
    where
      each : (e : (x : Entry) × (entry_at (lines_of more) (from + 1) ≡ Some x)) (one : (n : ℕ) × IsReachAt ground more from e.0.parts n)
          (rest : (ns : List ℕ) × (length ns ≡ k) × ((i m : ℕ) → slice_get ns i ≡ Some m → IsEntryReach ground more (from + 1 + i) m))
          (i m : ℕ) → slice_get (one.0 ∷ rest.0) i ≡ Some m → IsEntryReach ground more (from + i) m
      each e one rest zero m at =
          let same : one.0 ≡ m = (let w : Some one.0 ≡ Some m = at in cc) in
          let none_more : from ≡ from + 0 = omega arith in
          subst (λ (v : ℕ). IsEntryReach ground more v m) none_more
          (subst (λ (x : Option Entry). IsSomeAnd x (λ y. IsReachAt ground more from y.parts m)) (sym e.1)
          (subst (λ (n : ℕ). IsReachAt ground more from e.0.parts n) same one.1))
      each e one rest (suc i) m at =
          let next : from + 1 + i ≡ from + suc i = omega arith in
          subst (λ (v : ℕ). IsEntryReach ground more v m) next (rest.2 i m at)

  -- and of requests that got no memory between two places
  some-wants : (from : ℕ) → from ≤ front (lines_of more) → (rs : List Request)
      → ¬ (¬ ((ns : List ℕ) × EachPair (IsWantReach ground more from (front (lines_of more))) rs ns))
  some-wants from within [] none = none ([], tt)
  some-wants from within (r ∷ rs) none = some-one r (λ one. some-wants from within rs (λ rest. none (one.0 ∷ rest.0, (one.1, rest.1))))
    where
      some-one : (x : Request) → ¬ (¬ ((n : ℕ) × IsWantReach ground more from (front (lines_of more)) x n))
      some-one (request.Submit e) =
          let all : from + (front (lines_of more) - from) ≡ front (lines_of more) = omega arith in
          subst (λ (to : ℕ). ¬ (¬ ((n : ℕ) × IsGreatestReach ground more from to e.parts n))) all
          (some-greatest (front (lines_of more) - from) from e.parts (omega arith))
      some-one (request.Release session seq upto) = λ none. none (0, refl)
      some-one (request.Leave session seq) = λ none. none (0, refl)

-- The lines of a tail

told-front : (b : Book) (l : Line) → front b.lines ≤ front (b.lines ++ l ∷ [])
told-front b l = let e = front-append b.lines (l ∷ []) in omega arith

enters-front : (old : State) (e : Entry) (forests : List Forest) (new : State) (r : Option RefusedPart) → EntersOr old e forests new r
    → front old.book.lines ≤ front new.book.lines
enters-front old e forests new (Some r) h = let same = ap (λ (s : State). front s.book.lines) h.1 in omega arith
enters-front old e forests new None h =
    let same = ap (λ (s : State). front s.book.lines) h.1 in let more = told-front old.book (line.Entry e) in omega arith

marked-front : (b : Book) (s seq upto : ℕ) → front b.lines ≤ front (marked b s seq upto).lines
marked-front b s seq upto = go (nat_lt (front b.lines) upto)
  where
    go : (late : Bool) → front b.lines ≤ front (if late then told b s (Reply (outcome.NotYet (front b.lines)))
        else told (lined b (line.Mark s seq upto)) s (Reply (outcome.Marked (front b.lines) upto))).lines
    go true = omega arith
    go false = told-front b (line.Mark s seq upto)

step-front : (old : State) (step : Step) (new : State) → is_of_tail step ≡ true → Happens old step new → front old.book.lines ≤ front new.book.lines
step-front old (Step.Serial s forests) new is h = enters-front old (entry_of s h.asked.seq h.parts) forests new (refusal_of (graph_of old.setup old.book) h.parts) h.after
step-front old (Step.Mark s) new is h =
    let same = ap (λ (x : State). front x.book.lines) h.after in let more = marked-front old.book s h.asked.seq h.upto in omega arith
step-front old (Step.Leave s) new is h =
    let same = ap (λ (x : State). front x.book.lines) h.after in let more = told-front old.book (line.Leave s h.asked.seq) in omega arith
step-front old (Step.Want s) new is h = let same = ap (λ (x : State). front x.book.lines) h.after in omega arith
step-front old (Step.Cell k s) new is h = absurd (true≢false (sym is))
step-front old (Step.Submit s r) new is h = absurd (true≢false (sym is))
step-front old (Step.Take s) new is h = absurd (true≢false (sym is))
step-front old (Step.Begin held) new is h = absurd (true≢false (sym is))
step-front old (Step.Seal order) new is h = absurd (true≢false (sym is))
step-front old Step.Publish new is h = absurd (true≢false (sym is))
step-front old (Step.Read s q) new is h = absurd (true≢false (sym is))
step-front old (Step.WantToRead s q) new is h = absurd (true≢false (sym is))

tail-front : (old : State) (steps : List Step) (new : State) → All (λ step. is_of_tail step ≡ true) steps → Run old steps new
    → front old.book.lines ≤ front new.book.lines
unfolding Run
tail-front old [] new are h = let same = ap (λ (s : State). front s.book.lines) h in omega arith
tail-front old (step ∷ steps) new are h =
    let first = step-front old step h.0 (All-head (λ x. is_of_tail x ≡ true) step steps are) h.1 in
    let rest = tail-front h.0 steps new (All-tail (λ x. is_of_tail x ≡ true) step steps are) h.2 in
    omega arith

-- The turn

-- that a turn has no reach is impossible
some-turn : (ground : Ground) (records made : List Record) (batch : List Request) (outcomes : List Resolved)
    (epoch : IsEpoch ground records batch (records ++ made) outcomes) → AreRight ground.opening ground.specs ground.start (records ++ made) → IsProper ground.opening
    → ¬ (¬ ((n : ℕ) × IsTurnReach ground records batch [] (records ++ made) outcomes epoch n))
some-turn ground records made batch outcomes epoch right proper none =
    let more : List Record = records ++ made in
    let longer : front (lines_of more) ≡ front (lines_of records) + front (lines_of made) =
    ap front (lines_of-append records made) ∙ front-append (lines_of records) (lines_of made) in
    let low = tail-front epoch.sealed epoch.tail epoch.final epoch.are_of_tail epoch.to_final in
    let end = ap front epoch.lines in
    some-entries ground more right proper (front (lines_of made)) (front (lines_of records)) (omega arith) (λ entries.
    some-wants ground more right proper (front epoch.sealed.book.lines) (omega arith) (filter_map (wanted_by batch) epoch.tail) (λ wants.
    none (
      sum entries.0 + sum wants.0,
      record {
        entries = entries.0;
        wants = wants.0;
        all_entries = (let count = entries.1 in omega arith);
        each_entry = entries.2;
        each_want = wants.1;
        total = refl;
      },
    )))

-- so a meter that rises by no more than each reach of a turn doesn't fall
pub turn-rises : (ground : Ground) (records made : List Record) (batch : List Request) (outcomes : List Resolved)
    (epoch : IsEpoch ground records batch (records ++ made) outcomes) (old new : ℕ) → AreRight ground.opening ground.specs ground.start (records ++ made)
    → IsProper ground.opening → ((n : ℕ) → IsTurnReach ground records batch [] (records ++ made) outcomes epoch n → IsRise old new n) → Rises old new
turn-rises ground records made batch outcomes epoch old new right proper rise small = (
  at_most old new (λ none. some-turn ground records made batch outcomes epoch right proper (λ reach.
      none ((rises-ticked old new reach.0 (rise reach.0 reach.1) small).0))),
  (let less = at_most (new + 1) (2 ^ 64) (λ none. some-turn ground records made batch outcomes epoch right proper (λ reach.
      none (let b = (rises-ticked old new reach.0 (rise reach.0 reach.1) small).1 in omega arith))) in omega arith),
)
