-- That a turn has no reach is impossible: each of its entries has one, and so has each of its requests that wanted memory.
use Rattle.std.proofs.Common.{◌≡◌, ℕ, zero, suc, ◌+◌, ◌-◌, ◌<◌, ◌≤◌, inl, inr, List, [], ◌∷◌, ◌++◌, length, Option, Some, None, arith, refl, sym, subst, ap, ◌∙◌, append_assoc, sum}
use Rattle.std.specs.List.{filter_map, slice_get}
use Rattle.std.specs.Option.{IsSomeAnd}
use Rattle.std.proofs.lemmas.Bool.{cases_eq, cases_lt}
use Rattle.std.proofs.lemmas.List.Sums.{sum_by-cons}
use Rattle.ris_base.specs.Epoch.{Ground, IsEntryReach, IsGreatestReach, IsReachAt, IsTurnReach, IsWantReach, Resolved, graph_at, wanted_by}
use Rattle.ris_base.specs.Falling.{AreReaches, IsReach, IsReachFor, IsReachUnless, pull, push}
use Rattle.ris_base.specs.Forest.{Forest}
use Rattle.ris_base.specs.Graph.{IsProper}
use Rattle.ris_base.specs.Lines.{entry_at, front}
use Rattle.ris_base.specs.Lists.{EachPair}
use Rattle.ris_base.specs.Records.{AreRight, forests_at, lines_of}
use Rattle.ris_base.specs.Requests.{RefusedPart, entered, refusal_of}
use Rattle.ris_base.specs.declared.analyses.Spec.{Spec}
use Rattle.ris_base.specs.declared.graphs.PlainGraph.{PlainGraph}
use Rattle.ris_base.specs.declared.lines.Entry.{Entry}
use Rattle.ris_base.specs.declared.lines.Line.{Line}
use Rattle.ris_base.specs.declared.lines.Line.TheVariants as line
use Rattle.ris_base.specs.declared.records.Record.{Record}
use Rattle.ris_base.specs.declared.requests.Request.{Request}
use Rattle.ris_base.specs.declared.requests.Request.TheVariants as request
use Rattle.ris_base.specs.declared.updates.Update.{Update}
use Rattle.ris_algo.proofs.Covered.{sum_by-covered}
use Rattle.ris_algo.proofs.ReachExists.{some_reach}
use Rattle.ris_algo.proofs.RecordLemmas.{proper-later}
use Rattle.ris_epoch.specs.Account.{IsTurnAccount, front_of, records_of}
use Rattle.ris_epoch.specs.Laws.{IsDue}
use Rattle.ris_epoch.proofs.TurnEpochs.{EpochOf, trace-longer}
use Rattle.ris_epoch.proofs.TurnRight.{turn-right}
use Rattle.ris_epoch.proofs.TurnVisits.{front-first}

-- One reach

-- a request has no two reaches for an analysis
reach-for-most : (g : PlainGraph) (spec : Spec) (parts : List Update) (F : Forest) (m n : ℕ) → IsReachFor g spec parts F m → IsReachFor g spec parts F n → m ≤ n
reach-for-most g spec parts F m n a b =
    let fall = sum_by-covered (λ x. pull (entered g parts) spec x + push (entered g parts) spec x) a.fallen b.fallen a.all_fallen.once
    (λ x at. (b.all_fallen.each x).1 ((a.all_fallen.each x).0 at)) in
    let rise = sum_by-covered (push (entered g parts) spec) a.improved b.improved a.all_improved.once
    (λ x at. (b.all_improved.each x).1 ((a.all_improved.each x).0 at)) in
    let one = a.count in
    let two = b.count in
    omega arith

reaches-most : (g : PlainGraph) (parts : List Update) (specs : List Spec) (forests : List Forest) (ms ns : List ℕ)
    → AreReaches g parts specs forests ms → AreReaches g parts specs forests ns → sum ms ≤ sum ns
reaches-most g parts [] [] [] [] a b = omega arith
reaches-most g parts [] [] [] (n ∷ ns) a b = absurd b
reaches-most g parts [] [] (m ∷ ms) ns a b = absurd a
reaches-most g parts [] (F ∷ forests) ms ns a b = absurd a
reaches-most g parts (spec ∷ specs) [] ms ns a b = absurd a
reaches-most g parts (spec ∷ specs) (F ∷ forests) [] ns a b = absurd a
reaches-most g parts (spec ∷ specs) (F ∷ forests) (m ∷ ms) [] a b = absurd b
reaches-most g parts (spec ∷ specs) (F ∷ forests) (m ∷ ms) (n ∷ ns) a b =
    let first = reach-for-most g spec parts F m n a.0 b.0 in
    let rest = reaches-most g parts specs forests ms ns a.1 b.1 in
    let one : sum (m ∷ ms) ≡ m + sum ms = sum_by-cons (λ x. x) m ms in
    let two : sum (n ∷ ns) ≡ n + sum ns = sum_by-cons (λ x. x) n ns in
    omega arith

-- nor for all
reach-most : (g : PlainGraph) (specs : List Spec) (forests : List Forest) (parts : List Update) (m n : ℕ)
    → IsReach g specs forests parts m → IsReach g specs forests parts n → m ≤ n
reach-most g specs forests parts m n = go (refusal_of g parts)
  where
    go : (r : Option RefusedPart) → IsReachUnless r g specs forests parts m → IsReachUnless r g specs forests parts n → m ≤ n
    go (Some refused) a b = omega arith
    go None a b =
        let rest = reaches-most g parts specs forests a.counts b.counts a.each b.each in
        let one = a.count in
        let two = b.count in
        omega arith

-- Many of which each isn't impossible

-- numbers for the items of a list
some-pairs : {X : Type 0} (P : X → ℕ → Type 0) (xs : List X) → ((x : X) → ¬ (¬ ((n : ℕ) × P x n))) → ¬ (¬ ((ns : List ℕ) × EachPair P xs ns))
some-pairs P [] each none = none ([], tt)
some-pairs P (x ∷ xs) each none = each x (λ one. some-pairs P xs each (λ rest. none (one.0 ∷ rest.0, (one.1, rest.1))))

-- so many numbers, one after another
record AreNumbers (P : ℕ → ℕ → Type 0) (n : ℕ) (ms : List ℕ) : Type 0 where
  count : length ms ≡ n
  each : (i m : ℕ) → slice_get ms i ≡ Some m → P i m

some-numbers : (P : ℕ → ℕ → Type 0) (n : ℕ) → ((i : ℕ) → i < n → ¬ (¬ ((m : ℕ) × P i m))) → ¬ (¬ ((ms : List ℕ) × AreNumbers P n ms))
some-numbers P zero each none = none ([], record { count = refl; each = λ i m at. absurd (cc) })
some-numbers P (suc n) each none = each 0 (omega arith) (λ first. some-numbers (λ i. P (suc i)) n (λ i less. each (suc i) (omega arith)) (λ rest.
    none (first.0 ∷ rest.0, record { count = ap suc rest.1.count; each = go first.0 first.1 rest.0 rest.1.each })))
  where
    go : (m : ℕ) → P 0 m → (ms : List ℕ) → ((i k : ℕ) → slice_get ms i ≡ Some k → P (suc i) k) → (i k : ℕ) → slice_get (m ∷ ms) i ≡ Some k → P i k
    go m here ms later zero k at = subst (P 0) (let same : m ≡ k = cc in same) here
    go m here ms later (suc i) k at = later i k at

-- The turn

-- the place behind which an entry stands
entry-there : (lines : List Line) (v : ℕ) → v < front lines → (e : Entry) × (entry_at lines (suc v) ≡ Some e)
unfolding entry_at front
entry-there [] v less = absurd (omega arith)
entry-there (line.Entry e ∷ lines) zero less = (e, refl)
entry-there (line.Entry e ∷ lines) (suc v) less = entry-there lines v (omega arith)
entry-there (line.Mark session seq upto ∷ lines) v less = entry-there lines v less
entry-there (line.Leave session seq ∷ lines) v less = entry-there lines v less

module _ (ground : Ground) (more : List Record) (right : AreRight ground.opening ground.specs ground.start more) (low : ℕ)
    (proper : (v : ℕ) → low ≤ v → IsProper (graph_at ground more v)) where
  -- parts have a reach at each place
  some-at : (v : ℕ) (parts : List Update) → low ≤ v → v ≤ front_of more → ¬ (¬ ((n : ℕ) × IsReachAt ground more v parts n))
  some-at v parts past within = some_reach (graph_at ground more v) ground.specs (forests_at ground.start more v) parts (proper v past) (right.forests v within)

  -- so has an entry
  some-entry : (v : ℕ) → low ≤ v → v < front_of more → ¬ (¬ ((n : ℕ) × IsEntryReach ground more v n))
  some-entry v past within none =
      let e = entry-there (lines_of more) v within in
      let next : suc v ≡ v + 1 = omega arith in
      some-at v e.0.parts past (omega arith) (λ reach. none (
        reach.0,
        subst (λ (o : Option Entry). IsSomeAnd o (λ x. IsReachAt ground more v x.parts reach.0)) (sym (ap (entry_at (lines_of more)) (sym next) ∙ e.1)) reach.1,
      ))

  -- of the reaches at some places one is the greatest
  some-greatest : (parts : List Update) (from k : ℕ) → low ≤ from → from + k ≤ front_of more → ¬ (¬ ((n : ℕ) × IsGreatestReach ground more from (from + k) parts n))
  some-greatest parts from zero past within none = some-at from parts past (omega arith) (λ reach. none (
    reach.0,
    record {
      place = from;
      above = omega arith;
      below = omega arith;
      here = reach.1;
      greatest = λ v m up down h. reach-most (graph_at ground more from) ground.specs (forests_at ground.start more from) parts m reach.0
          (subst (λ (x : ℕ). IsReachAt ground more x parts m) (let same : v ≡ from = omega arith in same) h) reach.1;
    },
  ))
  some-greatest parts from (suc k) past within none = some-greatest parts from k past (omega arith) (λ best. some-at (from + suc k) parts (omega arith) within (λ last.
      elim (cases_lt best.0 last.0) [
        | inl more_last ↦ none (
          last.0,
          record {
            place = from + suc k;
            above = omega arith;
            below = omega arith;
            here = last.1;
            greatest = λ v m up down h. elim (cases_eq v (from + suc k)) [
              | inl same ↦ reach-most (graph_at ground more (from + suc k)) ground.specs (forests_at ground.start more (from + suc k)) parts m last.0
                  (subst (λ (x : ℕ). IsReachAt ground more x parts m) same h) last.1
              | inr other ↦ (let less = best.1.greatest v m up (omega arith) h in omega arith)
            ];
          },
        )
        | inr more_best ↦ none (
          best.0,
          record {
            place = best.1.place;
            above = best.1.above;
            below = (let down = best.1.below in omega arith);
            here = best.1.here;
            greatest = λ v m up down h. elim (cases_eq v (from + suc k)) [
              | inl same ↦ (let less = reach-most (graph_at ground more (from + suc k)) ground.specs (forests_at ground.start more (from + suc k)) parts m last.0
                  (subst (λ (x : ℕ). IsReachAt ground more x parts m) same h) last.1 in omega arith)
              | inr other ↦ best.1.greatest v m up (omega arith) h
            ];
          },
        )
      ]))

  -- so has a request that wanted memory
  some-want : (from : ℕ) → low ≤ from → from ≤ front_of more → (r : Request) → ¬ (¬ ((n : ℕ) × IsWantReach ground more from (front_of more) r n))
  some-want from past within (request.Submit e) none =
      subst (λ (to : ℕ). ¬ (¬ ((n : ℕ) × IsGreatestReach ground more from to e.parts n))) (let same : from + (front_of more - from) ≡ front_of more = omega arith in same)
      (some-greatest e.parts from (front_of more - from) past (omega arith)) none
  some-want from past within (request.Release session seq upto) none = none (0, refl)
  some-want from past within (request.Leave session seq) none = none (0, refl)

-- a turn has a reach
pub some-turn-reach : (ground : Ground) (records : List Record) (batch : List Request) (more : List Record) (outcomes : List Resolved) (visits : ℕ)
    (due : IsDue ground records batch) (a : IsTurnAccount ground records batch more outcomes visits) (e : EpochOf ground records batch more outcomes visits a)
    → ¬ (¬ ((n : ℕ) × IsTurnReach ground records batch [] more outcomes e.epoch n))
some-turn-reach ground records batch more outcomes visits due a e none =
    let first : List Record = records ++ records_of a.merged in
    let longer = trace-longer ground batch a.tail first more e.epoch.tail visits e.trace in
    let low : front_of records ≤ front_of first = front-first records (records_of a.merged) first refl in
    let high : front_of first ≤ front_of more = front-first first longer.0 more longer.1 in
    let right = turn-right ground records batch more outcomes visits due a in
    let proper : (v : ℕ) → front_of records ≤ v → IsProper (graph_at ground more v) = λ v past.
    proper-later ground.opening records (records_of a.merged ++ longer.0) more v due.proper (longer.1 ∙ append_assoc records (records_of a.merged) longer.0) past in
    let same : front e.epoch.sealed.book.lines ≡ front_of first = ap front e.sealed in
    some-numbers (λ i m. IsEntryReach ground more (front_of records + i) m) (front_of more - front_of records)
    (λ i less. some-entry ground more right (front_of records) proper (front_of records + i) (omega arith) (omega arith))
    (λ entries. some-pairs (IsWantReach ground more (front e.epoch.sealed.book.lines) (front_of more)) (filter_map (wanted_by batch) e.epoch.tail)
    (λ r. some-want ground more right (front_of records) proper (front e.epoch.sealed.book.lines) (omega arith) (omega arith) r)
    (λ wants. none (
      sum entries.0 + sum wants.0,
      record {
        entries = entries.0;
        wants = wants.0;
        all_entries = (let count = entries.1.count in omega arith);
        each_entry = entries.1.each;
        each_want = wants.1;
        total = refl;
      },
    )))
