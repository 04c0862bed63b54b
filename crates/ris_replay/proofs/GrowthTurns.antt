-- The visits that a turn may make where its lines take nothing away and none of its outcomes wants memory.
use Rattle.std.proofs.Common.{◌≡◌, ℕ, zero, suc, ◌+◌, ◌≤◌, ◌==◌, if◌then◌else◌, nat_lt, Bool, true, false, List, [], ◌∷◌, ◌++◌, length, map, Option, Some, None, arith, refl, sym, subst, ap, ◌∙◌, append_assoc, sum}
use Rattle.std.specs.List.{All, Contains, cons_option, filter_map, find, list_all, slice_get}
use Rattle.std.specs.Option.{IsSomeAnd}
use Rattle.std.proofs.lemmas.Bool.{and_parts, eq-eqb, true≢false}
use Rattle.std.proofs.lemmas.List.{append-nil}
use Rattle.std.proofs.lemmas.List.Elements.{All-head, All-tail, Contains-append_left, Contains-append_right}
use Rattle.std.proofs.lemmas.List.Sums.{sum_by-cons}
use Rattle.ris_algo.proofs.RecordLemmas.{lines_of-append}
use Rattle.ris_base.specs.Epoch.{Ground, IsEntryReach, IsEpoch, IsReachAt, IsTurnReach, IsWantReach, Resolved, is_of_tail, wanted_by}
use Rattle.ris_base.specs.Falling.{IsReach}
use Rattle.ris_base.specs.Forest.{Forest}
use Rattle.ris_base.specs.Lines.{entry_at, front}
use Rattle.ris_base.specs.Lists.{EachPair}
use Rattle.ris_base.specs.Machine.{Book, EntersOr, Happens, Known, Run, Seat, State, Step, entry_of, graph_of, lined, marked, session_by, told, told_seat}
use Rattle.ris_base.specs.Records.{AreRight, forests_at, lines_of}
use Rattle.ris_base.specs.Replies.{wants_memory}
use Rattle.ris_base.specs.Requests.{RefusedPart, after, entered, refusal_of, refused_at}
use Rattle.ris_base.specs.Visits.{IsReachOfGrowth, bare_forest, only_adds}
use Rattle.ris_base.specs.declared.graphs.PlainGraph.{PlainGraph}
use Rattle.ris_base.specs.declared.lines.Entry.{Entry}
use Rattle.ris_base.specs.declared.lines.Line.{Line}
use Rattle.ris_base.specs.declared.lines.Line.TheVariants as line
use Rattle.ris_base.specs.declared.records.Record.{Record}
use Rattle.ris_base.specs.declared.replies.LogLine.{LogLine}
use Rattle.ris_base.specs.declared.replies.LogLine.TheVariants.{Reply}
use Rattle.ris_base.specs.declared.replies.Outcome.TheVariants as outcome
use Rattle.ris_base.specs.declared.replies.Refusal.TheVariants as refusal
use Rattle.ris_base.specs.declared.requests.Request.{Request}
use Rattle.ris_base.proofs.LineLemmas.{after-append, after-entry, entry_at-here, front-append, front-entry, front-leave, front-mark}
use Rattle.ris_base.proofs.ListLemmas.{Contains-first, Contains-one}
use Rattle.ris_legal.proofs.Books.{put}
use Rattle.ris_rounds.proofs.Lists.{find-some}
use Rattle.ris_replay.specs.Visits.{grows}
use Rattle.ris_replay.proofs.GrowthReaches.{bare-reach}

-- Entries

-- the reaches of the last lines of records, behind some first ones
pub record HasEntryReaches (ground : Ground) (more : List Record) (from n : ℕ) : Type 0 where
  pub entries : List ℕ
  pub count : from + length entries ≡ front (lines_of more)
  pub total : sum entries ≡ n
  pub each : (i m : ℕ) → slice_get entries i ≡ Some m → IsEntryReach ground more (from + i) m

module _ (ground : Ground) (more : List Record) (right : AreRight ground.opening ground.specs ground.start more) where
  -- the reach of an entry with bare forests is its reach at its place
  entry-reach : (xs ys : List Line) (e : Entry) (own : ℕ) → xs ++ line.Entry e ∷ ys ≡ lines_of more → list_all only_adds e.parts ≡ true
      → IsReach (after ground.opening xs (front xs)) ground.specs (map bare_forest ground.specs) e.parts own → IsEntryReach ground more (front xs) own
  entry-reach xs ys e own are adds reach =
      let v : ℕ = front xs in
      let graph : after ground.opening xs v ≡ after ground.opening (lines_of more) v =
      sym (after-append ground.opening xs (line.Entry e ∷ ys) v (omega arith)) ∙ ap (λ (ls : List Line). after ground.opening ls v) are in
      let here : entry_at (lines_of more) (v + 1) ≡ Some e =
      ap (λ (ls : List Line). entry_at ls (v + 1)) (sym are) ∙ entry_at-here xs e ys in
      let all = ap front are in
      let split = front-append xs (line.Entry e ∷ ys) in
      let within : v ≤ front (lines_of more) = omega arith in
      subst (λ (o : Option Entry). IsSomeAnd o (λ x. IsReachAt ground more v x.parts own)) (sym here)
      (bare-reach (after ground.opening (lines_of more) v) ground.specs (forests_at ground.start more v) e.parts own adds (right.forests v within)
      (subst (λ (g : PlainGraph). IsReach g ground.specs (map bare_forest ground.specs) e.parts own) graph reach))

  -- and those of the entries behind it
  entry-each : (from next own : ℕ) (entries : List ℕ) → IsEntryReach ground more from own → next ≡ from + 1
      → ((i m : ℕ) → slice_get entries i ≡ Some m → IsEntryReach ground more (next + i) m)
      → (i m : ℕ) → slice_get (own ∷ entries) i ≡ Some m → IsEntryReach ground more (from + i) m
  entry-each from next own entries first place rest zero m at =
      let same : own ≡ m = (let w : Some own ≡ Some m = at in cc) in
      let none_more : from ≡ from + 0 = omega arith in
      subst (λ (v : ℕ). IsEntryReach ground more v m) none_more (subst (λ (k : ℕ). IsEntryReach ground more from k) same first)
  entry-each from next own entries first place rest (suc i) m at =
      let behind : next + i ≡ from + suc i = omega arith in
      subst (λ (v : ℕ). IsEntryReach ground more v m) behind (rest i m at)

  -- the graph behind a line that is no entry
  still : (xs : List Line) (l : Line) → front (xs ++ l ∷ []) ≡ front xs
      → after ground.opening xs (front xs) ≡ after ground.opening (xs ++ l ∷ []) (front (xs ++ l ∷ []))
  still xs l place =
      sym (after-append ground.opening xs (l ∷ []) (front xs) (omega arith)) ∙ ap (after ground.opening (xs ++ l ∷ [])) (sym place)

  -- the entries of lines that take nothing away have the reaches of growth
  pub entry-reaches : (xs ys : List Line) (n : ℕ) → xs ++ ys ≡ lines_of more → list_all grows ys ≡ true
      → IsReachOfGrowth (after ground.opening xs (front xs)) ground.specs ys n → HasEntryReaches ground more (front xs) n
  unfolding IsReachOfGrowth
  entry-reaches xs [] n are grown h =
      let all = ap front (sym (append-nil xs) ∙ are) in
      record { entries = []; count = omega arith; total = sym h; each = λ i m at. absurd (cc) }
  entry-reaches xs (line.Entry e ∷ ys) n are grown h =
      let adds = and_parts (list_all only_adds e.parts) (list_all grows ys) grown in
      let longer : List Line = xs ++ line.Entry e ∷ [] in
      let place : front longer ≡ front xs + 1 = front-entry xs e in
      let graph : after ground.opening longer (front longer) ≡ entered (after ground.opening xs (front xs)) e.parts =
      ap (after ground.opening longer) place ∙ after-entry ground.opening xs e in
      let rest = entry-reaches longer ys h.1 (append_assoc xs (line.Entry e ∷ []) ys ∙ are) adds.1
      (subst (λ (g : PlainGraph). IsReachOfGrowth g ground.specs ys h.1) (sym graph) h.4) in
      let own = entry-reach xs ys e h.0 are adds.0 h.3 in
      let sums : sum (h.0 ∷ rest.entries) ≡ h.0 + sum rest.entries = sum_by-cons (λ (k : ℕ). k) h.0 rest.entries in
      record {
        entries = h.0 ∷ rest.entries;
        count = (let c = rest.count in omega arith);
        total = (let t = rest.total in let split = h.2 in omega arith);
        each = entry-each (front xs) (front longer) h.0 rest.entries own place rest.each;
      }
  entry-reaches xs (line.Mark s q u ∷ ys) n are grown h =
      let l : Line = line.Mark s q u in
      let place = front-mark xs s q u in
      subst (λ (v : ℕ). HasEntryReaches ground more v n) place
      (entry-reaches (xs ++ l ∷ []) ys n (append_assoc xs (l ∷ []) ys ∙ are) grown
      (subst (λ (g : PlainGraph). IsReachOfGrowth g ground.specs ys n) (still xs l place) h))
  entry-reaches xs (line.Leave s q ∷ ys) n are grown h =
      let l : Line = line.Leave s q in
      let place = front-leave xs s q in
      subst (λ (v : ℕ). HasEntryReaches ground more v n) place
      (entry-reaches (xs ++ l ∷ []) ys n (append_assoc xs (l ∷ []) ys ∙ are) grown
      (subst (λ (g : PlainGraph). IsReachOfGrowth g ground.specs ys n) (still xs l place) h))

-- Replies of a tail

-- what a seat was told it is told still
abbrev Tells : Book → Book → Type 0
Tells old new = (n : ℕ) (k : Known) → Contains (old.seats n).replies k → Contains (new.seats n).replies k

told-tells : (b : Book) (s : ℕ) (reply : LogLine) → Tells b (told b s reply)
told-tells b s reply =
    put (λ (n : ℕ) (x : Seat). (k : Known) → Contains (b.seats n).replies k → Contains x.replies k) b.seats s (told_seat (b.seats s) reply (length b.lines))
    (λ k has. Contains-append_left (b.seats s).replies (record { reply = reply; knew = length b.lines } ∷ []) k has) (λ n k has. has)

told-has : (b : Book) (s : ℕ) (reply : LogLine) → Contains ((told b s reply).seats s).replies (record { reply = reply; knew = length b.lines })
told-has b s reply = go (s == s) refl
  where
    known : Known
    known = record { reply = reply; knew = length b.lines }

    go : (c : Bool) → (s == s) ≡ c → Contains (if c then told_seat (b.seats s) reply (length b.lines) else b.seats s).replies known
    go true e = Contains-append_right (b.seats s).replies (known ∷ []) known (Contains-first known [])
    go false e = absurd (true≢false (sym (eq-eqb s s refl) ∙ e))

enters-tells : (old : State) (e : Entry) (forests : List Forest) (new : State) (r : Option RefusedPart) → EntersOr old e forests new r → Tells old.book new.book
enters-tells old e forests new (Some r) h =
    subst (λ (x : State). Tells old.book x.book) (sym h.1) (told-tells old.book e.session (Reply (outcome.Refused (refused_at (front old.book.lines) r))))
enters-tells old e forests new None h =
    subst (λ (x : State). Tells old.book x.book) (sym h.1)
    (told-tells (record old.book { lines = old.book.lines ++ line.Entry e ∷ []; places = old.book.places ++ forests ∷ [] }) e.session
    (Reply (outcome.Placed (front old.book.lines + 1))))

marked-tells : (b : Book) (s seq upto : ℕ) → Tells b (marked b s seq upto)
marked-tells b s seq upto = go (nat_lt (front b.lines) upto)
  where
    go : (late : Bool) → Tells b (if late then told b s (Reply (outcome.NotYet (front b.lines))) else told (lined b (line.Mark s seq upto)) s (Reply (outcome.Marked (front b.lines) upto)))
    go true = told-tells b s (Reply (outcome.NotYet (front b.lines)))
    go false = told-tells (lined b (line.Mark s seq upto)) s (Reply (outcome.Marked (front b.lines) upto))

step-tells : (old : State) (step : Step) (new : State) → is_of_tail step ≡ true → Happens old step new → Tells old.book new.book
step-tells old (Step.Serial s forests) new is h = enters-tells old (entry_of s h.asked.seq h.parts) forests new (refusal_of (graph_of old.setup old.book) h.parts) h.after
step-tells old (Step.Mark s) new is h = subst (λ (x : State). Tells old.book x.book) (sym h.after) (marked-tells old.book s h.asked.seq h.upto)
step-tells old (Step.Leave s) new is h =
    subst (λ (x : State). Tells old.book x.book) (sym h.after)
    (told-tells (lined old.book (line.Leave s h.asked.seq)) s (Reply (outcome.Left (front old.book.lines))))
step-tells old (Step.Want s) new is h =
    subst (λ (x : State). Tells old.book x.book) (sym h.after) (told-tells old.book s (Reply (outcome.Refused refusal.NoMemory)))
step-tells old (Step.Cell k s) new is h = absurd (true≢false (sym is))
step-tells old (Step.Submit s r) new is h = absurd (true≢false (sym is))
step-tells old (Step.Take s) new is h = absurd (true≢false (sym is))
step-tells old (Step.Begin held) new is h = absurd (true≢false (sym is))
step-tells old (Step.Seal order) new is h = absurd (true≢false (sym is))
step-tells old Step.Publish new is h = absurd (true≢false (sym is))
step-tells old (Step.Read s q) new is h = absurd (true≢false (sym is))
step-tells old (Step.WantToRead s q) new is h = absurd (true≢false (sym is))

run-tells : (old : State) (steps : List Step) (new : State) → All (λ step. is_of_tail step ≡ true) steps → Run old steps new → Tells old.book new.book
unfolding Run
run-tells old [] new are h = subst (λ (x : State). Tells old.book x.book) (sym h) (λ n k has. has)
run-tells old (step ∷ steps) new are h = λ n k has.
    run-tells h.0 steps new (All-tail (λ x. is_of_tail x ≡ true) step steps are) h.2 n k
    (step-tells old step h.0 (All-head (λ x. is_of_tail x ≡ true) step steps are) h.1 n k has)

-- who has a request in the batch is told no want of memory
abbrev AreTold : List Request → Book → Type 0
AreTold batch b = (s : ℕ) (r : Request) → find (λ x. session_by x == s) batch ≡ Some r
    → (k : Known) → Contains (b.seats s).replies k → wants_memory k.reply ≡ false

-- so that no step of the tail answers such a request by want of memory
wanted-none : (batch : List Request) (old : State) (step : Step) (mid : State) (last : Book) → Happens old step mid → Tells mid.book last → AreTold batch last
    → wanted_by batch step ≡ None
wanted-none batch old (Step.Want s) mid last happens later fine = go (find (λ x. session_by x == s) batch) refl
  where
    go : (o : Option Request) → find (λ x. session_by x == s) batch ≡ o → o ≡ None
    go None is = refl
    go (Some r) is =
        let known : Known = record { reply = Reply (outcome.Refused refusal.NoMemory); knew = length old.book.lines } in
        let has : Contains (mid.book.seats s).replies known =
        subst (λ (x : State). Contains (x.book.seats s).replies known) (sym happens.after) (told-has old.book s (Reply (outcome.Refused refusal.NoMemory))) in
        let wants : true ≡ false = fine s r is known (later s known has) in
        absurd (true≢false wants)
wanted-none batch old (Step.Serial s forests) mid last happens later fine = refl
wanted-none batch old (Step.Mark s) mid last happens later fine = refl
wanted-none batch old (Step.Leave s) mid last happens later fine = refl
wanted-none batch old (Step.Cell k s) mid last happens later fine = refl
wanted-none batch old (Step.Submit s r) mid last happens later fine = refl
wanted-none batch old (Step.Take s) mid last happens later fine = refl
wanted-none batch old (Step.Begin held) mid last happens later fine = refl
wanted-none batch old (Step.Seal order) mid last happens later fine = refl
wanted-none batch old Step.Publish mid last happens later fine = refl
wanted-none batch old (Step.Read s q) mid last happens later fine = refl
wanted-none batch old (Step.WantToRead s q) mid last happens later fine = refl

none-wanted : (batch : List Request) (old : State) (steps : List Step) (new : State) → All (λ step. is_of_tail step ≡ true) steps → Run old steps new
    → AreTold batch new.book → filter_map (wanted_by batch) steps ≡ []
unfolding Run
none-wanted batch old [] new are h fine = refl
none-wanted batch old (step ∷ steps) new are h fine =
    let rest = All-tail (λ x. is_of_tail x ≡ true) step steps are in
    ap (λ (o : Option Request). cons_option o (filter_map (wanted_by batch) steps))
    (wanted-none batch old step h.0 new.book h.1 (run-tells h.0 steps new rest h.2) fine)
    ∙ none-wanted batch h.0 steps new rest h.2 fine

-- The turn

-- where the lines of a turn take nothing away and none of its outcomes wants memory, the reach of the lines is that of the turn
pub growth-turn : (ground : Ground) (records made : List Record) (batch : List Request) (outcomes : List Resolved)
    (epoch : IsEpoch ground records batch (records ++ made) outcomes) (n : ℕ) → AreRight ground.opening ground.specs ground.start (records ++ made)
    → ((o : Resolved) → Contains outcomes o → wants_memory (Reply o.outcome) ≡ false) → list_all grows (lines_of made) ≡ true
    → IsReachOfGrowth (after ground.opening (lines_of records) (front (lines_of records))) ground.specs (lines_of made) n
    → IsTurnReach ground records batch [] (records ++ made) outcomes epoch n
growth-turn ground records made batch outcomes epoch n right fine grown reach =
    let more : List Record = records ++ made in
    let all = entry-reaches ground more right (lines_of records) (lines_of made) n (sym (lines_of-append records made)) grown reach in
    let none = none-wanted batch epoch.sealed epoch.tail epoch.final epoch.are_of_tail epoch.to_final fine_seats in
    record {
      entries = all.entries;
      wants = [];
      all_entries = all.count;
      each_entry = all.each;
      each_want = subst (λ (rs : List Request). EachPair (IsWantReach ground more (front epoch.sealed.book.lines) (front (lines_of more))) rs []) (sym none) tt;
      total = (let t = all.total in omega arith);
    }
  where
    fine_seats : AreTold batch epoch.final.book
    fine_seats s r is k has =
        let found = find-some session_by batch s r is in
        let o = epoch.all r found.1 in
        let said = (epoch.each o.0 o.1).1 in
        let session : o.0.session ≡ s = o.2.0 ∙ found.0 in
        let one : Known = record { reply = Reply o.0.outcome; knew = said.knew } in
        let there : Contains (epoch.final.book.seats o.0.session).replies k =
        subst (λ (m : ℕ). Contains (epoch.final.book.seats m).replies k) (sym session) has in
        let same : one ≡ k = Contains-one one k (subst (λ (ks : List Known). Contains ks k) said.replies there) in
        subst (λ (x : Known). wants_memory x.reply ≡ false) same (fine o.0 o.1)
