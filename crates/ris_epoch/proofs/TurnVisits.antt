-- The visits of a turn's tail are at most those that its epoch may take.
use Rattle.std.proofs.Common.{◌≡◌, ℕ, zero, suc, ◌+◌, ◌-◌, ◌≤◌, inl, inr, List, [], ◌∷◌, ◌++◌, length, Option, Some, None, arith, refl, sym, subst, ap, ◌∙◌, append_assoc, sum, drop, length-drop}
use Rattle.std.specs.List.{filter_map, slice_get}
use Rattle.std.specs.Option.{IsSomeAnd}
use Rattle.std.proofs.lemmas.List.Sums.{sum_by-cons, sum_by-take-drop}
use Rattle.ris_base.specs.Epoch.{Ground, IsEntryReach, IsGreatestReach, IsReachAt, IsTurnReach, IsWantReach, Resolved, graph_at, wanted_by}
use Rattle.ris_base.specs.Falling.{IsReach}
use Rattle.ris_base.specs.Forest.{Forest}
use Rattle.ris_base.specs.Graph.{IsProper}
use Rattle.ris_base.specs.Lines.{entry_at, front}
use Rattle.ris_base.specs.Lists.{EachPair}
use Rattle.ris_base.specs.Machine.{Step}
use Rattle.ris_base.specs.Records.{AreRight, forests_at, lines_of, opening_forests}
use Rattle.ris_base.specs.Requests.{after}
use Rattle.ris_base.specs.declared.graphs.PlainGraph.{PlainGraph}
use Rattle.ris_base.specs.declared.lines.Entry.{Entry}
use Rattle.ris_base.specs.declared.lines.Line.{Line}
use Rattle.ris_base.specs.declared.records.Change.{Change}
use Rattle.ris_base.specs.declared.records.Record.{Record}
use Rattle.ris_base.specs.declared.requests.Request.{Request}
use Rattle.ris_base.specs.declared.requests.Request.TheVariants as request
use Rattle.ris_base.specs.declared.updates.Update.{Update}
use Rattle.ris_base.proofs.LineLemmas.{after-append, entry_at-here, front-append}
use Rattle.ris_epoch.specs.Account.{IsTurnAccount, IsWithinReach, entry_record, front_of, records_of}
use Rattle.ris_epoch.specs.Laws.{IsDue}
use Rattle.ris_algo.proofs.RecordLemmas.{forests_after-append, lines_of-append, proper-later}
use Rattle.ris_epoch.proofs.SealRuns.{front-more}
use Rattle.ris_algo.proofs.ReachExists.{within_reach}
use Rattle.ris_epoch.proofs.TailRuns.{IsAnswered, IsTrace}
use Rattle.ris_epoch.proofs.TurnEpochs.{EpochOf, trace-longer}
use Rattle.ris_epoch.proofs.TurnRight.{turn-right}

-- First records

-- first records have no more entries
pub front-first : (records extra more : List Record) → more ≡ records ++ extra → front_of records ≤ front_of more
front-first records extra more is =
    let e : front_of more ≡ front_of records + front_of extra = ap front_of is ∙ ap front (lines_of-append records extra) ∙ front-append (lines_of records) (lines_of extra) in
    omega arith

-- a reach at a place of first records is one of all
pub reach-first : (ground : Ground) (records extra more : List Record) (v : ℕ) (parts : List Update) (n : ℕ) → more ≡ records ++ extra → v ≤ front_of records
    → IsReachAt ground more v parts n → IsReachAt ground records v parts n
reach-first ground records extra more v parts n is within h =
    subst (λ (g : PlainGraph). IsReach g ground.specs (forests_at ground.start records v) parts n)
    (ap (λ (rs : List Record). graph_at ground rs v) is ∙ ap (λ (ls : List Line). after ground.opening ls v) (lines_of-append records extra) ∙ after-append ground.opening (lines_of records) (lines_of extra) v within)
    (subst (λ (fs : List Forest). IsReach (graph_at ground more v) ground.specs fs parts n)
    (ap (λ (rs : List Record). forests_at ground.start rs v) is ∙ forests_after-append (opening_forests ground.start) records extra v within) h)

-- the entry behind first records
entry-behind : (records extra more : List Record) (e : Entry) (changes : List Change) → more ≡ (records ++ entry_record e changes ∷ []) ++ extra
    → entry_at (lines_of more) (front_of records + 1) ≡ Some e
entry-behind records extra more e changes is =
    ap (λ (rs : List Record). entry_at (lines_of rs) (front_of records + 1)) (is ∙ append_assoc records (entry_record e changes ∷ []) extra)
    ∙ ap (λ (ls : List Line). entry_at ls (front_of records + 1)) (lines_of-append records (entry_record e changes ∷ extra))
    ∙ entry_at-here (lines_of records) e (lines_of extra)

-- Wanted memory

module _ (ground : Ground) (more : List Record) (right : AreRight ground.opening ground.specs ground.start more) (from : ℕ)
    (proper : (v : ℕ) → from ≤ v → IsProper (graph_at ground more v)) where
  -- visits that are at most the reach at a place are at most the greatest one
  want-reach : (v : ℕ) (parts : List Update) (own n : ℕ) → from ≤ v → v ≤ front_of more → IsGreatestReach ground more from (front_of more) parts n
      → ((m : ℕ) → IsReachAt ground more v parts m → own ≤ m) → own ≤ n
  want-reach v parts own n low high greatest within =
      within_reach (graph_at ground more v) ground.specs (forests_at ground.start more v) parts own n (proper v low) (right.forests v high)
      (λ m h. (let a = within m h in let b = greatest.greatest v m low high h in omega arith))

  -- the same for any request
  want-visits : (r : Request) (records extra : List Record) (own n : ℕ) → more ≡ records ++ extra → from ≤ front_of records
      → IsWantReach ground more from (front_of more) r n → IsWithinReach ground records r own → own ≤ n
  want-visits (request.Submit e) records extra own n is low greatest within =
      let high = front-first records extra more is in
      want-reach (front_of records) e.parts own n low high greatest
      (λ m h. within m (reach-first ground records extra more (front_of records) e.parts m is (omega arith) h))
  want-visits (request.Release session seq upto) records extra own n is low none within = omega arith
  want-visits (request.Leave session seq) records extra own n is low none within = omega arith

-- Steps

-- a step that answers nothing by want of memory
wanted-none : (batch : List Request) (step : Step) (steps : List Step) → wanted_by batch step ≡ None
    → filter_map (wanted_by batch) (step ∷ steps) ≡ filter_map (wanted_by batch) steps
wanted-none batch step steps is = rw is refl

-- a step that answers a request so
wanted-some : (batch : List Request) (step : Step) (steps : List Step) (r : Request) → wanted_by batch step ≡ Some r
    → filter_map (wanted_by batch) (step ∷ steps) ≡ r ∷ filter_map (wanted_by batch) steps
wanted-some batch step steps r is = rw is refl

-- The tail

module _ (ground : Ground) (batch : List Request) (more : List Record) (right : AreRight ground.opening ground.specs ground.start more) (from : ℕ)
    (proper : (v : ℕ) → from ≤ v → IsProper (graph_at ground more v)) where
  -- what entries and wants of a tail behind records are
  record AreCounts (records : List Record) (steps : List Step) (entries wants : List ℕ) : Type 0 where
    low : from ≤ front_of records
    all_entries : front_of records + length entries ≡ front_of more
    each_entry : (i m : ℕ) → slice_get entries i ≡ Some m → IsEntryReach ground more (front_of records + i) m
    each_want : EachPair (IsWantReach ground more from (front_of more)) (filter_map (wanted_by batch) steps) wants

  -- the first request becomes an entry
  visits-growth : (records next extra : List Record) (e : Entry) (changes : List Change) (step : Step) (steps : List Step) (own others : ℕ) (entries wants : List ℕ)
      → next ≡ records ++ entry_record e changes ∷ [] → more ≡ next ++ extra → wanted_by batch step ≡ None → IsWithinReach ground records (request.Submit e) own
      → AreCounts records (step ∷ steps) entries wants → ((es ws : List ℕ) → AreCounts next steps es ws → others ≤ sum es + sum ws) → own + others ≤ sum entries + sum wants
  visits-growth records next extra e changes step steps own others [] wants longer is none within c rest = absurd (
      let up = ap front_of longer ∙ front-more records e (entry_record e changes) refl in
      let least = front-first next extra more is in
      let all = c.all_entries in
      omega arith)
  visits-growth records next extra e changes step steps own others (m ∷ entries) wants longer is none within c rest =
      let up : front_of next ≡ front_of records + 1 = ap front_of longer ∙ front-more records e (entry_record e changes) refl in
      let low = c.low in
      let all = c.all_entries in
      let whole : more ≡ (records ++ entry_record e changes ∷ []) ++ extra = is ∙ ap (λ (x : List Record). x ++ extra) longer in
      let zero_up : front_of records + 0 ≡ front_of records = omega arith in
      let here : IsSomeAnd (entry_at (lines_of more) (front_of records + 1)) (λ d. IsReachAt ground more (front_of records) d.parts m) =
      subst (λ (v : ℕ). IsEntryReach ground more v m) zero_up (c.each_entry 0 m refl) in
      let reach : IsReachAt ground more (front_of records) e.parts m =
      subst (λ (o : Option Entry). IsSomeAnd o (λ d. IsReachAt ground more (front_of records) d.parts m)) (entry-behind records extra more e changes whole) here in
      let first = within m (reach-first ground records (entry_record e changes ∷ extra) more (front_of records) e.parts m
      (whole ∙ append_assoc records (entry_record e changes ∷ []) extra) (omega arith) reach) in
      let later = rest entries wants (record {
        low = omega arith;
        all_entries = omega arith;
        each_entry = λ i k at. (let shift : front_of records + suc i ≡ front_of next + i = omega arith in
            subst (λ (v : ℕ). IsEntryReach ground more v k) shift (c.each_entry (suc i) k at));
        each_want = subst (λ (rs : List Request). EachPair (IsWantReach ground more from (front_of more)) rs wants) (wanted-none batch step steps none) c.each_want;
      }) in
      let sums : sum (m ∷ entries) ≡ m + sum entries = sum_by-cons (λ x. x) m entries in
      omega arith

  -- the first request wants memory
  visits-want : (records next extra : List Record) (r : Request) (step : Step) (steps : List Step) (own others : ℕ) (entries wants : List ℕ)
      → next ≡ records → more ≡ next ++ extra → wanted_by batch step ≡ Some r → IsWithinReach ground records r own
      → AreCounts records (step ∷ steps) entries wants → ((es ws : List ℕ) → AreCounts next steps es ws → others ≤ sum es + sum ws) → own + others ≤ sum entries + sum wants
  visits-want records next extra r step steps own others entries wants same is some within c rest =
      go wants (subst (λ (rs : List Request). EachPair (IsWantReach ground more from (front_of more)) rs wants) (wanted-some batch step steps r some) c.each_want)
    where
      go : (ws : List ℕ) → EachPair (IsWantReach ground more from (front_of more)) (r ∷ filter_map (wanted_by batch) steps) ws → own + others ≤ sum entries + sum ws
      go [] h = absurd h
      go (w ∷ ws) h =
          let first = want-visits ground more right from proper r records extra own w (is ∙ ap (λ (x : List Record). x ++ extra) same) c.low h.0 within in
          let front_same : front_of next ≡ front_of records = ap front_of same in
          let low = c.low in
          let all = c.all_entries in
          let later = rest entries ws (record {
            low = omega arith;
            all_entries = omega arith;
            each_entry = λ i k at. subst (λ (v : ℕ). IsEntryReach ground more (v + i) k) (sym front_same) (c.each_entry i k at);
            each_want = h.1;
          }) in
          let sums : sum (w ∷ ws) ≡ w + sum ws = sum_by-cons (λ x. x) w ws in
          omega arith

  -- the first request makes no entry and takes no visits
  visits-stay : (records next : List Record) (step : Step) (steps : List Step) (own others : ℕ) (entries wants : List ℕ)
      → front_of next ≡ front_of records → own ≡ 0 → wanted_by batch step ≡ None
      → AreCounts records (step ∷ steps) entries wants → ((es ws : List ℕ) → AreCounts next steps es ws → others ≤ sum es + sum ws) → own + others ≤ sum entries + sum wants
  visits-stay records next step steps own others entries wants same zero_own none c rest =
      let low = c.low in
      let all = c.all_entries in
      let later = rest entries wants (record {
        low = omega arith;
        all_entries = omega arith;
        each_entry = λ i k at. subst (λ (v : ℕ). IsEntryReach ground more (v + i) k) (sym same) (c.each_entry i k at);
        each_want = subst (λ (rs : List Request). EachPair (IsWantReach ground more from (front_of more)) rs wants) (wanted-none batch step steps none) c.each_want;
      }) in
      omega arith

  -- the visits of a tail are at most the reaches of its entries and wants
  trace-visits : (tail : List Request) (records : List Record) (steps : List Step) (visits : ℕ) (entries wants : List ℕ) → IsTrace ground batch records tail more steps visits
      → AreCounts records steps entries wants → visits ≤ sum entries + sum wants
  unfolding IsTrace
  trace-visits [] records steps visits entries wants h c = let none = h.2 in omega arith
  trace-visits (r ∷ tail) records steps visits entries wants h c =
      let longer = trace-longer ground batch tail h.0 more h.2 h.4 h.7 in
      let all = go longer.0 longer.1 h.5 (subst (λ (xs : List Step). AreCounts records xs entries wants) h.8 c) (λ es ws d. trace-visits tail h.0 h.2 h.4 es ws h.7 d) in
      let sum_is = h.9 in
      omega arith
    where
      go : (extra : List Record) → more ≡ h.0 ++ extra → IsAnswered batch records r h.0 h.1 h.3 → AreCounts records (h.1 ∷ h.2) entries wants
          → ((es ws : List ℕ) → AreCounts h.0 h.2 es ws → h.4 ≤ sum es + sum ws) → h.3 + h.4 ≤ sum entries + sum wants
      go extra is (inl a) d rest =
          visits-growth records h.0 extra a.0.entry a.0.changes h.1 h.2 h.3 h.4 entries wants a.0.longer is a.1 (subst (λ (x : Request). IsWithinReach ground records x h.3) a.0.is h.6) d rest
      go extra is (inr (inl a)) d rest = visits-stay records h.0 h.1 h.2 h.3 h.4 entries wants a.0.same a.0.none a.1 d rest
      go extra is (inr (inr a)) d rest = visits-want records h.0 extra r h.1 h.2 h.3 h.4 entries wants a.0 is a.1 h.6 d rest

-- The turn

-- the items behind first ones
get-drop : (k : ℕ) (xs : List ℕ) (i m : ℕ) → slice_get (drop k xs) i ≡ Some m → slice_get xs (k + i) ≡ Some m
get-drop zero xs i m h = let e : 0 + i ≡ i = omega arith in rw e h
get-drop (suc k) [] i m h = absurd (cc)
get-drop (suc k) (x ∷ xs) i m h = let e : suc k + i ≡ suc (k + i) = omega arith in rw e (get-drop k xs i m h)

-- the visits of a turn
pub turn-visits : (ground : Ground) (records : List Record) (batch : List Request) (more : List Record) (outcomes : List Resolved) (visits : ℕ)
    (due : IsDue ground records batch) (a : IsTurnAccount ground records batch more outcomes visits) (e : EpochOf ground records batch more outcomes visits a)
    (n : ℕ) → IsTurnReach ground records batch [] more outcomes e.epoch n → visits ≤ n
turn-visits ground records batch more outcomes visits due a e n reach =
    let first : List Record = records ++ records_of a.merged in
    let longer = trace-longer ground batch a.tail first more e.epoch.tail visits e.trace in
    let low : front_of records ≤ front_of first = front-first records (records_of a.merged) first refl in
    let high : front_of first ≤ front_of more = front-first first longer.0 more longer.1 in
    let all = reach.all_entries in
    let k : ℕ = front_of first - front_of records in
    let long : k + length (drop k reach.entries) ≡ length reach.entries = let l = length-drop k reach.entries in omega arith in
    let same : front e.epoch.sealed.book.lines ≡ front_of first = ap front e.sealed in
    let bound = trace-visits ground batch more (turn-right ground records batch more outcomes visits due a) (front_of first)
    (λ v past. proper-later ground.opening records (records_of a.merged ++ longer.0) more v due.proper (longer.1 ∙ append_assoc records (records_of a.merged) longer.0) (omega arith)) a.tail first e.epoch.tail visits
    (drop k reach.entries) reach.wants e.trace (record {
      low = omega arith;
      all_entries = omega arith;
      each_entry = λ i m at. (let shift : front_of records + (k + i) ≡ front_of first + i = omega arith in
          subst (λ (v : ℕ). IsEntryReach ground more v m) shift (reach.each_entry (k + i) m (get-drop k reach.entries i m at)));
      each_want = subst (λ (from : ℕ). EachPair (IsWantReach ground more from (front_of more)) (filter_map (wanted_by batch) e.epoch.tail) reach.wants) same reach.each_want;
    }) in
    let less = sum_by-take-drop (λ x. x) reach.entries k in
    let total = reach.total in
    omega arith
