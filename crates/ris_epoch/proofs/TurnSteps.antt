-- A sealed turn whose tail is handled is an epoch.
use Rattle.std.proofs.Common.{◌≡◌, ℕ, suc, ◌+◌, ◌≤◌, inl, inr, Bool, List, [], ◌∷◌, ◌++◌, length, map, arith, refl, sym, subst, ap, ◌∙◌, append_assoc}
use Rattle.std.specs.List.{Contains, filter}
use Rattle.std.proofs.lemmas.List.{append-nil, length-map}
use Rattle.std.proofs.lemmas.List.Elements.{Contains-append_left, Contains-append_right}
use Rattle.ris_base.specs.Epoch.{Ground, IsEpoch, IsTurnReach, Resolved}
use Rattle.ris_base.specs.Lines.{front}
use Rattle.ris_base.specs.Machine.{Decided, Step, stripe_of}
use Rattle.ris_base.specs.declared.lines.Entry.{Entry}
use Rattle.ris_base.specs.declared.records.Record.{Record}
use Rattle.ris_base.specs.declared.requests.Request.{Request}
use Rattle.ris_base.specs.declared.requests.Request.TheVariants as request
use Rattle.ris_base.proofs.ListLemmas.{Contains-filter, Contains-none}
use Rattle.ris_graph.specs.Ticks.{IsRise}
use Rattle.ris_graph.proofs.ListFacts.{AllPairs-nil}
use Rattle.ris_epoch.specs.Account.{IsSplit, IsTail, IsTurnAccount, decided_behind, decisions_on, forests_behind, front_of, graph_behind, is_bounced, is_candidate_behind, records_of}
use Rattle.ris_epoch.specs.Driving.{no_memory_for}
use Rattle.ris_epoch.specs.DriverView.{DriverView, StandsFor}
use Rattle.ris_epoch.specs.Laws.{IsDue}
use Rattle.ris_epoch.specs.Ordering.{AreOrdered}
use Rattle.ris_epoch.specs.TurnOrder.{IsInOrder, IsSealedBefore}
use Rattle.ris_epoch.specs.Turning.{HandlesAll, HasBegun, HasSealed}
use Rattle.ris_epoch.proofs.AccountSteps.{outcomes_of-none, records_of-none}
use Rattle.ris_epoch.proofs.Deciding.{decided-entry}
use Rattle.ris_epoch.proofs.OrderingLemmas.{ordered-once}
use Rattle.ris_epoch.proofs.Splits.{parts-of, submits}
use Rattle.ris_epoch.proofs.Stands.{Contains-map, Contains-mapped}
use Rattle.ris_epoch.proofs.TailRuns.{IsTrace}
use Rattle.ris_epoch.proofs.TurnEpochs.{turn-epoch}
use Rattle.ris_epoch.proofs.TurnOrders.{epoch-in-order}
use Rattle.ris_epoch.proofs.TurnVisits.{front-first, turn-visits}

-- a list without length is empty
pub empty-of : {X : Type 0} (xs : List X) → length xs ≡ 0 → xs ≡ []
empty-of [] h = refl
empty-of (x ∷ xs) h = absurd (omega arith)

-- without candidates nothing is left to seal
pub sealed-none : (ground : Ground) (records : List Record) {inserts : ℕ} (batch : List Request) (d : DriverView) (rest : List Request) → HasBegun ground records inserts batch d [] rest
    → HasSealed ground records batch d rest
unfolding decided_behind
sealed-none ground records batch d rest h =
    let none : h.candidates ≡ [] = empty-of h.candidates (sym h.many) in record {
      wanting = h.wanting;
      candidates = [];
      others = rest;
      merged = [];
      split = subst (λ (c : List Entry). IsSplit (is_candidate_behind ground records) batch h.wanting c rest) none h.split;
      merge = λ k. refl;
      rises = AllPairs-nil (λ (d later : Decided). IsSealedBefore (stripe_of d.entry.parts) d.entry.session (stripe_of later.entry.parts) later.entry.session);
      ordered = h.ordered;
      each = λ r. (λ at. inl at, λ at. elim at [ inl here ↦ here | inr back ↦ absurd (Contains-none r back) ]);
      stands = subst (λ (rs : List Record). StandsFor d ground rs) (sym (ap (λ (rs : List Record). records ++ rs) records_of-none ∙ append-nil records)) h.stands;
      made = h.none ∙ sym records_of-none;
      told = h.told ∙ sym (ap (λ (os : List Resolved). map no_memory_for h.wanting ++ os) (outcomes_of-none (front_of records)) ∙ append-nil (map no_memory_for h.wanting));
    }

-- a split keeps the number of requests
length-split : (test : Request → Bool) (batch : List Request) (w c : List Entry) (o : List Request) → IsSplit test batch w c o → length w + length c + length o ≡ length batch
unfolding IsSplit
length-split test [] w c o h = (let none_w = ap length h.0 in let none_c = ap length h.1 in let none_o = ap length h.2 in omega arith)
length-split test (r ∷ batch) w c o (inl h) = (let rest = length-split test batch h.1 c o h.5 in let one = ap length h.4 in omega arith)
length-split test (r ∷ batch) w c o (inr (inl h)) = (let rest = length-split test batch w h.1 o h.5 in let one = ap length h.4 in omega arith)
length-split test (r ∷ batch) w c o (inr (inr h)) = (let rest = length-split test batch w c h.0 h.3 in let one = ap length h.2 in omega arith)

-- each request of a batch that is split is told that it gets no memory, is a candidate, or waits
pub length-begun : (ground : Ground) (records : List Record) {inserts : ℕ} (batch : List Request) (d : DriverView) (order : List Entry) (rest : List Request)
    → HasBegun ground records inserts batch d order rest → length d.replies + length rest + length order ≡ length batch
length-begun ground records batch d order rest h =
    let all = length-split (is_candidate_behind ground records) batch h.wanting h.candidates rest h.split in
    let told = ap length h.told ∙ length-map h.wanting no_memory_for in
    let many = h.many in
    omega arith

-- the front never falls
pub front-stands : (d e : DriverView) (ground : Ground) (records more : List Record) → StandsFor d ground records → StandsFor e ground (records ++ more)
    → front d.journal.lines ≤ front e.journal.lines
front-stands d e ground records more before after =
    let up = front-first records more (records ++ more) refl in
    let here = ap front before.lines in
    let there = ap front after.lines in
    omega arith

-- as many steps answer a tail as it has requests
trace-length : (ground : Ground) (batch : List Request) (tail : List Request) (records more : List Record) (steps : List Step) (visits : ℕ)
    → IsTrace ground batch records tail more steps visits → length tail ≡ length steps
unfolding IsTrace
trace-length ground batch [] records more steps visits h = sym (ap length h.1)
trace-length ground batch (r ∷ tail) records more steps visits h = ap suc (trace-length ground batch tail h.0 more h.2 h.4 h.7) ∙ sym (ap length h.8)

module _ (ground : Ground) (records : List Record) (batch : List Request) (middle new : DriverView) (tail : List Request) (before after : ℕ)
    (due : IsDue ground records batch) (s : HasSealed ground records batch middle tail) (h : HandlesAll ground (records ++ records_of s.merged) tail middle new before after) where
  -- the records of the turn
  all-records : (records ++ records_of s.merged) ++ h.made ≡ records ++ new.records
  all-records = append_assoc records (records_of s.merged) h.made ∙ ap (λ (rs : List Record). records ++ rs) (sym (h.records_are ∙ ap (λ (rs : List Record). rs ++ h.made) s.made))

  -- the account of the turn
  account : IsTurnAccount ground records batch (records ++ new.records) new.replies h.own
  account = record {
    wanting = s.wanting;
    candidates = s.candidates;
    others = s.others;
    merged = s.merged;
    tail = tail;
    handled = h.outcomes;
    split = s.split;
    merge = s.merge;
    once = ordered-once 0 tail s.ordered;
    each = s.each;
    handles = subst (λ (rs : List Record). IsTail ground (records ++ records_of s.merged) tail rs h.outcomes h.own) all-records h.handled;
    told = h.replies_are ∙ ap (λ (os : List Resolved). os ++ h.outcomes) s.told;
  }

  -- it is an epoch, takes no more visits than that may, and handles as many requests in its tail
  pub turned : (epoch : IsEpoch ground records batch (records ++ new.records) new.replies) × StandsFor new ground (records ++ new.records)
      × ((n : ℕ) → IsTurnReach ground records batch [] (records ++ new.records) new.replies epoch n → IsRise before after n) × (length tail ≡ length epoch.tail)
  unfolding account
  turned =
      let e = turn-epoch ground records batch (records ++ new.records) new.replies h.own due.taken account in (
        e.epoch,
        subst (λ (rs : List Record). StandsFor new ground rs) all-records h.stands,
        λ n reach. record {
          ticks = h.own;
          few = turn-visits ground records batch (records ++ new.records) new.replies h.own due account e n reach;
          rose = h.rose;
        },
        trace-length ground batch tail (records ++ records_of s.merged) (records ++ new.records) e.epoch.tail h.own e.trace,
      )

  -- and goes in order
  pub turned-in-order : AreOrdered 0 batch → (epoch : IsEpoch ground records batch (records ++ new.records) new.replies) × IsInOrder batch epoch.cells epoch.order epoch.tail
  unfolding account
  turned-in-order ordered =
      let e = turn-epoch ground records batch (records ++ new.records) new.replies h.own due.taken account in
      (e.epoch, epoch-in-order ground records batch (records ++ new.records) new.replies h.own account ordered e s.rises s.ordered)

-- who waits behind the seal is of the batch
pub tail-known : (ground : Ground) (records : List Record) (batch : List Request) (d : DriverView) (tail : List Request) (s : HasSealed ground records batch d tail)
    → (r : Request) → Contains tail r → Contains batch r
tail-known ground records batch d tail s r at =
    let parts = parts-of (is_candidate_behind ground records) batch s.wanting s.candidates s.others s.split in
    elim ((s.each r).0 at) [
      | inl other ↦ parts.from r (Contains-append_right (submits s.wanting) (submits s.candidates ++ s.others) r (Contains-append_right (submits s.candidates) s.others r other))
      | inr back ↦ (let d = Contains-map (λ (x : Decided). request.Submit x.entry) (filter is_bounced (decisions_on ground records s.candidates)) r back in
          let e = decided-entry (graph_behind ground records) (forests_behind ground records) [] s.candidates d.0 (Contains-filter is_bounced (decisions_on ground records s.candidates) d.0 d.1).0 in
          subst (λ (x : Request). Contains batch x) d.2 (parts.from (request.Submit d.0.entry) (Contains-append_right (submits s.wanting) (submits s.candidates ++ s.others) (request.Submit d.0.entry)
          (Contains-append_left (submits s.candidates) s.others (request.Submit d.0.entry) (Contains-mapped (λ (x : Entry). request.Submit x) s.candidates d.0.entry e)))))
    ]
