-- A turn goes in order.
use Rattle.std.proofs.Common.{◌≡◌, ℕ, ◌+◌, ◌<◌, ◌≤◌, inl, inr, Bool, List, [], ◌∷◌, ◌++◌, arith, sym, subst, ap}
use Rattle.std.specs.List.{All, AllPairs, Contains}
use Rattle.std.proofs.lemmas.List.Elements.{All-cons, All-nil, All-weaker, Contains-append_left, Contains-append_right}
use Rattle.std.proofs.lemmas.List.Kept.{AllPairs-cons}
use Rattle.ris_base.specs.Epoch.{Ground, Resolved}
use Rattle.ris_base.specs.Machine.{Decided, Step, session_by, stripe_of}
use Rattle.ris_base.specs.declared.lines.Entry.{Entry}
use Rattle.ris_base.specs.declared.records.Record.{Record}
use Rattle.ris_base.specs.declared.requests.Request.{Request}
use Rattle.ris_base.specs.declared.requests.Request.TheVariants as request
use Rattle.ris_base.proofs.ListLemmas.{All-from_Contains}
use Rattle.ris_graph.proofs.ListFacts.{AllPairs-nil}
use Rattle.ris_epoch.specs.Account.{IsSplit, IsTurnAccount, decisions_on, forests_behind, graph_behind, is_candidate_behind}
use Rattle.ris_epoch.specs.Ordering.{AreOrdered}
use Rattle.ris_epoch.specs.TurnOrder.{IsInOrder, IsSealedBefore, session_in, stripe_among, stripe_found, stripe_in}
use Rattle.ris_epoch.specs.Turning.{AreSealed}
use Rattle.ris_epoch.proofs.CellRuns.{cell_on}
use Rattle.ris_epoch.proofs.Deciding.{decided-entry, merged-in}
use Rattle.ris_epoch.proofs.OrderingLemmas.{ordered-bounds, ordered-once}
use Rattle.ris_epoch.proofs.Pairs.{AllPairs-map, AllPairs-unmap, AllPairs-weaker}
use Rattle.ris_epoch.proofs.Seatings.{find-here}
use Rattle.ris_epoch.proofs.Splits.{parts-of, submits}
use Rattle.ris_epoch.proofs.Stands.{Contains-mapped}
use Rattle.ris_epoch.proofs.TurnEpochs.{EpochOf}

-- Sessions that ascend

-- of ordered requests each has a lesser session than each later one
ordered-pairs : (low : ℕ) (rs : List Request) → AreOrdered low rs → AllPairs (λ r later. session_by r < session_by later) rs
ordered-pairs low [] h = AllPairs-nil (λ (r later : Request). session_by r < session_by later)
ordered-pairs low (r ∷ rs) h =
    AllPairs-cons (λ (x later : Request). session_by x < session_by later) r rs
    (All-from_Contains (λ (x : Request). session_by r < session_by x) rs (λ x at. (let up = (ordered-bounds (session_by r + 1) rs x h.1 at).0 in omega arith)))
    (ordered-pairs (session_by r + 1) rs h.1)

-- and so have the candidates of an ordered batch
candidates-rise : (test : Request → Bool) (low : ℕ) (batch : List Request) (w c : List Entry) (o : List Request) → IsSplit test batch w c o → AreOrdered low batch
    → All (λ e. low ≤ e.session) c × AllPairs (λ e later. e.session < later.session) c
unfolding IsSplit
candidates-rise test low [] w c o h ordered =
    subst (λ (es : List Entry). All (λ (e : Entry). low ≤ e.session) es × AllPairs (λ (e later : Entry). e.session < later.session) es) (sym h.1)
    (All-nil (λ (e : Entry). low ≤ e.session), AllPairs-nil (λ (e later : Entry). e.session < later.session))
candidates-rise test low (r ∷ batch) w c o (inl h) ordered =
    let rest = candidates-rise test (session_by r + 1) batch h.1 c o h.5 ordered.1 in
    let first = ordered.0 in
    (All-weaker (λ (e : Entry). session_by r + 1 ≤ e.session) (λ (e : Entry). low ≤ e.session) (λ e up. omega arith) c rest.0, rest.1)
candidates-rise test low (r ∷ batch) w c o (inr (inl h)) ordered =
    let rest = candidates-rise test (session_by r + 1) batch w h.1 o h.5 ordered.1 in
    let first = ordered.0 in
    let own = ap session_by h.2 in
    subst (λ (es : List Entry). All (λ (e : Entry). low ≤ e.session) es × AllPairs (λ (e later : Entry). e.session < later.session) es) (sym h.4) (
      All-cons (λ (e : Entry). low ≤ e.session) h.0 h.1 (omega arith)
          (All-weaker (λ (e : Entry). session_by r + 1 ≤ e.session) (λ (e : Entry). low ≤ e.session) (λ e up. omega arith) h.1 rest.0),
      AllPairs-cons (λ (e later : Entry). e.session < later.session) h.0 h.1
          (All-weaker (λ (e : Entry). session_by r + 1 ≤ e.session) (λ (e : Entry). h.0.session < e.session) (λ e up. omega arith) h.1 rest.0) rest.1,
    )
candidates-rise test low (r ∷ batch) w c o (inr (inr h)) ordered =
    let rest = candidates-rise test (session_by r + 1) batch w c h.0 h.3 ordered.1 in
    let first = ordered.0 in
    (All-weaker (λ (e : Entry). session_by r + 1 ≤ e.session) (λ (e : Entry). low ≤ e.session) (λ e up. omega arith) c rest.0, rest.1)

-- The parts of a turn

module _ (ground : Ground) (records : List Record) (batch : List Request) (more : List Record) (outcomes : List Resolved) (visits : ℕ)
    (a : IsTurnAccount ground records batch more outcomes visits) (ordered : AreOrdered 0 batch) where
  -- the stripe of a candidate's session is the candidate's
  stripe-is : (e : Entry) → Contains a.candidates e → stripe_among batch e.session ≡ stripe_of e.parts
  stripe-is e at =
      let parts = parts-of (is_candidate_behind ground records) batch a.wanting a.candidates a.others a.split in
      ap stripe_found (find-here batch (request.Submit e) (ordered-once 0 batch ordered)
      (parts.from (request.Submit e) (Contains-append_right (submits a.wanting) (submits a.candidates ++ a.others) (request.Submit e)
      (Contains-append_left (submits a.candidates) a.others (request.Submit e) (Contains-mapped (λ (x : Entry). request.Submit x) a.candidates e at)))))

  -- a merged decision is on a candidate
  merged-is : (d : Decided) → Contains a.merged d → stripe_among batch d.entry.session ≡ stripe_of d.entry.parts
  merged-is d at = stripe-is d.entry (decided-entry (graph_behind ground records) (forests_behind ground records) [] a.candidates d
      (merged-in (decisions_on ground records a.candidates) a.merged a.merge d at).0)

  -- the epoch of an account goes in order where the merge and the tail do
  pub epoch-in-order : (e : EpochOf ground records batch more outcomes visits a) → AreSealed a.merged → AreOrdered 0 a.tail
      → IsInOrder batch e.epoch.cells e.epoch.order e.epoch.tail
  epoch-in-order e sealed tail = record {
    in_stripes =
        let R : Step → Step → Type 0 = λ one later. stripe_in one ≡ stripe_in later → session_in one < session_in later in
        subst (AllPairs R) (sym e.cells_are)
        (AllPairs-map R cell_on a.candidates
        (AllPairs-weaker (λ (x later : Entry). x.session < later.session) (λ (x later : Entry). R (cell_on x) (cell_on later)) a.candidates (λ x later _ _ less _. less)
        (candidates-rise (is_candidate_behind ground records) 0 batch a.wanting a.candidates a.others a.split ordered).1));
    by_stripes =
        let R : ℕ → ℕ → Type 0 = λ s later. IsSealedBefore (stripe_among batch s) s (stripe_among batch later) later in
        let S : Decided → Decided → Type 0 =
        λ d later. IsSealedBefore (stripe_of d.entry.parts) d.entry.session (stripe_of later.entry.parts) later.entry.session in
        subst (AllPairs R) (sym e.order_is)
        (AllPairs-map R (λ (d : Decided). d.entry.session) a.merged
        (AllPairs-weaker S (λ (d later : Decided). R d.entry.session later.entry.session) a.merged
        (λ d later at there before. subst (λ (k : ℕ). IsSealedBefore k d.entry.session (stripe_among batch later.entry.session) later.entry.session) (sym (merged-is d at))
        (subst (λ (l : ℕ). IsSealedBefore (stripe_of d.entry.parts) d.entry.session l later.entry.session) (sym (merged-is later there)) before))
        sealed));
    by_sessions =
        AllPairs-unmap (λ (s later : ℕ). s < later) session_in e.epoch.tail
        (subst (AllPairs (λ (s later : ℕ). s < later)) (sym e.tail_is)
        (AllPairs-map (λ (s later : ℕ). s < later) session_by a.tail (ordered-pairs 0 a.tail tail)));
  }
