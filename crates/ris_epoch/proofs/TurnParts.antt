-- The parts of a turn, one after another: the driver where its tail begins, and in the end.
use Rattle.std.proofs.Common.{◌≡◌, ℕ, ◌+◌, ◌<◌, ◌≤◌, List, [], ◌++◌, length, arith, refl, sym, subst, ap, ◌∙◌}
use Rattle.std.specs.List.{All}
use Rattle.std.proofs.lemmas.List.Elements.{All-contains}
use Rattle.ris_base.specs.Epoch.{Ground, IsEpoch, IsTurnReach}
use Rattle.ris_base.specs.Lines.{front}
use Rattle.ris_base.specs.Machine.{session_by}
use Rattle.ris_base.specs.declared.lines.Entry.{Entry}
use Rattle.ris_base.specs.declared.records.Record.{Record}
use Rattle.ris_base.specs.declared.records.Start.{Start}
use Rattle.ris_base.specs.declared.requests.Request.{Request}
use Rattle.ris_base.proofs.ListLemmas.{All-from_Contains}
use Rattle.ris_graph.specs.Ticks.{IsRise}
use Rattle.ris_epoch.specs.Account.{IsBatch, records_of}
use Rattle.ris_epoch.specs.DriverView.{DriverView, StandsFor}
use Rattle.ris_epoch.specs.Ordering.{AreOrdered}
use Rattle.ris_epoch.specs.TurnOrder.{IsInOrder}
use Rattle.ris_epoch.specs.Turning.{HandlesAll, HasBegun, HasSealed, IsBegun}
use Rattle.ris_epoch.proofs.OrderingLemmas.{ordered-once}
use Rattle.ris_epoch.proofs.TurnSteps.{empty-of, front-stands, length-begun, sealed-none, tail-known, turned, turned-in-order}

-- the batch of a turn is one that a driver may take: its sessions ascend, and exist
pub record IsTaken (batch : List Request) (d : DriverView) : Type 0 where
  pub ordered : AreOrdered 0 batch
  pub here : All (λ r. session_by r < d.opening.sessions) batch

-- the driver of a turn has another state where its tail begins
pub record IsAtTail (batch : List Request) (d middle : DriverView) (tail : List Request) : Type 0 where
  pub base : Ground
  pub records : List Record
  pub of : HasSealed base records batch middle tail
  pub sealed : (ground : Ground) (all : List Record) → StandsFor d ground all → HasSealed ground all batch middle tail
  pub counts : length middle.replies + length tail ≡ length batch
  pub fronts : front middle.journal.lines + length tail ≤ front d.journal.lines + length batch
  pub rises : front d.journal.lines ≤ front middle.journal.lines
  pub opening : middle.opening ≡ d.opening

-- a batch is one behind what a driver with this opening stands for
taken-batch : (batch : List Request) (d e : DriverView) (ground : Ground) (records : List Record) → IsTaken batch d → e.opening ≡ d.opening → StandsFor e ground records
    → IsBatch ground batch
taken-batch batch d e ground records taken opening stands = record {
  once = ordered-once 0 batch taken.ordered;
  here = subst (λ (o : Start). All (λ (r : Request). session_by r < o.sessions) batch) (sym opening ∙ stands.opening) taken.here;
}

-- where there is no candidate
pub at-none : (batch : List Request) (d m : DriverView) (order : List Entry) (rest : List Request) → length order ≡ 0
    → ((ground : Ground) (records : List Record) → StandsFor d ground records → HasBegun ground records (length batch) batch m order rest) → IsBegun (length batch) batch m order rest
    → m.journal.lines ≡ d.journal.lines → m.opening ≡ d.opening → IsAtTail batch d m rest
at-none batch d m order rest zero begun some lines opening =
    let none = empty-of order zero in
    let count = length-begun some.base some.records batch m order rest some.of in
    let same = ap front lines in
    let seal = λ (ground : Ground) (records : List Record) (h : HasBegun ground records (length batch) batch m order rest).
    sealed-none ground records batch m rest (subst (λ (o : List Entry). HasBegun ground records (length batch) batch m o rest) none h) in record {
      base = some.base;
      records = some.records;
      of = seal some.base some.records some.of;
      sealed = λ ground records stands. seal ground records (begun ground records stands);
      counts = (omega arith);
      fronts = (omega arith);
      rises = (omega arith);
      opening = opening;
    }

-- and behind the seal
pub at-seal : (batch : List Request) (d m e : DriverView) (order : List Entry) (rest tail : List Request) → IsTaken batch d
    → ((ground : Ground) (records : List Record) → StandsFor d ground records → HasBegun ground records (length batch) batch m order rest) → IsBegun (length batch) batch m order rest
    → m.journal.lines ≡ d.journal.lines → m.opening ≡ d.opening
    → ((ground : Ground) (records : List Record) (rs : List Request) → HasBegun ground records (length rs) rs m order rest → IsBatch ground rs → HasSealed ground records rs e tail)
    → length e.replies + length tail ≡ length m.replies + length rest + length order
    → front e.journal.lines + length tail ≤ front m.journal.lines + length rest + length order → e.opening ≡ m.opening → IsAtTail batch d e tail
at-seal batch d m e order rest tail taken begun some lines opening seal counts fronts kept =
    let count = length-begun some.base some.records batch m order rest some.of in
    let same = ap front lines in
    let of = seal some.base some.records batch some.of (taken-batch batch d m some.base some.records taken opening some.of.stands) in
    let up = front-stands m e some.base some.records (records_of of.merged) some.of.stands of.stands in record {
      base = some.base;
      records = some.records;
      of = of;
      sealed = λ ground records stands. seal ground records batch (begun ground records stands) (taken-batch batch d d ground records taken refl stands);
      counts = (omega arith);
      fronts = (omega arith);
      rises = (omega arith);
      opening = kept ∙ opening;
    }

-- each session of the tail exists
pub at-here : (batch : List Request) (d m : DriverView) (tail : List Request) → IsTaken batch d → IsAtTail batch d m tail → All (λ r. session_by r < m.opening.sessions) tail
at-here batch d m tail taken at =
    subst (λ (o : Start). All (λ (r : Request). session_by r < o.sessions) tail) (sym at.opening)
    (All-from_Contains (λ (r : Request). session_by r < d.opening.sessions) tail
    (λ r known. All-contains (λ (x : Request). session_by x < d.opening.sessions) batch r taken.here (tail-known at.base at.records batch m tail at.of r known)))

module _ (batch : List Request) (d m e : DriverView) (tail : List Request) (before after : ℕ) (at : IsAtTail batch d m tail)
    (handles : (ground : Ground) (records : List Record) → StandsFor m ground records → HandlesAll ground records tail m e before after) where
  -- no front falls
  pub at-rises : front d.journal.lines ≤ front e.journal.lines
  at-rises =
      let all = at.records ++ records_of at.of.merged in
      let h = handles at.base all at.of.stands in
      let up = front-stands m e at.base all h.made at.of.stands h.stands in
      let was = at.rises in
      omega arith

  -- the turn is an epoch
  pub at-epoch : IsTaken batch d → (ground : Ground) (records : List Record) → StandsFor d ground records
      → (epoch : IsEpoch ground records batch (records ++ e.records) e.replies) × StandsFor e ground (records ++ e.records)
      × ((n : ℕ) → IsTurnReach ground records batch [] (records ++ e.records) e.replies epoch n → IsRise before after n) × (length tail ≡ length epoch.tail)
  at-epoch taken ground records stands =
      let s = at.sealed ground records stands in
      turned ground records batch m e tail before after
      (record { right = stands.right; proper = stands.fits.graph_is.proper; taken = taken-batch batch d d ground records taken refl stands })
      s (handles ground (records ++ records_of s.merged) s.stands)

  -- and goes in order
  pub at-order : IsTaken batch d → (ground : Ground) (records : List Record) → StandsFor d ground records
      → (epoch : IsEpoch ground records batch (records ++ e.records) e.replies) × IsInOrder batch epoch.cells epoch.order epoch.tail
  at-order taken ground records stands =
      let s = at.sealed ground records stands in
      turned-in-order ground records batch m e tail before after
      (record { right = stands.right; proper = stands.fits.graph_is.proper; taken = taken-batch batch d d ground records taken refl stands })
      s (handles ground (records ++ records_of s.merged) s.stands) taken.ordered
