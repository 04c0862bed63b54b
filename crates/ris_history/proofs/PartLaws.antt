-- That each part of a history is what the records make it, for all records that it stands for.
use Rattle.std.proofs.Common.{◌≡◌, ℕ, ◌<◌, ◌≤◌, List, length, Some, arith, refl, sym, subst, ap, ◌∙◌}
use Rattle.std.specs.List.{slice_get}
use Rattle.std.proofs.lemmas.Option.{slice_get_within}
use Rattle.ris_base.specs.Forest.{Forest, IsForest}
use Rattle.ris_base.specs.Lines.{mark, has_left}
use Rattle.ris_base.specs.Records.{lines_of, forests_at}
use Rattle.ris_base.specs.Requests.{after}
use Rattle.ris_base.specs.declared.analyses.Spec.{Spec}
use Rattle.ris_base.specs.declared.graphs.PlainGraph.{PlainGraph}
use Rattle.ris_base.specs.declared.records.Record.{Record}
use Rattle.ris_base.specs.declared.records.Start.{Start}
use Rattle.ris_history.specs.Chains.{number, chain_at}
use Rattle.ris_history.specs.HistoryView.{HistoryView, shown}
use Rattle.ris_history.specs.Parts.{changes_of, unreplaced_of, HasParts, HistoriesHaveParts}
use Rattle.ris_history.specs.Standing.{StandsFor}
use Rattle.ris_history.specs.declared.sessions.Session.{Session}
use Rattle.ris_history.proofs.AnswerLaws.{to_some_and, tells-of, front-of, floor-of, analyses-of, moved-is}
use Rattle.ris_history.proofs.FloorLaws.{told}
use Rattle.ris_history.proofs.KeptLaws.{held-unreplaced}
use Rattle.ris_history.proofs.StandLemmas.{fit, EachPair-length}
use Rattle.ris_history.proofs.TableLaws.{IsShown}
use Rattle.ris_history.proofs.ValueLaws.{values}

module _ (h : HistoryView) (opening : PlainGraph) (specs : List Spec) (start : Start) (records : List Record) (s : StandsFor h opening specs start records) where
  -- a chain holds the changes that some place from the floor on needs
  held-of : (a x : ℕ) → a < length specs → changes_of (chain_at h.table.chains (number h.table.analyses a x)) ≡ unreplaced_of start.sessions records a x
  held-of a x an =
      let f = fit opening specs start records s.right in
      let size = f.size in
      ap (λ n. changes_of (chain_at h.table.chains (number n a x))) (analyses-of h opening specs start records s)
      ∙ ap (λ (k : HistoryView). changes_of (chain_at k.table.chains (number (length start.forests) a x))) s.held
      ∙ held-unreplaced start records a x (omega arith) f.own f.taken f.within

  -- what is held at a place is what its forests say
  shown-of : (v a : ℕ) (F : Forest) → slice_get (forests_at start records v) a ≡ Some F → h.floor ≤ v → v ≤ h.table.front → (x : ℕ) → IsShown F x (shown h.table v a x)
  shown-of v a F at low within x =
      let f = fit opening specs start records s.right in
      let size = f.size in
      let last = front-of h opening specs start records s in
      let pairs = EachPair-length (IsForest (after opening (lines_of records) v)) specs (forests_at start records v) (s.right.forests v (omega arith)) in
      let an = slice_get_within (forests_at start records v) a F at in
      let same = ap (λ (k : HistoryView). k.floor) s.held in
      subst (λ (k : HistoryView). IsShown F x (shown k.table v a x)) (sym s.held) (values start records v a x F f.taken (omega arith) at (omega arith))

  has-parts : HasParts h opening specs start records
  has-parts =
      let lines = lines_of records in
      let last = front-of h opening specs start records s in
      let sessions = (tells-of h opening specs start records s).sessions in
      record {
        front = front-of h opening specs start records s;
        floor = floor-of h opening specs start records s;
        marks = λ k kn. to_some_and (λ (session : Session). session.mark ≡ mark lines k) (slice_get h.sessions k) (told lines k) (sessions.each k kn) refl;
        left = λ k kn. to_some_and (λ (session : Session). session.has_left ≡ has_left lines k) (slice_get h.sessions k) (told lines k) (sessions.each k kn) refl;
        held = held-of;
        values = λ v a F at low within x. (shown-of v a F at low within x).value;
        parents = λ v a F at low within x. (shown-of v a F at low within x).parent;
        moved = λ v a spec at low within x. moved-is h opening specs start records s v a spec at (omega arith) low x;
      }

-- the law: whatever records a history stands for, its parts are what they make them
pub parts : HistoriesHaveParts
parts h opening specs start records s = has-parts h opening specs start records s
