use Rattle.std.proofs.Common.{List, length, ap, arith, subst, ◌∙◌}
use Rattle.ris_base.specs.Epoch.{Ground}
use Rattle.ris_base.specs.declared.records.Record.{Record}
use Rattle.ris_base.specs.declared.requests.Request.{Request}
use Rattle.ris_epoch.specs.DriverView.{StandsFor}
use Rattle.ris_epoch.specs.Ordering.{AreOrdered}
use Rattle.ris_epoch.specs.Turning.{HasBegun, IsBegun}
use Rattle.ris_epoch.proofs.OrderingLemmas.{ordered-length}
use Rattle.ris_epoch.proofs.TurnParts.{IsAtTail, IsTaken, at-epoch, at-here, at-none, at-order, at-rises, at-seal}
use Rattle.ris_epoch.proofs.drivers.Driver.turn.Goals as goal
use Rattle.ris_epoch.proofs.drivers.Driver.turn.Goals.{then-len-gt0, else-len-gt0}

pub overflow_cast-tail : goal.overflow_cast-tail
overflow_cast-tail g c =
    let batch = c.args.batch.now in
    let m = c.split.new.self in
    let order = c.split.new.candidates in
    let rest = c.split.new.rest in
    let taken : IsTaken batch c.args.self.now = record { ordered = subst (AreOrdered 0) c.batch.view_is c.batch.invariant.0; here = c.requires.here } in
    let begun = λ (base : Ground) (records : List Record) (stands : StandsFor c.args.self.now base records).
    subst (λ (rs : List Request). HasBegun base records (length rs) rs m order rest) c.batch.view_is (c.split.ensures.begun base records stands) in
    let some : IsBegun (length batch) batch m order rest = subst (λ (rs : List Request). IsBegun (length rs) rs m order rest) c.batch.view_is c.split.ensures.some in
    let at : IsAtTail batch c.args.self.now c.if-len-gt0.self c.if-len-gt0.batch-inside.rest = elim c.if-len-gt0.branch [
      | then-len-gt0 w ↦ rw (w.self-is, w.batch-inside-is) (at-seal batch c.args.self.now m w.decide.new.self order rest w.decide.new.rest taken begun some c.split.ensures.lines
          c.split.ensures.opening w.decide.ensures.sealed w.decide.ensures.counts w.decide.ensures.fronts w.decide.ensures.opening)
      | else-len-gt0 w ↦ rw (w.self-is, w.batch-inside-is) (at-none batch c.args.self.now m order rest (omega arith) begun some c.split.ensures.lines c.split.ensures.opening)
    ] in
    let few = ordered-length 0 batch taken.ordered in
    let counts = at.counts in
    omega arith

pub handle_all-requires-clause-here : goal.handle_all-requires-clause-here
handle_all-requires-clause-here g c κs within =
    let batch = c.args.batch.now in
    let m = c.split.new.self in
    let order = c.split.new.candidates in
    let rest = c.split.new.rest in
    let taken : IsTaken batch c.args.self.now = record { ordered = subst (AreOrdered 0) c.batch.view_is c.batch.invariant.0; here = c.requires.here } in
    let begun = λ (base : Ground) (records : List Record) (stands : StandsFor c.args.self.now base records).
    subst (λ (rs : List Request). HasBegun base records (length rs) rs m order rest) c.batch.view_is (c.split.ensures.begun base records stands) in
    let some : IsBegun (length batch) batch m order rest = subst (λ (rs : List Request). IsBegun (length rs) rs m order rest) c.batch.view_is c.split.ensures.some in
    let at : IsAtTail batch c.args.self.now c.if-len-gt0.self c.if-len-gt0.batch-inside.rest = elim c.if-len-gt0.branch [
      | then-len-gt0 w ↦ rw (w.self-is, w.batch-inside-is) (at-seal batch c.args.self.now m w.decide.new.self order rest w.decide.new.rest taken begun some c.split.ensures.lines
          c.split.ensures.opening w.decide.ensures.sealed w.decide.ensures.counts w.decide.ensures.fronts w.decide.ensures.opening)
      | else-len-gt0 w ↦ rw (w.self-is, w.batch-inside-is) (at-none batch c.args.self.now m order rest (omega arith) begun some c.split.ensures.lines c.split.ensures.opening)
    ] in
    at-here batch c.args.self.now c.if-len-gt0.self c.if-len-gt0.batch-inside.rest taken at

pub handle_all-requires-clause-few : goal.handle_all-requires-clause-few
handle_all-requires-clause-few g c κs within =
    let batch = c.args.batch.now in
    let m = c.split.new.self in
    let order = c.split.new.candidates in
    let rest = c.split.new.rest in
    let taken : IsTaken batch c.args.self.now = record { ordered = subst (AreOrdered 0) c.batch.view_is c.batch.invariant.0; here = c.requires.here } in
    let begun = λ (base : Ground) (records : List Record) (stands : StandsFor c.args.self.now base records).
    subst (λ (rs : List Request). HasBegun base records (length rs) rs m order rest) c.batch.view_is (c.split.ensures.begun base records stands) in
    let some : IsBegun (length batch) batch m order rest = subst (λ (rs : List Request). IsBegun (length rs) rs m order rest) c.batch.view_is c.split.ensures.some in
    let at : IsAtTail batch c.args.self.now c.if-len-gt0.self c.if-len-gt0.batch-inside.rest = elim c.if-len-gt0.branch [
      | then-len-gt0 w ↦ rw (w.self-is, w.batch-inside-is) (at-seal batch c.args.self.now m w.decide.new.self order rest w.decide.new.rest taken begun some c.split.ensures.lines
          c.split.ensures.opening w.decide.ensures.sealed w.decide.ensures.counts w.decide.ensures.fronts w.decide.ensures.opening)
      | else-len-gt0 w ↦ rw (w.self-is, w.batch-inside-is) (at-none batch c.args.self.now m order rest (omega arith) begun some c.split.ensures.lines c.split.ensures.opening)
    ] in
    let fronts = at.fronts in
    let room = c.requires.room in
    omega arith

pub handle_all-requires-clause-room : goal.handle_all-requires-clause-room
handle_all-requires-clause-room g c κs within =
    let batch = c.args.batch.now in
    let m = c.split.new.self in
    let order = c.split.new.candidates in
    let rest = c.split.new.rest in
    let taken : IsTaken batch c.args.self.now = record { ordered = subst (AreOrdered 0) c.batch.view_is c.batch.invariant.0; here = c.requires.here } in
    let begun = λ (base : Ground) (records : List Record) (stands : StandsFor c.args.self.now base records).
    subst (λ (rs : List Request). HasBegun base records (length rs) rs m order rest) c.batch.view_is (c.split.ensures.begun base records stands) in
    let some : IsBegun (length batch) batch m order rest = subst (λ (rs : List Request). IsBegun (length rs) rs m order rest) c.batch.view_is c.split.ensures.some in
    let at : IsAtTail batch c.args.self.now c.if-len-gt0.self c.if-len-gt0.batch-inside.rest = elim c.if-len-gt0.branch [
      | then-len-gt0 w ↦ rw (w.self-is, w.batch-inside-is) (at-seal batch c.args.self.now m w.decide.new.self order rest w.decide.new.rest taken begun some c.split.ensures.lines
          c.split.ensures.opening w.decide.ensures.sealed w.decide.ensures.counts w.decide.ensures.fronts w.decide.ensures.opening)
      | else-len-gt0 w ↦ rw (w.self-is, w.batch-inside-is) (at-none batch c.args.self.now m order rest (omega arith) begun some c.split.ensures.lines c.split.ensures.opening)
    ] in
    let few = ordered-length 0 batch taken.ordered in
    let counts = at.counts in
    omega arith

pub overflow_sub-entries : goal.overflow_sub-entries
overflow_sub-entries g c =
    let batch = c.args.batch.now in
    let m = c.split.new.self in
    let order = c.split.new.candidates in
    let rest = c.split.new.rest in
    let taken : IsTaken batch c.args.self.now = record { ordered = subst (AreOrdered 0) c.batch.view_is c.batch.invariant.0; here = c.requires.here } in
    let begun = λ (base : Ground) (records : List Record) (stands : StandsFor c.args.self.now base records).
    subst (λ (rs : List Request). HasBegun base records (length rs) rs m order rest) c.batch.view_is (c.split.ensures.begun base records stands) in
    let some : IsBegun (length batch) batch m order rest = subst (λ (rs : List Request). IsBegun (length rs) rs m order rest) c.batch.view_is c.split.ensures.some in
    let at : IsAtTail batch c.args.self.now c.if-len-gt0.self c.if-len-gt0.batch-inside.rest = elim c.if-len-gt0.branch [
      | then-len-gt0 w ↦ rw (w.self-is, w.batch-inside-is) (at-seal batch c.args.self.now m w.decide.new.self order rest w.decide.new.rest taken begun some c.split.ensures.lines
          c.split.ensures.opening w.decide.ensures.sealed w.decide.ensures.counts w.decide.ensures.fronts w.decide.ensures.opening)
      | else-len-gt0 w ↦ rw (w.self-is, w.batch-inside-is) (at-none batch c.args.self.now m order rest (omega arith) begun some c.split.ensures.lines c.split.ensures.opening)
    ] in
    let up = at-rises batch c.args.self.now c.if-len-gt0.self c.handle_all.new.self c.if-len-gt0.batch-inside.rest (g.M.Meter.ticks c.args.meter.now)
    (g.M.Meter.ticks c.handle_all.new.meter) at c.handle_all.ensures.handles in
    omega arith

pub overflow_cast-entries : goal.overflow_cast-entries
overflow_cast-entries g c =
    let batch = c.args.batch.now in
    let m = c.split.new.self in
    let order = c.split.new.candidates in
    let rest = c.split.new.rest in
    let taken : IsTaken batch c.args.self.now = record { ordered = subst (AreOrdered 0) c.batch.view_is c.batch.invariant.0; here = c.requires.here } in
    let begun = λ (base : Ground) (records : List Record) (stands : StandsFor c.args.self.now base records).
    subst (λ (rs : List Request). HasBegun base records (length rs) rs m order rest) c.batch.view_is (c.split.ensures.begun base records stands) in
    let some : IsBegun (length batch) batch m order rest = subst (λ (rs : List Request). IsBegun (length rs) rs m order rest) c.batch.view_is c.split.ensures.some in
    let at : IsAtTail batch c.args.self.now c.if-len-gt0.self c.if-len-gt0.batch-inside.rest = elim c.if-len-gt0.branch [
      | then-len-gt0 w ↦ rw (w.self-is, w.batch-inside-is) (at-seal batch c.args.self.now m w.decide.new.self order rest w.decide.new.rest taken begun some c.split.ensures.lines
          c.split.ensures.opening w.decide.ensures.sealed w.decide.ensures.counts w.decide.ensures.fronts w.decide.ensures.opening)
      | else-len-gt0 w ↦ rw (w.self-is, w.batch-inside-is) (at-none batch c.args.self.now m order rest (omega arith) begun some c.split.ensures.lines c.split.ensures.opening)
    ] in
    let fronts = at.fronts in
    let room = c.requires.room in
    let more = c.handle_all.ensures.lines in
    omega arith

pub returns-clause-epoch : goal.returns-clause-epoch
returns-clause-epoch g c =
    let batch = c.args.batch.now in
    let m = c.split.new.self in
    let order = c.split.new.candidates in
    let rest = c.split.new.rest in
    let taken : IsTaken batch c.args.self.now = record { ordered = subst (AreOrdered 0) c.batch.view_is c.batch.invariant.0; here = c.requires.here } in
    let begun = λ (base : Ground) (records : List Record) (stands : StandsFor c.args.self.now base records).
    subst (λ (rs : List Request). HasBegun base records (length rs) rs m order rest) c.batch.view_is (c.split.ensures.begun base records stands) in
    let some : IsBegun (length batch) batch m order rest = subst (λ (rs : List Request). IsBegun (length rs) rs m order rest) c.batch.view_is c.split.ensures.some in
    let at : IsAtTail batch c.args.self.now c.if-len-gt0.self c.if-len-gt0.batch-inside.rest = elim c.if-len-gt0.branch [
      | then-len-gt0 w ↦ rw (w.self-is, w.batch-inside-is) (at-seal batch c.args.self.now m w.decide.new.self order rest w.decide.new.rest taken begun some c.split.ensures.lines
          c.split.ensures.opening w.decide.ensures.sealed w.decide.ensures.counts w.decide.ensures.fronts w.decide.ensures.opening)
      | else-len-gt0 w ↦ rw (w.self-is, w.batch-inside-is) (at-none batch c.args.self.now m order rest (omega arith) begun some c.split.ensures.lines c.split.ensures.opening)
    ] in
    λ base records stands.
    (let e = at-epoch batch c.args.self.now c.if-len-gt0.self c.handle_all.new.self c.if-len-gt0.batch-inside.rest (g.M.Meter.ticks c.args.meter.now)
    (g.M.Meter.ticks c.handle_all.new.meter) at c.handle_all.ensures.handles taken base records stands in (e.0, e.1, e.2, c.len-tail.ensures ∙ e.3))

pub returns-clause-order : goal.returns-clause-order
returns-clause-order g c =
    let batch = c.args.batch.now in
    let m = c.split.new.self in
    let order = c.split.new.candidates in
    let rest = c.split.new.rest in
    let taken : IsTaken batch c.args.self.now = record { ordered = subst (AreOrdered 0) c.batch.view_is c.batch.invariant.0; here = c.requires.here } in
    let begun = λ (base : Ground) (records : List Record) (stands : StandsFor c.args.self.now base records).
    subst (λ (rs : List Request). HasBegun base records (length rs) rs m order rest) c.batch.view_is (c.split.ensures.begun base records stands) in
    let some : IsBegun (length batch) batch m order rest = subst (λ (rs : List Request). IsBegun (length rs) rs m order rest) c.batch.view_is c.split.ensures.some in
    let at : IsAtTail batch c.args.self.now c.if-len-gt0.self c.if-len-gt0.batch-inside.rest = elim c.if-len-gt0.branch [
      | then-len-gt0 w ↦ rw (w.self-is, w.batch-inside-is) (at-seal batch c.args.self.now m w.decide.new.self order rest w.decide.new.rest taken begun some c.split.ensures.lines
          c.split.ensures.opening w.decide.ensures.sealed w.decide.ensures.counts w.decide.ensures.fronts w.decide.ensures.opening)
      | else-len-gt0 w ↦ rw (w.self-is, w.batch-inside-is) (at-none batch c.args.self.now m order rest (omega arith) begun some c.split.ensures.lines c.split.ensures.opening)
    ] in
    λ base records stands.
    at-order batch c.args.self.now c.if-len-gt0.self c.handle_all.new.self c.if-len-gt0.batch-inside.rest (g.M.Meter.ticks c.args.meter.now) (g.M.Meter.ticks c.handle_all.new.meter) at
    c.handle_all.ensures.handles taken base records stands

pub returns-clause-entries : goal.returns-clause-entries
returns-clause-entries g c =
    let batch = c.args.batch.now in
    let m = c.split.new.self in
    let order = c.split.new.candidates in
    let rest = c.split.new.rest in
    let taken : IsTaken batch c.args.self.now = record { ordered = subst (AreOrdered 0) c.batch.view_is c.batch.invariant.0; here = c.requires.here } in
    let begun = λ (base : Ground) (records : List Record) (stands : StandsFor c.args.self.now base records).
    subst (λ (rs : List Request). HasBegun base records (length rs) rs m order rest) c.batch.view_is (c.split.ensures.begun base records stands) in
    let some : IsBegun (length batch) batch m order rest = subst (λ (rs : List Request). IsBegun (length rs) rs m order rest) c.batch.view_is c.split.ensures.some in
    let at : IsAtTail batch c.args.self.now c.if-len-gt0.self c.if-len-gt0.batch-inside.rest = elim c.if-len-gt0.branch [
      | then-len-gt0 w ↦ rw (w.self-is, w.batch-inside-is) (at-seal batch c.args.self.now m w.decide.new.self order rest w.decide.new.rest taken begun some c.split.ensures.lines
          c.split.ensures.opening w.decide.ensures.sealed w.decide.ensures.counts w.decide.ensures.fronts w.decide.ensures.opening)
      | else-len-gt0 w ↦ rw (w.self-is, w.batch-inside-is) (at-none batch c.args.self.now m order rest (omega arith) begun some c.split.ensures.lines c.split.ensures.opening)
    ] in
    let up = at-rises batch c.args.self.now c.if-len-gt0.self c.handle_all.new.self c.if-len-gt0.batch-inside.rest (g.M.Meter.ticks c.args.meter.now)
    (g.M.Meter.ticks c.handle_all.new.meter) at c.handle_all.ensures.handles in
    omega arith

pub returns-clause-tail : goal.returns-clause-tail
returns-clause-tail g c =
    let batch = c.args.batch.now in
    let m = c.split.new.self in
    let order = c.split.new.candidates in
    let rest = c.split.new.rest in
    let taken : IsTaken batch c.args.self.now = record { ordered = subst (AreOrdered 0) c.batch.view_is c.batch.invariant.0; here = c.requires.here } in
    let begun = λ (base : Ground) (records : List Record) (stands : StandsFor c.args.self.now base records).
    subst (λ (rs : List Request). HasBegun base records (length rs) rs m order rest) c.batch.view_is (c.split.ensures.begun base records stands) in
    let some : IsBegun (length batch) batch m order rest = subst (λ (rs : List Request). IsBegun (length rs) rs m order rest) c.batch.view_is c.split.ensures.some in
    let at : IsAtTail batch c.args.self.now c.if-len-gt0.self c.if-len-gt0.batch-inside.rest = elim c.if-len-gt0.branch [
      | then-len-gt0 w ↦ rw (w.self-is, w.batch-inside-is) (at-seal batch c.args.self.now m w.decide.new.self order rest w.decide.new.rest taken begun some c.split.ensures.lines
          c.split.ensures.opening w.decide.ensures.sealed w.decide.ensures.counts w.decide.ensures.fronts w.decide.ensures.opening)
      | else-len-gt0 w ↦ rw (w.self-is, w.batch-inside-is) (at-none batch c.args.self.now m order rest (omega arith) begun some c.split.ensures.lines c.split.ensures.opening)
    ] in
    let few = ordered-length 0 batch taken.ordered in
    let counts = at.counts in
    omega (arith, ap length c.batch.view_is)
