use Rattle.std.proofs.Common.{◌≡◌, ◌<◌, ◌++◌, List, [], ◌∷◌, length, append_assoc, arith, refl, sym, subst, ap, ◌∙◌}
use Rattle.std.specs.List.{All}
use Rattle.std.proofs.lemmas.List.{append-nil}
use Rattle.std.proofs.lemmas.List.Elements.{All-head, All-tail}
use Rattle.ris_base.specs.Machine.{session_by}
use Rattle.ris_base.specs.declared.records.Start.{Start}
use Rattle.ris_base.specs.declared.requests.Request.{Request}
use Rattle.ris_epoch.specs.Turning.{HandlesAll}
use Rattle.ris_epoch.proofs.FirstItems.{first-rest, none-rest}
use Rattle.ris_epoch.proofs.TailSteps.{handles-none, handles-push}
use Rattle.ris_epoch.proofs.drivers.Driver.handle_all.Goals as goal

pub handles-init : goal.handles-init
handles-init g c = record {
  done = [];
  is = refl;
  all = λ base records stands. handles-none base records c.args.self.now (g.M.Meter.ticks c.args.meter.now) stands;
  here = c.requires.here;
  lines = (omega arith);
  room = c.requires.room;
  opening = refl;
}

pub handles-preserved : goal.handles-preserved
handles-preserved g c =
    let first : c.handles.tail ≡ c.in-Some.request ∷ c.take_first.new.self = first-rest c.handles.tail c.take_first.new.self c.in-Some.request c.in-Some.ensures.item c.in-Some.ensures.rest in
    let long = ap length first in
    let done = c.handles.invariant.done in
    record {
      done = done ++ c.in-Some.request ∷ [];
      is = c.handles.invariant.is ∙ ap (λ (rs : List Request). done ++ rs) first ∙ sym (append_assoc done (c.in-Some.request ∷ []) c.take_first.new.self);
      all = λ base records stands. (let h = c.handles.invariant.all base records stands in
          handles-push base records done c.in-Some.request c.args.self.now c.handles.self c.handle.new.self (g.M.Meter.ticks c.args.meter.now) (g.M.Meter.ticks c.handles.meter)
          (g.M.Meter.ticks c.handle.new.meter) h (c.handle.ensures.handles base (records ++ h.made) h.stands));
      here = subst (λ (o : Start). All (λ (r : Request). session_by r < o.sessions) c.take_first.new.self) (sym c.handle.ensures.opening)
          (All-tail (λ (r : Request). session_by r < c.handles.self.opening.sessions) c.in-Some.request c.take_first.new.self
          (subst (All (λ (r : Request). session_by r < c.handles.self.opening.sessions)) first c.handles.invariant.here));
      lines = (let was = c.handles.invariant.lines in let up = c.handle.ensures.lines in omega arith);
      room = (let was = c.handles.invariant.room in let up = c.handle.ensures.replies in omega arith);
      opening = c.handle.ensures.opening ∙ c.handles.invariant.opening;
    }

pub handles-smaller : goal.handles-smaller
handles-smaller g c =
    let long = ap length (first-rest c.handles.tail c.take_first.new.self c.in-Some.request c.in-Some.ensures.item c.in-Some.ensures.rest) in omega arith

pub handle-requires-clause-here : goal.handle-requires-clause-here
handle-requires-clause-here g c κs within =
    All-head (λ (r : Request). session_by r < c.handles.self.opening.sessions) c.in-Some.request c.take_first.new.self
    (subst (All (λ (r : Request). session_by r < c.handles.self.opening.sessions))
    (first-rest c.handles.tail c.take_first.new.self c.in-Some.request c.in-Some.ensures.item c.in-Some.ensures.rest) c.handles.invariant.here)

pub handle-requires-clause-few : goal.handle-requires-clause-few
handle-requires-clause-few g c κs within =
    let long = ap length (first-rest c.handles.tail c.take_first.new.self c.in-Some.request c.in-Some.ensures.item c.in-Some.ensures.rest) in
    let was = c.handles.invariant.lines in
    let few = c.requires.few in
    omega arith

pub handle-requires-clause-room : goal.handle-requires-clause-room
handle-requires-clause-room g c κs within =
    let long = ap length (first-rest c.handles.tail c.take_first.new.self c.in-Some.request c.in-Some.ensures.item c.in-Some.ensures.rest) in
    let was = c.handles.invariant.room in
    omega arith

pub returns-clause-handles : goal.returns-clause-handles
returns-clause-handles g c = λ base records stands.
    let none = none-rest c.handles.tail c.in_default.ensures.item in
    subst (λ (rs : List Request). HandlesAll base records rs c.args.self.now c.handles.self (g.M.Meter.ticks c.args.meter.now) (g.M.Meter.ticks c.handles.meter))
    (sym (c.handles.invariant.is ∙ ap (λ (rs : List Request). c.handles.invariant.done ++ rs) none ∙ append-nil c.handles.invariant.done))
    (c.handles.invariant.all base records stands)

pub returns-clause-lines : goal.returns-clause-lines
returns-clause-lines g c = (let was = c.handles.invariant.lines in omega arith)
