use Rattle.std.proofs.Common.{◌≡◌, ◌<◌, Option, unwrap_or, arith, refl, sym, subst, ap, ◌∙◌}
use Rattle.ris_base.specs.Machine.{session_by}
use Rattle.ris_base.specs.declared.records.Start.{Start}
use Rattle.ris_base.specs.declared.requests.Request.TheVariants as request
use Rattle.ris_graph.specs.GraphView.{GraphView}
use Rattle.ris_epoch.specs.DriverView.{DriverView, Stands, bare, no_graph}
use Rattle.ris_epoch.proofs.StandingFor.{stands-same}
use Rattle.ris_epoch.proofs.TailSteps.{does-as}
use Rattle.ris_epoch.proofs.drivers.Driver.outcome_of.Goals as goal

pub changed-requires-clause-stands : goal.changed-requires-clause-stands
changed-requires-clause-stands g c κs within =
    let s : Stands c.args.self.now = subst Stands c.self.view_is c.self.invariant.3 in
    let v = c.self.view_is in
    let graph : c.in-Some.graph ≡ c.args.self.now.graph = sym (ap (λ (o : Option GraphView). unwrap_or o no_graph) c.in-Some.is) ∙ ap (λ (d : DriverView). d.graph) v in
    let own : session_by c.args.request ≡ c.in-Submit.entry.session = ap session_by c.in-Submit.is in
    let sessions : c.args.self.now.opening.sessions ≡ s.base.start.sessions = ap (λ (o : Start). o.sessions) s.of.opening in
    let below = c.requires.here in
    let here : c.in-Submit.entry.session < s.base.start.sessions = omega arith in (
      c.self.inside.opening,
      s.base,
      s.records,
      stands-same c.args.self.now (bare c.in-Some.graph c.self.inside.analyses c.self.inside.journal c.self.inside.opening c.self.inside.records.items) s.base s.records s.of
          graph (ap (λ (d : DriverView). d.analyses) v) (ap (λ (d : DriverView). d.opening) v) (ap (λ (d : DriverView). d.journal.lines) v),
      here,
    )

pub invariant_of-self : goal.invariant_of-self
invariant_of-self g c =
    let s : Stands c.args.self.now = subst Stands c.self.view_is c.self.invariant.3 in
    let v = c.self.view_is in
    let graph : c.in-Some.graph ≡ c.args.self.now.graph = sym (ap (λ (o : Option GraphView). unwrap_or o no_graph) c.in-Some.is) ∙ ap (λ (d : DriverView). d.graph) v in
    let own : session_by c.args.request ≡ c.in-Submit.entry.session = ap session_by c.in-Submit.is in
    let sessions : c.args.self.now.opening.sessions ≡ s.base.start.sessions = ap (λ (o : Start). o.sessions) s.of.opening in
    let below = c.requires.here in
    let here : c.in-Submit.entry.session < s.base.start.sessions = omega arith in
    let h = c.changed.ensures.does c.self.inside.opening s.base s.records
    (stands-same c.args.self.now (bare c.in-Some.graph c.self.inside.analyses c.self.inside.journal c.self.inside.opening c.self.inside.records.items) s.base s.records s.of
    graph (ap (λ (d : DriverView). d.analyses) v) (ap (λ (d : DriverView). d.opening) v) (ap (λ (d : DriverView). d.journal.lines) v)) here in (
      refl,
      c.self.invariant.1,
      c.self.invariant.2,
      record { base = s.base; records = _; of = stands-same _ _ s.base _ h.stands refl refl refl refl },
    )

pub invariant_of-self-in-Release : goal.invariant_of-self-in-Release
invariant_of-self-in-Release g c =
    let s : Stands c.args.self.now = subst Stands c.self.view_is c.self.invariant.3 in
    let v = c.self.view_is in
    let own : session_by c.args.request ≡ c.in-Release.session = ap session_by c.in-Release.is in
    let sessions : c.args.self.now.opening.sessions ≡ s.base.start.sessions = ap (λ (o : Start). o.sessions) s.of.opening in
    let below = c.requires.here in
    let here : c.in-Release.session < s.base.start.sessions = omega arith in
    let h = c.released.ensures.does c.args.self.now s.base s.records 0 s.of (ap (λ (d : DriverView). d.journal) (sym v)) here in (
      c.self.invariant.0,
      c.self.invariant.1,
      c.self.invariant.2,
      record { base = s.base; records = _; of = stands-same _ _ s.base _ h.stands (ap (λ (d : DriverView). d.graph) v) (ap (λ (d : DriverView). d.analyses) v) (ap (λ (d : DriverView). d.opening) v) refl },
    )

pub invariant_of-self-in-Leave : goal.invariant_of-self-in-Leave
invariant_of-self-in-Leave g c =
    let s : Stands c.args.self.now = subst Stands c.self.view_is c.self.invariant.3 in
    let v = c.self.view_is in
    let own : session_by c.args.request ≡ c.in-Leave.session = ap session_by c.in-Leave.is in
    let sessions : c.args.self.now.opening.sessions ≡ s.base.start.sessions = ap (λ (o : Start). o.sessions) s.of.opening in
    let below = c.requires.here in
    let here : c.in-Leave.session < s.base.start.sessions = omega arith in
    let h = c.left.ensures.does c.args.self.now s.base s.records 0 s.of (ap (λ (d : DriverView). d.journal) (sym v)) here in (
      c.self.invariant.0,
      c.self.invariant.1,
      c.self.invariant.2,
      record { base = s.base; records = _; of = stands-same _ _ s.base _ h.stands (ap (λ (d : DriverView). d.graph) v) (ap (λ (d : DriverView). d.analyses) v) (ap (λ (d : DriverView). d.opening) v) refl },
    )

pub returns-in-Some-clause-does : goal.returns-in-Some-clause-does
returns-in-Some-clause-does g c = λ base records stands.
    let v = c.self.view_is in
    let graph : c.in-Some.graph ≡ c.args.self.now.graph = sym (ap (λ (o : Option GraphView). unwrap_or o no_graph) c.in-Some.is) ∙ ap (λ (d : DriverView). d.graph) v in
    let own : session_by c.args.request ≡ c.in-Submit.entry.session = ap session_by c.in-Submit.is in
    let sessions : c.args.self.now.opening.sessions ≡ base.start.sessions = ap (λ (o : Start). o.sessions) stands.opening in
    let below = c.requires.here in
    let here : c.in-Submit.entry.session < base.start.sessions = omega arith in
    let h = c.changed.ensures.does c.self.inside.opening base records
    (stands-same c.args.self.now (bare c.in-Some.graph c.self.inside.analyses c.self.inside.journal c.self.inside.opening c.self.inside.records.items) base records stands
    graph (ap (λ (d : DriverView). d.analyses) v) (ap (λ (d : DriverView). d.opening) v) (ap (λ (d : DriverView). d.journal.lines) v)) here in
    does-as base records (request.Submit c.in-Submit.entry) c.args.request c.changed.result _ _ c.args.self.now _ (g.M.Meter.ticks c.args.meter.now) (g.M.Meter.ticks c.changed.new.meter) h
    c.in-Submit.is (ap (λ (d : DriverView). d.records) (sym v)) refl refl refl refl refl

pub returns-in-Release-clause-does : goal.returns-in-Release-clause-does
returns-in-Release-clause-does g c = λ base records stands.
    let v = c.self.view_is in
    let own : session_by c.args.request ≡ c.in-Release.session = ap session_by c.in-Release.is in
    let sessions : c.args.self.now.opening.sessions ≡ base.start.sessions = ap (λ (o : Start). o.sessions) stands.opening in
    let below = c.requires.here in
    let here : c.in-Release.session < base.start.sessions = omega arith in
    let t = g.M.Meter.ticks c.args.meter.now in
    let h = c.released.ensures.does c.args.self.now base records t stands (ap (λ (d : DriverView). d.journal) (sym v)) here in
    does-as base records (request.Release c.in-Release.session c.in-Release.seq c.in-Release.upto) c.args.request c.released.result _ _ c.args.self.now _ t t h
    c.in-Release.is (ap (λ (d : DriverView). d.records) (sym v)) (ap (λ (d : DriverView). d.graph) v) (ap (λ (d : DriverView). d.analyses) v) (ap (λ (d : DriverView). d.opening) v) refl refl

pub returns-in-Leave-clause-does : goal.returns-in-Leave-clause-does
returns-in-Leave-clause-does g c = λ base records stands.
    let v = c.self.view_is in
    let own : session_by c.args.request ≡ c.in-Leave.session = ap session_by c.in-Leave.is in
    let sessions : c.args.self.now.opening.sessions ≡ base.start.sessions = ap (λ (o : Start). o.sessions) stands.opening in
    let below = c.requires.here in
    let here : c.in-Leave.session < base.start.sessions = omega arith in
    let t = g.M.Meter.ticks c.args.meter.now in
    let h = c.left.ensures.does c.args.self.now base records t stands (ap (λ (d : DriverView). d.journal) (sym v)) here in
    does-as base records (request.Leave c.in-Leave.session c.in-Leave.seq) c.args.request c.left.result _ _ c.args.self.now _ t t h
    c.in-Leave.is (ap (λ (d : DriverView). d.records) (sym v)) (ap (λ (d : DriverView). d.graph) v) (ap (λ (d : DriverView). d.analyses) v) (ap (λ (d : DriverView). d.opening) v) refl refl
