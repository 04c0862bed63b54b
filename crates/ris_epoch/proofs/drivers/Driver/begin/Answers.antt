use Rattle.std.proofs.Common.{◌≡◌, ◌++◌, List, [], ◌∷◌, false, arith, sym, subst, ap, ◌∙◌}
use Rattle.ris_base.specs.Machine.{session_by}
use Rattle.ris_base.specs.declared.requests.Request.{Request}
use Rattle.ris_epoch.specs.Account.{is_candidate_behind}
use Rattle.ris_epoch.specs.Ordering.{inserted_by}
use Rattle.ris_epoch.specs.Turning.{HasBegun}
use Rattle.ris_epoch.proofs.BatchSteps.{begun-counts, begun-few, begun-other}
use Rattle.ris_epoch.proofs.drivers.Driver.begin.Goals as goal

pub add-requires : goal.add-requires
add-requires g c =
    let done = c.requires.begun.0 in
    let some = c.requires.begun.1 in
    let few = begun-few some.base some.records done c.args.self.now c.args.candidates.now c.args.rest.now some.of c.args.request c.requires.begun.2 in
    let counts = begun-counts some.base some.records done c.args.self.now c.args.candidates.now c.args.rest.now some.of in
    omega arith

pub add-requires-in-Leave : goal.add-requires-in-Leave
add-requires-in-Leave g c =
    let done = c.requires.begun.0 in
    let some = c.requires.begun.1 in
    let few = begun-few some.base some.records done c.args.self.now c.args.candidates.now c.args.rest.now some.of c.args.request c.requires.begun.2 in
    let counts = begun-counts some.base some.records done c.args.self.now c.args.candidates.now c.args.rest.now some.of in
    omega arith

pub returns-in-Release-clause-begun : goal.returns-in-Release-clause-begun
returns-in-Release-clause-begun g c base records done h next =
    let other : is_candidate_behind base records c.args.request ≡ false = ap (is_candidate_behind base records) c.in-Release.is in
    let waits : inserted_by session_by c.args.rest.now c.args.request ≡ c.add.new.self = ap (inserted_by session_by c.args.rest.now) c.in-Release.is ∙ sym c.add.ensures in
    subst (λ (rs : List Request). HasBegun base records c.args.inserts (done ++ c.args.request ∷ []) c.args.self.now c.args.candidates.now rs) waits
    (begun-other base records done c.args.self.now c.args.candidates.now c.args.rest.now h c.args.request next other)

pub returns-in-Leave-clause-begun : goal.returns-in-Leave-clause-begun
returns-in-Leave-clause-begun g c base records done h next =
    let other : is_candidate_behind base records c.args.request ≡ false = ap (is_candidate_behind base records) c.in-Leave.is in
    let waits : inserted_by session_by c.args.rest.now c.args.request ≡ c.add-in-Leave.new.self = ap (inserted_by session_by c.args.rest.now) c.in-Leave.is ∙ sym c.add-in-Leave.ensures in
    subst (λ (rs : List Request). HasBegun base records c.args.inserts (done ++ c.args.request ∷ []) c.args.self.now c.args.candidates.now rs) waits
    (begun-other base records done c.args.self.now c.args.candidates.now c.args.rest.now h c.args.request next other)
