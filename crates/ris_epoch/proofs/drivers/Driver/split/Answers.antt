use Rattle.std.proofs.Common.{◌++◌, ℕ, List, [], ◌∷◌, length, refl, sym, subst, ap, ◌∙◌, append_assoc}
use Rattle.ris_base.specs.declared.lines.Entry.{Entry}
use Rattle.ris_base.specs.declared.requests.Request.{Request}
use Rattle.ris_epoch.specs.DriverView.{DriverView}
use Rattle.ris_epoch.specs.Turning.{HasBegun}
use Rattle.ris_epoch.proofs.BatchSteps.{begun-none, next-first}
use Rattle.ris_epoch.proofs.FirstItems.{first-rest}
use Rattle.ris_epoch.proofs.StandingFor.{stands-same}
use Rattle.ris_epoch.proofs.drivers.Driver.split.Goals as goal

pub begins-init : goal.begins-init
begins-init g c =
    let d : DriverView = c.clear_jobs.new.self in
    let cleared = c.clear_jobs.ensures.cleared in
    record {
      done = [];
      is = refl;
      all = λ base records stands.
          subst (λ (order : List Entry). HasBegun base records (length c.args.requests.now) [] d order c.args.rest.now) (sym c.requires.candidates)
          (subst (λ (rest : List Request). HasBegun base records (length c.args.requests.now) [] d [] rest) (sym c.requires.rest)
          (begun-none base records (length c.args.requests.now) d
          (stands-same c.args.self.now d base records stands (ap (λ (x : DriverView). x.graph) cleared) (ap (λ (x : DriverView). x.analyses) cleared)
          (ap (λ (x : DriverView). x.opening) cleared) (ap (λ (x : DriverView). x.journal.lines) cleared))
          (ap (λ (x : DriverView). x.jobs) cleared) (ap (λ (x : DriverView). x.records) cleared ∙ c.requires.records) (ap (λ (x : DriverView). x.replies) cleared ∙ c.requires.replies)));
      lines = ap (λ (x : DriverView). x.journal.lines) cleared;
      opening = ap (λ (x : DriverView). x.opening) cleared;
    }

pub begin-requires-clause-begun : goal.begin-requires-clause-begun
begin-requires-clause-begun g c κs within =
    let before = c.begins.invariant in
    let stands = c.clear_jobs.ensures.stands in
    let first = first-rest c.begins.requests c.take_first.new.self c.in-Some.request c.in-Some.ensures.item c.in-Some.ensures.rest in (
      before.done,
      record {
        base = stands.base;
        records = stands.records;
        of = subst (λ (n : ℕ). HasBegun stands.base stands.records n before.done c.begins.self c.begins.candidates c.begins.rest) (sym c.len-inserts.ensures)
            (before.all stands.base stands.records stands.of);
      },
      next-first c.args.requests.now before.done c.begins.requests c.take_first.new.self c.in-Some.request c.requires.ordered before.is first,
    )

pub begins-preserved : goal.begins-preserved
begins-preserved g c =
    let before = c.begins.invariant in
    let first = first-rest c.begins.requests c.take_first.new.self c.in-Some.request c.in-Some.ensures.item c.in-Some.ensures.rest in
    let next = next-first c.args.requests.now before.done c.begins.requests c.take_first.new.self c.in-Some.request c.requires.ordered before.is first in
    record {
      done = before.done ++ c.in-Some.request ∷ [];
      is = before.is ∙ ap (λ (rs : List Request). before.done ++ rs) first ∙ sym (append_assoc before.done (c.in-Some.request ∷ []) c.take_first.new.self);
      all = λ base records stands.
          subst (λ (n : ℕ). HasBegun base records n (before.done ++ c.in-Some.request ∷ []) c.begin.new.self c.begin.new.candidates c.begin.new.rest) c.len-inserts.ensures
          (c.begin.ensures.begun base records before.done
          (subst (λ (n : ℕ). HasBegun base records n before.done c.begins.self c.begins.candidates c.begins.rest) (sym c.len-inserts.ensures) (before.all base records stands)) next);
      lines = c.begin.ensures.lines ∙ before.lines;
      opening = c.begin.ensures.opening ∙ before.opening;
    }
