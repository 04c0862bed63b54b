use Rattle.std.proofs.Common.{◌≡◌, Err, subst}
use Rattle.csv.specs.Records.{fields_of}
use Rattle.ris_base.specs.declared.scripts.Cause.TheVariants as cause
use Rattle.ris_script.proofs.StandingLemmas.{recorded-err, recorded-left, recorded-ok, recorded-op}
use Rattle.ris_script.proofs.sessions.Session.record.Goals as goal
use Rattle.ris_script.specs.Headers.{header_meaning}
use Rattle.ris_script.specs.Sayings.{saying_meaning, word_meaning}
use Rattle.ris_script.specs.Standing.{Standing, recorded}

pub returns-then-self : goal.returns-then-self
returns-then-self c =
    let inside = c.self.inside in
    subst (λ (t : Standing). recorded (header_meaning c.args.header) c.args.analyses t (fields_of c.args.row.now) ≡ Err cause.Left) c.self.view_is
    (recorded-left (header_meaning c.args.header) c.args.analyses inside.commands.items inside.parts inside.left (fields_of c.args.row.now) c.if-self.true)

pub returns-in_default : goal.returns-in_default
returns-in_default c =
    let inside = c.self.inside in
    let none = c.in_default.ensures {u = tt} in
    subst (λ (t : Standing). recorded (header_meaning c.args.header) c.args.analyses t (fields_of c.args.row.now) ≡ Err cause.Op) c.self.view_is
    (recorded-op (header_meaning c.args.header) c.args.analyses inside.commands.items inside.parts inside.left (fields_of c.args.row.now) c.if-self.false none)

pub returns-in-Ok : goal.returns-in-Ok
returns-in-Ok c =
    let inside = c.self.inside in
    let said = c.in-Ok.ensures {u = tt} in
    let same = recorded-ok (header_meaning c.args.header) c.args.analyses inside.commands.items inside.parts inside.left c.args.self.now (fields_of c.args.row.now)
    (word_meaning c.in-Some.word) (saying_meaning c.in-Ok.saying) c.self.view_is c.if-self.false (c.in-Some.ensures {u = tt}) said in
    rw same c.hear.ensures

pub returns-in-Err : goal.returns-in-Err
returns-in-Err c =
    let inside = c.self.inside in
    let said = c.in-Err.ensures {u = tt} in
    recorded-err (header_meaning c.args.header) c.args.analyses inside.commands.items inside.parts inside.left c.args.self.now (fields_of c.args.row.now)
    (word_meaning c.in-Some.word) c.in-Err.cause c.self.view_is c.if-self.false (c.in-Some.ensures {u = tt}) said
