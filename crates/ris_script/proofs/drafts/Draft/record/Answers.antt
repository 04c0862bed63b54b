use Rattle.std.proofs.Common.{◌≡◌, Some, codes, false, true, rules, sym, ap, ◌∙◌}
use Rattle.std.specs.Str.{bytes_eq}
use Rattle.csv.specs.Records.{field_at, fields_of}
use Rattle.ris_script.proofs.ProgressLemmas.{progressed-base, progressed-nothing, progressed-other}
use Rattle.ris_script.proofs.drafts.Draft.record.Goals as goal
use Rattle.ris_script.specs.Progress.{with_record}

pub returns-in_default : goal.returns-in_default
returns-in_default c = progressed-nothing c.args.analyses c.args.self.now (fields_of c.args.row.now) (search rules)

pub returns-then-eq : goal.returns-then-eq
returns-then-eq c =
    let name = c.in-Some.name.now in
    let first : field_at (fields_of c.args.row.now) 0 ≡ Some name = search rules in
    let base : bytes_eq name (codes "base") ≡ true = search rules in
    rw (progressed-base c.args.analyses c.args.self.now (fields_of c.args.row.now) name first base) c.record_base.ensures

pub returns-in-Some-number_in : goal.returns-in-Some-number_in
returns-in-Some-number_in c =
    let name = c.in-Some.name.now in
    let first : field_at (fields_of c.args.row.now) 0 ≡ Some name = search rules in
    let other : bytes_eq name (codes "base") ≡ false = search rules in
    let number = c.in-Some-number_in.ensures {u = tt} in
    rw (progressed-other c.args.analyses c.args.self.now (fields_of c.args.row.now) name first other, ← number) c.record_session.ensures

pub returns-in-None : goal.returns-in-None
returns-in-None c =
    let name = c.in-Some.name.now in
    let first : field_at (fields_of c.args.row.now) 0 ≡ Some name = search rules in
    let other : bytes_eq name (codes "base") ≡ false = search rules in
    let none = c.in-None.ensures {u = tt} in
    progressed-other c.args.analyses c.args.self.now (fields_of c.args.row.now) name first other
    ∙ sym (ap (with_record c.args.analyses c.args.self.now (fields_of c.args.row.now)) none)
