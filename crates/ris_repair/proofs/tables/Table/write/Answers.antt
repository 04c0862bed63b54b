-- The place is within all three tables, and says the change then.
use Rattle.std.proofs.Common.{ℕ, ◌<◌, length, get_or, None, arith, ap, ◌∙◌}
use Rattle.ris_repair.specs.Tables.{change_of}
use Rattle.ris_repair.proofs.PlaceLemmas.{length-changes, written, written_apart}
use Rattle.ris_repair.proofs.tables.Table.write.Goals as goal

pub index_mut-requires : goal.index_mut-requires
index_mut-requires c =
    let t = c.self.inside in
    omega (arith, length-changes t.marks.items t.numbers.items t.parents.items, ap length c.self.view_is, t.marks.ok.0)

pub index_mut-requires-2 : goal.index_mut-requires-2
index_mut-requires-2 c =
    let t = c.self.inside in
    let more = c.self.invariant.0 in
    omega (arith, length-changes t.marks.items t.numbers.items t.parents.items, ap length c.self.view_is, t.numbers.ok.0)

pub index_mut-requires-3 : goal.index_mut-requires-3
index_mut-requires-3 c =
    let t = c.self.inside in
    let more = c.self.invariant.1 in
    omega (arith, length-changes t.marks.items t.numbers.items t.parents.items, ap length c.self.view_is, t.parents.ok.0)

pub returns-clause-here : goal.returns-clause-here
returns-clause-here c =
    let t = c.self.inside in
    let one : c.args.place < length t.marks.items = omega (arith, length-changes t.marks.items t.numbers.items t.parents.items, ap length c.self.view_is) in
    let two = c.self.invariant.0 in
    let three = c.self.invariant.1 in
    written t.marks.items t.numbers.items t.parents.items c.args.place c.of.result c.number_or_zero.result c.args.change.parent one (omega arith) (omega arith)
    ∙ ap (λ (n : ℕ). change_of c.of.result n c.args.change.parent) c.number_or_zero.ensures ∙ c.of.ensures

pub returns-clause-others : goal.returns-clause-others
returns-clause-others c = λ y off.
    let t = c.self.inside in
    written_apart t.marks.items t.numbers.items t.parents.items c.args.place c.of.result c.number_or_zero.result c.args.change.parent y off
    ∙ ap (λ l. get_or l y None) c.self.view_is
