-- The change that the mark says.
use Rattle.std.proofs.Common.{◌≡◌, ℕ, ◌<◌, length, get_or, arith, refl, sym, ap, ◌∙◌}
use Rattle.ris_base.specs.declared.forests.Parent.{Parent}
use Rattle.ris_base.specs.declared.forests.Parent.TheVariants as parent
use Rattle.ris_repair.specs.Tables.{change_by}
use Rattle.ris_repair.specs.declared.tables.MarkKind.{MarkKind}
use Rattle.ris_repair.specs.declared.tables.MarkKind.TheVariants.{Unchanged, Absent, Unreached, Number}
use Rattle.ris_repair.proofs.PlaceLemmas.{past_end, read_as, read_mark}
use Rattle.ris_repair.proofs.tables.Table.get.Goals as goal
use Rattle.ris_repair.proofs.tables.Table.get.Goals.{in-Absent, in-Unreached, in-Number}

pub returns-then-place-len : goal.returns-then-place-len
returns-then-place-len c =
    let t = c.self.inside in
    let size = t.marks.ok.0 in
    sym (past_end t.marks.items t.numbers.items t.parents.items c.args.self.now c.self.view_is c.args.vertex (omega arith))

pub returns-in-Unchanged : goal.returns-in-Unchanged
returns-in-Unchanged c =
    let t = c.self.inside in
    let size = t.marks.ok.0 in
    let mark = c.index-mark.result.now in
    sym (read_mark t.marks.items t.numbers.items t.parents.items c.args.self.now c.self.view_is c.args.vertex mark (omega arith) c.index-mark.ensures
    Unchanged mark.settled c.in-Unchanged.is refl)

pub returns : goal.returns
returns c =
    let t = c.self.inside in
    let v = c.args.vertex in
    let size = t.marks.ok.0 in
    let within : v < length t.marks.items = omega arith in
    let more = c.self.invariant.0 in
    let most = c.self.invariant.1 in
    let mark = c.index-mark.result.now in
    let says = λ (kind : MarkKind) (is : mark.kind ≡ kind). read_mark t.marks.items t.numbers.items t.parents.items c.args.self.now c.self.view_is v mark within
    c.index-mark.ensures kind mark.settled is refl in
    let up : get_or t.parents.items v parent.None ≡ c.index-2.result.now = read_as t.parents.items v c.index-2.result.now parent.None (omega arith) c.index-2.ensures in
    let plain = λ (kind : MarkKind) (is : mark.kind ≡ kind). sym (says kind is ∙ ap (λ (p : Parent). change_by kind mark.settled (get_or t.numbers.items v 0) p) up) in
    elim c.match-mark.branch [
      | in-Absent w ↦ rw w.value-is (plain Absent w.in-Absent.is)
      | in-Unreached w ↦ rw w.value-is (plain Unreached w.in-Unreached.is)
      | in-Number w ↦ rw w.value-is (sym (says Number w.in-Number.is
          ∙ ap (λ (n : ℕ). change_by Number mark.settled n (get_or t.parents.items v parent.None)) (read_as t.numbers.items v w.index.result.now 0 (omega arith) w.index.ensures)
          ∙ ap (λ (p : Parent). change_by Number mark.settled w.index.result.now p) up))
    ]
