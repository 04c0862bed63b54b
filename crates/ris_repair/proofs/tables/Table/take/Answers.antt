-- What a mark says of waiting.
use Rattle.std.proofs.Common.{◌≡◌, ℕ, ◌<◌, Bool, true, false, length, get_or, set, Option, Some, None, arith, refl, sym, ap, ◌∙◌}
use Rattle.std.proofs.lemmas.Bool.{eqb-false}
use Rattle.std.proofs.lemmas.List.{get_or-set_same, get_or-set_other}
use Rattle.ris_base.specs.declared.analyses.Kind.{Kind}
use Rattle.ris_base.specs.declared.forests.Parent.{Parent}
use Rattle.ris_base.specs.declared.forests.Parent.TheVariants as parent
use Rattle.ris_repair.specs.Changes.{waiting_number, settled_change, IsNoRank}
use Rattle.ris_repair.specs.Priority.{priority_of}
use Rattle.ris_repair.specs.Tables.{change_by, unmarked}
use Rattle.ris_repair.specs.declared.stores.Change.{Change}
use Rattle.ris_repair.specs.declared.tables.Mark.{Mark}
use Rattle.ris_repair.specs.declared.tables.MarkKind.{MarkKind}
use Rattle.ris_repair.specs.declared.tables.MarkKind.TheVariants.{Unchanged, Absent, Unreached, Number}
use Rattle.ris_repair.proofs.PlaceLemmas.{marked, past_end, read_as, read_mark, same_place}
use Rattle.ris_repair.proofs.tables.Table.take.Goals as goal

-- what doesn't wait has no priority
no_rank : (kind : Kind) (best : ℕ) (o : Option Change) → waiting_number o ≡ None → IsNoRank kind best o
no_rank kind best o none = λ d is same. (let both : Some d ≡ None = sym is ∙ none in absurd (cc))

-- and what waits has that of its number
one_rank : (kind : Kind) (best n : ℕ) (o : Option Change) → waiting_number o ≡ Some n → ¬ (priority_of kind n ≡ best) → IsNoRank kind best o
one_rank kind best n o waits ne = λ d is same. (let both : Some n ≡ Some d = sym waits ∙ is in let at : n ≡ d = cc in ne (ap (priority_of kind) at ∙ same))

-- no mark of another kind says that a change waits with a number
idle : (kind : MarkKind) (s : Bool) (n : ℕ) (p : Parent) → ¬ (kind ≡ Number) → waiting_number (change_by kind s n p) ≡ None
idle Unchanged s n p ne = refl
idle Absent true n p ne = refl
idle Absent false n p ne = refl
idle Unreached true n p ne = refl
idle Unreached false n p ne = refl
idle Number s n p ne = absurd (ne refl)

-- nor does one that is settled
settled_idle : (kind : MarkKind) (n : ℕ) (p : Parent) → waiting_number (change_by kind true n p) ≡ None
settled_idle Unchanged n p = refl
settled_idle Absent n p = refl
settled_idle Unreached n p = refl
settled_idle Number n p = refl

pub returns-then-place-len-clause-none : goal.returns-then-place-len-clause-none
returns-then-place-len-clause-none g c =
    let t = c.self.inside in
    let size = t.marks.ok.0 in
    no_rank (g.A.Monotone.spec c.args.algo.now).kind c.args.best (get_or c.args.self.now c.args.vertex None)
    (ap waiting_number (past_end t.marks.items t.numbers.items t.parents.items c.args.self.now c.self.view_is c.args.vertex (omega arith)))

pub returns-in_default : goal.returns-in_default
returns-in_default g c =
    let t = c.self.inside in
    let v = c.args.vertex in
    let size = t.marks.ok.0 in
    let mark = c.index-mark.result.now in
    record {
      taken = tt;
      none = no_rank (g.A.Monotone.spec c.args.algo.now).kind c.args.best (get_or c.args.self.now v None)
          (ap waiting_number (read_mark t.marks.items t.numbers.items t.parents.items c.args.self.now c.self.view_is v mark (omega arith) c.index-mark.ensures
          mark.kind mark.settled refl refl)
          ∙ idle mark.kind mark.settled (get_or t.numbers.items v 0) (get_or t.parents.items v parent.None) c.in_default.not-Number);
      same = refl;
      others = λ y off. refl;
    }

pub returns-then-mark-clause-none : goal.returns-then-mark-clause-none
returns-then-mark-clause-none g c =
    let t = c.self.inside in
    let v = c.args.vertex in
    let size = t.marks.ok.0 in
    let mark = c.index-mark.result.now in
    no_rank (g.A.Monotone.spec c.args.algo.now).kind c.args.best (get_or c.args.self.now v None)
    (ap waiting_number (read_mark t.marks.items t.numbers.items t.parents.items c.args.self.now c.self.view_is v mark (omega arith) c.index-mark.ensures
    mark.kind true refl c.if-mark.true)
    ∙ settled_idle mark.kind (get_or t.numbers.items v 0) (get_or t.parents.items v parent.None))

pub returns-else-priority-best-clause-none : goal.returns-else-priority-best-clause-none
returns-else-priority-best-clause-none g c =
    let t = c.self.inside in
    let v = c.args.vertex in
    let size = t.marks.ok.0 in
    let within : v < length t.marks.items = omega arith in
    let more = c.self.invariant.0 in
    let number = c.index-number.result.now in
    one_rank (g.A.Monotone.spec c.args.algo.now).kind c.args.best number (get_or c.args.self.now v None)
    (ap waiting_number (read_mark t.marks.items t.numbers.items t.parents.items c.args.self.now c.self.view_is v c.index-mark.result.now within
    c.index-mark.ensures Number false c.in-Number.is c.if-mark.false)
    ∙ ap Some (read_as t.numbers.items v number 0 (omega arith) c.index-number.ensures))
    (λ e. c.if-priority-best.false (c.priority.ensures ∙ e))

pub returns-then-priority-best-clause-taken : goal.returns-then-priority-best-clause-taken
returns-then-priority-best-clause-taken g c =
    let t = c.self.inside in
    let v = c.args.vertex in
    let size = t.marks.ok.0 in
    let within : v < length t.marks.items = omega arith in
    let more = c.self.invariant.0 in
    let number = c.index-number.result.now in
    let was = read_mark t.marks.items t.numbers.items t.parents.items c.args.self.now c.self.view_is v c.index-mark.result.now within
    c.index-mark.ensures Number false c.in-Number.is c.if-mark.false in
    let new : Mark = record c.index_mut.result.now { settled = true } in
    let kind : new.kind ≡ Number = ap (λ (m : Mark). m.kind) (sym (read_as t.marks.items v c.index_mut.result.now unmarked within c.index_mut.ensures.value)
    ∙ read_as t.marks.items v c.index-mark.result.now unmarked within c.index-mark.ensures) ∙ c.in-Number.is in
    record {
      was = ap waiting_number was ∙ ap Some (read_as t.numbers.items v number 0 (omega arith) c.index-number.ensures);
      rank = sym c.priority.ensures ∙ c.if-priority-best.true;
      settled = marked (set t.marks.items v new) t.numbers.items t.parents.items _ refl v new (get_or-set_same t.marks.items v new unmarked within)
          ∙ ap (λ (k : MarkKind). change_by k true (get_or t.numbers.items v 0) (get_or t.parents.items v parent.None)) kind
          ∙ sym (ap settled_change was);
    }

pub returns-then-priority-best-clause-others : goal.returns-then-priority-best-clause-others
returns-then-priority-best-clause-others g c = λ y off.
    let t = c.self.inside in
    let new : Mark = record c.index_mut.result.now { settled = true } in
    same_place t.marks.items (set t.marks.items c.args.vertex new) t.numbers.items t.numbers.items t.parents.items t.parents.items y
    (get_or-set_other t.marks.items c.args.vertex y new unmarked (λ e. eqb-false c.args.vertex y off (sym e))) (λ _. refl) (λ _. refl)
    ∙ ap (λ l. get_or l y None) c.self.view_is
