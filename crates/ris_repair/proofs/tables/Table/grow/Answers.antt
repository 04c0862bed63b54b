-- More places, none of them with a mark, and tables of which some grew before memory was wanting.
use Rattle.std.proofs.Common.{◌≤◌, List, length, get_or, None, Result, Ok, Err, OnErr, arith, refl, sym, ap, ◌∙◌}
use Rattle.ris_base.specs.declared.forests.Parent.{Parent}
use Rattle.ris_base.specs.declared.forests.Parent.TheVariants as parent
use Rattle.ris_repair.specs.Tables.{unmarked, changes_of}
use Rattle.ris_repair.specs.declared.tables.Mark.{Mark}
use Rattle.ris_repair.proofs.PlaceLemmas.{length-changes, resized_below, resized_at, same_place, same_changes}
use Rattle.ris_repair.proofs.tables.Table.grow.Goals as goal

on_err : {T E : Type 0} (r : Result T E) (P : Type 0) → P → OnErr r P
on_err (Ok v) P p = tt
on_err (Err e) P p = p

pub returns-in_err-resize-2-clause-err : goal.returns-in_err-resize-2-clause-err
returns-in_err-resize-2-clause-err c =
    let t = c.self.inside in
    let long : length t.marks.items ≤ c.args.size = omega (arith, length-changes t.marks.items t.numbers.items t.parents.items, ap length c.self.view_is, c.requires) in
    let more = c.self.invariant.0 in
    on_err c.from_residual-in_err-resize-2.result _
    (ap (λ (l : List Parent). changes_of t.marks.items c.resize.new.self.items l) c.in_err-resize-2.ensures.items
    ∙ same_changes t.marks.items t.numbers.items c.resize.new.self.items t.parents.items t.parents.items
    (λ k lt. resized_below t.numbers.items c.resize.new.self.items c.args.size _ k 0 0 c.in_ok-resize.ensures.items (omega arith) (omega arith))
    (λ k lt. refl)
    ∙ c.self.view_is)

pub returns-in_err-resize-3-clause-err : goal.returns-in_err-resize-3-clause-err
returns-in_err-resize-3-clause-err c =
    let t = c.self.inside in
    let long : length t.marks.items ≤ c.args.size = omega (arith, length-changes t.marks.items t.numbers.items t.parents.items, ap length c.self.view_is, c.requires) in
    let more = c.self.invariant.0 in
    let most = c.self.invariant.1 in
    on_err c.from_residual-in_err-resize-3.result _
    (ap (λ (l : List Mark). changes_of l c.resize.new.self.items c.resize-2.new.self.items) c.in_err-resize-3.ensures.items
    ∙ same_changes t.marks.items t.numbers.items c.resize.new.self.items t.parents.items c.resize-2.new.self.items
    (λ k lt. resized_below t.numbers.items c.resize.new.self.items c.args.size _ k 0 0 c.in_ok-resize.ensures.items (omega arith) (omega arith))
    (λ k lt. resized_below t.parents.items c.resize-2.new.self.items c.args.size _ k parent.None parent.None c.in_ok-resize-2.ensures.items (omega arith) (omega arith))
    ∙ c.self.view_is)

pub returns-clause-len : goal.returns-clause-len
returns-clause-len c =
    let new = c.resize-3.new.self in
    length-changes new.items c.resize.new.self.items c.resize-2.new.self.items ∙ sym new.ok.0 ∙ c.in_ok-resize-3.ensures.len

pub returns-clause-same : goal.returns-clause-same
returns-clause-same c = λ y.
    let t = c.self.inside in
    let long : length t.marks.items ≤ c.args.size = omega (arith, length-changes t.marks.items t.numbers.items t.parents.items, ap length c.self.view_is, c.requires) in
    let more = c.self.invariant.0 in
    let most = c.self.invariant.1 in
    same_place t.marks.items c.resize-3.new.self.items t.numbers.items c.resize.new.self.items t.parents.items c.resize-2.new.self.items y
    (resized_at t.marks.items c.resize-3.new.self.items c.args.size _ y unmarked c.in_ok-resize-3.ensures.items long)
    (λ lt. resized_below t.numbers.items c.resize.new.self.items c.args.size _ y 0 0 c.in_ok-resize.ensures.items (omega arith) (omega arith))
    (λ lt. resized_below t.parents.items c.resize-2.new.self.items c.args.size _ y parent.None parent.None c.in_ok-resize-2.ensures.items (omega arith) (omega arith))
    ∙ ap (λ l. get_or l y None) c.self.view_is
