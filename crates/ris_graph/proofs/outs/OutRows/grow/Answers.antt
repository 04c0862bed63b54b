use Rattle.std.proofs.Common.{◌≡◌, ◌<◌, ◌∙◌, List, [], length, get_or, set, inl, inr, ap, sym, subst, arith}
use Rattle.std.proofs.lemmas.Bool.{cases_lt}
use Rattle.std.proofs.lemmas.List.{length-set}
use Rattle.std.proofs.lemmas.List.Elements.{All-set}
use Rattle.ris_rows.specs.RowView.{RowView}
use Rattle.ris_graph.specs.StripeView.{IsIdle}
use Rattle.ris_graph.specs.Tables.{row_of, HasRow}
use Rattle.ris_graph.proofs.TableLemmas.{rows-kept, rows-longer, rows_of, stripe-idle, stripe-set, stripes-kept, stripes-longer}
use Rattle.ris_graph.proofs.outs.OutRows.grow.Goals as goal

pub grow-requires : goal.grow-requires
grow-requires g c =
    stripe-idle c.loop-k.self-inside.stripes.items c.loop-k.k c.index_mut.result.now c.loop-k.invariant.size (let test = c.loop-k-test.true in omega arith) c.loop-k.invariant.idle c.index_mut.ensures.value

pub returns-in_err-grow-clause-rows : goal.returns-in_err-grow-clause-rows
returns-in_err-grow-clause-rows g c u =
    let ss = c.loop-k.self-inside.stripes.items in
    let k = c.loop-k.k in
    let new = c.grow.new.self in
    let size = c.loop-k.invariant.size in
    let lt : c.loop-k.k < length c.loop-k.self-inside.stripes.items = (let test = c.loop-k-test.true in omega arith) in
    rows-kept (rows_of c.self.inside.stripes.items) (rows_of (set ss k new))
    (λ m j. stripes-kept ss k c.index_mut.result.now new lt c.index_mut.ensures.value c.grow.ensures.rows m j ∙ c.loop-k.invariant.rows m j) u
    ∙ ap (λ (x : List (List RowView)). row_of x u) c.self.view_is

pub returns-in_err-grow-clause-longer : goal.returns-in_err-grow-clause-longer
returns-in_err-grow-clause-longer g c u has =
    let ss = c.loop-k.self-inside.stripes.items in
    let k = c.loop-k.k in
    let new = c.grow.new.self in
    let size = c.loop-k.invariant.size in
    let lt : c.loop-k.k < length c.loop-k.self-inside.stripes.items = (let test = c.loop-k-test.true in omega arith) in
    rows-longer (rows_of c.self.inside.stripes.items) (rows_of (set ss k new))
    (λ m. (let a = c.loop-k.invariant.longer m in let b = stripes-longer ss k c.index_mut.result.now new lt c.index_mut.ensures.value c.grow.ensures.longer m in omega arith)) u
    (subst (λ (x : List (List RowView)). HasRow x u) (sym c.self.view_is) has)

pub loop-k-preserved : goal.loop-k-preserved
loop-k-preserved g c =
    let ss = c.loop-k.self-inside.stripes.items in
    let k = c.loop-k.k in
    let s = c.index_mut.result.now in
    let new = c.grow.new.self in
    let size = c.loop-k.invariant.size in
    let lt : c.loop-k.k < length c.loop-k.self-inside.stripes.items = (let test = c.loop-k-test.true in omega arith) in
    record {
      size = length-set ss k new ∙ size;
      idle = All-set IsIdle ss k new c.grow.ensures.idle c.loop-k.invariant.idle;
      rows = λ m j. stripes-kept ss k s new lt c.index_mut.ensures.value c.grow.ensures.rows m j ∙ c.loop-k.invariant.rows m j;
      longer = λ m. (let a = c.loop-k.invariant.longer m in let b = stripes-longer ss k s new lt c.index_mut.ensures.value c.grow.ensures.longer m in omega arith);
      done = λ m less. elim (cases_lt m k) [
        | inl before ↦ (let a = c.loop-k.invariant.done m before in let b = stripes-longer ss k s new lt c.index_mut.ensures.value c.grow.ensures.longer m in omega arith)
        | inr past ↦ (let same : m ≡ c.loop-k.k = omega arith in
            let here = ap length (ap (λ i. get_or (rows_of (set ss k new)) i []) same ∙ stripe-set ss k new lt) in
            let long = c.in_ok-grow.ensures.ok in
            omega arith)
      ];
    }

pub returns-clause-rows : goal.returns-clause-rows
returns-clause-rows g c u =
    rows-kept (rows_of c.self.inside.stripes.items) (rows_of c.loop-k.self-inside.stripes.items) c.loop-k.invariant.rows u ∙ ap (λ (x : List (List RowView)). row_of x u) c.self.view_is

pub returns-clause-longer : goal.returns-clause-longer
returns-clause-longer g c u has =
    rows-longer (rows_of c.self.inside.stripes.items) (rows_of c.loop-k.self-inside.stripes.items) c.loop-k.invariant.longer u
    (subst (λ (x : List (List RowView)). HasRow x u) (sym c.self.view_is) has)
