use Rattle.std.proofs.Common.{◌≡◌, ◌+◌, ◌-◌, List, length, arith, ap, ◌∙◌, subst, rules}
use Rattle.ris_history.specs.Applied.{entered_table}
use Rattle.ris_history.specs.Chains.{ChainView, grown, bound_of, with_changes}
use Rattle.ris_history.specs.HistoryView.{TableView}
use Rattle.ris_history.specs.Sound.{IsSound}
use Rattle.ris_history.proofs.ChangeLemmas.{with_dues-few, with_dues-many, on_ok}
use Rattle.ris_history.proofs.TableLemmas.{entered-sound}
use Rattle.ris_history.proofs.tables.Table.enter.Goals as goal

pub overflow_sub-self : goal.overflow_sub-self
overflow_sub-self c =
    let few = with_dues-many c.self.inside.analyses c.in-Some.front c.self.inside.dues.items c.args.changes.now in
    let dues = ap length (on_ok c.push_all.result _ (search rules) c.push_all.ensures.dues) in
    let a = c.len-waiting.ensures in let b = c.len-2.ensures in let x = c.self.inside.dues.ok.0 in let y = c.push_all.new.dues.ok.0 in
    omega arith

pub overflow_add-self : goal.overflow_add-self
overflow_add-self c =
    let more = with_dues-few c.self.inside.analyses c.in-Some.front c.self.inside.dues.items c.args.changes.now in
    let dues = ap length (on_ok c.push_all.result _ (search rules) c.push_all.ensures.dues) in
    let a = c.len-waiting.ensures in let b = c.len-2.ensures in let x = c.self.inside.dues.ok.0 in let y = c.push_all.new.dues.ok.0 in
    let f = c.in-Some-checked_add.ensures in let g = c.len.ensures in
    omega arith

pub invariant_of-self-2 : goal.invariant_of-self-2
invariant_of-self-2 c =
    let old = c.self.inside in
    let ds = c.args.changes.now in
    let chains = on_ok c.push_all.result _ (search rules) c.push_all.ensures.ok in
    let dues = on_ok c.push_all.result _ (search rules) c.push_all.ensures.dues in
    let wide = c.in_ok-grow.ensures.ok ∙ ap (λ m. grown m c.self.inside.chains.items) c.bound_of.ensures in
    let sound = entered-sound old.analyses c.in-Some.front old.dues.items c.push_all.new.dues.items old.chains.items c.grow.new.chains.items c.push_all.new.chains.items old.front old.kept ds c.self.invariant c.in-Some.ensures.1 wide chains dues in
    let a = c.len-waiting.ensures in let b = c.len-2.ensures in let x = c.self.inside.dues.ok.0 in let y = c.push_all.new.dues.ok.0 in
    let count : c.self.inside.kept + (length c.push_all.new.dues.items - length c.self.inside.dues.items) ≡ c.self.inside.kept + (c.len-2.result - c.len-waiting.result) = omega arith in
    subst (λ k. IsSound c.push_all.new.chains.items c.push_all.new.dues.items c.in-Some.front k old.analyses) count sound

pub returns-clause-ok : goal.returns-clause-ok
unfolding entered_table
returns-clause-ok c =
    let ds = c.args.changes.now in
    let n = c.self.inside.analyses in
    let chains = on_ok c.push_all.result _ (search rules) c.push_all.ensures.ok in
    let wide = c.in_ok-grow.ensures.ok ∙ ap (λ m. grown m c.self.inside.chains.items) c.bound_of.ensures in
    ap (λ (xs : List ChainView). let t : TableView = record { front = c.in-Some.front; analyses = n; chains = xs } in t)
    (chains ∙ ap (λ (xs : List ChainView). with_changes n c.in-Some.front xs ds) wide)
    ∙ ap (λ p. let t : TableView = record { front = p; analyses = n; chains = with_changes n p (grown (bound_of n ds) c.self.inside.chains.items) ds } in t) c.in-Some.ensures.1
    ∙ ap (λ (t : TableView). entered_table t ds) c.self.view_is
