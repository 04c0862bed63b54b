use Rattle.std.proofs.Common.{◌≡◌, ℕ, ◌+◌, ◌-◌, ◌<◌, ◌++◌, ◌∷◌, List, length, arith, sym, ap, ◌∙◌}
use Rattle.std.proofs.lemmas.List.{append-nil}
use Rattle.ris_base.specs.declared.analyses.Value.{Value}
use Rattle.ris_history.specs.HistoryView.{shown}
use Rattle.ris_history.specs.Reads.{climb, path_by}
use Rattle.ris_history.proofs.PathLemmas.{climb-step, path_by-none}
use Rattle.ris_history.proofs.paths.path_of.Goals as goal
use Rattle.ris_history.proofs.paths.path_of.Goals.{in-Num+in_ok-push+else-loop-above-test, in_default}

pub loop-above-preserved : goal.loop-above-preserved
loop-above-preserved c =
    let t = c.args.table.now in
    let v = c.args.v in
    let a = c.args.a in
    let n = length t.chains in
    let p = c.in-From in
    let less = (let test = c.loop-above-test.true in let size = c.size-above-end.ensures in let x : c.loop-above._above < length c.args.table.now.chains = omega arith in x) in
    ap (λ (xs : List ℕ). xs ++ climb (n - (c.loop-above._above + 1)) t v a c.latest-parent.result.1) c.in_ok-push-2.ensures.ok
    ∙ climb-step t v a n c.loop-above._above c.loop-above.path (c.args.x ∷ climb n t v a (shown t v a c.args.x).parent) c.loop-above.parent c.latest-parent.result.1
    p.vertex p.source p.target p.weight less p.is c.loop-above.invariant (c.latest-parent.ensures.parent ∙ ap (λ y. (shown t v a y).parent) c.from.ensures)

pub returns : goal.returns
returns c =
    let t = c.args.table.now in
    let v = c.args.v in
    let a = c.args.a in
    let x = c.args.x in
    let n = length t.chains in
    elim c.match-value.branch [
      | in-Num+in_ok-push+else-loop-above-test w ↦
          let zero_left : length c.args.table.now.chains - w.loop-above._above ≡ 0 = (let test = w.loop-above-test.false in let size = w.size-above-end.ensures in omega arith) in
          w.path-is ∙ sym (append-nil w.loop-above.path) ∙ ap (λ k. w.loop-above.path ++ climb k t v a w.loop-above.parent) (sym zero_left) ∙ w.loop-above.invariant
          ∙ sym (ap (λ (c : Value). path_by c t v a x) (sym c.latest-value.ensures.value ∙ w.in-Num.is))
      | in_default w ↦
          w.path-is ∙ c.new-path.ensures
          ∙ sym (path_by-none (shown t v a x).value t v a x (λ k e. w.in_default.not-Num k (c.latest-value.ensures.value ∙ e)))
    ]
