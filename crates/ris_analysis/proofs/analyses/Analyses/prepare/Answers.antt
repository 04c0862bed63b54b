use Rattle.std.proofs.Common.{List, subst, ◌∙◌}
use Rattle.std.specs.Prelude.{IfOk}
use Rattle.std.proofs.lemmas.Result.{IfOk-weaker}
use Rattle.ris_base.specs.Lists.{EachPair}
use Rattle.ris_analysis.specs.declared.kinds.AnyForest.{AnyForest}
use Rattle.ris_analysis.proofs.RepairedLemmas.{repaired_fit, repaired_modified, repaired_moved, repaired_right, repaired_within, Repaired}
use Rattle.ris_analysis.proofs.analyses.Analyses.prepare.Given.{Over}
use Rattle.ris_analysis.proofs.analyses.Analyses.prepare.Goals as goal

-- each forest is repaired by its delta
repaired : (g : Over) (c : goal.After-prepare g) → IfOk c.prepare.result (λ deltas. EachPair (Repaired c.args.graph.now c.args.net.now) c.args.self.now deltas)
repaired g c =
    subst (λ (ones : List AnyForest). IfOk c.prepare.result (λ deltas. EachPair (Repaired c.args.graph.now c.args.net.now) ones deltas))
    (c.deref.ensures.value ∙ c.self.view_is) c.prepare.ensures.repaired

pub returns-clause-right : goal.returns-clause-right
returns-clause-right g c =
    IfOk-weaker c.prepare.result (λ deltas. EachPair (Repaired c.args.graph.now c.args.net.now) c.args.self.now deltas) _
    (λ deltas h. repaired_right c.args.graph.now c.args.net.now c.args.self.now deltas h) (repaired g c)

pub returns-clause-moved : goal.returns-clause-moved
returns-clause-moved g c =
    IfOk-weaker c.prepare.result (λ deltas. EachPair (Repaired c.args.graph.now c.args.net.now) c.args.self.now deltas) _
    (λ deltas h. repaired_moved c.args.graph.now c.args.net.now c.args.self.now deltas h) (repaired g c)

pub returns-clause-modified : goal.returns-clause-modified
returns-clause-modified g c =
    IfOk-weaker c.prepare.result (λ deltas. EachPair (Repaired c.args.graph.now c.args.net.now) c.args.self.now deltas) _
    (λ deltas h. repaired_modified c.args.graph.now c.args.net.now c.args.self.now deltas h) (repaired g c)

pub returns-clause-fit : goal.returns-clause-fit
returns-clause-fit g c = λ room.
    IfOk-weaker c.prepare.result (λ deltas. EachPair (Repaired c.args.graph.now c.args.net.now) c.args.self.now deltas) _
    (λ deltas h. repaired_fit c.args.graph.now c.args.net.now c.args.self.now deltas h room) (repaired g c)

pub returns-clause-within : goal.returns-clause-within
returns-clause-within g c =
    IfOk-weaker c.prepare.result (λ deltas. EachPair (Repaired c.args.graph.now c.args.net.now) c.args.self.now deltas) _
    (λ deltas h. repaired_within c.args.graph.now c.args.net.now c.args.self.now deltas h) (repaired g c)
