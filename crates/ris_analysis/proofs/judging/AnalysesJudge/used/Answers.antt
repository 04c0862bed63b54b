use Rattle.std.proofs.Common.{sym, ap, ◌∙◌, rules, tests}
use Rattle.std.specs.List.{list_any}
use Rattle.std.proofs.lemmas.Iterator.{YieldsList-from_slice}
use Rattle.std.proofs.lemmas.Iterator.Search.{any_from_yields_List}
use Rattle.ris_base.specs.Safe.{uses}
use Rattle.ris_analysis.specs.AnyForest.{forest_in}
use Rattle.ris_analysis.specs.declared.kinds.AnyForest.{AnyForest}
use Rattle.ris_analysis.proofs.SafeLemmas.{is_used-any}
use Rattle.ris_analysis.proofs.judging.AnalysesJudge.used.Goals as goal

pub returns : goal.returns
returns c =
    let test = λ (one : AnyForest). uses (forest_in one) c.args.t in
    any_from_yields_List test _ _ c.any.result c.any.ensures.ran (YieldsList-from_slice c.forests.result.now c.iter.ensures.rest) (λ x b q k. search (rules, tests))
    ∙ ap (list_any test) c.forests.ensures.forests
    ∙ sym (is_used-any c.args.t c.args.self.now)
