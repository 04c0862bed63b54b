use Rattle.std.proofs.Common.{List, sym, subst, ap, ◌∙◌}
use Rattle.ris_analysis.specs.Analyses.{specs_of, forests_of, all_with_rows, AllSuit, AreAnalyses, CanCommit}
use Rattle.ris_analysis.specs.declared.kinds.AnyForest.{AnyForest}
use Rattle.ris_analysis.proofs.CommitLemmas.{AllSuit-committed, AreAnalyses-committed, forests_of-committed, specs_of-committed}
use Rattle.ris_analysis.proofs.analyses.Analyses.commit.Goals as goal

pub invariant_of-self : goal.invariant_of-self
invariant_of-self c = subst AreAnalyses (sym c.commit.ensures) (AreAnalyses-committed c.self.inside.forests.items c.args.deltas.now c.self.invariant)

pub returns-clause-specs : goal.returns-clause-specs
returns-clause-specs c = ap specs_of c.commit.ensures ∙ specs_of-committed c.self.inside.forests.items c.args.deltas.now ∙ ap specs_of c.self.view_is

pub returns-clause-suits : goal.returns-clause-suits
returns-clause-suits c = λ format all.
    subst (λ (ones : List AnyForest). AllSuit ones format) (sym c.commit.ensures)
    (AllSuit-committed c.self.inside.forests.items c.args.deltas.now format (subst (λ (ones : List AnyForest). AllSuit ones format) (sym c.self.view_is) all))

pub returns-clause-forests : goal.returns-clause-forests
returns-clause-forests c =
    ap forests_of c.commit.ensures
    ∙ forests_of-committed c.self.inside.forests.items c.args.deltas.now (subst (λ (ones : List AnyForest). CanCommit ones c.args.deltas.now) (sym c.self.view_is) c.requires)
    ∙ ap (λ (ones : List AnyForest). all_with_rows (forests_of ones) c.args.deltas.now) c.self.view_is
