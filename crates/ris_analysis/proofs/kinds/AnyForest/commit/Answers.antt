use Rattle.std.proofs.Common.{subst}
use Rattle.ris_forest.specs.Cells.{IsRooted}
use Rattle.ris_forest.specs.Commits.{with_rows}
use Rattle.ris_analysis.specs.AnyForest.{forest_in}
use Rattle.ris_analysis.specs.declared.kinds.AnyForest.{AnyForest}
use Rattle.ris_analysis.proofs.kinds.AnyForest.commit.Goals as goal

pub commit-requires-clause-rooted : goal.commit-requires-clause-rooted
commit-requires-clause-rooted c =
    subst (λ (one : AnyForest). IsRooted (with_rows (forest_in one) c.args.delta.now)) c.in-Bfs.is c.requires.rooted

pub commit-requires-in-Sssp-clause-rooted : goal.commit-requires-in-Sssp-clause-rooted
commit-requires-in-Sssp-clause-rooted c =
    subst (λ (one : AnyForest). IsRooted (with_rows (forest_in one) c.args.delta.now)) c.in-Sssp.is c.requires.rooted

pub commit-requires-in-Sswp-clause-rooted : goal.commit-requires-in-Sswp-clause-rooted
commit-requires-in-Sswp-clause-rooted c =
    subst (λ (one : AnyForest). IsRooted (with_rows (forest_in one) c.args.delta.now)) c.in-Sswp.is c.requires.rooted

pub commit-requires-in-Wcc-clause-rooted : goal.commit-requires-in-Wcc-clause-rooted
commit-requires-in-Wcc-clause-rooted c =
    subst (λ (one : AnyForest). IsRooted (with_rows (forest_in one) c.args.delta.now)) c.in-Wcc.is c.requires.rooted
