use Rattle.std.proofs.Common.{◌≤◌, ◌<◌, ◌∙◌, arith, sym, subst}
use Rattle.std.specs.List.{All}
use Rattle.ris_base.specs.Limits.{greatest_of}
use Rattle.ris_base.specs.declared.graphs.Format.TheVariants.{One}
use Rattle.ris_four.proofs.TestLemmas.{IsProper-range}
use Rattle.ris_core_tests.proofs.tests.graph.Goals as goal

pub returns : goal.returns
returns c =
    IsProper-range 0 2 (record { format = One; vertices = c.from_vec-vertices.result; triples = c.from_vec-triples.result }) (omega arith) (omega arith)
    (c.from_vec-vertices.ensures ∙ c.in_ok-vertices.ensures)
    (subst (All (λ t. (0 ≤ t.source) × (t.source < 2) × (0 ≤ t.target) × (t.target < 2) × (t.weight ≤ greatest_of One)))
    (sym c.from_vec-triples.ensures) c.in_ok-triples.ensures)
