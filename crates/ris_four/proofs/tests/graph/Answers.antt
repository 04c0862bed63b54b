use Rattle.std.proofs.Common.{◌≤◌, ◌<◌, ◌∙◌, arith, sym, subst}
use Rattle.std.specs.List.{All}
use Rattle.ris_base.specs.Limits.{greatest_of}
use Rattle.ris_four.proofs.TestLemmas.{IsProper-range}
use Rattle.ris_four.proofs.tests.graph.Goals as goal

pub returns : goal.returns
returns c =
    let a = c.args.from in
    let b = c.args.to in
    IsProper-range a b (record { format = c.args.format; vertices = c.from_vec-vertices.result; triples = c.from_vec-triples.result }) (omega arith) (omega arith)
    (c.from_vec-vertices.ensures ∙ c.in_ok-vertices.ensures)
    (subst (All (λ t. (a ≤ t.source) × (t.source < b) × (a ≤ t.target) × (t.target < b) × (t.weight ≤ greatest_of c.args.format)))
    (sym c.from_vec-triples.ensures) c.in_ok-triples.ensures)
