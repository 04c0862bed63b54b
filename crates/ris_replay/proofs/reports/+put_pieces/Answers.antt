use Rattle.std.proofs.Common.{ap, map, List, ℕ, Bor}
use Rattle.std.specs.List.{concat}
use Rattle.ris_replay.proofs.ReportFacts.{pieces-cut}
use Rattle.ris_replay.proofs.reports.+put_pieces.Goals as goal

pub returns-clause-cut : goal.returns-clause-cut
returns-clause-cut g t c =
    let split = (c.in-Some.ensures {u = tt}).cases in
    let wrote = (c.in_ok-put_all.ensures {u = tt}).ok in
    pieces-cut _ _ _ _ _ _ _ (ap (λ (ps : List (Bor (List ℕ))). concat (map (λ piece. piece.now) ps)) split.0) wrote c.put_pieces.ensures.cut
