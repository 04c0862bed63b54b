use Rattle.ris_algo.proofs.SafeReach.{safe_reach}
use Rattle.ris_algo.proofs.SafeUpdates.{candidate_entered, same_values}
use Rattle.std.proofs.Common.{[], ◌∷◌}
use Rattle.ris_base.specs.Requests.{entered}
use Rattle.ris_safe.proofs.laws.safe_law.Goals as goal

pub returns : goal.returns
returns c = λ g specs forests update proper right safe.
    let after = candidate_entered g specs forests (update ∷ []) proper right safe in
    record {
      right = after;
      values = same_values g (entered g (update ∷ [])) specs forests right after;
      reach = safe_reach g specs forests update proper right safe;
    }
