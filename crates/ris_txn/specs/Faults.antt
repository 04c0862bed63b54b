-- What a fault says of a part.
use Rattle.std.specs.Prelude.{ℕ, Option, Some, None}
use Rattle.ris_base.specs.Effect.{Objection}
use Rattle.ris_base.specs.declared.replies.Refusal.{Refusal}
use Rattle.ris_base.specs.declared.replies.Refusal.TheVariants as refusal
use Rattle.ris_txn.specs.declared.faults.Fault.{Fault}
use Rattle.ris_txn.specs.declared.faults.Fault.TheVariants as fault

-- the objection to the part; none where memory was wanted
abbrev pub said : Fault → Option Objection
said (fault.Limit given) = Some (Objection.Limit given)
said (fault.NoVertex id) = Some (Objection.NoVertex id)
said fault.NoEdge = Some Objection.NoEdge
said fault.NoMemory = None

-- the refusal of the part of this number, as it is judged at this front
abbrev pub refusal_at : ℕ → ℕ → Fault → Refusal
refusal_at front part (fault.Limit given) = refusal.Limit front part given
refusal_at front part (fault.NoVertex id) = refusal.NoVertex front part id
refusal_at front part fault.NoEdge = refusal.NoEdge front part
refusal_at front part fault.NoMemory = refusal.NoMemory
