-- What is known of a value that was made.
use Rattle.std.specs.Prelude.{◌≡◌, IfOk, Ok, Result}
use Rattle.std.proofs.Common.{subst}
use Rattle.ris_base.specs.declared.memory.NoMemory.{NoMemory}

-- what a call says of its value, of the value that it made
pub made : {A : Type 0} (r : Result A NoMemory) (P : A → Type 0) (x : A) → r ≡ Ok x → IfOk r P → P x
made {A = A} r P x e h = subst (λ (q : Result A NoMemory). IfOk q P) e h
