-- Answers of calls that look for something and may want memory.
use Rattle.std.proofs.Common.{Result, Ok, Err, Option, Some, None, OnErr}
use Rattle.std.specs.Option.{IfSome, IfNone}
use Rattle.std.specs.Result.{IfOk}

-- what holds in any case holds where memory was wanted
pub on_err : {T E : Type 0} (r : Result T E) (P : Type 0) → P → OnErr r P
on_err (Ok x) P p = tt
on_err (Err e) P p = p

-- a fact of what was found gives another
pub found_some : {T E : Type 0} (r : Result (Option T) E) {P Q : T → Type 0} → ((x : T) → P x → Q x) → IfOk r (λ found. IfSome found P) → IfOk r (λ found. IfSome found Q)
found_some (Err e) next p = tt
found_some (Ok None) next p = tt
found_some (Ok (Some x)) next p = next x p

-- two facts of what was found give a third
pub found_both : {T E : Type 0} (r : Result (Option T) E) {P Q R : T → Type 0} → ((x : T) → P x → Q x → R x) → IfOk r (λ found. IfSome found P) → IfOk r (λ found. IfSome found Q)
    → IfOk r (λ found. IfSome found R)
found_both (Err e) next p q = tt
found_both (Ok None) next p q = tt
found_both (Ok (Some x)) next p q = next x p q

-- a fact where nothing was found gives another
pub found_none : {T E : Type 0} (r : Result (Option T) E) {P Q : Type 0} → (P → Q) → IfOk r (λ found. IfNone found P) → IfOk r (λ found. IfNone found Q)
found_none (Err e) next p = tt
found_none (Ok None) next p = next p
found_none (Ok (Some x)) next p = tt

-- two facts where nothing was found give a third
pub none_both : {T E : Type 0} (r : Result (Option T) E) {P Q R : Type 0} → (P → Q → R) → IfOk r (λ found. IfNone found P) → IfOk r (λ found. IfNone found Q)
    → IfOk r (λ found. IfNone found R)
none_both (Err e) next p q = tt
none_both (Ok None) next p q = next p q
none_both (Ok (Some x)) next p q = tt
