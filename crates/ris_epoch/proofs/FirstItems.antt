-- The first item of a list, as it is taken, and the first of ordered requests.
use Rattle.std.proofs.Common.{◌≡◌, ℕ, ◌+◌, ◌<◌, ◌≤◌, List, [], ◌∷◌, ◌++◌, drop, Some, None, arith, refl, sym, ap, ◌∙◌}
use Rattle.std.specs.List.{All, slice_get}
use Rattle.std.proofs.lemmas.List.Elements.{All-cons, All-nil}
use Rattle.ris_base.specs.Machine.{session_by}
use Rattle.ris_base.specs.declared.requests.Request.{Request}
use Rattle.ris_epoch.specs.Ordering.{AreOrdered}

-- a list whose first item was taken
pub first-rest : {X : Type 0} (xs ys : List X) (x : X) → Some x ≡ slice_get xs 0 → ys ≡ drop 1 xs → xs ≡ x ∷ ys
first-rest [] ys x at rest = absurd (cc)
first-rest (z ∷ xs) ys x at rest = let first : x ≡ z = cc in ap (λ (w : _). w ∷ xs) (sym first) ∙ ap (λ (ws : List _). x ∷ ws) (sym rest)

-- and one of which none was there
pub none-rest : {X : Type 0} (xs : List X) → None ≡ slice_get xs 0 → xs ≡ []
none-rest [] at = refl
none-rest (x ∷ xs) at = absurd (cc)

-- the sessions before one of an ordered list are lesser
pub ordered-before : (low : ℕ) (done : List Request) (r : Request) (rest : List Request) → AreOrdered low (done ++ r ∷ rest) → (low ≤ session_by r) × All (λ x. session_by x < session_by r) done
ordered-before low [] r rest h = (h.0, All-nil (λ x. session_by x < session_by r))
ordered-before low (x ∷ done) r rest h =
    let more = ordered-before (session_by x + 1) done r rest h.1 in
    (let first = h.0 in let up = more.0 in omega arith, All-cons (λ y. session_by y < session_by r) x done (let up = more.0 in omega arith) more.1)
