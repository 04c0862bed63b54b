-- Lists in the order of a key, and requests in the order of their sessions.
use Rattle.std.specs.Prelude.{ℕ, ◌+◌, ◌≤◌, nat_le, if◌then◌else◌, List, [], ◌∷◌}
use Rattle.std.specs.List.{list_any}
use Rattle.ris_base.specs.Machine.{session_by, stripe_of}
use Rattle.ris_base.specs.declared.lines.Entry.{Entry}
use Rattle.ris_base.specs.declared.requests.Request.{Request}

-- a list with one item more, behind the last one whose key is at most its own
unfoldable pub inserted_by : {X : Type 0} → (X → ℕ) → List X → X → List X
inserted_by key [] x = x ∷ []
inserted_by key (y ∷ ys) x = if list_any (λ z. nat_le (key z) (key x)) (y ∷ ys) then y ∷ inserted_by key ys x else x ∷ y ∷ ys

-- the stripe of an entry
abbrev pub stripe_by_entry : Entry → ℕ
stripe_by_entry e = stripe_of e.parts

-- the sessions of requests ascend, from low on, and are below 64
abbrev pub AreOrdered : ℕ → List Request → Type 0
AreOrdered low [] = low ≤ 64
AreOrdered low (r ∷ requests) = (low ≤ session_by r) × AreOrdered (session_by r + 1) requests
