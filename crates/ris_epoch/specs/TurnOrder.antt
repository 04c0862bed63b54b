-- In which order a turn goes: its cells, the merge of their logs, and its tail.
use Rattle.std.specs.Prelude.{◌≡◌, ℕ, ◌<◌, ◌==◌, ◌⊎◌, List, Option, Some, None}
use Rattle.std.specs.List.{AllPairs, find}
use Rattle.ris_base.specs.Machine.{Step, session_by, stripe_of}
use Rattle.ris_base.specs.Machine.Step.{Cell, Serial, Mark, Leave, Want}
use Rattle.ris_base.specs.declared.requests.Request.{Request}
use Rattle.ris_base.specs.declared.requests.Request.TheVariants as request

-- the session of a step that handles a request
abbrev pub session_in : Step → ℕ
session_in (Cell stripe session) = session
session_in (Serial session forests) = session
session_in (Mark session) = session
session_in (Leave session) = session
session_in (Want session) = session
session_in step = 0

-- the stripe of a cell
abbrev pub stripe_in : Step → ℕ
stripe_in (Cell stripe session) = stripe
stripe_in step = 0

-- the stripe of a request: that of its first part
abbrev pub stripe_by_request : Request → ℕ
stripe_by_request (request.Submit e) = stripe_of e.parts
stripe_by_request (request.Release session seq upto) = 0
stripe_by_request (request.Leave session seq) = 0

-- the stripe of a session's request in a batch
abbrev pub stripe_found : Option Request → ℕ
stripe_found None = 0
stripe_found (Some r) = stripe_by_request r

abbrev pub stripe_among : List Request → ℕ → ℕ
stripe_among batch s = stripe_found (find (λ r. session_by r == s) batch)

-- stripe k with session s comes before stripe l with session t: the stripe is less, or it is the same and the session is less
abbrev pub IsSealedBefore : ℕ → ℕ → ℕ → ℕ → Type 0
IsSealedBefore k s l t = (k < l) ⊎ ((k ≡ l) × (s < t))

-- A turn goes in order: in each stripe the cells take the candidates of lesser sessions first; the merge has the candidates of stripe 0
-- first, then those of stripe 1, and so on, those of one stripe by their sessions; and the tail handles lesser sessions first
pub record IsInOrder (batch : List Request) (cells : List Step) (order : List ℕ) (tail : List Step) : Type 0 where
  pub in_stripes : AllPairs (λ one later. stripe_in one ≡ stripe_in later → session_in one < session_in later) cells
  pub by_stripes : AllPairs (λ s later. IsSealedBefore (stripe_among batch s) s (stripe_among batch later) later) order
  pub by_sessions : AllPairs (λ one later. session_in one < session_in later) tail
