-- What a table of changes says.
use Rattle.std.specs.Prelude.{◌≡◌, ◌≢◌, ◌⊎◌, ℕ, ◌<◌, ◌≤◌, Bool, true, false, not, ◌&&◌, ◌==◌, if◌then◌else◌, List, ◌∷◌, Option, Some, None, IsPermutation}
use Rattle.std.specs.List.{Contains}
use Rattle.ris_base.specs.Forest.{Forest}
use Rattle.ris_base.specs.Safe.{beats}
use Rattle.ris_base.specs.declared.analyses.Kind.{Kind}
use Rattle.ris_base.specs.declared.analyses.Value.{Value}
use Rattle.ris_base.specs.declared.analyses.Value.TheVariants.{Absent, Unreached, Num}
use Rattle.ris_base.specs.declared.forests.Parent.{Parent}
use Rattle.ris_algo.specs.Spreading.{State}
use Rattle.ris_repair.specs.Priority.{priority_of}
use Rattle.ris_repair.specs.declared.stores.Change.{Change}

-- the value of a change, else this one
abbrev pub value_or : Value → Option Change → Value
value_or old None = old
value_or old (Some c) = c.value

-- the parent of a change, else this one
abbrev pub parent_or : Parent → Option Change → Parent
parent_or old None = old
parent_or old (Some c) = c.parent

-- whether the neighbours were handed out
abbrev pub is_settled : Option Change → Bool
is_settled None = false
is_settled (Some c) = c.settled

abbrev pub is_number : Value → Bool
is_number Absent = false
is_number Unreached = false
is_number (Num c) = true

-- whether a change has a number and its neighbours weren't handed out
abbrev pub is_waiting : Option Change → Bool
is_waiting None = false
is_waiting (Some c) = is_number c.value && not c.settled

-- the values, parents and stages that a table of changes makes of a forest
abbrev pub state_of : Forest → (ℕ → Option Change) → State
state_of F changes = record {
  value = λ x. value_or (F.value x) (changes x);
  parent = λ x. parent_or (F.parent x) (changes x);
  waiting = λ x. is_waiting (changes x);
  settled = λ x. is_settled (changes x);
}

-- this value where nothing changed, and absent where something did
abbrev pub standing_value : Value → Option Change → Value
standing_value old None = old
standing_value old (Some c) = Absent

-- the number was better, and y has it and waits
pub record IsImproved (kind : Kind) (old : ℕ → Option Change) (queue : List (ℕ × ℕ)) (y number : ℕ) (p : Parent) (new : ℕ → Option Change) (queue2 : List (ℕ × ℕ)) : Type 0 where
  pub here : new y ≡ Some (record { value = Num number; parent = p; settled = false })
  pub others : (x : ℕ) → (y == x) ≡ false → new x ≡ old x
  pub items : IsPermutation ((priority_of kind number, y) ∷ queue) queue2

-- nothing changes
pub record IsSame (old : ℕ → Option Change) (queue : List (ℕ × ℕ)) (new : ℕ → Option Change) (queue2 : List (ℕ × ℕ)) : Type 0 where
  pub changes : (x : ℕ) → new x ≡ old x
  pub items : queue2 ≡ queue

-- whether y isn't settled and the number is better than what it has
abbrev pub is_better : Kind → Forest → (ℕ → Option Change) → ℕ → ℕ → Bool
is_better kind F old y number = not (is_settled (old y)) && beats kind number (value_or (F.value y) (old y))

-- the same vertices are settled
abbrev pub KeepsSettled : (ℕ → Option Change) → (ℕ → Option Change) → Type 0
KeepsSettled old new = (x : ℕ) → is_settled (new x) ≡ is_settled (old x)

-- none is settled
abbrev pub NoneSettled : (ℕ → Option Change) → Type 0
NoneSettled changes = (x : ℕ) → is_settled (changes x) ≡ false

-- the vertices that have a change are below n
abbrev pub AreBelow : ℕ → (ℕ → Option Change) → Type 0
AreBelow n changes = (x : ℕ) (c : Change) → changes x ≡ Some c → x < n

-- the value is a number that beats the other
pub record IsGain (kind : Kind) (new old : Value) : Type 0 where
  pub number : ℕ
  pub is : new ≡ Num number
  pub beats : beats kind number old ≡ true

-- the vertices that have a change stand in the list or have a better number than before
abbrev pub AreDue : Kind → Forest → List ℕ → (ℕ → Option Change) → Type 0
AreDue kind F fallen changes = (x : ℕ) (c : Change) → changes x ≡ Some c → Contains fallen x ⊎ IsGain kind c.value (F.value x)

-- the number of a change whose neighbours weren't handed out
abbrev pub number_of : Value → Option ℕ
number_of Absent = None
number_of Unreached = None
number_of (Num c) = Some c

abbrev pub waiting_number : Option Change → Option ℕ
waiting_number None = None
waiting_number (Some c) = if c.settled then None else number_of c.value

-- the change once its neighbours are handed out
abbrev pub settled_change : Option Change → Option Change
settled_change None = None
settled_change (Some c) = Some (record c { settled = true })

-- each vertex that waits stands in the queue with its number's priority
abbrev pub AreQueued : Kind → (ℕ → Option Change) → List (ℕ × ℕ) → Type 0
AreQueued kind changes queue = (x d : ℕ) → waiting_number (changes x) ≡ Some d → Contains queue (priority_of kind d, x)

-- each vertex that waits stands in the list, or in the queue with its number's priority
abbrev pub AreQueuedBut : Kind → List ℕ → (ℕ → Option Change) → List (ℕ × ℕ) → Type 0
AreQueuedBut kind xs changes queue = (x d : ℕ) → waiting_number (changes x) ≡ Some d → Contains xs x ⊎ Contains queue (priority_of kind d, x)

-- the changes with this one as that of x
abbrev pub with_change : (ℕ → Option Change) → ℕ → Change → ℕ → Option Change
with_change changes x c y = if x == y then Some c else changes y

-- a change waited with the number c, which has this priority, and is settled now
pub record IsTakenChange (kind : Kind) (best : ℕ) (old : Option Change) (c : ℕ) (new : Option Change) : Type 0 where
  pub was : waiting_number old ≡ Some c
  pub rank : priority_of kind c ≡ best
  pub settled : new ≡ settled_change old

-- no number with which a change waits has this priority
abbrev pub IsNoRank : Kind → ℕ → Option Change → Type 0
IsNoRank kind best old = (d : ℕ) → waiting_number old ≡ Some d → priority_of kind d ≢ best

-- v is settled now
pub record IsSettled (old : ℕ → Option Change) (v : ℕ) (new : ℕ → Option Change) : Type 0 where
  pub here : new v ≡ settled_change (old v)
  pub others : (x : ℕ) → (v == x) ≡ false → new x ≡ old x

-- v waited with the number c and is settled now, and none that waits still has a greater priority
pub record IsNext (kind : Kind) (old : ℕ → Option Change) (v c : ℕ) (new : ℕ → Option Change) : Type 0 where
  pub was : waiting_number (old v) ≡ Some c
  pub settled : IsSettled old v new
  pub best : (x d : ℕ) → waiting_number (new x) ≡ Some d → priority_of kind d ≤ priority_of kind c

-- none waits
abbrev pub NoneWaits : (ℕ → Option Change) → Type 0
NoneWaits changes = (x : ℕ) → waiting_number (changes x) ≡ None
