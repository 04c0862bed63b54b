-- What a record that is no fault says, and records none of which is a fault.
use Rattle.std.proofs.Common.{◌≡◌, ◌+◌, ◌<◌, ℕ, Bool, true, false, not, ◌==◌, List, [], ◌∷◌, Option, Some, None, arith, refl, subst, codes, if◌then◌else◌, nat_lt, is_none}
use Rattle.std.specs.Bool.{⊤}
use Rattle.std.specs.List.{list_any}
use Rattle.std.specs.Option.{option_and_then}
use Rattle.std.proofs.lemmas.Grind.{common_steps}
use Rattle.std.proofs.lemmas.Slice.Eq.{bytes_eq-Decides}
use Rattle.ris_base.specs.Number.{number_of}
use Rattle.ris_base.specs.Script.{Fault, Fields, Header, Saying, cause_of, base_cause, first_fault, is_base, is_leave, newest_first, said, said_by, saying_cause, sayings, session_cause, session_said, word_said}
use Rattle.ris_base.specs.declared.scripts.Cause.{Cause}
use Rattle.ris_base.specs.declared.scripts.Cause.TheVariants as cause

-- a saying of session s fits behind the records before it
pub record Fits (h : Header) (analyses : ℕ) (before : List Fields) (s : ℕ) (saying : Saying) : Type 0 where
  pub session : s < h.sessions
  pub stays : list_any is_leave (sayings h s before) ≡ false
  pub fits : saying_cause h analyses before s saying ≡ None

-- a record of a base triple is of no session
pub session_said-base : (fields : Fields) → is_base fields ≡ true → session_said fields ≡ None
unfolding number_of
session_said-base [] e = refl
session_said-base (name ∷ fields) e =
    let same = (bytes_eq-Decides name (codes "base")).0 e in
    rw same refl

-- what a record of session s that is no fault says fits
session-fits : (h : Header) (analyses : ℕ) (before : List Fields) (fields : Fields) (s : ℕ) (saying : Saying)
    → session_cause h analyses before fields s ≡ None → said h fields ≡ Some saying → Fits h analyses before s saying
session-fits h analyses before fields s saying none says =
    by (nat_lt s h.sessions) refl (list_any is_leave (sayings h s before)) refl (is_none (word_said h fields)) (said h fields) none says
  where
    by : (a : Bool) → nat_lt s h.sessions ≡ a → (b : Bool) → list_any is_leave (sayings h s before) ≡ b → (c : Bool) (o : Option Saying)
        → (if not a then Some cause.Session else if b then Some cause.Left else if c then Some cause.Op
        else elim o [ None ↦ Some cause.Field | Some saying ↦ saying_cause h analyses before s saying ]) ≡ None
        → o ≡ Some saying → Fits h analyses before s saying
    by false p b q c o n e = cc n
    by true p true q c o n e = cc n
    by true p false q true o n e = cc n
    by true p false q false None n e = cc n
    by true p false q false (Some one) n e =
        let same : one ≡ saying = cc e in
        record { session = grind (arith, common_steps); stays = q; fits = rw same at n }

-- what a record that is no fault says of a session fits
pub said_by-fits : (h : Header) (analyses : ℕ) (before : List Fields) (fields : Fields) (s : ℕ) (saying : Saying)
    → cause_of h analyses before fields ≡ None → said_by h s fields ≡ Some saying → Fits h analyses before s saying
unfolding cause_of
said_by-fits h analyses before fields s saying none says =
    by (is_base fields) refl (session_said fields) refl none says
  where
    one : (t : ℕ) → (b : Bool) → (t == s) ≡ b → session_cause h analyses before fields t ≡ None → (if b then said h fields else None) ≡ Some saying → Fits h analyses before s saying
    one t false p n e = cc e
    one t true p n e =
        let same : t ≡ s = grind (arith, common_steps) in
        session-fits h analyses before fields s saying (subst (λ (u : ℕ). session_cause h analyses before fields u ≡ None) same n) e

    by : (b : Bool) → is_base fields ≡ b → (o : Option ℕ) → session_said fields ≡ o
        → (if b then base_cause h before fields else elim o [ None ↦ Some cause.Field | Some t ↦ session_cause h analyses before fields t ]) ≡ None
        → option_and_then (λ (t : ℕ). if t == s then said h fields else None) o ≡ Some saying → Fits h analyses before s saying
    by b p None q n e = cc e
    by true p (Some t) q n e = let none = session_said-base fields p in cc (none, q)
    by false p (Some t) q n e = one t (t == s) refl n e

-- each of the records, the newest first, is no fault behind those before it
abbrev pub AreTaken : Header → ℕ → List Fields → Type 0
AreTaken h analyses [] = ⊤
AreTaken h analyses (fields ∷ before) = (cause_of h analyses before fields ≡ None) × AreTaken h analyses before

-- records without a fault behind records without a fault
pub first_fault-taken : (h : Header) (analyses : ℕ) (before : List Fields) (number : ℕ) (records : List Fields)
    → AreTaken h analyses before → first_fault h analyses before number records ≡ None → AreTaken h analyses (newest_first before records)
unfolding first_fault newest_first
first_fault-taken h analyses before number [] taken none = taken
first_fault-taken h analyses before number (fields ∷ records) taken none =
    by (cause_of h analyses before fields) refl none (first_fault-taken h analyses (fields ∷ before) (number + 1) records)
  where
    by : (o : Option Cause) → cause_of h analyses before fields ≡ o
        → ◌≡◌ {A = Option Fault} (elim o [ Some why ↦ Some (record { number = number; cause = why }) | None ↦ first_fault h analyses (fields ∷ before) (number + 1) records ]) None
        → (AreTaken h analyses (fields ∷ before) → first_fault h analyses (fields ∷ before) (number + 1) records ≡ None → AreTaken h analyses (newest_first (fields ∷ before) records))
        → AreTaken h analyses (newest_first (fields ∷ before) records)
    by (Some why) p n more = cc n
    by None p n more = more (p, taken) n
