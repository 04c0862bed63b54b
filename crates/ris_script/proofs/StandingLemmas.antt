-- What each saying and each record makes of a session.
use Rattle.std.proofs.Common.{◌≡◌, ◌≢◌, ◌≤◌, ◌==◌, ◌||◌, ℕ, Bool, true, false, List, [], ◌∷◌, ◌++◌, Option, Some, None, Result, Ok, Err, length, drop, is_some, arith, refl, subst, sym, ap, ◌∙◌, if◌then◌else◌}
use Rattle.std.specs.Option.{option_and_then}
use Rattle.std.proofs.lemmas.Grind.{common_steps}
use Rattle.std.proofs.lemmas.List.{append-nil}
use Rattle.csv.specs.Records.{field_at}
use Rattle.ris_base.specs.Script.{Asks, Closes, Fields, Header, Opens, Part, Saying, Word, commands_behind, is_leave, is_of_format, word_of, word_said}
use Rattle.ris_base.specs.declared.commands.Command.{Command}
use Rattle.ris_base.specs.declared.commands.Command.TheVariants.{Change}
use Rattle.ris_base.specs.declared.scripts.Cause.{Cause}
use Rattle.ris_base.specs.declared.scripts.Cause.TheVariants as cause
use Rattle.ris_base.specs.declared.updates.Update.{Update}
use Rattle.ris_script.specs.Sayings.{said_within}
use Rattle.ris_script.specs.Standing.{Becomes, Standing, heard, heard_or_cause, part_added, recorded}
use Rattle.ris_script.specs.declared.faults.RecordError.{RecordError}
use Rattle.ris_script.specs.declared.faults.RecordError.TheVariants as error

-- a standing by its parts
abbrev pub standing_of : List Command → Option (List Update) → Bool → Standing
standing_of commands parts left = record { commands = commands; parts = parts; left = left }

pub heard-begin : (commands : List Command) (parts : Option (List Update)) (left : Bool) → is_some parts ≡ false
    → heard (standing_of commands parts left) Opens ≡ Ok (standing_of commands (Some []) left)
unfolding commands_behind
heard-begin commands None left e = ap (λ (t : List Command). Ok (standing_of t (Some []) left)) (append-nil commands)
heard-begin commands (Some parts) left e = cc e

pub heard-commit : (commands : List Command) (parts : List Update) (left : Bool) → parts ≢ []
    → heard (standing_of commands (Some parts) left) Closes ≡ Ok (standing_of (commands ++ Change parts ∷ []) None left)
unfolding commands_behind
heard-commit commands [] left e = absurd (e refl)
heard-commit commands (part ∷ parts) left e = by (length (part ∷ parts) == 0) refl
  where
    by : (b : Bool) → (length (part ∷ parts) == 0) ≡ b
        → (elim (if b then Some cause.Parts else None) as (λ (o : Option Cause). Result Standing Cause)
        [ Some why ↦ Err why | None ↦ Ok (standing_of (commands ++ Change (part ∷ parts) ∷ []) None left) ])
        ≡ Ok (standing_of (commands ++ Change (part ∷ parts) ∷ []) None left)
    by true p = absurd (grind (arith, common_steps))
    by false p = refl

pub heard-ask : (commands : List Command) (parts : Option (List Update)) (left : Bool) (asked : Command) → is_some parts ≡ false
    → heard (standing_of commands parts left) (Asks asked) ≡ Ok (standing_of (commands ++ asked ∷ []) parts (is_leave (Asks asked) || left))
unfolding commands_behind
heard-ask commands None left asked e = refl
heard-ask commands (Some parts) left asked e = cc e

pub heard-change : (commands later : List Command) (parts : Option (List Update)) (left : Bool) (update : Update) (change : Command) (now : Standing)
    → standing_of commands parts left ≡ now → parts ≡ None → change ≡ Change (update ∷ []) → later ≡ commands ++ change ∷ []
    → heard now (Part update) ≡ Ok (standing_of later parts left)
unfolding commands_behind
heard-change commands later None left update change now same e made pushed =
    let change-is : Ok (standing_of (commands ++ Change (update ∷ []) ∷ []) None left) ≡ Ok (standing_of later None left) = cc in
    subst (λ (t : Standing). heard t (Part update) ≡ Ok (standing_of later None left)) same change-is
heard-change commands later (Some parts) left update change now same e made pushed = cc e

-- a part that is added, or not
pub heard-part : {A : Type 0} (result : Result A RecordError) (commands : List Command) (parts more : List Update) (left : Bool) (update : Update)
    → Becomes result more (part_added parts update)
    → Becomes result (standing_of commands (Some more) left) (heard (standing_of commands (Some parts) left) (Part update))
unfolding commands_behind
heard-part {A} result commands parts more left update h = by (length parts == 1024) result h
  where
    by : (b : Bool) (r : Result A RecordError) → Becomes r more (if b then Err cause.Parts else Ok (parts ++ update ∷ []))
        → Becomes r (standing_of commands (Some more) left)
        (elim (if b then Some cause.Parts else None) as (λ (o : Option Cause). Result Standing Cause)
        [ Some why ↦ Err why | None ↦ Ok (standing_of (commands ++ []) (Some (parts ++ update ∷ [])) left) ])
    by true (Ok done) e = cc e
    by false (Ok done) e =
        let same : parts ++ update ∷ [] ≡ more = cc e in
        rw same (ap (λ (t : List Command). Ok (standing_of t (Some more) left)) (append-nil commands))
    by true (Err (error.Fault why)) e = let same : cause.Parts ≡ why = cc e in rw same refl
    by false (Err (error.Fault why)) e = cc e
    by b (Err error.NoMemory) e = tt

-- Records

pub recorded-left : (h : Header) (analyses : ℕ) (commands : List Command) (parts : Option (List Update)) (left : Bool) (fields : Fields) → left ≡ true
    → recorded h analyses (standing_of commands parts left) fields ≡ Err cause.Left
unfolding recorded
recorded-left h analyses commands parts true fields e = refl
recorded-left h analyses commands parts false fields e = cc e

pub recorded-op : (h : Header) (analyses : ℕ) (commands : List Command) (parts : Option (List Update)) (left : Bool) (fields : Fields) → left ≡ false
    → None ≡ word_said h fields → recorded h analyses (standing_of commands parts left) fields ≡ Err cause.Op
unfolding recorded
recorded-op h analyses commands parts true fields e n = cc e
recorded-op h analyses commands parts false fields e n = rw (← n) refl

recorded-word : (h : Header) (analyses : ℕ) (commands : List Command) (parts : Option (List Update)) (left : Bool) (fields : Fields) (word : Word) → left ≡ false
    → Some word ≡ word_said h fields
    → recorded h analyses (standing_of commands parts left) fields ≡ heard_or_cause (standing_of commands parts left) (said_within analyses word (drop 2 fields))
unfolding recorded
recorded-word h analyses commands parts true fields word e n = cc e
recorded-word h analyses commands parts false fields word e n = rw (← n) refl

pub recorded-ok : (h : Header) (analyses : ℕ) (commands : List Command) (parts : Option (List Update)) (left : Bool) (now : Standing) (fields : Fields) (word : Word) (saying : Saying)
    → standing_of commands parts left ≡ now → left ≡ false → Some word ≡ word_said h fields → Ok saying ≡ said_within analyses word (drop 2 fields)
    → recorded h analyses now fields ≡ heard now saying
recorded-ok h analyses commands parts left now fields word saying same e n says =
    let standing = standing_of commands parts left in
    let more : recorded h analyses standing fields ≡ heard standing saying =
    recorded-word h analyses commands parts left fields word e n ∙ sym (ap (heard_or_cause standing) says) in
    subst (λ (t : Standing). recorded h analyses t fields ≡ heard t saying) same more

pub recorded-err : (h : Header) (analyses : ℕ) (commands : List Command) (parts : Option (List Update)) (left : Bool) (now : Standing) (fields : Fields) (word : Word) (why : Cause)
    → standing_of commands parts left ≡ now → left ≡ false → Some word ≡ word_said h fields → Err why ≡ said_within analyses word (drop 2 fields)
    → recorded h analyses now fields ≡ Err why
recorded-err h analyses commands parts left now fields word why same e n says =
    let standing = standing_of commands parts left in
    let more : recorded h analyses standing fields ≡ Err why =
    recorded-word h analyses commands parts left fields word e n ∙ sym (ap (heard_or_cause standing) says) in
    subst (λ (t : Standing). recorded h analyses t fields ≡ Err why) same more

-- a record with a word has two fields
pub word_said-long : (h : Header) (fields : Fields) (word : Word) → Some word ≡ word_said h fields → 2 ≤ length fields
word_said-long h [] word e = cc e
word_said-long h (name ∷ []) word e = cc e
word_said-long h (name ∷ field ∷ fields) word e = omega arith

-- the word of a record is that of its second field
pub word_said_at : (h : Header) (fields : Fields) → word_said h fields
    ≡ option_and_then (λ (field : List ℕ). option_and_then (λ (word : Word). if is_of_format h.format word then Some word else None) (word_of field)) (field_at fields 1)
unfolding field_at
word_said_at h [] = refl
word_said_at h (name ∷ []) = refl
word_said_at h (name ∷ field ∷ fields) = refl
