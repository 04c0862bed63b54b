-- What each word says, by the numbers behind it.
use Rattle.std.proofs.Common.{◌≡◌, ◌≢◌, ℕ, Bool, true, false, List, [], ◌∷◌, Option, Some, None, Result, Ok, Err, length, nat_lt, arith, refl, sym, ap, ◌∙◌, if◌then◌else◌}
use Rattle.std.specs.Option.{option_and_then, option_map}
use Rattle.std.specs.Result.{result_map_both}
use Rattle.ris_base.specs.Script.{Asks, Closes, Fields, Opens, Part, Saying, Word, Addv, Delv, Adde, Dele, Setw, Begin, Commit, Value, Parent, Path, Modified, Current, Release, Leave, numbers_of, reading_by, saying_by, saying_of, takes_version, version_of}
use Rattle.ris_base.specs.declared.commands.Command.{Command}
use Rattle.ris_base.specs.declared.commands.Command.TheVariants as command
use Rattle.ris_base.specs.declared.commands.Version.{Version}
use Rattle.ris_base.specs.declared.scripts.Cause.{Cause}
use Rattle.ris_base.specs.declared.scripts.Cause.TheVariants as cause
use Rattle.ris_base.specs.declared.updates.Update.{Update}
use Rattle.ris_script.proofs.FieldLemmas.{numbers_in-enough, other-count}
use Rattle.ris_script.specs.Sayings.{analysis_within, numbers_in, said_within, some_within_analyses, version_and_numbers_in, vertex_within}

-- a word with no version reads numbers alone
saying_of-numbers : (word : Word) (fields : Fields) → takes_version word ≡ false → saying_of word fields ≡ option_and_then (saying_by word) (numbers_of fields)
unfolding saying_of
saying_of-numbers word [] e = refl
saying_of-numbers word (field ∷ fields) e = rw e refl

-- a word of so many numbers
saying_of-count : (word : Word) (n : ℕ) (fields : Fields) → takes_version word ≡ false → ((numbers : List ℕ) → length numbers ≢ n → saying_by word numbers ≡ None)
    → saying_of word fields ≡ option_and_then (saying_by word) (numbers_in n fields)
saying_of-count word n fields e none = saying_of-numbers word fields e ∙ numbers_in-enough (saying_by word) n fields none

addv-count : (numbers : List ℕ) → length numbers ≢ 1 → saying_by Addv numbers ≡ None
addv-count [] e = refl
addv-count (x ∷ []) e = absurd (e refl)
addv-count (x ∷ y ∷ rest) e = refl

pub saying_of_addv : (fields : Fields) → saying_of Addv fields ≡ option_and_then (saying_by Addv) (numbers_in 1 fields)
saying_of_addv fields = saying_of-count Addv 1 fields refl addv-count

delv-count : (numbers : List ℕ) → length numbers ≢ 1 → saying_by Delv numbers ≡ None
delv-count [] e = refl
delv-count (x ∷ []) e = absurd (e refl)
delv-count (x ∷ y ∷ rest) e = refl

pub saying_of_delv : (fields : Fields) → saying_of Delv fields ≡ option_and_then (saying_by Delv) (numbers_in 1 fields)
saying_of_delv fields = saying_of-count Delv 1 fields refl delv-count

adde-count : (numbers : List ℕ) → length numbers ≢ 3 → saying_by Adde numbers ≡ None
adde-count [] e = refl
adde-count (x ∷ []) e = refl
adde-count (x ∷ y ∷ []) e = refl
adde-count (x ∷ y ∷ z ∷ []) e = absurd (e refl)
adde-count (x ∷ y ∷ z ∷ t ∷ rest) e = refl

pub saying_of_adde : (fields : Fields) → saying_of Adde fields ≡ option_and_then (saying_by Adde) (numbers_in 3 fields)
saying_of_adde fields = saying_of-count Adde 3 fields refl adde-count

dele-count : (numbers : List ℕ) → length numbers ≢ 3 → saying_by Dele numbers ≡ None
dele-count [] e = refl
dele-count (x ∷ []) e = refl
dele-count (x ∷ y ∷ []) e = refl
dele-count (x ∷ y ∷ z ∷ []) e = absurd (e refl)
dele-count (x ∷ y ∷ z ∷ t ∷ rest) e = refl

pub saying_of_dele : (fields : Fields) → saying_of Dele fields ≡ option_and_then (saying_by Dele) (numbers_in 3 fields)
saying_of_dele fields = saying_of-count Dele 3 fields refl dele-count

setw-count : (numbers : List ℕ) → length numbers ≢ 4 → saying_by Setw numbers ≡ None
setw-count [] e = refl
setw-count (x ∷ []) e = refl
setw-count (x ∷ y ∷ []) e = refl
setw-count (x ∷ y ∷ z ∷ []) e = refl
setw-count (x ∷ y ∷ z ∷ t ∷ []) e = absurd (e refl)
setw-count (x ∷ y ∷ z ∷ t ∷ p ∷ rest) e = refl

pub saying_of_setw : (fields : Fields) → saying_of Setw fields ≡ option_and_then (saying_by Setw) (numbers_in 4 fields)
saying_of_setw fields = saying_of-count Setw 4 fields refl setw-count

release-count : (numbers : List ℕ) → length numbers ≢ 1 → saying_by Release numbers ≡ None
release-count [] e = refl
release-count (x ∷ []) e = absurd (e refl)
release-count (x ∷ y ∷ rest) e = refl

pub saying_of_release : (fields : Fields) → saying_of Release fields ≡ option_and_then (saying_by Release) (numbers_in 1 fields)
saying_of_release fields = saying_of-count Release 1 fields refl release-count

begin-count : (numbers : List ℕ) → length numbers ≢ 0 → saying_by Begin numbers ≡ None
begin-count [] e = absurd (e refl)
begin-count (x ∷ rest) e = refl

commit-count : (numbers : List ℕ) → length numbers ≢ 0 → saying_by Commit numbers ≡ None
commit-count [] e = absurd (e refl)
commit-count (x ∷ rest) e = refl

current-count : (numbers : List ℕ) → length numbers ≢ 0 → saying_by Current numbers ≡ None
current-count [] e = absurd (e refl)
current-count (x ∷ rest) e = refl

leave-count : (numbers : List ℕ) → length numbers ≢ 0 → saying_by Leave numbers ≡ None
leave-count [] e = absurd (e refl)
leave-count (x ∷ rest) e = refl

pub ruleset updates = (saying_of_addv, saying_of_delv, saying_of_adde, saying_of_dele, saying_of_setw)

-- The words that no field follows

-- a word that no number follows
saying_of-none : (word : Word) (fields : Fields) → takes_version word ≡ false → ((numbers : List ℕ) → length numbers ≢ 0 → saying_by word numbers ≡ None)
    → fields ≢ [] → saying_of word fields ≡ None
saying_of-none word [] e none more = absurd (more refl)
saying_of-none word (field ∷ fields) e none more =
    saying_of-count word 0 (field ∷ fields) e none
    ∙ ap (option_and_then (saying_by word)) (other-count (length (field ∷ fields)) 0 (numbers_of (field ∷ fields)) (omega arith))

-- a begin, a commit, a read of where all stands and a leave alone
pub said_begin : (analyses : ℕ) (fields : Fields) → fields ≡ [] → said_within analyses Begin fields ≡ Ok Opens
unfolding said_within saying_of
said_begin analyses fields e = rw e refl

pub said_commit : (analyses : ℕ) (fields : Fields) → fields ≡ [] → said_within analyses Commit fields ≡ Ok Closes
unfolding said_within saying_of
said_commit analyses fields e = rw e refl

pub said_current : (analyses : ℕ) (fields : Fields) → fields ≡ [] → said_within analyses Current fields ≡ Ok (Asks command.Current)
unfolding said_within saying_of
said_current analyses fields e = rw e refl

pub said_leave : (analyses : ℕ) (fields : Fields) → fields ≡ [] → said_within analyses Leave fields ≡ Ok (Asks command.Leave)
unfolding said_within saying_of
said_leave analyses fields e = rw e refl

-- the same with fields behind them
pub said_begin_more : (analyses : ℕ) (fields : Fields) → fields ≢ [] → said_within analyses Begin fields ≡ Err cause.Field
unfolding said_within
said_begin_more analyses fields e = ap (some_within_analyses analyses) (saying_of-none Begin fields refl begin-count e)

pub said_commit_more : (analyses : ℕ) (fields : Fields) → fields ≢ [] → said_within analyses Commit fields ≡ Err cause.Field
unfolding said_within
said_commit_more analyses fields e = ap (some_within_analyses analyses) (saying_of-none Commit fields refl commit-count e)

pub said_current_more : (analyses : ℕ) (fields : Fields) → fields ≢ [] → said_within analyses Current fields ≡ Err cause.Field
unfolding said_within
said_current_more analyses fields e = ap (some_within_analyses analyses) (saying_of-none Current fields refl current-count e)

pub said_leave_more : (analyses : ℕ) (fields : Fields) → fields ≢ [] → said_within analyses Leave fields ≡ Err cause.Field
unfolding said_within
said_leave_more analyses fields e = ap (some_within_analyses analyses) (saying_of-none Leave fields refl leave-count e)

-- The other words

-- an update, or none
pub said_part : (analyses : ℕ) (word : Word) (fields : Fields) (update : Update) → Some (Part update) ≡ saying_of word fields
    → said_within analyses word fields ≡ Ok (Part update)
unfolding said_within
said_part analyses word fields update e = ap (some_within_analyses analyses) (sym e)

pub said_nothing : (analyses : ℕ) (word : Word) (fields : Fields) → None ≡ saying_of word fields → said_within analyses word fields ≡ Err cause.Field
unfolding said_within
said_nothing analyses word fields e = ap (some_within_analyses analyses) (sym e)

-- a release
pub said_release : (analyses : ℕ) (fields : Fields) → said_within analyses Release fields ≡ some_within_analyses analyses (option_and_then (saying_by Release) (numbers_in 1 fields))
unfolding said_within
said_release analyses fields = ap (some_within_analyses analyses) (saying_of_release fields)

-- a read of a version, of so many numbers
reading-in : (word : Word) (n : ℕ) (fields : Fields) → takes_version word ≡ true
    → ((version : Version) (numbers : List ℕ) → length numbers ≢ n → reading_by word version numbers ≡ None)
    → saying_by word [] ≡ None
    → saying_of word fields ≡ option_and_then (λ (place : Version × List ℕ). reading_by word place.0 place.1) (version_and_numbers_in n fields)
unfolding saying_of version_and_numbers_in
reading-in word n [] e none nothing = nothing
reading-in word n (field ∷ fields) e none nothing = rw e (by (version_of field))
  where
    inner : (version : Version) (o : Option (List ℕ)) → option_and_then (reading_by word version) o
        ≡ option_and_then (λ (place : Version × List ℕ). reading_by word place.0 place.1) (option_map (λ (numbers : List ℕ). (version, numbers)) o)
    inner version None = refl
    inner version (Some numbers) = refl

    by : (o : Option Version) → option_and_then (λ (version : Version). option_and_then (reading_by word version) (numbers_of fields)) o
        ≡ option_and_then (λ (place : Version × List ℕ). reading_by word place.0 place.1)
        (option_and_then (λ (version : Version). option_map (λ (numbers : List ℕ). (version, numbers)) (numbers_in n fields)) o)
    by None = refl
    by (Some version) = numbers_in-enough (reading_by word version) n fields (none version) ∙ inner version (numbers_in n fields)

value-count : (version : Version) (numbers : List ℕ) → length numbers ≢ 2 → reading_by Value version numbers ≡ None
value-count version [] e = refl
value-count version (a ∷ []) e = refl
value-count version (a ∷ x ∷ []) e = absurd (e refl)
value-count version (a ∷ x ∷ y ∷ rest) e = refl

parent-count : (version : Version) (numbers : List ℕ) → length numbers ≢ 2 → reading_by Parent version numbers ≡ None
parent-count version [] e = refl
parent-count version (a ∷ []) e = refl
parent-count version (a ∷ x ∷ []) e = absurd (e refl)
parent-count version (a ∷ x ∷ y ∷ rest) e = refl

path-count : (version : Version) (numbers : List ℕ) → length numbers ≢ 2 → reading_by Path version numbers ≡ None
path-count version [] e = refl
path-count version (a ∷ []) e = refl
path-count version (a ∷ x ∷ []) e = absurd (e refl)
path-count version (a ∷ x ∷ y ∷ rest) e = refl

modified-count : (version : Version) (numbers : List ℕ) → length numbers ≢ 1 → reading_by Modified version numbers ≡ None
modified-count version [] e = refl
modified-count version (a ∷ []) e = absurd (e refl)
modified-count version (a ∷ x ∷ rest) e = refl

-- what is asked where the analysis is one of so many
asked-within : {A : Type 0} (b : Bool) (place : A) (asked : A → Command)
    → (elim (if b then None else Some cause.Analysis) as (λ (o : Option Cause). Result Saying Cause) [ Some why ↦ Err why | None ↦ Ok (Asks (asked place)) ])
    ≡ result_map_both (λ (t : A). Asks (asked t)) (λ (why : Cause). why) (if b then Ok place else Err cause.Analysis)
asked-within true place asked = refl
asked-within false place asked = refl

value-within : (analyses : ℕ) (place : Option (Version × List ℕ))
    → some_within_analyses analyses (option_and_then (λ (p : Version × List ℕ). reading_by Value p.0 p.1) place)
    ≡ result_map_both (λ (t : Version × ℕ × ℕ). Asks (command.Value t.0 t.1 t.2)) (λ (why : Cause). why) (vertex_within analyses place)
value-within analyses None = refl
value-within analyses (Some (version, [])) = refl
value-within analyses (Some (version, a ∷ [])) = refl
value-within analyses (Some (version, a ∷ x ∷ [])) = asked-within (nat_lt a analyses) (version, a, x) (λ (t : Version × ℕ × ℕ). command.Value t.0 t.1 t.2)
value-within analyses (Some (version, a ∷ x ∷ y ∷ rest)) = refl

pub said_value : (analyses : ℕ) (fields : Fields) → said_within analyses Value fields
    ≡ result_map_both (λ (t : Version × ℕ × ℕ). Asks (command.Value t.0 t.1 t.2)) (λ (why : Cause). why) (vertex_within analyses (version_and_numbers_in 2 fields))
unfolding said_within
said_value analyses fields = ap (some_within_analyses analyses) (reading-in Value 2 fields refl value-count refl) ∙ value-within analyses (version_and_numbers_in 2 fields)

parent-within : (analyses : ℕ) (place : Option (Version × List ℕ))
    → some_within_analyses analyses (option_and_then (λ (p : Version × List ℕ). reading_by Parent p.0 p.1) place)
    ≡ result_map_both (λ (t : Version × ℕ × ℕ). Asks (command.Parent t.0 t.1 t.2)) (λ (why : Cause). why) (vertex_within analyses place)
parent-within analyses None = refl
parent-within analyses (Some (version, [])) = refl
parent-within analyses (Some (version, a ∷ [])) = refl
parent-within analyses (Some (version, a ∷ x ∷ [])) = asked-within (nat_lt a analyses) (version, a, x) (λ (t : Version × ℕ × ℕ). command.Parent t.0 t.1 t.2)
parent-within analyses (Some (version, a ∷ x ∷ y ∷ rest)) = refl

pub said_parent : (analyses : ℕ) (fields : Fields) → said_within analyses Parent fields
    ≡ result_map_both (λ (t : Version × ℕ × ℕ). Asks (command.Parent t.0 t.1 t.2)) (λ (why : Cause). why) (vertex_within analyses (version_and_numbers_in 2 fields))
unfolding said_within
said_parent analyses fields = ap (some_within_analyses analyses) (reading-in Parent 2 fields refl parent-count refl) ∙ parent-within analyses (version_and_numbers_in 2 fields)

path-within : (analyses : ℕ) (place : Option (Version × List ℕ))
    → some_within_analyses analyses (option_and_then (λ (p : Version × List ℕ). reading_by Path p.0 p.1) place)
    ≡ result_map_both (λ (t : Version × ℕ × ℕ). Asks (command.Path t.0 t.1 t.2)) (λ (why : Cause). why) (vertex_within analyses place)
path-within analyses None = refl
path-within analyses (Some (version, [])) = refl
path-within analyses (Some (version, a ∷ [])) = refl
path-within analyses (Some (version, a ∷ x ∷ [])) = asked-within (nat_lt a analyses) (version, a, x) (λ (t : Version × ℕ × ℕ). command.Path t.0 t.1 t.2)
path-within analyses (Some (version, a ∷ x ∷ y ∷ rest)) = refl

pub said_path : (analyses : ℕ) (fields : Fields) → said_within analyses Path fields
    ≡ result_map_both (λ (t : Version × ℕ × ℕ). Asks (command.Path t.0 t.1 t.2)) (λ (why : Cause). why) (vertex_within analyses (version_and_numbers_in 2 fields))
unfolding said_within
said_path analyses fields = ap (some_within_analyses analyses) (reading-in Path 2 fields refl path-count refl) ∙ path-within analyses (version_and_numbers_in 2 fields)

modified-within : (analyses : ℕ) (place : Option (Version × List ℕ))
    → some_within_analyses analyses (option_and_then (λ (p : Version × List ℕ). reading_by Modified p.0 p.1) place)
    ≡ result_map_both (λ (t : Version × ℕ). Asks (command.Modified t.0 t.1)) (λ (why : Cause). why) (analysis_within analyses place)
modified-within analyses None = refl
modified-within analyses (Some (version, [])) = refl
modified-within analyses (Some (version, a ∷ [])) = asked-within (nat_lt a analyses) (version, a) (λ (t : Version × ℕ). command.Modified t.0 t.1)
modified-within analyses (Some (version, a ∷ x ∷ rest)) = refl

pub said_modified : (analyses : ℕ) (fields : Fields) → said_within analyses Modified fields
    ≡ result_map_both (λ (t : Version × ℕ). Asks (command.Modified t.0 t.1)) (λ (why : Cause). why) (analysis_within analyses (version_and_numbers_in 1 fields))
unfolding said_within
said_modified analyses fields = ap (some_within_analyses analyses) (reading-in Modified 1 fields refl modified-count refl) ∙ modified-within analyses (version_and_numbers_in 1 fields)

pub ruleset commands = (said_value, said_parent, said_path, said_modified, said_current, said_current_more, said_release, said_leave, said_leave_more)

pub ruleset sayings = (said_begin, said_begin_more, said_commit, said_commit_more)
