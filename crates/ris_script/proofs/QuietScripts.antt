-- Scripts of base triples and then of sayings that neither open, close nor leave: none of their records is a fault.
use Rattle.std.proofs.Common.{◌≡◌, ◌+◌, ◌<◌, ◌≤◌, ℕ, Bool, true, false, not, ◌==◌, List, [], ◌∷◌, ◌++◌, length, map, Option, Some, None, Ok, arith, refl, ap, ◌∙◌, if◌then◌else◌, nat_lt, is_none}
use Rattle.std.specs.Bool.{⊤}
use Rattle.std.specs.List.{AllByRecursion, cons_option, list_any, sum_by}
use Rattle.std.specs.Option.{option_and_then}
use Rattle.std.proofs.lemmas.Bool.Decides.{nat_tests}
use Rattle.ris_base.proofs.ScriptFaults.{session_said-base}
use Rattle.ris_base.specs.Lists.{numbers_below}
use Rattle.ris_base.specs.Script.{Asks, Closes, Fields, Header, Opens, Part, Saying, Word, analysis_asked, base_of, cause_of, commands_behind, commands_of, fault_at_end, first_fault, header_of, is_base, is_leave, is_left_open, newest_first, open_parts, said, said_by, saying_of, sayings, script_behind, script_of_records, script_or_fault, session_said, transaction_cause, word_said}
use Rattle.ris_base.specs.declared.scripts.Cause.TheVariants as cause
use Rattle.ris_base.specs.declared.scripts.Script.{Script}
use Rattle.ris_script.proofs.ScriptCounts.{commands-few}

-- Quiet sayings

-- a saying neither opens nor closes a transaction, and is no leave
abbrev pub IsShut : Saying → Type 0
IsShut (Part update) = ⊤
IsShut Opens = ⊥
IsShut Closes = ⊥
IsShut (Asks asked) = is_leave (Asks asked) ≡ false

-- the same, and an analysis that it names is one of so many
pub record IsQuiet (analyses : ℕ) (saying : Saying) : Type 0 where
  pub shut : IsShut saying
  pub known : option_and_then (λ a. if nat_lt a analyses then None else Some cause.Analysis) (analysis_asked saying) ≡ None

shut-stays : (saying : Saying) → IsShut saying → is_leave saying ≡ false
shut-stays (Part update) h = refl
shut-stays Opens h = absurd h
shut-stays Closes h = absurd h
shut-stays (Asks asked) h = h

shut-open : (saying : Saying) (earlier : List Saying) → IsShut saying → open_parts earlier ≡ None → open_parts (saying ∷ earlier) ≡ None
unfolding open_parts
shut-open (Part update) earlier h e = rw e refl
shut-open Opens earlier h e = absurd h
shut-open Closes earlier h e = absurd h
shut-open (Asks asked) earlier h e = e

shut-fits : (saying : Saying) → IsShut saying → transaction_cause None saying ≡ None
shut-fits (Part update) h = refl
shut-fits Opens h = absurd h
shut-fits Closes h = absurd h
shut-fits (Asks asked) h = refl

-- Records

-- a record is a base triple of the header
pub record IsBase (h : Header) (fields : Fields) : Type 0 where
  pub named : is_base fields ≡ true
  pub right : is_none (base_of h fields) ≡ false

-- a record says something quiet of a session of the header
pub record IsSaid (h : Header) (analyses : ℕ) (fields : Fields) : Type 0 where
  pub session : ℕ
  pub saying : Saying
  pub named : session_said fields ≡ Some session
  pub there : session < h.sessions
  pub says : said h fields ≡ Some saying
  pub quiet : IsQuiet analyses saying

-- no session has a transaction open or left behind records, the newest first
pub record AreQuiet (h : Header) (before : List Fields) : Type 0 where
  pub shut : (s : ℕ) → open_parts (sayings h s before) ≡ None
  pub stay : (s : ℕ) → list_any is_leave (sayings h s before) ≡ false

quiet-none : (h : Header) → AreQuiet h []
unfolding open_parts
quiet-none h = record { shut = λ s. refl; stay = λ s. refl }

-- a base triple says nothing of a session
base-silent : (h : Header) (fields : Fields) (s : ℕ) → IsBase h fields → said_by h s fields ≡ None
base-silent h fields s base = rw (session_said-base fields base.named) refl

quiet-base : (h : Header) (before : List Fields) (fields : Fields) → AreQuiet h before → IsBase h fields → AreQuiet h (fields ∷ before)
quiet-base h before fields quiet base =
    record {
      shut = λ s. ap (λ (o : Option Saying). open_parts (cons_option o (sayings h s before))) (base-silent h fields s base) ∙ quiet.shut s;
      stay = λ s. ap (λ (o : Option Saying). list_any is_leave (cons_option o (sayings h s before))) (base-silent h fields s base) ∙ quiet.stay s;
    }

quiet-said : (h : Header) (analyses : ℕ) (before : List Fields) (fields : Fields) → AreQuiet h before → IsSaid h analyses fields → AreQuiet h (fields ∷ before)
quiet-said h analyses before fields quiet is =
    record {
      shut = λ s. ap (λ (o : Option Saying). open_parts (cons_option o (sayings h s before))) (by_session s) ∙ shut s (is.session == s);
      stay = λ s. ap (λ (o : Option Saying). list_any is_leave (cons_option o (sayings h s before))) (by_session s) ∙ stay s (is.session == s);
    }
  where
    by_session : (s : ℕ) → said_by h s fields ≡ (if is.session == s then Some is.saying else None)
    by_session s = rw (is.named, is.says) refl

    shut : (s : ℕ) (b : Bool) → open_parts (cons_option (if b then Some is.saying else None) (sayings h s before)) ≡ None
    shut s true = shut-open is.saying (sayings h s before) is.quiet.shut (quiet.shut s)
    shut s false = quiet.shut s

    stay : (s : ℕ) (b : Bool) → list_any is_leave (cons_option (if b then Some is.saying else None) (sayings h s before)) ≡ false
    stay s true = rw (shut-stays is.saying is.quiet.shut) (quiet.stay s)
    stay s false = quiet.stay s

-- No fault

-- a base triple behind base triples is no fault
cause_of-base : (h : Header) (analyses : ℕ) (before : List Fields) (fields : Fields) → list_any (λ earlier. not (is_base earlier)) before ≡ false → IsBase h fields
    → cause_of h analyses before fields ≡ None
unfolding cause_of
cause_of-base h analyses before fields bases is = rw (is.named, is.right, bases) refl

-- a record that says something has a word
said-word : (h : Header) (fields : Fields) (saying : Saying) → said h fields ≡ Some saying → is_none (word_said h fields) ≡ false
said-word h [] saying e = cc e
said-word h (name ∷ []) saying e = cc e
said-word h (name ∷ field ∷ fields) saying e = by (word_said h (name ∷ field ∷ fields)) e
  where
    by : (o : Option Word) → option_and_then (λ word. saying_of word fields) o ≡ Some saying → is_none o ≡ false
    by None f = cc f
    by (Some word) f = refl

-- a record of a session is no base triple
session-other : (fields : Fields) (s : ℕ) → session_said fields ≡ Some s → is_base fields ≡ false
session-other fields s e = by (is_base fields) refl
  where
    by : (b : Bool) → is_base fields ≡ b → b ≡ false
    by true p = let none = session_said-base fields p in cc (none, e)
    by false p = refl

-- something quiet behind quiet records is no fault
cause_of-said : (h : Header) (analyses : ℕ) (before : List Fields) (fields : Fields) → AreQuiet h before → IsSaid h analyses fields
    → cause_of h analyses before fields ≡ None
unfolding cause_of
cause_of-said h analyses before fields quiet is =
    let other = session-other fields is.session is.named in
    let there : nat_lt is.session h.sessions ≡ true = let less = is.there in grind (arith, nat_tests) in
    let word = said-word h fields is.saying is.says in
    let open_ = quiet.shut is.session in
    let stay = quiet.stay is.session in
    let known = is.quiet.known in
    let fits = shut-fits is.saying is.quiet.shut in
    let named = is.named in
    let says = is.says in
    rw (other, named, there, stay, word, says, known, open_, fits) refl

-- records that say something quiet
first_fault-said : (h : Header) (analyses : ℕ) (before : List Fields) (number : ℕ) (records : List Fields) → AreQuiet h before
    → AllByRecursion (IsSaid h analyses) records → first_fault h analyses before number records ≡ None
unfolding first_fault
first_fault-said h analyses before number [] quiet all = refl
first_fault-said h analyses before number (fields ∷ records) quiet (is, all) =
    rw (cause_of-said h analyses before fields quiet is, first_fault)
    (first_fault-said h analyses (fields ∷ before) (number + 1) records (quiet-said h analyses before fields quiet is) all)

-- base triples, and then such records
first_fault-quiet : (h : Header) (analyses : ℕ) (before : List Fields) (number : ℕ) (bases records : List Fields) → AreQuiet h before
    → list_any (λ earlier. not (is_base earlier)) before ≡ false → AllByRecursion (IsBase h) bases → AllByRecursion (IsSaid h analyses) records
    → first_fault h analyses before number (bases ++ records) ≡ None
unfolding first_fault
first_fault-quiet h analyses before number [] records quiet first all others = first_fault-said h analyses before number records quiet others
first_fault-quiet h analyses before number (fields ∷ bases) records quiet first (is, all) others =
    rw (cause_of-base h analyses before fields first is, first_fault)
    (first_fault-quiet h analyses (fields ∷ before) (number + 1) bases records (quiet-base h before fields quiet is) (rw is.named first) all others)

-- The end

newest-said : (h : Header) (analyses : ℕ) (before records : List Fields) → AreQuiet h before → AllByRecursion (IsSaid h analyses) records
    → AreQuiet h (newest_first before records)
unfolding newest_first
newest-said h analyses before [] quiet all = quiet
newest-said h analyses before (fields ∷ records) quiet (is, all) =
    newest-said h analyses (fields ∷ before) records (quiet-said h analyses before fields quiet is) all

newest-quiet : (h : Header) (analyses : ℕ) (before bases records : List Fields) → AreQuiet h before → AllByRecursion (IsBase h) bases
    → AllByRecursion (IsSaid h analyses) records → AreQuiet h (newest_first before (bases ++ records))
unfolding newest_first
newest-quiet h analyses before [] records quiet all others = newest-said h analyses before records quiet others
newest-quiet h analyses before (fields ∷ bases) records quiet (is, all) others =
    newest-quiet h analyses (fields ∷ before) bases records (quiet-base h before fields quiet is) all others

list_any-none : {X : Type 0} (test : X → Bool) → ((x : X) → test x ≡ false) → (xs : List X) → list_any test xs ≡ false
list_any-none {X} test none [] = refl
list_any-none {X} test none (x ∷ xs) = rw (none x) (list_any-none test none xs)

-- no transaction is open at the end
fault_at_end-quiet : (h : Header) (records : List Fields) → AreQuiet h (newest_first [] records) → fault_at_end h records ≡ None
fault_at_end-quiet h records quiet =
    rw (list_any-none (is_left_open h records) (λ s. rw (quiet.shut s) refl) (numbers_below h.sessions)) refl

-- The commands

-- base triples make no command
sayings-bases : (h : Header) (s : ℕ) (bases records : List Fields) → AllByRecursion (IsBase h) bases → sayings h s (bases ++ records) ≡ sayings h s records
sayings-bases h s [] records all = refl
sayings-bases h s (fields ∷ bases) records (is, all) =
    ap (λ (o : Option Saying). cons_option o (sayings h s (bases ++ records))) (base-silent h fields s is) ∙ sayings-bases h s bases records all

map-same : {X Y : Type 0} (f g : X → Y) → ((x : X) → f x ≡ g x) → (xs : List X) → map f xs ≡ map g xs
map-same {X} {Y} f g same [] = refl
map-same {X} {Y} f g same (x ∷ xs) = rw (same x) (ap (λ (t : List Y). g x ∷ t) (map-same f g same xs))

commands-quiet : (h : Header) (bases records : List Fields) → AllByRecursion (IsBase h) bases
    → sum_by length (script_behind h (bases ++ records)).commands ≤ length records
commands-quiet h bases records all =
    let same = map-same (commands_of h (bases ++ records)) (commands_of h records)
    (λ s. ap (commands_behind None) (sayings-bases h s bases records all)) (numbers_below h.sessions) in
    rw same (commands-few h records)

-- A header, base triples and then records that say something quiet are a script, with at most a command for each of those
pub quiet-script : (analyses : ℕ) (first : Fields) (h : Header) (bases records : List Fields) → header_of first ≡ Some h → AllByRecursion (IsBase h) bases
    → AllByRecursion (IsSaid h analyses) records
    → (s : Script) × (script_of_records analyses (first ∷ bases ++ records) ≡ Ok s) × (sum_by length s.commands ≤ length records)
unfolding script_of_records
quiet-script analyses first h bases records header all others =
    let none = first_fault-quiet h analyses [] 2 bases records (quiet-none h) refl all others in
    let shut = fault_at_end-quiet h (bases ++ records) (newest-quiet h analyses [] bases records (quiet-none h) all others) in
    (script_behind h (bases ++ records), rw (header, script_of_records, none, shut, script_or_fault) refl, commands-quiet h bases records all)
