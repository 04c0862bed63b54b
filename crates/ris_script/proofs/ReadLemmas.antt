-- Reading records one by one gives the script that they spell, or the first fault.
use Rattle.std.proofs.Common.{◌≡◌, ◌≢◌, ◌+◌, ◌<◌, ◌≤◌, ◌==◌, ◌||◌, ◌⊎◌, inl, inr, ℕ, zero, suc, Bool, true, false, not, List, [], ◌∷◌, ◌++◌, length, map, reverse, replicate, drop, set, get_or, Option, Some, None, Result, Ok, Err, arith, refl, sym, ap, ◌∙◌, is_some, is_none, nat_lt, if◌then◌else◌, add-one, append_assoc, length-set}
use Rattle.std.specs.List.{cons_option, filter_map, list_any, slice_get}
use Rattle.std.specs.Option.{option_and_then, option_map, option_or}
use Rattle.std.proofs.lemmas.Bool.{cases_eq}
use Rattle.std.proofs.lemmas.Grind.{common_steps, replicate_next}
use Rattle.std.proofs.lemmas.List.{append-nil, get_or-set_other, get_or-set_same, length-map, map-append, length-reverse, reverse-reverse, same_lists}
use Rattle.std.proofs.lemmas.List.Elements.{filter_map-append}
use Rattle.std.proofs.lemmas.Option.{get_or_from_slice_get, slice_get-map, slice_get_past}
use Rattle.ris_base.proofs.NumbersBelow.{length-numbers_below, slice_get-numbers_below}
use Rattle.ris_base.proofs.ScriptFaults.{session_said-base}
use Rattle.ris_base.proofs.ScriptSteps.{commands_behind-push, commands_of-newest_first, newest_first-reverse, reverse-cons}
use Rattle.ris_base.specs.Lists.{numbers_below}
use Rattle.ris_base.specs.Script.{Asks, Closes, Fault, Fields, Header, Opens, Part, Saying, Word, analysis_asked, base_by, base_cause, base_of, cause_of, commands_behind, commands_of, fault_at_end, first_fault, is_base, is_leave, is_left_open, newest_first, numbers_of, open_parts, said, said_by, saying_cause, saying_of, sayings, script_behind, script_or_fault, session_cause, session_said, transaction_cause, word_said}
use Rattle.ris_base.specs.declared.graphs.Triple.{Triple}
use Rattle.ris_base.specs.declared.scripts.Cause.{Cause}
use Rattle.ris_base.specs.declared.scripts.Cause.TheVariants as cause
use Rattle.ris_base.specs.declared.scripts.Script.{Script}
use Rattle.ris_script.specs.Progress.{Progress, finished, is_open, progress_behind_header, progressed, script_read, with_base, with_record, with_session, with_standing}
use Rattle.ris_script.specs.Sayings.{said_within, some_within_analyses}
use Rattle.ris_script.specs.Standing.{Standing, heard_or_cause, recorded, silent, standing_behind}

-- What was read, by the records, the newest first

-- a session by what it said, the newest first
abbrev pub standing_in : List Saying → Standing
standing_in sayings = record {
  commands = commands_behind None (reverse sayings);
  parts = open_parts sayings;
  left = list_any is_leave sayings;
}

-- what was read of these records
abbrev pub progress_in : Header → List Fields → Progress
progress_in h before = record {
  header = h;
  base = filter_map (base_of h) (reverse before);
  standings = map (λ s. standing_in (sayings h s before)) (numbers_below h.sessions);
  spoken = list_any (λ earlier. not (is_base earlier)) before;
}

-- Lists of one item for each number below a number

at-number : {X : Type 0} (f : ℕ → X) (n k : ℕ) → k < n → slice_get (map f (numbers_below n)) k ≡ Some (f k)
at-number {X} f n k h = slice_get-map f (numbers_below n) k ∙ ap (option_map f) (slice_get-numbers_below n k h)

past-numbers : {X : Type 0} (f : ℕ → X) (n k : ℕ) → n ≤ k → slice_get (map f (numbers_below n)) k ≡ None
past-numbers {X} f n k h = slice_get_past (map f (numbers_below n)) k (rw (length-map, length-numbers_below) h)

-- two functions that differ at one number
map-set_one : {X : Type 0} (f g : ℕ → X) (n s : ℕ) → s < n → ((q : ℕ) → q ≢ s → f q ≡ g q) → map g (numbers_below n) ≡ set (map f (numbers_below n)) s (g s)
map-set_one {X} f g n s below same =
    same_lists (map g (numbers_below n)) (set (map f (numbers_below n)) s (g s)) size at
  where
    count : (h : ℕ → X) → length (map h (numbers_below n)) ≡ n
    count h = length-map (numbers_below n) h ∙ length-numbers_below n

    size : length (map g (numbers_below n)) ≡ length (set (map f (numbers_below n)) s (g s))
    size = count g ∙ sym (length-set (map f (numbers_below n)) s (g s) ∙ count f)

    at-left : (h : ℕ → X) (k : ℕ) (d : X) → k < n → get_or (map h (numbers_below n)) k d ≡ h k
    at-left h k d lt = get_or_from_slice_get (map h (numbers_below n)) k (h k) d (at-number h n k lt)

    by : (k : ℕ) (d : X) → k < n → (k ≡ s) ⊎ (k ≢ s) → get_or (map g (numbers_below n)) k d ≡ get_or (set (map f (numbers_below n)) s (g s)) k d
    by k d lt (inl e) =
        let there : s < length (map f (numbers_below n)) = rw (count f) below in
        at-left g k d lt ∙ rw e (sym (get_or-set_same (map f (numbers_below n)) s (g s) d there))
    by k d lt (inr ne) =
        at-left g k d lt ∙ sym (same k ne) ∙ sym (at-left f k d lt) ∙ sym (get_or-set_other (map f (numbers_below n)) s k (g s) d ne)

    at : (k : ℕ) (d : X) → k < length (map g (numbers_below n)) → get_or (map g (numbers_below n)) k d ≡ get_or (set (map f (numbers_below n)) s (g s)) k d
    at k d h = by k d (rw (count g) at h) (cases_eq k s)

-- the same function at each number
map-same : {X : Type 0} (f g : ℕ → X) (n : ℕ) → ((q : ℕ) → f q ≡ g q) → map f (numbers_below n) ≡ map g (numbers_below n)
map-same {X} f g n same = by (numbers_below n)
  where
    by : (xs : List ℕ) → map f xs ≡ map g xs
    by [] = refl
    by (x ∷ xs) = let rest = by xs in let first = same x in cc

list_any-map : {X Y : Type 0} (p : Y → Bool) (f : X → Y) (xs : List X) → list_any p (map f xs) ≡ list_any (λ x. p (f x)) xs
list_any-map {X} {Y} p f [] = refl
list_any-map {X} {Y} p f (x ∷ xs) = ap (λ (b : Bool). p (f x) || b) (list_any-map p f xs)

map-map : {X Y Z : Type 0} (g : Y → Z) (f : X → Y) (xs : List X) → map g (map f xs) ≡ map (λ x. g (f x)) xs
map-map {X} {Y} {Z} g f [] = refl
map-map {X} {Y} {Z} g f (x ∷ xs) = ap (λ (t : List Z). g (f x) ∷ t) (map-map g f xs)

-- One saying more, and one record more of a session

-- what a saying makes of a session
standing_in-cons : (saying : Saying) (sayings : List Saying) → standing_in (saying ∷ sayings) ≡ standing_behind (standing_in sayings) saying
unfolding open_parts
standing_in-cons saying sayings = let commands = commands_behind-push saying sayings in by saying commands
  where
    by : (one : Saying) → commands_behind None (reverse (one ∷ sayings)) ≡ commands_behind None (reverse sayings) ++ commands_behind (open_parts sayings) (one ∷ [])
        → standing_in (one ∷ sayings) ≡ standing_behind (standing_in sayings) one
    by (Part update) e = rw e refl
    by Opens e = rw e refl
    by Closes e = rw e refl
    by (Asks asked) e = rw e refl

-- a value, or the cause why there is none
record_or : {S : Type 0} → Option Cause → S → Result S Cause
record_or (Some why) value = Err why
record_or None value = Ok value

heard-within : (analyses : ℕ) (sayings : List Saying) (saying : Saying) (o : Option Cause)
    → heard_or_cause (standing_in sayings) (elim o as (λ (t : Option Cause). Result Saying Cause) [ Some why ↦ Err why | None ↦ Ok saying ])
    ≡ record_or (option_or o (transaction_cause (open_parts sayings) saying)) (standing_behind (standing_in sayings) saying)
unfolding record_or
heard-within analyses sayings saying (Some why) = refl
heard-within analyses sayings saying None = by (transaction_cause (open_parts sayings) saying)
  where
    by : (o : Option Cause) → (elim o as (λ (t : Option Cause). Result Standing Cause) [ Some why ↦ Err why | None ↦ Ok (standing_behind (standing_in sayings) saying) ])
        ≡ record_or o (standing_behind (standing_in sayings) saying)
    by (Some why) = refl
    by None = refl

-- what a record's fields behind its word say
recorded-said : (h : Header) (analyses : ℕ) (before : List Fields) (s : ℕ) (word : Word) (rest : Fields)
    → heard_or_cause (standing_in (sayings h s before)) (said_within analyses word rest)
    ≡ record_or (elim (saying_of word rest) [ None ↦ Some cause.Field | Some saying ↦ saying_cause h analyses before s saying ])
    (standing_in (cons_option (saying_of word rest) (sayings h s before)))
unfolding said_within record_or
recorded-said h analyses before s word rest = by (saying_of word rest)
  where
    by : (o : Option Saying)
        → heard_or_cause (standing_in (sayings h s before)) (some_within_analyses analyses o)
        ≡ record_or (elim o as (λ (t : Option Saying). Option Cause) [ None ↦ Some cause.Field | Some saying ↦ saying_cause h analyses before s saying ])
        (standing_in (cons_option o (sayings h s before)))
    by None = refl
    by (Some saying) =
        heard-within analyses (sayings h s before) saying (option_and_then (λ (a : ℕ). if nat_lt a analyses then None else Some cause.Analysis) (analysis_asked saying))
        ∙ ap (record_or (saying_cause h analyses before s saying)) (sym (standing_in-cons saying (sayings h s before)))

-- a record of a session of the header makes of it what the definition says, or its cause
recorded-in : (h : Header) (analyses : ℕ) (before : List Fields) (fields : Fields) (s : ℕ) → nat_lt s h.sessions ≡ true
    → recorded h analyses (standing_in (sayings h s before)) fields
    ≡ record_or (session_cause h analyses before fields s) (standing_in (cons_option (said h fields) (sayings h s before)))
unfolding recorded record_or
recorded-in h analyses before fields s below = rw below (by (list_any is_leave (sayings h s before)) fields)
  where
    worded : (word : Option Word) (name field : List ℕ) (rest : Fields)
        → (elim word as (λ (o : Option Word). Result Standing Cause)
        [ None ↦ Err cause.Op | Some word ↦ heard_or_cause (standing_in (sayings h s before)) (said_within analyses word rest) ])
        ≡ record_or (if is_none word then Some cause.Op
        else elim (option_and_then (λ (word : Word). saying_of word rest) word) [ None ↦ Some cause.Field | Some saying ↦ saying_cause h analyses before s saying ])
        (standing_in (cons_option (option_and_then (λ (word : Word). saying_of word rest) word) (sayings h s before)))
    worded None name field rest = refl
    worded (Some word) name field rest = recorded-said h analyses before s word rest

    by : (left : Bool) (fields : Fields)
        → (if left then Err cause.Left
        else elim (word_said h fields) as (λ (o : Option Word). Result Standing Cause)
        [ None ↦ Err cause.Op | Some word ↦ heard_or_cause (standing_in (sayings h s before)) (said_within analyses word (drop 2 fields)) ])
        ≡ record_or (if left then Some cause.Left
        else if is_none (word_said h fields) then Some cause.Op
        else elim (said h fields) [ None ↦ Some cause.Field | Some saying ↦ saying_cause h analyses before s saying ])
        (standing_in (cons_option (said h fields) (sayings h s before)))
    by true fields = refl
    by false [] = refl
    by false (name ∷ []) = refl
    by false (name ∷ field ∷ rest) = worded (word_said h (name ∷ field ∷ rest)) name field rest

-- One record more

base_of-is : (h : Header) (fields : Fields) → is_base fields ≡ true → base_of h fields ≡ option_and_then (base_by h) (numbers_of (drop 1 fields))
unfolding base_of
base_of-is h [] e = refl
base_of-is h (name ∷ fields) e = rw e refl

base_of-other : (h : Header) (fields : Fields) → is_base fields ≡ false → base_of h fields ≡ None
unfolding base_of
base_of-other h [] e = refl
base_of-other h (name ∷ fields) e = rw e refl

-- the base triples with those of one record more
bases-more : (h : Header) (before : List Fields) (fields : Fields)
    → filter_map (base_of h) (reverse (fields ∷ before)) ≡ filter_map (base_of h) (reverse before) ++ cons_option (base_of h fields) []
bases-more h before fields =
    ap (filter_map (base_of h)) (reverse-cons fields before) ∙ filter_map-append (base_of h) (reverse before) (fields ∷ [])

-- a record of no session says nothing of a session
said_by-none : (h : Header) (s : ℕ) (fields : Fields) → session_said fields ≡ None → said_by h s fields ≡ None
said_by-none h s fields e = ap (option_and_then (λ (session : ℕ). if session == s then said h fields else None)) e

said_by-same : (h : Header) (s : ℕ) (fields : Fields) → session_said fields ≡ Some s → said_by h s fields ≡ said h fields
said_by-same h s fields e =
    ap (option_and_then (λ (session : ℕ). if session == s then said h fields else None)) e ∙ by (s == s) refl
  where
    by : (b : Bool) → (s == s) ≡ b → (if b then said h fields else None) ≡ said h fields
    by true p = refl
    by false p = absurd (grind (arith, common_steps))

said_by-other : (h : Header) (s q : ℕ) (fields : Fields) → session_said fields ≡ Some s → q ≢ s → said_by h q fields ≡ None
said_by-other h s q fields e ne =
    ap (option_and_then (λ (session : ℕ). if session == q then said h fields else None)) e ∙ by (s == q) refl
  where
    by : (b : Bool) → (s == q) ≡ b → (if b then said h fields else None) ≡ None
    by true p = absurd (ne (grind (arith, common_steps)))
    by false p = refl

-- behind a record of a base triple
progress_in-base : (h : Header) (before : List Fields) (fields : Fields) → is_base fields ≡ true
    → progress_in h (fields ∷ before) ≡ record (progress_in h before) { base = filter_map (base_of h) (reverse before) ++ cons_option (base_of h fields) [] }
progress_in-base h before fields e =
    let none = session_said-base fields e in
    let same : map (λ s. standing_in (sayings h s (fields ∷ before))) (numbers_below h.sessions) ≡ map (λ s. standing_in (sayings h s before)) (numbers_below h.sessions) =
    map-same (λ s. standing_in (sayings h s (fields ∷ before))) (λ s. standing_in (sayings h s before)) h.sessions
    (λ q. ap (λ (o : Option Saying). standing_in (cons_option o (sayings h q before))) (said_by-none h q fields none)) in
    let spoken : (not (is_base fields) || list_any (λ earlier. not (is_base earlier)) before) ≡ list_any (λ earlier. not (is_base earlier)) before = rw e refl in
    let bases = bases-more h before fields in
    cc

-- behind a record of a session
progress_in-session : (h : Header) (before : List Fields) (fields : Fields) (s : ℕ) → is_base fields ≡ false → session_said fields ≡ Some s → s < h.sessions
    → progress_in h (fields ∷ before) ≡ record (progress_in h before) {
      standings = set (map (λ q. standing_in (sayings h q before)) (numbers_below h.sessions)) s (standing_in (cons_option (said h fields) (sayings h s before)));
      spoken = true;
    }
progress_in-session h before fields s e says below =
    let one : map (λ q. standing_in (sayings h q (fields ∷ before))) (numbers_below h.sessions)
    ≡ set (map (λ q. standing_in (sayings h q before)) (numbers_below h.sessions)) s (standing_in (sayings h s (fields ∷ before))) =
    map-set_one (λ q. standing_in (sayings h q before)) (λ q. standing_in (sayings h q (fields ∷ before))) h.sessions s below
    (λ q ne. sym (ap (λ (o : Option Saying). standing_in (cons_option o (sayings h q before))) (said_by-other h s q fields says ne))) in
    let here : standing_in (sayings h s (fields ∷ before)) ≡ standing_in (cons_option (said h fields) (sayings h s before)) =
    ap (λ (o : Option Saying). standing_in (cons_option o (sayings h s before))) (said_by-same h s fields says) in
    let spoken : (not (is_base fields) || list_any (λ earlier. not (is_base earlier)) before) ≡ true = rw e refl in
    let bases : filter_map (base_of h) (reverse (fields ∷ before)) ≡ filter_map (base_of h) (reverse before) =
    bases-more h before fields
    ∙ ap (λ (o : Option Triple). filter_map (base_of h) (reverse before) ++ cons_option o []) (base_of-other h fields e)
    ∙ append-nil (filter_map (base_of h) (reverse before)) in
    cc

-- a record of a base triple makes of what was read what the definition says, or its cause
progressed-by_base : (h : Header) (analyses : ℕ) (before : List Fields) (fields : Fields) → is_base fields ≡ true
    → with_base (progress_in h before) (option_and_then (base_by h) (numbers_of (drop 1 fields)))
    ≡ record_or (base_cause h before fields) (progress_in h (fields ∷ before))
unfolding record_or
progressed-by_base h analyses before fields e =
    rw (← base_of-is h fields e, progress_in-base h before fields e) (by (base_of h fields) (list_any (λ earlier. not (is_base earlier)) before) refl)
  where
    by : (o : Option Triple) (spoken : Bool) → list_any (λ earlier. not (is_base earlier)) before ≡ spoken
        → with_base (progress_in h before) o
        ≡ record_or (if is_none o || spoken then Some cause.Base else None) (record (progress_in h before) { base = filter_map (base_of h) (reverse before) ++ cons_option o [] })
    by None spoken p = refl
    by (Some t) true p = rw p refl
    by (Some t) false p = rw p refl

-- a record of a session
progressed-by_session : (h : Header) (analyses : ℕ) (before : List Fields) (fields : Fields) (s : ℕ) → is_base fields ≡ false → session_said fields ≡ Some s
    → with_record analyses (progress_in h before) fields (Some s) ≡ record_or (session_cause h analyses before fields s) (progress_in h (fields ∷ before))
unfolding record_or
progressed-by_session h analyses before fields s e says = by (nat_lt s h.sessions) refl
  where
    inner : (o : Option Cause) → progress_in h (fields ∷ before) ≡ record (progress_in h before) {
      standings = set (map (λ q. standing_in (sayings h q before)) (numbers_below h.sessions)) s (standing_in (cons_option (said h fields) (sayings h s before)));
      spoken = true;
    } → with_standing (progress_in h before) s (record_or o (standing_in (cons_option (said h fields) (sayings h s before)))) ≡ record_or o (progress_in h (fields ∷ before))
    inner (Some why) same = refl
    inner None same = sym (ap (λ (t : Progress). Ok t) same)

    within : s < h.sessions → nat_lt s h.sessions ≡ true
        → with_record analyses (progress_in h before) fields (Some s) ≡ record_or (session_cause h analyses before fields s) (progress_in h (fields ∷ before))
    within below test =
        let there = at-number (λ q. standing_in (sayings h q before)) h.sessions s below in
        let session = recorded-in h analyses before fields s test in
        ap (with_session analyses (progress_in h before) fields s) there
        ∙ ap (with_standing (progress_in h before) s) session
        ∙ (inner (session_cause h analyses before fields s) (progress_in-session h before fields s e says below))

    outside : h.sessions ≤ s → nat_lt s h.sessions ≡ false
        → with_record analyses (progress_in h before) fields (Some s) ≡ record_or (session_cause h analyses before fields s) (progress_in h (fields ∷ before))
    outside above test =
        let there = past-numbers (λ q. standing_in (sayings h q before)) h.sessions s above in
        ap (with_session analyses (progress_in h before) fields s) there ∙ rw test refl

    by : (b : Bool) → nat_lt s h.sessions ≡ b
        → with_record analyses (progress_in h before) fields (Some s) ≡ record_or (session_cause h analyses before fields s) (progress_in h (fields ∷ before))
    by true p = within (grind (arith, common_steps)) p
    by false p = outside (grind (arith, common_steps)) p

-- a record makes of what was read what the definition says, or its cause
progressed-in : (h : Header) (analyses : ℕ) (before : List Fields) (fields : Fields)
    → progressed analyses (progress_in h before) fields ≡ record_or (cause_of h analyses before fields) (progress_in h (fields ∷ before))
unfolding progressed cause_of record_or
progressed-in h analyses before fields = by (is_base fields) refl (session_said fields) refl
  where
    by : (b : Bool) → is_base fields ≡ b → (o : Option ℕ) → session_said fields ≡ o
        → (if b then with_base (progress_in h before) (option_and_then (base_by h) (numbers_of (drop 1 fields))) else with_record analyses (progress_in h before) fields o)
        ≡ record_or (if b then base_cause h before fields else elim o [ None ↦ Some cause.Field | Some s ↦ session_cause h analyses before fields s ]) (progress_in h (fields ∷ before))
    by true p o q = progressed-by_base h analyses before fields p
    by false p None q = refl
    by false p (Some s) q = progressed-by_session h analyses before fields s p q

-- All records

-- so many sessions that said nothing
map-silent : (n : ℕ) → map (λ (s : ℕ). silent) (numbers_below n) ≡ replicate n silent
unfolding numbers_below
map-silent zero = refl
map-silent (suc n) =
    map-append (λ (s : ℕ). silent) (numbers_below n) (n ∷ [])
    ∙ ap (λ (t : List Standing). t ++ silent ∷ []) (map-silent n)
    ∙ sym (replicate_next n silent)
    ∙ ap (λ (k : ℕ). replicate k silent) (add-one n)

-- what was read behind the header
progress_in-start : (h : Header) → progress_in h [] ≡ progress_behind_header h
unfolding commands_behind open_parts
progress_in-start h = let none = map-silent h.sessions in cc

-- the script where no record is left, or the fault at the last
abbrev pub at_last : ℕ → Result Script Cause → Result Script Fault
at_last last (Ok script) = Ok script
at_last last (Err why) = Err (record { number = last; cause = why })

-- the fault of a record, or what comes behind it
abbrev pub script_next : ℕ → (Progress → Result Script Fault) → Result Progress Cause → Result Script Fault
script_next number more (Err why) = Err (record { number = number; cause = why })
script_next number more (Ok next) = more next

-- the script or the fault of what is left to read, from what was read so far and the number of the last record
abbrev pub script_from : ℕ → Progress → ℕ → List Fields → Result Script Fault
script_from analyses progress last [] = at_last last (finished progress)
script_from analyses progress last (fields ∷ records) =
    script_next (last + 1) (λ next. script_from analyses next (last + 1) records) (progressed analyses progress fields)

-- the session's transaction is open behind all records
left_open-in : (h : Header) (before : List Fields) (s : ℕ) → is_left_open h (reverse before) s ≡ is_open (standing_in (sayings h s before))
left_open-in h before s =
    ap (λ (t : List Fields). is_some (open_parts (sayings h s t)))
    (newest_first-reverse [] (reverse before) ∙ append-nil (reverse (reverse before)) ∙ reverse-reverse before)

list_any-same : (p q : ℕ → Bool) (xs : List ℕ) → ((x : ℕ) → p x ≡ q x) → list_any p xs ≡ list_any q xs
list_any-same p q [] same = refl
list_any-same p q (x ∷ xs) same = let first = same x in let rest = list_any-same p q xs same in cc

-- the end rule
open-in : (h : Header) (before : List Fields) → list_any is_open (progress_in h before).standings ≡ list_any (is_left_open h (reverse before)) (numbers_below h.sessions)
open-in h before =
    list_any-map is_open (λ (s : ℕ). standing_in (sayings h s before)) (numbers_below h.sessions)
    ∙ sym (list_any-same (is_left_open h (reverse before)) (λ (s : ℕ). is_open (standing_in (sayings h s before))) (numbers_below h.sessions) (left_open-in h before))

-- the commands of a session
commands-in : (h : Header) (before : List Fields) (s : ℕ) → commands_behind None (reverse (sayings h s before)) ≡ commands_of h (reverse before) s
commands-in h before s =
    let all = commands_of-newest_first h (reverse before) s in
    let same : newest_first [] (reverse before) ≡ before = newest_first-reverse [] (reverse before) ∙ append-nil (reverse (reverse before)) ∙ reverse-reverse before in
    rw same at all

-- the script
script-in : (h : Header) (before : List Fields) → script_read (progress_in h before) ≡ script_behind h (reverse before)
script-in h before =
    let commands : map (λ (standing : Standing). standing.commands) (progress_in h before).standings ≡ map (commands_of h (reverse before)) (numbers_below h.sessions) =
    map-map (λ (standing : Standing). standing.commands) (λ (s : ℕ). standing_in (sayings h s before)) (numbers_below h.sessions)
    ∙ map-same (λ (s : ℕ). commands_behind None (reverse (sayings h s before))) (commands_of h (reverse before)) h.sessions (commands-in h before) in
    cc

-- the records in their order
in_order : List Fields → List Fields → List Fields
in_order before records = reverse before ++ records

in_order-more : (before : List Fields) (fields : Fields) (records : List Fields) → in_order (fields ∷ before) records ≡ in_order before (fields ∷ records)
unfolding in_order
in_order-more before fields records = ap (λ (t : List Fields). t ++ records) (reverse-cons fields before) ∙ append_assoc (reverse before) (fields ∷ []) records

in_order-nil : (before : List Fields) → in_order before [] ≡ reverse before
unfolding in_order
in_order-nil before = append-nil (reverse before)

-- a fault or else the end rule, or the script of all records
fault_or_script : Header → Option Fault → List Fields → Result Script Fault
fault_or_script h fault all = elim (option_or fault (fault_at_end h all)) [ Some fault ↦ Err fault | None ↦ Ok (script_behind h all) ]

at_end : (h : Header) (before : List Fields) (last : ℕ) → last ≡ length before + 1 → at_last last (finished (progress_in h before)) ≡ fault_or_script h None (reverse before)
unfolding finished fault_or_script
at_end h before last count = rw (open-in h before, script-in h before) (by (list_any (is_left_open h (reverse before)) (numbers_below h.sessions)))
  where
    number : length (reverse before) + 1 ≡ last
    number = ap (λ (n : ℕ). n + 1) (length-reverse before) ∙ sym count

    by : (b : Bool) → at_last last (if b then Err cause.Close else Ok (script_behind h (reverse before)))
        ≡ (elim (if◌then◌else◌ {A = Option Fault} b (Some (record { number = length (reverse before) + 1; cause = cause.Close })) None) as (λ (o : Option Fault). Result Script Fault)
        [ Some fault ↦ Err fault | None ↦ Ok (script_behind h (reverse before)) ])
    by true = ap (λ (n : ℕ). Err (record { number = n; cause = cause.Close })) (sym number)
    by false = refl

script_from-in : (h : Header) (analyses : ℕ) (before : List Fields) (last : ℕ) (records : List Fields) → last ≡ length before + 1
    → script_from analyses (progress_in h before) last records ≡ fault_or_script h (first_fault h analyses before (last + 1) records) (in_order before records)
unfolding first_fault fault_or_script record_or
script_from-in h analyses before last [] count = at_end h before last count ∙ ap (fault_or_script h None) (sym (in_order-nil before))
script_from-in h analyses before last (fields ∷ records) count =
    let next : last + 1 ≡ length (fields ∷ before) + 1 = omega arith in
    ap (script_next (last + 1) (λ (p : Progress). script_from analyses p (last + 1) records)) (progressed-in h analyses before fields)
    ∙ by (cause_of h analyses before fields) (script_from-in h analyses (fields ∷ before) (last + 1) records next)
    ∙ ap (fault_or_script h (first_fault h analyses before (last + 1) (fields ∷ records))) (in_order-more before fields records)
  where
    by : (o : Option Cause)
        → script_from analyses (progress_in h (fields ∷ before)) (last + 1) records
        ≡ fault_or_script h (first_fault h analyses (fields ∷ before) (last + 1 + 1) records) (in_order (fields ∷ before) records)
        → script_next (last + 1) (λ (p : Progress). script_from analyses p (last + 1) records) (record_or o (progress_in h (fields ∷ before)))
        ≡ fault_or_script h (elim o as (λ (t : Option Cause). Option Fault) [
          | Some why ↦ Some (record { number = last + 1; cause = why })
          | None ↦ first_fault h analyses (fields ∷ before) (last + 1 + 1) records
        ]) (in_order (fields ∷ before) records)
    by (Some why) more = refl
    by None more = more

-- the records behind a header
pub script_from-header : (h : Header) (analyses : ℕ) (records : List Fields) → script_or_fault h analyses records ≡ script_from analyses (progress_behind_header h) 1 records
unfolding fault_or_script in_order
script_from-header h analyses records =
    let start = progress_in-start h in
    let whole = script_from-in h analyses [] 1 records (omega arith) in
    rw start at (sym whole)
