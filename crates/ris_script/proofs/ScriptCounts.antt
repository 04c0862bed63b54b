-- A script has no more commands than its text has bytes.
use Rattle.std.proofs.Common.{◌≡◌, ◌+◌, ◌<◌, ◌≤◌, ℕ, zero, suc, Bool, true, false, ◌==◌, ◌&&◌, List, [], ◌∷◌, ◌++◌, length, map, Option, Some, None, Result, Ok, Err, arith, refl, sym, ap, ◌∙◌, if◌then◌else◌}
use Rattle.std.specs.List.{cons_option, sum_by}
use Rattle.std.specs.Option.{option_or}
use Rattle.std.proofs.lemmas.Grind.{common_steps}
use Rattle.std.proofs.lemmas.List.Sums.{sum_by-cons, sum_by_push}
use Rattle.csv.specs.Machine.{Read, after_end, ends_at_end, ends_with, field_after, fields_after, in_field, is_byte, is_end, line_feed, next_record, start_field, start_record, step}
use Rattle.csv.specs.Reading.{default_config, is_bom, records, records_from, records_next, strip_bom}
use Rattle.csv.specs.declared.parser.Action.{Action}
use Rattle.csv.specs.declared.parser.Action.TheVariants as act
use Rattle.csv.specs.declared.parser.Config.{Config}
use Rattle.csv.specs.declared.parser.State.{State}
use Rattle.csv.specs.declared.parser.State.TheVariants as st
use Rattle.csv.specs.declared.parser.Terminator.{Terminator}
use Rattle.csv.specs.declared.parser.Terminator.TheVariants as term
use Rattle.ris_base.specs.Lists.{numbers_below}
use Rattle.ris_base.specs.Script.{Asks, Closes, Fault, Fields, Header, Opens, Part, Saying, commands_behind, commands_of, fault_at_end, first_fault, header_of, said, said_by, sayings, script_behind, script_of_records, script_or_fault, session_said}
use Rattle.ris_base.specs.declared.commands.Command.{Command}
use Rattle.ris_base.specs.declared.scripts.Cause.TheVariants as cause
use Rattle.ris_base.specs.declared.scripts.Script.{Script}
use Rattle.ris_base.specs.declared.updates.Update.{Update}
use Rattle.ris_script.specs.Bytes.{script_of}

-- Records and bytes

-- where a step ends the record, the end of the text ends none behind it
abbrev Ends : State × Action → Type 0
Ends after = is_end after.1 ≡ true → ends_at_end after.0 ≡ false

either-ends : (b : Bool) (p q : State × Action) → Ends p → Ends q → Ends (if b then p else q)
either-ends true p q h k = h
either-ends false p q h k = k

after_end-ends : (t : Terminator) (c : ℕ) → ends_at_end (after_end t c) ≡ false
after_end-ends term.CRLF c = by (c == 13)
  where
    by : (b : Bool) → ends_at_end (if b then st.AfterCr else st.StartRecord) ≡ false
    by true = refl
    by false = refl
after_end-ends (term.Any t) c = refl

in_field-ends : (cfg : Config) (c : ℕ) → Ends (in_field cfg c)
in_field-ends cfg c =
    either-ends (c == cfg.delimiter) (st.StartField, act.EndField) _ (λ e. cc e)
    (either-ends (ends_with cfg.terminator c) (after_end cfg.terminator c, act.EndRecord) (st.InField, act.Copy)
    (λ e. after_end-ends cfg.terminator c) (λ e. cc e))

start_field-ends : (cfg : Config) (c : ℕ) → Ends (start_field cfg c)
start_field-ends cfg c = either-ends (cfg.quoting && (c == cfg.quote)) (st.InQuoted, act.Skip) (in_field cfg c) (λ e. cc e) (in_field-ends cfg c)

start_record-ends : (cfg : Config) (c : ℕ) → Ends (start_record cfg c)
start_record-ends cfg c =
    either-ends (ends_with cfg.terminator c) (st.StartRecord, act.Skip) _ (λ e. refl)
    (either-ends (is_byte cfg.comment c) (st.InComment, act.Skip) (start_field cfg c) (λ e. cc e) (start_field-ends cfg c))

step-ends : (cfg : Config) (s : State) (c : ℕ) → Ends (step cfg s c)
step-ends cfg st.StartRecord c = start_record-ends cfg c
step-ends cfg st.StartField c = start_field-ends cfg c
step-ends cfg st.InField c = in_field-ends cfg c
step-ends cfg st.InQuoted c =
    either-ends (cfg.quoting && (c == cfg.quote)) (st.AfterQuote, act.Skip) _ (λ e. cc e)
    (either-ends (cfg.quoting && is_byte cfg.escape c) (st.InEscape, act.Skip) (st.InQuoted, act.Copy) (λ e. cc e) (λ e. cc e))
step-ends cfg st.InEscape c = λ e. cc e
step-ends cfg st.AfterQuote c =
    either-ends (cfg.quoting && cfg.double_quote && (c == cfg.quote)) (st.InQuoted, act.Copy) (in_field cfg c) (λ e. cc e) (in_field-ends cfg c)
step-ends cfg st.InComment c = either-ends (c == line_feed) (st.StartRecord, act.Skip) (st.InComment, act.Skip) (λ e. refl) (λ e. cc e)
step-ends cfg st.AfterCr c = either-ends (c == line_feed) (st.StartRecord, act.Skip) (start_record cfg c) (λ e. refl) (start_record-ends cfg c)

-- one where the end of the text ends a record
abbrev at_end : State → ℕ
at_end s = if ends_at_end s then 1 else 0

at_end-le : (s : State) → at_end s ≤ 1
at_end-le s = by (ends_at_end s)
  where
    by : (b : Bool) → (if b then 1 else 0) ≤ 1
    by true = omega arith
    by false = omega arith

-- a record takes a byte, unless the end of the text ends it; the end of the text ends none behind it
next-shorter : (cfg : Config) (s : State) (fields : List (List ℕ)) (field xs : List ℕ) (p : Read) → next_record cfg s fields field xs ≡ Some p
    → (ends_at_end p.1 ≡ false) × (length p.2 + 1 ≤ length xs + at_end s)
unfolding next_record
next-shorter cfg s fields field [] p e = by (ends_at_end s) e
  where
    by : (b : Bool) → (if b then Some (fields ++ (field ∷ []), st.StartRecord, []) else None) ≡ Some p
        → (ends_at_end p.1 ≡ false) × (length p.2 + 1 ≤ length {A = ℕ} [] + (if b then 1 else 0))
    by true f = let same : (fields ++ (field ∷ []), st.StartRecord, []) ≡ p = cc f in rw (← same) (refl, omega arith)
    by false f = cc f
next-shorter cfg s fields field (c ∷ rest) p e =
    by (is_end (step cfg s c).1) refl e
    (next-shorter cfg (step cfg s c).0 (fields_after (step cfg s c).1 fields field) (field_after (step cfg s c).1 c field) rest p)
  where
    by : (b : Bool) → is_end (step cfg s c).1 ≡ b
        → (if b then Some (fields_after (step cfg s c).1 fields field, (step cfg s c).0, rest)
        else next_record cfg (step cfg s c).0 (fields_after (step cfg s c).1 fields field) (field_after (step cfg s c).1 c field) rest) ≡ Some p
        → (next_record cfg (step cfg s c).0 (fields_after (step cfg s c).1 fields field) (field_after (step cfg s c).1 c field) rest ≡ Some p
        → (ends_at_end p.1 ≡ false) × (length p.2 + 1 ≤ length rest + at_end (step cfg s c).0))
        → (ends_at_end p.1 ≡ false) × (length p.2 + 1 ≤ length (c ∷ rest) + at_end s)
    by true q f more =
        let same : (fields_after (step cfg s c).1 fields field, (step cfg s c).0, rest) ≡ p = cc f in
        rw (← same) (step-ends cfg s c q, omega arith)
    by false q f more =
        let read = more f in
        let most = at_end-le (step cfg s c).0 in
        (read.0, omega (arith, read.1, most))

-- the records of a text are no more than its bytes
records_from-few : (cfg : Config) (n : ℕ) (s : State) (xs : List ℕ) → ends_at_end s ≡ false → length (records_from cfg n s xs) ≤ length xs
unfolding records_from
records_from-few cfg zero s xs h = omega arith
records_from-few cfg (suc n) s xs h = by (next_record cfg s [] [] xs) refl (records_from-few cfg n)
  where
    by : (o : Option Read) → next_record cfg s [] [] xs ≡ o
        → ((t : State) (ys : List ℕ) → ends_at_end t ≡ false → length (records_from cfg n t ys) ≤ length ys)
        → length (records_next (records_from cfg n) o) ≤ length xs
    by None e more = omega arith
    by (Some p) e more =
        let read = next-shorter cfg s [] [] xs p e in
        let taken : length p.2 + 1 ≤ length xs + 0 = rw h at read.1 in
        let rest = more p.1 p.2 read.0 in
        omega (arith, taken, rest)

strip_bom-le : (xs : List ℕ) → length (strip_bom xs) ≤ length xs
unfolding strip_bom
strip_bom-le [] = omega arith
strip_bom-le (a ∷ []) = omega arith
strip_bom-le (a ∷ b ∷ []) = omega arith
strip_bom-le (a ∷ b ∷ c ∷ rest) = by (is_bom a b c)
  where
    by : (t : Bool) → length (if t then rest else a ∷ b ∷ c ∷ rest) ≤ length (a ∷ b ∷ c ∷ rest)
    by true = omega arith
    by false = omega arith

-- the records of bytes are no more than the bytes
pub records-few : (bytes : List ℕ) → length (records default_config (strip_bom bytes)) ≤ length bytes
records-few bytes =
    let text = strip_bom bytes in
    let few = records_from-few default_config (length text + 1) st.StartRecord text refl in
    let most = strip_bom-le bytes in
    omega (arith, few, most)

-- Commands and records

-- a saying makes at most one command
commands_behind-few : (open_ : Option (List Update)) (sayings : List Saying) → length (commands_behind open_ sayings) ≤ length sayings
unfolding commands_behind
commands_behind-few open_ [] = omega arith
commands_behind-few None (Part update ∷ sayings) = let more = commands_behind-few None sayings in omega (arith, more)
commands_behind-few (Some parts) (Part update ∷ sayings) = let more = commands_behind-few (Some (parts ++ update ∷ [])) sayings in omega (arith, more)
commands_behind-few None (Opens ∷ sayings) = let more = commands_behind-few (Some []) sayings in omega (arith, more)
commands_behind-few (Some parts) (Opens ∷ sayings) = let more = commands_behind-few (Some []) sayings in omega (arith, more)
commands_behind-few None (Closes ∷ sayings) = let more = commands_behind-few None sayings in omega (arith, more)
commands_behind-few (Some parts) (Closes ∷ sayings) = let more = commands_behind-few None sayings in omega (arith, more)
commands_behind-few None (Asks asked ∷ sayings) = let more = commands_behind-few None sayings in omega (arith, more)
commands_behind-few (Some parts) (Asks asked ∷ sayings) = let more = commands_behind-few (Some parts) sayings in omega (arith, more)

-- a sum whose terms are at most two others
sum_by-two : (f g k : ℕ → ℕ) → ((x : ℕ) → f x ≤ g x + k x) → (xs : List ℕ) → sum_by f xs ≤ sum_by g xs + sum_by k xs
sum_by-two f g k h [] = omega arith
sum_by-two f g k h (x ∷ xs) =
    let more = sum_by-two f g k h xs in
    let one = h x in
    rw (sum_by-cons f x xs, sum_by-cons g x xs, sum_by-cons k x xs) (omega (arith, more, one))

sum_by-none : (xs : List ℕ) → sum_by (λ x. 0) xs ≡ 0
sum_by-none [] = refl
sum_by-none (x ∷ xs) = let more = sum_by-none xs in omega (arith, more, sum_by-cons (λ (y : ℕ). 0) x xs)

-- a sum over a list of what a function gives
sum_by-map : {X Y : Type 0} (f : Y → ℕ) (g : X → Y) (xs : List X) → sum_by f (map g xs) ≡ sum_by (λ x. f (g x)) xs
sum_by-map {X} {Y} f g [] = refl
sum_by-map {X} {Y} f g (x ∷ xs) = sum_by-cons f (g x) (map g xs) ∙ ap (λ (n : ℕ). f (g x) + n) (sum_by-map f g xs) ∙ sym (sum_by-cons (λ x. f (g x)) x xs)

-- one at one number
abbrev mark : ℕ → ℕ → ℕ
mark t s = if t == s then 1 else 0

marks-below : (t m : ℕ) → (m ≤ t → sum_by (mark t) (numbers_below m) ≡ 0) × (sum_by (mark t) (numbers_below m) ≤ 1)
unfolding numbers_below
marks-below t zero = (λ h. refl, omega arith)
marks-below t (suc m) =
    let push = sum_by_push (mark t) (numbers_below m) m in
    let less = marks-below t m in
    by (t == m) refl push less.0 less.1
  where
    by : (b : Bool) → (t == m) ≡ b → sum_by (mark t) (numbers_below m ++ m ∷ []) ≡ sum_by (mark t) (numbers_below m) + (if b then 1 else 0)
        → (m ≤ t → sum_by (mark t) (numbers_below m) ≡ 0) → sum_by (mark t) (numbers_below m) ≤ 1
        → (suc m ≤ t → sum_by (mark t) (numbers_below m ++ m ∷ []) ≡ 0) × (sum_by (mark t) (numbers_below m ++ m ∷ []) ≤ 1)
    by true p push none few =
        let same : t ≡ m = grind (arith, common_steps) in
        let zero_before = none (omega (arith, same)) in
        (λ h. absurd (omega (arith, same, h)), omega (arith, push, zero_before))
    by false p push none few = (λ h. let before = none (omega (arith, h)) in omega (arith, push, before), omega (arith, push, few))

-- a record is of at most one session
abbrev said_count : Header → Fields → ℕ → ℕ
said_count h fields s = length (cons_option (said_by h s fields) [])

said_count-few : (h : Header) (fields : Fields) (m : ℕ) → sum_by (said_count h fields) (numbers_below m) ≤ 1
said_count-few h fields m = by (session_said fields) refl
  where
    one : (t s : ℕ) (b : Bool) → length (cons_option (if b then said h fields else None) []) ≤ 0 + (if b then 1 else 0)
    one t s false = omega arith
    one t s true = some (said h fields)
      where
        some : (o : Option Saying) → length (cons_option o []) ≤ 1
        some None = omega arith
        some (Some saying) = omega arith

    by : (o : Option ℕ) → session_said fields ≡ o → sum_by (said_count h fields) (numbers_below m) ≤ 1
    by None e =
        let none = sum_by-none (numbers_below m) in
        let most = sum_by-two (said_count h fields) (λ x. 0) (λ x. 0) (λ s. rw e (omega arith)) (numbers_below m) in
        omega (arith, none, most)
    by (Some t) e =
        let none = sum_by-none (numbers_below m) in
        let few = (marks-below t m).1 in
        let most = sum_by-two (said_count h fields) (λ x. 0) (mark t) (λ s. rw e (one t s (t == s))) (numbers_below m) in
        omega (arith, none, few, most)

length-cons_option : {X : Type 0} (o : Option X) (xs : List X) → length (cons_option o xs) ≤ length (cons_option o []) + length xs
length-cons_option {X} None xs = omega arith
length-cons_option {X} (Some x) xs = omega arith

-- what all sessions said is no more than the records
sayings-few : (h : Header) (m : ℕ) (records : List Fields) → sum_by (λ s. length (sayings h s records)) (numbers_below m) ≤ length records
sayings-few h m [] = let none = sum_by-none (numbers_below m) in omega (arith, none)
sayings-few h m (fields ∷ records) =
    let one = said_count-few h fields m in
    let more = sayings-few h m records in
    let both = sum_by-two (λ s. length (sayings h s (fields ∷ records))) (said_count h fields) (λ s. length (sayings h s records))
    (λ s. length-cons_option (said_by h s fields) (sayings h s records)) (numbers_below m) in
    omega (arith, one, more, both)

-- the commands of all sessions are no more than the records
pub commands-few : (h : Header) (records : List Fields) → sum_by length (script_behind h records).commands ≤ length records
commands-few h records =
    let said = sayings-few h h.sessions records in
    let none = sum_by-none (numbers_below h.sessions) in
    let made = sum_by-map {Y = List Command} length (commands_of h records) (numbers_below h.sessions) in
    let most = sum_by-two (λ s. length (commands_of h records s)) (λ s. length (sayings h s records)) (λ s. 0)
    (λ s. few s (commands_behind-few None (sayings h s records))) (numbers_below h.sessions) in
    omega (arith, said, none, made, most)
  where
    few : (s : ℕ) → length (commands_of h records s) ≤ length (sayings h s records) → length (commands_of h records s) ≤ length (sayings h s records) + 0
    few s h = omega (arith, h)

-- Scripts

-- a script that records spell is that of a header and the records behind it
script-behind : (n : ℕ) (all : List Fields) (s : Script) → script_of_records n all ≡ Ok s
    → (h : Header) × (records : List Fields) × (s ≡ script_behind h records) × (length records < length all)
unfolding script_of_records
script-behind n [] s e = cc e
script-behind n (fields ∷ records) s e = head (header_of fields) e
  where
    body : (h : Header) (o : Option Fault) → ◌≡◌ {A = Result Script Fault} (elim o [ Some fault ↦ Err fault | None ↦ Ok (script_behind h records) ]) (Ok s)
        → (k : Header) × (rest : List Fields) × (s ≡ script_behind k rest) × (length rest < length (fields ∷ records))
    body h None f = let same : script_behind h records ≡ s = cc f in (h, records, sym same, omega arith)
    body h (Some fault) f = cc f

    head : (o : Option Header) → ◌≡◌ {A = Result Script Fault} (elim o [ None ↦ Err (record { number = 1; cause = cause.Header }) | Some h ↦ script_or_fault h n records ]) (Ok s)
        → (k : Header) × (rest : List Fields) × (s ≡ script_behind k rest) × (length rest < length (fields ∷ records))
    head None f = cc f
    head (Some h) f = body h (option_or (first_fault h n [] 2 records) (fault_at_end h records)) f

-- the commands of a script are no more than its bytes
pub script-few : (n : ℕ) (bytes : List ℕ) (s : Script) → script_of n bytes ≡ Ok s → sum_by length s.commands ≤ length bytes
unfolding script_of
script-few n bytes s e =
    let found = script-behind n (records default_config (strip_bom bytes)) s e in
    let few = commands-few found.0 found.1 in
    let most = records-few bytes in
    rw found.2 (omega (arith, few, most, found.3))
