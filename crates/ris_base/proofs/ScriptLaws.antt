-- What every script that was read keeps.
use Rattle.std.proofs.Common.{◌≡◌, ◌<◌, ◌≤◌, ℕ, Bool, true, false, ◌==◌, ◌&&◌, ◌||◌, List, [], ◌∷◌, ◌++◌, length, reverse, Option, Some, None, Result, Ok, Err, arith, refl, subst, ◌∙◌, codes, if◌then◌else◌, nat_lt, nat_le}
use Rattle.std.specs.Bool.{⊤}
use Rattle.std.specs.List.{All, cons_option, filter_map, list_any}
use Rattle.std.specs.Option.{IfSome, option_and_then, option_map, option_or}
use Rattle.std.specs.Str.{bytes_eq}
use Rattle.std.proofs.lemmas.Grind.{common_steps}
use Rattle.std.proofs.lemmas.List.{length-map}
use Rattle.std.proofs.lemmas.List.Elements.{All-append, All-cons, All-map, All-nil}
use Rattle.ris_base.specs.Graph.{IsProperTriple, triple}
use Rattle.ris_base.specs.Limits.{greatest_of, vertex_limit, session_limit}
use Rattle.ris_base.specs.Lists.{numbers_below}
use Rattle.ris_base.specs.Number.{number_of}
use Rattle.ris_base.specs.Script.{Addv, Delv, Adde, Dele, Setw, Begin, Commit, Value, Parent, Path, Modified, Current, Release, Leave, Asks, Closes, Fault, Fields, Header, Opens, Part, Saying, Word, analysis_asked, at_most, base_by, base_of, commands_behind, commands_of, fault_at_end, first_fault, format_of, header_of, is_leave, newest_first, numbers_of, open_parts, opening_of, reading_by, said, said_by, saying_by, saying_of, sayings, script_behind, script_of_records, script_or_fault, sessions_within, takes_version, transaction_cause, version_of, word_said}
use Rattle.ris_base.specs.Shape.{EndsByLeave, IsCommandFor, IsReadable}
use Rattle.ris_base.specs.declared.commands.Command.{Command}
use Rattle.ris_base.specs.declared.commands.Command.TheVariants as command
use Rattle.ris_base.specs.declared.commands.Version.{Version}
use Rattle.ris_base.specs.declared.graphs.Format.{Format}
use Rattle.ris_base.specs.declared.graphs.PlainGraph.{PlainGraph}
use Rattle.ris_base.specs.declared.graphs.Triple.{Triple}
use Rattle.ris_base.specs.declared.scripts.Cause.{Cause}
use Rattle.ris_base.specs.declared.scripts.Cause.TheVariants as cause
use Rattle.ris_base.specs.declared.scripts.Script.{Script}
use Rattle.ris_base.specs.declared.updates.Update.{Update}
use Rattle.ris_base.specs.declared.updates.Update.TheVariants.{AddV, DelV, AddE, DelE, SetW}
use Rattle.ris_base.proofs.NumbersBelow.{All-numbers_below, Contains-numbers_below, EachOnce-numbers_below, length-numbers_below}
use Rattle.ris_base.proofs.ScriptFaults.{AreTaken, first_fault-taken, said_by-fits}
use Rattle.ris_base.proofs.ScriptSteps.{commands_behind-push, commands_of-newest_first}

-- What is asked is no change

-- what is asked is no change
abbrev IsAsked : Saying → Type 0
IsAsked (Part update) = ⊤
IsAsked Opens = ⊤
IsAsked Closes = ⊤
IsAsked (Asks (command.Change parts)) = ⊥
IsAsked (Asks asked) = ⊤

same-asked : (one saying : Saying) → IsAsked one → Some one ≡ Some saying → IsAsked saying
same-asked one saying asked e = let same : one ≡ saying = cc e in subst IsAsked same asked

saying_by-asked : (word : Word) (numbers : List ℕ) (saying : Saying) → saying_by word numbers ≡ Some saying → IsAsked saying
saying_by-asked Addv (x ∷ []) saying e = same-asked (Part (AddV x)) saying tt e
saying_by-asked Delv (x ∷ []) saying e = same-asked (Part (DelV x)) saying tt e
saying_by-asked Adde (u ∷ v ∷ w ∷ []) saying e = same-asked (Part (AddE u v w)) saying tt e
saying_by-asked Dele (u ∷ v ∷ w ∷ []) saying e = same-asked (Part (DelE u v w)) saying tt e
saying_by-asked Setw (u ∷ v ∷ w ∷ w2 ∷ []) saying e = same-asked (Part (SetW u v w w2)) saying tt e
saying_by-asked Begin [] saying e = same-asked Opens saying tt e
saying_by-asked Commit [] saying e = same-asked Closes saying tt e
saying_by-asked Current [] saying e = same-asked (Asks command.Current) saying tt e
saying_by-asked Release (v ∷ []) saying e = same-asked (Asks (command.Release v)) saying tt e
saying_by-asked Leave [] saying e = same-asked (Asks command.Leave) saying tt e
saying_by-asked word numbers saying e = cc e

reading_by-asked : (word : Word) (version : Version) (numbers : List ℕ) (saying : Saying) → reading_by word version numbers ≡ Some saying → IsAsked saying
reading_by-asked Value version (a ∷ x ∷ []) saying e = same-asked (Asks (command.Value version a x)) saying tt e
reading_by-asked Parent version (a ∷ x ∷ []) saying e = same-asked (Asks (command.Parent version a x)) saying tt e
reading_by-asked Path version (a ∷ x ∷ []) saying e = same-asked (Asks (command.Path version a x)) saying tt e
reading_by-asked Modified version (a ∷ []) saying e = same-asked (Asks (command.Modified version a)) saying tt e
reading_by-asked word version numbers saying e = cc e

saying_of-asked : (word : Word) (fields : Fields) (saying : Saying) → saying_of word fields ≡ Some saying → IsAsked saying
unfolding saying_of
saying_of-asked word [] saying e = saying_by-asked word [] saying e
saying_of-asked word (field ∷ fields) saying e = by (takes_version word) (version_of field) (numbers_of fields) (numbers_of (field ∷ fields)) e
  where
    read : (version : Version) (o : Option (List ℕ)) → option_and_then (reading_by word version) o ≡ Some saying → IsAsked saying
    read version None q = cc q
    read version (Some numbers) q = reading_by-asked word version numbers saying q

    by : (b : Bool) (o : Option Version) (p q : Option (List ℕ))
        → (if b then option_and_then (λ version. option_and_then (reading_by word version) p) o else option_and_then (saying_by word) q) ≡ Some saying → IsAsked saying
    by true None p q f = cc f
    by true (Some version) p q f = read version p f
    by false o p None f = cc f
    by false o p (Some numbers) f = saying_by-asked word numbers saying f

said_by-asked : (h : Header) (s : ℕ) (fields : Fields) (saying : Saying) → said_by h s fields ≡ Some saying → IsAsked saying
said_by-asked h s [] saying e = cc e
said_by-asked h s (name ∷ []) saying e = by (number_of name) e
  where
    by : (o : Option ℕ) → option_and_then (λ (session : ℕ). if session == s then said h (name ∷ []) else None) o ≡ Some saying → IsAsked saying
    by None f = cc f
    by (Some t) f = when (t == s) f
      where
        when : (b : Bool) → (if b then said h (name ∷ []) else None) ≡ Some saying → IsAsked saying
        when true g = cc g
        when false g = cc g
said_by-asked h s (name ∷ field ∷ fields) saying e = by (number_of name) e
  where
    word : (o : Option Word) → option_and_then (λ word. saying_of word fields) o ≡ Some saying → IsAsked saying
    word None f = cc f
    word (Some one) f = saying_of-asked one fields saying f

    by : (o : Option ℕ) → option_and_then (λ (session : ℕ). if session == s then said h (name ∷ field ∷ fields) else None) o ≡ Some saying → IsAsked saying
    by None f = cc f
    by (Some t) f = when (t == s) f
      where
        when : (b : Bool) → (if b then said h (name ∷ field ∷ fields) else None) ≡ Some saying → IsAsked saying
        when true g = word (word_said h (name ∷ field ∷ fields)) g
        when false g = cc g

-- Leaves

-- no command of the list is a leave
abbrev NoLeave : List Command → Type 0
NoLeave [] = ⊤
NoLeave (command.Leave ∷ commands) = ⊥
NoLeave (one ∷ commands) = NoLeave commands

NoLeave-append : (xs ys : List Command) → NoLeave xs → NoLeave ys → NoLeave (xs ++ ys)
NoLeave-append [] ys h k = k
NoLeave-append (command.Leave ∷ xs) ys h k = h
NoLeave-append (command.Change parts ∷ xs) ys h k = NoLeave-append xs ys h k
NoLeave-append (command.Release v ∷ xs) ys h k = NoLeave-append xs ys h k
NoLeave-append (command.Value version a x ∷ xs) ys h k = NoLeave-append xs ys h k
NoLeave-append (command.Parent version a x ∷ xs) ys h k = NoLeave-append xs ys h k
NoLeave-append (command.Path version a x ∷ xs) ys h k = NoLeave-append xs ys h k
NoLeave-append (command.Modified version a ∷ xs) ys h k = NoLeave-append xs ys h k
NoLeave-append (command.Current ∷ xs) ys h k = NoLeave-append xs ys h k

EndsByLeave-append : (xs ys : List Command) → NoLeave xs → EndsByLeave ys → EndsByLeave (xs ++ ys)
EndsByLeave-append [] ys h k = k
EndsByLeave-append (command.Leave ∷ xs) ys h k = absurd h
EndsByLeave-append (command.Change parts ∷ xs) ys h k = EndsByLeave-append xs ys h k
EndsByLeave-append (command.Release v ∷ xs) ys h k = EndsByLeave-append xs ys h k
EndsByLeave-append (command.Value version a x ∷ xs) ys h k = EndsByLeave-append xs ys h k
EndsByLeave-append (command.Parent version a x ∷ xs) ys h k = EndsByLeave-append xs ys h k
EndsByLeave-append (command.Path version a x ∷ xs) ys h k = EndsByLeave-append xs ys h k
EndsByLeave-append (command.Modified version a ∷ xs) ys h k = EndsByLeave-append xs ys h k
EndsByLeave-append (command.Current ∷ xs) ys h k = EndsByLeave-append xs ys h k

-- What a session's sayings keep

-- what the sayings of a session keep, the newest first
record Keeps (analyses : ℕ) (sayings : List Saying) : Type 0 where
  few : IfSome (open_parts sayings) (λ parts. length parts ≤ 1024)
  askable : All (IsCommandFor analyses) (commands_behind None (reverse sayings))
  staying : list_any is_leave sayings ≡ false → NoLeave (commands_behind None (reverse sayings))
  leaving : EndsByLeave (commands_behind None (reverse sayings))

-- the parts that are open behind one saying more
abbrev opened : Option (List Update) → Saying → Option (List Update)
opened open_ (Part update) = option_map (λ parts. parts ++ update ∷ []) open_
opened open_ Opens = Some []
opened open_ Closes = None
opened open_ (Asks asked) = open_

open_parts-cons : (saying : Saying) (sayings : List Saying) → open_parts (saying ∷ sayings) ≡ opened (open_parts sayings) saying
unfolding open_parts
open_parts-cons (Part update) sayings = refl
open_parts-cons Opens sayings = refl
open_parts-cons Closes sayings = refl
open_parts-cons (Asks asked) sayings = refl

-- what one saying makes of open parts
record Makes (analyses : ℕ) (open_ : Option (List Update)) (saying : Saying) : Type 0 where
  few : IfSome (opened open_ saying) (λ parts. length parts ≤ 1024)
  askable : All (IsCommandFor analyses) (commands_behind open_ (saying ∷ []))
  staying : is_leave saying ≡ false → NoLeave (commands_behind open_ (saying ∷ []))
  leaving : EndsByLeave (commands_behind open_ (saying ∷ []))

-- a single command
one-askable : (analyses : ℕ) (one : Command) → IsCommandFor analyses one → All (IsCommandFor analyses) (one ∷ [])
one-askable analyses one h = All-cons (IsCommandFor analyses) one [] h (All-nil (IsCommandFor analyses))

-- the analysis that a saying names is one
analysis-below : (a analyses : ℕ) (rest : Option Cause)
    → option_or (if nat_lt a analyses then None else Some cause.Analysis) rest ≡ None → a < analyses
analysis-below a analyses rest e = by (nat_lt a analyses) refl e
  where
    by : (b : Bool) → nat_lt a analyses ≡ b → option_or (if b then None else Some cause.Analysis) rest ≡ None → a < analyses
    by true p q = grind (arith, common_steps)
    by false p q = cc q

makes-change : (analyses : ℕ) (open_ : Option (List Update)) (saying : Saying) (parts : List Update)
    → commands_behind open_ (saying ∷ []) ≡ command.Change parts ∷ [] → 1 ≤ length parts → length parts ≤ 1024
    → IfSome (opened open_ saying) (λ (t : List Update). length t ≤ 1024) → Makes analyses open_ saying
makes-change analyses open_ saying parts made some few after =
    record {
      few = after;
      askable = rw made (one-askable analyses (command.Change parts) (some, few));
      staying = λ e. rw made tt;
      leaving = rw made tt;
    }

makes-nothing : (analyses : ℕ) (open_ : Option (List Update)) (saying : Saying)
    → commands_behind open_ (saying ∷ []) ≡ [] → IfSome (opened open_ saying) (λ (t : List Update). length t ≤ 1024) → Makes analyses open_ saying
makes-nothing analyses open_ saying made after =
    record { few = after; askable = rw made (All-nil (IsCommandFor analyses)); staying = λ e. rw made tt; leaving = rw made tt }

makes-asked : (analyses : ℕ) (asked : Command) → IsAsked (Asks asked)
    → option_or (option_and_then (λ (a : ℕ). if nat_lt a analyses then None else Some cause.Analysis) (analysis_asked (Asks asked))) None ≡ None
    → Makes analyses None (Asks asked)
unfolding commands_behind
makes-asked analyses (command.Change parts) h e = absurd h
makes-asked analyses (command.Release v) h e = record { few = tt; askable = one-askable analyses _ tt; staying = λ f. tt; leaving = tt }
makes-asked analyses command.Leave h e = record { few = tt; askable = one-askable analyses _ tt; staying = λ f. cc f; leaving = refl }
makes-asked analyses command.Current h e = record { few = tt; askable = one-askable analyses _ tt; staying = λ f. tt; leaving = tt }
makes-asked analyses (command.Value version a x) h e = record { few = tt; askable = one-askable analyses _ (analysis-below a analyses None e); staying = λ f. tt; leaving = tt }
makes-asked analyses (command.Parent version a x) h e = record { few = tt; askable = one-askable analyses _ (analysis-below a analyses None e); staying = λ f. tt; leaving = tt }
makes-asked analyses (command.Path version a x) h e = record { few = tt; askable = one-askable analyses _ (analysis-below a analyses None e); staying = λ f. tt; leaving = tt }
makes-asked analyses (command.Modified version a) h e = record { few = tt; askable = one-askable analyses _ (analysis-below a analyses None e); staying = λ f. tt; leaving = tt }

-- a saying that fits makes commands that can be asked
makes : (analyses : ℕ) (open_ : Option (List Update)) (saying : Saying) → IsAsked saying → IfSome open_ (λ (t : List Update). length t ≤ 1024)
    → option_or (option_and_then (λ (a : ℕ). if nat_lt a analyses then None else Some cause.Analysis) (analysis_asked saying)) (transaction_cause open_ saying) ≡ None
    → Makes analyses open_ saying
unfolding commands_behind
makes analyses None (Part update) h few e = makes-change analyses None (Part update) (update ∷ []) refl (omega arith) (omega arith) tt
makes analyses None Opens h few e = makes-nothing analyses None Opens refl (omega arith)
makes analyses None Closes h few e = cc e
makes analyses None (Asks asked) h few e = makes-asked analyses asked h e
makes analyses (Some parts) (Part update) h few e = makes-nothing analyses (Some parts) (Part update) refl (by (length parts == 1024) refl e)
  where
    by : (b : Bool) → (length parts == 1024) ≡ b → (if b then Some cause.Parts else None) ≡ None → length (parts ++ update ∷ []) ≤ 1024
    by true p q = cc q
    by false p q = grind (arith, common_steps)
makes analyses (Some parts) Opens h few e = cc e
makes analyses (Some parts) Closes h few e = makes-change analyses (Some parts) Closes parts refl (by (length parts == 0) refl e) few tt
  where
    by : (b : Bool) → (length parts == 0) ≡ b → (if b then Some cause.Parts else None) ≡ None → 1 ≤ length parts
    by true p q = cc q
    by false p q = grind (arith, common_steps)
makes analyses (Some parts) (Asks asked) h few e = inside (option_and_then (λ (a : ℕ). if nat_lt a analyses then None else Some cause.Analysis) (analysis_asked (Asks asked))) e
  where
    inside : (o : Option Cause) → option_or o (Some cause.Inside) ≡ None → Makes analyses (Some parts) (Asks asked)
    inside None q = cc q
    inside (Some why) q = cc q

-- what one saying more keeps
keeps-more : (analyses : ℕ) (saying : Saying) (sayings : List Saying) → Keeps analyses sayings → list_any is_leave sayings ≡ false
    → Makes analyses (open_parts sayings) saying → Keeps analyses (saying ∷ sayings)
keeps-more analyses saying sayings kept stays made =
    let push = commands_behind-push saying sayings in
    let front = commands_behind None (reverse sayings) in
    let more = commands_behind (open_parts sayings) (saying ∷ []) in
    record {
      few = rw (open_parts-cons saying sayings) made.few;
      askable = rw push (All-append (IsCommandFor analyses) front more kept.askable made.askable);
      staying = λ e. rw push (NoLeave-append front more (kept.staying stays) (made.staying (first e)));
      leaving = rw push (EndsByLeave-append front more (kept.staying stays) made.leaving);
    }
  where
    by : (b c : Bool) → (b || c) ≡ false → b ≡ false
    by true c e = cc e
    by false c e = refl

    first : list_any is_leave (saying ∷ sayings) ≡ false → is_leave saying ≡ false
    first e = by (is_leave saying) (list_any is_leave sayings) e

-- records none of which is a fault
taken-keeps : (h : Header) (analyses : ℕ) (before : List Fields) (s : ℕ) → AreTaken h analyses before → Keeps analyses (sayings h s before)
unfolding commands_behind open_parts
taken-keeps h analyses [] s taken = record { few = tt; askable = All-nil (IsCommandFor analyses); staying = λ e. tt; leaving = tt }
taken-keeps h analyses (fields ∷ before) s (none, taken) = by (said_by h s fields) refl (taken-keeps h analyses before s taken)
  where
    by : (o : Option Saying) → said_by h s fields ≡ o → Keeps analyses (sayings h s before) → Keeps analyses (cons_option o (sayings h s before))
    by None p kept = kept
    by (Some saying) p kept =
        let fits = said_by-fits h analyses before fields s saying none p in
        keeps-more analyses saying (sayings h s before) kept fits.stays
        (makes analyses (open_parts (sayings h s before)) saying (said_by-asked h s fields saying p) kept.few fits.fits)

-- Headers and base triples

-- the numbers of a header are within their limits
record IsWithin (h : Header) : Type 0 where
  vertices : h.vertices ≤ vertex_limit
  some : 1 ≤ h.sessions
  few : h.sessions ≤ session_limit

header-within : (fields : Fields) (h : Header) → header_of fields ≡ Some h → IsWithin h
unfolding header_of
header-within [] h e = cc e
header-within (a ∷ []) h e = cc e
header-within (a ∷ b ∷ []) h e = cc e
header-within (a ∷ b ∷ c ∷ []) h e = cc e
header-within (name ∷ format ∷ vertices ∷ sessions ∷ []) h e = by (bytes_eq name (codes "risgraph")) (format_of format) (number_of vertices) (number_of sessions) e
  where
    ends : (f : Format) (n m : ℕ) (a b c : Bool) → nat_le n vertex_limit ≡ a → nat_le 1 m ≡ b → nat_le m session_limit ≡ c
        → option_and_then (λ (n : ℕ). option_map (λ m. record { format = f; vertices = n; sessions = m }) (if b && c then Some m else None)) (if a then Some n else None) ≡ Some h
        → IsWithin h
    ends f n m false b c p q r d = cc d
    ends f n m true false c p q r d = cc d
    ends f n m true true false p q r d = cc d
    ends f n m true true true p q r d =
        let made : Header = record { format = f; vertices = n; sessions = m } in
        let same : made ≡ h = cc d in
        subst IsWithin same (record { vertices = grind (arith, common_steps); some = grind (arith, common_steps); few = grind (arith, common_steps) })

    half : (f : Format) (n : ℕ) (a : Bool) → option_and_then (λ (n : ℕ). option_map (λ (m : ℕ). record { format = f; vertices = n; sessions = m }) None) (if a then Some n else None) ≡ Some h → IsWithin h
    half f n true d = cc d
    half f n false d = cc d

    by : (b : Bool) (f : Option Format) (v s : Option ℕ)
        → (if b then option_and_then (λ (f : Format).
        option_and_then (λ n.
        option_map (λ m. record { format = f; vertices = n; sessions = m })
        (option_and_then sessions_within s))
        (option_and_then (at_most vertex_limit) v))
        f
        else None) ≡ Some h
        → IsWithin h
    by false f v s q = cc q
    by true None v s q = cc q
    by true (Some f) None s q = cc q
    by true (Some f) (Some n) None q = half f n (nat_le n vertex_limit) q
    by true (Some f) (Some n) (Some m) q = ends f n m (nat_le n vertex_limit) (nat_le 1 m) (nat_le m session_limit) refl refl refl q
header-within (a ∷ b ∷ c ∷ d ∷ f ∷ rest) h e = cc e

-- a base triple joins two vertices of the header, within the limit of its format
base_by-proper : (h : Header) (numbers : List ℕ) (t : Triple) (g : PlainGraph) → g.format ≡ h.format → g.vertices ≡ numbers_below h.vertices
    → base_by h numbers ≡ Some t → IsProperTriple g t
base_by-proper h [] t g f v e = cc e
base_by-proper h (a ∷ []) t g f v e = cc e
base_by-proper h (a ∷ b ∷ []) t g f v e = cc e
base_by-proper h (x ∷ y ∷ w ∷ []) t g f v e = by (nat_lt x h.vertices) (nat_lt y h.vertices) (nat_le w (greatest_of h.format)) refl refl refl e
  where
    by : (a b c : Bool) → nat_lt x h.vertices ≡ a → nat_lt y h.vertices ≡ b → nat_le w (greatest_of h.format) ≡ c
        → (if a && b && c then Some (triple x y w) else None) ≡ Some t → IsProperTriple g t
    by false b c p q r d = cc d
    by true false c p q r d = cc d
    by true true false p q r d = cc d
    by true true true p q r d =
        let same : triple x y w ≡ t = cc d in
        let source : x < h.vertices = grind (arith, common_steps) in
        let target : y < h.vertices = grind (arith, common_steps) in
        let weight : w ≤ greatest_of h.format = grind (arith, common_steps) in
        subst (IsProperTriple g) same (record {
          source = rw v (Contains-numbers_below h.vertices x source);
          target = rw v (Contains-numbers_below h.vertices y target);
          weight = rw f weight;
        })
base_by-proper h (a ∷ b ∷ c ∷ d ∷ rest) t g f v e = cc e

base_of-proper : (h : Header) (fields : Fields) (t : Triple) (g : PlainGraph) → g.format ≡ h.format → g.vertices ≡ numbers_below h.vertices
    → base_of h fields ≡ Some t → IsProperTriple g t
unfolding base_of
base_of-proper h [] t g f v e = cc e
base_of-proper h (name ∷ fields) t g f v e = by (bytes_eq name (codes "base")) (numbers_of fields) e
  where
    by : (b : Bool) (o : Option (List ℕ)) → (if b then option_and_then (base_by h) o else None) ≡ Some t → IsProperTriple g t
    by false o q = cc q
    by true None q = cc q
    by true (Some numbers) q = base_by-proper h numbers t g f v q

base-proper : (h : Header) (records : List Fields) (g : PlainGraph) → g.format ≡ h.format → g.vertices ≡ numbers_below h.vertices
    → All (IsProperTriple g) (filter_map (base_of h) records)
base-proper h [] g f v = All-nil (IsProperTriple g)
base-proper h (fields ∷ records) g f v = by (base_of h fields) refl (base-proper h records g f v)
  where
    by : (o : Option Triple) → base_of h fields ≡ o → All (IsProperTriple g) (filter_map (base_of h) records)
        → All (IsProperTriple g) (cons_option o (filter_map (base_of h) records))
    by None p rest = rest
    by (Some t) p rest = All-cons (IsProperTriple g) t _ (base_of-proper h fields t g f v p) rest

-- Scripts

-- a script of a header within the limits and of records none of which is a fault
behind-readable : (h : Header) (analyses : ℕ) (records : List Fields) → IsWithin h → AreTaken h analyses (newest_first [] records)
    → IsReadable analyses (script_behind h records)
behind-readable h analyses records within taken =
    record {
      vertices = within.vertices;
      some = within.some;
      few = within.few;
      lists = length-map (numbers_below h.sessions) (commands_of h records) ∙ length-numbers_below h.sessions;
      opening = record {
        once = EachOnce-numbers_below h.vertices;
        vertices = λ k d lt. let below = All-numbers_below h.vertices k d lt in omega (arith, below, within.vertices);
        triples = base-proper h records (opening_of (script_behind h records)) refl refl;
      };
      askable = All-map (All (IsCommandFor analyses)) (commands_of h records) (numbers_below h.sessions)
          (λ k d lt. subst (All (IsCommandFor analyses)) (commands_of-newest_first h records _) (kept _).askable);
      leaving = All-map EndsByLeave (commands_of h records) (numbers_below h.sessions)
          (λ k d lt. subst EndsByLeave (commands_of-newest_first h records _) (kept _).leaving);
    }
  where
    kept : (s : ℕ) → Keeps analyses (sayings h s (newest_first [] records))
    kept s = taken-keeps h analyses (newest_first [] records) s taken

-- a script that records spell is readable
pub script_of_records-readable : (analyses : ℕ) (records : List Fields) (script : Script)
    → script_of_records analyses records ≡ Ok script → IsReadable analyses script
unfolding script_of_records
script_of_records-readable analyses [] script e = cc e
script_of_records-readable analyses (fields ∷ records) script e = by (header_of fields) refl e
  where
    ends : (h : Header) (o p : Option Fault) → IsWithin h → first_fault h analyses [] 2 records ≡ o
        → ◌≡◌ {A = Result Script Fault} (elim (option_or o p) [ Some fault ↦ Err fault | None ↦ Ok (script_behind h records) ]) (Ok script) → IsReadable analyses script
    ends h (Some fault) p within none q = cc q
    ends h None (Some fault) within none q = cc q
    ends h None None within none q =
        let same : script_behind h records ≡ script = cc q in
        subst (IsReadable analyses) same (behind-readable h analyses records within (first_fault-taken h analyses [] 2 records tt none))

    by : (o : Option Header) → header_of fields ≡ o
        → ◌≡◌ {A = Result Script Fault} (elim o [ None ↦ Err (record { number = 1; cause = cause.Header }) | Some h ↦ script_or_fault h analyses records ]) (Ok script)
        → IsReadable analyses script
    by None p q = cc q
    by (Some h) p q = ends h (first_fault h analyses [] 2 records) (fault_at_end h records) (header-within fields h p) refl q
