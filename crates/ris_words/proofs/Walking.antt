-- What clap finds in words that are options of a command.
use Rattle.std.proofs.Common.{◌≡◌, ℕ, Bool, true, false, not, ◌==◌, ◌&&◌, ◌||◌, if◌then◌else◌, List, [], ◌∷◌, ◌++◌, map, Option, Some, None, refl, sym, subst, ap, ◌∙◌, codes, append_assoc, append-nil, fold}
use Rattle.std.specs.Str.{bytes_eq}
use Rattle.clap.specs.Simple.{built, filled}
use Rattle.clap.specs.Walk.{Held, arg_by_id, Row, Rule, Waiting, Walk, at_row, has_row, idle, option as waits_for, reacted, reading_by, more_values, settled, used, walked, with_values, without}
use Rattle.clap.specs.declared.builder.value_parser.Reading.{Reading}
use Rattle.clap.specs.declared.parser.matches.ValueSource.TheVariants.{CommandLine}
use Rattle.ris_base.specs.Script.{Bytes}
use Rattle.ris_words.specs.Commands.{app_for, id_of, option_rule}
use Rattle.ris_words.specs.Tokens.{Token, Told, all_fit, called, fits, has, is_of, passes, tell, token_of, with_name}
use Rattle.ris_words.specs.declared.options.Name.{Name}
use Rattle.ris_words.specs.declared.options.Name.TheVariants as option
use Rattle.ris_words.specs.declared.options.Seen.{Seen}
use Rattle.ris_words.specs.declared.options.Verb.{Verb}
use Rattle.ris_words.specs.declared.options.Verb.TheVariants.{Replay, Demo}
use Rattle.ris_words.proofs.Fitting.{not-true, or-false, or-true}
use Rattle.ris_words.proofs.ItemLemmas.{Begins, both, list-begins, number-begins}
use Rattle.ris_words.proofs.Telling.{Says, count-of, takes, token_of-says}

-- the options of a command as clap has built them
abbrev pub rules : Verb → List Rule
rules verb = (built (app_for verb)).top.rules

-- what clap waits for where an option waits for its value
abbrev pub waiting_for : Option Name → Waiting
waiting_for None = idle
waiting_for (Some name) = waits_for (id_of name)

-- a walk over words with this held
abbrev pub at : Held → Option Name → ℕ → Walk
at held waiting position =
    record { held = held; waiting = waiting_for waiting; position = position; is_trailing = false; stopped = None }

-- an option's name
walk-name : (verb : Verb) (name : Name) (h : Held) (p : ℕ) → takes name ≡ true → is_of verb name ≡ true
    → walked (rules verb) [] (at h None p) (called name) ≡ at (record (settled (rules verb) h) { pending = Some (id_of name, []) }) (Some name) p
unfolding walked
walk-name Replay option.Threads h p valued own = cc
walk-name Replay option.Workers h p valued own = refl
walk-name Replay option.Size h p valued own = cc
walk-name Replay option.Analyses h p valued own = refl
walk-name Demo option.Threads h p valued own = cc
walk-name Demo option.Workers h p valued own = refl
walk-name Demo option.Size h p valued own = refl
walk-name Demo option.Analyses h p valued own = cc

-- an option as clap has built it
abbrev pub built_rule : Name → Rule
built_rule name = filled (option_rule name)

-- a name, a `=` and a value in one word
walk-joined : (verb : Verb) (name : Name) (value : Bytes) (h : Held) (p : ℕ) → takes name ≡ true → is_of verb name ≡ true
    → walked (rules verb) [] (at h None p) (called name ++ codes "=" ++ value) ≡ at (reacted (rules verb) (built_rule name) (value ∷ []) h) None p
unfolding walked
walk-joined Replay option.Threads value h p valued own = cc
walk-joined Replay option.Workers value h p valued own = refl
walk-joined Replay option.Size value h p valued own = cc
walk-joined Replay option.Analyses value h p valued own = refl
walk-joined Demo option.Threads value h p valued own = cc
walk-joined Demo option.Workers value h p valued own = refl
walk-joined Demo option.Size value h p valued own = refl
walk-joined Demo option.Analyses value h p valued own = cc

-- `--threads`
walk-threads : (h : Held) (p : ℕ)
    → walked (rules Replay) [] (at h None p) (codes "--threads") ≡ at (reacted (rules Replay) (built_rule option.Threads) [] h) None p
unfolding walked
walk-threads h p = refl

-- the value of the option that waits for it, which begins with no hyphen
walk-value : (verb : Verb) (name : Name) (x : ℕ) (xs : Bytes) (h : Held) (p : ℕ) → takes name ≡ true → is_of verb name ≡ true → (x == 45) ≡ false
    → h.pending ≡ Some (id_of name, []) → walked (rules verb) [] (at h (Some name) p) (x ∷ xs) ≡ at (record h { pending = Some (id_of name, (x ∷ xs) ∷ []) }) None p
unfolding walked
walk-value Replay option.Threads x xs h p valued own first waits = cc
walk-value Replay option.Workers x xs h p valued own first waits = rw (first, first, waits) refl
walk-value Replay option.Size x xs h p valued own first waits = cc
walk-value Replay option.Analyses x xs h p valued own first waits = rw (first, first, waits) refl
walk-value Demo option.Threads x xs h p valued own first waits = cc
walk-value Demo option.Workers x xs h p valued own first waits = rw (first, first, waits) refl
walk-value Demo option.Size x xs h p valued own first waits = rw (first, first, waits) refl
walk-value Demo option.Analyses x xs h p valued own first waits = cc

-- Rows

-- a row that was missing comes last
pub row-added : (id : Bytes) (change : Row → List Row) (missing rows : List Row) → has_row id rows ≡ false → at_row id change missing rows ≡ rows ++ missing
row-added id change missing [] none = refl
row-added id change missing (r ∷ rs) none = go (bytes_eq r.id id) refl (row-added id change missing rs)
  where
    go : (b : Bool) → bytes_eq r.id id ≡ b → (has_row id rs ≡ false → at_row id change missing rs ≡ rs ++ missing)
        → (if bytes_eq r.id id then change r ++ rs else r ∷ at_row id change missing rs) ≡ r ∷ rs ++ missing
    go true e more = let bad = rw e at none in cc
    go false e more = rw (e, more (rw e at none)) refl

-- the values that an option has
abbrev pub values_for : Told → List Bytes
values_for (option.Threads, value) = codes "true" ∷ []
values_for (name, value) = value ∷ []

-- what is found of an option that is told
abbrev pub row_for : Told → Row
row_for t = record {
  id = id_of t.0;
  values = values_for t;
  count = None;
  source = Some CommandLine;
  reading = reading_by (built_rule t.0);
}

-- values come in a row of their own where there was none
values-first : (id : Bytes) (how : Reading) (values : List Bytes) (rows : List Row) → has_row id rows ≡ false
    → with_values id how CommandLine values (without id rows) ≡ rows ++ record { id = id; values = values; count = None; source = Some CommandLine; reading = how } ∷ []
values-first id how values rows none =
    rw (row-added id (λ _. []) [] rows none ∙ append-nil rows) (row-added id (more_values CommandLine values) _ rows none)

-- an option is used that wasn't before
used-first : (name : Name) (value : Bytes) (rows : List Row) → takes name ≡ true → has_row (id_of name) rows ≡ false
    → used (built_rule name) (value ∷ []) rows ≡ rows ++ row_for (name, value) ∷ []
used-first option.Threads value rows valued none = cc
used-first option.Workers value rows valued none = values-first _ _ _ rows none
used-first option.Size value rows valued none = values-first _ _ _ rows none
used-first option.Analyses value rows valued none = values-first _ _ _ rows none

-- `--threads` is used that wasn't before
threads-first : (value : Bytes) (rows : List Row) → has_row (codes "threads") rows ≡ false
    → used (built_rule option.Threads) [] rows ≡ rows ++ row_for (option.Threads, value) ∷ []
threads-first value rows none = values-first _ _ _ rows none

-- there are rows of the options that were told, and of no other
abbrev pub Agrees : Seen → List Row → Type 0
Agrees seen rows = (name : Name) → has_row (id_of name) rows ≡ has name seen

-- an option was told with one more where it was before, or is that one
has-more : (name other : Name) (seen : Seen) → has other (with_name name seen) ≡ (has other seen || bytes_eq (id_of name) (id_of other))
has-more option.Threads option.Threads seen = sym (or-true seen.threads)
has-more option.Threads option.Workers seen = sym (or-false seen.workers)
has-more option.Threads option.Size seen = sym (or-false seen.size)
has-more option.Threads option.Analyses seen = sym (or-false seen.analyses)
has-more option.Workers option.Threads seen = sym (or-false seen.threads)
has-more option.Workers option.Workers seen = sym (or-true seen.workers)
has-more option.Workers option.Size seen = sym (or-false seen.size)
has-more option.Workers option.Analyses seen = sym (or-false seen.analyses)
has-more option.Size option.Threads seen = sym (or-false seen.threads)
has-more option.Size option.Workers seen = sym (or-false seen.workers)
has-more option.Size option.Size seen = sym (or-true seen.size)
has-more option.Size option.Analyses seen = sym (or-false seen.analyses)
has-more option.Analyses option.Threads seen = sym (or-false seen.threads)
has-more option.Analyses option.Workers seen = sym (or-false seen.workers)
has-more option.Analyses option.Size seen = sym (or-false seen.size)
has-more option.Analyses option.Analyses seen = sym (or-true seen.analyses)

-- there is a row with one more where there was before, or is that one
row-more : (id : Bytes) (rows : List Row) (row : Row) → has_row id (rows ++ row ∷ []) ≡ (has_row id rows || bytes_eq row.id id)
row-more id [] row = or-false (bytes_eq row.id id)
row-more id (r ∷ rs) row = rw (row-more id rs row) (assoc (bytes_eq r.id id))
  where
    assoc : (b : Bool) → (b || (has_row id rs || bytes_eq row.id id)) ≡ ((b || has_row id rs) || bytes_eq row.id id)
    assoc true = refl
    assoc false = refl

-- options and rows agree with one more of each
agrees-more : (seen : Seen) (rows : List Row) (name : Name) (value : Bytes) → Agrees seen rows → Agrees (with_name name seen) (rows ++ row_for (name, value) ∷ [])
agrees-more seen rows name value agrees = λ other. row-more (id_of other) rows (row_for (name, value)) ∙ ap (λ (b : Bool). b || bytes_eq (id_of name) (id_of other)) (agrees other) ∙ sym (has-more name other seen)

-- The whole walk

-- an option of a command is found by its name
own-rule : (verb : Verb) (name : Name) → is_of verb name ≡ true → arg_by_id (rules verb) (id_of name) ≡ Some (built_rule name)
own-rule Replay option.Threads own = refl
own-rule Replay option.Workers own = refl
own-rule Replay option.Size own = cc
own-rule Replay option.Analyses own = refl
own-rule Demo option.Threads own = cc
own-rule Demo option.Workers own = refl
own-rule Demo option.Size own = refl
own-rule Demo option.Analyses own = cc

-- a value of an option that passes begins with no hyphen
value-begins : (name : Name) (value : Bytes) → takes name ≡ true → passes name value ≡ true → Begins value
value-begins option.Threads value valued is = cc
value-begins option.Workers value valued is = let n = count-of 64 value is in number-begins value _ n.0
value-begins option.Size value valued is = let n = count-of 1000000 value is in number-begins value _ n.0
value-begins option.Analyses value valued is = list-begins value is

-- the rows before an option that waits for its value, or before no option
abbrev pub before : Verb → Held → Option Name → List Row
before verb h None = (settled (rules verb) h).rows
before verb h (Some name) = h.rows

-- the option that waits takes a value, and has none yet
abbrev pub IsHeld : Held → Option Name → Type 0
IsHeld h None = Unit {0}
IsHeld h (Some name) = (takes name ≡ true) × (h.pending ≡ Some (id_of name, []))

-- the rows at the end
abbrev pub rows_from : Verb → Held → Option Name → ℕ → List Bytes → List Row
rows_from verb h waiting p words = (settled (rules verb) (fold (walked (rules verb) []) (at h waiting p) words).held).rows

-- the rows at the end are those after the first word and the others
rows-step : (verb : Verb) (h after : Held) (waiting next : Option Name) (p : ℕ) (word : Bytes) (words : List Bytes)
    → walked (rules verb) [] (at h waiting p) word ≡ at after next p → rows_from verb h waiting p (word ∷ words) ≡ rows_from verb after next p words
rows-step verb h after waiting next p word words step = ap (λ (w : Walk). (settled (rules verb) (fold (walked (rules verb) []) w words).held).rows) step

-- an option with its value, and then the others
one-more : (rows end : List Row) (t : Told) (ts : List Told) (middle : List Row) → middle ≡ rows ++ row_for t ∷ [] → end ≡ middle ++ map row_for ts
    → end ≡ rows ++ map row_for (t ∷ ts)
one-more rows end t ts middle first rest = rest ∙ ap (λ (m : List Row). m ++ map row_for ts) first ∙ append_assoc rows (row_for t ∷ []) (map row_for ts)

-- what the parts of a fit say
fit-parts : (verb : Verb) (seen : Seen) (t : Told) (ts : List Told) → all_fit verb seen (t ∷ ts) ≡ true
    → (is_of verb t.0 ≡ true) × (has t.0 seen ≡ false) × (passes t.0 t.1 ≡ true) × (all_fit verb (with_name t.0 seen) ts ≡ true)
fit-parts verb seen (name, value) ts is =
    let parts = both (fits verb seen name value) (all_fit verb (with_name name seen) ts) is in
    let of_command = both (is_of verb name) (not (has name seen) && passes name value) parts.0 in
    let right = both (not (has name seen)) (passes name value) of_command.1 in
    (of_command.0, not-true (has name seen) right.0, right.1, parts.1)

-- the rows of options that words tell stand behind those before
abbrev pub Follows : Verb → Seen → List Bytes → Type 0
Follows verb seen words = (waiting : Option Name) (ts : List Told) (h : Held) (p : ℕ) → tell words waiting ≡ Some ts → all_fit verb seen ts ≡ true
    → IsHeld h waiting → Agrees seen (before verb h waiting) → rows_from verb h waiting p words ≡ before verb h waiting ++ map row_for ts

-- the value of the option that waits
follow-value : (verb : Verb) (seen : Seen) (name : Name) (word : Bytes) (words : List Bytes) (rest : List Told) (h : Held) (p : ℕ)
    → Follows verb (with_name name seen) words → tell words None ≡ Some rest → all_fit verb seen ((name, word) ∷ rest) ≡ true
    → IsHeld h (Some name) → Agrees seen h.rows → rows_from verb h (Some name) p (word ∷ words) ≡ h.rows ++ map row_for ((name, word) ∷ rest)
follow-value verb seen name word words rest h p next said is waits agrees =
    let parts = fit-parts verb seen (name, word) rest is in
    let begin = value-begins name word waits.0 parts.2 in
    let after : Held = record h { pending = Some (id_of name, word ∷ []) } in
    let step : walked (rules verb) [] (at h (Some name) p) word ≡ at after None p =
    subst (λ (w : Bytes). walked (rules verb) [] (at h (Some name) p) w ≡ at (record h { pending = Some (id_of name, w ∷ []) }) None p) (sym begin.whole)
    (walk-value verb name begin.byte begin.bytes h p waits.0 parts.0 begin.no_hyphen waits.1) in
    let none : has_row (id_of name) h.rows ≡ false = agrees name ∙ parts.1 in
    let rows : before verb after None ≡ h.rows ++ row_for (name, word) ∷ [] = rw (own-rule verb name parts.0) (used-first name word h.rows waits.0 none) in
    let agrees2 : Agrees (with_name name seen) (before verb after None) = subst (Agrees (with_name name seen)) (sym rows) (agrees-more seen h.rows name word agrees) in
    one-more h.rows _ (name, word) rest _ rows
    (rows-step verb h after (Some name) None p word words step ∙ next None rest after p said parts.3 tt agrees2)

-- an option in one word
follow-word : (verb : Verb) (seen : Seen) (name : Name) (value word : Bytes) (words : List Bytes) (rest : List Told) (h : Held) (p : ℕ)
    → Follows verb (with_name name seen) words → Says word (name, Some value) → tell words None ≡ Some rest → all_fit verb seen ((name, value) ∷ rest) ≡ true
    → Agrees seen (before verb h None) → rows_from verb h None p (word ∷ words) ≡ before verb h None ++ map row_for ((name, value) ∷ rest)
follow-word verb seen name value word words rest h p next says said is agrees =
    go name next is says
  where
    none-of : (name : Name) → all_fit verb seen ((name, value) ∷ rest) ≡ true → has_row (id_of name) (before verb h None) ≡ false
    none-of name is = agrees name ∙ (fit-parts verb seen (name, value) rest is).1

    after-word : (name : Name) (after : Held) → Follows verb (with_name name seen) words → all_fit verb seen ((name, value) ∷ rest) ≡ true
        → walked (rules verb) [] (at h None p) word ≡ at after None p → before verb after None ≡ before verb h None ++ row_for (name, value) ∷ []
        → rows_from verb h None p (word ∷ words) ≡ before verb h None ++ map row_for ((name, value) ∷ rest)
    after-word name after next is step rows =
        let agrees2 : Agrees (with_name name seen) (before verb after None) =
        subst (Agrees (with_name name seen)) (sym rows) (agrees-more seen (before verb h None) name value agrees) in
        one-more (before verb h None) _ (name, value) rest _ rows
        (rows-step verb h after None None p word words step ∙ next None rest after p said (fit-parts verb seen (name, value) rest is).3 tt agrees2)

    joined-word : (name : Name) → takes name ≡ true → Follows verb (with_name name seen) words → all_fit verb seen ((name, value) ∷ rest) ≡ true
        → word ≡ called name ++ codes "=" ++ value
        → rows_from verb h None p (word ∷ words) ≡ before verb h None ++ map row_for ((name, value) ∷ rest)
    joined-word name valued next is word_is =
        after-word name (reacted (rules verb) (built_rule name) (value ∷ []) h) next is
        (rw word_is (walk-joined verb name value h p valued (fit-parts verb seen (name, value) rest is).0))
        (used-first name value (before verb h None) valued (none-of name is))

    threads-word : (verb2 : Verb) → verb ≡ verb2 → Follows verb (with_name option.Threads seen) words → all_fit verb seen ((option.Threads, value) ∷ rest) ≡ true
        → word ≡ called option.Threads
        → rows_from verb h None p (word ∷ words) ≡ before verb h None ++ map row_for ((option.Threads, value) ∷ rest)
    threads-word Replay same next is word_is =
        after-word option.Threads (reacted (rules verb) (built_rule option.Threads) [] h) next is
        (rw word_is (rw same (walk-threads h p)))
        (threads-first value (before verb h None) (none-of option.Threads is))
    threads-word Demo same next is word_is = let own = (fit-parts verb seen (option.Threads, value) rest is).0 in let no = rw same at own in cc

    go : (name : Name) → Follows verb (with_name name seen) words → all_fit verb seen ((name, value) ∷ rest) ≡ true → Says word (name, Some value)
        → rows_from verb h None p (word ∷ words) ≡ before verb h None ++ map row_for ((name, value) ∷ rest)
    go option.Threads next is says = threads-word verb refl next is says
    go option.Workers next is says = joined-word option.Workers refl next is says
    go option.Size next is says = joined-word option.Size refl next is says
    go option.Analyses next is says = joined-word option.Analyses refl next is says

-- the name of an option whose value is the next word
follow-name : (verb : Verb) (seen : Seen) (name : Name) (word : Bytes) (words : List Bytes) (ts : List Told) (h : Held) (p : ℕ)
    → Follows verb seen words → Says word (name, None) → is_of verb name ≡ true → tell words (Some name) ≡ Some ts → all_fit verb seen ts ≡ true
    → Agrees seen (before verb h None) → rows_from verb h None p (word ∷ words) ≡ before verb h None ++ map row_for ts
follow-name verb seen name word words ts h p next says own said is agrees =
    let step = walk-name verb name h p says.0 own in
    let after : Held = record (settled (rules verb) h) { pending = Some (id_of name, []) } in
    rows-step verb h after None (Some name) p word words (rw says.1 step) ∙ next (Some name) ts after p said is (says.0, refl) agrees

-- an option that waits is the first that is told
waiting-first : (words : List Bytes) (name : Name) (ts : List Told) → tell words (Some name) ≡ Some ts
    → (value : Bytes) × (rest : List Told) × (ts ≡ (name, value) ∷ rest)
unfolding tell
waiting-first [] name ts said = cc
waiting-first (word ∷ words) name ts said = go (tell words None) refl
  where
    go : (o : Option (List Told)) → tell words None ≡ o → (value : Bytes) × (rest : List Told) × (ts ≡ (name, value) ∷ rest)
    go None found = let none = rw found at said in cc
    go (Some rest) found =
        let whole : ◌≡◌ {A = Option (List Told)} (Some ((name, word) ∷ rest)) (Some ts) = rw found at said in
        let same : (name, word) ∷ rest ≡ ts = cc in
        (word, rest, sym same)

-- clap follows all words that are taken
pub follow-all : (verb : Verb) (seen : Seen) (words : List Bytes) → Follows verb seen words
unfolding tell
follow-all verb seen [] None [] h p said is waits agrees = sym (append-nil (before verb h None))
follow-all verb seen [] None (t ∷ ts) h p said is waits agrees = cc
follow-all verb seen [] (Some name) ts h p said is waits agrees = cc
follow-all verb seen (word ∷ words) (Some name) ts h p said is waits agrees = go (tell words None) refl (λ s. follow-all verb s words)
  where
    go : (o : Option (List Told)) → tell words None ≡ o → ((s : Seen) → Follows verb s words)
        → rows_from verb h (Some name) p (word ∷ words) ≡ h.rows ++ map row_for ts
    go None found next = let none = rw found at said in cc
    go (Some rest) found next =
        let whole : ◌≡◌ {A = Option (List Told)} (Some ((name, word) ∷ rest)) (Some ts) = rw found at said in
        let same : (name, word) ∷ rest ≡ ts = cc in
        subst (λ (us : List Told). rows_from verb h (Some name) p (word ∷ words) ≡ h.rows ++ map row_for us) same
        (follow-value verb seen name word words rest h p (next (with_name name seen)) found (subst (λ (us : List Told). all_fit verb seen us ≡ true) (sym same) is) waits agrees)
follow-all verb seen (word ∷ words) None ts h p said is waits agrees = go (token_of word) refl (tell words None) refl (λ s. follow-all verb s words)
  where
    go : (token : Option Token) → token_of word ≡ token → (o : Option (List Told)) → tell words None ≡ o → ((s : Seen) → Follows verb s words)
        → rows_from verb h None p (word ∷ words) ≡ before verb h None ++ map row_for ts
    go None found o e next = let none = rw found at said in cc
    go (Some (name, None)) found o e next =
        let behind : tell words (Some name) ≡ Some ts = rw found at said in
        let first = waiting-first words name ts behind in
        let fitting : all_fit verb seen ((name, first.0) ∷ first.1) ≡ true = subst (λ (us : List Told). all_fit verb seen us ≡ true) first.2 is in
        let own = (fit-parts verb seen (name, first.0) first.1 fitting).0 in
        follow-name verb seen name word words ts h p (next seen) (token_of-says word (name, None) found) own behind is agrees
    go (Some (name, Some value)) found None e next = let none = rw (found, e) at said in cc
    go (Some (name, Some value)) found (Some rest) e next =
        let whole : ◌≡◌ {A = Option (List Told)} (Some ((name, value) ∷ rest)) (Some ts) = rw (found, e) at said in
        let same : (name, value) ∷ rest ≡ ts = cc in
        subst (λ (us : List Told). rows_from verb h None p (word ∷ words) ≡ before verb h None ++ map row_for us) same
        (follow-word verb seen name value word words rest h p (next (with_name name seen)) (token_of-says word (name, Some value) found) e
        (subst (λ (us : List Told). all_fit verb seen us ≡ true) (sym same) is) agrees)
