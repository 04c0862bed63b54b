-- What words tell is what options spell, and the other way round.
use Rattle.std.proofs.Common.{◌≡◌, ◌≤◌, inl, inr, ℕ, Bool, true, false, ◌&&◌, nat_le, List, [], ◌∷◌, ◌++◌, map, Option, Some, None, is_some, unwrap_or, refl, sym, subst, ap, ◌∙◌, codes, arith}
use Rattle.std.specs.List.{AllByRecursion}
use Rattle.std.specs.Option.{option_map_or}
use Rattle.std.specs.Str.{bytes_eq}
use Rattle.std.proofs.lemmas.Bool.Decides.{nat_tests}
use Rattle.std.proofs.lemmas.Slice.Eq.{bytes_eq-Decides}
use Rattle.ris_base.specs.CommandLine.{Choice, IsAnalysisList, Spells, SpellAll, IsSpelled}
use Rattle.ris_base.specs.CommandLine.Choice.{Threads, Workers, Size, Analyses}
use Rattle.ris_base.specs.Lists.{EachPair}
use Rattle.ris_base.specs.Number.{number_of}
use Rattle.ris_base.specs.Script.{Bytes}
use Rattle.ris_base.specs.declared.analyses.Spec.{Spec}
use Rattle.ris_words.specs.Items.{cut_at, specs_within}
use Rattle.ris_words.specs.Tokens.{Token, Told, called, named, joined_by, name_of, token_by, token_of, told, told_behind, tell, is_count, passes}
use Rattle.ris_words.specs.declared.options.Name.{Name}
use Rattle.ris_words.specs.declared.options.Name.TheVariants as option
use Rattle.ris_words.proofs.Cuts.{Lacks, cut_at-first, cut_at-gives}
use Rattle.ris_words.proofs.ItemLemmas.{both, read_list}

-- whether an option takes a value
abbrev pub takes : Name → Bool
takes option.Threads = false
takes name = true

-- the option that is told
abbrev pub choice_of : Told → Choice
choice_of (option.Threads, value) = Threads
choice_of (option.Workers, value) = Workers (unwrap_or (number_of value) 0)
choice_of (option.Size, value) = Size (unwrap_or (number_of value) 0)
choice_of (option.Analyses, value) = Analyses (unwrap_or (specs_within 4 value) [])

-- a value of an option is right
abbrev pub Passes : Told → Type 0
Passes (name, value) = passes name value ≡ true

-- Words

-- a word that names an option is its name
pub name_of-called : (word : Bytes) (name : Name) → name_of word ≡ Some name → word ≡ called name
unfolding name_of
name_of-called word name is =
    go (bytes_eq word (codes "--threads")) refl (bytes_eq word (codes "--workers")) refl (bytes_eq word (codes "--size")) refl (bytes_eq word (codes "--analyses")) refl
  where
    named_so : (one : Name) → bytes_eq word (called one) ≡ true → ◌≡◌ {A = Option Name} (Some one) (Some name) → word ≡ called name
    named_so one equal same =
        let names : one ≡ name = cc in
        (bytes_eq-Decides word (called one)).0 equal ∙ ap called names

    go : (t : Bool) → bytes_eq word (codes "--threads") ≡ t → (w : Bool) → bytes_eq word (codes "--workers") ≡ w
        → (s : Bool) → bytes_eq word (codes "--size") ≡ s → (a : Bool) → bytes_eq word (codes "--analyses") ≡ a → word ≡ called name
    go true t w e2 s e3 a e4 = named_so option.Threads t (rw t at is)
    go false t true w s e3 a e4 = named_so option.Workers w (rw (t, w) at is)
    go false t false w true s a e4 = named_so option.Size s (rw (t, w, s) at is)
    go false t false w false s true a = named_so option.Analyses a (rw (t, w, s, a) at is)
    go false t false w false s false a = let none = rw (t, w, s, a) at is in cc

-- what a token says of its word
abbrev pub Says : Bytes → Token → Type 0
Says word (name, None) = (takes name ≡ true) × (word ≡ called name)
Says word (option.Threads, Some value) = word ≡ called option.Threads
Says word (name, Some value) = word ≡ called name ++ codes "=" ++ value

-- the token of a word says what the word is
pub token_of-says : (word : Bytes) (token : Token) → token_of word ≡ Some token → Says word token
unfolding token_of
token_of-says word token is = go (name_of word) refl (cut_at 61 word) refl is
  where
    alone : (name : Name) → word ≡ called name → Says word (named name)
    alone option.Threads word_is = word_is
    alone option.Workers word_is = (refl, word_is)
    alone option.Size word_is = (refl, word_is)
    alone option.Analyses word_is = (refl, word_is)

    with_value : (name : Option Name) (before value : Bytes) → name_of before ≡ name → word ≡ before ++ 61 ∷ value → joined_by name value ≡ Some token → Says word token
    with_value None before value found word_is said = cc
    with_value (Some option.Threads) before value found word_is said = cc
    with_value (Some option.Workers) before value found word_is said =
        let same : ◌≡◌ {A = Token} (option.Workers, Some value) token = cc in
        subst (Says word) same (word_is ∙ ap (λ (b : Bytes). b ++ 61 ∷ value) (name_of-called before option.Workers found))
    with_value (Some option.Size) before value found word_is said =
        let same : ◌≡◌ {A = Token} (option.Size, Some value) token = cc in
        subst (Says word) same (word_is ∙ ap (λ (b : Bytes). b ++ 61 ∷ value) (name_of-called before option.Size found))
    with_value (Some option.Analyses) before value found word_is said =
        let same : ◌≡◌ {A = Token} (option.Analyses, Some value) token = cc in
        subst (Says word) same (word_is ∙ ap (λ (b : Bytes). b ++ 61 ∷ value) (name_of-called before option.Analyses found))

    go : (name : Option Name) → name_of word ≡ name → (cut : Option (Bytes × Bytes)) → cut_at 61 word ≡ cut → token_by (name_of word) (cut_at 61 word) ≡ Some token
        → Says word token
    go (Some name) found cut e said =
        let token_is : Some (named name) ≡ Some token = rw found at said in
        let same : named name ≡ token = cc in
        subst (Says word) same (alone name (name_of-called word name found))
    go None found None e said = let none = rw (found, e) at said in cc
    go None found (Some p) e said =
        with_value (name_of p.0) p.0 p.1 refl (cut_at-gives 61 word p.0 p.1 e).0 (rw (found, e) at said)

-- What is told is spelled

-- a value that is counted spells a number from 1 to the greatest one
pub count-of : (greatest : ℕ) (value : Bytes) → is_count greatest value ≡ true
    → (number_of value ≡ Some (unwrap_or (number_of value) 0)) × (1 ≤ unwrap_or (number_of value) 0) × (unwrap_or (number_of value) 0 ≤ greatest)
count-of greatest value is = go (number_of value) is
  where
    go : (o : Option ℕ) → option_map_or (λ n. nat_le 1 n && nat_le n greatest) o false ≡ true
        → (o ≡ Some (unwrap_or o 0)) × (1 ≤ unwrap_or o 0) × (unwrap_or o 0 ≤ greatest)
    go None is = cc
    go (Some n) is =
        let parts = both (nat_le 1 n) (nat_le n greatest) is in
        let least = parts.0 in
        let most = parts.1 in
        (refl, grind (arith, nat_tests), grind (arith, nat_tests))

-- the analyses of a value that says some
pub listed : (value : Bytes) → is_some (specs_within 4 value) ≡ true → specs_within 4 value ≡ Some (unwrap_or (specs_within 4 value) [])
listed value is = go (specs_within 4 value) is
  where
    go : (o : Option (List Spec)) → is_some o ≡ true → o ≡ Some (unwrap_or o [])
    go None is = cc
    go (Some specs) is = refl

-- an option with its value
spells-value : (name : Name) (value : Bytes) (own : List Bytes) → takes name ≡ true → passes name value ≡ true → IsSpelled (called name) value own
    → Spells (choice_of (name, value)) own
spells-value option.Threads value own valued is spelled = cc
spells-value option.Workers value own valued is spelled =
    let count = count-of 64 value is in
    record { value = value; spelled = spelled; number = count.0; some = count.1; most = count.2 }
spells-value option.Size value own valued is spelled =
    let count = count-of 1000000 value is in
    record { value = value; spelled = spelled; number = count.0; some = count.1; most = count.2 }
spells-value option.Analyses value own valued is spelled =
    record { value = value; spelled = spelled; named = read_list value (unwrap_or (specs_within 4 value) []) (listed value is) }

-- the words with the name of the option that waits
abbrev pub with_waiting : Option Name → List Bytes → List Bytes
with_waiting None words = words
with_waiting (Some name) words = called name ∷ words

-- an option that waits takes a value
abbrev pub Waits : Option Name → Type 0
Waits None = Unit {0}
Waits (Some name) = takes name ≡ true

-- one option in one word, and then the others
one_word : (name : Name) (value word : Bytes) (ts : List Told) (words : List Bytes) → Says word (name, Some value) → passes name value ≡ true
    → SpellAll (map choice_of ts) words → SpellAll (choice_of (name, value) ∷ map choice_of ts) (word ∷ words)
one_word option.Threads value word ts words says is rest = (word ∷ [], words, ap (λ (w : Bytes). w ∷ []) says, refl, rest)
one_word option.Workers value word ts words says is rest =
    (word ∷ [], words, spells-value option.Workers value (word ∷ []) refl is (inr (ap (λ (w : Bytes). w ∷ []) says)), refl, rest)
one_word option.Size value word ts words says is rest =
    (word ∷ [], words, spells-value option.Size value (word ∷ []) refl is (inr (ap (λ (w : Bytes). w ∷ []) says)), refl, rest)
one_word option.Analyses value word ts words says is rest =
    (word ∷ [], words, spells-value option.Analyses value (word ∷ []) refl is (inr (ap (λ (w : Bytes). w ∷ []) says)), refl, rest)

-- what words tell is what they spell
pub tell-spells : (words : List Bytes) (waiting : Option Name) (ts : List Told) → tell words waiting ≡ Some ts → AllByRecursion Passes ts → Waits waiting
    → SpellAll (map choice_of ts) (with_waiting waiting words)
unfolding tell
tell-spells [] None [] said pass waits = refl
tell-spells [] None (t ∷ ts) said pass waits = cc
tell-spells [] (Some name) ts said pass waits = cc
tell-spells (word ∷ words) (Some name) ts said pass waits = go (tell words None) refl (λ rest. tell-spells words None rest) said
  where
    go : (o : Option (List Told)) → tell words None ≡ o
        → ((rest : List Told) → tell words None ≡ Some rest → AllByRecursion Passes rest → Waits None → SpellAll (map choice_of rest) words)
        → told (name, word) (tell words None) ≡ Some ts → SpellAll (map choice_of ts) (called name ∷ word ∷ words)
    go None found next is = let none = rw found at is in cc
    go (Some rest) found next is =
        let whole : ◌≡◌ {A = Option (List Told)} (Some ((name, word) ∷ rest)) (Some ts) = rw found at is in
        let same : (name, word) ∷ rest ≡ ts = cc in
        let passing = subst (AllByRecursion Passes) (sym same) pass in
        subst (λ (us : List Told). SpellAll (map choice_of us) (called name ∷ word ∷ words)) same
        (called name ∷ word ∷ [], words, spells-value name word (called name ∷ word ∷ []) waits passing.0 (inl refl), refl, next rest found passing.1 tt)
tell-spells (word ∷ words) None ts said pass waits = go (token_of word) refl (tell words None) refl (λ waiting rest. tell-spells words waiting rest) said
  where
    go : (token : Option Token) → token_of word ≡ token → (o : Option (List Told)) → tell words None ≡ o
        → ((waiting : Option Name) (rest : List Told) → tell words waiting ≡ Some rest → AllByRecursion Passes rest → Waits waiting
        → SpellAll (map choice_of rest) (with_waiting waiting words))
        → told_behind (token_of word) (tell words) ≡ Some ts → SpellAll (map choice_of ts) (word ∷ words)
    go None found o e next is = let none = rw found at is in cc
    go (Some (name, None)) found o e next is =
        let says = token_of-says word (name, None) found in
        let rest = next (Some name) ts (rw found at is) pass says.0 in
        rw says.1 rest
    go (Some (name, Some value)) found None e next is = let none = rw (found, e) at is in cc
    go (Some (name, Some value)) found (Some rest) e next is =
        let whole : ◌≡◌ {A = Option (List Told)} (Some ((name, value) ∷ rest)) (Some ts) = rw (found, e) at is in
        let same : (name, value) ∷ rest ≡ ts = cc in
        let passing = subst (AllByRecursion Passes) (sym same) pass in
        subst (λ (us : List Told). SpellAll (map choice_of us) (word ∷ words)) same
        (one_word name value word rest words (token_of-says word (name, Some value) found) passing.0 (next None rest e passing.1 tt))

-- What is spelled is told

-- an option that is told is this one
abbrev pub Tells : Told → Choice → Type 0
Tells (option.Threads, value) Threads = Unit {0}
Tells (option.Workers, value) (Workers n) = (number_of value ≡ Some n) × (1 ≤ n) × (n ≤ 64)
Tells (option.Size, value) (Size n) = (number_of value ≡ Some n) × (1 ≤ n) × (n ≤ 1000000)
Tells (option.Analyses, value) (Analyses specs) = IsAnalysisList value specs
Tells t said = ⊥

-- the name of an option that takes a value is its token
token-called : (name : Name) → takes name ≡ true → token_of (called name) ≡ Some (name, None)
unfolding token_of name_of
token-called option.Threads valued = cc
token-called option.Workers valued = refl
token-called option.Size valued = refl
token-called option.Analyses valued = refl

-- no name has a `=`
called-lacks : (name : Name) → Lacks 61 (called name)
called-lacks option.Threads = (refl, (refl, (refl, (refl, (refl, (refl, (refl, (refl, (refl, tt)))))))))
called-lacks option.Workers = (refl, (refl, (refl, (refl, (refl, (refl, (refl, (refl, (refl, tt)))))))))
called-lacks option.Size = (refl, (refl, (refl, (refl, (refl, (refl, tt))))))
called-lacks option.Analyses = (refl, (refl, (refl, (refl, (refl, (refl, (refl, (refl, (refl, (refl, tt))))))))))

-- a name, a `=` and a value are a token
token-joined : (name : Name) (value : Bytes) → takes name ≡ true → token_of (called name ++ codes "=" ++ value) ≡ Some (name, Some value)
unfolding token_of name_of
token-joined option.Threads value valued = cc
token-joined option.Workers value valued = rw (cut_at-first 61 (codes "--workers") value (called-lacks option.Workers)) refl
token-joined option.Size value valued = rw (cut_at-first 61 (codes "--size") value (called-lacks option.Size)) refl
token-joined option.Analyses value valued = rw (cut_at-first 61 (codes "--analyses") value (called-lacks option.Analyses)) refl

-- `--threads` in front of other words
tell-threads : (rest : List Bytes) (ts : List Told) → tell rest None ≡ Some ts → tell (codes "--threads" ∷ rest) None ≡ Some ((option.Threads, []) ∷ ts)
unfolding tell token_of name_of
tell-threads rest ts said = rw said refl

-- an option with its value, in two words or in one
tell-spelled : (name : Name) (value : Bytes) (own rest words : List Bytes) (ts : List Told) → takes name ≡ true → IsSpelled (called name) value own
    → words ≡ own ++ rest → tell rest None ≡ Some ts → tell words None ≡ Some ((name, value) ∷ ts)
unfolding tell
tell-spelled name value own rest words ts valued (inl two) whole said = rw (whole, two, token-called name valued, said) refl
tell-spelled name value own rest words ts valued (inr one) whole said = rw (whole, one, token-joined name value valued, said) refl

-- what words tell, for the options that they spell
pub record IsTold (words : List Bytes) (choices : List Choice) : Type 0 where
  pub ts : List Told
  pub said : tell words None ≡ Some ts
  pub tells : EachPair Tells ts choices

-- what words spell is what they tell
pub spells-tell : (choices : List Choice) (words : List Bytes) → SpellAll choices words → IsTold words choices
unfolding tell
spells-tell [] words spelled = record { ts = []; said = rw spelled refl; tells = tt }
spells-tell (Threads ∷ choices) words spelled =
    let more = spells-tell choices spelled.1 spelled.4 in
    record {
      ts = (option.Threads, []) ∷ more.ts;
      said = rw (spelled.3, spelled.2) (tell-threads spelled.1 more.ts more.said);
      tells = (tt, more.tells);
    }
spells-tell (Workers n ∷ choices) words spelled =
    let more = spells-tell choices spelled.1 spelled.4 in
    let own = spelled.2 in
    record {
      ts = (option.Workers, own.value) ∷ more.ts;
      said = tell-spelled option.Workers own.value spelled.0 spelled.1 words more.ts refl own.spelled spelled.3 more.said;
      tells = ((own.number, own.some, own.most), more.tells);
    }
spells-tell (Size n ∷ choices) words spelled =
    let more = spells-tell choices spelled.1 spelled.4 in
    let own = spelled.2 in
    record {
      ts = (option.Size, own.value) ∷ more.ts;
      said = tell-spelled option.Size own.value spelled.0 spelled.1 words more.ts refl own.spelled spelled.3 more.said;
      tells = ((own.number, own.some, own.most), more.tells);
    }
spells-tell (Analyses specs ∷ choices) words spelled =
    let more = spells-tell choices spelled.1 spelled.4 in
    let own = spelled.2 in
    record {
      ts = (option.Analyses, own.value) ∷ more.ts;
      said = tell-spelled option.Analyses own.value spelled.0 spelled.1 words more.ts refl own.spelled spelled.3 more.said;
      tells = (own.named, more.tells);
    }
