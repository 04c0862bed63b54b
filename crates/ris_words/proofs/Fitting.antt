-- Options that fit behind one another are of the command, stand once each, and miss nothing.
use Rattle.std.proofs.Common.{◌≡◌, ℕ, zero, suc, Bool, true, false, not, ◌&&◌, ◌||◌, List, [], ◌∷◌, map, is_some, refl, sym, ◌∙◌, arith}
use Rattle.std.specs.List.{All, AllByRecursion, list_all}
use Rattle.std.proofs.lemmas.List.Kept.{AllPairs-cons}
use Rattle.ris_base.specs.CommandLine.{Choice, AreOnce, is_same_option, is_of_replay, is_of_demo, analyses_said}
use Rattle.ris_words.specs.Tokens.{Told, is_of, has, with_name, fits, is_complete, all_fit, passes}
use Rattle.ris_words.specs.declared.options.Name.{Name}
use Rattle.ris_words.specs.declared.options.Name.TheVariants as option
use Rattle.ris_words.specs.declared.options.Seen.{Seen}
use Rattle.ris_words.specs.declared.options.Verb.{Verb}
use Rattle.ris_words.specs.declared.options.Verb.TheVariants.{Replay, Demo}
use Rattle.ris_words.proofs.ItemLemmas.{both}
use Rattle.ris_words.proofs.Telling.{choice_of, Passes}

-- whether an option is one of a command
abbrev pub is_own : Verb → Choice → Bool
is_own Replay = is_of_replay
is_own Demo = is_of_demo

-- an option is of a command by its name
own-name : (verb : Verb) (name : Name) (value : List ℕ) → is_own verb (choice_of (name, value)) ≡ is_of verb name
own-name Replay option.Threads value = refl
own-name Replay option.Workers value = refl
own-name Replay option.Size value = refl
own-name Replay option.Analyses value = refl
own-name Demo option.Threads value = refl
own-name Demo option.Workers value = refl
own-name Demo option.Size value = refl
own-name Demo option.Analyses value = refl

-- what wasn't told with an option more has another name, and wasn't told before
differs : (name other : Name) (value behind : List ℕ) (seen : Seen) → has other (with_name name seen) ≡ false → is_same_option (choice_of (name, value)) (choice_of (other, behind)) ≡ false
differs option.Threads option.Threads value behind seen is = cc
differs option.Threads option.Workers value behind seen is = refl
differs option.Threads option.Size value behind seen is = refl
differs option.Threads option.Analyses value behind seen is = refl
differs option.Workers option.Threads value behind seen is = refl
differs option.Workers option.Workers value behind seen is = cc
differs option.Workers option.Size value behind seen is = refl
differs option.Workers option.Analyses value behind seen is = refl
differs option.Size option.Threads value behind seen is = refl
differs option.Size option.Workers value behind seen is = refl
differs option.Size option.Size value behind seen is = cc
differs option.Size option.Analyses value behind seen is = refl
differs option.Analyses option.Threads value behind seen is = refl
differs option.Analyses option.Workers value behind seen is = refl
differs option.Analyses option.Size value behind seen is = refl
differs option.Analyses option.Analyses value behind seen is = cc

-- what wasn't told with one option more wasn't told before
unseen : (name other : Name) (seen : Seen) → has other (with_name name seen) ≡ false → has other seen ≡ false
unseen option.Threads option.Threads seen is = cc
unseen option.Threads option.Workers seen is = is
unseen option.Threads option.Size seen is = is
unseen option.Threads option.Analyses seen is = is
unseen option.Workers option.Threads seen is = is
unseen option.Workers option.Workers seen is = cc
unseen option.Workers option.Size seen is = is
unseen option.Workers option.Analyses seen is = is
unseen option.Size option.Threads seen is = is
unseen option.Size option.Workers seen is = is
unseen option.Size option.Size seen is = cc
unseen option.Size option.Analyses seen is = is
unseen option.Analyses option.Threads seen is = is
unseen option.Analyses option.Workers seen is = is
unseen option.Analyses option.Size seen is = is
unseen option.Analyses option.Analyses seen is = cc

-- and what has another name and wasn't told before isn't told with the option more
still-unseen : (name other : Name) (value behind : List ℕ) (seen : Seen) → is_same_option (choice_of (name, value)) (choice_of (other, behind)) ≡ false → has other seen ≡ false
    → has other (with_name name seen) ≡ false
still-unseen option.Threads option.Threads value behind seen differ is = cc
still-unseen option.Threads option.Workers value behind seen differ is = is
still-unseen option.Threads option.Size value behind seen differ is = is
still-unseen option.Threads option.Analyses value behind seen differ is = is
still-unseen option.Workers option.Threads value behind seen differ is = is
still-unseen option.Workers option.Workers value behind seen differ is = cc
still-unseen option.Workers option.Size value behind seen differ is = is
still-unseen option.Workers option.Analyses value behind seen differ is = is
still-unseen option.Size option.Threads value behind seen differ is = is
still-unseen option.Size option.Workers value behind seen differ is = is
still-unseen option.Size option.Size value behind seen differ is = cc
still-unseen option.Size option.Analyses value behind seen differ is = is
still-unseen option.Analyses option.Threads value behind seen differ is = is
still-unseen option.Analyses option.Workers value behind seen differ is = is
still-unseen option.Analyses option.Size value behind seen differ is = is
still-unseen option.Analyses option.Analyses value behind seen differ is = cc

-- Nothing is missing

-- whether nothing is missing behind these options with these
abbrev pub is_full : Verb → Seen → List Choice → Bool
is_full Replay seen choices = seen.analyses || is_some (analyses_said choices)
is_full Demo seen choices = true

-- `false` adds nothing
pub or-false : (b : Bool) → (b || false) ≡ b
or-false true = refl
or-false false = refl

-- `true` is enough
pub or-true : (b : Bool) → (b || true) ≡ true
or-true true = refl
or-true false = refl

-- nothing is missing at the end where nothing is missing
full-end : (verb : Verb) (seen : Seen) → is_full verb seen [] ≡ is_complete verb seen
unfolding analyses_said
full-end Replay seen = or-false seen.analyses
full-end Demo seen = refl

-- nothing is missing with one option more where nothing is missing with it told
full-more : (verb : Verb) (seen : Seen) (name : Name) (value : List ℕ) (choices : List Choice)
    → is_full verb (with_name name seen) choices ≡ is_full verb seen (choice_of (name, value) ∷ choices)
unfolding analyses_said
full-more Replay seen option.Threads value choices = refl
full-more Replay seen option.Workers value choices = refl
full-more Replay seen option.Size value choices = refl
full-more Replay seen option.Analyses value choices = sym (or-true seen.analyses)
full-more Demo seen name value choices = refl

-- What fits

-- no two options of a list have the same name
abbrev pub Once : List Choice → Type 0
Once [] = Unit {0}
Once (said ∷ choices) = AllByRecursion (λ later. is_same_option said later ≡ false) choices × Once choices

-- options with right values, which are of the command, stand once each, weren't told before, and miss nothing
pub record AreFit (verb : Verb) (seen : Seen) (ts : List Told) : Type 0 where
  pub pass : AllByRecursion Passes ts
  pub own : list_all (is_own verb) (map choice_of ts) ≡ true
  pub once : Once (map choice_of ts)
  pub fresh : AllByRecursion (λ (t : Told). has t.0 seen ≡ false) ts
  pub full : is_full verb seen (map choice_of ts) ≡ true

-- options that weren't told after this one differ from it
others-differ : (name : Name) (value : List ℕ) (seen : Seen) (ts : List Told) → AllByRecursion (λ (t : Told). has t.0 (with_name name seen) ≡ false) ts
    → AllByRecursion (λ later. is_same_option (choice_of (name, value)) later ≡ false) (map choice_of ts)
others-differ name value seen [] fresh = tt
others-differ name value seen ((other, behind) ∷ ts) fresh = (differs name other value behind seen fresh.0, others-differ name value seen ts fresh.1)

-- options that weren't told after this one weren't told before it
others-unseen : (name : Name) (seen : Seen) (ts : List Told) → AllByRecursion (λ (t : Told). has t.0 (with_name name seen) ≡ false) ts
    → AllByRecursion (λ (t : Told). has t.0 seen ≡ false) ts
others-unseen name seen [] fresh = tt
others-unseen name seen ((other, behind) ∷ ts) fresh = (unseen name other seen fresh.0, others-unseen name seen ts fresh.1)

-- options that differ from this one and weren't told before it weren't told after it
others-fresh : (name : Name) (value : List ℕ) (seen : Seen) (ts : List Told)
    → AllByRecursion (λ later. is_same_option (choice_of (name, value)) later ≡ false) (map choice_of ts)
    → AllByRecursion (λ (t : Told). has t.0 seen ≡ false) ts → AllByRecursion (λ (t : Told). has t.0 (with_name name seen) ≡ false) ts
others-fresh name value seen [] differ fresh = tt
others-fresh name value seen ((other, behind) ∷ ts) differ fresh =
    (still-unseen name other value behind seen differ.0 fresh.0, others-fresh name value seen ts differ.1 fresh.1)

-- what is not true is false
pub not-true : (b : Bool) → not b ≡ true → b ≡ false
not-true true is = cc
not-true false is = refl

-- options that all fit are as they should be
pub fit : (verb : Verb) (seen : Seen) (ts : List Told) → all_fit verb seen ts ≡ true → AreFit verb seen ts
fit verb seen [] is = record { pass = tt; own = refl; once = tt; fresh = tt; full = full-end verb seen ∙ is }
fit verb seen ((name, value) ∷ ts) is =
    let parts = both (fits verb seen name value) (all_fit verb (with_name name seen) ts) is in
    let of_command = both (is_of verb name) (not (has name seen) && passes name value) parts.0 in
    let right = both (not (has name seen)) (passes name value) of_command.1 in
    let rest = fit verb (with_name name seen) ts parts.1 in
    record {
      pass = (right.1, rest.pass);
      own = rw (own-name verb name value, of_command.0) rest.own;
      once = (others-differ name value seen ts rest.fresh, rest.once);
      fresh = (not-true (has name seen) right.0, others-unseen name seen ts rest.fresh);
      full = sym (full-more verb seen name value (map choice_of ts)) ∙ rest.full;
    }

-- and options that are as they should be all fit
pub fit-of : (verb : Verb) (seen : Seen) (ts : List Told) → AreFit verb seen ts → all_fit verb seen ts ≡ true
fit-of verb seen [] are = sym (full-end verb seen) ∙ are.full
fit-of verb seen ((name, value) ∷ ts) are =
    let own = both (is_own verb (choice_of (name, value))) (list_all (is_own verb) (map choice_of ts)) are.own in
    let rest : AreFit verb (with_name name seen) ts = record {
      pass = are.pass.1;
      own = own.1;
      once = are.once.1;
      fresh = others-fresh name value seen ts are.once.0 are.fresh.1;
      full = full-more verb seen name value (map choice_of ts) ∙ are.full;
    } in
    let of_command : is_of verb name ≡ true = sym (own-name verb name value) ∙ own.0 in
    rw (of_command, are.fresh.0, are.pass.0, fit-of verb (with_name name seen) ts rest) refl

-- The two ways to say that options stand once

-- what holds of all items by recursion holds at each place
all-places : {X : Type 0} (P : X → Type 0) (xs : List X) → AllByRecursion P xs → All P xs
all-places P [] all k d within = absurd (omega arith)
all-places P (x ∷ xs) all zero d within = all.0
all-places P (x ∷ xs) all (suc k) d within = all-places P xs all.1 k d (omega arith)

-- and the other way round
places-all : {X : Type 0} (P : X → Type 0) (xs : List X) → All P xs → AllByRecursion P xs
places-all P [] all = tt
places-all P (x ∷ xs) all = (all 0 x (omega arith), places-all P xs (λ k d within. all (suc k) d (omega arith)))

-- options that stand once, by pairs
pub once-pairs : (choices : List Choice) → Once choices → AreOnce choices
once-pairs [] once = λ i j d before within. absurd (omega arith)
once-pairs (said ∷ choices) once =
    AllPairs-cons (λ one later. is_same_option one later ≡ false) said choices
    (all-places (λ later. is_same_option said later ≡ false) choices once.0) (once-pairs choices once.1)

-- and the other way round
pub pairs-once : (choices : List Choice) → AreOnce choices → Once choices
pairs-once [] pairs = tt
pairs-once (said ∷ choices) pairs = (
  places-all (λ later. is_same_option said later ≡ false) choices (λ k d within. pairs 0 (suc k) d (omega arith) (omega arith)),
  pairs-once choices (λ i j d before within. pairs (suc i) (suc j) d (omega arith) (omega arith)),
)
