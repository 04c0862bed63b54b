-- Words are taken as options one by one.
use Rattle.std.proofs.Common.{◌≡◌, ◌≤◌, ◌+◌, ℕ, length, drop, slice_get, Bool, true, false, ◌&&◌, List, [], ◌∷◌, Option, Some, None, is_some, refl, sym, ap, ◌∙◌}
use Rattle.std.specs.Option.{option_map_or}
use Rattle.std.proofs.lemmas.List.{drop_all, drop_more}
use Rattle.std.proofs.lemmas.Option.{slice_get_within, get_or_from_slice_get}
use Rattle.ris_base.specs.Script.{Bytes}
use Rattle.ris_words.specs.Tokens.{Told, told, token_behind, tell, fits, with_name, is_complete, all_fit, accepts}
use Rattle.ris_words.specs.declared.options.Name.{Name}
use Rattle.ris_words.specs.declared.options.Verb.{Verb}
use Rattle.ris_words.specs.declared.options.Seen.{Seen}

-- a word that says nothing
pub accepts-not : (verb : Verb) (seen : Seen) (waiting : Option Name) (word : Bytes) (words : List Bytes) → token_behind waiting word ≡ None
    → accepts verb seen waiting (word ∷ words) ≡ false
unfolding tell
accepts-not verb seen waiting word words is = rw is refl

-- the name of an option whose value is the next word
pub accepts-name : (verb : Verb) (seen : Seen) (waiting : Option Name) (word : Bytes) (words : List Bytes) (name : Name)
    → token_behind waiting word ≡ Some (name, None) → accepts verb seen waiting (word ∷ words) ≡ accepts verb seen (Some name) words
unfolding tell
accepts-name verb seen waiting word words name is = rw is refl

-- an option that fits, or that doesn't
pub accepts-value : (verb : Verb) (seen : Seen) (waiting : Option Name) (word : Bytes) (words : List Bytes) (name : Name) (value : Bytes)
    → token_behind waiting word ≡ Some (name, Some value)
    → accepts verb seen waiting (word ∷ words) ≡ (fits verb seen name value && accepts verb (with_name name seen) None words)
unfolding tell
accepts-value verb seen waiting word words name value is = rw is (go (tell words None))
  where
    and-false : (b : Bool) → (b && false) ≡ false
    and-false true = refl
    and-false false = refl

    go : (rest : Option (List Told))
        → option_map_or (all_fit verb seen) (told (name, value) rest) false
        ≡ (fits verb seen name value && option_map_or (all_fit verb (with_name name seen)) rest false)
    go None = sym (and-false (fits verb seen name value))
    go (Some rest) = refl

-- no words, where an option waits or none does
accepts-waiting : (verb : Verb) (seen : Seen) (waiting : Option Name) → is_some waiting ≡ true → accepts verb seen waiting [] ≡ false
unfolding tell
accepts-waiting verb seen None is = cc
accepts-waiting verb seen (Some name) is = refl

-- no words, where none waits: nothing may be missing
accepts-done : (verb : Verb) (seen : Seen) (waiting : Option Name) → is_some waiting ≡ false → accepts verb seen waiting [] ≡ is_complete verb seen
unfolding tell
accepts-done verb seen None is = refl
accepts-done verb seen (Some name) is = cc

-- what is left from a place with an item on begins with the item
pub drop-at : {X : Type 0} (xs : List X) (k : ℕ) (x : X) → slice_get xs k ≡ Some x → drop k xs ≡ x ∷ drop (k + 1) xs
drop-at {X} xs k x is =
    drop_more xs k x (slice_get_within xs k x is) ∙ ap (λ (y : X). y ∷ drop (k + 1) xs) (get_or_from_slice_get xs k x x is)

-- the same of the words from a place on
pub at-not : (verb : Verb) (seen : Seen) (waiting : Option Name) (words : List Bytes) (k : ℕ) (word : Bytes) → slice_get words k ≡ Some word
    → token_behind waiting word ≡ None → accepts verb seen waiting (drop k words) ≡ false
at-not verb seen waiting words k word here is = rw (drop-at words k word here) (accepts-not verb seen waiting word (drop (k + 1) words) is)

-- an option's name at a place
pub at-name : (verb : Verb) (seen : Seen) (waiting : Option Name) (words : List Bytes) (k : ℕ) (word : Bytes) (name : Name) → slice_get words k ≡ Some word
    → token_behind waiting word ≡ Some (name, None) → accepts verb seen waiting (drop k words) ≡ accepts verb seen (Some name) (drop (k + 1) words)
at-name verb seen waiting words k word name here is = rw (drop-at words k word here) (accepts-name verb seen waiting word (drop (k + 1) words) name is)

-- an option with its value at a place
pub at-value : (verb : Verb) (seen : Seen) (waiting : Option Name) (words : List Bytes) (k : ℕ) (word : Bytes) (name : Name) (value : Bytes)
    → slice_get words k ≡ Some word → token_behind waiting word ≡ Some (name, Some value)
    → accepts verb seen waiting (drop k words) ≡ (fits verb seen name value && accepts verb (with_name name seen) None (drop (k + 1) words))
at-value verb seen waiting words k word name value here is =
    rw (drop-at words k word here) (accepts-value verb seen waiting word (drop (k + 1) words) name value is)

-- the end, where an option waits
pub at-end_waiting : (verb : Verb) (seen : Seen) (waiting : Option Name) (words : List Bytes) (k : ℕ) → length words ≤ k → is_some waiting ≡ true
    → accepts verb seen waiting (drop k words) ≡ false
at-end_waiting verb seen waiting words k past is = rw (drop_all k words past) (accepts-waiting verb seen waiting is)

-- the end, where none waits
pub at-end_done : (verb : Verb) (seen : Seen) (waiting : Option Name) (words : List Bytes) (k : ℕ) → length words ≤ k → is_some waiting ≡ false
    → accepts verb seen waiting (drop k words) ≡ is_complete verb seen
at-end_done verb seen waiting words k past is = rw (drop_all k words past) (accepts-done verb seen waiting is)
