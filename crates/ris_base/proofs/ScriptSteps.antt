-- What the records of a script say, from one record to the next: in order, and the newest first.
use Rattle.std.proofs.Common.{◌≡◌, ℕ, List, [], ◌∷◌, ◌++◌, reverse, Option, Some, None, refl, ap, sym, ◌∙◌, append_assoc}
use Rattle.std.specs.List.{cons_option, filter_map}
use Rattle.std.specs.Option.{option_map}
use Rattle.std.proofs.lemmas.Grind.{reverse_onto}
use Rattle.std.proofs.lemmas.List.{append-nil, reverse-reverse}
use Rattle.std.proofs.lemmas.List.Elements.{filter_map-append}
use Rattle.ris_base.specs.Script.{Fields, Header, Saying, Part, Opens, Closes, Asks, commands_behind, commands_of, newest_first, open_parts, said_by, sayings}
use Rattle.ris_base.specs.declared.commands.Command.{Command}
use Rattle.ris_base.specs.declared.commands.Command.TheVariants.{Change}
use Rattle.ris_base.specs.declared.updates.Update.{Update}

-- one item more at the front is one more behind the reverse
pub reverse-cons : {X : Type 0} (x : X) (xs : List X) → reverse (x ∷ xs) ≡ reverse xs ++ x ∷ []
reverse-cons {X} x xs = reverse_onto xs x []

-- the newest first is the reverse
pub newest_first-reverse : (before records : List Fields) → newest_first before records ≡ reverse records ++ before
unfolding newest_first
newest_first-reverse before [] = refl
newest_first-reverse before (fields ∷ records) =
    newest_first-reverse (fields ∷ before) records
    ∙ sym (append_assoc (reverse records) (fields ∷ []) before)
    ∙ sym (ap (λ (t : List Fields). t ++ before) (reverse-cons fields records))

-- what a function gives of the items in the other order
pub filter_map-reverse : {X Y : Type 0} (h : X → Option Y) (xs : List X) → filter_map h (reverse xs) ≡ reverse (filter_map h xs)
filter_map-reverse {X} {Y} h [] = refl
filter_map-reverse {X} {Y} h (x ∷ xs) =
    ap (λ (t : List X). filter_map h t) (reverse-cons x xs)
    ∙ filter_map-append h (reverse xs) (x ∷ [])
    ∙ ap (λ (t : List Y). t ++ filter_map h (x ∷ [])) (filter_map-reverse h xs)
    ∙ by (h x)
  where
    by : (o : Option Y) → reverse (filter_map h xs) ++ cons_option o [] ≡ reverse (cons_option o (filter_map h xs))
    by None = append-nil (reverse (filter_map h xs))
    by (Some y) = sym (reverse-cons y (filter_map h xs))

-- the parts open behind sayings in order, where those were open before them
open_behind : Option (List Update) → List Saying → Option (List Update)
open_behind open_ [] = open_
open_behind open_ (Part update ∷ sayings) = open_behind (option_map (λ parts. parts ++ update ∷ []) open_) sayings
open_behind open_ (Opens ∷ sayings) = open_behind (Some []) sayings
open_behind open_ (Closes ∷ sayings) = open_behind None sayings
open_behind open_ (Asks asked ∷ sayings) = open_behind open_ sayings

open_behind-append : (open_ : Option (List Update)) (xs ys : List Saying) → open_behind open_ (xs ++ ys) ≡ open_behind (open_behind open_ xs) ys
unfolding open_behind
open_behind-append open_ [] ys = refl
open_behind-append open_ (Part update ∷ xs) ys = open_behind-append (option_map (λ parts. parts ++ update ∷ []) open_) xs ys
open_behind-append open_ (Opens ∷ xs) ys = open_behind-append (Some []) xs ys
open_behind-append open_ (Closes ∷ xs) ys = open_behind-append None xs ys
open_behind-append open_ (Asks asked ∷ xs) ys = open_behind-append open_ xs ys

-- the parts that are open behind all sayings are those by the newest first
open_behind-reverse : (sayings : List Saying) → open_behind None (reverse sayings) ≡ open_parts sayings
unfolding open_behind open_parts
open_behind-reverse [] = refl
open_behind-reverse (saying ∷ sayings) =
    ap (open_behind None) (reverse-cons saying sayings)
    ∙ open_behind-append None (reverse sayings) (saying ∷ [])
    ∙ ap (λ (t : Option (List Update)). open_behind t (saying ∷ [])) (open_behind-reverse sayings)
    ∙ by saying
  where
    by : (one : Saying) → open_behind (open_parts sayings) (one ∷ []) ≡ open_parts (one ∷ sayings)
    by (Part update) = refl
    by Opens = refl
    by Closes = refl
    by (Asks asked) = refl

-- the commands of two lists of sayings, one behind the other
commands_behind-append : (open_ : Option (List Update)) (xs ys : List Saying)
    → commands_behind open_ (xs ++ ys) ≡ commands_behind open_ xs ++ commands_behind (open_behind open_ xs) ys
unfolding commands_behind open_behind
commands_behind-append open_ [] ys = refl
commands_behind-append None (Part update ∷ xs) ys = ap (λ (t : List Command). Change (update ∷ []) ∷ t) (commands_behind-append None xs ys)
commands_behind-append (Some parts) (Part update ∷ xs) ys = commands_behind-append (Some (parts ++ update ∷ [])) xs ys
commands_behind-append None (Opens ∷ xs) ys = commands_behind-append (Some []) xs ys
commands_behind-append (Some parts) (Opens ∷ xs) ys = commands_behind-append (Some []) xs ys
commands_behind-append None (Closes ∷ xs) ys = commands_behind-append None xs ys
commands_behind-append (Some parts) (Closes ∷ xs) ys = ap (λ (t : List Command). Change parts ∷ t) (commands_behind-append None xs ys)
commands_behind-append None (Asks asked ∷ xs) ys = ap (λ (t : List Command). asked ∷ t) (commands_behind-append None xs ys)
commands_behind-append (Some parts) (Asks asked ∷ xs) ys = ap (λ (t : List Command). asked ∷ t) (commands_behind-append (Some parts) xs ys)

-- one saying more makes the commands that it makes of the parts that are open
pub commands_behind-push : (saying : Saying) (sayings : List Saying)
    → commands_behind None (reverse (saying ∷ sayings)) ≡ commands_behind None (reverse sayings) ++ commands_behind (open_parts sayings) (saying ∷ [])
commands_behind-push saying sayings =
    ap (commands_behind None) (reverse-cons saying sayings)
    ∙ commands_behind-append None (reverse sayings) (saying ∷ [])
    ∙ ap (λ (t : Option (List Update)). commands_behind None (reverse sayings) ++ commands_behind t (saying ∷ [])) (open_behind-reverse sayings)

-- a session's commands are those of what it said, the newest first, in the other order
pub commands_of-newest_first : (h : Header) (records : List Fields) (s : ℕ)
    → commands_behind None (reverse (sayings h s (newest_first [] records))) ≡ commands_of h records s
commands_of-newest_first h records s =
    ap (λ (t : List Fields). commands_behind None (reverse (sayings h s t))) (newest_first-reverse [] records ∙ append-nil (reverse records))
    ∙ ap (λ (t : List Saying). commands_behind None (reverse t)) (filter_map-reverse (said_by h s) records)
    ∙ ap (commands_behind None) (reverse-reverse (sayings h s records))
