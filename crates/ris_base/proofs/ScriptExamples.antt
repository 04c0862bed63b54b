-- What the definition of a script says of a few lists of records.
use Rattle.std.proofs.Common.{◌≡◌, [], ◌∷◌, Ok, Err, refl, codes}
use Rattle.ris_base.specs.Graph.{triple}
use Rattle.ris_base.specs.Lists.{numbers_below}
use Rattle.ris_base.specs.Number.{number_of}
use Rattle.ris_base.specs.Script.{Fields, base_of, cause_of, commands_behind, first_fault, header_of, newest_first, open_parts, saying_of, script_of_records, word_of}
use Rattle.ris_base.specs.declared.commands.Command.TheVariants.{Change, Value}
use Rattle.ris_base.specs.declared.commands.Version.TheVariants.{Last}
use Rattle.ris_base.specs.declared.graphs.Format.TheVariants.{One}
use Rattle.ris_base.specs.declared.scripts.Cause.TheVariants.{Close, Op, Parts}
use Rattle.ris_base.specs.declared.updates.Update.TheVariants.{AddE, AddV, DelV}

-- `risgraph,1,2,1`
abbrev header : Fields
header = codes "risgraph" ∷ codes "1" ∷ codes "2" ∷ codes "1" ∷ []

-- `0,begin` and `0,commit`
abbrev begin : Fields
begin = codes "0" ∷ codes "begin" ∷ []

abbrev commit : Fields
commit = codes "0" ∷ codes "commit" ∷ []

-- `0,adde,0,1,1`
abbrev edge : Fields
edge = codes "0" ∷ codes "adde" ∷ codes "0" ∷ codes "1" ∷ codes "1" ∷ []

-- a transaction that stands open at the end is a fault at the last record
left-open : script_of_records 1 (header ∷ begin ∷ edge ∷ []) ≡ Err (record { number = 3; cause = Close })
unfolding script_of_records header_of first_fault cause_of newest_first number_of word_of saying_of open_parts numbers_below
left-open = refl

-- a commit with nothing open
nothing-open : script_of_records 1 (header ∷ commit ∷ []) ≡ Err (record { number = 2; cause = Close })
unfolding script_of_records header_of first_fault cause_of number_of word_of saying_of open_parts
nothing-open = refl

-- a commit of no part
no-part : script_of_records 1 (header ∷ begin ∷ commit ∷ []) ≡ Err (record { number = 3; cause = Parts })
unfolding script_of_records header_of first_fault cause_of number_of word_of saying_of open_parts
no-part = refl

-- no word
no-word : script_of_records 1 (header ∷ (codes "0" ∷ codes "frob" ∷ codes "1" ∷ []) ∷ []) ≡ Err (record { number = 2; cause = Op })
unfolding script_of_records header_of first_fault cause_of number_of word_of saying_of open_parts
no-word = refl

-- a word of format 2 in format 1
other-format : script_of_records 1 (header ∷ (codes "0" ∷ codes "setw" ∷ codes "0" ∷ codes "1" ∷ codes "1" ∷ codes "2" ∷ []) ∷ [])
    ≡ Err (record { number = 2; cause = Op })
unfolding script_of_records header_of first_fault cause_of number_of word_of saying_of open_parts
other-format = refl

-- a whole script: a base triple, an update, a transaction of two parts and a read
whole : script_of_records 1 (header ∷ (codes "base" ∷ codes "1" ∷ codes "0" ∷ codes "7" ∷ []) ∷ edge
    ∷ begin ∷ (codes "0" ∷ codes "addv" ∷ codes "9" ∷ []) ∷ (codes "0" ∷ codes "delv" ∷ codes "3" ∷ []) ∷ commit
    ∷ (codes "0" ∷ codes "value" ∷ codes "last" ∷ codes "0" ∷ codes "1" ∷ []) ∷ [])
    ≡ Ok (record {
      format = One;
      vertices = 2;
      sessions = 1;
      base = triple 1 0 7 ∷ [];
      commands = (Change (AddE 0 1 1 ∷ []) ∷ Change (AddV 9 ∷ DelV 3 ∷ []) ∷ Value Last 0 1 ∷ []) ∷ [];
    })
unfolding script_of_records header_of first_fault cause_of newest_first number_of word_of saying_of open_parts numbers_below base_of commands_behind
whole = refl
