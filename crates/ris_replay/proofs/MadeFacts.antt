-- A made script has no fault.
use Rattle.std.proofs.Common.{◌≡◌, ◌<◌, ◌≤◌, ℕ, true, List, [], ◌∷◌, ◌++◌, length, map, Some, Ok, arith, refl, subst, ◌∙◌, codes, decimal, nat_lt, nat_le}
use Rattle.std.specs.Fmt.{digits}
use Rattle.std.specs.List.{AllByRecursion, sum_by}
use Rattle.std.proofs.lemmas.Bool.Decides.{nat_tests}
use Rattle.std.proofs.lemmas.List.{length-map, map-append}
use Rattle.ris_base.specs.Number.{number_of}
use Rattle.ris_base.specs.Script.{Asks, Header, Part, base_of, header_of, saying_of, script_of_records, word_of}
use Rattle.ris_base.specs.Transcript.{field_text}
use Rattle.ris_base.specs.Transcript.Field.{Number}
use Rattle.ris_base.specs.declared.commands.Command.TheVariants as command
use Rattle.ris_base.specs.declared.commands.Version.TheVariants.{Last}
use Rattle.ris_base.specs.declared.graphs.Format.TheVariants.{One}
use Rattle.ris_base.specs.declared.graphs.Triple.{Triple}
use Rattle.ris_base.specs.declared.scripts.Script.{Script}
use Rattle.ris_base.specs.declared.updates.Update.TheVariants.{AddE, AddV, DelE}
use Rattle.ris_script.specs.Bytes.{script_of}
use Rattle.ris_script.proofs.PlainText.{IsPlain, IsPlainLine, decimal-plain, number_of-decimal, script_of-lines}
use Rattle.ris_script.proofs.QuietScripts.{IsBase, IsSaid, quiet-script}
use Rattle.ris_words.specs.Made.{base_fields, edge_fields, first_record, made_script}
use Rattle.ris_words.proofs.MadeLimits.{Adds, Comes, IsSmall, IsWithin, Modified, Removes, Said, Spoken, Value, made_records-are, said_fields, spoken_fields}

-- the header of a made script
abbrev made_header : Header
made_header = record { format = One; vertices = 1000; sessions = 8 }

header_of-first : header_of (map field_text first_record) ≡ Some made_header
unfolding header_of number_of digits
header_of-first = refl

-- small numbers are plain, and read as what they are
small-plain : (n : ℕ) → n < 1000 → IsPlain (decimal n)
small-plain n small = decimal-plain n (omega arith)

small-read : (n : ℕ) → n < 1000 → number_of (decimal n) ≡ Some n
small-read n small = number_of-decimal n (omega arith)

weight-small : (edge : Triple) → IsSmall edge → edge.weight < 1000
weight-small edge small = let less = small.weight in omega (arith, less)

-- The lines are plain

first-plain : IsPlainLine first_record
unfolding digits
first-plain = (refl, (refl, (refl, (refl, tt))))

edge-plain : (edge : Triple) → IsSmall edge → AllByRecursion IsPlain (map field_text (edge_fields edge))
edge-plain edge small =
    (small-plain edge.source small.source, (small-plain edge.target small.target, (small-plain edge.weight (weight-small edge small), tt)))

base-plain : (edge : Triple) → IsSmall edge → IsPlainLine (base_fields edge)
base-plain edge small = (refl, edge-plain edge small)

said-plain : (said : Said) → IsWithin said → AllByRecursion IsPlain (map field_text (said_fields said))
said-plain (Adds edge) small = (refl, edge-plain edge small)
said-plain (Removes edge) small = (refl, edge-plain edge small)
said-plain (Value analysis vertex) (known, small) = (refl, (refl, (small-plain analysis (omega (arith, known)), (small-plain vertex small, tt))))
said-plain (Modified analysis) known = (refl, (refl, (small-plain analysis (omega (arith, known)), tt)))
said-plain (Comes vertex) small = (refl, (small-plain vertex small, tt))

command-plain : (session : ℕ) (said : Said) → session < 8 → IsWithin said → IsPlainLine (Number session ∷ said_fields said)
command-plain session (Adds edge) listed within = (small-plain session (omega (arith, listed)), said-plain (Adds edge) within)
command-plain session (Removes edge) listed within = (small-plain session (omega (arith, listed)), said-plain (Removes edge) within)
command-plain session (Value analysis vertex) listed within = (small-plain session (omega (arith, listed)), said-plain (Value analysis vertex) within)
command-plain session (Modified analysis) listed within = (small-plain session (omega (arith, listed)), said-plain (Modified analysis) within)
command-plain session (Comes vertex) listed within = (small-plain session (omega (arith, listed)), said-plain (Comes vertex) within)

spoken-plain : (spoken : List Spoken) → AllByRecursion IsPlainLine (map spoken_fields spoken)
spoken-plain [] = tt
spoken-plain (one ∷ spoken) = (command-plain one.session one.said one.listed one.within, spoken-plain spoken)

lines-plain : (edges : List Triple) (spoken : List Spoken) → AllByRecursion IsSmall edges
    → AllByRecursion IsPlainLine (map base_fields edges ++ map spoken_fields spoken)
lines-plain [] spoken all = spoken-plain spoken
lines-plain (edge ∷ edges) spoken (small, all) = (base-plain edge small, lines-plain edges spoken all)

-- The records are no fault

base-is : (edge : Triple) → IsSmall edge → IsBase made_header (map field_text (base_fields edge))
unfolding base_of
base-is edge small =
    let source = small-read edge.source small.source in
    let target = small-read edge.target small.target in
    let weight = small-read edge.weight (weight-small edge small) in
    let below : nat_lt edge.source 1000 ≡ true = let less = small.source in grind (arith, nat_tests) in
    let under : nat_lt edge.target 1000 ≡ true = let less = small.target in grind (arith, nat_tests) in
    let most : nat_le edge.weight 4294967295 ≡ true = let less = small.weight in grind (arith, nat_tests) in
    record { named = refl; right = rw (source, target, weight, below, under, most) refl }

bases-are : (edges : List Triple) → AllByRecursion IsSmall edges → AllByRecursion (IsBase made_header) (map (map field_text) (map base_fields edges))
bases-are [] all = tt
bases-are (edge ∷ edges) (small, all) = (base-is edge small, bases-are edges all)

said-is : (session : ℕ) (what : Said) → session < 8 → IsWithin what → IsSaid made_header 3 (map field_text (Number session ∷ said_fields what))
unfolding word_of saying_of
said-is session (Adds edge) listed small =
    let source = small-read edge.source small.source in
    let target = small-read edge.target small.target in
    let weight = small-read edge.weight (weight-small edge small) in
    record {
      session = session;
      saying = Part (AddE edge.source edge.target edge.weight);
      named = small-read session (omega (arith, listed));
      there = listed;
      says = rw (source, target, weight) refl;
      quiet = record { shut = tt; known = refl };
    }
said-is session (Removes edge) listed small =
    let source = small-read edge.source small.source in
    let target = small-read edge.target small.target in
    let weight = small-read edge.weight (weight-small edge small) in
    record {
      session = session;
      saying = Part (DelE edge.source edge.target edge.weight);
      named = small-read session (omega (arith, listed));
      there = listed;
      says = rw (source, target, weight) refl;
      quiet = record { shut = tt; known = refl };
    }
said-is session (Value analysis vertex) listed small =
    let kind = small-read analysis (let less = small.0 in omega (arith, less)) in
    let number = small-read vertex small.1 in
    let below : nat_lt analysis 3 ≡ true = let less = small.0 in grind (arith, nat_tests) in
    record {
      session = session;
      saying = Asks (command.Value Last analysis vertex);
      named = small-read session (omega (arith, listed));
      there = listed;
      says = rw (kind, number) refl;
      quiet = record { shut = refl; known = rw below refl };
    }
said-is session (Modified analysis) listed small =
    let kind = small-read analysis (omega (arith, small)) in
    let below : nat_lt analysis 3 ≡ true = grind (arith, nat_tests) in
    record {
      session = session;
      saying = Asks (command.Modified Last analysis);
      named = small-read session (omega (arith, listed));
      there = listed;
      says = rw kind refl;
      quiet = record { shut = refl; known = rw below refl };
    }
said-is session (Comes vertex) listed small =
    let number = small-read vertex small in
    record {
      session = session;
      saying = Part (AddV vertex);
      named = small-read session (omega (arith, listed));
      there = listed;
      says = rw number refl;
      quiet = record { shut = tt; known = refl };
    }

spoken-are : (spoken : List Spoken) → AllByRecursion (IsSaid made_header 3) (map (map field_text) (map spoken_fields spoken))
spoken-are [] = tt
spoken-are (one ∷ spoken) = (said-is one.session one.said one.listed one.within, spoken-are spoken)

-- The script

-- the records of a first record, base edges and commands are a script
records-script : (edges : List Triple) (spoken : List Spoken) → AllByRecursion IsSmall edges
    → (s : Script) × (script_of_records 3 (map (map field_text) (first_record ∷ (map base_fields edges ++ map spoken_fields spoken))) ≡ Ok s)
    × (sum_by length s.commands ≤ length spoken)
records-script edges spoken all =
    let bases = map (map field_text) (map base_fields edges) in
    let records = map (map field_text) (map spoken_fields spoken) in
    let made = quiet-script 3 (map field_text first_record) made_header bases records header_of-first (bases-are edges all) (spoken-are spoken) in
    let joined = map-append (map field_text) (map base_fields edges) (map spoken_fields spoken) in
    let count : length records ≡ length spoken = length-map (map spoken_fields spoken) (map field_text) ∙ length-map spoken spoken_fields in
    (made.0, rw joined made.1, subst (λ (n : ℕ). sum_by length made.0.commands ≤ n) count made.2)

-- A made script has no fault, and no more commands than were asked for
pub made-script : (seed size : ℕ) → size ≤ 1000000 → (s : Script) × (script_of 3 (made_script seed size) ≡ Ok s) × (sum_by length s.commands ≤ size)
made-script seed size most =
    let are = made_records-are seed size in
    let lines = map base_fields are.0 ++ map spoken_fields are.1 in
    let read = script_of-lines 3 114 (codes "isgraph") (Number 1) (Number 1000 ∷ Number 8 ∷ []) lines refl (first-plain, lines-plain are.0 are.1 are.2) in
    let script = records-script are.0 are.1 are.2 in
    (script.0, rw are.4 (read ∙ script.1), subst (λ (n : ℕ). sum_by length script.0.commands ≤ n) are.3 script.2)
