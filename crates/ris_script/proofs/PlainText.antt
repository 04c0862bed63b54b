-- Lines of plain fields, as the records that are read of their text.
use Rattle.std.proofs.Common.{◌≡◌, ◌+◌, ◌-◌, ◌*◌, ◌/◌, ◌%◌, ◌^◌, ◌<◌, ◌≤◌, ℕ, zero, suc, true, false, ◌==◌, List, [], ◌∷◌, ◌++◌, length, map, Some, arith, refl, sym, ap, ◌∙◌, decimal, append-nil, length-append, nat_le}
use Rattle.std.specs.List.{AllByRecursion, join_with_byte, list_all, list_any}
use Rattle.std.proofs.lemmas.Bool.{ne_eqb}
use Rattle.std.proofs.lemmas.Bool.Decides.{nat_tests}
use Rattle.std.proofs.lemmas.Fmt.{decimal_by_steps, length-decimal-le}
use Rattle.std.proofs.lemmas.List.Folds.{list_all-append, list_any-append}
use Rattle.csv.specs.Machine.{next_record}
use Rattle.csv.specs.Reading.{default_config, records, records_from, strip_bom}
use Rattle.csv.specs.Writing.{default_writer, fields_text, is_blank, needs_byte, row_body, row_text}
use Rattle.csv.specs.declared.parser.State.TheVariants as st
use Rattle.csv.proofs.RoundTrip.{read-write-many}
use Rattle.ris_base.proofs.NumberLemmas.{number_of-spelled}
use Rattle.ris_base.specs.Number.{is_digit, number_of, spelled_behind}
use Rattle.ris_base.specs.Script.{Bytes, script_of_records}
use Rattle.ris_base.specs.Transcript.{Field, field_text, line_text, text_of}
use Rattle.ris_base.specs.Transcript.Field.{Word}
use Rattle.ris_script.specs.Bytes.{script_of}

-- Plain fields

-- no byte of a field calls for quotes
abbrev pub IsPlain : Bytes → Type 0
IsPlain field = list_any (needs_byte default_writer) field ≡ false

-- a line of at least two fields, each of which is plain
abbrev pub IsPlainLine : List Field → Type 0
IsPlainLine [] = ⊥
IsPlainLine (first ∷ []) = ⊥
IsPlainLine (first ∷ second ∷ fields) = AllByRecursion IsPlain (map field_text (first ∷ second ∷ fields))

-- the text of plain fields is that of a record
row_body-plain : (field : Bytes) (fields : List Bytes) → AllByRecursion IsPlain (field ∷ fields) → row_body default_writer (field ∷ fields) ≡ join_with_byte 44 (field ∷ fields)
unfolding fields_text
row_body-plain field [] (plain, rest) = rw plain (append-nil field)
row_body-plain field (next ∷ fields) (plain, rest) =
    rw plain (ap (λ (t : Bytes). field ++ (44 ∷ t)) (row_body-plain next fields rest))

row_text-plain : (field next : Bytes) (fields : List Bytes) → AllByRecursion IsPlain (field ∷ next ∷ fields)
    → row_text default_writer (field ∷ next ∷ fields) ≡ join_with_byte 44 (field ∷ next ∷ fields) ++ 10 ∷ []
unfolding is_blank
row_text-plain field next fields plain = ap (λ (t : Bytes). t ++ 10 ∷ []) (row_body-plain field (next ∷ fields) plain)

-- Plain lines

-- a plain line is read as its fields
next-line : (line : List Field) (tail : Bytes) → IsPlainLine line
    → next_record default_config st.StartRecord [] [] (line_text line ++ tail) ≡ Some (map field_text line, st.StartRecord, tail)
next-line [] tail plain = absurd plain
next-line (first ∷ []) tail plain = absurd plain
next-line (first ∷ second ∷ fields) tail plain =
    let row = row_text-plain (field_text first) (field_text second) (map field_text fields) plain in
    ap (λ (t : Bytes). next_record default_config st.StartRecord [] [] (t ++ tail)) (sym row)
    ∙ read-write-many (field_text first) (field_text second) (map field_text fields) tail

-- plain lines are read as their fields
records_from-lines : (n : ℕ) (lines : List (List Field)) → AllByRecursion IsPlainLine lines → length lines ≤ n
    → records_from default_config n st.StartRecord (text_of lines) ≡ map (map field_text) lines
unfolding records_from next_record text_of
records_from-lines zero [] plain enough = refl
records_from-lines zero (line ∷ lines) plain enough = absurd (omega arith)
records_from-lines (suc n) [] plain enough = refl
records_from-lines (suc n) (line ∷ lines) (plain, rest) enough =
    rw (next-line line (text_of lines) plain)
    (ap (λ (t : List (List Bytes)). map field_text line ∷ t) (records_from-lines n lines rest (omega (arith, enough))))

-- each line has a byte
length-lines : (lines : List (List Field)) → length lines ≤ length (text_of lines)
unfolding text_of
length-lines [] = omega arith
length-lines (line ∷ lines) =
    let more = length-lines lines in
    let fields = join_with_byte 44 (map field_text line) in
    omega (arith, more, length-append (line_text line) (text_of lines), length-append fields (10 ∷ []))

-- a text that begins with another byte begins with no byte order mark
strip_bom-other : (byte : ℕ) (bytes : Bytes) → (byte == 0xEF) ≡ false → strip_bom (byte ∷ bytes) ≡ byte ∷ bytes
unfolding strip_bom
strip_bom-other a [] h = refl
strip_bom-other a (b ∷ []) h = refl
strip_bom-other a (b ∷ c ∷ rest) h = rw h refl

-- plain lines, the first of which begins with a word, spell the script of their fields
pub script_of-lines : (n byte : ℕ) (word : Bytes) (field : Field) (fields : List Field) (lines : List (List Field)) → (byte == 0xEF) ≡ false
    → AllByRecursion IsPlainLine ((Word (byte ∷ word) ∷ field ∷ fields) ∷ lines)
    → script_of n (text_of ((Word (byte ∷ word) ∷ field ∷ fields) ∷ lines)) ≡ script_of_records n (map (map field_text) ((Word (byte ∷ word) ∷ field ∷ fields) ∷ lines))
unfolding script_of text_of
script_of-lines n byte word field fields lines other plain =
    let all : List (List Field) = (Word (byte ∷ word) ∷ field ∷ fields) ∷ lines in
    let most = length-lines all in
    let bare = strip_bom-other byte _ other in
    ap (λ (t : Bytes). script_of_records n (records default_config t)) bare
    ∙ ap (script_of_records n) (records_from-lines (length (text_of all) + 1) all plain (omega (arith, most)))

-- Numbers in decimal

-- what the decimal digits of a number are
pub record IsSpelling (n : ℕ) (field : Bytes) : Type 0 where
  pub plain : IsPlain field
  pub digits : list_all is_digit field ≡ true
  pub value : spelled_behind 0 field ≡ n
  pub some : 0 < length field

-- a digit calls for no quotes
digit-plain : (d : ℕ) → d < 10 → needs_byte default_writer (48 + d) ≡ false
digit-plain d h =
    let comma = ne_eqb (48 + d) 44 (λ e. absurd (omega (arith, e))) in
    let quote = ne_eqb (48 + d) 34 (λ e. absurd (omega (arith, e))) in
    let return = ne_eqb (48 + d) 13 (λ e. absurd (omega (arith, e))) in
    let feed = ne_eqb (48 + d) 10 (λ e. absurd (omega (arith, e))) in
    rw (comma, quote, return, feed) refl

digit-is : (d : ℕ) → d < 10 → is_digit (48 + d) ≡ true
digit-is d h =
    let least : nat_le 48 (48 + d) ≡ true = grind (arith, nat_tests) in
    let most : nat_le (48 + d) 57 ≡ true = grind (arith, nat_tests) in
    rw (least, most) refl

-- one digit more
spelled_behind-push : (a : ℕ) (digits : Bytes) (digit : ℕ) → spelled_behind a (digits ++ digit ∷ []) ≡ 10 * spelled_behind a digits + (digit - 48)
spelled_behind-push a [] digit = refl
spelled_behind-push a (d ∷ digits) digit = spelled_behind-push (10 * a + (d - 48)) digits digit

IsSpelling-one : (d : ℕ) → d < 10 → IsSpelling d ((48 + d) ∷ [])
IsSpelling-one d h =
    let calls = digit-plain d h in
    let is = digit-is d h in
    record { plain = rw calls refl; digits = rw is refl; value = omega arith; some = omega arith }

IsSpelling-more : (n : ℕ) (field : Bytes) → 10 ≤ n → IsSpelling (n / 10) field → IsSpelling n (field ++ (48 + n % 10) ∷ [])
IsSpelling-more n field h front =
    let last = IsSpelling-one (n % 10) (omega arith) in
    record {
      plain = list_any-append (needs_byte default_writer) field _ ∙ rw (front.plain, last.plain) refl;
      digits = list_all-append is_digit field _ ∙ rw (front.digits, last.digits) refl;
      value = let push = spelled_behind-push 0 field (48 + n % 10) in let value = front.value in omega (arith, push, value);
      some = let more = length-append field ((48 + n % 10) ∷ []) in omega (arith, more);
    }

IsSpelling-decimal : (n : ℕ) → n < 2 ^ 64 → IsSpelling n (decimal n)
IsSpelling-decimal = decimal_by_steps IsSpelling (λ d h. IsSpelling-one d h) (λ n field h front. IsSpelling-more n field h front)

-- the decimal digits of a number call for no quotes
pub decimal-plain : (n : ℕ) → n < 2 ^ 64 → IsPlain (decimal n)
decimal-plain n small = (IsSpelling-decimal n small).plain

-- and spell it
pub number_of-decimal : (n : ℕ) → n < 2 ^ 64 → number_of (decimal n) ≡ Some n
number_of-decimal n small =
    let spelling = IsSpelling-decimal n small in
    let short = length-decimal-le 20 n (omega arith) (omega arith) small in
    let value = spelling.value in
    number_of-spelled (decimal n) spelling.some short spelling.digits (rw value small) ∙ ap (λ (k : ℕ). Some k) value
