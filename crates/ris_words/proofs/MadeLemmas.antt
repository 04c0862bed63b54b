-- The made script, draw by draw and record by record.
use Rattle.std.proofs.Common.{◌≡◌, ◌≤◌, ◌+◌, ◌%◌, ℕ, zero, suc, Bool, true, false, nat_lt, List, [], ◌∷◌, ◌++◌, length, drop, map, slice_get, Some, refl, sym, ap, ◌∙◌, arith, codes, decimal, append-nil, append_assoc}
use Rattle.std.specs.Fmt.{digits}
use Rattle.std.specs.List.{join_with_byte}
use Rattle.std.proofs.lemmas.Bool.Decides.{nat_tests}
use Rattle.std.proofs.lemmas.List.{drop_all}
use Rattle.std.proofs.lemmas.Option.{get_or_from_slice_get}
use Rattle.rand_pcg.specs.Lcg.{Lcg}
use Rattle.ris_base.specs.Script.{Bytes}
use Rattle.ris_base.specs.Transcript.{Field, field_text, line_text, text_of}
use Rattle.ris_base.specs.Transcript.Field.{Word, Number}
use Rattle.ris_base.specs.declared.graphs.Triple.{Triple}
use Rattle.ris_words.specs.Made.{base_fields, draw, draw_command, draw_commands, draw_edge, draw_edges, draw_next, edge_fields, first_record, made_records, made_script, random_of}
use Rattle.ris_words.proofs.Accepting.{drop-at}

-- Edges

-- one edge more is drawn
pub edges-step : (n m : ℕ) (g next : Lcg) (old new : List Triple) (edge : Triple) (whole : List Triple × Lcg) → n ≡ suc m → edge ≡ (draw_edge g).0
    → next ≡ (draw_edge g).1 → new ≡ old ++ edge ∷ [] → old ++ (draw_edges n g).0 ≡ whole.0 → (draw_edges n g).1 ≡ whole.1
    → (new ++ (draw_edges m next).0 ≡ whole.0) × ((draw_edges m next).1 ≡ whole.1)
unfolding draw_edges
edges-step n m g next old new edge whole more edge_is next_is grew edges rest =
    let edges_more = rw more at edges in
    let rest_more = rw more at rest in
    (rw (grew, next_is) (append_assoc old (edge ∷ []) (draw_edges m (draw_edge g).1).0 ∙ rw edge_is edges_more), rw next_is rest_more)

-- no edge more
pub edges-end : (g : Lcg) (edges : List Triple) (whole : List Triple × Lcg) (n : ℕ) → n ≡ 0 → edges ++ (draw_edges n g).0 ≡ whole.0
    → (draw_edges n g).1 ≡ whole.1 → (edges ≡ whole.0) × (g ≡ whole.1)
unfolding draw_edges
edges-end g edges whole n none is rest =
    let all = rw none at is in
    let last = rw none at rest in
    (sym (append-nil edges) ∙ all, last)

-- as many edges are drawn as were asked for
pub length-draw_edges : (n : ℕ) (g : Lcg) → length (draw_edges n g).0 ≡ n
unfolding draw_edges
length-draw_edges zero g = refl
length-draw_edges (suc n) g = ap suc (length-draw_edges n (draw_edge g).1)

-- The text of records

-- a field and a comma in front of other fields
line_text-more : (first field : Field) (fields : List Field) → line_text (first ∷ field ∷ fields) ≡ field_text first ++ (44 ∷ line_text (field ∷ fields))
line_text-more first field fields = append_assoc (field_text first) (44 ∷ join_with_byte 44 (map field_text (field ∷ fields))) (10 ∷ [])

-- a text grew by a field, and then by a comma and the other fields
pub put-field : (first field : Field) (fields : List Field) (old mid new : Bytes) → mid ≡ old ++ field_text first → new ≡ mid ++ (44 ∷ line_text (field ∷ fields))
    → new ≡ old ++ line_text (first ∷ field ∷ fields)
put-field first field fields old mid new grew more =
    more ∙ ap (λ (t : Bytes). t ++ (44 ∷ line_text (field ∷ fields))) grew ∙ append_assoc old (field_text first) (44 ∷ line_text (field ∷ fields))
    ∙ ap (λ (t : Bytes). old ++ t) (sym (line_text-more first field fields))

-- the same behind a comma
pub put-word : (word : Bytes) (field : Field) (fields : List Field) (old mid new : Bytes) → mid ≡ old ++ (44 ∷ word) → new ≡ mid ++ (44 ∷ line_text (field ∷ fields))
    → new ≡ old ++ (44 ∷ line_text (Word word ∷ field ∷ fields))
put-word word field fields old mid new grew more =
    more ∙ ap (λ (t : Bytes). t ++ (44 ∷ line_text (field ∷ fields))) grew ∙ append_assoc old (44 ∷ word) (44 ∷ line_text (field ∷ fields))
    ∙ ap (λ (t : Bytes). old ++ (44 ∷ t)) (sym (line_text-more (Word word) field fields))

-- a text grew by the first record of what is left
put-record : (line rest old new whole : Bytes) → new ≡ old ++ line → old ++ (line ++ rest) ≡ whole → new ++ rest ≡ whole
put-record line rest old new whole grew before = ap (λ (t : Bytes). t ++ rest) grew ∙ append_assoc old line rest ∙ before

-- the text of two lists of records, joined
text_of-append : (lines others : List (List Field)) → text_of (lines ++ others) ≡ text_of lines ++ text_of others
unfolding text_of
text_of-append [] others = refl
text_of-append (line ∷ lines) others =
    ap (λ (t : Bytes). line_text line ++ t) (text_of-append lines others) ∙ sym (append_assoc (line_text line) (text_of lines) (text_of others))

-- Base edges

-- one record more
pub base-step : (base : List Triple) (k : ℕ) (edge : Triple) (old mid new whole : Bytes) → slice_get base k ≡ Some edge → mid ≡ old ++ codes "base"
    → new ≡ mid ++ (44 ∷ line_text (edge_fields edge)) → old ++ text_of (map base_fields (drop k base)) ≡ whole
    → new ++ text_of (map base_fields (drop (k + 1) base)) ≡ whole
unfolding text_of
base-step base k edge old mid new whole is grew more before =
    put-record (line_text (base_fields edge)) (text_of (map base_fields (drop (k + 1) base))) old new whole
    (put-field (Word (codes "base")) (Number edge.source) (Number edge.target ∷ Number edge.weight ∷ []) old mid new grew more)
    (rw (drop-at base k edge is) at before)

-- no record more
pub base-end : (base : List Triple) (k : ℕ) (text whole : Bytes) → length base ≤ k → text ++ text_of (map base_fields (drop k base)) ≡ whole → text ≡ whole
unfolding text_of
base-end base k text whole past is = sym (append-nil text) ∙ (rw (drop_all k base past) at is)

-- Commands

-- a text grew by the next command behind its session, and this generator is the one behind it
abbrev pub Puts : List Triple → Lcg → Lcg → Bytes → Bytes → Type 0
Puts base g last old new = (new ≡ old ++ (44 ∷ line_text (draw_next base g).0)) × (last ≡ (draw_next base g).1)

-- what the next command says, by its kind
next-said : (base : List Triple) (g behind last : Lcg) (t : ℕ) (fields : List Field) (old new : Bytes) → t ≡ (draw 10 g).0 → behind ≡ (draw 10 g).1
    → draw_command base t behind ≡ (fields, last) → new ≡ old ++ (44 ∷ line_text fields) → Puts base g last old new
next-said base g behind last t fields old new kind behind_is said grew =
    let is : draw_next base g ≡ (fields, last) = rw (kind, behind_is) at said in
    (grew ∙ ap (λ (p : List Field × Lcg). old ++ (44 ∷ line_text p.0)) (sym is), ap (λ (p : List Field × Lcg). p.1) (sym is))

-- an edge that comes was put
pub adde-put : (base : List Triple) (g behind last : Lcg) (t : ℕ) (edge : Triple) (old mid new : Bytes) → t ≡ (draw 10 g).0 → behind ≡ (draw 10 g).1
    → t ≤ 3 → edge ≡ (draw_edge behind).0 → last ≡ (draw_edge behind).1
    → mid ≡ old ++ codes ",adde" → new ≡ mid ++ (44 ∷ line_text (edge_fields edge)) → Puts base g last old new
adde-put base g behind last t edge old mid new kind behind_is most edge_is last_is grew more =
    next-said base g behind last t (Word (codes "adde") ∷ edge_fields edge) old new kind behind_is said
    (put-word (codes "adde") (Number edge.source) (Number edge.target ∷ Number edge.weight ∷ []) old mid new grew more)
  where
    said : draw_command base t behind ≡ (Word (codes "adde") ∷ edge_fields edge, last)
    said =
        let is : nat_lt t 4 ≡ true = grind (arith, nat_tests) in
        rw (is, edge_is, last_is) refl

-- a base edge that goes was put
pub dele-put : (base : List Triple) (g behind last : Lcg) (t k : ℕ) (edge : Triple) (old mid new : Bytes) → t ≡ (draw 10 g).0 → behind ≡ (draw 10 g).1
    → 4 ≤ t → t ≤ 6 → k ≡ (draw 5000 behind).0 → last ≡ (draw 5000 behind).1 → slice_get base k ≡ Some edge
    → mid ≡ old ++ codes ",dele" → new ≡ mid ++ (44 ∷ line_text (edge_fields edge)) → Puts base g last old new
dele-put base g behind last t k edge old mid new kind behind_is least most k_is last_is found grew more =
    next-said base g behind last t (Word (codes "dele") ∷ edge_fields edge) old new kind behind_is said
    (put-word (codes "dele") (Number edge.source) (Number edge.target ∷ Number edge.weight ∷ []) old mid new grew more)
  where
    said : draw_command base t behind ≡ (Word (codes "dele") ∷ edge_fields edge, last)
    said =
        let no_adde : nat_lt t 4 ≡ false = grind (arith, nat_tests) in
        let is : nat_lt t 7 ≡ true = grind (arith, nat_tests) in
        let here = get_or_from_slice_get base k edge (record { source = 0; target = 0; weight = 0 }) found in
        rw (no_adde, is, ← k_is, last_is, here) refl

-- a read of a value was put
pub value-put : (base : List Triple) (g behind next last : Lcg) (t a x : ℕ) (old mid mid2 mid3 new : Bytes) → t ≡ (draw 10 g).0 → behind ≡ (draw 10 g).1
    → t ≡ 7 → a ≡ (draw 3 behind).0 → next ≡ (draw 3 behind).1 → x ≡ (draw 1000 next).0 → last ≡ (draw 1000 next).1
    → mid ≡ old ++ codes ",value,last," → mid2 ≡ mid ++ decimal a → mid3 ≡ mid2 ++ (44 ∷ decimal x) → new ≡ mid3 ++ 10 ∷ [] → Puts base g last old new
value-put base g behind next last t a x old mid mid2 mid3 new kind behind_is is a_is next_is x_is last_is grew grew2 grew3 grew4 =
    next-said base g behind last t (Word (codes "value") ∷ Word (codes "last") ∷ Number a ∷ Number x ∷ []) old new kind behind_is said
    (rw (grew4, grew3, grew2, grew) (simp append_assoc))
  where
    said : draw_command base t behind ≡ (Word (codes "value") ∷ Word (codes "last") ∷ Number a ∷ Number x ∷ [], last)
    said = rw (is, x_is, last_is, next_is, a_is) refl

-- a read of the modified vertices was put
pub modified-put : (base : List Triple) (g behind last : Lcg) (t a : ℕ) (old mid mid2 new : Bytes) → t ≡ (draw 10 g).0 → behind ≡ (draw 10 g).1
    → t ≡ 8 → a ≡ (draw 3 behind).0 → last ≡ (draw 3 behind).1
    → mid ≡ old ++ codes ",modified,last," → mid2 ≡ mid ++ decimal a → new ≡ mid2 ++ 10 ∷ [] → Puts base g last old new
modified-put base g behind last t a old mid mid2 new kind behind_is is a_is last_is grew grew2 grew3 =
    next-said base g behind last t (Word (codes "modified") ∷ Word (codes "last") ∷ Number a ∷ []) old new kind behind_is said
    (rw (grew3, grew2, grew) (simp append_assoc))
  where
    said : draw_command base t behind ≡ (Word (codes "modified") ∷ Word (codes "last") ∷ Number a ∷ [], last)
    said = rw (is, last_is, a_is) refl

-- a vertex that comes was put
pub addv-put : (base : List Triple) (g behind last : Lcg) (t x : ℕ) (old mid mid2 new : Bytes) → t ≡ (draw 10 g).0 → behind ≡ (draw 10 g).1
    → 9 ≤ t → x ≡ (draw 1000 behind).0 → last ≡ (draw 1000 behind).1
    → mid ≡ old ++ codes ",addv" → mid2 ≡ mid ++ (44 ∷ decimal x) → new ≡ mid2 ++ 10 ∷ [] → Puts base g last old new
addv-put base g behind last t x old mid mid2 new kind behind_is least x_is last_is grew grew2 grew3 =
    next-said base g behind last t (Word (codes "addv") ∷ Number x ∷ []) old new kind behind_is said
    (rw (grew3, grew2, grew) (simp append_assoc))
  where
    said : draw_command base t behind ≡ (Word (codes "addv") ∷ Number x ∷ [], last)
    said =
        let no_adde : nat_lt t 4 ≡ false = grind (arith, nat_tests) in
        let no_dele : nat_lt t 7 ≡ false = grind (arith, nat_tests) in
        let no_value : nat_lt t 8 ≡ false = grind (arith, nat_tests) in
        let no_modified : nat_lt t 9 ≡ false = grind (arith, nat_tests) in
        rw (no_adde, no_dele, no_value, no_modified, x_is, last_is) refl

-- a command has fields behind its session
command-some : (base : List Triple) (t : ℕ) (g : Lcg) → 1 ≤ length (draw_command base t g).0
command-some base t g = go (nat_lt t 4) refl (nat_lt t 7) refl (nat_lt t 8) refl (nat_lt t 9) refl
  where
    go : (a : Bool) → nat_lt t 4 ≡ a → (d : Bool) → nat_lt t 7 ≡ d → (v : Bool) → nat_lt t 8 ≡ v → (m : Bool) → nat_lt t 9 ≡ m
        → 1 ≤ length (draw_command base t g).0
    go true a d e2 v e3 m e4 = rw a (omega arith)
    go false a true d v e3 m e4 = rw (a, d) (omega arith)
    go false a false d true v m e4 = rw (a, d, v) (omega arith)
    go false a false d false v true m = rw (a, d, v, m) (omega arith)
    go false a false d false v false m = rw (a, d, v, m) (omega arith)

-- a text grew by the record of a command
put-command : (session : ℕ) (fields : List Field) (old mid new : Bytes) → 1 ≤ length fields → mid ≡ old ++ decimal session → new ≡ mid ++ (44 ∷ line_text fields)
    → new ≡ old ++ line_text (Number session ∷ fields)
put-command session [] old mid new some grew more = absurd (omega arith)
put-command session (field ∷ fields) old mid new some grew more = put-field (Number session) field fields old mid new grew more

-- one command more
pub commands-step : (base : List Triple) (i n m : ℕ) (g next : Lcg) (old mid new whole : Bytes) → n ≡ suc m → mid ≡ old ++ decimal (i % 8) → Puts base g next mid new
    → old ++ text_of (draw_commands base i n g) ≡ whole → new ++ text_of (draw_commands base (i + 1) m next) ≡ whole
unfolding text_of draw_commands
commands-step base i n m g next old mid new whole more grew puts before =
    let said = (draw_next base g).0 in
    let one : i + 1 ≡ suc i = omega arith in
    rw (one, puts.1)
    (put-record (line_text (Number (i % 8) ∷ said)) (text_of (draw_commands base (suc i) m (draw_next base g).1)) old new whole
    (put-command (i % 8) said old mid new (command-some base (draw 10 g).0 (draw 10 g).1) grew puts.0) (rw more at before))

-- no command more
pub commands-end : (base : List Triple) (i n : ℕ) (g : Lcg) (text whole : Bytes) → n ≡ 0 → text ++ text_of (draw_commands base i n g) ≡ whole → text ≡ whole
unfolding text_of draw_commands
commands-end base i n g text whole none is = sym (append-nil text) ∙ (rw none at is)

-- The script

-- the text of the first record
first-text : line_text first_record ≡ codes "risgraph,1,1000,8\n"
unfolding digits
first-text = refl

-- the text of the first record and of others in two parts
whole-text : (lines others : List (List Field)) → text_of (first_record ∷ lines ++ others) ≡ codes "risgraph,1,1000,8\n" ++ (text_of lines ++ text_of others)
unfolding text_of
whole-text lines others =
    ap (λ (t : Bytes). line_text first_record ++ t) (text_of-append lines others) ∙ ap (λ (t : Bytes). t ++ (text_of lines ++ text_of others)) first-text

-- the first record, the base edges and the commands are the script
pub script-made : (seed size : ℕ) (g behind : Lcg) (base : List Triple) (first mid new : Bytes) → g ≡ random_of seed → base ≡ (draw_edges 5000 g).0
    → behind ≡ (draw_edges 5000 g).1 → first ≡ codes "risgraph,1,1000,8\n" → mid ≡ first ++ text_of (map base_fields base)
    → new ≡ mid ++ text_of (draw_commands base 0 size behind) → new ≡ made_script seed size
unfolding made_records
script-made seed size g behind base first mid new g_is base_is behind_is begins grew more =
    let lines = map base_fields base in
    let others = draw_commands base 0 size behind in
    let whole : new ≡ text_of (first_record ∷ lines ++ others) =
    more ∙ ap (λ (t : Bytes). t ++ text_of others) grew ∙ ap (λ (t : Bytes). (t ++ text_of lines) ++ text_of others) begins
    ∙ append_assoc (codes "risgraph,1,1000,8\n") (text_of lines) (text_of others) ∙ sym (whole-text lines others) in
    rw (base_is, behind_is, g_is) at whole
