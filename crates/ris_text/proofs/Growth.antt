-- How a text grows by lines.
use Rattle.std.proofs.Common.{◌≡◌, ℕ, ◌+◌, ◌<◌, ◌≤◌, ◌^◌, List, [], ◌∷◌, ◌++◌, length, refl, ap, sym, ◌∙◌, arith, append_assoc, append-nil, length-append, decimal, map, Some, drop, slice_get}
use Rattle.std.specs.List.{AllByRecursion, join_with_byte}
use Rattle.ris_base.specs.Transcript.{Field, IsSmall, field_text, line_text, summary_fields, text_of}
use Rattle.ris_base.specs.Transcript.Field.{Number}
use Rattle.ris_base.specs.declared.lines.Line.{Line}
use Rattle.ris_base.specs.declared.replies.LogLine.{LogLine}
use Rattle.ris_text.specs.Counts.{AreCounts, summary_with}
use Rattle.ris_text.specs.Journal.{summary_of}
use Rattle.ris_text.specs.declared.counts.Counts.{Counts}
use Rattle.ris_text.specs.Spelled.{IsLine, AreJoined, Adds, AddsVertices, vertices_end}
use Rattle.ris_text.proofs.Rest.{drop-at}

-- a number and a comma in front of other fields
pub line_text-number : (n : ℕ) (fields : List Field) → 1 ≤ length fields → line_text (Number n ∷ fields) ≡ decimal n ++ (44 ∷ line_text fields)
line_text-number n [] some = absurd (omega arith)
line_text-number n (field ∷ fields) some = append_assoc (decimal n) (44 ∷ join_with_byte 44 (map field_text (field ∷ fields))) (10 ∷ [])

-- a text grew by one line
pub adds_line : (fields : List Field) (old new bytes : List ℕ) → IsLine fields bytes → new ≡ old ++ bytes → Adds (fields ∷ []) old new
unfolding text_of
adds_line fields old new bytes line grew = record {
  text = grew ∙ ap (λ (t : List ℕ). old ++ t) (line.text ∙ sym (append-nil (line_text fields)));
  small = (line.small, tt);
}

-- a text grew by the line of a reply: its session, the number of its command, and its fields
pub adds_reply : (s q : ℕ) (fields : List Field) (old new end : List ℕ) → s < 2 ^ 64 → q < 2 ^ 64 → 1 ≤ length fields → IsLine fields end
    → new ≡ old ++ (decimal s ++ (44 ∷ (decimal q ++ (44 ∷ end)))) → Adds ((Number s ∷ Number q ∷ fields) ∷ []) old new
adds_reply s q fields old new end s_small q_small some line grew =
    let inner = line_text-number q fields some in
    let outer = line_text-number s (Number q ∷ fields) (omega arith) in
    adds_line (Number s ∷ Number q ∷ fields) old new (decimal s ++ (44 ∷ (decimal q ++ (44 ∷ end))))
    (record { text = rw (outer, inner, line.text) refl; small = (s_small, (q_small, line.small)) })
    grew

-- fields, and then vertices
joined-vertices : (fields : List Field) (vertices : List ℕ) → 1 ≤ length fields
    → line_text (fields ++ map Number vertices) ≡ join_with_byte 44 (map field_text fields) ++ vertices_end vertices
joined-vertices [] vertices some = absurd (omega arith)
joined-vertices (field ∷ []) [] some = refl
joined-vertices (field ∷ []) (x ∷ xs) some =
    append_assoc (field_text field) (44 ∷ join_with_byte 44 (map field_text (map Number (x ∷ xs)))) (10 ∷ [])
    ∙ ap (λ (t : List ℕ). field_text field ++ (44 ∷ t)) (joined-vertices (Number x ∷ []) xs (omega arith))
joined-vertices (field ∷ next ∷ fields) vertices some =
    append_assoc (field_text field) (44 ∷ join_with_byte 44 (map field_text (next ∷ fields ++ map Number vertices))) (10 ∷ [])
    ∙ ap (λ (t : List ℕ). field_text field ++ (44 ∷ t)) (joined-vertices (next ∷ fields) vertices (omega arith))
    ∙ sym (append_assoc (field_text field) (44 ∷ join_with_byte 44 (map field_text (next ∷ fields))) (vertices_end vertices))

small-fields : (xs ys : List Field) → AllByRecursion IsSmall xs → AllByRecursion IsSmall ys → AllByRecursion IsSmall (xs ++ ys)
small-fields [] ys none all = all
small-fields (x ∷ xs) ys some all = (some.0, small-fields xs ys some.1 all)

-- a text grew by the line of a reply that ends in vertices
pub adds_listing : (s q : ℕ) (fields : List Field) (vertices old mid new head : List ℕ) → s < 2 ^ 64 → q < 2 ^ 64 → 1 ≤ length fields
    → AreJoined fields head → mid ≡ old ++ (decimal s ++ (44 ∷ (decimal q ++ (44 ∷ head)))) → AddsVertices vertices mid new
    → Adds ((Number s ∷ Number q ∷ (fields ++ map Number vertices)) ∷ []) old new
adds_listing s q fields vertices old mid new head s_small q_small some joined grew added =
    adds_reply s q (fields ++ map Number vertices) old new (head ++ vertices_end vertices) s_small q_small
    (omega (arith, length-append fields (map Number vertices)))
    (record {
      text = ap (λ (t : List ℕ). t ++ vertices_end vertices) joined.text ∙ sym (joined-vertices fields vertices some);
      small = small-fields fields (map Number vertices) joined.small added.small;
    })
    (added.text ∙ simp (grew, append_assoc) refl)

-- no lines
pub adds_none : (text : List ℕ) → Adds [] text text
unfolding text_of
adds_none text = record { text = sym (append-nil text); small = tt }

text_of-append : (xs ys : List (List Field)) → text_of (xs ++ ys) ≡ text_of xs ++ text_of ys
unfolding text_of
text_of-append [] ys = refl
text_of-append (x ∷ xs) ys = ap (λ (t : List ℕ). line_text x ++ t) (text_of-append xs ys) ∙ sym (append_assoc (line_text x) (text_of xs) (text_of ys))

-- the numbers of lines joined
pub small-append : (xs ys : List (List Field)) → AllByRecursion (AllByRecursion IsSmall) xs → AllByRecursion (AllByRecursion IsSmall) ys
    → AllByRecursion (AllByRecursion IsSmall) (xs ++ ys)
small-append [] ys none all = all
small-append (x ∷ xs) ys some all = (some.0, small-append xs ys some.1 all)

-- lines, and then more
pub adds_more : (xs ys : List (List Field)) (old mid new : List ℕ) → Adds xs old mid → Adds ys mid new → Adds (xs ++ ys) old new
adds_more xs ys old mid new first second = record {
  text = second.text ∙ ap (λ (t : List ℕ). t ++ text_of ys) first.text ∙ append_assoc old (text_of xs) (text_of ys)
      ∙ ap (λ (t : List ℕ). old ++ t) (sym (text_of-append xs ys));
  small = small-append xs ys first.small second.small;
}

-- a vertex, and then the others
pub adds_vertex : (vertices : List ℕ) (k x : ℕ) (old mid new : List ℕ) → slice_get vertices k ≡ Some x → x < 2 ^ 64 → mid ≡ old ++ (44 ∷ decimal x)
    → AddsVertices (drop (k + 1) vertices) mid new → AddsVertices (drop k vertices) old new
adds_vertex vertices k x old mid new is x_small grew rest =
    rw (drop-at vertices k x is) (record {
      text = rest.text ∙ simp (grew, append_assoc) refl;
      small = (x_small, rest.small);
    })

-- a text grew by the line of a summary, whose counts are those of a run
pub adds_summary : (logs : List (List LogLine)) (lines : List Line) (visits : ℕ) (counts : Counts) (old new : List ℕ) → AreCounts logs lines counts
    → Adds (summary_fields (summary_with counts visits) ∷ []) old new
    → Adds (summary_fields (summary_of logs lines visits) ∷ []) old new
adds_summary logs lines visits counts old new are added = rw (are.entries, are.marks, are.refused) at added

-- a text that began with nothing and grew by one line is this line
pub only_line : (fields : List Field) (old text : List ℕ) → old ≡ [] → Adds (fields ∷ []) old text → text ≡ line_text fields
unfolding text_of
only_line fields old text none added = added.text ∙ ap (λ (t : List ℕ). t ++ (line_text fields ++ [])) none ∙ append-nil (line_text fields)
