-- How a text is put together from lines, and the end of a line from its fields.
use Rattle.std.specs.Prelude.{◌≡◌, ℕ, List, [], ◌∷◌, ◌++◌, map, decimal}
use Rattle.std.specs.List.{AllByRecursion, join_with_byte}
use Rattle.ris_base.specs.Transcript.{Field, IsSmall, field_text, line_text, text_of}
use Rattle.ris_base.specs.Transcript.Field.{Number}

-- these bytes are the line of these fields, whose numbers are below 2^64
pub record IsLine (fields : List Field) (bytes : List ℕ) : Type 0 where
  pub text : bytes ≡ line_text fields
  pub small : AllByRecursion IsSmall fields

-- these bytes are these fields, joined by commas, whose numbers are below 2^64
pub record AreJoined (fields : List Field) (bytes : List ℕ) : Type 0 where
  pub text : bytes ≡ join_with_byte 44 (map field_text fields)
  pub small : AllByRecursion IsSmall fields

-- a text grew by these lines, whose numbers are below 2^64
pub record Adds (lines : List (List Field)) (old new : List ℕ) : Type 0 where
  pub text : new ≡ old ++ text_of lines
  pub small : AllByRecursion (AllByRecursion IsSmall) lines

-- each vertex behind a comma, and the line feed
abbrev pub vertices_end : List ℕ → List ℕ
vertices_end [] = 10 ∷ []
vertices_end (x ∷ xs) = 44 ∷ decimal x ++ vertices_end xs

-- a text grew by these vertices, which are below 2^64, and the line feed
pub record AddsVertices (vertices old new : List ℕ) : Type 0 where
  pub text : new ≡ old ++ vertices_end vertices
  pub small : AllByRecursion IsSmall (map Number vertices)
