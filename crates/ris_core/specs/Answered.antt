-- The reply to a question on the published lines, with the rows of each place.
use Rattle.std.specs.Prelude.{ℕ, zero, suc, ◌+◌, ◌-◌, nat_lt, if◌then◌else◌, min, List, [], ◌∷◌, ◌++◌, length, take, slice_get, Option, Some, None, unwrap_or}
use Rattle.ris_base.specs.Answers.{place_of}
use Rattle.ris_base.specs.Forest.{Forest, forest_in, parent_in, value_in}
use Rattle.ris_base.specs.Limits.{vertex_limit}
use Rattle.ris_base.specs.Lines.{floor, front}
use Rattle.ris_base.specs.declared.analyses.Value.{Value}
use Rattle.ris_base.specs.declared.analyses.Value.TheVariants.{Absent, Unreached, Num}
use Rattle.ris_base.specs.declared.forests.ForestRow.{ForestRow}
use Rattle.ris_base.specs.declared.forests.Parent.{Parent}
use Rattle.ris_base.specs.declared.forests.Parent.TheVariants as parent
use Rattle.ris_base.specs.declared.lines.Line.{Line}
use Rattle.ris_base.specs.declared.replies.LogLine.{LogLine}
use Rattle.ris_base.specs.declared.replies.LogLine.TheVariants.{Answer, Denied}
use Rattle.ris_base.specs.declared.replies.ReadAnswer.{ReadAnswer}
use Rattle.ris_base.specs.declared.replies.ReadAnswer.TheVariants as answer
use Rattle.ris_base.specs.declared.replies.ReadRefusal.TheVariants as denial
use Rattle.ris_base.specs.declared.requests.Question.{Question}
use Rattle.ris_base.specs.declared.requests.Question.TheVariants as question
use Rattle.ris_core.specs.Rows.{bound_of, is_same_value}
use Rattle.ris_core.specs.Stands.{Listing}

-- Paths

-- what follows a vertex with this parent
abbrev pub path_tail : (ℕ → List ℕ) → Parent → List ℕ
path_tail next parent.None = []
path_tail next (parent.From vertex source target weight) = next vertex

-- x, its parent, and so on, up to a vertex without a parent, but at most so many vertices
unfoldable pub path_of : Forest → ℕ → ℕ → List ℕ
path_of F zero x = []
path_of F (suc k) x = x ∷ path_tail (λ y. path_of F k y) (F.parent x)

-- the path of a vertex of this value
abbrev pub path_by : Forest → ℕ → Value → List ℕ
path_by F x Absent = []
path_by F x Unreached = []
path_by F x (Num c) = if nat_lt x vertex_limit then path_of F (vertex_limit + 1) x else []

abbrev pub path_in : List ForestRow → ℕ → List ℕ
path_in rows x = path_by (forest_in rows) x (value_in rows x)

-- Moved vertices

-- the vertex numbers below n to which two lists of rows give different values, in ascending order
unfoldable pub moved_below : List ForestRow → List ForestRow → ℕ → List ℕ
moved_below before now zero = []
moved_below before now (suc n) =
    if is_same_value (value_in before n) (value_in now n) then moved_below before now n else moved_below before now n ++ n ∷ []

abbrev pub moved_between : List ForestRow → List ForestRow → List ℕ
moved_between before now = moved_below before now (min vertex_limit (bound_of (bound_of 0 before) now))

-- Replies

-- the rows of an analysis at a place
abbrev pub rows_at : Listing → ℕ → ℕ → List ForestRow
rows_at l v a = unwrap_or (slice_get (unwrap_or (slice_get l.places v) []) a) []

-- the answer to a question whose place can be read on lines with this front
abbrev pub answered_at : Listing → ℕ → Question → ReadAnswer
answered_at l f (question.Value v a x) = answer.Value f v (value_in (rows_at l v a) x)
answered_at l f (question.Parent v a x) = answer.Parent f v (parent_in (rows_at l v a) x)
answered_at l f (question.Path v a x) = answer.Path f v (path_in (rows_at l v a) x)
answered_at l f (question.Modified v a) = answer.Modified f v (moved_between (rows_at l (v - 1) a) (rows_at l v a))
answered_at l f question.Current = answer.Current f f

-- the reply at place v, which may be past the front or below the floor
abbrev pub answered_or : Listing → ℕ → ℕ → ℕ → Question → LogLine
answered_or l f low v q =
    if nat_lt f v then Denied (denial.NotYet f) else (if nat_lt v low then Denied (denial.Released f low) else Answer (answered_at l f q))

abbrev pub answered_by : Listing → ℕ → ℕ → Question → Option ℕ → LogLine
answered_by l f low q None = Answer (answer.Current f low)
answered_by l f low q (Some v) = answered_or l f low v q

abbrev pub answered_on : Listing → ℕ → ℕ → Question → LogLine
answered_on l f low q = answered_by l f low q (place_of q)

-- the published lines
abbrev pub known_lines : Listing → List Line
known_lines l = take l.published l.lines

abbrev pub answered : Listing → Question → LogLine
answered l q = answered_on l (front (known_lines l)) (floor (length l.seats) (known_lines l)) q
