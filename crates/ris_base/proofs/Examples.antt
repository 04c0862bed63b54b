-- Worked examples, computed by the definitions themselves.
use Rattle.std.proofs.Common.{◌≡◌, true, false, List, [], ◌∷◌, ◌++◌, Some, refl}
use Rattle.std.specs.Prelude.{codes}
use Rattle.std.specs.Fmt.{digits}
use Rattle.ris_base.specs.Effect.{does}
use Rattle.ris_base.specs.Effect.Objection.{Limit, NoEdge}
use Rattle.ris_base.specs.Forest.{Forest, forest_in, value_in, parent_in}
use Rattle.ris_base.specs.Graph.{triple}
use Rattle.ris_base.specs.Lines.{mark, has_left, least_mark, floor, front_at_leave}
use Rattle.ris_base.specs.Machine.{copies_after, verdict_of}
use Rattle.ris_base.specs.Requests.{does_from, refusal_of, entered}
use Rattle.ris_base.specs.Safe.{is_safe}
use Rattle.ris_base.specs.Transcript.{line_text, fields}
use Rattle.ris_base.specs.Transcript.Field.{Number}
use Rattle.ris_base.specs.declared.analyses.Kind.TheVariants.{Bfs}
use Rattle.ris_base.specs.declared.analyses.Spec.{Spec}
use Rattle.ris_base.specs.declared.analyses.Value.TheVariants.{Num}
use Rattle.ris_base.specs.declared.events.Verdict.TheVariants as verdict
use Rattle.ris_base.specs.declared.forests.ForestRow.{ForestRow}
use Rattle.ris_base.specs.declared.forests.Parent.TheVariants as parent
use Rattle.ris_base.specs.declared.graphs.Format.{Format}
use Rattle.ris_base.specs.declared.graphs.Format.TheVariants.{One, Two}
use Rattle.ris_base.specs.declared.graphs.PlainGraph.{PlainGraph}
use Rattle.ris_base.specs.declared.lines.Entry.{Entry}
use Rattle.ris_base.specs.declared.lines.Line.{Line}
use Rattle.ris_base.specs.declared.lines.Line.TheVariants as line
use Rattle.ris_base.specs.declared.replies.LogLine.TheVariants.{Reply, Answer}
use Rattle.ris_base.specs.declared.replies.Outcome.TheVariants as outcome
use Rattle.ris_base.specs.declared.replies.ReadAnswer.TheVariants as answer
use Rattle.ris_base.specs.declared.replies.Refusal.TheVariants as refusal
use Rattle.ris_base.specs.declared.updates.Update.TheVariants.{AddE, DelE, SetW}

-- two vertices, with two copies of an edge between them, and with one
abbrev two_copies : PlainGraph
two_copies = record { format = One; vertices = 0 ∷ 1 ∷ []; triples = triple 0 1 0 ∷ triple 0 1 0 ∷ [] }

abbrev one_copy : PlainGraph
one_copy = record { format = One; vertices = 0 ∷ 1 ∷ []; triples = triple 0 1 0 ∷ [] }

-- the depths from vertex 0 in both, and the forest that they have
abbrev depths : List Spec
depths = record { kind = Bfs; root = 0 } ∷ []

abbrev rows : List ForestRow
rows =
    record { vertex = 0; value = Num 0; parent = parent.None }
    ∷ record { vertex = 1; value = Num 1; parent = parent.From 0 0 1 0 } ∷ []

abbrev forests : List Forest
forests = forest_in rows ∷ []

-- one of two copies of a used edge may go, and the last one may not
safe_while_copies_are_left : is_safe two_copies depths forests (DelE 0 1 0) ≡ true
unfolding value_in parent_in
safe_while_copies_are_left = refl

unsafe_at_the_last_copy : is_safe one_copy depths forests (DelE 0 1 0) ≡ false
unfolding value_in parent_in
unsafe_at_the_last_copy = refl

-- an edge that improves nothing is safe, and one to a vertex that isn't there is not
safe_where_nothing_improves : is_safe one_copy depths forests (AddE 0 1 5) ≡ true
unfolding value_in parent_in
safe_where_nothing_improves = refl

unsafe_without_an_end : is_safe one_copy depths forests (AddE 0 9 5) ≡ false
unfolding value_in parent_in
unsafe_without_an_end = refl

-- of two removals of the two copies of a used edge, the first is applied and the second is left to the tail
abbrev removal : Entry
removal = record { session = 0; seq = 0; parts = DelE 0 1 0 ∷ [] }

first_copy_goes : verdict_of two_copies forests [] (DelE 0 1 0 ∷ []) ≡ verdict.Applied
unfolding copies_after value_in parent_in
first_copy_goes = refl

last_copy_bounces : verdict_of two_copies forests (record { entry = removal; verdict = verdict.Applied } ∷ []) (DelE 0 1 0 ∷ []) ≡ verdict.Bounced
unfolding copies_after value_in parent_in
last_copy_bounces = refl

-- three vertices without an edge
abbrev bare : Format → PlainGraph
bare format = record { format = format; vertices = 0 ∷ 1 ∷ 2 ∷ []; triples = [] }

-- the first refused part decides, on the graph that the parts before it leave
second_part_has_no_edge : refusal_of (bare One) (AddE 0 1 1 ∷ DelE 1 2 1 ∷ AddE 1 2 1 ∷ []) ≡ Some (record { part = 2; why = NoEdge })
unfolding does_from does
second_part_has_no_edge = refl

-- a number past its limit is named before a missing vertex
weight_past_its_limit : refusal_of (bare One) (AddE 0 7 4294967296 ∷ []) ≡ Some (record { part = 1; why = Limit 4294967296 })
unfolding does_from does
weight_past_its_limit = refl

-- another weight takes one copy away and adds one
weight_is_changed : (entered (bare Two) (AddE 0 1 4 ∷ SetW 0 1 4 9 ∷ [])).triples ≡ triple 0 1 9 ∷ []
unfolding does_from does
weight_is_changed = refl

-- the least mark of two sessions is the floor; a session that left doesn't hold it, and when all have left it is the front then
abbrev change : Line
change = line.Entry removal

floor_of_two : floor 2 (change ∷ change ∷ line.Mark 0 2 2 ∷ line.Mark 1 4 1 ∷ []) ≡ 1
unfolding least_mark mark has_left front_at_leave
floor_of_two = refl

floor_without_the_one_that_left : floor 2 (change ∷ line.Leave 1 1 ∷ line.Mark 0 1 1 ∷ []) ≡ 1
unfolding least_mark mark has_left front_at_leave
floor_without_the_one_that_left = refl

floor_when_all_left : floor 1 (change ∷ change ∷ line.Leave 0 1 ∷ change ∷ []) ≡ 2
unfolding least_mark mark has_left front_at_leave
floor_when_all_left = refl

-- the line of a reply
line_of_a_refusal : line_text (Number 0 ∷ Number 1 ∷ fields (Reply (outcome.Refused (refusal.Limit 1 1 4294967296)))) ≡ codes "0,1,limit,1,1,4294967296" ++ 10 ∷ []
unfolding digits
line_of_a_refusal = refl

line_of_a_parent : line_text (Number 0 ∷ Number 3 ∷ fields (Answer (answer.Parent 2 2 (parent.From 2 2 3 5)))) ≡ codes "0,3,parent,2,2,2,2,3,5" ++ 10 ∷ []
unfolding digits
line_of_a_parent = refl
