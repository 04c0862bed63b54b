-- That a safe update keeps every right forest right, so that it changes no value.
use Rattle.std.proofs.Common.{◌≡◌, ℕ, ◌<◌, Bool, true, false, not, ◌||◌, ◌⊎◌, inl, inr, List, [], ◌∷◌, ◌++◌, Option, Some, None, Result, Ok, Err, arith, refl, sym, subst, ap, ◌∙◌}
use Rattle.std.specs.List.{All, Contains}
use Rattle.std.specs.Option.{is_none}
use Rattle.std.specs.Prelude.{nat_le}
use Rattle.std.proofs.lemmas.Bool.{true≢false, leb-true, and_parts, and_from, or_cases, or_parts, or_left, or_right, not-true, cases_Bool, cond-true, cond-false}
use Rattle.std.proofs.lemmas.List.Elements.{Contains-append_left, Contains-push_cases}
use Rattle.ris_base.specs.Analysis.{start}
use Rattle.ris_base.specs.Effect.{Objection, does, changed, first_past_limit, first_missing}
use Rattle.ris_base.specs.Falling.{HangsBy}
use Rattle.ris_base.specs.Forest.{Forest, Joins, IsParent, IsForest, AreForests}
use Rattle.ris_base.specs.Graph.{HasVertex, HasTriple, IsProper, copies, greatest_weight, has_vertex, is_equal, triple}
use Rattle.ris_base.specs.Lists.{each_pair}
use Rattle.ris_base.specs.Requests.{entered}
use Rattle.ris_base.specs.Safe.{beats, improves, uses, is_idle, is_safe_for, keeps_vertices, is_sound, is_safe, is_used, is_candidate}
use Rattle.ris_base.specs.Value.{Moves}
use Rattle.ris_base.specs.Walk.{both_ways}
use Rattle.ris_base.specs.declared.graphs.PlainGraph.{PlainGraph}
use Rattle.ris_base.specs.declared.graphs.Triple.{Triple}
use Rattle.ris_base.specs.declared.analyses.Spec.{Spec}
use Rattle.ris_base.specs.declared.updates.Update.{Update}
use Rattle.ris_base.specs.declared.updates.Update.TheVariants.{AddV, DelV, AddE, DelE, SetW}
use Rattle.ris_base.specs.declared.forests.Parent.{Parent}
use Rattle.ris_base.specs.declared.forests.Parent.TheVariants as parent
use Rattle.ris_base.proofs.EffectLemmas.{copies-HasTriple, HasTriple-copies, copies-changed, does-accepted, format-changed, same_from_equal}
use Rattle.ris_base.proofs.ListLemmas.{EachPair-tested, All-from_pairs}
use Rattle.ris_base.proofs.RequestLemmas.{entered-one, entered-refused, refusal_of-one_refused}
use Rattle.ris_algo.specs.Certificate.{IsJustified}
use Rattle.ris_algo.proofs.Certificates.{forest_from_certificate, justified_from_forest, stable_from_forest}
use Rattle.ris_algo.proofs.Parents.{uses-parent}
use Rattle.ris_algo.proofs.Unique.{Moves-forests}

-- One analysis

-- a right forest is right with other triples, where those of its parents stay and no triple leads to a better value
other_triples : (g : PlainGraph) (ts : List Triple) (spec : Spec) (F : Forest) → IsForest g spec F
    → ((x : ℕ) (t : Triple) → HangsBy F x t → HasTriple g t → Contains ts t)
    → ((t : Triple) (a x : ℕ) → Contains ts t → Joins (both_ways spec.kind) t a x → improves spec.kind (F.value a) t.weight (F.value x) ≡ false)
    → ((x c : ℕ) → HasVertex g x → start g spec x ≡ Some c → beats spec.kind c (F.value x) ≡ false)
    → IsForest (record g { triples = ts }) spec F
other_triples g ts spec F right keeps stepped started =
    forest_from_certificate h spec F
    (record { placed = just.placed; parents = λ x. kept x (F.parent x) refl (just.parents x); rooted = just.rooted })
    (record { started = started; stepped = stepped })
  where
    h : PlainGraph
    h = record g { triples = ts }

    just : IsJustified g spec F
    just = justified_from_forest g spec F right

    kept : (x : ℕ) (p : Parent) → F.parent x ≡ p → IsParent g spec F.value x p → IsParent h spec F.value x p
    kept x parent.None is own = own
    kept x (parent.From vertex source target weight) is from = record {
      number = from.number;
      has = keeps x (triple source target weight) (record { vertex = vertex; is = is }) from.has;
      joins = from.joins;
      above = from.above;
      here = from.here;
      not_start = from.not_start;
    }

-- an edge more that improves neither end
edge_added : (g : PlainGraph) (spec : Spec) (F : Forest) (u v w : ℕ) → IsProper g → IsForest g spec F
    → is_idle spec F u v w ≡ true → IsForest (changed g (AddE u v w)) spec F
edge_added g spec F u v w proper right idle =
    let stable = stable_from_forest g spec F proper right in
    other_triples g (g.triples ++ triple u v w ∷ []) spec F right
    (λ x t by has. Contains-append_left g.triples (triple u v w ∷ []) t has)
    (λ t a x has joins. elim (Contains-push_cases g.triples (triple u v w) t has) [
      | inl old ↦ stable.stepped t a x old joins
      | inr new ↦ subst (λ (s : Triple). improves spec.kind (F.value a) s.weight (F.value x) ≡ false) new
          (idle_step a x (subst (λ (s : Triple). Joins (both_ways spec.kind) s a x) (sym new) joins))
    ])
    stable.started
  where
    idle_step : (a x : ℕ) → Joins (both_ways spec.kind) (triple u v w) a x → improves spec.kind (F.value a) w (F.value x) ≡ false
    idle_step a x joins =
        let parts = and_parts (not (improves spec.kind (F.value u) w (F.value v))) _ idle in
        elim joins [
          | inl on ↦ rw (sym on.0, sym on.1) (not-true (improves spec.kind (F.value u) w (F.value v)) parts.0)
          | inr back ↦ elim (or_cases (not (both_ways spec.kind)) (not (improves spec.kind (F.value v) w (F.value u))) parts.1) [
            | inl one_way ↦ absurd (true≢false (sym back.0 ∙ not-true (both_ways spec.kind) one_way))
            | inr other ↦ rw (sym back.1, sym back.2) (not-true (improves spec.kind (F.value v) w (F.value u)) other)
          ]
        ]

-- a copy less of an edge that has another one or that the forest doesn't use
edge_taken : (g : PlainGraph) (spec : Spec) (F : Forest) (u v w : ℕ) → IsProper g → IsForest g spec F
    → (nat_le 2 (copies g (triple u v w)) || not (uses F (triple u v w))) ≡ true → IsForest (changed g (DelE u v w)) spec F
edge_taken g spec F u v w proper right safe =
    let stable = stable_from_forest g spec F proper right in
    other_triples g (changed g (DelE u v w)).triples spec F right left
    (λ t a x has joins. stable.stepped t a x (HasTriple-copies g t (fewer t (copies-HasTriple (changed g (DelE u v w)) t has))) joins)
    stable.started
  where
    e : Triple
    e = triple u v w

    fewer : (t : Triple) → 0 < copies (changed g (DelE u v w)) t → 0 < copies g t
    fewer t h = let same = copies-changed g (DelE u v w) t in omega arith

    left : (x : ℕ) (t : Triple) → HangsBy F x t → HasTriple g t → HasTriple (changed g (DelE u v w)) t
    left x t by has =
        let some = copies-HasTriple g t has in
        let same = copies-changed g (DelE u v w) t in
        HasTriple-copies (changed g (DelE u v w)) t
        (elim (cases_Bool (is_equal t e)) [
          | inl is ↦ elim (or_cases (nat_le 2 (copies g e)) (not (uses F e)) safe) [
            | inl two ↦
                let many = leb-true 2 (copies g e) two in
                let also : copies g t ≡ copies g e = ap (copies g) (same_from_equal t e is) in
                let one = cond-true {A = ℕ} (is_equal t e) 1 0 is in
                omega arith
            | inr free ↦
                let used = subst (λ (s : Triple). uses F s ≡ true) (same_from_equal t e is) (uses-parent g spec F right.parents x t by) in
                absurd (true≢false (sym used ∙ not-true (uses F e) free))
          ]
          | inr other ↦ (let none = cond-false {A = ℕ} (is_equal t e) 1 0 other in omega arith)
        ])

-- an update that is safe for an analysis keeps its right forest right
pub safe_for-right : (g : PlainGraph) (spec : Spec) (F : Forest) (update : Update) → IsProper g → keeps_vertices g update ≡ true
    → IsForest g spec F → is_safe_for g spec F update ≡ true → IsForest (changed g update) spec F
safe_for-right g spec F (AddV x) proper keeps right safe = rw keeps right
safe_for-right g spec F (DelV x) proper keeps right safe = absurd (true≢false (sym keeps))
safe_for-right g spec F (AddE u v w) proper keeps right safe = edge_added g spec F u v w proper right safe
safe_for-right g spec F (DelE u v w) proper keeps right safe = edge_taken g spec F u v w proper right safe
safe_for-right g spec F (SetW u v w w2) proper keeps right safe = absurd (true≢false (sym keeps))

-- All analyses

-- the parts of safety
pub record IsSafe (g : PlainGraph) (specs : List Spec) (forests : List Forest) (update : Update) : Type 0 where
  pub within : first_past_limit (greatest_weight g) update ≡ None
  pub present : first_missing g update ≡ None
  pub vertices : keeps_vertices g update ≡ true
  pub each : each_pair (λ spec F. is_safe_for g spec F update) specs forests ≡ true

-- the test for nothing
none_there : {X : Type 0} (o : Option X) → is_none o ≡ true → o ≡ None
none_there None h = refl
none_there (Some x) h = absurd (true≢false (sym h))

-- what the test for safety says
pub safe_parts : (g : PlainGraph) (specs : List Spec) (forests : List Forest) (update : Update) → is_safe g specs forests update ≡ true
    → IsSafe g specs forests update
safe_parts g specs forests update h =
    let outer = and_parts (is_sound g update) _ h in
    let sound = and_parts _ (keeps_vertices g update) outer.0 in
    let numbers = and_parts (is_none (first_past_limit (greatest_weight g) update)) (is_none (first_missing g update)) sound.0 in
    record {
      within = none_there (first_past_limit (greatest_weight g) update) numbers.0;
      present = none_there (first_missing g update) numbers.1;
      vertices = sound.1;
      each = outer.1;
    }

-- a safe update keeps all right forests right
pub safe_changed : (g : PlainGraph) (specs : List Spec) (forests : List Forest) (update : Update) → IsProper g → AreForests g specs forests
    → is_safe g specs forests update ≡ true → AreForests (changed g update) specs forests
safe_changed g specs forests update proper right safe =
    let parts = safe_parts g specs forests update safe in
    EachPair-tested (IsForest g) (IsForest (changed g update)) (λ spec F. is_safe_for g spec F update)
    (λ spec F one safe_for. safe_for-right g spec F update proper parts.vertices one safe_for) specs forests right parts.each

-- and so does one that is accepted
pub safe_does : (g h : PlainGraph) (specs : List Spec) (forests : List Forest) (update : Update) → IsProper g → AreForests g specs forests
    → is_safe g specs forests update ≡ true → does g update ≡ Ok h → AreForests h specs forests
safe_does g h specs forests update proper right safe done =
    subst (λ n. AreForests n specs forests) (does-accepted g h update done).1 (safe_changed g specs forests update proper right safe)

-- graphs of which the same forests are right have the same values
pub same_values : (g h : PlainGraph) (specs : List Spec) (forests : List Forest) → AreForests g specs forests → AreForests h specs forests
    → All (λ spec. (x : ℕ) → ¬ (Moves g h spec x)) specs
same_values g h specs forests before after =
    All-from_pairs (IsForest g) (IsForest h) (λ spec. (x : ℕ) → ¬ (Moves g h spec x))
    (λ spec F one two x m. (Moves-forests g h spec F F one two x).0 m refl) specs forests before after

-- so a safe update changes no value
pub safe_values : (g h : PlainGraph) (specs : List Spec) (forests : List Forest) (update : Update) → IsProper g → AreForests g specs forests
    → is_safe g specs forests update ≡ true → does g update ≡ Ok h → All (λ spec. (x : ℕ) → ¬ (Moves g h spec x)) specs
safe_values g h specs forests update proper right safe done =
    same_values g h specs forests right (safe_does g h specs forests update proper right safe done)

-- Later graphs

-- an update that keeps the vertices keeps them
pub has_vertex-safe : (g : PlainGraph) (update : Update) → keeps_vertices g update ≡ true → (x : ℕ) → has_vertex (changed g update) x ≡ has_vertex g x
has_vertex-safe g (AddV y) keeps x = rw keeps refl
has_vertex-safe g (DelV y) keeps x = absurd (true≢false (sym keeps))
has_vertex-safe g (AddE u v w) keeps x = refl
has_vertex-safe g (DelE u v w) keeps x = refl
has_vertex-safe g (SetW u v w w2) keeps x = absurd (true≢false (sym keeps))

-- graphs of one format with the same vertices
pub record SameVertices (g h : PlainGraph) : Type 0 where
  pub format : h.format ≡ g.format
  pub vertices : (x : ℕ) → has_vertex h x ≡ has_vertex g x

-- what doesn't hang on analyses is the same in both
is_sound-same : (g h : PlainGraph) → SameVertices g h → (update : Update) → is_sound h update ≡ is_sound g update
is_sound-same g h same (AddV x) = rw (same.vertices x) refl
is_sound-same g h same (DelV x) = rw (same.vertices x) refl
is_sound-same g h same (AddE u v w) = rw (same.format, same.vertices u, same.vertices v) refl
is_sound-same g h same (DelE u v w) = rw (same.format, same.vertices u, same.vertices v) refl
is_sound-same g h same (SetW u v w w2) = rw (same.format, same.vertices u, same.vertices v) refl

-- whether an update leaves each parent a copy of its triple: where it takes one there is another, or no forest uses the triple
abbrev pub leaves_parents : PlainGraph → List Forest → Update → Bool
leaves_parents h forests (AddV x) = true
leaves_parents h forests (DelV x) = true
leaves_parents h forests (AddE u v w) = true
leaves_parents h forests (DelE u v w) = nat_le 2 (copies h (triple u v w)) || not (is_used forests (triple u v w))
leaves_parents h forests (SetW u v w w2) = true

-- so it is safe for each analysis if it was so for another graph
each_later : (g h : PlainGraph) (specs : List Spec) (forests : List Forest) (update : Update) → leaves_parents h forests update ≡ true
    → each_pair (λ spec F. is_safe_for g spec F update) specs forests ≡ true → each_pair (λ spec F. is_safe_for h spec F update) specs forests ≡ true
each_later g h specs forests (AddV x) leaves each = each
each_later g h specs forests (DelV x) leaves each = each
each_later g h specs forests (AddE u v w) leaves each = each
each_later g h specs forests (SetW u v w w2) leaves each = each
each_later g h specs forests (DelE u v w) leaves each = go specs forests each (or_cases (nat_le 2 (copies h t)) (not (is_used forests t)) leaves)
  where
    t : Triple
    t = triple u v w

    go : (specs : List Spec) (forests : List Forest) → each_pair (λ spec F. is_safe_for g spec F (DelE u v w)) specs forests ≡ true
        → (nat_le 2 (copies h t) ≡ true) ⊎ (not (is_used forests t) ≡ true)
        → each_pair (λ spec F. is_safe_for h spec F (DelE u v w)) specs forests ≡ true
    go [] [] k some = refl
    go [] (F ∷ forests) k some = k
    go (spec ∷ specs) [] k some = k
    go (spec ∷ specs) (F ∷ forests) k (inl two) =
        let rest = and_parts (is_safe_for g spec F (DelE u v w)) _ k in
        and_from (nat_le 2 (copies h t) || not (uses F t)) _ (or_left (nat_le 2 (copies h t)) (not (uses F t)) two) (go specs forests rest.1 (inl two))
    go (spec ∷ specs) (F ∷ forests) k (inr free) =
        let rest = and_parts (is_safe_for g spec F (DelE u v w)) _ k in
        let parts = or_parts (uses F t) (is_used forests t) (not-true (is_used (F ∷ forests) t) free) in
        and_from (nat_le 2 (copies h t) || not (uses F t)) _ (or_right (nat_le 2 (copies h t)) (not (uses F t)) (ap not parts.0))
        (go specs forests rest.1 (inr (ap not parts.1)))

-- an update that was safe is safe on a later graph with the same vertices, unless it takes the last copy of a triple that a
-- forest uses
pub safe_later : (g h : PlainGraph) (specs : List Spec) (forests : List Forest) (update : Update) → SameVertices g h
    → is_safe g specs forests update ≡ true → leaves_parents h forests update ≡ true → is_safe h specs forests update ≡ true
safe_later g h specs forests update same safe leaves =
    let parts = and_parts (is_sound g update) _ safe in
    and_from (is_sound h update) _ (is_sound-same g h same update ∙ parts.0) (each_later g h specs forests update leaves parts.1)

-- a safe update leads to such a graph
pub SameVertices-safe : (g : PlainGraph) (specs : List Spec) (forests : List Forest) (update : Update) → is_safe g specs forests update ≡ true
    → SameVertices g (changed g update)
SameVertices-safe g specs forests update safe = record {
  format = format-changed g update;
  vertices = has_vertex-safe g update (safe_parts g specs forests update safe).vertices;
}

-- Requests of one part

-- a candidate keeps all right forests right, whether it is accepted or refused
pub candidate_entered : (g : PlainGraph) (specs : List Spec) (forests : List Forest) (parts : List Update) → IsProper g → AreForests g specs forests
    → is_candidate g specs forests parts ≡ true → AreForests (entered g parts) specs forests
candidate_entered g specs forests [] proper right h = absurd (true≢false (sym h))
candidate_entered g specs forests (update ∷ next ∷ parts) proper right h = absurd (true≢false (sym h))
candidate_entered g specs forests (update ∷ []) proper right h = go (does g update) refl
  where
    go : (r : Result PlainGraph Objection) → does g update ≡ r → AreForests (entered g (update ∷ [])) specs forests
    go (Ok now) e = subst (λ n. AreForests n specs forests) (sym (entered-one g now update e)) (safe_does g now specs forests update proper right h e)
    go (Err why) e = subst (λ n. AreForests n specs forests)
        (sym (entered-refused g (update ∷ []) (record { part = 1; why = why }) (refusal_of-one_refused g update why e))) right
