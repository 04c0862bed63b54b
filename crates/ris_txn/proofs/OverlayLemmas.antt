-- Overlays after one note more: which graph they show.
use Rattle.std.proofs.Common.{◌≡◌, ◌≢◌, ℕ, ◌+◌, ◌-◌, ◌<◌, ◌≤◌, Bool, true, false, not, ◌&&◌, ◌||◌, nat_le, cond, if◌then◌else◌, ◌⊎◌, ◌↔◌, inl, inr, Option, Some, unwrap_or, arith, refl, sym, subst, ap, ◌∙◌}
use Rattle.std.proofs.lemmas.Bool.{cases_Bool, cases_eq, eq-eqb, ne_eqb, false_from_ne_true}
use Rattle.ris_base.specs.Effect.{changed}
use Rattle.ris_base.specs.Graph.{is_equal}
use Rattle.ris_base.specs.declared.graphs.PlainGraph.{PlainGraph}
use Rattle.ris_base.specs.declared.graphs.Triple.{Triple}
use Rattle.ris_base.specs.declared.updates.Update.{Update}
use Rattle.ris_base.specs.declared.updates.Update.TheVariants.{AddV, DelV, AddE, DelE}
use Rattle.ris_base.proofs.EffectLemmas.{copies_after, copies-changed, vertex_after, has_vertex-changed, format-changed, equal_itself, same_from_equal, one_if}
use Rattle.ris_graph.specs.GraphView.{GraphView}
use Rattle.ris_txn.specs.Judging.{IsStep}
use Rattle.ris_txn.specs.Overlays.{AreBelow, PutsTriple, PutsVertex, Shows, copies_over, triple_note, vertex_note}
use Rattle.ris_txn.specs.declared.overlays.Overlay.{Overlay}
use Rattle.ris_txn.specs.declared.overlays.TripleNote.{TripleNote}
use Rattle.ris_txn.specs.declared.overlays.VertexNote.{VertexNote}

-- Notes

-- what a map says after one entry more, with a default
pub unwrap_or-put : {X : Type 0} (b : Bool) (x : X) (o : Option X) (d : X) → unwrap_or (cond b (Some x) o) d ≡ (if b then x else unwrap_or o d)
unwrap_or-put true x o d = refl
unwrap_or-put false x o d = refl

or_true : (a : Bool) → true ≡ (a || true)
or_true true = refl
or_true false = refl

or_false : (a : Bool) → a ≡ (a || false)
or_false true = refl
or_false false = refl

pub and_false : (a : Bool) → (a && false) ≡ false
and_false true = refl
and_false false = refl

-- a test of numbers
le_test : (m n : ℕ) → m ≤ n → nat_le m n ≡ true
le_test m n h = grind arith

pub gt_test : (m n : ℕ) → n < m → nat_le m n ≡ false
gt_test m n h = grind arith

module _ (g : GraphView) (old new : Overlay) where
  -- notes that show what a part makes of each vertex and triple show what it makes of the graph
  shows-changed : (part : Update) → ((x : ℕ) → (vertex_note g new x).present ≡ vertex_after (vertex_note g old x).present part x)
      → ((t : Triple) → copies_over g new t ≡ copies_after (copies_over g old t) part t)
      → (p : PlainGraph) → Shows g old p → Shows g new (changed p part)
  shows-changed part vertices triples p s = record {
    format = format-changed p part ∙ s.format;
    vertices = λ x. vertices x ∙ ap (λ b. vertex_after b part x) (s.vertices x) ∙ sym (has_vertex-changed p part x);
    triples = λ t. triples t ∙ ap (λ n. copies_after n part t) (s.triples t) ∙ sym (copies-changed p part t);
  }

  -- a triple has as many copies as it had where no end of it was dropped anew
  copies-same : (t : Triple) → ((x : ℕ) → (vertex_note g new x).dropped ≡ (vertex_note g old x).dropped) → triple_note g new t ≡ triple_note g old t
      → copies_over g new t ≡ copies_over g old t
  copies-same t dropped note = rw (dropped t.source, dropped t.target, note) refl

  -- where no vertex was dropped anew, the dropped vertices are those that were
  dropped-same : (part : Update) → ((x : ℕ) → (vertex_note g new x).dropped ≡ (vertex_note g old x).dropped) → ((x : ℕ) → part ≢ DelV x)
      → (x : ℕ) → (0 < (vertex_note g new x).dropped) ↔ ((0 < (vertex_note g old x).dropped) ⊎ (part ≡ DelV x))
  dropped-same part same other x = (
    λ h. inl (subst (λ n. 0 < n) (same x) h),
    λ h. elim h [ inl before ↦ subst (λ n. 0 < n) (sym (same x)) before | inr is ↦ absurd (other x is) ],
  )

  -- A vertex

  module _ (x : ℕ) (note : VertexNote) (puts : PutsVertex old new x note) where
    vertex-here : vertex_note g new x ≡ note
    vertex-here = puts.vertices g x ∙ rw (eq-eqb x x refl) refl

    vertex-other : (y : ℕ) → y ≢ x → vertex_note g new y ≡ vertex_note g old y
    vertex-other y apart = puts.vertices g y ∙ rw (ne_eqb x y (λ e. apart (sym e))) refl

  -- the step of a part that adds a vertex
  pub added-step : (x number : ℕ) → AreBelow g old number → PutsVertex old new x (record (vertex_note g old x) { present = true }) → IsStep g old new (AddV x) number
  added-step x number below puts =
      let note : VertexNote = record (vertex_note g old x) { present = true } in
      let dropped : (y : ℕ) → (vertex_note g new y).dropped ≡ (vertex_note g old y).dropped
      = λ y. elim (cases_eq y x) [
        | inl same ↦ ap (λ (n : VertexNote). n.dropped) (subst (λ z. vertex_note g new z ≡ note) (sym same) (vertex-here x note puts)) ∙ ap (λ z. (vertex_note g old z).dropped) (sym same)
        | inr apart ↦ ap (λ (n : VertexNote). n.dropped) (vertex-other x note puts y apart)
      ] in
      let present : (y : ℕ) → (vertex_note g new y).present ≡ vertex_after (vertex_note g old y).present (AddV x) y
      = λ y. elim (cases_eq y x) [
        | inl same ↦ ap (λ (n : VertexNote). n.present) (subst (λ z. vertex_note g new z ≡ note) (sym same) (vertex-here x note puts)) ∙ or_true (vertex_note g old y).present
            ∙ ap (λ b. (vertex_note g old y).present || b) (sym (eq-eqb x y (sym same)))
        | inr apart ↦ ap (λ (n : VertexNote). n.present) (vertex-other x note puts y apart) ∙ or_false (vertex_note g old y).present
            ∙ ap (λ b. (vertex_note g old y).present || b) (sym (ne_eqb x y (λ e. apart (sym e))))
      ] in
      record {
        below = record {
          vertices = λ y. (let same = dropped y in let before = below.vertices y in omega arith);
          triples = λ t. (let same = ap (λ (n : TripleNote). n.part) (puts.triples g t) in let before = below.triples t in omega arith);
        };
        shows = shows-changed (AddV x) present (λ t. copies-same t dropped (puts.triples g t));
        dropped = dropped-same (AddV x) dropped (λ y is. cc);
        before = λ t. ap (λ (n : TripleNote). n.before) (puts.triples g t);
      }

  -- the step of a part that drops a vertex
  pub dropped-step : (x number : ℕ) → AreBelow g old number → PutsVertex old new x (record { dropped = number; present = false }) → IsStep g old new (DelV x) number
  dropped-step x number below puts =
      let some : 0 < number = (let before = below.vertices x in omega arith) in
      let note : VertexNote = record { dropped = number; present = false } in
      let here : vertex_note g new x ≡ note = vertex-here x note puts in
      let gone : (y : ℕ) → y ≡ x → vertex_note g new y ≡ note = λ y same. subst (λ z. vertex_note g new z ≡ note) (sym same) here in
      let other : (y : ℕ) → y ≢ x → vertex_note g new y ≡ vertex_note g old y = vertex-other x note puts in
      let present : (y : ℕ) → (vertex_note g new y).present ≡ vertex_after (vertex_note g old y).present (DelV x) y
      = λ y. elim (cases_eq y x) [
        | inl same ↦ ap (λ (n : VertexNote). n.present) (gone y same) ∙ ap (λ b. not b && (vertex_note g old y).present) (sym (eq-eqb y x same))
        | inr apart ↦ ap (λ (n : VertexNote). n.present) (other y apart) ∙ ap (λ b. not b && (vertex_note g old y).present) (sym (ne_eqb y x apart))
      ] in
      let copies : (t : Triple) → copies_over g new t ≡ copies_after (copies_over g old t) (DelV x) t
      = λ t. (let late = below.triples t in
      let part = ap (λ (n : TripleNote). n.part) (puts.triples g t) in
      elim (cases_eq t.source x) [
        | inl same ↦ rw (gone t.source same, gt_test number (triple_note g new t).part (omega arith), eq-eqb t.source x same) refl
        | inr apart ↦ elim (cases_eq t.target x) [
          | inl same ↦ rw (
            gone t.target same,
            gt_test number (triple_note g new t).part (omega arith),
            and_false (nat_le (vertex_note g new t.source).dropped (triple_note g new t).part),
            ne_eqb t.source x apart,
            eq-eqb t.target x same,
          ) refl
          | inr beside ↦ rw (other t.source apart, other t.target beside, puts.triples g t, ne_eqb t.source x apart, ne_eqb t.target x beside) refl
        ]
      ]) in
      record {
        below = record {
          vertices = λ y. elim (cases_eq y x) [
            | inl same ↦ (let is = ap (λ (n : VertexNote). n.dropped) (gone y same) in omega arith)
            | inr apart ↦ (let is = ap (λ (n : VertexNote). n.dropped) (other y apart) in let before = below.vertices y in omega arith)
          ];
          triples = λ t. (let same = ap (λ (n : TripleNote). n.part) (puts.triples g t) in let before = below.triples t in omega arith);
        };
        shows = shows-changed (DelV x) present copies;
        dropped = λ y. elim (cases_eq y x) [
          | inl same ↦ (λ h. inr (ap DelV (sym same)), λ h. (let is = ap (λ (n : VertexNote). n.dropped) (gone y same) in omega arith))
          | inr apart ↦ (let is = ap (λ (n : VertexNote). n.dropped) (other y apart) in (
            λ h. inl (omega arith),
            λ h. elim h [ inl before ↦ omega arith | inr named ↦ absurd (apart (let e : x ≡ y = cc in sym e)) ],
          ))
        ];
        before = λ t. ap (λ (n : TripleNote). n.before) (puts.triples g t);
      }

  -- A triple

  module _ (t : Triple) (note : TripleNote) (puts : PutsTriple old new t note) (fresh : (x : ℕ) → (vertex_note g old x).dropped ≤ note.part) where
    triple-here : triple_note g new t ≡ note
    triple-here = puts.triples g t ∙ rw (equal_itself t) refl

    triple-other : (s : Triple) → is_equal t s ≡ false → triple_note g new s ≡ triple_note g old s
    triple-other s apart = puts.triples g s ∙ rw apart refl

    same-dropped : (x : ℕ) → (vertex_note g new x).dropped ≡ (vertex_note g old x).dropped
    same-dropped x = ap (λ (n : VertexNote). n.dropped) (puts.vertices g x)

    copies-here : copies_over g new t ≡ note.copies
    copies-here = rw (
      same-dropped t.source,
      same-dropped t.target,
      triple-here,
      le_test (vertex_note g old t.source).dropped note.part (fresh t.source),
      le_test (vertex_note g old t.target).dropped note.part (fresh t.target),
    ) refl

    copies-other : (s : Triple) → is_equal t s ≡ false → copies_over g new s ≡ copies_over g old s
    copies-other s apart = copies-same s same-dropped (triple-other s apart)

    -- the step of a part that changes the copies of a triple alone
    put-step : (part : Update) (number : ℕ) → AreBelow g old (number + 1) → note.part ≡ number → note.before ≡ (triple_note g old t).before
        → ((had : Bool) (x : ℕ) → vertex_after had part x ≡ had) → ((x : ℕ) → part ≢ DelV x)
        → note.copies ≡ copies_after (copies_over g old t) part t → ((n : ℕ) (s : Triple) → is_equal t s ≡ false → copies_after n part s ≡ n)
        → IsStep g old new part number
    put-step part number below at before kept other here there = record {
      below = record {
        vertices = λ x. (let same = same-dropped x in let b = below.vertices x in omega arith);
        triples = λ s. elim (cases_Bool (is_equal t s)) [
          | inl same ↦ (let is = ap (λ (n : TripleNote). n.part) (subst (λ r. triple_note g new r ≡ note) (same_from_equal t s same) triple-here) in omega arith)
          | inr apart ↦ (let is = ap (λ (n : TripleNote). n.part) (triple-other s apart) in let b = below.triples s in omega arith)
        ];
      };
      shows = shows-changed part (λ x. ap (λ (n : VertexNote). n.present) (puts.vertices g x) ∙ sym (kept (vertex_note g old x).present x))
          (λ s. elim (cases_Bool (is_equal t s)) [
            | inl same ↦ subst (λ r. copies_over g new r ≡ copies_after (copies_over g old r) part r) (same_from_equal t s same) (copies-here ∙ here)
            | inr apart ↦ copies-other s apart ∙ sym (there (copies_over g old s) s apart)
          ]);
      dropped = dropped-same part same-dropped other;
      before = λ s. elim (cases_Bool (is_equal t s)) [
        | inl same ↦ subst (λ r. (triple_note g new r).before ≡ (triple_note g old r).before) (same_from_equal t s same) (ap (λ (n : TripleNote). n.before) triple-here ∙ before)
        | inr apart ↦ ap (λ (n : TripleNote). n.before) (triple-other s apart)
      ];
    }

  -- triples that aren't the same count apart
  one_if-apart : (t s : Triple) → is_equal t s ≡ false → one_if (is_equal s t) ≡ 0
  one_if-apart t s apart = rw (false_from_ne_true (is_equal s t) (λ e. cc (apart, sym (equal_itself t), ap (is_equal t) (same_from_equal s t e)))) refl

  -- the step of a part that adds a copy
  pub more-step : (t : Triple) (number : ℕ) (note : TripleNote) → AreBelow g old (number + 1) → PutsTriple old new t note → note.part ≡ number
      → note.before ≡ (triple_note g old t).before → note.copies ≡ copies_over g old t + 1 → IsStep g old new (AddE t.source t.target t.weight) number
  more-step t number note below puts at before count =
      put-step t note puts (λ x. (let b = below.vertices x in omega arith)) (AddE t.source t.target t.weight) number below at before (λ had x. refl) (λ x is. cc)
      (count ∙ rw (equal_itself t) refl) (λ n s apart. (let none = one_if-apart t s apart in omega arith))

  -- the step of a part that takes a copy
  pub less-step : (t : Triple) (number : ℕ) (note : TripleNote) → AreBelow g old (number + 1) → PutsTriple old new t note → note.part ≡ number
      → note.before ≡ (triple_note g old t).before → note.copies ≡ copies_over g old t - 1 → IsStep g old new (DelE t.source t.target t.weight) number
  less-step t number note below puts at before count =
      put-step t note puts (λ x. (let b = below.vertices x in omega arith)) (DelE t.source t.target t.weight) number below at before (λ had x. refl) (λ x is. cc)
      (count ∙ rw (equal_itself t) refl) (λ n s apart. (let none = one_if-apart t s apart in omega arith))
