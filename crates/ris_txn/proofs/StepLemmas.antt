-- Parts tried on an overlay: which objections the graph has that it shows.
use Rattle.std.proofs.Common.{◌≡◌, ◌≢◌, ℕ, Bool, true, false, if◌then◌else◌, Option, Some, None, inl, inr, Ok, Err, Result, arith, refl, sym, subst, ap, ◌∙◌}
use Rattle.std.specs.Option.{IfSome, option_or, option_map}
use Rattle.std.proofs.lemmas.Bool.{false_from_ne_true}
use Rattle.ris_base.specs.Effect.{Objection, changed, first_past_limit, lacks_copy, objection}
use Rattle.ris_base.specs.Graph.{copies, greatest_weight, has_equal, has_vertex}
use Rattle.ris_base.specs.Limits.{greatest_of}
use Rattle.ris_base.specs.declared.graphs.PlainGraph.{PlainGraph}
use Rattle.ris_base.specs.declared.graphs.Triple.{Triple}
use Rattle.ris_base.specs.declared.updates.Update.{Update}
use Rattle.ris_base.specs.declared.updates.Update.TheVariants.{AddE, DelE, SetW}
use Rattle.ris_base.proofs.EffectLemmas.{HasTriple-copies, HasTriple-from_test, copies-HasTriple, has_equal-true}
use Rattle.ris_graph.specs.GraphView.{GraphView}
use Rattle.ris_txn.specs.Faults.{said}
use Rattle.ris_txn.specs.Judging.{IsFault, IsFree, IsStep, lacking}
use Rattle.ris_txn.specs.Overlays.{Shows, copies_over, standing_in, triple_note, vertex_note}
use Rattle.ris_txn.specs.declared.faults.Fault.{Fault}
use Rattle.ris_txn.specs.declared.faults.Fault.TheVariants as fault
use Rattle.ris_txn.specs.declared.overlays.Overlay.{Overlay}
use Rattle.ris_txn.specs.declared.overlays.TripleNote.{TripleNote}

-- Copies

-- a graph without copies of a triple doesn't have it
pub has_equal-none : (p : PlainGraph) (t : Triple) → copies p t ≡ 0 → has_equal p t ≡ false
has_equal-none p t none = false_from_ne_true (has_equal p t) (λ e. (let some = copies-HasTriple p t (HasTriple-from_test p t e) in omega arith))

pub has_equal-some : (p : PlainGraph) (t : Triple) → copies p t ≢ 0 → has_equal p t ≡ true
has_equal-some p t some = has_equal-true p t (HasTriple-copies p t (omega arith))

-- Limits

module _ (g : GraphView) (o : Overlay) (part : Update) where
  -- the objections to an update that is past no limit are the others
  objection-within : first_past_limit (greatest_of g.format) part ≡ None → (p : PlainGraph) → Shows g o p → objection p part ≡ lacking p part
  objection-within within p s =
      let none : first_past_limit (greatest_weight p) part ≡ None = ap (λ f. first_past_limit (greatest_of f) part) s.format ∙ within in
      rw none refl

  pub fault-within : first_past_limit (greatest_of g.format) part ≡ None → (f : Fault) → IsFault lacking g o part f → IsFault objection g o part f
  fault-within within f h p s = subst (λ x. IfSome (said f) (λ why. x ≡ Some why)) (sym (objection-within within p s)) (h p s)

-- what one graph has no objection to can't be objected to
no_fault : (x y : Option Objection) (o : Option Objection) → x ≡ None → IfSome o (λ why. x ≡ Some why) → IfSome o (λ why. y ≡ Some why)
no_fault x y None none h = tt
no_fault x y (Some why) none h = absurd (cc)

-- A changed weight

module _ (g : GraphView) (old mid : Overlay) (u v w w2 : ℕ) where
  -- a copy is taken, and one of another weight comes
  pub set-step : (new : Overlay) (number : ℕ) → IsStep g old mid (DelE u v w) number → IsStep g mid new (AddE u v w2) number → IsStep g old new (SetW u v w w2) number
  set-step new number less more = record {
    below = more.below;
    shows = λ p s. more.shows (changed p (DelE u v w)) (less.shows p s);
    dropped = λ x. (
      λ h. elim ((more.dropped x).0 h) [
        | inl before ↦ elim ((less.dropped x).0 before) [ inl was ↦ inl was | inr is ↦ absurd (cc) ]
        | inr is ↦ absurd (cc)
      ],
      λ h. elim h [ inl was ↦ (more.dropped x).1 (inl ((less.dropped x).1 (inl was))) | inr is ↦ absurd (cc) ],
    );
    before = λ t. more.before t ∙ less.before t;
  }

  -- a copy that was taken leaves both ends, so that the other can come
  pub set-fault : (number : ℕ) (f : Fault) → IsStep g old mid (DelE u v w) number → IsFree lacking g old (DelE u v w) → IsFault lacking g mid (AddE u v w2) f → IsFault lacking g old (SetW u v w w2) f
  set-fault number f less free h p s =
      let q = changed p (DelE u v w) in
      let ends : lacking q (AddE u v w2) ≡ None = both (has_vertex p u) (has_vertex p v) (lacks_copy p (DelE u v w)) (free p s) in
      no_fault (lacking q (AddE u v w2)) (lacking p (SetW u v w w2)) (said f) ends (h q (less.shows p s))
    where
      both : (a b c : Bool) → ◌≡◌ {A = Option Objection} (option_or (option_map Objection.NoVertex (option_or (if a then None else Some u) (if b then None else Some v))) (if c then Some Objection.NoEdge else None)) None
          → ◌≡◌ {A = Option Objection} (option_or (option_map Objection.NoVertex (option_or (if a then None else Some u) (if b then None else Some v))) None) None
      both true true c e = refl
      both true false c e = absurd (cc)
      both false b c e = absurd (cc)

module _ (g : GraphView) (o : Overlay) where
  -- Ends

  -- both ends of a triple are there, and this is its note with the copies now
  pub record IsStanding (t : Triple) (n : TripleNote) : Type 0 where
    pub source : (vertex_note g o t.source).present ≡ true
    pub target : (vertex_note g o t.target).present ≡ true
    pub before : n.before ≡ (triple_note g o t).before
    pub copies : n.copies ≡ copies_over g o t

  pub standing : (t : Triple) (n : TripleNote) → Ok n ≡ standing_in g o t → IsStanding t n
  standing t n e = go (vertex_note g o t.source).present (vertex_note g o t.target).present refl refl e
    where
      go : (a b : Bool) → (vertex_note g o t.source).present ≡ a → (vertex_note g o t.target).present ≡ b
          → ◌≡◌ {A = Result TripleNote Fault} (Ok n) (if a then (if b then Ok (record (triple_note g o t) { copies = copies_over g o t }) else Err (fault.NoVertex t.target)) else Err (fault.NoVertex t.source))
          → IsStanding t n
      go true true source target is =
          let same : n ≡ record (triple_note g o t) { copies = copies_over g o t } = cc in
          record { source = source; target = target; before = ap (λ (m : TripleNote). m.before) same; copies = ap (λ (m : TripleNote). m.copies) same }
      go true false source target is = absurd (cc)
      go false b source target is = absurd (cc)

  -- Copies to take

  -- there is no copy of a triple between vertices that are there
  pub copyless-fault : (t : Triple) (n : TripleNote) → Ok n ≡ standing_in g o t → n.copies ≡ 0 → IsFault lacking g o (DelE t.source t.target t.weight) fault.NoEdge
  copyless-fault t n e none p s =
      let at = standing t n e in
      let source : has_vertex p t.source ≡ true = sym (s.vertices t.source) ∙ at.source in
      let target : has_vertex p t.target ≡ true = sym (s.vertices t.target) ∙ at.target in
      let lacks : has_equal p t ≡ false = has_equal-none p t (sym (s.triples t) ∙ sym at.copies ∙ none) in
      rw (source, target, lacks) refl

  -- and there is one
  pub copied-free : (t : Triple) (n : TripleNote) → Ok n ≡ standing_in g o t → n.copies ≢ 0 → IsFree lacking g o (DelE t.source t.target t.weight)
  copied-free t n e some p s =
      let at = standing t n e in
      let source : has_vertex p t.source ≡ true = sym (s.vertices t.source) ∙ at.source in
      let target : has_vertex p t.target ≡ true = sym (s.vertices t.target) ∙ at.target in
      let has : has_equal p t ≡ true = has_equal-some p t (λ none. some (at.copies ∙ s.triples t ∙ none)) in
      rw (source, target, has) refl
