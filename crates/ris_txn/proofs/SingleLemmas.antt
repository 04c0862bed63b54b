-- Requests of a single part that adds or takes a copy of an edge.
use Rattle.std.proofs.Common.{◌≡◌, ◌≢◌, ℕ, ◌+◌, ◌-◌, true, false, List, [], ◌∷◌, length, Some, None, Ok, inl, inr, arith, refl, sym, subst, ap, ◌∙◌}
use Rattle.std.specs.List.{Contains, slice_get}
use Rattle.std.specs.Option.{IfSome}
use Rattle.std.proofs.lemmas.Bool.{cases_Bool, cond-false, cond-true}
use Rattle.std.proofs.lemmas.List.Elements.{All-cons, All-nil}
use Rattle.std.proofs.lemmas.List.Kept.{AllPairs-cons}
use Rattle.ris_base.specs.Effect.{Objection, changed, does, first_past_limit, objection}
use Rattle.ris_base.specs.Graph.{IsProper, copies, greatest_weight, has_equal, has_vertex, is_equal, triple}
use Rattle.ris_base.specs.Limits.{greatest_of}
use Rattle.ris_base.specs.Requests.{entered, refusal_of}
use Rattle.ris_base.specs.declared.graphs.Format.{Format}
use Rattle.ris_base.specs.declared.graphs.PlainGraph.{PlainGraph}
use Rattle.ris_base.specs.declared.graphs.Triple.{Triple}
use Rattle.ris_base.specs.declared.updates.Update.{Update}
use Rattle.ris_base.specs.declared.updates.Update.TheVariants.{DelV, AddE, DelE}
use Rattle.ris_base.proofs.EffectLemmas.{allowed, copies-changed, does-changed, does-refused, equal_itself, objection-none, same_from_equal}
use Rattle.ris_base.proofs.ListLemmas.{Contains-first, Contains-none, Contains-one, EachOnce-nil}
use Rattle.ris_base.proofs.RequestLemmas.{entered-one, refusal_of-one, refusal_of-one_refused}
use Rattle.ris_graph.specs.GraphView.{GraphView, IsOf, vertex_in}
use Rattle.ris_graph.specs.Nets.{IsCounted, IsNet}
use Rattle.ris_graph.specs.declared.nets.NetTriple.{NetTriple}
use Rattle.ris_graph.proofs.ListFacts.{AllPairs-nil}
use Rattle.ris_txn.specs.Faults.{refusal_at, said}
use Rattle.ris_txn.specs.Refusals.{IsRefusal}
use Rattle.ris_txn.specs.Singles.{IsLone, IsReason, IsStandingEdge, lone_net, moves_copy}
use Rattle.ris_txn.specs.declared.faults.Fault.{Fault}
use Rattle.ris_txn.specs.declared.faults.Fault.TheVariants as fault
use Rattle.ris_txn.proofs.JudgeLemmas.{vertex_in-of}
use Rattle.ris_txn.proofs.StepLemmas.{has_equal-none, has_equal-some}

-- the only part of a request
pub only-part : (parts : List Update) (part : Update) → length parts ≡ 1 → Some part ≡ slice_get parts 0 → part ∷ [] ≡ parts
only-part [] part one at = absurd (omega arith)
only-part (first ∷ []) part one at = (let same : part ≡ first = cc in ap (λ (u : Update). u ∷ []) same)
only-part (first ∷ second ∷ rest) part one at = absurd (omega arith)

-- The refusal

-- why the only part isn't taken, as the request's refusal says it
pub reason-refusal : (g : GraphView) (part : Update) (front : ℕ) (f : Fault) → IsReason g part f → (p : PlainGraph) → IsOf g p → IsRefusal p (part ∷ []) front (refusal_at front 1 f)
reason-refusal g part front f reason p of = go f (reason p of)
  where
    refused : (why : Objection) → objection p part ≡ Some why → refusal_of p (part ∷ []) ≡ Some (record { part = 1; why = why })
    refused why h = refusal_of-one_refused p part why (does-refused p part why h)

    go : (f : Fault) → IfSome (said f) (λ why. objection p part ≡ Some why) → IsRefusal p (part ∷ []) front (refusal_at front 1 f)
    go (fault.Limit given) h = inr (record { part = 1; why = Objection.Limit given }, refused (Objection.Limit given) h, refl)
    go (fault.NoVertex id) h = inr (record { part = 1; why = Objection.NoVertex id }, refused (Objection.NoVertex id) h, refl)
    go fault.NoEdge h = inr (record { part = 1; why = Objection.NoEdge }, refused Objection.NoEdge h, refl)
    go fault.NoMemory h = inl refl

-- The ends

module _ (g : GraphView) (u v w : ℕ) (format : Format) (same : format ≡ g.format) (within : None ≡ first_past_limit (greatest_of format) (AddE u v w)) where
  -- no number is past its limit
  within-of : (p : PlainGraph) → IsOf g p → first_past_limit (greatest_weight p) (AddE u v w) ≡ None
  within-of p of = ap (λ f. first_past_limit (greatest_of f) (AddE u v w)) (of.format ∙ sym same) ∙ sym within

  -- the source is missing
  pub source-reason : false ≡ vertex_in g u → IsReason g (AddE u v w) (fault.NoVertex u) × IsReason g (DelE u v w) (fault.NoVertex u)
  source-reason source = (
    λ p of. rw (within-of p of, lacks p of) refl,
    λ p of. rw (within-of p of, lacks p of) refl,
  )
    where
      lacks : (p : PlainGraph) → IsOf g p → has_vertex p u ≡ false
      lacks p of = sym (vertex_in-of g p of u) ∙ sym source

  -- the source is there, and the target is missing
  pub target-reason : true ≡ vertex_in g u → false ≡ vertex_in g v → IsReason g (AddE u v w) (fault.NoVertex v) × IsReason g (DelE u v w) (fault.NoVertex v)
  target-reason source target = (
    λ p of. rw (within-of p of, has p of, lacks p of) refl,
    λ p of. rw (within-of p of, has p of, lacks p of) refl,
  )
    where
      has : (p : PlainGraph) → IsOf g p → has_vertex p u ≡ true
      has p of = sym (vertex_in-of g p of u) ∙ sym source

      lacks : (p : PlainGraph) → IsOf g p → has_vertex p v ≡ false
      lacks p of = sym (vertex_in-of g p of v) ∙ sym target

-- The net

-- two triples of a net aren't the same
abbrev AreApart : NetTriple → NetTriple → Type 0
AreApart a b = is_equal a.triple b.triple ≢ true

-- the net of a part that leaves the vertices as they are, and the copies of all triples but one
lone-is : (p : PlainGraph) (part : Update) (t : NetTriple) → IsProper p → objection p part ≡ None → moves_copy part ≡ true → (changed p part).vertices ≡ p.vertices
    → t.before ≡ copies p t.triple → t.after ≡ copies (changed p part) t.triple
    → ((s : Triple) → is_equal s t.triple ≡ false → copies p s ≡ copies (changed p part) s) → IsNet p (part ∷ []) (lone_net t)
lone-is p part t proper free moves vertices before after others = record {
  proper = proper;
  accepted = refusal_of-one p (changed p part) part accepts;
  dropped_once = EachOnce-nil;
  dropped = λ x. (λ h. absurd (Contains-none x h), λ h. absurd (kept x (Contains-one part (DelV x) h.1)));
  added_once = EachOnce-nil;
  added = λ x. (
    λ h. absurd (Contains-none x h),
    λ h. absurd (elim h.1 [ inl other ↦ other (subst (λ (xs : List ℕ). Contains xs x) (ap (λ (q : PlainGraph). q.vertices) whole ∙ vertices) h.0) | inr drop ↦ Contains-none x drop ]),
  );
  once = AllPairs-cons AreApart t [] (All-nil (AreApart t)) (AllPairs-nil AreApart);
  counted = All-cons (IsCounted p (part ∷ [])) t [] (record { before = before; after = after ∙ ap (λ (q : PlainGraph). copies q t.triple) (sym whole) }) (All-nil (IsCounted p (part ∷ [])));
  covered = λ s differ. (
    t,
    Contains-first t [],
    elim (cases_Bool (is_equal s t.triple)) [
      | inl same ↦ sym (same_from_equal s t.triple same)
      | inr other ↦ absurd (differ (others s other ∙ ap (λ (q : PlainGraph). copies q s) (sym whole)))
    ],
  );
}
  where
    accepts : does p part ≡ Ok (changed p part)
    accepts = does-changed p part free

    whole : entered p (part ∷ []) ≡ changed p part
    whole = entered-one p (changed p part) part accepts

    kept : (x : ℕ) → part ≡ DelV x → ⊥
    kept x is = (let e : false ≡ true = ap moves_copy (sym is) ∙ moves in cc)

module _ (g : GraphView) (u v w : ℕ) (found : Triple × ℕ) (standing : IsStandingEdge g u v w found) where
  -- the copies of the edge
  before-is : (p : PlainGraph) → IsOf g p → found.1 ≡ copies p (triple u v w)
  before-is p of = standing.copies ∙ of.triples found.0 ∙ ap (copies p) standing.edge

  -- one copy more
  pub added-lone : (after : ℕ) → after ≡ found.1 + 1 → IsLone g (AddE u v w) (record { triple = found.0; before = found.1; after = after })
  added-lone after is p of =
      subst (λ (e : Triple). IsNet p (AddE u v w ∷ []) (lone_net (record { triple = e; before = found.1; after = after }))) (sym standing.edge)
      (lone-is p (AddE u v w) (record { triple = triple u v w; before = found.1; after = after }) of.proper (standing.free p of) refl refl (before-is p of)
      (let now = copies-changed p (AddE u v w) (triple u v w) in
      let one = cond-true {A = ℕ} (is_equal (triple u v w) (triple u v w)) 1 0 (equal_itself (triple u v w)) in
      let before = before-is p of in
      omega arith)
      (λ s apart. (let now = copies-changed p (AddE u v w) s in
      let none = cond-false {A = ℕ} (is_equal s (triple u v w)) 1 0 apart in
      omega arith)))

  -- there is no copy to take
  pub copyless-reason : found.1 ≡ 0 → IsReason g (DelE u v w) fault.NoEdge
  copyless-reason none p of =
      let free = allowed p (AddE u v w) (standing.free p of) in
      let lacks : has_equal p (triple u v w) ≡ false = has_equal-none p (triple u v w) (sym (before-is p of) ∙ none) in
      rw (free.within, free.present, lacks) refl

  -- one copy less
  pub taken-lone : (after : ℕ) → found.1 ≢ 0 → after ≡ found.1 - 1 → IsLone g (DelE u v w) (record { triple = found.0; before = found.1; after = after })
  taken-lone after some is p of =
      let free = allowed p (AddE u v w) (standing.free p of) in
      let has : has_equal p (triple u v w) ≡ true = has_equal-some p (triple u v w) (λ none. some (before-is p of ∙ none)) in
      subst (λ (e : Triple). IsNet p (DelE u v w ∷ []) (lone_net (record { triple = e; before = found.1; after = after }))) (sym standing.edge)
      (lone-is p (DelE u v w) (record { triple = triple u v w; before = found.1; after = after }) of.proper
      (objection-none p (DelE u v w) (record { within = free.within; present = free.present; copy = rw has refl })) refl refl (before-is p of)
      (let now = copies-changed p (DelE u v w) (triple u v w) in
      let one = cond-true {A = ℕ} (is_equal (triple u v w) (triple u v w)) 1 0 (equal_itself (triple u v w)) in
      let before = before-is p of in
      omega arith)
      (λ s apart. (let now = copies-changed p (DelE u v w) s in
      let none = cond-false {A = ℕ} (is_equal s (triple u v w)) 1 0 apart in
      omega arith)))
