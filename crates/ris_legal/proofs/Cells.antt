-- Cells commute: in any order that keeps each stripe's, each applied candidate is still safe and accepted where it stands, and each
-- refused one is refused there.
use Rattle.std.proofs.Common.{◌≡◌, ◌≢◌, ℕ, ◌+◌, ◌-◌, ◌%◌, Bool, true, false, not, ◌==◌, ◌&&◌, ◌||◌, if◌then◌else◌, List, [], ◌∷◌, ◌++◌, None, Ok, Err, arith, refl, sym, subst, ap, ◌∙◌, cond, eq-eqb}
use Rattle.std.specs.Prelude.{⊤, nat_le}
use Rattle.std.specs.List.{filter}
use Rattle.std.proofs.lemmas.Bool.{true≢false, eqb-true, eqb-false, le-leb, or_left, or_right, cond-true, cond-false}
use Rattle.std.proofs.lemmas.List.{append-nil}
use Rattle.std.proofs.lemmas.List.Elements.{filter-append}
use Rattle.ris_base.specs.Effect.{Objection, does, changed, first_missing, first_past_limit, lacks_copy}
use Rattle.ris_base.specs.Forest.{Forest, AreForests}
use Rattle.ris_base.specs.Graph.{IsProper, copies, greatest_weight, has_equal, is_equal, triple}
use Rattle.ris_base.specs.Machine.{Decided, applies, copies_after, copies_by, copies_of_parts, is_applied, stripe_of, verdict_at, verdict_of}
use Rattle.ris_base.specs.Safe.{is_safe, is_used}
use Rattle.ris_base.specs.declared.analyses.Spec.{Spec}
use Rattle.ris_base.specs.declared.events.Verdict.{Verdict}
use Rattle.ris_base.specs.declared.events.Verdict.TheVariants as verdict
use Rattle.ris_base.specs.declared.graphs.PlainGraph.{PlainGraph}
use Rattle.ris_base.specs.declared.graphs.Triple.{Triple}
use Rattle.ris_base.specs.declared.updates.Update.{Update}
use Rattle.ris_base.specs.declared.updates.Update.TheVariants.{AddV, DelV, AddE, DelE, SetW}
use Rattle.ris_base.proofs.EffectLemmas
use Rattle.ris_base.proofs.EffectLemmas.{IsAllowed, HasTriple-copies, HasTriple-from_test, copies-HasTriple, copies-changed, does-changed, does-refused, has_equal-true, objection-none, proper-changed, same_from_equal}
use Rattle.ris_algo.proofs.SafeUpdates.{SameVertices, SameVertices-safe, safe_changed, safe_later, safe_parts}
use Rattle.ris_legal.specs.Held.{AreVerdicts}

-- The order of a merge

-- the part of a log of one stripe
abbrev pub of_stripe : ℕ → Decided → Bool
of_stripe k d = stripe_of d.entry.parts == k

abbrev pub stripe_log : ℕ → List Decided → List Decided
stripe_log k log = filter (of_stripe k) log

-- each verdict of a merged order is that of a cell where those of its stripe stand that are before it
unfoldable pub AreMerged : PlainGraph → List Forest → List Decided → List Decided → Type 0
AreMerged g forests before [] = ⊤
AreMerged g forests before (d ∷ order) =
    (d.verdict ≡ verdict_of g forests (stripe_log (stripe_of d.entry.parts) before) d.entry.parts) × AreMerged g forests (before ++ d ∷ []) order

-- what an order with one decision in front says of it
pub merged-here : (g : PlainGraph) (forests : List Forest) (before order : List Decided) (d : Decided) → AreMerged g forests before (d ∷ order)
    → d.verdict ≡ verdict_of g forests (stripe_log (stripe_of d.entry.parts) before) d.entry.parts
unfolding AreMerged
merged-here g forests before order d h = h.0

pub merged-rest : (g : PlainGraph) (forests : List Forest) (before order : List Decided) (d : Decided) → AreMerged g forests before (d ∷ order)
    → AreMerged g forests (before ++ d ∷ []) order
unfolding AreMerged
merged-rest g forests before order d h = h.1

-- one more decision in the part of a stripe
merged-step : (g : PlainGraph) (forests : List Forest) (before order : List Decided) (d : Decided) (n : ℕ)
    → AreVerdicts g forests (stripe_log n before) (stripe_log n (d ∷ order)) → AreVerdicts g forests (stripe_log n (before ++ d ∷ [])) (stripe_log n order)
unfolding AreVerdicts
merged-step g forests before order d n h = rw (filter-append (of_stripe n) before (d ∷ [])) (go (of_stripe n d) h)
  where
    go : (b : Bool) → AreVerdicts g forests (stripe_log n before) (cond b (d ∷ stripe_log n order) (stripe_log n order))
        → AreVerdicts g forests (stripe_log n before ++ cond b (d ∷ []) []) (stripe_log n order)
    go true k = k.1
    go false k = rw (append-nil (stripe_log n before)) k

-- a merge of right logs is right
pub merged : (g : PlainGraph) (forests : List Forest) (before order : List Decided)
    → ((k : ℕ) → AreVerdicts g forests (stripe_log k before) (stripe_log k order)) → AreMerged g forests before order
unfolding AreVerdicts AreMerged
merged g forests before [] h = tt
merged g forests before (d ∷ order) h =
    let k = stripe_of d.entry.parts in
    let here : AreVerdicts g forests (stripe_log k before) (d ∷ stripe_log k order) =
    subst (λ (b : Bool). AreVerdicts g forests (stripe_log k before) (cond b (d ∷ stripe_log k order) (stripe_log k order))) (eq-eqb k k refl) (h k) in
    (here.0, merged g forests (before ++ d ∷ []) order (λ n. merged-step g forests before order d n (h n)))

-- A triple's copies hang on its own stripe's log alone

-- a part of another stripe changes no copies of a triple
other_stripe : (t : Triple) (k : ℕ) (parts : List Update) (n : ℕ) → t.source % 64 ≡ k → (stripe_of parts == k) ≡ false → copies_of_parts t n parts ≡ n
other_stripe t k [] n at other = refl
other_stripe t k (AddV x ∷ parts) n at other = refl
other_stripe t k (DelV x ∷ parts) n at other = refl
other_stripe t k (SetW u v w w2 ∷ parts) n at other = refl
other_stripe t k (AddE u v w ∷ parts) n at other = go (is_equal t (triple u v w)) refl
  where
    go : (b : Bool) → is_equal t (triple u v w) ≡ b → (if b then n + 1 else n) ≡ n
    go true e = absurd (true≢false (sym (eq-eqb (u % 64) k (ap (λ (s : Triple). s.source % 64) (sym (same_from_equal t (triple u v w) e)) ∙ at)) ∙ other))
    go false e = refl
other_stripe t k (DelE u v w ∷ parts) n at other = go (is_equal t (triple u v w)) refl
  where
    go : (b : Bool) → is_equal t (triple u v w) ≡ b → (if b then n - 1 else n) ≡ n
    go true e = absurd (true≢false (sym (eq-eqb (u % 64) k (ap (λ (s : Triple). s.source % 64) (sym (same_from_equal t (triple u v w) e)) ∙ at)) ∙ other))
    go false e = refl

-- so many copies behind one decision
abbrev by_decision : Triple → Decided → ℕ → ℕ
by_decision t d n = if is_applied d then copies_of_parts t n d.entry.parts else n

by_other : (t : Triple) (k : ℕ) (d : Decided) (n : ℕ) → t.source % 64 ≡ k → of_stripe k d ≡ false → by_decision t d n ≡ n
by_other t k d n at other = go (is_applied d)
  where
    go : (b : Bool) → (if b then copies_of_parts t n d.entry.parts else n) ≡ n
    go true = other_stripe t k d.entry.parts n at other
    go false = refl

pub copies-stripe : (t : Triple) (k : ℕ) (log : List Decided) (n : ℕ) → t.source % 64 ≡ k → copies_after t n (stripe_log k log) ≡ copies_after t n log
unfolding copies_after
copies-stripe t k [] n at = refl
copies-stripe t k (d ∷ log) n at = go (of_stripe k d) refl (λ m. copies-stripe t k log m at)
  where
    go : (b : Bool) → of_stripe k d ≡ b → ((m : ℕ) → copies_after t m (stripe_log k log) ≡ copies_after t m log)
        → copies_after t n (cond b (d ∷ stripe_log k log) (stripe_log k log)) ≡ copies_after t (by_decision t d n) log
    go true e more = more (by_decision t d n)
    go false e more = rw (by_other t k d n at e) (more n)

pub copies-more : (t : Triple) (log : List Decided) (d : Decided) (n : ℕ) → copies_after t n (log ++ d ∷ []) ≡ by_decision t d (copies_after t n log)
unfolding copies_after
copies-more t [] d n = refl
copies-more t (c ∷ log) d n = copies-more t log d (by_decision t c n)

-- where nothing is decided
copies-none : (t : Triple) (n : ℕ) → copies_after t n [] ≡ n
unfolding copies_after
copies-none t n = refl

-- The stages of the order

-- the graph h is where these decisions lead from g
pub record IsStage (g : PlainGraph) (specs : List Spec) (forests : List Forest) (before : List Decided) (h : PlainGraph) : Type 0 where
  pub vertices : SameVertices g h
  pub counts : (t : Triple) → copies h t ≡ copies_after t (copies g t) before
  pub proper : IsProper h
  pub right : AreForests h specs forests

-- nothing is decided
pub first-stage : (g : PlainGraph) (specs : List Spec) (forests : List Forest) → IsProper g → AreForests g specs forests → IsStage g specs forests [] g
first-stage g specs forests proper right = record {
  vertices = record { format = refl; vertices = λ x. refl };
  counts = λ t. sym (copies-none t (copies g t));
  proper = proper;
  right = right;
}

-- what becomes of a candidate where it stands
abbrev pub Follows : PlainGraph → List Spec → List Forest → List Decided → PlainGraph → Decided → Update → Verdict → Type 0
Follows g specs forests before h d part verdict.Applied =
    (is_safe h specs forests part ≡ true) × (does h part ≡ Ok (changed h part)) × IsStage g specs forests (before ++ d ∷ []) (changed h part)
Follows g specs forests before h d part verdict.NoEdge = (does h part ≡ Err Objection.NoEdge) × IsStage g specs forests (before ++ d ∷ []) h
Follows g specs forests before h d part verdict.Bounced = ⊤
Follows g specs forests before h d part verdict.Waiting = ⊥

-- a decision that changes nothing
stage-same : (g h : PlainGraph) (specs : List Spec) (forests : List Forest) (before : List Decided) (d : Decided) → IsStage g specs forests before h
    → is_applied d ≡ false → IsStage g specs forests (before ++ d ∷ []) h
stage-same g h specs forests before d stage none = record {
  vertices = stage.vertices;
  counts = λ t. stage.counts t ∙ sym (copies-more t before d (copies g t) ∙ cond-false {A = ℕ} (is_applied d) (copies_of_parts t (copies_after t (copies g t) before) d.entry.parts) (copies_after t (copies g t) before) none);
  proper = stage.proper;
  right = stage.right;
}

-- the two words for the copies behind a part that may be safe
same_copies : (h : PlainGraph) (t : Triple) (part : Update) (n : ℕ) (specs : List Spec) (forests : List Forest) → is_safe h specs forests part ≡ true
    → EffectLemmas.copies_after n part t ≡ copies_by t n part
same_copies h t (AddV x) n specs forests safe = refl
same_copies h t (DelV x) n specs forests safe = absurd (true≢false (sym (safe_parts h specs forests (DelV x) safe).vertices))
same_copies h t (SetW u v w w2) n specs forests safe = absurd (true≢false (sym (safe_parts h specs forests (SetW u v w w2) safe).vertices))
same_copies h t (AddE u v w) n specs forests safe = go (is_equal t (triple u v w))
  where
    go : (b : Bool) → n + (if b then 1 else 0) ≡ (if b then n + 1 else n)
    go true = refl
    go false = omega arith
same_copies h t (DelE u v w) n specs forests safe = go (is_equal t (triple u v w))
  where
    go : (b : Bool) → n - (if b then 1 else 0) ≡ (if b then n - 1 else n)
    go true = refl
    go false = omega arith

through-vertices : (g h now : PlainGraph) → SameVertices g h → SameVertices h now → SameVertices g now
through-vertices g h now one two = record { format = two.format ∙ one.format; vertices = λ x. two.vertices x ∙ one.vertices x }

-- a safe update that takes no missing copy is accepted, and leads to the next stage
stage-applied : (g h : PlainGraph) (specs : List Spec) (forests : List Forest) (before : List Decided) (d : Decided) (part : Update)
    → IsStage g specs forests before h → is_applied d ≡ true → d.entry.parts ≡ part ∷ [] → is_safe h specs forests part ≡ true
    → lacks_copy h part ≡ false
    → (does h part ≡ Ok (changed h part)) × IsStage g specs forests (before ++ d ∷ []) (changed h part)
stage-applied g h specs forests before d part stage applied parts safe copy =
    let its = safe_parts h specs forests part safe in
    let allowed : IsAllowed h part = record { within = its.within; present = its.present; copy = copy } in (
      does-changed h part (objection-none h part allowed),
      record {
        vertices = through-vertices g h (changed h part) stage.vertices (SameVertices-safe h specs forests part safe);
        counts = λ t.
            copies-changed h part t ∙ same_copies h t part (copies h t) specs forests safe ∙ ap (λ n. copies_by t n part) (stage.counts t)
            ∙ ap (λ ps. copies_of_parts t (copies_after t (copies g t) before) ps) (sym parts)
            ∙ sym (copies-more t before d (copies g t) ∙ cond-true {A = ℕ} (is_applied d) (copies_of_parts t (copies_after t (copies g t) before) d.entry.parts) (copies_after t (copies g t) before) applied);
        proper = proper-changed h part stage.proper allowed;
        right = safe_changed h specs forests part stage.proper stage.right safe;
      },
    )

-- what a deletion's verdict says of the copies, of which there are n
abbrev DelCase : ℕ → Bool → Verdict → Type 0
DelCase n used verdict.NoEdge = n ≡ 0
DelCase n used verdict.Bounced = ⊤
DelCase n used verdict.Waiting = ⊥
DelCase n used verdict.Applied = (n ≢ 0) × ((nat_le 2 n || not used) ≡ true)

del_case : (n : ℕ) (used : Bool) → DelCase n used (if n == 0 then verdict.NoEdge else (if (n == 1) && used then verdict.Bounced else verdict.Applied))
del_case n used = go (n == 0) (n == 1) used refl refl refl
  where
    go : (a b u : Bool) → (n == 0) ≡ a → (n == 1) ≡ b → used ≡ u
        → DelCase n used (if a then verdict.NoEdge else (if b && u then verdict.Bounced else verdict.Applied))
    go true b u e f k = eqb-true n 0 e
    go false true true e f k = tt
    go false true false e f k = (eqb-false n 0 e, or_right (nat_le 2 n) (not used) (ap not k))
    go false false u e f k =
        let none : n ≢ 0 = eqb-false n 0 e in
        let one : n ≢ 1 = eqb-false n 1 f in
        (none, or_left (nat_le 2 n) (not used) (le-leb 2 n (omega arith)))

no-copy : (h : PlainGraph) (u v w : ℕ) → copies h (triple u v w) ≡ 0 → lacks_copy h (DelE u v w) ≡ true
no-copy h u v w e = go (has_equal h (triple u v w)) refl
  where
    go : (b : Bool) → has_equal h (triple u v w) ≡ b → not b ≡ true
    go false is = refl
    go true is = absurd (let some = copies-HasTriple h (triple u v w) (HasTriple-from_test h (triple u v w) is) in omega arith)

some-copy : (h : PlainGraph) (u v w : ℕ) → copies h (triple u v w) ≢ 0 → lacks_copy h (DelE u v w) ≡ false
some-copy h u v w e = ap not (has_equal-true h (triple u v w) (HasTriple-copies h (triple u v w) (omega arith)))

-- an update within the limits whose vertices are there and which lacks its copy is refused for that
refused-copy : (h : PlainGraph) (part : Update) → first_past_limit (greatest_weight h) part ≡ None → first_missing h part ≡ None → lacks_copy h part ≡ true
    → does h part ≡ Err Objection.NoEdge
refused-copy h part within present lacks = does-refused h part Objection.NoEdge (rw (within, present, lacks) refl)

-- a candidate that is decided on its own stripe's log follows where it stands in any merge
pub follows : (g h : PlainGraph) (specs : List Spec) (forests : List Forest) (before : List Decided) (d : Decided) (part : Update)
    → IsStage g specs forests before h → is_safe g specs forests part ≡ true → d.entry.parts ≡ part ∷ []
    → d.verdict ≡ verdict_of g forests (stripe_log (stripe_of (part ∷ [])) before) (part ∷ [])
    → Follows g specs forests before h d part d.verdict
follows g h specs forests before d (AddV x) stage safe parts is =
    let still = safe_later g h specs forests (AddV x) stage.vertices safe refl in
    let next = stage-applied g h specs forests before d (AddV x) stage (ap applies is) parts still refl in
    subst (Follows g specs forests before h d (AddV x)) (sym is) (still, next.0, next.1)
follows g h specs forests before d (DelV x) stage safe parts is = absurd (true≢false (sym (safe_parts g specs forests (DelV x) safe).vertices))
follows g h specs forests before d (SetW u v w w2) stage safe parts is = absurd (true≢false (sym (safe_parts g specs forests (SetW u v w w2) safe).vertices))
follows g h specs forests before d (AddE u v w) stage safe parts is =
    let still = safe_later g h specs forests (AddE u v w) stage.vertices safe refl in
    let next = stage-applied g h specs forests before d (AddE u v w) stage (ap applies is) parts still refl in
    subst (Follows g specs forests before h d (AddE u v w)) (sym is) (still, next.0, next.1)
follows g h specs forests before d (DelE u v w) stage safe parts is =
    let t : Triple = triple u v w in
    let now : copies_after t (copies g t) (stripe_log (u % 64) before) ≡ copies h t = copies-stripe t (u % 64) before (copies g t) refl ∙ sym (stage.counts t) in
    let made : d.verdict ≡ verdict_at forests t (copies h t) = is ∙ ap (verdict_at forests t) now in
    go d.verdict refl (subst (DelCase (copies h t) (is_used forests t)) (sym made) (del_case (copies h t) (is_used forests t)))
  where
    go : (o : Verdict) → d.verdict ≡ o → DelCase (copies h (triple u v w)) (is_used forests (triple u v w)) o → Follows g specs forests before h d (DelE u v w) o
    go verdict.NoEdge e none =
        let sound = safe_parts g specs forests (DelE u v w) safe in
        let within : first_past_limit (greatest_weight h) (DelE u v w) ≡ None = rw stage.vertices.format sound.within in
        let present : first_missing h (DelE u v w) ≡ None = rw (stage.vertices.vertices u, stage.vertices.vertices v) sound.present in
        (refused-copy h (DelE u v w) within present (no-copy h u v w none), stage-same g h specs forests before d stage (ap applies e))
    go verdict.Bounced e case = tt
    go verdict.Waiting e case = case
    go verdict.Applied e case =
        let still = safe_later g h specs forests (DelE u v w) stage.vertices safe case.1 in
        let next = stage-applied g h specs forests before d (DelE u v w) stage (ap applies e) parts still (some-copy h u v w case.0) in
        (still, next.0, next.1)
