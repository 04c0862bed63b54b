-- Updates of several stripes, in any order that keeps that of each stripe: what they leave hangs on each stripe's own.
use Rattle.std.specs.Prelude.{⊤}
use Rattle.std.proofs.Common.{◌≡◌, ◌≢◌, ◌↔◌, ℕ, ◌<◌, ◌%◌, true, false, not, ◌==◌, IsTrue, List, [], ◌∷◌, None, Ok, arith, refl, inl, inr, sym, ap, subst, ◌∙◌}
use Rattle.std.specs.List.{All, filter}
use Rattle.std.proofs.lemmas.Bool.{both_ways, cases_eq, eq-eqb, eqb-true, ne_eqb}
use Rattle.std.proofs.lemmas.List.Elements.{All-head, All-tail, All-weaker, filter_passes}
use Rattle.ris_base.specs.Effect.{changed, does, first_past_limit}
use Rattle.ris_base.specs.Graph.{HasVertex, IsProper, copies, greatest_weight, is_equal, triple}
use Rattle.ris_base.specs.Requests.{entered}
use Rattle.ris_base.specs.declared.graphs.PlainGraph.{PlainGraph}
use Rattle.ris_base.specs.declared.graphs.Triple.{Triple}
use Rattle.ris_base.specs.declared.updates.Update.{Update}
use Rattle.ris_base.specs.declared.updates.Update.TheVariants.{AddV, DelV, AddE, DelE, SetW}
use Rattle.ris_base.proofs.EffectLemmas.{HasTriple-copies, IsAllowed, copies-changed, copies_after, does-changed, format-changed, has_equal-true, has_vertex-true, missing-none, objection-none}
use Rattle.ris_base.proofs.RequestLemmas.{copies_through, entered-one, proper-entered, refusal_of-one}
use Rattle.ris_graph.specs.Jobs.{is_job, stripe_of}
use Rattle.ris_graph.specs.Phase.{AreAccepted, entered_each}
use Rattle.ris_graph.proofs.JobLemmas.{stripe_of-lt}
use Rattle.ris_graph.proofs.StepLemmas.{HasOne, HasOne-agree, Runs}

-- Stripes

pub not_same : (t : Triple) (u v w : ℕ) → u % 64 ≢ t.source % 64 → is_equal t (triple u v w) ≡ false
not_same t u v w other = rw (ne_eqb t.source u (λ e. other (ap (λ n. n % 64) (sym e)))) refl

-- an update of another stripe leaves the copies of a triple
local-after : (n : ℕ) (u : Update) (t : Triple) → IsTrue (is_job u) → stripe_of u ≢ t.source % 64 → copies_after n u t ≡ n
local-after n (AddE u v w) t kind other = rw (not_same t u v w other) (omega arith)
local-after n (DelE u v w) t kind other = rw (not_same t u v w other) (omega arith)
local-after n (AddV x) t kind other = refl
local-after n (DelV x) t kind other = absurd (both_ways false refl kind)
local-after n (SetW u v w w2) t kind other = absurd (both_ways false refl kind)

-- so the copies after all hang on those of its own stripe alone
pub copies_through-own : (us : List Update) (n : ℕ) (t : Triple) → All (λ u. IsTrue (is_job u)) us
    → copies_through n us t ≡ copies_through n (filter (λ u. stripe_of u == t.source % 64) us) t
copies_through-own [] n t kinds = refl
copies_through-own (u ∷ us) n t kinds =
    let rest = All-tail (λ (x : Update). IsTrue (is_job x)) u us kinds in
    elim (cases_eq (stripe_of u) (t.source % 64)) [
      | inl own ↦ rw (eq-eqb (stripe_of u) (t.source % 64) own) (copies_through-own us (copies_after n u t) t rest)
      | inr other ↦ rw (ne_eqb (stripe_of u) (t.source % 64) other)
          (ap (λ k. copies_through k us t) (local-after n u t (All-head (λ (x : Update). IsTrue (is_job x)) u us kinds) other) ∙ copies_through-own us n t rest)
    ]

pub Runs-local : (m : ℕ) (c d : Triple → ℕ) (us : List Update) → All (λ u. stripe_of u ≡ m) us → ((t : Triple) → t.source % 64 ≡ m → c t ≡ d t) → Runs c us → Runs d us
Runs-local m c d [] homes same runs = tt
Runs-local m c d (u ∷ us) homes same runs =
    let home = All-head (λ (x : Update). stripe_of x ≡ m) u us homes in (
      HasOne-agree c d u (λ t at. same t (at ∙ home)) runs.0,
      Runs-local m (λ t. copies_after (c t) u t) (λ t. copies_after (d t) u t) us (All-tail (λ (x : Update). stripe_of x ≡ m) u us homes)
          (λ t at. ap (λ n. copies_after n u t) (same t at)) runs.1,
    )

pub Runs-agree : (c d : Triple → ℕ) (us : List Update) → ((t : Triple) → c t ≡ d t) → Runs c us → Runs d us
Runs-agree c d [] same runs = tt
Runs-agree c d (u ∷ us) same runs =
    (HasOne-agree c d u (λ t at. same t) runs.0, Runs-agree (λ t. copies_after (c t) u t) (λ t. copies_after (d t) u t) us (λ t. ap (λ n. copies_after n u t) (same t)) runs.1)

-- what runs in each stripe runs in all
pub Runs-merged : (c : Triple → ℕ) (us : List Update) → All (λ u. IsTrue (is_job u)) us → ((m : ℕ) → m < 64 → Runs c (filter (λ u. stripe_of u == m) us)) → Runs c us
Runs-merged c [] kinds each = tt
Runs-merged c (u ∷ us) kinds each =
    let here = rw (eq-eqb (stripe_of u) (stripe_of u) refl) at (each (stripe_of u) (stripe_of-lt u)) in
    let next = λ (t : Triple). copies_after (c t) u t in (
      here.0,
      Runs-merged next us (All-tail (λ (x : Update). IsTrue (is_job x)) u us kinds) (λ m lt. elim (cases_eq (stripe_of u) m) [
        | inl own ↦ subst (λ k. Runs next (filter (λ (x : Update). stripe_of x == k) us)) own here.1
        | inr other ↦ Runs-local m c next (filter (λ (x : Update). stripe_of x == m) us)
            (All-weaker (λ (x : Update). (stripe_of x == m) ≡ true) (λ x. stripe_of x ≡ m) (λ x h. eqb-true (stripe_of x) m h) (filter (λ (x : Update). stripe_of x == m) us) (filter_passes (λ (x : Update). stripe_of x == m) us))
            (λ t at. sym (local-after (c t) u t (All-head (λ (x : Update). IsTrue (is_job x)) u us kinds) (λ e. other (e ∙ at))))
            (rw (ne_eqb (stripe_of u) m other) at (each m lt))
      ]),
    )

-- Plain graphs

-- the vertices that an update names are in a plain graph
abbrev pub HasPlainEnds : PlainGraph → Update → Type 0
HasPlainEnds p (AddV x) = HasVertex p x
HasPlainEnds p (AddE u v w) = HasVertex p u × HasVertex p v
HasPlainEnds p (DelE u v w) = HasVertex p u × HasVertex p v
HasPlainEnds p (DelV x) = ⊤
HasPlainEnds p (SetW u v w w2) = ⊤

-- an update that may be a job, within the limits and between vertices of a plain graph
pub record IsFit (p : PlainGraph) (update : Update) : Type 0 where
  pub kind : IsTrue (is_job update)
  pub limits : first_past_limit (greatest_weight p) update ≡ None
  pub ends : HasPlainEnds p update

-- a plain graph after updates, with the same vertices
pub record IsAfter (p : PlainGraph) (us : List Update) (q : PlainGraph) : Type 0 where
  pub format : q.format ≡ p.format
  pub vertices : (x : ℕ) → HasVertex q x ↔ HasVertex p x
  pub copies : (t : Triple) → copies q t ≡ copies_through (copies p t) us t

vertices-changed : (p : PlainGraph) (u : Update) → IsFit p u → (x : ℕ) → HasVertex (changed p u) x ↔ HasVertex p x
vertices-changed p (AddV y) fit x = rw (has_vertex-true p y fit.ends) (λ h. h, λ h. h)
vertices-changed p (AddE u v w) fit x = (λ h. h, λ h. h)
vertices-changed p (DelE u v w) fit x = (λ h. h, λ h. h)
vertices-changed p (DelV y) fit x = absurd (both_ways false refl fit.kind)
vertices-changed p (SetW u v w w2) fit x = absurd (both_ways false refl fit.kind)

IsFit-changed : (p q : PlainGraph) (u : Update) → q.format ≡ p.format → ((x : ℕ) → HasVertex p x → HasVertex q x) → IsFit p u → IsFit q u
IsFit-changed p q u format more fit = record { kind = fit.kind; limits = rw format fit.limits; ends = ends u fit.ends }
  where
    ends : (u : Update) → HasPlainEnds p u → HasPlainEnds q u
    ends (AddV x) h = more x h
    ends (AddE u v w) h = (more u h.0, more v h.1)
    ends (DelE u v w) h = (more u h.0, more v h.1)
    ends (DelV x) h = tt
    ends (SetW u v w w2) h = tt

fit-allowed : (p : PlainGraph) (u : Update) → IsFit p u → HasOne (copies p) u → IsAllowed p u
fit-allowed p (AddV x) fit one = record { within = fit.limits; present = refl; copy = refl }
fit-allowed p (AddE u v w) fit one = record { within = fit.limits; present = rw (missing-none p u fit.ends.0) (missing-none p v fit.ends.1); copy = refl }
fit-allowed p (DelE u v w) fit one = record {
  within = fit.limits;
  present = rw (missing-none p u fit.ends.0) (missing-none p v fit.ends.1);
  copy = ap not (has_equal-true p (triple u v w) (HasTriple-copies p (triple u v w) (omega arith)));
}
fit-allowed p (DelV x) fit one = absurd (both_ways false refl fit.kind)
fit-allowed p (SetW u v w w2) fit one = absurd (both_ways false refl fit.kind)

-- updates that run are accepted one after another, and leave so many copies
pub accepted-each : (p : PlainGraph) (us : List Update) → All (IsFit p) us → Runs (copies p) us → AreAccepted p us × IsAfter p us (entered_each p us)
accepted-each p [] fits runs = (tt, record { format = refl; vertices = λ x. (λ h. h, λ h. h); copies = λ t. refl })
accepted-each p (u ∷ us) fits runs =
    let q = changed p u in
    let fit = All-head (IsFit p) u us fits in
    let ok : does p u ≡ Ok (changed p u) = does-changed p u (objection-none p u (fit-allowed p u fit runs.0)) in
    let vertices = vertices-changed p u fit in
    let format = format-changed p u in
    let rest = accepted-each q us
    (All-weaker (IsFit p) (IsFit q) (λ x h. IsFit-changed p q x format (λ y has. (vertices y).1 has) h) us (All-tail (IsFit p) u us fits))
    (Runs-agree (λ t. copies_after (copies p t) u t) (copies q) us (λ t. sym (copies-changed p u t)) runs.1) in
    let is = entered-one p q u ok in (
      (refusal_of-one p q u ok, subst (λ (r : PlainGraph). AreAccepted r us) (sym is) rest.0),
      subst (λ (r : PlainGraph). IsAfter p (u ∷ us) (entered_each r us)) (sym is) (record {
        format = rest.1.format ∙ format;
        vertices = λ x. (λ h. (vertices x).0 ((rest.1.vertices x).0 h), λ h. (rest.1.vertices x).1 ((vertices x).1 h));
        copies = λ t. rest.1.copies t ∙ ap (λ n. copies_through n us t) (copies-changed p u t);
      }),
    )

pub proper-each : (p : PlainGraph) (us : List Update) → IsProper p → IsProper (entered_each p us)
proper-each p [] proper = proper
proper-each p (u ∷ us) proper = proper-each (entered p (u ∷ [])) us (proper-entered p (u ∷ []) proper)
