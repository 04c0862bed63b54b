-- Right records stay right with one more.
use Rattle.std.proofs.Common.{◌≡◌, ℕ, suc, ◌+◌, ◌<◌, ◌≤◌, inl, inr, List, [], ◌∷◌, ◌++◌, length, take, None, arith, refl, sym, subst, ap, ◌∙◌}
use Rattle.std.proofs.Math.Seq.{take-append_seam}
use Rattle.std.proofs.lemmas.Bool.{cases_lt}
use Rattle.std.proofs.lemmas.List.{take-append-le}
use Rattle.std.proofs.lemmas.List.Elements.{All-append, All-cons, All-nil}
use Rattle.ris_base.specs.Forest.{Forest, AreForests}
use Rattle.ris_base.specs.Lines.{front, session_of}
use Rattle.ris_base.specs.Records.{AreChanges, AreRight, IsRightRecord, changed_forests, forests_at, lines_of, opening_forests}
use Rattle.ris_base.specs.Requests.{after, entered, refusal_of}
use Rattle.ris_base.specs.declared.analyses.Spec.{Spec}
use Rattle.ris_base.specs.declared.graphs.PlainGraph.{PlainGraph}
use Rattle.ris_base.specs.declared.lines.Entry.{Entry}
use Rattle.ris_base.specs.declared.lines.Line.{Line}
use Rattle.ris_base.specs.declared.records.Change.{Change}
use Rattle.ris_base.specs.declared.records.Record.{Record}
use Rattle.ris_base.specs.declared.records.Start.{Start}
use Rattle.ris_base.proofs.LineLemmas.{front-entry, after-append, after-entry}
use Rattle.ris_epoch.specs.Account.{entry_record}
use Rattle.ris_algo.proofs.RecordLemmas.{forests_after-append, forests_after-entry, lines_of-append}
use Rattle.ris_legal.proofs.Lists.{at-end}

module _ (opening : PlainGraph) (specs : List Spec) (start : Start) (records : List Record) (right : AreRight opening specs start records) where
  -- one more record, where the forests of each place are right
  right-more : (r : Record) → session_of r.line < start.sessions → IsRightRecord opening specs records r
      → ((v : ℕ) → v ≤ front (lines_of (records ++ r ∷ []))
      → AreForests (after opening (lines_of (records ++ r ∷ [])) v) specs (forests_at start (records ++ r ∷ []) v))
      → AreRight opening specs start (records ++ r ∷ [])
  right-more r here is forests = record {
    some = right.some;
    few = right.few;
    sessions = All-append (λ r. session_of r.line < start.sessions) records (r ∷ []) right.sessions
        (All-cons (λ r. session_of r.line < start.sessions) r [] here (All-nil (λ (r : Record). session_of r.line < start.sessions)));
    each = λ i x at. elim (at-end records r i x at) [
      | inl old ↦ (let within : i ≤ length records = omega arith in
          subst (λ xs. IsRightRecord opening specs xs x) (sym (take-append-le i records (r ∷ []) within)) (right.each i x old.1))
      | inr last ↦ subst (λ (y : Record). IsRightRecord opening specs (take i (records ++ r ∷ [])) y) last.1
          (subst (λ xs. IsRightRecord opening specs xs r) (sym (ap (λ k. take k (records ++ r ∷ [])) last.0 ∙ take-append_seam records (r ∷ []))) is)
    ];
    forests = forests;
  }

  -- the places that there were stay right
  old-place : (r : Record) (v : ℕ) → v ≤ front (lines_of records)
      → AreForests (after opening (lines_of (records ++ r ∷ [])) v) specs (forests_at start (records ++ r ∷ []) v)
  old-place r v h =
      subst (λ (g : PlainGraph). AreForests g specs (forests_at start (records ++ r ∷ []) v))
      (sym (ap (λ (ls : List Line). after opening ls v) (lines_of-append records (r ∷ [])) ∙ after-append opening (lines_of records) (r.line ∷ []) v h))
      (subst (λ (fs : List Forest). AreForests (after opening (lines_of records) v) specs fs)
      (sym (forests_after-append (opening_forests start) records (r ∷ []) v h)) (right.forests v h))

  -- a line that is no entry
  pub right-line : (r : Record) → session_of r.line < start.sessions → IsRightRecord opening specs records r
      → front (lines_of (records ++ r ∷ [])) ≡ front (lines_of records) → AreRight opening specs start (records ++ r ∷ [])
  right-line r here is same = right-more r here is (λ v h. old-place r v (subst (λ (n : ℕ). v ≤ n) same h))

  -- an accepted entry with the changes that it makes, which leave right forests
  pub right-entry : (e : Entry) (changes : List Change) → e.session < start.sessions
      → refusal_of (after opening (lines_of records) (front (lines_of records))) e.parts ≡ None
      → AreChanges specs (after opening (lines_of records) (front (lines_of records))) (entered (after opening (lines_of records) (front (lines_of records))) e.parts) changes
      → AreForests (entered (after opening (lines_of records) (front (lines_of records))) e.parts) specs
      (changed_forests (forests_at start records (front (lines_of records))) changes)
      → AreRight opening specs start (records ++ entry_record e changes ∷ [])
  right-entry e changes here free are forests = right-more r here (free, are) each
    where
      n : ℕ
      n = front (lines_of records)

      r : Record
      r = entry_record e changes

      longer : front (lines_of (records ++ r ∷ [])) ≡ n + 1
      longer = ap front (lines_of-append records (r ∷ [])) ∙ front-entry (lines_of records) e

      new : AreForests (after opening (lines_of (records ++ r ∷ [])) (n + 1)) specs (forests_at start (records ++ r ∷ []) (n + 1))
      new =
          let up : n + 1 ≡ suc n = omega arith in
          subst (λ (g : PlainGraph). AreForests g specs (forests_at start (records ++ r ∷ []) (n + 1)))
          (sym (ap (λ (ls : List Line). after opening ls (n + 1)) (lines_of-append records (r ∷ [])) ∙ after-entry opening (lines_of records) e))
          (subst (λ (fs : List Forest). AreForests (entered (after opening (lines_of records) n) e.parts) specs fs)
          (sym (ap (forests_at start (records ++ r ∷ [])) up ∙ forests_after-entry (opening_forests start) records e changes n refl)) forests)

      each : (v : ℕ) → v ≤ front (lines_of (records ++ r ∷ []))
          → AreForests (after opening (lines_of (records ++ r ∷ [])) v) specs (forests_at start (records ++ r ∷ []) v)
      each v h = elim (cases_lt n v) [
        | inl last ↦ (let is : n + 1 ≡ v = omega (arith, longer) in
            subst (λ (w : ℕ). AreForests (after opening (lines_of (records ++ r ∷ [])) w) specs (forests_at start (records ++ r ∷ []) w)) is new)
        | inr old ↦ old-place r v old
      ]
