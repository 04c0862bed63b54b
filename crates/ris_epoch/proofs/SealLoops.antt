-- One decision of the seal, and those behind it.
use Rattle.std.proofs.Common.{◌≡◌, ℕ, ◌+◌, ◌≤◌, if◌then◌else◌, Bool, true, false, List, [], ◌∷◌, ◌++◌, length, arith, refl, sym, ap, ◌∙◌, append_assoc}
use Rattle.std.proofs.lemmas.List.{append-nil, length-append}
use Rattle.ris_base.specs.Epoch.{Resolved}
use Rattle.ris_base.specs.Lines.{front}
use Rattle.ris_base.specs.Machine.{Decided, is_applied, session_by}
use Rattle.ris_base.specs.Records.{lines_of}
use Rattle.ris_base.specs.declared.events.Verdict.{Verdict}
use Rattle.ris_base.specs.declared.lines.Entry.{Entry}
use Rattle.ris_base.specs.declared.lines.Line.{Line}
use Rattle.ris_base.specs.declared.records.Record.{Record}
use Rattle.ris_base.specs.declared.requests.Request.{Request}
use Rattle.ris_base.specs.declared.requests.Request.TheVariants as request
use Rattle.ris_base.proofs.LineLemmas.{front-entry}
use Rattle.ris_algo.proofs.RecordLemmas.{lines_of-append}
use Rattle.ris_graph.specs.Jobs.{HasSession}
use Rattle.ris_graph.specs.declared.stripes.StripeJob.{StripeJob}
use Rattle.ris_graph.specs.Jobs.{IsJob}
use Rattle.ris_epoch.specs.Account.{entry_record, is_bounced}
use Rattle.ris_epoch.specs.Ordering.{inserted_by}
use Rattle.ris_epoch.specs.Sealing.{AreVerdicts, all_told, all_waiting, front_after, outcome_if, outcomes_if, record_if, records_if, told_by, waiting_if}
use Rattle.ris_epoch.proofs.OrderingLemmas.{length-inserted}

-- the verdict of a session's job is the one that is told
pub verdict-told : (jobs : List (List StripeJob)) (verdicts : ℕ → Verdict) (s : ℕ) (v : Verdict) → AreVerdicts jobs verdicts → HasSession jobs s
    → ((job : StripeJob) → IsJob jobs job → job.session ≡ s → v ≡ job.verdict) → v ≡ verdicts s
verdict-told jobs verdicts s v are has is = is has.0 has.1 has.2 ∙ are has.0 has.1 ∙ ap verdicts has.2

module _ (verdicts : ℕ → Verdict) (e : Entry) (es : List Entry) (v : Verdict) (is : v ≡ verdicts e.session) where
  -- the lines
  pub step-lines : (lines : List Line) → (lines ++ lines_of (record_if (told_by e v))) ++ lines_of (records_if (all_told verdicts es))
      ≡ lines ++ lines_of (records_if (all_told verdicts (e ∷ es)))
  unfolding records_if
  step-lines lines =
      append_assoc lines (lines_of (record_if (told_by e v))) (lines_of (records_if (all_told verdicts es)))
      ∙ ap (λ (ls : List Line). lines ++ ls) (sym (lines_of-append (record_if (told_by e v)) (records_if (all_told verdicts es))))
      ∙ ap (λ (w : Verdict). lines ++ lines_of (record_if (told_by e w) ++ records_if (all_told verdicts es))) is

  -- the records
  pub step-records : (records : List Record) → (records ++ record_if (told_by e v)) ++ records_if (all_told verdicts es) ≡ records ++ records_if (all_told verdicts (e ∷ es))
  unfolding records_if
  step-records records =
      append_assoc records (record_if (told_by e v)) (records_if (all_told verdicts es))
      ∙ ap (λ (w : Verdict). records ++ (record_if (told_by e w) ++ records_if (all_told verdicts es))) is

  -- the number of entries
  pub step-front : (lines : List Line) → front (lines ++ lines_of (record_if (told_by e v))) ≡ front_after (front lines) (told_by e v)
  step-front lines = go (is_applied (told_by e v))
    where
      go : (b : Bool) → front (lines ++ lines_of (if b then entry_record e [] ∷ [] else [])) ≡ (if b then front lines + 1 else front lines)
      go true = front-entry lines e
      go false = ap front (append-nil lines)

  -- the replies
  pub step-replies : (replies : List Resolved) (lines : List Line)
      → (replies ++ outcome_if (front lines) (told_by e v)) ++ outcomes_if (front (lines ++ lines_of (record_if (told_by e v)))) (all_told verdicts es)
      ≡ replies ++ outcomes_if (front lines) (all_told verdicts (e ∷ es))
  unfolding outcomes_if
  step-replies replies lines =
      ap (λ (n : ℕ). (replies ++ outcome_if (front lines) (told_by e v)) ++ outcomes_if n (all_told verdicts es)) (step-front lines)
      ∙ append_assoc replies (outcome_if (front lines) (told_by e v)) (outcomes_if (front_after (front lines) (told_by e v)) (all_told verdicts es))
      ∙ ap (λ (w : Verdict). replies ++ (outcome_if (front lines) (told_by e w) ++ outcomes_if (front_after (front lines) (told_by e w)) (all_told verdicts es))) is

  -- who waits
  pub step-rest : (rest : List Request) → all_waiting (waiting_if rest (told_by e v)) (all_told verdicts es) ≡ all_waiting rest (all_told verdicts (e ∷ es))
  unfolding all_waiting
  step-rest rest = ap (λ (w : Verdict). all_waiting (waiting_if rest (told_by e w)) (all_told verdicts es)) is

-- at most one request waits more
pub waiting-length : (rest : List Request) (d : Decided) → (length rest ≤ length (waiting_if rest d)) × (length (waiting_if rest d) ≤ length rest + 1)
waiting-length rest d = go (is_bounced d) (length-inserted session_by rest (request.Submit d.entry))
  where
    go : (b : Bool) → length (inserted_by session_by rest (request.Submit d.entry)) ≡ length rest + 1
        → (length rest ≤ length (if b then inserted_by session_by rest (request.Submit d.entry) else rest))
        × (length (if b then inserted_by session_by rest (request.Submit d.entry) else rest) ≤ length rest + 1)
    go true more = (omega arith, omega arith)
    go false more = (omega arith, omega arith)

-- and at most one record is made
pub record-length : (records : List Record) (d : Decided) → length (records ++ record_if d) ≤ length records + 1
record-length records d = go (is_applied d)
  where
    go : (b : Bool) → length (records ++ (if b then entry_record d.entry [] ∷ [] else [])) ≤ length records + 1
    go true = let long = length-append records (entry_record d.entry [] ∷ []) in omega arith
    go false = let long = length-append {A = Record} records [] in omega arith

-- none is left
pub none-left : (verdicts : ℕ → Verdict) (lines : List Line) (records : List Record) (replies : List Resolved) (rest : List Request) (n : ℕ)
    → (lines ++ lines_of (records_if (all_told verdicts [])) ≡ lines) × (records ++ records_if (all_told verdicts []) ≡ records)
    × (replies ++ outcomes_if n (all_told verdicts []) ≡ replies) × (all_waiting rest (all_told verdicts []) ≡ rest)
unfolding records_if outcomes_if all_waiting
none-left verdicts lines records replies rest n = (append-nil lines, append-nil records, append-nil replies, refl)
