-- What the cells of a parallel phase decide of candidates is what the account of the turn says.
use Rattle.std.proofs.Common.{◌≡◌, ℕ, ◌&&◌, if◌then◌else◌, Bool, true, false, not, List, [], ◌∷◌, ◌++◌, map, refl, sym, ap, ◌∙◌, cond}
use Rattle.std.specs.List.{All, filter}
use Rattle.std.proofs.lemmas.Bool.{eqb-true}
use Rattle.std.proofs.lemmas.List.Elements.{All-head, All-tail}
use Rattle.ris_base.specs.Forest.{Forest}
use Rattle.ris_base.specs.Machine.{Decided, stripe_of, verdict_of}
use Rattle.ris_base.specs.declared.events.Verdict.{Verdict}
use Rattle.ris_base.specs.declared.graphs.PlainGraph.{PlainGraph}
use Rattle.ris_base.specs.declared.lines.Entry.{Entry}
use Rattle.ris_base.specs.declared.updates.Update.{Update}
use Rattle.ris_legal.proofs.Cells.{of_stripe}
use Rattle.ris_phase.specs.Cells
use Rattle.ris_phase.specs.Cells.{celled, cells, logged, logs}
use Rattle.ris_epoch.specs.Account.{decided_behind, decision, is_bounced, is_logged, log_of}
use Rattle.ris_epoch.specs.Driving.{first_part, job_of}
use Rattle.ris_epoch.proofs.Deciding.{log-more}
use Rattle.ris_epoch.proofs.StripeMerges.{is_of, log_behind}

-- Candidates

-- a request of one part, whose session's request has this number
pub record IsNumbered (seq : ℕ → ℕ) (e : Entry) : Type 0 where
  pub one : e.parts ≡ first_part e.parts ∷ []
  pub numbered : seq e.session ≡ e.seq

-- the decision of a cell on a candidate where its stripe has this log
abbrev pub cell_on : PlainGraph → List Forest → List Decided → Entry → Decided
cell_on p forests log e = record { entry = e; verdict = verdict_of p forests log e.parts }

-- the decisions of a stripe's cells, those that bounce among them
unfoldable pub cells_on : PlainGraph → List Forest → List Decided → List Entry → List Decided
cells_on p forests log [] = []
cells_on p forests log (e ∷ candidates) =
    cell_on p forests log e ∷ cells_on p forests (if is_bounced (cell_on p forests log e) then log else log ++ cell_on p forests log e ∷ []) candidates

module _ (p : PlainGraph) (forests : List Forest) (seq : ℕ → ℕ) where
  -- a log with one decision more
  logged-same : (log : List Decided) (d : Decided) → logged log d ≡ (if is_bounced d then log else log ++ d ∷ [])
  logged-same log d = refl

  -- the job of a candidate is decided as the candidate is
  job-decision : (log : List Decided) (e : Entry) → IsNumbered seq e → Cells.decision seq (celled p forests log (job_of e)) ≡ cell_on p forests log e
  job-decision log e is =
      ap (λ (n : ℕ). of_entry (record { session = e.session; seq = n; parts = first_part e.parts ∷ [] }) (verdict_of p forests log (first_part e.parts ∷ []))) is.numbered
      ∙ ap (λ (ps : List Update). of_entry (record { session = e.session; seq = e.seq; parts = ps }) (verdict_of p forests log ps)) (sym is.one)
    where
      of_entry : Entry → Verdict → Decided
      of_entry x v = record { entry = x; verdict = v }

  next-log : (log : List Decided) (e : Entry) → IsNumbered seq e
      → logged log (Cells.decision seq (celled p forests log (job_of e))) ≡ (if is_bounced (cell_on p forests log e) then log else log ++ cell_on p forests log e ∷ [])
  next-log log e is = ap (logged log) (job-decision log e is) ∙ logged-same log (cell_on p forests log e)

  -- the logs of the jobs are those of the candidates
  pub logs-behind : (log : List Decided) (candidates : List Entry) → All (IsNumbered seq) candidates
      → logs p forests seq log (map job_of candidates) ≡ log_behind p forests log candidates
  unfolding logs log_behind
  logs-behind log [] all = refl
  logs-behind log (e ∷ candidates) all =
      let is = All-head (IsNumbered seq) e candidates all in
      let rest = All-tail (IsNumbered seq) e candidates all in
      logs-behind (logged log (Cells.decision seq (celled p forests log (job_of e)))) candidates rest
      ∙ ap (λ (l : List Decided). log_behind p forests l candidates) (next-log log e is)

  -- and so are the decisions
  pub cells-on : (log : List Decided) (candidates : List Entry) → All (IsNumbered seq) candidates
      → map (Cells.decision seq) (cells p forests seq log (map job_of candidates)) ≡ cells_on p forests log candidates
  unfolding cells cells_on
  cells-on log [] all = refl
  cells-on log (e ∷ candidates) all =
      let is = All-head (IsNumbered seq) e candidates all in
      let rest = All-tail (IsNumbered seq) e candidates all in
      let more = cells-on (logged log (Cells.decision seq (celled p forests log (job_of e)))) candidates rest in
      ap (λ (d : Decided). d ∷ map (Cells.decision seq) (cells p forests seq (logged log (Cells.decision seq (celled p forests log (job_of e)))) (map job_of candidates))) (job-decision log e is)
      ∙ ap (λ (ds : List Decided). cell_on p forests log e ∷ ds) (more ∙ ap (λ (l : List Decided). cells_on p forests l candidates) (next-log log e is))

-- One stripe

-- what cells decide of a stripe's own candidates, as all of them decide it
pub cells-stripe : (g : PlainGraph) (forests : List Forest) (k : ℕ) (before : List Decided) (candidates : List Entry)
    → filter (of_stripe k) (decided_behind g forests before candidates) ≡ cells_on g forests (log_of k before) (filter (is_of k) candidates)
unfolding decided_behind cells_on
cells-stripe g forests k before [] = refl
cells-stripe g forests k before (e ∷ candidates) =
    go (is_of k e) refl (cells-stripe g forests k (before ++ d ∷ []) candidates ∙ ap (λ (l : List Decided). cells_on g forests l (filter (is_of k) candidates)) (log-more k before d))
  where
    d : Decided
    d = decision g forests before e

    later : List Decided
    later = filter (of_stripe k) (decided_behind g forests (before ++ d ∷ []) candidates)

    rest : List Entry
    rest = filter (is_of k) candidates

    with_verdict : Verdict → Decided
    with_verdict v = record { entry = e; verdict = v }

    after : List Decided → Decided → List Decided
    after log x = if is_bounced x then log else log ++ x ∷ []

    flip : (b : Bool) → (if true && not b then log_of k before ++ d ∷ [] else log_of k before) ≡ (if b then log_of k before else log_of k before ++ d ∷ [])
    flip true = refl
    flip false = refl

    go : (b : Bool) → is_of k e ≡ b → later ≡ cells_on g forests (if is_logged k d then log_of k before ++ d ∷ [] else log_of k before) rest
        → cond b (d ∷ later) later ≡ cells_on g forests (log_of k before) (cond b (e ∷ rest) rest)
    go false is more = more ∙ ap (λ (b : Bool). cells_on g forests (if b then log_of k before ++ d ∷ [] else log_of k before) rest) (ap (λ (b : Bool). b && not (is_bounced d)) is)
    go true is more =
        let own : stripe_of e.parts ≡ k = eqb-true (stripe_of e.parts) k is in
        let same : d ≡ cell_on g forests (log_of k before) e = ap (λ (n : ℕ). with_verdict (verdict_of g forests (log_of n before) e.parts)) own in
        ap (λ (ds : List Decided). d ∷ ds)
        (more
        ∙ ap (λ (b : Bool). cells_on g forests (if b then log_of k before ++ d ∷ [] else log_of k before) rest) (ap (λ (b : Bool). b && not (is_bounced d)) is)
        ∙ ap (λ (l : List Decided). cells_on g forests l rest) (flip (is_bounced d)))
        ∙ ap (λ (x : Decided). x ∷ cells_on g forests (after (log_of k before) x) rest) same
