-- The seal of candidates keeps records right, and leaves the forests and the vertices.
use Rattle.std.proofs.Common.{◌≡◌, ◌<◌, if◌then◌else◌, false, List, [], ◌∷◌, ◌++◌, arith, refl, sym, subst, ap, ◌∙◌, append_assoc}
use Rattle.std.specs.List.{Contains}
use Rattle.std.proofs.lemmas.Bool.{true≢false}
use Rattle.std.proofs.lemmas.List.{append-nil}
use Rattle.std.proofs.lemmas.List.Elements.{All-contains, Contains-append_left, Contains-append_right}
use Rattle.ris_base.specs.Epoch.{Ground}
use Rattle.ris_base.specs.Forest.{Forest}
use Rattle.ris_base.specs.Machine.{Decided, applies, is_applied, session_by, stripe_of, verdict_of}
use Rattle.ris_base.specs.Records.{AreRight}
use Rattle.ris_base.specs.declared.events.Verdict.{Verdict}
use Rattle.ris_base.specs.declared.events.Verdict.TheVariants as verdict
use Rattle.ris_base.specs.declared.graphs.PlainGraph.{PlainGraph}
use Rattle.ris_base.specs.declared.lines.Entry.{Entry}
use Rattle.ris_base.specs.declared.records.Record.{Record}
use Rattle.ris_base.specs.declared.requests.Request.{Request}
use Rattle.ris_base.specs.declared.requests.Request.TheVariants as request
use Rattle.ris_base.specs.declared.updates.Update.{Update}
use Rattle.ris_base.proofs.ListLemmas.{Contains-first, Contains-rest}
use Rattle.ris_legal.proofs.Cells.{AreMerged, Follows, IsStage, first-stage, follows, merged-here, merged-rest, stripe_log}
use Rattle.ris_legal.proofs.Sealing.{one-part}
use Rattle.ris_phase.specs.Cells.{is_bounced as bounces}
use Rattle.ris_epoch.specs.Account.{IsMerge, IsSplit, decisions_on, entry_record, forests_behind, front_of, graph_behind, is_bounced, is_candidate_behind, records_of}
use Rattle.ris_epoch.specs.Laws.{IsDue}
use Rattle.ris_epoch.proofs.Deciding.{decided-entry, merge-verdicts, merged-in}
use Rattle.ris_epoch.proofs.Splits.{parts-of, submits}
use Rattle.ris_epoch.proofs.Stands.{Contains-mapped}
use Rattle.ris_epoch.proofs.TurnRight.{IsReady, right-applied}

module _ (ground : Ground) (g : PlainGraph) (forests : List Forest) where
  -- records are right, their forests are these, and their graph stands behind decisions
  pub record IsSealing (records : List Record) (before : List Decided) : Type 0 where
    pub right : AreRight ground.opening ground.specs ground.start records
    pub same : forests_behind ground records ≡ forests
    pub stage : IsStage g ground.specs forests before (graph_behind ground records)

  -- it is so behind each decision of a merge
  pub seal-stage : (order : List Decided) (records : List Record) (before : List Decided) → IsSealing records before → AreMerged g forests before order
      → ((d : Decided) → Contains order d → IsReady ground g forests d) → IsSealing (records ++ records_of order) (before ++ order)
  unfolding records_of
  seal-stage [] records before h merged ready =
      subst (λ (rs : List Record). IsSealing rs (before ++ [])) (sym (append-nil records)) (subst (λ (ds : List Decided). IsSealing records ds) (sym (append-nil before)) h)
  seal-stage (d ∷ order) records before h merged ready =
      let its = ready d (Contains-first d order) in
      let one = one-part g ground.specs forests d.entry.parts its.candidate in
      go one.0 one.1 d.verdict refl its.here its.stays
      (follows g (graph_behind ground records) ground.specs forests before d one.0 h.stage one.2 one.1
      (subst (λ (ps : List Update). d.verdict ≡ verdict_of g forests (stripe_log (stripe_of ps) before) ps) one.1 (merged-here g forests before order d merged)))
      (λ rs s. subst (λ (ds : List Decided). IsSealing (rs ++ records_of order) ds) (append_assoc before (d ∷ []) order)
      (seal-stage order rs (before ++ d ∷ []) s (merged-rest g forests before order d merged) (λ x at. ready x (Contains-rest d order x at))))
    where
      go : (part : Update) → d.entry.parts ≡ part ∷ [] → (v : Verdict) → d.verdict ≡ v → d.entry.session < ground.start.sessions → is_bounced d ≡ false
          → Follows g ground.specs forests before (graph_behind ground records) d part v
          → ((rs : List Record) → IsSealing rs (before ++ d ∷ []) → IsSealing (rs ++ records_of order) (before ++ d ∷ order))
          → IsSealing (records ++ (if is_applied d then entry_record d.entry [] ∷ records_of order else records_of order)) (before ++ d ∷ order)
      go part parts verdict.Applied e here stays f rest =
          let one = right-applied ground g forests records before d part h.right h.same here parts h.stage f in
          subst (λ (v : Verdict). IsSealing (records ++ (if applies v then entry_record d.entry [] ∷ records_of order else records_of order)) (before ++ d ∷ order)) (sym e)
          (subst (λ (rs : List Record). IsSealing rs (before ++ d ∷ order)) (append_assoc records (entry_record d.entry [] ∷ []) (records_of order))
          (rest (records ++ entry_record d.entry [] ∷ []) (record { right = one.0; same = one.1; stage = one.2 })))
      go part parts verdict.NoEdge e here stays f rest =
          subst (λ (v : Verdict). IsSealing (records ++ (if applies v then entry_record d.entry [] ∷ records_of order else records_of order)) (before ++ d ∷ order)) (sym e)
          (rest records (record { right = h.right; same = h.same; stage = f.1 }))
      go part parts verdict.Bounced e here stays f rest = absurd (true≢false (sym (ap bounces e) ∙ stays))
      go part parts verdict.Waiting e here stays f rest = absurd f

-- the seal of a turn
pub sealing : (ground : Ground) (records : List Record) (batch : List Request) (w c : List Entry) (o : List Request) (merged : List Decided) → IsDue ground records batch
    → IsSplit (is_candidate_behind ground records) batch w c o → IsMerge (decisions_on ground records c) merged
    → IsSealing ground (graph_behind ground records) (forests_behind ground records) (records ++ records_of merged) merged
sealing ground records batch w c o merged due split merge =
    seal-stage ground g forests merged records [] (record {
      right = due.right;
      same = refl;
      stage = first-stage g ground.specs forests due.proper (due.right.forests (front_of records) (omega arith));
    }) (merge-verdicts g forests c merged merge) all-ready
  where
    g : PlainGraph
    g = graph_behind ground records

    forests : List Forest
    forests = forests_behind ground records

    all-ready : (d : Decided) → Contains merged d → IsReady ground g forests d
    all-ready d at =
        let parts = parts-of (is_candidate_behind ground records) batch w c o split in
        let its = merged-in (decisions_on ground records c) merged merge d at in
        let e = decided-entry g forests [] c d its.0 in
        let known = parts.from (request.Submit d.entry) (Contains-append_right (submits w) (submits c ++ o) (request.Submit d.entry)
        (Contains-append_left (submits c) o (request.Submit d.entry) (Contains-mapped (λ (x : Entry). request.Submit x) c d.entry e))) in
        record {
          candidate = parts.candidates d.entry e;
          stays = its.1;
          here = All-contains (λ x. session_by x < ground.start.sessions) batch (request.Submit d.entry) due.taken.here known;
        }
