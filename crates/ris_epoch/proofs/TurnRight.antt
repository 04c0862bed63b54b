-- The account of a turn keeps records right.
use Rattle.std.proofs.Common.{◌≡◌, ℕ, suc, ◌+◌, ◌<◌, if◌then◌else◌, inl, inr, true, false, List, [], ◌∷◌, ◌++◌, Option, Some, unwrap_or, arith, refl, sym, subst, ap, ◌∙◌, append_assoc}
use Rattle.std.specs.List.{Contains, filter, slice_get}
use Rattle.std.proofs.lemmas.List.{append-nil}
use Rattle.std.proofs.lemmas.List.Elements.{All-contains, All-nil, Contains-append_left, Contains-append_right}
use Rattle.std.proofs.lemmas.Option.{slice_get_within, unwrap_or-slice_get}
use Rattle.std.proofs.lemmas.Bool.{true≢false}
use Rattle.ris_base.specs.Effect.{changed}
use Rattle.ris_base.specs.Epoch.{Ground, Resolved}
use Rattle.ris_base.specs.Forest.{Forest, AreForests}
use Rattle.ris_base.specs.Lines.{front}
use Rattle.ris_base.specs.Machine.{Decided, applies, is_applied, session_by, stripe_of, verdict_of}
use Rattle.ris_base.specs.Records.{AreChanges, AreRight, IsWithin, changed_forests, forests_at, lines_of, opening_forests}
use Rattle.ris_base.specs.Requests.{after, entered, refusal_of}
use Rattle.ris_base.specs.Safe.{is_candidate}
use Rattle.ris_base.specs.Value.{Moves}
use Rattle.ris_base.specs.declared.analyses.Spec.{Spec}
use Rattle.ris_base.specs.declared.events.Verdict.{Verdict}
use Rattle.ris_base.specs.declared.events.Verdict.TheVariants as verdict
use Rattle.ris_base.specs.declared.graphs.PlainGraph.{PlainGraph}
use Rattle.ris_base.specs.declared.lines.Entry.{Entry}
use Rattle.ris_base.specs.declared.lines.Line.{Line}
use Rattle.ris_base.specs.declared.lines.Line.TheVariants as line
use Rattle.ris_base.specs.declared.records.Change.{Change}
use Rattle.ris_base.specs.declared.records.Record.{Record}
use Rattle.ris_base.specs.declared.replies.Outcome.{Outcome}
use Rattle.ris_base.specs.declared.requests.Request.{Request}
use Rattle.ris_base.specs.declared.requests.Request.TheVariants as request
use Rattle.ris_base.specs.declared.updates.Update.{Update}
use Rattle.ris_base.proofs.LineLemmas.{after-entry, front-leave, front-mark}
use Rattle.ris_base.proofs.ListLemmas.{Contains-filter, Contains-first, Contains-none, Contains-rest}
use Rattle.ris_base.proofs.RequestLemmas.{entered-one, refusal_of-one}
use Rattle.ris_algo.proofs.SafeUpdates.{same_values}
use Rattle.ris_legal.proofs.Cells.{AreMerged, Follows, IsStage, first-stage, follows, merged-here, merged-rest, stripe_log}
use Rattle.ris_legal.proofs.Sealing.{one-part}
use Rattle.ris_phase.specs.Cells.{is_bounced as bounces}
use Rattle.ris_epoch.specs.Account.{IsHandled, IsTail, IsTurnAccount, decisions_on, entry_record, forests_behind, front_of, graph_behind, is_bounced, is_candidate_behind, records_of}
use Rattle.ris_epoch.specs.Laws.{IsDue}
use Rattle.ris_epoch.proofs.Deciding.{decided-entry, merge-verdicts, merged-in}
use Rattle.ris_algo.proofs.RecordLemmas.{changed_forests-none, forests_after-entry, lines_of-append}
use Rattle.ris_epoch.proofs.RightRecords.{right-entry, right-line}
use Rattle.ris_epoch.proofs.SealRuns.{front-more}
use Rattle.ris_epoch.proofs.Splits.{ArePartsOf, parts-of, submits}
use Rattle.ris_epoch.proofs.Stands.{Contains-map, Contains-mapped}

-- Behind one entry more

-- the graph behind one entry more
pub graph-more : (ground : Ground) (records : List Record) (e : Entry) (changes : List Change)
    → graph_behind ground (records ++ entry_record e changes ∷ []) ≡ entered (graph_behind ground records) e.parts
graph-more ground records e changes =
    let r : Record = entry_record e changes in
    ap (λ (ls : List Line). after ground.opening ls (front_of (records ++ r ∷ []))) (lines_of-append records (r ∷ []))
    ∙ ap (λ (n : ℕ). after ground.opening (lines_of records ++ line.Entry e ∷ []) n) (front-more records e r refl)
    ∙ after-entry ground.opening (lines_of records) e

-- the forests behind one entry more
pub forests-more : (ground : Ground) (records : List Record) (e : Entry) (changes : List Change)
    → forests_behind ground (records ++ entry_record e changes ∷ []) ≡ changed_forests (forests_behind ground records) changes
forests-more ground records e changes =
    let r : Record = entry_record e changes in
    let up : front_of records + 1 ≡ suc (front_of records) = omega arith in
    ap (forests_at ground.start (records ++ r ∷ [])) (front-more records e r refl ∙ up)
    ∙ forests_after-entry (opening_forests ground.start) records e changes (front_of records) refl

-- where the same forests are right there are no changes
no-changes : (g h : PlainGraph) (specs : List Spec) (forests : List Forest) → AreForests g specs forests → AreForests h specs forests → AreChanges specs g h []
no-changes g h specs forests before now = record {
  within = All-nil (IsWithin specs);
  once = λ i j d less within. absurd (omega arith);
  moved = λ c at. absurd (Contains-none c at);
  covered = λ a x spec at m. absurd (still a x spec at m);
}
  where
    still : (a x : ℕ) (spec : Spec) → slice_get specs a ≡ Some spec → ¬ (Moves g h spec x)
    still a x spec at =
        subst (λ (s : Spec). ¬ (Moves g h s x)) (sym (unwrap_or-slice_get specs a spec) ∙ ap (λ (o : Option Spec). unwrap_or o spec) at)
        (same_values g h specs forests before now a spec (slice_get_within specs a spec at) x)

-- The seal

-- a candidate of a session that exists, which didn't bounce
pub record IsReady (ground : Ground) (g : PlainGraph) (forests : List Forest) (d : Decided) : Type 0 where
  pub candidate : is_candidate g ground.specs forests d.entry.parts ≡ true
  pub stays : is_bounced d ≡ false
  pub here : d.entry.session < ground.start.sessions

module _ (ground : Ground) (g : PlainGraph) (forests : List Forest) where
  -- an applied decision
  pub right-applied : (records : List Record) (before : List Decided) (d : Decided) (part : Update) → AreRight ground.opening ground.specs ground.start records
      → forests_behind ground records ≡ forests → d.entry.session < ground.start.sessions → d.entry.parts ≡ part ∷ [] → IsStage g ground.specs forests before (graph_behind ground records)
      → Follows g ground.specs forests before (graph_behind ground records) d part verdict.Applied
      → AreRight ground.opening ground.specs ground.start (records ++ entry_record d.entry [] ∷ [])
      × (forests_behind ground (records ++ entry_record d.entry [] ∷ []) ≡ forests)
      × IsStage g ground.specs forests (before ++ d ∷ []) (graph_behind ground (records ++ entry_record d.entry [] ∷ []))
  right-applied records before d part right same here parts stage f =
      let h : PlainGraph = graph_behind ground records in
      let enters : entered h d.entry.parts ≡ changed h part = ap (entered h) parts ∙ entered-one h (changed h part) part f.1 in
      let now : AreForests (entered h d.entry.parts) ground.specs forests = subst (λ (x : PlainGraph). AreForests x ground.specs forests) (sym enters) f.2.right in (
        right-entry ground.opening ground.specs ground.start records right d.entry [] here
            (ap (refusal_of h) parts ∙ refusal_of-one h (changed h part) part f.1)
            (no-changes h (entered h d.entry.parts) ground.specs forests stage.right now)
            (subst (λ (fs : List Forest). AreForests (entered h d.entry.parts) ground.specs fs) (sym (changed_forests-none (forests_behind ground records) ∙ same)) now),
        forests-more ground records d.entry [] ∙ changed_forests-none (forests_behind ground records) ∙ same,
        subst (λ (x : PlainGraph). IsStage g ground.specs forests (before ++ d ∷ []) x) (sym (graph-more ground records d.entry [] ∙ enters)) f.2,
      )

  -- all decisions of a merge
  pub right-seal : (order : List Decided) (records : List Record) (before : List Decided) → AreRight ground.opening ground.specs ground.start records
      → forests_behind ground records ≡ forests → IsStage g ground.specs forests before (graph_behind ground records) → AreMerged g forests before order
      → ((d : Decided) → Contains order d → IsReady ground g forests d) → AreRight ground.opening ground.specs ground.start (records ++ records_of order)
  unfolding records_of
  right-seal [] records before right same stage merged ready = subst (λ (rs : List Record). AreRight ground.opening ground.specs ground.start rs) (sym (append-nil records)) right
  right-seal (d ∷ order) records before right same stage merged ready =
      let its = ready d (Contains-first d order) in
      let one = one-part g ground.specs forests d.entry.parts its.candidate in
      go one.0 one.1 d.verdict refl its.here its.stays
      (follows g (graph_behind ground records) ground.specs forests before d one.0 stage one.2 one.1
      (subst (λ (ps : List Update). d.verdict ≡ verdict_of g forests (stripe_log (stripe_of ps) before) ps) one.1 (merged-here g forests before order d merged)))
      (λ rs r s st. right-seal order rs (before ++ d ∷ []) r s st (merged-rest g forests before order d merged) (λ x at. ready x (Contains-rest d order x at)))
    where
      go : (part : Update) → d.entry.parts ≡ part ∷ [] → (v : Verdict) → d.verdict ≡ v → d.entry.session < ground.start.sessions → is_bounced d ≡ false
          → Follows g ground.specs forests before (graph_behind ground records) d part v
          → ((rs : List Record) → AreRight ground.opening ground.specs ground.start rs → forests_behind ground rs ≡ forests
          → IsStage g ground.specs forests (before ++ d ∷ []) (graph_behind ground rs) → AreRight ground.opening ground.specs ground.start (rs ++ records_of order))
          → AreRight ground.opening ground.specs ground.start (records ++ (if is_applied d then entry_record d.entry [] ∷ records_of order else records_of order))
      go part parts verdict.Applied e here stays f rest =
          let one = right-applied records before d part right same here parts stage f in
          subst (λ (v : Verdict). AreRight ground.opening ground.specs ground.start (records ++ (if applies v then entry_record d.entry [] ∷ records_of order else records_of order))) (sym e)
          (subst (λ (rs : List Record). AreRight ground.opening ground.specs ground.start rs) (append_assoc records (entry_record d.entry [] ∷ []) (records_of order))
          (rest (records ++ entry_record d.entry [] ∷ []) one.0 one.1 one.2))
      go part parts verdict.NoEdge e here stays f rest =
          subst (λ (v : Verdict). AreRight ground.opening ground.specs ground.start (records ++ (if applies v then entry_record d.entry [] ∷ records_of order else records_of order))) (sym e)
          (rest records right same f.1)
      go part parts verdict.Bounced e here stays f rest = absurd (true≢false (sym (ap bounces e) ∙ stays))
      go part parts verdict.Waiting e here stays f rest = absurd f

-- The tail

-- one request of the tail
pub right-handled : (ground : Ground) (records : List Record) (r : Request) (next : List Record) (told : Outcome) → AreRight ground.opening ground.specs ground.start records
    → session_by r < ground.start.sessions → IsHandled ground records r next told → AreRight ground.opening ground.specs ground.start next
right-handled ground records (request.Submit e) next told right here (inl a) = subst (λ (rs : List Record). AreRight ground.opening ground.specs ground.start rs) (sym a.same) right
right-handled ground records (request.Submit e) next told right here (inr (inl a)) =
    subst (λ (rs : List Record). AreRight ground.opening ground.specs ground.start rs) (sym a.longer)
    (right-entry ground.opening ground.specs ground.start records right e a.changes here a.accepted a.are a.right)
right-handled ground records (request.Submit e) next told right here (inr (inr a)) = subst (λ (rs : List Record). AreRight ground.opening ground.specs ground.start rs) (sym a.same) right
right-handled ground records (request.Release session seq upto) next told right here (inl a) = subst (λ (rs : List Record). AreRight ground.opening ground.specs ground.start rs) (sym a.same) right
right-handled ground records (request.Release session seq upto) next told right here (inr (inl a)) =
    let mark : Record = record { line = line.Mark session seq upto; changes = [] } in
    subst (λ (rs : List Record). AreRight ground.opening ground.specs ground.start rs) (sym a.longer)
    (right-line ground.opening ground.specs ground.start records right mark here (a.within, refl)
    (ap front (lines_of-append records (mark ∷ [])) ∙ front-mark (lines_of records) session seq upto))
right-handled ground records (request.Release session seq upto) next told right here (inr (inr a)) = subst (λ (rs : List Record). AreRight ground.opening ground.specs ground.start rs) (sym a.same) right
right-handled ground records (request.Leave session seq) next told right here (inl a) =
    let leave : Record = record { line = line.Leave session seq; changes = [] } in
    subst (λ (rs : List Record). AreRight ground.opening ground.specs ground.start rs) (sym a.longer)
    (right-line ground.opening ground.specs ground.start records right leave here refl
    (ap front (lines_of-append records (leave ∷ [])) ∙ front-leave (lines_of records) session seq))
right-handled ground records (request.Leave session seq) next told right here (inr a) = subst (λ (rs : List Record). AreRight ground.opening ground.specs ground.start rs) (sym a.same) right

-- a tail of sessions that exist keeps records right
pub right-tail : (ground : Ground) (tail : List Request) (records more : List Record) (outcomes : List Resolved) (visits : ℕ)
    → AreRight ground.opening ground.specs ground.start records → ((r : Request) → Contains tail r → session_by r < ground.start.sessions)
    → IsTail ground records tail more outcomes visits → AreRight ground.opening ground.specs ground.start more
unfolding IsTail
right-tail ground [] records more outcomes visits right here h = subst (λ (rs : List Record). AreRight ground.opening ground.specs ground.start rs) (sym h.0) right
right-tail ground (r ∷ tail) records more outcomes visits right here h =
    right-tail ground tail h.0 more h.2 h.4 (right-handled ground records r h.0 h.1 right (here r (Contains-first r tail)) h.5)
    (λ x at. here x (Contains-rest r tail x at)) h.7

-- The turn

module _ (ground : Ground) (records : List Record) (batch : List Request) (more : List Record) (outcomes : List Resolved) (visits : ℕ)
    (due : IsDue ground records batch) (a : IsTurnAccount ground records batch more outcomes visits) where
  -- the graph as the turn begins
  abbrev g : PlainGraph
  g = graph_behind ground records

  -- the forests as the turn begins
  abbrev forests : List Forest
  forests = forests_behind ground records

  -- the parts of the batch
  parts : ArePartsOf (is_candidate_behind ground records) batch a.wanting a.candidates a.others
  parts = parts-of (is_candidate_behind ground records) batch a.wanting a.candidates a.others a.split

  -- the sessions of the batch exist
  exists : (r : Request) → Contains batch r → session_by r < ground.start.sessions
  exists r at = All-contains (λ x. session_by x < ground.start.sessions) batch r due.taken.here at

  -- a candidate is of the batch
  candidate-known : (e : Entry) → Contains a.candidates e → Contains batch (request.Submit e)
  candidate-known e at = parts.from (request.Submit e) (Contains-append_right (submits a.wanting) (submits a.candidates ++ a.others) (request.Submit e)
      (Contains-append_left (submits a.candidates) a.others (request.Submit e) (Contains-mapped (λ (x : Entry). request.Submit x) a.candidates e at)))

  -- the merged decisions are ready
  all-ready : (d : Decided) → Contains a.merged d → IsReady ground g forests d
  all-ready d at =
      let its = merged-in (decisions_on ground records a.candidates) a.merged a.merge d at in
      let e = decided-entry g forests [] a.candidates d its.0 in
      record { candidate = parts.candidates d.entry e; stays = its.1; here = exists (request.Submit d.entry) (candidate-known d.entry e) }

  -- the sessions of the tail exist
  tail-exists : (r : Request) → Contains a.tail r → session_by r < ground.start.sessions
  tail-exists r at = elim ((a.each r).0 at) [
    | inl other ↦ exists r (parts.from r (Contains-append_right (submits a.wanting) (submits a.candidates ++ a.others) r (Contains-append_right (submits a.candidates) a.others r other)))
    | inr back ↦ (let d = Contains-map (λ (d : Decided). request.Submit d.entry) (filter is_bounced (decisions_on ground records a.candidates)) r back in
        let e = decided-entry g forests [] a.candidates d.0 (Contains-filter is_bounced (decisions_on ground records a.candidates) d.0 d.1).0 in
        subst (λ (x : Request). session_by x < ground.start.sessions) d.2 (exists (request.Submit d.0.entry) (candidate-known d.0.entry e)))
  ]

  -- up to the seal
  pub right-sealed : AreRight ground.opening ground.specs ground.start (records ++ records_of a.merged)
  right-sealed = right-seal ground g forests a.merged records [] due.right refl
      (first-stage g ground.specs forests due.proper (due.right.forests (front_of records) (omega arith)))
      (merge-verdicts g forests a.candidates a.merged a.merge) all-ready

  -- the records of the turn are right
  pub turn-right : AreRight ground.opening ground.specs ground.start more
  turn-right = right-tail ground a.tail (records ++ records_of a.merged) more a.handled visits right-sealed tail-exists a.handles
