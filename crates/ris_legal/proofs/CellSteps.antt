-- What a state keeps, each step keeps that may happen in the cells or ends them.
use Rattle.std.proofs.Common.{◌≡◌, ◌≢◌, ℕ, ◌<◌, ◌≤◌, ◌==◌, if◌then◌else◌, ◌⊎◌, inl, inr, Bool, true, false, List, [], ◌∷◌, ◌++◌, length, take, Some, None, arith, refl, sym, subst, ap, ◌∙◌, length-append, append_assoc, eq-eqb}
use Rattle.std.specs.List.{slice_get, filter}
use Rattle.std.proofs.lemmas.Bool.{true≢false, eqb-true}
use Rattle.std.proofs.lemmas.List.{append-nil}
use Rattle.std.proofs.lemmas.Option.{slice_get_within}
use Rattle.ris_base.specs.Answers.{question_of}
use Rattle.ris_base.specs.Forest.{Forest}
use Rattle.ris_base.specs.Legal.{Asked}
use Rattle.ris_base.specs.Lines.{front}
use Rattle.ris_base.specs.Machine
use Rattle.ris_base.specs.Machine.{Book, Cells, Collect, Decided, EntersOr, Happens, InBatch, InLog, InTail, IsInTail, Known, MayRead, Phase, Queued, Run, Seat, Serially, Stand, State, Step, Undecided, asked_by, asked_more, begun, decided, entry_of, forests_now, forests_of, graph_of, is_candidate_now, last_placed, lined, marked, may_want, next_of, next_seq, opened, placed, read_seat, sealed, seated, stripe_of, told, told_seat, verdict_of, with_seat}
use Rattle.ris_base.specs.Safe.{is_candidate}
use Rattle.ris_base.specs.declared.commands.Command.{Command}
use Rattle.ris_base.specs.declared.commands.Command.TheVariants as command
use Rattle.ris_base.specs.declared.events.Verdict.{Verdict}
use Rattle.ris_base.specs.declared.events.Verdict.TheVariants as verdict
use Rattle.ris_base.specs.declared.graphs.PlainGraph.{PlainGraph}
use Rattle.ris_base.specs.declared.lines.Entry.{Entry}
use Rattle.ris_base.specs.declared.requests.Request.{Request}
use Rattle.ris_base.specs.declared.requests.Request.TheVariants as request
use Rattle.ris_base.specs.declared.updates.Update.{Update}
use Rattle.ris_base.proofs.RequestLemmas.{proper-after}
use Rattle.ris_legal.specs.Held.{SaysVerdict, AreCells, AreLogs, AreVerdicts, HasDecision, IsKept, IsLogged, IsSeatKept, NoTwo, account_in, asked_in}
use Rattle.ris_legal.specs.Telling.{told_more, MayTell}
use Rattle.ris_legal.specs.Telling
use Rattle.ris_legal.proofs.Books.{account-same, kept-move, put, with_seat-more}
use Rattle.ris_legal.proofs.Cells.{AreMerged, first-stage, merged}
use Rattle.ris_legal.proofs.Lists.{at-end, at-middle, at-more, get-before, from-filter, in-filter, two-filter, same_some}
use Rattle.ris_legal.proofs.Sealing.{IsNext, IsWaiting, says-sealed, with_seat-here, kept-sealed, sealed-seat}
use Rattle.ris_legal.proofs.Telling.{asked-kept}
use Rattle.ris_legal.proofs.OutsideSteps.{IsIdle, next-is, queued-idle}

-- One seat changed in the cells

-- the next command of a seat that isn't in the queue is there, and stays the next one where more come
next-more : (published : ℕ) (x : Seat) (asked : Asked) → IsSeatKept published x → x.stand ≢ Queued → next_of (asked_more x asked) ≡ next_of x
next-more published x asked k f = get-before x.commands (asked ∷ []) (length x.replies) (k.flight f)

-- a decision in another state with the same logs
pub decision-kept : (old new : State) (n : ℕ) → new.logs ≡ old.logs → HasDecision old n → HasDecision new n
decision-kept old new n same d = record {
  stripe = d.stripe;
  place = d.place;
  decision = d.decision;
  here = ap (λ (logs : ℕ → List Decided). slice_get (logs d.stripe) d.place) same ∙ d.here;
  session = d.session;
}

-- the logs, one seat being changed that stays in a log with its next command where it was in one
logs-seat : (old : State) (s : ℕ) (y : Seat) → AreLogs old
    → ((old.book.seats s).stand ≡ InLog → (y.stand ≡ InLog) × (next_of y ≡ next_of (old.book.seats s)))
    → AreLogs (record old { book = seated old.book s y })
logs-seat old s y k on = record { logged = λ n i d at. still n d (k.logged n i d at); single = k.single; verdicts = k.verdicts }
  where
    still : (n : ℕ) (d : Decided) → IsLogged old n d → IsLogged (record old { book = seated old.book s y }) n d
    still n d l =
        let both = put (λ (m : ℕ) (x : Seat). (old.book.seats m).stand ≡ InLog → (x.stand ≡ InLog) × (next_of x ≡ next_of (old.book.seats m))) old.book.seats s y
        on (λ m stand. (stand, refl)) d.entry.session l.stand in
        record { stripe = l.stripe; stand = both.0; next = both.1 ∙ l.next; candidate = l.candidate; ruled = l.ruled }

-- the cells, one seat being changed that stays as it was in the cells, with its next command
pub cells-seat : (old : State) (s : ℕ) (y : Seat) → AreCells old
    → ((old.book.seats s).stand ≡ InLog → (y.stand ≡ InLog) × (next_of y ≡ next_of (old.book.seats s)))
    → (y.stand ≡ Undecided → ((old.book.seats s).stand ≡ Undecided) × (next_of y ≡ next_of (old.book.seats s)))
    → (y.stand ≡ InLog → (old.book.seats s).stand ≡ InLog)
    → AreCells (record old { book = seated old.book s y })
cells-seat old s y k on back from = record {
  logs = logs-seat old s y k.logs on;
  undecided = put (λ (n : ℕ) (x : Seat). x.stand ≡ Undecided → is_candidate_now old (next_of x) ≡ true) old.book.seats s y
      (λ stand. ap (is_candidate_now old) (back stand).1 ∙ k.undecided s (back stand).0) k.undecided;
  in_log = put (λ (n : ℕ) (x : Seat). x.stand ≡ InLog → HasDecision (record old { book = seated old.book s y }) n) old.book.seats s y
      (λ stand. decision-kept old (record old { book = seated old.book s y }) s refl (k.in_log s (from stand)))
      (λ n stand. decision-kept old (record old { book = seated old.book s y }) n refl (k.in_log n stand));
}

-- Submit

asked-request : (r : Request) → question_of (asked_by r).command 0 ≡ None
asked-request (request.Submit e) = refl
asked-request (request.Release session seq upto) = refl
asked-request (request.Leave session seq) = refl

-- a seat with one request more
seat-asked : (published : ℕ) (x : Seat) (asked : Asked) → length x.replies ≤ length x.commands → question_of asked.command 0 ≡ None → IsSeatKept published x → IsSeatKept published (asked_more x asked)
seat-asked published x asked few none k =
    let l = length-append x.commands (asked ∷ []) in
    record {
      given = k.given;
      flight = λ f. (let a = k.flight f in omega arith);
      waiting = λ q a past at. elim (at-end x.commands asked q a at) [
        | inl old ↦ k.waiting q a past old.1
        | inr last ↦ ap (λ (z : Asked). question_of z.command 0) (sym last.1) ∙ none
      ];
      known = k.known;
      seen = k.seen;
    }

pub kept-submit : (old : State) (s : ℕ) (r : Request) (new : State) → Happens old (Step.Submit s r) new → IsKept old → IsKept new
kept-submit old s r new h k = subst IsKept (sym h.after) (record {
  book = record {
    account = account-same old.setup (Telling.asked_more (account_in b) s asked) (λ n. (with_seat b.seats s y n).commands) (λ n. (with_seat b.seats s y n).replies)
        (asked-kept old.setup (account_in b) s asked k.book.account h.greater)
        (with_seat-more (λ (x : Seat). x.commands) b.seats s y asked refl)
        (put (λ (n : ℕ) (x : Seat). x.replies ≡ (b.seats n).replies) b.seats s y refl (λ n. refl));
    right = k.book.right;
    within = k.book.within;
    seats = put (λ (n : ℕ) (x : Seat). IsSeatKept old.published x) b.seats s y
        (seat-asked old.published (b.seats s) asked (k.book.account.seats s).few (asked-request r) (k.book.seats s)) k.book.seats;
  };
  proper = k.proper;
  outside = λ p. put (λ (n : ℕ) (x : Seat). IsIdle x) b.seats s y (k.outside p s) (k.outside p);
  empty = k.empty;
  cells = λ p. cells-seat old s y (k.cells p)
      (λ stand. (stand, next-more old.published (b.seats s) asked (k.book.seats s) (λ q. absurd (let w = sym stand ∙ q in cc))))
      (λ stand. (stand, next-more old.published (b.seats s) asked (k.book.seats s) (λ q. absurd (let w = sym stand ∙ q in cc))))
      (λ stand. stand);
})
  where
    b : Book
    b = old.book

    asked : Asked
    asked = asked_by r

    y : Seat
    y = asked_more (b.seats s) asked

-- Cell

-- one more verdict at the end of a log
verdicts-push : (g : PlainGraph) (forests : List Forest) (before log : List Decided) (d : Decided) → AreVerdicts g forests before log
    → d.verdict ≡ verdict_of g forests (before ++ log) d.entry.parts → AreVerdicts g forests before (log ++ d ∷ [])
unfolding AreVerdicts
verdicts-push g forests before [] d h is = (rw (append-nil before) at is, tt)
verdicts-push g forests before (c ∷ log) d h is = (h.0, verdicts-push g forests (before ++ c ∷ []) log d h.1 (rw (append_assoc before (c ∷ []) log) is))

-- the logs with one decision more at the end of that of stripe k
abbrev logs_with : (ℕ → List Decided) → ℕ → Decided → ℕ → List Decided
logs_with logs k d n = if n == k then logs n ++ d ∷ [] else logs n

pushed-verdicts : (g : PlainGraph) (forests : List Forest) (logs : ℕ → List Decided) (k : ℕ) (d : Decided)
    → ((n : ℕ) → AreVerdicts g forests [] (logs n)) → d.verdict ≡ verdict_of g forests (logs k) d.entry.parts
    → (n : ℕ) → AreVerdicts g forests [] (logs_with logs k d n)
pushed-verdicts g forests logs k d each is n = go (n == k) refl
  where
    go : (b : Bool) → (n == k) ≡ b → AreVerdicts g forests [] (if b then logs n ++ d ∷ [] else logs n)
    go false e = each n
    go true e = verdicts-push g forests [] (logs n) d (each n) (subst (λ (m : ℕ). d.verdict ≡ verdict_of g forests (logs m) d.entry.parts) (sym (eqb-true n k e)) is)

-- the logs with one decision more
logs-push : (s : State) (k : ℕ) (d : Decided) → AreLogs s → IsLogged s k d
    → ((i : ℕ) (a : Decided) → slice_get (s.logs k) i ≡ Some a → a.entry.session ≢ d.entry.session)
    → d.verdict ≡ verdict_of (graph_of s.setup s.book) (forests_now s.book) (s.logs k) d.entry.parts
    → AreLogs (record s { logs = logs_with s.logs k d })
logs-push s k d are one alone is = record {
  logged = λ n i a at. still n a (logged n i a (n == k) refl at);
  single = λ n. single n (n == k) refl;
  verdicts = pushed-verdicts (graph_of s.setup s.book) (forests_now s.book) s.logs k d are.verdicts is;
}
  where
    still : (n : ℕ) (a : Decided) → IsLogged s n a → IsLogged (record s { logs = logs_with s.logs k d }) n a
    still n a l = record { stripe = l.stripe; stand = l.stand; next = l.next; candidate = l.candidate; ruled = l.ruled }

    logged : (n i : ℕ) (a : Decided) (c : Bool) → (n == k) ≡ c → slice_get (if c then s.logs n ++ d ∷ [] else s.logs n) i ≡ Some a → IsLogged s n a
    logged n i a false e at = are.logged n i a at
    logged n i a true e at = elim (at-end (s.logs n) d i a at) [
      | inl old ↦ are.logged n i a old.1
      | inr new ↦ subst (λ (m : ℕ). IsLogged s m a) (sym (eqb-true n k e)) (subst (λ (x : Decided). IsLogged s k x) new.1 one)
    ]

    single : (n : ℕ) (c : Bool) → (n == k) ≡ c → NoTwo (if c then s.logs n ++ d ∷ [] else s.logs n)
    single n false e = are.single n
    single n true e = λ i j x y less first second. elim (at-end (s.logs n) d j y second) [
      | inl later ↦ (elim (at-end (s.logs n) d i x first) [
        | inl earlier ↦ are.single n i j x y less earlier.1 later.1
        | inr late ↦ absurd (let p = late.0 in let q = later.0 in omega arith)
      ])
      | inr new ↦ (elim (at-end (s.logs n) d i x first) [
        | inl earlier ↦ subst (λ (z : Decided). x.entry.session ≢ z.entry.session) new.1 (alone i x (subst (λ (m : ℕ). slice_get (s.logs m) i ≡ Some x) (eqb-true n k e) earlier.1))
        | inr late ↦ absurd (let p = late.0 in let q = new.0 in omega arith)
      ])
    ]

-- a decision stands behind those of its log
decision-pushed : (s : State) (k : ℕ) (d : Decided) → HasDecision (record s { logs = logs_with s.logs k d }) d.entry.session
decision-pushed s k d = record { stripe = k; place = length (s.logs k); decision = d; here = last (k == k) (eq-eqb k k refl); session = refl }
  where
    last : (b : Bool) → b ≡ true → slice_get (if b then s.logs k ++ d ∷ [] else s.logs k) (length (s.logs k)) ≡ Some d
    last true e = at-middle (s.logs k) [] d
    last false e = absurd (true≢false (sym e))

-- and leaves those of all logs
decision-stays : (s : State) (k : ℕ) (d : Decided) (n : ℕ) → HasDecision s n → HasDecision (record s { logs = logs_with s.logs k d }) n
decision-stays s k d n h = record { stripe = h.stripe; place = h.place; decision = h.decision; here = longer (h.stripe == k); session = h.session }
  where
    longer : (b : Bool) → slice_get (if b then s.logs h.stripe ++ d ∷ [] else s.logs h.stripe) h.place ≡ Some h.decision
    longer true = at-more (s.logs h.stripe) (d ∷ []) h.place h.decision h.here
    longer false = h.here

-- a command of a change that is a candidate
candidate-parts : (s : State) (asked : Asked) (parts : List Update) → asked.command ≡ command.Change parts → is_candidate_now s (Some asked) ≡ true
    → is_candidate (graph_of s.setup s.book) s.setup.specs (forests_now s.book) parts ≡ true
candidate-parts s asked parts is h = subst (λ (c : Command). Machine.is_candidate_command s c ≡ true) is h

pub kept-cell : (old : State) (n s : ℕ) (new : State) → Happens old (Step.Cell n s) new → IsKept old → IsKept new
kept-cell old n s new h k = go (verdict_of (graph_of old.setup old.book) (forests_now old.book) (old.logs n) h.parts) refl h.after
  where
    b : Book
    b = old.book

    e : Entry
    e = entry_of s h.asked.seq h.parts

    moved : Stand → Seat
    moved to = record (b.seats s) { stand = to }

    there : length (b.seats s).replies < length (b.seats s).commands
    there = slice_get_within (b.seats s).commands (length (b.seats s).replies) h.asked h.next

    candidate : is_candidate (graph_of old.setup b) old.setup.specs (forests_now b) h.parts ≡ true
    candidate = candidate-parts old h.asked h.parts h.is (ap (is_candidate_now old) (sym h.next) ∙ (k.cells h.phase).undecided s h.stand)

    decision : Verdict → Decided
    decision v = record { entry = e; verdict = v }

    -- nobody in a log is this session
    alone : (i : ℕ) (a : Decided) → slice_get (old.logs n) i ≡ Some a → a.entry.session ≢ s
    alone i a there same =
        let l = (k.cells h.phase).logs.logged n i a there in
        let w : InLog ≡ Undecided = sym l.stand ∙ ap (λ (m : ℕ). (b.seats m).stand) same ∙ h.stand in cc

    was : (old.book.seats s).stand ≢ InLog
    was stand = let w = sym h.stand ∙ stand in cc

    -- the logs with the decision
    logs : (v : Verdict) → v ≢ verdict.Bounced → verdict_of (graph_of old.setup b) (forests_now b) (old.logs n) h.parts ≡ v
        → AreLogs (record old { book = seated b s (moved InLog); logs = logs_with old.logs n (decision v) })
    logs v ruled is =
        let mid : State = record old { book = seated b s (moved InLog) } in
        let at : with_seat b.seats s (moved InLog) s ≡ moved InLog = with_seat-here b.seats s (moved InLog) in
        logs-push mid n (decision v) (logs-seat old s (moved InLog) (k.cells h.phase).logs (λ stand. absurd (was stand)))
        (record { stripe = h.of_stripe; stand = ap (λ (x : Seat). x.stand) at; next = ap next_of at ∙ next-is (b.seats s) h.asked (command.Change h.parts) h.next h.is; candidate = candidate; ruled = ruled }) alone (sym is)

    cells : (v : Verdict) → v ≢ verdict.Bounced → verdict_of (graph_of old.setup b) (forests_now b) (old.logs n) h.parts ≡ v
        → AreCells (record old { book = seated b s (moved InLog); logs = logs_with old.logs n (decision v) })
    cells v ruled is =
        let mid : State = record old { book = seated b s (moved InLog) } in
        let new : State = record mid { logs = logs_with old.logs n (decision v) } in
        record {
          logs = logs v ruled is;
          undecided = put (λ (m : ℕ) (x : Seat). x.stand ≡ Undecided → is_candidate_now old (next_of x) ≡ true) b.seats s (moved InLog)
              (λ stand. absurd (cc)) (k.cells h.phase).undecided;
          in_log = put (λ (m : ℕ) (x : Seat). x.stand ≡ InLog → HasDecision new m) b.seats s (moved InLog)
              (λ stand. decision-pushed mid n (decision v))
              (λ m stand. decision-stays mid n (decision v) m (decision-kept old mid m refl ((k.cells h.phase).in_log m stand)));
        }

    kept : (v : Verdict) → v ≢ verdict.Bounced → verdict_of (graph_of old.setup b) (forests_now b) (old.logs n) h.parts ≡ v
        → IsKept (record old { book = seated b s (moved InLog); logs = logs_with old.logs n (decision v) })
    kept v ruled is = record {
      book = kept-move old.setup old.published b s InLog k.book (λ f. there);
      proper = k.proper;
      outside = λ p. absurd (p h.phase);
      empty = λ p. absurd (p h.phase);
      cells = λ p. cells v ruled is;
    }

    go : (v : Verdict) → verdict_of (graph_of old.setup b) (forests_now b) (old.logs n) h.parts ≡ v → new ≡ decided old n e v → IsKept new
    go verdict.Bounced is a = subst IsKept (sym a) (record {
      book = kept-move old.setup old.published b s InTail k.book (λ f. there);
      proper = k.proper;
      outside = λ p. absurd (p h.phase);
      empty = λ p. absurd (p h.phase);
      cells = λ p. cells-seat old s (moved InTail) (k.cells h.phase) (λ stand. absurd (was stand)) (λ stand. absurd (cc)) (λ stand. absurd (cc));
    })
    go verdict.Applied is a = subst IsKept (sym a) (kept verdict.Applied (λ e. cc) is)
    go verdict.NoEdge is a = subst IsKept (sym a) (kept verdict.NoEdge (λ e. cc) is)
    go verdict.Waiting is a = subst IsKept (sym a) (kept verdict.Waiting (λ e. cc) is)

-- Seal

-- what a merge of the logs is, where the cells are right
module _ (old : State) (merging : List Decided) (k : IsKept old) (phase : old.phase ≡ Cells)
    (merge : (n : ℕ) → filter (λ d. stripe_of d.entry.parts == n) merging ≡ old.logs n) where
  abbrev g : PlainGraph
  g = graph_of old.setup old.book

  cells : AreCells old
  cells = k.cells phase

  pub start-next : IsNext old.setup old.published g (forests_now old.book) [] old.book
  start-next =
      let proper = proper-after old.setup.opening old.book.lines (front old.book.lines) k.proper in
      record { kept = k.book; stage = first-stage g old.setup.specs (forests_now old.book) proper k.book.right; now = refl }

  pub are-merged : AreMerged g (forests_now old.book) [] merging
  are-merged = merged g (forests_now old.book) [] merging (λ n. subst (AreVerdicts g (forests_now old.book) []) (sym (merge n)) (cells.logs.verdicts n))

  logged : (i : ℕ) (d : Decided) → slice_get merging i ≡ Some d → IsLogged old (stripe_of d.entry.parts) d
  logged i d at =
      let n : ℕ = stripe_of d.entry.parts in
      let there = in-filter (λ (x : Decided). stripe_of x.entry.parts == n) merging i d at (eq-eqb n n refl) in
      cells.logs.logged n there.0 d (ap (λ (x : List Decided). slice_get x there.0) (sym (merge n)) ∙ there.1)

  pub all-wait : (i : ℕ) (d : Decided) → slice_get merging i ≡ Some d → IsWaiting g old.setup.specs (forests_now old.book) old.book d
  all-wait i d at = let l = logged i d at in record { next = l.next; candidate = l.candidate; ruled = l.ruled }

  change-same : (x y : List Update) → command.Change x ≡ command.Change y → x ≡ y
  change-same x y e = cc

  pub no-two : NoTwo merging
  no-two i j a b less first second same =
      let n : ℕ = stripe_of b.entry.parts in
      let x = logged i a first in
      let y = logged j b second in
      let both : asked_in a.entry ≡ asked_in b.entry =
      same_some (next_of (old.book.seats b.entry.session)) (asked_in a.entry) (asked_in b.entry) (ap (λ (m : ℕ). next_of (old.book.seats m)) (sym same) ∙ x.next) y.next in
      let parts : a.entry.parts ≡ b.entry.parts = change-same a.entry.parts b.entry.parts (ap (λ (z : Asked). z.command) both) in
      let two = two-filter (λ (z : Decided). stripe_of z.entry.parts == n) merging i j a b less first second (eq-eqb (stripe_of a.entry.parts) n (ap stripe_of parts)) (eq-eqb n n refl) in
      cells.logs.single n two.0 two.1 a b two.2
      (ap (λ (z : List Decided). slice_get z two.0) (sym (merge n)) ∙ two.3)
      (ap (λ (z : List Decided). slice_get z two.1) (sym (merge n)) ∙ two.4) same

  -- each decision of a merge says what is so where it stands
  pub says-merged : (i : ℕ) (d : Decided) → slice_get merging i ≡ Some d
      → SaysVerdict (graph_of old.setup (sealed old.book (take i merging))) old.setup.specs (forests_now old.book) d.entry.parts d.verdict
  says-merged = says-sealed old.setup old.published g (forests_now old.book) [] merging old.book start-next are-merged all-wait no-two

pub kept-seal : (old : State) (order : List ℕ) (new : State) → Happens old (Step.Seal order) new → IsKept old → IsKept new
kept-seal old order new h k = subst IsKept (sym h.after) (record {
  book = kept-sealed old.setup old.published (graph_of old.setup old.book) (forests_now old.book) [] h.merged old.book
      (start-next old h.merged k h.phase h.logs) (are-merged old h.merged k h.phase h.logs) (all-wait old h.merged k h.phase h.logs) (no-two old h.merged k h.phase h.logs);
  proper = k.proper;
  outside = λ p n. idle n (sealed-seat old.book h.merged n);
  empty = λ p n. refl;
  cells = λ p. absurd (cc);
})
  where
    idle : (n : ℕ) → (((sealed old.book h.merged).seats n).stand ≡ Queued)
        ⊎ (((sealed old.book h.merged).seats n ≡ old.book.seats n) × ((i : ℕ) (d : Decided) → slice_get h.merged i ≡ Some d → d.entry.session ≢ n))
        → IsIdle ((sealed old.book h.merged).seats n)
    idle n (inl done) = queued-idle ((sealed old.book h.merged).seats n) done
    idle n (inr same) = (
      λ stand. h.all n (sym (ap (λ (x : Seat). x.stand) same.0) ∙ stand),
      λ stand.
          let d = (k.cells h.phase).in_log n (sym (ap (λ (x : Seat). x.stand) same.0) ∙ stand) in
          let there = from-filter (λ (x : Decided). stripe_of x.entry.parts == d.stripe) h.merged d.place d.decision
          (ap (λ (x : List Decided). slice_get x d.place) (h.logs d.stripe) ∙ d.here) in
          same.1 there.0 d.decision there.1 d.session,
    )
