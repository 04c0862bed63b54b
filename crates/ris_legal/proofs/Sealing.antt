-- A merge of right logs keeps the book: each applied candidate is an entry with the forests of now, each refused one has its reply.
use Rattle.std.proofs.Common.{◌≡◌, ◌≢◌, ℕ, zero, suc, ◌+◌, ◌==◌, if◌then◌else◌, ◌⊎◌, inl, inr, Bool, true, false, List, [], ◌∷◌, ◌++◌, length, take, Option, Some, None, IfSome, unwrap_or, arith, refl, sym, subst, ap, ◌∙◌}
use Rattle.std.specs.List.{slice_get}
use Rattle.std.specs.Option.{option_map}
use Rattle.std.proofs.lemmas.Bool.{true≢false, eq-eqb, ne_eqb, cases_eq, cond-true, cond-false}
use Rattle.std.proofs.lemmas.List.{append-nil}
use Rattle.ris_base.specs.Answers.{Setup}
use Rattle.ris_base.specs.Effect.{Objection, changed}
use Rattle.ris_base.specs.Forest.{Forest, AreForests}
use Rattle.ris_base.specs.Lines.{front}
use Rattle.ris_base.specs.Machine.{Book, Decided, Queued, Seat, applies, forests_now, graph_of, is_applied, next_of, placed, sealed, sealed_by, stripe_of, told, verdict_of, with_seat}
use Rattle.ris_base.specs.Replies.{number}
use Rattle.ris_base.specs.Requests.{RefusedPart, after, entered, refusal_of, refused_at}
use Rattle.ris_base.specs.Safe.{is_candidate, is_safe}
use Rattle.ris_base.specs.declared.analyses.Spec.{Spec}
use Rattle.ris_base.specs.declared.events.Verdict.{Verdict}
use Rattle.ris_base.specs.declared.events.Verdict.TheVariants as verdict
use Rattle.ris_base.specs.declared.graphs.PlainGraph.{PlainGraph}
use Rattle.ris_base.specs.declared.lines.Entry.{Entry}
use Rattle.ris_base.specs.declared.lines.Line.{Line}
use Rattle.ris_base.specs.declared.lines.Line.TheVariants as line
use Rattle.ris_base.specs.declared.replies.LogLine.TheVariants.{Reply}
use Rattle.ris_base.specs.declared.replies.Outcome.TheVariants as outcome
use Rattle.ris_base.specs.declared.replies.Refusal.TheVariants as refusal
use Rattle.ris_base.specs.declared.updates.Update.{Update}
use Rattle.ris_base.proofs.LineLemmas.{front-entry, after-entry}
use Rattle.ris_base.proofs.RequestLemmas.{entered-one, refusal_of-one, refusal_of-one_refused}
use Rattle.ris_legal.specs.Account.{SaysRefused}
use Rattle.ris_legal.specs.Held.{IsBookKept, NoTwo, SaysVerdict, asked_in}
use Rattle.ris_legal.proofs.Books.{kept-told}
use Rattle.ris_legal.proofs.Cells.{AreMerged, Follows, IsStage, follows, merged-here, merged-rest, stripe_log}
use Rattle.ris_legal.proofs.Lists.{are-right, at-middle}

-- Entries and refusals

-- an accepted request with right forests becomes an entry
pub kept-placed : (setup : Setup) (published : ℕ) (b : Book) (e : Entry) (forests : List Forest) → IsBookKept setup published b
    → next_of (b.seats e.session) ≡ Some (asked_in e) → refusal_of (graph_of setup b) e.parts ≡ None
    → AreForests (entered (graph_of setup b) e.parts) setup.specs forests → IsBookKept setup published (placed b e forests)
kept-placed setup published b e forests k next free right =
    kept-told setup published b e.session (asked_in e) (Reply (outcome.Placed (front b.lines + 1))) (b.lines ++ line.Entry e ∷ []) (b.places ++ forests ∷ []) (forests ∷ []) k
    (record {
      next = next;
      lines_are = refl;
      places_are = refl;
      number = sym (front-entry b.lines e);
      says = tt;
      come = (free, are-right (entered (graph_of setup b) e.parts) setup.specs forests right);
      right = subst (λ (g : PlainGraph). AreForests g setup.specs (unwrap_or (slice_get (b.places ++ forests ∷ []) (front longer)) [])) (sym graph)
          (subst (λ (o : Option (List Forest)). AreForests (entered (graph_of setup b) e.parts) setup.specs (unwrap_or o [])) (sym got) right);
    })
  where
    longer : List Line
    longer = b.lines ++ line.Entry e ∷ []

    graph : after setup.opening longer (front longer) ≡ entered (graph_of setup b) e.parts
    graph = ap (after setup.opening longer) (front-entry b.lines e) ∙ after-entry setup.opening b.lines e

    got : slice_get (b.places ++ forests ∷ []) (front longer) ≡ Some forests
    got = ap (slice_get (b.places ++ forests ∷ [])) (front-entry b.lines e ∙ sym k.account.places) ∙ at-middle b.places [] forests

-- what a refused part says
refused-says : (setup : Setup) (lines : List Line) (parts : List Update) (r : RefusedPart) → refusal_of (after setup.opening lines (front lines)) parts ≡ Some r
    → SaysRefused setup lines parts (refused_at (front lines) r)
refused-says setup lines parts r is = go r.why refl
  where
    go : (w : Objection) → r.why ≡ w → SaysRefused setup lines parts (elim w [
      | Objection.Limit given ↦ refusal.Limit (front lines) r.part given
      | Objection.NoVertex id ↦ refusal.NoVertex (front lines) r.part id
      | Objection.NoEdge ↦ refusal.NoEdge (front lines) r.part
    ])
    go (Objection.Limit given) w = ap (option_map (refused_at (front lines))) is ∙ rw w refl
    go (Objection.NoVertex id) w = ap (option_map (refused_at (front lines))) is ∙ rw w refl
    go Objection.NoEdge w = ap (option_map (refused_at (front lines))) is ∙ rw w refl

refused-number : (n : ℕ) (r : RefusedPart) → IfSome (number (Reply (outcome.Refused (refused_at n r)))) (λ v. v ≡ n)
refused-number n r = go r.why
  where
    go : (w : Objection) → IfSome (number (Reply (outcome.Refused (elim w [
      | Objection.Limit given ↦ refusal.Limit n r.part given
      | Objection.NoVertex id ↦ refusal.NoVertex n r.part id
      | Objection.NoEdge ↦ refusal.NoEdge n r.part
    ])))) (λ v. v ≡ n)
    go (Objection.Limit given) = refl
    go (Objection.NoVertex id) = refl
    go Objection.NoEdge = refl

-- a refused request has its reply
pub kept-refused : (setup : Setup) (published : ℕ) (b : Book) (e : Entry) (r : RefusedPart) → IsBookKept setup published b
    → next_of (b.seats e.session) ≡ Some (asked_in e) → refusal_of (graph_of setup b) e.parts ≡ Some r
    → IsBookKept setup published (told b e.session (Reply (outcome.Refused (refused_at (front b.lines) r))))
kept-refused setup published b e r k next is =
    kept-told setup published b e.session (asked_in e) (Reply (outcome.Refused (refused_at (front b.lines) r))) b.lines b.places [] k
    (record {
      next = next;
      lines_are = sym (append-nil b.lines);
      places_are = sym (append-nil b.places);
      number = refused-number (front b.lines) r;
      says = refused-says setup b.lines e.parts r is;
      come = refl;
      right = k.right;
    })

-- Seats

pub with_seat-here : (seats : ℕ → Seat) (s : ℕ) (x : Seat) → with_seat seats s x s ≡ x
with_seat-here seats s x = cond-true {A = Seat} (s == s) x (seats s) (eq-eqb s s refl)

pub with_seat-other : (seats : ℕ → Seat) (s : ℕ) (x : Seat) (n : ℕ) → n ≢ s → with_seat seats s x n ≡ seats n
with_seat-other seats s x n other = cond-false {A = Seat} (n == s) x (seats n) (ne_eqb n s other)

-- a decision leaves its session's next command in the queue
sealed_by-here : (b : Book) (d : Decided) → ((sealed_by b d).seats d.entry.session).stand ≡ Queued
sealed_by-here b d = go (is_applied d)
  where
    go : (c : Bool) → ((if c then placed b d.entry (forests_now b) else told b d.entry.session (Reply (outcome.Refused (refusal.NoEdge (front b.lines) 1)))).seats d.entry.session).stand ≡ Queued
    go true = ap (λ (x : Seat). x.stand) (with_seat-here b.seats d.entry.session _)
    go false = ap (λ (x : Seat). x.stand) (with_seat-here b.seats d.entry.session _)

-- and all others as they were
sealed_by-other : (b : Book) (d : Decided) (n : ℕ) → n ≢ d.entry.session → (sealed_by b d).seats n ≡ b.seats n
sealed_by-other b d n other = go (is_applied d)
  where
    go : (c : Bool) → (if c then placed b d.entry (forests_now b) else told b d.entry.session (Reply (outcome.Refused (refusal.NoEdge (front b.lines) 1)))).seats n ≡ b.seats n
    go true = with_seat-other b.seats d.entry.session _ n other
    go false = with_seat-other b.seats d.entry.session _ n other

-- who has a decision in the order ends in the queue, and any other is as before
pub sealed-seat : (b : Book) (order : List Decided) (n : ℕ)
    → (((sealed b order).seats n).stand ≡ Queued)
    ⊎ (((sealed b order).seats n ≡ b.seats n) × ((i : ℕ) (d : Decided) → slice_get order i ≡ Some d → d.entry.session ≢ n))
unfolding sealed
sealed-seat b [] n = inr (refl, λ i d at. absurd (cc))
sealed-seat b (d ∷ order) n = elim (sealed-seat (sealed_by b d) order n) [
  | inl done ↦ inl done
  | inr same ↦ elim (cases_eq n d.entry.session) [
    | inl here ↦ inl (ap (λ (x : Seat). x.stand) same.0 ∙ ap (λ (m : ℕ). ((sealed_by b d).seats m).stand) here ∙ sealed_by-here b d)
    | inr other ↦ inr (same.0 ∙ sealed_by-other b d n other, λ i x at. not-first i x at same.1 other)
  ]
]
  where
    not-first : (i : ℕ) (x : Decided) → slice_get (d ∷ order) i ≡ Some x → ((j : ℕ) (y : Decided) → slice_get order j ≡ Some y → y.entry.session ≢ n) → n ≢ d.entry.session
        → x.entry.session ≢ n
    not-first zero x at rest other same = let first : d ≡ x = cc in other (sym same ∙ ap (λ (y : Decided). y.entry.session) (sym first))
    not-first (suc i) x at rest other same = rest i x at same

-- One decision of the order

-- a candidate has one part, which is safe
pub one-part : (g : PlainGraph) (specs : List Spec) (forests : List Forest) (parts : List Update) → is_candidate g specs forests parts ≡ true
    → (part : Update) × (parts ≡ part ∷ []) × (is_safe g specs forests part ≡ true)
one-part g specs forests [] h = absurd (true≢false (sym h))
one-part g specs forests (part ∷ []) h = (part, refl, h)
one-part g specs forests (part ∷ next ∷ parts) h = absurd (true≢false (sym h))

-- a decision that waits to be sealed
pub record IsWaiting (g : PlainGraph) (specs : List Spec) (forests : List Forest) (b : Book) (d : Decided) : Type 0 where
  pub next : next_of (b.seats d.entry.session) ≡ Some (asked_in d.entry)
  pub candidate : is_candidate g specs forests d.entry.parts ≡ true
  pub ruled : d.verdict ≢ verdict.Bounced

-- what one decision leaves
pub record IsNext (setup : Setup) (published : ℕ) (g : PlainGraph) (forests : List Forest) (before : List Decided) (b : Book) : Type 0 where
  pub kept : IsBookKept setup published b
  pub stage : IsStage g setup.specs forests before (graph_of setup b)
  pub now : forests_now b ≡ forests

next-placed : (setup : Setup) (published : ℕ) (g : PlainGraph) (forests : List Forest) (before : List Decided) (b : Book) (d : Decided) (part : Update)
    → IsNext setup published g forests before b → next_of (b.seats d.entry.session) ≡ Some (asked_in d.entry) → d.entry.parts ≡ part ∷ []
    → Follows g setup.specs forests before (graph_of setup b) d part verdict.Applied
    → IsNext setup published g forests (before ++ d ∷ []) (placed b d.entry (forests_now b))
next-placed setup published g forests before b d part k next parts f =
    let h : PlainGraph = graph_of setup b in
    let enters : entered h d.entry.parts ≡ changed h part = ap (entered h) parts ∙ entered-one h (changed h part) part f.1 in
    let longer : List Line = b.lines ++ line.Entry d.entry ∷ [] in
    let after_it : after setup.opening longer (front longer) ≡ changed h part =
    ap (after setup.opening longer) (front-entry b.lines d.entry) ∙ after-entry setup.opening b.lines d.entry ∙ enters in
    let right : AreForests (changed h part) setup.specs (forests_now b) = subst (AreForests (changed h part) setup.specs) (sym k.now) f.2.right in
    let there : front longer ≡ length b.places = front-entry b.lines d.entry ∙ sym k.kept.account.places in
    let got : slice_get (b.places ++ forests_now b ∷ []) (front longer) ≡ Some (forests_now b) =
    ap (slice_get (b.places ++ forests_now b ∷ [])) there ∙ at-middle b.places [] (forests_now b) in
    record {
      kept = kept-placed setup published b d.entry (forests_now b) k.kept next (ap (refusal_of h) parts ∙ refusal_of-one h (changed h part) part f.1)
          (subst (λ (x : PlainGraph). AreForests x setup.specs (forests_now b)) (sym enters) right);
      stage = subst (λ (x : PlainGraph). IsStage g setup.specs forests (before ++ d ∷ []) x) (sym after_it) f.2;
      now = ap (λ (o : Option (List Forest)). unwrap_or o []) got ∙ k.now;
    }

next-refused : (setup : Setup) (published : ℕ) (g : PlainGraph) (forests : List Forest) (before : List Decided) (b : Book) (d : Decided) (part : Update)
    → IsNext setup published g forests before b → next_of (b.seats d.entry.session) ≡ Some (asked_in d.entry) → d.entry.parts ≡ part ∷ []
    → Follows g setup.specs forests before (graph_of setup b) d part verdict.NoEdge
    → IsNext setup published g forests (before ++ d ∷ []) (told b d.entry.session (Reply (outcome.Refused (refusal.NoEdge (front b.lines) 1))))
next-refused setup published g forests before b d part k next parts f = record {
  kept = kept-refused setup published b d.entry (record { part = 1; why = Objection.NoEdge }) k.kept next
      (ap (refusal_of (graph_of setup b)) parts ∙ refusal_of-one_refused (graph_of setup b) part Objection.NoEdge f.0);
  stage = f.1;
  now = k.now;
}

next-sealed : (setup : Setup) (published : ℕ) (g : PlainGraph) (forests : List Forest) (before : List Decided) (b : Book) (d : Decided)
    → IsNext setup published g forests before b → IsWaiting g setup.specs forests b d
    → d.verdict ≡ verdict_of g forests (stripe_log (stripe_of d.entry.parts) before) d.entry.parts
    → IsNext setup published g forests (before ++ d ∷ []) (sealed_by b d)
next-sealed setup published g forests before b d k waits is =
    let one = one-part g setup.specs forests d.entry.parts waits.candidate in
    go one.0 one.1 d.verdict refl
    (follows g (graph_of setup b) setup.specs forests before d one.0 k.stage one.2 one.1
    (subst (λ (ps : List Update). d.verdict ≡ verdict_of g forests (stripe_log (stripe_of ps) before) ps) one.1 is))
  where
    entry_book : Book
    entry_book = placed b d.entry (forests_now b)

    told_one : Book
    told_one = told b d.entry.session (Reply (outcome.Refused (refusal.NoEdge (front b.lines) 1)))

    go : (part : Update) → d.entry.parts ≡ part ∷ [] → (v : Verdict) → d.verdict ≡ v → Follows g setup.specs forests before (graph_of setup b) d part v
        → IsNext setup published g forests (before ++ d ∷ []) (sealed_by b d)
    go part parts verdict.Applied e f =
        subst (IsNext setup published g forests (before ++ d ∷ [])) (sym (cond-true {A = Book} (is_applied d) entry_book told_one (ap applies e)))
        (next-placed setup published g forests before b d part k waits.next parts f)
    go part parts verdict.NoEdge e f =
        subst (IsNext setup published g forests (before ++ d ∷ [])) (sym (cond-false {A = Book} (is_applied d) entry_book told_one (ap applies e)))
        (next-refused setup published g forests before b d part k waits.next parts f)
    go part parts verdict.Bounced e f = absurd (waits.ruled e)
    go part parts verdict.Waiting e f = absurd f

-- those behind the first one of an order wait where it is sealed
waits-rest : (b : Book) (d : Decided) (order : List Decided) (g : PlainGraph) (specs : List Spec) (forests : List Forest)
    → ((i : ℕ) (x : Decided) → slice_get (d ∷ order) i ≡ Some x → IsWaiting g specs forests b x) → NoTwo (d ∷ order)
    → (i : ℕ) (x : Decided) → slice_get order i ≡ Some x → IsWaiting g specs forests (sealed_by b d) x
waits-rest b d order g specs forests waits single i x at =
    let w = waits (suc i) x at in
    record {
      next = ap next_of (sealed_by-other b d x.entry.session (λ same. single 0 (suc i) d x (omega arith) refl at (sym same))) ∙ w.next;
      candidate = w.candidate;
      ruled = w.ruled;
    }

-- The order

pub kept-sealed : (setup : Setup) (published : ℕ) (g : PlainGraph) (forests : List Forest) (before order : List Decided) (b : Book)
    → IsNext setup published g forests before b → AreMerged g forests before order
    → ((i : ℕ) (d : Decided) → slice_get order i ≡ Some d → IsWaiting g setup.specs forests b d) → NoTwo order
    → IsBookKept setup published (sealed b order)
unfolding sealed
kept-sealed setup published g forests before [] b k right waits single = k.kept
kept-sealed setup published g forests before (d ∷ order) b k right waits single =
    kept-sealed setup published g forests (before ++ d ∷ []) order (sealed_by b d)
    (next-sealed setup published g forests before b d k (waits 0 d refl) (merged-here g forests before order d right))
    (merged-rest g forests before order d right)
    (waits-rest b d order g setup.specs forests waits single)
    (λ i j x y less first second. single (suc i) (suc j) x y (omega arith) first second)

-- Each decision where it stands

-- what becomes of a candidate is what its verdict says
pub follows-says : (g h : PlainGraph) (specs : List Spec) (forests : List Forest) (before : List Decided) (d : Decided) (part : Update) (v : Verdict)
    → d.entry.parts ≡ part ∷ [] → v ≢ verdict.Bounced → Follows g specs forests before h d part v → SaysVerdict h specs forests d.entry.parts v
follows-says g h specs forests before d part verdict.Applied parts ruled f = (
  ap (refusal_of h) parts ∙ refusal_of-one h (changed h part) part f.1,
  ap (is_candidate h specs forests) parts ∙ f.0,
)
follows-says g h specs forests before d part verdict.NoEdge parts ruled f = ap (refusal_of h) parts ∙ refusal_of-one_refused h part Objection.NoEdge f.0
follows-says g h specs forests before d part verdict.Bounced parts ruled f = absurd (ruled refl)
follows-says g h specs forests before d part verdict.Waiting parts ruled f = absurd f

pub says-sealed : (setup : Setup) (published : ℕ) (g : PlainGraph) (forests : List Forest) (before order : List Decided) (b : Book)
    → IsNext setup published g forests before b → AreMerged g forests before order
    → ((i : ℕ) (d : Decided) → slice_get order i ≡ Some d → IsWaiting g setup.specs forests b d) → NoTwo order
    → (i : ℕ) (d : Decided) → slice_get order i ≡ Some d → SaysVerdict (graph_of setup (sealed b (take i order))) setup.specs forests d.entry.parts d.verdict
unfolding sealed
says-sealed setup published g forests before [] b k right waits single i d at = absurd (cc)
says-sealed setup published g forests before (c ∷ order) b k right waits single zero d at =
    let same : c ≡ d = cc in
    let w = waits 0 c refl in
    let one = one-part g setup.specs forests c.entry.parts w.candidate in
    subst (λ (x : Decided). SaysVerdict (graph_of setup b) setup.specs forests x.entry.parts x.verdict) same
    (follows-says g (graph_of setup b) setup.specs forests before c one.0 c.verdict one.1 w.ruled
    (follows g (graph_of setup b) setup.specs forests before c one.0 k.stage one.2 one.1
    (subst (λ (ps : List Update). c.verdict ≡ verdict_of g forests (stripe_log (stripe_of ps) before) ps) one.1 (merged-here g forests before order c right))))
says-sealed setup published g forests before (c ∷ order) b k right waits single (suc i) d at =
    says-sealed setup published g forests (before ++ c ∷ []) order (sealed_by b c)
    (next-sealed setup published g forests before b c k (waits 0 c refl) (merged-here g forests before order c right))
    (merged-rest g forests before order c right)
    (waits-rest b c order g setup.specs forests waits single)
    (λ i j x y less first second. single (suc i) (suc j) x y (omega arith) first second) i d at
