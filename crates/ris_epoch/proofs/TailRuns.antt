-- The tail of a turn: each request is handled by one step, on the records so far.
use Rattle.std.proofs.Common.{◌≡◌, ℕ, ◌+◌, ◌<◌, ◌≤◌, ◌⊎◌, inl, inr, true, false, nat_lt, List, [], ◌∷◌, ◌++◌, length, map, Option, Some, None, refl, sym, subst, ap, ◌∙◌, append_assoc, arith}
use Rattle.std.specs.List.{All}
use Rattle.std.proofs.lemmas.Bool.{lt-ltb, le-ltb, cond-true, cond-false}
use Rattle.std.proofs.lemmas.List.{append-nil}
use Rattle.std.proofs.lemmas.List.Elements.{All-cons, All-nil}
use Rattle.ris_base.specs.Answers.{Setup}
use Rattle.ris_base.specs.Epoch.{Ground, Resolved, is_of_tail, wanted_by}
use Rattle.ris_base.specs.Forest.{Forest, AreForests}
use Rattle.ris_base.specs.Lines.{front}
use Rattle.ris_base.specs.Machine.{Book, EntersOr, Happens, IsInTail, Run, Serially, State, Step, asked_by, entry_of, forests_now, graph_of, lined, marked, placed, session_by, told}
use Rattle.ris_base.specs.Records.{changed_forests, lines_of}
use Rattle.ris_base.specs.Requests.{RefusedPart, entered, refusal_of, refused_at}
use Rattle.ris_base.specs.declared.graphs.PlainGraph.{PlainGraph}
use Rattle.ris_base.specs.declared.lines.Entry.{Entry}
use Rattle.ris_base.specs.declared.lines.Line.{Line}
use Rattle.ris_base.specs.declared.lines.Line.TheVariants as line
use Rattle.ris_base.specs.declared.records.Change.{Change}
use Rattle.ris_base.specs.declared.records.Record.{Record}
use Rattle.ris_base.specs.declared.replies.LogLine.TheVariants.{Reply}
use Rattle.ris_base.specs.declared.replies.Outcome.{Outcome}
use Rattle.ris_base.specs.declared.replies.Outcome.TheVariants as outcome
use Rattle.ris_base.specs.declared.replies.Refusal.TheVariants as refusal
use Rattle.ris_base.specs.declared.requests.Request.{Request}
use Rattle.ris_base.specs.declared.requests.Request.TheVariants as request
use Rattle.ris_base.proofs.LineLemmas.{front-leave, front-mark}
use Rattle.ris_base.proofs.ListLemmas.{Contains-first}
use Rattle.ris_epoch.specs.Account.{IsEarly, IsEntered, IsHandled, IsLeft, IsMarked, IsRefused, IsTail, IsWanting, IsWithinReach, entry_record, forests_behind, front_of, graph_behind, resolved}
use Rattle.ris_epoch.specs.TurnOrder.{session_in}
use Rattle.ris_epoch.proofs.Seatings.{find-here, told-tail}
use Rattle.ris_algo.proofs.RecordLemmas.{lines_of-append, places-entry, places-same}
use Rattle.ris_epoch.proofs.SealRuns.{tabled-lines}
use Rattle.ris_epoch.proofs.Stages.{IsTabled, Stage, graph-is, tabled-front}

-- What a step is to the visits

-- the step makes an entry
pub record IsGrowth (records : List Record) (r : Request) (next : List Record) : Type 0 where
  pub entry : Entry
  pub changes : List Change
  pub is : r ≡ request.Submit entry
  pub longer : next ≡ records ++ entry_record entry changes ∷ []

-- the step makes no entry and takes no visits
pub record IsStay (records : List Record) (next : List Record) (visits : ℕ) : Type 0 where
  pub extra : List Record
  pub longer : next ≡ records ++ extra
  pub same : front_of next ≡ front_of records
  pub none : visits ≡ 0

-- a request of the tail was answered by a step, after so many visits: it became an entry, it needed none, or it wanted memory
abbrev pub IsAnswered : List Request → List Record → Request → List Record → Step → ℕ → Type 0
IsAnswered batch records r next step visits =
    (IsGrowth records r next × (wanted_by batch step ≡ None))
    ⊎ (IsStay records next visits × (wanted_by batch step ≡ None))
    ⊎ ((next ≡ records) × (wanted_by batch step ≡ Some r))

-- the steps that answer requests of the tail, one after another
unfoldable pub IsTrace : Ground → List Request → List Record → List Request → List Record → List Step → ℕ → Type 0
IsTrace ground batch records [] more steps visits = (more ≡ records) × (steps ≡ []) × (visits ≡ 0)
IsTrace ground batch records (r ∷ tail) more steps visits =
    (next : List Record) × (step : Step) × (rest : List Step) × (own : ℕ) × (others : ℕ) × IsAnswered batch records r next step own
    × IsWithinReach ground records r own × IsTrace ground batch next tail more rest others × (steps ≡ step ∷ rest) × (visits ≡ own + others)

-- One step

-- from a state, a step answers the first request of the tail
pub record Answering (ground : Ground) (batch : List Request) (records : List Record) (s : State) (r : Request) (tail : List Request)
    (outcomes : List Resolved) (next : List Record) (told : Outcome) (visits : ℕ) : Type 0 where
  pub step : Step
  pub new : State
  pub happens : Happens s step new
  pub of_tail : is_of_tail step ≡ true
  pub session : session_in step ≡ session_by r
  pub stage : Stage ground batch next Serially new [] [] [] tail (outcomes ++ resolved r told ∷ [])
  pub answered : IsAnswered batch records r next step visits

module _ (ground : Ground) (batch : List Request) (records : List Record) (s : State) (tail : List Request) (outcomes : List Resolved) where
  -- a request of the tail is told an outcome on a book with these lines and places
  told-stage : (r : Request) (o : Outcome) (lines : List Line) (places : List (List Forest)) (next : List Record)
      → Stage ground batch records Serially s [] [] [] (r ∷ tail) outcomes → IsTabled ground next (record s.book { lines = lines; places = places })
      → Stage ground batch next Serially (record s { book = told (record s.book { lines = lines; places = places }) (session_by r) (Reply o) }) [] [] [] tail
      (outcomes ++ resolved r o ∷ [])
  told-stage r o lines places next h b = record {
    at = h.at;
    setup = h.setup;
    book = record { lines = b.lines; places = b.places };
    seating = told-tail batch s.book.seats r o (length lines) [] [] [] tail outcomes h.seating;
  }

  -- the same on the book as it is
  told-same : (r : Request) (o : Outcome) → Stage ground batch records Serially s [] [] [] (r ∷ tail) outcomes
      → Stage ground batch records Serially (record s { book = told s.book (session_by r) (Reply o) }) [] [] [] tail (outcomes ++ resolved r o ∷ [])
  told-same r o h = told-stage r o s.book.lines s.book.places records h h.book

  -- the first request stands in the tail
  in-tail : (r : Request) → Stage ground batch records Serially s [] [] [] (r ∷ tail) outcomes → IsInTail s (session_by r) (asked_by r)
  in-tail r h = let its = h.seating.in_tail.each r (Contains-first r tail) in record { phase = h.at; stand = its.here; next = its.next }

  -- want of memory
  answers-want : (r : Request) (next : List Record) (o : Outcome) (visits : ℕ) → Stage ground batch records Serially s [] [] [] (r ∷ tail) outcomes
      → IsWanting records next o → Answering ground batch records s r tail outcomes next o visits
  answers-want r next o visits h a =
      let its = h.seating.in_tail.each r (Contains-first r tail) in
      record {
        step = Step.Want (session_by r);
        new = record s { book = told s.book (session_by r) (Reply (outcome.Refused refusal.NoMemory)) };
        happens = record { asked = asked_by r; next = its.next; where_ = inr (h.at, its.here); after = refl };
        of_tail = refl;
        session = refl;
        stage =
            subst (λ (rs : List Record). Stage ground batch rs Serially (record s { book = told s.book (session_by r) (Reply (outcome.Refused refusal.NoMemory)) }) [] [] [] tail (outcomes ++ resolved r o ∷ []))
            (sym a.same)
            (subst (λ (x : Outcome). Stage ground batch records Serially (record s { book = told s.book (session_by r) (Reply (outcome.Refused refusal.NoMemory)) }) [] [] [] tail (outcomes ++ resolved r x ∷ []))
            (sym a.says) (told-same r (outcome.Refused refusal.NoMemory) h));
        answered = inr (inr (a.same, find-here batch r h.seating.once (h.seating.in_tail.known r (Contains-first r tail))));
      }

  -- a change that is refused
  answers-refused : (e : Entry) (next : List Record) (o : Outcome) (visits : ℕ) → Stage ground batch records Serially s [] [] [] (request.Submit e ∷ tail) outcomes
      → IsRefused ground records e next o → IsWithinReach ground records (request.Submit e) visits
      → Answering ground batch records s (request.Submit e) tail outcomes next o visits
  answers-refused e next o visits h a within = record {
    step = Step.Serial e.session (forests_now s.book);
    new = t;
    happens = record {
      asked = asked_by r;
      parts = e.parts;
      tail = in-tail r h;
      is = refl;
      after = subst (λ (p : Option RefusedPart). EntersOr s (entry_of e.session e.seq e.parts) (forests_now s.book) t p)
          (sym (ap (λ (g : PlainGraph). refusal_of g e.parts) (graph-is ground records s h.setup h.book) ∙ a.refused)) (refl, refl);
    };
    of_tail = refl;
    session = refl;
    stage =
        subst (λ (rs : List Record). Stage ground batch rs Serially t [] [] [] tail (outcomes ++ resolved r o ∷ [])) (sym a.same)
        (subst (λ (x : Outcome). Stage ground batch records Serially t [] [] [] tail (outcomes ++ resolved r x ∷ []))
        (ap (λ (n : ℕ). outcome.Refused (refused_at n a.part)) (tabled-front ground records s.book h.book) ∙ sym a.says)
        (told-same r (outcome.Refused (refused_at (front s.book.lines) a.part)) h));
    answered = inr (inl (
      record {
        extra = [];
        longer = a.same ∙ sym (append-nil records);
        same = ap front_of a.same;
        none = none (within 0 (rw a.refused refl));
      },
      refl,
    ));
  }
    where
      r : Request
      r = request.Submit e

      t : State
      t = record s { book = told s.book e.session (Reply (outcome.Refused (refused_at (front s.book.lines) a.part))) }

      none : visits ≤ 0 → visits ≡ 0
      none h = omega arith

  -- a change that becomes an entry
  answers-entered : (e : Entry) (next : List Record) (o : Outcome) (visits : ℕ) → Stage ground batch records Serially s [] [] [] (request.Submit e ∷ tail) outcomes
      → IsEntered ground records e next o → Answering ground batch records s (request.Submit e) tail outcomes next o visits
  answers-entered e next o visits h a = record {
    step = Step.Serial e.session forests;
    new = t;
    happens = record {
      asked = asked_by r;
      parts = e.parts;
      tail = in-tail r h;
      is = refl;
      after = subst (λ (p : Option RefusedPart). EntersOr s (entry_of e.session e.seq e.parts) forests t p)
          (sym (ap (λ (g : PlainGraph). refusal_of g e.parts) (graph-is ground records s h.setup h.book) ∙ a.accepted)) (right, refl);
    };
    of_tail = refl;
    session = refl;
    stage =
        subst (λ (rs : List Record). Stage ground batch rs Serially t [] [] [] tail (outcomes ++ resolved r o ∷ [])) (sym a.longer)
        (subst (λ (x : Outcome). Stage ground batch (records ++ entry_record e a.changes ∷ []) Serially t [] [] [] tail (outcomes ++ resolved r x ∷ []))
        (ap (λ (n : ℕ). outcome.Placed (n + 1)) (tabled-front ground records s.book h.book) ∙ sym a.says)
        (told-stage r (outcome.Placed (front s.book.lines + 1)) (s.book.lines ++ line.Entry e ∷ []) (s.book.places ++ forests ∷ []) (records ++ entry_record e a.changes ∷ []) h
        (record {
          lines = tabled-lines records s.book (entry_record e a.changes) h.book.lines;
          places = ap (λ (ps : List (List Forest)). ps ++ forests ∷ []) h.book.places ∙ sym (places-entry ground.start records e a.changes);
        })));
    answered = inl (record { entry = e; changes = a.changes; is = refl; longer = a.longer }, refl);
  }
    where
      r : Request
      r = request.Submit e

      forests : List Forest
      forests = changed_forests (forests_behind ground records) a.changes

      t : State
      t = record s { book = placed s.book e forests }

      right : AreForests (entered (graph_of s.setup s.book) e.parts) s.setup.specs forests
      right =
          subst (λ (g : PlainGraph). AreForests (entered g e.parts) s.setup.specs forests) (sym (graph-is ground records s h.setup h.book))
          (subst (λ (x : Setup). AreForests (entered (graph_behind ground records) e.parts) x.specs forests) (sym h.setup) a.right)

  -- a release that is past the front
  answers-early : (session seq upto : ℕ) (next : List Record) (o : Outcome) (visits : ℕ)
      → Stage ground batch records Serially s [] [] [] (request.Release session seq upto ∷ tail) outcomes → IsEarly records upto next o → visits ≡ 0
      → Answering ground batch records s (request.Release session seq upto) tail outcomes next o visits
  answers-early session seq upto next o visits h a none = record {
    step = Step.Mark session;
    new = record s { book = marked s.book session seq upto };
    happens = record { asked = asked_by r; upto = upto; tail = in-tail r h; is = refl; after = refl };
    of_tail = refl;
    session = refl;
    stage =
        subst (λ (rs : List Record). Stage ground batch rs Serially (record s { book = marked s.book session seq upto }) [] [] [] tail (outcomes ++ resolved r o ∷ [])) (sym a.same)
        (subst (λ (x : Outcome). Stage ground batch records Serially (record s { book = marked s.book session seq upto }) [] [] [] tail (outcomes ++ resolved r x ∷ []))
        (ap (λ (n : ℕ). outcome.NotYet n) (tabled-front ground records s.book h.book) ∙ sym a.says)
        (subst (λ (b : Book). Stage ground batch records Serially (record s { book = b }) [] [] [] tail (outcomes ++ resolved r (outcome.NotYet (front s.book.lines)) ∷ []))
        (sym is) (told-same r (outcome.NotYet (front s.book.lines)) h)));
    answered = inr (inl (record { extra = []; longer = a.same ∙ sym (append-nil records); same = ap front_of a.same; none = none }, refl));
  }
    where
      r : Request
      r = request.Release session seq upto

      past : nat_lt (front s.book.lines) upto ≡ true
      past = lt-ltb (front s.book.lines) upto (subst (λ (n : ℕ). n < upto) (sym (tabled-front ground records s.book h.book)) a.past)

      is : marked s.book session seq upto ≡ told s.book session (Reply (outcome.NotYet (front s.book.lines)))
      is = cond-true {A = Book} (nat_lt (front s.book.lines) upto) (told s.book session (Reply (outcome.NotYet (front s.book.lines))))
          (told (lined s.book (line.Mark session seq upto)) session (Reply (outcome.Marked (front s.book.lines) upto))) past

  -- a release that becomes a mark
  answers-marked : (session seq upto : ℕ) (next : List Record) (o : Outcome) (visits : ℕ)
      → Stage ground batch records Serially s [] [] [] (request.Release session seq upto ∷ tail) outcomes → IsMarked records session seq upto next o → visits ≡ 0
      → Answering ground batch records s (request.Release session seq upto) tail outcomes next o visits
  answers-marked session seq upto next o visits h a none = record {
    step = Step.Mark session;
    new = record s { book = marked s.book session seq upto };
    happens = record { asked = asked_by r; upto = upto; tail = in-tail r h; is = refl; after = refl };
    of_tail = refl;
    session = refl;
    stage =
        subst (λ (rs : List Record). Stage ground batch rs Serially (record s { book = marked s.book session seq upto }) [] [] [] tail (outcomes ++ resolved r o ∷ [])) (sym a.longer)
        (subst (λ (x : Outcome). Stage ground batch (records ++ mark ∷ []) Serially (record s { book = marked s.book session seq upto }) [] [] [] tail (outcomes ++ resolved r x ∷ []))
        (ap (λ (n : ℕ). outcome.Marked n upto) (tabled-front ground records s.book h.book) ∙ sym a.says)
        (subst (λ (b : Book). Stage ground batch (records ++ mark ∷ []) Serially (record s { book = b }) [] [] [] tail (outcomes ++ resolved r (outcome.Marked (front s.book.lines) upto) ∷ []))
        (sym is) (told-stage r (outcome.Marked (front s.book.lines) upto) (s.book.lines ++ line.Mark session seq upto ∷ []) s.book.places (records ++ mark ∷ []) h
        (record {
          lines = tabled-lines records s.book mark h.book.lines;
          places = h.book.places ∙ sym (places-same ground.start records mark same);
        }))));
    answered = inr (inl (record { extra = mark ∷ []; longer = a.longer; same = ap front_of a.longer ∙ same; none = none }, refl));
  }
    where
      r : Request
      r = request.Release session seq upto

      mark : Record
      mark = record { line = line.Mark session seq upto; changes = [] }

      same : front_of (records ++ mark ∷ []) ≡ front_of records
      same = ap front (lines_of-append records (mark ∷ [])) ∙ front-mark (lines_of records) session seq upto

      within : nat_lt (front s.book.lines) upto ≡ false
      within = le-ltb (front s.book.lines) upto (subst (λ (n : ℕ). upto ≤ n) (sym (tabled-front ground records s.book h.book)) a.within)

      is : marked s.book session seq upto ≡ told (lined s.book (line.Mark session seq upto)) session (Reply (outcome.Marked (front s.book.lines) upto))
      is = cond-false {A = Book} (nat_lt (front s.book.lines) upto) (told s.book session (Reply (outcome.NotYet (front s.book.lines))))
          (told (lined s.book (line.Mark session seq upto)) session (Reply (outcome.Marked (front s.book.lines) upto))) within

  -- a session that leaves
  answers-left : (session seq : ℕ) (next : List Record) (o : Outcome) (visits : ℕ)
      → Stage ground batch records Serially s [] [] [] (request.Leave session seq ∷ tail) outcomes → IsLeft records session seq next o → visits ≡ 0
      → Answering ground batch records s (request.Leave session seq) tail outcomes next o visits
  answers-left session seq next o visits h a none = record {
    step = Step.Leave session;
    new = t;
    happens = record { asked = asked_by r; tail = in-tail r h; is = refl; after = refl };
    of_tail = refl;
    session = refl;
    stage =
        subst (λ (rs : List Record). Stage ground batch rs Serially t [] [] [] tail (outcomes ++ resolved r o ∷ [])) (sym a.longer)
        (subst (λ (x : Outcome). Stage ground batch (records ++ leave ∷ []) Serially t [] [] [] tail (outcomes ++ resolved r x ∷ []))
        (ap (λ (n : ℕ). outcome.Left n) (tabled-front ground records s.book h.book) ∙ sym a.says)
        (told-stage r (outcome.Left (front s.book.lines)) (s.book.lines ++ line.Leave session seq ∷ []) s.book.places (records ++ leave ∷ []) h
        (record {
          lines = tabled-lines records s.book leave h.book.lines;
          places = h.book.places ∙ sym (places-same ground.start records leave same);
        })));
    answered = inr (inl (record { extra = leave ∷ []; longer = a.longer; same = ap front_of a.longer ∙ same; none = none }, refl));
  }
    where
      r : Request
      r = request.Leave session seq

      t : State
      t = record s { book = told (lined s.book (line.Leave session seq)) session (Reply (outcome.Left (front s.book.lines))) }

      leave : Record
      leave = record { line = line.Leave session seq; changes = [] }

      same : front_of (records ++ leave ∷ []) ≡ front_of records
      same = ap front (lines_of-append records (leave ∷ [])) ∙ front-leave (lines_of records) session seq

  -- any request
  answers : (r : Request) (next : List Record) (o : Outcome) (visits : ℕ) → Stage ground batch records Serially s [] [] [] (r ∷ tail) outcomes
      → IsHandled ground records r next o → IsWithinReach ground records r visits → Answering ground batch records s r tail outcomes next o visits
  answers (request.Submit e) next o visits h (inl a) within = answers-refused e next o visits h a within
  answers (request.Submit e) next o visits h (inr (inl a)) within = answers-entered e next o visits h a
  answers (request.Submit e) next o visits h (inr (inr a)) within = answers-want (request.Submit e) next o visits h a
  answers (request.Release session seq upto) next o visits h (inl a) within = answers-early session seq upto next o visits h a within
  answers (request.Release session seq upto) next o visits h (inr (inl a)) within = answers-marked session seq upto next o visits h a within
  answers (request.Release session seq upto) next o visits h (inr (inr a)) within = answers-want (request.Release session seq upto) next o visits h a
  answers (request.Leave session seq) next o visits h (inl a) within = answers-left session seq next o visits h a within
  answers (request.Leave session seq) next o visits h (inr a) within = answers-want (request.Leave session seq) next o visits h a

-- The tail

-- steps answer all requests of the tail
pub record TailRun (ground : Ground) (batch : List Request) (records : List Record) (s : State) (tail : List Request) (more : List Record)
    (outcomes : List Resolved) (visits : ℕ) : Type 0 where
  pub steps : List Step
  pub final : State
  pub run : Run s steps final
  pub of_tail : All (λ step. is_of_tail step ≡ true) steps
  pub sessions : map session_in steps ≡ map session_by tail
  pub stage : Stage ground batch more Serially final [] [] [] [] outcomes
  pub trace : IsTrace ground batch records tail more steps visits

-- steps of the machine answer a tail that was handled
pub tail-run : (ground : Ground) (batch : List Request) (tail : List Request) (records : List Record) (s : State) (told : List Resolved) (more : List Record)
    (outcomes : List Resolved) (visits : ℕ) → Stage ground batch records Serially s [] [] [] tail told → IsTail ground records tail more outcomes visits
    → TailRun ground batch records s tail more (told ++ outcomes) visits
unfolding Run IsTail IsTrace
tail-run ground batch [] records s told more outcomes visits h a = record {
  steps = [];
  final = s;
  run = refl;
  of_tail = All-nil (λ step. is_of_tail step ≡ true);
  sessions = refl;
  stage =
      subst (λ (rs : List Record). Stage ground batch rs Serially s [] [] [] [] (told ++ outcomes)) (sym a.0)
      (subst (λ (os : List Resolved). Stage ground batch records Serially s [] [] [] [] os) (sym (ap (λ (os : List Resolved). told ++ os) a.1 ∙ append-nil told)) h);
  trace = (a.0, refl, a.2);
}
tail-run ground batch (r ∷ tail) records s told more outcomes visits h a =
    let one = answers ground batch records s tail told r a.0 a.1 a.3 h a.5 a.6 in
    let rest = tail-run ground batch tail a.0 one.new (told ++ resolved r a.1 ∷ []) more a.2 a.4 one.stage a.7 in
    record {
      steps = one.step ∷ rest.steps;
      final = rest.final;
      run = (one.new, one.happens, rest.run);
      of_tail = All-cons (λ step. is_of_tail step ≡ true) one.step rest.steps one.of_tail rest.of_tail;
      sessions = ap (λ (s : ℕ). s ∷ map session_in rest.steps) one.session ∙ ap (λ (ss : List ℕ). session_by r ∷ ss) rest.sessions;
      stage = subst (λ (os : List Resolved). Stage ground batch more Serially rest.final [] [] [] [] os)
          (append_assoc told (resolved r a.1 ∷ []) a.2 ∙ ap (λ (os : List Resolved). told ++ os) (sym a.8)) rest.stage;
      trace = (a.0, one.step, rest.steps, a.3, a.4, one.answered, a.6, rest.trace, refl, a.9);
    }
