-- What a state keeps, each step outside the cells keeps.
use Rattle.std.proofs.Common.{◌≡◌, ◌≢◌, ℕ, ◌+◌, ◌<◌, ◌==◌, ◌&&◌, not, if◌then◌else◌, inl, inr, Bool, true, false, nat_lt, List, [], ◌∷◌, ◌++◌, length, Option, Some, None, arith, refl, sym, subst, ap, ◌∙◌}
use Rattle.std.specs.List.{list_any}
use Rattle.std.specs.Option.{is_some}
use Rattle.std.proofs.lemmas.Bool.{true≢false, ltb-true, ltb-false}
use Rattle.std.proofs.lemmas.List.{append-nil}
use Rattle.std.proofs.lemmas.Option.{slice_get_within}
use Rattle.ris_base.specs.Answers.{Setup, question_of}
use Rattle.ris_base.specs.Forest.{Forest, AreForests}
use Rattle.ris_base.specs.Legal.{Asked}
use Rattle.ris_base.specs.Lines.{front}
use Rattle.ris_base.specs.Machine.{Book, Cells, EntersOr, Happens, InBatch, InLog, InTail, Queued, Seat, Stand, State, Step, Undecided, begun, entry_of, forests_now, forests_of, graph_of, is_candidate_now, last_placed, lined, marked, next_of, placed, seated, told, told_seat}
use Rattle.ris_base.specs.Requests.{RefusedPart, after, refusal_of, refused_at}
use Rattle.ris_base.specs.declared.commands.Command.{Command}
use Rattle.ris_base.specs.declared.commands.Command.TheVariants as command
use Rattle.ris_base.specs.declared.graphs.PlainGraph.{PlainGraph}
use Rattle.ris_base.specs.declared.lines.Entry.{Entry}
use Rattle.ris_base.specs.declared.lines.Line.{Line}
use Rattle.ris_base.specs.declared.lines.Line.TheVariants as line
use Rattle.ris_base.specs.declared.replies.LogLine.{LogLine}
use Rattle.ris_base.specs.declared.replies.LogLine.TheVariants.{Reply}
use Rattle.ris_base.specs.declared.replies.Outcome.TheVariants as outcome
use Rattle.ris_base.specs.declared.replies.Refusal.TheVariants as refusal
use Rattle.ris_base.specs.declared.requests.Question.{Question}
use Rattle.ris_base.proofs.LineLemmas.{after-append, front-mark, front-leave}
use Rattle.ris_legal.specs.Account.{Says, made_by}
use Rattle.ris_legal.specs.Held.{AreVerdicts, IsBookKept, IsKept, account_in, asked_in}
use Rattle.ris_legal.specs.Telling.{told_more, MayTell}
use Rattle.ris_legal.specs.Telling
use Rattle.ris_legal.proofs.Books.{account-same, kept-move, kept-told, knew-within, put, seat-moved}
use Rattle.ris_legal.proofs.Sealing.{kept-placed, kept-refused}

-- Outside the cells

-- nothing of a seat is in the cells
abbrev pub IsIdle : Seat → Type 0
IsIdle x = (x.stand ≢ Undecided) × (x.stand ≢ InLog)

pub queued-idle : (x : Seat) → x.stand ≡ Queued → IsIdle x
queued-idle x e = (λ u. absurd (let w = sym e ∙ u in cc), λ u. absurd (let w = sym e ∙ u in cc))

-- a line that is no entry leaves the forests of now right
still-right : (setup : Setup) (b : Book) (l : Line) → front (b.lines ++ l ∷ []) ≡ front b.lines → AreForests (graph_of setup b) setup.specs (forests_now b)
    → AreForests (after setup.opening (b.lines ++ l ∷ []) (front (b.lines ++ l ∷ []))) setup.specs (forests_of b (front (b.lines ++ l ∷ [])))
still-right setup b l same right =
    subst (λ (v : ℕ). AreForests (after setup.opening (b.lines ++ l ∷ []) v) setup.specs (forests_of b v)) (sym same)
    (subst (λ (g : PlainGraph). AreForests g setup.specs (forests_now b)) (sym (after-append setup.opening b.lines (l ∷ []) (front b.lines) (omega arith))) right)

-- a state outside the cells with another book
outside-kept : (old : State) (b : Book) → IsKept old → old.phase ≢ Cells → IsBookKept old.setup old.published b → ((n : ℕ) → IsIdle (b.seats n))
    → IsKept (record old { book = b })
outside-kept old b k not kept idle = record { book = kept; proper = k.proper; outside = λ p. idle; empty = k.empty; cells = λ p. absurd (not p) }

-- a told session has nothing in the cells
told-idle : (b : Book) (s : ℕ) (reply : LogLine) → ((n : ℕ) → IsIdle (b.seats n)) → (n : ℕ) → IsIdle ((told b s reply).seats n)
told-idle b s reply idle = put (λ (n : ℕ) (x : Seat). IsIdle x) b.seats s (told_seat (b.seats s) reply (length b.lines)) (λ e. cc, λ e. cc) idle

-- the next command, with what it asks
pub next-is : (x : Seat) (asked : Asked) (c : Command) → next_of x ≡ Some asked → asked.command ≡ c → next_of x ≡ Some (record { seq = asked.seq; command = c })
next-is x asked c next is = next ∙ ap (λ (k : Command). Some (record { seq = asked.seq; command = k })) is

-- The tail

pub kept-serial : (old : State) (s : ℕ) (forests : List Forest) (new : State) → Happens old (Step.Serial s forests) new → IsKept old → IsKept new
kept-serial old s forests new h k = go (refusal_of (graph_of old.setup old.book) h.parts) refl h.after
  where
    e : Entry
    e = entry_of s h.asked.seq h.parts

    not-cells : old.phase ≢ Cells
    not-cells p = absurd (let w = sym p ∙ h.tail.phase in cc)

    next : next_of (old.book.seats s) ≡ Some (asked_in e)
    next = next-is (old.book.seats s) h.asked (command.Change h.parts) h.tail.next h.is

    go : (r : Option RefusedPart) → refusal_of (graph_of old.setup old.book) h.parts ≡ r → EntersOr old e forests new r → IsKept new
    go (Some r) is a = subst IsKept (sym a.1)
        (outside-kept old (told old.book s (Reply (outcome.Refused (refused_at (front old.book.lines) r)))) k not-cells
        (kept-refused old.setup old.published old.book e r k.book next is)
        (told-idle old.book s (Reply (outcome.Refused (refused_at (front old.book.lines) r))) (k.outside not-cells)))
    go None is a = subst IsKept (sym a.1)
        (outside-kept old (placed old.book e forests) k not-cells
        (kept-placed old.setup old.published old.book e forests k.book next is a.0)
        (told-idle (record old.book { lines = old.book.lines ++ line.Entry e ∷ []; places = old.book.places ++ forests ∷ [] }) s (Reply (outcome.Placed (front old.book.lines + 1))) (k.outside not-cells)))

pub kept-mark : (old : State) (s : ℕ) (new : State) → Happens old (Step.Mark s) new → IsKept old → IsKept new
kept-mark old s new h k = subst IsKept (sym h.after)
    (outside-kept old (marked old.book s h.asked.seq h.upto) k not-cells (go (nat_lt (front old.book.lines) h.upto) refl).0 (go (nat_lt (front old.book.lines) h.upto) refl).1)
  where
    b : Book
    b = old.book

    not-cells : old.phase ≢ Cells
    not-cells p = absurd (let w = sym p ∙ h.tail.phase in cc)

    asked : Asked
    asked = record { seq = h.asked.seq; command = command.Release h.upto }

    next : next_of (b.seats s) ≡ Some asked
    next = next-is (b.seats s) h.asked (command.Release h.upto) h.tail.next h.is

    go : (late : Bool) → nat_lt (front b.lines) h.upto ≡ late
        → IsBookKept old.setup old.published (if late then told b s (Reply (outcome.NotYet (front b.lines))) else told (lined b (line.Mark s h.asked.seq h.upto)) s (Reply (outcome.Marked (front b.lines) h.upto)))
        × ((n : ℕ) → IsIdle ((if late then told b s (Reply (outcome.NotYet (front b.lines))) else told (lined b (line.Mark s h.asked.seq h.upto)) s (Reply (outcome.Marked (front b.lines) h.upto))).seats n))
    go true e = (
      kept-told old.setup old.published b s asked (Reply (outcome.NotYet (front b.lines))) b.lines b.places [] k.book
          (record {
            next = next;
            lines_are = sym (append-nil b.lines);
            places_are = sym (append-nil b.places);
            number = refl;
            says = ltb-true (front b.lines) h.upto e;
            come = refl;
            right = k.book.right;
          }),
      told-idle b s (Reply (outcome.NotYet (front b.lines))) (k.outside not-cells),
    )
    go false e = (
      kept-told old.setup old.published b s asked (Reply (outcome.Marked (front b.lines) h.upto)) (b.lines ++ line.Mark s h.asked.seq h.upto ∷ []) b.places [] k.book
          (record {
            next = next;
            lines_are = refl;
            places_are = sym (append-nil b.places);
            number = sym (front-mark b.lines s h.asked.seq h.upto);
            says = (refl, ltb-false (front b.lines) h.upto e);
            come = refl;
            right = still-right old.setup b (line.Mark s h.asked.seq h.upto) (front-mark b.lines s h.asked.seq h.upto) k.book.right;
          }),
      told-idle (lined b (line.Mark s h.asked.seq h.upto)) s (Reply (outcome.Marked (front b.lines) h.upto)) (k.outside not-cells),
    )

pub kept-leave : (old : State) (s : ℕ) (new : State) → Happens old (Step.Leave s) new → IsKept old → IsKept new
kept-leave old s new h k = subst IsKept (sym h.after)
    (outside-kept old (told (lined b (line.Leave s h.asked.seq)) s (Reply (outcome.Left (front b.lines)))) k not-cells
    (kept-told old.setup old.published b s asked (Reply (outcome.Left (front b.lines))) (b.lines ++ line.Leave s h.asked.seq ∷ []) b.places [] k.book
    (record {
      next = next-is (b.seats s) h.asked command.Leave h.tail.next h.is;
      lines_are = refl;
      places_are = sym (append-nil b.places);
      number = sym (front-leave b.lines s h.asked.seq);
      says = tt;
      come = refl;
      right = still-right old.setup b (line.Leave s h.asked.seq) (front-leave b.lines s h.asked.seq) k.book.right;
    }))
    (told-idle (lined b (line.Leave s h.asked.seq)) s (Reply (outcome.Left (front b.lines))) (k.outside not-cells)))
  where
    b : Book
    b = old.book

    not-cells : old.phase ≢ Cells
    not-cells p = absurd (let w = sym p ∙ h.tail.phase in cc)

    asked : Asked
    asked = record { seq = h.asked.seq; command = command.Leave }

pub kept-want : (old : State) (s : ℕ) (new : State) → Happens old (Step.Want s) new → IsKept old → IsKept new
kept-want old s new h k = subst IsKept (sym h.after)
    (outside-kept old (told b s wanting) k not-cells (wanted h.asked.command refl) (told-idle b s wanting (k.outside not-cells)))
  where
    b : Book
    b = old.book

    wanting : LogLine
    wanting = Reply (outcome.Refused refusal.NoMemory)

    not-cells : old.phase ≢ Cells
    not-cells p = elim h.where_ [ inl a ↦ absurd (let w = sym p ∙ a.0 in cc) | inr a ↦ absurd (let w = sym p ∙ a.0 in cc) ]

    -- the command is a request
    asks : question_of h.asked.command 0 ≡ None
    asks = (k.book.seats s).waiting (length (b.seats s).replies) h.asked (omega arith) h.next

    tells : (c : Command) → h.asked.command ≡ c → made_by s h.asked.seq c wanting ≡ [] → Says old.setup b.lines (forests_of b) c (question_of c (last_placed 0 (b.seats s).replies)) wanting
        → IsBookKept old.setup old.published (told b s wanting)
    tells c is none says =
        kept-told old.setup old.published b s (record { seq = h.asked.seq; command = c }) wanting b.lines b.places [] k.book
        (record {
          next = next-is (b.seats s) h.asked c h.next is;
          lines_are = sym (ap (λ (ls : List Line). b.lines ++ ls) none ∙ append-nil b.lines);
          places_are = sym (append-nil b.places);
          number = tt;
          says = says;
          come = subst (λ (ls : List Line). Telling.ComeWith old.setup b.lines ls []) (sym none) refl;
          right = k.book.right;
        })

    no-read : (c : Command) (q : Question) → h.asked.command ≡ c → question_of c 0 ≡ Some q → IsBookKept old.setup old.published (told b s wanting)
    no-read c q is some = absurd (let w : None ≡ Some q = sym asks ∙ ap (λ (x : Command). question_of x 0) is ∙ some in cc)

    wanted : (c : Command) → h.asked.command ≡ c → IsBookKept old.setup old.published (told b s wanting)
    wanted (command.Change parts) is = tells (command.Change parts) is refl tt
    wanted (command.Release upto) is = tells (command.Release upto) is refl tt
    wanted command.Leave is = tells command.Leave is refl tt
    wanted (command.Value version a x) is = no-read (command.Value version a x) _ is refl
    wanted (command.Parent version a x) is = no-read (command.Parent version a x) _ is refl
    wanted (command.Path version a x) is = no-read (command.Path version a x) _ is refl
    wanted (command.Modified version a) is = no-read (command.Modified version a) _ is refl
    wanted command.Current is = no-read command.Current _ is refl

pub kept-publish : (old new : State) → Happens old Step.Publish new → IsKept old → IsKept new
kept-publish old new h k = subst IsKept (sym h.after) (record {
  book = record {
    account = account-same old.setup (account_in old.book) (λ n. (old.book.seats n).commands) (λ n. (old.book.seats n).replies) k.book.account (λ n. refl) (λ n. refl);
    right = k.book.right;
    within = omega arith;
    seats = λ n. record {
      given = omega arith;
      flight = (k.book.seats n).flight;
      waiting = (k.book.seats n).waiting;
      known = λ q known less at. knew-within old.setup (account_in old.book) n q known k.book.account at;
      seen = omega arith;
    };
  };
  proper = k.proper;
  outside = λ p n. k.outside (λ q. absurd (let w = sym q ∙ h.phase in cc)) n;
  empty = λ p n. k.empty (λ q. absurd (let w = sym q ∙ h.phase in cc)) n;
  cells = λ p. absurd (cc);
})

-- The begin of a turn

pub kept-take : (old : State) (s : ℕ) (new : State) → Happens old (Step.Take s) new → IsKept old → IsKept new
kept-take old s new h k = subst IsKept (sym h.after)
    (outside-kept old (seated old.book s (record (old.book.seats s) { stand = InBatch })) k not-cells
    (kept-move old.setup old.published old.book s InBatch k.book (λ f. there (next_of (old.book.seats s)) refl h.some))
    (put (λ (n : ℕ) (x : Seat). IsIdle x) old.book.seats s (record (old.book.seats s) { stand = InBatch }) (λ e. cc, λ e. cc) (k.outside not-cells)))
  where
    not-cells : old.phase ≢ Cells
    not-cells p = absurd (let w = sym p ∙ h.phase in cc)

    there : (o : Option Asked) → next_of (old.book.seats s) ≡ o → is_some o ≡ true → length (old.book.seats s).replies < length (old.book.seats s).commands
    there (Some asked) e some = slice_get_within (old.book.seats s).commands (length (old.book.seats s).replies) asked e
    there None e some = absurd (true≢false (sym some))

-- who stands elsewhere than in the queue when the turn has begun did so before
pub begun-flies : (old : State) (held : List ℕ) (n : ℕ) (stand : Stand) → begun old held n stand ≢ Queued → stand ≢ Queued
begun-flies old held n InBatch f = λ e. cc
begun-flies old held n Queued f = f
begun-flies old held n Undecided f = f
begun-flies old held n InLog f = f
begun-flies old held n InTail f = f

pub kept-begin : (old : State) (held : List ℕ) (new : State) → Happens old (Step.Begin held) new → IsKept old → IsKept new
unfolding AreVerdicts
kept-begin old held new h k = subst IsKept (sym h.after) (record {
  book = record {
    account = account-same old.setup (account_in old.book) (λ n. (old.book.seats n).commands) (λ n. (old.book.seats n).replies) k.book.account (λ n. refl) (λ n. refl);
    right = k.book.right;
    within = k.book.within;
    seats = λ n. seat-moved old.published (old.book.seats n) (begun old held n (old.book.seats n).stand) (k.book.seats n)
        (λ f. (k.book.seats n).flight (begun-flies old held n (old.book.seats n).stand f));
  };
  proper = k.proper;
  outside = λ p. absurd (p refl);
  empty = λ p. absurd (p refl);
  cells = λ p. record {
    logs = record {
      logged = λ n i d at. absurd (let w = slice_get_within [] i d at in omega arith);
      single = λ n i j a b less first second. absurd (let w = slice_get_within [] i a first in omega arith);
      verdicts = λ n. tt;
    };
    undecided = λ n stand. undecided n (old.book.seats n).stand refl stand;
    in_log = λ n stand. absurd (in-log n (old.book.seats n).stand refl stand);
  };
})
  where
    not-cells : old.phase ≢ Cells
    not-cells p = absurd (let w = sym p ∙ h.phase in cc)

    only : (c free : Bool) → (if c && free then Undecided else InTail) ≡ Undecided → c ≡ true
    only true free e = refl
    only false free e = absurd (cc)

    never : (c : Bool) → (if c then Undecided else InTail) ≡ InLog → ⊥
    never true e = cc
    never false e = cc

    undecided : (n : ℕ) (stand : Stand) → (old.book.seats n).stand ≡ stand → begun old held n stand ≡ Undecided → is_candidate_now old (next_of (old.book.seats n)) ≡ true
    undecided n InBatch was to = only (is_candidate_now old (next_of (old.book.seats n))) (not (list_any (λ x. x == n) held)) to
    undecided n Undecided was to = absurd ((k.outside not-cells n).0 was)
    undecided n Queued was to = absurd (cc)
    undecided n InLog was to = absurd (cc)
    undecided n InTail was to = absurd (cc)

    in-log : (n : ℕ) (stand : Stand) → (old.book.seats n).stand ≡ stand → begun old held n stand ≡ InLog → ⊥
    in-log n InBatch was to = never (is_candidate_now old (next_of (old.book.seats n)) && not (list_any (λ x. x == n) held)) to
    in-log n InLog was to = (k.outside not-cells n).1 was
    in-log n Queued was to = cc
    in-log n Undecided was to = cc
    in-log n InTail was to = cc
