-- The moves of the tail, and those that end a turn or ask for something.
use Rattle.std.proofs.Common.{◌≡◌, ◌≢◌, ℕ, zero, suc, ◌+◌, ◌<◌, ◌==◌, ◌&&◌, ◌||◌, not, if◌then◌else◌, Bool, true, false, nat_lt, List, [], ◌∷◌, ◌++◌, length, map, Option, Some, None, arith, refl, sym, subst, ap, ◌∙◌}
use Rattle.std.specs.List.{list_all, list_any, slice_get, slice_set}
use Rattle.std.specs.Option.{option_and_then}
use Rattle.std.proofs.lemmas.Bool.{true≢false, and_parts, and_from, eqb-true, eq-eqb, ltb-true, lt-ltb, not-true, or_parts}
use Rattle.ris_base.specs.Legal.{Asked}
use Rattle.ris_base.specs.Limits.{open_limit}
use Rattle.ris_base.specs.Lines.{front}
use Rattle.ris_base.specs.Machine.{Happens, IsInTail, Collect, Serially, Queued, Seat, Stand, State, Step, InTail, asked_by, asked_more, is_leave, lined, next_of, seated, session_by, told, told_seat, with_seat}
use Rattle.ris_base.specs.declared.commands.Command.{Command}
use Rattle.ris_base.specs.declared.commands.Command.TheVariants as command
use Rattle.ris_base.specs.declared.lines.Line.{Line}
use Rattle.ris_base.specs.declared.lines.Line.TheVariants as line
use Rattle.ris_base.specs.declared.replies.LogLine.{LogLine}
use Rattle.ris_base.specs.declared.replies.LogLine.TheVariants.{Reply}
use Rattle.ris_base.specs.declared.replies.Outcome.TheVariants as outcome
use Rattle.ris_base.specs.declared.requests.Request.{Request}
use Rattle.ris_core.specs.Moves
use Rattle.ris_core.specs.Moves.{in_tail, is_phase, is_stand, left_as, marked_as, may_ask, published_seat, submitted, submitted_by, tells, with_seat_at}
use Rattle.ris_core.specs.Stands.{Listing, seats_of, state_of}
use Rattle.ris_core.proofs.StateLemmas.{IsMove, past-none, phase-is, phase-true, same_function, seat-absent, seat-there, seats-set, set-length, stand-is, stand-true, state-seat, within-there}

-- One reply more

-- a session is told something on these lines
pub state-told : (l : Listing) (s : ℕ) (x : Seat) (reply : LogLine) (lines : List Line) → slice_get l.seats s ≡ Some x
    → state_of (tells l s x reply lines) ≡ record (state_of l) { book = told (record (state_of l).book { lines = lines }) s reply }
state-told l s x reply lines there =
    let at : ◌≡◌ {A = ℕ → Seat} (seats_of l.published (slice_set l.seats s (told_seat x reply (length lines)))) (with_seat (seats_of l.published l.seats) s (told_seat (seats_of l.published l.seats s) reply (length lines))) =
    seats-set l.published l.seats s (told_seat x reply (length lines)) (within-there l.seats s x there)
    ∙ ap (λ (y : Seat). with_seat (seats_of l.published l.seats) s (told_seat y reply (length lines))) (sym (seat-there l s x there)) in
    λ i. record (state_of l) {
      setup = record (state_of l).setup { sessions = set-length l.seats s (told_seat x reply (length lines)) i };
      book = record (state_of l).book { seats = at i; lines = lines };
    }

-- The next command in the tail

-- a step that asks for a command in the tail, by what it makes of that command
pub in_tail-move : (l : Listing) (s : ℕ) (step : Step) (f : Seat → Asked → Option Listing)
    → ((new : State) → Happens (state_of l) step new → (asked : Asked) × IsInTail (state_of l) s asked)
    → ((x : Seat) (asked : Asked) → slice_get l.seats s ≡ Some x → IsInTail (state_of l) s asked → IsMove l step (f x asked))
    → IsMove l step (in_tail l s f)
in_tail-move l s step f needs makes = by_phase (is_phase l.phase Serially) refl
  where
    by_next : (x : Seat) (o : Option Asked) → slice_get l.seats s ≡ Some x → l.phase ≡ Serially → x.stand ≡ InTail → next_of x ≡ o → IsMove l step (option_and_then (f x) o)
    by_next x (Some asked) there phase stand next =
        let same = seat-there l s x there in
        makes x asked there (record { phase = phase; stand = ap (λ (y : Seat). y.stand) same ∙ stand; next = ap next_of same ∙ next })
    by_next x None there phase stand next = λ enabled.
        let h = needs enabled.0 enabled.1 in
        let e : None ≡ Some h.0 = sym next ∙ sym (ap next_of (seat-there l s x there)) ∙ h.1.next in absurd (cc)

    by_stand : (x : Seat) → slice_get l.seats s ≡ Some x → l.phase ≡ Serially → (b : Bool) → is_stand x.stand InTail ≡ b
        → IsMove l step (if b then option_and_then (f x) (next_of x) else None)
    by_stand x there phase true e = by_next x (next_of x) there phase (stand-true x.stand InTail e) refl
    by_stand x there phase false e = λ enabled.
        let h = needs enabled.0 enabled.1 in
        absurd (true≢false (sym (stand-is x.stand InTail (sym (ap (λ (y : Seat). y.stand) (seat-there l s x there)) ∙ h.1.stand)) ∙ e))

    by_get : (o : Option Seat) → slice_get l.seats s ≡ o → l.phase ≡ Serially
        → IsMove l step (option_and_then (λ x. if is_stand x.stand InTail then option_and_then (f x) (next_of x) else None) o)
    by_get (Some x) there phase = by_stand x there phase (is_stand x.stand InTail) refl
    by_get None none phase = λ enabled.
        let h = needs enabled.0 enabled.1 in
        let e = sym (ap (λ (y : Seat). y.stand) (seat-absent l s none)) ∙ h.1.stand in absurd (cc)

    by_phase : (b : Bool) → is_phase l.phase Serially ≡ b
        → IsMove l step (if b then option_and_then (λ x. if is_stand x.stand InTail then option_and_then (f x) (next_of x) else None) (slice_get l.seats s) else None)
    by_phase true e = by_get (slice_get l.seats s) refl (phase-true l.phase Serially e)
    by_phase false e = λ enabled. (let h = needs enabled.0 enabled.1 in absurd (true≢false (sym (phase-is l.phase Serially h.1.phase) ∙ e)))

-- the command in the tail is one alone
pub tail-same : (l : Listing) (s : ℕ) (a b : Asked) → IsInTail (state_of l) s a → IsInTail (state_of l) s b → a ≡ b
tail-same l s a b h k = let e : Some a ≡ Some b = sym h.next ∙ k.next in cc

-- Mark

pub mark-move : (l : Listing) (s : ℕ) → IsMove l (Step.Mark s) (Moves.marked l s)
mark-move l s =
    in_tail-move l s (Step.Mark s) (λ seat asked. marked_as l s seat asked.seq asked.command) (λ new h. (h.asked, h.tail))
    (λ x asked there tail. by_command x asked there tail asked.command refl)
  where
    other : (x : Seat) (asked : Asked) (c : Command) → IsInTail (state_of l) s asked → asked.command ≡ c → ((upto : ℕ) → c ≢ command.Release upto)
        → IsMove l (Step.Mark s) None
    other x asked c tail is never = λ enabled.
        let h = enabled.1 in
        never h.upto (sym is ∙ ap (λ (a : Asked). a.command) (tail-same l s asked h.asked tail h.tail) ∙ h.is)

    made : (x : Seat) (asked : Asked) (upto : ℕ) → slice_get l.seats s ≡ Some x → IsInTail (state_of l) s asked → asked.command ≡ command.Release upto → (late : Bool)
        → nat_lt (front l.lines) upto ≡ late
        → state_of (if late then tells l s x (Reply (outcome.NotYet (front l.lines))) l.lines else tells l s x (Reply (outcome.Marked (front l.lines) upto)) (l.lines ++ line.Mark s asked.seq upto ∷ []))
        ≡ record (state_of l) { book = if late then told (state_of l).book s (Reply (outcome.NotYet (front l.lines))) else told (lined (state_of l).book (line.Mark s asked.seq upto)) s (Reply (outcome.Marked (front l.lines) upto)) }
    made x asked upto there tail is true e = state-told l s x (Reply (outcome.NotYet (front l.lines))) l.lines there
    made x asked upto there tail is false e = state-told l s x (Reply (outcome.Marked (front l.lines) upto)) (l.lines ++ line.Mark s asked.seq upto ∷ []) there

    by_command : (x : Seat) (asked : Asked) → slice_get l.seats s ≡ Some x → IsInTail (state_of l) s asked → (c : Command) → asked.command ≡ c
        → IsMove l (Step.Mark s) (marked_as l s x asked.seq c)
    by_command x asked there tail (command.Release upto) is =
        record { asked = asked; upto = upto; tail = tail; is = is; after = made x asked upto there tail is (nat_lt (front l.lines) upto) refl }
    by_command x asked there tail (command.Change parts) is = other x asked (command.Change parts) tail is (λ upto e. cc)
    by_command x asked there tail command.Leave is = other x asked command.Leave tail is (λ upto e. cc)
    by_command x asked there tail (command.Value v a y) is = other x asked (command.Value v a y) tail is (λ upto e. cc)
    by_command x asked there tail (command.Parent v a y) is = other x asked (command.Parent v a y) tail is (λ upto e. cc)
    by_command x asked there tail (command.Path v a y) is = other x asked (command.Path v a y) tail is (λ upto e. cc)
    by_command x asked there tail (command.Modified v a) is = other x asked (command.Modified v a) tail is (λ upto e. cc)
    by_command x asked there tail command.Current is = other x asked command.Current tail is (λ upto e. cc)

-- Leave

pub leave-move : (l : Listing) (s : ℕ) → IsMove l (Step.Leave s) (Moves.left l s)
leave-move l s =
    in_tail-move l s (Step.Leave s) (λ seat asked. left_as l s seat asked.seq asked.command) (λ new h. (h.asked, h.tail))
    (λ x asked there tail. by_command x asked there tail asked.command refl)
  where
    other : (asked : Asked) (c : Command) → IsInTail (state_of l) s asked → asked.command ≡ c → c ≢ command.Leave → IsMove l (Step.Leave s) None
    other asked c tail is never = λ enabled.
        let h = enabled.1 in never (sym is ∙ ap (λ (a : Asked). a.command) (tail-same l s asked h.asked tail h.tail) ∙ h.is)

    by_command : (x : Seat) (asked : Asked) → slice_get l.seats s ≡ Some x → IsInTail (state_of l) s asked → (c : Command) → asked.command ≡ c
        → IsMove l (Step.Leave s) (left_as l s x asked.seq c)
    by_command x asked there tail command.Leave is =
        record { asked = asked; tail = tail; is = is; after = state-told l s x (Reply (outcome.Left (front l.lines))) (l.lines ++ line.Leave s asked.seq ∷ []) there }
    by_command x asked there tail (command.Change parts) is = other asked (command.Change parts) tail is (λ e. cc)
    by_command x asked there tail (command.Release upto) is = other asked (command.Release upto) tail is (λ e. cc)
    by_command x asked there tail (command.Value v a y) is = other asked (command.Value v a y) tail is (λ e. cc)
    by_command x asked there tail (command.Parent v a y) is = other asked (command.Parent v a y) tail is (λ e. cc)
    by_command x asked there tail (command.Path v a y) is = other asked (command.Path v a y) tail is (λ e. cc)
    by_command x asked there tail (command.Modified v a) is = other asked (command.Modified v a) tail is (λ e. cc)
    by_command x asked there tail command.Current is = other asked command.Current tail is (λ e. cc)

-- Publish

-- no seat of the list passes a test exactly where no seat of the state does, if the absent one doesn't
pub none-stands : (to : Stand) → Queued ≢ to → (published : ℕ) (seats : List Seat) → list_any (λ x. is_stand x.stand to) seats ≡ false
    → (n : ℕ) → (seats_of published seats n).stand ≢ to
none-stands to other published [] h n e = other e
none-stands to other published (x ∷ seats) h zero e = let p = or_parts (is_stand x.stand to) (list_any (λ x. is_stand x.stand to) seats) h in true≢false (sym (stand-is x.stand to e) ∙ p.0)
none-stands to other published (x ∷ seats) h (suc n) e =
    let p = or_parts (is_stand x.stand to) (list_any (λ x. is_stand x.stand to) seats) h in none-stands to other published seats p.1 n e

pub some-stands : (to : Stand) (published : ℕ) (seats : List Seat) → list_any (λ x. is_stand x.stand to) seats ≡ true → (n : ℕ) × ((seats_of published seats n).stand ≡ to)
some-stands to published [] h = absurd (true≢false (sym h))
some-stands to published (x ∷ seats) h = go (is_stand x.stand to) refl h (λ more. some-stands to published seats more)
  where
    go : (b : Bool) → is_stand x.stand to ≡ b → (b || list_any (λ x. is_stand x.stand to) seats) ≡ true
        → (list_any (λ x. is_stand x.stand to) seats ≡ true → (n : ℕ) × ((seats_of published seats n).stand ≡ to))
        → (n : ℕ) × ((seats_of published (x ∷ seats) n).stand ≡ to)
    go true e h rest = (0, stand-true x.stand to e)
    go false e h rest = let r = rest h in (suc r.0, r.1)

mapped-seats : (published length_now : ℕ) (seats : List Seat) (n : ℕ)
    → seats_of length_now (map (published_seat length_now) seats) n ≡ record (seats_of published seats n) { given = length (seats_of published seats n).replies; seen = length_now }
mapped-seats published m [] n = refl
mapped-seats published m (x ∷ seats) zero = refl
mapped-seats published m (x ∷ seats) (suc n) = mapped-seats published m seats n

pub map-length : {X Y : Type 0} (f : X → Y) (xs : List X) → length (map f xs) ≡ length xs
map-length f [] = refl
map-length f (x ∷ xs) = let more = map-length f xs in omega arith

pub publish-move : (l : Listing) → IsMove l Step.Publish (Moves.published l)
publish-move l = by_phase (is_phase l.phase Serially) (list_any (λ x. is_stand x.stand InTail) l.seats) refl refl
  where
    new : Listing
    new = record l { seats = map (published_seat (length l.lines)) l.seats; phase = Collect; published = length l.lines }

    seats : ◌≡◌ {A = ℕ → Seat} (seats_of (length l.lines) (map (published_seat (length l.lines)) l.seats))
        (λ n. record (seats_of l.published l.seats n) { given = length (seats_of l.published l.seats n).replies; seen = length l.lines })
    seats = same_function _ _ (mapped-seats l.published (length l.lines) l.seats)

    by_phase : (a b : Bool) → is_phase l.phase Serially ≡ a → list_any (λ x. is_stand x.stand InTail) l.seats ≡ b
        → IsMove l Step.Publish (if a && not b then Some (record l { seats = map (published_seat (length l.lines)) l.seats; phase = Collect; published = length l.lines }) else None)
    by_phase true false e f = record {
      phase = phase-true l.phase Serially e;
      done = none-stands InTail (λ e. cc) l.published l.seats f;
      after = λ i. record {
        setup = record (state_of l).setup { sessions = map-length (published_seat (length l.lines)) l.seats i };
        book = record (state_of l).book { seats = seats i };
        phase = Collect;
        logs = (state_of l).logs;
        published = length l.lines;
      };
    }
    by_phase true true e f = λ enabled. (let some = some-stands InTail l.published l.seats f in enabled.1.done some.0 some.1)
    by_phase false b e f = λ enabled. absurd (true≢false (sym (phase-is l.phase Serially enabled.1.phase) ∙ e))

-- Submit

-- all commands pass a test exactly where each does
all-below : (cs : List Asked) (seq : ℕ) → list_all (λ a. nat_lt a.seq seq) cs ≡ true → (q : ℕ) (a : Asked) → slice_get cs q ≡ Some a → a.seq < seq
all-below [] seq h q a at = absurd (cc)
all-below (c ∷ cs) seq h zero a at =
    let p = and_parts (nat_lt c.seq seq) (list_all (λ a. nat_lt a.seq seq) cs) h in
    let same : c ≡ a = cc in ltb-true a.seq seq (subst (λ (x : Asked). nat_lt x.seq seq ≡ true) same p.0)
all-below (c ∷ cs) seq h (suc q) a at = let p = and_parts (nat_lt c.seq seq) (list_all (λ a. nat_lt a.seq seq) cs) h in all-below cs seq p.1 q a at

below-all : (cs : List Asked) (seq : ℕ) → ((q : ℕ) (a : Asked) → slice_get cs q ≡ Some a → a.seq < seq) → list_all (λ a. nat_lt a.seq seq) cs ≡ true
below-all [] seq h = refl
below-all (c ∷ cs) seq h =
    and_from (nat_lt c.seq seq) (list_all (λ a. nat_lt a.seq seq) cs) (lt-ltb c.seq seq (h 0 c refl)) (below-all cs seq (λ q a at. h (suc q) a at))

pub submit-move : (l : Listing) (s : ℕ) (r : Request) → IsMove l (Step.Submit s r) (submitted l s r)
submit-move l s r = by_get (slice_get l.seats s) refl
  where
    asked : Asked
    asked = asked_by r

    by_test : (x : Seat) → slice_get l.seats s ≡ Some x → (ok : Bool) → ((session_by r == s) && may_ask x (asked_by r).seq) ≡ ok
        → IsMove l (Step.Submit s r) (if ok then Some (with_seat_at l s (asked_more x (asked_by r))) else None)
    by_test x there true ok =
        let outer = and_parts (session_by r == s) (may_ask x (asked_by r).seq) ok in
        let inner = and_parts (list_all (λ a. nat_lt a.seq (asked_by r).seq) x.commands && nat_lt (length x.commands) (x.given + open_limit)) (not (list_any is_leave x.commands)) outer.1 in
        let two = and_parts (list_all (λ a. nat_lt a.seq (asked_by r).seq) x.commands) (nat_lt (length x.commands) (x.given + open_limit)) inner.0 in
        let same = sym (seat-there l s x there) in
        record {
          here = within-there l.seats s x there;
          named = eqb-true (session_by r) s outer.0;
          greater = subst (λ (y : Seat). (q : ℕ) (a : Asked) → slice_get y.commands q ≡ Some a → a.seq < (asked_by r).seq) same (all-below x.commands (asked_by r).seq two.0);
          few = subst (λ (y : Seat). length y.commands < y.given + open_limit) same (ltb-true (length x.commands) (x.given + open_limit) two.1);
          stays = subst (λ (y : Seat). list_any is_leave y.commands ≡ false) same (not-true (list_any is_leave x.commands) inner.1);
          after = state-seat l s (asked_more x (asked_by r)) (within-there l.seats s x there)
              ∙ ap (λ (y : Seat). record (state_of l) { book = seated (state_of l).book s (asked_more y (asked_by r)) }) same;
        }
    by_test x there false ok = λ enabled.
        let h = enabled.1 in
        let same = seat-there l s x there in
        let a = eq-eqb (session_by r) s h.named in
        let b = below-all x.commands (asked_by r).seq (subst (λ (y : Seat). (q : ℕ) (a : Asked) → slice_get y.commands q ≡ Some a → a.seq < (asked_by r).seq) same h.greater) in
        let c = lt-ltb (length x.commands) (x.given + open_limit) (subst (λ (y : Seat). length y.commands < y.given + open_limit) same h.few) in
        let d = ap not (subst (λ (y : Seat). list_any is_leave y.commands ≡ false) same h.stays) in
        let whole = and_from (session_by r == s) (may_ask x (asked_by r).seq) a
        (and_from (list_all (λ a. nat_lt a.seq (asked_by r).seq) x.commands && nat_lt (length x.commands) (x.given + open_limit)) (not (list_any is_leave x.commands))
        (and_from (list_all (λ a. nat_lt a.seq (asked_by r).seq) x.commands) (nat_lt (length x.commands) (x.given + open_limit)) b c) d) in
        absurd (true≢false (sym whole ∙ ok))

    by_get : (o : Option Seat) → slice_get l.seats s ≡ o → IsMove l (Step.Submit s r) (option_and_then (submitted_by l s r) o)
    by_get (Some x) there = by_test x there ((session_by r == s) && may_ask x (asked_by r).seq) refl
    by_get None none = λ enabled. (let p = past-none l.seats s none in let h = enabled.1.here in omega arith)
