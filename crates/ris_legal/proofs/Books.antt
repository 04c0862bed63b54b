-- What changes of a book keep: of one seat, and of one reply more with the line that it makes.
use Rattle.std.proofs.Common.{◌≡◌, ◌≢◌, ℕ, zero, suc, ◌<◌, ◌≤◌, ◌==◌, if◌then◌else◌, inl, inr, Bool, true, false, List, [], ◌∷◌, ◌++◌, length, take, Some, IfSome, unwrap_or, arith, refl, sym, subst, ap, ◌∙◌, length-append}
use Rattle.std.specs.List.{slice_get}
use Rattle.std.proofs.lemmas.Bool.{eqb-true}
use Rattle.std.proofs.lemmas.Option.{slice_get_within}
use Rattle.ris_base.specs.Answers.{Setup, question_of}
use Rattle.ris_base.specs.Forest.{Forest, AreForests}
use Rattle.ris_base.specs.Legal.{Asked}
use Rattle.ris_base.specs.Lines.{front, session_of}
use Rattle.ris_base.specs.Machine.{Book, Known, Queued, Seat, Stand, last_placed, next_of, next_seq, seated, told, told_seat, with_seat}
use Rattle.ris_base.specs.Replies.{number}
use Rattle.ris_base.specs.Requests.{after}
use Rattle.ris_base.specs.declared.lines.Line.{Line}
use Rattle.ris_base.specs.declared.replies.LogLine.{LogLine}
use Rattle.ris_base.proofs.LineLemmas.{take-all}
use Rattle.ris_legal.specs.Account.{Account, IsAccount, IsSeated, IsMade, Says, made, forests_in}
use Rattle.ris_legal.specs.Held.{IsBookKept, IsSeatKept, account_in}
use Rattle.ris_legal.specs.Telling.{ComeWith, MayTell, told_more, with_more}
use Rattle.ris_legal.proofs.Lists.{slice_get_some, at-end}
use Rattle.ris_legal.proofs.Telling.{told-kept}

-- Seats

-- what holds of a new seat and of all others holds of all
pub put : (P : ℕ → Seat → Type 0) (seats : ℕ → Seat) (s : ℕ) (x : Seat) → P s x → ((n : ℕ) → P n (seats n)) → (n : ℕ) → P n (with_seat seats s x n)
put P seats s x here each n = go (n == s) refl
  where
    go : (b : Bool) → (n == s) ≡ b → P n (if b then x else seats n)
    go true e = subst (λ (k : ℕ). P k x) (sym (eqb-true n s e)) here
    go false e = each n

-- a list of a seat's with one item more
pub with_seat-more : {X : Type 0} (f : Seat → List X) (seats : ℕ → Seat) (s : ℕ) (y : Seat) (x : X) → f y ≡ f (seats s) ++ x ∷ []
    → (n : ℕ) → f (with_seat seats s y n) ≡ with_more (λ n. f (seats n)) s x n
with_seat-more f seats s y x more n = go (n == s) refl
  where
    go : (c : Bool) → (n == s) ≡ c → f (if c then y else seats n) ≡ (if c then f (seats n) ++ x ∷ [] else f (seats n))
    go true e = more ∙ ap (λ (k : ℕ). f (seats k) ++ x ∷ []) (sym (eqb-true n s e))
    go false e = refl

-- the numbers of a session's commands are below the next one
pub next-above : (cs : List Asked) → ((p q : ℕ) (a b : Asked) → p < q → slice_get cs p ≡ Some a → slice_get cs q ≡ Some b → a.seq < b.seq)
    → (q : ℕ) (x : Asked) → slice_get cs q ≡ Some x → x.seq < next_seq cs
unfolding next_seq
next-above [] rising q x at = absurd (let w = slice_get_within [] q x at in omega arith)
next-above (c ∷ []) rising zero x at = let same : c ≡ x = cc in let s = ap (λ (z : Asked). z.seq) same in omega arith
next-above (c ∷ []) rising (suc q) x at = absurd (let w = slice_get_within [] q x at in omega arith)
next-above (c ∷ d ∷ cs) rising zero x at =
    let same : c ≡ x = cc in let s = ap (λ (z : Asked). z.seq) same in
    let one = rising 0 1 c d (omega arith) refl refl in
    let more = next-above (d ∷ cs) (λ p q a b less first second. rising (suc p) (suc q) a b (omega arith) first second) 0 d refl in omega arith
next-above (c ∷ d ∷ cs) rising (suc q) x at =
    next-above (d ∷ cs) (λ p r a b less first second. rising (suc p) (suc r) a b (omega arith) first second) q x at

-- Accounts

-- an account hangs on the commands and replies of each session alone
pub account-same : (setup : Setup) (a : Account) (commands : ℕ → List Asked) (replies : ℕ → List Known) → IsAccount setup a
    → ((n : ℕ) → commands n ≡ a.commands n) → ((n : ℕ) → replies n ≡ a.replies n)
    → IsAccount setup (record { commands = commands; replies = replies; lines = a.lines; places = a.places })
account-same setup a commands replies k cs rs = record {
  seats = λ n. subst (λ (x : List Asked). IsSeated setup a.lines (forests_in a) n x (replies n)) (sym (cs n))
      (subst (λ (x : List Known). IsSeated setup a.lines (forests_in a) n (a.commands n) x) (sym (rs n)) (k.seats n));
  lines = λ i l at. subst (λ (x : List Asked). IsMade i l x (replies (session_of l))) (sym (cs (session_of l)))
      (subst (λ (x : List Known). IsMade i l (a.commands (session_of l)) x) (sym (rs (session_of l))) (k.lines i l at));
  accepted = k.accepted;
  places = k.places;
  forests = k.forests;
}

-- no reply rests on more lines than there are
pub knew-within : (setup : Setup) (a : Account) (s p : ℕ) (known : Known) → IsAccount setup a → slice_get (a.replies s) p ≡ Some known → known.knew ≤ length a.lines
knew-within setup a s p known k at =
    let w = slice_get_within (a.replies s) p known at in
    let f = (k.seats s).few in
    let there = slice_get_some (a.commands s) p (omega arith) in
    ((k.seats s).right p there.0 known there.1 at).within

-- Changes of one seat

-- the commands and replies of one seat being as they were
pub account-seat : (setup : Setup) (b : Book) (s : ℕ) (x : Seat) → IsAccount setup (account_in b) → x.commands ≡ (b.seats s).commands
    → x.replies ≡ (b.seats s).replies → IsAccount setup (account_in (seated b s x))
account-seat setup b s x k cs rs =
    account-same setup (account_in b) (λ n. (with_seat b.seats s x n).commands) (λ n. (with_seat b.seats s x n).replies) k
    (put (λ (m : ℕ) (y : Seat). y.commands ≡ (b.seats m).commands) b.seats s x cs (λ m. refl))
    (put (λ (m : ℕ) (y : Seat). y.replies ≡ (b.seats m).replies) b.seats s x rs (λ m. refl))

-- a seat whose next command stands elsewhere
pub seat-moved : (published : ℕ) (x : Seat) (to : Stand) → IsSeatKept published x → (to ≢ Queued → length x.replies < length x.commands)
    → IsSeatKept published (record x { stand = to })
seat-moved published x to k f = record { given = k.given; flight = f; waiting = k.waiting; known = k.known; seen = k.seen }

pub kept-move : (setup : Setup) (published : ℕ) (b : Book) (s : ℕ) (to : Stand) → IsBookKept setup published b
    → (to ≢ Queued → length (b.seats s).replies < length (b.seats s).commands)
    → IsBookKept setup published (seated b s (record (b.seats s) { stand = to }))
kept-move setup published b s to k f =
    let x : Seat = record (b.seats s) { stand = to } in
    record {
      account = account-seat setup b s x k.account refl refl;
      right = k.right;
      within = k.within;
      seats = put (λ (m : ℕ) (y : Seat). IsSeatKept published y) b.seats s x (seat-moved published (b.seats s) to (k.seats s) f) k.seats;
    }

-- One reply more

-- the next command of a session may be told this, on all lines, of which the last is the one that it makes, and the last place has
-- right forests of all analyses
pub record MayBeTold (setup : Setup) (b : Book) (s : ℕ) (asked : Asked) (reply : LogLine) (lines : List Line) (places forests : List (List Forest)) : Type 0 where
  pub next : next_of (b.seats s) ≡ Some asked
  pub lines_are : lines ≡ b.lines ++ made s asked reply
  pub places_are : places ≡ b.places ++ forests
  pub number : IfSome (number reply) (λ n. n ≡ front lines)
  pub says : Says setup lines (λ v. unwrap_or (slice_get places v) []) asked.command (question_of asked.command (last_placed 0 (b.seats s).replies)) reply
  pub come : ComeWith setup b.lines (made s asked reply) forests
  pub right : AreForests (after setup.opening lines (front lines)) setup.specs (unwrap_or (slice_get places (front lines)) [])

-- the book after it
abbrev pub told_book : Book → ℕ → LogLine → List Line → List (List Forest) → Book
told_book b s reply lines places = told (record b { lines = lines; places = places }) s reply

account-told : (setup : Setup) (b : Book) (s : ℕ) (asked : Asked) (reply : LogLine) (forests : List (List Forest)) → IsAccount setup (account_in b)
    → MayBeTold setup b s asked reply (b.lines ++ made s asked reply) (b.places ++ forests) forests
    → IsAccount setup (account_in (told_book b s reply (b.lines ++ made s asked reply) (b.places ++ forests)))
account-told setup b s asked reply forests k m =
    account-same setup (told_more (account_in b) s asked known forests) (λ n. (with_seat b.seats s y n).commands) (λ n. (with_seat b.seats s y n).replies)
    (told-kept setup (account_in b) s asked known forests k may)
    (put (λ (n : ℕ) (x : Seat). x.commands ≡ (b.seats n).commands) b.seats s y refl (λ n. refl))
    (with_seat-more (λ (x : Seat). x.replies) b.seats s y known refl)
  where
    longer : List Line
    longer = b.lines ++ made s asked reply

    known : Known
    known = record { reply = reply; knew = length longer }

    y : Seat
    y = told_seat (b.seats s) reply (length longer)

    whole : take (length longer) longer ≡ longer
    whole = take-all longer

    may : MayTell setup (account_in b) s asked known forests
    may = record {
      next = m.next;
      within = omega arith;
      all = λ some. refl;
      earlier = λ p old at. (let w = knew-within setup (account_in b) s p old k at in let l = length-append b.lines (made s asked reply) in omega arith);
      number = subst (λ (t : List Line). IfSome (number reply) (λ n. n ≡ front t)) (sym whole) m.number;
      says = subst (λ (t : List Line). Says setup t (λ v. unwrap_or (slice_get (b.places ++ forests) v) []) asked.command (question_of asked.command (last_placed 0 (b.seats s).replies)) reply) (sym whole) m.says;
      come = m.come;
    }

-- the seat with one reply more
seat-told : (published : ℕ) (x : Seat) (reply : LogLine) (knew : ℕ) → IsSeatKept published x → IsSeatKept published (told_seat x reply knew)
seat-told published x reply knew k =
    let new : Known = record { reply = reply; knew = knew } in
    let l = length-append x.replies (new ∷ []) in
    record {
      given = let g = k.given in omega arith;
      flight = λ f. absurd (f refl);
      waiting = λ q asked past at. k.waiting q asked (omega arith) at;
      known = λ q a less at. elim (at-end x.replies new q a at) [
        | inl old ↦ k.known q a less old.1
        | inr last ↦ absurd (let e = last.0 in let g = k.given in omega arith)
      ];
      seen = k.seen;
    }

pub kept-told : (setup : Setup) (published : ℕ) (b : Book) (s : ℕ) (asked : Asked) (reply : LogLine) (lines : List Line) (places forests : List (List Forest))
    → IsBookKept setup published b → MayBeTold setup b s asked reply lines places forests → IsBookKept setup published (told_book b s reply lines places)
kept-told setup published b s asked reply lines places forests k m =
    let whole = subst (λ (ls : List Line). MayBeTold setup b s asked reply ls (b.places ++ forests) forests) m.lines_are
    (subst (λ (ps : List (List Forest)). MayBeTold setup b s asked reply lines ps forests) m.places_are m) in
    let length_is = ap length m.lines_are in
    let l = length-append b.lines (made s asked reply) in
    record {
      account = subst (λ (ls : List Line). IsAccount setup (account_in (told_book b s reply ls places))) (sym m.lines_are)
          (subst (λ (ps : List (List Forest)). IsAccount setup (account_in (told_book b s reply (b.lines ++ made s asked reply) ps))) (sym m.places_are)
          (account-told setup b s asked reply forests k.account whole));
      right = m.right;
      within = let w = k.within in omega arith;
      seats = put (λ (n : ℕ) (x : Seat). IsSeatKept published x) b.seats s (told_seat (b.seats s) reply (length lines))
          (seat-told published (b.seats s) reply (length lines) (k.seats s)) k.seats;
    }
