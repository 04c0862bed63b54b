-- What a state keeps, each read keeps.
use Rattle.std.proofs.Common.{◌≡◌, ◌≢◌, ℕ, inl, inr, true, List, [], ◌∷◌, ◌++◌, length, take, Option, Some, None, IfSome, unwrap_or, arith, refl, sym, subst, ap, ◌∙◌, length-append, eq-eqb}
use Rattle.std.specs.List.{slice_get}
use Rattle.std.proofs.lemmas.List.{append-nil}
use Rattle.std.proofs.lemmas.Option.{slice_get_within}
use Rattle.ris_base.specs.Answers as answers
use Rattle.ris_base.specs.Answers.{Setup, Answers, question_of, place_of}
use Rattle.ris_base.specs.Forest.{Forest}
use Rattle.ris_base.specs.Legal.{Asked}
use Rattle.ris_base.specs.Lines.{front}
use Rattle.ris_base.specs.Machine.{Book, Happens, Known, MayRead, Queued, Seat, State, Step, forests_of, last_placed, may_want, read_seat, seated, with_seat}
use Rattle.ris_base.specs.Replies.{number}
use Rattle.ris_base.specs.declared.commands.Command.{Command}
use Rattle.ris_base.specs.declared.commands.Command.TheVariants as command
use Rattle.ris_base.specs.declared.lines.Line.{Line}
use Rattle.ris_base.specs.declared.replies.LogLine.{LogLine}
use Rattle.ris_base.specs.declared.replies.LogLine.TheVariants.{Reply, Answer, Denied}
use Rattle.ris_base.specs.declared.replies.ReadAnswer.TheVariants as answer
use Rattle.ris_base.specs.declared.replies.ReadRefusal.{ReadRefusal}
use Rattle.ris_base.specs.declared.replies.ReadRefusal.TheVariants as denial
use Rattle.ris_base.specs.declared.requests.Question.{Question}
use Rattle.ris_base.specs.declared.requests.Question.TheVariants as question
use Rattle.ris_legal.specs.Account.{Account, IsAccount, Says, SaysRead, made, made_by}
use Rattle.ris_legal.specs.Held.{IsKept, IsSeatKept, account_in}
use Rattle.ris_legal.specs.Telling.{told_more, MayTell}
use Rattle.ris_legal.specs.Telling
use Rattle.ris_legal.proofs.Books.{account-same, next-above, put, with_seat-more}
use Rattle.ris_legal.proofs.Lists.{at-end, at-middle}
use Rattle.ris_legal.proofs.Telling.{asked-kept, told-kept}
use Rattle.ris_legal.proofs.OutsideSteps.{IsIdle}
use Rattle.ris_legal.proofs.CellSteps.{cells-seat}

-- The number of an answer is the front of the lines that it is given on
barred-number : (setup : Setup) (lines : List Line) (o : Option ℕ) (d : ReadRefusal) → answers.IsBarred setup lines o d → IfSome (number (Denied d)) (λ n. n ≡ front lines)
barred-number setup lines (Some v) (denial.NotYet f) h = h.0
barred-number setup lines (Some v) (denial.Released f low) h = h.0
barred-number setup lines (Some v) denial.NoMemory h = absurd h
barred-number setup lines (Some v) denial.Shut h = absurd h
barred-number setup lines None d h = absurd h

bare-number : (setup : Setup) (lines : List Line) (q : Question) (reply : LogLine) → answers.IsBare setup lines q reply → IfSome (number reply) (λ n. n ≡ front lines)
bare-number setup lines (question.Value v a x) (Answer (answer.Value f p value)) h = h.0.of_front
bare-number setup lines (question.Parent v a x) (Answer (answer.Parent f p parent)) h = h.0.of_front
bare-number setup lines (question.Path v a x) (Answer (answer.Path f p vertices)) h = h.0.of_front
bare-number setup lines (question.Modified v a) (Answer (answer.Modified f p vertices)) h = h.0.of_front
bare-number setup lines question.Current (Answer (answer.Current f low)) h = h.0
bare-number setup lines (question.Value v a x) (Denied d) h = barred-number setup lines (Some v) d h
bare-number setup lines (question.Parent v a x) (Denied d) h = barred-number setup lines (Some v) d h
bare-number setup lines (question.Path v a x) (Denied d) h = barred-number setup lines (Some v) d h
bare-number setup lines (question.Modified v a) (Denied d) h = barred-number setup lines (Some v) d h
bare-number setup lines question.Current (Denied d) h = barred-number setup lines None d h
bare-number setup lines _ _ h = absurd h

-- an answer says what a read's reply says
answer-says : (setup : Setup) (lines : List Line) (forests : ℕ → List Forest) (q : Question) (reply : LogLine) → Answers setup lines forests q reply → SaysRead setup lines forests q reply
answer-says setup lines forests q (Reply o) h = h
answer-says setup lines forests q (Answer a) h = h
answer-says setup lines forests q (Denied (denial.NotYet f)) h = h
answer-says setup lines forests q (Denied (denial.Released f low)) h = h
answer-says setup lines forests q (Denied denial.Shut) h = h
answer-says setup lines forests q (Denied denial.NoMemory) h = never q h.bare
  where
    never : (q : Question) → answers.IsBare setup lines q (Denied denial.NoMemory) → may_want q ≡ true
    never (question.Value v a x) b = absurd b
    never (question.Parent v a x) b = absurd b
    never (question.Path v a x) b = absurd b
    never (question.Modified v a) b = absurd b
    never question.Current b = absurd b

-- a read makes no line
made-none : (s : ℕ) (asked : Asked) (last : ℕ) (q : Question) (reply : LogLine) → question_of asked.command last ≡ Some q → made s asked reply ≡ []
made-none s asked last q reply h = go asked.command h
  where
    go : (c : Command) → question_of c last ≡ Some q → made_by s asked.seq c reply ≡ []
    go (command.Change parts) e = absurd (cc)
    go (command.Release upto) e = absurd (cc)
    go command.Leave e = absurd (cc)
    go (command.Value version a x) e = refl
    go (command.Parent version a x) e = refl
    go (command.Path version a x) e = refl
    go (command.Modified version a) e = refl
    go command.Current e = refl

-- what a reply to a read says
read-says : (setup : Setup) (lines : List Line) (forests : ℕ → List Forest) (c : Command) (last : ℕ) (q : Question) (reply : LogLine) → question_of c last ≡ Some q
    → SaysRead setup lines forests q reply → Says setup lines forests c (question_of c last) reply
read-says setup lines forests c last q reply is h = subst (λ (o : Option Question). Says setup lines forests c o reply) (sym is) h

module _ (old : State) (s : ℕ) (asked : Asked) (q : Question) (reply : LogLine) (may : MayRead old s asked q)
    (says : SaysRead old.setup (take old.published old.book.lines) (forests_of old.book) q reply)
    (num : IfSome (number reply) (λ n. n ≡ front (take old.published old.book.lines))) (k : IsKept old) where
  abbrev b : Book
  b = old.book

  abbrev x : Seat
  x = b.seats s

  abbrev known : Known
  known = record { reply = reply; knew = old.published }

  abbrev y : Seat
  y = read_seat old x asked reply

  -- the account with the command alone
  abbrev asked_account : Account
  asked_account = Telling.asked_more (account_in b) s asked

  -- all replies are given, and each command has one
  full : length x.replies ≡ length x.commands
  full = let g = (k.book.seats s).given in let f = (k.book.account.seats s).few in let n = may.none_open in omega arith

  none : made s asked reply ≡ []
  none = made-none s asked (last_placed 0 x.replies) q reply may.asks

  no-lines : b.lines ++ made s asked reply ≡ b.lines
  no-lines = ap (λ (ls : List Line). b.lines ++ ls) none ∙ append-nil b.lines

  asked-is-kept : IsAccount old.setup asked_account
  asked-is-kept = asked-kept old.setup (account_in b) s asked k.book.account
      (λ n c at. (let low = next-above x.commands (k.book.account.seats s).numbered n c at in let e = may.seq in omega arith))

  here : asked_account.commands s ≡ x.commands ++ asked ∷ []
  here = let e = eq-eqb s s refl in rw e refl

  may-tell : MayTell old.setup asked_account s asked known []
  may-tell = record {
    next = ap (λ (cs : List Asked). slice_get cs (length x.replies)) here ∙ ap (slice_get (x.commands ++ asked ∷ [])) full ∙ at-middle x.commands [] asked;
    within = let w = k.book.within in let e = ap length no-lines in omega arith;
    all = λ some. absurd (some none);
    earlier = λ p old_known at.
        let less = slice_get_within x.replies p old_known at in
        let n = may.none_open in
        let w = (k.book.seats s).known p old_known (let f = full in omega arith) at in
        let e = ap length none in omega arith;
    number = subst (λ (ls : List Line). IfSome (number reply) (λ n. n ≡ front (take old.published ls))) (sym no-lines) num;
    says = subst (λ (ls : List Line). Says old.setup (take old.published ls) (λ v. unwrap_or (slice_get (b.places ++ []) v) []) asked.command (question_of asked.command (last_placed 0 x.replies)) reply) (sym no-lines)
        (subst (λ (ps : List (List Forest)). Says old.setup (take old.published b.lines) (λ v. unwrap_or (slice_get ps v) []) asked.command (question_of asked.command (last_placed 0 x.replies)) reply) (sym (append-nil b.places))
        (read-says old.setup (take old.published b.lines) (forests_of b) asked.command (last_placed 0 x.replies) q reply may.asks says));
    come = subst (λ (ls : List Line). Telling.ComeWith old.setup b.lines ls []) (sym none) refl;
  }

  read-account : IsAccount old.setup (account_in (seated b s y))
  read-account =
      let told = told-kept old.setup asked_account s asked known [] asked-is-kept may-tell in
      let of_lines : List Line → List (List Forest) → Account =
      λ ls ps. record { commands = (told_more asked_account s asked known []).commands; replies = (told_more asked_account s asked known []).replies; lines = ls; places = ps } in
      account-same old.setup (of_lines b.lines b.places) (λ n. (with_seat b.seats s y n).commands) (λ n. (with_seat b.seats s y n).replies)
      (subst (λ (ls : List Line). IsAccount old.setup (of_lines ls b.places)) no-lines
      (subst (λ (ps : List (List Forest)). IsAccount old.setup (of_lines (b.lines ++ made s asked reply) ps)) (append-nil b.places) told))
      (with_seat-more (λ (z : Seat). z.commands) b.seats s y asked refl)
      (with_seat-more (λ (z : Seat). z.replies) b.seats s y known refl)

  read-seat : IsSeatKept old.published y
  read-seat =
      let held = k.book.seats s in
      let lr = length-append x.replies (known ∷ []) in
      let lc = length-append x.commands (asked ∷ []) in
      record {
        given = let g = held.given in omega arith;
        flight = λ f. (let w = held.flight f in omega arith);
        waiting = λ n c past at. absurd (let w = slice_get_within (x.commands ++ asked ∷ []) n c at in let f = full in omega arith);
        known = λ n c less at. elim (at-end x.replies known n c at) [
          | inl before ↦ held.known n c (let g = may.none_open in let f = full in let l = before.0 in omega arith) before.1
          | inr last ↦ (let e = ap (λ (z : Known). z.knew) last.1 in omega arith)
        ];
        seen = omega arith;
      }

  pub read-kept : IsKept (record old { book = seated b s y })
  read-kept = record {
    book = record {
      account = read-account;
      right = k.book.right;
      within = k.book.within;
      seats = put (λ (n : ℕ) (z : Seat). IsSeatKept old.published z) b.seats s y read-seat k.book.seats;
    };
    proper = k.proper;
    outside = λ p. put (λ (n : ℕ) (z : Seat). IsIdle z) b.seats s y (k.outside p s) (k.outside p);
    empty = k.empty;
    cells = λ p. cells-seat old s y (k.cells p) (λ stand. absurd (in-flight (λ e. absurd (let w = sym stand ∙ e in cc))))
        (λ stand. absurd (in-flight (λ e. absurd (let w = sym stand ∙ e in cc)))) (λ stand. stand);
  }
    where
      in-flight : x.stand ≢ Queued → ⊥
      in-flight f = let w = (k.book.seats s).flight f in let e = full in omega arith

pub kept-read : (old : State) (s : ℕ) (q : Question) (new : State) → Happens old (Step.Read s q) new → IsKept old → IsKept new
kept-read old s q new h k = subst IsKept (sym h.after)
    (read-kept old s h.asked q h.reply h.may (answer-says old.setup (take old.published old.book.lines) (forests_of old.book) q h.reply h.answers)
    (bare-number old.setup (take old.published old.book.lines) q h.reply h.answers.bare) k)

pub kept-want_read : (old : State) (s : ℕ) (q : Question) (new : State) → Happens old (Step.WantToRead s q) new → IsKept old → IsKept new
kept-want_read old s q new h k = subst IsKept (sym h.after) (read-kept old s h.asked q (Denied denial.NoMemory) h.may h.may_want tt k)
