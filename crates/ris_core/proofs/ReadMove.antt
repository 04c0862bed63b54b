-- The move of a read.
use Rattle.std.proofs.Common.{◌≡◌, ℕ, ◌==◌, ◌&&◌, if◌then◌else◌, Bool, true, false, length, take, Option, Some, None, arith, refl, sym, subst, ap, ◌∙◌}
use Rattle.std.specs.List.{slice_get}
use Rattle.std.specs.Option.{option_and_then}
use Rattle.std.proofs.lemmas.Bool.{true≢false, and_parts, and_from, eqb-true, eq-eqb, ltb-true, lt-ltb}
use Rattle.ris_base.specs.Answers.{Answers, ExistsIn, Setup, analysis_of, question_of}
use Rattle.ris_base.specs.Machine.{Seat, Step, forests_of, last_placed, next_seq, read_seat, seated}
use Rattle.ris_base.specs.declared.replies.LogLine.{LogLine}
use Rattle.ris_base.specs.declared.requests.Question.{Question}
use Rattle.ris_base.specs.declared.requests.Question.TheVariants as question
use Rattle.ris_core.specs.Moves.{command_for, exists_of, read, read_by, seat_read, with_seat_at}
use Rattle.ris_core.specs.Stands.{Listing, state_of}
use Rattle.ris_core.proofs.StateLemmas.{IsMove, past-none, seat-there, state-seat, within-there}

-- the command for a question asks it
asks-it : (q : Question) (last : ℕ) → question_of (command_for q) last ≡ Some q
asks-it (question.Value v a x) last = refl
asks-it (question.Parent v a x) last = refl
asks-it (question.Path v a x) last = refl
asks-it (question.Modified v a) last = refl
asks-it question.Current last = refl

-- the test for the analysis
exists-true : (setup : Setup) (o : Option ℕ) → exists_of (length setup.specs) o ≡ true → ExistsIn setup o
exists-true setup None h = tt
exists-true setup (Some a) h = ltb-true a (length setup.specs) h

exists-is : (setup : Setup) (o : Option ℕ) → ExistsIn setup o → exists_of (length setup.specs) o ≡ true
exists-is setup None h = refl
exists-is setup (Some a) h = lt-ltb a (length setup.specs) h

pub read-move : (l : Listing) (s : ℕ) (q : Question) (reply : LogLine)
    → (exists_of (length l.specs) (analysis_of q) ≡ true → Answers (state_of l).setup (take l.published l.lines) (forests_of (state_of l).book) q reply)
    → IsMove l (Step.Read s q) (read l s q reply)
read-move l s q reply answers = by_get (slice_get l.seats s) refl
  where
    by_test : (x : Seat) → slice_get l.seats s ≡ Some x → (ok : Bool) → ((x.given == length x.commands) && exists_of (length l.specs) (analysis_of q)) ≡ ok
        → IsMove l (Step.Read s q) (if ok then Some (with_seat_at l s (seat_read l.published x q reply)) else None)
    by_test x there true ok =
        let parts = and_parts (x.given == length x.commands) (exists_of (length l.specs) (analysis_of q)) ok in
        let same = seat-there l s x there in
        record {
          asked = record { seq = next_seq x.commands; command = command_for q };
          reply = reply;
          may = record {
            here = within-there l.seats s x there;
            none_open = subst (λ (y : Seat). y.given ≡ length y.commands) (sym same) (eqb-true x.given (length x.commands) parts.0);
            seq = subst (λ (y : Seat). next_seq x.commands ≡ next_seq y.commands) (sym same) refl;
            asks = asks-it q (last_placed 0 ((state_of l).book.seats s).replies);
            askable = exists-true (state_of l).setup (analysis_of q) parts.1;
          };
          answers = answers parts.1;
          after = state-seat l s (seat_read l.published x q reply) (within-there l.seats s x there)
              ∙ ap (λ (y : Seat). record (state_of l) { book = seated (state_of l).book s (read_seat (state_of l) y (record { seq = next_seq x.commands; command = command_for q }) reply) }) (sym same);
        }
    by_test x there false ok = λ enabled.
        let h = enabled.1.may in
        let same = seat-there l s x there in
        let a = eq-eqb x.given (length x.commands) (subst (λ (y : Seat). y.given ≡ length y.commands) same h.none_open) in
        let b = exists-is (state_of l).setup (analysis_of q) h.askable in
        absurd (true≢false (sym (and_from (x.given == length x.commands) (exists_of (length l.specs) (analysis_of q)) a b) ∙ ok))

    by_get : (o : Option Seat) → slice_get l.seats s ≡ o → IsMove l (Step.Read s q) (option_and_then (read_by l s q reply) o)
    by_get (Some x) there = by_test x there ((x.given == length x.commands) && exists_of (length l.specs) (analysis_of q)) refl
    by_get None none = λ enabled. (let p = past-none l.seats s none in let h = enabled.1.may.here in omega arith)
