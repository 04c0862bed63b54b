use Rattle.std.proofs.Common.{arith, ◌≡◌, ◌+◌, ◌*◌, ◌<◌, ◌^◌, ◌≤◌, ◌-◌, drop, get_or, false, true, [], ◌∷◌, sym, ◌∙◌, ap, drop-cons, Some, suc}
use Rattle.std.specs.List.{list_all}
use Rattle.std.proofs.lemmas.Grind.{common_steps}
use Rattle.std.proofs.lemmas.List.{drop_all}
use Rattle.ris_base.specs.Number.{spelled_behind, is_digit}
use Rattle.ris_base.proofs.NumberLemmas.{number_of-other, number_of-overflow, number_of-spelled}
use Rattle.ris_base.proofs.numbers.read_long.Goals as goal

pub returns-then-not-is_ascii_digit : goal.returns-then-not-is_ascii_digit
returns-then-not-is_ascii_digit c =
    let rest = drop-cons c.args.field.now c.loop-digit.digit-index 0 (omega arith) in
    let other : list_all is_digit c.args.field.now ≡ false = grind (arith, common_steps, rest, c.loop-digit.invariant.1) in
    sym (number_of-other c.args.field.now other)

pub returns-in_err-number : goal.returns-in_err-number
returns-in_err-number c =
    let rest = drop-cons c.args.field.now c.loop-digit.digit-index 0 (omega arith) in
    let same : spelled_behind c.loop-digit.number (get_or c.args.field.now c.loop-digit.digit-index 0 ∷ drop (suc c.loop-digit.digit-index) c.args.field.now) ≡ spelled_behind 0 c.args.field.now
    = rw (← rest) c.loop-digit.invariant.0 in
    let small = c.in_err-number.ensures {u = tt} in
    let great : 2 ^ 64 ≤ 10 * c.loop-digit.number + (get_or c.args.field.now c.loop-digit.digit-index 0 - 48) = grind (arith, small) in
    c.from_residual.ensures ∙ sym (number_of-overflow c.args.field.now c.loop-digit.number _ (drop (suc c.loop-digit.digit-index) c.args.field.now) same great)

pub returns : goal.returns
returns c =
    let over : drop c.loop-digit.digit-index c.args.field.now ≡ [] = drop_all c.loop-digit.digit-index c.args.field.now c.loop-digit-test.false in
    let value : c.loop-digit.number ≡ spelled_behind 0 c.args.field.now = rw over at c.loop-digit.invariant.0 in
    let digits : list_all is_digit c.args.field.now ≡ true = sym (rw over at c.loop-digit.invariant.1) in
    let small : c.loop-digit.number < 2 ^ 64 = c.loop-digit.invariant.2 in
    ap Some value ∙ sym (number_of-spelled c.args.field.now c.requires.filled c.requires.long digits (rw (← value) small))
