use Rattle.std.proofs.Common.{arith, ◌≡◌, ◌+◌, ◌*◌, ◌<◌, ◌^◌, drop, false, true, [], sym, ◌∙◌, ap, drop-cons, Some}
use Rattle.std.specs.List.{list_all}
use Rattle.std.proofs.lemmas.Grind.{common_steps}
use Rattle.std.proofs.lemmas.List.{drop_all}
use Rattle.ris_base.specs.Number.{spelled_behind, is_digit}
use Rattle.ris_base.proofs.NumberLemmas.{few_digits, more_digits, number_of-other, number_of-spelled}
use Rattle.ris_base.proofs.numbers.read_short.Goals as goal

pub returns-then-not-is_ascii_digit : goal.returns-then-not-is_ascii_digit
returns-then-not-is_ascii_digit c =
    let rest = drop-cons c.args.field.now c.loop-digit.digit-index 0 (omega arith) in
    let other : list_all is_digit c.args.field.now ≡ false = grind (arith, common_steps, rest, c.loop-digit.invariant.1) in
    sym (number_of-other c.args.field.now other)

pub overflow_mul-number : goal.overflow_mul-number
overflow_mul-number c =
    let more = more_digits c.loop-digit.number 0 c.loop-digit.digit-index c.loop-digit.invariant.2 (omega arith) in
    let small = few_digits (10 * c.loop-digit.number + 0) (c.loop-digit.digit-index + 1) more (omega arith) in
    omega arith

pub overflow_add-number : goal.overflow_add-number
overflow_add-number c =
    let digit : c.from.result < 10 = grind (arith, common_steps) in
    let more = more_digits c.loop-digit.number c.from.result c.loop-digit.digit-index c.loop-digit.invariant.2 digit in
    let small = few_digits (10 * c.loop-digit.number + c.from.result) (c.loop-digit.digit-index + 1) more (omega arith) in
    omega arith

pub returns : goal.returns
returns c =
    let over : drop c.loop-digit.digit-index c.args.field.now ≡ [] = drop_all c.loop-digit.digit-index c.args.field.now c.loop-digit-test.false in
    let value : c.loop-digit.number ≡ spelled_behind 0 c.args.field.now = rw over at c.loop-digit.invariant.0 in
    let digits : list_all is_digit c.args.field.now ≡ true = sym (rw over at c.loop-digit.invariant.1) in
    let small : c.loop-digit.number < 2 ^ 64 = few_digits c.loop-digit.number c.loop-digit.digit-index c.loop-digit.invariant.2 (omega arith) in
    ap Some value ∙ sym (number_of-spelled c.args.field.now c.requires.filled (omega arith) digits (rw (← value) small))
