use Rattle.std.proofs.Common.{◌≤◌, ℕ, ◌<◌, ◌^◌, length, decimal, ap, sym, ◌∙◌, arith, length-drop, length-append}
use Rattle.std.proofs.lemmas.Fmt.{length-decimal-le}
use Rattle.ris_text.proofs.tails.Tail.put_number.Goals as goal

-- a number of the code has at most 20 digits
short : (n : ℕ) → n < 2 ^ 64 → length (decimal n) ≤ 20
short n small = length-decimal-le 20 n (omega arith) (omega arith) small

pub write_digits-self-inside-requires : goal.write_digits-self-inside-requires
write_digits-self-inside-requires c =
    let digits = short c.args.n c.ranges.n.fits in
    let len = sym (length-drop c.self.inside.start c.self.inside.bytes) ∙ ap length c.self.view_is in
    (omega arith, omega arith)

pub returns-clause-len : goal.returns-clause-len
returns-clause-len c =
    let digits = short c.args.n c.ranges.n.fits in
    let written = ap length c.write_digits-self-inside.ensures.written in
    let len = ap length c.self.view_is in
    omega (arith, simp length-append at written)
