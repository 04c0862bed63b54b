use Rattle.std.proofs.Common.{◌≡◌, ◌≤◌, ◌++◌, List, ℕ, Some, length, take, drop, ap, sym, arith}
use Rattle.std.proofs.lemmas.Grind.{common_steps}
use Rattle.ris_io.proofs.Told.{read_front}
use Rattle.ris_io.proofs.never.NeverSourceSource.read.Goals as goal

pub returns-clause-bytes : goal.returns-clause-bytes
returns-clause-bytes c =
    let left : List ℕ = c.args.self.now in
    let n = c.copy_front-n.result in
    let is : left ≡ drop c.self.inside.start c.self.inside.bytes.items = sym c.self.view_is in
    let within : n ≤ length left = grind (arith, common_steps) in
    let copied : c.copy_front-n.new.to ≡ take n left ++ drop n c.args.into.now = grind (arith, common_steps) in
    ap Some (read_front left c.self.inside.bytes.items c.args.into.now c.copy_front-n.new.to c.self.inside.start n is within copied)
