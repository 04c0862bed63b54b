use Rattle.std.proofs.Common.{◌≡◌, ◌<◌, ◌≤◌, ℕ, length, get_or, take, arith}
use Rattle.std.proofs.lemmas.List.{take_all}
use Rattle.std.proofs.lemmas.List.Elements.{All-more, All-weaker}
use Rattle.std.proofs.lemmas.Option.{gets}
use Rattle.ris_analysis.proofs.lists.bound.Goals as goal

pub loop-k-preserved : goal.loop-k-preserved
loop-k-preserved c =
    let xs = c.args.vertices.now in
    let x = c.at.result.now in
    let lt : c.loop-k.k < length c.args.vertices.now = (let test = c.loop-k-test.true in omega arith) in
    let read : get_or c.args.vertices.now c.loop-k.k c.at.result.now ≡ c.at.result.now = grind (arith, gets) in
    let new = c.max-bound.ensures in
    record {
      above = All-more (λ (y : ℕ). y < c.max-bound.result) xs c.loop-k.k x lt
          (All-weaker (λ (y : ℕ). y < c.loop-k.bound) (λ (y : ℕ). y < c.max-bound.result) (λ y low. omega arith) (take c.loop-k.k xs) c.loop-k.invariant.above) (omega arith);
      least = λ n all. (let before = c.loop-k.invariant.least n all in let here = all c.loop-k.k x lt in omega arith);
    }

pub returns-clause-above : goal.returns-clause-above
returns-clause-above c =
    let xs = c.args.vertices.now in
    let past : length c.args.vertices.now ≤ c.loop-k.k = (let test = c.loop-k-test.false in omega arith) in
    rw (take_all c.loop-k.k xs past) at c.loop-k.invariant.above
