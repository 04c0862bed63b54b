use Rattle.std.proofs.Common.{◌≡◌, ◌-◌, ap, arith, ◌∙◌}
use Rattle.std.specs.List.{range_with_len}
use Rattle.ris_four.proofs.TestLemmas.{range_push}
use Rattle.ris_core_tests.proofs.tests.vertices.Goals as goal

pub loop-x-preserved : goal.loop-x-preserved
loop-x-preserved c =
    range_push 0 c.loop-x.x c.loop-x.xs.items c.push.new.self.items (omega arith) c.loop-x.invariant c.in_ok-push.ensures.items

pub returns : goal.returns
returns c =
    let end : c.loop-x.x - 0 ≡ c.args.count = (let e = c.loop-x.auto.x-end in let t = c.loop-x-test.false in omega arith) in
    c.loop-x.invariant ∙ ap (range_with_len 0) end
