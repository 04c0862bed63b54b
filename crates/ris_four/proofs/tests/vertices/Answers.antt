use Rattle.std.proofs.Common.{◌≡◌, ◌-◌, ap, arith, ◌∙◌}
use Rattle.std.specs.List.{range_with_len}
use Rattle.ris_four.proofs.TestLemmas.{range_push}
use Rattle.ris_four.proofs.tests.vertices.Goals as goal

pub loop-x-preserved : goal.loop-x-preserved
loop-x-preserved c =
    range_push c.args.from c.loop-x.x c.loop-x.xs.items c.push.new.self.items c.loop-x.auto.x c.loop-x.invariant c.in_ok-push.ensures.items

pub returns : goal.returns
returns c =
    let end : c.loop-x.x - c.args.from ≡ c.args.to - c.args.from = omega (arith, c.loop-x.auto.x-end) in
    c.loop-x.invariant ∙ ap (range_with_len c.args.from) end
