use Rattle.std.proofs.Common.{rules}
use Rattle.ris_repair.proofs.RadixLemmas.{bucketed_none}
use Rattle.ris_repair.proofs.radix.Radix.open.Goals as goal

pub invariant_of-result : goal.invariant_of-result
invariant_of-result c = (search rules, λ unused. (let e = bucketed_none c.in_ok-all.field-0 c.in_ok-all.ensures.each in rw (c.new.ensures.items, e)))

pub returns : goal.returns
returns c = let e = bucketed_none c.in_ok-all.field-0 c.in_ok-all.ensures.each in let n = c.new.ensures in rw (c.new.ensures.items, e)
