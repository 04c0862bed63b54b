-- Where no lines are, the pile has all that waits.
use Rattle.std.proofs.Common.{◌≡◌, [], refl}
use Rattle.std.specs.Prelude.{None}
use Rattle.ris_repair.proofs.FoundLemmas.{found_some, none_both}
use Rattle.ris_repair.proofs.PartLemmas.{none_waits, taken_length}
use Rattle.ris_repair.proofs.queues.Queue.pop.Goals as goal
use Rattle.ris_repair.proofs.queues.Queue.pop.Goals.{After-pop_above}

-- what waited stood in the pile
few_is : (c : After-pop_above) → c.self.inside.few ≡ c.args.self.now
few_is c = let i = c.in-None.is in let w = c.self.view_is in cc

pub returns-in-None-clause-len : goal.returns-in-None-clause-len
returns-in-None-clause-len c =
    rw (← few_is c, c.in-None.is) (found_some c.pop_above.result (λ top moved. taken_length top c.self.inside.few c.pop_above.new.self moved) c.pop_above.ensures.items)

pub returns-in-None-clause-none : goal.returns-in-None-clause-none
returns-in-None-clause-none c =
    rw (← few_is c) (none_both c.pop_above.result (λ kept none. (none_waits [] c.self.inside.few c.pop_above.new.self None refl kept none).1) c.pop_above.ensures.kept c.pop_above.ensures.none)
