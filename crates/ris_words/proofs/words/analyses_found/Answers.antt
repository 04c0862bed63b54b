use Rattle.std.proofs.Common.{codes}
use Rattle.clap.specs.Words.{found_of}
use Rattle.clap.proofs.WalkLemmas.{first_value-rows}
use Rattle.ris_words.proofs.words.analyses_found.Goals as goal

pub listed-requires : goal.listed-requires
listed-requires c =
    let found = first_value-rows (found_of c.args.found.now) (codes "analyses") in
    rw c.as_bytes.ensures.value (rw (← found, ← c.in-Some.ensures) at c.requires)

pub unreachable-requires : goal.unreachable-requires
unreachable-requires c =
    let found = first_value-rows (found_of c.args.found.now) (codes "analyses") in
    let none = rw (← found, ← c.in-None.ensures) at c.requires in
    cc

pub returns : goal.returns
returns c =
    let found = first_value-rows (found_of c.args.found.now) (codes "analyses") in
    rw (← found, ← c.in-Some.ensures, ← c.as_bytes.ensures.value) c.listed.ensures
