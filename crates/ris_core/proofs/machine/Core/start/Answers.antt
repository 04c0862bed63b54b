use Rattle.std.proofs.Common.{◌∙◌, ap, map, sym}
use Rattle.ris_base.specs.Forest.{forest_in}
use Rattle.ris_base.specs.Machine.{opened}
use Rattle.ris_core.specs.Stands.{state_of}
use Rattle.ris_core.proofs.RightRows.{forests-length}
use Rattle.ris_core.proofs.RunLemmas.{opened-kept, state-opened}
use Rattle.ris_core.proofs.machine.Core.start.Goals as goal

pub new-requires : goal.new-requires
new-requires g c = sym (forests-length c.args.graph c.args.specs c.in-Ok.tables (c.in-Ok-are_forests.ensures.0 c.if-not-right.false))

pub invariant_of-result : goal.invariant_of-result
invariant_of-result g c =
    opened-kept c.args.graph c.args.specs c.args.sessions c.in-Ok.tables c.in-Ok-new.board c.in-Ok-new.ensures c.requires.proper (c.in-Ok-are_forests.ensures.0 c.if-not-right.false)

pub returns-in-Ok-new-clause-opened : goal.returns-in-Ok-new-clause-opened
returns-in-Ok-new-clause-opened g c =
    ap state_of c.in-Ok-new.ensures ∙ state-opened c.args.graph c.args.specs c.args.sessions c.in-Ok.tables
    ∙ ap (λ rows. opened (record { opening = c.args.graph; specs = c.args.specs; sessions = c.args.sessions }) (map forest_in rows)) c.in-Ok.ensures
