use Rattle.std.proofs.Common.{rules}
use Rattle.ris_base.specs.Graph.{triple}
use Rattle.ris_four.proofs.EffectLemmas.{without_first-position, without_first-none}
use Rattle.ris_four.proofs.effects.Working.take_copy.Goals as goal

-- src/effects.rt:130:5
pub returns-in-Some : goal.returns-in-Some
returns-in-Some c =
    let e = without_first-position (triple c.args.u c.args.v c.args.w) c.args.self.now.triples.items c.in-Some.place (search rules) in
    search rules

-- src/effects.rt:130:5
pub returns-in_default : goal.returns-in_default
returns-in_default c =
    let e = without_first-none (triple c.args.u c.args.v c.args.w) c.args.self.now.triples.items (search rules) in
    search rules
