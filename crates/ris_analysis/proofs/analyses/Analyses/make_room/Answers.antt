use Rattle.std.proofs.Common.{◌≡◌, length, drop, arith, ap, ◌∙◌}
use Rattle.ris_analysis.proofs.GrownLemmas.{IsGrown-none, IsGrown-whole, AllSuit-grown, forests_of-grown, specs_of-grown}
use Rattle.ris_analysis.proofs.analyses.Analyses.make_room.Goals as goal

pub returns-then-bound-gt-VERTEX_LIMIT-clause-grown : goal.returns-then-bound-gt-VERTEX_LIMIT-clause-grown
returns-then-bound-gt-VERTEX_LIMIT-clause-grown c = IsGrown-none c.args.self.now

pub returns-clause-specs : goal.returns-clause-specs
returns-clause-specs c =
    let value = ap length c.deref_mut.ensures.value in
    let whole = c.self.inside.forests.ok.0 in
    let kept = c.make_room.auto.forests in
    let size : c.self.inside.forests.len ≡ length c.make_room.new.forests = omega arith in
    let grown = IsGrown-whole c.args.self.now c.deref_mut.result.now c.make_room.new.forests (drop (length c.make_room.new.forests) c.self.inside.forests.items)
    c.self.inside.forests.len size (c.deref_mut.ensures.value ∙ c.self.view_is) c.make_room.ensures.grown in
    specs_of-grown c.args.self.now _ grown

pub returns-clause-suits : goal.returns-clause-suits
returns-clause-suits c = λ format all.
    let value = ap length c.deref_mut.ensures.value in
    let whole = c.self.inside.forests.ok.0 in
    let kept = c.make_room.auto.forests in
    let size : c.self.inside.forests.len ≡ length c.make_room.new.forests = omega arith in
    let grown = IsGrown-whole c.args.self.now c.deref_mut.result.now c.make_room.new.forests (drop (length c.make_room.new.forests) c.self.inside.forests.items)
    c.self.inside.forests.len size (c.deref_mut.ensures.value ∙ c.self.view_is) c.make_room.ensures.grown in
    AllSuit-grown c.args.self.now _ format grown all

pub returns-clause-forests : goal.returns-clause-forests
returns-clause-forests c =
    let value = ap length c.deref_mut.ensures.value in
    let whole = c.self.inside.forests.ok.0 in
    let kept = c.make_room.auto.forests in
    let size : c.self.inside.forests.len ≡ length c.make_room.new.forests = omega arith in
    let grown = IsGrown-whole c.args.self.now c.deref_mut.result.now c.make_room.new.forests (drop (length c.make_room.new.forests) c.self.inside.forests.items)
    c.self.inside.forests.len size (c.deref_mut.ensures.value ∙ c.self.view_is) c.make_room.ensures.grown in
    forests_of-grown c.args.self.now _ grown
