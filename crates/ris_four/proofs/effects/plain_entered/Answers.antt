use Rattle.std.proofs.Common.{rules, ◌≡◌, ◌+◌, Some, sym, ◌∙◌}
use Rattle.std.specs.List.{slice_get}
use Rattle.ris_four.specs.Working.{plain_of, refusal_at}
use Rattle.ris_four.proofs.EffectLemmas.{does_from-next, does_from-end, refused-part, none-within}
use Rattle.ris_four.proofs.effects.plain_entered.Goals.{in-Some+in_default-enter, in_default-get}
use Rattle.ris_four.proofs.effects.plain_entered.Goals as goal

-- src/effects.rt:28:5
pub loop-k-init : goal.loop-k-init
loop-k-init c = search rules

-- src/effects.rt:28:5
pub returns-in-Err-clause-refused : goal.returns-in-Err-clause-refused
returns-in-Err-clause-refused c other =
    let at : slice_get c.args.parts.now c.loop-k.k ≡ Some c.in-Some.part.now = search rules in
    let is : refusal_at c.args.front (c.loop-k.k + 1) (plain_of c.loop-k.working) c.in-Some.part.now ≡ Some c.in-Err.refusal = c.in-Err.ensures.refused other in
    refused-part c.args.front (c.loop-k.k + 1) c.args.graph.now (plain_of c.loop-k.working) c.args.parts.now c.loop-k.k c.in-Some.part.now c.in-Err.refusal
    at c.loop-k.invariant is

-- src/effects.rt:28:5
pub loop-k-preserved : goal.loop-k-preserved
loop-k-preserved c = elim c.match-get.branch [
  | in-Some+in_default-enter w ↦
      (let at : slice_get c.args.parts.now c.loop-k.k ≡ Some w.in-Some.part.now = search rules in
      let next = does_from-next (c.loop-k.k + 1) (plain_of c.loop-k.working) (plain_of w.enter.new.self) c.args.parts.now c.loop-k.k w.in-Some.part.now at w.in_default-enter.ensures.ok in
      rw w.working-is (c.loop-k.invariant ∙ next))
  | in_default-get w ↦ absurd (none-within c.args.parts.now c.loop-k.k c.len-k-end.result (sym w.in_default-get.ensures) c.len-k-end.ensures.len c.loop-k-test.true)
]

-- src/effects.rt:15:1
pub returns-clause-ok : goal.returns-clause-ok
returns-clause-ok c =
    c.loop-k.invariant ∙ does_from-end (c.loop-k.k + 1) (plain_of c.loop-k.working) c.args.parts.now c.loop-k.k (search rules)
    ∙ search rules
