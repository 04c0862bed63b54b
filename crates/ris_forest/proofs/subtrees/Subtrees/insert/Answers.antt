use Rattle.std.proofs.Common.{◌++◌, ◌∷◌, [], ◌∙◌, List, length, length-append, sym, subst, ap, arith}
use Rattle.std.specs.List.{Contains}
use Rattle.std.proofs.lemmas.Bool.{both_ways}
use Rattle.ris_forest.specs.Growing.{AreMembers, IsWithin}
use Rattle.ris_forest.proofs.SubtreeLemmas.{AreMembers-few, AreMembers-more, with_vertex-new}
use Rattle.ris_forest.proofs.subtrees.Subtrees.insert.Goals as goal

pub invariant_of-self-then-len-le-FEW : goal.invariant_of-self-then-len-le-FEW
invariant_of-self-then-len-le-FEW c =
    let xs = c.self.inside.vertices.items in
    let x = c.args.x in
    let keys = c.prepare.new.members.keys in
    let items = c.in_ok-push.ensures.items in
    subst (AreMembers keys) (sym items)
    (AreMembers-few keys xs x (subst (AreMembers keys) c.deref.ensures.value c.prepare.ensures.members) (omega (arith, c.ranges.x.fits))
    (λ h. both_ways c.contains.result c.if-contains.false (c.contains.ensures.1 (subst (λ (l : List _). Contains l x) c.self.view_is h)))
    (let same = ap length items in omega arith))

pub returns-then-len-le-FEW-clause-ok : goal.returns-then-len-le-FEW-clause-ok
returns-then-len-le-FEW-clause-ok c =
    c.in_ok-push.ensures.items ∙ ap (λ (l : List _). l ++ c.args.x ∷ []) c.self.view_is
    ∙ sym (with_vertex-new c.args.self.now c.args.x (λ h. both_ways c.contains.result c.if-contains.false (c.contains.ensures.1 h)))

pub invariant_of-self-in-Ok : goal.invariant_of-self-in-Ok
invariant_of-self-in-Ok c =
    let xs = c.self.inside.vertices.items in
    let x = c.args.x in
    let keys = c.prepare.new.members.keys in
    let more = c.insert.new.self.keys in
    let items = c.in_ok-push.ensures.items in
    let value = c.deref.ensures.value in
    let size = length-append xs (x ∷ []) in
    subst (AreMembers more) (sym items)
    (AreMembers-more keys more xs x (subst (AreMembers keys) value c.prepare.ensures.members) (omega (arith, c.ranges.x.fits))
    (λ h. both_ways c.contains.result c.if-contains.false (c.contains.ensures.1 (subst (λ (l : List _). Contains l x) c.self.view_is h)))
    (let same = ap length items in let size = c.len.ensures in omega arith)
    (subst (λ (l : List _). IsWithin l keys) value (c.in_ok-prepare.ensures.ok (let same = ap length items in let now = ap length value in omega arith)))
    c.in-Ok.ensures.updates.0)

pub returns-in-Ok-clause-ok : goal.returns-in-Ok-clause-ok
returns-in-Ok-clause-ok c =
    c.in_ok-push.ensures.items ∙ ap (λ (l : List _). l ++ c.args.x ∷ []) c.self.view_is
    ∙ sym (with_vertex-new c.args.self.now c.args.x (λ h. both_ways c.contains.result c.if-contains.false (c.contains.ensures.1 h)))
