use Rattle.std.proofs.Common.{◌≡◌, ◌==◌, true, List, refl, subst, sym, ◌∙◌, arith}
use Rattle.std.specs.List.{Contains}
use Rattle.std.proofs.lemmas.Bool.{eqb-true, eq-eqb}
use Rattle.std.proofs.lemmas.Map.Views.{Contains-from_any}
use Rattle.ris_base.proofs.ListLemmas.{list_any-from_passing}
use Rattle.ris_forest.proofs.subtrees.Subtrees.contains.Goals as goal

pub returns-else-len-le-FEW : goal.returns-else-len-le-FEW
returns-else-len-le-FEW c =
    let x = c.args.x in
    let r = c.contains-else-len-le-FEW.result in
    let found = c.contains-else-len-le-FEW.ensures in
    let keys = c.self.inside.members.keys in
    let members = c.self.invariant in
    subst (λ (l : List _). (r ≡ true → Contains l x) × (Contains l x → r ≡ true)) c.self.view_is (
      λ h. members.known x (Contains-from_any eqb-true x keys (sym found ∙ h)),
      λ h. found ∙ list_any-from_passing (λ y. x == y) keys x (members.all (omega arith) x h) (eq-eqb x x refl),
    )
