use Rattle.std.proofs.Common.{◌≡◌, ◌<◌, ◌+◌, ◌++◌, ◌∷◌, [], ◌∙◌, ◌⊎◌, ◌↔◌, inl, inr, ℕ, List, length, take, arith, sym, subst, ap}
use Rattle.std.specs.List.{Contains}
use Rattle.std.proofs.lemmas.List.{take_all, take_more}
use Rattle.std.proofs.lemmas.Option.{get_or_from_slice_get}
use Rattle.ris_forest.specs.Cells.{forest_of}
use Rattle.ris_fall.specs.Gathering.{IsNew}
use Rattle.ris_fall.proofs.GatheringLemmas.{IsNew-none, IsNew-more}
use Rattle.ris_fall.proofs.falling.add_new.Goals as goal

pub loop-k-init : goal.loop-k-init
loop-k-init g c = λ y. (λ h. inl h, λ h. elim h [ inl had ↦ had | inr new ↦ absurd (IsNew-none (forest_of c.args.forest.now.cells) y new) ])

pub loop-k-preserved : goal.loop-k-preserved
loop-k-preserved g c =
    let F = forest_of c.args.forest.now.cells in
    let xs = c.args.added.now in
    let k = c.loop-k.k in
    let x = c.at.result.now in
    let within : k < length xs = omega arith in
    let next : take (k + 1) xs ≡ take k xs ++ x ∷ [] =
    take_more xs k x within ∙ ap (λ y. take k xs ++ y ∷ []) (get_or_from_slice_get xs k x x c.at.ensures) in
    let one = c.in_ok-add_absent.ensures in
    let before = c.loop-k.invariant in
    λ y. subst (λ (l : List ℕ). Contains c.add_absent.new.found y ↔ (Contains c.args.found.now y ⊎ IsNew F l y)) (sym next) (
      λ h. elim ((one y).0 h) [
        | inl had ↦ elim ((before y).0 had) [ inl old ↦ inl old | inr new ↦ inr ((IsNew-more F (take k xs) x y).1 (inl new)) ]
        | inr last ↦ inr ((IsNew-more F (take k xs) x y).1 (inr last))
      ],
      λ h. (one y).1 (elim h [
        | inl old ↦ inl ((before y).1 (inl old))
        | inr more ↦ elim ((IsNew-more F (take k xs) x y).0 more) [ inl new ↦ inl ((before y).1 (inr new)) | inr last ↦ inr last ]
      ]),
    )

pub returns : goal.returns
returns g c = λ y.
    let F = forest_of c.args.forest.now.cells in
    subst (λ (l : List ℕ). Contains c.loop-k.found y ↔ (Contains c.args.found.now y ⊎ IsNew F l y)) (take_all c.loop-k.k c.args.added.now (omega arith)) (c.loop-k.invariant y)
