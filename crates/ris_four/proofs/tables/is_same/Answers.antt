use Rattle.std.proofs.Common.{◌≡◌, Bool, List, [], ◌∷◌, true, IsTrue, sym, refl, ap, subst}
use Rattle.std.specs.Prelude.{◌↔◌}
use lib.Pointwise.{pointwise}
use Rattle.std.proofs.lemmas.Bool.{and_parts, and_from, eqb-true, eq-eqb}
use Rattle.ris_base.specs.declared.analyses.Value.TheVariants.{Absent, Unreached, Num}
use Rattle.ris_four.proofs.tables.is_same.Goals as goal

lists_same : {X : Type 0} (E : X → X → Bool) → ((a b : X) → (E a b ≡ true) ↔ (a ≡ b)) → (xs ys : List X) → (pointwise E xs ys ≡ true) ↔ (xs ≡ ys)
lists_same E h [] [] = (λ _. refl, λ _. refl)
lists_same E h [] (y ∷ ys) = (λ e. absurd (cc), λ e. absurd (cc))
lists_same E h (x ∷ xs) [] = (λ e. absurd (cc), λ e. absurd (cc))
lists_same E h (x ∷ xs) (y ∷ ys) =
    let rest = lists_same E h xs ys in (
      λ e. (let parts = and_parts (E x y) (pointwise E xs ys) e in let a = (h x y).0 parts.0 in let b = rest.0 parts.1 in cc),
      λ e. (let a : x ≡ y = cc in let b : xs ≡ ys = cc in and_from (E x y) (pointwise E xs ys) ((h x y).1 a) (rest.1 b)),
    )

pub returns : goal.returns
returns c =
    subst (λ b. IsTrue b ↔ (c.args.a.now ≡ c.args.b.now)) (sym c.eq.ensures)
    (lists_same _
    (elim [
      | Absent ↦ elim [ Absent ↦ (λ _. refl, λ _. refl) | Unreached ↦ (λ e. absurd (cc), λ e. absurd (cc)) | Num b ↦ (λ e. absurd (cc), λ e. absurd (cc)) ]
      | Unreached ↦ elim [ Absent ↦ (λ e. absurd (cc), λ e. absurd (cc)) | Unreached ↦ (λ _. refl, λ _. refl) | Num b ↦ (λ e. absurd (cc), λ e. absurd (cc)) ]
      | Num a ↦ elim [
        | Absent ↦ (λ e. absurd (cc), λ e. absurd (cc))
        | Unreached ↦ (λ e. absurd (cc), λ e. absurd (cc))
        | Num b ↦ (λ e. ap Num (eqb-true a b e), λ e. eq-eqb a b (cc))
      ]
    ])
    c.args.a.now c.args.b.now)
