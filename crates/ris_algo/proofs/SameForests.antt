-- Forests that give each vertex number the same value and parent are the same forest.
use Rattle.std.proofs.Common.{◌≡◌, ℕ, List, [], ◌∷◌, refl}
use Rattle.ris_base.specs.Forest.{Forest}
use Rattle.ris_base.specs.Lists.{EachPair}

-- two forests give each vertex number the same value and parent
pub record Agree (F G : Forest) : Type 0 where
  pub value : (x : ℕ) → F.value x ≡ G.value x
  pub parent : (x : ℕ) → F.parent x ≡ G.parent x

-- so they are the same, and what holds of one holds of the other
pub same-forest : (F G : Forest) → Agree F G → F ≡ G
same-forest F G h = λ i. record { value = λ x. h.value x i; parent = λ x. h.parent x i }

-- lists of them, pair by pair, are the same list
pub same-forests : (Fs Gs : List Forest) → EachPair Agree Fs Gs → Fs ≡ Gs
same-forests [] [] h = refl
same-forests [] (G ∷ Gs) h = absurd h
same-forests (F ∷ Fs) [] h = absurd h
same-forests (F ∷ Fs) (G ∷ Gs) h = λ i. same-forest F G h.0 i ∷ same-forests Fs Gs h.1 i
