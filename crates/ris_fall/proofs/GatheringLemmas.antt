-- Lists that grow by exactly the vertices of which something holds.
use Rattle.std.proofs.Common.{◌≡◌, ℕ, ◌≤◌, true, ◌↔◌, ◌⊎◌, inl, inr, List, [], ◌∷◌, ◌++◌, arith, sym, subst}
use Rattle.std.specs.List.{Contains}
use Rattle.std.proofs.lemmas.List.Elements.{Contains-append_left, Contains-append_right, Contains-append_cases, Contains-push_cases}
use Rattle.ris_base.specs.Forest.{Forest}
use Rattle.ris_base.specs.Safe.{is_along}
use Rattle.ris_base.specs.declared.analyses.Value.TheVariants.{Absent}
use Rattle.ris_base.specs.declared.graphs.Triple.{Triple}
use Rattle.ris_base.proofs.ListLemmas.{Contains-none, Contains-first, Contains-one}
use Rattle.ris_forest.specs.Cells.{IsBelow}
use Rattle.ris_forest.specs.Growing.{with_vertex, IsClosed, GrowsBelow}
use Rattle.ris_forest.proofs.SubtreeLemmas.{Contains-with}
use Rattle.ris_graph.specs.declared.nets.NetTriple.{NetTriple}
use Rattle.ris_fall.specs.Gathering.{Gathers, HangsAlong, HangsBelowOne, HangsByGone, HangsBelowGone, IsNew}

-- the last item of a list
last_item : {X : Type 0} (xs : List X) (x : X) → Contains (xs ++ x ∷ []) x
last_item xs x = Contains-append_right xs (x ∷ []) x (Contains-first x [])

-- Growing

-- a list that grows by nothing
pub Gathers-none : (F : Forest) (P : ℕ → Type 0) (xs : List ℕ) → IsClosed F xs → ((y : ℕ) → ¬ (P y)) → Gathers F P xs xs
Gathers-none F P xs closed none = record {
  each = λ y. (λ h. inl h, λ h. elim h [ inl had ↦ had | inr new ↦ absurd (none y new) ]);
  closed = closed;
}

-- a list that grows by some vertices and then by others
pub Gathers-both : (F : Forest) (P Q R : ℕ → Type 0) (a b c : List ℕ) → ((y : ℕ) → R y ↔ (P y ⊎ Q y))
    → Gathers F P a b → Gathers F Q b c → Gathers F R a c
Gathers-both F P Q R a b c same some more = record {
  each = λ y. (
    λ h. elim ((more.each y).0 h) [
      | inl first ↦ elim ((some.each y).0 first) [ inl had ↦ inl had | inr p ↦ inr ((same y).1 (inl p)) ]
      | inr q ↦ inr ((same y).1 (inr q))
    ],
    λ h. elim h [
      | inl had ↦ (more.each y).1 (inl ((some.each y).1 (inl had)))
      | inr r ↦ elim ((same y).0 r) [ inl p ↦ (more.each y).1 (inl ((some.each y).1 (inr p))) | inr q ↦ (more.each y).1 (inr q) ]
    ],
  );
  closed = more.closed;
}

-- a list that grows by the same vertices, said in another way
pub Gathers-same : (F : Forest) (P Q : ℕ → Type 0) (a b : List ℕ) → ((y : ℕ) → Q y ↔ P y) → Gathers F P a b → Gathers F Q a b
Gathers-same F P Q a b same some = record {
  each = λ y. (
    λ h. elim ((some.each y).0 h) [ inl had ↦ inl had | inr p ↦ inr ((same y).1 p) ],
    λ h. (some.each y).1 (elim h [ inl had ↦ inl had | inr q ↦ inr ((same y).0 q) ]),
  );
  closed = some.closed;
}

-- a list that grows by a subtree
pub Gathers-below : (F : Forest) (x : ℕ) (a b : List ℕ) → GrowsBelow F x a b → Gathers F (IsBelow F x) a b
Gathers-below F x a b grown = record { each = grown.each; closed = grown.closed }

-- Lists of vertices

-- no vertices
pub IsClosed-none : (F : Forest) → IsClosed F []
IsClosed-none F x y h below = absurd (Contains-none x h)

-- below none
pub HangsBelowOne-none : (F : Forest) (y : ℕ) → ¬ (HangsBelowOne F [] y)
HangsBelowOne-none F y h = Contains-none h.vertex h.listed

-- below one of a list with one more
pub HangsBelowOne-more : (F : Forest) (xs : List ℕ) (x y : ℕ) → HangsBelowOne F (xs ++ x ∷ []) y ↔ (HangsBelowOne F xs y ⊎ IsBelow F x y)
HangsBelowOne-more F xs x y = (
  λ h. elim (Contains-push_cases xs x h.vertex h.listed) [
    | inl old ↦ inl (record { vertex = h.vertex; listed = old; below = h.below })
    | inr last ↦ inr (subst (λ z. IsBelow F z y) (sym last) h.below)
  ],
  λ h. elim h [
    | inl old ↦ record { vertex = old.vertex; listed = Contains-append_left xs (x ∷ []) old.vertex old.listed; below = old.below }
    | inr below ↦ record { vertex = x; listed = last_item xs x; below = below }
  ],
)

-- Triples that are gone

-- below none
pub HangsBelowGone-none : (F : Forest) (y : ℕ) → ¬ (HangsBelowGone F [] y)
HangsBelowGone-none F y h = Contains-none h.net h.listed

-- below one of a list with one more
pub HangsBelowGone-more : (F : Forest) (ts : List NetTriple) (t : NetTriple) (y : ℕ)
    → HangsBelowGone F (ts ++ t ∷ []) y ↔ (HangsBelowGone F ts y ⊎ HangsByGone F t y)
HangsBelowGone-more F ts t y = (
  λ h. elim (Contains-push_cases ts t h.net h.listed) [
    | inl old ↦ inl (record { net = h.net; listed = old; by = h.by })
    | inr last ↦ inr (subst (λ (n : NetTriple). HangsByGone F n y) (sym last) h.by)
  ],
  λ h. elim h [
    | inl old ↦ record { net = old.net; listed = Contains-append_left ts (t ∷ []) old.net old.listed; by = old.by }
    | inr new ↦ record { net = t; listed = last_item ts t; by = new }
  ],
)

-- a vertex whose parent is along a triple, with all below it
pub Gathers-hung : (F : Forest) (t : Triple) (x : ℕ) (old new : List ℕ) → is_along t (F.parent x) ≡ true → GrowsBelow F x old new → Gathers F (HangsAlong F t x) old new
Gathers-hung F t x old new along grown =
    Gathers-same F (IsBelow F x) (HangsAlong F t x) old new (λ y. (λ h. h.below, λ h. record { along = along; below = h })) (Gathers-below F x old new grown)

-- both ends of a triple that is gone
pub Gathers-ends : (F : Forest) (net : NetTriple) (a b c : List ℕ) → net.after ≤ 0 → Gathers F (HangsAlong F net.triple net.triple.source) a b
    → Gathers F (HangsAlong F net.triple net.triple.target) b c → Gathers F (HangsByGone F net) a c
Gathers-ends F net a b c none source target =
    Gathers-both F (HangsAlong F net.triple net.triple.source) (HangsAlong F net.triple net.triple.target) (HangsByGone F net) a b c
    (λ y. (λ h. h.hangs, λ h. record { gone = omega arith; hangs = h })) source target

-- Absent vertices

-- none
pub IsNew-none : (F : Forest) (y : ℕ) → ¬ (IsNew F [] y)
IsNew-none F y h = Contains-none y h.listed

-- of a list with one more
pub IsNew-more : (F : Forest) (xs : List ℕ) (x y : ℕ) → IsNew F (xs ++ x ∷ []) y ↔ (IsNew F xs y ⊎ IsNew F (x ∷ []) y)
IsNew-more F xs x y = (
  λ h. elim (Contains-append_cases xs (x ∷ []) y h.listed) [
    | inl old ↦ inl (record { listed = old; absent = h.absent })
    | inr last ↦ inr (record { listed = last; absent = h.absent })
  ],
  λ h. elim h [
    | inl old ↦ record { listed = Contains-append_left xs (x ∷ []) y old.listed; absent = old.absent }
    | inr last ↦ record { listed = Contains-append_right xs (x ∷ []) y last.listed; absent = last.absent }
  ],
)

-- one vertex, which is absent
pub Contains-absent : (F : Forest) (x : ℕ) (old new : List ℕ) → F.value x ≡ Absent → new ≡ with_vertex old x
    → (y : ℕ) → Contains new y ↔ (Contains old y ⊎ IsNew F (x ∷ []) y)
Contains-absent F x old new absent grown y = (
  λ h. elim ((Contains-with old x y).0 (subst (λ (l : List ℕ). Contains l y) grown h)) [
    | inl had ↦ inl had
    | inr same ↦ inr (record {
      listed = subst (Contains (x ∷ [])) (sym same) (Contains-first x []);
      absent = subst (λ z. F.value z ≡ Absent) (sym same) absent;
    })
  ],
  λ h. subst (λ (l : List ℕ). Contains l y) (sym grown) ((Contains-with old x y).1 (elim h [ inl had ↦ inl had | inr new ↦ inr (sym (Contains-one x y new.listed)) ])),
)
