-- Vertices that wait in the queue, and those that are still to be put there.
use Rattle.std.proofs.Common.{◌≡◌, ℕ, Bool, true, false, ◌==◌, if◌then◌else◌, inl, inr, List, [], ◌∷◌, map, Option, Some, None, refl, sym, subst, ap, ◌∙◌}
use Rattle.std.specs.List.{Contains}
use Rattle.std.specs.List.Sorted.{IsPermutation}
use Rattle.std.specs.Option.{unwrap_or}
use Rattle.std.proofs.lemmas.Bool.{cases_eq, ne_eqb}
use Rattle.std.proofs.lemmas.List.Sorted.{Contains-permutation}
use Rattle.ris_base.specs.declared.analyses.Kind.{Kind}
use Rattle.ris_base.specs.declared.analyses.Value.{Value}
use Rattle.ris_base.specs.declared.analyses.Value.TheVariants.{Absent, Unreached, Num}
use Rattle.ris_base.proofs.ListLemmas.{Contains-none, Contains-first, Contains-rest, Contains-cases}
use Rattle.ris_repair.specs.Changes.{AreQueued, AreQueuedBut, number_of, waiting_number}
use Rattle.ris_repair.specs.Priority.{priority_of}
use Rattle.ris_repair.specs.declared.stores.Change.{Change}

-- a change that waits has its number
waits_value : (v : Value) (s : Bool) (d : ℕ) → (if s then None else number_of v) ≡ Some d → v ≡ Num d
waits_value v true d h = absurd (cc)
waits_value Absent false d h = absurd (cc)
waits_value Unreached false d h = absurd (cc)
waits_value (Num c) false d h = let e : c ≡ d = cc in ap Num e

module _ (kind : Kind) (old new : ℕ → Option Change) (x : ℕ) (xs : List ℕ) (others : (y : ℕ) → (x == y) ≡ false → new y ≡ old y) where
  -- one vertex less is still to be put there
  put_on : (queue queue2 : List (ℕ × ℕ)) → ((item : ℕ × ℕ) → Contains queue item → Contains queue2 item)
      → ((d : ℕ) → waiting_number (new x) ≡ Some d → Contains queue2 (priority_of kind d, x))
      → AreQueuedBut kind (x ∷ xs) old queue → AreQueuedBut kind xs new queue2
  put_on queue queue2 keeps here before y d h = elim (cases_eq x y) [
    | inl e ↦ inr (subst (λ (k : ℕ). Contains queue2 (priority_of kind d, k)) e (here d (ap (λ (k : ℕ). waiting_number (new k)) e ∙ h)))
    | inr ne ↦ elim (before y d (ap waiting_number (sym (others y (ne_eqb x y ne))) ∙ h)) [
      | inl at ↦ elim (Contains-cases x xs y at) [
        | inl same ↦ absurd (ne same)
        | inr later ↦ inl later
      ]
      | inr on ↦ inr (keeps (priority_of kind d, y) on)
    ]
  ]

  -- a vertex with a number is put there
  pub put_number : (queue queue2 : List (ℕ × ℕ)) (c : Change) (number best : ℕ) → new x ≡ Some c → c.value ≡ Num number → best ≡ priority_of kind number
      → IsPermutation ((best, x) ∷ queue) queue2 → AreQueuedBut kind (x ∷ xs) old queue → AreQueuedBut kind xs new queue2
  put_number queue queue2 c number best is value rank items =
      put_on queue queue2 (λ item on. Contains-permutation ((best, x) ∷ queue) queue2 item items (Contains-rest (best, x) queue item on))
      (λ d waits.
      let at : c.value ≡ Num d = waits_value c.value c.settled d (ap waiting_number (sym is) ∙ waits) in
      let both : Num number ≡ Num d = sym value ∙ at in
      let same : number ≡ d = cc in
      subst (λ (k : ℕ). Contains queue2 (k, x)) (rank ∙ ap (priority_of kind) same)
      (Contains-permutation ((best, x) ∷ queue) queue2 (best, x) items (Contains-first (best, x) queue)))

  -- one without a number doesn't wait
  pub put_none : (queue : List (ℕ × ℕ)) → ((d : ℕ) → waiting_number (new x) ≡ Some d → ⊥) → AreQueuedBut kind (x ∷ xs) old queue → AreQueuedBut kind xs new queue
  put_none queue none = put_on queue queue (λ item on. on) (λ d waits. absurd (none d waits))

-- a change without a number doesn't wait
pub idle_without : (o : Option Change) (c : Change) → o ≡ Some c → ((d : ℕ) → c.value ≡ Num d → ⊥) → (d : ℕ) → waiting_number o ≡ Some d → ⊥
idle_without o c is none d waits = none d (waits_value c.value c.settled d (ap waiting_number (sym is) ∙ waits))

-- nothing is still to be put there
pub queued_all : (kind : Kind) (changes : ℕ → Option Change) (queue : List (ℕ × ℕ)) → AreQueuedBut kind [] changes queue → AreQueued kind changes queue
queued_all kind changes queue before x d h = elim (before x d h) [ inl at ↦ absurd (Contains-none x at) | inr on ↦ on ]

-- one more is still to be put there
pub queued_but : (kind : Kind) (changes : ℕ → Option Change) (queue : List (ℕ × ℕ)) (xs : List ℕ) → AreQueued kind changes queue → AreQueuedBut kind xs changes queue
queued_but kind changes queue xs before x d h = inr (before x d h)

-- the same items in another order serve as well
pub queued_moved : (kind : Kind) (changes : ℕ → Option Change) (queue queue2 : List (ℕ × ℕ)) → IsPermutation queue queue2 → AreQueued kind changes queue → AreQueued kind changes queue2
queued_moved kind changes queue queue2 moved before x d h = Contains-permutation queue queue2 (priority_of kind d, x) moved (before x d h)

-- A queue of all vertices of a list

mapped_in : {X Y : Type 0} (f : X → Y) (xs : List X) (x : X) → Contains xs x → Contains (map f xs) (f x)
mapped_in f [] x h = absurd (Contains-none x h)
mapped_in {Y = Y} f (m ∷ rest) x h = elim (Contains-cases m rest x h) [
  | inl same ↦ subst (λ (y : Y). Contains (f m ∷ map f rest) y) (ap f same) (Contains-first (f m) (map f rest))
  | inr later ↦ Contains-rest (f m) (map f rest) (f x) (mapped_in f rest x later)
]

-- the items with which the vertices of a list wait
abbrev pub waiting_items : Kind → (ℕ → Option Change) → List ℕ → List (ℕ × ℕ)
waiting_items kind changes xs = map (λ x. (priority_of kind (unwrap_or (waiting_number (changes x)) 0), x)) xs

-- what changed stands in the list, and so does what waits
pub waits_listed : (kind : Kind) (changes : ℕ → Option Change) (xs : List ℕ) → ((x : ℕ) (c : Change) → changes x ≡ Some c → Contains xs x)
    → (x d : ℕ) → waiting_number (changes x) ≡ Some d → Contains xs x
waits_listed kind changes xs within x d waits = present (changes x) refl
  where
    present : (o : Option Change) → changes x ≡ o → Contains xs x
    present None is = absurd (let both = sym (ap waiting_number is) ∙ waits in cc)
    present (Some c) is = within x c is

-- so it stands among the list's items
pub queued_items : (kind : Kind) (changes : ℕ → Option Change) (xs : List ℕ) → ((x : ℕ) (c : Change) → changes x ≡ Some c → Contains xs x)
    → AreQueued kind changes (waiting_items kind changes xs)
queued_items kind changes xs within x d waits =
    subst (λ (k : ℕ). Contains (waiting_items kind changes xs) (priority_of kind k, x)) (ap (λ (o : Option ℕ). unwrap_or o 0) waits)
    (mapped_in (λ z. (priority_of kind (unwrap_or (waiting_number (changes z)) 0), z)) xs x (waits_listed kind changes xs within x d waits))
