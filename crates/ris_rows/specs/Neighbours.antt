-- Counted, ascending lists of neighbours: what the contracts of a row say, and at the end what those of its search say.
use Rattle.std.specs.Prelude.{◌≡◌, ℕ, suc, ◌+◌, ◌≤◌, Bool, true, false, ◌&&◌, ◌||◌, ◌==◌, nat_lt, if◌then◌else◌, List, [], ◌∷◌, ◌++◌, IsTrue, Result, MatchResult}
use Rattle.ris_rows.specs.declared.neighbours.Neighbour.{Neighbour}

-- the neighbour stands before those of the end e and the weight w: its end is lower, or it is e and its weight is lower
abbrev pub is_before : Neighbour → ℕ → ℕ → Bool
is_before n e w = nat_lt n.end e || (n.end == e && nat_lt n.weight w)

-- the neighbour is that of the end e and the weight w
abbrev pub is_of : Neighbour → ℕ → ℕ → Bool
is_of n e w = n.end == e && n.weight == w

-- the neighbour stands before each of the list
abbrev pub IsBeforeAll : Neighbour → List Neighbour → Type 0
IsBeforeAll n [] = Unit {0}
IsBeforeAll n (m ∷ ms) = IsTrue (is_before n m.end m.weight) × IsBeforeAll n ms

-- each neighbour of the list has a copy, and stands before all later ones
abbrev pub IsAscending : List Neighbour → Type 0
IsAscending [] = Unit {0}
IsAscending (n ∷ ns) = (1 ≤ n.copies) × IsBeforeAll n ns × IsAscending ns

-- how many copies of (e, w) the list has
abbrev pub copies_of : List Neighbour → ℕ → ℕ → ℕ
copies_of [] e w = 0
copies_of (n ∷ ns) e w = (if is_of n e w then n.copies else 0) + copies_of ns e w

-- k copies of (e, w), as a list of one neighbour, or of none where k is 0
abbrev pub listed : ℕ → ℕ → ℕ → List Neighbour
listed e w k = if k == 0 then [] else record { end = e; weight = w; copies = k } ∷ []

-- the list with exactly k copies of (e, w), in their place in the order, and with all others as they were
abbrev pub counted : List Neighbour → ℕ → ℕ → ℕ → List Neighbour
counted [] e w k = listed e w k
counted (n ∷ ns) e w k = if is_before n e w then n ∷ counted ns e w k else listed e w k ++ (if is_of n e w then ns else n ∷ ns)

-- the numbers of a neighbour, as a cursor hands them out
abbrev pub handed : Neighbour → ℕ × ℕ × ℕ
handed n = (n.end, n.weight, n.copies)

-- how many neighbours at the front of the list stand before (e, w)
abbrev pub place_of : List Neighbour → ℕ → ℕ → ℕ
place_of [] e w = 0
place_of (n ∷ ns) e w = if is_before n e w then suc (place_of ns e w) else 0

-- whether an ascending list has a copy of (e, w)
abbrev pub has : List Neighbour → ℕ → ℕ → Bool
has [] e w = false
has (n ∷ ns) e w = if is_before n e w then has ns e w else is_of n e w

-- the outcome of a search is the place of (e, w): where it stands, or where it would go
abbrev pub IsFound : List Neighbour → ℕ → ℕ → Result ℕ ℕ → Type 0
IsFound ns e w found =
    MatchResult found (λ k. (k ≡ place_of ns e w) × (has ns e w ≡ true)) (λ k. (k ≡ place_of ns e w) × (has ns e w ≡ false))
