-- The queue of the changes that a raised floor makes the first of their chains.
use Rattle.std.proofs.Common.{◌≡◌, ℕ, zero, suc, ◌+◌, ◌-◌, ◌<◌, ◌≤◌, ◌==◌, ◌||◌, Bool, true, false, if◌then◌else◌, List, [], ◌∷◌, length, get_or, set, map, arith, refl, inl, inr, sym, subst, ap, ◌∙◌}
use Rattle.std.specs.Prelude.{nat_le}
use Rattle.std.specs.List.{All, list_any}
use Rattle.std.specs.List.Sorted.{IsNonDecreasingBy}
use Rattle.std.proofs.lemmas.Bool.{cases_eq, le-leb, lt-leb, lt-ltb, eq-eqb, ne_eqb}
use Rattle.std.proofs.lemmas.List.{get_or_default, get_or-set_same, get_or-set_other}
use Rattle.std.proofs.lemmas.List.Elements.{All-head, All-tail}
use Rattle.std.proofs.lemmas.List.Sorted.{IsNonDecreasingBy-drop}
use Rattle.std.proofs.lemmas.List.Sums.{sum_by-set}
use Rattle.std.proofs.Math.Seq.{map-set_same}
use Rattle.ris_history.specs.Chains.{HeldView, ChainView, no_chain, advanced, advanced_from, drops, drops_from, any_up_to, trimmed_from, trimmed, kept_of, chain_at}
use Rattle.ris_history.specs.Sound.{later_places, due_places, AreInOrder, IsPast}
use Rattle.ris_history.specs.declared.trims.Due.{Due}

-- The next due

-- a chain whose next change is the due
record IsNext (due : Due) (dues : List Due) (c : ChainView) : Type 0 where
  next : HeldView
  rest : List HeldView
  later : c.later ≡ next ∷ rest
  place : next.place ≡ due.place
  others : map (λ held. held.place) rest ≡ due_places due.chain dues

due_places-own : (due : Due) (dues : List Due) → due_places due.chain (due ∷ dues) ≡ due.place ∷ due_places due.chain dues
due_places-own due dues = let same = eq-eqb due.chain due.chain refl in rw same refl

due_places-other : (due : Due) (dues : List Due) (k : ℕ) → ¬ (due.chain ≡ k) → due_places k (due ∷ dues) ≡ due_places k dues
due_places-other due dues k h = let differs = ne_eqb due.chain k h in rw differs refl

is_next : (due : Due) (dues : List Due) (c : ChainView) → later_places c ≡ due_places due.chain (due ∷ dues) → IsNext due dues c
is_next due dues c h = go c.later refl (h ∙ due_places-own due dues)
  where
    go : (items : List HeldView) → c.later ≡ items → map (λ held. held.place) c.later ≡ due.place ∷ due_places due.chain dues → IsNext due dues c
    go [] is e = absurd (let f = rw is at e in cc)
    go (next ∷ rest) is e = let f = rw is at e in record { next = next; rest = rest; later = is; place = cc f; others = cc f }

-- the chain of the first due is there
pub due-within : (due : Due) (dues : List Due) (cs : List ChainView) (kept : ℕ) → AreInOrder (due ∷ dues) cs kept → due.chain < length cs
due-within due dues cs kept h = go cs due.chain (is_next due dues (chain_at cs due.chain) (h.due due.chain))
  where
    go : (xs : List ChainView) (k : ℕ) → IsNext due dues (chain_at xs k) → k < length xs
    go [] k n = absurd (let e = n.later in cc)
    go (x ∷ xs) zero n = omega arith
    go (x ∷ xs) (suc k) n = let more = go xs k n in omega arith

-- One step

advanced-next : (due : Due) (dues : List Due) (c : ChainView) (n : IsNext due dues c) → advanced c ≡ record { first = n.next; later = n.rest }
advanced-next due dues c n = ap (advanced_from c.first) n.later

-- reading the chain of the first due
read-same : (due : Due) (dues : List Due) (cs : List ChainView) (c : ChainView) (kept : ℕ) → AreInOrder (due ∷ dues) cs kept → c ≡ get_or cs due.chain c → c ≡ chain_at cs due.chain
read-same due dues cs c kept h read = read ∙ get_or_default cs due.chain c no_chain (due-within due dues cs kept h)

-- trimming doesn't need what the step dropped
trimmed-advanced : (f : ℕ) (due : Due) (dues : List Due) (c : ChainView) → due.place ≤ f → IsNext due dues c → trimmed f (advanced c) ≡ trimmed f c
trimmed-advanced f due dues c l n =
    let low : n.next.place ≤ f = (let e = n.place in omega arith) in
    let up = le-leb n.next.place f low in
    ap (trimmed f) (advanced-next due dues c n) ∙ sym (ap (trimmed_from f c.first) n.later ∙ (rw up refl))

pub trimmed-step : (f : ℕ) (due : Due) (dues : List Due) (cs : List ChainView) (c : ChainView) (kept : ℕ) → AreInOrder (due ∷ dues) cs kept → due.place ≤ f
    → c ≡ get_or cs due.chain c → map (trimmed f) (set cs due.chain (advanced c)) ≡ map (trimmed f) cs
trimmed-step f due dues cs c kept h l read =
    let same = read-same due dues cs c kept h read in
    let n = is_next due dues (chain_at cs due.chain) (h.due due.chain) in
    map-set_same (trimmed f) cs due.chain (advanced c) no_chain
    (ap (λ (x : ChainView). trimmed f (advanced x)) same ∙ trimmed-advanced f due dues (chain_at cs due.chain) l n)

-- how many changes a chain keeps whose first item is one or not
abbrev pub one_of : ℕ → ℕ
one_of place = if place == 0 then 0 else 1

-- an item of no place 0 is a change
pub one_of-some : (place : ℕ) → 0 < place → one_of place ≡ 1
one_of-some place h = let some = ne_eqb place 0 (λ e. omega arith) in rw some refl

drops-next : (due : Due) (dues : List Due) (c : ChainView) → IsNext due dues c → (if drops c then 1 else 0) ≡ one_of c.first.place
drops-next due dues c n = go c.later n.later c.first.place refl
  where
    go : (items : List HeldView) → items ≡ n.next ∷ n.rest → (p : ℕ) → c.first.place ≡ p → (if drops_from c.first items then 1 else 0) ≡ one_of p
    go [] is p e = absurd (cc)
    go (x ∷ xs) is zero e = rw e refl
    go (x ∷ xs) is (suc p) e =
        let less = lt-ltb 0 (suc p) (omega arith) in let some = ne_eqb (suc p) 0 (λ f. omega arith) in rw (e, less, some) refl

kept_of-next : (due : Due) (dues : List Due) (c : ChainView) → 0 < due.place → IsNext due dues c
    → kept_of c ≡ kept_of (advanced c) + (if drops c then 1 else 0)
kept_of-next due dues c some n =
    let after = ap kept_of (advanced-next due dues c n) in
    let one : one_of n.next.place ≡ 1 = one_of-some n.next.place (let e = n.place in omega arith) in
    let size = ap length n.later in
    let drop = drops-next due dues c n in
    let whole : kept_of c ≡ length c.later + one_of c.first.place = refl in
    let rest : kept_of (record { first = n.next; later = n.rest }) ≡ length n.rest + one_of n.next.place = refl in
    omega arith

-- a change fewer is kept where the step drops one
pub order-step : (due : Due) (dues : List Due) (cs : List ChainView) (c : ChainView) (kept : ℕ) → AreInOrder (due ∷ dues) cs kept → c ≡ get_or cs due.chain c
    → AreInOrder dues (set cs due.chain (advanced c)) (kept - (if drops c then 1 else 0)) × ((if drops c then 1 else 0) ≤ kept)
order-step due dues cs c kept h read =
    let k = due.chain in
    let within = due-within due dues cs kept h in
    let same = read-same due dues cs c kept h read in
    let n = is_next due dues c (ap later_places same ∙ h.due k) in
    let total = sum_by-set kept_of cs k (advanced c) c within in
    let here = ap kept_of read in
    let less = kept_of-next due dues c (All-head (λ (d : Due). 0 < d.place) due dues h.some) n in
    let count = h.count in (
      record {
        due = λ j. elim (cases_eq j due.chain) [
          | inl e ↦ subst (λ i. later_places (chain_at (set cs due.chain (advanced c)) i) ≡ due_places i dues) (sym e)
              (ap later_places (get_or-set_same cs due.chain (advanced c) no_chain within ∙ advanced-next due dues c n) ∙ n.others)
          | inr e ↦ ap later_places (get_or-set_other cs due.chain j (advanced c) no_chain e) ∙ h.due j ∙ due_places-other due dues j (λ f. e (sym f))
        ];
        order = IsNonDecreasingBy-drop (λ (d : Due). d.place) 1 (due ∷ dues) h.order;
        some = All-tail (λ (d : Due). 0 < d.place) due dues h.some;
        count = omega arith;
      },
      omega arith,
    )

-- The end

any-places : (f : ℕ) (items : List HeldView) → any_up_to f items ≡ list_any (λ p. nat_le p f) (map (λ held. held.place) items)
any-places f [] = refl
any-places f (s ∷ ss) = ap (λ b. nat_le s.place f || b) (any-places f ss)

any-due : (f k : ℕ) (dues : List Due) → All (λ due. f < due.place) dues → list_any (λ p. nat_le p f) (due_places k dues) ≡ false
any-due f k [] h = refl
any-due f k (d ∷ ds) h = go (d.chain == k) (any-due f k ds (All-tail (λ (due : Due). f < due.place) d ds h))
  where
    past : nat_le d.place f ≡ false
    past = lt-leb d.place f (All-head (λ (due : Due). f < due.place) d ds h)

    go : (b : Bool) → list_any (λ p. nat_le p f) (due_places k ds) ≡ false
        → list_any (λ p. nat_le p f) (if b then d.place ∷ due_places k ds else due_places k ds) ≡ false
    go true more = rw past more
    go false more = more

-- where no change behind the first item has a place up to f, trimming changes nothing
pub trimmed-untouched : (f : ℕ) (c : ChainView) → any_up_to f c.later ≡ false → trimmed f c ≡ c
trimmed-untouched f c h = go c.later refl h
  where
    go : (items : List HeldView) → c.later ≡ items → any_up_to f items ≡ false → trimmed f c ≡ c
    go [] is e = ap (trimmed_from f c.first) is ∙ ap (λ (xs : List HeldView). let x : ChainView = record { first = c.first; later = xs } in x) (sym is)
    go (next ∷ rest) is e = ap (trimmed_from f c.first) is ∙ (rw e refl) ∙ ap (λ (xs : List HeldView). let x : ChainView = record { first = c.first; later = xs } in x) (sym is)

all-untouched : (f : ℕ) (cs : List ChainView) → ((k : ℕ) → any_up_to f (chain_at cs k).later ≡ false) → map (trimmed f) cs ≡ cs
all-untouched f [] h = refl
all-untouched f (c ∷ cs) h =
    ap (λ (x : ChainView). x ∷ map (trimmed f) cs) (trimmed-untouched f c (h zero)) ∙ ap (λ (xs : List ChainView). c ∷ xs) (all-untouched f cs (λ k. h (suc k)))

-- where no due has a place up to f, trimming changes nothing
pub trimmed-past : (f : ℕ) (dues left : List Due) (cs : List ChainView) (kept : ℕ) → AreInOrder dues cs kept → IsPast f dues left → map (trimmed f) cs ≡ cs
trimmed-past f dues left cs kept h past =
    all-untouched f cs (λ k. any-places f (chain_at cs k).later ∙ ap (list_any (λ p. nat_le p f)) (h.due k) ∙ any-due f k dues (all dues h.order past))
  where
    all : (qs : List Due) → IsNonDecreasingBy (λ due. due.place) qs → IsPast f qs left → All (λ due. f < due.place) qs
    all [] order p = λ k d l. absurd (omega arith)
    all (q ∷ qs) order p = λ k d l. let first = p.1 in let rises = order 0 k d (omega arith) l in omega arith

pub left-past : (f : ℕ) (dues left : List Due) → IsPast f dues left → left ≡ dues
left-past f [] left h = h
left-past f (d ∷ dues) left h = h.0
