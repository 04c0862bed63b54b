-- Which changes a history keeps, and how many, by the records that made it.
use Rattle.std.proofs.Common.{◌≡◌, ℕ, zero, suc, ◌+◌, ◌<◌, ◌≤◌, ◌==◌, ◌&&◌, ◌||◌, max, Bool, true, false, if◌then◌else◌, List, [], ◌∷◌, ◌++◌, length, map, Some, arith, refl, inl, inr, sym, subst, ap, ◌∙◌, append_assoc}
use Rattle.std.specs.Prelude.{nat_le, nat_lt, fold}
use Rattle.std.specs.List.{All, slice_get, list_any, filter}
use Rattle.std.proofs.lemmas.List.Elements.{All-nil}
use Rattle.std.proofs.lemmas.Bool.{cases_eq, and_parts, eq-eqb, ne_eqb, lt-leb, ltb-true}
use Rattle.std.proofs.lemmas.List.{append-nil}
use Rattle.std.proofs.lemmas.List.Folds.{list_any-append}
use Rattle.std.proofs.lemmas.List.Sums.{sum_by-cons}
use Rattle.ris_base.specs.Limits.{vertex_limit}
use Rattle.ris_base.specs.Lines.{floor}
use Rattle.ris_base.specs.Records.{is_entry, lines_of}
use Rattle.ris_base.specs.declared.lines.Line.{Line}
use Rattle.ris_base.specs.declared.lines.Line.TheVariants as line
use Rattle.ris_base.specs.declared.records.Change.{Change}
use Rattle.ris_base.specs.declared.records.Record.{Record}
use Rattle.ris_base.specs.declared.records.Start.{Start}
use Rattle.ris_history.specs.Applied.{opened, opened_table, entered, entered_table, trimmed_table, raised, applied_line, applied}
use Rattle.ris_history.specs.Chains.{HeldView, ChainView, pushed, any_up_to, trimmed_from, trimmed, kept_of, number, chain_at, grown, change_held, is_taken, bound_of, appended, with_changes, kept_in}
use Rattle.ris_history.specs.HistoryView.{HistoryView}
use Rattle.ris_history.specs.Parts.{changes_of, is_of, placed_held, unreplaced_of}
use Rattle.ris_history.specs.Standing.{Placed, placed_from, replaces, unreplaced, kept_count}
use Rattle.ris_history.proofs.ChainLemmas.{any-wider, chain_at-grown, length-grown, chain_at-appended, chain_at-appended_other, length-appended}
use Rattle.ris_history.proofs.ChangeLemmas.{number-same, bound_of-at}
use Rattle.ris_history.proofs.DueLemmas.{trimmed-untouched}
use Rattle.ris_history.proofs.TableLaws.{chain_at-trimmed, AreTaken}
use Rattle.ris_history.proofs.ValueLaws.{floor-applied, analyses-applied, AllTaken}
use Rattle.ris_history.proofs.FloorLaws.{Tells, AllWithin, tells, tells-line, tells-opened, floor-within}
use Rattle.ris_history.proofs.TableLemmas.{IsBare, bare-with_forests, bare-later, bare-first}

-- Trimming twice, and with more items

-- a chain with some items more
abbrev pub with_items : ChainView → List HeldView → ChainView
with_items c items = record c { later = c.later ++ items }

trimmed_from-items : (g : ℕ) (first : HeldView) (later items : List HeldView)
    → trimmed g (with_items (record { first = first; later = later }) items) ≡ trimmed g (with_items (trimmed_from g first later) items)
trimmed_from-items g first [] items = refl
trimmed_from-items g first (s ∷ ss) items = go (any_up_to g (s ∷ ss)) refl (trimmed_from-items g s ss items)
  where
    go : (t : Bool) → any_up_to g (s ∷ ss) ≡ t → trimmed g (with_items (record { first = s; later = ss }) items) ≡ trimmed g (with_items (trimmed_from g s ss) items)
        → trimmed g (with_items (record { first = first; later = s ∷ ss }) items)
        ≡ trimmed g (with_items (if t then trimmed_from g s ss else record { first = first; later = s ∷ ss }) items)
    go false e more = refl
    go true e more =
        let any : any_up_to g (s ∷ (ss ++ items)) ≡ true = list_any-append (λ held. nat_le held.place g) (s ∷ ss) items ∙ ap (λ b. b || any_up_to g items) e in
        (rw any refl) ∙ more

-- trimmed chains with the same items more are trimmed alike
trimmed-items : (g : ℕ) (c d : ChainView) (items : List HeldView) → trimmed g c ≡ trimmed g d → trimmed g (with_items c items) ≡ trimmed g (with_items d items)
trimmed-items g c d items h =
    trimmed_from-items g c.first c.later items ∙ ap (λ (x : ChainView). trimmed g (with_items x items)) h ∙ sym (trimmed_from-items g d.first d.later items)

trimmed_from-again : (f g : ℕ) (first : HeldView) (later : List HeldView) → f ≤ g → trimmed g (trimmed_from f first later) ≡ trimmed_from g first later
trimmed_from-again f g first [] h = refl
trimmed_from-again f g first (s ∷ ss) h = go (any_up_to f (s ∷ ss)) refl (trimmed_from-again f g s ss h)
  where
    go : (t : Bool) → any_up_to f (s ∷ ss) ≡ t → trimmed g (trimmed_from f s ss) ≡ trimmed_from g s ss
        → trimmed g (if t then trimmed_from f s ss else record { first = first; later = s ∷ ss }) ≡ trimmed_from g first (s ∷ ss)
    go false e more = refl
    go true e more = let any = any-wider f g (s ∷ ss) h e in more ∙ sym (rw any refl)

any-trimmed_from : (f : ℕ) (first : HeldView) (later : List HeldView) → any_up_to f (trimmed_from f first later).later ≡ false
any-trimmed_from f first [] = refl
any-trimmed_from f first (s ∷ ss) = go (any_up_to f (s ∷ ss)) refl (any-trimmed_from f s ss)
  where
    go : (t : Bool) → any_up_to f (s ∷ ss) ≡ t → any_up_to f (trimmed_from f s ss).later ≡ false
        → any_up_to f (if t then trimmed_from f s ss else record { first = first; later = s ∷ ss }).later ≡ false
    go false e more = e
    go true e more = more

-- The items of one chain

-- the items of chain number k among placed changes
abbrev pub items_of : ℕ → ℕ → List Placed → List HeldView
items_of n k [] = []
items_of n k (p ∷ ps) = if is_taken n p.change && number n p.change.analysis p.change.vertex == k then change_held p.place p.change ∷ items_of n k ps else items_of n k ps

items_of-append : (n k : ℕ) (ps qs : List Placed) → items_of n k (ps ++ qs) ≡ items_of n k ps ++ items_of n k qs
items_of-append n k [] qs = refl
items_of-append n k (p ∷ ps) qs = go (is_taken n p.change && number n p.change.analysis p.change.vertex == k) (items_of-append n k ps qs)
  where
    go : (b : Bool) → items_of n k (ps ++ qs) ≡ items_of n k ps ++ items_of n k qs
        → (if b then change_held p.place p.change ∷ items_of n k (ps ++ qs) else items_of n k (ps ++ qs))
        ≡ (if b then change_held p.place p.change ∷ items_of n k ps else items_of n k ps) ++ items_of n k qs
    go true more = ap (λ (xs : List HeldView). change_held p.place p.change ∷ xs) more
    go false more = more

-- the changes of one entry, at its place
abbrev pub placed_at : ℕ → List Change → List Placed
placed_at place ds = map (λ c. record { place = place; change = c }) ds

-- a chain of one item more with further items
pushed-items : (c : ChainView) (held : HeldView) (items : List HeldView) → with_items (pushed held c) items ≡ with_items c (held ∷ items)
pushed-items c held items = ap (λ (xs : List HeldView). let x : ChainView = record c { later = xs } in x) (append_assoc c.later (held ∷ []) items)

chain_at-next : (n p : ℕ) (cs : List ChainView) (d : Change) (ds : List Change) (k : ℕ)
    → ((i : ℕ) (e : Change) → slice_get (d ∷ ds) i ≡ Some e → is_taken n e ≡ true → number n e.analysis e.vertex < length cs)
    → ((xs : List ChainView) → ((i : ℕ) (e : Change) → slice_get ds i ≡ Some e → is_taken n e ≡ true → number n e.analysis e.vertex < length xs)
    → chain_at (with_changes n p xs ds) k ≡ with_items (chain_at xs k) (items_of n k (placed_at p ds)))
    → chain_at (with_changes n p cs (d ∷ ds)) k ≡ with_items (chain_at cs k) (items_of n k (placed_at p (d ∷ ds)))
chain_at-next n p cs d ds k room more = go (is_taken n d) refl
  where
    go : (t : Bool) → is_taken n d ≡ t → chain_at (with_changes n p (if t then appended (number n d.analysis d.vertex) (change_held p d) cs else cs) ds) k
        ≡ with_items (chain_at cs k) (if t && number n d.analysis d.vertex == k then change_held p d ∷ items_of n k (placed_at p ds) else items_of n k (placed_at p ds))
    go false e = more cs (λ i x at taken. room (suc i) x at taken)
    go true e =
        let within = room zero d refl e in
        let size = length-appended (number n d.analysis d.vertex) (change_held p d) cs in
        let rest = more (appended (number n d.analysis d.vertex) (change_held p d) cs) (λ i x at taken. let low = room (suc i) x at taken in omega arith) in
        elim (cases_eq (number n d.analysis d.vertex) k) [
          | inl own ↦
              let yes_own = eq-eqb (number n d.analysis d.vertex) k own in
              let here : chain_at (appended (number n d.analysis d.vertex) (change_held p d) cs) k ≡ pushed (change_held p d) (chain_at cs k) =
              subst (λ i. chain_at (appended (number n d.analysis d.vertex) (change_held p d) cs) i ≡ pushed (change_held p d) (chain_at cs i)) own
              (chain_at-appended (number n d.analysis d.vertex) (change_held p d) cs within) in
              rest ∙ ap (λ (c : ChainView). with_items c (items_of n k (placed_at p ds))) here
              ∙ pushed-items (chain_at cs k) (change_held p d) (items_of n k (placed_at p ds)) ∙ (rw yes_own refl)
          | inr other ↦
              let differs = ne_eqb (number n d.analysis d.vertex) k other in
              rest ∙ ap (λ (c : ChainView). with_items c (items_of n k (placed_at p ds))) (chain_at-appended_other (number n d.analysis d.vertex) (change_held p d) cs k (λ f. other (sym f)))
              ∙ (rw differs refl)
        ]

chain_at-with_changes : (n p : ℕ) (cs : List ChainView) (ds : List Change) (k : ℕ)
    → ((i : ℕ) (d : Change) → slice_get ds i ≡ Some d → is_taken n d ≡ true → number n d.analysis d.vertex < length cs)
    → chain_at (with_changes n p cs ds) k ≡ with_items (chain_at cs k) (items_of n k (placed_at p ds))
chain_at-with_changes n p cs [] k room = ap (λ (items : List HeldView). let c : ChainView = record (chain_at cs k) { later = items } in c) (sym (append-nil (chain_at cs k).later))
chain_at-with_changes n p cs (d ∷ ds) k room =
    chain_at-next n p cs d ds k room (λ xs more. chain_at-with_changes n p xs ds k more)

-- What a line leaves of one chain

no-more : (c : ChainView) → with_items c [] ≡ c
no-more c = ap (λ (xs : List HeldView). let x : ChainView = record c { later = xs } in x) (append-nil c.later)

no-items : (c : ChainView) (n k p : ℕ) (ds : List Change) → ds ≡ [] → with_items c (items_of n k (placed_at p ds)) ≡ c
no-items c n k p ds e = ap (λ (xs : List Change). with_items c (items_of n k (placed_at p xs))) e ∙ no-more c

-- a mark or a leave has no changes
abbrev pub IsOwn : Line → List Change → Type 0
IsOwn (line.Entry e) ds = Unit {0}
IsOwn (line.Mark s q u) ds = ds ≡ []
IsOwn (line.Leave s q) ds = ds ≡ []

abbrev pub AllOwn : List Record → Type 0
AllOwn [] = Unit {0}
AllOwn (r ∷ rs) = IsOwn r.line r.changes × AllOwn rs

-- the chains of a table, trimmed from f on, are this one
Trims : ℕ → HistoryView → ChainView → Type 0
Trims k h c = (g : ℕ) → h.floor ≤ g → trimmed g (chain_at h.table.chains k) ≡ trimmed g c

-- how many entries stand up to and with a line
abbrev pub front_with : ℕ → Line → ℕ
front_with n l = n + (if is_entry l then 1 else 0)

trims-line : (h : HistoryView) (k : ℕ) (c : ChainView) (l : Line) (ds : List Change) → IsOwn l ds → Trims k h c
    → Trims k (applied_line h l ds) (with_items c (items_of h.table.analyses k (placed_at (front_with h.table.front l) ds))) × ((applied_line h l ds).table.front ≡ front_with h.table.front l)
unfolding Trims applied_line entered raised entered_table trimmed_table
trims-line h k c (line.Entry e) ds own t = (
  λ g low.
      let n = h.table.analyses in
      let m = bound_of n ds in
      let p = h.table.front + 1 in
      let size = length-grown (bound_of h.table.analyses ds) h.table.chains in
      ap (trimmed g) (chain_at-with_changes n p (grown m h.table.chains) ds k (λ i d at taken. let at_i = bound_of-at n ds i d at taken in omega arith)
      ∙ ap (λ (x : ChainView). with_items x (items_of n k (placed_at p ds))) (chain_at-grown m h.table.chains k))
      ∙ trimmed-items g (chain_at h.table.chains k) c (items_of n k (placed_at p ds)) (t g low),
  refl,
)
trims-line h k c (line.Mark s q u) ds own t = (trims-raised (applied_line h (line.Mark s q u) ds).floor (floor-applied h (line.Mark s q u) ds), omega arith)
  where
    trims-raised : (f : ℕ) → h.floor ≤ f → (g : ℕ) → f ≤ g → trimmed g (chain_at (map (trimmed f) h.table.chains) k) ≡ trimmed g (with_items c (items_of h.table.analyses k (placed_at (front_with h.table.front (line.Mark s q u)) ds)))
    trims-raised f up g low =
        ap (trimmed g) (chain_at-trimmed f h.table.chains k) ∙ trimmed_from-again f g (chain_at h.table.chains k).first (chain_at h.table.chains k).later low ∙ t g (omega arith)
        ∙ ap (trimmed g) (sym (no-items c h.table.analyses k (front_with h.table.front (line.Mark s q u)) ds own))
trims-line h k c (line.Leave s q) ds own t = (trims-raised (applied_line h (line.Leave s q) ds).floor (floor-applied h (line.Leave s q) ds), omega arith)
  where
    trims-raised : (f : ℕ) → h.floor ≤ f → (g : ℕ) → f ≤ g → trimmed g (chain_at (map (trimmed f) h.table.chains) k) ≡ trimmed g (with_items c (items_of h.table.analyses k (placed_at (front_with h.table.front (line.Leave s q)) ds)))
    trims-raised f up g low =
        ap (trimmed g) (chain_at-trimmed f h.table.chains k) ∙ trimmed_from-again f g (chain_at h.table.chains k).first (chain_at h.table.chains k).later low ∙ t g (omega arith)
        ∙ ap (trimmed g) (sym (no-items c h.table.analyses k (front_with h.table.front (line.Leave s q)) ds own))

trims-fold : (h : HistoryView) (k : ℕ) (c : ChainView) (rs : List Record) → AllOwn rs → Trims k h c
    → Trims k (fold applied h rs) (with_items c (items_of h.table.analyses k (placed_from h.table.front rs)))
trims-fold h k c [] own t = subst (Trims k h) (sym (no-more c)) t
trims-fold h k c (r ∷ rs) own t =
    let n = h.table.analyses in
    let p = front_with h.table.front r.line in
    let mine = items_of n k (placed_at p r.changes) in
    let step = trims-line h k c r.line r.changes own.0 t in
    let rest = trims-fold (applied h r) k (with_items c mine) rs own.1 step.0 in
    let same : with_items (with_items c mine) (items_of (applied h r).table.analyses k (placed_from (applied h r).table.front rs)) ≡ with_items c (items_of n k (placed_from h.table.front (r ∷ rs))) =
    ap (λ m. with_items (with_items c mine) (items_of m k (placed_from (applied h r).table.front rs))) (analyses-applied h r.line r.changes)
    ∙ ap (λ m. with_items (with_items c mine) (items_of n k (placed_from m rs))) step.1
    ∙ ap (λ (xs : List HeldView). let x : ChainView = record c { later = xs } in x)
    (append_assoc c.later mine (items_of n k (placed_from p rs)) ∙ ap (λ (xs : List HeldView). c.later ++ xs) (sym (items_of-append n k (placed_at p r.changes) (placed_from p rs)))) in
    subst (Trims k (fold applied (applied h r) rs)) same rest

-- Chains that are trimmed already

-- no chain has a change behind its first item at a place up to the floor
AreTrimmed : HistoryView → Type 0
AreTrimmed h = (k : ℕ) → any_up_to h.floor (chain_at h.table.chains k).later ≡ false

any-items : (f n k p : ℕ) (ds : List Change) → f < p → any_up_to f (items_of n k (placed_at p ds)) ≡ false
any-items f n k p [] h = refl
any-items f n k p (d ∷ ds) h = go (is_taken n d && number n d.analysis d.vertex == k) (any-items f n k p ds h)
  where
    go : (b : Bool) → any_up_to f (items_of n k (placed_at p ds)) ≡ false
        → any_up_to f (if b then change_held p d ∷ items_of n k (placed_at p ds) else items_of n k (placed_at p ds)) ≡ false
    go true more = let past = lt-leb p f h in rw past more
    go false more = more

trimmed-line : (h : HistoryView) (l : Line) (ds : List Change) → h.floor ≤ h.table.front → AreTrimmed h → AreTrimmed (applied_line h l ds)
unfolding AreTrimmed applied_line entered raised entered_table trimmed_table
trimmed-line h (line.Entry e) ds low t k =
    let n = h.table.analyses in
    let m = bound_of n ds in
    let p = h.table.front + 1 in
    let size = length-grown (bound_of h.table.analyses ds) h.table.chains in
    let here = chain_at-with_changes n p (grown m h.table.chains) ds k (λ i d at taken. let at_i = bound_of-at n ds i d at taken in omega arith)
    ∙ ap (λ (x : ChainView). with_items x (items_of n k (placed_at p ds))) (chain_at-grown m h.table.chains k) in
    ap (λ (x : ChainView). any_up_to h.floor x.later) here ∙ list_any-append (λ held. nat_le held.place h.floor) (chain_at h.table.chains k).later (items_of n k (placed_at p ds))
    ∙ ap (λ b. b || any_up_to h.floor (items_of n k (placed_at p ds))) (t k) ∙ any-items h.floor n k p ds (omega arith)
trimmed-line h (line.Mark s q u) ds low t k =
    let f = (applied_line h (line.Mark s q u) ds).floor in
    ap (λ (x : ChainView). any_up_to f x.later) (chain_at-trimmed f h.table.chains k) ∙ any-trimmed_from f (chain_at h.table.chains k).first (chain_at h.table.chains k).later
trimmed-line h (line.Leave s q) ds low t k =
    let f = (applied_line h (line.Leave s q) ds).floor in
    ap (λ (x : ChainView). any_up_to f x.later) (chain_at-trimmed f h.table.chains k) ∙ any-trimmed_from f (chain_at h.table.chains k).first (chain_at h.table.chains k).later

trimmed-fold : (h : HistoryView) (n : ℕ) (xs : List Line) (rs : List Record) → Tells h n xs → AllWithin xs rs → AreTrimmed h → AreTrimmed (fold applied h rs)
trimmed-fold h n xs [] tells within t = t
trimmed-fold h n xs (r ∷ rs) tells within t =
    let low = floor-within n xs tells.marks in
    let f = tells.front in
    let g = tells.floor in
    trimmed-fold (applied h r) n (xs ++ r.line ∷ []) rs (tells-line h n xs r.line r.changes tells within.0) within.1
    (trimmed-line h r.line r.changes (omega arith) t)

-- Counting

-- the items of a chain that no later one replaces, in order
abbrev pub left_in : ℕ → List HeldView → List HeldView
left_in f [] = []
left_in f (s ∷ ss) = if any_up_to f ss then left_in f ss else s ∷ left_in f ss

-- an item that is a change
abbrev pub change_in : HeldView → List HeldView
change_in s = if s.place == 0 then [] else s ∷ []

-- each item is a change
abbrev pub ArePast : List HeldView → Type 0
ArePast [] = Unit {0}
ArePast (s ∷ ss) = (0 < s.place) × ArePast ss

left_in-all : (f : ℕ) (items : List HeldView) → any_up_to f items ≡ false → left_in f items ≡ items
left_in-all f [] h = refl
left_in-all f (s ∷ ss) h =
    let rest : any_up_to f ss ≡ false = or_false_right (nat_le s.place f) (any_up_to f ss) h in
    let more = left_in-all f ss rest in
    rw rest (ap (λ (xs : List HeldView). s ∷ xs) more)
  where
    or_false_right : (a b : Bool) → (a || b) ≡ false → b ≡ false
    or_false_right true b e = absurd (cc)
    or_false_right false b e = e

changes-trimmed_from : (f : ℕ) (first : HeldView) (items : List HeldView) → ArePast items
    → changes_of (trimmed_from f first items) ≡ (if any_up_to f items then [] else change_in first) ++ left_in f items
changes-trimmed_from f first [] past = refl
changes-trimmed_from f first (s ∷ ss) past = go (any_up_to f (s ∷ ss)) refl (changes-trimmed_from f s ss past.1) (left_in-all f (s ∷ ss))
  where
    next : (b : Bool) → (if b then [] else change_in s) ++ left_in f ss ≡ (if b then left_in f ss else s ∷ left_in f ss)
    next true = refl
    next false = let some = ne_eqb s.place 0 (λ e. let p = past.0 in omega arith) in rw some refl

    go : (t : Bool) → any_up_to f (s ∷ ss) ≡ t → changes_of (trimmed_from f s ss) ≡ (if any_up_to f ss then [] else change_in s) ++ left_in f ss
        → (any_up_to f (s ∷ ss) ≡ false → left_in f (s ∷ ss) ≡ s ∷ ss)
        → changes_of (if t then trimmed_from f s ss else record { first = first; later = s ∷ ss }) ≡ (if t then [] else change_in first) ++ left_in f (s ∷ ss)
    go false e more all = ap (λ (xs : List HeldView). change_in first ++ xs) (sym (all e))
    go true e more all = more ∙ next (any_up_to f ss)

-- each placed change is taken, and stands behind place 0
abbrev pub AllCounted : ℕ → List Placed → Type 0
AllCounted n [] = Unit {0}
AllCounted n (p ∷ ps) = (is_taken n p.change ≡ true) × (0 < p.place) × AllCounted n ps

items-past : (n k : ℕ) (ps : List Placed) → AllCounted n ps → ArePast (items_of n k ps)
items-past n k [] h = tt
items-past n k (p ∷ ps) h = go (is_taken n p.change && number n p.change.analysis p.change.vertex == k) (items-past n k ps h.2)
  where
    go : (b : Bool) → ArePast (items_of n k ps) → ArePast (if b then change_held p.place p.change ∷ items_of n k ps else items_of n k ps)
    go true more = (h.1, more)
    go false more = more

-- a later item of its chain replaces a change exactly where a later change of its vertex and analysis does
any-replaces : (f n : ℕ) (p : Placed) (qs : List Placed) → is_taken n p.change ≡ true → AllCounted n qs
    → any_up_to f (items_of n (number n p.change.analysis p.change.vertex) qs) ≡ list_any (replaces f p) qs
any-replaces f n p [] own h = refl
any-replaces f n p (q ∷ qs) own h = go (any-replaces f n p qs own h.2)
  where
    differs : ¬ (number n q.change.analysis q.change.vertex ≡ number n p.change.analysis p.change.vertex) → replaces f p q ≡ false
    differs other = elim (cases_eq p.change.analysis q.change.analysis) [
      | inl one ↦ elim (cases_eq p.change.vertex q.change.vertex) [
        | inl two ↦ absurd (other (ap (λ b. number n b q.change.vertex) (sym one) ∙ ap (number n p.change.analysis) (sym two)))
        | inr two ↦ (let a = eq-eqb p.change.analysis q.change.analysis one in let b = ne_eqb p.change.vertex q.change.vertex two in rw (a, b) refl)
      ]
      | inr one ↦ (let a = ne_eqb p.change.analysis q.change.analysis one in rw a refl)
    ]

    below : (c : Change) → is_taken n c ≡ true → c.analysis < n
    below c e = ltb-true c.analysis n (and_parts (nat_lt c.analysis n) (nat_lt c.vertex vertex_limit) e).0

    go : any_up_to f (items_of n (number n p.change.analysis p.change.vertex) qs) ≡ list_any (replaces f p) qs
        → any_up_to f (items_of n (number n p.change.analysis p.change.vertex) (q ∷ qs)) ≡ list_any (replaces f p) (q ∷ qs)
    go more = elim (cases_eq (number n q.change.analysis q.change.vertex) (number n p.change.analysis p.change.vertex)) [
      | inl same ↦
          let ends = number-same n q.change.analysis q.change.vertex p.change.analysis p.change.vertex (below q.change h.0) (below p.change own) same in
          let at = eq-eqb (number n q.change.analysis q.change.vertex) (number n p.change.analysis p.change.vertex) same in
          let one = eq-eqb p.change.analysis q.change.analysis (sym ends.0) in
          let two = eq-eqb p.change.vertex q.change.vertex (sym ends.1) in
          let taken = h.0 in
          rw (taken, at, one, two) (ap (λ c. nat_le q.place f || c) more)
      | inr other ↦
          let apart = ne_eqb (number n q.change.analysis q.change.vertex) (number n p.change.analysis p.change.vertex) other in
          let taken = h.0 in
          rw (taken, apart) (more ∙ ap (λ c. c || list_any (replaces f p) qs) (sym (differs other)))
    ]

-- A sum over the numbers of chains

abbrev pub totals : ℕ → (ℕ → ℕ) → ℕ
totals zero g = 0
totals (suc m) g = g 0 + totals m (λ k. g (suc k))

totals-same : (m : ℕ) (g h : ℕ → ℕ) → ((k : ℕ) → g k ≡ h k) → totals m g ≡ totals m h
totals-same zero g h e = refl
totals-same (suc m) g h e = let a = e 0 in let b = totals-same m (λ k. g (suc k)) (λ k. h (suc k)) (λ k. e (suc k)) in omega arith

totals-zero : (m : ℕ) (g : ℕ → ℕ) → ((k : ℕ) → g k ≡ 0) → totals m g ≡ 0
totals-zero zero g e = refl
totals-zero (suc m) g e = let a = e 0 in let b = totals-zero m (λ k. g (suc k)) (λ k. e (suc k)) in omega arith

-- one number more or less
totals-one : (m j a : ℕ) (g h : ℕ → ℕ) → j < m → h j ≡ a + g j → ((k : ℕ) → ¬ (k ≡ j) → h k ≡ g k) → totals m h ≡ a + totals m g
totals-one zero j a g h l e same = absurd (omega arith)
totals-one (suc m) zero a g h l e same =
    let rest = totals-same m (λ k. h (suc k)) (λ k. g (suc k)) (λ k. same (suc k) (λ x. omega arith)) in omega arith
totals-one (suc m) (suc j) a g h l e same =
    let rest = totals-one m j a (λ k. g (suc k)) (λ k. h (suc k)) (omega arith) e (λ k x. same (suc k) (λ y. x (let z : k ≡ j = omega arith in z))) in
    let first = same 0 (λ x. omega arith) in omega arith

-- the sum over a list is that over its numbers
kept-totals : (cs : List ChainView) (m : ℕ) → length cs ≤ m → kept_in cs ≡ totals m (λ k. kept_of (chain_at cs k))
kept-totals [] m l = sym (totals-zero m (λ k. kept_of (chain_at [] k)) (λ k. refl))
kept-totals (c ∷ cs) zero l = absurd (omega arith)
kept-totals (c ∷ cs) (suc m) l = let more = kept-totals cs m (omega arith) in let sum = sum_by-cons kept_of c cs in omega arith

-- no placed change is of a chain number of m or more
abbrev pub reach : ℕ → List Placed → ℕ
reach n [] = 0
reach n (p ∷ ps) = max (number n p.change.analysis p.change.vertex + 1) (reach n ps)

-- a list, or one with one item more
length-either : {X : Type 0} (b : Bool) (x : X) (xs : List X) → length (if b then xs else x ∷ xs) ≡ (if b then 0 else 1) + length xs
length-either true x xs = omega arith
length-either false x xs = omega arith

-- the changes that no later one replaces are those that none of their chain replaces
totals-unreplaced : (f n m : ℕ) (ps : List Placed) → AllCounted n ps → reach n ps ≤ m → totals m (λ k. length (left_in f (items_of n k ps))) ≡ length (unreplaced f ps)
totals-unreplaced f n m [] h l = totals-zero m (λ k. 0) (λ k. refl)
totals-unreplaced f n m (p ∷ ps) h l =
    let j = number n p.change.analysis p.change.vertex in
    let more = totals-unreplaced f n m ps h.2 (omega arith) in
    let step = totals-one m j (if list_any (replaces f p) ps then 0 else 1) (λ k. length (left_in f (items_of n k ps))) (λ k. length (left_in f (items_of n k (p ∷ ps)))) (omega arith) (own h) (other h) in
    let one = length-either (list_any (replaces f p) ps) p (unreplaced f ps) in
    omega arith
  where
    own : AllCounted n (p ∷ ps)
        → length (left_in f (items_of n (number n p.change.analysis p.change.vertex) (p ∷ ps))) ≡ (if list_any (replaces f p) ps then 0 else 1) + length (left_in f (items_of n (number n p.change.analysis p.change.vertex) ps))
    own h =
        let taken = h.0 in
        let same = eq-eqb (number n p.change.analysis p.change.vertex) (number n p.change.analysis p.change.vertex) refl in
        let any = any-replaces f n p ps h.0 h.2 in
        let left = left_in f (items_of n (number n p.change.analysis p.change.vertex) ps) in
        rw (taken, same) (length-either (any_up_to f (items_of n (number n p.change.analysis p.change.vertex) ps)) (change_held p.place p.change) left ∙ ap (λ b. (if b then 0 else 1) + length left) any)

    other : AllCounted n (p ∷ ps) → (k : ℕ) → ¬ (k ≡ number n p.change.analysis p.change.vertex) → length (left_in f (items_of n k (p ∷ ps))) ≡ length (left_in f (items_of n k ps))
    other h k differs =
        let taken = h.0 in
        let apart = ne_eqb (number n p.change.analysis p.change.vertex) k (λ e. differs (sym e)) in
        rw (taken, apart) refl

-- The changes of one chain

-- the items of a chain that no later one replaces are those of the changes of its vertex and analysis that no later one replaces
pub left-unreplaced : (f n a x : ℕ) (ps : List Placed) → a < n → AllCounted n ps → left_in f (items_of n (number n a x) ps) ≡ map placed_held (filter (is_of a x) (unreplaced f ps))
left-unreplaced f n a x [] an h = refl
left-unreplaced f n a x (p ∷ ps) an h = go (left-unreplaced f n a x ps an h.2)
  where
    below : p.change.analysis < n
    below = ltb-true p.change.analysis n (and_parts (nat_lt p.change.analysis n) (nat_lt p.change.vertex vertex_limit) h.0).0

    -- a change that is chosen
    chosen : (b c : Bool) (xs : List HeldView) (us : List Placed) → b ≡ c → is_of a x p ≡ true → xs ≡ map placed_held (filter (is_of a x) us)
        → (if b then xs else placed_held p ∷ xs) ≡ map placed_held (filter (is_of a x) (if c then us else p ∷ us))
    chosen true true xs us e own more = more
    chosen true false xs us e own more = absurd (cc)
    chosen false true xs us e own more = absurd (cc)
    chosen false false xs us e own more = rw own (ap (λ (ys : List HeldView). placed_held p ∷ ys) more)

    -- one that isn't
    passed : (c : Bool) (xs : List HeldView) (us : List Placed) → is_of a x p ≡ false → xs ≡ map placed_held (filter (is_of a x) us)
        → xs ≡ map placed_held (filter (is_of a x) (if c then us else p ∷ us))
    passed true xs us other more = more
    passed false xs us other more = rw other more

    differs : ¬ (number n p.change.analysis p.change.vertex ≡ number n a x) → is_of a x p ≡ false
    differs other = elim (cases_eq p.change.analysis a) [
      | inl one ↦ elim (cases_eq p.change.vertex x) [
        | inl two ↦ absurd (other (ap (λ b. number n b p.change.vertex) one ∙ ap (number n a) two))
        | inr two ↦ (let e = eq-eqb p.change.analysis a one in let d = ne_eqb p.change.vertex x two in rw (e, d) refl)
      ]
      | inr one ↦ (let e = ne_eqb p.change.analysis a one in rw e refl)
    ]

    go : left_in f (items_of n (number n a x) ps) ≡ map placed_held (filter (is_of a x) (unreplaced f ps))
        → left_in f (items_of n (number n a x) (p ∷ ps)) ≡ map placed_held (filter (is_of a x) (unreplaced f (p ∷ ps)))
    go more = elim (cases_eq (number n p.change.analysis p.change.vertex) (number n a x)) [
      | inl same ↦
          let ends = number-same n p.change.analysis p.change.vertex a x below an same in
          let at = eq-eqb (number n p.change.analysis p.change.vertex) (number n a x) same in
          let taken = h.0 in
          let one = eq-eqb p.change.analysis a ends.0 in
          let two = eq-eqb p.change.vertex x ends.1 in
          let own : is_of a x p ≡ true = rw (one, two) refl in
          let any : any_up_to f (items_of n (number n a x) ps) ≡ list_any (replaces f p) ps =
          ap (λ k. any_up_to f (items_of n k ps)) (sym same) ∙ any-replaces f n p ps h.0 h.2 in
          let all = chosen (any_up_to f (items_of n (number n a x) ps)) (list_any (replaces f p) ps) (left_in f (items_of n (number n a x) ps)) (unreplaced f ps) any own more in
          rw (taken, at) all
      | inr apart ↦
          let taken = h.0 in
          let no = ne_eqb (number n p.change.analysis p.change.vertex) (number n a x) apart in
          let all = passed (list_any (replaces f p) ps) (left_in f (items_of n (number n a x) ps)) (unreplaced f ps) (differs apart) more in
          rw (taken, no) all
    ]

-- The law

counted-at : (n p : ℕ) (ds : List Change) → 0 < p → AreTaken n ds → AllCounted n (placed_at p ds)
counted-at n p [] some taken = tt
counted-at n p (d ∷ ds) some taken = (taken zero d refl, some, counted-at n p ds some (λ k e at. taken (suc k) e at))

counted-line : (n k : ℕ) (l : Line) (ds : List Change) → IsOwn l ds → AreTaken n ds → AllCounted n (placed_at (front_with k l) ds)
counted-line n k (line.Entry e) ds own taken = counted-at n (k + 1) ds (omega arith) taken
counted-line n k (line.Mark s q u) ds own taken = subst (λ (xs : List Change). AllCounted n (placed_at (k + 0) xs)) (sym own) tt
counted-line n k (line.Leave s q) ds own taken = subst (λ (xs : List Change). AllCounted n (placed_at (k + 0) xs)) (sym own) tt

AllCounted-append : (n : ℕ) (ps qs : List Placed) → AllCounted n ps → AllCounted n qs → AllCounted n (ps ++ qs)
AllCounted-append n [] qs a b = b
AllCounted-append n (p ∷ ps) qs a b = (a.0, a.1, AllCounted-append n ps qs a.2 b)

counted-placed : (n k : ℕ) (rs : List Record) → AllOwn rs → AllTaken n rs → AllCounted n (placed_from k rs)
counted-placed n k [] own taken = tt
counted-placed n k (r ∷ rs) own taken =
    AllCounted-append n (placed_at (front_with k r.line) r.changes) (placed_from (front_with k r.line) rs) (counted-line n k r.line r.changes own.0 taken.0)
    (counted-placed n (front_with k r.line) rs own.1 taken.1)

-- what a chain holds that began with what there was at place 0
changes-bare : (f : ℕ) (c : ChainView) (items : List HeldView) → c.later ≡ [] → c.first.place ≡ 0 → ArePast items → changes_of (trimmed f (with_items c items)) ≡ left_in f items
changes-bare f c items none zero_first past =
    ap (λ (xs : List HeldView). changes_of (trimmed_from f c.first (xs ++ items))) none ∙ changes-trimmed_from f c.first items past
    ∙ ap (λ (xs : List HeldView). xs ++ left_in f items) (nothing (any_up_to f items) (change_in c.first) (let e = eq-eqb c.first.place 0 zero_first in rw e refl))
  where
    nothing : (b : Bool) (xs : List HeldView) → xs ≡ [] → (if b then [] else xs) ≡ []
    nothing true xs e = refl
    nothing false xs e = e

-- as many changes are kept as a chain holds
kept-changes : (c : ChainView) → kept_of c ≡ length (changes_of c)
kept-changes c = go (c.first.place == 0)
  where
    go : (b : Bool) → length c.later + (if b then 0 else 1) ≡ length ((if b then [] else c.first ∷ []) ++ c.later)
    go true = omega arith
    go false = omega arith

-- each chain holds exactly the items of its changes that no later one replaces
held : (start : Start) (records : List Record) (k : ℕ) → AllOwn records → AllTaken (length start.forests) records → AllWithin [] records
    → changes_of (chain_at (fold applied (opened start) records).table.chains k)
    ≡ left_in (fold applied (opened start) records).floor (items_of (length start.forests) k (placed_from 0 records))
unfolding opened opened_table AreTrimmed Trims
held start records k own taken within =
    let n = length start.forests in
    let h = fold applied (opened start) records in
    let f = h.floor in
    let ps = placed_from 0 records in
    let first = (opened start).table.chains in
    let bare : All IsBare (opened start).table.chains = bare-with_forests n 0 start.forests [] (All-nil IsBare) in
    let trim = trimmed-fold (opened start) start.sessions [] records (tells-opened start) within (λ j. ap (any_up_to 0) (bare-later first j bare)) in
    ap changes_of (sym (trimmed-untouched f (chain_at h.table.chains k) (trim k))
    ∙ trims-fold (opened start) k (chain_at first k) records own (λ g low. refl) f (omega arith))
    ∙ changes-bare f (chain_at first k) (items_of n k ps) (bare-later first k bare) (bare-first first k bare) (items-past n k ps (counted-placed n 0 records own taken))

-- each chain holds exactly the changes of its vertex and analysis that no later one replaces
pub held-unreplaced : (start : Start) (records : List Record) (a x : ℕ) → a < length start.forests → AllOwn records → AllTaken (length start.forests) records → AllWithin [] records
    → changes_of (chain_at (fold applied (opened start) records).table.chains (number (length start.forests) a x)) ≡ unreplaced_of start.sessions records a x
held-unreplaced start records a x an own taken within =
    let n = length start.forests in
    let ps = placed_from 0 records in
    held start records (number n a x) own taken within
    ∙ ap (λ f. left_in f (items_of n (number n a x) ps)) (tells start records within).floor
    ∙ left-unreplaced (floor start.sessions (lines_of records)) n a x ps an (counted-placed n 0 records own taken)

-- the history keeps as many changes as no later one replaces
pub kept : (start : Start) (records : List Record) → AllOwn records → AllTaken (length start.forests) records → AllWithin [] records
    → kept_in (fold applied (opened start) records).table.chains ≡ kept_count start.sessions records
kept start records own taken within =
    let n = length start.forests in
    let h = fold applied (opened start) records in
    let cs = h.table.chains in
    let f = h.floor in
    let ps = placed_from 0 records in
    let m = length cs + reach n ps in
    let each : (k : ℕ) → kept_of (chain_at cs k) ≡ length (left_in f (items_of n k ps)) = λ k. kept-changes (chain_at cs k) ∙ ap length (held start records k own taken within) in
    kept-totals cs m (omega arith) ∙ totals-same m (λ k. kept_of (chain_at cs k)) (λ k. length (left_in f (items_of n k ps))) each
    ∙ totals-unreplaced f n m ps (counted-placed n 0 records own taken) (omega arith) ∙ ap (λ g. length (unreplaced g ps)) (tells start records within).floor
