-- What holds of a list of lines and of the graph after it, where lines are joined.
use Rattle.std.proofs.Common.{◌≡◌, ℕ, zero, suc, ◌+◌, ◌<◌, ◌≤◌, List, [], ◌∷◌, ◌++◌, length, take, drop, Some, None, refl, sym, ◌∙◌, ap, arith, add-one}
use Rattle.std.specs.List.{slice_get}
use Rattle.std.proofs.lemmas.List.{take-append-drop}
use Rattle.ris_base.specs.Lines.{front, entry_at}
use Rattle.ris_base.specs.Requests.{after, entered}
use Rattle.ris_base.specs.declared.graphs.PlainGraph.{PlainGraph}
use Rattle.ris_base.specs.declared.lines.Entry.{Entry}
use Rattle.ris_base.specs.declared.lines.Line.{Line}
use Rattle.ris_base.specs.declared.lines.Line.TheVariants as line

-- The front

pub front-append : (xs ys : List Line) → front (xs ++ ys) ≡ front xs + front ys
unfolding front
front-append [] ys = omega arith
front-append (line.Entry e ∷ xs) ys = let more = front-append xs ys in omega arith
front-append (line.Mark s q u ∷ xs) ys = front-append xs ys
front-append (line.Leave s q ∷ xs) ys = front-append xs ys

pub front-entry : (xs : List Line) (e : Entry) → front (xs ++ line.Entry e ∷ []) ≡ front xs + 1
unfolding front
front-entry xs e = front-append xs (line.Entry e ∷ [])

pub front-mark : (xs : List Line) (s q u : ℕ) → front (xs ++ line.Mark s q u ∷ []) ≡ front xs
unfolding front
front-mark xs s q u = let e = front-append xs (line.Mark s q u ∷ []) in omega arith

pub front-leave : (xs : List Line) (s q : ℕ) → front (xs ++ line.Leave s q ∷ []) ≡ front xs
unfolding front
front-leave xs s q = let e = front-append xs (line.Leave s q ∷ []) in omega arith

-- the front of fewer first lines is no greater
pub front-take : (xs : List Line) (n m : ℕ) → n ≤ m → front (take n xs) ≤ front (take m xs)
unfolding front
front-take [] zero m h = omega arith
front-take [] (suc n) zero h = omega arith
front-take [] (suc n) (suc m) h = omega arith
front-take (x ∷ xs) zero m h = omega arith
front-take (x ∷ xs) (suc n) zero h = absurd (omega arith)
front-take (line.Entry e ∷ xs) (suc n) (suc m) h = let more = front-take xs n m (omega arith) in omega arith
front-take (line.Mark s q u ∷ xs) (suc n) (suc m) h = front-take xs n m (omega arith)
front-take (line.Leave s q ∷ xs) (suc n) (suc m) h = front-take xs n m (omega arith)

pub take-all : {X : Type 0} (xs : List X) → take (length xs) xs ≡ xs
take-all [] = refl
take-all (x ∷ xs) = ap (λ ys. x ∷ ys) (take-all xs)

pub front-within : (lines : List Line) (k : ℕ) → k ≤ length lines → front (take k lines) ≤ front lines
front-within lines k within = let a = front-take lines k (length lines) within in let b = ap front (take-all lines) in omega arith

-- Entries

-- the entry behind some lines has the next place
pub entry_at-here : (xs : List Line) (e : Entry) (ys : List Line) → entry_at (xs ++ line.Entry e ∷ ys) (front xs + 1) ≡ Some e
unfolding front entry_at
entry_at-here [] e ys = refl
entry_at-here (line.Entry d ∷ xs) e ys = let more = entry_at-here xs e ys in rw add-one (rw add-one (rw add-one at more))
entry_at-here (line.Mark s q u ∷ xs) e ys = let more = entry_at-here xs e ys in rw add-one (rw add-one at more)
entry_at-here (line.Leave s q ∷ xs) e ys = let more = entry_at-here xs e ys in rw add-one (rw add-one at more)

pub entry_at-zero : (lines : List Line) → entry_at lines 0 ≡ None
unfolding entry_at
entry_at-zero [] = refl
entry_at-zero (l ∷ lines) = refl

-- no entry has a place past the front
pub entry_at-past : (xs : List Line) (v : ℕ) → front xs < v → entry_at xs v ≡ None
unfolding front entry_at
entry_at-past [] zero h = refl
entry_at-past [] (suc v) h = refl
entry_at-past (line.Entry e ∷ xs) zero h = refl
entry_at-past (line.Entry e ∷ xs) (suc zero) h = absurd (omega arith)
entry_at-past (line.Entry e ∷ xs) (suc (suc v)) h = entry_at-past xs (suc v) (omega arith)
entry_at-past (line.Mark s q u ∷ xs) zero h = refl
entry_at-past (line.Mark s q u ∷ xs) (suc v) h = entry_at-past xs (suc v) h
entry_at-past (line.Leave s q ∷ xs) zero h = refl
entry_at-past (line.Leave s q ∷ xs) (suc v) h = entry_at-past xs (suc v) h

-- lines behind the front change no entry of a place up to it
pub entry_at-append : (xs ys : List Line) (v : ℕ) → v ≤ front xs → entry_at (xs ++ ys) v ≡ entry_at xs v
unfolding front entry_at
entry_at-append xs ys zero h = entry_at-zero (xs ++ ys) ∙ sym (entry_at-zero xs)
entry_at-append [] ys (suc v) h = absurd (omega arith)
entry_at-append (line.Entry e ∷ xs) ys (suc zero) h = refl
entry_at-append (line.Entry e ∷ xs) ys (suc (suc v)) h = entry_at-append xs ys (suc v) (omega arith)
entry_at-append (line.Mark s q u ∷ xs) ys (suc v) h = entry_at-append xs ys (suc v) h
entry_at-append (line.Leave s q ∷ xs) ys (suc v) h = entry_at-append xs ys (suc v) h

-- the entry at a place stands somewhere in the list
pub entry-index : (lines : List Line) (v : ℕ) (e : Entry) → entry_at lines v ≡ Some e
    → (i : ℕ) × (slice_get lines i ≡ Some (line.Entry e)) × (front (take (suc i) lines) ≡ v)
unfolding entry_at front
entry-index [] zero e h = absurd (cc)
entry-index (l ∷ lines) zero e h = absurd (cc)
entry-index [] (suc v) e h = absurd (cc)
entry-index (line.Entry d ∷ lines) (suc zero) e h = let same : d ≡ e = cc in (0, ap (λ (x : Entry). Some (line.Entry x)) same, refl)
entry-index (line.Entry d ∷ lines) (suc (suc v)) e h = let more = entry-index lines (suc v) e h in (suc more.0, more.1, (let x = more.2 in omega arith))
entry-index (line.Mark s q u ∷ lines) (suc v) e h = let more = entry-index lines (suc v) e h in (suc more.0, more.1, more.2)
entry-index (line.Leave s q ∷ lines) (suc v) e h = let more = entry-index lines (suc v) e h in (suc more.0, more.1, more.2)

-- The graph

-- the graph of place 0 is the first one
pub after-zero : (g : PlainGraph) (xs : List Line) → after g xs 0 ≡ g
unfolding after
after-zero g [] = refl
after-zero g (line.Entry e ∷ xs) = refl
after-zero g (line.Mark s q u ∷ xs) = after-zero g xs
after-zero g (line.Leave s q ∷ xs) = after-zero g xs

-- the graph after one more entry
pub after-entry : (g : PlainGraph) (xs : List Line) (e : Entry)
    → after g (xs ++ line.Entry e ∷ []) (front xs + 1) ≡ entered (after g xs (front xs)) e.parts
unfolding front after
after-entry g [] e = refl
after-entry g (line.Entry d ∷ xs) e = let more = after-entry (entered g d.parts) xs e in rw (add-one, add-one) (rw add-one at more)
after-entry g (line.Mark s q u ∷ xs) e = after-entry g xs e
after-entry g (line.Leave s q ∷ xs) e = after-entry g xs e

-- lines behind the front change no graph of a place up to it
pub after-append : (g : PlainGraph) (xs ys : List Line) (v : ℕ) → v ≤ front xs → after g (xs ++ ys) v ≡ after g xs v
unfolding front after
after-append g xs ys zero h = after-zero g (xs ++ ys) ∙ sym (after-zero g xs)
after-append g [] ys (suc v) h = absurd (omega arith)
after-append g (line.Entry e ∷ xs) ys (suc v) h = after-append (entered g e.parts) xs ys v (omega arith)
after-append g (line.Mark s q u ∷ xs) ys (suc v) h = after-append g xs ys (suc v) h
after-append g (line.Leave s q ∷ xs) ys (suc v) h = after-append g xs ys (suc v) h

-- the graph of a place up to the front of first lines is the same on these
pub after-take : (g : PlainGraph) (lines : List Line) (k v : ℕ) → v ≤ front (take k lines) → after g (take k lines) v ≡ after g lines v
after-take g lines k v h =
    sym (after-append g (take k lines) (drop k lines) v h) ∙ ap (λ (x : List Line). after g x v) (take-append-drop k lines)
