-- The front, the sessions and the floor of a history, by the records that made it.
use Rattle.std.proofs.Common.{◌≡◌, ℕ, zero, suc, ◌+◌, ◌<◌, ◌≤◌, ◌==◌, ◌||◌, max, min, Bool, true, false, if◌then◌else◌, List, [], ◌∷◌, ◌++◌, length, get_or, set, take, Option, Some, None, unwrap_or, arith, refl, inl, inr, sym, subst, ap, ◌∙◌, append_assoc}
use Rattle.std.specs.Prelude.{fold, replicate}
use Rattle.std.specs.List.{slice_get}
use Rattle.std.specs.Option.{option_map_or}
use Rattle.std.proofs.lemmas.Bool.{cases_eq, eq-eqb, ne_eqb}
use Rattle.std.proofs.lemmas.List.{length-set, length-replicate, append-nil}
use Rattle.ris_base.specs.Lines.{front, mark, has_left, least_mark, front_at_leave, floor}
use Rattle.ris_base.specs.Records.{lines_of}
use Rattle.ris_base.specs.declared.lines.Entry.{Entry}
use Rattle.ris_base.specs.declared.lines.Line.{Line}
use Rattle.ris_base.specs.declared.lines.Line.TheVariants as line
use Rattle.ris_base.specs.declared.records.Change.{Change}
use Rattle.ris_base.specs.declared.records.Record.{Record}
use Rattle.ris_base.specs.declared.records.Start.{Start}
use Rattle.ris_base.proofs.FloorLemmas.{AreMarksWithin, mark-append, has_left-append, front_at_leave-append, front_at_leave-within, least_mark-within, floor-rises}
use Rattle.ris_base.proofs.LineLemmas.{front-append, take-all}
use Rattle.ris_history.specs.Applied.{opened, opened_table, entered, entered_table, trimmed_table, raised, applied_line, applied, new_session, with_mark, with_leave, least_with, least_of}
use Rattle.ris_history.specs.HistoryView.{HistoryView}
use Rattle.ris_history.specs.declared.sessions.Session.{Session}
use Rattle.ris_history.proofs.ChangeLemmas.{take-next, fold-push}

-- Sessions

-- what lines say of a session
abbrev pub told : List Line → ℕ → Session
told xs s = record { mark = mark xs s; has_left = has_left xs s }

-- the first n sessions are as the lines say
pub record AreTold (n : ℕ) (xs : List Line) (sessions : List Session) : Type 0 where
  pub size : length sessions ≡ n
  pub each : (s : ℕ) → s < n → slice_get sessions s ≡ Some (told xs s)

least-first : (n : ℕ) (xs : List Line) (sessions : List Session) → AreTold n xs sessions → (m : ℕ) → m ≤ n → fold least_with None (take m sessions) ≡ least_mark m xs
unfolding least_mark
least-first n xs sessions h zero l = refl
least-first n xs sessions h (suc m) l =
    let more = least-first n xs sessions h m (omega arith) in
    let one : m + 1 ≡ suc m = omega arith in
    ap (λ k. fold least_with None (take k sessions)) (sym one) ∙ ap (fold least_with None) (take-next sessions m (told xs m) (h.each m (omega arith)))
    ∙ fold-push least_with None (take m sessions) (told xs m) ∙ ap (λ (o : Option ℕ). least_with o (told xs m)) more

-- their least mark is that of the lines
least-told : (n : ℕ) (xs : List Line) (sessions : List Session) → AreTold n xs sessions → least_of sessions ≡ least_mark n xs
least-told n xs sessions h = ap (fold least_with None) (sym (take-all sessions) ∙ ap (λ k. take k sessions) h.size) ∙ least-first n xs sessions h n (omega arith)

-- What a history says of lines

pub record Tells (h : HistoryView) (n : ℕ) (xs : List Line) : Type 0 where
  pub front : h.table.front ≡ front xs
  pub sessions : AreTold n xs h.sessions
  pub left_at : h.left_at ≡ front_at_leave 0 0 xs
  pub floor : h.floor ≡ floor n xs
  pub marks : AreMarksWithin xs

-- a mark is at most the number of entries before it
abbrev pub IsMarkWithin : List Line → Line → Type 0
IsMarkWithin xs (line.Entry e) = Unit {0}
IsMarkWithin xs (line.Mark s q u) = u ≤ front xs
IsMarkWithin xs (line.Leave s q) = Unit {0}

slice_get-set : {X : Type 0} (xs : List X) (k : ℕ) (x d : X) → slice_get xs k ≡ Some d → slice_get (set xs k x) k ≡ Some x
slice_get-set [] k x d h = absurd (cc)
slice_get-set (y ∷ xs) zero x d h = refl
slice_get-set (y ∷ xs) (suc k) x d h = slice_get-set xs k x d h

slice_get-set_other : {X : Type 0} (xs : List X) (k j : ℕ) (x : X) → ¬ (j ≡ k) → slice_get (set xs k x) j ≡ slice_get xs j
slice_get-set_other [] k j x h = refl
slice_get-set_other (y ∷ xs) zero zero x h = absurd (h refl)
slice_get-set_other (y ∷ xs) zero (suc j) x h = refl
slice_get-set_other (y ∷ xs) (suc k) zero x h = refl
slice_get-set_other (y ∷ xs) (suc k) (suc j) x h = slice_get-set_other xs k j x (λ e. h (ap suc e))

get_or-some : {X : Type 0} (xs : List X) (k : ℕ) (x d : X) → slice_get xs k ≡ Some x → get_or xs k d ≡ x
get_or-some [] k x d h = absurd (cc)
get_or-some (y ∷ xs) zero x d h = cc
get_or-some (y ∷ xs) (suc k) x d h = get_or-some xs k x d h

same-session : (m k : ℕ) (b c : Bool) → m ≡ k → b ≡ c → (let s : Session = record { mark = m; has_left = b } in s) ≡ record { mark = k; has_left = c }
same-session m k b c e f = cc

or-none : (b : Bool) → b ≡ (b || false)
or-none true = refl
or-none false = refl

or-some : (b : Bool) → true ≡ (b || true)
or-some true = refl
or-some false = refl

-- a line that is neither a mark nor a leave of a session says nothing of it
told-still : (xs : List Line) (l : Line) (s : ℕ) → mark (l ∷ []) s ≡ 0 → has_left (l ∷ []) s ≡ false → told xs s ≡ told (xs ++ l ∷ []) s
told-still xs l s m b =
    let marks = mark-append xs (l ∷ []) s in
    same-session (mark xs s) (mark (xs ++ l ∷ []) s) (has_left xs s) (has_left (xs ++ l ∷ []) s) (omega arith)
    (or-none (has_left xs s) ∙ sym (has_left-append xs (l ∷ []) s ∙ ap (λ c. has_left xs s || c) b))

told-entry : (n : ℕ) (xs : List Line) (sessions : List Session) (e : Entry) → AreTold n xs sessions → AreTold n (xs ++ line.Entry e ∷ []) sessions
unfolding mark has_left
told-entry n xs sessions e h = record { size = h.size; each = λ s l. h.each s l ∙ ap (λ (x : Session). Some x) (told-still xs (line.Entry e) s refl refl) }

told-mark : (n : ℕ) (xs : List Line) (sessions : List Session) (s q u : ℕ) → AreTold n xs sessions → AreTold n (xs ++ line.Mark s q u ∷ []) (with_mark s u sessions)
unfolding mark has_left
told-mark n xs sessions s q u h = record {
  size = length-set sessions s (record (get_or sessions s new_session) { mark = max u (get_or sessions s new_session).mark }) ∙ h.size;
  each = λ j l. elim (cases_eq j s) [
    | inl e ↦ subst (λ i. slice_get (with_mark s u sessions) i ≡ Some (told (xs ++ line.Mark s q u ∷ []) i)) (sym e) (own (h.each s (omega arith)))
    | inr e ↦
        let other = ne_eqb s j (λ f. e (sym f)) in
        slice_get-set_other sessions s j (record (get_or sessions s new_session) { mark = max u (get_or sessions s new_session).mark }) e ∙ h.each j l
        ∙ ap (λ (x : Session). Some x) (told-still xs (line.Mark s q u) j (rw other refl) refl)
  ];
}
  where
    own : slice_get sessions s ≡ Some (told xs s) → slice_get (with_mark s u sessions) s ≡ Some (told (xs ++ line.Mark s q u ∷ []) s)
    own at =
        let was = get_or-some sessions s (told xs s) new_session at in
        let here = eq-eqb s s refl in
        let one : mark (line.Mark s q u ∷ []) s ≡ max u 0 = rw here refl in
        let all = mark-append xs (line.Mark s q u ∷ []) s in
        slice_get-set sessions s _ (told xs s) at
        ∙ ap (λ (x : Session). Some (let y : Session = record x { mark = max u x.mark } in y)) was
        ∙ ap (λ (x : Session). Some x)
        (same-session (max u (mark xs s)) (mark (xs ++ line.Mark s q u ∷ []) s) (has_left xs s) (has_left (xs ++ line.Mark s q u ∷ []) s) (omega arith)
        (or-none (has_left xs s) ∙ sym (has_left-append xs (line.Mark s q u ∷ []) s)))

told-leave : (n : ℕ) (xs : List Line) (sessions : List Session) (s q : ℕ) → AreTold n xs sessions → AreTold n (xs ++ line.Leave s q ∷ []) (with_leave s sessions)
unfolding mark has_left
told-leave n xs sessions s q h = record {
  size = length-set sessions s (record (get_or sessions s new_session) { has_left = true }) ∙ h.size;
  each = λ j l. elim (cases_eq j s) [
    | inl e ↦ subst (λ i. slice_get (with_leave s sessions) i ≡ Some (told (xs ++ line.Leave s q ∷ []) i)) (sym e) (own (h.each s (omega arith)))
    | inr e ↦
        let other = ne_eqb s j (λ f. e (sym f)) in
        slice_get-set_other sessions s j (record (get_or sessions s new_session) { has_left = true }) e ∙ h.each j l
        ∙ ap (λ (x : Session). Some x) (told-still xs (line.Leave s q) j refl (rw other refl))
  ];
}
  where
    own : slice_get sessions s ≡ Some (told xs s) → slice_get (with_leave s sessions) s ≡ Some (told (xs ++ line.Leave s q ∷ []) s)
    own at =
        let was = get_or-some sessions s (told xs s) new_session at in
        let here = eq-eqb s s refl in
        let gone : has_left (line.Leave s q ∷ []) s ≡ true = rw here refl in
        let all = mark-append xs (line.Leave s q ∷ []) s in
        slice_get-set sessions s _ (told xs s) at
        ∙ ap (λ (x : Session). Some (let y : Session = record x { has_left = true } in y)) was
        ∙ ap (λ (x : Session). Some x)
        (same-session (mark xs s) (mark (xs ++ line.Leave s q ∷ []) s) true (has_left (xs ++ line.Leave s q ∷ []) s) (omega arith)
        (or-some (has_left xs s) ∙ sym (has_left-append xs (line.Leave s q ∷ []) s ∙ ap (λ c. has_left xs s || c) gone)))

-- the least mark of the sessions, or the front at the last leave, is the floor
floor-told : (n : ℕ) (ys : List Line) (sessions : List Session) (left : ℕ) → AreTold n ys sessions → left ≡ front_at_leave 0 0 ys
    → unwrap_or (least_of sessions) left ≡ floor n ys
floor-told n ys sessions left h e = ap (λ (o : Option ℕ). unwrap_or o left) (least-told n ys sessions h) ∙ ap (unwrap_or (least_mark n ys)) e

-- the number of entries before the last leave, with one line more
left_at-line : (xs : List Line) (l : Line) → front_at_leave 0 0 (xs ++ l ∷ []) ≡ front_at_leave (0 + front xs) (front_at_leave 0 0 xs) (l ∷ [])
left_at-line xs l = front_at_leave-append 0 0 xs (l ∷ [])

-- the floor is at most the front
pub floor-within : (n : ℕ) (xs : List Line) → AreMarksWithin xs → floor n xs ≤ front xs
floor-within n xs marks = go (least_mark n xs) refl
  where
    go : (o : Option ℕ) → least_mark n xs ≡ o → unwrap_or o (front_at_leave 0 0 xs) ≤ front xs
    go None e = let w = front_at_leave-within 0 0 xs (omega arith) in omega arith
    go (Some a) e = least_mark-within n xs a marks e

-- what one mark marks
mark-one : (s q u k : ℕ) → mark (line.Mark s q u ∷ []) k ≤ u
unfolding mark
mark-one s q u k = go (s == k)
  where
    go : (b : Bool) → (if b then max u 0 else 0) ≤ u
    go true = omega arith
    go false = omega arith

-- one line more
pub tells-line : (h : HistoryView) (n : ℕ) (xs : List Line) (l : Line) (ds : List Change) → Tells h n xs → IsMarkWithin xs l → Tells (applied_line h l ds) n (xs ++ l ∷ [])
unfolding applied_line entered raised entered_table trimmed_table front_at_leave mark front
tells-line h n xs (line.Entry e) ds t w =
    let sessions = told-entry n xs h.sessions e t.sessions in
    let left : h.left_at ≡ front_at_leave 0 0 (xs ++ line.Entry e ∷ []) = t.left_at ∙ sym (left_at-line xs (line.Entry e)) in
    let one = front-append xs (line.Entry e ∷ []) in
    let f = t.front in
    record {
      front = omega arith;
      sessions = sessions;
      left_at = left;
      floor = t.floor ∙ sym (floor-told n xs h.sessions h.left_at t.sessions t.left_at) ∙ floor-told n (xs ++ line.Entry e ∷ []) h.sessions h.left_at sessions left;
      marks = λ s. let m = mark-append xs (line.Entry e ∷ []) s in let b = t.marks s in omega arith;
    }
tells-line h n xs (line.Mark s q u) ds t w =
    let sessions = told-mark n xs h.sessions s q u t.sessions in
    let left : h.left_at ≡ front_at_leave 0 0 (xs ++ line.Mark s q u ∷ []) = t.left_at ∙ sym (left_at-line xs (line.Mark s q u)) in
    let one = front-append xs (line.Mark s q u ∷ []) in
    let f = t.front in
    let now = floor-told n (xs ++ line.Mark s q u ∷ []) (with_mark s u h.sessions) h.left_at sessions left in
    let rises = floor-rises n xs (line.Mark s q u ∷ []) t.marks in
    let was = t.floor in
    record {
      front = omega arith;
      sessions = sessions;
      left_at = left;
      floor = omega arith;
      marks = λ k. let m = mark-append xs (line.Mark s q u ∷ []) k in let b = t.marks k in let c = mark-one s q u k in omega arith;
    }
tells-line h n xs (line.Leave s q) ds t w =
    let sessions = told-leave n xs h.sessions s q t.sessions in
    let left : h.table.front ≡ front_at_leave 0 0 (xs ++ line.Leave s q ∷ []) = (let e = left_at-line xs (line.Leave s q) in let f = t.front in omega arith) in
    let one = front-append xs (line.Leave s q ∷ []) in
    let f = t.front in
    let now = floor-told n (xs ++ line.Leave s q ∷ []) (with_leave s h.sessions) h.table.front sessions left in
    let rises = floor-rises n xs (line.Leave s q ∷ []) t.marks in
    let was = t.floor in
    record {
      front = omega arith;
      sessions = sessions;
      left_at = left;
      floor = omega arith;
      marks = λ k. let m = mark-append xs (line.Leave s q ∷ []) k in let b = t.marks k in omega arith;
    }

-- each mark is at most the number of entries before it, where these lines stand in front
abbrev pub AllWithin : List Line → List Record → Type 0
AllWithin xs [] = Unit {0}
AllWithin xs (r ∷ rs) = IsMarkWithin xs r.line × AllWithin (xs ++ r.line ∷ []) rs

tells-fold : (h : HistoryView) (n : ℕ) (xs : List Line) (rs : List Record) → Tells h n xs → AllWithin xs rs → Tells (fold applied h rs) n (xs ++ lines_of rs)
tells-fold h n xs [] t w = subst (Tells h n) (sym (append-nil xs)) t
tells-fold h n xs (r ∷ rs) t w =
    subst (Tells (fold applied (applied h r) rs) n) (append_assoc xs (r.line ∷ []) (lines_of rs))
    (tells-fold (applied h r) n (xs ++ r.line ∷ []) rs (tells-line h n xs r.line r.changes t w.0) w.1)

slice_get-replicate : (n s : ℕ) → s < n → slice_get (replicate n new_session) s ≡ Some new_session
slice_get-replicate zero s h = absurd (omega arith)
slice_get-replicate (suc n) zero h = refl
slice_get-replicate (suc n) (suc s) h = slice_get-replicate n s (omega arith)

-- a least mark of 0, or none
IsZeroOrNone : Option ℕ → Type 0
IsZeroOrNone None = Unit {0}
IsZeroOrNone (Some m) = m ≡ 0

least-none : (n : ℕ) → IsZeroOrNone (least_mark n [])
unfolding least_mark mark has_left IsZeroOrNone
least-none zero = tt
least-none (suc n) = go (least_mark n []) (least-none n)
  where
    go : (o : Option ℕ) → IsZeroOrNone o → option_map_or (min 0) o 0 ≡ 0
    go None h = refl
    go (Some m) h = omega arith

pub tells-opened : (start : Start) → Tells (opened start) start.sessions []
unfolding opened opened_table IsZeroOrNone front mark has_left front_at_leave
tells-opened start =
    let sessions : AreTold start.sessions [] (replicate start.sessions new_session) = record {
      size = length-replicate start.sessions new_session;
      each = λ s l. slice_get-replicate start.sessions s l;
    } in
    record {
      front = refl;
      sessions = sessions;
      left_at = refl;
      floor = none (least_mark start.sessions []) (least-none start.sessions);
      marks = λ s. omega arith;
    }
  where
    none : (o : Option ℕ) → IsZeroOrNone o → 0 ≡ unwrap_or o 0
    none None h = refl
    none (Some m) h = sym h

-- the law: the front, the sessions and the floor are those of the lines
pub tells : (start : Start) (records : List Record) → AllWithin [] records → Tells (fold applied (opened start) records) start.sessions (lines_of records)
tells start records w = tells-fold (opened start) start.sessions [] records (tells-opened start) w
