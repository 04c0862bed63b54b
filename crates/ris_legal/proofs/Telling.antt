-- One reply more keeps an account.
use Rattle.std.proofs.Common.{◌≡◌, ◌≢◌, ℕ, zero, suc, ◌+◌, ◌-◌, ◌<◌, ◌≤◌, ◌⊎◌, ◌==◌, if◌then◌else◌, inl, inr, Bool, true, false, List, [], ◌∷◌, ◌++◌, length, take, Option, Some, None, IfSome, unwrap_or, arith, refl, sym, subst, ap, ◌∙◌, length-append, eq-eqb}
use Rattle.std.specs.List.{slice_get}
use Rattle.std.specs.Option.{IsSomeAnd}
use Rattle.std.proofs.lemmas.Bool.{cases_lt, cases_eq, eqb-true}
use Rattle.std.proofs.lemmas.List.{take-append-le, append-nil}
use Rattle.std.proofs.lemmas.Option.{slice_get_within}
use Rattle.ris_base.specs.Answers.{Setup, Answers, Print, Shown, AgreesWith, IsOfForest, question_of}
use Rattle.ris_base.specs.Forest.{Forest}
use Rattle.ris_base.specs.Legal.{Asked}
use Rattle.ris_base.specs.Lines.{front, entry_at, session_of}
use Rattle.ris_base.specs.Machine.{Known, last_placed}
use Rattle.ris_base.specs.Replies.{number}
use Rattle.ris_base.specs.Requests.{after, entered, refusal_of}
use Rattle.ris_base.specs.declared.commands.Command.{Command}
use Rattle.ris_base.specs.declared.commands.Command.TheVariants as command
use Rattle.ris_base.specs.declared.graphs.PlainGraph.{PlainGraph}
use Rattle.ris_base.specs.declared.lines.Entry.{Entry}
use Rattle.ris_base.specs.declared.lines.Line.{Line}
use Rattle.ris_base.specs.declared.lines.Line.TheVariants as line
use Rattle.ris_base.specs.declared.replies.LogLine.{LogLine}
use Rattle.ris_base.specs.declared.replies.LogLine.TheVariants.{Reply, Answer, Denied}
use Rattle.ris_base.specs.declared.replies.Outcome.TheVariants as outcome
use Rattle.ris_base.specs.declared.replies.ReadAnswer.TheVariants as answer
use Rattle.ris_base.specs.declared.replies.ReadRefusal.TheVariants as denial
use Rattle.ris_base.specs.declared.requests.Question.{Question}
use Rattle.ris_base.specs.declared.requests.Question.TheVariants as question
use Rattle.ris_base.proofs.LineLemmas.{front-append, front-entry, front-within, take-all, entry_at-append, entry_at-here, entry_at-past, after-append, after-entry}
use Rattle.ris_legal.specs.Account.{Account, AreRight, made, made_by, Says, SaysRead, IsRight, IsSeated, IsMade, IsAccount, forests_in}
use Rattle.ris_legal.specs.Telling.{with_more, told_more, asked_more, ComeWith, MayTell}
use Rattle.ris_legal.proofs.Accounts.{makes-own}
use Rattle.ris_legal.proofs.Lists.{same_some, at-more, at-cases, at-end, get-before}

-- Lists with one item more

take-before : {X : Type 0} (xs ys : List X) (q : ℕ) → q ≤ length xs → take q (xs ++ ys) ≡ take q xs
take-before xs ys q h = take-append-le q xs ys h

take-whole : {X : Type 0} (xs ys : List X) → take (length xs) (xs ++ ys) ≡ xs
take-whole [] ys = refl
take-whole (x ∷ xs) ys = ap (λ zs. x ∷ zs) (take-whole xs ys)

-- what holds of a longer list of one session and of the lists of all others holds of all
each-with : {X : Type 0} (P : ℕ → List X → Type 0) (lists : ℕ → List X) (s : ℕ) (x : X) → P s (lists s ++ x ∷ []) → ((n : ℕ) → P n (lists n)) → (n : ℕ) → P n (with_more lists s x n)
each-with P lists s x here each n = go (n == s) refl
  where
    go : (b : Bool) → (n == s) ≡ b → P n (if b then lists n ++ x ∷ [] else lists n)
    go true e = let same : n ≡ s = eqb-true n s e in subst (λ (k : ℕ). P k (lists k ++ x ∷ [])) (sym same) here
    go false e = each n

with_more-here : {X : Type 0} (lists : ℕ → List X) (s : ℕ) (x : X) → with_more lists s x s ≡ lists s ++ x ∷ []
with_more-here lists s x = let e = eq-eqb s s refl in rw e refl

with_more-keeps : {X : Type 0} (lists : ℕ → List X) (s : ℕ) (x : X) (n q : ℕ) (y : X) → slice_get (lists n) q ≡ Some y → slice_get (with_more lists s x n) q ≡ Some y
with_more-keeps lists s x n q y h = go (n == s)
  where
    go : (b : Bool) → slice_get (if b then lists n ++ x ∷ [] else lists n) q ≡ Some y
    go true = at-more (lists n) (x ∷ []) q y h
    go false = h

-- More lines and places

-- the same forests at each place up to a front say the same of a read on lines of at most that front
agrees-more : (forests more : ℕ → List Forest) (n : ℕ) → ((v : ℕ) → v ≤ n → more v ≡ forests v) → (p : Print) → p.place ≤ n
    → AgreesWith forests (Some p) → AgreesWith more (Some p)
agrees-more forests more n same p le h =
    subst (λ (xs : List Forest). IsSomeAnd (slice_get xs p.analysis) (λ F. IsOfForest F p.vertex p.shown)) (sym (same p.place le)) h

pub answers-more : (setup : Setup) (known : List Line) (forests more : ℕ → List Forest) → ((v : ℕ) → v ≤ front known → more v ≡ forests v)
    → (q : Question) (r : LogLine) → Answers setup known forests q r → Answers setup known more q r
answers-more setup known forests more same (question.Parent v a x) (Answer (answer.Parent f p parent)) h =
    let printed : Print = record { place = v; analysis = a; vertex = x; shown = Shown.ShownParent parent } in
    record { bare = h.bare; agrees = agrees-more forests more (front known) same printed h.bare.0.made h.agrees }
answers-more setup known forests more same (question.Path v a x) (Answer (answer.Path f p vertices)) h =
    let printed : Print = record { place = v; analysis = a; vertex = x; shown = Shown.ShownPath vertices } in
    record { bare = h.bare; agrees = agrees-more forests more (front known) same printed h.bare.0.made h.agrees }
answers-more setup known forests more same (question.Value v a x) (Answer (answer.Value f p value)) h = record { bare = h.bare; agrees = tt }
answers-more setup known forests more same (question.Modified v a) (Answer (answer.Modified f p vertices)) h = record { bare = h.bare; agrees = tt }
answers-more setup known forests more same question.Current (Answer (answer.Current f low)) h = record { bare = h.bare; agrees = tt }
answers-more setup known forests more same (question.Value v a x) (Denied d) h = record { bare = h.bare; agrees = tt }
answers-more setup known forests more same (question.Parent v a x) (Denied d) h = record { bare = h.bare; agrees = tt }
answers-more setup known forests more same (question.Path v a x) (Denied d) h = record { bare = h.bare; agrees = tt }
answers-more setup known forests more same (question.Modified v a) (Denied d) h = record { bare = h.bare; agrees = tt }
answers-more setup known forests more same question.Current (Denied d) h = record { bare = h.bare; agrees = tt }
answers-more setup known forests more same _ _ h = absurd h.bare

read-more : (setup : Setup) (known : List Line) (forests more : ℕ → List Forest) → ((v : ℕ) → v ≤ front known → more v ≡ forests v)
    → (q : Question) (r : LogLine) → SaysRead setup known forests q r → SaysRead setup known more q r
read-more setup known forests more same q (Denied denial.NoMemory) h = h
read-more setup known forests more same q (Denied (denial.NotYet f)) h = answers-more setup known forests more same q (Denied (denial.NotYet f)) h
read-more setup known forests more same q (Denied (denial.Released f low)) h = answers-more setup known forests more same q (Denied (denial.Released f low)) h
read-more setup known forests more same q (Denied denial.Shut) h = answers-more setup known forests more same q (Denied denial.Shut) h
read-more setup known forests more same q (Reply o) h = answers-more setup known forests more same q (Reply o) h
read-more setup known forests more same q (Answer o) h = answers-more setup known forests more same q (Answer o) h

says-more : (setup : Setup) (known : List Line) (forests more : ℕ → List Forest) → ((v : ℕ) → v ≤ front known → more v ≡ forests v)
    → (c : Command) (o : Option Question) (r : LogLine) → Says setup known forests c o r → Says setup known more c o r
says-more setup known forests more same c (Some q) r h = read-more setup known forests more same q r h
says-more setup known forests more same (command.Change parts) None (Reply (outcome.Placed v)) h = h
says-more setup known forests more same (command.Change parts) None (Reply (outcome.Refused r)) h = h
says-more setup known forests more same (command.Release upto) None (Reply (outcome.Marked n u)) h = h
says-more setup known forests more same (command.Release upto) None (Reply (outcome.NotYet n)) h = h
says-more setup known forests more same (command.Release upto) None (Reply (outcome.Refused r)) h = h
says-more setup known forests more same command.Leave None (Reply (outcome.Left n)) h = h
says-more setup known forests more same command.Leave None (Reply (outcome.Refused r)) h = h
says-more setup known forests more same _ None _ h = absurd h

-- a reply that is right stays so where lines and places are added
right-more : (setup : Setup) (lines rest : List Line) (forests more : ℕ → List Forest) (s last : ℕ) (asked : Asked) (known : Known)
    → ((v : ℕ) → v ≤ front lines → more v ≡ forests v) → IsRight setup lines forests s last asked known → IsRight setup (lines ++ rest) more s last asked known
right-more setup lines rest forests more s last asked known same k =
    let e = take-append-le known.knew lines rest k.within in
    let w = front-within lines known.knew k.within in
    record {
      within = let a = k.within in let l = length-append lines rest in omega arith;
      before = k.before;
      ends = e ∙ k.ends;
      number = subst (λ (t : List Line). IfSome (number known.reply) (λ v. v ≡ front t)) (sym e) k.number;
      says = subst (λ (t : List Line). Says setup t more asked.command (question_of asked.command last) known.reply) (sym e)
          (says-more setup (take known.knew lines) forests more (λ v le. same v (omega arith)) asked.command (question_of asked.command last) known.reply k.says);
    }

seated-more : (setup : Setup) (lines rest : List Line) (forests more : ℕ → List Forest) (s : ℕ) (cs : List Asked) (rs : List Known)
    → ((v : ℕ) → v ≤ front lines → more v ≡ forests v) → IsSeated setup lines forests s cs rs → IsSeated setup (lines ++ rest) more s cs rs
seated-more setup lines rest forests more s cs rs same k = record {
  few = k.few;
  numbered = k.numbered;
  right = λ q asked known here told. right-more setup lines rest forests more s (last_placed 0 (take q rs)) asked known same (k.right q asked known here told);
  rising = k.rising;
}

-- The told session

one-line : (s seq : ℕ) (c : Command) (r : LogLine) → (made_by s seq c r ≡ []) ⊎ ((l : Line) × (made_by s seq c r ≡ l ∷ []))
one-line s seq (command.Change parts) (Reply (outcome.Placed v)) = inr (_, refl)
one-line s seq (command.Release upto) (Reply (outcome.Marked f u)) = inr (_, refl)
one-line s seq command.Leave (Reply (outcome.Left f)) = inr (_, refl)
one-line s seq _ _ = inl refl

not-empty : {X : Type 0} (xs : List X) (x : X) → xs ≡ x ∷ [] → xs ≢ []
not-empty xs x h e = cc

seated-told : (setup : Setup) (a : Account) (s : ℕ) (asked : Asked) (known : Known) (forests : List (List Forest))
    → ((v : ℕ) → v ≤ front a.lines → forests_in (told_more a s asked known forests) v ≡ forests_in a v) → IsAccount setup a → MayTell setup a s asked known forests
    → IsSeated setup (a.lines ++ made s asked known.reply) (forests_in (told_more a s asked known forests)) s (a.commands s) (a.replies s ++ known ∷ [])
seated-told setup a s asked known forests same k m =
    let old = seated-more setup a.lines (made s asked known.reply) (forests_in a) (forests_in (told_more a s asked known forests)) s (a.commands s) (a.replies s) same (k.seats s) in
    record {
      few = let w = slice_get_within (a.commands s) (length (a.replies s)) asked m.next in let l = length-append (a.replies s) (known ∷ []) in omega arith;
      numbered = (k.seats s).numbered;
      right = λ q c r here told. elim (at-end (a.replies s) known q r told) [
        | inl before ↦ subst (λ (rs : List Known). IsRight setup (a.lines ++ made s asked known.reply) (forests_in (told_more a s asked known forests)) s (last_placed 0 rs) c r)
            (sym (take-before (a.replies s) (known ∷ []) q (let l = before.0 in omega arith))) (old.right q c r here before.1)
        | inr last ↦
            let one : asked ≡ c = same_some (slice_get (a.commands s) (length (a.replies s))) asked c m.next (sym (ap (slice_get (a.commands s)) last.0) ∙ here) in
            let lasts : take q (a.replies s ++ known ∷ []) ≡ a.replies s = ap (λ (n : ℕ). take n (a.replies s ++ known ∷ [])) last.0 ∙ take-whole (a.replies s) (known ∷ []) in
            subst (λ (x : Known). IsRight setup (a.lines ++ made s asked known.reply) (forests_in (told_more a s asked known forests)) s (last_placed 0 (take q (a.replies s ++ known ∷ []))) c x) last.1
            (subst (λ (x : Asked). IsRight setup (a.lines ++ made s asked known.reply) (forests_in (told_more a s asked known forests)) s (last_placed 0 (take q (a.replies s ++ known ∷ []))) x known) one
            (subst (λ (rs : List Known). IsRight setup (a.lines ++ made s asked known.reply) (forests_in (told_more a s asked known forests)) s (last_placed 0 rs) asked known) (sym lasts) here-right))
      ];
      rising = λ p q x c y less first here second. elim (at-end (a.replies s) known q y second) [
        | inl before ↦ elim (at-end (a.replies s) known p x first) [
          | inl earlier ↦ (k.seats s).rising p q x c y less earlier.1 here before.1
          | inr last ↦ absurd (let e = last.0 in let l = before.0 in omega arith)
        ]
        | inr last ↦ elim (at-end (a.replies s) known p x first) [
          | inl earlier ↦
              let one : asked ≡ c = same_some (slice_get (a.commands s) (length (a.replies s))) asked c m.next (sym (ap (slice_get (a.commands s)) last.0) ∙ here) in
              subst (λ (z : Known). x.knew + length (made s c z.reply) ≤ z.knew) last.1
              (subst (λ (z : Asked). x.knew + length (made s z known.reply) ≤ known.knew) one (m.earlier p x earlier.1))
          | inr other ↦ absurd (let e = last.0 in let f = other.0 in omega arith)
        ]
      ];
    }
  where
    ends-with : (l : List Line) → made s asked known.reply ≡ l → (made s asked known.reply ≡ []) ⊎ ((x : Line) × (made s asked known.reply ≡ x ∷ []))
        → (before : List Line) × (take known.knew (a.lines ++ made s asked known.reply) ≡ before ++ made s asked known.reply)
    ends-with l e (inl none) = (take known.knew (a.lines ++ made s asked known.reply), sym (ap (λ (x : List Line). take known.knew (a.lines ++ made s asked known.reply) ++ x) none ∙ append-nil (take known.knew (a.lines ++ made s asked known.reply))))
    ends-with l e (inr some) =
        let whole = m.all (not-empty (made s asked known.reply) some.0 some.1) in
        (a.lines, ap (λ (n : ℕ). take n (a.lines ++ made s asked known.reply)) whole ∙ take-all (a.lines ++ made s asked known.reply))

    here-right : IsRight setup (a.lines ++ made s asked known.reply) (forests_in (told_more a s asked known forests)) s (last_placed 0 (a.replies s)) asked known
    here-right =
        let e = ends-with (made s asked known.reply) refl (one-line s asked.seq asked.command known.reply) in
        record { within = m.within; before = e.0; ends = e.1; number = m.number; says = m.says }

-- The lines and the forests

-- the forests that come with no line, and with an entry
come-none : (setup : Setup) (lines : List Line) (l : List Line) (forests : List (List Forest)) → l ≡ [] → ComeWith setup lines l forests → forests ≡ []
come-none setup lines [] forests e h = h
come-none setup lines (l ∷ ls) forests e h = absurd (cc)

-- how many entries come, and so many places
come-count : (setup : Setup) (lines : List Line) (s seq : ℕ) (c : Command) (r : LogLine) (forests : List (List Forest))
    → ComeWith setup lines (made_by s seq c r) forests → length forests ≡ front (made_by s seq c r)
unfolding front
come-count setup lines s seq (command.Change parts) (Reply (outcome.Placed v)) (F ∷ []) h = refl
come-count setup lines s seq (command.Change parts) (Reply (outcome.Placed v)) [] h = absurd h
come-count setup lines s seq (command.Change parts) (Reply (outcome.Placed v)) (F ∷ G ∷ more) h = absurd h
come-count setup lines s seq (command.Release upto) (Reply (outcome.Marked f u)) forests h = ap length h
come-count setup lines s seq command.Leave (Reply (outcome.Left f)) forests h = ap length h
come-count setup lines s seq _ _ forests h = ap length h

-- the forests of a place up to the front stay
forests-stay : (setup : Setup) (a : Account) (s : ℕ) (asked : Asked) (known : Known) (forests : List (List Forest)) → IsAccount setup a
    → (v : ℕ) → v ≤ front a.lines → forests_in (told_more a s asked known forests) v ≡ forests_in a v
forests-stay setup a s asked known forests k v le =
    let n = k.places in ap (λ (o : Option (List Forest)). unwrap_or o []) (get-before a.places forests v (omega arith))

-- no entry stands past the front
past-none : (xs : List Line) (v : ℕ) (e : Entry) → front xs < v → entry_at xs v ≡ Some e → ⊥
past-none xs v e past at = let n = entry_at-past xs v past in let x : Some e ≡ None = sym at ∙ n in cc

-- an entry of a list with one line more that isn't one of the list is that line, at the next place
last-entry : (lines : List Line) (l : Line) (v : ℕ) (e : Entry) → front lines < v → entry_at (lines ++ l ∷ []) v ≡ Some e
    → (l ≡ line.Entry e) × (v ≡ front lines + 1)
unfolding front
last-entry lines (line.Entry d) v e past at = elim (cases_eq v (front lines + 1)) [
  | inl here ↦
      let x = same_some (entry_at (lines ++ line.Entry d ∷ []) v) e d at (ap (entry_at (lines ++ line.Entry d ∷ [])) here ∙ entry_at-here lines d []) in
      (ap line.Entry (sym x), here)
  | inr other ↦ absurd (past-none (lines ++ line.Entry d ∷ []) v e (let f = front-entry lines d in omega arith) at)
]
last-entry lines (line.Mark n q u) v e past at =
    absurd (past-none (lines ++ line.Mark n q u ∷ []) v e (let f = front-append lines (line.Mark n q u ∷ []) in omega arith) at)
last-entry lines (line.Leave n q) v e past at =
    absurd (past-none (lines ++ line.Leave n q ∷ []) v e (let f = front-append lines (line.Leave n q ∷ []) in omega arith) at)

-- what comes with an entry
come-entry : (setup : Setup) (lines : List Line) (e : Entry) (forests : List (List Forest)) → ComeWith setup lines (line.Entry e ∷ []) forests
    → (Fs : List Forest) × (forests ≡ Fs ∷ []) × (refusal_of (after setup.opening lines (front lines)) e.parts ≡ None)
    × AreRight (entered (after setup.opening lines (front lines)) e.parts) setup.specs Fs
come-entry setup lines e [] h = absurd h
come-entry setup lines e (F ∷ []) h = (F, refl, h.0, h.1)
come-entry setup lines e (F ∷ G ∷ more) h = absurd h

-- a place past the front of a list with one line more is that of an entry
last-place : (lines : List Line) (l : Line) (v : ℕ) → front lines < v → v ≤ front (lines ++ l ∷ []) → (e : Entry) × (l ≡ line.Entry e) × (v ≡ front lines + 1)
unfolding front
last-place lines (line.Entry d) v past le = (d, refl, (let f = front-entry lines d in omega arith))
last-place lines (line.Mark n q u) v past le = absurd (let f = front-append lines (line.Mark n q u ∷ []) in omega arith)
last-place lines (line.Leave n q) v past le = absurd (let f = front-append lines (line.Leave n q ∷ []) in omega arith)

accepted-told : (setup : Setup) (a : Account) (l : Line) (forests : List (List Forest)) → IsAccount setup a → ComeWith setup a.lines (l ∷ []) forests
    → (v : ℕ) (e : Entry) → entry_at (a.lines ++ l ∷ []) v ≡ Some e → refusal_of (after setup.opening (a.lines ++ l ∷ []) (v - 1)) e.parts ≡ None
accepted-told setup a l forests k come v e at = elim (cases_lt (front a.lines) v) [
  | inr le ↦
      subst (λ (g : PlainGraph). refusal_of g e.parts ≡ None) (sym (after-append setup.opening a.lines (l ∷ []) (v - 1) (omega arith)))
      (k.accepted v e (sym (entry_at-append a.lines (l ∷ []) v le) ∙ at))
  | inl past ↦
      let last = last-entry a.lines l v e past at in
      let its = come-entry setup a.lines e forests (subst (λ (x : Line). ComeWith setup a.lines (x ∷ []) forests) last.0 come) in
      let place : v - 1 ≡ front a.lines = let w = last.1 in omega arith in
      subst (λ (g : PlainGraph). refusal_of g e.parts ≡ None)
      (sym (ap (after setup.opening (a.lines ++ l ∷ [])) place ∙ after-append setup.opening a.lines (l ∷ []) (front a.lines) (omega arith))) its.2
]

get-last : {X : Type 0} (xs : List X) (x : X) → slice_get (xs ++ x ∷ []) (length xs) ≡ Some x
get-last [] x = refl
get-last (y ∷ xs) x = get-last xs x

-- each place has right forests
forests-told : (setup : Setup) (a : Account) (l : Line) (forests : List (List Forest)) → IsAccount setup a → ComeWith setup a.lines (l ∷ []) forests
    → (v : ℕ) → v ≤ front (a.lines ++ l ∷ []) → AreRight (after setup.opening (a.lines ++ l ∷ []) v) setup.specs (unwrap_or (slice_get (a.places ++ forests) v) [])
forests-told setup a l forests k come v le = elim (cases_lt (front a.lines) v) [
  | inr old ↦
      let n = k.places in
      subst (λ (g : PlainGraph). AreRight g setup.specs (unwrap_or (slice_get (a.places ++ forests) v) [])) (sym (after-append setup.opening a.lines (l ∷ []) v old))
      (subst (λ (o : Option (List Forest)). AreRight (after setup.opening a.lines v) setup.specs (unwrap_or o [])) (sym (get-before a.places forests v (omega arith))) (k.forests v old))
  | inl past ↦
      let last = last-place a.lines l v past le in
      let its = come-entry setup a.lines last.0 forests (subst (λ (x : Line). ComeWith setup a.lines (x ∷ []) forests) last.1 come) in
      let n = k.places in
      let there : v ≡ length a.places = let w = last.2 in omega arith in
      let graph : after setup.opening (a.lines ++ l ∷ []) v ≡ entered (after setup.opening a.lines (front a.lines)) (last.0).parts =
      ap (λ (x : Line). after setup.opening (a.lines ++ x ∷ []) v) last.1 ∙ ap (after setup.opening (a.lines ++ line.Entry last.0 ∷ [])) last.2 ∙ after-entry setup.opening a.lines last.0 in
      let got : slice_get (a.places ++ forests) v ≡ Some its.0 =
      ap (slice_get (a.places ++ forests)) there ∙ ap (λ (x : List (List Forest)). slice_get (a.places ++ x) (length a.places)) its.1 ∙ get-last a.places its.0 in
      subst (λ (g : PlainGraph). AreRight g setup.specs (unwrap_or (slice_get (a.places ++ forests) v) [])) (sym graph)
      (subst (λ (o : Option (List Forest)). AreRight (entered (after setup.opening a.lines (front a.lines)) (last.0).parts) setup.specs (unwrap_or o [])) (sym got) its.3)
]

-- each line is made by one command
lines-told : (setup : Setup) (a : Account) (s : ℕ) (asked : Asked) (known : Known) → IsAccount setup a → slice_get (a.commands s) (length (a.replies s)) ≡ Some asked
    → (made s asked known.reply ≢ [] → known.knew ≡ length (a.lines ++ made s asked known.reply))
    → (i : ℕ) (l : Line) → slice_get (a.lines ++ made s asked known.reply) i ≡ Some l
    → IsMade i l (a.commands (session_of l)) (with_more a.replies s known (session_of l))
lines-told setup a s asked known k next all i l at = elim (at-cases a.lines (made s asked known.reply) i l at) [
  | inl old ↦ (let m = k.lines i l old in record {
    at = m.at;
    asked = m.asked;
    known = m.known;
    here = m.here;
    told = with_more-keeps a.replies s known (session_of l) m.at m.known m.told;
    makes = m.makes;
    knew = m.knew;
  })
  | inr new ↦ of-made new.0 new.1 new.2 (one-line s asked.seq asked.command known.reply)
]
  where
    made-here : (x : Line) → made s asked known.reply ≡ x ∷ [] → x ≡ l → i ≡ length a.lines → IsMade i l (a.commands (session_of l)) (with_more a.replies s known (session_of l))
    made-here x e same place =
        let e2 : made s asked known.reply ≡ l ∷ [] = e ∙ ap (λ (y : Line). y ∷ []) same in
        let own = (makes-own s asked.seq asked.command known.reply l e2).0 in
        let whole = all (not-empty (made s asked known.reply) l e2) in
        let size = length-append a.lines (made s asked known.reply) in
        let one : length (made s asked known.reply) ≡ 1 = ap length e2 in
        record {
          at = length (a.replies s);
          asked = asked;
          known = known;
          here = subst (λ (n : ℕ). slice_get (a.commands n) (length (a.replies s)) ≡ Some asked) (sym own) next;
          told = subst (λ (n : ℕ). slice_get (with_more a.replies s known n) (length (a.replies s)) ≡ Some known) (sym own)
              (ap (λ (xs : List Known). slice_get xs (length (a.replies s))) (with_more-here a.replies s known) ∙ get-last (a.replies s) known);
          makes = subst (λ (n : ℕ). made n asked known.reply ≡ l ∷ []) (sym own) e2;
          knew = omega arith;
        }

    of-made : (n : ℕ) → i ≡ length a.lines + n → slice_get (made s asked known.reply) n ≡ Some l → (made s asked known.reply ≡ []) ⊎ ((x : Line) × (made s asked known.reply ≡ x ∷ []))
        → IsMade i l (a.commands (session_of l)) (with_more a.replies s known (session_of l))
    of-made n place got (inl none) = absurd (let h = ap (λ (xs : List Line). slice_get xs n) (sym none) ∙ got in let w = slice_get_within [] n l h in omega arith)
    of-made zero place got (inr some) =
        let h : slice_get (some.0 ∷ []) zero ≡ Some l = ap (λ (xs : List Line). slice_get xs zero) (sym some.1) ∙ got in
        made-here some.0 some.1 (cc) (omega arith)
    of-made (suc n) place got (inr some) =
        absurd (let h : slice_get (some.0 ∷ []) (suc n) ≡ Some l = ap (λ (xs : List Line). slice_get xs (suc n)) (sym some.1) ∙ got in
        let w = slice_get_within [] n l h in omega arith)

-- One reply more keeps an account

told-seats : (setup : Setup) (a : Account) (s : ℕ) (asked : Asked) (known : Known) (forests : List (List Forest)) → IsAccount setup a → MayTell setup a s asked known forests
    → (n : ℕ) → IsSeated setup (a.lines ++ made s asked known.reply) (forests_in (told_more a s asked known forests)) n (a.commands n) (with_more a.replies s known n)
told-seats setup a s asked known forests k m =
    let same = forests-stay setup a s asked known forests k in
    each-with (λ (n : ℕ) (rs : List Known). IsSeated setup (a.lines ++ made s asked known.reply) (forests_in (told_more a s asked known forests)) n (a.commands n) rs) a.replies s known
    (seated-told setup a s asked known forests same k m)
    (λ n. seated-more setup a.lines (made s asked known.reply) (forests_in a) (forests_in (told_more a s asked known forests)) n (a.commands n) (a.replies n) same (k.seats n))

pub told-kept : (setup : Setup) (a : Account) (s : ℕ) (asked : Asked) (known : Known) (forests : List (List Forest)) → IsAccount setup a
    → MayTell setup a s asked known forests → IsAccount setup (told_more a s asked known forests)
told-kept setup a s asked known forests k m = record {
  seats = told-seats setup a s asked known forests k m;
  lines = lines-told setup a s asked known k m.next m.all;
  accepted = by_line (one-line s asked.seq asked.command known.reply);
  places =
      let n = k.places in
      let f = front-append a.lines (made s asked known.reply) in
      let c = come-count setup a.lines s asked.seq asked.command known.reply forests m.come in
      let l = length-append a.places forests in omega arith;
  forests = forests_by_line (one-line s asked.seq asked.command known.reply);
}
  where
    by_line : (made s asked known.reply ≡ []) ⊎ ((x : Line) × (made s asked known.reply ≡ x ∷ []))
        → (v : ℕ) (e : Entry) → entry_at (a.lines ++ made s asked known.reply) v ≡ Some e → refusal_of (after setup.opening (a.lines ++ made s asked known.reply) (v - 1)) e.parts ≡ None
    by_line (inl none) =
        subst (λ (xs : List Line). (v : ℕ) (e : Entry) → entry_at xs v ≡ Some e → refusal_of (after setup.opening xs (v - 1)) e.parts ≡ None)
        (sym (ap (λ (xs : List Line). a.lines ++ xs) none ∙ append-nil a.lines)) k.accepted
    by_line (inr some) =
        subst (λ (ls : List Line). (v : ℕ) (e : Entry) → entry_at (a.lines ++ ls) v ≡ Some e → refusal_of (after setup.opening (a.lines ++ ls) (v - 1)) e.parts ≡ None)
        (sym some.1) (accepted-told setup a some.0 forests k (subst (λ (ls : List Line). ComeWith setup a.lines ls forests) some.1 m.come))

    forests_by_line : (made s asked known.reply ≡ []) ⊎ ((x : Line) × (made s asked known.reply ≡ x ∷ []))
        → (v : ℕ) → v ≤ front (a.lines ++ made s asked known.reply)
        → AreRight (after setup.opening (a.lines ++ made s asked known.reply) v) setup.specs (unwrap_or (slice_get (a.places ++ forests) v) [])
    forests_by_line (inl none) =
        let empty = come-none setup a.lines (made s asked known.reply) forests none m.come in
        subst (λ (xs : List Line). (v : ℕ) → v ≤ front xs → AreRight (after setup.opening xs v) setup.specs (unwrap_or (slice_get (a.places ++ forests) v) []))
        (sym (ap (λ (xs : List Line). a.lines ++ xs) none ∙ append-nil a.lines))
        (subst (λ (ps : List (List Forest)). (v : ℕ) → v ≤ front a.lines → AreRight (after setup.opening a.lines v) setup.specs (unwrap_or (slice_get ps v) []))
        (sym (ap (λ (ps : List (List Forest)). a.places ++ ps) empty ∙ append-nil a.places)) k.forests)
    forests_by_line (inr some) =
        subst (λ (ls : List Line). (v : ℕ) → v ≤ front (a.lines ++ ls) → AreRight (after setup.opening (a.lines ++ ls) v) setup.specs (unwrap_or (slice_get (a.places ++ forests) v) []))
        (sym some.1) (forests-told setup a some.0 forests k (subst (λ (ls : List Line). ComeWith setup a.lines ls forests) some.1 m.come))

-- One command more keeps an account

seated-asked : (setup : Setup) (lines : List Line) (forests : ℕ → List Forest) (s : ℕ) (cs : List Asked) (rs : List Known) (asked : Asked)
    → IsSeated setup lines forests s cs rs → ((q : ℕ) (x : Asked) → slice_get cs q ≡ Some x → x.seq < asked.seq)
    → IsSeated setup lines forests s (cs ++ asked ∷ []) rs
seated-asked setup lines forests s cs rs asked k greater = record {
  few = let f = k.few in let l = length-append cs (asked ∷ []) in omega arith;
  numbered = λ p q x y less first second. elim (at-end cs asked q y second) [
    | inl later ↦ elim (at-end cs asked p x first) [
      | inl earlier ↦ k.numbered p q x y less earlier.1 later.1
      | inr last ↦ absurd (let e = last.0 in let l = later.0 in omega arith)
    ]
    | inr new ↦ elim (at-end cs asked p x first) [
      | inl earlier ↦ subst (λ (z : Asked). x.seq < z.seq) new.1 (greater p x earlier.1)
      | inr last ↦ absurd (let e = last.0 in let f = new.0 in omega arith)
    ]
  ];
  right = λ q x known here told. elim (at-end cs asked q x here) [
    | inl old ↦ k.right q x known old.1 told
    | inr new ↦ absurd (let w = slice_get_within rs q known told in let f = k.few in let e = new.0 in omega arith)
  ];
  rising = λ p q a x b less first here second. elim (at-end cs asked q x here) [
    | inl old ↦ k.rising p q a x b less first old.1 second
    | inr new ↦ absurd (let w = slice_get_within rs q b second in let f = k.few in let e = new.0 in omega arith)
  ];
}

-- a command whose number is greater than those of its session's commands
pub asked-kept : (setup : Setup) (a : Account) (s : ℕ) (asked : Asked) → IsAccount setup a
    → ((q : ℕ) (x : Asked) → slice_get (a.commands s) q ≡ Some x → x.seq < asked.seq) → IsAccount setup (asked_more a s asked)
asked-kept setup a s asked k greater = record {
  seats = each-with (λ (n : ℕ) (cs : List Asked). IsSeated setup a.lines (forests_in a) n cs (a.replies n)) a.commands s asked
      (seated-asked setup a.lines (forests_in a) s (a.commands s) (a.replies s) asked (k.seats s) greater) k.seats;
  lines = λ i l at. (let m = k.lines i l at in record {
    at = m.at;
    asked = m.asked;
    known = m.known;
    here = with_more-keeps a.commands s asked (session_of l) m.at m.asked m.here;
    told = m.told;
    makes = m.makes;
    knew = m.knew;
  });
  accepted = k.accepted;
  places = k.places;
  forests = k.forests;
}

-- The opened account

-- where nothing was told, right forests of place 0 make an account of commands whose numbers rise
pub opened-kept : (setup : Setup) (commands : ℕ → List Asked) (forests : List Forest)
    → ((s p q : ℕ) (x y : Asked) → p < q → slice_get (commands s) p ≡ Some x → slice_get (commands s) q ≡ Some y → x.seq < y.seq)
    → AreRight setup.opening setup.specs forests
    → IsAccount setup (record { commands = commands; replies = λ s. []; lines = []; places = forests ∷ [] })
unfolding front after entry_at
opened-kept setup commands forests numbered right = record {
  seats = λ s. record {
    few = omega arith;
    numbered = numbered s;
    right = λ q asked known here told. absurd (let w = slice_get_within [] q known told in omega arith);
    rising = λ p q x asked y less first here second. absurd (let w = slice_get_within [] q y second in omega arith);
  };
  lines = λ i l at. absurd (let w = slice_get_within [] i l at in omega arith);
  accepted = λ v e at. absurd (no-entry v e at);
  places = refl;
  forests = λ v le. at-zero v (omega arith);
}
  where
    no-entry : (v : ℕ) (e : Entry) → entry_at [] v ≡ Some e → ⊥
    no-entry zero e h = cc
    no-entry (suc v) e h = cc

    at-zero : (v : ℕ) → v ≡ 0 → AreRight setup.opening setup.specs (unwrap_or (slice_get (forests ∷ []) v) [])
    at-zero zero e = right
    at-zero (suc v) e = absurd (omega arith)
