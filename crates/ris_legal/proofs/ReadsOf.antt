-- In an account the reads are answered on their reading lists, and all that is printed of a place agrees with its forests.
use Rattle.std.proofs.Common.{◌≡◌, ℕ, zero, suc, ◌+◌, ◌<◌, ◌≤◌, ◌==◌, if◌then◌else◌, max, inl, inr, Bool, true, false, List, [], ◌∷◌, length, take, map, Option, Some, None, IfSome, arith, refl, sym, subst, ap, ◌∙◌}
use Rattle.std.specs.List.{slice_get}
use Rattle.std.specs.Option.{IsSomeAnd}
use Rattle.std.proofs.lemmas.Bool.{cases_lt}
use Rattle.std.proofs.lemmas.Option.{slice_get_within}
use Rattle.ris_base.specs.Answers.{Setup, Answers, IsBare, Print, Shown, IsOfForest, question_of, print_in}
use Rattle.ris_base.specs.Forest.{Forest, IsForest}
use Rattle.ris_base.specs.Legal.{Asked, MayKnow, IsReadOr, IsJudgedOr, AreRead, ReadsAreRight, prints_from, print_by, HasPrint, AreOfOne, IsOfOneForest}
use Rattle.ris_base.specs.Lines.{front, floor, mark, session_of, seq_of}
use Rattle.ris_base.specs.Machine.{Known, last_placed}
use Rattle.ris_base.specs.Replies.{number, printed_floor, placed_or, wants_memory}
use Rattle.ris_base.specs.Requests.{after}
use Rattle.ris_base.specs.declared.analyses.Spec.{Spec}
use Rattle.ris_base.specs.declared.commands.Command.TheVariants as command
use Rattle.ris_base.specs.declared.lines.Line.{Line}
use Rattle.ris_base.specs.declared.lines.Line.TheVariants as line
use Rattle.ris_base.specs.declared.replies.LogLine.{LogLine}
use Rattle.ris_base.specs.declared.replies.LogLine.TheVariants.{Reply, Answer, Denied}
use Rattle.ris_base.specs.declared.replies.ReadAnswer.TheVariants as answer
use Rattle.ris_base.specs.declared.replies.ReadRefusal.TheVariants as denial
use Rattle.ris_base.specs.declared.requests.Question.{Question}
use Rattle.ris_base.specs.declared.requests.Question.TheVariants as question
use Rattle.ris_base.proofs.FloorLemmas.{AreMarksWithin}
use Rattle.ris_base.proofs.LineLemmas.{front-mark, front-within}
use Rattle.ris_base.proofs.ReadLemmas.{read-least}
use Rattle.ris_legal.specs.Account.{Account, Says, SaysRead, IsRight, IsAccount, forests_in, replies_in}
use Rattle.ris_legal.proofs.Accounts.{makes-mark, makes-own, says-marked, knew-rises, made-in, right-ends, before-is, number-is, says-is}
use Rattle.ris_legal.proofs.Lists.{slice_get_some, same_some, is_some_and, to_some_and}

-- Marks

-- each mark at a place is at most the number of entries before it
marks-behind : (n : ℕ) (xs : List Line) (s : ℕ) → ((i m q u : ℕ) → slice_get xs i ≡ Some (line.Mark m q u) → u ≤ n + front (take i xs)) → mark xs s ≤ n + front xs
unfolding mark front
marks-behind n [] s h = omega arith
marks-behind n (line.Entry e ∷ xs) s h =
    let more = marks-behind (n + 1) xs s (λ i m q u at. let x = h (suc i) m q u at in omega arith) in omega arith
marks-behind n (line.Leave m q ∷ xs) s h = marks-behind n xs s (λ i m2 q2 u at. h (suc i) m2 q2 u at)
marks-behind n (line.Mark m q u ∷ xs) s h = go (m == s) (marks-behind n xs s (λ i m2 q2 u2 at. h (suc i) m2 q2 u2 at)) (h 0 m q u refl)
  where
    go : (b : Bool) → mark xs s ≤ n + front xs → u ≤ n + 0 → (if b then max u (mark xs s) else mark xs s) ≤ n + front xs
    go true a c = omega arith
    go false a c = a

slice_get-take : {X : Type 0} (xs : List X) (k i : ℕ) (x : X) → slice_get (take k xs) i ≡ Some x → (slice_get xs i ≡ Some x) × (i < k) × (take i (take k xs) ≡ take i xs)
slice_get-take xs zero i x h = absurd (let w = slice_get_within [] i x h in omega arith)
slice_get-take [] (suc k) i x h = absurd (let w = slice_get_within [] i x h in omega arith)
slice_get-take (y ∷ xs) (suc k) zero x h = (h, omega arith, refl)
slice_get-take (y ∷ xs) (suc k) (suc i) x h = let more = slice_get-take xs k i x h in (more.0, (let l = more.1 in omega arith), ap (λ zs. y ∷ zs) more.2)

-- a mark of an account is at most the number of entries before it
mark-behind : (setup : Setup) (a : Account) (i n q u : ℕ) → IsAccount setup a → slice_get a.lines i ≡ Some (line.Mark n q u) → u ≤ front (take i a.lines)
mark-behind setup a i n q u k at =
    let m = made-in setup a n i (line.Mark n q u) k at refl in
    let c = makes-mark n m.0.asked.seq m.0.asked.command m.0.known.reply n q u m.1 in
    let right = (k.seats n).right m.0.at m.0.asked m.0.known m.0.here m.0.told in
    let said = says-marked setup (take m.0.known.knew a.lines) (forests_in a) m.0.asked.command (last_placed 0 (take m.0.at (a.replies n))) c.behind c.given
    (says-is setup a n m.0.at m.0.asked m.0.known _ right c.said) in
    let given : c.given ≡ u = release-same c.given u (sym said.0 ∙ c.is) in
    let num = number-is setup a n m.0.at m.0.asked m.0.known _ c.behind right c.said refl in
    let e = right-ends setup a n m.0.at m.0.asked m.0.known (line.Mark n q u) right m.1 in
    let still = ap front e.first ∙ front-mark e.before n q u in
    let long : i ≡ length e.before = let z = e.long in let y = m.0.knew in omega arith in
    let there : front e.before ≡ front (take i a.lines) = sym (ap front (before-is a.lines m.0.known.knew (line.Mark n q u) e)) ∙ ap (λ (x : ℕ). front (take x a.lines)) (sym long) in
    let le = said.1 in omega arith
  where
    release-same : (x y : ℕ) → command.Release x ≡ command.Release y → x ≡ y
    release-same x y h = cc

pub marks-within : (setup : Setup) (a : Account) → IsAccount setup a → (m : ℕ) → AreMarksWithin (take m a.lines)
marks-within setup a k m s =
    let h = marks-behind 0 (take m a.lines) s
    (λ i n q u at. let t = slice_get-take a.lines m i (line.Mark n q u) at in
    let b = mark-behind setup a i n q u k t.0 in
    let e = ap front t.2 in omega arith) in
    omega arith

-- Reads

-- each line of an earlier command of the session stands among those that a reply rests on
own-lines : (setup : Setup) (a : Account) (s q : ℕ) (asked : Asked) (known : Known) → IsAccount setup a → slice_get (a.commands s) q ≡ Some asked
    → slice_get (a.replies s) q ≡ Some known → (i : ℕ) (l : Line) → slice_get a.lines i ≡ Some l → session_of l ≡ s → seq_of l < asked.seq → i < known.knew
own-lines setup a s q asked known k here told i l at same less =
    let m = made-in setup a s i l k at same in
    let own = (makes-own s (m.0).asked.seq (m.0).asked.command (m.0).known.reply l m.1).1 in
    let knew = (m.0).knew in
    elim (cases_lt (m.0).at q) [
      | inl before ↦ (let z = knew-rises setup a s (m.0).at q (m.0).known known k before (m.0).told told in omega arith)
      | inr le ↦ (elim (cases_lt q (m.0).at) [
        | inl later ↦ absurd (let z = (k.seats s).numbered q (m.0).at asked (m.0).asked later here (m.0).here in omega arith)
        | inr ge ↦ absurd (
            let e : q ≡ (m.0).at = omega arith in
            let one = same_some (slice_get (a.commands s) q) asked (m.0).asked here (ap (slice_get (a.commands s)) e ∙ (m.0).here) in
            let z = ap (λ (x : Asked). x.seq) one in omega arith)
      ])
    ]

-- what answers a question has a number and prints the floor of its lines
bare-number : (setup : Setup) (lines : List Line) (q : Question) (r : LogLine) → IsBare setup lines q r → (f : ℕ) × (number r ≡ Some f)
bare-number setup lines (question.Value v a x) (Answer (answer.Value f p value)) h = (f, refl)
bare-number setup lines (question.Parent v a x) (Answer (answer.Parent f p parent)) h = (f, refl)
bare-number setup lines (question.Path v a x) (Answer (answer.Path f p vertices)) h = (f, refl)
bare-number setup lines (question.Modified v a) (Answer (answer.Modified f p vertices)) h = (f, refl)
bare-number setup lines question.Current (Answer (answer.Current f low)) h = (f, refl)
bare-number setup lines (question.Value v a x) (Denied (denial.NotYet f)) h = (f, refl)
bare-number setup lines (question.Parent v a x) (Denied (denial.NotYet f)) h = (f, refl)
bare-number setup lines (question.Path v a x) (Denied (denial.NotYet f)) h = (f, refl)
bare-number setup lines (question.Modified v a) (Denied (denial.NotYet f)) h = (f, refl)
bare-number setup lines (question.Value v a x) (Denied (denial.Released f low)) h = (f, refl)
bare-number setup lines (question.Parent v a x) (Denied (denial.Released f low)) h = (f, refl)
bare-number setup lines (question.Path v a x) (Denied (denial.Released f low)) h = (f, refl)
bare-number setup lines (question.Modified v a) (Denied (denial.Released f low)) h = (f, refl)
bare-number setup lines _ _ h = absurd h

bare-floor : (setup : Setup) (lines : List Line) (q : Question) (r : LogLine) → IsBare setup lines q r → IfSome (printed_floor r) (λ low. floor setup.sessions lines ≡ low)
bare-floor setup lines (question.Value v a x) (Answer (answer.Value f p value)) h = tt
bare-floor setup lines (question.Parent v a x) (Answer (answer.Parent f p parent)) h = tt
bare-floor setup lines (question.Path v a x) (Answer (answer.Path f p vertices)) h = tt
bare-floor setup lines (question.Modified v a) (Answer (answer.Modified f p vertices)) h = tt
bare-floor setup lines question.Current (Answer (answer.Current f low)) h = sym h.1
bare-floor setup lines (question.Value v a x) (Denied (denial.NotYet f)) h = tt
bare-floor setup lines (question.Parent v a x) (Denied (denial.NotYet f)) h = tt
bare-floor setup lines (question.Path v a x) (Denied (denial.NotYet f)) h = tt
bare-floor setup lines (question.Modified v a) (Denied (denial.NotYet f)) h = tt
bare-floor setup lines (question.Value v a x) (Denied (denial.Released f low)) h = sym h.1
bare-floor setup lines (question.Parent v a x) (Denied (denial.Released f low)) h = sym h.1
bare-floor setup lines (question.Path v a x) (Denied (denial.Released f low)) h = sym h.1
bare-floor setup lines (question.Modified v a) (Denied (denial.Released f low)) h = sym h.1
bare-floor setup lines _ _ h = absurd h

-- a reply to a read that doesn't want memory is an answer
says-answer : (setup : Setup) (known : List Line) (forests : ℕ → List Forest) (q : Question) (r : LogLine) → wants_memory r ≡ false
    → SaysRead setup known forests q r → Answers setup known forests q r
says-answer setup known forests q (Reply o) no_want h = h
says-answer setup known forests q (Answer o) no_want h = h
says-answer setup known forests q (Denied (denial.NotYet f)) no_want h = h
says-answer setup known forests q (Denied (denial.Released f low)) no_want h = h
says-answer setup known forests q (Denied denial.Shut) no_want h = h
says-answer setup known forests q (Denied denial.NoMemory) no_want h = absurd (cc)

if_some-sym : (o : Option ℕ) (n : ℕ) → IfSome o (λ f. f ≡ n) → IfSome o (λ f. n ≡ f)
if_some-sym None n h = tt
if_some-sym (Some f) n h = sym h

-- what is known of the rest of a session's replies, behind those where the last accepted entry has the place `last`
abbrev Rests : Setup → List Line → (ℕ → List Forest) → ℕ → ℕ → List Asked → List Known → Type 0
Rests setup lines forests s last cs rs = (q : ℕ) (asked : Asked) (known : Known) → slice_get cs q ≡ Some asked → slice_get rs q ≡ Some known
    → IsRight setup lines forests s (last_placed last (take q rs)) asked known
    × ((i : ℕ) (l : Line) → slice_get lines i ≡ Some l → session_of l ≡ s → seq_of l < asked.seq → i < known.knew)

-- one read, and what follows it
read-one : (setup : Setup) (lines : List Line) (forests : ℕ → List Forest) (s last held : ℕ) (asked : Asked) (known : Known) → ((m : ℕ) → AreMarksWithin (take m lines))
    → IsRight setup lines forests s last asked known
    → ((i : ℕ) (l : Line) → slice_get lines i ≡ Some l → session_of l ≡ s → seq_of l < asked.seq → i < known.knew)
    → held ≤ known.knew → (rest : ℕ → Type 0) → ((m : ℕ) → m ≤ known.knew → rest m)
    → IsJudgedOr (question_of asked.command last) setup lines s asked.seq held known.reply rest
read-one setup lines forests s last held asked known marks right own le rest more =
    by_question (question_of asked.command last) right.says
  where
    by_want : (q : Question) (b : Bool) → wants_memory known.reply ≡ b → SaysRead setup (take known.knew lines) forests q known.reply
        → IsReadOr b setup lines s asked.seq held q known.reply rest
    by_want q true e h = more held le
    by_want q false e h =
        let answers = says-answer setup (take known.knew lines) forests q known.reply e h in
        let f = bare-number setup (take known.knew lines) q known.reply answers.bare in
        let may : MayKnow setup lines s asked.seq held known.reply known.knew = record {
          within = right.within;
          of_front = if_some-sym (number known.reply) (front (take known.knew lines)) right.number;
          of_floor = bare-floor setup (take known.knew lines) q known.reply answers.bare;
          own = own;
          earlier = le;
        } in
        let least = read-least setup lines s asked.seq held q known.reply known.knew marks f.0 f.1 may answers.bare in
        (least.0, least.1, least.2, more least.0 least.3)

    by_question : (o : Option Question) → Says setup (take known.knew lines) forests asked.command o known.reply
        → IsJudgedOr o setup lines s asked.seq held known.reply rest
    by_question None h = more held le
    by_question (Some q) h = by_want q (wants_memory known.reply) refl h

reads-of : (setup : Setup) (lines : List Line) (forests : ℕ → List Forest) (s last held : ℕ) (cs : List Asked) (rs : List Known)
    → ((m : ℕ) → AreMarksWithin (take m lines)) → Rests setup lines forests s last cs rs
    → ((p q : ℕ) (x y : Known) → p < q → slice_get rs p ≡ Some x → slice_get rs q ≡ Some y → x.knew ≤ y.knew)
    → ((q : ℕ) (x : Known) → slice_get rs q ≡ Some x → held ≤ x.knew)
    → AreRead setup lines s last held cs (map (λ k. k.reply) rs)
unfolding AreRead last_placed
reads-of setup lines forests s last held [] rs marks right rises above = tt
reads-of setup lines forests s last held (c ∷ cs) [] marks right rises above = tt
reads-of setup lines forests s last held (c ∷ cs) (r ∷ rs) marks right rises above =
    let here = right 0 c r refl refl in
    read-one setup lines forests s last held c r marks here.0 here.1 (above 0 r refl)
    (λ n. AreRead setup lines s (placed_or last r.reply) n cs (map (λ k. k.reply) rs))
    (λ m below. reads-of setup lines forests s (placed_or last r.reply) m cs rs marks
    (λ q asked known at told. right (suc q) asked known at told)
    (λ p q x y less one other. rises (suc p) (suc q) x y (omega arith) one other)
    (λ q x at. (let z = rises 0 (suc q) r x (omega arith) refl at in omega arith)))

pub reads : (setup : Setup) (a : Account) → IsAccount setup a → ReadsAreRight setup a.commands (replies_in a) a.lines
reads setup a k s = reads-of setup a.lines (forests_in a) s 0 0 (a.commands s) (a.replies s) (marks-within setup a k)
    (λ q asked known here told. ((k.seats s).right q asked known here told, own-lines setup a s q asked known k here told))
    (λ p q x y less one other. knew-rises setup a s p q x y k less one other)
    (λ q x at. omega arith)

-- One forest per place

-- a print by the command and the reply that it is of
print-at : (last : ℕ) (cs : List Asked) (rs : List Known) (q : ℕ) (p : Print) → slice_get (prints_from last cs (map (λ k. k.reply) rs)) q ≡ Some (Some p)
    → (asked : Asked) × (known : Known) × (slice_get cs q ≡ Some asked) × (slice_get rs q ≡ Some known)
    × (print_by (question_of asked.command (last_placed last (take q rs))) known.reply ≡ Some p)
unfolding prints_from last_placed
print-at last [] rs q p h = absurd (let w = slice_get_within [] q (Some p) h in omega arith)
print-at last (c ∷ cs) [] q p h = absurd (let w = slice_get_within [] q (Some p) h in omega arith)
print-at last (c ∷ cs) (r ∷ rs) zero p h = (c, r, refl, refl, cc)
print-at last (c ∷ cs) (r ∷ rs) (suc q) p h = print-at (placed_or last r.reply) cs rs q p h

-- what a right reply prints of a forest
pub record IsPrinted (setup : Setup) (a : Account) (p : Print) : Type 0 where
  pub analysis : p.analysis < length setup.specs
  pub made : p.place ≤ front a.lines
  pub agrees : IsSomeAnd (slice_get (forests_in a p.place) p.analysis) (λ F. IsOfForest F p.vertex p.shown)

printed-answer : (setup : Setup) (a : Account) (known : List Line) (q : Question) (r : LogLine) (p : Print) → front known ≤ front a.lines
    → print_in q r ≡ Some p → SaysRead setup known (forests_in a) q r → IsPrinted setup a p
printed-answer setup a known (question.Parent v n x) (Answer (answer.Parent f w parent)) p le is h =
    let same : record { place = v; analysis = n; vertex = x; shown = Shown.ShownParent parent } ≡ p = cc in
    subst (λ (z : Print). IsPrinted setup a z) same (record { analysis = h.bare.1; made = (let m = h.bare.0.made in omega arith); agrees = h.agrees })
printed-answer setup a known (question.Path v n x) (Answer (answer.Path f w vertices)) p le is h =
    let same : record { place = v; analysis = n; vertex = x; shown = Shown.ShownPath vertices } ≡ p = cc in
    subst (λ (z : Print). IsPrinted setup a z) same (record { analysis = h.bare.1; made = (let m = h.bare.0.made in omega arith); agrees = h.agrees })
printed-answer setup a known _ _ p le is h = absurd (cc)

is-printed : (setup : Setup) (a : Account) (p : Print) → IsAccount setup a → HasPrint a.commands (replies_in a) p → IsPrinted setup a p
is-printed setup a p k has =
    let s : ℕ = has.session in
    let t = print-at 0 (a.commands s) (a.replies s) has.index p has.here in
    let right = (k.seats s).right has.index t.0 t.1 t.2 t.3 in
    by_question (t.1).knew (t.1).reply right.within (question_of (t.0).command (last_placed 0 (take has.index (a.replies s)))) t.0 t.4 right.says
  where
    by_question : (k : ℕ) (r : LogLine) → k ≤ length a.lines → (o : Option Question) (asked : Asked) → print_by o r ≡ Some p
        → Says setup (take k a.lines) (forests_in a) asked.command o r → IsPrinted setup a p
    by_question k r within None asked is h = absurd (cc)
    by_question k r within (Some q) asked is h = printed-answer setup a (take k a.lines) q r p (front-within a.lines k within) is h

pub one-forest : (setup : Setup) (a : Account) → IsAccount setup a → IsOfOneForest setup a.commands (replies_in a) a.lines
one-forest setup a k p has =
    let printed = is-printed setup a p k has in
    let spec = slice_get_some setup.specs p.analysis printed.analysis in
    let F = is_some_and (λ (x : Forest). IsOfForest x p.vertex p.shown) (slice_get (forests_in a p.place) p.analysis) printed.agrees in
    to_some_and (λ (x : Spec). (G : Forest) × IsForest (after setup.opening a.lines p.place) x G
    × ((other : Print) → HasPrint a.commands (replies_in a) other → AreOfOne p other → IsOfForest G other.vertex other.shown))
    (slice_get setup.specs p.analysis) spec.0 spec.1 (
      F.0,
      k.forests p.place printed.made p.analysis spec.0 F.0 spec.1 F.1,
      λ other its same. of-one other its same F.0 F.1,
    )
  where
    of-one : (other : Print) → HasPrint a.commands (replies_in a) other → AreOfOne p other → (G : Forest)
        → slice_get (forests_in a p.place) p.analysis ≡ Some G → IsOfForest G other.vertex other.shown
    of-one other its same G at =
        let printed = is-printed setup a other k its in
        let H = is_some_and (λ (x : Forest). IsOfForest x other.vertex other.shown) (slice_get (forests_in a other.place) other.analysis) printed.agrees in
        let here : slice_get (forests_in a other.place) other.analysis ≡ Some G =
        ap (λ (v : ℕ). slice_get (forests_in a v) other.analysis) same.0 ∙ ap (slice_get (forests_in a p.place)) same.1 ∙ at in
        subst (λ (x : Forest). IsOfForest x other.vertex other.shown) (same_some (slice_get (forests_in a other.place) other.analysis) H.0 G H.1 here) H.2
