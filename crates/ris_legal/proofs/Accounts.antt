-- What an account says of one command, one reply and one line.
use Rattle.std.proofs.Common.{◌≡◌, ℕ, ◌+◌, ◌<◌, ◌≤◌, inl, inr, List, [], ◌∷◌, ◌++◌, length, take, drop, Some, arith, refl, sym, subst, ap, ◌∙◌, length-append, append_assoc}
use Rattle.std.specs.List.{slice_get}
use Rattle.std.proofs.lemmas.Bool.{cases_lt}
use Rattle.std.proofs.lemmas.List.{take-append-drop}
use Rattle.std.proofs.lemmas.Option.{slice_get_within}
use Rattle.std.proofs.Math.Seq.{take-append_seam}
use Rattle.ris_base.specs.Answers.{Setup, question_of}
use Rattle.ris_base.specs.Forest.{Forest}
use Rattle.ris_base.specs.Legal.{Asked}
use Rattle.ris_base.specs.Lines.{front, session_of, seq_of}
use Rattle.ris_base.specs.Machine.{Known, entry_of, last_placed}
use Rattle.ris_base.specs.Replies.{number}
use Rattle.ris_base.specs.declared.commands.Command.{Command}
use Rattle.ris_base.specs.declared.commands.Command.TheVariants as command
use Rattle.ris_base.specs.declared.lines.Entry.{Entry}
use Rattle.ris_base.specs.declared.lines.Line.{Line}
use Rattle.ris_base.specs.declared.lines.Line.TheVariants as line
use Rattle.ris_base.specs.declared.replies.LogLine.{LogLine}
use Rattle.ris_base.specs.declared.replies.LogLine.TheVariants.{Reply}
use Rattle.ris_base.specs.declared.replies.Outcome.{Outcome}
use Rattle.ris_base.specs.declared.replies.Outcome.TheVariants as outcome
use Rattle.ris_base.specs.declared.requests.Question.{Question}
use Rattle.ris_base.specs.declared.requests.Question.TheVariants as question
use Rattle.ris_base.specs.declared.updates.Update.{Update}
use Rattle.ris_legal.specs.Account.{Account, made, made_by, Says, SaysRead, IsRight, IsMade, IsAccount, forests_in}
use Rattle.ris_legal.proofs.Lists.{slice_get_some, take-within, if_some}

-- What makes a line

pub record MakesEntry (s seq : ℕ) (c : Command) (r : LogLine) (e : Entry) : Type 0 where
  pub place : ℕ
  pub is : c ≡ command.Change e.parts
  pub entry : entry_of s seq e.parts ≡ e
  pub said : r ≡ Reply (outcome.Placed place)

pub makes-entry : (s seq : ℕ) (c : Command) (r : LogLine) (e : Entry) → made_by s seq c r ≡ line.Entry e ∷ [] → MakesEntry s seq c r e
makes-entry s seq (command.Change parts) (Reply (outcome.Placed v)) e h =
    let same : entry_of s seq parts ≡ e = cc in
    let own : parts ≡ e.parts = ap (λ (x : Entry). x.parts) same in
    record { place = v; is = ap command.Change own; entry = ap (entry_of s seq) (sym own) ∙ same; said = refl }
makes-entry s seq (command.Release upto) (Reply (outcome.Marked f u)) e h = absurd (cc)
makes-entry s seq command.Leave (Reply (outcome.Left f)) e h = absurd (cc)
makes-entry s seq _ _ e h = absurd (cc)

pub record MakesMark (s seq : ℕ) (c : Command) (r : LogLine) (n q u : ℕ) : Type 0 where
  pub behind : ℕ
  pub given : ℕ
  pub is : c ≡ command.Release u
  pub session : s ≡ n
  pub number : seq ≡ q
  pub said : r ≡ Reply (outcome.Marked behind given)

pub makes-mark : (s seq : ℕ) (c : Command) (r : LogLine) (n q u : ℕ) → made_by s seq c r ≡ line.Mark n q u ∷ [] → MakesMark s seq c r n q u
makes-mark s seq (command.Change parts) (Reply (outcome.Placed v)) n q u h = absurd (cc)
makes-mark s seq (command.Release upto) (Reply (outcome.Marked f x)) n q u h = record { behind = f; given = x; is = cc; session = cc; number = cc; said = refl }
makes-mark s seq command.Leave (Reply (outcome.Left f)) n q u h = absurd (cc)
makes-mark s seq _ _ n q u h = absurd (cc)

pub record MakesLeave (s seq : ℕ) (c : Command) (r : LogLine) (n q : ℕ) : Type 0 where
  pub behind : ℕ
  pub is : c ≡ command.Leave
  pub session : s ≡ n
  pub number : seq ≡ q
  pub said : r ≡ Reply (outcome.Left behind)

pub makes-leave : (s seq : ℕ) (c : Command) (r : LogLine) (n q : ℕ) → made_by s seq c r ≡ line.Leave n q ∷ [] → MakesLeave s seq c r n q
makes-leave s seq (command.Change parts) (Reply (outcome.Placed v)) n q h = absurd (cc)
makes-leave s seq (command.Release upto) (Reply (outcome.Marked f x)) n q h = absurd (cc)
makes-leave s seq command.Leave (Reply (outcome.Left f)) n q h = record { behind = f; is = refl; session = cc; number = cc; said = refl }
makes-leave s seq _ _ n q h = absurd (cc)

-- a line that a command makes has its session and its number
pub makes-own : (s seq : ℕ) (c : Command) (r : LogLine) (l : Line) → made_by s seq c r ≡ l ∷ [] → (session_of l ≡ s) × (seq_of l ≡ seq)
makes-own s seq c r (line.Entry e) h = let m = makes-entry s seq c r e h in (ap (λ (x : Entry). x.session) (sym m.entry), ap (λ (x : Entry). x.seq) (sym m.entry))
makes-own s seq c r (line.Mark n q u) h = let m = makes-mark s seq c r n q u h in (sym m.session, sym m.number)
makes-own s seq c r (line.Leave n q) h = let m = makes-leave s seq c r n q h in (sym m.session, sym m.number)

-- Which commands have which replies

-- a reply to a request answers no question
no-read : (setup : Setup) (known : List Line) (forests : ℕ → List Forest) (q : Question) (o : Outcome) → SaysRead setup known forests q (Reply o) → ⊥
no-read setup known forests (question.Value v a x) o h = h.bare
no-read setup known forests (question.Parent v a x) o h = h.bare
no-read setup known forests (question.Path v a x) o h = h.bare
no-read setup known forests (question.Modified v a) o h = h.bare
no-read setup known forests question.Current o h = h.bare

pub says-placed : (setup : Setup) (known : List Line) (forests : ℕ → List Forest) (c : Command) (last v : ℕ)
    → Says setup known forests c (question_of c last) (Reply (outcome.Placed v)) → (parts : List Update) × (c ≡ command.Change parts)
says-placed setup known forests (command.Change parts) last v h = (parts, refl)
says-placed setup known forests (command.Release upto) last v h = absurd h
says-placed setup known forests command.Leave last v h = absurd h
says-placed setup known forests (command.Value version a x) last v h = absurd (no-read setup known forests _ (outcome.Placed v) h)
says-placed setup known forests (command.Parent version a x) last v h = absurd (no-read setup known forests _ (outcome.Placed v) h)
says-placed setup known forests (command.Path version a x) last v h = absurd (no-read setup known forests _ (outcome.Placed v) h)
says-placed setup known forests (command.Modified version a) last v h = absurd (no-read setup known forests _ (outcome.Placed v) h)
says-placed setup known forests command.Current last v h = absurd (no-read setup known forests _ (outcome.Placed v) h)

pub says-marked : (setup : Setup) (known : List Line) (forests : ℕ → List Forest) (c : Command) (last f u : ℕ)
    → Says setup known forests c (question_of c last) (Reply (outcome.Marked f u)) → (c ≡ command.Release u) × (u ≤ f)
says-marked setup known forests (command.Change parts) last f u h = absurd h
says-marked setup known forests (command.Release upto) last f u h = (ap command.Release (sym h.0), (let a = h.0 in let b = h.1 in omega arith))
says-marked setup known forests command.Leave last f u h = absurd h
says-marked setup known forests (command.Value version a x) last f u h = absurd (no-read setup known forests _ (outcome.Marked f u) h)
says-marked setup known forests (command.Parent version a x) last f u h = absurd (no-read setup known forests _ (outcome.Marked f u) h)
says-marked setup known forests (command.Path version a x) last f u h = absurd (no-read setup known forests _ (outcome.Marked f u) h)
says-marked setup known forests (command.Modified version a) last f u h = absurd (no-read setup known forests _ (outcome.Marked f u) h)
says-marked setup known forests command.Current last f u h = absurd (no-read setup known forests _ (outcome.Marked f u) h)

pub says-left : (setup : Setup) (known : List Line) (forests : ℕ → List Forest) (c : Command) (last f : ℕ)
    → Says setup known forests c (question_of c last) (Reply (outcome.Left f)) → c ≡ command.Leave
says-left setup known forests (command.Change parts) last f h = absurd h
says-left setup known forests (command.Release upto) last f h = absurd h
says-left setup known forests command.Leave last f h = refl
says-left setup known forests (command.Value version a x) last f h = absurd (no-read setup known forests _ (outcome.Left f) h)
says-left setup known forests (command.Parent version a x) last f h = absurd (no-read setup known forests _ (outcome.Left f) h)
says-left setup known forests (command.Path version a x) last f h = absurd (no-read setup known forests _ (outcome.Left f) h)
says-left setup known forests (command.Modified version a) last f h = absurd (no-read setup known forests _ (outcome.Left f) h)
says-left setup known forests command.Current last f h = absurd (no-read setup known forests _ (outcome.Left f) h)

-- Commands and replies of a session

-- two commands of a session with one number stand at one place
pub same-place : (setup : Setup) (a : Account) (s p q : ℕ) (first second : Asked) → IsAccount setup a
    → slice_get (a.commands s) p ≡ Some first → slice_get (a.commands s) q ≡ Some second → first.seq ≡ second.seq → p ≡ q
same-place setup a s p q first second k one other same = elim (cases_lt p q) [
  | inl less ↦ absurd (let x = (k.seats s).numbered p q first second less one other in omega arith)
  | inr le ↦ elim (cases_lt q p) [
    | inl less ↦ absurd (let x = (k.seats s).numbered q p second first less other one in omega arith)
    | inr ge ↦ omega arith
  ]
]

-- what is right of the reply at a place of a session
abbrev pub RightAt : Setup → Account → ℕ → ℕ → Asked → Known → Type 0
RightAt setup a s q asked known = IsRight setup a.lines (forests_in a) s (last_placed 0 (take q (a.replies s))) asked known

pub record Told (setup : Setup) (a : Account) (s q : ℕ) (known : Known) : Type 0 where
  pub asked : Asked
  pub here : slice_get (a.commands s) q ≡ Some asked
  pub right : RightAt setup a s q asked known

-- the command of a reply
pub told-of : (setup : Setup) (a : Account) (s q : ℕ) (known : Known) → IsAccount setup a → slice_get (a.replies s) q ≡ Some known → Told setup a s q known
told-of setup a s q known k at =
    let w = slice_get_within (a.replies s) q known at in
    let f = (k.seats s).few in
    let there = slice_get_some (a.commands s) q (omega arith) in
    record { asked = there.0; here = there.1; right = (k.seats s).right q there.0 known there.1 at }

-- later replies of a session rest on no fewer lines
pub knew-rises : (setup : Setup) (a : Account) (s p q : ℕ) (x y : Known) → IsAccount setup a → p < q
    → slice_get (a.replies s) p ≡ Some x → slice_get (a.replies s) q ≡ Some y → x.knew ≤ y.knew
knew-rises setup a s p q x y k less first second =
    let t = told-of setup a s q y k second in
    let r = (k.seats s).rising p q x t.asked y less first t.here second in omega arith

-- the maker of a line
pub made-in : (setup : Setup) (a : Account) (s i : ℕ) (l : Line) → IsAccount setup a → slice_get a.lines i ≡ Some l → session_of l ≡ s
    → (m : IsMade i l (a.commands s) (a.replies s)) × (made s m.asked m.known.reply ≡ l ∷ [])
made-in setup a s i l k at same =
    subst (λ (n : ℕ). (m : IsMade i l (a.commands n) (a.replies n)) × (made n m.asked m.known.reply ≡ l ∷ [])) same
    (let m = k.lines i l at in (m, m.makes))

-- Lines at the end of what a reply rests on

-- first lines end with a line: it stands there, behind the others
pub record Ends (lines : List Line) (k : ℕ) (l : Line) : Type 0 where
  pub before : List Line
  pub rest : List Line
  pub whole : lines ≡ before ++ l ∷ rest
  pub long : k ≡ length before + 1
  pub first : take k lines ≡ before ++ l ∷ []

pub ends : (lines before : List Line) (k : ℕ) (l : Line) → k ≤ length lines → take k lines ≡ before ++ l ∷ [] → Ends lines k l
ends lines before k l within e = record {
  before = before;
  rest = drop k lines;
  whole = sym (take-append-drop k lines) ∙ ap (λ (x : List Line). x ++ drop k lines) e ∙ append_assoc before (l ∷ []) (drop k lines);
  long = let t = take-within lines k within in let a = ap length e in let b = length-append before (l ∷ []) in omega arith;
  first = e;
}

pub before-is : (lines : List Line) (k : ℕ) (l : Line) (e : Ends lines k l) → take (length e.before) lines ≡ e.before
before-is lines k l e = ap (take (length e.before)) e.whole ∙ take-append_seam e.before (l ∷ e.rest)

-- a reply whose command makes a line rests on lines that end with it
pub right-ends : (setup : Setup) (a : Account) (s q : ℕ) (asked : Asked) (known : Known) (l : Line) → RightAt setup a s q asked known
    → made s asked known.reply ≡ l ∷ [] → Ends a.lines known.knew l
right-ends setup a s q asked known l right makes =
    ends a.lines right.before known.knew l right.within (right.ends ∙ ap (λ (x : List Line). right.before ++ x) makes)

-- the number of a reply is the front of what it rests on
pub number-is : (setup : Setup) (a : Account) (s q : ℕ) (asked : Asked) (known : Known) (r : LogLine) (n : ℕ) → RightAt setup a s q asked known
    → known.reply ≡ r → number r ≡ Some n → n ≡ front (take known.knew a.lines)
number-is setup a s q asked known r n right is has =
    if_some (λ (x : ℕ). x ≡ front (take known.knew a.lines)) (number known.reply) n right.number (ap number is ∙ has)

-- a reply with this text says this
pub says-is : (setup : Setup) (a : Account) (s q : ℕ) (asked : Asked) (known : Known) (r : LogLine) → RightAt setup a s q asked known
    → known.reply ≡ r
    → Says setup (take known.knew a.lines) (forests_in a) asked.command (question_of asked.command (last_placed 0 (take q (a.replies s)))) r
says-is setup a s q asked known r right is =
    subst (λ (x : LogLine). Says setup (take known.knew a.lines) (forests_in a) asked.command (question_of asked.command (last_placed 0 (take q (a.replies s)))) x) is right.says
