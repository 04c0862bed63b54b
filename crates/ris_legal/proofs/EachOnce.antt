-- In an account each command with a line has its reply, and each reply with a line its line.
use Rattle.std.proofs.Common.{◌≡◌, ℕ, suc, ◌+◌, ◌<◌, inl, inr, List, [], ◌∷◌, ◌++◌, length, take, Some, arith, refl, sym, subst, ap, ◌∙◌, add-one}
use Rattle.std.specs.List.{slice_get}
use Rattle.std.specs.Option.{IsSomeAnd}
use Rattle.std.proofs.lemmas.Bool.{cases_lt}
use Rattle.ris_base.specs.Answers.{Setup}
use Rattle.ris_base.specs.Legal.{Asked, HasReply, IsLineOf, StandsBehind, IsEachOnce}
use Rattle.ris_base.specs.Lines.{front, entry_at, session_of, seq_of}
use Rattle.ris_base.specs.Machine.{Known, entry_of, last_placed}
use Rattle.ris_base.specs.declared.commands.Command.{Command}
use Rattle.ris_base.specs.declared.commands.Command.TheVariants as command
use Rattle.ris_base.specs.declared.lines.Entry.{Entry}
use Rattle.ris_base.specs.declared.lines.Line.{Line}
use Rattle.ris_base.specs.declared.lines.Line.TheVariants as line
use Rattle.ris_base.specs.declared.replies.LogLine.{LogLine}
use Rattle.ris_base.specs.declared.replies.LogLine.TheVariants.{Reply}
use Rattle.ris_base.specs.declared.replies.Outcome.TheVariants as outcome
use Rattle.ris_base.specs.declared.updates.Update.{Update}
use Rattle.ris_base.proofs.LineLemmas.{front-entry, front-mark, front-leave, entry_at-here, entry-index}
use Rattle.ris_legal.specs.Account.{Account, made, made_by, IsAccount, forests_in, replies_in}
use Rattle.ris_legal.proofs.Accounts.{makes-entry, makes-mark, makes-leave, makes-own, says-placed, says-marked, says-left, same-place, RightAt, knew-rises, made-in, Ends, before-is, right-ends, number-is, says-is}
use Rattle.ris_legal.proofs.Lists.{at-middle, slice_get-mapped, slice_get-map, same_some, is_some_and, to_some_and}

-- a reply by its place, with what it rests on
pub known-of : (a : Account) (s q : ℕ) (r : LogLine) → HasReply (replies_in a) s q r → (k : Known) × (slice_get (a.replies s) q ≡ Some k) × (k.reply ≡ r)
known-of a s q r h = slice_get-mapped (λ (k : Known). k.reply) (a.replies s) q r h

pub reply-of : (a : Account) (s q : ℕ) (k : Known) (r : LogLine) → slice_get (a.replies s) q ≡ Some k → k.reply ≡ r → HasReply (replies_in a) s q r
reply-of a s q k r at is = slice_get-map (λ (x : Known). x.reply) (a.replies s) q k at ∙ ap Some is

-- a change that was placed: its entry stands at the end of what the reply rests on
pub record IsPlaced (a : Account) (s q v : ℕ) (asked : Asked) (known : Known) : Type 0 where
  pub parts : List Update
  pub is : asked.command ≡ command.Change parts
  pub ends : Ends a.lines known.knew (line.Entry (entry_of s asked.seq parts))
  pub place : v ≡ front ends.before + 1

pub is-placed : (setup : Setup) (a : Account) (s q v : ℕ) (asked : Asked) (known : Known) → RightAt setup a s q asked known
    → known.reply ≡ Reply (outcome.Placed v) → IsPlaced a s q v asked known
is-placed setup a s q v asked known right is =
    let p = says-placed setup (take known.knew a.lines) (forests_in a) asked.command (last_placed 0 (take q (a.replies s))) v
    (says-is setup a s q asked known (Reply (outcome.Placed v)) right is) in
    let m : made s asked known.reply ≡ line.Entry (entry_of s asked.seq p.0) ∷ [] =
    ap (λ (c : Command). made_by s asked.seq c known.reply) p.1 ∙ ap (made_by s asked.seq (command.Change p.0)) is in
    let e = right-ends setup a s q asked known (line.Entry (entry_of s asked.seq p.0)) right m in
    let f = number-is setup a s q asked known (Reply (outcome.Placed v)) v right is refl in
    record { parts = p.0; is = p.1; ends = e; place = f ∙ ap front e.first ∙ front-entry e.before (entry_of s asked.seq p.0) }

-- Places

placed-line : (setup : Setup) (a : Account) (s q v : ℕ) (asked : Asked) → IsAccount setup a → slice_get (a.commands s) q ≡ Some asked
    → HasReply (replies_in a) s q (Reply (outcome.Placed v)) → IsSomeAnd (entry_at a.lines v) (λ e. IsLineOf s asked (line.Entry e))
placed-line setup a s q v asked k here has =
    let known = known-of a s q (Reply (outcome.Placed v)) has in
    let p = is-placed setup a s q v asked known.0 ((k.seats s).right q asked known.0 here known.1) known.2 in
    let e : Entry = entry_of s asked.seq p.parts in
    to_some_and (λ x. IsLineOf s asked (line.Entry x)) (entry_at a.lines v) e
    (ap (entry_at a.lines) p.place ∙ ap (λ (x : List Line). entry_at x (front p.ends.before + 1)) p.ends.whole ∙ entry_at-here p.ends.before e p.ends.rest)
    (refl, refl, p.is)

line-placed : (setup : Setup) (a : Account) (s q v : ℕ) (asked : Asked) → IsAccount setup a → slice_get (a.commands s) q ≡ Some asked
    → IsSomeAnd (entry_at a.lines v) (λ e. IsLineOf s asked (line.Entry e)) → HasReply (replies_in a) s q (Reply (outcome.Placed v))
line-placed setup a s q v asked k here has =
    let e = is_some_and (λ x. IsLineOf s asked (line.Entry x)) (entry_at a.lines v) has in
    let i = entry-index a.lines v e.0 e.1 in
    let m = made-in setup a s i.0 (line.Entry e.0) k i.1 e.2.0 in
    let c = makes-entry s m.0.asked.seq m.0.asked.command m.0.known.reply e.0 m.1 in
    let seqs : m.0.asked.seq ≡ asked.seq = ap (λ (x : Entry). x.seq) c.entry ∙ e.2.1 in
    let same = same-place setup a s m.0.at q m.0.asked asked k m.0.here here seqs in
    let right = (k.seats s).right m.0.at m.0.asked m.0.known m.0.here m.0.told in
    let p = is-placed setup a s m.0.at c.place m.0.asked m.0.known right c.said in
    let own : entry_of s m.0.asked.seq p.parts ≡ e.0 =
    ap (λ (x : List Update). entry_of s m.0.asked.seq x) (change-same p.parts (e.0).parts (sym p.is ∙ c.is)) ∙ c.entry in
    let knew : m.0.known.knew ≡ suc i.0 = m.0.knew ∙ add-one i.0 in
    let there : c.place ≡ v =
    p.place ∙ sym (front-entry p.ends.before (entry_of s m.0.asked.seq p.parts)) ∙ ap front (sym p.ends.first)
    ∙ ap (λ (x : ℕ). front (take x a.lines)) knew ∙ i.2 in
    reply-of a s q m.0.known (Reply (outcome.Placed v)) (subst (λ (x : ℕ). slice_get (a.replies s) x ≡ Some m.0.known) same m.0.told)
    (c.said ∙ ap (λ (x : ℕ). Reply (outcome.Placed x)) there)
  where
    change-same : (x y : List Update) → command.Change x ≡ command.Change y → x ≡ y
    change-same x y h = cc

-- Marks and leaves

-- a reply whose line stands at the end of what it rests on, with so many entries before it
behind-of : (a : Account) (k : ℕ) (l : Line) (f : ℕ) (e : Ends a.lines k l) → front (e.before ++ l ∷ []) ≡ front e.before → f ≡ front (take k a.lines)
    → StandsBehind a.lines l f
behind-of a k l f e still is = record {
  index = length e.before;
  here = ap (λ (x : List Line). slice_get x (length e.before)) e.whole ∙ at-middle e.before e.rest l;
  behind = ap front (before-is a.lines k l e) ∙ sym still ∙ ap front (sym e.first) ∙ sym is;
}

-- the front behind which a line stands is that of what its reply rests on
front-of : (a : Account) (k i : ℕ) (l : Line) (e : Ends a.lines k l) → front (e.before ++ l ∷ []) ≡ front e.before → k ≡ i + 1
    → front (take k a.lines) ≡ front (take i a.lines)
front-of a k i l e still knew =
    let long : i ≡ length e.before = let z = e.long in omega arith in
    ap front e.first ∙ still ∙ sym (ap front (before-is a.lines k l e)) ∙ ap (λ (x : ℕ). front (take x a.lines)) (sym long)

marked-line : (setup : Setup) (a : Account) (s q f u : ℕ) (asked : Asked) → IsAccount setup a → slice_get (a.commands s) q ≡ Some asked
    → HasReply (replies_in a) s q (Reply (outcome.Marked f u)) → StandsBehind a.lines (line.Mark s asked.seq u) f × (asked.command ≡ command.Release u)
marked-line setup a s q f u asked k here has =
    let known = known-of a s q (Reply (outcome.Marked f u)) has in
    let right = (k.seats s).right q asked known.0 here known.1 in
    let c = says-marked setup (take (known.0).knew a.lines) (forests_in a) asked.command (last_placed 0 (take q (a.replies s))) f u
    (says-is setup a s q asked known.0 (Reply (outcome.Marked f u)) right known.2) in
    let m : made s asked (known.0).reply ≡ line.Mark s asked.seq u ∷ [] =
    ap (λ (x : Command). made_by s asked.seq x (known.0).reply) c.0 ∙ ap (made_by s asked.seq (command.Release u)) known.2 in
    let e = right-ends setup a s q asked known.0 (line.Mark s asked.seq u) right m in (
      behind-of a (known.0).knew (line.Mark s asked.seq u) f e (front-mark e.before s asked.seq u)
          (number-is setup a s q asked known.0 (Reply (outcome.Marked f u)) f right known.2 refl),
      c.0,
    )

line-marked : (setup : Setup) (a : Account) (s q f u : ℕ) (asked : Asked) → IsAccount setup a → slice_get (a.commands s) q ≡ Some asked
    → StandsBehind a.lines (line.Mark s asked.seq u) f × (asked.command ≡ command.Release u) → HasReply (replies_in a) s q (Reply (outcome.Marked f u))
line-marked setup a s q f u asked k here has =
    let stands = has.0 in
    let m = made-in setup a s stands.index (line.Mark s asked.seq u) k stands.here refl in
    let c = makes-mark s m.0.asked.seq m.0.asked.command m.0.known.reply s asked.seq u m.1 in
    let same = same-place setup a s m.0.at q m.0.asked asked k m.0.here here c.number in
    let right = (k.seats s).right m.0.at m.0.asked m.0.known m.0.here m.0.told in
    let said = says-marked setup (take m.0.known.knew a.lines) (forests_in a) m.0.asked.command (last_placed 0 (take m.0.at (a.replies s))) c.behind c.given
    (says-is setup a s m.0.at m.0.asked m.0.known (Reply (outcome.Marked c.behind c.given)) right c.said) in
    let given : c.given ≡ u = release-same c.given u (sym said.0 ∙ c.is) in
    let e = right-ends setup a s m.0.at m.0.asked m.0.known (line.Mark s asked.seq u) right m.1 in
    let num = number-is setup a s m.0.at m.0.asked m.0.known (Reply (outcome.Marked c.behind c.given)) c.behind right c.said refl in
    let there : c.behind ≡ f = num ∙ front-of a m.0.known.knew stands.index (line.Mark s asked.seq u) e (front-mark e.before s asked.seq u) m.0.knew ∙ stands.behind in
    reply-of a s q m.0.known (Reply (outcome.Marked f u)) (subst (λ (x : ℕ). slice_get (a.replies s) x ≡ Some m.0.known) same m.0.told)
    (c.said ∙ ap (λ (x : ℕ). Reply (outcome.Marked x c.given)) there ∙ ap (λ (x : ℕ). Reply (outcome.Marked f x)) given)
  where
    release-same : (x y : ℕ) → command.Release x ≡ command.Release y → x ≡ y
    release-same x y h = cc

left-line : (setup : Setup) (a : Account) (s q f : ℕ) (asked : Asked) → IsAccount setup a → slice_get (a.commands s) q ≡ Some asked
    → HasReply (replies_in a) s q (Reply (outcome.Left f)) → StandsBehind a.lines (line.Leave s asked.seq) f × (asked.command ≡ command.Leave)
left-line setup a s q f asked k here has =
    let known = known-of a s q (Reply (outcome.Left f)) has in
    let right = (k.seats s).right q asked known.0 here known.1 in
    let c = says-left setup (take (known.0).knew a.lines) (forests_in a) asked.command (last_placed 0 (take q (a.replies s))) f
    (says-is setup a s q asked known.0 (Reply (outcome.Left f)) right known.2) in
    let m : made s asked (known.0).reply ≡ line.Leave s asked.seq ∷ [] =
    ap (λ (x : Command). made_by s asked.seq x (known.0).reply) c ∙ ap (made_by s asked.seq command.Leave) known.2 in
    let e = right-ends setup a s q asked known.0 (line.Leave s asked.seq) right m in (
      behind-of a (known.0).knew (line.Leave s asked.seq) f e (front-leave e.before s asked.seq)
          (number-is setup a s q asked known.0 (Reply (outcome.Left f)) f right known.2 refl),
      c,
    )

line-left : (setup : Setup) (a : Account) (s q f : ℕ) (asked : Asked) → IsAccount setup a → slice_get (a.commands s) q ≡ Some asked
    → StandsBehind a.lines (line.Leave s asked.seq) f × (asked.command ≡ command.Leave) → HasReply (replies_in a) s q (Reply (outcome.Left f))
line-left setup a s q f asked k here has =
    let stands = has.0 in
    let m = made-in setup a s stands.index (line.Leave s asked.seq) k stands.here refl in
    let c = makes-leave s m.0.asked.seq m.0.asked.command m.0.known.reply s asked.seq m.1 in
    let same = same-place setup a s m.0.at q m.0.asked asked k m.0.here here c.number in
    let right = (k.seats s).right m.0.at m.0.asked m.0.known m.0.here m.0.told in
    let e = right-ends setup a s m.0.at m.0.asked m.0.known (line.Leave s asked.seq) right m.1 in
    let num = number-is setup a s m.0.at m.0.asked m.0.known (Reply (outcome.Left c.behind)) c.behind right c.said refl in
    let there : c.behind ≡ f = num ∙ front-of a m.0.known.knew stands.index (line.Leave s asked.seq) e (front-leave e.before s asked.seq) m.0.knew ∙ stands.behind in
    reply-of a s q m.0.known (Reply (outcome.Left f)) (subst (λ (x : ℕ). slice_get (a.replies s) x ≡ Some m.0.known) same m.0.told)
    (c.said ∙ ap (λ (x : ℕ). Reply (outcome.Left x)) there)

-- The lines of commands

-- a line that a command makes is of it
line-of : (s : ℕ) (asked : Asked) (r : LogLine) (l : Line) → session_of l ≡ s → made s asked r ≡ l ∷ [] → IsLineOf s asked l
line-of s asked r (line.Entry e) own h = let m = makes-entry s asked.seq asked.command r e h in (own, ap (λ (x : Entry). x.seq) (sym m.entry), m.is)
line-of s asked r (line.Mark n q u) own h = let m = makes-mark s asked.seq asked.command r n q u h in (own, sym m.number, m.is)
line-of s asked r (line.Leave n q) own h = let m = makes-leave s asked.seq asked.command r n q h in (own, sym m.number, m.is)

in-order : (setup : Setup) (a : Account) (i j : ℕ) (first second : Line) → IsAccount setup a → i < j → slice_get a.lines i ≡ Some first
    → slice_get a.lines j ≡ Some second → session_of first ≡ session_of second → seq_of first < seq_of second
in-order setup a i j first second k less one other same =
    let s : ℕ = session_of second in
    let x = made-in setup a s i first k one same in
    let y = made-in setup a s j second k other refl in
    let own = (makes-own s (x.0).asked.seq (x.0).asked.command (x.0).known.reply first x.1).1 in
    let its = (makes-own s (y.0).asked.seq (y.0).asked.command (y.0).known.reply second y.1).1 in
    let kx = (x.0).knew in
    let ky = (y.0).knew in
    elim (cases_lt (x.0).at (y.0).at) [
      | inl lt ↦ (let z = (k.seats s).numbered (x.0).at (y.0).at (x.0).asked (y.0).asked lt (x.0).here (y.0).here in omega arith)
      | inr le ↦ (elim (cases_lt (y.0).at (x.0).at) [
        | inl lt ↦ absurd (let z = knew-rises setup a s (y.0).at (x.0).at (y.0).known (x.0).known k lt (y.0).told (x.0).told in omega arith)
        | inr ge ↦ absurd (
            let e : (x.0).at ≡ (y.0).at = omega arith in
            let r = same_some (slice_get (a.replies s) (y.0).at) (x.0).known (y.0).known (sym (ap (slice_get (a.replies s)) e) ∙ (x.0).told) (y.0).told in
            let z = ap (λ (w : Known). w.knew) r in omega arith)
      ])
    ]

-- the clause
pub each-once : (setup : Setup) (a : Account) → IsAccount setup a → IsEachOnce a.commands (replies_in a) a.lines
each-once setup a k = record {
  placed = λ s q v asked here. (placed-line setup a s q v asked k here, line-placed setup a s q v asked k here);
  marked = λ s q f u asked here. (marked-line setup a s q f u asked k here, line-marked setup a s q f u asked k here);
  left = λ s q f asked here. (left-line setup a s q f asked k here, line-left setup a s q f asked k here);
  of_commands = λ i l at. (let m = k.lines i l at in (m.at, m.asked, m.here, line-of (session_of l) m.asked m.known.reply l refl m.makes));
  in_order = λ i j first second less one other same. in-order setup a i j first second k less one other same;
}
