-- In an account numbers don't fall, refusals say what is so, and replies are of kinds that their commands can have.
use Rattle.std.proofs.Common.{◌≡◌, ℕ, ◌<◌, ◌≤◌, List, [], ◌∷◌, length, take, Some, IfSome, arith, refl, sym, subst, ap, ◌∙◌}
use Rattle.std.specs.Prelude.{IsTrue}
use Rattle.std.specs.List.{slice_get}
use Rattle.std.specs.Option.{option_map}
use Rattle.ris_base.specs.Answers.{Setup, question_of}
use Rattle.ris_base.specs.Forest.{Forest}
use Rattle.ris_base.specs.Legal.{Asked, HasReply, HasKinds, MayFollow, IsInSessionOrder, AreJudged, IsWantingRightly}
use Rattle.ris_base.specs.Lines.{front}
use Rattle.ris_base.specs.Machine.{Known, entry_of, last_placed}
use Rattle.ris_base.specs.Replies.{number, can_have, wants_memory, may_want_memory}
use Rattle.ris_base.specs.Requests.{after, refusal_of, refused_at}
use Rattle.ris_base.specs.declared.commands.Command.{Command}
use Rattle.ris_base.specs.declared.commands.Command.TheVariants as command
use Rattle.ris_base.specs.declared.graphs.PlainGraph.{PlainGraph}
use Rattle.ris_base.specs.declared.lines.Line.{Line}
use Rattle.ris_base.specs.declared.lines.Line.TheVariants as line
use Rattle.ris_base.specs.declared.replies.LogLine.{LogLine}
use Rattle.ris_base.specs.declared.replies.LogLine.TheVariants.{Reply, Answer, Denied}
use Rattle.ris_base.specs.declared.replies.Outcome.TheVariants as outcome
use Rattle.ris_base.specs.declared.replies.ReadAnswer.TheVariants as answer
use Rattle.ris_base.specs.declared.replies.ReadRefusal.TheVariants as denial
use Rattle.ris_base.specs.declared.replies.Refusal.{Refusal}
use Rattle.ris_base.specs.declared.replies.Refusal.TheVariants as refusal
use Rattle.ris_base.specs.declared.updates.Update.{Update}
use Rattle.ris_base.proofs.LineLemmas.{front-entry, front-take, front-within, after-take}
use Rattle.ris_legal.specs.Account.{Account, Says, SaysRefused, made, IsAccount, forests_in, replies_in}
use Rattle.ris_legal.proofs.Accounts.{says-marked, Told, told-of, knew-rises, before-is, number-is, says-is}
use Rattle.ris_legal.proofs.EachOnce.{is-placed, known-of}
use Rattle.ris_legal.proofs.Lists.{to_some}
use Rattle.std.proofs.lemmas.List.{length-map}

-- Session order

-- a reply may follow where its front is no less, and greater where it is a place
follow : (before f : ℕ) (r : LogLine) → IfSome (number r) (λ v. v ≡ f) → before ≤ f → ((v : ℕ) → r ≡ Reply (outcome.Placed v) → before < f) → MayFollow before r
follow before f (Reply (outcome.Placed v)) n le more = let m = more v refl in omega arith
follow before f (Reply (outcome.Marked a u)) n le more = omega arith
follow before f (Reply (outcome.Left a)) n le more = omega arith
follow before f (Reply (outcome.NotYet a)) n le more = omega arith
follow before f (Reply outcome.Closed) n le more = tt
follow before f (Reply (outcome.Refused (refusal.NoVertex a p i))) n le more = omega arith
follow before f (Reply (outcome.Refused (refusal.NoEdge a p))) n le more = omega arith
follow before f (Reply (outcome.Refused (refusal.Limit a p x))) n le more = omega arith
follow before f (Reply (outcome.Refused refusal.NoMemory)) n le more = tt
follow before f (Answer (answer.Value a p x)) n le more = omega arith
follow before f (Answer (answer.Parent a p x)) n le more = omega arith
follow before f (Answer (answer.Path a p x)) n le more = omega arith
follow before f (Answer (answer.Modified a p x)) n le more = omega arith
follow before f (Answer (answer.Current a x)) n le more = omega arith
follow before f (Denied (denial.NotYet a)) n le more = omega arith
follow before f (Denied (denial.Released a x)) n le more = omega arith
follow before f (Denied denial.NoMemory) n le more = tt
follow before f (Denied denial.Shut) n le more = tt

-- what stands before the line of a place has a front less than the place, and holds what earlier replies rest on
earlier : (setup : Setup) (a : Account) (s p q v : ℕ) (before reply : Known) (t : Told setup a s q reply) → IsAccount setup a → p < q
    → slice_get (a.replies s) p ≡ Some before → slice_get (a.replies s) q ≡ Some reply → reply.reply ≡ Reply (outcome.Placed v)
    → front (take before.knew a.lines) < front (take reply.knew a.lines)
earlier setup a s p q v before reply t k less first second is =
    let z = is-placed setup a s q v t.asked reply t.right is in
    let rising = (k.seats s).rising p q before t.asked reply less first t.here second in
    let m : made s t.asked reply.reply ≡ line.Entry (entry_of s t.asked.seq z.parts) ∷ [] =
    ap (made s t.asked) is ∙ ap (λ (c : Command). made s (record { seq = t.asked.seq; command = c }) (Reply (outcome.Placed v))) z.is in
    let one : length (made s t.asked reply.reply) ≡ 1 = ap length m in
    let long = z.ends.long in
    let h = front-take a.lines before.knew (length z.ends.before) (omega arith) in
    let u = ap front (before-is a.lines reply.knew (line.Entry (entry_of s t.asked.seq z.parts)) z.ends) in
    let f = ap front z.ends.first ∙ front-entry z.ends.before (entry_of s t.asked.seq z.parts) in
    omega arith

pub session-order : (setup : Setup) (a : Account) → IsAccount setup a → IsInSessionOrder (replies_in a)
session-order setup a k s p q before reply less first second =
    let x = known-of a s p before first in
    let y = known-of a s q reply second in
    let c = told-of setup a s p x.0 k x.1 in
    let d = told-of setup a s q y.0 k y.1 in
    let rises = knew-rises setup a s p q x.0 y.0 k less x.1 y.1 in
    to_some (λ (v : ℕ). MayFollow v reply) (number before) (λ v has.
    (let here : v ≡ front (take (x.0).knew a.lines) = number-is setup a s p c.asked x.0 before v c.right x.2 has in
    follow v (front (take (y.0).knew a.lines)) reply
    (subst (λ (r : LogLine). IfSome (number r) (λ n. n ≡ front (take (y.0).knew a.lines))) y.2 d.right.number)
    (let t = front-take a.lines (x.0).knew (y.0).knew rises in omega arith)
    (λ w is. (let e = earlier setup a s p q w x.0 y.0 d k less x.1 y.1 (y.2 ∙ is) in omega arith))))

-- Refusals

-- what is refused on first lines is refused so on the graph of their front
refused-at : (setup : Setup) (lines : List Line) (k f : ℕ) (parts : List Update) (r : Refusal) → f ≡ front (take k lines)
    → option_map (refused_at (front (take k lines))) (refusal_of (after setup.opening (take k lines) (front (take k lines))) parts) ≡ Some r
    → option_map (refused_at f) (refusal_of (after setup.opening lines f) parts) ≡ Some r
refused-at setup lines k f parts r at said =
    ap (λ (v : ℕ). option_map (refused_at v) (refusal_of (after setup.opening lines v) parts)) at
    ∙ ap (λ (g : PlainGraph). option_map (refused_at (front (take k lines))) (refusal_of g parts))
    (sym (after-take setup.opening lines k (front (take k lines)) (omega arith)))
    ∙ said

says-refused : (setup : Setup) (known : List Line) (parts : List Update) (r : Refusal) (f : ℕ) → number (Reply (outcome.Refused r)) ≡ Some f
    → SaysRefused setup known parts r
    → option_map (refused_at (front known)) (refusal_of (after setup.opening known (front known)) parts) ≡ Some r
says-refused setup known parts refusal.NoMemory f has h = absurd (cc)
says-refused setup known parts (refusal.NoVertex a p i) f has h = h
says-refused setup known parts (refusal.NoEdge a p) f has h = h
says-refused setup known parts (refusal.Limit a p x) f has h = h

judged-refused : (setup : Setup) (a : Account) (s q f : ℕ) (asked : Asked) (parts : List Update) (r : Refusal) → IsAccount setup a
    → slice_get (a.commands s) q ≡ Some asked → asked.command ≡ command.Change parts → HasReply (replies_in a) s q (Reply (outcome.Refused r))
    → number (Reply (outcome.Refused r)) ≡ Some f
    → (f ≤ front a.lines) × (option_map (refused_at f) (refusal_of (after setup.opening a.lines f) parts) ≡ Some r)
judged-refused setup a s q f asked parts r k here is has num =
    let known = known-of a s q (Reply (outcome.Refused r)) has in
    let right = (k.seats s).right q asked known.0 here known.1 in
    let at = number-is setup a s q asked known.0 (Reply (outcome.Refused r)) f right known.2 num in
    let said : SaysRefused setup (take (known.0).knew a.lines) parts r =
    subst (λ (c : Command). Says setup (take (known.0).knew a.lines) (forests_in a) c (question_of c (last_placed 0 (take q (a.replies s)))) (Reply (outcome.Refused r))) is
    (says-is setup a s q asked known.0 (Reply (outcome.Refused r)) right known.2) in
    let w = front-within a.lines (known.0).knew right.within in
    ((omega arith), refused-at setup a.lines (known.0).knew f parts r at (says-refused setup (take (known.0).knew a.lines) parts r f num said))

judged-marked : (setup : Setup) (a : Account) (s q f u upto : ℕ) (asked : Asked) → IsAccount setup a → slice_get (a.commands s) q ≡ Some asked
    → asked.command ≡ command.Release upto → HasReply (replies_in a) s q (Reply (outcome.Marked f u)) → (u ≡ upto) × (u ≤ f)
judged-marked setup a s q f u upto asked k here is has =
    let known = known-of a s q (Reply (outcome.Marked f u)) has in
    let right = (k.seats s).right q asked known.0 here known.1 in
    let said = says-marked setup (take (known.0).knew a.lines) (forests_in a) asked.command (last_placed 0 (take q (a.replies s))) f u
    (says-is setup a s q asked known.0 (Reply (outcome.Marked f u)) right known.2) in
    (release-same u upto (sym said.0 ∙ is), said.1)
  where
    release-same : (x y : ℕ) → command.Release x ≡ command.Release y → x ≡ y
    release-same x y h = cc

judged-not_yet : (setup : Setup) (a : Account) (s q f upto : ℕ) (asked : Asked) → IsAccount setup a → slice_get (a.commands s) q ≡ Some asked
    → asked.command ≡ command.Release upto → HasReply (replies_in a) s q (Reply (outcome.NotYet f)) → (f < upto) × (f ≤ front a.lines)
judged-not_yet setup a s q f upto asked k here is has =
    let known = known-of a s q (Reply (outcome.NotYet f)) has in
    let right = (k.seats s).right q asked known.0 here known.1 in
    let at = number-is setup a s q asked known.0 (Reply (outcome.NotYet f)) f right known.2 refl in
    let said : f < upto =
    subst (λ (c : Command). Says setup (take (known.0).knew a.lines) (forests_in a) c (question_of c (last_placed 0 (take q (a.replies s)))) (Reply (outcome.NotYet f))) is
    (says-is setup a s q asked known.0 (Reply (outcome.NotYet f)) right known.2) in
    let w = front-within a.lines (known.0).knew right.within in
    (said, omega arith)

pub judged : (setup : Setup) (a : Account) → IsAccount setup a → AreJudged setup a.commands (replies_in a) a.lines
judged setup a k = record {
  accepted = k.accepted;
  refused = λ s q f asked parts r here is has num. judged-refused setup a s q f asked parts r k here is has num;
  marked = λ s q f u upto asked here is has. judged-marked setup a s q f u upto asked k here is has;
  not_yet = λ s q f upto asked here is has. judged-not_yet setup a s q f upto asked k here is has;
}

-- Kinds

says-kind : (setup : Setup) (known : List Line) (forests : ℕ → List Forest) (c : Command) (last : ℕ) (r : LogLine)
    → Says setup known forests c (question_of c last) r → IsTrue (can_have c r)
says-kind setup known forests (command.Change parts) last (Reply (outcome.Placed v)) h = refl
says-kind setup known forests (command.Change parts) last (Reply (outcome.Refused r)) h = refl
says-kind setup known forests (command.Release upto) last (Reply (outcome.Marked n u)) h = refl
says-kind setup known forests (command.Release upto) last (Reply (outcome.NotYet n)) h = refl
says-kind setup known forests (command.Release upto) last (Reply (outcome.Refused refusal.NoMemory)) h = refl
says-kind setup known forests command.Leave last (Reply (outcome.Left n)) h = refl
says-kind setup known forests command.Leave last (Reply (outcome.Refused refusal.NoMemory)) h = refl
says-kind setup known forests (command.Change parts) last _ h = absurd h
says-kind setup known forests (command.Release upto) last _ h = absurd h
says-kind setup known forests command.Leave last _ h = absurd h
says-kind setup known forests (command.Value version a x) last (Answer (answer.Value f p value)) h = refl
says-kind setup known forests (command.Parent version a x) last (Answer (answer.Parent f p parent)) h = refl
says-kind setup known forests (command.Path version a x) last (Answer (answer.Path f p vertices)) h = refl
says-kind setup known forests (command.Modified version a) last (Answer (answer.Modified f p vertices)) h = refl
says-kind setup known forests command.Current last (Answer (answer.Current f low)) h = refl
says-kind setup known forests (command.Value version a x) last (Denied (denial.NotYet f)) h = refl
says-kind setup known forests (command.Parent version a x) last (Denied (denial.NotYet f)) h = refl
says-kind setup known forests (command.Path version a x) last (Denied (denial.NotYet f)) h = refl
says-kind setup known forests (command.Modified version a) last (Denied (denial.NotYet f)) h = refl
says-kind setup known forests (command.Value version a x) last (Denied (denial.Released f low)) h = refl
says-kind setup known forests (command.Parent version a x) last (Denied (denial.Released f low)) h = refl
says-kind setup known forests (command.Path version a x) last (Denied (denial.Released f low)) h = refl
says-kind setup known forests (command.Modified version a) last (Denied (denial.Released f low)) h = refl
says-kind setup known forests (command.Path version a x) last (Denied denial.NoMemory) h = refl
says-kind setup known forests (command.Modified version a) last (Denied denial.NoMemory) h = refl
says-kind setup known forests (command.Value version a x) last (Denied denial.NoMemory) h = absurd (cc)
says-kind setup known forests (command.Parent version a x) last (Denied denial.NoMemory) h = absurd (cc)
says-kind setup known forests command.Current last (Denied denial.NoMemory) h = absurd (cc)
says-kind setup known forests (command.Value version a x) last _ h = absurd h.bare
says-kind setup known forests (command.Parent version a x) last _ h = absurd h.bare
says-kind setup known forests (command.Path version a x) last _ h = absurd h.bare
says-kind setup known forests (command.Modified version a) last _ h = absurd h.bare
says-kind setup known forests command.Current last _ h = absurd h.bare

pub kinds : (setup : Setup) (a : Account) → IsAccount setup a → HasKinds a.commands (replies_in a)
kinds setup a k = record {
  few = λ s. (let f = (k.seats s).few in let e = length-map (a.replies s) (λ (x : Known). x.reply) in omega arith);
  kinds = λ s q asked reply here has. (
      let known = known-of a s q reply has in
      let right = (k.seats s).right q asked known.0 here known.1 in
      says-kind setup (take (known.0).knew a.lines) (forests_in a) asked.command (last_placed 0 (take q (a.replies s))) reply
      (says-is setup a s q asked known.0 reply right known.2));
}

-- want of memory is no kind of any other reply
wanting-kind : (c : Command) (r : LogLine) → IsTrue (can_have c r) → IsTrue (wants_memory r) → IsTrue (may_want_memory c)
wanting-kind (command.Change parts) r can wants = refl
wanting-kind (command.Release upto) r can wants = refl
wanting-kind command.Leave r can wants = refl
wanting-kind (command.Path version a x) r can wants = refl
wanting-kind (command.Modified version a) r can wants = refl
wanting-kind (command.Value version a x) (Reply o) can wants = absurd (cc)
wanting-kind (command.Value version a x) (Answer o) can wants = absurd (cc)
wanting-kind (command.Value version a x) (Denied denial.NoMemory) can wants = absurd (cc)
wanting-kind (command.Value version a x) (Denied denial.Shut) can wants = absurd (cc)
wanting-kind (command.Value version a x) (Denied (denial.NotYet f)) can wants = absurd (cc)
wanting-kind (command.Value version a x) (Denied (denial.Released f low)) can wants = absurd (cc)
wanting-kind (command.Parent version a x) (Reply o) can wants = absurd (cc)
wanting-kind (command.Parent version a x) (Answer o) can wants = absurd (cc)
wanting-kind (command.Parent version a x) (Denied denial.NoMemory) can wants = absurd (cc)
wanting-kind (command.Parent version a x) (Denied denial.Shut) can wants = absurd (cc)
wanting-kind (command.Parent version a x) (Denied (denial.NotYet f)) can wants = absurd (cc)
wanting-kind (command.Parent version a x) (Denied (denial.Released f low)) can wants = absurd (cc)
wanting-kind command.Current (Reply o) can wants = absurd (cc)
wanting-kind command.Current (Answer o) can wants = absurd (cc)
wanting-kind command.Current (Denied d) can wants = absurd (cc)

pub wanting : (setup : Setup) (a : Account) → IsAccount setup a → IsWantingRightly a.commands (replies_in a)
wanting setup a k s q asked reply here has wants = wanting-kind asked.command reply ((kinds setup a k).kinds s q asked reply here has) wants
