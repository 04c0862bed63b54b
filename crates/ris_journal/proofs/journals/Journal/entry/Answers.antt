use Rattle.std.proofs.Common.{◌≡◌, ℕ, ◌+◌, ◌-◌, ◌<◌, ◌≤◌, suc, length, get_or, Some, ap, ◌∙◌, sym, arith, subst, vec_len, refl}
use Rattle.std.specs.List.{slice_get}
use Rattle.std.proofs.lemmas.List.{get_or_default}
use Rattle.ris_base.specs.Lines.{front, entry_at}
use Rattle.ris_base.specs.declared.lines.Line.{Line}
use Rattle.ris_base.proofs.LineLemmas.{entry_at-zero, entry_at-past}
use Rattle.ris_journal.specs.JournalView.{JournalView, IsSound, positions_from}
use Rattle.ris_base.specs.declared.lines.Entry.{Entry}
use Rattle.ris_base.specs.declared.lines.Line.TheVariants as line
use Rattle.std.proofs.lemmas.Option.{slice_get_within}
use Rattle.ris_journal.proofs.Positions.{IsAt, is_at, read-is, length-positions_from}
use Rattle.ris_journal.proofs.journals.Journal.entry.Goals as goal
use Rattle.ris_journal.proofs.journals.Journal.entry.Goals.{then-v-eq0-via-then-v-eq0, then-v-eq0-via-else-v-eq0+then-v-front}

pub returns-then-v-eq0 : goal.returns-then-v-eq0
returns-then-v-eq0 c =
    elim c.then-v-eq0.branch [
      | then-v-eq0-via-then-v-eq0 w ↦ rw w.if-v-eq0.true (sym (entry_at-zero c.args.self.now.lines))
      | then-v-eq0-via-else-v-eq0+then-v-front w ↦ sym (entry_at-past c.args.self.now.lines c.args.v (let e = w.front.ensures in let h = w.if-v-front.true in omega arith))
    ]

-- the entry at the place
within : (c : goal.After-self) → c.args.v - 1 < front c.self.inside.lines.items
within c =
    let lines = ap (λ (j : JournalView). front j.lines) c.self.view_is in
    let e = c.front.ensures in let a = c.if-v-eq0.false in let b = c.if-v-front.false in omega arith

pub index-position-requires : goal.index-position-requires
index-position-requires c =
    let w = within c in
    let size = ap length c.self.invariant.found ∙ length-positions_from 0 c.self.inside.lines.items in
    let len = c.self.inside.positions.ok.0 in
    omega arith

pub index-requires : goal.index-requires
index-requires c =
    let lines = c.self.inside.lines.items in
    let p = c.index-position.result.now in
    let all : c.front.result ≡ front c.self.inside.lines.items = c.front.ensures ∙ ap (λ (j : JournalView). front j.lines) (sym c.self.view_is) in
    let at = is_at lines c.self.inside.positions.items c.args.v p c.front.result c.self.invariant.found all (let h = c.if-v-eq0.false in omega arith) c.if-v-front.false c.index-position.ensures in
    let size = c.self.inside.lines.ok.0 in
    let within = slice_get_within lines p (line.Entry at.entry) at.at in
    omega arith

pub returns-in-Entry : goal.returns-in-Entry
returns-in-Entry c =
    let lines = c.self.inside.lines.items in
    let p = c.index-position.result.now in
    let all : c.front.result ≡ front c.self.inside.lines.items = c.front.ensures ∙ ap (λ (j : JournalView). front j.lines) (sym c.self.view_is) in
    let at = is_at lines c.self.inside.positions.items c.args.v p c.front.result c.self.invariant.found all (let h = c.if-v-eq0.false in omega arith) c.if-v-front.false c.index-position.ensures in
    let read = read-is lines p (line.Entry at.entry) c.index.result.now at.at c.index.ensures in
    let same : c.in-Entry.entry ≡ at.entry = cc (read, c.in-Entry.is) in
    ap (λ (e : Entry). Some e) same ∙ sym at.is ∙ ap (λ (j : JournalView). entry_at j.lines c.args.v) c.self.view_is

pub returns-in_default : goal.returns-in_default
returns-in_default c =
    let lines = c.self.inside.lines.items in
    let p = c.index-position.result.now in
    let all : c.front.result ≡ front c.self.inside.lines.items = c.front.ensures ∙ ap (λ (j : JournalView). front j.lines) (sym c.self.view_is) in
    let at = is_at lines c.self.inside.positions.items c.args.v p c.front.result c.self.invariant.found all (let h = c.if-v-eq0.false in omega arith) c.if-v-front.false c.index-position.ensures in
    absurd (c.in_default.not-Entry at.entry (read-is lines p (line.Entry at.entry) c.index.result.now at.at c.index.ensures))
