use Rattle.std.proofs.Common.{◌≡◌, ◌≤◌, ◌∷◌, [], ◌++◌, ap, ◌∙◌, sym, arith, subst, vec_len, vec_capacity}
use Rattle.ris_journal.specs.JournalView.{JournalView, IsSound}
use Rattle.ris_journal.proofs.Positions.{sound-entry, sound-other}
use Rattle.ris_journal.proofs.journals.Journal.append.Goals as goal
use Rattle.ris_journal.proofs.journals.Journal.append.Goals.{in-Entry, in_default}

pub invariant_of-self : goal.invariant_of-self
invariant_of-self c =
    let room : 1 ≤ c.self.inside.spare = (let e = ap (λ (j : JournalView). j.spare) c.self.view_is in let r = c.requires.room in omega arith) in
    let old = c.self.inside in
    let new = c.push_reserved-2 in
    elim c.match-line.branch [
      | in-Entry w ↦
          rw w.self-inside-is (sound-entry old.lines new.new.self old.positions w.push_reserved.new.self old.spare w.in-Entry.field-0 c.self.invariant room
          (rw (w.self-inside-is, w.in-Entry.is) at new.ensures.items) (rw w.self-inside-is at new.ensures.len) (rw w.self-inside-is at new.ensures.capacity)
          (rw w.len.ensures at w.push_reserved.ensures.items) w.push_reserved.ensures.len w.push_reserved.ensures.capacity)
      | in_default w ↦
          rw w.self-inside-is (sound-other old.lines new.new.self old.positions old.spare c.args.line c.self.invariant room w.in_default.not-Entry
          (rw w.self-inside-is at new.ensures.items) (rw w.self-inside-is at new.ensures.len) (rw w.self-inside-is at new.ensures.capacity))
    ]
