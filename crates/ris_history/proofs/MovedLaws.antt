-- Which vertices a history says that an entry moved, by the records that made it.
use Rattle.std.proofs.Common.{◌≡◌, ℕ, zero, suc, ◌+◌, ◌-◌, ◌≤◌, ◌⊎◌, inl, inr, List, [], ◌∷◌, get_or, take, Some, arith, refl, sym, ap, ◌∙◌}
use Rattle.std.specs.Prelude.{fold}
use Rattle.std.specs.List.{slice_get}
use Rattle.std.proofs.lemmas.Bool.{ne_eqb}
use Rattle.std.proofs.lemmas.List.{get_or-take}
use Rattle.ris_base.specs.Lines.{front}
use Rattle.ris_base.specs.Records.{lines_of}
use Rattle.ris_base.specs.declared.lines.Entry.{Entry}
use Rattle.ris_base.specs.declared.lines.Line.{Line}
use Rattle.ris_base.specs.declared.lines.Line.TheVariants as line
use Rattle.ris_base.specs.declared.records.Change.{Change}
use Rattle.ris_base.specs.declared.records.Record.{Record}
use Rattle.ris_history.specs.Applied.{entered, entered_table, trimmed_table, raised, applied_line, applied, moved_by}
use Rattle.ris_history.specs.HistoryView.{HistoryView, moved_at}
use Rattle.ris_history.specs.declared.moves.Moved.{Moved}
use Rattle.ris_history.proofs.ValueLaws.{floor-fold, front-applied, analyses-applied}

-- the list of a place behind place 0
listed : (h : HistoryView) (v : ℕ) → 1 ≤ v → moved_at h v ≡ get_or h.moved (h.table.front - v) []
listed h v some = let past = ne_eqb v 0 (λ e. omega arith) in rw past refl

-- a raised floor keeps the lists of the places from it on
kept_list : (ms : List (List Moved)) (front f v : ℕ) → 1 ≤ v → v ≤ front → f ≤ v → get_or (take (front - (f - 1)) ms) (front - v) [] ≡ get_or ms (front - v) []
kept_list ms front f v some within low = get_or-take (front - (f - 1)) ms (front - v) [] (omega arith)

moved-applied : (h : HistoryView) (l : Line) (ds : List Change) (v : ℕ) → 1 ≤ v → v ≤ h.table.front → (applied_line h l ds).floor ≤ v
    → moved_at (applied_line h l ds) v ≡ moved_at h v
unfolding applied_line entered raised entered_table trimmed_table
moved-applied h (line.Entry e) ds v some within low =
    let after = applied_line h (line.Entry e) ds in
    let next : h.table.front + 1 - v ≡ suc (h.table.front - v) = omega arith in
    listed after v some ∙ ap (λ k. get_or (moved_by h.table.analyses ds ∷ h.moved) k []) next ∙ sym (listed h v some)
moved-applied h (line.Mark s q u) ds v some within low =
    let after = applied_line h (line.Mark s q u) ds in
    listed after v some ∙ kept_list h.moved h.table.front after.floor v some within low ∙ sym (listed h v some)
moved-applied h (line.Leave s q) ds v some within low =
    let after = applied_line h (line.Leave s q) ds in
    listed after v some ∙ kept_list h.moved h.table.front after.floor v some within low ∙ sym (listed h v some)

moved-fold : (h : HistoryView) (rs : List Record) (v : ℕ) → 1 ≤ v → v ≤ h.table.front → (fold applied h rs).floor ≤ v → moved_at (fold applied h rs) v ≡ moved_at h v
moved-fold h [] v some within low = refl
moved-fold h (r ∷ rs) v some within low =
    let rises = front-applied h r.line r.changes in
    let more = floor-fold (applied h r) rs in
    moved-fold (applied h r) rs v some (omega arith) low ∙ moved-applied h r.line r.changes v some within (omega arith)

-- the record of the entry that is v entries past the front, and what it moved
pub record IsEntered (h : HistoryView) (rs : List Record) (v : ℕ) : Type 0 where
  pub index : ℕ
  pub entry : Entry
  pub rec : Record
  pub at : slice_get rs index ≡ Some rec
  pub is : rec.line ≡ line.Entry entry
  pub place : front (lines_of (take index rs)) + 1 ≡ v
  pub moved : moved_at (fold applied h rs) (h.table.front + v) ≡ moved_by h.table.analyses rec.changes

-- this line is the entry
record IsHere (h : HistoryView) (l : Line) (ds : List Change) (rs : List Record) (v : ℕ) : Type 0 where
  entry : Entry
  is : l ≡ line.Entry entry
  place : 1 ≡ v
  moved : moved_at (fold applied (applied_line h l ds) rs) (h.table.front + v) ≡ moved_by h.table.analyses ds

-- a later one is
record IsLater (h : HistoryView) (l : Line) (ds : List Change) (rs : List Record) (v : ℕ) : Type 0 where
  index : ℕ
  entry : Entry
  rec : Record
  at : slice_get rs index ≡ Some rec
  is : rec.line ≡ line.Entry entry
  place : front (l ∷ lines_of (take index rs)) + 1 ≡ v
  moved : moved_at (fold applied (applied_line h l ds) rs) (h.table.front + v) ≡ moved_by h.table.analyses rec.changes

later-than : (h : HistoryView) (l : Line) (ds : List Change) (rs : List Record) (v w : ℕ) → (applied_line h l ds).table.front + w ≡ h.table.front + v
    → ((i : ℕ) → front (lines_of (take i rs)) + 1 ≡ w → front (l ∷ lines_of (take i rs)) + 1 ≡ v) → IsEntered (applied_line h l ds) rs w → IsLater h l ds rs v
later-than h l ds rs v w same places e = record {
  index = e.index;
  entry = e.entry;
  rec = e.rec;
  at = e.at;
  is = e.is;
  place = places e.index e.place;
  moved = ap (moved_at (fold applied (applied_line h l ds) rs)) (sym same) ∙ e.moved ∙ ap (λ n. moved_by n e.rec.changes) (analyses-applied h l ds);
}

entered-line : (h : HistoryView) (rs : List Record) (l : Line) (ds : List Change) (v : ℕ) → 1 ≤ v → v ≤ front (l ∷ lines_of rs)
    → (fold applied (applied_line h l ds) rs).floor ≤ h.table.front + v
    → ((w : ℕ) → 1 ≤ w → w ≤ front (lines_of rs) → (fold applied (applied_line h l ds) rs).floor ≤ (applied_line h l ds).table.front + w → IsEntered (applied_line h l ds) rs w)
    → IsHere h l ds rs v ⊎ IsLater h l ds rs v
unfolding applied_line entered raised entered_table trimmed_table front
entered-line h rs (line.Entry e) ds zero some within low more = absurd (omega arith)
entered-line h rs (line.Entry e) ds (suc zero) some within low more =
    let after = applied_line h (line.Entry e) ds in
    let place : h.table.front + 1 ≡ after.table.front = refl in
    let index : h.table.front + 1 - (h.table.front + 1) ≡ 0 = omega arith in
    let own : moved_at after (h.table.front + 1) ≡ moved_by h.table.analyses ds = listed after (h.table.front + 1) (omega arith) ∙ ap (λ k. get_or after.moved k []) index in
    inl (record { entry = e; is = refl; place = refl; moved = moved-fold after rs (h.table.front + 1) (omega arith) (omega arith) low ∙ own })
entered-line h rs (line.Entry e) ds (suc (suc v)) some within low more =
    let place : h.table.front + 1 + suc v ≡ h.table.front + suc (suc v) = omega arith in
    inr (later-than h (line.Entry e) ds rs (suc (suc v)) (suc v) place (λ i p. omega arith)
    (more (suc v) (omega arith) (omega arith) (omega arith)))
entered-line h rs (line.Mark s q u) ds v some within low more = inr (later-than h (line.Mark s q u) ds rs v v refl (λ i p. p) (more v some within low))
entered-line h rs (line.Leave s q) ds v some within low more = inr (later-than h (line.Leave s q) ds rs v v refl (λ i p. p) (more v some within low))

pub entered-at : (h : HistoryView) (rs : List Record) (v : ℕ) → 1 ≤ v → v ≤ front (lines_of rs) → (fold applied h rs).floor ≤ h.table.front + v → IsEntered h rs v
unfolding front
entered-at h [] v some within low = absurd (omega arith)
entered-at h (r ∷ rs) v some within low =
    elim (entered-line h rs r.line r.changes v some within low (λ w a b c. entered-at (applied h r) rs w a b c)) [
      | inl x ↦ record { index = 0; entry = x.entry; rec = r; at = refl; is = x.is; place = x.place; moved = x.moved }
      | inr x ↦ record { index = suc x.index; entry = x.entry; rec = x.rec; at = x.at; is = x.is; place = x.place; moved = x.moved }
    ]
