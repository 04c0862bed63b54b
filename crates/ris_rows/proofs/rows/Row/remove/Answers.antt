use Rattle.std.proofs.Common.{◌≡◌, ℕ, ◌-◌, sym, ◌∙◌, ap, arith, List, length, vec_len, vec_capacity}
use Rattle.std.proofs.lemmas.Bool.{OnFalse_from, ltb-false}
use Rattle.ris_rows.specs.declared.neighbours.Neighbour.{Neighbour}
use Rattle.ris_rows.specs.RowView.{RowView}
use Rattle.ris_rows.specs.Neighbours.{copies_of}
use Rattle.ris_rows.proofs.Changes.{IsAscending-counted, copies_of-fewer, counted-none}
use Rattle.ris_rows.proofs.Positions.{copies_of-missing, has-none}
use Rattle.ris_rows.proofs.rows.Row.remove.Goals as goal

row_from_parts : (a b : List Neighbour) (m n : ℕ) → a ≡ b → m ≡ n → (let x : RowView = record { items = a; spare = m } in x) ≡ record { items = b; spare = n }
row_from_parts a b m n p q = cc

pub write-requires-clause-room : goal.write-requires-clause-room
write-requires-clause-room g c missing some =
    let read : c.copies_at-copies.result ≡ copies_of c.self.inside.items.items c.args.end c.args.weight = rw c.deref-2.ensures.value at c.copies_at-copies.ensures in
    let none = copies_of-missing c.self.inside.items.items c.args.end c.args.weight c.self.invariant missing in
    absurd (omega arith)

pub invariant_of-self : goal.invariant_of-self
invariant_of-self g c = rw c.write.ensures.items (IsAscending-counted c.self.inside.items.items c.args.end c.args.weight c.saturating_sub.result c.self.invariant)

pub returns-clause-counts : goal.returns-clause-counts
returns-clause-counts g c e w =
    let read : c.copies_at-copies.result ≡ copies_of c.self.inside.items.items c.args.end c.args.weight = rw c.deref-2.ensures.value at c.copies_at-copies.ensures in
    rw (c.write.ensures.items, c.saturating_sub.ensures, read, ← c.self.view_is) (copies_of-fewer c.self.inside.items.items c.args.end c.args.weight e w c.self.invariant)

pub returns-clause-unchanged : goal.returns-clause-unchanged
returns-clause-unchanged g c =
    let read : c.copies_at-copies.result ≡ copies_of c.self.inside.items.items c.args.end c.args.weight = rw c.deref-2.ensures.value at c.copies_at-copies.ensures in
    OnFalse_from _ _ (λ none.
    let zero : c.copies_at-copies.result ≡ 0 = (let z = ltb-false 0 c.copies_at-copies.result none in omega arith) in
    let missing = has-none c.self.inside.items.items c.args.end c.args.weight c.self.invariant (sym read ∙ zero) in
    let items : c.write.new.items.items ≡ c.self.inside.items.items
    = c.write.ensures.items ∙ rw (c.saturating_sub.ensures, zero) (counted-none c.self.inside.items.items c.args.end c.args.weight missing) in
    let long = c.write.new.items.ok.0 in
    let was = c.self.inside.items.ok.0 in
    let same = ap length items in
    let capacity = c.write.ensures.capacity in
    let spare : vec_capacity c.write.new.items - vec_len c.write.new.items ≡ vec_capacity c.self.inside.items - vec_len c.self.inside.items = omega arith in
    row_from_parts _ _ _ _ items spare ∙ c.self.view_is)

pub returns-clause-ascending : goal.returns-clause-ascending
returns-clause-ascending g c = rw c.write.ensures.items (IsAscending-counted c.self.inside.items.items c.args.end c.args.weight c.saturating_sub.result c.self.invariant)
