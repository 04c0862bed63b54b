-- Where the entries stand in a list of lines.
use Rattle.std.proofs.Common.{◌≡◌, ◌≢◌, ℕ, zero, suc, ◌+◌, ◌-◌, ◌<◌, ◌≤◌, Vec, vec_len, vec_capacity, List, [], ◌∷◌, ◌++◌, length, get_or, Option, Some, None, arith, refl, sym, ap, ◌∙◌, add-one}
use Rattle.std.specs.List.{slice_get}
use Rattle.std.specs.declared.alloc.Global.{Global}
use Rattle.std.proofs.lemmas.Option.{slice_get_within}
use Rattle.std.proofs.lemmas.Grind.{get_or_default_zero}
use Rattle.std.proofs.lemmas.List.{append-nil}
use Rattle.ris_base.specs.Lines.{front, entry_at}
use Rattle.ris_base.specs.declared.lines.Entry.{Entry}
use Rattle.ris_base.specs.declared.lines.Line.{Line}
use Rattle.ris_base.specs.declared.lines.Line.TheVariants as line
use Rattle.ris_journal.specs.JournalView.{positions_from, IsSound}

-- there are as many positions as entries
pub length-positions_from : (i : ℕ) (lines : List Line) → length (positions_from i lines) ≡ front lines
unfolding front
length-positions_from i [] = refl
length-positions_from i (line.Entry e ∷ lines) = let more = length-positions_from (i + 1) lines in omega arith
length-positions_from i (line.Mark s q u ∷ lines) = length-positions_from (i + 1) lines
length-positions_from i (line.Leave s q ∷ lines) = length-positions_from (i + 1) lines

-- the positions where one line more stands at the end
pub positions_from-push : (i : ℕ) (lines : List Line) (l : Line) → positions_from i (lines ++ l ∷ []) ≡ positions_from i lines ++ positions_from (i + length lines) (l ∷ [])
positions_from-push i [] l = ap (λ k. positions_from k (l ∷ [])) (omega arith)
positions_from-push i (line.Entry e ∷ lines) l =
    ap (λ ps. i ∷ ps) (positions_from-push (i + 1) lines l ∙ ap (λ k. positions_from (i + 1) lines ++ positions_from k (l ∷ [])) (omega arith))
positions_from-push i (line.Mark s q u ∷ lines) l =
    positions_from-push (i + 1) lines l ∙ ap (λ k. positions_from (i + 1) lines ++ positions_from k (l ∷ [])) (omega arith)
positions_from-push i (line.Leave s q ∷ lines) l =
    positions_from-push (i + 1) lines l ∙ ap (λ k. positions_from (i + 1) lines ++ positions_from k (l ∷ [])) (omega arith)

-- an entry that stands at a position
pub record StandsAt (i : ℕ) (lines : List Line) (k : ℕ) : Type 0 where
  pub index : ℕ
  pub entry : Entry
  pub position : get_or (positions_from i lines) k 0 ≡ i + index
  pub at : slice_get lines index ≡ Some (line.Entry entry)
  pub is : entry_at lines (suc k) ≡ Some entry

-- the position number k, from 0, is that of the entry at the place behind k
pub stands_at : (i : ℕ) (lines : List Line) (k : ℕ) → k < front lines → StandsAt i lines k
unfolding front entry_at
stands_at i [] k h = absurd (omega arith)
stands_at i (line.Entry e ∷ lines) zero h = record { index = 0; entry = e; position = omega arith; at = refl; is = refl }
stands_at i (line.Entry e ∷ lines) (suc k) h =
    let more = stands_at (i + 1) lines k (omega arith) in
    let place = more.position in
    record { index = suc more.index; entry = more.entry; position = omega arith; at = more.at; is = more.is }
stands_at i (line.Mark s q u ∷ lines) k h =
    let more = stands_at (i + 1) lines k h in
    let place = more.position in
    record { index = suc more.index; entry = more.entry; position = omega arith; at = more.at; is = more.is }
stands_at i (line.Leave s q ∷ lines) k h =
    let more = stands_at (i + 1) lines k h in
    let place = more.position in
    record { index = suc more.index; entry = more.entry; position = omega arith; at = more.at; is = more.is }

-- What an append leaves

-- an entry more, with its position
pub sound-entry : (lines more : Vec Line Global) (positions wider : Vec ℕ Global) (spare : ℕ) (e : Entry) → IsSound lines positions spare → 1 ≤ spare
    → more.items ≡ lines.items ++ line.Entry e ∷ [] → vec_len more ≡ vec_len lines + 1 → vec_capacity more ≡ vec_capacity lines
    → wider.items ≡ positions.items ++ vec_len lines ∷ [] → vec_len wider ≡ vec_len positions + 1 → vec_capacity wider ≡ vec_capacity positions
    → IsSound more wider (spare - 1)
sound-entry lines more positions wider spare e sound room is len cap found count space =
    let a = sound.lines_room in let b = sound.positions_room in
    record {
      found = found ∙ ap (λ ps. ps ++ vec_len lines ∷ []) sound.found ∙ ap (λ k. positions_from 0 lines.items ++ k ∷ []) (let x = lines.ok.0 in omega arith)
          ∙ sym (positions_from-push 0 lines.items (line.Entry e)) ∙ ap (positions_from 0) (sym is);
      lines_room = omega arith;
      positions_room = omega arith;
    }

-- a mark or a leave more
pub sound-other : (lines more : Vec Line Global) (positions : Vec ℕ Global) (spare : ℕ) (l : Line) → IsSound lines positions spare → 1 ≤ spare
    → ((e : Entry) → l ≢ line.Entry e) → more.items ≡ lines.items ++ l ∷ [] → vec_len more ≡ vec_len lines + 1 → vec_capacity more ≡ vec_capacity lines
    → IsSound more positions (spare - 1)
sound-other lines more positions spare l sound room other is len cap =
    let a = sound.lines_room in let b = sound.positions_room in
    record {
      found = sound.found ∙ sym (positions_from-push 0 lines.items l ∙ ap (λ ps. positions_from 0 lines.items ++ ps) (none l other) ∙ append-nil (positions_from 0 lines.items)) ∙ ap (positions_from 0) (sym is);
      lines_room = omega arith;
      positions_room = omega arith;
    }
  where
    none : (m : Line) → ((e : Entry) → m ≢ line.Entry e) → positions_from (0 + length lines.items) (m ∷ []) ≡ []
    none (line.Entry e) h = absurd (h e refl)
    none (line.Mark s q u) h = refl
    none (line.Leave s q) h = refl

-- What a look-up finds

-- the entry of a place stands at a position
pub record IsAt (lines : List Line) (v p : ℕ) : Type 0 where
  pub entry : Entry
  pub at : slice_get lines p ≡ Some (line.Entry entry)
  pub is : entry_at lines v ≡ Some entry

-- the position that the table has for a place is that of its entry
pub is_at : (lines : List Line) (positions : List ℕ) (v p n : ℕ) → positions ≡ positions_from 0 lines → n ≡ front lines → 0 < v → v ≤ n
    → p ≡ get_or positions (v - 1) p → IsAt lines v p
is_at lines positions v p n found front_is some few read =
    let s = stands_at 0 lines (v - 1) (omega arith) in
    let size = ap length found ∙ length-positions_from 0 lines in
    let same : p ≡ s.index = (let a = get_or_default_zero positions (v - 1) p (omega arith) in let b = ap (λ ps. get_or ps (v - 1) 0) found in let c = s.position in omega arith) in
    let place : suc (v - 1) ≡ v = omega arith in
    record { entry = s.entry; at = rw same s.at; is = ap (entry_at lines) (sym place) ∙ s.is }

-- reading the position gives the line that stands there
pub read-is : (lines : List Line) (p : ℕ) (l m : Line) → slice_get lines p ≡ Some l → m ≡ get_or lines p m → m ≡ l
read-is [] p l m h e = absurd (cc)
read-is (k ∷ lines) zero l m h e = cc
read-is (k ∷ lines) (suc p) l m h e = read-is lines p l m h e
