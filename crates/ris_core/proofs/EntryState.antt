-- The state behind an entry more.
use Rattle.std.proofs.Common.{◌≡◌, ℕ, ◌+◌, List, [], ◌∷◌, ◌++◌, length, map, Some, refl, sym, ap, ◌∙◌}
use Rattle.std.specs.List.{slice_get, slice_set}
use Rattle.ris_base.specs.Forest.{forest_in}
use Rattle.ris_base.specs.Lines.{front}
use Rattle.ris_base.specs.Machine.{Seat, entry_of, placed, told_seat, with_seat}
use Rattle.ris_base.specs.declared.forests.ForestRow.{ForestRow}
use Rattle.ris_base.specs.declared.lines.Line.{Line}
use Rattle.ris_base.specs.declared.lines.Line.TheVariants as line
use Rattle.ris_base.specs.declared.replies.LogLine.{LogLine}
use Rattle.ris_base.specs.declared.replies.LogLine.TheVariants.{Reply}
use Rattle.ris_base.specs.declared.replies.Outcome.TheVariants as outcome
use Rattle.ris_base.specs.declared.updates.Update.{Update}
use Rattle.ris_core.specs.Moves.{tells}
use Rattle.ris_core.specs.Stands.{Listing, seats_of, state_of}
use Rattle.ris_core.proofs.StateLemmas.{seat-there, seats-set, set-length, within-there}

-- one item more in a mapped list
pub map-push : {X Y : Type 0} (f : X → Y) (xs : List X) (x : X) → map f (xs ++ x ∷ []) ≡ map f xs ++ f x ∷ []
map-push f [] x = refl
map-push f (y ∷ xs) x = ap (λ ys. f y ∷ ys) (map-push f xs x)

-- an entry more
pub state-placed : (l : Listing) (s : ℕ) (x : Seat) (seq : ℕ) (parts : List Update) (rows : List (List ForestRow)) → slice_get l.seats s ≡ Some x
    → state_of (record (tells l s x (Reply (outcome.Placed (front l.lines + 1))) (l.lines ++ line.Entry (entry_of s seq parts) ∷ [])) { places = l.places ++ rows ∷ [] }) ≡ record (state_of l) { book = placed (state_of l).book (entry_of s seq parts) (map forest_in rows) }
state-placed l s x seq parts rows there =
    let lines : List Line = l.lines ++ line.Entry (entry_of s seq parts) ∷ [] in
    let reply : LogLine = Reply (outcome.Placed (front l.lines + 1)) in
    let at : ◌≡◌ {A = ℕ → Seat} (seats_of l.published (slice_set l.seats s (told_seat x reply (length lines)))) (with_seat (seats_of l.published l.seats) s (told_seat (seats_of l.published l.seats s) reply (length lines))) =
    seats-set l.published l.seats s (told_seat x reply (length lines)) (within-there l.seats s x there)
    ∙ ap (λ (y : Seat). with_seat (seats_of l.published l.seats) s (told_seat y reply (length lines))) (sym (seat-there l s x there)) in
    λ i. record (state_of l) {
      setup = record (state_of l).setup { sessions = set-length l.seats s (told_seat x reply (length lines)) i };
      book = record { seats = at i; lines = lines; places = map-push (λ forests. map forest_in forests) l.places rows i };
    }
