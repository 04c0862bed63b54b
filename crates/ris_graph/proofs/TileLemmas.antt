-- The triples of tiles, one tile after the other.
use Rattle.std.proofs.Common.{◌≡◌, ℕ, ◌+◌, ◌<◌, ◌≤◌, List, [], ◌∷◌, ◌++◌, length, get_or, take, arith, sym, subst, ap, ◌∙◌, Vec, Global}
use Rattle.std.specs.List.{All}
use Rattle.std.proofs.lemmas.List.{append-nil, take_more}
use Rattle.std.proofs.lemmas.List.Concat.{flat_map-append, get_or-flat_map}
use Rattle.std.proofs.lemmas.List.Folds.{length-flat_map-take}
use Rattle.ris_base.specs.declared.graphs.Triple.{Triple}
use Rattle.ris_graph.specs.Tiles.{tiled}

abbrev items : Vec Triple Global → List Triple
items v = v.items

-- one tile more
pub tiled_more : (tiles : List (Vec Triple Global)) (i : ℕ) (tile : Vec Triple Global) → i < length tiles → tile ≡ get_or tiles i tile
    → tiled (take (i + 1) tiles) ≡ tiled (take i tiles) ++ tile.items
tiled_more tiles i tile lt is =
    ap tiled (take_more tiles i tile lt) ∙ flat_map-append items (take i tiles) (get_or tiles i tile ∷ [])
    ∙ ap (λ l. tiled (take i tiles) ++ l) (append-nil (get_or tiles i tile).items ∙ sym (ap items is))

-- a tile, and those before it, have no more triples than all
pub tile-fits : (tiles : List (Vec Triple Global)) (i : ℕ) (tile : Vec Triple Global) → i < length tiles → tile ≡ get_or tiles i tile
    → length (tiled (take i tiles)) + length tile.items ≤ length (tiled tiles)
tile-fits tiles i tile lt is =
    rw (ap items is) (length-flat_map-take items tiles i tile lt)

-- what holds of all triples holds of those of each tile
pub All-tile : (P : Triple → Type 0) (tiles : List (Vec Triple Global)) (i : ℕ) (tile : Vec Triple Global) → i < length tiles → tile ≡ get_or tiles i tile
    → All P (tiled tiles) → All P tile.items
All-tile P tiles i tile lt is all j d within =
    let fits = tile-fits tiles i tile lt is in
    let there = get_or-flat_map items tiles i j tile d lt (rw (← ap items is) within) in
    subst P (there ∙ ap (λ (l : List Triple). get_or l j d) (sym (ap items is))) (all (length (tiled (take i tiles)) + j) d (omega arith))
