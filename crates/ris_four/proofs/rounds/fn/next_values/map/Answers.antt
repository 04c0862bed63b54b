use Rattle.std.proofs.Common.{length, sym, ◌∙◌, subst}
use Rattle.std.specs.List.{All}
use Rattle.ris_four.specs.Neighbours.{IsListed}
use Rattle.ris_four.proofs.NeighbourLemmas.{neighbours_at-read}
use Rattle.ris_four.proofs.rounds.fn.next_values.map.Goals as goal

pub best-requires : goal.best-requires
best-requires g c =
    let lists = c.captures.lists.now in
    let list = c.deref.ensures.value ∙ neighbours_at-read lists c.args.x c.index-lists-x.result c.requires.list c.index-lists-x.is in
    record {
      values = c.requires.values;
      neighbours = subst (All (IsListed (length c.captures.values.now))) (sym list) (c.requires.neighbours c.args.x c.requires.place);
    }
