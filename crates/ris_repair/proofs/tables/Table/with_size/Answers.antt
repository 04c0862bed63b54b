-- A place for each vertex, with no change.
use Rattle.std.proofs.Common.{List, replicate, length, get_or, None, arith, refl, sym, ap, ◌∙◌}
use Rattle.std.proofs.lemmas.List.{ext_get_or, get_or-replicate, length-replicate}
use Rattle.ris_repair.specs.Tables.{unmarked}
use Rattle.ris_repair.specs.declared.tables.Mark.{Mark}
use Rattle.ris_repair.proofs.PlaceLemmas.{length-changes, marked}
use Rattle.ris_repair.proofs.tables.Table.with_size.Goals as goal

pub grow-requires : goal.grow-requires
grow-requires c =
    omega (arith, length-changes c.new.result.items c.new-2.result.items c.new-3.result.items, ap length c.new.ensures.items)

pub returns : goal.returns
returns c =
    ext_get_or None c.grow.new.self (replicate c.args.size None) (c.in_ok-grow.ensures.len ∙ sym (length-replicate c.args.size None))
    (λ i lt. let below = c.in_ok-grow.ensures.len in
    c.in_ok-grow.ensures.same i
    ∙ marked c.new.result.items c.new-2.result.items c.new-3.result.items _ refl i unmarked (ap (λ (l : List Mark). get_or l i unmarked) c.new.ensures.items)
    ∙ sym (get_or-replicate c.args.size i None None (omega arith)))
