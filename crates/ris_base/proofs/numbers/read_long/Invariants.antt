use Rattle.std.proofs.Common.{◌≡◌, ◌<◌, ◌^◌, drop}
use Rattle.std.specs.List.{list_all}
use Rattle.ris_base.specs.Number.{is_digit, spelled_behind}
use Rattle.ris_base.proofs.numbers.read_long.Given as goal

abbrev pub invariant-loop-digit : goal.invariant-loop-digit
invariant-loop-digit l =
    (spelled_behind l.number (drop l.digit-index l.field) ≡ spelled_behind 0 l.field)
    × (list_all is_digit (drop l.digit-index l.field) ≡ list_all is_digit l.field)
    × (l.number < 2 ^ 64)
