use Rattle.std.proofs.Common.{rules, arith, sym}
use Rattle.ris_base.proofs.NumberLemmas.{number_of-empty, number_of-long}
use Rattle.ris_base.proofs.numbers.read_number.Goals as goal
use Rattle.ris_base.proofs.numbers.read_number.Goals.{then-is_empty-via-then-is_empty, then-is_empty-via-else-is_empty+then-field-gt20}

pub returns-then-is_empty : goal.returns-then-is_empty
returns-then-is_empty c =
    elim c.then-is_empty.branch [
      | then-is_empty-via-then-is_empty w ↦ sym (number_of-empty c.args.field.now (search rules))
      | then-is_empty-via-else-is_empty+then-field-gt20 w ↦ sym (number_of-long c.args.field.now (omega arith))
    ]
