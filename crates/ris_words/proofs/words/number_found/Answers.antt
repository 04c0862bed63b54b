use Rattle.std.proofs.Common.{refl}
use Rattle.clap.specs.Words.{found_of}
use Rattle.clap.proofs.WalkLemmas.{first_value-rows}
use Rattle.ris_words.proofs.words.number_found.Goals as goal

pub returns-in-Some : goal.returns-in-Some
returns-in-Some c =
    let found = first_value-rows (found_of c.args.found.now) c.args.option.now in
    rw (← found, ← c.in-Some.ensures, ← c.as_bytes.ensures.value, ← c.read_number.ensures) c.unwrap_or.ensures

pub returns-in-None : goal.returns-in-None
returns-in-None c =
    let found = first_value-rows (found_of c.args.found.now) c.args.option.now in
    rw (← found, ← c.in-None.ensures) refl
