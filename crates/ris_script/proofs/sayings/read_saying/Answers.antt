use Rattle.std.proofs.Common.{drop, sym}
use Rattle.csv.specs.Records.{fields_of}
use Rattle.ris_script.proofs.SayingLemmas.{said_nothing, said_part}
use Rattle.ris_script.specs.Sayings.{update_word_meaning}
use Rattle.ris_script.proofs.sayings.read_saying.Goals as goal

pub returns-in-Some : goal.returns-in-Some
returns-in-Some c =
    let says = c.in-Some.ensures {u = tt} in
    rw c.in-Update.is (sym (said_part c.args.analyses (update_word_meaning c.in-Update.word) (drop 2 (fields_of c.args.row.now)) c.in-Some.update says))

pub returns-in-None : goal.returns-in-None
returns-in-None c =
    let says = c.in-None.ensures {u = tt} in
    rw c.in-Update.is (sym (said_nothing c.args.analyses (update_word_meaning c.in-Update.word) (drop 2 (fields_of c.args.row.now)) says))
