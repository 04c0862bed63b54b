-- Every account is legal.
use Rattle.ris_base.specs.Answers.{Setup}
use Rattle.ris_base.specs.Legal.{IsLegal}
use Rattle.ris_legal.specs.Account.{Account, IsAccount, replies_in}
use Rattle.ris_legal.proofs.EachOnce.{each-once}
use Rattle.ris_legal.proofs.Judged.{judged, kinds, session-order, wanting}
use Rattle.ris_legal.proofs.ReadsOf.{one-forest, reads}

pub legal : (setup : Setup) (a : Account) → IsAccount setup a → IsLegal setup a.commands (replies_in a) a.lines
legal setup a k = record {
  kinds = kinds setup a k;
  each_once = each-once setup a k;
  session_order = session-order setup a k;
  judged = judged setup a k;
  reads = reads setup a k;
  one_forest = one-forest setup a k;
  want_of_memory = wanting setup a k;
}
