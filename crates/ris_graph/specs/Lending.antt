-- What a graph with jobs ends as, where its stripes are lent.
use Rattle.std.specs.Prelude.{List, length}
use Rattle.std.specs.Borrow.{Array, Fml, Lends, MutBor, RattleType}
use Rattle.std.specs.List.{refill}
use Rattle.ris_graph.specs.Phase.{LooseView}
use Rattle.ris_graph.specs.StripeView.{StripeView}
use Rattle.ris_graph.specs.contracts.looses.Loose.{the_row}
use Rattle.ris_graph.specs.contracts.stripes.Stripe.{the_row as stripe_row}

-- the graph whose stripes are the ones in a list, as far as it goes
abbrev pub with_stripes : LooseView → List StripeView → LooseView
with_stripes l stripes = record l { stripes = refill (length l.stripes) l.stripes stripes }

-- the stripes end as they are last behind the loan
abbrev pub LendsStripes : RattleType → MutBor LooseView → MutBor (List StripeView) → Fml
LendsStripes M l r = Lends (the_row M) (Array (stripe_row M) 0) l r (with_stripes l.now)
