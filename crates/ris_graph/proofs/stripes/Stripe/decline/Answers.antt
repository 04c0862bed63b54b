use Rattle.std.proofs.Common.{◌≡◌, ◌<◌, true, length, get_or, refl, sym, subst, arith}
use Rattle.std.proofs.lemmas.List.{get_or_read}
use Rattle.ris_graph.specs.StripeView.{StripeView, CanDecline, no_job, waits}
use Rattle.ris_graph.specs.declared.stripes.StripeJob.{StripeJob}
use Rattle.ris_graph.proofs.StripeLemmas.{IsRead, IsStripe-declined, waits-declined}
use Rattle.ris_graph.proofs.stripes.Stripe.decline.Goals as goal

pub invariant_of-self : goal.invariant_of-self
invariant_of-self g c =
    let jobs = c.self.inside.jobs.items in
    let k = c.args.k in
    let old : StripeJob = c.index_mut.result.now in
    let j : StripeJob = record old { verdict = c.args.verdict } in
    let can = subst (λ (s : StripeView). CanDecline s k c.args.verdict) (sym c.self.view_is) c.requires in
    let lt : c.args.k < length c.self.inside.jobs.items = can.within in
    let at : old ≡ get_or jobs k no_job = get_or_read jobs k old lt c.index_mut.ensures.value no_job in
    let read : IsRead c.self.inside.rows jobs k old = record { within = lt; read = c.index_mut.ensures.value; waiting = subst (λ (i : StripeJob). waits i ≡ true) (sym at) can.waiting } in
    let len = c.note.ensures.len in
    IsStripe-declined c.self.inside.rows jobs c.self.inside.log c.note.new.log k old j c.self.invariant read (waits-declined j can.declines) refl (omega arith) c.note.ensures.capacity

pub invariant_of-self-else-eq : goal.invariant_of-self-else-eq
invariant_of-self-else-eq g c =
    let jobs = c.self.inside.jobs.items in
    let k = c.args.k in
    let old : StripeJob = c.index_mut.result.now in
    let j : StripeJob = record old { verdict = c.args.verdict } in
    let can = subst (λ (s : StripeView). CanDecline s k c.args.verdict) (sym c.self.view_is) c.requires in
    let lt : c.args.k < length c.self.inside.jobs.items = can.within in
    let at : old ≡ get_or jobs k no_job = get_or_read jobs k old lt c.index_mut.ensures.value no_job in
    let read : IsRead c.self.inside.rows jobs k old = record { within = lt; read = c.index_mut.ensures.value; waiting = subst (λ (i : StripeJob). waits i ≡ true) (sym at) can.waiting } in
    IsStripe-declined c.self.inside.rows jobs c.self.inside.log c.self.inside.log k old j c.self.invariant read (waits-declined j can.declines) refl (omega arith) refl
