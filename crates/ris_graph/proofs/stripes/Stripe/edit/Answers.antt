use Rattle.std.proofs.Common.{◌≡◌, ◌<◌, ◌∙◌, true, List, length, get_or, set, refl, sym, ap, subst, arith}
use Rattle.std.proofs.lemmas.List.{get_or_read}
use Rattle.ris_base.specs.declared.events.Verdict.TheVariants.{Applied}
use Rattle.ris_graph.specs.StripeView.{StripeView, CanEdit, HasCopy, IsStripe, no_job, waits}
use Rattle.ris_graph.specs.declared.stripes.StripeJob.{StripeJob}
use Rattle.ris_graph.proofs.StripeLemmas.{IsRead, IsStripe-edited}
use Rattle.ris_graph.proofs.stripes.Stripe.edit.Goals as goal

pub invariant_of-self : goal.invariant_of-self
invariant_of-self g c =
    let jobs = c.self.inside.jobs.items in
    let rows = c.self.inside.rows in
    let k = c.args.k in
    let old : StripeJob = c.index-job.result.now in
    let now : StripeJob = c.index_mut.result.now in
    let j : StripeJob = record now { verdict = Applied } in
    let can = subst (λ (s : StripeView). CanEdit s k) (sym c.self.view_is) c.requires in
    let lt : c.args.k < length c.self.inside.jobs.items = can.within in
    let at : old ≡ get_or jobs k no_job = get_or_read jobs k old lt c.index-job.ensures no_job in
    let same : now ≡ old = get_or_read jobs k now lt c.index_mut.ensures.value no_job ∙ sym at in
    let read : IsRead rows jobs k old = record { within = lt; read = c.index-job.ensures; waiting = subst (λ (i : StripeJob). waits i ≡ true) (sym at) can.waiting } in
    let copy : HasCopy rows old.update = subst (λ (i : StripeJob). HasCopy rows i.update) (sym at) can.copy in
    let len = c.note.ensures.len in
    let edited = IsStripe-edited rows jobs c.self.inside.log c.note.new.log k old j c.self.invariant read copy refl (ap (λ (i : StripeJob). i.update) same) (omega arith) c.note.ensures.capacity in
    subst (λ (r : List _). IsStripe r (set jobs k j) c.note.new.log) (sym c.apply.ensures) edited
