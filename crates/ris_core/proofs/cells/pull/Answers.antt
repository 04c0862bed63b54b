use Rattle.std.proofs.Common.{◌≡◌, ◌∙◌, ap, sym, take, arith, length, ◌==◌, ◌<◌}
use Rattle.std.specs.List.{list_any, position}
use Rattle.ris_base.specs.Machine.{Decided, stripe_of}
use Rattle.ris_core.proofs.Pulls.{position-none, pull-first, pull-late, pull-none, pulled-none}
use Rattle.ris_core.proofs.Scans.{read-at}
use Rattle.ris_core.proofs.cells.pull.Goals as goal

pub returns-in_err-place : goal.returns-in_err-place
returns-in_err-place c =
    let rest = c.args.rest.now.items in
    let s = c.args.session in
    pull-none s rest c.from_residual.result rest (pulled-none s rest (position-none (λ (d : Decided). d.entry.session == s) rest (ap (position (λ (d : Decided). d.entry.session == s)) (sym c.deref.ensures.value) ∙ sym c.in_err-place.ensures.place))) c.from_residual.ensures

pub returns-then-has_stripe : goal.returns-then-has_stripe
returns-then-has_stripe c =
    let rest = c.args.rest.now.items in
    let i = c.in_ok-place.place in
    let d = c.index.result.now in
    let less : i < length rest = (let w = c.in_ok-place.ensures.within in let e = ap length c.deref.ensures.value in omega arith) in
    let stripe = c.stripe_of-stripe.ensures.exact ∙ ap (λ (x : Decided). stripe_of x.entry.parts) c.behind-rest.view_is in
    pull-late c.args.session rest i d rest (ap (position (λ (x : Decided). x.entry.session == c.args.session)) (sym c.deref.ensures.value) ∙ sym c.in_ok-place.ensures.place) (read-at rest i d less c.index.ensures)
    (ap (λ n. list_any (λ x. stripe_of x.entry.parts == n) (take i rest)) (sym stripe)
    ∙ ap (λ ds. list_any (λ x. stripe_of x.entry.parts == c.stripe_of-stripe.result) (take i ds)) (sym c.deref-2.ensures.value)
    ∙ sym c.has_stripe.ensures ∙ c.if-has_stripe.true)

pub returns : goal.returns
returns c =
    let rest = c.args.rest.now.items in
    let i = c.in_ok-place.place in
    let d = c.index.result.now in
    let out = c.remove.result in
    let less : i < length rest = (let w = c.in_ok-place.ensures.within in let e = ap length c.deref.ensures.value in omega arith) in
    let at = read-at rest i d less c.index.ensures in
    let there = read-at rest i out less c.remove.ensures.value in
    let same : d ≡ out = (let e = sym at ∙ there in cc) in
    let stripe = c.stripe_of-stripe.ensures.exact ∙ ap (λ (x : Decided). stripe_of x.entry.parts) c.behind-rest.view_is ∙ ap (λ (x : Decided). stripe_of x.entry.parts) same in
    pull-first c.args.session rest i out c.remove.new.self.items (ap (position (λ (x : Decided). x.entry.session == c.args.session)) (sym c.deref.ensures.value) ∙ sym c.in_ok-place.ensures.place) there
    (ap (λ n. list_any (λ x. stripe_of x.entry.parts == n) (take i rest)) (sym stripe)
    ∙ ap (λ ds. list_any (λ x. stripe_of x.entry.parts == c.stripe_of-stripe.result) (take i ds)) (sym c.deref-2.ensures.value)
    ∙ sym c.has_stripe.ensures ∙ c.if-has_stripe.false)
    c.remove.ensures.items
