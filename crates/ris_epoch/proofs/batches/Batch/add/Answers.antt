use Rattle.std.proofs.Common.{ℕ, ◌==◌, List, map, refl, sym, ap, subst, arith, ◌∙◌}
use Rattle.std.specs.List.{Contains, list_any}
use Rattle.std.proofs.lemmas.Bool.{false≢true}
use Rattle.ris_base.specs.Machine.{session_by}
use Rattle.ris_base.specs.declared.requests.Request.{Request}
use Rattle.ris_epoch.specs.Ordering.{AreOrdered, inserted_by}
use Rattle.ris_epoch.proofs.OrderingLemmas.{any-session, length-inserted, no-session, ordered-inserted, ordered-length}
use Rattle.ris_epoch.proofs.batches.Batch.add.Goals as goal

-- no request of the session is there
none-there : (c : goal.After-add-arg-1) → ¬ (Contains (map session_by c.self.inside.requests) (session_by c.args.request))
none-there c =
    no-session c.self.inside.requests (session_by c.args.request)
    (ap (λ (n : ℕ). list_any (λ x. session_by x == n) c.self.inside.requests) (sym c.key.ensures) ∙ sym c.has.ensures ∙ c.if-has.false)

-- so the sessions ascend with it
ordered : (c : goal.After-add-arg-1) → AreOrdered 0 (inserted_by session_by c.self.inside.requests c.args.request)
ordered c = ordered-inserted 0 c.self.inside.requests c.args.request c.self.invariant.0 (omega arith) c.requires (none-there c)

pub returns-then-has-clause-held : goal.returns-then-has-clause-held
returns-then-has-clause-held c =
    let there = any-session c.self.inside.requests (session_by c.args.request)
    (ap (λ (n : ℕ). list_any (λ x. session_by x == n) c.self.inside.requests) (sym c.key.ensures) ∙ sym c.has.ensures ∙ c.if-has.true) in
    (λ yes. subst (λ (rs : List Request). Contains (map session_by rs) (session_by c.args.request)) c.self.view_is there, λ at. refl)

pub add-requires : goal.add-requires
add-requires c =
    let long = length-inserted session_by c.self.inside.requests c.args.request in
    let few = ordered-length 0 (inserted_by session_by c.self.inside.requests c.args.request) (ordered c) in
    omega arith

pub invariant_of-self : goal.invariant_of-self
invariant_of-self c = (subst (AreOrdered 0) (sym c.add.ensures) (ordered c.before), c.self.invariant.1, c.self.invariant.2)

pub returns-clause-ordered : goal.returns-clause-ordered
returns-clause-ordered c = subst (AreOrdered 0) (sym c.add.ensures) (ordered c.before)

pub returns-clause-held : goal.returns-clause-held
returns-clause-held c = (
  λ no. absurd (false≢true no),
  λ at. absurd (none-there c.before (subst (λ (rs : List Request). Contains (map session_by rs) (session_by c.args.request)) (sym c.self.view_is) at)),
)
