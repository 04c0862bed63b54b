use Rattle.std.proofs.Common.{ℕ, ◌+◌, ◌<◌, ◌≡◌, ◌≤◌, List, [], ◌∷◌, ◌++◌, Vec, get_or, length, set, arith, refl, sym, subst, ap, ◌∙◌}
use Rattle.std.specs.declared.alloc.Global.{Global}
use Rattle.std.proofs.lemmas.Grind.{get_or_default_zero}
use Rattle.std.specs.List.{slice_get}
use Rattle.ris_history.specs.Chains.{HeldView, ChainView}
use Rattle.ris_history.proofs.OpeningLemmas.{IsFilled, filled-row, filled-empty, filled-all}
use Rattle.ris_history.proofs.openings.opened_chains.Goals as goal
use Rattle.ris_history.proofs.openings.opened_chains.Goals.{in-Some, in-None}

pub loop-number-preserved : goal.loop-number-preserved
loop-number-preserved c =
    let i = c.loop-number.invariant in
    let n = c.args.analyses in
    let k = c.loop-number._number in
    let a = c.loop-number.a in
    let x = c.loop-number.x in
    let forests = c.args.forests.now in
    let taken = c.loop-number.taken.items in
    let chains = c.loop-number.chains.items in
    let rows = c.at.result.now in
    let some : 0 < c.args.analyses = (let b = c.bound_for-bound.ensures.within in let t = c.loop-number-test.true in omega arith) in
    let an = i.within some in
    let found = ap (slice_get forests) (sym c.from.ensures) ∙ c.at.ensures in
    let size = i.filled.sizes in
    let begins = λ (h : HeldView). let c : ChainView = record { first = h; later = [] } in c in
    record {
      place = c.following.ensures.number ∙ ap (λ j. j + 1) i.place;
      within = λ _. c.following.ensures.within;
      filled = subst (λ (cs : List ChainView). IsFilled n (k + 1) forests c.match-row_at.taken.items cs) (sym c.in_ok-push.ensures.items) (elim c.match-row_at.branch [
        | in-Some w ↦
            let row = w.in-Some.row.now in
            let next = w.in-Some.ensures.some in
            let read = c.index.ensures ∙ get_or_default_zero taken a c.index.result.now (omega arith) in
            let again = w.index_mut.ensures.value ∙ get_or_default_zero taken a w.index_mut.result.now (omega arith) in
            subst (λ (ms : List ℕ). IsFilled n (k + 1) forests ms (chains ++ c.new.result ∷ []))
            (sym (ap (λ (v : Vec ℕ Global). v.items) w.taken-is ∙ ap (λ m. set taken a (m + 1)) again))
            (filled-row n k a x forests taken chains rows row c.new.result (sym c.requires) an i.place found i.filled
            (ap (slice_get rows) (sym read) ∙ next.0) next.1 (c.new.ensures ∙ ap begins (w.held-is ∙ w.new-held.ensures)))
        | in-None w ↦
            subst (λ (ms : List ℕ). IsFilled n (k + 1) forests ms (chains ++ c.new.result ∷ [])) (sym (ap (λ (v : Vec ℕ Global). v.items) w.taken-is))
            (filled-empty n k a x forests taken chains rows c.new.result (sym c.requires) an i.place found i.filled
            (c.new.ensures ∙ ap begins (w.held-is ∙ w.new-held-in-None.ensures)))
      ]);
    }

pub returns-clause-chains : goal.returns-clause-chains
returns-clause-chains c =
    let m = c.loop-number._number in
    let end : c.loop-number._number ≡ c.bound_for-bound.result = (let t = c.loop-number-test.false in let e = c.loop-number.auto._number-end in omega arith) in
    filled-all c.args.analyses m c.args.forests.now c.loop-number.taken.items c.loop-number.chains.items (sym c.requires)
    (let l = c.bound_for-bound.ensures.within in omega arith) (let l = c.bound_for-bound.ensures.needed in omega arith) c.loop-number.invariant.filled
    (λ b rows at. subst (λ (xs : List ℕ). length rows ≤ get_or xs b 0) c.deref.ensures.value (c.if-not-are_all.ensures.0 refl b rows at))
