use Rattle.std.proofs.Common.{◌≡◌, ℕ, ◌≤◌, get_or, arith, ap, sym, subst}
use Rattle.std.proofs.lemmas.List.{get_or_default}
use Rattle.ris_repair.proofs.RadixLemmas.{greatest_more}
use Rattle.ris_repair.proofs.radix.greatest.Goals as goal
use Rattle.ris_repair.proofs.radix.greatest.Goals.{then-best-item, else-best-item}

pub loop-i-preserved : goal.loop-i-preserved
loop-i-preserved c =
    let items = c.args.items.now in
    let i = c.loop-i.i in
    let here : (d : ℕ × ℕ) → (get_or items i d).0 ≡ (get_or items i (0, 0)).0 = λ d. ap (λ (x : ℕ × ℕ). x.0) (get_or_default items i d (0, 0) (omega arith)) in
    elim c.if-best-item.branch [
      | then-best-item w ↦ record {
        within = omega arith;
        best = λ d. subst (λ (k : ℕ). c.if-best-item.best ≤ (get_or items k d).0) (sym w.place-is) (omega (arith, here d));
        all = greatest_more items i c.loop-i.best c.if-best-item.best c.loop-i.invariant.all (omega arith) (λ d. omega (arith, here d));
      }
      | else-best-item w ↦ record {
        within = omega arith;
        best = λ d. subst (λ (k : ℕ). c.if-best-item.best ≤ (get_or items k d).0) (sym w.place-is) (omega (arith, c.loop-i.invariant.best d));
        all = greatest_more items i c.loop-i.best c.if-best-item.best c.loop-i.invariant.all (omega arith) (λ d. omega (arith, here d));
      }
    ]

pub returns-clause-best : goal.returns-clause-best
returns-clause-best c = λ d k e lt.
    let at = c.loop-i.invariant.best d in
    let all = c.loop-i.invariant.all k e (omega arith) in
    omega arith
