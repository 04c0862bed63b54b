-- Paths up the parents that a table holds.
use Rattle.std.proofs.Common.{◌≡◌, ℕ, suc, ◌+◌, ◌-◌, ◌<◌, List, [], ◌∷◌, ◌++◌, arith, refl, sym, ap, ◌∙◌, append_assoc}
use Rattle.ris_base.specs.declared.analyses.Value.{Value}
use Rattle.ris_base.specs.declared.analyses.Value.TheVariants.{Absent, Unreached, Num}
use Rattle.ris_base.specs.declared.forests.Parent.{Parent}
use Rattle.ris_base.specs.declared.forests.Parent.TheVariants as parent
use Rattle.ris_history.specs.HistoryView.{TableView, shown}
use Rattle.ris_history.specs.Reads.{climb, path_by}

-- one vertex more of a path
pub climb-step : (t : TableView) (v a n i : ℕ) (path total : List ℕ) (p next : Parent) (vertex source target weight : ℕ) → i < n → p ≡ parent.From vertex source target weight
    → path ++ climb (n - i) t v a p ≡ total → next ≡ (shown t v a vertex).parent → (path ++ vertex ∷ []) ++ climb (n - (i + 1)) t v a next ≡ total
climb-step t v a n i path total p next vertex source target weight less is h e =
    let left : n - i ≡ suc (n - (i + 1)) = omega arith in
    append_assoc path (vertex ∷ []) (climb (n - (i + 1)) t v a next) ∙ ap (λ q. path ++ vertex ∷ climb (n - (i + 1)) t v a q) e
    ∙ sym (ap (λ q. path ++ climb (n - i) t v a q) is ∙ ap (λ k. path ++ climb k t v a (parent.From vertex source target weight)) left) ∙ h

-- without a number there is no path
pub path_by-none : (c : Value) (t : TableView) (v a x : ℕ) → ((n : ℕ) → ¬ (c ≡ Num n)) → path_by c t v a x ≡ []
path_by-none Absent t v a x h = refl
path_by-none Unreached t v a x h = refl
path_by-none (Num n) t v a x h = absurd (h n refl)
