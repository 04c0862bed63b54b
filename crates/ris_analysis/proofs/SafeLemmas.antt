-- What is judged by all forests, one after another.
use Rattle.std.proofs.Common.{◌≡◌, ℕ, zero, suc, ◌<◌, ◌≤◌, Bool, true, false, ◌&&◌, ◌||◌, List, [], ◌∷◌, length, get_or, map, arith, refl, sym, ap, ◌∙◌}
use Rattle.std.specs.List.{list_any, list_all}
use Rattle.ris_base.specs.Forest.{Forest}
use Rattle.ris_base.specs.Lists.{each_pair}
use Rattle.ris_base.specs.Safe.{is_safe, is_safe_for, is_sound, is_used, uses}
use Rattle.ris_base.specs.declared.analyses.Spec.{Spec}
use Rattle.ris_base.specs.declared.graphs.PlainGraph.{PlainGraph}
use Rattle.ris_base.specs.declared.graphs.Triple.{Triple}
use Rattle.ris_base.specs.declared.updates.Update.{Update}
use Rattle.ris_analysis.specs.AnyForest.{spec_of, forest_in}
use Rattle.ris_analysis.specs.Analyses.{specs_of, forests_of}
use Rattle.ris_analysis.specs.declared.kinds.AnyForest.{AnyForest}

-- whether an update is safe for one analysis
abbrev pub passes : PlainGraph → Update → AnyForest → Bool
passes p update one = is_sound p update && is_safe_for p (spec_of one) (forest_in one) update

-- a test that needs something beside each item's own test needs it once
and_all : {X : Type 0} (b : Bool) (f : X → Bool) (xs : List X) → 1 ≤ length xs → list_all (λ x. b && f x) xs ≡ (b && list_all f xs)
and_all b f [] some = absurd (omega arith)
and_all false f (x ∷ xs) some = refl
and_all true f (x ∷ xs) some = refl

-- a test of pairs as a test of what the pairs are made of
each_pair-map : {X Y Z : Type 0} (test : Y → Z → Bool) (f : X → Y) (g : X → Z) (xs : List X) → each_pair test (map f xs) (map g xs) ≡ list_all (λ x. test (f x) (g x)) xs
each_pair-map test f g [] = refl
each_pair-map test f g (x ∷ xs) = ap (λ b. test (f x) (g x) && b) (each_pair-map test f g xs)

-- an update is safe where it passes for each analysis
pub is_safe-passes : (p : PlainGraph) (update : Update) (ones : List AnyForest) → 1 ≤ length ones
    → is_safe p (specs_of ones) (forests_of ones) update ≡ list_all (passes p update) ones
is_safe-passes p update ones some =
    ap (λ b. is_sound p update && b) (each_pair-map (λ (spec : Spec) (F : Forest). is_safe_for p spec F update) spec_of forest_in ones)
    ∙ sym (and_all (is_sound p update) (λ (one : AnyForest). is_safe_for p (spec_of one) (forest_in one) update) ones some)

-- one that doesn't pass
pub list_all-fails : {X : Type 0} (f : X → Bool) (xs : List X) (k : ℕ) (d : X) → k < length xs → f (get_or xs k d) ≡ false → list_all f xs ≡ false
list_all-fails f [] k d less h = absurd (omega arith)
list_all-fails f (x ∷ xs) zero d less h = ap (λ b. b && list_all f xs) h
list_all-fails f (x ∷ xs) (suc k) d less h = both (f x) (list_all f xs) (list_all-fails f xs k d (omega arith) h)
  where
    both : (a b : Bool) → b ≡ false → (a && b) ≡ false
    both true b h = h
    both false b h = refl

-- a triple is used where some analysis uses it
pub is_used-any : (t : Triple) (ones : List AnyForest) → is_used (forests_of ones) t ≡ list_any (λ one. uses (forest_in one) t) ones
is_used-any t [] = refl
is_used-any t (one ∷ ones) = ap (λ b. uses (forest_in one) t || b) (is_used-any t ones)
