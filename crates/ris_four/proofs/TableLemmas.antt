-- Facts on tables before any round, and on the numbers of vertices.
use Rattle.std.proofs.Common.{◌≡◌, ℕ, ◌+◌, ◌<◌, ◌≤◌, zero, suc, List, [], ◌∷◌, ◌++◌, length, take, get_or, set, max, Option, arith, refl, sym, ◌∙◌, ap, inl, inr, get_or-set_same, get_or-set_other}
use Rattle.std.specs.Prelude.{replicate}
use Rattle.std.specs.Ordering.{nat_cmp, ord_max}
use Rattle.std.proofs.lemmas.Bool.Decides.{nat_tests}
use Rattle.std.specs.List.{Contains, All}
use Rattle.std.proofs.lemmas.List.{take_more}
use Rattle.std.proofs.lemmas.Bool.{cases_eq}
use Rattle.std.proofs.lemmas.List.Elements.{Contains-push, Contains-push_cases, Contains-append_left}
use Rattle.ris_base.specs.Value.{number_bound}
use Rattle.ris_base.specs.declared.analyses.Value.{Value}
use Rattle.ris_base.specs.declared.analyses.Value.TheVariants.{Absent}
use Rattle.ris_four.specs.Rounds.{value_from, AreFirst}

pub number_bound-push : (xs : List ℕ) (x : ℕ) → number_bound (xs ++ x ∷ []) ≡ max (number_bound xs) (x + 1)
number_bound-push [] x = omega arith
number_bound-push (y ∷ xs) x = let e = number_bound-push xs x in omega arith

pub number_bound-more : (xs : List ℕ) (i d : ℕ) → i < length xs → number_bound (take (i + 1) xs) ≡ max (number_bound (take i xs)) (get_or xs i d + 1)
number_bound-more xs i d lt = ap number_bound (take_more xs i d lt) ∙ number_bound-push (take i xs) (get_or xs i d)

pub get_or-number_bound : (xs : List ℕ) (k d : ℕ) → k < length xs → get_or xs k d < number_bound xs
get_or-number_bound [] k d lt = omega arith
get_or-number_bound (x ∷ xs) zero d lt = omega arith
get_or-number_bound (x ∷ xs) (suc k) d lt = let e = get_or-number_bound xs k d (omega arith) in omega arith

pub Contains-number_bound : (xs : List ℕ) (x : ℕ) → Contains xs x → x < number_bound xs
Contains-number_bound xs x h = let e = get_or-number_bound xs h.0 x h.1 in let f = h.2 in omega arith

pub number_bound-limit : (xs : List ℕ) (limit : ℕ) → All (λ x. x < limit) xs → number_bound xs ≤ limit
number_bound-limit [] limit h = omega arith
number_bound-limit (x ∷ xs) limit h =
    let here : x < limit = h 0 x (omega arith) in
    let rest = number_bound-limit xs limit (λ k d lt. h (suc k) d (omega arith)) in
    omega arith

get_or-replicate : (n x : ℕ) (v : Value) → get_or (replicate n v) x v ≡ v
get_or-replicate zero x v = refl
get_or-replicate (suc n) zero v = refl
get_or-replicate (suc n) (suc x) v = get_or-replicate n x v

pub AreFirst-nil : (start : ℕ → Option ℕ) (n : ℕ) → AreFirst start [] (replicate n Absent)
AreFirst-nil start n = record {
  placed = λ x h. let lt = h.1 in absurd (omega arith);
  others = λ x h. get_or-replicate n x Absent;
}

pub AreFirst-push : (start : ℕ → Option ℕ) (these : List ℕ) (values : List Value) (x : ℕ) → x < length values
    → AreFirst start these values → AreFirst start (these ++ x ∷ []) (set values x (value_from (start x)))
AreFirst-push start these values x lt first = record {
  placed = λ y h. elim (cases_eq y x) [
    | inl same ↦ rw same (get_or-set_same values x (value_from (start x)) Absent lt)
    | inr other ↦ get_or-set_other values x y (value_from (start x)) Absent other
        ∙ elim (Contains-push_cases these x y h) [
          | inl before ↦ first.placed y before
          | inr here ↦ absurd (other (sym here))
        ]
  ];
  others = λ y not. elim (cases_eq y x) [
    | inl same ↦ absurd (not (rw same (Contains-push these x)))
    | inr other ↦ get_or-set_other values x y (value_from (start x)) Absent other
        ∙ first.others y (λ h. not (Contains-append_left these (x ∷ []) y h))
  ];
}

pub greater_is : (a b : ℕ) → ord_max nat_cmp a b ≡ max a b
greater_is a b = grind (arith, nat_tests)
