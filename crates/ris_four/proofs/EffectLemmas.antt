-- The first equal triple of a list, found by its position, and the parts of a request one by one.
use Rattle.std.proofs.Common.{◌≡◌, ℕ, suc, ◌+◌, ◌<◌, ◌≤◌, Bool, true, false, not, cond, List, [], ◌∷◌, length, drop, Option, Some, None, Result, Ok, Err, if◌then◌else◌, inl, inr, ◌⊎◌, get_or, refl, ap, ◌∙◌, arith, remove, le-ltb, lt-ltb}
use Rattle.std.specs.List.{position, prefix_len, slice_get}
use Rattle.std.specs.Option.{option_map}
use Rattle.std.specs.Result.{result_err}
use Rattle.std.proofs.Math.Seq.{drop-cons}
use Rattle.std.proofs.Math.ListN.{drop_of_length-le}
use Rattle.std.proofs.lemmas.Bool.{cases_lt}
use Rattle.std.proofs.lemmas.Option.{slice_get_cases, slice_get_within, get_or_from_slice_get}
use Rattle.ris_base.specs.Effect.{Objection, does, objection, without_first}
use Rattle.ris_base.specs.Graph.{is_equal}
use Rattle.ris_base.specs.Requests.{RefusedPart, does_from, refusal_of, refused_at}
use Rattle.ris_base.specs.declared.graphs.PlainGraph.{PlainGraph}
use Rattle.ris_base.specs.declared.graphs.Triple.{Triple}
use Rattle.ris_base.specs.declared.replies.Refusal.{Refusal}
use Rattle.ris_base.specs.declared.updates.Update.{Update}
use Rattle.ris_base.proofs.EffectLemmas.{does-refused}
use Rattle.ris_base.proofs.RequestLemmas.{does_from-accepted, does_from-refused}
use Rattle.ris_four.specs.Working.{refusal_at}

abbrev Differs : Triple → Triple → Bool
Differs t s = not (is_equal t s)

remove-behind : {X : Type 0} (x : X) (xs : List X) (p : ℕ) → x ∷ remove xs p ≡ remove (x ∷ xs) (1 + p)
remove-behind {X} x xs p = let e : suc p ≡ 1 + p = omega arith in ap (λ (n : ℕ). remove (x ∷ xs) n) e

-- a list without the first item at which a test gives true is the list without the item at that position
without_first-prefix : (t : Triple) (xs : List Triple) → prefix_len (Differs t) xs < length xs → without_first t xs ≡ remove xs (prefix_len (Differs t) xs)
without_first-prefix t [] h = absurd (omega arith)
without_first-prefix t (x ∷ xs) h = go (is_equal t x) (without_first-prefix t xs) h
  where
    go : (b : Bool) → (prefix_len (Differs t) xs < length xs → without_first t xs ≡ remove xs (prefix_len (Differs t) xs))
        → cond (not b) (1 + prefix_len (Differs t) xs) 0 < length (x ∷ xs)
        → (if b then xs else x ∷ without_first t xs) ≡ remove (x ∷ xs) (cond (not b) (1 + prefix_len (Differs t) xs) 0)
    go true more k = refl
    go false more k = ap (λ (zs : List Triple). x ∷ zs) (more (omega arith)) ∙ remove-behind x xs (prefix_len (Differs t) xs)

without_first-whole : (t : Triple) (xs : List Triple) → length xs ≤ prefix_len (Differs t) xs → without_first t xs ≡ xs
without_first-whole t [] h = refl
without_first-whole t (x ∷ xs) h = go (is_equal t x) (without_first-whole t xs) h
  where
    go : (b : Bool) → (length xs ≤ prefix_len (Differs t) xs → without_first t xs ≡ xs)
        → length (x ∷ xs) ≤ cond (not b) (1 + prefix_len (Differs t) xs) 0 → (if b then xs else x ∷ without_first t xs) ≡ x ∷ xs
    go true more k = absurd (omega arith)
    go false more k = ap (λ (zs : List Triple). x ∷ zs) (more (omega arith))

pub without_first-position : (t : Triple) (xs : List Triple) (k : ℕ) → position (is_equal t) xs ≡ Some k → without_first t xs ≡ remove xs k
without_first-position t xs k h = elim (cases_lt (prefix_len (Differs t) xs) (length xs)) [
  | inl less ↦ (let e : cond true (Some (prefix_len (Differs t) xs)) None ≡ Some k = rw (lt-ltb _ _ less) at h in
      let same : prefix_len (Differs t) xs ≡ k = cc in without_first-prefix t xs less ∙ ap (remove xs) same)
  | inr le ↦ absurd (let e = rw (le-ltb _ _ le) at h in cc)
]

pub without_first-none : (t : Triple) (xs : List Triple) → position (is_equal t) xs ≡ None → without_first t xs ≡ xs
without_first-none t xs h = elim (cases_lt (prefix_len (Differs t) xs) (length xs)) [
  | inl less ↦ absurd (let e = rw (lt-ltb _ _ less) at h in cc)
  | inr le ↦ without_first-whole t xs le
]

-- The parts of a request one by one

-- the parts from one on begin with it
from-part : (parts : List Update) (i : ℕ) (part : Update) → slice_get parts i ≡ Some part → drop i parts ≡ part ∷ drop (suc i) parts
from-part parts i part at =
    let lt = slice_get_within parts i part at in
    drop-cons parts i part lt ∙ ap (λ (x : Update). x ∷ drop (suc i) parts) (get_or_from_slice_get parts i part part at)

pub does_from-next : (k : ℕ) (g h : PlainGraph) (parts : List Update) (i : ℕ) (part : Update) → slice_get parts i ≡ Some part → does g part ≡ Ok h
    → does_from k g (drop i parts) ≡ does_from (k + 1) h (drop (i + 1) parts)
does_from-next k g h parts i part at ok =
    ap (does_from k g) (from-part parts i part at) ∙ does_from-accepted k g h part (drop (suc i) parts) ok ∙ ap (λ (n : ℕ). does_from (k + 1) h (drop n parts)) (one-more i)
  where
    one-more : (i : ℕ) → suc i ≡ i + 1
    one-more i = omega arith

pub does_from-end : (k : ℕ) (g : PlainGraph) (parts : List Update) (i : ℕ) → length parts ≤ i → does_from k g (drop i parts) ≡ Ok g
unfolding does_from
does_from-end k g parts i h = rw (drop_of_length-le parts h) refl

-- the refusal of a part is that of the request
pub refused-part : (front k : ℕ) (g h : PlainGraph) (parts : List Update) (i : ℕ) (part : Update) (r : Refusal) → slice_get parts i ≡ Some part
    → does_from 1 g parts ≡ does_from k h (drop i parts) → refusal_at front k h part ≡ Some r
    → option_map (refused_at front) (refusal_of g parts) ≡ Some r
refused-part front k g h parts i part r at same is = go (objection h part) refl is
  where
    go : (o : Option Objection) → objection h part ≡ o → option_map (λ why. refused_at front (record { part = k; why = why })) o ≡ Some r
        → option_map (refused_at front) (refusal_of g parts) ≡ Some r
    go None e x = absurd (cc)
    go (Some why) e x =
        let refused : does_from k h (drop i parts) ≡ Err (record { part = k; why = why }) =
        ap (does_from k h) (from-part parts i part at) ∙ does_from-refused k h part (drop (suc i) parts) why (does-refused h part why e) in
        ap (λ (y : Result PlainGraph RefusedPart). option_map (refused_at front) (result_err y)) (same ∙ refused) ∙ x

-- where a part has no refusal there is no objection to it
pub no-objection : (front k : ℕ) (g : PlainGraph) (part : Update) → refusal_at front k g part ≡ None → objection g part ≡ None
no-objection front k g part is = go (objection g part) is
  where
    go : (o : Option Objection) → option_map (λ why. refused_at front (record { part = k; why = why })) o ≡ None → o ≡ None
    go None e = refl
    go (Some why) e = absurd (cc)

-- each number below a list's length has an item
pub none-within : {X : Type 0} (xs : List X) (k n : ℕ) → slice_get xs k ≡ None → n ≡ length xs → k < n → ⊥
none-within {X = X} xs k n no_item len less = go (slice_get_cases xs k).1
  where
    go : ((x : X) × (k < length xs) × (slice_get xs k ≡ Some x) × (get_or xs k x ≡ x)) ⊎ ((length xs ≤ k) × (slice_get xs k ≡ None)) → ⊥
    go (inl (x, lt, at, same)) = cc
    go (inr (le, at)) = omega arith
