-- Vertices and their changes in two lists side by side, as one list of pairs.
use Rattle.std.proofs.Common.{◌≡◌, ℕ, ◌+◌, ◌<◌, ◌≤◌, Bool, true, false, not, cond, eqb, nat_lt, get_or, List, [], ◌∷◌, ◌++◌, length, length-append, Some, None, suc, zero, arith, refl, sym, subst, ap, ◌∙◌}
use Rattle.std.specs.List.{slice_get, zip, position, position_or_len, list_any, IsDistinct}
use Rattle.std.specs.Map.{lookup}
use Rattle.std.proofs.Math.ListN.{set, length-set}
use Rattle.std.specs.Cmp.{nat_eq_equiv}
use Rattle.std.proofs.lemmas.Bool.{eqb-true, eq-eqb, ne_eqb, ltb-false, ltb-true}
use Rattle.std.proofs.lemmas.Map.Keys.{IsDistinct-push}
use Rattle.std.proofs.lemmas.Map.Made.{keys_of-zip, is_some-lookup}
use Rattle.std.proofs.lemmas.Option.{slice_get-get_or, slice_get_past, slice_get_read}
use Rattle.std.proofs.lemmas.Slice.Zip.{length-zip, get_or-zip}
use Rattle.std.specs.Option.{is_some}
use Rattle.ris_repair.specs.Fews.{AreSideBySide}
use Rattle.ris_repair.specs.declared.stores.Change.{Change}

-- an item past the first one
get_next : (c : Change) (cs : List Change) (n : ℕ) → slice_get (c ∷ cs) (1 + n) ≡ slice_get cs n
get_next c cs n = (let e : 1 + n ≡ suc n = omega arith in rw e refl)

set_next : (c d : Change) (cs : List Change) (n : ℕ) → set (c ∷ cs) (1 + n) d ≡ c ∷ set cs n d
set_next c d cs n = (let e : 1 + n ≡ suc n = omega arith in rw e refl)

-- the change of a vertex stands at its place
pub lookup-place : (v : ℕ) (vs : List ℕ) (cs : List Change) → length cs ≡ length vs → lookup (eqb v) (zip vs cs) ≡ slice_get cs (position_or_len (eqb v) vs)
lookup-place v [] [] size = refl
lookup-place v [] (c ∷ cs) size = absurd (omega arith)
lookup-place v (y ∷ ys) [] size = absurd (omega arith)
lookup-place v (y ∷ ys) (c ∷ cs) size =
    elim (eqb v y) as (λ b. cond b (Some c) (lookup (eqb v) (zip ys cs)) ≡ slice_get (c ∷ cs) (cond (not b) (1 + position_or_len (eqb v) ys) 0)) [
      | true ↦ refl
      | false ↦ lookup-place v ys cs (omega arith) ∙ sym (get_next c cs (position_or_len (eqb v) ys))
    ]

-- what is written at a place is read there
get-set : (cs : List Change) (n : ℕ) (c : Change) → n < length cs → slice_get (set cs n c) n ≡ Some c
get-set [] n c h = absurd (omega arith)
get-set (d ∷ ds) zero c h = refl
get-set (d ∷ ds) (suc n) c h = get-set ds n c (omega arith)

-- a vertex has the change that was written at its place
pub set-here : (v : ℕ) (vs : List ℕ) (cs : List Change) (c : Change) → length cs ≡ length vs → position_or_len (eqb v) vs < length cs
    → lookup (eqb v) (zip vs (set cs (position_or_len (eqb v) vs) c)) ≡ Some c
set-here v vs cs c size low =
    lookup-place v vs (set cs (position_or_len (eqb v) vs) c) (length-set cs (position_or_len (eqb v) vs) c ∙ size)
    ∙ get-set cs (position_or_len (eqb v) vs) c low

-- one vertex more before the others
others_step : (v y x : ℕ) (xs : List ℕ) (d : Change) (ds : List Change) (c : Change) → eqb v y ≡ false
    → lookup (eqb y) (zip xs (set ds (position_or_len (eqb v) xs) c)) ≡ lookup (eqb y) (zip xs ds) → (b : Bool) → eqb v x ≡ b
    → lookup (eqb y) (zip (x ∷ xs) (set (d ∷ ds) (cond (not b) (1 + position_or_len (eqb v) xs) 0) c)) ≡ lookup (eqb y) (zip (x ∷ xs) (d ∷ ds))
others_step v y x xs d ds c off before true is =
    let same : v ≡ x = eqb-true v x is in
    let apart : eqb y x ≡ false = ne_eqb y x (λ e. (let back : v ≡ y = same ∙ sym e in let on = eq-eqb v y back in absurd (cc))) in
    rw apart refl
others_step v y x xs d ds c off before false is =
    rw (set_next d c ds (position_or_len (eqb v) xs)) (ap (λ o. cond (eqb y x) (Some d) o) before)

-- and the others have what they had
pub set-others : (v y : ℕ) (vs : List ℕ) (cs : List Change) (c : Change) → eqb v y ≡ false → length cs ≡ length vs
    → lookup (eqb y) (zip vs (set cs (position_or_len (eqb v) vs) c)) ≡ lookup (eqb y) (zip vs cs)
set-others v y [] cs c off size = refl
set-others v y (x ∷ xs) [] c off size = absurd (omega arith)
set-others v y (x ∷ xs) (d ∷ ds) c off size = others_step v y x xs d ds c off (set-others v y xs ds c off (omega arith)) (eqb v x) refl

-- one vertex more beside its change is one pair more
pub zip-push : (vs : List ℕ) (cs : List Change) (v : ℕ) (c : Change) → length cs ≡ length vs → zip (vs ++ v ∷ []) (cs ++ c ∷ []) ≡ zip vs cs ++ (v, c) ∷ []
zip-push [] [] v c size = refl
zip-push [] (d ∷ ds) v c size = absurd (omega arith)
zip-push (x ∷ xs) [] v c size = absurd (omega arith)
zip-push (x ∷ xs) (d ∷ ds) v c size = ap (λ (l : List (ℕ × Change)). (x, d) ∷ l) (zip-push xs ds v c (omega arith))

-- the new vertex has its change
pub push-here : (es : List (ℕ × Change)) (v : ℕ) (c : Change) → lookup (eqb v) es ≡ None → lookup (eqb v) (es ++ (v, c) ∷ []) ≡ Some c
push-here [] v c none = rw (eq-eqb v v refl) refl
push-here (e ∷ es) v c none = elim (eqb v e.0) as (λ b. cond b (Some e.1) (lookup (eqb v) es) ≡ None → cond b (Some e.1) (lookup (eqb v) (es ++ (v, c) ∷ [])) ≡ Some c) [
  | true ↦ λ no. absurd (cc)
  | false ↦ λ no. push-here es v c no
] none

-- and the others have what they had
pub push-others : (es : List (ℕ × Change)) (v y : ℕ) (c : Change) → eqb v y ≡ false → lookup (eqb y) (es ++ (v, c) ∷ []) ≡ lookup (eqb y) es
push-others [] v y c off =
    let apart : eqb y v ≡ false = ne_eqb y v (λ e. (let on = eq-eqb v y (sym e) in absurd (cc))) in
    rw apart refl
push-others (e ∷ es) v y c off = ap (λ o. cond (eqb y e.0) (Some e.1) o) (push-others es v y c off)

-- where the new vertex had none, each still stands once
pub push-once : (vs : List ℕ) (cs : List Change) (v : ℕ) (c : Change) → AreSideBySide vs cs → lookup (eqb v) (zip vs cs) ≡ None → AreSideBySide (vs ++ v ∷ []) (cs ++ c ∷ [])
push-once vs cs v c side none = record {
  size = grind (arith, length-append {A = ℕ}, length-append {A = Change}, side.size);
  once = IsDistinct-push nat_eq_equiv vs v side.once
      (ap (λ (l : List ℕ). list_any (eqb v) l) (sym (keys_of-zip vs cs side.size)) ∙ sym (is_some-lookup (eqb v) (zip vs cs)) ∙ ap is_some none);
}

-- what a search answers is the first place
pub found-place : (p : ℕ → Bool) (xs : List ℕ) (n : ℕ) → Some n ≡ position p xs → (n ≡ position_or_len p xs) × (n < length xs)
found-place p xs n h = either (nat_lt (position_or_len p xs) (length xs)) refl h
  where
    either : (b : Bool) → nat_lt (position_or_len p xs) (length xs) ≡ b → Some n ≡ cond b (Some (position_or_len p xs)) None → (n ≡ position_or_len p xs) × (n < length xs)
    either true is h = (let e : n ≡ position_or_len p xs = cc in let low = ltb-true (position_or_len p xs) (length xs) is in (e, omega arith))
    either false is h = absurd (cc)

-- where it answers none, the place is past the end
pub no-place : (p : ℕ → Bool) (xs : List ℕ) → None ≡ position p xs → length xs ≤ position_or_len p xs
no-place p xs h = either (nat_lt (position_or_len p xs) (length xs)) refl h
  where
    either : (b : Bool) → nat_lt (position_or_len p xs) (length xs) ≡ b → None ≡ cond b (Some (position_or_len p xs)) None → length xs ≤ position_or_len p xs
    either true is h = absurd (cc)
    either false is h = ltb-false (position_or_len p xs) (length xs) is

-- nothing stands side by side with nothing
pub none_side_by_side : (vs : List ℕ) (cs : List Change) → vs ≡ [] → cs ≡ [] → AreSideBySide vs cs
unfolding IsDistinct
none_side_by_side vs cs e f = rw (e, f) (record { size = refl; once = tt })

-- there are as many pairs as vertices
pub length-pairs : (vs : List ℕ) (cs : List Change) → length cs ≡ length vs → length (zip vs cs) ≡ length vs
length-pairs vs cs size = (let least = length-zip vs cs in omega arith)

-- the pair of a number
pub pair-at : (vs : List ℕ) (cs : List Change) (n : ℕ) (v : ℕ) (c : Change) → length cs ≡ length vs → n < length vs → v ≡ get_or vs n v → c ≡ get_or cs n c
    → slice_get (zip vs cs) n ≡ Some (v, c)
pair-at vs cs n v c size low is_v is_c =
    slice_get-get_or (zip vs cs) n (v, c) (let long = length-pairs vs cs size in omega arith)
    ∙ ap (λ (p : ℕ × Change). Some p) (get_or-zip vs cs n (v, c) low (omega arith) ∙ cc)

-- a vertex that a search finds
module _ (vs : List ℕ) (cs : List Change) (side : AreSideBySide vs cs) (v n : ℕ) (found : Some n ≡ position (eqb v) vs) where
  -- it has the change at its place
  pub found-change : (c : Change) → c ≡ get_or cs n c → lookup (eqb v) (zip vs cs) ≡ Some c
  found-change c is =
      let at = found-place (eqb v) vs n found in
      lookup-place v vs cs side.size ∙ ap (λ (k : ℕ). slice_get cs k) (sym at.0) ∙ slice_get_read cs (length cs) n c refl (let low = at.1 in let size = side.size in omega arith) is

  -- it has the change that is written there, and the others have what they had
  pub found-here : (c : Change) → lookup (eqb v) (zip vs (set cs n c)) ≡ Some c
  found-here c =
      let at = found-place (eqb v) vs n found in
      subst (λ (k : ℕ). lookup (eqb v) (zip vs (set cs k c)) ≡ Some c) (sym at.0)
      (set-here v vs cs c side.size (let low = at.1 in let is = at.0 in let size = side.size in omega arith))

  pub found-others : (c : Change) (y : ℕ) → eqb v y ≡ false → lookup (eqb y) (zip vs (set cs n c)) ≡ lookup (eqb y) (zip vs cs)
  found-others c y off =
      subst (λ (k : ℕ). lookup (eqb y) (zip vs (set cs k c)) ≡ lookup (eqb y) (zip vs cs)) (sym (found-place (eqb v) vs n found).0)
      (set-others v y vs cs c off side.size)

-- a vertex that a search doesn't find has no change
pub missed-change : (vs : List ℕ) (cs : List Change) → AreSideBySide vs cs → (v : ℕ) → None ≡ position (eqb v) vs → lookup (eqb v) (zip vs cs) ≡ None
missed-change vs cs side v missed =
    lookup-place v vs cs side.size
    ∙ slice_get_past cs (position_or_len (eqb v) vs) (let past = no-place (eqb v) vs missed in let size = side.size in omega arith)
