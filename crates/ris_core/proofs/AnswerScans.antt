-- What a path, a list of moved vertices, a session's outcome and its next number are, as a loop finds them item by item.
use Rattle.std.proofs.Common.{◌≡◌, ◌≢◌, ℕ, suc, ◌+◌, ◌-◌, ◌≤◌, ◌==◌, if◌then◌else◌, min, true, false, inl, inr, List, [], ◌∷◌, ◌++◌, length, drop, Some, None, arith, add-one, refl, sym, ap, ◌∙◌, eq-eqb}
use Rattle.std.specs.List.{slice_get}
use Rattle.std.proofs.lemmas.Bool.{cases_lt, ne_eqb}
use Rattle.ris_base.specs.Forest.{Forest, value_in}
use Rattle.ris_base.specs.Legal.{Asked}
use Rattle.ris_base.specs.Machine.{Known, Seat, next_seq}
use Rattle.ris_base.specs.declared.forests.ForestRow.{ForestRow}
use Rattle.ris_base.specs.declared.forests.Parent.{Parent}
use Rattle.ris_base.specs.declared.forests.Parent.TheVariants as parent
use Rattle.ris_core.specs.Answered.{moved_below, path_of, path_tail}
use Rattle.ris_core.specs.Rows.{is_same_value}
use Rattle.ris_core.specs.Runs.{outcome_by, outcome_in, outcome_of}
use Rattle.ris_core.specs.Stands.{Listing, state_of}
use Rattle.ris_core.proofs.StateLemmas.{seat-absent}
use Rattle.ris_core.proofs.Scans.{drop-end, drop-next}

-- Paths

pub path-suc : (F : Forest) (k x : ℕ) → path_of F (suc k) x ≡ x ∷ path_tail (λ y. path_of F k y) (F.parent x)
unfolding path_of
path-suc F k x = refl

pub path-zero : (F : Forest) (x : ℕ) → path_of F 0 x ≡ []
unfolding path_of
path-zero F x = refl

pub path-stops : (F : Forest) (n k x : ℕ) → n ≡ suc k → F.parent x ≡ parent.None → path_of F n x ≡ x ∷ []
path-stops F n k x is none = ap (λ m. path_of F m x) is ∙ path-suc F k x ∙ ap (λ (p : Parent). x ∷ path_tail (λ y. path_of F k y) p) none

pub path-goes : (F : Forest) (n k x v s t w : ℕ) → n ≡ suc k → F.parent x ≡ parent.From v s t w → path_of F n x ≡ x ∷ path_of F k v
path-goes F n k x v s t w is from = ap (λ m. path_of F m x) is ∙ path-suc F k x ∙ ap (λ (p : Parent). x ∷ path_tail (λ y. path_of F k y) p) from

-- Moved vertices

pub moved-none : (a b : List ForestRow) → moved_below a b 0 ≡ []
unfolding moved_below
moved-none a b = refl

moved-suc : (a b : List ForestRow) (n : ℕ) → moved_below a b (suc n) ≡ (if is_same_value (value_in a n) (value_in b n) then moved_below a b n else moved_below a b n ++ n ∷ [])
unfolding moved_below
moved-suc a b n = refl

pub moved-same : (a b : List ForestRow) (n : ℕ) → is_same_value (value_in a n) (value_in b n) ≡ true → moved_below a b (n + 1) ≡ moved_below a b n
moved-same a b n same = ap (moved_below a b) (add-one n) ∙ moved-suc a b n ∙ ap (λ c. if c then moved_below a b n else moved_below a b n ++ n ∷ []) same

pub moved-more : (a b : List ForestRow) (n : ℕ) → is_same_value (value_in a n) (value_in b n) ≡ false → moved_below a b (n + 1) ≡ moved_below a b n ++ n ∷ []
moved-more a b n other = ap (moved_below a b) (add-one n) ∙ moved-suc a b n ∙ ap (λ c. if c then moved_below a b n else moved_below a b n ++ n ∷ []) other

-- Outcomes

outcome-first : (a : Asked) (cs : List Asked) (r : Known) (rs : List Known) (seq : ℕ) → outcome_in (a ∷ cs) (r ∷ rs) seq ≡ (if a.seq == seq then outcome_by r.reply else outcome_in cs rs seq)
unfolding outcome_in
outcome-first a cs r rs seq = refl

outcome-at : (cs : List Asked) (rs : List Known) (k : ℕ) (a : Asked) (r : Known) (seq : ℕ) → slice_get cs k ≡ Some a → slice_get rs k ≡ Some r
    → outcome_in (drop k cs) (drop k rs) seq ≡ (if a.seq == seq then outcome_by r.reply else outcome_in (drop (k + 1) cs) (drop (k + 1) rs) seq)
outcome-at cs rs k a r seq at there =
    ap (λ (xs : List Asked). outcome_in xs (drop k rs) seq) (drop-next cs k a at) ∙ ap (λ (ys : List Known). outcome_in (a ∷ drop (k + 1) cs) ys seq) (drop-next rs k r there)
    ∙ outcome-first a (drop (k + 1) cs) r (drop (k + 1) rs) seq

pub outcome-here : (cs : List Asked) (rs : List Known) (k : ℕ) (a : Asked) (r : Known) (seq : ℕ) → slice_get cs k ≡ Some a → slice_get rs k ≡ Some r → a.seq ≡ seq
    → outcome_in (drop k cs) (drop k rs) seq ≡ outcome_by r.reply
outcome-here cs rs k a r seq at there same =
    outcome-at cs rs k a r seq at there ∙ ap (λ b. if b then outcome_by r.reply else outcome_in (drop (k + 1) cs) (drop (k + 1) rs) seq) (eq-eqb a.seq seq same)

pub outcome-passed : (cs : List Asked) (rs : List Known) (k : ℕ) (a : Asked) (r : Known) (seq : ℕ) → slice_get cs k ≡ Some a → slice_get rs k ≡ Some r → a.seq ≢ seq
    → outcome_in (drop (k + 1) cs) (drop (k + 1) rs) seq ≡ outcome_in (drop k cs) (drop k rs) seq
outcome-passed cs rs k a r seq at there other = sym (
    outcome-at cs rs k a r seq at there ∙ ap (λ b. if b then outcome_by r.reply else outcome_in (drop (k + 1) cs) (drop (k + 1) rs) seq) (ne_eqb a.seq seq other)
    )

outcome-no_reply : (cs : List Asked) (seq : ℕ) → outcome_in cs [] seq ≡ None
unfolding outcome_in
outcome-no_reply [] seq = refl
outcome-no_reply (a ∷ cs) seq = refl

outcome-no_command : (rs : List Known) (seq : ℕ) → outcome_in [] rs seq ≡ None
unfolding outcome_in
outcome-no_command rs seq = refl

pub outcome-end : (cs : List Asked) (rs : List Known) (k seq : ℕ) → min (length cs) (length rs) ≤ k → outcome_in (drop k cs) (drop k rs) seq ≡ None
outcome-end cs rs k seq past = elim (cases_lt k (length cs)) [
  | inl less ↦ ap (λ (ys : List Known). outcome_in (drop k cs) ys seq) (drop-end rs k (omega arith)) ∙ outcome-no_reply (drop k cs) seq
  | inr low ↦ ap (λ (xs : List Asked). outcome_in xs (drop k rs) seq) (drop-end cs k low) ∙ outcome-no_command (drop k rs) seq
]

pub outcome-absent : (l : Listing) (s seq : ℕ) → slice_get l.seats s ≡ None → outcome_of (state_of l) s seq ≡ None
outcome-absent l s seq none = ap (λ (y : Seat). outcome_in y.commands y.replies seq) (seat-absent l s none) ∙ outcome-no_command [] seq

-- The next number

pub next-last : (cs : List Asked) (a : Asked) → slice_get cs (length cs - 1) ≡ Some a → a.seq + 1 ≡ next_seq cs
unfolding next_seq
next-last [] a h = absurd (cc)
next-last (c ∷ []) a h = let same : c ≡ a = cc in ap (λ (x : Asked). x.seq + 1) (sym same)
next-last (c ∷ d ∷ cs) a h =
    let same : suc (length (d ∷ cs) - 1) ≡ length (c ∷ d ∷ cs) - 1 = omega arith in next-last (d ∷ cs) a (ap (slice_get (c ∷ d ∷ cs)) same ∙ h)

pub next-none : (cs : List Asked) → slice_get cs (length cs - 1) ≡ None → 0 ≡ next_seq cs
unfolding next_seq
next-none [] h = refl
next-none (c ∷ []) h = absurd (cc)
next-none (c ∷ d ∷ cs) h =
    let same : suc (length (d ∷ cs) - 1) ≡ length (c ∷ d ∷ cs) - 1 = omega arith in next-none (d ∷ cs) (ap (slice_get (c ∷ d ∷ cs)) same ∙ h)
