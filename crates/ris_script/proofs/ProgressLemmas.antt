-- What each record makes of what was read.
use Rattle.std.proofs.Common.{◌≡◌, ℕ, true, false, List, [], ◌∷◌, Some, None, Ok, Err, drop, refl, subst, codes}
use Rattle.std.specs.List.{list_any}
use Rattle.std.specs.Option.{option_and_then}
use Rattle.std.specs.Str.{bytes_eq}
use Rattle.csv.specs.Records.{field_at}
use Rattle.ris_base.specs.Number.{number_of}
use Rattle.ris_base.specs.Script.{Fields, base_by, numbers_of}
use Rattle.ris_base.specs.declared.scripts.Cause.TheVariants as cause
use Rattle.ris_script.specs.Progress.{Progress, finished, is_open, progressed, script_read, with_base, with_record}

-- no field
pub progressed-nothing : (analyses : ℕ) (progress : Progress) (fields : Fields) → field_at fields 0 ≡ None → progressed analyses progress fields ≡ Err cause.Field
unfolding progressed field_at
progressed-nothing analyses progress [] e = refl
progressed-nothing analyses progress (name ∷ fields) e = cc e

-- the first field is `base`
pub progressed-base : (analyses : ℕ) (progress : Progress) (fields : Fields) (name : List ℕ) → field_at fields 0 ≡ Some name → bytes_eq name (codes "base") ≡ true
    → progressed analyses progress fields ≡ with_base progress (option_and_then (base_by progress.header) (numbers_of (drop 1 fields)))
unfolding progressed field_at
progressed-base analyses progress [] name e b = cc e
progressed-base analyses progress (first ∷ fields) name e b = let same : first ≡ name = cc e in rw (same, b) refl

-- it is another
pub progressed-other : (analyses : ℕ) (progress : Progress) (fields : Fields) (name : List ℕ) → field_at fields 0 ≡ Some name → bytes_eq name (codes "base") ≡ false
    → progressed analyses progress fields ≡ with_record analyses progress fields (number_of name)
unfolding progressed field_at
progressed-other analyses progress [] name e b = cc e
progressed-other analyses progress (first ∷ fields) name e b = let same : first ≡ name = cc e in rw (same, b) refl

-- a transaction is open
pub finished-open : (progress now : Progress) → progress ≡ now → list_any is_open progress.standings ≡ true → finished now ≡ Err cause.Close
unfolding finished
finished-open progress now same e = subst (λ (t : Progress). finished t ≡ Err cause.Close) same (rw e refl)

-- none is
pub finished-done : (progress now : Progress) → progress ≡ now → list_any is_open progress.standings ≡ false → finished now ≡ Ok (script_read progress)
unfolding finished
finished-done progress now same e = subst (λ (t : Progress). finished t ≡ Ok (script_read progress)) same (rw e refl)
