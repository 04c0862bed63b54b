-- Texts that are written piece by piece.
use Rattle.std.proofs.Common.{◌≡◌, ℕ, ◌+◌, ◌<◌, List, [], ◌∷◌, ◌++◌, Some, None, Option, length, take, refl, sym, ◌∙◌, ap, arith, append_assoc, length-append, Result, Ok, Err, subst, codes, decimal}
use Rattle.std.specs.List.{concat}
use Rattle.ris_base.specs.Status.{cause_word, script_line}
use Rattle.ris_base.specs.declared.scripts.Cause.{Cause}
use Rattle.ris_replay.specs.Reports.{reported_cause}
use Rattle.std.specs.Result.{OnOk, OnErr}
use Rattle.std.specs.Io.KnownBytes.{append_known}
use Rattle.std.proofs.Math.Seq.{take-append-add}

-- a text behind another
pub append_known-twice : (held : Option (List ℕ)) (a b : List ℕ) → append_known (append_known held a) b ≡ append_known held (a ++ b)
append_known-twice None a b = refl
append_known-twice (Some h) a b = ap Some (append_assoc h a b)

-- a prefix of the text of a stream was written
abbrev pub IsCut : Option (List ℕ) → Option (List ℕ) → List ℕ → Type 0
IsCut before after text = (k : ℕ) × (k < length text) × (after ≡ append_known before (take k text))

-- a prefix behind a whole piece is a prefix of both
pub cut-behind : (before mid after : Option (List ℕ)) (first rest : List ℕ) → mid ≡ append_known before first → IsCut mid after rest → IsCut before after (first ++ rest)
cut-behind before mid after first rest e cut =
    let size = length-append first rest in
    let fits = cut.1 in (
      length first + cut.0,
      omega arith,
      cut.2 ∙ ap (λ (m : Option (List ℕ)). append_known m (take cut.0 rest)) e ∙ append_known-twice before first (take cut.0 rest)
          ∙ ap (append_known before) (sym (take-append-add first rest cut.0)),
    )

-- a fact of an error follows from another
pub on-error : {T E : Type 0} (r : Result T E) (P Q : Type 0) → OnErr r P → (P → Q) → OnErr r Q
on-error (Ok x) P Q h f = tt
on-error (Err e) P Q h f = f h

pub on-ok : {T E : Type 0} (r : Result T E) (P Q : Type 0) → OnOk r P → (P → Q) → OnOk r Q
on-ok (Ok x) P Q h f = f h
on-ok (Err e) P Q h f = tt

-- the line of a fault of the script, in its pieces
pub script-line : (n word : List ℕ) (number : ℕ) (cause : Cause) → n ≡ decimal number → word ≡ cause_word cause
    → concat (codes "ris: script: record " ∷ n ∷ codes ": " ∷ word ∷ (10 ∷ []) ∷ []) ≡ script_line (reported_cause number cause)
script-line n word number cause e1 e2 = rw (e1, e2) (simp append_assoc)

-- a text that is the same is written the same
pub report-ok : {T E : Type 0} (r : Result T E) (before after : Option (List ℕ)) (text line : List ℕ) → text ≡ line
    → OnOk r (after ≡ append_known before text) → OnOk r (after ≡ append_known before line)
report-ok {T} {E} r before after text line e h = let P : List ℕ → Type 0 = λ xs. OnOk r (after ≡ append_known before xs) in subst P e h

pub report-cut : {T E : Type 0} (r : Result T E) (before after : Option (List ℕ)) (text line : List ℕ) → text ≡ line
    → OnErr r (IsCut before after text) → OnErr r (IsCut before after line)
report-cut {T} {E} r before after text line e h = let P : List ℕ → Type 0 = λ xs. OnErr r (IsCut before after xs) in subst P e h

-- a prefix behind the first piece
pub pieces-cut : {T E : Type 0} (r : Result T E) (before mid after : Option (List ℕ)) (first rest whole : List ℕ) → whole ≡ first ++ rest → mid ≡ append_known before first
    → OnErr r (IsCut mid after rest) → OnErr r (IsCut before after whole)
pieces-cut {T} {E} r before mid after first rest whole e1 e2 h =
    report-cut r before after (first ++ rest) whole (sym e1) (on-error r (IsCut mid after rest) (IsCut before after (first ++ rest)) h (cut-behind before mid after first rest e2))
