-- A list of analyses, read item by item.
use Rattle.std.specs.Prelude.{ℕ, zero, suc, ◌==◌, if◌then◌else◌, List, [], ◌∷◌, Option, Some, None}
use Rattle.std.specs.Option.{option_and_then, option_map}
use Rattle.ris_base.specs.CommandLine.{analysis_named}
use Rattle.ris_base.specs.Script.{Bytes}
use Rattle.ris_base.specs.declared.analyses.Spec.{Spec}

-- what stands before the first byte c of a word, and what behind it, where there is one
unfoldable pub cut_at : ℕ → Bytes → Option (Bytes × Bytes)
cut_at c [] = None
cut_at c (byte ∷ bytes) = if byte == c then Some ([], bytes) else option_map (λ p. (byte ∷ p.0, p.1)) (cut_at c bytes)

-- an analysis and those behind it
abbrev pub with_first : Option Spec → Option (List Spec) → Option (List Spec)
with_first first rest = option_and_then (λ spec. option_map (λ specs. spec ∷ specs) rest) first

-- the analyses that a word says, which is cut so, where those behind the first item are known
abbrev pub specs_cut : Bytes → Option (Bytes × Bytes) → (Bytes → Option (List Spec)) → Option (List Spec)
specs_cut word None rest = with_first (analysis_named word) (Some [])
specs_cut word (Some p) rest = with_first (analysis_named p.0) (rest p.1)

-- the analyses that a word says, where it is at most n items, joined by commas
unfoldable pub specs_within : ℕ → Bytes → Option (List Spec)
specs_within zero word = None
specs_within (suc n) word = specs_cut word (cut_at 44 word) (specs_within n)
