use Rattle.std.proofs.Common.{◌≡◌, ◌≢◌, false, List, [], ◌∷◌, length, Some, refl, sym, ap, ◌∙◌, arith}
use Rattle.std.specs.List.{slice_get}
use Rattle.std.specs.Option.{option_copied}
use Rattle.ris_analysis.specs.Analyses.{forests_of, specs_of}
use Rattle.ris_base.specs.Forest.{Forest}
use Rattle.ris_base.specs.Safe.{is_candidate}
use Rattle.ris_base.specs.declared.analyses.Spec.{Spec}
use Rattle.ris_base.specs.declared.graphs.PlainGraph.{PlainGraph}
use Rattle.ris_base.specs.declared.updates.Update.{Update}
use Rattle.ris_epoch.proofs.judging.candidate_update.Goals as goal

-- a request of no part or of many is no candidate
not-one : (p : PlainGraph) (specs : List Spec) (forests : List Forest) (parts : List Update) → length parts ≢ 1 → is_candidate p specs forests parts ≡ false
not-one p specs forests [] many = refl
not-one p specs forests (u ∷ []) many = absurd (many refl)
not-one p specs forests (u ∷ w ∷ parts) many = refl

-- the part of a request of one part
one-part : (parts : List Update) (u : Update) → length parts ≡ 1 → Some u ≡ slice_get parts 0 → parts ≡ u ∷ []
one-part [] u one at = absurd (omega arith)
one-part (x ∷ []) u one at = let same : u ≡ x = cc in ap (λ (y : Update). y ∷ []) (sym same)
one-part (x ∷ y ∷ parts) u one at = absurd (omega arith)

pub returns-then-is_candidate : goal.returns-then-is_candidate
returns-then-is_candidate g c p of =
    let single : length c.args.parts.now ≡ 1 = omega arith in
    let first : Some c.in_ok-update.field-0.now ≡ slice_get c.args.parts.now 0 = ap option_copied (sym c.in_ok-update.was) ∙ c.get.ensures in
    let same = one-part c.args.parts.now c.in_ok-update.field-0.now single first in
    let yes = sym (c.is_candidate.ensures p of) ∙ c.if-is_candidate.true in
    (same, ap (λ (parts : List Update). is_candidate p (specs_of c.args.analyses.now) (forests_of c.args.analyses.now) parts) same ∙ yes)
