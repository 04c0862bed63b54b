use Rattle.std.proofs.Common.{◌≡◌, ◌<◌, ◌≤◌, ◌++◌, List, [], ◌∷◌, get_or, length, map, arith, sym, ap, ◌∙◌}
use Rattle.std.proofs.lemmas.List.{length-map, map-append, take_all, take_more}
use Rattle.std.proofs.lemmas.Option.{slice_get-get_or}
use Rattle.ris_base.specs.Forest.{Forest, forest_in}
use Rattle.ris_analysis.specs.Analyses.{forests_of}
use Rattle.ris_analysis.specs.AnyForest as one
use Rattle.ris_epoch.proofs.openings.forests_of.Goals as goal

pub loop-a-init : goal.loop-a-init
loop-a-init c = ap (map forest_in) c.new-forests.ensures

pub loop-a-preserved : goal.loop-a-preserved
loop-a-preserved c =
    let Fs = forests_of c.args.analyses.now in
    let long : length Fs ≡ length c.args.analyses.now = length-map c.args.analyses.now one.forest_in in
    let within : c.loop-a.a < length Fs = omega arith in
    let F : Forest = get_or Fs c.loop-a.a (forest_in []) in
    let is : forest_in c.in_ok-rows.rows ≡ F = c.in_ok-rows.ensures F (slice_get-get_or Fs c.loop-a.a (forest_in []) within) in
    ap (map forest_in) c.in_ok-push.ensures.ok ∙ map-append forest_in c.loop-a.forests (c.in_ok-rows.rows ∷ [])
    ∙ ap (λ (G : Forest). map forest_in c.loop-a.forests ++ G ∷ []) is ∙ ap (λ (Gs : List Forest). Gs ++ F ∷ []) c.loop-a.invariant
    ∙ sym (take_more Fs c.loop-a.a (forest_in []) within)

pub returns : goal.returns
returns c =
    let Fs = forests_of c.args.analyses.now in
    let long : length Fs ≡ length c.args.analyses.now = length-map c.args.analyses.now one.forest_in in
    let past : length Fs ≤ c.loop-a.a = omega arith in
    c.loop-a.invariant ∙ take_all c.loop-a.a Fs past
