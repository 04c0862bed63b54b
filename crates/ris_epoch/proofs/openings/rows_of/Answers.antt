use Rattle.std.proofs.Common.{◌≡◌, ◌+◌, ◌<◌, ◌++◌, List, [], ◌∷◌, arith, sym, subst, ap, ◌∙◌}
use Rattle.std.specs.List.{All}
use Rattle.std.proofs.lemmas.List.Elements.{All-get_or, All-nil, All-push, All-weaker}
use Rattle.std.proofs.lemmas.Option.{get_or_from_slice_get, slice_get_within}
use Rattle.ris_base.specs.Forest.{forest_in}
use Rattle.ris_base.specs.declared.analyses.Value.{Value}
use Rattle.ris_base.specs.declared.forests.ForestRow.{ForestRow}
use Rattle.ris_base.specs.declared.forests.Parent.{Parent}
use Rattle.ris_analysis.specs.Analyses.{forests_of}
use Rattle.ris_epoch.specs.Openings.{IsBelow}
use Rattle.ris_epoch.proofs.OpeningSteps.{forest-rows, rows-next, rows-none, rows_below}
use Rattle.ris_epoch.proofs.openings.rows_of.Goals as goal

pub loop-x-init : goal.loop-x-init
loop-x-init c = record {
  rows = λ F at. c.in_ok-rows.ensures ∙ sym (rows-none F);
  below = subst (All (λ (r : ForestRow). r.vertex < 0)) (sym c.in_ok-rows.ensures) (All-nil (λ (r : ForestRow). r.vertex < 0));
}

pub push-requires : goal.push-requires
push-requires c = c.loop-x.invariant.below

pub loop-x-preserved : goal.loop-x-preserved
loop-x-preserved c =
    let row : ForestRow = record { vertex = c.loop-x.x; value = c.value-value.result; parent = c.parent-parent.result } in
    record {
      rows = λ F at. c.in_ok-push.ensures.ok ∙ ap (λ (rs : List ForestRow). rs ++ row ∷ []) (c.loop-x.invariant.rows F at)
          ∙ ap (λ (v : Value). rows_below F c.loop-x.x ++ record { vertex = c.loop-x.x; value = v; parent = c.parent-parent.result } ∷ []) (c.value-value.ensures F at)
          ∙ ap (λ (p : Parent). rows_below F c.loop-x.x ++ record { vertex = c.loop-x.x; value = F.value c.loop-x.x; parent = p } ∷ []) (c.parent-parent.ensures F at)
          ∙ sym (rows-next F c.loop-x.x);
      below = subst (All (λ (r : ForestRow). r.vertex < c.loop-x.x + 1)) (sym c.in_ok-push.ensures.ok)
          (All-push (λ (r : ForestRow). r.vertex < c.loop-x.x + 1) c.loop-x.rows row
          (All-weaker (λ (r : ForestRow). r.vertex < c.loop-x.x) (λ (r : ForestRow). r.vertex < c.loop-x.x + 1) (λ r less. omega arith) c.loop-x.rows c.loop-x.invariant.below)
          (omega arith));
    }

pub returns : goal.returns
returns c = λ F at.
    let last : c.loop-x.x ≡ c.args.vertices = omega arith in
    let small : IsBelow c.args.vertices F = subst (IsBelow c.args.vertices) (get_or_from_slice_get (forests_of c.args.analyses.now) c.args.a F F at)
    (All-get_or (IsBelow c.args.vertices) (forests_of c.args.analyses.now) c.args.a F (slice_get_within (forests_of c.args.analyses.now) c.args.a F at) c.requires.below) in
    ap forest_in (c.loop-x.invariant.rows F at) ∙ ap (λ n. forest_in (rows_below F n)) last ∙ forest-rows F c.args.vertices small
