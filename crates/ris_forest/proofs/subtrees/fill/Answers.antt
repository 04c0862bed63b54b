use Rattle.std.proofs.Common.{◌∙◌, below_more, below_none, inl, inr, slice_index, refl, sym, subst, arith}
use Rattle.std.specs.List.{Contains}
use Rattle.std.proofs.lemmas.List.{get_or_default}
use Rattle.std.proofs.lemmas.List.Elements.{Contains-get_or}
use Rattle.ris_forest.proofs.SubtreeLemmas.{Contains-updated, IsWithin-reordered, IsWithin-updated}
use Rattle.ris_forest.proofs.subtrees.fill.Goals as goal

pub loop-x-init : goal.loop-x-init
loop-x-init c = record {
  known = IsWithin-reordered c.args.members.now.keys c.reserve.new.self.keys c.args.vertices.now c.reserve.ensures.keys.2 c.requires;
  all = below_none _;
}

pub loop-x-preserved : goal.loop-x-preserved
loop-x-preserved c =
    let i = c.loop-x.invariant in
    let xs = c.args.vertices.now in
    let x = slice_index xs c.loop-x.x-index in
    let has = Contains-updated c.loop-x.members.keys c.insert.new.self.keys x c.in_ok-insert.ensures.updates.0 in
    record {
      known = IsWithin-updated c.loop-x.members.keys c.insert.new.self.keys xs x has i.known (Contains-get_or xs c.loop-x.x-index 0 c.loop-x-test.true);
      all = below_more _ _ (λ k less. (has (slice_index xs k)).1 (inl (i.all k less))) ((has x).1 (inr refl));
    }

pub returns-in_err-insert-clause-known : goal.returns-in_err-insert-clause-known
returns-in_err-insert-clause-known c = rw c.in_err-insert.ensures.err c.loop-x.invariant.known

pub returns-clause-ok : goal.returns-clause-ok
returns-clause-ok c y h =
    subst (Contains c.loop-x.members.keys) (sym (get_or_default c.args.vertices.now h.0 y 0 h.1) ∙ h.2) (c.loop-x.invariant.all h.0 (omega arith))
