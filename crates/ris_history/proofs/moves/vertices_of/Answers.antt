use Rattle.std.proofs.Common.{ℕ, ◌≤◌, ◌++◌, [], ◌∷◌, List, Vec, eqb, length, take, arith, sym, subst, ap, ◌∙◌}
use Rattle.std.specs.declared.alloc.Global.{Global}
use Rattle.std.proofs.lemmas.List.{append-nil}
use Rattle.std.proofs.lemmas.List.Filters.{dedup_is}
use Rattle.ris_history.specs.Reads.{AreVerticesOf}
use Rattle.ris_history.proofs.ChangeLemmas.{take-length}
use Rattle.ris_history.proofs.MovedLemmas.{of_analysis, of_analysis-next, of_analysis-own, of_analysis-other, vertices-are}
use Rattle.ris_history.proofs.moves.vertices_of.Goals as goal
use Rattle.ris_history.proofs.moves.vertices_of.Goals.{then-vertex-a+in_ok-push, else-vertex-a}

pub loop-k-preserved : goal.loop-k-preserved
loop-k-preserved c =
    let a = c.args.a in
    let m = c.at-vertex.result.now in
    let next = of_analysis-next a c.args.moved.now c.loop-k.k m c.at-vertex.ensures in
    let before = of_analysis a (take c.loop-k.k c.args.moved.now) in
    elim c.if-vertex-a.branch [
      | then-vertex-a+in_ok-push w ↦
          ap (λ (v : Vec ℕ Global). v.items) w.vertices-is ∙ w.in_ok-push.ensures.items ∙ ap (λ (xs : List ℕ). xs ++ m.vertex ∷ []) c.loop-k.invariant
          ∙ sym (next ∙ ap (λ (xs : List ℕ). before ++ xs) (of_analysis-own a m w.if-vertex-a.true))
      | else-vertex-a w ↦
          ap (λ (v : Vec ℕ Global). v.items) w.vertices-is ∙ c.loop-k.invariant
          ∙ sym (next ∙ ap (λ (xs : List ℕ). before ++ xs) (of_analysis-other a m w.if-vertex-a.false) ∙ append-nil before)
    ]

pub returns : goal.returns
returns c =
    let end = (let test = c.loop-k-test.false in let size = c.len-k-end.ensures in let x : length c.args.moved.now ≤ c.loop-k.k = omega arith in x) in
    let from = c.loop-k.invariant ∙ ap (of_analysis c.args.a) (take-length c.loop-k.k c.args.moved.now end) in
    subst (AreVerticesOf c.args.moved.now c.args.a) (sym c.from_vec.ensures)
    (vertices-are c.args.moved.now c.args.a c.loop-k.vertices.items c.sort.new.self.items c.dedup.new.self.items from c.in_ok-sort.ensures.permutation c.in_ok-sort.ensures.sorted
    (dedup_is eqb c.sort.new.self.items c.dedup.new.self.items c.dedup.ensures.filtered))
