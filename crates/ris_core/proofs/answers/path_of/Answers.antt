use Rattle.std.proofs.Common.{◌+◌, ◌-◌, ◌++◌, ◌∷◌, [], ◌∙◌, ap, sym, arith}
use Rattle.std.proofs.lemmas.List.{append-nil, append_assoc}
use Rattle.ris_base.specs.Forest.{forest_in, parent_in}
use Rattle.ris_core.specs.Answered.{path_of}
use Rattle.ris_core.proofs.AnswerScans.{path-goes, path-stops, path-zero}
use Rattle.ris_core.proofs.answers.path_of.Goals as goal

pub returns-in_default : goal.returns-in_default
returns-in_default c =
    let F = forest_in c.args.rows.now in
    let k = 4194305 - (c.loop-k._k + 1) in
    let none = sym (sym c.in_default.is ∙ c.parent_in.ensures ∙ ap (parent_in c.args.rows.now) c.from.ensures) in
    c.in_ok-push.ensures.ok ∙ sym (ap (λ xs. c.loop-k.vertices ++ xs) (path-stops F (4194305 - c.loop-k._k) k c.loop-k.here (omega arith) none)) ∙ c.loop-k.invariant

pub loop-k-preserved : goal.loop-k-preserved
loop-k-preserved c =
    let F = forest_in c.args.rows.now in
    let k = 4194305 - (c.loop-k._k + 1) in
    let from = sym (sym c.in-From.is ∙ c.parent_in.ensures ∙ ap (parent_in c.args.rows.now) c.from.ensures) in
    ap (λ xs. xs ++ path_of F k c.in-From.vertex) c.in_ok-push.ensures.ok ∙ append_assoc c.loop-k.vertices (c.loop-k.here ∷ []) (path_of F k c.in-From.vertex)
    ∙ sym (ap (λ xs. c.loop-k.vertices ++ xs) (path-goes F (4194305 - c.loop-k._k) k c.loop-k.here c.in-From.vertex c.in-From.source c.in-From.target c.in-From.weight (omega arith) from))
    ∙ c.loop-k.invariant

pub returns : goal.returns
returns c =
    let F = forest_in c.args.rows.now in
    sym (append-nil c.loop-k.vertices) ∙ sym (ap (λ xs. c.loop-k.vertices ++ xs) (ap (λ n. path_of F n c.loop-k.here) (omega arith) ∙ path-zero F c.loop-k.here)) ∙ c.loop-k.invariant
