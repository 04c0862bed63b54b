-- A mark or a leave more changes no graph and no front.
use Rattle.std.proofs.Common.{◌≡◌, false, List, [], ◌∷◌, ◌++◌, arith, ap, ◌∙◌}
use Rattle.std.proofs.lemmas.Bool.{true≢false}
use Rattle.ris_base.specs.Lines.{front}
use Rattle.ris_base.specs.Records.{is_entry}
use Rattle.ris_base.specs.Requests.{after}
use Rattle.ris_base.specs.declared.graphs.PlainGraph.{PlainGraph}
use Rattle.ris_base.specs.declared.lines.Line.{Line}
use Rattle.ris_base.specs.declared.lines.Line.TheVariants as line
use Rattle.ris_base.proofs.LineLemmas.{after-append, front-leave, front-mark}

pub line-front : (xs : List Line) (l : Line) → is_entry l ≡ false → front (xs ++ l ∷ []) ≡ front xs
line-front xs (line.Entry e) h = absurd (true≢false h)
line-front xs (line.Mark s q u) h = front-mark xs s q u
line-front xs (line.Leave s q) h = front-leave xs s q

pub line-after : (g : PlainGraph) (xs : List Line) (l : Line) → is_entry l ≡ false → after g (xs ++ l ∷ []) (front (xs ++ l ∷ [])) ≡ after g xs (front xs)
line-after g xs l h = ap (after g (xs ++ l ∷ [])) (line-front xs l h) ∙ after-append g xs (l ∷ []) (front xs) (omega arith)
