use Rattle.std.proofs.Common.{◌≡◌, ◌||◌, not, true, false, ap, sym, subst, ◌∙◌}
use Rattle.std.specs.Prelude.{nat_le}
use Rattle.std.proofs.lemmas.Bool.{le-leb, lt-leb, or_left}
use Rattle.ris_base.specs.Graph.{copies, triple}
use Rattle.ris_base.specs.Safe.{uses}
use Rattle.ris_forest.specs.Cells.{forest_of}
use Rattle.ris_safe.proofs.safety.keeps_forest.Goals as goal

pub returns-then-copies-ge2 : goal.returns-then-copies-ge2
returns-then-copies-ge2 g c p is =
    let t = triple c.in-DelE.u c.in-DelE.v c.in-DelE.w in
    let same : c.copies.result ≡ copies p t = c.copies.ensures ∙ is.triples t in
    let two : nat_le 2 c.copies.result ≡ true = le-leb 2 c.copies.result c.if-copies-ge2.true in
    rw c.in-DelE.is (two ∙ sym (or_left (nat_le 2 (copies p t)) (not (uses (forest_of c.args.forest.now.cells) t)) (subst (λ n. nat_le 2 n ≡ true) same two)))

pub returns-else-copies-ge2 : goal.returns-else-copies-ge2
returns-else-copies-ge2 g c p is =
    let t = triple c.in-DelE.u c.in-DelE.v c.in-DelE.w in
    let same : c.copies.result ≡ copies p t = c.copies.ensures ∙ is.triples t in
    let few : nat_le 2 (copies p t) ≡ false = subst (λ n. nat_le 2 n ≡ false) same (lt-leb 2 c.copies.result c.if-copies-ge2.false) in
    rw c.in-DelE.is (ap not c.is_used_by.ensures ∙ ap (λ b. b || not (uses (forest_of c.args.forest.now.cells) t)) (sym few))
