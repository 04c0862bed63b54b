-- What is kept is what passes the test.
use Rattle.std.proofs.Common.{rules, ◌≡◌, ◌==◌, not, filter, refl}
use Rattle.std.proofs.lemmas.Fn.{filter_same}
use Rattle.ris_base.specs.Graph.{names}
use Rattle.ris_four.proofs.effects.Working.drop_vertex.Goals as goal

pub returns : goal.returns
returns c =
    let a : c.retain.new.self.items ≡ filter (λ y. not (y == c.args.x)) c.args.self.now.vertices.items =
    filter_same _ (λ y. not (y == c.args.x)) _ (λ y b f h. search rules) _ _ c.retain.ensures.filtered in
    let b : c.retain-2.new.self.items ≡ filter (λ t. not (names c.args.x t)) c.args.self.now.triples.items =
    filter_same _ (λ t. not (names c.args.x t)) _ (λ t b f h. search rules) _ _ c.retain-2.ensures.filtered in
    rw (a, b) refl
