use Rattle.std.proofs.Common.{◌≡◌, ◌∷◌, [], ◌∙◌, ap, sym, arith, length, subst, Ok}
use Rattle.std.specs.List.{All}
use Rattle.std.proofs.lemmas.List.Elements.{All-cons, All-nil}
use Rattle.ris_base.specs.Lines.{front}
use Rattle.ris_base.specs.Requests.{after}
use Rattle.ris_base.proofs.LineLemmas.{after-zero}
use Rattle.ris_core.proofs.Made.{made}
use Rattle.ris_core.proofs.LineScans.{front-none}
use Rattle.ris_core.proofs.board.Board.new.Goals as goal

pub invariant_of-result : goal.invariant_of-result
invariant_of-result c =
    let seats = made c.both-lists.result (λ p. c.empty_seats.result ≡ Ok p.0) _ c.in-Ok.ensures.b c.both-lists.ensures.a in
    let place = made c.both-lists.result (λ p. c.one_place.result ≡ Ok p.1) _ c.in-Ok.ensures.b c.both-lists.ensures.b in
    let current = made c.plain_copy.result (λ g. g ≡ c.args.opening) _ c.in-Ok.ensures.a c.plain_copy.ensures in
    let places = made c.one_place.result (λ ps. ps.items ≡ c.args.tables ∷ []) _ place c.one_place.ensures in
    let none = ap front c.new.ensures.items ∙ front-none in (
      current ∙ sym (ap (after c.args.opening c.new.result.items) none ∙ after-zero c.args.opening c.new.result.items),
      (let a = ap length places in omega arith),
      subst (All (λ tables. length tables ≡ length c.args.specs)) (sym places) (All-cons (λ tables. length tables ≡ length c.args.specs) c.args.tables [] c.requires (All-nil (λ tables. length tables ≡ length c.args.specs))),
    )
