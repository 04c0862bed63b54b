use Rattle.std.proofs.Common.{◌≡◌, ◌++◌, ◌∷◌, [], ap, sym, ◌∙◌, List, ℕ, Option, Some, None}
use Rattle.std.specs.Option.{IfSome, option_to_list}
use Rattle.ris_repair.proofs.RadixLemmas.{listed_set, listed_at, listed_now}
use Rattle.ris_repair.proofs.radix.Buckets.pop.Goals as goal

-- the item that was taken stood last
taken : (old now rest : List (ℕ × ℕ)) (found : Option (ℕ × ℕ)) → old ≡ rest ++ option_to_list found → now ≡ rest → IfSome found (λ item. old ≡ now ++ item ∷ [])
taken old now rest None is e = _
taken old now rest (Some item) is e = is ∙ ap (λ (xs : List (ℕ × ℕ)). xs ++ item ∷ []) (sym e)

pub returns-clause-some : goal.returns-clause-some
returns-clause-some c =
    let lists = c.self.inside.lists.items in
    let old = c.index_mut.result.now in
    let at = listed_at lists c.args.number c.args.self.now old c.self.view_is c.requires c.index_mut.ensures.value in
    let now = listed_now lists c.args.number c.args.self.now old c.self.view_is c.requires c.index_mut.ensures.value c.pop.new.self in
    taken _ _ _ c.pop.result (sym at ∙ c.pop.ensures.items) now

pub returns-clause-rest : goal.returns-clause-rest
returns-clause-rest c =
    let lists = c.self.inside.lists.items in
    let old = c.index_mut.result.now in
    let now = listed_now lists c.args.number c.args.self.now old c.self.view_is c.requires c.index_mut.ensures.value c.pop.new.self in
    listed_set lists c.args.number c.args.self.now old c.self.view_is c.requires c.index_mut.ensures.value c.pop.new.self _ (sym now)
