use Rattle.std.proofs.Common.{◌≡◌, ◌+◌, List, [], ◌∷◌, ◌++◌, get_or, take, subst, sym, ap, arith, append_assoc, ◌∙◌}
use Rattle.std.proofs.lemmas.List.{take_more, take_all, length-take-le, length-append}
use Rattle.std.proofs.lemmas.List.Sums.{count_by-le-length}
use Rattle.ris_base.specs.Graph.{is_equal}
use Rattle.ris_base.specs.declared.graphs.Triple.{Triple}
use Rattle.ris_graph.specs.GraphView.{IsOf}
use Rattle.ris_graph.specs.Appending.{appended_all}
use Rattle.ris_graph.proofs.graphs.Graph.append_all.Goals as goal

pub append-requires : goal.append-requires
append-requires g c =
    let xs = c.args.triples.now in
    let i = c.loop-t.t-index in
    let d : Triple = record { source = 0; target = 0; weight = 0 } in
    let plain = c.requires.plain in
    let of = c.loop-t.invariant plain c.requires.is in
    let proper = c.requires.proper i d c.loop-t-test.true in
    let same = of.triples (get_or xs i d) in
    let most = count_by-le-length (is_equal (get_or xs i d)) (plain.triples ++ take i xs) in
    let size = length-append plain.triples (take i xs) in
    let seen = length-take-le i xs c.loop-t.auto.t-index-end in
    record {
      plain = appended_all plain (take i xs);
      is = of;
      proper = record { source = proper.source; target = proper.target; weight = proper.weight };
      few = (let lt = c.loop-t-test.true in let few = c.requires.few in omega arith);
    }

pub loop-t-preserved : goal.loop-t-preserved
loop-t-preserved g c p is =
    let xs = c.args.triples.now in
    let i = c.loop-t.t-index in
    let t = get_or xs i (record { source = 0; target = 0; weight = 0 }) in
    let seen : p.triples ++ take (i + 1) xs ≡ (p.triples ++ take i xs) ++ t ∷ [] =
    ap (λ (l : List Triple). p.triples ++ l) (take_more xs i (record { source = 0; target = 0; weight = 0 }) c.loop-t-test.true) ∙ sym (append_assoc p.triples (take i xs) (t ∷ [])) in
    subst (λ (l : List Triple). IsOf c.append.new.self (record p { triples = l })) (sym seen)
    (c.in_ok-append.ensures (appended_all p (take i xs)) (c.loop-t.invariant p is))

pub returns : goal.returns
returns g c p is = rw (take_all c.loop-t.t-index c.args.triples.now c.loop-t-test.false) at (c.loop-t.invariant p is)
