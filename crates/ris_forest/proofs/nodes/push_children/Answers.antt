use Rattle.std.proofs.Common.{◌≡◌, ◌≤◌, ◌+◌, ◌++◌, ◌∷◌, [], ◌∙◌, List, length, arith, sym, subst, ap, append_assoc, append-nil, length-append}
use Rattle.std.proofs.lemmas.List.{length_push}
use Rattle.ris_forest.specs.Linking.{no_vertex, above_of, Chain, AreChildren}
use Rattle.ris_forest.specs.declared.nodes.Links.{Links}
use Rattle.ris_forest.proofs.ChainLemmas.{Chain-more, Chain-none}
use Rattle.ris_forest.proofs.LinkLemmas.{children_within}
use Rattle.ris_forest.proofs.nodes.push_children.Goals as goal

pub loop-child-init : goal.loop-child-init
loop-child-init c =
    let h = c.requires.linked c.args.vertex in
    record {
      seen = [];
      rest = h.children;
      before = no_vertex;
      all = h.all;
      chain = subst (λ x. Chain c.args.nodes.now no_vertex x h.children) (sym (ap (λ (l : Links). l.first) c.links_of-child.ensures)) h.chain;
      grown = sym (append-nil c.args.found.now.items);
    }

pub loop-child-smaller : goal.loop-child-smaller
loop-child-smaller c =
    let i = c.loop-child.invariant in
    let few : length c.args.nodes.now ≤ no_vertex = (let h = c.requires.few in omega arith) in
    let more = Chain-more c.args.nodes.now i.before c.loop-child.child i.rest i.chain c.loop-child-test.true in
    let all = children_within c.args.nodes.now (above_of c.args.nodes.now) few c.requires.linked c.args.vertex (i.seen ++ i.rest) i.all in
    let sizes = length-append i.seen i.rest in
    let some = ap length more.1 in
    let had = ap length i.grown ∙ length-append c.args.found.now.items i.seen in
    let has : length c.push.new.self.items ≡ length c.loop-child.found.items + 1 = ap length c.in_ok-push.ensures.items ∙ length_push c.loop-child.found.items c.loop-child.child in
    omega arith

pub loop-child-preserved : goal.loop-child-preserved
loop-child-preserved c =
    let i = c.loop-child.invariant in
    let more = Chain-more c.args.nodes.now i.before c.loop-child.child i.rest i.chain c.loop-child-test.true in
    record {
      seen = i.seen ++ c.loop-child.child ∷ [];
      rest = more.0;
      before = c.loop-child.child;
      all = subst (AreChildren (above_of c.args.nodes.now) c.args.vertex) (ap (λ (l : List _). i.seen ++ l) more.1 ∙ sym (append_assoc i.seen (c.loop-child.child ∷ []) more.0)) i.all;
      chain = subst (λ x. Chain c.args.nodes.now c.loop-child.child x more.0) (sym (ap (λ (l : Links). l.next) c.links_of-child-in-loop-child.ensures)) more.2;
      grown = c.in_ok-push.ensures.items ∙ ap (λ (l : List _). l ++ c.loop-child.child ∷ []) i.grown ∙ append_assoc c.args.found.now.items i.seen (c.loop-child.child ∷ []);
    }

pub returns : goal.returns
returns c =
    let i = c.loop-child.invariant in
    let few : length c.args.nodes.now ≤ no_vertex = (let h = c.requires.few in omega arith) in
    let end = Chain-none c.args.nodes.now i.before c.loop-child.child i.rest few i.chain c.loop-child-test.false in
    record {
      children = i.seen;
      all = subst (AreChildren (above_of c.args.nodes.now) c.args.vertex) (ap (λ (l : List _). i.seen ++ l) end ∙ append-nil i.seen) i.all;
      grown = i.grown;
    }
