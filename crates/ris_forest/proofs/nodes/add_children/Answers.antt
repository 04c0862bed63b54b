use Rattle.std.proofs.Common.{◌≡◌, ℕ, ◌≤◌, ◌++◌, ◌∷◌, [], ◌∙◌, inl, inr, List, length, arith, sym, subst, ap, append_assoc, append-nil, length-append}
use Rattle.std.specs.List.{Contains}
use Rattle.std.proofs.lemmas.List.Elements.{Contains-append_left, Contains-append_right, Contains-push_cases}
use Rattle.ris_base.proofs.ListLemmas.{Contains-first, Contains-none}
use Rattle.ris_forest.specs.Growing.{with_vertex, GoesOn}
use Rattle.ris_forest.specs.Linking.{no_vertex, above_of, Chain, AreChildren}
use Rattle.ris_forest.specs.declared.nodes.Links.{Links}
use Rattle.ris_forest.proofs.ChainLemmas.{Chain-more, Chain-none}
use Rattle.ris_forest.proofs.LinkLemmas.{children_within}
use Rattle.ris_forest.proofs.SubtreeLemmas.{links_to_end-chain, GoesOn-refl, GoesOn-trans, GoesOn-with, Contains-with}
use Rattle.ris_forest.proofs.nodes.add_children.Goals as goal

pub loop-child-init : goal.loop-child-init
loop-child-init c =
    let h = c.requires.linked c.args.vertex in
    record {
      seen = [];
      rest = h.children;
      before = no_vertex;
      all = h.all;
      chain = subst (λ x. Chain c.args.nodes.now no_vertex x h.children) (sym (ap (λ (l : Links). l.first) c.links_of-child.ensures)) h.chain;
      on = GoesOn-refl c.args.found.now;
      each = λ y. (λ k. inl k, λ k. elim k [ inl had ↦ had | inr none ↦ absurd (Contains-none y none) ]);
    }

pub loop-child-smaller : goal.loop-child-smaller
loop-child-smaller c =
    let i = c.loop-child.invariant in
    let few : length c.args.nodes.now ≤ no_vertex = (let h = c.requires.few in omega arith) in
    let more = Chain-more c.args.nodes.now i.before c.loop-child.child i.rest i.chain c.loop-child-test.true in
    let all = children_within c.args.nodes.now (above_of c.args.nodes.now) few c.requires.linked c.args.vertex (i.seen ++ i.rest) i.all in
    let sizes = length-append i.seen i.rest in
    let some = ap length more.1 in
    let next = subst (λ x. Chain c.args.nodes.now c.loop-child.child x more.0) (sym (ap (λ (l : Links). l.next) c.links_of-links.ensures)) more.2 in
    let now = links_to_end-chain c.args.nodes.now (length c.args.nodes.now) i.before c.loop-child.child i.rest few i.chain (omega arith) in
    let then_ = links_to_end-chain c.args.nodes.now (length c.args.nodes.now) c.loop-child.child c.links_of-links.result.next more.0 few next (omega arith) in
    omega arith

pub loop-child-preserved : goal.loop-child-preserved
loop-child-preserved c =
    let i = c.loop-child.invariant in
    let child = c.loop-child.child in
    let more = Chain-more c.args.nodes.now i.before child i.rest i.chain c.loop-child-test.true in
    let grown : c.insert.new.self ≡ with_vertex c.loop-child.found child = c.in_ok-insert.ensures.ok in
    record {
      seen = i.seen ++ child ∷ [];
      rest = more.0;
      before = child;
      all = subst (AreChildren (above_of c.args.nodes.now) c.args.vertex) (ap (λ (l : List _). i.seen ++ l) more.1 ∙ sym (append_assoc i.seen (child ∷ []) more.0)) i.all;
      chain = subst (λ x. Chain c.args.nodes.now child x more.0) (sym (ap (λ (l : Links). l.next) c.links_of-links.ensures)) more.2;
      on = subst (GoesOn c.args.found.now) (sym grown) (GoesOn-trans c.args.found.now c.loop-child.found (with_vertex c.loop-child.found child) i.on (GoesOn-with c.loop-child.found child));
      each = λ y. (
        λ k. elim ((Contains-with c.loop-child.found child y).0 (subst (λ (l : List ℕ). Contains l y) grown k)) [
          | inl had ↦ elim ((i.each y).0 had) [ inl old ↦ inl old | inr seen ↦ inr (Contains-append_left i.seen (child ∷ []) y seen) ]
          | inr same ↦ inr (subst (Contains (i.seen ++ child ∷ [])) (sym same) (Contains-append_right i.seen (child ∷ []) child (Contains-first child [])))
        ],
        λ k. subst (λ (l : List ℕ). Contains l y) (sym grown) ((Contains-with c.loop-child.found child y).1 (elim k [
          | inl old ↦ inl ((i.each y).1 (inl old))
          | inr new ↦ elim (Contains-push_cases i.seen child y new) [ inl seen ↦ inl ((i.each y).1 (inr seen)) | inr last ↦ inr (sym last) ]
        ])),
      );
    }

pub returns-clause-ok : goal.returns-clause-ok
returns-clause-ok c =
    let i = c.loop-child.invariant in
    let few : length c.args.nodes.now ≤ no_vertex = (let h = c.requires.few in omega arith) in
    let end = Chain-none c.args.nodes.now i.before c.loop-child.child i.rest few i.chain c.loop-child-test.false in
    let all = subst (AreChildren (above_of c.args.nodes.now) c.args.vertex) (ap (λ (l : List ℕ). i.seen ++ l) end ∙ append-nil i.seen) i.all in
    record {
      on = i.on;
      each = λ y. (
        λ k. elim ((i.each y).0 k) [ inl old ↦ inl old | inr seen ↦ inr ((all.each y).0 seen) ],
        λ k. (i.each y).1 (elim k [ inl old ↦ inl old | inr child ↦ inr ((all.each y).1 child) ]),
      );
    }
