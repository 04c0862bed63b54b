-- That the links of a table lead through exactly the children, through each change.
use Rattle.std.proofs.Common.{◌≡◌, ◌≢◌, ℕ, ◌<◌, ◌≤◌, ◌==◌, if◌then◌else◌, inl, inr, List, [], ◌∷◌, length, Option, Some, None, arith, refl, sym, subst, ap, ◌∙◌, le_of_eq}
use Rattle.std.specs.List.{Contains}
use Rattle.std.proofs.lemmas.Bool.{cases_eq, cases_lt, eq-eqb, ne_eqb, eqb-false, not-true}
use Rattle.std.proofs.lemmas.List.{get_or_past}
use Rattle.std.proofs.lemmas.Option.{none-some, same_Some}
use Rattle.ris_base.proofs.ListLemmas.{Contains-none, Contains-first, Contains-rest, Contains-cases, Contains-filter, Contains-filtered, EachOnce-cons, EachOnce-filter}
use Rattle.ris_forest.specs.Linking.{no_vertex, absent_node, first_of, next_of, previous_of, with_packed, unlinked, linked, Chain, AreChildren, IsLinked, without_above, AreLinked}
use Rattle.ris_forest.specs.declared.nodes.Node.{Node}
use Rattle.ris_forest.specs.declared.packing.Packed.{Packed}
use Rattle.ris_forest.proofs.ChainLemmas.{without, Chain-within, Chain-head, Chain-previous, Chain-next, Chain-same, Chain-behind, Chain-without}
use Rattle.ris_forest.proofs.WalkLemmas.{once_below}
use Rattle.ris_forest.proofs.TableLemmas.{read-set_same, length-unlinked, next_of-unlinked, previous_of-unlinked, first_of-unlinked, first_of-unlinked_apart, length-linked, next_of-linked, previous_of-linked, first_of-linked, first_of-linked_apart}
use Rattle.std.proofs.lemmas.List.{length-set}

-- the parent of c has the vertex p
abbrev pub with_above : (ℕ → Option ℕ) → ℕ → ℕ → ℕ → Option ℕ
with_above above c p x = if x == c then Some p else above x

module _ (nodes : List Node) (above : ℕ → Option ℕ) (few : length nodes ≤ no_vertex) (all : AreLinked nodes above) where
  -- a child has a node
  pub child_within : (p c : ℕ) → above c ≡ Some p → c < length nodes
  child_within p c is =
      let h = all p in
      Chain-within nodes no_vertex (first_of nodes p) c h.children h.chain ((h.all.each c).1 is)

  -- and so has its parent
  pub parent_within : (p c : ℕ) → above c ≡ Some p → p < length nodes
  parent_within p c is = elim (cases_lt p (length nodes)) [
    | inl within ↦ within
    | inr past ↦ (let h = all p in
        let none : first_of nodes p ≡ no_vertex = ap (λ (n : Node). n.links.first) (get_or_past nodes p absent_node past) in
        absurd (go h.children h.chain none ((h.all.each c).1 is)))
  ]
    where
      go : (xs : List ℕ) → Chain nodes no_vertex (first_of nodes p) xs → first_of nodes p ≡ no_vertex → Contains xs c → ⊥
      go [] end none k = Contains-none c k
      go (x ∷ xs) h none k = let same = h.0 in let within = h.1 in absurd (omega arith)

  -- there are no more children than nodes
  pub children_within : (p : ℕ) (children : List ℕ) → AreChildren above p children → length children ≤ length nodes
  children_within p children are = once_below children (length nodes) are.once (λ c k. child_within p c ((are.each c).0 k))

  -- a child taken out
  pub AreLinked-unlinked : (p c : ℕ) → above c ≡ Some p → AreLinked (unlinked nodes p c) (without_above above c)
  AreLinked-unlinked p c is q = elim (cases_eq q p) [ inl same ↦ subst (IsLinked (unlinked nodes p c) (without_above above c)) (sym same) here | inr other ↦ there other ]
    where
      h : IsLinked nodes above p
      h = all p

      size : length nodes ≤ length (unlinked nodes p c)
      size = le_of_eq (sym (length-unlinked nodes p c))

      is_child : Contains h.children c
      is_child = (h.all.each c).1 is

      now : (x : ℕ) → x ≢ c → without_above above c x ≡ above x
      now x apart = let u = ne_eqb x c apart in rw u refl

      head : first_of (unlinked nodes p c) p ≡ (if first_of nodes p == c then next_of nodes c else first_of nodes p)
      head =
          let own = eq-eqb p p refl in
          first_of-unlinked nodes p c p (parent_within p c is)
          ∙ elim (Chain-previous nodes no_vertex (first_of nodes p) c h.children h.chain h.all.once is_child) [
            | inl first ↦ (let t = eq-eqb (previous_of nodes c) no_vertex first.1 in let t' = eq-eqb (first_of nodes p) c first.0 in rw (t, t', own) refl)
            | inr later ↦ (let inside = Chain-within nodes no_vertex (first_of nodes p) (previous_of nodes c) h.children h.chain later.1 in
                let u = ne_eqb (previous_of nodes c) no_vertex (λ e. absurd (omega arith)) in
                let u' = ne_eqb (first_of nodes p) c later.0 in
                rw (u, u') refl)
          ]

      here : IsLinked (unlinked nodes p c) (without_above above c) p
      here = record {
        children = without c h.children;
        all = record {
          once = EachOnce-filter _ h.children h.all.once;
          each = λ x. (
            λ k. (let kept = Contains-filter _ h.children x k in
                now x (eqb-false x c (not-true (x == c) kept.1)) ∙ (h.all.each x).0 kept.0),
            λ e. elim (cases_eq x c) [
              | inl same ↦ (let t = eq-eqb x c same in absurd (none-some p (rw t at e)))
              | inr apart ↦ Contains-filtered _ h.children x ((h.all.each x).1 (sym (now x apart) ∙ e)) (let u = ne_eqb x c apart in rw u refl)
            ],
          );
        };
        chain = subst (λ y. Chain (unlinked nodes p c) no_vertex y (without c h.children)) (sym head)
            (Chain-without nodes (unlinked nodes p c) no_vertex (first_of nodes p) c h.children size few
            (λ x within. next_of-unlinked nodes p c x few within) (λ x within. previous_of-unlinked nodes p c x within)
            h.all.once (λ k. let inside = Chain-within nodes no_vertex (first_of nodes p) no_vertex h.children h.chain k in absurd (omega arith)) is_child h.chain);
      }

      there : q ≢ p → IsLinked (unlinked nodes p c) (without_above above c) q
      there other =
          let k = all q in
          let apart : (x : ℕ) → above x ≡ Some p → above x ≡ Some q → ⊥ = λ x a b. other (sym (same_Some p q (sym a ∙ b))) in
          record {
            children = k.children;
            all = record {
              once = k.all.once;
              each = λ x. (
                λ m. now x (λ e. apart c is (subst (λ y. above y ≡ Some q) e ((k.all.each x).0 m))) ∙ (k.all.each x).0 m,
                λ e. elim (cases_eq x c) [
                  | inl same ↦ (let t = eq-eqb x c same in absurd (none-some q (rw t at e)))
                  | inr differs ↦ (k.all.each x).1 (sym (now x differs) ∙ e)
                ],
              );
            };
            chain = subst (λ y. Chain (unlinked nodes p c) no_vertex y k.children) (sym (first_of-unlinked_apart nodes p c q other))
                (Chain-same nodes (unlinked nodes p c) no_vertex (first_of nodes q) k.children size
                (λ x m. let within = Chain-within nodes no_vertex (first_of nodes q) x k.children k.chain m in
                let u = ne_eqb x (previous_of nodes c) (λ e. elim (Chain-previous nodes no_vertex (first_of nodes p) c h.children h.chain h.all.once is_child) [
                  | inl first ↦ (let none = first.1 in absurd (omega arith))
                  | inr later ↦ apart x (subst (λ y. above y ≡ Some p) (sym e) ((h.all.each (previous_of nodes c)).0 later.1)) ((k.all.each x).0 m)
                ]) in
                next_of-unlinked nodes p c x few within ∙ rw u refl)
                (λ x m. let within = Chain-within nodes no_vertex (first_of nodes q) x k.children k.chain m in
                let u = ne_eqb x (next_of nodes c) (λ e. elim (Chain-next nodes no_vertex (first_of nodes p) c h.children h.chain is_child) [
                  | inl none ↦ absurd (omega arith)
                  | inr later ↦ apart x (subst (λ y. above y ≡ Some p) (sym e) ((h.all.each (next_of nodes c)).0 later)) ((k.all.each x).0 m)
                ]) in
                previous_of-unlinked nodes p c x within ∙ rw u refl)
                k.chain);
          }

  -- a child put in front
  pub AreLinked-linked : (p c : ℕ) → p < length nodes → c < length nodes → above c ≡ None → AreLinked (linked nodes p c) (with_above above c p)
  AreLinked-linked p c in_p in_c free q = elim (cases_eq q p) [ inl same ↦ subst (IsLinked (linked nodes p c) (with_above above c p)) (sym same) here | inr other ↦ there other ]
    where
      h : IsLinked nodes above p
      h = all p

      size : length nodes ≤ length (linked nodes p c)
      size = le_of_eq (sym (length-linked nodes p c))

      -- c is no child of any vertex
      strange : (x r : ℕ) → above x ≡ Some r → x ≢ c
      strange x r a e = none-some r (sym free ∙ ap above (sym e) ∙ a)

      now : (x : ℕ) → x ≢ c → with_above above c p x ≡ above x
      now x apart = let u = ne_eqb x c apart in rw u refl

      own : with_above above c p c ≡ Some p
      own = let t = eq-eqb c c refl in rw t refl

      here : IsLinked (linked nodes p c) (with_above above c p) p
      here = record {
        children = c ∷ h.children;
        all = record {
          once = EachOnce-cons c h.children (λ k. strange c p ((h.all.each c).0 k) refl) h.all.once;
          each = λ x. (
            λ k. elim (Contains-cases c h.children x k) [
              | inl same ↦ subst (λ y. with_above above c p y ≡ Some p) same own
              | inr old ↦ (let a = (h.all.each x).0 old in now x (strange x p a) ∙ a)
            ],
            λ e. elim (cases_eq x c) [
              | inl same ↦ subst (λ y. Contains (c ∷ h.children) y) (sym same) (Contains-first c h.children)
              | inr apart ↦ Contains-rest c h.children x ((h.all.each x).1 (sym (now x apart) ∙ e))
            ],
          );
        };
        chain = (
          (let t = eq-eqb p p refl in first_of-linked nodes p c p in_p ∙ rw t refl),
          (let same = size in omega arith),
          (let t = eq-eqb c c refl in
              let u = ne_eqb c (first_of nodes p) (λ e. elim (Chain-head nodes no_vertex (first_of nodes p) h.children h.chain) [
                | inl none ↦ absurd (omega arith)
                | inr k ↦ strange (first_of nodes p) p ((h.all.each (first_of nodes p)).0 k) (sym e)
              ]) in
              previous_of-linked nodes p c c in_c ∙ rw (u, t) refl),
          (let t = eq-eqb c c refl in
              let on : next_of (linked nodes p c) c ≡ first_of nodes p = next_of-linked nodes p c c in_c ∙ rw t refl in
              subst (λ y. Chain (linked nodes p c) c y h.children) (sym on)
              (Chain-behind nodes (linked nodes p c) no_vertex c (first_of nodes p) h.children size
              (λ x k. let u = ne_eqb x c (strange x p ((h.all.each x).0 k)) in
              next_of-linked nodes p c x (Chain-within nodes no_vertex (first_of nodes p) x h.children h.chain k) ∙ rw u refl)
              (λ x k. let u = ne_eqb x c (strange x p ((h.all.each x).0 k)) in
              previous_of-linked nodes p c x (Chain-within nodes no_vertex (first_of nodes p) x h.children h.chain k) ∙ rw u refl)
              h.all.once h.chain)),
        );
      }

      there : q ≢ p → IsLinked (linked nodes p c) (with_above above c p) q
      there other =
          let k = all q in
          record {
            children = k.children;
            all = record {
              once = k.all.once;
              each = λ x. (
                λ m. (let a = (k.all.each x).0 m in now x (strange x q a) ∙ a),
                λ e. elim (cases_eq x c) [
                  | inl same ↦ (let t = eq-eqb x c same in absurd (other (sym (same_Some p q (rw t at e)))))
                  | inr differs ↦ (k.all.each x).1 (sym (now x differs) ∙ e)
                ],
              );
            };
            chain = subst (λ y. Chain (linked nodes p c) no_vertex y k.children) (sym (first_of-linked_apart nodes p c q other))
                (Chain-same nodes (linked nodes p c) no_vertex (first_of nodes q) k.children size
                (λ x m. let u = ne_eqb x c (strange x q ((k.all.each x).0 m)) in
                next_of-linked nodes p c x (Chain-within nodes no_vertex (first_of nodes q) x k.children k.chain m) ∙ rw u refl)
                (λ x m. let within = Chain-within nodes no_vertex (first_of nodes q) x k.children k.chain m in
                let a = (k.all.each x).0 m in
                let u = ne_eqb x c (strange x q a) in
                let u' = ne_eqb x (first_of nodes p) (λ e. elim (Chain-head nodes no_vertex (first_of nodes p) h.children h.chain) [
                  | inl none ↦ absurd (omega arith)
                  | inr first ↦ other (sym (same_Some p q (sym ((h.all.each (first_of nodes p)).0 first) ∙ ap above (sym e) ∙ a)))
                ]) in
                previous_of-linked nodes p c x within ∙ rw (u', u) refl)
                k.chain);
          }

  -- what is packed doesn't matter to the links
  pub AreLinked-with_packed : (i : ℕ) (p : Packed) → AreLinked (with_packed nodes i p) above
  AreLinked-with_packed i p q =
      let h = all q in
      record {
        children = h.children;
        all = h.all;
        chain = subst (λ y. Chain (with_packed nodes i p) no_vertex y h.children) (sym (read-set_same (λ n. n.links.first) nodes i q _ refl))
            (Chain-same nodes (with_packed nodes i p) no_vertex (first_of nodes q) h.children (le_of_eq (sym (length-set nodes i _)))
            (λ x k. read-set_same (λ n. n.links.next) nodes i x _ refl) (λ x k. read-set_same (λ n. n.links.previous) nodes i x _ refl) h.chain);
      }

-- a vertex without a parent has none to lose
pub without_above-none : (above : ℕ → Option ℕ) (c : ℕ) → above c ≡ None → (x : ℕ) → without_above above c x ≡ above x
without_above-none above c none x = elim (cases_eq x c) [
  | inl same ↦ (let t = eq-eqb x c same in rw t (sym none ∙ ap above (sym same)))
  | inr apart ↦ (let u = ne_eqb x c apart in rw u refl)
]

-- children by equal parents
pub AreChildren-same : (above others : ℕ → Option ℕ) → ((x : ℕ) → others x ≡ above x) → (p : ℕ) (children : List ℕ) → AreChildren above p children → AreChildren others p children
AreChildren-same above others same p children all = record {
  once = all.once;
  each = λ x. (λ k. same x ∙ (all.each x).0 k, λ e. (all.each x).1 (sym (same x) ∙ e));
}

-- links by equal parents
pub AreLinked-same : (nodes : List Node) (above others : ℕ → Option ℕ) → ((x : ℕ) → others x ≡ above x) → AreLinked nodes above → AreLinked nodes others
AreLinked-same nodes above others same all p =
    let h = all p in
    record { children = h.children; all = AreChildren-same above others same p h.children h.all; chain = h.chain }
