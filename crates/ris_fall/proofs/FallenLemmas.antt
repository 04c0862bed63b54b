-- That what is gathered are the fallen vertices.
use Rattle.std.proofs.Common.{◌≡◌, ◌≢◌, ℕ, zero, suc, ◌+◌, ◌<◌, true, ◌↔◌, ◌⊎◌, inl, inr, List, [], Some, arith, refl, sym, subst, ap, ◌∙◌}
use Rattle.std.specs.List.{Contains}
use Rattle.std.proofs.lemmas.List.Elements.{All-contains}
use Rattle.std.proofs.lemmas.Option.{none-some, same_Some}
use Rattle.ris_base.specs.Falling.{Drops, HangsBy, HangsLost, HangsBelowLost, IsFallen, AreFallen}
use Rattle.ris_base.specs.Forest.{Forest, IsFrom, IsForest, up, vertex_of, vertex_or}
use Rattle.ris_base.specs.Graph.{HasVertex, EachOnce, IsProperTriple, copies, triple}
use Rattle.ris_base.specs.Requests.{entered}
use Rattle.ris_base.specs.Safe.{is_along}
use Rattle.ris_base.specs.Value.{IsValue}
use Rattle.ris_base.specs.declared.analyses.Spec.{Spec}
use Rattle.ris_base.specs.declared.analyses.Value.{Value}
use Rattle.ris_base.specs.declared.analyses.Value.TheVariants.{Absent, Unreached, Num}
use Rattle.ris_base.specs.declared.forests.Parent.{Parent}
use Rattle.ris_base.specs.declared.forests.Parent.TheVariants as parent
use Rattle.ris_base.specs.declared.graphs.PlainGraph.{PlainGraph}
use Rattle.ris_base.specs.declared.graphs.Triple.{Triple}
use Rattle.ris_base.specs.declared.updates.Update.{Update}
use Rattle.ris_base.proofs.EffectLemmas.{copies-HasTriple}
use Rattle.ris_base.proofs.ListLemmas.{Contains-none}
use Rattle.ris_algo.proofs.Parents.{up-none, up-suc, up-add, HangsBy-from_test, is_along-true, from_parent}
use Rattle.ris_forest.proofs.WalkLemmas.{up-above}
use Rattle.ris_graph.specs.Nets.{IsCounted, IsNet}
use Rattle.ris_graph.specs.declared.nets.Net.{Net}
use Rattle.ris_fall.specs.Gathering.{Gathers, HangsAlong, HangsBelowOne, HangsBelowGone, IsNew}

-- the last step up
up-last : (F : Forest) (k y : ℕ) → up F (suc k) y ≡ vertex_or (up F k y) (F.parent (up F k y))
up-last F k y =
    let more : suc k ≡ k + 1 = omega arith in
    ap (λ n. up F n y) more ∙ up-add F k 1 y ∙ up-suc F 0 (up F k y) ∙ up-none F (vertex_or (up F k y) (F.parent (up F k y)))

-- a vertex below x is x, or on its way up there is a child of x
child_on_way : (F : Forest) (x k y : ℕ) → up F k y ≡ x → (y ≡ x) ⊎ ((j : ℕ) × (vertex_of (F.parent (up F j y)) ≡ Some x))
child_on_way F x zero y e = inl (sym (up-none F y) ∙ e)
child_on_way F x (suc k) y e = go (F.parent (up F k y)) refl (child_on_way F x k y)
  where
    go : (p : Parent) → F.parent (up F k y) ≡ p → (up F k y ≡ x → (y ≡ x) ⊎ ((j : ℕ) × (vertex_of (F.parent (up F j y)) ≡ Some x)))
        → (y ≡ x) ⊎ ((j : ℕ) × (vertex_of (F.parent (up F j y)) ≡ Some x))
    go parent.None is more = more (sym (up-last F k y ∙ ap (vertex_or (up F k y)) is) ∙ e)
    go (parent.From vertex source target weight) is more =
        inr (k, ap vertex_of is ∙ ap Some (sym (up-last F k y ∙ ap (vertex_or (up F k y)) is) ∙ e))

module _ (p : PlainGraph) (parts : List Update) (spec : Spec) (F : Forest) (net : Net) (is : IsNet p parts net) (right : IsForest p spec F) where
  -- Each vertex that is gathered is fallen

  -- a child of a dropped vertex hangs by a lost edge
  lost_child : (z x : ℕ) → vertex_of (F.parent z) ≡ Some x → Drops parts x → HangsLost p parts F z
  lost_child z x above drop = go (F.parent z) refl above
    where
      go : (q : Parent) → F.parent z ≡ q → vertex_of q ≡ Some x → HangsLost p parts F z
      go parent.None own e = absurd (none-some x e)
      go (parent.From vertex source target weight) by e =
          let t : Triple = triple source target weight in
          let hangs : HangsBy F z t = record { vertex = vertex; is = by } in
          let from : IsFrom p spec F.value z vertex t = from_parent p spec F right.parents z t hangs in
          let same : vertex ≡ x = same_Some vertex x e in
          record {
            edge = t;
            by_edge = hangs;
            lost = elim from.joins [
              | inl on ↦ inr (inl (subst (Drops parts) (sym (on.0 ∙ same)) drop))
              | inr back ↦ inr (inr (subst (Drops parts) (sym (back.1 ∙ same)) drop))
            ];
          }

  fallen_dropped : (y : ℕ) → HangsBelowOne F net.dropped y → IsFallen p parts F y
  fallen_dropped y h =
      let d = (is.dropped h.vertex).0 h.listed in
      elim (child_on_way F h.vertex h.below.0 y h.below.1) [
        | inl same ↦ inl (subst (λ x. HasVertex p x × Drops parts x) (sym same) d)
        | inr child ↦ inr (inr (record { steps = child.0; lost = lost_child (up F child.0 y) h.vertex child.1 d.1 }))
      ]

  fallen_gone : (y : ℕ) → HangsBelowGone F net.triples y → IsFallen p parts F y
  fallen_gone y h =
      let counted = All-contains (IsCounted p parts) net.triples h.net is.counted h.listed in
      let none : copies (entered p parts) h.net.triple ≡ 0 = sym counted.after ∙ h.by.gone in
      elim h.by.hangs [ inl source ↦ one none h.net.triple.source source | inr target ↦ one none h.net.triple.target target ]
    where
      one : copies (entered p parts) h.net.triple ≡ 0 → (x : ℕ) → HangsAlong F h.net.triple x y → IsFallen p parts F y
      one none x a = inr (inr (record {
        steps = a.below.0;
        lost = subst (HangsLost p parts F) (sym a.below.1) (record { edge = h.net.triple; by_edge = HangsBy-from_test F x h.net.triple a.along; lost = inl none });
      }))

  fallen_new : (y : ℕ) → IsNew F net.added y → IsFallen p parts F y
  fallen_new y h = inr (inl (((is.added y).0 h.listed).0, subst (IsValue p spec y) h.absent (right.values y)))

  -- Each fallen vertex is gathered

  dropped_found : (y : ℕ) → HasVertex p y × Drops parts y → HangsBelowOne F net.dropped y
  dropped_found y h = record { vertex = y; listed = (is.dropped y).1 h; below = (0, up-none F y) }

  new_found : (y : ℕ) → HasVertex (entered p parts) y → ¬ (HasVertex p y) → IsNew F net.added y
  new_found y has missing = record { listed = (is.added y).1 (has, inl missing); absent = absent_value (F.value y) (right.values y) }
    where
      absent_value : (v : Value) → IsValue p spec y v → v ≡ Absent
      absent_value Absent own = refl
      absent_value Unreached own = absurd (missing own.0)
      absent_value (Num c) own = absurd (missing own.0)

  lost_found : (y : ℕ) → HangsBelowLost p parts F y → HangsBelowOne F net.dropped y ⊎ HangsBelowGone F net.triples y
  lost_found y h =
      elim l.lost [
        | inl none ↦ inr (gone none)
        | inr names ↦ inl (elim names [
          | inl drop ↦ end l.edge.source ends.source drop (elim from.joins [ inl on ↦ inl on.0 | inr back ↦ inr back.2 ])
          | inr drop ↦ end l.edge.target ends.target drop (elim from.joins [ inl on ↦ inr on.1 | inr back ↦ inl back.1 ])
        ])
      ]
    where
      z : ℕ
      z = up F h.steps y

      l : HangsLost p parts F z
      l = h.lost

      from : IsFrom p spec F.value z l.by_edge.vertex l.edge
      from = from_parent p spec F right.parents z l.edge l.by_edge

      ends : IsProperTriple p l.edge
      ends = All-contains (IsProperTriple p) p.triples l.edge is.proper.triples from.has

      end : (x : ℕ) → HasVertex p x → Drops parts x → (x ≡ l.by_edge.vertex) ⊎ (x ≡ z) → HangsBelowOne F net.dropped y
      end x has drop place = record {
        vertex = x;
        listed = (is.dropped x).1 (has, drop);
        below = elim place [
          | inl above ↦ (h.steps + 1, up-add F h.steps 1 y ∙ up-above F 0 z l.by_edge.vertex (ap vertex_of l.by_edge.is) ∙ up-none F l.by_edge.vertex ∙ sym above)
          | inr here ↦ (h.steps, sym here)
        ];
      }

      gone : copies (entered p parts) l.edge ≡ 0 → HangsBelowGone F net.triples y
      gone none =
          let some : 0 < copies p l.edge = copies-HasTriple p l.edge from.has in
          let differ : copies p l.edge ≢ copies (entered p parts) l.edge = λ e. absurd (omega arith) in
          let n = is.covered l.edge differ in
          let counted = All-contains (IsCounted p parts) net.triples n.0 is.counted n.1 in
          let along : is_along n.0.triple (F.parent z) ≡ true = subst (λ (t : Triple). is_along t (F.parent z) ≡ true) (sym n.2) (is_along-true F z l.edge l.by_edge) in
          record {
            net = n.0;
            listed = n.1;
            by = record {
              gone = counted.after ∙ ap (copies (entered p parts)) n.2 ∙ none;
              hangs = elim from.joins [
                | inl on ↦ inr (hang n.0.triple n.0.triple.target along (sym on.1 ∙ ap (λ (t : Triple). t.target) (sym n.2)))
                | inr back ↦ inl (hang n.0.triple n.0.triple.source along (sym back.2 ∙ ap (λ (t : Triple). t.source) (sym n.2)))
              ];
            };
          }
        where
          hang : (t : Triple) (x : ℕ) → is_along t (F.parent z) ≡ true → z ≡ x → HangsAlong F t x y
          hang t x along same = record { along = subst (λ w. is_along t (F.parent w) ≡ true) same along; below = (h.steps, same) }

  -- what is gathered of the dropped vertices, of the triples that are gone, and of the added vertices
  pub AreFallen-gathered : (b c d : List ℕ) → Gathers F (HangsBelowOne F net.dropped) [] b → Gathers F (HangsBelowGone F net.triples) b c
      → ((y : ℕ) → Contains d y ↔ (Contains c y ⊎ IsNew F net.added y)) → EachOnce d → AreFallen p parts F d
  AreFallen-gathered b c d dropped gone new once = record {
    once = once;
    each = λ y. (
      λ h. elim ((new y).0 h) [
        | inl in_c ↦ elim ((gone.each y).0 in_c) [
          | inl in_b ↦ elim ((dropped.each y).0 in_b) [ inl none ↦ absurd (Contains-none y none) | inr below ↦ fallen_dropped y below ]
          | inr below ↦ fallen_gone y below
        ]
        | inr n ↦ fallen_new y n
      ],
      λ h. elim h [
        | inl drop ↦ found_dropped y (dropped_found y drop)
        | inr rest ↦ elim rest [
          | inl come ↦ (new y).1 (inr (new_found y come.0 come.1))
          | inr below ↦ elim (lost_found y below) [ inl drop ↦ found_dropped y drop | inr lost ↦ (new y).1 (inl ((gone.each y).1 (inr lost))) ]
        ]
      ],
    );
  }
    where
      found_dropped : (y : ℕ) → HangsBelowOne F net.dropped y → Contains d y
      found_dropped y h = (new y).1 (inl ((gone.each y).1 (inl ((dropped.each y).1 (inr h)))))
