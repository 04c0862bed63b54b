-- The net that the notes of a judged request give, once the triples of the vertices that it drops are noted.
use Rattle.std.proofs.Common.{◌≡◌, ◌≢◌, ℕ, ◌<◌, ◌≤◌, Bool, true, false, not, ◌&&◌, ◌==◌, nat_eq, nat_le, nat_lt, List, map, Option, Some, None, unwrap_or, ◌↔◌, ◌⊎◌, inl, inr, arith, refl, sym, subst, ap, ◌∙◌}
use Rattle.std.specs.Cmp.{nat_eq_equiv}
use Rattle.std.specs.HashMap.{IsUnique, get}
use Rattle.std.specs.List.{All, Contains, sum_by}
use Rattle.std.proofs.lemmas.Bool.{and_parts, cases_Bool, cases_eq, eq-eqb, lt-ltb, ltb-true, ne_eqb}
use Rattle.std.proofs.lemmas.List.Elements.{All-contains, All-map}
use Rattle.std.proofs.lemmas.Map.Views.{exact_unsigned_eq, hash_map_get_iff}
use Rattle.ris_base.specs.Falling.{Drops, degrees_of, dropped_degrees}
use Rattle.ris_base.specs.Graph.{HasVertex, IsProperTriple, copies, has_vertex, triple}
use Rattle.ris_base.specs.Requests.{entered}
use Rattle.ris_base.specs.declared.graphs.PlainGraph.{PlainGraph}
use Rattle.ris_base.specs.declared.graphs.Triple.{Triple}
use Rattle.ris_base.specs.declared.updates.Update.{Update}
use Rattle.ris_base.proofs.EffectLemmas.{HasTriple-copies, HasVertex-from_test, has_vertex-true}
use Rattle.ris_base.proofs.ListLemmas.{All-from_Contains}
use Rattle.ris_graph.specs.GraphView.{GraphView, IsOf, copies_in, vertex_in}
use Rattle.ris_graph.specs.Nets.{IsCounted, IsNet}
use Rattle.ris_graph.specs.Ticks.{IsRise}
use Rattle.ris_graph.specs.declared.nets.NetTriple.{NetTriple}
use Rattle.ris_graph.proofs.Laws.{length-in_row, length-out_row}
use Rattle.ris_txn.specs.Judging.{IsJudged}
use Rattle.ris_txn.specs.Listing.{chosen, is_added, is_dropped, net_triple}
use Rattle.ris_txn.specs.Overlays.{Shows, copies_over, key, left, same_key, triple_note, vertex_note}
use Rattle.ris_txn.specs.Touching.{AreTouched, IsNoted, rows_length}
use Rattle.ris_txn.specs.declared.overlays.Overlay.{Overlay}
use Rattle.ris_txn.specs.declared.overlays.TripleNote.{TripleNote}
use Rattle.ris_txn.specs.declared.overlays.VertexNote.{VertexNote}
use Rattle.ris_txn.proofs.ListingLemmas.{Contains-chosen, Contains-mapped, EachOnce-chosen, chosen-Contains, pairs-net_triple, same_key-exact, same_key-laws, sum_by-drops}
use Rattle.ris_txn.proofs.OverlayLemmas.{and_false, gt_test}
use Rattle.ris_txn.proofs.TouchLemmas.{IsRise-wider}

-- Notes

-- a vertex has a note, or is as in the graph
vertex-cases : (g : GraphView) (o : Overlay) (x : ℕ)
    → ((n : VertexNote) × (get nat_eq o.vertices x ≡ Some n) × (vertex_note g o x ≡ n)) ⊎ (vertex_note g o x ≡ record { dropped = 0; present = vertex_in g x })
unfolding vertex_note
vertex-cases g o x = go (get nat_eq o.vertices x) refl
  where
    default : VertexNote
    default = record { dropped = 0; present = vertex_in g x }

    go : (v : Option VertexNote) → get nat_eq o.vertices x ≡ v
        → ((n : VertexNote) × (get nat_eq o.vertices x ≡ Some n) × (unwrap_or (get nat_eq o.vertices x) default ≡ n)) ⊎ (unwrap_or (get nat_eq o.vertices x) default ≡ default)
    go None is = inr (rw is refl)
    go (Some n) is = inl (n, is, rw is refl)

-- the note that is in the table
vertex-noted : (g : GraphView) (o : Overlay) (x : ℕ) (n : VertexNote) → get nat_eq o.vertices x ≡ Some n → vertex_note g o x ≡ n
unfolding vertex_note
vertex-noted g o x n is = rw is refl

-- a triple has a note, or is as in the graph
triple-cases : (g : GraphView) (o : Overlay) (t : Triple)
    → ((n : TripleNote) × (get same_key o.triples (key t) ≡ Some n)) ⊎ ((¬ (IsNoted o t)) × (triple_note g o t ≡ record { before = copies_in g t; copies = copies_in g t; part = 0 }))
unfolding triple_note
triple-cases g o t = go (get same_key o.triples (key t)) refl
  where
    default : TripleNote
    default = record { before = copies_in g t; copies = copies_in g t; part = 0 }

    go : (v : Option TripleNote) → get same_key o.triples (key t) ≡ v
        → ((n : TripleNote) × (get same_key o.triples (key t) ≡ Some n)) ⊎ ((¬ (IsNoted o t)) × (unwrap_or (get same_key o.triples (key t)) default ≡ default))
    go None is = inr (λ h. (let e : false ≡ true = rw is at h in cc), rw is refl)
    go (Some n) is = inl (n, is)

triple-noted : (g : GraphView) (o : Overlay) (t : Triple) (n : TripleNote) → get same_key o.triples (key t) ≡ Some n → triple_note g o t ≡ n
unfolding triple_note
triple-noted g o t n is = rw is refl

-- The lists

module _ (g : GraphView) (p : PlainGraph) (of : IsOf g p) (parts : List Update) (o : Overlay) (judged : IsJudged g parts o) where
  -- the dropped vertices
  module _ (unique : IsUnique nat_eq o.vertices) where
    dropped-is : (x : ℕ) → Contains (chosen (is_dropped g) o.vertices.entries) x ↔ (HasVertex p x × Drops parts x)
    dropped-is x = (
      λ h. (let r = Contains-chosen (is_dropped g) o.vertices.entries x h in
          let n = r.0 in
          let at = (hash_map_get_iff nat_eq_equiv exact_unsigned_eq o.vertices unique x n).1 r.1 in
          let tests = and_parts (vertex_in g x) (nat_lt 0 n.dropped) r.2 in
          let some : 0 < n.dropped = ltb-true 0 n.dropped tests.1 in
          ((of.vertices x).0 tests.0, (judged.dropped x).0 (subst (λ (m : VertexNote). 0 < m.dropped) (sym (vertex-noted g o x n at)) some))),
      λ h. (let there = (of.vertices x).1 h.0 in
          let some = (judged.dropped x).1 h.1 in
          elim (vertex-cases g o x) [
            | inl r ↦ (let n = r.0 in
                let late : 0 < n.dropped = subst (λ (m : VertexNote). 0 < m.dropped) r.2 some in
                chosen-Contains (is_dropped g) o.vertices.entries x n ((hash_map_get_iff nat_eq_equiv exact_unsigned_eq o.vertices unique x n).0 r.1) (rw (there, lt-ltb 0 n.dropped late) refl))
            | inr none ↦ absurd (let is = ap (λ (m : VertexNote). m.dropped) none in omega arith)
          ]),
    )

    -- the rows of the dropped vertices have as many neighbours as the parts that drop them pay for
    dropped-lengths : sum_by (rows_length g) (chosen (is_dropped g) o.vertices.entries) ≤ dropped_degrees p parts
    dropped-lengths =
        sum_by-drops (rows_length g) (degrees_of p) (λ x. (let ins = length-in_row g p of x in let outs = length-out_row g p of x in omega arith)) parts
        (chosen (is_dropped g) o.vertices.entries) (EachOnce-chosen (is_dropped g) o.vertices.entries unique) (λ x h. ((dropped-is x).0 h).1)

    -- so the ticks for them are no more
    pub dropped-rise : (xs : List ℕ) → xs ≡ chosen (is_dropped g) o.vertices.entries → (a b : ℕ) → IsRise a b (sum_by (rows_length g) xs) → IsRise a b (dropped_degrees p parts)
    dropped-rise xs is a b rise =
        IsRise-wider a b (sum_by (rows_length g) xs) (dropped_degrees p parts) rise
        (subst (λ (ys : List ℕ). sum_by (rows_length g) ys ≤ dropped_degrees p parts) (sym is) dropped-lengths)

    module _ (new : Overlay) (touched : AreTouched g o new (chosen (is_dropped g) o.vertices.entries)) where
      abbrev drops : List ℕ
      drops = chosen (is_dropped g) o.vertices.entries

      shows : Shows g o (entered p parts)
      shows = judged.shows p of

      present-is : (x : ℕ) → (vertex_note g new x).present ≡ has_vertex (entered p parts) x
      present-is x = ap (λ (m : VertexNote). m.present) (touched.vertices x) ∙ shows.vertices x

      -- the added vertices
      added-is : IsUnique nat_eq new.vertices
          → (x : ℕ) → Contains (chosen (is_added g) new.vertices.entries) x ↔ (HasVertex (entered p parts) x × ((¬ (HasVertex p x)) ⊎ Contains drops x))
      added-is once x = (to, from)
        where
          to : Contains (chosen (is_added g) new.vertices.entries) x → HasVertex (entered p parts) x × ((¬ (HasVertex p x)) ⊎ Contains drops x)
          to h =
              let r = Contains-chosen (is_added g) new.vertices.entries x h in
              let n = r.0 in
              let note : vertex_note g new x ≡ n = vertex-noted g new x n ((hash_map_get_iff nat_eq_equiv exact_unsigned_eq new.vertices once x n).1 r.1) in
              let tests = and_parts n.present (not (vertex_in g x && n.dropped == 0)) r.2 in
              let there : HasVertex (entered p parts) x
              = HasVertex-from_test (entered p parts) x (sym (present-is x) ∙ ap (λ (m : VertexNote). m.present) note ∙ tests.0) in (
                there,
                elim (cases_Bool (vertex_in g x)) [
                  | inr new ↦ inl (λ had. cc (new, (of.vertices x).1 had))
                  | inl was ↦ inr ((dropped-is x).1 ((of.vertices x).0 was, (judged.dropped x).0 (late n was tests.1 (sym (touched.vertices x) ∙ note))))
                ],
              )
            where
              late : (n : VertexNote) → vertex_in g x ≡ true → not (vertex_in g x && n.dropped == 0) ≡ true → vertex_note g o x ≡ n → 0 < (vertex_note g o x).dropped
              late n was other is = elim (cases_eq n.dropped 0) [
                | inl none ↦ absurd (let e : false ≡ true = rw (was, eq-eqb n.dropped 0 none) at other in cc)
                | inr some ↦ (let same = ap (λ (m : VertexNote). m.dropped) is in omega arith)
              ]

          from : HasVertex (entered p parts) x × ((¬ (HasVertex p x)) ⊎ Contains drops x) → Contains (chosen (is_added g) new.vertices.entries) x
          from h =
              let present : (vertex_note g new x).present ≡ true = present-is x ∙ has_vertex-true (entered p parts) x h.0 in
              elim (vertex-cases g new x) [
                | inl r ↦ (let n = r.0 in
                    chosen-Contains (is_added g) new.vertices.entries x n ((hash_map_get_iff nat_eq_equiv exact_unsigned_eq new.vertices once x n).0 r.1)
                    (true-both n.present (not (vertex_in g x && n.dropped == 0)) (sym (ap (λ (m : VertexNote). m.present) r.2) ∙ present)
                    (elim (cases_Bool (vertex_in g x)) [
                      | inr other ↦ rw other refl
                      | inl was ↦ (let some = late ((of.vertices x).0 was) h.1 in
                          let same = ap (λ (m : VertexNote). m.dropped) (sym (touched.vertices x) ∙ r.2) in
                          rw (was, ne_eqb n.dropped 0 (omega arith)) refl)
                    ])))
                | inr none ↦ absurd (
                    let was : vertex_in g x ≡ true = sym (ap (λ (m : VertexNote). m.present) none) ∙ present in
                    let some = late ((of.vertices x).0 was) h.1 in
                    let same = ap (λ (m : VertexNote). m.dropped) (sym (touched.vertices x) ∙ none) in
                    omega arith)
              ]
            where
              true-both : (a b : Bool) → a ≡ true → b ≡ true → (a && b) ≡ true
              true-both a b x y = rw (x, y) refl

              late : HasVertex p x → (¬ (HasVertex p x)) ⊎ Contains drops x → 0 < (vertex_note g o x).dropped
              late had (inl other) = absurd (other had)
              late had (inr drop) = (judged.dropped x).1 ((dropped-is x).0 drop).1

      -- the triples
      copies-is : (t : Triple) → copies_over g new t ≡ copies (entered p parts) t
      copies-is t = rw (touched.vertices t.source, touched.vertices t.target, touched.triples t) (shows.triples t)

      counted-is : IsUnique same_key new.triples → All (IsCounted p parts) (map (net_triple g new) new.triples.entries)
      counted-is once = All-map (IsCounted p parts) (net_triple g new) new.triples.entries
          (All-from_Contains (λ e. IsCounted p parts (net_triple g new e)) new.triples.entries (λ e at. (
          let t = triple e.0.0 e.0.1 e.0.2 in
          let note : triple_note g new t ≡ e.1 = triple-noted g new t e.1 ((hash_map_get_iff same_key-laws same_key-exact new.triples once e.0 e.1).1 at) in
          record {
            before = ap (λ (m : TripleNote). m.before) (sym note ∙ touched.triples t) ∙ judged.before t ∙ of.triples t;
            after = ap (λ (m : TripleNote). left (vertex_note g new t.source) (vertex_note g new t.target) m) (sym note) ∙ copies-is t;
          })))

      -- a triple whose copies differ was noted
      noted-is : (t : Triple) → copies p t ≢ copies (entered p parts) t → IsNoted new t
      noted-is t differ = elim (triple-cases g new t) [
        | inl r ↦ rw r.1 refl
        | inr none ↦ (let note : triple_note g o t ≡ record { before = copies_in g t; copies = copies_in g t; part = 0 } = sym (touched.triples t) ∙ none.1 in
            elim (cases_eq (vertex_note g o t.source).dropped 0) [
              | inr source ↦ (let late : 0 < (vertex_note g o t.source).dropped = omega arith in
                  let lost : copies_over g o t ≡ 0 = rw (note, gt_test (vertex_note g o t.source).dropped 0 late) refl in
                  touched.noted t (some lost) (inl ((dropped-is t.source).1 ((ends lost).source, (judged.dropped t.source).0 late))))
              | inl first ↦ elim (cases_eq (vertex_note g o t.target).dropped 0) [
                | inr target ↦ (let late : 0 < (vertex_note g o t.target).dropped = omega arith in
                    let lost : copies_over g o t ≡ 0
                    = rw (note, gt_test (vertex_note g o t.target).dropped 0 late, and_false (nat_le (vertex_note g o t.source).dropped 0)) refl in
                    touched.noted t (some lost) (inr ((dropped-is t.target).1 ((ends lost).target, (judged.dropped t.target).0 late))))
                | inl second ↦ absurd (
                    let kept : copies_over g o t ≡ copies_in g t = rw (note, first, second) refl in
                    differ (sym (of.triples t) ∙ sym kept ∙ shows.triples t))
              ]
            ])
      ]
        where
          some : copies_over g o t ≡ 0 → 0 < copies_in g t
          some lost = (let before = of.triples t in let after = shows.triples t in let apart : copies p t ≢ copies (entered p parts) t = differ in omega arith)

          ends : copies_over g o t ≡ 0 → IsProperTriple p t
          ends lost = All-contains (IsProperTriple p) p.triples t of.proper.triples (HasTriple-copies p t (let more = some lost in let before = of.triples t in omega arith))

      covered-is : IsUnique same_key new.triples → (t : Triple) → copies p t ≢ copies (entered p parts) t
          → (n : NetTriple) × Contains (map (net_triple g new) new.triples.entries) n × (n.triple ≡ t)
      covered-is once t differ = elim (triple-cases g new t) [
        | inr none ↦ absurd (none.0 (noted-is t differ))
        | inl r ↦ (
          net_triple g new (key t, r.0),
          Contains-mapped (net_triple g new) new.triples.entries (key t, r.0) ((hash_map_get_iff same_key-laws same_key-exact new.triples once (key t) r.0).0 r.1),
          refl,
        )
      ]

      -- the net
      pub net-is : IsUnique nat_eq new.vertices → IsUnique same_key new.triples
          → IsNet p parts (record { dropped = drops; added = chosen (is_added g) new.vertices.entries; triples = map (net_triple g new) new.triples.entries })
      net-is vertices triples = record {
        proper = of.proper;
        accepted = judged.accepted p of;
        dropped_once = EachOnce-chosen (is_dropped g) o.vertices.entries unique;
        dropped = dropped-is;
        added_once = EachOnce-chosen (is_added g) new.vertices.entries vertices;
        added = added-is vertices;
        once = pairs-net_triple g new new.triples.entries triples;
        counted = counted-is triples;
        covered = covered-is triples;
      }
