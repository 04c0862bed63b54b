-- What the tests of a graph say of its plain graph.
use Rattle.std.proofs.Common.{◌≡◌, ℕ, Bool, true, false, ◌&&◌, if◌then◌else◌, ◌⊎◌, inl, inr, Some, None, refl, sym, ap, ◌∙◌}
use Rattle.std.specs.Option.{is_none, option_or}
use Rattle.ris_base.specs.Effect.{missing, first_missing}
use Rattle.ris_base.specs.Graph.{has_vertex}
use Rattle.ris_base.specs.Safe.{keeps_vertices}
use Rattle.ris_base.specs.declared.graphs.PlainGraph.{PlainGraph}
use Rattle.ris_base.specs.declared.updates.Update.{Update}
use Rattle.ris_base.specs.declared.updates.Update.TheVariants.{AddE, DelE}
use Rattle.ris_base.proofs.EffectLemmas.{HasVertex-from_test, has_vertex-true}
use Rattle.ris_graph.specs.GraphView.{GraphView, IsOf, vertex_in}

-- two tests that say the same are equal
same_test : (a b : Bool) → (a ≡ true → b ≡ true) → (b ≡ true → a ≡ true) → a ≡ b
same_test true b there back = sym (there refl)
same_test false true there back = back refl
same_test false false there back = refl

-- a vertex number is present exactly where the plain graph has it
pub vertex_in-has : (g : GraphView) (p : PlainGraph) (x : ℕ) → IsOf g p → vertex_in g x ≡ has_vertex p x
vertex_in-has g p x is =
    same_test (vertex_in g x) (has_vertex p x) (λ h. has_vertex-true p x ((is.vertices x).0 h)) (λ h. (is.vertices x).1 (HasVertex-from_test p x h))

-- neither of two vertices is missing
pub none_missing : (p : PlainGraph) (u v : ℕ) → (has_vertex p u && has_vertex p v) ≡ (is_none (option_or (missing p u) (missing p v)) && true)
none_missing p u v = go (has_vertex p u) (has_vertex p v)
  where
    go : (a b : Bool) → (a && b) ≡ (is_none (option_or (if a then None else Some u) (if b then None else Some v)) && true)
    go true true = refl
    go true false = refl
    go false b = refl

-- both ends of an edge that an update adds or takes are present
pub ends_test : (g : GraphView) (p : PlainGraph) (update : Update) (u v : ℕ) → IsOf g p
    → (((w : ℕ) × (update ≡ AddE u v w)) ⊎ ((w : ℕ) × (update ≡ DelE u v w)))
    → (vertex_in g u && vertex_in g v) ≡ (is_none (first_missing p update) && keeps_vertices p update)
ends_test g p update u v is edge =
    rw (vertex_in-has g p u is, vertex_in-has g p v is)
    (none_missing p u v ∙ sym (elim edge [ inl add ↦ same (AddE u v add.0) add.1 refl | inr take ↦ same (DelE u v take.0) take.1 refl ]))
  where
    both : Bool
    both = is_none (option_or (missing p u) (missing p v)) && true

    same : (e : Update) → update ≡ e → (is_none (first_missing p e) && keeps_vertices p e) ≡ both → (is_none (first_missing p update) && keeps_vertices p update) ≡ both
    same e is h = ap (λ (a : Update). is_none (first_missing p a) && keeps_vertices p a) is ∙ h
