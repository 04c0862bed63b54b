-- That a safe update has reach 0.
use Rattle.std.proofs.Common.{◌≡◌, ℕ, true, inl, inr, List, [], ◌∷◌, Result, Ok, Err, arith, refl, sym, subst, ◌∙◌, sum}
use Rattle.std.proofs.lemmas.Bool.{true≢false}
use Rattle.ris_base.specs.Effect.{Objection, does, changed}
use Rattle.ris_base.specs.Falling.{Drops, IsFallen, AreReaches, IsReachFor, IsReach, dropped_degrees}
use Rattle.ris_base.specs.Forest.{Forest, IsForest, AreForests, up}
use Rattle.ris_base.specs.Graph.{HasVertex, IsProper}
use Rattle.ris_base.specs.Requests.{entered}
use Rattle.ris_base.specs.Safe.{is_safe, keeps_vertices}
use Rattle.ris_base.specs.declared.graphs.PlainGraph.{PlainGraph}
use Rattle.ris_base.specs.declared.analyses.Spec.{Spec}
use Rattle.ris_base.specs.declared.updates.Update.{Update}
use Rattle.ris_base.specs.declared.updates.Update.TheVariants.{AddV, DelV, AddE, DelE, SetW}
use Rattle.ris_base.proofs.EffectLemmas.{copies-HasTriple, does-accepted, HasVertex-from_test, has_vertex-true}
use Rattle.ris_base.proofs.ListLemmas.{Contains-none, Contains-one, EachOnce-nil}
use Rattle.ris_base.proofs.RequestLemmas.{entered-one, refusal_of-one, refusal_of-one_refused}
use Rattle.ris_algo.proofs.Parents.{from_parent}
use Rattle.ris_algo.proofs.SafeUpdates.{safe_parts, safe_does, has_vertex-safe}
use Rattle.ris_algo.proofs.Unique.{Moves-forests}

-- One analysis

module _ (g : PlainGraph) (spec : Spec) (F : Forest) (parts : List Update)
    (before : IsForest g spec F) (after : IsForest (entered g parts) spec F)
    (drops : (x : ℕ) → ¬ (Drops parts x)) (adds : (x : ℕ) → HasVertex (entered g parts) x → HasVertex g x) where
  -- where a forest stays right and no vertex comes or goes, none falls
  none_falls : (x : ℕ) → ¬ (IsFallen g parts F x)
  none_falls x fallen = elim fallen [
    | inl dropped ↦ drops x dropped.1
    | inr other ↦ elim other [
      | inl new ↦ new.1 (adds x new.0)
      | inr below ↦
          let lost = below.lost in
          let from = from_parent (entered g parts) spec F after.parents (up F below.steps x) lost.edge lost.by_edge in
          let some = copies-HasTriple (entered g parts) lost.edge from.has in
          elim lost.lost [
            | inl none ↦ absurd (omega arith)
            | inr dropped ↦ elim dropped [ inl source ↦ drops lost.edge.source source | inr target ↦ drops lost.edge.target target ]
          ]
    ]
  ]

  -- so the request's reach is 0
  reach_none : IsReachFor g spec parts F 0
  reach_none = record {
    fallen = [];
    improved = [];
    all_fallen = record { once = EachOnce-nil; each = λ x. (λ h. absurd (Contains-none x h), λ h. absurd (none_falls x h)) };
    all_improved = record {
      once = EachOnce-nil;
      each = λ x. (λ h. absurd (Contains-none x h), λ h. absurd ((Moves-forests g (entered g parts) spec F F before after x).0 h.1 refl));
    };
    count = refl;
  }

-- All analyses

-- reaches of which the sum is 0
record NoReach (g : PlainGraph) (parts : List Update) (specs : List Spec) (forests : List Forest) : Type 0 where
  counts : List ℕ
  each : AreReaches g parts specs forests counts
  none : sum counts ≡ 0

-- so are the reaches of all analyses
no_reach : (g : PlainGraph) (parts : List Update) → ((x : ℕ) → ¬ (Drops parts x)) → ((x : ℕ) → HasVertex (entered g parts) x → HasVertex g x)
    → (specs : List Spec) (forests : List Forest) → AreForests g specs forests → AreForests (entered g parts) specs forests → NoReach g parts specs forests
no_reach g parts drops adds [] [] before after = record { counts = []; each = tt; none = refl }
no_reach g parts drops adds [] (F ∷ forests) before after = absurd before
no_reach g parts drops adds (spec ∷ specs) [] before after = absurd before
no_reach g parts drops adds (spec ∷ specs) (F ∷ forests) before after =
    let rest = no_reach g parts drops adds specs forests before.1 after.1 in
    record {
      counts = 0 ∷ rest.counts;
      each = (reach_none g spec F parts before.0 after.0 drops adds, rest.each);
      none = rest.none;
    }

-- an update that keeps the vertices drops none
keeps_drops : (g : PlainGraph) (update : Update) → keeps_vertices g update ≡ true → (x : ℕ) → ¬ (Drops (update ∷ []) x)
keeps_drops g update keeps x h =
    true≢false (sym (subst (λ u. keeps_vertices g u ≡ true) (Contains-one update (DelV x) h) keeps))

-- so it has no degrees of dropped vertices
degrees_none : (g : PlainGraph) (update : Update) → keeps_vertices g update ≡ true → dropped_degrees g (update ∷ []) ≡ 0
degrees_none g (AddV x) keeps = refl
degrees_none g (DelV x) keeps = absurd (true≢false (sym keeps))
degrees_none g (AddE u v w) keeps = refl
degrees_none g (DelE u v w) keeps = refl
degrees_none g (SetW u v w w2) keeps = refl

-- a safe update has reach 0, whether it is accepted or refused
pub safe_reach : (g : PlainGraph) (specs : List Spec) (forests : List Forest) (update : Update) → IsProper g → AreForests g specs forests
    → is_safe g specs forests update ≡ true → IsReach g specs forests (update ∷ []) 0
safe_reach g specs forests update proper right safe = go (does g update) refl
  where
    keeps : keeps_vertices g update ≡ true
    keeps = (safe_parts g specs forests update safe).vertices

    go : (r : Result PlainGraph Objection) → does g update ≡ r → IsReach g specs forests (update ∷ []) 0
    go (Err why) e = rw (refusal_of-one_refused g update why e) refl
    go (Ok now) e =
        let is : now ≡ entered g (update ∷ []) = sym (entered-one g now update e) in
        let after = subst (λ n. AreForests n specs forests) is (safe_does g now specs forests update proper right safe e) in
        let same : changed g update ≡ entered g (update ∷ []) = (does-accepted g now update e).1 ∙ is in
        let adds : (x : ℕ) → HasVertex (entered g (update ∷ [])) x → HasVertex g x = (λ x h.
        HasVertex-from_test g x (sym (has_vertex-safe g update keeps x) ∙ has_vertex-true (changed g update) x (subst (λ (n : PlainGraph). HasVertex n x) (sym same) h))) in
        let reach = no_reach g (update ∷ []) (keeps_drops g update keeps) adds specs forests right after in
        rw (refusal_of-one g now update e)
        (record { counts = reach.counts; each = reach.each; count = (let a = reach.none in let b = degrees_none g update keeps in omega arith) })
