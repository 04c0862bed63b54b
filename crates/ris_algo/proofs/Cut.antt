-- That no walk is better than those with fewer triples than there are vertices.
use Rattle.std.proofs.Common.{◌≡◌, ℕ, ◌<◌, ◌≤◌, Bool, true, false, eqb, List, [], ◌∷◌, length, Option, arith, sym, subst, ⊎_elim}
use Rattle.std.specs.List.{AllByRecursion, IsDistinct, list_any}
use Rattle.std.proofs.lemmas.Bool.{false≢true, eqb-true, cases_Bool, or_cases, or_parts}
use Rattle.std.proofs.lemmas.List.Elements.{All-cons}
use Rattle.std.proofs.lemmas.Map.Keys.{IsDistinct-cons, IsDistinct-tail}
use Rattle.ris_base.specs.Graph.{HasVertex, IsProper}
use Rattle.ris_base.specs.Walk.{Walk, IsWalk, Leads, worth, both_ways}
use Rattle.ris_base.specs.declared.graphs.Format.{Format}
use Rattle.ris_base.specs.declared.graphs.PlainGraph.{PlainGraph}
use Rattle.ris_base.specs.declared.graphs.Triple.{Triple}
use Rattle.ris_base.specs.declared.analyses.Spec.{Spec}
use Rattle.ris_algo.specs.Laws.{along, IsMonotone, IsAnalysis}
use Rattle.ris_algo.proofs.Along.{not_better_transitive, along_not_better}
use Rattle.ris_algo.proofs.Meaning.{start_from_first}
use Rattle.ris_algo.proofs.Stops.{Visits, stops_of, Leads-from_visits, length-visits, Visits-vertices}
use Rattle.ris_algo.proofs.Vertices.{pigeonhole}

-- a walk from a to x that comes to no vertex twice, along which a value c becomes one that a given value isn't better than
pub record SimpleWalk (g : PlainGraph) (both : Bool) (step : ℕ → ℕ → ℕ) (better : ℕ → ℕ → Bool) (given c a x : ℕ) : Type 0 where
  pub triples : List Triple
  pub stops : List ℕ
  pub visits : Visits g both a triples stops x
  pub once : IsDistinct eqb (a ∷ stops)
  pub not_worse : better given (along step c triples) ≡ false

-- a list in which a test finds nothing fails it everywhere
pub none_from_list_any : (p : ℕ → Bool) (xs : List ℕ) → list_any p xs ≡ false → AllByRecursion (λ y. p y ≡ false) xs
none_from_list_any p [] h = tt
none_from_list_any p (x ∷ xs) h = let parts = or_parts (p x) (list_any p xs) h in (parts.0, none_from_list_any p xs parts.1)

-- a walk that comes to no vertex twice, begun with a value that c1 isn't better than, isn't worse
pub whole_from : {start : ℕ → Option ℕ} {step : ℕ → ℕ → ℕ} {better : ℕ → ℕ → Bool} → IsMonotone start step better
    → (g : PlainGraph) (both : Bool) (given c a x c1 b : ℕ) (w : List Triple) (stops : List ℕ)
    → Visits g both b w stops x → IsDistinct eqb (b ∷ stops) → better given (along step c1 w) ≡ false → better c1 c ≡ false
    → eqb a b ≡ true → SimpleWalk g both step better given c a x
whole_from {step = step} laws g both given c a x c1 b w stops v once nw keeps here =
    let same : b ≡ a = sym (eqb-true a b here) in
    record {
      triples = w;
      stops = stops;
      visits = subst (λ (n : ℕ). Visits g both n w stops x) same v;
      once = subst (λ (n : ℕ). IsDistinct eqb (n ∷ stops)) same once;
      not_worse = not_better_transitive laws given (along step c1 w) (along step c w) nw (along_not_better laws c1 c w keeps);
    }

-- no key twice in an empty list
pub IsDistinct-none : (e : ℕ → ℕ → Bool) → IsDistinct e []
unfolding IsDistinct
IsDistinct-none e = tt

-- the rest of a walk from a vertex a to which it comes: begun there with a value that c1 isn't better than, it isn't worse
pub rest_from : {start : ℕ → Option ℕ} {step : ℕ → ℕ → ℕ} {better : ℕ → ℕ → Bool} → IsMonotone start step better
    → (g : PlainGraph) (both : Bool) (given c a x c1 b : ℕ) (w : List Triple) (stops : List ℕ)
    → Visits g both b w stops x → IsDistinct eqb (b ∷ stops) → better given (along step c1 w) ≡ false → better c1 c ≡ false
    → list_any (eqb a) (b ∷ stops) ≡ true → SimpleWalk g both step better given c a x
rest_from laws g both given c a x c1 b [] [] v once nw keeps found =
    ⊎_elim (λ (here : eqb a b ≡ true). whole_from laws g both given c a x c1 b [] [] v once nw keeps here)
    (λ (never : false ≡ true). absurd (false≢true never)) (or_cases (eqb a b) false found)
rest_from laws g both given c a x c1 b [] (d ∷ stops) v once nw keeps found = absurd v
rest_from laws g both given c a x c1 b (t ∷ rest) [] v once nw keeps found = absurd v
rest_from {step = step} {better = better} laws g both given c a x c1 b (t ∷ rest) (d ∷ stops) v once nw keeps found =
    ⊎_elim
    (λ (here : eqb a b ≡ true). whole_from laws g both given c a x c1 b (t ∷ rest) (d ∷ stops) v once nw keeps here)
    (λ (later : list_any (eqb a) (d ∷ stops) ≡ true).
    rest_from laws g both given c a x (step c1 t.weight) d rest stops v.2 (IsDistinct-tail eqb b (d ∷ stops) once) nw
    (not_better_transitive laws (step c1 t.weight) c1 c (laws.never_better c1 t.weight) keeps) later)
    (or_cases (eqb a b) (list_any (eqb a) (d ∷ stops)) found)

-- to every walk there is one that comes to no vertex twice and isn't worse
pub simple_walk : {start : ℕ → Option ℕ} {step : ℕ → ℕ → ℕ} {better : ℕ → ℕ → Bool} → IsMonotone start step better
    → (g : PlainGraph) (both : Bool) (c a : ℕ) (w : List Triple) (stops : List ℕ) (x : ℕ)
    → Visits g both a w stops x → SimpleWalk g both step better (along step c w) c a x
simple_walk laws g both c a [] [] x v =
    record { triples = []; stops = []; visits = v; once = IsDistinct-cons eqb a [] tt (IsDistinct-none eqb); not_worse = laws.irreflexive c }
simple_walk laws g both c a [] (b ∷ stops) x v = absurd v
simple_walk laws g both c a (t ∷ rest) [] x v = absurd v
simple_walk {step = step} laws g both c a (t ∷ rest) (b ∷ stops) x v =
    let r = simple_walk laws g both (step c t.weight) b rest stops x v.2 in
    ⊎_elim
    (λ (again : list_any (eqb a) (b ∷ r.stops) ≡ true).
    rest_from laws g both (along step (step c t.weight) rest) c a x (step c t.weight) b r.triples r.stops r.visits r.once r.not_worse
    (laws.never_better c t.weight) again)
    (λ (new : list_any (eqb a) (b ∷ r.stops) ≡ false). record {
      triples = t ∷ r.triples;
      stops = b ∷ r.stops;
      visits = (v.0, v.1, r.visits);
      once = IsDistinct-cons eqb a (b ∷ r.stops) (none_from_list_any (eqb a) (b ∷ r.stops) new) r.once;
      not_worse = r.not_worse;
    })
    (cases_Bool (list_any (eqb a) (b ∷ r.stops)))

-- a walk from a vertex of a proper graph that comes to no vertex twice has fewer triples than the graph has vertices
pub once_is_short : {g : PlainGraph} → IsProper g → (both : Bool) (a : ℕ) (w : List Triple) (stops : List ℕ) (x : ℕ)
    → HasVertex g a → Visits g both a w stops x → IsDistinct eqb (a ∷ stops) → length w < length g.vertices
once_is_short {g = g} proper both a w stops x begins v once =
    let within : length (a ∷ stops) ≤ length g.vertices =
    pigeonhole (a ∷ stops) g.vertices once (All-cons (λ y. HasVertex g y) a stops begins (Visits-vertices proper both a w stops x v)) in
    let same : length stops ≡ length w = length-visits g both a w stops x v in
    omega arith

-- to every walk from a vertex of a proper graph there is one, with fewer triples than there are vertices, along which a
-- value becomes none that the value along the first is better than
pub short_lead : {start : ℕ → Option ℕ} {step : ℕ → ℕ → ℕ} {better : ℕ → ℕ → Bool} → {g : PlainGraph} → IsProper g → IsMonotone start step better
    → (both : Bool) (c a : ℕ) (w : List Triple) (x : ℕ) → HasVertex g a → Leads g both a w x
    → (s : List Triple) × Leads g both a s x × (length s < length g.vertices) × (better (along step c w) (along step c s) ≡ false)
short_lead {g = g} proper laws both c a w x begins leads =
    let way = stops_of g both a w x leads in
    let r = simple_walk laws g both c a w way.0 x way.1 in
    (r.triples, Leads-from_visits g both a r.triples r.stops x r.visits, once_is_short proper both a r.triples r.stops x begins r.visits r.once, r.not_worse)

-- to every walk there is one to the same vertex, with fewer triples than there are vertices, that is not worse
pub short_walk : {g : PlainGraph} {spec : Spec} {suits : Format → Type 0} {start : ℕ → Option ℕ} {step : ℕ → ℕ → ℕ} {better : ℕ → ℕ → Bool} {both : Bool}
    → IsProper g → IsMonotone start step better → IsAnalysis spec suits start step better both → suits g.format
    → (x : ℕ) (w : Walk) → IsWalk g spec x w
    → (s : Walk) × IsWalk g spec x s × (length s.triples < length g.vertices) × (better (worth g spec.kind w) (worth g spec.kind s) ≡ false)
short_walk {g = g} {spec = spec} {step = step} {better = better} proper laws meaning fits x w walk =
    let from = start_from_first meaning w.first walk.first in
    let short = short_lead proper laws (both_ways spec.kind) from.0 w.first w.triples x walk.begins walk.leads in
    let s : Walk = record { first = w.first; triples = short.0 } in
    let before : worth g spec.kind w ≡ along step from.0 w.triples = meaning.reaches g w from.0 fits from.1 in
    let after : worth g spec.kind s ≡ along step from.0 s.triples = meaning.reaches g s from.0 fits from.1 in (
      s,
      record { begins = walk.begins; first = walk.first; leads = short.1 },
      short.2,
      rw (before, after) short.3,
    )
