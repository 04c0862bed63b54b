-- That the rounds end in the values of the definition.
use Rattle.std.proofs.Common.{◌≡◌, ℕ, ◌+◌, ◌*◌, ◌^◌, ◌<◌, ◌≤◌, ◌⊎◌, zero, suc, Bool, true, false, List, [], ◌∷◌, ◌++◌, length, get_or, arith, refl, sym, ◌∙◌, ap, inl, inr, subst, Option, Some, None, Vec, Global}
use Rattle.std.specs.Prelude.{⊤}
use Rattle.std.specs.List.{Contains, All, list_any}
use Rattle.std.proofs.lemmas.Bool.{cases_lt}
use Rattle.std.proofs.lemmas.List.{length_push}
use Rattle.std.proofs.lemmas.List.Elements.{All-contains, All-from_get_or, Contains-get_or}
use Rattle.std.proofs.lemmas.Option.{get_or_from_slice_get}
use Rattle.ris_base.specs.Forest.{Joins}
use Rattle.ris_base.specs.Graph.{HasVertex, HasTriple, IsProper, IsProperTriple}
use Rattle.ris_base.specs.Walk.{Walk, Leads, IsWalk, worth, both_ways}
use Rattle.ris_base.specs.Value.{IsValue, number_bound, AreValues}
use Rattle.ris_base.specs.declared.graphs.Format.{Format}
use Rattle.ris_base.specs.declared.graphs.PlainGraph.{PlainGraph}
use Rattle.ris_base.specs.declared.graphs.Triple.{Triple}
use Rattle.ris_base.specs.declared.analyses.Spec.{Spec}
use Rattle.ris_base.specs.declared.analyses.Kind.TheVariants.{Wcc}
use Rattle.ris_base.specs.declared.analyses.Value.{Value}
use Rattle.ris_base.specs.declared.analyses.Value.TheVariants.{Absent, Unreached, Num}
use Rattle.ris_algo.specs.Laws.{IsMonotone, IsAnalysis}
use Rattle.ris_algo.proofs.Along.{not_better_transitive}
use Rattle.ris_algo.proofs.Cut.{short_walk}
use Rattle.ris_algo.proofs.Meaning.{start_from_first, first_from_start, not_IsBetter, worth-push, worth-none}
use Rattle.ris_algo.proofs.Small.{vertex_below, greatest_small}
use Rattle.ris_algo.proofs.Vertices.{vertices_within}
use Rattle.ris_algo.proofs.Walks.{IsCut, Leads-push, Leads-cut, Leads-to_vertex, Joins-vertices}
use Rattle.std.proofs.Common.{eqb}
use Rattle.std.proofs.lemmas.Bool.{eqb-true}
use Rattle.std.proofs.lemmas.Cmp.{nat_eq_equiv}
use Rattle.std.proofs.lemmas.Map.Views.{Contains-from_any, list_any-from_Contains}
use Rattle.ris_four.specs.declared.neighbours.Neighbour.{Neighbour}
use Rattle.ris_four.specs.Neighbours.{neighbours_at, AreNeighbours, IsListed, IsWithin}
use Rattle.ris_four.specs.Rounds.{value_at, value_from, AreFirst, IsBelow, next_value, next_values, values_after}
use Rattle.ris_four.proofs.NeighbourLemmas.{neighbours_to-sound, neighbours_to-complete}
use Rattle.ris_four.proofs.RoundLemmas.{IsBest, best_value-IsBest, value_at-next_values, value_at-past, length-next_values}
use Rattle.ris_four.proofs.TableLemmas.{Contains-number_bound}

-- what holds of a value that a round gives x: it is absent exactly where x is no vertex, and a number is the worth of a walk
abbrev pub IsSound : PlainGraph → Spec → ℕ → Value → Type 0
IsSound g spec x Absent = ¬ (HasVertex g x)
IsSound g spec x Unreached = HasVertex g x × ⊤
IsSound g spec x (Num c) = HasVertex g x × ((w : Walk) × IsWalk g spec x w × (worth g spec.kind w ≡ c))

-- a table after k rounds: each value is sound, no walk of at most k triples is better, and numbers are small
pub record IsRound (g : PlainGraph) (spec : Spec) (better : ℕ → ℕ → Bool) (k : ℕ) (values : List Value) : Type 0 where
  pub all : length values ≡ number_bound g.vertices
  pub sound : (x : ℕ) → IsSound g spec x (value_at values x)
  pub covers : (x : ℕ) (w : Walk) → IsWalk g spec x w → length w.triples ≤ k → (r : ℕ) × (value_at values x ≡ Num r) × (better (worth g spec.kind w) r ≡ false)
  pub small : (x c : ℕ) → value_at values x ≡ Num c → c < 137438953472 + k * 68719476736

no_items : {X : Type 0} (xs : List X) → length xs ≤ 0 → xs ≡ []
no_items [] le = refl
no_items (x ∷ xs) le = absurd (omega arith)

module _ (g : PlainGraph) (spec : Spec) (suits : Format → Type 0) (start : ℕ → Option ℕ) (step : ℕ → ℕ → ℕ) (better : ℕ → ℕ → Bool) (both : Bool)
    (proper : IsProper g) (laws : IsMonotone start step better) (meaning : IsAnalysis spec suits start step better both) (fits : suits g.format) where
  -- a number is a vertex or it isn't
  vertex_cases : (x : ℕ) → HasVertex g x ⊎ ¬ (HasVertex g x)
  vertex_cases x = go (list_any (eqb x) g.vertices) refl
    where
      go : (b : Bool) → list_any (eqb x) g.vertices ≡ b → HasVertex g x ⊎ ¬ (HasVertex g x)
      go true e = inl (Contains-from_any eqb-true x g.vertices e)
      go false e = inr (λ h. let some = list_any-from_Contains nat_eq_equiv x g.vertices h in absurd (cc))

  from_value : (o : Option ℕ) (c : ℕ) → value_from o ≡ Num c → o ≡ Some c
  from_value None c e = absurd (cc)
  from_value (Some b) c e = cc

  first_sound : (x : ℕ) (o : Option ℕ) → HasVertex g x → start x ≡ o → IsSound g spec x (value_from o)
  first_sound x None has e = (has, tt)
  first_sound x (Some c) has e = (
    has,
    (
      record { first = x; triples = [] },
      record { begins = has; first = first_from_start meaning x c e; leads = refl },
      worth-none meaning g fits x c e,
    ),
  )

  -- a table before any round
  pub IsRound-first : (values : List Value) → length values ≡ number_bound g.vertices → AreFirst start g.vertices values → IsRound g spec better 0 values
  IsRound-first values all first = record {
    all = all;
    sound = λ x. elim (vertex_cases x) [
      | inl has ↦ subst (IsSound g spec x) (sym (first.placed x has)) (first_sound x (start x) has refl)
      | inr not ↦ subst (IsSound g spec x) (sym (first.others x not)) not
    ];
    covers = λ x w walk le.
        let none = no_items w.triples le in
        let here : w.first ≡ x = subst (λ ts. Leads g (both_ways spec.kind) w.first ts x) none walk.leads in
        let begins = start_from_first meaning w.first walk.first in
        let c = begins.0 in
        let worth-is : worth g spec.kind w ≡ c =
        ap (λ ts. worth g spec.kind (record { first = w.first; triples = ts })) none
        ∙ worth-none meaning g fits w.first c begins.1 in (
          c,
          ap (value_at values) (sym here) ∙ first.placed w.first walk.begins ∙ ap value_from begins.1,
          subst (λ n. better n c ≡ false) (sym worth-is) (laws.irreflexive c),
        );
    small = λ x c e. elim (vertex_cases x) [
      | inl has ↦
          let is = from_value (start x) c (sym (first.placed x has) ∙ e) in
          let low = laws.start_small x c (vertex_below proper x has) is in
          omega arith
      | inr not ↦ absurd (let e' = first.others x not in cc)
    ];
  }

  module _ (lists : List (Vec Neighbour Global)) (are : AreNeighbours both g.triples (number_bound g.vertices) lists) where
    -- a neighbour that is listed stands for a triple
    listed : (x : ℕ) (n : Neighbour) → x < number_bound g.vertices → Contains (neighbours_at lists x) n
        → (t : Triple) × HasTriple g t × (t.weight ≡ n.weight) × Joins both t n.other x
    listed x n lt h = neighbours_to-sound both x g.triples n (subst (λ ns. Contains ns n) (are.each x lt) h)

    best_at : (values : List Value) (x : ℕ) → IsBest start step better laws values (value_at values x) (neighbours_at lists x) (next_value step better lists values x)
    best_at values x = best_value-IsBest start step better laws values (value_at values x) (neighbours_at lists x)

    -- a number that a step from a neighbour makes is the worth of a walk
    step_sound : (k : ℕ) (values : List Value) (x c : ℕ) (n : Neighbour) → IsRound g spec better k values → x < number_bound g.vertices
        → Contains (neighbours_at lists x) n → value_at values n.other ≡ Num c → IsSound g spec x (Num (step c n.weight))
    step_sound k values x c n round lt h at =
        let found = listed x n lt h in
        let t = found.0 in
        let before = subst (IsSound g spec n.other) at (round.sound n.other) in
        let w = before.1.0 in
        let walk = before.1.1 in
        let arc : Joins (both_ways spec.kind) t n.other x = subst (λ b. Joins b t n.other x) meaning.ways found.3 in (
          (Joins-vertices proper both t n.other x found.1 found.3).1,
          (
            record { first = w.first; triples = w.triples ++ t ∷ [] },
            record {
              begins = walk.begins;
              first = walk.first;
              leads = Leads-push g (both_ways spec.kind) w.first n.other x w.triples t walk.leads found.1 arc;
            },
            worth-push meaning g fits w.first w.triples t walk.first
                ∙ ap (λ v. step v t.weight) before.1.2
                ∙ ap (step c) found.2,
          ),
        )

    next_sound : (k : ℕ) (values : List Value) (x : ℕ) → IsRound g spec better k values → IsSound g spec x (value_at (next_values step better lists values) x)
    next_sound k values x round =
        elim (cases_lt x (length values)) [
          | inl lt ↦ subst (IsSound g spec x) (sym (value_at-next_values step better lists values x lt))
              (elim (best_at values x).from [
                | inl same ↦ subst (IsSound g spec x) (sym same) (round.sound x)
                | inr s ↦ subst (IsSound g spec x) (sym s.4) (step_sound k values x s.1 s.0 round (omega (arith, round.all)) s.2 s.3)
              ])
          | inr past ↦
              let old = subst (IsSound g spec x) (value_at-past values x past) (round.sound x) in
              let new = value_at-past (next_values step better lists values) x (omega (arith, length-next_values step better lists values)) in
              subst (IsSound g spec x) (sym new) old
        ]

    -- a walk that a table covers isn't better than what the round makes of its end
    covers_kept : (k : ℕ) (values : List Value) (x : ℕ) (w : Walk) → IsRound g spec better k values → x < length values
        → (r : ℕ) × (value_at values x ≡ Num r) × (better (worth g spec.kind w) r ≡ false)
        → (r : ℕ) × (value_at (next_values step better lists values) x ≡ Num r) × (better (worth g spec.kind w) r ≡ false)
    covers_kept k values x w round lt old =
        let kept = (best_at values x).kept old.0 old.1 in
        (kept.0, value_at-next_values step better lists values x lt ∙ kept.1, not_better_transitive laws (worth g spec.kind w) old.0 kept.0 old.2 kept.2)

    -- a walk whose part before the last triple a table covers isn't better than what the round makes of its end
    covers_step : (k : ℕ) (values : List Value) (x : ℕ) (w : Walk) → IsRound g spec better k values → x < length values → IsWalk g spec x w
        → length w.triples ≤ k + 1 → IsCut g (both_ways spec.kind) w.first x w.triples
        → (r : ℕ) × (value_at (next_values step better lists values) x ≡ Num r) × (better (worth g spec.kind w) r ≡ false)
    covers_step k values x w round lt walk le cut =
        let part : Walk = record { first = w.first; triples = cut.before } in
        let t = cut.last in
        let longer : length w.triples ≡ length cut.before + 1 = ap length cut.is ∙ length_push cut.before t in
        let old = round.covers cut.from part (record { begins = walk.begins; first = walk.first; leads = cut.leads }) (omega arith) in
        let arc : Joins both t cut.from x = subst (λ b. Joins b t cut.from x) (sym meaning.ways) cut.joins in
        let n : Neighbour = record { other = cut.from; weight = t.weight } in
        let in' : Contains (neighbours_at lists x) n =
        subst (λ ns. Contains ns n) (sym (are.each x (omega (arith, round.all)))) (neighbours_to-complete both x cut.from g.triples t cut.has arc) in
        let offered = (best_at values x).offers n old.0 in' old.1 in
        let worth-is : worth g spec.kind w ≡ step (worth g spec.kind part) t.weight =
        ap (λ ts. worth g spec.kind (record { first = w.first; triples = ts })) cut.is
        ∙ worth-push meaning g fits w.first cut.before t walk.first in
        let stepped : better (worth g spec.kind w) (step old.0 t.weight) ≡ false =
        subst (λ v. better v (step old.0 t.weight) ≡ false) (sym worth-is) (laws.monotone (worth g spec.kind part) old.0 t.weight old.2) in (
          offered.0,
          value_at-next_values step better lists values x lt ∙ offered.1,
          not_better_transitive laws (worth g spec.kind w) (step old.0 t.weight) offered.0 stepped offered.2,
        )

    next_covers : (k : ℕ) (values : List Value) (x : ℕ) (w : Walk) → IsRound g spec better k values → IsWalk g spec x w → length w.triples ≤ k + 1
        → (r : ℕ) × (value_at (next_values step better lists values) x ≡ Num r) × (better (worth g spec.kind w) r ≡ false)
    next_covers k values x w round walk le =
        let has = Leads-to_vertex proper (both_ways spec.kind) w.first w.triples x walk.begins walk.leads in
        let low = Contains-number_bound g.vertices x has in
        let lt : x < length values = omega (arith, round.all) in
        elim (Leads-cut g (both_ways spec.kind) w.first x w.triples walk.leads) [
          | inl none ↦
              let short : length w.triples ≡ 0 = ap length none.0 in
              covers_kept k values x w round lt (round.covers x w walk (omega arith))
          | inr cut ↦ covers_step k values x w round lt walk le cut
        ]

    next_small : (k : ℕ) (values : List Value) (x c : ℕ) → IsRound g spec better k values → value_at (next_values step better lists values) x ≡ Num c
        → c < 137438953472 + (k + 1) * 68719476736
    next_small k values x c round e =
        elim (cases_lt x (length values)) [
          | inl lt ↦
              let best = best_at values x in
              let is = sym (value_at-next_values step better lists values x lt) ∙ e in
              elim best.from [
                | inl same ↦ let low = round.small x c (sym same ∙ is) in omega arith
                | inr s ↦
                    let n = s.0 in
                    let found = listed x n (omega (arith, round.all)) s.2 in
                    let weight = (All-contains (IsProperTriple g) g.triples found.0 proper.triples found.1).weight in
                    let equal = found.2 in
                    let low = round.small n.other s.1 s.3 in
                    let grown = laws.step_small s.1 n.weight in
                    let light = greatest_small g.format in
                    let same : step s.1 n.weight ≡ c = (let both' = sym s.4 ∙ is in cc) in
                    omega arith
              ]
          | inr past ↦
              let new = value_at-past (next_values step better lists values) x (omega (arith, length-next_values step better lists values)) in
              absurd (cc)
        ]

    pub IsRound-next : (k : ℕ) (values : List Value) → IsRound g spec better k values → IsRound g spec better (suc k) (next_values step better lists values)
    IsRound-next k values round = record {
      all = length-next_values step better lists values ∙ round.all;
      sound = λ x. next_sound k values x round;
      covers = λ x w walk le. next_covers k values x w round walk (omega arith);
      small = λ x c e. let low = next_small k values x c round e in omega arith;
    }

    pub IsRound-after : (k : ℕ) (values : List Value) → IsRound g spec better 0 values → IsRound g spec better k (values_after step better lists k values)
    IsRound-after zero values round = round
    IsRound-after (suc k) values round = IsRound-next k (values_after step better lists k values) (IsRound-after k values round)

  value_of_round : (k : ℕ) (values : List Value) (x : ℕ) (value : Value) → IsRound g spec better k values → length g.vertices ≤ k + 1
      → value_at values x ≡ value → IsSound g spec x value → IsValue g spec x value
  value_of_round k values x Absent round le at sound = sound
  value_of_round k values x Unreached round le at sound = (
    sound.0,
    λ w walk.
        let short = short_walk proper laws meaning fits x w walk in
        let covered = round.covers x short.0 short.1 (let s = short.2 in omega arith) in
        let reached = covered.1 in
        absurd (cc),
  )
  value_of_round k values x (Num c) round le at sound = (
    sound.0,
    record {
      some = sound.1;
      best = λ w walk.
          let short = short_walk proper laws meaning fits x w walk in
          let covered = round.covers x short.0 short.1 (let s = short.2 in omega arith) in
          let same : covered.0 ≡ c = (let e = sym covered.1 ∙ at in cc) in
          let through = not_better_transitive laws (worth g spec.kind w) (worth g spec.kind short.0) covered.0 short.3 covered.2 in
          not_IsBetter meaning (worth g spec.kind w) c (subst (λ n. better (worth g spec.kind w) n ≡ false) same through);
    },
  )

  -- a table after at least as many rounds as vertices, less one, holds the values of the definition
  pub AreValues-round : (k : ℕ) (values : List Value) → IsRound g spec better k values → length g.vertices ≤ k + 1 → AreValues g spec values
  AreValues-round k values round le = record {
    all = round.all;
    each = λ x value e.
        let at = get_or_from_slice_get values x value Absent e in
        value_of_round k values x value round le at (subst (IsSound g spec x) at (round.sound x));
  }

  -- and its numbers are within what a step may take
  pub All-IsBelow-round : (k : ℕ) (values : List Value) → IsRound g spec better k values → k < 4194304 → All (IsBelow (2 ^ 59)) values
  All-IsBelow-round k values round lt =
      All-from_get_or (IsBelow (2 ^ 59)) values Absent (λ x low. go (value_at values x) x refl)
    where
      go : (value : Value) (x : ℕ) → value_at values x ≡ value → IsBelow (2 ^ 59) value
      go Absent x e = tt
      go Unreached x e = tt
      go (Num c) x e = let low = round.small x c e in omega arith

-- what the lists of a proper graph hold is within the table, and its weights are small
pub AreListed : (g : PlainGraph) (both : Bool) (lists : List (Vec Neighbour Global)) → IsProper g → AreNeighbours both g.triples (number_bound g.vertices) lists
    → (x : ℕ) → x < number_bound g.vertices → All (IsListed (number_bound g.vertices)) (neighbours_at lists x)
AreListed g both lists proper are x lt k d low =
    let ns = neighbours_at lists x in
    let n = get_or ns k d in
    let found = neighbours_to-sound both x g.triples n (subst (λ l. Contains l n) (are.each x lt) (Contains-get_or ns k d low)) in
    let ends = Joins-vertices proper both found.0 n.other x found.1 found.3 in
    let weight = (All-contains (IsProperTriple g) g.triples found.0 proper.triples found.1).weight in
    let equal = found.2 in
    let light = greatest_small g.format in
    record { other = Contains-number_bound g.vertices n.other ends.0; weight = omega arith }

-- the ends of a proper graph's triples are within the table
pub All-IsWithin : (g : PlainGraph) → IsProper g → All (IsWithin (number_bound g.vertices)) g.triples
All-IsWithin g proper k d low =
    let t = proper.triples k d low in
    record { source = Contains-number_bound g.vertices _ t.source; target = Contains-number_bound g.vertices _ t.target }

-- what the rounds begin with: a table before any round, and the neighbours of each of its vertex numbers
pub record IsSetUp (g : PlainGraph) (start : ℕ → Option ℕ) (both : Bool) (table : List Value) (lists : List (Vec Neighbour Global)) : Type 0 where
  pub all : length table ≡ number_bound g.vertices
  pub first : AreFirst start g.vertices table
  pub listed : AreNeighbours both g.triples (number_bound g.vertices) lists

-- the same from what the functions of the program ensure, each of what it was passed
pub set_up : (g : PlainGraph) (start : ℕ → Option ℕ) (both : Bool) (table : List Value) (lists : List (Vec Neighbour Global))
    (vertices : List ℕ) (triples : List Triple) (ways : Bool) (count : ℕ) (made : List (Vec Neighbour Global))
    → vertices ≡ g.vertices → triples ≡ g.triples → ways ≡ both → count ≡ length table → lists ≡ made
    → length table ≡ number_bound vertices → AreFirst start vertices table → AreNeighbours ways triples count made
    → IsSetUp g start both table lists
set_up g start both table lists vertices triples ways count made vs ts bs cs ls all first listed =
    let bound = all ∙ ap number_bound vs in
    let by_both = subst (λ x. AreNeighbours x triples count made) bs listed in
    let by_triples = subst (λ x. AreNeighbours both x count made) ts by_both in
    let by_count = subst (λ x. AreNeighbours both g.triples x made) (cs ∙ bound) by_triples in
    record {
      all = bound;
      first = subst (λ x. AreFirst start x table) vs first;
      listed = subst (AreNeighbours both g.triples (number_bound g.vertices)) (sym ls) by_count;
    }

module _ (g : PlainGraph) (spec : Spec) (suits : Format → Type 0) (start : ℕ → Option ℕ) (step : ℕ → ℕ → ℕ) (better : ℕ → ℕ → Bool) (both : Bool)
    (first : List Value) (lists : List (Vec Neighbour Global))
    (proper : IsProper g) (laws : IsMonotone start step better) (meaning : IsAnalysis spec suits start step better both) (fits : suits g.format)
    (set : IsSetUp g start both first lists) where
  rounds_from : (k : ℕ) → IsRound g spec better k (values_after step better lists k first)
  rounds_from k = IsRound-after g spec suits start step better both proper laws meaning fits lists set.listed k first
      (IsRound-first g spec suits start step better both proper laws meaning fits first set.all set.first)

  -- the numbers of each round are within what a step may take
  pub rounds_small : (k : ℕ) → k < length g.vertices → All (IsBelow (2 ^ 59)) (values_after step better lists k first)
  rounds_small k lt =
      let most = vertices_within proper in
      All-IsBelow-round g spec suits start step better both proper laws meaning fits k (values_after step better lists k first) (rounds_from k) (omega arith)

  -- and with enough rounds they hold the values of the definition
  pub rounds_are : (k : ℕ) → length g.vertices ≤ k + 1 → AreValues g spec (values_after step better lists k first)
  rounds_are k le = AreValues-round g spec suits start step better both proper laws meaning fits k (values_after step better lists k first) (rounds_from k) le

-- components have no root
walk_at_root : (g : PlainGraph) (a b x : ℕ) (w : Walk) → IsWalk g (record { kind = Wcc; root = a }) x w → IsWalk g (record { kind = Wcc; root = b }) x w
walk_at_root g a b x w walk = record { begins = walk.begins; first = walk.first; leads = walk.leads }

value_at_root : (g : PlainGraph) (a b x : ℕ) (value : Value) → IsValue g (record { kind = Wcc; root = a }) x value → IsValue g (record { kind = Wcc; root = b }) x value
value_at_root g a b x Absent h = h
value_at_root g a b x Unreached h = (h.0, λ w walk. h.1 w (walk_at_root g b a x w walk))
value_at_root g a b x (Num c) h = (
  h.0,
  record {
    some = (h.1.some.0, walk_at_root g a b x h.1.some.0 h.1.some.1, h.1.some.2);
    best = λ w walk. h.1.best w (walk_at_root g b a x w walk);
  },
)

pub AreValues-at_root : (g : PlainGraph) (a b : ℕ) (values : List Value) → AreValues g (record { kind = Wcc; root = a }) values → AreValues g (record { kind = Wcc; root = b }) values
AreValues-at_root g a b values h = record { all = h.all; each = λ x value e. value_at_root g a b x value (h.each x value e) }
