-- Where a request takes nothing away its reach is the same with each right forest; and lines have the reaches of their parts.
use Rattle.std.proofs.Common.{◌≡◌, ℕ, suc, ◌+◌, ◌≤◌, inl, inr, true, List, [], ◌∷◌, ◌++◌, map, Option, Some, None, Result, Ok, Err, arith, refl, sym, subst, ap, ◌∙◌}
use Rattle.std.specs.List.{list_all}
use Rattle.std.specs.Result.{result_unwrap_or}
use Rattle.std.proofs.lemmas.Bool.{and_parts, true≢false}
use Rattle.ris_base.specs.Effect.{Objection, does}
use Rattle.ris_base.specs.Falling.{AreReaches, Drops, HangsBelowLost, IsFallen, IsReach, IsReachFor, IsReachUnless}
use Rattle.ris_base.specs.Forest.{AreForests, Forest, IsForest, IsParent, up}
use Rattle.ris_base.specs.Graph.{HasVertex, copies}
use Rattle.ris_base.specs.Lines.{front}
use Rattle.ris_base.specs.Requests.{RefusedPart, after, does_from, entered, refusal_of}
use Rattle.ris_base.specs.Visits.{IsReachOfGrowth, bare_forest, only_adds}
use Rattle.ris_base.specs.declared.analyses.Spec.{Spec}
use Rattle.ris_base.specs.declared.forests.Parent.{Parent}
use Rattle.ris_base.specs.declared.graphs.PlainGraph.{PlainGraph}
use Rattle.ris_base.specs.declared.graphs.Triple.{Triple}
use Rattle.ris_base.specs.declared.lines.Line.{Line}
use Rattle.ris_base.specs.declared.lines.Line.TheVariants as line
use Rattle.ris_base.specs.declared.updates.Update.{Update}
use Rattle.ris_base.specs.declared.updates.Update.TheVariants.{AddV, DelV, AddE, DelE, SetW}
use Rattle.ris_base.proofs.EffectLemmas.{copies-HasTriple, copies-changed, copies_after, does-accepted}
use Rattle.ris_base.proofs.ListLemmas.{Contains-cases, Contains-none}

-- Copies

kept-copies : (n : ℕ) (update : Update) (t : Triple) → only_adds update ≡ true → n ≤ copies_after n update t
kept-copies n (AddV x) t is = omega arith
kept-copies n (AddE u v w) t is = omega arith
kept-copies n (DelV x) t is = absurd (true≢false (sym is))
kept-copies n (DelE u v w) t is = absurd (true≢false (sym is))
kept-copies n (SetW u v w w2) t is = absurd (true≢false (sym is))

from-copies : (parts : List Update) (k : ℕ) (g h : PlainGraph) (t : Triple) → list_all only_adds parts ≡ true → does_from k g parts ≡ Ok h → copies g t ≤ copies h t
unfolding does_from
from-copies [] k g h t is e = let same : g ≡ h = cc in let n = ap (λ (x : PlainGraph). copies x t) same in omega arith
from-copies (part ∷ parts) k g h t is e =
    let adds = and_parts (only_adds part) (list_all only_adds parts) is in
    go (does g part) refl adds.0 (λ m rest. from-copies parts (k + 1) m h t adds.1 rest) e
  where
    go : (r : Result PlainGraph Objection) → does g part ≡ r → only_adds part ≡ true
        → ((m : PlainGraph) → does_from (k + 1) m parts ≡ Ok h → copies m t ≤ copies h t)
        → ◌≡◌ {A = Result PlainGraph RefusedPart} (elim r [ Ok changed ↦ does_from (k + 1) changed parts | Err why ↦ Err (record { part = k; why = why }) ]) (Ok h)
        → copies g t ≤ copies h t
    go (Ok m) at adds rest goes =
        let made = ap (λ (x : PlainGraph). copies x t) (does-accepted g m part at).1 in
        let first = copies-changed g part t in
        let kept = kept-copies (copies g t) part t adds in
        let more = rest m goes in
        omega arith
    go (Err why) at adds rest goes = absurd (cc)

grown-copies : (g : PlainGraph) (parts : List Update) (t : Triple) → list_all only_adds parts ≡ true → copies g t ≤ copies (entered g parts) t
grown-copies g parts t is = go (does_from 1 g parts) refl
  where
    go : (r : Result PlainGraph RefusedPart) → does_from 1 g parts ≡ r → copies g t ≤ copies (result_unwrap_or r g) t
    go (Ok h) at = from-copies parts 1 g h t is at
    go (Err refused) at = omega arith

no-drop : (parts : List Update) (x : ℕ) → list_all only_adds parts ≡ true → ¬ (Drops parts x)
no-drop [] x is has = Contains-none (DelV x) has
no-drop (part ∷ parts) x is has =
    let adds = and_parts (only_adds part) (list_all only_adds parts) is in
    elim (Contains-cases part parts (DelV x) has) [
      | inl same ↦ true≢false (sym adds.0 ∙ ap only_adds same)
      | inr later ↦ no-drop parts x adds.1 later
    ]

-- Fallen vertices

-- the vertices that a request puts in
abbrev IsNew : PlainGraph → List Update → ℕ → Type 0
IsNew g parts x = HasVertex (entered g parts) x × (¬ (HasVertex g x))

module _ (g : PlainGraph) (spec : Spec) (parts : List Update) (is : list_all only_adds parts ≡ true) where
  no-hang : (F : Forest) (x : ℕ) → IsForest g spec F → ¬ (HangsBelowLost g parts F x)
  no-hang F x right below =
      let y : ℕ = up F below.steps x in
      let t : Triple = below.lost.edge in
      let hangs = below.lost.by_edge in
      let from = subst (λ (p : Parent). IsParent g spec F.value y p) hangs.is (right.parents y) in
      let some = copies-HasTriple g t from.has in
      let kept = grown-copies g parts t is in
      elim below.lost.lost [
        | inl none ↦ absurd (omega arith)
        | inr (inl drop) ↦ no-drop parts t.source is drop
        | inr (inr drop) ↦ no-drop parts t.target is drop
      ]

  no-bare : (x : ℕ) → ¬ (HangsBelowLost g parts (bare_forest spec) x)
  no-bare x below = let w = below.lost.by_edge.is in absurd (cc)

  new-only : (F : Forest) (x : ℕ) → ¬ (HangsBelowLost g parts F x) → IsFallen g parts F x → IsNew g parts x
  new-only F x none (inl dropped) = absurd (no-drop parts x is dropped.1)
  new-only F x none (inr (inl new)) = new
  new-only F x none (inr (inr below)) = absurd (none below)

  -- a reach with a bare forest is one with each right forest
  pub bare-reach-for : (F : Forest) (n : ℕ) → IsForest g spec F → IsReachFor g spec parts (bare_forest spec) n → IsReachFor g spec parts F n
  bare-reach-for F n right a = record {
    fallen = a.fallen;
    improved = a.improved;
    all_fallen = record {
      once = a.all_fallen.once;
      each = λ x. (
        (λ has. inr (inl (new-only (bare_forest spec) x (no-bare x) ((a.all_fallen.each x).0 has)))),
        (λ fallen. (a.all_fallen.each x).1 (inr (inl (new-only F x (no-hang F x right) fallen)))),
      );
    };
    all_improved = record {
      once = a.all_improved.once;
      each = λ x. (
        (λ has. let h = (a.all_improved.each x).0 has in ((λ fallen. h.0 (inr (inl (new-only F x (no-hang F x right) fallen)))), h.1)),
        (λ h. (a.all_improved.each x).1 ((λ fallen. h.0 (inr (inl (new-only (bare_forest spec) x (no-bare x) fallen)))), h.1)),
      );
    };
    count = a.count;
  }

bare-reaches : (g : PlainGraph) (parts : List Update) → list_all only_adds parts ≡ true → (specs : List Spec) (forests : List Forest) (ns : List ℕ)
    → AreForests g specs forests → AreReaches g parts specs (map bare_forest specs) ns → AreReaches g parts specs forests ns
bare-reaches g parts is [] [] [] right a = tt
bare-reaches g parts is [] [] (n ∷ ns) right a = absurd a
bare-reaches g parts is [] (F ∷ forests) ns right a = absurd right
bare-reaches g parts is (spec ∷ specs) [] ns right a = absurd right
bare-reaches g parts is (spec ∷ specs) (F ∷ forests) [] right a = absurd a
bare-reaches g parts is (spec ∷ specs) (F ∷ forests) (n ∷ ns) right a =
    (bare-reach-for g spec parts is F n right.0 a.0, bare-reaches g parts is specs forests ns right.1 a.1)

pub bare-reach : (g : PlainGraph) (specs : List Spec) (forests : List Forest) (parts : List Update) (n : ℕ) → list_all only_adds parts ≡ true
    → AreForests g specs forests → IsReach g specs (map bare_forest specs) parts n → IsReach g specs forests parts n
bare-reach g specs forests parts n is right = go (refusal_of g parts)
  where
    go : (r : Option RefusedPart) → IsReachUnless r g specs (map bare_forest specs) parts n → IsReachUnless r g specs forests parts n
    go (Some refused) a = a
    go None a = record { counts = a.counts; each = bare-reaches g parts is specs forests a.counts right a.each; count = a.count }

-- Lines

-- the reaches of lines are those of the first ones and of the others behind them
pub growth-append : (specs : List Spec) (xs ys : List Line) (g : PlainGraph) (n : ℕ) → IsReachOfGrowth g specs (xs ++ ys) n
    → (a : ℕ) × (b : ℕ) × (n ≡ a + b) × IsReachOfGrowth g specs xs a × IsReachOfGrowth (after g xs (front xs)) specs ys b
unfolding IsReachOfGrowth after front
growth-append specs [] ys g n h = (0, n, omega arith, refl, h)
growth-append specs (line.Entry e ∷ xs) ys g n h =
    let more = growth-append specs xs ys (entered g e.parts) h.1 h.4 in
    let one : suc (front xs) ≡ front xs + 1 = omega arith in (
      h.0 + more.0,
      more.1,
      (let x = h.2 in let y = more.2 in omega arith),
      (h.0, more.0, refl, h.3, more.3),
      subst (λ (v : ℕ). IsReachOfGrowth (after g (line.Entry e ∷ xs) v) specs ys more.1) one more.4,
    )
growth-append specs (line.Mark s q u ∷ xs) ys g n h = growth-append specs xs ys g n h
growth-append specs (line.Leave s q ∷ xs) ys g n h = growth-append specs xs ys g n h
