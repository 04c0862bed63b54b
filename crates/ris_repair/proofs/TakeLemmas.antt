-- What is left in a queue once its best item is taken, and what the vertex that was taken says.
use Rattle.std.proofs.Common.{◌≡◌, ℕ, ◌^◌, ◌<◌, ◌≤◌, Bool, true, false, not, ◌&&◌, ◌==◌, if◌then◌else◌, inl, inr, List, ◌∷◌, Option, Some, None, arith, refl, sym, subst, ap, ◌∙◌}
use Rattle.std.specs.List.{All}
use Rattle.std.specs.List.Sorted.{IsPermutation}
use Rattle.std.proofs.lemmas.Bool.{cases_eq, ne_eqb}
use Rattle.std.proofs.lemmas.Bool.Decides.{nat_tests}
use Rattle.std.proofs.lemmas.List.Elements.{All-contains}
use Rattle.std.proofs.lemmas.List.Sorted.{Contains-permutation}
use Rattle.ris_base.specs.Analysis.{better}
use Rattle.ris_base.specs.Forest.{Forest}
use Rattle.ris_base.specs.declared.analyses.Kind.{Kind}
use Rattle.ris_base.specs.declared.analyses.Kind.TheVariants.{Bfs, Sssp, Sswp, Wcc}
use Rattle.ris_base.specs.declared.analyses.Value.{Value}
use Rattle.ris_base.specs.declared.analyses.Value.TheVariants.{Absent, Unreached, Num}
use Rattle.ris_base.specs.declared.forests.Parent.{Parent}
use Rattle.ris_base.proofs.ListLemmas.{Contains-cases}
use Rattle.ris_algo.specs.Spreading.{IsTakenFrom}
use Rattle.ris_repair.specs.Priority.{priority_of}
use Rattle.ris_repair.specs.Changes.{AreQueued, IsSettled, IsNext, state_of, value_or, parent_or, is_settled, is_waiting, is_number, number_of, waiting_number, settled_change, AreBelow}
use Rattle.ris_repair.specs.declared.stores.Change.{Change}

-- The queue

settled_waits_no_more : (o : Option Change) (d : ℕ) → waiting_number (settled_change o) ≡ Some d → ⊥
settled_waits_no_more None d h = cc
settled_waits_no_more (Some c) d h = cc

-- an item that isn't the present one of its vertex is let go
pub queued-without : (kind : Kind) (changes : ℕ → Option Change) (queue rest : List (ℕ × ℕ)) (best v : ℕ) → AreQueued kind changes queue
    → IsPermutation queue ((best, v) ∷ rest) → ((d : ℕ) → waiting_number (changes v) ≡ Some d → ¬ (priority_of kind d ≡ best)) → AreQueued kind changes rest
queued-without kind changes queue rest best v queued items stale x d h =
    elim (Contains-cases (best, v) rest (priority_of kind d, x) (Contains-permutation queue ((best, v) ∷ rest) (priority_of kind d, x) items (queued x d h))) [
      | inl s ↦ absurd (stale d (subst (λ (n : ℕ). waiting_number (changes n) ≡ Some d) (sym (ap (λ (p : ℕ × ℕ). p.1) s)) h) (sym (ap (λ (p : ℕ × ℕ). p.0) s)))
      | inr r ↦ r
    ]

-- a vertex that is settled needs no item
pub queued-settled : (kind : Kind) (old new : ℕ → Option Change) (queue rest : List (ℕ × ℕ)) (best v : ℕ) → AreQueued kind old queue
    → IsPermutation queue ((best, v) ∷ rest) → IsSettled old v new → AreQueued kind new rest
queued-settled kind old new queue rest best v queued items settled x d h = elim (cases_eq v x) [
  | inl e ↦ absurd (settled_waits_no_more (old v) d (ap waiting_number (sym settled.here) ∙ subst (λ (n : ℕ). waiting_number (new n) ≡ Some d) (sym e) h))
  | inr ne ↦ elim (Contains-cases (best, v) rest (priority_of kind d, x) (Contains-permutation queue ((best, v) ∷ rest) (priority_of kind d, x) items
      (queued x d (ap waiting_number (sym (settled.others x (ne_eqb v x ne))) ∙ h)))) [
        | inl s ↦ absurd (ne (ap (λ (p : ℕ × ℕ). p.1) s))
        | inr r ↦ r
      ]
]

pub next-from : (kind : Kind) (old new : ℕ → Option Change) (queue rest : List (ℕ × ℕ)) (best v c : ℕ) → AreQueued kind old queue
    → IsPermutation queue ((best, v) ∷ rest) → IsSettled old v new → All (λ item. item.0 ≤ best) rest → waiting_number (old v) ≡ Some c → priority_of kind c ≡ best
    → IsNext kind old v c new
next-from kind old new queue rest best v c queued items settled most was e = record {
  was = was;
  settled = settled;
  best = λ x d h. subst (λ (n : ℕ). priority_of kind d ≤ n) (sym e)
      (All-contains (λ (item : ℕ × ℕ). item.0 ≤ best) rest (priority_of kind d, x) most (queued-settled kind old new queue rest best v queued items settled x d h));
}

-- a table that is the same at a vertex and elsewhere
pub same_at : (old new : ℕ → Option Change) (v : ℕ) → new v ≡ old v → ((x : ℕ) → (v == x) ≡ false → new x ≡ old x) → (x : ℕ) → new x ≡ old x
same_at old new v here others x = elim (cases_eq v x) [
  | inl e ↦ subst (λ (k : ℕ). new k ≡ old k) e here
  | inr ne ↦ others x (ne_eqb v x ne)
]

-- a number of no greater priority is no better
pub ranked : (kind : Kind) (d c : ℕ) → c < 2 ^ 64 → priority_of kind d ≤ priority_of kind c → better kind d c ≡ false
ranked Bfs d c small h = grind (arith, nat_tests)
ranked Sssp d c small h = grind (arith, nat_tests)
ranked Sswp d c small h = grind (arith, nat_tests)
ranked Wcc d c small h = grind (arith, nat_tests)

-- The vertex that was taken

parts : (v : Value) (s : Bool) (c : ℕ) → (if s then None else number_of v) ≡ Some c → (v ≡ Num c) × ((is_number v && not s) ≡ true) × (s ≡ false)
parts v true c h = absurd (cc)
parts Absent false c h = absurd (cc)
parts Unreached false c h = absurd (cc)
parts (Num d) false c h = let e : d ≡ c = cc in (ap Num e, refl, refl)

was_parts : (V : Value) (o : Option Change) (c : ℕ) → waiting_number o ≡ Some c
    → (value_or V o ≡ Num c) × (is_waiting o ≡ true) × (is_settled o ≡ false) × (is_settled (settled_change o) ≡ true)
was_parts V None c h = absurd (cc)
was_parts V (Some ch) c h = let r = parts ch.value ch.settled c h in (r.0, r.1, r.2, refl)

number_from : (v : Value) (s : Bool) (d : ℕ) → (is_number v && not s) ≡ true → v ≡ Num d → (if s then None else number_of v) ≡ Some d
number_from v false d h e = rw e refl
number_from Absent true d h e = absurd (cc)
number_from Unreached true d h e = absurd (cc)
number_from (Num c) true d h e = absurd (cc)

-- the number of a vertex that waits
pub waits_from : (V : Value) (o : Option Change) (d : ℕ) → is_waiting o ≡ true → value_or V o ≡ Num d → waiting_number o ≡ Some d
waits_from V None d h e = absurd (cc)
waits_from V (Some ch) d h e = number_from ch.value ch.settled d h e

and_false : (b : Bool) → (b && false) ≡ false
and_false true = refl
and_false false = refl

settled_parts : (V : Value) (p : Parent) (o : Option Change)
    → (value_or V (settled_change o) ≡ value_or V o) × (parent_or p (settled_change o) ≡ parent_or p o) × (is_waiting (settled_change o) ≡ false)
settled_parts V p None = (refl, refl, refl)
settled_parts V p (Some ch) = (refl, refl, and_false (is_number ch.value))

has_some : (o : Option Change) (c : ℕ) → waiting_number o ≡ Some c → (ch : Change) × (o ≡ Some ch)
has_some None c h = absurd (cc)
has_some (Some ch) c h = (ch, refl)

module _ (kind : Kind) (F : Forest) (old new : ℕ → Option Change) (v c : ℕ) (N : IsNext kind old v c new) where
  other : (x : ℕ) → ¬ (x ≡ v) → new x ≡ old x
  other x ne = N.settled.others x (ne_eqb v x (λ e. ne (sym e)))

  -- the states before and after
  pub taken_state : IsTakenFrom (state_of F old) (state_of F new) v c
  taken_state =
      let w = was_parts (F.value v) (old v) c N.was in
      let s = settled_parts (F.value v) (F.parent v) (old v) in
      record {
        waited = w.1;
        number = w.0;
        value = ap (value_or (F.value v)) N.settled.here ∙ s.0;
        parent = ap (parent_or (F.parent v)) N.settled.here ∙ s.1;
        waiting = ap is_waiting N.settled.here ∙ s.2;
        settled = ap is_settled N.settled.here ∙ w.3;
        others = λ x ne. record {
          value = ap (value_or (F.value x)) (other x ne);
          parent = ap (parent_or (F.parent x)) (other x ne);
          waiting = ap is_waiting (other x ne);
          settled = ap is_settled (other x ne);
        };
      }

  -- it wasn't settled, and is now
  pub taken_settled : (is_settled (old v) ≡ false) × (is_settled (new v) ≡ true) × ((x : ℕ) → ¬ (x ≡ v) → is_settled (new x) ≡ is_settled (old x))
  taken_settled =
      let w = was_parts (F.value v) (old v) c N.was in
      (w.2, ap is_settled N.settled.here ∙ w.3, λ x ne. ap is_settled (other x ne))

  -- none that waits is better
  pub none_better : c < 2 ^ 64 → (b d : ℕ) → is_waiting (new b) ≡ true → value_or (F.value b) (new b) ≡ Num d → better kind d c ≡ false
  none_better small b d h e = ranked kind d c small (N.best b d (waits_from (F.value b) (new b) d h e))

  -- a fact of each change that speaks of its vertex and value alone
  pub taken_all : (P : ℕ → Value → Type 0) → ((x : ℕ) (ch : Change) → old x ≡ Some ch → P x ch.value) → (x : ℕ) (ch : Change) → new x ≡ Some ch → P x ch.value
  taken_all P each x ch h = elim (cases_eq x v) [
    | inr ne ↦ each x ch (sym (other x ne) ∙ h)
    | inl e ↦
        let r = has_some (old v) c N.was in
        let at : Some ch ≡ Some (record r.0 { settled = true }) = sym h ∙ ap new e ∙ N.settled.here ∙ ap settled_change r.1 in
        let is : ch ≡ record r.0 { settled = true } = cc in
        let value : r.0.value ≡ ch.value = sym (ap (λ (k : Change). k.value) is) in
        subst (λ (z : ℕ). P z ch.value) (sym e) (subst (P v) value (each v r.0 r.1))
  ]

  pub taken_below : (n : ℕ) → AreBelow n old → v < n
  taken_below n below = let r = has_some (old v) c N.was in below v r.0 r.1
