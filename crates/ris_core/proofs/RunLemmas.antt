-- What a list of events does, event by event; what a tried step keeps; and the opened state.
use Rattle.std.proofs.Common.{◌≡◌, ℕ, zero, suc, ◌+◌, Bool, true, false, inl, inr, List, [], ◌∷◌, ◌++◌, length, map, take, replicate, unwrap_or, Result, Ok, Err, arith, refl, sym, subst, ap, ◌∙◌}
use Rattle.std.specs.List.{slice_get}
use Rattle.ris_base.specs.Forest.{AreForests, forest_in}
use Rattle.ris_base.specs.Graph.{IsProper}
use Rattle.ris_base.specs.Machine.{Collect, Happens, IsEnabled, Step, empty_seat, opened}
use Rattle.ris_base.specs.declared.analyses.Spec.{Spec}
use Rattle.ris_base.specs.declared.forests.ForestRow.{ForestRow}
use Rattle.ris_base.specs.declared.graphs.PlainGraph.{PlainGraph}
use Rattle.ris_base.specs.declared.memory.NoMemory.{NoMemory}
use Rattle.ris_legal.specs.Held.{IsKept}
use Rattle.ris_legal.proofs.Steps.{opened-state, step-kept}
use Rattle.ris_core.specs.Runs.{AreTried, opened_as}
use Rattle.ris_core.specs.Stands.{IsTried, Listing, absent_seat, seats_of, state_of}
use Rattle.ris_core.proofs.StateLemmas.{same_function}

-- a tried step keeps what a state keeps
pub tried-kept : (old : Listing) (step : Step) (new : Listing) (result : Result Bool NoMemory) → IsTried old step new result → IsKept (state_of old) → IsKept (state_of new)
tried-kept old step new (Ok true) happens kept = step-kept (state_of old) step (state_of new) happens kept
tried-kept old step new (Ok false) same kept = subst (λ (l : Listing). IsKept (state_of l)) (sym same.0) kept
tried-kept old step new (Err fault) same kept = subst (λ (l : Listing). IsKept (state_of l)) (sym same) kept

-- Runs

pub tried-none : (old new : Listing) → new ≡ old → AreTried old [] new 0
unfolding AreTried
tried-none old new same = (same, refl)

-- one step more at the end, which happens
pub tried-happens : (old mid new : Listing) (steps : List Step) (step : Step) (n : ℕ) → AreTried old steps mid n → Happens (state_of mid) step (state_of new) → AreTried old (steps ++ step ∷ []) new (n + 1)
unfolding AreTried
tried-happens old mid new [] step n h happens =
    inl (new, 0, subst (λ (l : Listing). Happens (state_of l) step (state_of new)) h.0 happens, (refl, refl), ap (λ k. k + 1) h.1)
tried-happens old mid new (first ∷ steps) step n (inl h) happens =
    inl (h.0, h.1 + 1, h.2, tried-happens h.0 mid new steps step h.1 h.3 happens, ap (λ k. k + 1) h.4)
tried-happens old mid new (first ∷ steps) step n (inr h) happens = inr (h.0, tried-happens old mid new steps step n h.1 happens)

-- one step more, which isn't enabled
pub tried-stays : (old mid new : Listing) (steps : List Step) (step : Step) (n : ℕ) → AreTried old steps mid n → new ≡ mid → ¬ (IsEnabled (state_of mid) step) → AreTried old (steps ++ step ∷ []) new n
unfolding AreTried
tried-stays old mid new [] step n h same not_enabled =
    inr (subst (λ (l : Listing). ¬ (IsEnabled (state_of l) step)) h.0 not_enabled, (same ∙ h.0, h.1))
tried-stays old mid new (first ∷ steps) step n (inl h) same not_enabled =
    inl (h.0, h.1, h.2, tried-stays h.0 mid new steps step h.1 h.3 same not_enabled, h.4)
tried-stays old mid new (first ∷ steps) step n (inr h) same not_enabled = inr (h.0, tried-stays old mid new steps step n h.1 same not_enabled)

-- the first items of a mapped list
pub take-map : {X Y : Type 0} (f : X → Y) (k : ℕ) (xs : List X) → take k (map f xs) ≡ map f (take k xs)
take-map f zero [] = refl
take-map f (suc k) [] = refl
take-map f zero (x ∷ xs) = refl
take-map f (suc k) (x ∷ xs) = ap (λ ys. f x ∷ ys) (take-map f k xs)

-- The opened state

same-seats : (n k : ℕ) → unwrap_or (slice_get (replicate n empty_seat) k) (absent_seat 0) ≡ empty_seat
same-seats zero k = refl
same-seats (suc n) zero = refl
same-seats (suc n) (suc k) = same-seats n k

seat-count : (n : ℕ) → length (replicate n empty_seat) ≡ n
seat-count zero = refl
seat-count (suc n) = let more = seat-count n in omega arith

pub state-opened : (g : PlainGraph) (specs : List Spec) (sessions : ℕ) (rows : List (List ForestRow))
    → state_of (opened_as g specs sessions rows) ≡ opened (record { opening = g; specs = specs; sessions = sessions }) (map forest_in rows)
state-opened g specs sessions rows = λ i. record {
  setup = record { opening = g; specs = specs; sessions = seat-count sessions i };
  book = record { seats = same_function (seats_of 0 (replicate sessions empty_seat)) (λ n. empty_seat) (same-seats sessions) i; lines = []; places = map forest_in rows ∷ [] };
  phase = Collect;
  logs = λ k. [];
  published = 0;
}

pub opened-kept : (g : PlainGraph) (specs : List Spec) (sessions : ℕ) (rows : List (List ForestRow)) (l : Listing) → l ≡ opened_as g specs sessions rows → IsProper g
    → AreForests g specs (map forest_in rows) → IsKept (state_of l)
opened-kept g specs sessions rows l is proper right =
    subst IsKept (sym (ap state_of is ∙ state-opened g specs sessions rows)) (opened-state (record { opening = g; specs = specs; sessions = sessions }) (map forest_in rows) proper right)
