-- Reading lists: a read that may have known some first lines has a least number of them, and what answers it on more lines answers
-- it there.
use Rattle.std.proofs.Common.{◌≡◌, ℕ, zero, suc, ◌-◌, ◌<◌, ◌≤◌, ◌⊎◌, inl, inr, List, [], ◌∷◌, ◌++◌, length, take, Option, Some, None, IfSome, arith, refl, sym, subst, ap, ◌∙◌}
use Rattle.std.specs.List.{slice_get}
use Rattle.std.specs.Option.{IsSomeAnd}
use Rattle.std.proofs.lemmas.Bool.{cases_lt, cases_eq}
use Rattle.std.proofs.lemmas.Option.{slice_get_within}
use Rattle.ris_base.specs.Answers.{Setup, IsAt, IsBarred, IsBare}
use Rattle.ris_base.specs.Legal.{MayKnow}
use Rattle.ris_base.specs.Lines.{front, floor, session_of, seq_of}
use Rattle.ris_base.specs.Lists.{IsLeast}
use Rattle.ris_base.specs.Replies.{number, printed_floor}
use Rattle.ris_base.specs.Requests.{after}
use Rattle.ris_base.specs.Value.{IsValue, AreMoved}
use Rattle.ris_base.specs.declared.analyses.Spec.{Spec}
use Rattle.ris_base.specs.declared.graphs.PlainGraph.{PlainGraph}
use Rattle.ris_base.specs.declared.lines.Line.{Line}
use Rattle.ris_base.specs.declared.replies.LogLine.{LogLine}
use Rattle.ris_base.specs.declared.replies.LogLine.TheVariants.{Answer, Denied}
use Rattle.ris_base.specs.declared.replies.ReadAnswer.TheVariants as answer
use Rattle.ris_base.specs.declared.replies.ReadRefusal.{ReadRefusal}
use Rattle.ris_base.specs.declared.replies.ReadRefusal.TheVariants as denial
use Rattle.ris_base.specs.declared.requests.Question.{Question}
use Rattle.ris_base.specs.declared.requests.Question.TheVariants as question
use Rattle.ris_base.proofs.FloorLemmas.{AreMarksWithin, floor-rises}
use Rattle.ris_base.proofs.LineLemmas.{after-append}

-- A shorter list

-- what holds of an analysis still holds where that follows for each
of-analysis : (o : Option Spec) (P Q : Spec → Type 0) → ((spec : Spec) → P spec → Q spec) → IsSomeAnd o P → IsSomeAnd o Q
of-analysis (Some spec) P Q f h = f spec h
of-analysis None P Q f h = absurd h

-- where the shorter list has the same front, its floor is no greater
pub record AreAlike (setup : Setup) (short rest : List Line) : Type 0 where
  pub marks : AreMarksWithin short
  pub fronts : front (short ++ rest) ≡ front short

at-shorter : (setup : Setup) (short rest : List Line) (v f p : ℕ) → AreAlike setup short rest → IsAt setup (short ++ rest) v f p → IsAt setup short v f p
at-shorter setup short rest v f p alike h = record {
  of_front = h.of_front ∙ alike.fronts;
  of_place = h.of_place;
  made = let e = alike.fronts in let m = h.made in omega arith;
  kept = let r = floor-rises setup.sessions short rest alike.marks in let k = h.kept in omega arith;
}

-- the graphs up to the front are the same
graph-shorter : (setup : Setup) (short rest : List Line) (v : ℕ) → AreAlike setup short rest → v ≤ front (short ++ rest)
    → after setup.opening (short ++ rest) v ≡ after setup.opening short v
graph-shorter setup short rest v alike h = after-append setup.opening short rest v (let e = alike.fronts in omega arith)

barred-shorter : (setup : Setup) (short rest : List Line) (o : Option ℕ) (d : ReadRefusal) → AreAlike setup short rest
    → IfSome (printed_floor (Denied d)) (λ low. floor setup.sessions short ≡ low) → IsBarred setup (short ++ rest) o d → IsBarred setup short o d
barred-shorter setup short rest (Some v) (denial.NotYet f) alike low h =
    let e = alike.fronts in (h.0 ∙ e, (let l = h.1 in omega arith))
barred-shorter setup short rest (Some v) (denial.Released f x) alike low h =
    let e = alike.fronts in (h.0 ∙ e, sym low, (let m = h.2 in omega arith), (let l = h.3 in let b = h.1 in omega arith))
barred-shorter setup short rest (Some v) denial.NoMemory alike low h = absurd h
barred-shorter setup short rest (Some v) denial.Shut alike low h = absurd h
barred-shorter setup short rest None d alike low h = absurd h

-- what answers a read on a list answers it on a shorter one that has its front and the printed floor
pub bare-shorter : (setup : Setup) (short rest : List Line) (q : Question) (reply : LogLine) → AreAlike setup short rest
    → IfSome (printed_floor reply) (λ low. floor setup.sessions short ≡ low) → IsBare setup (short ++ rest) q reply → IsBare setup short q reply
bare-shorter setup short rest (question.Value v a x) (Answer (answer.Value f p value)) alike low h = (
  at-shorter setup short rest v f p alike h.0,
  of-analysis (slice_get setup.specs a) (λ spec. IsValue (after setup.opening (short ++ rest) v) spec x value) (λ spec. IsValue (after setup.opening short v) spec x value)
      (λ spec k. subst (λ (g : PlainGraph). IsValue g spec x value) (graph-shorter setup short rest v alike h.0.made) k) h.1,
)
bare-shorter setup short rest (question.Parent v a x) (Answer (answer.Parent f p parent)) alike low h = (at-shorter setup short rest v f p alike h.0, h.1)
bare-shorter setup short rest (question.Path v a x) (Answer (answer.Path f p vertices)) alike low h = (at-shorter setup short rest v f p alike h.0, h.1)
bare-shorter setup short rest (question.Modified v a) (Answer (answer.Modified f p vertices)) alike low h = (
  at-shorter setup short rest v f p alike h.0,
  of-analysis (slice_get setup.specs a)
      (λ spec. AreMoved (after setup.opening (short ++ rest) (v - 1)) (after setup.opening (short ++ rest) v) spec vertices)
      (λ spec. AreMoved (after setup.opening short (v - 1)) (after setup.opening short v) spec vertices)
      (λ spec k. subst (λ (g : PlainGraph). AreMoved g (after setup.opening short v) spec vertices)
      (graph-shorter setup short rest (v - 1) alike (let m = h.0.made in omega arith))
      (subst (λ (g : PlainGraph). AreMoved (after setup.opening (short ++ rest) (v - 1)) g spec vertices) (graph-shorter setup short rest v alike h.0.made) k)) h.1,
)
bare-shorter setup short rest question.Current (Answer (answer.Current f x)) alike low h = (h.0 ∙ alike.fronts, sym low)
bare-shorter setup short rest (question.Value v a x) (Denied d) alike low h = barred-shorter setup short rest (Some v) d alike low h
bare-shorter setup short rest (question.Parent v a x) (Denied d) alike low h = barred-shorter setup short rest (Some v) d alike low h
bare-shorter setup short rest (question.Path v a x) (Denied d) alike low h = barred-shorter setup short rest (Some v) d alike low h
bare-shorter setup short rest (question.Modified v a) (Denied d) alike low h = barred-shorter setup short rest (Some v) d alike low h
bare-shorter setup short rest question.Current (Denied d) alike low h = barred-shorter setup short rest None d alike low h
bare-shorter setup short rest _ _ alike low h = absurd h

-- The least list

-- a decidable fact of numbers that holds of some number holds of a least one
first_below : (P : ℕ → Type 0) → ((n : ℕ) → P n ⊎ ¬ (P n)) → (n : ℕ) → ((m : ℕ) × IsLeast P m) ⊎ ((m : ℕ) → m < n → ¬ (P m))
first_below P decides zero = inr (λ m lt. absurd (omega arith))
first_below P decides (suc n) = elim (first_below P decides n) [
  | inl found ↦ inl found
  | inr none ↦ elim (decides n) [
    | inl here ↦ inl (n, (here, λ m p. elim (cases_lt m n) [ inl less ↦ absurd (none m less p) | inr le ↦ le ]))
    | inr never ↦ inr (λ m lt p. elim (cases_lt m n) [ inl less ↦ none m less p | inr le ↦ (let same : m ≡ n = omega arith in never (subst P same p)) ])
  ]
]

pub least-some : (P : ℕ → Type 0) → ((n : ℕ) → P n ⊎ ¬ (P n)) → (n : ℕ) → P n → (m : ℕ) × IsLeast P m
least-some P decides n p = elim (first_below P decides (suc n)) [ inl found ↦ found | inr none ↦ absurd (none n (omega arith) p) ]

-- each line of an earlier command is among the first n
abbrev Own : ℕ → ℕ → List Line → ℕ → Type 0
Own s seq lines n = (i : ℕ) (l : Line) → slice_get lines i ≡ Some l → session_of l ≡ s → seq_of l < seq → i < n

own-decides : (s seq : ℕ) (lines : List Line) (n : ℕ) → Own s seq lines n ⊎ ¬ (Own s seq lines n)
own-decides s seq [] n = inl (λ i l at. absurd (let w = slice_get_within [] i l at in omega arith))
own-decides s seq (first ∷ lines) (suc n) = elim (own-decides s seq lines n) [
  | inl more ↦ inl (later more)
  | inr never ↦ inr (λ own. never (λ i l at a b. (let k = own (suc i) l at a b in omega arith)))
]
  where
    later : Own s seq lines n → Own s seq (first ∷ lines) (suc n)
    later more zero l at a b = omega arith
    later more (suc i) l at a b = let k = more i l at a b in omega arith
own-decides s seq (first ∷ lines) zero = elim (own-decides s seq lines zero) [
  | inr never ↦ inr (λ own. never (λ i l at a b. absurd (let k = own (suc i) l at a b in omega arith)))
  | inl more ↦ elim (cases_eq (session_of first) s) [
    | inr other ↦ inl (later more (λ a b. other a))
    | inl same ↦ elim (cases_lt (seq_of first) seq) [
      | inl less ↦ inr (λ own. (let k = own 0 first refl same less in absurd (omega arith)))
      | inr late ↦ inl (later more (λ a b. absurd (omega arith)))
    ]
  ]
]
  where
    later : Own s seq lines zero → (session_of first ≡ s → seq_of first < seq → ⊥) → Own s seq (first ∷ lines) zero
    later more never zero l at a b =
        let same : first ≡ l = cc in
        absurd (never (ap session_of same ∙ a) (subst (λ (k : Line). seq_of k < seq) (sym same) b))
    later more never (suc i) l at a b = absurd (let k = more i l at a b in omega arith)

if_some-decides : (o : Option ℕ) (n : ℕ) → IfSome o (λ f. n ≡ f) ⊎ ¬ (IfSome o (λ f. n ≡ f))
if_some-decides None n = inl tt
if_some-decides (Some f) n = cases_eq n f

knows-decides : (setup : Setup) (lines : List Line) (s seq held : ℕ) (reply : LogLine) (n : ℕ)
    → MayKnow setup lines s seq held reply n ⊎ ¬ (MayKnow setup lines s seq held reply n)
knows-decides setup lines s seq held reply n =
    elim (cases_lt (length lines) n) [
      | inl past ↦ inr (λ k. (let w = k.within in omega arith))
      | inr within ↦ elim (if_some-decides (number reply) (front (take n lines))) [
        | inr other ↦ inr (λ k. other k.of_front)
        | inl shown ↦ elim (if_some-decides (printed_floor reply) (floor setup.sessions (take n lines))) [
          | inr other ↦ inr (λ k. other k.of_floor)
          | inl low ↦ elim (cases_lt n held) [
            | inl less ↦ inr (λ k. (let e = k.earlier in omega arith))
            | inr earlier ↦ elim (own-decides s seq lines n) [
              | inl own ↦ inl (record { within = within; of_front = shown; of_floor = low; own = own; earlier = earlier })
              | inr never ↦ inr (λ k. never k.own)
            ]
          ]
        ]
      ]
    ]

-- a read that may have known some first lines has a reading list
pub reading_list : (setup : Setup) (lines : List Line) (s seq held : ℕ) (reply : LogLine) (n : ℕ) → MayKnow setup lines s seq held reply n
    → (m : ℕ) × IsLeast (MayKnow setup lines s seq held reply) m
reading_list setup lines s seq held reply n fits =
    least-some (MayKnow setup lines s seq held reply) (knows-decides setup lines s seq held reply) n fits

-- more first lines are fewer ones and then others
take-more : {X : Type 0} (xs : List X) (m k : ℕ) → m ≤ k → (rest : List X) × (take k xs ≡ take m xs ++ rest)
take-more xs zero k h = (take k xs, refl)
take-more [] (suc m) zero h = absurd (omega arith)
take-more [] (suc m) (suc k) h = ([], refl)
take-more (x ∷ xs) (suc m) zero h = absurd (omega arith)
take-more (x ∷ xs) (suc m) (suc k) h = let more = take-more xs m k (omega arith) in (more.0, ap (λ ys. x ∷ ys) more.1)

-- a read that is answered on first lines which it may have known is answered on its reading list, which isn't longer
pub read-least : (setup : Setup) (lines : List Line) (s seq held : ℕ) (q : Question) (reply : LogLine) (n : ℕ) → ((m : ℕ) → AreMarksWithin (take m lines))
    → (f : ℕ) → number reply ≡ Some f → MayKnow setup lines s seq held reply n → IsBare setup (take n lines) q reply
    → (m : ℕ) × IsLeast (MayKnow setup lines s seq held reply) m × IsBare setup (take m lines) q reply × (m ≤ n)
read-least setup lines s seq held q reply n marks f has fits bare =
    let least = reading_list setup lines s seq held reply n fits in
    let less : least.0 ≤ n = least.1.1 n fits in
    let longer = take-more lines least.0 n less in
    let fronts : front (take least.0 lines ++ longer.0) ≡ front (take least.0 lines) =
    ap front (sym longer.1) ∙ of_some (number reply) f (front (take n lines)) has fits.of_front ∙ sym (of_some (number reply) f (front (take least.0 lines)) has least.1.0.of_front) in (
      least.0,
      least.1,
      bare-shorter setup (take least.0 lines) longer.0 q reply (record { marks = marks least.0; fronts = fronts }) least.1.0.of_floor
          (subst (λ (xs : List Line). IsBare setup xs q reply) longer.1 bare),
      less,
    )
  where
    of_some : (o : Option ℕ) (x y : ℕ) → o ≡ Some x → IfSome o (λ z. y ≡ z) → y ≡ x
    of_some None x y e h = absurd (cc)
    of_some (Some z) x y e h = let same : z ≡ x = cc in h ∙ same
