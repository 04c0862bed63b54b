-- The merge of decisions is one that keeps each log's order, and it is found where there is one.
use Rattle.std.proofs.Common.{◌≡◌, ◌≢◌, ℕ, suc, ◌==◌, ◌||◌, not, if◌then◌else◌, Bool, true, false, List, [], ◌∷◌, ◌++◌, map, Option, Some, None, arith, refl, sym, subst, ap, ◌∙◌, cond, eq-eqb}
use Rattle.std.specs.List.{list_any, slice_get}
use Rattle.std.specs.Option.{option_and_then, option_map}
use Rattle.std.proofs.lemmas.Bool.{eqb-true, ne_eqb, or_parts, not-true}
use Rattle.std.proofs.lemmas.List.Elements.{filter-append}
use Rattle.ris_base.specs.Machine.{Decided, stripe_of}
use Rattle.ris_core.specs.Moves.{Pulled, behind_one, is_first, merge_of, pulled}
use Rattle.ris_core.specs.Stands.{logs_of}
use Rattle.ris_legal.specs.Held.{NoTwo}

-- One decision

-- a decision that was pulled stands between the others, is of its session, and nothing before it is
pub record IsPulled (s : ℕ) (rest : List Decided) (p : Pulled) : Type 0 where
  pub whole : rest ≡ p.before ++ p.decision ∷ p.behind
  pub session : p.decision.entry.session ≡ s

pulled-is : (s : ℕ) (rest : List Decided) (p : Pulled) → pulled s rest ≡ Some p → IsPulled s rest p
unfolding pulled
pulled-is s [] p h = absurd (cc)
pulled-is s (d ∷ rest) p h = go (d.entry.session == s) refl h (pulled s rest) refl (λ q e. pulled-is s rest q e)
  where
    go : (b : Bool) → (d.entry.session == s) ≡ b → (if b then Some (record { before = []; decision = d; behind = rest }) else option_map (behind_one d) (pulled s rest)) ≡ Some p
        → (o : Option Pulled) → pulled s rest ≡ o → ((q : Pulled) → pulled s rest ≡ Some q → IsPulled s rest q) → IsPulled s (d ∷ rest) p
    go true e h o is more =
        let first : Pulled = record { before = []; decision = d; behind = rest } in
        let same : first ≡ p = cc in
        subst (IsPulled s (d ∷ rest)) same (record { whole = refl; session = eqb-true d.entry.session s e })
    go false e h (Some q) is more =
        let r = more q is in
        let both : Some (behind_one d q) ≡ Some p = ap (option_map (behind_one d)) (sym is) ∙ h in
        let same : behind_one d q ≡ p = cc in
        subst (IsPulled s (d ∷ rest)) same (record { whole = ap (λ (xs : List Decided). d ∷ xs) r.whole; session = r.session })
    go false e h None is more = absurd (let both : None ≡ Some p = ap (option_map (behind_one d)) (sym is) ∙ h in cc)

-- the log of a stripe without those of other stripes
none-of : (k : ℕ) (xs : List Decided) → list_any (λ d. stripe_of d.entry.parts == k) xs ≡ false → logs_of xs k ≡ []
none-of k [] h = refl
none-of k (x ∷ xs) h =
    let p = or_parts (stripe_of x.entry.parts == k) (list_any (λ d. stripe_of d.entry.parts == k) xs) h in
    ap (λ b. cond b (x ∷ logs_of xs k) (logs_of xs k)) p.0 ∙ none-of k xs p.1

-- the first of its stripe goes in front
front-of : (k : ℕ) (before : List Decided) (d : Decided) (behind : List Decided) → list_any (λ x. stripe_of x.entry.parts == stripe_of d.entry.parts) before ≡ false
    → logs_of (before ++ d ∷ behind) k ≡ logs_of (d ∷ (before ++ behind)) k
front-of k before d behind free = go (stripe_of d.entry.parts == k) refl
  where
    test : Decided → Bool
    test x = stripe_of x.entry.parts == k

    go : (b : Bool) → (stripe_of d.entry.parts == k) ≡ b → logs_of (before ++ d ∷ behind) k ≡ logs_of (d ∷ (before ++ behind)) k
    go true e =
        let none : logs_of before k ≡ [] = none-of k before (subst (λ (n : ℕ). list_any (λ x. stripe_of x.entry.parts == n) before ≡ false) (eqb-true (stripe_of d.entry.parts) k e) free) in
        filter-append (λ x. stripe_of x.entry.parts == k) before (d ∷ behind)
        ∙ ap (λ (xs : List Decided). xs ++ logs_of (d ∷ behind) k) none
        ∙ ap (λ b. cond b (d ∷ logs_of behind k) (logs_of behind k)) e
        ∙ ap (λ (xs : List Decided). d ∷ (xs ++ logs_of behind k)) (sym none)
        ∙ ap (λ (xs : List Decided). d ∷ xs) (sym (filter-append (λ x. stripe_of x.entry.parts == k) before behind))
        ∙ sym (ap (λ b. cond b (d ∷ logs_of (before ++ behind) k) (logs_of (before ++ behind) k)) e)
    go false e =
        filter-append (λ x. stripe_of x.entry.parts == k) before (d ∷ behind)
        ∙ ap (λ (b : Bool). logs_of before k ++ cond b (d ∷ logs_of behind k) (logs_of behind k)) e
        ∙ sym (filter-append (λ x. stripe_of x.entry.parts == k) before behind)
        ∙ sym (ap (λ b. cond b (d ∷ logs_of (before ++ behind) k) (logs_of (before ++ behind) k)) e)

-- A merge

-- decisions in this order of sessions, with the logs of the rest
pub record IsMerge (order : List ℕ) (rest merged : List Decided) : Type 0 where
  pub sessions : map (λ d. d.entry.session) merged ≡ order
  pub logs : (k : ℕ) → logs_of merged k ≡ logs_of rest k

-- one decision more in front
logs-cons : (k : ℕ) (d : Decided) (xs ys : List Decided) → logs_of xs k ≡ logs_of ys k → logs_of (d ∷ xs) k ≡ logs_of (d ∷ ys) k
logs-cons k d xs ys same = ap (λ (zs : List Decided). cond (stripe_of d.entry.parts == k) (d ∷ zs) zs) same

pub merge-sound : (order : List ℕ) (rest merged : List Decided) → merge_of order rest ≡ Some merged → IsMerge order rest merged
unfolding merge_of
merge-sound [] [] merged h = let same : [] ≡ merged = cc in subst (IsMerge [] []) same (record { sessions = refl; logs = λ k. refl })
merge-sound [] (d ∷ rest) merged h = absurd (cc)
merge-sound (s ∷ order) rest merged h = by_pulled (pulled s rest) refl h (λ more out e. merge-sound order more out e)
  where
    by_merged : (p : Pulled) → IsPulled s rest p → is_first p ≡ true → (o : Option (List Decided)) → merge_of order (p.before ++ p.behind) ≡ o
        → option_map (λ out. p.decision ∷ out) o ≡ Some merged → ((more out : List Decided) → merge_of order more ≡ Some out → IsMerge order more out) → IsMerge (s ∷ order) rest merged
    by_merged p pulled_is first None is e more = absurd (cc)
    by_merged p pulled_is first (Some out) is e more =
        let same : p.decision ∷ out ≡ merged = cc in
        let r = more (p.before ++ p.behind) out is in
        let free = not-true (list_any (λ d. stripe_of d.entry.parts == stripe_of p.decision.entry.parts) p.before) first in
        subst (IsMerge (s ∷ order) rest) same (record {
          sessions = ap (λ (n : ℕ). n ∷ map (λ d. d.entry.session) out) pulled_is.session ∙ ap (λ (ns : List ℕ). s ∷ ns) r.sessions;
          logs = λ k. logs-cons k p.decision out (p.before ++ p.behind) (r.logs k) ∙ sym (front-of k p.before p.decision p.behind free)
              ∙ ap (λ (xs : List Decided). logs_of xs k) (sym pulled_is.whole);
        })

    by_first : (p : Pulled) → IsPulled s rest p → (b : Bool) → is_first p ≡ b
        → ◌≡◌ {A = Option (List Decided)} (if b then option_map (λ out. p.decision ∷ out) (merge_of order (p.before ++ p.behind)) else None) (Some merged)
        → ((more out : List Decided) → merge_of order more ≡ Some out → IsMerge order more out) → IsMerge (s ∷ order) rest merged
    by_first p pulled_is true first e more = by_merged p pulled_is first (merge_of order (p.before ++ p.behind)) refl e more
    by_first p pulled_is false first e more = absurd (cc)

    by_pulled : (o : Option Pulled) → pulled s rest ≡ o
        → ◌≡◌ {A = Option (List Decided)} (option_and_then (λ p. if is_first p then option_map (λ out. p.decision ∷ out) (merge_of order (p.before ++ p.behind)) else None) o) (Some merged)
        → ((more out : List Decided) → merge_of order more ≡ Some out → IsMerge order more out) → IsMerge (s ∷ order) rest merged
    by_pulled (Some p) is e more = by_first p (pulled-is s rest p is) (is_first p) refl e more
    by_pulled None is e more = absurd (cc)

-- Where there is a merge

-- no decision is of session s
unfoldable pub Lacks : ℕ → List Decided → Type 0
Lacks s [] = Unit {0}
Lacks s (d ∷ rest) = (d.entry.session ≢ s) × Lacks s rest

-- no two decisions are of one session
unfoldable pub Apart : List Decided → Type 0
Apart [] = Unit {0}
Apart (d ∷ rest) = Lacks d.entry.session rest × Apart rest

lacks-from : (s : ℕ) (xs : List Decided) → ((i : ℕ) (x : Decided) → slice_get xs i ≡ Some x → s ≢ x.entry.session) → Lacks s xs
unfolding Lacks
lacks-from s [] h = tt
lacks-from s (x ∷ xs) h = (λ e. h 0 x refl (sym e), lacks-from s xs (λ i y at. h (suc i) y at))

pub apart : (xs : List Decided) → NoTwo xs → Apart xs
unfolding Apart
apart [] h = tt
apart (x ∷ xs) h =
    (lacks-from x.entry.session xs (λ i y at. h 0 (suc i) x y (omega arith) refl at), apart xs (λ i j a b less one two. h (suc i) (suc j) a b (omega arith) one two))

lacks-without : (s : ℕ) (before : List Decided) (d : Decided) (behind : List Decided) → Lacks s (before ++ d ∷ behind) → Lacks s (before ++ behind)
unfolding Lacks
lacks-without s [] d behind h = h.1
lacks-without s (x ∷ before) d behind h = (h.0, lacks-without s before d behind h.1)

apart-without : (before : List Decided) (d : Decided) (behind : List Decided) → Apart (before ++ d ∷ behind) → Apart (before ++ behind)
unfolding Apart
apart-without [] d behind h = h.1
apart-without (x ∷ before) d behind h = (lacks-without x.entry.session before d behind h.0, apart-without before d behind h.1)

lacks-middle : (s : ℕ) (before : List Decided) (d : Decided) (behind : List Decided) → Lacks s (before ++ d ∷ behind) → d.entry.session ≢ s
unfolding Lacks
lacks-middle s [] d behind h = h.0
lacks-middle s (x ∷ before) d behind h = lacks-middle s before d behind h.1

-- the one decision of its session is pulled
pulled-one : (before : List Decided) (d : Decided) (behind : List Decided) → Apart (before ++ d ∷ behind)
    → pulled d.entry.session (before ++ d ∷ behind) ≡ Some (record { before = before; decision = d; behind = behind })
unfolding pulled Apart
pulled-one [] d behind h = ap (λ b. if b then Some (record { before = []; decision = d; behind = behind }) else option_map (behind_one d) (pulled d.entry.session behind)) (eq-eqb d.entry.session d.entry.session refl)
pulled-one (x ∷ before) d behind h =
    let other : (x.entry.session == d.entry.session) ≡ false = ne_eqb x.entry.session d.entry.session (λ e. lacks-middle x.entry.session before d behind h.0 (sym e)) in
    ap (λ b. if b then Some (record { before = []; decision = x; behind = before ++ d ∷ behind }) else option_map (behind_one x) (pulled d.entry.session (before ++ d ∷ behind))) other
    ∙ ap (option_map (behind_one x)) (pulled-one before d behind h.1)

-- the first decision of a log
record IsFirstIn (k : ℕ) (rest : List Decided) (d : Decided) : Type 0 where
  pub before : List Decided
  pub behind : List Decided
  pub whole : rest ≡ before ++ d ∷ behind
  pub free : list_any (λ x. stripe_of x.entry.parts == k) before ≡ false

first-in : (k : ℕ) (rest more : List Decided) (d : Decided) → logs_of rest k ≡ d ∷ more → IsFirstIn k rest d
first-in k [] more d h = absurd (cc)
first-in k (x ∷ rest) more d h = go (stripe_of x.entry.parts == k) refl h (λ e. first-in k rest more d e)
  where
    go : (b : Bool) → (stripe_of x.entry.parts == k) ≡ b → cond b (x ∷ logs_of rest k) (logs_of rest k) ≡ d ∷ more → (logs_of rest k ≡ d ∷ more → IsFirstIn k rest d)
        → IsFirstIn k (x ∷ rest) d
    go true e h next = let same : x ≡ d = cc in record { before = []; behind = rest; whole = ap (λ (y : Decided). y ∷ rest) same; free = refl }
    go false e h next =
        let r = next h in
        record {
          before = x ∷ r.before;
          behind = r.behind;
          whole = ap (λ (xs : List Decided). x ∷ xs) r.whole;
          free = ap (λ b. b || list_any (λ y. stripe_of y.entry.parts == k) r.before) e ∙ r.free;
        }

-- where all logs are empty there is no decision
no-logs : (rest : List Decided) → ((k : ℕ) → logs_of rest k ≡ []) → rest ≡ []
no-logs [] h = refl
no-logs (x ∷ rest) h =
    let k : ℕ = stripe_of x.entry.parts in
    let e : x ∷ logs_of rest k ≡ [] = sym (ap (λ b. cond b (x ∷ logs_of rest k) (logs_of rest k)) (eq-eqb k k refl)) ∙ h k in absurd (cc)

-- logs with the same decision in front
logs-cancel : (k : ℕ) (d : Decided) (xs ys : List Decided) → logs_of (d ∷ xs) k ≡ logs_of (d ∷ ys) k → logs_of xs k ≡ logs_of ys k
logs-cancel k d xs ys h = go (stripe_of d.entry.parts == k) h
  where
    go : (b : Bool) → cond b (d ∷ logs_of xs k) (logs_of xs k) ≡ cond b (d ∷ logs_of ys k) (logs_of ys k) → logs_of xs k ≡ logs_of ys k
    go true e = cc
    go false e = e

pub merge-complete : (order : List ℕ) (rest merged : List Decided) → Apart rest → IsMerge order rest merged → merge_of order rest ≡ Some merged
unfolding merge_of
merge-complete [] rest [] apart_rest m =
    let none : rest ≡ [] = no-logs rest (λ k. sym (m.logs k)) in
    ap (merge_of []) none
merge-complete [] rest (d ∷ merged) apart_rest m = absurd (let e = m.sessions in cc)
merge-complete (s ∷ order) rest [] apart_rest m = absurd (let e = m.sessions in cc)
merge-complete (s ∷ order) rest (d ∷ merged) apart_rest m =
    let k : ℕ = stripe_of d.entry.parts in
    let own : d.entry.session ≡ s = (let e = m.sessions in cc) in
    let others : map (λ x. x.entry.session) merged ≡ order = (let e = m.sessions in cc) in
    let r = first-in k rest (logs_of merged k) d (sym (m.logs k) ∙ ap (λ b. cond b (d ∷ logs_of merged k) (logs_of merged k)) (eq-eqb k k refl)) in
    let apart_whole : Apart (r.before ++ d ∷ r.behind) = subst Apart r.whole apart_rest in
    let p : Pulled = record { before = r.before; decision = d; behind = r.behind } in
    let pulled_is : pulled s rest ≡ Some p = ap (λ (n : ℕ). pulled n rest) (sym own) ∙ ap (pulled d.entry.session) r.whole ∙ pulled-one r.before d r.behind apart_whole in
    let first : is_first p ≡ true = ap not r.free in
    let rest_is : IsMerge order (r.before ++ r.behind) merged = record {
      sessions = others;
      logs = λ n. logs-cancel n d merged (r.before ++ r.behind)
          (m.logs n ∙ ap (λ (xs : List Decided). logs_of xs n) r.whole ∙ front-of n r.before d r.behind r.free);
    } in
    let next = merge-complete order (r.before ++ r.behind) merged (apart-without r.before d r.behind apart_whole) rest_is in
    ap (option_and_then (λ q. if is_first q then option_map (λ out. q.decision ∷ out) (merge_of order (q.before ++ q.behind)) else None)) pulled_is
    ∙ ap (λ b. if b then option_map (λ out. d ∷ out) (merge_of order (r.before ++ r.behind)) else None) first
    ∙ ap (option_map (λ out. d ∷ out)) next
