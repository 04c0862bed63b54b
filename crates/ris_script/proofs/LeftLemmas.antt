-- How the records that a reader has left follow from one read to the next.
use Rattle.std.proofs.Common.{◌≡◌, ◌<◌, ◌≤◌, ◌+◌, ◌⊎◌, inl, inr, ℕ, zero, suc, Bool, true, false, List, [], ◌∷◌, ◌++◌, Option, Some, None, length, arith, refl, ap, sym, ◌∙◌, if◌then◌else◌, Bor, IsSome, add-one}
use Rattle.std.specs.Bool.{MatchBool}
use Rattle.std.proofs.lemmas.Bool.{false≢true}
use Rattle.csv.specs.Machine.{Read, ends_at_end, field_after, fields_after, is_end, next_record, step}
use Rattle.csv.specs.Reading.{NextIs, ReadRecord, ReadsNext, default_config, is_bom, pending_of, reader_state, records, records_from, records_next, strip_bom}
use Rattle.csv.specs.declared.parser.Config.{Config}
use Rattle.csv.specs.declared.parser.State.{State}
use Rattle.csv.specs.declared.parser.State.TheVariants as st
use Rattle.csv.specs.declared.reader.Reader.{Reader}
use Rattle.ris_script.specs.Left.{GivesRecords, bytes_left, records_left, records_of_rest}

-- a record takes a byte, or ends the text
abbrev GoesOn : Read → ℕ → Type 0
GoesOn p size = ((p.1 ≡ st.StartRecord) × (p.2 ≡ [])) ⊎ (length p.2 < size)

goes-on_more : (p : Read) (m n : ℕ) → m < n → GoesOn p m → GoesOn p n
goes-on_more p m n h (inl e) = inl e
goes-on_more p m n h (inr e) = inr (omega (arith, e))

next-goes_on : (cfg : Config) (s : State) (fields : List (List ℕ)) (field xs : List ℕ) (p : Read)
    → next_record cfg s fields field xs ≡ Some p → GoesOn p (length xs)
unfolding next_record
next-goes_on cfg s fields field [] p h = at (ends_at_end s) h
  where
    at : (b : Bool) → (if b then Some (fields ++ (field ∷ []), st.StartRecord, []) else None) ≡ Some p → GoesOn p 0
    at true e = inl (cc e, cc e)
    at false e = cc e
next-goes_on cfg s fields field (c ∷ rest) p h = by (is_end (step cfg s c).1) refl h (next-goes_on cfg (step cfg s c).0 (fields_after (step cfg s c).1 fields field) (field_after (step cfg s c).1 c field) rest p)
  where
    by : (b : Bool) → is_end (step cfg s c).1 ≡ b
        → (if b then Some (fields_after (step cfg s c).1 fields field, (step cfg s c).0, rest)
        else next_record cfg (step cfg s c).0 (fields_after (step cfg s c).1 fields field) (field_after (step cfg s c).1 c field) rest) ≡ Some p
        → (next_record cfg (step cfg s c).0 (fields_after (step cfg s c).1 fields field) (field_after (step cfg s c).1 c field) rest ≡ Some p → GoesOn p (length rest))
        → GoesOn p (suc (length rest))
    by true e q more = let same : p.2 ≡ rest = cc q in inr (rw same (omega arith))
    by false e q more = goes-on_more p (length rest) (suc (length rest)) (omega arith) (more q)

-- no bytes at the start of a record spell no record
none-left : (cfg : Config) (n : ℕ) → records_from cfg n st.StartRecord [] ≡ []
unfolding records_from next_record
none-left cfg zero = refl
none-left cfg (suc n) = refl

-- more turns than bytes are enough
records-enough : (cfg : Config) (m n : ℕ) (s : State) (xs : List ℕ) → length xs < m → length xs < n → records_from cfg m s xs ≡ records_from cfg n s xs
unfolding records_from
records-enough cfg zero n s xs h k = absurd (omega arith)
records-enough cfg (suc m) zero s xs h k = absurd (omega arith)
records-enough cfg (suc m) (suc n) s xs h k = by (next_record cfg s [] [] xs) refl (λ p. records-enough cfg m n p.1 p.2)
  where
    rest : (p : Read) → GoesOn p (length xs) → (length p.2 < m → length p.2 < n → records_from cfg m p.1 p.2 ≡ records_from cfg n p.1 p.2)
        → records_from cfg m p.1 p.2 ≡ records_from cfg n p.1 p.2
    rest p (inl g) more = rw (g.0, g.1) (none-left cfg m ∙ sym (none-left cfg n))
    rest p (inr g) more = more (omega arith) (omega arith)

    by : (o : Option Read) → next_record cfg s [] [] xs ≡ o
        → ((p : Read) → length p.2 < m → length p.2 < n → records_from cfg m p.1 p.2 ≡ records_from cfg n p.1 p.2)
        → records_next (records_from cfg m) o ≡ records_next (records_from cfg n) o
    by None e more = refl
    by (Some p) e more = ap (λ (t : List (List (List ℕ))). p.0 ∷ t) (rest p (next-goes_on cfg s [] [] xs p e) (more p))

-- a read that found a record took the first of those that are left
found-left : (s s2 : State) (xs zs : List ℕ) (o : Option Read) (f : List (List ℕ)) → next_record default_config s [] [] xs ≡ o → NextIs o true f s2 zs
    → records_of_rest s (Some xs) ≡ f ∷ records_of_rest s2 (Some zs)
unfolding records_of_rest records_from
found-left s s2 xs zs None f e n = absurd (false≢true (sym n))
found-left s s2 xs zs (Some p) f e n =
    rw (add-one (length xs), e, n.1, n.2, n.3) (ap (λ (t : List (List (List ℕ))). p.0 ∷ t) (rest (next-goes_on default_config s [] [] xs p e)))
  where
    rest : GoesOn p (length xs) → records_from default_config (length xs) p.1 p.2 ≡ records_from default_config (length p.2 + 1) p.1 p.2
    rest (inl g) = rw (g.0, g.1) (none-left default_config (length xs) ∙ sym (none-left default_config 1))
    rest (inr g) = records-enough default_config (length xs) (length p.2 + 1) p.1 p.2 g (omega arith)

-- a read that found none is at the end
none-found : (s s2 : State) (xs zs : List ℕ) (o : Option Read) (f : List (List ℕ)) → next_record default_config s [] [] xs ≡ o → NextIs o false f s2 zs
    → records_of_rest s (Some xs) ≡ []
unfolding records_of_rest records_from
none-found s s2 xs zs None f e n = rw (add-one (length xs), e) refl
none-found s s2 xs zs (Some p) f e n = absurd (false≢true n.0)

reads-left : (s s2 : State) (xs : List ℕ) (k : Option (List ℕ)) (found : Bool) (f : List (List ℕ)) → ReadsNext default_config s (Some xs) k found f s2
    → MatchBool found (records_of_rest s (Some xs) ≡ f ∷ records_of_rest s2 k) (records_of_rest s (Some xs) ≡ []) × IsSome k
reads-left s s2 xs None found f h = absurd h
reads-left s s2 xs (Some zs) true f h = (found-left s s2 xs zs _ f refl h, refl)
reads-left s s2 xs (Some zs) false f h = (none-found s s2 xs zs _ f refl h, refl)

reads-known : (s s2 : State) (o k : Option (List ℕ)) (found : Bool) (f : List (List ℕ)) → IsSome o → ReadsNext default_config s o k found f s2
    → MatchBool found (records_of_rest s o ≡ f ∷ records_of_rest s2 k) (records_of_rest s o ≡ []) × IsSome k
reads-known s s2 None k found f h r = absurd (false≢true h)
reads-known s s2 (Some xs) k found f h r = reads-left s s2 xs k found f r

-- what a read of a reader that gives records does to the records that are left
pub read-left : (a b : Reader (Bor (List ℕ))) (found : Bool) (f : List (List ℕ)) → GivesRecords a → ReadRecord (λ s. Some s.now) a b found f
    → MatchBool found (records_left a ≡ f ∷ records_left b) (records_left a ≡ []) × IsSome (bytes_left b)
read-left a b found f given r =
    let step = reads-known a.state b.state (bytes_left a) (pending_of (Some b.rdr.now) b) found f given.known (rw given.plain at r.0) in
    rw r.1 step

-- what a reader has left at the start of a text
pub start-left : (reader : Reader (Bor (List ℕ))) (bytes : List ℕ) → reader_state reader ≡ st.StartRecord → bytes_left reader ≡ Some (strip_bom bytes)
    → records_left reader ≡ records default_config (strip_bom bytes)
unfolding records_of_rest
start-left reader bytes s b = rw (s, b) refl

-- no more records than turns
records-few : (cfg : Config) (n : ℕ) (s : State) (xs : List ℕ) → length (records_from cfg n s xs) ≤ n
unfolding records_from
records-few cfg zero s xs = omega arith
records-few cfg (suc n) s xs = by (next_record cfg s [] [] xs) (λ p. records-few cfg n p.1 p.2)
  where
    by : (o : Option Read) → ((p : Read) → length (records_from cfg n p.1 p.2) ≤ n) → length (records_next (records_from cfg n) o) ≤ suc n
    by None more = omega arith
    by (Some p) more = let few = more p in omega arith

strip-less : (xs : List ℕ) → length (strip_bom xs) ≤ length xs
unfolding strip_bom
strip-less [] = omega arith
strip-less (a ∷ []) = omega arith
strip-less (a ∷ b ∷ []) = omega arith
strip-less (a ∷ b ∷ c ∷ rest) = by (is_bom a b c)
  where
    by : (t : Bool) → length (if t then rest else a ∷ b ∷ c ∷ rest) ≤ suc (suc (suc (length rest)))
    by true = omega arith
    by false = omega arith

-- a text has at most one record more than bytes
pub records-bound : (bytes : List ℕ) → length (records default_config (strip_bom bytes)) ≤ length bytes + 1
records-bound bytes =
    let few = records-few default_config (length (strip_bom bytes) + 1) st.StartRecord (strip_bom bytes) in
    let less = strip-less bytes in
    omega arith
