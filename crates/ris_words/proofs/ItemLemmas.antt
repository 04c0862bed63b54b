-- A list of analyses is read exactly.
use Rattle.std.proofs.Common.{◌≡◌, ℕ, zero, suc, ◌-◌, ◌<◌, ◌≤◌, Bool, true, false, ◌==◌, ◌&&◌, List, [], ◌∷◌, ◌++◌, length, take, drop, Option, Some, None, is_some, option_map, refl, sym, ap, ◌∙◌, subst, arith, codes, nat_le, append_assoc}
use Rattle.std.specs.List.{join_with_byte, list_all}
use Rattle.std.specs.Str.{bytes_eq}
use Rattle.std.proofs.lemmas.Bool.Decides.{nat_tests}
use Rattle.std.proofs.lemmas.Slice.Eq.{bytes_eq-Decides}
use Rattle.ris_base.specs.CommandLine.{analysis_named, rooted, IsAnalysisList}
use Rattle.ris_base.specs.Lists.{EachPair}
use Rattle.ris_base.specs.Number.{is_digit, number_of}
use Rattle.ris_base.specs.Script.{Bytes}
use Rattle.ris_base.proofs.NumberLemmas.{number_of-empty, number_of-other}
use Rattle.ris_base.specs.declared.analyses.Kind.{Kind}
use Rattle.ris_base.specs.declared.analyses.Kind.TheVariants.{Bfs, Sssp, Sswp}
use Rattle.std.proofs.lemmas.List.{take-append-drop}
use Rattle.ris_base.specs.declared.analyses.Spec.{Spec}
use Rattle.ris_words.specs.Items.{cut_at, with_first, specs_cut, specs_within}
use Rattle.ris_words.proofs.Cuts.{Lacks, cut_at-without, cut_at-first, cut_at-gives}

-- no item, and one item or more
pub within-none : (word : Bytes) → specs_within 0 word ≡ None
unfolding specs_within
within-none word = refl

-- one item or more, by how the word is cut
within-more : (n : ℕ) (word : Bytes) → 0 < n → specs_within n word ≡ specs_cut word (cut_at 44 word) (specs_within (n - 1))
unfolding specs_within
within-more zero word some = absurd (omega arith)
within-more (suc n) word some = let less : suc n - 1 ≡ n = omega arith in rw less refl

-- there are analyses where the first item says one and so does each behind it
is_some-with_first : (first : Option Spec) (rest : Option (List Spec)) → is_some (with_first first rest) ≡ (is_some first && is_some rest)
is_some-with_first None rest = refl
is_some-with_first (Some spec) None = refl
is_some-with_first (Some spec) (Some specs) = refl

-- a word without a comma, as a test
pub test-one : (n : ℕ) (word : Bytes) → 0 < n → cut_at 44 word ≡ None → is_some (specs_within n word) ≡ is_some (analysis_named word)
test-one n word some cut = rw (within-more n word some, cut, is_some-with_first (analysis_named word) (Some [])) (and-true (is_some (analysis_named word)))
  where
    and-true : (b : Bool) → (b && true) ≡ b
    and-true true = refl
    and-true false = refl

-- a word with a comma
pub test-more : (n : ℕ) (word item behind : Bytes) → 0 < n → cut_at 44 word ≡ Some (item, behind)
    → is_some (specs_within n word) ≡ (is_some (analysis_named item) && is_some (specs_within (n - 1) behind))
test-more n word item behind some cut = rw (within-more n word some, cut) (is_some-with_first (analysis_named item) (specs_within (n - 1) behind))

-- the analysis of a word without a comma behind others
pub push-one : (n : ℕ) (word : Bytes) (old new : List Spec) → 0 < n → cut_at 44 word ≡ None
    → option_map (λ spec. old ++ spec ∷ []) (analysis_named word) ≡ Some new → option_map (λ more. old ++ more) (specs_within n word) ≡ Some new
push-one n word old new some cut pushed = rw (within-more n word some, cut) (go (analysis_named word) pushed)
  where
    go : (o : Option Spec) → option_map (λ spec. old ++ spec ∷ []) o ≡ Some new → option_map (λ more. old ++ more) (with_first o (Some [])) ≡ Some new
    go None is = cc
    go (Some spec) is = is

-- the analysis of the first item, and then the others
pub push-more : (n : ℕ) (word item behind : Bytes) (old mid new : List Spec) → 0 < n → cut_at 44 word ≡ Some (item, behind)
    → option_map (λ spec. old ++ spec ∷ []) (analysis_named item) ≡ Some mid → option_map (λ more. mid ++ more) (specs_within (n - 1) behind) ≡ Some new
    → option_map (λ more. old ++ more) (specs_within n word) ≡ Some new
push-more n word item behind old mid new some cut first rest = rw (within-more n word some, cut) (go (analysis_named item) (specs_within (n - 1) behind) first rest)
  where
    go : (o : Option Spec) (others : Option (List Spec)) → option_map (λ spec. old ++ spec ∷ []) o ≡ Some mid → option_map (λ more. mid ++ more) others ≡ Some new
        → option_map (λ more. old ++ more) (with_first o others) ≡ Some new
    go None others one two = cc
    go (Some spec) None one two = cc
    go (Some spec) (Some specs) one two =
        let mid_is : old ++ spec ∷ [] ≡ mid = cc in
        let new_is : mid ++ specs ≡ new = cc in
        ap Some (sym (append_assoc old (spec ∷ []) specs) ∙ ap (λ (xs : List Spec). xs ++ specs) mid_is ∙ new_is)

-- a word that says analyses has an item
pub some-within : (n : ℕ) (word : Bytes) → is_some (specs_within n word) ≡ true → 0 < n
unfolding specs_within
some-within zero word is = cc
some-within (suc n) word is = omega arith

-- What is read is a list

-- the items of a word, which say these analyses
pub record IsNamed (word : Bytes) (specs : List Spec) (most : ℕ) : Type 0 where
  pub items : List Bytes
  pub joined : word ≡ join_with_byte 44 items
  pub named : EachPair (λ item spec. analysis_named item ≡ Some spec) items specs
  pub some : 1 ≤ length specs
  pub few : length specs ≤ most

-- lists that are paired have one length
pairs-length : {X Y : Type 0} (R : X → Y → Type 0) (xs : List X) (ys : List Y) → EachPair R xs ys → length xs ≡ length ys
pairs-length R [] [] pairs = refl
pairs-length R [] (y ∷ ys) pairs = absurd pairs
pairs-length R (x ∷ xs) [] pairs = absurd pairs
pairs-length R (x ∷ xs) (y ∷ ys) pairs = ap suc (pairs-length R xs ys pairs.1)

-- an item and a comma in front of other items
join-more : (item : Bytes) (items : List Bytes) → 1 ≤ length items → item ++ 44 ∷ join_with_byte 44 items ≡ join_with_byte 44 (item ∷ items)
join-more item [] some = absurd (omega arith)
join-more item (next ∷ items) some = refl

-- a word without a comma has one item
one_named : (n : ℕ) (word : Bytes) (specs : List Spec) (first : Option Spec) → first ≡ analysis_named word → with_first first (Some []) ≡ Some specs → IsNamed word specs (suc n)
one_named n word specs None is said = cc
one_named n word specs (Some spec) is said =
    let same : spec ∷ [] ≡ specs = cc in
    rw (← same) (record { items = word ∷ []; joined = refl; named = (sym is, tt); some = omega arith; few = omega arith })

-- a word with a comma has the items behind it, and one more
more_named : (n : ℕ) (word item behind : Bytes) (specs : List Spec) (first : Option Spec) (rest : Option (List Spec)) → first ≡ analysis_named item
    → word ≡ item ++ 44 ∷ behind → ((others : List Spec) → rest ≡ Some others → IsNamed behind others n) → with_first first rest ≡ Some specs → IsNamed word specs (suc n)
more_named n word item behind specs None rest is joined others said = cc
more_named n word item behind specs (Some spec) None is joined others said = cc
more_named n word item behind specs (Some spec) (Some ss) is joined others said =
    let same : spec ∷ ss ≡ specs = cc in
    let more = others ss refl in
    let few = more.few in
    let some = more.some in
    let many = pairs-length _ more.items ss more.named in
    rw (← same) (record {
      items = item ∷ more.items;
      joined = joined ∙ ap (λ (t : Bytes). item ++ 44 ∷ t) more.joined ∙ join-more item more.items (omega arith);
      named = (sym is, more.named);
      some = omega arith;
      few = omega arith;
    })

-- what is read of a word are its items
pub within-named : (n : ℕ) (word : Bytes) (specs : List Spec) → specs_within n word ≡ Some specs → IsNamed word specs n
unfolding specs_within
within-named zero word specs said = cc
within-named (suc n) word specs said = go (cut_at 44 word) refl said (λ behind others is. within-named n behind others is)
  where
    go : (cut : Option (Bytes × Bytes)) → cut_at 44 word ≡ cut → specs_cut word (cut_at 44 word) (specs_within n) ≡ Some specs
        → ((behind : Bytes) (others : List Spec) → specs_within n behind ≡ Some others → IsNamed behind others n) → IsNamed word specs (suc n)
    go None found is rest = one_named n word specs (analysis_named word) refl (rw found at is)
    go (Some p) found is rest =
        let given = cut_at-gives 44 word p.0 p.1 found in
        more_named n word p.0 p.1 specs (analysis_named p.0) (specs_within n p.1) refl given.0 (rest p.1) (rw found at is)

-- A list is what is read

-- where two hold, each does
pub both : (a b : Bool) → (a && b) ≡ true → (a ≡ true) × (b ≡ true)
both true true is = (refl, refl)
both true false is = cc
both false b is = cc

-- no digit is a comma, so no item has one
digits-lack : (digits : Bytes) → list_all is_digit digits ≡ true → Lacks 44 digits
digits-lack [] all = tt
digits-lack (d ∷ ds) all =
    let parts = both (is_digit d) (list_all is_digit ds) all in
    let least = (both (nat_le 48 d) (nat_le d 57) parts.0).0 in
    (grind (arith, nat_tests), digits-lack ds parts.1)

-- two words without a byte, joined
append-lack : (c : ℕ) (xs ys : Bytes) → Lacks c xs → Lacks c ys → Lacks c (xs ++ ys)
append-lack c [] ys one two = two
append-lack c (x ∷ xs) ys one two = (one.0, append-lack c xs ys one.1 two)

-- a number has digits alone
number-digits : (digits : Bytes) (n : ℕ) → number_of digits ≡ Some n → list_all is_digit digits ≡ true
number-digits digits n is = go (list_all is_digit digits) refl
  where
    go : (t : Bool) → list_all is_digit digits ≡ t → list_all is_digit digits ≡ true
    go true e = e
    go false e = let none = number_of-other digits e in cc

-- a root has no comma
rooted-lack : (kind : Kind) (digits : Bytes) (spec : Spec) → rooted kind digits ≡ Some spec → Lacks 44 digits
rooted-lack kind digits spec is = go (nat_le (length digits) 7) refl (number_of digits) refl
  where
    go : (t : Bool) → nat_le (length digits) 7 ≡ t → (o : Option ℕ) → number_of digits ≡ o → Lacks 44 digits
    go false e o found = let none = rw e at is in cc
    go true e None found = let none = rw (e, found) at is in cc
    go true e (Some n) found = digits-lack digits (number-digits digits n found)

-- a prefix without a comma, and a root behind it
prefixed : (n : ℕ) (prefix item : Bytes) (kind : Kind) (spec : Spec) → bytes_eq (take n item) prefix ≡ true → Lacks 44 prefix → rooted kind (drop n item) ≡ Some spec
    → Lacks 44 item
prefixed n prefix item kind spec begins lacks is =
    let front : take n item ≡ prefix = (bytes_eq-Decides (take n item) prefix).0 begins in
    let whole : prefix ++ drop n item ≡ item = ap (λ (t : Bytes). t ++ drop n item) (sym front) ∙ take-append-drop n item in
    subst (Lacks 44) whole (append-lack 44 prefix (drop n item) lacks (rooted-lack kind (drop n item) spec is))

-- `wcc` has no comma
lacks-word : (item : Bytes) → bytes_eq item (codes "wcc") ≡ true → Lacks 44 item
lacks-word item is = subst (Lacks 44) (sym ((bytes_eq-Decides item (codes "wcc")).0 is)) (refl, (refl, (refl, tt)))

-- no item has a comma
pub named-lack : (item : Bytes) (spec : Spec) → analysis_named item ≡ Some spec → Lacks 44 item
unfolding analysis_named
named-lack item spec is =
    go (bytes_eq item (codes "wcc")) refl (bytes_eq (take 4 item) (codes "bfs:")) refl (bytes_eq (take 5 item) (codes "sssp:")) refl
    (bytes_eq (take 5 item) (codes "sswp:")) refl
  where
    go : (w : Bool) → bytes_eq item (codes "wcc") ≡ w → (b : Bool) → bytes_eq (take 4 item) (codes "bfs:") ≡ b
        → (p : Bool) → bytes_eq (take 5 item) (codes "sssp:") ≡ p → (q : Bool) → bytes_eq (take 5 item) (codes "sswp:") ≡ q → Lacks 44 item
    go true w b e2 p e3 q e4 = lacks-word item w
    go false w true b p e3 q e4 = prefixed 4 (codes "bfs:") item Bfs spec b (refl, (refl, (refl, (refl, tt)))) (rw (w, b) at is)
    go false w false b true p q e4 = prefixed 5 (codes "sssp:") item Sssp spec p (refl, (refl, (refl, (refl, (refl, tt))))) (rw (w, b, p) at is)
    go false w false b false p true q = prefixed 5 (codes "sswp:") item Sswp spec q (refl, (refl, (refl, (refl, (refl, tt))))) (rw (w, b, p, q) at is)
    go false w false b false p false q = let none = rw (w, b, p, q) at is in cc

-- items that say analyses are read so
pub named-within : (n : ℕ) (items : List Bytes) (specs : List Spec) → EachPair (λ item spec. analysis_named item ≡ Some spec) items specs
    → 1 ≤ length specs → length specs ≤ n → specs_within n (join_with_byte 44 items) ≡ Some specs
unfolding specs_within
named-within n items [] named some few = absurd (omega arith)
named-within zero items (spec ∷ specs) named some few = absurd (omega arith)
named-within (suc n) [] (spec ∷ specs) named some few = absurd named
named-within (suc n) (item ∷ []) (spec ∷ []) named some few = rw (cut_at-without 44 item (named-lack item spec named.0), named.0) refl
named-within (suc n) (item ∷ []) (spec ∷ next ∷ specs) named some few = absurd named.1
named-within (suc n) (item ∷ next ∷ items) (spec ∷ []) named some few = absurd named.1
named-within (suc n) (item ∷ next ∷ items) (spec ∷ more ∷ specs) named some few =
    let rest = named-within n (next ∷ items) (more ∷ specs) named.1 (omega arith) (omega arith) in
    rw (cut_at-first 44 item (join_with_byte 44 (next ∷ items)) (named-lack item spec named.0), named.0, rest) refl

-- what is read of a word is what it says
pub read_list : (word : Bytes) (specs : List Spec) → specs_within 4 word ≡ Some specs → IsAnalysisList word specs
read_list word specs said =
    let is = within-named 4 word specs said in
    record { items = is.items; joined = is.joined; named = is.named; some = is.some; few = is.few }

-- a list is read as it says
pub list_read : (word : Bytes) (specs : List Spec) → IsAnalysisList word specs → specs_within 4 word ≡ Some specs
list_read word specs is = rw is.joined (named-within 4 is.items specs is.named is.some is.few)

-- where nothing is read, the word says nothing
pub nothing_read : (word : Bytes) → is_some (specs_within 4 word) ≡ false → (specs : List Spec) → ¬ IsAnalysisList word specs
nothing_read word none specs is = let said = rw (list_read word specs is) at none in cc

-- a word of which analyses are read is a list of some
pub something_read : (word : Bytes) → is_some (specs_within 4 word) ≡ true → ¬ ((specs : List Spec) → ¬ IsAnalysisList word specs)
something_read word some none = go (specs_within 4 word) refl
  where
    go : (o : Option (List Spec)) → specs_within 4 word ≡ o → ⊥
    go None e = let bad = rw e at some in cc
    go (Some specs) e = none specs (read_list word specs e)

-- A word that says something begins with no hyphen

-- a word begins with a byte that is no hyphen
pub record Begins (word : Bytes) : Type 0 where
  pub byte : ℕ
  pub bytes : Bytes
  pub whole : word ≡ byte ∷ bytes
  pub no_hyphen : (byte == 45) ≡ false

-- a number
pub number-begins : (word : Bytes) (n : ℕ) → number_of word ≡ Some n → Begins word
number-begins [] n is = let none = number_of-empty [] refl in cc
number-begins (d ∷ ds) n is =
    let parts = both (is_digit d) (list_all is_digit ds) (number-digits (d ∷ ds) n is) in
    let least = (both (nat_le 48 d) (nat_le d 57) parts.0).0 in
    record { byte = d; bytes = ds; whole = refl; no_hyphen = grind (arith, nat_tests) }

-- a word that begins with a letter
prefix-begins : (n byte : ℕ) (prefix item : Bytes) → (byte == 45) ≡ false → bytes_eq (take (suc n) item) (byte ∷ prefix) ≡ true → Begins item
prefix-begins n byte prefix [] letter begins = cc
prefix-begins n byte prefix (x ∷ xs) letter begins =
    let front : x ∷ take n xs ≡ byte ∷ prefix = (bytes_eq-Decides (x ∷ take n xs) (byte ∷ prefix)).0 begins in
    let first : x ≡ byte = cc in
    record { byte = x; bytes = xs; whole = refl; no_hyphen = rw first letter }

-- an item
named-begins : (item : Bytes) (spec : Spec) → analysis_named item ≡ Some spec → Begins item
unfolding analysis_named
named-begins item spec is =
    go (bytes_eq item (codes "wcc")) refl (bytes_eq (take 4 item) (codes "bfs:")) refl (bytes_eq (take 5 item) (codes "sssp:")) refl
    (bytes_eq (take 5 item) (codes "sswp:")) refl
  where
    go : (w : Bool) → bytes_eq item (codes "wcc") ≡ w → (b : Bool) → bytes_eq (take 4 item) (codes "bfs:") ≡ b
        → (p : Bool) → bytes_eq (take 5 item) (codes "sssp:") ≡ p → (q : Bool) → bytes_eq (take 5 item) (codes "sswp:") ≡ q → Begins item
    go true w b e2 p e3 q e4 =
        record { byte = 119; bytes = 99 ∷ 99 ∷ []; whole = (bytes_eq-Decides item (codes "wcc")).0 w; no_hyphen = refl }
    go false w true b p e3 q e4 = prefix-begins 3 98 (codes "fs:") item refl b
    go false w false b true p q e4 = prefix-begins 4 115 (codes "ssp:") item refl p
    go false w false b false p true q = prefix-begins 4 115 (codes "swp:") item refl q
    go false w false b false p false q = let none = rw (w, b, p, q) at is in cc

-- a list
pub list-begins : (word : Bytes) → is_some (specs_within 4 word) ≡ true → Begins word
list-begins word some = go (cut_at 44 word) refl
  where
    first_item : (item : Bytes) (o : Option Spec) → analysis_named item ≡ o → is_some o ≡ true → Begins item
    first_item item None found is = cc
    first_item item (Some spec) found is = named-begins item spec found

    go : (cut : Option (Bytes × Bytes)) → cut_at 44 word ≡ cut → Begins word
    go None found = first_item word (analysis_named word) refl (sym (test-one 4 word (omega arith) found) ∙ some)
    go (Some p) found =
        let both_say = both (is_some (analysis_named p.0)) (is_some (specs_within (4 - 1) p.1)) (sym (test-more 4 word p.0 p.1 (omega arith) found) ∙ some) in
        let begin = first_item p.0 (analysis_named p.0) refl both_say.0 in
        let given = cut_at-gives 44 word p.0 p.1 found in
        record {
          byte = begin.byte;
          bytes = begin.bytes ++ 44 ∷ p.1;
          whole = given.0 ∙ ap (λ (t : Bytes). t ++ 44 ∷ p.1) begin.whole;
          no_hyphen = begin.no_hyphen;
        }
