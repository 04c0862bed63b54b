-- The job that words say is the one that is read, and words that aren't taken say none.
use Rattle.std.proofs.Common.{◌≡◌, ◌<◌, ◌≤◌, ◌^◌, ℕ, Bool, true, false, nat_lt, if◌then◌else◌, List, [], ◌∷◌, drop, map, slice_get, Option, Some, None, is_some, refl, sym, subst, ap, ◌∙◌, codes, arith}
use Rattle.std.specs.List.{AllByRecursion}
use Rattle.std.specs.Option.{option_and_then}
use Rattle.std.proofs.lemmas.Bool.Decides.{nat_tests}
use Rattle.clap.specs.Simple.{matches_of}
use Rattle.clap.specs.Walk.{Row, first_of, one_of}
use Rattle.ris_base.specs.CommandLine.{IsDemo, IsPlain, IsReplay, threads_said}
use Rattle.ris_base.specs.Number.{number_of}
use Rattle.ris_base.specs.Script.{Bytes, below}
use Rattle.ris_base.specs.declared.analyses.Spec.{Spec}
use Rattle.ris_base.specs.declared.jobs.Job.{Job}
use Rattle.ris_base.specs.declared.jobs.Job.TheVariants as job
use Rattle.ris_words.specs.Commands.{analyses_found, app_for, number_found}
use Rattle.ris_words.specs.Items.{specs_within}
use Rattle.ris_words.specs.Tokens.{Told, accepts, none_seen, seed_said}
use Rattle.ris_words.specs.declared.options.Name.TheVariants as option
use Rattle.ris_words.specs.declared.options.Verb.{Verb}
use Rattle.ris_words.specs.declared.options.Verb.TheVariants.{Replay, Demo}
use Rattle.ris_words.proofs.CommandLines.{AreOptions, accepted, demo-options, demo-plain, options-accepted, replay-options, replay-plain}
use Rattle.ris_words.proofs.Finding.{IsListed, analyses-told, first-told, flag_text, rows-found, size-told, threads-told, with_defaults, workers-told}
use Rattle.ris_words.proofs.Telling.{Passes, choice_of, count-of}
use Rattle.ris_words.proofs.Walking.{row_for}

-- Numbers stay within their bounds

-- there are at most 64 workers
workers-bound : (ts : List Told) → AllByRecursion Passes ts → number_found (codes "workers") 1 (map row_for ts) ≤ 64
workers-bound [] pass = omega arith
workers-bound ((option.Threads, value) ∷ ts) pass = workers-bound ts pass.1
workers-bound ((option.Workers, value) ∷ ts) pass = let count = count-of 64 value pass.0 in rw count.0 count.2
workers-bound ((option.Size, value) ∷ ts) pass = workers-bound ts pass.1
workers-bound ((option.Analyses, value) ∷ ts) pass = workers-bound ts pass.1

-- the size is at most 1,000,000
size-bound : (ts : List Told) → AllByRecursion Passes ts → number_found (codes "size") 2000 (map row_for ts) ≤ 1000000
size-bound [] pass = omega arith
size-bound ((option.Threads, value) ∷ ts) pass = size-bound ts pass.1
size-bound ((option.Workers, value) ∷ ts) pass = size-bound ts pass.1
size-bound ((option.Size, value) ∷ ts) pass = let count = count-of 1000000 value pass.0 in rw count.0 count.2
size-bound ((option.Analyses, value) ∷ ts) pass = size-bound ts pass.1

-- a number that is found with the defaults of a command
found-number : (verb : Verb) (rows : List Row) (ts : List Told) (id : Bytes) (default : ℕ) → rows ≡ with_defaults verb (map row_for ts)
    → first_of id (with_defaults verb (map row_for ts)) ≡ first_of id (map row_for ts) → number_found id default rows ≡ number_found id default (map row_for ts)
found-number verb rows ts id default are same = rw (are, same) refl

-- The words of a command

-- words begin with their first word
first-word : (words : List Bytes) (word : Bytes) → slice_get words 0 ≡ Some word → words ≡ word ∷ drop 1 words
first-word [] word is = cc
first-word (w ∷ words) word is = let same : w ≡ word = cc in rw same refl

-- and go on with their second
second-word : (words : List Bytes) (word second : Bytes) → slice_get words 0 ≡ Some word → slice_get words 1 ≡ Some second → words ≡ word ∷ second ∷ drop 2 words
second-word [] word second is next = cc
second-word (w ∷ []) word second is next = cc
second-word (w ∷ v ∷ words) word second is next =
    let same : w ≡ word = cc in
    let same2 : v ≡ second = cc in
    rw (same, same2) refl

-- `replay`

-- what is read of the words of `replay`
pub record ReplayRead (words : List Bytes) (rows : List Row) : Type 0 where
  pub threads : Bool
  pub flag : one_of (codes "threads") rows ≡ Some (flag_text threads)
  pub bound : number_found (codes "workers") 1 rows ≤ 64
  pub listed : is_some (analyses_found rows) ≡ true
  pub plain : (specs : List Spec) → analyses_found rows ≡ Some specs → IsReplay words threads (number_found (codes "workers") 1 rows) specs

-- what is read of words of `replay` that are taken is what they say
pub replay-read : (words : List Bytes) (rows : List Row) → slice_get words 0 ≡ Some (codes "replay") → accepts Replay none_seen None (drop 1 words) ≡ true
    → rows ≡ matches_of (app_for Replay) (drop 1 words) → ReplayRead words rows
replay-read words rows command taken are =
    record {
      threads = threads_said (map choice_of ts);
      flag = rw rows_are (threads-told ts);
      bound = rw workers (workers-bound ts given.are.pass);
      listed = rw (lists, listed.read) refl;
      plain = λ specs found.
          let same : Some listed.specs ≡ Some specs = sym listed.read ∙ sym lists ∙ found in
          let same_specs : listed.specs ≡ specs = cc in
          subst (λ (n : ℕ). IsReplay words (threads_said (map choice_of ts)) n specs) (workers-told ts given.are.pass ∙ sym workers)
          (replay-plain words (drop 1 words) given specs (first-word words (codes "replay") command) (listed.said ∙ ap (λ (s : List Spec). Some s) same_specs));
    }
  where
    given : AreOptions Replay (drop 1 words)
    given = accepted Replay (drop 1 words) taken

    ts : List Told
    ts = given.ts

    rows_are : rows ≡ with_defaults Replay (map row_for ts)
    rows_are = are ∙ rows-found Replay (drop 1 words) given

    listed : IsListed ts
    listed = analyses-told ts given.are.pass given.are.full

    workers : number_found (codes "workers") 1 rows ≡ number_found (codes "workers") 1 (map row_for ts)
    workers = found-number Replay rows ts (codes "workers") 1 rows_are (first-told Replay option.Workers (map row_for ts) refl)

    lists : analyses_found rows ≡ specs_within 4 listed.list
    lists = rw (rows_are, first-told Replay option.Analyses (map row_for ts) refl, listed.found) refl

-- words of `replay` that aren't taken say no job
pub replay-refused : (words : List Bytes) → slice_get words 0 ≡ Some (codes "replay") → accepts Replay none_seen None (drop 1 words) ≡ false
    → (said : Job) → ¬ IsPlain words said
replay-refused words command refused (job.Replay threads workers specs) is =
    let rest : drop 1 words ≡ is.rest = ap (drop 1) is.command in
    let taken = options-accepted Replay is.rest (replay-options words threads workers specs is).0 in
    let here : accepts Replay none_seen None (drop 1 words) ≡ true = rw rest taken in
    let bad = sym refused ∙ here in
    cc
replay-refused words command refused (job.Demo seed size workers) is =
    let first : Some (codes "replay") ≡ Some (codes "demo") = sym command ∙ ap (λ (ws : List Bytes). slice_get ws 0) is.command in
    cc

-- and those that are taken say one
pub replay-taken : (words : List Bytes) → slice_get words 0 ≡ Some (codes "replay") → accepts Replay none_seen None (drop 1 words) ≡ true
    → ¬ ((said : Job) → ¬ IsPlain words said)
replay-taken words command taken none =
    let given = accepted Replay (drop 1 words) taken in
    let listed = analyses-told given.ts given.are.pass given.are.full in
    none (job.Replay _ _ _) (replay-plain words (drop 1 words) given listed.specs (first-word words (codes "replay") command) listed.said)

-- `demo`

-- what is read of the words of `demo`
pub record DemoRead (words : List Bytes) (seed : ℕ) (rows : List Row) : Type 0 where
  pub workers : number_found (codes "workers") 1 rows ≤ 64
  pub size : number_found (codes "size") 2000 rows ≤ 1000000
  pub plain : IsDemo words seed (number_found (codes "size") 2000 rows) (number_found (codes "workers") 1 rows)

-- a seed is a number below 2^32
seed-of : (word : Bytes) (seed : ℕ) → seed_said word ≡ Some seed → (number_of word ≡ Some seed) × (seed < 2 ^ 32)
seed-of word seed is = go (number_of word) is
  where
    small : (n : ℕ) (b : Bool) → nat_lt n (2 ^ 32) ≡ b → (if nat_lt n (2 ^ 32) then Some n else None) ≡ Some seed → (Some n ≡ Some seed) × (seed < 2 ^ 32)
    small n true less is =
        let same : Some n ≡ Some seed = rw less at is in
        let equal : n ≡ seed = cc in
        (same, rw (← equal) (grind (arith, nat_tests)))
    small n false less is = let none = rw less at is in cc

    go : (o : Option ℕ) → option_and_then (below (2 ^ 32)) o ≡ Some seed → (o ≡ Some seed) × (seed < 2 ^ 32)
    go None is = cc
    go (Some n) is = small n (nat_lt n (2 ^ 32)) refl is

-- the second word, where it spells a seed
seeded-word : (words : List Bytes) (seed : ℕ) → option_and_then seed_said (slice_get words 1) ≡ Some seed
    → (word : Bytes) × (slice_get words 1 ≡ Some word) × (number_of word ≡ Some seed) × (seed < 2 ^ 32)
seeded-word words seed is = go (slice_get words 1) refl
  where
    go : (o : Option Bytes) → slice_get words 1 ≡ o → (word : Bytes) × (slice_get words 1 ≡ Some word) × (number_of word ≡ Some seed) × (seed < 2 ^ 32)
    go None found = let none = rw found at is in cc
    go (Some word) found = let said = seed-of word seed (rw found at is) in (word, found, said.0, said.1)

-- what is read of words of `demo` that are taken is what they say
pub demo-read : (words : List Bytes) (seed : ℕ) (rows : List Row) → slice_get words 0 ≡ Some (codes "demo") → option_and_then seed_said (slice_get words 1) ≡ Some seed
    → accepts Demo none_seen None (drop 2 words) ≡ true → rows ≡ matches_of (app_for Demo) (drop 2 words) → DemoRead words seed rows
demo-read words seed rows command seeded taken are =
    record {
      workers = rw workers (workers-bound ts given.are.pass);
      size = rw size (size-bound ts given.are.pass);
      plain = rw (workers, size, ← workers-told ts given.are.pass, ← size-told ts given.are.pass)
          (let word = seeded-word words seed seeded in
          demo-plain words (drop 2 words) word.0 seed given (second-word words (codes "demo") word.0 command word.1) word.2 word.3);
    }
  where
    given : AreOptions Demo (drop 2 words)
    given = accepted Demo (drop 2 words) taken

    ts : List Told
    ts = given.ts

    rows_are : rows ≡ with_defaults Demo (map row_for ts)
    rows_are = are ∙ rows-found Demo (drop 2 words) given

    workers : number_found (codes "workers") 1 rows ≡ number_found (codes "workers") 1 (map row_for ts)
    workers = found-number Demo rows ts (codes "workers") 1 rows_are (first-told Demo option.Workers (map row_for ts) refl)

    size : number_found (codes "size") 2000 rows ≡ number_found (codes "size") 2000 (map row_for ts)
    size = found-number Demo rows ts (codes "size") 2000 rows_are (first-told Demo option.Size (map row_for ts) refl)

-- words of `demo` that aren't taken say no job
pub demo-refused : (words : List Bytes) → slice_get words 0 ≡ Some (codes "demo") → accepts Demo none_seen None (drop 2 words) ≡ false
    → (said : Job) → ¬ IsPlain words said
demo-refused words command refused (job.Demo seed size workers) is =
    let rest : drop 2 words ≡ is.rest = ap (drop 2) is.command in
    let taken = options-accepted Demo is.rest (demo-options words seed size workers is).0 in
    let here : accepts Demo none_seen None (drop 2 words) ≡ true = rw rest taken in
    let bad = sym refused ∙ here in
    cc
demo-refused words command refused (job.Replay threads workers specs) is =
    let first : Some (codes "demo") ≡ Some (codes "replay") = sym command ∙ ap (λ (ws : List Bytes). slice_get ws 0) is.command in
    cc

-- and those that are taken say one
pub demo-taken : (words : List Bytes) (seed : ℕ) → slice_get words 0 ≡ Some (codes "demo") → option_and_then seed_said (slice_get words 1) ≡ Some seed
    → accepts Demo none_seen None (drop 2 words) ≡ true → ¬ ((said : Job) → ¬ IsPlain words said)
demo-taken words seed command seeded taken none =
    let given = accepted Demo (drop 2 words) taken in
    let word = seeded-word words seed seeded in
    none (job.Demo seed _ _) (demo-plain words (drop 2 words) word.0 seed given (second-word words (codes "demo") word.0 command word.1) word.2 word.3)
