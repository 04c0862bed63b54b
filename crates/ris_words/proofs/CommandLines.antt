-- Words are of the form of a command line exactly where they are taken, and then they say one job.
use Rattle.std.proofs.Common.{◌≡◌, ◌<◌, ◌^◌, ℕ, Bool, true, false, List, [], ◌∷◌, map, Option, Some, None, refl, sym, ap, ◌∙◌, codes, arith}
use Rattle.std.specs.List.{AllByRecursion, list_all}
use Rattle.std.proofs.lemmas.Bool.Decides.{nat_tests}
use Rattle.ris_base.specs.CommandLine.{Choice, IsDemo, IsPlain, IsReplay, SpellAll, AreOnce, analyses_said, size_said, threads_said, workers_said}
use Rattle.ris_base.specs.CommandLine.Choice.{Threads, Workers, Size, Analyses}
use Rattle.ris_base.specs.Lists.{EachPair}
use Rattle.ris_base.specs.Number.{number_of}
use Rattle.ris_base.specs.Script.{Bytes}
use Rattle.ris_base.specs.declared.analyses.Spec.{Spec}
use Rattle.ris_base.specs.declared.jobs.Job.{Job}
use Rattle.ris_base.specs.declared.jobs.Job.TheVariants as job
use Rattle.ris_words.specs.Tokens.{Told, accepts, has, none_seen, tell}
use Rattle.ris_words.specs.declared.options.Name.TheVariants as option
use Rattle.ris_words.specs.declared.options.Verb.{Verb}
use Rattle.ris_words.specs.declared.options.Verb.TheVariants.{Replay, Demo}
use Rattle.ris_words.proofs.Fitting.{AreFit, fit, fit-of, is_full, is_own, once-pairs, pairs-once}
use Rattle.ris_words.proofs.ItemLemmas.{list_read}
use Rattle.ris_words.proofs.Telling.{Passes, Tells, choice_of, spells-tell, tell-spells}

-- What is told for options

-- an option that is told is the one that its value says, and its value is right
tells-choice : (t : Told) (said : Choice) → Tells t said → choice_of t ≡ said
tells-choice (option.Threads, value) Threads is = refl
tells-choice (option.Workers, value) (Workers n) is = rw is.0 refl
tells-choice (option.Size, value) (Size n) is = rw is.0 refl
tells-choice (option.Analyses, value) (Analyses specs) is = rw (list_read value specs is) refl
tells-choice (option.Threads, value) (Workers n) is = absurd is
tells-choice (option.Threads, value) (Size n) is = absurd is
tells-choice (option.Threads, value) (Analyses specs) is = absurd is
tells-choice (option.Workers, value) Threads is = absurd is
tells-choice (option.Workers, value) (Size n) is = absurd is
tells-choice (option.Workers, value) (Analyses specs) is = absurd is
tells-choice (option.Size, value) Threads is = absurd is
tells-choice (option.Size, value) (Workers n) is = absurd is
tells-choice (option.Size, value) (Analyses specs) is = absurd is
tells-choice (option.Analyses, value) Threads is = absurd is
tells-choice (option.Analyses, value) (Workers n) is = absurd is
tells-choice (option.Analyses, value) (Size n) is = absurd is

-- what is told of a choice may be told
tells-pass : (t : Told) (said : Choice) → Tells t said → Passes t
tells-pass (option.Threads, value) said is = refl
tells-pass (option.Workers, value) (Workers n) is = let some = is.1 in let most = is.2 in rw is.0 (grind (arith, nat_tests))
tells-pass (option.Size, value) (Size n) is = let some = is.1 in let most = is.2 in rw is.0 (grind (arith, nat_tests))
tells-pass (option.Analyses, value) (Analyses specs) is = rw (list_read value specs is) refl
tells-pass (option.Workers, value) Threads is = absurd is
tells-pass (option.Workers, value) (Size n) is = absurd is
tells-pass (option.Workers, value) (Analyses specs) is = absurd is
tells-pass (option.Size, value) Threads is = absurd is
tells-pass (option.Size, value) (Workers n) is = absurd is
tells-pass (option.Size, value) (Analyses specs) is = absurd is
tells-pass (option.Analyses, value) Threads is = absurd is
tells-pass (option.Analyses, value) (Workers n) is = absurd is
tells-pass (option.Analyses, value) (Size n) is = absurd is

-- the same of each
pub tells-choices : (ts : List Told) (choices : List Choice) → EachPair Tells ts choices → map choice_of ts ≡ choices
tells-choices [] [] tells = refl
tells-choices [] (said ∷ choices) tells = absurd tells
tells-choices (t ∷ ts) [] tells = absurd tells
tells-choices (t ∷ ts) (said ∷ choices) tells = rw (tells-choice t said tells.0, tells-choices ts choices tells.1) refl

-- and each may be told
tells-passes : (ts : List Told) (choices : List Choice) → EachPair Tells ts choices → AllByRecursion Passes ts
tells-passes [] choices tells = tt
tells-passes (t ∷ ts) [] tells = absurd tells
tells-passes (t ∷ ts) (said ∷ choices) tells = (tells-pass t said tells.0, tells-passes ts choices tells.1)

-- before the first option none was told
none-told : (ts : List Told) → AllByRecursion (λ (t : Told). has t.0 none_seen ≡ false) ts
none-told [] = tt
none-told ((option.Threads, value) ∷ ts) = (refl, none-told ts)
none-told ((option.Workers, value) ∷ ts) = (refl, none-told ts)
none-told ((option.Size, value) ∷ ts) = (refl, none-told ts)
none-told ((option.Analyses, value) ∷ ts) = (refl, none-told ts)

-- Options of a command

-- what words tell that are options of a command
pub record AreOptions (verb : Verb) (words : List Bytes) : Type 0 where
  pub ts : List Told
  pub said : tell words None ≡ Some ts
  pub are : AreFit verb none_seen ts

-- words that are taken tell options of the command
pub accepted : (verb : Verb) (words : List Bytes) → accepts verb none_seen None words ≡ true → AreOptions verb words
accepted verb words is = go (tell words None) refl
  where
    go : (o : Option (List Told)) → tell words None ≡ o → AreOptions verb words
    go None found = let bad = rw found at is in cc
    go (Some ts) found = record { ts = ts; said = found; are = fit verb none_seen ts (rw found at is) }

-- words that spell options of a command, each once and with none missing
pub spelled-options : (verb : Verb) (words : List Bytes) (choices : List Choice) → SpellAll choices words → AreOnce choices
    → list_all (is_own verb) choices ≡ true → is_full verb none_seen choices ≡ true
    → (given : AreOptions verb words) × (map choice_of given.ts ≡ choices)
spelled-options verb words choices spelled once own full =
    let told = spells-tell choices words spelled in
    let same = tells-choices told.ts choices told.tells in (
      record {
        ts = told.ts;
        said = told.said;
        are = record {
          pass = tells-passes told.ts choices told.tells;
          own = rw same own;
          once = rw same (pairs-once choices once);
          fresh = none-told told.ts;
          full = rw same full;
        };
      },
      same,
    )

-- words that tell options of the command are taken
pub options-accepted : (verb : Verb) (words : List Bytes) → AreOptions verb words → accepts verb none_seen None words ≡ true
options-accepted verb words given = rw given.said (fit-of verb none_seen given.ts given.are)

-- The job that words say

-- `replay` with options that are taken
pub replay-plain : (words rest : List Bytes) (given : AreOptions Replay rest) (specs : List Spec) → words ≡ codes "replay" ∷ rest
    → analyses_said (map choice_of given.ts) ≡ Some specs
    → IsReplay words (threads_said (map choice_of given.ts)) (workers_said (map choice_of given.ts)) specs
replay-plain words rest given specs command said =
    record {
      rest = rest;
      choices = map choice_of given.ts;
      command = command;
      spelled = tell-spells rest None given.ts given.said given.are.pass tt;
      once = once-pairs (map choice_of given.ts) given.are.once;
      own = given.are.own;
      threads_are = refl;
      workers_are = refl;
      specs_are = said;
    }

-- `demo` with a seed and options that are taken
pub demo-plain : (words rest : List Bytes) (word : Bytes) (seed : ℕ) (given : AreOptions Demo rest) → words ≡ codes "demo" ∷ word ∷ rest
    → number_of word ≡ Some seed → seed < 2 ^ 32 → IsDemo words seed (size_said (map choice_of given.ts)) (workers_said (map choice_of given.ts))
demo-plain words rest word seed given command number small =
    record {
      word = word;
      rest = rest;
      choices = map choice_of given.ts;
      command = command;
      number = number;
      seed_small = small;
      spelled = tell-spells rest None given.ts given.said given.are.pass tt;
      once = once-pairs (map choice_of given.ts) given.are.once;
      own = given.are.own;
      size_is = refl;
      workers_are = refl;
    }

-- options that say their analyses miss nothing
said-full : (choices : List Choice) (specs : List Spec) → analyses_said choices ≡ Some specs → is_full Replay none_seen choices ≡ true
said-full choices specs said = rw said refl

-- the words of a right `replay` tell its options
pub replay-options : (words : List Bytes) (threads : Bool) (workers : ℕ) (specs : List Spec) (is : IsReplay words threads workers specs)
    → (given : AreOptions Replay is.rest) × (map choice_of given.ts ≡ is.choices)
replay-options words threads workers specs is = spelled-options Replay is.rest is.choices is.spelled is.once is.own (said-full is.choices specs is.specs_are)

-- the words of a right `demo` tell its options
pub demo-options : (words : List Bytes) (seed size workers : ℕ) (is : IsDemo words seed size workers)
    → (given : AreOptions Demo is.rest) × (map choice_of given.ts ≡ is.choices)
demo-options words seed size workers is = spelled-options Demo is.rest is.choices is.spelled is.once is.own refl

-- the same words say the same options
same-choices : (verb : Verb) (words words2 : List Bytes) (choices choices2 : List Choice) → words ≡ words2
    → (given : AreOptions verb words) × (map choice_of given.ts ≡ choices) → (given : AreOptions verb words2) × (map choice_of given.ts ≡ choices2)
    → choices ≡ choices2
same-choices verb words words2 choices choices2 same one other =
    let both_tell : Some one.0.ts ≡ Some other.0.ts = sym one.0.said ∙ ap (λ (ws : List Bytes). tell ws None) same ∙ other.0.said in
    let same_ts : one.0.ts ≡ other.0.ts = cc in
    sym one.1 ∙ ap (map choice_of) same_ts ∙ other.1

-- Words say at most one job.
pub one_job : (words : List Bytes) (one other : Job) → IsPlain words one → IsPlain words other → one ≡ other
one_job words (job.Replay threads workers specs) (job.Replay threads2 workers2 specs2) is is2 =
    let commands : codes "replay" ∷ is.rest ≡ codes "replay" ∷ is2.rest = sym is.command ∙ is2.command in
    let rests : is.rest ≡ is2.rest = cc in
    let choices = same-choices Replay is.rest is2.rest is.choices is2.choices rests
    (replay-options words threads workers specs is) (replay-options words threads2 workers2 specs2 is2) in
    let found : Some specs ≡ Some specs2 = sym is.specs_are ∙ ap analyses_said choices ∙ is2.specs_are in
    let same_specs : specs ≡ specs2 = cc in
    rw (is.threads_are, is.workers_are, choices, is2.threads_are, is2.workers_are, same_specs) refl
one_job words (job.Demo seed size workers) (job.Demo seed2 size2 workers2) is is2 =
    let commands : codes "demo" ∷ is.word ∷ is.rest ≡ codes "demo" ∷ is2.word ∷ is2.rest = sym is.command ∙ is2.command in
    let rests : is.rest ≡ is2.rest = cc in
    let seeds : is.word ≡ is2.word = cc in
    let numbers : Some seed ≡ Some seed2 = sym is.number ∙ ap number_of seeds ∙ is2.number in
    let same_seed : seed ≡ seed2 = cc in
    let choices = same-choices Demo is.rest is2.rest is.choices is2.choices rests
    (demo-options words seed size workers is) (demo-options words seed2 size2 workers2 is2) in
    rw (same_seed, is.size_is, is.workers_are, choices, is2.size_is, is2.workers_are) refl
one_job words (job.Replay threads workers specs) (job.Demo seed size workers2) is is2 =
    let commands : codes "replay" ∷ is.rest ≡ codes "demo" ∷ is2.word ∷ is2.rest = sym is.command ∙ is2.command in
    cc
one_job words (job.Demo seed size workers) (job.Replay threads workers2 specs) is is2 =
    let commands : codes "demo" ∷ is.word ∷ is.rest ≡ codes "replay" ∷ is2.rest = sym is.command ∙ is2.command in
    cc
