use Rattle.std.proofs.Common.{◌≡◌, ◌∙◌, ap, arith, codes, drop, map, slice_get, Option, Some, None, true, false, Bool, List, Bor}
use Rattle.clap.specs.Words.{found_of, matches_of}
use Rattle.clap.specs.Walk.{Row}
use Rattle.clap.proofs.WalkLemmas.{one_text-rows}
use Rattle.ris_base.specs.Script.{Bytes}
use Rattle.ris_words.specs.Commands.{app_for}
use Rattle.ris_words.specs.Tokens.{accepts, none_seen}
use Rattle.ris_words.specs.declared.options.Verb.TheVariants.{Replay}
use Rattle.ris_words.proofs.Finding.{flag_text}
use Rattle.ris_words.proofs.Reading.{ReplayRead, replay-read}
use Rattle.ris_words.proofs.words.replay_of.Goals as goal

-- what is read of the words that were handed to clap
read : (words : List Bytes) (texts slice : List (Bor Bytes)) (rows : List Row) → slice_get words 0 ≡ Some (codes "replay")
    → accepts Replay none_seen None (drop 1 words) ≡ true → map (λ w. w.now) texts ≡ drop 1 words → slice ≡ texts
    → rows ≡ matches_of (app_for Replay) (map (λ w. w.now) slice) → ReplayRead words rows
read words texts slice rows command taken texts_are slice_is are =
    replay-read words rows command taken (are ∙ ap (matches_of (app_for Replay)) (ap (map (λ w. w.now)) slice_is ∙ texts_are))

-- a flag is read as its text says
flag-read : (o : Option Bytes) (threads flag : Bool) → o ≡ Some (flag_text threads) → (o ≡ Some (codes "true") → flag ≡ true)
    → (o ≡ Some (codes "false") → flag ≡ false) → flag ≡ threads
flag-read o true flag is if_true if_false = if_true is
flag-read o false flag is if_true if_false = if_false is

pub analyses_found-requires : goal.analyses_found-requires
analyses_found-requires c =
    (read _ _ _ _ c.requires.command c.requires.taken c.in_ok-texts.ensures c.as_slice.ensures.value c.in_ok-found.ensures).listed

pub overflow_cast-result : goal.overflow_cast-result
overflow_cast-result c =
    let facts = read _ _ _ _ c.requires.command c.requires.taken c.in_ok-texts.ensures c.as_slice.ensures.value c.in_ok-found.ensures in
    let bound = facts.bound in
    let is = c.number_found.ensures in
    omega arith

pub returns : goal.returns
returns c =
    let facts = read _ _ _ _ c.requires.command c.requires.taken c.in_ok-texts.ensures c.as_slice.ensures.value c.in_ok-found.ensures in
    let flag = flag-read _ facts.threads c.get_flag.result (one_text-rows (found_of c.in_ok-found.found) (codes "threads") ∙ facts.flag)
    c.get_flag.ensures.value c.get_flag.ensures.other in
    rw (flag, c.number_found.ensures) (facts.plain c.in_ok-specs.specs c.in_ok-specs.ensures)
