use Rattle.std.proofs.Common.{◌≡◌, ◌∙◌, ap, arith, codes, drop, map, slice_get, Some, None, true, ℕ, List, Bor}
use Rattle.std.specs.Option.{option_and_then}
use Rattle.clap.specs.Words.{matches_of}
use Rattle.clap.specs.Walk.{Row}
use Rattle.ris_base.specs.Script.{Bytes}
use Rattle.ris_words.specs.Commands.{app_for}
use Rattle.ris_words.specs.Tokens.{accepts, none_seen, seed_said}
use Rattle.ris_words.specs.declared.options.Verb.TheVariants.{Demo}
use Rattle.ris_words.proofs.Reading.{DemoRead, demo-read}
use Rattle.ris_words.proofs.words.demo_of.Goals as goal

-- what is read of the words that were handed to clap
read : (words : List Bytes) (seed : ℕ) (texts slice : List (Bor Bytes)) (rows : List Row) → slice_get words 0 ≡ Some (codes "demo")
    → option_and_then seed_said (slice_get words 1) ≡ Some seed → accepts Demo none_seen None (drop 2 words) ≡ true
    → map (λ w. w.now) texts ≡ drop 2 words → slice ≡ texts → rows ≡ matches_of (app_for Demo) (map (λ w. w.now) slice) → DemoRead words seed rows
read words seed texts slice rows command seeded taken texts_are slice_is are =
    demo-read words seed rows command seeded taken (are ∙ ap (matches_of (app_for Demo)) (ap (map (λ w. w.now)) slice_is ∙ texts_are))

pub overflow_cast-result : goal.overflow_cast-result
overflow_cast-result c =
    let facts = read _ _ _ _ _ c.requires.command c.requires.seed c.requires.taken c.in_ok-texts.ensures c.as_slice.ensures.value c.in_ok-found.ensures in
    let bound = facts.size in
    let is = c.number_found.ensures in
    omega arith

pub overflow_cast-result-2 : goal.overflow_cast-result-2
overflow_cast-result-2 c =
    let facts = read _ _ _ _ _ c.requires.command c.requires.seed c.requires.taken c.in_ok-texts.ensures c.as_slice.ensures.value c.in_ok-found.ensures in
    let bound = facts.workers in
    let is = c.number_found-2.ensures in
    omega arith

pub returns : goal.returns
returns c =
    let facts = read _ _ _ _ _ c.requires.command c.requires.seed c.requires.taken c.in_ok-texts.ensures c.as_slice.ensures.value c.in_ok-found.ensures in
    rw (c.number_found.ensures, c.number_found-2.ensures) facts.plain
