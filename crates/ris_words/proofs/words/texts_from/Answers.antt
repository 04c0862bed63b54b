use Rattle.std.proofs.Common.{◌≡◌, ◌∙◌, ◌<◌, ◌++◌, ◌∷◌, [], sym, arith, drop, map, slice_get, length, append-nil, append_assoc, Some, None, ◌+◌, ℕ, zero, suc, List, Bor}
use Rattle.std.proofs.lemmas.List.{drop_all, map-append}
use Rattle.ris_base.specs.Script.{Bytes}
use Rattle.ris_words.proofs.Accepting.{drop-at}
use Rattle.ris_words.proofs.words.texts_from.Goals as goal
use Rattle.ris_words.proofs.words.texts_from.Goals.{in-Some+in_ok-push, in_default}

-- one word more
text-more : (words all : List Bytes) (k : ℕ) (text : Bor Bytes) (old new : List (Bor Bytes)) → new ≡ old ++ text ∷ [] → slice_get words k ≡ Some text.now
    → map (λ w. w.now) old ++ drop k words ≡ all → map (λ w. w.now) new ++ drop (k + 1) words ≡ all
text-more words all k text old new items here before =
    rw (items, map-append (λ (w : Bor Bytes). w.now) old (text ∷ []), append_assoc (map (λ (w : Bor Bytes). w.now) old) (text.now ∷ []) (drop (k + 1) words))
    (rw (drop-at words k text.now here) at before)

no-word : (words : List Bytes) (k : ℕ) → k < length words → slice_get words k ≡ None → ⊥
no-word [] k within none = omega arith
no-word (word ∷ words) zero within none = cc
no-word (word ∷ words) (suc k) within none = no-word words k (omega arith) none

pub loop-k-preserved : goal.loop-k-preserved
loop-k-preserved c =
    elim c.match-get.branch [
      | in-Some+in_ok-push w ↦
          rw w.texts-is (text-more c.args.words.now _ c.loop-k.k w.in-Some.word _ _ w.in_ok-push.ensures.items (sym w.in-Some.ensures) c.loop-k.invariant)
      | in_default w ↦
          let within : c.loop-k.k < length c.args.words.now = omega arith in
          absurd (no-word c.args.words.now c.loop-k.k within (sym w.in_default.ensures))
    ]

pub returns : goal.returns
returns c =
    let past = drop_all c.loop-k.k c.args.words.now (omega arith) in
    sym (append-nil _) ∙ (rw past at c.loop-k.invariant)
