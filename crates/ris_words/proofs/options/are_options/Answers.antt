use Rattle.std.proofs.Common.{◌∙◌, sym, arith}
use Rattle.ris_words.proofs.Accepting.{at-not, at-name, at-value, at-end_waiting, at-end_done}
use Rattle.ris_words.proofs.options.are_options.Goals as goal
use Rattle.ris_words.proofs.options.are_options.Goals.{in-None, in-Some-value+else-not-fits}

pub returns-in_default-token_behind : goal.returns-in_default-token_behind
returns-in_default-token_behind c =
    let none = rw c.as_bytes.ensures.value at c.in_default-token_behind.ensures in
    sym (at-not c.args.verb c.loop-k.seen c.loop-k.waiting c.args.words.now c.loop-k.k c.in-Some.word.now (sym c.in-Some.ensures) (sym none))
    ∙ c.loop-k.invariant

pub returns-then-not-fits : goal.returns-then-not-fits
returns-then-not-fits c =
    let said = rw (c.as_bytes.ensures.value, c.in-Some-value.is) at c.in-Some-token_behind.ensures in
    let step = at-value c.args.verb c.loop-k.seen c.loop-k.waiting c.args.words.now c.loop-k.k c.in-Some.word.now c.in-Some-token_behind.name
    c.in-Some-value.value.now (sym c.in-Some.ensures) (sym said) in
    sym (rw (← c.if-not-fits.ensures) at step) ∙ c.loop-k.invariant

pub loop-k-preserved : goal.loop-k-preserved
loop-k-preserved c =
    elim c.match-value.branch [
      | in-None w ↦
          let said = rw (c.as_bytes.ensures.value, w.in-None.is) at c.in-Some-token_behind.ensures in
          let step = at-name c.args.verb c.loop-k.seen c.loop-k.waiting c.args.words.now c.loop-k.k c.in-Some.word.now c.in-Some-token_behind.name
          (sym c.in-Some.ensures) (sym said) in
          rw (w.seen-is, w.waiting-is) (sym step ∙ c.loop-k.invariant)
      | in-Some-value+else-not-fits w ↦
          let said = rw (c.as_bytes.ensures.value, w.in-Some-value.is) at c.in-Some-token_behind.ensures in
          let step = at-value c.args.verb c.loop-k.seen c.loop-k.waiting c.args.words.now c.loop-k.k c.in-Some.word.now c.in-Some-token_behind.name
          w.in-Some-value.value.now (sym c.in-Some.ensures) (sym said) in
          rw (w.seen-is, w.waiting-is, w.with-seen.ensures) (sym (rw (← w.if-not-fits.ensures) at step) ∙ c.loop-k.invariant)
    ]

pub returns-then-is_none : goal.returns-then-is_none
returns-then-is_none c =
    let end = at-end_done c.args.verb c.loop-k.seen c.loop-k.waiting c.args.words.now c.loop-k.k (omega arith) c.if-is_none.ensures in
    c.is_complete.ensures ∙ sym end ∙ c.loop-k.invariant

pub returns-else-is_none : goal.returns-else-is_none
returns-else-is_none c =
    let end = at-end_waiting c.args.verb c.loop-k.seen c.loop-k.waiting c.args.words.now c.loop-k.k (omega arith) c.if-is_none.ensures in
    c.if-is_none.false ∙ sym end ∙ c.loop-k.invariant
