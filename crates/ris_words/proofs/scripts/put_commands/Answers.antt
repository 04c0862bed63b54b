use Rattle.std.proofs.Common.{◌∙◌, ◌-◌, ◌+◌, ◌++◌, ap, decimal, arith}
use Rattle.ris_words.proofs.MadeLemmas.{commands-step, commands-end}
use Rattle.ris_words.proofs.scripts.put_commands.Goals as goal

pub loop-i-preserved : goal.loop-i-preserved
loop-i-preserved c =
    commands-step c.args.base.now c.loop-i.i (c.args.size - c.loop-i.i) (c.args.size - (c.loop-i.i + 1)) c.loop-i.random c.put_command.new.random c.loop-i.text.items
    c.put_number.new.text.items c.put_command.new.text.items _ (omega arith) (c.in_ok-put_number.ensures ∙ ap (λ s. c.loop-i.text.items ++ decimal s) c.from.ensures)
    (c.in_ok-put_command.ensures.text, c.in_ok-put_command.ensures.rest) c.loop-i.invariant

pub returns : goal.returns
returns c = commands-end c.args.base.now c.loop-i.i _ c.loop-i.random _ _ (omega arith) c.loop-i.invariant
