use Rattle.std.proofs.Common.{◌≡◌, ◌-◌, ◌++◌}
use Rattle.ris_base.specs.Transcript.{text_of}
use Rattle.ris_words.specs.Made.{draw_commands}
use Rattle.ris_words.proofs.scripts.put_commands.Given as goal

-- the text so far, with the commands that are still to be drawn
abbrev pub invariant-loop-i : goal.invariant-loop-i
invariant-loop-i l =
    l.text.items ++ text_of (draw_commands l.base l.i (l.size - l.i) l.random)
    ≡ l.initial.text.items ++ text_of (draw_commands l.base 0 l.size l.initial.random)
